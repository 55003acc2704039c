-- `paint`: the layers a .. e of ranges that tile take one state; and what the start's ranges of a mip learn where the end's are UNKNOWN.
use Rattle.std.specs.Prelude.{◌-◌, ◌+◌, ◌≤◌, ◌<◌, ◌≡◌, ◌∷◌, ◌++◌, if◌then◌else◌}
use Rattle.model.specs.Prelude.{ℕ, zero, suc, arith, refl, sym, ap, ◌∙◌, true, false, List, [], map}
use Rattle.model.specs.Prelude.{append_assoc, eqb, replicate, replicate-append-replicate, length, take, drop, length-replicate}
use Rattle.model.specs.Prelude.{length-append, take-append-drop, length-take, length-drop, take_at, drop_at}
use Rattle.model.specs.{declared.Range.Range, RangedStates.{coalesce, isolate, in_state, paint, layer_states, Tiles}}
use Rattle.model.specs.RangeLaws.{isolate_cuts, coalesce_same, tiles_le, states_append, tiles_append, tiles_length}
use Rattle.model.specs.{Base.{zip₂}, Texture.learn, BoolLaws.by_test, ListLaws.zip_append}

-- one list cut at one place in two ways
pub split_left : (x y x' y' : List ℕ) → length x ≡ length x' → x ++ y ≡ x' ++ y' → x ≡ x'
split_left x y x' y' h e = sym (take_at x y (length x) refl) ∙ ap (take (length x)) e ∙ take_at x' y' (length x) (sym h)

pub split_right : (x y x' y' : List ℕ) → length x ≡ length x' → x ++ y ≡ x' ++ y' → y ≡ y'
split_right x y x' y' h e = sym (drop_at x y (length x) refl) ∙ ap (drop (length x)) e ∙ drop_at x' y' (length x) (sym h)

in_state_lem : (st : ℕ) (s : List Range) (a e : ℕ) → Tiles a s e
    → Tiles a (map (in_state st) s) e × (layer_states (map (in_state st) s) ≡ replicate (e - a) st)
unfolding layer_states
in_state_lem st [] a e t = (t, let z : e - a ≡ 0 = omega arith in rw z)
in_state_lem st (r ∷ s) a e t =
    let ih = in_state_lem st s r.end e t.2 in let le = tiles_le s r.end e t.2 in
    let n : e - a ≡ (r.end - r.start) + (e - r.end) = omega arith in
    ((t.0, t.1, ih.0), rw (ih.1, n, replicate-append-replicate))

pub paint_states : (u a e st w : ℕ) (s : List Range) (x y z : List ℕ) → a < e → e ≤ w → Tiles 0 s w
    → length x ≡ a → length y ≡ e - a → layer_states s ≡ x ++ (y ++ z)
    → Tiles 0 (paint u a e st s) w × (layer_states (paint u a e st s) ≡ x ++ (replicate (e - a) st ++ z))
unfolding paint
paint_states u a e st w s x y z h g t hx hy q =
    let c = isolate a e u s in let cuts = isolate_cuts s 0 a e u w (omega arith) h g t in let m = in_state_lem st c.run a e cuts.run in
    let lb : length (layer_states c.before) ≡ length x = omega (arith, tiles_length c.before 0 a cuts.before) in
    let lr : length (layer_states c.run) ≡ length y = omega (arith, tiles_length c.run a e cuts.run) in
    let b = split_left (layer_states c.before) _ x _ lb (cuts.same ∙ q) in
    let f = split_right (layer_states c.run) (layer_states c.after) y z lr
    (split_right (layer_states c.before) _ x _ lb (cuts.same ∙ q)) in (
      tiles_append c.before _ 0 a w cuts.before (tiles_append (map (in_state st) c.run) c.after a e w m.0 cuts.after),
      rw (states_append, states_append, m.1, b, f),
    )

-- and coalesced
pub painted_states : (u a e st w : ℕ) (s : List Range) (x y z : List ℕ) → a < e → e ≤ w → Tiles 0 s w
    → length x ≡ a → length y ≡ e - a → layer_states s ≡ x ++ (y ++ z)
    → Tiles 0 (coalesce (paint u a e st s)) w × (layer_states (coalesce (paint u a e st s)) ≡ x ++ (replicate (e - a) st ++ z))
painted_states u a e st w s x y z h g t hx hy q =
    let m = paint_states u a e st w s x y z h g t hx hy q in let n = coalesce_same (paint u a e st s) 0 w m.0 in (n.0, n.1 ∙ m.1)

-- ---- what the start's ranges of a mip learn where the end's are UNKNOWN
-- a start subresource takes the state where the end's is UNKNOWN
abbrev pub learned : ℕ → ℕ → ℕ → ℕ → ℕ
learned u new start old = if eqb old u then new else start

zip_known : (u new st : ℕ) → eqb st u ≡ false → (x : List ℕ) (n : ℕ) → length x ≡ n → zip₂ (learned u new) x (replicate n st) ≡ x
zip_known u new st e [] zero h = refl
zip_known u new st e [] (suc n) h = absurd (omega arith)
zip_known u new st e (c ∷ x) zero h = absurd (omega arith)
zip_known u new st e (c ∷ x) (suc n) h = rw (e, zip_known u new st e x n (omega arith))

zip_unknown : (u new st : ℕ) → eqb st u ≡ true → (x : List ℕ) (n : ℕ) → length x ≡ n
    → zip₂ (learned u new) x (replicate n st) ≡ replicate n new
zip_unknown u new st e [] zero h = refl
zip_unknown u new st e [] (suc n) h = absurd (omega arith)
zip_unknown u new st e (c ∷ x) zero h = absurd (omega arith)
zip_unknown u new st e (c ∷ x) (suc n) h = rw (e, zip_unknown u new st e x n (omega arith))

-- s tiles the layers a .. b, where t has the subresources y
pub learn_states : (u new w b : ℕ) (s t : List Range) (a : ℕ) (x y z : List ℕ) → b ≤ w → Tiles a s b → Tiles 0 t w → length x ≡ a
    → length y ≡ b - a → layer_states t ≡ x ++ (y ++ z)
    → Tiles 0 (learn u new s t) w × (layer_states (learn u new s t) ≡ x ++ (zip₂ (learned u new) y (layer_states s) ++ z))
unfolding learn layer_states
learn_states u new w b [] t a x [] z f g k hx hy e = (k, e)
learn_states u new w b [] t a x (c ∷ y) z f g k hx hy e = absurd (omega arith)
learn_states u new w b (r ∷ s) t a x y z f g k hx hy e =
    let n = r.end - r.start in let le = tiles_le s r.end b g.2 in
    let short : length (take n y) ≡ n = rw length-take (omega arith) in
    let rest : length (drop n y) ≡ b - r.end = rw length-drop (omega arith) in
    rw (← take-append-drop n y) (go (take n y) (drop n y) (rw take-append-drop e) short rest
    (λ t' x' k' hx' e'. learn_states u new w b s t' r.end x' (drop n y) z f g.2 k' hx' rest e'))
  where
    go : (y v : List ℕ) → layer_states t ≡ x ++ (y ++ v ++ z) → length y ≡ r.end - r.start → length v ≡ b - r.end
        → ((t : List Range) (x : List ℕ) → Tiles 0 t w → length x ≡ r.end → layer_states t ≡ x ++ (v ++ z)
        → Tiles 0 (learn u new s t) w × (layer_states (learn u new s t) ≡ x ++ (zip₂ (learned u new) v (layer_states s) ++ z)))
        → Tiles 0 (learn u new (r ∷ s) t) w
        × (layer_states (learn u new (r ∷ s) t) ≡ x
        ++ (zip₂ (learned u new) (y ++ v) (replicate (r.end - r.start) r.state ++ layer_states s) ++ z))
    go y v e hy hv ih =
        let n = r.end - r.start in let le = tiles_le s r.end b g.2 in
        let ly : length y ≡ length (replicate n r.state) = rw length-replicate hy in
        let e' : layer_states t ≡ x ++ (y ++ (v ++ z)) = e ∙ ap (λ (l : List ℕ). x ++ l) (append_assoc y v z) in
        rw (zip_append (learned u new) y v (replicate n r.state) (layer_states s) ly)
        (by_test (λ (t : List Range). Tiles 0 (learn u new s t) w
        × (layer_states (learn u new s t) ≡ x
        ++ (zip₂ (learned u new) y (replicate n r.state) ++ zip₂ (learned u new) v (layer_states s) ++ z))) (eqb r.state u)
        (λ q. let m = painted_states u r.start r.end new w t x y (v ++ z) (omega arith) (omega arith) k (omega arith) hy e' in
        let d = ih (coalesce (paint u r.start r.end new t)) (x ++ replicate n new) m.0
        (rw (length-append, length-replicate) (omega arith)) (rw append_assoc m.1) in
        rw (zip_unknown u new r.state q y n hy) (d.0, d.1 ∙ simp append_assoc))
        (λ q. let d = ih t (x ++ y) k (rw length-append (omega arith)) (rw append_assoc e') in
        rw (zip_known u new r.state q y n hy) (d.0, d.1 ∙ simp append_assoc)))
