-- Ranges that tile: `coalesce`, `isolate` and `paint` keep the layers tiled, the first two keep the state of each layer, and no list has
-- more ranges than layers.
use Rattle.std.specs.Prelude.{◌-◌, ◌+◌, ◌≤◌, ◌<◌, ◌≡◌, ◌∷◌, ◌++◌, if◌then◌else◌}
use Rattle.model.specs.Prelude.{max, ℕ, arith, refl, sym, ap, ◌∙◌, true, and-eq-true_iff, List, []}
use Rattle.model.specs.Prelude.{map, append_assoc, leb, ltb, eqb, length, length-append, length-replicate, replicate}
use Rattle.model.specs.Prelude.{replicate-append-replicate, eqb-true, eqb-false, leb-true, leb-false, ltb-true, ltb-false}
use Rattle.model.specs.{declared.Range.Range}
use Rattle.model.specs.RangedStates.{range, joins, coalesce_from, coalesce, Cut, list_of, Rest, rest, with_run, isolate_from, isolate}
use Rattle.model.specs.{RangedStates.{in_state, paint, layer_states, Tiles}, BoolLaws.by_test}

-- ---- tilings
pub tiles_le : (s : List Range) (a e : ℕ) → Tiles a s e → a ≤ e
tiles_le [] a e t = omega arith
tiles_le (r ∷ s) a e t = let h = tiles_le s r.end e t.2 in omega arith

-- "A strip's ranges never outnumber the layers it covers"
pub tiles_count : (s : List Range) (a e : ℕ) → Tiles a s e → a + length s ≤ e
tiles_count [] a e t = omega arith
tiles_count (r ∷ s) a e t = let h = tiles_count s r.end e t.2 in omega arith

-- one range over all layers tiles them
pub tiles_one : (e st : ℕ) → 0 < e → Tiles 0 (range 0 e st ∷ []) e
tiles_one e st h = (refl, h, refl)

-- two tilings, one after the other
pub tiles_append : (s t : List Range) (a b e : ℕ) → Tiles a s b → Tiles b t e → Tiles a (s ++ t) e
tiles_append [] t a b e x y = rw x y
tiles_append (r ∷ s) t a b e x y = (x.0, x.1, tiles_append s t r.end b e x.2 y)

-- states do not matter
tiles_map : (st : ℕ) (s : List Range) (a e : ℕ) → Tiles a s e → Tiles a (map (in_state st) s) e
tiles_map st [] a e t = t
tiles_map st (r ∷ s) a e t = (t.0, t.1, tiles_map st s r.end e t.2)

-- one state a layer
pub tiles_length : (s : List Range) (a e : ℕ) → Tiles a s e → length (layer_states s) ≡ e - a
unfolding layer_states
tiles_length [] a e t = omega arith
tiles_length (r ∷ s) a e t =
    let h = tiles_length s r.end e t.2 in let g = tiles_le s r.end e t.2 in
    rw (length-append, length-replicate, h) (omega arith)

pub states_append : (x y : List Range) → layer_states (x ++ y) ≡ layer_states x ++ layer_states y
unfolding layer_states
states_append [] y = refl
states_append (r ∷ x) y = rw (states_append x y, append_assoc)

-- ---- `coalesce`
-- x tiles a .. e and has the subresources of y
abbrev pub Same : ℕ → ℕ → List Range → List Range → Type 0
Same a e x y = Tiles a x e × (layer_states x ≡ layer_states y)

joined_states : (a b e st : ℕ) (s : List Range) → a < b → b < e
    → layer_states (range a e st ∷ s) ≡ layer_states (range a b st ∷ range b e st ∷ s)
unfolding layer_states
joined_states a b e st s h k =
    let n : e - a ≡ (b - a) + (e - b) = omega arith in
    rw (n, ← replicate-append-replicate, append_assoc)

-- the fields that a passed test of joining makes equal
joins_hi : (r n : Range) → joins r n ≡ true → r.end ≡ n.start
joins_hi r n j = eqb-true r.end n.start ((and-eq-true_iff (eqb r.end n.start) (eqb r.state n.state)).0 j).0

joins_st : (r n : Range) → joins r n ≡ true → r.state ≡ n.state
joins_st r n j = eqb-true r.state n.state ((and-eq-true_iff (eqb r.end n.start) (eqb r.state n.state)).0 j).1

coalesce_from_lem : (s : List Range) (cur : Range) (a e : ℕ) → Tiles a (cur ∷ s) e → Same a e (coalesce_from cur s) (cur ∷ s)
unfolding coalesce_from layer_states
coalesce_from_lem [] cur a e t = (t, refl)
coalesce_from_lem (n ∷ s) cur a e t =
    by_test (λ (l : List Range). Same a e l (cur ∷ n ∷ s)) (joins cur n)
    (λ j.
    let h = joins_hi cur n j in
    let ih = coalesce_from_lem s (range cur.start n.end cur.state) a e (t.0, omega arith, t.2.2) in
    (ih.0, ih.1 ∙ joined_states cur.start cur.end n.end cur.state s (omega arith) (omega arith) ∙ cc (h, joins_st cur n j)))
    (λ j. let ih = coalesce_from_lem s n cur.end e t.2 in
    ((t.0, t.1, ih.0), ap (λ (l : List ℕ). replicate (cur.end - cur.start) cur.state ++ l) ih.1))

pub coalesce_same : (s : List Range) (a e : ℕ) → Tiles a s e → Same a e (coalesce s) s
unfolding coalesce
coalesce_same [] a e t = (t, refl)
coalesce_same (r ∷ s) a e t = coalesce_from_lem s r a e t

pub coalesce_tiles : (s : List Range) (a e : ℕ) → Tiles a s e → Tiles a (coalesce s) e
coalesce_tiles s a e t = (coalesce_same s a e t).0

-- ---- `isolate`, on ranges that tile z .. w
record Cuts_from (p e w : ℕ) (s : List Range) (c : Rest) : Type 0 where
  run : Tiles p c.run e
  after : Tiles e c.after w
  same : layer_states c.run ++ layer_states c.after ≡ layer_states s

cut_from : (s : List Range) (p e d w : ℕ) → p < e → e ≤ w → Tiles p s w → Cuts_from p e w s (isolate_from p e d s)
unfolding isolate_from layer_states
cut_from [] p e d w h k t = absurd (omega arith)
cut_from (r ∷ s) p e d w h k t =
    by_test P (leb e r.start) (λ b. absurd (omega (arith, leb-true e r.start b))) λ b.
    by_test (λ (g : List Range). P (with_run g inner)) (ltb p r.start) (λ b. absurd (omega (arith, ltb-true p r.start b))) λ b.
    by_test P (ltb e r.end)
    (λ b. let l = ltb-true e r.end b in let m : max p r.start ≡ r.start = omega arith in
    rw m record {
      run = (t.0, h, refl);
      after = (refl, l, t.2);
      same = rw append_assoc (sym (joined_states r.start e r.end r.state s (omega arith) l));
    }) λ b.
    by_test P (eqb e r.end)
    (λ q. let l = eqb-true e r.end q in record { run = (t.0, t.1, sym l); after = rw l t.2; same = rw append_assoc })
    (λ q. let l = ltb-false e r.end b in
    let ih = cut_from s r.end e d w (omega (arith, eqb-false e r.end q)) k t.2 in
    record { run = (t.0, t.1, ih.run); after = ih.after; same = rw (append_assoc, ih.same) })
  where
    P : Rest → Type 0
    P = Cuts_from p e w (r ∷ s)

    inner : Rest
    inner = if ltb e r.end then rest (range (max p r.start) e r.state ∷ []) (range e r.end r.state ∷ s)
        else if eqb e r.end then rest (r ∷ []) s
        else with_run (r ∷ []) (isolate_from r.end e d s)

-- the ranges are cut at a and e, and each layer keeps its state
pub record Cuts (z a e w : ℕ) (s : List Range) (c : Cut) : Type 0 where
  pub before : Tiles z c.before a
  pub run : Tiles a c.run e
  pub after : Tiles e c.after w
  pub same : layer_states c.before ++ (layer_states c.run ++ layer_states c.after) ≡ layer_states s

pub isolate_cuts : (s : List Range) (z a e d w : ℕ) → z ≤ a → a < e → e ≤ w → Tiles z s w → Cuts z a e w s (isolate a e d s)
unfolding isolate layer_states
isolate_cuts [] z a e d w g h k t = absurd (omega arith)
isolate_cuts (r ∷ s) z a e d w g h k t =
    by_test (Cuts z a e w (r ∷ s)) (leb r.end a)
    (λ b. let ih = isolate_cuts s r.end a e d w (leb-true r.end a b) h k t.2 in
    record { before = (t.0, t.1, ih.before); run = ih.run; after = ih.after; same = rw (append_assoc, ih.same) }) λ b.
    let past = leb-false r.end a b in
    by_test (Cuts z a e w (r ∷ s)) (ltb r.start a)
    (λ b. let f = cut_from (range a r.end r.state ∷ s) a e d w h k (refl, past, t.2) in
    record {
      before = (t.0, (omega (arith, ltb-true r.start a b)), refl);
      run = f.run;
      after = f.after;
      same = rw (f.same, append_assoc) (sym (joined_states r.start a r.end r.state s (ltb-true r.start a b) past));
    })
    (λ b. let l : z ≡ a = omega (arith, ltb-false r.start a b) in
    let f = cut_from (r ∷ s) a e d w h k (rw l at t) in
    record { before = l; run = f.run; after = f.after; same = f.same })

isolate_tiles : (s : List Range) (z a e d w : ℕ) → z ≤ a → a < e → e ≤ w → Tiles z s w → Tiles z (list_of (isolate a e d s)) w
isolate_tiles s z a e d w g h k t =
    let c = isolate_cuts s z a e d w g h k t in let i = isolate a e d s in
    tiles_append i.before (i.run ++ i.after) z a w c.before (tiles_append i.run i.after a e w c.run c.after)

-- as many ranges as layers are enough, also between `isolate` and `coalesce`
pub isolate_few : (s : List Range) (a e d w : ℕ) → a < e → e ≤ w → Tiles 0 s w → length (list_of (isolate a e d s)) ≤ w
isolate_few s a e d w h k t =
    let c = tiles_count (list_of (isolate a e d s)) 0 w (isolate_tiles s 0 a e d w (omega arith) h k t) in omega arith

-- ---- `paint`: the run takes a state
pub paint_tiles : (s : List Range) (z a e u st w : ℕ) → z ≤ a → a < e → e ≤ w → Tiles z s w → Tiles z (paint u a e st s) w
unfolding paint
paint_tiles s z a e u st w g h k t =
    let c = isolate_cuts s z a e u w g h k t in let i = isolate a e u s in
    tiles_append i.before (map (in_state st) i.run ++ i.after) z a w c.before
    (tiles_append (map (in_state st) i.run) i.after a e w (tiles_map st i.run a e c.run) c.after)
