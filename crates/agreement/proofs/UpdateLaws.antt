-- A Many texture in a tracker, its start and its end side by side: an update of both is the grid's.
use Rattle.std.specs.Prelude.{◌-◌, ◌≤◌, ◌<◌, ◌≡◌, ◌∷◌, ◌++◌, if◌then◌else◌}
use Rattle.model.specs.Prelude.{ℕ, zero, suc, arith, refl, sym, ap, ◌∙◌, true, false, Bool, Option, None, Some, List}
use Rattle.model.specs.Prelude.{[], map, map-append, eqb, replicate, length, length-replicate, length-map}
use Rattle.model.specs.declared.{Extent.Extent, InvalidUse.InvalidUse, Range.Range, UsageFlags.UsageFlags}
use Rattle.model.specs.{Base.{zip₂, Stop, fine, walk₂, zip₃, passes, walk, All}, Representation.in_mips, StateRules.end_after}
use Rattle.model.specs.RangedStates.{coalesce, isolate, paint, layer_states, Tiles}
use Rattle.model.specs.Texture.{Piece, learn, single, many, given_many, on_mips, learn_all, met_by, update_all, learn_held, Held}
use Rattle.model.specs.{BoolLaws.{by_test, by_test₂}, ListLaws.{zip_append, all_map}, RangeLaws.{isolate_cuts, tiles_length}}
use Rattle.agreement.specs.{Grid.{SubresourceConflict, Named}, Shared.first_of}
use Rattle.agreement.proofs.WalkLaws.{walk_length, GridsOf}
use Rattle.agreement.proofs.GridLaws.{all_of, all_zip, grid_walks}
use Rattle.agreement.proofs.PaintLaws.{painted_states, split_left, split_right, learned, learn_states}
use Rattle.agreement.proofs.{RulesAgree.{start_after, rule_end, rule_start}, MergeLaws.Tiled, Passes.Pass}
use Rattle.agreement.proofs.TextureLaws.{Gives, gives_place, gives_set, fills}
use Rattle.agreement.proofs.Passes

pub record Two : Type 0 where
  pub end : List Range
  pub start : List Range

pub record Pair : Type 0 where
  pub end : ℕ
  pub start : ℕ

abbrev pub pair : ℕ → ℕ → Pair
pair a b = record { end = a; start = b }

abbrev pub view : Two → List Pair
view t = zip₂ pair (layer_states t.end) (layer_states t.start)

abbrev pub Ok : Extent → Two → Type 0
Ok sh t = Tiles 0 t.end sh.layers × Tiles 0 t.start sh.layers

zip_length : (a b : List ℕ) (n : ℕ) → length a ≡ n → length b ≡ n → length (zip₂ pair a b) ≡ n
zip_length [] b n h g = h
zip_length (x ∷ a) [] n h g = g
zip_length (x ∷ a) (y ∷ b) zero h g = absurd (omega arith)
zip_length (x ∷ a) (y ∷ b) (suc n) h g = ap suc (zip_length a b n (omega arith) (omega arith))

pub full_length : (sh : Extent) (t : Two) → Ok sh t → length (view t) ≡ sh.layers
full_length sh t o = zip_length (layer_states t.end) (layer_states t.start) sh.layers
    (omega (arith, tiles_length t.end 0 sh.layers o.0)) (omega (arith, tiles_length t.start 0 sh.layers o.1))

zip_ends : (a b : List ℕ) → length a ≡ length b → map (λ (c : Pair). c.end) (zip₂ pair a b) ≡ a
zip_ends [] b h = refl
zip_ends (x ∷ a) [] h = absurd (omega arith)
zip_ends (x ∷ a) (y ∷ b) h = rw (zip_ends a b (omega arith))

zip_starts : (a b : List ℕ) → length a ≡ length b → map (λ (c : Pair). c.start) (zip₂ pair a b) ≡ b
zip_starts [] [] h = refl
zip_starts [] (y ∷ b) h = absurd (omega arith)
zip_starts (x ∷ a) [] h = absurd (omega arith)
zip_starts (x ∷ a) (y ∷ b) h = rw (zip_starts a b (omega arith))

abbrev pub ends : List Pair → List ℕ
ends = map (λ (c : Pair). c.end)

abbrev pub starts : List Pair → List ℕ
starts = map (λ (c : Pair). c.start)

zip_back : (x : List Pair) → zip₂ pair (ends x) (starts x) ≡ x
zip_back [] = refl
zip_back (c ∷ x) = rw (zip_back x)

-- a pair of states that is given one
abbrev pub after : ℕ → ℕ → Pair → Pair
after u new c = pair (end_after u c.end new) (start_after u c.start c.end new)

abbrev pub U : ℕ → ℕ → ℕ → Pair → Option ℕ → Stop SubresourceConflict Pair
U u k l c None = fine c
U u k l c (Some new) = fine (after u new c)

row_after : (u k l new : ℕ) (y : List Pair) (n : ℕ) → length y ≡ n → walk₂ (U u k) l y (replicate n (Some new)) ≡ fine (map (after u new) y)
row_after u k l new [] zero h = refl
row_after u k l new [] (suc n) h = absurd (omega arith)
row_after u k l new (c ∷ y) zero h = absurd (omega arith)
row_after u k l new (c ∷ y) (suc n) h = rw (row_after u k (suc l) new y n (omega arith))

same_after : (u new : ℕ) (y : List Pair) → eqb new u ≡ true → map (after u new) y ≡ y
same_after u new [] e = refl
same_after u new (c ∷ y) e = rw (e, same_after u new y e)

known_after : (u new : ℕ) (y : List Pair) → eqb new u ≡ false
    → zip₂ pair (replicate (length y) new) (zip₂ (learned u new) (starts y) (ends y)) ≡ map (after u new) y
known_after u new [] e = refl
known_after u new (c ∷ y) e = rw (e, known_after u new y e)

learned_length : (u new : ℕ) (y : List Pair) → length (zip₂ (learned u new) (starts y) (ends y)) ≡ length y
learned_length u new [] = refl
learned_length u new (c ∷ y) = ap suc (learned_length u new y)

abbrev pub update_one : ℕ → Piece → Two → Two
update_one u q t =
    if eqb q.state u then t
    else record {
      end = coalesce (paint u q.selector.layers.start.0 q.selector.layers.end.0 q.state t.end);
      start = learn u q.state (isolate q.selector.layers.start.0 q.selector.layers.end.0 u t.end).run t.start;
    }

abbrev pub update_pass : ℕ → Piece → ℕ → Two → Stop InvalidUse Two
update_pass u q k t = fine (if in_mips q.selector k then update_one u q t else t)

pub update_one_lem : (u : ℕ) (sh : Extent) (q : Piece) (t : Two) (x y z : List Pair)
    → q.selector.layers.start.0 < q.selector.layers.end.0 → q.selector.layers.end.0 ≤ sh.layers → Ok sh t
    → length x ≡ q.selector.layers.start.0
    → length y ≡ q.selector.layers.end.0 - q.selector.layers.start.0 → view t ≡ x ++ (y ++ z)
    → Ok sh (update_one u q t) × (view (update_one u q t) ≡ x ++ (map (after u q.state) y ++ z))
update_one_lem u sh q t x y z h g o hx hy e =
    by_test (λ (s : Two). Ok sh s × (view s ≡ x ++ (map (after u q.state) y ++ z))) (eqb q.state u)
    (λ b. rw (same_after u q.state y b) (o, e))
    (λ b. known b)
  where
    a : ℕ
    a = q.selector.layers.start.0

    b : ℕ
    b = q.selector.layers.end.0

    same : length (layer_states t.end) ≡ length (layer_states t.start)
    same = tiles_length t.end 0 sh.layers o.0 ∙ sym (tiles_length t.start 0 sh.layers o.1)

    end_parts : layer_states t.end ≡ ends x ++ (ends y ++ ends z)
    end_parts = sym (zip_ends (layer_states t.end) (layer_states t.start) same) ∙ ap ends e
        ∙ rw (map-append (λ (c : Pair). c.end) x, map-append (λ (c : Pair). c.end) y)

    start_parts : layer_states t.start ≡ starts x ++ (starts y ++ starts z)
    start_parts = sym (zip_starts (layer_states t.end) (layer_states t.start) same) ∙ ap starts e
        ∙ rw (map-append (λ (c : Pair). c.start) x, map-append (λ (c : Pair). c.start) y)

    known : eqb q.state u ≡ false
        → (let s : Two = record {
          end = coalesce (paint u a b q.state t.end);
          start = learn u q.state (isolate a b u t.end).run t.start;
        } in
        Ok sh s × (view s ≡ x ++ (map (after u q.state) y ++ z)))
    known n =
        let lx = length-map x (λ (c : Pair). c.end) in let ly = length-map y (λ (c : Pair). c.end) in
        let lx' = length-map x (λ (c : Pair). c.start) in let ly' = length-map y (λ (c : Pair). c.start) in
        let m = painted_states u a b q.state sh.layers t.end (ends x) (ends y) (ends z) h g o.0
        (omega arith) (omega arith) end_parts in
        let cuts = isolate_cuts t.end 0 a b u sh.layers (omega arith) h g o.0 in let c = isolate a b u t.end in
        let lb : length (layer_states c.before) ≡ length (ends x) = omega (arith, tiles_length c.before 0 a cuts.before) in
        let lr : length (layer_states c.run) ≡ length (ends y) = omega (arith, tiles_length c.run a b cuts.run) in
        let run = split_left (layer_states c.run) (layer_states c.after) (ends y) (ends z) lr
        (split_right (layer_states c.before) _ (ends x) _ lb (cuts.same ∙ end_parts)) in
        let s = learn_states u q.state sh.layers b c.run t.start a (starts x) (starts y) (starts z) g cuts.run o.1
        (omega arith) (omega arith) start_parts in
        let n₁ : length (ends x) ≡ length (starts x) = omega arith in
        let n₂ : length (replicate (length y) q.state) ≡ length (zip₂ (learned u q.state) (starts y) (ends y)) =
        rw (length-replicate, sym (learned_length u q.state y)) in (
          (m.0, s.0),
          rw (
            m.1,
            s.1,
            run,
            ← hy,
            zip_append pair (ends x) _ (starts x) _ n₁,
            zip_append pair (replicate (length y) q.state) (ends z) (zip₂ (learned u q.state) (starts y) (ends y)) (starts z) n₂,
            zip_back x,
            zip_back z,
            known_after u q.state y n,
          ),
        )

update_pass_lem : (u : ℕ) (sh : Extent)
    → Pass view (Ok sh) first_of sh (full_length sh) (U u) (λ k l c. refl) (λ (c : Pair). Unit {0}) (update_pass u)
update_pass_lem u sh = record {
  skips = λ q k t e. rw e;
  names = λ q k t x y z b h g o hx hy e w.
      let m = update_one_lem u sh q t x y z h g o hx hy e in
      rw (b, row_after u k q.selector.layers.start.0 q.state y (q.selector.layers.end.0 - q.selector.layers.start.0) hy)
      record { ok = m.0; same = m.1; conflict = refl };
}

-- ---- one texture in a tracker: the ranged model's update is the grid's
-- a grid of the extent
abbrev pub Dims : {A : Type 0} → Extent → List (List A) → Type 0
Dims sh n = (length n ≡ sh.mips) × All (λ r. length r ≡ sh.layers) n

-- ---- the pairs' walk, as the grid has it
abbrev after_o : ℕ → Pair → Option ℕ → Pair
after_o u c None = c
after_o u c (Some new) = after u new c

after_fine : (u m l : ℕ) (c : Pair) (o : Option ℕ) → U u m l c o ≡ fine (after_o u c o)
after_fine u m l c None = refl
after_fine u m l c (Some new) = refl

row_ends : (p : UsageFlags) (r : List Pair) (n : List (Option ℕ)) → ends (zip₂ (after_o p.unknown) r n) ≡ zip₂ (rule_end p) (ends r) n
row_ends p [] n = refl
row_ends p (c ∷ r) [] = refl
row_ends p (c ∷ r) (None ∷ n) = rw (row_ends p r n)
row_ends p (c ∷ r) (Some x ∷ n) = rw (row_ends p r n)

row_starts : (p : UsageFlags) (r : List Pair) (n : List (Option ℕ))
    → starts (zip₂ (after_o p.unknown) r n) ≡ zip₃ (rule_start p) (starts r) (ends r) n
row_starts p [] n = refl
row_starts p (c ∷ r) [] = refl
row_starts p (c ∷ r) (None ∷ n) = rw (row_starts p r n)
row_starts p (c ∷ r) (Some x ∷ n) = rw (row_starts p r n)

grid_ends_lem : (p : UsageFlags) (g : List (List Pair)) (n : List (List (Option ℕ)))
    → map ends (zip₂ (zip₂ (after_o p.unknown)) g n) ≡ zip₂ (zip₂ (rule_end p)) (map ends g) n
grid_ends_lem p [] n = refl
grid_ends_lem p (r ∷ g) [] = refl
grid_ends_lem p (r ∷ g) (s ∷ n) = rw (row_ends p r s, grid_ends_lem p g n)

grid_starts : (p : UsageFlags) (g : List (List Pair)) (n : List (List (Option ℕ)))
    → map starts (zip₂ (zip₂ (after_o p.unknown)) g n) ≡ zip₃ (zip₃ (rule_start p)) (map starts g) (map ends g) n
grid_starts p [] n = refl
grid_starts p (r ∷ g) [] = refl
grid_starts p (r ∷ g) (s ∷ n) = rw (row_starts p r s, grid_starts p g n)

-- ---- mips side by side
abbrev two : List Range → List Range → Two
two e s = record { end = e; start = s }

abbrev pub twos : List (List Range) → List (List Range) → List Two
twos = zip₂ two

pub twos_ok : (sh : Extent) (ss ts : List (List Range)) → Tiled sh ss → Tiled sh ts → All (Ok sh) (twos ss ts)
twos_ok sh ss ts a b = all_zip (λ (s : List Range). Tiles 0 s sh.layers) (λ (s : List Range). Tiles 0 s sh.layers)
    (Ok sh) two (λ s t x y. (x, y)) ss ts a b

twos_length : (ss ts : List (List Range)) → length ss ≡ length ts → length (twos ss ts) ≡ length ss
twos_length [] ts h = refl
twos_length (s ∷ ss) [] h = absurd (omega arith)
twos_length (s ∷ ss) (t ∷ ts) h = ap suc (twos_length ss ts (omega arith))

pub twos_ends : (ss ts : List (List Range)) → length ss ≡ length ts → map (λ (t : Two). t.end) (twos ss ts) ≡ ss
twos_ends [] ts h = refl
twos_ends (s ∷ ss) [] h = absurd (omega arith)
twos_ends (s ∷ ss) (t ∷ ts) h = rw (twos_ends ss ts (omega arith))

pub twos_starts : (ss ts : List (List Range)) → length ss ≡ length ts → map (λ (t : Two). t.start) (twos ss ts) ≡ ts
twos_starts [] [] h = refl
twos_starts [] (t ∷ ts) h = absurd (omega arith)
twos_starts (s ∷ ss) [] h = absurd (omega arith)
twos_starts (s ∷ ss) (t ∷ ts) h = rw (twos_starts ss ts (omega arith))

-- the subresources of the pairs
states_ends : (sh : Extent) (l : List Two) → All (Ok sh) l → map ends (map view l) ≡ map layer_states (map (λ (t : Two). t.end) l)
states_ends sh [] o = refl
states_ends sh (t ∷ l) o =
    rw (
      states_ends sh l o.1,
      zip_ends (layer_states t.end) (layer_states t.start) (tiles_length t.end 0 sh.layers o.0.0
          ∙ sym (tiles_length t.start 0 sh.layers o.0.1)),
    )

states_starts : (sh : Extent) (l : List Two) → All (Ok sh) l → map starts (map view l) ≡ map layer_states (map (λ (t : Two). t.start) l)
states_starts sh [] o = refl
states_starts sh (t ∷ l) o =
    rw (
      states_starts sh l o.1,
      zip_starts (layer_states t.end) (layer_states t.start)
          (tiles_length t.end 0 sh.layers o.0.0 ∙ sym (tiles_length t.start 0 sh.layers o.0.1)),
    )

-- ---- update_all is the passes over the pairs
abbrev pub map_at : (ℕ → Two → Two) → ℕ → List Two → List Two
map_at f k [] = []
map_at f k (t ∷ l) = f k t ∷ map_at f (suc k) l

walk_map : (f : ℕ → Two → Two) (k : ℕ) (l : List Two) → walk {C = InvalidUse} (λ j t. fine (f j t)) k l ≡ fine (map_at f k l)
walk_map f k [] = refl
walk_map f k (t ∷ l) = rw (walk_map f (suc k) l)

abbrev pub step_two : ℕ → Piece → ℕ → Two → Two
step_two u q k t = if in_mips q.selector k then update_one u q t else t

pub step_ends : (u : ℕ) (q : Piece) → eqb q.state u ≡ false → (k : ℕ) (l : List Two)
    → map (λ (t : Two). t.end) (map_at (step_two u q) k l)
    ≡ on_mips q.selector (λ s. coalesce (paint u q.selector.layers.start.0 q.selector.layers.end.0 q.state s))
    k (map (λ (t : Two). t.end) l)
step_ends u q e k [] = refl
step_ends u q e k (t ∷ l) =
    let h : (step_two u q k t).end
    ≡ (if in_mips q.selector k
    then coalesce (paint u q.selector.layers.start.0 q.selector.layers.end.0 q.state t.end) else t.end) =
    by_test₂ (λ (a : Two) (b : List Range). a.end ≡ b) (in_mips q.selector k) (λ b. rw e) (λ b. refl) in
    let ih = step_ends u q e (suc k) l in λ i. h i ∷ ih i

pub step_starts : (u : ℕ) (q : Piece) → eqb q.state u ≡ false → (k : ℕ) (l : List Two)
    → map (λ (t : Two). t.start) (map_at (step_two u q) k l)
    ≡ learn_all (met_by u q) u q.state k (map (λ (t : Two). t.end) l) (map (λ (t : Two). t.start) l)
unfolding learn
step_starts u q e k [] = refl
step_starts u q e k (t ∷ l) =
    let h : (step_two u q k t).start ≡ learn u q.state (met_by u q k t.end) t.start =
    by_test₂ (λ (a : Two) (b : List Range). a.start ≡ learn u q.state b t.start) (in_mips q.selector k) (λ b. rw e) (λ b. refl) in
    let ih = step_starts u q e (suc k) l in λ i. h i ∷ ih i

step_skip : (u : ℕ) (q : Piece) → eqb q.state u ≡ true → (k : ℕ) (l : List Two) → map_at (step_two u q) k l ≡ l
step_skip u q e k [] = refl
step_skip u q e k (t ∷ l) = rw (e, step_skip u q e (suc k) l)
    (by_test (λ (a : Two). a ∷ l ≡ t ∷ l) (in_mips q.selector k) (λ b. refl) (λ b. refl))

abbrev pub run_all : ℕ → List Piece → List Two → Stop InvalidUse (List Two)
run_all u qs l = passes (λ (q : Piece). walk (update_pass u q) 0) qs l

abbrev pub ends_of : List Two → List (List Range)
ends_of = map (λ (t : Two). t.end)

abbrev pub starts_of : List Two → List (List Range)
starts_of = map (λ (t : Two). t.start)

-- along the pieces, whatever the start is made of
update_run : (u : ℕ) (F : List Two → Held)
    → ((q : Piece) → eqb q.state u ≡ false → (l : List Two) → learn_held (met_by u q) u q.state (ends_of l) (F l)
    ≡ F (map_at (step_two u q) 0 l))
    → (qs : List Piece) (l : List Two)
    → update_all u qs (ends_of l) (F l) ≡ record { start = F (run_all u qs l).value; end = many (ends_of (run_all u qs l).value) }
unfolding update_all
update_run u F h [] l = refl
update_run u F h (q ∷ qs) l = rw (walk_map (step_two u q) 0 l) (go (eqb q.state u) refl (update_run u F h qs (map_at (step_two u q) 0 l)))
  where
    M : List Two
    M = map_at (step_two u q) 0 l

    go : (b : Bool) → eqb q.state u ≡ b
        → update_all u qs (ends_of M) (F M) ≡ record { start = F (run_all u qs M).value; end = many (ends_of (run_all u qs M).value) }
        → (if b then update_all u qs (ends_of l) (F l)
        else update_all u qs (on_mips q.selector
        (λ s. coalesce (paint u q.selector.layers.start.0 q.selector.layers.end.0 q.state s)) 0 (ends_of l))
        (learn_held (met_by u q) u q.state (ends_of l) (F l)))
        ≡ record { start = F (run_all u qs M).value; end = many (ends_of (run_all u qs M).value) }
    go true e ih = sym (ap (λ (m : List Two). update_all u qs (ends_of m) (F m)) (step_skip u q e 0 l)) ∙ ih
    go false e ih = rw (← step_ends u q e 0 l, h q e l) ih

pub update_many : (u : ℕ) (qs : List Piece) (l : List Two)
    → (update_all u qs (ends_of l) (many (starts_of l))
    ≡ record { start = many (starts_of (run_all u qs l).value); end = many (ends_of (run_all u qs l).value) })
update_many u = update_run u (λ l. many (starts_of l)) (λ q e l. ap many (sym (step_starts u q e 0 l)))

pub update_single : (u : ℕ) (qs : List Piece) (l : List Two) (st : ℕ)
    → (update_all u qs (ends_of l) (single st) ≡ record { start = single st; end = many (ends_of (run_all u qs l).value) })
update_single u qs l st = update_run u (λ l. single st) (λ q e l. refl) qs l

-- ---- the pairs after all pieces, by their subresources
any_pair : (l : List Two) → All (λ (t : Two). All (λ (c : Pair). Unit {0}) (view t)) l
any_pair = all_of _ (λ t. all_of _ (λ c. tt) (view t))

views_length : (sh : Extent) (l : List Two) → All (Ok sh) l → All (λ (r : List Pair). length r ≡ sh.layers) (map view l)
views_length sh = all_map (Ok sh) (λ (r : List Pair). length r ≡ sh.layers) view (full_length sh)

pub record Updated (p : UsageFlags) (sh : Extent) (ss ts : List (List Range)) (qs : List Piece) (n : Named) : Type 0 where
  pub ok : All (Ok sh) (run_all p.unknown qs (twos ss ts)).value
  pub end : map layer_states (ends_of (run_all p.unknown qs (twos ss ts)).value) ≡ zip₂ (zip₂ (rule_end p)) (map layer_states ss) n.states
  pub start : map layer_states (starts_of (run_all p.unknown qs (twos ss ts)).value)
      ≡ zip₃ (zip₃ (rule_start p)) (map layer_states ts) (map layer_states ss) n.states
  pub count : length (run_all p.unknown qs (twos ss ts)).value ≡ sh.mips

pairs_grid : (p : UsageFlags) (sh : Extent) (l : List Two) (qs : List Piece) (n : Named) → length l ≡ sh.mips
    → All (Ok sh) l → Gives sh (given_many qs) n
    → GridsOf view (Ok sh) first_of [] (run_all p.unknown qs l) (walk₂ (λ m. walk₂ (U p.unknown m) 0) 0 (map view l) n.states)
pairs_grid p sh l qs n h o (gives_place {q} a b c d) =
    Passes.place_pass view (Ok sh) first_of sh (full_length sh) (U p.unknown) (λ k l c. refl) (λ (c : Pair). Unit {0})
    (update_pass p.unknown) (update_pass_lem p.unknown sh) q l h o (any_pair l) a b
pairs_grid p sh l qs n h o (gives_set g hg tg) =
    Passes.set_passes view (Ok sh) first_of sh (full_length sh) (U p.unknown) (λ k l c. refl) (λ (c : Pair). Unit {0})
    (update_pass p.unknown) (update_pass_lem p.unknown sh) l g (omega arith) o tg (any_pair l)

pub updated_pairs : (p : UsageFlags) (sh : Extent) (ss ts : List (List Range)) (qs : List Piece) (n : Named)
    → length ss ≡ sh.mips → length ts ≡ sh.mips
    → Tiled sh ss → Tiled sh ts → Gives sh (given_many qs) n → Updated p sh ss ts qs n
updated_pairs p sh ss ts qs n hs ht os ot g =
    let same : length ss ≡ length ts = omega arith in let l = twos ss ts in let o = twos_ok sh ss ts os ot in
    let long : length l ≡ sh.mips = twos_length ss ts same ∙ hs in let m = pairs_grid p sh l qs n long o g in let f = fills sh qs n g in
    let z = grid_walks (after_o p.unknown) (U p.unknown) (after_fine p.unknown) 0 sh.layers (map view l) n.states
    (length-map l view ∙ long ∙ sym f.0) (views_length sh l o) f.1 in
    let v : map view (run_all p.unknown qs l).value ≡ zip₂ (zip₂ (after_o p.unknown)) (map view l) n.states = m.same
    ∙ ap (λ (x : Stop SubresourceConflict (List (List Pair))). x.value) z in
    record {
      ok = m.tiled;
      end = sym (states_ends sh (run_all p.unknown qs l).value m.tiled) ∙ ap (map ends) v ∙ grid_ends_lem p (map view l) n.states
          ∙ rw (states_ends sh l o, twos_ends ss ts same);
      start = sym (states_starts sh (run_all p.unknown qs l).value m.tiled) ∙ ap (map starts) v
          ∙ grid_starts p (map view l) n.states
          ∙ rw (states_starts sh l o, states_ends sh l o, twos_ends ss ts same, twos_starts ss ts same);
      count = sym (length-map (run_all p.unknown qs l).value view) ∙ ap length m.same
          ∙ walk_length (λ j. walk₂ (U p.unknown j) 0) 0 (map view l) n.states ∙ length-map l view ∙ long;
    }
