-- No strict assertion about pieces, states and UNKNOWN fires where a well-formed texture is inserted, merged or updated.
use Rattle.model.specs.Prelude.{ℕ, zero, suc, ℕ_discrete, arith, refl, sym, ap, ◌∙◌, true, not, Bool, false, None, Some, List, [], map}
use Rattle.model.specs.Prelude.{append_assoc, append-nil, leb, eqb, length, replicate, length-replicate, length-append, take, drop}
use Rattle.model.specs.Prelude.{take-append-drop, length-take, length-drop, le-leb, lt-ltb, eqb-false, ne_eqb}
use Rattle.model.specs.{declared.{Extent.Extent, Range.Range, UsageFlags.UsageFlags}, Base.{every, each_at, zip₂, All, AllO}}
use Rattle.model.specs.{Flags.incompatible, Representation.{select, mip_start, mip_end, layer_start, layer_end, full, in_mips, Ends}}
use Rattle.model.specs.{StateRules.invalid_state, RangedStates.{layer_states, coalesce, isolate, paint, Tiles}}
use Rattle.model.specs.Texture.{Held, single, many, Given, given_single, given_many, Piece, on_mips, learn_all, met_by}
use Rattle.model.specs.ListLaws.{all_every, all_left, all_right, all_join, first_of_lem, zip_append, all_replicate, all_map}
use Rattle.model.specs.{BoolLaws.{both, by_test}, RangeLaws.{tiles_le, isolate_cuts, tiles_length}}
use Rattle.std.specs.Prelude.{◌-◌, ◌+◌, ◌≤◌, ◌<◌, ◌≡◌, ◌&&◌, ◌∷◌, ◌++◌, if◌then◌else◌}
use Rattle.agreement.specs.{Grid.{Named, tab, named_row}, Shared.grid_of}
use Rattle.agreement.specs.Asserts.{piece_inside, insert_asserts, mip_asserts, spread_asserts, learn_asserts, learn_all_asserts}
use Rattle.agreement.specs.{Asserts.{none_unknown, pieces_assert, single_asserts, start_asserts}, Fits.{StateFits, HeldFits, unknowns}}
use Rattle.agreement.proofs.{PaintLaws.{painted_states, split_left, split_right}, MergeLaws.Tiled}
use Rattle.agreement.proofs.TextureLaws.{Measured, Fit, Gives, gives_one, gives_place, gives_set}
use Rattle.agreement.proofs.UpdateLaws.{map_at, step_two, step_ends, step_starts, ends_of, starts_of, twos, twos_ok, twos_ends, twos_starts}
use Rattle.agreement.proofs.UpdateLaws.{Two, Pair, pair, view, Ok, full_length, after, update_one_lem, update_one}
use Rattle.agreement.proofs.{TrackerLaws.{Known, KnownAll}, WellStates.NamedFit, WellLaws.{ranges_of, FitEW}, GridLaws.thirds}
use Rattle.agreement.proofs.LogRoom.{PieceIn, pieces_in}

-- ---- a state is named where its piece lies
tab_at : {A : Type 0} (P : A → Type 0) (f : ℕ → A) (k n j : ℕ) → All P (tab f k n) → k ≤ j → j < k + n → P (f j)
tab_at P f k zero j t a b = absurd (omega arith)
tab_at P f k (suc n) j t a b = go (ℕ_discrete j k) (tab_at P f (suc k) n j t.1)
  where
    go : Dec (j ≡ k) → (suc k ≤ j → j < suc k + n → P (f j)) → P (f j)
    go (yes e) ih = rw e t.0
    go (no e) ih = ih (omega arith) (omega arith)

all_some : (P : ℕ → Type 0) (s : List ℕ) → All (AllO P) (map Some s) → All P s
all_some P [] t = tt
all_some P (c ∷ s) t = (t.0, all_some P s t.1)

abbrev PieceFits : UsageFlags → Piece → Type 0
PieceFits p q = StateFits p q.state

abbrev mip_pieces : ℕ → List Range → List Piece
mip_pieces k s = map (λ (r : Range). record { selector = select k (suc k) r.start r.end; state = r.state }) s

pieces_of : (p : UsageFlags) (sh : Extent) (k : ℕ) (ss : List (List Range)) → Tiled sh ss
    → NamedFit p (map (map Some) (map layer_states ss))
    → All (PieceFits p) (each_at mip_pieces k ss)
pieces_of p sh k [] t f = tt
pieces_of p sh k (s ∷ ss) t f =
    all_join (PieceFits p) (mip_pieces k s) (each_at mip_pieces (suc k) ss)
    (row s (ranges_of (StateFits p) s 0 sh.layers t.0 (all_some (StateFits p) (layer_states s) f.0)))
    (pieces_of p sh (suc k) ss t.1 f.1)
  where
    row : (s : List Range) → All (λ (r : Range). StateFits p r.state) s → All (PieceFits p) (mip_pieces k s)
    row [] t = tt
    row (r ∷ s) t = (t.0, row s t.1)

pieces_fit : (p : UsageFlags) (sh : Extent) (qs : List Piece) (n : Named) → Gives sh (given_many qs) n
    → NamedFit p n.states → All (PieceFits p) qs
pieces_fit p sh qs n (gives_place {q} a b c d) f =
    (first_of_lem (AllO (StateFits p)) (Some q.state) (layer_end q.selector - layer_start q.selector) (omega arith) row, tt)
  where
    here : All (AllO (StateFits p)) (named_row sh q.selector q.state (mip_start q.selector))
    here = tab_at (All (AllO (StateFits p))) (named_row sh q.selector q.state) 0 sh.mips
        (mip_start q.selector) f (omega arith) (omega arith)

    inside : in_mips q.selector (mip_start q.selector) ≡ true
    inside = rw (
      le-leb (mip_start q.selector) (mip_start q.selector) (omega arith),
      lt-ltb (mip_start q.selector) (mip_end q.selector) c,
    )

    row : All (AllO (StateFits p)) (replicate (layer_end q.selector - layer_start q.selector) (Some q.state))
    row = all_left (AllO (StateFits p)) (replicate (layer_end q.selector - layer_start q.selector) (Some q.state))
        (replicate (sh.layers - layer_end q.selector) None)
        (all_right (AllO (StateFits p)) (replicate (layer_start q.selector) None)
        (replicate (layer_end q.selector - layer_start q.selector) (Some q.state)
        ++ replicate (sh.layers - layer_end q.selector) None) (rw inside at here))
pieces_fit p sh qs n (gives_set ss h t) f = pieces_of p sh 0 ss t f

-- ---- so the assertions about what is handed in hold
valid : (p : UsageFlags) (st : ℕ) → StateFits p st → not (invalid_state p st) ≡ true
unfolding invalid_state incompatible
valid p st f = rw f.compatible

pub insert_holds : (p : UsageFlags) (sh : Extent) (g : Given) (n : Named) → Measured sh → Gives sh g n
    → NamedFit p n.states → insert_asserts p sh g ≡ true
insert_holds p sh (given_single st) n e gives_one f =
    valid p st (first_of_lem (AllO (StateFits p)) (Some st) sh.layers e.1
    (first_of_lem (All (AllO (StateFits p))) (replicate sh.layers (Some st)) sh.mips e.0 f))
insert_holds p sh (given_many qs) n e g f = go qs (pieces_in sh qs n g) (pieces_fit p sh qs n g f)
  where
    go : (qs : List Piece) → All (PieceIn sh) qs → All (PieceFits p) qs → every (piece_inside p (full sh)) qs ≡ true
    go [] t u = refl
    go (q ∷ qs) t u =
        both (both (both (le-leb (layer_end q.selector) sh.layers t.0.3) (le-leb (mip_end q.selector) sh.mips t.0.1))
        (valid p q.state u.0)) (go qs t.1 u.1)

pub mip_holds : (sh : Extent) (h : Held) (g : Given) (n : Named) → Fit sh h → Gives sh g n → mip_asserts h g ≡ true
mip_holds sh (single cur) g n f r = refl
mip_holds sh (many ss) (given_single new) n f r = refl
mip_holds sh (many ss) (given_many qs) n f r =
    all_every (PieceIn sh) (λ (q : Piece). leb (mip_end q.selector) (length ss))
    (λ q t. le-leb (mip_end q.selector) (length ss) (rw f.1 t.1)) qs (pieces_in sh qs n r)

pub spread_holds : (p : UsageFlags) (sh : Extent) (h : Held) (g : Given) → HeldFits p sh h → spread_asserts p sh h g ≡ true
spread_holds p sh (single cur) (given_single new) f = refl
spread_holds p sh (single cur) (given_many qs) f =
    rw (le-leb sh.layers sh.layers (omega arith), le-leb sh.mips sh.mips (omega arith), valid p cur f.state)
spread_holds p sh (many ss) g f = refl

-- ---- no strict assertion about UNKNOWN fires in an update of a well-formed texture
-- a start subresource is UNKNOWN where the end's is
abbrev Under : ℕ → Pair → Type 0
Under u c = eqb c.end u ≡ eqb c.start u

-- the subresources of a run of the end, and the start's beside them
under_run : (u st : ℕ) → eqb st u ≡ true → (y : List ℕ) (n : ℕ) → length y ≡ n → All (Under u) (zip₂ pair (replicate n st) y)
    → All (λ (c : ℕ). eqb c u ≡ true) y
under_run u st e [] n h t = tt
under_run u st e (c ∷ y) zero h t = absurd (omega arith)
under_run u st e (c ∷ y) (suc n) h t = (sym t.0 ∙ e, under_run u st e y n (omega arith) t.1)

-- s tiles a .. b, where the start t has the subresources y
learn_safe : (u new w b : ℕ) (s t : List Range) (a : ℕ) (x y z : List ℕ) → b ≤ w → Tiles a s b → Tiles 0 t w → length x ≡ a
    → length y ≡ b - a → layer_states t ≡ x ++ (y ++ z)
    → All (Under u) (zip₂ pair (layer_states s) y) → learn_asserts u new s t ≡ true
unfolding learn_asserts layer_states
learn_safe u new w b [] t a x y z f g k hx hy e p = refl
learn_safe u new w b (r ∷ s) t a x y z f g k hx hy e p =
    let n = r.end - r.start in let le = tiles_le s r.end b g.2 in
    let short : length (take n y) ≡ n = rw length-take (omega arith) in
    let rest : length (drop n y) ≡ b - r.end = rw length-drop (omega arith) in
    go (take n y) (drop n y) (rw take-append-drop e) short rest (rw take-append-drop p)
    (λ t' x' k' hx' e' p'. learn_safe u new w b s t' r.end x' (drop n y) z f g.2 k' hx' rest e' p')
  where
    go : (y v : List ℕ) → layer_states t ≡ x ++ ((y ++ v) ++ z) → length y ≡ r.end - r.start → length v ≡ b - r.end
        → All (Under u) (zip₂ pair (replicate (r.end - r.start) r.state ++ layer_states s) (y ++ v))
        → ((t : List Range) (x : List ℕ) → Tiles 0 t w → length x ≡ r.end → layer_states t ≡ x ++ (v ++ z)
        → All (Under u) (zip₂ pair (layer_states s) v) → learn_asserts u new s t ≡ true)
        → (if eqb r.state u then every (λ (x : Range). eqb x.state u) (isolate r.start r.end u t).run
        && learn_asserts u new s (coalesce (paint u r.start r.end new t)) else learn_asserts u new s t) ≡ true
    go y v e hy hv p ih =
        let n = r.end - r.start in let le = tiles_le s r.end b g.2 in
        let ln : length (replicate n r.state) ≡ length y = rw length-replicate (sym hy) in
        let p' = rw (zip_append pair (replicate n r.state) (layer_states s) y v ln) at p in
        let e' : layer_states t ≡ x ++ (y ++ (v ++ z)) = e ∙ ap (λ (l : List ℕ). x ++ l) (append_assoc y v z) in
        by_test (λ (b : Bool). b ≡ true) (eqb r.state u)
        (λ q.
        let cuts = isolate_cuts t 0 r.start r.end u w (omega arith) (omega arith) (omega arith) k in
        let c = isolate r.start r.end u t in
        let lb : length (layer_states c.before) ≡ length x = omega (arith, tiles_length c.before 0 r.start cuts.before) in
        let lr : length (layer_states c.run) ≡ length y = omega (arith, tiles_length c.run r.start r.end cuts.run) in
        let run = split_left (layer_states c.run) (layer_states c.after) y (v ++ z) lr
        (split_right (layer_states c.before) _ x _ lb (cuts.same ∙ e')) in
        let all = under_run u r.state q y n hy (all_left (Under u) (zip₂ pair (replicate n r.state) y) _ p') in
        let here = all_every (λ (x : Range). eqb x.state u ≡ true) (λ (x : Range). eqb x.state u) (λ x h. h) c.run
        (ranges_of (λ (c : ℕ). eqb c u ≡ true) c.run r.start r.end cuts.run (rw run all)) in
        let m = painted_states u r.start r.end new w t x y (v ++ z) (omega arith) (omega arith) k (omega arith) hy e' in
        let d = ih (coalesce (paint u r.start r.end new t)) (x ++ replicate n new) m.0
        (rw (length-append, length-replicate) (omega arith)) (rw append_assoc m.1)
        (all_right (Under u) (zip₂ pair (replicate n r.state) y) _ p') in
        rw (here, d))
        (λ q. ih t (x ++ y) k (rw length-append (omega arith)) (rw append_assoc e')
        (all_right (Under u) (zip₂ pair (replicate n r.state) y) _ p'))

-- ---- mips side by side
abbrev UnderAll : ℕ → Two → Type 0
UnderAll u t = All (Under u) (view t)

-- one state given
every_safe : (u new : ℕ) (sh : Extent) (k : ℕ) (l : List Two) → All (Ok sh) l → All (UnderAll u) l
    → learn_all_asserts (λ k s. s) u new k (ends_of l) (starts_of l) ≡ true
every_safe u new sh k [] o a = refl
every_safe u new sh k (t ∷ l) o a =
    let lt = tiles_length t.start 0 sh.layers o.0.1 in
    rw (
      learn_safe u new sh.layers sh.layers t.end t.start 0 [] (layer_states t.start) [] (omega arith) o.0.0
          o.0.1 refl lt (sym (append-nil (layer_states t.start))) a.0,
      every_safe u new sh (suc k) l o.1 a.1,
    )

-- a piece on one pair of mips
piece_safe : (u : ℕ) (sh : Extent) (q : Piece) (k : ℕ) (t : Two) → PieceIn sh q → Ok sh t → UnderAll u t
    → learn_asserts u q.state (met_by u q k t.end) t.start ≡ true
unfolding learn_asserts
piece_safe u sh q k t i o a = by_test (λ (s : List Range). learn_asserts u q.state s t.start ≡ true)
    (in_mips q.selector k) (λ b. met) (λ b. refl)
  where
    met : learn_asserts u q.state (isolate q.selector.layers.start.0 q.selector.layers.end.0 u t.end).run t.start
        ≡ true
    met =
        let A = q.selector.layers.start.0 in let E = q.selector.layers.end.0 in let in₂ = i.2 in let in₃ = i.3 in
        let ls = tiles_length t.start 0 sh.layers o.1 in
        let d = thirds (layer_states t.start) A E (omega arith) (omega arith) in let X = d.before in let Y = d.run in
        let Z = d.after in let cuts = isolate_cuts t.end 0 A E u sh.layers (omega arith) in₂ in₃ o.0 in
        let c = isolate A E u t.end in
        let lb : length (layer_states c.before) ≡ length X = omega (arith, d.first, tiles_length c.before 0 A cuts.before) in
        let lr : length (layer_states c.run) ≡ length Y = omega (arith, d.middle, tiles_length c.run A E cuts.run) in
        let all : All (Under u) (zip₂ pair (layer_states c.before ++ (layer_states c.run ++ layer_states c.after)) (X ++ (Y ++ Z))) =
        rw (cuts.same, ← d.parts) a in
        let later = all_right (Under u) (zip₂ pair (layer_states c.before) X) _
        (rw (zip_append pair (layer_states c.before) (layer_states c.run ++ layer_states c.after) X (Y ++ Z) lb) at all) in
        let two = all_left (Under u) (zip₂ pair (layer_states c.run) Y) _
        (rw (zip_append pair (layer_states c.run) (layer_states c.after) Y Z lr) at later) in
        learn_safe u q.state sh.layers E c.run t.start A X Y Z in₃ cuts.run o.1 d.first d.middle d.parts two

pieces_safe : (u : ℕ) (sh : Extent) (q : Piece) (k : ℕ) (l : List Two) → PieceIn sh q → All (Ok sh) l → All (UnderAll u) l
    → learn_all_asserts (met_by u q) u q.state k (ends_of l) (starts_of l) ≡ true
pieces_safe u sh q k [] i o a = refl
pieces_safe u sh q k (t ∷ l) i o a = rw (piece_safe u sh q k t i o.0 a.0, pieces_safe u sh q (suc k) l i o.1 a.1)

-- a pair stays under
after_under : (u new : ℕ) (c : Pair) → Under u c → Under u (after u new c)
after_under u new c h = go (eqb new u) refl (eqb c.end u) refl
  where
    go : (a : Bool) → eqb new u ≡ a → (b : Bool) → eqb c.end u ≡ b
        → eqb (if a then c.end else new) u ≡ eqb (if a then c.start else if b then new else c.start) u
    go true x b y = h
    go false x true y = refl
    go false x false y = x ∙ sym y ∙ h

step_under : (u : ℕ) (sh : Extent) (q : Piece) (k : ℕ) (t : Two) → PieceIn sh q → Ok sh t → UnderAll u t
    → Ok sh (step_two u q k t) × UnderAll u (step_two u q k t)
step_under u sh q k t i o a = by_test (λ (s : Two). Ok sh s × UnderAll u s) (in_mips q.selector k) (λ b. met) (λ b. (o, a))
  where
    met : Ok sh (update_one u q t) × UnderAll u (update_one u q t)
    met =
        let in₂ = i.2 in let in₃ = i.3 in let lv = full_length sh t o in
        let d = thirds (view t) q.selector.layers.start.0 q.selector.layers.end.0 (omega arith) (omega arith) in
        let X = d.before in let Y = d.run in let Z = d.after in
        let m = update_one_lem u sh q t X Y Z in₂ in₃ o d.first d.middle d.parts in
        let all : All (Under u) (X ++ (Y ++ Z)) = rw d.parts at a in
        let yz = all_right (Under u) X (Y ++ Z) all in (
          m.0,
          rw m.1 (all_join (Under u) X _ (all_left (Under u) X (Y ++ Z) all)
              (all_join (Under u) (map (after u q.state) Y) Z
              (all_map (Under u) (Under u) (after u q.state) (after_under u q.state) Y (all_left (Under u) Y Z yz))
              (all_right (Under u) Y Z yz))),
        )

steps_under : (u : ℕ) (sh : Extent) (q : Piece) (k : ℕ) (l : List Two) → PieceIn sh q → All (Ok sh) l → All (UnderAll u) l
    → All (Ok sh) (map_at (step_two u q) k l) × All (UnderAll u) (map_at (step_two u q) k l)
steps_under u sh q k [] i o a = (tt, tt)
steps_under u sh q k (t ∷ l) i o a = let m = step_under u sh q k t i o.0 a.0 in let r =
    steps_under u sh q (suc k) l i o.1 a.1 in ((m.0, r.0), (m.1, r.1))

-- pieces, one after another
many_held_safe : (u : ℕ) (sh : Extent) (qs : List Piece) (l : List Two) → All (PieceIn sh) qs → All (Ok sh) l → All (UnderAll u) l
    → pieces_assert u qs (ends_of l) (many (starts_of l)) ≡ true
unfolding pieces_assert
many_held_safe u sh [] l i o a = refl
many_held_safe u sh (q ∷ qs) l i o a =
    let s = steps_under u sh q 0 l i.0 o a in
    go (eqb q.state u) refl (many_held_safe u sh qs l i.1 o a) (many_held_safe u sh qs (map_at (step_two u q) 0 l) i.1 s.0 s.1)
  where
    M : List Two
    M = map_at (step_two u q) 0 l

    go : (b : Bool) → eqb q.state u ≡ b → pieces_assert u qs (ends_of l) (many (starts_of l)) ≡ true
        → pieces_assert u qs (ends_of M) (many (starts_of M)) ≡ true
        → (if b then pieces_assert u qs (ends_of l) (many (starts_of l))
        else learn_all_asserts (met_by u q) u q.state 0 (ends_of l) (starts_of l)
        && pieces_assert u qs (on_mips q.selector
        (λ s. coalesce (paint u q.selector.layers.start.0 q.selector.layers.end.0 q.state s)) 0 (ends_of l)) (many
        (learn_all (met_by u q) u q.state 0 (ends_of l) (starts_of l)))) ≡ true
    go true e x y = x
    go false e x y = rw (pieces_safe u sh q 0 l i.0 o a, ← step_ends u q e 0 l, ← step_starts u q e 0 l) y

-- ---- a Single start: the end has no UNKNOWN range
known_not : (u c : ℕ) → Known u c → not (eqb c u) ≡ true
known_not u c k = ap not (ne_eqb c u k)

none_met : (u : ℕ) (sh : Extent) (q : Piece) (k : ℕ) (s : List Range) → PieceIn sh q → Tiles 0 s sh.layers
    → All (Known u) (layer_states s) → every (λ (x : Range). not (eqb x.state u)) (met_by u q k s) ≡ true
none_met u sh q k s i t a = by_test (λ (r : List Range). every (λ (x : Range). not (eqb x.state u)) r ≡ true) (in_mips q.selector k)
    (λ b.
    let cuts = isolate_cuts s 0 q.selector.layers.start.0 q.selector.layers.end.0 u sh.layers
    (omega arith) i.2 i.3 t in
    let c = isolate q.selector.layers.start.0 q.selector.layers.end.0 u s in
    let all : All (Known u) (layer_states c.before ++ (layer_states c.run ++ layer_states c.after)) = rw cuts.same a in
    let run = all_left (Known u) (layer_states c.run) (layer_states c.after) (all_right (Known u) (layer_states c.before) _ all) in
    all_every (λ (x : Range). Known u x.state) (λ (x : Range). not (eqb x.state u)) (λ x h. known_not u x.state h) c.run
    (ranges_of (Known u) c.run q.selector.layers.start.0 q.selector.layers.end.0 cuts.run run))
    (λ b. refl)

none_safe : (u : ℕ) (sh : Extent) (q : Piece) (k : ℕ) (ss : List (List Range)) → PieceIn sh q → Tiled sh ss
    → KnownAll u (map layer_states ss) → none_unknown u q k ss ≡ true
none_safe u sh q k [] i t a = refl
none_safe u sh q k (s ∷ ss) i t a = rw (none_met u sh q k s i t.0 a.0, none_safe u sh q (suc k) ss i t.1 a.1)

painted_known : (u : ℕ) (sh : Extent) (q : Piece) (s : List Range) → PieceIn sh q → Known u q.state → Tiles 0 s sh.layers
    → All (Known u) (layer_states s)
    → Tiles 0 (coalesce (paint u q.selector.layers.start.0 q.selector.layers.end.0 q.state s)) sh.layers
    × All (Known u) (layer_states (coalesce (paint u q.selector.layers.start.0 q.selector.layers.end.0 q.state s)))
painted_known u sh q s i k t a =
    let A = q.selector.layers.start.0 in let n = q.selector.layers.end.0 - q.selector.layers.start.0 in let in₂ = i.2 in
    let in₃ = i.3 in let ls = tiles_length s 0 sh.layers t in
    let d = thirds (layer_states s) A q.selector.layers.end.0 (omega arith) (omega arith) in let X = d.before in let Y = d.run in
    let Z = d.after in
    let m = painted_states u A q.selector.layers.end.0 q.state sh.layers s X Y Z in₂ in₃ t d.first d.middle d.parts in
    let all : All (Known u) (X ++ (Y ++ Z)) = rw d.parts at a in (
      m.0,
      rw m.1 (all_join (Known u) X _ (all_left (Known u) X (Y ++ Z) all)
          (all_join (Known u) (replicate n q.state) Z (all_replicate (Known u) q.state n k)
          (all_right (Known u) Y Z (all_right (Known u) X (Y ++ Z) all)))),
    )

mips_known : (u : ℕ) (sh : Extent) (q : Piece) (k : ℕ) (ss : List (List Range)) → PieceIn sh q → Known u q.state → Tiled sh ss
    → KnownAll u (map layer_states ss)
    → (let r = on_mips q.selector (λ s. coalesce (paint u q.selector.layers.start.0 q.selector.layers.end.0 q.state s)) k
    ss in Tiled sh r × KnownAll u (map layer_states r))
mips_known u sh q k [] i n t a = (tt, tt)
mips_known u sh q k (s ∷ ss) i n t a =
    let r = mips_known u sh q (suc k) ss i n t.1 a.1 in let m = painted_known u sh q s i n t.0 a.0 in
    let here = by_test (λ (x : List Range). Tiles 0 x sh.layers × All (Known u) (layer_states x)) (in_mips q.selector k)
    {x = coalesce (paint u q.selector.layers.start.0 q.selector.layers.end.0 q.state s)} {y = s}
    (λ b. m) (λ b. (t.0, a.0)) in
    ((here.0, r.0), (here.1, r.1))

single_safe : (u : ℕ) (sh : Extent) (qs : List Piece) (ss : List (List Range)) (st : ℕ) → All (PieceIn sh) qs → Tiled sh ss
    → KnownAll u (map layer_states ss) → pieces_assert u qs ss (single st) ≡ true
unfolding pieces_assert
single_safe u sh [] ss st i t a = refl
single_safe u sh (q ∷ qs) ss st i t a =
    by_test (λ (b : Bool). b ≡ true) (eqb q.state u)
    (λ e. single_safe u sh qs ss st i.1 t a)
    (λ e. let m = mips_known u sh q 0 ss i.0 (eqb-false q.state u e) t a in
    rw (
      none_safe u sh q 0 ss i.0 t a,
      single_safe u sh qs
          (on_mips q.selector (λ s. coalesce (paint u q.selector.layers.start.0 q.selector.layers.end.0 q.state s)) 0 ss)
          st i.1 m.0 m.1,
    ))

-- ---- the texture
row_under : (u : ℕ) (s e : List ℕ) → map (λ c. eqb c u) s ≡ map (λ c. eqb c u) e → All (Under u) (zip₂ pair e s)
row_under u [] [] h = tt
row_under u [] (y ∷ e) h = tt
row_under u (x ∷ s) [] h = tt
row_under u (x ∷ s) (y ∷ e) h =
    let a : eqb y u ≡ eqb x u = cc in let b : map (λ c. eqb c u) s ≡ map (λ c. eqb c u) e = cc in (a, row_under u s e b)

grid_under : (u : ℕ) (ts ss : List (List Range)) → unknowns u (map layer_states ts) ≡ unknowns u (map layer_states ss)
    → All (UnderAll u) (twos ss ts)
grid_under u ts [] h = tt
grid_under u [] (s ∷ ss) h = tt
grid_under u (t ∷ ts) (s ∷ ss) h =
    let a : map (λ c. eqb c u) (layer_states t) ≡ map (λ c. eqb c u) (layer_states s) = cc in let b : unknowns u (map layer_states ts)
    ≡ unknowns u (map layer_states ss) = cc in (row_under u (layer_states t) (layer_states s) a, grid_under u ts ss b)

many_safe : (p : UsageFlags) (sh : Extent) (s : Held) (ss : List (List Range)) (qs : List Piece) (n : Named)
    → FitEW p sh (record { start = s; end = many ss }) → Gives sh (given_many qs) n → pieces_assert p.unknown qs ss s ≡ true
unfolding grid_of
many_safe p sh (single st) ss qs n f g = single_safe p.unknown sh qs ss st (pieces_in sh qs n g) f.base.end.2 f.base.known
many_safe p sh (many ts) ss qs n f g =
    let same = f.base.end.1 ∙ sym f.base.start.1 in
    let r = many_held_safe p.unknown sh qs (twos ss ts) (pieces_in sh qs n g) (twos_ok sh ss ts f.base.end.2 f.base.start.2)
    (grid_under p.unknown ts ss f.alike) in
    rw (twos_ends ss ts same, twos_starts ss ts same) at r

one_safe : (p : UsageFlags) (sh : Extent) (s : Held) (ss : List (List Range)) (new : ℕ) → FitEW p sh (record { start = s; end = many ss })
    → single_asserts p.unknown new ss s ≡ true
unfolding grid_of
one_safe p sh (single st) ss new f = refl
one_safe p sh (many ts) ss new f =
    let same = f.base.end.1 ∙ sym f.base.start.1 in
    let r = every_safe p.unknown new sh 0 (twos ss ts) (twos_ok sh ss ts f.base.end.2 f.base.start.2)
    (grid_under p.unknown ts ss f.alike) in
    rw (twos_ends ss ts same, twos_starts ss ts same) at r

pub asserts_fit : (p : UsageFlags) (sh : Extent) (e : Ends Held) (g : Given) (n : Named) → FitEW p sh e → Gives sh g n
    → start_asserts p e.start e.end g ≡ true
asserts_fit p sh e g n f r = go e.end g r f
  where
    go : (d : Held) (g : Given) → Gives sh g n → FitEW p sh (record { start = e.start; end = d }) → start_asserts p e.start d g ≡ true
    go (single cur) g r f = refl
    go (many ss) (given_single new) r f = one_safe p sh e.start ss new f
    go (many ss) (given_many qs) r f = many_safe p sh e.start ss qs n f r
