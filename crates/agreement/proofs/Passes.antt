-- Passes over a texture's mips, one for each piece that is handed in, are one walk over its subresources: for any S that holds a mip, seen
-- as a list by `view`, with Ok for what holds of it.
use Rattle.std.specs.Prelude.{◌-◌, ◌+◌, ◌≤◌, ◌<◌, ◌≡◌, ◌&&◌, ◌∷◌, ◌++◌, if◌then◌else◌}
use Rattle.model.specs.Prelude.{ℕ, zero, suc, arith, refl, sym, ap, ◌∙◌, Bool, true, false, Option, None}
use Rattle.model.specs.Prelude.{Some, option_map, List, [], map, append_assoc, append-nil, map-append, leb, ltb, replicate}
use Rattle.model.specs.Prelude.{length, length-replicate, length-append, take, drop, take-append-drop, length-take, le-leb, lt-ltb, le-ltb}
use Rattle.model.specs.Prelude.{leb-true}
use Rattle.model.specs.declared.{Extent.Extent, Range.Range}
use Rattle.model.specs.Base.{each_at, Stop, fine, and_then, passes, onward, walk, walk₂, All}
use Rattle.model.specs.{Representation.{select, in_mips}, RangedStates.{layer_states, Tiles}, Texture.{Piece, pieces_of}}
use Rattle.model.specs.{ListLaws.{all_left, all_right, all_join, all_both}, RangeLaws.tiles_le}
use Rattle.agreement.specs.Grid.{band, tab, named_row}
use Rattle.agreement.proofs.WalkLaws.{join_stop, walk_append, walk_length, walk_none, Sim, lockstep, unnamed_of, row_parts_of, RunsOf}
use Rattle.agreement.proofs.{WalkLaws.GridsOf, MergeLaws.{Tiled, one_pass}, GridLaws.thirds}

abbrev pub piece_at : ℕ → Range → Piece
piece_at k r = record { selector = select k (suc k) r.start r.end; state = r.state }

pub own_mip : (k a e : ℕ) → in_mips (select k (suc k) a e) k ≡ true
own_mip k a e = rw (le-leb k k (omega arith), lt-ltb k (suc k) (omega arith))

map_band : (n st : ℕ) (s : List ℕ) → map {A = ℕ} {B = Option ℕ} Some (replicate n st ++ s) ≡ replicate n (Some st) ++ map Some s
map_band zero st s = refl
map_band (suc n) st s = rw (map_band n st s)

pub other_mip : (k j a e : ℕ) → (j ≡ k → ⊥) → in_mips (select k (suc k) a e) j ≡ false
other_mip k j a e h = go (leb k j) refl
  where
    go : (b : Bool) → leb k j ≡ b → b && ltb j (suc k) ≡ false
    go true q = le-ltb j (suc k) (omega (arith, leb-true k j q))
    go false q = refl

passes_append : {C Q S : Type 0} (f : Q → S → Stop C S) (x y : List Q) (s : S)
    → passes f (x ++ y) s ≡ and_then (passes f x s).conflict (passes f x s).value (passes f y (passes f x s).value)
passes_append f [] y s = refl
passes_append {C} {Q} {S} f (q ∷ x) y s = rw (passes_append f x y (f q s).value) (go (f q s).conflict)
  where
    P : Stop C S
    P = passes f x (f q s).value

    go : (o : Option C) → and_then o (f q s).value (and_then P.conflict P.value (passes f y P.value))
        ≡ and_then (and_then o (f q s).value P).conflict (and_then o (f q s).value P).value (passes f y
        (and_then o (f q s).value P).value)
    go None = refl
    go (Some c) = refl

onward_same : {C A : Type 0} (x : A) (o : Option C) (s : List A) → onward x o s (fine s) ≡ record { value = x ∷ s; conflict = o }
onward_same x None s = refl
onward_same x (Some c) s = refl

module _ {S C K D : Type 0} (view : S → List C) (Ok : S → Type 0) (cl : K → D) where
  after_piece : (x y z : List C) (s : S) (o : Option K) (o' : Option D) (more : Stop K S) (v : Stop D (List C))
      → Ok s → view s ≡ x ++ (y ++ z) → option_map cl o ≡ o'
      → RunsOf view Ok cl more (record { value = (x ++ y) ++ v.value; conflict = v.conflict })
      → RunsOf view Ok cl (and_then o s more) (record { value = x ++ (join_stop y o' z v).value; conflict = (join_stop y o' z v).conflict })
  after_piece x y z s None o' more v t e q ih = rw (← q) (rw append_assoc at ih)
  after_piece x y z s (Some c) o' more v t e q ih = rw (← q) record { ok = t; same = e; conflict = refl }

  after_row : (d : List S) (x : S) (l : List S) (y : List C) (o : Option K) (o' : Option D)
      (more : Stop K (List S)) (v : Stop D (List (List C)))
      → All Ok (d ++ (x ∷ l)) → view x ≡ y → option_map cl o ≡ o' → GridsOf view Ok cl (map view (d ++ (x ∷ []))) more v
      → GridsOf view Ok cl (map view d) (and_then o (d ++ (x ∷ l)) more) (onward y o' (map view l) v)
  after_row d x l y None o' more v t e q ih =
      rw (← q) record { tiled = ih.tiled; same = ih.same ∙ rw (map-append view d, append_assoc, e); conflict = ih.conflict }
  after_row d x l y (Some c) o' more v t e q ih = rw (← q) record { tiled = t; same = rw (map-append view d, e); conflict = refl }

-- Passes over mips, one for each piece: what a pass does with the layers that it names, by the subresources' rule f.
-- Q holds of the subresources that no pass has met yet.
module _ {S C K D : Type 0} (view : S → List C) (Ok : S → Type 0) (cl : K → D) (sh : Extent) (full_length : (s : S) → Ok s
    → length (view s) ≡ sh.layers)
    (U : ℕ → ℕ → C → Option ℕ → Stop D C) (blank : (k l : ℕ) (c : C) → U k l c None ≡ fine c) (Q : C → Type 0)
    (pass : Piece → ℕ → S → Stop K S) where
  pub record Pass : Type 0 where
    pub skips : (q : Piece) (k : ℕ) (s : S) → in_mips q.selector k ≡ false → pass q k s ≡ fine s
    pub names : (q : Piece) (k : ℕ) (s : S) (x y z : List C) → in_mips q.selector k ≡ true
        → q.selector.layers.start.0 < q.selector.layers.end.0 → q.selector.layers.end.0 ≤ sh.layers → Ok s
        → length x ≡ q.selector.layers.start.0 → length y ≡ q.selector.layers.end.0 - q.selector.layers.start.0
        → view s ≡ x ++ (y ++ z) → All Q y
        → (let v = walk₂ (U k) q.selector.layers.start.0 y
        (replicate (q.selector.layers.end.0 - q.selector.layers.start.0) (Some q.state)) in
        RunsOf view Ok cl (pass q k s) (record { value = x ++ (v.value ++ z); conflict = v.conflict }))

  module _ (R : Pass) where
    module _ (k : ℕ) where
      abbrev row_passes : List Range → S → Stop K S
      row_passes t s = passes (λ (q : Piece). pass q k) (map (piece_at k) t) s

      row_passes_lem : (t : List Range) (s : S) (a : ℕ) (x y : List C) → Tiles a t sh.layers → Ok s
          → length x ≡ a → view s ≡ x ++ y → All Q y
          → RunsOf view Ok cl (row_passes t s) (record {
            value = x ++ (walk₂ (U k) a y (map Some (layer_states t))).value;
            conflict = (walk₂ (U k) a y (map Some (layer_states t))).conflict;
          })
      unfolding layer_states
      row_passes_lem [] s a x y t u hx e o = rw walk_none record { ok = u; same = e; conflict = refl }
      row_passes_lem (r ∷ t) s a x y g u hx e o =
          let n = r.end - r.start in let le = tiles_le t r.end sh.layers g.2 in
          let both : length (view s) ≡ length x + length y = rw e (length-append x y) in
          let short : length (take n y) ≡ n = rw length-take (omega (arith, full_length s u)) in
          rw (← take-append-drop n y) (go (take n y) (drop n y) (rw take-append-drop e) short (rw take-append-drop o)
          (λ s' x' y' u' hx' e' o'. row_passes_lem t s' r.end x' y' g.2 u' hx' e' o'))
        where
          go : (y z : List C) → view s ≡ x ++ (y ++ z) → length y ≡ r.end - r.start → All Q (y ++ z)
              → ((s : S) (x y : List C) → Ok s → length x ≡ r.end → view s ≡ x ++ y → All Q y
              → RunsOf view Ok cl (row_passes t s) (record {
                value = x ++ (walk₂ (U k) r.end y (map Some (layer_states t))).value;
                conflict = (walk₂ (U k) r.end y (map Some (layer_states t))).conflict;
              }))
              → RunsOf view Ok cl (row_passes (r ∷ t) s)
              (record {
                value = x ++ (walk₂ (U k) a (y ++ z) (map Some (layer_states (r ∷ t)))).value;
                conflict = (walk₂ (U k) a (y ++ z) (map Some (layer_states (r ∷ t)))).conflict;
              })
          go y z e hy o ih =
              let n = r.end - r.start in let w = pass (piece_at k r) k s in
              let m = R.names (piece_at k r) k s x y z (own_mip k r.start r.end) (omega arith)
              (tiles_le t r.end sh.layers g.2) u (omega arith) hy e (all_left Q y z o) in
              let l : length y ≡ length (replicate {A = Option ℕ} n (Some r.state)) = rw length-replicate hy in
              let long = walk_length (U k) r.start y (replicate n (Some r.state)) in
              let at_end : r.start + length y ≡ r.end = omega arith in
              rw (← g.0, map_band, walk_append (U k) r.start y z, at_end)
              (after_piece view Ok cl x _ z w.value w.conflict _ _ _ m.ok m.same m.conflict
              (ih w.value (x ++ (walk₂ (U k) r.start y (replicate n (Some r.state))).value) z m.ok
              (rw (length-append, long) (omega arith)) (rw append_assoc m.same) (all_right Q y z o)))

      -- a piece of mip k goes past every other mip
      walk_past : (r : Range) (j : ℕ) (l : List S) → k < j → walk (pass (piece_at k r)) j l ≡ fine l
      walk_past r j [] h = refl
      walk_past r j (s ∷ l) h =
          rw (R.skips (piece_at k r) j s (other_mip k j r.start r.end (λ e. omega arith)), walk_past r (suc j) l (omega arith))

      walk_at : (r : Range) (j : ℕ) (d : List S) (s : S) (l : List S) → j + length d ≡ k
          → walk (pass (piece_at k r)) j (d ++ (s ∷ l))
          ≡ record { value = d ++ ((pass (piece_at k r) k s).value ∷ l); conflict = (pass (piece_at k r) k s).conflict }
      walk_at r j [] s l e =
          let h : j ≡ k = omega arith in
          rw (walk_past r (suc j) l (omega arith), h) (onward_same _ _ l)
      walk_at r j (t ∷ d) s l e =
          rw (R.skips (piece_at k r) j t (other_mip k j r.start r.end (λ q. omega arith)), walk_at r (suc j) d s l (omega arith))

      abbrev grid_passes : List Piece → List S → Stop K (List S)
      grid_passes = passes (λ (q : Piece). walk (pass q) 0)

      -- the pieces of one mip touch that mip alone
      row_in_grid : (t : List Range) (d : List S) (s : S) (l : List S) → length d ≡ k
          → grid_passes (map (piece_at k) t) (d ++ (s ∷ l))
          ≡ record { value = d ++ ((row_passes t s).value ∷ l); conflict = (row_passes t s).conflict }
      row_in_grid [] d s l e = refl
      row_in_grid (r ∷ t) d s l e =
          let h : 0 + length d ≡ k = omega arith in
          rw (walk_at r 0 d s l h, row_in_grid t d (pass (piece_at k r) k s).value l e)
          (go (pass (piece_at k r) k s).conflict (pass (piece_at k r) k s).value (row_passes t (pass (piece_at k r) k s).value))
        where
          go : (o : Option K) (x : S) (y : Stop K S)
              → and_then o (d ++ (x ∷ l)) (record { value = d ++ (y.value ∷ l); conflict = y.conflict })
              ≡ record { value = d ++ ((and_then o x y).value ∷ l); conflict = (and_then o x y).conflict }
          go None x y = refl
          go (Some c) x y = refl

    grid_passes_lem : (k : ℕ) (d l : List S) (t : List (List Range)) → length d ≡ k → length l ≡ length t → All Ok d → All Ok l → Tiled sh t
        → All (λ (s : S). All Q (view s)) l
        → GridsOf view Ok cl (map view d) (grid_passes k (each_at (λ j. map (piece_at j)) k t) (d ++ l))
        (walk₂ (λ m. walk₂ (U m) 0) k (map view l) (map (map Some) (map layer_states t)))
    grid_passes_lem k d [] [] hd hl td tl tg o = rw append-nil record { tiled = td; same = rw append-nil; conflict = refl }
    grid_passes_lem k d [] (r ∷ t) hd hl td tl tg o = absurd (omega arith)
    grid_passes_lem k d (s ∷ l) [] hd hl td tl tg o = absurd (omega arith)
    grid_passes_lem k d (s ∷ l) (r ∷ t) hd hl td tl tg o =
        let w = row_passes k r s in let m = row_passes_lem k r s 0 [] (view s) tg.0 tl.0 refl refl o.0 in
        let long : length (d ++ (w.value ∷ [])) ≡ suc k = rw length-append (omega arith) in
        let ih = grid_passes_lem (suc k) (d ++ (w.value ∷ [])) l t long (omega arith)
        (all_join _ d (w.value ∷ []) td (m.ok, tt)) tl.1 tg.1 o.1 in
        rw (passes_append (λ (q : Piece). walk (pass q) 0) (map (piece_at k) r) _ (d ++ (s ∷ l)), row_in_grid k r d s l hd)
        (after_row view Ok cl d w.value l _ w.conflict _ _ _ (all_join _ d (w.value ∷ l) td (m.ok, tl.1)) m.same
        m.conflict (rw append_assoc at ih))

    -- a Many texture handed in: its pieces, and all of its subresources
    pub set_passes : (l : List S) (t : List (List Range)) → length l ≡ length t → All Ok l → Tiled sh t → All (λ (s : S). All Q (view s)) l
        → GridsOf view Ok cl [] (passes (λ (q : Piece). walk (pass q) 0) (pieces_of t) l) (walk₂ (λ m. walk₂ (U m) 0) 0 (map view l)
        (map (map Some) (map layer_states t)))
    set_passes l t hl tl tg o = grid_passes_lem 0 [] l t refl hl tt tl tg o

    -- a selector handed in: one piece
    pub place_pass : (q : Piece) (l : List S) → length l ≡ sh.mips → All Ok l → All (λ (s : S). All Q (view s)) l
        → q.selector.layers.start.0 < q.selector.layers.end.0 → q.selector.layers.end.0 ≤ sh.layers
        → GridsOf view Ok cl [] (passes (λ (q : Piece). walk (pass q) 0) (q ∷ []) l) (walk₂ (λ m. walk₂ (U m) 0) 0 (map view l)
        (tab (named_row sh q.selector q.state) 0 sh.mips))
    place_pass q l hl tl o h g =
        let r = lockstep view cl Okay Ok (λ s t. t.0) (pass q) (λ m. walk₂ (U m) 0)
        (named_row sh q.selector q.state) one 0 l (all_both Ok (λ (s : S). All Q (view s)) l tl o) in
        rw (one_pass (walk (pass q) 0 l)) record { tiled = r.0; same = rw hl at r.1.0; conflict = rw hl at r.1.1 }
      where
        Okay : S → Type 0
        Okay s = Ok s × All Q (view s)

        one : (k : ℕ) (s : S) → Okay s → Ok (pass q k s).value
            × Sim view cl (pass q k s) (walk₂ (U k) 0 (view s) (named_row sh q.selector q.state k))
        one k s t = go (in_mips q.selector k) refl
          where
            go : (b : Bool) → in_mips q.selector k ≡ b → Ok (pass q k s).value
                × Sim view cl (pass q k s) (walk₂ (U k) 0 (view s)
                (if b then band q.selector.layers.start.0 q.selector.layers.end.0 sh.layers (Some q.state) None
                else replicate sh.layers None))
            go true b =
                let a = q.selector.layers.start.0 in let e = q.selector.layers.end.0 in
                let d = thirds (view s) a e (omega arith) (omega (arith, full_length s t.0)) in
                let all = all_right Q d.before _ (rw d.parts at t.1) in
                let m = R.names q k s d.before d.run d.after b h g t.0 d.first d.middle d.parts
                (all_left Q d.run _ all) in
                let u = rw (← d.parts) at (row_parts_of (U k) (blank k) q.state a e sh.layers d.before d.run d.after
                d.first d.middle (omega arith) g) in (
                  m.ok,
                  (
                    m.same ∙ ap (λ (x : Stop D (List C)). x.value) (sym u),
                    m.conflict
                        ∙ ap (λ (x : Stop D (List C)). x.conflict) (sym u),
                  ),
                )
            go false b = rw (R.skips q k s b, unnamed_of (U k) (blank k)) (t.0, (refl, refl))
