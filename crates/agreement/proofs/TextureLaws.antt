-- One texture in a scope: the ranged model's insert and merge are the grid's.
use Rattle.model.specs.Prelude.{ℕ, zero, suc, dec_lt, arith, refl, sym, ap, ◌∙◌, Bool, true, false, Option, None, Some, option_map, List}
use Rattle.model.specs.Prelude.{[], map, append-nil, replicate, length, length-replicate, length-append, length-map, le-leb, lt-ltb, lt-leb}
use Rattle.model.specs.declared.{Extent.Extent, InvalidUse.InvalidUse, Range.Range, Selector.Selector, UsageFlags.UsageFlags}
use Rattle.model.specs.Base.{each_at, Stop, fine, stopped, ruled, or_keep, and_then, passes, onward, walk, walk₂, zip₂, All}
use Rattle.model.specs.{Representation.{select, full, in_mips}, StateRules.{unite, unite_known}}
use Rattle.model.specs.RangedStates.{range, coalesce, paint, layer_states, Tiles}
use Rattle.model.specs.Texture.{Held, single, many, Given, given_single, given_many, Piece, invalid_use, pieces_of, on_mips, fresh_mips}
use Rattle.model.specs.{Texture.{paint_all, insert, merge_mip, merge_every, spread_piece, merge}, Subresources.everywhere}
use Rattle.model.specs.{ListLaws.{all_join, all_replicate, map_replicate}, BoolLaws.{by_test, by_test₂}, RangeLaws.tiles_length}
use Rattle.std.specs.Prelude.{◌-◌, ◌+◌, ◌≤◌, ◌<◌, ◌≡◌, ◌∷◌, ◌++◌, if◌then◌else◌}
use Rattle.agreement.specs.Grid.{Named, SubresourceConflict, unite_state, unite_states, tab, named_row, named_or, grid_insert, grid_merge}
use Rattle.agreement.specs.Shared.{first_of, grid_of}
use Rattle.agreement.proofs.{WalkLaws.{Sim, lockstep, walk_length}, PaintLaws.{paint_states, painted_states}}
use Rattle.agreement.proofs.RulesAgree.{rule_merge, merge_rule}
use Rattle.agreement.proofs.MergeLaws.{Runs, Tiled, ranges_sim, run_sim, over_ranges, row_parts, row_united, row_conflict, settled_same}
use Rattle.agreement.proofs.{Passes.piece_at, PieceLaws.{Pass, GridsAll, set_passes, place_pass}}
use Rattle.agreement.proofs.GridLaws.{all_of, map_everywhere, grid_walks}

abbrev pub Measured : Extent → Type 0
Measured sh = (0 < sh.mips) × (0 < sh.layers)

-- what holds of a texture that the ranged model holds
abbrev pub Fit : Extent → Held → Type 0
Fit sh (single st) = Measured sh
Fit sh (many ss) = Measured sh × (length ss ≡ sh.mips) × Tiled sh ss

-- one use, as the ranged model and as the grid are given it
pub data Gives (sh : Extent) : Given → Named → Type 0 where
  gives_one : {st : ℕ} → Gives sh (given_single st) (record { single = true; states = everywhere sh (Some st) })
  gives_place : {q : Piece} → q.selector.layers.start.0 < q.selector.layers.end.0 → q.selector.layers.end.0 ≤ sh.layers
      → q.selector.mips.start.0 < q.selector.mips.end.0 → q.selector.mips.end.0 ≤ sh.mips
      → Gives sh (given_many (q ∷ [])) (record { single = false; states = tab (named_row sh q.selector q.state) 0 sh.mips })
  gives_set : (ss : List (List Range)) → length ss ≡ sh.mips → Tiled sh ss
      → Gives sh (given_many (pieces_of ss)) (record { single = false; states = map (map Some) (map layer_states ss) })

pub record Manys (sh : Extent) (f : ℕ → ℕ → Option ℕ) (pass : Piece → ℕ → List Range → Stop InvalidUse (List Range))
    (ss : List (List Range)) (qs : List Piece) (n : Named) : Type 0 where
  pub single : n.single ≡ false
  pub grids : GridsAll sh [] (passes (λ (q : Piece). walk (pass q) 0) qs ss) (unite_states f (map layer_states ss) n.states)

pub many_pass : (sh : Extent) (f : ℕ → ℕ → Option ℕ) (Q : ℕ → Type 0) (pass : Piece → ℕ → List Range → Stop InvalidUse (List Range))
    → Pass sh f Q pass
    → (ss : List (List Range)) → length ss ≡ sh.mips → Tiled sh ss → All (λ (s : List Range). All Q (layer_states s)) ss
    → (qs : List Piece) (n : Named) → Gives sh (given_many qs) n → Manys sh f pass ss qs n
many_pass sh f Q pass R ss h t o qs n (gives_place {q} a b c d) = record { single = refl; grids = place_pass sh f Q pass R q ss h t o a b }
many_pass sh f Q pass R ss h t o qs n (gives_set g hg tg) =
    record { single = refl; grids = set_passes sh f Q pass R ss g (omega arith) t tg o }

-- ---- Many with pieces
merge_skips : (p : UsageFlags) (q : Piece) (k : ℕ) (s : List Range) → in_mips q.selector k ≡ false → merge_mip p q k s ≡ fine s
unfolding merge_mip
merge_skips p q k s e = rw e

merge_pass : (p : UsageFlags) (sh : Extent) → Pass sh (unite_known p) (λ c. Unit {0}) (merge_mip p)
merge_pass p sh = record {
  skips = merge_skips p;
  names = λ q k s x y z b h g t hx hy e o.
      let r = ranges_sim p sh q k s h g t in
      rw (
        b,
        e,
        row_parts (unite_known p) k q.state q.selector.layers.start.0 q.selector.layers.end.0
            sh.layers x y z hx hy (omega arith) g,
      ) at r;
}

any_ranges : (ss : List (List Range)) → All (λ (s : List Range). All (λ c. Unit {0}) (layer_states s)) ss
any_ranges = all_of _ (λ s. all_of _ (λ c. tt) (layer_states s))

abbrev pub Merges : UsageFlags → Extent → Held → Given → Named → Type 0
Merges p sh h g n = Fit sh (merge p sh h g).value × Sim (grid_of sh) first_of (merge p sh h g) (rule_merge p sh (grid_of sh h) n)

pub grids_length : (sh : Extent) (f : ℕ → ℕ → Option ℕ) (w : Stop InvalidUse (List (List Range)))
    (ss : List (List Range)) (n : List (List (Option ℕ)))
    → GridsAll sh [] w (unite_states f (map layer_states ss) n) → length w.value ≡ length ss
grids_length sh f w ss n g =
    sym (length-map w.value layer_states) ∙ ap length g.same
    ∙ walk_length (λ m. walk₂ (unite_state f m) 0) 0 (map layer_states ss) n ∙ length-map ss layer_states

many_many : (p : UsageFlags) (sh : Extent) (ss : List (List Range)) (qs : List Piece) (n : Named) → Measured sh
    → length ss ≡ sh.mips → Tiled sh ss
    → Gives sh (given_many qs) n → Merges p sh (many ss) (given_many qs) n
unfolding merge rule_merge grid_of
many_many p sh ss qs n e h t g =
    let m = many_pass sh (unite_known p) (λ c. Unit {0}) (merge_mip p) (merge_pass p sh) ss h t (any_ranges ss) qs n g in (
      (
        e,
        grids_length sh (unite_known p) (passes (λ (q : Piece). walk (merge_mip p q) 0) qs ss) ss n.states m.grids ∙ h,
        m.grids.tiled,
      ),
      (ap (λ (x : List (List ℕ)). record { single = false; states = x }) m.grids.same, m.grids.conflict),
    )

-- ---- Many with one state
tab_same : {A : Type 0} (x : A) (k n : ℕ) → tab (λ j. x) k n ≡ replicate n x
tab_same x k zero = refl
tab_same x k (suc n) = rw (tab_same x (suc k) n)

every_range_list : (p : UsageFlags) (sh : Extent) (new k : ℕ) (s : List Range) → Tiles 0 s sh.layers
    → Tiles 0 (merge_every p new k s).value sh.layers
    × Sim layer_states first_of (merge_every p new k s) (walk₂ (unite_state (unite_known p) k) 0 (layer_states s)
    (replicate sh.layers (Some new)))
unfolding merge_every
every_range_list p sh new k s t =
    let r = run_sim p k new s 0 sh.layers 0 t in
    let q = settled_same (over_ranges p k new 0 s).conflict (over_ranges p k new 0 s).value 0 sh.layers r.ok in
    let z : sh.layers - 0 ≡ sh.layers = omega arith in
    (q.0, (q.1 ∙ (rw z at r.same), rw z at r.conflict))

many_one : (p : UsageFlags) (sh : Extent) (ss : List (List Range)) (new : ℕ) → Measured sh → length ss ≡ sh.mips → Tiled sh ss
    → Merges p sh (many ss) (given_single new) (record { single = true; states = everywhere sh (Some new) })
unfolding merge rule_merge grid_of
many_one p sh ss new e h t =
    let r = lockstep layer_states first_of (λ (s : List Range). Tiles 0 s sh.layers)
    (λ (s : List Range). Tiles 0 s sh.layers) (λ s t. t) (merge_every p new)
    (λ m. walk₂ (unite_state (unite_known p) m) 0) (λ j. replicate sh.layers (Some new)) (every_range_list p sh new) 0 ss t in
    let q = rw (h, tab_same (replicate sh.layers (Some new)) 0 sh.mips) at r.1 in
    let g : GridsAll sh [] (walk (merge_every p new) 0 ss) (unite_states (unite_known p) (map layer_states ss) (everywhere sh (Some new))) =
    record { tiled = r.0; same = q.0; conflict = q.1 } in (
      (e, grids_length sh (unite_known p) (walk (merge_every p new) 0 ss) ss (everywhere sh (Some new)) g ∙ h, r.0),
      (ap (λ (x : List (List ℕ)). record { single = false; states = x }) q.0, q.1),
    )

-- ---- subresources of one state that are given one state
module _ (f : ℕ → ℕ → Option ℕ) (cur new : ℕ) where
  grid_united : (w u : ℕ) → f cur new ≡ Some u → (k n : ℕ)
      → walk₂ (λ m. walk₂ (unite_state f m) 0) k (replicate n (replicate w cur)) (replicate n (replicate w (Some new)))
      ≡ fine (replicate n (replicate w u))
  grid_united w u e k zero = refl
  grid_united w u e k (suc n) = rw (row_united f k cur new u e 0 w, grid_united w u e (suc k) n)

  grid_conflict : (w : ℕ) → f cur new ≡ None → (k n : ℕ) → 0 < n → 0 < w
      → walk₂ (λ m. walk₂ (unite_state f m) 0) k (replicate n (replicate w cur)) (replicate n (replicate w (Some new)))
      ≡ stopped (replicate n (replicate w cur)) (record { mip = k; layer = 0; old = cur; new = new })
  grid_conflict w e k zero h g = absurd (omega arith)
  grid_conflict w e k (suc n) h g = rw (row_conflict f k cur new e 0 w g)

single_one : (p : UsageFlags) (sh : Extent) (cur new : ℕ) → Measured sh
    → Merges p sh (single cur) (given_single new) (record { single = true; states = everywhere sh (Some new) })
unfolding merge rule_merge grid_of
single_one p sh cur new e = go (unite p cur new) refl
  where
    v : Stop SubresourceConflict (List (List ℕ))
    v = unite_states (unite p) (everywhere sh cur) (everywhere sh (Some new))

    go : (o : Option ℕ) → unite p cur new ≡ o
        → (let w = ruled (single cur) (invalid_use (full sh) cur new) (option_map single o) in
        Fit sh w.value × Sim (grid_of sh) first_of w (or_keep v.conflict (record { single = true; states = everywhere sh cur })
        (record { single = true; states = v.value })))
    go None q = rw (grid_conflict (unite p) cur new sh.layers q 0 sh.mips e.0 e.1) (e, (refl, refl))
    go (Some u) q = rw (grid_united (unite p) cur new sh.layers u q 0 sh.mips) (e, (refl, refl))

-- ---- insert
row_painted : (k l st : ℕ) (y : List ℕ) (n : ℕ) → length y ≡ n
    → walk₂ (unite_state (λ c new. Some new) k) l y (replicate n (Some st)) ≡ fine (replicate n st)
row_painted k l st [] zero h = refl
row_painted k l st [] (suc n) h = absurd (omega arith)
row_painted k l st (c ∷ y) zero h = absurd (omega arith)
row_painted k l st (c ∷ y) (suc n) h = rw (row_painted k (suc l) st y n (omega arith))

abbrev insert_pass : ℕ → Piece → ℕ → List Range → Stop InvalidUse (List Range)
insert_pass u q k s = fine (if in_mips q.selector k then paint u q.selector.layers.start.0 q.selector.layers.end.0 q.state s
    else s)

insert_pass_lem : (u : ℕ) (sh : Extent) → Pass sh (λ c new. Some new) (λ c. Unit {0}) (insert_pass u)
insert_pass_lem u sh = record {
  skips = λ q k s e. rw e;
  names = λ q k s x y z b h g t hx hy e o.
      let m = paint_states u q.selector.layers.start.0 q.selector.layers.end.0 q.state sh.layers s x y z h g t hx hy e in
      rw (b, row_painted k q.selector.layers.start.0 q.state y (q.selector.layers.end.0 - q.selector.layers.start.0) hy)
      record { ok = m.0; same = m.1; conflict = refl };
}

pub walk_fine : (q : Selector) (g : List Range → List Range) (k : ℕ) (ss : List (List Range))
    → walk {C = InvalidUse} (λ j s. fine (if in_mips q j then g s else s)) k ss ≡ fine (on_mips q g k ss)
walk_fine q g k [] = refl
walk_fine q g k (s ∷ ss) = rw (walk_fine q g (suc k) ss)

passes_fine : (u : ℕ) (qs : List Piece) (ss : List (List Range))
    → passes (λ (q : Piece). walk (insert_pass u q) 0) qs ss ≡ fine (paint_all u qs ss)
unfolding paint_all
passes_fine u [] ss = refl
passes_fine u (q ∷ qs) ss =
    rw (walk_fine q.selector (paint u q.selector.layers.start.0 q.selector.layers.end.0 q.state) 0 ss)
    (passes_fine u qs _)

-- a new texture's mips
pub mips_states : (sh : Extent) (st : ℕ) → map layer_states (fresh_mips sh st) ≡ everywhere sh st
unfolding layer_states
mips_states sh st = let z : sh.layers - 0 ≡ sh.layers = omega arith in
    map_replicate layer_states sh.mips (range 0 sh.layers st ∷ []) ∙ rw (append-nil, z)

pub mips_tiled : (sh : Extent) (st : ℕ) → 0 < sh.layers → Tiled sh (fresh_mips sh st)
mips_tiled sh st h = all_replicate (λ (s : List Range). Tiles 0 s sh.layers) (range 0 sh.layers st ∷ []) sh.mips (refl, h, refl)

-- the named subresources fill the extent
abbrev pub Fills : Extent → List (List (Option ℕ)) → Type 0
Fills sh n = (length n ≡ sh.mips) × All (λ (r : List (Option ℕ)). length r ≡ sh.layers) n

length_tab : {A : Type 0} (f : ℕ → A) (k n : ℕ) → length (tab f k n) ≡ n
length_tab f k zero = refl
length_tab f k (suc n) = ap suc (length_tab f (suc k) n)

fills_place : (sh : Extent) (q : Selector) (st k n : ℕ) → q.layers.start.0 < q.layers.end.0 → q.layers.end.0 ≤ sh.layers
    → All (λ (r : List (Option ℕ)). length r ≡ sh.layers) (tab (named_row sh q st) k n)
fills_place sh q st k zero h g = tt
fills_place sh q st k (suc n) h g = (
  by_test (λ (r : List (Option ℕ)). length r ≡ sh.layers) (in_mips q k)
      (λ b. simp (length-append, length-replicate) (omega arith))
      (λ b. length-replicate sh.layers None),
  fills_place sh q st (suc k) n h g,
)

fills_set : (sh : Extent) (ss : List (List Range)) → Tiled sh ss
    → All (λ (r : List (Option ℕ)). length r ≡ sh.layers) (map (map Some) (map layer_states ss))
fills_set sh [] t = tt
fills_set sh (s ∷ ss) t = (length-map (layer_states s) Some ∙ tiles_length s 0 sh.layers t.0 ∙ omega arith, fills_set sh ss t.1)

pub fills : (sh : Extent) (qs : List Piece) (n : Named) → Gives sh (given_many qs) n → Fills sh n.states
fills sh qs n (gives_place {q} a b c d) =
    (length_tab (named_row sh q.selector q.state) 0 sh.mips, fills_place sh q.selector q.state 0 sh.mips a b)
fills sh qs n (gives_set g hg tg) = (length-map (map layer_states g) (map Some) ∙ length-map g layer_states ∙ hg, fills_set sh g tg)

over_fine : (m l c : ℕ) (o : Option ℕ) → unite_state (λ c new. Some new) m l c o ≡ fine (named_or c o)
over_fine m l c None = refl
over_fine m l c (Some st) = refl

zip_replicate : {A B D : Type 0} (f : A → B → D) (x : A) (t : List B) (n : ℕ) → length t ≡ n → zip₂ f (replicate n x) t ≡ map (f x) t
zip_replicate f x [] zero h = refl
zip_replicate f x [] (suc n) h = absurd (omega arith)
zip_replicate f x (y ∷ t) zero h = absurd (omega arith)
zip_replicate f x (y ∷ t) (suc n) h = rw (zip_replicate f x t n (omega arith))

zip_rows : (u w : ℕ) (n : List (List (Option ℕ))) → All (λ (r : List (Option ℕ)). length r ≡ w) n
    → map (zip₂ named_or (replicate w u)) n ≡ map (map (named_or u)) n
zip_rows u w [] t = refl
zip_rows u w (r ∷ n) t = rw (zip_replicate named_or u r w t.0, zip_rows u w n t.1)

over_everywhere : (u : ℕ) (sh : Extent) (n : List (List (Option ℕ))) → Fills sh n
    → unite_states (λ c new. Some new) (everywhere sh u) n ≡ fine (map (map (named_or u)) n)
over_everywhere u sh n f =
    let row = length-replicate sh.layers u in
    grid_walks named_or (unite_state (λ c new. Some new)) over_fine 0 sh.layers (everywhere sh u) n (length-replicate sh.mips _
    ∙ sym f.0) (all_replicate (λ (r : List ℕ). length r ≡ sh.layers) _ sh.mips row) f.1
    ∙ rw (zip_replicate (zip₂ named_or) (replicate sh.layers u) n sh.mips f.0, zip_rows u sh.layers n f.1)

pub inserted : (p : UsageFlags) (sh : Extent) (g : Given) (n : Named) → Measured sh → Gives sh g n
    → Fit sh (insert p sh g) × (grid_of sh (insert p sh g) ≡ grid_insert p sh n)
unfolding insert grid_of
inserted p sh (given_single st) n e gives_one = (e, rw (map_everywhere (named_or p.unknown) sh (Some st)))
inserted p sh (given_many qs) n e g = (
  (
    e,
    grids_length sh (λ c new. Some new) (fine (paint_all p.unknown qs (fresh_mips sh p.unknown))) (fresh_mips sh
        p.unknown) n.states G ∙ long,
    G.tiled,
  ),
  λ i. record { single = sym m.single i; states = same i },
)
  where
    long : length (fresh_mips sh p.unknown) ≡ sh.mips
    long = length-replicate sh.mips _

    m : Manys sh (λ c new. Some new) (insert_pass p.unknown) (fresh_mips sh p.unknown) qs n
    m = many_pass sh (λ c new. Some new) (λ c. Unit {0}) (insert_pass p.unknown) (insert_pass_lem p.unknown sh)
        (fresh_mips sh p.unknown) long
        (mips_tiled sh p.unknown e.1) (any_ranges (fresh_mips sh p.unknown)) qs n g

    G : GridsAll sh [] (fine (paint_all p.unknown qs (fresh_mips sh p.unknown)))
        (unite_states (λ c new. Some new) (map layer_states (fresh_mips sh p.unknown)) n.states)
    G = rw (passes_fine p.unknown qs (fresh_mips sh p.unknown)) at m.grids

    same : map layer_states (paint_all p.unknown qs (fresh_mips sh p.unknown)) ≡ map (map (named_or p.unknown)) n.states
    same = let f = fills sh qs n g in
        G.same ∙ rw (mips_states, over_everywhere p.unknown sh n.states f)

-- ---- a Single texture with pieces
pub all_same : (cur : ℕ) (y : List ℕ) → All (λ (c : ℕ). c ≡ cur) y → y ≡ replicate (length y) cur
all_same cur [] t = refl
all_same cur (c ∷ y) t = rw (t.0, ← all_same cur y t.1)

abbrev spread_pass : UsageFlags → ℕ → Piece → ℕ → List Range → Stop InvalidUse (List Range)
spread_pass p cur q k s =
    if in_mips q.selector k then
    ruled s (invalid_use (select k (suc k) q.selector.layers.start.0 q.selector.layers.end.0) cur q.state)
    (option_map (λ u. coalesce (paint p.unknown q.selector.layers.start.0 q.selector.layers.end.0 u s))
    (unite p cur q.state))
    else fine s

spread_pass_lem : (p : UsageFlags) (sh : Extent) (cur : ℕ) → Pass sh (unite p) (λ (c : ℕ). c ≡ cur) (spread_pass p cur)
spread_pass_lem p sh cur = record {
  skips = λ q k s e. rw e;
  names = λ q k s x y z b h g t hx hy e o. rw b (named q k s x y z h g t hx hy e o (unite p cur q.state) refl);
}
  where
    named : (q : Piece) (k : ℕ) (s : List Range) (x y z : List ℕ) → q.selector.layers.start.0 < q.selector.layers.end.0
        → q.selector.layers.end.0 ≤ sh.layers → Tiles 0 s sh.layers
        → length x ≡ q.selector.layers.start.0 → length y ≡ q.selector.layers.end.0 - q.selector.layers.start.0
        → layer_states s ≡ x ++ (y ++ z) → All (λ (c : ℕ). c ≡ cur) y
        → (r : Option ℕ) → unite p cur q.state ≡ r
        → (let v = walk₂ (unite_state (unite p) k) q.selector.layers.start.0 y
        (replicate (q.selector.layers.end.0 - q.selector.layers.start.0) (Some q.state)) in
        Runs 0 sh.layers (ruled s
        (invalid_use (select k (suc k) q.selector.layers.start.0 q.selector.layers.end.0) cur q.state)
        (option_map (λ u. coalesce (paint p.unknown q.selector.layers.start.0 q.selector.layers.end.0 u s)) r))
        (record { value = x ++ (v.value ++ z); conflict = v.conflict }))
    named q k s x y z h g t hx hy e o None d =
        let c : y ≡ replicate (q.selector.layers.end.0 - q.selector.layers.start.0) cur = all_same cur y o
        ∙ ap (λ (n : ℕ). replicate n cur) hy in
        let w = row_conflict (unite p) k cur q.state d q.selector.layers.start.0
        (q.selector.layers.end.0 - q.selector.layers.start.0) (omega arith) in
        rw (c, w) record { ok = t; same = rw c at e; conflict = refl }
    named q k s x y z h g t hx hy e o (Some u) d =
        let c : y ≡ replicate (q.selector.layers.end.0 - q.selector.layers.start.0) cur = all_same cur y o
        ∙ ap (λ (n : ℕ). replicate n cur) hy in
        let w = row_united (unite p) k cur q.state u d q.selector.layers.start.0
        (q.selector.layers.end.0 - q.selector.layers.start.0) in
        let m = painted_states p.unknown q.selector.layers.start.0 q.selector.layers.end.0 u
        sh.layers s x y z h g t hx hy e in
        rw (c, w) record { ok = m.0; same = m.1; conflict = refl }

walk_painted : (q : Selector) (g : List Range → List Range) (k : ℕ) (ss : List (List Range))
    → walk {C = InvalidUse} (λ j s. if in_mips q j then fine (g s) else fine s) k ss ≡ fine (on_mips q g k ss)
walk_painted q g k [] = refl
walk_painted q g k (s ∷ ss) =
    rw (walk_painted q g (suc k) ss)
    (by_test₂ (λ (w : Stop InvalidUse (List Range)) (x : List Range). onward w.value w.conflict ss (fine (on_mips q g (suc k) ss))
    ≡ fine (x ∷ on_mips q g (suc k) ss)) (in_mips q k)
    (λ b. refl) (λ b. refl))

-- every mip of the place conflicts: the first one does
walk_first : (q : Selector) (c : ℕ → InvalidUse) (k : ℕ) (ss : List (List Range)) → k ≤ q.mips.start.0
    → q.mips.start.0 < q.mips.end.0 → q.mips.start.0 < k + length ss
    → walk (λ j s. if in_mips q j then stopped s (c j) else fine s) k ss ≡ stopped ss (c q.mips.start.0)
walk_first q c k [] h g l = absurd (omega arith)
walk_first q c k (s ∷ ss) h g l = go (λ d. walk_first q c (suc k) ss d g (omega arith)) (dec_lt k q.mips.start.0)
  where
    go : (suc k ≤ q.mips.start.0 → walk (λ j s. if in_mips q j then stopped s (c j) else fine s) (suc k) ss
        ≡ stopped ss (c q.mips.start.0))
        → Dec (k < q.mips.start.0)
        → walk (λ j s. if in_mips q j then stopped s (c j) else fine s) k (s ∷ ss) ≡ stopped (s ∷ ss) (c q.mips.start.0)
    go ih (yes d) = rw (lt-leb q.mips.start.0 k d, ih d)
    go ih (no d) = let e : k ≡ q.mips.start.0 = omega arith in
        rw (e, le-leb q.mips.start.0 q.mips.start.0 (omega arith), lt-ltb q.mips.start.0 q.mips.end.0 g)

length_on_mips : (q : Selector) (g : List Range → List Range) (k : ℕ) (ss : List (List Range)) → length (on_mips q g k ss) ≡ length ss
length_on_mips q g k [] = refl
length_on_mips q g k (s ∷ ss) = ap suc (length_on_mips q g (suc k) ss)

abbrev InMips : ℕ → Piece → Type 0
InMips n q = (q.selector.mips.start.0 < q.selector.mips.end.0) × (q.selector.mips.end.0 ≤ n)

-- the Rust's pass over a piece, and the same mip by mip
spread_same : (p : UsageFlags) (cur n : ℕ) (qs : List Piece) (ss : List (List Range)) → length ss ≡ n → All (InMips n) qs
    → ((passes (spread_piece p cur) qs ss).value ≡ (passes (λ (q : Piece). walk (spread_pass p cur q) 0) qs ss).value)
    × (option_map first_of (passes (spread_piece p cur) qs ss).conflict
    ≡ option_map first_of (passes (λ (q : Piece). walk (spread_pass p cur q) 0) qs ss).conflict)
unfolding spread_piece
spread_same p cur n [] ss h t = (refl, refl)
spread_same p cur n (q ∷ qs) ss h t = go (unite p cur q.state) (λ ss' h'. spread_same p cur n qs ss' h' t.1)
  where
    F : Option ℕ → ℕ → List Range → Stop InvalidUse (List Range)
    F o k s = if in_mips q.selector k
        then ruled s (invalid_use (select k (suc k) q.selector.layers.start.0 q.selector.layers.end.0) cur q.state)
        (option_map (λ u. coalesce (paint p.unknown q.selector.layers.start.0 q.selector.layers.end.0 u s)) o) else fine s

    S : Option ℕ → Stop InvalidUse (List (List Range))
    S o = ruled ss (invalid_use q.selector cur q.state)
        (option_map (λ u. on_mips q.selector
        (λ s. coalesce (paint p.unknown q.selector.layers.start.0 q.selector.layers.end.0 u s)) 0 ss) o)

    A : List (List Range) → Stop InvalidUse (List (List Range))
    A = passes (spread_piece p cur) qs

    B : List (List Range) → Stop InvalidUse (List (List Range))
    B = passes (λ (q : Piece). walk (spread_pass p cur q) 0) qs

    go : (o : Option ℕ)
        → ((x : List (List Range)) → length x ≡ n → ((A x).value ≡ (B x).value)
        × (option_map first_of (A x).conflict ≡ option_map first_of (B x).conflict))
        → ((and_then (S o).conflict (S o).value (A (S o).value)).value
        ≡ (and_then (walk (F o) 0 ss).conflict (walk (F o) 0 ss).value (B (walk (F o) 0 ss).value)).value)
        × (option_map first_of (and_then (S o).conflict (S o).value (A (S o).value)).conflict
        ≡ option_map first_of (and_then (walk (F o) 0 ss).conflict (walk (F o) 0 ss).value (B (walk (F o) 0 ss).value)).conflict)
    go None ih =
        rw (walk_first q.selector (λ j. invalid_use (select j (suc j) q.selector.layers.start.0 q.selector.layers.end.0) cur
        q.state) 0 ss (omega arith) t.0.0 (omega arith)) (refl, refl)
    go (Some u) ih =
        rw (walk_painted q.selector
        (λ s. coalesce (paint p.unknown q.selector.layers.start.0 q.selector.layers.end.0 u s)) 0 ss)
        (ih _ (length_on_mips q.selector _ 0 ss ∙ h))

in_mips_lem : (sh : Extent) (qs : List Piece) (n : Named) → Gives sh (given_many qs) n → All (InMips sh.mips) qs
in_mips_lem sh qs n (gives_place {q} a b c d) = ((c, d), tt)
in_mips_lem sh qs n (gives_set g hg tg) = go 0 g (omega arith)
  where
    row : (k : ℕ) (s : List Range) → k < sh.mips → All (InMips sh.mips) (map (piece_at k) s)
    row k [] h = tt
    row k (r ∷ s) h = ((omega arith, h), row k s h)

    go : (k : ℕ) (g : List (List Range)) → k + length g ≤ sh.mips → All (InMips sh.mips) (each_at (λ j. map (piece_at j)) k g)
    go k [] h = tt
    go k (s ∷ g) h = all_join (InMips sh.mips) (map (piece_at k) s) _ (row k s (omega arith)) (go (suc k) g (omega arith))

pub all_cur : (sh : Extent) (cur : ℕ) → All (λ (s : List Range). All (λ (c : ℕ). c ≡ cur) (layer_states s)) (fresh_mips sh cur)
unfolding layer_states
all_cur sh cur = all_replicate (λ (s : List Range). All (λ (c : ℕ). c ≡ cur) (layer_states s)) (range 0 sh.layers cur ∷ []) sh.mips
    (rw append-nil (all_replicate (λ (c : ℕ). c ≡ cur) cur (sh.layers - 0) refl))

kept_sim : (sh : Extent) (cur : ℕ) (ss : List (List Range)) (o : Option InvalidUse) (y : List (List ℕ))
    (o' : Option SubresourceConflict) (mk : Bool)
    → Measured sh → length ss ≡ sh.mips → Tiled sh ss → map layer_states ss ≡ y → option_map first_of o ≡ o' → mk ≡ false
    → Fit sh (or_keep o (single cur) (many ss)).value
    × Sim (grid_of sh) first_of (or_keep o (single cur) (many ss)) (or_keep o' (record { single = true; states = everywhere sh cur })
    (record { single = mk; states = y }))
unfolding grid_of
kept_sim sh cur ss None y o' mk e h t q c m =
    rw (← c, m) ((e, h, t), (ap (λ (x : List (List ℕ)). record { single = false; states = x }) q, refl))
kept_sim sh cur ss (Some z) y o' mk e h t q c m = rw (← c) (e, (refl, refl))

single_many : (p : UsageFlags) (sh : Extent) (cur : ℕ) (qs : List Piece) (n : Named) → Measured sh → Gives sh (given_many qs) n
    → Merges p sh (single cur) (given_many qs) n
unfolding merge rule_merge grid_of
single_many p sh cur qs n e g =
    let long = length-replicate sh.mips (range 0 sh.layers cur ∷ []) in
    let m = many_pass sh (unite p) (λ (c : ℕ). c ≡ cur) (spread_pass p cur) (spread_pass_lem p sh cur) (fresh_mips sh cur) long
    (mips_tiled sh cur e.1) (all_cur sh cur) qs n g in
    let b = spread_same p cur sh.mips qs (fresh_mips sh cur) long (in_mips_lem sh qs n g) in
    let r = rw (mips_states sh cur) at m.grids in
    let l = grids_length sh (unite p) (passes (λ (q : Piece). walk (spread_pass p cur q) 0) qs (fresh_mips sh cur))
    (fresh_mips sh cur) n.states m.grids in
    kept_sim sh cur (passes (spread_piece p cur) qs (fresh_mips sh cur)).value
    (passes (spread_piece p cur) qs (fresh_mips sh cur)).conflict _ _ n.single e
    (rw b.0 (l ∙ long)) (rw b.0 m.grids.tiled) (rw b.0 r.same) (b.1 ∙ r.conflict) m.single

-- ---- all four
rule_merged : (p : UsageFlags) (sh : Extent) (h : Held) (g : Given) (n : Named) → Gives sh g n → Fit sh h → Merges p sh h g n
rule_merged p sh (single cur) (given_single new) n gives_one f = single_one p sh cur new f
rule_merged p sh (single cur) (given_many qs) n g f = single_many p sh cur qs n f g
rule_merged p sh (many ss) (given_single new) n gives_one f = many_one p sh ss new f.0 f.1 f.2
rule_merged p sh (many ss) (given_many qs) n g f = many_many p sh ss qs n f.0 f.1 f.2 g

-- and so is the grid's own merge
pub merged : (p : UsageFlags) (sh : Extent) (h : Held) (g : Given) (n : Named) → Gives sh g n → Fit sh h
    → Fit sh (merge p sh h g).value × Sim (grid_of sh) first_of (merge p sh h g) (grid_merge p sh (grid_of sh h) n)
merged p sh h g n r f = rw (merge_rule p sh (grid_of sh h) n) (rule_merged p sh h g n r f)
