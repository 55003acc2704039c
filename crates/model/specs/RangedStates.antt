-- range.rs on plain lists: `RangedStates` (01: a strip) is a list of ranges, each with a state.
use Rattle.std.specs.Prelude.{◌-◌, ◌<◌, ◌≡◌, ◌&&◌, ◌∷◌, ◌++◌, if◌then◌else◌}
use Rattle.model.specs.Prelude.{ℕ, min, max, Bool, List, [], map, leb, ltb, eqb, replicate}
use Rattle.model.specs.{declared.Range.Range}

-- "a start, an end and a state"
abbrev pub range : ℕ → ℕ → ℕ → Range
range a e s = record { start = a; end = e; state = s }

-- ---- `coalesce`
-- the test of the Rust: `cur.0.end == next.0.start && cur.1 == next.1`
abbrev pub joins : Range → Range → Bool
joins r n = eqb r.end n.start && eqb r.state n.state

-- the loop: `cur` takes on what it joins, or is done and the next range is `cur`
unfoldable pub coalesce_from : Range → List Range → List Range
coalesce_from cur [] = cur ∷ []
coalesce_from cur (n ∷ s) = if joins cur n then coalesce_from (range cur.start n.end cur.state) s else cur ∷ coalesce_from n s

-- "joins touching equals"
unfoldable pub coalesce : List Range → List Range
unfolding coalesce_from
coalesce [] = []
coalesce (r ∷ s) = coalesce_from r s

-- ---- `iter_filter`
-- "lists overlaps clipped": those with what lies from a to e
unfoldable pub iter_filter : ℕ → ℕ → List Range → List Range
iter_filter a e [] = []
iter_filter a e (r ∷ s) =
    let rest = iter_filter a e s in
    if ltb a r.end && ltb r.start e then range (max r.start a) (min r.end e) r.state ∷ rest else rest

-- ---- `isolate`
-- what lies before the index, its run, and what lies after
pub record Cut : Type 0 where
  pub before : List Range
  pub run : List Range
  pub after : List Range

-- the list after it; the run's position is the length of `before`
abbrev pub list_of : Cut → List Range
list_of c = c.before ++ (c.run ++ c.after)

-- a range that ends before the index, in front
abbrev pub with_before : Range → Cut → Cut
with_before r c = record { before = r ∷ c.before; run = c.run; after = c.after }

-- the run and what follows it, from a place on
pub record Rest : Type 0 where
  pub run : List Range
  pub after : List Range

-- a run and what follows it
abbrev pub rest : List Range → List Range → Rest
rest x y = record { run = x; after = y }

-- more ranges at the front of the run
abbrev pub with_run : List Range → Rest → Rest
with_run rs c = rest (rs ++ c.run) c.after

-- what lies before the index, with the run and what follows it
abbrev pub cut_at : List Range → Rest → Cut
cut_at b c = record { before = b; run = c.run; after = c.after }

-- the loop: p is `range_pos`, where the run has come to
unfoldable pub isolate_from : ℕ → ℕ → ℕ → List Range → Rest
isolate_from p e d [] = rest (range p e d ∷ []) []
isolate_from p e d (r ∷ s) =
    if leb e r.start then rest (range p e d ∷ []) (r ∷ s)
    else with_run (if ltb p r.start then range p r.start d ∷ [] else [])
    (if ltb e r.end then rest (range (max p r.start) e r.state ∷ []) (range e r.end r.state ∷ s)
    else if eqb e r.end then rest (r ∷ []) s
    else with_run (r ∷ []) (isolate_from r.end e d s))

-- "makes the index a run of ranges of its own, gaps filled with the default": the index is a .. e
unfoldable pub isolate : ℕ → ℕ → ℕ → List Range → Cut
unfolding isolate_from
isolate a e d [] = cut_at [] (isolate_from a e d [])
isolate a e d (r ∷ s) =
    if leb r.end a then with_before r (isolate a e d s)
    else if ltb r.start a then cut_at (range r.start a r.state ∷ []) (isolate_from a e d (range a r.end r.state ∷ s))
    else cut_at [] (isolate_from a e d (r ∷ s))

-- ---- An isolated run takes one state
-- a range in another state
abbrev pub in_state : ℕ → Range → Range
in_state st r = range r.start r.end st

-- the run of a .. e takes a state: what `insert`, `merge` and `update` do with an isolated run
unfoldable pub paint : ℕ → ℕ → ℕ → ℕ → List Range → List Range
unfolding isolate
paint unknown a e st s = let c = isolate a e unknown s in c.before ++ (map (in_state st) c.run ++ c.after)

-- ---- Layer by layer
-- "a cell has the state of the range with its layer": one state a layer
unfoldable pub layer_states : List Range → List ℕ
layer_states [] = []
layer_states (r ∷ s) = replicate (r.end - r.start) r.state ++ layer_states s

-- ---- Tiling
-- "tiles layer 0 to the last with nonempty ascending ranges": from a to e
abbrev pub Tiles : ℕ → List Range → ℕ → Type 0
Tiles a [] e = a ≡ e
Tiles a (r ∷ s) e = (r.start ≡ a) × (a < r.end) × Tiles r.end s e
