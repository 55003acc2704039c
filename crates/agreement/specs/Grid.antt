-- The grid model: 01, "Sheet rules". Each comment quotes the words of 01 that a definition renders; 01's words for it are: sheet for the
-- grid, cell for a subresource, mark for the flag `single`, whole and parted for Single and Many, clash for a conflict, shape for an
-- extent.
use Rattle.std.specs.Prelude.{◌-◌, ◌&&◌, ◌∷◌, ◌++◌, if◌then◌else◌}
use Rattle.model.specs.Prelude.{ℕ, zero, suc, Bool, true, false, not, Option, None, Some, List, [], map, eqb, bit_and}
use Rattle.model.specs.Prelude.{bit_or, bit_xor, replicate}
use Rattle.model.specs.declared.{Extent.Extent, Selector.Selector, UsageFlags.UsageFlags}
use Rattle.model.specs.{Base.{Stop, fine, ruled, or_keep, walk₂, zip₂, zip₃}, Flags.incompatible}
use Rattle.model.specs.{Representation.{layer_start, layer_end, is_full, in_mips, Ends, Representation}, StateRules.Move}
use Rattle.model.specs.Subresources.{everywhere}

-- ---- A texture: "a mark where a texture is held whole", and "one state for each mip and layer (a cell)", mip by mip
pub record Grid : Type 0 where
  pub single : Bool
  pub states : List (List ℕ)

-- ---- A use: its flag, and the states of the subresources that it names; "all its cells" where a set hands a texture on
pub record Named : Type 0 where
  pub single : Bool
  pub states : List (List (Option ℕ))

-- x from a to e, and y in the rest of n
abbrev pub band : {A : Type 0} → ℕ → ℕ → ℕ → A → A → List A
band a e n x y = replicate a y ++ (replicate (e - a) x ++ replicate (n - e) y)

-- f k, f (k + 1) and so on, n of them
abbrev pub tab : {A : Type 0} → (ℕ → A) → ℕ → ℕ → List A
tab f k zero = []
tab f k (suc n) = f k ∷ tab f (suc k) n

-- mip k of a selector's use
abbrev pub named_row : Extent → Selector → ℕ → ℕ → List (Option ℕ)
named_row sh q st k = if in_mips q k then band (layer_start q) (layer_end q) sh.layers (Some st) None else replicate sh.layers None

-- "A use is *whole* if no selector is given or it equals the full shape, otherwise *parted*."
abbrev pub named_use : Extent → Option Selector → ℕ → Named
named_use sh None st = record { single = true; states = everywhere sh (Some st) }
named_use sh (Some q) st = record { single = is_full sh q; states = tab (named_row sh q st) 0 sh.mips }

-- "A set passes on its own mark and all its cells."
abbrev pub named_all : Grid → Named
named_all s = record { single = s.single; states = map (map Some) s.states }

-- ---- The rules for one subresource, from 01's words; they share nothing with the Rust's
-- "less UNKNOWN"
unfoldable pub without : ℕ → ℕ → ℕ
without bits s = bit_xor s (bit_and s bits)

-- "A union .. that is incompatible is a clash"; "Whole with whole: union"; "Whole with parted: named cells take the union, UNKNOWN left in"
unfoldable pub single_union : UsageFlags → ℕ → ℕ → Option ℕ
unfolding incompatible
single_union p old new = if incompatible p (bit_or old new) then None else Some (bit_or old new)

-- "Parted with either: union less UNKNOWN, a cell left empty keeps its state"
unfoldable pub many_union : UsageFlags → ℕ → ℕ → Option ℕ
unfolding incompatible without
many_union p old new =
    let u = without p.unknown (bit_or old new) in if incompatible p u then None else if eqb u 0 then Some old else Some u

-- "A transition is skipped when old equals new and the mask contains old."
unfoldable pub skipped : ℕ → ℕ → ℕ → Bool
skipped mask old new = eqb old new && eqb (bit_and old mask) old

-- "one transition, end state to given start, unless either is exactly UNKNOWN or it is skipped"
unfoldable pub transition : UsageFlags → ℕ → ℕ → ℕ → Option Move
unfolding skipped
transition p mask end start =
    if eqb end p.unknown then None else if eqb start p.unknown then None else if skipped mask end start then None
    else Some (record { old = end; new = start })

-- "a given end that is not UNKNOWN replaces the end"
unfoldable pub end_state : UsageFlags → ℕ → ℕ → ℕ
end_state p end new = if not (eqb new p.unknown) then new else end

-- "where the end was UNKNOWN, the start cell takes that same given end"
unfoldable pub start_state : UsageFlags → ℕ → ℕ → ℕ → ℕ
start_state p start end new = if not (eqb new p.unknown) && eqb end p.unknown then new else start

-- ---- Insert
-- what is named, or else d
abbrev pub named_or : {A : Type 0} → A → Option A → A
named_or d None = d
named_or d (Some x) = x

-- "Unowned: named cells take their states, the rest UNKNOWN, the mark follows the use."
abbrev pub grid_insert : UsageFlags → Extent → Named → Grid
grid_insert p sh g = record { single = g.single; states = map (map (named_or p.unknown)) g.states }

-- ---- Merge
-- "a clash, told with the cell's old state and the given one"; "on the sheet it is the first named cell whose union clashes"
pub record SubresourceConflict : Type 0 where
  pub mip : ℕ
  pub layer : ℕ
  pub old : ℕ
  pub new : ℕ

-- a subresource that is not named stays; a named one takes the union f, or conflicts
abbrev pub unite_state : (ℕ → ℕ → Option ℕ) → ℕ → ℕ → ℕ → Option ℕ → Stop SubresourceConflict ℕ
unite_state f m l c None = fine c
unite_state f m l c (Some new) = ruled c (record { mip = m; layer = l; old = c; new = new }) (f c new)

-- "Cells go mip first, then layer."
abbrev pub unite_states : (ℕ → ℕ → Option ℕ) → List (List ℕ) → List (List (Option ℕ)) → Stop SubresourceConflict (List (List ℕ))
unite_states f = walk₂ (λ m. walk₂ (unite_state f m) 0) 0

-- "Whole with whole: union; on a clash no change. Whole with parted: .. the texture is then parted; on a clash nothing of it changes."
-- "Parted with either: .. the first clash stops, earlier cells stay changed; it remains parted."
unfoldable pub grid_merge : UsageFlags → Extent → Grid → Named → Stop SubresourceConflict Grid
unfolding single_union many_union
grid_merge p sh s g =
    if s.single then
    (let w = unite_states (single_union p) s.states g.states in
    or_keep w.conflict s (record { single = g.single; states = w.value }))
    else
    (let w = unite_states (many_union p) s.states g.states in
    record { value = record { single = false; states = w.value }; conflict = w.conflict })

-- ---- Tracker: "Owned: a named cell gets one transition", the others none
abbrev pub named_transition : UsageFlags → ℕ → ℕ → Option ℕ → Option Move
named_transition p mask c None = None
named_transition p mask c (Some new) = transition p mask c new

-- the transitions of a call on one texture, subresource by subresource
unfoldable pub grid_barrier : UsageFlags → ℕ → Extent → Grid → Named → List (List (Option Move))
unfolding transition
grid_barrier p mask sh s g = zip₂ (zip₂ (named_transition p mask)) s.states g.states

-- "Then a given end that is not UNKNOWN replaces the end", where the subresource is named
abbrev pub named_end : UsageFlags → ℕ → Option ℕ → ℕ
named_end p c None = c
named_end p c (Some new) = end_state p c new

-- and the start, by the end before it
abbrev pub named_start : UsageFlags → ℕ → ℕ → Option ℕ → ℕ
named_start p start c None = start
named_start p start c (Some new) = start_state p start c new

-- "The end mark follows the use, in a join its given end; the start mark stays."
abbrev pub grid_update : UsageFlags → Extent → Ends Grid → Named → Ends Grid
grid_update p sh e g = record {
  start = record { single = e.start.single; states = zip₃ (zip₃ (named_start p)) e.start.states e.end.states g.states };
  end = record { single = g.single; states = zip₂ (zip₂ (named_end p)) e.end.states g.states };
}

-- ---- The grid representation (01: the sheet)
abbrev pub grid : Representation
grid = record {
  Held = Grid;
  Given = Named;
  Conflict = SubresourceConflict;
  Log = List (List (Option Move));
  fresh = λ st. record { single = true; states = [] };
  use_of = named_use;
  pass = named_all;
  insert = grid_insert;
  merge = grid_merge;
  log = grid_barrier;
  update = grid_update;
}
