-- texture.rs on plain lists: `insert`, `merge`, `barrier` and `update` of one texture, exactly as the Rust leaves it.
use Rattle.std.specs.Prelude.{◌∷◌, ◌++◌, if◌then◌else◌}
use Rattle.model.specs.Prelude.{ℕ, suc, Option, None, Some, option_map, List, [], map, eqb, replicate}
use Rattle.model.specs.declared.{UsageFlags.UsageFlags, Extent.Extent, Selector.Selector, Range.Range, InvalidUse.InvalidUse}
use Rattle.model.specs.Base.{each, each_at, Stop, fine, ruled, or_keep, passes, walk}
use Rattle.model.specs.StateRules.{Move, unite, unite_known, move_of, end_after}
use Rattle.model.specs.Representation.{select, layer_start, layer_end, full, is_full, in_mips, Ends, Representation}
use Rattle.model.specs.RangedStates.{range, coalesce, iter_filter, isolate, paint, in_state}

-- ---- How a texture is held (01: whole or parted)
-- one state, or the ranged states of each mip (`ComplexTextureState`)
pub data Held : Type 0 where
  single : ℕ → Held
  many : List (List Range) → Held

-- ---- What a use hands in
-- a selector and its state: `(TextureSelector, TextureUses)`
pub record Piece : Type 0 where
  pub selector : Selector
  pub state : ℕ

-- `SingleOrManyStates`, as `get_state` returns it
pub data Given : Type 0 where
  given_single : ℕ → Given
  given_many : List Piece → Given

-- `to_selector_state_iter`
abbrev pub pieces_of : List (List Range) → List Piece
pieces_of mips = each_at (λ k s. map (λ (r : Range). record { selector = select k (suc k) r.start r.end; state = r.state }) s) 0 mips

-- "A set passes on its own mark and all its cells": `get_state` of a `TextureSet`
abbrev pub from_held : Held → Given
from_held (single s) = given_single s
from_held (many mips) = given_many (pieces_of mips)

-- "*whole* if no selector is given or it equals the full shape": `get_state` of a `KnownSingle` or a `Selector`
abbrev pub from_use : Extent → Option Selector → ℕ → Given
from_use sh None st = given_single st
from_use sh (Some q) st = if is_full sh q then given_single st else given_many (record { selector = q; state = st } ∷ [])

-- ---- Mips
-- f at the mips that a selector has; the others stay
abbrev pub on_mips : Selector → (List Range → List Range) → ℕ → List (List Range) → List (List Range)
on_mips q f k [] = []
on_mips q f k (s ∷ ss) = (if in_mips q k then f s else s) ∷ on_mips q f (suc k) ss

-- each mip one range over all layers: with UNKNOWN it is `ComplexTextureState::new`
abbrev pub fresh_mips : Extent → ℕ → List (List Range)
fresh_mips sh st = replicate sh.mips (range 0 sh.layers st ∷ [])

-- ---- `insert`
-- the loop of `from_selector_state_iter`: each piece is painted, and nothing is coalesced
unfoldable pub paint_all : ℕ → List Piece → List (List Range) → List (List Range)
unfolding paint
paint_all u [] ss = ss
paint_all u (q ∷ qs) ss = paint_all u qs (on_mips q.selector (paint u (layer_start q.selector) (layer_end q.selector) q.state) 0 ss)

-- one state, or the pieces on UNKNOWN
unfoldable pub insert : UsageFlags → Extent → Given → Held
unfolding paint_all
insert p sh (given_single st) = single st
insert p sh (given_many qs) = many (paint_all p.unknown qs (fresh_mips sh p.unknown))

-- ---- `merge`
-- what a conflict tells: its place and both states
abbrev pub invalid_use : Selector → ℕ → ℕ → InvalidUse
invalid_use q old new = record { selector = q; old = old; new = new }

-- Single with Many: a piece on the texture broken up; the conflict tells the piece's whole selector
unfoldable pub spread_piece : UsageFlags → ℕ → Piece → List (List Range) → Stop InvalidUse (List (List Range))
unfolding unite paint coalesce
spread_piece p cur q ss =
    ruled ss (invalid_use q.selector cur q.state)
    (option_map (λ u. on_mips q.selector (λ s. coalesce (paint p.unknown (layer_start q.selector) (layer_end q.selector) u s))
    0 ss) (unite p cur q.state))

-- Many with either: a range of mip k; the conflict tells that range
abbrev pub merge_range : UsageFlags → ℕ → ℕ → Range → Stop InvalidUse Range
merge_range p k new r =
    ruled r (invalid_use (select k (suc k) r.start r.end) r.state new) (option_map (λ u. in_state u r) (unite_known p r.state new))

-- a mip is coalesced where no conflict stopped its walk
abbrev pub settled : {C : Type 0} → Option C → List Range → List Range
settled None s = coalesce s
settled (Some c) s = s

-- Many with Many: a piece on mip k, on the ranges that it isolates there
unfoldable pub merge_mip : UsageFlags → Piece → ℕ → List Range → Stop InvalidUse (List Range)
unfolding isolate unite_known coalesce
merge_mip p q k s =
    if in_mips q.selector k then
    (let c = isolate (layer_start q.selector) (layer_end q.selector) p.unknown s in
    let w = walk (λ i. merge_range p k q.state) 0 c.run in
    record { value = settled w.conflict (c.before ++ (w.value ++ c.after)); conflict = w.conflict })
    else fine s

-- Many with Single: every range of mip k
unfoldable pub merge_every : UsageFlags → ℕ → ℕ → List Range → Stop InvalidUse (List Range)
unfolding unite_known coalesce
merge_every p new k s =
    let w = walk (λ i. merge_range p k new) 0 s in record { value = settled w.conflict w.value; conflict = w.conflict }

-- a walk over the mips as one of the texture: "it remains parted"
abbrev pub as_many : Stop InvalidUse (List (List Range)) → Stop InvalidUse Held
as_many w = record { value = many w.value; conflict = w.conflict }

-- the texture after a use, or the conflict, with a clause for each arm of its `match`
unfoldable pub merge : UsageFlags → Extent → Held → Given → Stop InvalidUse Held
unfolding unite spread_piece merge_mip merge_every
merge p sh (single cur) (given_single new) = ruled (single cur) (invalid_use (full sh) cur new) (option_map single (unite p cur new))
merge p sh (single cur) (given_many qs) =
    let w = passes (spread_piece p cur) qs (fresh_mips sh cur) in or_keep w.conflict (single cur) (many w.value)
merge p sh (many ss) (given_single new) = as_many (walk (merge_every p new) 0 ss)
merge p sh (many ss) (given_many qs) = as_many (passes (λ q. walk (merge_mip p q) 0) qs ss)

-- ---- `barrier`
-- a transition of some subresources of a texture
pub record Entry : Type 0 where
  pub selector : Selector
  pub move : Move

-- the transition of a selector, if one is written
abbrev pub entry : Selector → Option Move → List Entry
entry q None = []
entry q (Some m) = record { selector = q; move = m } ∷ []

-- those of the ranges of mip k
abbrev pub mip_entries : (ℕ → Option Move) → ℕ → List Range → List Entry
mip_entries f k s = each (λ (r : Range). entry (select k (suc k) r.start r.end) (f r.state)) s

-- the transitions from the end to a given start, in their order, with a clause for each arm of its `match`
unfoldable pub barrier : UsageFlags → ℕ → Extent → Held → Given → List Entry
unfolding move_of iter_filter
barrier p mask sh (single cur) (given_single new) = entry (full sh) (move_of p.unknown mask cur new)
barrier p mask sh (single cur) (given_many qs) = each (λ (q : Piece). entry q.selector (move_of p.unknown mask cur q.state)) qs
barrier p mask sh (many ss) (given_single new) = each_at (mip_entries (λ cur. move_of p.unknown mask cur new)) 0 ss
barrier p mask sh (many ss) (given_many qs) =
    each (λ (q : Piece). each_at (λ k s. if in_mips q.selector k
    then mip_entries (λ cur. move_of p.unknown mask cur q.state) k (iter_filter (layer_start q.selector) (layer_end q.selector) s)
    else []) 0 ss) qs

-- ---- `update`
-- a Single end, broken up by the pieces; one that is UNKNOWN isolates and changes nothing else
unfoldable pub spread_end : ℕ → ℕ → List Piece → List (List Range) → List (List Range)
unfolding paint coalesce
spread_end u cur [] ss = ss
spread_end u cur (q ∷ qs) ss =
    spread_end u cur qs (on_mips q.selector
    (λ s. coalesce (paint u (layer_start q.selector) (layer_end q.selector) (end_after u cur q.state) s)) 0 ss)

-- a mip of the start takes a state where ranges of the end are UNKNOWN
unfoldable pub learn : ℕ → ℕ → List Range → List Range → List Range
unfolding paint coalesce
learn u new [] start = start
learn u new (r ∷ s) start =
    learn u new s (if eqb r.state u then coalesce (paint u r.start r.end new start) else start)

-- each mip of the start, by the part of the end's mip that is looked at
abbrev pub learn_all : (ℕ → List Range → List Range) → ℕ → ℕ → ℕ → List (List Range) → List (List Range) → List (List Range)
learn_all part u new k [] starts = starts
learn_all part u new k (s ∷ ss) [] = []
learn_all part u new k (s ∷ ss) (t ∷ ts) = learn u new (part k s) t ∷ learn_all part u new (suc k) ss ts

-- the same of a Many start; a Single one stays
abbrev pub learn_held : (ℕ → List Range → List Range) → ℕ → ℕ → List (List Range) → Held → Held
learn_held part u new ss (single s) = single s
learn_held part u new ss (many ts) = many (learn_all part u new 0 ss ts)

-- what a piece isolates on mip k
abbrev pub met_by : ℕ → Piece → ℕ → List Range → List Range
met_by u q k s = if in_mips q.selector k then (isolate (layer_start q.selector) (layer_end q.selector) u s).run else []

-- a Many end, piece by piece; one that is UNKNOWN is passed over
unfoldable pub update_all : ℕ → List Piece → List (List Range) → Held → Ends Held
unfolding paint coalesce isolate learn
update_all u [] ss start = record { start = start; end = many ss }
update_all u (q ∷ qs) ss start =
    if eqb q.state u then update_all u qs ss start
    else update_all u qs (on_mips q.selector
    (λ s. coalesce (paint u (layer_start q.selector) (layer_end q.selector) q.state s)) 0 ss)
    (learn_held (met_by u q) u q.state ss start)

-- the start and the end after a given end, with a clause for each arm of its `match`
unfoldable pub update : UsageFlags → Extent → Ends Held → Given → Ends Held
unfolding spread_end learn update_all
update p sh ends given = go ends.end given
  where
    go : Held → Given → Ends Held
    go (single cur) (given_single new) = record { start = ends.start; end = single new }
    go (single cur) (given_many qs) = record { start = ends.start; end = many (spread_end p.unknown cur qs (fresh_mips sh cur)) }
    go (many ss) (given_single new) = record { start = learn_held (λ k s. s) p.unknown new ss ends.start; end = single new }
    go (many ss) (given_many qs) = update_all p.unknown qs ss ends.start

-- ---- The ranged representation
-- the Rust's functions as a representation
abbrev pub ranged : Representation
ranged = record {
  Held = Held;
  Given = Given;
  Conflict = InvalidUse;
  Log = List Entry;
  fresh = single;
  use_of = from_use;
  pass = from_held;
  insert = insert;
  merge = merge;
  log = barrier;
  update = update;
}
