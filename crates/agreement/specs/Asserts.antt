-- The strict assertions of the Rust's texture.rs that the six calls reach, as tests over the ranged model; numbers in comments are lines of
-- texture.rs. (range.rs asserts in its tests alone.) Each test says at least what the assertion says wherever a call reaches it.
use Rattle.model.specs.Prelude.{ℕ, suc, Bool, true, false, not, Option, None, Some, List, [], leb, ltb, eqb, length, slice_get}
use Rattle.model.specs.{declared.{Extent.Extent, Range.Range, Refusal.Refusal, Selector.Selector, UsageFlags.UsageFlags}, Base.every}
use Rattle.model.specs.Representation.{mip_start, mip_end, layer_start, layer_end, full, Ends}
use Rattle.model.specs.{Sets.{Slot, Set, Tracker, head_of, slot_at}, Refusals.{single_refusal, set_refusal, sparse_refusal}}
use Rattle.model.specs.Calls.{no_ends, sparse_one, Sets, Call, call_merge_single, call_merge_usage_scope, call_set_single}
use Rattle.model.specs.{Calls.{call_set_from_usage_scope, call_set_from_tracker, call_set_and_remove_sparse}, StateRules.invalid_state}
use Rattle.model.specs.RangedStates.{coalesce, isolate, paint}
use Rattle.model.specs.Texture.{Held, single, many, Given, given_single, given_many, Piece, on_mips, learn, learn_held, met_by, from_held}
use Rattle.model.specs.Texture.{from_use, ranged}
use Rattle.std.specs.Prelude.{◌&&◌, ◌∷◌, if◌then◌else◌}

-- ---- `from_selector_state_iter`: the full range starts at 0 (94, 95), no selector ends past it (100, 101), no state is invalid (105)
abbrev pub piece_inside : UsageFlags → Selector → Piece → Bool
piece_inside p range q =
    leb (layer_end q.selector) (layer_end range) && leb (mip_end q.selector) (mip_end range) && not (invalid_state p q.state)

-- all of it, piece by piece
abbrev pub from_pieces : UsageFlags → Selector → List Piece → Bool
from_pieces p range qs = eqb (layer_start range) 0 && eqb (mip_start range) 0 && every (piece_inside p range) qs

-- ---- `insert`: a Single state is valid (1116; 1149 for an end of its own), a Many one goes through `from_selector_state_iter`
abbrev pub insert_asserts : UsageFlags → Extent → Given → Bool
insert_asserts p sh (given_single st) = not (invalid_state p st)
insert_asserts p sh (given_many qs) = from_pieces p (full sh) qs

-- ---- Many with Many reaches the mips by their numbers: `merge` (1272), `barrier` (1387), `update` (1510)
abbrev pub mip_asserts : Held → Given → Bool
mip_asserts (single cur) g = true
mip_asserts (many ss) (given_single new) = true
mip_asserts (many ss) (given_many qs) = every (λ (q : Piece). leb (mip_end q.selector) (length ss)) qs

-- ---- Single with Many is broken up by `from_selector_state_iter`, in `merge` and in `update`
abbrev pub spread_asserts : UsageFlags → Extent → Held → Given → Bool
spread_asserts p sh (single cur) (given_single new) = true
spread_asserts p sh (single cur) (given_many qs) = from_pieces p (full sh) (record { selector = full sh; state = cur } ∷ [])
spread_asserts p sh (many ss) g = true

-- ---- `merge`
abbrev pub merge_asserts : UsageFlags → Extent → Held → Given → Bool
merge_asserts p sh h g = mip_asserts h g && spread_asserts p sh h g

-- ---- `update` and what the start learns: a start's ranges that take a state are UNKNOWN, and the start is Many where the end has an
-- UNKNOWN range `strict_assert_eq!(*current_start_state, TextureUses::UNKNOWN)` (1489, 1538), along `learn`
unfoldable pub learn_asserts : ℕ → ℕ → List Range → List Range → Bool
unfolding isolate paint coalesce
learn_asserts u new [] start = true
learn_asserts u new (r ∷ s) start =
    if eqb r.state u
    then every (λ (x : Range). eqb x.state u) (isolate r.start r.end u start).run
    && learn_asserts u new s (coalesce (paint u r.start r.end new start))
    else learn_asserts u new s start

-- `strict_assert!(mip_id < start_complex.mips.len())` (1482, 1531): the start has a mip for each of the end's
abbrev pub learn_all_asserts : (ℕ → List Range → List Range) → ℕ → ℕ → ℕ → List (List Range) → List (List Range) → Bool
learn_all_asserts part u new k [] starts = true
learn_all_asserts part u new k (s ∷ ss) [] = false
learn_all_asserts part u new k (s ∷ ss) (t ∷ ts) = learn_asserts u new (part k s) t && learn_all_asserts part u new (suc k) ss ts

-- `strict_assert!(start_complex.is_some())` (1526)
abbrev pub none_unknown : ℕ → Piece → ℕ → List (List Range) → Bool
none_unknown u q k [] = true
none_unknown u q k (s ∷ ss) = every (λ (x : Range). not (eqb x.state u)) (met_by u q k s) && none_unknown u q (suc k) ss

-- one piece: a Single start has nothing to learn, a Many one takes the state where the end is UNKNOWN
abbrev pub piece_asserts : ℕ → Piece → List (List Range) → Held → Bool
piece_asserts u q ss (single st) = none_unknown u q 0 ss
piece_asserts u q ss (many ts) = learn_all_asserts (met_by u q) u q.state 0 ss ts

-- along `update_all`
unfoldable pub pieces_assert : ℕ → List Piece → List (List Range) → Held → Bool
unfolding isolate paint coalesce learn learn_asserts
pieces_assert u [] ss start = true
pieces_assert u (q ∷ qs) ss start =
    if eqb q.state u then pieces_assert u qs ss start
    else piece_asserts u q ss start
    && pieces_assert u qs (on_mips q.selector
    (λ s. coalesce (paint u q.selector.layers.start.0 q.selector.layers.end.0 q.state s)) 0 ss)
    (learn_held (met_by u q) u q.state ss start)

-- `if let Some(start_complex)`: a Single start is passed over where one state is given
abbrev pub single_asserts : ℕ → ℕ → List (List Range) → Held → Bool
single_asserts u new ss (single st) = true
single_asserts u new ss (many ts) = learn_all_asserts (λ k s. s) u new 0 ss ts

-- by the end and what is given
abbrev pub start_asserts : UsageFlags → Held → Held → Given → Bool
start_asserts p start (single cur) g = true
start_asserts p start (many ss) (given_single new) = single_asserts p.unknown new ss start
start_asserts p start (many ss) (given_many qs) = pieces_assert p.unknown qs ss start

-- ---- `update`, all of it
abbrev pub update_asserts : UsageFlags → Extent → Ends Held → Given → Bool
update_asserts p sh e g = mip_asserts e.end g && spread_asserts p sh e.end g && start_asserts p e.start e.end g

-- ---- One index: `insert_or_merge`, and `insert_or_barrier_update` with what is handed in as start and as end
abbrev pub scope_asserts : UsageFlags → Extent → Given → Slot Held → Bool
scope_asserts p sh g s = if s.owned then merge_asserts p sh s.held g else insert_asserts p sh g

-- `barrier` reads the given start, `update` the given end
abbrev pub tracker_asserts : UsageFlags → Extent → Given → Given → Slot (Ends Held) → Bool
tracker_asserts p sh from to s =
    if s.owned then mip_asserts s.held.end from && update_asserts p sh s.held to else insert_asserts p sh from && insert_asserts p sh to

-- ---- A call: `tracker_assert_in_bounds` (259, and 47 and 48 of metadata.rs) at each index that it reaches, and what is asserted there.
-- (49 of metadata.rs, an owned index has its resource, is the form of a slot: its extent is always there.)
abbrev pub in_bounds : {H : Type 0} → ℕ → List (Slot H) → Bool
in_bounds i l = ltb i (length l)

-- a call that is turned away reaches none
abbrev pub unless_refused : Option Refusal → Bool → Bool
unless_refused None b = b
unless_refused (Some r) b = true

-- at each index that a given set owns: past the end of the set's own slots an owned one breaks the bounds
abbrev pub each_owned : {H G : Type 0} → (Slot H → Slot G → Bool) → List (Slot H) → List (Slot G) → Bool
each_owned f l [] = true
each_owned f [] (x ∷ xs) = not x.owned && each_owned f [] xs
each_owned f (s ∷ l) (x ∷ xs) = (if x.owned then f s x else true) && each_owned f l xs

-- `set_from_usage_scope` and `set_from_tracker` (their calls of 553, 554, 594, 595)
abbrev pub set_asserts : {G : Type 0} → (G → Given) → (G → Given) → Tracker Held → Set G → Bool
set_asserts from to t g =
    unless_refused (set_refusal (head_of t.set) (head_of g))
    (each_owned (λ s x. tracker_asserts t.set.flags x.extent (from x.held) (to x.held) s) t.set.slots g.slots)

-- `set_and_remove_from_usage_scope_sparse` (645): a listed index is in the scope's bounds, and in the tracker's where the scope owns it: no
-- index gains an owner on the way
abbrev pub listed_in_bounds : Tracker Held → Set Held → ℕ → Bool
listed_in_bounds t s i = in_bounds i s.slots && (if (slot_at (ranged.fresh 0) s i).owned then in_bounds i t.set.slots else true)

-- index by index, on the sets as the ones before left them
abbrev pub sparse_asserts : List ℕ → Tracker Held × Set Held → Bool
sparse_asserts [] ts = true
sparse_asserts (i ∷ is) ts =
    let g = slot_at (ranged.fresh 0) ts.1 i in
    (if g.owned then tracker_asserts ts.0.set.flags g.extent (from_held g.held) (from_held g.held) (slot_at
    (no_ends ranged) ts.0.set i) else true)
    && sparse_asserts is (sparse_one ranged i ts).after

-- with the sets that a call names, if they are there
abbrev pub if_there : {X : Type 0} → Option X → (X → Bool) → Bool
if_there None f = true
if_there (Some x) f = f x

-- and with two
abbrev pub if_both : {X Y : Type 0} → Option X → Option Y → (X → Y → Bool) → Bool
if_both None y f = true
if_both (Some x) None f = true
if_both (Some x) (Some y) f = f x y

-- ---- The six calls
abbrev pub call_asserts : Call → Sets ranged → Bool
call_asserts (call_merge_single n i sh sel st) k =
    if_there (slice_get k.scopes n) (λ s. unless_refused (single_refusal (head_of s) i.0 sh sel st)
    (in_bounds i.0 s.slots && scope_asserts s.flags sh (from_use sh sel st) (slot_at (ranged.fresh 0) s i.0)))
call_asserts (call_merge_usage_scope n m) k =
    if eqb n m then true else if_both (slice_get k.scopes n) (slice_get k.scopes m) (λ s g.
    unless_refused (set_refusal (head_of s) (head_of g))
    (each_owned (λ x y. scope_asserts s.flags y.extent (from_held y.held) x) s.slots g.slots))
call_asserts (call_set_single n i sh sel st) k =
    if_there (slice_get k.trackers n) (λ t. unless_refused (single_refusal (head_of t.set) i.0 sh (Some sel) st)
    (in_bounds i.0 t.set.slots && tracker_asserts t.set.flags sh (from_use sh (Some sel) st) (from_use sh (Some sel) st) (slot_at
    (no_ends ranged) t.set i.0)))
call_asserts (call_set_from_usage_scope n m) k = if_both (slice_get k.trackers n) (slice_get k.scopes m)
    (λ t g. set_asserts from_held from_held t g)
call_asserts (call_set_from_tracker n m) k =
    if eqb n m then true else if_both (slice_get k.trackers n) (slice_get k.trackers m)
    (λ t g. set_asserts (λ (e : Ends Held). from_held e.start) (λ (e : Ends Held). from_held e.end) t g.set)
call_asserts (call_set_and_remove_sparse n m is) k =
    if_both (slice_get k.trackers n) (slice_get k.scopes m) (λ t s. unless_refused (sparse_refusal (head_of t.set) (head_of s) is)
    (every (listed_in_bounds t s) is && sparse_asserts is (t, s)))
