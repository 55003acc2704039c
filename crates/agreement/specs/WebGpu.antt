-- The rule of the WebGPU specification (W3C) for the uses of one subresource within a usage scope, and the uses that each subresource of a
-- scope has taken and keeps. The specification's words below are of its text of 2025, section 3.4, "Resource Usages" and "Synchronization"
-- (usage scopes), written down without the document at hand, and held against an implementation: tests/webgpu, docs/DIFFERENCES.md.
use Rattle.std.specs.Prelude.{◌+◌, ◌≤◌, ◌<◌, ◌≡◌, ◌&&◌, ◌||◌, ◌∷◌, ◌++◌, if◌then◌else◌}
use Rattle.model.specs.Prelude.{ℕ, Bool, true, false, not, Option, None, Some, option_map, List, []}
use Rattle.model.specs.Prelude.{map, eqb, bit_and, get_or}
use Rattle.model.specs.declared.{Extent.Extent, Selector.Selector, UsageFlags.UsageFlags}
use Rattle.model.specs.{Base.{every, Stop, fine, ruled, or_keep, walk₂}, Flags.{meets, one_bit}}
use Rattle.model.specs.{Representation.{Ends, Representation}, Sets.{Set, slot_at}}
use Rattle.model.specs.Calls.{Answer, done, refused, in_conflict, Call, call_merge_single, call_merge_usage_scope, call_set_single}
use Rattle.model.specs.{Calls.{call_set_from_usage_scope, call_set_from_tracker, call_set_and_remove_sparse}, StateRules.Move}
use Rattle.agreement.specs.Grid.{Grid, Named, SubresourceConflict, named_use, named_or, single_union, many_union, grid_barrier, grid_update}

-- ---- "Resource Usages": "An internal usage is one of the following: input, constant, storage, storage-read, attachment, attachment-read"
pub data Usage : Type 0 where
  input constant storage storage_read attachment attachment_read : Usage

-- "Each usage in U is input, constant, storage-read, or attachment-read."
abbrev pub reads : Usage → Bool
reads input = true
reads constant = true
reads storage = false
reads storage_read = true
reads attachment = false
reads attachment_read = true

-- "Each usage in U is storage."
abbrev pub is_storage : Usage → Bool
is_storage input = false
is_storage constant = false
is_storage storage = true
is_storage storage_read = false
is_storage attachment = false
is_storage attachment_read = false

-- an attachment that is written
abbrev pub is_attachment : Usage → Bool
is_attachment input = false
is_attachment constant = false
is_attachment storage = false
is_attachment storage_read = false
is_attachment attachment = true
is_attachment attachment_read = false

-- "U contains exactly one element"
abbrev pub one_element : {A : Type 0} → List A → Bool
one_element [] = false
one_element (x ∷ []) = true
one_element (x ∷ y ∷ s) = false

-- "a list U of internal usages is a compatible usage list if (and only if) it satisfies any of the following rules: Each usage in U is
-- input, constant, storage-read, or attachment-read. Each usage in U is storage. U contains exactly one element: attachment."
-- ("Synchronization" asks it of each subresource: "the list of all internal usages of that subresource within the usage scope must be a
-- compatible usage list".)
abbrev pub compatible_list : List Usage → Bool
compatible_list us = every reads us || every is_storage us || (one_element us && every is_attachment us)

-- ---- 01: "in the palette's terms they fit when none meets EXCLUSIVE or all are the same one bit"
abbrev pub same_bit : List ℕ → Bool
same_bit [] = true
same_bit (s ∷ us) = one_bit s && every (λ x. eqb x s) us

-- the uses of one subresource fit
unfoldable pub uses_fit : UsageFlags → List ℕ → Bool
uses_fit p us = every (λ s. not (meets s p.exclusive)) us || same_bit us

-- ---- usage flags that render WebGPU's usages: each usage has its bits, and only the writing ones, storage and attachment, lie in
-- EXCLUSIVE, one bit each
pub record Renders (p : UsageFlags) (bit : Usage → ℕ) : Type 0 where
  pub reading : (u : Usage) → reads u ≡ true → bit_and (bit u) p.exclusive ≡ 0
  pub storing : meets (bit storage) p.exclusive ≡ true
  pub attaching : meets (bit attachment) p.exclusive ≡ true
  pub stores : one_bit (bit storage) ≡ true
  pub attaches : one_bit (bit attachment) ≡ true
  pub apart : bit storage ≡ bit attachment → ⊥

-- 01's "Bench samples": "UNINITIALIZED 1, EXCLUSIVE 20, COMPLEX 4096, UNKNOWN 8192"
abbrev pub bench_flags : UsageFlags
bench_flags = record { exclusive = 20; uninitialized = 1; complex = 4096; unknown = 8192 }

-- with a bit for each usage: 4 and 16 are those of EXCLUSIVE
abbrev pub bench_bit : Usage → ℕ
bench_bit input = 2
bench_bit constant = 8
bench_bit storage = 4
bench_bit storage_read = 32
bench_bit attachment = 16
bench_bit attachment_read = 64

-- wgpu's `TextureUses` (tests/constants compares them with wgpu-types' own): EXCLUSIVE is PRESENT, COPY_DST, COLOR_TARGET,
-- DEPTH_STENCIL_WRITE and the three storage uses that write
abbrev pub wgpu_flags : UsageFlags
wgpu_flags = record { exclusive = 2 + 8 + 32 + 128 + 512 + 1024 + 2048; uninitialized = 1; complex = 8192; unknown = 16384 }

-- wgpu has three bits for the specification's storage, and two for its attachment: a rendering takes one of each
pub data Storing : Type 0 where
  write_only read_write atomic : Storing

-- STORAGE_WRITE_ONLY, STORAGE_READ_WRITE, STORAGE_ATOMIC
abbrev pub storing_bit : Storing → ℕ
storing_bit write_only = 512
storing_bit read_write = 1024
storing_bit atomic = 2048

pub data Attaching : Type 0 where
  color_target depth_stencil_write : Attaching

-- COLOR_TARGET, DEPTH_STENCIL_WRITE
abbrev pub attaching_bit : Attaching → ℕ
attaching_bit color_target = 32
attaching_bit depth_stencil_write = 128

-- COPY_SRC, RESOURCE, STORAGE_READ_ONLY, DEPTH_STENCIL_READ for those that read
abbrev pub wgpu_bit : Storing → Attaching → Usage → ℕ
wgpu_bit x y input = 4
wgpu_bit x y constant = 16
wgpu_bit x y storage = storing_bit x
wgpu_bit x y storage_read = 256
wgpu_bit x y attachment = attaching_bit y
wgpu_bit x y attachment_read = 64

-- ---- A subresource of a scope: its state, and the uses that it has taken and keeps
pub record History : Type 0 where
  pub state : ℕ
  pub uses : List ℕ

-- a texture of such subresources, with its flag
pub record Histories : Type 0 where
  pub single : Bool
  pub states : List (List History)

-- what is handed in: the named subresources, each with the uses that it stands for
pub record HandedIn : Type 0 where
  pub single : Bool
  pub states : List (List (Option History))

-- a single merge hands in one use
abbrev pub one_use : ℕ → History
one_use st = record { state = st; uses = st ∷ [] }

-- to each subresource that it names
abbrev pub hand_use : Extent → Option Selector → ℕ → HandedIn
hand_use sh sel st = record { single = (named_use sh sel st).single; states = map (map (option_map one_use)) (named_use sh sel st).states }

-- a set passes on its subresources, with all that they have taken
abbrev pub hand_all : Histories → HandedIn
hand_all s = record { single = s.single; states = map (map Some) s.states }

-- as the grid's insert; the rest has taken none
abbrev pub history_insert : UsageFlags → Extent → HandedIn → Histories
history_insert p sh g = record { single = g.single; states = map (map (named_or (record { state = p.unknown; uses = [] }))) g.states }

-- a subresource that takes the union takes the uses
abbrev pub take_state : (ℕ → ℕ → Option ℕ) → ℕ → ℕ → History → Option History → Stop SubresourceConflict History
take_state f m l c None = fine c
take_state f m l c (Some g) =
    ruled c (record { mip = m; layer = l; old = c.state; new = g.state })
    (option_map (λ u. record { state = u; uses = c.uses ++ g.uses }) (f c.state g.state))

-- mip first, then layer
abbrev pub take_states : (ℕ → ℕ → Option ℕ) → List (List History) → List (List (Option History))
    → Stop SubresourceConflict (List (List History))
take_states f = walk₂ (λ m. walk₂ (take_state f m) 0) 0

-- the grid's merge, with the uses: a Single texture that conflicts takes none, a Many one those before the conflict
unfoldable pub history_merge : UsageFlags → Extent → Histories → HandedIn → Stop SubresourceConflict Histories
unfolding single_union many_union
history_merge p sh s g =
    if s.single then
    (let w = take_states (single_union p) s.states g.states in
    or_keep w.conflict s (record { single = g.single; states = w.value }))
    else
    (let w = take_states (many_union p) s.states g.states in
    record { value = record { single = false; states = w.value }; conflict = w.conflict })

-- without the uses
abbrev pub states_of : Histories → Grid
states_of t = record { single = t.single; states = map (map (λ (c : History). c.state)) t.states }

-- what is handed in, without the uses
abbrev pub named : HandedIn → Named
named g = record { single = g.single; states = map (map (option_map (λ (c : History). c.state))) g.states }

-- trackers keep no uses: a grid with none
abbrev pub bare : Grid → Histories
bare s = record { single = s.single; states = map (map (λ (c : ℕ). record { state = c; uses = [] })) s.states }

-- as the grid's update
abbrev pub history_update : UsageFlags → Extent → Ends Histories → HandedIn → Ends Histories
history_update p sh e g =
    let s = grid_update p sh (record { start = states_of e.start; end = states_of e.end }) (named g) in
    record { start = bare s.start; end = bare s.end }

-- a third representation: the grid, with the uses of each subresource of a scope
abbrev pub histories : Representation
histories = record {
  Held = Histories;
  Given = HandedIn;
  Conflict = SubresourceConflict;
  Log = List (List (Option Move));
  fresh = λ st. record { single = true; states = [] };
  use_of = hand_use;
  pass = hand_all;
  insert = history_insert;
  merge = history_merge;
  log = λ p mask sh s g. grid_barrier p mask sh (states_of s) (named g);
  update = history_update;
}

-- ---- the words of the claim `judged`
abbrev pub no_history : History
no_history = record { state = 0; uses = [] }

-- the uses of a subresource of texture i; none if it is unowned
abbrev pub uses_at : Set Histories → ℕ → ℕ → ℕ → List ℕ
uses_at s i m l =
    let x = slot_at (histories.fresh 0) s i in if x.owned then (get_or (get_or x.held.states m []) l no_history).uses else []

-- the subresources that a use names
abbrev pub Names : Extent → Option Selector → ℕ → ℕ → Type 0
Names sh None m l = (m < sh.mips) × (l < sh.layers)
Names sh (Some q) m l = (q.mips.start.0 ≤ m) × (m < q.mips.end.0) × (q.layers.start.0 ≤ l) × (l < q.layers.end.0)

-- a call answers with a conflict
abbrev pub InConflict : {C : Type 0} → Answer C → Type 0
InConflict done = ⊥
InConflict (refused r) = ⊥
InConflict (in_conflict c) = Unit {0}

-- some named subresource's uses, with the given one, do not fit
pub record Unfit (s : Set Histories) (i : ℕ) (sh : Extent) (sel : Option Selector) (st : ℕ) : Type 0 where
  pub mip : ℕ
  pub layer : ℕ
  pub names : Names sh sel mip layer
  pub unfit : uses_fit s.flags (uses_at s i mip layer ++ (st ∷ [])) ≡ false

-- ---- the words of the claim `webgpu`: the same in the specification's own usages
-- a state is the bits of a usage
abbrev pub Rendered : (Usage → ℕ) → ℕ → Type 0
Rendered bit st = (u : Usage) × (st ≡ bit u)

-- what is asked of the state that a single merge is given; what a tracker is given reaches no scope
abbrev pub MergeGiven : (ℕ → Type 0) → Call → Type 0
MergeGiven W (call_merge_single n i sh sel st) = W st
MergeGiven W (call_merge_usage_scope n m) = Unit {0}
MergeGiven W (call_set_single n i sh sel st) = Unit {0}
MergeGiven W (call_set_from_usage_scope n m) = Unit {0}
MergeGiven W (call_set_from_tracker n m) = Unit {0}
MergeGiven W (call_set_and_remove_sparse n m is) = Unit {0}

-- it is the bits of a usage
abbrev pub GivenUsage : (Usage → ℕ) → Call → Type 0
GivenUsage bit = MergeGiven (Rendered bit)

-- the usages that some named subresource has taken and keeps, with the given one, are neither a compatible usage list nor all attachments
pub record NotCompatible (bit : Usage → ℕ) (s : Set Histories) (i : ℕ) (sh : Extent) (sel : Option Selector) (u : Usage) : Type 0 where
  pub mip : ℕ
  pub layer : ℕ
  pub names : Names sh sel mip layer
  pub usages : List Usage
  pub taken : uses_at s i mip layer ≡ map bit usages
  pub unfit : compatible_list (usages ++ (u ∷ [])) || every is_attachment (usages ++ (u ∷ [])) ≡ false
