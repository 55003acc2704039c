-- What is proved, in one place: each claim is a statement with the name of its proof. To trust it, read crate `model`, and the
-- specs/ of this one: Grid (01's grid), Shared (what the two representations share), WellFormedSets, LogBound, Layers, Asserts and WebGpu;
-- the other modules hold proofs alone.
use Rattle.std.specs.Prelude.{◌≤◌, ◌<◌, ◌≡◌, ◌↔◌, ◌||◌, ◌∷◌}
use Rattle.model.specs.Prelude.{ℕ, true, false, Option, None, Some, List, map, [], length, slice_get}
use Rattle.model.specs.declared.Refusal.TheVariants.{NoFreeEntry}
use Rattle.model.specs.{declared.{Extent.Extent, Range.Range, Refusal.Refusal, Selector.Selector, UsageFlags.UsageFlags}, Base.{every, All}}
use Rattle.model.specs.{Flags.flags_fit, Representation.Ends, Sets.{Slot, Set, Tracker, head_of, Opening}}
use Rattle.model.specs.Refusals.{number_of, place_of, refusal_from, tracker_index, single_refusal}
use Rattle.model.specs.{Calls.{Indexed, refused, Call, call_merge_single, Sets, step, newly}, RangedStates.{Tiles, isolate, list_of}}
use Rattle.model.specs.{RangeCalls.ascends, Texture.{Held, Entry, ranged}, WellFormed.{scope_fits, tracker_fits}}
use Rattle.model.specs.{Log.{Log, pending, head_check, logging}, RangeLaws.isolate_few, CheckLaws.{never_ten, refusal_told}}
use Rattle.agreement.specs.{Grid.grid, Shared.{to_grids, Use, use_fits, TextureShares, Shares, Agree, Demand3, after_calls}}
use Rattle.agreement.specs.WellFormedSets.{well_formed, Word, GivenWord}
use Rattle.agreement.specs.{LogBound.{entries, named_states, capacity_of, owned_of, listed}, Layers.{covered, lengths, AddUp}}
use Rattle.agreement.specs.Asserts.{call_asserts}
use Rattle.agreement.specs.WebGpu.{Usage, is_attachment, compatible_list, uses_fit, Renders, bench_flags, bench_bit, wgpu_flags, Storing}
use Rattle.agreement.specs.WebGpu.{Attaching, wgpu_bit, Histories, histories, InConflict, Unfit, GivenUsage, NotCompatible}
use Rattle.agreement.proofs.RangeCount.{ranges_few, ascending_few, covered_lengths, scope_adds_up, tracker_adds_up}
use Rattle.agreement.proofs.CallsAgree.{sets_to, opened_fits, call_keeps, call_shares, agrees_from, agrees, refused_alike, always_fit}
use Rattle.agreement.proofs.{CallsAgree.texture_shares, OwnRefusals.own_refusals}
use Rattle.agreement.proofs.LogRoom.{entries_written, never_full, owned_few, owned_most, never_full_owned, capacity_few}
use Rattle.agreement.proofs.{LogRoom.{never_full_capacity, never_15, few_entries}, AssertCalls.calls_assert, FitLaws.flags_rule}
use Rattle.agreement.proofs.UsagesJudged.{bench_renders, wgpu_renders, usages_judged, uses_judged}

-- ---- Demand 3 of the definitions: ranged and grid share what it lists after each call of every list, on however many sets
-- "given to both newly opened" (crate `track` has `demand3`, of the code's contracts)
pub grid_agrees : Demand3
grid_agrees = agrees

-- from any well-formed sets, with the grids read off them: "a cell has the state of the range with its layer, or of its whole texture"
pub grid_agrees_from : (k : Sets ranged) → well_formed k ≡ true → (calls : List Call) → Agree k (to_grids k) calls
grid_agrees_from = agrees_from

-- ---- Texture by texture: insert, merge, barrier and update agree, for every use that passes its checks and every well-formed texture, and
-- keep it so
pub by_texture : (p : UsageFlags) (sh : Extent) → flags_fit p ≡ true → 0 < sh.mips → 0 < sh.layers → (u : Use)
    → use_fits p sh u ≡ true → TextureShares p sh u
by_texture = texture_shares

-- ---- Call by call, from any well-formed sets (EachCall has `kept`, `within_owned` and `within_capacity` for each of the six calls by
-- itself) opened sets are well formed
pub opened : (scopes trackers : List Opening) → well_formed (newly ranged scopes trackers) ≡ true
opened = opened_fits

-- each call keeps them so
pub kept : (c : Call) (k : Sets ranged) → GivenWord c → well_formed k ≡ true → well_formed (step ranged c k).after ≡ true
kept = call_keeps

-- so they are after every list of calls
pub always : (scopes trackers : List Opening) (calls : List Call) → All GivenWord calls
    → well_formed (after_calls ranged calls (newly ranged scopes trackers)) ≡ true
always = always_fit

-- ranged and grid share the answer, the sets afterwards and each subresource's transition
pub by_call : (c : Call) (k : Sets ranged) → well_formed k ≡ true → Shares (step ranged c k) (step grid c (to_grids k))
by_call = call_shares

-- they refuse alike
pub refusals : (c : Call) (k : Sets ranged) → well_formed k ≡ true → (r : Refusal)
    → ((step ranged c k).answer ≡ refused r) ↔ ((step grid c (to_grids k)).answer ≡ refused r)
refusals = refused_alike

-- "4, 5 and 15 cannot arise in these calls": a call's own refusals are none of 1 to 5, 14 and 15
pub own : (c : Call) (k : Sets ranged) (r : Refusal) → (step ranged c k).answer ≡ refused r
    → listed (number_of r) (1 ∷ 2 ∷ 3 ∷ 4 ∷ 5 ∷ 14 ∷ 15 ∷ []) ≡ false
own = own_refusals ranged

-- "10 is never given again": whatever is refused has another number
pub retired : (r : Refusal) → number_of r ≡ 10 → ⊥
retired = never_ten

-- "The answer is the number and a place": the two tell the refusal, so no two rows of the table have one number
pub told_apart : (r : Refusal) → refusal_from (number_of r) (place_of r) ≡ r
told_apart = refusal_told

-- ---- Ranges
-- "A strip's ranges never outnumber the layers it covers": any ascending list of nonempty ranges, gaps allowed, that ends at w or before
pub ascending : (s : List Range) (w : ℕ) → ascends 0 s ≡ true → All (λ (r : Range). r.end ≤ w) s → length s ≤ covered s w
ascending = ascending_few

-- the layers that it covers are as many as its lengths add up to
pub covering : (s : List Range) (w : ℕ) → ascends 0 s ≡ true → All (λ (r : Range). r.end ≤ w) s → covered s w ≡ lengths s
covering = covered_lengths

-- "in a sound set their lengths add up to the layer count": in a scope
pub adds_up : (s : Set Held) → scope_fits s ≡ true → All (λ (x : Slot Held). x.owned ≡ true → AddUp x.extent x.held) s.slots
adds_up = scope_adds_up

-- and in a tracker
pub tracker_adds : (t : Tracker Held) → tracker_fits t ≡ true
    → All (λ (x : Slot (Ends Held)). x.owned ≡ true → AddUp x.extent x.held.start
    × AddUp x.extent x.held.end) t.set.slots
tracker_adds = tracker_adds_up

-- of a list that tiles w layers, also between `isolate` and `coalesce`
pub ranges : (s : List Range) (w : ℕ) → Tiles 0 s w → length s ≤ w
ranges = ranges_few

-- of an isolated list
pub isolated : (s : List Range) (a e d w : ℕ) → a < e → e ≤ w → Tiles 0 s w → length (list_of (isolate a e d s)) ≤ w
isolated = isolate_few

-- ---- The log
-- as many entries are written as are counted
pub counted : (log : List (Indexed (List Entry))) → length (pending log) ≡ entries log
counted = entries_written

-- a call adds no more entries than it names subresources
pub few : (c : Call) (k : Sets ranged) → GivenWord c → well_formed k ≡ true → entries (step ranged c k).log ≤ named_states c k
few c k w e = (few_entries c k w (sets_to k e)).0

-- nor than the textures have that its tracker owns before it: an index without an owner has no transition
pub within_owned : (c : Call) (k : Sets ranged) → GivenWord c → well_formed k ≡ true → entries (step ranged c k).log ≤ owned_of c k
within_owned = owned_few

-- which are no more than N × M × W
pub owned_within : (c : Call) (k : Sets ranged) → well_formed k ≡ true → owned_of c k ≤ capacity_of c k
owned_within = owned_most

-- so neither are the entries
pub within_capacity : (c : Call) (k : Sets ranged) → GivenWord c → well_formed k ≡ true → entries (step ranged c k).log ≤ capacity_of c k
within_capacity = capacity_few

-- so a log whose head fits, with a free entry for each that the call names, never refuses: the answer is the call's own
pub room : (c : Call) (k : Sets ranged) → GivenWord c → well_formed k ≡ true → (log : Log) → (head_check log).fails ≡ false
    → named_states c k ≤ log.head.free
    → (logging (well_formed k) log k (step ranged c k)).answer ≡ (step ranged c k).answer
room = never_full

-- and 15 does not arise
pub no_free_entry_never : (c : Call) (k : Sets ranged) → GivenWord c → well_formed k ≡ true → (log : Log) → (head_check log).fails ≡ false
    → named_states c k ≤ log.head.free
    → (logging (well_formed k) log k (step ranged c k)).answer ≡ refused NoFreeEntry → ⊥
no_free_entry_never = never_15

-- with a free entry for every subresource that the tracker owns
pub room_for_owned : (c : Call) (k : Sets ranged) → GivenWord c → well_formed k ≡ true → (log : Log) → (head_check log).fails ≡ false
    → owned_of c k ≤ log.head.free
    → (logging (well_formed k) log k (step ranged c k)).answer ≡ (step ranged c k).answer
room_for_owned = never_full_owned

-- with a free entry for every subresource that it has room for
pub room_for_all : (c : Call) (k : Sets ranged) → GivenWord c → well_formed k ≡ true → (log : Log) → (head_check log).fails ≡ false
    → capacity_of c k ≤ log.head.free
    → (logging (well_formed k) log k (step ranged c k)).answer ≡ (step ranged c k).answer
room_for_all = never_full_capacity

-- ---- "Within the limits no `strict_assert!` of the two files may fire."
pub asserts : (c : Call) (k : Sets ranged) → GivenWord c → well_formed k ≡ true → call_asserts c k ≡ true
asserts c k w e = calls_assert c k w (sets_to k e)

-- ---- WebGPU
-- the usage flags' rule is the specification's, but for several attachment uses
pub rule : (p : UsageFlags) (bit : Usage → ℕ) → Renders p bit → (us : List Usage)
    → uses_fit p (map bit us) ≡ compatible_list us || every is_attachment us
rule = flags_rule

-- after any list of calls, a single merge that passes its checks conflicts if and only if for some subresource that it names the uses taken
-- and kept, with the given one, do not fit
pub judged : (scopes trackers : List Opening) (calls : List Call) → All GivenWord calls
    → (n i : ℕ) (sh : Extent) (sel : Option Selector) (st : ℕ) → Word st
    → (r : Set Held) → slice_get (after_calls ranged calls (newly ranged scopes trackers)).scopes n ≡ Some r
    → single_refusal (head_of r) i sh sel st ≡ None
    → (s : Set Histories) × (slice_get (after_calls histories calls (newly histories scopes trackers)).scopes n ≡ Some s)
    × (InConflict (step ranged (call_merge_single n (tracker_index i) sh sel st)
    (after_calls ranged calls (newly ranged scopes trackers))).answer ↔ Unfit s i sh sel st)
judged scopes trackers calls w n i sh sel st word r e p = let j = uses_judged scopes trackers calls w n i sh sel st word r e p in
    (j.0, j.1, (j.3, j.4))

-- "UNINITIALIZED 1, EXCLUSIVE 20, COMPLEX 4096, UNKNOWN 8192" renders the specification's usages
pub bench : Renders bench_flags bench_bit
bench = bench_renders

-- and wgpu's does, with any one of its bits for storage and any one for an attachment
pub wgpu : (x : Storing) (y : Attaching) → Renders wgpu_flags (wgpu_bit x y)
wgpu = wgpu_renders

-- `rule` and `judged` joined, where single merges are given usages' bits: it conflicts if and only if a named subresource's usages are
-- neither compatible nor all attachments
pub webgpu : (bit : Usage → ℕ) (scopes trackers : List Opening) (calls : List Call) → All GivenWord calls → All (GivenUsage bit) calls
    → (n i : ℕ) (sh : Extent) (sel : Option Selector) (u : Usage) → Word (bit u)
    → (r : Set Held) → slice_get (after_calls ranged calls (newly ranged scopes trackers)).scopes n ≡ Some r → Renders r.flags bit
    → single_refusal (head_of r) i sh sel (bit u) ≡ None
    → (s : Set Histories) × (slice_get (after_calls histories calls (newly histories scopes trackers)).scopes n ≡ Some s)
    × (InConflict (step ranged (call_merge_single n (tracker_index i) sh sel (bit u))
    (after_calls ranged calls (newly ranged scopes trackers))).answer ↔ NotCompatible bit s i sh sel u)
webgpu = usages_judged
