-- What the ranged and the grid representation share: of one texture, after one call, and demand 3, after each call of a list on sets newly
-- opened alike.
use Rattle.std.specs.Prelude.{◌≤◌, ◌≡◌, ◌&&◌, ◌∷◌, if◌then◌else◌}
use Rattle.model.specs.Prelude.{ℕ, Bool, true, false, Option, None, Some, option_map, List, [], map, eqb, get_or, length}
use Rattle.model.specs.declared.{Extent.Extent, InvalidUse.InvalidUse, Selector.Selector, UsageFlags.UsageFlags}
use Rattle.model.specs.{Base.{each}, Representation.{mip_start, layer_start, holds, Ends, Representation}}
use Rattle.model.specs.{Sets.{Slot, Set, Tracker, Opening}, Refusals.{first_failing, accepted, selector_checks}}
use Rattle.model.specs.{Calls.{Indexed, Answer, done, refused, in_conflict, CallResult, Call, Sets, step, newly}, StateRules.Move}
use Rattle.model.specs.RangedStates.{layer_states}
use Rattle.model.specs.Texture.{Held, single, many, Given, from_use, from_held, insert, merge, Entry, barrier, update, ranged}
use Rattle.model.specs.{Subresources.subresources, WellFormed.{single_fits, held_fits, ends_fit}}
use Rattle.agreement.specs.Grid.{Grid, Named, named_use, named_all, grid_insert, SubresourceConflict, grid_merge, grid_barrier, grid_update}
use Rattle.agreement.specs.Grid.{grid}

-- ---- The ranged representation, seen as a grid: "In the range keeper a cell has the state of the range with its layer, or of its whole
-- texture."
unfoldable pub grid_of : Extent → Held → Grid
unfolding layer_states subresources
grid_of sh (single st) = record { single = true; states = subresources sh (single st) }
grid_of sh (many ss) = record { single = false; states = subresources sh (many ss) }

-- "in a tracker start and end have a mark and cells each"
abbrev pub grid_ends : Extent → Ends Held → Ends Grid
grid_ends sh e = record { start = grid_of sh e.start; end = grid_of sh e.end }

-- every slot of a set, seen so
abbrev pub grid_slots : {H J : Type 0} → (Extent → H → J) → List (Slot H) → List (Slot J)
grid_slots v l = map (λ x. record { owned = x.owned; extent = x.extent; held = v x.extent x.held }) l

-- a scope
abbrev pub grid_scope : Set Held → Set Grid
grid_scope s = record { numbers = s.numbers; flags = s.flags; slots = grid_slots grid_of s.slots }

-- a tracker
abbrev pub grid_tracker : Tracker Held → Tracker Grid
grid_tracker t = record {
  mask = t.mask;
  set = record {
    numbers = t.set.numbers;
    flags = t.set.flags;
    slots = grid_slots grid_ends t.set.slots;
  };
}

-- all sets
abbrev pub to_grids : Sets ranged → Sets grid
to_grids k = record { scopes = map grid_scope k.scopes; trackers = map grid_tracker k.trackers }

-- ---- "the clash with its texture, first cell and two states"; "A clash's first cell is the first mip and layer of its place"
abbrev pub first_of : InvalidUse → SubresourceConflict
first_of c = record { mip = mip_start c.selector; layer = layer_start c.selector; old = c.old; new = c.new }

-- "they share after each call: the refusal, or the clash"
abbrev pub seen_answer : Answer InvalidUse → Answer SubresourceConflict
seen_answer done = done
seen_answer (refused r) = refused r
seen_answer (in_conflict c) = in_conflict (record { index = c.index; what = first_of c.what })

-- ---- "every owned index with its shape, marks and cells": v sees what is held
pub record Owned (A : Type 0) : Type 0 where
  pub extent : Extent
  pub what : A

-- of an index that is owned
abbrev pub seen_slot : {H A : Type 0} → (Extent → H → A) → Slot H → Option (Owned A)
seen_slot v x = if x.owned then Some (record { extent = x.extent; what = v x.extent x.held }) else None

-- of every index of a set
abbrev pub seen : {H A : Type 0} → (Extent → H → A) → Set H → List (Option (Owned A))
seen v s = map (seen_slot v) s.slots

-- a grid is seen as it is
abbrev pub itself : {H : Type 0} → Extent → H → H
itself sh h = h

-- ---- "each cell's transition": "A log entry is a transition of each cell in its mips and layers."
-- none or one
abbrev pub to_list : {A : Type 0} → Option A → List A
to_list None = []
to_list (Some x) = x ∷ []

-- the transitions of a subresource, mip m and layer l, among a texture's entries
abbrev pub entries_at : ℕ → ℕ → List Entry → List Move
entries_at m l es = each (λ (e : Entry). if holds e.selector m l then e.move ∷ [] else []) es

-- and on the grid
abbrev pub grid_at : ℕ → ℕ → List (List (Option Move)) → List Move
grid_at m l rows = to_list (get_or (get_or rows m []) l None)

-- what a log tells of index i
abbrev pub of_index : {A B : Type 0} → ℕ → (A → List B) → List (Indexed A) → List B
of_index i f log = each (λ x. if eqb x.index i then f x.what else []) log

-- the transitions of a subresource of index i in the ranged model's log
abbrev pub logged_at : ℕ → ℕ → ℕ → List (Indexed (List Entry)) → List Move
logged_at i m l log = of_index i (entries_at m l) log

-- and in the grid's
abbrev pub moved_at : ℕ → ℕ → ℕ → List (Indexed (List (List (Option Move)))) → List Move
moved_at i m l log = of_index i (grid_at m l) log

-- ---- Texture by texture: a use is a selector (or none) with a state, or a texture of another set, as either representation is handed it
pub data Use : Type 0 where
  of_selector : Option Selector → ℕ → Use
  of_texture : Held → Use

-- as the ranged representation is handed it
abbrev pub ranged_use : Extent → Use → Given
ranged_use sh (of_selector sel st) = from_use sh sel st
ranged_use sh (of_texture h) = from_held h

-- as the grid is
abbrev pub grid_use : Extent → Use → Named
grid_use sh (of_selector sel st) = named_use sh sel st
grid_use sh (of_texture h) = named_all (grid_of sh h)

-- what 16 to 19 and 11 let through
abbrev pub selector_fits : Extent → Option Selector → Bool
selector_fits sh sel = accepted (first_failing (selector_checks sh sel))

-- a use that passes: what 16 to 19 and 11 to 13 let through, of sixteen bits; a texture that is well formed
abbrev pub use_fits : UsageFlags → Extent → Use → Bool
use_fits p sh (of_selector sel st) = selector_fits sh sel && single_fits p st
use_fits p sh (of_texture h) = held_fits p sh h

-- insert, merge, barrier and update of a texture of extent sh, well formed, with a use: what they share, and that the texture stays well
-- formed
pub record TextureShares (p : UsageFlags) (sh : Extent) (u : Use) : Type 0 where
  pub inserted : grid_of sh (insert p sh (ranged_use sh u)) ≡ grid_insert p sh (grid_use sh u)
  pub inserted_fits : held_fits p sh (insert p sh (ranged_use sh u)) ≡ true
  -- also what stays changed where a conflict stopped it; a conflict in one just where in the other, with the same first subresource and
  -- states
  pub merged : (h : Held) → held_fits p sh h ≡ true
      → grid_of sh (merge p sh h (ranged_use sh u)).value ≡ (grid_merge p sh (grid_of sh h) (grid_use sh u)).value
  pub conflict : (h : Held) → held_fits p sh h ≡ true
      → option_map first_of (merge p sh h (ranged_use sh u)).conflict ≡ (grid_merge p sh (grid_of sh h) (grid_use sh u)).conflict
  pub merged_fits : (h : Held) → held_fits p sh h ≡ true → held_fits p sh (merge p sh h (ranged_use sh u)).value ≡ true
  -- of the entries, those that hold a subresource are the grid's one, or none
  pub logged : (mask : ℕ) (e : Ends Held) → ends_fit p sh e ≡ true → (m l : ℕ)
      → entries_at m l (barrier p mask sh e.end (ranged_use sh u)) ≡ grid_at m l (grid_barrier p mask sh (grid_of sh e.end) (grid_use sh u))
  pub updated : (e : Ends Held) → ends_fit p sh e ≡ true
      → grid_ends sh (update p sh e (ranged_use sh u)) ≡ grid_update p sh (grid_ends sh e) (grid_use sh u)
  pub updated_fits : (e : Ends Held) → ends_fit p sh e ≡ true → ends_fit p sh (update p sh e (ranged_use sh u)) ≡ true

-- ---- What is shared after one call
pub record Shares (r : CallResult InvalidUse (List Entry) (Sets ranged))
    (s : CallResult SubresourceConflict (List (List (Option Move))) (Sets grid)) : Type 0 where
  pub answer : seen_answer r.answer ≡ s.answer
  pub scopes : map (seen grid_of) r.after.scopes ≡ map (seen itself) s.after.scopes
  pub trackers : map (λ (t : Tracker Held). seen grid_ends t.set) r.after.trackers
      ≡ map (λ (t : Tracker Grid). seen itself t.set) s.after.trackers
  pub moves : (i m l : ℕ) → logged_at i m l r.log ≡ moved_at i m l s.log
  -- "at most one a call"
  pub once : (i m l : ℕ) → length (logged_at i m l r.log) ≤ 1

-- the sets of a representation after a list of calls
abbrev pub after_calls : (K : Representation) → List Call → Sets K → Sets K
after_calls K [] k = k
after_calls K (c ∷ cs) k = after_calls K cs (step K c k).after

-- ---- After each call of a list: "A call gets the sets as the last one left them"
abbrev pub Agree : Sets ranged → Sets grid → List Call → Type 0
Agree k s [] = Unit {0}
Agree k s (c ∷ cs) = Shares (step ranged c k) (step grid c s) × Agree (step ranged c k).after (step grid c s).after cs

-- ---- Demand 3: "For every list of .. calls, refused and clashing ones included, given to both newly opened, they share after each call"
abbrev pub Demand3 : Type 0
Demand3 = (scopes trackers : List Opening) (calls : List Call) → Agree (newly ranged scopes trackers) (newly grid scopes trackers) calls
