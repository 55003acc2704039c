-- A whole given set and a tracker: what the test and the checks have shown, and the contracts of the loops over every index.
use Rattle.model.specs.Prelude.{ℕ, refl, sym, ◌∙◌, true, List, get_or}
use Rattle.model.specs.{declared.{InvalidUse.InvalidUse, UsageFlags.UsageFlags, PendingTransition.PendingTransition}, Base.over₂}
use Rattle.model.specs.{Representation.Ends, Sets.{Slot, Set, Tracker, with_tracker}, Calls.{CallResult, set_given, set_from}}
use Rattle.model.specs.Texture.{Held, Entry, ranged}
use Rattle.std.specs.Prelude.{◌≤◌, ◌<◌, ◌≡◌}
use Rattle.set_storage.specs.Storage.{numbers_of, flags_of, extent_of, owned_of, start_half, end_half, set_with, tracker_of, mask_at}
use Rattle.set_storage.specs.{Storage.{textures_at, table_indices}, Stays.{OwnedBy, TrackerFrame}, Frames.Measured}
use Rattle.texture_barrier.specs.Entries.{entries_at}
use Rattle.set_checks.specs.Passed.{SetPassed}
use Rattle.agreement.specs.Fits.{ExtentFits}
use Rattle.set_ready.specs.{Named.Within, Tested.{HalfFits, half_fits, ScopeTested, TrackerTested}, Given.HalfGiven}
use Rattle.texture_track.specs.GivenSlot.{LogsAt, pair_of, pass_start, pass_end, given_entries}
use Rattle.log_head.specs.UpTo.{up_to}
use Rattle.call_join.specs.declared.every.Joining.{Joining}

-- ---- The given set: its halves `from` and `to`, with the ranges a and b, are given as start and end
abbrev pub given_of : ℕ → ℕ → List ℕ → List ℕ → List ℕ → Set (Ends Held)
given_of from to g a b = set_with (pair_of from to g a b) g

-- one that passed the test
pub record GivenTested (from to : ℕ) (g a b : List ℕ) : Type 0 where
  pub start : Measured (numbers_of g) from g a
  pub end : Measured (numbers_of g) to g b
  pub extent : (i : ℕ) → i < get_or g textures_at 0 → owned_of g i ≡ true → ExtentFits (numbers_of g) (extent_of g i)
  pub start_held : (i : ℕ) → i < get_or g textures_at 0 → owned_of g i ≡ true → HalfFits from g a i
  pub end_held : (i : ℕ) → i < get_or g textures_at 0 → owned_of g i ≡ true → HalfFits to g b i

-- a scope's states are both
pub scope_given : {g r : List ℕ} → ScopeTested g r → GivenTested start_half start_half g r r
scope_given {g} {r} q =
    let held : (i : ℕ) → i < get_or g textures_at 0 → owned_of g i ≡ true → HalfFits start_half g r i = λ i h o. let f = q.slots i h in
    half_fits start_half g r i (f.extent o).mips (f.held o) in
    record { start = q.measured; end = q.measured; extent = λ i h o. (q.slots i h).extent o; start_held = held; end_held = held }

-- a tracker's start and end
pub tracker_given : {g a b : List ℕ} → TrackerTested g a b → GivenTested start_half end_half g a b
tracker_given {g} {a} {b} q = record {
  start = q.starts;
  end = q.ends;
  extent = λ i h o. (q.slots i h).extent o;
  start_held = λ i h o. let f = q.slots i h in half_fits start_half g a i (f.extent o).mips (f.held o).start;
  end_held = λ i h o. let f = q.slots i h in half_fits end_half g b i (f.extent o).mips (f.held o).end;
}

-- ---- The test and the checks passed
pub record Joins (t s e : List ℕ) (from to : ℕ) (g a b : List ℕ) : Type 0 where
  pub tracker : TrackerTested t s e
  pub given : GivenTested from to g a b
  pub passed : SetPassed t g

-- index i of the given set, where it is owned, for a table u with the tracker's flags
module _ {t s e : List ℕ} {from to : ℕ} {g a b : List ℕ} (w : Joins t s e from to g a b) where
  module _ (u : List ℕ) (same : flags_of u ≡ flags_of t) (i : ℕ) (h : i < get_or g textures_at 0) (o : owned_of g i ≡ true) where
    -- as start
    pub start_given : HalfGiven u i (extent_of g i) from g a
    start_given = record {
      measured = w.given.start;
      texture = h;
      flags = w.passed.flags ∙ sym same;
      extent = refl;
      fits = w.given.extent i h o;
      held = w.given.start_held i h o;
    }

    -- as end
    pub end_given : HalfGiven u i (extent_of g i) to g b
    end_given = record {
      measured = w.given.end;
      texture = h;
      flags = w.passed.flags ∙ sym same;
      extent = refl;
      fits = w.given.extent i h o;
      held = w.given.end_held i h o;
    }

-- ---- The transitions: every index is ready
-- what is asked for
pub record LogsSet (t e : List ℕ) (from : ℕ) (g a : List ℕ) (n : ℕ) : Type 0 where
  pub few : n ≤ table_indices
  pub each : (i : ℕ) → i < n → LogsAt t e i from g a

-- the entries of the first n indices, in their order
abbrev pub entries_to : UsageFlags → ℕ → List ℕ → List ℕ → ℕ → List ℕ → List ℕ → ℕ → List PendingTransition
entries_to p mask t e from g a n = up_to (λ (i : ℕ). entries_at i (given_entries p mask t e from g a i)) n

-- what is asked for of a set as it is logged, and its entries
abbrev pub JoiningReady : Joining → Type 0
JoiningReady j = LogsSet j.table.now j.ends.now j.given.from j.given.table.now j.given.first.now j.n

abbrev pub joining_entries : Joining → List PendingTransition
joining_entries j = entries_to j.p j.mask j.table.now j.ends.now j.given.from j.given.table.now j.given.first.now j.n

-- those of the whole set
abbrev pub joined_entries : List ℕ → List ℕ → ℕ → List ℕ → List ℕ → List PendingTransition
joined_entries t e from g a = entries_to (flags_of t) (get_or t mask_at 0) t e from g a (get_or g textures_at 0)

-- ---- The change: THE VIEW after it is the model's
-- the slots that the model makes
abbrev pub slots_after : List ℕ → List ℕ → List ℕ → ℕ → ℕ → List ℕ → List ℕ → List ℕ → List (Slot (Ends Held))
slots_after t s e from to g a b = over₂ (set_given ranged pass_start pass_end (flags_of t)) 0 (tracker_of t s e).set.slots
    (given_of from to g a b).slots

-- the tracker that it leaves
abbrev pub joined_tracker : List ℕ → List ℕ → List ℕ → ℕ → ℕ → List ℕ → List ℕ → List ℕ → Tracker Held
joined_tracker t s e from to g a b = with_tracker (tracker_of t s e) (slots_after t s e from to g a b)

-- THE CONTRACT
pub record SetsAll (t s e : List ℕ) (from to : ℕ) (g a b t' s' e' : List ℕ) : Type 0 where
  pub view : tracker_of t' s' e' ≡ joined_tracker t s e from to g a b
  pub frame : TrackerFrame (Within t (OwnedBy g)) (numbers_of t) t s e t' s' e'

-- ---- The model's call, of a set as it is given
abbrev pub join_call : List ℕ → List ℕ → List ℕ → ℕ → ℕ → List ℕ → List ℕ → List ℕ → CallResult InvalidUse (List Entry) (Tracker Held)
join_call t s e from to g a b = set_from ranged pass_start pass_end (tracker_of t s e) (given_of from to g a b)
