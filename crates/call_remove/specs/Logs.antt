-- The transitions of the listed textures that a scope owns: what is asked for, and that they are the model's.
use Rattle.model.specs.Prelude.{ℕ, arith, refl, ap, ◌∙◌, Bool, true, false, List, length, get_or, take, []}
use Rattle.model.specs.{declared.{UsageFlags.UsageFlags, PendingTransition.PendingTransition}, Representation.Ends, Sets.{Slot, empty_slot}}
use Rattle.model.specs.{Calls.{no_ends, log_slot, sparse_all}, Log.{pending, pending_of}, Texture.{Held, Entry, ranged}}
use Rattle.std.specs.Prelude.{◌<◌, ◌≡◌, if◌then◌else◌}
use Rattle.set_storage.specs.Storage.{flags_of, extent_of, owned_of, start_half, scope_of, tracker_of, mask_at, textures_at, tracker_slot}
use Rattle.set_storage.specs.{Storage.scope_slot, Lists.list_at}
use Rattle.texture_barrier.specs.Entries.{entries_at}
use Rattle.agreement.specs.LogBound.{listed}
use Rattle.set_checks.specs.Passed.{SparsePassed}
use Rattle.set_ready.specs.{Tested.{ScopeTested, TrackerTested}, Half.tracker_texture, Given.{given_at, owned_given}}
use Rattle.texture_track.specs.{Slot.slot_pending, GivenSlot.{LogsAt, end_entries, given_entries}}
use Rattle.log_head.specs.UpTo.{up_to}
use Rattle.call_remove.specs.declared.logged.Listed.{Listed}
use Rattle.call_remove.specs.{Once.{once_at, once_up, once_each, up_ext}, Removed.sets_of, Sparse.{into, given, taken_log, sparse_log}}

-- what is asked of the loop: every listed index is ready
pub record LogsListed (t e g r is : List ℕ) : Type 0 where
  pub each : (k : ℕ) → k < length is → LogsAt t e (get_or is k 0) start_half g r

-- the transitions of the index at position k
abbrev pub listed_entries : UsageFlags → ℕ → List ℕ → List ℕ → List ℕ → List ℕ → List ℕ → ℕ → List Entry
listed_entries p mask t e g r is k = once_at (given_entries p mask t e start_half g r) is k

-- the entries of the first n positions, in their order
abbrev pub entries_to : UsageFlags → ℕ → List ℕ → List ℕ → List ℕ → List ℕ → List ℕ → ℕ → List PendingTransition
entries_to p mask t e g r is n = up_to (λ (k : ℕ). entries_at (get_or is k 0) (listed_entries p mask t e g r is k)) n

-- those of a list as it is logged
abbrev pub listing_entries : Listed → List PendingTransition
listing_entries x = entries_to x.p x.mask x.table.now x.ends.now x.given.now x.lent.now x.indices.now (length x.indices.now)

-- those of all that is listed
abbrev pub removed_entries : List ℕ → List ℕ → List ℕ → List ℕ → List ℕ → List PendingTransition
removed_entries t e g r is = entries_to (flags_of t) (get_or t mask_at 0) t e g r is (length is)

-- ---- The slots of an index, as the model reads them
-- the scope's, within its N
pub given_is : (t s e g r : List ℕ) (i : ℕ) → i < get_or g textures_at 0
    → given (sets_of t s e g r) i ≡ scope_slot g r i
unfolding scope_of
given_is t s e g r i h = list_at (scope_slot g r) (get_or g textures_at 0) i (empty_slot (ranged.fresh 0)) h

-- the tracker's, within its N
pub into_is : (t s e g r : List ℕ) (i : ℕ) → i < get_or t textures_at 0 → into (sets_of t s e g r) i ≡ tracker_slot t s e i
unfolding tracker_of
into_is t s e g r i h = list_at (tracker_slot t s e) (get_or t textures_at 0) i (empty_slot (no_ends ranged)) h

-- ---- Once the test and the checks passed
module _ {t s e g r is : List ℕ} (tested : TrackerTested t s e) (scope : ScopeTested g r) (passed : SparsePassed t g is) where
  -- every listed index is ready
  pub logs_listed : LogsListed t e g r is
  logs_listed = record {
    each = λ k h.
        let i = get_or is k 0 in let b = passed.below k h in
        record {
          index = omega (arith, scope.measured.textures);
          ready = λ o. (tracker_texture tested (passed.each k h o)).end;
          given = λ o. owned_given scope passed.flags b o;
        };
  }

  -- what the index at position k logs
  log_is : (k : ℕ) → k < length is
      → pending (taken_log (sets_of t s e g r) (get_or is k 0))
      ≡ entries_at (get_or is k 0) (given_entries (flags_of t) (get_or t mask_at 0) t e start_half g r (get_or is k 0))
  unfolding tracker_of
  log_is k h = rw (given_is t s e g r (get_or is k 0) (passed.below k h)) (go (owned_of g (get_or is k 0)) refl)
    where
      go : (o : Bool) → owned_of g (get_or is k 0) ≡ o
          → pending (if o then log_slot ranged (flags_of t) (get_or t mask_at 0) (extent_of g (get_or is k 0)) (given_at start_half g r
          (get_or is k 0)) (get_or is k 0) (into (sets_of t s e g r) (get_or is k 0)) else [])
          ≡ entries_at (get_or is k 0) (if o
          then end_entries (flags_of t) (get_or t mask_at 0) (extent_of g (get_or is k 0)) (given_at start_half g r
          (get_or is k 0)) t e (get_or is k 0) else [])
      go true o =
          ap (λ (x : Slot (Ends Held)).
          pending (log_slot ranged (flags_of t) (get_or t mask_at 0) (extent_of g (get_or is k 0)) (given_at start_half g r (get_or is k 0))
          (get_or is k 0) x)) (into_is t s e g r (get_or is k 0) (passed.each k h o).texture)
          ∙ slot_pending (flags_of t) (get_or t mask_at 0) (extent_of g (get_or is k 0)) (given_at start_half g r
          (get_or is k 0)) (get_or is k 0)
          (tracker_slot t s e (get_or is k 0))
      go false o = refl

  -- THE ENTRIES are the model's
  pub entries_model : pending (sparse_all ranged is (sets_of t s e g r)).log ≡ removed_entries t e g r is
  entries_model =
      ap pending (sparse_log (sets_of t s e g r) is) ∙ once_each pending_of (taken_log (sets_of t s e g r)) [] is
      ∙ once_up (λ (i : ℕ). pending (taken_log (sets_of t s e g r) i)) is
      ∙ up_ext (once_at (λ (i : ℕ). pending (taken_log (sets_of t s e g r) i)) is) (λ (k : ℕ). entries_at (get_or is k 0)
      (listed_entries (flags_of t) (get_or t mask_at 0) t e g r is k)) (length is)
      (λ k h. go k (listed (get_or is k 0) (take k is)) (log_is k h))
    where
      go : (k : ℕ) (b : Bool)
          → pending (taken_log (sets_of t s e g r) (get_or is k 0))
          ≡ entries_at (get_or is k 0) (given_entries (flags_of t) (get_or t mask_at 0) t e start_half g r (get_or is k 0))
          → (if b then [] else pending (taken_log (sets_of t s e g r) (get_or is k 0)))
          ≡ entries_at (get_or is k 0) (if b then []
          else given_entries (flags_of t) (get_or t mask_at 0) t e start_half g r (get_or is k 0))
      go k true e = refl
      go k false e = e
