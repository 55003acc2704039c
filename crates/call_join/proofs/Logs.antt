-- The log of a joined set: what the loop asks for, and that the entries of every index are the model's.
use Rattle.model.specs.Prelude.{ℕ, arith, refl, Bool, true, false, List, get_or, []}
use Rattle.model.specs.{Base.each_at₂, Calls.{log_given, log_slot}, Log.{pending, pending_of}, Texture.ranged}
use Rattle.std.specs.Prelude.{◌≤◌, ◌<◌, ◌≡◌, if◌then◌else◌}
use Rattle.set_storage.specs.Storage.{flags_of, extent_of, owned_of, slot_with, tracker_of, mask_at, textures_at, tracker_slot}
use Rattle.texture_barrier.specs.Entries.{entries_at}
use Rattle.set_ready.specs.{Half.tracker_texture, Given.given_at}
use Rattle.texture_track.specs.{Slot.slot_pending, GivenSlot.{pair_of, pass_start, pass_end, end_entries, given_entries}}
use Rattle.call_join.specs.{Join.{Joins, LogsSet, given_of, joined_entries, start_given}, Lists.each_list}

-- ---- What the loop asks for: every index is ready
module _ {t s e : List ℕ} {from to : ℕ} {g a b : List ℕ} (w : Joins t s e from to g a b) where
  -- of a set that passed the checks
  pub logs_set : LogsSet t e from g a (get_or g textures_at 0)
  logs_set = record {
    few = w.given.start.textures;
    each = λ i h. record {
      index = omega (arith, w.given.start.textures);
      ready = λ o. (tracker_texture w.tracker (w.passed.each i h o)).end;
      given = λ o. start_given w t refl i h o;
    };
  }

-- ---- The entries are the model's
-- an index that the tracker lacks is not owned by the given set
not_past : {t s e : List ℕ} {from to : ℕ} {g a b : List ℕ} → Joins t s e from to g a b → (i : ℕ) → i < get_or g textures_at 0
    → get_or t textures_at 0 ≤ i → owned_of g i ≡ false
not_past {g = g} w i h past = go (owned_of g i) refl
  where
    go : (x : Bool) → owned_of g i ≡ x → x ≡ false
    go true o = absurd (omega (arith, (w.passed.each i h o).texture))
    go false o = refl

-- those of every index
pub entries_model : {t s e : List ℕ} {from to : ℕ} {g a b : List ℕ} → Joins t s e from to g a b
    → pending (each_at₂ (log_given ranged pass_start pass_end (flags_of t) (get_or t mask_at 0)) 0 (tracker_of t s e).set.slots
    (given_of from to g a b).slots) ≡ joined_entries t e from g a
unfolding tracker_of
entries_model {t} {s} {e} {from} {to} {g} {a} {b} w =
    each_list pending_of (log_given ranged pass_start pass_end (flags_of t) (get_or t mask_at 0)) (tracker_slot t s e)
    (slot_with (pair_of from to g a b) g) (λ (i : ℕ). entries_at i (given_entries (flags_of t) (get_or t mask_at 0) t e from g a i))
    (get_or t textures_at 0) (get_or g textures_at 0)
    (λ x h k. go x (owned_of g x)) (λ x h k. rw (not_past w x k h))
  where
    go : (x : ℕ) (o : Bool)
        → pending (if o then log_slot ranged (flags_of t) (get_or t mask_at 0) (extent_of g x) (given_at from
        g a x) x (tracker_slot t s e x)
        else []) ≡ entries_at x (if o then end_entries (flags_of t) (get_or t mask_at 0) (extent_of g x) (given_at from g a x) t e x
        else [])
    go x true = slot_pending (flags_of t) (get_or t mask_at 0) (extent_of g x) (given_at from g a x) x (tracker_slot t s e x)
    go x false = refl
