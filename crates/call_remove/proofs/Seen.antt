-- The loop over the list: which indices were listed before, and the entries of one by that.
use Rattle.model.specs.Prelude.{ℕ, add-one, ℕ_discrete, arith, refl, sym, ◌∙◌, Bool, true, false, List, [], eqb, length, get_or, set, take}
use Rattle.model.specs.Prelude.{replicate, length-set, get_or-replicate, take-suc, get_or-set_same, get_or-set_other, eq-eqb, ne_eqb}
use Rattle.model.specs.declared.{UsageFlags.UsageFlags}
use Rattle.std.specs.Prelude.{◌+◌, ◌<◌, ◌≡◌, if◌then◌else◌}
use Rattle.texture_barrier.specs.Entries.{entries_at}
use Rattle.agreement.specs.LogBound.{listed}
use Rattle.set_storage.specs.Storage.{start_half}
use Rattle.texture_track.specs.GivenSlot.{given_entries}
use Rattle.call_remove.specs.{Logs.listed_entries, Once.listed_last}

-- ---- Which indices were listed so far: true at each
pub record Seen (seen : List Bool) (is : List ℕ) (k : ℕ) : Type 0 where
  pub long : length seen ≡ 64
  pub tells : (j : ℕ) → j < 64 → get_or seen j false ≡ listed j (take k is)

-- none yet
pub seen_none : (is : List ℕ) → Seen (replicate 64 false) is 0
seen_none is = record { long = refl; tells = λ j h. let e = get_or-replicate {A = Bool} 64 j false false h in rw e }

-- one more
pub seen_next : {seen : List Bool} {is : List ℕ} {k i : ℕ} → Seen seen is k → k < length is → i ≡ get_or is k 0 → get_or is k 0 < 64
    → Seen (set seen i true) is (k + 1)
seen_next {seen} {is} {k} {i} q h e l =
    record {
      long = length-set seen i true ∙ q.long;
      tells = λ j b. rw (add-one, take-suc is k 0 h, listed_last j (get_or is k 0) (take k is), ← e) (go j b (ℕ_discrete i j));
    }
  where
    go : (j : ℕ) → j < 64 → Dec (i ≡ j) → get_or (set seen i true) j false ≡ (if eqb i j then true else listed j (take k is))
    go j b (yes z) = rw (← z, get_or-set_same seen i true false (omega (arith, q.long)), eq-eqb i i refl)
    go j b (no z) = rw (get_or-set_other seen i j true false (λ y. z (sym y)), ne_eqb i j z) (q.tells j b)

-- ---- The entries of the index at position k
module _ {seen : List Bool} {is : List ℕ} {k i : ℕ} (q : Seen seen is k) (e : i ≡ get_or is k 0) (h : get_or is k 0 < 64)
    (p : UsageFlags) (mask : ℕ) (t z g r : List ℕ) where
  -- none where it was listed before
  pub once_again : get_or seen i false ≡ true → entries_at (get_or is k 0) (listed_entries p mask t z g r is k) ≡ []
  once_again b = let f : listed (get_or is k 0) (take k is) ≡ true = sym (q.tells (get_or is k 0) h) ∙ rw e at b in rw f

  -- its own otherwise
  pub once_first : get_or seen i false ≡ false
      → entries_at (get_or is k 0) (listed_entries p mask t z g r is k) ≡ entries_at i (given_entries p mask t z start_half g r i)
  once_first b = let f : listed (get_or is k 0) (take k is) ≡ false = sym (q.tells (get_or is k 0) h) ∙ rw e at b in rw (f, e)
