-- The first refusal of many: none where no check fails, and that of a check before which none fails. So of a set and of a list.
use Rattle.std.specs.Prelude.{◌+◌, ◌≤◌, ◌<◌, ◌≡◌}
use Rattle.model.specs.Prelude.{ℕ, zero, suc, arith, refl, true, false, Option, None, Some, Ok, Err, List, length, get_or}
use Rattle.model.specs.{declared.Refusal.{TheVariants.FlagsDiffer, Refusal}, Flags.same_flags, Refusals.Verdict, BoolLaws.by_eq}
use Rattle.set_storage.specs.Storage.{flags_of, textures_at}
use Rattle.set_checks.specs.Sets.{first_of, owned_refusal, listed_at, set_splits, sparse_splits, OwnedTold, ListedTold, SetTold, SparseTold}

module _ (f : ℕ → Option Refusal) where
  -- none fails, from k on
  first_all : (k n : ℕ) → ((i : ℕ) → k ≤ i → i < k + n → f i ≡ None) → first_of f k n ≡ None
  unfolding first_of
  first_all k zero e = refl
  first_all k (suc n) e = rw (e k (omega arith) (omega arith)) (first_all (suc k) n (λ i a b. e i (omega arith) (omega arith)))

  -- one fails, and none before it
  first_at : (k n i : ℕ) → k ≤ i → i < k + n → ((j : ℕ) → k ≤ j → j < i → f j ≡ None) → {r : Refusal} → f i ≡ Some r
      → first_of f k n ≡ Some r
  unfolding first_of
  first_at k zero i a b e q = absurd (omega arith)
  first_at k (suc n) i a b e q =
      by_eq i k (λ z. rw (← z) (rw q))
      (λ ne. rw (e k (omega arith) (omega arith)) (first_at (suc k) n i (omega arith) (omega arith) (λ j x y. e j (omega arith) y) q))

  -- so from 0 on
  none_fails : (n : ℕ) → ((i : ℕ) → i < n → f i ≡ None) → first_of f 0 n ≡ None
  none_fails n e = first_all 0 n (λ i a b. e i (omega arith))

  one_fails : (n i : ℕ) → i < n → ((j : ℕ) → j < i → f j ≡ None) → {r : Refusal} → f i ≡ Some r → first_of f 0 n ≡ Some r
  one_fails n i h e q = first_at 0 n i (omega arith) (omega arith) (λ j a b. e j b) q

-- ---- a set
module _ {t g : List ℕ} where
  -- its flags differ
  pub set_differs : same_flags (flags_of t) (flags_of g) ≡ false → SetTold t g (Err FlagsDiffer)
  set_differs e = record { is = rw (set_splits t g, e) }

  module _ (e : same_flags (flags_of t) (flags_of g) ≡ true) where
    -- each of its indices passes
    pub set_passes : ((i : ℕ) → i < get_or g textures_at 0 → owned_refusal t g i ≡ None) → SetTold t g (Ok tt)
    set_passes p = record { is = rw (set_splits t g, e, none_fails (owned_refusal t g) (get_or g textures_at 0) p) }

    -- one fails, and none before it
    pub set_stops : {i : ℕ} {r : Refusal} → i < get_or g textures_at 0 → ((j : ℕ) → j < i → owned_refusal t g j ≡ None)
        → OwnedTold t g i (Err r) → {x : Verdict} → x ≡ Err r → SetTold t g x
    set_stops {i} h p o z = record {
      is = rw (z, set_splits t g, e, one_fails (owned_refusal t g) (get_or g textures_at 0) i h p o.is);
    }

-- ---- a list
module _ {t g list : List ℕ} where
  -- its set's flags differ
  pub sparse_differs : same_flags (flags_of t) (flags_of g) ≡ false → SparseTold t g list (Err FlagsDiffer)
  sparse_differs e = record { is = rw (sparse_splits t g list, e) }

  module _ (e : same_flags (flags_of t) (flags_of g) ≡ true) where
    -- each of its indices passes
    pub sparse_passes : ((k : ℕ) → k < length list → listed_at t g list k ≡ None) → SparseTold t g list (Ok tt)
    sparse_passes p = record { is = rw (sparse_splits t g list, e, none_fails (listed_at t g list) (length list) p) }

    -- one fails, and none before it
    pub sparse_stops : {k : ℕ} {r : Refusal} → k < length list → ((j : ℕ) → j < k → listed_at t g list j ≡ None)
        → ListedTold t g (get_or list k 0) (Err r) → {x : Verdict} → x ≡ Err r → SparseTold t g list x
    sparse_stops {k} h p o z = record {
      is = rw (z, sparse_splits t g list, e, one_fails (listed_at t g list) (length list) k h p o.is);
    }
