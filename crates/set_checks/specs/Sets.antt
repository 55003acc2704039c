-- The checks over a set and over a list: the first refusal of many, and the contracts.
use Rattle.model.specs.Prelude.{ℕ, zero, suc, arith, refl, ap, ◌∙◌, Bool, true, false, not, Option, None, Some, List, [], eqb, length}
use Rattle.model.specs.Prelude.{get_or, result_err, lt-ltb, le-ltb}
use Rattle.model.specs.{declared.Refusal.TheVariants.{FlagsDiffer, NoSuchIndex}, declared.Refusal.Refusal}
use Rattle.model.specs.{Base.{each, each_at}, Flags.same_flags}
use Rattle.model.specs.Refusals.{Check, first_failing, extent_outside, other_extent, flags_check, owned_checks, set_refusal, sparse_checks}
use Rattle.model.specs.{Refusals.{sparse_refusal, tracker_index, Verdict}, Log.or_next, BoolLaws.by_lt}
use Rattle.model.specs.CheckLaws.{checks_append, none_both}
use Rattle.std.specs.Prelude.{◌+◌, ◌≤◌, ◌<◌, ◌≡◌, ◌||◌, ◌∷◌, if◌then◌else◌}
use Rattle.set_storage.specs.Storage.{numbers_of, flags_of, extent_of, list_from, owned_at, textures_at}
use Rattle.set_checks.specs.Head.{owned_extent, head_in, extent_at}

-- ---- The first refusal of f k, f (k + 1) and so on, n of them
unfoldable pub first_of : (ℕ → Option Refusal) → ℕ → ℕ → Option Refusal
first_of f k zero = None
first_of f k (suc n) = or_next (f k) (first_of f (suc k) n)

-- 7, 8, 9 at index i, if the given set g owns it
unfoldable pub owned_refusal : List ℕ → List ℕ → ℕ → Option Refusal
owned_refusal t g i = first_failing (owned_checks (head_in t) i (owned_extent g i))

-- 7, 8, 9 at a listed index
unfoldable pub listed_refusal : List ℕ → List ℕ → ℕ → Option Refusal
listed_refusal t g i = first_failing (sparse_checks (head_in t) (head_in g) i)

-- the same at the k-th of a list
abbrev pub listed_at : List ℕ → List ℕ → List ℕ → ℕ → Option Refusal
listed_at t g list k = listed_refusal t g (get_or list k 0)

-- 8 and 9 pass at index i, if the given set g owns it
abbrev pub owned_passes : List ℕ → List ℕ → ℕ → Bool
owned_passes t g i = eqb (get_or g (owned_at i) 0) 0
    || not (extent_outside (numbers_of t) (extent_of g i) || other_extent (owned_extent t i) (extent_of g i))

pub record AllPass (t g : List ℕ) (n : ℕ) : Type 0 where
  pub each : (i : ℕ) → i < n → owned_passes t g i ≡ true

-- THE CONTRACTS: what each tells
pub record OwnedTold (t g : List ℕ) (i : ℕ) (x : Verdict) : Type 0 where
  pub is : owned_refusal t g i ≡ result_err x

pub record ListedTold (t g : List ℕ) (i : ℕ) (x : Verdict) : Type 0 where
  pub is : listed_refusal t g i ≡ result_err x

pub record SetTold (t g : List ℕ) (x : Verdict) : Type 0 where
  pub is : set_refusal (head_in t) (head_in g) ≡ result_err x

pub record SparseTold (t g list : List ℕ) (x : Verdict) : Type 0 where
  pub is : sparse_refusal (head_in t) (head_in g) list ≡ result_err x

-- ---- laws of the first refusal
module _ (f : ℕ → Option Refusal) where
  -- the same refusals, one place on
  first_shift : (k n : ℕ) → first_of (λ (i : ℕ). f (suc i)) k n ≡ first_of f (suc k) n
  unfolding first_of
  first_shift k zero = refl
  first_shift k (suc n) = ap (or_next (f (suc k))) (first_shift (suc k) n)

  -- where there is no first, there is none at any
  pub first_none : (k n : ℕ) → first_of f k n ≡ None → (i : ℕ) → k ≤ i → i < k + n → f i ≡ None
  unfolding first_of
  first_none k zero e i a b = absurd (omega arith)
  first_none k (suc n) e i a b =
      let s = none_both (f k) (first_of f (suc k) n) e in
      by_lt k i (λ h. first_none (suc k) n s.1 i h (omega arith)) (λ h. let z : i ≡ k = omega arith in rw z s.0)

-- ---- a listed index
module _ (t g : List ℕ) (i : ℕ) where
  -- below the given set's N
  pub listed_in : i < get_or g textures_at 0 → listed_refusal t g i ≡ owned_refusal t g i
  unfolding listed_refusal owned_refusal first_failing
  listed_in h = rw (lt-ltb i (get_or g textures_at 0) h, extent_at g i h)

  -- not below it
  pub listed_past : get_or g textures_at 0 ≤ i → listed_refusal t g i ≡ Some (NoSuchIndex (tracker_index i))
  unfolding listed_refusal first_failing
  listed_past h = rw (le-ltb i (get_or g textures_at 0) h)

-- ---- the flags, then a set's indices or a list's
module _ (t g : List ℕ) where
  -- 6 stands first
  flags_first : (cs : List Check)
      → first_failing (flags_check (head_in t) (head_in g) ∷ cs)
      ≡ (if same_flags (flags_of t) (flags_of g) then first_failing cs else Some FlagsDiffer)
  unfolding first_failing
  flags_first cs = go (same_flags (flags_of t) (flags_of g))
    where
      go : (b : Bool) → (if not b then Some FlagsDiffer else first_failing cs) ≡ (if b then first_failing cs else Some FlagsDiffer)
      go true = refl
      go false = refl

  -- a set's checks are those of one index after the other
  owned_first : (k n : ℕ)
      → first_failing (each_at (owned_checks (head_in t)) k (list_from (owned_extent g) k n)) ≡ first_of (owned_refusal t g) k n
  unfolding first_failing list_from first_of owned_refusal
  owned_first k zero = refl
  owned_first k (suc n) =
      checks_append (owned_checks (head_in t) k (owned_extent g k))
      (each_at (owned_checks (head_in t)) (suc k) (list_from (owned_extent g) (suc k) n))
      ∙ ap (or_next (owned_refusal t g k)) (owned_first (suc k) n)

  -- and a list's
  listed_first : (list : List ℕ)
      → first_failing (each (sparse_checks (head_in t) (head_in g)) list) ≡ first_of (listed_at t g list) 0 (length list)
  unfolding first_failing first_of listed_refusal
  listed_first [] = refl
  listed_first (i ∷ list) =
      checks_append (sparse_checks (head_in t) (head_in g) i) (each (sparse_checks (head_in t) (head_in g)) list)
      ∙ ap (or_next (listed_refusal t g i)) (listed_first list ∙ first_shift (listed_at t g (i ∷ list)) 0 (length list))

  -- 6, then the owned indices, ascending
  pub set_splits : set_refusal (head_in t) (head_in g)
      ≡ (if same_flags (flags_of t) (flags_of g) then first_of (owned_refusal t g) 0 (get_or g textures_at 0) else Some FlagsDiffer)
  set_splits = flags_first (each_at (owned_checks (head_in t)) 0 (head_in g).extents) ∙ rw (owned_first 0 (get_or g textures_at 0))

  -- 6, then the listed indices, in list order
  pub sparse_splits : (list : List ℕ)
      → sparse_refusal (head_in t) (head_in g) list
      ≡ (if same_flags (flags_of t) (flags_of g) then first_of (listed_at t g list) 0 (length list) else Some FlagsDiffer)
  sparse_splits list = flags_first (each (sparse_checks (head_in t) (head_in g)) list) ∙ rw (listed_first list)
