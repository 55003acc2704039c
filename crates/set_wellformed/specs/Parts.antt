-- Tests of every position of a list, as loops make them, and what the code needs of storage to make them.
use Rattle.model.specs.Prelude.{ℕ, zero, suc, add-one, le_ind, arith, refl, sym, Bool, true, false, not, and-true, and_assoc, List, leb}
use Rattle.model.specs.Prelude.{eqb, get_or}
use Rattle.model.specs.{declared.UsageFlags.UsageFlags, BoolLaws.and_both as both, Base.every, Flags.flags_fit}
use Rattle.model.specs.{Sets.{Numbers, outside, numbers_fit, capacity}, WellFormed.{held_fits, slot_fits, ranges_fit}}
use Rattle.std.specs.Prelude.{◌+◌, ◌/◌, ◌≤◌, ◌<◌, ◌≡◌, ◌&&◌, ◌||◌}
use Rattle.set_storage.specs.Storage.{numbers_of, flags_of, mips_of, list_from, scope_slot, count_at, state_at, complex_at, textures_at}
use Rattle.set_storage.specs.Storage.{mips_at, layers_at, mip_limit_at, layer_limit_at}

-- index i of a set, and its extent is within the set's
pub record Sized (t : List ℕ) (i : ℕ) : Type 0 where
  pub texture : i < get_or t textures_at 0
  pub top : get_or t (mips_at i) 0 ≤ get_or t mip_limit_at 0
  pub some : 0 < get_or t (layers_at i) 0

-- mip m of index i has no more ranges than there is room for
abbrev pub Few : ℕ → List ℕ → ℕ → ℕ → Type 0
Few h t i m = get_or t (count_at h i m) 0 ≤ get_or t layer_limit_at 0

-- ---- The parts of the test, as the code makes them
-- the word of index i in a half tells COMPLEX
abbrev pub is_many : List ℕ → ℕ → ℕ → Bool
is_many t h i = eqb (get_or t (state_at h i) 0) (get_or t complex_at 0)

-- its mips
abbrev pub mips_fit : UsageFlags → ℕ → List ℕ → List ℕ → ℕ → Bool
mips_fit p h t r i = every (ranges_fit p (get_or t (layers_at i) 0) 0) (mips_of (numbers_of t) h t r i)

abbrev pub numbers : ℕ → ℕ → ℕ → Numbers
numbers n m w = record { textures = n; mips = m; layers = w }

-- an extent within m mips and w layers
abbrev pub extent_fits : ℕ → ℕ → ℕ → ℕ → Bool
extent_fits m w mips layers = not (outside mips m || outside layers w)

-- the opening checks, of a table and of how many numbers there are for ranges
unfoldable pub head_fits : List ℕ → ℕ → Bool
head_fits t room = numbers_fit (numbers_of t) && flags_fit (flags_of t) && leb (capacity (numbers_of t)) (room / 3)

-- a scope's index i, and its first n indices
abbrev pub scope_slot_fits : List ℕ → List ℕ → ℕ → Bool
scope_slot_fits t r i = slot_fits held_fits (numbers_of t) (flags_of t) (scope_slot t r i)

abbrev pub scope_slots_fit : List ℕ → List ℕ → ℕ → Bool
scope_slots_fit t r n = every (slot_fits held_fits (numbers_of t) (flags_of t)) (list_from (scope_slot t r) 0 n)

-- ---- every position below n
module _ {A : Type 0} (g : A → Bool) (f : ℕ → A) where
  -- the last position is tested last
  every_last : (k n : ℕ) → every g (list_from f k (suc n)) ≡ every g (list_from f k n) && g (f (k + n))
  unfolding list_from
  every_last k zero = let e : k + 0 ≡ k = omega arith in rw e (and-true (g (f k)))
  every_last k (suc n) =
      let e : k + suc n ≡ suc k + n = omega arith in
      rw (e, every_last (suc k) n) (sym (and_assoc (g (f k)) (every g (list_from f (suc k) n)) (g (f (suc k + n)))))

  pub every_none : every g (list_from f 0 0) ≡ true
  unfolding list_from
  every_none = refl

  pub every_next : (n : ℕ) → every g (list_from f 0 (n + 1)) ≡ every g (list_from f 0 n) && g (f n)
  every_next n = let e : 0 + n ≡ n = omega arith in rw (add-one, every_last 0 n, e)

  -- position n passes after the first n did; or the first that does not pass decides
  pub every_more : (n : ℕ) → every g (list_from f 0 n) ≡ true → g (f n) ≡ true → every g (list_from f 0 (n + 1)) ≡ true
  every_more n a b = rw (every_next n, a, b)

  pub every_stop : (k n : ℕ) → every g (list_from f 0 k) ≡ true → g (f k) ≡ false → k < n → every g (list_from f 0 n) ≡ false
  every_stop k n a b h =
      let e : 0 + k ≡ k = omega arith in
      le_ind (λ (m : ℕ). every g (list_from f 0 m) ≡ false) (rw (every_last 0 k, e, a, b)) (λ m _ q. rw (every_last 0 m, q)) n h

  -- where every position passes, each does
  every_from : (j n k : ℕ) → every g (list_from f j n) ≡ true → k < n → g (f (j + k)) ≡ true
  unfolding list_from
  every_from j zero k a h = absurd (omega arith)
  every_from j (suc n) zero a h = let e : j + 0 ≡ j = omega arith in rw e (both (g (f j)) (every g (list_from f (suc j) n)) a).0
  every_from j (suc n) (suc k) a h =
      let e : j + suc k ≡ suc j + k = omega arith in
      rw e (every_from (suc j) n k (both (g (f j)) (every g (list_from f (suc j) n)) a).1 (omega arith))

  pub every_at : (n k : ℕ) → every g (list_from f 0 n) ≡ true → k < n → g (f k) ≡ true
  every_at n k a h = let e : 0 + k ≡ k = omega arith in rw e at (every_from 0 n k a h)

-- where each position passes one test as it passes another
pub every_same : {A B : Type 0} (g : A → Bool) (f : ℕ → A) (h : B → Bool) (k : ℕ → B) (j n : ℕ)
    → ((i : ℕ) → j ≤ i → i < j + n → g (f i) ≡ h (k i)) → every g (list_from f j n) ≡ every h (list_from k j n)
unfolding list_from
every_same g f h k j zero each = refl
every_same g f h k j (suc n) each =
    rw (each j (omega arith) (omega arith), every_same g f h k (suc j) n (λ i l m. each i (omega arith) (omega arith)))

-- where each position that passes one test passes another, and all pass the first, all pass the other
pub every_also : {A B : Type 0} (g : A → Bool) (f : ℕ → A) (h : B → Bool) (k : ℕ → B) (n : ℕ)
    → ((i : ℕ) → i < n → g (f i) ≡ true → h (k i) ≡ true) → every g (list_from f 0 n) ≡ true → every h (list_from k 0 n) ≡ true
every_also g f h k zero each a = every_none h k
every_also g f h k (suc n) each a =
    let z : 0 + n ≡ n = omega arith in let x = both (every g (list_from f 0 n)) (g (f (0 + n))) (rw (every_last g f 0 n) at a) in
    let y : g (f n) ≡ true = rw z at x.1 in
    rw (every_last h k 0 n, z, every_also g f h k n (λ i l. each i (omega arith)) x.0, each n (omega arith) y)
