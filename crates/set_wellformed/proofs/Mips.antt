-- A mip as the code reads it, and the mips of a texture within its set's.
use Rattle.model.specs.Prelude.{ℕ, min-eq_left, arith, sym, ◌∙◌, true, false, false≢true, List, get_or, take, drop, ne_eqb, lt-leb}
use Rattle.model.specs.{declared.UsageFlags.UsageFlags, Sets.Numbers, BoolLaws.by_lt, WellFormed.ranges_fit}
use Rattle.std.specs.Prelude.{◌*◌, ◌-◌, ◌≤◌, ◌<◌, ◌≡◌}
use Rattle.range_states.specs.View.{decode}
use Rattle.set_storage.specs.Part.{base_of, part_of}
use Rattle.set_storage.specs.Storage.{numbers_of, count_at, mip_of, mips_in, mips_at, layers_at, layer_limit_at}
use Rattle.set_storage.specs.Frames.{mip_is}
use Rattle.set_wellformed.specs.Parts.{Sized, Few, mips_fit, every_at}

-- the ranges of a mip, in the part that `locate` finds
pub mip_read : (d : Numbers) (h : ℕ) (t r : List ℕ) (i k b e n : ℕ) → n ≡ get_or t (count_at h i k) 0 → b ≡ base_of i k d.mips d.layers
    → e - b ≡ 3 * d.layers → n ≤ d.layers → decode n (take (e - b) (drop b r)) ≡ mip_of d h t r i k
unfolding part_of
mip_read d h t r i k b e n long eb size few = sym (rw (size, eb, long) (mip_is d h t r i k (omega (arith, long, few))))

-- a count past the room: no ranges, which tile no layer
pub mip_past : (p : UsageFlags) (layers : ℕ) (d : Numbers) (h : ℕ) (t r : List ℕ) (i k : ℕ) → 0 < layers
    → d.layers < get_or t (count_at h i k) 0 → false ≡ ranges_fit p layers 0 (mip_of d h t r i k)
unfolding mip_of
mip_past p layers d h t r i k Some past = rw (lt-leb (get_or t (count_at h i k) 0) d.layers past) (sym (ne_eqb 0 layers (λ z. omega arith)))

-- the mips that are read are those that the extent tells
pub mips_are : (d : Numbers) (t : List ℕ) (i : ℕ) → get_or t (mips_at i) 0 ≤ d.mips → mips_in d t i ≡ get_or t (mips_at i) 0
unfolding mips_in
mips_are d t i h = min-eq_left h

-- a mip of a texture whose mips fit has no more ranges than there is room for
module _ (p : UsageFlags) (h : ℕ) (t r : List ℕ) (i m : ℕ) (q : Sized t i) (f : mips_fit p h t r i ≡ true)
    (l : m < get_or t (mips_at i) 0) where
  pub mip_at_fits : ranges_fit p (get_or t (layers_at i) 0) 0 (mip_of (numbers_of t) h t r i m) ≡ true
  mip_at_fits = every_at (ranges_fit p (get_or t (layers_at i) 0) 0) (mip_of (numbers_of t) h t r i) (mips_in (numbers_of t) t i) m f
      (rw (mips_are (numbers_of t) t i q.top) l)

  pub mip_few : Few h t i m
  mip_few = by_lt (get_or t layer_limit_at 0) (get_or t (count_at h i m) 0)
      (λ x. absurd (false≢true (mip_past p (get_or t (layers_at i) 0) (numbers_of t) h t r i m q.some x ∙ mip_at_fits))) (λ x. x)
