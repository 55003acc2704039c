-- What the tests of the head tell: numbers within their limits, room for every range, and so storage that can be indexed.
use Rattle.model.specs.Prelude.{ℕ, zero, suc, mul-le-mul_right, arith, refl, sym, Bool, true, false, not, false≢true, List, leb, ltb, eqb}
use Rattle.model.specs.Prelude.{length, ltb-false, eqb-false}
use Rattle.model.specs.{BoolLaws.{and_both as both, nor as neither}, Flags.flags_fit, Sets.{outside, numbers_fit, capacity}}
use Rattle.std.specs.Prelude.{◌*◌, ◌/◌, ◌≤◌, ◌<◌, ◌≡◌, ◌&&◌}
use Rattle.set_storage.specs.{Storage.{numbers_of, flags_of, table_length, start_half}, Frames.{Measured, measured_of as measured}}
use Rattle.set_wellformed.specs.Parts.{numbers, extent_fits, head_fits}

not_no : (a : Bool) → a ≡ false → not a ≡ true
not_no true e = absurd (false≢true (sym e))
not_no false e = refl

pub record Inside (x top : ℕ) : Type 0 where
  pub low : 0 < x
  pub high : x ≤ top

positive : (n : ℕ) → (n ≡ 0 → ⊥) → 0 < n
positive zero e = absurd (e refl)
positive (suc n) e = omega arith

inside_is : (x top : ℕ) → not (outside x top) ≡ true → Inside x top
inside_is x top e =
    let s = neither (eqb x 0) (ltb top x) e in
    record { low = positive x (eqb-false x 0 s.0); high = ltb-false top x s.1 }

pub record Numbered (n m w : ℕ) : Type 0 where
  pub textures : Inside n 64
  pub mips : Inside m 16
  pub layers : Inside w 256

pub numbers_in_lem : (n m w : ℕ) → numbers_fit (numbers n m w) ≡ true → Numbered n m w
numbers_in_lem n m w e =
    let a = both (not (outside n 64) && not (outside m 16)) (not (outside w 256)) e in
    let b = both (not (outside n 64)) (not (outside m 16)) a.0 in
    record { textures = inside_is n 64 b.0; mips = inside_is m 16 b.1; layers = inside_is w 256 a.1 }

pub extent_in : (m w mips layers : ℕ) → extent_fits m w mips layers ≡ true → Inside mips m × Inside layers w
extent_in m w mips layers e =
    let s = neither (outside mips m) (outside layers w) e in
    (inside_is mips m (not_no (outside mips m) s.0), inside_is layers w (not_no (outside layers w) s.1))

-- products of numbers within the limits are small
pub record Small (n m w : ℕ) : Type 0 where
  pub two : n * m ≤ 1024
  pub three : n * m * w ≤ 262144

pub small : (n m w : ℕ) → (n ≤ 64) × ((m ≤ 16) × (w ≤ 256)) → Small n m w
small n m w h =
    let x : n * m ≤ 64 * m = mul-le-mul_right m h.0 in let y : n * m * w ≤ 1024 * w = mul-le-mul_right w (omega arith) in
    record { two = omega arith; three = omega arith }

-- THE HEAD: the numbers are within their limits, and each half can be indexed
pub head_numbers : (t : List ℕ) (room : ℕ) → head_fits t room ≡ true → numbers_fit (numbers_of t) ≡ true
unfolding head_fits
head_numbers t room e =
    (both (numbers_fit (numbers_of t)) (flags_fit (flags_of t)) (both (numbers_fit (numbers_of t) && flags_fit (flags_of t))
    (leb (capacity (numbers_of t)) (room / 3)) e).0).0

pub head_measured : (t r : List ℕ) → length t ≡ table_length → head_fits t (length r) ≡ true → Measured (numbers_of t) start_half t r
unfolding head_fits
head_measured t r size e =
    let a = both (numbers_fit (numbers_of t) && flags_fit (flags_of t)) (leb (capacity (numbers_of t)) (length r / 3)) e in
    measured start_half t r (omega arith, omega arith) size (head_numbers t (length r) e) a.1
