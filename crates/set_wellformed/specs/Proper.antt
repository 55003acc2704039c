-- The test of a state in two parts: all but EXCLUSIVE (proper), and EXCLUSIVE (compatible).
use Rattle.std.specs.Prelude.{◌≤◌, ◌≡◌, ◌&&◌}
use Rattle.model.specs.Prelude.{ℕ, refl, sym, ◌∙◌, Bool, true, false, not, and-true, and-false, ltb, eqb, bit_or, eqb-false}
use Rattle.model.specs.Prelude.{ltb-true, not-true}
use Rattle.model.specs.{declared.UsageFlags.UsageFlags, BoolLaws.{and_both as both, and_left}, Flags.{meets, incompatible}}
use Rattle.model.specs.WellFormed.{state_fits, single_fits}
use Rattle.usage.specs.Gathered.{few_compatible}
use Rattle.std.specs.Int.Count.{ones_in}

-- "states nonzero, .., without COMPLEX", of 16 bits
abbrev pub state_proper : UsageFlags → ℕ → Bool
state_proper p s = not (eqb s 0) && ltb s 65536 && not (meets s p.complex)

-- "without UNKNOWN or COMPLEX"
abbrev pub single_proper : UsageFlags → ℕ → Bool
single_proper p s = state_proper p s && not (meets s p.unknown)

-- "compatible"
abbrev pub compatible : UsageFlags → ℕ → Bool
compatible p s = not (incompatible p s)

-- ---- both parts together are the test
swapped : (x y z : Bool) → ((x && y) && z) ≡ ((x && z) && y)
swapped false y z = refl
swapped true false z = sym (and-false z)
swapped true true true = refl
swapped true true false = refl

state_split : (p : UsageFlags) (s : ℕ) → state_fits p s ≡ (state_proper p s && compatible p s)
state_split p s = swapped (not (eqb s 0) && ltb s 65536) (compatible p s) (not (meets s p.complex))

pub state_unfit : (p : UsageFlags) (s : ℕ) → incompatible p s ≡ true → false ≡ state_fits p s
state_unfit p s e = sym (state_split p s ∙ rw e (and-false (state_proper p s)))

pub state_fit : (p : UsageFlags) (s : ℕ) → incompatible p s ≡ false → state_proper p s ≡ state_fits p s
state_fit p s e = sym (state_split p s ∙ rw e (and-true (state_proper p s)))

pub single_split : (p : UsageFlags) (s : ℕ) → single_fits p s ≡ (single_proper p s && compatible p s)
single_split p s = rw (state_split p s) (swapped (state_proper p s) (compatible p s) (not (meets s p.unknown)))

pub crossed : (q c r d : Bool) → ((q && c) && (r && d)) ≡ ((q && r) && (c && d))
crossed false c r d = refl
crossed true true r d = refl
crossed true false r d = sym (and-false r)

-- ---- a proper state within a union of at most one bit is compatible
module _ (p : UsageFlags) (s u : ℕ) (within : meets s p.exclusive ≡ true → bit_or s u ≡ u) (few : ones_in 16 u ≤ 1) where
  pub single_few : single_proper p s ≡ true → compatible p s ≡ true
  single_few f =
      let y = and_left (state_proper p s) (not (meets s p.unknown)) f in
      let x = both (not (eqb s 0)) (ltb s 65536) (and_left (not (eqb s 0) && ltb s 65536) (not (meets s p.complex)) y) in
      rw (few_compatible p s u (eqb-false s 0 (not-true (eqb s 0) x.0)) (ltb-true s 65536 x.1) within few)
