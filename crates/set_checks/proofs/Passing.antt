-- Indices that all pass, and a set of which every index does: no check of it fails.
use Rattle.std.specs.Prelude.{◌+◌, ◌<◌, ◌≡◌, ◌&&◌}
use Rattle.model.specs.Prelude.{ℕ, arith, refl, sym, ◌∙◌, Bool, true, false, None, List, eqb, get_or, lt-ltb}
use Rattle.model.specs.{Refusals.{first_failing, extent_outside, other_extent}, BoolLaws.{by_lt, nor as neither, and_both as both}}
use Rattle.set_storage.specs.Storage.{numbers_of, extent_of, owned_at, textures_at}
use Rattle.set_checks.specs.{Head.{owned_extent, extent_at}, Sets.{owned_refusal, owned_passes, AllPass}}

-- one index more is one test more
pub passes_more : {t g : List ℕ} {i : ℕ} (a b : Bool) → (a ≡ true → AllPass t g i) → b ≡ owned_passes t g i
    → (a && b) ≡ true → AllPass t g (i + 1)
passes_more {t} {g} {i} a b f e p =
    let x = both a b p in
    record { each = λ j h. by_lt j i (λ l. (f x.0).each j l) (λ l. let z : j ≡ i = omega arith in rw z (sym e ∙ x.1)) }

-- 7, 8 and 9 at an index within the set
pub passes_none : (t g : List ℕ) (i : ℕ) → i < get_or t textures_at 0 → owned_passes t g i ≡ true → owned_refusal t g i ≡ None
unfolding owned_refusal first_failing
passes_none t g i h p = go (eqb (get_or g (owned_at i) 0) 0) refl
  where
    go : (b : Bool) → eqb (get_or g (owned_at i) 0) 0 ≡ b → owned_refusal t g i ≡ None
    go true e = rw e
    go false e =
        let n = neither (extent_outside (numbers_of t) (extent_of g i)) (other_extent (owned_extent t i) (extent_of g i)) (rw e at p) in
        rw (e, lt-ltb i (get_or t textures_at 0) h, n.0, extent_at t i h, n.1)
