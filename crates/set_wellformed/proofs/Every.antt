-- `all` over the positions below n is the test of the list of what stands there.
use Rattle.model.specs.Prelude.{ℕ, zero, suc, add-one, arith, refl, ◌∙◌, Bool}
use Rattle.model.specs.Base.{every}
use Rattle.std.specs.Prelude.{◌≡◌}
use Rattle.std.specs.List.{list_all, range_with_len}
use Rattle.std.specs.Iterator.{ChecksAll}
use Rattle.std.specs.Fn.{Called}
use Rattle.std.specs.declared.ops.Range.{Range}
use Rattle.std.proofs.lemmas.Iterator.{YieldsList-from_range}
use Rattle.std.proofs.iter.Yields.{nat_range_steps}
use Rattle.std.proofs.lemmas.Iterator.Search.{all_from_yields_List}
use Rattle.set_storage.specs.Storage.{list_from}
use denote.Param.Members.{Mut}

every_range : {A : Type 0} (g : A → Bool) (f : ℕ → A) (k n : ℕ)
    → list_all (λ (i : ℕ). g (f i)) (range_with_len k n) ≡ every g (list_from f k n)
unfolding list_from
every_range g f k zero = refl
every_range g f k (suc n) = rw (add-one, every_range g f (suc k) n)

-- each call of the closure answers the test g of what f has at its position
pub all_of : {A F : Type 0} {q : Mut F (ℕ × Unit {0}) Bool} {x : F} {u : Range ℕ} {r : Bool} (g : A → Bool) (f : ℕ → A) (n : ℕ)
    → ChecksAll nat_range_steps q (record { start = 0; end = n }) x r u
    → ((k : ℕ) (b : Bool) (y : F) → Called q x (k, tt) b y → (y ≡ x) × (b ≡ g (f k))) → r ≡ every g (list_from f 0 n)
all_of {r} g f n ran each =
    all_from_yields_List (λ (k : ℕ). g (f k)) _ _ r ran (YieldsList-from_range 0 n n refl (omega arith)) each ∙ every_range g f 0 n
