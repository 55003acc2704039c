-- What `levels` and `deepest` say from the end of a list, a walk from its front says too: every closing closes a group that was opened,
-- none stays open, and so many are open at once.
use Rattle.std.specs.Prelude.{◌+◌, ◌≡◌, ◌∷◌}
use Rattle.model.specs.Prelude.{ℕ, zero, suc, refl, ap₂, ◌∙◌, Bool, true, false, List, [], arith, max, false≢true}
use Rattle.plan_file.specs.{Levels.level_closed, Plan.{Event, opened, used, closed, other}, Write.{level_at, levels, deepest}}

-- with k groups open, the events close them all, and none that is not open
unfoldable pub balanced_from : List Event → ℕ → Bool
balanced_from [] zero = true
balanced_from [] (suc k) = false
balanced_from (opened ∷ es) k = balanced_from es (suc k)
balanced_from (used p ∷ es) k = balanced_from es k
balanced_from (closed ∷ es) zero = false
balanced_from (closed ∷ es) (suc k) = balanced_from es k
balanced_from (other ∷ es) k = false

-- the most groups open at once, with k open at the start
unfoldable pub deepest_from : List Event → ℕ → ℕ
deepest_from [] k = k
deepest_from (opened ∷ es) k = max k (deepest_from es (suc k))
deepest_from (used p ∷ es) k = max k (deepest_from es k)
deepest_from (closed ∷ es) zero = deepest_from es zero
deepest_from (closed ∷ es) (suc k) = max (suc k) (deepest_from es k)
deepest_from (other ∷ es) k = max k (deepest_from es k)

same_max : (a b : ℕ) → max (a + 1) (b + 1) ≡ max a b + 1
same_max a b = omega arith

closed_from : (n k : ℕ) → level_at closed n ≡ suc k + 1 → n ≡ k + 1
closed_from zero k e = absurd (omega arith)
closed_from (suc n) k e = omega (arith, level_closed (suc n) (omega arith))

closed_none : (n : ℕ) → level_at closed n ≡ 0 + 1 → ⊥
closed_none zero e = omega arith
closed_none (suc n) e = omega (arith, level_closed (suc n) (omega arith))

-- balanced from the front is balanced from the end
balanced_levels : (es : List Event) (k : ℕ) → balanced_from es k ≡ true → levels es ≡ k + 1
unfolding balanced_from levels
balanced_levels [] zero e = refl
balanced_levels [] (suc k) e = absurd (false≢true e)
balanced_levels (opened ∷ es) k e = omega (arith, balanced_levels es (suc k) e)
balanced_levels (used p ∷ es) k e = balanced_levels es k e
balanced_levels (closed ∷ es) zero e = absurd (false≢true e)
balanced_levels (closed ∷ es) (suc k) e = let h : levels es ≡ k + 1 = balanced_levels es k e in
    level_closed (levels es) (omega arith) ∙ omega arith
balanced_levels (other ∷ es) k e = absurd (false≢true e)

levels_balanced : (es : List Event) (k : ℕ) → levels es ≡ k + 1 → balanced_from es k ≡ true
unfolding balanced_from levels
levels_balanced [] zero e = refl
levels_balanced [] (suc k) e = absurd (omega arith)
levels_balanced (opened ∷ es) k e = levels_balanced es (suc k) (omega arith)
levels_balanced (used p ∷ es) k e = levels_balanced es k e
levels_balanced (closed ∷ es) zero e = absurd (closed_none (levels es) e)
levels_balanced (closed ∷ es) (suc k) e = levels_balanced es k (closed_from (levels es) k e)
levels_balanced (other ∷ es) k e = absurd (omega arith)

-- and so is the depth
deepest_levels : (es : List Event) (k : ℕ) → balanced_from es k ≡ true → deepest es ≡ deepest_from es k + 1
unfolding balanced_from deepest deepest_from
deepest_levels [] zero e = refl
deepest_levels [] (suc k) e = absurd (false≢true e)
deepest_levels (opened ∷ es) k e = ap₂ max (balanced_levels (opened ∷ es) k e) (deepest_levels es (suc k) e)
    ∙ same_max k (deepest_from es (suc k))
deepest_levels (used p ∷ es) k e = ap₂ max (balanced_levels (used p ∷ es) k e) (deepest_levels es k e) ∙ same_max k (deepest_from es k)
deepest_levels (closed ∷ es) zero e = absurd (false≢true e)
deepest_levels (closed ∷ es) (suc k) e = ap₂ max (balanced_levels (closed ∷ es) (suc k) e) (deepest_levels es k e)
    ∙ same_max (suc k) (deepest_from es k)
deepest_levels (other ∷ es) k e = absurd (false≢true e)

-- a list is balanced if a walk from its front says so, and only then
pub balanced_forward : (es : List Event) → (levels es ≡ 1 → balanced_from es 0 ≡ true) × (balanced_from es 0 ≡ true → levels es ≡ 1)
balanced_forward es = (levels_balanced es 0, balanced_levels es 0)

-- of a balanced list `deepest` is one more than the most groups open at once
pub deepest_forward : (es : List Event) → levels es ≡ 1 → deepest es ≡ deepest_from es 0 + 1
deepest_forward es e = deepest_levels es 0 (levels_balanced es 0 e)
