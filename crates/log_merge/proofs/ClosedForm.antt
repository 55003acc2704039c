-- The closed form of a merge of two logs that ascend: how many entries of each are merged, and so what is left of each.
use Rattle.model.specs.Prelude.{ℕ, suc, arith, refl, ap, ◌∙◌, Bool, true, false, List, [], ltb, length, drop, length-drop, lt-ltb, le-ltb}
use Rattle.model.specs.declared.{PendingTransition.PendingTransition}
use Rattle.std.specs.Prelude.{◌+◌, ◌≤◌, ◌<◌, ◌≡◌, ◌∷◌, if◌then◌else◌}
use Rattle.log_merge.specs.Merge.{index_of, Merge, put, merge, rises_from, ascending, below, last_of, first_count, second_count}
use Rattle.log_merge.specs.MergeLaws.{merge_ind, rises_tail, rises_own, last_from, below_none, below_more, below_few}

-- ---- What is left
abbrev Left : List PendingTransition → List PendingTransition → Merge → Type 0
Left s t m = (x y : ℕ) → rises_from x s ≡ true → rises_from y t ≡ true
    → (m.first ≡ drop (first_count s t) s) × (m.second ≡ drop (second_count s t) t)

left_right : (a : PendingTransition) (s : List PendingTransition) (b : PendingTransition) (t : List PendingTransition) (m : Merge)
    → index_of b < index_of a → Left (a ∷ s) t m → Left (a ∷ s) (b ∷ t) (put b m)
unfolding first_count second_count last_of below rises_from
left_right a s b [] m h q x y d e =
    let l = last_from x a s d in
    let n : below (index_of b + 1) (a ∷ s) ≡ 0 = below_none (index_of b + 1) (index_of a) (a ∷ s) (omega arith) (rises_own x a s d) in
    let z : ltb (index_of b) (last_of a s) ≡ true = lt-ltb (index_of b) (last_of a s) (omega arith) in
    let i = q x y d refl in
    rw z (rw n i.0, i.1)
left_right a s b (b₂ ∷ t) m h q x y d e =
    let l = last_from x a s d in
    go (ltb (last_of b₂ t) (last_of a s)) (below_more (last_of a s) b (b₂ ∷ t) (omega arith))
    (q x (index_of b) d (rises_tail y b (b₂ ∷ t) e))
  where
    go : (v : Bool) → below (last_of a s) (b ∷ (b₂ ∷ t)) ≡ suc (below (last_of a s) (b₂ ∷ t))
        → (m.first ≡ drop (if v then below (last_of b₂ t + 1) (a ∷ s) else length (a ∷ s)) (a ∷ s))
        × (m.second ≡ drop (if v then length (b₂ ∷ t) else below (last_of a s) (b₂ ∷ t)) (b₂ ∷ t))
        → (m.first ≡ drop (if v then below (last_of b₂ t + 1) (a ∷ s) else length (a ∷ s)) (a ∷ s))
        × (m.second ≡ drop (if v then length (b ∷ (b₂ ∷ t)) else below (last_of a s) (b ∷ (b₂ ∷ t))) (b ∷ (b₂ ∷ t)))
    go true n i = i
    go false n i = (i.0, rw n i.1)

left_left : (a : PendingTransition) (s : List PendingTransition) (b : PendingTransition) (t : List PendingTransition) (m : Merge)
    → index_of a ≤ index_of b → Left s (b ∷ t) m → Left (a ∷ s) (b ∷ t) (put a m)
unfolding first_count second_count last_of below rises_from
left_left a [] b t m h q x y d e =
    let l = last_from y b t e in
    let n : below (index_of a) (b ∷ t) ≡ 0 = below_none (index_of a) (index_of b) (b ∷ t) (omega arith) (rises_own y b t e) in
    let z : ltb (last_of b t) (index_of a) ≡ false = le-ltb (last_of b t) (index_of a) (omega arith) in
    let i = q x y refl e in
    rw z (i.0, rw n i.1)
left_left a (a₂ ∷ s) b t m h q x y d e =
    let l = last_from y b t e in
    go (ltb (last_of b t) (last_of a₂ s)) (below_more (last_of b t + 1) a (a₂ ∷ s) (omega arith))
    (q (index_of a) y (rises_tail x a (a₂ ∷ s) d) e)
  where
    go : (v : Bool) → below (last_of b t + 1) (a ∷ (a₂ ∷ s)) ≡ suc (below (last_of b t + 1) (a₂ ∷ s))
        → (m.first ≡ drop (if v then below (last_of b t + 1) (a₂ ∷ s) else length (a₂ ∷ s)) (a₂ ∷ s))
        × (m.second ≡ drop (if v then length (b ∷ t) else below (last_of a₂ s) (b ∷ t)) (b ∷ t))
        → (m.first ≡ drop (if v then below (last_of b t + 1) (a ∷ (a₂ ∷ s)) else length (a ∷ (a₂ ∷ s))) (a ∷ (a₂ ∷ s)))
        × (m.second ≡ drop (if v then length (b ∷ t) else below (last_of a₂ s) (b ∷ t)) (b ∷ t))
    go true n i = (rw n i.0, i.1)
    go false n i = i

pub left_is : (s t : List PendingTransition) → Left s t (merge s t)
unfolding first_count second_count
left_is = merge_ind Left (λ t x y d e. (refl, refl)) (λ a s x y d e. (refl, refl)) left_right left_left

-- ---- How many are merged: all but what is left
all_there : (s t : List PendingTransition)
    → length (merge s t).merged + (length (merge s t).first + length (merge s t).second) ≡ length s + length t
all_there =
    merge_ind (λ s t m. length m.merged + (length m.first + length m.second) ≡ length s + length t)
    (λ t. omega arith) (λ a s. omega arith) (λ a s b t m h q. omega arith) (λ a s b t m h q. omega arith)

few_if : (v : Bool) (x y n : ℕ) → x ≤ n → y ≤ n → (if v then x else y) ≤ n
few_if true x y n h k = h
few_if false x y n h k = k

pub first_few : (s t : List PendingTransition) → first_count s t ≤ length s
unfolding first_count
first_few [] t = omega arith
first_few (a ∷ s) [] = omega arith
first_few (a ∷ s) (b ∷ t) = few_if (ltb (last_of b t) (last_of a s)) _ _ _ (below_few (last_of b t + 1) (a ∷ s)) (omega arith)

pub second_few : (s t : List PendingTransition) → second_count s t ≤ length t
unfolding second_count
second_few [] t = omega arith
second_few (a ∷ s) [] = omega arith
second_few (a ∷ s) (b ∷ t) = few_if (ltb (last_of b t) (last_of a s)) _ _ _ (omega arith) (below_few (last_of a s) (b ∷ t))

pub count_is : (s t : List PendingTransition) → ascending s ≡ true → ascending t ≡ true
    → length (merge s t).merged ≡ first_count s t + second_count s t
count_is s t d e =
    let l = left_is s t 0 0 d e in
    let f = ap length l.0 ∙ length-drop (first_count s t) s in
    let g = ap length l.1 ∙ length-drop (second_count s t) t in
    omega (arith, all_there s t, first_few s t, second_few s t, f, g)

-- ---- The claims
-- how many are merged, where both ascend: `first_count` and `second_count` are the closed form
pub closed_count : (s t : List PendingTransition) → ascending s ≡ true → ascending t ≡ true
    → length (merge s t).merged ≡ first_count s t + second_count s t
closed_count = count_is

-- and what is left of each
pub closed_rest : (s t : List PendingTransition) → ascending s ≡ true → ascending t ≡ true
    → ((merge s t).first ≡ drop (first_count s t) s) × ((merge s t).second ≡ drop (second_count s t) t)
closed_rest s t d e = left_is s t 0 0 d e
