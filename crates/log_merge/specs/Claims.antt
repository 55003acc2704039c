-- WHAT HOLDS of a merge: each claim is a statement with its name, of any two logs unless it says that they ascend.
use Rattle.model.specs.Prelude.{ℕ, arith, refl, true, List, [], append-nil, inl, inr}
use Rattle.model.specs.declared.{PendingTransition.PendingTransition}
use Rattle.std.specs.Prelude.{◌≡◌, ◌∷◌, ◌++◌, ◌⊎◌}
use Rattle.log_merge.specs.Merge.{index_of, merge, all_of, rises_from, ascending}
use Rattle.log_merge.specs.{MergeLaws.{merge_ind, rises_head, rises_tail, rises_cons}, Stable.{of_index, stable_is}}
use mathlib.Core.List.Permᴰ
use mathlib.Core.List.{Permᴰ}
use mathlib.Core.List.Sublistᴰ
use mathlib.Core.List.{Sublistᴰ}

-- "merged part and rest together hold every entry of both exactly once"
pub each_once_lem : (s t : List PendingTransition) → Permᴰ (s ++ t) (all_of (merge s t))
each_once_lem =
    merge_ind (λ s t m. Permᴰ (s ++ t) (all_of m))
    (λ t. Permᴰ.refl t)
    (λ a s. Permᴰ.refl ((a ∷ s) ++ []))
    (λ a s b t m h q. Permᴰ.trans (Permᴰ.middle b (a ∷ s) t) (Permᴰ.cons refl q))
    (λ a s b t m h q. Permᴰ.cons refl q)

-- "each log's own order kept": the first's
pub first_in_order : (s t : List PendingTransition) → Sublistᴰ s (all_of (merge s t))
first_in_order =
    merge_ind (λ s t m. Sublistᴰ s (all_of m))
    (λ t. Sublistᴰ.nil-sublist t)
    (λ a s. rw (append-nil (a ∷ s)) (Sublistᴰ.refl (a ∷ s)))
    (λ a s b t m h q. Sublistᴰ.cons q)
    (λ a s b t m h q. Sublistᴰ.cons-cons refl q)

-- and the second's
pub second_in_order : (s t : List PendingTransition) → Sublistᴰ t (all_of (merge s t))
second_in_order =
    merge_ind (λ s t m. Sublistᴰ t (all_of m))
    (λ t. Sublistᴰ.refl t)
    (λ a s. Sublistᴰ.nil-sublist ((a ∷ s) ++ []))
    (λ a s b t m h q. Sublistᴰ.cons-cons refl q)
    (λ a s b t m h q. Sublistᴰ.cons q)

-- "until one is used up"
pub one_used_up : (s t : List PendingTransition) → ((merge s t).first ≡ []) ⊎ ((merge s t).second ≡ [])
one_used_up =
    merge_ind (λ s t m. (m.first ≡ []) ⊎ (m.second ≡ [])) (λ t. inl refl) (λ a s. inr refl) (λ a s b t m h q. q) (λ a s b t m h q. q)

-- "ascending", where both logs ascend
pub stays_ascending : (s t : List PendingTransition) → ascending s ≡ true → ascending t ≡ true → ascending (all_of (merge s t)) ≡ true
stays_ascending s t d e =
    merge_ind (λ s t m. (x : ℕ) → rises_from x s ≡ true → rises_from x t ≡ true → rises_from x (all_of m) ≡ true)
    (λ t x d e. e)
    (λ a s x d e. rw (append-nil (a ∷ s)) d)
    (λ a s b t m h q x d e.
    rises_cons x b (all_of m) (rises_head x b t e)
    (q (index_of b) (rises_cons (index_of b) a s (omega arith) (rises_tail x a s d)) (rises_tail x b t e)))
    (λ a s b t m h q x d e.
    rises_cons x a (all_of m) (rises_head x a s d)
    (q (index_of a) (rises_tail x a s d) (rises_cons (index_of a) b t h (rises_tail x b t e))))
    s t 0 d e

-- "the first recorder's entry going first on equal index": of each index the first's entries and then the second's, where the first ascends
pub first_goes_first : (k : ℕ) (s t : List PendingTransition) → ascending s ≡ true
    → of_index k (all_of (merge s t)) ≡ of_index k s ++ of_index k t
first_goes_first k s t d = stable_is k s t 0 d
