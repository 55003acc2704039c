-- The entries of one index, in their order: a merge has the first log's before the second's.
use Rattle.model.specs.Prelude.{ℕ, arith, refl, sym, ap, ◌∙◌, Bool, true, false, List, [], append-nil, eqb, ne_eqb, eqb-true}
use Rattle.model.specs.declared.{PendingTransition.PendingTransition}
use Rattle.std.specs.Prelude.{◌≤◌, ◌<◌, ◌≡◌, ◌∷◌, ◌++◌, if◌then◌else◌}
use Rattle.log_merge.specs.Merge.{index_of, Merge, put, merge, all_of, rises_from}
use Rattle.log_merge.specs.MergeLaws.{merge_ind, rises_head, rises_tail, rises_own}

-- the entries with index k
unfoldable pub of_index : ℕ → List PendingTransition → List PendingTransition
of_index k [] = []
of_index k (a ∷ s) = if eqb (index_of a) k then a ∷ of_index k s else of_index k s

-- none has a lower index than all rise from
none_of : (k x : ℕ) (s : List PendingTransition) → k < x → rises_from x s ≡ true → of_index k s ≡ []
unfolding of_index
none_of k x [] h e = refl
none_of k x (a ∷ s) h e =
    let g = rises_head x a s e in
    let z : eqb (index_of a) k ≡ false = ne_eqb (index_of a) k (λ q. omega arith) in
    rw z (none_of k (index_of a) s (omega arith) (rises_tail x a s e))

abbrev Stable : ℕ → List PendingTransition → List PendingTransition → Merge → Type 0
Stable k s t m = (x : ℕ) → rises_from x s ≡ true → of_index k (all_of m) ≡ of_index k s ++ of_index k t

stable_right : (k : ℕ) (a : PendingTransition) (s : List PendingTransition) (b : PendingTransition) (t : List PendingTransition) (m : Merge)
    → index_of b < index_of a → Stable k (a ∷ s) t m → Stable k (a ∷ s) (b ∷ t) (put b m)
unfolding of_index
stable_right k a s b t m h q x d = go (eqb (index_of b) k) refl (q x d)
  where
    go : (v : Bool) → eqb (index_of b) k ≡ v → of_index k (all_of m) ≡ of_index k (a ∷ s) ++ of_index k t
        → (if v then b ∷ of_index k (all_of m) else of_index k (all_of m)) ≡ of_index k (a ∷ s)
        ++ (if v then b ∷ of_index k t else of_index k t)
    go true e i =
        let g = eqb-true (index_of b) k e in
        let z : of_index k (a ∷ s) ≡ [] = none_of k (index_of a) (a ∷ s) (omega arith) (rises_own x a s d) in
        let j : of_index k (all_of m) ≡ of_index k t = i ∙ ap (λ (l : List PendingTransition). l ++ of_index k t) z in
        ap (λ (l : List PendingTransition). b ∷ l) j ∙ ap (λ (l : List PendingTransition). l ++ (b ∷ of_index k t)) (sym z)
    go false e i = i

stable_left : (k : ℕ) (a : PendingTransition) (s : List PendingTransition) (b : PendingTransition) (t : List PendingTransition) (m : Merge)
    → index_of a ≤ index_of b → Stable k s (b ∷ t) m → Stable k (a ∷ s) (b ∷ t) (put a m)
unfolding of_index
stable_left k a s b t m h q x d = go (eqb (index_of a) k) (q (index_of a) (rises_tail x a s d))
  where
    go : (v : Bool) → of_index k (all_of m) ≡ of_index k s ++ of_index k (b ∷ t)
        → (if v then a ∷ of_index k (all_of m) else of_index k (all_of m))
        ≡ (if v then a ∷ of_index k s else of_index k s) ++ of_index k (b ∷ t)
    go true i = ap (λ (l : List PendingTransition). a ∷ l) i
    go false i = i

pub stable_is : (k : ℕ) (s t : List PendingTransition) → Stable k s t (merge s t)
unfolding of_index
stable_is k =
    merge_ind (Stable k)
    (λ t x d. refl)
    (λ a s x d. ap (of_index k) (append-nil (a ∷ s)) ∙ sym (append-nil (of_index k (a ∷ s))))
    (stable_right k)
    (stable_left k)
