-- Laws of `merge`: induction along a merge, its steps, ascending entries, and how many are below an index.
use Rattle.model.specs.Prelude.{ℕ, suc, arith, refl, Bool, true, false, List, [], ltb, length, lt-ltb, le-ltb, ltb-true, ltb-false}
use Rattle.model.specs.Prelude.{false≢true}
use Rattle.model.specs.{declared.PendingTransition.PendingTransition, BoolLaws.by_test}
use Rattle.std.specs.Prelude.{◌≤◌, ◌<◌, ◌≡◌, ◌∷◌, if◌then◌else◌}
use Rattle.log_merge.specs.Merge.{index_of, Merge, put, ahead, merge, rises_from, one, below, last_of}

-- ---- Induction along a merge
module _ (P : List PendingTransition → List PendingTransition → Merge → Type 0)
    (left_out : (t : List PendingTransition) → P [] t (record { merged = []; first = []; second = t }))
    (right_out : (a : PendingTransition) (s : List PendingTransition) → P (a ∷ s) [] (record { merged = []; first = a ∷ s; second = [] }))
    (second_goes : (a : PendingTransition) (s : List PendingTransition) (b : PendingTransition) (t : List PendingTransition) (m : Merge)
    → index_of b < index_of a → P (a ∷ s) t m → P (a ∷ s) (b ∷ t) (put b m))
    (first_Goes : (a : PendingTransition) (s : List PendingTransition) (b : PendingTransition) (t : List PendingTransition) (m : Merge)
    → index_of a ≤ index_of b → P s (b ∷ t) m → P (a ∷ s) (b ∷ t) (put a m))
  where
    ahead_ind : (a : PendingTransition) (s : List PendingTransition) (next : List PendingTransition → Merge)
        → ((t : List PendingTransition) → P s t (next t)) → (t : List PendingTransition) → P (a ∷ s) t (ahead a s next t)
    unfolding ahead
    ahead_ind a s next q [] = right_out a s
    ahead_ind a s next q (b ∷ t) =
        by_test (P (a ∷ s) (b ∷ t)) (ltb (index_of b) (index_of a))
        (λ e. second_goes a s b t (ahead a s next t) (ltb-true (index_of b) (index_of a) e) (ahead_ind a s next q t))
        (λ e. first_Goes a s b t (next (b ∷ t)) (ltb-false (index_of b) (index_of a) e) (q (b ∷ t)))

    pub merge_ind : (s t : List PendingTransition) → P s t (merge s t)
    unfolding merge ahead
    merge_ind [] t = left_out t
    merge_ind (a ∷ s) t = ahead_ind a s (merge s) (merge_ind s) t

-- ---- One step of a merge
pub merge_second : (a : PendingTransition) (s : List PendingTransition) (b : PendingTransition) (t : List PendingTransition)
    → index_of b < index_of a → merge (a ∷ s) (b ∷ t) ≡ put b (merge (a ∷ s) t)
unfolding merge ahead
merge_second a s b t h = rw (lt-ltb (index_of b) (index_of a) h)

pub merge_first : (a : PendingTransition) (s : List PendingTransition) (b : PendingTransition) (t : List PendingTransition)
    → index_of a ≤ index_of b → merge (a ∷ s) (b ∷ t) ≡ put a (merge s (b ∷ t))
unfolding merge ahead
merge_first a s b t h = rw (le-ltb (index_of b) (index_of a) h)

-- one log is used up: nothing more is merged
pub merge_no_first : (t : List PendingTransition) → merge [] t ≡ record { merged = []; first = []; second = t }
unfolding merge
merge_no_first t = refl

pub merge_no_second : (s : List PendingTransition) → merge s [] ≡ record { merged = []; first = s; second = [] }
unfolding merge ahead
merge_no_second [] = refl
merge_no_second (a ∷ s) = refl

-- ---- Ascending entries
not_then : (b c : Bool) → (if b then false else c) ≡ true → (b ≡ false) × (c ≡ true)
not_then true c e = absurd (false≢true e)
not_then false c e = (refl, e)

pub rises_head : (x : ℕ) (a : PendingTransition) (s : List PendingTransition) → rises_from x (a ∷ s) ≡ true → x ≤ index_of a
unfolding rises_from
rises_head x a s e = ltb-false (index_of a) x (not_then (ltb (index_of a) x) (rises_from (index_of a) s) e).0

pub rises_tail : (x : ℕ) (a : PendingTransition) (s : List PendingTransition) → rises_from x (a ∷ s) ≡ true
    → rises_from (index_of a) s ≡ true
unfolding rises_from
rises_tail x a s e = (not_then (ltb (index_of a) x) (rises_from (index_of a) s) e).1

pub rises_cons : (x : ℕ) (a : PendingTransition) (s : List PendingTransition)
    → x ≤ index_of a → rises_from (index_of a) s ≡ true → rises_from x (a ∷ s) ≡ true
unfolding rises_from
rises_cons x a s h e = rw (le-ltb (index_of a) x h) e

-- its own first index is what it rises from
pub rises_own : (x : ℕ) (a : PendingTransition) (s : List PendingTransition) → rises_from x (a ∷ s) ≡ true
    → rises_from (index_of a) (a ∷ s) ≡ true
rises_own x a s e = rises_cons (index_of a) a s (omega arith) (rises_tail x a s e)

-- ---- The last index, and how many are below one
pub last_from : (x : ℕ) (a : PendingTransition) (s : List PendingTransition) → rises_from x (a ∷ s) ≡ true → index_of a ≤ last_of a s
unfolding last_of
last_from x a [] e = omega arith
last_from x a (b ∷ s) e =
    let f = rises_tail x a (b ∷ s) e in omega (arith, rises_head (index_of a) b s f, last_from (index_of a) b s f)

-- none is below what all rise from
pub below_none : (k x : ℕ) (s : List PendingTransition) → k ≤ x → rises_from x s ≡ true → below k s ≡ 0
unfolding below
below_none k x [] h e = refl
below_none k x (a ∷ s) h e =
    let g = rises_head x a s e in
    let i = below_none k (index_of a) s (omega arith) (rises_tail x a s e) in
    let z : ltb (index_of a) k ≡ false = le-ltb (index_of a) k (omega arith) in
    rw (z, i) (omega arith)

pub below_more : (k : ℕ) (a : PendingTransition) (s : List PendingTransition) → index_of a < k → below k (a ∷ s) ≡ suc (below k s)
unfolding below
below_more k a s h = rw (lt-ltb (index_of a) k h) (omega arith)

pub one_few : (b : Bool) → one b ≤ 1
one_few true = omega arith
one_few false = omega arith

pub below_few : (k : ℕ) (s : List PendingTransition) → below k s ≤ length s
unfolding below
below_few k [] = omega arith
below_few k (a ∷ s) = omega (arith, one_few (ltb (index_of a) k), below_few k s)
