-- Two lists that agree from w on.
use Rattle.std.specs.Prelude.{◌+◌, ◌-◌, ◌≤◌, ◌≡◌, ◌++◌}
use Rattle.model.specs.Prelude.{ℕ, arith, List, get_or, take, drop, length, take-append-drop, get_or-drop, drop-drop}
use Rattle.model.specs.Prelude.{drop-append-le, length-take-le}

module _ {A : Type 0} (a b : List A) (w : ℕ) (e : drop w a ≡ drop w b) where
  pub agree_drop : (i : ℕ) → w ≤ i → drop i a ≡ drop i b
  agree_drop i h =
      let q : i ≡ w + (i - w) = omega arith in
      rw (q, ← drop-drop (i - w) w a, ← drop-drop (i - w) w b, e)

  pub agree_at : (i : ℕ) (d : A) → w ≤ i → get_or a i d ≡ get_or b i d
  agree_at i d h =
      let q : i ≡ w + (i - w) = omega arith in
      rw (q, ← get_or-drop w a (i - w) d, ← get_or-drop w b (i - w) d, e)

-- a list from k on, cut at t
pub drop_cut : {A : Type 0} (k t : ℕ) (l : List A) → k ≤ t → t ≤ length l → drop k (take t l) ++ drop t l ≡ drop k l
drop_cut k t l h g =
    let q : k ≤ length (take t l) = rw (length-take-le t l g) h in
    rw (← drop-append-le k (take t l) (drop t l) q, take-append-drop)
