-- Lists made mip by mip: laws of the model's `each` and `each_at` over `list_from`.
use Rattle.std.specs.Prelude.{◌+◌, ◌-◌, ◌≤◌, ◌<◌, ◌≡◌, ◌++◌}
use Rattle.model.specs.Prelude.{ℕ, zero, suc, arith, refl, ap, ◌∙◌, List, [], append-nil}
use Rattle.model.specs.{declared.Range.Range, Base.each_at, Texture.Entry}
use Rattle.set_storage.specs.Storage.{list_from}

-- what f tells of the mips from lo up to, not including, hi, whose ranges G tells
abbrev pub mips_entries : (ℕ → List Range → List Entry) → (ℕ → List Range) → ℕ → ℕ → List Entry
mips_entries f G lo hi = each_at f lo (list_from G lo (hi - lo))

module _ {A B : Type 0} (F : ℕ → A → List B) (G : ℕ → A) where
  -- the mip at k, and those behind it
  pub mips_next : (k n m : ℕ) → n ≡ suc m → each_at F k (list_from G k n) ≡ F k (G k) ++ each_at F (suc k) (list_from G (suc k) m)
  unfolding list_from
  mips_next k n m e = rw e

  pub mips_none : (k n : ℕ) → ((x : ℕ) → k ≤ x → x < k + n → F x (G x) ≡ []) → each_at F k (list_from G k n) ≡ []
  unfolding list_from
  mips_none k zero h = refl
  mips_none k (suc n) h = rw (h k (omega arith) (omega arith)) (mips_none (suc k) n (λ x a b. h x (omega arith) (omega arith)))

  pub mips_same : (F' : ℕ → A → List B) (k n : ℕ) → ((x : ℕ) → k ≤ x → x < k + n → F x (G x) ≡ F' x (G x))
      → each_at F k (list_from G k n) ≡ each_at F' k (list_from G k n)
  unfolding list_from
  mips_same F' k zero h = refl
  mips_same F' k (suc n) h = rw (h k (omega arith) (omega arith), mips_same F' (suc k) n (λ x a b. h x (omega arith) (omega arith)))

  -- the first d mips add nothing
  mips_skip : (d k n m : ℕ) → n ≡ d + m → ((x : ℕ) → k ≤ x → x < k + d → F x (G x) ≡ [])
      → each_at F k (list_from G k n) ≡ each_at F (k + d) (list_from G (k + d) m)
  unfolding list_from
  mips_skip zero k n m e h = let a : n ≡ m = omega arith in let b : k + 0 ≡ k = omega arith in rw (a, b)
  mips_skip (suc d) k zero m e h = absurd (omega arith)
  mips_skip (suc d) k (suc n) m e h =
      let a : k + suc d ≡ suc k + d = omega arith in
      rw (a, h k (omega arith) (omega arith)) (mips_skip d (suc k) n m (omega arith) (λ x p q. h x (omega arith) (omega arith)))

  -- those past the first a add nothing
  mips_stop : (a k n : ℕ) → a ≤ n → ((x : ℕ) → k + a ≤ x → F x (G x) ≡ []) → each_at F k (list_from G k n) ≡ each_at F k (list_from G k a)
  unfolding list_from
  mips_stop zero k n e h = mips_none k n (λ x p q. h x (omega arith))
  mips_stop (suc a) k zero e h = absurd (omega arith)
  mips_stop (suc a) k (suc n) e h = ap (λ (y : List B). F k (G k) ++ y) (mips_stop a (suc k) n (omega arith) (λ x p. h x (omega arith)))

  -- only the mips from lo to hi add something
  pub mips_only : (lo hi n : ℕ) → lo ≤ hi → hi ≤ n → ((x : ℕ) → x < lo → F x (G x) ≡ []) → ((x : ℕ) → hi ≤ x → F x (G x) ≡ [])
      → each_at F 0 (list_from G 0 n) ≡ each_at F lo (list_from G lo (hi - lo))
  mips_only lo hi n a b below above =
      let z : 0 + lo ≡ lo = omega arith in let s = mips_skip lo 0 n (n - lo) (omega arith) (λ x p q. below x (omega arith)) in
      rw z at s ∙ mips_stop (hi - lo) lo (n - lo) (omega arith) (λ x p. above x (omega arith))

  -- only mip m adds something
  pub mips_one : (m n : ℕ) → m < n → ((x : ℕ) → x < m → F x (G x) ≡ []) → ((x : ℕ) → m < x → F x (G x) ≡ [])
      → each_at F 0 (list_from G 0 n) ≡ F m (G m)
  unfolding list_from
  mips_one m n a below above =
      let e : suc m - m ≡ suc zero = omega arith in
      mips_only m (suc m) n (omega arith) (omega arith) below (λ x p. above x (omega arith))
      ∙ mips_next m (suc m - m) zero e ∙ append-nil (F m (G m))
