-- A part of a list at a computed place.
use Rattle.model.specs.Prelude.{ℕ, suc, min, suc-mul, mul-le-mul_right, le-mul_of_pos_right, min-le_left, arith, ap, sym, ◌∙◌, inl, inr}
use Rattle.model.specs.Prelude.{List, length, get_or, take, drop, length-take, length-drop, length-append, List_get_D_append}
use Rattle.model.specs.Prelude.{length-take-le, get_or-take, get_or-drop, get_or-append-add, take_at, drop_at, ext_get_or}
use Rattle.model.specs.BoolLaws.{by_lt}
use Rattle.std.specs.Prelude.{◌+◌, ◌*◌, ◌-◌, ◌≤◌, ◌<◌, ◌≡◌, ◌⊎◌, ◌++◌}
use Rattle.std.proofs.Math.Arith.{digits_lt}

-- the start of the ranges of (i, m), with M mips a texture and W records a mip
unfoldable pub base_of : ℕ → ℕ → ℕ → ℕ → ℕ
base_of i m M W = (i * M + m) * W * 3

-- the k numbers from b on
unfoldable pub part_of : List ℕ → ℕ → ℕ → List ℕ
part_of l b k = take k (drop b l)

-- l with p standing in the place of the k numbers from b on
unfoldable pub put_part : List ℕ → ℕ → ℕ → List ℕ → List ℕ
put_part l b k p = take b l ++ (p ++ drop k (drop b l))

-- block k of S blocks of W ends within them
pub block_le : (k S W : ℕ) → k < S → k * W + W ≤ S * W
block_le k S W h = let p : suc k * W ≤ S * W = mul-le-mul_right W h in omega (arith, suc-mul k W)

-- each number on the way to where the ranges of (i, m) begin is at most the whole
pub record Places (i m M W all : ℕ) : Type 0 where
  pub row : i * M ≤ all
  pub at : i * M + m ≤ all
  pub records : (i * M + m) * W ≤ all
  pub end : (i * M + m) * W * 3 + 3 * W ≤ all

pub places_fit : (i m N M W all : ℕ) → i < N → m < M → 0 < W → N * M * W * 3 ≤ all → Places i m M W all
places_fit i m N M W all hi hm hw h =
    let s : i * M + m < N * M = digits_lt hi hm in let b : (i * M + m) * W + W ≤ N * M * W = block_le (i * M + m) (N * M) W s in
    let p : i * M + m ≤ (i * M + m) * W = le-mul_of_pos_right (i * M + m) hw in
    record { row = omega arith; at = omega arith; records = omega arith; end = omega arith }

-- ---- a list with p in the place of the k numbers from b on
module _ (l : List ℕ) (b k : ℕ) (p : List ℕ) (room : b + k ≤ length l) (size : length p ≡ k) where
  pub put_length : length (put_part l b k p) ≡ length l
  unfolding put_part
  put_length = simp (length-append, length-take, length-drop) (omega arith)

  pub put_before : (j d : ℕ) → j < b → get_or (put_part l b k p) j d ≡ get_or l j d
  unfolding put_part
  put_before j d h =
      let e : length (take b l) ≡ b = length-take-le b l (omega arith) in
      List_get_D_append (take b l) (p ++ drop k (drop b l)) d j (omega arith) ∙ get_or-take b l j d h

  pub put_after : (j d : ℕ) → b + k ≤ j → get_or (put_part l b k p) j d ≡ get_or l j d
  unfolding put_part
  put_after j d h =
      let e : length (take b l) ≡ b = length-take-le b l (omega arith) in let n : ℕ = j - (b + k) in
      let s : j ≡ length (take b l) + (length p + n) = omega arith in let t : b + (k + n) ≡ j = omega arith in
      ap (λ (x : ℕ). get_or (take b l ++ (p ++ drop k (drop b l))) x d) s
      ∙ get_or-append-add (take b l) (p ++ drop k (drop b l)) (length p + n) d
      ∙ get_or-append-add p (drop k (drop b l)) n d ∙ get_or-drop k (drop b l) n d ∙ get_or-drop b l (k + n) d
      ∙ ap (λ (x : ℕ). get_or l x d) t

  pub put_part_lem : part_of (put_part l b k p) b k ≡ p
  unfolding put_part part_of
  put_part_lem =
      let e : length (take b l) ≡ b = length-take-le b l (omega arith) in
      ap (take k) (drop_at (take b l) (p ++ drop k (drop b l)) b e) ∙ take_at p (drop k (drop b l)) k size

-- two lists with the same numbers from b on, k of them, have the same part there
pub part_same : (l l' : List ℕ) (b k : ℕ) → length l ≡ length l' → b + k ≤ length l
    → ((j : ℕ) → j < k → get_or l (b + j) 0 ≡ get_or l' (b + j) 0) → part_of l b k ≡ part_of l' b k
unfolding part_of
part_same l l' b k e h f =
    let n : length (take k (drop b l)) ≡ k = simp (length-take, length-drop) (omega arith) in
    let n' : length (take k (drop b l')) ≡ k = simp (length-take, length-drop) (omega arith) in
    ext_get_or 0 (take k (drop b l)) (take k (drop b l')) (n ∙ sym n')
    (λ i hi. let h' : i < k = omega arith in get_or-take k (drop b l) i 0 h' ∙ get_or-drop b l i 0 ∙ f i h' ∙ sym (get_or-drop b l' i 0)
    ∙ sym (get_or-take k (drop b l') i 0 h'))

-- the same where the lists may end before
pub part_alike : (l l' : List ℕ) (b k : ℕ) → length l ≡ length l' → ((j : ℕ) → j < k → get_or l (b + j) 0 ≡ get_or l' (b + j) 0)
    → part_of l b k ≡ part_of l' b k
unfolding part_of
part_alike l l' b k e f =
    let n : length (take k (drop b l)) ≡ length (take k (drop b l')) = simp (length-take, length-drop) (rw e) in
    ext_get_or 0 (take k (drop b l)) (take k (drop b l')) n
    (λ i hi. let m : i < min k (length l - b) = simp (length-take, length-drop) at hi in
    let h' : i < k = omega (arith, min-le_left k (length l - b)) in
    get_or-take k (drop b l) i 0 h' ∙ get_or-drop b l i 0 ∙ f i h' ∙ sym (get_or-drop b l' i 0) ∙ sym (get_or-take k (drop b l') i 0 h'))

-- blocks of W, one below the other, do not meet
pub blocks_apart : (s t W : ℕ) → s < t → s * W * 3 + 3 * W ≤ t * W * 3
blocks_apart s t W h = omega (arith, block_le s t W h)

pub part_length : (l : List ℕ) (b k : ℕ) → b + k ≤ length l → length (part_of l b k) ≡ k
unfolding part_of
part_length l b k h = length-take-le k (drop b l) (rw length-drop (omega arith))

-- a part that does not meet the one put
pub put_apart : (l : List ℕ) (b k : ℕ) (p : List ℕ) → b + k ≤ length l → length p ≡ k → (c : ℕ) → c + k ≤ length l
    → (c + k ≤ b) ⊎ (b + k ≤ c) → part_of (put_part l b k p) c k ≡ part_of l c k
put_apart l b k p room size c h (inl q) =
    part_same (put_part l b k p) l c k (put_length l b k p room size) (rw (put_length l b k p room size) h)
    (λ j t. put_before l b k p room size (c + j) 0 (omega arith))
put_apart l b k p room size c h (inr q) =
    part_same (put_part l b k p) l c k (put_length l b k p room size) (rw (put_length l b k p room size) h)
    (λ j t. put_after l b k p room size (c + j) 0 (omega arith))

-- ---- the ranges of two mips

pub row_lt : (i j m M : ℕ) → i < j → m < M → i * M + m < j * M
row_lt i j m M h k = digits_lt h k

pub lt_ne : (i j : ℕ) → i ≤ j → (j ≡ i → ⊥) → i < j
lt_ne i j h ne = by_lt i j (λ q. q) (λ q. absurd (ne (omega arith)))

-- two mips of one texture do not meet
pub mips_apart : (i m k M W : ℕ) → (k ≡ m → ⊥) → (base_of i k M W + 3 * W ≤ base_of i m M W) ⊎ (base_of i m M W + 3 * W ≤ base_of i k M W)
unfolding base_of
mips_apart i m k M W ne =
    by_lt k m
    (λ (h : k < m). inl (blocks_apart (i * M + k) (i * M + m) W (omega arith)))
    (λ (h : m ≤ k). inr (blocks_apart (i * M + m) (i * M + k) W (omega (arith, lt_ne m k h ne))))

-- (i, m) is one of N × M mips of W ranges, for some N that the room holds
pub record Within (i m M W room : ℕ) : Type 0 where
  pub count : ℕ
  pub texture : i < count
  pub mip : m < M
  pub some : 0 < W
  pub fits : count * M * W * 3 ≤ room
