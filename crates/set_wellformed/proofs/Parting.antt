-- The words in two parts: where every index is proper, EXCLUSIVE is left of the test, and a union of at most one bit decides it.
use Rattle.model.specs.Prelude.{ℕ, arith, refl, sym, ◌∙◌, Bool, true, false, false≢true, List}
use Rattle.model.specs.{BoolLaws.and_both as both, Base.every}
use Rattle.std.specs.Prelude.{◌+◌, ◌≤◌, ◌<◌, ◌≡◌, ◌&&◌, ◌||◌}
use Rattle.std.specs.Int.Bits.{bit_or}
use Rattle.usage.specs.BitLaws.{or_assoc}
use Rattle.usage.specs.Gathered.{Gathered, exclusive_part, gathered_none, gathered_more, gathered_wider}
use Rattle.set_storage.specs.Storage.{flags_of, start_half, list_from}
use Rattle.set_wellformed.specs.{Parts.{is_many, every_at, every_also, every_same, every_none, every_next}, Unknowns.itself}
use Rattle.set_wellformed.specs.Proper.{single_proper, compatible, single_split, single_few, crossed}
use Rattle.set_wellformed.specs.Words.{half_word, word_fits, word_proper, word_left, word_plain}
use Rattle.set_wellformed.proofs.Telling.{absent, extent, not_every}
use lib.Count.{ones_in}

-- ---- one index: not owned, or an extent that fits and Many or a state that is proper and compatible
split : (a e m q c : Bool) → (a || (e && (m || (q && c)))) ≡ ((a || (e && (m || q))) && (a || (m || c)))
split true e m q c = refl
split false false m q c = refl
split false true true q c = refl
split false true false q c = refl

-- where an index is proper, it is enough that a proper state is compatible
left : (a e m q c : Bool) → (a || (e && (m || q))) ≡ true → (q ≡ true → c ≡ true) → (a || (m || c)) ≡ true
left true e m q c f g = refl
left false false m q c f g = absurd (false≢true f)
left false true true q c f g = refl
left false true false q c f g = g f

-- ---- the indices of a table, their ends in the half h
module _ (h : ℕ) (t : List ℕ) where
  abbrev proper_at : ℕ → ℕ → Bool
  proper_at g i = single_proper (flags_of t) (half_word g t i)

  abbrev compatible_at : ℕ → ℕ → Bool
  compatible_at g i = compatible (flags_of t) (half_word g t i)

  word_parts : (i : ℕ) → word_fits h t i ≡ (word_proper h t i && word_left h t i)
  word_parts i =
      rw (
        single_split (flags_of t) (half_word start_half t i),
        single_split (flags_of t) (half_word h t i),
        crossed (proper_at start_half i) (compatible_at start_half i) (proper_at h i) (compatible_at h i),
      )
      (split (absent t i) (extent t i) (is_many t start_half i || is_many t h i) (proper_at start_half i && proper_at h i)
      (compatible_at start_half i && compatible_at h i))

  -- where each fits, each is proper
  pub words_proper : (n : ℕ) → every (word_fits h t) (list_from itself 0 n) ≡ true → every (word_proper h t) (list_from itself 0 n) ≡ true
  words_proper n = every_also (word_fits h t) itself (word_proper h t) itself n
      (λ i l g. (both (word_proper h t i) (word_left h t i) (sym (word_parts i) ∙ g)).0)

  -- where one is not proper, not each fits
  pub words_unfit : (n : ℕ) → every (word_proper h t) (list_from itself 0 n) ≡ false → every (word_fits h t) (list_from itself 0 n) ≡ false
  words_unfit n e = sym (not_every (every (word_proper h t) (list_from itself 0 n)) (every (word_fits h t) (list_from itself 0 n))
      (words_proper n) e)

  module _ (n : ℕ) (f : every (word_proper h t) (list_from itself 0 n) ≡ true) where
    -- where each is proper, what is left is the test
    pub words_left : every (word_left h t) (list_from itself 0 n) ≡ every (word_fits h t) (list_from itself 0 n)
    words_left = every_same (word_left h t) itself (word_fits h t) itself 0 n
        (λ i j l. sym (word_parts i ∙ rw (every_at (word_proper h t) itself n i f (omega arith))))

    -- a union of at most one bit: nothing is left
    module _ {u : ℕ} (few : ones_in 16 u ≤ 1) where
      single : (g i : ℕ) → Gathered (flags_of t) (half_word g t) n u → i < n → proper_at g i ≡ true → compatible_at g i ≡ true
      single g i x l = single_few (flags_of t) (half_word g t i) u (x.within i l) few

      pub words_few : Gathered (flags_of t) (half_word start_half t) n u → Gathered (flags_of t) (half_word h t) n u
          → true ≡ every (word_fits h t) (list_from itself 0 n)
      words_few s e = sym (every_also (word_proper h t) itself (word_fits h t) itself n (λ i l g. word_parts i ∙ rw (
        g,
        left (absent t i) (extent t i) (is_many t start_half i || is_many t h i) (proper_at start_half i && proper_at h i)
            (compatible_at start_half i && compatible_at h i) g
            (λ q. let x = both (proper_at start_half i) (proper_at h i) q in rw (single start_half i s l x.0, single h i e l x.1)),
      )) f)

-- ---- the pass over the words, at index n
pub record Passing (h : ℕ) (t : List ℕ) (n : ℕ) (x y : Bool) (u : ℕ) : Type 0 where
  pub fit : x ≡ every (word_proper h t) (list_from itself 0 n)
  pub plain : y ≡ every (word_plain h t) (list_from itself 0 n)
  pub starts : Gathered (flags_of t) (half_word start_half t) n u
  pub ends : Gathered (flags_of t) (half_word h t) n u

module _ {h : ℕ} {t : List ℕ} where
  pub passing_none : Passing h t 0 true true 0
  passing_none = record {
    fit = sym (every_none (word_proper h t) itself);
    plain = sym (every_none (word_plain h t) itself);
    starts = gathered_none;
    ends = gathered_none;
  }

  -- one index more is one test more of each kind and its part of the union
  pub passing_more : {n u : ℕ} {fit plain x y : Bool} {a b : ℕ} → Passing h t n fit plain u → x ≡ word_proper h t n → y ≡ word_plain h t n
      → a ≡ exclusive_part (flags_of t) (half_word start_half t n) → b ≡ exclusive_part (flags_of t) (half_word h t n)
      → Passing h t (n + 1) (fit && x) (plain && y) (bit_or u (bit_or a b))
  passing_more {n} {u} {a = a} {b = b} w ex ey ea eb = record {
    fit = rw (every_next (word_proper h t) itself n, w.fit, ex);
    plain = rw (every_next (word_plain h t) itself n, w.plain, ey);
    starts = rw (← or_assoc u a b) (gathered_wider b (gathered_more ea w.starts));
    ends = rw (← or_assoc u a b) (gathered_more eb (gathered_wider a w.ends));
  }
