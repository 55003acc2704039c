-- The pass that looks for a descent: its invariant, its turn and its two ends.
use Rattle.std.specs.Prelude.{◌+◌, ◌/◌, ◌≤◌, ◌<◌, ◌≡◌, ◌∷◌}
use Rattle.model.specs.Prelude.{ℕ, add-one, arith, refl, ap, ◌∙◌, Bool, true, false, List, [], ltb}
use Rattle.model.specs.Prelude.{length, drop, get_or, drop-cons, drop-length, lt-ltb, le-ltb}
use Rattle.model.specs.declared.{PendingTransition.PendingTransition}
use Rattle.texture_barrier.specs.Entries.{entries_of, entries_long, blank_entry}
use Rattle.log_merge.specs.{Merge.{index_of, one, rises_from, ascending, below}, MergeLaws.one_few}
use Rattle.std.specs.Int.{from_bool}

-- what is known of all is told by what is left
pub record Scanning (l : List ℕ) (limit i last found : ℕ) : Type 0 where
  pub few : found ≤ i
  pub rises : ascending (entries_of l) ≡ rises_from last (drop i (entries_of l))
  pub counts : below limit (entries_of l) ≡ found + below limit (drop i (entries_of l))

pub scan_start : (l : List ℕ) (limit : ℕ) → Scanning l limit 0 0 0
scan_start l limit = record { few = omega arith; rises = refl; counts = omega arith }

-- 1 or 0, as the code makes it of a test
pub one_is : (b : Bool) → from_bool b ≡ one b
one_is true = refl
one_is false = refl

module _ {l : List ℕ} {limit i last found : ℕ} (s : Scanning l limit i last found) where
  abbrev entry : PendingTransition
  entry = get_or (entries_of l) i blank_entry

  next : i < length l / 7 → drop i (entries_of l) ≡ entry ∷ drop (i + 1) (entries_of l)
  next h = rw add-one (drop-cons (entries_of l) i blank_entry (rw (entries_long l) h))

  pub scan_turn : {x r : ℕ} → i < length l / 7 → x ≡ index_of entry → last ≤ x → r ≡ one (ltb x limit)
      → Scanning l limit (i + 1) x (found + r)
  unfolding rises_from below
  scan_turn {x} {r} h e g q =
      let z : ltb (index_of entry) last ≡ false = le-ltb (index_of entry) last (omega arith) in
      let b : below limit (entries_of l) ≡ found + (one (ltb (index_of entry) limit) + below limit (drop (i + 1) (entries_of l))) =
      s.counts ∙ ap (λ (y : List PendingTransition). found + below limit y) (next h) in
      let w : r ≡ one (ltb (index_of entry) limit) = q ∙ ap (λ (y : ℕ). one (ltb y limit)) e in
      record {
        few = omega (arith, s.few, one_few (ltb x limit));
        rises = s.rises ∙ ap (rises_from last) (next h) ∙ rw (z, e);
        counts = b ∙ rw (← w) (omega arith);
      }

  pub scan_away : {x : ℕ} → i < length l / 7 → x ≡ index_of entry → x < last → ascending (entries_of l) ≡ false
  unfolding rises_from
  scan_away {x} h e g =
      let z : ltb (index_of entry) last ≡ true = lt-ltb (index_of entry) last (omega arith) in
      s.rises ∙ ap (rises_from last) (next h) ∙ rw z

  pub scan_end : length l / 7 ≡ i → (ascending (entries_of l) ≡ true) × (found ≡ below limit (entries_of l))
  unfolding rises_from below
  scan_end h =
      let e : i ≡ length (entries_of l) = rw (entries_long l) (omega arith) in
      let d : drop i (entries_of l) ≡ [] = rw e (drop-length (entries_of l)) in
      let b : below limit (entries_of l) ≡ found + 0 = s.counts ∙ ap (λ (y : List PendingTransition). found + below limit y) d in
      (s.rises ∙ ap (rises_from last) d, omega (arith, b))
