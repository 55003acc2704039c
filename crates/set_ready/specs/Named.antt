-- What the frame of a call says of the numbers that no texture of the set uses, and of a texture that the call does not name.
use Rattle.model.specs.Prelude.{ℕ, arith, List, get_or}
use Rattle.std.specs.Prelude.{◌≤◌, ◌<◌, ◌≡◌}
use Rattle.set_storage.specs.Storage.{numbers_of, start_half, end_half, table_indices, owned_at, mips_at, layers_at, state_at, count_at}
use Rattle.set_storage.specs.Storage.{ranges_at, textures_at}
use Rattle.set_storage.specs.Stays.{Stays, OffTracker, OffRanges, off_scope, past_ranges, owned_off, mips_off, layers_off, start_off}
use Rattle.set_storage.specs.Stays.{end_off, start_count_off, end_count_off, ScopeFrame, TrackerFrame}

-- the named indices that are below the N of the table t
abbrev pub Within : List ℕ → (ℕ → Type 0) → ℕ → Type 0
Within t named j = (j < get_or t textures_at 0) × named j

-- "More room is ignored": every number from 3 × N × M × W on stays, those after the last whole range among them
pub room_stays : {named : ℕ → Type 0} (t : List ℕ) {r r' : List ℕ} → Stays (OffRanges (numbers_of t)) (Within t named) r r' → (x : ℕ)
    → ranges_at (numbers_of t) (get_or t textures_at 0) ≤ x → get_or r' x 0 ≡ get_or r x 0
room_stays {named} t f x q = f.same x (λ i _ n. past_ranges (numbers_of t) i x n.0 q)

-- every word of index j stays that is lent for it
pub record WordsStay (j : ℕ) (t t' : List ℕ) : Type 0 where
  -- the very number that marks it as owned
  pub owned : get_or t' (owned_at j) 0 ≡ get_or t (owned_at j) 0
  pub mips : get_or t' (mips_at j) 0 ≡ get_or t (mips_at j) 0
  pub layers : get_or t' (layers_at j) 0 ≡ get_or t (layers_at j) 0
  pub start : get_or t' (state_at start_half j) 0 ≡ get_or t (state_at start_half j) 0
  pub end : get_or t' (state_at end_half j) 0 ≡ get_or t (state_at end_half j) 0
  pub start_counts : (k : ℕ) → k < 16 → get_or t' (count_at start_half j k) 0 ≡ get_or t (count_at start_half j k) 0
  pub end_counts : (k : ℕ) → k < 16 → get_or t' (count_at end_half j k) 0 ≡ get_or t (count_at end_half j k) 0

words_of : {t t' : List ℕ} (j : ℕ) → j < table_indices
    → ((x : ℕ) → ((i : ℕ) → i < table_indices → (j ≡ i → ⊥) → OffTracker i x) → get_or t' x 0 ≡ get_or t x 0) → WordsStay j t t'
words_of j h f = record {
  owned = f (owned_at j) (λ i a n. owned_off i j a h n);
  mips = f (mips_at j) (λ i a n. mips_off i j a h n);
  layers = f (layers_at j) (λ i a n. layers_off i j a h n);
  start = f (state_at start_half j) (λ i a n. start_off i j a h n);
  end = f (state_at end_half j) (λ i a n. end_off i j a h n);
  start_counts = λ k b. f (count_at start_half j k) (λ i a n. start_count_off i j a h n k b);
  end_counts = λ k b. f (count_at end_half j k) (λ i a n. end_count_off i j a h n k b);
}

-- ---- A call into a scope
module _ {named : ℕ → Type 0} {t r t' r' : List ℕ} (f : ScopeFrame (Within t named) (numbers_of t) t r t' r') where
  pub scope_room : (x : ℕ) → ranges_at (numbers_of t) (get_or t textures_at 0) ≤ x → get_or r' x 0 ≡ get_or r x 0
  scope_room = room_stays t f.ranges

  -- the words of an index from N on, and of one that is not named
  pub scope_past : (j : ℕ) → get_or t textures_at 0 ≤ j → j < table_indices → WordsStay j t t'
  scope_past j q h = words_of j h (λ x o. f.words.same x (λ i a n. off_scope i x (o i a (λ e. omega (arith, n.0)))))

  pub scope_unnamed : (j : ℕ) → j < table_indices → ((i : ℕ) → named i → j ≡ i → ⊥) → WordsStay j t t'
  scope_unnamed j h out = words_of j h (λ x o. f.words.same x (λ i a n. off_scope i x (o i a (out i n.1))))

-- ---- A call into a tracker
module _ {named : ℕ → Type 0} {t s e t' s' e' : List ℕ} (f : TrackerFrame (Within t named) (numbers_of t) t s e t' s' e') where
  pub tracker_room : (x : ℕ) → ranges_at (numbers_of t) (get_or t textures_at 0) ≤ x
      → (get_or s' x 0 ≡ get_or s x 0) × (get_or e' x 0 ≡ get_or e x 0)
  tracker_room x q = (room_stays t f.starts x q, room_stays t f.ends x q)

  pub tracker_past : (j : ℕ) → get_or t textures_at 0 ≤ j → j < table_indices → WordsStay j t t'
  tracker_past j q h = words_of j h (λ x o. f.words.same x (λ i a n. o i a (λ e. omega (arith, n.0))))

  pub tracker_unnamed : (j : ℕ) → j < table_indices → ((i : ℕ) → named i → j ≡ i → ⊥) → WordsStay j t t'
  tracker_unnamed j h out = words_of j h (λ x o. f.words.same x (λ i a n. o i a (out i n.1)))
