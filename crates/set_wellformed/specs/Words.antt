-- What the table alone tells of an index, as the pass over the words tests it. An index has two words, at its start and at its end; the end
-- of a tracker's lies in the second half, and a scope's index is read with its one word as both.
use Rattle.model.specs.Prelude.{ℕ, Bool, true, false, not, List, eqb, get_or}
use Rattle.model.specs.{declared.UsageFlags.UsageFlags, Base.every, WellFormed.single_fits}
use Rattle.std.specs.Prelude.{◌+◌, ◌≡◌, ◌&&◌, ◌||◌}
use Rattle.set_storage.specs.Storage.{flags_of, start_half, end_half, list_from, layer_limit_at, layers_at, mip_limit_at, mips_at, owned_at}
use Rattle.set_storage.specs.Storage.{textures_at}
use Rattle.set_wellformed.specs.declared.words.{Words.Words, Finding.{Finding, TheVariants.{Unfit, Plain, Ranged}}}
use Rattle.set_wellformed.specs.{Parts.extent_fits, Proper.{single_proper, compatible}, Unknowns.itself}

-- the word of index i in a half
abbrev pub half_word : ℕ → List ℕ → ℕ → ℕ
half_word h t i = get_or t (h + i) 0

-- ---- an index: not owned, or Single; where a half is Many, nothing is said of either
abbrev pub plain_pair : UsageFlags → ℕ → ℕ → ℕ → Bool
plain_pair p owned start end = eqb owned 0 || (not (eqb start p.complex) && not (eqb end p.complex))

-- not owned, or an extent within the set's and Many or in states that pass a test: the whole one, or all of it but EXCLUSIVE
abbrev pub pair_by : (UsageFlags → ℕ → Bool) → UsageFlags → ℕ → ℕ → ℕ → ℕ → ℕ → ℕ → ℕ → Bool
pair_by test p m w owned mips layers start end =
    eqb owned 0 || (extent_fits m w mips layers
    && ((eqb start p.complex || eqb end p.complex) || (test p start && test p end)))

abbrev pub pair_proper : UsageFlags → ℕ → ℕ → ℕ → ℕ → ℕ → ℕ → ℕ → Bool
pair_proper = pair_by single_proper

-- and EXCLUSIVE
abbrev pub pair_compatible : UsageFlags → ℕ → ℕ → ℕ → Bool
pair_compatible p owned start end =
    eqb owned 0 || ((eqb start p.complex || eqb end p.complex) || (compatible p start && compatible p end))

-- ---- index i of a table, its end in the half h
abbrev pub word_plain : ℕ → List ℕ → ℕ → Bool
word_plain h t i = plain_pair (flags_of t) (get_or t (owned_at i) 0) (half_word start_half t i) (half_word h t i)

abbrev pub word_by : (UsageFlags → ℕ → Bool) → ℕ → List ℕ → ℕ → Bool
word_by test h t i = pair_by test (flags_of t) (get_or t mip_limit_at 0) (get_or t layer_limit_at 0)
    (get_or t (owned_at i) 0) (get_or t (mips_at i) 0)
    (get_or t (layers_at i) 0) (half_word start_half t i) (half_word h t i)

abbrev pub word_fits : ℕ → List ℕ → ℕ → Bool
word_fits = word_by single_fits

abbrev pub word_proper : ℕ → List ℕ → ℕ → Bool
word_proper = word_by single_proper

-- what is left of the test of an index that is proper
abbrev pub word_left : ℕ → List ℕ → ℕ → Bool
word_left h t i = pair_compatible (flags_of t) (get_or t (owned_at i) 0) (half_word start_half t i) (half_word h t i)

-- ---- what the pass tells of the first n indices: whether each fits, and whether each is not owned or Single
pub record WordsAre (fits single : ℕ → Bool) (n : ℕ) (x : Words) : Type 0 where
  pub fit : x.fit ≡ every fits (list_from itself 0 n)
  pub plain : x.plain ≡ every single (list_from itself 0 n)

-- and of all of a set's
abbrev pub told : Bool → Bool → Finding
told false plain = Unfit
told true true = Plain
told true false = Ranged

abbrev pub WordsTell : ℕ → List ℕ → Finding → Type 0
WordsTell h t x = x ≡ told (every (word_fits h t) (list_from itself 0 (get_or t textures_at 0)))
    (every (word_plain h t) (list_from itself 0 (get_or t textures_at 0)))

-- ---- a scope's indices, and a tracker's
abbrev pub scope_word_fits : List ℕ → ℕ → Bool
scope_word_fits = word_fits start_half

abbrev pub tracker_word_fits : List ℕ → ℕ → Bool
tracker_word_fits = word_fits end_half

abbrev pub ScopeWords : List ℕ → ℕ → Words → Type 0
ScopeWords t = WordsAre (scope_word_fits t) (word_plain start_half t)

abbrev pub TrackerWords : List ℕ → ℕ → Words → Type 0
TrackerWords t = WordsAre (tracker_word_fits t) (word_plain end_half t)
