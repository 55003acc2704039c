-- What a change leaves alone: one frame for every list that is lent, the words of a table and the numbers of its ranges alike.
use Rattle.std.specs.Prelude.{◌+◌, ◌*◌, ◌≤◌, ◌<◌, ◌≡◌, ◌⊎◌}
use Rattle.model.specs.Prelude.{ℕ, suc, mul-le-mul_right, arith, refl, sym, subst, ◌∙◌, inl, inr, true, List}
use Rattle.model.specs.Prelude.{length, get_or, set, length-set, get_or-set_other}
use Rattle.model.specs.{Sets.Numbers, BoolLaws.by_lt}
use Rattle.set_storage.specs.Part.{base_of, block_le, row_lt, part_alike}
use Rattle.set_storage.specs.Storage.{owned_of, start_half, end_half, owned_at, mips_at, layers_at, state_at, count_at, ranges_at}
use Rattle.set_storage.specs.Storage.{table_indices, mip_part, textures_at, head_length}

-- `off i x` says that position x is none of index i's. Every number stays that is none of a named index's; a table has words for 64.
pub record Stays (off : ℕ → ℕ → Type 0) (named : ℕ → Type 0) (l l' : List ℕ) : Type 0 where
  pub same : (x : ℕ) → ((i : ℕ) → i < table_indices → named i → off i x) → get_or l' x 0 ≡ get_or l x 0
  pub long : length l' ≡ length l

-- one index
abbrev pub Only : ℕ → ℕ → Type 0
Only i j = j ≡ i

-- one index, if the set with the table g owns it
abbrev pub OnlyOwned : List ℕ → ℕ → ℕ → Type 0
OnlyOwned g i j = (j ≡ i) × (owned_of g j ≡ true)

-- what a set with the table g owns
abbrev pub OwnedBy : List ℕ → ℕ → Type 0
OwnedBy g j = (j < get_or g textures_at 0) × (owned_of g j ≡ true)

pub stays_refl : {off : ℕ → ℕ → Type 0} {named : ℕ → Type 0} (l : List ℕ) → Stays off named l l
stays_refl l = record { same = λ x o. refl; long = refl }

pub stays_then : {off : ℕ → ℕ → Type 0} {named : ℕ → Type 0} {l l₁ l₂ : List ℕ} → Stays off named l l₁
    → Stays off named l₁ l₂ → Stays off named l l₂
stays_then f g = record { same = λ x o. g.same x o ∙ f.same x o; long = g.long ∙ f.long }

-- more may be named, and more may be an index's
pub stays_more : {off on : ℕ → ℕ → Type 0} {named more : ℕ → Type 0} {l l' : List ℕ} → ((i : ℕ) → named i → more i)
    → ((i x : ℕ) → on i x → off i x) → Stays off named l l' → Stays on more l l'
stays_more n w f = record { same = λ x o. f.same x (λ i h y. w i x (o i h (n i y))); long = f.long }

-- what is none of the one index's
pub stays_at : {off : ℕ → ℕ → Type 0} {i : ℕ} {l l' : List ℕ} → Stays off (Only i) l l' → (x : ℕ) → off i x → get_or l' x 0 ≡ get_or l x 0
stays_at {off} f x o = f.same x (λ j h e. subst (λ (k : ℕ). off k x) (sym e) o)

-- and the other way: where the index is one that a table has words for
pub stays_of : {off : ℕ → ℕ → Type 0} {i : ℕ} {l l' : List ℕ} → i < table_indices → ((x : ℕ) → off i x → get_or l' x 0 ≡ get_or l x 0)
    → length l' ≡ length l → Stays off (Only i) l l'
stays_of {off} {i} h f e = record { same = λ x o. f x (o i h refl); long = e }

-- one number is written
pub stays_set : {off : ℕ → ℕ → Type 0} {i : ℕ} (l : List ℕ) (y v : ℕ) → i < table_indices → ((x : ℕ) → off i x → x ≡ y → ⊥)
    → Stays off (Only i) l (set l y v)
stays_set l y v h ne = stays_of h (λ x o. get_or-set_other l y x v 0 (ne x o)) (length-set l y v)

-- ---- The words of an index
-- none of its counts in the half h
pub record OffCounts (h i x : ℕ) : Type 0 where
  pub off : (x < count_at h i 0) ⊎ (count_at h i 16 ≤ x)

-- nor its state there
pub record OffHalf (h i x : ℕ) : Type 0 where
  pub state : x ≡ state_at h i → ⊥
  pub counts : OffCounts h i x

-- neither whether it is owned nor its extent
pub record OffHead (i x : ℕ) : Type 0 where
  pub owned : x ≡ owned_at i → ⊥
  pub mips : x ≡ mips_at i → ⊥
  pub layers : x ≡ layers_at i → ⊥

-- none of those of a tracker's two halves
pub record OffBoth (i x : ℕ) : Type 0 where
  pub start : OffHalf start_half i x
  pub end : OffHalf end_half i x

-- none of those of a scope, which has no end
pub record OffScope (i x : ℕ) : Type 0 where
  pub head : OffHead i x
  pub start : OffHalf start_half i x

-- none of those of a tracker
pub record OffTracker (i x : ℕ) : Type 0 where
  pub head : OffHead i x
  pub both : OffBoth i x

pub off_scope : (i x : ℕ) → OffTracker i x → OffScope i x
off_scope i x o = record { head = o.head; start = o.both.start }

-- ---- The ranges of an index
pub record OffRanges (d : Numbers) (i x : ℕ) : Type 0 where
  pub off : (x < ranges_at d i) ⊎ (ranges_at d (suc i) ≤ x)

ranges_mono : (d : Numbers) (i j : ℕ) → i ≤ j → ranges_at d i ≤ ranges_at d j
ranges_mono d i j h = let a : i * d.mips ≤ j * d.mips = mul-le-mul_right d.mips h in
    let b : i * d.mips * d.layers ≤ j * d.mips * d.layers = mul-le-mul_right d.layers a in omega arith

-- all that is lent past the last texture is off every one below it
pub past_ranges : (d : Numbers) (i x : ℕ) → i < d.textures → ranges_at d d.textures ≤ x → OffRanges d i x
past_ranges d i x h q = record { off = inr (omega (arith, ranges_mono d (suc i) d.textures h)) }

-- those of a mip are among them
pub mip_first : (d : Numbers) (i m : ℕ) → ranges_at d i ≤ base_of i m d.mips d.layers
unfolding base_of
mip_first d i m = let a : i * d.mips * d.layers ≤ (i * d.mips + m) * d.layers = mul-le-mul_right d.layers (omega arith) in
    omega arith

pub mip_last : (d : Numbers) (i m : ℕ) → m < d.mips → base_of i m d.mips d.layers + 3 * d.layers ≤ ranges_at d (suc i)
unfolding base_of
mip_last d i m h = omega (arith, block_le (i * d.mips + m) (suc i * d.mips) d.layers (row_lt i (suc i) m d.mips (omega arith) h))

-- a number of another index's mip
pub other_mip : (d : Numbers) (i j k x : ℕ) → (j ≡ i → ⊥) → k < d.mips → x < 3 * d.layers
    → OffRanges d i (base_of j k d.mips d.layers + x)
other_mip d i j k x ne h q =
    by_lt i j
    (λ (l : i < j). record { off = inr (omega (arith, ranges_mono d (suc i) j l, mip_first d j k)) })
    (λ l. record {
      off = inl (by_lt j i (λ (w : j < i). omega (arith, ranges_mono d (suc j) i w, mip_last d j k h))
          (λ w. absurd (ne (omega arith))));
    })

-- THE RANGES of a texture that is not named stay
pub mip_stays : {d : Numbers} {named : ℕ → Type 0} {r r' : List ℕ} → Stays (OffRanges d) named r r' → (j k : ℕ) → (named j → ⊥)
    → k < d.mips → mip_part d r' j k ≡ mip_part d r j k
mip_stays {d} {named} {r} {r'} f j k n h =
    part_alike r' r (base_of j k d.mips d.layers) (3 * d.layers) f.long
    (λ x q. f.same (base_of j k d.mips d.layers + x) (λ i _ y. other_mip d i j k x (λ e. n (subst named (sym e) y)) h q))

-- ---- The words of another index, and of the head
-- a word of the head is none of an index's
pub head_off : (i x : ℕ) → x < head_length → OffTracker i x
head_off i x q = record {
  head = record { owned = λ z. omega arith; mips = λ z. omega arith; layers = λ z. omega arith };
  both = record {
    start = record { state = λ z. omega arith; counts = record { off = inl (omega arith) } };
    end = record { state = λ z. omega arith; counts = record { off = inl (omega arith) } };
  };
}

module _ (i j : ℕ) (hi : i < table_indices) (hj : j < table_indices) (ne : j ≡ i → ⊥) where
  low_off : (x : ℕ) → x < start_half → OffBoth i x
  low_off x q = record {
    start = record { state = λ z. omega arith; counts = record { off = inl (omega arith) } };
    end = record { state = λ z. omega arith; counts = record { off = inl (omega arith) } };
  }

  pub owned_off : OffTracker i (owned_at j)
  owned_off = record {
    head = record { owned = λ z. ne (omega arith); mips = λ z. omega arith; layers = λ z. omega arith };
    both = low_off (owned_at j) (omega arith);
  }

  pub mips_off : OffTracker i (mips_at j)
  mips_off = record {
    head = record { owned = λ z. omega arith; mips = λ z. ne (omega arith); layers = λ z. omega arith };
    both = low_off (mips_at j) (omega arith);
  }

  pub layers_off : OffTracker i (layers_at j)
  layers_off = record {
    head = record { owned = λ z. omega arith; mips = λ z. omega arith; layers = λ z. ne (omega arith) };
    both = low_off (layers_at j) (omega arith);
  }

  high_off : (x : ℕ) → start_half ≤ x → OffHead i x
  high_off x q = record { owned = λ z. omega arith; mips = λ z. omega arith; layers = λ z. omega arith }

  pub start_off : OffTracker i (state_at start_half j)
  start_off = record {
    head = high_off (state_at start_half j) (omega arith);
    both = record {
      start = record { state = λ z. ne (omega arith); counts = record { off = inl (omega arith) } };
      end = record { state = λ z. omega arith; counts = record { off = inl (omega arith) } };
    };
  }

  pub end_off : OffTracker i (state_at end_half j)
  end_off = record {
    head = high_off (state_at end_half j) (omega arith);
    both = record {
      start = record { state = λ z. omega arith; counts = record { off = inr (omega arith) } };
      end = record { state = λ z. ne (omega arith); counts = record { off = inl (omega arith) } };
    };
  }

  module _ (k : ℕ) (hk : k < 16) where
    counts_off : (h : ℕ) → OffCounts h i (count_at h j k)
    counts_off h = record {
      off = by_lt j i (λ l. inl (omega arith)) (λ l. inr (by_lt i j (λ w. omega arith) (λ w. absurd (ne (omega arith)))));
    }

    pub start_count_off : OffTracker i (count_at start_half j k)
    start_count_off = record {
      head = high_off (count_at start_half j k) (omega arith);
      both = record {
        start = record { state = λ z. omega arith; counts = counts_off start_half };
        end = record { state = λ z. omega arith; counts = record { off = inl (omega arith) } };
      };
    }

    pub end_count_off : OffTracker i (count_at end_half j k)
    end_count_off = record {
      head = high_off (count_at end_half j k) (omega arith);
      both = record {
        start = record { state = λ z. omega arith; counts = record { off = inr (omega arith) } };
        end = record { state = λ z. omega arith; counts = counts_off end_half };
      };
    }

-- ---- The frame of a set with one half, and of a tracker with two: its table, and what is lent for ranges
pub record Keeps (off : ℕ → ℕ → Type 0) (named : ℕ → Type 0) (d : Numbers) (t r t' r' : List ℕ) : Type 0 where
  pub words : Stays off named t t'
  pub ranges : Stays (OffRanges d) named r r'

pub keeps_refl : {off : ℕ → ℕ → Type 0} {named : ℕ → Type 0} {d : Numbers} (t r : List ℕ) → Keeps off named d t r t r
keeps_refl t r = record { words = stays_refl t; ranges = stays_refl r }

pub keeps_then : {off : ℕ → ℕ → Type 0} {named : ℕ → Type 0} {d : Numbers} {t r t₁ r₁ t₂ r₂ : List ℕ} → Keeps off named d t r t₁ r₁
    → Keeps off named d t₁ r₁ t₂ r₂ → Keeps off named d t r t₂ r₂
keeps_then f g = record { words = stays_then f.words g.words; ranges = stays_then f.ranges g.ranges }

pub keeps_more : {off on : ℕ → ℕ → Type 0} {named more : ℕ → Type 0} {d : Numbers} {t r t' r' : List ℕ} → ((i : ℕ) → named i → more i)
    → ((i x : ℕ) → on i x → off i x) → Keeps off named d t r t' r' → Keeps on more d t r t' r'
keeps_more n w f = record { words = stays_more n w f.words; ranges = stays_more n (λ i x o. o) f.ranges }

pub record KeepsBoth (off : ℕ → ℕ → Type 0) (named : ℕ → Type 0) (d : Numbers) (t s e t' s' e' : List ℕ) : Type 0 where
  pub words : Stays off named t t'
  pub starts : Stays (OffRanges d) named s s'
  pub ends : Stays (OffRanges d) named e e'

pub both_refl : {off : ℕ → ℕ → Type 0} {named : ℕ → Type 0} {d : Numbers} (t s e : List ℕ) → KeepsBoth off named d t s e t s e
both_refl t s e = record { words = stays_refl t; starts = stays_refl s; ends = stays_refl e }

pub both_then : {off : ℕ → ℕ → Type 0} {named : ℕ → Type 0} {d : Numbers} {t s e t₁ s₁ e₁ t₂ s₂ e₂ : List ℕ}
    → KeepsBoth off named d t s e t₁ s₁ e₁ → KeepsBoth off named d t₁ s₁ e₁ t₂ s₂ e₂ → KeepsBoth off named d t s e t₂ s₂ e₂
both_then f g = record {
  words = stays_then f.words g.words;
  starts = stays_then f.starts g.starts;
  ends = stays_then f.ends g.ends;
}

pub both_more : {off on : ℕ → ℕ → Type 0} {named more : ℕ → Type 0} {d : Numbers} {t s e t' s' e' : List ℕ} → ((i : ℕ) → named i → more i)
    → ((i x : ℕ) → on i x → off i x) → KeepsBoth off named d t s e t' s' e' → KeepsBoth on more d t s e t' s' e'
both_more n w f = record
    { words = stays_more n w f.words; starts = stays_more n (λ i x o. o) f.starts; ends = stays_more n (λ i x o. o) f.ends }

-- only the counts and the ranges of texture i in the half h may differ
abbrev pub Frame : Numbers → ℕ → ℕ → List ℕ → List ℕ → List ℕ → List ℕ → Type 0
Frame d h i = Keeps (OffCounts h) (Only i) d

-- and its state there
abbrev pub HalfFrame : Numbers → ℕ → ℕ → List ℕ → List ℕ → List ℕ → List ℕ → Type 0
HalfFrame d h i = Keeps (OffHalf h) (Only i) d

-- in both halves
abbrev pub BothFrame : Numbers → ℕ → List ℕ → List ℕ → List ℕ → List ℕ → List ℕ → List ℕ → Type 0
BothFrame d i = KeepsBoth OffBoth (Only i) d

-- THE FRAME of a call into a scope, and into a tracker: all that is lent stays but what is of a named index
abbrev pub ScopeFrame : (ℕ → Type 0) → Numbers → List ℕ → List ℕ → List ℕ → List ℕ → Type 0
ScopeFrame named d = Keeps OffScope named d

abbrev pub TrackerFrame : (ℕ → Type 0) → Numbers → List ℕ → List ℕ → List ℕ → List ℕ → List ℕ → List ℕ → Type 0
TrackerFrame named d = KeepsBoth OffTracker named d
