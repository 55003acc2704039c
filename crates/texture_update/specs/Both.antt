-- A change of both halves of one texture of a tracker: what it leaves as it was, and how changes follow one another.
use Rattle.model.specs.Prelude.{ℕ, arith, refl, sym, subst, ◌∙◌, inl, inr, List, length, get_or}
use Rattle.model.specs.{declared.Range.Range, Sets.Numbers, Representation.Ends, RangedStates.Tiles, Texture.{Held, many}}
use Rattle.std.specs.Prelude.{◌+◌, ◌≤◌, ◌<◌, ◌≡◌, ◌⊎◌}
use Rattle.set_storage.specs.Lists.{list_ext}
use Rattle.set_storage.specs.Storage.{half_length, numbers_of, start_half, end_half, count_at, mip_of, mips_in, mips_of, held_of, ends_of}
use Rattle.set_storage.specs.Storage.{complex_at, layers_at, mips_at, state_at}
use Rattle.set_storage.specs.Stays.{HalfFrame, BothFrame, stays_refl, stays_at, stays_more, both_then}
use Rattle.set_storage.specs.Frames.{Measured, MipsBecome, frame_below, frame_above, half_of, half_below, half_above, mips_top, mips_same}
use Rattle.set_storage.specs.{Slots.{HalfBecomes, mip_ext, half_low, half_away, held_many}, Texture.measured_low}
use Rattle.texture_merge.specs.Ready.{MipTiled, ManyReady}

-- ---- Only the states, the counts and the ranges of texture i may differ: a change of one half
pub both_start : {d : Numbers} {i : ℕ} {t s t' s' : List ℕ} (e : List ℕ) → HalfFrame d start_half i t s t' s' → BothFrame d i t s e t' s' e
both_start e f = record { words = stays_more (λ j z. z) (λ j x o. o.start) f.words; starts = f.ranges; ends = stays_refl e }

pub both_end : {d : Numbers} {i : ℕ} {t e t' e' : List ℕ} (s : List ℕ) → HalfFrame d end_half i t e t' e' → BothFrame d i t s e t' s e'
both_end s f = record { words = stays_more (λ j z. z) (λ j x o. o.end) f.words; starts = stays_refl s; ends = f.ranges }

-- ---- A mip that is tiled stays so, where the words below the halves, the lengths and its ranges do
module _ {h : ℕ} {t₀ r₀ t r : List ℕ} (low : (x : ℕ) → x < start_half → get_or t x 0 ≡ get_or t₀ x 0) (long : length r ≡ length r₀)
    (table : length t ≡ length t₀) where
  pub tiled_low : (i m : ℕ) → ManyReady (numbers_of t₀) h t₀ r₀ i (get_or t₀ (layers_at i) 0) → m < mips_in (numbers_of t₀) t₀ i
      → mip_of (numbers_of t₀) h t r i m ≡ mip_of (numbers_of t₀) h t₀ r₀ i m → MipTiled (numbers_of t) h t r i m (get_or t (layers_at i) 0)
  tiled_low i m q b e =
      let l : get_or t (layers_at i) 0 ≡ get_or t₀ (layers_at i) 0 = low (layers_at i) (omega (arith, q.measured.textures, q.texture)) in
      let n : mips_in (numbers_of t₀) t i ≡ mips_in (numbers_of t₀) t₀ i =
      mips_same (numbers_of t₀) t₀ t i (low (mips_at i) (omega (arith, q.measured.textures, q.texture))) in
      let s = measured_low low long table q.measured in
      subst (λ (x : Numbers). MipTiled x h t r i m (get_or t (layers_at i) 0)) (sym s.dims)
      (subst (λ (x : ℕ). MipTiled (numbers_of t₀) h t r i m x) (sym l)
      record {
        ready = record { measured = s; texture = q.texture; mip = rw n b; top = mips_top (numbers_of t₀) t i };
        some = q.some;
        low = q.low;
        tiled = subst (λ (x : List Range). Tiles 0 x (get_or t₀ (layers_at i) 0)) (sym e) (q.tiled m b);
      })

-- ---- A change of one half leaves the mips of the other
module _ {d : Numbers} {h i : ℕ} {t r t' r' : List ℕ} (s : Measured d h t r) (hi : i < d.textures) (f : HalfFrame d h i t r t' r') where
  pub away_mip : (g : ℕ) → ((h + half_length ≤ g) ⊎ (g + half_length ≤ h)) → (r₂ : List ℕ) (k : ℕ) → k < d.mips
      → mip_of d g t' r₂ i k ≡ mip_of d g t r₂ i k
  away_mip g (inl o) r₂ k q = mip_ext d g t r₂ t' r₂ i k (half_above f (count_at g i k) (omega (arith, s.textures))) refl
  away_mip g (inr o) r₂ k q =
      mip_ext d g t r₂ t' r₂ i k (half_below f (count_at g i k) (omega (arith, s.textures, s.mips))
      (λ z. omega (arith, s.textures, s.mips))) refl

  pub away_mips : (g : ℕ) → ((h + half_length ≤ g) ⊎ (g + half_length ≤ h)) → (r₂ : List ℕ) → mips_of d g t' r₂ i ≡ mips_of d g t r₂ i
  away_mips g o r₂ =
      let n : mips_in d t' i ≡ mips_in d t i = mips_same d t t' i (half_low s hi f (mips_at i) (omega (arith, s.textures))) in
      rw n (list_ext (mip_of d g t r₂ i) (mip_of d g t' r₂ i) 0 (mips_in d t i)
      (λ x _ q. away_mip g o r₂ x (omega (arith, mips_top d t i))))

-- ---- THE CONTRACT of an update: texture i becomes x, and nothing else is touched
pub record BothBecome (d : Numbers) (i : ℕ) (x : Ends Held) (t s e t' s' e' : List ℕ) : Type 0 where
  pub ends : ends_of d t' s' e' i ≡ x
  pub frame : BothFrame d i t s e t' s' e'

-- the mips of texture i become ss and es, its states stay, and nothing else is touched
pub record BothMips (d : Numbers) (i : ℕ) (ss es : List (List Range)) (t s e t' s' e' : List ℕ) : Type 0 where
  pub starts : mips_of d start_half t' s' i ≡ ss
  pub ends : mips_of d end_half t' e' i ≡ es
  pub start_word : get_or t' (state_at start_half i) 0 ≡ get_or t (state_at start_half i) 0
  pub end_word : get_or t' (state_at end_half i) 0 ≡ get_or t (state_at end_half i) 0
  pub frame : BothFrame d i t s e t' s' e'

module _ {d : Numbers} {i : ℕ} {t s e : List ℕ} (ms : Measured d start_half t s) (me : Measured d end_half t e) (hi : i < d.textures) where
  pub low_of : {t' s' e' : List ℕ} → BothFrame d i t s e t' s' e' → (x : ℕ) → x < start_half → get_or t' x 0 ≡ get_or t x 0
  low_of f x q = stays_at f.words x
      (record {
        start = record { state = λ z. omega arith; counts = record { off = inl (omega arith) } };
        end = record { state = λ z. omega arith; counts = record { off = inl (omega arith) } };
      })

  -- the start, and then the end
  pub start_then_end : {x y : Held} {t₁ s' t₂ e' : List ℕ} → HalfBecomes d start_half i x t s t₁ s' → HalfBecomes d end_half i y t₁ e t₂ e'
      → BothBecome d i (record { start = x; end = y }) t s e t₂ s' e'
  start_then_end {x} {y} {t₁} {s'} {t₂} {e'} a b =
      let m₁ = measured_low (half_low ms hi a.frame) refl a.frame.words.long me in
      let w : held_of d start_half t₂ s' i ≡ x = half_away m₁ hi b.frame start_half (inr (omega arith)) (omega arith) s' i hi ∙ a.held in
      record { ends = rw (w, b.held); frame = both_then (both_start e a.frame) (both_end s' b.frame) }

  -- the end alone
  pub end_alone : {y : Held} {t' e' : List ℕ} → HalfBecomes d end_half i y t e t' e'
      → BothBecome d i (record { start = held_of d start_half t s i; end = y }) t s e t' s e'
  end_alone {y} {t'} {e'} b =
      let w : held_of d start_half t' s i ≡ held_of d start_half t s i =
      half_away me hi b.frame start_half (inr (omega arith)) (omega arith) s i hi in
      record { ends = rw (w, b.held); frame = both_end s b.frame }

  -- the mips of the start, and then those of the end
  pub mips_then_mips : {ss es : List (List Range)} {t₁ s' t₂ e' : List ℕ} → MipsBecome d start_half i ss t s t₁ s'
      → MipsBecome d end_half i es t₁ e t₂ e' → BothMips d i ss es t s e t₂ s' e'
  mips_then_mips {ss} {es} {t₁} {s'} {t₂} {e'} a b =
      let m₁ = measured_low (half_low ms hi (half_of a.frame)) refl a.frame.words.long me in
      record {
        starts = away_mips m₁ hi (half_of b.frame) start_half (inr (omega arith)) s' ∙ a.mips;
        ends = b.mips;
        start_word = frame_below b.frame (state_at start_half i) (omega arith)
            ∙ frame_below a.frame (state_at start_half i) (omega (arith, ms.textures));
        end_word = frame_below b.frame (state_at end_half i) (omega (arith, ms.textures))
            ∙ frame_above a.frame (state_at end_half i) (omega (arith, ms.textures));
        frame = both_then (both_start e (half_of a.frame)) (both_end s' (half_of b.frame));
      }

  -- two Many halves whose mips became ss and es
  pub mips_become : {ss es : List (List Range)} {t' s' e' : List ℕ} → get_or t (state_at start_half i) 0 ≡ get_or t complex_at 0
      → get_or t (state_at end_half i) 0 ≡ get_or t complex_at 0
      → BothMips d i ss es t s e t' s' e' → BothBecome d i (record { start = many ss; end = many es }) t s e t' s' e'
  mips_become {ss} {es} {t'} {s'} {e'} a z b =
      let k : get_or t' complex_at 0 ≡ get_or t complex_at 0 = low_of b.frame complex_at (omega arith) in
      record {
        ends = rw (
          held_many d start_half t' s' i ss (b.start_word ∙ a ∙ sym k) b.starts,
          held_many d end_half t' e' i es (b.end_word ∙ z ∙ sym k) b.ends,
        );
        frame = b.frame;
      }
