-- A walk over the mips of a texture, in place, that stops at the first conflict: the storage on the way.
use Rattle.std.specs.Prelude.{◌+◌, ◌≤◌, ◌<◌, ◌≡◌}
use Rattle.model.specs.Prelude.{ℕ, arith, sym, ap, ◌∙◌, Option, None, Some, List, [], length, get_or, set, drop}
use Rattle.model.specs.Prelude.{Result, Ok, Err, result_err}
use Rattle.model.specs.{declared.{Range.Range, InvalidUse.InvalidUse}, Base.{Stop, fine, walk}, Sets.Numbers}
use Rattle.set_storage.specs.{Storage.{mips_in, mip_of, mips_of, mips_at, start_half}, Stays.{Frame, keeps_refl, keeps_then}}
use Rattle.set_storage.specs.Frames.{Measured, MipsBecome, MipReady, frame_below, measured_then, mips_same, mips_top, mip_at, mips_long}
use Rattle.texture_merge.specs.Walking.{InPlace, place_skip, place_turn, walk_stop, walk_end}

-- what a walk answers: an error is the conflict that stopped it
abbrev pub Stopped : Type 0
Stopped = Result (Unit {0}) InvalidUse

-- THE CONTRACT of a walk: the model's walk over the mips of texture i, and its conflict
pub record MipsWalked (d : Numbers) (h i : ℕ) (w : Stop InvalidUse (List (List Range))) (t r : List ℕ) (x : Stopped)
    (t' r' : List ℕ) : Type 0 where
  pub conflict : result_err x ≡ w.conflict
  pub into : MipsBecome d h i w.value t r t' r'

-- one mip of it: the model's step on mip m, and its conflict
pub record MipWalked (d : Numbers) (h i m : ℕ) (w : Stop InvalidUse (List Range)) (c : Option InvalidUse)
    (t r t' r' : List ℕ) : Type 0 where
  pub conflict : c ≡ w.conflict
  pub into : MipsBecome d h i (set (mips_of d h t r i) m w.value) t r t' r'

-- ---- The mips of texture i in one half, where m is the next
module _ (f : ℕ → List Range → Stop InvalidUse (List Range)) (d : Numbers) (h i : ℕ) (t₀ r₀ t r : List ℕ) {m : ℕ}
    (w : InPlace [] f (mips_of d h t₀ r₀ i) m (mips_of d h t r i)) (n : mips_in d t i ≡ mips_in d t₀ i) (b : m < mips_in d t₀ i) where
  here : get_or (mips_of d h t r i) m [] ≡ mip_of d h t r i m
  here = mip_at d h t r i m [] (rw n b)

  in_list : m < length (mips_of d h t r i)
  in_list = rw (mips_long d h t r i, n) b

  -- it is as it was
  pub next_mip : mip_of d h t r i m ≡ mip_of d h t₀ r₀ i m
  next_mip = sym here ∙ w.left m (omega arith) ∙ mip_at d h t₀ r₀ i m [] b

  module _ (t' r' : List ℕ) (e : mips_of d h t' r' i ≡ set (mips_of d h t r i) m (f m (mip_of d h t r i m)).value) where
    set_is : mips_of d h t' r' i ≡ set (mips_of d h t r i) m (f m (get_or (mips_of d h t r i) m [])).value
    set_is = rw here e

    pub next_turn : (f m (mip_of d h t r i m)).conflict ≡ None → InPlace [] f (mips_of d h t₀ r₀ i) (m + 1) (mips_of d h t' r' i)
    next_turn c = place_turn [] f w in_list (mips_of d h t' r' i) set_is (ap (λ (y : List Range). (f m y).conflict) here ∙ c)

    pub next_stop : (x : InvalidUse) → (f m (mip_of d h t r i m)).conflict ≡ Some x
        → (mips_of d h t' r' i ≡ (walk f 0 (mips_of d h t₀ r₀ i)).value) × (Some x ≡ (walk f 0 (mips_of d h t₀ r₀ i)).conflict)
    next_stop x c = walk_stop f w.walking [] in_list (mips_of d h t' r' i) x set_is (ap (λ (y : List Range). (f m y).conflict) here ∙ c)

-- ---- and nothing else of the storage changes
module _ (f : ℕ → List Range → Stop InvalidUse (List Range)) (d : Numbers) (h i : ℕ) (t₀ r₀ : List ℕ) where
  pub record MipWalk (m : ℕ) (t r : List ℕ) : Type 0 where
    pub walking : InPlace [] f (mips_of d h t₀ r₀ i) m (mips_of d h t r i)
    pub frame : Frame d h i t₀ r₀ t r

  -- the mips before `lo` are passed over
  pub walk_from : (lo : ℕ) → lo ≤ mips_in d t₀ i → ((j : ℕ) (x : List Range) → j < lo → f j x ≡ fine x) → MipWalk lo t₀ r₀
  walk_from lo q under = record
      { walking = place_skip [] f (mips_of d h t₀ r₀ i) lo (rw (mips_long d h t₀ r₀ i) q) under; frame = keeps_refl t₀ r₀ }

  module _ {m : ℕ} {t r : List ℕ} (s : Measured d h t₀ r₀) (hi : i < d.textures) (w : MipWalk m t r) where
    pub walk_measured : Measured d h t r
    walk_measured = measured_then s w.frame

    pub walk_word : (x : ℕ) → x < start_half → get_or t x 0 ≡ get_or t₀ x 0
    walk_word x q = frame_below w.frame x (omega (arith, s.half.0))

    pub walk_count : mips_in d t i ≡ mips_in d t₀ i
    walk_count = mips_same d t₀ t i (walk_word (mips_at i) (omega (arith, s.textures)))

    module _ (b : m < mips_in d t₀ i) where
      pub walk_ready : MipReady d h t r i m
      walk_ready = record { measured = walk_measured; texture = hi; mip = rw walk_count b; top = mips_top d t i }

      pub walk_here : mip_of d h t r i m ≡ mip_of d h t₀ r₀ i m
      walk_here = next_mip f d h i t₀ r₀ t r w.walking walk_count b

      module _ {c : Option InvalidUse} {t' r' : List ℕ} (k : MipWalked d h i m (f m (mip_of d h t r i m)) c t r t' r') where
        pub walk_on : c ≡ None → MipWalk (m + 1) t' r'
        walk_on e = record {
          walking = next_turn f d h i t₀ r₀ t r w.walking walk_count b t' r' k.into.mips (sym k.conflict ∙ e);
          frame = keeps_then w.frame k.into.frame;
        }

        pub walk_stopped : (x : InvalidUse) → c ≡ Some x → MipsWalked d h i (walk f 0 (mips_of d h t₀ r₀ i)) t₀ r₀ (Err x) t' r'
        walk_stopped x e =
            let y = next_stop f d h i t₀ r₀ t r w.walking walk_count b t' r' k.into.mips x (sym k.conflict ∙ e) in
            record { conflict = y.1; into = record { mips = y.0; frame = keeps_then w.frame k.into.frame } }

    -- what is left is passed over
    pub walk_done : walk f m (drop m (mips_of d h t r i)) ≡ fine (drop m (mips_of d h t r i))
        → MipsWalked d h i (walk f 0 (mips_of d h t₀ r₀ i)) t₀ r₀ (Ok tt) t r
    walk_done e = let y = walk_end f w.walking.walking e in record { conflict = y.1; into = record { mips = y.0; frame = w.frame } }
