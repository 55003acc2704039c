-- The start learns from the end, mip by mip: what each step needs holds, and what it leaves is the next place of the loop.
use Rattle.model.specs.Prelude.{ℕ, arith, refl, ap, subst, ◌∙◌, inl, List, length, get_or, set}
use Rattle.model.specs.{declared.{Range.Range, InvalidUse.InvalidUse}, Base.{Stop, fine}, Sets.Numbers, Texture.{learn, learn_all}}
use Rattle.std.specs.Prelude.{◌+◌, ◌≤◌, ◌<◌, ◌≡◌}
use Rattle.range_states.specs.View.{decode}
use Rattle.texture_mips.specs.{Learn.LearnRoom, Kept.{learn_room, tiles_within}}
use Rattle.set_storage.specs.{declared.Located.Located, Storage.{numbers_of, start_half, end_half, mips_in, mip_of, mips_of, layers_at}}
use Rattle.set_storage.specs.{Frames.{MipsBecome, half_of, mips_top}, Locate.LocatedAt, Stored.lent_part}
use Rattle.texture_merge.specs.{Ready.{lent_fits, lent_layers, lent_tiled}, Walks.{MipWalk, walk_measured, walk_word}}
use Rattle.texture_update.specs.{Both.{away_mip, tiled_low}, Learning.{PairTiled, BothReady, walk_learn}}
use Rattle.texture_merge.proofs.Laps.{lap_tiled, lap_on, lap_end}

-- one mip: the room that the start's part needs
pub lesson_room : {t s e : List ℕ} {i m : ℕ} → PairTiled t s e i m → {x y : Located} → LocatedAt t start_half i m (length s) x
    → LocatedAt t end_half i m (length e) y → (u new : ℕ) → LearnRoom (lent_part x s) x.len u new (decode y.len (lent_part y e))
lesson_room {t} {s} {e} {i} {m} q {x} {y} l k u new =
    learn_room (lent_part x s) x.len u new (decode y.len (lent_part y e)) (get_or t (layers_at i) 0)
    (lent_layers q.start l) (lent_fits q.start l)
    (tiles_within (decode y.len (lent_part y e)) 0 (get_or t (layers_at i) 0) (get_or t (layers_at i) 0) (omega arith) (lent_tiled q.end k))
    (lent_tiled q.start l)

-- what the start's mip k learns from mip k of the end
abbrev pub lesson : ℕ → ℕ → List ℕ → List ℕ → ℕ → ℕ → List Range → Stop InvalidUse (List Range)
lesson u new t e i k x = fine (learn u new (mip_of (numbers_of t) end_half t e i k) x)

module _ (u new : ℕ) {t₀ s₀ e : List ℕ} {i m : ℕ} {t s : List ℕ} (q : BothReady t₀ s₀ e i)
    (w : MipWalk (lesson u new t₀ e i) (numbers_of t₀) start_half i t₀ s₀ m t s) where
  module _ (b : m < mips_in (numbers_of t₀) t₀ i) where
    away : mip_of (numbers_of t₀) end_half t e i m ≡ mip_of (numbers_of t₀) end_half t₀ e i m
    away = away_mip q.start.measured q.start.texture (half_of w.frame) end_half (inl (omega arith)) e m
        (omega (arith, mips_top (numbers_of t₀) t₀ i))

    pub lesson_tiled : PairTiled t s e i m
    lesson_tiled = record {
      start = lap_tiled q.start w b;
      end = tiled_low (walk_word (lesson u new t₀ e i) (numbers_of t₀) start_half i t₀ s₀ q.start.measured q.start.texture w) refl
          w.frame.words.long i m q.end b away;
    }

    pub lesson_turn : {t' s' : List ℕ}
        → MipsBecome (numbers_of t) start_half i (set (mips_of (numbers_of t) start_half t s i) m
        (learn u new (mip_of (numbers_of t) end_half t e i m) (mip_of (numbers_of t) start_half t s i m))) t s t' s'
        → MipWalk (lesson u new t₀ e i) (numbers_of t₀) start_half i t₀ s₀ (m + 1) t' s'
    lesson_turn x =
        let n : numbers_of t ≡ numbers_of t₀ =
        (walk_measured (lesson u new t₀ e i) (numbers_of t₀) start_half i t₀ s₀ q.start.measured q.start.texture w).dims in
        let k : mip_of (numbers_of t) end_half t e i m ≡ mip_of (numbers_of t₀) end_half t₀ e i m =
        ap (λ (d : Numbers). mip_of d end_half t e i m) n ∙ away in
        lap_on q.start.measured q.start.texture w b (λ y. fine (learn u new (mip_of (numbers_of t) end_half t e i m) y)) (λ y. rw k)
        (record { conflict = refl; into = x }) refl

  pub lesson_end : mips_in (numbers_of t₀) t₀ i ≤ m
      → MipsBecome (numbers_of t₀) start_half i (learn_all (λ k x. x) u new 0 (mips_of (numbers_of t₀) end_half t₀ e i)
      (mips_of (numbers_of t₀) start_half t₀ s₀ i)) t₀ s₀ t s
  lesson_end b =
      subst (λ (x : Stop InvalidUse (List (List Range))). MipsBecome (numbers_of t₀) start_half i x.value t₀ s₀ t s)
      (walk_learn (λ k x. x) u new (mip_of (numbers_of t₀) end_half t₀ e i) (mip_of (numbers_of t₀) start_half t₀ s₀ i) 0
      (mips_in (numbers_of t₀) t₀ i))
      (lap_end q.start.measured q.start.texture w b).into
