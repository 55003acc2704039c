-- One piece of another texture on both halves: what the code needs holds, and what it leaves is what the model's update gives.
use Rattle.model.specs.Prelude.{ℕ, refl, sym, ap, subst, ◌∙◌, List, get_or, eq-eqb, ne_eqb}
use Rattle.model.specs.{declared.UsageFlags.UsageFlags, Sets.Numbers, Texture.{Held, many, Piece, learn_all, met_by}, BoolLaws.by_eq}
use Rattle.std.specs.Prelude.{◌+◌, ◌≡◌}
use Rattle.set_storage.specs.Storage.{numbers_of, start_half, end_half, mips_of, held_of, ends_of, complex_at, layers_at, state_at}
use Rattle.set_storage.specs.{Frames.MipsBecome, Slots.{become_many, held_many, held_single}, Stays.both_refl}
use Rattle.texture_merge.specs.{Ready.HalfTiled, Giving.many_ready}
use Rattle.texture_update.specs.{Both.{BothBecome, BothMips, mips_become, end_alone}, Learning.BothReady}
use Rattle.texture_update.specs.Pieces.{painted_by, updated, HeldTiled, ManyTiled, PairReady}

-- ---- a half that tiles its layers
many_word : (d : Numbers) (h : ℕ) (t r : List ℕ) (i w : ℕ) → ManyTiled w (held_of d h t r i) → get_or t (h + i) 0 ≡ get_or t complex_at 0
many_word d h t r i w x = by_eq (get_or t (h + i) 0) (get_or t complex_at 0) (λ e. e)
    (λ ne. absurd (subst (λ (y : Held). ManyTiled w y) (held_single d h t r i ne) x))

-- ---- one piece
module _ {t s e : List ℕ} {i : ℕ} {p : UsageFlags} (x : PairReady t s e i p) where
  complex_is : p.complex ≡ get_or t complex_at 0
  complex_is = ap (λ (y : UsageFlags). y.complex) x.flags

  end_word : get_or t (state_at end_half i) 0 ≡ get_or t complex_at 0
  end_word = many_word (numbers_of t) end_half t e i (get_or t (layers_at i) 0) x.tiled.end

  end_held : held_of (numbers_of t) end_half t e i ≡ many (mips_of (numbers_of t) end_half t e i)
  end_held = held_many (numbers_of t) end_half t e i (mips_of (numbers_of t) end_half t e i) end_word refl

  pub end_ready : HalfTiled end_half t e i
  end_ready = many_ready x.ends x.texture x.some x.low (subst (λ (y : Held). ManyTiled (get_or t (layers_at i) 0) y) end_held x.tiled.end)

  module _ (c : get_or t (state_at start_half i) 0 ≡ p.complex) where
    start_held : held_of (numbers_of t) start_half t s i ≡ many (mips_of (numbers_of t) start_half t s i)
    start_held = held_many (numbers_of t) start_half t s i (mips_of (numbers_of t) start_half t s i) (c ∙ complex_is) refl

    pub both_ready : BothReady t s e i
    both_ready = record {
      start = many_ready x.starts x.texture x.some x.low
          (subst (λ (y : Held). HeldTiled (get_or t (layers_at i) 0) y) start_held x.tiled.start);
      end = end_ready;
    }

  module _ (q : Piece) where
    -- one that is UNKNOWN
    pub piece_passed : q.state ≡ p.unknown → BothBecome (numbers_of t) i (updated p.unknown q (ends_of (numbers_of t) t s e i)) t s e t s e
    unfolding updated
    piece_passed z = record { ends = rw (end_held, eq-eqb q.state p.unknown z); frame = both_refl t s e }

    module _ (n : q.state ≡ p.unknown → ⊥) where
      -- on a Single start
      pub piece_kept : {t' e' : List ℕ} → (get_or t (state_at start_half i) 0 ≡ p.complex → ⊥)
          → MipsBecome (numbers_of t) end_half i (painted_by p.unknown q (mips_of (numbers_of t) end_half t e i)) t e t' e'
          → BothBecome (numbers_of t) i (updated p.unknown q (ends_of (numbers_of t) t s e i)) t s e t' s e'
      unfolding updated
      piece_kept {t'} {e'} c b =
          let a = end_alone x.starts x.ends x.texture (become_many x.ends x.texture end_word b) in
          let k = held_single (numbers_of t) start_half t s i (λ z. c (z ∙ sym complex_is)) in
          record { ends = a.ends ∙ rw (end_held, k, ne_eqb q.state p.unknown n); frame = a.frame }

      -- on a Many one
      pub piece_learnt : {t' s' e' : List ℕ} → get_or t (state_at start_half i) 0 ≡ p.complex
          → BothMips (numbers_of t) i (learn_all (met_by p.unknown q) p.unknown q.state 0 (mips_of (numbers_of t) end_half t e i)
          (mips_of (numbers_of t) start_half t s i)) (painted_by p.unknown q (mips_of (numbers_of t) end_half t e i)) t s e t' s' e'
          → BothBecome (numbers_of t) i (updated p.unknown q (ends_of (numbers_of t) t s e i)) t s e t' s' e'
      unfolding updated
      piece_learnt {t'} {s'} {e'} c b =
          let y = mips_become x.starts x.ends x.texture (c ∙ complex_is) end_word b in
          record { ends = y.ends ∙ rw (end_held, start_held c, ne_eqb q.state p.unknown n); frame = y.frame }
