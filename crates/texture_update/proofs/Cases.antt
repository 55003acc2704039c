-- `update` of one use, case by case: what the code leaves is what the model's update gives.
use Rattle.model.specs.Prelude.{ℕ, arith, refl, sym, ap, subst, ◌∙◌, Some, List, get_or, set}
use Rattle.model.specs.{declared.{UsageFlags.UsageFlags, Extent.Extent, Selector.Selector, Range.Range}, Representation.Ends}
use Rattle.model.specs.Texture.{Held, single, many, Given, given_single, learn_all, met_by, update}
use Rattle.std.specs.Prelude.{◌≡◌}
use Rattle.set_storage.specs.Storage.{numbers_of, start_half, end_half, mips_of, held_of, ends_of, complex_at, state_at}
use Rattle.set_storage.specs.Frames.{Measured, MipsBecome}
use Rattle.set_storage.specs.Slots.{HalfBecomes, become_single, become_many, held_single, held_many, half_low}
use Rattle.set_storage.specs.{Texture.measured_low, Uses.{piece, use_of}}
use Rattle.texture_merge.specs.{Uses.broken_up, Ready.updated_mips}
use Rattle.texture_update.specs.Both.{BothBecome, BothMips, start_then_end, end_alone, mips_become}
use Rattle.texture_update.specs.Update.{UpdateReady, Selecting, complex_is, state_single, state_kept, state_learnt, use_single, use_kept}
use Rattle.texture_update.specs.Update.{use_learnt}

module _ {t s e : List ℕ} {i : ℕ} {sh : Extent} {p : UsageFlags} {new : ℕ} (r : UpdateReady t s e i sh p new) where
  plain : new ≡ get_or t complex_at 0 → ⊥
  plain z = r.plain (z ∙ sym (complex_is r))

  pub start_single : (get_or t (state_at start_half i) 0 ≡ p.complex → ⊥)
      → held_of (numbers_of t) start_half t s i ≡ single (get_or t (state_at start_half i) 0)
  start_single n = held_single (numbers_of t) start_half t s i (λ z. n (z ∙ sym (complex_is r)))

  pub end_single : (get_or t (state_at end_half i) 0 ≡ p.complex → ⊥)
      → held_of (numbers_of t) end_half t e i ≡ single (get_or t (state_at end_half i) 0)
  end_single n = held_single (numbers_of t) end_half t e i (λ z. n (z ∙ sym (complex_is r)))

  pub start_many : get_or t (state_at start_half i) 0 ≡ p.complex
      → held_of (numbers_of t) start_half t s i ≡ many (mips_of (numbers_of t) start_half t s i)
  start_many c = held_many (numbers_of t) start_half t s i (mips_of (numbers_of t) start_half t s i) (c ∙ complex_is r) refl

  pub end_many : get_or t (state_at end_half i) 0 ≡ p.complex
      → held_of (numbers_of t) end_half t e i ≡ many (mips_of (numbers_of t) end_half t e i)
  end_many c = held_many (numbers_of t) end_half t e i (mips_of (numbers_of t) end_half t e i) (c ∙ complex_is r) refl

  -- what is held, put into the model's update
  module _ (g : Given) where
    held_is : {x y : Held} (z : Ends Held) → held_of (numbers_of t) start_half t s i ≡ x → held_of (numbers_of t) end_half t e i ≡ y
        → update p sh (record { start = x; end = y }) g ≡ z → z ≡ update p sh (ends_of (numbers_of t) t s e i) g
    held_is z a b u = sym (rw (a, b) u)

    -- the end alone changes
    pub ended : {y w : Held} {t' e' : List ℕ} → held_of (numbers_of t) end_half t e i ≡ y
        → update p sh (record { start = held_of (numbers_of t) start_half t s i; end = y }) g
        ≡ record { start = held_of (numbers_of t) start_half t s i; end = w }
        → HalfBecomes (numbers_of t) end_half i w t e t' e'
        → BothBecome (numbers_of t) i (update p sh (ends_of (numbers_of t) t s e i) g) t s e t' s e'
    ended {y} {w} {t'} {e'} b u h =
        subst (λ (x : Ends Held). BothBecome (numbers_of t) i x t s e t' s e')
        (held_is (record { start = held_of (numbers_of t) start_half t s i; end = w }) refl b u)
        (end_alone r.start.ready.measured r.end.ready.measured r.start.ready.index h)

  -- ---- one state for all
  pub all_single : (get_or t (state_at end_half i) 0 ≡ p.complex → ⊥)
      → BothBecome (numbers_of t) i (update p sh (ends_of (numbers_of t) t s e i) (given_single new)) t s e (set t
      (state_at end_half i) new) s e
  all_single n = ended (given_single new) (end_single n) (state_single p sh new (held_of (numbers_of t) start_half t s i)
      (get_or t (state_at end_half i) 0)) (become_single r.end.ready.measured r.end.ready.index plain)

  pub all_kept : get_or t (state_at end_half i) 0 ≡ p.complex → (get_or t (state_at start_half i) 0 ≡ p.complex → ⊥)
      → BothBecome (numbers_of t) i (update p sh (ends_of (numbers_of t) t s e i) (given_single new)) t s e (set t
      (state_at end_half i) new) s e
  all_kept c n =
      ended (given_single new) (end_many c)
      (rw (start_single n) (state_kept p sh new (get_or t (state_at start_half i) 0) (mips_of (numbers_of t) end_half t e i)))
      (become_single r.end.ready.measured r.end.ready.index plain)

  pub all_learnt : {t₁ s' : List ℕ} → get_or t (state_at end_half i) 0 ≡ p.complex → get_or t (state_at start_half i) 0 ≡ p.complex
      → MipsBecome (numbers_of t) start_half i (learn_all (λ k x. x) p.unknown new 0 (mips_of (numbers_of t) end_half t e i)
      (mips_of (numbers_of t) start_half t s i)) t s t₁ s'
      → BothBecome (numbers_of t) i (update p sh (ends_of (numbers_of t) t s e i) (given_single new)) t s e (set t₁
      (state_at end_half i) new) s' e
  all_learnt {t₁} {s'} c d b =
      let a = become_many r.start.ready.measured r.start.ready.index (d ∙ complex_is r) b in
      let low = half_low r.start.ready.measured r.start.ready.index a.frame in
      let m : Measured (numbers_of t) end_half t₁ e = measured_low low refl a.frame.words.long r.end.ready.measured in
      subst (λ (x : Ends Held). BothBecome (numbers_of t) i x t s e (set t₁ (state_at end_half i) new) s' e)
      (held_is (given_single new) _ (start_many d) (end_many c) (state_learnt p sh new (mips_of (numbers_of t) start_half t s i)
      (mips_of (numbers_of t) end_half t e i)))
      (start_then_end r.start.ready.measured r.end.ready.measured r.start.ready.index a
      (become_single m r.end.ready.index (λ z. plain (z ∙ low complex_at (omega arith)))))

  -- ---- a selector with a state
  module _ {q : Selector} (x : Selecting sh q p new) where
    pub part_single : {t' e' : List ℕ} (cur : ℕ) → cur ≡ get_or t (state_at end_half i) 0 → (cur ≡ p.complex → ⊥)
        → HalfBecomes (numbers_of t) end_half i (broken_up sh cur q p.unknown new) t e t' e'
        → BothBecome (numbers_of t) i (update p sh (ends_of (numbers_of t) t s e i) (use_of (Some q) new)) t s e t' s e'
    part_single cur z n h = ended (use_of (Some q) new) (end_single (λ k. n (z ∙ k)) ∙ ap single (sym z))
        (use_single p sh new q x.known (held_of (numbers_of t) start_half t s i) cur) h

    abbrev painted : List (List Range)
    painted = updated_mips p.unknown q new (mips_of (numbers_of t) end_half t e i)

    pub part_kept : {t' e' : List ℕ} → get_or t (state_at end_half i) 0 ≡ p.complex → (get_or t (state_at start_half i) 0 ≡ p.complex → ⊥)
        → MipsBecome (numbers_of t) end_half i painted t e t' e'
        → BothBecome (numbers_of t) i (update p sh (ends_of (numbers_of t) t s e i) (use_of (Some q) new)) t s e t' s e'
    part_kept c n b =
        ended (use_of (Some q) new) (end_many c)
        (rw (start_single n) (use_kept p sh new q x.known (get_or t (state_at start_half i) 0) (mips_of (numbers_of t) end_half t e i)))
        (become_many r.end.ready.measured r.end.ready.index (c ∙ complex_is r) b)

    pub part_learnt : {t' s' e' : List ℕ} → get_or t (state_at end_half i) 0 ≡ p.complex → get_or t (state_at start_half i) 0 ≡ p.complex
        → BothMips (numbers_of t) i (learn_all (met_by p.unknown (piece q new)) p.unknown new 0
        (mips_of (numbers_of t) end_half t e i) (mips_of (numbers_of t) start_half t s i)) painted t s e t' s' e'
        → BothBecome (numbers_of t) i (update p sh (ends_of (numbers_of t) t s e i) (use_of (Some q) new)) t s e t' s' e'
    part_learnt {t'} {s'} {e'} c d b =
        subst (λ (y : Ends Held). BothBecome (numbers_of t) i y t s e t' s' e')
        (held_is (use_of (Some q) new) _ (start_many d) (end_many c)
        (use_learnt p sh new q x.known (mips_of (numbers_of t) start_half t s i) (mips_of (numbers_of t) end_half t e i)))
        (mips_become r.start.ready.measured r.end.ready.measured r.start.ready.index (d ∙ complex_is r) (c ∙ complex_is r) b)
