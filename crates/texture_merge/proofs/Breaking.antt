-- A texture becomes Many: its state tells COMPLEX, its mips are made anew, and those are changed by g.
use Rattle.model.specs.Prelude.{ℕ, arith, sym, ap, subst, ◌∙◌, List, [], get_or, set, replicate, get_or-set_same}
use Rattle.model.specs.{declared.{UsageFlags.UsageFlags, Extent.Extent, Range.Range}, Sets.Numbers, RangedStates.range}
use Rattle.model.specs.Texture.{many, fresh_mips}
use Rattle.std.specs.Prelude.{◌+◌, ◌≡◌, ◌∷◌}
use Rattle.set_storage.specs.{Storage.{numbers_of, flags_of, mips_of, complex_at, layers_at}, Stays.{HalfFrame, keeps_then}}
use Rattle.set_storage.specs.{Frames.{MipsBecome, frame_below, half_of, half_word_lem}, Slots.{HalfBecomes, become_many, half_low}}
use Rattle.set_storage.specs.Texture.{TextureReady, texture_then, texture_dims}
use Rattle.texture_merge.specs.Ready.{ManyReady, EveryReady, texture_every, fresh_many}

module _ {h i : ℕ} {sh : Extent} {p : UsageFlags} {t r : List ℕ} (u : TextureReady (numbers_of t) h t r i sh) (f : p ≡ flags_of t) where
  abbrev t₁ : List ℕ
  t₁ = set t (h + i) p.complex

  word : HalfFrame (numbers_of t) h i t r t₁ r
  word = half_word_lem (numbers_of t) h i p.complex t r (omega (arith, u.index, u.measured.textures))

  first : TextureReady (numbers_of t) h t₁ r i sh
  first = texture_then u word

  -- the state of the first step tells COMPLEX
  told : get_or t₁ (h + i) 0 ≡ get_or t₁ complex_at 0
  told =
      get_or-set_same t (h + i) p.complex 0 (omega (arith, u.measured.table, u.measured.half.1, u.measured.textures, u.index))
      ∙ ap (λ (x : UsageFlags). x.complex) f ∙ sym (half_low u.measured u.index word complex_at (omega arith))

  pub break_every : EveryReady (numbers_of t₁) h t₁ r i sh.mips
  break_every = texture_every (texture_dims first)

  module _ (st : ℕ) {t₂ r₂ : List ℕ} (b : MipsBecome (numbers_of t₁) h i (replicate sh.mips (range 0 sh.layers st ∷ [])) t₁ r t₂ r₂) where
    b₂ : MipsBecome (numbers_of t) h i (fresh_mips sh st) t₁ r t₂ r₂
    b₂ = subst (λ (d : Numbers). MipsBecome d h i (fresh_mips sh st) t₁ r t₂ r₂) first.measured.dims b

    second : TextureReady (numbers_of t) h t₂ r₂ i sh
    second = texture_then first (half_of b₂.frame)

    pub break_texture : TextureReady (numbers_of t₂) h t₂ r₂ i sh
    break_texture = texture_dims second

    pub break_many : ManyReady (numbers_of t₂) h t₂ r₂ i (get_or t₂ (layers_at i) 0)
    break_many = subst (λ (d : Numbers). ManyReady d h t₂ r₂ i (get_or t₂ (layers_at i) 0)) (sym second.measured.dims)
        (fresh_many second st b₂.mips _ second.layers)

    -- the mips made anew, changed by g
    pub break_then : {t₃ r₃ : List ℕ} (g : List (List Range) → List (List Range))
        → MipsBecome (numbers_of t₂) h i (g (mips_of (numbers_of t₂) h t₂ r₂ i)) t₂ r₂ t₃ r₃
        → HalfBecomes (numbers_of t) h i (many (g (fresh_mips sh st))) t r t₃ r₃
    break_then {t₃} {r₃} g c =
        let c₂ : MipsBecome (numbers_of t) h i (g (mips_of (numbers_of t) h t₂ r₂ i)) t₂ r₂ t₃ r₃ =
        subst (λ (d : Numbers). MipsBecome d h i (g (mips_of d h t₂ r₂ i)) t₂ r₂ t₃ r₃) second.measured.dims c in
        let k : get_or t₂ (h + i) 0 ≡ get_or t₂ complex_at 0 = frame_below b₂.frame (h + i) (omega (arith, u.measured.textures)) ∙ told
        ∙ sym (frame_below b₂.frame complex_at (omega (arith, u.measured.half.0))) in
        let x = become_many second.measured u.index k c₂ in
        record {
          held = x.held ∙ ap (λ (ss : List (List Range)). many (g ss)) b₂.mips;
          frame = keeps_then word (keeps_then (half_of b₂.frame) x.frame);
        }
