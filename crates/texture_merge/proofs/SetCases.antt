-- `insert` and `merge` of a texture of another set, case by case: what the code leaves is what the model gives.
use Rattle.model.specs.Prelude.{ℕ, arith, refl, sym, ap, subst, ◌∙◌, None, Some, List, [], get_or, set, replicate}
use Rattle.model.specs.Prelude.{Ok, Err, result_err}
use Rattle.model.specs.{declared.{UsageFlags.UsageFlags, Extent.Extent, Range.Range, InvalidUse.InvalidUse}, Base.{Stop, passes}}
use Rattle.model.specs.{Sets.Numbers, RangedStates.range}
use Rattle.model.specs.Texture.{single, many, Given, given_single, pieces_of, from_held, fresh_mips, paint_all, insert, spread_piece, merge}
use Rattle.std.specs.Prelude.{◌+◌, ◌<◌, ◌≡◌, ◌∷◌}
use Rattle.set_storage.specs.{Storage.{numbers_of, count_at, mips_of, held_of, complex_at, layers_at}, Stays.{Frame, keeps_then}}
use Rattle.set_storage.specs.{declared.stored.Stored.Stored, Stored.{word_of, mips_stored, held_in}}
use Rattle.set_storage.specs.Frames.{MipsBecome, frame_below, half_of, measured_then}
use Rattle.set_storage.specs.Slots.{HalfBecomes, become_single, become_many, become_marked, held_single, held_many}
use Rattle.set_storage.specs.Texture.{TextureReady, texture_then, texture_dims}
use Rattle.texture_merge.specs.Walks.{Stopped, MipsWalked}
use Rattle.texture_merge.specs.{Ready.{ManyReady, HalfTiled, many_of, fresh_many}, Uses.HalfMerged}
use Rattle.texture_merge.specs.Giving.{inserted, inserts, merged, GivenTexture}
use Rattle.texture_merge.specs.FromSet.{SetReady, MergeReady, given_state_lem, given_pieces, given_many_lem}
use Rattle.texture_merge.proofs.Breaking.{break_many, break_texture, break_then}

module _ {h : ℕ} {t r : List ℕ} {sh : Extent} {g : Stored} {p : UsageFlags} (x : SetReady h t r sh g p) where
  complex_is : p.complex ≡ get_or t complex_at 0
  complex_is = ap (λ (y : UsageFlags). y.complex) x.flags

  abbrev i : ℕ
  i = g.i

  abbrev gs : List (List Range)
  gs = mips_stored g

  abbrev given : Given
  given = from_held (held_in g)

  -- ---- the given texture is Single
  module _ (c : word_of g ≡ p.complex → ⊥) where
    pub insert_single : HalfBecomes (numbers_of t) h i (insert p sh given) t r (set t (h + i) (word_of g)) r
    unfolding insert
    insert_single = rw (given_state_lem x.given c) (become_single x.texture.measured x.texture.index (λ z. c (z ∙ sym complex_is)))

    pub merge_single_lem : {z : Stopped} {t' r' : List ℕ}
        → HalfMerged (numbers_of t) h i (merge p sh (held_of (numbers_of t) h t r i) (given_single (word_of g))) t r z t' r'
        → HalfMerged (numbers_of t) h i (merge p sh (held_of (numbers_of t) h t r i) given) t r z t' r'
    merge_single_lem {z} {t'} {r'} m =
        subst (λ (y : Given). HalfMerged (numbers_of t) h i (merge p sh (held_of (numbers_of t) h t r i) y) t r z t' r')
        (sym (given_state_lem x.given c)) m

  -- ---- the given texture is Many
  module _ (c : word_of g ≡ p.complex) where
    -- insert: made anew UNKNOWN, and painted
    module _ {t₃ r₃ : List ℕ}
        (b : MipsBecome (numbers_of (set t (h + i) p.complex)) h i (replicate sh.mips (range 0 sh.layers p.unknown ∷ []))
        (set t (h + i) p.complex) r t₃ r₃) where
      pub insert_ready : ManyReady (numbers_of t₃) h t₃ r₃ i (get_or t₃ (layers_at i) 0) × GivenTexture t₃ sh.mips g
      insert_ready = (break_many x.texture x.flags p.unknown b, given_many_lem x.given c (break_texture x.texture x.flags p.unknown b))

      pub insert_many : {z : Stopped} {t₄ r₄ : List ℕ}
          → MipsWalked (numbers_of t₃) h i (passes (inserted p) (pieces_of gs) (mips_of (numbers_of t₃) h t₃ r₃ i)) t₃ r₃ z t₄ r₄
          → HalfBecomes (numbers_of t) h i (insert p sh given) t r t₄ r₄
      unfolding insert
      insert_many {z} {t₄} {r₄} w =
          let v = subst (λ (y : Stop InvalidUse (List (List Range))). MipsBecome (numbers_of t₃) h i y.value t₃ r₃ t₄ r₄)
          (inserts p (pieces_of gs) (mips_of (numbers_of t₃) h t₃ r₃ i)) w.into in
          rw (given_pieces x.given c) (break_then x.texture x.flags p.unknown b (paint_all p.unknown (pieces_of gs)) v)

    module _ (y : MergeReady h t r sh g p) where
      -- merge into Many
      module _ (e : get_or t (h + i) 0 ≡ p.complex) where
        told : get_or t (h + i) 0 ≡ get_or t complex_at 0
        told = e ∙ complex_is

        pub many_ready : HalfTiled h t r i × GivenTexture t sh.mips g
        many_ready = (many_of (record { ready = x.texture; tiled = y.tiled }) told _ x.texture.layers, given_many_lem x.given c x.texture)

        pub many_many : {z : Stopped} {t' r' : List ℕ}
            → MipsWalked (numbers_of t) h i (passes (merged p) (pieces_of gs) (mips_of (numbers_of t) h t r i)) t r z t' r'
            → HalfMerged (numbers_of t) h i (merge p sh (held_of (numbers_of t) h t r i) given) t r z t' r'
        unfolding merge
        many_many w =
            rw (given_pieces x.given c, held_many (numbers_of t) h t r i (mips_of (numbers_of t) h t r i) told refl)
            record { conflict = w.conflict; into = become_many x.texture.measured x.texture.index told w.into }

      -- merge into Single: the mips are made anew in its state, and the word stays until all pieces are taken
      module _ {cur : ℕ} (e : cur ≡ get_or t (h + i) 0) (ne : cur ≡ p.complex → ⊥) {t₃ r₃ : List ℕ}
          (b : MipsBecome (numbers_of t) h i (replicate sh.mips (range 0 sh.layers cur ∷ [])) t r t₃ r₃) where
        third : TextureReady (numbers_of t) h t₃ r₃ i sh
        third = texture_then x.texture (half_of b.frame)

        dims₃ : numbers_of t₃ ≡ numbers_of t
        dims₃ = third.measured.dims

        pub spread_ready : ManyReady (numbers_of t₃) h t₃ r₃ i (get_or t₃ (layers_at i) 0) × GivenTexture t₃ sh.mips g
        spread_ready = (
          subst (λ (d : Numbers). ManyReady d h t₃ r₃ i (get_or t₃ (layers_at i) 0)) (sym dims₃)
              (fresh_many third cur b.mips _ third.layers),
          given_many_lem x.given c (texture_dims third),
        )

        module _ {z : Stopped} {t₄ r₄ : List ℕ}
            (w : MipsWalked (numbers_of t₃) h i
            (passes (spread_piece p cur) (pieces_of gs) (mips_of (numbers_of t₃) h t₃ r₃ i)) t₃ r₃ z t₄ r₄) where
          abbrev s : Stop InvalidUse (List (List Range))
          s = passes (spread_piece p cur) (pieces_of gs) (fresh_mips sh cur)

          v : MipsWalked (numbers_of t) h i s t₃ r₃ z t₄ r₄
          v =
              subst (λ (q : Stop InvalidUse (List (List Range))). MipsWalked (numbers_of t) h i q t₃ r₃ z t₄ r₄)
              (ap (λ (ss : List (List Range)). passes (spread_piece p cur) (pieces_of gs) ss) b.mips)
              (subst (λ (d : Numbers). MipsWalked d h i (passes (spread_piece p cur) (pieces_of gs) (mips_of d h t₃ r₃ i)) t₃ r₃ z t₄ r₄)
              dims₃ w)

          both : Frame (numbers_of t) h i t r t₄ r₄
          both = keeps_then b.frame v.into.frame

          word : (y : ℕ) → y < count_at h i 0 → get_or t₄ y 0 ≡ get_or t y 0
          word = frame_below both

          held_single_is : held_of (numbers_of t) h t r i ≡ single cur
          held_single_is = held_single (numbers_of t) h t r i (λ q. ne (e ∙ q ∙ sym complex_is)) ∙ ap single (sym e)

          pub spread_stop : (k : InvalidUse) → z ≡ Err k
              → HalfMerged (numbers_of t) h i (merge p sh (held_of (numbers_of t) h t r i) given) t r (Err k) t₄ r₄
          unfolding merge
          spread_stop k q =
              let n : s.conflict ≡ Some k = sym v.conflict ∙ ap result_err q in
              rw (given_pieces x.given c, held_single_is, n)
              record {
                conflict = refl;
                into = record {
                  held = held_single (numbers_of t) h t₄ r₄ i (λ m. ne (e ∙ sym (word (h + i) (omega (arith, x.texture.index))) ∙ m
                      ∙ word complex_at (omega (arith, x.texture.measured.half.0)) ∙ sym complex_is))
                      ∙ ap single (word (h + i) (omega (arith, x.texture.index)) ∙ sym e);
                  frame = half_of both;
                };
              }

          pub spread_done : z ≡ Ok tt
              → HalfMerged (numbers_of t) h i (merge p sh (held_of (numbers_of t) h t r i) given) t r (Ok tt) (set t₄ (h + i) p.complex) r₄
          unfolding merge
          spread_done q =
              let n : s.conflict ≡ None = sym v.conflict ∙ ap result_err q in
              let m = become_marked (measured_then x.texture.measured both) x.texture.index (complex_is
              ∙ sym (word complex_at (omega (arith, x.texture.measured.half.0)))) in
              rw (given_pieces x.given c, held_single_is, n)
              record { conflict = refl; into = record { held = m.held ∙ ap many v.into.mips; frame = keeps_then (half_of both) m.frame } }
