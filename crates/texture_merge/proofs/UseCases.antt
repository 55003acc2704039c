-- `merge` of one use, case by case: what the code leaves is what the model's merge gives.
use Rattle.model.specs.Prelude.{ℕ, refl, sym, ap, subst, ◌∙◌, Option, None, Some, List, get_or, set, Ok, Err}
use Rattle.model.specs.declared.{UsageFlags.UsageFlags, Extent.Extent, Selector.Selector, Range.Range, InvalidUse.InvalidUse}
use Rattle.model.specs.{Base.{Stop, walk}, StateRules.unite, Representation.full}
use Rattle.model.specs.Texture.{Held, single, many, merge_mip, merge_every, invalid_use, as_many, merge}
use Rattle.std.specs.Prelude.{◌+◌, ◌≡◌}
use Rattle.std.specs.Option.{unwrap_or}
use Rattle.set_storage.specs.{Storage.{numbers_of, mips_of, held_of, complex_at}, Stays.keeps_refl, Uses.{piece, use_of}}
use Rattle.set_storage.specs.Slots.{HalfBecomes, become_single, become_many, held_single, held_many}
use Rattle.texture_merge.specs.{Walks.{Stopped, MipsWalked}, Ready.{HalfTiled, many_of}}
use Rattle.texture_merge.specs.Uses.{broken_up, UseReady, HeldReady, SingleReady, HalfMerged, united, single_conflict, single_all}
use Rattle.texture_merge.specs.Uses.{single_part, many_all, many_part}

module _ {h i : ℕ} {sh : Extent} {part : Option Selector} {p : UsageFlags} {new : ℕ} {t r : List ℕ}
    (x : UseReady (numbers_of t) h t r i sh part p new) where
  complex_is : p.complex ≡ get_or t complex_at 0
  complex_is = ap (λ (y : UsageFlags). y.complex) x.flags

  -- ---- Single
  module _ {cur : ℕ} (s : SingleReady h t i p cur new) where
    pub union_plain : (u : ℕ) → unite p cur new ≡ Some u → u ≡ p.complex → ⊥
    union_plain u e z = s.plain (sym (united p cur new u e) ∙ z)

    pub conflict_left : unite p cur new ≡ None
        → HalfMerged (numbers_of t) h i (merge p sh (single cur) (use_of part new)) t r (Err
        (invalid_use (unwrap_or part (full sh)) cur new)) t r
    conflict_left e =
        subst (λ (w : Stop InvalidUse Held). HalfMerged (numbers_of t) h i w t r (Err (invalid_use (unwrap_or part (full sh)) cur new)) t r)
        (sym (single_conflict p sh cur new part e))
        record {
          conflict = refl;
          into = record {
            held = held_single (numbers_of t) h t r i (λ z. s.single (s.here ∙ z ∙ sym complex_is)) ∙ ap single (sym s.here);
            frame = keeps_refl t r;
          };
        }

    pub all_left : (u : ℕ) → unite p cur new ≡ Some u → part ≡ None
        → HalfMerged (numbers_of t) h i (merge p sh (single cur) (use_of part new)) t r (Ok tt) (set t (h + i) u) r
    all_left u e a =
        subst (λ (w : Stop InvalidUse Held). HalfMerged (numbers_of t) h i w t r (Ok tt) (set t (h + i) u) r)
        (sym (ap (λ (o : Option Selector). merge p sh (single cur) (use_of o new)) a ∙ single_all p sh cur new u e))
        record { conflict = refl; into = become_single x.texture.measured x.texture.index (λ z. union_plain u e (z ∙ sym complex_is)) }

    pub part_left : {t' r' : List ℕ} {q : Selector} (u : ℕ) → unite p cur new ≡ Some u → part ≡ Some q
        → HalfBecomes (numbers_of t) h i (broken_up sh cur q p.unknown u) t r t' r'
        → HalfMerged (numbers_of t) h i (merge p sh (single cur) (use_of part new)) t r (Ok tt) t' r'
    part_left {t'} {r'} {q} u e a b =
        subst (λ (w : Stop InvalidUse Held). HalfMerged (numbers_of t) h i w t r (Ok tt) t' r')
        (sym (ap (λ (o : Option Selector). merge p sh (single cur) (use_of o new)) a ∙ single_part p sh cur new u q e))
        record { conflict = refl; into = b }

  -- ---- what is held there
  module _ (y : HeldReady h t r i sh new) where
    pub single_merged : {z : Stopped} {t' r' : List ℕ} (cur : ℕ) → cur ≡ get_or t (h + i) 0 → (cur ≡ p.complex → ⊥)
        → HalfMerged (numbers_of t) h i (merge p sh (single cur) (use_of part new)) t r z t' r'
        → HalfMerged (numbers_of t) h i (merge p sh (held_of (numbers_of t) h t r i) (use_of part new)) t r z t' r'
    single_merged {z} {t'} {r'} cur e n m =
        subst (λ (k : Held). HalfMerged (numbers_of t) h i (merge p sh k (use_of part new)) t r z t' r')
        (sym (held_single (numbers_of t) h t r i (λ c. n (e ∙ c ∙ sym complex_is)) ∙ ap single (sym e))) m

    -- ---- Many
    module _ (c : get_or t (h + i) 0 ≡ p.complex) where
      told : get_or t (h + i) 0 ≡ get_or t complex_at 0
      told = c ∙ complex_is

      pub many_ready : HalfTiled h t r i
      many_ready = many_of (record { ready = x.texture; tiled = y.tiled }) told _ x.texture.layers

      held_is : held_of (numbers_of t) h t r i ≡ many (mips_of (numbers_of t) h t r i)
      held_is = held_many (numbers_of t) h t r i (mips_of (numbers_of t) h t r i) told refl

      many_merged : {z : Stopped} {t' r' : List ℕ} (w : Stop InvalidUse (List (List Range)))
          → merge p sh (many (mips_of (numbers_of t) h t r i)) (use_of part new) ≡ as_many w → MipsWalked (numbers_of t) h i w t r z t' r'
          → HalfMerged (numbers_of t) h i (merge p sh (held_of (numbers_of t) h t r i) (use_of part new)) t r z t' r'
      many_merged {z} {t'} {r'} w e m =
          subst (λ (k : Held). HalfMerged (numbers_of t) h i (merge p sh k (use_of part new)) t r z t' r') (sym held_is)
          (subst (λ (k : Stop InvalidUse Held). HalfMerged (numbers_of t) h i k t r z t' r') (sym e)
          record { conflict = m.conflict; into = become_many x.texture.measured x.texture.index told m.into })

      pub every_merged : {z : Stopped} {t' r' : List ℕ} → part ≡ None
          → MipsWalked (numbers_of t) h i (walk (merge_every p new) 0 (mips_of (numbers_of t) h t r i)) t r z t' r'
          → HalfMerged (numbers_of t) h i (merge p sh (held_of (numbers_of t) h t r i) (use_of part new)) t r z t' r'
      every_merged a m =
          many_merged _ (ap (λ (o : Option Selector). merge p sh (many (mips_of (numbers_of t) h t r i)) (use_of o new)) a
          ∙ many_all p sh (mips_of (numbers_of t) h t r i) new) m

      pub part_merged : {z : Stopped} {t' r' : List ℕ} {q : Selector} → part ≡ Some q
          → MipsWalked (numbers_of t) h i (walk (merge_mip p (piece q new)) 0 (mips_of (numbers_of t) h t r i)) t r z t' r'
          → HalfMerged (numbers_of t) h i (merge p sh (held_of (numbers_of t) h t r i) (use_of part new)) t r z t' r'
      part_merged {q = q} a m =
          many_merged _ (ap (λ (o : Option Selector). merge p sh (many (mips_of (numbers_of t) h t r i)) (use_of o new)) a
          ∙ many_part p sh (mips_of (numbers_of t) h t r i) new q) m
