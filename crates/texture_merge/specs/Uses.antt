-- One use of a texture, in one half: what is asked for, and the contracts of `insert` and `merge`.
use Rattle.model.specs.Prelude.{ℕ, arith, refl, sym, ap, Bool, true, false, Option, None, Some, List, bit_or, get_or}
use Rattle.model.specs.Prelude.{result_err}
use Rattle.model.specs.declared.{UsageFlags.UsageFlags, Extent.Extent, Selector.Selector, Range.Range, InvalidUse.InvalidUse}
use Rattle.model.specs.{Base.{Stop, fine, stopped, and_then, walk}, StateRules.{invalid_state, unite}, Sets.Numbers, Representation.full}
use Rattle.model.specs.Texture.{Held, single, many, fresh_mips, spread_piece, merge_mip, merge_every}
use Rattle.model.specs.Texture.{invalid_use, as_many, merge}
use Rattle.std.specs.{Prelude.{◌+◌, ◌≡◌, if◌then◌else◌}, Option.{unwrap_or}}
use Rattle.set_storage.specs.{Storage.{numbers_of, flags_of, complex_at}, Slots.HalfBecomes, Texture.{TextureReady, RangesTile}}
use Rattle.set_storage.specs.Uses.{piece, use_of, PartWithin}
use Rattle.texture_merge.specs.{Walks.Stopped, Ready.updated_mips}

-- a Single texture broken up by a selector with a state
unfoldable pub broken_up : Extent → ℕ → Selector → ℕ → ℕ → Held
broken_up sh was q u st = many (updated_mips u q st (fresh_mips sh was))

-- what the checks and the test of the set have shown
pub record UseReady (d : Numbers) (h : ℕ) (t r : List ℕ) (i : ℕ) (sh : Extent) (part : Option Selector)
    (p : UsageFlags) (new : ℕ) : Type 0 where
  pub texture : TextureReady d h t r i sh
  pub within : PartWithin sh part
  pub flags : p ≡ flags_of t
  pub plain : new ≡ p.complex → ⊥

-- what is held there already: ranges that tile the layers, or a state that with the new one is not COMPLEX
pub record HeldReady (h : ℕ) (t r : List ℕ) (i : ℕ) (sh : Extent) (new : ℕ) : Type 0 where
  pub tiled : RangesTile (numbers_of t) h t r i sh
  pub plain : bit_or (get_or t (h + i) 0) new ≡ get_or t complex_at 0 → ⊥

-- a Single texture in the state `cur`
pub record SingleReady (h : ℕ) (t : List ℕ) (i : ℕ) (p : UsageFlags) (cur new : ℕ) : Type 0 where
  pub here : cur ≡ get_or t (h + i) 0
  pub single : cur ≡ p.complex → ⊥
  pub plain : bit_or cur new ≡ p.complex → ⊥

-- THE CONTRACT of a merge into one half
pub record HalfMerged (d : Numbers) (h i : ℕ) (w : Stop InvalidUse Held) (t r : List ℕ) (x : Stopped) (t' r' : List ℕ) : Type 0 where
  pub conflict : result_err x ≡ w.conflict
  pub into : HalfBecomes d h i w.value t r t' r'

-- ---- The model's merge of one use, case by case
-- with a state that has another bit than COMPLEX
pub use_with : {d : Numbers} {h i : ℕ} {sh : Extent} {part : Option Selector} {p : UsageFlags} {new : ℕ} {t r : List ℕ} (u : ℕ)
    → UseReady d h t r i sh part p new → (u ≡ p.complex → ⊥) → UseReady d h t r i sh part p u
use_with u x c = record { texture = x.texture; within = x.within; flags = x.flags; plain = c }

pub united : (p : UsageFlags) (old new u : ℕ) → unite p old new ≡ Some u → u ≡ bit_or old new
unfolding unite
united p old new u e = go (invalid_state p (bit_or old new)) e
  where
    go : (b : Bool) → (if b then None else Some (bit_or old new)) ≡ Some u → u ≡ bit_or old new
    go true q = absurd (let z : ◌≡◌ {A = ℕ} 0 1 = cc in omega arith)
    go false q = cc

-- Single, and the states do not fit: nothing changes, and what the use names is told
pub single_conflict : (p : UsageFlags) (sh : Extent) (cur new : ℕ) (part : Option Selector) → unite p cur new ≡ None
    → merge p sh (single cur) (use_of part new) ≡ stopped (single cur) (invalid_use (unwrap_or part (full sh)) cur new)
unfolding merge spread_piece
single_conflict p sh cur new None e = rw e
single_conflict p sh cur new (Some q) e = rw e

-- Single, and they fit: the union, or the texture broken up
pub single_all : (p : UsageFlags) (sh : Extent) (cur new u : ℕ) → unite p cur new ≡ Some u
    → merge p sh (single cur) (use_of None new) ≡ fine (single u)
unfolding merge
single_all p sh cur new u e = rw e

pub single_part : (p : UsageFlags) (sh : Extent) (cur new u : ℕ) (q : Selector) → unite p cur new ≡ Some u
    → merge p sh (single cur) (use_of (Some q) new) ≡ fine (broken_up sh cur q p.unknown u)
unfolding merge spread_piece broken_up
single_part p sh cur new u q e = rw e

-- Many
pub many_all : (p : UsageFlags) (sh : Extent) (ss : List (List Range)) (new : ℕ)
    → merge p sh (many ss) (use_of None new) ≡ as_many (walk (merge_every p new) 0 ss)
unfolding merge
many_all p sh ss new = refl

pub many_part : (p : UsageFlags) (sh : Extent) (ss : List (List Range)) (new : ℕ) (q : Selector)
    → merge p sh (many ss) (use_of (Some q) new) ≡ as_many (walk (merge_mip p (piece q new)) 0 ss)
unfolding merge
many_part p sh ss new q = ap as_many (once (walk (merge_mip p (piece q new)) 0 ss))
  where
    once : (w : Stop InvalidUse (List (List Range))) → and_then w.conflict w.value (fine w.value) ≡ w
    once w = go w.conflict refl
      where
        go : (c : Option InvalidUse) → w.conflict ≡ c → and_then c w.value (fine w.value) ≡ w
        go None e = λ i. record { value = w.value; conflict = sym e i }
        go (Some c) e = λ i. record { value = w.value; conflict = sym e i }
