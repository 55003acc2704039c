-- One texture of a scope: what is asked for, and the contract of a merge into it.
use Rattle.std.specs.Prelude.{◌<◌, ◌≡◌}
use Rattle.model.specs.Prelude.{ℕ, refl, ap, subst, option_map, List, get_or, set, ne_eqb, eq-eqb, Ok}
use Rattle.model.specs.{declared.{UsageFlags.UsageFlags, Extent.Extent, InvalidUse.InvalidUse}, Base.{Stop, fine}}
use Rattle.model.specs.{Sets.{Numbers, Slot, with_slots}, Calls.{Indexed, merge_slot}, Texture.{Held, Given, insert, merge, ranged}}
use Rattle.set_storage.specs.Storage.{numbers_of, extent_of, start_half, held_of, slot_with, scope_of, owned_at, textures_at, scope_slot}
use Rattle.set_storage.specs.{Frames.Measured, Stays.{Only, keeps_refl, keeps_then, keeps_more, ScopeFrame}}
use Rattle.set_storage.specs.Slots.{SlotFrame, HalfBecomes, own_words, scope_slots, scope_half, scope_own, half_low}
use Rattle.texture_merge.specs.{Walks.Stopped, Uses.HalfMerged}
use Rattle.set_ready.specs.{Half.{HalfReady, half_held}, Given.{HalfGiven, WhereOwned}}
use Rattle.set_ready.specs.Owned.{own_numbers, own_textured, now_owned, owned_reads, slot_becomes, slot_other}
use Rattle.call_merge.specs.Met.{indexed, met_at}

-- what is asked for at index i, where the given scope may own a texture
abbrev pub OwnedReady : List ℕ → List ℕ → ℕ → List ℕ → List ℕ → Type 0
OwnedReady t r i g l = WhereOwned g i (HalfReady start_half t r i (extent_of g i)) (HalfGiven t i (extent_of g i) start_half g l)

-- THE CONTRACT: texture i becomes what the model's merge of it gives, and all that is lent stays but what is of a named index: i, or none
pub record SlotMerged (named : ℕ → Type 0) (t r : List ℕ) (i : ℕ) (w : Stop (Indexed InvalidUse) (Slot Held)) (x : Stopped)
    (t' r' : List ℕ) : Type 0 where
  pub conflict : met_at i x ≡ w.conflict
  pub slot : slot_with (held_of (numbers_of t) start_half t' r') t' i ≡ w.value
  pub frame : ScopeFrame named (numbers_of t) t r t' r'

module _ {t r : List ℕ} {i : ℕ} {sh : Extent} (q : HalfReady start_half t r i sh) (p : UsageFlags) (g : Given) where
  -- an unowned texture is owned, and then `insert`
  pub scope_new : {t' r' : List ℕ} → get_or t (owned_at i) 0 ≡ 0
      → HalfBecomes (numbers_of (own_words t i sh)) start_half i (insert p sh g) (own_words t i sh) r t' r'
      → SlotMerged (Only i) t r i (merge_slot ranged p sh g i (scope_slot t r i)) (Ok tt) t' r'
  scope_new {t'} {r'} free b =
      let m = q.measured in let x = own_textured q in
      let b₁ = subst (λ (n : Numbers). HalfBecomes n start_half i (insert p sh g) (own_words t i sh) r t' r') (own_numbers q) b in
      rw (eq-eqb (get_or t (owned_at i) 0) 0 free) (record {
        conflict = refl;
        slot = owned_reads (held_of (numbers_of t) start_half t' r') t' (insert p sh g) x (now_owned q)
            (half_low x.measured x.index b₁.frame) b₁.held;
        frame = keeps_then (scope_own (numbers_of t) t i sh m.textures m.mips x.index r) (scope_half b₁.frame);
      })

  -- an owned one: `merge`
  pub scope_old : {x : Stopped} {t' r' : List ℕ} → (get_or t (owned_at i) 0 ≡ 0 → ⊥)
      → HalfMerged (numbers_of t) start_half i (merge p sh (held_of (numbers_of t) start_half t r i) g) t r x t' r'
      → SlotMerged (Only i) t r i (merge_slot ranged p sh g i (scope_slot t r i)) x t' r'
  scope_old {x} {t'} {r'} own b =
      let f = b.into.frame in let held = held_of (numbers_of t) start_half in
      rw (ne_eqb (get_or t (owned_at i) 0) 0 own) (record {
        conflict = ap (option_map (indexed i)) b.conflict;
        slot = owned_reads (held t' r') t' (merge p sh (held t r i) g).value (half_held q own).ready own
            (half_low q.measured q.texture.texture f) b.into.held;
        frame = scope_half f;
      })

-- a texture that stays as it is
pub scope_kept : {named : ℕ → Type 0} (t r : List ℕ) (i : ℕ) → SlotMerged named t r i (fine (scope_slot t r i)) (Ok tt) t r
scope_kept t r i = record { conflict = refl; slot = refl; frame = keeps_refl t r }

-- more may be named
pub scope_named : {named more : ℕ → Type 0} {t r t' r' : List ℕ} {i : ℕ} {w : Stop (Indexed InvalidUse) (Slot Held)} {x : Stopped}
    → ((j : ℕ) → named j → more j) → SlotMerged named t r i w x t' r' → SlotMerged more t r i w x t' r'
scope_named n q = record { conflict = q.conflict; slot = q.slot; frame = keeps_more n (λ j y o. o) q.frame }

-- ---- After it
module _ {t r t' r' : List ℕ} {i : ℕ} {w : Stop (Indexed InvalidUse) (Slot Held)} {x : Stopped}
    (m : Measured (numbers_of t) start_half t r) (q : SlotMerged (Only i) t r i w x t' r') where
  slots : SlotFrame (get_or t textures_at 0) i (held_of (numbers_of t) start_half t r) (held_of (numbers_of t) start_half t' r') t t'
  slots = scope_slots m.textures m.mips q.frame

  -- THE VIEW
  pub scope_view : scope_of t' r' ≡ with_slots (scope_of t r) (set (scope_of t r).slots i w.value)
  unfolding scope_of
  scope_view = slot_becomes (λ n. held_of n start_half t r) (λ n. held_of n start_half t' r') slots q.slot

  -- another texture
  pub scope_rest : (j : ℕ) → j < get_or t textures_at 0 → (j ≡ i → ⊥) → scope_slot t' r' j ≡ scope_slot t r j
  scope_rest = slot_other (λ n. held_of n start_half t r) (λ n. held_of n start_half t' r') slots
