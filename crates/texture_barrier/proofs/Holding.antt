-- The model's `barrier` of a stored texture, by what its word tells: Many, or one state.
use Rattle.model.specs.Prelude.{ℕ, arith, ap, Option, None, Some, []}
use Rattle.model.specs.{declared.{Selector.Selector, Extent.Extent, UsageFlags.UsageFlags}, StateRules.move_of, RangedStates.range}
use Rattle.model.specs.{Representation.{full, mip_start, mip_end, layer_start, layer_end}, CheckLaws.SelectorWithin}
use Rattle.model.specs.Texture.{given_single, given_many, from_held, many, entry}
use Rattle.std.specs.Option.{unwrap_or}
use Rattle.std.specs.Prelude.{◌-◌, ◌≡◌, ◌∷◌}
use Rattle.set_storage.specs.{declared.stored.Stored.Stored, Storage.{numbers_of, flags_of, list_from}, Slots.{held_many, held_single}}
use Rattle.set_storage.specs.{Texture.texture_mips, Stored.{HeldAs, held_in, ranges_of, word_of}, Uses.{piece, use_of}}
use Rattle.texture_barrier.specs.{declared.transition.Task.Task, Entries.entries_at, Mips.mips_entries}
use Rattle.texture_barrier.specs.Steps.{to_state, from_state, within, against, step_entries}
use Rattle.texture_barrier.specs.Textures.{barrier_at, task_of}
use Rattle.texture_barrier.specs.Textures.{single_to_state, many_to_state, single_to_piece, many_to_piece, single_to_many, many_to_many}

-- its word against COMPLEX, and as the code read the two
abbrev pub IsMany : Stored → Type 0
IsMany s = word_of s ≡ (flags_of s.table.now).complex

module _ (s : Stored) {f : UsageFlags} {w : ℕ} (e : f ≡ flags_of s.table.now) (v : w ≡ word_of s) where
  pub told_many : w ≡ f.complex → IsMany s
  told_many z = rw (e, v) at z

  pub told_single : (w ≡ f.complex → ⊥) → IsMany s → ⊥
  told_single n z = n (rw (e, v) z)

-- the ranges of a Many texture, as many mips as its extent has
is_many_lem : (s : Stored) {sh : Extent} → HeldAs s sh → IsMany s → held_in s ≡ many (list_from (ranges_of s) 0 sh.mips)
is_many_lem s {sh} q c =
    held_many (numbers_of s.table.now) s.half s.table.now s.ranges.now s.i (list_from (ranges_of s) 0 sh.mips) c
    (rw (texture_mips q.ready))

-- s is held, and k is what stays the same while its transitions are logged
module _ (s : Stored) {sh : Extent} (q : HeldAs s sh) (p : UsageFlags) (mask : ℕ) {k : Task} (same : k ≡ task_of s.i p mask) where
  -- ---- a state is given: of all of the texture, or of what a selector names
  pub use_single : (part : Option Selector) (new : ℕ) {w : ℕ} {x : Selector} → (IsMany s → ⊥) → w ≡ word_of s
      → x ≡ unwrap_or part (full sh)
      → barrier_at p mask sh s (use_of part new) ≡ entries_at k.index.0 (entry x (move_of k.unknown k.mask w new))
  use_single part new c v y = rw (same, v, y) (go part)
    where
      go : (o : Option Selector) → barrier_at p mask sh s (use_of o new)
          ≡ entries_at s.i (entry (unwrap_or o (full sh)) (move_of p.unknown mask (word_of s) new))
      go None =
          rw (held_single (numbers_of s.table.now) s.half s.table.now s.ranges.now s.i c)
          (ap (entries_at s.i) (single_to_state p mask sh (word_of s) new))
      go (Some z) =
          rw (held_single (numbers_of s.table.now) s.half s.table.now s.ranges.now s.i c)
          (ap (entries_at s.i) (single_to_piece p mask sh (word_of s) new z))

  module _ (c : IsMany s) (new : ℕ) where
    pub all_many : barrier_at p mask sh s (given_single new)
        ≡ entries_at k.index.0 (mips_entries (step_entries (to_state new k.unknown k.mask)) (ranges_of s) 0 sh.mips)
    all_many =
        let n : sh.mips - 0 ≡ sh.mips = omega arith in
        rw (same, is_many_lem s q c, n) (ap (entries_at s.i) (many_to_state p mask sh (list_from (ranges_of s) 0 sh.mips) new))

    pub part_many : (x : Selector) → SelectorWithin sh x
        → barrier_at p mask sh s (given_many (piece x new ∷ []))
        ≡ entries_at k.index.0 (mips_entries (step_entries (within (range (layer_start x) (layer_end x) new) k.unknown k.mask))
        (ranges_of s) (mip_start x) (mip_end x))
    part_many x w =
        rw (same, is_many_lem s q c)
        (ap (entries_at s.i) (many_to_piece p mask sh (ranges_of s) sh.mips new x (omega (arith, w.order)) w.in_mips))

-- ---- a texture g is given
module _ (s : Stored) {sh : Extent} (q : HeldAs s sh) (p : UsageFlags) (mask : ℕ) (g : Stored) (w : HeldAs g sh) where
  pub given_single_lem : {new : ℕ} → (IsMany g → ⊥) → new ≡ word_of g
      → barrier_at p mask sh s (from_held (held_in g)) ≡ barrier_at p mask sh s (given_single new)
  given_single_lem c v = rw (held_single (numbers_of g.table.now) g.half g.table.now g.ranges.now g.i c, v)

  module _ {k : Task} (same : k ≡ task_of s.i p mask) (c : IsMany g) where
    pub given_many_lem : IsMany s
        → barrier_at p mask sh s (from_held (held_in g))
        ≡ entries_at k.index.0 (mips_entries (step_entries (against (ranges_of s) k.unknown k.mask)) (ranges_of g) 0 sh.mips)
    given_many_lem e =
        let z : sh.mips - 0 ≡ sh.mips = omega arith in
        rw (same, is_many_lem g w c, is_many_lem s q e, z)
        (ap (entries_at s.i) (many_to_many p mask sh (ranges_of s) sh.mips (ranges_of g)))

    pub given_from : {cur : ℕ} → (IsMany s → ⊥) → cur ≡ word_of s
        → barrier_at p mask sh s (from_held (held_in g))
        ≡ entries_at k.index.0 (mips_entries (step_entries (from_state cur k.unknown k.mask)) (ranges_of g) 0 sh.mips)
    given_from e v =
        let z : sh.mips - 0 ≡ sh.mips = omega arith in
        rw (same, v, is_many_lem g w c, held_single (numbers_of s.table.now) s.half s.table.now s.ranges.now s.i e, z)
        (ap (entries_at s.i) (single_to_many p mask sh (word_of s) (list_from (ranges_of g) 0 sh.mips)))
