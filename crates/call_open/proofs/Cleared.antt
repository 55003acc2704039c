-- The view of a table that was written by opening: no index is owned, and each state is UNINITIALIZED.
use Rattle.model.specs.Prelude.{ℕ, zero, suc, arith, refl, sym, ap, ◌∙◌, Bool, true, not, false≢true, Option, None, List, [], eqb, ltb}
use Rattle.model.specs.Prelude.{length, get_or, replicate, drop, length-set, length-drop, length-replicate, get_or-replicate}
use Rattle.model.specs.Prelude.{get_or-set_other, ext_get_or, sets-eq, eq-eqb}
use Rattle.model.specs.{declared.{UsageFlags.UsageFlags, Refusal.Refusal}, Flags.{is_bit, meets, apart, flags_fit}}
use Rattle.model.specs.Sets.{Numbers, Opening, empty_slot, open_set, open_tracker}
use Rattle.model.specs.{Refusals.{first_failing, opening_refusal, accepted, opens}, Log.{Outcome, verdict}, Texture.single}
use Rattle.model.specs.BoolLaws.{and_left, and_right, by_eq, by_lt}
use Rattle.std.proofs.lemmas.Grind.{get_or-set_at}
use Rattle.std.specs.Prelude.{◌≤◌, ◌<◌, ◌≡◌, ◌&&◌, ◌∷◌, if◌then◌else◌}
use Rattle.set_storage.specs.Storage.{numbers_of, flags_of, start_half, end_half, held_of, ends_of, slot_with, scope_of, tracker_of}
use Rattle.set_storage.specs.Storage.{list_from, textures_at, mip_limit_at, layer_limit_at, exclusive_at, uninitialized_at, complex_at}
use Rattle.set_storage.specs.Storage.{unknown_at, mask_at, owned_at, mips_at, layers_at, state_at, table_length}
use Rattle.set_storage.specs.{Lists.{list_long, list_at}, Slots.held_single}
use Rattle.call_open.specs.Open.{asked, headed, cleared_at, cleared, TableOpened}
use Rattle.agreement.proofs.OpeningLaws.{opened_numbers, opened_fits}
use Rattle.set_wellformed.proofs.Numbers.{numbers_in_lem}

-- what a number of a list is after one is written
ruleset one_written = (get_or-set_at, get_or-set_other, length-set)

-- ---- all that are cleared
cleared_long : (t : List ℕ) (u n : ℕ) → length (cleared t u n) ≡ length t
unfolding cleared
cleared_long t u zero = refl
cleared_long t u (suc k) = simp length-set (cleared_long t u k)

-- a word of the head, before the first word of ownership
cleared_head : (t : List ℕ) (u n x : ℕ) → x < owned_at 0 → get_or (cleared t u n) x 0 ≡ get_or t x 0
unfolding cleared
cleared_head t u zero x h = refl
cleared_head t u (suc k) x h = let z = cleared_head t u k x h in grind (arith, one_written, z)

-- one of an index's five words, which those of another index do not meet
module _ (t : List ℕ) (u v : ℕ) (at : ℕ → ℕ) (long : length t ≡ table_length)
    (here : (l : List ℕ) (k : ℕ) → k < 64 → length l ≡ table_length → get_or (cleared_at l u k) (at k) 0 ≡ v)
    (far : (l : List ℕ) (k i : ℕ) → k < 64 → i < 64 → (i ≡ k → ⊥) → get_or (cleared_at l u k) (at i) 0 ≡ get_or l (at i) 0) where
  cleared_word : (n i : ℕ) → n ≤ 64 → i < n → get_or (cleared t u n) (at i) 0 ≡ v
  unfolding cleared
  cleared_word zero i m h = absurd (omega arith)
  cleared_word (suc k) i m h =
      by_eq i k
      (λ e. rw e (here (cleared t u k) k (omega arith) (cleared_long t u k ∙ long)))
      (λ ne. far (cleared t u k) k i (omega arith) (omega arith) ne
      ∙ cleared_word k i (omega arith) (by_lt i k (λ q. q) (λ q. absurd (ne (omega arith)))))

-- ---- the flags that fit have UNINITIALIZED apart from COMPLEX
fourth : (a b c d e f g h : Bool) → a && b && c && d && e && f && g && h ≡ true → d ≡ true
fourth a b c d e f g h q = and_right (a && b && c) d (and_left _ e (and_left _ f (and_left _ g (and_left _ h q))))

flags_apart : (p : UsageFlags) → flags_fit p ≡ true → p.uninitialized ≡ p.complex → ⊥
unfolding flags_fit
flags_apart p e z =
    let differ = fourth (ltb p.exclusive 65536) (is_bit p.uninitialized) (is_bit p.complex)
    (not (eqb p.uninitialized p.complex))
    (not (eqb p.uninitialized p.unknown)) (not (eqb p.complex p.unknown)) (not (meets p.complex p.exclusive))
    (not (meets p.unknown p.exclusive)) (and_right (is_bit p.unknown) (apart p) e) in
    false≢true (rw (eq-eqb p.uninitialized p.complex z) at differ)

-- ---- the view
module _ (t : List ℕ) (n m w : ℕ) (p : UsageFlags) (mask : ℕ) (long : length t ≡ table_length) (few : n ≤ 64)
    (fit : flags_fit p ≡ true) where
  abbrev h : List ℕ
  h = headed t n m w p mask

  abbrev t' : List ℕ
  t' = cleared h p.uninitialized n

  abbrev d : Numbers
  d = record { textures = n; mips = m; layers = w }

  head_is : h ≡ n ∷ m ∷ w ∷ p.exclusive ∷ p.uninitialized ∷ p.complex ∷ p.unknown ∷ mask ∷ drop (owned_at 0) t
  head_is = sets-eq (n ∷ m ∷ w ∷ p.exclusive ∷ p.uninitialized ∷ p.complex ∷ p.unknown ∷ mask ∷ []) t 0 (omega arith)

  head_long : length h ≡ table_length
  head_long = ap length head_is ∙ simp length-drop (omega arith)

  word : (x v : ℕ) → x < owned_at 0
      → get_or (n ∷ m ∷ w ∷ p.exclusive ∷ p.uninitialized ∷ p.complex ∷ p.unknown ∷ mask ∷ drop (owned_at 0) t) x 0 ≡ v → get_or t' x 0 ≡ v
  word x v q e = cleared_head h p.uninitialized n x q ∙ ap (λ (l : List ℕ). get_or l x 0) head_is ∙ e

  numbers_are : numbers_of t' ≡ d
  numbers_are = rw (word textures_at n (omega arith) refl, word mip_limit_at m (omega arith) refl, word layer_limit_at w (omega arith) refl)

  flags_are : flags_of t' ≡ p
  flags_are = rw (
    word exclusive_at p.exclusive (omega arith) refl,
    word uninitialized_at p.uninitialized (omega arith) refl,
    word complex_at p.complex (omega arith) refl,
    word unknown_at p.unknown (omega arith) refl,
  )

  mask_is : get_or t' mask_at 0 ≡ mask
  mask_is = word mask_at mask (omega arith) refl

  module _ (i : ℕ) (q : i < n) where
    owned_at_lem : get_or t' (owned_at i) 0 ≡ 0
    owned_at_lem = cleared_word h p.uninitialized 0 owned_at head_long (λ l k a b. grind (arith, one_written))
        (λ l k j a b ne. grind (arith, one_written)) n i few q

    mips_at_lem : get_or t' (mips_at i) 0 ≡ 0
    mips_at_lem = cleared_word h p.uninitialized 0 mips_at head_long (λ l k a b. grind (arith, one_written))
        (λ l k j a b ne. grind (arith, one_written)) n i few q

    layers_at_lem : get_or t' (layers_at i) 0 ≡ 0
    layers_at_lem = cleared_word h p.uninitialized 0 layers_at head_long (λ l k a b. grind (arith, one_written))
        (λ l k j a b ne. grind (arith, one_written)) n i few q

    start_at : get_or t' (state_at start_half i) 0 ≡ p.uninitialized
    start_at = cleared_word h p.uninitialized _ (state_at start_half) head_long (λ l k a b. grind (arith, one_written))
        (λ l k j a b ne. grind (arith, one_written)) n i few q

    end_at : get_or t' (state_at end_half i) 0 ≡ p.uninitialized
    end_at = cleared_word h p.uninitialized _ (state_at end_half) head_long (λ l k a b. grind (arith, one_written))
        (λ l k j a b ne. grind (arith, one_written)) n i few q

    -- a half whose word is UNINITIALIZED
    held_at : (b : ℕ) (r : List ℕ) → get_or t' (state_at b i) 0 ≡ p.uninitialized → held_of d b t' r i ≡ single p.uninitialized
    held_at b r e = held_single d b t' r i (λ z. flags_apart p fit (sym e ∙ z ∙ word complex_at _ (omega arith) refl)) ∙ ap single e

  slots_are : {H : Type 0} (held : ℕ → H) (x : H) → ((i : ℕ) → i < n → held i ≡ x)
      → list_from (slot_with held t') 0 n ≡ replicate n (empty_slot x)
  slots_are held x e =
      ext_get_or (empty_slot x) (list_from (slot_with held t') 0 n) (replicate n (empty_slot x)) (list_long (slot_with held t') 0 n
      ∙ sym (length-replicate n (empty_slot x)))
      (λ i l. let q : i < n = omega (arith, list_long (slot_with held t') 0 n) in
      let y : slot_with held t' i ≡ empty_slot x = rw (owned_at_lem i q, mips_at_lem i q, layers_at_lem i q, e i q) in
      list_at (slot_with held t') n i (empty_slot x) q ∙ y ∙ sym (get_or-replicate n i (empty_slot x) (empty_slot x) q))

  scope_opened : (r : List ℕ) (room : ℕ) → scope_of t' r ≡ open_set single (asked n m w p mask room)
  unfolding scope_of
  scope_opened r room =
      rw (
        numbers_are,
        flags_are,
        word textures_at n (omega arith) refl,
        slots_are (held_of d start_half t' r) (single p.uninitialized) (λ i q. held_at i q start_half r (start_at i q)),
      )

  tracker_opened : (s e : List ℕ) (room : ℕ) → tracker_of t' s e ≡ open_tracker single (asked n m w p mask room)
  unfolding tracker_of
  tracker_opened s e room =
      rw (
        mask_is,
        numbers_are,
        flags_are,
        word textures_at n (omega arith) refl,
        slots_are (ends_of d t' s e) (record { start = single p.uninitialized; end = single p.uninitialized })
            (λ i q. rw (held_at i q start_half s (start_at i q), held_at i q end_half e (end_at i q))),
      )

-- ---- what the answer says of the opening
opened_few : (o : Opening) → opens o ≡ true → o.numbers.textures ≤ 64
opened_few o e = (numbers_in_lem o.numbers.textures o.numbers.mips o.numbers.layers (opened_numbers o e)).textures.high

pub few_of : (n m w : ℕ) (p : UsageFlags) (mask room : ℕ) → opening_refusal (asked n m w p mask room) ≡ None → n ≤ 64
few_of n m w p mask room e = opened_few (asked n m w p mask room) (ap accepted e)

-- ---- a table that is opened, or refused: the mask is not looked at
pub table_opened : (t : List ℕ) (n m w : ℕ) (p : UsageFlags) (mask room : ℕ) → length t ≡ table_length → (x : Option Refusal)
    → opening_refusal (asked n m w p 0 room) ≡ x
    → TableOpened t n m w p mask room (verdict x) (if accepted x then cleared (headed t n m w p mask) p.uninitialized n else t)
unfolding opening_refusal first_failing
table_opened t n m w p mask room long x q =
    let o : opens (asked n m w p mask room) ≡ accepted x = ap accepted q in
    record { long = long; answer = sym (ap verdict q); content = rw o }

-- what is opened, seen as a scope or as a tracker
module _ {t t' : List ℕ} {n m w : ℕ} {p : UsageFlags} {mask room : ℕ} {x : Outcome} (b : TableOpened t n m w p mask room x t')
    (o : opens (asked n m w p mask room) ≡ true) where
  written : t' ≡ cleared (headed t n m w p mask) p.uninitialized n
  written = rw o at b.content

  pub opened_scope : (r : List ℕ) → scope_of t' r ≡ open_set single (asked n m w p mask room)
  opened_scope r = rw written (scope_opened t n m w p mask b.long (opened_few _ o) (opened_fits _ o) r room)

  pub opened_tracker : (s e : List ℕ) → tracker_of t' s e ≡ open_tracker single (asked n m w p mask room)
  opened_tracker s e = rw written (tracker_opened t n m w p mask b.long (opened_few _ o) (opened_fits _ o) s e room)
