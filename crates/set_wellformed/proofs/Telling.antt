-- What the words of an index tell of the whole test of it.
use Rattle.model.specs.Prelude.{ℕ, refl, sym, ◌∙◌, Bool, true, false, not, false≢true, List, eqb, get_or, eqb-true, eqb-false}
use Rattle.model.specs.Prelude.{not-true}
use Rattle.model.specs.{BoolLaws.{and_both as both, neither}, Base.every}
use Rattle.model.specs.WellFormed.{single_fits, held_fits, slot_fits, ends_fit}
use Rattle.std.specs.Prelude.{◌+◌, ◌<◌, ◌≡◌, ◌&&◌, ◌||◌}
use Rattle.set_storage.specs.Storage.{numbers_of, flags_of, extent_of, start_half, end_half, held_of, list_from}
use Rattle.set_storage.specs.Storage.{layer_limit_at, layers_at, mip_limit_at, mips_at, owned_at, textures_at, unknown_at}
use Rattle.set_storage.specs.{Storage.{scope_slot, tracker_slot}}
use Rattle.set_wellformed.specs.Parts.{Sized, is_many, mips_fit, extent_fits, every_at, every_also, scope_slot_fits}
use Rattle.set_wellformed.specs.Parts.{scope_slots_fit}
use Rattle.set_wellformed.specs.Unknowns.{itself, HalvesFit, ends_agree, tracker_slot_fits, tracker_slots_fit}
use Rattle.set_wellformed.specs.Words.{word_plain, scope_word_fits, tracker_word_fits}
use Rattle.set_wellformed.proofs.{Numbers.{extent_in}, Holding.{fits_many, fits_single}, Ends.ends_single}

by_case : (P : Type 0) (b : Bool) → (b ≡ true → P) → (b ≡ false → P) → P
by_case P true y n = y refl
by_case P false y n = n refl

-- both of a test that fails are none
twice : (a : Bool) → (not a && not a) ≡ false → a ≡ true
twice true e = refl
twice false e = absurd (false≢true (sym e))

-- ---- the words
module _ (t : List ℕ) where
  abbrev pub absent : ℕ → Bool
  absent i = eqb (get_or t (owned_at i) 0) 0

  abbrev pub extent : ℕ → Bool
  extent i = extent_fits (get_or t mip_limit_at 0) (get_or t layer_limit_at 0) (get_or t (mips_at i) 0) (get_or t (layers_at i) 0)

  abbrev single : ℕ → ℕ → Bool
  single h i = single_fits (flags_of t) (get_or t (h + i) 0)

  abbrev held : ℕ → List ℕ → ℕ → Bool
  held h r i = held_fits (flags_of t) (extent_of t i) (held_of (numbers_of t) h t r i)

  held_is : (h : ℕ) (r : List ℕ) (i : ℕ) → is_many t h i ≡ false → single h i ≡ held h r i
  held_is h r i e = fits_single (flags_of t) (numbers_of t) h t r i (eqb-false _ _ e)

  extents : (i : ℕ) → i < get_or t textures_at 0 → extent i ≡ true → Sized t i
  extents i l e =
      let x = extent_in (get_or t mip_limit_at 0) (get_or t layer_limit_at 0) (get_or t (mips_at i) 0) (get_or t (layers_at i) 0) e in
      record { texture = l; top = x.0.high; some = x.1.low }

-- ---- a scope's index
module _ (t r : List ℕ) (i : ℕ) where
  -- what fits has words that fit
  pub scope_word : scope_slot_fits t r i ≡ true → scope_word_fits t i ≡ true
  scope_word f =
      by_case (scope_word_fits t i ≡ true) (absent t i) (λ e. rw e)
      (λ e. let x = both (extent t i) (held t start_half r i) (rw e at f) in
      by_case (scope_word_fits t i ≡ true) (is_many t start_half i)
      (λ m. rw (e, x.0, m))
      (λ m. rw (e, x.0, m, held_is t start_half r i m ∙ x.1)))

  -- words that fit are the whole test of an index that is not Many
  pub scope_plain : scope_word_fits t i ≡ true → word_plain start_half t i ≡ true → scope_slot_fits t r i ≡ true
  scope_plain f s =
      by_case (scope_slot_fits t r i ≡ true) (absent t i) (λ e. rw e)
      (λ e. by_case (scope_slot_fits t r i ≡ true) (is_many t start_half i)
      (λ m. absurd (false≢true (rw (e, m) at s)))
      (λ m. let x = both (extent t i) (single t start_half i && single t start_half i) (rw (e, m) at f) in
      let y = both (single t start_half i) (single t start_half i) x.1 in rw (e, x.0) (sym (held_is t start_half r i m) ∙ y.0)))

  module _ (f : scope_word_fits t i ≡ true) (p : word_plain start_half t i ≡ false) where
    owned_many : (absent t i ≡ false) × (is_many t start_half i ≡ true)
    owned_many =
        let x = neither (absent t i) (not (is_many t start_half i) && not (is_many t start_half i)) p in
        (x.0, twice (is_many t start_half i) x.1)

    many_extent : extent t i ≡ true
    many_extent = (both (extent t i) true (rw (owned_many.0, owned_many.1) at f)).0

    pub scope_extent : i < get_or t textures_at 0 → Sized t i
    scope_extent l = extents t i l many_extent

    -- and its ranges are the rest where it is
    pub scope_many : i < get_or t textures_at 0 → mips_fit (flags_of t) start_half t r i ≡ scope_slot_fits t r i
    scope_many l =
        rw (owned_many.0, many_extent)
        (fits_many (flags_of t) (numbers_of t) start_half t r i (eqb-true _ _ owned_many.1) (scope_extent l).top)

-- ---- a tracker's index
module _ (t s e : List ℕ) (i : ℕ) where
  abbrev agreed : Bool
  agreed = ends_agree (get_or t unknown_at 0) t s e i

  abbrev either : Bool
  either = is_many t start_half i || is_many t end_half i

  pub tracker_word : tracker_slot_fits t s e i ≡ true → tracker_word_fits t i ≡ true
  tracker_word f =
      by_case (tracker_word_fits t i ≡ true) (absent t i) (λ o. rw o)
      (λ o. let x = both (extent t i) (held t start_half s i && held t end_half e i && agreed) (rw o at f) in
      by_case (tracker_word_fits t i ≡ true) either
      (λ m. rw (o, x.0, m))
      (λ m. let n = neither (is_many t start_half i) (is_many t end_half i) m in
      let y = both (held t start_half s i && held t end_half e i) agreed x.1 in
      let z = both (held t start_half s i) (held t end_half e i) y.0 in
      rw (o, x.0, m, held_is t start_half s i n.0 ∙ z.0, held_is t end_half e i n.1 ∙ z.1)))

  module _ (f : tracker_word_fits t i ≡ true) where
    pub tracker_plain : word_plain end_half t i ≡ true → tracker_slot_fits t s e i ≡ true
    tracker_plain p =
        by_case (tracker_slot_fits t s e i ≡ true) (absent t i) (λ o. rw o)
        (λ o. let m = both (not (is_many t start_half i)) (not (is_many t end_half i)) (rw o at p) in
        let a = not-true (is_many t start_half i) m.0 in let b = not-true (is_many t end_half i) m.1 in
        let x = both (extent t i) (single t start_half i && single t end_half i) (rw (o, a, b) at f) in
        let y = both (single t start_half i) (single t end_half i) x.1 in
        let h : HalvesFit (flags_of t) t s e i =
        record { start = sym (held_is t start_half s i a) ∙ y.0; end = sym (held_is t end_half e i b) ∙ y.1 } in
        rw (o, x.0, h.start, h.end) (sym (ends_single h a b)))

-- ---- every index: one whose words do not fit decides, and so do words that fit where none is Many
pub not_every : (a b : Bool) → (b ≡ true → a ≡ true) → a ≡ false → false ≡ b
not_every a true f e = absurd (false≢true (sym e ∙ f refl))
not_every a false f e = refl

module _ (t : List ℕ) (n : ℕ) where
  module _ (r : List ℕ) where
    pub scope_not : every (scope_word_fits t) (list_from itself 0 n) ≡ false → false ≡ scope_slots_fit t r n
    scope_not =
        not_every (every (scope_word_fits t) (list_from itself 0 n)) (scope_slots_fit t r n)
        (every_also (slot_fits held_fits (numbers_of t) (flags_of t)) (scope_slot t r)
        (scope_word_fits t) itself n (λ i l. scope_word t r i))

    pub scope_all : every (scope_word_fits t) (list_from itself 0 n) ≡ true
        → every (word_plain start_half t) (list_from itself 0 n) ≡ true → true ≡ scope_slots_fit t r n
    scope_all f p =
        sym (every_also (scope_word_fits t) itself (slot_fits held_fits (numbers_of t) (flags_of t)) (scope_slot t r) n
        (λ i l g. scope_plain t r i g (every_at (word_plain start_half t) itself n i p l)) f)

  module _ (s e : List ℕ) where
    pub tracker_not : every (tracker_word_fits t) (list_from itself 0 n) ≡ false → false ≡ tracker_slots_fit t s e n
    tracker_not =
        not_every (every (tracker_word_fits t) (list_from itself 0 n)) (tracker_slots_fit t s e n)
        (every_also (slot_fits ends_fit (numbers_of t) (flags_of t)) (tracker_slot t s e) (tracker_word_fits t) itself n
        (λ i l. tracker_word t s e i))

    pub tracker_all : every (tracker_word_fits t) (list_from itself 0 n) ≡ true
        → every (word_plain end_half t) (list_from itself 0 n) ≡ true → true ≡ tracker_slots_fit t s e n
    tracker_all f p =
        sym (every_also (tracker_word_fits t) itself (slot_fits ends_fit (numbers_of t) (flags_of t)) (tracker_slot t s e) n
        (λ i l g. tracker_plain t s e i g (every_at (word_plain end_half t) itself n i p l)) f)
