-- Uses fit just where their union is compatible; and the usage flags' rule beside WebGPU's own.
use Rattle.model.specs.Prelude.{ℕ, arith, refl, sym, ap, ◌∙◌, Bool, true, false, not, and-eq-true_iff, List, [], map, eqb, bit_and, bit_or}
use Rattle.model.specs.Prelude.{or_zero_l, or_zero_r, or_comm, or_self, or_lt, eqb-true, eqb-false, eq-eqb, ne_eqb}
use Rattle.model.specs.{declared.UsageFlags.UsageFlags, Base.{every, All}, Flags.{meets, one_bit, incompatible}}
use Rattle.std.specs.Prelude.{◌<◌, ◌≡◌, ◌&&◌, ◌||◌, ◌∷◌, ◌++◌}
use Rattle.std.specs.Int.Count.{ones_in}
use Rattle.agreement.specs.WebGpu.{Renders, Usage, input, constant, storage, storage_read, attachment, attachment_read, reads, is_storage}
use Rattle.agreement.specs.WebGpu.{is_attachment, one_element, compatible_list, same_bit, uses_fit}
use Rattle.usage.specs.BitLaws.{and_or, or_zero, or_assoc, in_one_bit}

-- a use as it passes the checks: of sixteen bits, nonzero, without UNKNOWN
pub record UseFits (p : UsageFlags) (st : ℕ) : Type 0 where
  pub nonzero : st ≡ 0 → ⊥
  pub word : st < 65536
  pub known : bit_and st p.unknown ≡ 0

abbrev pub union_of : List ℕ → ℕ
union_of [] = 0
union_of (s ∷ us) = bit_or s (union_of us)

pub union_append : (x y : List ℕ) → union_of (x ++ y) ≡ bit_or (union_of x) (union_of y)
union_append [] y = sym (or_zero_l (union_of y))
union_append (s ∷ x) y = rw (union_append x y) (sym (or_assoc s (union_of x) (union_of y)))

union_word : (p : UsageFlags) (us : List ℕ) → All (UseFits p) us → union_of us < 65536
union_word p [] t = omega arith
union_word p (s ∷ us) t = or_lt 16 s (union_of us) t.0.word (union_word p us t.1)

-- none meets EXCLUSIVE just where the union does not
none_exclusive : (p : UsageFlags) (us : List ℕ) → every (λ s. not (meets s p.exclusive)) us ≡ not (meets (union_of us) p.exclusive)
none_exclusive p [] = refl
none_exclusive p (s ∷ us) = rw (and_or s (union_of us) p.exclusive, none_exclusive p us)
    (go (bit_and s p.exclusive) (bit_and (union_of us) p.exclusive))
  where
    go : (a b : ℕ) → not (not (eqb a 0)) && not (not (eqb b 0)) ≡ not (not (eqb (bit_or a b) 0))
    go a b = by (eqb a 0) refl (eqb b 0) refl
      where
        by : (x : Bool) → eqb a 0 ≡ x → (y : Bool) → eqb b 0 ≡ y → not (not x) && not (not y) ≡ not (not (eqb (bit_or a b) 0))
        by true e true f = rw (eqb-true a 0 e, eqb-true b 0 f)
        by true e false f = rw (ne_eqb (bit_or a b) 0 (λ z. eqb-false b 0 f (or_zero a b z).1))
        by false e y f = rw (ne_eqb (bit_or a b) 0 (λ z. eqb-false a 0 e (or_zero a b z).0))

-- uses in one bit are all that bit
all_that : (p : UsageFlags) (us : List ℕ) (u b : ℕ) → ones_in 16 u ≡ 1 → u < 65536 → bit_or b (union_of us) ≡ u → All (UseFits p) us
    → every (λ x. eqb x u) us ≡ true
all_that p [] u b o w e t = refl
all_that p (s ∷ us) u b o w e t =
    let a : bit_or s (bit_or b (union_of us)) ≡ u = sym (or_assoc s b (union_of us)) ∙ ap (λ (x : ℕ). bit_or x (union_of us)) (or_comm s b)
    ∙ or_assoc b s (union_of us) ∙ e in
    let q = in_one_bit 16 u s (bit_or b (union_of us)) o w a t.0.nonzero in
    let r = all_that p us u (bit_or b s) o w (or_assoc b s (union_of us) ∙ e) t.1 in
    rw (eq-eqb s u q, r)

same_union : (s : ℕ) (us : List ℕ) → every (λ x. eqb x s) us ≡ true → bit_or s (union_of us) ≡ s
same_union s [] e = or_zero_r s
same_union s (x ∷ us) e =
    let h = (and-eq-true_iff (eqb x s) (every (λ x. eqb x s) us)).0 e in
    rw (eqb-true x s h.0, ← or_assoc s s (union_of us), or_self s) (same_union s us h.1)

-- where the union meets EXCLUSIVE, the uses are one same bit just where the union has one bit
same_bit_lem : (p : UsageFlags) (us : List ℕ) → All (UseFits p) us → meets (union_of us) p.exclusive ≡ true
    → same_bit us ≡ one_bit (union_of us)
same_bit_lem p [] t e = absurd (let d : ◌≡◌ {A = ℕ} 0 1 = cc in omega arith)
same_bit_lem p (s ∷ us) t e = go (one_bit (bit_or s (union_of us))) refl
  where
    w : bit_or s (union_of us) < 65536
    w = or_lt 16 s (union_of us) t.0.word (union_word p us t.1)

    go : (b : Bool) → one_bit (bit_or s (union_of us)) ≡ b → one_bit s && every (λ x. eqb x s) us ≡ b
    go true o =
        let one = eqb-true _ _ o in let q = in_one_bit 16 (bit_or s (union_of us)) s (union_of us) one w refl t.0.nonzero in
        let r = all_that p us (bit_or s (union_of us)) s one w refl t.1 in let r' : every (λ x. eqb x s) us ≡ true = rw (← q) at r in
        let o' : one_bit s ≡ true = rw (← q) at o in
        rw (o', r')
    go false o = other (one_bit s) refl (every (λ x. eqb x s) us) refl
      where
        other : (a : Bool) → one_bit s ≡ a → (b : Bool) → every (λ x. eqb x s) us ≡ b → a && b ≡ false
        other true f true g = absurd (let h = same_union s us g in let z : ◌≡◌ {A = Bool} true false = sym f ∙ (rw h at o) in
            let y : ◌≡◌ {A = ℕ} 0 1 = cc in omega arith)
        other true f false g = refl
        other false f b g = refl

pub fits_union : (p : UsageFlags) (us : List ℕ) → All (UseFits p) us → uses_fit p us ≡ not (incompatible p (union_of us))
unfolding uses_fit incompatible
fits_union p us t = rw (none_exclusive p us) (go (meets (union_of us) p.exclusive) refl)
  where
    go : (b : Bool) → meets (union_of us) p.exclusive ≡ b → not b || same_bit us ≡ not (b && not (one_bit (union_of us)))
    go true e = rw (same_bit_lem p us t e) (back (one_bit (union_of us)))
      where
        back : (x : Bool) → x ≡ not (not x)
        back true = refl
        back false = refl
    go false e = refl

module _ (p : UsageFlags) (bit : Usage → ℕ) (R : Renders p bit) where
  reading_bit : (u : Usage) → reads u ≡ true → meets (bit u) p.exclusive ≡ false
  reading_bit u e = rw (R.reading u e)

  exclusive_bit : (u : Usage) → not (meets (bit u) p.exclusive) ≡ reads u
  exclusive_bit input = rw (reading_bit input refl)
  exclusive_bit constant = rw (reading_bit constant refl)
  exclusive_bit storage = rw R.storing
  exclusive_bit storage_read = rw (reading_bit storage_read refl)
  exclusive_bit attachment = rw R.attaching
  exclusive_bit attachment_read = rw (reading_bit attachment_read refl)

  none_writes : (us : List Usage) → every (λ s. not (meets s p.exclusive)) (map bit us) ≡ every reads us
  none_writes [] = refl
  none_writes (u ∷ us) = rw (exclusive_bit u, none_writes us)

  -- a reading bit is no writing one
  differs : (u w : Usage) → reads u ≡ true → reads w ≡ false → eqb (bit u) (bit w) ≡ false
  differs u w a b = ne_eqb (bit u) (bit w)
      (λ e. let x = exclusive_bit u in let y = exclusive_bit w in let z : ◌≡◌ {A = Bool} true false = sym a ∙ sym x
      ∙ (ap (λ (s : ℕ). not (meets s p.exclusive)) e) ∙ y ∙ b in let v : ◌≡◌ {A = ℕ} 0 1 = cc in omega arith)

  self : (u : Usage) → eqb (bit u) (bit u) ≡ true
  self u = eq-eqb (bit u) (bit u) refl

  is_storage_lem : (u : Usage) → eqb (bit u) (bit storage) ≡ is_storage u
  is_storage_lem input = differs input storage refl refl
  is_storage_lem constant = differs constant storage refl refl
  is_storage_lem storage = self storage
  is_storage_lem storage_read = differs storage_read storage refl refl
  is_storage_lem attachment = ne_eqb (bit attachment) (bit storage) (λ e. R.apart (sym e))
  is_storage_lem attachment_read = differs attachment_read storage refl refl

  is_attachment_lem : (u : Usage) → eqb (bit u) (bit attachment) ≡ is_attachment u
  is_attachment_lem input = differs input attachment refl refl
  is_attachment_lem constant = differs constant attachment refl refl
  is_attachment_lem storage = ne_eqb (bit storage) (bit attachment) R.apart
  is_attachment_lem storage_read = differs storage_read attachment refl refl
  is_attachment_lem attachment = self attachment
  is_attachment_lem attachment_read = differs attachment_read attachment refl refl

  all_storage : (us : List Usage) → every (λ x. eqb x (bit storage)) (map bit us) ≡ every is_storage us
  all_storage [] = refl
  all_storage (u ∷ us) = rw (is_storage_lem u, all_storage us)

  all_attachment : (us : List Usage) → every (λ x. eqb x (bit attachment)) (map bit us) ≡ every is_attachment us
  all_attachment [] = refl
  all_attachment (u ∷ us) = rw (is_attachment_lem u, all_attachment us)

  -- all uses of a reading bit read
  all_read : (u : Usage) → reads u ≡ true → (us : List Usage) → every (λ x. eqb x (bit u)) (map bit us) ≡ true → every reads us ≡ true
  all_read u r [] e = refl
  all_read u r (w ∷ us) e =
      let h = (and-eq-true_iff (eqb (bit w) (bit u)) (every (λ x. eqb x (bit u)) (map bit us))).0 e in
      let a : reads w ≡ true = sym (exclusive_bit w)
      ∙ ap (λ (s : ℕ). not (meets s p.exclusive)) (eqb-true (bit w) (bit u) h.0) ∙ exclusive_bit u ∙ r in
      rw (a, all_read u r us h.1)

  or_idle : (a b c : Bool) → (b ≡ true → a ≡ true) → a || (c && b) ≡ a || false || false || false
  or_idle true b c h = refl
  or_idle false true true h = sym (h refl)
  or_idle false true false h = refl
  or_idle false false true h = refl
  or_idle false false false h = refl

  and_off : (a : Bool) → a && false ≡ false
  and_off true = refl
  and_off false = refl

  absorb : (a b : Bool) → (b && a) || a ≡ a
  absorb true true = refl
  absorb true false = refl
  absorb false true = refl
  absorb false false = refl

  by_head : (u : Usage) (us : List Usage) → uses_fit p (map bit (u ∷ us)) ≡ compatible_list (u ∷ us) || every is_attachment (u ∷ us)
  unfolding uses_fit
  by_head input us = rw (none_writes (input ∷ us), and_off (one_element (input ∷ us)))
      (or_idle (every reads us) (every (λ x. eqb x (bit input)) (map bit us)) (one_bit (bit input)) (all_read input refl us))
  by_head constant us = rw (none_writes (constant ∷ us), and_off (one_element (constant ∷ us)))
      (or_idle (every reads us) (every (λ x. eqb x (bit constant)) (map bit us)) (one_bit (bit constant)) (all_read constant refl us))
  by_head storage us = rw (none_writes (storage ∷ us), and_off (one_element (storage ∷ us)), R.stores, all_storage us)
      (last (every is_storage us))
    where
      last : (a : Bool) → a ≡ a || false || false
      last true = refl
      last false = refl
  by_head storage_read us = rw (none_writes (storage_read ∷ us), and_off (one_element (storage_read ∷ us)))
      (or_idle (every reads us) (every (λ x. eqb x (bit storage_read)) (map bit us)) (one_bit (bit storage_read))
      (all_read storage_read refl us))
  by_head attachment us = rw (none_writes (attachment ∷ us), R.attaches, all_attachment us)
      (sym (absorb (every is_attachment us) (one_element (attachment ∷ us))))
  by_head attachment_read us = rw (none_writes (attachment_read ∷ us), and_off (one_element (attachment_read ∷ us)))
      (or_idle (every reads us) (every (λ x. eqb x (bit attachment_read)) (map bit us)) (one_bit (bit attachment_read))
      (all_read attachment_read refl us))

  -- the usage flags' rule is WebGPU's, but for several attachment uses, which fit here
  pub flags_rule : (us : List Usage) → uses_fit p (map bit us) ≡ compatible_list us || every is_attachment us
  unfolding uses_fit
  flags_rule [] = refl
  flags_rule (u ∷ us) = by_head u us
