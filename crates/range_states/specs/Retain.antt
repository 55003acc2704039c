-- The Rust's `coalesce` drops every empty range once it joined any (`retain`); of ranges that are not empty it drops none.
use Rattle.std.specs.Prelude.{◌<◌, ◌≡◌, ◌&&◌, ◌∷◌, if◌then◌else◌}
use Rattle.model.specs.Prelude.{suc, arith, refl, Bool, true, false, false≢true, List, [], eqb, length, eqb-true}
use Rattle.model.specs.Prelude.{ne_eqb}
use Rattle.model.specs.{declared.Range.Range, RangedStates.{range, joins, coalesce_from, coalesce}}

-- `self.ranges.retain(|pair| pair.0.start != pair.0.end)`
unfoldable pub retained : List Range → List Range
retained [] = []
retained (r ∷ l) = if eqb r.start r.end then retained l else r ∷ retained l

-- the Rust's `coalesce`: `retain` where the count fell
unfoldable pub in_rust : List Range → List Range
in_rust l = if eqb (length (coalesce l)) (length l) then coalesce l else retained (coalesce l)

-- the first half of the Rust's `check_sanity`
abbrev pub Nonempty : List Range → Type 0
Nonempty [] = Unit {0}
Nonempty (r ∷ l) = (r.start < r.end) × Nonempty l

join_end : (a b : Range) → joins a b ≡ true → a.end ≡ b.start
join_end a b h = go (eqb a.end b.start) refl h
  where
    go : (t : Bool) → eqb a.end b.start ≡ t → (t && eqb a.state b.state) ≡ true → a.end ≡ b.start
    go true e g = eqb-true a.end b.start e
    go false e g = absurd (false≢true g)

retained_from : (cur : Range) (l : List Range) → cur.start < cur.end → Nonempty l → retained (coalesce_from cur l) ≡ coalesce_from cur l
unfolding retained coalesce_from
retained_from cur [] h s = rw (ne_eqb cur.start cur.end (λ e. omega arith))
retained_from cur (next ∷ l) h s =
    go (joins cur next) refl (retained_from (range cur.start next.end cur.state) l) (retained_from next l s.0 s.1)
  where
    go : (t : Bool) {longer : List Range} → joins cur next ≡ t → (cur.start < next.end → Nonempty l → retained longer ≡ longer)
        → retained (coalesce_from next l) ≡ coalesce_from next l
        → retained (if t then longer else cur ∷ coalesce_from next l) ≡ (if t then longer else cur ∷ coalesce_from next l)
    go true e i j = i (omega (arith, join_end cur next e, s.0)) s.1
    go false e i j = rw (ne_eqb cur.start cur.end (λ e. omega arith), j)

-- on ranges that are not empty the model's `coalesce` is the Rust's
pub rust_is : (l : List Range) → Nonempty l → in_rust l ≡ coalesce l
unfolding in_rust coalesce
rust_is [] s = refl
rust_is (r ∷ l) s = rw (retained_from r l s.0 s.1) (either (eqb (length (coalesce_from r l)) (suc (length l))) (coalesce_from r l))
  where
    either : (t : Bool) (x : List Range) → (if t then x else x) ≡ x
    either true x = refl
    either false x = refl
