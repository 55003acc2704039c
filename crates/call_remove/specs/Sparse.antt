-- The model's sparse call: what one listed index leaves of the sets, and its log from the sets at entry.
use Rattle.model.specs.Prelude.{ℕ, zero, suc, ℕ_discrete, refl, ap, ◌∙◌, inl, inr, Bool, true, false, false≢true, List, [], get_or, set}
use Rattle.model.specs.Prelude.{get_or-set_other}
use Rattle.model.specs.{declared.InvalidUse.InvalidUse, Representation.Ends, Sets.{Slot, empty_slot, slot_at}}
use Rattle.model.specs.{Calls.{Indexed, CallResult, log_slot, no_ends, sparse_one, sparse_all}, Texture.{Held, Entry, from_held, ranged}}
use Rattle.model.specs.BoolLaws.{by_test, by_test₂}
use Rattle.std.specs.Prelude.{◌≡◌, ◌⊎◌, ◌∷◌, ◌++◌, if◌then◌else◌}
use Rattle.agreement.specs.LogBound.{listed}
use Rattle.call_remove.specs.{Removed.Both, Once.{not_listed, is_listed, each_once}}

-- what the call gives
abbrev BothResult : Type 0
BothResult = CallResult InvalidUse (List Entry) Both

-- the slot of an index in the tracker
abbrev pub into : Both → ℕ → Slot (Ends Held)
into ts i = slot_at (no_ends ranged) ts.0.set i

-- and in the scope
abbrev pub given : Both → ℕ → Slot Held
given ts i = slot_at (ranged.fresh 0) ts.1 i

-- the log of index i
abbrev pub taken_log : Both → ℕ → List (Indexed (List Entry))
taken_log ts i = if (given ts i).owned
    then log_slot ranged ts.0.set.flags ts.0.mask (given ts i).extent (from_held (given ts i).held) i (into ts i) else []

-- ---- What index i leaves
-- an unowned slot is written, or the list has none there
set_unowned : (l : List (Slot Held)) (i : ℕ) (d v : Slot Held) → d.owned ≡ false → v.owned ≡ false → (get_or (set l i v) i d).owned ≡ false
set_unowned [] i d v a b = a
set_unowned (x ∷ l) zero d v a b = b
set_unowned (x ∷ l) (suc i) d v a b = set_unowned l i d v a b

module _ (ts : Both) (i : ℕ) where
  -- the sets after it
  abbrev next : Both
  next = (sparse_one ranged i ts).after

  -- its log
  one_log : (sparse_one ranged i ts).log ≡ taken_log ts i
  one_log = by_test₂ (λ (o : BothResult) (l : List (Indexed (List Entry))). o.log ≡ l) (given ts i).owned (λ e. refl) (λ e. refl)

  -- the flags and the mask stay
  one_flags : next.0.set.flags ≡ ts.0.set.flags
  one_flags = by_test (λ (o : BothResult). o.after.0.set.flags ≡ ts.0.set.flags) (given ts i).owned (λ e. refl) (λ e. refl)

  one_mask : next.0.mask ≡ ts.0.mask
  one_mask = by_test (λ (o : BothResult). o.after.0.mask ≡ ts.0.mask) (given ts i).owned (λ e. refl) (λ e. refl)

  -- the slots of other indices stay
  one_into : (j : ℕ) → (j ≡ i → ⊥) → into next j ≡ into ts j
  one_into j ne =
      by_test (λ (o : BothResult). into o.after j ≡ into ts j) (given ts i).owned
      (λ e. get_or-set_other ts.0.set.slots i j _ (empty_slot (no_ends ranged)) ne) (λ e. refl)

  one_given : (j : ℕ) → (j ≡ i → ⊥) → given next j ≡ given ts j
  one_given j ne =
      by_test (λ (o : BothResult). given o.after j ≡ given ts j) (given ts i).owned
      (λ e. get_or-set_other ts.1.slots i j _ (empty_slot (ranged.fresh 0)) ne) (λ e. refl)

  -- "the scope then owns it no more"
  one_gone : (given next i).owned ≡ false
  one_gone =
      by_test (λ (o : BothResult). (given o.after i).owned ≡ false) (given ts i).owned
      (λ e. set_unowned ts.1.slots i (empty_slot (ranged.fresh 0)) _ refl refl) (λ e. e)

-- ---- The indices in `seen` are taken, and the others are as they were
record Took (was : Both) (seen : List ℕ) (ts : Both) : Type 0 where
  flags : ts.0.set.flags ≡ was.0.set.flags
  mask : ts.0.mask ≡ was.0.mask
  into_same : (j : ℕ) → listed j seen ≡ false → into ts j ≡ into was j
  given_same : (j : ℕ) → listed j seen ≡ false → given ts j ≡ given was j
  gone : (j : ℕ) → listed j seen ≡ true → (given ts j).owned ≡ false

-- none is taken
took_none : (ts : Both) → Took ts [] ts
took_none ts = record { flags = refl; mask = refl; into_same = λ j e. refl; given_same = λ j e. refl; gone = λ j e. absurd (false≢true e) }

module _ {was ts : Both} {seen : List ℕ} (q : Took was seen ts) (i : ℕ) where
  -- one more
  took_more : Took was (seen ++ (i ∷ [])) (next ts i)
  took_more = record {
    flags = one_flags ts i ∙ q.flags;
    mask = one_mask ts i ∙ q.mask;
    into_same = λ j e. let w = not_listed seen i j e in one_into ts i j w.1 ∙ q.into_same j w.0;
    given_same = λ j e. let w = not_listed seen i j e in one_given ts i j w.1 ∙ q.given_same j w.0;
    gone = λ j e. away j (is_listed seen i j e);
  }
    where
      apart : (j : ℕ) → listed j seen ≡ true → Dec (j ≡ i) → (given (next ts i) j).owned ≡ false
      apart j e (yes z) = rw z (one_gone ts i)
      apart j e (no z) = ap (λ (x : Slot Held). x.owned) (one_given ts i j z) ∙ q.gone j e

      away : (j : ℕ) → (listed j seen ≡ true) ⊎ (j ≡ i) → (given (next ts i) j).owned ≡ false
      away j (inl e) = apart j e (ℕ_discrete j i)
      away j (inr z) = rw z (one_gone ts i)

  -- what index i logs: nothing where it is taken, otherwise as at entry
  took_log : (sparse_one ranged i ts).log ≡ (if listed i seen then [] else taken_log was i)
  took_log = one_log ts i ∙ go (listed i seen) refl
    where
      go : (b : Bool) → listed i seen ≡ b → taken_log ts i ≡ (if b then [] else taken_log was i)
      go true e = rw (q.gone i e)
      go false e = rw (q.flags, q.mask, q.into_same i e, q.given_same i e)

-- the log of what is left of the list
log_from : (was : Both) (is seen : List ℕ) (ts : Both) → Took was seen ts
    → (sparse_all ranged is ts).log ≡ each_once (taken_log was) seen is
unfolding each_once
log_from was [] seen ts q = refl
log_from was (i ∷ is) seen ts q = rw (took_log q i, log_from was is (seen ++ (i ∷ [])) (next ts i) (took_more q i))

-- THE LOG, from the sets at entry
pub sparse_log : (ts : Both) (is : List ℕ) → (sparse_all ranged is ts).log ≡ each_once (taken_log ts) [] is
sparse_log ts is = log_from ts is [] ts (took_none ts)
