-- Words that every definition uses: lists made element by element, and a walk that stops.
use Rattle.std.specs.Prelude.{◌&&◌, ◌∷◌, ◌++◌}
use Rattle.model.specs.Prelude.{ℕ, suc, Bool, true, Option, None, Some, List, []}

-- ---- Lists, element by element
-- what each element makes, one after the other
abbrev pub each : {A B : Type 0} → (A → List B) → List A → List B
each f [] = []
each f (x ∷ s) = f x ++ each f s

-- the same with the element's position, counted from k
abbrev pub each_at : {A B : Type 0} → (ℕ → A → List B) → ℕ → List A → List B
each_at f k [] = []
each_at f k (x ∷ s) = f k x ++ each_at f (suc k) s

-- the same with its partner in a second list, as far as both go
abbrev pub each_at₂ : {A B D : Type 0} → (ℕ → A → B → List D) → ℕ → List A → List B → List D
each_at₂ f k [] t = []
each_at₂ f k (a ∷ s) [] = []
each_at₂ f k (a ∷ s) (b ∷ t) = f k a b ++ each_at₂ f (suc k) s t

-- two lists in pairs, as far as both go
abbrev pub zip₂ : {A B D : Type 0} → (A → B → D) → List A → List B → List D
zip₂ f [] t = []
zip₂ f (a ∷ s) [] = []
zip₂ f (a ∷ s) (b ∷ t) = f a b ∷ zip₂ f s t

-- three lists in triples, as far as all go
abbrev pub zip₃ : {A B D E : Type 0} → (A → B → D → E) → List A → List B → List D → List E
zip₃ f [] t v = []
zip₃ f (a ∷ s) [] v = []
zip₃ f (a ∷ s) (b ∷ t) [] = []
zip₃ f (a ∷ s) (b ∷ t) (d ∷ v) = f a b d ∷ zip₃ f s t v

-- f at each element that has a partner; the others stay
abbrev pub over₂ : {A B : Type 0} → (ℕ → A → B → A) → ℕ → List A → List B → List A
over₂ f k [] t = []
over₂ f k (a ∷ s) [] = a ∷ s
over₂ f k (a ∷ s) (b ∷ t) = f k a b ∷ over₂ f (suc k) s t

-- each element passes a test
abbrev pub every : {A : Type 0} → (A → Bool) → List A → Bool
every f [] = true
every f (x ∷ s) = f x && every f s

-- ---- A walk that stops at the first conflict: what was done before it stays, and the rest is as it was
-- what a walk has come to, and the conflict that stopped it, if one did
pub record Stop (C A : Type 0) : Type 0 where
  pub value : A
  pub conflict : Option C

-- a walk that met no conflict
abbrev pub fine : {C A : Type 0} → A → Stop C A
fine a = record { value = a; conflict = None }

-- a walk that a conflict stopped
abbrev pub stopped : {C A : Type 0} → A → C → Stop C A
stopped a c = record { value = a; conflict = Some c }

-- what a rule makes of a thing: it anew, or as it was with a conflict
abbrev pub ruled : {C A : Type 0} → A → C → Option A → Stop C A
ruled was c None = stopped was c
ruled was c (Some x) = fine x

-- one thing after another, unless the first met a conflict
abbrev pub and_then : {C A : Type 0} → Option C → A → Stop C A → Stop C A
and_then None x next = next
and_then (Some c) x next = stopped x c

-- on a conflict it is as it was
abbrev pub or_keep : {C A : Type 0} → Option C → A → A → Stop C A
or_keep None was x = fine x
or_keep (Some c) was x = stopped was c

-- one thing that takes several in turn
abbrev pub passes : {C Q S : Type 0} → (Q → S → Stop C S) → List Q → S → Stop C S
passes f [] s = fine s
passes f (q ∷ qs) s = let w = f q s in and_then w.conflict w.value (passes f qs w.value)

-- the rest of a list, `worked` on or as it `was`
abbrev pub onward : {C A : Type 0} → A → Option C → List A → Stop C (List A) → Stop C (List A)
onward x None was worked = record { value = x ∷ worked.value; conflict = worked.conflict }
onward x (Some c) was worked = record { value = x ∷ was; conflict = Some c }

-- each element in turn, with its position, up to the first conflict
abbrev pub walk : {C A : Type 0} → (ℕ → A → Stop C A) → ℕ → List A → Stop C (List A)
walk f k [] = fine []
walk f k (x ∷ s) = let r = f k x in onward r.value r.conflict s (walk f (suc k) s)

-- the same over two lists side by side; what has no partner stays
abbrev pub walk₂ : {C A B : Type 0} → (ℕ → A → B → Stop C A) → ℕ → List A → List B → Stop C (List A)
walk₂ f k [] gs = fine []
walk₂ f k (x ∷ s) [] = fine (x ∷ s)
walk₂ f k (x ∷ s) (g ∷ gs) = let r = f k x g in onward r.value r.conflict s (walk₂ f (suc k) s gs)

-- each element of a list has a property
abbrev pub All : {A : Type 0} → (A → Type 0) → List A → Type 0
All P [] = Unit {0}
All P (x ∷ s) = P x × All P s

-- what is there has it
abbrev pub AllO : {A : Type 0} → (A → Type 0) → Option A → Type 0
AllO P None = Unit {0}
AllO P (Some x) = P x
