-- Entries that are written to a log: what the log becomes, and what some and then others come to.
use Rattle.std.specs.Prelude.{◌+◌, ◌*◌, ◌≤◌, ◌≡◌, ◌∷◌, ◌++◌}
use Rattle.model.specs.Prelude.{ℕ, arith, refl, sym, ap, subst, ◌∙◌, List, []}
use Rattle.model.specs.Prelude.{length, take, drop, length-append, take-append-drop}
use Rattle.model.specs.{declared.PendingTransition.PendingTransition}
use Rattle.texture_barrier.specs.{Over.{over, over_then}, Entries.{flatten, flatten_long, Added, added_is, PutEntry}}

-- the new ones stand after the first n entries, and all else is as it was
pub record Written (l : List ℕ) (n : ℕ) (new : List PendingTransition) (l' : List ℕ) : Type 0 where
  pub content : l' ≡ take (7 * n) l ++ (flatten new ++ drop (7 * (n + length new)) l)
  pub long : length l' ≡ length l

-- what is written reads as the model's `added`
pub written_added : {l : List ℕ} {n : ℕ} {new : List PendingTransition} {l' : List ℕ} → 7 * (n + length new) ≤ length l
    → Written l n new l' → Added l n new l'
written_added {l} {n} {new} {l'} room w = subst (Added l n new) (sym w.content) (added_is l n new room)

-- none
pub written_none : (l : List ℕ) (n : ℕ) → Written l n [] l
unfolding flatten
written_none l n =
    let z : n + 0 ≡ n = omega arith in record { content = rw z (sym (take-append-drop (7 * n) l)); long = refl }

-- the one that `put_entry` wrote
pub written_one : {l : List ℕ} {n : ℕ} {e : PendingTransition} {l' : List ℕ} → PutEntry l n e l' → Written l n (e ∷ []) l'
unfolding flatten
written_one p = record { content = p.content; long = p.long }

-- the numbers of some entries after those of others
flatten_append : (x y : List PendingTransition) → flatten (x ++ y) ≡ flatten x ++ flatten y
unfolding flatten
flatten_append [] y = refl
flatten_append (e ∷ x) y = rw (flatten_append x y)

-- the content as numbers written over numbers
over_is : (l : List ℕ) (n : ℕ) (new : List PendingTransition)
    → over l (7 * n) (flatten new) ≡ take (7 * n) l ++ (flatten new ++ drop (7 * (n + length new)) l)
over_is l n new = let e : 7 * n + length (flatten new) ≡ 7 * (n + length new) = rw (flatten_long new) (omega arith) in rw e

-- some and then others
pub written_then : {l : List ℕ} {n : ℕ} {xs ys : List PendingTransition} {l₁ l₂ : List ℕ} → 7 * (n + length (xs ++ ys)) ≤ length l
    → Written l n xs l₁ → Written l₁ (n + length xs) ys l₂ → Written l n (xs ++ ys) l₂
written_then {l} {n} {xs} {ys} {l₁} {l₂} room p q =
    let m : 7 * (n + length xs) ≡ 7 * n + length (flatten xs) = rw (flatten_long xs) (omega arith) in
    let fits : 7 * n + length (flatten xs) ≤ length l = rw (flatten_long xs) (omega (arith, length-append xs ys)) in
    record {
      content = q.content ∙ sym (over_is l₁ (n + length xs) ys)
          ∙ rw (m, p.content ∙ sym (over_is l n xs)) (over_then l (7 * n) (flatten xs) fits (flatten ys))
          ∙ ap (over l (7 * n)) (sym (flatten_append xs ys)) ∙ over_is l n (xs ++ ys);
      long = q.long ∙ p.long;
    }
