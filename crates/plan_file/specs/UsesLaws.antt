-- The laws by which the lister's code is the definition: one use's bytes and numbers, the items that are uses, and the loop of `uses`.
use Rattle.model.specs.Prelude.{ℕ, zero, suc, true, false, arith, refl, sym, ap, ◌∙◌, List, [], append_assoc, append-nil, length, take}
use Rattle.model.specs.Prelude.{drop, get_or, length-append, drop-length, drop_at, drop-cons, drop-drop, drop_of_length-le, sets, sets-eq}
use Rattle.model.specs.Prelude.{take_at, true≢false, false≢true, eqb, add-one, lt-ltb, le-ltb, ne_eqb}
use Rattle.model.specs.{declared.Refusal.TheVariants.NoFreeEntry, BoolLaws.{by_test, by_eq}}
use Rattle.std.specs.Prelude.{◌+◌, ◌*◌, ◌/◌, ◌<◌, ◌≤◌, ◌≡◌, ◌∷◌, ◌++◌, if◌then◌else◌, Ok, Err, count_by}
use Rattle.std.proofs.lemmas.List.Recursion.{is_count_by}
use Rattle.plan_file.specs.{Bytes.low_first, Plan.{Event, opened, used, closed, other}, Write.{event_of, events_of}}
use Rattle.plan_file.specs.{Uses.{numbers_by, numbers_of, uses_of, is_use, count_of, UsesListed}, Items.{event_in, events_in, use_bytes}}

-- ---- One use, byte by byte
-- n numbers of p, from the k-th on
abbrev part_from : List ℕ → ℕ → ℕ → List ℕ
part_from p zero k = []
part_from p (suc n) k = get_or p k 0 ∷ part_from p n (suc k)

part_is : (p : List ℕ) (n k : ℕ) → k + n ≡ length p → drop k p ≡ part_from p n k
part_is p zero k e = let h : k ≡ length p = omega arith in rw h (drop-length p)
part_is p (suc n) k e = drop-cons p k 0 (omega arith) ∙ ap (λ (s : List ℕ). get_or p k 0 ∷ s) (part_is p n (suc k) (omega arith))

-- as the code reads them
pub eight_are : (it : List ℕ) {index mips layers mip_start mip_end layer_start layer_end state : ℕ} → length it ≡ 16
    → index ≡ low_first (get_or it 1 0 ∷ get_or it 2 0 ∷ get_or it 3 0 ∷ get_or it 4 0 ∷ []) → mips ≡ get_or it 5 0
    → layers ≡ low_first (get_or it 6 0 ∷ get_or it 7 0 ∷ []) → mip_start ≡ get_or it 8 0 → mip_end ≡ get_or it 9 0
    → layer_start ≡ low_first (get_or it 10 0 ∷ get_or it 11 0 ∷ []) → layer_end ≡ low_first (get_or it 12 0 ∷ get_or it 13 0 ∷ [])
    → state ≡ low_first (get_or it 14 0 ∷ get_or it 15 0 ∷ [])
    → index ∷ mips ∷ layers ∷ mip_start ∷ mip_end ∷ layer_start ∷ layer_end ∷ state ∷ [] ≡ numbers_of (use_bytes it)
unfolding numbers_by
eight_are it {index} {mips} {layers} {mip_start} {mip_end} {layer_start} {layer_end} {state} h a b c d e f g i =
    let whole : use_bytes it ≡ part_from it 15 1 = part_is it 15 1 (omega arith) in
    let b' : mips ≡ low_first (get_or it 5 0 ∷ []) = omega arith in
    let d' : mip_start ≡ low_first (get_or it 8 0 ∷ []) = omega arith in
    let e' : mip_end ≡ low_first (get_or it 9 0 ∷ []) = omega arith in
    rw (a, b', c, d', e', f, g, i) (sym (ap numbers_of whole))

-- the same of the 15 bytes of a use alone
pub eight_of : (p : List ℕ) (index mips layers mip_start mip_end layer_start layer_end state : ℕ) → length p ≡ 15
    → index ≡ low_first (get_or p 0 0 ∷ get_or p 1 0 ∷ get_or p 2 0 ∷ get_or p 3 0 ∷ []) → mips ≡ get_or p 4 0
    → layers ≡ low_first (get_or p 5 0 ∷ get_or p 6 0 ∷ []) → mip_start ≡ get_or p 7 0 → mip_end ≡ get_or p 8 0
    → layer_start ≡ low_first (get_or p 9 0 ∷ get_or p 10 0 ∷ []) → layer_end ≡ low_first (get_or p 11 0 ∷ get_or p 12 0 ∷ [])
    → state ≡ low_first (get_or p 13 0 ∷ get_or p 14 0 ∷ [])
    → index ∷ mips ∷ layers ∷ mip_start ∷ mip_end ∷ layer_start ∷ layer_end ∷ state ∷ [] ≡ numbers_of p
eight_of p index mips layers mip_start mip_end layer_start layer_end state h a b c d e f g i =
    eight_are (0 ∷ p) (omega arith) a b c d e f g i

-- ---- An event that is a use, and one that is none
-- what holds of every event but a use holds of an item whose kind is not 2
pub no_use : (P : Event → Type 0) (kind : ℕ) (p : List ℕ) → (kind ≡ 2 → ⊥) → P opened → P closed → P other → P (event_of kind p)
no_use P kind p h a b c = by_eq kind 1 (λ e. rw e a) (λ f. by_eq kind 3 (λ e. rw e b)
    (λ g. rw (ne_eqb kind 1 f, ne_eqb kind 2 h, ne_eqb kind 3 g) c))

count_first : (e : Event) (es : List Event) → count_of (e ∷ es) ≡ (if is_use e then 1 + count_of es else count_of es)
unfolding count_of
count_first opened es = refl
count_first (used p) es = omega arith
count_first closed es = refl
count_first other es = refl

-- the code counts the items that are uses
pub count_is : (its : List (List ℕ)) → count_of (events_in its) ≡ count_by (λ (it : List ℕ). is_use (event_in it)) its
unfolding count_of
count_is = is_count_by (λ (its : List (List ℕ)). count_of (events_in its)) (λ (it : List ℕ). is_use (event_in it)) refl
    (λ it its. count_first (event_in it) (events_in its))

uses_other : (e : Event) (es : List Event) → is_use e ≡ false → uses_of (e ∷ es) ≡ uses_of es
unfolding uses_of
uses_other opened es h = refl
uses_other (used p) es h = absurd (true≢false h)
uses_other closed es h = refl
uses_other other es h = refl

uses_first : (it : List ℕ) (es : List Event) → is_use (event_in it) ≡ true
    → uses_of (event_in it ∷ es) ≡ numbers_of (use_bytes it) ++ uses_of es
unfolding uses_of
uses_first it es h = go (get_or it 0 0) (use_bytes it) h
  where
    go : (k : ℕ) (p : List ℕ) → is_use (event_of k p) ≡ true → uses_of (event_of k p ∷ es) ≡ numbers_of p ++ uses_of es
    go k p =
        by_test (λ (e : Event). is_use e ≡ true → uses_of (e ∷ es) ≡ numbers_of p ++ uses_of es) (eqb k 1) (λ _ z. absurd (false≢true z))
        (λ _. by_test (λ (e : Event). is_use e ≡ true → uses_of (e ∷ es) ≡ numbers_of p ++ uses_of es) (eqb k 2) (λ _ _. refl)
        (λ _. by_test (λ (e : Event). is_use e ≡ true → uses_of (e ∷ es) ≡ numbers_of p ++ uses_of es) (eqb k 3)
        (λ _ z. absurd (false≢true z)) (λ _ z. absurd (false≢true z))))

uses_long : (es : List Event) → length (uses_of es) ≡ 8 * count_of es
unfolding uses_of count_of numbers_by
uses_long [] = refl
uses_long (opened ∷ es) = uses_long es
uses_long (used p ∷ es) = let h = uses_long es in omega arith
uses_long (closed ∷ es) = uses_long es
uses_long (other ∷ es) = uses_long es

-- ---- The uses are listed
-- the numbers `done` of those among the first i items stand at the front of the list, which was l₀
pub record Listing (its : List (List ℕ)) (l₀ : List ℕ) (i at : ℕ) (l : List ℕ) : Type 0 where
  pub room : 8 * count_of (events_in its) ≤ length l₀
  pub done : List ℕ
  pub size : at ≡ length done
  pub all : uses_of (events_in its) ≡ done ++ uses_of (events_in (drop i its))
  pub content : l ≡ done ++ drop at l₀

pub list_start : (its : List (List ℕ)) (l : List ℕ) → 8 * count_of (events_in its) ≤ length l → Listing its l 0 0 l
list_start its l h = record { room = h; done = []; size = refl; all = refl; content = refl }

module _ {its : List (List ℕ)} {l₀ : List ℕ} {i at : ℕ} {l : List ℕ} (s : Listing its l₀ i at l) where
  module _ (h : i < length its) where
    abbrev next : List ℕ
    next = get_or its i []

    next_is : events_in (drop i its) ≡ event_in next ∷ events_in (drop (i + 1) its)
    next_is = rw add-one (ap events_in (drop-cons its i [] h))

    -- a use is next
    module _ (k : is_use (event_in next) ≡ true) where
      with_next : uses_of (events_in its) ≡ (s.done ++ numbers_of (use_bytes next)) ++ uses_of (events_in (drop (i + 1) its))
      with_next = s.all ∙ ap (λ (x : List ℕ). s.done ++ x) (ap uses_of next_is ∙ uses_first next (events_in (drop (i + 1) its)) k)
          ∙ sym (append_assoc s.done (numbers_of (use_bytes next)) (uses_of (events_in (drop (i + 1) its))))

      pub list_room : length l ≡ length l₀ → at + 8 ≤ length l
      unfolding numbers_by
      list_room long = omega (
        arith,
        s.room,
        s.size,
        uses_long (events_in its),
        ap length with_next,
        length-append (s.done ++ numbers_of (use_bytes next)) (uses_of (events_in (drop (i + 1) its))),
        length-append s.done (numbers_of (use_bytes next)),
      )

      pub list_use : {l' : List ℕ} → length l ≡ length l₀ → l' ≡ sets l at (numbers_of (use_bytes next))
          → Listing its l₀ (i + 1) (at + 8) l'
      unfolding numbers_by
      list_use {l'} long g =
          let front : take at l ≡ s.done = rw s.content (take_at s.done (drop at l₀) at (sym s.size)) in
          let rest : drop at l ≡ drop at l₀ = rw s.content (drop_at s.done (drop at l₀) at (sym s.size)) in
          let back : drop (at + 8) l ≡ drop (at + 8) l₀ = sym (drop-drop 8 at l) ∙ ap (drop 8) rest ∙ drop-drop 8 at l₀ in
          let put : l' ≡ (s.done ++ numbers_of (use_bytes next)) ++ drop (at + 8) l₀ =
          g ∙ sets-eq (numbers_of (use_bytes next)) l at (list_room long) ∙ rw (front, back) in
          record {
            room = s.room;
            done = s.done ++ numbers_of (use_bytes next);
            size = omega (arith, s.size, length-append s.done (numbers_of (use_bytes next)));
            all = with_next;
            content = put;
          }

    pub list_other : is_use (event_in next) ≡ false → Listing its l₀ (i + 1) at l
    list_other k = record {
      room = s.room;
      done = s.done;
      size = s.size;
      all = s.all ∙ ap (λ (x : List ℕ). s.done ++ x) (ap uses_of next_is ∙ uses_other (event_in next) (events_in (drop (i + 1) its)) k);
      content = s.content;
    }

  list_end : length its ≤ i → l ≡ uses_of (events_in its) ++ drop (8 * count_of (events_in its)) l₀
  unfolding uses_of
  list_end h =
      let none : drop i its ≡ [] = drop_of_length-le its {i = i} h in
      let e : uses_of (events_in its) ≡ s.done =
      s.all ∙ ap (λ (x : List (List ℕ)). s.done ++ uses_of (events_in x)) none ∙ append-nil s.done in
      let f : 8 * count_of (events_in its) ≡ at = sym (uses_long (events_in its)) ∙ ap length e ∙ sym s.size in
      rw (e, f) s.content

-- ---- The two answers
module _ (t l : List ℕ) (its : List (List ℕ)) (count : ℕ) (a : events_in its ≡ events_of t) (e : count ≡ count_of (events_in its)) where
  pub uses_short : length l / 8 < count → UsesListed t l (Err NoFreeEntry) l
  uses_short h =
      let b = lt-ltb (length l / 8) (count_of (events_of t)) (omega (arith, e, ap count_of a)) in
      record { answer = rw b; left = rw b }

  pub uses_done : {i at : ℕ} {l' : List ℕ} → count ≤ length l / 8 → Listing its l i at l' → length its ≤ i → UsesListed t l (Ok count) l'
  uses_done h s k =
      let b = le-ltb (length l / 8) (count_of (events_of t)) (omega (arith, e, ap count_of a)) in
      record { answer = rw b (ap Ok (e ∙ ap count_of a)); left = rw (b, ← a) (list_end s k) }
