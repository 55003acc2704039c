-- Items as the code takes them, 16 bytes each: the event of one, and that those of a list are the events of its bytes.
use Rattle.std.specs.Prelude.{◌≡◌, ◌+◌, ◌*◌, ◌-◌, ◌/◌, ◌<◌, ◌≤◌, ◌∷◌, Option, Some, None}
use Rattle.std.specs.Simd.{first_chunks}
use Rattle.model.specs.Prelude.{ℕ, zero, suc, refl, ap, ap₂, ◌∙◌, List, [], add-one, arith, length, take, drop, get_or}
use Rattle.model.specs.Prelude.{map, eqb, length-drop, drop-drop}
use Rattle.model.specs.Prelude.{get_or-drop}
use Rattle.model.specs.{BoolLaws.{by_test, by_test₂}}
use Rattle.plan_file.specs.declared.kinds.ItemKind.{ItemKind, TheVariants.{Opened, Used, Closed}}
use Rattle.plan_file.specs.{Kinds.kind_of, Wide.{WideUse, Wide}, Plan.{Event, opened, used, closed, other}}
use Rattle.plan_file.specs.{Write.{event_of, event_at, events_from, events_of}}

-- the bytes that an item has behind its kind
abbrev pub use_bytes : List ℕ → List ℕ
use_bytes it = drop 1 it

-- the event of an item
abbrev pub event_in : List ℕ → Event
event_in it = event_of (get_or it 0 0) (use_bytes it)

-- the events of a list of items
abbrev pub events_in : List (List ℕ) → List Event
events_in its = map event_in its

-- ---- The event of an item by the code's kinds
abbrev pub event_by : Option ItemKind → List ℕ → Event
event_by (Some Opened) p = opened
event_by (Some Used) p = used p
event_by (Some Closed) p = closed
event_by None p = other

pub event_is : {k : Option ItemKind} (it : List ℕ) → k ≡ kind_of (get_or it 0 0) → event_in it ≡ event_by k (use_bytes it)
event_is it e = rw e (go (get_or it 0 0) (use_bytes it))
  where
    go : (b : ℕ) (p : List ℕ) → event_of b p ≡ event_by (kind_of b) p
    go b p =
        by_test₂ (λ (x : Event) (k : Option ItemKind). x ≡ event_by k p) (eqb b 1) (λ _. refl)
        (λ _. by_test₂ (λ (x : Event) (k : Option ItemKind). x ≡ event_by k p) (eqb b 2) (λ _. refl)
        (λ _. by_test₂ (λ (x : Event) (k : Option ItemKind). x ≡ event_by k p) (eqb b 3) (λ _. refl) (λ _. refl)))

-- ---- Items have 16 bytes, and uses 15
abbrev pub Sixteen : List (List ℕ) → Type 0
Sixteen its = (i : ℕ) → i < length its → length (get_or its i []) ≡ 16

wide_item : (it : List ℕ) → length it ≡ 16 → WideUse (event_in it)
wide_item it h =
    by_test WideUse (eqb (get_or it 0 0) 1) (λ _. tt) (λ _. by_test WideUse (eqb (get_or it 0 0) 2)
    (λ _. omega (arith, length-drop 1 it)) (λ _. by_test WideUse (eqb (get_or it 0 0) 3) (λ _. tt) (λ _. tt)))

pub wide_in : (its : List (List ℕ)) → Sixteen its → Wide (events_in its)
wide_in [] w = tt
wide_in (it ∷ its) w = (wide_item it (w 0 (omega arith)), wide_in its (λ i h. w (suc i) (omega arith)))

-- ---- The items of a list of bytes: one of them, where its bytes begin
first_kind : (s : List ℕ) → get_or (take 16 s) 0 0 ≡ get_or s 0 0
first_kind [] = refl
first_kind (x ∷ s) = refl

first_bytes : (s : List ℕ) → drop 1 (take 16 s) ≡ take 15 (drop 1 s)
first_bytes [] = refl
first_bytes (x ∷ s) = refl

event_first : (l : List ℕ) (i : ℕ) → event_in (take 16 (drop (16 * i) l)) ≡ event_at l i
event_first l i =
    let k : get_or (drop (16 * i) l) 0 0 ≡ get_or l (16 * i) 0 = get_or-drop (16 * i) l 0 0 ∙ ap (λ (n : ℕ). get_or l n 0) (omega arith) in
    let b : drop 1 (drop (16 * i) l) ≡ drop (16 * i + 1) l = drop-drop 1 (16 * i) l in
    ap₂ event_of (first_kind (drop (16 * i) l) ∙ k) (first_bytes (drop (16 * i) l) ∙ ap (take 15) b)

events_chunks : (l : List ℕ) (m i : ℕ) → events_in (first_chunks 16 m (drop (16 * i) l)) ≡ events_from l m i
unfolding events_from
events_chunks l zero i = refl
events_chunks l (suc m) i =
    let on : drop 16 (drop (16 * i) l) ≡ drop (16 * suc i) l = drop-drop 16 (16 * i) l ∙ ap (λ (n : ℕ). drop n l) (omega arith) in
    ap₂ (λ (e : Event) (es : List Event). e ∷ es) (event_first l i)
    (ap (λ (s : List ℕ). events_in (first_chunks 16 m s)) on ∙ events_chunks l m (suc i))

-- those of all items
pub events_are : (l : List ℕ) {its : List (List ℕ)} → its ≡ first_chunks 16 (length l / 16) l → events_in its ≡ events_of l
events_are l e = ap events_in e ∙ events_chunks l (length l / 16) 0

-- ---- The events of items, one after another: n - i of them from the i-th on, up to the n-th
pub next_event : (l : List ℕ) (n i : ℕ) → i < n → events_from l (n - i) i ≡ event_at l i ∷ events_from l (n - suc i) (suc i)
unfolding events_from
next_event l n i h = let a : n - i ≡ suc (n - suc i) = omega arith in ap (λ (m : ℕ). events_from l m i) a

-- the same counted on
pub following : (l : List ℕ) (n i : ℕ) → i < n → events_from l (n - i) i ≡ event_at l i ∷ events_from l (n - (i + 1)) (i + 1)
following l n i h = rw (add-one i) (next_event l n i h)

-- and counted back
pub events_back : (l : List ℕ) (n i : ℕ) → 0 < i → i ≤ n
    → events_from l (n - (i - 1)) (i - 1) ≡ event_at l (i - 1) ∷ events_from l (n - i) i
events_back l n i h g =
    let a : suc (i - 1) ≡ i = omega arith in
    next_event l n (i - 1) (omega arith) ∙ ap (λ (j : ℕ). event_at l (i - 1) ∷ events_from l (n - j) j) a

pub no_event : (l : List ℕ) (n i : ℕ) → n ≤ i → events_from l (n - i) i ≡ []
unfolding events_from
no_event l n i h = let a : n - i ≡ 0 = omega arith in rw a

pub none_from : (l : List ℕ) (n : ℕ) → events_from l (n - n) n ≡ []
none_from l n = no_event l n n (omega arith)

pub all_left : (l : List ℕ) (n i : ℕ) → i ≤ 0 → events_from l (n - i) i ≡ events_from l n 0
all_left l n i h =
    let a : n - i ≡ n = omega arith in
    let b : i ≡ 0 = omega arith in
    ap (λ (m : ℕ). events_from l m i) a ∙ ap (λ (j : ℕ). events_from l n j) b
