-- What the calls do together, from their contracts alone: what `read` leaves, handed to `write`, gives the file's bytes back, and what
-- `write` leaves, handed to `read`, gives the list's events back.
use Rattle.std.specs.Prelude.{◌+◌, ◌*◌, ◌/◌, ◌≤◌, ◌≡◌, ◌∷◌, ◌++◌, if◌then◌else◌, Result, Ok, Err}
use Rattle.model.specs.Prelude.{ℕ, suc, refl, ap, sym, ◌∙◌, Bool, true, false, List, [], append_assoc}
use Rattle.model.specs.Prelude.{arith, length, take, drop, replicate, length-append, take_at, drop-append-add, get_or_at, ltb, le-ltb}
use Rattle.model.specs.{declared.Refusal.Refusal, declared.Refusal.TheVariants.NoFreeEntry}
use Rattle.plan_file.specs.Plan.{Event, opened, used, closed, other, Read, took, no, read_plan, item, items, answer_of, left_of}
use Rattle.plan_file.specs.{Reading.PlanRead, Wide.{WideUse, Wide, WideRead}}
use Rattle.plan_file.proofs.{ReadingLaws.undone, ReadAnswers.{wide_fields, item_long}}
use Rattle.plan_file.specs.Write.{event_of, event_at, events_from, events_of, Wrote, wrote, not, write_plan, answer_to, left_to}
use Rattle.plan_file.specs.{Writing.PlanWritten, Bytes.Bytes}
use Rattle.plan_file.proofs.{WriteAnswers.wide_events, RoundTrips.{file_round_trip, list_round_trip}}

-- ---- The items of events say those events
items_long : (es : List Event) → Wide es → length (items es) ≡ 16 * length es
items_long [] w = refl
items_long (e ∷ es) w = omega (arith, length-append (item e) (items es), item_long e w.0, items_long es w.1)

event_back : (e : Event) (a b : List ℕ) (i : ℕ) → length a ≡ 16 * i → WideUse e → event_at (a ++ (item e ++ b)) i ≡ e
event_back opened a b i q w = ap (λ (k : ℕ). event_of k (take 15 (drop (16 * i + 1) (a ++ (item opened ++ b)))))
    (get_or_at a 1 (replicate 15 0 ++ b) 0 (16 * i) q)
event_back (used p) a b i q w =
    ap (λ (k : ℕ). event_of k (take 15 (drop (16 * i + 1) (a ++ (2 ∷ (p ++ b)))))) (get_or_at a 2 (p ++ b) 0 (16 * i) q)
    ∙ ap used (ap (λ (n : ℕ). take 15 (drop (n + 1) (a ++ (2 ∷ (p ++ b))))) (sym q)
    ∙ ap (take 15) (drop-append-add a (2 ∷ (p ++ b)) 1) ∙ take_at p b 15 w)
event_back closed a b i q w = ap (λ (k : ℕ). event_of k (take 15 (drop (16 * i + 1) (a ++ (item closed ++ b)))))
    (get_or_at a 3 (replicate 15 0 ++ b) 0 (16 * i) q)
event_back other a b i q w = ap (λ (k : ℕ). event_of k (take 15 (drop (16 * i + 1) (a ++ (item other ++ b)))))
    (get_or_at a 0 (replicate 15 0 ++ b) 0 (16 * i) q)

events_back : (es : List Event) (a : List ℕ) (i : ℕ) → length a ≡ 16 * i → Wide es → events_from (a ++ items es) (length es) i ≡ es
unfolding events_from
events_back [] a i q w = refl
events_back (e ∷ es) a i q w =
    ap (λ (x : Event). x ∷ events_from (a ++ (item e ++ items es)) (length es) (suc i)) (event_back e a (items es) i q w.0)
    ∙ ap (λ (l : List ℕ). e ∷ events_from l (length es) (suc i)) (sym (append_assoc a (item e) (items es)))
    ∙ ap (λ (x : List Event). e ∷ x) (events_back es (a ++ item e) (suc i)
    (omega (arith, length-append a (item e), item_long e w.0)) w.1)

-- what the items of events say is those events
events_of_items : (es : List Event) → Wide es → events_of (items es) ≡ es
events_of_items es w = ap (λ (n : ℕ). events_from (items es) n 0) (sixteenth (items_long es w)) ∙ events_back es [] 0 refl w
  where
    sixteenth : {a b : ℕ} → a ≡ 16 * b → a / 16 ≡ b
    sixteenth e = omega arith

-- ---- What an answer that is no refusal tells
chosen : (b : Bool) (n k : ℕ) (m l x : List ℕ) → Ok n ≡ (if b then Err NoFreeEntry else Ok k)
    → m ≡ (if b then l else x) → (n ≡ k) × (m ≡ x)
chosen true n k m l x e f = absurd (undone e)
chosen false n k m l x e f = (cc, f)

-- an accepted file: its events, and the items that were left
record Accepted (f l : List ℕ) (n : ℕ) (m : List ℕ) (es : List Event) : Type 0 where
  pub plan : read_plan f ≡ took es
  pub count : n ≡ length es
  pub left : m ≡ items es ++ drop (16 * length es) l
  pub wide : Wide es

read_of : (f l : List ℕ) (n : ℕ) (m : List ℕ) (rd : Read) → read_plan f ≡ rd → Ok n ≡ answer_of rd l → m ≡ left_of rd l
    → WideRead rd → (es : List Event) × Accepted f l n m es
unfolding answer_of left_of
read_of f l n m (took es) p e g w =
    let q = chosen (ltb (length l / 16) (length es)) n (length es) m l (items es ++ drop (16 * length es) l) e g in
    (es, record { plan = p; count = q.0; left = q.1; wide = w })
read_of f l n m (no c) p e g w = absurd (undone e)

read_done : (f l : List ℕ) (n : ℕ) (m : List ℕ) → PlanRead f l (Ok n) m → (es : List Event) × Accepted f l n m es
read_done f l n m r = read_of f l n m (read_plan f) refl r.answer r.left (wide_fields (length f) 8 f)

-- an accepted list: the file's bytes, and the file that was left
record Filed (es : List Event) (l : List ℕ) (n : ℕ) (m f : List ℕ) : Type 0 where
  pub plan : write_plan es ≡ wrote f
  pub count : n ≡ length f
  pub left : m ≡ f ++ drop (length f) l

write_of : (es : List Event) (l : List ℕ) (n : ℕ) (m : List ℕ) (x : Wrote) → write_plan es ≡ x → Ok n ≡ answer_to x l
    → m ≡ left_to x l → (f : List ℕ) × Filed es l n m f
unfolding answer_to left_to
write_of es l n m (wrote f) p e g =
    let q = chosen (ltb (length l) (length f)) n (length f) m l (f ++ drop (length f) l) e g in
    (f, record { plan = p; count = q.0; left = q.1 })
write_of es l n m (not c) p e g = absurd (undone e)

write_done : (t l : List ℕ) (n : ℕ) (m : List ℕ) → PlanWritten t l (Ok n) m → (f : List ℕ) × Filed (events_of t) l n m f
write_done t l n m r = write_of (events_of t) l n m (write_plan (events_of t)) refl r.answer r.left

-- what the answers are where the definition accepts and there is room
room_read : (f l : List ℕ) (es : List Event) → read_plan f ≡ took es → 16 * length es ≤ length l
    → (answer_of (read_plan f) l ≡ Ok (length es)) × (left_of (read_plan f) l ≡ items es ++ drop (16 * length es) l)
unfolding answer_of left_of
room_read f l es p h = let b : ltb (length l / 16) (length es) ≡ false = le-ltb (length l / 16) (length es) (omega arith) in
    (rw (p, b), rw (p, b))

room_write : (es : List Event) (l f : List ℕ) → write_plan es ≡ wrote f → length f ≤ length l
    → (answer_to (write_plan es) l ≡ Ok (length f)) × (left_to (write_plan es) l ≡ f ++ drop (length f) l)
unfolding answer_to left_to
room_write es l f p h = let b : ltb (length l) (length f) ≡ false = le-ltb (length l) (length f) h in (rw (p, b), rw (p, b))

-- a file that was read, and the items that it left written
pub read_write_lem : (f l m t o z : List ℕ) (n : ℕ) (r : Result ℕ Refusal) → Bytes f → PlanRead f l (Ok n) m → t ≡ take (16 * n) m
    → PlanWritten t o r z → length f ≤ length o
    → (r ≡ Ok (length f)) × (z ≡ f ++ drop (length f) o)
read_write_lem f l m t o z n r b a e w h =
    let got = read_done f l n m a in
    let es = got.0 in
    let g = got.1 in
    let k : 16 * n ≡ 16 * length es = omega (arith, g.count) in
    let same : t ≡ items es = e ∙ ap (λ (j : ℕ). take j m) k ∙ ap (take (16 * length es)) g.left
    ∙ take_at (items es) (drop (16 * length es) l) (16 * length es) (items_long es g.wide) in
    let events : events_of t ≡ es = ap events_of same ∙ events_of_items es g.wide in
    let plan : write_plan (events_of t) ≡ wrote f = ap write_plan events ∙ file_round_trip f es b g.plan in
    let q = room_write (events_of t) o f plan h in
    (w.answer ∙ q.0, w.left ∙ q.1)

-- a list that was written, and the file that it left read
pub write_read : (t l z f o m : List ℕ) (n : ℕ) (r : Result ℕ Refusal) → PlanWritten t l (Ok n) z → f ≡ take n z → PlanRead f o r m
    → 16 * length (events_of t) ≤ length o
    → (r ≡ Ok (length (events_of t))) × (events_of (take (16 * length (events_of t)) m) ≡ events_of t)
write_read t l z f o m n r a e w h =
    let got = write_done t l n z a in
    let x = got.0 in
    let g = got.1 in
    let same : f ≡ x = e ∙ ap (λ (j : ℕ). take j z) g.count ∙ ap (take (length x)) g.left
    ∙ take_at x (drop (length x) l) (length x) refl in
    let plan : read_plan f ≡ took (events_of t) = ap read_plan same ∙ list_round_trip (events_of t) x (wide_events t) g.plan in
    let q = room_read f o (events_of t) plan h in (
      w.answer ∙ q.0,
      ap (λ (y : List ℕ). events_of (take (16 * length (events_of t)) y)) (w.left ∙ q.1)
          ∙ ap events_of (take_at (items (events_of t)) (drop (16 * length (events_of t)) o) (16 * length (events_of t))
          (items_long (events_of t) (wide_events t))) ∙ events_of_items (events_of t) (wide_events t),
    )
