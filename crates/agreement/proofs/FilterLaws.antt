-- The transitions of a subresource: of the entries over ranges that tile, those that hold it are the one of its range.
use Rattle.std.specs.Prelude.{◌-◌, ◌+◌, ◌≤◌, ◌<◌, ◌≡◌, ◌&&◌, ◌∷◌, ◌++◌, if◌then◌else◌}
use Rattle.model.specs.Prelude.{ℕ, min, max, dec_le, dec_lt, arith, refl, sym, ◌∙◌, false, and-false, List, []}
use Rattle.model.specs.Prelude.{append-nil, leb, ltb, replicate, length, length-replicate, get_or, get_or-replicate}
use Rattle.model.specs.Prelude.{List_get_D_append, get_or-append-add, le-leb, lt-ltb, lt-leb, le-ltb, ltb-true, ltb-false}
use Rattle.model.specs.{declared.Range.Range, Base.{each}, RangedStates.{iter_filter, layer_states, Tiles}, BoolLaws.by_test}

-- what f makes of the ranges that hold layer l
abbrev pub held : {A : Type 0} → (ℕ → List A) → ℕ → List Range → List A
held f l s = each (λ (r : Range). if leb r.start l && ltb l r.end then f r.state else []) s

held_before : {A : Type 0} (f : ℕ → List A) (l : ℕ) (s : List Range) (a e : ℕ) → Tiles a s e → l < a → held f l s ≡ []
held_before f l [] a e t h = refl
held_before f l (r ∷ s) a e t h =
    let x : l < r.start = omega arith in let y : l < r.end = omega arith in
    rw (lt-leb r.start l x, held_before f l s r.end e t.2 y)

pub held_state : {A : Type 0} (f : ℕ → List A) (l : ℕ) (s : List Range) (a e d : ℕ) → Tiles a s e → a ≤ l → l < e
    → held f l s ≡ f (get_or (layer_states s) (l - a) d)
unfolding layer_states
held_state f l [] a e d t h g = absurd (omega arith)
held_state {A} f l (r ∷ s) a e d t h g =
    let lo : r.start ≤ l = omega arith in
    rw (le-leb r.start l lo)
    (by_test (λ (x : List A). x ++ held f l s ≡ f (get_or (replicate (r.end - r.start) r.state ++ layer_states s) (l - a) d))
    (ltb l r.end)
    (λ b. let x = ltb-true l r.end b in
    let n : l - a < r.end - r.start = omega arith in
    let m : l - a < length (replicate (r.end - r.start) r.state) = rw length-replicate n in
    rw (
      held_before f l s r.end e t.2 x,
      append-nil,
      List_get_D_append (replicate (r.end - r.start) r.state) (layer_states s) d
          (l - a) m,
      get_or-replicate _ _ r.state d n,
    ))
    (λ b. let x = ltb-false l r.end b in
    let n : l - a ≡ length (replicate (r.end - r.start) r.state) + (l - r.end) = rw length-replicate (omega arith) in
    rw (n, get_or-append-add) (held_state f l s r.end e d t.2 x g)))

-- ---- `iter_filter` lists, for a layer of its own, what the ranges have there
max_test : (lo a l : ℕ) → a ≤ l → leb (max lo a) l ≡ leb lo l
max_test lo a l h = go (dec_le lo l)
  where
    go : Dec (lo ≤ l) → leb (max lo a) l ≡ leb lo l
    go (yes d) = le-leb (max lo a) l (omega arith) ∙ sym (le-leb lo l d)
    go (no d) = lt-leb (max lo a) l (omega arith) ∙ sym (lt-leb lo l (omega arith))

min_test : (hi e l : ℕ) → l < e → ltb l (min hi e) ≡ ltb l hi
min_test hi e l h = go (dec_lt l hi)
  where
    go : Dec (l < hi) → ltb l (min hi e) ≡ ltb l hi
    go (yes d) = lt-ltb l (min hi e) (omega arith) ∙ sym (lt-ltb l hi d)
    go (no d) = le-ltb l (min hi e) (omega arith) ∙ sym (le-ltb l hi (omega arith))

pub held_filter : {A : Type 0} (f : ℕ → List A) (l a e : ℕ) (s : List Range) → a ≤ l → l < e → held f l (iter_filter a e s) ≡ held f l s
unfolding iter_filter
held_filter f l a e [] h g = refl
held_filter {A} f l a e (r ∷ s) h g =
    let ih = held_filter f l a e s h g in
    by_test (λ (x : List Range). held f l x ≡ held f l (r ∷ s)) (ltb a r.end && ltb r.start e)
    (λ b. rw (max_test r.start a l h, min_test r.end e l g, ih))
    (λ b. ih ∙ sym (away (dec_lt a r.end) b))
  where
    away : Dec (a < r.end) → ltb a r.end && ltb r.start e ≡ false → held f l (r ∷ s) ≡ held f l s
    away (yes d) b = let x = ltb-false r.start e (rw (lt-ltb a r.end d) at b) in let y : l < r.start = omega arith in
        rw (lt-leb r.start l y)
    away (no d) b = let y : r.end ≤ l = omega arith in rw (le-ltb l r.end y, and-false)
