-- A list with no UNKNOWN range agrees with a state that is not UNKNOWN; and the loop of `ranges_known`.
use Rattle.model.specs.Prelude.{ℕ, zero, suc, arith, refl, sym, ◌∙◌, Bool, true, false, not, false≢true, List, [], map, ltb, eqb, bit_and}
use Rattle.model.specs.Prelude.{and_self, length, get_or, drop, replicate, replicate-append-replicate, eqb-true, eqb-false}
use Rattle.model.specs.Prelude.{eq-eqb, ltb-true, ne_eqb, not-true, not-false}
use Rattle.model.specs.{declared.{Range.Range, UsageFlags.UsageFlags}, Base.every, Flags.{meets, incompatible}}
use Rattle.model.specs.{RangedStates.{layer_states, Tiles}, WellFormed.{state_fits, single_fits, ranges_fit, same_test, all₂}}
use Rattle.model.specs.{BoolLaws.and_both as both, RangeLaws.tiles_le as tiles_below}
use Rattle.std.specs.Prelude.{◌+◌, ◌*◌, ◌-◌, ◌≤◌, ◌<◌, ◌≡◌, ◌&&◌, ◌∷◌, ◌++◌}
use Rattle.range_states.specs.View.{view, decode, blank}
use Rattle.set_storage.specs.Storage.{list_from}
use Rattle.set_wellformed.specs.Unknowns.{agrees, layers_agree, is_known, itself}
use Rattle.set_wellformed.proofs.Agreeing.{skip_left, stop_here}
use Rattle.range_states.proofs.Inserting.{next_is}

-- ---- `known`: what is left to test decides
pub record Knowing (u : ℕ) (l : List ℕ) (len k : ℕ) : Type 0 where
  pub on : every (is_known u) (drop k (decode len l)) ≡ every (is_known u) (decode len l)

module _ {u : ℕ} {l : List ℕ} {len k : ℕ} {r : Range} (room : 3 * len ≤ length l) (j : Knowing u l len k) (h : k < len)
    (g : r ≡ get_or (view l) k blank) where
  here : every (is_known u) (r ∷ drop (k + 1) (decode len l)) ≡ every (is_known u) (decode len l)
  here = rw (next_is l len k r room h g) at j.on

  pub knowing_stop : r.state ≡ u → false ≡ every (is_known u) (decode len l)
  knowing_stop e = rw (eq-eqb r.state u e) at here

-- ---- A Single state that fits is not zero and does not meet UNKNOWN, so it is not UNKNOWN
pub single_known : (p : UsageFlags) (a : ℕ) → single_fits p a ≡ true → eqb a p.unknown ≡ false
single_known p a f =
    let x = both (state_fits p a) (not (meets a p.unknown)) f in
    let y = both (not (eqb a 0) && ltb a 65536 && not (incompatible p a)) (not (meets a p.complex)) x.0 in
    let z = both (not (eqb a 0) && ltb a 65536) (not (incompatible p a)) y.0 in
    let n = eqb-false a 0 (not-true (eqb a 0) (both (not (eqb a 0)) (ltb a 65536) z.0).0) in
    let m = eqb-true (bit_and a p.unknown) 0 (not-false (eqb (bit_and a p.unknown) 0) (not-true (meets a p.unknown) x.1)) in
    ne_eqb a p.unknown (λ e. n (sym (and_self a) ∙ (rw (← e) at m)))

-- ---- Ranges that fit tile their layers
pub fits_tiles : (p : UsageFlags) (e a : ℕ) (s : List Range) → ranges_fit p e a s ≡ true → Tiles a s e
fits_tiles p e a [] f = eqb-true a e f
fits_tiles p e a (r ∷ s) f =
    let x = both (eqb r.start a && ltb a r.end && state_fits p r.state) (ranges_fit p e r.end s) f in
    let y = both (eqb r.start a && ltb a r.end) (state_fits p r.state) x.0 in
    let z = both (eqb r.start a) (ltb a r.end) y.0 in
    (eqb-true r.start a z.0, ltb-true a r.end z.1, fits_tiles p e r.end s x.1)

-- ---- A state that is not UNKNOWN beside a list of ranges
module _ (u a : ℕ) (known : eqb a u ≡ false) where
  one_run : (n : ℕ) (b : ℕ) (l k : List ℕ) → 0 < n → (rest : Bool) → all₂ (agrees u) l k ≡ rest
      → all₂ (agrees u) (replicate n a ++ l) (replicate n b ++ k) ≡ (not (eqb b u) && rest)
  one_run n b l k h rest e = go (eqb b u) refl
    where
      go : (t : Bool) → eqb b u ≡ t → all₂ (agrees u) (replicate n a ++ l) (replicate n b ++ k) ≡ (not t && rest)
      go true q = stop_here (agrees u) a b n n l k h h (rw (known, q))
      go false q = skip_left (agrees u) a b n 0 n l k (omega arith) (rw (known, q)) ∙ e

  layers_known : (s : List Range) (x e : ℕ) → Tiles x s e → all₂ (agrees u) (replicate (e - x) a) (layer_states s) ≡ every (is_known u) s
  unfolding layer_states
  layers_known [] x e t = let z : e - x ≡ 0 = omega arith in rw z
  layers_known (r ∷ s) x e t =
      let b = tiles_below s r.end e t.2 in let n : e - x ≡ (r.end - x) + (e - r.end) = omega (arith, t.1) in
      rw (n, ← replicate-append-replicate (r.end - x) (e - r.end) a, t.0)
      (one_run (r.end - x) r.state (replicate (e - r.end) a) (layer_states s) (omega (arith, t.1))
      (every (is_known u) s) (layers_known s r.end e t.2))

  pub mips_known : (p : UsageFlags) (w : ℕ) (ss : List (List Range)) (n : ℕ) → length ss ≡ n → every (ranges_fit p w 0) ss ≡ true
      → all₂ (all₂ (agrees u)) (replicate n (replicate w a)) (map layer_states ss) ≡ every (every (is_known u)) ss
  mips_known p w [] zero e f = refl
  mips_known p w [] (suc n) e f = absurd (omega arith)
  mips_known p w (s ∷ ss) zero e f = absurd (omega arith)
  mips_known p w (s ∷ ss) (suc n) e f =
      let x = both (ranges_fit p w 0 s) (every (ranges_fit p w 0) ss) f in let z : w - 0 ≡ w = omega arith in
      let l : all₂ (agrees u) (replicate w a) (layer_states s) ≡ every (is_known u) s =
      rw z at (layers_known s 0 w (fits_tiles p w 0 s x.0)) in
      rw (l, mips_known p w ss n (omega arith) x.1)

-- ---- Side by side
pub all_same : {A : Type 0} (g : A → A → Bool) (x y : A) → g x y ≡ true → (n : ℕ) → all₂ g (replicate n x) (replicate n y) ≡ true
all_same g x y e zero = refl
all_same g x y e (suc n) = rw (e, all_same g x y e n)

pub all_sym : {A : Type 0} (g : A → A → Bool) → ((x y : A) → g x y ≡ g y x) → (s t : List A) → all₂ g s t ≡ all₂ g t s
all_sym g e [] [] = refl
all_sym g e [] (b ∷ t) = refl
all_sym g e (a ∷ s) [] = refl
all_sym g e (a ∷ s) (b ∷ t) = rw (e a b, all_sym g e s t)

same_sym : (a b : Bool) → same_test a b ≡ same_test b a
same_sym true true = refl
same_sym true false = refl
same_sym false true = refl
same_sym false false = refl

pub agrees_sym : (u a b : ℕ) → agrees u a b ≡ agrees u b a
agrees_sym u a b = same_sym (eqb a u) (eqb b u)

-- ---- Two lists with no UNKNOWN range agree: each does with a state that is not UNKNOWN
same_both : (a b c : Bool) → same_test a b ≡ true → same_test a c ≡ true → same_test b c ≡ true
same_both true true c e f = f
same_both true false c e f = absurd (false≢true e)
same_both false true c e f = absurd (false≢true e)
same_both false false c e f = f

all_both : {A : Type 0} (g : A → A → Bool) → ((x y z : A) → g x y ≡ true → g x z ≡ true → g y z ≡ true) → (l s t : List A)
    → all₂ g l s ≡ true → all₂ g l t ≡ true → all₂ g s t ≡ true
all_both g each [] [] [] e f = refl
all_both g each [] [] (z ∷ t) e f = absurd (false≢true f)
all_both g each [] (y ∷ s) t e f = absurd (false≢true e)
all_both g each (x ∷ l) [] t e f = absurd (false≢true e)
all_both g each (x ∷ l) (y ∷ s) [] e f = absurd (false≢true f)
all_both g each (x ∷ l) (y ∷ s) (z ∷ t) e f =
    let a = both (g x y) (all₂ g l s) e in let b = both (g x z) (all₂ g l t) f in
    rw (each x y z a.0 b.0, all_both g each l s t a.1 b.1)

pub known_agree : (u top : ℕ) (s t : List Range) → Tiles 0 s top → Tiles 0 t top → every (is_known u) s ≡ true
    → every (is_known u) t ≡ true → layers_agree u s t ≡ true
known_agree u top s t a b e f =
    let k = ne_eqb (u + 1) u (λ z. omega arith) in
    all_both (agrees u) (λ x y z. same_both (eqb x u) (eqb y u) (eqb z u)) (replicate (top - 0) (u + 1)) (layer_states s) (layer_states t)
    (layers_known u (u + 1) k s 0 top a ∙ e) (layers_known u (u + 1) k t 0 top b ∙ f)

-- mips side by side, position by position
pub mips_beside : (u : ℕ) (f g : ℕ → List Range) (k n : ℕ)
    → all₂ (all₂ (agrees u)) (map layer_states (list_from f k n)) (map layer_states (list_from g k n))
    ≡ every (λ (m : ℕ). layers_agree u (f m) (g m)) (list_from itself k n)
unfolding list_from
mips_beside u f g k zero = refl
mips_beside u f g k (suc n) = rw (mips_beside u f g (suc k) n)
