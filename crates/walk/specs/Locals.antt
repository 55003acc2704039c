-- A function's locals as one entry of a walk's context, at its head: what each holds, or that it is room. So a walk has short contexts in which nothing changes its place, and the code says where to look.
--     Locals E hs      the locals of E, the first first: hs has what each holds, `none` where it is room. Past the end of hs all are room
--     enters           a function is entered: its parameters hold what was passed, the other locals are room
--     var, part        an operand that is a local, or a field of one
--     lets, lands_in   a local is assigned, or takes the result of a call, whatever it held.        lets_last    an assignment that ends its part
--     points           the place behind a pointer that a local holds
--     whiles, again    a `while` loop by a measure that falls, and a turn's end.        goes_on, breaks      its test, where the outcome is known
--     spent            the locals from _n on are let go
--     leaves           a function returns what _0 holds
-- Assumes `Logic`.
use Rattle.std.specs.Prelude.{◌≡◌, Bool, true, false, take, T}
use Rattle.std.proofs.Math.Path.{refl}
use Rattle.std.proofs.Common.{sym, subst}
use mathlib.Core.WellFounded.InvImage
use mathlib.Core.WellFounded.{WellFounded}
use Prim.Native.Nat.{ℕ, zero, suc, ◌+◌, ◌<◌}
use mathlib.Core.List.{List, [], ◌∷◌, map}
use Rattle.std.proofs.Math.Option.{Option, none, some}
use lib.WfN.{lt-wf_rel}
use seplogic.Ra.Ura.{Ura}
use base.Fraction.{full_share}
use mir.Syntax.{Sym, Ty, Tys, ty_struct, deref, field, place, copy, Rv as RValue, Body, skip, seq, assign, block, loop, cond, exit, return, Local, local, Fn}
use mir.Val.{Val, Vals, vbool, vptr, vstruct, has_ty, WT}
use mir.Fields.{get_v}
use base.Logic.{SProp, ent, sep, emp, id⊢, via, comm∗, assoc∗, assoc', mono_l, mono_r, mono∗, guard_i}
use base.Fml.{fat, froom, fdies}
use sound.Laws.{Laws}
use prog.Memory.{field_at, field_of}
use prog.Wp.{Heap, Env, next, exits, spot_of, Calls, Loops, Wp, WpFn, Tables, after_seq, after_block, after_turn, at_return, read, write}
use types.Logic.{Logic}
use types.Kit.{Item, ‵, raw, given, ◌⊛◌, Post, post, any_q, at_ret, Goal, prop, runs, lands, allocs, params', passes, frees, Seq, Step, step, ◌$◌, by, use0, use1, use2, move, drop, split, join, learn}
use types.Part.{whole, sub, look_in}
use types.Run.{Reads, Writes, Finds, Opd, Rv, look, init, stop, hop, fld, from, load, assigns, assigns_last, land, stays, leaves_loop, returns, enter, alloc1, alloc0, params1, pass1, pass0, free1, free0, first, blocks, Below, loops}
use types.Run as run

-- P stays before the others while Q is taken out from behind it, or put in there
module _ {M : Type 1} (𝓤 : Ura M) (P Q R S : SProp 𝓤) where
  swap : (X Y : SProp 𝓤) → ent 𝓤 (sep 𝓤 X (sep 𝓤 Y R)) (sep 𝓤 Y (sep 𝓤 X R))
  swap X Y = via 𝓤 (sep 𝓤 (sep 𝓤 X Y) R) (assoc' 𝓤 X Y R) (via 𝓤 (sep 𝓤 (sep 𝓤 Y X) R) (mono_l 𝓤 R (comm∗ 𝓤 X Y)) (assoc∗ 𝓤 Y X R))

  pub out_past : ent 𝓤 S (sep 𝓤 Q R) → ent 𝓤 (sep 𝓤 P S) (sep 𝓤 Q (sep 𝓤 P R))
  out_past h = via 𝓤 (sep 𝓤 P (sep 𝓤 Q R)) (mono_r 𝓤 P h) (swap P Q)

  pub in_past : ent 𝓤 (sep 𝓤 Q R) S → ent 𝓤 (sep 𝓤 Q (sep 𝓤 P R)) (sep 𝓤 P S)
  in_past h = via 𝓤 (sep 𝓤 P (sep 𝓤 Q R)) (swap Q P) (mono_r 𝓤 P h)

abbrev hd : List (Option Val) → Option Val
hd [] = none
hd (h ∷ hs) = h

abbrev tl : List (Option Val) → List (Option Val)
tl [] = []
tl (h ∷ hs) = hs

-- what the local _j holds, and the same with another
abbrev pub at : ℕ → List (Option Val) → Option Val
at zero hs = hd hs
at (suc j) hs = at j (tl hs)

abbrev pub with : ℕ → Option Val → List (Option Val) → List (Option Val)
with zero h hs = h ∷ tl hs
with (suc j) h hs = hd hs ∷ with j h (tl hs)

pub at_with : (j : ℕ) (h : Option Val) (hs : List (Option Val)) → at j (with j h hs) ≡ h
at_with zero h hs = refl
at_with (suc j) h hs = at_with j h (tl hs)

-- the blocks of the locals ls, and the environment that they make
abbrev pub Blocks : List Local → Type 0
Blocks [] = Unit {0}
Blocks (l ∷ ls) = ℕ × Blocks ls

module _ {M : Type 1} (𝓤 : Ura M) (H : Heap 𝓤) where
  abbrev pub env_of : (ls : List Local) → Blocks ls → Env 𝓤 H
  env_of [] bs = []
  env_of (local τ h ∷ ls) bs = (τ, bs.0) ∷ env_of ls bs.1

  -- there is a local _j
  abbrev pub Has : Env 𝓤 H → ℕ → Type 0
  Has [] j = ⊥
  Has (e ∷ E) zero = Unit {0}
  Has (e ∷ E) (suc j) = Has E j

  -- the values passed are of the parameters' types
  abbrev pub Passed : Env 𝓤 H → List Val → Type 0
  Passed E [] = Unit {0}
  Passed [] (v ∷ vs) = ⊥
  Passed (e ∷ E) (v ∷ vs) = (T (has_ty e.0 v) × WT v) × Passed E vs

  -- and the first local is the result
  abbrev pub Begins : Env 𝓤 H → List Val → Type 0
  Begins [] vs = ⊥
  Begins (e ∷ E) vs = Passed E vs

  abbrev pub Cell : Ty → ℕ → Option Val → SProp 𝓤
  Cell τ b none = H.room τ b zero
  Cell τ b (some v) = H.at full_share τ b zero v

  pub Locals : Env 𝓤 H → List (Option Val) → SProp 𝓤
  Locals [] hs = emp 𝓤
  Locals (e ∷ E) hs = sep 𝓤 (sep 𝓤 (Cell e.0 e.1 (hd hs)) (H.dies e.0 e.1)) (Locals E (tl hs))

  -- all but what _j holds
  pub Rest : Env 𝓤 H → List (Option Val) → ℕ → SProp 𝓤
  unfolding Locals
  Rest [] hs j = emp 𝓤
  Rest (e ∷ E) hs zero = sep 𝓤 (H.dies e.0 e.1) (Locals E (tl hs))
  Rest (e ∷ E) hs (suc j) = sep 𝓤 (sep 𝓤 (Cell e.0 e.1 (hd hs)) (H.dies e.0 e.1)) (Rest E (tl hs) j)

  out : (E : Env 𝓤 H) (hs : List (Option Val)) (j : ℕ) → Has E j → ent 𝓤 (Locals E hs) (sep 𝓤 (Cell (spot_of 𝓤 H E j).0 (spot_of 𝓤 H E j).1 (at j hs)) (Rest E hs j))
  unfolding Locals Rest
  out [] hs j i = absurd i
  out (e ∷ E) hs zero i = assoc∗ 𝓤 (Cell e.0 e.1 (hd hs)) (H.dies e.0 e.1) (Locals E (tl hs))
  out (e ∷ E) hs (suc j) i = out_past 𝓤 (sep 𝓤 (Cell e.0 e.1 (hd hs)) (H.dies e.0 e.1)) (Cell (spot_of 𝓤 H E j).0 (spot_of 𝓤 H E j).1 (at j (tl hs))) (Rest E (tl hs) j) (Locals E (tl hs)) (out E (tl hs) j i)

  other : (E : Env 𝓤 H) (hs : List (Option Val)) (j : ℕ) (h : Option Val) → Has E j → ent 𝓤 (sep 𝓤 (Cell (spot_of 𝓤 H E j).0 (spot_of 𝓤 H E j).1 h) (Rest E hs j)) (Locals E (with j h hs))
  unfolding Locals Rest
  other [] hs j h i = absurd i
  other (e ∷ E) hs zero h i = assoc' 𝓤 (Cell e.0 e.1 h) (H.dies e.0 e.1) (Locals E (tl hs))
  other (e ∷ E) hs (suc j) h i = in_past 𝓤 (sep 𝓤 (Cell e.0 e.1 (hd hs)) (H.dies e.0 e.1)) (Cell (spot_of 𝓤 H E j).0 (spot_of 𝓤 H E j).1 h) (Rest E (tl hs) j) (Locals E (with j h (tl hs))) (other E (tl hs) j h i)

  -- with what it held
  same : (E : Env 𝓤 H) (hs : List (Option Val)) (j : ℕ) → ent 𝓤 (Locals E (with j (at j hs) hs)) (Locals E hs)
  unfolding Locals
  same [] hs j = id⊢ 𝓤 (emp 𝓤)
  same (e ∷ E) hs zero = id⊢ 𝓤 (Locals (e ∷ E) hs)
  same (e ∷ E) hs (suc j) = mono_r 𝓤 (sep 𝓤 (Cell e.0 e.1 (hd hs)) (H.dies e.0 e.1)) (same E (tl hs) j)

  back : (E : Env 𝓤 H) (hs : List (Option Val)) (j : ℕ) → Has E j → ent 𝓤 (sep 𝓤 (Cell (spot_of 𝓤 H E j).0 (spot_of 𝓤 H E j).1 (at j hs)) (Rest E hs j)) (Locals E hs)
  back E hs j i = via 𝓤 (Locals E (with j (at j hs) hs)) (other E hs j (at j hs) i) (same E hs j)

  module _ (L : Laws 𝓤 H) where
    empties : (τ : Ty) (b : ℕ) (h : Option Val) → ent 𝓤 (Cell τ b h) (H.room τ b zero)
    empties τ b none = id⊢ 𝓤 (H.room τ b zero)
    empties τ b (some v) = L.at_room τ b zero v

    -- the first n as they are, the others room
    cuts : (E : Env 𝓤 H) (hs : List (Option Val)) (n : ℕ) → ent 𝓤 (Locals E hs) (Locals E (take n hs))
    unfolding Locals
    cuts [] hs n = id⊢ 𝓤 (emp 𝓤)
    cuts (e ∷ E) [] zero = id⊢ 𝓤 (Locals (e ∷ E) [])
    cuts (e ∷ E) [] (suc n) = id⊢ 𝓤 (Locals (e ∷ E) [])
    cuts (e ∷ E) (h ∷ hs) zero = mono∗ 𝓤 (mono_l 𝓤 (H.dies e.0 e.1) (empties e.0 e.1 h)) (cuts E hs zero)
    cuts (e ∷ E) (h ∷ hs) (suc n) = mono_r 𝓤 (sep 𝓤 (Cell e.0 e.1 h) (H.dies e.0 e.1)) (cuts E hs n)

-- the locals as an entry of a context. The record has no content: by it antt finds E and hs in the entry
pub record Frame (E : List (Ty × ℕ)) (hs : List (Option Val)) : Type 0 where
  pub unit : Unit {0}

abbrev pub held : {M : Type 1} (𝓤 : Ura M) (H : Heap 𝓤) → Env 𝓤 H → List (Option Val) → Item 𝓤
held 𝓤 H E hs = given (Frame E hs) (raw (Locals 𝓤 H E hs))

module _ {M : Type 1} {𝓤 : Ura M} {𝓛 : Logic 𝓤} {K : Type 0} {Γ : List (Item 𝓤)} {G : Goal 𝓤 𝓛.H} (E : Env 𝓤 𝓛.H) (hs : List (Option Val)) where
  open 𝓛 use {H}

  unpack : K → Step K 𝓛 (raw (Locals 𝓤 H E hs) ∷ Γ) G (held 𝓤 H E hs ∷ Γ) G
  unpack t = step (λ s. learn t (λ _. s))

  pack : K → Step K 𝓛 (held 𝓤 H E hs ∷ Γ) G (raw (Locals 𝓤 H E hs) ∷ Γ) G
  pack t = use1 𝓛 (held 𝓤 H E hs) (guard_i 𝓤 (Frame E hs) (Locals 𝓤 H E hs) (record { unit = tt }))

module _ {M : Type 1} {𝓤 : Ura M} {𝓛 : Logic 𝓤} {K : Type 0} {Γ : List (Item 𝓤)} {E : Env 𝓤 𝓛.H} {hs : List (Option Val)} where
  -- ---- what is read
  open 𝓛 use {H}

  module _ (t : K) (j : ℕ) (i : Has 𝓤 H E j) {v : Val} (e : at j hs ≡ some v) where
    -- in a context that has the local apart from the others
    pub within : {τ : Ty} {b o : ℕ} {u : Val} → Reads K 𝓛 (‵ (fat full_share (spot_of 𝓤 H E j).0 (spot_of 𝓤 H E j).1 zero v) ∷ raw (Rest 𝓤 H E hs j) ∷ Γ) τ b o u → Reads K 𝓛 (held 𝓤 H E hs ∷ Γ) τ b o u
    within {τ} {b} {o} {u} r = record { go = λ Kt h. (apart (read 𝓤 H τ b o Kt) (by t (r.go Kt (united (Kt u) (by t h)).prf))).prf }
      where
        taken : ent 𝓤 (Locals 𝓤 H E hs) (sep 𝓤 (H.at full_share (spot_of 𝓤 H E j).0 (spot_of 𝓤 H E j).1 zero v) (Rest 𝓤 H E hs j))
        taken = subst (λ (h : Option Val). ent 𝓤 (Locals 𝓤 H E hs) (sep 𝓤 (Cell 𝓤 H (spot_of 𝓤 H E j).0 (spot_of 𝓤 H E j).1 h) (Rest 𝓤 H E hs j))) e (out 𝓤 H E hs j i)

        given_back : ent 𝓤 (sep 𝓤 (H.at full_share (spot_of 𝓤 H E j).0 (spot_of 𝓤 H E j).1 zero v) (Rest 𝓤 H E hs j)) (Locals 𝓤 H E hs)
        given_back = subst (λ (h : Option Val). ent 𝓤 (sep 𝓤 (Cell 𝓤 H (spot_of 𝓤 H E j).0 (spot_of 𝓤 H E j).1 h) (Rest 𝓤 H E hs j)) (Locals 𝓤 H E hs)) e (back 𝓤 H E hs j i)

        apart : (P : SProp 𝓤) → Seq K 𝓛 (‵ (fat full_share (spot_of 𝓤 H E j).0 (spot_of 𝓤 H E j).1 zero v) ∷ raw (Rest 𝓤 H E hs j) ∷ Γ) (prop P) → Seq K 𝓛 (held 𝓤 H E hs ∷ Γ) (prop P)
        apart P s = unpack E hs t $ use1 𝓛 (‵ (fat full_share (spot_of 𝓤 H E j).0 (spot_of 𝓤 H E j).1 zero v) ⊛ raw (Rest 𝓤 H E hs j)) taken $ split t $ s

        united : (P : SProp 𝓤) → Seq K 𝓛 (held 𝓤 H E hs ∷ Γ) (prop P) → Seq K 𝓛 (‵ (fat full_share (spot_of 𝓤 H E j).0 (spot_of 𝓤 H E j).1 zero v) ∷ raw (Rest 𝓤 H E hs j) ∷ Γ) (prop P)
        united P s = use2 𝓛 (raw (Locals 𝓤 H E hs)) given_back $ pack E hs t $ s

    pub holds : Reads K 𝓛 (held 𝓤 H E hs ∷ Γ) (spot_of 𝓤 H E j).0 (spot_of 𝓤 H E j).1 zero v
    holds = within (look t 0 refl)

  pub var : K → {j : ℕ} → Has 𝓤 H E j → {v : Val} → at j hs ≡ some v → Opd K 𝓛 (held 𝓤 H E hs ∷ Γ) E (copy (place j [])) v
  var t {j} i e = load t (from t (stop t)) (holds t j i e)

  pub part : K → {j : ℕ} → Has 𝓤 H E j → {ν : Sym} {τs : Tys} {k d : ℕ} {τ : Ty} {vs : Vals} → (spot_of 𝓤 H E j).0 ≡ ty_struct ν τs → field_at zero τs k ≡ some (τ, d) → at j hs ≡ some (vstruct vs)
      → Opd K 𝓛 (held 𝓤 H E hs ∷ Γ) E (copy (place j (field k ∷ []))) (get_v vs k)
  part t {j} i {ν} {τs} {k} {d} {τ} {vs} m f e = load t (from t (fld t (subst (λ (σ : Ty). field_of σ k ≡ some (τ, d)) (sym m) f) (stop t))) (within t j i e
      (subst (λ (σ : Ty). Reads K 𝓛 (‵ (fat full_share σ (spot_of 𝓤 H E j).1 zero (vstruct vs)) ∷ raw (Rest 𝓤 H E hs j) ∷ Γ) τ (spot_of 𝓤 H E j).1 (zero + d) (get_v vs k)) (sym m) (look_in t 0 (sub t k f (whole t)))))

  pub points : K → {j : ℕ} → Has 𝓤 H E j → {b o : ℕ} → at j hs ≡ some (vptr b o) → {τ : Ty} → Finds K 𝓛 (held 𝓤 H E hs ∷ Γ) E (place j (deref τ ∷ [])) (τ, b, o)
  points t {j} i e = from t (hop t (holds t j i e) (stop t))

  -- ---- what is written
  fills : K → (j : ℕ) → Has 𝓤 H E j → {v : Val} → T (has_ty (spot_of 𝓤 H E j).0 v) × WT v
      → Writes K 𝓛 (held 𝓤 H E hs ∷ Γ) (spot_of 𝓤 H E j).0 (spot_of 𝓤 H E j).1 zero v (held 𝓤 H E (with j (some v) hs) ∷ Γ)
  fills t j i {v} wt = record { go = λ P h. (apart (write 𝓤 H (spot_of 𝓤 H E j).0 (spot_of 𝓤 H E j).1 zero v P) (by t (filled.go P (united P (by t h)).prf))).prf }
    where
      freed : ent 𝓤 (Locals 𝓤 H E hs) (sep 𝓤 (H.room (spot_of 𝓤 H E j).0 (spot_of 𝓤 H E j).1 zero) (Rest 𝓤 H E hs j))
      freed = via 𝓤 (sep 𝓤 (Cell 𝓤 H (spot_of 𝓤 H E j).0 (spot_of 𝓤 H E j).1 (at j hs)) (Rest 𝓤 H E hs j)) (out 𝓤 H E hs j i) (mono_l 𝓤 (Rest 𝓤 H E hs j) (empties 𝓤 H 𝓛.laws (spot_of 𝓤 H E j).0 (spot_of 𝓤 H E j).1 (at j hs)))

      filled : Writes K 𝓛 (‵ (froom (spot_of 𝓤 H E j).0 (spot_of 𝓤 H E j).1 zero) ∷ raw (Rest 𝓤 H E hs j) ∷ Γ) (spot_of 𝓤 H E j).0 (spot_of 𝓤 H E j).1 zero v (‵ (fat full_share (spot_of 𝓤 H E j).0 (spot_of 𝓤 H E j).1 zero v) ∷ raw (Rest 𝓤 H E hs j) ∷ Γ)
      filled = init t 0 refl wt

      apart : (P : SProp 𝓤) → Seq K 𝓛 (‵ (froom (spot_of 𝓤 H E j).0 (spot_of 𝓤 H E j).1 zero) ∷ raw (Rest 𝓤 H E hs j) ∷ Γ) (prop P) → Seq K 𝓛 (held 𝓤 H E hs ∷ Γ) (prop P)
      apart P s = unpack E hs t $ use1 𝓛 (‵ (froom (spot_of 𝓤 H E j).0 (spot_of 𝓤 H E j).1 zero) ⊛ raw (Rest 𝓤 H E hs j)) freed $ split t $ s

      united : (P : SProp 𝓤) → Seq K 𝓛 (held 𝓤 H E (with j (some v) hs) ∷ Γ) (prop P) → Seq K 𝓛 (‵ (fat full_share (spot_of 𝓤 H E j).0 (spot_of 𝓤 H E j).1 zero v) ∷ raw (Rest 𝓤 H E hs j) ∷ Γ) (prop P)
      united P s = use2 𝓛 (raw (Locals 𝓤 H E (with j (some v) hs))) (other 𝓤 H E hs j (some v) i) $ pack E (with j (some v) hs) t $ s

  module _ {C : Calls 𝓤 H} {Λ : Loops 𝓤 H} {q : Post 𝓤 H} {j : ℕ} {v : Val} where
    pub lets : K → Has 𝓤 H E j → {rv : RValue} {rest : Body} → Rv K 𝓛 (held 𝓤 H E hs ∷ Γ) E rv v → T (has_ty (spot_of 𝓤 H E j).0 v) × WT v
        → Step K 𝓛 (held 𝓤 H E (with j (some v) hs) ∷ Γ) (runs C Λ E rest q) (held 𝓤 H E hs ∷ Γ) (runs C Λ E (seq (assign (place j []) rv) rest) q)
    lets t i r wt = assigns t r (from t (stop t)) (fills t j i wt)

    pub lets_last : K → Has 𝓤 H E j → {rv : RValue} → Rv K 𝓛 (held 𝓤 H E hs ∷ Γ) E rv v → T (has_ty (spot_of 𝓤 H E j).0 v) × WT v
        → Step K 𝓛 (held 𝓤 H E (with j (some v) hs) ∷ Γ) (prop (post 𝓤 H q next)) (held 𝓤 H E hs ∷ Γ) (runs C Λ E (assign (place j []) rv) q)
    lets_last t i r wt = assigns_last t r (from t (stop t)) (fills t j i wt)

    pub lands_in : K → Has 𝓤 H E j → {rest : Body} → T (has_ty (spot_of 𝓤 H E j).0 v) × WT v
        → Step K 𝓛 (held 𝓤 H E (with j (some v) hs) ∷ Γ) (runs C Λ E rest q) (held 𝓤 H E hs ∷ Γ) (lands C Λ E (place j []) v rest q)
    lands_in t i wt = land t (from t (stop t)) (fills t j i wt)

  pub spent : K → {G : Goal 𝓤 H} (n : ℕ) → Step K 𝓛 (held 𝓤 H E (take n hs) ∷ Γ) G (held 𝓤 H E hs ∷ Γ) G
  spent t n = step (λ s. unpack E hs t $ use1 𝓛 (raw (Locals 𝓤 H E (take n hs))) (cuts 𝓤 H 𝓛.laws E hs n) $ pack E (take n hs) t $ s)

-- ---- the test of a `while`, in a local of its own
module _ {M : Type 1} {𝓤 : Ura M} {𝓛 : Logic 𝓤} {K : Type 0} {Γ : List (Item 𝓤)} {E : Env 𝓤 𝓛.H} {hs : List (Option Val)} where
  open 𝓛 use {H}

  module _ {C : Calls 𝓤 H} {Λ : Loops 𝓤 H} {q : Post 𝓤 H} {j n : ℕ} {rv : RValue} {b : Body} {y : Bool} where
    pub goes_on : K → Has 𝓤 H E j → Rv K 𝓛 (held 𝓤 H E hs ∷ Γ) E rv (vbool y) → y ≡ true → T (has_ty (spot_of 𝓤 H E j).0 (vbool true)) × WT (vbool true)
        → Step K 𝓛 (held 𝓤 H E (with j (some (vbool true)) hs) ∷ Γ) (runs C Λ E b q) (held 𝓤 H E hs ∷ Γ) (runs C Λ E (seq (assign (place j []) rv) (seq (cond (copy (place j [])) skip (exit n)) b)) q)
    goes_on t i r e wt = step (λ s. lets t i (subst (λ (z : Bool). Rv K 𝓛 (held 𝓤 H E hs ∷ Γ) E rv (vbool z)) e r) wt $ stays t (var t i (at_with j (some (vbool true)) hs)) $ s)

    pub breaks : K → Has 𝓤 H E j → Rv K 𝓛 (held 𝓤 H E hs ∷ Γ) E rv (vbool y) → y ≡ false → T (has_ty (spot_of 𝓤 H E j).0 (vbool false)) × WT (vbool false)
        → Step K 𝓛 (held 𝓤 H E (with j (some (vbool false)) hs) ∷ Γ) (prop (post 𝓤 H q (exits n))) (held 𝓤 H E hs ∷ Γ) (runs C Λ E (seq (assign (place j []) rv) (seq (cond (copy (place j [])) skip (exit n)) b)) q)
    breaks t i r e wt = step (λ s. lets t i (subst (λ (z : Bool). Rv K 𝓛 (held 𝓤 H E hs ∷ Γ) E rv (vbool z)) e r) wt $ leaves_loop t (var t i (at_with j (some (vbool false)) hs)) $ s)

-- ---- a function's beginning and end
module _ {M : Type 1} {𝓤 : Ura M} {𝓛 : Logic 𝓤} {K : Type 0} where
  open 𝓛 use {H}

  allocated : K → (ls : List Local) {Kt : Env 𝓤 H → Goal 𝓤 H} {Γ : List (Item 𝓤)} → ((bs : Blocks ls) → Seq K 𝓛 (raw (Locals 𝓤 H (env_of 𝓤 H ls bs) []) ∷ Γ) (Kt (env_of 𝓤 H ls bs))) → Seq K 𝓛 Γ (allocs ls Kt)
  unfolding Locals
  allocated t [] k = alloc0 t $ use0 𝓛 (raw (emp 𝓤)) (id⊢ 𝓤 (emp 𝓤)) $ k tt
  allocated t (local τ h ∷ ls) {Kt} k = alloc1 t (λ b. allocated t ls {Kt = λ E. Kt ((τ, b) ∷ E)} (λ bs. move t (1 ∷ 2 ∷ []) $
      join t $ use2 𝓛 (raw (Locals 𝓤 H ((τ, b) ∷ env_of 𝓤 H ls bs) [])) (id⊢ 𝓤 _) $ k (b, bs)))

  stored : K → (E : Env 𝓤 H) (vs : List Val) {g : Goal 𝓤 H} {Γ : List (Item 𝓤)} → Passed 𝓤 H E vs → Seq K 𝓛 (raw (Locals 𝓤 H E (map some vs)) ∷ Γ) g → Seq K 𝓛 (raw (Locals 𝓤 H E []) ∷ Γ) (passes E vs g)
  unfolding Locals
  stored t E [] ok s = pass0 t $ s
  stored t [] (v ∷ vs) ok s = absurd ok
  stored t ((τ, b) ∷ E) (v ∷ vs) ok s = use1 𝓛 ((‵ (froom τ b zero) ⊛ ‵ (fdies τ b)) ⊛ raw (Locals 𝓤 H E [])) (id⊢ 𝓤 _) $ split t $ split t $ pass1 t (init t 0 refl ok.0) $ move t (2 ∷ []) $
      stored t E vs ok.1 (move t (1 ∷ 2 ∷ []) $ join t $ use2 𝓛 (raw (Locals 𝓤 H ((τ, b) ∷ E) (some v ∷ map some vs))) (id⊢ 𝓤 _) $ s)

  freed_all : K → (E : Env 𝓤 H) (hs : List (Option Val)) {g : Goal 𝓤 H} {Γ : List (Item 𝓤)} → Seq K 𝓛 Γ g → Seq K 𝓛 (raw (Locals 𝓤 H E hs) ∷ Γ) (frees E g)
  unfolding Locals
  freed_all t [] hs s = drop t $ free0 t $ s
  freed_all t ((τ, b) ∷ E) hs s = use1 𝓛 ((raw (Cell 𝓤 H τ b (hd hs)) ⊛ ‵ (fdies τ b)) ⊛ raw (Locals 𝓤 H E (tl hs))) (id⊢ 𝓤 _) $ split t $ split t $ use1 𝓛 (‵ (froom τ b zero)) (empties 𝓤 H 𝓛.laws τ b (hd hs)) $
      free1 t $ freed_all t E (tl hs) s

  starts : K → (E : Env 𝓤 H) (vs : List Val) {g : Goal 𝓤 H} {Γ : List (Item 𝓤)} → Begins 𝓤 H E vs → Seq K 𝓛 (held 𝓤 H E (none ∷ map some vs) ∷ Γ) g → Seq K 𝓛 (raw (Locals 𝓤 H E []) ∷ Γ) (params' E vs g)
  unfolding Locals
  starts t [] vs ok s = absurd ok
  starts t ((τ, b) ∷ E) vs ok s = params1 t $ use1 𝓛 ((‵ (froom τ b zero) ⊛ ‵ (fdies τ b)) ⊛ raw (Locals 𝓤 H E [])) (id⊢ 𝓤 _) $ split t $ move t (1 ∷ []) $
      stored t E vs ok (move t (1 ∷ []) $ use2 𝓛 (raw (Locals 𝓤 H ((τ, b) ∷ E) (none ∷ map some vs))) (id⊢ 𝓤 _) $ pack ((τ, b) ∷ E) (none ∷ map some vs) t $ s)

  module _ {Γ : List (Item 𝓤)} where
    pub enters : K → (C : Calls 𝓤 H) (Λ : Loops 𝓤 H) (f : Fn) (vs : List Val) (Kf : Val → SProp 𝓤) → ((bs : Blocks f.locals) → Begins 𝓤 H (env_of 𝓤 H f.locals bs) vs)
        → ((bs : Blocks f.locals) → Seq K 𝓛 (held 𝓤 H (env_of 𝓤 H f.locals bs) (none ∷ map some vs) ∷ Γ) (runs C Λ (env_of 𝓤 H f.locals bs) f.body (at_ret (env_of 𝓤 H f.locals bs) Kf))) → Seq K 𝓛 Γ (prop (WpFn 𝓤 H C Λ f vs Kf))
    enters t C Λ f vs Kf ok k = enter t C Λ f vs Kf $ allocated t f.locals (λ bs. starts t (env_of 𝓤 H f.locals bs) vs (ok bs) (k bs))

    pub leaves : K → {C : Calls 𝓤 H} {Λ : Loops 𝓤 H} {E : Env 𝓤 H} {hs : List (Option Val)} {Kf : Val → SProp 𝓤} → Has 𝓤 H E 0 → {r : Val} → at 0 hs ≡ some r → Step K 𝓛 Γ (prop (Kf r)) (held 𝓤 H E hs ∷ Γ) (runs C Λ E return (at_ret E Kf))
    leaves t {C} {Λ} {E} {hs} {Kf} i {r} e = step (λ s. returns t (holds t 0 i e) $ unpack E hs t $ freed_all t E hs s)

-- ---- a loop whose measure μ falls, with the invariant I
falling : {X : Type 0} (μ : X → ℕ) → WellFounded (λ (y x : X). μ y < μ x)
falling μ = InvImage.wf μ lt-wf_rel.wf

-- a turn from x, where the function goes on with `rest` after the loop
abbrev pub turning : {M : Type 1} {𝓤 : Ura M} (𝓛 : Logic 𝓤) (𝓣 : Tables 𝓤 𝓛.H) (E : Env 𝓤 𝓛.H) (turn rest : Body) (Kf : Val → SProp 𝓤) {X : Type 0} (μ : X → ℕ) (I : X → List (Item 𝓤)) → X → Goal 𝓤 𝓛.H
turning {𝓤 = 𝓤} 𝓛 𝓣 E turn rest Kf μ I x = runs 𝓣.C 𝓣.Λ E turn (any_q (after_turn 𝓤 𝓛.H (Below 𝓛 (λ y x. μ y < μ x) I x) (after_block 𝓤 𝓛.H (after_seq 𝓤 𝓛.H (Wp 𝓤 𝓛.H 𝓣.C 𝓣.Λ E rest (at_return 𝓤 𝓛.H E Kf)) (at_return 𝓤 𝓛.H E Kf)))))

module _ {M : Type 1} {𝓤 : Ura M} {𝓛 : Logic 𝓤} {K : Type 0} {X : Type 0} where
  open 𝓛 use {H}

  pub whiles : K → (𝓣 : Tables 𝓤 H) (μ : X → ℕ) (I : X → List (Item 𝓤)) {E : Env 𝓤 H} {turn rest : Body} {Kf : Val → SProp 𝓤}
      → ((x : X) → Seq K 𝓛 (I x) (turning 𝓛 𝓣 E turn rest Kf μ I x)) → (x : X) → Seq K 𝓛 (I x) (runs 𝓣.C 𝓣.Λ E (seq (block (loop turn)) rest) (at_ret E Kf))
  whiles t 𝓣 μ I turns x = first t $ blocks t $ loops t 𝓣 (λ y x. μ y < μ x) (falling μ) I turns x

  -- the turn's end, at y. A proof of a turn says `unfolding after_turn`
  pub again : K → (μ : X → ℕ) (I : X → List (Item 𝓤)) (x y : X) → μ y < μ x → Seq K 𝓛 (I y) (prop (Below 𝓛 (λ y x. μ y < μ x) I x))
  again t μ I x y l = run.again t (λ y x. μ y < μ x) I x y l
