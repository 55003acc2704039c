-- The loop of `fit`: what is left to test decides.
use Rattle.model.specs.Prelude.{ℕ, arith, true, false, List, length, get_or, drop, eq-eqb, ne_eqb, lt-ltb, le-ltb}
use Rattle.model.specs.{declared.{Range.Range, UsageFlags.UsageFlags}, WellFormed.{state_fits, ranges_fit}}
use Rattle.std.specs.Prelude.{◌+◌, ◌*◌, ◌≤◌, ◌<◌, ◌≡◌, ◌∷◌}
use Rattle.range_states.specs.View.{view, decode, blank}
use Rattle.range_states.proofs.Inserting.{next_is}

pub record Tiling (p : UsageFlags) (e : ℕ) (l : List ℕ) (len at k : ℕ) : Type 0 where
  pub high : k ≤ len
  pub on : ranges_fit p e at (drop k (decode len l)) ≡ ranges_fit p e 0 (decode len l)

module _ {p : UsageFlags} {e : ℕ} {l : List ℕ} {len at k : ℕ} {r : Range} (room : 3 * len ≤ length l) (j : Tiling p e l len at k)
    (h : k < len) (g : r ≡ get_or (view l) k blank) where
  here : ranges_fit p e at (r ∷ drop (k + 1) (decode len l)) ≡ ranges_fit p e 0 (decode len l)
  here = rw (next_is l len k r room h g) at j.on

  pub bad_start : (r.start ≡ at → ⊥) → false ≡ ranges_fit p e 0 (decode len l)
  bad_start n = rw (ne_eqb r.start at n) at here

  pub bad_end : r.start ≡ at → r.end ≤ at → false ≡ ranges_fit p e 0 (decode len l)
  bad_end a b = rw (eq-eqb r.start at a, le-ltb at r.end b) at here

  pub bad_state : r.start ≡ at → at < r.end → state_fits p r.state ≡ false → false ≡ ranges_fit p e 0 (decode len l)
  bad_state a b c = rw (eq-eqb r.start at a, lt-ltb at r.end b, c) at here

  pub tiling_turn : r.start ≡ at → at < r.end → state_fits p r.state ≡ true → Tiling p e l len r.end (k + 1)
  tiling_turn a b c = record { high = omega arith; on = rw (eq-eqb r.start at a, lt-ltb at r.end b, c) at here }
