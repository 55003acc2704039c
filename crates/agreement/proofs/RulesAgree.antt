-- The grid's rules are the ranged model's. Below here the proofs go by the ranged model's rules, on both sides.
use Rattle.std.specs.Prelude.{◌≡◌, ◌&&◌, ◌||◌, if◌then◌else◌}
use Rattle.model.specs.Prelude.{ℕ, arith, refl, ap, ◌∙◌, fun_ext, Bool, true, false, not, Option, None, Some, List, eqb}
use Rattle.model.specs.Prelude.{bit_and, bit_or, and_comm, and_le_l, xor_add_and, eqb-true}
use Rattle.model.specs.{declared.{Extent.Extent, UsageFlags.UsageFlags}, Base.{Stop, or_keep, zip₂, zip₃}, Flags.incompatible}
use Rattle.model.specs.{Representation.Ends, StateRules.{Move, invalid_state, skip_barrier, less, unite, unite_known, move_of, end_after}}
use Rattle.agreement.specs.Grid.{Grid, Named, SubresourceConflict, unite_states, without, single_union, many_union, skipped, transition}
use Rattle.agreement.specs.Grid.{end_state, start_state, named_transition, named_end, named_start, grid_merge, grid_barrier, grid_update}
use Rattle.usage.specs.BitLaws.{and_absorb}

-- ---- one state
pub less_without : (u s : ℕ) → without u s ≡ less u s
unfolding without less
less_without u s =
    let h = xor_add_and s (bit_and s u) in let k = rw (and_absorb s u) at h in let l = and_le_l s u in
    rw (and_comm u s) (omega arith)

single_state : (p : UsageFlags) → single_union p ≡ unite p
unfolding single_union unite
single_state p = refl

by_zero : (p : UsageFlags) (old u : ℕ)
    → (if incompatible p u then None else if eqb u 0 then Some old else Some u)
    ≡ (if eqb u 0 then Some old else if invalid_state p u then None else Some u)
unfolding incompatible invalid_state
by_zero p old u = go (eqb u 0) refl
  where
    go : (b : Bool) → eqb u 0 ≡ b
        → (if incompatible p u then None else if b then Some old else Some u)
        ≡ (if b then Some old else if invalid_state p u then None else Some u)
    go true e = rw (eqb-true u 0 e)
    go false e = refl

many_state : (p : UsageFlags) → many_union p ≡ unite_known p
unfolding many_union unite_known
many_state p = fun_ext λ old. fun_ext λ new. by_zero p old (without p.unknown (bit_or old new))
    ∙ rw (less_without p.unknown (bit_or old new))

same_move : (p : UsageFlags) (mask old new : ℕ) → transition p mask old new ≡ move_of p.unknown mask old new
unfolding transition move_of skipped skip_barrier
same_move p mask old new = rw (and_comm old mask) (go (eqb old p.unknown) (eqb new p.unknown))
  where
    m : Option Move
    m = Some (record { old = old; new = new })

    go : (a b : Bool) → (if a then None else if b then None else if eqb old new && eqb (bit_and mask old) old then None else m)
        ≡ (if a || b || (eqb old new && eqb (bit_and mask old) old) then None else m)
    go true b = refl
    go false true = refl
    go false false = refl

-- a start, by the end before it
abbrev pub start_after : ℕ → ℕ → ℕ → ℕ → ℕ
start_after unknown start old new = if eqb new unknown then start else if eqb old unknown then new else start

same_end : (p : UsageFlags) (c new : ℕ) → end_state p c new ≡ end_after p.unknown c new
unfolding end_state
same_end p c new = go (eqb new p.unknown)
  where
    go : (b : Bool) → (if not b then new else c) ≡ (if b then c else new)
    go true = refl
    go false = refl

same_start : (p : UsageFlags) (s c new : ℕ) → start_state p s c new ≡ start_after p.unknown s c new
unfolding start_state
same_start p s c new = go (eqb new p.unknown) (eqb c p.unknown)
  where
    go : (a b : Bool) → (if not a && b then new else s) ≡ (if a then s else if b then new else s)
    go true b = refl
    go false b = refl

-- ---- one texture, by the ranged model's rules for a state
unfoldable pub rule_merge : UsageFlags → Extent → Grid → Named → Stop SubresourceConflict Grid
unfolding unite unite_known
rule_merge p sh s g =
    if s.single then
    (let w = unite_states (unite p) s.states g.states in
    or_keep w.conflict s (record { single = g.single; states = w.value }))
    else
    (let w = unite_states (unite_known p) s.states g.states in
    record { value = record { single = false; states = w.value }; conflict = w.conflict })

abbrev pub rule_move : UsageFlags → ℕ → ℕ → Option ℕ → Option Move
rule_move p mask c None = None
rule_move p mask c (Some new) = move_of p.unknown mask c new

unfoldable pub rule_log : UsageFlags → ℕ → Extent → Grid → Named → List (List (Option Move))
unfolding move_of
rule_log p mask sh s g = zip₂ (zip₂ (rule_move p mask)) s.states g.states

abbrev pub rule_end : UsageFlags → ℕ → Option ℕ → ℕ
rule_end p c None = c
rule_end p c (Some new) = end_after p.unknown c new

abbrev pub rule_start : UsageFlags → ℕ → ℕ → Option ℕ → ℕ
rule_start p start c None = start
rule_start p start c (Some new) = start_after p.unknown start c new

abbrev rule_update : UsageFlags → Extent → Ends Grid → Named → Ends Grid
rule_update p sh e g = record {
  start = record { single = e.start.single; states = zip₃ (zip₃ (rule_start p)) e.start.states e.end.states g.states };
  end = record { single = g.single; states = zip₂ (zip₂ (rule_end p)) e.end.states g.states };
}

pub merge_rule : (p : UsageFlags) (sh : Extent) (s : Grid) (g : Named) → grid_merge p sh s g ≡ rule_merge p sh s g
unfolding grid_merge rule_merge
merge_rule p sh s g = rw (single_state p, many_state p)

move_rule : (p : UsageFlags) (mask : ℕ) → named_transition p mask ≡ rule_move p mask
move_rule p mask = fun_ext λ c. fun_ext (go c)
  where
    go : (c : ℕ) (o : Option ℕ) → named_transition p mask c o ≡ rule_move p mask c o
    go c None = refl
    go c (Some new) = same_move p mask c new

pub log_rule : (p : UsageFlags) (mask : ℕ) (sh : Extent) (s : Grid) (g : Named) → grid_barrier p mask sh s g ≡ rule_log p mask sh s g
unfolding grid_barrier rule_log
log_rule p mask sh s g = ap (λ (f : ℕ → Option ℕ → Option Move). zip₂ (zip₂ f) s.states g.states) (move_rule p mask)

end_rule : (p : UsageFlags) → named_end p ≡ rule_end p
end_rule p = fun_ext λ c. fun_ext (go c)
  where
    go : (c : ℕ) (o : Option ℕ) → named_end p c o ≡ rule_end p c o
    go c None = refl
    go c (Some new) = same_end p c new

start_rule : (p : UsageFlags) → named_start p ≡ rule_start p
start_rule p = fun_ext λ s. fun_ext λ c. fun_ext (go s c)
  where
    go : (s c : ℕ) (o : Option ℕ) → named_start p s c o ≡ rule_start p s c o
    go s c None = refl
    go s c (Some new) = same_start p s c new

pub update_rule : (p : UsageFlags) (sh : Extent) (e : Ends Grid) (g : Named) → grid_update p sh e g ≡ rule_update p sh e g
update_rule p sh e g = λ i. record {
  start = record { single = e.start.single; states = zip₃ (zip₃ (start_rule p i)) e.start.states e.end.states g.states };
  end = record { single = g.single; states = zip₂ (zip₂ (end_rule p i)) e.end.states g.states };
}
