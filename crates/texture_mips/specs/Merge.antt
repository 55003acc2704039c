-- The contracts of the merges on one mip, over the model's walk.
use Rattle.std.specs.Prelude.{◌*◌, ◌≤◌, ◌≡◌, ◌++◌}
use Rattle.model.specs.Prelude.{ℕ, suc, Bool, true, false, Option, None, Some, option_map, List, length}
use Rattle.model.specs.{declared.{Range.Range, UsageFlags.UsageFlags, InvalidUse.InvalidUse}, Base.{Stop, fine, walk}}
use Rattle.model.specs.{StateRules.unite_known, Representation.{select, layer_start, layer_end, in_mips}, RangedStates.{in_state, isolate}}
use Rattle.model.specs.Texture.{Piece, invalid_use, merge_range, settled, merge_mip, merge_every}
use Rattle.range_states.specs.View.{decode}
use Rattle.texture_mips.specs.declared.uniting.Merged.{Merged}

-- ---- One range: it stops where there is no union, and otherwise takes it
abbrev pub is_none : Option ℕ → Bool
is_none None = true
is_none (Some s) = false

abbrev pub state_or : ℕ → Option ℕ → ℕ
state_or old None = old
state_or old (Some s) = s

unfoldable pub run_stops : UsageFlags → ℕ → Range → Bool
run_stops p new r = is_none (unite_known p r.state new)

unfoldable pub run_takes : UsageFlags → ℕ → Range → Range
run_takes p new r = in_state (state_or r.state (unite_known p r.state new)) r

-- ---- A run of mip k: `merge_mip` where the piece has the mip
unfoldable pub merge_run : UsageFlags → ℕ → ℕ → ℕ → ℕ → List Range → Stop InvalidUse (List Range)
merge_run p k a e new s =
    let c = isolate a e p.unknown s in let w = walk (λ i. merge_range p k new) 0 c.run in
    record { value = settled w.conflict (c.before ++ (w.value ++ c.after)); conflict = w.conflict }

pub merge_mip_lem : (p : UsageFlags) (q : Piece) (k : ℕ) (s : List Range) → in_mips q.selector k ≡ true
    → merge_mip p q k s ≡ merge_run p k (layer_start q.selector) (layer_end q.selector) q.state s
unfolding merge_mip merge_run
merge_mip_lem p q k s e = rw e

pub merge_other : (p : UsageFlags) (q : Piece) (k : ℕ) (s : List Range) → in_mips q.selector k ≡ false → merge_mip p q k s ≡ fine s
unfolding merge_mip
merge_other p q k s e = rw e

-- ---- The contracts
-- the conflict that was met, on mip k: the range, its old state and the given one
abbrev pub conflict_of : ℕ → ℕ → Option Range → Option InvalidUse
conflict_of k new met = option_map (λ (r : Range). invalid_use (select k (suc k) r.start r.end) r.state new) met

-- what the model's walk leaves on any mip, and the conflict that it tells
pub record Walked (new : ℕ) (w : ℕ → Stop InvalidUse (List Range)) (l : List ℕ) (r : Merged) (l' : List ℕ) : Type 0 where
  pub long : length l' ≡ length l
  pub fits : 3 * r.len ≤ length l
  pub conflict : (k : ℕ) → conflict_of k new r.met ≡ (w k).conflict
  pub seen : (k : ℕ) → decode r.len l' ≡ (w k).value

-- Many with Many, on a mip of the piece
abbrev pub PieceMerged : UsageFlags → ℕ → ℕ → ℕ → List ℕ → ℕ → Merged → List ℕ → Type 0
PieceMerged p a e new l len r l' = Walked new (λ k. merge_run p k a e new (decode len l)) l r l'

-- Many with Single
abbrev pub EveryMerged : UsageFlags → ℕ → List ℕ → ℕ → Merged → List ℕ → Type 0
EveryMerged p new l len r l' = Walked new (λ k. merge_every p new k (decode len l)) l r l'
