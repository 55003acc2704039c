-- The contract of an update of one mip of both halves, as two parts.
use Rattle.model.specs.Prelude.{ℕ, List}
use Rattle.model.specs.{RangedStates.{isolate, paint, coalesce}, Texture.learn}
use Rattle.range_states.specs.View.{decode}
use Rattle.texture_mips.specs.Paint.{Leaves}
use Rattle.texture_update.specs.declared.pair.Both.{Both}

-- the start learns by the run that the piece isolates on the end; the end's run takes the state
pub record PairLeft (s : List ℕ) (slen : ℕ) (e : List ℕ) (elen a z u new : ℕ) (x : Both) (s' e' : List ℕ) : Type 0 where
  pub start : Leaves s x.start (learn u new (isolate a z u (decode elen e)).run (decode slen s)) s'
  pub end : Leaves e x.end (coalesce (paint u a z new (decode elen e))) e'
