-- A use of a texture of a tracker, as it is logged: what it adds, and what is required.
use Rattle.model.specs.Prelude.{List}
use Rattle.model.specs.declared.{PendingTransition.PendingTransition}
use Rattle.set_storage.specs.{Storage.end_half, Uses.use_of}
use Rattle.texture_barrier.specs.Entries.{entries_at}
use Rattle.set_ready.specs.{Half.HalfReady, Checked.TakenUse}
use Rattle.texture_track.specs.{declared.using.Using.Using, GivenSlot.end_entries}

-- its transitions
abbrev pub using_entries : Using → List PendingTransition
using_entries u = entries_at u.i (end_entries u.p u.mask u.extent (use_of u.part u.new) u.table.now u.ends.now u.i)

-- the texture is ready, and the use passed the checks
pub record UsingReady (u : Using) : Type 0 where
  pub half : HalfReady end_half u.table.now u.ends.now u.i u.extent
  pub taken : TakenUse u.table.now u.extent u.part u.p u.new
