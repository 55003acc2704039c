-- The ranges of a mip that fits tile its layers, in both halves.
use Rattle.model.specs.Prelude.{get_or}
use Rattle.set_storage.specs.Storage.{flags_of, start_half, end_half, layers_at}
use Rattle.set_wellformed.proofs.{Ends.mip_tiles, Mips.mip_few}
use Rattle.set_wellformed.proofs.unknowns.Ends.mip_agrees.Goals as goal

pub mip-requires-clause-few : goal.mip-requires-clause-few
mip-requires-clause-few c =
    let s = c.args.self.now in let t = s.start.table.now in let q = c.requires in
    rw s.first (mip_few (flags_of t) start_half t s.start.ranges.now _ _ q.texture q.starts_fit q.mip)

pub mip-requires-2-clause-few : goal.mip-requires-2-clause-few
mip-requires-2-clause-few c =
    let s = c.args.self.now in let t = s.start.table.now in let q = c.requires in
    rw (s.one_table, s.last) (mip_few (flags_of t) end_half t s.end.ranges.now _ _ q.texture q.ends_fit q.mip)

pub agree-requires : goal.agree-requires
agree-requires c =
    let s = c.args.self.now in let t = s.start.table.now in let q = c.requires in
    record {
      top = get_or t (layers_at c.args.i) 0;
      left = c.mip.result.room;
      right = c.mip-2.result.room;
      left_tiles = rw (c.mip.ensures, s.first)
          (mip_tiles (flags_of t) start_half t s.start.ranges.now _ _ q.texture q.starts_fit q.mip);
      right_tiles = rw (c.mip-2.ensures, s.one_table, s.last)
          (mip_tiles (flags_of t) end_half t s.end.ranges.now _ _ q.texture q.ends_fit q.mip);
    }
