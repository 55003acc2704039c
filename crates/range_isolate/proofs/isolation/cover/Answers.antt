-- `cover` goes on until one of its ways out: what is left to do, from here, is what was to do from the start.
use Rattle.model.specs.Prelude.{arith}
use Rattle.range_isolate.proofs.Covering.{cover_end, cover_before, cover_cut, cut_fits, room_gap}
use Rattle.range_isolate.proofs.{Covering.{room_before, room_end}}
use Rattle.range_isolate.proofs.isolation.cover.Invariants.{turn}
use Rattle.range_isolate.proofs.isolation.cover.Goals as goal
use Rattle.range_isolate.proofs.isolation.cover.Goals.{else-loop-p-test, then-loop-p-test+then-end-r}

pub fill_gap-g-requires-clause-start_in_bounds : goal.fill_gap-g-requires-clause-start_in_bounds
fill_gap-g-requires-clause-start_in_bounds c =
    let j = c.loop-p.invariant in room_gap j.room j.low c.loop-p-test.true c.get-r.ensures c.if-end-r.false

pub cut_end-h-requires-clause-blank_in_bounds : goal.cut_end-h-requires-clause-blank_in_bounds
cut_end-h-requires-clause-blank_in_bounds c =
    let j = c.loop-p.invariant in let t = c.loop-p-test.true in let o = c.get-r.ensures in let u = c.if-end-r.false in
    cut_fits _ _ _ _ _ c.get-r.result _ _ (room_gap j.room j.low t o u) t c.fill_gap-g.ensures _ o u j.room c.if-end-r-2.true

pub returns-then-end-r-2 : goal.returns-then-end-r-2
returns-then-end-r-2 c =
    let j = c.loop-p.invariant in let t = c.loop-p-test.true in let o = c.get-r.ensures in let u = c.if-end-r.false in
    j.on _ _ (cover_cut _ _ _ _ _ c.get-r.result
    _ _ (room_gap j.room j.low t o u) t c.fill_gap-g.ensures _ o
    u _ _ _ (omega (
      arith,
      c.cut_end-h.ensures.fits,
      c.fill_gap-g.ensures.into.long,
    ))
    c.if-end-r-2.true c.max.ensures
    c.cut_end-h.ensures)

pub loop-p-preserved : goal.loop-p-preserved
loop-p-preserved c =
    turn c.loop-p.invariant c.loop-p-test.true c.get-r.ensures
    c.if-end-r.false c.fill_gap-g.ensures c.if-end-r-2.false

pub insert_record-requires-clause-len_in_bounds : goal.insert_record-requires-clause-len_in_bounds
insert_record-requires-clause-len_in_bounds c =
    let j = c.loop-p.invariant in
    elim c.loop-p-test.branch [
      | else-loop-p-test w ↦ room_end j.room j.low (omega arith)
      | then-loop-p-test+then-end-r w ↦ room_before j.room j.low w.loop-p-test.true w.get-r.ensures w.if-end-r.true
    ]

pub returns : goal.returns
returns c =
    let j = c.loop-p.invariant in let b = c.insert_record.ensures in
    elim c.loop-p-test.branch [
      | else-loop-p-test w ↦ j.on _ _ (cover_end j.room (omega arith) b)
      | then-loop-p-test+then-end-r w ↦
          j.on _ _ (cover_before j.room w.loop-p-test.true w.get-r.ensures w.if-end-r.true b)
    ]
