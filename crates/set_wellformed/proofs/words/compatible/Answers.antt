-- A union of no bit or one decides; otherwise index by index, the first that is not compatible.
use Rattle.model.specs.Prelude.{arith, sym, ◌∙◌}
use Rattle.model.specs.Base.{every}
use Rattle.std.specs.Prelude.{◌≡◌}
use Rattle.usage.specs.Gathered.{none_few, one_few}
use Rattle.set_storage.specs.Storage.{list_from}
use Rattle.set_wellformed.specs.{Parts.{every_none, every_next, every_at}, Unknowns.itself, Words.word_left}
use Rattle.set_wellformed.proofs.{Telling.not_every, Parting.{words_left, words_few}}
use Rattle.set_wellformed.proofs.words.compatible.Goals as goal
use Rattle.set_wellformed.proofs.words.compatible.Goals.{then-exclusive-eq0-via-then-exclusive-eq0}
use Rattle.set_wellformed.proofs.words.compatible.Goals.{then-exclusive-eq0-via-else-exclusive-eq0+then-one_bit}

pub returns-then-exclusive-eq0 : goal.returns-then-exclusive-eq0
returns-then-exclusive-eq0 c =
    let x = c.requires in let p = x.n_bound.1 in
    let few = words_few _ _ _ x.proper in
    let starts = rw p at x.starts in let ends = rw p at x.ends in
    elim c.then-exclusive-eq0.branch [
      | then-exclusive-eq0-via-then-exclusive-eq0 w ↦ few (none_few _ w.if-exclusive-eq0.true) starts ends
      | then-exclusive-eq0-via-else-exclusive-eq0+then-one_bit w ↦ few (one_few _ (sym w.one_bit.ensures ∙ w.if-one_bit.true)) starts ends
    ]

pub loop-i-init : goal.loop-i-init
loop-i-init c = every_none _ _

pub returns-then-not-pair_compatible : goal.returns-then-not-pair_compatible
returns-then-not-pair_compatible c =
    let t = c.args.table.now in let n = c.args.n in let e = c.args.end in
    not_every (word_left e t c.loop-i.i) (every (word_left e t) (list_from itself 0 n))
    (λ f. every_at (word_left e t) itself n c.loop-i.i f c.loop-i-test.true)
    (sym c.pair_compatible.ensures ∙ c.if-not-pair_compatible.true) ∙ words_left e t n c.requires.proper

pub loop-i-preserved : goal.loop-i-preserved
loop-i-preserved c =
    rw (every_next (word_left c.args.end c.args.table.now) itself c.loop-i.i, c.loop-i.invariant)
    (sym c.pair_compatible.ensures ∙ c.if-not-pair_compatible.false)

pub returns : goal.returns
returns c =
    let t = c.args.table.now in let n = c.args.n in
    let z : c.loop-i.i ≡ n = omega (arith, c.loop-i-test.false, c.loop-i.auto.i-end) in
    sym (rw z at c.loop-i.invariant) ∙ words_left c.args.end t n c.requires.proper
