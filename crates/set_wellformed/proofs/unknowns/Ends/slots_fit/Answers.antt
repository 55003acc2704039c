-- Every index is looked at.
use Rattle.model.specs.Prelude.{get_or}
use Rattle.std.proofs.Common.{rules}
use Rattle.std.proofs.lemmas.Iterator.{serves_from_Range}
use Rattle.set_storage.specs.Storage.{textures_at}
use Rattle.set_wellformed.specs.{Parts.every_at, Unknowns.itself, Words.tracker_word_fits}
use Rattle.set_wellformed.proofs.{Every.all_of}
use Rattle.set_wellformed.proofs.unknowns.Ends.slots_fit.Goals as goal

pub all-requires-clause-callable : goal.all-requires-clause-callable
all-requires-clause-callable c =
    let t = c.args.self.now.start.table.now in
    serves_from_Range (λ x q k. search rules)
    (λ i a b. let w = every_at (tracker_word_fits t) itself (get_or t textures_at 0) i c.requires b in search rules)

pub returns : goal.returns
returns c = all_of _ _ _ c.all.ensures.ran (λ k b y h. search rules)
