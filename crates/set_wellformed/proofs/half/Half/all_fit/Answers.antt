-- The words decide where one does not fit, or where none is Many; otherwise every index is looked at.
use Rattle.model.specs.Prelude.{get_or}
use Rattle.std.proofs.Common.{rules}
use Rattle.std.proofs.lemmas.Iterator.{serves_from_Range}
use Rattle.set_storage.specs.Storage.{textures_at}
use Rattle.set_wellformed.specs.{Parts.every_at, Unknowns.itself, Words.scope_word_fits}
use Rattle.set_wellformed.proofs.{Every.all_of, Told.{is_unfit, is_plain, is_ranged}, Telling.{scope_not, scope_all}}
use Rattle.set_wellformed.proofs.half.Half.all_fit.Goals as goal

pub all-requires-clause-callable : goal.all-requires-clause-callable
all-requires-clause-callable c =
    let t = c.args.self.now.table.now in let f = is_ranged _ _ c.read_words.ensures c.in-Ranged.is in
    serves_from_Range (λ x q k. search rules)
    (λ i a b. let w = every_at (scope_word_fits t) itself (get_or t textures_at 0) i f b in search rules)

pub returns-in-Unfit : goal.returns-in-Unfit
returns-in-Unfit c = scope_not _ _ _ (is_unfit _ _ c.read_words.ensures c.in-Unfit.is)

pub returns-in-Plain : goal.returns-in-Plain
returns-in-Plain c = let x = is_plain _ _ c.read_words.ensures c.in-Plain.is in scope_all _ _ _ x.0 x.1

pub returns-in-Ranged : goal.returns-in-Ranged
returns-in-Ranged c = all_of _ _ _ c.all.ensures.ran (λ k b y h. search rules)
