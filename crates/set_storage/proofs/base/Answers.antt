-- `base`: its part lies within the room.
use Rattle.model.specs.Prelude.{refl}
use Rattle.set_storage.specs.Part.{base_of, places_fit}
use Rattle.set_storage.proofs.base.Goals as goal

pub returns : goal.returns
unfolding base_of
returns c = let q = c.requires in (refl, (places_fit _ _ q.count _ _ _ q.texture q.mip q.some q.fits).end)
