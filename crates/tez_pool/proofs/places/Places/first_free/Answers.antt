use Rattle.std.proofs.Common.{ap, ◌∙◌, position}
use Rattle.tez_pool.specs.Table.{is_free}
use Rattle.tez_pool.proofs.PlaceLemmas.{position_of_map}
use Rattle.tez_pool.proofs.places.Places.first_free.Goals as goal

pub returns : goal.returns
returns c = c.least.ensures ∙ ap (position (λ b. b)) c.self.invariant.0 ∙ position_of_map is_free c.self.inside.all.items ∙ ap (position is_free) c.self.view_is
