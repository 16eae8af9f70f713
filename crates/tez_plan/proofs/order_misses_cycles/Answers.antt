use Rattle.std.proofs.Common.{◌≡◌, true, refl}
use Rattle.tez_lists.proofs.Cases.{cases}
use Rattle.tez_plan.specs.Order.{among, topo}
use Rattle.tez_plan.proofs.CheckLemmas.{valid_parts}
use Rattle.tez_plan.proofs.RankLemmas.{edges_inside}
use Rattle.tez_plan.proofs.TopoLemmas.{missing, stays_out}
use Rattle.tez_plan.proofs.order_misses_cycles.Goals as goal

pub returns-clause-missing : goal.returns-clause-missing
returns-clause-missing c = λ p v known inside. (missing p (edges_inside p known) v inside, stays_out p v)

pub returns-clause-all : goal.returns-clause-all
returns-clause-all c = λ p v valid inside. cases (among (topo p) v) (λ is. is) (λ out. absurd ((valid_parts p valid).no_cycle v (missing p (edges_inside p (valid_parts p valid).known_names) v inside out)))
