use Rattle.tez_world_invariant.proofs.PartsPlaces.{send_placed, send_gathers, send_alone, send_vertex, send_configured, send_index}
use Rattle.tez_world_invariant.proofs.places.order_is_due.Goals as goal

pub returns-clause-placed : goal.returns-clause-placed
returns-clause-placed c = send_placed

pub returns-clause-gathered : goal.returns-clause-gathered
returns-clause-gathered c = send_gathers

pub returns-clause-alone : goal.returns-clause-alone
returns-clause-alone c = send_alone

pub returns-clause-vertex : goal.returns-clause-vertex
returns-clause-vertex c = send_vertex

pub returns-clause-configured : goal.returns-clause-configured
returns-clause-configured c = send_configured

pub returns-clause-task : goal.returns-clause-task
returns-clause-task c = send_index
