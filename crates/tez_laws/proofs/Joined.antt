-- The laws in the form in which they are told.
use Rattle.tez_plan.specs.Dag.{Dag}
use Rattle.tez_conf.specs.declared.values.ConfValues.{ConfValues}
use Rattle.tez_history.specs.History.{Past}
use Rattle.tez_history.specs.Follows.{IsMade}
use Rattle.tez_laws.specs.Laws.{LiveIsOfTask, PlacesAgree}
use Rattle.tez_laws.proofs.Tasks.{live_task, live_alive}
use Rattle.tez_laws.proofs.Places.{held, stands}

pub live_of_task : (past : Past) → LiveIsOfTask past
live_of_task past t a h = (live_task past t a h, live_alive past t a h)

pub places_agree : (g : Dag) (c : ConfValues) (past : Past) → IsMade g c past → PlacesAgree c past
places_agree g c past m p a =
    ((held g c past m p a, λ at. (stands g c past m p a at).0), λ h. (stands g c past m p a (held g c past m p a h)).1)
