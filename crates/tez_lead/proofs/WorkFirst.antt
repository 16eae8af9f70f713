-- What there is to work on comes before all else.
use Rattle.std.specs.Prelude.{◌≡◌, Option, Some, None, slice_get, refl}
use Rattle.std.specs.Option.{option_map}
use Rattle.std.proofs.Common.{ap, sym, ◌∙◌}
use Rattle.tez_ids.specs.declared.AttemptId.{AttemptId}
use Rattle.tez_plan.specs.Dag.{vertex}
use Rattle.tez_events.specs.declared.CoreEvent.{CoreEvent}
use Rattle.tez_events.specs.declared.CoreEvent.TheVariants.{Configure, Queue, Send, Preempt}
use Rattle.tez_router.specs.Table.{fetches_in, first_complete}
use Rattle.tez_schedule.specs.Table.{next_configure, next_queue}
use Rattle.tez_master_model.specs.State.{MasterState}
use Rattle.tez_master_model.specs.Choice.{or_else, fetch_event, place_choice, running_choice}
use Rattle.tez_core.specs.Choosing.{work_choice, end_choice}

or_four : {X : Type 0} (a b c d rest : Option X)
    → or_else (or_else a (or_else b (or_else c d))) rest ≡ or_else a (or_else b (or_else c (or_else d rest)))
or_four None None None d rest = refl
or_four None None (Some x) d rest = refl
or_four None (Some x) c d rest = refl
or_four (Some x) b c d rest = refl

pub work_first : (m : MasterState) (victim : Option AttemptId) (e : CoreEvent) → work_choice m ≡ Some e
    → Some e ≡ running_choice m victim
work_first m victim e h =
    let configure = option_map (λ v. Configure (vertex v)) (next_configure m.schedule) in
    let queue = option_map Queue (next_queue m.schedule) in
    let fetch = option_map fetch_event (slice_get (fetches_in m.router) 0) in
    let send = option_map Send (first_complete m.router.admitted) in
    let rest = or_else (place_choice m) (or_else (option_map Preempt victim) (end_choice m)) in
    sym (ap (λ o. or_else o rest) h) ∙ or_four configure queue fetch send rest
