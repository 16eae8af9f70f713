-- Each event makes of a master what the longer history says.
use Rattle.std.specs.Prelude.{◌≡◌, true}
use Rattle.tez_plan.specs.Dag.{Dag}
use Rattle.tez_conf.specs.declared.values.ConfValues.{ConfValues}
use Rattle.tez_events.specs.declared.CoreEvent.{CoreEvent}
use Rattle.tez_events.specs.declared.CoreEvent.TheVariants.{Open, Configure, Queue, Place, Fetch, Send, Preempt, Fail, LoseNode, LoseOutput, Restart, Ready, CommitStart, Ask, Publish, Finish, Purge}
use Rattle.tez_history.specs.History.{Past}
use Rattle.tez_history.specs.Steps.{enabled}
use Rattle.tez_master_view.specs.Laws.{Goes, IsMasters}
use Rattle.tez_master_view.proofs.Configure.{configure_settles}
use Rattle.tez_master_view.proofs.Fetching.{fetch_settles}
use Rattle.tez_master_view.proofs.Losing.{loss_settles}
use Rattle.tez_master_view.proofs.Simple.{Settles, place_settles, queue_settles, send_settles, preempt_settles, fail_settles, output_settles, ready_settles, start_settles, publish_settles, finish_settles, purge_settles}

pub event_settles : (g : Dag) (c : ConfValues) (past : Past) (e : CoreEvent) → Goes g c past → enabled g c past e ≡ true → IsMasters e → Settles g c past e
event_settles g c past Open go on is = absurd is
event_settles g c past (Configure v) go on is = configure_settles g c past v go on
event_settles g c past (Queue t) go on is = queue_settles g c past t go on
event_settles g c past (Place a p) go on is = place_settles g c past a p go on
event_settles g c past (Fetch a e i) go on is = fetch_settles g c past a e i go on
event_settles g c past (Send a) go on is = send_settles g c past a go on
event_settles g c past (Preempt a) go on is = preempt_settles g c past a go on
event_settles g c past (Fail a) go on is = fail_settles g c past a go on
event_settles g c past (LoseNode slot) go on is = loss_settles g c past slot go on
event_settles g c past (LoseOutput t) go on is = output_settles g c past t go on
event_settles g c past Restart go on is = absurd is
event_settles g c past (Ready v) go on is = ready_settles g c past v
event_settles g c past CommitStart go on is = start_settles g c past
event_settles g c past (Ask v) go on is = absurd is
event_settles g c past (Publish v) go on is = publish_settles g c past v
event_settles g c past Finish go on is = finish_settles g c past
event_settles g c past Purge go on is = purge_settles g c past
