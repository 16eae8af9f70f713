-- What ends a world, and what opens a master.
--     is_ended took                        the world ended
--     is_open e                            the event opens a master
use Rattle.std.specs.Prelude.{Bool, true, false}
use Rattle.tez_events.specs.declared.CoreEvent.TheVariants.{Open as OpenEvent, Configure, Queue, Place, Fetch, Send, Preempt, Fail, LoseNode, LoseOutput, Restart, Ready, CommitStart, Ask, Publish, Finish, Purge}
use Rattle.tez_steps.specs.declared.event.Event.{Event}
use Rattle.tez_steps.specs.declared.event.Event.TheVariants.{Core, Report}
use Rattle.tez_steps.specs.declared.verdict.Took.{Took}
use Rattle.tez_steps.specs.declared.verdict.Took.TheVariants.{Changed, Ignored, Ended}

abbrev pub is_ended : Took → Bool
is_ended Changed = false
is_ended (Ignored why) = false
is_ended (Ended v) = true

abbrev pub is_open : Event → Bool
is_open (Core OpenEvent) = true
is_open (Core (Configure v)) = false
is_open (Core (Queue t)) = false
is_open (Core (Place a p)) = false
is_open (Core (Fetch a e i)) = false
is_open (Core (Send a)) = false
is_open (Core (Preempt a)) = false
is_open (Core (Fail a)) = false
is_open (Core (LoseNode slot)) = false
is_open (Core (LoseOutput t)) = false
is_open (Core Restart) = false
is_open (Core (Ready v)) = false
is_open (Core CommitStart) = false
is_open (Core (Ask v)) = false
is_open (Core (Publish v)) = false
is_open (Core Finish) = false
is_open (Core Purge) = false
is_open (Report r) = false
