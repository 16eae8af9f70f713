-- Events that concern no place.
use Rattle.std.specs.Prelude.{⊤}
use Rattle.tez_events.specs.declared.CoreEvent.{CoreEvent}
use Rattle.tez_events.specs.declared.CoreEvent.TheVariants.{Open, Configure, Queue, Place, Fetch, Send, Preempt, Fail, LoseNode, LoseOutput, Restart, Ready, CommitStart, Ask, Publish, Finish, Purge}

abbrev pub IsElsewhere : CoreEvent → Type 0
IsElsewhere Open = ⊤
IsElsewhere (Configure v) = ⊤
IsElsewhere (Queue t) = ⊤
IsElsewhere (Place a p) = ⊥
IsElsewhere (Fetch a e i) = ⊤
IsElsewhere (Send a) = ⊥
IsElsewhere (Preempt a) = ⊥
IsElsewhere (Fail a) = ⊥
IsElsewhere (LoseNode slot) = ⊥
IsElsewhere (LoseOutput t) = ⊤
IsElsewhere Restart = ⊥
IsElsewhere (Ready v) = ⊤
IsElsewhere CommitStart = ⊤
IsElsewhere (Ask v) = ⊤
IsElsewhere (Publish v) = ⊤
IsElsewhere Finish = ⊤
IsElsewhere Purge = ⊤
