-- Which numbers of an event's entries have to be in the range of their type.
--     HasLife m slot     the next life of a slot can be numbered, if the slot is there
--     CanTell m e        so it is for the slot of an event that loses a node; no other event asks for anything
use Rattle.std.specs.Prelude.{ℕ, ◌+◌, ◌<◌, ◌^◌, ⊤, slice_get, IfSome}
use Rattle.tez_events.specs.declared.CoreEvent.{CoreEvent}
use Rattle.tez_events.specs.declared.CoreEvent.TheVariants.{Open, Configure, Queue, Place, Fetch, Send, Preempt, Fail, LoseNode, LoseOutput, Restart, Ready, CommitStart, Ask, Publish, Finish, Purge}
use Rattle.tez_master_model.specs.State.{MasterState}

abbrev pub HasLife : MasterState → ℕ → Type 0
HasLife m slot = IfSome (slice_get m.pool.lives slot) (λ life. life + 1 < 2 ^ 64)

abbrev pub CanTell : MasterState → CoreEvent → Type 0
CanTell m Open = ⊤
CanTell m (Configure v) = ⊤
CanTell m (Queue t) = ⊤
CanTell m (Place a p) = ⊤
CanTell m (Fetch a e i) = ⊤
CanTell m (Send a) = ⊤
CanTell m (Preempt a) = ⊤
CanTell m (Fail a) = ⊤
CanTell m (LoseNode slot) = HasLife m slot
CanTell m (LoseOutput t) = ⊤
CanTell m Restart = ⊤
CanTell m (Ready v) = ⊤
CanTell m CommitStart = ⊤
CanTell m (Ask v) = ⊤
CanTell m (Publish v) = ⊤
CanTell m Finish = ⊤
CanTell m Purge = ⊤
