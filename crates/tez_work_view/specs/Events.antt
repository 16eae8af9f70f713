-- What leaves seats or shelves as they are.
--     KeepsSeats e       the event concerns no seat
--     KeepsShelves e     it concerns no shelf
--     AnswerLeavesSeats job c past v, AnswerLeavesShelves job c past v
--                        what the store answers of a sink concerns neither
--     vacate             nobody is at the seat
use Rattle.std.specs.Prelude.{◌≡◌, ℕ, ⊤, Bool, List, slice_set}
use Rattle.tez_ids.specs.declared.AttemptId.{AttemptId}
use Rattle.tez_ids.specs.declared.VertexId.{VertexId}
use Rattle.tez_conf.specs.declared.values.ConfValues.{ConfValues}
use Rattle.tez_events.specs.declared.CoreEvent.{CoreEvent}
use Rattle.tez_events.specs.declared.CoreEvent.TheVariants.{Open, Configure, Queue, Place, Fetch, Send, Preempt, Fail, LoseNode, LoseOutput, Restart, Ready, CommitStart, Ask, Publish, Finish, Purge}
use Rattle.tez_history.specs.History.{Past}
use Rattle.tez_laws.specs.Laws.{answered}
use Rattle.tez_meaning.specs.Jobs.{Job}
use Rattle.tez_inflight.specs.Seats.{Seat, Vacant}
use Rattle.tez_work_view.specs.Holdings.{seats_view, shelf_view}

-- a fetch does where it finds the piece
abbrev pub KeepsSeats : CoreEvent → Type 0
KeepsSeats Open = ⊤
KeepsSeats (Configure v) = ⊤
KeepsSeats (Queue t) = ⊤
KeepsSeats (Place a p) = ⊥
KeepsSeats (Fetch a e i) = ⊥
KeepsSeats (Send a) = ⊥
KeepsSeats (Preempt a) = ⊥
KeepsSeats (Fail a) = ⊥
KeepsSeats (LoseNode slot) = ⊥
KeepsSeats (LoseOutput t) = ⊤
KeepsSeats Restart = ⊥
KeepsSeats (Ready v) = ⊤
KeepsSeats CommitStart = ⊤
KeepsSeats (Ask v) = ⊤
KeepsSeats (Publish v) = ⊤
KeepsSeats Finish = ⊤
KeepsSeats Purge = ⊤

abbrev pub KeepsShelves : CoreEvent → Type 0
KeepsShelves Open = ⊤
KeepsShelves (Configure v) = ⊤
KeepsShelves (Queue t) = ⊤
KeepsShelves (Place a p) = ⊤
KeepsShelves (Fetch a e i) = ⊤
KeepsShelves (Send a) = ⊤
KeepsShelves (Preempt a) = ⊤
KeepsShelves (Fail a) = ⊤
KeepsShelves (LoseNode slot) = ⊥
KeepsShelves (LoseOutput t) = ⊥
KeepsShelves Restart = ⊤
KeepsShelves (Ready v) = ⊤
KeepsShelves CommitStart = ⊤
KeepsShelves (Ask v) = ⊤
KeepsShelves (Publish v) = ⊤
KeepsShelves Finish = ⊤
KeepsShelves Purge = ⊤

abbrev pub AnswerLeavesSeats : Job → ConfValues → Past → VertexId → Type 0
AnswerLeavesSeats job c past v = (there : Bool) → seats_view job c (answered past v there) ≡ seats_view job c past

abbrev pub AnswerLeavesShelves : Job → ConfValues → Past → VertexId → Type 0
AnswerLeavesShelves job c past v = (there : Bool) (b : AttemptId) → shelf_view job c (answered past v there) b ≡ shelf_view job c past b

abbrev pub vacate : List Seat → ℕ → List Seat
vacate seats p = slice_set seats p Vacant
