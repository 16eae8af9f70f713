-- What a world holds after a history, beside its master: the seats of places, and the shelves of nodes.
--     gathered job a n past       what attempt a has gathered over edge n since the last open, in the order of its fetches
--     order_view job past a p     the order of an attempt at a place
--     seat_view job past p        the seat of a place
--     seats_view job c past       the seats of all places
--     shelf_view job c past b     the node and the pieces of an attempt, where they are on a shelf
--     IsShelved job c past s      shelves hold exactly that
use Rattle.std.specs.Prelude.{◌≡◌, ℕ, ◌&&◌, ◌==◌, if◌then◌else◌, List, [], ◌∷◌, ◌++◌, map, slice_get, Option, Some, None}
use Rattle.std.specs.Option.{option_map, option_map_or}
use Rattle.tez_ids.specs.declared.AttemptId.{AttemptId}
use Rattle.tez_ids.specs.declared.EdgeId.{EdgeId}
use Rattle.tez_ids.specs.declared.NodeId.{NodeId}
use Rattle.tez_ids.specs.Same.{same_attempt}
use Rattle.tez_conf.specs.declared.values.ConfValues.{ConfValues}
use Rattle.tez_events.specs.declared.Entry.TheVariants.{Opened, Over, Fetched, Stopped}
use Rattle.tez_history.specs.Shape.{numbers_below, edges_to, places}
use Rattle.tez_history.specs.History.{Past, Stage, Unknown, InQueue, Waits, Runs, Ended, Location, Nowhere, On, InQuestion, stage, holder, location, life}
use Rattle.tez_history.specs.Derived.{task_count}
use Rattle.tez_orders.specs.Orders.{OrderParts}
use Rattle.tez_orders.specs.Outcomes.{pieces_of}
use Rattle.tez_shelves.specs.Shelf.{shelf}
use Rattle.tez_meaning.specs.Jobs.{Job}
use Rattle.tez_contents.specs.Contents.{made, piece_over}
use Rattle.tez_assembly.specs.Order.{Records, order_for, outs_for}
use Rattle.tez_inflight.specs.Seats.{Seat, Vacant, Gathers, Out}

abbrev pub gathered : Job → AttemptId → ℕ → Past → Records
gathered job a n [] = []
gathered job a n (Opened _ ∷ past) = []
gathered job a n (Over ∷ past) = []
gathered job a n (Stopped _ ∷ past) = []
gathered job a n (Fetched b d j w ∷ past) =
    if same_attempt b a && (d.0 == n) then gathered job a n past ++ piece_over job.plan past n a.task.index j (made job w past) else gathered job a n past
gathered job a n (_ ∷ past) = gathered job a n past

-- ---- seats

abbrev pub order_view : Job → Past → AttemptId → ℕ → Option OrderParts
order_view job past a p =
    option_map (order_for job (task_count job.plan a.task.vertex.0 past) a p (λ n. gathered job a n past)) (slice_get job.plan.vertices a.task.vertex.0)

abbrev pub seat_at_stage : Job → Past → ℕ → AttemptId → Stage → Seat
seat_at_stage job past p a Unknown = Vacant
seat_at_stage job past p a InQueue = Vacant
seat_at_stage job past p a (Waits q) = Gathers a (map (λ e. (e.0, gathered job a e.0 past)) (edges_to job.plan a.task.vertex.0))
seat_at_stage job past p a (Runs q) = option_map_or Out (order_view job past a p) Vacant
seat_at_stage job past p a Ended = Vacant

abbrev pub seat_by : Job → Past → ℕ → Option AttemptId → Seat
seat_by job past p None = Vacant
seat_by job past p (Some a) = seat_at_stage job past p a (stage a past)

abbrev pub seat_view : Job → Past → ℕ → Seat
seat_view job past p = seat_by job past p (holder p past)

abbrev pub seats_view : Job → ConfValues → Past → List Seat
seats_view job c past = map (seat_view job past) (numbers_below (places c))

-- ---- shelves

abbrev pub Pieces : Type 0
Pieces = List (EdgeId × ℕ × Records)

abbrev pub node : ℕ → ℕ → NodeId
node slot life = record { slot = slot; life = life }

abbrev pub shelf_by : Job → Past → AttemptId → Location → Option (NodeId × Pieces)
shelf_by job past b Nowhere = None
shelf_by job past b (On slot) = Some (node slot (life slot past), pieces_of (outs_for job.plan b.task.vertex.0) (made job b past))
shelf_by job past b (InQuestion slot) = None

abbrev pub shelf_view : Job → ConfValues → Past → AttemptId → Option (NodeId × Pieces)
shelf_view job c past b = shelf_by job past b (location c b past)

abbrev pub IsShelved : Job → ConfValues → Past → List (AttemptId × (NodeId × Pieces)) → Type 0
IsShelved job c past s = (b : AttemptId) → shelf b s ≡ shelf_view job c past b
