-- What the calls on the parts ask, from the numbers of a master.
use Rattle.std.specs.Prelude.{◌≡◌, ℕ, ◌+◌, ◌<◌, ◌≤◌, ◌^◌, ◌&&◌, nat_lt, Bool, true, false, length, slice_get, Option, Some, None, IfSome, refl}
use Rattle.std.proofs.Common.{arith}
use Rattle.std.proofs.lemmas.Bool.Decides.{nat_tests}
use Rattle.tez_ids.specs.declared.TaskId.{TaskId}
use Rattle.tez_ids.specs.declared.AttemptId.{AttemptId}
use Rattle.tez_events.specs.declared.CoreEvent.{CoreEvent}
use Rattle.tez_events.specs.declared.CoreEvent.TheVariants.{Open, Configure, Queue, Place, Fetch, Send, Preempt, Fail, LoseNode, LoseOutput, Restart, Ready, CommitStart, Ask, Publish, Finish, Purge}
use Rattle.tez_task.specs.TaskState.{TaskState, HasRoom}
use Rattle.tez_master_model.specs.State.{MasterState}
use Rattle.tez_master_model.specs.Read.{task_in, is_queued}
use Rattle.tez_master_model.specs.Enabled.{enabled_in}
use Rattle.tez_entries.specs.Ranges.{CanTell, HasLife}
use Rattle.tez_master.specs.Master.{is_single, IsUnprepared, HasNumbers}

pub room_in : (m : MasterState) (t : TaskId) → HasNumbers m → IfSome (task_in m t) HasRoom
room_in m t k = by (task_in m t) (k.tasks t) where
  by : (o : Option TaskState) → IfSome o (λ s. s.queued < 2 ^ 63) → IfSome o HasRoom
  by None h = h
  by (Some s) h = omega arith

pub room_behind : (m : MasterState) (o : Option AttemptId) → HasNumbers m → IfSome o (λ w. IfSome (task_in m w.task) HasRoom)
room_behind m None k = tt
room_behind m (Some w) k = room_in m w.task k

pub life_in : (m : MasterState) (slot : ℕ) → HasNumbers m → HasLife m slot
life_in m slot k = by (slice_get m.pool.lives slot) (k.lives slot) where
  by : (o : Option ℕ) → ((life : ℕ) → o ≡ Some life → life < 2 ^ 63) → IfSome o (λ life. life + 1 < 2 ^ 64)
  by None h = tt
  by (Some life) h = let few : life < 2 ^ 63 = h life refl in omega arith

pub can_tell : (m : MasterState) (e : CoreEvent) → HasNumbers m → CanTell m e
can_tell m Open k = tt
can_tell m (Configure v) k = tt
can_tell m (Queue t) k = tt
can_tell m (Place a p) k = tt
can_tell m (Fetch a e i) k = tt
can_tell m (Send a) k = tt
can_tell m (Preempt a) k = tt
can_tell m (Fail a) k = tt
can_tell m (LoseNode slot) k = life_in m slot k
can_tell m (LoseOutput t) k = tt
can_tell m Restart k = tt
can_tell m (Ready v) k = tt
can_tell m CommitStart k = tt
can_tell m (Ask v) k = tt
can_tell m (Publish v) k = tt
can_tell m Finish k = tt
can_tell m Purge k = tt

both : (a b : Bool) → (a && b) ≡ true → b ≡ true
both true b h = h
both false b h = cc

first_of : (a b : Bool) → (a && b) ≡ true → a ≡ true
first_of true b h = refl
first_of false b h = cc

below : (a b : ℕ) → nat_lt a b ≡ true → a < b
below a b h = grind (arith, nat_tests)

pub slot_there : (m : MasterState) (slot : ℕ) → enabled_in m (LoseNode slot) ≡ true → HasNumbers m → slot < length m.pool.lives
slot_there m slot h k =
    let there : slot < m.conf.nodes = below slot m.conf.nodes (both m.up (nat_lt slot m.conf.nodes) h) in
    let all : m.conf.nodes ≤ length m.pool.lives = k.nodes in
    omega arith

pub containers_left : (m : MasterState) → HasNumbers m → m.pool.next < 2 ^ 127
containers_left m k = let few : m.pool.next < 2 ^ 126 = k.containers in omega arith

pub queued_for : (m : MasterState) (a : AttemptId) (p : ℕ) → enabled_in m (Place a p) ≡ true → is_queued m a ≡ true
queued_for m a p h = first_of (is_queued m a) _ (both _ _ h)

pub single_unprepared : (m : MasterState) (e : CoreEvent) → is_single m e ≡ true → IsUnprepared e
single_unprepared m Open h = tt
single_unprepared m (Configure v) h = cc
single_unprepared m (Queue t) h = tt
single_unprepared m (Place a p) h = cc
single_unprepared m (Fetch a e i) h = tt
single_unprepared m (Send a) h = tt
single_unprepared m (Preempt a) h = tt
single_unprepared m (Fail a) h = tt
single_unprepared m (LoseNode slot) h = tt
single_unprepared m (LoseOutput t) h = tt
single_unprepared m Restart h = tt
single_unprepared m (Ready v) h = tt
single_unprepared m CommitStart h = tt
single_unprepared m (Ask v) h = tt
single_unprepared m (Publish v) h = tt
single_unprepared m Finish h = tt
single_unprepared m Purge h = tt
