-- The place of an attempt and its seat, and the events of an attempt at its place.
use Rattle.std.specs.Prelude.{◌≡◌, ℕ, ◌<◌, Bool, true, false, if◌then◌else◌, List, [], ◌∷◌, map, length, slice_get, slice_set, Option, Some, None, is_some, unwrap_or, refl}
use Rattle.std.specs.Option.{option_map, option_map_or}
use Rattle.std.proofs.Common.{ap, sym, ◌∙◌, subst, zero-add}
use Rattle.std.proofs.lemmas.Option.{same_Some}
use Rattle.tez_ids.specs.declared.AttemptId.{AttemptId}
use Rattle.tez_ids.specs.Same.{same_attempt}
use Rattle.tez_ids.proofs.Sameness.{same_attempt-true}
use Rattle.tez_lists.proofs.Tables.{get_each}
use Rattle.tez_plan.specs.Dag.{tasks_of as planned}
use Rattle.tez_plan.specs.declared.parts.VertexSpec.{VertexSpec}
use Rattle.tez_conf.specs.declared.values.ConfValues.{ConfValues}
use Rattle.tez_events.specs.declared.CoreEvent.TheVariants.{Place, Send, Preempt, Fail}
use Rattle.tez_meaning.specs.Jobs.{Job}
use Rattle.tez_history.specs.Shape.{edges_to, numbers_below, places}
use Rattle.tez_history.specs.History.{Past, Stage, Unknown, InQueue, Waits, Runs, Ended, stage, holder, config}
use Rattle.tez_history.specs.Derived.{is_waiting, is_processing, is_task, is_configured, task_count}
use Rattle.tez_history.specs.Steps.{is_running}
use Rattle.tez_laws.specs.Laws.{SpendsNot, place_in}
use Rattle.tez_laws.proofs.StepLaw.{both, below, event_may, alive_task}
use Rattle.tez_laws.proofs.OneLive.{waiting_alive}
use Rattle.tez_laws.proofs.Places.{stands}
use Rattle.tez_laws.proofs.Ranges.{configured_is_vertex}
use Rattle.tez_vman.specs.declared.seen.Config.{Config}
use Rattle.tez_vman.specs.Rules.{config as shape}
use Rattle.tez_schedule.specs.Table.{config_at}
use Rattle.tez_schedule_view.proofs.Answering.{config_same}
use Rattle.tez_pool.specs.Table.{place_held, sent_at}
use Rattle.tez_pool_view.specs.View.{pool_view, standing}
use Rattle.tez_pool_view.proofs.Reading.{read_place}
use Rattle.tez_master_model.specs.Enabled.{enabled_in}
use Rattle.tez_orders.specs.Orders.{OrderParts}
use Rattle.tez_assembly.specs.Order.{Records, order_for}
use Rattle.tez_inflight.specs.Seats.{Seat, SeatsState, Vacant, Gathers, Out, seat_at, after_leave, order_or, order_out}
use Rattle.tez_work_view.specs.Holdings.{gathered, order_view, seat_at_stage, seat_by, seat_view, seats_view}
use Rattle.tez_work_view.proofs.Seating.{seats_placed, seats_sent, seats_preempted, seats_failed}
use Rattle.tez_world_invariant.specs.Keeping.{Parts, Holds, most_entries}
use Rattle.tez_world_invariant.specs.Step.{later, stepped, left}
use Rattle.tez_world_invariant.proofs.PartsKeep.{on_of, seats_keep}

-- ---- the place of an attempt

abbrev stood : ℕ → Bool → ℕ × Bool
stood p sent = (p, sent)

same_place : (q p : ℕ) (x y : Bool) → Some (stood q x) ≡ Some (stood p y) → Some q ≡ Some p
same_place q p x y h = ap (λ (z : ℕ × Bool). Some z.0) (same_Some (stood q x) (stood p y) h)

none_there : (p : ℕ) (x : Bool) → None ≡ Some (stood p x) → None ≡ Some p
none_there p x h = cc

waits_there : (o : Option ℕ) (sent : ℕ → Bool) (s : Stage) (p : ℕ) → option_map (λ q. (q, sent q)) o ≡ standing s → s ≡ Waits p → o ≡ Some p
waits_there None sent s p k e = none_there p false (k ∙ ap standing e)
waits_there (Some q) sent s p k e = same_place q p (sent q) false (k ∙ ap standing e)

runs_there : (o : Option ℕ) (sent : ℕ → Bool) (s : Stage) (p : ℕ) → option_map (λ q. (q, sent q)) o ≡ standing s → s ≡ Runs p → o ≡ Some p
runs_there None sent s p k e = none_there p true (k ∙ ap standing e)
runs_there (Some q) sent s p k e = same_place q p (sent q) true (k ∙ ap standing e)

there_waits : (o : Option ℕ) (sent : ℕ → Bool) (s : Stage) (p : ℕ) → option_map (λ q. (q, sent q)) o ≡ standing s → o ≡ Some p → is_waiting s ≡ true → s ≡ Waits p
there_waits o sent (Waits q) p k e w = let r : o ≡ Some q = waits_there o sent (Waits q) q k refl in cc
there_waits o sent InQueue p k e w = cc
there_waits o sent Unknown p k e w = cc
there_waits o sent (Runs q) p k e w = cc
there_waits o sent Ended p k e w = cc

there_runs : (o : Option ℕ) (sent : ℕ → Bool) (s : Stage) (p : ℕ) → option_map (λ q. (q, sent q)) o ≡ standing s → o ≡ Some p → is_processing s ≡ true → s ≡ Runs p
there_runs o sent (Runs q) p k e w = let r : o ≡ Some q = runs_there o sent (Runs q) q k refl in cc
there_runs o sent InQueue p k e w = cc
there_runs o sent Unknown p k e w = cc
there_runs o sent (Waits q) p k e w = cc
there_runs o sent Ended p k e w = cc

placed_waits : (o : Option ℕ) (sent : ℕ → Bool) (s : Stage) → option_map (λ q. (q, sent q)) o ≡ standing s → is_waiting s ≡ true → is_some o ≡ true
placed_waits o sent (Waits q) k w = ap is_some (waits_there o sent (Waits q) q k refl)
placed_waits o sent InQueue k w = cc
placed_waits o sent Unknown k w = cc
placed_waits o sent (Runs q) k w = cc
placed_waits o sent Ended k w = cc

placed_runs : (o : Option ℕ) (sent : ℕ → Bool) (s : Stage) → option_map (λ q. (q, sent q)) o ≡ standing s → is_processing s ≡ true → is_some o ≡ true
placed_runs o sent (Runs q) k w = ap is_some (runs_there o sent (Runs q) q k refl)
placed_runs o sent InQueue k w = cc
placed_runs o sent Unknown k w = cc
placed_runs o sent (Waits q) k w = cc
placed_runs o sent Ended k w = cc

place_read : (job : Job) (c : ConfValues) (ps : Parts) (past : Past) (a : AttemptId) → Holds job c ps past → option_map (λ q. (q, sent_at (pool_view c past).places q)) (place_held ps.master.pool.places a) ≡ standing (stage a past)
place_read job c ps past a h = ap (λ m. option_map (λ q. (q, sent_at (pool_view c past).places q)) (place_held m.pool.places a)) h.master ∙ read_place job.plan c past a h.well.made

pub waits_at : (job : Job) (c : ConfValues) (ps : Parts) (past : Past) (a : AttemptId) (p : ℕ) → Holds job c ps past → is_waiting (stage a past) ≡ true → place_held ps.master.pool.places a ≡ Some p → stage a past ≡ Waits p
waits_at job c ps past a p h w at = there_waits (place_held ps.master.pool.places a) (sent_at (pool_view c past).places) (stage a past) p (place_read job c ps past a h) at w

pub runs_at : (job : Job) (c : ConfValues) (ps : Parts) (past : Past) (a : AttemptId) (p : ℕ) → Holds job c ps past → is_processing (stage a past) ≡ true → place_held ps.master.pool.places a ≡ Some p → stage a past ≡ Runs p
runs_at job c ps past a p h w at = there_runs (place_held ps.master.pool.places a) (sent_at (pool_view c past).places) (stage a past) p (place_read job c ps past a h) at w

pub waits_placed : (job : Job) (c : ConfValues) (ps : Parts) (past : Past) (a : AttemptId) → Holds job c ps past → is_waiting (stage a past) ≡ true → is_some (place_held ps.master.pool.places a) ≡ true
waits_placed job c ps past a h w = placed_waits (place_held ps.master.pool.places a) (sent_at (pool_view c past).places) (stage a past) (place_read job c ps past a h) w

pub runs_placed : (job : Job) (c : ConfValues) (ps : Parts) (past : Past) (a : AttemptId) → Holds job c ps past → is_processing (stage a past) ≡ true → is_some (place_held ps.master.pool.places a) ≡ true
runs_placed job c ps past a h w = placed_runs (place_held ps.master.pool.places a) (sent_at (pool_view c past).places) (stage a past) (place_read job c ps past a h) w

-- ---- its seat

pub get_seat : (job : Job) (c : ConfValues) (past : Past) (p : ℕ) → p < places c → seat_at (seats_view job c past) p ≡ seat_view job past p
get_seat job c past p low = ap (λ o. unwrap_or o Vacant) (get_each (seat_view job past) 0 (places c) p low) ∙ ap (seat_view job past) (zero-add p)

pub parts_seat : (job : Job) (c : ConfValues) (ps : Parts) (past : Past) (p : ℕ) → Holds job c ps past → p < places c → seat_at ps.seats p ≡ seat_view job past p
parts_seat job c ps past p h low = ap (λ ds. seat_at ds p) h.seats ∙ get_seat job c past p low

-- ---- an attempt takes a place

pub place_low : (job : Job) (c : ConfValues) (ps : Parts) (past : Past) (a : AttemptId) (p : ℕ) → Holds job c ps past → enabled_in ps.master (Place a p) ≡ true → p < places c
place_low job c ps past a p h taken = (event_may job.plan c past (Place a p) h.well.made (on_of job c ps past (Place a p) h tt taken)).0.2

pub place_vacant : (job : Job) (c : ConfValues) (ps : Parts) (past : Past) (a : AttemptId) (p : ℕ) → Holds job c ps past → enabled_in ps.master (Place a p) ≡ true → seat_at ps.seats p ≡ Vacant
place_vacant job c ps past a p h taken =
    let may = event_may job.plan c past (Place a p) h.well.made (on_of job c ps past (Place a p) h tt taken) in
    parts_seat job c ps past p h may.0.2 ∙ ap (seat_by job past p) may.0.1

pub place_keeps : (job : Job) (c : ConfValues) (ps : Parts) (past : Past) (a : AttemptId) (p : ℕ) → Holds job c ps past → enabled_in ps.master (Place a p) ≡ true → length (later job c past (Place a p)) < most_entries
    → Holds job c (stepped ps (Place a p) (slice_set ps.seats p (Gathers a (map (λ n. (n, [])) (map (λ e. e.0) (edges_to job.plan a.task.vertex.0))))) ps.shelves) (later job c past (Place a p))
place_keeps job c ps past a p h taken short =
    let fresh : Seat = Gathers a (map (λ n. (n, [])) (map (λ e. e.0) (edges_to job.plan a.task.vertex.0))) in
    seats_keep job c ps past (Place a p) (slice_set ps.seats p fresh) tt tt h taken tt short
    (ap (λ ds. slice_set ds p fresh) h.seats ∙ sym (seats_placed job c past a p h.well.made (on_of job c ps past (Place a p) h tt taken)))

-- ---- who waits

send_waits : (job : Job) (c : ConfValues) (ps : Parts) (past : Past) (a : AttemptId) → Holds job c ps past → enabled_in ps.master (Send a) ≡ true → is_waiting (stage a past) ≡ true
send_waits job c ps past a h taken = (both {x = is_waiting (stage a past)} (both {x = is_running past} (on_of job c ps past (Send a) h tt taken)).1).0

preempt_waits : (job : Job) (c : ConfValues) (ps : Parts) (past : Past) (a : AttemptId) → Holds job c ps past → enabled_in ps.master (Preempt a) ≡ true → is_waiting (stage a past) ≡ true
preempt_waits job c ps past a h taken = (both {x = is_waiting (stage a past)} (both {x = is_running past} (on_of job c ps past (Preempt a) h tt taken)).1).0

fail_runs : (job : Job) (c : ConfValues) (ps : Parts) (past : Past) (a : AttemptId) → Holds job c ps past → enabled_in ps.master (Fail a) ≡ true → is_processing (stage a past) ≡ true
fail_runs job c ps past a h taken = (both {x = is_running past} (on_of job c ps past (Fail a) h tt taken)).1

pub send_placed : (job : Job) (c : ConfValues) (ps : Parts) (past : Past) (a : AttemptId) → Holds job c ps past → enabled_in ps.master (Send a) ≡ true → is_some (place_held ps.master.pool.places a) ≡ true
send_placed job c ps past a h taken = waits_placed job c ps past a h (send_waits job c ps past a h taken)

pub preempt_placed : (job : Job) (c : ConfValues) (ps : Parts) (past : Past) (a : AttemptId) → Holds job c ps past → enabled_in ps.master (Preempt a) ≡ true → is_some (place_held ps.master.pool.places a) ≡ true
preempt_placed job c ps past a h taken = waits_placed job c ps past a h (preempt_waits job c ps past a h taken)

pub fail_placed : (job : Job) (c : ConfValues) (ps : Parts) (past : Past) (a : AttemptId) → Holds job c ps past → enabled_in ps.master (Fail a) ≡ true → is_some (place_held ps.master.pool.places a) ≡ true
fail_placed job c ps past a h taken = runs_placed job c ps past a h (fail_runs job c ps past a h taken)

-- what it has gathered lies on the seat
pub waits_gathers : (job : Job) (c : ConfValues) (ps : Parts) (past : Past) (a : AttemptId) (p : ℕ) → Holds job c ps past → stage a past ≡ Waits p
    → seat_at ps.seats p ≡ Gathers a (map (λ e. (e.0, gathered job a e.0 past)) (edges_to job.plan a.task.vertex.0))
waits_gathers job c ps past a p h waits =
    let at = stands job.plan c past h.well.made p a (ap place_in waits) in
    parts_seat job c ps past p h at.1 ∙ ap (seat_by job past p) at.0 ∙ ap (seat_at_stage job past p a) waits

-- no order of a waiting attempt is out
none_out : (f : ℕ → Seat) (a : AttemptId) (qs : List ℕ) → ((q : ℕ) (o : Option OrderParts) → order_or a (f q) o ≡ o) → order_out (map f qs) a ≡ None
none_out f a [] h = refl
none_out f a (q ∷ qs) h = h q (order_out (map f qs) a) ∙ none_out f a qs h

other_order : (job : Job) (past : Past) (a b : AttemptId) (n q : ℕ) (copy : ℕ → Records) (s : Option VertexSpec) (o : Option OrderParts) → same_attempt a b ≡ false
    → order_or a (option_map_or Out (option_map (order_for job n b q copy) s) Vacant) o ≡ o
other_order job past a b n q copy None o h = refl
other_order job past a b n q copy (Some s) o h = ap (λ x. if x then Some (order_for job n b q copy s) else o) h

other_seat : (job : Job) (past : Past) (a b : AttemptId) (q : ℕ) (s : Stage) (o : Option OrderParts) → stage b past ≡ s → is_waiting (stage a past) ≡ true → order_or a (seat_at_stage job past q b s) o ≡ o
other_seat job past a b q Unknown o e w = refl
other_seat job past a b q InQueue o e w = refl
other_seat job past a b q (Waits r) o e w = refl
other_seat job past a b q Ended o e w = refl
other_seat job past a b q (Runs r) o e w = other_order job past a b (task_count job.plan b.task.vertex.0 past) q (λ n. gathered job b n past) (slice_get job.plan.vertices b.task.vertex.0) o (differ (same_attempt a b) refl) where
  differ : (x : Bool) → same_attempt a b ≡ x → x ≡ false
  differ true k = let is : a ≡ b = same_attempt-true a b k in let v : is_waiting (Runs r) ≡ true = subst (λ s. is_waiting s ≡ true) (ap (λ x. stage x past) is ∙ e) w in cc
  differ false k = refl

other_place : (job : Job) (past : Past) (a : AttemptId) (q : ℕ) (h : Option AttemptId) (o : Option OrderParts) → is_waiting (stage a past) ≡ true → order_or a (seat_by job past q h) o ≡ o
other_place job past a q None o w = refl
other_place job past a q (Some b) o w = other_seat job past a b q (stage b past) o refl w

pub waits_alone : (job : Job) (c : ConfValues) (ps : Parts) (past : Past) (a : AttemptId) → Holds job c ps past → is_waiting (stage a past) ≡ true → order_out ps.seats a ≡ None
waits_alone job c ps past a h w = ap (λ ds. order_out ds a) h.seats ∙ none_out (seat_view job past) a (numbers_below (places c)) (λ q o. other_place job past a q (holder q past) o w)

-- ---- an attempt is sent

pub send_gathers : (job : Job) (c : ConfValues) (ps : Parts) (past : Past) (a : AttemptId) (p : ℕ) → Holds job c ps past → enabled_in ps.master (Send a) ≡ true → place_held ps.master.pool.places a ≡ Some p
    → seat_at ps.seats p ≡ Gathers a (map (λ e. (e.0, gathered job a e.0 past)) (edges_to job.plan a.task.vertex.0))
send_gathers job c ps past a p h taken at = waits_gathers job c ps past a p h (waits_at job c ps past a p h (send_waits job c ps past a h taken) at)

pub send_alone : (job : Job) (c : ConfValues) (ps : Parts) (past : Past) (a : AttemptId) → Holds job c ps past → enabled_in ps.master (Send a) ≡ true → order_out ps.seats a ≡ None
send_alone job c ps past a h taken = waits_alone job c ps past a h (send_waits job c ps past a h taken)

send_task : (job : Job) (c : ConfValues) (ps : Parts) (past : Past) (a : AttemptId) → Holds job c ps past → enabled_in ps.master (Send a) ≡ true → is_task job.plan past a.task ≡ true
send_task job c ps past a h taken = (alive_task job.plan c past a h.well.made (waiting_alive (stage a past) (send_waits job c ps past a h taken))).0

pub send_vertex : (job : Job) (c : ConfValues) (ps : Parts) (past : Past) (a : AttemptId) → Holds job c ps past → enabled_in ps.master (Send a) ≡ true → a.task.vertex.0 < length job.plan.vertices
send_vertex job c ps past a h taken =
    let is = both {x = is_configured a.task.vertex.0 past} (send_task job c ps past a h taken) in
    below a.task.vertex.0 (length job.plan.vertices) (configured_is_vertex job.plan c past h.well.made a.task.vertex.0 is.0)

config_told : (job : Job) (c : ConfValues) (ps : Parts) (past : Past) (v : ℕ) → Holds job c ps past → config_at ps.master.schedule v ≡ config v past
config_told job c ps past v h = ap (λ m. config_at m.schedule v) h.master ∙ config_same job.plan c past h.well.made v

pub send_configured : (job : Job) (c : ConfValues) (ps : Parts) (past : Past) (a : AttemptId) → Holds job c ps past → enabled_in ps.master (Send a) ≡ true → is_some (config_at ps.master.schedule a.task.vertex.0) ≡ true
send_configured job c ps past a h taken =
    let is = both {x = is_configured a.task.vertex.0 past} (send_task job c ps past a h taken) in
    ap is_some (config_told job c ps past a.task.vertex.0 h) ∙ is.0

tasks_told : (job : Job) (c : ConfValues) (ps : Parts) (past : Past) (v : ℕ) (s : Config) → Holds job c ps past → config_at ps.master.schedule v ≡ Some s → task_count job.plan v past ≡ s.tasks
tasks_told job c ps past v s h is = ap (λ o. (unwrap_or o (shape (planned job.plan v) 1)).tasks) (sym (config_told job c ps past v h) ∙ is)

pub send_index : (job : Job) (c : ConfValues) (ps : Parts) (past : Past) (a : AttemptId) (s : Config) → Holds job c ps past → enabled_in ps.master (Send a) ≡ true → config_at ps.master.schedule a.task.vertex.0 ≡ Some s → a.task.index < s.tasks
send_index job c ps past a s h taken there =
    let is = both {x = is_configured a.task.vertex.0 past} (send_task job c ps past a h taken) in
    subst (λ n. a.task.index < n) (tasks_told job c ps past a.task.vertex.0 s h there) (below a.task.index (task_count job.plan a.task.vertex.0 past) is.1)

pub send_keeps : (job : Job) (c : ConfValues) (ps : Parts) (past : Past) (a : AttemptId) (p : ℕ) (x : Config) (s : VertexSpec) → Holds job c ps past → enabled_in ps.master (Send a) ≡ true → length (later job c past (Send a)) < most_entries
    → place_held ps.master.pool.places a ≡ Some p → config_at ps.master.schedule a.task.vertex.0 ≡ Some x → slice_get job.plan.vertices a.task.vertex.0 ≡ Some s
    → Holds job c (stepped ps (Send a) (slice_set ps.seats p (Out (order_for job x.tasks a p (λ n. gathered job a n past) s))) ps.shelves) (later job c past (Send a))
send_keeps job c ps past a p x s h taken short at tasks there =
    let order : ℕ → OrderParts = λ n. order_for job n a p (λ n. gathered job a n past) s in
    let count = task_count job.plan a.task.vertex.0 past in
    let is : order_view job past a p ≡ Some (order count) = ap (option_map (order_for job count a p (λ n. gathered job a n past))) there in
    seats_keep job c ps past (Send a) (slice_set ps.seats p (Out (order x.tasks))) tt tt h taken tt short
    (ap (λ n. slice_set ps.seats p (Out (order n))) (sym (tasks_told job c ps past a.task.vertex.0 x h tasks))
    ∙ ap (λ ds. slice_set ds p (Out (order count))) h.seats
    ∙ sym (seats_sent job c past a p (order count) h.well.made (waits_at job c ps past a p h (send_waits job c ps past a h taken) at) is))

-- ---- an attempt gives way or fails

pub preempt_keeps : (job : Job) (c : ConfValues) (ps : Parts) (past : Past) (a : AttemptId) (p : ℕ) → Holds job c ps past → enabled_in ps.master (Preempt a) ≡ true → length (later job c past (Preempt a)) < most_entries
    → place_held ps.master.pool.places a ≡ Some p → Holds job c (stepped ps (Preempt a) (slice_set ps.seats p Vacant) ps.shelves) (later job c past (Preempt a))
preempt_keeps job c ps past a p h taken short at =
    seats_keep job c ps past (Preempt a) (slice_set ps.seats p Vacant) tt tt h taken tt short
    (ap (λ ds. slice_set ds p Vacant) h.seats ∙ sym (seats_preempted job c past a p h.well.made (on_of job c ps past (Preempt a) h tt taken) (waits_at job c ps past a p h (preempt_waits job c ps past a h taken) at)))

pub fail_keeps : (job : Job) (c : ConfValues) (ps : Parts) (past : Past) (a : AttemptId) (p : ℕ) → Holds job c ps past → enabled_in ps.master (Fail a) ≡ true → SpendsNot c past (Fail a)
    → length (later job c past (Fail a)) < most_entries → place_held ps.master.pool.places a ≡ Some p → Holds job c (stepped ps (Fail a) (slice_set ps.seats p Vacant) ps.shelves) (later job c past (Fail a))
fail_keeps job c ps past a p h taken spends short at =
    seats_keep job c ps past (Fail a) (slice_set ps.seats p Vacant) tt tt h taken spends short
    (ap (λ ds. slice_set ds p Vacant) h.seats ∙ sym (seats_failed job c past a p h.well.made (on_of job c ps past (Fail a) h tt taken) (runs_at job c ps past a p h (fail_runs job c ps past a h taken) at)))

-- the seats that an attempt has left
left_at : (s : SeatsState) (o : Option ℕ) (p : ℕ) → o ≡ Some p → (option_map_or (after_leave s) o s).seats ≡ slice_set s.seats p Vacant
left_at s o p is = ap (λ x. (option_map_or (after_leave s) x s).seats) is

pub preempt_leaves : (job : Job) (c : ConfValues) (ps : Parts) (past : Past) (a : AttemptId) (s : SeatsState) → Holds job c ps past → enabled_in ps.master (Preempt a) ≡ true → length (later job c past (Preempt a)) < most_entries
    → s.seats ≡ ps.seats → Holds job c (stepped ps (Preempt a) (left ps.master s a).seats ps.shelves) (later job c past (Preempt a))
preempt_leaves job c ps past a s h taken short same = by (place_held ps.master.pool.places a) refl (preempt_placed job c ps past a h taken) where
  by : (o : Option ℕ) → place_held ps.master.pool.places a ≡ o → is_some o ≡ true → Holds job c (stepped ps (Preempt a) (left ps.master s a).seats ps.shelves) (later job c past (Preempt a))
  by None at some = cc
  by (Some p) at some =
      subst (λ ds. Holds job c (stepped ps (Preempt a) ds ps.shelves) (later job c past (Preempt a)))
      (sym (left_at s (place_held ps.master.pool.places a) p at ∙ ap (λ ds. slice_set ds p Vacant) same)) (preempt_keeps job c ps past a p h taken short at)

pub fail_leaves : (job : Job) (c : ConfValues) (ps : Parts) (past : Past) (a : AttemptId) (s : SeatsState) → Holds job c ps past → enabled_in ps.master (Fail a) ≡ true → SpendsNot c past (Fail a)
    → length (later job c past (Fail a)) < most_entries → s.seats ≡ ps.seats → Holds job c (stepped ps (Fail a) (left ps.master s a).seats ps.shelves) (later job c past (Fail a))
fail_leaves job c ps past a s h taken spends short same = by (place_held ps.master.pool.places a) refl (fail_placed job c ps past a h taken) where
  by : (o : Option ℕ) → place_held ps.master.pool.places a ≡ o → is_some o ≡ true → Holds job c (stepped ps (Fail a) (left ps.master s a).seats ps.shelves) (later job c past (Fail a))
  by None at some = cc
  by (Some p) at some =
      subst (λ ds. Holds job c (stepped ps (Fail a) ds ps.shelves) (later job c past (Fail a)))
      (sym (left_at s (place_held ps.master.pool.places a) p at ∙ ap (λ ds. slice_set ds p Vacant) same)) (fail_keeps job c ps past a p h taken spends short at)
