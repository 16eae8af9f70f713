-- An order goes out.
use Rattle.std.specs.Prelude.{◌≡◌, ℕ, zero, suc, ◌<◌, true, is_some, List, [], ◌∷◌, map, length, slice_get, slice_set, Option, Some, None, IfSome, refl}
use Rattle.std.proofs.Common.{ap, sym, ◌∙◌, subst, arith}
use Rattle.tez_ids.specs.declared.AttemptId.{AttemptId}
use Rattle.tez_ids.specs.declared.EdgeId.{EdgeId}
use Rattle.tez_plan.specs.declared.parts.VertexSpec.{VertexSpec}
use Rattle.tez_plan.specs.Dag.{edge}
use Rattle.tez_vman.specs.declared.seen.Config.{Config}
use Rattle.tez_conf.specs.declared.values.ConfValues.{ConfValues}
use Rattle.tez_events.specs.declared.CoreEvent.TheVariants.{Send}
use Rattle.tez_meaning.specs.Jobs.{Job}
use Rattle.tez_history.specs.Shape.{Edge, edges_to}
use Rattle.tez_history.specs.History.{Past}
use Rattle.tez_pool.specs.Table.{place_held}
use Rattle.tez_schedule.specs.Table.{config_at}
use Rattle.tez_master_model.specs.Enabled.{enabled_in}
use Rattle.tez_master_view.specs.View.{master_view}
use Rattle.tez_orders.specs.Orders.{OrderParts}
use Rattle.tez_assembly.specs.Order.{Records, order_for}
use Rattle.tez_inflight.specs.Seats.{Seat, Vacant, Gathers, Out, Gathered, SeatsState, seat_at, gatherer, numbered, order_out, after_send}
use Rattle.tez_work_view.specs.Holdings.{gathered}
use Rattle.tez_world_invariant.specs.Keeping.{most_entries}
use Rattle.tez_world_invariant.specs.Step.{later, stepped}
use Rattle.tez_world_invariant.proofs.PartsPlaces.{send_placed, send_gathers, send_alone, send_vertex, send_configured, send_index, send_keeps}
use Rattle.tez_steps.specs.declared.running.Running.{Running}
use Rattle.tez_steps.specs.Holds.{parts_of, Holds, with_right_notes}
use Rattle.tez_steps.specs.Parts.{SameParts}
use Rattle.tez_steps.proofs.Events.{on_master, with_parts, seats_same, shelves_same, master_same}

-- ---- what was gathered, by number and by edge

pub numbered_back : (es : List Edge) (copy : ℕ → Records) (xs : List (EdgeId × Records)) → map numbered xs ≡ map (λ e. (e.0, copy e.0)) es → xs ≡ map (λ e. (edge e.0, copy e.0)) es
numbered_back [] copy [] is = refl
numbered_back [] copy (x ∷ xs) is = cc
numbered_back (e ∷ es) copy [] is = cc
numbered_back (e ∷ es) copy (x ∷ xs) is =
    let first : numbered x ≡ (e.0, copy e.0) = cc in
    let rest : map numbered xs ≡ map (λ e. (e.0, copy e.0)) es = cc in
    let here : x ≡ (edge e.0, copy e.0) = ap (λ (y : ℕ × Records). (edge y.0, y.1)) first in
    let there = numbered_back es copy xs rest in
    cc

numbers_over : (es : List Edge) (copy : ℕ → Records) → map (λ (part : ℕ × Records). part.0) (map (λ e. (e.0, copy e.0)) es) ≡ map (λ e. e.0) es
numbers_over [] copy = refl
numbers_over (e ∷ es) copy = ap (λ ns. e.0 ∷ ns) (numbers_over es copy)

pub numbered_numbers : (xs : List (EdgeId × Records)) → map (λ (part : ℕ × Records). part.0) (map numbered xs) ≡ map (λ (part : EdgeId × Records). part.0.0) xs
numbered_numbers [] = refl
numbered_numbers (x ∷ xs) = ap (λ ns. x.0.0 ∷ ns) (numbered_numbers xs)

pub gatherer_parts : (d : Seat) (a : AttemptId) → gatherer d ≡ Some a → (parts : Gathered) × (d ≡ Gathers a parts)
gatherer_parts Vacant a is = cc
gatherer_parts (Gathers b parts) a is = (parts, cc)
gatherer_parts (Out order) a is = cc

-- ---- who is sent

master_on : (job : Job) (c : ConfValues) (old : Running) (past : Past) (a : AttemptId) → Holds job c (parts_of old) past → enabled_in (master_view job.plan c past) (Send a) ≡ true → enabled_in old.master.state (Send a) ≡ true
master_on job c old past a h on = on_master job c (parts_of old) past (Send a) h on

pub not_gone : (o : Option ℕ) → is_some o ≡ true → o ≡ None → ⊥
not_gone None there gone = cc
not_gone (Some p) there gone = cc

pub due_placed : (job : Job) (c : ConfValues) (old r : Running) (past : Past) (a : AttemptId) → SameParts old r → Holds job c (parts_of old) past → enabled_in (master_view job.plan c past) (Send a) ≡ true
    → is_some (place_held r.master.state.pool.places a) ≡ true
due_placed job c old r past a same h on = ap (λ m. is_some (place_held m.pool.places a)) (master_same old r same) ∙ send_placed job c (with_right_notes job (parts_of old)) past a h (master_on job c old past a h on)

at_same : (old r : Running) (a : AttemptId) (p : ℕ) → SameParts old r → place_held r.master.state.pool.places a ≡ Some p → place_held old.master.state.pool.places a ≡ Some p
at_same old r a p same at = sym (ap (λ m. place_held m.pool.places a) (master_same old r same)) ∙ at

pub due_gathers : (job : Job) (c : ConfValues) (old r : Running) (past : Past) (a : AttemptId) (p : ℕ) → SameParts old r → Holds job c (parts_of old) past → enabled_in (master_view job.plan c past) (Send a) ≡ true
    → place_held r.master.state.pool.places a ≡ Some p → seat_at r.seats.seats p ≡ Gathers a (map (λ e. (e.0, gathered job a e.0 past)) (edges_to job.plan a.task.vertex.0))
due_gathers job c old r past a p same h on at =
    ap (λ ds. seat_at ds p) (seats_same old r same)
    ∙ send_gathers job c (with_right_notes job (parts_of old)) past a p h (master_on job c old past a h on) (at_same old r a p same at)

pub due_waits : (job : Job) (c : ConfValues) (old r : Running) (past : Past) (a : AttemptId) (p : ℕ) → SameParts old r → Holds job c (parts_of old) past → enabled_in (master_view job.plan c past) (Send a) ≡ true
    → place_held r.master.state.pool.places a ≡ Some p → gatherer (seat_at r.seats.seats p) ≡ Some a
due_waits job c old r past a p same h on at = ap gatherer (due_gathers job c old r past a p same h on at)

pub due_numbers : (job : Job) (c : ConfValues) (old r : Running) (past : Past) (a : AttemptId) (p : ℕ) (parts : Gathered) → SameParts old r → Holds job c (parts_of old) past → enabled_in (master_view job.plan c past) (Send a) ≡ true
    → place_held r.master.state.pool.places a ≡ Some p → seat_at r.seats.seats p ≡ Gathers a parts → map (λ (part : ℕ × Records). part.0) parts ≡ map (λ e. e.0) (edges_to job.plan a.task.vertex.0)
due_numbers job c old r past a p parts same h on at is =
    let these : Gathers a parts ≡ Gathers a (map (λ e. (e.0, gathered job a e.0 past)) (edges_to job.plan a.task.vertex.0)) = sym is ∙ due_gathers job c old r past a p same h on at in
    let all : parts ≡ map (λ e. (e.0, gathered job a e.0 past)) (edges_to job.plan a.task.vertex.0) = cc in
    ap (map (λ (part : ℕ × Records). part.0)) all ∙ numbers_over (edges_to job.plan a.task.vertex.0) (λ n. gathered job a n past)

pub due_alone : (job : Job) (c : ConfValues) (old r : Running) (past : Past) (a : AttemptId) → SameParts old r → Holds job c (parts_of old) past → enabled_in (master_view job.plan c past) (Send a) ≡ true
    → order_out r.seats.seats a ≡ None
due_alone job c old r past a same h on = ap (λ ds. order_out ds a) (seats_same old r same) ∙ send_alone job c (with_right_notes job (parts_of old)) past a h (master_on job c old past a h on)

pub due_vertex : (job : Job) (c : ConfValues) (old : Running) (past : Past) (a : AttemptId) → Holds job c (parts_of old) past → enabled_in (master_view job.plan c past) (Send a) ≡ true → a.task.vertex.0 < length job.plan.vertices
due_vertex job c old past a h on = send_vertex job c (with_right_notes job (parts_of old)) past a h (master_on job c old past a h on)

pub due_configured : (job : Job) (c : ConfValues) (old r : Running) (past : Past) (a : AttemptId) → SameParts old r → Holds job c (parts_of old) past → enabled_in (master_view job.plan c past) (Send a) ≡ true
    → is_some (config_at r.master.state.schedule a.task.vertex.0) ≡ true
due_configured job c old r past a same h on =
    ap (λ m. is_some (config_at m.schedule a.task.vertex.0)) (master_same old r same) ∙ send_configured job c (with_right_notes job (parts_of old)) past a h (master_on job c old past a h on)

index_by : (o : Option Config) (i : ℕ) → ((s : Config) → o ≡ Some s → i < s.tasks) → IfSome o (λ s. i < s.tasks)
index_by None i all = tt
index_by (Some s) i all = all s refl

pub due_index : (job : Job) (c : ConfValues) (old r : Running) (past : Past) (a : AttemptId) → SameParts old r → Holds job c (parts_of old) past → enabled_in (master_view job.plan c past) (Send a) ≡ true
    → IfSome (config_at r.master.state.schedule a.task.vertex.0) (λ s. a.task.index < s.tasks)
due_index job c old r past a same h on =
    subst (λ m. IfSome (config_at m.schedule a.task.vertex.0) (λ s. a.task.index < s.tasks)) (sym (master_same old r same))
    (index_by (config_at old.master.state.schedule a.task.vertex.0) a.task.index (λ s is. send_index job c (with_right_notes job (parts_of old)) past a s h (master_on job c old past a h on) is))

-- ---- once its order is out

get_vertex : (xs : List VertexSpec) (i : ℕ) → i < length xs → (s : VertexSpec) × (slice_get xs i ≡ Some s)
get_vertex [] i low = let no : ⊥ = omega arith in absurd no
get_vertex (x ∷ xs) zero low = (x, refl)
get_vertex (x ∷ xs) (suc i) low = get_vertex xs i (omega arith)

some_config : (o : Option Config) → is_some o ≡ true → (s : Config) × (o ≡ Some s)
some_config None is = cc
some_config (Some s) is = (s, refl)

pub due_attempt : (job : Job) (c : ConfValues) (old r : Running) (past : Past) (a : AttemptId) (p : ℕ) (o : OrderParts) → SameParts old r → Holds job c (parts_of old) past → enabled_in (master_view job.plan c past) (Send a) ≡ true
    → place_held r.master.state.pool.places a ≡ Some p
    → ((s : VertexSpec) (copy : ℕ → Records) (x : Config) → slice_get job.plan.vertices a.task.vertex.0 ≡ Some s → config_at r.master.state.schedule a.task.vertex.0 ≡ Some x
    → seat_at r.seats.seats p ≡ Gathers a (map (λ e. (e.0, copy e.0)) (edges_to job.plan a.task.vertex.0)) → o ≡ order_for job x.tasks a p copy s)
    → o.attempt ≡ a
due_attempt job c old r past a p o same h on at made =
    let s = get_vertex job.plan.vertices a.task.vertex.0 (due_vertex job c old past a h on) in
    let x = some_config (config_at r.master.state.schedule a.task.vertex.0) (due_configured job c old r past a same h on) in
    ap (λ (order : OrderParts). order.attempt) (made s.0 (λ n. gathered job a n past) x.0 s.1 x.1 (due_gathers job c old r past a p same h on at))

pub send_kept : (job : Job) (c : ConfValues) (old r mid : Running) (past : Past) (a : AttemptId) (p : ℕ) (o : OrderParts) → SameParts old r → Holds job c (parts_of old) past → enabled_in (master_view job.plan c past) (Send a) ≡ true
    → length (later job c past (Send a)) < most_entries → place_held r.master.state.pool.places a ≡ Some p
    → ((s : VertexSpec) (copy : ℕ → Records) (x : Config) → slice_get job.plan.vertices a.task.vertex.0 ≡ Some s → config_at r.master.state.schedule a.task.vertex.0 ≡ Some x
    → seat_at r.seats.seats p ≡ Gathers a (map (λ e. (e.0, copy e.0)) (edges_to job.plan a.task.vertex.0)) → o ≡ order_for job x.tasks a p copy s)
    → mid.seats ≡ after_send r.seats p o → mid.shelves ≡ r.shelves
    → Holds job c (stepped (parts_of old) (Send a) mid.seats.seats mid.shelves) (later job c past (Send a))
send_kept job c old r mid past a p o same h on short at made seats shelves =
    let taken = master_on job c old past a h on in
    let s = get_vertex job.plan.vertices a.task.vertex.0 (due_vertex job c old past a h on) in
    let x = some_config (config_at old.master.state.schedule a.task.vertex.0) (send_configured job c (with_right_notes job (parts_of old)) past a h taken) in
    let order : o ≡ order_for job x.0.tasks a p (λ n. gathered job a n past) s.0 =
    made s.0 (λ n. gathered job a n past) x.0 s.1 (ap (λ m. config_at m.schedule a.task.vertex.0) (master_same old r same) ∙ x.1) (due_gathers job c old r past a p same h on at) in
    with_parts job c (parts_of old) (Send a) (later job c past (Send a)) (slice_set old.seats.seats p (Out (order_for job x.0.tasks a p (λ n. gathered job a n past) s.0))) mid.seats.seats old.shelves mid.shelves
    (ap (λ (d : SeatsState). d.seats) seats
    ∙ ap (λ y. slice_set r.seats.seats p (Out y)) order
    ∙ ap (λ ds. slice_set ds p (Out (order_for job x.0.tasks a p (λ n. gathered job a n past) s.0))) (seats_same old r same))
    (shelves ∙ shelves_same old r same)
    (send_keeps job c (with_right_notes job (parts_of old)) past a p x.0 s.0 h taken short (at_same old r a p same at) x.1 s.1)
