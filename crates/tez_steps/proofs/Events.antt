-- What an event makes of the parts of a world.
use Rattle.std.specs.Prelude.{◌≡◌, ℕ, zero, suc, ◌*◌, ◌<◌, ◌==◌, true, not, is_some, if◌then◌else◌, List, [], ◌∷◌, map, length, slice_get, slice_set, Option, Some, None, IfSome, IsTrue, refl}
use Rattle.std.proofs.Common.{ap, sym, ◌∙◌, subst, arith}
use Rattle.tez_ids.specs.declared.AttemptId.{AttemptId}
use Rattle.tez_ids.specs.declared.TaskId.{TaskId}
use Rattle.tez_ids.specs.declared.EdgeId.{EdgeId}
use Rattle.tez_ids.specs.declared.NodeId.{NodeId}
use Rattle.tez_ids.specs.Same.{same_attempt}
use Rattle.tez_lists.specs.Numbers.{numbers_from}
use Rattle.tez_plan.specs.Dag.{edge, to}
use Rattle.tez_conf.specs.declared.values.ConfValues.{ConfValues}
use Rattle.tez_events.specs.declared.CoreEvent.{CoreEvent}
use Rattle.tez_events.specs.declared.CoreEvent.TheVariants.{Open, Configure, Queue, Place, Fetch, Send, Preempt, Fail, LoseNode, LoseOutput, Restart, Ready, CommitStart, Ask, Publish, Finish, Purge}
use Rattle.tez_meaning.specs.Jobs.{Job}
use Rattle.tez_history.specs.Shape.{Edge, edges_to}
use Rattle.tez_history.specs.History.{Past}
use Rattle.tez_shelves.specs.Shelf.{shelf, kept_if, same_node}
use Rattle.tez_master_model.specs.Read.{winner_in}
use Rattle.tez_master_model.specs.Enabled.{enabled_in}
use Rattle.tez_master_view.specs.View.{master_view}
use Rattle.tez_inflight.specs.Seats.{Seat, Gathers, SeatsState, number, nothing_over, numbers_differ, order_of, seat_at, after_seat, after_leaves}
use Rattle.tez_inflight.proofs.EdgeLemmas.{numbers_of_tested}
use Rattle.tez_work_view.specs.Holdings.{Pieces, node}
use Rattle.tez_world_invariant.specs.Keeping.{Parts, most_entries}
use Rattle.tez_world_invariant.specs.Step.{later, stepped, left, fetched}
use Rattle.tez_world_invariant.proofs.PartsKeep.{quiet_keeps}
use Rattle.tez_world_invariant.proofs.PartsPlaces.{place_vacant, place_keeps, preempt_leaves}
use Rattle.tez_world_invariant.proofs.PartsInputs.{fetch_keeps}
use Rattle.tez_world_invariant.proofs.PartsNumbers.{parts_nodes}
use Rattle.tez_world_invariant.proofs.PartsLosses.{node_low, node_keeps, output_won, output_keeps}
use Rattle.tez_steps.specs.declared.running.Running.{Running}
use Rattle.tez_steps.specs.Holds.{parts_of, Holds, with_right_notes}
use Rattle.tez_steps.specs.Parts.{SameParts, IsMasterOnly}

pub on_master : (job : Job) (c : ConfValues) (ps : Parts) (past : Past) (e : CoreEvent) → Holds job c ps past → enabled_in (master_view job.plan c past) e ≡ true → enabled_in ps.master e ≡ true
on_master job c ps past e h on = ap (λ m. enabled_in m e) h.master ∙ on

pub with_parts : (job : Job) (c : ConfValues) (ps : Parts) (e : CoreEvent) (past : Past) (ds ds' : List Seat) (ss ss' : List (AttemptId × (NodeId × Pieces))) → ds' ≡ ds → ss' ≡ ss → Holds job c (stepped ps e ds ss) past → Holds job c (stepped ps e ds' ss') past
with_parts job c ps e past ds ds' ss ss' d s h = subst (λ x. Holds job c (stepped ps e x ss') past) (sym d) (subst (λ x. Holds job c (stepped ps e ds x) past) (sym s) h)

pub seats_same : (old r : Running) → SameParts old r → r.seats.seats ≡ old.seats.seats
seats_same old r same = ap (λ (ps : Parts). ps.seats) same.parts

pub shelves_same : (old r : Running) → SameParts old r → r.shelves ≡ old.shelves
shelves_same old r same = ap (λ (ps : Parts). ps.shelves) same.parts

pub master_same : (old r : Running) → SameParts old r → r.master.state ≡ old.master.state
master_same old r same = ap (λ (ps : Parts). ps.master) same.parts

-- ---- events that concern no seat and no shelf

pub plain_kept : (job : Job) (c : ConfValues) (ps : Parts) (past : Past) (e : CoreEvent) → IsMasterOnly e → Holds job c ps past → enabled_in ps.master e ≡ true → length (later job c past e) < most_entries
    → Holds job c (stepped ps e ps.seats ps.shelves) (later job c past e)
plain_kept job c ps past Open plain h on short = cc
plain_kept job c ps past (Configure v) plain h on short = quiet_keeps job c (with_right_notes job ps) past (Configure v) tt tt tt h on short
plain_kept job c ps past (Queue t) plain h on short = quiet_keeps job c (with_right_notes job ps) past (Queue t) tt tt tt h on short
plain_kept job c ps past (Place a p) plain h on short = absurd plain
plain_kept job c ps past (Fetch a e i) plain h on short = absurd plain
plain_kept job c ps past (Send a) plain h on short = absurd plain
plain_kept job c ps past (Preempt a) plain h on short = absurd plain
plain_kept job c ps past (Fail a) plain h on short = absurd plain
plain_kept job c ps past (LoseNode slot) plain h on short = absurd plain
plain_kept job c ps past (LoseOutput t) plain h on short = absurd plain
plain_kept job c ps past Restart plain h on short = cc
plain_kept job c ps past (Ready v) plain h on short = absurd plain
plain_kept job c ps past CommitStart plain h on short = absurd plain
plain_kept job c ps past (Ask v) plain h on short = cc
plain_kept job c ps past (Publish v) plain h on short = absurd plain
plain_kept job c ps past Finish plain h on short = quiet_keeps job c (with_right_notes job ps) past Finish tt tt tt h on short
plain_kept job c ps past Purge plain h on short = absurd plain

pub quiet_kept : (job : Job) (c : ConfValues) (old r : Running) (past : Past) (e : CoreEvent) → SameParts old r → IsMasterOnly e → Holds job c (parts_of old) past → enabled_in (master_view job.plan c past) e ≡ true → length (later job c past e) < most_entries
    → Holds job c (stepped (parts_of old) e r.seats.seats r.shelves) (later job c past e)
quiet_kept job c old r past e same plain h on short =
    with_parts job c (parts_of old) e (later job c past e) old.seats.seats r.seats.seats old.shelves r.shelves (seats_same old r same) (shelves_same old r same)
    (plain_kept job c (parts_of old) past e plain h (on_master job c (parts_of old) past e h on) short)

-- ---- places

numbers_again : (es : List Edge) → map number (map (λ e. edge e.0) es) ≡ map (λ e. e.0) es
numbers_again [] = refl
numbers_again (e ∷ es) = ap (λ ns. e.0 ∷ ns) (numbers_again es)

pub edges_in_differ : (job : Job) (v : ℕ) (edges : List EdgeId) → edges ≡ map (λ e. edge e.0) (edges_to job.plan v) → IsTrue (numbers_differ (map number edges))
edges_in_differ job v edges all =
    ap (λ es. numbers_differ (map number es)) all
    ∙ ap numbers_differ (numbers_again (edges_to job.plan v))
    ∙ numbers_of_tested (λ e. to job.plan e.1 == v) 0 job.plan.edges

pub seat_free : (job : Job) (c : ConfValues) (old r : Running) (past : Past) (a : AttemptId) (p : ℕ) → SameParts old r → Holds job c (parts_of old) past → enabled_in (master_view job.plan c past) (Place a p) ≡ true
    → order_of (seat_at r.seats.seats p) ≡ None
seat_free job c old r past a p same h on =
    ap (λ ds. order_of (seat_at ds p)) (seats_same old r same) ∙ ap order_of (place_vacant job c (with_right_notes job (parts_of old)) past a p h (on_master job c (parts_of old) past (Place a p) h on))

pub place_kept : (job : Job) (c : ConfValues) (old r mid : Running) (past : Past) (a : AttemptId) (p : ℕ) (edges : List EdgeId) → SameParts old r → Holds job c (parts_of old) past → enabled_in (master_view job.plan c past) (Place a p) ≡ true
    → length (later job c past (Place a p)) < most_entries → edges ≡ map (λ e. edge e.0) (edges_to job.plan a.task.vertex.0) → mid.seats ≡ after_seat r.seats p a (map number edges) → mid.shelves ≡ r.shelves
    → Holds job c (stepped (parts_of old) (Place a p) mid.seats.seats mid.shelves) (later job c past (Place a p))
place_kept job c old r mid past a p edges same h on short all seats shelves =
    let ns = map (λ e. e.0) (edges_to job.plan a.task.vertex.0) in
    with_parts job c (parts_of old) (Place a p) (later job c past (Place a p)) (slice_set old.seats.seats p (Gathers a (map nothing_over ns))) mid.seats.seats old.shelves mid.shelves
    (ap (λ (s : SeatsState). s.seats) seats
    ∙ ap (λ es. slice_set r.seats.seats p (Gathers a (map nothing_over (map number es)))) all
    ∙ ap (λ xs. slice_set r.seats.seats p (Gathers a (map nothing_over xs))) (numbers_again (edges_to job.plan a.task.vertex.0))
    ∙ ap (λ ds. slice_set ds p (Gathers a (map nothing_over ns))) (seats_same old r same))
    (shelves ∙ shelves_same old r same)
    (place_keeps job c (with_right_notes job (parts_of old)) past a p h (on_master job c (parts_of old) past (Place a p) h on) short)

pub left_same : (old r : Running) (a : AttemptId) → SameParts old r → (left r.master.state r.seats a).seats ≡ (left old.master.state r.seats a).seats
left_same old r a same = ap (λ m. (left m r.seats a).seats) (master_same old r same)

pub preempt_kept : (job : Job) (c : ConfValues) (old r mid : Running) (past : Past) (a : AttemptId) → SameParts old r → Holds job c (parts_of old) past → enabled_in (master_view job.plan c past) (Preempt a) ≡ true
    → length (later job c past (Preempt a)) < most_entries → mid.seats ≡ left r.master.state r.seats a → mid.shelves ≡ r.shelves
    → Holds job c (stepped (parts_of old) (Preempt a) mid.seats.seats mid.shelves) (later job c past (Preempt a))
preempt_kept job c old r mid past a same h on short seats shelves =
    with_parts job c (parts_of old) (Preempt a) (later job c past (Preempt a)) (left old.master.state r.seats a).seats mid.seats.seats old.shelves mid.shelves
    (ap (λ (s : SeatsState). s.seats) seats ∙ left_same old r a same)
    (shelves ∙ shelves_same old r same)
    (preempt_leaves job c (with_right_notes job (parts_of old)) past a r.seats h (on_master job c (parts_of old) past (Preempt a) h on) short (seats_same old r same))

-- ---- inputs

fetched_same : (old r : Running) (a : AttemptId) (e i : ℕ) → SameParts old r → (fetched r.master.state r.shelves r.seats a e i).seats ≡ (fetched old.master.state old.shelves r.seats a e i).seats
fetched_same old r a e i same =
    ap (λ m. (fetched m r.shelves r.seats a e i).seats) (master_same old r same) ∙ ap (λ ss. (fetched old.master.state ss r.seats a e i).seats) (shelves_same old r same)

pub fetch_kept : (job : Job) (c : ConfValues) (old r mid : Running) (past : Past) (a : AttemptId) (e : EdgeId) (i : ℕ) → SameParts old r → Holds job c (parts_of old) past → enabled_in (master_view job.plan c past) (Fetch a e i) ≡ true
    → length (later job c past (Fetch a e i)) < most_entries → mid.seats ≡ fetched r.master.state r.shelves r.seats a e.0 i → mid.shelves ≡ r.shelves
    → Holds job c (stepped (parts_of old) (Fetch a e i) mid.seats.seats mid.shelves) (later job c past (Fetch a e i))
fetch_kept job c old r mid past a e i same h on short seats shelves =
    with_parts job c (parts_of old) (Fetch a e i) (later job c past (Fetch a e i)) (fetched old.master.state old.shelves r.seats a e.0 i).seats mid.seats.seats old.shelves mid.shelves
    (ap (λ (s : SeatsState). s.seats) seats ∙ fetched_same old r a e.0 i same)
    (shelves ∙ shelves_same old r same)
    (fetch_keeps job c (with_right_notes job (parts_of old)) past a e i r.seats h (on_master job c (parts_of old) past (Fetch a e i) h on) short (seats_same old r same))

-- ---- losses

get_there : (xs : List ℕ) (i : ℕ) → i < length xs → (n : ℕ) × (slice_get xs i ≡ Some n)
get_there [] i low = let no : ⊥ = omega arith in absurd no
get_there (x ∷ xs) zero low = (x, refl)
get_there (x ∷ xs) (suc i) low = get_there xs i (omega arith)

life_there : (job : Job) (c : ConfValues) (ps : Parts) (past : Past) (slot : ℕ) → Holds job c ps past → enabled_in ps.master (LoseNode slot) ≡ true → (n : ℕ) × (slice_get ps.master.pool.lives slot ≡ Some n)
life_there job c ps past slot h on =
    let low : slot < c.nodes = node_low job c (with_right_notes job ps) past slot h on in
    let nodes : length ps.master.pool.lives ≡ c.nodes = parts_nodes job c (with_right_notes job ps) past h ∙ ap (λ m. m.conf.nodes) h.master in
    get_there ps.master.pool.lives slot (omega arith)

pub node_kept : (job : Job) (c : ConfValues) (old r mid : Running) (past : Past) (slot : ℕ) → SameParts old r → Holds job c (parts_of old) past → enabled_in (master_view job.plan c past) (LoseNode slot) ≡ true
    → length (later job c past (LoseNode slot)) < most_entries → mid.seats ≡ after_leaves r.seats (numbers_from (slot * c.per_node) c.per_node)
    → IfSome (slice_get r.master.state.pool.lives slot) (λ life. (b : AttemptId) → shelf b mid.shelves ≡ kept_if (λ x. not (same_node x.0 (node slot life))) (shelf b r.shelves))
    → Holds job c (stepped (parts_of old) (LoseNode slot) mid.seats.seats mid.shelves) (later job c past (LoseNode slot))
node_kept job c old r mid past slot same h on short seats shelves =
    let taken = on_master job c (parts_of old) past (LoseNode slot) h on in
    let there = life_there job c (parts_of old) past slot h taken in
    let lost : (b : AttemptId) → shelf b mid.shelves ≡ kept_if (λ x. not (same_node x.0 (node slot there.0))) (shelf b r.shelves) =
    subst (λ o. IfSome o (λ life. (b : AttemptId) → shelf b mid.shelves ≡ kept_if (λ x. not (same_node x.0 (node slot life))) (shelf b r.shelves)))
    (ap (λ m. slice_get m.pool.lives slot) (master_same old r same) ∙ there.1) shelves in
    with_parts job c (parts_of old) (LoseNode slot) (later job c past (LoseNode slot)) (after_leaves r.seats (numbers_from (slot * c.per_node) c.per_node)).seats mid.seats.seats mid.shelves mid.shelves
    (ap (λ (s : SeatsState). s.seats) seats) refl
    (node_keeps job c (with_right_notes job (parts_of old)) past slot there.0 r.seats mid.shelves h taken short there.1 (seats_same old r same)
    (λ b. lost b ∙ ap (λ ss. kept_if (λ x. not (same_node x.0 (node slot there.0))) (shelf b ss)) (shelves_same old r same)))

some_one : (o : Option AttemptId) → is_some o ≡ true → (w : AttemptId) × (o ≡ Some w)
some_one None is = cc
some_one (Some w) is = (w, refl)

pub output_kept : (job : Job) (c : ConfValues) (old r mid : Running) (past : Past) (t : TaskId) → SameParts old r → Holds job c (parts_of old) past → enabled_in (master_view job.plan c past) (LoseOutput t) ≡ true
    → length (later job c past (LoseOutput t)) < most_entries → mid.seats ≡ r.seats
    → IfSome (winner_in r.master.state t) (λ w. (b : AttemptId) → shelf b mid.shelves ≡ (if same_attempt w b then None else shelf b r.shelves))
    → Holds job c (stepped (parts_of old) (LoseOutput t) mid.seats.seats mid.shelves) (later job c past (LoseOutput t))
output_kept job c old r mid past t same h on short seats shelves =
    let taken = on_master job c (parts_of old) past (LoseOutput t) h on in
    let there = some_one (winner_in old.master.state t) (output_won job c (with_right_notes job (parts_of old)) past t h taken) in
    let lost : (b : AttemptId) → shelf b mid.shelves ≡ (if same_attempt there.0 b then None else shelf b r.shelves) =
    subst (λ o. IfSome o (λ w. (b : AttemptId) → shelf b mid.shelves ≡ (if same_attempt w b then None else shelf b r.shelves)))
    (ap (λ m. winner_in m t) (master_same old r same) ∙ there.1) shelves in
    with_parts job c (parts_of old) (LoseOutput t) (later job c past (LoseOutput t)) old.seats.seats mid.seats.seats mid.shelves mid.shelves
    (ap (λ (s : SeatsState). s.seats) seats ∙ seats_same old r same) refl
    (output_keeps job c (with_right_notes job (parts_of old)) past t there.0 mid.shelves h taken short there.1
    (λ b. lost b ∙ ap (λ ss. if same_attempt there.0 b then None else shelf b ss) (shelves_same old r same)))
