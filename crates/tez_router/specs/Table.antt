-- The table of a router: what each call makes of it, and what it answers.
--     source_task l c i        the task whose output is input i of consumer task c
--     winner_in s t            the winner of a task
--     source_in s a e i        the winner behind an input
--     output_of l c i          which of its outputs the source task of an input makes it
--     piece_in s a e i         the winner behind an input, and which of its outputs it is
--     after_announce, after_withdraw, after_admit, after_dismiss, after_fetched, after_set_edge
--     fetched_in s a e i       an admitted attempt has fetched an input
--     missing_in s a           how many inputs of an admitted attempt were not fetched
--     notices_in s t           who waits for an output of the task's winner, and where
--     can_set_edge s e r       an edge may get this manager
--     without s ended          the router once these attempts are dismissed
--     fetches_in s             the fetches that can be made, in order
--     first_complete xs        the first attempt that misses nothing
use Rattle.std.specs.Prelude.{ℕ, Bool, true, false, not, ◌&&◌, ◌||◌, ◌==◌, nat_lt, nat_le, if◌then◌else◌, List, [], ◌∷◌, map, length, replicate, slice_get, slice_set, Option, Some, None, unwrap_or, is_some, option_and_then}
use Rattle.std.specs.List.{find, filter, flat_map, count_by, sum_by, list_any, range_with_len, list_all}
use Rattle.std.specs.Option.{option_map, option_map_or}
use Rattle.tez_ids.specs.declared.TaskId.{TaskId}
use Rattle.tez_ids.specs.declared.AttemptId.{AttemptId}
use Rattle.tez_ids.specs.Same.{task, same_task, same_attempt}
use Rattle.tez_lists.specs.Tables.{set_in}
use Rattle.tez_plan.specs.Dag.{edge}
use Rattle.tez_router.specs.declared.fetches.Fetch.{Fetch}
use Rattle.tez_router.specs.declared.notice.Notice.{Notice}
use Rattle.tez_router.specs.State.{RouterState, LinkState, AdmittedState, EdgeInputs, Routing, table_for}

-- how many inputs a consumer task has, none where there is no such task
abbrev pub inputs_in : Routing → ℕ → ℕ
inputs_in r c = if nat_lt c (table_for r).consumers then (table_for r).inputs_of c else 0

abbrev pub source_task : LinkState → ℕ → ℕ → Option TaskId
source_task l c i = if nat_lt i (inputs_in l.routing c) then Some (task l.source ((table_for l.routing).leads c i).0) else None

-- ---- winners

abbrev pub winner_at : List (List (Option AttemptId)) → ℕ → ℕ → Option AttemptId
winner_at rows v i = unwrap_or (slice_get (unwrap_or (slice_get rows v) []) i) None

abbrev pub winner_in : RouterState → TaskId → Option AttemptId
winner_in s t = winner_at s.winners t.vertex.0 t.index

abbrev pub source_in : RouterState → AttemptId → ℕ → ℕ → Option AttemptId
source_in s a e i = option_and_then (winner_in s) (option_and_then (λ l. source_task l a.task.index i) (slice_get s.links e))

-- 0 where there is no such input
abbrev pub output_of : LinkState → ℕ → ℕ → ℕ
output_of l c i = if nat_lt i (inputs_in l.routing c) then ((table_for l.routing).leads c i).1 else 0

abbrev pub output_in : RouterState → AttemptId → ℕ → ℕ → ℕ
output_in s a e i = option_map_or (λ l. output_of l a.task.index i) (slice_get s.links e) 0

abbrev pub piece_in : RouterState → AttemptId → ℕ → ℕ → Option (AttemptId × ℕ)
piece_in s a e i = option_map (λ w. (w, output_in s a e i)) (source_in s a e i)

abbrev pub with_winner : RouterState → TaskId → Option AttemptId → RouterState
with_winner s t w = record s { winners = set_in s.winners t.vertex.0 t.index w }

abbrev pub after_announce : RouterState → AttemptId → RouterState
after_announce s w = with_winner s w.task (Some w)

abbrev pub after_withdraw : RouterState → TaskId → RouterState
after_withdraw s t = with_winner s t None

-- ---- admitted attempts

-- the inputs of an attempt over an edge, if it leads to the attempt's vertex: none is fetched
abbrev pub blank_over : AttemptId → LinkState → List EdgeInputs
blank_over a l = if l.target == a.task.vertex.0 then record { edge = l.edge; fetched = replicate (inputs_in l.routing a.task.index) false } ∷ [] else []

abbrev pub blank : List LinkState → AttemptId → AdmittedState
blank links a = record { attempt = a; edges = flat_map (blank_over a) links }

-- the order of tasks: by vertex, then by index
abbrev pub before : TaskId → TaskId → Bool
before s t = nat_lt s.vertex.0 t.vertex.0 || (s.vertex.0 == t.vertex.0 && nat_lt s.index t.index)

-- it stands in the order of tasks, in place of another attempt of its task
abbrev pub admit_in : AdmittedState → List AdmittedState → List AdmittedState
admit_in x [] = x ∷ []
admit_in x (y ∷ ys) =
    if before y.attempt.task x.attempt.task then y ∷ admit_in x ys else (if same_task y.attempt.task x.attempt.task then x ∷ ys else x ∷ y ∷ ys)

abbrev pub after_admit : RouterState → AttemptId → RouterState
after_admit s a = record s { admitted = admit_in (blank s.links a) s.admitted }

abbrev pub after_dismiss : RouterState → AttemptId → RouterState
after_dismiss s a = record s { admitted = filter (λ x. not (same_attempt x.attempt a)) s.admitted }

abbrev pub fetch_over : ℕ → ℕ → EdgeInputs → EdgeInputs
fetch_over e i y = if y.edge == e then record y { fetched = slice_set y.fetched i true } else y

abbrev pub fetch_by : AttemptId → ℕ → ℕ → AdmittedState → AdmittedState
fetch_by a e i x = if same_attempt x.attempt a then record x { edges = map (fetch_over e i) x.edges } else x

abbrev pub after_fetched : RouterState → AttemptId → ℕ → ℕ → RouterState
after_fetched s a e i = record s { admitted = map (fetch_by a e i) s.admitted }

abbrev pub has_over : ℕ → ℕ → EdgeInputs → Bool
has_over e i y = y.edge == e && unwrap_or (slice_get y.fetched i) false

abbrev pub has_fetched : AttemptId → ℕ → ℕ → AdmittedState → Bool
has_fetched a e i x = same_attempt x.attempt a && list_any (has_over e i) x.edges

abbrev pub fetched_in : RouterState → AttemptId → ℕ → ℕ → Bool
fetched_in s a e i = list_any (has_fetched a e i) s.admitted

abbrev pub missing_of : AdmittedState → ℕ
missing_of x = sum_by (λ y. count_by not y.fetched) x.edges

abbrev pub missing_in : RouterState → AttemptId → ℕ
missing_in s a = sum_by missing_of (filter (λ x. same_attempt x.attempt a) s.admitted)

-- ---- another manager

abbrev pub with_routing : List LinkState → ℕ → Routing → List LinkState
with_routing links e r = option_map_or (λ l. slice_set links e (record l { routing = r })) (slice_get links e) links

-- the inputs over the edge are those of the new manager, none of them fetched
abbrev pub restart_over : ℕ → ℕ → EdgeInputs → EdgeInputs
restart_over e n y = if y.edge == e then record y { fetched = replicate n false } else y

abbrev pub restart_by : ℕ → Routing → AdmittedState → AdmittedState
restart_by e r x = record x { edges = map (restart_over e (inputs_in r x.attempt.task.index)) x.edges }

abbrev pub after_set_edge : RouterState → ℕ → Routing → RouterState
after_set_edge s e r = record s { links = with_routing s.links e r; admitted = map (restart_by e r) s.admitted }

-- nothing was fetched over the edge, and the new manager gives no more inputs
abbrev pub can_restart : ℕ → ℕ → EdgeInputs → Bool
can_restart e n y = not (y.edge == e) || (count_by (λ b. b) y.fetched == 0 && nat_le n (length y.fetched))

abbrev pub can_restart_by : ℕ → Routing → AdmittedState → Bool
can_restart_by e r x = list_all (can_restart e (inputs_in r x.attempt.task.index)) x.edges

abbrev pub can_set_edge : RouterState → ℕ → Routing → Bool
can_set_edge s e r = list_all (can_restart_by e r) s.admitted

-- ---- notices

abbrev pub is_task : TaskId → Option TaskId → Bool
is_task t None = false
is_task t (Some s) = same_task s t

-- the input leads back to the task, and was not fetched
abbrev pub waits_for : LinkState → TaskId → ℕ → List Bool → ℕ → Bool
waits_for l t c fetched i = is_task t (source_task l c i) && not (unwrap_or (slice_get fetched i) false)

abbrev pub input_notice : LinkState → TaskId → AttemptId → AttemptId → EdgeInputs → ℕ → List Notice
input_notice l t lost a y i = if waits_for l t a.task.index y.fetched i then record { attempt = a; edge = edge y.edge; input = i; lost = lost } ∷ [] else []

abbrev pub notices_over : Option LinkState → TaskId → AttemptId → AttemptId → EdgeInputs → List Notice
notices_over None t lost a y = []
notices_over (Some l) t lost a y = flat_map (input_notice l t lost a y) (range_with_len 0 (length y.fetched))

abbrev pub edge_notices : List LinkState → TaskId → AttemptId → AttemptId → EdgeInputs → List Notice
edge_notices links t lost a y = notices_over (slice_get links y.edge) t lost a y

abbrev pub attempt_notices : List LinkState → TaskId → AttemptId → AdmittedState → List Notice
attempt_notices links t lost x = flat_map (edge_notices links t lost x.attempt) x.edges

-- of each admitted attempt, by edge and by input, those that wait for the lost winner's output
abbrev pub notices_of : RouterState → TaskId → AttemptId → List Notice
notices_of s t lost = flat_map (attempt_notices s.links t lost) s.admitted

abbrev pub notices_in : RouterState → TaskId → List Notice
notices_in s t = option_map_or (notices_of s t) (winner_in s t) []

-- ---- attempts that a step ends

abbrev pub is_among : List AttemptId → AttemptId → Bool
is_among others a = list_any (λ b. same_attempt a b) others

abbrev pub without : RouterState → List AttemptId → RouterState
without s ended = record s { admitted = filter (λ x. not (is_among ended x.attempt)) s.admitted }

-- ---- fetches

-- the input was not fetched, and its source task has a winner
abbrev pub can_fetch : List (List (Option AttemptId)) → LinkState → ℕ → List Bool → ℕ → Bool
can_fetch rows l c fetched i = not (unwrap_or (slice_get fetched i) false) && is_some (option_and_then (λ t. winner_at rows t.vertex.0 t.index) (source_task l c i))

abbrev pub input_fetch : List (List (Option AttemptId)) → LinkState → AttemptId → EdgeInputs → ℕ → List Fetch
input_fetch rows l a y i = if can_fetch rows l a.task.index y.fetched i then record { attempt = a; edge = edge y.edge; input = i } ∷ [] else []

abbrev pub fetches_over : List (List (Option AttemptId)) → Option LinkState → AttemptId → EdgeInputs → List Fetch
fetches_over rows None a y = []
fetches_over rows (Some l) a y = flat_map (input_fetch rows l a y) (range_with_len 0 (length y.fetched))

abbrev pub edge_fetches : List LinkState → List (List (Option AttemptId)) → AttemptId → EdgeInputs → List Fetch
edge_fetches links rows a y = fetches_over rows (slice_get links y.edge) a y

abbrev pub attempt_fetches : List LinkState → List (List (Option AttemptId)) → AdmittedState → List Fetch
attempt_fetches links rows x = flat_map (edge_fetches links rows x.attempt) x.edges

abbrev pub fetches_in : RouterState → List Fetch
fetches_in s = flat_map (attempt_fetches s.links s.winners) s.admitted

-- the first attempt that misses nothing
abbrev pub first_complete : List AdmittedState → Option AttemptId
first_complete xs = option_map (λ x. x.attempt) (find (λ x. missing_of x == 0) xs)
