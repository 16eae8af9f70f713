-- What a call makes of the view: of one vertex, and of a task's result.
use Rattle.std.specs.Prelude.{◌≡◌, ℕ, ◌<◌, max, Bool, true, false, ◌||◌, ◌==◌, if◌then◌else◌, List, ◌∷◌, map, length, slice_set, Option, Some, refl}
use Rattle.std.specs.Option.{option_map_or}
use Rattle.std.proofs.Common.{ap, sym, ◌∙◌, arith}
use Rattle.std.proofs.lemmas.Bool.Decides.{nat_tests}
use Rattle.tez_ids.specs.declared.EdgeId.{EdgeId}
use Rattle.tez_ids.specs.declared.TaskId.{TaskId}
use Rattle.tez_ids.specs.declared.VertexId.{VertexId}
use Rattle.tez_ids.specs.declared.AttemptId.{AttemptId}
use Rattle.tez_ids.specs.Same.{task, same_task}
use Rattle.tez_lists.proofs.Tables.{map_below, map_each, each_each}
use Rattle.tez_plan.specs.Dag.{Dag, source_of, tasks_of as planned}
use Rattle.tez_conf.specs.declared.values.ConfValues.{ConfValues}
use Rattle.tez_vman.specs.declared.seen.Config.{Config}
use Rattle.tez_vman.specs.Rules.{config as shape}
use Rattle.tez_events.specs.declared.Entry.TheVariants.{Stands, Configured, Queued}
use Rattle.tez_history.specs.Shape.{Feed, ByFile, ByVertex, ByPartitions, feed, vertices, numbers_below}
use Rattle.tez_history.specs.History.{Past, config, is_scheduled}
use Rattle.tez_history.specs.Derived.{to_schedule, greatest_to_schedule}
use Rattle.tez_history.specs.Follows.{IsMade}
use Rattle.tez_schedule.specs.State.{VertexState}
use Rattle.tez_schedule.specs.Planned.{feeder_by}
use Rattle.tez_schedule.specs.Table.{asked, changed_at, configured_with, scheduled_with, won_with, fed_with, made_with, with_made, bytes_for, after_configure, after_schedule, with_result}
use Rattle.tez_schedule_view.specs.View.{schedule_view, progress_view, edge_view, fed_view, by_task, has_winner, made_view, FitsPlan}
use Rattle.tez_schedule_view.proofs.Lists.{changed-each, row-set}
use Rattle.tez_schedule_view.proofs.Beginning.{schedule_with, vertex_with, edge_with}
use Rattle.tez_schedule_view.proofs.Seeing.{vertices_view, edges_view}
use Rattle.tez_schedule_view.proofs.Asking.{most_view, asks, asked_view}
use Rattle.tez_schedule_view.proofs.Staying.{most_quiet}

-- ---- a vertex is configured

configured_at : (g : Dag) (c : ConfValues) (past : Past) (s : Config) (q : ℕ) (b : Bool) → (if b then configured_with s (progress_view g c past q) else progress_view g c past q)
    ≡ vertex_with g c q (if b then Some s else config q past) (progress_view g c past q).scheduled (progress_view g c past q).fed (progress_view g c past q).won
configured_at g c past s q true = refl
configured_at g c past s q false = refl

pub configured_view : (g : Dag) (c : ConfValues) (past : Past) (v : VertexId) (n b : ℕ) → IsMade g c (Configured v n b ∷ past) → FitsPlan g (Configured v n b ∷ past)
    → after_configure (schedule_view g c past) v.0 (shape n b) ≡ schedule_view g c (Configured v n b ∷ past)
configured_view g c past v n b m fits =
    ap (λ vs. asked (schedule_with vs (edges_view g past) (most_view g c past)))
    (changed-each (progress_view g c past) (configured_with (shape n b)) (length g.vertices) v.0
    ∙ map_below (λ q. if v.0 == q then configured_with (shape n b) (progress_view g c past q) else progress_view g c past q) (progress_view g c (Configured v n b ∷ past)) 0 (length g.vertices)
    (λ q _ _. configured_at g c past (shape n b) q (v.0 == q)))
    ∙ asked_view g c past (Configured v n b ∷ past) m fits (λ u. asks g c u past (Configured v n b) refl)

pub stands_view : (g : Dag) (c : ConfValues) (past : Past) (v : VertexId) (n b : ℕ) → IsMade g c (Stands v n b ∷ past) → FitsPlan g (Stands v n b ∷ past)
    → after_configure (schedule_view g c past) v.0 (shape n b) ≡ schedule_view g c (Stands v n b ∷ past)
stands_view g c past v n b m fits =
    ap (λ vs. asked (schedule_with vs (edges_view g past) (most_view g c past)))
    (changed-each (progress_view g c past) (configured_with (shape n b)) (length g.vertices) v.0
    ∙ map_below (λ q. if v.0 == q then configured_with (shape n b) (progress_view g c past q) else progress_view g c past q) (progress_view g c (Stands v n b ∷ past)) 0 (length g.vertices)
    (λ q _ _. configured_at g c past (shape n b) q (v.0 == q)))
    ∙ asked_view g c past (Stands v n b ∷ past) m fits (λ u. asks g c u past (Stands v n b) refl)

-- ---- a task is scheduled

either : (x y : Bool) → (if x then true else y) ≡ (x || y)
either true y = refl
either false y = refl

scheduled_row : (g : Dag) (c : ConfValues) (past : Past) (t : TaskId) (q : ℕ) (b : Bool) → (if b then scheduled_with t.index (progress_view g c past q) else progress_view g c past q)
    ≡ record (progress_view g c past q) { scheduled = if b then slice_set (progress_view g c past q).scheduled t.index true else (progress_view g c past q).scheduled }
scheduled_row g c past t q true = refl
scheduled_row g c past t q false = refl

-- the vertices, where a task was scheduled
abbrev pub scheduled_too : Dag → ConfValues → Past → TaskId → ℕ → VertexState
scheduled_too g c past t q = record (progress_view g c past q) { scheduled = by_task g q (λ s. same_task t s || is_scheduled s past) }

pub scheduled_vertices : (g : Dag) (c : ConfValues) (past : Past) (t : TaskId) → changed_at (vertices_view g c past) t.vertex.0 (scheduled_with t.index) ≡ map (scheduled_too g c past t) (vertices g)
scheduled_vertices g c past t =
    changed-each (progress_view g c past) (scheduled_with t.index) (length g.vertices) t.vertex.0
    ∙ map_below (λ q. if t.vertex.0 == q then scheduled_with t.index (progress_view g c past q) else progress_view g c past q) (scheduled_too g c past t) 0 (length g.vertices)
    (λ q _ _. scheduled_row g c past t q (t.vertex.0 == q)
    ∙ ap (λ xs. record (progress_view g c past q) { scheduled = xs })
    (row-set (λ i. is_scheduled (task q i) past) (λ i. same_task t (task q i) || is_scheduled (task q i) past) true t q (planned g q) (λ i. sym (either (same_task t (task q i)) (is_scheduled (task q i) past))) (t.vertex.0 == q) refl))

pub queued_view : (g : Dag) (c : ConfValues) (past : Past) (a : AttemptId) → after_schedule (schedule_view g c past) a.task ≡ schedule_view g c (Queued a ∷ past)
queued_view g c past a =
    ap (λ vs. schedule_with vs (edges_view g past) (most_view g c past)) (scheduled_vertices g c past a.task)
    ∙ ap (schedule_with (vertices_view g c (Queued a ∷ past)) (edges_view g past)) (sym (most_quiet g c past (Queued a) refl (λ v. refl)))

-- ---- a task has a winner, or has none any more

-- what is so after the result of a task is set
pub record IsResult (g : Dag) (c : ConfValues) (past later : Past) (queued : TaskId → Bool) (t : TaskId) (has : Bool) (told : List (EdgeId × ℕ)) : Type 0 where
  pub config : (v : ℕ) → config v later ≡ config v past
  pub scheduled : (s : TaskId) → is_scheduled s later ≡ queued s
  pub won : (s : TaskId) → has_winner later s ≡ (if same_task t s then has else has_winner past s)
  pub bytes : (e : ℕ) → e < length g.edges → (i : ℕ) → made_view later e (task (source_of g e) i) ≡ (if same_task t (task (source_of g e) i) then bytes_for e told else made_view past e (task (source_of g e) i))
  pub most : (v : ℕ) → greatest_to_schedule g c v later ≡ max (greatest_to_schedule g c v past) (to_schedule g c v later)
  pub made : IsMade g c later
  pub fits : FitsPlan g later

-- a vertex with what is scheduled told apart
abbrev pub progress_with : Dag → ConfValues → Past → (TaskId → Bool) → ℕ → VertexState
progress_with g c past scheduled q = vertex_with g c q (config q past) (by_task g q scheduled) (fed_view g past q (feed g q)) (by_task g q (has_winner past))

won_at : (g : Dag) (c : ConfValues) (q : ℕ) (o : Option Config) (s f w : List Bool) (i : ℕ) (has b : Bool) → (if b then won_with i has (vertex_with g c q o s f w) else vertex_with g c q o s f w) ≡ vertex_with g c q o s f (if b then slice_set w i has else w)
won_at g c q o s f w i has true = refl
won_at g c q o s f w i has false = refl

fed_at : (g : Dag) (c : ConfValues) (q : ℕ) (o : Option Config) (s f w : List Bool) (i : ℕ) (has b : Bool)
    → (if b then record (vertex_with g c q o s f w) { fed = slice_set f i has } else vertex_with g c q o s f w) ≡ vertex_with g c q o s (if b then slice_set f i has else f) w
fed_at g c q o s f w i has true = refl
fed_at g c q o s f w i has false = refl

turned : (m n : ℕ) → (m == n) ≡ (n == m)
turned m n = grind (arith, nat_tests)

won_row : (g : Dag) (past later : Past) (t : TaskId) (has : Bool) → ((s : TaskId) → has_winner later s ≡ (if same_task t s then has else has_winner past s)) → (v n : ℕ)
    → (if t.vertex.0 == v then slice_set (map (λ i. has_winner past (task v i)) (numbers_below n)) t.index has else map (λ i. has_winner past (task v i)) (numbers_below n)) ≡ map (λ i. has_winner later (task v i)) (numbers_below n)
won_row g past later t has won v n = row-set (λ i. has_winner past (task v i)) (λ i. has_winner later (task v i)) has t v n (λ i. won (task v i)) (t.vertex.0 == v) refl

fed_row : (g : Dag) (past later : Past) (t : TaskId) (has : Bool) → ((s : TaskId) → has_winner later s ≡ (if same_task t s then has else has_winner past s)) → (q : ℕ) (f : Feed)
    → (if option_map_or (λ (u : VertexId). u.0 == t.vertex.0) (feeder_by f) false then slice_set (fed_view g past q f) t.index has else fed_view g past q f) ≡ fed_view g later q f
fed_row g past later t has won q ByFile = refl
fed_row g past later t has won q (ByVertex u) =
    ap (λ b. if b then slice_set (fed_view g past q (ByVertex u)) t.index has else fed_view g past q (ByVertex u)) (turned u t.vertex.0) ∙ won_row g past later t has won u (planned g q)
fed_row g past later t has won q ByPartitions = refl

result_vertex : (g : Dag) (c : ConfValues) (past later : Past) (scheduled : TaskId → Bool) (t : TaskId) (has : Bool) (made : List (EdgeId × ℕ)) → IsResult g c past later scheduled t has made → (q : ℕ)
    → fed_with t.vertex.0 t.index has (if t.vertex.0 == q then won_with t.index has (progress_with g c past scheduled q) else progress_with g c past scheduled q) ≡ progress_view g c later q
result_vertex g c past later scheduled t has made r q =
    let o = config q past in
    let s = by_task g q scheduled in
    let f = fed_view g past q (feed g q) in
    let w = by_task g q (has_winner past) in
    let now = by_task g q (has_winner later) in
    let fed = fed_view g later q (feed g q) in
    ap (fed_with t.vertex.0 t.index has) (won_at g c q o s f w t.index has (t.vertex.0 == q) ∙ ap (vertex_with g c q o s f) (won_row g past later t has r.won q (planned g q)))
    ∙ fed_at g c q o s f now t.index has (option_map_or (λ (u : VertexId). u.0 == t.vertex.0) (feeder_by (feed g q)) false)
    ∙ ap (λ xs. vertex_with g c q o s xs now) (fed_row g past later t has r.won q (feed g q))
    ∙ ap (λ x. vertex_with g c q x s fed now) (sym (r.config q))
    ∙ ap (λ xs. vertex_with g c q (config q later) xs fed now) (sym (map_below (λ i. is_scheduled (task q i) later) (λ i. scheduled (task q i)) 0 (planned g q) (λ i _ _. r.scheduled (task q i))))

made_at : (g : Dag) (e : ℕ) (xs : List ℕ) (i n : ℕ) (b : Bool) → (if b then record (edge_with g e xs) { made = slice_set xs i n } else edge_with g e xs) ≡ edge_with g e (if b then slice_set xs i n else xs)
made_at g e xs i n true = refl
made_at g e xs i n false = refl

result_edge : (g : Dag) (c : ConfValues) (past later : Past) (scheduled : TaskId → Bool) (t : TaskId) (has : Bool) (made : List (EdgeId × ℕ)) → IsResult g c past later scheduled t has made → (e : ℕ) → e < length g.edges
    → made_with t.vertex.0 t.index made e (edge_view g past e) ≡ edge_view g later e
result_edge g c past later scheduled t has made r e low =
    let u = source_of g e in
    let row = by_task g u (made_view past e) in
    made_at g e row t.index (bytes_for e made) (u == t.vertex.0)
    ∙ ap (λ b. edge_with g e (if b then slice_set row t.index (bytes_for e made) else row)) (turned u t.vertex.0)
    ∙ ap (edge_with g e)
    (row-set (λ i. made_view past e (task u i)) (λ i. made_view later e (task u i)) (bytes_for e made) t u (planned g u) (λ i. r.bytes e low i) (t.vertex.0 == u) refl)

pub result_view : (g : Dag) (c : ConfValues) (past later : Past) (scheduled : TaskId → Bool) (t : TaskId) (has : Bool) (made : List (EdgeId × ℕ)) → IsResult g c past later scheduled t has made
    → with_result (schedule_with (map (progress_with g c past scheduled) (vertices g)) (edges_view g past) (most_view g c past)) t has made ≡ schedule_view g c later
result_view g c past later scheduled t has made r =
    let was = progress_with g c past scheduled in
    let n = length g.vertices in
    ap (λ vs. asked (schedule_with vs (with_made (edges_view g past) t made) (most_view g c past)))
    (ap (map (fed_with t.vertex.0 t.index has)) (changed-each was (won_with t.index has) n t.vertex.0)
    ∙ map_each (fed_with t.vertex.0 t.index has) (λ q. if t.vertex.0 == q then won_with t.index has (was q) else was q) 0 n
    ∙ map_below (λ q. fed_with t.vertex.0 t.index has (if t.vertex.0 == q then won_with t.index has (was q) else was q)) (progress_view g c later) 0 n
    (λ q _ _. result_vertex g c past later scheduled t has made r q))
    ∙ ap (λ es. asked (schedule_with (vertices_view g c later) es (most_view g c past)))
    (each_each (made_with t.vertex.0 t.index made) (edge_view g past) 0 (length g.edges)
    ∙ map_below (λ e. made_with t.vertex.0 t.index made e (edge_view g past e)) (edge_view g later) 0 (length g.edges) (λ e _ low. result_edge g c past later scheduled t has made r e (omega (arith, low))))
    ∙ asked_view g c past later r.made r.fits r.most
