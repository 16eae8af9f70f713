-- What the machines tell of attempts, and the attempts in order of tasks.
use Rattle.std.specs.Prelude.{◌≡◌, ◌<◌, nat_lt, ℕ, zero, suc, Bool, true, false, if◌then◌else◌, List, [], ◌∷◌, ◌++◌, map, length, Option, Some, None, is_some, unwrap_or, refl}
use Rattle.std.specs.List.{filter_map, flat_map, cons_option}
use Rattle.std.specs.Option.{option_map}
use Rattle.std.proofs.Common.{ap, sym, ◌∙◌, subst, arith}
use Rattle.std.proofs.lemmas.Bool.Decides.{nat_tests}
use Rattle.tez_ids.specs.declared.TaskId.{TaskId}
use Rattle.tez_ids.specs.declared.AttemptId.{AttemptId}
use Rattle.tez_ids.specs.Same.{task, same_attempt}
use Rattle.tez_lists.specs.Numbers.{numbers_from}
use Rattle.tez_plan.specs.Dag.{Dag, tasks_of as planned}
use Rattle.tez_conf.specs.declared.values.ConfValues.{ConfValues}
use Rattle.tez_vman.specs.declared.seen.Config.{Config}
use Rattle.tez_vman.specs.Rules.{config as shape}
use Rattle.tez_attempt.specs.declared.AttemptState.{AttemptState}
use Rattle.tez_task.specs.TaskState.{TaskState}
use Rattle.tez_task.specs.Table.{live_of, state_of}
use Rattle.tez_history.specs.Shape.{numbers_below, vertices}
use Rattle.tez_history.specs.History.{Past, Stage, InQueue, Waits, Runs, Ended, Unknown, stage, live, winner, config}
use Rattle.tez_history.specs.Derived.{is_configured, is_task, task_count, tasks, tasks_if, live_attempts}
use Rattle.tez_history.specs.Follows.{IsMade, IsAlive}
use Rattle.tez_laws.proofs.Same.{same_attempt-true, same_attempt-refl}
use Rattle.tez_laws.proofs.Ranges.{live_scheduled, winner_scheduled, scheduled_is_task, configured_is_vertex}
use Rattle.tez_laws.proofs.StepLaw.{both}
use Rattle.tez_laws.proofs.Tasks.{live_alive}
use Rattle.tez_vertex_view.specs.View.{machine_at, live_view, task_view, tasks_in, vertex_view, vertices_view, come, live_in, winners_in}
use Rattle.tez_vertex_view.proofs.Moving.{living, live_fact, lives}
use Rattle.tez_vertex_view.proofs.Answering.{live_same}

-- ---- how far an attempt has come

itself : (a : AttemptId) (m : AttemptState) → state_of (living a m) a ≡ Some m
itself a m = ap (λ b. if b then Some m else None) (same_attempt-refl a)

alive_state : (g : Dag) (c : ConfValues) (past : Past) (a : AttemptId) (s : Stage) → IsMade g c past → stage a past ≡ s → IsAlive s → state_of (live_view a.task past) a ≡ Some (machine_at s)
alive_state g c past a s m e h =
    ap (λ l. state_of l a) (live_fact past a.task a s (lives g c past a m (subst IsAlive (sym e) h)) e) ∙ itself a (machine_at s)

gone_state : (past : Past) (a : AttemptId) → (IsAlive (stage a past) → ⊥) → state_of (live_view a.task past) a ≡ None
gone_state past a gone = by (live a.task past) refl where
  by : (o : Option AttemptId) → live a.task past ≡ o → state_of (option_map (λ b. record { attempt = b; machine = machine_at (stage b past) }) o) a ≡ None
  by None e = refl
  by (Some b) e = test (same_attempt b a) refl where
    test : (x : Bool) → same_attempt b a ≡ x → (if x then Some (machine_at (stage b past)) else None) ≡ None
    test false s = refl
    test true s = absurd (gone (live_alive past a.task a (e ∙ ap Some (same_attempt-true b a s))))

state_at : (g : Dag) (c : ConfValues) (past : Past) (a : AttemptId) (s : Stage) → IsMade g c past → stage a past ≡ s → state_of (live_view a.task past) a ≡ come s
state_at g c past a InQueue m e = alive_state g c past a InQueue m e tt
state_at g c past a (Waits p) m e = alive_state g c past a (Waits p) m e tt
state_at g c past a (Runs p) m e = alive_state g c past a (Runs p) m e tt
state_at g c past a Unknown m e = gone_state past a (subst IsAlive e)
state_at g c past a Ended m e = gone_state past a (subst IsAlive e)

pub read_state : (g : Dag) (c : ConfValues) (past : Past) (a : AttemptId) → IsMade g c past → state_of (task_view c a.task past).live a ≡ come (stage a past)
read_state g c past a m = state_at g c past a (stage a past) m refl

-- ---- the attempts in order of tasks

long : {X : Type 0} (h : ℕ → X) (a n : ℕ) → length (map h (numbers_from a n)) ≡ n
long h a zero = refl
long h a (suc n) = ap suc (long h (suc a) n)

counted : (o : Option Config) (plan : Config) → is_some o ≡ true → tasks_in o ≡ (unwrap_or o plan).tasks
counted (Some s) plan h = refl
counted None plan h = cc

pub read_count : (g : Dag) (c : ConfValues) (past : Past) (v : ℕ) → is_configured v past ≡ true → length (vertex_view c v past).tasks ≡ task_count g v past
read_count g c past v is = long (λ i. task_view c (task v i) past) 0 (tasks_in (config v past)) ∙ counted (config v past) (shape (planned g v) 1) is

cons-append : {Y : Type 0} (o : Option Y) (us vs : List Y) → cons_option o (us ++ vs) ≡ cons_option o us ++ vs
cons-append None us vs = refl
cons-append (Some y) us vs = refl

filter-append : {X Y : Type 0} (f : X → Option Y) (xs ys : List X) → filter_map f (xs ++ ys) ≡ filter_map f xs ++ filter_map f ys
filter-append f [] ys = refl
filter-append f (x ∷ xs) ys = ap (cons_option (f x)) (filter-append f xs ys) ∙ cons-append (f x) (filter_map f xs) (filter_map f ys)

filter-maps : {X Y Z : Type 0} (f : Y → Option Z) (e : X → Option Z) (h k : ℕ → X) (t : X → Y) (a n : ℕ) → ((i : ℕ) → f (t (h i)) ≡ e (k i)) → filter_map f (map (λ i. t (h i)) (numbers_from a n)) ≡ filter_map e (map k (numbers_from a n))
filter-maps f e h k t a zero same = refl
filter-maps f e h k t a (suc n) same =
    ap (λ o. cons_option o (filter_map f (map (λ i. t (h i)) (numbers_from (suc a) n)))) (same a) ∙ ap (cons_option (e (k a))) (filter-maps f e h k t (suc a) n same)

-- what the tasks of a vertex tell, one after another
row : (c : ConfValues) (past : Past) (tell : TaskState → Option AttemptId) (fact : TaskId → Option AttemptId) → ((t : TaskId) → tell (task_view c t past) ≡ fact t) → (v : ℕ) (o : Option Config)
    → filter_map tell (map (λ i. task_view c (task v i) past) (numbers_below (tasks_in o))) ≡ filter_map fact (tasks_if o v)
row c past tell fact same v None = refl
row c past tell fact same v (Some s) = filter-maps tell fact (task v) (task v) (λ t. task_view c t past) 0 s.tasks (λ i. same (task v i))

rows : (c : ConfValues) (past : Past) (tell : TaskState → Option AttemptId) (fact : TaskId → Option AttemptId) → ((t : TaskId) → tell (task_view c t past) ≡ fact t) → (vs : List ℕ)
    → flat_map (λ s. filter_map tell s.tasks) (map (λ v. vertex_view c v past) vs) ≡ filter_map fact (flat_map (λ v. tasks_if (config v past) v) vs)
rows c past tell fact same [] = refl
rows c past tell fact same (v ∷ vs) =
    ap (λ xs. xs ++ flat_map (λ s. filter_map tell s.tasks) (map (λ w. vertex_view c w past) vs)) (row c past tell fact same v (config v past))
    ∙ ap (λ ys. filter_map fact (tasks_if (config v past) v) ++ ys) (rows c past tell fact same vs) ∙ sym (filter-append fact (tasks_if (config v past) v) (flat_map (λ w. tasks_if (config w past) w) vs))

pub read_lives : (g : Dag) (c : ConfValues) (past : Past) → live_in (vertices_view g c past) ≡ live_attempts g past
read_lives g c past = rows c past live_of (λ t. live t past) (λ t. live_same past (live t past)) (vertices g)

pub read_winners : (g : Dag) (c : ConfValues) (past : Past) → winners_in (vertices_view g c past) ≡ filter_map (λ t. winner t past) (tasks g past)
read_winners g c past = rows c past (λ s. s.winner) (λ t. winner t past) (λ t. refl) (vertices g)

-- ---- tasks are there

below : (a b : ℕ) → nat_lt a b ≡ true → a < b
below a b h = grind (arith, nat_tests)

pub read_there : (g : Dag) (c : ConfValues) (past : Past) (t : TaskId) → IsMade g c past → is_task g past t ≡ true → (t.vertex.0 < length g.vertices) × (t.index < length (vertex_view c t.vertex.0 past).tasks)
read_there g c past t m is =
    let k = both {x = is_configured t.vertex.0 past} is in (
      below t.vertex.0 (length g.vertices) (configured_is_vertex g c past m t.vertex.0 k.0),
      subst (λ n. t.index < n) (sym (read_count g c past t.vertex.0 k.0)) (below t.index (task_count g t.vertex.0 past) k.1),
    )

pub alive_there : (g : Dag) (c : ConfValues) (past : Past) (a : AttemptId) → IsMade g c past → IsAlive (stage a past) → is_task g past a.task ≡ true
alive_there g c past a m alive = scheduled_is_task g c past m a.task (live_scheduled g c past m a.task a (lives g c past a m alive))

pub winner_there : (g : Dag) (c : ConfValues) (past : Past) (t : TaskId) (w : AttemptId) → IsMade g c past → winner t past ≡ Some w → is_task g past t ≡ true
winner_there g c past t w m won = scheduled_is_task g c past m t (winner_scheduled g c past m t w won)
