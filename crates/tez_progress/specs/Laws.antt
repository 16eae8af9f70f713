-- What lets a run go on.
--     IsFed g v f               the primary edges of v are those that a vertex fed so has
--     Fits g configs            each configured vertex has a task, and one that is fed one to one has as many as the vertex that feeds it
--     is_stands e               the entry is a configuration that a new master found
--     IsFitted g past           so it is after this history
--     found_configs xs          the configurations of a journal's standing, as a new master finds them
--     FindsFitting g h          so it is of what a new master finds
--     IsRanked g                an edge leads from a vertex of the plan to a deeper one, and no vertex is too deep
--     AllSourcesDone g v past   every vertex with an edge to v has all its winners
--     IsIdle past               no attempt is processing
--     GoesFurther g c past      the master that is up and idle has a next event
--     IsNeverStuck g c r        it has one as long as the run has not ended
use Rattle.std.specs.Prelude.{◌≡◌, ℕ, ◌<◌, ◌≤◌, ◌==◌, ⊤, Bool, true, false, if◌then◌else◌, List, [], ◌∷◌, length, map, Option, Some, None, is_some}
use Rattle.tez_ids.specs.declared.VertexId.{VertexId}
use Rattle.tez_ids.specs.declared.AttemptId.{AttemptId}
use Rattle.tez_lists.specs.Numbers.{In}
use Rattle.tez_plan.specs.Dag.{Dag, from}
use Rattle.tez_plan.specs.Order.{depth}
use Rattle.tez_conf.specs.declared.values.ConfValues.{ConfValues}
use Rattle.tez_vman.specs.declared.seen.Config.{Config}
use Rattle.tez_vman.specs.Rules.{config as shape}
use Rattle.tez_standing.specs.declared.state.Setting.{Setting}
use Rattle.tez_events.specs.declared.Entry.{Entry}
use Rattle.tez_events.specs.declared.Entry.TheVariants.{Stands}
use Rattle.tez_history.specs.Shape.{Edge, edges_to, primary_edges, Feed, ByFile, ByVertex, ByPartitions, feed}
use Rattle.tez_history.specs.History.{Past, config, stage, is_up}
use Rattle.tez_history.specs.Derived.{is_processing, is_vertex_done}
use Rattle.tez_history.specs.Steps.{choice}
use Rattle.tez_history.specs.Runs.{Run, Unfinished, AllDone, Committed, Begun, Happening, Event, Report, Answer, Stop, Start}

-- ---- how a vertex of a valid plan is fed

abbrev pub IsFed : Dag → ℕ → Feed → Type 0
IsFed g v ByFile = ⊤
IsFed g v (ByVertex u) = (e : Edge) × (primary_edges g v ≡ e ∷ []) × (from g e.1 ≡ u)
IsFed g v ByPartitions = (e : Edge) × In e (primary_edges g v)

pub record IsRanked (g : Dag) : Type 0 where
  pub inside : (v : ℕ) (e : Edge) → In e (edges_to g v) → from g e.1 < length g.vertices
  pub deeper : (v : ℕ) (e : Edge) → In e (edges_to g v) → depth g (from g e.1) < depth g v
  pub bounded : (v : ℕ) → v < length g.vertices → depth g v < length g.vertices

-- ---- configurations

pub record Fits (g : Dag) (configs : ℕ → Option Config) : Type 0 where
  pub tasks : (v : ℕ) (s : Config) → configs v ≡ Some s → 1 ≤ s.tasks
  pub step : (v u : ℕ) (s : Config) → feed g v ≡ ByVertex u → configs v ≡ Some s → (d : Config) × (configs u ≡ Some d) × (d.tasks ≡ s.tasks)

abbrev pub IsFitted : Dag → Past → Type 0
IsFitted g past = Fits g (λ v. config v past)

-- a configuration that a new master found
abbrev pub is_stands : Entry → Bool
is_stands (Stands v tasks base) = true
is_stands _ = false

-- what a new master finds of a vertex
abbrev pub found_at : List (ℕ × Config) → ℕ → Option Config
found_at [] v = None
found_at (x ∷ xs) v = if x.0 == v then Some x.1 else found_at xs v

-- the configurations that a journal tells, as a new master finds them
abbrev pub config_of : Setting → Config
config_of s = shape s.tasks s.base

abbrev pub found_configs : List (VertexId × ℕ × ℕ) → List (ℕ × Config)
found_configs xs = map (λ x. (x.0.0, shape x.1 x.2)) xs

abbrev pub FindsFitting : Dag → Happening → Type 0
FindsFitting g (Start (Unfinished s)) = Fits g (found_at s.configured)
FindsFitting g (Start (Committed s n)) = Fits g (found_at s.configured)
FindsFitting g (Start AllDone) = ⊤
FindsFitting g (Start Begun) = ⊤
FindsFitting g (Event e) = ⊤
FindsFitting g (Report a made) = ⊤
FindsFitting g (Answer v there) = ⊤
FindsFitting g (Stop cause) = ⊤

-- ---- the master

abbrev pub AllSourcesDone : Dag → ℕ → Past → Type 0
AllSourcesDone g v past = (e : Edge) → In e (edges_to g v) → is_vertex_done g (from g e.1) past ≡ true

abbrev pub IsIdle : Past → Type 0
IsIdle past = (a : AttemptId) → is_processing (stage a past) ≡ true → ⊥

abbrev pub GoesFurther : Dag → ConfValues → Past → Type 0
GoesFurther g c past = is_up past ≡ true → IsIdle past → is_some (choice g c past) ≡ true

abbrev pub IsNeverStuck : Dag → ConfValues → Run → Type 0
IsNeverStuck g c r = r.verdict ≡ None → GoesFurther g c r.past
