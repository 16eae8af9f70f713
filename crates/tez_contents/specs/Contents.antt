-- What attempts fetch and make. What an attempt makes is fixed at its `order`, from the pieces that it fetched, as these stood at their `fetch`.
--     config_by g configs          the tasks of each vertex, and how many partitions each takes, where this is configured
--     configurations g past        the same after a history
--     number_of g e                the number of an edge
--     piece m parts o value        output o of an attempt with this value, over an edge of this movement
--     reads job past t copy s      what the program of task t reads, where its inputs are these copies
--     made job a past              the records that attempt a makes
--     copied job a e i past        the piece that a has for input i of edge e
--     met_bad job a past           some record that a reads is bad
--     is_ordered a past            a was sent to its container since the last open
use Rattle.std.specs.Prelude.{ℕ, Bool, false, ◌&&◌, ◌||◌, ◌==◌, if◌then◌else◌, List, [], ◌∷◌, slice_get, Option, unwrap_or}
use Rattle.std.specs.List.{filter, flat_map, position_or_len}
use Rattle.std.specs.Option.{option_map_or}
use Rattle.tez_ids.specs.declared.TaskId.{TaskId}
use Rattle.tez_ids.specs.declared.AttemptId.{AttemptId}
use Rattle.tez_ids.specs.Same.{same_attempt}
use Rattle.tez_record.specs.Bag.{sort}
use Rattle.tez_plan.specs.declared.parts.VertexSpec.{VertexSpec}
use Rattle.tez_plan.specs.declared.parts.EdgeSpec.{EdgeSpec}
use Rattle.tez_plan.specs.declared.parts.Movement.{Movement}
use Rattle.tez_plan.specs.declared.parts.Movement.TheVariants.{OneToOne, Broadcast, ScatterGather}
use Rattle.tez_plan.specs.Dag.{Dag, from, to, tasks_of as planned}
use Rattle.tez_partition.specs.Partition.{in_partition}
use Rattle.tez_values.specs.Heads.{HeadInputs}
use Rattle.tez_values.specs.Program.{output, is_bad}
use Rattle.tez_meaning.specs.Jobs.{Job}
use Rattle.tez_meaning.specs.Value.{inputs, lines_of}
use Rattle.tez_shares.specs.Shares.{Config, share_of_lines}
use Rattle.tez_events.specs.declared.Entry.TheVariants.{Opened, Over, Fetched, Ordered, Stopped}
use Rattle.tez_history.specs.Shape.{numbers_below}
use Rattle.tez_vman.specs.declared.seen.Config.{Config as Setting}
use Rattle.tez_vman.specs.Rules.{config as shape}
use Rattle.tez_history.specs.History.{Past, config}
use Rattle.tez_history.specs.Derived.{task_count, table_over, input_count}

abbrev pub Records : Type 0
Records = List (List ℕ)

-- before it is configured a vertex has the tasks of the plan
abbrev pub config_by : Dag → (ℕ → Option Setting) → ℕ → Config
config_by g configs v =
    let s = unwrap_or (configs v) (shape (planned g v) 1) in
    record { tasks = s.tasks; base = s.base }

abbrev pub configurations : Dag → Past → ℕ → Config
configurations g past = config_by g (λ v. config v past)

-- ---- the piece behind an input

-- the place of the first edge with the same ends
abbrev pub number_of : Dag → EdgeSpec → ℕ
number_of g e = position_or_len (λ d. (from g e == from g d) && (to g e == to g d)) g.edges

-- the whole value, or the records of one partition
abbrev pub piece : Movement → ℕ → ℕ → Records → Records
piece OneToOne parts o value = value
piece Broadcast parts o value = value
piece (ScatterGather cols) parts o value = sort (filter (in_partition cols parts o) value)

-- what input i of consumer task t gets over an edge, where the source attempt made this value
abbrev pub piece_for : Dag → Past → EdgeSpec → ℕ → ℕ → Records → Records
piece_for g past e t i value = piece e.movement (planned g (to g e)) ((table_over g past e).leads t i).1 value

-- the same by the edge's number
abbrev pub piece_over : Dag → Past → ℕ → ℕ → ℕ → Records → Records
piece_over g past n t i value = option_map_or (λ e. piece_for g past e t i value) (slice_get g.edges n) []

-- ---- what a program reads

-- the copies of the inputs of an edge, in order
abbrev pub fetched_over : Job → Past → ℕ → (ℕ → ℕ → Records) → EdgeSpec → Records
fetched_over job past t copy e = flat_map (copy (number_of job.plan e)) (numbers_below (input_count job.plan past e t))

abbrev pub reads : Job → Past → TaskId → (ℕ → ℕ → Records) → VertexSpec → HeadInputs
reads job past t copy s =
    inputs job.plan t.vertex.0 s (λ name. share_of_lines (lines_of job name) (task_count job.plan t.vertex.0 past) t.index) (fetched_over job past t.index copy)

abbrev pub worked : Job → Past → TaskId → (ℕ → ℕ → Records) → Records
worked job past t copy = option_map_or (λ s. output s.head s.steps (reads job past t copy s)) (slice_get job.plan.vertices t.vertex.0) []

abbrev pub reads_bad : Job → Past → TaskId → (ℕ → ℕ → Records) → Bool
reads_bad job past t copy = option_map_or (λ s. is_bad s.head s.steps (reads job past t copy s)) (slice_get job.plan.vertices t.vertex.0) false

-- ---- what an attempt makes and fetches

unfoldable mutual
  -- what its program makes, at its last order, of the inputs that it had fetched
  pub made : Job → AttemptId → Past → Records
  made job a [] = []
  made job a (Ordered b ∷ past) = if same_attempt b a then worked job past a.task (λ e i. copied job a e i past) else made job a past
  made job a (_ ∷ past) = made job a past

  -- the piece of what the winner behind the input had made when it was fetched last
  pub copied : Job → AttemptId → ℕ → ℕ → Past → Records
  copied job a e i [] = []
  copied job a e i (Fetched b d j w ∷ past) =
      if same_attempt b a && ((d.0 == e) && (j == i)) then piece_over job.plan past e a.task.index i (made job w past) else copied job a e i past
  copied job a e i (_ ∷ past) = copied job a e i past

abbrev pub met_bad : Job → AttemptId → Past → Bool
met_bad job a [] = false
met_bad job a (Ordered b ∷ past) = if same_attempt b a then reads_bad job past a.task (λ e i. copied job a e i past) else met_bad job a past
met_bad job a (_ ∷ past) = met_bad job a past

abbrev pub is_ordered : AttemptId → Past → Bool
is_ordered a [] = false
is_ordered a (Opened _ ∷ past) = false
is_ordered a (Over ∷ past) = false
is_ordered a (Stopped _ ∷ past) = false
is_ordered a (Ordered b ∷ past) = same_attempt b a || is_ordered a past
is_ordered a (_ ∷ past) = is_ordered a past
