-- The calls in which winners were staged.
--     tasks_staged     once each task has a winner, each task of a vertex with a sink was staged with the text of what it is to make
use Rattle.std.specs.Prelude.{◌≡◌, ◌<◌, ℕ, zero, suc, true, List, [], ◌∷◌, Option, Some, None, is_some, length, slice_get, refl}
use Rattle.std.specs.Option.{option_map_or}
use Rattle.std.proofs.Common.{arith, subst}
use Rattle.std.proofs.lemmas.Bool.{eqb-true}
use Rattle.tez_ids.specs.declared.AttemptId.{AttemptId}
use Rattle.tez_ids.specs.Same.{task}
use Rattle.tez_lists.specs.Numbers.{In}
use Rattle.tez_record.specs.Bag.{text}
use Rattle.tez_ports.specs.Content.{Staged}
use Rattle.tez_plan.specs.declared.parts.VertexSpec.{VertexSpec}
use Rattle.tez_conf.specs.declared.values.ConfValues.{ConfValues}
use Rattle.tez_meaning.specs.Jobs.{Job}
use Rattle.tez_history.specs.Shape.{vertices}
use Rattle.tez_history.specs.History.{Past, winner}
use Rattle.tez_history.specs.Derived.{task_count, winners_of, is_configured, is_vertex_done, all_done}
use Rattle.tez_laws.proofs.StepLaw.{both}
use Rattle.tez_progress.proofs.Members.{in_numbers, all_at, found_each}
use Rattle.tez_contents.specs.Contents.{made}
use Rattle.tez_contents.specs.Laws.{task_makes}
use Rattle.tez_contents.proofs.Attempts.{all_right}
use Rattle.tez_sinks.specs.Sinks.{WinnersWereStaged, TasksWereStaged}
use Rattle.tez_sinks.specs.Well.{IsWell}

sink_low : (vs : List VertexSpec) (v : ℕ) (name : List ℕ) → option_map_or (λ (s : VertexSpec). s.sink) (slice_get vs v) None ≡ Some name → v < length vs
sink_low [] v name h = cc
sink_low (s ∷ vs) zero name h = omega arith
sink_low (s ∷ vs) (suc v) name h = let low = sink_low vs v name h in omega (arith, low)

there_is : (o : Option AttemptId) → is_some o ≡ true → (w : AttemptId) × (o ≡ Some w)
there_is None h = cc
there_is (Some w) h = (w, refl)

pub tasks_staged : (job : Job) (c : ConfValues) (past : Past) (calls : Staged) → IsWell job c past → all_done job.plan past ≡ true → WinnersWereStaged job past calls → TasksWereStaged job past calls
tasks_staged job c past calls well done called v i name sink inside =
    let low = sink_low job.plan.vertices v name sink in
    let n = task_count job.plan v past in
    let whole = both {x = is_configured v past} (all_at (λ u. is_vertex_done job.plan u past) v (vertices job.plan) done (in_numbers 0 (length job.plan.vertices) v (omega arith) (omega (arith, low)))) in
    let full : length (winners_of v n past) ≡ n = eqb-true (length (winners_of v n past)) n whole.1 in
    let won = there_is (winner (task v i) past) (found_each (λ j. winner (task v j) past) 0 n i full (omega arith) (omega (arith, inside))) in
    let right = all_right job c well.ranges well.valid past well.made well.allowed well.kept in
    let makes : made job won.0 past ≡ task_makes job past (task v i) = (right.0 (task v i) won.0 won.1).1 in
    (won.0, won.1, subst (λ (rs : List (List ℕ)). In (won.0, text rs) calls) makes (called (task v i) won.0 name sink won.1))
