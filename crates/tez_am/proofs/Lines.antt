-- The lines of the sinks, by the sums of the sinks.
use Rattle.std.proofs.Common.{◌≡◌, ℕ, suc, codes, List, [], ◌∷◌, ◌++◌, map, length, flat_map, Option, Some, None, refl, ap}
use Rattle.std.specs.Option.{option_map_or}
use Rattle.tez_plan.specs.declared.parts.VertexSpec.{VertexSpec}
use Rattle.tez_meaning.specs.Jobs.{Job}
use Rattle.tez_meaning.specs.Value.{sink_text, sinks, sums, value}
use Rattle.tez_am.specs.Answer.{lines_by, lines_for, told_text}
use Rattle.tez_am.specs.Meaning.{line_of, summary}
use Rattle.tez_am.specs.Text.{success_text}

module _ (job : Job) where
  abbrev sum : ℕ × List ℕ → ℕ × ℕ
  sum s = (length (value job s.0), length (sink_text job s.0))

  lines_at : (v : ℕ) (ss : List VertexSpec) → lines_for ss (map sum (sinks v ss)) ≡ flat_map (line_of job) (sinks v ss)
  lines_at v [] = refl
  lines_at v (s ∷ ss) = by s.sink (lines_at (suc v) ss) where
    by : (o : Option (List ℕ)) → lines_for ss (map sum (sinks (suc v) ss)) ≡ flat_map (line_of job) (sinks (suc v) ss)
        → lines_by o (lines_for ss) (map sum (option_map_or (λ sink. (v, sink) ∷ sinks (suc v) ss) o (sinks (suc v) ss))) ≡ flat_map (line_of job) (option_map_or (λ sink. (v, sink) ∷ sinks (suc v) ss) o (sinks (suc v) ss))
    by None rest = rest
    by (Some name) rest = ap (λ t. line_of job (v, name) ++ t) rest

pub all_lines : (job : Job) → lines_for job.plan.vertices (sums job) ≡ summary job
all_lines job = lines_at job 0 job.plan.vertices

pub told_right : (job : Job) → told_text job.plan (sums job) ≡ success_text job
told_right job = ap (λ (t : List ℕ). codes "SUCCEEDED\n" ++ t) (all_lines job)
