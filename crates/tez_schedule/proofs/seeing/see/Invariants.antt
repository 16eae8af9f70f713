use Rattle.std.proofs.Common.{◌≡◌, ◌≤◌, ◌*◌, ◌^◌, true, take, map, sum_by}
use Rattle.tez_plan.specs.Ranges.{most_tasks}
use Rattle.std.specs.List.{list_all}
use Rattle.tez_schedule.specs.Kept.{layout, planned_at}
use Rattle.tez_schedule.specs.Table.{tasks_at, won_at, is_configured_at, made_at, tasks_in}
use Rattle.tez_schedule.proofs.seeing.see.Given as goal

abbrev pub invariant-loop-input : goal.invariant-loop-input
invariant-loop-input l = record {
  sources : l.seen.sources ≡ sum_by (λ f. tasks_at l.vertices f.source.0) (take l.input-index l.x.inputs);
  configured : l.seen.configured ≡ list_all (λ f. is_configured_at l.vertices f.source.0) (take l.input-index l.x.inputs);
  finished : l.seen.finished ≡ sum_by (λ f. won_at l.vertices f.source.0) (take l.input-index l.x.inputs);
  bytes : l.seen.bytes ≡ sum_by (λ f. made_at l.edges f.edge.0) (take l.input-index l.x.inputs);
  tasks : l.seen.tasks ≡ tasks_in l.x;
  less : l.seen.finished ≤ l.seen.sources;
  few : l.seen.sources ≤ most_tasks * l.input-index;
  small : l.seen.bytes ≤ 2 ^ 78 * l.input-index;
  some : l.seen.configured ≡ true → l.input-index ≤ l.seen.sources;
  planned : l.seen.sources ≤ sum_by (λ f. planned_at (map layout l.vertices) f.source.0) (take l.input-index l.x.inputs);
}
