use Rattle.std.specs.Prelude.{◌≡◌, ◌<◌, ℕ, false, [], ◌∷◌, ◌++◌, length, is_some, slice_index_or, Option}
use Rattle.std.specs.Option.{option_map_or}
use Rattle.std.proofs.Common.{ap, sym, ◌∙◌, arith, get_or}
use Rattle.tez_plan.specs.declared.parts.VertexSpec.{VertexSpec}
use Rattle.tez_history.specs.Shape.{has_sink}
use Rattle.tez_steps.proofs.Commits.{one_kept, one_passed}
use Rattle.tez_steps.proofs.Rows.{get_there}
use Rattle.tez_steps.proofs.committing.sums_of.Goals.{then-is_some+in_ok-push, else-is_some}
use Rattle.tez_steps.proofs.committing.sums_of.Goals as goal

pub loop-v-preserved : goal.loop-v-preserved
loop-v-preserved c =
    let g = c.args.job.now.plan in
    let x = c.index-vertices-v.result in
    let vs : c.vertices-vertices.result.now ≡ g.vertices = c.vertices-vertices.ensures.same ∙ ap (λ d. d.vertices) c.plan.ensures in
    let low : c.loop-v.v < length g.vertices = omega (arith, c.loop-v-test.true, ap length vs) in
    let is : x ≡ get_or g.vertices c.loop-v.v x = c.index-vertices-v.is ∙ ap (λ ys. get_or ys c.loop-v.v x) vs in
    let there = get_there g.vertices c.loop-v.v x low is in
    let asked : has_sink g c.loop-v.v ≡ c.is_some.result = ap (λ (o : Option VertexSpec). option_map_or (λ (s : VertexSpec). is_some s.sink) o false) there ∙ ap (λ (s : VertexSpec). is_some s.sink) c.index-vertices-v.is ∙ sym c.is_some.ensures in
    let f = λ (v : ℕ). slice_index_or c.args.texts.now v (0, 0) in
    elim c.if-is_some.branch [
      | then-is_some+in_ok-push w ↦
          ap (λ v. v.items) w.sums-is
          ∙ one_kept (has_sink g) f c.loop-v.v c.loop-v.sums.items _ (asked ∙ w.if-is_some.true) c.loop-v.invariant (w.in_ok-push.ensures.items ∙ ap (λ (y : ℕ × ℕ). c.loop-v.sums.items ++ y ∷ []) w.sum_at.ensures)
      | else-is_some w ↦ ap (λ v. v.items) w.sums-is ∙ one_passed (has_sink g) f c.loop-v.v c.loop-v.sums.items (asked ∙ w.if-is_some.false) c.loop-v.invariant
    ]
