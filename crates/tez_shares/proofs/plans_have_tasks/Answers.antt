use Rattle.std.proofs.Common.{◌≡◌, ◌<◌, ◌≤◌, ℕ, zero, suc, true, List, [], ◌∷◌, length, arith, leb-true, slice_get}
use Rattle.std.specs.List.{list_all}
use Rattle.std.specs.Option.{option_map_or}
use Rattle.std.proofs.lemmas.Bool.{and_parts}
use Rattle.tez_plan.specs.declared.parts.VertexSpec.{VertexSpec}
use Rattle.tez_plan.specs.Ranges.{is_within, vertex_in_range, most_tasks}
use Rattle.tez_shares.proofs.plans_have_tasks.Goals as goal

tasks_there : (s : VertexSpec) → vertex_in_range s ≡ true → 0 < s.tasks
tasks_there s h =
    let a = (and_parts _ _ h).0 in
    let b = (and_parts _ _ a).0 in
    let d = (and_parts _ _ b).0 in
    let e = (and_parts _ _ d).0 in
    let f : is_within 1 most_tasks s.tasks ≡ true = (and_parts _ _ e).1 in
    let low : 1 ≤ s.tasks = leb-true 1 s.tasks (and_parts _ _ f).0 in
    omega arith

there : (ss : List VertexSpec) (v : ℕ) → list_all vertex_in_range ss ≡ true → v < length ss → 0 < option_map_or (λ s. s.tasks) (slice_get ss v) 0
there [] v h low = absurd (omega arith)
there (s ∷ ss) zero h low = tasks_there s (and_parts _ _ h).0
there (s ∷ ss) (suc v) h low = there ss v (and_parts _ _ h).1 (omega arith)

pub returns : goal.returns
returns c = λ p ranges v inside. there p.vertices v ranges.vertices inside
