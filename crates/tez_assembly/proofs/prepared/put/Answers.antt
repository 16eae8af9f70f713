use Rattle.std.proofs.Common.{◌≡◌, ◌∙◌, ◌++◌, [], ◌∷◌, Some, Option, cond, not, map, sym, ap, ap₂, ℕ}
use Rattle.tez_lists.proofs.Flat.{append-nil}
use Rattle.tez_plan.specs.Dag.{vertex}
use Rattle.tez_operators.specs.Process.{Primary}
use Rattle.tez_assembly.specs.Order.{Records}
use Rattle.tez_assembly.specs.Filling.{part_of}
use Rattle.tez_assembly.proofs.prepared.put.Goals as goal

pub returns-then-broadcasts-clause-primary : goal.returns-then-broadcasts-clause-primary
returns-then-broadcasts-clause-primary c =
    let was = c.args.primary.now.items in
    let kind = sym c.broadcasts.ensures ∙ c.if-broadcasts.true in
    sym (ap (λ b. was ++ map (part_of c.args.plan.now) (cond (not b) (c.args.part ∷ []) [])) kind ∙ append-nil was)

pub returns-then-broadcasts-clause-side : goal.returns-then-broadcasts-clause-side
returns-then-broadcasts-clause-side c =
    let kind = sym c.broadcasts.ensures ∙ c.if-broadcasts.true in
    sym (ap (λ b. cond b (Some c.args.part.1) c.args.side.now) kind)

pub returns-else-broadcasts-clause-primary : goal.returns-else-broadcasts-clause-primary
returns-else-broadcasts-clause-primary c =
    let was = c.args.primary.now.items in
    let kind = sym c.broadcasts.ensures ∙ c.if-broadcasts.false in
    c.push_reserved.ensures.items
    ∙ ap (λ (n : ℕ). was ++ (Some (vertex n), c.args.part.1) ∷ []) c.ends.ensures.source
    ∙ sym (ap (λ b. was ++ map (part_of c.args.plan.now) (cond (not b) (c.args.part ∷ []) [])) kind)

pub returns-else-broadcasts-clause-side : goal.returns-else-broadcasts-clause-side
returns-else-broadcasts-clause-side c =
    let kind = sym c.broadcasts.ensures ∙ c.if-broadcasts.false in
    sym (ap (λ b. cond b (Some c.args.part.1) c.args.side.now) kind)
