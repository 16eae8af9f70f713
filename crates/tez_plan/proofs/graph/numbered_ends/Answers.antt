use Rattle.std.proofs.Common.{◌≡◌, ◌≢◌, ◌⊎◌, inl, inr, ◌∙◌, ℕ, false, [], map, sym, ap}
use Rattle.tez_plan.specs.declared.fault.PlanFault.{PlanFault}
use Rattle.tez_plan.specs.declared.fault.PlanFault.TheVariants.{NoMemory, DuplicateName, UnknownName}
use Rattle.tez_plan.specs.Dag.{dag_of, ends_of, vertex, edge}
use Rattle.tez_plan.specs.Faults.{duplicate_name, unknown_name, IsNowhere, IsFirstWhere, Finds}
use Rattle.tez_plan.specs.Graph.{ends_among, unknown_among}
use Rattle.tez_plan.proofs.NameLemmas.{ends_are, unknown_are}
use Rattle.tez_plan.proofs.Results.{if_ok, if_err, on_ok}
use Rattle.tez_plan.proofs.graph.numbered_ends.Goals as goal

pub returns-in-Ok-clause-ends : goal.returns-in-Ok-clause-ends
returns-in-Ok-clause-ends c =
    if_ok _ _ c.connect.result (λ ends h. h ∙ ap (λ f. map f c.args.edges.now) (λ i e. ends_are c.args.vertices.now c.args.edges.now _ c.in-Ok.ensures.names e i)) c.connect.ensures.ends

pub returns-in-Ok-clause-known : goal.returns-in-Ok-clause-known
returns-in-Ok-clause-known c =
    on_ok c.connect.result (λ h n. sym (unknown_are c.args.vertices.now c.args.edges.now _ c.in-Ok.ensures.names n) ∙ h n) c.connect.ensures.known

pub returns-in-Ok-clause-fault : goal.returns-in-Ok-clause-fault
returns-in-Ok-clause-fault c =
    if_err _ _ c.connect.result
    (λ f h other. inr (
      c.in-Ok.ensures.own,
      λ some.
          let first = h other in (
            first.0,
            record {
              there = sym (unknown_are c.args.vertices.now c.args.edges.now _ c.in-Ok.ensures.names first.0) ∙ first.1.there;
              before = λ m below. sym (unknown_are c.args.vertices.now c.args.edges.now _ c.in-Ok.ensures.names m) ∙ first.1.before m below;
            },
            first.2,
          ),
    ))
    c.connect.ensures.fault
