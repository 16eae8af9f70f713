use Rattle.std.specs.Prelude.{◌≡◌, ◌*◌, length, replicate}
use Rattle.std.proofs.Common.{ap, sym, ◌∙◌, subst, arith}
use Rattle.tez_plan.specs.Dag.{Dag}
use Rattle.tez_plan.specs.Faults.{IsValid}
use Rattle.tez_plan.specs.Ranges.{IsInRanges}
use Rattle.tez_conf.specs.declared.values.ConfValues.{ConfValues}
use Rattle.tez_conf.specs.Ranges.{IsInRange}
use Rattle.tez_pool.specs.Table.{new_pool}
use Rattle.tez_pool.specs.State.{PoolState}
use Rattle.tez_pool.specs.Victim.{AreIn}
use Rattle.tez_master_model.specs.Fresh.{fresh}
use Rattle.tez_inflight.specs.Seats.{Vacant, SeatsState}
use Rattle.tez_world.proofs.Openings.{new_within, begun_parts}
use Rattle.tez_world.proofs.opening.new_running.Goals as goal

pub first_master-requires-clause-within : goal.first_master-requires-clause-within
first_master-requires-clause-within c =
    subst (λ (p : PoolState). AreIn c.in_ok-plan.plan p.places) (sym c.in_ok-pool.ensures) (new_within c.in_ok-plan.plan c.values-values.result.nodes c.values-values.result.per_node c.values-values.result.reuse)

pub returns-clause-rows : goal.returns-clause-rows
returns-clause-rows c =
    let ok = c.in_ok-texts.texts.ok in
    let n : c.in_ok-texts.texts.len ≡ length c.args.job.now.plan.vertices = c.in_ok-texts.ensures.len ∙ ap length (c.vertices.ensures.same ∙ ap (λ (g : Dag). g.vertices) c.plan-2.ensures) in
    omega (arith, ok, n)

pub returns-clause-holds : goal.returns-clause-holds
returns-clause-holds c =
    let values = c.values-values.ensures.same in
    let plan = c.in_ok-plan.ensures ∙ c.plan.ensures in
    begun_parts c.args.job.now c.args.conf.now (record { master = c.in_ok-first_master.field-0; seats = c.in_ok-new.field-0; shelves = c.new-3.result; texts = c.in_ok-texts.texts; sums = c.new-4.result })
    (subst IsValid c.plan-2.ensures c.vertices.ensures.valid)
    (subst IsInRanges c.plan-2.ensures c.vertices.ensures.in_ranges)
    (subst IsInRange values c.values-values.ensures.in_range)
    (c.in_ok-first_master.ensures ∙ ap (λ (g : Dag). fresh g c.args.conf.now 1 c.in_ok-pool.pool) plan ∙ ap (fresh c.args.job.now.plan c.args.conf.now 1) (c.in_ok-pool.ensures ∙ ap (λ (v : ConfValues). new_pool v.nodes v.per_node v.reuse) values))
    (ap (λ (d : SeatsState). d.seats) c.in_ok-new.ensures ∙ ap (λ (v : ConfValues). replicate (v.nodes * v.per_node) Vacant) values)
    c.new-3.ensures
