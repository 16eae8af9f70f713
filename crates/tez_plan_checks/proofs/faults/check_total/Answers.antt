use Rattle.std.proofs.Common.{◌≡◌, ◌∙◌, ◌+◌, ◌<◌, ◌≤◌, ℕ, get_or, true, take, length, sum_by, sym, ap, arith, lt-ltb}
use Rattle.std.specs.Prelude.{nat_lt}
use Rattle.tez_plan.specs.Faults.{IsFirstWhere, physical_inputs, too_many_inputs}
use Rattle.tez_plan.proofs.CheckLemmas.{inputs_pass, inputs_fault}
use Rattle.tez_plan.proofs.NameLemmas.{nowhere_past, at_place, sum_more}
use Rattle.tez_plan_checks.proofs.faults.check_total.Goals as goal

pub returns-then-total-gt4000000-clause-fault : goal.returns-then-total-gt4000000-clause-fault
returns-then-total-gt4000000-clause-fault c = λ _.
    let p = c.args.graph.now in
    let below : c.loop-e.e < length p.edges = omega (arith, ap length c.edges-e-end.ensures.same) in
    let is : c.index-edges-e.result ≡ get_or p.edges c.loop-e.e c.index-edges-e.result = c.index-edges-e.is ∙ ap (λ es. get_or es c.loop-e.e c.index-edges-e.result) c.edges.ensures.same in
    let sum : sum_by (physical_inputs p) (take (c.loop-e.e + 1) p.edges) ≡ c.loop-e.total + c.physical_inputs-total.result =
    sum_more (physical_inputs p) p.edges c.loop-e.e c.index-edges-e.result below is
    ∙ ap (λ n. n + physical_inputs p c.index-edges-e.result) (sym c.loop-e.invariant.sum)
    ∙ ap (λ n. c.loop-e.total + n) (sym c.physical_inputs-total.ensures.inputs) in
    let over : 4000000 < sum_by (physical_inputs p) (take (c.loop-e.e + 1) p.edges) = omega arith in
    inputs_fault p c.loop-e.e c.requires (record {
      there = at_place (λ _. nat_lt 4000000 (sum_by (physical_inputs p) (take (c.loop-e.e + 1) p.edges))) p.edges c.loop-e.e c.index-edges-e.result below is ∙ lt-ltb 4000000 _ over;
      before = c.loop-e.invariant.fits;
    })

pub returns-clause-passes : goal.returns-clause-passes
returns-clause-passes c =
    let p = c.args.graph.now in
    let past : length p.edges ≤ c.loop-e.e = omega (arith, ap length c.edges-e-end.ensures.same) in
    inputs_pass p c.requires (nowhere_past (λ e _. nat_lt 4000000 (sum_by (physical_inputs p) (take (e + 1) p.edges))) p.edges c.loop-e.e past c.loop-e.invariant.fits)
