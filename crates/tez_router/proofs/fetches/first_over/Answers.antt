use Rattle.std.proofs.Common.{◌≡◌, ◌∙◌, [], ℕ, true, false, length, sym, ap, arith}
use Rattle.std.specs.Prelude.{slice_get, Some, None}
use Rattle.std.specs.List.{flat_map, range_with_len}
use Rattle.tez_plan.specs.Dag.{edge}
use Rattle.tez_runs.specs.Flags.{missing_from}
use Rattle.tez_router.specs.declared.fetches.Fetch.{Fetch}
use Rattle.tez_router.specs.Table.{input_fetch, can_fetch}
use Rattle.tez_router.proofs.Ranges.{same_range}
use Rattle.tez_router.proofs.Firsts.{first_in_range, next_in_range, first_from, set_from, set_no_fetch, test_no_fetch, test_fetch}
use Rattle.tez_router.proofs.fetches.first_over.Goals as goal

pub returns-in-None : goal.returns-in-None
returns-in-None c =
    let y = c.args.inputs.now in
    let f = input_fetch c.args.rows.now c.args.link.now c.args.attempt y in
    let is : None ≡ missing_from y.fetched c.loop-from.from = sym c.in-None.is ∙ c.missing_from.ensures ∙ ap (λ fs. missing_from fs c.loop-from.from) c.fetched-fetched.ensures in
    let inside = c.loop-from.invariant.inside in
    let none : flat_map f (range_with_len 0 (length y.fetched)) ≡ [] =
    same_range f (length y.fetched) c.loop-from.from (λ j low high. absurd (omega arith)) (λ j low high. set_no_fetch c.args.rows.now c.args.link.now c.args.attempt y j (set_from y.fetched c.loop-from.from is j low high)) ∙ c.loop-from.invariant.none in
    sym (ap (λ zs. slice_get zs 0) none)

pub returns-then-can_fetch : goal.returns-then-can_fetch
returns-then-can_fetch c =
    let y = c.args.inputs.now in
    let f = input_fetch c.args.rows.now c.args.link.now c.args.attempt y in
    let i : ℕ = c.in-Some.input in
    let is : Some i ≡ missing_from y.fetched c.loop-from.from = sym c.in-Some.is ∙ c.missing_from.ensures ∙ ap (λ fs. missing_from fs c.loop-from.from) c.fetched-fetched.ensures in
    let first = first_from y.fetched c.loop-from.from i is in
    let low = first.low in
    let none : flat_map f (range_with_len 0 i) ≡ [] =
    same_range f i c.loop-from.from (λ j l h. absurd (omega arith)) (λ j l h. set_no_fetch c.args.rows.now c.args.link.now c.args.attempt y j (first.set_between j l h)) ∙ c.loop-from.invariant.none in
    let can : can_fetch c.args.rows.now c.args.link.now c.args.attempt.task.index y.fetched i ≡ true =
    ap (λ fs. can_fetch c.args.rows.now c.args.link.now c.args.attempt.task.index fs i) (sym c.fetched-fetched.ensures) ∙ sym c.can_fetch.ensures ∙ c.if-can_fetch.true in
    let made : ℕ → Fetch = λ n. record { attempt = c.args.attempt; edge = edge n; input = i } in
    ap (λ (n : ℕ). Some (made n)) c.edge.ensures
    ∙ sym (first_in_range f i (length y.fetched) (made y.edge) none first.inside (test_fetch c.args.rows.now c.args.link.now c.args.attempt y i can))

pub overflow_add-from : goal.overflow_add-from
overflow_add-from c =
    let y = c.args.inputs.now in
    let i : ℕ = c.in-Some.input in
    let is : Some i ≡ missing_from y.fetched c.loop-from.from = sym c.in-Some.is ∙ c.missing_from.ensures ∙ ap (λ fs. missing_from fs c.loop-from.from) c.fetched-fetched.ensures in
    let inside = (first_from y.fetched c.loop-from.from i is).inside in
    let same : length c.fetched-fetched.result.now ≡ length y.fetched = ap length c.fetched-fetched.ensures in
    let long = c.len-end.ensures in
    omega arith

pub loop-from-preserved : goal.loop-from-preserved
loop-from-preserved c =
    let y = c.args.inputs.now in
    let f = input_fetch c.args.rows.now c.args.link.now c.args.attempt y in
    let i : ℕ = c.in-Some.input in
    let is : Some i ≡ missing_from y.fetched c.loop-from.from = sym c.in-Some.is ∙ c.missing_from.ensures ∙ ap (λ fs. missing_from fs c.loop-from.from) c.fetched-fetched.ensures in
    let first = first_from y.fetched c.loop-from.from i is in
    let low = first.low in
    let inside = first.inside in
    let none : flat_map f (range_with_len 0 i) ≡ [] =
    same_range f i c.loop-from.from (λ j l h. absurd (omega arith)) (λ j l h. set_no_fetch c.args.rows.now c.args.link.now c.args.attempt y j (first.set_between j l h)) ∙ c.loop-from.invariant.none in
    let cannot : can_fetch c.args.rows.now c.args.link.now c.args.attempt.task.index y.fetched i ≡ false =
    ap (λ fs. can_fetch c.args.rows.now c.args.link.now c.args.attempt.task.index fs i) (sym c.fetched-fetched.ensures) ∙ sym c.can_fetch.ensures ∙ c.if-can_fetch.false in
    record {
      inside = omega arith;
      none = next_in_range f i none (test_no_fetch c.args.rows.now c.args.link.now c.args.attempt y i cannot);
    }

pub loop-from-smaller : goal.loop-from-smaller
loop-from-smaller c =
    let y = c.args.inputs.now in
    let i : ℕ = c.in-Some.input in
    let is : Some i ≡ missing_from y.fetched c.loop-from.from = sym c.in-Some.is ∙ c.missing_from.ensures ∙ ap (λ fs. missing_from fs c.loop-from.from) c.fetched-fetched.ensures in
    let low = (first_from y.fetched c.loop-from.from i is).low in
    let more = c.loop-from-test.true in
    omega arith

pub returns : goal.returns
returns c =
    let y = c.args.inputs.now in
    let f = input_fetch c.args.rows.now c.args.link.now c.args.attempt y in
    let inside = c.loop-from.invariant.inside in
    let same : length c.fetched-fetched.result.now ≡ length y.fetched = ap length c.fetched-fetched.ensures in
    let long = c.len-end.ensures in
    let past = c.loop-from-test.false in
    let all : c.loop-from.from ≡ length y.fetched = omega arith in
    sym (ap (λ zs. slice_get zs 0) (ap (λ n. flat_map f (range_with_len 0 n)) (sym all) ∙ c.loop-from.invariant.none))
