use Rattle.std.proofs.Common.{◌≡◌, ◌<◌, ◌∙◌, ◌&&◌, not, ap, sym, arith, length}
use Rattle.std.specs.List.{find}
use Rattle.tez_lists.specs.Numbers.{numbers_from}
use Rattle.tez_history.specs.Shape.{has_sink, vertices}
use Rattle.tez_master_model.specs.Read.{flag}
use Rattle.tez_core.proofs.Firsts.{found_first, none_more, find_among}
use Rattle.tez_core.proofs.sinks.first_open.Goals as goal

pub returns-then-is_open : goal.returns-then-is_open
returns-then-is_open c =
    let p = c.args.p.now in
    let done = c.args.done.now in
    let many = ap length c.vertices.ensures.same in
    let below : c.loop-v.v < length p.vertices = omega (arith, many, c.loop-v-test.true) in
    let passes = sym c.is_open.ensures ∙ c.if-is_open.true in
    sym (find_among (λ v. not (flag done v)) (has_sink p) (vertices p) ∙ found_first (λ v. has_sink p v && not (flag done v)) c.loop-v.v (length p.vertices) below c.loop-v.invariant passes)

pub loop-v-preserved : goal.loop-v-preserved
loop-v-preserved c =
    let fails = sym c.is_open.ensures ∙ c.if-is_open.false in
    none_more (λ v. has_sink c.args.p.now v && not (flag c.args.done.now v)) c.loop-v.v c.loop-v.invariant fails

pub returns : goal.returns
returns c =
    let p = c.args.p.now in
    let done = c.args.done.now in
    let many = ap length c.vertices.ensures.same in
    let all : c.loop-v.v ≡ length p.vertices = omega (arith, many, c.loop-v-test.false, c.loop-v.auto.v-end) in
    sym (find_among (λ v. not (flag done v)) (has_sink p) (vertices p) ∙ ap (λ n. find (λ v. has_sink p v && not (flag done v)) (numbers_from 0 n)) (sym all) ∙ c.loop-v.invariant)
