use Rattle.std.proofs.Common.{◌*◌, ◌≤◌, ◌∙◌, ap, sym, subst, arith}
use Rattle.std.proofs.lemmas.Grind.{common_steps}
use Rattle.std.specs.Vec.{vec_capacity}
use Rattle.tez_runs.specs.Flags.{flags, AreKept}
use Rattle.tez_runs.proofs.FlagLemmas.{flags_none, flags_count_none}
use Rattle.tez_runs.proofs.set.Runs.new.Goals as goal

pub invariant_of-result : goal.invariant_of-result
invariant_of-result c =
    let enough : c.args.n ≤ 2 * vec_capacity c.in_ok-with_capacity.field-0 = let most = c.div_ceil-most.ensures in let exact = c.in_ok-with_capacity.ensures.exact in grind (arith, common_steps) in
    subst (λ rs. AreKept c.args.n 0 (vec_capacity c.in_ok-with_capacity.field-0) rs) (sym c.in_ok-with_capacity.ensures.items) (record {
      apart = omega arith;
      counted = sym (flags_count_none c.args.n);
      room = enough;
    })

pub returns : goal.returns
returns c = ap (flags c.args.n) c.in_ok-with_capacity.ensures.items ∙ flags_none c.args.n
