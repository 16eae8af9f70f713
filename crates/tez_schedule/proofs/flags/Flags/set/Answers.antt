use Rattle.std.proofs.Common.{arith, set}
use Rattle.std.proofs.lemmas.List.{length-set}
use Rattle.tez_schedule.proofs.FlagLemmas.{one_flag, few_set}
use Rattle.tez_schedule.proofs.flags.Flags.set.Goals as goal

pub overflow_add-self : goal.overflow_add-self
overflow_add-self c =
    let h = one_flag c.self.inside.count c.self.inside.flags.items c.args.number c.index.result.now c.args.value c.index.result.now c.self.invariant.0 (omega arith) c.index.ensures in
    let few = few_set (set c.self.inside.flags.items c.args.number c.args.value) in
    let long = length-set c.self.inside.flags.items c.args.number c.args.value in
    let narrow = c.self.invariant.1 in
    omega arith
