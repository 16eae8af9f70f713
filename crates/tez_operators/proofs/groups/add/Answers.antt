use Rattle.std.proofs.Common.{rules}
use Rattle.tez_operators.proofs.GroupLemmas.{group_put}
use Rattle.tez_operators.proofs.groups.add.Goals as goal

pub returns-in-Some : goal.returns-in-Some
returns-in-Some c = λ q. group_put c.args.groups.now.entries _ c.args.key.now q c.args.line.now c.in-Some.group.now _ (((c.get_mut.follows.holds _).3 (search rules)).0 q) c.in-Some.ensures.value c.in_ok-push.ensures
