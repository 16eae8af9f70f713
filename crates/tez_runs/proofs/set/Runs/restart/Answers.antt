use Rattle.std.proofs.Common.{◌≡◌, ◌∙◌, length, ap, sym, subst, arith}
use Rattle.std.specs.Vec.{vec_capacity}
use Rattle.tez_runs.specs.Flags.{flags, AreKept}
use Rattle.tez_runs.proofs.FlagLemmas.{flags_none, flags_count_none, flags_length}
use Rattle.tez_runs.proofs.set.Runs.restart.Goals as goal

pub invariant_of-self : goal.invariant_of-self
invariant_of-self c =
    let long : length c.args.self.now ≡ c.self.inside.bound = ap length (sym c.self.view_is) ∙ flags_length c.self.inside.bound c.self.inside.runs.items in
    let less = c.requires in
    let room = c.self.invariant.room in
    let same = c.clear.ensures.capacity in
    subst (λ rs. AreKept c.args.n 0 (vec_capacity c.clear.new.self) rs) (sym c.clear.ensures.items) (record {
      apart = omega arith;
      counted = sym (flags_count_none c.args.n);
      room = omega arith;
    })

pub returns : goal.returns
returns c = ap (flags c.args.n) c.clear.ensures.items ∙ flags_none c.args.n
