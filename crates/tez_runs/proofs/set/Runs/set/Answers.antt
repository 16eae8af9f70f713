use Rattle.std.proofs.Common.{◌≡◌, ◌∙◌, false, true, sym, ap, subst, arith}
use Rattle.std.specs.Prelude.{slice_set}
use Rattle.tez_runs.specs.Flags.{covers}
use Rattle.tez_runs.proofs.FlagLemmas.{flags_set, flags_count, flags_stay, flags_end, flags_counted}
use Rattle.tez_runs.proofs.set.Runs.set.Goals as goal

pub returns-then-i-self : goal.returns-then-i-self
returns-then-i-self c = subst (λ bs. bs ≡ slice_set bs c.args.i true) c.self.view_is (flags_end c.self.inside.bound c.self.inside.runs.items c.args.i c.if-i-self.true)

pub returns-then-holds : goal.returns-then-holds
returns-then-holds c =
    let is : covers c.self.inside.runs.items c.args.i ≡ true = ap (λ rs. covers rs c.args.i) (sym c.as_slice.ensures.value) ∙ sym c.holds.ensures ∙ c.if-holds.true in
    subst (λ bs. bs ≡ slice_set bs c.args.i true) c.self.view_is (flags_stay c.self.inside.bound c.self.inside.runs.items c.args.i c.if-i-self.false is)

pub overflow_add-self : goal.overflow_add-self
overflow_add-self c =
    let fresh : covers c.self.inside.runs.items c.args.i ≡ false = ap (λ rs. covers rs c.args.i) (sym c.as_slice.ensures.value) ∙ sym c.holds.ensures ∙ c.if-holds.false in
    let more = flags_count c.self.inside.bound c.self.inside.runs.items c.add.new.runs.items c.args.i c.if-i-self.false fresh c.add.ensures.added.covered in
    let whole = flags_counted c.self.inside.bound c.add.new.runs.items in
    let was = c.self.invariant.counted in
    omega arith

pub invariant_of-self : goal.invariant_of-self
invariant_of-self c =
    let fresh : covers c.self.inside.runs.items c.args.i ≡ false = ap (λ rs. covers rs c.args.i) (sym c.as_slice.ensures.value) ∙ sym c.holds.ensures ∙ c.if-holds.false in
    let more = flags_count c.self.inside.bound c.self.inside.runs.items c.add.new.runs.items c.args.i c.if-i-self.false fresh c.add.ensures.added.covered in
    let was = c.self.invariant.counted in
    let room = c.self.invariant.room in
    let grown = c.add.ensures.capacity in
    record {
      apart = c.add.ensures.added.apart c.self.inside.bound c.self.invariant.apart c.if-i-self.false;
      counted = omega arith;
      room = omega arith;
    }

pub returns : goal.returns
returns c =
    flags_set c.self.inside.bound c.self.inside.runs.items c.add.new.runs.items c.args.i c.add.ensures.added.covered
    ∙ ap (λ bs. slice_set bs c.args.i true) c.self.view_is
