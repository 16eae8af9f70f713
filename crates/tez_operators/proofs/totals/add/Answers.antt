use Rattle.std.proofs.Common.{◌^◌, ap, sym, subst, rules, unwrap_or, pos}
use mir.Val.{SFits}
use mir.Syntax.{w128}
use Rattle.tez_operators.specs.Totals.{IsWithin}
use Rattle.tez_operators.proofs.TotalLemmas.{added_there, sum_written}
use Rattle.tez_operators.proofs.totals.add.Goals as goal

pub returns-in-Some : goal.returns-in-Some
returns-in-Some c =
    let total = c.in-Some.total.now in
    let fits : SFits w128 total = search rules in
    let there = c.in-Some.ensures.value in
    let within : IsWithin (2 ^ 126) total = subst (IsWithin (2 ^ 126)) (sym (ap (λ o. unwrap_or o (pos 0)) there)) c.requires in
    let sum = sum_written total c.from.result c.args.amount fits record { sfits = c.from.type_inv } c.ranges.amount c.from.ensures within in
    added_there c.args.totals.now.entries _ c.args.key.now total c.args.amount _ (c.get_mut.follows.holds _).0 there sum
