use Rattle.std.proofs.Common.{suc, ◌≡◌, ◌∙◌, ◌<◌, ◌≤◌, ◌^◌, ◌*◌, ◌-◌, ◌+◌, ◌∷◌, fold, length, ap, sym, arith, rules, cond, bytes_eq, ◌+ℤ◌}
use Rattle.tez_record.proofs.BlockLemmas.{first_is_record, length-lines}
use Rattle.tez_record.specs.Line.{lines}
use Rattle.std.proofs.lemmas.Int.{to_z-of_z}
use mir.Val.{SFits, to_z, of_z}
use mir.Syntax.{w64}
use Rattle.tez_operators.specs.Totals.{total_of, amount_of, add_entry, add_record}
use Rattle.tez_operators.proofs.TotalLemmas.{wider, add_within, i64_within, total-insert}
use Rattle.tez_operators.proofs.totals.totals_by_key.Goals as goal

pub set-requires : goal.set-requires
set-requires c = first_is_record c.loop-line.line-iterator.rest.now _ _ c.in-Some.ensures.steps

pub add-requires : goal.add-requires
add-requires c =
    let bytes = c.iter-line-items.result.rest.now in
    let low : length bytes < 2 ^ 63 = search rules in
    let most : length (lines bytes) ≤ length bytes + 1 = length-lines bytes in
    let all : length (lines bytes) ≡ length c.args.records.now = ap length c.iter-line-items.ensures in
    wider (2 ^ 63 * (length c.args.records.now - length (lines c.loop-line.line-iterator.rest.now))) (2 ^ 126) (total_of c.loop-line.totals.entries c.set.new.self) (omega arith) (c.loop-line.invariant.small c.set.new.self)

pub loop-line-preserved : goal.loop-line-preserved
loop-line-preserved c =
    let step = add_record c.args.cols.now c.args.amount in
    let before = c.loop-line.totals.entries in
    let left = lines c.loop-line.line-iterator.rest.now in
    let more = lines c.next.new.self.rest.now in
    let n = c.of.result in
    let next : left ≡ c.in-Some.line.now ∷ more = c.in-Some.ensures.steps in
    let shorter : length left ≡ suc (length more) = ap length next in
    let fits : SFits w64 n = search rules in
    let read : to_z w64 (of_z w64 n) ≡ n = to_z-of_z w64 n fits in
    let amount : to_z w64 (of_z w64 n) ≡ amount_of c.args.amount c.in-Some.line.now = read ∙ c.of.ensures in
    let added : c.add.new.totals.entries ≡ step before c.in-Some.line.now = c.in_ok-add.ensures ∙ (λ i. add_entry before (c.in_ok-set.ensures i) (amount i)) in
    record {
      made = ap (λ es. fold step es more) added ∙ sym (ap (fold step before) next) ∙ c.loop-line.invariant.made;
      few = omega (arith, c.loop-line.invariant.few);
      small = λ q.
          add_within (length c.args.records.now - length left) (length c.args.records.now - length more) c.set.new.self q before c.add.new.totals.entries n (omega (arith, c.loop-line.invariant.few)) (i64_within n fits) c.loop-line.invariant.small
          (ap (λ es. total_of es q) c.in_ok-add.ensures ∙ total-insert before c.set.new.self q (total_of before c.set.new.self +ℤ to_z w64 (of_z w64 n)) ∙ ap (λ m. cond (bytes_eq c.set.new.self q) (total_of before c.set.new.self +ℤ m) (total_of before q)) read);
    }
