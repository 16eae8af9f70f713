use Rattle.std.proofs.Common.{◌≡◌, ◌∙◌, ◌<◌, ◌^◌, ◌++◌, ◌∷◌, [], length, sym, ap, subst, arith, rules, decimal, OnOk}
use Rattle.std.specs.Fmt.{signed_decimal}
use Rattle.std.proofs.lemmas.Int.{to_z-of_z}
use Rattle.std.proofs.lemmas.List.{length-map}
use mir.Syntax.{w128}
use Rattle.tez_record.specs.Line.{IsRecord}
use Rattle.tez_values.specs.Heads.{beside}
use Rattle.tez_plain.specs.Keyed.{records_in}
use Rattle.tez_plain.specs.Runs.{row_of}
use Rattle.tez_plain.proofs.OrderLemmas.{Entry}
use Rattle.tez_plain.proofs.NumberLemmas.{decimal_is_record, signed_is_record}
use Rattle.tez_plain.proofs.runs.push_row.Goals as goal

pub push_joined-requires-clause-right : goal.push_joined-requires-clause-right
push_joined-requires-clause-right c =
    let few : length c.args.run.now < 2 ^ 64 = search rules in
    let is : c.as_bytes.result.now ≡ decimal (length c.args.run.now) = c.as_bytes.ensures.value ∙ c.in_ok-text-in-Count.ensures.ok in
    subst IsRecord (sym is) (decimal_is_record (length c.args.run.now) (omega (arith, few)))

pub push_joined-requires-in-Sum-clause-right : goal.push_joined-requires-in-Sum-clause-right
push_joined-requires-in-Sum-clause-right c =
    let total = c.total_of-total.result in
    let is : c.as_bytes-in-Sum.result.now ≡ signed_decimal total = c.as_bytes-in-Sum.ensures.value ∙ c.in_ok-text-in-Sum.ensures.ok ∙ ap signed_decimal (to_z-of_z w128 total record { sfits = c.total_of-total.type_inv }) in
    subst IsRecord (sym is) (signed_is_record total record { sfits = c.total_of-total.type_inv })

pub returns-in_ok-text-in-Count : goal.returns-in_ok-text-in-Count
returns-in_ok-text-in-Count c =
    let k = c.args.key.now in
    let is : c.as_bytes.result.now ≡ decimal (length c.args.run.now) = c.as_bytes.ensures.value ∙ c.in_ok-text-in-Count.ensures.ok in
    let row : beside k c.as_bytes.result.now ≡ row_of c.args.says (records_in c.args.run.now) k =
    ap (beside k) (is ∙ ap decimal (sym (length-map c.args.run.now (λ (e : Entry). e.1.now)))) ∙ ap (λ s. row_of s (records_in c.args.run.now) k) (sym c.in-Count.is) in
    let pushed : OnOk c.push_joined.result (c.push_joined.new.self ≡ c.args.rows.now ++ beside k c.as_bytes.result.now ∷ []) = search rules in
    subst (λ r. OnOk c.push_joined.result (c.push_joined.new.self ≡ c.args.rows.now ++ r ∷ [])) row pushed

pub returns-in_ok-text-in-Sum : goal.returns-in_ok-text-in-Sum
returns-in_ok-text-in-Sum c =
    let k = c.args.key.now in
    let total = c.total_of-total.result in
    let is : c.as_bytes-in-Sum.result.now ≡ signed_decimal total = c.as_bytes-in-Sum.ensures.value ∙ c.in_ok-text-in-Sum.ensures.ok ∙ ap signed_decimal (to_z-of_z w128 total record { sfits = c.total_of-total.type_inv }) in
    let row : beside k c.as_bytes-in-Sum.result.now ≡ row_of c.args.says (records_in c.args.run.now) k =
    ap (beside k) (is ∙ ap signed_decimal c.total_of-total.ensures) ∙ ap (λ s. row_of s (records_in c.args.run.now) k) (sym c.in-Sum.is) in
    let pushed : OnOk c.push_joined-in-Sum.result (c.push_joined-in-Sum.new.self ≡ c.args.rows.now ++ beside k c.as_bytes-in-Sum.result.now ∷ []) = search rules in
    subst (λ r. OnOk c.push_joined-in-Sum.result (c.push_joined-in-Sum.new.self ≡ c.args.rows.now ++ r ∷ [])) row pushed
