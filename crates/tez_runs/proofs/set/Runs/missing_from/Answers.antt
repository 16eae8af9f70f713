use Rattle.std.proofs.Common.{◌≡◌, ◌∙◌, ◌+◌, ◌-◌, ℕ, ap, sym, arith}
use Rattle.std.specs.Prelude.{Some}
use Rattle.std.specs.Option.{option_map}
use Rattle.tez_runs.specs.Flags.{covers, missing_from}
use Rattle.tez_runs.proofs.FlagLemmas.{flags_from, flags_full_from}
use Rattle.tez_runs.proofs.set.Runs.missing_from.Goals as goal

pub returns-then-first-self : goal.returns-then-first-self
returns-then-first-self c =
    let xs = c.self.inside.runs.items in
    let same = c.as_slice.ensures.value in
    let low = c.free_from-first.ensures.low in
    let below = c.if-first-self.true in
    let k : ℕ = c.free_from-first.result - c.args.i in
    let is : c.args.i + k ≡ c.free_from-first.result = omega arith in
    let found = flags_from c.self.inside.bound c.args.i k xs (omega arith) (λ j h b. ap (λ rs. covers rs j) (sym same) ∙ c.free_from-first.ensures.least j h (omega arith))
    (ap (covers xs) is ∙ ap (λ rs. covers rs c.free_from-first.result) (sym same) ∙ c.free_from-first.ensures.free) in
    ap (λ (m : ℕ). Some m) (sym is) ∙ sym (ap (option_map (λ m. c.args.i + m)) found) ∙ ap (λ bs. missing_from bs c.args.i) c.self.view_is

pub returns-else-first-self : goal.returns-else-first-self
returns-else-first-self c =
    let same = c.as_slice.ensures.value in
    let past = c.if-first-self.false in
    let none = flags_full_from c.self.inside.bound c.args.i c.self.inside.runs.items (λ j h b. ap (λ rs. covers rs j) (sym same) ∙ c.free_from-first.ensures.least j h (omega arith)) in
    sym (ap (option_map (λ m. c.args.i + m)) none) ∙ ap (λ bs. missing_from bs c.args.i) c.self.view_is
