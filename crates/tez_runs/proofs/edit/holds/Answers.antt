use Rattle.std.proofs.Common.{◌≡◌, ℕ, suc, ◌-◌, ◌≤◌, ◌&&◌, get_or, ltb, le-leb, sym, ap, ◌∙◌, subst, arith}
use Rattle.std.proofs.lemmas.Bool.{le-ltb}
use Rattle.tez_runs.specs.Flags.{StartsAfter}
use Rattle.tez_runs.proofs.RunLemmas.{held_first, held_before, nowhere}
use Rattle.tez_runs.proofs.edit.holds.Goals as goal

pub returns-then-at-gt0 : goal.returns-then-at-gt0
returns-then-at-gt0 c =
    let runs = c.args.runs.now in
    let p : ℕ = c.place-at.result - 1 in
    let positive = c.if-at-gt0.true in
    let next : c.place-at.result ≡ suc p = omega arith in
    let inside = c.place-at.ensures.inside in
    let low : (get_or runs p nowhere).start ≤ c.args.i = c.place-at.ensures.before p nowhere (omega arith) in
    ap (λ b. b && ltb c.args.i (get_or runs p nowhere).end) (sym (le-leb _ _ low))
    ∙ sym (held_before c.args.i c.requires.0 p runs nowhere c.requires.1 (omega arith) low (subst (λ at. StartsAfter runs at c.args.i) next c.place-at.ensures.after))

pub returns-else-at-gt0 : goal.returns-else-at-gt0
returns-else-at-gt0 c =
    let none : c.place-at.result ≡ 0 = omega arith in
    le-ltb 0 c.place-at.result (omega arith) ∙ sym (held_first c.args.i c.requires.0 c.args.runs.now nowhere c.requires.1 (subst (λ at. StartsAfter c.args.runs.now at c.args.i) none c.place-at.ensures.after))
