use Rattle.std.specs.Prelude.{◌≡◌, ℕ, Some}
use Rattle.std.proofs.Common.{ap, sym, ◌∙◌}
use Rattle.tez_ids.specs.Same.{task}
use Rattle.tez_master_model.specs.Read.{winner_in}
use Rattle.tez_steps.proofs.Commits.{one_found, none_found}
use Rattle.tez_steps.proofs.Rows.{gone}
use Rattle.tez_steps.proofs.committing.winners_of.Goals.{in-Some+in_ok-push, in_default}
use Rattle.tez_steps.proofs.committing.winners_of.Goals as goal

pub loop-index-preserved : goal.loop-index-preserved
loop-index-preserved c =
    let m = c.args.running.now.master.state in
    let f = λ (i : ℕ). winner_in m (task c.args.v.0 i) in
    let told = c.winner_of.ensures in
    elim c.match-winner_of.branch [
      | in-Some+in_ok-push w ↦
          (let here = w.in-Some.is in
          let is : winner_in m (task c.args.v.0 c.loop-index.index) ≡ Some w.in-Some.w = cc in
          ap (λ v. v.items) w.winners-is ∙ one_found f c.loop-index.index w.in-Some.w c.loop-index.winners.items _ is c.loop-index.invariant w.in_ok-push.ensures.items)
      | in_default w ↦
          ap (λ v. v.items) w.winners-is ∙ none_found f c.loop-index.index c.loop-index.winners.items (sym told ∙ gone c.winner_of.result w.in_default.not-Some) c.loop-index.invariant
    ]
