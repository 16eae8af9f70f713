use Rattle.std.proofs.Common.{◌≡◌, ◌∙◌, ◌++◌, [], List, ℕ, filter, flat_map, true, false, ap, ap₂}
use Rattle.std.specs.Option.{option_map_or}
use Rattle.tez_plan.specs.Dag.{Dag, from}
use Rattle.tez_meaning.specs.Value.{columns_of, lines_of}
use Rattle.tez_meaning.specs.Known.{known_in, is_ahead, is_beside}
use Rattle.tez_meaning.proofs.ReadLemmas.{reads_are}
use Rattle.tez_meaning.proofs.reads.reads_of.Goals as goal

pub returns : goal.returns
returns c =
    let job = c.args.job.now in
    let v = c.args.v.0 in
    let head = c.args.vertex.now.head in
    let values = c.args.values.now in
    let ahead = λ (left : _) (p : Dag). filter (is_ahead p v head left) p.edges in
    let bags = λ (left : _) (p : Dag). flat_map (λ e. known_in values (from p e)) (filter (is_ahead p v head left) p.edges) in
    c.new.ensures
    ∙ reads_are job v c.args.vertex.now values c.in_ok-columns.columns c.in_ok-partner_columns.partner_columns _ _ c.in_ok-side.side
    (c.in_ok-columns.ensures ∙ ap (λ (p : Dag). columns_of (ahead true p)) c.plan-plan.ensures)
    (c.in_ok-push_ahead.ensures ∙ ap₂ (λ (a b : List (List ℕ)). a ++ b) c.in_ok-primary.ensures (ap (bags true) c.plan-plan.ensures))
    (c.in_ok-partner_columns.ensures ∙ ap (λ (p : Dag). columns_of (ahead false p)) c.plan-plan.ensures)
    (c.in_ok-push_ahead-2.ensures ∙ ap₂ (λ (a b : List (List ℕ)). a ++ b) c.new-partner.ensures (ap (bags false) c.plan-plan.ensures))
    (c.in_ok-side.ensures ∙ ap (λ (p : Dag). flat_map (λ e. known_in values (from p e)) (filter (is_beside p v) p.edges)) c.plan-plan.ensures)
