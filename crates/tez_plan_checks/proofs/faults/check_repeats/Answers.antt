use Rattle.std.proofs.Common.{◌≡◌, ◌∙◌, ◌==◌, ◌&&◌, ℕ, true, false, take, sym, get_or}
use Rattle.std.specs.List.{list_any}
use Rattle.std.proofs.lemmas.Bool.{not-true}
use borrow.Author.Count.{below_more}
use Rattle.tez_ids.specs.declared.VertexId.{VertexId}
use Rattle.tez_plan.specs.Graph.{ends_again}
use Rattle.tez_plan.proofs.NameLemmas.{pairs_more, pair_fresh, nowhere_past}
use Rattle.tez_plan_checks.proofs.faults.check_repeats.Goals as goal

pub loop-e-preserved : goal.loop-e-preserved
loop-e-preserved c =
    let none : VertexId × VertexId = (record { 0 = 0 }, record { 0 = 0 }) in
    let fresh : list_any (λ u. (get_or c.args.ends.now c.loop-e.e none).0.0 == u.0.0 && (get_or c.args.ends.now c.loop-e.e none).1.0 == u.1.0) c.loop-e.seen.keys ≡ false = not-true _ (sym c.in-Ok-true.ensures.added ∙ c.in-Ok-true.field-0-test) in
    record {
      seen = pairs_more c.args.ends.now c.loop-e.seen.keys c.loop-e.e none c.loop-e-test.true c.loop-e.invariant.seen fresh c.insert.new.self.keys c.in-Ok-true.ensures.keys;
      own = below_more (λ m. ends_again c.args.ends.now m ≡ false) c.loop-e.e c.loop-e.invariant.own (pair_fresh c.args.ends.now c.loop-e.seen.keys c.loop-e.e none c.loop-e-test.true c.loop-e.invariant.seen fresh);
    }

pub returns-clause-none : goal.returns-clause-none
returns-clause-none c = nowhere_past (λ n t. list_any (λ u. t.0.0 == u.0.0 && t.1.0 == u.1.0) (take n c.args.ends.now)) c.args.ends.now c.loop-e.e c.loop-e-test.false c.loop-e.invariant.own
