use Rattle.std.proofs.Common.{◌≡◌, ◌∙◌, ◌++◌, [], ◌∷◌, ℕ, List, map, flat_map, sym, ap, arith}
use Rattle.std.specs.List.{range_with_len}
use Rattle.std.proofs.lemmas.List.FromFn.{map-range_with_len_more}
use Rattle.std.proofs.lemmas.List.Folds.{flat_map-map}
use Rattle.tez_record.specs.Line.{lines}
use Rattle.tez_shares.specs.Shares.{share_of_lines}
use Rattle.tez_shares.proofs.CutLemmas.{share_next, rest_next}
use Rattle.tez_shares.proofs.ShareLemmas.{lines_whole}
use Rattle.tez_shares.proofs.lines.shares_of_lines.Goals as goal

pub loop-t-preserved : goal.loop-t-preserved
loop-t-preserved c =
    let rs = c.args.rs.now in
    let cut = c.lines_of_task-first.ensures in
    let left = lines c.loop-t.rest.rest.now in
    let share = share_next rs c.args.tasks c.loop-t.t c.len-n.result c.lines_of_task-first.result.0 c.lines_of_task-first.result.1 left c.in_ok-next_lines.field-0 c.len-n.ensures cut.first cut.end c.loop-t.invariant.left c.in_ok-next_lines.ensures.taken in
    record {
      shares = c.in_ok-push.ensures.items ∙ ap (λ xs. xs ++ c.in_ok-next_lines.field-0 ∷ []) c.loop-t.invariant.shares ∙ ap (λ x. map (share_of_lines rs c.args.tasks) (range_with_len 0 c.loop-t.t) ++ x ∷ []) share
          ∙ sym (map-range_with_len_more (share_of_lines rs c.args.tasks) 0 c.loop-t.t c.loop-t.t (omega arith));
      left = rest_next rs c.args.tasks c.loop-t.t c.len-n.result c.lines_of_task-first.result.0 c.lines_of_task-first.result.1 left (lines c.next_lines.new.rest.rest.now) c.len-n.ensures cut.first cut.end cut.in_order c.loop-t.invariant.left c.in_ok-next_lines.ensures.left;
    }

pub returns-clause-whole : goal.returns-clause-whole
returns-clause-whole c =
    let rs = c.args.rs.now in
    let all : c.loop-t.t ≡ c.args.tasks = omega arith in
    ap (flat_map (λ (x : List (List ℕ)). x)) (c.loop-t.invariant.shares ∙ ap (λ n. map (share_of_lines rs c.args.tasks) (range_with_len 0 n)) all)
    ∙ flat_map-map (λ (x : List (List ℕ)). x) (share_of_lines rs c.args.tasks) (range_with_len 0 c.args.tasks)
    ∙ lines_whole rs c.args.tasks c.requires
