use Rattle.std.proofs.Common.{◌∙◌, ◌++◌, not, sym, ap}
use Rattle.std.specs.List.{filter}
use Rattle.tez_lists.proofs.Flat.{append-nil}
use Rattle.tez_router.specs.State.{AdmittedState}
use Rattle.tez_router.specs.Table.{is_among}
use Rattle.tez_router.proofs.Between.{no_edges}
use Rattle.tez_router.proofs.notices.add_all.Goals as goal

pub returns-then-is_empty : goal.returns-then-is_empty
returns-then-is_empty c =
    let none = no_edges c.args.links.now c.args.loss.task c.args.loss.lost c.args.edges.now (filter (λ (x : AdmittedState). not (is_among c.args.ended.now x.attempt)) c.args.admitted.now) (sym c.is_empty.ensures ∙ c.if-is_empty.true) in
    sym (append-nil c.args.found.now.items) ∙ ap (λ ys. c.args.found.now.items ++ ys) (sym none)
