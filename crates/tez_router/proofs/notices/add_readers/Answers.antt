use Rattle.std.proofs.Common.{◌≡◌, ◌++◌, List, OnOk, not, subst}
use Rattle.tez_router.specs.declared.notice.Notice.{Notice}
use Rattle.tez_router.specs.State.{AdmittedState}
use Rattle.tez_router.specs.Table.{is_among}
use Rattle.tez_router.proofs.Readers.{of_readers}
use Rattle.tez_router.proofs.notices.add_readers.Goals as goal

pub returns : goal.returns
returns c =
    subst (λ (zs : List Notice). OnOk c.add_all.result (c.add_all.new.found.items ≡ c.args.found.now.items ++ zs))
    (of_readers c.args.links.now c.args.loss.task c.args.loss.lost c.args.edges.now (λ (x : AdmittedState). not (is_among c.args.ended.now x.attempt)) c.args.admitted.now c.readers-first.result.0 c.readers-first.result.1 c.readers-first.ensures.readers)
    c.add_all.ensures
