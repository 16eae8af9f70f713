use Rattle.std.proofs.Common.{◌∙◌, refl, sym}
use Rattle.tez_ids.specs.declared.TaskId.{TaskId}
use Rattle.tez_router.proofs.Readers.{one_reader, no_reader}
use Rattle.tez_router.proofs.notices.readers.Goals as goal

pub returns-then-at-admitted-clause-readers : goal.returns-then-at-admitted-clause-readers
returns-then-at-admitted-clause-readers c =
    let r : TaskId = record { vertex = c.args.vertex; index = c.args.task.index } in
    one_reader c.args.links.now c.args.task r c.args.edges.now c.args.admitted.now c.place_of-at.result (sym c.are_paired.ensures ∙ c.if-not-are_paired.false) refl c.requires.ordered c.requires.here c.place_of-at.ensures.place c.if-at-admitted.true

pub returns-else-at-admitted-clause-readers : goal.returns-else-at-admitted-clause-readers
returns-else-at-admitted-clause-readers c =
    let r : TaskId = record { vertex = c.args.vertex; index = c.args.task.index } in
    no_reader c.args.links.now c.args.task r c.args.edges.now c.args.admitted.now c.place_of-at.result (sym c.are_paired.ensures ∙ c.if-not-are_paired.false) refl c.requires.here c.place_of-at.ensures.place c.place_of-at.ensures.inside c.if-at-admitted.false
