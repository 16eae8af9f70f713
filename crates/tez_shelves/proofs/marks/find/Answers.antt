use Rattle.std.specs.Prelude.{◌≡◌, ◌≤◌, ◌<◌, length, slice_range, slice_index_or, Some}
use Rattle.std.proofs.Common.{ap, sym, ◌∙◌, subst, arith, eqb-true}
use Rattle.tez_record.specs.Line.{lines}
use Rattle.tez_record.specs.Block.{IsText}
use Rattle.tez_shelves.specs.declared.marks.Mark.{Mark}
use Rattle.tez_shelves.specs.Piece.{piece_at}
use Rattle.tez_shelves.specs.Cut.{cut_from, starts}
use Rattle.tez_shelves.proofs.OrderLemmas.{got, cut_inside, found_first, same_edge}
use Rattle.tez_shelves.proofs.marks.find.Goals as goal

pub slice_bounds-result-count : goal.slice_bounds-result-count
slice_bounds-result-count c =
    let low : c.partition_point-place.result < length c.args.table.now = omega arith in
    let inside = cut_inside 0 c.args.block.now c.args.table.now c.partition_point-place.result _ c.requires.cuts (got c.args.table.now c.partition_point-place.result _ low) in
    subst (λ s. s ≤ (slice_index_or c.args.table.now c.partition_point-place.result (record { edge = record { 0 = 0 }; output = 0; end = 0 })).end) (sym c.start_of-start.ensures) inside.low

pub slice_bounds-result-start : goal.slice_bounds-result-start
slice_bounds-result-start c = slice_bounds-result-count c

pub slice_bounds-result-end : goal.slice_bounds-result-end
slice_bounds-result-end c =
    let low : c.partition_point-place.result < length c.args.table.now = omega arith in
    (cut_inside 0 c.args.block.now c.args.table.now c.partition_point-place.result _ c.requires.cuts (got c.args.table.now c.partition_point-place.result _ low)).high

pub returns-then-mark-output-clause-found : goal.returns-then-mark-output-clause-found
returns-then-mark-output-clause-found c =
    let low : c.partition_point-place.result < length c.args.table.now = omega arith in
    let m : Mark = (slice_index_or c.args.table.now c.partition_point-place.result (record { edge = record { 0 = 0 }; output = 0; end = 0 })) in
    let first : piece_at m.edge m.output (cut_from 0 c.args.block.now c.args.table.now) ≡ Some (lines (slice_range c.args.block.now (starts 0 c.args.table.now c.partition_point-place.result) m.end)) =
    found_first 0 c.args.block.now c.args.table.now c.partition_point-place.result m c.requires.order (got c.args.table.now c.partition_point-place.result _ low) in
    let same : m.edge ≡ c.args.edge = same_edge m.edge c.args.edge (eqb-true m.edge.0 c.args.edge.0 (sym c.eq.ensures ∙ c.if-eq.true)) in
    ap (λ o. piece_at c.args.edge o (cut_from 0 c.args.block.now c.args.table.now)) (sym c.if-mark-output.true)
    ∙ ap (λ e. piece_at e m.output (cut_from 0 c.args.block.now c.args.table.now)) (sym same)
    ∙ first
    ∙ ap (λ s. Some (lines (slice_range c.args.block.now s m.end))) (sym c.start_of-start.ensures)

pub returns-then-mark-output-clause-whole : goal.returns-then-mark-output-clause-whole
returns-then-mark-output-clause-whole c =
    let low : c.partition_point-place.result < length c.args.table.now = omega arith in
    let inside = cut_inside 0 c.args.block.now c.args.table.now c.partition_point-place.result _ c.requires.cuts (got c.args.table.now c.partition_point-place.result _ low) in
    subst (λ s. IsText (slice_range c.args.block.now s (slice_index_or c.args.table.now c.partition_point-place.result (record { edge = record { 0 = 0 }; output = 0; end = 0 })).end)) (sym c.start_of-start.ensures) inside.whole
