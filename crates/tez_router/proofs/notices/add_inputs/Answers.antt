use Rattle.std.proofs.Common.{◌≡◌, ◌∙◌, ◌++◌, [], length, inl, inr, sym, ap, arith}
use Rattle.std.specs.List.{flat_map, range_with_len}
use Rattle.tez_lists.proofs.Flat.{append-nil}
use Rattle.tez_router.specs.Table.{input_notice}
use Rattle.tez_router.proofs.Ranges.{flat_range, same_range, nothing_outside}
use Rattle.tez_router.proofs.notices.add_inputs.Goals as goal

pub loop-input-init : goal.loop-input-init
loop-input-init c =
    let f = input_notice c.args.link.now c.args.loss.task c.args.loss.lost c.args.attempt c.args.inputs.now in
    let outside = nothing_outside c.args.link.now c.args.loss.task c.args.loss.lost c.args.attempt c.args.inputs.now c.span-first.result.0 c.span-first.result.1 in
    let start = c.min-input.ensures in
    let none : flat_map f (range_with_len 0 c.min-input.result) ≡ [] =
    same_range f c.min-input.result 0 (λ j low high. absurd (omega arith)) (λ j low high. outside j c.span-first.ensures (inl (omega arith))) in
    sym (append-nil c.args.found.now.items) ∙ ap (λ ys. c.args.found.now.items ++ ys) (sym none)

pub loop-input-preserved : goal.loop-input-preserved
loop-input-preserved c =
    flat_range (input_notice c.args.link.now c.args.loss.task c.args.loss.lost c.args.attempt c.args.inputs.now) c.loop-input.input c.args.found.now.items c.loop-input.found.items c.add_input.new.found.items c.loop-input.invariant c.in_ok-add_input.ensures

pub returns : goal.returns
returns c =
    let f = input_notice c.args.link.now c.args.loss.task c.args.loss.lost c.args.attempt c.args.inputs.now in
    let outside = nothing_outside c.args.link.now c.args.loss.task c.args.loss.lost c.args.attempt c.args.inputs.now c.span-first.result.0 c.span-first.result.1 in
    let long : c.len.result ≡ length c.args.inputs.now.fetched = c.len.ensures ∙ ap length c.fetched.ensures in
    let least = c.min-end.ensures in
    let start = c.min-input.ensures in
    let past = c.loop-input-test.false in
    let inside = c.loop-input.auto.input-end in
    c.loop-input.invariant
    ∙ ap (λ ys. c.args.found.now.items ++ ys) (same_range f c.loop-input.input (length c.args.inputs.now.fetched)
    (λ j low high. outside j c.span-first.ensures (inr (omega arith)))
    (λ j low high. absurd (omega arith)))
