use Rattle.std.specs.Prelude.{◌≡◌, ◌++◌, ◌∷◌, [], ℕ, List, length}
use Rattle.std.proofs.Common.{◌∙◌, ap, sym, arith, subst}
use Rattle.tez_ids.specs.declared.EdgeId.{EdgeId}
use Rattle.tez_shelves.specs.declared.marks.Mark.{Mark}
use Rattle.tez_shelves.specs.Cut.{cut_from, AreCuts, IsInOrder}
use Rattle.tez_shelves.proofs.CutLemmas.{cuts_added, cut_added}
use Rattle.tez_shelves.proofs.pieces.Pieces.push.Goals as goal

pub invariant_of-self-2 : goal.invariant_of-self-2
invariant_of-self-2 c =
    let block_is : c.extend_from_slice.new.self.items ≡ c.self.inside.block.items ++ c.text_of-text.result.now = c.in_ok-extend_from_slice.ensures.items ∙ ap (λ xs. xs ++ c.text_of-text.result.now) c.try_reserve.ensures.items in
    let next : Mark = record { edge = c.args.edge; output = c.args.output; end = c.len.result } in
    let table_is : c.push.new.self.items ≡ c.self.inside.table.items ++ next ∷ [] = c.in_ok-push.ensures.items ∙ ap (λ (ms : List Mark). ms ++ next ∷ []) c.try_reserve-2.ensures.items in
    let long = ap length block_is in
    let last : c.len.result ≡ length (c.self.inside.block.items ++ c.text_of-text.result.now) = omega arith in
    let seen : c.deref.result.now ≡ c.self.inside.table.items = c.deref.ensures.value ∙ c.try_reserve-2.ensures.items in
    record {
      cuts = subst (λ b. AreCuts 0 b c.push.new.self.items) (sym block_is)
          (subst (λ t. AreCuts 0 (c.self.inside.block.items ++ c.text_of-text.result.now) t) (sym table_is)
          (cuts_added 0 c.self.inside.block.items c.text_of-text.result.now c.self.inside.table.items next c.args.records.now c.self.invariant.cuts last c.text_of-text.ensures.text c.text_of-text.ensures.lines));
      order = λ yes. subst IsInOrder (sym table_is)
          (subst (λ (t : List Mark). IsInOrder (t ++ next ∷ [])) seen (c.stays_in_order-in_order.ensures (λ was. subst IsInOrder (sym seen) (c.self.invariant.order was)) yes));
    }

pub returns : goal.returns
returns c =
    let block_is : c.extend_from_slice.new.self.items ≡ c.self.inside.block.items ++ c.text_of-text.result.now = c.in_ok-extend_from_slice.ensures.items ∙ ap (λ xs. xs ++ c.text_of-text.result.now) c.try_reserve.ensures.items in
    let next : Mark = record { edge = c.args.edge; output = c.args.output; end = c.len.result } in
    let table_is : c.push.new.self.items ≡ c.self.inside.table.items ++ next ∷ [] = c.in_ok-push.ensures.items ∙ ap (λ (ms : List Mark). ms ++ next ∷ []) c.try_reserve-2.ensures.items in
    let long = ap length block_is in
    let last : c.len.result ≡ length (c.self.inside.block.items ++ c.text_of-text.result.now) = omega arith in
    ap (λ b. cut_from 0 b c.push.new.self.items) block_is
    ∙ ap (cut_from 0 (c.self.inside.block.items ++ c.text_of-text.result.now)) table_is
    ∙ cut_added 0 c.self.inside.block.items c.text_of-text.result.now c.self.inside.table.items next c.args.records.now c.self.invariant.cuts last c.text_of-text.ensures.lines
    ∙ ap (λ (ps : List (EdgeId × ℕ × List (List ℕ))). ps ++ (c.args.edge, c.args.output, c.args.records.now) ∷ []) c.self.view_is
