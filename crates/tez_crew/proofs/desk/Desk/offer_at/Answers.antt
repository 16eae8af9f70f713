use Rattle.std.proofs.Common.{rules, ◌<◌, ◌≤◌, ◌∙◌, [], ap, length, subst, sym, inl}
use Rattle.std.specs.Prelude.{slice_index_or}
use Rattle.std.proofs.lemmas.Result.{on_ok_weaker, IfErr-weaker}
use Rattle.tez_crew.specs.Desks.{puts_of}
use Rattle.tez_crew.proofs.DeskMoves.{put_was, set_adds, set_same, was_full}
use Rattle.tez_crew.proofs.desk.Desk.offer_at.Goals as goal

pub returns-clause-queued : goal.returns-clause-queued
returns-clause-queued g c =
    let low : c.place-place.result < length c.args.self.now.handles.items = search rules in
    on_ok_weaker c.offer.result
    (set_adds c.args.self.now.handles.items c.place-place.result c.args.order.place c.index_mut-place_handle.result.now c.offer.new.self c.args.order.attempt c.place-place.ensures low c.index_mut-place_handle.ensures.value) c.offer.ensures.queued

pub returns-clause-refused : goal.returns-clause-refused
returns-clause-refused g c =
    let low : c.place-place.result < length c.args.self.now.handles.items = search rules in
    IfErr-weaker c.offer.result _ _ (λ e h. (h.0, set_same c.args.self.now.handles.items c.place-place.result c.index_mut-place_handle.result.now c.offer.new.self low c.index_mut-place_handle.ensures.value h.1)) c.offer.ensures.refused

pub returns-clause-busy : goal.returns-clause-busy
returns-clause-busy g c =
    let low : c.place-place.result < length c.args.self.now.handles.items = search rules in
    let was = ap (λ n. slice_index_or (puts_of c.args.self.now.handles.items) n []) (sym c.place-place.ensures) ∙ put_was c.args.self.now.handles.items c.place-place.result c.index_mut-place_handle.result.now low c.index_mut-place_handle.ensures.value in
    IfErr-weaker c.offer.result _ _ (λ e h busy. inl (subst (λ l. 64 ≤ length l) (sym was) (was_full c.index_mut-place_handle.result.now.put.items (h busy)))) c.offer.ensures.full
