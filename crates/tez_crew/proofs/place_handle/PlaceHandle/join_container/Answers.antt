use Rattle.std.proofs.Common.{ap, sym, ◌∙◌}
use Rattle.tez_crew.proofs.OrderMoves.{merges}
use Rattle.tez_crew.proofs.EventMoves.{ends}
use Rattle.tez_crew.proofs.place_handle.PlaceHandle.join_container.Goals as goal

pub absorb-requires-clause-rule : goal.absorb-requires-clause-rule
absorb-requires-clause-rule g c = merges _ _ _ _ (ap (λ v. v.puts) c.args.self.puts.1) (ap (λ v. v.takes) c.join_thread-orders.ensures.2)

pub absorb-requires-2-clause-rule : goal.absorb-requires-2-clause-rule
absorb-requires-2-clause-rule g c = ends _ _ _ _ (ap (λ v. v.gets) c.requires.next.0) (ap (λ v. v.reports) c.join_thread-orders.ensures.3) (c.requires.next.1 ∙ sym (ap (λ v. v.place) c.join_thread-orders.ensures.3))
