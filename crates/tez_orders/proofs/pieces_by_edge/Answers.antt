use Rattle.tez_orders.proofs.PieceLemmas.{whole_at, part_at, bytes_at}
use Rattle.tez_orders.proofs.pieces_by_edge.Goals as goal

pub returns : goal.returns
returns c = record { whole = whole_at; part = part_at; bytes = bytes_at }
