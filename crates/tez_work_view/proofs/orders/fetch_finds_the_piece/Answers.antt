use Rattle.tez_work_view.proofs.PieceLemmas.{fetch_finds}
use Rattle.tez_work_view.proofs.orders.fetch_finds_the_piece.Goals as goal

pub returns : goal.returns
returns c = fetch_finds
