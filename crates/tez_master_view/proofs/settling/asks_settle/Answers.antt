use Rattle.tez_master_view.proofs.Simple.{ask_settles}
use Rattle.tez_master_view.proofs.settling.asks_settle.Goals as goal

pub returns : goal.returns
returns c = ask_settles
