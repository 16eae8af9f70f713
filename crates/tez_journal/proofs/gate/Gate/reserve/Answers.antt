use Rattle.tez_ports.specs.Image.{Disk}
use Rattle.tez_journal.specs.Crash.{EndsAt, IsSafe}
use Rattle.tez_journal.proofs.Telling.{told_same}
use Rattle.tez_journal.proofs.gate.Gate.reserve.Goals as goal

pub returns-clause-holds : goal.returns-clause-holds
returns-clause-holds g c = λ rs h. record {
  small = h.small;
  read = told_same _ _ (λ (d : Disk). EndsAt c.args.self.now.place rs d.read) c.reserve-2.ensures.same h.read;
}

pub returns-clause-survives : goal.returns-clause-survives
returns-clause-survives g c = λ kept rs s. told_same _ _ (IsSafe c.args.self.now.place kept rs) c.reserve-2.ensures.same s

pub returns-clause-sound : goal.returns-clause-sound
returns-clause-sound g c = λ open_now. (open_now.0, returns-clause-holds g c open_now.0 open_now.1)
