use Rattle.tez_history.specs.Steps.{entries_of, done_entries, asked_entries}
use Rattle.tez_laws.proofs.StepLaw.{made-extend, event_may, done_may, asked_may}
use Rattle.tez_laws.proofs.steps_follow.Goals as goal

pub returns : goal.returns
returns c = record {
  event = λ g c past e m h. made-extend g c past (entries_of g c past e) m (event_may g c past e m h);
  report = λ g c past a made m h. made-extend g c past (done_entries a made) m (done_may g c past a made h);
  asked = λ g c past v there m h. made-extend g c past (asked_entries v there) m (asked_may g c past v there h);
}
