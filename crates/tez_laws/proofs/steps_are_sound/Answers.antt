use Rattle.tez_laws.proofs.SoundLaw.{run_between, event_sound, report_sound, answer_sound, stop_sound, over_sound, open_sound, taken_sound}
use Rattle.tez_laws.proofs.steps_are_sound.Goals as goal

pub returns : goal.returns
returns c = record {
  run = run_between;
  event = event_sound;
  report = report_sound;
  asked = answer_sound;
  stop = stop_sound;
  over = over_sound;
  opens = open_sound;
  takes_up = taken_sound;
}
