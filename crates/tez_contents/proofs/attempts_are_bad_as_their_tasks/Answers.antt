use Rattle.tez_contents.proofs.Attempts.{all_right}
use Rattle.tez_contents.proofs.attempts_are_bad_as_their_tasks.Goals as goal

pub returns : goal.returns
returns c = λ job conf past ranges valid m allowed kept a h. ((all_right job conf ranges valid past m allowed kept).1 a h).1
