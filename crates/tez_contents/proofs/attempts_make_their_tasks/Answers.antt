use Rattle.tez_contents.proofs.Sent.{runs_ordered}
use Rattle.tez_contents.proofs.Attempts.{all_right}
use Rattle.tez_contents.proofs.attempts_make_their_tasks.Goals as goal

pub returns-clause-winners : goal.returns-clause-winners
returns-clause-winners c = λ job conf past ranges valid m allowed kept t w h. ((all_right job conf ranges valid past m allowed kept).0 t w h).1

pub returns-clause-orders : goal.returns-clause-orders
returns-clause-orders c = λ job conf past ranges valid m allowed kept a h. ((all_right job conf ranges valid past m allowed kept).1 a h).0.1

pub returns-clause-fetches : goal.returns-clause-fetches
returns-clause-fetches c = λ job conf past ranges valid m allowed kept a n i e at h. ((all_right job conf ranges valid past m allowed kept).2 a n i e at h).3

pub returns-clause-processing : goal.returns-clause-processing
returns-clause-processing c = runs_ordered
