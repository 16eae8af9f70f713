-- What the tests of sameness tell.
use Rattle.std.specs.Prelude.{◌≡◌, true}
use Rattle.std.proofs.Common.{arith}
use Rattle.std.proofs.lemmas.Bool.Decides.{nat_tests}
use Rattle.tez_ids.specs.declared.TaskId.{TaskId}
use Rattle.tez_ids.specs.declared.AttemptId.{AttemptId}
use Rattle.tez_ids.specs.Same.{same_task, same_attempt}

pub same_task-true : (s t : TaskId) → same_task s t ≡ true → s ≡ t
same_task-true s t h = grind (arith, nat_tests)

pub same_task-refl : (t : TaskId) → same_task t t ≡ true
same_task-refl t = grind (arith, nat_tests)

pub same_attempt-true : (a b : AttemptId) → same_attempt a b ≡ true → a ≡ b
same_attempt-true a b h = grind (arith, nat_tests)

pub same_attempt-refl : (a : AttemptId) → same_attempt a a ≡ true
same_attempt-refl a = grind (arith, nat_tests)
