use Rattle.std.proofs.Common.{◌≡◌, ℕ, Bool, true, false, List, [], ◌∷◌}
use Rattle.std.specs.List.{list_any, AllByRecursion}
use Rattle.std.proofs.lemmas.Bool.{false_from_ne_true, or_left, or_right}
use Rattle.tez_lists.proofs.Cases.{both}
use Rattle.tez_lists.proofs.Ranges.{at_below}
use Rattle.tez_shares.specs.Shares.{task_bad, tasks_in}
use Rattle.tez_shares.proofs.Shared.{shares_whole}
use Rattle.tez_shares.proofs.FitsLemmas.{fits_valid}
use Rattle.tez_shares.proofs.defined_jobs_have_good_tasks.Goals as goal

-- a test that passes nowhere fails at each
fails_each : (test : ℕ → Bool) (ts : List ℕ) → (list_any test ts ≡ true → ⊥) → AllByRecursion (λ t. test t ≡ false) ts
fails_each test [] h = tt
fails_each test (t ∷ ts) h = (false_from_ne_true (test t) (λ e. h (or_left _ _ e)), fails_each test ts (λ e. h (or_right _ _ e)))

pub returns : goal.returns
returns c = λ job config v t valid tasks allowed inside there defined.
    let whole = shares_whole job config valid (fits_valid job.plan valid tasks) allowed v inside in
    at_below t (config v).tasks (λ u. task_bad job config v u ≡ false) (fails_each (task_bad job config v) (tasks_in config v) (λ some. both (whole.bads.0 some) (defined v))) there
