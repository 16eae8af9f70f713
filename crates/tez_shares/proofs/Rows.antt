-- Worked examples, each by computing.
use Rattle.std.proofs.Common.{◌≡◌, ℕ, true, false, [], ◌∷◌, refl, codes, map, zero, suc}
use Rattle.std.specs.Fmt.{digits}
use Rattle.tez_plan.proofs.Samples.{wc, again}
use Rattle.tez_meaning.specs.Jobs.{Job, job_of}
use Rattle.tez_meaning.specs.Value.{value}
use Rattle.tez_shares.specs.Shares.{Config, task_value, task_bad}

-- two tasks of two lines of the source, and two tasks of one partition each
abbrev two_each : ℕ → Config
two_each v = record { tasks = 2; base = 1 }

abbrev words_job : Job
words_job = job_of wc ((codes "in.txt", codes "a b\na\n") ∷ [])

word_shares : map (task_value words_job two_each 0) (0 ∷ 1 ∷ []) ≡ (codes "a\t1" ∷ codes "b\t1" ∷ []) ∷ (codes "a\t1" ∷ []) ∷ []
unfolding value task_value
word_shares = refl

-- of two partitions `a` is in the first and `b` in the second
total_shares : map (task_value words_job two_each 1) (0 ∷ 1 ∷ []) ≡ (codes "a\t2" ∷ []) ∷ (codes "b\t1" ∷ []) ∷ []
unfolding digits value task_value
total_shares = refl

-- one task that takes both partitions
abbrev shrunk : ℕ → Config
shrunk zero = record { tasks = 2; base = 1 }
shrunk (suc v) = record { tasks = 1; base = 2 }

one_task : map (task_value words_job shrunk 1) (0 ∷ []) ≡ (codes "a\t2" ∷ codes "b\t1" ∷ []) ∷ []
unfolding digits value task_value
one_task = refl

no_bad_task : map (task_bad words_job shrunk 1) (0 ∷ []) ≡ false ∷ []
unfolding digits value task_value
no_bad_task = refl

-- a sum of nineteen digits is no number
abbrev too_long : Job
too_long = job_of again ((codes "in.txt", codes "k\t999999999999999999\nk\t999999999999999999\n") ∷ [])

bad_task : task_bad too_long (λ v. record { tasks = 1; base = 1 }) 2 0 ≡ true
unfolding digits value task_value
bad_task = refl
