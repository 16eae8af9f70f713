-- Worked examples, each by computing.
use Rattle.std.proofs.Common.{◌≡◌, ℕ, true, refl, Some, None}
use Rattle.tez_vman.specs.declared.seen.Seen.{Seen}
use Rattle.tez_vman.specs.Rules.{Shuffling, Gathers, config, configures, schedules}

-- eight partitions, ten bytes a task, a quarter to three quarters
abbrev eight : Shuffling
eight = record { parts = 8; auto_parallel = true; min_src = 250; max_src = 750; desired_bytes = 10; min_tasks = 1 }

-- of four source tasks these have finished, with these bytes
abbrev seen_by : ℕ → ℕ → Seen
seen_by finished bytes = record { sources = 4; configured = true; finished = finished; bytes = bytes; tasks = 8 }

first_epoch : configures (Gathers eight) (seen_by 1 6) ≡ Some (config 4 2)
first_epoch = refl

second_epoch : configures (Gathers eight) (seen_by 2 30) ≡ Some (config 8 1)
second_epoch = refl

not_yet : configures (Gathers eight) (seen_by 0 0) ≡ None
not_yet = refl

starts : (schedules (Gathers eight) (seen_by 1 0) ≡ 0) × (schedules (Gathers eight) (seen_by 2 0) ≡ 4) × (schedules (Gathers eight) (seen_by 3 0) ≡ 8)
starts = (refl, refl, refl)
