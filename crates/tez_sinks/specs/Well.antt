-- What the laws of the store ask of a history.
--     IsReadiedAtCommit g past      from the commit on every sink is readied, but for a commit that the open found
--     IsWell job c past             the plan is valid, each entry might follow, and what stands is allowed and right
use Rattle.std.specs.Prelude.{◌≡◌, true, false}
use Rattle.std.specs.List.{list_all}
use Rattle.tez_plan.specs.Dag.{Dag}
use Rattle.tez_plan.specs.Faults.{IsValid}
use Rattle.tez_plan.specs.Ranges.{IsInRanges}
use Rattle.tez_conf.specs.declared.values.ConfValues.{ConfValues}
use Rattle.tez_meaning.specs.Jobs.{Job}
use Rattle.tez_history.specs.Shape.{sinks}
use Rattle.tez_history.specs.History.{Past, is_readied, is_committing, is_found}
use Rattle.tez_history.specs.Follows.{IsMade}
use Rattle.tez_pool_view.specs.View.{IsWholeAtCommit}
use Rattle.tez_contents.specs.Laws.{IsAllowedNow, WereAllowed, KeptRight}

abbrev pub IsReadiedAtCommit : Dag → Past → Type 0
IsReadiedAtCommit g past =
    is_committing past ≡ true → is_found past ≡ false → list_all (λ v. is_readied v past) (sinks g) ≡ true

pub record IsWell (job : Job) (c : ConfValues) (past : Past) : Type 0 where
  pub valid : IsValid job.plan
  pub ranges : IsInRanges job.plan
  pub made : IsMade job.plan c past
  pub whole : IsWholeAtCommit job.plan past
  pub allowed : WereAllowed job.plan past
  pub now : IsAllowedNow job.plan past
  pub kept : KeptRight job past
  pub committed : IsReadiedAtCommit job.plan past
