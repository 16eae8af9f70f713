-- The rule of a manager.
use Rattle.tez_schedule.specs.declared.manager.AnyManager.{AnyManager}
use Rattle.tez_schedule.specs.declared.manager.AnyManager.TheVariants.{Immediate, InputReady, Shuffle}
use Rattle.tez_vman.specs.Rules.{Rule, AtOnce, AsSources, Gathers}

abbrev pub rule_of : AnyManager → Rule
rule_of (Immediate m) = AtOnce m.tasks
rule_of (InputReady m) = AsSources
rule_of (Shuffle m) = Gathers (record { parts = m.parts; auto_parallel = m.auto_parallel; min_src = m.min_src; max_src = m.max_src; desired_bytes = m.desired_bytes; min_tasks = m.min_tasks })
