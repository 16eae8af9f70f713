-- The attempt that gives way.
--     least_depth m         the least depth of a queued attempt
--     IsVictim m victim     where no place is free and an attempt is queued, the pool's victim for that depth, and else none
use Rattle.std.specs.Prelude.{◌≡◌, ℕ, [], Option, Some, None}
use Rattle.std.specs.Option.{option_map}
use Rattle.tez_ids.specs.declared.AttemptId.{AttemptId}
use Rattle.tez_pool.specs.Victim.{candidates, IsGreatest}
use Rattle.tez_master_model.specs.State.{MasterState}
use Rattle.tez_master_model.specs.Read.{depth_in, free_place}
use Rattle.tez_master_model.specs.Choice.{first_queued}

abbrev pub least_depth : MasterState → Option ℕ
least_depth m = option_map (depth_in m) (first_queued m)

abbrev pub IsVictimAt : MasterState → Option AttemptId → ℕ → Type 0
IsVictimAt m None d = candidates m.plan d m.pool.places ≡ []
IsVictimAt m (Some a) d = IsGreatest m.plan (candidates m.plan d m.pool.places) a

abbrev pub IsVictimBy : MasterState → Option AttemptId → Option ℕ → Option ℕ → Type 0
IsVictimBy m victim (Some p) d = victim ≡ None
IsVictimBy m victim None None = victim ≡ None
IsVictimBy m victim None (Some d) = IsVictimAt m victim d

abbrev pub IsVictim : MasterState → Option AttemptId → Type 0
IsVictim m victim = IsVictimBy m victim (free_place m) (least_depth m)
