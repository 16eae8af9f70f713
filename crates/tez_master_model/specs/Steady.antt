-- What a master that stands for a history keeps, as calls on its parts ask.
--     CanHaveConfig m v     vertex v can have the tasks that it is to be configured with, if it is to be
--     IsSteady m            who is queued holds no place, who processes is at a task, and a vertex can have its tasks
use Rattle.std.specs.Prelude.{◌≡◌, ℕ, true, IfSome, None}
use Rattle.tez_ids.specs.declared.AttemptId.{AttemptId}
use Rattle.tez_ids.specs.declared.VertexId.{VertexId}
use Rattle.tez_events.specs.declared.CoreEvent.TheVariants.{Configure}
use Rattle.tez_pool.specs.Table.{place_held}
use Rattle.tez_router.specs.Configure.{CanConfigure}
use Rattle.tez_schedule.specs.Table.{configures_at, is_task}
use Rattle.tez_master_model.specs.State.{MasterState}
use Rattle.tez_master_model.specs.Read.{is_queued, processes}
use Rattle.tez_master_model.specs.Enabled.{enabled_in}

abbrev pub CanHaveConfig : MasterState → ℕ → Type 0
CanHaveConfig m v = IfSome (configures_at m.schedule v) (CanConfigure m.router v)

pub record IsSteady (m : MasterState) : Type 0 where
  pub unplaced : (a : AttemptId) → is_queued m a ≡ true → place_held m.pool.places a ≡ None
  pub configurable : (v : VertexId) → enabled_in m (Configure v) ≡ true → CanHaveConfig m v.0
  pub known : (a : AttemptId) → processes m a ≡ true → is_task m.schedule a.task ≡ true
