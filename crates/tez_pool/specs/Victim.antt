-- The attempt that gives its place away to one of lesser depth.
use Rattle.std.specs.Prelude.{◌≡◌, ℕ, ◌<◌, nat_lt, false, if◌then◌else◌, List, [], ◌∷◌, length, Option, Some, None, IfSome, option_and_then}
use Rattle.std.specs.declared.cmp.Ordering.{Ordering}
use Rattle.std.specs.List.{filter_map}
use Rattle.std.specs.Ordering.{nat_cmp, is_gt}
use Rattle.std.specs.Cmp.Lexicographic.{slice_cmp}
use Rattle.tez_lists.specs.Numbers.{In}
use Rattle.tez_ids.specs.declared.AttemptId.{AttemptId}
use Rattle.tez_plan.specs.Dag.{Dag}
use Rattle.tez_plan.specs.Order.{depth}
use Rattle.tez_pool.specs.declared.place.Held.{Held}
use Rattle.tez_pool.specs.declared.place.Place.{Place}
use Rattle.tez_pool.specs.Index.{held_at}

abbrev pub depth_of : Dag → AttemptId → ℕ
depth_of p a = depth p a.task.vertex.0

-- the vertices of those that hold places are in the plan
abbrev pub AreIn : Dag → List Place → Type 0
AreIn p places = (n : ℕ) (a : AttemptId) → held_at places n ≡ Some a → a.task.vertex.0 < length p.vertices

-- a holder that waits: its order did not go out
abbrev pub waiting : Held → Option AttemptId
waiting h = if h.sent then None else Some h.attempt

abbrev pub deeper : Dag → ℕ → AttemptId → Option AttemptId
deeper p d a = if nat_lt d (depth_of p a) then Some a else None

-- the attempt that waits at a place, where it is deeper than d
abbrev pub candidate : Dag → ℕ → Place → Option AttemptId
candidate p d x = option_and_then (deeper p d) (option_and_then waiting x.holder)

abbrev pub candidates : Dag → ℕ → List Place → List AttemptId
candidates p d places = filter_map (candidate p d) places

-- attempts by depth, and then by epoch, vertex, index and number
abbrev pub rank : Dag → AttemptId → List ℕ
rank p a = depth_of p a ∷ a.epoch.0 ∷ a.task.vertex.0 ∷ a.task.index ∷ a.number ∷ []

abbrev pub compare : Dag → AttemptId → AttemptId → Ordering
compare p a b = slice_cmp nat_cmp (rank p a) (rank p b)

-- the deepest of some attempts, and of those the greatest
pub record IsGreatest (p : Dag) (attempts : List AttemptId) (v : AttemptId) : Type 0 where
  pub among : In v attempts
  pub greatest : (a : AttemptId) → In a attempts → is_gt (compare p a v) ≡ false

-- the greater of two, where there are two
abbrev pub greater : Dag → Option AttemptId → Option AttemptId → Option AttemptId
greater p None b = b
greater p (Some a) None = Some a
greater p (Some a) (Some b) = Some (if is_gt (compare p b a) then b else a)

abbrev pub IsKnown : Dag → Option AttemptId → Type 0
IsKnown p o = IfSome o (λ a. a.task.vertex.0 < length p.vertices)
