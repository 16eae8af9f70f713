use Rattle.std.specs.Prelude.{ℕ, List, ◌++◌, ◌<◌, ◌^◌}
use Rattle.std.specs.Int.{w16, w32, w64, to_le_bytes}
use Rattle.tez_ids.specs.declared.AttemptId.{AttemptId}

-- an attempt in 22 bytes: epoch, vertex, index and number, each with the least byte first
abbrev pub fixed : AttemptId → List ℕ
fixed a = to_le_bytes w64 a.epoch.0 ++ to_le_bytes w16 a.task.vertex.0 ++ to_le_bytes w32 a.task.index ++ to_le_bytes w64 a.number

-- each number of the attempt is in the range of its type
pub record FitsFixed (a : AttemptId) : Type 0 where
  pub epoch : a.epoch.0 < 2 ^ 64
  pub vertex : a.task.vertex.0 < 2 ^ 16
  pub index : a.task.index < 2 ^ 32
  pub number : a.number < 2 ^ 64
