-- Which journals a master may go on from.
--     HasVersion s     a commit that has started is taken up only where the journal is of version 2
use Rattle.std.specs.Prelude.{◌≡◌, ℕ, ⊤}
use Rattle.tez_standing.specs.declared.state.Phase.{Phase}
use Rattle.tez_standing.specs.declared.state.Phase.TheVariants.{Running, CommitStarted, Finished}
use Rattle.tez_standing.specs.declared.state.Standing.{Standing}

abbrev pub IsVersionFor : Phase → ℕ → Type 0
IsVersionFor Running version = ⊤
IsVersionFor (CommitStarted sums n) version = version ≡ 2
IsVersionFor (Finished sums) version = ⊤

abbrev pub HasVersion : Standing → Type 0
HasVersion s = IsVersionFor s.phase s.version
