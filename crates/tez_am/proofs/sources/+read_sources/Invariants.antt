use Rattle.std.proofs.Common.{length}
use Rattle.tez_am.proofs.sources.+read_sources.Given as goal

abbrev pub decreases-read_sources : goal.decreases-read_sources
decreases-read_sources g l = length l.vertices.now
