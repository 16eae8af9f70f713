use Rattle.std.proofs.Common.{◌≡◌, take}
use Rattle.std.specs.List.{flat_map}
use Rattle.tez_standing.specs.Progress.{setting_of}
use Rattle.tez_standing.proofs.progress.all_settings.Given as goal

abbrev pub invariant-loop-vertex : goal.invariant-loop-vertex
invariant-loop-vertex l = l.settings.items ≡ flat_map setting_of (take l.vertex-index l.vertices)
