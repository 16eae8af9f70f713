-- The lines of a report.
use Rattle.std.specs.Prelude.{◌≡◌, ℕ, List, [], ◌∷◌, map, refl}
use Rattle.std.proofs.Common.{ap}
use Rattle.tez_ids.specs.declared.AttemptId.{AttemptId}
use Rattle.tez_ids.specs.declared.EdgeId.{EdgeId}
use Rattle.tez_events.specs.declared.Entry.{Entry}
use Rattle.tez_events.specs.declared.Entry.TheVariants.{Succeeded}
use Rattle.tez_history.specs.Steps.{done_entries}
use Rattle.tez_master_model.specs.Bytes.{bytes_of}
use Rattle.tez_master.specs.Master.{made_line}

pub report_lines : (a : AttemptId) (made : List (EdgeId × ℕ)) → Succeeded a ∷ map (made_line a) made ≡ done_entries a (map bytes_of made)
report_lines a [] = refl
report_lines a (m ∷ made) = ap (λ es. Succeeded a ∷ made_line a m ∷ tail es) (report_lines a made) where
  tail : List Entry → List Entry
  tail [] = []
  tail (e ∷ es) = es
