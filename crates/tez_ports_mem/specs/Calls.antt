-- Calls that are to fail or to be stopped.
use Rattle.std.specs.Prelude.{◌≡◌, ◌≤◌, ◌==◌, ℕ, List, if◌then◌else◌}
use Rattle.std.specs.List.{list_any}
use Rattle.tez_ports.specs.Causes.{Rose}
use Rattle.tez_ports_mem.specs.declared.calls.Due.{Due}
use Rattle.tez_ports_mem.specs.declared.calls.Due.TheVariants.{Answer, Fail, Stop}

-- what is due at a call, by the numbers of the calls that fail and of those that are stopped
abbrev pub due_at : List ℕ → List ℕ → ℕ → Due
due_at fail stop call =
    if list_any (λ n. n == call) fail then Fail else
    if list_any (λ n. n == call) stop then Stop else Answer

-- the faults rise at a failure, the stops at a stop, and nothing else moves
abbrev pub IsCounted : Due → ℕ → ℕ → ℕ → ℕ → Type 0
IsCounted Answer faults stops new_faults new_stops = (new_faults ≡ faults) × (new_stops ≡ stops)
IsCounted Fail faults stops new_faults new_stops = (faults ≤ new_faults) × Rose faults new_faults × (new_stops ≡ stops)
IsCounted Stop faults stops new_faults new_stops = (new_faults ≡ faults) × (stops ≤ new_stops) × Rose stops new_stops
