-- Which inputs of a consumer task can lead back to a source task: those from a first number to before an end.
use Rattle.std.specs.Prelude.{◌≡◌, ℕ, ◌<◌, ◌≤◌, true}
use Rattle.tez_ids.specs.declared.TaskId.{TaskId}
use Rattle.tez_router.specs.State.{LinkState, Routing, table_for}
use Rattle.tez_router.specs.Table.{inputs_in, source_task, is_task}

abbrev pub IsSpan : LinkState → TaskId → ℕ → ℕ → ℕ → Type 0
IsSpan l t c first end = (i : ℕ) → is_task t (source_task l c i) ≡ true → (first ≤ i) × (i < end)

abbrev pub IsSpanOf : Routing → ℕ → ℕ → ℕ → ℕ → Type 0
IsSpanOf r c s first end = (i : ℕ) → i < inputs_in r c → ((table_for r).leads c i).0 ≡ s → (first ≤ i) × (i < end)
