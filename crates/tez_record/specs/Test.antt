-- Closures that test a record.
--     IsTestOf test p      each call of the closure test at bytes r answers p r
use Rattle.std.specs.Prelude.{◌≡◌, ℕ, Bool, List}
use Rattle.std.specs.Fn.{FnReturnsAt, Shared}
use denote.Ref.{Bor}

abbrev pub IsTestOf : {F : Type 0} → Shared F (Bor (List ℕ) × Unit {0}) Bool → F → (List ℕ → Bool) → Type 0
IsTestOf g test p = (r : List ℕ) (b : Bool) → FnReturnsAt g test r b → b ≡ p r
