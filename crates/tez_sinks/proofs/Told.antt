-- The sink that is recorded next was not told of before.
use Rattle.std.specs.Prelude.{◌≡◌, ℕ, ◌<◌, Bool, true, false, refl}
use Rattle.std.proofs.Common.{arith}
use Rattle.tez_plan.specs.Dag.{Dag}
use Rattle.tez_conf.specs.declared.values.ConfValues.{ConfValues}
use Rattle.tez_history.specs.History.{Past, recorded}
use Rattle.tez_history.specs.Derived.{is_next}
use Rattle.tez_history.specs.Rules.{is_published, sinks_before}
use Rattle.tez_history.specs.Follows.{IsMade}
use Rattle.tez_laws.proofs.Counting.{next_before, told_before}

pub not_told : (g : Dag) (c : ConfValues) (past : Past) (v : ℕ) → IsMade g c past → is_next g past v ≡ true
    → is_published v past ≡ false
not_told g c past v m next = by (is_published v past) refl where
  by : (b : Bool) → is_published v past ≡ b → is_published v past ≡ false
  by false e = e
  by true e =
      let low : sinks_before g v < recorded past = told_before g c past v m e in
      let at : sinks_before g v ≡ recorded past = next_before g past v next in
      absurd (omega (arith, low, at))
