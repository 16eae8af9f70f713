-- The inputs that come from one source task, where each source task gives as many.
use Rattle.std.proofs.Common.{◌≡◌, ℕ, zero, suc, ◌+◌, ◌*◌, ◌/◌, ◌%◌, ◌<◌, ◌≤◌, Bool, true, false, sym, ap, ◌∙◌, subst, arith, mod-lt, div-add-mod', mul-zero, mul_comm, add-zero}
use Rattle.std.specs.Prelude.{nat_lt, if◌then◌else◌}
use Rattle.std.proofs.Math.Arith.{digits_div}
use Rattle.tez_router.specs.State.{table_for, ScatterGather}
use Rattle.tez_router.specs.Table.{inputs_in}

in_parts : (sources w inputs i s : ℕ) → 1 ≤ sources → inputs ≡ sources * w → i < sources * w → i / w ≡ s → (s * (inputs / sources) ≤ i) × (i < s * (inputs / sources) + inputs / sources)
in_parts sources w inputs i s some is below leads =
    let width : inputs / sources ≡ w = ap (λ n. n / sources) (is ∙ mul_comm sources w ∙ sym (add-zero (w * sources))) ∙ digits_div w some in
    let wide : 0 < w = positive w below in
    let whole : s * w + i % w ≡ i = ap (λ q. q * w + i % w) (sym leads) ∙ div-add-mod' i w in
    let rest : i % w < w = mod-lt i wide in
    let low : s * w ≤ i = omega arith in
    let high : i < s * w + w = omega arith in
    subst (λ v. (s * v ≤ i) × (i < s * v + v)) (sym width) (low, high)
  where
    positive : (w : ℕ) → i < sources * w → 0 < w
    positive zero h = let none : sources * 0 ≡ 0 = mul-zero sources in absurd (omega arith)
    positive (suc w) h = omega arith

pub gather_span : (sources parts base c inputs i s : ℕ) → 1 ≤ sources → inputs ≡ inputs_in (ScatterGather sources parts base) c → i < inputs_in (ScatterGather sources parts base) c
    → ((table_for (ScatterGather sources parts base)).leads c i).0 ≡ s → (s * (inputs / sources) ≤ i) × (i < s * (inputs / sources) + inputs / sources)
gather_span sources parts base c inputs i s some is below leads = by (nat_lt c (table_for (ScatterGather sources parts base)).consumers) _ is below leads where
  by : (b : Bool) (w : ℕ) → inputs ≡ (if b then sources * w else 0) → i < (if b then sources * w else 0) → i / w ≡ s → (s * (inputs / sources) ≤ i) × (i < s * (inputs / sources) + inputs / sources)
  by true w e h leads = in_parts sources w inputs i s some e h leads
  by false w e h leads = absurd (omega arith)
