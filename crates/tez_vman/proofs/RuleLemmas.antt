-- Bytes and source tasks fit a number of 128 bits, and what stands once all source tasks have finished.
use Rattle.std.proofs.Common.{◌≡◌, ℕ, ◌-◌, ◌*◌, ◌^◌, ◌<◌, ◌≤◌, Bool, true, false, Some, None, if◌then◌else◌, nat_le, refl, arith, le-leb}
use Rattle.std.proofs.Math.Nat.{mul-le-mul_right}
use Rattle.std.proofs.lemmas.Nat.{mul-le}
use Rattle.std.proofs.lemmas.Bool.{le-ltb}
use Rattle.std.specs.Prelude.{is_some, ◌&&◌}
use Rattle.tez_shrink.specs.Formulas.{slow_start}
use Rattle.tez_vman.specs.declared.seen.Seen.{Seen}
use Rattle.tez_vman.specs.declared.seen.Config.{Config}
use Rattle.tez_vman.specs.Rules.{Rule, AtOnce, AsSources, Gathers, StartsAll, has_enough, shrunk, config}

pub product_fits : (s b : ℕ) → s < 2 ^ 32 → b < 2 ^ 96 → s * b < 2 ^ 128
product_fits s b hs hb =
    let below : s * b ≤ (2 ^ 32 - 1) * 2 ^ 96 = mul-le s b (2 ^ 32 - 1) (2 ^ 96) (omega arith) (omega arith) in
    omega arith

fraction : (part s : ℕ) → part ≤ 1000 → part * s ≤ 1000 * s
fraction part s h = mul-le-mul_right s h

all_started : (s tasks least most : ℕ) → least ≤ 1000 → most ≤ 1000 → slow_start s s tasks least most ≡ tasks
all_started s tasks least most low high =
    rw (le-ltb (1000 * s) (least * s) (fraction least s low), le-leb (most * s) (1000 * s) (fraction most s high)) refl

all_enough : (least s : ℕ) → least ≤ 1000 → 1 ≤ s → nat_le 1 s && nat_le (least * s) (1000 * s) ≡ true
all_enough least s low some = rw (le-leb 1 s some, le-leb (least * s) (1000 * s) (fraction least s low)) refl

given : (auto enough : Bool) (x y : Config) → enough ≡ true → is_some (if auto then (if enough then Some x else None) else Some y) ≡ true
given true enough x y e = rw e refl
given false enough x y e = refl

pub starts_all : (r : Rule) (seen : Seen) → StartsAll r seen
starts_all (AtOnce tasks) seen fractions sources configured finished = (refl, refl)
starts_all AsSources seen fractions sources configured finished = (rw configured refl, refl)
starts_all (Gathers s) seen fractions sources configured finished =
    let low : s.min_src ≤ 1000 = omega (arith, fractions.0, fractions.1) in (
      given s.auto_parallel (has_enough s seen) (shrunk s seen) (config s.parts 1) (rw (configured, finished) (all_enough s.min_src seen.sources low (sources configured))),
      rw (configured, finished) (all_started seen.sources seen.tasks s.min_src s.max_src low fractions.1),
    )
