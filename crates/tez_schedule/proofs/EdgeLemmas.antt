-- The bytes of an edge.
use Rattle.std.specs.Prelude.{◌≡◌, ℕ, ◌+◌, ◌-◌, ◌*◌, ◌<◌, ◌≤◌, ◌^◌, List, length}
use Rattle.std.specs.List.{sum_by}
use Rattle.std.proofs.Common.{arith, get_or, set}
use Rattle.std.proofs.lemmas.List.{length-set}
use Rattle.std.proofs.lemmas.List.Elements.{All-set}
use Rattle.std.proofs.lemmas.List.Sums.{sum_by-le, sum_by-set, get_or-le-sum_by}
use Rattle.tez_schedule.specs.Kept.{AddsUp}

pub few_bytes : (total : ℕ) (made : List ℕ) → AddsUp total made → total < 2 ^ 78
few_bytes total made h =
    let most : sum_by (λ n. n) made ≤ length made * 18446744073709551615 = sum_by-le (λ n. n) 18446744073709551615 made (λ i b d. let l = h.narrow i b d in omega arith) in
    let few = h.few in
    let sum = h.sum in
    omega arith

pub one_set : (total : ℕ) (made : List ℕ) (i bytes old : ℕ) → AddsUp total made → i < length made → old ≡ get_or made i 0 → bytes < 2 ^ 64 → AddsUp (total - old + bytes) (set made i bytes)
one_set total made i bytes old h b is fits =
    let change = sum_by-set (λ (n : ℕ). n) made i bytes 0 b in
    let within = get_or-le-sum_by (λ (n : ℕ). n) made i 0 b in
    let sum = h.sum in
    record {
      sum = omega arith;
      few = omega (arith, length-set made i bytes, h.few);
      narrow = All-set (λ n. n < 2 ^ 64) made i bytes fits h.narrow;
    }
