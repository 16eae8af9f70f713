-- Flags and how many of them are set.
use Rattle.std.specs.Prelude.{◌≡◌, ℕ, ◌+◌, ◌-◌, ◌<◌, ◌≤◌, Bool, cond, List, length}
use Rattle.std.proofs.Common.{ap, arith, get_or, set}
use Rattle.std.proofs.lemmas.List.Sums.{count_by-le-length, sum_by-set, get_or-le-sum_by}
use Rattle.tez_schedule.specs.Table.{how_many}

pub one_flag : (count : ℕ) (flags : List Bool) (i : ℕ) (old value d : Bool) → count ≡ how_many flags → i < length flags → old ≡ get_or flags i d
    → (cond old 1 0 ≤ count) × (count - cond old 1 0 + cond value 1 0 ≡ how_many (set flags i value))
one_flag count flags i old value d h b is =
    let change = sum_by-set (λ (x : Bool). cond x 1 0) flags i value d b in
    let within = get_or-le-sum_by (λ (x : Bool). cond x 1 0) flags i d b in
    let same : cond {A = ℕ} old 1 0 ≡ cond (get_or flags i d) 1 0 = ap (λ (b : Bool). cond {A = ℕ} b 1 0) is in
    (omega arith, omega arith)

pub few_set : (flags : List Bool) → how_many flags ≤ length flags
few_set flags = count_by-le-length (λ (b : Bool). b) flags
