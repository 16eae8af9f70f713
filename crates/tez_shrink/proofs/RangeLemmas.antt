-- The ranges of the tasks.
--     range_is_quotient      a partition is in the range of the task that is its quotient by base
--     tasks_enough           that task is there
--     range_there            a task that is there has some partition, and none past the end
--     in_one_range           each partition is in the range of exactly one task
use Rattle.std.proofs.Common.{◌≡◌, ℕ, ◌+◌, ◌*◌, ◌/◌, ◌<◌, ◌≤◌, ◌==◌, ◌&&◌, min, sym, ◌∙◌, subst, arith, eq-eqb, ne_eqb, ltb, leb, lt-ltb, le-leb, mul-le-mul_right, mod-lt, le-div_iff_mul-le, div-lt_iff_lt-mul, eq-zero-or-pos, ◌%◌, div-add-mod', ⊎_elim}
use Rattle.std.proofs.lemmas.Bool.{and_from, and_left, and_right, cases_order, lt-leb, le-ltb}
use Rattle.std.specs.List.{range_with_len}
use Rattle.std.proofs.Common.{count_by, ap}
use Rattle.tez_lists.proofs.Ranges.{one_in_range}
use Rattle.tez_shrink.specs.Formulas.{tasks_of as tasks_for, IsInOneRange}

-- x is in the range of task t exactly where t is its quotient
pub range_is_quotient : (parts base x t : ℕ) → 0 < base → x < parts → leb (t * base) x && ltb x (min ((t + 1) * base) parts) ≡ (x / base == t)
range_is_quotient parts base x t some inside =
    let low : x / base * base ≤ x = omega (arith, div-add-mod' x base) in
    let high : x < x / base * base + base = omega (arith, div-add-mod' x base, mod-lt x some) in
    ⊎_elim
    (λ e.
    let from : t * base ≤ x = subst (λ q. q * base ≤ x) e low in
    let to : x < t * base + base = subst (λ q. x < q * base + base) e high in
    and_from _ _ (le-leb (t * base) x from) (lt-ltb x (min ((t + 1) * base) parts) (omega arith)) ∙ sym (eq-eqb (x / base) t e))
    (λ apart. ⊎_elim
    (λ (below : x / base < t).
    let up : x / base + 1 ≤ t = omega arith in
    let next : (x / base + 1) * base ≤ t * base = mul-le-mul_right base up in
    and_left _ _ (lt-leb (t * base) x (omega arith)) ∙ sym (ne_eqb (x / base) t (λ e. omega arith)))
    (λ (above : t < x / base).
    let up : t + 1 ≤ x / base = omega arith in
    let next : (t + 1) * base ≤ x / base * base = mul-le-mul_right base up in
    and_right _ _ (le-ltb x (min ((t + 1) * base) parts) (omega arith)) ∙ sym (ne_eqb (x / base) t (λ e. omega arith)))
    apart)
    (cases_order (x / base) t)

pub tasks_enough : (parts base x : ℕ) → 0 < base → x < parts → x / base < tasks_for parts base
tasks_enough parts base x some inside =
    let whole : parts / base * base + parts % base ≡ parts = div-add-mod' parts base in
    let up : x / base ≤ parts / base = (le-div_iff_mul-le {x = x / base} {y = parts} some).1 (omega (arith, div-add-mod' x base)) in
    ⊎_elim
    (λ (e : parts % base ≡ 0).
    let below : x / base < parts / base = (div-lt_iff_lt-mul {x = x} {y = parts / base} some).1 (omega arith) in
    omega arith)
    (λ (rest : 0 < parts % base). omega arith)
    (eq-zero-or-pos (parts % base))

pub in_one_range : (parts base p : ℕ) → 0 < base → p < parts → IsInOneRange parts base p
in_one_range parts base p some inside =
    ap (λ q. count_by q (range_with_len 0 (tasks_for parts base))) (λ i t. range_is_quotient parts base p t some inside i)
    ∙ one_in_range (p / base) (tasks_for parts base) (tasks_enough parts base p some inside)

-- t times base is below parts where t is a task
pub range_there : (parts base t : ℕ) → 0 < base → t < tasks_for parts base → t * base < parts
range_there parts base t some inside =
    let whole : parts / base * base + parts % base ≡ parts = div-add-mod' parts base in
    ⊎_elim
    (λ (e : parts % base ≡ 0).
    let below : t + 1 ≤ parts / base = omega arith in
    let next : (t + 1) * base ≤ parts / base * base = mul-le-mul_right base below in
    omega arith)
    (λ (rest : 0 < parts % base).
    let below : t ≤ parts / base = omega arith in
    let next : t * base ≤ parts / base * base = mul-le-mul_right base below in
    omega arith)
    (eq-zero-or-pos (parts % base))
