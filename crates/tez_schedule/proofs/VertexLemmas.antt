-- What is known of a vertex.
use Rattle.std.specs.Prelude.{◌≡◌, ◌≢◌, ℕ, zero, suc, ◌+◌, ◌-◌, ◌<◌, ◌≤◌, Bool, true, false, cond, not, ◌&&◌, ◌==◌, is_none, if◌then◌else◌, ◌⊎◌, List, [], ◌∷◌, map, length, replicate, position, Option, Some, None, refl, nat_lt}
use Rattle.tez_plan.specs.Ranges.{most_tasks}
use Rattle.std.specs.List.{find, position_from}
use Rattle.std.proofs.Common.{ap, sym, ◌∙◌, arith, subst, add-one, set, eqb, inl, inr, true≢false}
use Rattle.std.proofs.lemmas.Bool.Decides.{nat_tests, eqb_tells}
use Rattle.std.proofs.lemmas.Iterator.Adapters.{position_from-zero}
use Rattle.std.specs.Option.{option_map_or}
use Rattle.std.proofs.lemmas.List.{length-set, length-replicate}
use Rattle.std.proofs.lemmas.List.Sums.{sum_by-cons}
use Rattle.tez_lists.specs.Numbers.{numbers_from}
use Rattle.tez_lists.specs.Tables.{each_from}
use Rattle.tez_lists.proofs.Tables.{map_below, set_each, each_each, if_same, if_other}
use Rattle.tez_vman.specs.declared.seen.Config.{Config}
use Rattle.tez_vman.specs.Rules.{Rule}
use Rattle.tez_ids.specs.declared.VertexId.{VertexId}
use Rattle.tez_schedule.specs.declared.input.Input.{Input}
use Rattle.tez_schedule.specs.State.{VertexState}
use Rattle.tez_schedule.specs.Planned.{new_vertex}
use Rattle.tez_schedule.specs.Kept.{IsVertex, Fits, HasInput}
use Rattle.tez_schedule.specs.Table.{how_many, flag, is_open, open_by, tasks_in, tasks_by, first_open, next_task, has_more}

pub length_each : {Y : Type 0} (f : ℕ → Y) (a n : ℕ) → length (map f (numbers_from a n)) ≡ n
length_each f a zero = refl
length_each f a (suc n) = ap suc (length_each f (suc a) n)

pub open_sized : (x : VertexState) (tasks : List Bool) → IsVertex x tasks → length tasks ≡ x.planned
open_sized x tasks h = ap length h.opened ∙ length_each (is_open x) 0 x.planned

-- ---- the first number that passes a test

first_from : (p : ℕ → Bool) (a n : ℕ) → position_from (λ b. b) a (map p (numbers_from a n)) ≡ find p (numbers_from a n)
first_from p a zero = refl
first_from p a (suc n) = by (p a) (ap (λ k. position_from (λ b. b) k (map p (numbers_from (suc a) n))) (add-one a) ∙ first_from p (suc a) n) where
  by : (b : Bool) → position_from (λ b. b) (a + 1) (map p (numbers_from (suc a) n)) ≡ find p (numbers_from (suc a) n)
      → cond b (Some a) (position_from (λ b. b) (a + 1) (map p (numbers_from (suc a) n))) ≡ cond b (Some a) (find p (numbers_from (suc a) n))
  by true rest = refl
  by false rest = rest

pub first_number : (p : ℕ → Bool) (n : ℕ) → position (λ b. b) (map p (numbers_from 0 n)) ≡ find p (numbers_from 0 n)
first_number p n = position_from-zero (λ b. b) (map p (numbers_from 0 n)) ∙ first_from p 0 n

-- ---- counts

with_one : (b : Bool) (k n total : ℕ) → (b ≡ true → 0 < n) → total ≡ cond b 1 0 + k → k ≤ n - 1 → total ≤ n
with_one true k n total l e h = let some : 0 < n = l refl in omega arith
with_one false k n total l e h = omega arith

pub count_below : (flags : List Bool) (n : ℕ) → ((i : ℕ) → flag flags i ≡ true → i < n) → how_many flags ≤ n
count_below [] n h = omega arith
count_below (b ∷ flags) n h =
    let rest : how_many flags ≤ n - 1 = count_below flags (n - 1) (λ i e. let l : suc i < n = h (suc i) e in omega arith) in
    with_one b (how_many flags) n (how_many (b ∷ flags)) (h 0) (sum_by-cons (λ (x : Bool). cond {A = ℕ} x 1 0) b flags) rest

tasks_few : (o : Option Config) (planned : ℕ) → tasks_by o ≤ option_map_or (λ c. c.tasks) o planned
tasks_few None planned = omega arith
tasks_few (Some c) planned = omega arith

pub won_few : (x : VertexState) (tasks : List Bool) → IsVertex x tasks → how_many x.won ≤ tasks_in x
won_few x tasks h =
    let few = count_below x.won (tasks_by x.config) h.won_there in
    let less = tasks_few x.config x.planned in
    omega arith

-- ---- the next task

pub next_is : (x y : VertexState) (tasks : List Bool) (most : ℕ) (r : Option ℕ) → x ≡ y → IsVertex x tasks → r ≡ position (λ b. b) tasks → has_more most y ≡ true → r ≡ next_task most y
next_is x y tasks most r e h is more =
    is ∙ ap (position (λ b. b)) h.opened ∙ first_number (is_open x) x.planned ∙ ap first_open e ∙ sym (ap (λ b. if b then first_open y else None) more)

-- ---- flags that change

flag_other : (xs : List Bool) (i j : ℕ) (b : Bool) → j ≢ i → flag (set xs i b) j ≡ flag xs j
flag_other [] i j b ne = refl
flag_other (x ∷ xs) zero zero b ne = absurd (ne refl)
flag_other (x ∷ xs) zero (suc j) b ne = refl
flag_other (x ∷ xs) (suc i) zero b ne = refl
flag_other (x ∷ xs) (suc i) (suc j) b ne = flag_other xs i j b (λ e. ne (ap suc e))

flag_same : (xs : List Bool) (i : ℕ) (b : Bool) → i < length xs → flag (set xs i b) i ≡ b
flag_same [] i b l = absurd (omega arith)
flag_same (x ∷ xs) zero b l = refl
flag_same (x ∷ xs) (suc i) b l = flag_same xs i b (omega arith)

no_flag : (n i : ℕ) → flag (replicate n false) i ≡ false
no_flag zero i = refl
no_flag (suc n) zero = refl
no_flag (suc n) (suc i) = no_flag n i

nat_tells : (a b : ℕ) → (a ≡ b) ⊎ (a ≢ b)
nat_tells a b = by (eqb_tells a b) where
  by : ((eqb a b ≡ true) × (a ≡ b)) ⊎ ((eqb a b ≡ false) × (a ≢ b)) → (a ≡ b) ⊎ (a ≢ b)
  by (inl e) = inl e.1
  by (inr e) = inr e.1

-- a test that changes at one number
changed : (n i : ℕ) (f h : ℕ → Bool) → ((j : ℕ) → j ≢ i → h j ≡ f j) → set (map f (numbers_from 0 n)) i (h i) ≡ map h (numbers_from 0 n)
changed n i f h same = set_each f (h i) 0 n i ∙ map_below (λ q. if (0 + i) == q then h i else f q) h 0 n (λ q _ _. at q (nat_tells (0 + i) q)) where
  at : (q : ℕ) → ((0 + i) ≡ q) ⊎ ((0 + i) ≢ q) → (if (0 + i) == q then h i else f q) ≡ h q
  at q (inl e) = if_same (0 + i) q (h i) (f q) e ∙ ap h (sym (omega arith) ∙ e)
  at q (inr ne) = if_other (0 + i) q (h i) (f q) ne ∙ sym (same q (λ e. ne (omega arith)))

-- ---- what is kept

none_below : (i : ℕ) (b : Bool) → (nat_lt i 0 && b) ≡ false
none_below i b = grind (arith, nat_tests)

all_shut : (f : ℕ → Bool) (a n : ℕ) → ((i : ℕ) → f i ≡ false) → replicate n false ≡ map f (numbers_from a n)
all_shut f a zero shut = refl
all_shut f a (suc n) shut = let here = shut a in let rest = all_shut f (suc a) n shut in cc

first_kept : (rule : Rule) (feeder : Option VertexId) (inputs : List Input) (planned : ℕ) → 1 ≤ planned → planned ≤ most_tasks → length inputs ≤ 256 → HasInput rule inputs
    → IsVertex (new_vertex rule feeder inputs planned) (replicate planned false)
first_kept rule feeder inputs planned some few few_inputs input = record {
  some = some;
  few = few;
  scheduled_sized = length-replicate planned false;
  fed_sized = length-replicate planned (is_none feeder);
  won_sized = length-replicate planned false;
  opened = all_shut (is_open (new_vertex rule feeder inputs planned)) 0 planned (λ i. none_below i _);
  fits = tt;
  won_there = λ i e. absurd (true≢false (sym e ∙ no_flag planned i));
  few_inputs = few_inputs;
  input = input;
}

pub new_kept : (rule : Rule) (feeder : Option VertexId) (inputs : List Input) (planned : ℕ) (scheduled fed won tasks : List Bool) → scheduled ≡ replicate planned false → fed ≡ replicate planned (is_none feeder)
    → won ≡ replicate planned false → tasks ≡ replicate planned false → 1 ≤ planned → planned ≤ most_tasks → length inputs ≤ 256 → HasInput rule inputs
    → IsVertex (record { rule = rule; feeder = feeder; inputs = inputs; planned = planned; config = None; scheduled = scheduled; fed = fed; won = won }) tasks
new_kept rule feeder inputs planned scheduled fed won tasks a b c d some few few_inputs input =
    rw (a, b, c, d) (first_kept rule feeder inputs planned some few few_inputs input)

pub scheduled_kept : (x : VertexState) (tasks : List Bool) (i : ℕ) → IsVertex x tasks → i < x.planned → IsVertex (record x { scheduled = set x.scheduled i true }) (set tasks i false)
scheduled_kept x tasks i h l = record {
  some = h.some;
  few = h.few;
  scheduled_sized = length-set x.scheduled i true ∙ h.scheduled_sized;
  fed_sized = h.fed_sized;
  won_sized = h.won_sized;
  opened = ap (λ t. set t i false) h.opened ∙ ap (set (map (is_open x) (numbers_from 0 x.planned)) i) (sym shut) ∙ changed x.planned i (is_open x) later other;
  fits = h.fits;
  won_there = h.won_there;
  few_inputs = h.few_inputs;
  input = h.input;
} where
  later : ℕ → Bool
  later j = open_by x.config x.fed (set x.scheduled i true) j

  shut_by : (a b c : Bool) → c ≡ true → (a && (b && not c)) ≡ false
  shut_by a b c e = grind arith

  shut : later i ≡ false
  shut = shut_by (nat_lt i (tasks_by x.config)) (flag x.fed i) (flag (set x.scheduled i true) i) (flag_same x.scheduled i true (omega (arith, h.scheduled_sized)))

  other : (j : ℕ) → j ≢ i → later j ≡ is_open x j
  other j ne = ap (λ b. nat_lt j (tasks_by x.config) && (flag x.fed j && not b)) (flag_other x.scheduled i j true ne)

pub fed_kept : (x : VertexState) (tasks : List Bool) (i : ℕ) (has : Bool) → IsVertex x tasks → IsVertex (record x { fed = set x.fed i has }) (set tasks i (open_by x.config (set x.fed i has) x.scheduled i))
fed_kept x tasks i has h = record {
  some = h.some;
  few = h.few;
  scheduled_sized = h.scheduled_sized;
  fed_sized = length-set x.fed i has ∙ h.fed_sized;
  won_sized = h.won_sized;
  opened = ap (λ t. set t i (later i)) h.opened ∙ changed x.planned i (is_open x) later other;
  fits = h.fits;
  won_there = h.won_there;
  few_inputs = h.few_inputs;
  input = h.input;
} where
  later : ℕ → Bool
  later j = open_by x.config (set x.fed i has) x.scheduled j

  other : (j : ℕ) → j ≢ i → later j ≡ is_open x j
  other j ne = ap (λ b. nat_lt j (tasks_by x.config) && (b && not (flag x.scheduled j))) (flag_other x.fed i j has ne)

pub configured_kept : (x : VertexState) (tasks : List Bool) (c : Config) → IsVertex x tasks → x.config ≡ None → Fits x.planned c
    → IsVertex (record x { config = Some c }) (each_from 0 (λ i _. open_by (Some c) x.fed x.scheduled i) tasks)
configured_kept x tasks c h none fits = record {
  some = h.some;
  few = h.few;
  scheduled_sized = h.scheduled_sized;
  fed_sized = h.fed_sized;
  won_sized = h.won_sized;
  opened = ap (each_from 0 (λ i _. open_by (Some c) x.fed x.scheduled i)) h.opened ∙ each_each (λ i _. open_by (Some c) x.fed x.scheduled i) (is_open x) 0 x.planned;
  fits = fits;
  won_there = λ i e. let l : i < 0 = subst (λ o. i < tasks_by o) none (h.won_there i e) in absurd (omega arith);
  few_inputs = h.few_inputs;
  input = h.input;
}

pub flipped : (a b : Bool) → a ≡ not b → b ≡ not a
flipped a true e = rw e refl
flipped a false e = rw e refl
