-- What the managers are asked: the greatest number to schedule, and when it stays.
use Rattle.std.specs.Prelude.{◌≡◌, ℕ, ◌≤◌, max, false, if◌then◌else◌, List, [], ◌∷◌, map, length, refl}
use Rattle.std.proofs.Common.{ap, sym, ◌∙◌, arith}
use Rattle.tez_lists.proofs.Tables.{map_below, each_each}
use Rattle.tez_plan.specs.Dag.{Dag}
use Rattle.tez_conf.specs.declared.values.ConfValues.{ConfValues}
use Rattle.tez_vman.specs.declared.seen.Seen.{Seen}
use Rattle.tez_vman.specs.Rules.{Rule, AtOnce, AsSources, Gathers, schedules}
use Rattle.tez_events.specs.declared.Entry.{Entry}
use Rattle.tez_history.specs.Shape.{vertices, rule}
use Rattle.tez_history.specs.History.{Past}
use Rattle.tez_history.specs.Derived.{is_configured, seen, to_schedule, greatest_to_schedule, starts_epoch}
use Rattle.tez_history.specs.Follows.{IsMade}
use Rattle.tez_schedule.specs.Table.{asked, asked_at}
use Rattle.tez_schedule_view.specs.View.{schedule_view, FitsPlan}
use Rattle.tez_schedule_view.proofs.Beginning.{schedule_with}
use Rattle.tez_schedule_view.proofs.Seeing.{vertices_view, edges_view, to_schedule_same}

abbrev pub most_view : Dag → ConfValues → Past → List ℕ
most_view g c past = map (λ v. greatest_to_schedule g c v past) (vertices g)

at_most : (m n : ℕ) → m ≤ max m n
at_most m n = omega arith

no_more : (m n : ℕ) → m ≤ n → max m n ≡ n
no_more m n h = omega arith

turned : (m n : ℕ) → max m n ≡ max n m
turned m n = omega arith

-- what there is to schedule now is the greatest number at most
pub enough : (g : Dag) (c : ConfValues) (v : ℕ) (past : Past) → to_schedule g c v past ≤ greatest_to_schedule g c v past
enough g c v [] = let z : to_schedule g c v [] ≡ 0 = refl in omega (arith, z)
enough g c v (e ∷ past) = at_most (to_schedule g c v (e ∷ past)) (if starts_epoch e then 0 else greatest_to_schedule g c v past)

pub asks : (g : Dag) (c : ConfValues) (v : ℕ) (past : Past) (e : Entry) → starts_epoch e ≡ false → greatest_to_schedule g c v (e ∷ past) ≡ max (greatest_to_schedule g c v past) (to_schedule g c v (e ∷ past))
asks g c v past e h =
    ap (λ b. max (to_schedule g c v (e ∷ past)) (if b then 0 else greatest_to_schedule g c v past)) h ∙ turned (to_schedule g c v (e ∷ past)) (greatest_to_schedule g c v past)

pub quiet : (g : Dag) (c : ConfValues) (v : ℕ) (past : Past) (e : Entry) → starts_epoch e ≡ false → to_schedule g c v (e ∷ past) ≡ to_schedule g c v past → greatest_to_schedule g c v (e ∷ past) ≡ greatest_to_schedule g c v past
quiet g c v past e h same =
    ap (λ b. max (to_schedule g c v (e ∷ past)) (if b then 0 else greatest_to_schedule g c v past)) h ∙ ap (λ n. max n (greatest_to_schedule g c v past)) same
    ∙ no_more (to_schedule g c v past) (greatest_to_schedule g c v past) (enough g c v past)

-- bytes do not tell how many to schedule
schedules_by : (r : Rule) (s t : Seen) → s.sources ≡ t.sources → s.configured ≡ t.configured → s.finished ≡ t.finished → s.tasks ≡ t.tasks → schedules r s ≡ schedules r t
schedules_by (AtOnce n) s t a b f k = k
schedules_by AsSources s t a b f k = k
schedules_by (Gathers x) s t a b f k = rw (a, b, f, k) refl

pub to_schedule_by : (g : Dag) (c : ConfValues) (v : ℕ) (past later : Past) → is_configured v later ≡ is_configured v past → (seen g v later).sources ≡ (seen g v past).sources → (seen g v later).configured ≡ (seen g v past).configured
    → (seen g v later).finished ≡ (seen g v past).finished → (seen g v later).tasks ≡ (seen g v past).tasks → to_schedule g c v later ≡ to_schedule g c v past
to_schedule_by g c v past later o a b f k =
    ap (λ x. if x then schedules (rule g c v) (seen g v later) else 0) o ∙ ap (λ n. if is_configured v past then n else 0) (schedules_by (rule g c v) (seen g v later) (seen g v past) a b f k)

-- ---- the managers are asked again

pub asked_view : (g : Dag) (c : ConfValues) (past later : Past) → IsMade g c later → FitsPlan g later → ((v : ℕ) → greatest_to_schedule g c v later ≡ max (greatest_to_schedule g c v past) (to_schedule g c v later))
    → asked (schedule_with (vertices_view g c later) (edges_view g later) (most_view g c past)) ≡ schedule_view g c later
asked_view g c past later m fits most =
    ap (schedule_with (vertices_view g c later) (edges_view g later))
    (each_each (asked_at (vertices_view g c later) (edges_view g later)) (λ v. greatest_to_schedule g c v past) 0 (length g.vertices)
    ∙ map_below (λ v. asked_at (vertices_view g c later) (edges_view g later) v (greatest_to_schedule g c v past)) (λ v. greatest_to_schedule g c v later) 0 (length g.vertices)
    (λ v _ low. ap (max (greatest_to_schedule g c v past)) (to_schedule_same g c later m fits v (omega (arith, low))) ∙ sym (most v)))
