-- Numbers that grow with the trace stay below it, or a little above.
use Rattle.std.specs.Prelude.{◌≡◌, ◌⊎◌, ℕ, zero, suc, ◌+◌, ◌*◌, ◌<◌, ◌≤◌, ◌^◌, ◌==◌, Bool, true, false, if◌then◌else◌, [], ◌∷◌, map, length, slice_get, IfSome, refl}
use Rattle.std.proofs.Common.{ap, sym, arith, subst, inl, inr}
use Rattle.std.proofs.lemmas.Nat.{mul-le}
use Rattle.std.proofs.lemmas.Bool.{cases_lt}
use Rattle.std.proofs.Math.Nat.{le_refl, le_trans, one-mul}
use Rattle.tez_ids.specs.declared.TaskId.{TaskId}
use Rattle.tez_ids.specs.declared.AttemptId.{AttemptId}
use Rattle.tez_ids.specs.Same.{same_task}
use Rattle.tez_plan.specs.Dag.{Dag}
use Rattle.tez_conf.specs.declared.values.ConfValues.{ConfValues}
use Rattle.tez_conf.specs.Ranges.{IsInRange}
use Rattle.tez_events.specs.declared.KillCause.TheVariants.{Preempt}
use Rattle.tez_events.specs.declared.Entry.TheVariants.{Opened, Over, Queued, Succeeded, Failed, Killed, NodeLost, Stopped}
use Rattle.tez_meaning.specs.Jobs.{Job}
use Rattle.tez_history.specs.Shape.{places}
use Rattle.tez_history.specs.History.{Past, Stage, Unknown, InQueue, Waits, Runs, Ended, stage, attempts, life, next_container, given_up, holds_place}
use Rattle.tez_history.specs.Derived.{is_task}
use Rattle.tez_history.specs.Follows.{IsMade}
use Rattle.tez_master_model.proofs.Numbers.{get_above}
use Rattle.tez_lists.specs.Numbers.{numbers_from}
use Rattle.tez_pool_view.proofs.Reading.{read_life}
use Rattle.tez_contents.specs.Laws.{HasNone}
use Rattle.tez_master_model.specs.Read.{task_in}
use Rattle.tez_master_model.specs.Steady.{IsSteady}
use Rattle.tez_master_view.specs.View.{master_view}
use Rattle.tez_master_view.proofs.TaskReadings.{task_read, no_task_read}
use Rattle.tez_master_view.proofs.SteadyLaw.{steady}
use Rattle.tez_world_invariant.specs.Keeping.{Parts, Holds, is_stop, most_entries}

one_more : (b : Bool) (n k : ℕ) → n ≤ k → (if b then 1 else 0) + n ≤ suc k
one_more true n k h = omega arith
one_more false n k h = omega arith

step : (n k : ℕ) → n ≤ k → n ≤ suc k
step n k h = omega arith

from_none : (n : ℕ) → 0 ≤ n
from_none n = omega arith

attempts_few : (t : TaskId) (past : Past) → attempts t past ≤ length past
attempts_few t [] = from_none 0
attempts_few t (Opened e ∷ past) = from_none (suc (length past))
attempts_few t (Over ∷ past) = from_none (suc (length past))
attempts_few t (Queued a ∷ past) = one_more (same_task a.task t) (attempts t past) (length past) (attempts_few t past)
attempts_few t (_ ∷ past) = step (attempts t past) (length past) (attempts_few t past)

next_life : (b : Bool) (l here there k : ℕ) → l ≡ suc here → here ≤ k → there ≤ k → (if b then l else there) ≤ suc k
next_life true l here there k is h r = omega arith
next_life false l here there k is h r = omega arith

life_few : (g : Dag) (c : ConfValues) (past : Past) (slot : ℕ) → IsMade g c past → life slot past ≤ length past
life_few g c [] slot m = from_none 0
life_few g c (NodeLost s l ∷ past) slot m = next_life (s == slot) l (life s past) (life slot past) (length past) m.0.1 (life_few g c past s m.1) (life_few g c past slot m.1)
life_few g c (_ ∷ past) slot m = step (life slot past) (length past) (life_few g c past slot m.1)

-- ---- containers

per_node_few : (c : ConfValues) → IsInRange c → c.per_node ≤ 64
per_node_few c r =
    let k : 1 * c.per_node ≤ c.nodes * c.per_node = mul-le 1 c.per_node c.nodes c.per_node r.some_nodes (le_refl c.per_node) in
    le_trans (subst (λ n. n ≤ c.nodes * c.per_node) (one-mul c.per_node) k) r.places

holds_few : (s : Stage) → holds_place s ≤ 1
holds_few (Waits p) = omega arith
holds_few (Runs p) = omega arith
holds_few Unknown = omega arith
holds_few InQueue = omega arith
holds_few Ended = omega arith

given_by : (b : Bool) (n : ℕ) → n ≤ 1 → (if b then 0 else n) ≤ 1
given_by true n h = omega arith
given_by false n h = h

given_few : (c : ConfValues) (past : Past) (a : AttemptId) → given_up c (holds_place (stage a past)) past ≤ 1
given_few c past a = given_by c.reuse (holds_place (stage a past)) (holds_few (stage a past))

some_more : (n k m : ℕ) → n ≤ 64 + 64 * k → m ≤ 64 → n + m ≤ 64 + 64 * suc k
some_more n k m h l = omega arith

at_most : (m : ℕ) → m ≤ 1 → m ≤ 64
at_most m h = omega arith

none_more : (n k : ℕ) → n ≤ 64 + 64 * k → n ≤ 64 + 64 * suc k
none_more n k h = omega arith

at_first : (n : ℕ) → n ≤ 64 → n ≤ 64 + 64 * 0
at_first n h = omega arith

containers_few : (c : ConfValues) (past : Past) → IsInRange c → HasNone is_stop past → next_container c past ≤ 64 + 64 * length past
containers_few c [] r h = at_first (places c) r.places
containers_few c (NodeLost slot l ∷ past) r h = some_more (next_container c past) (length past) c.per_node (containers_few c past r h.1) (per_node_few c r)
containers_few c (Succeeded a ∷ past) r h = some_more (next_container c past) (length past) _ (containers_few c past r h.1) (at_most _ (given_few c past a))
containers_few c (Failed a ∷ past) r h = some_more (next_container c past) (length past) _ (containers_few c past r h.1) (at_most _ (given_few c past a))
containers_few c (Killed a Preempt ∷ past) r h = some_more (next_container c past) (length past) _ (containers_few c past r h.1) (at_most _ (given_few c past a))
containers_few c (Stopped cause ∷ past) r h = cc
containers_few c (_ ∷ past) r h = none_more (next_container c past) (length past) (containers_few c past r h.1)

below_63 : (n k : ℕ) → n ≤ k → k < most_entries → n < 2 ^ 63
below_63 n k h l = omega arith

below_126 : (n k : ℕ) → n ≤ 64 + 64 * k → k < most_entries → n < 2 ^ 126
below_126 n k h l = omega arith

-- ---- of the master

attempts_below : (g : Dag) (c : ConfValues) (past : Past) (t : TaskId) → IsMade g c past → length past < most_entries → IfSome (task_in (master_view g c past) t) (λ s. s.queued < 2 ^ 63)
attempts_below g c past t m short = by (is_task g past t) refl where
  by : (b : Bool) → is_task g past t ≡ b → IfSome (task_in (master_view g c past) t) (λ s. s.queued < 2 ^ 63)
  by true is =
      let low = below_63 (attempts t past) (length past) (attempts_few t past) short in
      subst (λ o. IfSome o (λ s. s.queued < 2 ^ 63)) (sym (task_read g c past t m is)) low
  by false is = subst (λ o. IfSome o (λ s. s.queued < 2 ^ 63)) (sym (no_task_read g c past t is)) tt

lives_below : (g : Dag) (c : ConfValues) (past : Past) (slot : ℕ) → IsMade g c past → length past < most_entries → IfSome (slice_get (master_view g c past).pool.lives slot) (λ l. l < 2 ^ 63)
lives_below g c past slot m short = by (cases_lt slot c.nodes) where
  by : (slot < c.nodes) ⊎ (c.nodes ≤ slot) → IfSome (slice_get (master_view g c past).pool.lives slot) (λ l. l < 2 ^ 63)
  by (inl l) =
      let low = below_63 (life slot past) (length past) (life_few g c past slot m) short in
      subst (λ o. IfSome o (λ l. l < 2 ^ 63)) (sym (read_life c past slot l)) low
  by (inr l) = subst (λ o. IfSome o (λ l. l < 2 ^ 63)) (sym (get_above (λ s. life s past) c.nodes slot l)) tt

pub parts_attempts : (job : Job) (c : ConfValues) (ps : Parts) (past : Past) → Holds job c ps past → (t : TaskId) → IfSome (task_in ps.master t) (λ s. s.queued < 2 ^ 63)
parts_attempts job c ps past h t = subst (λ m. IfSome (task_in m t) (λ s. s.queued < 2 ^ 63)) (sym h.master) (attempts_below job.plan c past t h.well.made h.short)

pub parts_lives : (job : Job) (c : ConfValues) (ps : Parts) (past : Past) → Holds job c ps past → (slot : ℕ) → IfSome (slice_get ps.master.pool.lives slot) (λ life. life < 2 ^ 63)
parts_lives job c ps past h slot = subst (λ m. IfSome (slice_get m.pool.lives slot) (λ life. life < 2 ^ 63)) (sym h.master) (lives_below job.plan c past slot h.well.made h.short)

length_numbers : (f : ℕ → ℕ) (a n : ℕ) → length (map f (numbers_from a n)) ≡ n
length_numbers f a zero = refl
length_numbers f a (suc n) = ap suc (length_numbers f (suc a) n)

pub parts_nodes : (job : Job) (c : ConfValues) (ps : Parts) (past : Past) → Holds job c ps past → length ps.master.pool.lives ≡ ps.master.conf.nodes
parts_nodes job c ps past h = subst (λ m. length m.pool.lives ≡ m.conf.nodes) (sym h.master) (length_numbers (λ slot. life slot past) 0 c.nodes)

pub parts_containers : (job : Job) (c : ConfValues) (ps : Parts) (past : Past) → Holds job c ps past → ps.master.pool.next < 2 ^ 126
parts_containers job c ps past h =
    let low = below_126 (next_container c past) (length past) (containers_few c past h.goes.conf h.none_stopped) h.short in
    subst (λ m. m.pool.next < 2 ^ 126) (sym h.master) low

pub parts_steady : (job : Job) (c : ConfValues) (ps : Parts) (past : Past) → Holds job c ps past → IsSteady ps.master
parts_steady job c ps past h = subst IsSteady (sym h.master) (steady job.plan c past h.goes h.up)
