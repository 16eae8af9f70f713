-- The rule of queues holds in every made history.
use Rattle.std.specs.Prelude.{◌≡◌, ℕ, ◌+◌, ◌<◌, ◌≤◌, ◌&&◌, ◌||◌, not, nat_lt, ⊤, Bool, true, false, if◌then◌else◌, List, [], ◌∷◌, Option, Some, None, is_some, refl}
use Rattle.std.specs.List.{count_by}
use Rattle.std.proofs.Common.{cond, arith, ap, sym, ◌∙◌, subst}
use Rattle.std.proofs.lemmas.Bool.Decides.{nat_tests}
use Rattle.std.proofs.lemmas.List.Sums.{sum_by-cons}
use Rattle.tez_ids.specs.declared.TaskId.{TaskId}
use Rattle.tez_ids.specs.declared.AttemptId.{AttemptId}
use Rattle.tez_ids.specs.Same.{task, same_task}
use Rattle.tez_plan.specs.Dag.{Dag}
use Rattle.tez_conf.specs.declared.values.ConfValues.{ConfValues}
use Rattle.tez_events.specs.declared.Entry.{Entry}
use Rattle.tez_events.specs.declared.Entry.TheVariants.{Opened, Over, Kept, Queued, Succeeded, Rerun, Stopped}
use Rattle.tez_history.specs.Shape.{numbers_below, Feed, ByFile, ByVertex, ByPartitions, feed}
use Rattle.tez_history.specs.History.{Past, winner, freed, is_scheduled}
use Rattle.tez_history.specs.Derived.{task_count, scheduled_count, greatest_to_schedule}
use Rattle.tez_history.specs.Steps.{may_queue_by, is_next_task, is_first_without}
use Rattle.tez_history.specs.Rules.{is_there, queues_right, first_queue_right, had_winner, was_scheduled, is_kept, was_queued, queued_count, in_order}
use Rattle.tez_history.specs.Follows.{MayFollow, IsMade}
use Rattle.tez_laws.specs.Laws.{Obeys}
use Rattle.tez_laws.proofs.Same.{same_task-true}
use Rattle.tez_laws.proofs.StepLaw.{both, below}
use Rattle.tez_laws.proofs.Feeding.{from-below}
use Rattle.tez_laws.proofs.Listed.{in_below}
use Rattle.tez_laws.proofs.Sinks.{numbers_rise, first_in, had_before, none_pass}
use Rattle.tez_laws.proofs.Opening.{all_hold, was_is, task_there}
use Rattle.tez_laws.proofs.Obeying.{obeys}

-- a test that is stronger is met less often
met_less : (x y : Bool) (m n : ℕ) → (x ≡ true → y ≡ true) → m ≤ n → cond x 1 0 + m ≤ cond y 1 0 + n
met_less true true m n f h = omega arith
met_less true false m n f h = let k : false ≡ true = f refl in cc
met_less false true m n f h = omega arith
met_less false false m n f h = omega arith

count_less : (p q : ℕ → Bool) (xs : List ℕ) → ((x : ℕ) → p x ≡ true → q x ≡ true) → count_by p xs ≤ count_by q xs
count_less p q [] f = omega arith
count_less p q (x ∷ xs) f =
    let a = sum_by-cons (λ y. cond (p y) 1 0) x xs in
    let b = sum_by-cons (λ y. cond (q y) 1 0) x xs in
    let c = met_less (p x) (q x) (count_by p xs) (count_by q xs) (f x) (count_less p q xs f) in
    omega arith

-- while a master is open, the rule and the managers count the same tasks
queued_below : (g : Dag) (v : ℕ) (past : Past) → ((t : TaskId) → was_scheduled t past ≡ is_scheduled t past) → queued_count g v past ≤ scheduled_count g v past
queued_below g v past same =
    count_less (λ i. was_queued (task v i) past) (λ i. is_scheduled (task v i) past) (numbers_below (task_count g v past)) (λ i h. sym (same (task v i)) ∙ (both {x = was_scheduled (task v i) past} h).0)

-- ---- tasks of a vertex that is not fed one to one are queued in order

abbrev IsOrdered : Feed → Type 0
IsOrdered ByFile = ⊤
IsOrdered (ByVertex u) = ⊥
IsOrdered ByPartitions = ⊤

or_true : (x y : Bool) → y ≡ true → (x || y) ≡ true
or_true true y e = refl
or_true false y e = e

no_or : (x y : Bool) → (x || y) ≡ false → (x ≡ false) × (y ≡ false)
no_or true y h = cc
no_or false y h = (refl, h)

-- those before the next task were scheduled
next_before : (g : Dag) (c : ConfValues) (past : Past) (v j i : ℕ) → is_next_task g c past (task v j) ≡ true → i < j → is_scheduled (task v i) past ≡ true
next_before g c past v j i h low =
    let first = (both {x = is_first_without (λ k. is_scheduled (task v k) past) (numbers_below (task_count g v past)) j} h).0 in
    let inside : j < task_count g v past = from-below (task_count g v past) j (first_in (λ k. is_scheduled (task v k) past) (numbers_below (task_count g v past)) j first).0 in
    had_before (λ k. is_scheduled (task v k) past) (numbers_below (task_count g v past)) j i (numbers_rise 0 (task_count g v past)) first (in_below (task_count g v past) i (omega arith)) low

queue_before : (g : Dag) (c : ConfValues) (f : Feed) (past : Past) (v j i : ℕ) → IsOrdered f → may_queue_by g c f past (task v j) ≡ true → i < j → is_scheduled (task v i) past ≡ true
queue_before g c ByFile past v j i o h low = next_before g c past v j i h low
queue_before g c (ByVertex u) past v j i o h low = absurd o
queue_before g c ByPartitions past v j i o h low = next_before g c past v j i h low

-- where a task was queued and not kept, those before it were scheduled
pub scheduled_before : (g : Dag) (c : ConfValues) (past : Past) → IsMade g c past → (v j i : ℕ) → IsOrdered (feed g v) → is_scheduled (task v j) past ≡ true → is_kept (task v j) past ≡ false → i < j
    → is_scheduled (task v i) past ≡ true
scheduled_before g c [] m v j i o s k low = cc
scheduled_before g c (Opened _ ∷ past) m v j i o s k low = cc
scheduled_before g c (Over ∷ past) m v j i o s k low = cc
scheduled_before g c (Stopped _ ∷ past) m v j i o s k low = cc
scheduled_before g c (Kept a ∷ past) m v j i o s k low =
    let n = no_or (same_task a.task (task v j)) (is_kept (task v j) past) k in
    or_true (same_task a.task (task v i)) (is_scheduled (task v i) past)
    (scheduled_before g c past m.1 v j i o (subst (λ b. (b || is_scheduled (task v j) past) ≡ true) n.0 s) n.1 low)
scheduled_before g c (Queued a ∷ past) m v j i o s k low =
    or_true (same_task a.task (task v i)) (is_scheduled (task v i) past) (by (same_task a.task (task v j)) refl s (λ was. scheduled_before g c past m.1 v j i o was k low)) where
      queued : (b : Bool) → is_scheduled (task v j) past ≡ b → (b || may_queue_by g c (feed g v) past (task v j)) ≡ true → (is_scheduled (task v j) past ≡ true → is_scheduled (task v i) past ≡ true)
          → is_scheduled (task v i) past ≡ true
      queued true e h ih = ih e
      queued false e h ih = queue_before g c (feed g v) past v j i o h low

      by : (b : Bool) → same_task a.task (task v j) ≡ b → (b || is_scheduled (task v j) past) ≡ true → (is_scheduled (task v j) past ≡ true → is_scheduled (task v i) past ≡ true)
          → is_scheduled (task v i) past ≡ true
      by true e h ih =
          queued (is_scheduled (task v j) past) refl
          (subst (λ t. (is_scheduled t past || may_queue_by g c (feed g t.vertex.0) past t) ≡ true) (same_task-true a.task (task v j) e) m.0.4) ih
      by false e h ih = ih h
scheduled_before g c (_ ∷ past) m v j i o s k low = scheduled_before g c past m.1 v j i o s k low

-- so a task that was not scheduled yet comes in order
unqueued_after : (g : Dag) (c : ConfValues) (past : Past) → IsMade g c past → ((u : TaskId) → was_scheduled u past ≡ is_scheduled u past) → (t : TaskId) (i : ℕ) → IsOrdered (feed g t.vertex.0)
    → is_scheduled t past ≡ false → (nat_lt t.index i && was_queued (task t.vertex.0 i) past) ≡ false
unqueued_after g c past m same t i o free = by (nat_lt t.index i) (was_scheduled (task t.vertex.0 i) past) (is_kept (task t.vertex.0 i) past) refl refl refl where
  by : (x y z : Bool) → nat_lt t.index i ≡ x → was_scheduled (task t.vertex.0 i) past ≡ y → is_kept (task t.vertex.0 i) past ≡ z → (x && (y && not z)) ≡ false
  by true true false low s k = let was : is_scheduled t past ≡ true = scheduled_before g c past m t.vertex.0 i t.index o (sym (same (task t.vertex.0 i)) ∙ s) k (below t.index i low) in cc
  by true true true low s k = refl
  by true false z low s k = refl
  by false y z low s k = refl

in_order_too : (g : Dag) (c : ConfValues) (past : Past) (t : TaskId) → IsMade g c past → ((u : TaskId) → was_scheduled u past ≡ is_scheduled u past) → IsOrdered (feed g t.vertex.0) → is_scheduled t past ≡ false
    → in_order g past t ≡ true
in_order_too g c past t m same o free =
    ap not (none_pass (λ i. nat_lt t.index i && was_queued (task t.vertex.0 i) past) (numbers_below (task_count g t.vertex.0 past)) (λ i k. unqueued_after g c past m same t i o free))

-- ---- the rule

below_too : (m n k : ℕ) → m ≤ n → nat_lt n k ≡ true → nat_lt m k ≡ true
below_too m n k h e = grind (arith, nat_tests)

-- who has a winner had one
set_had : (same had : Bool) (a : AttemptId) (w : Option AttemptId) → (is_some w ≡ true → had ≡ true) → is_some (if same then Some a else w) ≡ true → (same || had) ≡ true
set_had true had a w ih h = refl
set_had false had a w ih h = ih h

unset_had : (had : Bool) (a : AttemptId) (w : Option AttemptId) → (is_some w ≡ true → had ≡ true) → is_some (freed a w) ≡ true → had ≡ true
unset_had had a None ih h = cc
unset_had had a (Some b) ih h = ih refl

winner_had : (past : Past) (t : TaskId) → is_some (winner t past) ≡ true → had_winner t past ≡ true
winner_had [] t h = cc
winner_had (Opened _ ∷ past) t h = cc
winner_had (Over ∷ past) t h = cc
winner_had (Stopped _ ∷ past) t h = cc
winner_had (Kept a ∷ past) t h = set_had (same_task a.task t) (had_winner t past) a (winner t past) (winner_had past t) h
winner_had (Succeeded a ∷ past) t h = set_had (same_task a.task t) (had_winner t past) a (winner t past) (winner_had past t) h
winner_had (Rerun a ∷ past) t h = unset_had (had_winner t past) a (winner t past) (winner_had past t) h
winner_had (_ ∷ past) t h = winner_had past t h

first_follows : (g : Dag) (c : ConfValues) (f : Feed) (past : Past) (t : TaskId) → (IsOrdered f → in_order g past t ≡ true) → ((u : TaskId) → was_scheduled u past ≡ is_scheduled u past)
    → may_queue_by g c f past t ≡ true → first_queue_right g c f past t ≡ true
first_follows g c ByFile past t ordered same h = ordered tt
first_follows g c (ByVertex u) past t ordered same h = winner_had past (task u t.index) h
first_follows g c ByPartitions past t ordered same h =
    all_hold (in_order g past t) (nat_lt (queued_count g t.vertex.0 past) (greatest_to_schedule g c t.vertex.0 past)) (ordered tt)
    (below_too (queued_count g t.vertex.0 past) (scheduled_count g t.vertex.0 past) (greatest_to_schedule g c t.vertex.0 past) (queued_below g t.vertex.0 past same) (both h).1)

or_follows : (r s x y : Bool) → r ≡ s → (s ≡ false → x ≡ true → y ≡ true) → (s || x) ≡ true → (r || y) ≡ true
or_follows true s x y e f h = refl
or_follows false true x y e f h = cc
or_follows false false x y e f h = f refl h

queues_follow : (g : Dag) (c : ConfValues) (past : Past) (e : Entry) → IsMade g c past → MayFollow g c past e → queues_right g c past e ≡ true
queues_follow g c past (Queued a) made m =
    let same = was_is g c past made m.5 in
    all_hold (is_there g past a.task) (was_scheduled a.task past || first_queue_right g c (feed g a.task.vertex.0) past a.task) (task_there g c past a.task made m.3)
    (or_follows (was_scheduled a.task past) (is_scheduled a.task past) (may_queue_by g c (feed g a.task.vertex.0) past a.task) (first_queue_right g c (feed g a.task.vertex.0) past a.task)
    (same a.task) (λ free. first_follows g c (feed g a.task.vertex.0) past a.task (λ o. in_order_too g c past a.task made same o free) same) m.4)
queues_follow g c past _ made m = refl

pub queues_obeyed : (g : Dag) (c : ConfValues) (past : Past) → IsMade g c past → Obeys queues_right g c past
queues_obeyed = obeys queues_right queues_follow
