-- Who waits after an entry: the attempts of the tasks in order, where the live one waits.
use Rattle.std.specs.Prelude.{◌≡◌, Bool, true, false, not, if◌then◌else◌, List, Option, Some, None, refl}
use Rattle.std.specs.List.{filter, filter_map, cons_option}
use Rattle.std.proofs.Common.{ap, sym, ◌∙◌, arith, subst}
use Rattle.std.proofs.lemmas.Option.{same_Some}
use Rattle.tez_ids.specs.declared.TaskId.{TaskId}
use Rattle.tez_ids.specs.declared.AttemptId.{AttemptId}
use Rattle.tez_ids.specs.Same.{same_task, same_attempt}
use Rattle.tez_events.specs.declared.Entry.TheVariants.{Queued, Placed, Ordered, Succeeded, Failed, Killed}
use Rattle.tez_plan.specs.Dag.{Dag}
use Rattle.tez_history.specs.History.{Past, Stage, Unknown, InQueue, Waits, Runs, Ended, stage, live, sent}
use Rattle.tez_history.specs.Derived.{tasks, waiting_attempts, is_waiting}
use Rattle.tez_laws.proofs.Same.{same_task-true, same_task-refl, same_attempt-true, same_attempt-refl}
use Rattle.tez_laws.proofs.Tasks.{live_task}
use Rattle.tez_router_view.proofs.Lists.{filter_map-same}
use Rattle.std.specs.Prelude.{[], ◌∷◌}

abbrev pub keep : (AttemptId → Bool) → Option AttemptId → Option AttemptId
keep p None = None
keep p (Some a) = if p a then Some a else None

kept_one : (b : Bool) (a : AttemptId) (xs ys : List AttemptId) → xs ≡ ys → (if b then a ∷ xs else xs) ≡ cons_option (if b then Some a else None) ys
kept_one true a xs ys e = ap (λ zs. a ∷ zs) e
kept_one false a xs ys e = e

pub fused : {X : Type 0} (p : AttemptId → Bool) (f : X → Option AttemptId) (xs : List X) → filter p (filter_map f xs) ≡ filter_map (λ x. keep p (f x)) xs
fused p f [] = refl
fused p f (x ∷ xs) = by (f x) (fused p f xs) where
  by : (o : Option AttemptId) → filter p (filter_map f xs) ≡ filter_map (λ y. keep p (f y)) xs → filter p (cons_option o (filter_map f xs)) ≡ cons_option (keep p o) (filter_map (λ y. keep p (f y)) xs)
  by None e = e
  by (Some a) e = kept_one (p a) a (filter p (filter_map f xs)) (filter_map (λ y. keep p (f y)) xs) e

-- the attempt of a task that waits
abbrev pub waiting_at : Past → TaskId → Option AttemptId
waiting_at past t = keep (λ a. is_waiting (stage a past)) (live t past)

pub waiting_by_task : (g : Dag) (past : Past) → waiting_attempts g past ≡ filter_map (waiting_at past) (tasks g past)
waiting_by_task g past = fused (λ a. is_waiting (stage a past)) (λ t. live t past) (tasks g past)

pub waiting_same : (g : Dag) (past later : Past) → tasks g later ≡ tasks g past → ((t : TaskId) → waiting_at later t ≡ waiting_at past t) → waiting_attempts g later ≡ waiting_attempts g past
waiting_same g past later same h =
    waiting_by_task g later ∙ ap (filter_map (waiting_at later)) same ∙ filter_map-same (waiting_at later) (waiting_at past) (tasks g past) (λ t _. h t) ∙ sym (waiting_by_task g past)

pub apart : (a b : AttemptId) (t : TaskId) → b.task ≡ t → same_task a.task t ≡ false → same_attempt a b ≡ false
apart a b t of other = grind (arith, same_attempt-true, same_task-refl)

-- ---- what an entry of one attempt makes of it

-- at the attempt's task it is what the entry says, elsewhere as before
abbrev pub Moves : Past → Past → AttemptId → Option AttemptId → Type 0
Moves past later a x = (t : TaskId) → waiting_at later t ≡ (if same_task a.task t then x else waiting_at past t)

moved : (past later : Past) (a : AttemptId) (l x : Option AttemptId) → ((t : TaskId) → live t later ≡ (if same_task a.task t then l else live t past))
    → ((b : AttemptId) → same_attempt a b ≡ false → stage b later ≡ stage b past) → keep (λ b. is_waiting (stage b later)) l ≡ x → Moves past later a x
moved past later a l x lives stages here t = ap (keep (λ b. is_waiting (stage b later))) (lives t) ∙ by (same_task a.task t) refl where
  other : (o : Option AttemptId) → live t past ≡ o → same_task a.task t ≡ false → keep (λ b. is_waiting (stage b later)) o ≡ keep (λ b. is_waiting (stage b past)) o
  other None e f = refl
  other (Some b) e f = ap (λ z. if is_waiting z then Some b else None) (stages b (apart a b t (live_task past t b e) f))

  by : (y : Bool) → same_task a.task t ≡ y → keep (λ b. is_waiting (stage b later)) (if y then l else live t past) ≡ (if y then x else waiting_at past t)
  by true e = here
  by false e = other (live t past) refl e

pub queued_moves : (past : Past) (a : AttemptId) → Moves past (Queued a ∷ past) a None
queued_moves past a =
    moved past (Queued a ∷ past) a (Some a) None (λ t. refl) (λ b f. ap (λ z. if z then InQueue else stage b past) f)
    (ap (λ z. if is_waiting (if z then InQueue else stage a past) then Some a else None) (same_attempt-refl a))

pub succeeded_moves : (past : Past) (a : AttemptId) → Moves past (Succeeded a ∷ past) a None
succeeded_moves past a = moved past (Succeeded a ∷ past) a None None (λ t. refl) (λ b f. ap (λ z. if z then Ended else stage b past) f) refl

pub failed_moves : (past : Past) (a : AttemptId) → Moves past (Failed a ∷ past) a None
failed_moves past a = moved past (Failed a ∷ past) a None None (λ t. refl) (λ b f. ap (λ z. if z then Ended else stage b past) f) refl

pub killed_moves : (past : Past) (a : AttemptId) (cause : _) → Moves past (Killed a cause ∷ past) a None
killed_moves past a cause = moved past (Killed a cause ∷ past) a None None (λ t. refl) (λ b f. ap (λ z. if z then Ended else stage b past) f) refl

live_is : (past : Past) (a : AttemptId) → live a.task past ≡ Some a → (t : TaskId) → live t past ≡ (if same_task a.task t then Some a else live t past)
live_is past a lives t = by (same_task a.task t) refl where
  by : (y : Bool) → same_task a.task t ≡ y → live t past ≡ (if y then Some a else live t past)
  by true e = subst (λ u. live u past ≡ Some a) (same_task-true a.task t e) lives
  by false e = refl

sent_idle : (s : Stage) → is_waiting (sent true s) ≡ false
sent_idle Unknown = refl
sent_idle InQueue = refl
sent_idle (Waits p) = refl
sent_idle (Runs p) = refl
sent_idle Ended = refl

pub ordered_moves : (past : Past) (a : AttemptId) → live a.task past ≡ Some a → Moves past (Ordered a ∷ past) a None
ordered_moves past a lives =
    moved past (Ordered a ∷ past) a (Some a) None (live_is past a lives) (λ b f. ap (λ z. sent z (stage b past)) f)
    (ap (λ z. if is_waiting (sent z (stage a past)) then Some a else None) (same_attempt-refl a) ∙ ap (λ z. if z then Some a else None) (sent_idle (stage a past)))

pub placed_moves : (past : Past) (a : AttemptId) (k : _) (p : _) → live a.task past ≡ Some a → Moves past (Placed a k p ∷ past) a (Some a)
placed_moves past a k p lives =
    moved past (Placed a k p ∷ past) a (Some a) (Some a) (live_is past a lives) (λ b f. ap (λ z. if z then Waits p else stage b past) f)
    (ap (λ z. if is_waiting (if z then Waits p else stage a past) then Some a else None) (same_attempt-refl a))

-- ---- an attempt that did not wait leaves all as they are

pub stays_waiting : (g : Dag) (past later : Past) (a : AttemptId) → tasks g later ≡ tasks g past → Moves past later a None → waiting_at past a.task ≡ None → waiting_attempts g later ≡ waiting_attempts g past
stays_waiting g past later a same moves none = waiting_same g past later same (λ t. moves t ∙ by t (same_task a.task t) refl) where
  by : (t : TaskId) (y : Bool) → same_task a.task t ≡ y → (if y then None else waiting_at past t) ≡ waiting_at past t
  by t true e = sym (subst (λ u. waiting_at past u ≡ None) (same_task-true a.task t e) none)
  by t false e = refl

pub none_live : (past : Past) (t : TaskId) → live t past ≡ None → waiting_at past t ≡ None
none_live past t none = ap (keep (λ b. is_waiting (stage b past))) none

pub idle_live : (past : Past) (a : AttemptId) → live a.task past ≡ Some a → is_waiting (stage a past) ≡ false → waiting_at past a.task ≡ None
idle_live past a lives idle = ap (keep (λ b. is_waiting (stage b past))) lives ∙ ap (λ z. if z then Some a else None) idle

-- ---- an attempt that waited is taken from among those that wait

if_some : (c : Bool) (x b : AttemptId) → (if c then Some x else None) ≡ Some b → x ≡ b
if_some true x b k = same_Some x b k
if_some false x b k = cc

pub waits_live : (past : Past) (t : TaskId) (b : AttemptId) → waiting_at past t ≡ Some b → (live t past ≡ Some b) × (is_waiting (stage b past) ≡ true)
waits_live past t b h = by (live t past) refl h where
  test : (c : Bool) (x : AttemptId) → is_waiting (stage x past) ≡ c → (if c then Some x else None) ≡ Some b → is_waiting (stage b past) ≡ true
  test true x e k = subst (λ y. is_waiting (stage y past) ≡ true) (same_Some x b k) e
  test false x e k = cc

  by : (o : Option AttemptId) → live t past ≡ o → keep (λ x. is_waiting (stage x past)) o ≡ Some b → (live t past ≡ Some b) × (is_waiting (stage b past) ≡ true)
  by None e k = cc
  by (Some x) e k = (e ∙ ap Some (if_some (is_waiting (stage x past)) x b k), test (is_waiting (stage x past)) x refl k)

pub waits_of : (past : Past) (t : TaskId) (b : AttemptId) → waiting_at past t ≡ Some b → b.task ≡ t
waits_of past t b h = live_task past t b (waits_live past t b h).0

taken_at : (past : Past) (a : AttemptId) → live a.task past ≡ Some a → (t : TaskId) → keep (λ b. not (same_attempt b a)) (waiting_at past t) ≡ (if same_task a.task t then None else waiting_at past t)
taken_at past a lives t = by (waiting_at past t) refl (same_task a.task t) refl where
  one : (b : AttemptId) → waiting_at past t ≡ Some b → same_task a.task t ≡ true → b ≡ a
  one b e f = same_Some b a (sym (waits_live past t b e).0 ∙ subst (λ u. live u past ≡ Some a) (same_task-true a.task t f) lives)

  distinct : (b : AttemptId) → waiting_at past t ≡ Some b → same_task a.task t ≡ false → same_attempt b a ≡ false
  distinct b e f = let of : b.task ≡ t = waits_of past t b e in grind (arith, same_attempt-true, same_task-refl)

  by : (o : Option AttemptId) → waiting_at past t ≡ o → (y : Bool) → same_task a.task t ≡ y → keep (λ b. not (same_attempt b a)) o ≡ (if y then None else o)
  by None e true f = refl
  by None e false f = refl
  by (Some b) e true f = ap (λ z. if not z then Some b else None) (ap (λ x. same_attempt x a) (one b e f) ∙ same_attempt-refl a)
  by (Some b) e false f = ap (λ z. if not z then Some b else None) (distinct b e f)

pub taken : (g : Dag) (past later : Past) (a : AttemptId) → tasks g later ≡ tasks g past → Moves past later a None → live a.task past ≡ Some a
    → filter (λ b. not (same_attempt b a)) (waiting_attempts g past) ≡ waiting_attempts g later
taken g past later a same moves lives =
    ap (filter (λ b. not (same_attempt b a))) (waiting_by_task g past) ∙ fused (λ b. not (same_attempt b a)) (waiting_at past) (tasks g past)
    ∙ filter_map-same (λ t. keep (λ b. not (same_attempt b a)) (waiting_at past t)) (waiting_at later) (tasks g past) (λ t _. taken_at past a lives t ∙ sym (moves t))
    ∙ sym (ap (filter_map (waiting_at later)) same) ∙ sym (waiting_by_task g later)
