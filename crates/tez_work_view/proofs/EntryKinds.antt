-- The entries of an event, each of some kind.
--     AllOf kind es        each of these entries is of the kind
--     HasWithdrawals kind  the entries of a withdrawal are of the kind
--     HasKills kind        so are the entries of a kill
use Rattle.std.specs.Prelude.{ℕ, ⊤, Bool, true, false, if◌then◌else◌, List, [], ◌∷◌, ◌++◌, map, Option, Some, None}
use Rattle.tez_ids.specs.declared.AttemptId.{AttemptId}
use Rattle.tez_ids.specs.declared.EdgeId.{EdgeId}
use Rattle.tez_plan.specs.Dag.{Dag, edge}
use Rattle.tez_conf.specs.declared.values.ConfValues.{ConfValues}
use Rattle.tez_events.specs.declared.KillCause.TheVariants.{Node}
use Rattle.tez_events.specs.declared.Entry.{Entry}
use Rattle.tez_events.specs.declared.Entry.TheVariants.{Queued, InputFailed, Made, Killed, Rerun}
use Rattle.tez_history.specs.History.{Past, extend, holder, winner}
use Rattle.tez_history.specs.Derived.{tasks, notices, places_on, is_on_node}
use Rattle.tez_history.specs.Steps.{each_after, requeue, withdrawal, killed_by_node, kill_at, withdrawn_if, withdraw_lost, node_kills, node_withdrawals}
use Rattle.tez_laws.proofs.StepLaw.{AllNotices, notices_are}

abbrev pub AllOf : (Entry → Type 0) → List Entry → Type 0
AllOf K [] = ⊤
AllOf K (e ∷ es) = K e × AllOf K es

pub record HasWithdrawals (K : Entry → Type 0) : Type 0 where
  pub rerun : (w : AttemptId) → K (Rerun w)
  pub told : (a : AttemptId) (e : EdgeId) (i : ℕ) (w : AttemptId) → K (InputFailed a e i w)
  pub queued : (a : AttemptId) → K (Queued a)

pub all-append : (K : Entry → Type 0) (xs ys : List Entry) → AllOf K xs → AllOf K ys → AllOf K (xs ++ ys)
all-append K [] ys h k = k
all-append K (x ∷ xs) ys h k = (h.0, all-append K xs ys h.1 k)

pub all-each : {X : Type 0} (K : Entry → Type 0) (part : Past → X → List Entry) → ((past : Past) (x : X) → AllOf K (part past x)) → (past : Past) (xs : List X) → AllOf K (each_after part past xs)
all-each K part h past [] = tt
all-each K part h past (x ∷ xs) = all-append K (part past x) (each_after part (extend past (part past x)) xs) (h past x) (all-each K part h (extend past (part past x)) xs)

all_notices : (K : Entry → Type 0) → HasWithdrawals K → (es : List Entry) → AllNotices es → AllOf K es
all_notices K is [] h = tt
all_notices K is (InputFailed a e i w ∷ es) h = (is.told a e i w, all_notices K is es h)
all_notices K is (_ ∷ es) h = absurd h

pub all_withdrawal : (K : Entry → Type 0) → HasWithdrawals K → (g : Dag) (past : Past) (w : AttemptId) → AllOf K (withdrawal g past w)
all_withdrawal K is g past w = (is.rerun w, all-append K (notices g past w) (requeue past w.task) (all_notices K is (notices g past w) (notices_are g past w)) (is.queued _, tt))

all_withdrawn : (K : Entry → Type 0) → HasWithdrawals K → (g : Dag) (c : ConfValues) (slot : ℕ) (before past : Past) (o : Option AttemptId) → AllOf K (withdrawn_if g c slot before past o)
all_withdrawn K is g c slot before past None = tt
all_withdrawn K is g c slot before past (Some w) = by (is_on_node g c before slot w) where
  by : (b : Bool) → AllOf K (if b then withdrawal g past w else [])
  by true = all_withdrawal K is g past w
  by false = tt

pub all_withdrawals : (K : Entry → Type 0) → HasWithdrawals K → (g : Dag) (c : ConfValues) (slot : ℕ) (before past : Past) → AllOf K (node_withdrawals g c slot before past)
all_withdrawals K is g c slot before past = all-each K (withdraw_lost g c slot before) (λ p t. all_withdrawn K is g c slot before p (winner t p)) past (tasks g before)

all_kill : (K : Entry → Type 0) → HasWithdrawals K → ((a : AttemptId) → K (Killed a Node)) → (past : Past) (o : Option AttemptId) → AllOf K (killed_by_node past o)
all_kill K is gone past None = tt
all_kill K is gone past (Some a) = (gone a, (is.queued _, tt))

pub all_kills : (K : Entry → Type 0) → HasWithdrawals K → ((a : AttemptId) → K (Killed a Node)) → (c : ConfValues) (past : Past) (slot : ℕ) → AllOf K (node_kills c past slot)
all_kills K is gone c past slot = all-each K kill_at (λ p x. all_kill K is gone p (holder x p)) past (places_on c slot)

pub all_made : (K : Entry → Type 0) → ((a : AttemptId) (e : EdgeId) (n : ℕ) → K (Made a e n)) → (a : AttemptId) (made : List (ℕ × ℕ)) → AllOf K (map (λ m. Made a (edge m.0) m.1) made)
all_made K is a [] = tt
all_made K is a (x ∷ xs) = (is a (edge x.0) x.1, all_made K is a xs)
