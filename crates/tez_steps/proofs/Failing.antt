-- A failure, which may spend its task.
use Rattle.std.specs.Prelude.{◌≡◌, ◌≤◌, ℕ, suc, ◌+◌, ◌<◌, nat_le, Bool, true, false, if◌then◌else◌, List, [], ◌∷◌, length, Some, None, refl}
use Rattle.std.proofs.lemmas.Bool.Decides.{nat_tests}
use Rattle.std.proofs.Common.{ap, sym, ◌∙◌, subst, arith}
use Rattle.tez_ids.specs.declared.AttemptId.{AttemptId}
use Rattle.tez_ids.specs.declared.TaskId.{TaskId}
use Rattle.tez_ids.specs.Same.{same_task}
use Rattle.tez_ids.proofs.Sameness.{same_task-refl}
use Rattle.tez_conf.specs.declared.values.ConfValues.{ConfValues}
use Rattle.tez_events.specs.declared.Entry.{Entry}
use Rattle.tez_events.specs.declared.Entry.TheVariants.{Failed}
use Rattle.tez_events.specs.declared.CoreEvent.TheVariants.{Fail}
use Rattle.tez_meaning.specs.Jobs.{Job}
use Rattle.tez_history.specs.History.{Past, extend, failures}
use Rattle.tez_history.specs.Steps.{entries_of}
use Rattle.tez_master_model.specs.Enabled.{enabled_in}
use Rattle.tez_master_model.specs.Entries.{is_last_in}
use Rattle.tez_master_view.specs.View.{master_view}
use Rattle.tez_inflight.specs.Seats.{SeatsState}
use Rattle.tez_log.specs.Log.{LogState}
use Rattle.tez_master.specs.Master.{Took, spent_in}
use Rattle.tez_master.specs.declared.handled.Handled.{Handled}
use Rattle.tez_world_invariant.specs.Keeping.{most_entries}
use Rattle.tez_world_invariant.specs.Step.{later, stepped, left}
use Rattle.tez_world_invariant.proofs.PartsPlaces.{fail_leaves}
use Rattle.tez_world_invariant.proofs.PartsTaking.{spent_told}
use Rattle.tez_steps.specs.declared.running.Running.{Running}
use Rattle.tez_steps.specs.declared.verdict.Verdict.TheVariants.{AttemptsSpent}
use Rattle.tez_steps.specs.declared.verdict.Took.TheVariants.{Changed, Ended}
use Rattle.tez_steps.specs.Holds.{parts_of, Holds, with_right_notes}
use Rattle.tez_steps.specs.Parts.{SameParts, SameLog, IsAsked, IsFailed}
use Rattle.tez_steps.proofs.Taking.{IsSettled, changed, later_past, short_later}
use Rattle.tez_steps.proofs.Events.{on_master, with_parts, seats_same, shelves_same, left_same}
use Rattle.tez_steps.proofs.Spent.{last_told}

none_last : (b : Bool) (t : TaskId) → (if b then Some t else None) ≡ None → b ≡ false
none_last true t is = cc
none_last false t is = refl

some_last : (b : Bool) (t s : TaskId) → (if b then Some t else None) ≡ Some s → (b ≡ true) × (s ≡ t)
some_last true t s is = (refl, cc)
some_last false t s is = cc

-- ---- not the last one

fail_kept : (job : Job) (c : ConfValues) (old r mid : Running) (past : Past) (a : AttemptId) → SameParts old r → Holds job c (parts_of old) past → enabled_in (master_view job.plan c past) (Fail a) ≡ true
    → spent_in old.master.state (Fail a) ≡ None → length (later job c past (Fail a)) < most_entries → mid.seats ≡ left r.master.state r.seats a → mid.shelves ≡ r.shelves
    → Holds job c (stepped (parts_of old) (Fail a) mid.seats.seats mid.shelves) (later job c past (Fail a))
fail_kept job c old r mid past a same h on none short seats shelves =
    let taken = on_master job c (parts_of old) past (Fail a) h on in
    with_parts job c (parts_of old) (Fail a) (later job c past (Fail a)) (left old.master.state r.seats a).seats mid.seats.seats old.shelves mid.shelves
    (ap (λ (s : SeatsState). s.seats) seats ∙ left_same old r a same)
    (shelves ∙ shelves_same old r same)
    (fail_leaves job c (with_right_notes job (parts_of old)) past a r.seats h taken (spent_told job c (with_right_notes job (parts_of old)) past a h taken (none_last (is_last_in old.master.state a.task) a.task none)) short (seats_same old r same))

pub failed : (job : Job) (c : ConfValues) (a : AttemptId) (old r mid after : Running) (old_log log then_log : LogState) (h : Handled) → Holds job c (parts_of old) old_log.past → enabled_in (master_view job.plan c old_log.past) (Fail a) ≡ true
    → spent_in old.master.state (Fail a) ≡ None → SameParts old r → SameLog old_log log → IsAsked (Took (Fail a)) (entries_of job.plan c old_log.past (Fail a)) h r log → IsSettled r mid after log then_log h
    → mid.seats ≡ left r.master.state r.seats a → mid.shelves ≡ r.shelves → IsFailed job c a old old_log Changed after then_log
failed job c a old r mid after old_log log then_log h holds on none same same_log asked s seats shelves =
    changed job c (Fail a) old r mid after old_log log then_log h on same same_log asked s
    (fail_kept job c old r mid old_log.past a same holds on none (short_later job c (Fail a) r old_log log h same_log asked) seats shelves)

-- ---- the last one

le_of : (m n : ℕ) → nat_le m n ≡ true → m ≤ n
le_of m n h = grind (arith, nat_tests)

one_failure : (a : AttemptId) (past : Past) (b : Bool) → same_task a.task a.task ≡ b → b ≡ true → (if b then 1 else 0) + failures a.task past ≡ suc (failures a.task past)
one_failure a past true is on = omega arith
one_failure a past false is on = cc

counted : (a : AttemptId) (past : Past) → failures a.task (Failed a ∷ past) ≡ suc (failures a.task past)
counted a past = ap (λ b. (if b then 1 else 0) + failures a.task past) (same_task-refl a.task) ∙ one_failure a past true (same_task-refl a.task) refl

spent_past : (past : Past) (a : AttemptId) (b : Bool) (es : List Entry) → b ≡ true → extend past (Failed a ∷ (if b then [] else es)) ≡ Failed a ∷ past
spent_past past a true es on = refl
spent_past past a false es on = cc

pub spent : (job : Job) (c : ConfValues) (a : AttemptId) (t : TaskId) (old r mid after : Running) (old_log log then_log : LogState) (h : Handled) → Holds job c (parts_of old) old_log.past → enabled_in (master_view job.plan c old_log.past) (Fail a) ≡ true
    → spent_in old.master.state (Fail a) ≡ Some t → SameLog old_log log → IsAsked (Took (Fail a)) (entries_of job.plan c old_log.past (Fail a)) h r log → IsSettled r mid after log then_log h
    → IsFailed job c a old old_log (Ended (AttemptsSpent t)) after then_log
spent job c a t old r mid after old_log log then_log h holds on is same_log asked s =
    let last = some_last (is_last_in old.master.state a.task) a.task t is in
    let le = sym (last_told job c (with_right_notes job (parts_of old)) old_log.past a holds (on_master job c (parts_of old) old_log.past (Fail a) holds on)) ∙ last.0 in
    let past = later_past job c (Fail a) r mid after old_log log then_log h same_log asked s in
    let ended : then_log.past ≡ Failed a ∷ old_log.past = past ∙ spent_past old_log.past a (nat_le c.max_failed (suc (failures a.task old_log.past))) _ le in
    let most : c.max_failed ≤ suc (failures a.task old_log.past) = le_of c.max_failed (suc (failures a.task old_log.past)) le in
    let count : failures t then_log.past ≡ suc (failures a.task old_log.past) = ap (λ x. failures x then_log.past) last.1 ∙ ap (failures a.task) ended ∙ counted a old_log.past in
    (on, ap AttemptsSpent last.1, subst (λ n. c.max_failed ≤ n) (sym count) most, past)
