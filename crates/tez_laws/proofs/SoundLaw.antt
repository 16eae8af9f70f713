-- What a master goes by holds between two steps of every run, and each step that spends no task keeps it.
use Rattle.std.specs.Prelude.{refl, ◌≡◌, ℕ, suc, ◌≤◌, nat_le, Bool, true, false, IsTrue, if◌then◌else◌, List, [], ◌∷◌, None}
use Rattle.tez_ids.specs.declared.AttemptId.{AttemptId}
use Rattle.tez_plan.specs.Dag.{Dag}
use Rattle.tez_conf.specs.declared.values.ConfValues.{ConfValues}
use Rattle.tez_events.specs.declared.StopCause.{StopCause}
use Rattle.tez_events.specs.declared.Entry.{Entry}
use Rattle.tez_events.specs.declared.Entry.TheVariants.{Opened, Over, Stands, Carried, Failed, Stopped, Purged}
use Rattle.tez_events.specs.declared.CoreEvent.{CoreEvent}
use Rattle.tez_events.specs.declared.CoreEvent.TheVariants.{Open, Fail, Restart, Ask, Purge}
use Rattle.tez_history.specs.History.{Past, epoch, extend, stage, failures}
use Rattle.tez_history.specs.Derived.{is_processing}
use Rattle.tez_history.specs.Steps.{enabled, entries_of, requeue, done_entries, asked_entries}
use Rattle.tez_history.specs.Rules.{owed, is_at_start}
use Rattle.tez_history.specs.Follows.{IsMade}
use Rattle.tez_history.specs.Runs.{Standing, Happening, opened_at, standing_entries, committed_entries, spent_in, run, not_begun}
use Rattle.tez_laws.specs.Laws.{GoesOn, SpendsNot, FewFailures, Sound, AnswersKeep, IsSoundTakenUp}
use Rattle.tez_laws.proofs.StepLaw.{made-extend, event_may, done_may, asked_may}
use Rattle.tez_laws.proofs.Withdrawals.{event_owes, done_owes, asked_owes}
use Rattle.tez_laws.proofs.Going.{event_going, done_going, asked_going}
use Rattle.tez_laws.proofs.Feeding.{inputs_inside}
use Rattle.tez_laws.proofs.Listed.{tasks_order, live_listed, winner_listed}
use Rattle.tez_laws.proofs.RunLaw.{AllQuiet, quiet_event, quiet_made, quiet_asked, owes-settled, few_failed, not_spent, standing_opening, committed_opening, committed_may, opening_may, opening_owes, opening_goes, opening_stays, opening_carried, none_failed, above_both, run_sound}

sound_of : (g : Dag) (c : ConfValues) (past : Past) → IsMade g c past → owed g past ≡ [] → GoesOn past → FewFailures c past → Sound g c past
sound_of g c past made settled going few =
    record {
      made = made;
      settled = settled;
      goes_on = going;
      few = few;
      live_listed = live_listed g c past made;
      winner_listed = winner_listed g c past made;
      in_order = tasks_order g past;
      inside = inputs_inside g past;
    }

pub run_between : (g : Dag) (c : ConfValues) (hs : List Happening) → 1 ≤ c.max_failed → (run g c not_begun hs).verdict ≡ None → Sound g c (run g c not_begun hs).past
run_between g c hs some v =
    let s = run_sound g c hs some in
    sound_of g c (run g c not_begun hs).past s.made s.settled (s.goes_on v) (s.few v)

-- ---- steps

few_quiet : (c : ConfValues) (past : Past) (es : List Entry) → FewFailures c past → AllQuiet es → FewFailures c (extend past es)
few_quiet c past [] few h = few
few_quiet c past (Opened _ ∷ es) few h = absurd h
few_quiet c past (Over ∷ es) few h = absurd h
few_quiet c past (Stands _ _ _ ∷ es) few h = absurd h
few_quiet c past (Stopped _ ∷ es) few h = absurd h
few_quiet c past (Purged ∷ es) few h = absurd h
few_quiet c past (Failed _ ∷ es) few h = absurd h
few_quiet c past (Carried _ _ ∷ es) few h = absurd h
few_quiet c past (e ∷ es) few h = few_quiet c (e ∷ past) es few h

few_event : (g : Dag) (c : ConfValues) (past : Past) (e : CoreEvent) → SpendsNot c past e → FewFailures c past → FewFailures c (extend past (entries_of g c past e))
few_event g c past Restart n few = few
few_event g c past Open n few = few
few_event g c past (Ask v) n few = few
few_event g c past Purge n few = few
few_event g c past (Fail a) n few = by (nat_le c.max_failed (suc (failures a.task past))) where
  by : (b : Bool) → FewFailures c (extend past (Failed a ∷ (if b then [] else requeue past a.task)))
  by true = few_failed c past a few (not_spent (suc (failures a.task past)) c.max_failed n)
  by false = few_failed c past a few (not_spent (suc (failures a.task past)) c.max_failed n)
few_event g c past e n few = few_quiet c past (entries_of g c past e) few (quiet_event g c past e tt)

pub event_sound : (g : Dag) (c : ConfValues) (past : Past) (e : CoreEvent) → Sound g c past → enabled g c past e ≡ true → SpendsNot c past e → Sound g c (extend past (entries_of g c past e))
event_sound g c past e s h n =
    let es = entries_of g c past e in
    sound_of g c (extend past es) (made-extend g c past es s.made (event_may g c past e s.made h)) (owes-settled g past es (event_owes g c past e s.settled)) (event_going g c past e n s.goes_on)
    (few_event g c past e n s.few)

pub report_sound : (g : Dag) (c : ConfValues) (past : Past) (a : AttemptId) (made : List (ℕ × ℕ)) → Sound g c past → IsTrue (is_processing (stage a past)) → Sound g c (extend past (done_entries a made))
report_sound g c past a made s h =
    let es = done_entries a made in
    sound_of g c (extend past es) (made-extend g c past es s.made (done_may g c past a made h)) (owes-settled g past es (done_owes g past a made s.settled)) (done_going past a made s.goes_on)
    (few_quiet c past es s.few (quiet_made a made))

pub answer_sound : (g : Dag) (c : ConfValues) → AnswersKeep g c (Sound g c)
answer_sound g c past v there s h =
    let es = asked_entries v there in
    sound_of g c (extend past es) (made-extend g c past es s.made (asked_may g c past v there h)) (owes-settled g past es (asked_owes g past s.settled v there)) (asked_going past v there s.goes_on)
    (few_quiet c past es s.few (quiet_asked v there))

-- ---- stops and new masters

pub stop_sound : (g : Dag) (c : ConfValues) (past : Past) (cause : StopCause) → Sound g c past → Sound g c (Stopped cause ∷ past)
stop_sound g c past cause s = sound_of g c (Stopped cause ∷ past) (tt, s.made) refl (λ t l w. refl) s.few

pub over_sound : (g : Dag) (c : ConfValues) (past : Past) → 1 ≤ c.max_failed → Sound g c past → IsTrue (is_at_start past) → Sound g c (Over ∷ past)
over_sound g c past some s at = sound_of g c (Over ∷ past) (at, s.made) refl (λ t l w. refl) (λ t. none_failed c some)

pub open_sound : (g : Dag) (c : ConfValues) (past : Past) (x : Standing) → 1 ≤ c.max_failed → Sound g c past → IsTrue (is_at_start past) → spent_in c x ≡ None
    → Sound g c (extend (opened_at x past) (standing_entries g (opened_at x past) x))
open_sound g c past x some s at unspent =
    let p = opened_at x past in
    let es = standing_entries g p x in
    let opening = standing_opening g c p x unspent in
    sound_of g c (extend p es) (made-extend g c p es ((at, above_both x.epoch (epoch past)), s.made) (opening_may g c p x (λ t. refl) refl (opening_carried c x.failed unspent)))
    (owes-settled g p es (opening_owes g c p es refl opening)) (opening_goes c p es (λ t l w. refl) opening) (opening_stays g c p es refl (λ t. none_failed c some) opening).few

pub taken_sound : (g : Dag) (c : ConfValues) (past : Past) (x : Standing) (n : ℕ) → IsSoundTakenUp g c past x n
taken_sound g c past x n some s at unspent =
    let p = opened_at x past in
    let es = committed_entries g p x n in
    let opening = committed_opening g c p x n unspent in
    sound_of g c (extend p es) (made-extend g c p es ((at, above_both x.epoch (epoch past)), s.made) (committed_may g c p x n (λ t. refl) refl refl (opening_carried c x.failed unspent)))
    (owes-settled g p es (opening_owes g c p es refl opening)) (opening_goes c p es (λ t l w. refl) opening) (opening_stays g c p es refl (λ t. none_failed c some) opening).few
