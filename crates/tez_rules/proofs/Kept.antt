-- What the rules go by is kept by each event of the master and each report.
--     AddsQuietly e      an entry that comes after the open, and tells no bytes
--     event_adds         the entries of an event are such
--     begins_ruled, opens_ruled, event_ruled, report_ruled      what is kept, from the first entry on
use Rattle.std.specs.Prelude.{◌≡◌, ℕ, suc, nat_le, ⊤, Bool, true, false, IsTrue, if◌then◌else◌, List, [], ◌∷◌, ◌++◌, map, Option, Some, None, refl}
use Rattle.tez_ids.specs.declared.Epoch.{Epoch}
use Rattle.tez_ids.specs.declared.AttemptId.{AttemptId}
use Rattle.tez_plan.specs.Dag.{Dag, edge}
use Rattle.tez_conf.specs.declared.values.ConfValues.{ConfValues}
use Rattle.tez_events.specs.declared.Entry.{Entry}
use Rattle.tez_events.specs.declared.Entry.TheVariants.{Opened, Fetched, ReadError, Made, Failed, NodeLost, Rerun}
use Rattle.tez_events.specs.declared.CoreEvent.{CoreEvent}
use Rattle.tez_events.specs.declared.CoreEvent.TheVariants.{Open, Configure, Queue, Place, Fetch, Send, Preempt, Fail, LoseNode, LoseOutput, Restart, Ready, CommitStart, Ask, Publish, Finish, Purge}
use Rattle.tez_history.specs.History.{Past, extend, stage, winner, life, failures, is_committing}
use Rattle.tez_history.specs.Derived.{is_processing, is_on_shelf}
use Rattle.tez_history.specs.Steps.{enabled, entries_of, requeue, withdrawal, node_kills, node_withdrawals, fetch_entries, winner_behind, output_lost_entries, done_entries}
use Rattle.tez_history.specs.Rules.{owed, withdrawals_right, withdraws_there}
use Rattle.tez_history.specs.Follows.{MayFollow, IsMade, AllMayFollow}
use Rattle.tez_laws.specs.Laws.{OwesRight}
use Rattle.tez_laws.proofs.StepLaw.{event_may, done_may}
use Rattle.tez_laws.proofs.Opening.{all_hold, winner_there}
use Rattle.tez_laws.proofs.Withdrawals.{event_owes, done_owes}
use Rattle.tez_laws.proofs.RunLaw.{Passes, obeys-extend}
use Rattle.tez_master_view.specs.Laws.{IsMasters}
use Rattle.tez_work_view.proofs.EntryKinds.{AllOf, HasWithdrawals, all-append, all_withdrawal, all_withdrawals, all_kills, all_made}
use Rattle.tez_rules.specs.OneMaster.{comes_in_one, has_begun, IsOfOne, FitsBytes, BytesFit, AllFit, IsRuled}

-- ---- the entries of an event

abbrev pub TellsNone : Entry → Type 0
TellsNone (Made a e n) = ⊥
TellsNone _ = ⊤

abbrev pub AddsQuietly : Entry → Type 0
AddsQuietly e = (comes_in_one true e ≡ true) × TellsNone e

quiet_withdrawals : HasWithdrawals AddsQuietly
quiet_withdrawals = record { rerun = λ w. (refl, tt); told = λ a e i w. (refl, tt); queued = λ a. (refl, tt) }

fetch_adds : (g : Dag) (c : ConfValues) (past : Past) (a : AttemptId) (e i : ℕ) (o : Option AttemptId) → AllOf AddsQuietly (fetch_entries g c past a e i o)
fetch_adds g c past a e i None = tt
fetch_adds g c past a e i (Some w) = by (is_on_shelf g c past w) where
  by : (b : Bool) → AllOf AddsQuietly (if b then Fetched a (edge e) i w ∷ [] else ReadError a (edge e) i w ∷ withdrawal g (ReadError a (edge e) i w ∷ past) w)
  by true = ((refl, tt), tt)
  by false = ((refl, tt), all_withdrawal AddsQuietly quiet_withdrawals g (ReadError a (edge e) i w ∷ past) w)

fail_adds : (past : Past) (a : AttemptId) (b : Bool) → AllOf AddsQuietly (Failed a ∷ (if b then [] else requeue past a.task))
fail_adds past a true = ((refl, tt), tt)
fail_adds past a false = ((refl, tt), ((refl, tt), tt))

loss_adds : (g : Dag) (c : ConfValues) (past : Past) (slot : ℕ) (b : Bool)
    → AllOf AddsQuietly (if b then NodeLost slot (suc (life slot past)) ∷ [] else
    (let lost = NodeLost slot (suc (life slot past)) in let kills = node_kills c (lost ∷ past) slot in
    lost ∷ (kills ++ node_withdrawals g c slot past (extend (lost ∷ past) kills))))
loss_adds g c past slot true = ((refl, tt), tt)
loss_adds g c past slot false =
    let lost = NodeLost slot (suc (life slot past)) in
    let kills = node_kills c (lost ∷ past) slot in (
      (refl, tt),
      all-append AddsQuietly kills (node_withdrawals g c slot past (extend (lost ∷ past) kills)) (all_kills AddsQuietly quiet_withdrawals (λ a. (refl, tt)) c (lost ∷ past) slot)
          (all_withdrawals AddsQuietly quiet_withdrawals g c slot past (extend (lost ∷ past) kills)),
    )

output_adds : (o : Option AttemptId) → AllOf AddsQuietly (output_lost_entries o)
output_adds None = tt
output_adds (Some w) = ((refl, tt), tt)

pub event_adds : (g : Dag) (c : ConfValues) (past : Past) (e : CoreEvent) → IsMasters e → AllOf AddsQuietly (entries_of g c past e)
event_adds g c past Open h = absurd h
event_adds g c past (Configure v) h = ((refl, tt), tt)
event_adds g c past (Queue t) h = ((refl, tt), tt)
event_adds g c past (Place a p) h = ((refl, tt), tt)
event_adds g c past (Fetch a e i) h = fetch_adds g c past a e.0 i (winner_behind g past a e.0 i)
event_adds g c past (Send a) h = ((refl, tt), tt)
event_adds g c past (Preempt a) h = ((refl, tt), ((refl, tt), tt))
event_adds g c past (Fail a) h = fail_adds past a (nat_le c.max_failed (suc (failures a.task past)))
event_adds g c past (LoseNode slot) h = loss_adds g c past slot (is_committing past)
event_adds g c past (LoseOutput t) h = output_adds (winner t past)
event_adds g c past Restart h = absurd h
event_adds g c past (Ready v) h = ((refl, tt), tt)
event_adds g c past CommitStart h = ((refl, tt), tt)
event_adds g c past (Ask v) h = absurd h
event_adds g c past (Publish v) h = ((refl, tt), tt)
event_adds g c past Finish h = ((refl, tt), tt)
event_adds g c past Purge h = ((refl, tt), tt)

-- ---- one master

abbrev pub ComesLater : Entry → Type 0
ComesLater e = comes_in_one true e ≡ true

comes_anywhere : (begun : Bool) (e : Entry) → ComesLater e → comes_in_one begun e ≡ true
comes_anywhere begun (Opened n) h = cc
comes_anywhere begun _ h = h

one_extend : (past : Past) (es : List Entry) → IsOfOne past → AllOf ComesLater es → IsOfOne (extend past es)
one_extend past [] one h = one
one_extend past (e ∷ es) one h = one_extend (e ∷ past) es (comes_anywhere (has_begun past) e h.0, one) h.1

-- ---- bytes

quiet_fits : (e : Entry) → TellsNone e → FitsBytes e
quiet_fits (Made a e n) h = absurd h
quiet_fits _ h = tt

bytes_extend : (past : Past) (es : List Entry) → BytesFit past → AllOf FitsBytes es → BytesFit (extend past es)
bytes_extend past [] fit h = fit
bytes_extend past (e ∷ es) fit h = bytes_extend (e ∷ past) es (h.0, fit) h.1

report_fits : (a : AttemptId) (made : List (ℕ × ℕ)) → AllFit made → AllOf FitsBytes (map (λ m. Made a (edge m.0) m.1) made)
report_fits a [] h = tt
report_fits a (x ∷ xs) h = (h.0, report_fits a xs h.1)

all_weaker : (K L : Entry → Type 0) → ((e : Entry) → K e → L e) → (es : List Entry) → AllOf K es → AllOf L es
all_weaker K L f [] h = tt
all_weaker K L f (e ∷ es) h = (f e h.0, all_weaker K L f es h.1)

-- ---- withdrawals

withdraws_follow : (g : Dag) (c : ConfValues) (past : Past) (e : Entry) → IsMade g c past → MayFollow g c past e → withdraws_there g past e ≡ true
withdraws_follow g c past (Rerun w) made m = winner_there g c past w.task w made m
withdraws_follow g c past _ made m = refl

owes_passes : (g : Dag) (c : ConfValues) (past : Past) (es : List Entry) → IsMade g c past → AllMayFollow g c past es → OwesRight g past es → Passes withdrawals_right g c past es
owes_passes g c past [] made may h = tt
owes_passes g c past (e ∷ es) made may h = (all_hold _ _ h.0 (withdraws_follow g c past e made may.0), owes_passes g c (e ∷ past) es (may.0, made) may.1 h.1)

-- ---- what is kept

ruled_extend : (g : Dag) (c : ConfValues) (past : Past) (es : List Entry) → IsMade g c past → AllMayFollow g c past es → OwesRight g past es → AllOf ComesLater es → AllOf FitsBytes es → IsRuled g c past
    → IsRuled g c (extend past es)
ruled_extend g c past es made may owes comes fits ruled =
    record {
      one = one_extend past es ruled.one comes;
      withdrawals = obeys-extend withdrawals_right g c past es ruled.withdrawals (owes_passes g c past es made may owes);
      bytes = bytes_extend past es ruled.bytes fits;
    }

pub begins_ruled : (g : Dag) (c : ConfValues) → IsRuled g c []
begins_ruled g c = record { one = tt; withdrawals = tt; bytes = tt }

pub opens_ruled : (g : Dag) (c : ConfValues) (e : Epoch) → IsRuled g c (Opened e ∷ [])
opens_ruled g c e = record { one = (refl, tt); withdrawals = (refl, tt); bytes = (tt, tt) }

pub event_ruled : (g : Dag) (c : ConfValues) (past : Past) (e : CoreEvent) → IsMade g c past → owed g past ≡ [] → IsRuled g c past → enabled g c past e ≡ true → IsMasters e
    → IsRuled g c (extend past (entries_of g c past e))
event_ruled g c past e made settled ruled on masters =
    let es = entries_of g c past e in
    let adds = event_adds g c past e masters in
    ruled_extend g c past es made (event_may g c past e made on) (event_owes g c past e settled) (all_weaker AddsQuietly ComesLater (λ e h. h.0) es adds)
    (all_weaker AddsQuietly FitsBytes (λ e h. quiet_fits e h.1) es adds) ruled

pub report_ruled : (g : Dag) (c : ConfValues) (past : Past) (a : AttemptId) (made : List (ℕ × ℕ)) → IsMade g c past → owed g past ≡ [] → IsRuled g c past → IsTrue (is_processing (stage a past)) → AllFit made
    → IsRuled g c (extend past (done_entries a made))
report_ruled g c past a made is settled ruled on fit =
    ruled_extend g c past (done_entries a made) is (done_may g c past a made on) (done_owes g past a made settled) (refl, all_made ComesLater (λ b e n. refl) a made) (tt, report_fits a made fit) ruled
