-- Where each new master finds the configurations as they stood last, the rule of configurations holds whole.
use Rattle.std.specs.Prelude.{◌≡◌, ℕ, suc, ◌≤◌, nat_le, ◌==◌, ◌&&◌, ⊤, Bool, true, false, not, if◌then◌else◌, List, [], ◌∷◌, ◌++◌, Option, Some, None, is_none, is_some, refl}
use Rattle.std.proofs.Common.{inl, inr, ap, ◌∙◌}
use Rattle.tez_ids.specs.declared.TaskId.{TaskId}
use Rattle.tez_ids.specs.declared.AttemptId.{AttemptId}
use Rattle.tez_lists.specs.Numbers.{In}
use Rattle.tez_plan.specs.Dag.{Dag, vertex}
use Rattle.tez_conf.specs.declared.values.ConfValues.{ConfValues}
use Rattle.tez_vman.specs.declared.seen.Config.{Config}
use Rattle.tez_vman.specs.Rules.{config as shape}
use Rattle.tez_events.specs.declared.Entry.{Entry}
use Rattle.tez_events.specs.declared.Entry.TheVariants.{Opened, Over, Stands, Carried, Kept, Configured, Failed, Stopped, Committing, Purged}
use Rattle.tez_events.specs.declared.CoreEvent.{CoreEvent}
use Rattle.tez_events.specs.declared.CoreEvent.TheVariants.{Open, Fail, Restart, Ask, Purge}
use Rattle.tez_history.specs.Shape.{is_vertex}
use Rattle.tez_history.specs.History.{Past, config, extend, stage, is_up, failures, recorded}
use Rattle.tez_history.specs.Derived.{is_task, is_processing, all_done}
use Rattle.tez_history.specs.Steps.{each_after, enabled, entries_of, requeue, done_entries, asked_entries}
use Rattle.tez_history.specs.Rules.{agrees, last_config, configs_right}
use Rattle.tez_history.specs.Runs.{Standing, Run, Verdict, Found, Unfinished, AllDone, Committed, Begun, Happening, Event, Report, Answer, Stop, Start, stands_if, kept_if, carried_entries, opened_at, standing_entries, committing_if, committed_entries, spent_in, opened_unless, committed_unless, opened_by, going_on, verdict_after, took, happens_to, happens, run, not_begun}
use Rattle.tez_laws.specs.Laws.{Obeys, configured_right, stands_again, FindsAgreeing, AllFindAgreeing}
use Rattle.tez_laws.proofs.Opening.{all_hold}
use Rattle.tez_laws.proofs.StepLaw.{both}
use Rattle.tez_laws.proofs.Obeying.{configs_obeyed}
use Rattle.tez_laws.proofs.RunLaw.{Passes, passes-append, obeys-extend, AllQuiet, quiet_event, quiet_made, quiet_asked, run_sound}

-- ---- entries that are no such configuration

abbrev AllNew : List Entry → Type 0
AllNew [] = ⊤
AllNew (Stands _ _ _ ∷ es) = ⊥
AllNew (_ ∷ es) = AllNew es

new_passes : (g : Dag) (c : ConfValues) (past : Past) (es : List Entry) → AllNew es → Passes stands_again g c past es
new_passes g c past [] h = tt
new_passes g c past (Stands _ _ _ ∷ es) h = absurd h
new_passes g c past (e ∷ es) h = (refl, new_passes g c (e ∷ past) es h)

quiet_new : (es : List Entry) → AllQuiet es → AllNew es
quiet_new [] h = tt
quiet_new (Opened _ ∷ es) h = absurd h
quiet_new (Over ∷ es) h = absurd h
quiet_new (Stands _ _ _ ∷ es) h = absurd h
quiet_new (Stopped _ ∷ es) h = absurd h
quiet_new (Purged ∷ es) h = absurd h
quiet_new (Failed _ ∷ es) h = absurd h
quiet_new (Carried _ _ ∷ es) h = absurd h
quiet_new (_ ∷ es) h = quiet_new es h

event_new : (g : Dag) (c : ConfValues) (past : Past) (e : CoreEvent) → AllNew (entries_of g c past e)
event_new g c past Restart = tt
event_new g c past Open = tt
event_new g c past (Ask v) = tt
event_new g c past Purge = tt
event_new g c past (Fail a) = by (nat_le c.max_failed (suc (failures a.task past))) where
  by : (b : Bool) → AllNew (Failed a ∷ (if b then [] else requeue past a.task))
  by true = tt
  by false = tt
event_new g c past e = quiet_new (entries_of g c past e) (quiet_event g c past e tt)

-- ---- what a new master finds

-- what is not configured since this master opened stands as before
abbrev StandsAs : Past → Past → Type 0
StandsAs before past = (v : ℕ) → config v past ≡ None → last_config v false past ≡ last_config v false before

stands_as_more : (before past : Past) (w n b : ℕ) → StandsAs before past → StandsAs before (Stands (vertex w) n b ∷ past)
stands_as_more before past w n b held v h = by (w == v) h where
  by : (same : Bool) → (if same then Some (shape n b) else config v past) ≡ None → (if same then Some (shape n b) else last_config v false past) ≡ last_config v false before
  by true k = cc
  by false k = held v k

stands_pass : (g : Dag) (c : ConfValues) (before past : Past) (xs : List (ℕ × Config)) → ((x : ℕ × Config) → In x xs → agrees x.1.tasks x.1.base (last_config x.0 false before) ≡ true) → StandsAs before past
    → Passes stands_again g c past (each_after (stands_if g) past xs)
stands_pass g c before past [] finds held = tt
stands_pass g c before past (x ∷ xs) finds held =
    by (config x.0 past) (is_vertex g x.0) refl (λ p k. stands_pass g c before p xs (λ y i. finds y (inr i)) k) where
      by : (o : Option Config) (b : Bool) → config x.0 past ≡ o → ((p : Past) → StandsAs before p → Passes stands_again g c p (each_after (stands_if g) p xs))
          → Passes stands_again g c past ((if is_none o && b then Stands (vertex x.0) x.1.tasks x.1.base ∷ [] else [])
          ++ each_after (stands_if g) (extend past (if is_none o && b then Stands (vertex x.0) x.1.tasks x.1.base ∷ [] else [])) xs)
      by None true e ih =
          (ap (agrees x.1.tasks x.1.base) (held x.0 e) ∙ finds x (inl refl), ih (Stands (vertex x.0) x.1.tasks x.1.base ∷ past) (stands_as_more before past x.0 x.1.tasks x.1.base held))
      by None false e ih = ih past held
      by (Some s) b e ih = ih past held

carried_new : (xs : List (TaskId × ℕ)) → AllNew (carried_entries xs)
carried_new [] = tt
carried_new (x ∷ xs) = carried_new xs

new-append : (xs ys : List Entry) → AllNew xs → AllNew ys → AllNew (xs ++ ys)
new-append [] ys h k = k
new-append (Stands _ _ _ ∷ xs) ys h k = absurd h
new-append (_ ∷ xs) ys h k = new-append xs ys h k

keep_new : (g : Dag) (past : Past) (a : AttemptId) → AllNew (kept_if g past a)
keep_new g past a = by (is_task g past a.task) where
  by : (b : Bool) → AllNew (if b then Kept a ∷ [] else [])
  by true = tt
  by false = tt

kept_new : (g : Dag) (past : Past) (xs : List AttemptId) → AllNew (each_after (kept_if g) past xs)
kept_new g past [] = tt
kept_new g past (a ∷ xs) = new-append (kept_if g past a) (each_after (kept_if g) (extend past (kept_if g past a)) xs) (keep_new g past a) (kept_new g (extend past (kept_if g past a)) xs)

standing_passes : (g : Dag) (c : ConfValues) (past : Past) (s : Standing) → FindsAgreeing past (Start (Unfinished s)) → Passes stands_again g c (opened_at s past) (standing_entries g (opened_at s past) s)
standing_passes g c past s finds =
    let p = opened_at s past in
    let stands = each_after (stands_if g) p s.configured in
    let carried = carried_entries s.failed in
    let kept = each_after (kept_if g) (extend (extend p stands) carried) s.kept in
    passes-append stands_again g c p stands (carried ++ kept) (stands_pass g c past p s.configured finds (λ v h. refl))
    (new_passes g c (extend p stands) (carried ++ kept) (new-append carried kept (carried_new s.failed) (kept_new g (extend (extend p stands) carried) s.kept)))

committing_new : (g : Dag) (past : Past) (n : ℕ) → AllNew (committing_if g past n)
committing_new g past n = by (all_done g past && nat_le (recorded past) n) where
  by : (b : Bool) → AllNew (if b then Committing n ∷ [] else [])
  by true = tt
  by false = tt

committed_passes : (g : Dag) (c : ConfValues) (past : Past) (s : Standing) (n : ℕ) → FindsAgreeing past (Start (Unfinished s)) → Passes stands_again g c (opened_at s past) (committed_entries g (opened_at s past) s n)
committed_passes g c past s n finds =
    let p = opened_at s past in
    let es = standing_entries g p s in
    passes-append stands_again g c p es (committing_if g (extend p es) n) (standing_passes g c past s finds)
    (new_passes g c (extend p es) (committing_if g (extend p es) n) (committing_new g (extend p es) n))

-- ---- runs

abbrev Again : Dag → ConfValues → Run → Type 0
Again g c r = Obeys stands_again g c r.past

again_after : (g : Dag) (c : ConfValues) (r : Run) (o : Option Verdict) (es : List Entry) → AllNew es → Again g c r → Again g c (record { past = extend r.past es; verdict = o })
again_after g c r o es new k = obeys-extend stands_again g c r.past es k (new_passes g c r.past es new)

again_took : (g : Dag) (c : ConfValues) (r : Run) (e : CoreEvent) → Again g c r → Again g c (took g c r e)
again_took g c r Restart k = (refl, k)
again_took g c r Open k = k
again_took g c r (Ask v) k = k
again_took g c r e k = again_after g c r (verdict_after c r.past e) (entries_of g c r.past e) (event_new g c r.past e) k

again_opened : (g : Dag) (c : ConfValues) (r : Run) (found : Found) → FindsAgreeing r.past (Start found) → Again g c r → Again g c (opened_by g c r found)
again_opened g c r Begun finds k = k
again_opened g c r AllDone finds k = (refl, k)
again_opened g c r (Committed x n) finds k = by (spent_in c x) where
  by : (o : Option (TaskId × ℕ)) → Again g c (committed_unless g r x n o)
  by (Some y) = k
  by None = obeys-extend stands_again g c (opened_at x r.past) (committed_entries g (opened_at x r.past) x n) (refl, k) (committed_passes g c r.past x n finds)
again_opened g c r (Unfinished x) finds k = by (spent_in c x) where
  by : (o : Option (TaskId × ℕ)) → Again g c (opened_unless g r x o)
  by (Some y) = k
  by None = obeys-extend stands_again g c (opened_at x r.past) (standing_entries g (opened_at x r.past) x) (refl, k) (standing_passes g c r.past x finds)

again_happens_to : (g : Dag) (c : ConfValues) (r : Run) (x : Happening) → FindsAgreeing r.past x → Again g c r → Again g c (happens_to g c r x)
again_happens_to g c r (Event e) finds k = by (enabled g c r.past e) where
  by : (b : Bool) → Again g c (if b then took g c r e else r)
  by true = again_took g c r e k
  by false = k
again_happens_to g c r (Report a made) finds k = by (is_up r.past && is_processing (stage a r.past)) where
  by : (b : Bool) → Again g c (if b then going_on r.past (done_entries a made) else r)
  by true = again_after g c r None (done_entries a made) (quiet_new (done_entries a made) (quiet_made a made)) k
  by false = k
again_happens_to g c r (Answer v there) finds k = by (enabled g c r.past (Ask v)) where
  by : (b : Bool) → Again g c (if b then going_on r.past (asked_entries v there) else r)
  by true = again_after g c r None (asked_entries v there) (quiet_new (asked_entries v there) (quiet_asked v there)) k
  by false = k
again_happens_to g c r (Stop cause) finds k = (refl, k)
again_happens_to g c r (Start found) finds k = by (not (is_up r.past)) where
  by : (b : Bool) → Again g c (if b then opened_by g c r found else r)
  by true = again_opened g c r found finds k
  by false = k

again_happens : (g : Dag) (c : ConfValues) (r : Run) (x : Happening) → FindsAgreeing r.past x → Again g c r → Again g c (happens g c r x)
again_happens g c r x finds k = by (is_some r.verdict) where
  by : (b : Bool) → Again g c (if b then r else happens_to g c r x)
  by true = k
  by false = again_happens_to g c r x finds k

again_run : (g : Dag) (c : ConfValues) (r : Run) (xs : List Happening) → AllFindAgreeing g c r xs → Again g c r → Again g c (run g c r xs)
again_run g c r [] finds k = k
again_run g c r (x ∷ xs) finds k = again_run g c (happens g c r x) xs finds.1 (again_happens g c r x finds.0 k)

-- ---- the whole rule

whole : (g : Dag) (c : ConfValues) (past : Past) (e : Entry) → configured_right g c past e ≡ true → stands_again g c past e ≡ true → configs_right g c past e ≡ true
whole g c past (Configured v n b) h k = h
whole g c past (Stands v n b) h k = let l = both {x = is_vertex g v.0} h in all_hold (is_vertex g v.0) _ l.0 (all_hold (is_none (config v.0 past)) _ l.1 k)
whole g c past _ h k = refl

both_obeyed : (g : Dag) (c : ConfValues) (past : Past) → Obeys configured_right g c past → Obeys stands_again g c past → Obeys configs_right g c past
both_obeyed g c [] h k = tt
both_obeyed g c (e ∷ past) h k = (whole g c past e h.0 k.0, both_obeyed g c past h.1 k.1)

pub run_configs : (g : Dag) (c : ConfValues) (xs : List Happening) → 1 ≤ c.max_failed → AllFindAgreeing g c not_begun xs → Obeys configs_right g c (run g c not_begun xs).past
run_configs g c xs some finds =
    both_obeyed g c (run g c not_begun xs).past (configs_obeyed g c (run g c not_begun xs).past (run_sound g c xs some).made) (again_run g c not_begun xs finds tt)
