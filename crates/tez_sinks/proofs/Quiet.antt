-- Entries that bring no winner, no sink that is readied, no publication and no purge leave the store right, and begin no commit.
--     IsQuiet past later        what such entries keep
--     quiet_store, quiet_good   so the store stays right, and winners stay good
--     quiet_event, quiet_report     the entries of events of no sink but the start of the commit, and the bytes of a report
--     quiet_step        an event of no sink
--     quiet_begins_none     the commit had begun before
use Rattle.std.specs.Prelude.{◌≡◌, ⊤, ℕ, suc, ◌==◌, Bool, true, false, nat_le, if◌then◌else◌, List, [], ◌∷◌, ◌++◌, map, Option, Some, None, refl}
use Rattle.std.specs.List.{list_all}
use Rattle.std.proofs.Common.{ap, sym, ◌∙◌, subst}
use Rattle.std.proofs.lemmas.Bool.{or_parts}
use Rattle.tez_ids.specs.declared.TaskId.{TaskId}
use Rattle.tez_ids.specs.declared.AttemptId.{AttemptId}
use Rattle.tez_ids.specs.Same.{same_attempt}
use Rattle.tez_ids.proofs.Sameness.{same_attempt-true}
use Rattle.tez_lists.specs.Numbers.{In}
use Rattle.tez_record.specs.Bag.{text}
use Rattle.tez_ports.specs.Content.{Named, Store}
use Rattle.tez_plan.specs.Dag.{Dag, edge}
use Rattle.tez_conf.specs.declared.values.ConfValues.{ConfValues}
use Rattle.tez_meaning.specs.Jobs.{Job}
use Rattle.tez_events.specs.declared.Entry.{Entry}
use Rattle.tez_events.specs.declared.Entry.TheVariants.{Opened, Over, Kept, Fetched, ReadError, InputFailed, Ordered, Succeeded, Made, Failed, NodeLost, Rerun, Stopped, Committing, Ready as Readied, Settled, Published, CommitStarted, Purged}
use Rattle.tez_events.specs.declared.CoreEvent.{CoreEvent}
use Rattle.tez_events.specs.declared.CoreEvent.TheVariants.{Open, Configure, Queue, Place, Fetch, Send, Preempt, Fail, LoseNode, LoseOutput, Restart, Ready, CommitStart, Ask, Publish, Finish, Purge}
use Rattle.tez_history.specs.History.{Past, extend, stage, holder, winner, freed, life, failures, is_committing, is_readied}
use Rattle.tez_history.specs.Derived.{tasks, notices, places_on, is_on_node, is_on_shelf}
use Rattle.tez_history.specs.Steps.{enabled, entries_of, each_after, requeue, withdrawal, killed_by_node, kill_at, withdrawn_if, withdraw_lost, node_kills, node_withdrawals, fetch_entries, winner_behind, output_lost_entries}
use Rattle.tez_history.specs.Rules.{is_published}
use Rattle.tez_history.specs.Follows.{MayFollow, IsMade, AllMayFollow, IsAlive}
use Rattle.tez_laws.proofs.OneLive.{one_live, waiting_alive}
use Rattle.tez_laws.proofs.Tasks.{no_both, winner_task}
use Rattle.tez_laws.proofs.StepLaw.{AllNotices, notices_are, both, event_may}
use Rattle.tez_progress.proofs.Members.{true_and}
use Rattle.tez_contents.specs.Contents.{made, met_bad, worked, copied, reads_bad}
use Rattle.tez_sinks.specs.Sinks.{published_view, is_purged, StoreIsRight, WinnersAreGood, IsOfNoSink}

abbrev pub is_quiet : Entry → Bool
is_quiet (Opened _) = false
is_quiet Over = false
is_quiet (Kept _) = false
is_quiet (Succeeded _) = false
is_quiet (Stopped _) = false
is_quiet (Committing _) = false
is_quiet (Readied _) = false
is_quiet (Published _) = false
is_quiet CommitStarted = false
is_quiet Purged = false
is_quiet _ = true

pub record IsQuiet (job : Job) (past later : Past) : Type 0 where
  pub winners : (t : TaskId) (w : AttemptId) → winner t later ≡ Some w → winner t past ≡ Some w
  pub makes : (t : TaskId) (w : AttemptId) → winner t later ≡ Some w → made job w later ≡ made job w past
  pub bad : (t : TaskId) (w : AttemptId) → winner t later ≡ Some w → met_bad job w later ≡ met_bad job w past
  pub readied : (v : ℕ) → is_readied v later ≡ true → is_readied v past ≡ true
  pub published : (v : ℕ) → is_published v later ≡ false → is_published v past ≡ false
  pub view : published_view job later ≡ published_view job past
  pub purged : is_purged later ≡ is_purged past

-- ---- who is alive is no winner

pub alive_loses : (g : Dag) (c : ConfValues) (past : Past) (a : AttemptId) (t : TaskId) → IsMade g c past → IsAlive (stage a past) → winner t past ≡ Some a → ⊥
alive_loses g c past a t m alive wins =
    let none : winner a.task past ≡ None = no_both g c past m a.task a (one_live g c past m a alive) in
    let same : a.task ≡ t = winner_task past t a wins in
    let some : winner a.task past ≡ Some a = ap (λ x. winner x past) same ∙ wins in
    cc

pub freed_some : (a w : AttemptId) (o : Option AttemptId) → freed a o ≡ Some w → o ≡ Some w
freed_some a w None h = cc
freed_some a w (Some b) h = by (same_attempt a b) h where
  by : (x : Bool) → (if x then None else Some b) ≡ Some w → Some b ≡ Some w
  by true k = cc
  by false k = k

-- ---- one entry

quiet_one : (job : Job) (c : ConfValues) (past : Past) (e : Entry) → IsMade job.plan c past → MayFollow job.plan c past e → is_quiet e ≡ true → IsQuiet job past (e ∷ past)
unfolding made
quiet_one job c past (Opened _) m f h = cc
quiet_one job c past Over m f h = cc
quiet_one job c past (Kept _) m f h = cc
quiet_one job c past (Succeeded _) m f h = cc
quiet_one job c past (Stopped _) m f h = cc
quiet_one job c past (Committing _) m f h = cc
quiet_one job c past (Readied _) m f h = cc
quiet_one job c past (Published _) m f h = cc
quiet_one job c past Purged m f h = cc
quiet_one job c past CommitStarted m f h = cc
quiet_one job c past (Settled u) m f h = record {
  winners = λ t w k. k;
  makes = λ t w k. refl;
  bad = λ t w k. refl;
  readied = λ v k. k;
  published = λ v k. (or_parts (u.0 == v) (is_published v past) k).1;
  view = refl;
  purged = refl;
}
quiet_one job c past (Rerun b) m f h = record {
  winners = λ t w k. freed_some b w (winner t past) k;
  makes = λ t w k. refl;
  bad = λ t w k. refl;
  readied = λ v k. cc;
  published = λ v k. k;
  view = refl;
  purged = refl;
}
quiet_one job c past (Ordered b) m f h =
    let other = λ (t : TaskId) (w : AttemptId) (k : winner t past ≡ Some w) (e : same_attempt b w ≡ true).
    let same : b ≡ w = same_attempt-true b w e in
    alive_loses job.plan c past b t m (waiting_alive (stage b past) f.0) (subst (λ x. winner t past ≡ Some x) (sym same) k) in
    record {
      winners = λ t w k. k;
      makes = λ t w k. made_by w (same_attempt b w) (other t w k) refl;
      bad = λ t w k. bad_by w (same_attempt b w) (other t w k) refl;
      readied = λ v k. k;
      published = λ v k. k;
      view = refl;
      purged = refl;
    } where
      made_by : (w : AttemptId) (x : Bool) → (same_attempt b w ≡ true → ⊥) → same_attempt b w ≡ x → (if x then worked job past w.task (λ e i. copied job w e i past) else made job w past) ≡ made job w past
      made_by w true never e = absurd (never e)
      made_by w false never e = refl

      bad_by : (w : AttemptId) (x : Bool) → (same_attempt b w ≡ true → ⊥) → same_attempt b w ≡ x → (if x then reads_bad job past w.task (λ e i. copied job w e i past) else met_bad job w past) ≡ met_bad job w past
      bad_by w true never e = absurd (never e)
      bad_by w false never e = refl
quiet_one job c past _ m f h = record { winners = λ t w k. k; makes = λ t w k. refl; bad = λ t w k. refl; readied = λ v k. k; published = λ v k. k; view = refl; purged = refl }

-- ---- one after another

abbrev pub all_quiet : List Entry → Bool
all_quiet es = list_all is_quiet es

pub quiet_all : (job : Job) (c : ConfValues) (past : Past) (es : List Entry) → IsMade job.plan c past → AllMayFollow job.plan c past es → all_quiet es ≡ true → IsQuiet job past (extend past es)
quiet_all job c past [] m f h = record { winners = λ t w k. k; makes = λ t w k. refl; bad = λ t w k. refl; readied = λ v k. k; published = λ v k. k; view = refl; purged = refl }
quiet_all job c past (e ∷ es) m f h =
    let k = both {x = is_quiet e} h in
    let one = quiet_one job c past e m f.0 k.0 in
    let rest = quiet_all job c (e ∷ past) es (f.0, m) f.1 k.1 in
    record {
      winners = λ t w x. one.winners t w (rest.winners t w x);
      makes = λ t w x. rest.makes t w x ∙ one.makes t w (rest.winners t w x);
      bad = λ t w x. rest.bad t w x ∙ one.bad t w (rest.winners t w x);
      readied = λ v x. one.readied v (rest.readied v x);
      published = λ v k. one.published v (rest.published v k);
      view = rest.view ∙ one.view;
      purged = rest.purged ∙ one.purged;
    }

pub quiet_store : (job : Job) (past later : Past) (before : Named) (store : Store) → IsQuiet job past later → StoreIsRight job past before store → StoreIsRight job later before store
quiet_store job past later before store q r = record {
  staged = λ p t w name s k. r.staged (sym q.purged ∙ p) t w name s (q.winners t w k) ∙ ap (λ rs. Some (text rs)) (sym (q.makes t w k));
  called = λ t w name s k. subst (λ rs. In (w, text rs) store.stage_calls) (sym (q.makes t w k)) (r.called t w name s (q.winners t w k));
  readied = λ p v name s k n. r.readied (sym q.purged ∙ p) v name s (q.readied v k) (q.published v n);
  publications = r.publications ∙ ap (λ xs. before ++ xs) (sym q.view);
}

pub quiet_good : (job : Job) (past later : Past) → IsQuiet job past later → WinnersAreGood job past → WinnersAreGood job later
quiet_good job past later q good = λ t w k. q.bad t w k ∙ good t w (q.winners t w k)

-- ---- the entries of events

quiet-append : (xs ys : List Entry) → all_quiet xs ≡ true → all_quiet ys ≡ true → all_quiet (xs ++ ys) ≡ true
quiet-append [] ys h k = k
quiet-append (x ∷ xs) ys h k = let s = both {x = is_quiet x} h in true_and s.0 (quiet-append xs ys s.1 k)

quiet_notices : (es : List Entry) → AllNotices es → all_quiet es ≡ true
quiet_notices [] h = refl
quiet_notices (InputFailed _ _ _ _ ∷ es) h = quiet_notices es h
quiet_notices (_ ∷ es) h = absurd h

quiet_each : {X : Type 0} (part : Past → X → List Entry) → ((past : Past) (x : X) → all_quiet (part past x) ≡ true) → (past : Past) (xs : List X) → all_quiet (each_after part past xs) ≡ true
quiet_each part h past [] = refl
quiet_each part h past (x ∷ xs) = quiet-append (part past x) (each_after part (extend past (part past x)) xs) (h past x) (quiet_each part h (extend past (part past x)) xs)

quiet_withdrawal : (g : Dag) (past : Past) (w : AttemptId) → all_quiet (withdrawal g past w) ≡ true
quiet_withdrawal g past w = quiet-append (notices g past w) (requeue past w.task) (quiet_notices (notices g past w) (notices_are g past w)) refl

quiet_kill : (past : Past) (o : Option AttemptId) → all_quiet (killed_by_node past o) ≡ true
quiet_kill past None = refl
quiet_kill past (Some a) = refl

quiet_withdrawn : (g : Dag) (c : ConfValues) (slot : ℕ) (before past : Past) (o : Option AttemptId) → all_quiet (withdrawn_if g c slot before past o) ≡ true
quiet_withdrawn g c slot before past None = refl
quiet_withdrawn g c slot before past (Some w) = by (is_on_node g c before slot w) where
  by : (b : Bool) → all_quiet (if b then withdrawal g past w else []) ≡ true
  by true = quiet_withdrawal g past w
  by false = refl

pub quiet_loss : (g : Dag) (c : ConfValues) (past : Past) (slot : ℕ) (b : Bool)
    → all_quiet (if b then NodeLost slot (suc (life slot past)) ∷ [] else
    (let lost = NodeLost slot (suc (life slot past)) in let kills = node_kills c (lost ∷ past) slot in
    lost ∷ (kills ++ node_withdrawals g c slot past (extend (lost ∷ past) kills)))) ≡ true
quiet_loss g c past slot true = refl
quiet_loss g c past slot false =
    let lost = NodeLost slot (suc (life slot past)) in
    let kills = node_kills c (lost ∷ past) slot in
    quiet-append kills (node_withdrawals g c slot past (extend (lost ∷ past) kills))
    (quiet_each kill_at (λ p x. quiet_kill p (holder x p)) (lost ∷ past) (places_on c slot))
    (quiet_each (withdraw_lost g c slot past) (λ p t. quiet_withdrawn g c slot past p (winner t p)) (extend (lost ∷ past) kills) (tasks g past))

pub quiet_fetch : (g : Dag) (c : ConfValues) (past : Past) (a : AttemptId) (e i : ℕ) (o : Option AttemptId) → all_quiet (fetch_entries g c past a e i o) ≡ true
quiet_fetch g c past a e i None = refl
quiet_fetch g c past a e i (Some w) = by (is_on_shelf g c past w) where
  by : (b : Bool) → all_quiet (if b then Fetched a (edge e) i w ∷ [] else ReadError a (edge e) i w ∷ withdrawal g (ReadError a (edge e) i w ∷ past) w) ≡ true
  by true = refl
  by false = quiet_withdrawal g (ReadError a (edge e) i w ∷ past) w

quiet_output : (o : Option AttemptId) → all_quiet (output_lost_entries o) ≡ true
quiet_output None = refl
quiet_output (Some w) = refl

quiet_failed : (past : Past) (a : AttemptId) (b : Bool) → all_quiet (Failed a ∷ (if b then [] else requeue past a.task)) ≡ true
quiet_failed past a true = refl
quiet_failed past a false = refl

-- an event of no sink that is not the start of the commit
abbrev pub IsPlain : CoreEvent → Type 0
IsPlain Open = ⊥
IsPlain (Configure v) = ⊤
IsPlain (Queue t) = ⊤
IsPlain (Place a p) = ⊤
IsPlain (Fetch a e i) = ⊤
IsPlain (Send a) = ⊤
IsPlain (Preempt a) = ⊤
IsPlain (Fail a) = ⊤
IsPlain (LoseNode slot) = ⊤
IsPlain (LoseOutput t) = ⊤
IsPlain Restart = ⊥
IsPlain (Ready v) = ⊥
IsPlain CommitStart = ⊥
IsPlain (Ask v) = ⊥
IsPlain (Publish v) = ⊥
IsPlain Finish = ⊤
IsPlain Purge = ⊥

pub quiet_event : (g : Dag) (c : ConfValues) (past : Past) (e : CoreEvent) → IsPlain e → all_quiet (entries_of g c past e) ≡ true
quiet_event g c past (Configure v) h = refl
quiet_event g c past (Queue t) h = refl
quiet_event g c past (Place a p) h = refl
quiet_event g c past (Fetch a e i) h = quiet_fetch g c past a e.0 i (winner_behind g past a e.0 i)
quiet_event g c past (Send a) h = refl
quiet_event g c past (Preempt a) h = refl
quiet_event g c past (Fail a) h = quiet_failed past a (nat_le c.max_failed (suc (failures a.task past)))
quiet_event g c past (LoseNode slot) h = quiet_loss g c past slot (is_committing past)
quiet_event g c past (LoseOutput t) h = quiet_output (winner t past)
quiet_event g c past (Ready v) h = absurd h
quiet_event g c past CommitStart h = absurd h
quiet_event g c past (Ask v) h = absurd h
quiet_event g c past (Publish v) h = absurd h
quiet_event g c past Finish h = refl
quiet_event g c past Restart h = absurd h
quiet_event g c past Purge h = absurd h
quiet_event g c past Open h = absurd h

pub quiet_report : (a : AttemptId) (made : List (ℕ × ℕ)) → all_quiet (map (λ m. Made a (edge m.0) m.1) made) ≡ true
quiet_report a [] = refl
quiet_report a (x ∷ xs) = quiet_report a xs

pub quiet_step : (job : Job) (c : ConfValues) (past : Past) (e : CoreEvent) → IsMade job.plan c past → enabled job.plan c past e ≡ true → IsOfNoSink e → IsQuiet job past (extend past (entries_of job.plan c past e))
unfolding made
quiet_step job c past e m on h = by e on h where
  plain : (e : CoreEvent) → IsPlain e → enabled job.plan c past e ≡ true → IsQuiet job past (extend past (entries_of job.plan c past e))
  plain e k on = quiet_all job c past (entries_of job.plan c past e) m (event_may job.plan c past e m on) (quiet_event job.plan c past e k)

  by : (e : CoreEvent) → enabled job.plan c past e ≡ true → IsOfNoSink e → IsQuiet job past (extend past (entries_of job.plan c past e))
  by Open on h = absurd h
  by (Configure v) on h = plain (Configure v) tt on
  by (Queue t) on h = plain (Queue t) tt on
  by (Place a p) on h = plain (Place a p) tt on
  by (Fetch a d i) on h = plain (Fetch a d i) tt on
  by (Send a) on h = plain (Send a) tt on
  by (Preempt a) on h = plain (Preempt a) tt on
  by (Fail a) on h = plain (Fail a) tt on
  by (LoseNode slot) on h = plain (LoseNode slot) tt on
  by (LoseOutput t) on h = plain (LoseOutput t) tt on
  by Restart on h = absurd h
  by (Ready v) on h = absurd h
  by CommitStart on h = record { winners = λ t w k. k; makes = λ t w k. refl; bad = λ t w k. refl; readied = λ v k. k; published = λ v k. k; view = refl; purged = refl }
  by (Ask v) on h = absurd h
  by (Publish v) on h = absurd h
  by Finish on h = plain Finish tt on
  by Purge on h = absurd h

-- ---- the commit had begun before

begins_none : (past : Past) (e : Entry) → is_quiet e ≡ true → is_committing (e ∷ past) ≡ true → is_committing past ≡ true
begins_none past (Opened _) h k = cc
begins_none past (Stopped _) h k = cc
begins_none past CommitStarted h k = cc
begins_none past (Committing _) h k = cc
begins_none past _ h k = k

pub quiet_begins_none : (past : Past) (es : List Entry) → all_quiet es ≡ true → is_committing (extend past es) ≡ true → is_committing past ≡ true
quiet_begins_none past [] h k = k
quiet_begins_none past (e ∷ es) h k = let s = both {x = is_quiet e} h in begins_none past e s.0 (quiet_begins_none (e ∷ past) es s.1 k)
