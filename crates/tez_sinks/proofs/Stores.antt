-- What each call to the store makes of one that is right.
--     staged_store      an attempt that is not a winner is staged
--     reported_store    a report
--     winners_merge     the winners of a vertex are staged, and their merge is what the vertex makes
--     prepared_store, readied_store     a sink is prepared
--     published_store   a sink is published
--     purged_store      all that was put aside is thrown away
--     opened_store      a master opens
--     answered_store    the store answers of a sink
--     event_good, reported_good      winners stay good
use Rattle.std.specs.Prelude.{◌≡◌, ℕ, ◌==◌, ◌||◌, Bool, true, false, IsTrue, if◌then◌else◌, List, [], ◌∷◌, ◌++◌, map, Option, Some, None, is_some, refl}
use Rattle.std.specs.List.{AllByRecursion, filter_map, cons_option}
use Rattle.std.proofs.Common.{inl, ap, sym, ◌∙◌, subst, append_assoc}
use Rattle.std.proofs.lemmas.List.{append-nil}
use Rattle.std.proofs.lemmas.Bool.{eqb-true, eq-eqb, or_left, or_parts}
use Rattle.tez_ids.specs.declared.TaskId.{TaskId}
use Rattle.tez_ids.specs.declared.AttemptId.{AttemptId}
use Rattle.tez_ids.specs.declared.Epoch.{Epoch}
use Rattle.tez_ids.specs.declared.VertexId.{VertexId}
use Rattle.tez_ids.specs.Same.{task, same_task}
use Rattle.tez_ids.proofs.Sameness.{same_task-true}
use Rattle.tez_lists.specs.Numbers.{In}
use Rattle.tez_lists.proofs.Members.{in_append_left, in_append_right}
use Rattle.tez_record.specs.Line.{IsRecord}
use Rattle.tez_record.specs.Bag.{text}
use Rattle.tez_ports.specs.Content.{Named, Staged, Store, bytes_of, staged_at, stages, publishes, purges, moves, put, without}
use Rattle.tez_ports.proofs.ContentLemmas.{put_found}
use Rattle.tez_commit.specs.Merge.{AreStaged, merged, prepares}
use Rattle.tez_commit.proofs.Merging.{values_merged}
use Rattle.tez_plan.specs.Dag.{Dag, edge}
use Rattle.tez_plan.specs.Faults.{IsValid}
use Rattle.tez_conf.specs.declared.values.ConfValues.{ConfValues}
use Rattle.tez_meaning.specs.Jobs.{Job}
use Rattle.tez_meaning.specs.Value.{value, sink_text}
use Rattle.tez_events.specs.declared.Entry.TheVariants.{Opened, Over, Succeeded, Made, Ready, Published, Finished, Purged}
use Rattle.tez_events.specs.declared.CoreEvent.{CoreEvent}
use Rattle.tez_events.specs.declared.CoreEvent.TheVariants.{Open, Configure, Queue, Place, Fetch, Send, Preempt, Fail, LoseNode, LoseOutput, Restart, Ready as ReadySink, CommitStart, Ask, Publish, Finish, Purge}
use Rattle.tez_history.specs.Shape.{numbers_below}
use Rattle.tez_history.specs.History.{Past, extend, stage, winner, is_readied, is_finished}
use Rattle.tez_history.specs.Derived.{is_processing, task_count, winners_of, is_vertex_done}
use Rattle.tez_history.specs.Steps.{enabled, entries_of, done_entries}
use Rattle.tez_history.specs.Rules.{is_published}
use Rattle.tez_history.specs.Follows.{IsMade, AllMayFollow}
use Rattle.tez_laws.specs.Laws.{answered}
use Rattle.tez_laws.proofs.OneLive.{running_alive}
use Rattle.tez_laws.proofs.StepLaw.{done_may}
use Rattle.tez_progress.proofs.Members.{clash}
use Rattle.tez_contents.specs.Contents.{made, met_bad}
use Rattle.tez_contents.specs.Laws.{WinnersAreWhole}
use Rattle.tez_sinks.specs.Sinks.{sink_of, sink_entry, published_view, is_purged, WinnersAreStaged, StoreIsRight, WinnersAreGood, IsOfNoSink}
use Rattle.tez_sinks.proofs.Named.{put_other, without_other, staged_found, staged_other}
use Rattle.tez_sinks.proofs.Names.{own_name, named}
use Rattle.tez_sinks.proofs.Records.{made_records}
use Rattle.tez_sinks.proofs.Quiet.{alive_loses, quiet_all, quiet_report, quiet_store, quiet_good, quiet_step}

-- ---- staging

-- before the report, whatever the bytes
pub staged_store : (job : Job) (c : ConfValues) (past : Past) (before : Named) (store : Store) (a : AttemptId) (bytes : List ℕ) → IsMade job.plan c past → IsTrue (is_processing (stage a past))
    → StoreIsRight job past before store → StoreIsRight job past before (stages a bytes store)
staged_store job c past before store a bytes m runs r = record {
  staged = λ p t w name s k.
      staged_other w a bytes store.staged (λ e. alive_loses job.plan c past a t m (running_alive (stage a past) runs) (subst (λ x. winner t past ≡ Some x) (sym e) k))
      ∙ r.staged p t w name s k;
  called = λ t w name s k. in_append_left (w, text (made job w past)) store.stage_calls ((a, bytes) ∷ []) (r.called t w name s k);
  readied = r.readied;
  publications = r.publications;
}

-- ---- a report

-- the winners are as before, but for one that comes in
won : (past : Past) (a w : AttemptId) (t : TaskId) → (if same_task a.task t then Some a else winner t past) ≡ Some w → (P : AttemptId → Type 0) → (a.task ≡ t → P a) → (winner t past ≡ Some w → P w) → P w
won past a w t h P new old = by (same_task a.task t) refl h where
  by : (b : Bool) → same_task a.task t ≡ b → (if b then Some a else winner t past) ≡ Some w → P w
  by true e k = let same : a ≡ w = cc in subst P same (new (same_task-true a.task t e))
  by false e k = old k

succeeded_store : (job : Job) (past : Past) (before : Named) (store : Store) (a : AttemptId) → ((name : List ℕ) → sink_of job.plan a.task.vertex.0 ≡ Some name → staged_at a store.staged ≡ Some (text (made job a past)))
    → ((name : List ℕ) → sink_of job.plan a.task.vertex.0 ≡ Some name → In (a, text (made job a past)) store.stage_calls)
    → StoreIsRight job past before store → StoreIsRight job (Succeeded a ∷ past) before store
unfolding made
succeeded_store job past before store a there called r = record {
  staged = λ p t w name s k. won past a w t k (λ x. staged_at x store.staged ≡ Some (text (made job x past)))
      (λ same. there name (subst (λ (u : TaskId). sink_of job.plan u.vertex.0 ≡ Some name) (sym same) s)) (r.staged p t w name s);
  called = λ t w name s k. won past a w t k (λ x. In (x, text (made job x past)) store.stage_calls)
      (λ same. called name (subst (λ (u : TaskId). sink_of job.plan u.vertex.0 ≡ Some name) (sym same) s)) (r.called t w name s);
  readied = r.readied;
  publications = r.publications;
}

succeeded_good : (job : Job) (past : Past) (a : AttemptId) → met_bad job a past ≡ false → WinnersAreGood job past → WinnersAreGood job (Succeeded a ∷ past)
succeeded_good job past a fine good = λ t w k. won past a w t k (λ x. met_bad job x past ≡ false) (λ same. fine) (good t w)

module _ (job : Job) (c : ConfValues) (past : Past) (a : AttemptId) (bytes : List (ℕ × ℕ)) (m : IsMade job.plan c past) (runs : IsTrue (is_processing (stage a past))) where
  follow : AllMayFollow job.plan c past (done_entries a bytes)
  follow = done_may job.plan c past a bytes runs

  pub reported_plain : (before : Named) (store : Store) → ((name : List ℕ) → sink_of job.plan a.task.vertex.0 ≡ Some name → staged_at a store.staged ≡ Some (text (made job a past)))
      → ((name : List ℕ) → sink_of job.plan a.task.vertex.0 ≡ Some name → In (a, text (made job a past)) store.stage_calls)
      → StoreIsRight job past before store → StoreIsRight job (extend past (done_entries a bytes)) before store
  reported_plain before store there called r =
      let later = map (λ m. Made a (edge m.0) m.1) bytes in
      quiet_store job (Succeeded a ∷ past) (extend (Succeeded a ∷ past) later) before store
      (quiet_all job c (Succeeded a ∷ past) later (follow.0, m) follow.1 (quiet_report a bytes)) (succeeded_store job past before store a there called r)

  pub reported_staged : (before : Named) (store : Store) → StoreIsRight job past before store → StoreIsRight job (extend past (done_entries a bytes)) before (stages a (text (made job a past)) store)
  reported_staged before store r =
      reported_plain before (stages a (text (made job a past)) store) (λ name s. staged_found a (text (made job a past)) store.staged)
      (λ name s. in_append_right (a, text (made job a past)) store.stage_calls ((a, text (made job a past)) ∷ []) (inl refl))
      (staged_store job c past before store a (text (made job a past)) m runs r)

  pub reported_good : met_bad job a past ≡ false → WinnersAreGood job past → WinnersAreGood job (extend past (done_entries a bytes))
  reported_good fine good =
      let later = map (λ m. Made a (edge m.0) m.1) bytes in
      quiet_good job (Succeeded a ∷ past) (extend (Succeeded a ∷ past) later)
      (quiet_all job c (Succeeded a ∷ past) later (follow.0, m) follow.1 (quiet_report a bytes)) (succeeded_good job past a fine good)

-- ---- the winners of a vertex

module _ (job : Job) (past : Past) (staged : Staged) (right : WinnersAreStaged job past staged) (v : ℕ) (name : List ℕ) (sink : sink_of job.plan v ≡ Some name) where
  abbrev IsStaged : AttemptId → Type 0
  IsStaged a = AllByRecursion IsRecord (made job a past) × (staged_at a staged ≡ Some (text (made job a past)))

  each_found : (is : List ℕ) → AllByRecursion IsStaged (filter_map (λ i. winner (task v i) past) is)
  each_found [] = tt
  each_found (i ∷ is) = by (winner (task v i) past) refl (each_found is) where
    by : (o : Option AttemptId) → winner (task v i) past ≡ o → AllByRecursion IsStaged (filter_map (λ j. winner (task v j) past) is) → AllByRecursion IsStaged (cons_option o (filter_map (λ i. winner (task v i) past) is))
    by None e rest = rest
    by (Some w) e rest = ((made_records job w past, right (task v i) w name sink e), rest)

  are_staged : (ws : List AttemptId) → AllByRecursion IsStaged ws → AreStaged staged ws
  are_staged [] h = tt
  are_staged (w ∷ ws) h = (ap is_some h.0.1, are_staged ws h.1)

  pub winners_staged : (n : ℕ) → AreStaged staged (winners_of v n past)
  winners_staged n = are_staged (winners_of v n past) (each_found (numbers_below n))

  pub winners_merge : WinnersAreWhole job past → is_vertex_done job.plan v past ≡ true → merged staged (winners_of v (task_count job.plan v past) past) ≡ value job v
  winners_merge whole done =
      let n = task_count job.plan v past in
      values_merged staged (winners_of v n past) (λ w. made job w past) (each_found (numbers_below n)) ∙ whole v done

-- ---- preparing and publishing

module _ (job : Job) (valid : IsValid job.plan) (past : Past) (before : Named) (store : Store) (r : StoreIsRight job past before store) (v : ℕ) (name : List ℕ) (sink : sink_of job.plan v ≡ Some name) where
  -- the name of another sink is another
  other_name : (u : ℕ) (n : List ℕ) → sink_of job.plan u ≡ Some n → (v ≡ u → ⊥) → name ≡ n → ⊥
  other_name u n s differ e = differ (own_name job.plan v u n valid (sink ∙ ap Some e) s)

  same_name : (u : ℕ) (n : List ℕ) → sink_of job.plan u ≡ Some n → v ≡ u → name ≡ n
  same_name u n s e = let both_are : Some name ≡ Some n = sym sink ∙ ap (sink_of job.plan) e ∙ s in cc

  module _ (winners : List AttemptId) (gives : is_purged past ≡ false → merged store.staged winners ≡ value job v) where
    -- what stands under the name of a sink then
    stands_after : is_purged past ≡ false → (u : ℕ) (n : List ℕ) → sink_of job.plan u ≡ Some n
        → ((v ≡ u → ⊥) → bytes_of n store.readied ≡ Some (sink_text job u))
        → bytes_of n (put name (text (merged store.staged winners)) store.readied) ≡ Some (sink_text job u)
    stands_after p u n s old = by (v == u) refl where
      by : (b : Bool) → (v == u) ≡ b → bytes_of n (put name (text (merged store.staged winners)) store.readied) ≡ Some (sink_text job u)
      by true e =
          let same : v ≡ u = eqb-true v u e in
          subst (λ k. bytes_of k (put name (text (merged store.staged winners)) store.readied) ≡ Some (sink_text job u)) (same_name u n s same)
          (put_found name (text (merged store.staged winners)) store.readied ∙ ap (λ rs. Some (text rs)) (gives p) ∙ ap (λ x. Some (sink_text job x)) same)
      by false e =
          let differ = λ (same : v ≡ u). (let x : ⊥ = clash (eq-eqb v u same) e in x) in
          put_other n name (text (merged store.staged winners)) store.readied (other_name u n s differ) ∙ old differ

    pub prepared_store : StoreIsRight job past before (prepares winners name store)
    prepared_store = record {
      staged = r.staged;
      called = r.called;
      readied = λ p u n s k free. stands_after p u n s (λ differ. r.readied p u n s k free);
      publications = r.publications;
    }

    or_other : (w : ℕ) (u : ℕ) (y : Bool) → (w ≡ u → ⊥) → ((w == u) || y) ≡ true → y ≡ true
    or_other w u y differ h = by (w == u) refl h where
      by : (b : Bool) → (w == u) ≡ b → (b || y) ≡ true → y ≡ true
      by true e k = absurd (differ (eqb-true w u e))
      by false e k = k

    pub readied_store : (w : VertexId) → w.0 ≡ v → StoreIsRight job (Ready w ∷ past) before (prepares winners name store)
    unfolding made
    readied_store w is = record {
      staged = r.staged;
      called = r.called;
      readied = λ p u n s k free. stands_after p u n s (λ differ. r.readied p u n s (or_other w.0 u (is_readied u past) (λ e. differ (sym is ∙ e)) k) free);
      publications = r.publications;
    }

  -- published first is as nothing under another name
  pub published_store : (w : VertexId) → w.0 ≡ v → bytes_of name store.readied ≡ Some (sink_text job v) → StoreIsRight job (Published w ∷ past) before (publishes name store)
  unfolding made
  published_store w is here = subst (StoreIsRight job (Published w ∷ past) before) (ap (moves name store) (sym here)) (record {
    staged = r.staged;
    called = r.called;
    readied = λ p u n s k free. left p u n s k free (w.0 == u) refl;
    publications =
        ap (λ xs. xs ++ (name, sink_text job v) ∷ []) r.publications
        ∙ append_assoc before (published_view job past) ((name, sink_text job v) ∷ [])
        ∙ ap (λ (x : List ℕ × List ℕ). before ++ (published_view job past ++ x ∷ [])) (ap (λ x. (x, sink_text job v)) (named job.plan v name sink) ∙ ap (sink_entry job) (sym is));
  }) where
    left : is_purged past ≡ false → (u : ℕ) (n : List ℕ) → sink_of job.plan u ≡ Some n → is_readied u past ≡ true → is_published u (Published w ∷ past) ≡ false
        → (b : Bool) → (w.0 == u) ≡ b → bytes_of n (without name store.readied) ≡ Some (sink_text job u)
    left p u n s k free true e = let was : is_published u (Published w ∷ past) ≡ true = or_left (w.0 == u) (is_published u past) e in clash was free
    left p u n s k free false e =
        let not_yet : is_published u past ≡ false = (or_parts (w.0 == u) (is_published u past) free).1 in
        without_other n name store.readied (other_name u n s (λ same. clash (eq-eqb w.0 u (is ∙ same)) e)) ∙ r.readied p u n s k not_yet

pub purged_store : (job : Job) (past : Past) (before : Named) (store : Store) → StoreIsRight job past before store → StoreIsRight job (Purged ∷ past) before (purges store)
unfolding made
purged_store job past before store r = record { staged = λ p. cc; called = r.called; readied = λ p. cc; publications = r.publications }

-- ---- what is purged is finished

pub purged_finished : (g : Dag) (c : ConfValues) (past : Past) → IsMade g c past → is_purged past ≡ true → is_finished past ≡ true
purged_finished g c [] m h = cc
purged_finished g c (Opened e ∷ past) m h = cc
purged_finished g c (Over ∷ past) m h = refl
purged_finished g c (Finished ∷ past) m h = refl
purged_finished g c (Purged ∷ past) m h = m.0.0
purged_finished g c (_ ∷ past) m h = purged_finished g c past m.1 h

pub running_kept : (g : Dag) (c : ConfValues) (past : Past) → IsMade g c past → is_finished past ≡ false → is_purged past ≡ false
running_kept g c past m h = by (is_purged past) refl where
  by : (b : Bool) → is_purged past ≡ b → is_purged past ≡ false
  by true e = clash (purged_finished g c past m e) h
  by false e = e

-- ---- a master opens

pub opened_store : (job : Job) (past : Past) (e : Epoch) (before : Named) (store : Store) → store.publications ≡ before ++ published_view job past → StoreIsRight job (Opened e ∷ past) before store
opened_store job past e before store h = record { staged = λ p t w name s k. cc; called = λ t w name s k. cc; readied = λ p v name s k free. cc; publications = h }

pub first_store : (job : Job) (e : Epoch) (store : Store) → StoreIsRight job (Opened e ∷ []) store.publications store
first_store job e store = opened_store job [] e store.publications store (sym (append-nil store.publications))

pub opened_good : (job : Job) (past : Past) (e : Epoch) → WinnersAreGood job (Opened e ∷ past)
opened_good job past e t w k = cc

-- ---- the store answers

pub answered_store : (job : Job) (past : Past) (v : VertexId) (there : Bool) (before : Named) (store : Store) → StoreIsRight job past before store → StoreIsRight job (answered past v there) before store
unfolding made
answered_store job past v false before store r = record { staged = r.staged; called = r.called; readied = r.readied; publications = r.publications }
answered_store job past v true before store r = record {
  staged = r.staged;
  called = r.called;
  readied = λ p u n s k free. r.readied p u n s k (or_parts (v.0 == u) (is_published u past) free).1;
  publications = r.publications;
}

pub answered_good : (job : Job) (past : Past) (v : VertexId) (there : Bool) → WinnersAreGood job past → WinnersAreGood job (answered past v there)
answered_good job past v false good = good
answered_good job past v true good = good

-- ---- winners stay good

pub event_good : (job : Job) (c : ConfValues) (past : Past) (e : CoreEvent) → IsMade job.plan c past → enabled job.plan c past e ≡ true → WinnersAreGood job past → WinnersAreGood job (extend past (entries_of job.plan c past e))
event_good job c past e m on good = by e on where
  quiet : (e : CoreEvent) → IsOfNoSink e → enabled job.plan c past e ≡ true → WinnersAreGood job (extend past (entries_of job.plan c past e))
  quiet e h on = quiet_good job past (extend past (entries_of job.plan c past e)) (quiet_step job c past e m on h) good

  by : (e : CoreEvent) → enabled job.plan c past e ≡ true → WinnersAreGood job (extend past (entries_of job.plan c past e))
  by Open on = good
  by (Configure v) on = quiet (Configure v) tt on
  by (Queue t) on = quiet (Queue t) tt on
  by (Place a p) on = quiet (Place a p) tt on
  by (Fetch a d i) on = quiet (Fetch a d i) tt on
  by (Send a) on = quiet (Send a) tt on
  by (Preempt a) on = quiet (Preempt a) tt on
  by (Fail a) on = quiet (Fail a) tt on
  by (LoseNode slot) on = quiet (LoseNode slot) tt on
  by (LoseOutput t) on = quiet (LoseOutput t) tt on
  by Restart on = λ t w k. cc
  by (ReadySink v) on = good
  by CommitStart on = quiet CommitStart tt on
  by (Ask v) on = good
  by (Publish v) on = good
  by Finish on = quiet Finish tt on
  by Purge on = good
