-- A run, by its parts.
--     in_order        what was published is a first part of the sinks
--     next_up         the master's own next event
--     up_parts, up_step, up_stands               the first master is up
--     ended_step, ended_stands, ended_fault      or the run ended at once
--     world_inside, told_inside                  what holds of a run that is up
use Rattle.std.specs.Prelude.{◌≡◌, ◌≢◌, ◌++◌, ◌<◌, ◌≤◌, ◌+◌, ℕ, zero, suc, Bool, true, false, List, [], ◌∷◌, length, slice_get, is_some, unwrap_or, Option, Some, None, refl}
use Rattle.std.specs.List.{find, filter}
use Rattle.std.specs.Option.{option_map, option_map_or}
use Rattle.std.proofs.Common.{sym, ◌∙◌, ap, subst, arith, inl, inr, ⊎_elim, append-nil}
use Rattle.std.proofs.lemmas.Bool.{cases_lt}
use Rattle.tez_lists.specs.Numbers.{In, numbers_from}
use Rattle.tez_lists.proofs.Cases.{cases}
use Rattle.tez_plan.specs.Dag.{Dag}
use Rattle.tez_plan.specs.declared.parts.VertexSpec.{VertexSpec}
use Rattle.tez_events.specs.declared.CoreEvent.TheVariants.{Open, Configure, Queue, Place, Fetch, Send, Preempt, Fail, LoseNode, LoseOutput, Restart, Ready, CommitStart, Ask, Publish, Finish, Purge}
use Rattle.tez_ids.specs.declared.AttemptId.{AttemptId}
use Rattle.tez_conf.specs.declared.values.ConfValues.{ConfValues}
use Rattle.tez_events.specs.declared.CoreEvent.{CoreEvent}
use Rattle.tez_ports.specs.Content.{Named, Store, Told, bytes_of}
use Rattle.tez_history.specs.Shape.{has_sink, sinks, vertices}
use Rattle.tez_meaning.specs.Jobs.{Job}
use Rattle.tez_history.specs.History.{Past}
use Rattle.tez_history.specs.Steps.{choice}
use Rattle.tez_master_model.specs.Choice.{choice_in}
use Rattle.tez_master_model.specs.Victim.{IsVictim}
use Rattle.tez_sinks.specs.Sinks.{published_view, sink_of, sink_name, HasNoSink}
use Rattle.tez_world_invariant.specs.Store.{HasPublished, StoreStands, WasClear}
use Rattle.tez_world_invariant.proofs.EndsBegin.{opened_stands, none_named}
use Rattle.tez_world_invariant.proofs.EndsStore.{store_published}
use Rattle.tez_world_invariant.proofs.PartsTaking.{choice_taken}
use Rattle.tez_steps.specs.declared.event.Event.{Event}
use Rattle.tez_steps.specs.declared.event.Event.TheVariants.{Core, Report}
use Rattle.tez_world.specs.declared.opening.Began.{Began}
use Rattle.tez_world.specs.declared.opening.Began.TheVariants.{Up as BegunUp, Ended as BegunEnded}
use Rattle.tez_steps.specs.declared.verdict.Verdict.{Verdict}
use Rattle.tez_steps.specs.declared.verdict.Verdict.TheVariants.{Succeeded, SinkExists, AttemptsSpent, DeviceFault}
use Rattle.tez_steps.specs.declared.verdict.Took.TheVariants.{Changed, Ended}
use Rattle.tez_steps.specs.declared.running.Running.{Running}
use Rattle.tez_steps.specs.Step.{Phase, Down, Over, Up, Notes, SinksStand, StoreAfter, Adds, EndIs, IsEnd, StepIs, FaultIs, first_published}
use Rattle.tez_world.specs.World.{next_in}
use Rattle.tez_steps.specs.Holds.{parts_of, with_right_notes, Holds, notes_of}
use Rattle.tez_world.specs.Holds.{notes_from, phase_of, HasParts, IsWorld}
use Rattle.tez_world.specs.Taking.{is_open}
use Rattle.tez_world.specs.Begun.{HasBegun, HasRows, WasAsked, HasFault}
use Rattle.tez_steps.proofs.Commits.{low_sink}
use Rattle.tez_steps.proofs.Tellings.{told_same}

pub in_order : (job : Job) (c : ConfValues) (running : Option Running) (over : Bool) (past : Past) (before : Named) (notes : Notes) (s : Store) → HasParts job c running over past → phase_of running over ≢ Over → SinksStand job before past notes s → HasPublished job before s
in_order job c running true past before notes s h going stands = absurd (going refl)
in_order job c None false past before notes s h going stands = (0, stands.store.right.publications ∙ ap (λ (p : Past). before ++ published_view job p) h)
in_order job c (Some r) false past before notes s h going stands = store_published job c (with_right_notes job (parts_of r)) past before s h stands.store

next_by : (job : Job) (c : ConfValues) (r : Running) (past : Past) → Holds job c (parts_of r) past → (victim : Option AttemptId) → IsVictim r.master.state victim → (e : Option CoreEvent) → e ≡ choice_in r.master.state victim → option_map Core e ≡ option_map Core (choice job.plan c past)
next_by job c r past h victim is e chosen = ap (option_map Core) (chosen ∙ choice_taken job c (with_right_notes job (parts_of r)) past victim h is)

pub next_up : (job : Job) (c : ConfValues) (running : Option Running) (over : Bool) (past : Past) (r : Running) → over ≡ false → running ≡ Some r → HasParts job c running over past → (victim : Option AttemptId) → IsVictim r.master.state victim → (e : Option CoreEvent)
    → e ≡ choice_in r.master.state victim → option_map Core e ≡ next_in job c (phase_of running over) past
next_up job c running over past r off some h victim is e chosen =
    let up : HasParts job c (Some r) false past = subst (λ (b : Bool). HasParts job c (Some r) b past) off (subst (λ (o : Option Running). HasParts job c o over past) some h) in
    let phase : phase_of running over ≡ Up = ap (λ (o : Option Running). phase_of o over) some ∙ ap (phase_of (Some r)) off in
    next_by job c r past up victim is e chosen ∙ sym (ap (λ (p : Phase). next_in job c p past) phase)

-- ---- a run that is down

pub is_down : (running : Option Running) (over : Bool) → phase_of running over ≡ Down → (over ≡ false) × (running ≡ None)
is_down running true h = cc
is_down None false h = (refl, refl)
is_down (Some r) false h = cc

pub open_is : (e : Event) → is_open e ≡ true → e ≡ Core Open
open_is (Core Open) h = refl
open_is (Core (Configure v)) h = cc
open_is (Core (Queue t)) h = cc
open_is (Core (Place a p)) h = cc
open_is (Core (Fetch a e i)) h = cc
open_is (Core (Send a)) h = cc
open_is (Core (Preempt a)) h = cc
open_is (Core (Fail a)) h = cc
open_is (Core (LoseNode slot)) h = cc
open_is (Core (LoseOutput t)) h = cc
open_is (Core Restart) h = cc
open_is (Core (Ready v)) h = cc
open_is (Core CommitStart) h = cc
open_is (Core (Ask v)) h = cc
open_is (Core (Publish v)) h = cc
open_is (Core Finish) h = cc
open_is (Core Purge) h = cc
open_is (Report r) h = cc

pub was_empty : (job : Job) (c : ConfValues) (running : Option Running) (over : Bool) (past : Past) → phase_of running over ≡ Down → HasParts job c running over past → past ≡ []
was_empty job c running true past down h = cc
was_empty job c None false past down h = h
was_empty job c (Some r) false past down h = cc

-- it is up
pub up_parts : (job : Job) (c : ConfValues) (r : Running) (over : Bool) (past : Past) (began : Began) → over ≡ false → began ≡ BegunUp r → HasBegun job c began past → HasParts job c (Some r) over past
up_parts job c r over past began off is h =
    let begun : HasBegun job c (BegunUp r) past = subst (λ (b : Began). HasBegun job c b past) is h in
    subst (λ (b : Bool). HasParts job c (Some r) b past) (sym off) begun.1

pub up_step : (job : Job) (c : ConfValues) (phase : Phase) (past : Past) (e : Event) (r : Running) (over : Bool) (after : Past) (began : Began) → phase ≡ Down → over ≡ false → is_open e ≡ true → began ≡ BegunUp r → HasBegun job c began after
    → StepIs job c phase past e Changed (phase_of (Some r) over) after
up_step job c phase past e r over after began down off opens is h =
    let begun : HasBegun job c (BegunUp r) after = subst (λ (b : Began). HasBegun job c b after) is h in
    (ap (phase_of (Some r)) off, subst (λ (p : Phase). Adds job c p past e after) (sym down) (open_is e opens, begun.0))

found_none : (p : ℕ → Bool) (xs : List ℕ) → find p xs ≡ None → (x : ℕ) → In x xs → p x ≡ false
found_none p [] h x i = absurd i
found_none p (y ∷ ys) h x i = cases (p y)
    (λ t. let never : Some y ≡ None = rw t at h in cc)
    (λ f. let rest : find p ys ≡ None = rw f at h in elim i [ inl e ↦ ap p e ∙ f | inr j ↦ found_none p ys rest x j ])

not_some : (o : Option (List ℕ)) → is_some o ≡ false → o ≡ None
not_some None h = refl
not_some (Some x) h = cc

kept_in : (p : ℕ → Bool) (v : ℕ) (xs : List ℕ) → In v xs → p v ≡ true → In v (filter p xs)
kept_in p v [] h is = absurd h
kept_in p v (x ∷ xs) (inl e) is = let here : p x ≡ true = ap p (sym e) ∙ is in rw here (inl e)
kept_in p v (x ∷ xs) (inr i) is = cases (p x)
    (λ t. rw t (inr (kept_in p v xs i is)))
    (λ f. rw f (kept_in p v xs i is))

among_numbers : (k n v : ℕ) → k ≤ v → v < k + n → In v (numbers_from k n)
among_numbers k zero v low high = absurd (omega arith)
among_numbers k (suc n) v low high = ⊎_elim (λ less. inr (among_numbers (suc k) n v (omega arith) (omega arith))) (λ more. inl (omega arith)) (cases_lt k v)

sink_here : (g : Dag) (v : ℕ) (name : List ℕ) → sink_of g v ≡ Some name → has_sink g v ≡ true
sink_here g v name h = by (slice_get g.vertices v) h where
  by : (o : Option VertexSpec) → option_map_or (λ (s : VertexSpec). s.sink) o None ≡ Some name → option_map_or (λ (s : VertexSpec). is_some s.sink) o false ≡ true
  by None k = cc
  by (Some s) k = ap is_some k

-- no sink was there where none was found
pub none_found_clear : (job : Job) (before : Named) → first_published job.plan before ≡ None → HasNoSink job before
none_found_clear job before h = none_named job before (λ v name there.
    let has = sink_here job.plan v name there in
    let low = low_sink job.plan.vertices v (λ (s : VertexSpec). is_some s.sink) has in
    let listed = kept_in (has_sink job.plan) v (vertices job.plan) (among_numbers 0 (length job.plan.vertices) v (omega arith) (omega (arith, low))) has in
    let named : sink_name job.plan v ≡ name = ap (λ (o : Option (List ℕ)). unwrap_or o []) there in
    not_some (bytes_of name before) (ap (λ (n : List ℕ). is_some (bytes_of n before)) (sym named) ∙ found_none (λ u. is_some (bytes_of (sink_name job.plan u) before)) (sinks job.plan) h v listed))

-- the store, as the first master begins
pub up_stands : (job : Job) (c : ConfValues) (before : Named) (past after : Past) (notes : Notes) (r : Running) (began : Began) (o n : Option Store) → past ≡ [] → began ≡ BegunUp r → HasRows job began → HasBegun job c began after → n ≡ o → Told o (λ s. WasAsked job s.publications began)
    → Told o (SinksStand job before past notes) → Told n (SinksStand job before after (notes_of r))
up_stands job c before past after notes r began o n empty is rows h same asked told =
    let begun : HasBegun job c (BegunUp r) after = subst (λ (b : Began). HasBegun job c b after) is h in
    let each : HasRows job (BegunUp r) = subst (HasRows job) is rows in
    told_same (λ s. SinksStand job before past notes s × WasAsked job s.publications began) (SinksStand job before after (notes_of r)) o n same
    (λ s k.
    let here : StoreStands job before [] s = subst (λ (p : Past). StoreStands job before p s) empty k.0.store in
    let pubs : s.publications ≡ before = here.right.publications ∙ append-nil before in
    let none : first_published job.plan s.publications ≡ None = subst (WasAsked job s.publications) is k.1 in
    let clear = none_found_clear job before (ap (first_published job.plan) (sym pubs) ∙ none) in
    subst (λ (p : Past). SinksStand job before p (notes_of r) s) (sym begun.0)
    (record {
      store = opened_stands job [] (record { 0 = 1 }) before s clear here;
      noted = record { rows = λ up. each; texts = λ v sink ready. cc; sums = λ on. cc };
    }))
    (λ s t. (told s t, asked s t))

-- it ended at once
pub ended_step : (job : Job) (c : ConfValues) (phase : Phase) (past : Past) (e : Event) (v : Verdict) (after : Past) (began : Began) → phase ≡ Down → past ≡ [] → began ≡ BegunEnded v → HasBegun job c began after → EndIs job c phase past e v after × IsEnd job c v after
ended_step job c phase past e v after began down empty is h = by v (subst (λ (b : Began). HasBegun job c b after) is h) where
  by : (v : Verdict) → HasBegun job c (BegunEnded v) after → EndIs job c phase past e v after × IsEnd job c v after
  by (Succeeded pairs) k = absurd k.1
  by (SinkExists v) k = ((down, k.0 ∙ sym empty), (k.0, k.1))
  by (AttemptsSpent t) k = absurd k.1
  by (DeviceFault d) k = (k.0 ∙ sym empty, tt)

pub ended_steps : (job : Job) (c : ConfValues) (phase : Phase) (past : Past) (e : Event) (v : Verdict) (after : Past) (began : Began) → phase ≡ Down → past ≡ [] → began ≡ BegunEnded v → HasBegun job c began after → StepIs job c phase past e (Ended v) Over after
ended_steps job c phase past e v after began down empty is h = let end = ended_step job c phase past e v after began down empty is h in (refl, end.0, end.1)

pub ended_stands : (job : Job) (c : ConfValues) (before : Named) (past after : Past) (notes next : Notes) (v : Verdict) (began : Began) (o n : Option Store) → past ≡ [] → began ≡ BegunEnded v → HasBegun job c began after → n ≡ o → Told o (λ s. WasAsked job s.publications began)
    → Told o (SinksStand job before past notes) → Told n (StoreAfter job before (Ended v) after next)
ended_stands job c before past after notes next v began o n empty is h same asked told =
    told_same (λ s. SinksStand job before past notes s × WasAsked job s.publications began) (StoreAfter job before (Ended v) after next) o n same
    (λ s k.
    let here : StoreStands job before [] s = subst (λ (p : Past). StoreStands job before p s) empty k.0.store in
    by s (here.right.publications ∙ append-nil before) v (subst (λ (b : Began). HasBegun job c b after) is h) (subst (WasAsked job s.publications) is k.1))
    (λ s t. (told s t, asked s t))
  where
    by : (s : Store) → s.publications ≡ before → (v : Verdict) → HasBegun job c (BegunEnded v) after → WasAsked job s.publications (BegunEnded v) → StoreAfter job before (Ended v) after next s
    by s pubs (Succeeded pairs) k a = absurd k.1
    by s pubs (SinkExists v) k a = (pubs, ap (first_published job.plan) (sym pubs) ∙ a)
    by s pubs (AttemptsSpent t) k a = absurd k.1
    by s pubs (DeviceFault d) k a = ((0, pubs ∙ sym (append-nil before)), subst (WasClear job before) (sym k.0) tt)

pub ended_fault : (job : Job) (c : ConfValues) (after : Past) (v : Verdict) (began : Began) (faults stops new_faults new_stops : ℕ) → began ≡ BegunEnded v → HasBegun job c began after → HasFault faults stops new_faults new_stops began → FaultIs faults stops new_faults new_stops (Ended v)
ended_fault job c after v began faults stops new_faults new_stops is h f = by v (subst (λ (b : Began). HasBegun job c b after) is h) (subst (HasFault faults stops new_faults new_stops) is f) where
  by : (v : Verdict) → HasBegun job c (BegunEnded v) after → HasFault faults stops new_faults new_stops (BegunEnded v) → FaultIs faults stops new_faults new_stops (Ended v)
  by (Succeeded pairs) k a = tt
  by (SinkExists v) k a = tt
  by (AttemptsSpent t) k a = tt
  by (DeviceFault d) k a = (k.1, a)

-- ---- a run that is up

pub world_inside : (job : Job) (c : ConfValues) (running : Option Running) (over : Bool) (past : Past) (r : Running) → over ≡ false → running ≡ Some r → IsWorld job c running over past → IsWorld job c (Some r) false past
world_inside job c running over past r off some h = subst (λ (b : Bool). IsWorld job c (Some r) b past) off (subst (λ (o : Option Running). IsWorld job c o over past) some h)

pub told_inside : (o : Option Store) (before : Named) (job : Job) (past : Past) (running : Option Running) (r : Running) → running ≡ Some r → Told o (SinksStand job before past (notes_from running)) → Told o (SinksStand job before past (notes_of r))
told_inside o before job past running r some told = subst (λ (x : Option Running). Told o (SinksStand job before past (notes_from x))) some told
