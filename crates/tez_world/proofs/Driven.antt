-- Steps along a list of events.
--     went_on, driven_end, driven_over, stopped_here     one more step, the end of the list, the end of the world, and where memory is short
--     goes_phase, goes_stands                            after a step that ends nothing
--     driven_more, stands_next, driven_next              the store after one more step
--     stopped_stands, stopped_after                      the store where memory is short
--     faults_next, no_faults_next                        whether a step ended at a device
--     next_there                                         what is next, unless all is over
use Rattle.std.specs.Prelude.{◌≡◌, ◌≢◌, ◌≤◌, ◌++◌, ℕ, true, false, List, [], ◌∷◌, Option, Some, None, is_some, refl}
use Rattle.std.specs.List.{AllByRecursion}
use Rattle.std.specs.Option.{option_map}
use Rattle.std.proofs.Common.{sym, ◌∙◌, subst, arith, inl, inr, append-nil, append_assoc}
use Rattle.tez_conf.specs.declared.values.ConfValues.{ConfValues}
use Rattle.tez_events.specs.declared.CoreEvent.{CoreEvent}
use Rattle.tez_ports.specs.Causes.{Rose}
use Rattle.tez_ports.specs.Content.{Named, Store, Told}
use Rattle.tez_meaning.specs.Jobs.{Job}
use Rattle.tez_history.specs.History.{Past}
use Rattle.tez_history.specs.Steps.{choice}
use Rattle.tez_progress.specs.Laws.{IsIdle}
use Rattle.tez_steps.specs.declared.event.Event.{Event}
use Rattle.tez_steps.specs.declared.event.Event.TheVariants.{Core}
use Rattle.tez_steps.specs.declared.verdict.Verdict.TheVariants.{Succeeded, SinkExists, AttemptsSpent, DeviceFault}
use Rattle.tez_steps.specs.declared.verdict.Took.{Took}
use Rattle.tez_steps.specs.declared.verdict.Took.TheVariants.{Changed, Ignored, Ended}
use Rattle.tez_steps.specs.Step.{Phase, Down, Up, Over, Notes, SinksStand, StoreAfter, StepIs, FaultIs, IsNoFault}
use Rattle.tez_world.specs.World.{next_in}
use Rattle.tez_world.specs.Lawful.{IsGoing}
use Rattle.tez_world.specs.Taking.{is_ended}
use Rattle.tez_world.specs.Driving.{AreHandled, IsDriven, IsStopped, StoreDriven, StoreStopped, FaultsAre, AreNoFaults}

-- ---- the steps

-- what follows a moment, as a part of the whole
abbrev pub Leads : Job → ConfValues → Phase → Past → List Event → List Took → Phase → Past → List Event → Type 0
Leads job c phase past events tooks now then left =
    (more : List Took) (rest : List Event) (last : Phase) (after : Past) → AreHandled job c now then left more rest last after → AreHandled job c phase past events (tooks ++ more) rest last after

pub went_on : (job : Job) (c : ConfValues) (phase : Phase) (past : Past) (events : List Event) (done now : List Took) (p next : Phase) (q mid : Past) (items left : List Event) (e : Event) (t : Took) → items ≡ e ∷ left → now ≡ done ++ t ∷ [] → StepIs job c p q e t next mid
    → Leads job c phase past events done p q items → Leads job c phase past events now next mid left
went_on job c phase past events done now p next q mid items left e t items_are now_is step leads more rest last after k =
    subst (λ (xs : List Took). AreHandled job c phase past events (xs ++ more) rest last after) (sym now_is)
    (subst (λ (xs : List Took). AreHandled job c phase past events xs rest last after) (sym (append_assoc done (t ∷ []) more))
    (leads (t ∷ more) rest last after (subst (λ (es : List Event). AreHandled job c p q es (t ∷ more) rest last after) (sym items_are) (next, mid, step, k))))

handled_here : (job : Job) (c : ConfValues) (phase : Phase) (past : Past) (events : List Event) (done : List Took) (p : Phase) (q : Past) (items : List Event) → Leads job c phase past events done p q items → AreHandled job c phase past events done items p q
handled_here job c phase past events done p q items leads =
    subst (λ (xs : List Took). AreHandled job c phase past events xs items p q) (append-nil done) (leads [] items p q (refl, refl, refl))

pub driven_end : (job : Job) (c : ConfValues) (phase : Phase) (past : Past) (events : List Event) (done : List Took) (p : Phase) (q : Past) (items : List Event) → items ≡ [] → Leads job c phase past events done p q items → IsDriven job c phase past events done p q
driven_end job c phase past events done p q items none leads = record { rest = items; handled = handled_here job c phase past events done p q items leads; done = inl none }

pub driven_over : (job : Job) (c : ConfValues) (phase : Phase) (past : Past) (events : List Event) (done : List Took) (p : Phase) (q : Past) (items : List Event) → p ≡ Over → Leads job c phase past events done p q items → IsDriven job c phase past events done p q
driven_over job c phase past events done p q items over leads = record { rest = items; handled = handled_here job c phase past events done p q items leads; done = inr over }

pub stopped_here : (job : Job) (c : ConfValues) (phase : Phase) (past : Past) (events : List Event) (done : List Took) (p : Phase) (q : Past) (items : List Event) → Leads job c phase past events done p q items → IsStopped job c phase past events p q
stopped_here job c phase past events done p q items leads = record { tooks = done; rest = items; handled = handled_here job c phase past events done p q items leads }

pub ended_over : (job : Job) (c : ConfValues) (p next : Phase) (q mid : Past) (e : Event) (t : Took) → is_ended t ≡ true → StepIs job c p q e t next mid → next ≡ Over
ended_over job c p next q mid e Changed on step = cc
ended_over job c p next q mid e (Ignored why) on step = cc
ended_over job c p next q mid e (Ended v) on step = step.0

pub goes_phase : (job : Job) (c : ConfValues) (p next : Phase) (q mid : Past) (e : Event) (t : Took) → is_ended t ≡ false → p ≢ Over → StepIs job c p q e t next mid → next ≢ Over
goes_phase job c p next q mid e Changed on going step = λ over. let up : next ≡ Up = step.0 in cc
goes_phase job c p next q mid e (Ignored why) on going step = λ over. going (sym step.0 ∙ over)
goes_phase job c p next q mid e (Ended v) on going step = cc

-- ---- the store

pub goes_stands : (job : Job) (before : Named) (t : Took) (past : Past) (notes : Notes) (s : Store) → is_ended t ≡ false → StoreAfter job before t past notes s → SinksStand job before past notes s
goes_stands job before Changed past notes s on k = k
goes_stands job before (Ignored why) past notes s on k = k
goes_stands job before (Ended v) past notes s on k = cc

pub driven_more : (job : Job) (before : Named) (ts : List Took) (t : Took) (past : Past) (notes : Notes) (s : Store) → StoreAfter job before t past notes s → StoreDriven job before (ts ++ t ∷ []) past notes s
driven_more job before [] t past notes s k = k
driven_more job before (u ∷ []) t past notes s k = k
driven_more job before (u ∷ w ∷ ts) t past notes s k = driven_more job before (w ∷ ts) t past notes s k

pub stood : (o : Option Store) (before : Named) (job of : Job) (past : Past) (notes : Notes) (done : List Took) → of ≡ job → Told o (λ s. SinksStand job before past notes s × StoreDriven job before done past notes s) → Told o (SinksStand of before past notes)
stood o before job of past notes done same told s at = subst (λ (j : Job). SinksStand j before past notes s) (sym same) (told s at).0

-- the store after a step that ends nothing
pub stands_next : (o : Option Store) (before : Named) (job of : Job) (past : Past) (notes : Notes) (done now : List Took) (t : Took) → of ≡ job → now ≡ done ++ t ∷ [] → is_ended t ≡ false → Told o (StoreAfter of before t past notes) → Told o (λ s. SinksStand job before past notes s × StoreDriven job before now past notes s)
stands_next o before job of past notes done now t same now_is on told s at =
    let k : StoreAfter job before t past notes s = subst (λ (j : Job). StoreAfter j before t past notes s) same (told s at) in
    (goes_stands job before t past notes s on k, subst (λ (xs : List Took). StoreDriven job before xs past notes s) (sym now_is) (driven_more job before done t past notes s k))

-- and after any
pub driven_next : (o : Option Store) (before : Named) (job of : Job) (past : Past) (notes : Notes) (done now : List Took) (t : Took) → of ≡ job → now ≡ done ++ t ∷ [] → Told o (StoreAfter of before t past notes) → Told o (StoreDriven job before now past notes)
driven_next o before job of past notes done now t same now_is told s at =
    subst (λ (xs : List Took). StoreDriven job before xs past notes s) (sym now_is) (driven_more job before done t past notes s (subst (λ (j : Job). StoreAfter j before t past notes s) same (told s at)))

-- where memory is short
pub stopped_stands : (o : Option Store) (before : Named) (job of : Job) (past : Past) (notes : Notes) → of ≡ job → Told o (SinksStand of before past notes) → Told o (StoreStopped job before past notes)
stopped_stands o before job of past notes same told s at = (Changed, subst (λ (j : Job). SinksStand j before past notes s) same (told s at))

pub stopped_after : (o : Option Store) (before : Named) (job of : Job) (past : Past) (notes : Notes) (t : Took) → of ≡ job → Told o (StoreAfter of before t past notes) → Told o (StoreStopped job before past notes)
stopped_after o before job of past notes t same told s at = (t, subst (λ (j : Job). StoreAfter j before t past notes s) same (told s at))

-- ---- devices

all_more : {X : Type 0} (P : X → Type 0) (xs : List X) (x : X) → AllByRecursion P xs → P x → AllByRecursion P (xs ++ x ∷ [])
all_more P [] x all k = (k, tt)
all_more P (y ∷ ys) x all k = (all.0, all_more P ys x all.1 k)

all_still : {X : Type 0} (P Q : X → Type 0) (xs : List X) → ((x : X) → P x → Q x) → AllByRecursion P xs → AllByRecursion Q xs
all_still P Q [] f all = tt
all_still P Q (x ∷ xs) f all = (f x all.0, all_still P Q xs f all.1)

risen : (a b c d : ℕ) → a ≤ b → c ≤ d → Rose b c → Rose a d
risen a b c d low high rose = omega (arith, low, high, rose)

-- the counts of all steps, of which these are some
wider : (f s f1 s1 f2 s2 f3 s3 : ℕ) (t : Took) → f ≤ f1 → s ≤ s1 → f2 ≤ f3 → s2 ≤ s3 → FaultIs f1 s1 f2 s2 t → FaultIs f s f3 s3 t
wider f s f1 s1 f2 s2 f3 s3 Changed a b x y k = tt
wider f s f1 s1 f2 s2 f3 s3 (Ignored why) a b x y k = tt
wider f s f1 s1 f2 s2 f3 s3 (Ended (Succeeded pairs)) a b x y k = tt
wider f s f1 s1 f2 s2 f3 s3 (Ended (SinkExists v)) a b x y k = tt
wider f s f1 s1 f2 s2 f3 s3 (Ended (AttemptsSpent t)) a b x y k = tt
wider f s f1 s1 f2 s2 f3 s3 (Ended (DeviceFault d)) a b x y k = (k.0, elim k.1 [ inl r ↦ inl (risen f f1 f2 f3 a x r) | inr r ↦ inr (risen s s1 s2 s3 b y r) ])

pub faults_next : (f s f1 s1 f2 s2 : ℕ) (done now : List Took) (t : Took) → now ≡ done ++ t ∷ [] → f ≤ f1 → s ≤ s1 → f1 ≤ f2 → s1 ≤ s2 → FaultsAre f s f1 s1 done → FaultIs f1 s1 f2 s2 t → FaultsAre f s f2 s2 now
faults_next f s f1 s1 f2 s2 done now t now_is a b x y all k =
    let same : f ≤ f = omega arith in
    let same_stops : s ≤ s = omega arith in
    let stays : f2 ≤ f2 = omega arith in
    let stays_stops : s2 ≤ s2 = omega arith in
    subst (FaultsAre f s f2 s2) (sym now_is)
    (all_more (FaultIs f s f2 s2) done t (all_still (FaultIs f s f1 s1) (FaultIs f s f2 s2) done (λ u w. wider f s f s f1 s1 f2 s2 u same same_stops x y w) all)
    (wider f s f1 s1 f2 s2 f2 s2 t a b stays stays_stops k))

pub no_faults_next : (done now : List Took) (t : Took) → now ≡ done ++ t ∷ [] → AreNoFaults done → IsNoFault t → AreNoFaults now
no_faults_next done now t now_is all k = subst AreNoFaults (sym now_is) (all_more IsNoFault done t all k)

-- ---- what is next

some_core : (o : Option CoreEvent) → is_some o ≡ true → is_some (option_map Core o) ≡ true
some_core None h = cc
some_core (Some e) h = refl

pub next_there : (job : Job) (c : ConfValues) (phase : Phase) (past : Past) → (phase ≡ Up → IsGoing job.plan c past) → phase ≢ Over → IsIdle past → is_some (next_in job c phase past) ≡ true
next_there job c Down past going more idle = refl
next_there job c Up past going more idle = some_core (choice job.plan c past) ((going refl).further idle)
next_there job c Over past going more idle = absurd (more refl)
