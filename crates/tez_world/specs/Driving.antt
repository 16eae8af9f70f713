-- A list of events, each handled by a step.
--     AreHandled job c phase past events tooks rest last after    the steps that gave these answers, the events that are left, and the phase and history after the last one
--     IsDriven job c phase past events tooks last after           the steps went on until the events or the world ended
--     IsStopped job c phase past events last after                some first steps were taken, and then memory was short
--     StoreDriven job before tooks past notes s                   the store after the last step
--     StoreStopped job before past notes s                        the store after some step, where memory was short
--     FaultsAre .., AreNoFaults tooks                             whether a step ended at a device
use Rattle.std.specs.Prelude.{◌≡◌, ◌⊎◌, ℕ, List, [], ◌∷◌}
use Rattle.std.specs.List.{AllByRecursion}
use Rattle.tez_conf.specs.declared.values.ConfValues.{ConfValues}
use Rattle.tez_ports.specs.Content.{Named, Store}
use Rattle.tez_meaning.specs.Jobs.{Job}
use Rattle.tez_history.specs.History.{Past}
use Rattle.tez_steps.specs.declared.event.Event.{Event}
use Rattle.tez_steps.specs.declared.verdict.Took.{Took}
use Rattle.tez_steps.specs.Step.{Phase, Over, Notes, StepIs, SinksStand, StoreAfter, FaultIs, IsNoFault}

abbrev pub AreHandled : Job → ConfValues → Phase → Past → List Event → List Took → List Event → Phase → Past → Type 0
AreHandled job c phase past events [] rest last after = (rest ≡ events) × (last ≡ phase) × (after ≡ past)
AreHandled job c phase past [] (took ∷ tooks) rest last after = ⊥
AreHandled job c phase past (e ∷ events) (took ∷ tooks) rest last after =
    (next : Phase) × (mid : Past) × StepIs job c phase past e took next mid × AreHandled job c next mid events tooks rest last after

pub record IsDriven (job : Job) (c : ConfValues) (phase : Phase) (past : Past) (events : List Event) (tooks : List Took) (last : Phase) (after : Past) : Type 0 where
  pub rest : List Event
  pub handled : AreHandled job c phase past events tooks rest last after
  pub done : (rest ≡ []) ⊎ (last ≡ Over)

pub record IsStopped (job : Job) (c : ConfValues) (phase : Phase) (past : Past) (events : List Event) (last : Phase) (after : Past) : Type 0 where
  pub tooks : List Took
  pub rest : List Event
  pub handled : AreHandled job c phase past events tooks rest last after

-- ---- the store

abbrev pub StoreDriven : Job → Named → List Took → Past → Notes → Store → Type 0
StoreDriven job before [] past notes s = SinksStand job before past notes s
StoreDriven job before (took ∷ []) past notes s = StoreAfter job before took past notes s
StoreDriven job before (took ∷ next ∷ tooks) past notes s = StoreDriven job before (next ∷ tooks) past notes s

abbrev pub StoreStopped : Job → Named → Past → Notes → Store → Type 0
StoreStopped job before past notes s = (took : Took) × StoreAfter job before took past notes s

-- ---- devices

abbrev pub FaultsAre : ℕ → ℕ → ℕ → ℕ → List Took → Type 0
FaultsAre faults stops new_faults new_stops tooks = AllByRecursion (FaultIs faults stops new_faults new_stops) tooks

abbrev pub AreNoFaults : List Took → Type 0
AreNoFaults tooks = AllByRecursion IsNoFault tooks
