-- The rule of the event queue: for each place, what was got of it and then what the queue holds of it is what its container reported.
use Rattle.std.specs.Prelude.{◌≡◌, ℕ, ◌+◌, ◌<◌, ◌≤◌, ◌==◌, Bool, true, false, List, [], ◌++◌, map, filter, length, slice_index_or}
use mathlib.Core.Option.{some}
use lib.ListN.{get_elem?}
use Rattle.tez_ids.specs.declared.AttemptId.{AttemptId}
use Rattle.tez_orders.specs.Outcomes.{ReportParts}
use Rattle.tez_crew.specs.declared.event_queue.EventView.{EventView}

abbrev pub event_view : Bool → Bool → ℕ → List AttemptId → List ReportParts → ℕ → List (List AttemptId) → EventView
event_view reports gets place reported got made known = record { reports = reports; gets = gets; place = place; reported = reported; got = got; made = made; known = known }

-- the dispatcher's view, a container's, and that of a container which ended
abbrev pub getter : List ReportParts → ℕ → List (List AttemptId) → EventView
getter got made known = event_view false true 0 [] got made known

abbrev pub reporter : ℕ → List AttemptId → EventView
reporter place reported = event_view true false place reported [] 0 []

abbrev pub spent_view : EventView
spent_view = event_view false false 0 [] [] 0 []

-- the attempts of the reports of a place, in order
unfoldable pub of : ℕ → List ReportParts → List AttemptId
of place reports = map (λ r. r.order.attempt) (filter (λ r. r.order.place == place) reports)

-- what a container's pass knows: its number, and what it reported
pub record KnowsReported (made : ℕ) (known : List (List AttemptId)) (all : List ReportParts) (pass : ℕ) (v : EventView) : Type 0 where
  pub seat : pass ≡ v.place + 1
  pub below : v.place < made
  pub out : length known ≤ v.place
  pub tells : v.reported ≡ of v.place all

-- what the dispatcher's pass knows
pub record KnowsGot (got : List ReportParts) (made : ℕ) (known : List (List AttemptId)) (pass : ℕ) (v : EventView) : Type 0 where
  pub seat : pass ≡ 0
  pub gets : v.got ≡ got
  pub makes : v.made ≡ made
  pub knows : v.known ≡ known

abbrev pub KnowsEvents : List ReportParts → ℕ → List (List AttemptId) → List ReportParts → ℕ → EventView → Type 0
KnowsEvents got made known all pass v = (v.reports ≡ true → KnowsReported made known all pass v) × (v.gets ≡ true → KnowsGot got made known pass v)

pub record EventsFit (items : List ReportParts) (views : List EventView) : Type 0 where
  pub got : List ReportParts
  pub made : ℕ
  pub known : List (List AttemptId)
  pub count : length views ≡ made + 1
  pub behind : length known ≤ made
  pub fresh : (p : ℕ) → made ≤ p → of p (got ++ items) ≡ []
  pub joined : (p : ℕ) → p < length known → slice_index_or known p [] ≡ of p (got ++ items)
  pub each : (pass : ℕ) (v : EventView) → get_elem? views pass ≡ some v → KnowsEvents got made known (got ++ items) pass v

-- of each container that was joined: what it reported is what was got of it and what the queue holds of it; of a place without container there is nothing
pub record KnowsAll (v : EventView) (items : List ReportParts) : Type 0 where
  pub joined : (p : ℕ) → p < length v.known → slice_index_or v.known p [] ≡ of p (v.got ++ items)
  pub fresh : (p : ℕ) → v.made ≤ p → of p (v.got ++ items) ≡ []
