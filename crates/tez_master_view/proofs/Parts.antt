-- A master's state by its parts, and what kills and withdrawals one after another make of it.
use Rattle.std.specs.Prelude.{◌≡◌, ℕ, Bool, false, List, [], ◌∷◌, map, Option, None, refl}
use Rattle.std.specs.List.{fold}
use Rattle.std.proofs.Common.{ap, ◌∙◌}
use Rattle.tez_ids.specs.declared.AttemptId.{AttemptId}
use Rattle.tez_lists.specs.Tables.{set_in}
use Rattle.tez_plan.specs.Dag.{Dag}
use Rattle.tez_conf.specs.declared.values.ConfValues.{ConfValues}
use Rattle.tez_vertex.specs.Vertex.{Vertex}
use Rattle.tez_vertex_view.specs.View.{kill_all, lose_all}
use Rattle.tez_pool.specs.State.{PoolState}
use Rattle.tez_router.specs.State.{RouterState}
use Rattle.tez_router_view.specs.Events.{after_dismisses, after_withdraws}
use Rattle.tez_schedule.specs.State.{ScheduleState}
use Rattle.tez_schedule_view.specs.Events.{after_withdraws as unscheduled_wins}
use Rattle.tez_master_model.specs.State.{MasterState}
use Rattle.tez_master_model.specs.Settled.{killed, withdrawn}

-- what few entries change: the epoch, the sinks that were asked of, how many are recorded, and how far the job has come
abbrev pub Rest : Type 0
Rest = ℕ × List Bool × ℕ × Bool × Bool × Bool × Bool

abbrev pub state : Dag → ConfValues → Rest → List Vertex → PoolState → RouterState → ScheduleState
    → List (List (Option ℕ)) → List Bool → MasterState
state g c q vs p r s l x = record {
  plan = g;
  conf = c;
  epoch = q.0;
  vertices = vs;
  pool = p;
  router = r;
  schedule = s;
  locations = l;
  readied = x;
  asked = q.1;
  recorded = q.2;
  committing = q.3;
  found = q.4;
  finished = q.5;
  up = q.6;
}

pub same_parts : (g : Dag) (c : ConfValues) (q : Rest) {vs ws : List Vertex} {p o : PoolState} {r t : RouterState}
    {s k : ScheduleState} {l m : List (List (Option ℕ))} {x z : List Bool}
    → vs ≡ ws → p ≡ o → r ≡ t → s ≡ k → l ≡ m → x ≡ z → state g c q vs p r s l x ≡ state g c q ws o t k m z
same_parts g c q {vs} {ws} {p} {o} {r} {t} {s} {k} {l} {m} {x} {z} v1 p1 r1 s1 l1 x1 =
    ap (λ i. state g c q i p r s l x) v1 ∙ ap (λ i. state g c q ws i r s l x) p1 ∙ ap (λ i. state g c q ws o i s l x) r1
    ∙ ap (λ i. state g c q ws o t i l x) s1 ∙ ap (λ i. state g c q ws o t k i x) l1
    ∙ ap (λ i. state g c q ws o t k m i) x1

pub same_rest : (g : Dag) (c : ConfValues) (vs : List Vertex) (p : PoolState) (r : RouterState) (s : ScheduleState)
    (l : List (List (Option ℕ))) (x : List Bool) {q o : Rest}
    → q ≡ o → state g c q vs p r s l x ≡ state g c o vs p r s l x
same_rest g c vs p r s l x q1 = ap (λ i. state g c i vs p r s l x) q1

-- ---- several, one after another

abbrev pub lose_location : List (List (Option ℕ)) → AttemptId → List (List (Option ℕ))
lose_location ls w = set_in ls w.task.vertex.0 w.task.index None

abbrev pub none_readied : List Bool → List Bool
none_readied xs = map (λ b. false) xs

abbrev pub unready : List Bool → AttemptId → List Bool
unready xs w = none_readied xs

pub killed_all : (m : MasterState) (xs : List AttemptId) → fold killed m xs ≡ record m { vertices = kill_all m.vertices xs; router = after_dismisses m.router xs }
killed_all m [] = refl
killed_all m (a ∷ xs) = killed_all (killed m a) xs

pub withdrawn_all : (m : MasterState) (ws : List AttemptId)
    → fold withdrawn m ws ≡ record m { vertices = lose_all m.vertices ws; router = after_withdraws m.router ws; schedule = unscheduled_wins m.schedule ws; locations = fold lose_location m.locations ws; readied = fold unready m.readied ws }
withdrawn_all m [] = refl
withdrawn_all m (w ∷ ws) = withdrawn_all (withdrawn m w) ws
