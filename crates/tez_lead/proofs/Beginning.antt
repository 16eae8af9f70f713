-- What a lead keeps, where nothing is configured.
use Rattle.std.specs.Prelude.{◌≡◌, ℕ, ◌<◌, ◌≤◌, false, map, length, slice_get, Option, Some, None, is_some, refl, option_and_then}
use Rattle.std.specs.Option.{option_map_or}
use Rattle.std.proofs.Common.{ap, sym, ◌∙◌, subst, arith, inl, inr, ◌⊎◌, zero-add}
use Rattle.std.proofs.lemmas.Bool.{cases_lt}
use Rattle.std.proofs.lemmas.Option.{same_Some, slice_get_within, slice_get_past}
use Rattle.tez_ids.specs.declared.TaskId.{TaskId}
use Rattle.tez_ids.specs.Same.{task}
use Rattle.tez_lists.specs.Numbers.{numbers_from}
use Rattle.tez_lists.proofs.Tables.{get_each, map_each, table_same}
use Rattle.tez_plan.specs.Dag.{Dag, vertex, tasks_of as planned}
use Rattle.tez_conf.specs.declared.values.ConfValues.{ConfValues}
use Rattle.tez_task.specs.TaskState.{TaskState}
use Rattle.tez_vertex.specs.Vertex.{Vertex}
use Rattle.tez_vertex.specs.Table.{new_vertex, task_of}
use Rattle.tez_master_model.specs.Vertices.{new_vertices}
use Rattle.tez_pool.specs.State.{PoolState}
use Rattle.tez_pool.specs.Victim.{AreIn}
use Rattle.tez_schedule.specs.Kept.{Layout, layout, planned_at}
use Rattle.tez_schedule.specs.Planned.{planned_vertex, planned_schedule}
use Rattle.tez_queue.specs.Queue.{Queue, empty_queue}
use Rattle.tez_master_model.specs.State.{MasterState}
use Rattle.tez_master_model.specs.Fresh.{fresh}
use Rattle.tez_core.specs.Parts.{task_at}
use Rattle.tez_core.specs.Choosing.{queued_one}
use Rattle.tez_lead.specs.Kept.{AreVertices, IsKept, is_waiting, queue_of}
use Rattle.tez_lead.proofs.Lists.{long_map}
use Rattle.tez_lead.proofs.Tasks.{at_vertex}
use Rattle.tez_lead.proofs.Queues.{with_rows}

module _ (g : Dag) (c : ConfValues) (epoch : ℕ) where
  new_at : (v : ℕ) (x : Vertex) → slice_get (new_vertices g c epoch) v ≡ Some x → new_vertex (vertex v) epoch c.max_failed ≡ x
  new_at v x h =
      let make = λ (w : ℕ). new_vertex (vertex w) epoch c.max_failed in
      let long = long_map make 0 (length g.vertices) in
      let inside : v < length g.vertices = subst (λ n. v < n) long (slice_get_within (new_vertices g c epoch) v x h) in
      same_Some (make v) x (sym (get_each make 0 (length g.vertices) v inside ∙ ap (λ w. Some (make w)) (zero-add v)) ∙ h)

  none_of : (v i : ℕ) (s : TaskState) (x : Vertex) → new_vertex (vertex v) epoch c.max_failed ≡ x → slice_get x.tasks i ≡ Some s → ⊥
  none_of v i s x e h = let none : None ≡ Some s = ap (λ (y : Vertex). slice_get y.tasks i) e ∙ h in cc

  new_fits : AreVertices g (new_vertices g c epoch)
  new_fits = record {
    sized = long_map (λ w. new_vertex (vertex w) epoch c.max_failed) 0 (length g.vertices);
    each = λ v x h. let e = new_at v x h in record {
      number = ap (λ (y : Vertex). y.vertex) (sym e);
      few = subst (λ (y : Vertex). length y.tasks ≤ planned g v) e (omega arith);
      unconfigured = λ u. subst (λ (y : Vertex). length y.tasks ≡ 0) e refl;
      tasks = λ i s k. absurd (none_of v i s x e k);
    };
  }

  no_task : (t : TaskId) → task_at (new_vertices g c epoch) t ≡ None
  no_task t = by (slice_get (new_vertices g c epoch) t.vertex.0) refl where
    by : (o : Option Vertex) → slice_get (new_vertices g c epoch) t.vertex.0 ≡ o → task_at (new_vertices g c epoch) t ≡ None
    by None e = ap (option_and_then (λ (y : Vertex). task_of y t.index)) e
    by (Some x) e = at_vertex (new_vertices g c epoch) t x e ∙ sym (ap (λ (y : Vertex). task_of y t.index) (new_at t.vertex.0 x e))

  new_queue : empty_queue g ≡ queue_of g (new_vertices g c epoch)
  new_queue = ap (with_rows g) (table_same (λ v i. false) (is_waiting (new_vertices g c epoch)) (planned g) (length g.vertices) (λ v i. sym (ap (λ (o : Option TaskState). is_some (option_and_then queued_one o)) (no_task (task v i)))))

  planned_there : (v : ℕ) → planned_at (map layout (planned_schedule g c).vertices) v ≡ planned g v
  planned_there v = ap (λ ls. planned_at ls v) (map_each layout (planned_vertex g c) 0 (length g.vertices)) ∙ by (cases_lt v (length g.vertices)) where
    by : (v < length g.vertices) ⊎ (length g.vertices ≤ v) → planned_at (map (λ w. layout (planned_vertex g c w)) (numbers_from 0 (length g.vertices))) v ≡ planned g v
    by (inl l) = ap (λ (o : Option Layout). option_map_or (λ (x : Layout). x.planned) o 0) (get_each (λ w. layout (planned_vertex g c w)) 0 (length g.vertices) v l) ∙ ap (planned g) (zero-add v)
    by (inr l) =
        let long = long_map (λ w. layout (planned_vertex g c w)) 0 (length g.vertices) in
        ap (λ (o : Option Layout). option_map_or (λ (x : Layout). x.planned) o 0) (slice_get_past (map (λ w. layout (planned_vertex g c w)) (numbers_from 0 (length g.vertices))) v (omega arith))
        ∙ sym (ap (λ o. option_map_or (λ s. s.tasks) o 0) (slice_get_past g.vertices v l))

pub new_kept : (g : Dag) (c : ConfValues) (epoch : ℕ) (pool : PoolState) (m : MasterState) (q : Queue) → AreIn g pool.places → pool.per_node ≡ c.per_node
    → m ≡ fresh g c epoch pool → q ≡ empty_queue g → IsKept m q
new_kept g c epoch pool m q within places is e = subst (λ n. IsKept n q) (sym is) (record {
  fit = record { vertices = new_fits g c epoch; within = within; places = places; tasks = planned_there g c epoch };
  queue = e ∙ new_queue g c epoch;
})
