-- What each entry makes of the parts that are the master's own: where pieces lie, which sinks are readied and asked of.
use Rattle.std.specs.Prelude.{◌≡◌, ℕ, ◌+◌, ◌<◌, Bool, true, false, ◌||◌, ◌==◌, if◌then◌else◌, List, [], ◌∷◌, map, length, slice_get, slice_set, Option, Some, None, unwrap_or, option_and_then, refl}
use Rattle.std.proofs.Common.{ap, sym, ◌∙◌, subst, arith, zero-add}
use Rattle.std.proofs.lemmas.Bool.Decides.{nat_tests}
use Rattle.tez_ids.specs.declared.TaskId.{TaskId}
use Rattle.tez_ids.specs.declared.AttemptId.{AttemptId}
use Rattle.tez_ids.specs.declared.VertexId.{VertexId}
use Rattle.tez_ids.specs.Same.{task, same_task, same_attempt}
use Rattle.tez_lists.specs.Numbers.{numbers_from}
use Rattle.tez_lists.specs.Tables.{set_in}
use Rattle.tez_lists.proofs.Tables.{map_below, map_each, set_each, set_table, cell_get}
use Rattle.tez_plan.specs.Dag.{Dag, edge, tasks_of as planned}
use Rattle.tez_conf.specs.declared.values.ConfValues.{ConfValues}
use Rattle.tez_events.specs.declared.Entry.TheVariants.{Succeeded, Made, NodeLost, OutputLost, Rerun, Ready, Asked}
use Rattle.tez_history.specs.Shape.{vertices, slot_of}
use Rattle.tez_history.specs.History.{Past, Runs, Location, Nowhere, On, InQuestion, extend, stage, winner, location, put_by, lost_on, is_readied, was_asked}
use Rattle.tez_history.specs.Derived.{task_count, is_configured}
use Rattle.tez_history.specs.Steps.{withdrawal}
use Rattle.tez_history.specs.Follows.{IsMade}
use Rattle.tez_laws.proofs.Same.{same_task-true, same_attempt-refl}
use Rattle.tez_laws.proofs.Tasks.{winner_task}
use Rattle.tez_laws.proofs.StepLaw.{both, below}
use Rattle.tez_vertex_view.proofs.Losing.{withdrawn_fact}
use Rattle.tez_router_view.specs.View.{FitsPlan}
use Rattle.tez_router_view.proofs.Winners.{won_vertex, won_task_there, withdrawn_winner}
use Rattle.tez_master_model.specs.Settled.{on_no_slot}
use Rattle.tez_master_view.specs.View.{slot_by, location_view, locations_view}
use Rattle.tez_master_view.proofs.Parts.{lose_location, none_readied}

-- ---- where pieces lie

-- where one task's entry changes
pub location_set : (g : Dag) (c : ConfValues) (past later : Past) (t : TaskId) (x : Option ℕ) → t.vertex.0 < length g.vertices → ((u : TaskId) → (if same_task t u then x else location_view c past u) ≡ location_view c later u)
    → set_in (locations_view g c past) t.vertex.0 t.index x ≡ locations_view g c later
location_set g c past later t x inside is =
    set_table (λ v i. location_view c past (task v i)) (λ v i. location_view c later (task v i)) (planned g) (length g.vertices) t.vertex.0 t.index x inside (λ w j. is (task w j))

other_attempt : (a b : AttemptId) (t : TaskId) → same_task a.task t ≡ false → b.task ≡ t → same_attempt a b ≡ false
other_attempt a b t h e = grind (arith, nat_tests)

-- the pieces of another task's winner
if_not : {X : Type 0} (b : Bool) (x y : X) → b ≡ false → (if b then x else y) ≡ y
if_not true x y h = cc
if_not false x y h = refl

if_so : {X : Type 0} (b : Bool) (x y : X) → b ≡ true → (if b then x else y) ≡ x
if_so true x y h = refl
if_so false x y h = cc

abbrev location_by : (AttemptId → Location) → Option AttemptId → Option ℕ
location_by f o = option_and_then (λ w. slot_by (f w)) o

others_location : (a : AttemptId) (t : TaskId) (new f : AttemptId → Location) (o : Option AttemptId) → same_task a.task t ≡ false → ((w : AttemptId) → o ≡ Some w → w.task ≡ t) → location_by f o ≡ location_by (λ w. if same_attempt a w then new w else f w) o
others_location a t new f None h of = refl
others_location a t new f (Some w) h of = ap slot_by (sym (if_not (same_attempt a w) (new w) (f w) (other_attempt a w t h (of w refl))))

its_location : (a : AttemptId) (new f : AttemptId → Location) → location_by (λ w. if same_attempt a w then new w else f w) (Some a) ≡ slot_by (new a)
its_location a new f = ap slot_by (if_so (same_attempt a a) (new a) (f a) (same_attempt-refl a))

done_location : (c : ConfValues) (past : Past) (a : AttemptId) (x : Option ℕ) (u : TaskId) → slot_by (put_by c (stage a past)) ≡ x → (if same_task a.task u then x else location_view c past u) ≡ location_view c (Succeeded a ∷ past) u
done_location c past a x u is = by (same_task a.task u) refl where
  by : (b : Bool) → same_task a.task u ≡ b → (if b then x else location_view c past u) ≡ location_by (λ w. if same_attempt a w then put_by c (stage w past) else location c w past) (if b then Some a else winner u past)
  by true e = sym (its_location a (λ w. put_by c (stage w past)) (λ w. location c w past) ∙ is)
  by false e = others_location a u (λ w. put_by c (stage w past)) (λ w. location c w past) (winner u past) e (winner_task past u)

made_locations : (g : Dag) (c : ConfValues) (past : Past) (a : AttemptId) (made : List (ℕ × ℕ)) → locations_view g c (extend past (map (λ m. Made a (edge m.0) m.1) made)) ≡ locations_view g c past
made_locations g c past a [] = refl
made_locations g c past a (x ∷ xs) = made_locations g c (Made a (edge x.0) x.1 ∷ past) a xs

pub done_locations : (g : Dag) (c : ConfValues) (past : Past) (a : AttemptId) (made : List (ℕ × ℕ)) (p : ℕ) → stage a past ≡ Runs p → a.task.vertex.0 < length g.vertices
    → set_in (locations_view g c past) a.task.vertex.0 a.task.index (Some (slot_of c p)) ≡ locations_view g c (extend (Succeeded a ∷ past) (map (λ m. Made a (edge m.0) m.1) made))
done_locations g c past a made p runs inside =
    location_set g c past (Succeeded a ∷ past) a.task (Some (slot_of c p)) inside (λ u. done_location c past a (Some (slot_of c p)) u (ap (λ s. slot_by (put_by c s)) runs))
    ∙ sym (made_locations g c (Succeeded a ∷ past) a made)

-- an output is lost
lost_location : (c : ConfValues) (past : Past) (t : TaskId) (w : AttemptId) (u : TaskId) → winner t past ≡ Some w → (if same_task t u then None else location_view c past u) ≡ location_view c (OutputLost w ∷ past) u
lost_location c past t w u won = by (same_task t u) refl where
  of : w.task ≡ t
  of = winner_task past t w won

  by : (b : Bool) → same_task t u ≡ b → (if b then None else location_view c past u) ≡ location_by (λ x. if same_attempt w x then Nowhere else location c x past) (winner u past)
  by true e =
      sym
      (ap (location_by (λ x. if same_attempt w x then Nowhere else location c x past)) (subst (λ s. winner s past ≡ Some w) (same_task-true t u e) won)
      ∙ its_location w (λ x. Nowhere) (λ x. location c x past))
  by false e = others_location w u (λ x. Nowhere) (λ x. location c x past) (winner u past) (subst (λ s. same_task s u ≡ false) (sym of) e) (winner_task past u)

pub lost_locations : (g : Dag) (c : ConfValues) (past : Past) (t : TaskId) (w : AttemptId) → IsMade g c past → winner t past ≡ Some w → set_in (locations_view g c past) t.vertex.0 t.index None ≡ locations_view g c (OutputLost w ∷ past)
lost_locations g c past t w m won = location_set g c past (OutputLost w ∷ past) t None (won_vertex g c past m t w won) (λ u. lost_location c past t w u won)

-- a winner is withdrawn
rerun_location : (c : ConfValues) (past : Past) (w : AttemptId) (u : TaskId) → winner w.task past ≡ Some w → (if same_task w.task u then None else location_view c past u) ≡ location_view c (Rerun w ∷ past) u
rerun_location c past w u won = by (same_task w.task u) ∙ sym (ap (location_by (λ x. location c x past)) (withdrawn_winner past w u won)) where
  by : (b : Bool) → (if b then None else location_view c past u) ≡ location_by (λ x. location c x past) (if b then None else winner u past)
  by true = refl
  by false = refl

pub withdrawn_locations : (g : Dag) (c : ConfValues) (past : Past) (w : AttemptId) → w.task.vertex.0 < length g.vertices → winner w.task past ≡ Some w → lose_location (locations_view g c past) w ≡ locations_view g c (extend past (withdrawal g past w))
withdrawn_locations g c past w inside won =
    location_set g c past (Rerun w ∷ past) w.task None inside (λ u. rerun_location c past w u won)
    ∙ sym (withdrawn_fact g past w (λ p. locations_view g c p) (λ p a e i x. refl) (λ p. refl))

-- a node is lost
slot_lost : (slot : ℕ) (l : Location) → on_no_slot slot (slot_by l) ≡ slot_by (lost_on slot l)
slot_lost slot Nowhere = refl
slot_lost slot (On s) = by (s == slot) where
  by : (b : Bool) → (if b then None else Some s) ≡ slot_by (if b then Nowhere else On s)
  by true = refl
  by false = refl
slot_lost slot (InQuestion s) = by (s == slot) where
  by : (b : Bool) → None ≡ slot_by (if b then Nowhere else InQuestion s)
  by true = refl
  by false = refl

node_location : (slot : ℕ) (f : AttemptId → Location) (o : Option AttemptId) → on_no_slot slot (location_by f o) ≡ location_by (λ w. lost_on slot (f w)) o
node_location slot f None = refl
node_location slot f (Some w) = slot_lost slot (f w)

pub node_locations : (g : Dag) (c : ConfValues) (past : Past) (slot l : ℕ) → map (map (on_no_slot slot)) (locations_view g c past) ≡ locations_view g c (NodeLost slot l ∷ past)
node_locations g c past slot l =
    map_each (map (on_no_slot slot)) (λ v. map (λ i. location_view c past (task v i)) (numbers_from 0 (planned g v))) 0 (length g.vertices)
    ∙ map_below (λ v. map (on_no_slot slot) (map (λ i. location_view c past (task v i)) (numbers_from 0 (planned g v)))) (λ v. map (λ i. location_view c (NodeLost slot l ∷ past) (task v i)) (numbers_from 0 (planned g v))) 0 (length g.vertices)
    (λ v _ _.
    map_each (on_no_slot slot) (λ i. location_view c past (task v i)) 0 (planned g v)
    ∙ map_below (λ i. on_no_slot slot (location_view c past (task v i))) (λ i. location_view c (NodeLost slot l ∷ past) (task v i)) 0 (planned g v) (λ i _ _. node_location slot (λ w. location c w past) (winner (task v i) past)))

-- what the table tells of a winner
pub location_read : (g : Dag) (c : ConfValues) (past : Past) (w : AttemptId) → IsMade g c past → FitsPlan g past → winner w.task past ≡ Some w
    → unwrap_or (slice_get (unwrap_or (slice_get (locations_view g c past) w.task.vertex.0) []) w.task.index) None ≡ slot_by (location c w past)
location_read g c past w m fits won =
    let there = both {x = is_configured w.task.vertex.0 past} (won_task_there g c past m w.task w won) in
    let low : w.task.index < task_count g w.task.vertex.0 past = below w.task.index (task_count g w.task.vertex.0 past) there.1 in
    let few = fits w.task.vertex.0 in
    ap (λ x. unwrap_or x None) (cell_get (λ v i. location_view c past (task v i)) (planned g) (length g.vertices) w.task.vertex.0 w.task.index (won_vertex g c past m w.task w won) (omega (arith, low, few)))
    ∙ ap (location_by (λ x. location c x past)) won

-- ---- sinks

abbrev pub readied_view : Dag → Past → List Bool
readied_view g past = map (λ v. is_readied v past) (vertices g)

abbrev pub asked_view : Dag → Past → List Bool
asked_view g past = map (λ v. was_asked v past) (vertices g)

-- one more
flagged : (f : ℕ → Bool) (v n : ℕ) → slice_set (map f (numbers_from 0 n)) v true ≡ map (λ w. (v == w) || f w) (numbers_from 0 n)
flagged f v n =
    set_each f true 0 n v
    ∙ map_below (λ q. if (0 + v) == q then true else f q) (λ w. (v == w) || f w) 0 n (λ w _ _. ap (λ k. if k == w then true else f w) (zero-add v) ∙ by w (v == w))
  where
    by : (w : ℕ) (b : Bool) → (if b then true else f w) ≡ (b || f w)
    by w true = refl
    by w false = refl

pub ready_set : (g : Dag) (past : Past) (v : VertexId) → slice_set (readied_view g past) v.0 true ≡ readied_view g (Ready v ∷ past)
ready_set g past v = flagged (λ w. is_readied w past) v.0 (length g.vertices)

pub asked_set : (g : Dag) (past : Past) (v : VertexId)
    → slice_set (asked_view g past) v.0 true ≡ asked_view g (Asked v ∷ past)
asked_set g past v = flagged (λ w. was_asked w past) v.0 (length g.vertices)

pub withdrawn_readied : (g : Dag) (past : Past) (w : AttemptId) → none_readied (readied_view g past) ≡ readied_view g (extend past (withdrawal g past w))
withdrawn_readied g past w = map_each (λ b. false) (λ v. is_readied v past) 0 (length g.vertices) ∙ sym (withdrawn_fact g past w (λ p. readied_view g p) (λ p a e i x. refl) (λ p. refl))
