-- Inputs by their numbers, and that what was fetched over an edge came from a configured vertex.
use Rattle.std.specs.Prelude.{◌≡◌, ◌⊎◌, ℕ, ◌<◌, Bool, true, false, ◌&&◌, ◌||◌, ◌==◌, if◌then◌else◌, cond, List, [], ◌∷◌, map, Option, Some, None, is_some, refl}
use Rattle.std.specs.List.{find, enumerate_from}
use Rattle.std.proofs.Common.{ap, sym, ◌∙◌, arith, subst, inl, inr}
use Rattle.std.proofs.lemmas.Bool.Decides.{nat_tests}
use Rattle.std.proofs.lemmas.Option.{same_Some}
use Rattle.tez_ids.specs.declared.TaskId.{TaskId}
use Rattle.tez_ids.specs.declared.AttemptId.{AttemptId}
use Rattle.tez_ids.specs.declared.EdgeId.{EdgeId}
use Rattle.tez_ids.specs.Same.{same_attempt}
use Rattle.tez_events.specs.declared.Entry.TheVariants.{Opened, Over, Stands, Configured, Fetched, Stopped}
use Rattle.tez_lists.specs.Numbers.{In}
use Rattle.tez_plan.specs.Dag.{Dag, from}
use Rattle.tez_conf.specs.declared.values.ConfValues.{ConfValues}
use Rattle.tez_vman.specs.declared.seen.Config.{Config}
use Rattle.tez_vman.specs.Rules.{config as shape}
use Rattle.tez_history.specs.Shape.{numbers_below, Edge, edges_to}
use Rattle.tez_history.specs.History.{Past, config, winner, live, is_fetched}
use Rattle.tez_history.specs.Derived.{Input, inputs, input_count, source_of_input, is_configured}
use Rattle.tez_history.specs.Steps.{input_at, winner_of_input, winner_behind}
use Rattle.tez_history.specs.Follows.{IsMade}
use Rattle.tez_laws.proofs.StepLaw.{both}
use Rattle.tez_router_view.proofs.Edges.{one_edge, edge_in}
use Rattle.tez_router_view.proofs.Ordering.{in-flat, in-mapped, in-numbers}
use Rattle.tez_router_view.proofs.Winners.{won_task_there, live_task_there}

-- ---- an input that there is

pub find-in : {X : Type 0} (p : X → Bool) (xs : List X) (x : X) → find p xs ≡ Some x → In x xs × (p x ≡ true)
find-in p [] x h = cc
find-in p (y ∷ ys) x h = by (p y) refl h (find-in p ys x) where
  by : (b : Bool) → p y ≡ b → cond b (Some y) (find p ys) ≡ Some x → (find p ys ≡ Some x → In x ys × (p x ≡ true)) → In x (y ∷ ys) × (p x ≡ true)
  by true e k ih = let s : y ≡ x = same_Some y x k in (inl (sym s), subst (λ z. p z ≡ true) s e)
  by false e k ih = let r = ih k in (inr r.0, r.1)

abbrev pub edge_of : Input → Edge
edge_of k = (k.0, k.1)

-- the edge of an input, and that its number is below their count
pub record IsInputOf (g : Dag) (past : Past) (a : AttemptId) (k : Input) : Type 0 where
  pub edge : In (edge_of k) (edges_to g a.task.vertex.0)
  pub below : k.2 < input_count g past k.1 a.task.index

input_facts : (g : Dag) (past : Past) (a : AttemptId) (e : Edge) (i : ℕ) (k : Input) → k ≡ (e.0, e.1, i) → In e (edges_to g a.task.vertex.0) → i < input_count g past e.1 a.task.index → IsInputOf g past a k
input_facts g past a e i k same there low = subst (IsInputOf g past a) (sym same) (record { edge = there; below = low })

pub input-in : (g : Dag) (past : Past) (a : AttemptId) (k : Input) → In k (inputs g past a) → IsInputOf g past a k
input-in g past a k h =
    let r = in-flat (λ e. map (λ i. (e.0, e.1, i)) (numbers_below (input_count g past e.1 a.task.index))) k (edges_to g a.task.vertex.0) h in
    let q = in-mapped (λ i. (r.0.0, r.0.1, i)) k (numbers_below (input_count g past r.0.1 a.task.index)) r.2 in
    let l = in-numbers 0 (input_count g past r.0.1 a.task.index) q.0 q.1 in
    input_facts g past a r.0 q.0 k q.2 r.1 (omega (arith, l.1))

-- ---- what is behind an input

pub record IsBehind (g : Dag) (past : Past) (a : AttemptId) (e i : ℕ) (w : AttemptId) : Type 0 where
  pub at : Input
  pub there : In at (inputs g past a)
  pub edge : at.0 ≡ e
  pub number : at.2 ≡ i
  pub won : winner (source_of_input g past a at) past ≡ Some w

names : (x e y i : ℕ) → ((x == e) && (y == i)) ≡ true → (x ≡ e) × (y ≡ i)
names x e y i h = (grind (arith, nat_tests), grind (arith, nat_tests))

pub behind : (g : Dag) (past : Past) (a : AttemptId) (e i : ℕ) (w : AttemptId) → winner_behind g past a e i ≡ Some w → IsBehind g past a e i w
behind g past a e i w h = by (input_at g past a e i) refl h where
  by : (o : Option Input) → input_at g past a e i ≡ o → winner_of_input g past a o ≡ Some w → IsBehind g past a e i w
  by None s k = cc
  by (Some x) s k =
      let r = find-in (λ y. (y.0 == e) && (y.2 == i)) (inputs g past a) x s in
      let n = names x.0 e x.2 i r.1 in
      record { at = x; there = r.0; edge = n.0; number = n.1; won = k }

-- ---- what was fetched came from a configured vertex

stays_some : (b : Bool) (o : Option Config) (s : Config) → is_some o ≡ true → is_some (if b then Some s else o) ≡ true
stays_some true o s h = refl
stays_some false o s h = h

numbers_agree : (same d e x : Bool) → ((same && (d && e)) || x) ≡ true → (d ≡ true) ⊎ (x ≡ true)
numbers_agree true true true x h = inl refl
numbers_agree true true false x h = inr h
numbers_agree true false e x h = inr h
numbers_agree false d e x h = inr h

is_number : (d e : ℕ) → (d == e) ≡ true → d ≡ e
is_number d e h = grind (arith, nat_tests)

fetch_source : (g : Dag) (c : ConfValues) (past : Past) → IsMade g c past → (b : AttemptId) (d : EdgeId) (j : ℕ) (w : AttemptId) (e : Edge) → In e (enumerate_from 0 g.edges) → d.0 ≡ e.0
    → winner_behind g past b d.0 j ≡ Some w → is_configured (from g e.1) past ≡ true
fetch_source g c past m b d j w e there same h =
    let r = behind g past b d.0 j w h in
    let k = input-in g past b r.at r.there in
    let one : edge_of r.at ≡ e = one_edge g.edges (edge_of r.at) e (edge_in g b.task.vertex.0 (edge_of r.at) k.edge) there (r.edge ∙ same) in
    let won = won_task_there g c past m (source_of_input g past b r.at) w r.won in
    subst (λ x. is_configured (from g x.1) past ≡ true) one (both {x = is_configured (from g r.at.1) past} won).0

pub fetched_from : (g : Dag) (c : ConfValues) (past : Past) → IsMade g c past → (a : AttemptId) (e : Edge) (i : ℕ) → In e (enumerate_from 0 g.edges) → is_fetched a e.0 i past ≡ true → is_configured (from g e.1) past ≡ true
fetched_from g c [] m a e i there h = cc
fetched_from g c (Opened _ ∷ past) m a e i there h = cc
fetched_from g c (Over ∷ past) m a e i there h = cc
fetched_from g c (Stopped _ ∷ past) m a e i there h = cc
fetched_from g c (Stands v n b ∷ past) m a e i there h = stays_some (v.0 == from g e.1) (config (from g e.1) past) (shape n b) (fetched_from g c past m.1 a e i there h)
fetched_from g c (Configured v n b ∷ past) m a e i there h = stays_some (v.0 == from g e.1) (config (from g e.1) past) (shape n b) (fetched_from g c past m.1 a e i there h)
fetched_from g c (Fetched b d j w ∷ past) m a e i there h =
    by (numbers_agree (same_attempt b a) (d.0 == e.0) (j == i) (is_fetched a e.0 i past) h) (fetched_from g c past m.1 a e i there) where
      by : (((d.0 == e.0) ≡ true) ⊎ (is_fetched a e.0 i past ≡ true)) → (is_fetched a e.0 i past ≡ true → is_configured (from g e.1) past ≡ true) → is_configured (from g e.1) past ≡ true
      by (inl k) ih = fetch_source g c past m.1 b d j w e there (is_number d.0 e.0 k) m.0.2
      by (inr k) ih = ih k
fetched_from g c (_ ∷ past) m a e i there h = fetched_from g c past m.1 a e i there h

-- a vertex that is not configured has no live attempt
pub no_live_there : (g : Dag) (c : ConfValues) (past : Past) → IsMade g c past → (t : TaskId) → config t.vertex.0 past ≡ None → live t past ≡ None
no_live_there g c past m t none = by (live t past) refl where
  by : (o : Option AttemptId) → live t past ≡ o → live t past ≡ None
  by None e = e
  by (Some a) e = let k = (both {x = is_configured t.vertex.0 past} (live_task_there g c past m t a e)).0 in let no : is_configured t.vertex.0 past ≡ false = ap is_some none in cc

pub none_fetched_from : (g : Dag) (c : ConfValues) (past : Past) → IsMade g c past → (a : AttemptId) (e : Edge) (i : ℕ) → In e (enumerate_from 0 g.edges) → config (from g e.1) past ≡ None → is_fetched a e.0 i past ≡ false
none_fetched_from g c past m a e i there none = by (is_fetched a e.0 i past) refl where
  by : (b : Bool) → is_fetched a e.0 i past ≡ b → is_fetched a e.0 i past ≡ false
  by false h = h
  by true h = let k = fetched_from g c past m a e i there h in let no : is_configured (from g e.1) past ≡ false = ap is_some none in cc
