-- What was fetched over an edge is below the number of its inputs, and the vertices at its ends are configured.
--     fetched_to       the consumer is configured
--     count_stays      the number of inputs stays, while the ends do
--     fetched_below    an input that was fetched is one of the inputs
use Rattle.std.specs.Prelude.{◌≡◌, ◌⊎◌, ℕ, ◌<◌, ◌==◌, ◌&&◌, ◌||◌, nat_lt, Bool, true, false, if◌then◌else◌, [], ◌∷◌, Option, Some, None, is_some, unwrap_or, refl}
use Rattle.std.proofs.Common.{inl, inr, ap, ap₂, sym, ◌∙◌, subst}
use Rattle.std.proofs.lemmas.Bool.{eqb-true}
use Rattle.tez_ids.specs.declared.AttemptId.{AttemptId}
use Rattle.tez_ids.specs.declared.EdgeId.{EdgeId}
use Rattle.tez_ids.specs.Same.{same_attempt}
use Rattle.tez_lists.specs.Numbers.{In}
use Rattle.tez_plan.specs.Dag.{Dag, from, to, tasks_of as planned}
use Rattle.tez_plan.specs.declared.parts.EdgeSpec.{EdgeSpec}
use Rattle.tez_conf.specs.declared.values.ConfValues.{ConfValues}
use Rattle.tez_vman.specs.declared.seen.Config.{Config}
use Rattle.tez_vman.specs.Rules.{config as shape}
use Rattle.tez_events.specs.declared.Entry.{Entry}
use Rattle.tez_events.specs.declared.Entry.TheVariants.{Opened, Over, Stands, Configured, Fetched, Stopped}
use Rattle.tez_history.specs.Shape.{Edge, edges_to}
use Rattle.tez_history.specs.History.{Past, config, stage, is_fetched}
use Rattle.tez_history.specs.Derived.{is_configured, input_count, table_by}
use Rattle.tez_history.specs.Steps.{winner_behind}
use Rattle.tez_history.specs.Follows.{IsMade}
use Rattle.tez_laws.proofs.Same.{same_attempt-true}
use Rattle.tez_laws.proofs.OneLive.{waiting_alive}
use Rattle.tez_laws.proofs.StepLaw.{both, alive_task}
use Rattle.tez_router_view.proofs.Edges.{one_edge, edge_in, edge_target}
use Rattle.tez_router_view.proofs.Sources.{edge_of, behind, input-in, fetched_from}

stays_some : (b : Bool) (o : Option Config) (s : Config) → is_some o ≡ true → is_some (if b then Some s else o) ≡ true
stays_some true o s h = refl
stays_some false o s h = h

pub is_that : (same x y old : Bool) → ((same && (x && y)) || old) ≡ true → ((same ≡ true) × (x ≡ true) × (y ≡ true)) ⊎ (old ≡ true)
is_that true true true old h = inl (refl, refl, refl)
is_that true true false old h = inr h
is_that true false y old h = inr h
is_that false x y old h = inr h

-- the vertex of a live attempt is configured
pub alive_configured : (g : Dag) (c : ConfValues) (past : Past) (a : AttemptId) → IsMade g c past → Rattle.tez_history.specs.Follows.IsAlive (stage a past) → is_configured a.task.vertex.0 past ≡ true
alive_configured g c past a m h = (both {x = is_configured a.task.vertex.0 past} (alive_task g c past a m h).0).0

pub fetched_to : (g : Dag) (c : ConfValues) (past : Past) → IsMade g c past → (a : AttemptId) (n i : ℕ) → is_fetched a n i past ≡ true → is_configured a.task.vertex.0 past ≡ true
fetched_to g c [] m a n i h = cc
fetched_to g c (Opened _ ∷ past) m a n i h = cc
fetched_to g c (Over ∷ past) m a n i h = cc
fetched_to g c (Stopped _ ∷ past) m a n i h = cc
fetched_to g c (Stands v t b ∷ past) m a n i h = stays_some (v.0 == a.task.vertex.0) (config a.task.vertex.0 past) (shape t b) (fetched_to g c past m.1 a n i h)
fetched_to g c (Configured v t b ∷ past) m a n i h = stays_some (v.0 == a.task.vertex.0) (config a.task.vertex.0 past) (shape t b) (fetched_to g c past m.1 a n i h)
fetched_to g c (Fetched b d j w ∷ past) m a n i h =
    by (is_that (same_attempt b a) (d.0 == n) (j == i) (is_fetched a n i past) h) (fetched_to g c past m.1 a n i) where
      by : ((same_attempt b a ≡ true) × ((d.0 == n) ≡ true) × ((j == i) ≡ true)) ⊎ (is_fetched a n i past ≡ true) → (is_fetched a n i past ≡ true → is_configured a.task.vertex.0 past ≡ true) → is_configured a.task.vertex.0 past ≡ true
      by (inl k) ih = subst (λ (x : AttemptId). is_configured x.task.vertex.0 past ≡ true) (same_attempt-true b a k.0) (alive_configured g c past b m.1 (waiting_alive (stage b past) m.0.0))
      by (inr k) ih = ih k
fetched_to g c (_ ∷ past) m a n i h = fetched_to g c past m.1 a n i h

-- ---- the number of inputs stays

-- a configured vertex is not the one that is configured now
pub config_stays : (past : Past) (v u : ℕ) (s : Config) → config v past ≡ None → is_configured u past ≡ true → (if v == u then Some s else config u past) ≡ config u past
config_stays past v u s none h = by (v == u) refl where
  by : (x : Bool) → (v == u) ≡ x → (if x then Some s else config u past) ≡ config u past
  by true e = let same : v ≡ u = eqb-true v u e in let gone : config u past ≡ None = subst (λ w. config w past ≡ None) same none in let no : is_configured u past ≡ false = ap is_some gone in cc
  by false e = refl

abbrev count_for : Dag → EdgeSpec → ℕ → Option Config → Option Config → ℕ
count_for g e t u v =
    let source = unwrap_or u (shape (planned g (from g e)) 1) in
    let own = unwrap_or v (shape (planned g (to g e)) 1) in
    let table = table_by e.movement source.tasks own.tasks (planned g (to g e)) own.base in
    if nat_lt t table.consumers then table.inputs_of t else 0

pub count_stays : (g : Dag) (past later : Past) (e : EdgeSpec) (t : ℕ) → config (from g e) later ≡ config (from g e) past → config (to g e) later ≡ config (to g e) past → input_count g later e t ≡ input_count g past e t
count_stays g past later e t p q = ap₂ (count_for g e t) p q

count_kept : (g : Dag) (c : ConfValues) (past : Past) (v : ℕ) (s : Config) (x : Entry) → IsMade g c past → config v past ≡ None → ((u : ℕ) → config u (x ∷ past) ≡ (if v == u then Some s else config u past))
    → (a : AttemptId) (e : Edge) (i : ℕ) → In e (edges_to g a.task.vertex.0) → is_fetched a e.0 i past ≡ true → input_count g (x ∷ past) e.1 a.task.index ≡ input_count g past e.1 a.task.index
count_kept g c past v s x m none sets a e i there h =
    let u = from g e.1 in
    let own : to g e.1 ≡ a.task.vertex.0 = edge_target g a.task.vertex.0 e there in
    let fed : is_configured u past ≡ true = fetched_from g c past m a e i (edge_in g a.task.vertex.0 e there) h in
    let is : is_configured (to g e.1) past ≡ true = subst (λ w. is_configured w past ≡ true) (sym own) (fetched_to g c past m a e.0 i h) in
    count_stays g past (x ∷ past) e.1 a.task.index (sets u ∙ config_stays past v u s none fed) (sets (to g e.1) ∙ config_stays past v (to g e.1) s none is)

-- ---- an input that was fetched is one of the inputs

pub behind_below : (g : Dag) (past : Past) (a : AttemptId) (e : Edge) (i : ℕ) (w : AttemptId) → In e (edges_to g a.task.vertex.0) → winner_behind g past a e.0 i ≡ Some w → i < input_count g past e.1 a.task.index
behind_below g past a e i w there h =
    let r = behind g past a e.0 i w h in
    let k = input-in g past a r.at r.there in
    let one : edge_of r.at ≡ e = one_edge g.edges (edge_of r.at) e (edge_in g a.task.vertex.0 (edge_of r.at) k.edge) (edge_in g a.task.vertex.0 e there) r.edge in
    subst (λ (x : Edge). i < input_count g past x.1 a.task.index) one (subst (λ y. y < input_count g past r.at.1 a.task.index) r.number k.below)

fetched_one : (g : Dag) (past : Past) (b a : AttemptId) (d : EdgeId) (j : ℕ) (w : AttemptId) (e : Edge) (i : ℕ) → In e (edges_to g a.task.vertex.0) → winner_behind g past b d.0 j ≡ Some w
    → b ≡ a → d.0 ≡ e.0 → j ≡ i → i < input_count g past e.1 a.task.index
fetched_one g past b a d j w e i there h who edge number =
    behind_below g past a e i w there (subst (λ x. winner_behind g past x e.0 i ≡ Some w) who (subst (λ x. winner_behind g past b x i ≡ Some w) edge (subst (λ x. winner_behind g past b d.0 x ≡ Some w) number h)))

pub fetched_below : (g : Dag) (c : ConfValues) (past : Past) → IsMade g c past → (a : AttemptId) (e : Edge) (i : ℕ) → In e (edges_to g a.task.vertex.0) → is_fetched a e.0 i past ≡ true → i < input_count g past e.1 a.task.index
fetched_below g c [] m a e i there h = cc
fetched_below g c (Opened _ ∷ past) m a e i there h = cc
fetched_below g c (Over ∷ past) m a e i there h = cc
fetched_below g c (Stopped _ ∷ past) m a e i there h = cc
fetched_below g c (Stands v t b ∷ past) m a e i there h =
    subst (λ n. i < n) (sym (count_kept g c past v.0 (shape t b) (Stands v t b) m.1 m.0.0 (λ u. refl) a e i there h)) (fetched_below g c past m.1 a e i there h)
fetched_below g c (Configured v t b ∷ past) m a e i there h =
    subst (λ n. i < n) (sym (count_kept g c past v.0 (shape t b) (Configured v t b) m.1 m.0.0 (λ u. refl) a e i there h)) (fetched_below g c past m.1 a e i there h)
fetched_below g c (Fetched b d j w ∷ past) m a e i there h =
    by (is_that (same_attempt b a) (d.0 == e.0) (j == i) (is_fetched a e.0 i past) h) (fetched_below g c past m.1 a e i there) where
      by : ((same_attempt b a ≡ true) × ((d.0 == e.0) ≡ true) × ((j == i) ≡ true)) ⊎ (is_fetched a e.0 i past ≡ true) → (is_fetched a e.0 i past ≡ true → i < input_count g past e.1 a.task.index) → i < input_count g past e.1 a.task.index
      by (inl k) ih = fetched_one g past b a d j w e i there m.0.2 (same_attempt-true b a k.0) (eqb-true d.0 e.0 k.1) (eqb-true j i k.2)
      by (inr k) ih = ih k
fetched_below g c (_ ∷ past) m a e i there h = fetched_below g c past m.1 a e i there h
