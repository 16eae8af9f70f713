-- The entries of a start take all that is found, where it is of a standing that the plan can have.
use Rattle.std.specs.Prelude.{◌≡◌, ◌≢◌, ℕ, ◌<◌, ◌==◌, nat_lt, nat_le, Bool, true, false, ◌&&◌, if◌then◌else◌, List, [], ◌∷◌, ◌++◌, map, length, Option, Some, None, is_none, is_some, unwrap_or, refl}
use Rattle.std.specs.List.{find}
use Rattle.std.specs.Option.{option_map_or}
use Rattle.std.proofs.Common.{ap, sym, ◌∙◌, arith, subst, inl, inr}
use Rattle.std.proofs.lemmas.Bool.{eq-eqb}
use Rattle.std.proofs.lemmas.Bool.Decides.{nat_tests}
use Rattle.tez_ids.specs.declared.TaskId.{TaskId}
use Rattle.tez_ids.specs.declared.VertexId.{VertexId}
use Rattle.tez_lists.specs.Numbers.{In}
use Rattle.tez_plan.specs.Dag.{Dag, vertex, tasks_of as planned}
use Rattle.tez_conf.specs.declared.values.ConfValues.{ConfValues}
use Rattle.tez_vman.specs.declared.seen.Config.{Config}
use Rattle.tez_vman.specs.Rules.{config as shape}
use Rattle.tez_events.specs.declared.Entry.{Entry}
use Rattle.tez_events.specs.declared.Entry.TheVariants.{Stands, Kept}
use Rattle.tez_standing.specs.declared.state.Standing.{Standing}
use Rattle.tez_history.specs.Shape.{is_vertex}
use Rattle.tez_history.specs.History.{Past, extend, config}
use Rattle.tez_history.specs.Derived.{is_task}
use Rattle.tez_history.specs.Steps.{each_after}
use Rattle.tez_history.specs.Runs.{stands_if, kept_if, spent_in, standing_entries}
use Rattle.tez_progress.specs.Laws.{found_at, found_configs}
use Rattle.tez_master_model.specs.Recovery.{KeptState, config_in}
use Rattle.tez_recovery.specs.Laws.{as_ground, stands_entry, carried_entry, kept_entry, found_entries, is_task_in, IsSizedFor, AreOnce, HaveFailed}

-- a fact that such entries leave
pub keeps : {A X : Type 0} (fact : Past → A) (f : X → Entry) → ((p : Past) (x : X) → fact (f x ∷ p) ≡ fact p) → (p : Past) (xs : List X) → fact (extend p (map f xs)) ≡ fact p
keeps fact f same p [] = refl
keeps fact f same p (x ∷ xs) = keeps fact f same (f x ∷ p) xs ∙ same p x

-- ---- configurations

apart : (a b : ℕ) → a ≢ b → (a == b) ≡ false
apart a b h = grind (arith, nat_tests, h)

inside : (a b : ℕ) → a < b → nat_lt a b ≡ true
inside a b h = grind (arith, nat_tests)

-- no vertex of these is configured yet
abbrev pub AreNew : Past → List (VertexId × ℕ × ℕ) → Type 0
AreNew p xs = (x : VertexId × ℕ × ℕ) → In x xs → config x.0.0 p ≡ None

pub new_after : (p : Past) (x : VertexId × ℕ × ℕ) (xs : List (VertexId × ℕ × ℕ)) → AreNew p (x ∷ xs) → AreOnce (x ∷ xs) → AreNew (stands_entry x ∷ p) xs
new_after p x xs new once y i = ap (λ b. if b then Some (config_in x) else config y.0.0 p) (apart x.0.0 y.0.0 (once.0 y i)) ∙ new y (inr i)

pub stands_all : (g : Dag) (p : Past) (xs : List (VertexId × ℕ × ℕ)) → AreNew p xs → AreOnce xs → ((x : VertexId × ℕ × ℕ) → In x xs → IsSizedFor g x) → each_after (stands_if g) p (found_configs xs) ≡ map stands_entry xs
stands_all g p [] new once sized = refl
stands_all g p (x ∷ xs) new once sized =
    by (stands_all g (stands_entry x ∷ p) xs (new_after p x xs new once) once.1 (λ y i. sized y (inr i))) (config x.0.0 p) (new x (inl refl)) (is_vertex g x.0.0) (inside x.0.0 (length g.vertices) (sized x (inl refl)).inside)
  where
    by : each_after (stands_if g) (stands_entry x ∷ p) (found_configs xs) ≡ map stands_entry xs → (o : Option Config) → o ≡ None → (b : Bool) → b ≡ true
        → ((if is_none o && b then Stands (vertex x.0.0) x.1 x.2 ∷ [] else []) ++ each_after (stands_if g) (extend p (if is_none o && b then Stands (vertex x.0.0) x.1 x.2 ∷ [] else [])) (found_configs xs))
        ≡ map stands_entry (x ∷ xs)
    by rest None e true k = ap (λ es. stands_entry x ∷ es) rest
    by rest None e false k = cc
    by rest (Some s) e b k = cc

-- what is listed is what stands
pub found_there : (xs : List (VertexId × ℕ × ℕ)) (x : VertexId × ℕ × ℕ) → AreOnce xs → In x xs → found_at (found_configs xs) x.0.0 ≡ Some (config_in x)
found_there [] x once i = absurd i
found_there (y ∷ ys) x once (inl e) =
    subst (λ z. (if z.0.0 == x.0.0 then Some (config_in z) else found_at (found_configs ys) x.0.0) ≡ Some (config_in x)) e
    (ap (λ b. if b then Some (config_in x) else found_at (found_configs ys) x.0.0) (eq-eqb x.0.0 x.0.0 refl))
found_there (y ∷ ys) x once (inr i) = ap (λ b. if b then Some (config_in y) else found_at (found_configs ys) x.0.0) (apart y.0.0 x.0.0 (once.0 x i)) ∙ found_there ys x once.1 i

-- a vertex that none of these is at stays as it is
stays : (v : ℕ) (q : Past) (ys : List (VertexId × ℕ × ℕ)) → ((y : VertexId × ℕ × ℕ) → In y ys → v ≢ y.0.0) → config v (extend q (map stands_entry ys)) ≡ config v q
stays v q [] other = refl
stays v q (y ∷ ys) other = stays v (stands_entry y ∷ q) ys (λ z i. other z (inr i)) ∙ ap (λ b. if b then Some (config_in y) else config v q) (apart y.0.0 v (λ e. other y (inl refl) (sym e)))

pub stands_config : (p : Past) (xs : List (VertexId × ℕ × ℕ)) (v : ℕ) (s : Config) → AreNew p xs → AreOnce xs → found_at (found_configs xs) v ≡ Some s → config v (extend p (map stands_entry xs)) ≡ Some s
stands_config p [] v s new once h = cc
stands_config p (x ∷ xs) v s new once h = by (λ k. stands_config (stands_entry x ∷ p) xs v s (new_after p x xs new once) once.1 k) (x.0.0 == v) refl h where
  is_number : (d e : ℕ) → (d == e) ≡ true → d ≡ e
  is_number d e k = grind (arith, nat_tests)

  by : (found_at (found_configs xs) v ≡ Some s → config v (extend (stands_entry x ∷ p) (map stands_entry xs)) ≡ Some s) → (b : Bool) → (x.0.0 == v) ≡ b → (if b then Some (config_in x) else found_at (found_configs xs) v) ≡ Some s → config v (extend (stands_entry x ∷ p) (map stands_entry xs)) ≡ Some s
  by rest true e k =
      stays v (stands_entry x ∷ p) xs (λ y i. subst (λ w. w ≢ y.0.0) (is_number x.0.0 v e) (once.0 y i))
      ∙ ap (λ b. if b then Some (config_in x) else config v p) e ∙ k
  by rest false e k = rest k

-- a task of these is there
task_by : (o : Option Config) (plan : Config) (i : ℕ) → option_map_or (λ x. nat_lt i x.tasks) o false ≡ true → (is_some o && nat_lt i (unwrap_or o plan).tasks) ≡ true
task_by None plan i h = cc
task_by (Some s) plan i h = h

there : (xs : List (VertexId × ℕ × ℕ)) (t : TaskId) → is_task_in xs t ≡ true → (s : Config) × (found_at (found_configs xs) t.vertex.0 ≡ Some s) × (nat_lt t.index s.tasks ≡ true)
there xs t h = by (found_at (found_configs xs) t.vertex.0) refl h where
  by : (o : Option Config) → found_at (found_configs xs) t.vertex.0 ≡ o → option_map_or (λ x. nat_lt t.index x.tasks) o false ≡ true → (s : Config) × (found_at (found_configs xs) t.vertex.0 ≡ Some s) × (nat_lt t.index s.tasks ≡ true)
  by None e k = cc
  by (Some s) e k = (s, e, k)

pub task_stands : (g : Dag) (p : Past) (xs : List (VertexId × ℕ × ℕ)) (t : TaskId) → AreNew p xs → AreOnce xs → is_task_in xs t ≡ true → is_task g (extend p (map stands_entry xs)) t ≡ true
task_stands g p xs t new once h =
    let k = there xs t h in
    task_by (config t.vertex.0 (extend p (map stands_entry xs))) (shape (planned g t.vertex.0) 1) t.index
    (ap (λ o. option_map_or (λ x. nat_lt t.index x.tasks) o false) (stands_config p xs t.vertex.0 k.0 new once k.1) ∙ k.2)

-- ---- winners

pub kept_all : (g : Dag) (p : Past) (ks : List KeptState) → ((k : KeptState) → In k ks → is_task g p k.attempt.task ≡ true) → each_after (kept_if g) p (map (λ k. k.attempt) ks) ≡ map kept_entry ks
kept_all g p [] is = refl
kept_all g p (k ∷ ks) is = by (kept_all g (kept_entry k ∷ p) ks (λ x i. is x (inr i))) (is_task g p k.attempt.task) (is k (inl refl)) where
  by : each_after (kept_if g) (kept_entry k ∷ p) (map (λ k. k.attempt) ks) ≡ map kept_entry ks → (b : Bool) → b ≡ true
      → ((if b then Kept k.attempt ∷ [] else []) ++ each_after (kept_if g) (extend p (if b then Kept k.attempt ∷ [] else [])) (map (λ k. k.attempt) ks)) ≡ map kept_entry (k ∷ ks)
  by rest true e = ap (λ es. kept_entry k ∷ es) rest
  by rest false e = cc

-- ---- failures

none_spent : (most : ℕ) (xs : List (TaskId × ℕ)) → ((x : TaskId × ℕ) → In x xs → x.1 < most) → find (λ x. nat_le most x.1) xs ≡ None
none_spent most [] few = refl
none_spent most (x ∷ xs) few = by (none_spent most xs (λ y i. few y (inr i))) (nat_le most x.1) (below x.1 most (few x (inl refl))) where
  below : (a b : ℕ) → a < b → nat_le b a ≡ false
  below a b h = grind (arith, nat_tests)

  by : find (λ y. nat_le most y.1) xs ≡ None → (b : Bool) → b ≡ false → (if b then Some x else find (λ y. nat_le most y.1) xs) ≡ None
  by rest true e = cc
  by rest false e = rest

-- and where the model finds none that is spent, there is none
all_few : (most : ℕ) (xs : List (TaskId × ℕ)) → find (λ x. nat_le most x.1) xs ≡ None → (x : TaskId × ℕ) → In x xs → x.1 < most
all_few most [] h x i = absurd i
all_few most (y ∷ ys) h x i = by (nat_le most y.1) refl h i (all_few most ys) where
  above : (a b : ℕ) → nat_le b a ≡ false → a < b
  above a b k = grind (arith, nat_tests)

  by : (b : Bool) → nat_le most y.1 ≡ b → (if b then Some y else find (λ z. nat_le most z.1) ys) ≡ None → In x (y ∷ ys) → (find (λ z. nat_le most z.1) ys ≡ None → (z : TaskId × ℕ) → In z ys → z.1 < most) → x.1 < most
  by true e k j rest = cc
  by false e k (inl s) rest = subst (λ z. z.1 < most) (sym s) (above y.1 most e)
  by false e k (inr j) rest = rest k x j

pub few_unspent : (c : ConfValues) (s : Standing) (ks : List KeptState) → spent_in c (as_ground s ks) ≡ None → HaveFailed c s
few_unspent c s ks h = all_few c.max_failed s.failures h

pub unspent : (c : ConfValues) (s : Standing) (ks : List KeptState) → HaveFailed c s → spent_in c (as_ground s ks) ≡ None
unspent c s ks few = none_spent c.max_failed s.failures few

-- ---- all of it

pub all_taken : (g : Dag) (p : Past) (s : Standing) (ks : List KeptState) → AreNew p s.configured → AreOnce s.configured → ((x : VertexId × ℕ × ℕ) → In x s.configured → IsSizedFor g x)
    → ((k : KeptState) → In k ks → is_task_in s.configured k.attempt.task ≡ true) → standing_entries g p (as_ground s ks) ≡ found_entries s ks
all_taken g p s ks new once sized are =
    let stands = stands_all g p s.configured new once sized in
    let carried = map carried_entry s.failures in
    let gone = extend (extend p (map stands_entry s.configured)) carried in
    ap (λ es. es ++ (carried ++ each_after (kept_if g) (extend (extend p es) carried) (map (λ k. k.attempt) ks))) stands
    ∙ ap (λ es. map stands_entry s.configured ++ (carried ++ es))
    (kept_all g gone ks
    (λ k i. keeps (λ q. is_task g q k.attempt.task) carried_entry (λ q x. refl) (extend p (map stands_entry s.configured)) s.failures ∙ task_stands g p s.configured k.attempt.task new once (are k i)))
