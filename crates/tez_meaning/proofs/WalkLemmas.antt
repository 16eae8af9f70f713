-- The evaluation of a plan along its order.
--     vertex_made, vertex_good, vertex_bad      what a program makes of what a vertex reads
--     AreMade job values i                      the table has the bags of the first i vertices of the order, none of them bad
--     made_more, bad_first                      the next vertex
--     made_all                                  all vertices
--     place_at                                  a place in the order
--     texts_are                                 the texts of the sinks
use Rattle.std.proofs.Common.{◌≡◌, ◌∙◌, ℕ, ◌+◌, ◌<◌, ◌≤◌, ◌==◌, zero, suc, Bool, true, false, cond, List, [], ◌∷◌, ◌++◌, length, map, find, take, get_or, set, Option, Some, None, slice_get, refl, sym, ap, ap₂, subst, arith, eqb-true, eq-eqb, take_all, length-set, inl, inr, ⊎_elim, ltb, ltb-false, ltb-true, ◌⊎◌}
use Rattle.std.specs.List.{AllByRecursion}
use Rattle.std.specs.Option.{option_map_or, is_some}
use Rattle.std.proofs.lemmas.Bool.{eqb-false, or_cases, or_left, or_right}
use Rattle.std.proofs.lemmas.List.{take_more, length-map, get_or-set_same, get_or-set_other}
use Rattle.std.proofs.lemmas.Option.{slice_get_past}
use Rattle.tez_lists.proofs.Cases.{cases, both}
use Rattle.tez_ids.specs.declared.VertexId.{VertexId}
use Rattle.tez_plan.specs.declared.parts.VertexSpec.{VertexSpec}
use Rattle.tez_plan.specs.declared.parts.Head.{Head}
use Rattle.tez_plan.specs.declared.parts.Step.{Step}
use Rattle.tez_plan.specs.Dag.{Dag, from, edges_into, vertex}
use Rattle.tez_plan.specs.Order.{among, topo}
use Rattle.tez_plan.specs.Faults.{IsValid}
use Rattle.tez_plan.proofs.OrderLemmas.{all_map}
use Rattle.tez_record.specs.Bag.{text}
use Rattle.tez_values.specs.Heads.{HeadInputs}
use Rattle.tez_values.specs.Program.{output, first_bad, is_bad}
use Rattle.tez_meaning.specs.Jobs.{Job}
use Rattle.tez_meaning.specs.Value.{inputs_of, lines_of, value_from, value, bad, IsDefined, IsBadVertex, sinks, sink_texts}
use Rattle.tez_meaning.specs.Known.{Table, known_in, bad_from, IsBadAt, AreValues}
use Rattle.tez_meaning.specs.declared.fault.MeaningFault.{MeaningFault}
use Rattle.tez_meaning.specs.declared.fault.MeaningFault.TheVariants.{Bad, NoMemory}
use Rattle.tez_meaning.proofs.ValueLemmas.{inputs-agree, value-step, value_looks}
use Rattle.tez_meaning.proofs.TurnLemmas.{all_out, its_turn}

-- ---- one vertex

pub vertex_made : (job : Job) (v : ℕ) (s : VertexSpec) (known : ℕ → List (List ℕ)) (head : Head) (steps : List Step) (i : HeadInputs) (bag : List (List ℕ))
    → slice_get job.plan.vertices v ≡ Some s → head ≡ s.head → steps ≡ s.steps → i ≡ inputs_of job v s known → bag ≡ output head steps i → bag ≡ value_from job v known
vertex_made job v s known head steps i bag here h t r b =
    b
    ∙ ap (λ x. output x steps i) h
    ∙ ap₂ (output s.head) t r
    ∙ ap (λ o. option_map_or (λ w. output w.head w.steps (inputs_of job v w known)) o []) (sym here)

bad_is : (job : Job) (v : ℕ) (s : VertexSpec) (known : ℕ → List (List ℕ)) (head : Head) (steps : List Step) (i : HeadInputs)
    → slice_get job.plan.vertices v ≡ Some s → head ≡ s.head → steps ≡ s.steps → i ≡ inputs_of job v s known → bad_from job v known ≡ is_bad head steps i
bad_is job v s known head steps i here h t r =
    ap (λ o. option_map_or (λ w. is_bad w.head w.steps (inputs_of job v w known)) o false) here
    ∙ sym (ap (λ x. is_bad x steps i) h ∙ ap₂ (is_bad s.head) t r)

pub vertex_good : (job : Job) (v : ℕ) (s : VertexSpec) (known : ℕ → List (List ℕ)) (head : Head) (steps : List Step) (i : HeadInputs)
    → slice_get job.plan.vertices v ≡ Some s → head ≡ s.head → steps ≡ s.steps → i ≡ inputs_of job v s known → first_bad head steps i ≡ None → bad_from job v known ≡ false
vertex_good job v s known head steps i here h t r none = bad_is job v s known head steps i here h t r ∙ ap is_some none

pub vertex_bad : (job : Job) (v : ℕ) (s : VertexSpec) (known : ℕ → List (List ℕ)) (head : Head) (steps : List Step) (i : HeadInputs) (r : List ℕ)
    → slice_get job.plan.vertices v ≡ Some s → head ≡ s.head → steps ≡ s.steps → i ≡ inputs_of job v s known → first_bad head steps i ≡ Some r → bad_from job v known ≡ true
vertex_bad job v s known head steps i x here h t r some = bad_is job v s known head steps i here h t r ∙ ap is_some some

-- ---- from what is known to what is so

at_some : {X : Type 0} (f g : VertexSpec → X) (d : X) (o : Option VertexSpec) → ((s : VertexSpec) → f s ≡ g s) → option_map_or f o d ≡ option_map_or g o d
at_some f g d None h = refl
at_some f g d (Some s) h = h s

bad_looks : (job : Job) (v : ℕ) (f g : ℕ → List (List ℕ)) → AllByRecursion (λ e. f (from job.plan e) ≡ g (from job.plan e)) (edges_into job.plan v) → bad_from job v f ≡ bad_from job v g
bad_looks job v f g all = at_some _ _ false (slice_get job.plan.vertices v)
    (λ s. ap (is_bad s.head s.steps) (inputs-agree job.plan v s (lines_of job) (λ e. f (from job.plan e)) (λ e. g (from job.plan e)) all))

-- what a vertex has in the table, once it has had its turn
abbrev IsMade : Job → Table → ℕ → Type 0
IsMade job values u = (known_in values u ≡ value job u) × (bad job u ≡ false)

pub record AreMade (job : Job) (values : Table) (i : ℕ) : Type 0 where
  pub size : length values ≡ length job.plan.vertices
  pub made : (u : ℕ) → among (take i (topo job.plan)) u ≡ true → IsMade job values u

pub none_made : (job : Job) (values : Table) → length values ≡ length job.plan.vertices → AreMade job values 0
none_made job values size = record { size = size; made = λ u h. both h refl }

among_last : (vs : List ℕ) (v u : ℕ) → among (vs ++ v ∷ []) u ≡ true → (v == u ≡ true) ⊎ (among vs u ≡ true)
among_last [] v u h = ⊎_elim (λ a. inl a) (λ b. both b refl) (or_cases (v == u) false h)
among_last (w ∷ vs) v u h = ⊎_elim
    (λ a. inr (or_left _ _ a))
    (λ b. ⊎_elim (λ x. inl x) (λ y. inr (or_right (w == u) _ y)) (among_last vs v u b))
    (or_cases (w == u) (among (vs ++ v ∷ []) u) h)

module _ (job : Job) (valid : IsValid job.plan) (values : Table) (i v : ℕ) (made : AreMade job values i) (low : i < length (topo job.plan)) (is : v ≡ get_or (topo job.plan) i v) where
  sources_made : AllByRecursion (λ e. known_in values (from job.plan e) ≡ value job (from job.plan e)) (edges_into job.plan v)
  sources_made = all_map (λ e. among (take i (topo job.plan)) (from job.plan e) ≡ true) (λ e. known_in values (from job.plan e) ≡ value job (from job.plan e))
      (λ e h. (made.made (from job.plan e) h).0) (edges_into job.plan v) (its_turn job.plan i v low is).sources

  value_so : value_from job v (known_in values) ≡ value job v
  value_so = value_looks job v (known_in values) (value job) sources_made ∙ sym (value-step job v valid (its_turn job.plan i v low is).inside)

  bad_so : bad_from job v (known_in values) ≡ bad job v
  bad_so = bad_looks job v (known_in values) (value job) sources_made

  pub made_more : (bag : List (List ℕ)) → bag ≡ value_from job v (known_in values) → bad_from job v (known_in values) ≡ false → (now : Table) → now ≡ set values v bag → AreMade job now (i + 1)
  made_more bag b good now n =
      let inside : v < length values = subst (λ (k : ℕ). v < k) (sym made.size) (its_turn job.plan i v low is).inside in
      record {
        size = ap length n ∙ length-set values v bag ∙ made.size;
        made = λ u h. ⊎_elim
            (λ e. let same : v ≡ u = eqb-true v u e in subst (IsMade job now) same (ap (λ vs. known_in vs v) n ∙ get_or-set_same values v bag [] inside ∙ b ∙ value_so, sym bad_so ∙ good))
            (λ earlier. cases (v == u)
            (λ e. let same : v ≡ u = eqb-true v u e in subst (IsMade job now) same (ap (λ vs. known_in vs v) n ∙ get_or-set_same values v bag [] inside ∙ b ∙ value_so, sym bad_so ∙ good))
            (λ e.
            let was = made.made u earlier in
            (ap (λ vs. known_in vs u) n ∙ get_or-set_other values v u bag [] (λ same. eqb-false v u e (sym same)) ∙ was.0, was.1)))
            (among_last (take i (topo job.plan)) v u (ap (λ vs. among vs u) (sym (take_more (topo job.plan) i v low ∙ ap (λ w. take i (topo job.plan) ++ w ∷ []) (sym is))) ∙ h));
      }

  pub bad_first : (fault : MeaningFault) → IsBadAt job (vertex v) values fault → IsBadVertex job fault
  bad_first (Bad w) h = find_here (bad job) (topo job.plan) i v low is (sym bad_so ∙ h.1) (λ u k. (made.made u k).1) ∙ ap (λ x. Some x.0) (sym h.0)
    where
      find_here : (q : ℕ → Bool) (xs : List ℕ) (i x : ℕ) → i < length xs → x ≡ get_or xs i x → q x ≡ true → ((u : ℕ) → among (take i xs) u ≡ true → q u ≡ false) → find q xs ≡ Some x
      find_here q [] i x low e t h = absurd (omega arith)
      find_here q (y ∷ xs) zero x low e t h = ap (λ b. cond b (Some y) (find q xs)) (ap q (sym e) ∙ t) ∙ ap Some (sym e)
      find_here q (y ∷ xs) (suc i) x low e t h =
          ap (λ b. cond b (Some y) (find q xs)) (h y (or_left _ _ (eq-eqb y y refl)))
          ∙ find_here q xs i x (omega arith) e t (λ u k. h u (or_right (y == u) _ k))
  bad_first NoMemory h = tt

module _ (job : Job) (valid : IsValid job.plan) (values : Table) (i : ℕ) (made : AreMade job values i) (done : length (topo job.plan) ≤ i) where
  at_vertex : (v : ℕ) → v < length job.plan.vertices → IsMade job values v
  at_vertex v inside = made.made v (ap (λ vs. among vs v) (take_all i (topo job.plan) done) ∙ all_out job.plan valid v inside)

  pub made_all : AreValues job values
  made_all = record { size = made.size; bags = λ v inside. (at_vertex v inside).0 }

  pub defined_all : IsDefined job
  defined_all v = cases (ltb v (length job.plan.vertices))
      (λ b. (at_vertex v (ltb-true v (length job.plan.vertices) b)).1)
      (λ b. ap (λ o. option_map_or (λ s. is_bad s.head s.steps (inputs_of job v s (value job))) o false) (slice_get_past job.plan.vertices v (ltb-false v (length job.plan.vertices) b)))

-- a place in the order, as the code has it
pub record IsPlace (p : Dag) (order : List VertexId) (i : ℕ) : Type 0 where
  pub low : i < length (topo p)
  pub is : (get_or order i (vertex 0)).0 ≡ get_or (topo p) i (get_or order i (vertex 0)).0

pub place_at : (p : Dag) (order : List VertexId) (i : ℕ) → order ≡ map vertex (topo p) → i < length order → IsPlace p order i
place_at p order i e low =
    let below : i < length (topo p) = subst (λ (n : ℕ). i < n) (ap length e ∙ length-map (topo p) vertex) low in
    record { low = below; is = ap (λ vs. (get_or vs i (vertex 0)).0) e ∙ at_map (topo p) i (get_or order i (vertex 0)).0 below }
  where
    at_map : (xs : List ℕ) (i d : ℕ) → i < length xs → (get_or (map vertex xs) i (vertex 0)).0 ≡ get_or xs i d
    at_map [] i d low = absurd (omega arith)
    at_map (x ∷ xs) zero d low = refl
    at_map (x ∷ xs) (suc i) d low = at_map xs i d (omega arith)

-- ---- the texts

abbrev texts_from : (ℕ → List (List ℕ)) → ℕ → List VertexSpec → List (List ℕ × List ℕ)
texts_from f v ss = map (λ s. (s.1, text (f s.0))) (sinks v ss)

texts_agree : (f g : ℕ → List (List ℕ)) (v : ℕ) (ss : List VertexSpec) → ((u : ℕ) → u < v + length ss → f u ≡ g u) → texts_from f v ss ≡ texts_from g v ss
texts_agree f g v [] h = refl
texts_agree f g v (s ∷ ss) h =
    let rest = texts_agree f g (suc v) ss (λ u low. h u (omega arith)) in
    by s.sink rest (h v (omega arith))
  where
    by : (sink : Option (List ℕ)) → texts_from f (suc v) ss ≡ texts_from g (suc v) ss → f v ≡ g v
        → map {B = List ℕ × List ℕ} (λ s. (s.1, text (f s.0))) (option_map_or (λ name. (v, name) ∷ sinks (suc v) ss) sink (sinks (suc v) ss)) ≡ map {B = List ℕ × List ℕ} (λ s. (s.1, text (g s.0))) (option_map_or (λ name. (v, name) ∷ sinks (suc v) ss) sink (sinks (suc v) ss))
    by None rest here = rest
    by (Some name) rest here = ap₂ (λ (x : List ℕ) (xs : List (List ℕ × List ℕ)). (name, x) ∷ xs) (ap text here) rest

pub texts_are : (job : Job) (values : Table) → AreValues job values → texts_from (known_in values) 0 job.plan.vertices ≡ sink_texts job
texts_are job values are = texts_agree (known_in values) (value job) 0 job.plan.vertices (λ u low. are.bags u (omega arith))
