-- What one record more tells.
use Rattle.std.specs.Prelude.{◌≡◌, ◌≢◌, ℕ, ◌+◌, ◌&&◌, ◌||◌, not, if◌then◌else◌, cond, Bool, true, false, List, [], ◌∷◌, ◌++◌, map, length, count_by, unwrap_or, Option, Some, None, refl}
use Rattle.std.specs.List.{list_any, fold}
use Rattle.std.specs.Option.{option_or, option_map_or}
use Rattle.std.proofs.Common.{ap, sym, ◌∙◌, arith, add-zero, true≢false}
use Rattle.std.proofs.lemmas.List.Sums.{sum_by-cons, sum_by-append}
use Rattle.std.proofs.lemmas.Bool.Decides.{nat_tests}
use Rattle.tez_ids.specs.declared.TaskId.{TaskId}
use Rattle.tez_ids.specs.declared.AttemptId.{AttemptId}
use Rattle.tez_ids.specs.Same.{task, same_task}
use Rattle.tez_lists.specs.Numbers.{numbers_from}
use Rattle.tez_lists.proofs.Tables.{map_below}
use Rattle.tez_plan.specs.Dag.{Dag, vertex, tasks_of}
use Rattle.tez_events.specs.declared.JournalRecord.{JournalRecord}
use Rattle.tez_standing.specs.declared.state.Setting.{Setting}
use Rattle.tez_standing.specs.declared.state.Phase.{Phase}
use Rattle.tez_standing.specs.declared.state.Phase.TheVariants as phases
use Rattle.tez_standing.specs.declared.rows.TaskRow.{TaskRow}
use Rattle.tez_standing.specs.Table.{VertexState, ProgressState}
use Rattle.tez_standing.specs.Standing.{opens, sets, wins, fails, commits, finishes, is_version, latest, begun, epoch, setting, winner, failures, ends_finished, version, counted, published, phase_by, phase, is_running, is_committing, next_sink}
use Rattle.tez_standing.specs.Progress.{row, vertex_state, finished, one_more}

pub both_left : (a b : Bool) → (a && b) ≡ true → a ≡ true
both_left true b h = refl
both_left false b h = h

pub both_right : (a b : Bool) → (a && b) ≡ true → b ≡ true
both_right true b h = h
both_right false b h = absurd (true≢false (sym h))

pub latest_more : {X : Type 0} (tells : JournalRecord → Option X) (rs : List JournalRecord) (r : JournalRecord) → latest tells (rs ++ r ∷ []) ≡ option_or (tells r) (latest tells rs)
latest_more {X} tells [] r = by (tells r) where
  by : (o : Option X) → o ≡ option_or o None
  by None = refl
  by (Some x) = refl
latest_more {X} tells (q ∷ rs) r = ap (λ o. option_or o (tells q)) (latest_more tells rs r) ∙ by (tells r) where
  by : (o : Option X) → option_or (option_or o (latest tells rs)) (tells q) ≡ option_or o (option_or (latest tells rs) (tells q))
  by None = refl
  by (Some x) = refl

pub count_more : (p : JournalRecord → Bool) (rs : List JournalRecord) (r : JournalRecord) → count_by p (rs ++ r ∷ []) ≡ count_by p rs + cond (p r) 1 0
count_more p rs r =
    sum_by-append (λ w. cond (p w) 1 0) rs (r ∷ [])
    ∙ ap (λ n. count_by p rs + n) (sum_by-cons (λ w. cond (p w) 1 0) r [] ∙ add-zero (cond (p r) 1 0))

pub begun_more : (rs : List JournalRecord) (r : JournalRecord) → true ≡ begun (rs ++ r ∷ [])
begun_more [] r = refl
begun_more (q ∷ rs) r = refl

any_more : (t : JournalRecord → Bool) (rs : List JournalRecord) (r : JournalRecord) → list_any t (rs ++ r ∷ []) ≡ (t r || list_any t rs)
any_more t [] r = refl
any_more t (q ∷ rs) r = ap (λ b. t q || b) (any_more t rs r) ∙ by (t q) (t r) where
  by : (b c : Bool) → (b || (c || list_any t rs)) ≡ (c || (b || list_any t rs))
  by true true = refl
  by true false = refl
  by false c = refl

pub version_stays : (rs : List JournalRecord) (r : JournalRecord) → is_version r ≡ false → version rs ≡ version (rs ++ r ∷ [])
version_stays rs r h = sym (ap (λ b. if b then 2 else 1) (any_more is_version rs r ∙ ap (λ b. b || list_any is_version rs) h))

pub version_set : (rs : List JournalRecord) (r : JournalRecord) → is_version r ≡ true → 2 ≡ version (rs ++ r ∷ [])
version_set rs r h = sym (ap (λ b. if b then 2 else 1) (any_more is_version rs r ∙ ap (λ b. b || list_any is_version rs) h))

counted_more : (n : ℕ) (rs : List JournalRecord) (r : JournalRecord) → fold counted n (rs ++ r ∷ []) ≡ counted (fold counted n rs) r
counted_more n [] r = refl
counted_more n (q ∷ rs) r = counted_more (counted n q) rs r

pub phase_more : (rs : List JournalRecord) (r : JournalRecord) → phase (rs ++ r ∷ []) ≡ phase_by (finishes r) (counted (published rs) r) (option_or (commits r) (latest commits rs))
phase_more rs r =
    ap (λ o. phase_by (unwrap_or o false) (published (rs ++ r ∷ [])) (latest commits (rs ++ r ∷ []))) (latest_more (λ q. Some (finishes q)) rs r)
    ∙ ap (λ n. phase_by (finishes r) n (latest commits (rs ++ r ∷ []))) (counted_more 0 rs r)
    ∙ ap (phase_by (finishes r) (counted (published rs) r)) (latest_more commits rs r)

-- a record that neither starts nor finishes a commit
pub phase_quiet : (rs : List JournalRecord) (r : JournalRecord) → commits r ≡ None → finishes r ≡ false → phase (rs ++ r ∷ []) ≡ phase_by false (counted (published rs) r) (latest commits rs)
phase_quiet rs r c f =
    phase_more rs r
    ∙ ap (λ b. phase_by b (counted (published rs) r) (option_or (commits r) (latest commits rs))) f
    ∙ ap (λ o. phase_by false (counted (published rs) r) (option_or o (latest commits rs))) c

-- a record that tells nothing of the commit, while none has started
pub phase_stays : (rs : List JournalRecord) (r : JournalRecord) → commits r ≡ None → finishes r ≡ false → is_running (phase rs) ≡ true → phase rs ≡ phase (rs ++ r ∷ [])
phase_stays rs r c f h = by (ends_finished rs) (latest commits rs) h ∙ sym (phase_quiet rs r c f) where
  by : (b : Bool) (o : Option (List (ℕ × ℕ))) → is_running (phase_by b (published rs) o) ≡ true → phase_by b (published rs) o ≡ phase_by false (counted (published rs) r) o
  by b None g = refl
  by true (Some s) g = absurd (true≢false (sym g))
  by false (Some s) g = absurd (true≢false (sym g))

-- a record that tells nothing of the commit, while the job is not finished
pub phase_kept : (rs : List JournalRecord) (r : JournalRecord) → commits r ≡ None → finishes r ≡ false → counted (published rs) r ≡ published rs
    → (is_running (phase rs) || is_committing (phase rs)) ≡ true → phase rs ≡ phase (rs ++ r ∷ [])
phase_kept rs r c f n h = by (ends_finished rs) (latest commits rs) h ∙ sym (phase_quiet rs r c f ∙ ap (λ k. phase_by false k (latest commits rs)) n) where
  by : (b : Bool) (o : Option (List (ℕ × ℕ))) → (is_running (phase_by b (published rs) o) || is_committing (phase_by b (published rs) o)) ≡ true → phase_by b (published rs) o ≡ phase_by false (published rs) o
  by b None g = refl
  by true (Some s) g = absurd (true≢false (sym g))
  by false (Some s) g = refl

-- a sink more
pub phase_counts : (p : Dag) (rs : List JournalRecord) (r : JournalRecord) (t : ℕ → Bool) → commits r ≡ None → finishes r ≡ false → counted (published rs) r ≡ published rs + 1
    → option_map_or t (next_sink p (phase rs)) false ≡ true → one_more (phase rs) ≡ phase (rs ++ r ∷ [])
phase_counts p rs r t c f n h = by (ends_finished rs) (latest commits rs) h ∙ sym (phase_quiet rs r c f ∙ ap (λ k. phase_by false k (latest commits rs)) n) where
  by : (b : Bool) (o : Option (List (ℕ × ℕ))) → option_map_or t (next_sink p (phase_by b (published rs) o)) false ≡ true → one_more (phase_by b (published rs) o) ≡ phase_by false (published rs + 1) o
  by b None g = refl
  by true (Some s) g = absurd (true≢false (sym g))
  by false (Some s) g = refl

pub phase_commits : (rs : List JournalRecord) (r : JournalRecord) (sums : List (ℕ × ℕ)) → commits r ≡ Some sums → finishes r ≡ false → counted (published rs) r ≡ 0 → phases.CommitStarted sums 0 ≡ phase (rs ++ r ∷ [])
phase_commits rs r sums c f n =
    sym (phase_more rs r
    ∙ ap (λ b. phase_by b (counted (published rs) r) (option_or (commits r) (latest commits rs))) f
    ∙ ap (λ o. phase_by false (counted (published rs) r) (option_or o (latest commits rs))) c
    ∙ ap (λ k. phase_by false k (Some sums)) n)

pub phase_finishes : (rs : List JournalRecord) (r : JournalRecord) → commits r ≡ None → finishes r ≡ true → finished (phase rs) ≡ phase (rs ++ r ∷ [])
phase_finishes rs r c f =
    by (ends_finished rs) (latest commits rs)
    ∙ sym (phase_more rs r
    ∙ ap (λ b. phase_by b (counted (published rs) r) (option_or (commits r) (latest commits rs))) f
    ∙ ap (λ o. phase_by true (counted (published rs) r) (option_or o (latest commits rs))) c) where
      by : (b : Bool) (o : Option (List (ℕ × ℕ))) → finished (phase_by b (published rs) o) ≡ phase_by true (counted (published rs) r) o
      by b None = refl
      by true (Some s) = refl
      by false (Some s) = refl

pub running_before : (rs : List JournalRecord) → not (begun rs) ≡ true → is_running (phase rs) ≡ true
running_before [] h = refl
running_before (q ∷ rs) h = absurd (true≢false (sym h))

-- ---- rows

abbrev pub make_row : TaskId → Option AttemptId → ℕ → TaskRow
make_row t w n = record { task = t; winner = w; failures = n }

abbrev pub make_vertex : ℕ → Option Setting → List TaskRow → VertexState
make_vertex v s ts = record { vertex = vertex v; setting = s; tasks = ts }

abbrev pub make : Bool → ℕ → ℕ → Phase → List VertexState → ProgressState
make b e w ph vs = record { begun = b; epoch = e; version = w; phase = ph; vertices = vs }

pub made : {b c : Bool} {e g w x : ℕ} {ph ps : Phase} {vs us : List VertexState} → b ≡ c → e ≡ g → w ≡ x → ph ≡ ps → vs ≡ us → make b e w ph vs ≡ make c g x ps us
made {b} {c} {e} {g} {w} {x} {ph} {ps} {vs} {us} hb he hw hp hv = ap (λ y. make y e w ph vs) hb ∙ ap (λ y. make c y w ph vs) he ∙ ap (λ y. make c g y ph vs) hw ∙ ap (λ y. make c g x y vs) hp ∙ ap (make c g x ps) hv

pub won_more : (rs : List JournalRecord) (r : JournalRecord) (t : TaskId) (o : Option AttemptId) → wins t r ≡ o → winner (rs ++ r ∷ []) t ≡ option_or o (winner rs t)
won_more rs r t o h = latest_more (wins t) rs r ∙ ap (λ x. option_or x (winner rs t)) h

pub failed_more : (rs : List JournalRecord) (r : JournalRecord) (t : TaskId) (b : Bool) → fails t r ≡ b → failures (rs ++ r ∷ []) t ≡ failures rs t + cond b 1 0
failed_more rs r t b h = count_more (fails t) rs r ∙ ap (λ x. failures rs t + cond x 1 0) h

pub set_more : (rs : List JournalRecord) (r : JournalRecord) (v : ℕ) (o : Option Setting) → sets v r ≡ o → setting (rs ++ r ∷ []) v ≡ option_or o (setting rs v)
set_more rs r v o h = latest_more (sets v) rs r ∙ ap (λ x. option_or x (setting rs v)) h

-- a row that the record says nothing of
pub row_stays : (rs : List JournalRecord) (r : JournalRecord) (v i : ℕ) → wins (task v i) r ≡ None → fails (task v i) r ≡ false → row rs v i ≡ row (rs ++ r ∷ []) v i
row_stays rs r v i w f =
    sym (ap (λ x. make_row (task v i) x (failures (rs ++ r ∷ []) (task v i))) (won_more rs r (task v i) None w)
    ∙ ap (make_row (task v i) (winner rs (task v i))) (failed_more rs r (task v i) false f ∙ add-zero (failures rs (task v i))))

pub rows_stay : (rs : List JournalRecord) (r : JournalRecord) (v n : ℕ) → ((i : ℕ) → wins (task v i) r ≡ None) → ((i : ℕ) → fails (task v i) r ≡ false) → map (row rs v) (numbers_from 0 n) ≡ map (row (rs ++ r ∷ []) v) (numbers_from 0 n)
rows_stay rs r v n w f = map_below (row rs v) (row (rs ++ r ∷ []) v) 0 n (λ i _ _. row_stays rs r v i (w i) (f i))

pub vertex_stays : (p : Dag) (rs : List JournalRecord) (r : JournalRecord) (v : ℕ) → sets v r ≡ None → ((i : ℕ) → wins (task v i) r ≡ None) → ((i : ℕ) → fails (task v i) r ≡ false) → vertex_state p rs v ≡ vertex_state p (rs ++ r ∷ []) v
vertex_stays p rs r v s w f =
    ap (make_vertex v (setting rs v)) (rows_stay rs r v (tasks_of p v) w f)
    ∙ sym (ap (λ x. make_vertex v x (map (row (rs ++ r ∷ []) v) (numbers_from 0 (tasks_of p v)))) (set_more rs r v None s))

pub vertices_stay : (p : Dag) (rs : List JournalRecord) (r : JournalRecord) → ((v : ℕ) → sets v r ≡ None) → ((t : TaskId) → wins t r ≡ None) → ((t : TaskId) → fails t r ≡ false)
    → map (vertex_state p rs) (numbers_from 0 (length p.vertices)) ≡ map (vertex_state p (rs ++ r ∷ [])) (numbers_from 0 (length p.vertices))
vertices_stay p rs r s w f = map_below (vertex_state p rs) (vertex_state p (rs ++ r ∷ [])) 0 (length p.vertices) (λ v _ _. vertex_stays p rs r v (s v) (λ i. w (task v i)) (λ i. f (task v i)))

pub epoch_stays : (rs : List JournalRecord) (r : JournalRecord) → opens r ≡ false → epoch rs ≡ epoch (rs ++ r ∷ [])
epoch_stays rs r h = sym (count_more opens rs r ∙ ap (λ b. epoch rs + cond b 1 0) h ∙ add-zero (epoch rs))

pub same_here : (t : TaskId) (v i : ℕ) → t.vertex.0 ≡ v → t.index ≡ i → same_task t (task v i) ≡ true
same_here t v i e d = grind (arith, nat_tests)

pub other_vertex : (t : TaskId) (v i : ℕ) → t.vertex.0 ≢ v → same_task t (task v i) ≡ false
other_vertex t v i e = grind (arith, nat_tests)

pub other_index : (t : TaskId) (v i : ℕ) → t.index ≢ i → same_task t (task v i) ≡ false
other_index t v i e = grind (arith, nat_tests)
