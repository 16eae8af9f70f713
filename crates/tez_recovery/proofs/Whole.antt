-- Once the commit has started, every vertex of the plan is set, and each of its tasks has a winner.
use Rattle.std.specs.Prelude.{◌≡◌, ℕ, ◌<◌, ◌≤◌, ◌==◌, Bool, false, true, refl}
use Rattle.std.specs.Prelude.{List, [], ◌∷◌, ◌++◌, length, Option, Some, None, is_some}
use Rattle.std.specs.List.{list_all}
use Rattle.std.specs.Option.{option_or, option_map_or}
use Rattle.std.proofs.Common.{ap, sym, ◌∙◌, arith, subst, inl}
use Rattle.tez_ids.specs.declared.TaskId.{TaskId}
use Rattle.tez_ids.specs.declared.AttemptId.{AttemptId}
use Rattle.tez_ids.specs.Same.{task}
use Rattle.tez_lists.specs.Numbers.{In, numbers_from}
use Rattle.tez_lists.proofs.Members.{in_flat_map}
use Rattle.tez_plan.specs.Dag.{Dag, tasks_of as planned}
use Rattle.tez_plan.specs.Faults.{IsValid}
use Rattle.tez_plan.specs.Ranges.{IsInRanges}
use Rattle.tez_events.specs.declared.JournalRecord.{JournalRecord}
use Rattle.tez_events.specs.declared.JournalRecord.TheVariants.{Submitted, Opened, Configured}
use Rattle.tez_events.specs.declared.JournalRecord.TheVariants.{TaskSucceeded, AttemptFailed, CommitStarted}
use Rattle.tez_events.specs.declared.JournalRecord.TheVariants.{Finished, Version, SinkPublished}
use Rattle.tez_standing.specs.declared.state.Setting.{Setting}
use Rattle.tez_standing.specs.Standing.{latest, wins, commits, setting, winner, published, ends_finished, phase_by}
use Rattle.tez_standing.specs.Standing.{is_running, has_winners, is_complete, is_open, known, sinks, may_follow}
use Rattle.tez_standing.specs.Standing.{winner_row, each_task, standing, IsLegal}
use Rattle.tez_laws.proofs.StepLaw.{both}
use Rattle.tez_progress.proofs.Members.{all_at}
use Rattle.tez_router_view.proofs.Ordering.{below-in}
use Rattle.tez_recovery.specs.Statements.{AreWonAt, IsWholeByPhase}
use Rattle.tez_recovery.proofs.Records.{row_of, latest_more, stays_set, by_records, are_told}
use Rattle.tez_recovery.proofs.Legal.{row_there}

-- ---- a vertex is set, and each of its tasks has a winner

abbrev HasWinner : List JournalRecord → TaskId → Type 0
HasWinner rs t = (a : AttemptId) × (winner rs t ≡ Some a)

abbrev IsWonAt : List JournalRecord → ℕ → Type 0
IsWonAt rs v = (s : Setting) × (setting rs v ≡ Some s) × ((i : ℕ) → i < s.tasks → HasWinner rs (task v i))

abbrev AreWon : Dag → List JournalRecord → Type 0
AreWon g rs = (v : ℕ) → v < length g.vertices → IsWonAt rs v

some : {X : Type 0} (o : Option X) → is_some o ≡ true → (x : X) × (o ≡ Some x)
some None h = cc
some (Some x) h = (x, refl)

complete : (g : Dag) (rs : List JournalRecord) → is_complete g rs ≡ true → AreWon g rs
complete g rs h v low = by (setting rs v) refl (all_at (has_winners rs) v (numbers_from 0 n) h (below-in n v low)) where
  n : ℕ
  n = length g.vertices

  is_won : ℕ → Bool
  is_won i = is_some (winner rs (task v i))

  by : (o : Option Setting) → setting rs v ≡ o
      → option_map_or (λ s. list_all is_won (numbers_from 0 s.tasks)) o false ≡ true → IsWonAt rs v
  by None e k = cc
  by (Some s) e k =
      (s, e, λ i l. some (winner rs (task v i)) (all_at is_won i (numbers_from 0 s.tasks) k (below-in s.tasks i l)))

-- ---- one record more keeps it

won_more : (rs : List JournalRecord) (r : JournalRecord) (t : TaskId) → HasWinner rs t → HasWinner (rs ++ r ∷ []) t
won_more rs r t w = by (wins t r) refl where
  by : (o : Option AttemptId) → wins t r ≡ o → HasWinner (rs ++ r ∷ []) t
  by None e = (w.0, latest_more (wins t) rs r ∙ ap (λ o. option_or o (winner rs t)) e ∙ w.1)
  by (Some b) e = (b, latest_more (wins t) rs r ∙ ap (λ o. option_or o (winner rs t)) e)

won_all_more : (g : Dag) (rs : List JournalRecord) (r : JournalRecord) → may_follow g rs r ≡ true → AreWon g rs
    → AreWon g (rs ++ r ∷ [])
won_all_more g rs r may won v low =
    let k = won v low in
    (k.0, stays_set g rs r v k.0 may k.1, λ i l. won_more rs r (task v i) (k.2 i l))

-- ---- a commit starts where all is won

abbrev IsWonInCommit : Dag → List JournalRecord → Type 0
IsWonInCommit g rs = (sums : List (ℕ × ℕ)) → latest commits rs ≡ Some sums → AreWon g rs

commit_more : (g : Dag) (rs : List JournalRecord) (r : JournalRecord) → commits r ≡ None → may_follow g rs r ≡ true
    → IsWonInCommit g rs → IsWonInCommit g (rs ++ r ∷ [])
commit_more g rs r none may before sums e =
    let same = latest_more commits rs r ∙ ap (λ o. option_or o (latest commits rs)) none in
    won_all_more g rs r may (before sums (sym same ∙ e))

next_commit : (g : Dag) (rs : List JournalRecord) (r : JournalRecord) → may_follow g rs r ≡ true
    → IsWonInCommit g rs → IsWonInCommit g (rs ++ r ∷ [])
next_commit g rs (CommitStarted all) may before sums e =
    let ready = both {x = length all == sinks g} (both {x = is_open (known g rs)} may).1 in
    won_all_more g rs (CommitStarted all) may (complete g rs ready.1)
next_commit g rs (Submitted text) may before sums e = commit_more g rs (Submitted text) refl may before sums e
next_commit g rs (Opened n) may before sums e = commit_more g rs (Opened n) refl may before sums e
next_commit g rs (Configured w n base) may before sums e = commit_more g rs (Configured w n base) refl may before sums e
next_commit g rs (TaskSucceeded a) may before sums e = commit_more g rs (TaskSucceeded a) refl may before sums e
next_commit g rs (AttemptFailed a) may before sums e = commit_more g rs (AttemptFailed a) refl may before sums e
next_commit g rs Finished may before sums e = commit_more g rs Finished refl may before sums e
next_commit g rs Version may before sums e = commit_more g rs Version refl may before sums e
next_commit g rs (SinkPublished w) may before sums e = commit_more g rs (SinkPublished w) refl may before sums e

started : (finished : Bool) (n : ℕ) (o : Option (List (ℕ × ℕ))) → is_running (phase_by finished n o) ≡ false
    → (sums : List (ℕ × ℕ)) × (o ≡ Some sums)
started finished n None h = cc
started finished n (Some sums) h = (sums, refl)

-- ---- what the standing lists

winner_there : (g : Dag) (rs : List JournalRecord) (v i : ℕ) (a : AttemptId) → v < length g.vertices → i < planned g v
    → winner rs (task v i) ≡ Some a → In a (standing g rs).winners
winner_there g rs v i a inside few e =
    let row : TaskId → List AttemptId = λ t. winner_row (winner rs t) in
    let here : In a (row (task v i)) = subst (λ o. In a (winner_row o)) (sym e) (inl refl) in
    in_flat_map (each_task g row) v a (numbers_from 0 (length g.vertices)) (below-in (length g.vertices) v inside)
    (in_flat_map (λ j. row (task v j)) i a (numbers_from 0 (planned g v)) (below-in (planned g v) i few) here)

pub whole : (g : Dag) (rs : List JournalRecord) → IsValid g → IsInRanges g → IsLegal g rs
    → IsWholeByPhase g (standing g rs)
whole g rs valid ranges legal begun v low =
    let told = are_told g rs valid ranges legal in
    let commit = started (ends_finished rs) (published rs) (latest commits rs) begun in
    let all : IsWonInCommit g rs = by_records g (IsWonInCommit g) rs (λ sums e. cc) (next_commit g) legal in
    let won : IsWonAt rs v = all commit.0 commit.1 v low in
    let few : won.0.tasks ≤ planned g v = (told.sized v won.0 won.1).few in
    let each : AreWonAt v won.0.tasks (standing g rs).winners =
    λ i l.
    let w = won.2 i l in
    (w.0, winner_there g rs v i w.0 low (omega (arith, few, l)) w.1, (told.won (task v i) w.0 w.1).0) in
    (row_of v won.0, row_there g rs v won.0 low won.1, refl {a = v}, each)
