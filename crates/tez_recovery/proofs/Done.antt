-- Where each vertex stands and each of its tasks is kept, all is done.
use Rattle.std.specs.Prelude.{◌≡◌, ◌⊎◌, ℕ, ◌+◌, ◌<◌, ◌≤◌, ◌==◌, ◌&&◌, if◌then◌else◌, Bool, true, false, refl}
use Rattle.std.specs.Prelude.{List, [], ◌∷◌, map, length, Option, Some, None, is_some, unwrap_or}
use Rattle.std.specs.List.{filter_map}
use Rattle.std.proofs.Common.{ap, sym, ◌∙◌, arith, subst, inl, inr}
use Rattle.std.proofs.lemmas.Bool.{eq-eqb}
use Rattle.tez_ids.specs.declared.TaskId.{TaskId}
use Rattle.tez_ids.specs.declared.VertexId.{VertexId}
use Rattle.tez_ids.specs.Same.{task, same_task}
use Rattle.tez_lists.specs.Numbers.{In, numbers_from}
use Rattle.tez_plan.specs.Dag.{Dag, tasks_of as planned}
use Rattle.tez_vman.specs.declared.seen.Config.{Config}
use Rattle.tez_vman.specs.Rules.{config as shape}
use Rattle.tez_standing.specs.declared.state.Standing.{Standing}
use Rattle.tez_history.specs.Shape.{vertices}
use Rattle.tez_history.specs.History.{Past, extend, config, winner}
use Rattle.tez_history.specs.Derived.{winners_of, is_vertex_done, all_done}
use Rattle.tez_laws.proofs.Same.{same_task-refl}
use Rattle.tez_progress.proofs.Members.{numbers_in, all_from, full_or}
use Rattle.tez_master_model.specs.Recovery.{KeptState, config_in}
use Rattle.tez_recovery.specs.Laws.{stands_entry, carried_entry, kept_entry, AreOnce, AreKeptAt, IsWholeOf}
use Rattle.tez_recovery.proofs.Entries.{keeps, AreNew, found_there, stands_config}

-- ---- a task that is kept has a winner

abbrev HasWinner : TaskId → Past → Type 0
HasWinner t p = is_some (winner t p) ≡ true

abbrev kept_after : Past → List KeptState → Past
kept_after p ks = extend p (map kept_entry ks)

stays_won : (t : TaskId) (p : Past) (ks : List KeptState) → HasWinner t p → HasWinner t (kept_after p ks)
stays_won t p [] h = h
stays_won t p (k ∷ ks) h = stays_won t (kept_entry k ∷ p) ks (by (same_task k.attempt.task t)) where
  by : (b : Bool) → is_some (if b then Some k.attempt else winner t p) ≡ true
  by true = refl
  by false = h

kept_won : (t : TaskId) (p : Past) (ks : List KeptState) (k : KeptState) → In k ks → k.attempt.task ≡ t
    → HasWinner t (kept_after p ks)
kept_won t p [] k i e = absurd i
kept_won t p (x ∷ ks) k (inl s) e =
    let of : x.attempt.task ≡ t = ap (λ z. z.attempt.task) (sym s) ∙ e in
    let same : same_task x.attempt.task t ≡ true = subst (λ u. same_task u t ≡ true) (sym of) (same_task-refl t) in
    stays_won t (kept_entry x ∷ p) ks (ap (λ b. is_some (if b then Some x.attempt else winner t p)) same)
kept_won t p (x ∷ ks) k (inr i) e = kept_won t (kept_entry x ∷ p) ks k i e

-- ---- a vertex is done

abbrev HaveWinners : ℕ → ℕ → Past → Type 0
HaveWinners v n p = (i : ℕ) → i < n → HasWinner (task v i) p

all_won : (v n : ℕ) (p : Past) → HaveWinners v n p → length (winners_of v n p) ≡ n
all_won v n p each = by (full_or (λ i. winner (task v i) p) 0 n) where
  by : (length (filter_map (λ i. winner (task v i) p) (numbers_from 0 n)) ≡ n)
      ⊎ ((i : ℕ) × (0 ≤ i) × (i < 0 + n) × (winner (task v i) p ≡ None))
      → length (winners_of v n p) ≡ n
  by (inl e) = e
  by (inr r) = let some = each r.0 (omega (arith, r.2)) in let none = r.3 in cc

vertex_done : (g : Dag) (v : ℕ) (p : Past) (s : Config) → config v p ≡ Some s → HaveWinners v s.tasks p
    → is_vertex_done g v p ≡ true
vertex_done g v p s e each =
    let count : Option Config → ℕ = λ o. (unwrap_or o (shape (planned g v) 1)).tasks in
    ap (λ o. is_some o && (length (winners_of v (count o) p) == count o)) e
    ∙ eq-eqb (length (winners_of v s.tasks p)) s.tasks (all_won v s.tasks p each)

-- ---- all of it

abbrev stood_after : Past → Standing → Past
stood_after p s = extend p (map stands_entry s.configured)

abbrev gone_after : Past → Standing → Past
gone_after p s = extend (stood_after p s) (map carried_entry s.failures)

pub all_kept_done : (g : Dag) (p : Past) (s : Standing) (ks : List KeptState)
    → AreNew p s.configured → AreOnce s.configured → IsWholeOf g s ks
    → all_done g (kept_after (gone_after p s) ks) ≡ true
all_kept_done g p s ks new once whole =
    all_from (λ v. is_vertex_done g v end) (vertices g)
    (λ v i. by v (whole v (low v (numbers_in 0 (length g.vertices) v i))))
  where
    end : Past
    end = kept_after (gone_after p s) ks

    low : (v : ℕ) → v < 0 + length g.vertices → v < length g.vertices
    low v h = omega (arith, h)

    stands : (x : VertexId × ℕ × ℕ) → In x s.configured → config x.0.0 end ≡ Some (config_in x)
    stands x i =
        keeps (λ q. config x.0.0 q) kept_entry (λ q k. refl) (gone_after p s) ks
        ∙ keeps (λ q. config x.0.0 q) carried_entry (λ q y. refl) (stood_after p s) s.failures
        ∙ stands_config p s.configured x.0.0 (config_in x) new once (found_there s.configured x once i)

    by : (v : ℕ) → (x : VertexId × ℕ × ℕ) × In x s.configured × (x.0.0 ≡ v) × AreKeptAt v x.1 ks
        → is_vertex_done g v end ≡ true
    by v w =
        vertex_done g v end (config_in w.0) (subst (λ u. config u end ≡ Some (config_in w.0)) w.2 (stands w.0 w.1))
        (λ i l. let k = w.3 i l in kept_won (task v i) (gone_after p s) ks k.0 k.1 k.2)
