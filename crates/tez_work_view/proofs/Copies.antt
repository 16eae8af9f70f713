-- What an attempt has gathered over an edge is what it copied, input by input, in whatever order it came.
use Rattle.std.specs.Prelude.{◌≡◌, ℕ, ◌+◌, ◌<◌, ◌==◌, ◌&&◌, ◌||◌, Bool, true, false, cond, if◌then◌else◌, List, [], ◌∷◌, ◌++◌, refl}
use Rattle.std.specs.List.{flat_map}
use Rattle.std.proofs.Common.{ap, sym, ◌∙◌, arith, subst, sum_by, bytes_eq}
use Rattle.std.proofs.lemmas.Bool.{eqb-true, eq-eqb}
use Rattle.std.proofs.lemmas.List.Sums.{sum_by-append}
use Rattle.tez_ids.specs.declared.AttemptId.{AttemptId}
use Rattle.tez_ids.specs.Same.{same_attempt}
use Rattle.tez_lists.specs.Numbers.{In}
use Rattle.tez_lists.proofs.Sums.{sum_by-flat_map}
use Rattle.tez_record.specs.Bag.{sort}
use Rattle.tez_record.proofs.BagLemmas.{same_bag}
use Rattle.tez_conf.specs.declared.values.ConfValues.{ConfValues}
use Rattle.tez_events.specs.declared.Entry.TheVariants.{Opened, Over, Fetched, Stopped}
use Rattle.tez_history.specs.Shape.{Edge, edges_to, numbers_below}
use Rattle.tez_history.specs.History.{Past, is_fetched}
use Rattle.tez_history.specs.Derived.{input_count, inputs, has_fetched, all_fetched}
use Rattle.tez_history.specs.Follows.{IsMade}
use Rattle.tez_laws.proofs.Same.{same_attempt-true}
use Rattle.tez_laws.proofs.StepLaw.{both}
use Rattle.tez_progress.proofs.Members.{all_at}
use Rattle.tez_router_view.proofs.Inputs.{input-there}
use Rattle.tez_meaning.specs.Jobs.{Job}
use Rattle.tez_contents.specs.Contents.{Records, made, copied, piece_over}
use Rattle.tez_work_view.specs.Holdings.{gathered}
use Rattle.tez_work_view.proofs.Counting.{sum_below, sum_none, sum_more}
use Rattle.tez_work_view.proofs.Fetched.{fetched_below}

-- how often a record comes
abbrev count : List ℕ → Records → ℕ
count r rs = sum_by (λ s. cond (bytes_eq r s) 1 0) rs

-- how often it comes in what was copied of an input, if that was fetched
abbrev had : Job → AttemptId → ℕ → Past → List ℕ → ℕ → ℕ
had job a n past r i = if is_fetched a n i past then count r (copied job a n i past) else 0

-- ---- one fetch

fetch_more : (s d : Bool) (j i : ℕ) (f : Bool) (p : ℕ → Records) (q : Records) (r : List ℕ) → (s && d) ≡ true → ((j == i) ≡ true → f ≡ false)
    → (if (s && (d && (j == i))) || f then count r (if s && (d && (j == i)) then p i else q) else 0) ≡ (if f then count r q else 0) + cond (j == i) (count r (p j)) 0
fetch_more false d j i f p q r e fresh = cc
fetch_more true false j i f p q r e fresh = cc
fetch_more true true j i f p q r e fresh = by (j == i) refl where
  at : (x : ℕ) (y : Bool) → y ≡ false → x ≡ (if y then count r q else 0) + x
  at x true k = cc
  at x false k = omega arith

  none : (x : ℕ) → x ≡ x + 0
  none x = omega arith

  by : (x : Bool) → (j == i) ≡ x → (if x || f then count r (if x then p i else q) else 0) ≡ (if f then count r q else 0) + cond x (count r (p j)) 0
  by true k = ap (λ y. count r (p y)) (sym (eqb-true j i k)) ∙ at (count r (p j)) f (fresh k)
  by false k = none (if f then count r q else 0)

fetch_other : (s d x f : Bool) (p q : Records) (r : List ℕ) → (s && d) ≡ false → (if (s && (d && x)) || f then count r (if s && (d && x) then p else q) else 0) ≡ (if f then count r q else 0)
fetch_other true true x f p q r e = cc
fetch_other true false x f p q r e = refl
fetch_other false d x f p q r e = refl

was_fetched : (x y : Bool) → y ≡ true → (x || y) ≡ true
was_fetched true y h = refl
was_fetched false y h = h

now_fetched : (s d : Bool) (j : ℕ) (f : Bool) → (s && d) ≡ true → ((s && (d && (j == j))) || f) ≡ true
now_fetched true true j f e = ap (λ x. x || f) (eq-eqb j j refl)
now_fetched true false j f e = cc
now_fetched false d j f e = cc

unfetched : (past : Past) (b a : AttemptId) (d n j i : ℕ) → is_fetched b d j past ≡ false → (same_attempt b a && (d == n)) ≡ true → (j == i) ≡ true → is_fetched a n i past ≡ false
unfetched past b a d n j i fresh h k =
    let s = both {x = same_attempt b a} h in
    subst (λ x. is_fetched x n i past ≡ false) (same_attempt-true b a s.0)
    (subst (λ x. is_fetched b x i past ≡ false) (eqb-true d n s.1) (subst (λ x. is_fetched b d x past ≡ false) (eqb-true j i k) fresh))

-- ---- every history

pub gathered_count : (job : Job) (c : ConfValues) (past : Past) → IsMade job.plan c past → (a : AttemptId) (n most : ℕ) → ((i : ℕ) → is_fetched a n i past ≡ true → i < most) → (r : List ℕ)
    → sum_by (had job a n past r) (numbers_below most) ≡ count r (gathered job a n past)
unfolding made copied
gathered_count job c [] m a n most low r = sum_none (λ i. 0) 0 most (λ i. refl)
gathered_count job c (Opened _ ∷ past) m a n most low r = sum_none (λ i. 0) 0 most (λ i. refl)
gathered_count job c (Over ∷ past) m a n most low r = sum_none (λ i. 0) 0 most (λ i. refl)
gathered_count job c (Stopped _ ∷ past) m a n most low r = sum_none (λ i. 0) 0 most (λ i. refl)
gathered_count job c (Fetched b d j w ∷ past) m a n most low r =
    by (same_attempt b a && (d.0 == n)) refl (gathered_count job c past m.1 a n most (λ i h. low i (was_fetched (same_attempt b a && ((d.0 == n) && (j == i))) (is_fetched a n i past) h)) r)
  where
    piece : ℕ → Records
    piece i = piece_over job.plan past n a.task.index i (made job w past)

    by : (x : Bool) → (same_attempt b a && (d.0 == n)) ≡ x → sum_by (had job a n past r) (numbers_below most) ≡ count r (gathered job a n past)
        → sum_by (λ i. if (same_attempt b a && ((d.0 == n) && (j == i))) || is_fetched a n i past
        then count r (if same_attempt b a && ((d.0 == n) && (j == i)) then piece_over job.plan past n a.task.index i (made job w past) else copied job a n i past) else 0) (numbers_below most)
        ≡ count r (if x then gathered job a n past ++ piece_over job.plan past n a.task.index j (made job w past) else gathered job a n past)
    by true e ih =
        sum_more (had job a n past r) (had job a n (Fetched b d j w ∷ past) r) j most (count r (piece_over job.plan past n a.task.index j (made job w past))) (low j (now_fetched (same_attempt b a) (d.0 == n) j (is_fetched a n j past) e))
        (λ i. fetch_more (same_attempt b a) (d.0 == n) j i (is_fetched a n i past) (λ k. piece_over job.plan past n a.task.index k (made job w past)) (copied job a n i past) r e (unfetched past b a d.0 n j i m.0.1 e))
        ∙ ap (λ k. k + count r (piece_over job.plan past n a.task.index j (made job w past))) ih
        ∙ sym (sum_by-append (λ s. cond (bytes_eq r s) 1 0) (gathered job a n past) (piece_over job.plan past n a.task.index j (made job w past)))
    by false e ih =
        sum_below (had job a n (Fetched b d j w ∷ past) r) (had job a n past r) 0 most
        (λ i _ _. fetch_other (same_attempt b a) (d.0 == n) (j == i) (is_fetched a n i past) (piece_over job.plan past n a.task.index i (made job w past)) (copied job a n i past) r e)
        ∙ ih
gathered_count job c (_ ∷ past) m a n most low r = gathered_count job c past m.1 a n most low r

-- ---- where all inputs are fetched

had_all : (f : Bool) (n : ℕ) → f ≡ true → (if f then n else 0) ≡ n
had_all true n h = refl
had_all false n h = cc

pub gathered_is_copied : (job : Job) (c : ConfValues) (past : Past) (a : AttemptId) (e : Edge) → IsMade job.plan c past → In e (edges_to job.plan a.task.vertex.0) → all_fetched job.plan past a ≡ true
    → sort (gathered job a e.0 past) ≡ sort (flat_map (λ i. copied job a e.0 i past) (numbers_below (input_count job.plan past e.1 a.task.index)))
gathered_is_copied job c past a e m there all =
    let most = input_count job.plan past e.1 a.task.index in
    same_bag (gathered job a e.0 past) (flat_map (λ i. copied job a e.0 i past) (numbers_below most)) (λ r.
    sym (gathered_count job c past m a e.0 most (λ i h. fetched_below job.plan c past m a e i there h) r)
    ∙ sum_below (had job a e.0 past r) (λ i. count r (copied job a e.0 i past)) 0 most
    (λ i _ b. had_all (is_fetched a e.0 i past) (count r (copied job a e.0 i past))
    (all_at (has_fetched past a) (e.0, e.1, i) (inputs job.plan past a) all (input-there job.plan past a e i there (omega arith))))
    ∙ sym (sum_by-flat_map (λ s. cond (bytes_eq r s) 1 0) (λ i. copied job a e.0 i past) (numbers_below most)))
