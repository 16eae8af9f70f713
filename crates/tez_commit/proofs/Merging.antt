-- What attempts staged, put together.
--     AreStaged_more, records_more     one attempt more is loaded
--     not_staged_at                    an attempt that is not staged, among others
--     same_fault                       a fault that is handed on
--     published_last                   a name that is readied, then published
--     values_merged                    staged texts of records
use Rattle.std.proofs.Common.{◌≡◌, ℕ, zero, suc, ◌+◌, ◌<◌, ◌++◌, List, [], ◌∷◌, length, true, take, get_or, Some, None, is_some, unwrap_or, IsSome, Err, IsErrOf, refl, sym, ap, ◌∙◌, flat_map, arith}
use Rattle.std.specs.List.{AllByRecursion}
use Rattle.std.proofs.lemmas.List.{take_more}
use Rattle.tez_ids.specs.declared.AttemptId.{AttemptId}
use Rattle.tez_lists.proofs.Flat.{append-nil, flat-append}
use Rattle.tez_record.specs.Line.{lines, IsRecord}
use Rattle.tez_record.specs.Bag.{sort, text}
use Rattle.tez_record.proofs.LineLemmas.{lines-text}
use Rattle.tez_ports.specs.declared.faults.StoreFault.{StoreFault}
use Rattle.tez_ports.specs.Content.{Staged, Store, publishes, staged_at}
use Rattle.tez_ports.proofs.ContentLemmas.{put_found}
use Rattle.tez_commit.specs.Merge.{AreStaged, staged_bytes, staged_records, merged, prepares}

all_append : {X : Type 0} (P : X → Type 0) (xs ys : List X) → AllByRecursion P xs → AllByRecursion P ys → AllByRecursion P (xs ++ ys)
all_append P [] ys h k = k
all_append P (x ∷ xs) ys h k = (h.0, all_append P xs ys h.1 k)

pub AreStaged_more : (staged : Staged) (winners : List AttemptId) (i : ℕ) (d : AttemptId) → i < length winners → IsSome (staged_at (get_or winners i d) staged) → AreStaged staged (take i winners)
    → AreStaged staged (take (i + 1) winners)
AreStaged_more staged winners i d b here before =
    rw (take_more winners i d b) (all_append (λ x. IsSome (staged_at x staged)) (take i winners) (get_or winners i d ∷ []) before (here, tt))

pub records_more : (staged : Staged) (winners : List AttemptId) (i : ℕ) (d : AttemptId) (was now : List (List ℕ)) → i < length winners
    → was ≡ staged_records staged (take i winners) → now ≡ was ++ lines (staged_bytes staged (get_or winners i d)) → now ≡ staged_records staged (take (i + 1) winners)
records_more staged winners i d was now b w n =
    let each = λ (a : AttemptId). lines (staged_bytes staged a) in
    let last : flat_map each (take (i + 1) winners) ≡ flat_map each (take i winners) ++ each (get_or winners i d) =
    ap (flat_map each) (take_more winners i d b) ∙ flat-append each (take i winners) (get_or winners i d ∷ []) ∙ ap (λ rs. flat_map each (take i winners) ++ rs) (append-nil (each (get_or winners i d))) in
    n ∙ ap (λ rs. rs ++ each (get_or winners i d)) w ∙ sym last

-- one of these is not staged
pub not_staged_at : (staged : Staged) (winners : List AttemptId) (i : ℕ) (d : AttemptId) → i < length winners → staged_at (get_or winners i d) staged ≡ None → AreStaged staged winners → ⊥
not_staged_at staged [] i d b none all = absurd (omega arith)
not_staged_at staged (w ∷ ws) zero d b none all = let h : is_some {T = List ℕ} None ≡ true = rw none at all.0 in cc
not_staged_at staged (w ∷ ws) (suc i) d b none all = not_staged_at staged ws i d (omega arith) none all.1

-- a fault that is handed on
pub same_fault : {T U : Type 0} (fault e : StoreFault) → IsErrOf {T = T} (Err fault) e → IsErrOf {T = U} (Err fault) e
same_fault fault e h = let same : fault ≡ e = cc in ap Err same

pub published_last : (winners : List AttemptId) (name : List ℕ) (s : Store) → (publishes name (prepares winners name s)).publications ≡ s.publications ++ (name, text (merged s.staged winners)) ∷ []
published_last winners name s = rw (put_found name (text (merged s.staged winners)) s.readied)

-- the records of staged texts
values_staged : (staged : Staged) (value : AttemptId → List (List ℕ)) (winners : List AttemptId) → AllByRecursion (λ a. AllByRecursion IsRecord (value a) × (staged_at a staged ≡ Some (text (value a)))) winners
    → staged_records staged winners ≡ flat_map value winners
values_staged staged value [] all = refl
values_staged staged value (a ∷ winners) all =
    let here : lines (staged_bytes staged a) ≡ value a = ap (λ o. lines (unwrap_or o [])) all.0.1 ∙ lines-text (value a) all.0.0 in
    let rest = values_staged staged value winners all.1 in
    cc

pub values_merged : (staged : Staged) (winners : List AttemptId) (value : AttemptId → List (List ℕ)) → AllByRecursion (λ a. AllByRecursion IsRecord (value a) × (staged_at a staged ≡ Some (text (value a)))) winners
    → merged staged winners ≡ sort (flat_map value winners)
values_merged staged winners value all = ap sort (values_staged staged value winners all)
