-- What a run leaves among the publications.
--     all_published        all sinks are a first part of them
--     finds_taken, finds_free, is_free      the first sink that was there, by what the run knows
--     part_of              a first part of the sinks, each at most once
use Rattle.std.proofs.Common.{◌≡◌, ◌⊎◌, ℕ, zero, suc, ◌+◌, ◌≤◌, ◌<◌, ◌++◌, List, [], ◌∷◌, Bool, true, false, cond, map, find, take, length, Option, Some, None, option_map, is_some, refl, inl, inr, ◌∙◌, sym, ap, subst, bytes_eq, arith, take_all, le_refl, slice_get, ⊎_elim}
use Rattle.std.specs.List.{AllByRecursion, filter, list_any}
use Rattle.std.specs.Option.{option_map_or}
use Rattle.std.proofs.lemmas.Bool.{or_left, or_right, cases_lt}
use Rattle.tez_plan.specs.declared.parts.VertexSpec.{VertexSpec}
use Rattle.tez_lists.specs.Numbers.{In, numbers_from}
use Rattle.tez_lists.proofs.Cases.{cases, both}
use Rattle.tez_lists.proofs.Flat.{filter-append}
use Rattle.tez_record.proofs.BagLemmas.{same_record, same_itself}
use Rattle.tez_ports.specs.Causes.{Rose}
use Rattle.tez_ports.specs.Content.{Named, Store, bytes_of}
use Rattle.tez_plan.specs.Dag.{Dag}
use Rattle.tez_plan.specs.Faults.{IsValid}
use Rattle.tez_meaning.specs.Jobs.{Job}
use Rattle.tez_meaning.specs.Value.{sink_text, sink_texts, sinks as named_sinks}
use Rattle.tez_meaning.specs.Published.{published, IsThere, IsPublishedOnce, IsPublishedAtMostOnce}
use Rattle.tez_history.specs.Shape.{sinks, has_sink, vertices}
use Rattle.tez_laws.proofs.Sinks.{Rises, AllAbove}
use Rattle.tez_sinks.specs.Sinks.{sink_of, sink_name, sink_entry, HasNoSink}
use Rattle.tez_sinks.proofs.Names.{own_name, has_name, listed_sink, sinks_rise, entries_are, all_sinks}
use Rattle.tez_world_invariant.specs.Store.{HasPublished}
use Rattle.tez_steps.specs.Step.{first_published}
use Rattle.tez_am.specs.Call.{Stored}
use Rattle.tez_am.specs.Publish.{publications, first_taken, is_sink, is_taken, sink_names, More, Publishes, PublishesPart}

pub rose_later : (a b c : ℕ) → a ≤ b → Rose b c → Rose a c
rose_later a b c le h = omega arith

-- ---- names that are there, and not

there_not : (n : List ℕ) (ps : Named) → published n ps ≡ [] → bytes_of n ps ≡ None
there_not n [] h = refl
there_not n (p ∷ ps) h = cases (bytes_eq p.0 n)
    (λ e. let wrong : p ∷ published n ps ≡ [] = rw e at h in cc)
    (λ e. let rest : published n ps ≡ [] = rw e at h in rw e (there_not n ps rest))

not_there : (n : List ℕ) (ps : Named) → bytes_of n ps ≡ None → published n ps ≡ []
not_there n [] h = refl
not_there n (p ∷ ps) h = cases (bytes_eq p.0 n)
    (λ e. let wrong : Some p.1 ≡ None = rw e at h in cc)
    (λ e. let rest : bytes_of n ps ≡ None = rw e at h in rw e (not_there n ps rest))

module _ (job : Job) where
  abbrev entry : ℕ × List ℕ → List ℕ × List ℕ
  entry s = (s.1, sink_text job s.0)

  free_of : (ps : Named) (ss : List (ℕ × List ℕ)) → AllByRecursion (λ sink. published sink.0 ps ≡ []) (map entry ss) → find (is_taken ps) (map (λ s. s.1) ss) ≡ None
  free_of ps [] h = refl
  free_of ps (s ∷ ss) h = rw (there_not s.1 ps h.0) (free_of ps ss h.1)

  none_of : (ps : Named) (ss : List (ℕ × List ℕ)) → find (is_taken ps) (map (λ s. s.1) ss) ≡ None → AllByRecursion (λ sink. published sink.0 ps ≡ []) (map entry ss)
  none_of ps [] h = tt
  none_of ps (s ∷ ss) h = by (bytes_of s.1 ps) refl h (none_of ps ss) where
    by : (o : Option (List ℕ)) → bytes_of s.1 ps ≡ o → cond (is_some o) (Some s.1) (find (is_taken ps) (map (λ x. x.1) ss)) ≡ None
        → (find (is_taken ps) (map (λ x. x.1) ss) ≡ None → AllByRecursion (λ sink. published sink.0 ps ≡ []) (map entry ss))
        → (published s.1 ps ≡ []) × AllByRecursion (λ sink. published sink.0 ps ≡ []) (map entry ss)
    by None e k rest = (not_there s.1 ps e, rest k)
    by (Some x) e k rest = cc

pub finds_free : (job : Job) (before : Named) → HasNoSink job before → first_taken job.plan before ≡ None
finds_free job before h = free_of job before (named_sinks 0 job.plan.vertices) h

pub is_free : (job : Job) (before : Named) → first_taken job.plan before ≡ None → HasNoSink job before
is_free job before h = none_of job before (named_sinks 0 job.plan.vertices) h

find_map : (p : List ℕ → Bool) (f : ℕ → List ℕ) (xs : List ℕ) (v : ℕ) → find (λ x. p (f x)) xs ≡ Some v → find p (map f xs) ≡ Some (f v)
find_map p f [] v h = cc
find_map p f (x ∷ xs) v h = cases (p (f x))
    (λ e. let same : Some x ≡ Some v = rw e at h in let is : x ≡ v = cc in rw e (ap (λ y. Some (f y)) is))
    (λ e. let rest : find (λ y. p (f y)) xs ≡ Some v = rw e at h in rw e (find_map p f xs v rest))

names_are : (g : Dag) → map (sink_name g) (sinks g) ≡ sink_names g
names_are g = all_sinks g (λ v name. name)

pub finds_taken : (g : Dag) (before : Named) (v : ℕ) → first_published g before ≡ Some v → first_taken g before ≡ Some (sink_name g v)
finds_taken g before v h = sym (ap (find (is_taken before)) (names_are g)) ∙ find_map (is_taken before) (sink_name g) (sinks g) v h

among : (f : ℕ → List ℕ) (v : ℕ) (xs : List ℕ) → In v xs → list_any (bytes_eq (f v)) (map f xs) ≡ true
among f v [] h = absurd h
among f v (x ∷ xs) (inl e) = or_left (bytes_eq (f v) (f x)) (list_any (bytes_eq (f v)) (map f xs)) (ap (λ y. bytes_eq (f v) (f y)) (sym e) ∙ same_itself (f v))
among f v (x ∷ xs) (inr i) = or_right (bytes_eq (f v) (f x)) (list_any (bytes_eq (f v)) (map f xs)) (among f v xs i)

pub named_sink : (g : Dag) (v : ℕ) → In v (sinks g) → is_sink g (sink_name g v) ≡ true
named_sink g v i = sym (ap (list_any (bytes_eq (sink_name g v))) (names_are g)) ∙ among (sink_name g) v (sinks g) i

-- a vertex with a sink is among them
kept_in : (p : ℕ → Bool) (v : ℕ) (xs : List ℕ) → In v xs → p v ≡ true → In v (filter p xs)
kept_in p v [] h is = absurd h
kept_in p v (x ∷ xs) (inl e) is = let here : p x ≡ true = ap p (sym e) ∙ is in rw here (inl e)
kept_in p v (x ∷ xs) (inr i) is = cases (p x)
    (λ t. rw t (inr (kept_in p v xs i is)))
    (λ f. rw f (kept_in p v xs i is))

among_numbers : (k n v : ℕ) → k ≤ v → v < k + n → In v (numbers_from k n)
among_numbers k zero v low high = absurd (omega arith)
among_numbers k (suc n) v low high = ⊎_elim (λ less. inr (among_numbers (suc k) n v (omega arith) (omega arith))) (λ more. inl (omega arith)) (cases_lt k v)

low_if_there : {X : Type 0} (xs : List X) (i : ℕ) (f : X → Bool) → option_map_or f (slice_get xs i) false ≡ true → i < length xs
low_if_there [] i f h = cc
low_if_there (x ∷ xs) zero f h = omega arith
low_if_there (x ∷ xs) (suc i) f h = let rest = low_if_there xs i f h in omega arith

pub sink_in : (g : Dag) (v : ℕ) → has_sink g v ≡ true → In v (sinks g)
sink_in g v h =
    let low = low_if_there g.vertices v (λ (s : VertexSpec). is_some s.sink) h in
    kept_in (has_sink g) v (vertices g) (among_numbers 0 (length g.vertices) v (omega arith) (omega (arith, low))) h

-- ---- sinks of different names

abbrev Differ : Named → Type 0
Differ [] = Unit {0}
Differ (x ∷ xs) = (published x.0 xs ≡ []) × Differ xs

none_taken : (n : List ℕ) (k : ℕ) (xs : Named) → published n xs ≡ [] → published n (take k xs) ≡ []
none_taken n zero xs h = refl
none_taken n (suc k) [] h = refl
none_taken n (suc k) (x ∷ xs) h = cases (bytes_eq x.0 n)
    (λ e. let wrong : x ∷ published n xs ≡ [] = rw e at h in cc)
    (λ e. let rest : published n xs ≡ [] = rw e at h in rw e (none_taken n k xs rest))

-- one that is among them has another name
other : (n : List ℕ) (s : List ℕ × List ℕ) (xs : Named) → In s xs → published n xs ≡ [] → bytes_eq n s.0 ≡ false
other n s [] i h = absurd i
other n s (x ∷ xs) i h = cases (bytes_eq x.0 n)
    (λ e. let wrong : x ∷ published n xs ≡ [] = rw e at h in cc)
    (λ e. let rest : published n xs ≡ [] = rw e at h in elim i [ inl is ↦ apart (ap (λ y. bytes_eq y.0 n) is ∙ e) | inr j ↦ other n s xs j rest ])
  where
    apart : bytes_eq s.0 n ≡ false → bytes_eq n s.0 ≡ false
    apart e = cases (bytes_eq n s.0) (λ t. both (same_itself n) (ap (λ y. bytes_eq y n) (same_record n s.0 t) ∙ e)) (λ f. f)

found : (s : List ℕ × List ℕ) (xs : Named) → Differ xs → In s xs → published s.0 xs ≡ s ∷ []
found s [] d i = absurd i
found s (x ∷ xs) d (inl e) =
    let none : published s.0 xs ≡ [] = ap (λ y. published y.0 xs) e ∙ d.0 in
    let here : bytes_eq x.0 s.0 ≡ true = ap (λ y. bytes_eq x.0 y.0) e ∙ same_itself x.0 in
    rw (here, none) (ap (λ y. y ∷ []) (sym e))
found s (x ∷ xs) d (inr i) = rw (other x.0 s xs i d.0) (found s xs d.1 i)

found_part : (s : List ℕ × List ℕ) (k : ℕ) (xs : Named) → Differ xs → In s xs → (published s.0 (take k xs) ≡ []) ⊎ (published s.0 (take k xs) ≡ s ∷ [])
found_part s zero xs d i = inl refl
found_part s (suc k) [] d i = absurd i
found_part s (suc k) (x ∷ xs) d (inl e) =
    let none : published s.0 (take k xs) ≡ [] = none_taken s.0 k xs (ap (λ y. published y.0 xs) e ∙ d.0) in
    let here : bytes_eq x.0 s.0 ≡ true = ap (λ y. bytes_eq x.0 y.0) e ∙ same_itself x.0 in
    inr (rw (here, none) (ap (λ y. y ∷ []) (sym e)))
found_part s (suc k) (x ∷ xs) d (inr i) = rw (other x.0 s xs i d.0) (found_part s k xs d.1 i)

abbrev AreSinks : Job → List ℕ → Type 0
AreSinks job vs = AllByRecursion (λ v. sink_of job.plan v ≡ Some (sink_name job.plan v)) vs

other_name : (job : Job) → IsValid job.plan → (u v : ℕ) → sink_of job.plan u ≡ Some (sink_name job.plan u) → sink_of job.plan v ≡ Some (sink_name job.plan v) → (u ≡ v → ⊥) → bytes_eq (sink_name job.plan u) (sink_name job.plan v) ≡ false
other_name job valid u v h k differ = cases (bytes_eq (sink_name job.plan u) (sink_name job.plan v))
    (λ e. absurd (differ (own_name job.plan u v (sink_name job.plan v) valid (h ∙ ap Some (same_record (sink_name job.plan u) (sink_name job.plan v) e)) k)))
    (λ e. e)

none_above : (job : Job) → IsValid job.plan → (v : ℕ) (us : List ℕ) → sink_of job.plan v ≡ Some (sink_name job.plan v) → AreSinks job us → AllAbove v us → published (sink_name job.plan v) (map (sink_entry job) us) ≡ []
none_above job valid v [] h all a = refl
none_above job valid v (u ∷ us) h all a = let over : v < u = a.0 in rw (other_name job valid u v all.0 h (λ e. omega (arith, over, e))) (none_above job valid v us h all.1 a.1)

rising_differ : (job : Job) → IsValid job.plan → (us : List ℕ) → AreSinks job us → Rises us → Differ (map (sink_entry job) us)
rising_differ job valid [] all r = tt
rising_differ job valid (u ∷ us) all r = (none_above job valid u us all.0 all.1 r.0, rising_differ job valid us all.1 r.1)

all_are : (job : Job) (vs : List ℕ) → ((v : ℕ) → In v vs → In v (sinks job.plan)) → AreSinks job vs
all_are job [] h = tt
all_are job (v ∷ vs) h = (has_name job.plan v (listed_sink job.plan v (h v (inl refl))).1, all_are job vs (λ u i. h u (inr i)))

texts_differ : (job : Job) → IsValid job.plan → Differ (sink_texts job)
texts_differ job valid = subst Differ (entries_are job) (rising_differ job valid (sinks job.plan) (all_are job (sinks job.plan) (λ v i. i)) (sinks_rise job.plan))

-- ---- what is published then

each : {X : Type 0} (P Q : X → Type 0) (xs ys : List X) → ((x : X) → In x ys → P x → Q x) → ((x : X) → In x xs → In x ys) → AllByRecursion P xs → AllByRecursion Q xs
each P Q [] ys step inside h = tt
each P Q (x ∷ xs) ys step inside h = (step x (inside x (inl refl)) h.0, each P Q xs ys step (λ y i. inside y (inr i)) h.1)

after : (n : List ℕ) (before more : Named) → published n before ≡ [] → published n (before ++ more) ≡ published n more
after n before more none = filter-append (λ p. bytes_eq p.0 n) before more ∙ ap (λ ps. ps ++ published n more) none

pub once : (job : Job) (before now : Named) → IsValid job.plan → HasNoSink job before → now ≡ before ++ sink_texts job → IsPublishedOnce job now
once job before now valid free is = each (λ sink. published sink.0 before ≡ []) (IsThere now) (sink_texts job) (sink_texts job)
    (λ s i none. ap (published s.0) is ∙ after s.0 before (sink_texts job) none ∙ found s (sink_texts job) (texts_differ job valid) i)
    (λ s i. i) free

pub at_most_once : (job : Job) (before now : Named) (n : ℕ) → IsValid job.plan → HasNoSink job before → now ≡ before ++ take n (sink_texts job) → IsPublishedAtMostOnce job now
at_most_once job before now n valid free is = each (λ sink. published sink.0 before ≡ []) (λ sink. (published sink.0 now ≡ []) ⊎ IsThere now sink) (sink_texts job) (sink_texts job)
    (λ s i none. let same = ap (published s.0) is ∙ after s.0 before (take n (sink_texts job)) none in elim (found_part s n (sink_texts job) (texts_differ job valid) i) [ inl e ↦ inl (same ∙ e) | inr e ↦ inr (same ∙ e) ])
    (λ s i. i) free

all_once : {X : Type 0} (P Q : X → Type 0) (xs : List X) → AllByRecursion Q xs → AllByRecursion (λ x. P x ⊎ Q x) xs
all_once P Q [] h = tt
all_once P Q (x ∷ xs) h = (inr h.0, all_once P Q xs h.1)

-- ---- by the store that a run leaves

-- where it told before, it tells now
pub told_too : (a b : Option Store) → is_some b ≡ is_some a → (s : Store) → a ≡ Some s → (t : Store) × (b ≡ Some t)
told_too None b tells s e = cc
told_too (Some x) None tells s e = cc
told_too (Some x) (Some t) tells s e = (t, refl)

pub more_from : (old new : Option Store) (extra : Named) → is_some new ≡ is_some old → ((s : Store) → old ≡ Some s → (t : Store) → new ≡ Some t → t.publications ≡ s.publications ++ extra)
    → publications new ≡ option_map (λ ps. ps ++ extra) (publications old)
more_from None None extra tells h = refl
more_from None (Some t) extra tells h = cc
more_from (Some s) None extra tells h = cc
more_from (Some s) (Some t) extra tells h = ap Some (h s refl t refl)

pub same_from : (old new : Option Store) → is_some new ≡ is_some old → ((s : Store) → old ≡ Some s → (t : Store) → new ≡ Some t → t.publications ≡ s.publications) → publications new ≡ publications old
same_from None None tells h = refl
same_from None (Some t) tells h = cc
same_from (Some s) None tells h = cc
same_from (Some s) (Some t) tells h = ap Some (h s refl t refl)

more_at : (old new : Option Store) (extra : Named) → publications new ≡ option_map (λ ps. ps ++ extra) (publications old) → (s : Store) → old ≡ Some s → (t : Store) → new ≡ Some t → t.publications ≡ s.publications ++ extra
more_at old new extra more s e t k = let h : Some t.publications ≡ Some (s.publications ++ extra) = rw (e, k) at more in cc

pub part_of : (job : Job) (store : Stored) (n : ℕ) → IsValid job.plan → More (take n (sink_texts job)) store → PublishesPart job store
part_of job store n valid more = record {
  count = n;
  part = more;
  at_most_once = λ s e free t k. at_most_once job s.publications t.publications n valid (is_free job s.publications free) (more_at store.old store.new (take n (sink_texts job)) more s e t k);
}

pub part_told : (job : Job) (store : Stored) → IsValid job.plan → is_some store.new ≡ is_some store.old
    → ((s : Store) → store.old ≡ Some s → (t : Store) → store.new ≡ Some t → HasPublished job s.publications t) → PublishesPart job store
part_told job store valid tells h = by store.old store.new refl refl tells where
  by : (o n : Option Store) → store.old ≡ o → store.new ≡ n → is_some n ≡ is_some o → PublishesPart job store
  by None None e k same = part_of job store 0 valid (rw (e, k) refl)
  by None (Some t) e k same = cc
  by (Some s) None e k same = cc
  by (Some s) (Some t) e k same = let part = h s e t k in part_of job store part.0 valid (rw (e, k) (ap Some part.1))

pub all_published : (job : Job) (store : Stored) → Publishes job store → PublishesPart job store
all_published job store done = record {
  count = length (sink_texts job);
  part = subst (λ xs. More xs store) (sym (take_all (length (sink_texts job)) (sink_texts job) (le_refl (length (sink_texts job))))) done.no_other;
  at_most_once = λ s e free t k. all_once (λ sink. published sink.0 t.publications ≡ []) (IsThere t.publications) (sink_texts job) (done.once t k);
}
