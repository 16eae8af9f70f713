-- The reading of the source files of a plan, vertex by vertex.
use Rattle.std.proofs.Common.{◌≡◌, ℕ, ◌+◌, ◌-◌, Bool, true, false, not, cond, ◌||◌, List, [], ◌∷◌, ◌++◌, length, refl, sym, ap, ap₂, ◌∙◌, subst, filter, flat_map, count_by, bytes_eq, Option, Some, None, Result, Ok, Err, IfSome, inl, inr, append_assoc, zero-add}
use Rattle.std.specs.List.{AllByRecursion, list_any}
use Rattle.std.specs.Option.{option_map_or}
use Rattle.std.proofs.lemmas.List.Sums.{sum_by-cons}
use Rattle.tez_lists.specs.Numbers.{In}
use Rattle.tez_lists.proofs.Cases.{cases, both}
use Rattle.tez_lists.proofs.Flat.{append-nil, map-append'}
use Rattle.tez_lists.proofs.Members.{in_append_right}
use Rattle.tez_record.proofs.BagLemmas.{same_record, same_itself}
use Rattle.tez_plan.specs.declared.parts.VertexSpec.{VertexSpec}
use Rattle.tez_plan.specs.Dag.{Dag}
use Rattle.tez_ports.specs.Content.{Named}
use Rattle.tez_meaning.specs.Jobs.{Files, IsThereOnce, HasSources, job_of}
use Rattle.tez_am.specs.Accept.{and_then, content, contents, each_once, source_of, source_limit, with_sources}
use Rattle.tez_am.specs.Sources.{names_of, is_named, not_read, names_after, contents_after}
use Rattle.tez_am.specs.declared.status.Status.{Status}

-- ---- names that were read

-- the name of a file that was read is passed over
skipped : (read : List (List ℕ)) (name : List ℕ) (names : List (List ℕ)) → is_named read name ≡ true → not_read read (filter (λ other. not (bytes_eq name other)) names) ≡ not_read read names
skipped read name [] h = refl
skipped read name (x ∷ names) h = cases (bytes_eq name x)
    (λ e. let there : is_named read x ≡ true = subst (λ n. is_named read n ≡ true) (same_record name x e) h in rw (e, there) (skipped read name names h))
    (λ e. cases (is_named read x)
    (λ r. rw (e, r) (skipped read name names h))
    (λ r. rw (e, r) (ap (λ ns. x ∷ ns) (skipped read name names h))))

any-append : (name : List ℕ) (xs ys : List (List ℕ)) → is_named (xs ++ ys) name ≡ is_named xs name || is_named ys name
any-append name [] ys = refl
any-append name (x ∷ xs) ys = cases (bytes_eq x name) (λ e. rw e refl) (λ e. rw e (any-append name xs ys))

-- one more name was read
one_more : (read : List (List ℕ)) (name : List ℕ) (names : List (List ℕ)) → not_read read (filter (λ other. not (bytes_eq name other)) names) ≡ not_read (read ++ name ∷ []) names
one_more read name [] = refl
one_more read name (x ∷ names) = cases (bytes_eq name x)
    (λ e. cases (is_named read x)
    (λ r. rw (any-append x read (name ∷ []), e, r) (one_more read name names))
    (λ r. rw (any-append x read (name ∷ []), e, r) (one_more read name names)))
    (λ e. cases (is_named read x)
    (λ r. rw (any-append x read (name ∷ []), e, r) (one_more read name names))
    (λ r. rw (any-append x read (name ∷ []), e, r) (ap (λ ns. x ∷ ns) (one_more read name names))))

abbrev rest_names : List VertexSpec → List (List ℕ)
rest_names vs = each_once (flat_map source_of vs)

no_source : (read : List (List ℕ)) (v : VertexSpec) (vs : List VertexSpec) → v.source ≡ None → names_after read (v ∷ vs) ≡ names_after read vs
no_source read v vs none = ap (λ o. not_read read (each_once (option_map_or (λ name. name ∷ []) o [] ++ flat_map source_of vs))) none

with_source_at : (read : List (List ℕ)) (v : VertexSpec) (name : List ℕ) (vs : List VertexSpec) → v.source ≡ Some name
    → names_after read (v ∷ vs) ≡ not_read read (name ∷ filter (λ other. not (bytes_eq name other)) (rest_names vs))
with_source_at read v name vs is = ap (λ o. not_read read (each_once (option_map_or (λ n. n ∷ []) o [] ++ flat_map source_of vs))) is

pub names_skip : (read : List (List ℕ)) (v : VertexSpec) (name : List ℕ) (vs : List VertexSpec) → v.source ≡ Some name → is_named read name ≡ true → names_after read (v ∷ vs) ≡ names_after read vs
names_skip read v name vs is there =
    with_source_at read v name vs is ∙ head there ∙ skipped read name (rest_names vs) there
  where
    head : is_named read name ≡ true → not_read read (name ∷ filter (λ other. not (bytes_eq name other)) (rest_names vs)) ≡ not_read read (filter (λ other. not (bytes_eq name other)) (rest_names vs))
    head h = rw h refl

pub names_new : (read : List (List ℕ)) (v : VertexSpec) (name : List ℕ) (vs : List VertexSpec) → v.source ≡ Some name → is_named read name ≡ false → names_after read (v ∷ vs) ≡ name ∷ names_after (read ++ name ∷ []) vs
names_new read v name vs is new =
    with_source_at read v name vs is ∙ head new ∙ ap (λ ns. name ∷ ns) (one_more read name (rest_names vs))
  where
    head : is_named read name ≡ false → not_read read (name ∷ filter (λ other. not (bytes_eq name other)) (rest_names vs)) ≡ name ∷ not_read read (filter (λ other. not (bytes_eq name other)) (rest_names vs))
    head h = rw h refl

-- ---- what they contain

pub after_none : (m : Named) (left : ℕ) (sources : Named) → contents_after m left sources [] ≡ Ok sources
after_none m left sources = ap Ok (append-nil sources)

same_names : (m : Named) (left : ℕ) (sources : Named) (vs ws : List VertexSpec) → names_after (names_of sources) vs ≡ names_after (names_of sources) ws → contents_after m left sources vs ≡ contents_after m left sources ws
same_names m left sources vs ws same = ap (λ ns. and_then (contents m left ns) (λ rest. Ok (sources ++ rest))) same

pub after_no_source : (m : Named) (left : ℕ) (sources : Named) (v : VertexSpec) (vs : List VertexSpec) → v.source ≡ None → contents_after m left sources (v ∷ vs) ≡ contents_after m left sources vs
after_no_source m left sources v vs none = same_names m left sources (v ∷ vs) vs (no_source (names_of sources) v vs none)

pub after_skip : (m : Named) (left : ℕ) (sources : Named) (v : VertexSpec) (name : List ℕ) (vs : List VertexSpec) → v.source ≡ Some name → is_named (names_of sources) name ≡ true
    → contents_after m left sources (v ∷ vs) ≡ contents_after m left sources vs
after_skip m left sources v name vs is there = same_names m left sources (v ∷ vs) vs (names_skip (names_of sources) v name vs is there)

-- one file more
added : (m : Named) (left : ℕ) (sources : Named) (name bytes : List ℕ) (r : Result Named Status)
    → and_then (and_then r (λ rest. Ok ((name, bytes) ∷ rest))) (λ rest. Ok (sources ++ rest)) ≡ and_then r (λ rest. Ok ((sources ++ (name, bytes) ∷ []) ++ rest))
added m left sources name bytes (Ok rest) = ap Ok (sym (append_assoc sources ((name, bytes) ∷ []) rest))
added m left sources name bytes (Err s) = refl

pub names-added : (sources : Named) (name bytes : List ℕ) → names_of (sources ++ (name, bytes) ∷ []) ≡ names_of sources ++ name ∷ []
names-added sources name bytes = map-append' (λ file. file.0) sources ((name, bytes) ∷ [])

pub after_read : (m : Named) (left : ℕ) (sources : Named) (v : VertexSpec) (name bytes : List ℕ) (vs : List VertexSpec) → v.source ≡ Some name → is_named (names_of sources) name ≡ false
    → content name left m ≡ Ok bytes → contents_after m left sources (v ∷ vs) ≡ contents_after m (left - length bytes) (sources ++ (name, bytes) ∷ []) vs
after_read m left sources v name bytes vs is new read =
    ap (λ ns. and_then (contents m left ns) (λ rest. Ok (sources ++ rest))) (names_new (names_of sources) v name vs is new)
    ∙ ap (λ r. and_then (and_then r (λ b. and_then (contents m (left - length b) more) (λ rest. Ok ((name, b) ∷ rest)))) (λ rest. Ok (sources ++ rest))) read
    ∙ added m left sources name bytes (contents m (left - length bytes) more)
    ∙ ap (λ read_names. and_then (contents m (left - length bytes) (names_after read_names vs)) (λ rest. Ok ((sources ++ (name, bytes) ∷ []) ++ rest))) (sym (names-added sources name bytes))
  where
    more : List (List ℕ)
    more = names_after (names_of sources ++ name ∷ []) vs

pub after_refused : (m : Named) (left : ℕ) (sources : Named) (v : VertexSpec) (name : List ℕ) (vs : List VertexSpec) (r : Status) → v.source ≡ Some name → is_named (names_of sources) name ≡ false
    → content name left m ≡ Err r → contents_after m left sources (v ∷ vs) ≡ Err r
after_refused m left sources v name vs r is new refused =
    ap (λ ns. and_then (contents m left ns) (λ rest. Ok (sources ++ rest))) (names_new (names_of sources) v name vs is new)
    ∙ ap (λ c. and_then (and_then c (λ b. and_then (contents m (left - length b) more) (λ rest. Ok ((name, b) ∷ rest)))) (λ rest. Ok (sources ++ rest))) refused
  where
    more : List (List ℕ)
    more = names_after (names_of sources ++ name ∷ []) vs

-- the names of all that were read
pub names_grow : (sources : Named) (v : VertexSpec) (name bytes : List ℕ) (vs : List VertexSpec) → v.source ≡ Some name → is_named (names_of sources) name ≡ false
    → names_of (sources ++ (name, bytes) ∷ []) ++ names_after (names_of (sources ++ (name, bytes) ∷ [])) vs ≡ names_of sources ++ names_after (names_of sources) (v ∷ vs)
names_grow sources v name bytes vs is new =
    ap (λ ns. ns ++ names_after ns vs) (names-added sources name bytes)
    ∙ append_assoc (names_of sources) (name ∷ []) (names_after (names_of sources ++ name ∷ []) vs)
    ∙ ap (λ ns. names_of sources ++ ns) (sym (names_new (names_of sources) v name vs is new))

pub names_still : (sources : Named) (v : VertexSpec) (vs : List VertexSpec) → names_after (names_of sources) (v ∷ vs) ≡ names_after (names_of sources) vs
    → names_of sources ++ names_after (names_of sources) vs ≡ names_of sources ++ names_after (names_of sources) (v ∷ vs)
names_still sources v vs same = ap (λ ns. names_of sources ++ ns) (sym same)

pub no_source_names : (sources : Named) (v : VertexSpec) (vs : List VertexSpec) → v.source ≡ None → names_after (names_of sources) (v ∷ vs) ≡ names_after (names_of sources) vs
no_source_names sources v vs none = no_source (names_of sources) v vs none

-- ---- each is there once

counted : (n : List ℕ) (x : List ℕ) (xs : List (List ℕ)) → count_by (λ k. bytes_eq k n) (x ∷ xs) ≡ cond (bytes_eq x n) 1 0 + count_by (λ k. bytes_eq k n) xs
counted n x xs = sum_by-cons (λ k. cond (bytes_eq k n) 1 0) x xs

-- without the name itself there is none of it
none_left : (n : List ℕ) (names : List (List ℕ)) → count_by (λ k. bytes_eq k n) (filter (λ other. not (bytes_eq n other)) names) ≡ 0
none_left n [] = refl
none_left n (x ∷ names) = cases (bytes_eq n x)
    (λ e. rw e (none_left n names))
    (λ e. rw e (counted n x (filter (λ other. not (bytes_eq n other)) names) ∙ ap₂ (λ b c. cond b 1 0 + c) (other e) (none_left n names)))
  where
    other : bytes_eq n x ≡ false → bytes_eq x n ≡ false
    other e = cases (bytes_eq x n) (λ t. both (same_itself n) (ap (bytes_eq n) (sym (same_record x n t)) ∙ e)) (λ f. f)

-- without another name there are as many
others_left : (n m : List ℕ) (names : List (List ℕ)) → bytes_eq m n ≡ false → count_by (λ k. bytes_eq k n) (filter (λ other. not (bytes_eq m other)) names) ≡ count_by (λ k. bytes_eq k n) names
others_left n m [] h = refl
others_left n m (x ∷ names) h = cases (bytes_eq m x)
    (λ e. rw e (others_left n m names h ∙ sym (zero-add (count_by (λ k. bytes_eq k n) names)) ∙ sym (counted n x names ∙ ap (λ b. cond b 1 0 + count_by (λ k. bytes_eq k n) names) (ap (λ y. bytes_eq y n) (sym (same_record m x e)) ∙ h))))
    (λ e. rw e (counted n x (filter (λ other. not (bytes_eq m other)) names) ∙ ap (λ c. cond (bytes_eq x n) 1 0 + c) (others_left n m names h) ∙ sym (counted n x names)))

found : (n x : List ℕ) (names : List (List ℕ)) → bytes_eq x n ≡ true → count_by (λ k. bytes_eq k n) (each_once (x ∷ names)) ≡ 1
found n x names e =
    counted n x (filter (λ other. not (bytes_eq x other)) (each_once names))
    ∙ ap (λ b. cond b 1 0 + count_by (λ k. bytes_eq k n) (filter (λ other. not (bytes_eq x other)) (each_once names))) e
    ∙ ap (λ y. 1 + count_by (λ k. bytes_eq k n) (filter (λ other. not (bytes_eq y other)) (each_once names))) (same_record x n e)
    ∙ ap (λ c. 1 + c) (none_left n (each_once names))

passed : (n x : List ℕ) (names : List (List ℕ)) → bytes_eq x n ≡ false → count_by (λ k. bytes_eq k n) (each_once names) ≡ 1 → count_by (λ k. bytes_eq k n) (each_once (x ∷ names)) ≡ 1
passed n x names e rest =
    counted n x (filter (λ other. not (bytes_eq x other)) (each_once names))
    ∙ ap (λ b. cond b 1 0 + count_by (λ k. bytes_eq k n) (filter (λ other. not (bytes_eq x other)) (each_once names))) e
    ∙ ap (λ c. 0 + c) (others_left n x (each_once names) e ∙ rest)

once : (n : List ℕ) (names : List (List ℕ)) → In n names → count_by (λ k. bytes_eq k n) (each_once names) ≡ 1
once n [] h = absurd h
once n (x ∷ names) (inl here) = found n x names (ap (λ y. bytes_eq y n) (sym here) ∙ same_itself n)
once n (x ∷ names) (inr there) = cases (bytes_eq x n) (found n x names) (λ e. passed n x names e (once n names there))

-- the test of files is that of their names
pub named_by : (name : List ℕ) (files : Named) → list_any (λ file. bytes_eq file.0 name) files ≡ is_named (names_of files) name
named_by name [] = refl
named_by name (f ∷ files) = ap (λ b. bytes_eq f.0 name || b) (named_by name files)

all_new : (names : List (List ℕ)) → not_read [] names ≡ names
all_new [] = refl
all_new (x ∷ names) = ap (λ ns. x ∷ ns) (all_new names)

count_names : (n : List ℕ) (files : Files) → count_by (λ file. bytes_eq file.0 n) files ≡ count_by (λ k. bytes_eq k n) (names_of files)
count_names n [] = refl
count_names n (f ∷ files) = sum_by-cons (λ file. cond (bytes_eq file.0 n) 1 0) f files ∙ ap (λ c. cond (bytes_eq f.0 n) 1 0 + c) (count_names n files) ∙ sym (counted n f.0 (names_of files))

each_there : (files : Files) (vs : List VertexSpec) → ((n : List ℕ) → In n (flat_map source_of vs) → count_by (λ file. bytes_eq file.0 n) files ≡ 1) → AllByRecursion (IsThereOnce files) vs
each_there files [] h = tt
each_there files (v ∷ vs) h = (by v.source refl, each_there files vs (λ n i. h n (in_append_right n (source_of v) (flat_map source_of vs) i))) where
  by : (o : Option (List ℕ)) → v.source ≡ o → IfSome v.source (λ name. count_by (λ file. bytes_eq file.0 name) files ≡ 1)
  by None is = subst (λ o. IfSome o (λ name. count_by (λ file. bytes_eq file.0 name) files ≡ 1)) (sym is) tt
  by (Some n) is = subst (λ o. IfSome o (λ name. count_by (λ file. bytes_eq file.0 name) files ≡ 1)) (sym is)
      (h n (subst (λ o. In n (option_map_or (λ name. name ∷ []) o [] ++ flat_map source_of vs)) (sym is) (inl refl)))

-- all files of a plan
pub has_sources : (p : Dag) (files : Files) → names_of files ≡ names_after [] p.vertices → HasSources p files
has_sources p files names = each_there files p.vertices (λ n i.
    count_names n files ∙ ap (λ ns. count_by (λ k. bytes_eq k n) ns) (names ∙ all_new (each_once (flat_map source_of p.vertices))) ∙ once n (flat_map source_of p.vertices) i)

-- and what they contain
pub sources_from : (m : Named) (p : Dag) (r : Result Named Status) → contents_after m source_limit [] p.vertices ≡ r → with_sources m p ≡ and_then r (λ sources. Ok (job_of p sources))
unfolding with_sources
sources_from m p r is =
    ap (λ ns. and_then (contents m source_limit ns) (λ sources. Ok (job_of p sources))) (sym (all_new (each_once (flat_map source_of p.vertices))))
    ∙ ap (λ c. and_then c (λ sources. Ok (job_of p sources))) (plain (contents m source_limit (names_after [] p.vertices)) ∙ is)
  where
    plain : (c : Result Named Status) → c ≡ and_then c (λ rest. Ok rest)
    plain (Ok x) = refl
    plain (Err s) = refl

-- ---- the steps of the reading

pub named_from : (name word : List ℕ) (files lent : Named) (b t : Bool) → b ≡ list_any (λ file. bytes_eq file.0 word) lent → lent ≡ files → word ≡ name → b ≡ t → is_named (names_of files) name ≡ t
named_from name word files lent b t is same named told = sym (named_by name files) ∙ sym (ap₂ (λ (w : List ℕ) (fs : Named). list_any (λ file. bytes_eq file.0 w) fs) named same) ∙ sym is ∙ told

-- of a vertex that adds nothing
pub skip_names : (sources : Named) (vs : List VertexSpec) (v : VertexSpec) (name : List ℕ) (rest : List VertexSpec) → vs ≡ v ∷ rest → v.source ≡ Some name → is_named (names_of sources) name ≡ true
    → names_of sources ++ names_after (names_of sources) rest ≡ names_of sources ++ names_after (names_of sources) vs
skip_names sources vs v name rest are is there = ap (λ ns. names_of sources ++ ns) (sym (ap (names_after (names_of sources)) are ∙ names_skip (names_of sources) v name rest is there))

pub skip_contents : (m : Named) (left : ℕ) (sources : Named) (vs : List VertexSpec) (v : VertexSpec) (name : List ℕ) (rest : List VertexSpec) → vs ≡ v ∷ rest → v.source ≡ Some name → is_named (names_of sources) name ≡ true
    → contents_after m left sources vs ≡ contents_after m left sources rest
skip_contents m left sources vs v name rest are is there = ap (contents_after m left sources) are ∙ after_skip m left sources v name rest is there

pub pass_contents : (m : Named) (left : ℕ) (sources : Named) (vs : List VertexSpec) (v : VertexSpec) (rest : List VertexSpec) → vs ≡ v ∷ rest → v.source ≡ None → contents_after m left sources vs ≡ contents_after m left sources rest
pass_contents m left sources vs v rest are none = ap (contents_after m left sources) are ∙ after_no_source m left sources v rest none

-- of one whose file is refused, and of one whose file is read
pub step_refused : (m : Named) (left : ℕ) (sources : Named) (vs : List VertexSpec) (v : VertexSpec) (name word : List ℕ) (rest : List VertexSpec) (r : Status) → vs ≡ v ∷ rest → v.source ≡ Some name → is_named (names_of sources) name ≡ false
    → word ≡ name → content word left m ≡ Err r → contents_after m left sources vs ≡ Err r
step_refused m left sources vs v name word rest r are is new named refused =
    ap (contents_after m left sources) are ∙ after_refused m left sources v name rest r is new (ap (λ n. content n left m) (sym named) ∙ refused)

pub step_read : (m : Named) (left len : ℕ) (sources more : Named) (vs : List VertexSpec) (v : VertexSpec) (name word bytes : List ℕ) (rest : List VertexSpec) → vs ≡ v ∷ rest → v.source ≡ Some name
    → is_named (names_of sources) name ≡ false → word ≡ name → content word left m ≡ Ok bytes → len ≡ length bytes → more ≡ sources ++ (name, bytes) ∷ []
    → contents_after m left sources vs ≡ contents_after m (left - len) more rest
step_read m left len sources more vs v name word bytes rest are is new named read counted_is more_is =
    ap (contents_after m left sources) are
    ∙ after_read m left sources v name bytes rest is new (ap (λ n. content n left m) (sym named) ∙ read)
    ∙ ap (λ n. contents_after m (left - n) (sources ++ (name, bytes) ∷ []) rest) (sym counted_is)
    ∙ ap (λ s. contents_after m (left - len) s rest) (sym more_is)

pub step_names : (sources more : Named) (vs : List VertexSpec) (v : VertexSpec) (name bytes : List ℕ) (rest : List VertexSpec) → vs ≡ v ∷ rest → v.source ≡ Some name → is_named (names_of sources) name ≡ false
    → more ≡ sources ++ (name, bytes) ∷ [] → names_of more ++ names_after (names_of more) rest ≡ names_of sources ++ names_after (names_of sources) vs
step_names sources more vs v name bytes rest are is new more_is =
    ap (λ s. names_of s ++ names_after (names_of s) rest) more_is
    ∙ names_grow sources v name bytes rest is new
    ∙ ap (λ ws. names_of sources ++ names_after (names_of sources) ws) (sym are)

-- all of a plan, from nothing
pub whole_names : (p : Dag) (files none : Named) (vs : List VertexSpec) → none ≡ [] → vs ≡ p.vertices → names_of files ≡ names_of none ++ names_after (names_of none) vs → HasSources p files
whole_names p files none vs empty are names = has_sources p files (names ∙ ap₂ (λ (s : Named) (ws : List VertexSpec). names_of s ++ names_after (names_of s) ws) empty are)

pub whole_contents : (m : Named) (p : Dag) (none : Named) (vs : List VertexSpec) (r : Result Named Status) → none ≡ [] → vs ≡ p.vertices → contents_after m source_limit none vs ≡ r → with_sources m p ≡ and_then r (λ sources. Ok (job_of p sources))
whole_contents m p none vs r empty are is = sources_from m p r (sym (ap₂ (λ (s : Named) (ws : List VertexSpec). contents_after m source_limit s ws) empty are) ∙ is)
