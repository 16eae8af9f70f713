-- The reader of a run's options says exactly what the items are.
use Rattle.std.proofs.Common.{◌≡◌, Bool, true, false, not, ◌||◌, List, [], ◌∷◌, ◌++◌, codes, Option, Some, None, if◌then◌else◌, refl, sym, ap, ◌∙◌, filter, subst, inl, inr}
use Rattle.std.specs.List.{filter_map}
use Rattle.std.specs.Option.{option_and_then, option_to_list}
use Rattle.std.proofs.lemmas.List.{append-nil}
use Rattle.std.proofs.lemmas.Option.{none-some}
use Rattle.tez_words.specs.Commands.{IsValue, Word, is_file_word, Item, File, Script, Trace, AreSpelt, file_in, script_in, is_trace, IsOptions}
use Rattle.tez_words.specs.declared.command.Options.{Options}
use Rattle.tez_words.specs.declared.options.Found.{Found}
use Rattle.tez_words.specs.declared.options.Next.{Next}
use Rattle.tez_words.specs.declared.options.Next.TheVariants.{Any, ScriptFile}
use Rattle.tez_words.specs.Reading.{read_word, read_words, with_file, with_script, with_trace, none_found, options_of, options_with, options_in}
use Rattle.tez_words.proofs.Small.{one_value, unless_some, chained, empty, firsts, one_only}
use Rattle.tez_words.proofs.Items as item
use Rattle.tez_words.proofs.Items.{Begun, begun, trace_begins, script_begins, script_of_begins, file_begins}

-- the words still to come are these items, the first of which may have begun
abbrev Come : Next → List Item → List Word → Type 0
Come Any xs words = AreSpelt xs words
Come ScriptFile xs words = (w : Word) × (rest : List Word) × (ys : List Item) × (xs ≡ Script w ∷ ys) × (is_file_word w ≡ true) × (words ≡ w ∷ rest) × AreSpelt ys rest

abbrev traces : Bool → List Item
traces b = if b then Trace ∷ [] else []

-- what was found and these items are together the options
record Add (file script : Option Word) (trace : Bool) (xs : List Item) (o : Options Word) : Type 0 where
  files : option_to_list file ++ filter_map file_in xs ≡ o.file ∷ []
  scripts : option_to_list script ++ filter_map script_in xs ≡ option_to_list o.script
  trace_items : traces trace ++ filter is_trace xs ≡ traces o.trace

record Goes (found : Found Word) (words : List Word) (o : Options Word) : Type 0 where
  items : List Item
  come : Come found.next items words
  add : Add found.file found.script found.trace items o

-- ---- one item more

file_added : (script : Option Word) (trace : Bool) (w : Word) (xs : List Item) (o : Options Word) → Add (Some w) script trace xs o → Add None script trace (File w ∷ xs) o
file_added script trace w xs o h = record { files = h.files; scripts = h.scripts; trace_items = h.trace_items }

script_added : (file : Option Word) (trace : Bool) (w : Word) (xs : List Item) (o : Options Word) → Add file (Some w) trace xs o → Add file None trace (Script w ∷ xs) o
script_added file trace w xs o h = record { files = h.files; scripts = h.scripts; trace_items = h.trace_items }

trace_added : (file script : Option Word) (xs : List Item) (o : Options Word) → Add file script true xs o → Add file script false (Trace ∷ xs) o
trace_added file script xs o h = record { files = h.files; scripts = h.scripts; trace_items = h.trace_items }

file_taken : (script : Option Word) (trace : Bool) (w : Word) (xs : List Item) (o : Options Word) → Add None script trace (File w ∷ xs) o → Add (Some w) script trace xs o
file_taken script trace w xs o h = record { files = h.files; scripts = h.scripts; trace_items = h.trace_items }

script_taken : (file : Option Word) (trace : Bool) (w : Word) (xs : List Item) (o : Options Word) → Add file None trace (Script w ∷ xs) o → Add file (Some w) trace xs o
script_taken file trace w xs o h = record { files = h.files; scripts = h.scripts; trace_items = h.trace_items }

trace_taken : (file script : Option Word) (xs : List Item) (o : Options Word) → Add file script false (Trace ∷ xs) o → Add file script true xs o
trace_taken file script xs o h = record { files = h.files; scripts = h.scripts; trace_items = h.trace_items }

-- ---- what the reader says is so

abbrev state : Option Word → Option Word → Bool → Next → Found Word
state f s t n = record { file = f; script = s; trace = t; next = n }

script_step : (f s : Option Word) (t : Bool) (n : Next) (w : Word) (ws : List Word) (g : Found Word) (o : Options Word)
    → with_script (state f s t n) w ≡ Some g → Goes g ws o
    → (is_file_word w ≡ true) × (ys : List Item) × AreSpelt ys ws × Add f s t (Script w ∷ ys) o
script_step f (Some v) t n w ws g o h goes = absurd (none-some g h)
script_step f None t n w ws g o h goes =
    let found = unless_some false (is_file_word w) (state f (Some w) t Any) g h in
    let next : Goes (state f (Some w) t Any) ws o = subst (λ x. Goes x ws o) (sym found.2) goes in
    (found.1, next.items, next.come, script_added f t w next.items o next.add)

file_step : (f s : Option Word) (t : Bool) (w : Word) (ws : List Word) (g : Found Word) (o : Options Word)
    → with_file (state f s t Any) w ≡ Some g → Goes g ws o
    → (is_file_word w ≡ true) × (ys : List Item) × AreSpelt ys ws × Add f s t (File w ∷ ys) o
file_step (Some v) s t w ws g o h goes = absurd (none-some g h)
file_step None s t w ws g o h goes =
    let found = unless_some false (is_file_word w) (state (Some w) s t Any) g h in
    let next : Goes (state (Some w) s t Any) ws o = subst (λ x. Goes x ws o) (sym found.2) goes in
    (found.1, next.items, next.come, file_added s t w next.items o next.add)

trace_step : (f s : Option Word) (t : Bool) (ws : List Word) (g : Found Word) (o : Options Word)
    → with_trace (state f s t Any) ≡ Some g → Goes g ws o
    → (ys : List Item) × AreSpelt ys ws × Add f s t (Trace ∷ ys) o
trace_step f s true ws g o h goes = absurd (none-some g h)
trace_step f s false ws g o h goes =
    let next : Goes (state f s true Any) ws o = subst (λ x. Goes x ws o) (sym (one_value (state f s true Any) g h)) goes in
    (next.items, next.come, trace_added f s next.items o next.add)

-- `--script` alone: the file of the script is the next word
value_comes : (f s : Option Word) (t : Bool) (w : Word) (ws : List Word) (o : Options Word)
    → w ≡ codes "--script" → Goes (state f s t ScriptFile) ws o → Goes (state f s t Any) (w ∷ ws) o
value_comes f s t w ws o is goes =
    let (v, rest, ys, items, file, words, spelt) = goes.come in
    let come : AreSpelt (Script v ∷ ys) (w ∷ ws) = (codes "--script" ∷ v ∷ [], rest, ap (λ c. c ∷ ws) is ∙ ap (λ (l : List Word). codes "--script" ∷ l) words, (file, inl refl), spelt) in
    record { items = goes.items; come = subst (λ xs. AreSpelt xs (w ∷ ws)) (sym items) come; add = goes.add }

any_step : (f s : Option Word) (t : Bool) (w : Word) (ws : List Word) (g : Found Word) (o : Options Word)
    → Begun (state f s t Any) w g → Goes g ws o → Goes (state f s t Any) (w ∷ ws) o
any_step f s t w ws g o (item.Trace is h) goes =
    let step = trace_step f s t ws g o h goes in
    record { items = Trace ∷ step.0; come = (codes "--trace" ∷ [], ws, ap (λ c. c ∷ ws) is, refl, step.1); add = step.2 }
any_step f s t w ws g o (item.Script is h) goes = value_comes f s t w ws o is (subst (λ x. Goes x ws o) (sym h) goes)
any_step f s t w ws g o (item.ScriptOf v is h) goes =
    let step = script_step f s t Any v ws g o h goes in
    record { items = Script v ∷ step.1; come = ((codes "--script=" ++ v) ∷ [], ws, ap (λ c. c ∷ ws) is, (step.0, inr refl), step.2); add = step.3 }
any_step f s t w ws g o (item.File h) goes =
    let step = file_step f s t w ws g o h goes in
    record { items = File w ∷ step.1; come = (w ∷ [], ws, refl, (step.0, refl), step.2); add = step.3 }

word_step : (f s : Option Word) (t : Bool) (n : Next) (w : Word) (ws : List Word) (g : Found Word) (o : Options Word)
    → read_word (state f s t n) w ≡ Some g → Goes g ws o → Goes (state f s t n) (w ∷ ws) o
word_step f s t Any w ws g o h goes = any_step f s t w ws g o (begun (state f s t Any) w g h) goes
word_step f s t ScriptFile w ws g o h goes =
    let step = script_step f s t ScriptFile w ws g o h goes in
    record { items = Script w ∷ step.1; come = (w, ws, step.1, refl, step.0, refl, step.2); add = step.3 }

-- no word is left
ended : (f s : Option Word) (t : Bool) (n : Next) (o : Options Word) → options_with n f s t ≡ Some o → Goes (state f s t n) [] o
ended None s t Any o h = absurd (none-some o h)
ended f s t ScriptFile o h = absurd (none-some o h)
ended (Some f) s t Any o h =
    let is : record { file = f; script = s; trace = t } ≡ o = one_value (record { file = f; script = s; trace = t }) o h in
    subst (λ x. Goes (state (Some f) s t Any) [] x) is
    (record { items = []; come = refl; add = record { files = refl; scripts = append-nil (option_to_list s); trace_items = append-nil (traces t) } })

read_is : (words : List Word) (found g : Found Word) (o : Options Word) → read_words found words ≡ Some g → options_of g ≡ Some o → Goes found words o
read_is [] found g o h e = ended found.file found.script found.trace found.next o (ap options_of (one_value found g h) ∙ e)
read_is (w ∷ words) found g o h e =
    let (next, first, rest) = chained (λ f. read_words f words) (read_word found w) g h in
    word_step found.file found.script found.trace found.next w words next o first (read_is words next g o rest e)

pub options_are : (words : List Word) (o : Options Word) → options_in words ≡ Some o → IsOptions words o
options_are words o h =
    let (g, first, rest) = chained options_of (read_words none_found words) o h in
    let goes = read_is words none_found g o first rest in
    (goes.items, goes.come, record { file = goes.add.files; script = goes.add.scripts; trace = goes.add.trace_items })

-- ---- and what is so the reader says

reads_on : (found g : Found Word) (w : Word) (rest : List Word) (o : Options Word) → read_word found w ≡ Some g
    → option_and_then options_of (read_words g rest) ≡ Some o → option_and_then options_of (read_words found (w ∷ rest)) ≡ Some o
reads_on found g w rest o e h = ap (λ x. option_and_then options_of (option_and_then (λ f. read_words f rest) x)) e ∙ h

same_option : (a b : Option Word) → option_to_list a ++ [] ≡ option_to_list b → a ≡ b
same_option None None h = refl
same_option None (Some b) h = absurd (empty b [] h)
same_option (Some a) None h = absurd (empty a [] (sym h))
same_option (Some a) (Some b) h = ap Some (firsts a b [] [] h)

same_trace : (a b : Bool) → traces a ++ [] ≡ traces b → a ≡ b
same_trace false false h = refl
same_trace true true h = refl
same_trace false true h = absurd (empty Trace [] h)
same_trace true false h = absurd (empty Trace [] (sym h))

two_scripts : (a b : Word) (rest : List Word) (o : Option Word) → a ∷ b ∷ rest ≡ option_to_list o → ⊥
two_scripts a b rest None h = empty a (b ∷ rest) (sym h)
two_scripts a b rest (Some c) h = one_only a b c rest h

two_traces : (rest : List Item) (t : Bool) → Trace ∷ Trace ∷ rest ≡ traces t → ⊥
two_traces rest false h = empty Trace (Trace ∷ rest) (sym h)
two_traces rest true h = one_only Trace Trace Trace rest h

nothing_left : (f s : Option Word) (t : Bool) (o : Options Word) → Add f s t [] o → options_with Any f s t ≡ Some o
nothing_left None s t o h = absurd (empty o.file [] h.files)
nothing_left (Some f) s t o h =
    ap Some (ap (λ x. record { file = x; script = s; trace = t }) (firsts f o.file [] [] h.files)
    ∙ ap (λ x. record { file = o.file; script = x; trace = t }) (same_option s o.script h.scripts)
    ∙ ap (λ x. record { file = o.file; script = o.script; trace = x }) (same_trace t o.trace h.trace_items))

-- the reader answers these options for words that are these items
abbrev Reads : List Item → Type 0
Reads xs = (f s : Option Word) (t : Bool) (words : List Word) (o : Options Word) → AreSpelt xs words → Add f s t xs o
    → option_and_then options_of (read_words (state f s t Any) words) ≡ Some o

not_refused : (w : Word) (g : Found Word) → is_file_word w ≡ true → (if false || not (is_file_word w) then None else Some g) ≡ Some g
not_refused w g h = ap (λ b. if false || not b then None else Some g) h

file_reads : (w : Word) (xs : List Item) → Reads xs → (f s : Option Word) (t : Bool) (rest : List Word) (o : Options Word)
    → is_file_word w ≡ true → AreSpelt xs rest → Add f s t (File w ∷ xs) o → option_and_then options_of (read_words (state f s t Any) (w ∷ rest)) ≡ Some o
file_reads w xs later (Some v) s t rest o file spelt h = absurd (one_only v w o.file (filter_map file_in xs) h.files)
file_reads w xs later None s t rest o file spelt h =
    reads_on (state None s t Any) (state (Some w) s t Any) w rest o (file_begins (state None s t Any) w file ∙ not_refused w (state (Some w) s t Any) file)
    (later (Some w) s t rest o spelt (file_taken s t w xs o h))

-- the word that gives the script's file, with the option before it or in it
script_reads : (n : Next) (first v : Word) (xs : List Item) → Reads xs → (f s : Option Word) (t : Bool) (rest : List Word) (o : Options Word)
    → ((g : Found Word) → with_script (state f s t n) v ≡ Some g → read_word (state f s t n) first ≡ Some g)
    → is_file_word v ≡ true → AreSpelt xs rest → Add f s t (Script v ∷ xs) o → option_and_then options_of (read_words (state f s t n) (first ∷ rest)) ≡ Some o
script_reads n first v xs later f (Some u) t rest o same file spelt h = absurd (two_scripts u v (filter_map script_in xs) o.script h.scripts)
script_reads n first v xs later f None t rest o same file spelt h =
    reads_on (state f None t n) (state f (Some v) t Any) first rest o (same (state f (Some v) t Any) (not_refused v (state f (Some v) t Any) file))
    (later f (Some v) t rest o spelt (script_taken f t v xs o h))

trace_reads : (xs : List Item) → Reads xs → (f s : Option Word) (t : Bool) (rest : List Word) (o : Options Word)
    → AreSpelt xs rest → Add f s t (Trace ∷ xs) o → option_and_then options_of (read_words (state f s t Any) (codes "--trace" ∷ rest)) ≡ Some o
trace_reads xs later f s true rest o spelt h = absurd (two_traces (filter is_trace xs) o.trace h.trace_items)
trace_reads xs later f s false rest o spelt h =
    reads_on (state f s false Any) (state f s true Any) (codes "--trace") rest o refl (later f s true rest o spelt (trace_taken f s xs o h))

-- at the words of one item and what follows them
abbrev ReadsAt : Option Word → Option Word → Bool → Options Word → List Word → Type 0
ReadsAt f s t o words = option_and_then options_of (read_words (state f s t Any) words) ≡ Some o

script_spelt : (v : Word) (xs : List Item) → Reads xs → (f s : Option Word) (t : Bool) (first rest : List Word) (o : Options Word)
    → is_file_word v ≡ true → IsValue (codes "--script") v first → AreSpelt xs rest → Add f s t (Script v ∷ xs) o → ReadsAt f s t o (first ++ rest)
script_spelt v xs later f s t first rest o file (inl is) spelt h = subst (λ words. ReadsAt f s t o (words ++ rest)) (sym is)
    (reads_on (state f s t Any) (state f s t ScriptFile) (codes "--script") (v ∷ rest) o refl
    (script_reads ScriptFile v v xs later f s t rest o (λ g e. e) file spelt h))
script_spelt v xs later f s t first rest o file (inr is) spelt h = subst (λ words. ReadsAt f s t o (words ++ rest)) (sym is)
    (script_reads Any (codes "--script" ++ codes "=" ++ v) v xs later f s t rest o (λ g e. script_of_begins (state f s t Any) v ∙ e) file spelt h)

reads : (xs : List Item) → Reads xs
reads [] f s t words o is h = subst (ReadsAt f s t o) (sym is) (nothing_left f s t o h)
reads (File w ∷ xs) f s t words o (first, rest, is, (file, one), spelt) h =
    subst (ReadsAt f s t o) (sym (is ∙ ap (λ c. c ++ rest) one)) (file_reads w xs (reads xs) f s t rest o file spelt h)
reads (Script w ∷ xs) f s t words o (first, rest, is, (file, value), spelt) h =
    subst (ReadsAt f s t o) (sym is) (script_spelt w xs (reads xs) f s t first rest o file value spelt h)
reads (Trace ∷ xs) f s t words o (first, rest, is, one, spelt) h =
    subst (ReadsAt f s t o) (sym (is ∙ ap (λ c. c ++ rest) one)) (trace_reads xs (reads xs) f s t rest o spelt h)

pub options_read : (words : List Word) (o : Options Word) → IsOptions words o → options_in words ≡ Some o
options_read words o (xs, spelt, are) = reads xs None None false words o spelt (record { files = are.file; scripts = are.script; trace_items = are.trace })
