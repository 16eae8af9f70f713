-- A script by one line more.
use Rattle.std.proofs.Common.{◌≡◌, ℕ, ◌+◌, ◌<◌, ◌≤◌, Bool, true, false, not, List, [], ◌∷◌, ◌++◌, length, map, refl, sym, ap, ◌∙◌, arith, count_by, Option, Some, None, nat_lt, length-append, option_and_then, if◌then◌else◌, true≢false}
use Rattle.std.specs.List.{list_any}
use Rattle.std.proofs.lemmas.Bool.{ltb-true, lt-ltb}
use Rattle.std.proofs.lemmas.List.{map-append}
use Rattle.tez_lists.proofs.Cases.{cases}
use Rattle.tez_ids.specs.declared.TaskId.{TaskId}
use Rattle.tez_ids.specs.Same.{same_task}
use Rattle.tez_ids.proofs.Sameness.{same_task-true, same_task-refl}
use Rattle.tez_plan.specs.Dag.{Dag}
use Rattle.tez_conf.specs.declared.values.ConfValues.{ConfValues}
use Rattle.tez_script.specs.declared.line.ScriptLine.{ScriptLine}
use Rattle.tez_script.specs.declared.line.ScriptLine.TheVariants.{Fail, Repeat, LoseNode, LoseOutput, Restart, StopDisk, StopStore}
use Rattle.tez_script.specs.Grammar.{line_of, repeats, IsScript}
use Rattle.tez_script.specs.Reading.{may_follow, if_may_follow, next_of}
use Rattle.tez_script.proofs.Counts.{count_more, none_counted, some_counted}
use Rattle.tez_script.proofs.Prefixes.{some_once}

not_true : (b : Bool) → not b ≡ true → b ≡ false
not_true true e = cc
not_true false e = refl

not_false : (b : Bool) → not b ≡ false → b ≡ true
not_false true e = refl
not_false false e = cc

-- a first `repeat` of its task
once_by_repeat : (xs : List ScriptLine) (s : TaskId) (n : ℕ) → list_any (repeats s) xs ≡ false → ((t : TaskId) → count_by (repeats t) xs ≤ 1) → (t : TaskId) → count_by (repeats t) (xs ++ Repeat s n ∷ []) ≤ 1
once_by_repeat xs s n new once t =
    let here = once t in
    let more = count_more (repeats t) xs (Repeat s n) in
    cases (same_task s t)
    (λ e. let same : s ≡ t = same_task-true s t e in
    let fresh : list_any (repeats t) xs ≡ false = ap (λ u. list_any (repeats u) xs) (sym same) ∙ new in
    let none = none_counted (repeats t) xs fresh in
    let one : count_by (repeats t) (Repeat s n ∷ []) ≡ 1 = rw e refl in
    omega arith)
    (λ e. let none : count_by (repeats t) (Repeat s n ∷ []) ≡ 0 = rw e refl in omega arith)

once_more : (xs : List ScriptLine) (x : ScriptLine) → may_follow xs x ≡ true → ((t : TaskId) → count_by (repeats t) xs ≤ 1) → (t : TaskId) → count_by (repeats t) (xs ++ x ∷ []) ≤ 1
once_more xs (Fail s n) h once t = let here = once t in omega (arith, count_more (repeats t) xs (Fail s n))
once_more xs (Repeat s n) h once t = once_by_repeat xs s n (not_true _ h) once t
once_more xs (LoseNode s w) h once t = let here = once t in omega (arith, count_more (repeats t) xs (LoseNode s w))
once_more xs (LoseOutput s w) h once t = let here = once t in omega (arith, count_more (repeats t) xs (LoseOutput s w))
once_more xs (Restart w) h once t = let here = once t in omega (arith, count_more (repeats t) xs (Restart w))
once_more xs (StopDisk s) h once t = let here = once t in omega (arith, count_more (repeats t) xs (StopDisk s))
once_more xs (StopStore s) h once t = let here = once t in omega (arith, count_more (repeats t) xs (StopStore s))

-- a second one
not_once : (xs : List ScriptLine) (x : ScriptLine) → may_follow xs x ≡ false → ((t : TaskId) → count_by (repeats t) (xs ++ x ∷ []) ≤ 1) → ⊥
not_once xs (Fail s n) h once = cc
not_once xs (Repeat s n) h once =
    let some = some_counted (repeats s) xs (not_false _ h) in
    let both = once s in
    let one : count_by (repeats s) (Repeat s n ∷ []) ≡ 1 = rw (same_task-refl s) refl in
    omega (arith, count_more (repeats s) xs (Repeat s n))
not_once xs (LoseNode s w) h once = cc
not_once xs (LoseOutput s w) h once = cc
not_once xs (Restart w) h once = cc
not_once xs (StopDisk s) h once = cc
not_once xs (StopStore s) h once = cc

if_followed : (xs : List ScriptLine) (y x : ScriptLine) → if_may_follow xs y ≡ Some x → (may_follow xs y ≡ true) × (y ≡ x)
if_followed xs y x e = cases (may_follow xs y) (λ h. let f : Some y ≡ Some x = rw h at e in (h, cc)) (λ h. let f : None ≡ Some x = rw h at e in cc)

if_not_followed : (xs : List ScriptLine) (y : ScriptLine) → if_may_follow xs y ≡ None → may_follow xs y ≡ false
if_not_followed xs y e = cases (may_follow xs y) (λ h. let f : Some y ≡ None = rw h at e in cc) (λ h. h)

-- a line that may stand next
record IsNext (xs : List ScriptLine) (line : Option ScriptLine) (x : ScriptLine) : Type 0 where
  room : length xs < 1000
  says : line ≡ Some x
  follows : may_follow xs x ≡ true

said_next : (xs : List ScriptLine) (line : Option ScriptLine) (x : ScriptLine) → option_and_then (if_may_follow xs) line ≡ Some x → (line ≡ Some x) × (may_follow xs x ≡ true)
said_next xs None x e = cc
said_next xs (Some y) x e =
    let parts = if_followed xs y x e in
    let same : y ≡ x = parts.1 in
    (ap Some same, ap (may_follow xs) (sym same) ∙ parts.0)

is_next : (xs : List ScriptLine) (line : Option ScriptLine) (x : ScriptLine) → (if nat_lt (length xs) 1000 then option_and_then (if_may_follow xs) line else None) ≡ Some x → IsNext xs line x
is_next xs line x e = cases (nat_lt (length xs) 1000)
    (λ h. let parts = said_next xs line x (rw h at e) in record { room = ltb-true (length xs) 1000 h; says = parts.0; follows = parts.1 })
    (λ h. let f : None ≡ Some x = rw h at e in cc)

pub accepted : (g : Dag) (c : ConfValues) (ls : List (List ℕ)) (l : List ℕ) (xs : List ScriptLine) (x : ScriptLine) → IsScript g c ls xs → next_of g c xs l ≡ Some x → IsScript g c (ls ++ l ∷ []) (xs ++ x ∷ [])
accepted g c ls l xs x s e =
    let next = is_next xs (line_of g c l) x e in
    let room = next.room in
    record {
      lines = map-append (line_of g c) ls (l ∷ []) ∙ ap (λ os. os ++ line_of g c l ∷ []) s.lines ∙ ap (λ o. map Some xs ++ o ∷ []) next.says ∙ sym (map-append Some xs (x ∷ []));
      few = omega (arith, length-append xs (x ∷ []));
      once = once_more xs x next.follows s.once;
    }

-- no list of lines that are said ends with one that is not
all_said : {X : Type 0} (xs ys : List X) → map Some ys ≡ map Some xs ++ None ∷ [] → ⊥
all_said [] [] e = cc
all_said [] (y ∷ ys) e = let f : Some y ≡ None = cc in cc
all_said (x ∷ xs) [] e = cc
all_said (x ∷ xs) (y ∷ ys) e = let tail : map Some ys ≡ map Some xs ++ None ∷ [] = cc in all_said xs ys tail

-- what follows where a line says something
whole : (g : Dag) (c : ConfValues) (ls : List (List ℕ)) (l : List ℕ) (xs ys : List ScriptLine) → IsScript g c ls xs → IsScript g c (ls ++ l ∷ []) ys → map Some ys ≡ map Some xs ++ line_of g c l ∷ []
whole g c ls l xs ys s t = sym t.lines ∙ map-append (line_of g c) ls (l ∷ []) ∙ ap (λ os. os ++ line_of g c l ∷ []) s.lines

refused_by : (xs ys : List ScriptLine) (line : Option ScriptLine) → map Some ys ≡ map Some xs ++ line ∷ [] → length ys ≤ 1000 → ((t : TaskId) → count_by (repeats t) ys ≤ 1)
    → (if nat_lt (length xs) 1000 then option_and_then (if_may_follow xs) line else None) ≡ None → ⊥
refused_by xs ys None e few once h = all_said xs ys e
refused_by xs ys (Some x) e few once h =
    let is : ys ≡ xs ++ x ∷ [] = some_once ys (xs ++ x ∷ []) (e ∙ sym (map-append Some xs (x ∷ []))) in
    let size : length ys ≡ length xs + 1 = ap length is ∙ length-append xs (x ∷ []) in
    cases (nat_lt (length xs) 1000)
    (λ room. not_once xs x (if_not_followed xs x (rw room at h)) (λ t. let here = once t in rw is at here))
    (λ full. let none = lt-ltb (length xs) 1000 (omega arith) in absurd (true≢false (sym none ∙ full)))

pub refused : (g : Dag) (c : ConfValues) (ls : List (List ℕ)) (l : List ℕ) (xs ys : List ScriptLine) → IsScript g c ls xs → next_of g c xs l ≡ None → ¬ (IsScript g c (ls ++ l ∷ []) ys)
refused g c ls l xs ys s e t = refused_by xs ys (line_of g c l) (whole g c ls l xs ys s t) t.few t.once e
