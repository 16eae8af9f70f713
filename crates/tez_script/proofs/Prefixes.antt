-- The first lines of a script are a script, and lines are one script at most.
use Rattle.std.proofs.Common.{◌≡◌, ℕ, ◌+◌, ◌<◌, ◌≤◌, List, [], ◌∷◌, ◌++◌, take, drop, length, map, refl, sym, ap, ◌∙◌, subst, arith, Some, inl, inr, append_assoc, length-append, length-take}
use Rattle.std.proofs.lemmas.List.{take-map, take-append-drop, take-append-le}
use Rattle.std.proofs.lemmas.Bool.{cases_order}
use Rattle.std.proofs.Math.Seq.{take-append_seam}
use Rattle.tez_plan.specs.Dag.{Dag}
use Rattle.tez_conf.specs.declared.values.ConfValues.{ConfValues}
use Rattle.tez_script.specs.declared.line.ScriptLine.{ScriptLine}
use Rattle.tez_script.specs.Grammar.{line_of, repeats, IsScript, IsRefusedAt}
use Rattle.tez_script.proofs.Counts.{count_take}

pub some_once : {X : Type 0} (xs ys : List X) → map Some xs ≡ map Some ys → xs ≡ ys
some_once [] [] e = refl
some_once [] (y ∷ ys) e = cc
some_once (x ∷ xs) [] e = cc
some_once (x ∷ xs) (y ∷ ys) e =
    let head : x ≡ y = cc in
    let tail : map Some xs ≡ map Some ys = cc in
    let rest : xs ≡ ys = some_once xs ys tail in cc

pub one_script : (g : Dag) (c : ConfValues) (ls : List (List ℕ)) (xs ys : List ScriptLine) → IsScript g c ls xs → IsScript g c ls ys → xs ≡ ys
one_script g c ls xs ys s t = some_once xs ys (sym s.lines ∙ t.lines)

-- the lines in front
pub front : (g : Dag) (c : ConfValues) (ls rest : List (List ℕ)) (xs : List ScriptLine) → IsScript g c (ls ++ rest) xs → IsScript g c ls (take (length ls) xs)
front g c ls rest xs s = record {
  lines = sym (ap (map (line_of g c)) (take-append_seam ls rest)) ∙ sym (take-map (line_of g c) (length ls) (ls ++ rest)) ∙ ap (take (length ls)) s.lines ∙ take-map Some (length ls) xs;
  few = let size = s.few in omega (arith, length-take (length ls) xs);
  once = λ t. let all = s.once t in omega (arith, count_take (repeats t) (length ls) xs);
}

joined : {X : Type 0} (xs : List X) (y : X) (zs : List X) → xs ++ y ∷ zs ≡ (xs ++ y ∷ []) ++ zs
joined xs y zs = sym (append_assoc xs (y ∷ []) zs)

pub none_refused : (g : Dag) (c : ConfValues) (ls : List (List ℕ)) (xs : List ScriptLine) (n : ℕ) → IsScript g c ls xs → ¬ (IsRefusedAt g c ls n)
none_refused g c ls xs n s r =
    let whole : ls ≡ (r.before ++ r.line ∷ []) ++ r.after = r.all ∙ joined r.before r.line r.after in
    r.no_script _ (front g c (r.before ++ r.line ∷ []) r.after xs (subst (λ l. IsScript g c l xs) whole s))

-- of two fronts of a list the shorter one is a front of the longer
nested : {X : Type 0} (ls xs us ys bs : List X) → ls ≡ xs ++ us → ls ≡ ys ++ bs → length xs ≤ length ys → ys ≡ xs ++ drop (length xs) ys
nested ls xs us ys bs e f h =
    let short : take (length xs) ys ≡ xs = sym (take-append-le (length xs) ys bs h) ∙ ap (take (length xs)) (sym f ∙ e) ∙ take-append_seam xs us in
    sym (take-append-drop (length xs) ys) ∙ ap (λ zs. zs ++ drop (length xs) ys) short

not_later : (g : Dag) (c : ConfValues) (ls : List (List ℕ)) (m n : ℕ) → IsRefusedAt g c ls m → IsRefusedAt g c ls n → m < n → ⊥
not_later g c ls m n r s h =
    let whole : ls ≡ (r.before ++ r.line ∷ []) ++ r.after = r.all ∙ joined r.before r.line r.after in
    let size : length (r.before ++ r.line ∷ []) ≡ length r.before + 1 = length-append r.before (r.line ∷ []) in
    let low : length (r.before ++ r.line ∷ []) ≤ length s.before = let a = r.place in let b = s.place in omega arith in
    let cut = nested ls (r.before ++ r.line ∷ []) r.after s.before (s.line ∷ s.after) whole s.all low in
    r.no_script _ (front g c (r.before ++ r.line ∷ []) (drop (length (r.before ++ r.line ∷ [])) s.before) s.lines (subst (λ l. IsScript g c l s.lines) cut s.script))

pub one_refused : (g : Dag) (c : ConfValues) (ls : List (List ℕ)) (m n : ℕ) → IsRefusedAt g c ls m → IsRefusedAt g c ls n → m ≡ n
one_refused g c ls m n r s =
    let below = not_later g c ls m n r s in
    let above = not_later g c ls n m s r in
    elim (cases_order m n) [ inl same ↦ same | inr rest ↦ elim rest [ inl low ↦ absurd (below low) | inr high ↦ absurd (above high) ] ]
