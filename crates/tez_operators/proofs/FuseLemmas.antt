-- Steps in one pass.
--     run_cons, run_each      what steps make of a record, and of each
--     run_pass                a pass, before the steps that are left
--     pass_bad                only the first step of a pass can have a bad record
use Rattle.std.proofs.Common.{◌≡◌, ℕ, zero, suc, ◌+◌, ◌<◌, ◌≤◌, ◌==◌, Bool, true, false, not, cond, ◌&&◌, List, [], ◌∷◌, ◌++◌, length, take, drop, get_or, refl, sym, ap, ap₂, ◌∙◌, subst, arith, filter, flat_map, append_assoc, Option, None, Some}
use Rattle.std.specs.List.{list_all}
use Rattle.std.proofs.lemmas.Bool.{and_parts, and_from, not-true}
use Rattle.std.proofs.lemmas.List.{take-append-drop, take_more}
use Rattle.tez_lists.proofs.Flat.{append-nil}
use Rattle.tez_record.specs.Bag.{sort, first_or}
use Rattle.tez_plan.specs.declared.parts.Step.{Step}
use Rattle.tez_plan.specs.declared.parts.Step.TheVariants.{Tokenise, Filter, Project}
use Rattle.tez_lists.proofs.Cases.{both}
use Rattle.tez_plan.specs.declared.parts.Test.{Test}
use Rattle.tez_values.specs.Steps.{step_rows, holds, is_bad_for, run, bad_in_steps, reads_number}
use Rattle.tez_values.specs.Program.{least_of}
use Rattle.tez_values.proofs.StepLemmas.{run-append, run-nil}
use Rattle.tez_operators.specs.Fuse.{is_plain, made_of, IsPass}
use Rattle.tez_operators.specs.Process.{IsBadAnswer}
use Rattle.tez_operators.specs.declared.fault.ProcessFault.{ProcessFault}
use Rattle.tez_operators.specs.declared.fault.ProcessFault.TheVariants.{BadRecord, NoMemory}
use Rattle.tez_operators.proofs.ProcessLemmas.{bad_later}

-- the law of composition: what steps make of rows is what they make of each
pub run_each : (steps : List Step) (rows : List (List ℕ)) → flat_map (made_of steps) rows ≡ run steps rows
run_each [] [] = refl
run_each [] (r ∷ rows) = ap (λ (rest : List (List ℕ)). r ∷ rest) (run_each [] rows)
run_each (s ∷ steps) [] = run_each steps []
run_each (s ∷ steps) (r ∷ rows) =
    ap (λ xs. made_of (s ∷ steps) r ++ xs) (run_each (s ∷ steps) rows)
    ∙ ap (λ xs. run steps xs ++ run steps (flat_map (step_rows s) rows)) (append-nil (step_rows s r))
    ∙ sym (run-append steps (step_rows s r) (flat_map (step_rows s) rows))

pub made_cons : (s : Step) (steps : List Step) (r : List ℕ) → made_of (s ∷ steps) r ≡ run steps (step_rows s r)
made_cons s steps r = ap (run steps) (append-nil (step_rows s r))

-- ---- passes, one after the other

run_both : (xs ys : List Step) (rows : List (List ℕ)) → run (xs ++ ys) rows ≡ run ys (run xs rows)
run_both [] ys rows = refl
run_both (x ∷ xs) ys rows = run_both xs ys (flat_map (step_rows x) rows)

first_none : (xs : List (List ℕ)) (o : Option (List ℕ)) → first_or xs o ≡ None → (xs ≡ []) × (o ≡ None)
first_none [] o h = (refl, h)
first_none (x ∷ xs) o h = cc

bad_both : (xs ys : List Step) (rows : List (List ℕ)) → least_of (bad_in_steps xs rows) ≡ None → least_of (bad_in_steps (xs ++ ys) rows) ≡ least_of (bad_in_steps ys (run xs rows))
bad_both [] ys rows none = refl
bad_both (x ∷ xs) ys rows none =
    let parts = first_none (sort (filter (is_bad_for x) rows)) (least_of (bad_in_steps xs (flat_map (step_rows x) rows))) none in
    ap (λ bag. first_or bag (least_of (bad_in_steps (xs ++ ys) (flat_map (step_rows x) rows)))) parts.0 ∙ bad_both xs ys (flat_map (step_rows x) rows) parts.1

bad_earlier : (fault : ProcessFault) (xs ys : List Step) (rows : List (List ℕ)) → IsBadAnswer fault (least_of (bad_in_steps xs rows)) → IsBadAnswer fault (least_of (bad_in_steps (xs ++ ys) rows))
bad_earlier NoMemory xs ys rows h = tt
bad_earlier (BadRecord r) [] ys rows h = cc
bad_earlier (BadRecord r) (x ∷ xs) ys rows h = by (sort (filter (is_bad_for x) rows)) (λ e. bad_earlier (BadRecord r) xs ys (flat_map (step_rows x) rows) e) h
  where
    by : (bag : List (List ℕ)) → (least_of (bad_in_steps xs (flat_map (step_rows x) rows)) ≡ Some r → least_of (bad_in_steps (xs ++ ys) (flat_map (step_rows x) rows)) ≡ Some r)
        → first_or bag (least_of (bad_in_steps xs (flat_map (step_rows x) rows))) ≡ Some r → first_or bag (least_of (bad_in_steps (xs ++ ys) (flat_map (step_rows x) rows))) ≡ Some r
    by [] later h = later h
    by (b ∷ bag) later h = h

abbrev the_none : List Step
the_none = []

drop_none : (n : ℕ) → drop n (the_none) ≡ the_none
drop_none zero = refl
drop_none (suc n) = refl

drop_drop : (a b : ℕ) (xs : List Step) → drop b (drop a xs) ≡ drop (a + b) xs
drop_drop zero b xs = let same : 0 + b ≡ b = omega arith in ap (λ m. drop m xs) (sym same)
drop_drop (suc a) b [] = drop_none b ∙ sym (drop_none (suc a + b))
drop_drop (suc a) b (x ∷ xs) = let same : suc a + b ≡ suc (a + b) = omega arith in drop_drop a b xs ∙ ap (λ m. drop m (x ∷ xs)) (sym same)

module _ (steps : List Step) (all : List (List ℕ)) (done n : ℕ) (made : List (List ℕ)) where
  abbrev left : List Step
  left = drop done steps

  cut : left ≡ take n left ++ drop n left
  cut = sym (take-append-drop n left)

  pub pass_run : (now : List (List ℕ)) → now ≡ run (take n left) made → run left made ≡ run steps all → run (drop (done + n) steps) now ≡ run steps all
  pass_run now e is = ap (λ xs. run xs now) (sym (drop_drop done n steps)) ∙ ap (run (drop n left)) e ∙ sym (run_both (take n left) (drop n left) made) ∙ ap (λ xs. run xs made) (sym cut) ∙ is

  pub pass_good : (now : List (List ℕ)) → now ≡ run (take n left) made → least_of (bad_in_steps (take n left) made) ≡ None → least_of (bad_in_steps left made) ≡ least_of (bad_in_steps steps all) → least_of (bad_in_steps (drop (done + n) steps) now) ≡ least_of (bad_in_steps steps all)
  pass_good now e none is =
      ap (λ xs. least_of (bad_in_steps xs now)) (sym (drop_drop done n steps)) ∙ ap (λ xs. least_of (bad_in_steps (drop n left) xs)) e ∙ sym (bad_both (take n left) (drop n left) made none) ∙ ap (λ xs. least_of (bad_in_steps xs made)) (sym cut) ∙ is

  pub pass_fault : (fault : ProcessFault) → IsBadAnswer fault (least_of (bad_in_steps (take n left) made)) → least_of (bad_in_steps left made) ≡ least_of (bad_in_steps steps all) → IsBadAnswer fault (least_of (bad_in_steps steps all))
  pass_fault fault h is = subst (IsBadAnswer fault) is (subst (λ xs. IsBadAnswer fault (least_of (bad_in_steps xs made))) (sym cut) (bad_earlier fault (take n left) (drop n left) made h))

-- ---- a pass

plain_good : (s : Step) (rows : List (List ℕ)) → is_plain s ≡ true → filter (is_bad_for s) rows ≡ []
plain_good s [] h = refl
plain_good Tokenise (r ∷ rows) h = plain_good Tokenise rows h
plain_good (Project cols) (r ∷ rows) h = plain_good (Project cols) rows h
plain_good (Filter i test) (r ∷ rows) h = rw (not-true (reads_number test) h) (plain_good (Filter i test) rows h)

all_good : (steps : List Step) (rows : List (List ℕ)) → list_all is_plain steps ≡ true → least_of (bad_in_steps steps rows) ≡ None
all_good [] rows h = refl
all_good (s ∷ steps) rows h =
    let parts = and_parts (is_plain s) (list_all is_plain steps) h in
    ap (λ xs. first_or (sort xs) (least_of (bad_in_steps steps (flat_map (step_rows s) rows)))) (plain_good s rows parts.0) ∙ all_good steps (flat_map (step_rows s) rows) parts.1

pub pass_bad : (steps : List Step) (s : Step) (rows : List (List ℕ)) → 0 < length steps → s ≡ get_or steps 0 s → IsPass steps → least_of (bad_in_steps steps rows) ≡ first_or (sort (filter (is_bad_for s) rows)) None
pass_bad [] s rows some is pass = absurd (omega arith)
pass_bad (x ∷ steps) s rows some is pass = ap₂ (λ (y : Step) o. first_or (sort (filter (is_bad_for y) rows)) o) (sym is) (all_good steps (flat_map (step_rows x) rows) pass)

-- ---- how long a pass is

list_all-last : (steps : List Step) (s : Step) → list_all is_plain steps ≡ true → is_plain s ≡ true → list_all is_plain (steps ++ s ∷ []) ≡ true
list_all-last [] s h e = and_from (is_plain s) true e refl
list_all-last (x ∷ steps) s h e = let parts = and_parts (is_plain x) (list_all is_plain steps) h in and_from (is_plain x) (list_all is_plain (steps ++ s ∷ [])) parts.0 (list_all-last steps s parts.1 e)

pub pass_one : (steps : List Step) → IsPass (take 1 steps)
pass_one [] = refl
pass_one (x ∷ steps) = refl

pub pass_more : (steps : List Step) (end : ℕ) (s : Step) → 0 < end → end < length steps → s ≡ get_or steps end s → is_plain s ≡ true → IsPass (take end steps) → IsPass (take (end + 1) steps)
pass_more [] end s some low is plain pass = absurd (omega arith)
pass_more (x ∷ steps) zero s some low is plain pass = absurd (omega arith)
pass_more (x ∷ steps) (suc end) s some low is plain pass =
    let next : suc (end + 1) ≡ suc end + 1 = omega arith in
    subst (λ n. IsPass (take n (x ∷ steps))) next (ap (list_all is_plain) (take_more steps end s (omega arith) ∙ ap (λ y. take end steps ++ y ∷ []) (sym is)) ∙ list_all-last (take end steps) s pass plain)

-- ---- a record

pub left_out : (steps : List Step) (s : Step) (i : ℕ) (test : Test) (r : List ℕ) (made : List (List ℕ)) → (length steps == 0) ≡ false → s ≡ get_or steps 0 s → s ≡ Filter i test → holds test r i ≡ false → made ≡ made ++ made_of steps r
left_out [] s i test r made some is f fails = both refl some
left_out (x ∷ steps) s i test r made some is f fails =
    let none : step_rows x r ≡ [] = ap (λ (y : Step). step_rows y r) (sym is ∙ f) ∙ ap (λ b. cond b (r ∷ []) []) fails in
    sym (ap (λ xs. made ++ xs) (made_cons x steps r ∙ ap (run steps) none ∙ run-nil steps) ∙ append-nil made)

pub words_made : (steps rest : List Step) (s : Step) (r : List ℕ) (before now left : List (List ℕ)) → rest ≡ drop 1 steps → (length steps == 0) ≡ false → s ≡ get_or steps 0 s → s ≡ Tokenise → left ≡ []
    → now ++ flat_map (made_of rest) left ≡ before ++ flat_map (made_of rest) (step_rows Tokenise r) → now ≡ before ++ made_of steps r
words_made [] rest s r before now left cut some is w none whole = both refl some
words_made (x ∷ steps) rest s r before now left cut some is w none whole =
    sym (append-nil now)
    ∙ sym (ap (λ xs. now ++ flat_map (made_of rest) xs) none)
    ∙ whole
    ∙ ap (λ xs. before ++ xs) (run_each rest (step_rows Tokenise r) ∙ ap₂ (λ (ss : List Step) (y : Step). run ss (step_rows y r)) cut (sym w ∙ is) ∙ sym (made_cons x steps r))
