-- The trace of a run, in order of time, breaks no rule.
use Rattle.std.specs.Prelude.{◌≡◌, ℕ, ◌≤◌, ◌&&◌, ◌||◌, Bool, true, false, if◌then◌else◌, List, [], ◌∷◌, length, reverse, Option, Some, None, refl}
use Rattle.std.proofs.Common.{ap, sym, ◌∙◌, subst}
use Rattle.std.proofs.lemmas.List.{reverse-append}
use Rattle.tez_plan.specs.Dag.{Dag}
use Rattle.tez_conf.specs.declared.values.ConfValues.{ConfValues}
use Rattle.tez_events.specs.declared.Entry.{Entry}
use Rattle.tez_history.specs.History.{Past, extend}
use Rattle.tez_history.specs.Rules.{places_right, queues_right, configs_right, fetches_right, withdrawals_right, stops_right, commit_right, is_answered, rules, first_broken, or_later, broken_from, broken}
use Rattle.tez_history.specs.Runs.{Happening, run, not_begun}
use Rattle.tez_laws.specs.Laws.{Obeys, AllFindAgreeing}
use Rattle.tez_laws.proofs.Opening.{all_hold}
use Rattle.tez_laws.proofs.StepLaw.{both}
use Rattle.tez_laws.proofs.Going.{extend-append}
use Rattle.tez_laws.proofs.Obeying.{places_obeyed, commit_obeyed}
use Rattle.tez_laws.proofs.Fetches.{fetches_obeyed}
use Rattle.tez_laws.proofs.Queues.{queues_obeyed}
use Rattle.tez_laws.proofs.Stopping.{run_stops}
use Rattle.tez_laws.proofs.StandingAgain.{run_configs}
use Rattle.tez_laws.proofs.RunLaw.{Passes, passes-append, run_sound}

-- ---- in order of time

extend-reverse : (past : Past) → extend [] (reverse past) ≡ past
extend-reverse [] = refl
extend-reverse (e ∷ past) =
    ap (extend []) (reverse-append (e ∷ []) past) ∙ extend-append [] (reverse past) (e ∷ []) ∙ ap (λ p. extend p (e ∷ [])) (extend-reverse past)

passes-reverse : (rule : Dag → ConfValues → Past → Entry → Bool) (g : Dag) (c : ConfValues) (past : Past) → Obeys rule g c past → Passes rule g c [] (reverse past)
passes-reverse rule g c [] h = tt
passes-reverse rule g c (e ∷ past) h =
    subst (Passes rule g c []) (sym (reverse-append (e ∷ []) past))
    (passes-append rule g c [] (reverse past) (e ∷ []) (passes-reverse rule g c past h.1) (subst (λ p. Passes rule g c p (e ∷ [])) (sym (extend-reverse past)) (h.0, tt)))

-- ---- all rules at once

abbrev AndThen : (Dag → ConfValues → Past → Entry → Bool) → (Dag → ConfValues → Past → Entry → Bool) → Dag → ConfValues → Past → Entry → Bool
AndThen p q g c past e = p g c past e && q g c past e

abbrev from_commit : Dag → ConfValues → Past → Entry → Bool
from_commit = AndThen commit_right is_answered

abbrev from_stops : Dag → ConfValues → Past → Entry → Bool
from_stops = AndThen stops_right from_commit

abbrev from_withdrawals : Dag → ConfValues → Past → Entry → Bool
from_withdrawals = AndThen withdrawals_right from_stops

abbrev from_fetches : Dag → ConfValues → Past → Entry → Bool
from_fetches = AndThen fetches_right from_withdrawals

abbrev from_configs : Dag → ConfValues → Past → Entry → Bool
from_configs = AndThen configs_right from_fetches

abbrev from_queues : Dag → ConfValues → Past → Entry → Bool
from_queues = AndThen queues_right from_configs

abbrev all_right : Dag → ConfValues → Past → Entry → Bool
all_right = AndThen places_right from_queues

obeys-and : (p q : Dag → ConfValues → Past → Entry → Bool) (g : Dag) (c : ConfValues) (past : Past) → Obeys p g c past → Obeys q g c past → Obeys (AndThen p q) g c past
obeys-and p q g c [] h k = tt
obeys-and p q g c (e ∷ past) h k = (all_hold (p g c past e) (q g c past e) h.0 k.0, obeys-and p q g c past h.1 k.1)

-- a rule that is obeyed, and answered, is not the one that is broken
passes_on : (x a b : Bool) (later : Option ℕ) (n : ℕ) → x ≡ true → a ≡ true → later ≡ None → (if x && (a || b) then later else Some n) ≡ None
passes_on true true b later n e k h = h
passes_on true false b later n e k h = cc
passes_on false a b later n e k h = cc

none_broken : (g : Dag) (c : ConfValues) (past : Past) (e : Entry) → all_right g c past e ≡ true → first_broken 1 rules g c past e ≡ None
none_broken g c past e h =
    let h1 = both {x = places_right g c past e} h in
    let h2 = both {x = queues_right g c past e} h1.1 in
    let h3 = both {x = configs_right g c past e} h2.1 in
    let h4 = both {x = fetches_right g c past e} h3.1 in
    let h5 = both {x = withdrawals_right g c past e} h4.1 in
    let h6 = both {x = stops_right g c past e} h5.1 in
    let h7 = both {x = commit_right g c past e} h6.1 in
    let a = is_answered g c past e in
    passes_on (places_right g c past e) a _ _ _ h1.0 h7.1
    (passes_on (queues_right g c past e) a _ _ _ h2.0 h7.1
    (passes_on (configs_right g c past e) a _ _ _ h3.0 h7.1
    (passes_on (fetches_right g c past e) a _ _ _ h4.0 h7.1
    (passes_on (withdrawals_right g c past e) a _ _ _ h5.0 h7.1
    (passes_on (stops_right g c past e) a _ _ _ h6.0 h7.1
    (passes_on (commit_right g c past e) a _ _ _ h7.0 h7.1 refl))))))

none_later : (n : ℕ) (o : Option ℕ) (later : Option (ℕ × ℕ)) → o ≡ None → later ≡ None → or_later n o later ≡ None
none_later n None later e k = k
none_later n (Some r) later e k = cc

unbroken_from : (g : Dag) (c : ConfValues) (past : Past) (es : List Entry) → Passes all_right g c past es → broken_from g c past es ≡ None
unbroken_from g c past [] h = refl
unbroken_from g c past (e ∷ es) h =
    none_later (length past) (first_broken 1 rules g c past e) (broken_from g c (e ∷ past) es) (none_broken g c past e h.0) (unbroken_from g c (e ∷ past) es h.1)

pub run_unbroken : (g : Dag) (c : ConfValues) (hs : List Happening) → 1 ≤ c.max_failed → 1 ≤ c.max_masters → AllFindAgreeing g c not_begun hs → Obeys is_answered g c (run g c not_begun hs).past
    → broken g c (reverse (run g c not_begun hs).past) ≡ None
run_unbroken g c hs some masters finds answered =
    let past = (run g c not_begun hs).past in
    let s = run_sound g c hs some in
    unbroken_from g c [] (reverse past)
    (passes-reverse all_right g c past
    (obeys-and places_right from_queues g c past (places_obeyed g c past s.made)
    (obeys-and queues_right from_configs g c past (queues_obeyed g c past s.made)
    (obeys-and configs_right from_fetches g c past (run_configs g c hs some finds)
    (obeys-and fetches_right from_withdrawals g c past (fetches_obeyed g c past s.made)
    (obeys-and withdrawals_right from_stops g c past s.withdrawals
    (obeys-and stops_right from_commit g c past (run_stops g c hs some masters)
    (obeys-and commit_right is_answered g c past (commit_obeyed g c past s.made) answered))))))))
