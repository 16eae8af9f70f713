-- The trace of a job that one master runs, in order of time, breaks no rule.
--     one_answered      the managers that the rules go by can answer
--     one_unbroken      no rule is broken
use Rattle.std.specs.Prelude.{◌≡◌, ℕ, ◌≤◌, ◌&&◌, ◌||◌, Bool, true, false, if◌then◌else◌, List, [], ◌∷◌, length, reverse, Option, Some, None, is_none, refl}
use Rattle.std.proofs.Common.{ap, sym, ◌∙◌, arith, subst}
use Rattle.std.proofs.lemmas.List.{reverse-append}
use Rattle.tez_plan.specs.Dag.{Dag}
use Rattle.tez_plan.specs.Faults.{IsValid}
use Rattle.tez_plan.specs.Ranges.{IsInRanges}
use Rattle.tez_conf.specs.declared.values.ConfValues.{ConfValues}
use Rattle.tez_events.specs.declared.Entry.{Entry}
use Rattle.tez_events.specs.declared.Entry.TheVariants.{Stands, Configured, Stopped}
use Rattle.tez_history.specs.History.{Past, extend, stops}
use Rattle.tez_history.specs.Rules.{places_right, queues_right, configs_right, fetches_right, withdrawals_right, stops_right, commit_right, is_answered, rules, first_broken, or_later, broken_from, broken}
use Rattle.tez_history.specs.Follows.{IsMade}
use Rattle.tez_laws.specs.Laws.{Obeys, configured_right}
use Rattle.tez_laws.proofs.Going.{extend-append}
use Rattle.tez_laws.proofs.Obeying.{places_obeyed, configs_obeyed, commit_obeyed}
use Rattle.tez_laws.proofs.Fetches.{fetches_obeyed}
use Rattle.tez_laws.proofs.Queues.{queues_obeyed}
use Rattle.tez_laws.proofs.Stopping.{stops_obeyed}
use Rattle.tez_laws.proofs.RunLaw.{Passes, passes-append}
use Rattle.tez_rules.specs.OneMaster.{comes_in_one, has_begun, IsOfOne, IsRuled}
use Rattle.tez_rules.proofs.Answered.{answered}

-- ---- the rules of configurations and of stops

-- no configuration stands again
config_whole : (g : Dag) (c : ConfValues) (past : Past) (begun : Bool) (e : Entry) → comes_in_one begun e ≡ true → configured_right g c past e ≡ true → configs_right g c past e ≡ true
config_whole g c past begun (Configured v n b) one h = h
config_whole g c past begun (Stands v n b) one h = cc
config_whole g c past begun _ one h = refl

configs_whole : (g : Dag) (c : ConfValues) (past : Past) → IsOfOne past → Obeys configured_right g c past → Obeys configs_right g c past
configs_whole g c [] one h = tt
configs_whole g c (e ∷ past) one h = (config_whole g c past (has_begun past) e one.0 h.0, configs_whole g c past one.1 h.1)

no_stops : (past : Past) → IsOfOne past → stops past ≡ 0
no_stops [] one = refl
no_stops (Stopped cause ∷ past) one = let k : false ≡ true = one.0 in cc
no_stops (_ ∷ past) one = no_stops past one.1

stops_few : (past : Past) (n : ℕ) → IsOfOne past → stops past ≤ n
stops_few past n one = let k : stops past ≡ 0 = no_stops past one in omega arith

-- ---- all rules at an entry

-- a rule that is obeyed, and answered, is not the one that is broken
passes_on : (x a b : Bool) (later : Option ℕ) (n : ℕ) → x ≡ true → a ≡ true → later ≡ None → (if x && (a || b) then later else Some n) ≡ None
passes_on true true b later n e k h = h
passes_on true false b later n e k h = cc
passes_on false a b later n e k h = cc

breaks_none : Dag → ConfValues → Past → Entry → Bool
breaks_none g c past e = is_none (first_broken 1 rules g c past e)

obeys_all : (g : Dag) (c : ConfValues) (past : Past) → Obeys places_right g c past → Obeys queues_right g c past → Obeys configs_right g c past → Obeys fetches_right g c past → Obeys withdrawals_right g c past
    → Obeys stops_right g c past → Obeys commit_right g c past → Obeys is_answered g c past → Obeys breaks_none g c past
unfolding breaks_none
obeys_all g c [] h1 h2 h3 h4 h5 h6 h7 a = tt
obeys_all g c (e ∷ past) h1 h2 h3 h4 h5 h6 h7 a = (
  ap is_none
      (passes_on (places_right g c past e) (is_answered g c past e) _ _ _ h1.0 a.0
      (passes_on (queues_right g c past e) (is_answered g c past e) _ _ _ h2.0 a.0
      (passes_on (configs_right g c past e) (is_answered g c past e) _ _ _ h3.0 a.0
      (passes_on (fetches_right g c past e) (is_answered g c past e) _ _ _ h4.0 a.0
      (passes_on (withdrawals_right g c past e) (is_answered g c past e) _ _ _ h5.0 a.0
      (passes_on (stops_right g c past e) (is_answered g c past e) _ _ _ h6.0 a.0
      (passes_on (commit_right g c past e) (is_answered g c past e) _ _ _ h7.0 a.0 refl))))))),
  obeys_all g c past h1.1 h2.1 h3.1 h4.1 h5.1 h6.1 h7.1 a.1,
)

-- ---- in order of time

extend-reverse : (past : Past) → extend [] (reverse past) ≡ past
extend-reverse [] = refl
extend-reverse (e ∷ past) =
    ap (extend []) (reverse-append (e ∷ []) past) ∙ extend-append [] (reverse past) (e ∷ []) ∙ ap (λ p. extend p (e ∷ [])) (extend-reverse past)

passes-reverse : (rule : Dag → ConfValues → Past → Entry → Bool) (g : Dag) (c : ConfValues) (past : Past) → Obeys rule g c past → Passes rule g c [] (reverse past)
passes-reverse rule g c [] h = tt
passes-reverse rule g c (e ∷ past) h =
    subst (Passes rule g c []) (sym (reverse-append (e ∷ []) past))
    (passes-append rule g c [] (reverse past) (e ∷ []) (passes-reverse rule g c past h.1) (subst (λ p. Passes rule g c p (e ∷ [])) (sym (extend-reverse past)) (h.0, tt)))

none_later : (n : ℕ) (o : Option ℕ) (later : Option (ℕ × ℕ)) → is_none o ≡ true → later ≡ None → or_later n o later ≡ None
none_later n None later e k = k
none_later n (Some r) later e k = cc

unbroken_from : (g : Dag) (c : ConfValues) (past : Past) (es : List Entry) → Passes breaks_none g c past es → broken_from g c past es ≡ None
unfolding breaks_none
unbroken_from g c past [] h = refl
unbroken_from g c past (e ∷ es) h = none_later (length past) (first_broken 1 rules g c past e) (broken_from g c (e ∷ past) es) h.0 (unbroken_from g c (e ∷ past) es h.1)

-- ---- one master

pub one_answered : (g : Dag) (c : ConfValues) (past : Past) → IsValid g → IsInRanges g → IsMade g c past → IsRuled g c past → Obeys is_answered g c past
one_answered g c past valid ranges made ruled = answered g c valid ranges past made ruled.one ruled.bytes

pub one_unbroken : (g : Dag) (c : ConfValues) (past : Past) → IsValid g → IsInRanges g → IsMade g c past → IsRuled g c past → broken g c (reverse past) ≡ None
one_unbroken g c past valid ranges made ruled =
    unbroken_from g c [] (reverse past)
    (passes-reverse breaks_none g c past
    (obeys_all g c past (places_obeyed g c past made) (queues_obeyed g c past made) (configs_whole g c past ruled.one (configs_obeyed g c past made)) (fetches_obeyed g c past made) ruled.withdrawals
    (stops_obeyed g c past made (stops_few past c.max_masters ruled.one)) (commit_obeyed g c past made) (one_answered g c past valid ranges made ruled)))
