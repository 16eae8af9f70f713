-- The checks in order.
--     valid_parts           what a valid plan keeps, by name
--     next_passes           one check more passes
--     is_first              a check fails after the others passed
--     all_pass              a plan of which all checks pass is valid
--     same_fault            the first fault is one
--     no_fault              a valid plan has none
use Rattle.std.proofs.Common.{◌≡◌, ◌≢◌, ◌⊎◌, inl, inr, ⊎_elim, ℕ, zero, suc, ◌<◌, ◌≤◌, List, [], ◌∷◌, Bool, true, false, ◌==◌, ◌&&◌, ◌||◌, length, refl, sym, ap, ◌∙◌, subst, arith, IsTrue}
use Rattle.std.proofs.lemmas.Bool.{cases_order, le-ltb}
use Rattle.std.specs.Prelude.{nat_lt}
use Rattle.tez_plan.specs.declared.fault.PlanFault.{PlanFault}
use Rattle.tez_plan.specs.declared.fault.PlanFault.TheVariants.{TooMany, DuplicateName, UnknownName, DuplicateEdge, Cycle, NoPrimary, MixedPrimary, HeadInputs, KeyDiffers, PartitionsDiffer, LeafWithoutSink, DuplicateSink, NoMemory}
use Rattle.tez_lists.proofs.Cases.{both}
use Rattle.tez_plan.specs.Dag.{Dag, vertex, edge}
use Rattle.tez_plan.specs.Faults.{Check, FailsNowhere, FailsFirstAt, IsFirstOf, PassesAll, FirstPass, Passes, IsFirstFault, IsValid, checks, AllKnown, IsBehindCycle, IsNowhere, IsFirstWhere, too_many_parts, duplicate_name, unknown_name, duplicate_edge, no_primary, mixed_primary, head_inputs, key_differs, partitions_differ, leaf_without_sink, duplicate_sink, too_many_inputs}

-- what a valid plan keeps
pub record Valid (p : Dag) : Type 0 where
  pub few_parts : (n : ℕ) → ¬ IsTrue (too_many_parts p n)
  pub own_names : (n : ℕ) → ¬ IsTrue (duplicate_name p n)
  pub known_names : AllKnown p
  pub own_edges : (n : ℕ) → ¬ IsTrue (duplicate_edge p n)
  pub no_cycle : (v : ℕ) → ¬ IsBehindCycle p v
  pub some_primary : (n : ℕ) → ¬ IsTrue (no_primary p n)
  pub one_primary : (n : ℕ) → ¬ IsTrue (mixed_primary p n)
  pub fit_inputs : (n : ℕ) → ¬ IsTrue (head_inputs p n)
  pub fit_keys : (n : ℕ) → ¬ IsTrue (key_differs p n)
  pub same_partitions : (n : ℕ) → ¬ IsTrue (partitions_differ p n)
  pub leaf_sinks : (n : ℕ) → ¬ IsTrue (leaf_without_sink p n)
  pub own_sinks : (n : ℕ) → ¬ IsTrue (duplicate_sink p n)
  pub few_inputs : (n : ℕ) → ¬ IsTrue (too_many_inputs p n)

pub valid_parts : (p : Dag) → IsValid p → Valid p
unfolding IsValid checks
valid_parts p h = record {
  few_parts = h.0;
  own_names = h.1.0;
  known_names = h.1.1.0;
  own_edges = h.1.1.1.0;
  no_cycle = h.1.1.1.1.0;
  some_primary = h.1.1.1.1.1.0;
  one_primary = h.1.1.1.1.1.1.0;
  fit_inputs = h.1.1.1.1.1.1.1.0;
  fit_keys = h.1.1.1.1.1.1.1.1.0;
  same_partitions = h.1.1.1.1.1.1.1.1.1.0;
  leaf_sinks = h.1.1.1.1.1.1.1.1.1.1.0;
  own_sinks = h.1.1.1.1.1.1.1.1.1.1.1.0;
  few_inputs = h.1.1.1.1.1.1.1.1.1.1.1.1.0;
}

-- ---- any list of checks

-- the check at this place
abbrev pub nth : ℕ → List Check → Check
nth n [] = record { fault = λ m. NoMemory; fails = λ m. ⊥ }
nth zero (c ∷ cs) = c
nth (suc n) (c ∷ cs) = nth n cs

passes_more : (k : ℕ) (cs : List Check) → FirstPass k cs → FailsNowhere (nth k cs) → FirstPass (suc k) cs
passes_more k [] h now = tt
passes_more zero (c ∷ cs) h now = (now, tt)
passes_more (suc k) (c ∷ cs) h now = (h.0, passes_more k cs h.1 now)

first_at : (k : ℕ) (cs : List Check) (n : ℕ) → FirstPass k cs → FailsFirstAt (nth k cs) n → IsFirstOf cs ((nth k cs).fault n)
first_at k [] n h now = absurd now.there
first_at zero (c ∷ cs) n h now = inl (n, now, refl)
first_at (suc k) (c ∷ cs) n h now = inr (h.0, first_at k cs n h.1 now)

one_first : (cs : List Check) (f g : PlanFault) → IsFirstOf cs f → IsFirstOf cs g → f ≡ g
one_first [] f g a b = absurd a
one_first (c ∷ cs) f g (inl a) (inl b) = a.2 ∙ ap c.fault same ∙ sym b.2
  where
    same : a.0 ≡ b.0
    same = ⊎_elim (λ e. e) (λ r. ⊎_elim (λ l. absurd (b.1.before a.0 l a.1.there)) (λ l. absurd (a.1.before b.0 l b.1.there)) r) (cases_order a.0 b.0)
one_first (c ∷ cs) f g (inl a) (inr b) = absurd (b.0 a.0 a.1.there)
one_first (c ∷ cs) f g (inr a) (inl b) = absurd (a.0 b.0 b.1.there)
one_first (c ∷ cs) f g (inr a) (inr b) = one_first cs f g a.1 b.1

none_first : (cs : List Check) (f : PlanFault) → PassesAll cs → IsFirstOf cs f → ⊥
none_first [] f h a = a
none_first (c ∷ cs) f h (inl a) = h.0 a.0 a.1.there
none_first (c ∷ cs) f h (inr a) = none_first cs f h.1 a.1

-- ---- the checks of a plan

pub next_passes : (k : ℕ) (p : Dag) → Passes k p → FailsNowhere (nth k (checks p)) → Passes (suc k) p
unfolding Passes
next_passes k p h now = passes_more k (checks p) h now

pub is_first : (k : ℕ) (p : Dag) (n : ℕ) → Passes k p → FailsFirstAt (nth k (checks p)) n → IsFirstFault p ((nth k (checks p)).fault n)
unfolding Passes IsFirstFault
is_first k p n h now = first_at k (checks p) n h now

pub no_passes : (p : Dag) → Passes 0 p
unfolding Passes
no_passes p = tt

pub all_pass : (p : Dag) → Passes 13 p → IsValid p
unfolding Passes IsValid checks
all_pass p h = h

pub same_fault : (p : Dag) (f g : PlanFault) → IsFirstFault p f → IsFirstFault p g → f ≡ g
unfolding IsFirstFault
same_fault p f g a b = one_first (checks p) f g a b

pub no_fault : (p : Dag) (f : PlanFault) → IsValid p → IsFirstFault p f → ⊥
unfolding IsFirstFault IsValid
no_fault p f h a = none_first (checks p) f h a

-- ---- one check after another

failing : (test : ℕ → Bool) → IsNowhere test → (n : ℕ) → ¬ IsTrue (test n)
failing test h n f = both f (h n)

pub sizes_pass : (p : Dag) → Passes 0 p → IsNowhere (too_many_parts p) → Passes 1 p
unfolding checks
sizes_pass p h t = next_passes 0 p h (failing (too_many_parts p) t)

pub sizes_fault : (p : Dag) (n : ℕ) → Passes 0 p → IsFirstWhere (too_many_parts p) n → IsFirstFault p (TooMany n)
unfolding checks
sizes_fault p n h t = is_first 0 p n h (record { there = t.there; before = λ m below f. both f (t.before m below) })

pub names_pass : (p : Dag) → Passes 1 p → IsNowhere (duplicate_name p) → Passes 2 p
unfolding checks
names_pass p h t = next_passes 1 p h (failing (duplicate_name p) t)

pub names_fault : (p : Dag) (n : ℕ) → Passes 1 p → IsFirstWhere (duplicate_name p) n → IsFirstFault p (DuplicateName (vertex n))
unfolding checks
names_fault p n h t = is_first 1 p n h (record { there = t.there; before = λ m below f. both f (t.before m below) })

pub ends_pass : (p : Dag) → Passes 2 p → IsNowhere (unknown_name p) → Passes 3 p
unfolding checks
ends_pass p h t = next_passes 2 p h (failing (unknown_name p) t)

pub ends_fault : (p : Dag) (n : ℕ) → Passes 2 p → IsFirstWhere (unknown_name p) n → IsFirstFault p (UnknownName (edge n))
unfolding checks
ends_fault p n h t = is_first 2 p n h (record { there = t.there; before = λ m below f. both f (t.before m below) })

pub pairs_pass : (p : Dag) → Passes 3 p → IsNowhere (duplicate_edge p) → Passes 4 p
unfolding checks
pairs_pass p h t = next_passes 3 p h (failing (duplicate_edge p) t)

pub pairs_fault : (p : Dag) (n : ℕ) → Passes 3 p → IsFirstWhere (duplicate_edge p) n → IsFirstFault p (DuplicateEdge (edge n))
unfolding checks
pairs_fault p n h t = is_first 3 p n h (record { there = t.there; before = λ m below f. both f (t.before m below) })

pub cycles_pass : (p : Dag) → Passes 4 p → ((v : ℕ) → ¬ IsBehindCycle p v) → Passes 5 p
unfolding checks
cycles_pass p h t = next_passes 4 p h t

pub cycles_fault : (p : Dag) (n : ℕ) → Passes 4 p → IsBehindCycle p n → ((m : ℕ) → m < n → ¬ IsBehindCycle p m) → IsFirstFault p (Cycle (vertex n))
unfolding checks
cycles_fault p n h there before = is_first 4 p n h (record { there = there; before = before })

pub primary_pass : (p : Dag) → Passes 5 p → IsNowhere (no_primary p) → Passes 6 p
unfolding checks
primary_pass p h t = next_passes 5 p h (failing (no_primary p) t)

pub primary_fault : (p : Dag) (n : ℕ) → Passes 5 p → IsFirstWhere (no_primary p) n → IsFirstFault p (NoPrimary (vertex n))
unfolding checks
primary_fault p n h t = is_first 5 p n h (record { there = t.there; before = λ m below f. both f (t.before m below) })

pub mixed_pass : (p : Dag) → Passes 6 p → IsNowhere (mixed_primary p) → Passes 7 p
unfolding checks
mixed_pass p h t = next_passes 6 p h (failing (mixed_primary p) t)

pub mixed_fault : (p : Dag) (n : ℕ) → Passes 6 p → IsFirstWhere (mixed_primary p) n → IsFirstFault p (MixedPrimary (vertex n))
unfolding checks
mixed_fault p n h t = is_first 6 p n h (record { there = t.there; before = λ m below f. both f (t.before m below) })

pub heads_pass : (p : Dag) → Passes 7 p → IsNowhere (head_inputs p) → Passes 8 p
unfolding checks
heads_pass p h t = next_passes 7 p h (failing (head_inputs p) t)

pub heads_fault : (p : Dag) (n : ℕ) → Passes 7 p → IsFirstWhere (head_inputs p) n → IsFirstFault p (HeadInputs (vertex n))
unfolding checks
heads_fault p n h t = is_first 7 p n h (record { there = t.there; before = λ m below f. both f (t.before m below) })

pub keys_pass : (p : Dag) → Passes 8 p → IsNowhere (key_differs p) → Passes 9 p
unfolding checks
keys_pass p h t = next_passes 8 p h (failing (key_differs p) t)

pub keys_fault : (p : Dag) (n : ℕ) → Passes 8 p → IsFirstWhere (key_differs p) n → IsFirstFault p (KeyDiffers (vertex n))
unfolding checks
keys_fault p n h t = is_first 8 p n h (record { there = t.there; before = λ m below f. both f (t.before m below) })

pub partitions_pass : (p : Dag) → Passes 9 p → IsNowhere (partitions_differ p) → Passes 10 p
unfolding checks
partitions_pass p h t = next_passes 9 p h (failing (partitions_differ p) t)

pub partitions_fault : (p : Dag) (n : ℕ) → Passes 9 p → IsFirstWhere (partitions_differ p) n → IsFirstFault p (PartitionsDiffer (edge n))
unfolding checks
partitions_fault p n h t = is_first 9 p n h (record { there = t.there; before = λ m below f. both f (t.before m below) })

pub leaves_pass : (p : Dag) → Passes 10 p → IsNowhere (leaf_without_sink p) → Passes 11 p
unfolding checks
leaves_pass p h t = next_passes 10 p h (failing (leaf_without_sink p) t)

pub leaves_fault : (p : Dag) (n : ℕ) → Passes 10 p → IsFirstWhere (leaf_without_sink p) n → IsFirstFault p (LeafWithoutSink (vertex n))
unfolding checks
leaves_fault p n h t = is_first 10 p n h (record { there = t.there; before = λ m below f. both f (t.before m below) })

pub sinks_pass : (p : Dag) → Passes 11 p → IsNowhere (duplicate_sink p) → Passes 12 p
unfolding checks
sinks_pass p h t = next_passes 11 p h (failing (duplicate_sink p) t)

pub sinks_fault : (p : Dag) (n : ℕ) → Passes 11 p → IsFirstWhere (duplicate_sink p) n → IsFirstFault p (DuplicateSink (vertex n))
unfolding checks
sinks_fault p n h t = is_first 11 p n h (record { there = t.there; before = λ m below f. both f (t.before m below) })

pub inputs_pass : (p : Dag) → Passes 12 p → IsNowhere (too_many_inputs p) → Passes 13 p
unfolding checks
inputs_pass p h t = next_passes 12 p h (failing (too_many_inputs p) t)

pub inputs_fault : (p : Dag) (n : ℕ) → Passes 12 p → IsFirstWhere (too_many_inputs p) n → IsFirstFault p (TooMany n)
unfolding checks
inputs_fault p n h t = is_first 12 p n h (record { there = t.there; before = λ m below f. both f (t.before m below) })

pub few_parts : (p : Dag) → length p.vertices ≤ 64 → length p.edges ≤ 256 → IsNowhere (too_many_parts p)
few_parts p vertices edges n = neither (n == 64) (n == 256) (nat_lt 64 (length p.vertices)) (nat_lt 256 (length p.edges)) (le-ltb 64 (length p.vertices) vertices) (le-ltb 256 (length p.edges) edges)
  where
    neither : (a b c d : Bool) → c ≡ false → d ≡ false → (a && c) || (b && d) ≡ false
    neither true true c d e f = cc
    neither true false c d e f = cc
    neither false true c d e f = cc
    neither false false c d e f = cc
