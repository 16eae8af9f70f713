-- What may be set at each edge by itself may be set at one edge after another.
use Rattle.std.proofs.Common.{◌≡◌, ℕ, ◌+◌, ◌*◌, ◌^◌, ◌<◌, ◌≤◌, ◌==◌, ◌&&◌, ◌||◌, not, Bool, true, false, cond, List, [], ◌∷◌, map, filter, replicate, refl, sym, ap, ◌∙◌, subst, arith, ne_eqb}
use Rattle.std.specs.Prelude.{if◌then◌else◌, nat_lt, nat_le, ⊤}
use Rattle.std.specs.List.{list_all, AllByRecursion}
use Rattle.std.proofs.lemmas.Bool.Decides.{nat_tests}
use Rattle.tez_vman.specs.declared.seen.Config.{Config}
use Rattle.tez_router.specs.State.{RouterState, LinkState, EdgeInputs, AdmittedState, Routing, OneToOne, Broadcast, ScatterGather}
use Rattle.tez_router.specs.Table.{inputs_in, after_set_edge, can_set_edge, can_restart, can_restart_by, restart_over, restart_by}
use Rattle.tez_router.specs.Edges.{AreNumberedFrom}
use Rattle.tez_router.specs.Configure.{is_at, rerouted, reroute, links_for, CanSetEdges, FitsRouting, FitsParts, CanConfigure, fits_routing, fits_parts, has_numbers, may_reroute}

-- ---- edges do not hinder one another

either_way : (b x y : Bool) → b ≡ false → (not b || x) ≡ (not b || y)
either_way true x y h = cc
either_way false x y h = refl

over_other : (e k n m : ℕ) (y : EdgeInputs) → (e == k) ≡ false → can_restart k n (restart_over e m y) ≡ can_restart k n y
over_other e k n m y apart = by (y.edge == e) refl where
  turned : (i : ℕ) → (i == e) ≡ true → (i == k) ≡ false
  turned i h = grind (arith, nat_tests)

  by : (b : Bool) → (y.edge == e) ≡ b → can_restart k n (if b then record y { fetched = replicate m false } else y) ≡ can_restart k n y
  by false h = refl
  by true h = either_way (y.edge == k) _ _ (turned y.edge h)

all_over : (e k n m : ℕ) (ys : List EdgeInputs) → (e == k) ≡ false → list_all (can_restart k n) (map (restart_over e m) ys) ≡ list_all (can_restart k n) ys
all_over e k n m [] apart = refl
all_over e k n m (y ∷ ys) apart =
    ap (λ b. b && list_all (can_restart k n) (map (restart_over e m) ys)) (over_other e k n m y apart)
    ∙ ap (λ b. can_restart k n y && b) (all_over e k n m ys apart)

all_by : (e k : ℕ) (q r : Routing) (xs : List AdmittedState) → (e == k) ≡ false → list_all (can_restart_by k r) (map (restart_by e q) xs) ≡ list_all (can_restart_by k r) xs
all_by e k q r [] apart = refl
all_by e k q r (x ∷ xs) apart =
    ap (λ b. b && list_all (can_restart_by k r) (map (restart_by e q) xs)) (all_over e k (inputs_in r x.attempt.task.index) (inputs_in q x.attempt.task.index) x.edges apart)
    ∙ ap (λ b. can_restart_by k r x && b) (all_by e k q r xs apart)

-- ---- one after another

abbrev IsAllowed : RouterState → LinkState → Type 0
IsAllowed s l = can_set_edge s l.edge l.routing ≡ true

abbrev AreApart : List LinkState → Type 0
AreApart [] = ⊤
AreApart (l ∷ ls) = AllByRecursion (λ m. (l.edge == m.edge) ≡ false) ls × AreApart ls

still : (s : RouterState) (e : ℕ) (q : Routing) (ls : List LinkState) → AllByRecursion (λ m. (e == m.edge) ≡ false) ls → AllByRecursion (IsAllowed s) ls → AllByRecursion (IsAllowed (after_set_edge s e q)) ls
still s e q [] apart can = tt
still s e q (l ∷ ls) apart can = (all_by e l.edge q l.routing s.admitted apart.0 ∙ can.0, still s e q ls apart.1 can.1)

all_set : (s : RouterState) (ls : List LinkState) → AreApart ls → AllByRecursion (IsAllowed s) ls → CanSetEdges s ls
all_set s [] apart can = tt
all_set s (l ∷ ls) apart can = (can.0, all_set (after_set_edge s l.edge l.routing) ls apart.1 (still s l.edge l.routing ls apart.0 can.1))

-- ---- the edges at a vertex

abbrev picked : ℕ → Config → List LinkState → List LinkState
picked v s ls = map (reroute v s) (filter (is_at v) ls)

low_picked : (v : ℕ) (s : Config) (e n : ℕ) (ls : List LinkState) → e < n → AreNumberedFrom n ls → AllByRecursion (λ m. (e == m.edge) ≡ false) (picked v s ls)
low_picked v s e n [] low numbered = tt
low_picked v s e n (l ∷ ls) low numbered = by (is_at v l) (low_picked v s e (n + 1) ls (omega arith) numbered.1) where
  by : (b : Bool) → AllByRecursion (λ m. (e == m.edge) ≡ false) (picked v s ls) → AllByRecursion (λ m. (e == m.edge) ≡ false) (map (reroute v s) (cond b (l ∷ filter (is_at v) ls) (filter (is_at v) ls)))
  by true rest = let is = numbered.0 in (ne_eqb e l.edge (λ q. absurd (omega arith)), rest)
  by false rest = rest

apart_picked : (v : ℕ) (s : Config) (n : ℕ) (ls : List LinkState) → AreNumberedFrom n ls → AreApart (picked v s ls)
apart_picked v s n [] numbered = tt
apart_picked v s n (l ∷ ls) numbered = by (is_at v l) (apart_picked v s (n + 1) ls numbered.1) where
  by : (b : Bool) → AreApart (picked v s ls) → AreApart (map (reroute v s) (cond b (l ∷ filter (is_at v) ls) (filter (is_at v) ls)))
  by true rest = let is = numbered.0 in (low_picked v s l.edge (n + 1) ls (omega arith) numbered.1, rest)
  by false rest = rest

both : (a b : Bool) → (a && b) ≡ true → (a ≡ true) × (b ≡ true)
both true true h = (refl, refl)
both true false h = cc
both false b h = cc

holds_if : (b x : Bool) → (not b || x) ≡ true → b ≡ true → x ≡ true
holds_if true x h k = h
holds_if false x h k = cc

less : (a b : ℕ) → nat_lt a b ≡ true → a < b
less a b h = grind (arith, nat_tests)

most : (a b : ℕ) → nat_le a b ≡ true → a ≤ b
most a b h = grind (arith, nat_tests)

-- what the test says of one edge
pub numbers : (s : Config) → has_numbers s ≡ true → (1 ≤ s.tasks) × (1 ≤ s.base)
numbers s h = let k = both (nat_le 1 s.tasks) (nat_le 1 s.base) h in (most 1 s.tasks k.0, most 1 s.base k.1)

parts_of : (r : RouterState) (v : ℕ) (s : Config) (l : LinkState) → may_reroute r v s l ≡ true → (fits_parts v s l ≡ true) × ((not (is_at v l) || can_set_edge r l.edge (rerouted v s l l.routing)) ≡ true)
parts_of r v s l h =
    let k = both (has_numbers s) (fits_parts v s l && (not (is_at v l) || can_set_edge r l.edge (rerouted v s l l.routing))) h in
    both (fits_parts v s l) (not (is_at v l) || can_set_edge r l.edge (rerouted v s l l.routing)) k.1

allowed_picked : (r : RouterState) (v : ℕ) (s : Config) (ls : List LinkState) → list_all (may_reroute r v s) ls ≡ true → AllByRecursion (IsAllowed r) (picked v s ls)
allowed_picked r v s [] h = tt
allowed_picked r v s (l ∷ ls) h =
    let k = both (may_reroute r v s l) (list_all (may_reroute r v s) ls) h in by (is_at v l) refl (parts_of r v s l k.0).1 (allowed_picked r v s ls k.1) where
      by : (b : Bool) → is_at v l ≡ b → (not (is_at v l) || can_set_edge r l.edge (rerouted v s l l.routing)) ≡ true → AllByRecursion (IsAllowed r) (picked v s ls)
          → AllByRecursion (IsAllowed r) (map (reroute v s) (cond b (l ∷ filter (is_at v) ls) (filter (is_at v) ls)))
      by true at may rest = (holds_if (is_at v l) (can_set_edge r l.edge (rerouted v s l l.routing)) may at, rest)
      by false at may rest = rest

-- ---- the partitions

routing_fits : (v : ℕ) (s : Config) (l : LinkState) (q : Routing) → fits_routing v s l q ≡ true → FitsRouting v s l q
routing_fits v s l (OneToOne tasks) h = tt
routing_fits v s l (Broadcast sources consumers) h = tt
routing_fits v s l (ScatterGather sources parts base) h =
    let k = both (not (l.source == v) || nat_lt (s.tasks * parts) (2 ^ 32)) (not (l.target == v) || nat_le s.base parts) h in
    (λ at. less (s.tasks * parts) (2 ^ 32) (holds_if (l.source == v) (nat_lt (s.tasks * parts) (2 ^ 32)) k.0 at), λ at. most s.base parts (holds_if (l.target == v) (nat_le s.base parts) k.1 at))

pub fits_one : (v : ℕ) (s : Config) (l : LinkState) → fits_parts v s l ≡ true → FitsParts v s l
fits_one v s l h = routing_fits v s l l.routing h

all_fit : (r : RouterState) (v : ℕ) (s : Config) (ls : List LinkState) → list_all (may_reroute r v s) ls ≡ true → AllByRecursion (FitsParts v s) ls
all_fit r v s [] h = tt
all_fit r v s (l ∷ ls) h = let k = both (may_reroute r v s l) (list_all (may_reroute r v s) ls) h in (fits_one v s l (parts_of r v s l k.0).0, all_fit r v s ls k.1)

pub can : (r : RouterState) (v : ℕ) (s : Config) → AreNumberedFrom 0 r.links → has_numbers s ≡ true → list_all (may_reroute r v s) r.links ≡ true → CanConfigure r v s
can r v s numbered some all =
    let n = numbers s some in
    record {
      some = n.0;
      based = n.1;
      parts = all_fit r v s r.links all;
      edges = all_set r (links_for r v s) (apart_picked v s 0 r.links numbered) (allowed_picked r v s r.links all);
    }
