-- One edge of a vertex that is configured gets its manager, those before it being done.
use Rattle.std.proofs.Common.{◌≡◌, ℕ, zero, suc, ◌+◌, ◌<◌, ◌==◌, ◌||◌, Bool, true, false, cond, List, [], ◌∷◌, length, map, filter, drop, get_or, refl, sym, ap, ◌∙◌, subst, arith}
use Rattle.std.specs.Prelude.{if◌then◌else◌, slice_get, slice_set, Option, Some, None, IsTrue}
use Rattle.std.specs.Option.{option_map_or}
use Rattle.std.specs.List.{AllByRecursion}
use Rattle.tez_vman.specs.declared.seen.Config.{Config}
use Rattle.tez_router.specs.State.{RouterState, LinkState, Routing}
use Rattle.tez_router.specs.Table.{with_routing, after_set_edge, can_set_edge}
use Rattle.tez_router.specs.Edges.{AreNumberedFrom}
use Rattle.tez_router.specs.Configure.{is_at, rerouted, reroute, links_for, links_from, after_set_edges, CanSetEdges, FitsParts, CanConfigure, CanConfigureFrom}

-- ---- the edges from a number on

pub got : {X : Type 0} (xs : List X) (i : ℕ) (x : X) → i < length xs → x ≡ get_or xs i x → slice_get xs i ≡ Some x
got [] i x l is = absurd (omega arith)
got (y ∷ ys) zero x l is = ap Some (sym is)
got (y ∷ ys) (suc i) x l is = got ys i x (omega arith) is

drop_at : {X : Type 0} (xs : List X) (i : ℕ) (x : X) → slice_get xs i ≡ Some x → drop i xs ≡ x ∷ drop (suc i) xs
drop_at [] i x e = cc
drop_at (y ∷ ys) zero x e = let is : y ≡ x = cc in ap (λ z. z ∷ ys) is
drop_at (y ∷ ys) (suc i) x e = drop_at ys i x e

drop_set : {X : Type 0} (xs : List X) (i : ℕ) (x : X) → drop (suc i) (slice_set xs i x) ≡ drop (suc i) xs
drop_set [] i x = refl
drop_set (y ∷ ys) zero x = refl
drop_set (y ∷ ys) (suc i) x = drop_set ys i x

drop_routed : (links : List LinkState) (e : ℕ) (r : Routing) → drop (suc e) (with_routing links e r) ≡ drop (suc e) links
drop_routed links e r = by (slice_get links e) where
  by : (o : Option LinkState) → drop (suc e) (option_map_or (λ l. slice_set links e (record l { routing = r })) o links) ≡ drop (suc e) links
  by None = refl
  by (Some l) = drop_set links e (record l { routing = r })

pub drop_all : {X : Type 0} (xs : List X) (n : ℕ) → length xs ≡ n → drop n xs ≡ []
drop_all [] zero h = refl
drop_all [] (suc n) h = refl
drop_all (x ∷ xs) zero h = absurd (omega arith)
drop_all (x ∷ xs) (suc n) h = drop_all xs n (omega arith)

number_from : (a : ℕ) (links : List LinkState) (e : ℕ) (l : LinkState) → AreNumberedFrom a links → slice_get links e ≡ Some l → l.edge ≡ a + e
number_from a [] e l numbered is = cc
number_from a (k ∷ ks) zero l numbered is = let same : k ≡ l = cc in let first = numbered.0 in let edge : l.edge ≡ k.edge = ap (λ (x : LinkState). x.edge) (sym same) in omega arith
number_from a (k ∷ ks) (suc e) l numbered is = let rest = number_from (a + 1) ks e l numbered.1 is in omega arith

pub number_at : (links : List LinkState) (e : ℕ) (l : LinkState) → AreNumberedFrom 0 links → slice_get links e ≡ Some l → l.edge ≡ e
number_at links e l numbered is = let at = number_from 0 links e l numbered is in omega arith

-- ---- one step

abbrev picked : ℕ → Config → List LinkState → List LinkState
picked v s ls = map (reroute v s) (filter (is_at v) ls)

first_in : (v : ℕ) (s : Config) (l : LinkState) (ls : List LinkState) → is_at v l ≡ true → picked v s (l ∷ ls) ≡ reroute v s l ∷ picked v s ls
first_in v s l ls here = ap (λ b. map (reroute v s) (cond b (l ∷ filter (is_at v) ls) (filter (is_at v) ls))) here

first_out : (v : ℕ) (s : Config) (l : LinkState) (ls : List LinkState) → is_at v l ≡ false → picked v s (l ∷ ls) ≡ picked v s ls
first_out v s l ls away = ap (λ b. map (reroute v s) (cond b (l ∷ filter (is_at v) ls) (filter (is_at v) ls))) away

pub begins : (r : RouterState) (v : ℕ) (s : Config) → CanConfigure r v s → CanConfigureFrom r v s 0
begins r v s can = record { some = can.some; based = can.based; parts = can.parts; edges = can.edges }

pub fits_here : (r : RouterState) (v : ℕ) (s : Config) (e : ℕ) (l : LinkState) → slice_get r.links e ≡ Some l → CanConfigureFrom r v s e → FitsParts v s l
fits_here r v s e l at can = (subst (AllByRecursion (FitsParts v s)) (drop_at r.links e l at) can.parts).0

pub skipped : (r : RouterState) (v : ℕ) (s : Config) (e : ℕ) (l : LinkState) → slice_get r.links e ≡ Some l → is_at v l ≡ false → links_from r v s (suc e) ≡ links_from r v s e
skipped r v s e l at away = sym (ap (picked v s) (drop_at r.links e l at) ∙ first_out v s l (drop (suc e) r.links) away)

pub skipped_can : (r : RouterState) (v : ℕ) (s : Config) (e : ℕ) (l : LinkState) → slice_get r.links e ≡ Some l → is_at v l ≡ false → CanConfigureFrom r v s e → CanConfigureFrom r v s (suc e)
skipped_can r v s e l at away can = record {
  some = can.some;
  based = can.based;
  parts = (subst (AllByRecursion (FitsParts v s)) (drop_at r.links e l at) can.parts).1;
  edges = subst (CanSetEdges r) (sym (skipped r v s e l at away)) can.edges;
}

listed : (r : RouterState) (v : ℕ) (s : Config) (e : ℕ) (l : LinkState) → slice_get r.links e ≡ Some l → is_at v l ≡ true → links_from r v s e ≡ reroute v s l ∷ links_from r v s (suc e)
listed r v s e l at here = ap (picked v s) (drop_at r.links e l at) ∙ first_in v s l (drop (suc e) r.links) here

pub may_set : (r : RouterState) (v : ℕ) (s : Config) (e : ℕ) (l : LinkState) → slice_get r.links e ≡ Some l → is_at v l ≡ true → l.edge ≡ e → CanConfigureFrom r v s e → IsTrue (can_set_edge r e (rerouted v s l l.routing))
may_set r v s e l at here number can =
    subst (λ k. IsTrue (can_set_edge r k (rerouted v s l l.routing))) number (subst (CanSetEdges r) (listed r v s e l at here) can.edges).0

same_later : (r : RouterState) (v : ℕ) (s : Config) (e : ℕ) (q : Routing) → links_from (after_set_edge r e q) v s (suc e) ≡ links_from r v s (suc e)
same_later r v s e q = ap (picked v s) (drop_routed r.links e q)

pub set_rest : (r : RouterState) (v : ℕ) (s : Config) (e : ℕ) (l : LinkState) (t : RouterState) → slice_get r.links e ≡ Some l → is_at v l ≡ true → l.edge ≡ e → t ≡ after_set_edge r e (rerouted v s l l.routing)
    → after_set_edges t (links_from t v s (suc e)) ≡ after_set_edges r (links_from r v s e)
set_rest r v s e l t at here number is =
    let q = rerouted v s l l.routing in
    ap (λ u. after_set_edges u (links_from u v s (suc e))) is
    ∙ ap (after_set_edges (after_set_edge r e q)) (same_later r v s e q)
    ∙ ap (λ k. after_set_edges (after_set_edge r k q) (links_from r v s (suc e))) (sym number)
    ∙ sym (ap (after_set_edges r) (listed r v s e l at here))

pub set_can : (r : RouterState) (v : ℕ) (s : Config) (e : ℕ) (l : LinkState) (t : RouterState) → slice_get r.links e ≡ Some l → is_at v l ≡ true → l.edge ≡ e → t ≡ after_set_edge r e (rerouted v s l l.routing)
    → CanConfigureFrom r v s e → CanConfigureFrom t v s (suc e)
set_can r v s e l t at here number is can =
    let q = rerouted v s l l.routing in
    let later = (subst (CanSetEdges r) (listed r v s e l at here) can.edges).1 in
    let there : CanSetEdges (after_set_edge r e q) (links_from r v s (suc e)) = subst (λ k. CanSetEdges (after_set_edge r k q) (links_from r v s (suc e))) number later in
    subst (λ u. CanConfigureFrom u v s (suc e)) (sym is) (record {
      some = can.some;
      based = can.based;
      parts = subst (AllByRecursion (FitsParts v s)) (sym (drop_routed r.links e q)) (subst (AllByRecursion (FitsParts v s)) (drop_at r.links e l at) can.parts).1;
      edges = subst (CanSetEdges (after_set_edge r e q)) (sym (same_later r v s e q)) there;
    })

pub ends : (r : RouterState) (v : ℕ) (s : Config) (n : ℕ) → length r.links ≡ n → after_set_edges r (links_from r v s n) ≡ r
ends r v s n long = ap (λ ls. after_set_edges r (picked v s ls)) (drop_all r.links n long)
