-- A vertex gets its tasks: the edges at it get managers of its tasks, one after another.
--     is_at v l                 the edge leads from or to the vertex
--     reroute v s l             an edge at vertex v, with a manager of its tasks and base s
--     links_for r v s           the edges at the vertex, each with that manager
--     links_from r v s e        those of number e and above
--     after_set_edges s ls      these edges have got these managers, one after another
--     CanSetEdges s ls          each may get its manager when its turn comes
--     FitsParts v s l           no task takes more partitions than there are, and there are not too many inputs
--     CanConfigure r v s        the vertex can have these tasks and this base
--     CanConfigureFrom r v s e  the same of the edges of number e and above
--     may_configure r v s       a test of this
use Rattle.std.specs.Prelude.{◌≡◌, ℕ, ◌*◌, ◌≤◌, ◌<◌, ◌^◌, nat_lt, nat_le, Bool, true, not, ◌&&◌, ◌||◌, ◌==◌, if◌then◌else◌, ⊤, IsTrue, List, [], ◌∷◌, map, drop}
use Rattle.std.specs.List.{filter, list_all, AllByRecursion}
use Rattle.tez_vman.specs.declared.seen.Config.{Config}
use Rattle.tez_router.specs.State.{RouterState, LinkState, Routing, OneToOne, Broadcast, ScatterGather}
use Rattle.tez_router.specs.Table.{after_set_edge, can_set_edge}

abbrev pub after_set_edges : RouterState → List LinkState → RouterState
after_set_edges s [] = s
after_set_edges s (l ∷ ls) = after_set_edges (after_set_edge s l.edge l.routing) ls

abbrev pub CanSetEdges : RouterState → List LinkState → Type 0
CanSetEdges s [] = ⊤
CanSetEdges s (l ∷ ls) = IsTrue (can_set_edge s l.edge l.routing) × CanSetEdges (after_set_edge s l.edge l.routing) ls

abbrev pub is_at : ℕ → LinkState → Bool
is_at v l = (l.source == v) || (l.target == v)

-- an edge at the vertex gets a manager of its tasks
abbrev pub rerouted : ℕ → Config → LinkState → Routing → Routing
rerouted v s l (OneToOne tasks) = OneToOne (if l.source == v then s.tasks else tasks)
rerouted v s l (Broadcast sources consumers) = Broadcast (if l.source == v then s.tasks else sources) (if l.target == v then s.tasks else consumers)
rerouted v s l (ScatterGather sources parts base) = ScatterGather (if l.source == v then s.tasks else sources) parts (if l.target == v then s.base else base)

abbrev pub reroute : ℕ → Config → LinkState → LinkState
reroute v s l = record l { routing = rerouted v s l l.routing }

abbrev pub links_for : RouterState → ℕ → Config → List LinkState
links_for r v s = map (reroute v s) (filter (is_at v) r.links)

abbrev pub links_from : RouterState → ℕ → Config → ℕ → List LinkState
links_from r v s e = map (reroute v s) (filter (is_at v) (drop e r.links))

-- ---- what the managers ask

abbrev pub FitsRouting : ℕ → Config → LinkState → Routing → Type 0
FitsRouting v s l (OneToOne tasks) = ⊤
FitsRouting v s l (Broadcast sources consumers) = ⊤
FitsRouting v s l (ScatterGather sources parts base) = ((l.source == v) ≡ true → s.tasks * parts < 2 ^ 32) × ((l.target == v) ≡ true → s.base ≤ parts)

abbrev pub FitsParts : ℕ → Config → LinkState → Type 0
FitsParts v s l = FitsRouting v s l l.routing

pub record CanConfigure (r : RouterState) (v : ℕ) (s : Config) : Type 0 where
  pub some : 1 ≤ s.tasks
  pub based : 1 ≤ s.base
  pub parts : AllByRecursion (FitsParts v s) r.links
  pub edges : CanSetEdges r (links_for r v s)

pub record CanConfigureFrom (r : RouterState) (v : ℕ) (s : Config) (e : ℕ) : Type 0 where
  pub some : 1 ≤ s.tasks
  pub based : 1 ≤ s.base
  pub parts : AllByRecursion (FitsParts v s) (drop e r.links)
  pub edges : CanSetEdges r (links_from r v s e)

-- ---- the test

abbrev pub fits_routing : ℕ → Config → LinkState → Routing → Bool
fits_routing v s l (OneToOne tasks) = true
fits_routing v s l (Broadcast sources consumers) = true
fits_routing v s l (ScatterGather sources parts base) = (not (l.source == v) || nat_lt (s.tasks * parts) (2 ^ 32)) && (not (l.target == v) || nat_le s.base parts)

abbrev pub fits_parts : ℕ → Config → LinkState → Bool
fits_parts v s l = fits_routing v s l l.routing

abbrev pub has_numbers : Config → Bool
has_numbers s = nat_le 1 s.tasks && nat_le 1 s.base

-- an edge that is at the vertex may get its manager
abbrev pub may_reroute : RouterState → ℕ → Config → LinkState → Bool
may_reroute r v s l = has_numbers s && (fits_parts v s l && (not (is_at v l) || can_set_edge r l.edge (rerouted v s l l.routing)))

abbrev pub may_configure : RouterState → ℕ → Config → Bool
may_configure r v s = has_numbers s && list_all (may_reroute r v s) r.links
