-- The consumers of what goes out over an edge.
--     consumed       over each edge each output is an input of one consumer, or of each
use Rattle.std.specs.Prelude.{◌≡◌, ◌<◌, ◌==◌, ◌&&◌, ℕ, true, Option, Some, None, unwrap_or, refl}
use Rattle.std.proofs.Common.{arith}
use Rattle.std.proofs.lemmas.Bool.{eq-eqb}
use Rattle.tez_lists.specs.Numbers.{In}
use Rattle.tez_lists.proofs.Members.{in_filter}
use Rattle.tez_plan.specs.declared.parts.EdgeSpec.{EdgeSpec}
use Rattle.tez_plan.specs.declared.parts.Movement.{Movement}
use Rattle.tez_plan.specs.declared.parts.Movement.TheVariants.{OneToOne, Broadcast, ScatterGather}
use Rattle.tez_plan.specs.Dag.{Dag, from, to, is_scatter_gather, goes_by_key, edges_into, tasks_of as planned}
use Rattle.tez_tables.proofs.TableLemmas.{one_to_one_law, broadcast_law, scatter_gather_law}
use Rattle.tez_vman.specs.declared.seen.Config.{Config}
use Rattle.tez_vman.specs.Rules.{config as shape}
use Rattle.tez_shares.specs.Shares.{has_edge_from}
use Rattle.tez_history.specs.History.{Past, config}
use Rattle.tez_history.specs.Derived.{task_count, shape_of, table_by}
use Rattle.tez_progress.proofs.Members.{any_true, true_and}
use Rattle.tez_contents.specs.Laws.{IsAllowedNow}
use Rattle.tez_world.specs.Lawful.{IsConsumed, AreConsumed}

by_movement : (m : Movement) (sources consumers parts base : ℕ) → (goes_by_key m ≡ true → 0 < base) → IsConsumed m (table_by m sources consumers parts base)
by_movement OneToOne sources consumers parts base some = one_to_one_law sources
by_movement Broadcast sources consumers parts base some = broadcast_law sources consumers
by_movement (ScatterGather keys) sources consumers parts base some = scatter_gather_law sources parts base (some refl)

-- each task of a vertex that gathers takes some partition
some_base : (g : Dag) (past : Past) → IsAllowedNow g past → (e : EdgeSpec) → In e g.edges → is_scatter_gather e ≡ true → (o : Option Config) → config (to g e) past ≡ o → 0 < (unwrap_or o (shape (planned g (to g e)) 1)).base
some_base g past now e i by_key None is = omega arith
some_base g past now e i by_key (Some s) is =
    let into : In e (edges_into g (to g e)) = in_filter (λ d. to g d == to g e) e g.edges i (eq-eqb (to g e) (to g e) refl) in
    let leads : has_edge_from is_scatter_gather g (from g e) (to g e) ≡ true = any_true (λ d. is_scatter_gather d && (from g d == from g e)) e (edges_into g (to g e)) into (true_and by_key (eq-eqb (from g e) (from g e) refl)) in
    let least = (now.shuffle (to g e) (from g e) s is leads).0 in
    omega (arith, least)

pub consumed : (g : Dag) (past : Past) → IsAllowedNow g past → AreConsumed g past
consumed g past now e i =
    by_movement e.movement (task_count g (from g e) past) (task_count g (to g e) past) (planned g (to g e)) (shape_of g (to g e) past).base
    (λ by_key. some_base g past now e i by_key (config (to g e) past) refl)
