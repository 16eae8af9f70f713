use Rattle.std.proofs.Common.{◌≡◌, ◌∙◌, ◌&&◌, ℕ, true, false, not, cond, map, sym, ap, bytes_eq}
use Rattle.std.specs.List.{list_any}
use borrow.Author.Count.{below_more}
use Rattle.tez_plan.specs.Graph.{unknown_among}
use Rattle.tez_plan.proofs.NameLemmas.{ends_more, both_known, nowhere_past}
use Rattle.tez_plan.proofs.graph.connect.Goals as goal

pub loop-e-preserved : goal.loop-e-preserved
loop-e-preserved c =
    let names = map (λ k. k.now) c.args.names.now.keys in
    let pushed = rw (c.is_err.ensures.negation, c.if-is_err.false) at c.push.ensures.items in
    record {
      ends = ends_more names c.args.edges.now c.loop-e.e c.index-edges-e.result _ _ _ _ _ _ c.loop-e-test.true c.index-edges-e.is c.as_str.ensures c.as_str-in-loop-e.ensures c.in-Some-Some.is-0 c.in-Some-Some.is-1
          _ _ c.loop-e.invariant.ends c.vertex_named-source.ensures.place c.vertex_named-target.ensures.place pushed;
      known = below_more (λ m. unknown_among names c.args.edges.now m ≡ false) c.loop-e.e c.loop-e.invariant.known
          (both_known names c.args.edges.now c.loop-e.e c.index-edges-e.result _ _ _ _ _ _ c.loop-e-test.true c.index-edges-e.is c.as_str.ensures c.as_str-in-loop-e.ensures c.in-Some-Some.is-0 c.in-Some-Some.is-1
          c.vertex_named-source.ensures.found c.vertex_named-target.ensures.found);
    }

pub returns-clause-known : goal.returns-clause-known
returns-clause-known c = let names = map (λ k. k.now) c.args.names.now.keys in
    nowhere_past (λ n e. not (list_any (bytes_eq e.source) names && list_any (bytes_eq e.target) names)) c.args.edges.now c.loop-e.e c.loop-e-test.false c.loop-e.invariant.known
