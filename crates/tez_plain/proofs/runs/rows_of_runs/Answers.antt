use Rattle.std.proofs.Common.{ltb-true, ap, arith, sym, ◌++◌, ◌-◌, length, drop, take}
use Rattle.std.proofs.lemmas.List.{take_rest}
use Rattle.tez_plain.specs.Runs.{rows_of}
use Rattle.tez_plain.proofs.OrderLemmas.{order_from}
use Rattle.tez_plain.proofs.RowLemmas.{at_place, run_step, run_few, run_more}
use Rattle.tez_plain.proofs.runs.rows_of_runs.Goals as goal

pub loop-first-init : goal.loop-first-init
loop-first-init c = record {
  walk = record { made = ap (λ xs. xs ++ rows_of c.args.says c.args.entries.now) c.new-rows.ensures; order = order_from c.args.entries.now c.requires };
  few = omega arith;
}

pub loop-first-preserved : goal.loop-first-preserved
loop-first-preserved c =
    let says = c.args.says in
    let es = c.args.entries.now in
    let start = c.loop-first.start in
    let all = rows_of says es in
    record {
      walk = run_step says all c.loop-first.rows c.push_run.new.rows es (take (length es - start) (drop start es)) start c.in_ok-len.len c.in-Some.first.now _ (at_place es start c.in-Some.first.now (ltb-true start (length es) (sym c.in-Some.ensures.lookup.0)) c.in-Some.ensures.lookup.1) c.as_slice-key.ensures.value (take_rest es start) c.in_ok-len.ensures c.loop-first.invariant.walk;
      few = run_few says all c.loop-first.rows c.push_run.new.rows es (take (length es - start) (drop start es)) start c.in_ok-len.len c.in-Some.first.now _ (at_place es start c.in-Some.first.now (ltb-true start (length es) (sym c.in-Some.ensures.lookup.0)) c.in-Some.ensures.lookup.1) c.as_slice-key.ensures.value (take_rest es start) c.in_ok-len.ensures c.loop-first.invariant.walk c.loop-first.invariant.few;
    }

pub loop-first-smaller : goal.loop-first-smaller
loop-first-smaller c =
    let says = c.args.says in
    let es = c.args.entries.now in
    let start = c.loop-first.start in
    let all = rows_of says es in
    let rest = take (length es - start) (drop start es) in
    let some = run_more says all c.loop-first.rows c.push_run.new.rows es rest start c.in_ok-len.len c.in-Some.first.now _ (at_place es start c.in-Some.first.now (ltb-true start (length es) (sym c.in-Some.ensures.lookup.0)) c.in-Some.ensures.lookup.1) c.as_slice-key.ensures.value (take_rest es start) c.in_ok-len.ensures c.loop-first.invariant.walk in
    let few = run_few says all c.loop-first.rows c.push_run.new.rows es rest start c.in_ok-len.len c.in-Some.first.now _ (at_place es start c.in-Some.first.now (ltb-true start (length es) (sym c.in-Some.ensures.lookup.0)) c.in-Some.ensures.lookup.1) c.as_slice-key.ensures.value (take_rest es start) c.in_ok-len.ensures c.loop-first.invariant.walk c.loop-first.invariant.few in
    omega (arith, some, few)
