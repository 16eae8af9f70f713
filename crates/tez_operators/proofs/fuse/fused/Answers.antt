use Rattle.std.proofs.Common.{◌∙◌, ◌++◌, flat_map, sym, ap}
use Rattle.tez_lists.proofs.Flat.{append-nil}
use Rattle.tez_record.proofs.BlockLemmas.{first_is_record}
use Rattle.tez_operators.specs.Fuse.{made_of}
use Rattle.tez_operators.proofs.FuseLemmas.{run_each}
use Rattle.tez_operators.proofs.fuse.fused.Goals as goal

pub push_made-requires : goal.push_made-requires
push_made-requires c = first_is_record c.loop-line.line-iterator.rest.now _ _ c.in-Some.ensures.steps

pub returns : goal.returns
returns c =
    sym (append-nil c.loop-line.made) ∙ sym (ap (λ xs. c.loop-line.made ++ flat_map (made_of c.args.steps.now) xs) c.in-None.ensures.steps.0) ∙ c.loop-line.invariant ∙ run_each c.args.steps.now c.args.rows.now
