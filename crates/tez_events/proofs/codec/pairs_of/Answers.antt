use Rattle.std.proofs.Common.{arith}
use Rattle.std.proofs.lemmas.Grind.{common_steps}
use Rattle.std.proofs.lemmas.List.Elements.{All-append}
use Rattle.tez_events.specs.Body.{FitsPair}
use Rattle.tez_events.proofs.Pairs.{read_more, all_one}
use Rattle.tez_events.proofs.codec.pairs_of.Goals as goal

pub loop-i-preserved : goal.loop-i-preserved
loop-i-preserved c = rw c.in_ok-push.ensures.items record {
  len = grind (arith, common_steps);
  fits = All-append FitsPair _ _ c.loop-i.invariant.fits (all_one FitsPair _ c.pair_at.ensures.fits);
  bytes = read_more _ _ _ _ c.loop-i.invariant.bytes c.pair_at.ensures.bytes;
}
