use Rattle.std.proofs.Common.{arith, refl, ◌∷◌, length}
use Rattle.std.specs.Int.{w16, to_le_bytes}
use Rattle.tez_events.proofs.Pairs.{pairs_more, fits_more}
use Rattle.tez_events.proofs.codec.commit_bytes.Goals as goal

pub loop-pair-preserved : goal.loop-pair-preserved
loop-pair-preserved c = record {
  bytes = pairs_more c.args.sums.now (6 ∷ to_le_bytes w16 (length c.args.sums.now)) _ _ c.loop-pair.pair-index _ _ (omega arith) c.loop-pair.invariant.bytes refl c.in_ok-push_pair.ensures.bytes;
  fits = fits_more c.args.sums.now c.loop-pair.pair-index _ (omega arith) c.loop-pair.invariant.fits c.in_ok-push_pair.ensures.fits;
}
