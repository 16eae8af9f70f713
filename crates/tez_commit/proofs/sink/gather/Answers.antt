use Rattle.std.proofs.Common.{◌∙◌, inl, inr, arith}
use Rattle.tez_commit.proofs.Merging.{AreStaged_more, records_more, not_staged_at, same_fault}
use Rattle.tez_commit.proofs.sink.gather.Goals as goal

pub returns-in-Err-clause-sure : goal.returns-in-Err-clause-sure
returns-in-Err-clause-sure g c sure = elim (c.in-Err.ensures.sure (c.loop-winner.invariant.sure sure)) [
  | inl memory ↦ inl (same_fault _ _ memory)
  | inr none ↦ inr (λ s told. not_staged_at s.staged c.args.winners.now c.loop-winner.winner-index _ (omega arith) (none s (c.loop-winner.invariant.same ∙ told)))
]

pub returns-in-Err-clause-faultless : goal.returns-in-Err-clause-faultless
returns-in-Err-clause-faultless g c faultless failed = λ s told all.
    not_staged_at s.staged c.args.winners.now c.loop-winner.winner-index _ (omega arith)
    (c.in-Err.ensures.faultless (c.loop-winner.invariant.faultless faultless) (same_fault _ _ failed) s (c.loop-winner.invariant.same ∙ told)) all

pub loop-winner-preserved : goal.loop-winner-preserved
loop-winner-preserved g c = record {
  same = c.load_onto.ensures.same ∙ c.loop-winner.invariant.same;
  faults = elim (c.in-Ok.ensures.cause.steady) [ inl is ↦ cc | inr still ↦ still ∙ c.loop-winner.invariant.faults ];
  stops = elim (c.in-Ok.ensures.cause.steady_stops) [ inl is ↦ cc | inr still ↦ still ∙ c.loop-winner.invariant.stops ];
  lent = c.load_onto.ensures.lent ∙ c.loop-winner.invariant.lent;
  faultless = λ f. c.load_onto.ensures.stays_faultless (c.loop-winner.invariant.faultless f);
  sure = λ s. c.load_onto.ensures.stays_sure (c.loop-winner.invariant.sure s);
  staged = λ s told. AreStaged_more s.staged c.args.winners.now c.loop-winner.winner-index _ (omega arith) (c.in-Ok.ensures.staged s (c.loop-winner.invariant.same ∙ told)) (c.loop-winner.invariant.staged s told);
  records = λ s told. records_more s.staged c.args.winners.now c.loop-winner.winner-index _ _ _ (omega arith) (c.loop-winner.invariant.records s told) (c.in-Ok.ensures.added s (c.loop-winner.invariant.same ∙ told));
}
