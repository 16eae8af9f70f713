use Rattle.std.proofs.Common.{◌≡◌, ◌++◌, [], ◌∷◌, length, take, drop, set, get_or, sym, ap, ◌∙◌, subst}
use Rattle.tez_lists.proofs.Tables.{whole}
use Rattle.tez_record.specs.Line.{lines}
use Rattle.tez_record.proofs.BlockLemmas.{first_is_record}
use Rattle.tez_partition.specs.Partition.{partition}
use Rattle.tez_partition.proofs.DealLemmas.{AreDealt, dealt_one, dealt_all}
use Rattle.tez_partition.proofs.dealt.Goals as goal

pub deal-requires-clause-is_record : goal.deal-requires-clause-is_record
deal-requires-clause-is_record c = first_is_record c.loop-line.line-iterator.rest.now _ _ c.in-Some.ensures.steps

pub loop-line-preserved : goal.loop-line-preserved
loop-line-preserved c =
    let old = c.loop-line.made.items in
    let new = c.deal.new.made in
    let r = c.in-Some.line.now in
    let lent : c.deref_mut.result.now ≡ old = c.deref_mut.ensures.value in
    let is : new ≡ set old (partition c.args.cols.now c.args.parts r) (get_or old (partition c.args.cols.now c.args.parts r) [] ++ r ∷ []) =
    c.in_ok-deal.ensures ∙ ap (λ ps. set ps (partition c.args.cols.now (length ps) r) (get_or ps (partition c.args.cols.now (length ps) r) [] ++ r ∷ [])) lent
    ∙ ap (λ n. set old (partition c.args.cols.now n r) (get_or old (partition c.args.cols.now n r) [] ++ r ∷ [])) c.loop-line.invariant.size in
    let size : length new ≡ c.loop-line.made.len = c.deal.auto.made ∙ c.deref_mut.ensures.len in
    let back : take c.loop-line.made.len (new ++ drop (length new) old) ≡ new = whole c.loop-line.made.len new old size in
    record {
      size = ap length back ∙ c.deal.auto.made ∙ ap length lent ∙ c.loop-line.invariant.size;
      dealt = subst (λ ps. AreDealt c.args.cols.now c.args.parts ps (lines c.next.new.self.rest.now) c.args.rs.now) (sym back)
          (dealt_one c.args.cols.now c.args.parts old new (lines c.loop-line.line-iterator.rest.now) (lines c.next.new.self.rest.now) c.args.rs.now r c.requires c.loop-line.invariant.size c.in-Some.ensures.steps is c.loop-line.invariant.dealt);
    }

pub returns : goal.returns
returns c = dealt_all c.args.cols.now c.args.parts c.loop-line.made.items (lines c.loop-line.line-iterator.rest.now) c.args.rs.now c.loop-line.invariant.size c.in-None.ensures.steps.0 c.loop-line.invariant.dealt
