use Rattle.tez_orders.proofs.SameLemmas.{same_texts}
use Rattle.tez_orders.proofs.same.same_records.Goals as goal

pub returns : goal.returns
returns c = same_texts c.text_of.result.now c.text_of-2.result.now c.args.a.now c.args.b.now c.eq.result c.eq.ensures c.text_of.ensures.text c.text_of-2.ensures.text c.text_of.ensures.lines c.text_of-2.ensures.lines
