use Rattle.std.proofs.Common.{is_ok}
use Rattle.tez_record.proofs.BlockLemmas.{pushed}
use Rattle.tez_record.proofs.records.Records.push.Goals as goal

pub invariant_of-self : goal.invariant_of-self
invariant_of-self c = (pushed (is_ok c.push_line.result) c.self.inside.bytes.items c.args.line.now c.push_line.new.text.items c.self.invariant c.requires c.push_line.ensures).0

pub returns : goal.returns
returns c = rw (← c.self.view_is) ((pushed (is_ok c.push_line.result) c.self.inside.bytes.items c.args.line.now c.push_line.new.text.items c.self.invariant c.requires c.push_line.ensures).1)
