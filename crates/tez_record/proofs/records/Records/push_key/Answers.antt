use Rattle.std.proofs.Common.{is_ok}
use Rattle.tez_record.specs.Field.{key}
use Rattle.tez_record.proofs.BlockLemmas.{pushed}
use Rattle.tez_record.proofs.FieldLemmas.{key_is_record}
use Rattle.tez_record.proofs.records.Records.push_key.Goals as goal

pub invariant_of-self : goal.invariant_of-self
invariant_of-self c =
    (pushed (is_ok c.push_key_line.result) c.self.inside.bytes.items (key c.args.cols.now c.args.r.now) c.push_key_line.new.text.items c.self.invariant
    (key_is_record c.args.r.now c.args.cols.now c.requires) c.push_key_line.ensures).0

pub returns : goal.returns
returns c = rw (← c.self.view_is)
    ((pushed (is_ok c.push_key_line.result) c.self.inside.bytes.items (key c.args.cols.now c.args.r.now) c.push_key_line.new.text.items c.self.invariant
    (key_is_record c.args.r.now c.args.cols.now c.requires) c.push_key_line.ensures).1)
