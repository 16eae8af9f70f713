use Rattle.std.proofs.Common.{is_ok}
use Rattle.tez_record.specs.Field.{key}
use Rattle.tez_record.proofs.FieldLemmas.{key_is_record}
use Rattle.tez_operators.proofs.RowLemmas.{set_is_record}
use Rattle.tez_operators.proofs.group_key.GroupKey.set.Goals as goal

pub invariant_of-self : goal.invariant_of-self
invariant_of-self c =
    set_is_record (is_ok c.push_key.result) c.clear.new.self.items c.push_key.new.buffer.items (key c.args.cols.now c.args.line.now) c.clear.ensures.items (key_is_record c.args.line.now c.args.cols.now c.requires) c.push_key.ensures
