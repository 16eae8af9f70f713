use Rattle.std.proofs.Common.{is_ok, ◌++◌, ◌∷◌}
use Rattle.tez_record.proofs.BlockLemmas.{pushed}
use Rattle.tez_record.proofs.FieldLemmas.{joined_is_record}
use Rattle.tez_record.proofs.records.Records.push_joined.Goals as goal

pub invariant_of-self : goal.invariant_of-self
invariant_of-self c =
    (pushed (is_ok c.push_fields_line.result) c.self.inside.bytes.items (c.args.left.now ++ 9 ∷ c.args.right.now) c.push_fields_line.new.text.items c.self.invariant
    (joined_is_record c.args.left.now c.args.right.now c.requires.left c.requires.right) c.push_fields_line.ensures).0

pub returns : goal.returns
returns c = rw (← c.self.view_is)
    ((pushed (is_ok c.push_fields_line.result) c.self.inside.bytes.items (c.args.left.now ++ 9 ∷ c.args.right.now) c.push_fields_line.new.text.items c.self.invariant
    (joined_is_record c.args.left.now c.args.right.now c.requires.left c.requires.right) c.push_fields_line.ensures).1)
