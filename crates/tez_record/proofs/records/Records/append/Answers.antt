use Rattle.std.proofs.Common.{is_ok, ap, ◌∙◌, if◌then◌else◌, ◌++◌}
use Rattle.tez_record.proofs.BlockLemmas.{appended}
use Rattle.tez_record.proofs.records.Records.append.Goals as goal

pub invariant_of-self : goal.invariant_of-self
invariant_of-self c = (appended (is_ok c.extend_from_slice.result) c.self.inside.bytes.items c.extend_from_slice.new.self.items c.other.inside.bytes.items c.args.self.now c.args.other.now c.self.invariant c.other.invariant c.self.view_is c.other.view_is (c.extend_from_slice.ensures.items ∙ ap (λ xs. if is_ok c.extend_from_slice.result then c.self.inside.bytes.items ++ xs else c.self.inside.bytes.items) c.as_slice.ensures.value)).0

pub returns : goal.returns
returns c = (appended (is_ok c.extend_from_slice.result) c.self.inside.bytes.items c.extend_from_slice.new.self.items c.other.inside.bytes.items c.args.self.now c.args.other.now c.self.invariant c.other.invariant c.self.view_is c.other.view_is (c.extend_from_slice.ensures.items ∙ ap (λ xs. if is_ok c.extend_from_slice.result then c.self.inside.bytes.items ++ xs else c.self.inside.bytes.items) c.as_slice.ensures.value)).1
