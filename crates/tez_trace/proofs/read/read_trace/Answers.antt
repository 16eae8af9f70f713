use Rattle.tez_trace.proofs.Lines.{whole, at_line}
use Rattle.tez_trace.proofs.read.read_trace.Goals as goal

pub returns-clause-whole : goal.returns-clause-whole
returns-clause-whole c = whole c.args.bytes.now c.read_lines.result c.read_lines.ensures.text c.read_lines.ensures.refused

pub returns-clause-line : goal.returns-clause-line
returns-clause-line c = at_line c.args.bytes.now c.read_lines.result c.read_lines.ensures.text c.read_lines.ensures.refused
