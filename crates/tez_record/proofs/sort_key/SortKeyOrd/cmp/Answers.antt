use Rattle.std.proofs.Common.{◌≡◌, ◌∙◌, arith}
use Rattle.tez_record.proofs.FrontLemmas.{key_less, key_greater, key_short}
use Rattle.tez_record.proofs.sort_key.SortKeyOrd.cmp.Goals as goal

pub returns-then-self-other : goal.returns-then-self-other
returns-then-self-other c = rw (← c.self.view_is, ← c.other.view_is) (key_less c.self.inside.first c.other.inside.first c.self.inside.bytes.now c.other.inside.bytes.now c.self.invariant c.other.invariant c.if-self-other.true)

pub returns-then-self-other-2 : goal.returns-then-self-other-2
returns-then-self-other-2 c = rw (← c.self.view_is, ← c.other.view_is) (key_greater c.self.inside.first c.other.inside.first c.self.inside.bytes.now c.other.inside.bytes.now c.self.invariant c.other.invariant c.if-self-other-2.true)

pub returns-then-other-le16 : goal.returns-then-other-le16
returns-then-other-le16 c =
    let lower = c.if-self-other.false in
    let upper = c.if-self-other-2.false in
    let e : c.self.inside.first ≡ c.other.inside.first = omega arith in
    rw (← c.self.view_is, ← c.other.view_is) (c.cmp.ensures ∙ key_short c.self.inside.first c.other.inside.first c.self.inside.bytes.now c.other.inside.bytes.now c.self.invariant c.other.invariant e c.if-self-le16.true c.if-other-le16.true)
