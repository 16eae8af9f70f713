use Rattle.std.proofs.Common.{◌∙◌, ◌≡◌, ◌++◌, ap}
use Rattle.tez_record.proofs.FieldLemmas.{first_pushed, next_pushed}
use Rattle.tez_record.proofs.fields.push_fields.Goals as goal
use Rattle.tez_record.proofs.fields.push_fields.Goals.{then-n-gt0+in_ok-push, else-n-gt0}

pub loop-n-preserved : goal.loop-n-preserved
loop-n-preserved c =
    let new = c.extend_from_slice.new.self.items in
    let f = c.field.result.now in
    let pushed : new ≡ c.if-n-gt0.buffer.items ++ f = c.in_ok-extend_from_slice.ensures.items in
    elim c.if-n-gt0.branch [
      | then-n-gt0+in_ok-push w ↦ next_pushed c.args.buffer.now.items c.loop-n.buffer.items c.if-n-gt0.buffer.items new f c.args.r.now c.args.cols.now c.loop-n.n 0
          w.if-n-gt0.true c.loop-n-test.true c.loop-n.invariant (ap (λ v. v.items) w.buffer-is ∙ w.in_ok-push.ensures.items) c.field.ensures pushed
      | else-n-gt0 w ↦ first_pushed c.args.buffer.now.items c.loop-n.buffer.items new f c.args.r.now c.args.cols.now c.loop-n.n 0
          w.if-n-gt0.false c.loop-n-test.true c.loop-n.invariant c.field.ensures (pushed ∙ ap (λ v. v.items ++ f) w.buffer-is)
    ]
