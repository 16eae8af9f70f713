use Rattle.std.proofs.Common.{◌≡◌, ◌∙◌, ◌<◌, length, drop, subst, sym}
use Rattle.tez_journal.specs.Text.{entries, IsText}
use Rattle.tez_journal.specs.Reading.{ReadsText}
use Rattle.tez_journal.proofs.OpenLemmas.{long_text, whole_read}
use Rattle.tez_journal.proofs.opening.read.Goals as goal

pub returns-in-Ok-Some-clause-records : goal.returns-in-Ok-Some-clause-records
returns-in-Ok-Some-clause-records g c = λ d told.
    let long = c.requires.size d told in
    let same : c.deref.result.now ≡ d.read =
    whole_read d.read c.read_at.new.into (drop (length c.read_at.new.into) c.in-Ok.bytes.items) c.deref.result.now (length c.deref_mut.result.now) c.in-Ok.bytes.len
    (c.in-Ok-read_at.ensures.ok d told) (c.deref_mut.ensures.len ∙ c.in-Ok.ensures.len ∙ long) c.deref.ensures.value (c.in-Ok.ensures.len ∙ long) in
    let t = c.in-Ok-Some.text in
    let reads : IsText c.deref.result.now t.records.items × (t.gate ≡ length (entries t.records.items)) = subst (ReadsText c.deref.result.now) c.in-Ok-Some.field-0-is c.in-Ok-Some.ensures in
    (long_text d.read t.records.items (subst (λ n. 1 < n) long c.requires.long) (subst (λ w. IsText w t.records.items) same reads.0), reads.1)

pub returns-in-Ok-None-clause-refused : goal.returns-in-Ok-None-clause-refused
returns-in-Ok-None-clause-refused g c = λ is d told rs text.
    let long = c.requires.size d told in
    let same : c.deref.result.now ≡ d.read =
    whole_read d.read c.read_at.new.into (drop (length c.read_at.new.into) c.in-Ok.bytes.items) c.deref.result.now (length c.deref_mut.result.now) c.in-Ok.bytes.len
    (c.in-Ok-read_at.ensures.ok d told) (c.deref_mut.ensures.len ∙ c.in-Ok.ensures.len ∙ long) c.deref.ensures.value (c.in-Ok.ensures.len ∙ long) in
    let reads = subst (ReadsText c.deref.result.now) c.in-Ok-None.field-0-is c.in-Ok-None.ensures in
    reads rs (subst (λ w. IsText w rs) (sym same) text)
