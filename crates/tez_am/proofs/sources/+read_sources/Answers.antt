use Rattle.std.proofs.Common.{◌≡◌, ◌∙◌, ◌-◌, true, false, arith, length}
use Rattle.tez_plan.proofs.Results.{if_ok, if_err}
use Rattle.tez_am.specs.Accept.{IsContent}
use Rattle.tez_am.specs.Sources.{contents_after}
use Rattle.tez_am.proofs.Accepting.{later_refusal, refusal_from}
use Rattle.tez_am.proofs.SourceLemmas.{named_from, pass_contents, skip_contents, skip_names, step_names, step_read, step_refused}
use Rattle.tez_am.proofs.sources.+read_sources.Goals as goal

pub returns-in_default-source-clause-refusal : goal.returns-in_default-source-clause-refusal
returns-in_default-source-clause-refusal g t c =
    let src = c.args.sources.items in
    if_err _ _ c.read_sources.result
    (λ s h. refusal_from (λ m a. contents_after m c.args.left src c.in-Some.rest.now ≡ a) (λ m a. contents_after m c.args.left src c.args.vertices.now ≡ a) _ s
    (λ m r is. pass_contents m c.args.left src _ c.in-Some.vertex.now c.in-Some.rest.now c.in-Some.ensures.cases.0 c.in_default-source.is ∙ is) h)
    c.read_sources.ensures.refusal

pub returns-then-is_read-clause-names : goal.returns-then-is_read-clause-names
returns-then-is_read-clause-names g t c =
    let src = c.args.sources.items in
    let there = named_from c.in-Some-source.name _ src _ _ true c.is_read.ensures c.deref.ensures.value c.as_str.ensures c.if-is_read.true in
    if_ok _ _ c.read_sources-then-is_read.result
    (λ read h. h ∙ skip_names src _ c.in-Some.vertex.now c.in-Some-source.name c.in-Some.rest.now c.in-Some.ensures.cases.0 c.in-Some-source.is there)
    c.read_sources-then-is_read.ensures.names

pub returns-then-is_read-clause-read : goal.returns-then-is_read-clause-read
returns-then-is_read-clause-read g t c =
    let src = c.args.sources.items in
    let there = named_from c.in-Some-source.name _ src _ _ true c.is_read.ensures c.deref.ensures.value c.as_str.ensures c.if-is_read.true in
    if_ok _ _ c.read_sources-then-is_read.result
    (λ read h m told. skip_contents m c.args.left src _ c.in-Some.vertex.now c.in-Some-source.name c.in-Some.rest.now c.in-Some.ensures.cases.0 c.in-Some-source.is there ∙ h m told)
    c.read_sources-then-is_read.ensures.read

pub returns-then-is_read-clause-refusal : goal.returns-then-is_read-clause-refusal
returns-then-is_read-clause-refusal g t c =
    let src = c.args.sources.items in
    let there = named_from c.in-Some-source.name _ src _ _ true c.is_read.ensures c.deref.ensures.value c.as_str.ensures c.if-is_read.true in
    if_err _ _ c.read_sources-then-is_read.result
    (λ s h. refusal_from (λ m a. contents_after m c.args.left src c.in-Some.rest.now ≡ a) (λ m a. contents_after m c.args.left src c.args.vertices.now ≡ a) _ s
    (λ m r is. skip_contents m c.args.left src _ c.in-Some.vertex.now c.in-Some-source.name c.in-Some.rest.now c.in-Some.ensures.cases.0 c.in-Some-source.is there ∙ is) h)
    c.read_sources-then-is_read.ensures.refusal

pub returns-in-Err-clause-refusal : goal.returns-in-Err-clause-refusal
returns-in-Err-clause-refusal g t c =
    let src = c.args.sources.items in
    let new = named_from c.in-Some-source.name _ src _ _ false c.is_read.ensures c.deref.ensures.value c.as_str.ensures c.if-is_read.false in
    refusal_from (IsContent c.as_str-2.result.now c.args.left) (λ m a. contents_after m c.args.left src c.args.vertices.now ≡ a) _ c.in-Err.refusal
    (λ m r is. step_refused m c.args.left src _ c.in-Some.vertex.now c.in-Some-source.name c.as_str-2.result.now c.in-Some.rest.now r c.in-Some.ensures.cases.0 c.in-Some-source.is new c.as_str-2.ensures is)
    c.in-Err.ensures.refusal

pub overflow_sub-left : goal.overflow_sub-left
overflow_sub-left g t c = omega (arith, c.in-Ok.ensures.fits, c.len.ensures)

pub returns-in-Ok-add-clause-names : goal.returns-in-Ok-add-clause-names
returns-in-Ok-add-clause-names g t c =
    let src = c.args.sources.items in
    let new = named_from c.in-Some-source.name _ src _ _ false c.is_read.ensures c.deref.ensures.value c.as_str.ensures c.if-is_read.false in
    if_ok _ _ c.read_sources-in-Ok-add.result
    (λ read h. h ∙ step_names src _ _ c.in-Some.vertex.now c.in-Some-source.name c.in-Ok.bytes.items c.in-Some.rest.now c.in-Some.ensures.cases.0 c.in-Some-source.is new c.in-Ok-add.ensures)
    c.read_sources-in-Ok-add.ensures.names

pub returns-in-Ok-add-clause-read : goal.returns-in-Ok-add-clause-read
returns-in-Ok-add-clause-read g t c =
    let src = c.args.sources.items in
    let new = named_from c.in-Some-source.name _ src _ _ false c.is_read.ensures c.deref.ensures.value c.as_str.ensures c.if-is_read.false in
    let counted : c.len.result ≡ length c.in-Ok.bytes.items = omega (arith, c.len.ensures) in
    if_ok _ _ c.read_sources-in-Ok-add.result
    (λ read h m told. step_read m c.args.left c.len.result src _ _ c.in-Some.vertex.now c.in-Some-source.name c.as_str-2.result.now c.in-Ok.bytes.items c.in-Some.rest.now c.in-Some.ensures.cases.0 c.in-Some-source.is new c.as_str-2.ensures
    (c.in-Ok.ensures.bytes m told) counted c.in-Ok-add.ensures ∙ h m (c.input.ensures.same ∙ told))
    c.read_sources-in-Ok-add.ensures.read

pub returns-in-Ok-add-clause-refusal : goal.returns-in-Ok-add-clause-refusal
returns-in-Ok-add-clause-refusal g t c =
    let src = c.args.sources.items in
    let new = named_from c.in-Some-source.name _ src _ _ false c.is_read.ensures c.deref.ensures.value c.as_str.ensures c.if-is_read.false in
    let counted : c.len.result ≡ length c.in-Ok.bytes.items = omega (arith, c.len.ensures) in
    if_err _ _ c.read_sources-in-Ok-add.result
    (λ s h. later_refusal (λ m a. contents_after m (c.args.left - c.len.result) c.add.new.sources.items c.in-Some.rest.now ≡ a) (λ m a. contents_after m c.args.left src c.args.vertices.now ≡ a) _ _ _ _ _ _ c.input.ensures.same c.input.ensures.later
    (λ m told r is. step_read m c.args.left c.len.result src _ _ c.in-Some.vertex.now c.in-Some-source.name c.as_str-2.result.now c.in-Ok.bytes.items c.in-Some.rest.now c.in-Some.ensures.cases.0 c.in-Some-source.is new c.as_str-2.ensures
    (c.in-Ok.ensures.bytes m told) counted c.in-Ok-add.ensures ∙ is) s h)
    c.read_sources-in-Ok-add.ensures.refusal
