-- Bytes that are refused at a line hold no text, and are refused at that line alone.
use Rattle.std.proofs.Common.{◌≡◌, ℕ, suc, ◌+◌, List, [], ◌∷◌, ◌++◌, codes, flat_map, length, refl, sym, ap, ◌∙◌, append_assoc}
use Rattle.std.specs.List.{AllByRecursion}
use Rattle.tez_events.specs.declared.Entry.{Entry}
use Rattle.tez_trace.specs.Text.{entry_line, with_end, trace_text_of}
use Rattle.tez_trace.specs.Reading.{FitsEntry, HasText, IsStuck, IsRefusedAt}
use Rattle.tez_trace.proofs.OneTrace.{line_without, first_part, not_end, text_step}

pub lines_step : (e : Entry) (es : List Entry) (rest : List ℕ) → flat_map with_end (e ∷ es) ++ rest ≡ entry_line e ++ 10 ∷ (flat_map with_end es ++ rest)
lines_step e es rest = append_assoc (with_end e) (flat_map with_end es) rest ∙ append_assoc (entry_line e) (10 ∷ []) (flat_map with_end es ++ rest)

never : (es read : List Entry) (rest more : List ℕ) → AllByRecursion FitsEntry es → AllByRecursion FitsEntry read → IsStuck rest
    → flat_map with_end read ++ rest ≡ trace_text_of es ++ more → ⊥
never [] [] rest more he hr stuck is = stuck.no_end (more, sym is)
never (e ∷ es) [] rest more he hr stuck is =
    stuck.no_entry e he.0 (trace_text_of es ++ more, append_assoc (entry_line e) (10 ∷ []) (trace_text_of es ++ more) ∙ sym (text_step e es more) ∙ sym is)
never [] (r ∷ read) rest more he hr stuck is =
    not_end r hr.0 (first_part 10 (entry_line r) (codes "end") (flat_map with_end read ++ rest) more (line_without r hr.0) refl (sym (lines_step r read rest) ∙ is)).0
never (e ∷ es) (r ∷ read) rest more he hr stuck is =
    let parts = first_part 10 (entry_line r) (entry_line e) (flat_map with_end read ++ rest) (trace_text_of es ++ more) (line_without r hr.0) (line_without e he.0)
    (sym (lines_step r read rest) ∙ is ∙ text_step e es more) in
    never es read rest more he.1 hr.1 stuck parts.1

pub refused_holds_none : (bytes : List ℕ) (n : ℕ) (es : List Entry) → IsRefusedAt bytes n → HasText bytes es → ⊥
refused_holds_none bytes n es r (he, (more, held)) = never es r.lines r.rest more he r.fit r.stuck (r.text ∙ sym held)

same_length : (xs ys : List Entry) (rest more : List ℕ) → AllByRecursion FitsEntry xs → AllByRecursion FitsEntry ys → IsStuck rest → IsStuck more
    → flat_map with_end xs ++ rest ≡ flat_map with_end ys ++ more → length xs ≡ length ys
same_length [] [] rest more hx hy s t is = refl
same_length (x ∷ xs) [] rest more hx hy s t is =
    absurd (t.no_entry x hx.0 (flat_map with_end xs ++ rest, append_assoc (entry_line x) (10 ∷ []) (flat_map with_end xs ++ rest) ∙ sym (lines_step x xs rest) ∙ is))
same_length [] (y ∷ ys) rest more hx hy s t is =
    absurd (s.no_entry y hy.0 (flat_map with_end ys ++ more, append_assoc (entry_line y) (10 ∷ []) (flat_map with_end ys ++ more) ∙ sym (lines_step y ys more) ∙ sym is))
same_length (x ∷ xs) (y ∷ ys) rest more hx hy s t is =
    let parts = first_part 10 (entry_line x) (entry_line y) (flat_map with_end xs ++ rest) (flat_map with_end ys ++ more) (line_without x hx.0) (line_without y hy.0)
    (sym (lines_step x xs rest) ∙ is ∙ lines_step y ys more) in
    ap suc (same_length xs ys rest more hx.1 hy.1 s t parts.1)

pub refused_once : (bytes : List ℕ) (n m : ℕ) → IsRefusedAt bytes n → IsRefusedAt bytes m → n ≡ m
refused_once bytes n m a b = a.line ∙ ap (λ k. k + 1) (same_length a.lines b.lines a.rest b.rest a.fit b.fit a.stuck b.stuck (a.text ∙ sym b.text)) ∙ sym b.line
