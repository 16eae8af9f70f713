-- What a reader knows of the lines that it has read, and of one where it stops.
use Rattle.std.proofs.Common.{◌≡◌, ℕ, ◌+◌, ◌<◌, ◌==◌, true, false, List, [], ◌∷◌, ◌++◌, codes, length, take, drop, flat_map, refl, sym, ap, ◌∙◌, append_assoc, true≢false, Option, Some, None, is_some, IfOk, IsErrOf, MatchResult, inl, inr, ◌⊎◌}
use Rattle.std.specs.Prelude.{Result, Ok, Err, MatchOption, ◌≢◌}
use Rattle.std.specs.List.{list_any, AllByRecursion}
use Rattle.std.specs.Str.{bytes_eq}
use Rattle.std.proofs.lemmas.Bool.{or_parts}
use Rattle.std.proofs.lemmas.List.Folds.{list_any-append}
use Rattle.std.proofs.lemmas.Slice.Eq.{bytes_eq-Decides}
use Rattle.memchr.specs.Find.{is_byte, Nowhere, Passes}
use Rattle.tez_events.specs.declared.Entry.{Entry}
use Rattle.tez_events.specs.TraceState.{TraceState}
use Rattle.tez_trace.specs.declared.read.TraceFault.{TraceFault}
use Rattle.tez_trace.specs.declared.read.TraceFault.TheVariants.{Line, NoMemory}
use Rattle.tez_trace.specs.Text.{entry_line, with_end}
use Rattle.tez_trace.specs.Reading.{FitsEntry, HasText, IsStuck, IsRefusedAt}
use Rattle.tez_trace.specs.Said.{read_entry}
use Rattle.tez_trace.proofs.Numbers.{Without}
use Rattle.tez_trace.proofs.Back.{line_back}
use Rattle.tez_trace.proofs.OneTrace.{line_without, first_part, one_trace, got}
use Rattle.tez_trace.proofs.Refused.{refused_holds_none, refused_once}
use Rattle.tez_trace.proofs.Cuts.{without_none, without_before, parted}

-- ---- one line

-- a line of which nothing was read is that of no entry
pub nothing_said : (line : List ℕ) (found : Option Entry) → found ≡ read_entry line → found ≡ None → (e : Entry) → FitsEntry e → entry_line e ≡ line → ⊥
nothing_said line found said nothing e fits is =
    true≢false (ap is_some (sym (line_back e fits) ∙ ap read_entry is ∙ sym said ∙ nothing))

-- nor is one that differs from the line of what was read of it
pub otherwise_written : (line written : List ℕ) (found : Option Entry) (entry : Entry) → found ≡ read_entry line → found ≡ Some entry → written ≡ entry_line entry
    → bytes_eq written line ≡ false → (e : Entry) → FitsEntry e → entry_line e ≡ line → ⊥
otherwise_written line written found entry said some wrote differs e fits is =
    let same : entry ≡ e = ap got (sym some ∙ said ∙ sym (ap read_entry is) ∙ line_back e fits) in
    true≢false (sym ((bytes_eq-Decides written line).1 (wrote ∙ ap entry_line same ∙ is)) ∙ differs)

pub none_found : (line : List ℕ) (found : Option Entry) → MatchOption found ((e : Entry) → FitsEntry e → entry_line e ≢ line) (λ e. FitsEntry e × (entry_line e ≡ line))
    → found ≡ None → (e : Entry) → FitsEntry e → entry_line e ≡ line → ⊥
none_found line None h none = h
none_found line (Some e) h none = absurd (true≢false (ap is_some none))

-- ---- where lines end

pub no_line : (rest : List ℕ) → Without 10 rest → IsStuck rest
no_line rest h = record {
  no_end = λ b. true≢false (ap (list_any (λ x. x == 10)) b.1 ∙ h);
  no_entry = λ e fits b.
      true≢false (or_parts (list_any (λ x. x == 10) (entry_line e)) (list_any (λ x. x == 10) (10 ∷ b.0))
      (sym (list_any-append (λ x. x == 10) (entry_line e) (10 ∷ b.0)) ∙ ap (list_any (λ x. x == 10)) (sym (append_assoc (entry_line e) (10 ∷ []) b.0) ∙ b.1) ∙ h)).1;
}

pub bad_line : (line more : List ℕ) → Without 10 line → bytes_eq line (codes "end") ≡ false → ((e : Entry) → FitsEntry e → entry_line e ≡ line → ⊥) → IsStuck (line ++ 10 ∷ more)
bad_line line more h differs none = record {
  no_end = λ b. true≢false (ap (λ l. bytes_eq l (codes "end")) (first_part 10 (codes "end") line b.0 more refl h b.1).0 ∙ differs);
  no_entry = λ e fits b. none e fits (first_part 10 (entry_line e) line b.0 more (line_without e fits) h (sym (append_assoc (entry_line e) (10 ∷ []) b.0) ∙ b.1)).0;
}

pub no_more : (rest : List ℕ) → Nowhere (Passes (is_byte 10) rest) 0 (length rest) → IsStuck rest
no_more rest nowhere = no_line rest (without_none 10 rest nowhere)

pub stuck_at : (rest : List ℕ) (at : ℕ) → at < length rest → Nowhere (Passes (is_byte 10) rest) 0 at → Passes (is_byte 10) rest at → bytes_eq (take at rest) (codes "end") ≡ false
    → ((e : Entry) → FitsEntry e → entry_line e ≡ take at rest → ⊥) → IsStuck rest
stuck_at rest at low nowhere hit differs none =
    rw (parted 10 rest at low hit) (bad_line (take at rest) (drop (at + 1) rest) (without_before 10 rest at low nowhere) differs none)

-- ---- the lines before

abbrev line_of : Result TraceState TraceFault → ℕ
line_of (Ok t) = 0
line_of (Err (Line n)) = n
line_of (Err NoMemory) = 0

pub refused_at : (bytes rest : List ℕ) (es : List Entry) (fault : TraceFault) → AllByRecursion FitsEntry es → flat_map with_end es ++ rest ≡ bytes → IsStuck rest
    → fault ≡ Line (length es + 1) → (n : ℕ) → IsErrOf {T = TraceState} (Err fault) (Line n) → IsRefusedAt bytes n
refused_at bytes rest es fault fit text stuck is n also = record { lines = es; fit = fit; rest = rest; text = text; line = ap line_of (sym also ∙ ap Err is); stuck = stuck }

pub ends : (bytes rest : List ℕ) (es : List Entry) (at : ℕ) → AllByRecursion FitsEntry es → flat_map with_end es ++ rest ≡ bytes → at < length rest → Passes (is_byte 10) rest at
    → bytes_eq (take at rest) (codes "end") ≡ true → HasText bytes es
ends bytes rest es at fit text low hit is =
    let line : take at rest ≡ codes "end" = (bytes_eq-Decides (take at rest) (codes "end")).0 is in
    let more = drop (at + 1) rest in
    (fit, (more, append_assoc (flat_map with_end es) (codes "end\n") more ∙ ap (λ xs. flat_map with_end es ++ xs) (sym (parted 10 rest at low hit ∙ ap (λ xs. xs ++ 10 ∷ more) line)) ∙ text))

-- ---- the answer

pub whole : (bytes : List ℕ) (r : Result TraceState TraceFault) → IfOk r (λ t. HasText bytes t.entries) → ((n : ℕ) → IsErrOf r (Line n) → IsRefusedAt bytes n)
    → (es : List Entry) → HasText bytes es → MatchResult r (λ t. t.entries ≡ es) (λ fault. fault ≡ NoMemory)
whole bytes (Ok t) text refused es held = one_trace bytes t.entries es text held
whole bytes (Err (Line n)) text refused es held = absurd (refused_holds_none bytes n es (refused n refl) held)
whole bytes (Err NoMemory) text refused es held = refl

pub at_line : (bytes : List ℕ) (r : Result TraceState TraceFault) → IfOk r (λ t. HasText bytes t.entries) → ((n : ℕ) → IsErrOf r (Line n) → IsRefusedAt bytes n)
    → (n : ℕ) → IsRefusedAt bytes n → MatchResult r (λ t. ⊥) (λ fault. (fault ≡ Line n) ⊎ (fault ≡ NoMemory))
at_line bytes (Ok t) text refused n at = refused_holds_none bytes n t.entries at text
at_line bytes (Err (Line m)) text refused n at = inl (ap Line (refused_once bytes m n (refused m refl) at))
at_line bytes (Err NoMemory) text refused n at = inr refl
