use Rattle.std.proofs.Common.{◌≡◌, ◌+◌, ◌<◌, ◌^◌, [], ◌∷◌, ◌++◌, length, sym, ◌∙◌, subst, inr}
use Rattle.tez_ports.specs.Image.{Disk, overwrite, syncs, writes}
use Rattle.tez_journal.specs.Text.{framed, IsGated}
use Rattle.tez_journal.specs.Crash.{Leaves, IsEitherGated, IsLaid}
use Rattle.tez_journal.proofs.EntryLemmas.{body_short}
use Rattle.tez_journal.proofs.Telling.{told_map, told_either, told_broken, on_err, ok_map, err_map}
use Rattle.tez_journal.proofs.CrashLemmas.{behind_the_gate, lays, lays_read, torn_behind, safe_behind, settled_leaves}
use Rattle.tez_journal.proofs.gate.Gate.lay.Goals as goal

pub fill-requires-clause-short : goal.fill-requires-clause-short
fill-requires-clause-short g c = let r = c.requires.«record» in subst (λ w. length w < 2 ^ 32) r.2 (body_short r.0 r.1)

pub write_at-requires-clause-inside : goal.write_at-requires-clause-inside
write_at-requires-clause-inside g c = let open_now = c.requires.sound in λ d told. behind_the_gate d.read open_now.0 c.args.self.now.place (open_now.1.read d told)

-- the write did not answer Ok
pub returns-in_err-write_at-clause-err : goal.returns-in_err-write_at-clause-err
returns-in_err-write_at-clause-err g c = λ rs h.
    let gate = c.args.self.now.place in
    let n = length c.deref.result.now in
    on_err c.from_residual.result
    (told_broken (gate + 1) n _ _ (λ (d : Disk). IsGated d.read rs) c.in_err-write_at.ensures.err (λ d told. (h.read d told).0) (λ torn d told t. torn_behind d.read torn rs gate n (h.read d told) t))

pub returns-in_err-write_at-clause-err_images : goal.returns-in_err-write_at-clause-err_images
returns-in_err-write_at-clause-err_images g c = λ kept rs h s.
    let gate = c.args.self.now.place in
    let n = length c.deref.result.now in
    on_err c.from_residual.result
    (told_broken (gate + 1) n _ _ (Leaves (IsEitherGated kept rs)) c.in_err-write_at.ensures.err (λ d told. (s d told).images) (λ torn d told t. safe_behind d torn kept rs gate n (h.read d told).1 (s d told)))

-- the sync answered
pub returns-clause-laid : goal.returns-clause-laid
returns-clause-laid g c = λ rs h.
    let gate = c.args.self.now.place in
    let b = c.args.body.now in
    let bytes : c.deref.result.now ≡ framed b ++ 0 ∷ [] = c.deref.ensures.value ∙ c.fill.ensures.items in
    let written = told_map (writes (gate + 1) c.deref.result.now) _ _ (λ d. IsLaid rs b (syncs d)) c.in_ok-write_at.ensures.ok
    (λ d told. subst (λ w. IsLaid rs b (syncs (writes (gate + 1) w d))) (sym bytes) (lays d b rs gate (h.read d told))) in
    ok_map c.sync.result (λ is. told_map syncs _ _ (IsLaid rs b) is written) c.sync.ensures.ok

pub returns-clause-err : goal.returns-clause-err
returns-clause-err g c = λ rs h.
    let gate = c.args.self.now.place in
    let b = c.args.body.now in
    let bytes : c.deref.result.now ≡ framed b ++ 0 ∷ [] = c.deref.ensures.value ∙ c.fill.ensures.items in
    let written = told_map (writes (gate + 1) c.deref.result.now) _ _ (λ (d : Disk). IsGated d.read rs) c.in_ok-write_at.ensures.ok
    (λ d told. subst (λ w. IsGated (overwrite (gate + 1) w d.read) rs) (sym bytes) (lays_read d b rs gate (h.read d told))) in
    err_map c.sync.result (λ either. told_either syncs _ _ (λ (d : Disk). IsGated d.read rs) either written written) c.sync.ensures.err

pub returns-clause-err_images : goal.returns-clause-err_images
returns-clause-err_images g c = λ kept rs h s.
    let gate = c.args.self.now.place in
    let b = c.args.body.now in
    let bytes : c.deref.result.now ≡ framed b ++ 0 ∷ [] = c.deref.ensures.value ∙ c.fill.ensures.items in
    let n = length c.deref.result.now in
    let P = Leaves (IsEitherGated kept rs) in
    let pending = told_map (writes (gate + 1) c.deref.result.now) _ _ P c.in_ok-write_at.ensures.ok
    (λ d told. safe_behind d (overwrite (gate + 1) c.deref.result.now d.read) kept rs gate n (h.read d told).1 (s d told)) in
    let synced = told_map (writes (gate + 1) c.deref.result.now) _ _ (λ d. P (syncs d)) c.in_ok-write_at.ensures.ok
    (λ d told. settled_leaves (overwrite (gate + 1) c.deref.result.now d.read) (IsEitherGated kept rs) (inr (subst (λ w. IsGated (overwrite (gate + 1) w d.read) rs) (sym bytes) (lays_read d b rs gate (h.read d told))))) in
    err_map c.sync.result (λ either. told_either syncs _ _ P either pending synced) c.sync.ensures.err
