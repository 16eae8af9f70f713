use Rattle.std.proofs.Common.{[], ◌∷◌, ◌++◌, inr}
use Rattle.tez_ports.specs.Image.{Disk, syncs}
use Rattle.tez_journal.specs.Crash.{Leaves, IsOneOf, IsOneOfThree, EndsAt, IsSafe}
use Rattle.tez_journal.proofs.Telling.{told_map, told_either, on_err, ok_map, err_map}
use Rattle.tez_journal.proofs.CrashLemmas.{settled_safe, settled_leaves, last_two}
use Rattle.tez_journal.proofs.gate.Gate.append_synced.Goals as goal

pub returns-clause-holds : goal.returns-clause-holds
returns-clause-holds g c = ok_map c.sync.result
    (λ e rs r h is.
    let held = c.in_ok-append.ensures.holds rs r h is in
    record { small = held.small; read = told_map syncs _ _ (λ (d : Disk). EndsAt c.append.new.self.place (rs ++ r ∷ []) d.read) e held.read })
    c.sync.ensures.ok

pub returns-clause-survives : goal.returns-clause-survives
returns-clause-survives g c = ok_map c.sync.result
    (λ e rs r h is.
    let place = c.append.new.self.place in
    let qs = rs ++ r ∷ [] in
    let held = c.in_ok-append.ensures.holds rs r h is in
    told_map syncs _ _ (IsSafe place qs qs) e (λ d told. settled_safe d.read qs place (held.read d told)))
    c.sync.ensures.ok

pub returns-clause-err_read : goal.returns-clause-err_read
returns-clause-err_read g c = err_map c.sync.result
    (λ either rs r h is.
    let held = c.in_ok-append.ensures.holds rs r h is in
    told_either syncs _ _ (λ (d : Disk). IsOneOf rs (rs ++ r ∷ []) d.read) either
    (λ d told. inr (inr (held.read d told).0)) (λ d told. inr (inr (held.read d told).0)))
    c.sync.ensures.err

pub returns-clause-err_images : goal.returns-clause-err_images
returns-clause-err_images g c = err_map c.sync.result
    (λ either rs r h is kept s.
    let qs = rs ++ r ∷ [] in
    let P = IsOneOfThree kept rs qs in
    let held = c.in_ok-append.ensures.holds rs r h is in
    let safe = c.in_ok-append.ensures.survives rs r h is in
    told_either syncs _ _ (Leaves P) either
    (λ d told image i. last_two kept rs qs image ((safe d told).images image i))
    (λ d told. settled_leaves d.read P (inr (inr (inr (held.read d told).0)))))
    c.sync.ensures.err

pub returns-clause-sound : goal.returns-clause-sound
returns-clause-sound g c =
    let open_now = c.requires.sound in
    let r = c.requires.«record» in
    ok_map c.sync.result (λ h. (open_now.0 ++ r.0 ∷ [], h open_now.0 r.0 open_now.1 (r.1, r.2))) (returns-clause-holds g c)
