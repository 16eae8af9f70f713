use Rattle.std.specs.Prelude.{◌≡◌, ◌<◌, ℕ, Err, option_map, if◌then◌else◌, length, map, unwrap_or, Some, None, is_some, refl}
use Rattle.std.proofs.Common.{rules, ap, sym, ◌∙◌, subst, inl, inr}
use Rattle.tez_record.specs.Bag.{text}
use Rattle.tez_plan.specs.Dag.{Dag, edge}
use Rattle.tez_ports.specs.Content.{Told, IsEither}
use Rattle.tez_history.specs.History.{Past, extend}
use Rattle.tez_history.specs.Steps.{done_entries}
use Rattle.tez_shelves.specs.Piece.{bytes_on}
use Rattle.tez_shelves.specs.Shelf.{shelf}
use Rattle.tez_inflight.specs.Seats.{SeatsState}
use Rattle.tez_master_model.specs.State.{MasterState}
use Rattle.tez_master_model.specs.Settled.{after_done}
use Rattle.tez_master_model.specs.Bytes.{bytes_of}
use Rattle.tez_world_invariant.specs.Keeping.{most_entries}
use Rattle.tez_world_invariant.specs.Reports.{made_for}
use Rattle.tez_master.specs.Master.{Reported, MasterParts, HasNumbers, entries_told}
use Rattle.tez_master_model.specs.Steady.{IsSteady}
use Rattle.tez_steps.specs.Step.{Notes, SinksStand}
use Rattle.tez_steps.specs.Holds.{notes_of}
use Rattle.tez_steps.specs.Reporting.{staged_for}
use Rattle.tez_steps.proofs.ReportBytes.{bytes_told, bytes_fit}
use Rattle.tez_steps.proofs.Taking.{length_extend, notes_settled}
use Rattle.tez_steps.proofs.Reported.{tried_told, fault_told, stands_told, numbers_now, steady_now, stage_now, works_now, value_is, done_holds, on_ok}
use Rattle.tez_steps.proofs.reporting.done.Goals as goal

pub returns-in-Err-NoMemory-clause-leaves : goal.returns-in-Err-NoMemory-clause-leaves
returns-in-Err-NoMemory-clause-leaves g c =
    record {
      refused_parts = search rules;
      refused_log = search rules;
      store = λ before told. tt;
      store_refused = λ before told.
          tried_told c.args.job.now c.args.conf.now c.args.running.now c.args.log.now.past c.args.at c.args.value.now c.args.pieces c.requires.holds c.requires.works c.requires.due before (notes_of c.args.running.now) c.make_room.new.log.past (g.S.OutputStore.store c.args.store.now) (g.S.OutputStore.store c.stage.new.store) c.make_room.ensures.log.past (subst (λ (d : Dag). IsEither (staged_for d c.args.at.a (text c.args.value.now)) (g.S.OutputStore.store c.args.store.now) (g.S.OutputStore.store c.stage.new.store)) c.plan-2.ensures c.in-Err-NoMemory.ensures.err) told;
      same_store = tt;
      later = search rules;
      fault = tt;
      told = search rules;
      lent = search rules;
      stays_sure = search rules;
      sure = λ before sure told. tt;
    }

pub returns-in-Err-Failed-clause-leaves : goal.returns-in-Err-Failed-clause-leaves
returns-in-Err-Failed-clause-leaves g c =
    record {
      refused_parts = tt;
      refused_log = tt;
      store = λ before told.
          fault_told c.args.job.now c.args.conf.now c.args.running.now c.args.log.now.past c.args.at c.args.value.now c.args.pieces c.requires.holds c.requires.works c.requires.due before (notes_of c.args.running.now) c.make_room.new.log.past (g.S.OutputStore.store c.args.store.now) (g.S.OutputStore.store c.stage.new.store) c.make_room.ensures.log.past (subst (λ (d : Dag). IsEither (staged_for d c.args.at.a (text c.args.value.now)) (g.S.OutputStore.store c.args.store.now) (g.S.OutputStore.store c.stage.new.store)) c.plan-2.ensures c.in-Err-Failed.ensures.err) told;
      store_refused = λ before told. tt;
      same_store = λ no. absurd no;
      later = search rules;
      fault = (refl, inl (c.in-Err-Failed.ensures.cause.failed (ap Err c.in-Err-Failed.field-0-is)));
      told = search rules;
      lent = search rules;
      stays_sure = search rules;
      sure = λ before sure told. let no = c.in-Err-Failed.ensures.sure sure in let is = c.in-Err-Failed.field-0-is in cc;
    }

pub returns-in-Err-Stopped-clause-leaves : goal.returns-in-Err-Stopped-clause-leaves
returns-in-Err-Stopped-clause-leaves g c =
    record {
      refused_parts = tt;
      refused_log = tt;
      store = λ before told.
          fault_told c.args.job.now c.args.conf.now c.args.running.now c.args.log.now.past c.args.at c.args.value.now c.args.pieces c.requires.holds c.requires.works c.requires.due before (notes_of c.args.running.now) c.make_room.new.log.past (g.S.OutputStore.store c.args.store.now) (g.S.OutputStore.store c.stage.new.store) c.make_room.ensures.log.past (subst (λ (d : Dag). IsEither (staged_for d c.args.at.a (text c.args.value.now)) (g.S.OutputStore.store c.args.store.now) (g.S.OutputStore.store c.stage.new.store)) c.plan-2.ensures c.in-Err-Stopped.ensures.err) told;
      store_refused = λ before told. tt;
      same_store = λ no. absurd no;
      later = search rules;
      fault = (refl, inr (c.in-Err-Stopped.ensures.cause.stopped (ap Err c.in-Err-Stopped.field-0-is)));
      told = search rules;
      lent = search rules;
      stays_sure = search rules;
      sure = λ before sure told. let no = c.in-Err-Stopped.ensures.sure sure in let is = c.in-Err-Stopped.field-0-is in cc;
    }

pub returns-then-is_err-clause-leaves : goal.returns-then-is_err-clause-leaves
returns-then-is_err-clause-leaves g c =
    record {
      refused_parts = search rules;
      refused_log = search rules;
      store = λ before told. tt;
      store_refused = λ before told.
          tried_told c.args.job.now c.args.conf.now c.args.running.now c.args.log.now.past c.args.at c.args.value.now c.args.pieces c.requires.holds c.requires.works c.requires.due before (notes_of c.args.running.now) c.make_room.new.log.past (g.S.OutputStore.store c.args.store.now) (g.S.OutputStore.store c.stage.new.store) c.make_room.ensures.log.past (inr (subst (λ (d : Dag). g.S.OutputStore.store c.stage.new.store ≡ option_map (staged_for d c.args.at.a (text c.args.value.now)) (g.S.OutputStore.store c.args.store.now)) c.plan-2.ensures c.in-Ok.ensures.ok)) told;
      same_store = tt;
      later = search rules;
      fault = tt;
      told = search rules;
      lent = search rules;
      stays_sure = search rules;
      sure = λ before sure told. tt;
    }

pub settle-requires-clause-numbers : goal.settle-requires-clause-numbers
settle-requires-clause-numbers g c = subst HasNumbers (sym c.done.ensures.same) (numbers_now c.args.job.now c.args.conf.now c.args.running.now c.args.log.now.past c.requires.holds)

pub settle-requires-clause-steady : goal.settle-requires-clause-steady
settle-requires-clause-steady g c = subst IsSteady (sym c.done.ensures.same) (steady_now c.args.job.now c.args.conf.now c.args.running.now c.args.log.now.past c.requires.holds)

pub settle-requires-clause-pending : goal.settle-requires-clause-pending
settle-requires-clause-pending g c =
    let on = works_now c.args.job.now c.args.conf.now c.args.running.now c.args.log.now.past c.args.at.a c.requires.holds c.requires.works.works in
    ap is_some (c.in_ok-handled.ensures.pending ∙ ap (λ b. if b then Some (Reported c.args.at.a c.as_slice.result.now) else None) on)

pub returns-clause-taken : goal.returns-clause-taken
returns-clause-taken g c =
    let a = c.args.at.a in
    let on = works_now c.args.job.now c.args.conf.now c.args.running.now c.args.log.now.past a c.requires.holds c.requires.works.works in
    let bytes = c.as_slice.result.now in
    let next : c.settle.new.log.past ≡ extend c.args.log.now.past (done_entries a (map bytes_of bytes)) =
    c.settle.ensures.past ∙ ap (λ (p : Past). extend p (entries_told c.in_ok-handled.handled)) c.make_room.ensures.log.past ∙ ap (extend c.args.log.now.past) (c.in_ok-handled.ensures.entries on) in
    let bytes_are : bytes ≡ made_for c.args.job.now.plan a (λ n. unwrap_or (bytes_on (edge n) c.args.pieces) 0) =
    c.as_slice.ensures.value ∙ subst (λ (d : Dag). c.in_ok-made.made.items ≡ made_for d a (λ n. unwrap_or (bytes_on (edge n) c.args.pieces) 0)) c.plan.ensures c.in_ok-made.ensures in
    let pend : c.done.new.self.pending ≡ Some (Reported a bytes) = c.in_ok-handled.ensures.pending ∙ ap (λ b. if b then Some (Reported a bytes) else None) on in
    let short : length c.settle.new.log.past < most_entries =
    subst (λ (n : ℕ). n < most_entries) (sym (ap length c.settle.ensures.past ∙ length_extend c.make_room.new.log.past (entries_told c.in_ok-handled.handled))) c.in_ok-make_room.ensures.short in (
      stage_now c.args.job.now c.args.conf.now c.args.running.now c.args.log.now.past a c.requires.holds c.requires.works.works,
      (
        value_is c.args.job.now c.args.conf.now c.args.running.now c.args.log.now.past c.args.at c.args.value.now c.args.pieces c.requires.holds c.requires.works c.requires.due,
        bytes_fit c.args.job.now c.args.conf.now c.args.running.now c.args.log.now.past c.args.at c.args.value.now c.args.pieces c.requires.holds c.requires.works c.requires.due,
        next ∙ ap (λ ms. extend c.args.log.now.past (done_entries a ms)) (ap (map bytes_of) bytes_are ∙ bytes_told c.args.job.now c.args.conf.now c.args.running.now c.args.log.now.past c.args.at c.args.value.now c.args.pieces c.requires.holds c.requires.works c.requires.due),
      ),
      done_holds c.args.job.now c.args.conf.now c.args.running.now c.args.log.now.past c.args.at c.args.value.now c.args.pieces c.requires.holds c.requires.works c.requires.due c.settle.new.running c.settle.new.log.past bytes
          (record {
            master = ap (λ (m : MasterParts). m.state) (c.settle.ensures.master (Reported a bytes) pend) ∙ ap (λ (m : MasterState). after_done m a bytes) c.done.ensures.same;
            seats = ap (λ (d : SeatsState). d.seats) (c.settle.ensures.seats ∙ c.leave.ensures);
            shelves = λ b. ap (shelf b) c.settle.ensures.shelves ∙ on_ok c.put.result _ (sym c.is_err.ensures.value ∙ c.if-is_err.false) c.put.ensures.there b;
            next = next;
            short = short;
          }),
    )

pub returns-clause-leaves : goal.returns-clause-leaves
returns-clause-leaves g c =
    record {
      refused_parts = tt;
      refused_log = tt;
      store = λ before told.
          let a = c.args.at.a in
          let on = works_now c.args.job.now c.args.conf.now c.args.running.now c.args.log.now.past a c.requires.holds c.requires.works.works in
          let bytes = c.as_slice.result.now in
          let next : c.settle.new.log.past ≡ extend c.args.log.now.past (done_entries a (map bytes_of bytes)) =
          c.settle.ensures.past ∙ ap (λ (p : Past). extend p (entries_told c.in_ok-handled.handled)) c.make_room.ensures.log.past ∙ ap (extend c.args.log.now.past) (c.in_ok-handled.ensures.entries on) in
          let ok = subst (λ (d : Dag). g.S.OutputStore.store c.stage.new.store ≡ option_map (staged_for d a (text c.args.value.now)) (g.S.OutputStore.store c.args.store.now)) c.plan-2.ensures c.in-Ok.ensures.ok in
          subst (λ (n : Notes). Told (g.S.OutputStore.store c.stage.new.store) (SinksStand c.args.job.now before c.settle.new.log.past n)) (sym (notes_settled c.args.running.now c.args.running.now c.settle.new.running refl c.settle.ensures.texts c.settle.ensures.sums))
          (stands_told c.args.job.now c.args.conf.now c.args.running.now c.args.log.now.past c.args.at c.args.value.now c.args.pieces c.requires.holds c.requires.works c.requires.due (map bytes_of bytes) before (notes_of c.args.running.now) c.settle.new.log.past (g.S.OutputStore.store c.args.store.now) (g.S.OutputStore.store c.stage.new.store) next ok told);
      store_refused = λ before told. tt;
      same_store = λ no. absurd no;
      later = search rules;
      fault = tt;
      told = search rules;
      lent = search rules;
      stays_sure = search rules;
      sure = λ before sure told. tt;
    }
