use Rattle.std.proofs.Common.{ℕ, Option, Ok, OnOk, sym, subst, ◌∙◌}
use Rattle.mds_rule.specs.MdsStates.{MdsValue, served}
use Rattle.mds_rule.specs.Goes.{read_call_in}
use Rattle.compound_run.specs.CompoundRuns.{HasMadeStep}
use Rattle.mds_state.specs.contracts.state.State as state
use Rattle.served_files.specs.declared.sending.SentByFile.{SentByFile}
use Rattle.served_files.specs.Sending.{ReadWaits}
use Rattle.served_files.specs.FileSteps.{SendsReadIn}
use Rattle.mds_sends.proofs.GoesReads.{read_not, read_elsewhere, read_over, read_kept, read_went}
use Rattle.mds_sends.proofs.reads.call_read.Goals as goal
use Rattle.mds_sends.proofs.reads.call_read.Goals.{then-place_of-place-via-then-place_of-place, then-place_of-place-via-else-place_of-place+then-xid-eq0}

pub returns-in_default-waiting_read : goal.returns-in_default-waiting_read
returns-in_default-waiting_read c =
    let m : MdsValue = state.the_view c.state.inside in
    let waits = subst (λ (o : Option ℕ). ReadWaits c.in-Some.served.now c.args.n m.next_xid o) c.in_default-waiting_read.is (c.waiting_read.ensures m.next_xid) in
    subst (λ (x : MdsValue). HasMadeStep (read_call_in c.args.file c.args.place c.args.n x (served x c.args.file)) c.args.out.now x c.args.out.now) c.state.view_is
    (read_not m c.args.file c.args.place c.args.n c.in-Some.served.now c.args.out.now (sym c.in-Some.ensures) waits)

pub returns-then-place_of-place : goal.returns-then-place_of-place
returns-then-place_of-place c =
    let m : MdsValue = state.the_view c.state.inside in
    let s = c.in-Some.served.now in
    let server = c.in-Some-waiting_read.server in
    let waits = c.in-Some-waiting_read.ensures c.state.inside.next_xid in
    subst (λ (x : MdsValue). HasMadeStep (read_call_in c.args.file c.args.place c.args.n x (served x c.args.file)) c.args.out.now x c.args.out.now) c.state.view_is
    (
    elim c.then-place_of-place.branch [
      | then-place_of-place-via-then-place_of-place w ↦ read_elsewhere m c.args.file c.args.place c.args.n server s c.args.out.now (sym c.in-Some.ensures) waits (λ same. w.if-place_of-place.true (c.place_of.ensures ∙ same))
      | then-place_of-place-via-else-place_of-place+then-xid-eq0 w ↦ read_over m c.args.file c.args.place c.args.n server s c.args.out.now (sym c.in-Some.ensures) waits w.if-xid-eq0.true
    ]
    )

pub returns-in_default-2 : goal.returns-in_default-2
returns-in_default-2 c =
    let m : MdsValue = state.the_view c.state.inside in
    let new = c.send_read.new.self in
    let said = subst (λ (o : Option SentByFile). SendsReadIn m.files c.args.file c.args.n m.next_xid (Ok o) new) c.in_default-2.is c.in_ok-sent.ensures in
    subst (λ (x : MdsValue). HasMadeStep (read_call_in c.args.file c.args.place c.args.n x (served x c.args.file)) c.args.out.now (record m { files = new }) c.args.out.now) c.state.view_is
    (read_kept m c.args.file c.args.place c.args.n c.in-Some.served.now new c.args.out.now (sym c.in-Some.ensures) said)

pub returns : goal.returns
returns c =
    let m : MdsValue = state.the_view c.state.inside in
    let new = c.send_read.new.self in
    let said = subst (λ (o : Option SentByFile). SendsReadIn m.files c.args.file c.args.n m.next_xid (Ok o) new) c.in-Some-2.is c.in_ok-sent.ensures in
    subst (λ (x : MdsValue). OnOk c.send_to_server.result (HasMadeStep (read_call_in c.args.file c.args.place c.args.n x (served x c.args.file)) c.args.out.now c.send_to_server.new.state c.send_to_server.new.out)) c.state.view_is
    (read_went m c.send_to_server.new.state c.args.file c.args.place c.args.n c.in-Some-waiting_read.server c.in-Some.served.now c.in-Some-2.sent new c.args.out.now c.send_to_server.new.out c.send_to_server.result c.if-xid-eq0.false
    (sym c.in-Some.ensures) (c.in-Some-waiting_read.ensures c.state.inside.next_xid) (sym c.place_of.ensures ∙ c.if-place_of-place.false) said c.send_to_server.ensures)
