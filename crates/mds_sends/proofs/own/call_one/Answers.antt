use Rattle.std.proofs.Common.{Option, Ok, OnOk, sym, subst, ◌∙◌}
use Rattle.mds_rule.specs.MdsStates.{MdsValue}
use Rattle.mds_rule.specs.Goes.{own_call}
use Rattle.compound_run.specs.CompoundRuns.{HasMadeStep}
use Rattle.mds_state.specs.contracts.state.State as state
use Rattle.served_files.specs.declared.sending.SentByFile.{SentByFile}
use Rattle.served_files.specs.FileSteps.{SendsOwnIn}
use Rattle.mds_sends.proofs.GoesOwn.{own_elsewhere, own_kept, own_went}
use Rattle.mds_sends.proofs.own.call_one.Goals as goal

pub returns-then-place_of-place : goal.returns-then-place_of-place
returns-then-place_of-place c =
    let m : MdsValue = state.the_view c.state.inside in
    subst (λ (x : MdsValue). HasMadeStep (own_call c.args.file c.args.place x) c.args.out.now x c.args.out.now) c.state.view_is
    (own_elsewhere m c.args.file c.args.place c.in-Some-waiting_server.server c.in-Some.served.now c.args.out.now (sym c.in-Some.ensures) (c.in-Some-waiting_server.ensures c.args.file c.state.inside.next_xid)
    (λ same. c.if-place_of-place.true (c.place_of.ensures ∙ same)))

pub returns-in_default-2 : goal.returns-in_default-2
returns-in_default-2 c =
    let m : MdsValue = state.the_view c.state.inside in
    let new = c.send_own.new.self in
    let said = subst (λ (o : Option SentByFile). SendsOwnIn m.files c.args.file m.next_xid (Ok o) new) c.in_default-2.is c.in_ok-sent.ensures in
    subst (λ (x : MdsValue). HasMadeStep (own_call c.args.file c.args.place x) c.args.out.now (record m { files = new }) c.args.out.now) c.state.view_is
    (own_kept m c.args.file c.args.place c.in-Some.served.now new c.args.out.now (sym c.in-Some.ensures) said)

pub returns : goal.returns
returns c =
    let m : MdsValue = state.the_view c.state.inside in
    let new = c.send_own.new.self in
    let said = subst (λ (o : Option SentByFile). SendsOwnIn m.files c.args.file m.next_xid (Ok o) new) c.in-Some-2.is c.in_ok-sent.ensures in
    subst (λ (x : MdsValue). OnOk c.send_to_server.result (HasMadeStep (own_call c.args.file c.args.place x) c.args.out.now c.send_to_server.new.state c.send_to_server.new.out)) c.state.view_is
    (own_went m c.send_to_server.new.state c.args.file c.args.place c.in-Some-waiting_server.server c.in-Some.served.now c.in-Some-2.sent new c.args.out.now c.send_to_server.new.out c.send_to_server.result c.if-xid-eq0.false
    (sym c.in-Some.ensures) (c.in-Some-waiting_server.ensures c.args.file c.state.inside.next_xid) (sym c.place_of.ensures ∙ c.if-place_of-place.false) said c.send_to_server.ensures)
