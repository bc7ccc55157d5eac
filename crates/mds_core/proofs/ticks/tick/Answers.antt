use Rattle.std.proofs.Common.{length, sym, ◌∙◌, append-nil}
use Rattle.std.specs.List.{range_with_len}
use Rattle.file_rule.specs.FilePhases.{Ticks}
use Rattle.mds_rule.specs.MdsStates.{MdsValue, MdsStep, and_then, numbered}
use Rattle.mds_rule.specs.ServedFiles.{takes_input}
use Rattle.mds_rule.specs.Goes.{each, calls_out}
use Rattle.mds_rule.specs.Events.{leases_end, recalls_expire, kept_calls, files_tick, forgets_calls}
use Rattle.compound_run.specs.CompoundRuns.{HasMadeStep}
use Rattle.mds_state.proofs.StepLemmas.{stepped_then}
use Rattle.mds_core.proofs.ticks.tick.Goals as goal

pub returns : goal.returns
returns c =
    let leases : MdsStep = leases_end c.args.now (length c.args.state.now.sessions.clients) c.args.state.now in
    let expired : MdsStep = and_then leases (λ (n : MdsValue). recalls_expire c.args.now (length n.recalls) n) in
    let files : HasMadeStep (files_tick c.expire_recalls.new.state) c.expire_recalls.new.out c.call_all.new.state c.call_all.new.out =
    stepped_then (each (λ n k. takes_input k (numbered n) Ticks) (range_with_len 1 (length c.expire_recalls.new.state.files)) c.expire_recalls.new.state) (calls_out (kept_calls c.expire_recalls.new.state))
    c.expire_recalls.new.out c.tick_files.new.out c.call_all.new.out c.tick_files.new.state c.call_all.new.state c.in_ok-tick_files.ensures
    (c.in_ok-call_all.ensures (kept_calls c.expire_recalls.new.state) (c.deref.ensures.value ∙ c.in_ok-kept.ensures)) in
    stepped_then (and_then expired files_tick) forgets_calls c.args.out.now c.call_all.new.out c.call_all.new.out c.call_all.new.state c.forget_calls.new.state
    (stepped_then expired files_tick c.args.out.now c.expire_recalls.new.out c.call_all.new.out c.expire_recalls.new.state c.call_all.new.state
    (stepped_then leases (λ (n : MdsValue). recalls_expire c.args.now (length n.recalls) n) c.args.out.now c.end_leases.new.out c.expire_recalls.new.out c.end_leases.new.state c.expire_recalls.new.state
    c.in_ok-end_leases.ensures c.in_ok-expire_recalls.ensures) files)
    (record { mds = c.forget_calls.ensures; entries = sym (append-nil c.call_all.new.out.entries.items); sends = sym (append-nil c.call_all.new.out.sends.items) })
