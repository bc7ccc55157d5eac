use Rattle.std.proofs.Common.{◌≡◌, suc, ◌+◌, ◌-◌, arith}
use Rattle.mds_rule.specs.MdsStates.{served}
use Rattle.mds_rule.specs.Goes.{read_call_in}
use Rattle.mds_sends.proofs.GoesEach.{each_turn, each_none}
use Rattle.mds_sends.proofs.reads.call_reads.Goals as goal

pub loop-n-preserved : goal.loop-n-preserved
loop-n-preserved c =
    let end = c.read_count-n-end.result in
    let n = c.loop-n.n in
    let more : end - n ≡ suc (end - (n + 1)) = omega (arith, c.loop-n-test.true) in
    λ m new rest.
    c.loop-n.invariant m new
    (each_turn (λ k x. read_call_in c.args.file c.args.place k x (served x c.args.file)) n (end - n) (end - (n + 1)) c.loop-n.out c.call_read.new.out new c.loop-n.state c.call_read.new.state m more c.in_ok-call_read.ensures rest)

pub returns : goal.returns
returns c =
    let end = c.read_count-n-end.result in
    let n = c.loop-n.n in
    let none : end - n ≡ 0 = omega (arith, c.loop-n-test.false) in
    c.loop-n.invariant c.loop-n.state c.loop-n.out (each_none (λ k x. read_call_in c.args.file c.args.place k x (served x c.args.file)) n (end - n) c.loop-n.state c.loop-n.out none)
