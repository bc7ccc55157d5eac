use Rattle.std.proofs.Common.{◌≡◌, ◌≤◌, length, sym, ap, ◌∙◌, below_more, arith}
use Rattle.mds_rule.specs.MdsStates.{ServedFile}
use Rattle.served_files.proofs.QuietLemmas.{own_rests, own_waits, read_rests, read_waits, reads_rest}
use Rattle.served_files.proofs.file.ServedFile.is_quiet.Goals as goal

pub returns-then-is_some-clause-waits : goal.returns-then-is_some-clause-waits
returns-then-is_some-clause-waits c = own_waits c.args.self.now c.waiting_server.result (sym c.is_some.ensures ∙ c.if-is_some.true) c.waiting_server.ensures

pub returns-then-is_some-2-clause-waits : goal.returns-then-is_some-2-clause-waits
returns-then-is_some-2-clause-waits c = read_waits c.args.self.now c.loop-n.n c.waiting_read.result (sym c.is_some-in-loop-n.ensures ∙ c.if-is_some-2.true) c.waiting_read.ensures

pub loop-n-preserved : goal.loop-n-preserved
loop-n-preserved c =
    below_more _ _ c.loop-n.invariant (read_rests c.args.self.now c.loop-n.n c.waiting_read.result (sym c.is_some-in-loop-n.ensures ∙ c.if-is_some-2.false) c.waiting_read.ensures)

pub returns-clause-quiet : goal.returns-clause-quiet
returns-clause-quiet c =
    let s = c.args.self.now in
    let seen : length c.self.inside.reads ≡ length s.reads = ap (λ (t : ServedFile). length t.reads) c.self.view_is in
    let all : length s.reads ≤ c.loop-n.n = omega (arith, seen, c.len-n-end.ensures, c.loop-n-test.false) in
    record {
      own = own_rests s c.waiting_server.result (sym c.is_some.ensures ∙ c.if-is_some.false) c.waiting_server.ensures;
      reads = reads_rest s c.loop-n.n all c.loop-n.invariant;
    }
