use Rattle.std.proofs.Common.{◌∙◌}
use Rattle.std.proofs.lemmas.Result.{on_err_weaker}
use Rattle.packet_table.proofs.LineLists.{line_same}
use Rattle.packet_table.proofs.lines.put_number.Goals as goal

pub returns-in-Some-clause-err : goal.returns-in-Some-clause-err
returns-in-Some-clause-err c =
    let w = c.get_mut.follows.holds c.push.new.self in
    on_err_weaker c.push.result (λ same. w.0 ∙ line_same c.args.key c.args.lines.now.entries c.in-Some.line.now c.push.new.self c.in-Some.ensures.value same) c.push.ensures.err
