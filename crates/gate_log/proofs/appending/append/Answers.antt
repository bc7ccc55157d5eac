use Rattle.std.proofs.Common.{[], ◌∷◌, Err}
use Rattle.std.proofs.lemmas.Result.{err_from_is_err_and}
use Rattle.gate_log.proofs.AppendLemmas.{appends_in_part, appended, begins, seal_since, staged_first, waits_now}
use Rattle.gate_log.proofs.appending.append.Goals as goal

pub returns-in_err-next-clause-appends : goal.returns-in_err-next-clause-appends
returns-in_err-next-clause-appends g c = λ bodies holds.
    let old = g.D.Disk.told c.args.disk.now in
    let p = err_from_is_err_and c.from_residual.result c.from_residual.ensures.1 in
    let more = c.in_err-next.ensures.stages bodies [] (begins old bodies c.args.end holds) in
    appends_in_part old bodies c.args.body.now c.from_residual.result p.0 (g.D.Disk.told c.stage.new.disk) p.1
    (staged_first old bodies c.args.body.now c.args.end (Err c.in_err-next.field-0.0) (g.D.Disk.told c.stage.new.disk) more)

pub returns-in_err-seal-clause-appends : goal.returns-in_err-seal-clause-appends
returns-in_err-seal-clause-appends g c = λ bodies holds.
    let old = g.D.Disk.told c.args.disk.now in
    let staged = g.D.Disk.told c.stage.new.disk in
    let p = err_from_is_err_and c.from_residual-in_err-seal.result c.from_residual-in_err-seal.ensures.1 in
    let more = c.in_ok-next.ensures.stages bodies [] (begins old bodies c.args.end holds) in
    let seals = c.in_err-seal.ensures.seals bodies (c.args.body.now ∷ []) (waits_now old bodies c.args.body.now c.args.end c.in_ok-next.next staged more) in
    appends_in_part old bodies c.args.body.now c.from_residual-in_err-seal.result p.0 (g.D.Disk.told c.seal.new.disk) p.1
    (seal_since old bodies c.args.body.now c.args.end c.in_ok-next.next staged more (Err c.in_err-seal.field-0.0) (g.D.Disk.told c.seal.new.disk) seals)

pub returns-clause-appends : goal.returns-clause-appends
returns-clause-appends g c = λ bodies holds.
    let old = g.D.Disk.told c.args.disk.now in
    let staged = g.D.Disk.told c.stage.new.disk in
    let more = c.in_ok-next.ensures.stages bodies [] (begins old bodies c.args.end holds) in
    let seals = c.in_ok-seal.ensures.seals bodies (c.args.body.now ∷ []) (waits_now old bodies c.args.body.now c.args.end c.in_ok-next.next staged more) in
    appended old bodies c.args.body.now c.args.end c.in_ok-next.next staged more c.in_ok-seal.field-0 (g.D.Disk.told c.seal.new.disk) seals
