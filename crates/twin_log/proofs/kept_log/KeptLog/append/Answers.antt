use Rattle.std.proofs.Common.{◌≡◌, [], ◌∷◌, OnOk, ap, refl, subst}
use Rattle.std.proofs.lemmas.Result.{err_from_is_err_and, on_ok_weaker}
use Rattle.twin_log.specs.KeptLogs.{KeptLogState}
use Rattle.twin_log.specs.LogCalls.{sealed_log}
use Rattle.twin_log.proofs.Joining.{append_ends, append_fails}
use Rattle.twin_log.proofs.Sides.{waits_none}
use Rattle.twin_log.proofs.kept_log.KeptLog.append.Goals as goal

pub returns-in_err-stage-clause-appends : goal.returns-in_err-stage-clause-appends
returns-in_err-stage-clause-appends g c = λ generation start bodies stands.
    let p = err_from_is_err_and c.from_residual.result c.from_residual.ensures.1 in
    let disk = g.D.Disk.told c.args.disk.now in
    let spare = g.D.Disk.told c.args.spare.now in
    let more = c.in_err-stage.ensures.stages generation start bodies [] (waits_none c.args.self.now generation start bodies disk spare stands) in
    append_fails c.args.self.now generation start bodies c.args.body.now disk spare _ c.stage.new.self (g.D.Disk.told c.stage.new.disk) (g.D.Disk.told c.stage.new.spare) more c.from_residual.result p.0 p.1 c.stage.new.self

pub returns-clause-appends : goal.returns-clause-appends
returns-clause-appends g c = λ generation start bodies stands.
    let disk = g.D.Disk.told c.args.disk.now in
    let spare = g.D.Disk.told c.args.spare.now in
    let more = c.in_ok-stage.ensures.stages generation start bodies [] (waits_none c.args.self.now generation start bodies disk spare stands) in
    let seals = c.seal.ensures.seals generation start bodies (c.args.body.now ∷ []) (more.kept c.in_ok-stage.field-0 refl) (λ none. absurd (cc (none))) in
    append_ends c.args.self.now generation start bodies c.args.body.now disk spare _ c.stage.new.self (g.D.Disk.told c.stage.new.disk) (g.D.Disk.told c.stage.new.spare) more
    (ap (λ (log : KeptLogState). log.side) c.in_ok-stage.ensures.moves) c.seal.result c.seal.new.self (g.D.Disk.told c.seal.new.disk) (g.D.Disk.told c.seal.new.spare) seals

pub returns-clause-moves : goal.returns-clause-moves
returns-clause-moves g c =
    subst (λ (log : KeptLogState). OnOk c.seal.result (c.seal.new.self ≡ sealed_log log)) c.in_ok-stage.ensures.moves
    (on_ok_weaker c.seal.result (λ moved. moved c.in_ok-stage.ensures.waits) c.seal.ensures.moves)
