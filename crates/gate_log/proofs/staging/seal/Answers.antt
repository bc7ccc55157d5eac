use Rattle.std.proofs.Common.{Err}
use Rattle.std.proofs.lemmas.Result.{err_from_is_err_and}
use Rattle.gate_log.proofs.SealLemmas.{seals_in_part, first_synced, gate_written, sealed}
use Rattle.gate_log.proofs.staging.seal.Goals as goal

pub returns-in_err-sync-clause-seals : goal.returns-in_err-sync-clause-seals
returns-in_err-sync-clause-seals g c = λ bodies staged stages.
    let p = err_from_is_err_and c.from_residual.result c.from_residual.ensures.1 in
    seals_in_part (g.D.Disk.told c.args.disk.now) bodies staged c.args.at c.from_residual.result p.0 (g.D.Disk.told c.sync.new.self) p.1
    (first_synced (g.D.Disk.told c.args.disk.now) bodies staged c.args.end c.args.at c.requires stages (Err c.in_err-sync.field-0.0) (g.D.Disk.told c.sync.new.self) c.in_err-sync.ensures.told)

pub returns-in_err-write_at-clause-seals : goal.returns-in_err-write_at-clause-seals
returns-in_err-write_at-clause-seals g c = λ bodies staged stages.
    let p = err_from_is_err_and c.from_residual-in_err-write_at.result c.from_residual-in_err-write_at.ensures.1 in
    seals_in_part (g.D.Disk.told c.args.disk.now) bodies staged c.args.at c.from_residual-in_err-write_at.result p.0 (g.D.Disk.told c.write_at.new.self) p.1
    (gate_written (g.D.Disk.told c.args.disk.now) bodies staged c.args.end c.args.at c.requires stages c.in_ok-sync.field-0 (g.D.Disk.told c.sync.new.self) c.in_ok-sync.ensures.told
    (Err c.in_err-write_at.field-0.0) (g.D.Disk.told c.write_at.new.self) c.in_err-write_at.ensures.told)

pub returns-clause-seals : goal.returns-clause-seals
returns-clause-seals g c = λ bodies staged stages.
    sealed (g.D.Disk.told c.args.disk.now) bodies staged c.args.end c.args.at c.requires stages c.in_ok-sync.field-0 (g.D.Disk.told c.sync.new.self) c.in_ok-sync.ensures.told
    c.in_ok-write_at.field-0 (g.D.Disk.told c.write_at.new.self) c.in_ok-write_at.ensures.told
    c.sync-2.result (g.D.Disk.told c.sync-2.new.self) c.sync-2.ensures.told
