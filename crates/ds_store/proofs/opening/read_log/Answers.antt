use Rattle.std.proofs.Common.{ℕ, true, false, Result, Ok, Err, sym, subst, ap, ◌∙◌}
use Rattle.std.proofs.lemmas.Result.{err_from_is_err_and}
use Rattle.cluster_model.specs.Server.{ServerState}
use Rattle.ds_store.specs.declared.fault.OpenCause.{OpenCause}
use Rattle.ds_store.specs.declared.fault.OpenCause.TheVariants as causes
use Rattle.ds_store.specs.Reading.{ReadsLog}
use Rattle.ds_store.proofs.Readings.{reads_told, read_is, reads_fails, reads_ended, reads_bad, played_more, fits_so, fits_not}
use Rattle.ds_store.proofs.opening.read_log.Goals as goal

pub returns-in_err-read-clause-reads : goal.returns-in_err-read-clause-reads
returns-in_err-read-clause-reads g c =
    let p = err_from_is_err_and c.from_residual.result c.from_residual.ensures.1 in
    let disk = g.D.Disk.told c.args.disk.now in
    let spare = g.D.Disk.told c.args.spare.now in
    let loop = c.loop-body in
    let reads = reads_told loop.log (Err c.in_err-read.field-0.0) c.read.new.into.items c.read.new.self disk spare (g.D.Disk.told loop.disk) (g.D.Disk.told loop.spare) loop.invariant.told loop.invariant.told_spare c.in_err-read.ensures.reads in
    let here = reads_fails c.args.number c.args.log.now loop.log loop.said c.read.new.into.items c.read.new.self disk spare c.in_err-read.field-0.0 loop.invariant.played reads in
    subst (λ (r : Result ServerState OpenCause). ReadsLog c.args.number c.args.log.now disk spare r c.read.new.self) (sym (p.1 ∙ ap Err p.2)) here

pub returns-then-not-branch-clause-reads : goal.returns-then-not-branch-clause-reads
returns-then-not-branch-clause-reads g c =
    let disk = g.D.Disk.told c.args.disk.now in
    let spare = g.D.Disk.told c.args.spare.now in
    let loop = c.loop-body in
    let reads = reads_told loop.log (Ok c.in_ok-read.field-0) c.read.new.into.items c.read.new.self disk spare (g.D.Disk.told loop.disk) (g.D.Disk.told loop.spare) loop.invariant.told loop.invariant.told_spare c.in_ok-read.ensures.reads in
    reads_ended c.args.number c.args.log.now loop.log loop.said c.read.new.into.items c.read.new.self disk spare loop.invariant.played
    (read_is loop.log c.in_ok-read.field-0 false c.read.new.into.items c.read.new.self disk spare c.if-not-branch.true reads)

pub returns-then-not-branch-2-clause-reads : goal.returns-then-not-branch-2-clause-reads
returns-then-not-branch-2-clause-reads g c =
    let disk = g.D.Disk.told c.args.disk.now in
    let spare = g.D.Disk.told c.args.spare.now in
    let loop = c.loop-body in
    let reads = reads_told loop.log (Ok c.in_ok-read.field-0) c.read.new.into.items c.read.new.self disk spare (g.D.Disk.told loop.disk) (g.D.Disk.told loop.spare) loop.invariant.told loop.invariant.told_spare c.in_ok-read.ensures.reads in
    let here =
    reads_bad c.args.number c.args.log.now loop.log loop.said c.read.new.into.items c.read.new.self disk spare loop.invariant.played
    (read_is loop.log c.in_ok-read.field-0 true c.read.new.into.items c.read.new.self disk spare c.if-not-branch.false reads)
    (fits_not loop.said c.deref.result.now c.read.new.into.items c.in_ok-apply.field-0 c.apply.new.self c.deref.ensures.value c.if-not-branch-2.true c.in_ok-apply.ensures.applied) in
    subst (λ (place : ℕ). ReadsLog c.args.number c.args.log.now disk spare (Err (causes.BadLog place)) c.read.new.self) (sym c.place.ensures) here

pub loop-body-preserved : goal.loop-body-preserved
loop-body-preserved g c =
    let disk = g.D.Disk.told c.args.disk.now in
    let spare = g.D.Disk.told c.args.spare.now in
    let loop = c.loop-body in
    let reads = reads_told loop.log (Ok c.in_ok-read.field-0) c.read.new.into.items c.read.new.self disk spare (g.D.Disk.told loop.disk) (g.D.Disk.told loop.spare) loop.invariant.told loop.invariant.told_spare c.in_ok-read.ensures.reads in
    record {
      told = c.read.ensures.same ∙ loop.invariant.told;
      told_spare = c.read.ensures.same_spare ∙ loop.invariant.told_spare;
      faults = c.in_ok-read.ensures.faults.0 ∙ loop.invariant.faults;
      faults_spare = c.in_ok-read.ensures.faults.1 ∙ loop.invariant.faults_spare;
      played =
          played_more c.args.number c.args.log.now loop.log loop.said c.read.new.into.items c.read.new.self c.apply.new.self disk spare loop.invariant.played
          (read_is loop.log c.in_ok-read.field-0 true c.read.new.into.items c.read.new.self disk spare c.if-not-branch.false reads)
          (fits_so loop.said c.deref.result.now c.read.new.into.items c.in_ok-apply.field-0 c.apply.new.self c.deref.ensures.value c.if-not-branch-2.false c.in_ok-apply.ensures.applied);
    }
