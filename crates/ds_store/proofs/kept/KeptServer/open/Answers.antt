use Rattle.std.proofs.Common.{Option, Ok, refl, ◌∙◌}
use Rattle.store_disk.specs.Disks.{DiskLife}
use Rattle.twin_log.specs.LogCalls.{TellAsBefore}
use Rattle.ds_store.specs.Kept.{LeavesBoth}
use Rattle.ds_store.specs.Opens.{SaysBooting, StandsOpened}
use Rattle.ds_store.specs.Reading.{HasLasting}
use Rattle.ds_store.proofs.Opened.{at_told, boots_leaves, boots_opens, boots_refuses, boots_stands, leaves_not}
use Rattle.ds_store.proofs.kept.KeptServer.open.Goals as goal

pub returns-in_err-log-clause-crash : goal.returns-in_err-log-clause-crash
returns-in_err-log-clause-crash g c =
    let mid = g.D.Disk.told c.open.new.disk in
    let mid_spare = g.D.Disk.told c.open.new.spare in
    leaves_not c.args.number (g.D.Disk.told c.args.disk.now) (g.D.Disk.told c.args.spare.now) mid mid_spare mid mid_spare c.open.ensures.crash c.open.ensures.crash_spare refl refl

pub returns-in_err-said-clause-crash : goal.returns-in_err-said-clause-crash
returns-in_err-said-clause-crash g c =
    leaves_not c.args.number (g.D.Disk.told c.args.disk.now) (g.D.Disk.told c.args.spare.now) (g.D.Disk.told c.open.new.disk) (g.D.Disk.told c.open.new.spare) (g.D.Disk.told c.read_log.new.disk) (g.D.Disk.told c.read_log.new.spare)
    c.open.ensures.crash c.open.ensures.crash_spare c.read_log.ensures.same c.read_log.ensures.same_spare

pub returns-clause-opened : goal.returns-clause-opened
returns-clause-opened g c =
    boots_opens c.args.number c.in_ok-log.log c.read_log.new.log (g.D.Disk.told c.open.new.disk) (g.D.Disk.told c.open.new.spare) c.in_ok-said.said c.in_ok-said.ensures.reads (g.D.Disk.told c.args.disk.now) (g.D.Disk.told c.args.spare.now)
    c.begin_boot.result c.in_ok-log.ensures.opens c.begin_boot.ensures.begins

pub returns-clause-crash : goal.returns-clause-crash
returns-clause-crash g c =
    let said = c.in_ok-said.said in
    let log = c.read_log.new.log in
    let mid = g.D.Disk.told c.open.new.disk in
    let mid_spare = g.D.Disk.told c.open.new.spare in
    let new = g.D.Disk.told c.begin_boot.new.disk in
    let new_spare = g.D.Disk.told c.begin_boot.new.spare in
    let crash =
    at_told (λ (t u : Option DiskLife). HasLasting said log t u → LeavesBoth t u new new_spare (SaysBooting said.number (Ok said))) mid mid_spare (g.D.Disk.told c.read_log.new.disk) (g.D.Disk.told c.read_log.new.spare)
    c.read_log.ensures.same c.read_log.ensures.same_spare c.begin_boot.ensures.crash in
    let tells =
    at_told (λ (t u : Option DiskLife). TellAsBefore t u new new_spare) mid mid_spare (g.D.Disk.told c.read_log.new.disk) (g.D.Disk.told c.read_log.new.spare) c.read_log.ensures.same c.read_log.ensures.same_spare c.begin_boot.ensures.tells in
    boots_leaves c.args.number c.in_ok-log.log log mid mid_spare said c.in_ok-said.ensures.reads new new_spare (g.D.Disk.told c.args.disk.now) (g.D.Disk.told c.args.spare.now) c.in_ok-log.ensures.opens c.open.ensures.crash
    c.open.ensures.crash_spare crash tells

pub returns-clause-refused : goal.returns-clause-refused
returns-clause-refused g c =
    boots_refuses c.args.number c.in_ok-log.log c.read_log.new.log (g.D.Disk.told c.open.new.disk) (g.D.Disk.told c.open.new.spare) c.in_ok-said.said c.in_ok-said.ensures.reads (g.D.Disk.told c.begin_boot.new.disk) (g.D.Disk.told c.begin_boot.new.spare)
    (g.D.Disk.told c.args.disk.now) (g.D.Disk.told c.args.spare.now) c.begin_boot.result c.in_ok-log.ensures.opens c.begin_boot.ensures.begins (λ spent. c.begin_boot.ensures.spent spent ∙ c.read_log.ensures.same)
    (λ spent. c.begin_boot.ensures.spent_spare spent ∙ c.read_log.ensures.same_spare)

pub returns-clause-stands : goal.returns-clause-stands
returns-clause-stands g c =
    let said = c.in_ok-said.said in
    let log = c.read_log.new.log in
    let mid = g.D.Disk.told c.open.new.disk in
    let mid_spare = g.D.Disk.told c.open.new.spare in
    let read = g.D.Disk.told c.read_log.new.disk in
    let read_spare = g.D.Disk.told c.read_log.new.spare in
    let new = g.D.Disk.told c.begin_boot.new.disk in
    let new_spare = g.D.Disk.told c.begin_boot.new.spare in
    let stands =
    at_told (λ (t u : Option DiskLife). HasLasting said log t u → StandsOpened c.begin_boot.result new new_spare) mid mid_spare read read_spare c.read_log.ensures.same c.read_log.ensures.same_spare c.begin_boot.ensures.stands in
    let tells = at_told (λ (t u : Option DiskLife). TellAsBefore t u new new_spare) mid mid_spare read read_spare c.read_log.ensures.same c.read_log.ensures.same_spare c.begin_boot.ensures.tells in
    boots_stands c.args.number c.in_ok-log.log log mid mid_spare said c.in_ok-said.ensures.reads new new_spare (g.D.Disk.told c.args.disk.now) (g.D.Disk.told c.args.spare.now) c.begin_boot.result c.in_ok-log.ensures.opens c.open.ensures.crash
    c.open.ensures.crash_spare stands tells
