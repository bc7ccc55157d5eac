use Rattle.std.proofs.Common.{sym, ap, subst, ◌∙◌, arith}
use Rattle.cluster_model.specs.File.{StoredFile, set as set_attributes}
use Rattle.ds_log.specs.PlainBodies.{plain_ranges}
use Rattle.ds_log.specs.Lasting.{IsLastingFile}
use Rattle.ds_log.proofs.HeldRanges.{mtime_set, set_holds, set_lasts}
use Rattle.ds_log.proofs.Rooms.{fits, room_of}
use Rattle.ds_log.proofs.storing.put_ranges.Goals as goal

pub returns-in_err-written-clause-bounded : goal.returns-in_err-written-clause-bounded
returns-in_err-written-clause-bounded c =
    let p = fits c.args.head.now c.args.file.now c.args.ctime (plain_ranges c.args.ranges.now.place) c.requires.lasting c.requires.room c.write_ranges-written.result c.write_ranges-written.new.file c.write_ranges-written.ensures in
    omega (arith, p.room, c.size-before.ensures.exact, c.size.ensures.exact)

pub returns-in_err-written-clause-lasting : goal.returns-in_err-written-clause-lasting
returns-in_err-written-clause-lasting c =
    (fits c.args.head.now c.args.file.now c.args.ctime (plain_ranges c.args.ranges.now.place) c.requires.lasting c.requires.room c.write_ranges-written.result c.write_ranges-written.new.file c.write_ranges-written.ensures).lasts

pub returns-clause-bounded : goal.returns-clause-bounded
returns-clause-bounded c =
    let p = fits c.args.head.now c.args.file.now c.args.ctime (plain_ranges c.args.ranges.now.place) c.requires.lasting c.requires.room c.write_ranges-written.result c.write_ranges-written.new.file c.write_ranges-written.ensures in
    omega (arith, p.room, c.size-before.ensures.exact, c.size.ensures.exact)

pub returns-clause-lasting : goal.returns-clause-lasting
returns-clause-lasting c =
    let boot = c.args.head.now.clock.boot in
    let p = fits c.args.head.now c.args.file.now c.args.ctime (plain_ranges c.args.ranges.now.place) c.requires.lasting c.requires.room c.write_ranges-written.result c.write_ranges-written.new.file c.write_ranges-written.ensures in
    let r = room_of c.args.head.now c.args.file.now c.args.ctime (plain_ranges c.args.ranges.now.place) c.requires.room in
    subst (λ (f : StoredFile). IsLastingFile boot f) (sym c.set.ensures) (set_lasts boot c.write_ranges-written.new.file c.args.mtime c.args.ctime p.lasts r.begun)

pub returns-clause-put : goal.returns-clause-put
returns-clause-put c =
    c.set.ensures
    ∙ ap (λ (f : StoredFile). set_attributes f c.args.ctime (mtime_set c.args.mtime)) c.in_ok-written.ensures
    ∙ set_holds c.args.file.now c.args.mtime c.args.ctime (plain_ranges c.args.ranges.now.place) c.requires.lasting.settled
