use Rattle.std.proofs.Common.{◌+◌, ◌-◌, List, length, get_or, ap, sym, refl}
use Rattle.std.proofs.lemmas.List.{set-get_or}
use Rattle.cluster_model.specs.File.{StoredFile, shown}
use Rattle.ds_procedures.specs.ServerBases.{server_of}
use Rattle.ds_log.specs.PlainBodies.{plain_ranges}
use Rattle.ds_log.proofs.LastingLemmas.{lasts_at, counted_keeps}
use Rattle.ds_log.proofs.Rooms.{at_none, holds_none, holds_some}
use Rattle.ds_log.proofs.storing.hold_bytes.Goals as goal

pub returns-in_default-clause-came : goal.returns-in_default-clause-came
returns-in_default-clause-came c = (at_none (server_of c.args.head.now c.args.files.now) c.args.fileid _ _ c.in_default.ensures, refl)

pub has_room-requires-clause-lasting : goal.has_room-requires-clause-lasting
has_room-requires-clause-lasting c =
    let x = get_or c.args.files.now c.in-Some.index c.index-files-index.result in
    let is = ap (λ (y : StoredFile). get_or c.args.files.now c.in-Some.index y) c.index-files-index.is in
    lasts_at c.args.head.now c.args.files.now c.in-Some.index x x c.requires c.in-Some.ensures.2 is

pub returns-then-not-has_room-clause-came : goal.returns-then-not-has_room-clause-came
returns-then-not-has_room-clause-came c =
    let x = get_or c.args.files.now c.in-Some.index c.index-files-index.result in
    let is = ap (λ (y : StoredFile). get_or c.args.files.now c.in-Some.index y) c.index-files-index.is in (
      holds_none c.args.head.now c.args.files.now c.args.fileid c.in-Some.index x c.args.mtime c.args.ctime (plain_ranges c.args.ranges.now.place) c.requires c.in-Some.ensures.0 c.in-Some.ensures.1 c.in-Some.ensures.2 is (sym c.if-not-has_room.ensures),
      ap (λ (files : List StoredFile). server_of c.args.head.now files) (set-get_or c.args.files.now c.in-Some.index c.index-files-index.result),
    )

pub put_ranges-requires-clause-lasting : goal.put_ranges-requires-clause-lasting
put_ranges-requires-clause-lasting c =
    let x = get_or c.args.files.now c.in-Some.index c.index-files-index.result in
    let is = ap (λ (y : StoredFile). get_or c.args.files.now c.in-Some.index y) c.index-files-index.is in
    lasts_at c.args.head.now c.args.files.now c.in-Some.index x x c.requires c.in-Some.ensures.2 is

pub returns-in_err-put_ranges-clause-keeps : goal.returns-in_err-put_ranges-clause-keeps
returns-in_err-put_ranges-clause-keeps c =
    let x = get_or c.args.files.now c.in-Some.index c.index-files-index.result in
    let is = ap (λ (y : StoredFile). get_or c.args.files.now c.in-Some.index y) c.index-files-index.is in
    let e = c.put_ranges.ensures in
    counted_keeps c.args.head.now c.args.files.now c.in-Some.index x c.put_ranges.new.file c.requires c.in-Some.ensures.2 is c.put_ranges.new.head e.counted e.bounded e.lasting

pub returns-clause-keeps : goal.returns-clause-keeps
returns-clause-keeps c =
    let x = get_or c.args.files.now c.in-Some.index c.index-files-index.result in
    let is = ap (λ (y : StoredFile). get_or c.args.files.now c.in-Some.index y) c.index-files-index.is in
    let e = c.put_ranges.ensures in
    counted_keeps c.args.head.now c.args.files.now c.in-Some.index x c.put_ranges.new.file c.requires c.in-Some.ensures.2 is c.put_ranges.new.head e.counted e.bounded e.lasting

pub returns-clause-came : goal.returns-clause-came
returns-clause-came c =
    let x = get_or c.args.files.now c.in-Some.index c.index-files-index.result in
    let is = ap (λ (y : StoredFile). get_or c.args.files.now c.in-Some.index y) c.index-files-index.is in
    let e = c.in_ok-put_ranges.ensures in
    holds_some c.args.head.now c.args.files.now c.args.fileid c.in-Some.index x c.args.mtime c.args.ctime (plain_ranges c.args.ranges.now.place) c.requires c.in-Some.ensures.0 c.in-Some.ensures.1 c.in-Some.ensures.2 is
    c.put_ranges.new.head c.put_ranges.new.file (c.args.head.now.total - length (shown x) + length (shown c.put_ranges.new.file)) (sym c.if-not-has_room.ensures) e.counted e.put
