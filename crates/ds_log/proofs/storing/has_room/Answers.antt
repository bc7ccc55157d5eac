use Rattle.std.proofs.Common.{◌-◌, Bool, ◌&&◌, leb, sym, ap, ◌∙◌}
use Rattle.std.proofs.lemmas.Bool.{le-leb, lt-leb}
use Rattle.cluster_model.specs.Server.{max_total}
use Rattle.ds_log.specs.PlainBodies.{plain_ranges}
use Rattle.ds_log.proofs.Rooms.{room_none, room_some}
use Rattle.ds_log.proofs.storing.has_room.Goals as goal

pub returns-in_default : goal.returns-in_default
returns-in_default c =
    sym (room_none c.args.head.now c.args.file.now c.args.ctime (plain_ranges c.args.ranges.now.place) c.size-before.result c.size-before.ensures.exact c.requires.lasting.settled (sym c.end_by.ensures ∙ c.in_default.is))

pub returns-then-end-others : goal.returns-then-end-others
returns-then-end-others c =
    let known = room_some c.args.head.now c.args.file.now c.args.ctime (plain_ranges c.args.ranges.now.place) c.size-before.result c.size-before.ensures.exact c.requires.lasting.settled c.in-Some.end (sym c.end_by.ensures ∙ c.in-Some.is) c.requires.part c.requires.bounded in
    sym (known ∙ ap (λ (b : Bool). b && leb c.args.ctime.boot c.args.head.now.clock.boot) (le-leb c.in-Some.end (max_total - (c.args.head.now.total - c.size-before.result)) c.if-end-others.true))

pub returns-else-end-others : goal.returns-else-end-others
returns-else-end-others c =
    let known = room_some c.args.head.now c.args.file.now c.args.ctime (plain_ranges c.args.ranges.now.place) c.size-before.result c.size-before.ensures.exact c.requires.lasting.settled c.in-Some.end (sym c.end_by.ensures ∙ c.in-Some.is) c.requires.part c.requires.bounded in
    let full = lt-leb c.in-Some.end (max_total - (c.args.head.now.total - c.size-before.result)) c.if-end-others.false in
    full ∙ sym (known ∙ ap (λ (b : Bool). b && leb c.args.ctime.boot c.args.head.now.clock.boot) full)
