use Rattle.std.proofs.Common.{arith}
use Rattle.std.proofs.lemmas.List.{take_rest}
use Rattle.file_pages.proofs.PlaceLemmas.{rise_drop, place_here, place_further}
use Rattle.file_pages.proofs.find.seek_from.Goals as goal

pub seek-requires : goal.seek-requires
seek-requires c =
    rw (take_rest c.args.pages.now c.args.from) (rise_drop 0 c.args.from c.args.pages.now c.requires.rise)

pub returns-in-Some : goal.returns-in-Some
returns-in-Some c =
    place_further c.args.number c.args.pages.now c.args.from c.seek.result c.requires.below c.requires.within (rw (take_rest c.args.pages.now c.args.from) at c.seek.ensures)

pub returns-in_default : goal.returns-in_default
returns-in_default c =
    place_here c.args.number c.args.pages.now c.args.from c.in-Some.page.now c.requires.rise c.requires.below c.in-Some.ensures.lookup.3.0 c.in-Some.ensures.lookup.1 (omega arith)
