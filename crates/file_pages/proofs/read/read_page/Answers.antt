use Rattle.std.proofs.Common.{sym, ◌∙◌}
use Rattle.file_pages.proofs.PutLemmas.{place_kept, place_absent}
use Rattle.file_pages.proofs.ReadLemmas.{part_kept, part_hole}
use Rattle.file_pages.proofs.read.read_page.Goals as goal

pub returns-then-is_at-clause-part : goal.returns-then-is_at-clause-part
returns-then-is_at-clause-part c =
    part_kept c.args.number c.args.pages.now c.args.place c.args.at c.args.piece.now c.read.new.piece c.requires.place c.index-pages-place.result c.index-pages-place.is (sym c.is_at.ensures ∙ c.if-is_at.true) c.read.ensures

pub returns-then-is_at-clause-next : goal.returns-then-is_at-clause-next
returns-then-is_at-clause-next c = place_kept c.args.number c.args.pages.now c.args.place c.requires.place (sym c.is_at.ensures ∙ c.if-is_at.true)

pub returns-clause-part : goal.returns-clause-part
returns-clause-part c =
    part_hole c.args.number c.args.pages.now c.args.place c.args.at c.args.piece.now c.put_hole.new.piece c.requires.place (sym c.is_at.ensures ∙ c.if-is_at.false) c.put_hole.ensures

pub returns-clause-next : goal.returns-clause-next
returns-clause-next c = place_absent c.args.number c.args.pages.now c.args.place c.requires.place (sym c.is_at.ensures ∙ c.if-is_at.false)
