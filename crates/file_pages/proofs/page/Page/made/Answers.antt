use Rattle.std.proofs.Common.{option_map}
use Rattle.file_pages.proofs.PartLemmas.{page_covered}
use Rattle.file_pages.proofs.page.Page.made.Goals as goal

pub returns-then-start-at : goal.returns-then-start-at
returns-then-start-at c =
    rw (← page_covered (option_map (λ page. page.now) c.args.under) c.args.number c.args.at c.args.bytes.now c.if-at-start.true c.if-start-at.true) c.covered.ensures
