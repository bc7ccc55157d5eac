use Rattle.std.proofs.Common.{Some, sym, ap, ◌∙◌}
use Rattle.file_pages.proofs.PlaceLemmas.{found_page, found_other, found_none}
use Rattle.file_pages.proofs.find.page_bytes.Goals as goal
use Rattle.file_pages.proofs.find.page_bytes.Goals.{in_default-via-in-Some+else-number, in_default-via-in_default}

pub returns-in-Some-clause-exact : goal.returns-in-Some-clause-exact
returns-in-Some-clause-exact c =
    let looked = c.in-Some.ensures.lookup in
    ap Some c.bytes.ensures.exact
    ∙ sym (found_page c.args.number c.args.pages.now c.seek.result c.seek.ensures c.in-Some.page.now looked.3.0 looked.1 (sym c.number.ensures ∙ c.if-number.true))

pub returns-in_default-clause-exact : goal.returns-in_default-clause-exact
returns-in_default-clause-exact c = elim c.in_default.branch [
  | in_default-via-in-Some+else-number w ↦
      let looked = w.in-Some.ensures.lookup in
      sym (found_other c.args.number c.args.pages.now c.seek.result c.seek.ensures w.in-Some.page.now looked.3.0 looked.1 (λ same. w.if-number.false (w.number.ensures ∙ same)))
  | in_default-via-in_default w ↦ sym (found_none c.args.number c.args.pages.now c.seek.result c.seek.ensures w.in_default.ensures.lookup.3)
]
