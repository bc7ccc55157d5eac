use Rattle.std.proofs.Common.{sym, ◌∙◌}
use Rattle.ff_xdr.proofs.Utf8.{is_utf8_false, may_begin_utf8, may_begin_cut}
use Rattle.ff_xdr.proofs.text.text_of.Goals as goal

pub may_go_on-requires-clause-no_text : goal.may_go_on-requires-clause-no_text
may_go_on-requires-clause-no_text c = is_utf8_false _ c.in-Err.ensures.cases.0

pub returns-then-may_go_on : goal.returns-then-may_go_on
returns-then-may_go_on c =
    let begins = sym c.may_go_on.ensures ∙ c.if-may_go_on.true in
    (may_begin_cut _ _ (is_utf8_false _ c.in-Err.ensures.cases.0) begins, begins)

pub returns-in-Ok : goal.returns-in-Ok
returns-in-Ok c = (c.in-Ok.ensures.cases.0, may_begin_utf8 _ _ c.in-Ok.ensures.cases.1)
