use Rattle.std.proofs.Common.{◌∙◌}
use Rattle.mds_refusals.proofs.Names.{text_name, no_text_name}
use Rattle.mds_refusals.proofs.lookup.is_no_name.Goals as goal

pub returns-in-Ok : goal.returns-in-Ok
returns-in-Ok c = c.is_empty.ensures ∙ text_name c.args.name.now c.in-Ok.text.now c.in-Ok.ensures.cases.0 c.in-Ok.ensures.cases.1

pub returns-in-Err : goal.returns-in-Err
returns-in-Err c = no_text_name c.args.name.now c.in-Err.ensures.cases.0
