use Rattle.ff_xdr.specs.Proper.{proper_parts}
use Rattle.ff_xdr.proofs.laws.every_message_of.Goals as goal

pub returns-clause-exact : goal.returns-clause-exact
returns-clause-exact g c = c.every_form.ensures g.T.Message.form (proper_parts g.T.Message.form g.T.Message.sound).0

pub returns-clause-filled : goal.returns-clause-filled
returns-clause-filled g c = (proper_parts g.T.Message.form g.T.Message.sound).1
