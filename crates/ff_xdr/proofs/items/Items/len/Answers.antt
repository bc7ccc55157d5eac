use Rattle.std.proofs.Common.{sym}
use Rattle.ff_xdr.proofs.Lists.{length-contents}
use Rattle.ff_xdr.proofs.items.Items.len.Goals as goal

pub returns-in-InBytes : goal.returns-in-InBytes
returns-in-InBytes g c =
    let place = c.args.self.now.place in
    sym (length-contents g.T.Message.form g.T.Message.meaning place c.in-InBytes.bytes c.in-InBytes.at c.in-InBytes.count c.in-InBytes.is c.args.self.now.checked)
