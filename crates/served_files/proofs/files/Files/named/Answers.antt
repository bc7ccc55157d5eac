use Rattle.std.proofs.Common.{Some, None, ◌∙◌}
use Rattle.served_files.proofs.NameLists.{named_is}
use Rattle.served_files.proofs.files.Files.named.Goals as goal

pub returns-in_err-place : goal.returns-in_err-place
returns-in_err-place c = c.from_residual.ensures ∙ named_is c.self.inside.names c.self.inside.files.items c.args.self.now c.args.name.now None c.self.invariant.0 c.self.view_is c.in_err-place.ensures.exact

pub returns : goal.returns
returns c = named_is c.self.inside.names c.self.inside.files.items c.args.self.now c.args.name.now (Some c.in_ok-place.place) c.self.invariant.0 c.self.view_is c.in_ok-place.ensures.exact
