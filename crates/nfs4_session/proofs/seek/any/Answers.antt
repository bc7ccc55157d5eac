use Rattle.std.proofs.Common.{ap, ◌∙◌}
use Rattle.std.specs.Prelude.{is_some}
use Rattle.nfs4_session.specs.Seeks.{is_sought}
use Rattle.nfs4_session.proofs.FirstLemmas.{any_is}
use Rattle.nfs4_session.proofs.seek.any.Goals as goal

pub returns : goal.returns
returns c = c.is_some.ensures ∙ ap is_some c.first.ensures.exact ∙ any_is (is_sought c.args.seek) c.args.clients.now
