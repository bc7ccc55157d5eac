use Rattle.std.proofs.Common.{sym, ◌∙◌}
use Rattle.nfs4_session.specs.Seeks.{is_sought}
use Rattle.nfs4_session.proofs.FirstLemmas.{reads, missing}
use Rattle.nfs4_session.proofs.seek.sought.Goals as goal

pub returns-in-Some : goal.returns-in-Some
returns-in-Some c =
    sym (reads (is_sought c.args.seek) c.args.clients.now c.in-Some.place c.index-clients-place.result (sym c.first.ensures.exact ∙ c.in-Some.is) c.index-clients-place.is)

pub returns-in-None : goal.returns-in-None
returns-in-None c = sym (missing (is_sought c.args.seek) c.args.clients.now (sym c.first.ensures.exact ∙ c.in-None.is)).finds
