use Rattle.std.proofs.Common.{List, ap, ◌∙◌}
use Rattle.std.specs.Prelude.{is_some}
use Rattle.std.specs.List.{position, find}
use Rattle.nfs4_session.specs.Clients.{ClientState, SessionState, has_number}
use Rattle.nfs4_session.proofs.FirstLemmas.{is_there}
use Rattle.nfs4_session.proofs.client.ClientRecord.has_session.Goals as goal

pub returns : goal.returns
returns c =
    c.is_some.ensures ∙ ap is_some c.place_of.ensures ∙ ap (λ (l : List SessionState). is_some (position (has_number c.args.session) l)) c.deref.ensures.value
    ∙ is_there (has_number c.args.session) c.self.inside.sessions.items ∙ ap (λ (s : ClientState). is_some (find (has_number c.args.session) s.sessions)) c.self.view_is
