use Rattle.std.proofs.Common.{List, None, ap, ◌∙◌, length}
use Rattle.std.specs.Prelude.{◌-◌, slice_get}
use Rattle.std.specs.List.{last_or}
use Rattle.nfs4_session.specs.Clients.{ClientState, SessionState}
use Rattle.nfs4_session.proofs.FirstLemmas.{last_is}
use Rattle.nfs4_session.proofs.client.ClientRecord.last.Goals as goal

pub returns : goal.returns
returns c =
    c.last.ensures.value ∙ ap (λ (l : List SessionState). slice_get l (length l - 1)) c.deref.ensures.value ∙ last_is c.self.inside.sessions.items
    ∙ ap (λ (s : ClientState). last_or None s.sessions) c.self.view_is
