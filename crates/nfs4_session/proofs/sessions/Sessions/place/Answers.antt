use Rattle.std.proofs.Common.{ap, ◌∙◌}
use Rattle.std.specs.List.{position}
use Rattle.nfs4_session.specs.Clients.{SessionsState, has_id}
use Rattle.nfs4_session.proofs.FirstLemmas.{place_in}
use Rattle.nfs4_session.proofs.sessions.Sessions.place.Goals as goal

pub returns : goal.returns
returns c =
    c.get_index_of.ensures.index ∙ place_in c.args.client c.self.inside.places.keys c.self.inside.clients.items c.self.invariant.ids
    ∙ ap (λ (s : SessionsState). position (has_id c.args.client) s.clients) c.self.view_is
