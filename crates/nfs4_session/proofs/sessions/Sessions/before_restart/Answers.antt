use Rattle.std.proofs.Common.{ℕ, List, Option, sym, ap, ◌∙◌}
use Rattle.std.specs.Prelude.{option_copied, ◌&&◌, not}
use Rattle.std.specs.List.{position}
use Rattle.nfs4_session.specs.Clients.{ClientState, has_id}
use Rattle.nfs4_session.specs.ExchangeIds.{is_confirmed_of}
use Rattle.nfs4_session.specs.Asked.{place_before_restart}
use Rattle.nfs4_session.proofs.sessions.Sessions.before_restart.Goals as goal

pub returns-clause-exact : goal.returns-clause-exact
returns-clause-exact c =
    let r = c.in_ok-record.record.now in
    let cs = c.args.self.now.clients in
    let sought : ℕ → List ℕ → List ClientState → Option ℕ = λ id owner l. position (λ other. is_confirmed_of owner other && not (has_id id other)) l in
    c.first.ensures.exact ∙ ap (sought c.id.result c.owner.result.now) c.clients.ensures ∙ ap (λ id. sought id c.owner.result.now cs) c.id.ensures ∙ ap (λ owner. sought r.id owner cs) c.owner.ensures
    ∙ sym (ap (place_before_restart cs) (sym c.record.ensures ∙ ap option_copied c.in_ok-record.was))
