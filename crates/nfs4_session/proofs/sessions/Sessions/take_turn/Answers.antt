use Rattle.std.proofs.Common.{ℕ, sym, ◌∙◌, ap}
use Rattle.nfs4_session.specs.declared.change.Change.TheVariants as change
use Rattle.nfs4_session.specs.Clients.{SessionsState, has_id, client_in, change_first, with_clients}
use Rattle.nfs4_session.specs.Requests.{after_request, request_answer}
use Rattle.nfs4_session.specs.Changes.{changed}
use Rattle.nfs4_session.proofs.Turning.{takes_turn, one_change, no_turn}
use Rattle.nfs4_session.proofs.sessions.Sessions.take_turn.Goals as goal

pub returns-in-TakesEffect-clause-after : goal.returns-in-TakesEffect-clause-after
returns-in-TakesEffect-clause-after c =
    let s = c.args.self.now in
    let r = c.args.request.now in
    let done : ℕ → ℕ → SessionsState = λ client number. with_clients s (change_first (has_id client) (changed (change.Begin number r.slot r.sequence c.args.now)) s.clients) in
    c.change.ensures ∙ ap (λ client. done client c.number_in.result) c.client_in.ensures ∙ ap (λ number. done (client_in r.session) number) c.number_in.ensures
    ∙ one_change s r c.args.now ∙ takes_turn s (after_request s r c.args.now) (request_answer s r) (sym c.turn-turn.ensures ∙ c.in-TakesEffect.is)

pub returns-in_default : goal.returns-in_default
returns-in_default c =
    let s = c.args.self.now in
    let r = c.args.request.now in
    record { turn = c.turn-turn.ensures; after = no_turn s (after_request s r c.args.now) (request_answer s r) c.turn-turn.result c.turn-turn.ensures c.in_default.not-TakesEffect }
