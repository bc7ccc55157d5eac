use Rattle.std.proofs.Common.{Option, sym, ap, ◌∙◌}
use Rattle.std.specs.Prelude.{slice_get}
use Rattle.nfs4_session.specs.Clients.{SessionState, has_number}
use Rattle.nfs4_session.specs.Requests.{answer_by_session, answer_by_slot}
use Rattle.nfs4_session.specs.Turns.{turn_of}
use Rattle.nfs4_session.proofs.FirstLemmas.{found, first_is, missing}
use Rattle.nfs4_session.proofs.client_sessions.turn_in.Goals as goal

pub returns-in-Some : goal.returns-in-Some
returns-in-Some c =
    let there = found (has_number c.args.session) c.args.sessions.now c.in-Some.place (sym c.place_of.ensures ∙ c.in-Some.is) in
    let read = first_is (has_number c.args.session) c.args.sessions.now c.in-Some.place c.index-sessions-place.result there c.index-sessions-place.is in
    c.turn.ensures ∙ ap (λ (s : SessionState). turn_of (answer_by_slot c.args.request.now.sequence (slice_get s.slots c.args.request.now.slot))) (c.index-sessions-place.is ∙ read)
    ∙ sym (ap (λ (s : Option SessionState). turn_of (answer_by_session c.args.request.now s)) there.finds)

pub returns-in-None : goal.returns-in-None
returns-in-None c =
    let gone = missing (has_number c.args.session) c.args.sessions.now (sym c.place_of.ensures ∙ c.in-None.is) in
    sym (ap (λ (s : Option SessionState). turn_of (answer_by_session c.args.request.now s)) gone.finds)
