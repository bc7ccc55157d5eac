use Rattle.std.proofs.Common.{sym, ap, ◌∙◌}
use Rattle.std.specs.Prelude.{slice_get}
use Rattle.nfs4_session.specs.Clients.{SessionState, has_number}
use Rattle.nfs4_session.specs.Turns.{kept_at_slot, kept_in_session}
use Rattle.nfs4_session.proofs.FirstLemmas.{found, first_is, missing}
use Rattle.nfs4_session.proofs.client_sessions.kept_in.Goals as goal

pub returns-in-Some : goal.returns-in-Some
returns-in-Some c =
    let there = found (has_number c.args.session) c.args.sessions.now c.in-Some.place (sym c.place_of.ensures ∙ c.in-Some.is) in
    let read = first_is (has_number c.args.session) c.args.sessions.now c.in-Some.place c.index-sessions-place.result there c.index-sessions-place.is in
    c.kept.ensures ∙ ap (λ (s : SessionState). kept_at_slot (slice_get s.slots c.args.slot)) (c.index-sessions-place.is ∙ read)
    ∙ sym (ap (kept_in_session c.args.slot) there.finds)

pub returns-in-None : goal.returns-in-None
returns-in-None c =
    let gone = missing (has_number c.args.session) c.args.sessions.now (sym c.place_of.ensures ∙ c.in-None.is) in
    sym (ap (kept_in_session c.args.slot) gone.finds)
