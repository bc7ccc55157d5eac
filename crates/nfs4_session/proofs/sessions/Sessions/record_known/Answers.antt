use Rattle.std.proofs.Common.{true, false, Some, sym, ap, ◌∙◌}
use Rattle.std.specs.Prelude.{option_copied}
use Rattle.std.specs.List.{find}
use Rattle.nfs4_session.specs.ExchangeIds.{is_by}
use Rattle.nfs4_session.proofs.TakesIn.{copied_none, known_again}
use Rattle.nfs4_session.proofs.sessions.Sessions.record_known.Goals as goal

pub returns-in-Some-sought : goal.returns-in-Some-sought
returns-in-Some-sought c =
    let o = c.args.owner.now in
    let v = c.args.verifier in
    let none = copied_none c.sought.result _ (c.sought.ensures ∙ ap (find (is_by true v o)) c.clients-clients.ensures) c.in_default.not-Some in
    let again = sym (c.sought-2.ensures ∙ ap (find (is_by false v o)) c.clients-clients.ensures) ∙ ap option_copied c.in-Some-sought.is in
    ap Some c.exchanged-in-Some-sought.ensures ∙ sym (known_again c.args.self.now.clients v o c.in-Some-sought.record.now none again)
