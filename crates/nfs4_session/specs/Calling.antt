-- The next callback, with the number of its session.
use Rattle.std.specs.Prelude.{ℕ, Option, Some, None}
use Rattle.nfs4_session.specs.declared.back.BackCall.{BackCall}
use Rattle.nfs4_session.specs.Clients.{SessionState}
use Rattle.nfs4_session.specs.Bindings.{back_call}

abbrev pub next_back_call : ℕ → Option SessionState → Option (ℕ × BackCall)
next_back_call client None = None
next_back_call client (Some session) = Some (session.number, back_call client session)
