-- What the functions behind a timeout do: the values of the rule, in place of what a client has and puts out.
use Rattle.std.specs.Prelude.{◌≡◌, ℕ, [], ◌∷◌, ◌++◌, Option, Some, None}
use Rattle.ds_calls.specs.MadeCalls.{ds_call_bytes}
use Rattle.mirror_writer.specs.Outstanding.{OutCall, out_at}
use Rattle.client_answers.specs.declared.late.Late.{Late}
use Rattle.cluster_model.specs.declared.outbox.Outbox.{Outbox}
use Rattle.mirror_writer.specs.declared.step.WriterStep.{WriterStep}
use Rattle.mirror_writer.specs.declared.step.WriterStep.TheVariants as step
use Rattle.mirror_writer.specs.Writers.{after_timeout}
use Rattle.client_state.specs.declared.layout.Layout.{Layout}
use Rattle.client_state.specs.ClientStates.{ClientValue}
use Rattle.client_state.specs.ClientQueue.{with_writer}
use Rattle.client_answers.specs.ClientMirrors.{is_commit}
use Rattle.client_state.specs.ClientSends.{SendValue}

-- the call that is outstanding at a data server
abbrev pub out_under : Option Layout → ℕ → Option OutCall
out_under None server = None
out_under (Some l) server = out_at l.writer server

-- the uid of the calls under a layout
abbrev pub cred_of : Option Layout → ℕ
cred_of None = 0
cred_of (Some l) = l.writer.cred

-- its number, and its record
abbrev pub IsLate : ClientValue → Option OutCall → Option Late → Type 0
IsLate c None late = late ≡ None
IsLate c (Some out) None = ⊥
IsLate c (Some out) (Some late) =
    (late.xid ≡ out.xid) × (late.is_commit ≡ is_commit out.call) × (late.message ≡ ds_call_bytes out.xid c.name (cred_of c.layout) out.call)

-- what the writer came to by a timeout
pub record TimesOut (old : Layout) (xid : ℕ) (came : WriterStep) (new : Layout) : Type 0 where
  pub writer : record { writer = new.writer; step = came } ≡ after_timeout old.writer xid
  pub rest : new ≡ with_writer old new.writer

-- a record goes out again, where the writer goes on
abbrev pub SendsAgain : WriterStep → SendValue → Outbox → Outbox → Type 0
SendsAgain step.Waiting s old new = (new.entries.items ≡ old.entries.items) × (new.sends.items ≡ old.sends.items ++ s ∷ [])
SendsAgain came s old new = (new.entries.items ≡ old.entries.items) × (new.sends.items ≡ old.sends.items)
