-- What the functions that send calls do: the values of the rule, in place of what a client has and puts out.
use Rattle.std.specs.Prelude.{◌≡◌, ℕ, Bool, true, false, List, [], ◌∷◌, ◌++◌, Option, Some, None}
use Rattle.cluster_model.specs.declared.outbox.Outbox.{Outbox}
use Rattle.mirror_writer.specs.Writers.{WriterSends}
use Rattle.client_mds_calls.specs.declared.ask.MdsAsk.{MdsAsk}
use Rattle.client_mds_calls.specs.MdsCalls.{MdsCallValue}
use Rattle.client_mds_calls.specs.MdsCompounds.{mds_call_bytes}
use Rattle.client_state.specs.declared.layout.Layout.{Layout}
use Rattle.client_state.specs.ClientStates.{ClientValue}
use Rattle.client_state.specs.ClientQueue.{with_writer}
use Rattle.client_state.specs.ClientSends.{CallsServer, spelled_send}
use Rattle.client_calls.specs.ClientCalls.{call_by_ask}

-- whether a call was sent to a mirror, and which
abbrev pub HasSent : Option WriterSends → List ℕ → ℕ → Layout → Bool → Outbox → Layout → Outbox → Type 0
HasSent None name xid old sent before new after = (sent ≡ false) × (new ≡ old) × (after.entries.items ≡ before.entries.items) × (after.sends.items ≡ before.sends.items)
HasSent (Some s) name xid old sent before new after =
    (sent ≡ true) × (new ≡ with_writer old s.writer) × (after.entries.items ≡ before.entries.items)
    × (after.sends.items ≡ before.sends.items ++ spelled_send (CallsServer s.id.server xid name old.writer.cred s.call) ∷ [])

-- the record of a compound, under the next number
abbrev pub spelled : ClientValue → Option MdsCallValue → Option (List ℕ)
spelled c None = None
spelled c (Some call) = Some (mds_call_bytes c.next_xid c.name call)

abbrev pub compound_message : ClientValue → MdsAsk → Option (List ℕ)
compound_message c kind = spelled c (call_by_ask c kind)
