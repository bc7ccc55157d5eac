-- A record that spells a call.
use Rattle.std.proofs.Common.{◌≡◌, ℕ, List, [], ◌∷◌, ◌++◌, Option, Some, None, Result, sym, ap, ◌∙◌, subst, append-nil}
use Rattle.std.specs.Prelude.{IfOk}
use Rattle.cluster_model.specs.declared.outbox.Outbox.{Outbox}
use Rattle.cluster_model.specs.declared.ids.NodeId.TheVariants.{Mds}
use Rattle.ff_xdr.specs.declared.error.NoMemory.{NoMemory}
use Rattle.client_state.specs.ClientStates.{ClientValue}
use Rattle.client_mds_calls.specs.declared.ask.MdsAsk.{MdsAsk}
use Rattle.client_mds_calls.specs.MdsCalls.{SlotCallValue, MdsCallValue}
use Rattle.client_mds_calls.specs.MdsCompounds.{mds_call_bytes}
use Rattle.client_state.specs.declared.tie.OwnSession.{OwnSession}
use Rattle.client_state.specs.declared.tie.Tie.TheVariants.{HasSession}
use Rattle.client_state.specs.QueueSteps.{HasStepped}
use Rattle.client_calls.specs.ClientCalls.{on_slot, asked_by, asks_as}
use Rattle.client_calls.specs.CallSteps.{spelled}

-- a record that spells the same call
pub spelled_as : (c : ClientValue) (s : OwnSession) (call call' : SlotCallValue) (result : Result (Option (List ℕ)) NoMemory) → call ≡ call'
    → IfOk result (λ m. m ≡ spelled c (on_slot (HasSession s) (Some call))) → IfOk result (λ m. m ≡ spelled c (on_slot (HasSession s) (Some call')))
spelled_as c s call call' result same h = subst (λ x. IfOk result (λ m. m ≡ spelled c (on_slot (HasSession s) (Some x)))) same h

-- it is asked by this record
pub asked_so : (c : ClientValue) (kind : MdsAsk) (call : Option MdsCallValue) (message : List ℕ) (d : ClientValue) (old new : Outbox) → spelled c call ≡ Some message → d ≡ asked_by c kind message
    → new.entries.items ≡ old.entries.items → new.sends.items ≡ old.sends.items ++ (Mds, message) ∷ [] → HasStepped (asks_as c kind call) old d new
asked_so c kind None message d old new some is entries sends = absurd (cc (some))
asked_so c kind (Some call) message d old new some is entries sends =
    let same : message ≡ mds_call_bytes c.next_xid c.name call = cc (some) in
    record {
      client = is ∙ ap (asked_by c kind) same;
      entries = entries ∙ sym (append-nil old.entries.items);
      sends = sends ∙ ap (λ (m : List ℕ). old.sends.items ++ (Mds, m) ∷ []) same;
    }
