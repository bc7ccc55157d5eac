-- A step of a client, from its begin to its end.
use Rattle.std.proofs.Common.{◌≡◌, true, false, Result, Ok, Err, [], ◌++◌, map, ap, ◌∙◌, subst}
use Rattle.std.specs.Prelude.{OnOk, OnErr}
use Rattle.ff_xdr.specs.declared.error.NoMemory.{NoMemory}
use Rattle.cluster_model.specs.declared.outbox.Outbox.{Outbox}
use Rattle.client_state.specs.ClientStates.{ClientValue}
use Rattle.client_state.specs.ClientSends.{ClientStep, spelled_send}
use Rattle.client_state.specs.QueueSteps.{HasStepped}
use Rattle.mirror_client.specs.ClientSteps.{ClientOfUser, StepsBy}

module _ (rule : ClientValue → ClientStep) (old new : ClientOfUser) (before own own' after : Outbox) (c c' : ClientValue)
    (was : old.is_spent ≡ false) (same : c ≡ old.client) (no_entries : own.entries.items ≡ []) (no_sends : own.sends.items ≡ [])
    (stepped : HasStepped (rule c) own c' own') (client : new.client ≡ c') where
  handed_over : after.entries.items ≡ before.entries.items ++ own'.entries.items → after.sends.items ≡ before.sends.items ++ own'.sends.items → HasStepped (rule old.client) before new.client after
  handed_over entries sends = subst (λ (x : ClientValue). HasStepped (rule x) before new.client after) same (record {
    client = client ∙ stepped.client;
    entries = entries ∙ ap (λ xs. before.entries.items ++ xs) (stepped.entries ∙ ap (λ xs. xs ++ (rule c).entries) no_entries);
    sends = sends ∙ ap (λ xs. before.sends.items ++ xs) (stepped.sends ∙ ap (λ xs. xs ++ map spelled_send (rule c).sends) no_sends);
  })

  pub ended : (result : Result (Unit {0}) NoMemory) → OnOk result (new.is_spent ≡ false) → OnErr result (new.is_spent ≡ true)
      → OnOk result (after.entries.items ≡ before.entries.items ++ own'.entries.items) → OnOk result (after.sends.items ≡ before.sends.items ++ own'.sends.items)
      → OnErr result (after.entries.items ≡ before.entries.items) → OnErr result (after.sends.items ≡ before.sends.items)
      → StepsBy rule old before result new after
  ended (Ok done) is spent entries sends kept held = (was, is, handed_over entries sends)
  ended (Err wanted) is spent entries sends kept held = (spent, kept, held)
