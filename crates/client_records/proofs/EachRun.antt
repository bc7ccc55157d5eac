-- What holds in each run of a client, from its start on.
use Rattle.std.proofs.Common.{◌≡◌, ℕ, List, [], ◌∷◌, ◌++◌, subst, ◌∙◌}
use Rattle.std.specs.List.{AllByRecursion}
use Rattle.std.proofs.lemmas.List.{append_assoc}
use Rattle.client_state.specs.ClientStates.{ClientValue, fresh_client}
use Rattle.client_state.specs.ClientSends.{ClientStep}
use Rattle.client_laws.specs.ClientHistory.{ClientInput, input_step, HistoryItem, Hears, entered, sent, items_of}
use Rattle.client_laws.proofs.Goes.{StepGoes}
use Rattle.client_laws.proofs.Events.{input_goes}
use Rattle.client_laws.proofs.SlotKept.{SlotStands, slot_later}
use Rattle.client_laws.proofs.SlotSteps.{input_slot}
use Rattle.client_laws.proofs.Stands.{Stands}
use Rattle.client_laws.proofs.Runs.{fresh_stands, fresh_slot}
use Rattle.client_records.proofs.Cases.{Cases}
use Rattle.client_records.proofs.InputsKeep.{RunIs, run_keeps}

-- what client_laws shows of a client before each input
abbrev pub Base : List HistoryItem → ClientValue → Type 0
Base h c = Stands h c × SlotStands h c.tie

base_goes : (h : List HistoryItem) (c : ClientValue) (input : ClientInput) → Base h c → Base (h ++ items_of input (input_step input c)) (input_step input c).client
base_goes h c input base =
    let s : ClientStep = input_step input c in
    let heard : List HistoryItem = h ++ Hears input ∷ [] in
    let e : List HistoryItem = entered s.entries in
    let t : List HistoryItem = sent s.sends in
    let g : StepGoes heard s = input_goes h c input base.0 base.1 in
    let whole : (heard ++ e) ++ t ≡ h ++ (Hears input ∷ (e ++ t)) = append_assoc heard e t ∙ append_assoc h (Hears input ∷ []) (e ++ t) in (
      subst (λ (l : List HistoryItem). Stands l s.client) whole g.stands,
      subst (λ (l : List HistoryItem). SlotStands l s.client.tie) (append_assoc h (Hears input ∷ []) (e ++ t)) (slot_later heard (e ++ t) s.client.tie (input_slot h c input base.1)),
    )

pub in_each_run : (Q : ClientInput → Type 0) (I : List HistoryItem → ClientValue → Type 0) (P : List HistoryItem → HistoryItem → Type 0) → Cases Base Q I P → (number verifier first_xid : ℕ) (inputs : List ClientInput)
    → AllByRecursion Q inputs → I [] (fresh_client number verifier first_xid) → RunIs I P [] (fresh_client number verifier first_xid) inputs
in_each_run Q I P k number verifier first_xid inputs all i =
    run_keeps Base Q I P k base_goes inputs [] (fresh_client number verifier first_xid) all (fresh_stands number verifier first_xid, fresh_slot number verifier first_xid) i

pub any_inputs : (inputs : List ClientInput) → AllByRecursion (λ (input : ClientInput). Unit {0}) inputs
any_inputs [] = tt
any_inputs (input ∷ inputs) = (tt, any_inputs inputs)
