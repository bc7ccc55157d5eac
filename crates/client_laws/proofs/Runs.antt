-- Every run of a client.
use Rattle.std.proofs.lemmas.Option.{none-some}
use Rattle.client_laws.specs.RecallLaws.{KeepsRecalled}
use Rattle.client_laws.proofs.SlotSteps.{input_slot}
use Rattle.client_laws.proofs.SlotKept.{SlotStands, slot_later}
use Rattle.std.proofs.Common.{◌≡◌, ℕ, List, [], ◌∷◌, ◌++◌, subst, ◌∙◌, refl}
use Rattle.std.proofs.lemmas.List.{append_assoc}
use Rattle.client_state.specs.ClientStates.{ClientValue, fresh_client}
use Rattle.client_laws.specs.ClientHistory.{ClientInput, input_step, HistoryItem, Hears, entered, sent, items_of, client_history, Each}
use Rattle.client_laws.specs.ClientRunLaws.{SendsAlone, TellsCommitted, ReturnsCommitted, KeepsSilent, WritesApart, InEachRun}
use Rattle.client_laws.proofs.Orders.{each_append, each_weaker}
use Rattle.client_laws.proofs.Goes.{IsRight, StepGoes}
use Rattle.client_laws.proofs.Events.{input_goes}
use Rattle.client_laws.proofs.Stands.{Stands}

pub fresh_stands : (number verifier first_xid : ℕ) → Stands [] (fresh_client number verifier first_xid)
fresh_stands number verifier first_xid = record {
  numbers = record { below = λ s xid i is some. absurd i; once = λ s t xid i j is same. absurd i };
  replied = λ xid caller call i. absurd i;
  asked_out = tt;
  alone = tt;
  layout_stands = tt;
  taken_under = λ file cred at bytes i. absurd i;
  gets_again = λ is. refl;
  returns_again = λ is. tt;
}

pub fresh_slot : (number verifier first_xid : ℕ) → SlotStands [] (fresh_client number verifier first_xid).tie
fresh_slot number verifier first_xid k status is kept = absurd (none-some k is)

run_goes : (inputs : List ClientInput) (h : List HistoryItem) (c : ClientValue) → Stands h c → SlotStands h c.tie → Each IsRight h (client_history c inputs)
run_goes [] h c s slot = tt
run_goes (input ∷ inputs) h c s slot =
    let g : StepGoes (h ++ Hears input ∷ []) (input_step input c) = input_goes h c input s slot in
    let heard : List HistoryItem = h ++ Hears input ∷ [] in
    let e : List HistoryItem = entered (input_step input c).entries in
    let t : List HistoryItem = sent (input_step input c).sends in
    let whole : (heard ++ e) ++ t ≡ h ++ (Hears input ∷ (e ++ t)) = append_assoc heard e t ∙ append_assoc h (Hears input ∷ []) (e ++ t) in
    each_append IsRight h (items_of input (input_step input c)) (client_history (input_step input c).client inputs)
    ((tt, tt, tt, tt, tt, tt), each_append IsRight heard e t g.entries g.sends)
    (run_goes inputs (h ++ items_of input (input_step input c)) (input_step input c).client (subst (λ l. Stands l (input_step input c).client) whole g.stands)
    (subst (λ l. SlotStands l (input_step input c).client.tie) (append_assoc h (Hears input ∷ []) (e ++ t)) (slot_later heard (e ++ t) (input_step input c).client.tie (input_slot h c input slot))))

module _ (P : List HistoryItem → HistoryItem → Type 0) (one : (past : List HistoryItem) (item : HistoryItem) → IsRight past item → P past item) where
  in_each : InEachRun P
  in_each number verifier first_xid inputs = each_weaker IsRight P one [] (client_history (fresh_client number verifier first_xid) inputs) (run_goes inputs [] (fresh_client number verifier first_xid) (fresh_stands number verifier first_xid) (fresh_slot number verifier first_xid))

pub alone : InEachRun SendsAlone
alone = in_each SendsAlone (λ past item is. is.0)

pub tells : InEachRun TellsCommitted
tells = in_each TellsCommitted (λ past item is. is.1)

pub returns : InEachRun ReturnsCommitted
returns = in_each ReturnsCommitted (λ past item is. is.2)

pub silent : InEachRun KeepsSilent
silent = in_each KeepsSilent (λ past item is. is.3)

pub once : InEachRun WritesApart
once = in_each WritesApart (λ past item is. is.4)

pub recalled : InEachRun KeepsRecalled
recalled = in_each KeepsRecalled (λ past item is. is.5)
