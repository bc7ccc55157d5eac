-- What sending over a network does, from what its parts do.
use Rattle.std.proofs.Common.{◌≡◌, ℕ, ◌≤◌, arith, inr, List, [], ◌∷◌, Option, Some, Result, Ok, refl, sym, ap, subst, ◌∙◌}
use Rattle.ff_xdr.specs.declared.error.NoMemory.{NoMemory}
use Rattle.cluster_model.specs.declared.ids.NodeId.{NodeId}
use Rattle.cluster_model.specs.declared.ids.NodeId.TheVariants.{Mds, Server}
use Rattle.record_link.specs.Messages.{is_call_record}
use Rattle.record_server.specs.Server.{GivesRecord, ServingState}
use Rattle.node_link.specs.Callees.{CalleesValue, IsFrom}
use Rattle.waiting_calls.specs.declared.link_call.LinkCall.{LinkCall}
use Rattle.waiting_calls.specs.LinkCalls.{LinkCallsValue, earliest, earliest_of, record_comes, replied_number}
use Rattle.waiting_calls.specs.LinkMoves.{DoesMove, RecordComesIn}
use Rattle.node_link.specs.declared.silence.Silence.{Silence}
use Rattle.node_link.specs.Silence.{behind_arrival}
use Rattle.node_link.specs.NodeLinks.{LinkState, CallGoesOutIf, GivesOneReady, SendsMadeOr, SendsWhere, SendsTo, address_to}

-- a call waits from the moment that the connections know
goes_at : (to : NodeId) (bytes message : List ℕ) (now time : ℕ) (calls calls' : LinkCallsValue) → bytes ≡ message → now ≡ time → CallGoesOutIf (is_call_record bytes) now to bytes calls calls' → CallGoesOutIf (is_call_record message) time to message calls calls'
goes_at to bytes message now time calls calls' same at goes =
    subst (λ (m : List ℕ). CallGoesOutIf (is_call_record m) time to m calls calls') same (subst (λ (t : ℕ). CallGoesOutIf (is_call_record bytes) t to bytes calls calls') at goes)

-- the record was sent, by nodes, and waits if it is a call
module _ (l : LinkState) (to : NodeId) (bytes message : List ℕ) (now : ℕ) (s s' : ServingState) (callees' : CalleesValue) (calls' : LinkCallsValue) (result : Result (Unit {0}) NoMemory) (is_open : l.server ≡ Some s) (same : bytes ≡ message) (at : now ≡ s.time)
    (goes : CallGoesOutIf (is_call_record bytes) now to bytes l.calls calls') where
  sent : SendsWhere l to message s l.callees result s' callees' → SendsTo l to message result (record l { server = Some s'; callees = callees'; calls = calls' })
  sent sends = inr (inr (s, s', is_open, refl, sends, goes_at to bytes message now s.time l.calls calls' same at goes))

  pub to_mds : to ≡ Mds → SendsMadeOr to l.mds message s l.callees result s' callees' → SendsTo l to message result (record l { server = Some s'; callees = callees'; calls = calls' })
  to_mds is sends = sent (subst (λ (n : NodeId). SendsMadeOr n l.mds message s l.callees result s' callees' → SendsWhere l n message s l.callees result s' callees') (sym is) (λ its. its) sends)

  pub to_server : (n : ℕ) → to ≡ Server n → SendsMadeOr (Server n) (address_to l (Server n)) message s l.callees result s' callees' → SendsTo l to message result (record l { server = Some s'; callees = callees'; calls = calls' })
  to_server n is sends = sent (subst (λ (m : NodeId). SendsWhere l m message s l.callees result s' callees') (sym is) sends)

-- ---- a record that came already

at_once_none : (now : ℕ) (waiting at_once : List LinkCall) → (earliest_of now waiting at_once ≤ now → ⊥) → at_once ≡ []
at_once_none now waiting [] later = refl
at_once_none now waiting (call ∷ calls) later = absurd (later (omega arith))

pub one_ready : (l : LinkState) (s s' : ServingState) (until : ℕ) (handed : Option (ℕ × List ℕ)) (number : ℕ) (from : NodeId) (bytes message : List ℕ) (now : ℕ) (replied : Option ℕ) (calls' : LinkCallsValue) (silence' : Silence) → l.server ≡ Some s → (earlier : ℕ) → (earliest earlier l.calls ≤ earlier → ⊥) → handed ≡ Some (number, bytes) → GivesRecord until s (Ok handed) s'
    → IsFrom number l.callees from → now ≡ s'.time → message ≡ bytes → replied ≡ replied_number message → calls' ≡ record_comes now from replied l.calls → silence' ≡ behind_arrival now l.silence
    → GivesOneReady l (Some (from, bytes)) (record l { server = Some s'; calls = calls'; silence = silence' })
one_ready l s s' until handed number from bytes message now replied calls' silence' is_open earlier later is gives is_from at same reply moves waits =
    let its : replied ≡ replied_number bytes = reply ∙ ap replied_number same in
    let move : DoesMove (RecordComesIn s'.time from (replied_number bytes)) l.calls calls' =
    subst (λ (r : Option ℕ). DoesMove (RecordComesIn s'.time from r) l.calls calls') its (subst (λ (t : ℕ). DoesMove (RecordComesIn t from replied) l.calls calls') at (at_once_none earlier l.calls.waiting l.calls.at_once later, moves)) in
    inr (s, s', is_open, refl, ((number, subst (λ (o : Option (ℕ × List ℕ)). GivesRecord until s (Ok o) s') is gives, is_from), move, waits ∙ ap (λ (t : ℕ). behind_arrival t l.silence) at))
