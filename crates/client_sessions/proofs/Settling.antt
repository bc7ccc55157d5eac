-- A reply settles what it answers, and a layout that has ended settles the LAYOUTGET that brought it.
use Rattle.std.proofs.Common.{◌≡◌, ℕ, Bool, true, false, List, [], ◌∷◌, ◌++◌, Option, Some, None, Ok, refl, sym, ap, subst, ◌∙◌, inl, inr, ◌⊎◌}
use Rattle.std.specs.List.{AllByRecursion}
use Rattle.rpc_record.specs.Replies.{RpcReply, reply_at}
use Rattle.nfs4_types.specs.declared.ids.SessionId.{SessionId}
use Rattle.nfs4_types.specs.declared.stateid.Stateid.{Stateid}
use Rattle.cluster_model.specs.declared.ids.NodeId.TheVariants.{Mds}
use Rattle.cluster_model.specs.declared.ids.FileId.{FileId}
use Rattle.mirror_writer.specs.Writers.{WriterValue, new_writer}
use Rattle.client_file_calls.specs.declared.open.OpenFile.{OpenFile}
use Rattle.client_file_calls.specs.declared.grant.LayoutGrant.{LayoutGrant}
use Rattle.client_mds_calls.specs.declared.ask.MdsAsk.{MdsAsk}
use Rattle.client_mds_calls.specs.declared.ask.MdsAsk.TheVariants as ask
use Rattle.client_mds_calls.specs.declared.reply.SlotReport.TheVariants.{Delayed}
use Rattle.client_mds_calls.specs.MdsCalls.{MdsCallValue, ExchangeId, CreateSession, OnSlot, SlotCallValue, ask_on_slot, ask_of}
use Rattle.client_mds_calls.specs.MdsCalls as slot
use Rattle.client_mds_calls.specs.MdsReplies.{MdsAnswerValue, MdsReplyValue, Granted, Returned, Refused, reply_of_ask}
use Rattle.client_state.specs.declared.layout.Layout.{Layout}
use Rattle.client_state.specs.declared.asked.Asked.{Asked}
use Rattle.client_state.specs.declared.tie.Tie.{Tie}
use Rattle.client_state.specs.declared.tie.Tie.TheVariants.{NoClient, HasClient, HasSession}
use Rattle.client_state.specs.ClientStates.{ClientValue}
use Rattle.client_state.specs.ClientSends.{ClientSend, CallsServer, CallsMds, RepeatsToServer, RepeatsToMds, RepliesToMds}
use Rattle.client_laws.specs.ClientHistory.{ClientInput, HistoryItem, Hears, Sends, Recorded, HasItem}
use Rattle.client_laws.proofs.Stands.{NumbersStand, IfThere, IsOut}
use Rattle.client_sessions.specs.HeardReplies.{IsHeard, IsNoCompound}
use Rattle.client_sessions.specs.LayoutEnds.{HasLayoutEnded, ByReturn, BySession, IsAskSettled}
use Rattle.client_sessions.proofs.HeardLater.{heard_later, heard_sent, settled_later}
use Rattle.client_sessions.proofs.CallsMade.{IsOnSession, IsBy}
use Rattle.client_sessions.proofs.SlotStands.{AskedOut, asked_sent, asked_heard}
use Rattle.client_sessions.proofs.LayoutsHeld.{LayoutOf, AskedSince, IsHere, IsSlotReturn, IsReturnCall}

-- ---- by what was sent

-- it is settled where it is a LAYOUTGET
abbrev SettledCall : List HistoryItem → ℕ → List ℕ → MdsCallValue → Type 0
SettledCall past xid name (OnSlot session sequence (slot.LayoutGet file)) = IsAskSettled past xid name session sequence file
SettledCall past xid name call = Unit {0}

abbrev SettledSend : List HistoryItem → ClientSend → Type 0
SettledSend past (CallsMds xid name call) = SettledCall past xid name call
SettledSend past send = Unit {0}

-- whatever has the number of one that is settled is settled
settled_once : (h past : List HistoryItem) (next : ℕ) → NumbersStand h next → (xid : ℕ) (own : List ℕ) (call : MdsCallValue) → HasItem h (Sends (CallsMds xid own call)) → SettledCall past xid own call
    → (number : ℕ) (name : List ℕ) (session : SessionId) (sequence : ℕ) (other : OpenFile) → xid ≡ number → HasItem h (Sends (CallsMds number name (OnSlot session sequence (slot.LayoutGet other)))) → IsAskSettled past number name session sequence other
settled_once h past next numbers xid own call sent settled number name session sequence other same i =
    subst (SettledSend past) (numbers.once (CallsMds xid own call) (CallsMds number name (OnSlot session sequence (slot.LayoutGet other))) xid sent i refl (ap Some (sym same))) settled

-- ---- by a reply

module _ (h : List HistoryItem) (name : List ℕ) (tie : Tie) (file : Option OpenFile) (xid : ℕ) (kind : MdsAsk) (out : AskedOut h name tie file xid kind) (bytes : List ℕ) (now : ℕ) (reply : RpcReply) (reply_is : reply_at bytes ≡ Ok reply) (number : xid ≡ reply.xid) where
  reply_settles : ((reply_of_ask kind reply).slot ≡ Delayed → ⊥) → ((g : LayoutGrant) → (reply_of_ask kind reply).answer ≡ Granted g → ⊥) → (call : MdsCallValue) → out.call ≡ call → SettledCall (h ++ Hears (Recorded Mds bytes now) ∷ []) xid name call
  reply_settles final none (ExchangeId verifier) same = tt
  reply_settles final none (CreateSession clientid sequence) same = tt
  reply_settles final none (OnSlot session sequence call) same = by_slot call same
    where
      by_slot : (call : SlotCallValue) → out.call ≡ OnSlot session sequence call → SettledCall (h ++ Hears (Recorded Mds bytes now) ∷ []) xid name (OnSlot session sequence call)
      by_slot (slot.LayoutGet f) same = record {
        says = reply_of_ask kind reply;
        behind = [];
        heard = asked_heard h name tie file xid kind out bytes now reply reply_is number (OnSlot session sequence (slot.LayoutGet f)) same;
        quiet = out.quiet;
        final = final;
        ended = λ g is. absurd (none g is);
      }
      by_slot slot.ReclaimComplete same = tt
      by_slot (slot.Open other) same = tt
      by_slot (slot.DeviceInfo servers) same = tt
      by_slot (slot.Write f at data_of) same = tt
      by_slot (slot.Read f at count) same = tt
      by_slot (slot.LayoutReturn f stateid failed) same = tt
      by_slot slot.Renew same = tt

  -- a LAYOUTGET that was out is settled by a reply that grants nothing and is final
  pub out_settles : (next : ℕ) → NumbersStand h next → ((reply_of_ask kind reply).slot ≡ Delayed → ⊥) → ((g : LayoutGrant) → (reply_of_ask kind reply).answer ≡ Granted g → ⊥)
      → (number : ℕ) (caller : List ℕ) (session : SessionId) (sequence : ℕ) (other : OpenFile) → xid ≡ number → HasItem h (Sends (CallsMds number caller (OnSlot session sequence (slot.LayoutGet other))))
      → IsAskSettled (h ++ Hears (Recorded Mds bytes now) ∷ []) number caller session sequence other
  out_settles next numbers final none = settled_once h (h ++ Hears (Recorded Mds bytes now) ∷ []) next numbers xid name out.call (asked_sent h name tie file xid kind out) (reply_settles final none out.call refl)

-- ---- by the end of a layout

same_grant : (g k : LayoutGrant) → Granted g ≡ Granted k → g ≡ k
same_grant g k is = cc

module _ (past : List HistoryItem) (held : ℕ) (name : List ℕ) (tie : Tie) (file : Option OpenFile) (asked : Option Asked) (stateid : Stateid) (writer : WriterValue) (o : LayoutOf past held name tie file asked stateid writer) (more : List HistoryItem) where
  held_settles : HasLayoutEnded (o.behind ++ more) o.session o.other.file o.grant → IsAskSettled (past ++ more) held name o.session o.sequence o.other
  held_settles ended = record {
    says = o.says;
    behind = o.behind ++ more;
    heard = heard_later past more held name (OnSlot o.session o.sequence (slot.LayoutGet o.other)) o.says o.behind o.heard;
    quiet = o.quiet;
    final = o.final;
    ended = λ g is. subst (λ (k : LayoutGrant). HasLayoutEnded (o.behind ++ more) o.session o.other.file k) (same_grant o.grant g (sym o.is ∙ is)) ended;
  }

  pub layout_settles : (next : ℕ) → NumbersStand past next → HasLayoutEnded (o.behind ++ more) o.session o.other.file o.grant
      → (number : ℕ) (caller : List ℕ) (session : SessionId) (sequence : ℕ) (other : OpenFile) → held ≡ number → HasItem past (Sends (CallsMds number caller (OnSlot session sequence (slot.LayoutGet other))))
      → IsAskSettled (past ++ more) number caller session sequence other
  layout_settles next numbers ended =
      settled_once past (past ++ more) next numbers held name (OnSlot o.session o.sequence (slot.LayoutGet o.other)) (heard_sent past held name (OnSlot o.session o.sequence (slot.LayoutGet o.other)) o.says o.behind o.heard) (held_settles ended)

-- ---- the ends by a reply of the metadata server

module _ (past : List HistoryItem) (held : ℕ) (name : List ℕ) (tie : Tie) (file : Option OpenFile) (asked : Option Asked) (a : Asked) (at : asked ≡ Some a) (stateid : Stateid) (writer : WriterValue) (o : LayoutOf past held name tie file asked stateid writer) (bytes : List ℕ) (now : ℕ)
    (reply : RpcReply) (reply_is : reply_at bytes ≡ Ok reply) (number : a.xid ≡ reply.xid) where
  its_since : AskedSince o.behind name tie file o.other.file o.grant.stateid a.xid a.ask
  its_since = subst (λ (k : Option Asked). IfThere k (λ b. AskedSince o.behind name tie file o.other.file o.grant.stateid b.xid b.ask)) at o.since

  -- the session is gone
  pub ended_session : (reply_of_ask a.ask reply).answer ≡ Refused 10052 → HasLayoutEnded (o.behind ++ Hears (Recorded Mds bytes now) ∷ []) o.session o.other.file o.grant
  ended_session is = by_call its_since.out.call refl its_since.out.by
    where
      by_tie : (tie : Tie) → IsHere tie o.session → (session : SessionId) (sequence : ℕ) → IsOnSession tie session sequence → session ≡ o.session
      by_tie NoClient here session sequence by = absurd here
      by_tie (HasClient clientid number) here session sequence by = absurd here
      by_tie (HasSession s) here session sequence by = sym by.0 ∙ here

      none_here : (tie : Tie) → IsHere tie o.session → tie ≡ NoClient → ⊥
      none_here tie here is = subst (λ (t : Tie). IsHere t o.session) is here

      none_has : (tie : Tie) → IsHere tie o.session → (clientid sequence : ℕ) → tie ≡ HasClient clientid sequence → ⊥
      none_has tie here clientid sequence is = subst (λ (t : Tie). IsHere t o.session) is here

      by_call : (call : MdsCallValue) → its_since.out.call ≡ call → IsBy tie call → HasLayoutEnded (o.behind ++ Hears (Recorded Mds bytes now) ∷ []) o.session o.other.file o.grant
      by_call (ExchangeId verifier) same by = absurd (none_here tie o.on by)
      by_call (CreateSession clientid sequence) same by = absurd (none_has tie o.on clientid sequence by)
      by_call (OnSlot session sequence call) same by =
          BySession a.xid name sequence call (reply_of_ask a.ask reply) []
          (asked_heard o.behind name tie file a.xid a.ask its_since.out bytes now reply reply_is number (OnSlot o.session sequence call) (same ∙ ap (λ (id : SessionId). OnSlot id sequence call) (by_tie tie o.on session sequence by))) is

  -- it is given back, or its stateid is not known
  pub ended_return : a.ask ≡ ask.LayoutReturn → ((reply_of_ask a.ask reply).answer ≡ Returned) ⊎ ((reply_of_ask a.ask reply).answer ≡ Refused 10025) → HasLayoutEnded (o.behind ++ Hears (Recorded Mds bytes now) ∷ []) o.session o.other.file o.grant
  ended_return kind is = by_call its_since.out.call refl its_since.out.by its_since.returns (its_since.out.kind_is ∙ kind)
    where
      by_tie : (tie : Tie) → IsHere tie o.session → (session : SessionId) (sequence : ℕ) → IsOnSession tie session sequence → session ≡ o.session
      by_tie NoClient here session sequence by = absurd here
      by_tie (HasClient clientid number) here session sequence by = absurd here
      by_tie (HasSession s) here session sequence by = sym by.0 ∙ here

      by_slot : (session : SessionId) (sequence : ℕ) (call : SlotCallValue) → its_since.out.call ≡ OnSlot session sequence call → session ≡ o.session → IsSlotReturn o.other.file o.grant.stateid call → ask_on_slot call ≡ ask.LayoutReturn
          → HasLayoutEnded (o.behind ++ Hears (Recorded Mds bytes now) ∷ []) o.session o.other.file o.grant
      by_slot session sequence (slot.LayoutReturn id state failed) same here its its_kind =
          ByReturn a.xid name sequence failed (reply_of_ask a.ask reply) []
          (asked_heard o.behind name tie file a.xid a.ask its_since.out bytes now reply reply_is number (OnSlot o.session sequence (slot.LayoutReturn o.other.file o.grant.stateid failed))
          (same ∙ ap (λ (k : SessionId). OnSlot k sequence (slot.LayoutReturn id state failed)) here ∙ ap (λ (k : FileId). OnSlot o.session sequence (slot.LayoutReturn k state failed)) its.0 ∙ ap (λ (k : Stateid). OnSlot o.session sequence (slot.LayoutReturn o.other.file k failed)) its.1)) is
      by_slot session sequence (slot.LayoutGet f) same here its its_kind = absurd (cc (its_kind))
      by_slot session sequence slot.ReclaimComplete same here its its_kind = absurd (cc (its_kind))
      by_slot session sequence (slot.Open other) same here its its_kind = absurd (cc (its_kind))
      by_slot session sequence (slot.DeviceInfo servers) same here its its_kind = absurd (cc (its_kind))
      by_slot session sequence (slot.Write f at data_of) same here its its_kind = absurd (cc (its_kind))
      by_slot session sequence (slot.Read f at count) same here its its_kind = absurd (cc (its_kind))
      by_slot session sequence slot.Renew same here its its_kind = absurd (cc (its_kind))

      by_call : (call : MdsCallValue) → its_since.out.call ≡ call → IsBy tie call → IsReturnCall o.other.file o.grant.stateid its_since.out.call → ask_of its_since.out.call ≡ ask.LayoutReturn → HasLayoutEnded (o.behind ++ Hears (Recorded Mds bytes now) ∷ []) o.session o.other.file o.grant
      by_call (ExchangeId verifier) same by its its_kind = absurd (cc (ap ask_of same, its_kind))
      by_call (CreateSession clientid sequence) same by its its_kind = absurd (cc (ap ask_of same, its_kind))
      by_call (OnSlot session sequence call) same by its its_kind =
          by_slot session sequence call same (by_tie tie o.on session sequence by) (subst (IsReturnCall o.other.file o.grant.stateid) same its) (sym (ap ask_of same) ∙ its_kind)
