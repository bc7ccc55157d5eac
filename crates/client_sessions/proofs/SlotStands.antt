-- How a client stands with its metadata server: on its id, on its session, and with a compound that is out.
use Rattle.std.proofs.Common.{◌≡◌, ℕ, Bool, true, false, List, [], ◌∷◌, ◌++◌, Option, Some, None, Ok, refl, sym, ap, subst, ◌∙◌, inl, inr, ◌⊎◌}
use Rattle.std.specs.Prelude.{◌==◌}
use Rattle.std.specs.List.{AllByRecursion}
use Rattle.std.proofs.lemmas.List.{append_assoc}
use Rattle.std.proofs.lemmas.Option.{none-some, same_Some}
use Rattle.rpc_record.specs.Replies.{RpcReply, reply_at}
use Rattle.nfs4_types.specs.declared.ids.DeviceId.{DeviceId}
use Rattle.nfs4_types.specs.declared.ids.SessionId.{SessionId}
use Rattle.nfs4_session.specs.CallbackSlot.{CbSlotState}
use Rattle.nfs4_session.specs.Slots.{sequence_after}
use Rattle.device_addr.specs.declared.net_addr.NetAddr.{NetAddr}
use Rattle.cluster_model.specs.declared.ids.NodeId.TheVariants.{Mds}
use Rattle.client_file_calls.specs.declared.open.OpenFile.{OpenFile}
use Rattle.client_mds_calls.specs.declared.ask.MdsAsk.{MdsAsk}
use Rattle.client_mds_calls.specs.declared.ask.MdsAsk.TheVariants as ask
use Rattle.client_mds_calls.specs.declared.reply.SlotReport.{SlotReport}
use Rattle.client_mds_calls.specs.declared.reply.SlotReport.TheVariants.{Taken, Uncached, Delayed, Unknown}
use Rattle.client_mds_calls.specs.MdsCalls.{MdsCallValue, ExchangeId, CreateSession, OnSlot, SlotCallValue, ask_of, takes_slot}
use Rattle.client_mds_calls.specs.MdsCalls as slot
use Rattle.client_mds_calls.specs.MdsReplies.{MdsReplyValue, Client, Session, Refused, reply_of_ask}
use Rattle.client_state.specs.declared.layout.Layout.{Layout}
use Rattle.client_state.specs.declared.asked.Asked.{Asked}
use Rattle.client_state.specs.declared.tie.OwnSession.{OwnSession}
use Rattle.client_state.specs.declared.tie.Tie.{Tie}
use Rattle.client_state.specs.declared.tie.Tie.TheVariants.{NoClient, HasClient, HasSession}
use Rattle.client_state.specs.ClientStates.{ClientValue, client_name}
use Rattle.client_state.specs.ClientSends.{CallsMds}
use Rattle.client_answers.specs.ClientAnswers.{moved_tie, fresh_session, has_session, is_for_later}
use Rattle.client_laws.specs.ClientHistory.{HistoryItem, Hears, Sends, Recorded, HasItem}
use Rattle.client_laws.proofs.Stands.{IfThere}
use Rattle.client_records.proofs.Cases.{IsTieBehind}
use Rattle.client_sessions.specs.HeardReplies.{IsHeard, IsNoCompound}
use Rattle.client_sessions.specs.ClientSessions.{WasGivenId, IsNew, IsAgain, WasGivenSession, IsNextOnSlot, IsFirst, IsBehind, StandsOn}
use Rattle.client_sessions.proofs.HeardLater.{all_more, id_later, slot_later}
use Rattle.client_sessions.proofs.CallsMade.{IsOnSession, IsBy, IsCallOf, KindStands, exchange_so, create_so}

-- ---- a compound that is out

abbrev pub IsSlotFile : Option OpenFile → SlotCallValue → Type 0
IsSlotFile file (slot.LayoutGet f) = file ≡ Some f
IsSlotFile file call = Unit {0}

-- a LAYOUTGET is of the file that is open
abbrev pub IsFileOf : Option OpenFile → MdsCallValue → Type 0
IsFileOf file (OnSlot session sequence call) = IsSlotFile file call
IsFileOf file call = Unit {0}

-- It was sent under this number, and no other went out since.
pub record AskedOut (h : List HistoryItem) (name : List ℕ) (tie : Tie) (file : Option OpenFile) (xid : ℕ) (kind : MdsAsk) : Type 0 where
  pub call : MdsCallValue
  pub before : List HistoryItem
  pub until : List HistoryItem
  pub split : h ≡ before ++ Sends (CallsMds xid name call) ∷ until
  pub quiet : AllByRecursion IsNoCompound until
  pub kind_is : ask_of call ≡ kind
  pub by : IsBy tie call
  pub its_file : IsFileOf file call

pub file_of : (file : Option OpenFile) (layout : Option Layout) (call : MdsCallValue) → IsCallOf file layout call → IsFileOf file call
file_of file layout (ExchangeId verifier) its = tt
file_of file layout (CreateSession clientid sequence) its = tt
file_of file layout (OnSlot session sequence call) its = by_call call its
  where
    by_call : (call : SlotCallValue) → IsCallOf file layout (OnSlot session sequence call) → IsSlotFile file call
    by_call (slot.LayoutGet f) its = its
    by_call slot.ReclaimComplete its = tt
    by_call (slot.Open name) its = tt
    by_call (slot.DeviceInfo servers) its = tt
    by_call (slot.Write f at bytes) its = tt
    by_call (slot.Read f at count) its = tt
    by_call (slot.LayoutReturn f stateid failed) its = tt
    by_call slot.Renew its = tt

abbrev pub asked_later : (h more : List HistoryItem) (name : List ℕ) (tie : Tie) (file : Option OpenFile) (xid : ℕ) (kind : MdsAsk) → AllByRecursion IsNoCompound more → AskedOut h name tie file xid kind → AskedOut (h ++ more) name tie file xid kind
asked_later h more name tie file xid kind none out = record {
  call = out.call;
  before = out.before;
  until = out.until ++ more;
  split = ap (λ l. l ++ more) out.split ∙ append_assoc out.before (Sends (CallsMds xid name out.call) ∷ out.until) more;
  quiet = all_more IsNoCompound out.until more out.quiet none;
  kind_is = out.kind_is;
  by = out.by;
  its_file = out.its_file;
}

-- it goes out now
abbrev pub asked_now : (h : List HistoryItem) (name : List ℕ) (tie : Tie) (file : Option OpenFile) (xid : ℕ) (kind : MdsAsk) (call : MdsCallValue) → ask_of call ≡ kind → IsBy tie call → IsFileOf file call
    → AskedOut (h ++ Sends (CallsMds xid name call) ∷ []) name tie file xid kind
asked_now h name tie file xid kind call is by its = record { call = call; before = h; until = []; split = refl; quiet = tt; kind_is = is; by = by; its_file = its }

pub asked_sent : (h : List HistoryItem) (name : List ℕ) (tie : Tie) (file : Option OpenFile) (xid : ℕ) (kind : MdsAsk) (out : AskedOut h name tie file xid kind) → HasItem h (Sends (CallsMds xid name out.call))
asked_sent h name tie file xid kind out = subst (λ l. HasItem l (Sends (CallsMds xid name out.call))) (sym out.split) (there out.before)
  where
    there : (a : List HistoryItem) → HasItem (a ++ Sends (CallsMds xid name out.call) ∷ out.until) (Sends (CallsMds xid name out.call))
    there [] = inl (refl, tt)
    there (y ∷ a) = inr (there a)

-- a reply under its number is heard
abbrev pub asked_heard : (h : List HistoryItem) (name : List ℕ) (tie : Tie) (file : Option OpenFile) (xid : ℕ) (kind : MdsAsk) (out : AskedOut h name tie file xid kind) (bytes : List ℕ) (now : ℕ) (reply : RpcReply) → reply_at bytes ≡ Ok reply → xid ≡ reply.xid
    → (call : MdsCallValue) → out.call ≡ call → IsHeard (h ++ Hears (Recorded Mds bytes now) ∷ []) xid name call (reply_of_ask kind reply) []
asked_heard h name tie file xid kind out bytes now reply is number call same = record {
  before = out.before;
  until = out.until;
  bytes = bytes;
  now = now;
  split =
      subst (λ (k : MdsCallValue). h ++ Hears (Recorded Mds bytes now) ∷ [] ≡ out.before ++ Sends (CallsMds xid name k) ∷ (out.until ++ Hears (Recorded Mds bytes now) ∷ [])) same
      (ap (λ l. l ++ Hears (Recorded Mds bytes now) ∷ []) out.split ∙ append_assoc out.before (Sends (CallsMds xid name out.call) ∷ out.until) (Hears (Recorded Mds bytes now) ∷ []));
  reply = reply;
  reply_is = is;
  number = sym number;
  says_so = ap (λ k. reply_of_ask k reply) (ap ask_of (sym same) ∙ out.kind_is);
}

-- ---- how the next stands

-- of what a client has, with nothing out
abbrev pub TieStands : List HistoryItem → Tie → Type 0
TieStands past NoClient = Unit {0}
TieStands past (HasClient clientid sequence) = WasGivenId past clientid sequence
TieStands past (HasSession s) = IsNextOnSlot past s.id s.next

pub tie_later : (past more : List HistoryItem) (tie : Tie) → AllByRecursion IsNoCompound more → TieStands past tie → TieStands (past ++ more) tie
tie_later past more NoClient none stands = tt
tie_later past more (HasClient clientid sequence) none stands = id_later past more clientid sequence none stands
tie_later past more (HasSession s) none stands = slot_later past more s.id s.next none stands

-- what is asked stands on it
pub stands_on : (past : List HistoryItem) (tie : Tie) (call : MdsCallValue) → IsBy tie call → TieStands past tie → StandsOn past call
stands_on past tie (ExchangeId verifier) by stands = tt
stands_on past tie (CreateSession clientid sequence) by stands = subst (TieStands past) by stands
stands_on past tie (OnSlot session sequence call) by stands = by_tie tie by stands
  where
    by_tie : (tie : Tie) → IsOnSession tie session sequence → TieStands past tie → IsNextOnSlot past session sequence
    by_tie NoClient by stands = absurd by
    by_tie (HasClient clientid number) by stands = absurd by
    by_tie (HasSession s) by stands = subst (λ (id : SessionId). IsNextOnSlot past id sequence) by.0 (subst (IsNextOnSlot past s.id) by.1 stands)

-- ---- a reply

module _ (h : List HistoryItem) (name : List ℕ) (old : Tie) (file : Option OpenFile) (xid : ℕ) (kind : MdsAsk) (out : AskedOut h name old file xid kind) (bytes : List ℕ) (now : ℕ) (reply : RpcReply) (reply_is : reply_at bytes ≡ Ok reply) (number : xid ≡ reply.xid) where
  abbrev past : List HistoryItem
  past = h ++ Hears (Recorded Mds bytes now) ∷ []

  abbrev heard_so : (call : MdsCallValue) → out.call ≡ call → IsHeard (h ++ Hears (Recorded Mds bytes now) ∷ []) xid name call (reply_of_ask kind reply) []
  heard_so call is = asked_heard h name old file xid kind out bytes now reply reply_is number call is

  -- a client is made, and a session
  pub client_stands : (clientid sequence : ℕ) → kind ≡ ask.ExchangeId → (reply_of_ask kind reply).answer ≡ Client clientid sequence → TieStands (h ++ Hears (Recorded Mds bytes now) ∷ []) (HasClient clientid sequence)
  client_stands clientid sequence its is =
      let call = exchange_so out.call (out.kind_is ∙ its) in
      IsNew xid name call.0 (reply_of_ask kind reply) [] (heard_so (ExchangeId call.0) call.1) is out.quiet tt

  pub session_stands : (session : SessionId) → kind ≡ ask.CreateSession → (reply_of_ask kind reply).answer ≡ Session session → TieStands (h ++ Hears (Recorded Mds bytes now) ∷ []) (HasSession (fresh_session session))
  session_stands session its is =
      let call = create_so out.call (out.kind_is ∙ its) in
      IsFirst [] (record { xid = xid; name = name; clientid = call.0; sequence = call.1; says = reply_of_ask kind reply; heard = heard_so (CreateSession call.0 call.1) call.2; quiet = out.quiet; is = is }) tt refl

  -- The client goes on as it stands: a request on a slot was answered, and not that the session is gone; or a CREATE_SESSION was refused for now.
  behind_so : (slot : SlotReport) → (reply_of_ask kind reply).slot ≡ slot → (new : Tie) → IsTieBehind now slot old new → ((reply_of_ask kind reply).answer ≡ Refused 10052 → ⊥) → (session : SessionId) (sequence : ℕ) (call : SlotCallValue) → out.call ≡ OnSlot session sequence call
      → IsOnSession old session sequence → TieStands (h ++ Hears (Recorded Mds bytes now) ∷ []) new
  behind_so Taken at new is kept session sequence call same by = subst (TieStands past) (sym is) (by_tie old by)
    where
      by_tie : (old : Tie) → IsOnSession old session sequence → TieStands (h ++ Hears (Recorded Mds bytes now) ∷ []) (moved_tie now old)
      by_tie NoClient by = absurd by
      by_tie (HasClient clientid sequence) by = absurd by
      by_tie (HasSession s) by =
          IsBehind xid name s.next call (reply_of_ask kind reply) [] (heard_so (OnSlot s.id s.next call) (same ∙ ap (λ (id : SessionId). OnSlot id sequence call) (sym by.0) ∙ ap (λ (n : ℕ). OnSlot s.id n call) (sym by.1))) out.quiet tt (inl (at, refl, kept))
  behind_so Unknown at new is kept session sequence call same by = subst (TieStands past) (sym is) (by_tie old by)
    where
      by_tie : (old : Tie) → IsOnSession old session sequence → TieStands (h ++ Hears (Recorded Mds bytes now) ∷ []) old
      by_tie NoClient by = absurd by
      by_tie (HasClient clientid sequence) by = absurd by
      by_tie (HasSession s) by =
          IsBehind xid name s.next call (reply_of_ask kind reply) [] (heard_so (OnSlot s.id s.next call) (same ∙ ap (λ (id : SessionId). OnSlot id sequence call) (sym by.0) ∙ ap (λ (n : ℕ). OnSlot s.id n call) (sym by.1))) out.quiet tt (inr (inr (at, refl, kept)))
  behind_so Uncached at new is kept session sequence call same by = absurd is
  behind_so Delayed at new is kept session sequence call same by = absurd is

  again_so : (status : ℕ) → (reply_of_ask kind reply).answer ≡ Refused status → is_for_later status ≡ true → (clientid sequence : ℕ) → out.call ≡ CreateSession clientid sequence → WasGivenId (h ++ Hears (Recorded Mds bytes now) ∷ []) clientid sequence
  again_so status is later clientid sequence same = IsAgain xid name (reply_of_ask kind reply) status [] (heard_so (CreateSession clientid sequence) same) is later out.quiet tt

  -- the tie is that of a client without a session
  same_tie : (slot : SlotReport) (new : Tie) → IsTieBehind now slot old new → has_session old ≡ false → new ≡ old
  same_tie Taken new is none = is ∙ by_tie old none
    where
      by_tie : (old : Tie) → has_session old ≡ false → moved_tie now old ≡ old
      by_tie NoClient none = refl
      by_tie (HasClient clientid sequence) none = refl
      by_tie (HasSession s) none = absurd cc
  same_tie Unknown new is none = is
  same_tie Uncached new is none = absurd is
  same_tie Delayed new is none = absurd is

  pub tie_stands : (new : Tie) → IsTieBehind now (reply_of_ask kind reply).slot old new → ((reply_of_ask kind reply).answer ≡ Refused 10052 → ⊥)
      → (takes_slot kind ≡ true) ⊎ ((status : ℕ) × ((reply_of_ask kind reply).answer ≡ Refused status) × ((is_for_later status ≡ true) ⊎ (has_session new ≡ true))) → TieStands (h ++ Hears (Recorded Mds bytes now) ∷ []) new
  tie_stands new behind kept goes = by_call out.call refl out.by
    where
      not_both : (b : Bool) → b ≡ true → b ≡ false → ⊥
      not_both true is other = absurd cc
      not_both false is other = absurd cc

      by_goes : (clientid sequence : ℕ) → out.call ≡ CreateSession clientid sequence → old ≡ HasClient clientid sequence
          → (takes_slot kind ≡ true) ⊎ ((status : ℕ) × ((reply_of_ask kind reply).answer ≡ Refused status) × ((is_for_later status ≡ true) ⊎ (has_session new ≡ true))) → TieStands (h ++ Hears (Recorded Mds bytes now) ∷ []) new
      by_goes clientid sequence same tie (inl takes) = absurd (not_both (takes_slot kind) takes (ap takes_slot (sym out.kind_is) ∙ ap (λ k. takes_slot (ask_of k)) same))
      by_goes clientid sequence same tie (inr (status, is, inl later)) =
          subst (TieStands past) (sym (same_tie (reply_of_ask kind reply).slot new behind (ap has_session tie) ∙ tie)) (again_so status is later clientid sequence same)
      by_goes clientid sequence same tie (inr (status, is, inr has)) = absurd (not_both (has_session new) has (ap has_session (same_tie (reply_of_ask kind reply).slot new behind (ap has_session tie) ∙ tie)))

      by_call : (call : MdsCallValue) → out.call ≡ call → IsBy old call → TieStands (h ++ Hears (Recorded Mds bytes now) ∷ []) new
      by_call (ExchangeId verifier) same by = subst (TieStands past) (sym (same_tie (reply_of_ask kind reply).slot new behind (ap has_session by) ∙ by)) tt
      by_call (CreateSession clientid sequence) same by = by_goes clientid sequence same by goes
      by_call (OnSlot session sequence call) same by = behind_so (reply_of_ask kind reply).slot refl new behind kept session sequence call same by

  -- the reply was not kept
  pub uncached_stands : (reply_of_ask kind reply).slot ≡ Uncached → takes_slot kind ≡ true → TieStands (h ++ Hears (Recorded Mds bytes now) ∷ []) (moved_tie now old)
  uncached_stands at takes = by_call out.call refl out.by
    where
      not_both : (b : Bool) → b ≡ true → b ≡ false → ⊥
      not_both true is other = absurd cc
      not_both false is other = absurd cc

      by_tie : (old : Tie) (session : SessionId) (sequence : ℕ) (call : SlotCallValue) → out.call ≡ OnSlot session sequence call → IsOnSession old session sequence → TieStands (h ++ Hears (Recorded Mds bytes now) ∷ []) (moved_tie now old)
      by_tie NoClient session sequence call same by = absurd by
      by_tie (HasClient clientid number) session sequence call same by = absurd by
      by_tie (HasSession s) session sequence call same by =
          IsBehind xid name s.next call (reply_of_ask kind reply) [] (heard_so (OnSlot s.id s.next call) (same ∙ ap (λ (id : SessionId). OnSlot id sequence call) (sym by.0) ∙ ap (λ (n : ℕ). OnSlot s.id n call) (sym by.1))) out.quiet tt (inr (inl (at, refl)))

      by_call : (call : MdsCallValue) → out.call ≡ call → IsBy old call → TieStands (h ++ Hears (Recorded Mds bytes now) ∷ []) (moved_tie now old)
      by_call (ExchangeId verifier) same by = absurd (not_both (takes_slot kind) takes (ap takes_slot (sym out.kind_is) ∙ ap (λ k. takes_slot (ask_of k)) same))
      by_call (CreateSession clientid sequence) same by = absurd (not_both (takes_slot kind) takes (ap takes_slot (sym out.kind_is) ∙ ap (λ k. takes_slot (ask_of k)) same))
      by_call (OnSlot session sequence call) same by = by_tie old session sequence call same by
