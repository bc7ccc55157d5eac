-- An id of a client and a session are of one life of one client (RFC 8881, sections 2.4, 18.35 and 18.36).
use Rattle.std.proofs.Common.{◌≡◌, ◌<◌, ℕ, ◌+◌, ◌^◌, zero, suc, length, List, [], ◌∷◌, ◌++◌, refl, sym, ap, subst, ◌∙◌, inl, inr, ◌⊎◌, arith, append_assoc, length-append}
use Rattle.std.specs.Prelude.{◌%◌, codes}
use Rattle.std.specs.Fmt.{decimal}
use Rattle.std.specs.Int.{w64, from_be_bytes}
use Rattle.std.proofs.Math.Nat.{mod-eq_of_lt}
use Rattle.std.proofs.lemmas.Fmt.{decimal_injective}
use Rattle.std.proofs.lemmas.Nat.{from_be_bytes-to_be_bytes_8}
use Rattle.ff_xdr.specs.Form.{long}
use Rattle.cluster_model.specs.declared.ids.NodeId.TheVariants.{Mds, Client}
use Rattle.cluster_model.specs.Members.{IsOneOf}
use Rattle.world_rule.specs.ClusterWorlds.{ClusterState}
use Rattle.nfs4_types.specs.declared.ids.SessionId.{SessionId}
use Rattle.nfs4_session.specs.Clients.{client_in}
use Rattle.client_mds_calls.specs.MdsCalls.{MdsCallValue, ExchangeId, CreateSession, OnSlot, SlotCallValue}
use Rattle.client_mds_calls.specs.MdsReplies.{MdsReplyValue, Session}
use Rattle.client_mds_calls.specs.MdsReplies as says_of
use Rattle.mds_walk.specs.MdsRuns.{MdsEvent}
use Rattle.mds_replies.specs.ClientCalls.{IsEventOf}
use Rattle.mds_replies.specs.ClientIds.{GivesId, IdsAreOwn, SessionsAreOwn}
use Rattle.client_state.specs.ClientStates.{client_name}
use Rattle.client_laws.specs.ClientHistory.{HistoryItem, Each}
use Rattle.client_laws.specs.ClientRunLaws.{InEachRun}
use Rattle.client_sessions.specs.HeardReplies.{IsHeard}
use Rattle.client_sessions.specs.ClientSessions.{SaysWho, WasGivenId, IsNew, IsAgain, WasGivenSession, IsNextOnSlot, IsFirst, IsBehind, KeepsSlot, EachRunSaysWho}
use Rattle.node_histories.specs.Weaves.{items_in}
use Rattle.node_histories.specs.ClientLives.{Life, AreLives}
use Rattle.node_histories.specs.NodeHistories.{HasLife, IsToldByNodes}
use Rattle.world_moves.specs.WorldMoves.{IsRunOf}
use Rattle.world_journal.specs.Journal.{IsJournalInRange}
use Rattle.world_reads.proofs.Steps.{same_front}
use Rattle.world_reads.proofs.Lives.{LivesOf}
use Rattle.world_reads.proofs.LifeRecords.{compound}
use Rattle.world_reads.proofs.WorldClients.{of_client}
use Rattle.mds_replies.specs.AnsweredRequests.{StaysRoomy}
use Rattle.world_layouts.proofs.LifeSends.{each_at, hearing_from, life_is}
use Rattle.world_layouts.proofs.HeardCalls.{are_calls}
use Rattle.world_layouts.proofs.RepliesHeard.{ReplyLaws}
use Rattle.world_layouts.proofs.OwnCalls.{one_story}
use Rattle.world_layouts.proofs.HeardItems.{HeardReply, heard_reply, answered_now}

-- ---- lives by their verifiers

one_more : (v : ℕ) → v + 1 < 2 ^ 64 → (v + 1) % (2 ^ 64) ≡ v + 1
one_more v small = mod-eq_of_lt small

-- fewer than 2^64 starts have a verifier each
pub verifier_is : (n : ℕ) (l : Life) (older : List Life) → AreLives n l older → length older + 1 < 2 ^ 64 → l.verifier ≡ length older + 1
verifier_is n l [] lives small = lives.1.verifier
verifier_is n l (old ∷ older) lives small =
    let before : old.verifier ≡ length older + 1 = verifier_is n old older lives.2 (omega (arith, small)) in
    let fits : length older + 1 + 1 < 2 ^ 64 = omega (arith, small) in
    lives.1.verifier ∙ (ap (λ (v : ℕ). (v + 1) % (2 ^ 64)) before ∙ (one_more (length older + 1) fits ∙ omega arith))

older_below : (n : ℕ) (l : Life) (older : List Life) → AreLives n l older → length older + 1 < 2 ^ 64 → (k : Life) → IsOneOf k older → k.verifier < l.verifier
older_below n l [] lives small k inside = absurd inside
older_below n l (old ∷ older) lives small k (inl same) =
    let here : l.verifier ≡ length (old ∷ older) + 1 = verifier_is n l (old ∷ older) lives small in
    let before : old.verifier ≡ length older + 1 = verifier_is n old older lives.2 (omega (arith, small)) in
    let its : k.verifier ≡ old.verifier = ap (λ (x : Life). x.verifier) same in
    omega (arith, here, before, its)
older_below n l (old ∷ older) lives small k (inr inside) =
    let here : l.verifier ≡ length (old ∷ older) + 1 = verifier_is n l (old ∷ older) lives small in
    let before : old.verifier ≡ length older + 1 = verifier_is n old older lives.2 (omega (arith, small)) in
    let less : k.verifier < old.verifier = older_below n old older lives.2 (omega (arith, small)) k inside in
    omega (arith, here, before, less)

pub same_life : (n : ℕ) (l : Life) (older : List Life) → AreLives n l older → length older + 1 < 2 ^ 64 → (k j : Life) → (k ≡ l) ⊎ IsOneOf k older → (j ≡ l) ⊎ IsOneOf j older → k.verifier ≡ j.verifier → k ≡ j
same_life n l older lives small k j (inl x) (inl y) same = x ∙ sym y
same_life n l older lives small k j (inl x) (inr y) same =
    let less : j.verifier < l.verifier = older_below n l older lives small j y in
    let its : k.verifier ≡ l.verifier = ap (λ (z : Life). z.verifier) x in
    absurd (omega (arith, less, its, same))
same_life n l older lives small k j (inr x) (inl y) same =
    let less : k.verifier < l.verifier = older_below n l older lives small k x in
    let its : j.verifier ≡ l.verifier = ap (λ (z : Life). z.verifier) y in
    absurd (omega (arith, less, its, same))
same_life n l [] lives small k j (inr x) (inr y) same = absurd x
same_life n l (old ∷ older) lives small k j (inr x) (inr y) same = same_life n old older lives.2 (omega (arith, small)) k j x y same

-- ---- names

pub one_number : (n k : ℕ) → n < 2 ^ 64 → k < 2 ^ 64 → client_name n ≡ client_name k → n ≡ k
one_number n k first second is = decimal_injective n k first second (same_front (codes "c") (decimal n) (decimal k) is)

pub one_verifier : (v u : ℕ) → v < 2 ^ 64 → u < 2 ^ 64 → long v ≡ long u → v ≡ u
unfolding long
one_verifier v u first second is = sym (from_be_bytes-to_be_bytes_8 v first) ∙ (ap (λ (b : List ℕ). from_be_bytes w64 b) is ∙ from_be_bytes-to_be_bytes_8 u second)

-- ---- ids and sessions that a life was given

-- an EXCHANGE_ID of this owner and verifier was answered with this id
pub record IsIdOf {w : ClusterState} (t : IsToldByNodes w) (owner : List ℕ) (verifier client : ℕ) : Type 0 where
  pub before : List MdsEvent
  pub e : MdsEvent
  pub after : List MdsEvent
  pub split : IsEventOf t.mds.events before e after
  pub gives : GivesId t.mds.servers t.mds.mirrors before e owner verifier client

pub record IdLaws : Type 0 where
  pub replies : ReplyLaws
  pub who : EachRunSaysWho
  pub slot : InEachRun KeepsSlot
  pub ids : IdsAreOwn
  pub sessions : SessionsAreOwn

module _ (laws : IdLaws) (boots : List ℕ) (w : ClusterState) (run : IsRunOf boots w) (t : IsToldByNodes w) (few : length w.machines.clients < 2 ^ 32) (range : IsJournalInRange w.journal) (roomy : StaysRoomy t.mds.servers t.mds.mirrors t.mds.events) where
  id_heard : (n : ℕ) (l : Life) → HasLife t.stories n l → (past : List HistoryItem) (name : List ℕ) (verifier : ℕ) (says : MdsReplyValue) (behind : List HistoryItem)
      → HeardReply laws.replies boots w run t few range roomy n l past name (ExchangeId verifier) says behind → (client sequence : ℕ) → says.answer ≡ says_of.Client client sequence → IsIdOf t name verifier client
  id_heard n l its past name verifier says behind h client sequence is =
      let a = h.was.answered in
      record {
        before = a.before;
        e = a.e;
        after = a.after;
        split = a.split;
        gives = record {
          node = Client n;
          xid = h.reply.xid;
          came = answered_now laws.replies boots w run t few range roomy n l its (h.before ++ compound h.reply.xid name (ExchangeId verifier) ∷ h.until) h.bytes h.now (behind ++ h.rest) h.reply name (ExchangeId verifier) h.was h.has refl;
          reply = h.reply;
          sent = a.sent;
          sequence = sequence;
          says = ap (λ (s : MdsReplyValue). s.answer) h.says_so ∙ is;
        };
      }

  session_heard : (n : ℕ) (l : Life) → HasLife t.stories n l → (past : List HistoryItem) (name : List ℕ) (client sequence : ℕ) (says : MdsReplyValue) (behind : List HistoryItem)
      → HeardReply laws.replies boots w run t few range roomy n l past name (CreateSession client sequence) says behind → (session : SessionId) → says.answer ≡ Session session → client_in session ≡ client
  session_heard n l its past name client sequence says behind h session is =
      let a = h.was.answered in
      laws.sessions t.mds.servers t.mds.mirrors t.mds.events a.before a.after a.e client session (are_calls laws.replies.calls boots w run t few range) a.split
      (record {
        node = Client n;
        xid = h.reply.xid;
        name = name;
        sequence = sequence;
        came = answered_now laws.replies boots w run t few range roomy n l its (h.before ++ compound h.reply.xid name (CreateSession client sequence) ∷ h.until) h.bytes h.now (behind ++ h.rest) h.reply name (CreateSession client sequence) h.was h.has refl;
        reply = h.reply;
        sent = a.sent;
        says = ap (λ (s : MdsReplyValue). s.answer) h.says_so ∙ is;
      })

  -- ---- of a life

  module _ (n : ℕ) (l : Life) (its : HasLife t.stories n l) where
    pub each_who : Each (SaysWho n l.verifier) [] (items_in l.steps)
    each_who = subst (λ (h : List HistoryItem). Each (SaysWho n l.verifier) [] h) (life_is w t laws.replies.calls.numbered n l its).facts.is.history (laws.who n l.verifier l.first_xid l.inputs)

    pub each_slot : Each KeepsSlot [] (items_in l.steps)
    each_slot = subst (λ (h : List HistoryItem). Each KeepsSlot [] h) (life_is w t laws.replies.calls.numbered n l its).facts.is.history (laws.slot n l.verifier l.first_xid l.inputs)

    -- what holds of an item at its place
    pub at_place : (P : List HistoryItem → HistoryItem → Type 0) → Each P [] (items_in l.steps) → (before behind : List HistoryItem) (item : HistoryItem) → items_in l.steps ≡ before ++ item ∷ behind → P before item
    at_place P each before behind item is = each_at P [] before behind item (subst (λ (h : List HistoryItem). Each P [] h) is each)

    -- the place of the compound that was heard
    sent_place : (past rest : List HistoryItem) → items_in l.steps ≡ past ++ rest → (xid : ℕ) (name : List ℕ) (call : MdsCallValue) (says : MdsReplyValue) (behind : List HistoryItem) (h : IsHeard past xid name call says behind)
        → (more : List HistoryItem) × (items_in l.steps ≡ h.before ++ compound xid name call ∷ more) × (length h.before < length past)
    sent_place past rest is xid name call says behind h =
        let tail : List HistoryItem = h.until ++ hearing_from Mds h.bytes h.now ∷ behind in
        let size = ap (λ (x : List HistoryItem). length x) h.split in
        let parts = length-append h.before (compound xid name call ∷ tail) in
        (tail ++ rest, is ∙ (ap (λ (x : List HistoryItem). x ++ rest) h.split ∙ append_assoc h.before (compound xid name call ∷ tail) rest), omega (arith, size, parts))

    pub id_owner : (fuel : ℕ) (past rest : List HistoryItem) → items_in l.steps ≡ past ++ rest → length past < fuel → (client sequence : ℕ) → WasGivenId past client sequence → IsIdOf t (client_name n) l.verifier client
    id_owner zero past rest is less client sequence given = absurd (omega (arith, less))
    id_owner (suc fuel) past rest is less client sequence (IsNew xid name verifier says behind heard answer between none) =
        let place = sent_place past rest is xid name (ExchangeId verifier) says behind heard in
        let who : (name ≡ client_name n) × (verifier ≡ l.verifier) = at_place (SaysWho n l.verifier) each_who heard.before place.0 (compound xid name (ExchangeId verifier)) place.1 in
        let given : IsIdOf t name verifier client = id_heard n l its past name verifier says behind (heard_reply laws.replies boots w run t few range roomy n l its past rest is xid name (ExchangeId verifier) says behind heard) client sequence answer in
        subst (λ (x : List ℕ). IsIdOf t x l.verifier client) who.0 (subst (λ (x : ℕ). IsIdOf t name x client) who.1 given)
    id_owner (suc fuel) past rest is less client sequence (IsAgain xid name says status behind heard answer later none quiet) =
        let place = sent_place past rest is xid name (CreateSession client sequence) says behind heard in
        let slot : WasGivenId heard.before client sequence = at_place KeepsSlot each_slot heard.before place.0 (compound xid name (CreateSession client sequence)) place.1 in
        let shorter = place.2 in
        id_owner fuel heard.before (compound xid name (CreateSession client sequence) ∷ place.0) place.1 (omega (arith, less, shorter)) client sequence slot

    session_owner : (past rest : List HistoryItem) → items_in l.steps ≡ past ++ rest → (session : SessionId) (behind : List HistoryItem) → WasGivenSession past session behind → IsIdOf t (client_name n) l.verifier (client_in session)
    session_owner past rest is session behind g =
        let place = sent_place past rest is g.xid g.name (CreateSession g.clientid g.sequence) g.says behind g.heard in
        let slot : WasGivenId g.heard.before g.clientid g.sequence = at_place KeepsSlot each_slot g.heard.before place.0 (compound g.xid g.name (CreateSession g.clientid g.sequence)) place.1 in
        let own : client_in session ≡ g.clientid =
        session_heard n l its past g.name g.clientid g.sequence g.says behind
        (heard_reply laws.replies boots w run t few range roomy n l its past rest is g.xid g.name (CreateSession g.clientid g.sequence) g.says behind g.heard) session g.is in
        subst (λ (x : ℕ). IsIdOf t (client_name n) l.verifier x) (sym own) (id_owner (suc (length g.heard.before)) g.heard.before (compound g.xid g.name (CreateSession g.clientid g.sequence) ∷ place.0) place.1 (omega arith) g.clientid g.sequence slot)

    slot_owner : (fuel : ℕ) (past rest : List HistoryItem) → items_in l.steps ≡ past ++ rest → length past < fuel → (session : SessionId) (sequence : ℕ) → IsNextOnSlot past session sequence → IsIdOf t (client_name n) l.verifier (client_in session)
    slot_owner zero past rest is less session sequence next = absurd (omega (arith, less))
    slot_owner (suc fuel) past rest is less session sequence (IsFirst behind given none one) = session_owner past rest is session behind given
    slot_owner (suc fuel) past rest is less session sequence (IsBehind xid name last call says behind heard none quiet moves) =
        let place = sent_place past rest is xid name (OnSlot session last call) says behind heard in
        let slot : IsNextOnSlot heard.before session last = at_place KeepsSlot each_slot heard.before place.0 (compound xid name (OnSlot session last call)) place.1 in
        let shorter = place.2 in
        slot_owner fuel heard.before (compound xid name (OnSlot session last call) ∷ place.0) place.1 (omega (arith, less, shorter)) session last slot

    -- a request goes out on a session of an id that was given to this life
    pub session_is_own : (past rest : List HistoryItem) (xid : ℕ) (name : List ℕ) (session : SessionId) (sequence : ℕ) (call : SlotCallValue) → items_in l.steps ≡ past ++ compound xid name (OnSlot session sequence call) ∷ rest
        → IsIdOf t (client_name n) l.verifier (client_in session)
    session_is_own past rest xid name session sequence call is =
        slot_owner (suc (length past)) past (compound xid name (OnSlot session sequence call) ∷ rest) is (omega arith) session sequence (at_place KeepsSlot each_slot past rest (compound xid name (OnSlot session sequence call)) is)

  -- ---- an id is of one life

  pub one_id : (n k : ℕ) (l o : Life) → HasLife t.stories n l → HasLife t.stories k o → ((m : ℕ) (p : Life) (i : HasLife t.stories m p) → length i.story.older + 1 < 2 ^ 64) → (client : ℕ) → IsIdOf t (client_name n) l.verifier client
      → IsIdOf t (client_name k) o.verifier client → (n ≡ k) × (l ≡ o)
  one_id n k l o its others starts client first second =
      let both : (client_name n ≡ client_name k) × (long l.verifier ≡ long o.verifier) =
      laws.ids t.mds.servers t.mds.mirrors t.mds.events (are_calls laws.replies.calls boots w run t few range) first.before first.after first.e second.before second.after second.e first.split second.split (client_name n) (client_name k) l.verifier o.verifier client first.gives second.gives in
      let n_few = (life_is w t laws.replies.calls.numbered n l its).few in
      let k_few = (life_is w t laws.replies.calls.numbered k o others).few in
      let number : n ≡ k = one_number n k (omega (arith, few, n_few)) (omega (arith, few, k_few)) both.0 in
      let same : HasLife t.stories n o = subst (λ (x : ℕ). HasLife t.stories x o) (sym number) others in
      let verifier : l.verifier ≡ o.verifier =
      one_verifier l.verifier o.verifier (life_is w t laws.replies.calls.numbered n l its).facts.verifier (life_is w t laws.replies.calls.numbered k o others).facts.verifier both.1 in
      let s : LivesOf t.stories w.machines.clients w.journal n its.story = of_client w t few range laws.replies.calls.spelled laws.replies.calls.numbered n its.story its.there in
      (number, same_life n its.story.newest its.story.older s.lives (starts n l its) l o its.life (one_story laws.replies.calls boots w run t few range n l o its same) verifier)
