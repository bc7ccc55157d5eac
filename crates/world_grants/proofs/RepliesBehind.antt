-- A request that takes effect, in the history of the life that sent it, and replies that the life heard before it sent it.
use Rattle.std.proofs.Common.{◌≡◌, ◌<◌, ◌≤◌, ℕ, ◌^◌, length, List, [], ◌∷◌, ◌++◌, refl, sym, ap, subst, ◌∙◌, append_assoc}
use Rattle.cluster_model.specs.declared.ids.NodeId.TheVariants.{Mds}
use Rattle.world_rule.specs.ClusterWorlds.{ClusterState}
use Rattle.nfs4_types.specs.declared.ids.SessionId.{SessionId}
use Rattle.client_mds_calls.specs.MdsCalls.{MdsCallValue, OnSlot, SlotCallValue}
use Rattle.client_mds_calls.specs.MdsReplies.{MdsReplyValue}
use Rattle.mds_walk.specs.MdsRuns.{MdsEvent}
use Rattle.mds_replies.specs.ClientCalls.{IsEventOf}
use Rattle.mds_replies.specs.SlotReplies.{TookEffect}
use Rattle.mds_replies.specs.AnsweredRequests.{StaysRoomy, TookEffectAmong}
use Rattle.client_laws.specs.ClientHistory.{HistoryItem, HasItem}
use Rattle.client_sessions.specs.HeardReplies.{IsHeard}
use Rattle.node_histories.specs.Weaves.{items_in}
use Rattle.node_histories.specs.ClientLives.{Life}
use Rattle.node_histories.specs.NodeHistories.{HasLife, IsToldByNodes}
use Rattle.world_moves.specs.WorldMoves.{IsRunOf}
use Rattle.world_journal.specs.Journal.{IsJournalInRange}
use Rattle.world_reads.proofs.LifeRecords.{compound}
use Rattle.world_layouts.specs.WorldLayouts.{StartsAreFew}
use Rattle.world_layouts.proofs.LifeSends.{hearing_from}
use Rattle.world_layouts.proofs.OwnCalls.{CalledOwn}
use Rattle.world_layouts.proofs.OwnRequests.{OwnRequest, own_request}
use Rattle.world_layouts.proofs.OneRequest.{Heard, behind_reply, item_there, one_send}
use Rattle.world_grants.proofs.OneEffect.{OnceLaws, own_session}

-- ---- a reply that was heard, and what stands before and behind it

-- the history up to the reply
abbrev pub upto_reply : {past behind : List HistoryItem} {says : MdsReplyValue} (xid : ℕ) (name : List ℕ) (call : MdsCallValue) → IsHeard past xid name call says behind → List HistoryItem
upto_reply xid name call h = h.before ++ compound xid name call ∷ (h.until ++ hearing_from Mds h.bytes h.now ∷ [])

abbrev pub heard_last : (past : List HistoryItem) (xid : ℕ) (name : List ℕ) (call : MdsCallValue) (says : MdsReplyValue) (behind : List HistoryItem) (h : IsHeard past xid name call says behind) → IsHeard (upto_reply xid name call h) xid name call says []
heard_last past xid name call says behind h = record { before = h.before; until = h.until; bytes = h.bytes; now = h.now; split = refl; reply = h.reply; reply_is = h.reply_is; number = h.number; says_so = h.says_so }

pub past_is : (past : List HistoryItem) (xid : ℕ) (name : List ℕ) (call : MdsCallValue) (says : MdsReplyValue) (behind : List HistoryItem) (h : IsHeard past xid name call says behind) → past ≡ upto_reply xid name call h ++ behind
past_is past xid name call says behind h =
    let sends : HistoryItem = compound xid name call in
    let hears : HistoryItem = hearing_from Mds h.bytes h.now in
    h.split
    ∙ sym (append_assoc h.before (sends ∷ (h.until ++ hears ∷ [])) behind ∙ ap (λ (l : List HistoryItem). h.before ++ sends ∷ l) (append_assoc h.until (hears ∷ []) behind))

-- in a longer history, with items before
abbrev pub heard_behind : (front past : List HistoryItem) (xid : ℕ) (name : List ℕ) (call : MdsCallValue) (says : MdsReplyValue) (behind : List HistoryItem) → IsHeard past xid name call says behind → IsHeard (front ++ past) xid name call says behind
heard_behind front past xid name call says behind h = record {
  before = front ++ h.before;
  until = h.until;
  bytes = h.bytes;
  now = h.now;
  split =
      ap (λ (l : List HistoryItem). front ++ l) h.split ∙ sym (append_assoc front h.before (compound xid name call ∷ (h.until ++ hearing_from Mds h.bytes h.now ∷ behind)));
  reply = h.reply;
  reply_is = h.reply_is;
  number = h.number;
  says_so = h.says_so;
}

-- ---- a request that takes effect

-- its place in the life, behind these items
pub record EffectAt {w : ClusterState} (t : IsToldByNodes w) (n : ℕ) (l : Life) (past rest : List HistoryItem) (asked : SessionId) (number : ℕ) (early late : List MdsEvent) (f : MdsEvent) : Type 0 where
  pub xid : ℕ
  pub name : List ℕ
  pub call : SlotCallValue
  pub is : items_in l.steps ≡ past ++ compound xid name (OnSlot asked number call) ∷ rest
  pub called : CalledOwn t n l early late f xid name (OnSlot asked number call)

module _ (laws : OnceLaws) (boots : List ℕ) (w : ClusterState) (run : IsRunOf boots w) (t : IsToldByNodes w) (few : length w.machines.clients < 2 ^ 32) (range : IsJournalInRange w.journal) (roomy : StaysRoomy t.mds.servers t.mds.mirrors t.mds.events)
    (starts : StartsAreFew t) (n : ℕ) (l : Life) (its : HasLife t.stories n l) where
  -- what took effect under the number of a request that a life sent is this request
  pub effect_at : (past rest : List HistoryItem) (xid : ℕ) (name : List ℕ) (asked : SessionId) (number : ℕ) (c : SlotCallValue) → items_in l.steps ≡ past ++ compound xid name (OnSlot asked number c) ∷ rest → (early late : List MdsEvent) (f : MdsEvent)
      → IsEventOf t.mds.events early f late → TookEffect t.mds.servers t.mds.mirrors early f asked number → EffectAt t n l past rest asked number early late f
  effect_at past rest xid name asked number c is early late f split took =
      let among : TookEffectAmong t.mds.servers t.mds.mirrors (early ++ f ∷ []) asked number = record { early = early; f = f; late = []; split = refl; asked = asked; its = own_session asked; took = took } in
      let has : HasItem (items_in l.steps) (compound xid name (OnSlot asked number c)) = item_there laws.sessions boots w run t few range roomy starts n l its rest past xid name (OnSlot asked number c) is in
      let o : OwnRequest t n l early late f took.node took.xid asked number =
      own_request laws.sessions.ids boots w run t few range roomy starts n l its xid name asked number c has (early ++ f ∷ []) late (split ∙ sym (append_assoc early (f ∷ []) late)) number among in
      let same : compound xid name (OnSlot asked number c) ≡ compound took.xid o.name (OnSlot asked number o.call) =
      one_send laws.sessions boots w run t few range roomy starts n l its xid took.xid name o.name asked asked number c o.call has o.has (own_session asked) in
      record { xid = took.xid; name = o.name; call = o.call; is = subst (λ (x : HistoryItem). items_in l.steps ≡ past ++ x ∷ rest) same is; called = o.called }

  -- it comes behind the event in which a reply was sent that was heard before the request went out
  pub comes_behind : (upto : List HistoryItem) (name : List ℕ) (call : MdsCallValue) (says : MdsReplyValue) (behind : List HistoryItem) (h : Heard laws.sessions boots w run t few range roomy starts n l upto name call says behind)
      → (past rest : List HistoryItem) (asked : SessionId) (number : ℕ) (early late : List MdsEvent) (f : MdsEvent) → EffectAt t n l past rest asked number early late f → IsEventOf t.mds.events early f late → length upto ≤ length past
      → length h.was.answered.before < length early
  comes_behind upto name call says behind h past rest asked number early late f e split less =
      behind_reply laws.sessions boots w run t few range roomy starts n l its upto name call says behind h past rest e.xid e.name (OnSlot asked number e.call) e.is less early late f split e.called
