-- A period that ends as returned was given back by a life that it was granted to (RFC 8881, section 18.44; RFC 8435, section 9).
use Rattle.std.proofs.Common.{◌≡◌, ◌≤◌, ◌<◌, ℕ, ◌^◌, true, length, List, [], ◌∷◌, ◌++◌, None, refl, sym, ap, subst, ◌∙◌, arith, append_assoc}
use Rattle.std.specs.Prelude.{map}
use Rattle.std.specs.List.{AllByRecursion}
use Rattle.std.proofs.lemmas.Option.{same_Some}
use Rattle.ff_xdr.specs.Form.{Value, arm_of}
use Rattle.cluster_model.specs.declared.ids.NodeId.{NodeId}
use Rattle.cluster_model.specs.declared.ids.NodeId.TheVariants.{Mds, Server, Client}
use Rattle.cluster_model.specs.declared.ids.FileId.{FileId}
use Rattle.cluster_model.specs.declared.ids.MirrorId.{MirrorId}
use Rattle.cluster_model.specs.declared.phase.EndCause.TheVariants.{Returned}
use Rattle.cluster_model.specs.declared.entry.Entry.{Entry}
use Rattle.cluster_model.specs.declared.entry.Entry.TheVariants as entry
use Rattle.cluster_model.specs.Phases.{ids_of}
use Rattle.cluster_model.specs.Members.{IsOneOf}
use Rattle.cluster_laws.specs.FenceLaw.{live_in}
use Rattle.world_rule.specs.ClusterWorlds.{ClusterState}
use Rattle.nfs4_types.specs.declared.stateid.Stateid.{Stateid}
use Rattle.nfs4_types.specs.declared.ids.SessionId.{SessionId}
use Rattle.nfs4_types.specs.Stateids.{three_words}
use Rattle.nfs4_session.specs.Clients.{client_in}
use Rattle.nfs4_compound.specs.Args.{argop4}
use Rattle.nfs4_compound.specs.Compounds.{CompoundValue}
use Rattle.client_file_calls.specs.declared.grant.LayoutGrant.{LayoutGrant}
use Rattle.client_file_calls.specs.declared.layout_return.FailedMirror.{FailedMirror}
use Rattle.client_mds_calls.specs.FittingCalls.{FitsRequest}
use Rattle.client_mds_calls.specs.MdsCalls.{MdsCallValue, OnSlot, SlotCallValue}
use Rattle.client_mds_calls.specs.MdsCalls as slot
use Rattle.client_mds_calls.specs.MdsCompounds.{mds_ops, slot_ops}
use Rattle.mds_rule.specs.MdsStates.{MdsValue, new_mds}
use Rattle.mds_walk.specs.MdsRuns.{MdsEvent, after_event, run_from, mds_run}
use Rattle.mds_histories.specs.MdsHistory.{MdsItem, Comes, Enters, mds_history}
use Rattle.mds_histories.specs.MdsHistory as of_mds
use Rattle.mds_histories.proofs.Histories.{entries_joined, entries_entered, entries_of_run}
use Rattle.mds_replies.specs.ClientCalls.{IsCallFrom, server_after, IsEventOf}
use Rattle.mds_replies.specs.LayoutReplies.{HasPeriod}
use Rattle.client_state.specs.ClientSends.{CallsMds, spelled_send}
use Rattle.client_laws.specs.ClientHistory.{HistoryItem, HasItem, Each}
use Rattle.client_laws.specs.ClientRunLaws.{InEachRun, WasGranted}
use Rattle.client_sessions.specs.LayoutEnds.{ReturnsAsGranted, ReturnsOwn}
use Rattle.node_histories.specs.Weaves.{IsUnseen, IsSending, WeaveStep, Passes, Unseen, Seen, entries_in, items_in, AreWoven, StandsInWeave}
use Rattle.node_histories.specs.ClientLives.{client_shown, Life}
use Rattle.node_histories.specs.NodeHistories.{HasLife, is_client_entry, is_server_entry, is_world_entry, Origin, EnteredByClient, EnteredByMds, EnteredByServer, EnteredByWorld, SentByClient, SentByMds, SentByServer, IsToldByNodes}
use Rattle.node_histories.proofs.WeaveLemmas.{entries_join, items_join}
use Rattle.world_moves.specs.WorldMoves.{IsRunOf}
use Rattle.world_journal.specs.Journal.{IsJournalInRange}
use Rattle.world_reads.proofs.Steps.{HasItemIn, ItemStep, item_step, all_first}
use Rattle.world_reads.proofs.OwnEntries.{no_true, IsToldStep, all_told, journal_at as mds_journal_at, live_told}
use Rattle.world_reads.proofs.MdsPlaces.{Steps, hearing, ArrivedAt, arrived_at}
use Rattle.world_reads.proofs.LifeRecords.{compound}
use Rattle.mds_replies.specs.AnsweredRequests.{StaysRoomy}
use Rattle.mds_returns.specs.ReturnedEnds.{ReturnsAtEnd, ReturnsComeAtEnds}
use Rattle.world_layouts.specs.WorldLayouts.{IsOneRequestEach, StartsAreFew, journal_at, WasReturnedBy, ReturnsAreSent}
use Rattle.world_layouts.proofs.MdsMoments.{IsEnteredBy, entered_by}
use Rattle.world_layouts.proofs.LifeSends.{LifeSteps, LifeIs, life_is, unseen_in}
use Rattle.world_layouts.proofs.HeardCalls.{CameFrom, came_from, event_is, is_call_in, are_fit_calls}
use Rattle.world_layouts.proofs.OwnIds.{at_place}
use Rattle.world_layouts.proofs.OwnRequests.{IsRequestOn, on_slot, SplitAt, split_at}
use Rattle.world_layouts.proofs.GrantedUids.{GrantTook, grant_took, IsMoment, moment_of, one_period}
use Rattle.world_layouts.proofs.ToldGrants.{same_live}
use Rattle.world_layouts.proofs.EndedReturns.{ReturnLaws, one_uid, live_stays}

-- ---- a LAYOUTRETURN by its operations

abbrev second_arm : List (Value argop4) → ℕ
second_arm [] = 0
second_arm (op ∷ []) = 0
second_arm (op ∷ next ∷ ops) = arm_of argop4 next

abbrev tail_of : List (Value argop4) → List (Value argop4)
tail_of [] = []
tail_of (op ∷ ops) = ops

pub record IsReturnCall (c : SlotCallValue) : Type 0 where
  pub file : FileId
  pub stateid : Stateid
  pub failed : List FailedMirror
  pub is : c ≡ slot.LayoutReturn file stateid failed

none_second : {A : Type 0} (n : ℕ) → n ≡ 51 → n < 51 → A
none_second n is less = absurd (omega (arith, is, less))

return_call : (name : List ℕ) (c : SlotCallValue) → second_arm (slot_ops name c) ≡ 51 → IsReturnCall c
return_call name slot.ReclaimComplete is = none_second 0 is (omega arith)
return_call name (slot.Open file) is = none_second 18 is (omega arith)
return_call name (slot.LayoutGet file) is = none_second 50 is (omega arith)
return_call name (slot.DeviceInfo []) is = none_second 0 is (omega arith)
return_call name (slot.DeviceInfo (n ∷ [])) is = none_second 0 is (omega arith)
return_call name (slot.DeviceInfo (n ∷ (k ∷ servers))) is = none_second 47 is (omega arith)
return_call name (slot.Write file at bytes) is = none_second 38 is (omega arith)
return_call name (slot.Read file at count) is = none_second 25 is (omega arith)
return_call name (slot.LayoutReturn file stateid failed) is = record { file = file; stateid = stateid; failed = failed; is = refl }
return_call name slot.Renew is = none_second 0 is (omega arith)

-- ---- the place of a compound in a life

pub record PostedAt (n : ℕ) (l : Life) (upto : LifeSteps) (x : HistoryItem) : Type 0 where
  pub earlier : LifeSteps
  pub later : LifeSteps
  pub posted : Entry
  pub split : upto ≡ earlier ++ Seen x posted ∷ later

sending_not : (to : NodeId) (bytes : List ℕ) → IsSending to bytes ≡ IsUnseen → ⊥
sending_not to bytes same = absurd cc

posted_at : (n : ℕ) (l : Life) (upto rest : LifeSteps) → l.steps ≡ upto ++ rest → AreWoven client_shown (Client n) l.begun l.steps → (xid : ℕ) (name : List ℕ) (call : MdsCallValue) → HasItem (items_in upto) (compound xid name call) → PostedAt n l upto (compound xid name call)
posted_at n l upto rest split woven xid name call has =
    let p : SplitAt (items_in upto) (compound xid name call) = split_at (items_in upto) (compound xid name call) has in
    let r : ItemStep upto p.before (compound xid name call) p.behind = item_step upto p.before (compound xid name call) p.behind p.is in
    by_step r.earlier r.later r.step r.is r.split
  where
    by_step : (earlier later : LifeSteps) (s : WeaveStep HistoryItem) → HasItemIn (compound xid name call) s → upto ≡ earlier ++ s ∷ later → PostedAt n l upto (compound xid name call)
    by_step earlier later (Passes e) is so = absurd is
    by_step earlier later (Unseen item) is so =
        absurd (sending_not Mds (spelled_send (CallsMds xid name call)).1 (ap client_shown (sym is)
        ∙ unseen_in client_shown (Client n) l.begun earlier (later ++ rest) item (subst (λ (k : LifeSteps). AreWoven client_shown (Client n) l.begun k) (split ∙ (ap (λ (k : LifeSteps). k ++ rest) so ∙ append_assoc earlier (Unseen item ∷ later) rest)) woven)))
    by_step earlier later (Seen item e) is so = record { earlier = earlier; later = later; posted = e; split = so ∙ ap (λ (i : HistoryItem). earlier ++ Seen i e ∷ later) is }

pub record SentLaws : Type 0 where
  pub returns : ReturnLaws
  pub own : InEachRun ReturnsOwn
  pub come : ReturnsComeAtEnds

module _ (laws : SentLaws) (boots : List ℕ) (w : ClusterState) (run : IsRunOf boots w) (t : IsToldByNodes w) (few : length w.machines.clients < 2 ^ 32) (range : IsJournalInRange w.journal) (roomy : StaysRoomy t.mds.servers t.mds.mirrors t.mds.events)
    (starts : StartsAreFew t) (one : IsOneRequestEach t) (most : t.mds.mirrors ≤ 4) where
  ended_stands : (past : List Entry) (file : FileId) (uid : ℕ) (e : Entry) → e ≡ entry.Ended file (record { 0 = uid }) Returned → Origin t.stories t.mds past e
      → StandsInWeave [] t.mds.steps past (Enters (entry.Ended file (record { 0 = uid }) Returned)) (entry.Ended file (record { 0 = uid }) Returned)
  ended_stands past file uid e same (EnteredByClient n l life kind stands) = no_true (subst (λ (x : Entry). is_client_entry x ≡ true) same kind)
  ended_stands past file uid e same (EnteredByMds kind stands) = subst (λ (x : Entry). StandsInWeave [] t.mds.steps past (Enters x) x) same stands
  ended_stands past file uid e same (EnteredByServer kind) = no_true (subst (λ (x : Entry). is_server_entry x ≡ true) same kind)
  ended_stands past file uid e same (EnteredByWorld kind) = no_true (subst (λ (x : Entry). is_world_entry x ≡ true) same kind)
  ended_stands past file uid e same (SentByClient n number to bytes l send packet life stands) = absurd (no_packet file uid number (Client n) to bytes (sym same ∙ packet))
    where
      no_packet : (file : FileId) (uid number : ℕ) (from to : NodeId) (bytes : List ℕ) → entry.Ended file (record { 0 = uid }) Returned ≡ entry.Packet number from to bytes → ⊥
      no_packet file uid number from to bytes same = absurd cc
  ended_stands past file uid e same (SentByMds number to bytes send packet stands) = absurd (no_packet file uid number Mds to bytes (sym same ∙ packet))
    where
      no_packet : (file : FileId) (uid number : ℕ) (from to : NodeId) (bytes : List ℕ) → entry.Ended file (record { 0 = uid }) Returned ≡ entry.Packet number from to bytes → ⊥
      no_packet file uid number from to bytes same = absurd cc
  ended_stands past file uid e same (SentByServer n number to bytes packet answers) = absurd (no_packet file uid number (Server n) to bytes (sym same ∙ packet))
    where
      no_packet : (file : FileId) (uid number : ℕ) (from to : NodeId) (bytes : List ℕ) → entry.Ended file (record { 0 = uid }) Returned ≡ entry.Packet number from to bytes → ⊥
      no_packet file uid number from to bytes same = absurd cc

  -- the end, in its event
  record EndAt (past : List Entry) (file : FileId) (uid : ℕ) : Type 0 where
    before : List MdsEvent
    e : MdsEvent
    after : List MdsEvent
    split : IsEventOf t.mds.events before e after
    front : List Entry
    back : List Entry
    entries : (after_event e (server_after t.mds.servers t.mds.mirrors before)).entries ≡ front ++ entry.Ended file (record { 0 = uid }) Returned ∷ back
    earlier : Steps
    later : Steps
    steps : t.mds.steps ≡ earlier ++ later
    place : past ≡ entries_in earlier
    items : items_in earlier ≡ mds_history (new_mds t.mds.servers t.mds.mirrors) before ++ Comes e ∷ map Enters front
    told : AllByRecursion IsToldStep earlier

  end_at : (past behind : List Entry) (file : FileId) (uid : ℕ) → w.journal ≡ past ++ entry.Ended file (record { 0 = uid }) Returned ∷ behind → EndAt past file uid
  end_at past behind file uid is =
      let x : Entry = entry.Ended file (record { 0 = uid }) Returned in
      let s : StandsInWeave [] t.mds.steps past (Enters x) x = ended_stands past file uid x refl (t.origins past behind x is) in
      let step : WeaveStep MdsItem = Seen (Enters x) x in
      let history : mds_history (new_mds t.mds.servers t.mds.mirrors) t.mds.events ≡ items_in s.earlier ++ Enters x ∷ items_in s.later =
      t.mds_is.history ∙ (ap (λ (k : Steps). items_in k) s.split ∙ items_join s.earlier (step ∷ s.later)) in
      let k : IsEnteredBy (new_mds t.mds.servers t.mds.mirrors) t.mds.events (items_in s.earlier) x = entered_by (new_mds t.mds.servers t.mds.mirrors) t.mds.events (items_in s.earlier) x (items_in s.later) history in
      record {
        before = k.before;
        e = k.e;
        after = k.after;
        split = k.split;
        front = k.front;
        back = k.back;
        entries = k.entries;
        earlier = s.earlier;
        later = step ∷ s.later;
        steps = s.split;
        place = s.place;
        items = k.items;
        told = all_first IsToldStep s.earlier (step ∷ s.later) (subst (λ (z : Steps). AllByRecursion IsToldStep z) s.split (all_told w t));
      }

  -- the live mirrors at the end are those that the metadata server's entries tell
  live_at_end : (past : List Entry) (file : FileId) (uid : ℕ) (k : EndAt past file uid) → live_in past file ≡ live_in ((mds_run t.mds.servers t.mds.mirrors k.before).entries ++ k.front) file
  live_at_end past file uid k =
      let new : MdsValue = new_mds t.mds.servers t.mds.mirrors in
      let ran : List Entry = (run_from new k.before).entries in
      let entries : of_mds.entries_in (items_in k.earlier) ≡ ran ++ k.front =
      ap (λ (z : List MdsItem). of_mds.entries_in z) k.items ∙ (entries_joined (mds_history new k.before) (Comes k.e ∷ map Enters k.front) ∙ (ap (λ (l : List Entry). l ++ of_mds.entries_in (map Enters k.front)) (entries_of_run new k.before)
      ∙ ap (λ (l : List Entry). ran ++ l) (entries_entered k.front))) in
      ap (λ (l : List Entry). live_in l file) k.place ∙ (live_told file None k.earlier k.told ∙ ap (λ (l : List Entry). live_in l file) entries)

  -- the call of a life that came in it
  record ReturnCame (past : List Entry) (e : MdsEvent) (node : NodeId) (xid : ℕ) (session : SessionId) (number : ℕ) : Type 0 where
    n : ℕ
    life : Life
    its : HasLife t.stories n life
    upto : LifeSteps
    rest : LifeSteps
    split : life.steps ≡ upto ++ rest
    since : List Entry
    place : past ≡ (life.begun ++ entries_in upto) ++ since
    name : List ℕ
    file : FileId
    stateid : Stateid
    failed : List FailedMirror
    called : IsCallFrom e node xid name (OnSlot session number (slot.LayoutReturn file stateid failed))
    fits : FitsRequest (OnSlot session number (slot.LayoutReturn file stateid failed))
    has : HasItem (items_in upto) (compound xid name (OnSlot session number (slot.LayoutReturn file stateid failed)))

  by_call : (e : MdsEvent) (node : NodeId) (xid : ℕ) (other : List ℕ) (session : SessionId) (number : ℕ) (asked : SlotCallValue) (came : IsCallFrom e node xid other (OnSlot session number asked)) (past : List Entry) (c : CameFrom t past node came.bytes xid came.v)
      → (file : FileId) (stateid : Stateid) (failed : List FailedMirror) → c.call ≡ OnSlot session number (slot.LayoutReturn file stateid failed) → ReturnCame past e node xid session number
  by_call e node xid other session number asked came past c file stateid failed call = record {
    n = c.n;
    life = c.life;
    its = c.its;
    upto = c.upto;
    rest = c.rest;
    split = c.split;
    since = c.since;
    place = c.place;
    name = c.name;
    file = file;
    stateid = stateid;
    failed = failed;
    called =
        subst (λ (z : MdsCallValue). IsCallFrom e node xid c.name z) call
        (record {
          bytes = came.bytes;
          input = came.input;
          v = came.v;
          compound = came.compound;
          is = is_call_in laws.returns.grants.layouts.ids.replies.calls boots w run t few range node came.bytes xid came.v past c;
        });
    fits = subst (λ (z : MdsCallValue). FitsRequest z) call c.fits.0;
    has = subst (λ (z : MdsCallValue). HasItem (items_in c.upto) (compound xid c.name z)) call c.has;
  }

  by_ops : (e : MdsEvent) (node : NodeId) (xid : ℕ) (other : List ℕ) (session : SessionId) (number : ℕ) (file : FileId) (stateid : Stateid) (failed : List FailedMirror) (came : IsCallFrom e node xid other (OnSlot session number (slot.LayoutReturn file stateid failed)))
      → (past : List Entry) (c : CameFrom t past node came.bytes xid came.v) (asked : SlotCallValue) → c.call ≡ OnSlot session number asked → mds_ops c.name (OnSlot session number asked) ≡ mds_ops other (OnSlot session number (slot.LayoutReturn file stateid failed))
      → ReturnCame past e node xid session number
  by_ops e node xid other session number file stateid failed came past c asked is ops =
      let behind_first : slot_ops c.name asked ≡ slot_ops other (slot.LayoutReturn file stateid failed) = ap (λ (o : List (Value argop4)). tail_of o) ops in
      let second : second_arm (slot_ops c.name asked) ≡ 51 = ap (λ (o : List (Value argop4)). second_arm o) behind_first in
      let b : IsReturnCall asked = return_call c.name asked second in
      by_call e node xid other session number (slot.LayoutReturn file stateid failed) came past c b.file b.stateid b.failed (is ∙ ap (λ (z : SlotCallValue). OnSlot session number z) b.is)

  return_came : (e : MdsEvent) (node : NodeId) (xid : ℕ) (other : List ℕ) (session : SessionId) (number : ℕ) (file : FileId) (stateid : Stateid) (failed : List FailedMirror) (came : IsCallFrom e node xid other (OnSlot session number (slot.LayoutReturn file stateid failed)))
      → (past : List Entry) → CameFrom t past node came.bytes xid came.v → ReturnCame past e node xid session number
  return_came e node xid other session number file stateid failed came past c =
      let ops : mds_ops c.name c.call ≡ mds_ops other (OnSlot session number (slot.LayoutReturn file stateid failed)) = ap (λ (v : CompoundValue). v.ops.values) c.same ∙ came.is.ops in
      let q : IsRequestOn c.call session number = on_slot c.name other c.call session number (slot.LayoutReturn file stateid failed) ops in
      by_ops e node xid other session number file stateid failed came past c q.asked q.is (subst (λ (z : MdsCallValue). mds_ops c.name z ≡ mds_ops other (OnSlot session number (slot.LayoutReturn file stateid failed))) q.is ops)

  -- the place of what came in the event, before the end
  return_before : (past : List Entry) (file : FileId) (uid : ℕ) (k : EndAt past file uid) (r : ReturnsAtEnd t.mds.servers t.mds.mirrors k.before k.e k.front file uid) → ReturnCame past k.e r.node r.xid r.session r.number
  return_before past file uid k r =
      let new : MdsValue = new_mds t.mds.servers t.mds.mirrors in
      let a : ArrivedAt k.earlier (mds_history new k.before) k.e.now r.node r.came.bytes (map Enters k.front) =
      arrived_at w t k.earlier k.later k.steps (mds_history new k.before) k.e.now r.node r.came.bytes (map Enters k.front) k.told
      (k.items ∙ ap (λ (y : MdsEvent). mds_history new k.before ++ Comes y ∷ map Enters k.front) (event_is k.e r.node r.came.bytes r.came.input)) in
      let coming : WeaveStep MdsItem = Seen (Comes (hearing k.e.now r.node r.came.bytes)) (entry.Delivered a.number) in
      let tail : Steps = (coming ∷ a.later) ++ k.later in
      let whole : t.mds.steps ≡ a.earlier ++ tail = k.steps ∙ (ap (λ (z : Steps). z ++ k.later) a.split ∙ append_assoc a.earlier (coming ∷ a.later) k.later) in
      let c : CameFrom t (entries_in a.earlier) r.node r.came.bytes r.xid r.came.v =
      came_from laws.returns.grants.layouts.ids.replies.calls boots w run t few range (entries_in a.earlier) (entries_in tail) (mds_journal_at w t a.earlier tail whole) a.number r.node r.came.bytes r.xid r.came.v a.packet r.came.compound in
      let until : List Entry = entries_in (coming ∷ a.later) in
      let past_is : past ≡ entries_in a.earlier ++ until = k.place ∙ (ap (λ (z : Steps). entries_in z) a.split ∙ entries_join a.earlier (coming ∷ a.later)) in
      longer until past_is (return_came k.e r.node r.xid r.name r.session r.number r.other r.stateid r.failed r.came (entries_in a.earlier) c)
    where
      longer : {front : List Entry} (until : List Entry) → past ≡ front ++ until → ReturnCame front k.e r.node r.xid r.session r.number → ReturnCame past k.e r.node r.xid r.session r.number
      longer {front = front} until is c = record {
        n = c.n;
        life = c.life;
        its = c.its;
        upto = c.upto;
        rest = c.rest;
        split = c.split;
        since = c.since ++ until;
        place = is ∙ (ap (λ (l : List Entry). l ++ until) c.place ∙ append_assoc (c.life.begun ++ entries_in c.upto) c.since until);
        name = c.name;
        file = c.file;
        stateid = c.stateid;
        failed = c.failed;
        called = c.called;
        fits = c.fits;
        has = c.has;
      }

  -- its place in the life, and the grant that it gives back
  record ReturnPosted (past : List Entry) (xid : ℕ) (session : SessionId) (number : ℕ) (n : ℕ) (life : Life) (name : List ℕ) (file : FileId) (stateid : Stateid) (failed : List FailedMirror) : Type 0 where
    earlier : LifeSteps
    later : LifeSteps
    posted : Entry
    split : life.steps ≡ earlier ++ Seen (compound xid name (OnSlot session number (slot.LayoutReturn file stateid failed))) posted ∷ later
    since : List Entry
    place : past ≡ journal_at life earlier ++ posted ∷ since
    items : items_in life.steps ≡ items_in earlier ++ compound xid name (OnSlot session number (slot.LayoutReturn file stateid failed)) ∷ items_in later
    gives : ReturnsAsGranted (items_in earlier) (slot.LayoutReturn file stateid failed) session

  return_posted : (past : List Entry) (e : MdsEvent) (node : NodeId) (xid : ℕ) (session : SessionId) (number : ℕ) (c : ReturnCame past e node xid session number) → ReturnPosted past xid session number c.n c.life c.name c.file c.stateid c.failed
  return_posted past e node xid session number c =
      let own : MdsCallValue = OnSlot session number (slot.LayoutReturn c.file c.stateid c.failed) in
      let i : LifeIs w t c.n laws.returns.grants.layouts.ids.replies.calls.numbered c.life = life_is w t laws.returns.grants.layouts.ids.replies.calls.numbered c.n c.life c.its in
      let p : PostedAt c.n c.life c.upto (compound xid c.name own) = posted_at c.n c.life c.upto c.rest c.split i.facts.is.woven xid c.name own c.has in
      let post : WeaveStep HistoryItem = Seen (compound xid c.name own) p.posted in
      let later : LifeSteps = p.later ++ c.rest in
      let lived : c.life.steps ≡ p.earlier ++ post ∷ later = c.split ∙ (ap (λ (z : LifeSteps). z ++ c.rest) p.split ∙ append_assoc p.earlier (post ∷ p.later) c.rest) in
      let items : items_in c.life.steps ≡ items_in p.earlier ++ compound xid c.name own ∷ items_in later = ap (λ (z : LifeSteps). items_in z) lived ∙ items_join p.earlier (post ∷ later) in
      let each : Each ReturnsOwn [] (items_in c.life.steps) = subst (λ (h : List HistoryItem). Each ReturnsOwn [] h) i.facts.is.history (laws.own c.n c.life.verifier c.life.first_xid c.life.inputs) in
      let upto_entries : entries_in c.upto ≡ entries_in p.earlier ++ p.posted ∷ entries_in p.later = ap (λ (z : LifeSteps). entries_in z) p.split ∙ entries_join p.earlier (post ∷ p.later) in
      let first : c.life.begun ++ entries_in c.upto ≡ journal_at c.life p.earlier ++ p.posted ∷ entries_in p.later =
      ap (λ (l : List Entry). c.life.begun ++ l) upto_entries ∙ sym (append_assoc c.life.begun (entries_in p.earlier) (p.posted ∷ entries_in p.later)) in
      record {
        earlier = p.earlier;
        later = later;
        posted = p.posted;
        split = lived;
        since = entries_in p.later ++ c.since;
        place = c.place ∙ (ap (λ (l : List Entry). l ++ c.since) first ∙ append_assoc (journal_at c.life p.earlier) (p.posted ∷ entries_in p.later) c.since);
        items = items;
        gives = at_place laws.returns.grants.layouts.ids boots w run t few range roomy c.n c.life c.its ReturnsOwn each (items_in p.earlier) (items_in later) (compound xid c.name own) items;
      }

  -- the grant is of the period that ended
  record GivesBack (before : List MdsEvent) (file : FileId) (client uid : ℕ) (had : HasPeriod (server_after t.mds.servers t.mds.mirrors before) file client uid) (own : FileId) (grant : LayoutGrant) : Type 0 where
    its_file : own ≡ file
    its_uid : grant.uid.0 ≡ uid
    mirrors : ids_of had.file_is.file.layout.live ≡ ids_of grant.mirrors

  gives_back : (before after : List MdsEvent) (e : MdsEvent) → IsEventOf t.mds.events before e after → (file : FileId) (client uid : ℕ) (had : HasPeriod (server_after t.mds.servers t.mds.mirrors before) file client uid) (own : FileId) (stateid : Stateid) (grant : LayoutGrant)
      → stateid.other ≡ three_words file.0 uid 0 → grant.stateid ≡ stateid → (n : ℕ) (l : Life) → HasLife t.stories n l → (past rest : List HistoryItem) → items_in l.steps ≡ past ++ rest → (granted : WasGranted past grant) → granted.file.file ≡ own
      → GivesBack before file client uid had own grant
  gives_back before after e split file client uid had own stateid grant names same n l its past rest items granted its_file =
      let g : GrantTook laws.returns.grants.layouts boots w run t few range roomy starts one n l past grant granted = grant_took laws.returns.grants.layouts boots w run t few range roomy starts one n l its past rest items grant granted in
      let m : IsMoment laws.returns.grants.layouts boots w run t few range roomy starts one before = record { behind = e ∷ after; is = split } in
      let mg : IsMoment laws.returns.grants.layouts boots w run t few range roomy starts one (g.early ++ g.f ∷ []) = moment_of laws.returns.grants.layouts boots w run t few range roomy starts one n l past grant granted g in
      let period : HasPeriod (server_after t.mds.servers t.mds.mirrors (g.early ++ g.f ∷ [])) granted.file.file (client_in granted.session) grant.uid.0 = g.grants.has in
      let small : uid < 2 ^ 32 = subst (λ (z : ℕ). z < 2 ^ 32) had.its_uid ((roomy.room before (e ∷ after) split).creds file had.file_is had.there) in
      let few_uid : grant.uid.0 < 2 ^ 32 = subst (λ (z : ℕ). z < 2 ^ 32) period.its_uid ((roomy.room (g.early ++ g.f ∷ []) mg.behind mg.is).creds granted.file.file period.file_is period.there) in
      let granted_names : grant.stateid.other ≡ three_words granted.file.file.0 grant.uid.0 0 =
      ap (λ (z : LayoutGrant). z.stateid.other) g.grants.is ∙ ap (λ (z : LayoutGrant). three_words granted.file.file.0 z.uid.0 0) (sym g.grants.is) in
      let uid_is : grant.uid.0 ≡ uid = one_uid granted.file.file.0 file.0 grant.uid.0 uid few_uid small (sym granted_names ∙ (ap (λ (z : Stateid). z.other) same ∙ names)) in
      let then_had : HasPeriod (server_after t.mds.servers t.mds.mirrors (g.early ++ g.f ∷ [])) granted.file.file (client_in granted.session) uid =
      record { file_is = period.file_is; there = period.there; holder = period.holder; node = period.node; is_recalled = period.is_recalled; phase = period.phase; its_uid = period.its_uid ∙ uid_is } in
      let both : (file ≡ granted.file.file) × (client ≡ client_in granted.session) =
      one_period laws.returns.grants.layouts boots w run t few range roomy starts one before (g.early ++ g.f ∷ []) m mg file granted.file.file client (client_in granted.session) uid had then_had in
      record {
        its_file = sym (both.0 ∙ its_file);
        its_uid = uid_is;
        mirrors =
            live_stays laws.returns boots w run t few range roomy starts one most before (g.early ++ g.f ∷ []) m mg file granted.file.file client (client_in granted.session) uid had then_had both.0
            ∙ same_live laws.returns.grants boots w run t few range roomy starts one most granted.file.file grant g.grants.file_is period.file_is g.grants.is (same_Some period.file_is g.grants.file_is (sym period.there ∙ g.grants.there));
      }

  sent_by : (past : List Entry) (file : FileId) (uid : ℕ) (k : EndAt past file uid) (r : ReturnsAtEnd t.mds.servers t.mds.mirrors k.before k.e k.front file uid) (c : ReturnCame past k.e r.node r.xid r.session r.number)
      (p : ReturnPosted past r.xid r.session r.number c.n c.life c.name c.file c.stateid c.failed) → GivesBack k.before file (client_in r.session) uid r.had c.file p.gives.0 → WasReturnedBy t past file uid
  sent_by past file uid k r c p b = record {
    n = c.n;
    life = c.life;
    its = c.its;
    earlier = p.earlier;
    later = p.later;
    xid = r.xid;
    name = c.name;
    session = r.session;
    sequence = r.number;
    stateid = c.stateid;
    failed = c.failed;
    posted = p.posted;
    split = subst (λ (f : FileId). c.life.steps ≡ p.earlier ++ Seen (compound r.xid c.name (OnSlot r.session r.number (slot.LayoutReturn f c.stateid c.failed))) p.posted ∷ p.later) b.its_file p.split;
    since = p.since;
    before = p.place;
    grant = p.gives.0;
    granted = p.gives.2.granted;
    its_stateid = p.gives.1;
    its_uid = b.its_uid;
    live = λ ids there id inside. (
      subst (λ (l : List MirrorId). IsOneOf id l) b.mirrors (r.live ids (sym (live_at_end past file uid k) ∙ there) id inside),
      r.kept c.name c.file c.stateid c.failed c.called c.fits ids (sym (live_at_end past file uid k) ∙ there) id inside,
    );
  }

  pub returns_are_sent : ReturnsAreSent t
  returns_are_sent past behind file uid is =
      let k : EndAt past file uid = end_at past behind file uid is in
      let r : ReturnsAtEnd t.mds.servers t.mds.mirrors k.before k.e k.front file uid =
      laws.come t.mds.servers t.mds.mirrors t.mds.events k.before k.after k.e (are_fit_calls laws.returns.grants.layouts.ids.replies.calls boots w run t few range) roomy k.split file uid k.front k.back k.entries in
      let c : ReturnCame past k.e r.node r.xid r.session r.number = return_before past file uid k r in
      let p : ReturnPosted past r.xid r.session r.number c.n c.life c.name c.file c.stateid c.failed = return_posted past k.e r.node r.xid r.session r.number c in
      sent_by past file uid k r c p
      (gives_back k.before k.after k.e k.split file (client_in r.session) uid r.had c.file c.stateid p.gives.0 (r.names c.name c.file c.stateid c.failed c.called c.fits) p.gives.1 c.n c.life c.its (items_in p.earlier)
      (compound r.xid c.name (OnSlot r.session r.number (slot.LayoutReturn c.file c.stateid c.failed)) ∷ items_in p.later) p.items p.gives.2.granted p.gives.2.its_file)
