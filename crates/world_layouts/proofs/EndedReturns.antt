-- Where a LAYOUTRETURN of a grant was accepted and kept a mirror, the period has ended clean (RFC 8881, section 18.44; RFC 8435, section 9).
use Rattle.std.proofs.Common.{◌≡◌, ◌≤◌, ◌<◌, ℕ, ◌^◌, zero, suc, Bool, true, false, length, List, [], ◌∷◌, ◌++◌, take, drop, Some, refl, sym, ap, subst, ◌∙◌, inl, inr, append_assoc, append-nil}
use Rattle.std.specs.Prelude.{slice_get, ◌||◌, cond}
use Rattle.device_addr.specs.Universal.{AddressValue}
use Rattle.std.specs.Int.{w32, from_be_bytes}
use Rattle.std.specs.List.{AllByRecursion, list_any}
use Rattle.std.proofs.lemmas.Bool.{eq-eqb}
use Rattle.std.proofs.lemmas.Grind.{flat_map-append}
use Rattle.std.proofs.lemmas.Nat.{from_be_bytes-to_be_bytes_4}
use Rattle.std.proofs.lemmas.Option.{same_Some}
use Rattle.ff_xdr.specs.Form.{word}
use Rattle.cluster_model.specs.declared.ids.NodeId.{NodeId}
use Rattle.cluster_model.specs.declared.ids.NodeId.TheVariants.{Mds, Client}
use Rattle.cluster_model.specs.declared.ids.FileId.{FileId}
use Rattle.cluster_model.specs.declared.ids.Mirror.{Mirror}
use Rattle.cluster_model.specs.declared.ids.MirrorId.{MirrorId}
use Rattle.cluster_model.specs.declared.phase.EndCause.{EndCause}
use Rattle.cluster_model.specs.declared.phase.EndCause.TheVariants.{Returned as IsReturned}
use Rattle.cluster_model.specs.declared.entry.Entry.{Entry}
use Rattle.cluster_model.specs.declared.entry.Entry.TheVariants as entry
use Rattle.cluster_model.specs.Phases.{ids_of}
use Rattle.cluster_model.specs.Members.{IsOneOf}
use Rattle.cluster_laws.specs.Agreement.{cause_in, causes_of}
use Rattle.cluster_laws.specs.FenceLaw.{live_in}
use Rattle.cluster_laws.specs.Holders.{HasEndedClean}
use Rattle.world_rule.specs.ClusterWorlds.{ClusterState}
use Rattle.nfs4_types.specs.Stateids.{three_words}
use Rattle.nfs4_session.specs.Clients.{client_in}
use Rattle.client_file_calls.specs.declared.grant.LayoutGrant.{LayoutGrant}
use Rattle.client_mds_calls.specs.declared.ask.MdsAsk.TheVariants as ask
use Rattle.client_mds_calls.specs.FittingCalls.{reports_server}
use Rattle.client_mds_calls.specs.MdsCalls.{MdsCallValue, OnSlot}
use Rattle.client_mds_calls.specs.MdsCalls as slot
use Rattle.client_mds_calls.specs.MdsReplies.{MdsAnswerValue, MdsReplyValue, Returned, reply_of_ask}
use Rattle.mds_rule.specs.MdsStates.{MdsValue, new_mds}
use Rattle.mds_walk.specs.MdsRuns.{MdsEvent, after_event, run_from, mds_run}
use Rattle.mds_laws.specs.MdsRunLaws.{grants_uid, GrantsUidsOnce}
use Rattle.mds_walk.proofs.Lists.{Split, split_in}
use Rattle.mds_replies.specs.ClientCalls.{server_after}
use Rattle.mds_replies.specs.LayoutReplies.{HasPeriod}
use Rattle.mds_replies.proofs.Periods.{entries_behind}
use Rattle.client_laws.specs.ClientHistory.{HistoryItem, InOrder}
use Rattle.client_laws.specs.ClientRunLaws.{CoveredByReturn}
use Rattle.client_sessions.specs.HeardReplies.{IsHeard}
use Rattle.node_histories.specs.Weaves.{items_in}
use Rattle.node_histories.specs.NodeHistories.{IsToldByNodes}
use Rattle.node_histories.proofs.WeaveLemmas.{items_join}
use Rattle.world_moves.specs.WorldMoves.{IsRunOf}
use Rattle.world_journal.specs.Journal.{IsJournalInRange}
use Rattle.world_reads.proofs.Steps.{Splits, Longer, Shorter, splits, all_first}
use Rattle.world_reads.proofs.OwnEntries.{IsToldStep, all_told}
use Rattle.world_reads.proofs.MdsPlaces.{Steps}
use Rattle.world_reads.proofs.LifeRecords.{compound}
use Rattle.mds_replies.specs.AnsweredRequests.{StaysRoomy, ReturnsSo}
use Rattle.mds_replies.specs.PeriodEntries.{IsBegun, UidsEndOnce}
use Rattle.world_layouts.specs.WorldLayouts.{IsOneRequestEach, StartsAreFew, journal_at, ReturnsHaveEnded}
use Rattle.world_layouts.proofs.LifeSends.{LifeSteps, hearing_from}
use Rattle.world_layouts.proofs.HeardItems.{HeardReply, heard_reply}
use Rattle.world_layouts.proofs.OwnRequests.{SplitAt, split_at}
use Rattle.world_layouts.proofs.OwnEffects.{TookSo, took_so}
use Rattle.world_layouts.proofs.GrantedUids.{GrantTook, grant_took, IsMoment, moment_of, calls_to, one_period}
use Rattle.world_layouts.proofs.ToldEntries.{ToldThen, told_then}
use Rattle.world_layouts.proofs.ToldGrants.{GrantLaws, same_live}
use Rattle.world_layouts.proofs.ToldEnds.{IsEndTold, ends_told, causes_told}
use Rattle.world_layouts.proofs.SlotTaken.{returned_taken}

-- ---- the uid of a stateid

middle_word : (a b c : ℕ) → take 4 (drop 4 (three_words a b c)) ≡ word b
unfolding word
middle_word a b c = refl

one_word : (a b : ℕ) → a < 2 ^ 32 → b < 2 ^ 32 → word a ≡ word b → a ≡ b
unfolding word
one_word a b first second is = sym (from_be_bytes-to_be_bytes_4 a first) ∙ (ap (λ (l : List ℕ). from_be_bytes w32 l) is ∙ from_be_bytes-to_be_bytes_4 b second)

pub one_uid : (file other uid second : ℕ) → uid < 2 ^ 32 → second < 2 ^ 32 → three_words file uid 0 ≡ three_words other second 0 → uid ≡ second
one_uid file other uid second small few is = one_word uid second small few (sym (middle_word file uid 0) ∙ (ap (λ (l : List ℕ). take 4 (drop 4 l)) is ∙ middle_word other second 0))

-- ---- a uid is granted at one place

there_is : (uid : ℕ) (a b : List Entry) (file : FileId) (node : NodeId) → list_any (grants_uid uid) (a ++ entry.Granted file (record { 0 = uid }) node ∷ b) ≡ true
there_is uid [] b file node = ap (λ (x : Bool). x || list_any (grants_uid uid) b) (eq-eqb uid uid refl)
there_is uid (e ∷ a) b file node = by_first (grants_uid uid e) (there_is uid a b file node)
  where
    by_first : (x : Bool) → list_any (grants_uid uid) (a ++ entry.Granted file (record { 0 = uid }) node ∷ b) ≡ true → (x || list_any (grants_uid uid) (a ++ entry.Granted file (record { 0 = uid }) node ∷ b)) ≡ true
    by_first true is = refl
    by_first false is = is

not_both : {A : Type 0} (b : Bool) → b ≡ true → b ≡ false → A
not_both true is other = absurd cc
not_both false is other = absurd cc

tail_is : {A : Type 0} (x y : A) (a b : List A) → x ∷ a ≡ y ∷ b → a ≡ b
tail_is x y a b is = cc

head_is : {A : Type 0} (x y : A) (a b : List A) → x ∷ a ≡ y ∷ b → x ≡ y
head_is x y a b is = cc

-- two grants of a uid in entries in which each is the first are at one place
one_grant : (uid : ℕ) (all a b c d : List Entry) (file other : FileId) (node stranger : NodeId) → ((before behind : List Entry) (f : FileId) (k : NodeId) → all ≡ before ++ entry.Granted f (record { 0 = uid }) k ∷ behind → list_any (grants_uid uid) before ≡ false)
    → all ≡ a ++ entry.Granted file (record { 0 = uid }) node ∷ b → all ≡ c ++ entry.Granted other (record { 0 = uid }) stranger ∷ d → a ≡ c
one_grant uid all a b c d file other node stranger first here there = by_place (splits a (entry.Granted file (record { 0 = uid }) node ∷ b) c (entry.Granted other (record { 0 = uid }) stranger ∷ d) (sym here ∙ there))
  where
    by_place : Splits a (entry.Granted file (record { 0 = uid }) node ∷ b) c (entry.Granted other (record { 0 = uid }) stranger ∷ d) → a ≡ c
    by_place (Longer [] one two) = sym (one ∙ append-nil a)
    by_place (Longer (x ∷ middle) one two) =
        let same : entry.Granted file (record { 0 = uid }) node ≡ x = head_is (entry.Granted file (record { 0 = uid }) node) x b (middle ++ entry.Granted other (record { 0 = uid }) stranger ∷ d) two in
        not_both (list_any (grants_uid uid) c)
        (ap (λ (l : List Entry). list_any (grants_uid uid) l) (one ∙ ap (λ (y : Entry). a ++ y ∷ middle) (sym same)) ∙ there_is uid a middle file node)
        (first c d other stranger there)
    by_place (Shorter x middle one two) =
        let same : entry.Granted other (record { 0 = uid }) stranger ≡ x = head_is (entry.Granted other (record { 0 = uid }) stranger) x d (middle ++ entry.Granted file (record { 0 = uid }) node ∷ b) two in
        not_both (list_any (grants_uid uid) a)
        (ap (λ (l : List Entry). list_any (grants_uid uid) l) (one ∙ ap (λ (y : Entry). c ++ y ∷ middle) (sym same)) ∙ there_is uid c middle other stranger)
        (first a b file node here)

-- ---- a mirror by its id

pub record HasMirror (live : List Mirror) (id : MirrorId) : Type 0 where
  pub mirror : Mirror
  pub inside : IsOneOf mirror live
  pub is : mirror.id ≡ id

mirror_of : (live : List Mirror) (place : ℕ) (id : MirrorId) → slice_get (ids_of live) place ≡ Some id → HasMirror live id
mirror_of [] place id is = absurd cc
mirror_of (m ∷ live) zero id is = record { mirror = m; inside = inl refl; is = same_Some m.id id is }
mirror_of (m ∷ live) (suc place) id is = let r : HasMirror live id = mirror_of live place id is in record { mirror = r.mirror; inside = inr r.inside; is = r.is }

id_at : (mirrors : List Mirror) (place : ℕ) (m : Mirror) → slice_get mirrors place ≡ Some m → slice_get (ids_of mirrors) place ≡ Some m.id
id_at [] place m is = absurd cc
id_at (x ∷ mirrors) zero m is = ap (λ (y : Mirror). Some y.id) (same_Some x m is)
id_at (x ∷ mirrors) (suc place) m is = id_at mirrors place m is

-- ---- a return that was heard

-- the two items at their places
pub record TwoAt (h : List HistoryItem) (x y : HistoryItem) : Type 0 where
  pub before : List HistoryItem
  pub until : List HistoryItem
  pub behind : List HistoryItem
  pub is : h ≡ before ++ x ∷ (until ++ y ∷ behind)

two_at : (h : List HistoryItem) (x y : HistoryItem) → InOrder (x ∷ y ∷ []) h → TwoAt h x y
two_at [] x y order = absurd order
two_at (z ∷ h) x y (inl (here, more)) =
    let r : SplitAt h y = split_at h y more in
    record { before = []; until = r.before; behind = r.behind; is = ap (λ (k : HistoryItem). k ∷ h) (sym here) ∙ ap (λ (l : List HistoryItem). x ∷ l) r.is }
two_at (z ∷ h) x y (inr order) = let r : TwoAt h x y = two_at h x y order in record { before = z ∷ r.before; until = r.until; behind = r.behind; is = ap (λ (l : List HistoryItem). z ∷ l) r.is }

abbrev returns_call : {past : List HistoryItem} (grant : LayoutGrant) (at : ℕ) (bytes : List ℕ) → CoveredByReturn past grant at bytes → MdsCallValue
returns_call grant at bytes r = OnSlot r.session r.sequence (slot.LayoutReturn r.file grant.stateid r.failed)

pub record ReturnHeard (past : List HistoryItem) (grant : LayoutGrant) (at : ℕ) (bytes : List ℕ) (r : CoveredByReturn past grant at bytes) : Type 0 where
  pub behind : List HistoryItem
  pub heard : IsHeard past r.xid r.name (OnSlot r.session r.sequence (slot.LayoutReturn r.file grant.stateid r.failed)) (reply_of_ask ask.LayoutReturn r.says.reply) behind

return_heard : (past : List HistoryItem) (grant : LayoutGrant) (at : ℕ) (bytes : List ℕ) (r : CoveredByReturn past grant at bytes) → ReturnHeard past grant at bytes r
return_heard past grant at bytes r =
    let p : TwoAt past (compound r.xid r.name (OnSlot r.session r.sequence (slot.LayoutReturn r.file grant.stateid r.failed))) (hearing_from Mds r.bytes r.now) =
    two_at past (compound r.xid r.name (OnSlot r.session r.sequence (slot.LayoutReturn r.file grant.stateid r.failed))) (hearing_from Mds r.bytes r.now) r.order in
    record {
      behind = p.behind;
      heard = record { before = p.before; until = p.until; bytes = r.bytes; now = r.now; split = p.is; reply = r.says.reply; reply_is = r.says.reply_is; number = r.says.number; says_so = refl };
    }

pub record ReturnLaws : Type 0 where
  pub grants : GrantLaws
  pub once : (servers : List AddressValue) (mirrors : ℕ) (events : List MdsEvent) → GrantsUidsOnce servers mirrors events
  pub ends : UidsEndOnce

module _ (laws : ReturnLaws) (boots : List ℕ) (w : ClusterState) (run : IsRunOf boots w) (t : IsToldByNodes w) (few : length w.machines.clients < 2 ^ 32) (range : IsJournalInRange w.journal) (roomy : StaysRoomy t.mds.servers t.mds.mirrors t.mds.events)
    (starts : StartsAreFew t) (one : IsOneRequestEach t) (most : t.mds.mirrors ≤ 4) where
  -- at each moment of a period the same mirrors are live
  pub live_stays : (upto others : List MdsEvent) → IsMoment laws.grants.layouts boots w run t few range roomy starts one upto → IsMoment laws.grants.layouts boots w run t few range roomy starts one others
      → (file other : FileId) (client stranger uid : ℕ) (p : HasPeriod (server_after t.mds.servers t.mds.mirrors upto) file client uid) (q : HasPeriod (server_after t.mds.servers t.mds.mirrors others) other stranger uid) → file ≡ other
      → ids_of p.file_is.file.layout.live ≡ ids_of q.file_is.file.layout.live
  live_stays upto others m k file other client stranger uid p q same =
      let run_all : List Entry = (mds_run t.mds.servers t.mds.mirrors t.mds.events).entries in
      let new : MdsValue = new_mds t.mds.servers t.mds.mirrors in
      let b : IsBegun (mds_run t.mds.servers t.mds.mirrors upto).entries file uid p.node (ids_of p.file_is.file.layout.live) =
      laws.grants.begin t.mds.servers t.mds.mirrors upto file client uid most (calls_to laws.grants.layouts boots w run t few range roomy starts one upto m) p in
      let c : IsBegun (mds_run t.mds.servers t.mds.mirrors others).entries other uid q.node (ids_of q.file_is.file.layout.live) =
      laws.grants.begin t.mds.servers t.mds.mirrors others other stranger uid most (calls_to laws.grants.layouts boots w run t few range roomy starts one others k) q in
      let more : List Entry = (run_from (run_from new upto).mds m.behind).entries in
      let rest : List Entry = (run_from (run_from new others).mds k.behind).entries in
      let first : run_all ≡ b.before ++ entry.Granted file (record { 0 = uid }) (Client p.node) ∷ (b.behind ++ more) =
      ap (λ (x : List MdsEvent). (run_from new x).entries) m.is ∙ (entries_behind new upto m.behind ∙ (ap (λ (x : List Entry). x ++ more) b.split ∙ append_assoc b.before (entry.Granted file (record { 0 = uid }) (Client p.node) ∷ b.behind) more)) in
      let second : run_all ≡ c.before ++ entry.Granted other (record { 0 = uid }) (Client q.node) ∷ (c.behind ++ rest) =
      ap (λ (x : List MdsEvent). (run_from new x).entries) k.is ∙ (entries_behind new others k.behind ∙ (ap (λ (x : List Entry). x ++ rest) c.split ∙ append_assoc c.before (entry.Granted other (record { 0 = uid }) (Client q.node) ∷ c.behind) rest)) in
      let place : b.before ≡ c.before =
      one_grant uid run_all b.before (b.behind ++ more) c.before (c.behind ++ rest) file other (Client p.node) (Client q.node) (λ before behind f n is. laws.once t.mds.servers t.mds.mirrors t.mds.events before behind (entry.Granted f (record { 0 = uid }) n) is) first second in
      same_Some (ids_of p.file_is.file.layout.live) (ids_of q.file_is.file.layout.live) (sym b.live_then ∙ (ap (λ (l : List Entry). live_in l file) place ∙ (ap (λ (f : FileId). live_in c.before f) same ∙ c.live_then)))

  -- an end that stands by a moment, with its first causes
  ended_clean : (journal before : List Entry) (file : FileId) (uid : ℕ) → (told : ToldThen w t journal before (entry.Ended file (record { 0 = uid }) IsReturned)) → causes_of uid before ≡ [] → HasEndedClean journal uid
  ended_clean journal before file uid told none =
      let first_told : AllByRecursion IsToldStep told.steps = all_first IsToldStep told.steps told.rest (subst (λ (k : Steps). AllByRecursion IsToldStep k) told.whole (all_told w t)) in
      let first_ends : AllByRecursion IsEndTold told.steps = all_first IsEndTold told.steps told.rest (subst (λ (k : Steps). AllByRecursion IsEndTold k) told.whole (ends_told w t)) in
      let x : Entry = entry.Ended file (record { 0 = uid }) IsReturned in
      let causes : causes_of uid told.first ≡ [] =
      ap (λ (l : List Entry). causes_of uid l) (sym told.steps_entries) ∙ (causes_told uid told.steps first_told first_ends ∙ (ap (λ (l : List Entry). causes_of uid l) told.entries ∙ none)) in
      let here : cause_in uid x ≡ IsReturned ∷ [] = ap (λ (b : Bool). cond {A = List EndCause} b (IsReturned ∷ []) []) (eq-eqb uid uid refl) in
      record {
        cause = IsReturned;
        more = causes_of uid told.last;
        causes =
            ap (λ (l : List Entry). causes_of uid l) told.split
            ∙ (flat_map-append (cause_in uid) told.first (x ∷ told.last) ∙ (ap (λ (l : List EndCause). l ++ causes_of uid (x ∷ told.last)) causes ∙ ap (λ (l : List EndCause). l ++ causes_of uid told.last) here));
        clean = refl;
      }

  pub returns_have_ended : ReturnsHaveEnded t
  returns_have_ended n l earlier later grant at bytes its split granted returned unreported =
      let items : items_in l.steps ≡ items_in earlier ++ items_in later = ap (λ (s : LifeSteps). items_in s) split ∙ items_join earlier later in
      let g : GrantTook laws.grants.layouts boots w run t few range roomy starts one n l (items_in earlier) grant granted =
      grant_took laws.grants.layouts boots w run t few range roomy starts one n l its (items_in earlier) (items_in later) items grant granted in
      let r : ReturnHeard (items_in earlier) grant at bytes returned = return_heard (items_in earlier) grant at bytes returned in
      let says : MdsReplyValue = reply_of_ask ask.LayoutReturn returned.says.reply in
      let call : MdsCallValue = OnSlot returned.session returned.sequence (slot.LayoutReturn returned.file grant.stateid returned.failed) in
      let h : HeardReply laws.grants.layouts.ids.replies boots w run t few range roomy n l (items_in earlier) returned.name call says r.behind =
      heard_reply laws.grants.layouts.ids.replies boots w run t few range roomy n l its (items_in earlier) (items_in later) items returned.xid returned.name call says r.behind r.heard in
      let k : TookSo t (h.was.answered.before ++ h.was.answered.e ∷ []) returned.session returned.sequence (slot.LayoutReturn returned.file grant.stateid returned.failed) Returned =
      subst (λ (a : MdsAnswerValue). TookSo t (h.was.answered.before ++ h.was.answered.e ∷ []) returned.session returned.sequence (slot.LayoutReturn returned.file grant.stateid returned.failed) a) returned.says.says_so
      (took_so laws.grants.layouts.ids boots w run t few range roomy starts one n l its (items_in earlier) returned.name returned.session returned.sequence (slot.LayoutReturn returned.file grant.stateid returned.failed) says r.behind h
      (returned_taken returned.says.reply returned.says.says_so)) in
      let so : ReturnsSo t.mds.servers t.mds.mirrors k.early k.f (client_in returned.session) returned.file grant.stateid returned.failed = k.means in
      let a = h.was.answered in
      let whole : t.mds.events ≡ k.early ++ (k.f ∷ (k.late ++ a.after)) =
      a.split ∙ (sym (append_assoc a.before (a.e ∷ []) a.after) ∙ (ap (λ (x : List MdsEvent). x ++ a.after) k.split ∙ append_assoc k.early (k.f ∷ k.late) a.after)) in
      let m : IsMoment laws.grants.layouts boots w run t few range roomy starts one k.early = record { behind = k.f ∷ (k.late ++ a.after); is = whole } in
      let mg : IsMoment laws.grants.layouts boots w run t few range roomy starts one (g.early ++ g.f ∷ []) = moment_of laws.grants.layouts boots w run t few range roomy starts one n l (items_in earlier) grant granted g in
      let small : so.uid < 2 ^ 32 = subst (λ (x : ℕ). x < 2 ^ 32) so.had.its_uid ((roomy.room k.early (k.f ∷ (k.late ++ a.after)) whole).creds returned.file so.had.file_is so.had.there) in
      let p : HasPeriod (server_after t.mds.servers t.mds.mirrors (g.early ++ g.f ∷ [])) granted.file.file (client_in granted.session) grant.uid.0 = g.grants.has in
      let few_uid : grant.uid.0 < 2 ^ 32 = subst (λ (x : ℕ). x < 2 ^ 32) p.its_uid ((roomy.room (g.early ++ g.f ∷ []) mg.behind mg.is).creds granted.file.file p.file_is p.there) in
      let names : grant.stateid.other ≡ three_words granted.file.file.0 grant.uid.0 0 =
      ap (λ (x : LayoutGrant). x.stateid.other) g.grants.is ∙ ap (λ (x : LayoutGrant). three_words granted.file.file.0 x.uid.0 0) (sym g.grants.is) in
      let uid : so.uid ≡ grant.uid.0 = one_uid returned.file.0 granted.file.file.0 so.uid grant.uid.0 small few_uid (sym so.names ∙ names) in
      let had : HasPeriod (server_after t.mds.servers t.mds.mirrors k.early) returned.file (client_in returned.session) grant.uid.0 =
      subst (λ (x : ℕ). HasPeriod (server_after t.mds.servers t.mds.mirrors k.early) returned.file (client_in returned.session) x) uid so.had in
      let both : (returned.file ≡ granted.file.file) × (client_in returned.session ≡ client_in granted.session) =
      one_period laws.grants.layouts boots w run t few range roomy starts one k.early (g.early ++ g.f ∷ []) m mg returned.file granted.file.file (client_in returned.session) (client_in granted.session) so.uid so.had
      (subst (λ (x : ℕ). HasPeriod (server_after t.mds.servers t.mds.mirrors (g.early ++ g.f ∷ [])) granted.file.file (client_in granted.session) x) (sym uid) p) in
      let q : HasPeriod (server_after t.mds.servers t.mds.mirrors (g.early ++ g.f ∷ [])) granted.file.file (client_in granted.session) so.uid =
      record { file_is = p.file_is; there = p.there; holder = p.holder; node = p.node; is_recalled = p.is_recalled; phase = p.phase; its_uid = p.its_uid ∙ sym uid } in
      let live : ids_of so.had.file_is.file.layout.live ≡ ids_of p.file_is.file.layout.live =
      live_stays k.early (g.early ++ g.f ∷ []) m mg returned.file granted.file.file (client_in returned.session) (client_in granted.session) so.uid so.had q both.0 in
      let shown : ids_of p.file_is.file.layout.live ≡ ids_of grant.mirrors =
      same_live laws.grants boots w run t few range roomy starts one most granted.file.file grant g.grants.file_is p.file_is g.grants.is (same_Some p.file_is g.grants.file_is (sym p.there ∙ g.grants.there)) in
      let kept : HasMirror so.had.file_is.file.layout.live unreported.mirror.id =
      mirror_of so.had.file_is.file.layout.live unreported.place unreported.mirror.id
      (ap (λ (ids : List MirrorId). slice_get ids unreported.place) (live ∙ shown) ∙ id_at grant.mirrors unreported.place unreported.mirror unreported.there) in
      let cause : so.cause ≡ IsReturned = so.clean kept.mirror kept.inside (ap (λ (i : MirrorId). reports_server returned.failed i.server) kept.is ∙ unreported.kept) in
      let ended : IsOneOf (entry.Ended returned.file (record { 0 = grant.uid.0 }) IsReturned) (after_event k.f (server_after t.mds.servers t.mds.mirrors k.early)).entries =
      subst (λ (c : EndCause). IsOneOf (entry.Ended returned.file (record { 0 = grant.uid.0 }) c) (after_event k.f (server_after t.mds.servers t.mds.mirrors k.early)).entries) cause
      (subst (λ (x : ℕ). IsOneOf (entry.Ended returned.file (record { 0 = x }) so.cause) (after_event k.f (server_after t.mds.servers t.mds.mirrors k.early)).entries) uid so.ended) in
      let x : Entry = entry.Ended returned.file (record { 0 = grant.uid.0 }) IsReturned in
      let s : Split x (after_event k.f (server_after t.mds.servers t.mds.mirrors k.early)).entries = split_in x (after_event k.f (server_after t.mds.servers t.mds.mirrors k.early)).entries ended in
      let new : MdsValue = new_mds t.mds.servers t.mds.mirrors in
      let before : List Entry = (run_from new k.early).entries ++ s.front in
      let run_is : (mds_run t.mds.servers t.mds.mirrors (k.early ++ k.f ∷ [])).entries ≡ before ++ x ∷ s.behind =
      entries_behind new k.early (k.f ∷ [])
      ∙ (ap (λ (l : List Entry). (run_from new k.early).entries ++ l) (append-nil (after_event k.f (server_after t.mds.servers t.mds.mirrors k.early)).entries ∙ s.is) ∙ sym (append_assoc (run_from new k.early).entries s.front (x ∷ s.behind))) in
      let mk : IsMoment laws.grants.layouts boots w run t few range roomy starts one (k.early ++ k.f ∷ []) = record { behind = k.late ++ a.after; is = whole ∙ sym (append_assoc k.early (k.f ∷ []) (k.late ++ a.after)) } in
      let none : causes_of grant.uid.0 before ≡ [] =
      laws.ends t.mds.servers t.mds.mirrors (k.early ++ k.f ∷ []) before s.behind returned.file (record { 0 = grant.uid.0 }) IsReturned (calls_to laws.grants.layouts boots w run t few range roomy starts one (k.early ++ k.f ∷ []) mk) run_is in
      let told : ToldThen w t (journal_at l earlier) before x =
      told_then w t n l earlier later split (h.before ++ compound h.reply.xid returned.name call ∷ h.until) h.bytes h.now r.behind (r.behind ++ h.rest) h.past_is h.was.heard h.reply h.was.answered (k.early ++ k.f ∷ []) k.late
      (k.split ∙ sym (append_assoc k.early (k.f ∷ []) k.late)) before s.behind x run_is in
      ended_clean (journal_at l earlier) before returned.file grant.uid.0 told none
