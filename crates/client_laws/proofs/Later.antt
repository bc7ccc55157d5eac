-- What stands in a history stands in a longer one.
use Rattle.rpc_record.specs.Replies.{RpcReply}
use Rattle.client_laws.proofs.Splits.{StandsBefore, split_before}
use Rattle.client_laws.specs.RecallLaws.{RecalledSince}
use Rattle.std.proofs.Common.{◌≡◌, ◌≢◌, ℕ, ◌+◌, ◌<◌, Bool, true, false, List, [], ◌∷◌, ◌++◌, Option, Some, None, refl, sym, ap, subst, ◌∙◌, arith, inl, inr, ◌⊎◌}
use Rattle.std.specs.Prelude.{slice_get, ◌==◌, if◌then◌else◌}
use Rattle.std.proofs.lemmas.List.{append_assoc}
use Rattle.std.proofs.lemmas.Option.{none-some, same_Some}
use Rattle.cluster_model.specs.declared.ids.FileId.{FileId}
use Rattle.cluster_model.specs.declared.ids.MirrorId.{MirrorId}
use Rattle.cluster_model.specs.declared.ids.NodeId.TheVariants.{Mds, Server}
use Rattle.cluster_model.specs.declared.answer.UserAnswer.TheVariants as answer
use Rattle.cluster_model.specs.declared.answer.FailCause.TheVariants as failing
use Rattle.cluster_model.specs.declared.entry.Entry.{Entry}
use Rattle.cluster_model.specs.declared.entry.Entry.TheVariants.{Sent, Rogue, Answer}
use Rattle.cluster_model.specs.DsCalls.{Write, Commit}
use Rattle.mirror_writer.specs.declared.call.TakenWrite.{TakenWrite}
use Rattle.mirror_writer.specs.declared.call.WriteAnswer.{WriteAnswer}
use Rattle.mirror_writer.specs.declared.call.WriterCall.{WriterCall}
use Rattle.mirror_writer.specs.declared.call.WriterCall.TheVariants.{NoCall, OutWrite, OutCommit}
use Rattle.mirror_writer.specs.Writers.{WriterMirror}
use Rattle.client_file_calls.specs.declared.grant.LayoutGrant.{LayoutGrant}
use Rattle.client_mds_calls.specs.declared.ask.MdsAsk.{MdsAsk}
use Rattle.client_mds_calls.specs.FittingCalls.{reports_server}
use Rattle.client_mds_calls.specs.MdsCalls.{MdsCallValue, OnSlot}
use Rattle.client_mds_calls.specs.MdsCalls as slot
use Rattle.client_state.specs.declared.stage.LayoutStage.TheVariants.{Returning}
use Rattle.nfs4_types.specs.declared.ids.SessionId.{SessionId}
use Rattle.client_file_calls.specs.declared.layout_return.FailedMirror.{FailedMirror}
use Rattle.client_mds_calls.specs.declared.ask.MdsAsk.TheVariants as ask
use Rattle.nfs4_types.specs.declared.stateid.Stateid.{Stateid}
use Rattle.client_state.specs.declared.layout.Layout.{Layout}
use Rattle.client_state.specs.declared.asked.Asked.{Asked}
use Rattle.client_state.specs.ClientStates.{ClientValue}
use Rattle.client_state.specs.ClientSends.{ClientSend, CallsServer, CallsMds, RepeatsToServer, RepeatsToMds, RepliesToMds}
use Rattle.client_calls.specs.ClientCalls.{xid_after}
use Rattle.client_calls.specs.ClientLaws.{new_number}
use Rattle.client_laws.specs.ClientHistory.{HistoryItem, Hears, Enters, Sends, Recorded, HasItem}
use Rattle.client_laws.specs.ClientRunLaws.{IsReplied, WasGranted, WasWritten, WasCovered, WasEntered, WasSent, WasStray, WasTakenUnder}
use Rattle.client_laws.proofs.Orders.{in_more, in_next, in_either}
use Rattle.client_laws.proofs.Stands.{Every, TakenWritten, TakenCovered, CommitItem, CallStands, MirrorStands, IsSettled, LayoutStands, IfThere, ReturnOut, AskFits, AskOut, QuietItem, QuietSend, IsOut, NumbersStand, TakenUnder, StandsOf, Stands, IdleItem, IdleEntry, MildItem, MildEntry, NumberlessItem, reported_of, MuteItem, MuteSend, IdleSend}

pub every_in : (P : HistoryItem → Type 0) (xs : List HistoryItem) (x : HistoryItem) → Every P xs → HasItem xs x → P x
every_in P [] x all i = absurd i
every_in P (y ∷ ys) x all (inl (same, rest)) = subst P (sym same) all.0
every_in P (y ∷ ys) x all (inr i) = every_in P ys x all.1 i

pub every_map : {A : Type 0} (P Q : A → Type 0) → ((x : A) → P x → Q x) → (xs : List A) → Every P xs → Every Q xs
every_map P Q f [] all = tt
every_map P Q f (x ∷ xs) all = (f x all.0, every_map P Q f xs all.1)

pub every_append : {A : Type 0} (P : A → Type 0) (xs ys : List A) → Every P xs → Every P ys → Every P (xs ++ ys)
every_append P [] ys first second = second
every_append P (x ∷ xs) ys first second = (first.0, every_append P xs ys first.1 second)

-- ---- facts of a history

pub written_later : (h more : List HistoryItem) (id : MirrorId) (uid at : ℕ) (d : List ℕ) (v : ℕ) (behind : List HistoryItem) → WasWritten h id uid at d v behind → WasWritten (h ++ more) id uid at d v behind
written_later h more id uid at d v behind w = record {
  xid = w.xid;
  name = w.name;
  bytes = w.bytes;
  now = w.now;
  shown = w.shown;
  says = w.says;
  order = in_more (Sends (CallsServer id.server w.xid w.name uid (Write id.fileid at false d)) ∷ Hears (Recorded (Server id.server) w.bytes w.now) ∷ behind) h more w.order;
}

pub written_next : (h : List HistoryItem) (x : HistoryItem) (id : MirrorId) (uid at : ℕ) (d : List ℕ) (v : ℕ) (behind : List HistoryItem) → WasWritten h id uid at d v behind → WasWritten (h ++ x ∷ []) id uid at d v (behind ++ x ∷ [])
written_next h x id uid at d v behind w = record {
  xid = w.xid;
  name = w.name;
  bytes = w.bytes;
  now = w.now;
  shown = w.shown;
  says = w.says;
  order = in_next (Sends (CallsServer id.server w.xid w.name uid (Write id.fileid at false d)) ∷ Hears (Recorded (Server id.server) w.bytes w.now) ∷ behind) h x w.order;
}

pub covered_later : (h more : List HistoryItem) (id : MirrorId) (uid at : ℕ) (d : List ℕ) (behind : List HistoryItem) → WasCovered h id uid at d behind → WasCovered (h ++ more) id uid at d behind
covered_later h more id uid at d behind c = record {
  verifier = c.verifier;
  xid = c.xid;
  name = c.name;
  bytes = c.bytes;
  now = c.now;
  shown = c.shown;
  says = c.says;
  written = written_later h more id uid at d c.verifier (Sends (CallsServer id.server c.xid c.name uid (Commit id.fileid)) ∷ Hears (Recorded (Server id.server) c.bytes c.now) ∷ behind) c.written;
}

pub covered_next : (h : List HistoryItem) (x : HistoryItem) (id : MirrorId) (uid at : ℕ) (d : List ℕ) (behind : List HistoryItem) → WasCovered h id uid at d behind → WasCovered (h ++ x ∷ []) id uid at d (behind ++ x ∷ [])
covered_next h x id uid at d behind c = record {
  verifier = c.verifier;
  xid = c.xid;
  name = c.name;
  bytes = c.bytes;
  now = c.now;
  shown = c.shown;
  says = c.says;
  written = written_next h x id uid at d c.verifier (Sends (CallsServer id.server c.xid c.name uid (Commit id.fileid)) ∷ Hears (Recorded (Server id.server) c.bytes c.now) ∷ behind) c.written;
}

abbrev pub granted_later : (h more : List HistoryItem) (grant : LayoutGrant) → WasGranted h grant → WasGranted (h ++ more) grant
granted_later h more grant g = record {
  before = g.before;
  since = g.since ++ more;
  xid = g.xid;
  name = g.name;
  session = g.session;
  sequence = g.sequence;
  file = g.file;
  bytes = g.bytes;
  now = g.now;
  split = ap (λ l. l ++ more) g.split ∙ append_assoc g.before (Sends (CallsMds g.xid g.name (OnSlot g.session g.sequence (slot.LayoutGet g.file))) ∷ g.since) more;
  heard = in_more (Hears (Recorded Mds g.bytes g.now) ∷ []) g.since more g.heard;
  says = g.says;
}

pub replied_later : (h more : List HistoryItem) (xid : ℕ) (name : List ℕ) (call : MdsCallValue) → IsReplied h xid name call → IsReplied (h ++ more) xid name call
replied_later h more xid name call r = record { bytes = r.bytes; now = r.now; reply = r.reply; reply_is = r.reply_is; number = r.number; order = in_more (Sends (CallsMds xid name call) ∷ Hears (Recorded Mds r.bytes r.now) ∷ []) h more r.order }

-- ---- what a mirror has

pub taken_written_later : (h more : List HistoryItem) (cred : ℕ) (taken : List TakenWrite) (id : MirrorId) (behind : List HistoryItem) (a : WriteAnswer)
    → TakenWritten h cred taken id behind a → TakenWritten (h ++ more) cred taken id behind a
taken_written_later h more cred taken id behind a t = record { write = t.write; there = t.there; written = written_later h more id cred t.write.at t.write.bytes a.verifier behind t.written }

pub taken_written_next : (h : List HistoryItem) (x : HistoryItem) (cred : ℕ) (taken : List TakenWrite) (id : MirrorId) (behind : List HistoryItem) (a : WriteAnswer)
    → TakenWritten h cred taken id behind a → TakenWritten (h ++ x ∷ []) cred taken id (behind ++ x ∷ []) a
taken_written_next h x cred taken id behind a t = record { write = t.write; there = t.there; written = written_next h x id cred t.write.at t.write.bytes a.verifier behind t.written }

pub taken_covered_later : (h more : List HistoryItem) (cred : ℕ) (taken : List TakenWrite) (id : MirrorId) (n : ℕ) → TakenCovered h cred taken id n → TakenCovered (h ++ more) cred taken id n
taken_covered_later h more cred taken id n t = record { write = t.write; there = t.there; covered = covered_later h more id cred t.write.at t.write.bytes [] t.covered }

pub call_later : (h more : List HistoryItem) (name : List ℕ) (cred : ℕ) (taken : List TakenWrite) (id : MirrorId) (answered : List WriteAnswer) (call : WriterCall)
    → CallStands h name cred taken id answered call → CallStands (h ++ more) name cred taken id answered call
call_later h more name cred taken id answered NoCall s = tt
call_later h more name cred taken id answered (OutWrite xid n timeouts) s = record { write = s.write; there = s.there; sent = in_more (Sends (CallsServer id.server xid name cred (Write id.fileid s.write.at false s.write.bytes)) ∷ []) h more s.sent }
call_later h more name cred taken id answered (OutCommit xid timeouts) s =
    (in_more (CommitItem name cred id xid ∷ []) h more s.0, every_map (TakenWritten h cred taken id (CommitItem name cred id xid ∷ [])) (TakenWritten (h ++ more) cred taken id (CommitItem name cred id xid ∷ [])) (taken_written_later h more cred taken id (CommitItem name cred id xid ∷ [])) answered s.1)

pub mirror_later : (h more : List HistoryItem) (name : List ℕ) (cred : ℕ) (taken : List TakenWrite) (reports : ℕ → Bool) (m : WriterMirror)
    → MirrorStands h name cred taken reports m → MirrorStands (h ++ more) name cred taken reports m
mirror_later h more name cred taken reports m s = record {
  size = s.size;
  counts = s.counts;
  call = call_later h more name cred taken m.id m.answered m.call s.call;
  answered = every_map (TakenWritten h cred taken m.id []) (TakenWritten (h ++ more) cred taken m.id []) (taken_written_later h more cred taken m.id []) m.answered s.answered;
  covered = λ n is. taken_covered_later h more cred taken m.id n (s.covered n is);
  reported = s.reported;
}

-- ---- the layout and the compound

abbrev pub AreIdle : List HistoryItem → Type 0
AreIdle more = Every IdleItem more

abbrev pub AreQuiet : List HistoryItem → Type 0
AreQuiet more = Every QuietItem more

abbrev pub AreNumberless : List HistoryItem → Type 0
AreNumberless more = Every NumberlessItem more

abbrev pub AreMild : List HistoryItem → Type 0
AreMild more = Every MildItem more

mild_entry : (e : Entry) → IdleEntry e → MildEntry e
mild_entry (Sent file cred at bytes) idle = absurd idle
mild_entry (Answer client a) idle = tt
mild_entry e idle = tt

mild_item : (x : HistoryItem) → IdleItem x → MildItem x
mild_item (Hears input) idle = tt
mild_item (Enters entry) idle = mild_entry entry idle
mild_item (Sends send) idle = tt

pub are_mild : (more : List HistoryItem) → AreIdle more → AreMild more
are_mild more idle = every_map IdleItem MildItem mild_item more idle

idle_number : (s : ClientSend) → IdleSend s → new_number s ≡ None
idle_number (RepeatsToServer server xid name uid call) idle = refl
idle_number (RepeatsToMds xid message) idle = refl
idle_number (CallsServer server xid name uid call) idle = absurd idle
idle_number (CallsMds xid name call) idle = absurd idle
idle_number (RepliesToMds reply) idle = absurd idle

abbrev pub AreMute : List HistoryItem → Type 0
AreMute more = Every MuteItem more

mute_send : (s : ClientSend) → IdleSend s → MuteSend s
mute_send (RepeatsToServer server xid name uid call) idle = tt
mute_send (RepeatsToMds xid message) idle = tt
mute_send (CallsServer server xid name uid call) idle = tt
mute_send (CallsMds xid name call) idle = tt
mute_send (RepliesToMds reply) idle = idle

mute_item : (x : HistoryItem) → IdleItem x → MuteItem x
mute_item (Hears input) idle = tt
mute_item (Enters entry) idle = tt
mute_item (Sends send) idle = mute_send send idle

pub are_mute : (more : List HistoryItem) → AreIdle more → AreMute more
are_mute more idle = every_map IdleItem MuteItem mute_item more idle

pub not_replied : (more : List HistoryItem) (reply : RpcReply) → AreMute more → HasItem more (Sends (RepliesToMds reply)) → ⊥
not_replied more reply mute i = every_in MuteItem more (Sends (RepliesToMds reply)) mute i

numberless_item : (x : HistoryItem) → IdleItem x → NumberlessItem x
numberless_item (Hears input) idle = tt
numberless_item (Enters entry) idle = tt
numberless_item (Sends send) idle = idle_number send idle

pub are_numberless : (more : List HistoryItem) → AreIdle more → AreNumberless more
are_numberless more idle = every_map IdleItem NumberlessItem numberless_item more idle

quiet_send : (s : ClientSend) → new_number s ≡ None → QuietSend s
quiet_send (CallsMds xid name call) none = absurd (none-some xid (sym none))
quiet_send (CallsServer server xid name uid call) none = tt
quiet_send (RepeatsToServer server xid name uid call) none = tt
quiet_send (RepeatsToMds xid message) none = tt
quiet_send (RepliesToMds reply) none = tt

quiet : (x : HistoryItem) → IdleItem x → QuietItem x
quiet (Hears input) idle = tt
quiet (Enters entry) idle = idle
quiet (Sends send) idle = quiet_send send (idle_number send idle)

mild_quiet : (x : HistoryItem) → QuietItem x → MildItem x
mild_quiet (Hears input) quiet = tt
mild_quiet (Enters entry) quiet = mild_entry entry quiet
mild_quiet (Sends send) quiet = tt

pub quiet_mild : (more : List HistoryItem) → AreQuiet more → AreMild more
quiet_mild more quiet = every_map QuietItem MildItem mild_quiet more quiet

pub are_quiet : (more : List HistoryItem) → AreIdle more → AreQuiet more
are_quiet more idle = every_map IdleItem QuietItem quiet more idle

pub under_uid_later : (h more : List HistoryItem) (uid at : ℕ) (bytes : List ℕ) → WasTakenUnder h uid at bytes → WasTakenUnder (h ++ more) uid at bytes
under_uid_later h more uid at bytes u = record { file = u.file; there = in_more (Enters (Sent u.file (record { 0 = uid }) at bytes) ∷ []) h more u.there }

pub entered_later : (h more : List HistoryItem) (uid at : ℕ) (bytes : List ℕ) → WasEntered h uid at bytes → WasEntered (h ++ more) uid at bytes
entered_later h more uid at bytes (WasSent u) = WasSent (under_uid_later h more uid at bytes u)
entered_later h more uid at bytes (WasStray file i) = WasStray file (in_more (Enters (Rogue file (record { 0 = uid }) at bytes) ∷ []) h more i)

module _ (h more : List HistoryItem) (name : List ℕ) (reports : ℕ → Bool) (l : Layout) (s : LayoutStands h name reports l) where
  pub taken_later : AreMild more → (file : FileId) (at : ℕ) (bytes : List ℕ) → HasItem (s.granted.since ++ more) (Enters (Sent file (record { 0 = l.writer.cred }) at bytes)) → (n : ℕ) × (slice_get l.writer.taken n ≡ Some (record { at = at; bytes = bytes }))
  taken_later mild file at bytes i = by_place (in_either s.granted.since more (Enters (Sent file (record { 0 = l.writer.cred }) at bytes)) i)
    where
      by_place : HasItem s.granted.since (Enters (Sent file (record { 0 = l.writer.cred }) at bytes)) ⊎ HasItem more (Enters (Sent file (record { 0 = l.writer.cred }) at bytes))
          → (n : ℕ) × (slice_get l.writer.taken n ≡ Some (record { at = at; bytes = bytes }))
      by_place (inl i) = s.taken file at bytes i
      by_place (inr i) = absurd (every_in MildItem more (Enters (Sent file (record { 0 = l.writer.cred }) at bytes)) mild i)

  pub not_taken_later : AreQuiet more → (client : ℕ) → HasItem (s.granted.since ++ more) (Enters (Answer client (answer.Failed failing.Revoked))) → ⊥
  not_taken_later quiet client i = by_place (in_either s.granted.since more (Enters (Answer client (answer.Failed failing.Revoked))) i)
    where
      by_place : HasItem s.granted.since (Enters (Answer client (answer.Failed failing.Revoked))) ⊎ HasItem more (Enters (Answer client (answer.Failed failing.Revoked))) → ⊥
      by_place (inl i) = s.was_taken client i
      by_place (inr i) = every_in QuietItem more (Enters (Answer client (answer.Failed failing.Revoked))) quiet i

  pub given_later : AreQuiet more → (xid : ℕ) (caller : List ℕ) (session : SessionId) (sequence : ℕ) (file : FileId) (failed : List FailedMirror)
      → HasItem (s.granted.since ++ more) (Sends (CallsMds xid caller (OnSlot session sequence (slot.LayoutReturn file s.grant.stateid failed)))) → l.was_sent ≡ true
  given_later quiet xid caller session sequence file failed i = by_place (in_either s.granted.since more (Sends (CallsMds xid caller (OnSlot session sequence (slot.LayoutReturn file s.grant.stateid failed)))) i)
    where
      by_place : HasItem s.granted.since (Sends (CallsMds xid caller (OnSlot session sequence (slot.LayoutReturn file s.grant.stateid failed)))) ⊎ HasItem more (Sends (CallsMds xid caller (OnSlot session sequence (slot.LayoutReturn file s.grant.stateid failed)))) → l.was_sent ≡ true
      by_place (inl i) = s.was_given xid caller session sequence file failed i
      by_place (inr i) = absurd (every_in QuietItem more (Sends (CallsMds xid caller (OnSlot session sequence (slot.LayoutReturn file s.grant.stateid failed)))) quiet i)

  pub recalled_before : AreMute more → RecalledSince (granted_later h more s.grant s.granted) → RecalledSince s.granted
  recalled_before mute r =
      let b : StandsBefore s.granted.since r.items (Sends (RepliesToMds r.reply)) = split_before s.granted.since more r.items r.behind (Sends (RepliesToMds r.reply)) r.split (not_replied more r.reply mute) in
      record { items = r.items; behind = b.behind; reply = r.reply; split = b.split; recalled = r.recalled }

  pub layout_later_by : AreMild more → AreQuiet more → AreMute more → LayoutStands (h ++ more) name reports l
  layout_later_by mild quiet mute = record {
    grant = s.grant;
    granted = granted_later h more s.grant s.granted;
    stateid = s.stateid;
    mirrors = s.mirrors;
    uid = s.uid;
    taken = taken_later mild;
    ids = s.ids;
    few = s.few;
    statuses = s.statuses;
    writer = λ place m there. mirror_later h more name l.writer.cred l.writer.taken reports m (s.writer place m there);
    entered = λ n t there. under_uid_later h more l.writer.cred t.at t.bytes (s.entered n t there);
    was_taken = not_taken_later quiet;
    was_given = given_later quiet;
    settled = s.settled;
    not_writing = s.not_writing;
    returning = s.returning;
    recalled = λ r. s.recalled (recalled_before mute r);
  }

  -- a LAYOUTRETURN of it goes out
  pub layout_given : AreMild more → ((client : ℕ) → HasItem more (Enters (Answer client (answer.Failed failing.Revoked))) → ⊥) → IsSettled l.writer.mirrors → LayoutStands (h ++ more) name reports (record l { stage = Returning; was_sent = true })
  layout_given mild none settled = record {
    grant = s.grant;
    granted = granted_later h more s.grant s.granted;
    stateid = s.stateid;
    mirrors = s.mirrors;
    uid = s.uid;
    taken = taken_later mild;
    ids = s.ids;
    few = s.few;
    statuses = s.statuses;
    writer = λ place m there. mirror_later h more name l.writer.cred l.writer.taken reports m (s.writer place m there);
    entered = λ n t there. under_uid_later h more l.writer.cred t.at t.bytes (s.entered n t there);
    was_taken = λ client i. by_place client (in_either s.granted.since more (Enters (Answer client (answer.Failed failing.Revoked))) i);
    was_given = λ xid caller session sequence file failed i. refl;
    settled = λ is. settled;
    not_writing = λ is. refl;
    returning = λ is. refl;
    recalled = λ r. refl;
  }
    where
      by_place : (client : ℕ) → HasItem s.granted.since (Enters (Answer client (answer.Failed failing.Revoked))) ⊎ HasItem more (Enters (Answer client (answer.Failed failing.Revoked))) → ⊥
      by_place client (inl i) = s.was_taken client i
      by_place client (inr i) = none client i

pub layout_later : (h more : List HistoryItem) (name : List ℕ) (reports : ℕ → Bool) (l : Layout) → AreQuiet more → AreMute more → LayoutStands h name reports l → LayoutStands (h ++ more) name reports l
layout_later h more name reports l quiet mute s = layout_later_by h more name reports l s (quiet_mild more quiet) quiet mute

pub there_later : {A : Type 0} (layout : Option A) (P Q : A → Type 0) → ((a : A) → P a → Q a) → IfThere layout P → IfThere layout Q
there_later None P Q f s = tt
there_later (Some a) P Q f s = f a s

pub return_later : (h more : List HistoryItem) (item : HistoryItem) (layout : Option Layout) (stateid : Stateid) (failed : List FailedMirror) → IfThere layout (ReturnOut h item stateid failed) → IfThere layout (ReturnOut (h ++ more) item stateid failed)
return_later h more item layout stateid failed =
    there_later layout (ReturnOut h item stateid failed) (ReturnOut (h ++ more) item stateid failed)
    (λ l r. record { its_stateid = r.its_stateid; stage = r.stage; covered = λ n w there place m at not_so. covered_later h more m.id l.writer.cred w.at w.bytes (item ∷ []) (r.covered n w there place m at not_so) })

fits_later : (h more : List HistoryItem) (item : HistoryItem) (layout : Option Layout) (call : MdsCallValue) (kind : MdsAsk) → (kind ≡ ask.LayoutGet → layout ≡ None → AreQuiet more × AreMute more) → AskFits h item layout call kind → AskFits (h ++ more) item layout call kind
fits_later h more item layout call ask.LayoutReturn quiet g = record { session = g.session; sequence = g.sequence; file = g.file; stateid = g.stateid; failed = g.failed; is = g.is; out = return_later h more item layout g.stateid g.failed g.out }
fits_later h more item layout call ask.LayoutGet quiet g = record {
  session = g.session;
  sequence = g.sequence;
  file = g.file;
  is = g.is;
  no_layout = g.no_layout;
  before = g.before;
  since = g.since ++ more;
  split = ap (λ l. l ++ more) g.split ∙ append_assoc g.before (item ∷ g.since) more;
  quiet = every_append QuietItem g.since more g.quiet (quiet refl g.no_layout).0;
  unrecalled = λ items behind reply state split recalled.
      (let b : StandsBefore g.since items (Sends (RepliesToMds reply)) = split_before g.since more items behind (Sends (RepliesToMds reply)) split (not_replied more reply (quiet refl g.no_layout).1) in g.unrecalled items b.behind reply state b.split recalled);
}
fits_later h more item layout call ask.ExchangeId quiet g = tt
fits_later h more item layout call ask.CreateSession quiet g = tt
fits_later h more item layout call ask.ReclaimComplete quiet g = tt
fits_later h more item layout call ask.Open quiet g = tt
fits_later h more item layout call (ask.DeviceInfo count) quiet g = tt
fits_later h more item layout call ask.Write quiet g = tt
fits_later h more item layout call (ask.Read at count) quiet g = tt
fits_later h more item layout call ask.Renew quiet g = tt

pub ask_later : (h more : List HistoryItem) (name : List ℕ) (layout : Option Layout) (a : Asked) → (a.ask ≡ ask.LayoutGet → layout ≡ None → AreQuiet more × AreMute more) → AskOut h name layout a → AskOut (h ++ more) name layout a
ask_later h more name layout a quiet s = record {
  call = s.call;
  sent = in_more (Sends (CallsMds a.xid name s.call) ∷ []) h more s.sent;
  fits = fits_later h more (Sends (CallsMds a.xid name s.call)) layout s.call a.ask quiet s.fits;
}

-- ---- numbers

pub numbers_later : (h more : List HistoryItem) (next : ℕ) → AreNumberless more → NumbersStand h next → NumbersStand (h ++ more) next
numbers_later h more next idle s = record {
  below = λ t xid i is some. below t xid is some (in_either h more (Sends t) i);
  once = λ t u xid i j is same. once t u xid is same (in_either h more (Sends t) i) (in_either h more (Sends u) j);
}
  where
    numberless : (t : ClientSend) (xid : ℕ) → new_number t ≡ Some xid → HasItem more (Sends t) → ⊥
    numberless t xid is i = none-some xid (sym (every_in NumberlessItem more (Sends t) idle i) ∙ is)

    below : (t : ClientSend) (xid : ℕ) → new_number t ≡ Some xid → next ≢ 0 → HasItem h (Sends t) ⊎ HasItem more (Sends t) → xid < next
    below t xid is some (inl i) = s.below t xid i is some
    below t xid is some (inr i) = absurd (numberless t xid is i)

    once : (t u : ClientSend) (xid : ℕ) → new_number t ≡ Some xid → new_number u ≡ Some xid → HasItem h (Sends t) ⊎ HasItem more (Sends t) → HasItem h (Sends u) ⊎ HasItem more (Sends u) → t ≡ u
    once t u xid is same (inl i) (inl j) = s.once t u xid i j is same
    once t u xid is same (inr i) j = absurd (numberless t xid is i)
    once t u xid is same (inl i) (inr j) = absurd (numberless u xid same j)

below_after : (xid next : ℕ) → xid < next + 1 → xid_after next ≢ 0 → xid < xid_after next
below_after xid next less some = by_test (next == 4294967295) some
  where
    by_test : (b : Bool) → (if b then 0 else next + 1) ≢ 0 → xid < (if b then 0 else next + 1)
    by_test true some = absurd (some refl)
    by_test false some = less

one_item : (x y : HistoryItem) → HasItem (y ∷ []) x → x ≡ y
one_item x y (inl (e, rest)) = e
one_item x y (inr i) = absurd i

same_send : (t u : ClientSend) → Sends t ≡ Sends u → t ≡ u
same_send t u e = cc

-- a call under the next number
pub numbers_next : (h : List HistoryItem) (s : ClientSend) (next : ℕ) → new_number s ≡ Some next → next ≢ 0 → NumbersStand h next → NumbersStand (h ++ Sends s ∷ []) (xid_after next)
numbers_next h s next its some n = record {
  below = λ t xid i is left. below_after xid next (below t xid is (in_either h (Sends s ∷ []) (Sends t) i)) left;
  once = λ t u xid i j is same. once t u xid is same (in_either h (Sends s ∷ []) (Sends t) i) (in_either h (Sends s ∷ []) (Sends u) j);
}
  where
    is_new : (t : ClientSend) → HasItem (Sends s ∷ []) (Sends t) → t ≡ s
    is_new t i = same_send t s (one_item (Sends t) (Sends s) i)

    its_number : (t : ClientSend) (xid : ℕ) → new_number t ≡ Some xid → HasItem (Sends s ∷ []) (Sends t) → xid ≡ next
    its_number t xid is i = same_Some xid next (sym is ∙ ap new_number (is_new t i) ∙ its)

    below : (t : ClientSend) (xid : ℕ) → new_number t ≡ Some xid → HasItem h (Sends t) ⊎ HasItem (Sends s ∷ []) (Sends t) → xid < next + 1
    below t xid is (inl i) = omega (arith, n.below t xid i is some)
    below t xid is (inr i) = omega (arith, its_number t xid is i)

    once : (t u : ClientSend) (xid : ℕ) → new_number t ≡ Some xid → new_number u ≡ Some xid → HasItem h (Sends t) ⊎ HasItem (Sends s ∷ []) (Sends t) → HasItem h (Sends u) ⊎ HasItem (Sends s ∷ []) (Sends u) → t ≡ u
    once t u xid is same (inl i) (inl j) = n.once t u xid i j is same
    once t u xid is same (inr i) (inr j) = is_new t i ∙ sym (is_new u j)
    once t u xid is same (inl i) (inr j) = absurd (omega (arith, n.below t xid i is some, its_number u xid same j))
    once t u xid is same (inr i) (inl j) = absurd (omega (arith, n.below u xid j same some, its_number t xid is i))

-- ---- the client

pub all_replied_later : (h more : List HistoryItem) (asked : Option Asked) → AreNumberless more
    → ((xid : ℕ) (name : List ℕ) (call : MdsCallValue) → HasItem h (Sends (CallsMds xid name call)) → IsOut asked xid ⊎ IsReplied h xid name call)
    → (xid : ℕ) (name : List ℕ) (call : MdsCallValue) → HasItem (h ++ more) (Sends (CallsMds xid name call)) → IsOut asked xid ⊎ IsReplied (h ++ more) xid name call
all_replied_later h more asked idle all xid name call i = by_place (in_either h more (Sends (CallsMds xid name call)) i)
  where
    further : IsOut asked xid ⊎ IsReplied h xid name call → IsOut asked xid ⊎ IsReplied (h ++ more) xid name call
    further (inl out) = inl out
    further (inr r) = inr (replied_later h more xid name call r)

    by_place : HasItem h (Sends (CallsMds xid name call)) ⊎ HasItem more (Sends (CallsMds xid name call)) → IsOut asked xid ⊎ IsReplied (h ++ more) xid name call
    by_place (inl i) = further (all xid name call i)
    by_place (inr i) = absurd (none-some xid (sym (every_in NumberlessItem more (Sends (CallsMds xid name call)) idle i)))

pub under_later : (h more : List HistoryItem) → AreMild more → ((file : FileId) (cred at : ℕ) (bytes : List ℕ) → HasItem h (Enters (Sent file (record { 0 = cred }) at bytes)) → TakenUnder h cred file at bytes)
    → (file : FileId) (cred at : ℕ) (bytes : List ℕ) → HasItem (h ++ more) (Enters (Sent file (record { 0 = cred }) at bytes)) → TakenUnder (h ++ more) cred file at bytes
under_later h more mild all file cred at bytes i = by_place (in_either h more (Enters (Sent file (record { 0 = cred }) at bytes)) i)
  where
    further : TakenUnder h cred file at bytes → TakenUnder (h ++ more) cred file at bytes
    further u = record { grant = u.grant; granted = granted_later h more u.grant u.granted; uid = u.uid; since = in_more (Enters (Sent file (record { 0 = cred }) at bytes) ∷ []) u.granted.since more u.since }

    by_place : HasItem h (Enters (Sent file (record { 0 = cred }) at bytes)) ⊎ HasItem more (Enters (Sent file (record { 0 = cred }) at bytes)) → TakenUnder (h ++ more) cred file at bytes
    by_place (inl i) = further (all file cred at bytes i)
    by_place (inr i) = absurd (every_in MildItem more (Enters (Sent file (record { 0 = cred }) at bytes)) mild i)

pub stands_later : (h more : List HistoryItem) (c : ClientValue) → AreIdle more → Stands h c → Stands (h ++ more) c
stands_later h more c idle s = record {
  numbers = numbers_later h more c.next_xid (are_numberless more idle) s.numbers;
  replied = all_replied_later h more c.asked (are_numberless more idle) s.replied;
  asked_out = there_later c.asked (AskOut h c.name c.layout) (AskOut (h ++ more) c.name c.layout) (λ a. ask_later h more c.name c.layout a (λ gets none. (are_quiet more idle, are_mute more idle))) s.asked_out;
  alone = s.alone;
  layout_stands = there_later c.layout (λ l. LayoutStands h c.name (reports_server (reported_of l)) l) (λ l. LayoutStands (h ++ more) c.name (reports_server (reported_of l)) l) (λ l. layout_later h more c.name (reports_server (reported_of l)) l (are_quiet more idle) (are_mute more idle)) s.layout_stands;
  taken_under = under_later h more (are_mild more idle) s.taken_under;
  gets_again = s.gets_again;
  returns_again = s.returns_again;
}

-- where no LAYOUTGET is out
other_later : (h more : List HistoryItem) (name : List ℕ) (layout : Option Layout) (asked : Option Asked) → IfThere asked (λ a. a.ask ≡ ask.LayoutGet → ⊥) → IfThere asked (AskOut h name layout) → IfThere asked (AskOut (h ++ more) name layout)
other_later h more name layout None others out = tt
other_later h more name layout (Some a) others out = ask_later h more name layout a (λ gets none. absurd (others gets)) out

-- without a layout
pub lost_later : (h more : List HistoryItem) (name : List ℕ) (next : ℕ) (asked : Option Asked) (again : Option MdsAsk) → IfThere asked (λ a. a.ask ≡ ask.LayoutGet → ⊥) → AreMild more → AreNumberless more → StandsOf h name next None asked again
    → StandsOf (h ++ more) name next None asked again
lost_later h more name next asked again others mild numberless s = record {
  numbers = numbers_later h more next numberless s.numbers;
  replied = all_replied_later h more asked numberless s.replied;
  asked_out = other_later h more name None asked others s.asked_out;
  alone = s.alone;
  layout_stands = tt;
  taken_under = under_later h more mild s.taken_under;
  gets_again = λ is. refl;
  returns_again = λ is. tt;
}
