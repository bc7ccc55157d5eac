-- The calls that go out keep what holds by the history, and enter nothing.
use Rattle.std.proofs.Common.{◌≡◌, ℕ, true, List, [], ◌∷◌, ◌++◌, length, Option, Some, None, refl, sym, ap, subst, ◌∙◌}
use Rattle.std.specs.Prelude.{◌-◌, ◌==◌, ◌&&◌, slice_get, slice_set}
use Rattle.std.specs.List.{find, range_with_len}
use Rattle.std.specs.Option.{option_map}
use Rattle.std.proofs.lemmas.Bool.{cond_both, and_parts}
use Rattle.std.proofs.lemmas.Option.{same_Some, none-some}
use Rattle.cluster_model.specs.declared.ids.NodeId.TheVariants.{Server}
use Rattle.cluster_model.specs.declared.ids.FileId.{FileId}
use Rattle.cluster_model.specs.declared.ids.Mirror.{Mirror}
use Rattle.cluster_model.specs.declared.call_stage.CallStage.TheVariants.{Out}
use Rattle.cluster_model.specs.declared.layout_state.LayoutState.{LayoutState}
use Rattle.cluster_model.specs.DsCalls.{DsCallValue, Read}
use Rattle.cluster_model.specs.Fences.{waits, FenceCall, next_call}
use Rattle.cluster_model.specs.Members.{IsOneOf}
use Rattle.cluster_laws.proofs.FewMirrors.{FileHasFew}
use Rattle.cluster_laws.proofs.FewSteps.{OutFew, out_few}
use Rattle.cluster_laws.proofs.Lists.{all_at, all_set}
use Rattle.copy_rule.specs.Copies.{CopyState, CopyCall}
use Rattle.copy_rule.specs.Copies as copy
use Rattle.file_rule.specs.declared.creation.Creation.{Creation}
use Rattle.file_rule.specs.MdsFiles.{Creations, Activity, Idle, Makes, Fences, Settles, Copies, MdsFile}
use Rattle.file_rule.specs.FilePhases.{CallOut, creation_waiting, create_out_at, create_out, fence_out, settle_out, copy_out, call_out_of, call_out}
use Rattle.mds_io.specs.Reads.{ReadState, ReadSends, at_stage, in_turn, sends_to}
use Rattle.mds_io.specs.Reads as read
use Rattle.mirror_writer.specs.Writers.{WriterSends}
use Rattle.mirror_writer.specs.Writers as writer
use Rattle.nfs4_session.specs.Clients.{SessionState, has_id}
use Rattle.nfs4_session.specs.Bindings.{last_session, back_call}
use Rattle.nfs4_session.specs.declared.back.BackCall.{BackCall}
use Rattle.nfs4_types.specs.Stateids.{layout_stateid_of}
use Rattle.recall.specs.declared.recall.RecallCall.{RecallCall}
use Rattle.recall.specs.Recalls.{RecallSends, next_sent}
use Rattle.mds_rule.specs.MdsStates.{WaitingRead, WaitingWrite, ServedFile, MdsSend, CallsServer, CallsBack, AwaitedCall, MdsValue, MdsStep, sends_none, and_then, is_call_to, served, numbered}
use Rattle.mds_rule.specs.declared.waiter.Waiter.{Waiter}
use Rattle.mds_rule.specs.declared.waiter.Waiter.TheVariants.{ForFile, ForRead, ForWrite, ForRecall}
use Rattle.mds_rule.specs.Goes.{xid_after, calls_server, OwnCall, own_of_file, own_of_write, own_by, place_of, own_call_at, own_next, has_xids, own_call, own_two, own_calls, read_goes, read_call, read_call_in, each, read_count, read_calls, stateid_seqid, calls_back, recall_goes, recall_call, repeats_call, repeats, place_calls, file_calls, calls_out}
use Rattle.mds_walk.proofs.Lists.{found_in}
use Rattle.mds_histories.specs.MdsHistory.{MdsItem, Sends, sends_in}
use Rattle.read_runs.proofs.LiveTold.{live_in_layout, FitsPhase}
use Rattle.read_runs.proofs.WaitingReads.{IsWaitingFor, waits_out}
use Rattle.read_runs.proofs.Answered.{live_stills}
use Rattle.read_runs.proofs.SentCalls.{not_used}
use Rattle.read_runs.proofs.Holding.{IsWriteSo, IsReadSo, IsServedSo, Holds, served_more, holds_put, holds_called, holds_skip, holds_again}
use Rattle.read_runs.proofs.Steps.{Mute, mute_then, mute_none, mute_same}
use Rattle.read_runs.proofs.OpsSteps.{served_as}

-- ---- a file that sends a call

module _ (f : MdsFile) where
  -- its live list stays, and its activity fits
  abbrev OutSo : Option CallOut → Type 0
  OutSo None = Unit {0}
  OutSo (Some c) = (c.file.layout ≡ f.layout) × FitsPhase f.layout.phase c.file.activity

  create_at_so : (all : Creations) (xid place : ℕ) (o : Option Creation) → FitsPhase f.layout.phase (Makes all) → OutSo (create_out_at f all xid place o)
  create_at_so all xid place None fits = tt
  create_at_so all xid place (Some c) fits = (refl, fits)

  create_so : (all : Creations) (xid : ℕ) (o : Option ℕ) → FitsPhase f.layout.phase (Makes all) → OutSo (create_out f all xid o)
  create_so all xid None fits = tt
  create_so all xid (Some place) fits = create_at_so all xid place (slice_get all.items place) fits

  fence_so : (o : Option FenceCall) → OutSo (fence_out f o)
  fence_so None = tt
  fence_so (Some c) = (refl, tt)

  settle_so : (xid : ℕ) (live : List Mirror) → OutSo (settle_out f xid live)
  settle_so xid [] = tt
  settle_so xid (m ∷ live) = (refl, tt)

  copy_so : (c : CopyState) (o : Option CopyCall) → FitsPhase f.layout.phase (Copies c) → OutSo (copy_out f o)
  copy_so c None fits = tt
  copy_so c (Some x) fits = (refl, fits)

  out_of_so : (xid : ℕ) (a : Activity) → FitsPhase f.layout.phase a → OutSo (call_out_of f xid a)
  out_of_so xid Idle fits = tt
  out_of_so xid (Makes all) fits = create_so all xid (creation_waiting all) fits
  out_of_so xid (Fences x) fits = fence_so (next_call x xid)
  out_of_so xid (Settles stage) fits = cond_both (waits stage) (settle_out f xid f.layout.live) None OutSo (λ is. settle_so xid f.layout.live) (λ off. tt)
  out_of_so xid (Copies c) fits = copy_so c (copy.next_call c xid) fits

  out_so : (xid : ℕ) (c : CallOut) → call_out f xid ≡ Some c → FitsPhase f.layout.phase f.activity → (c.file.layout ≡ f.layout) × FitsPhase f.layout.phase c.file.activity
  out_so xid c is fits = subst OutSo is (out_of_so xid f.activity fits)

  few_out : (xid : ℕ) (c : CallOut) → call_out f xid ≡ Some c → FileHasFew f → FileHasFew c.file
  few_out xid c is few = subst (OutFew f few) is (out_few f few xid f.activity few.room)

-- ---- a call goes out

sent_more : (h : List MdsItem) (file : FileId) (s : ServedFile) (x : MdsSend) → IsServedSo h file s → IsServedSo (h ++ Sends x ∷ []) file s
sent_more h file s x i = served_more h file s (Sends x ∷ []) (live_stills file h (Sends x ∷ []) (tt, tt)) (tt, tt) i

calls_step : (m : MdsValue) (file : FileId) (s t : ServedFile) (caller : Waiter) (server uid : ℕ) (call : DsCallValue) → served m file ≡ Some s → has_xids m ≡ true
    → ((h : List MdsItem) → Holds m h → IsServedSo (h ++ Sends (CallsServer server m.next_xid uid call) ∷ []) file t) → Mute m (calls_server m file t caller server uid call)
calls_step m file s t caller server uid call at has so = record {
  sends = λ h i.
      let one : AwaitedCall = record { node = Server server; xid = m.next_xid; caller = caller; sent = CallsServer server m.next_xid uid call } in
      holds_put m.mirrors m.files _ (xid_after m.next_xid) (h ++ Sends (CallsServer server m.next_xid uid call) ∷ []) file s t
      (holds_called m.mirrors m.files m.calls m.next_xid h i one has refl (record { number = refl; node = refl })) at (so h i);
  none = refl;
}

file_calls_step : (m : MdsValue) (file : FileId) (s : ServedFile) (c : CallOut) → served m file ≡ Some s → has_xids m ≡ true → call_out s.file m.next_xid ≡ Some c
    → Mute m (calls_server m file (record s { file = c.file }) (ForFile file) c.server c.uid c.call)
file_calls_step m file s c at has out =
    calls_step m file s (record s { file = c.file }) (ForFile file) c.server c.uid c.call at has
    (λ h i.
    let x : MdsSend = CallsServer c.server m.next_xid c.uid c.call in
    let old : IsServedSo (h ++ Sends x ∷ []) file s = sent_more h file s x (i.files_so file s at) in
    let so = out_so s.file m.next_xid c out old.fits in
    record {
      live = old.live ∙ ap live_in_layout (sym so.0);
      few = few_out s.file m.next_xid c out old.few;
      fits = subst (λ (l : LayoutState). FitsPhase l.phase c.file.activity) (sym so.0) so.1;
      reads = old.reads;
      write = old.write;
    })

write_calls_step : (m : MdsValue) (file : FileId) (s : ServedFile) (w : WaitingWrite) (c : WriterSends) → served m file ≡ Some s → has_xids m ≡ true → s.write ≡ Some w
    → Mute m (calls_server m file (record s { write = Some (record w { writer = c.writer }) }) (ForWrite file) c.id.server w.writer.cred c.call)
write_calls_step m file s w c at has its =
    calls_step m file s (record s { write = Some (record w { writer = c.writer }) }) (ForWrite file) c.id.server w.writer.cred c.call at has
    (λ h i.
    let x : MdsSend = CallsServer c.id.server m.next_xid w.writer.cred c.call in
    let old : IsServedSo (h ++ Sends x ∷ []) file s = sent_more h file s x (i.files_so file s at) in
    served_as (h ++ Sends x ∷ []) file s (record s { write = Some (record w { writer = c.writer }) }) refl refl (subst IsWriteSo its old.write) old)

-- ---- a file's own calls

at_place : (m : MdsValue) (file : FileId) (s : ServedFile) (place : ℕ) (c : OwnCall) → Mute m (calls_server m file c.served c.caller c.server c.uid c.call) → Mute m (own_call_at m file s place (Some c))
at_place m file s place c q =
    cond_both (place_of s c.server == place) (calls_server m file c.served c.caller c.server c.uid c.call) (sends_none m) (λ (x : MdsStep). Mute m x) (λ is. q) (λ off. mute_same m)

own_file_step : (m : MdsValue) (file : FileId) (place : ℕ) → has_xids m ≡ true → (s : ServedFile) → served m file ≡ Some s → (o : Option CallOut) → call_out s.file m.next_xid ≡ o
    → Mute m (own_call_at m file s place (option_map (own_of_file file s) o))
own_file_step m file place has s is None its = mute_same m
own_file_step m file place has s is (Some c) its = at_place m file s place (own_of_file file s c) (file_calls_step m file s c is has its)

own_write_step : (m : MdsValue) (file : FileId) (place : ℕ) → has_xids m ≡ true → (s : ServedFile) → served m file ≡ Some s → (w : WaitingWrite) → s.write ≡ Some w → (o : Option WriterSends)
    → Mute m (own_call_at m file s place (option_map (own_of_write file s w) o))
own_write_step m file place has s is w its None = mute_same m
own_write_step m file place has s is w its (Some c) = at_place m file s place (own_of_write file s w c) (write_calls_step m file s w c is has its)

own_by_step : (m : MdsValue) (file : FileId) (place : ℕ) → has_xids m ≡ true → (s : ServedFile) → served m file ≡ Some s → (o : Option WaitingWrite) → s.write ≡ o → Mute m (own_call_at m file s place (own_by file s m.next_xid o))
own_by_step m file place has s is None its = own_file_step m file place has s is (call_out s.file m.next_xid) refl
own_by_step m file place has s is (Some w) its = own_write_step m file place has s is w its (writer.next_sent w.writer m.next_xid)

own_next_step : (m : MdsValue) (file : FileId) (place : ℕ) → has_xids m ≡ true → (o : Option ServedFile) → served m file ≡ o → Mute m (own_next m file place o)
own_next_step m file place has None is = mute_same m
own_next_step m file place has (Some s) is = own_by_step m file place has s is s.write refl

own_one_step : (file : FileId) (place : ℕ) (m : MdsValue) → Mute m (own_call file place m)
own_one_step file place m =
    cond_both (has_xids m) (own_next m file place (served m file)) (sends_none m) (λ (s : MdsStep). Mute m s) (λ has. own_next_step m file place has (served m file) refl) (λ off. mute_same m)

own_two_step : (file : FileId) (place : ℕ) (m : MdsValue) → Mute m (own_two file place m)
own_two_step file place m = mute_then m (own_call file place m) (own_call file place) (own_one_step file place m) (λ n. own_one_step file place n)

own_step : (file : FileId) (place : ℕ) (m : MdsValue) → Mute m (own_calls file place m)
own_step file place m = mute_then m (own_two file place m) (own_two file place) (own_two_step file place m) (λ n. own_two_step file place n)

-- ---- READs

-- the mirror that has its turn is asked
record IsSentTo (r : ReadState) (xid : ℕ) (sent : ReadSends) : Type 0 where
  mirror : Mirror
  turn : in_turn r ≡ Some mirror
  is : sent ≡ record { read = at_stage r (Out xid 0); id = mirror.id; call = Read mirror.id.fileid r.at r.count }

sent_to : (r : ReadState) (xid : ℕ) (sent : ReadSends) (o : Option Mirror) → in_turn r ≡ o → sends_to r xid o ≡ Some sent → IsSentTo r xid sent
sent_to r xid sent None turn is = absurd (none-some sent is)
sent_to r xid sent (Some m) turn is = record { mirror = m; turn = turn; is = sym (same_Some (record { read = at_stage r (Out xid 0); id = m.id; call = Read m.id.fileid r.at r.count }) sent is) }

sent_by : (r : ReadState) (xid : ℕ) (sent : ReadSends) → read.next_sent r xid ≡ Some sent → IsSentTo r xid sent
sent_by r xid sent is =
    cond_both (waits r.stage) (sends_to r xid (in_turn r)) None (λ (o : Option ReadSends). o ≡ Some sent → IsSentTo r xid sent) (λ on. λ its. sent_to r xid sent (in_turn r) refl its) (λ off. λ its. absurd (none-some sent its)) is

read_calls_step : (m : MdsValue) (file : FileId) (s : ServedFile) (n : ℕ) (r : WaitingRead) → served m file ≡ Some s → has_xids m ≡ true → slice_get s.reads n ≡ Some r → (sent : ReadSends) → IsSentTo r.read m.next_xid sent
    → Mute m (calls_server m file (record s { reads = slice_set s.reads n (record { compound = r.compound; read = sent.read }) }) (ForRead file) sent.id.server 0 sent.call)
read_calls_step m file s n r at has there sent t =
    subst (λ (x : ReadSends). Mute m (calls_server m file (record s { reads = slice_set s.reads n (record { compound = r.compound; read = x.read }) }) (ForRead file) x.id.server 0 x.call)) (sym t.is)
    (calls_step m file s (record s { reads = slice_set s.reads n (record { compound = r.compound; read = at_stage r.read (Out m.next_xid 0) }) }) (ForRead file) t.mirror.id.server 0 (Read t.mirror.id.fileid r.read.at r.read.count) at has
    (λ h i.
    let x : MdsSend = CallsServer t.mirror.id.server m.next_xid 0 (Read t.mirror.id.fileid r.read.at r.read.count) in
    let g : List MdsItem = h ++ Sends x ∷ [] in
    let old : IsServedSo g file s = sent_more h file s x (i.files_so file s at) in
    let w : IsWaitingFor h file r.compound r.read = all_at (IsReadSo h file) s.reads n r (i.files_so file s at).reads there in
    record {
      live = old.live;
      few = old.few;
      fits = old.fits;
      reads =
          all_set (IsReadSo g file) s.reads n (record { compound = r.compound; read = at_stage r.read (Out m.next_xid 0) }) old.reads
          (waits_out h file r.compound r.read t.mirror m.next_xid w t.turn (not_used m.next_xid (sends_in h) (i.numbered.below has)));
      write = old.write;
    }))

read_goes_step : (m : MdsValue) (file : FileId) (s : ServedFile) → served m file ≡ Some s → (n place : ℕ) (r : WaitingRead) → slice_get s.reads n ≡ Some r → (o : Option ReadSends) → read.next_sent r.read m.next_xid ≡ o
    → Mute m (read_goes m file s n place r o)
read_goes_step m file s is n place r there None its = mute_same m
read_goes_step m file s is n place r there (Some sent) its =
    let t : ServedFile = record s { reads = slice_set s.reads n (record { compound = r.compound; read = sent.read }) } in
    cond_both ((place_of s sent.id.server == place) && has_xids m) (calls_server m file t (ForRead file) sent.id.server 0 sent.call) (sends_none m) (λ (x : MdsStep). Mute m x)
    (λ both. read_calls_step m file s n r is (and_parts (place_of s sent.id.server == place) (has_xids m) both).1 there sent (sent_by r.read m.next_xid sent its))
    (λ off. mute_same m)

read_call_step : (m : MdsValue) (file : FileId) (s : ServedFile) → served m file ≡ Some s → (n place : ℕ) (o : Option WaitingRead) → slice_get s.reads n ≡ o → Mute m (read_call m file s n place o)
read_call_step m file s is n place None there = mute_same m
read_call_step m file s is n place (Some r) there = read_goes_step m file s is n place r there (read.next_sent r.read m.next_xid) refl

read_in_step : (file : FileId) (place n : ℕ) (m : MdsValue) (o : Option ServedFile) → served m file ≡ o → Mute m (read_call_in file place n m o)
read_in_step file place n m None is = mute_same m
read_in_step file place n m (Some s) is = read_call_step m file s is n place (slice_get s.reads n) refl

pub each_step : {A : Type 0} (step : A → MdsValue → MdsStep) → ((a : A) (m : MdsValue) → Mute m (step a m)) → (list : List A) (m : MdsValue) → Mute m (each step list m)
each_step step all [] m = mute_same m
each_step step all (a ∷ list) m = mute_then m (step a m) (λ n. each step list n) (all a m) (λ n. each_step step all list n)

reads_step : (file : FileId) (place : ℕ) (m : MdsValue) → Mute m (read_calls file place m)
reads_step file place m = each_step (λ n x. read_call_in file place n x (served x file)) (λ n x. read_in_step file place n x (served x file) refl) (range_with_len 0 (read_count (served m file))) m

-- ---- recalls

back_step : (m : MdsValue) (call : RecallCall) → has_xids m ≡ true → (o : Option SessionState) → Mute m (calls_back m call o)
back_step m call has None = mute_none m _ (λ h i. holds_skip m.mirrors m.files m.calls m.next_xid h i has)
back_step m call has (Some session) =
    let back : BackCall = back_call call.client session in
    record {
      sends = λ h i.
          let one : AwaitedCall = record { node = back.node; xid = m.next_xid; caller = ForRecall; sent = CallsBack m.next_xid back call.file (layout_stateid_of call.file.0 call.cred.0 (stateid_seqid (served m call.file))) } in
          holds_called m.mirrors m.files m.calls m.next_xid h i one has refl (record { number = refl; node = tt });
      none = refl;
    }

recall_goes_step : (m : MdsValue) (file : FileId) → has_xids m ≡ true → (o : Option RecallSends) → Mute m (recall_goes m file o)
recall_goes_step m file has None = mute_same m
recall_goes_step m file has (Some sent) =
    let n : MdsValue = record m { recalls = sent.recalls } in
    cond_both (sent.call.file.0 == file.0) (calls_back n sent.call (last_session (find (has_id sent.call.client) m.sessions.clients))) (sends_none m) (λ (s : MdsStep). Mute m s)
    (λ is.
    let q : Mute n (calls_back n sent.call (last_session (find (has_id sent.call.client) m.sessions.clients))) = back_step n sent.call has (last_session (find (has_id sent.call.client) m.sessions.clients)) in
    record { sends = λ h i. q.sends h i; none = q.none })
    (λ off. mute_same m)

recall_step : (file : FileId) (m : MdsValue) → Mute m (recall_call file m)
recall_step file m = cond_both (has_xids m) (recall_goes m file (next_sent m.recalls m.next_xid)) (sends_none m) (λ (s : MdsStep). Mute m s) (λ has. recall_goes_step m file has (next_sent m.recalls m.next_xid)) (λ off. mute_same m)

-- ---- what goes out again

repeat_step : (m : MdsValue) (o : Option AwaitedCall) → ((call : AwaitedCall) → o ≡ Some call → IsOneOf call m.calls) → Mute m (repeats_call m o)
repeat_step m None inside = mute_same m
repeat_step m (Some call) inside = record { sends = λ h i. holds_again m.mirrors m.files m.calls m.next_xid h i call.sent (i.numbered.were call (inside call refl)); none = refl }

repeats_step : (kept : Option (Option (ℕ × ℕ))) (m : MdsValue) → Mute m (repeats kept m)
repeats_step None m = mute_same m
repeats_step (Some None) m = mute_same m
repeats_step (Some (Some kept)) m = repeat_step m (find (is_call_to (Server kept.0) kept.1) m.calls) (λ call is. found_in (is_call_to (Server kept.0) kept.1) m.calls call is)

-- ---- all of them

place_step : (file : FileId) (place : ℕ) (m : MdsValue) → Mute m (place_calls file place m)
place_step file place m = mute_then m (own_calls file place m) (read_calls file place) (own_step file place m) (λ n. reads_step file place n)

file_step : (kept : List (Option (ℕ × ℕ))) (n : ℕ) (m : MdsValue) → Mute m (file_calls kept n m)
file_step kept n m =
    mute_then m (and_then (recall_call (numbered n) m) (repeats (slice_get kept (n - 1)))) (each (place_calls (numbered n)) (0 ∷ 1 ∷ 2 ∷ 3 ∷ 4 ∷ []))
    (mute_then m (recall_call (numbered n) m) (repeats (slice_get kept (n - 1))) (recall_step (numbered n) m) (λ x. repeats_step (slice_get kept (n - 1)) x))
    (λ x. each_step (place_calls (numbered n)) (λ place y. place_step (numbered n) place y) (0 ∷ 1 ∷ 2 ∷ 3 ∷ 4 ∷ []) x)

pub out_step : (kept : List (Option (ℕ × ℕ))) (m : MdsValue) → Mute m (calls_out kept m)
out_step kept m = each_step (file_calls kept) (λ n x. file_step kept n x) (range_with_len 1 (length m.files)) m
