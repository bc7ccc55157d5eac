-- Each record that a client sends has a spelling.
use Rattle.std.proofs.Common.{◌≡◌, ℕ, ◌+◌, ◌<◌, ◌≤◌, ◌^◌, true, false, List, [], ◌∷◌, ◌++◌, length, map, drop, Option, Some, None, refl, sym, subst, arith}
use Rattle.std.specs.List.{AllByRecursion}
use Rattle.std.proofs.lemmas.Bool.{ltb-false}
use Rattle.rpc_record.specs.Replies.{RpcReply}
use Rattle.device_addr.specs.declared.net_addr.NetAddr.{NetAddr}
use Rattle.cluster_model.specs.declared.limits.TheConstants.{MAX_FILE}
use Rattle.cluster_model.specs.declared.ids.NodeId.TheVariants.{Mds, Client as AClient}
use Rattle.cluster_model.specs.declared.ids.Mirror.{Mirror}
use Rattle.cluster_model.specs.declared.ids.MirrorId.{MirrorId}
use Rattle.cluster_model.specs.declared.entry.Entry.TheVariants.{Sent, Rogue, Told, TimedOut, Answer}
use Rattle.cluster_model.specs.DsCalls as ds
use Rattle.mirror_writer.specs.declared.call.TakenWrite.{TakenWrite}
use Rattle.mirror_writer.specs.Writers.{commit_wanted, WriterAfter, WriterMirror, new_mirror, with_write}
use Rattle.client_file_calls.specs.declared.open.OpenFile.{OpenFile}
use Rattle.client_file_calls.specs.declared.grant.LayoutGrant.{LayoutGrant}
use Rattle.client_mds_calls.specs.declared.ask.MdsAsk.{MdsAsk}
use Rattle.client_mds_calls.specs.MdsCompounds.{mds_call_bytes}
use Rattle.client_state.specs.declared.request.UserRequest.{UserRequest}
use Rattle.client_state.specs.declared.request.UserRequest.TheVariants.{Write}
use Rattle.client_state.specs.declared.layout.Layout.{Layout}
use Rattle.client_state.specs.declared.asked.Asked.{Asked}
use Rattle.client_state.specs.declared.tie.Tie.{Tie}
use Rattle.client_state.specs.declared.tie.Tie.TheVariants.{NoClient, HasClient, HasSession}
use Rattle.client_state.specs.ClientStates.{ClientValue}
use Rattle.client_state.specs.ClientQueue.{with_writer, ending, is_past, without_commit}
use Rattle.client_state.specs.ClientSends.{CallsServer, CallsMds, RepeatsToServer, RepeatsToMds, RepliesToMds}
use Rattle.client_calls.specs.ClientCalls.{xid_after, layout_asked}
use Rattle.client_answers.specs.ClientMirrors.{with_failed, has_writer}
use Rattle.client_answers.specs.ClientAnswers.{moved_tie, fresh_session, completed_tie, new_layout, learns_devices}
use Rattle.mirror_client.specs.ClientRule.{layout_at_tick}
use Rattle.client_laws.specs.ClientHistory.{Requested, Recorded, LeftProtocol, HistoryItem, Hears, Enters, Sends, entered}
use Rattle.client_laws.proofs.Stands.{IfThere}
use Rattle.client_records.specs.ClientRecords.{IsRequestInRange, IsInputInRange, HasSpelling, SendsSpelled, EachRunIsSpelled}
use Rattle.client_records.proofs.HeldBytes.{results_bytes, call_number}
use Rattle.client_records.proofs.AnswersFit.{IsStateidInRange, IsMirrorInRange, IsGrantInRange, IsAnswerInRange, answer_fits}
use Rattle.client_records.proofs.Cases.{Adds, IsAnswered, said, heard_mds, heard_late, IsTieBehind, free, IsTaking, MayBeDone, ComesTo, comes_layout, Cases}
use Rattle.client_records.proofs.Told.{any_tells, any_covers}
use Rattle.client_records.proofs.EachRun.{Base, in_each_run}
use Rattle.client_records.proofs.SameWriters.{SameWriter, after_same, sends_same, queued_ids}
use Rattle.client_records.proofs.Numbers.{late_sent}
use Rattle.client_records.proofs.QueueAll.{commit_all, dropped_all, shorter_all, more_all}
use Rattle.client_records.proofs.Ranges.{AreRequestsInRange, IsTieInRange, IsIdInRange, IsWriteInRange, IsLayoutInRange, IsKindInRange, RangesOf, InRange, later, numbered_later, asked_later, free_later, with_queue, with_layout_in, with_asked, with_tie, its_layout, no_again, asked_kind, kind_done, kind_more, kind_commit, moved_fits, behind_fits, completed_fits, ending_fits, layout_behind, ticked_fits, layout_asked_fits, taken_more}
use Rattle.client_records.proofs.SendsFit.{next_fits, name_short, call_spelled, stray_spelled, compound_spelled, due_fits}

-- ---- the layout

-- with another writer, which keeps what is asked of it
writer_fits : (l : Layout) (new : Layout) → SameWriter l.writer new.writer → new.stateid ≡ l.stateid → new.mirrors ≡ l.mirrors → IsLayoutInRange l → IsLayoutInRange new
writer_fits l new same stateid mirrors fits = record {
  stateid_fits = subst IsStateidInRange (sym stateid) fits.stateid_fits;
  mirrors_fit = subst (λ (ms : List Mirror). AllByRecursion IsMirrorInRange ms) (sym mirrors) fits.mirrors_fit;
  few = subst (λ (ms : List Mirror). length ms ≤ 4) (sym mirrors) fits.few;
  cred_fits = subst (λ (n : ℕ). n < 2 ^ 32) (sym same.cred) fits.cred_fits;
  ids_fit = subst (λ (ids : List MirrorId). AllByRecursion IsIdInRange ids) (sym same.ids) fits.ids_fit;
  taken_fit = subst (λ (ts : List TakenWrite). AllByRecursion IsWriteInRange ts) (sym same.taken) fits.taken_fit;
}

fresh_ids : (mirrors : List Mirror) → AllByRecursion IsMirrorInRange mirrors → AllByRecursion IsIdInRange (map (λ (m : WriterMirror). m.id) (map new_mirror mirrors))
fresh_ids [] all = tt
fresh_ids (m ∷ mirrors) all = (all.0, fresh_ids mirrors all.1)

granted_fits : (g : LayoutGrant) → IsGrantInRange g → IsLayoutInRange (new_layout g)
granted_fits g fits = record { stateid_fits = fits.stateid; mirrors_fit = fits.mirrors; few = fits.few; cred_fits = fits.uid; ids_fit = fresh_ids g.mirrors fits.mirrors; taken_fit = tt }

-- a write is taken
taking_fits : (l : Layout) (at : ℕ) (bytes : List ℕ) (untold : List ℕ) → is_past at bytes ≡ false → length bytes ≤ 65536 → IsLayoutInRange l → IsLayoutInRange (record l { writer = with_write l.writer at bytes; untold = untold })
taking_fits l at bytes untold within short fits = record {
  stateid_fits = fits.stateid_fits;
  mirrors_fit = fits.mirrors_fit;
  few = fits.few;
  cred_fits = fits.cred_fits;
  ids_fit = subst (λ (ids : List MirrorId). AllByRecursion IsIdInRange ids) (sym (queued_ids (length l.writer.taken) l.writer.mirrors)) fits.ids_fit;
  taken_fit = taken_more l.writer.taken (record { at = at; bytes = bytes }) fits.taken_fit (omega (arith, ltb-false MAX_FILE (at + length bytes) within), omega (arith, short));
}

-- ---- the cases

told_so : (past : List HistoryItem) (c : ClientValue) (file : OpenFile) (cred at : ℕ) (bytes : List ℕ) → InRange past c → Adds InRange SendsSpelled past (Enters (Told file.file (record { 0 = cred }) at bytes)) c
told_so past c file cred at bytes i = (tt, later past (Enters (Told file.file (record { 0 = cred }) at bytes)) c i tt)

module _ (h : List HistoryItem) (c : ClientValue) (a : Asked) (bytes : List ℕ) (now : ℕ) (reply : RpcReply) (s : IsAnswered Base IsInputInRange h c a bytes now reply) (i : InRange h c) where
  answer_in_range : IsAnswerInRange (said a reply).answer
  answer_in_range = answer_fits a.ask reply (results_bytes bytes reply s.input s.reply_is)

  -- behind a reply
  answered : (queue : List UserRequest) (tie : Tie) (file : Option OpenFile) (layout : Option Layout) → AreRequestsInRange queue → IsTieInRange tie → IfThere file (λ f. IsStateidInRange f.stateid) → IfThere layout IsLayoutInRange
      → RangesOf (heard_mds h bytes now) c.name c.verifier c.next_xid queue tie file layout None c.again
  answered queue tie file layout requests ties files layouts =
      free_later h (Hears (Recorded Mds bytes now)) c i tt queue tie file layout c.again requests ties files layouts (subst (λ (o : Option MdsAsk). IfThere o (IsKindInRange file queue)) (sym (no_again h c i a s.out)) tt)

  behind_tie : (tie : Tie) → IsTieBehind now (said a reply).slot c.tie tie → IsTieInRange tie
  behind_tie tie behind = behind_fits now (said a reply).slot c.tie tie behind i.tie_fits

  learned : (tie : Tie) → IsTieInRange tie → (addresses : List NetAddr) (layout : Option Layout) → InRange (heard_mds h bytes now) (learns_devices layout addresses (free tie c))
  learned tie fits addresses None = answered c.queue tie c.file c.layout i.queue_fits fits i.file_fits i.layout_fits
  learned tie fits addresses (Some l) = answered c.queue tie c.file c.layout i.queue_fits fits i.file_fits i.layout_fits

-- a writer, by an answer or a timeout
came_fits : (past : List HistoryItem) (c : ClientValue) (file : OpenFile) (l : Layout) (after : WriterAfter) → ComesTo Base IsInputInRange InRange past c file l after → InRange past c → IsLayoutInRange (with_writer l after.writer)
came_fits past c file l after comes i =
    writer_fits l (with_writer l after.writer) (after_same IsInputInRange InRange past c file l after comes) refl refl (its_layout past c i l (comes_layout Base IsInputInRange InRange past c file l after comes))

-- the head goes off the queue
done_fits : (past : List HistoryItem) (c : ClientValue) (request : UserRequest) (rest : List UserRequest) (layout : Option Layout) → c.queue ≡ request ∷ rest → MayBeDone c.file request → IfThere layout IsLayoutInRange → InRange past c
    → RangesOf past c.name c.verifier c.next_xid rest c.tie c.file layout c.asked c.again
done_fits past c request rest layout at may ranges i =
    with_queue past c i rest layout (all_of (subst AreRequestsInRange at i.queue_fits)) ranges (λ kind fits. kind_done c.file request rest kind may (subst (λ (queue : List UserRequest). IsKindInRange c.file queue kind) at fits))
  where
    all_of : AreRequestsInRange (request ∷ rest) → AreRequestsInRange rest
    all_of all = all.1

takes_fits : (past : List HistoryItem) (c : ClientValue) (file : OpenFile) (l : Layout) (at : ℕ) (bytes : List ℕ) (rest : List UserRequest) → IsTaking c file l at bytes rest → InRange past c
    → RangesOf past c.name c.verifier c.next_xid rest c.tie c.file (Some (record l { writer = with_write l.writer at bytes; untold = l.untold ++ length l.writer.taken ∷ [] })) c.asked c.again
takes_fits past c file l at bytes rest taking i =
    done_fits past c (Write at bytes) rest _ taking.queue (subst (λ (o : Option OpenFile). MayBeDone o (Write at bytes)) (sym taking.file_is) tt)
    (taking_fits l at bytes (l.untold ++ length l.writer.taken ∷ []) taking.within (head_of (subst AreRequestsInRange taking.queue i.queue_fits)) (its_layout past c i l taking.layout)) i
  where
    head_of : AreRequestsInRange (Write at bytes ∷ rest) → length bytes ≤ 65536
    head_of all = all.0

commit_kept : (past : List HistoryItem) (c : ClientValue) (layout : Option Layout) → IfThere layout IsLayoutInRange → InRange past c → RangesOf past c.name c.verifier c.next_xid (without_commit c.queue) c.tie c.file layout c.asked c.again
commit_kept past c layout ranges i = with_queue past c i (without_commit c.queue) layout (commit_all IsRequestInRange c.queue i.queue_fits) ranges (λ kind fits. kind_commit c.file c.queue kind fits)

spelled_cases : Cases Base IsInputInRange InRange SendsSpelled
spelled_cases = record {
  heard = λ past input. tt;
  hears = λ h c input stays q i. later h (Hears input) c i tt;
  requests = λ h c request q i.
      with_queue (h ++ Hears (Requested request) ∷ []) c (later h (Hears (Requested request)) c i tt) (c.queue ++ request ∷ []) c.layout (more_all IsRequestInRange c.queue request i.queue_fits q) i.layout_fits (λ kind fits. kind_more c.file c.queue request kind fits);
  leaves = λ h c i. later h (Hears LeftProtocol) c i tt;
  ticks = λ past c i. with_layout_in past c i (layout_at_tick c.layout) (ticked_fits c.layout i.layout_fits);
  answers = λ past c a answers told i. (tt, later past (Enters (Answer c.number a)) c i tt);
  done = λ past c request rest at may i. done_fits past c request rest c.layout at may i.layout_fits i;
  takes = λ past c file l at bytes rest taking i. (
    tt,
    later past (Enters (Sent file.file (record { 0 = l.writer.cred }) at bytes)) (record c { queue = rest; layout = Some (record l { writer = with_write l.writer at bytes; untold = l.untold ++ length l.writer.taken ∷ [] }) }) (takes_fits past c file l at bytes rest taking i) tt,
  );
  ends = λ past c l at i. with_layout_in past c i (Some (ending l)) (ending_fits l (its_layout past c i l at));
  commits = λ past c l at i. with_layout_in past c i (Some (with_writer l (commit_wanted l.writer))) (its_layout past c i l at);
  calls = λ past c l s at some is i.
      (let spelled = call_spelled past c l s i (its_layout past c i l at) is in (
        spelled,
        numbered_later past (Sends (CallsServer s.id.server c.next_xid c.name l.writer.cred s.call)) c i spelled (xid_after c.next_xid) (Some (record l { writer = s.writer })) (next_fits c.next_xid i.next_fits)
            (writer_fits l (record l { writer = s.writer }) (sends_same l.writer c.next_xid s is) refl refl (its_layout past c i l at)),
      ));
  asks = λ past c kind call none some due is i.
      (let fits = due_fits past c i kind due in
      let spelled = compound_spelled past c i kind call fits is in (
        spelled,
        asked_later past (Sends (CallsMds c.next_xid c.name call)) c i spelled (xid_after c.next_xid) (layout_asked kind c.layout) (record { xid = c.next_xid; ask = kind; message = mds_call_bytes c.next_xid c.name call; is_late = false }) (next_fits c.next_xid i.next_fits)
            (layout_asked_fits kind c.layout i.layout_fits) fits,
      ));
  client = λ h c a bytes now reply tie s behind i clientid sequence is.
      answered h c a bytes now reply s i c.queue (HasClient clientid sequence) c.file c.layout i.queue_fits (subst IsAnswerInRange is (answer_in_range h c a bytes now reply s i)) i.file_fits i.layout_fits;
  session = λ h c a bytes now reply tie s behind i session is.
      answered h c a bytes now reply s i c.queue (HasSession (fresh_session session)) c.file c.layout i.queue_fits (subst IsAnswerInRange is (answer_in_range h c a bytes now reply s i), omega arith) i.file_fits i.layout_fits;
  complete = λ h c a bytes now reply tie s behind i is.
      answered h c a bytes now reply s i c.queue (completed_tie tie) c.file c.layout i.queue_fits (completed_fits tie (behind_tie h c a bytes now reply s i tie behind)) i.file_fits i.layout_fits;
  opened = λ h c a bytes now reply tie s behind i file is.
      answered h c a bytes now reply s i (drop 1 c.queue) tie (Some file) c.layout (dropped_all IsRequestInRange c.queue i.queue_fits) (behind_tie h c a bytes now reply s i tie behind) (subst IsAnswerInRange is (answer_in_range h c a bytes now reply s i)) i.layout_fits;
  granted = λ h c a bytes now reply tie s behind i grant is.
      answered h c a bytes now reply s i c.queue tie c.file (Some (new_layout grant)) i.queue_fits (behind_tie h c a bytes now reply s i tie behind) i.file_fits (granted_fits grant (subst IsAnswerInRange is (answer_in_range h c a bytes now reply s i)));
  learns = λ h c a bytes now reply tie s behind i addresses is. learned h c a bytes now reply s i tie (behind_tie h c a bytes now reply s i tie behind) addresses c.layout;
  served = λ h c a bytes now reply tie s behind i is. answered h c a bytes now reply s i (drop 1 c.queue) tie c.file c.layout (dropped_all IsRequestInRange c.queue i.queue_fits) (behind_tie h c a bytes now reply s i tie behind) i.file_fits i.layout_fits;
  idle = λ h c a bytes now reply tie s behind i is. answered h c a bytes now reply s i c.queue tie c.file c.layout i.queue_fits (behind_tie h c a bytes now reply s i tie behind) i.file_fits i.layout_fits;
  returned = λ h c a bytes now reply tie s behind i file l is there at.
      any_tells InRange SendsSpelled told_so (heard_mds h bytes now) file l.writer l.untold (record (free tie c) { layout = None })
      (answered h c a bytes now reply s i c.queue tie c.file None i.queue_fits (behind_tie h c a bytes now reply s i tie behind) i.file_fits tt);
  refused = λ h c a bytes now reply tie s behind i status queue waits layout is shorter kept.
      answered h c a bytes now reply s i queue tie c.file layout (shorter_all IsRequestInRange queue c.queue shorter i.queue_fits) (behind_tie h c a bytes now reply s i tie behind) i.file_fits (layout_behind a.ask c.layout layout kept i.layout_fits);
  gone = λ h c a bytes now reply tie s behind i status is bad kind.
      answered h c a bytes now reply s i (without_commit c.queue) tie c.file None (commit_all IsRequestInRange c.queue i.queue_fits) (behind_tie h c a bytes now reply s i tie behind) i.file_fits tt;
  starts_over = λ h c a bytes now reply tie s behind i queue over shorter. free_later h (Hears (Recorded Mds bytes now)) c i tt queue NoClient None None None (shorter_all IsRequestInRange queue c.queue shorter i.queue_fits) tt tt tt tt;
  again = λ h c a bytes now reply s at i.
      free_later h (Hears (Recorded Mds bytes now)) c i tt c.queue (moved_tie now c.tie) c.file c.layout (Some a.ask) i.queue_fits (moved_fits now c.tie i.tie_fits) i.file_fits i.layout_fits (asked_kind h c i a s.out);
  delays = λ h c a bytes now reply s at i. with_asked (heard_mds h bytes now) c (later h (Hears (Recorded Mds bytes now)) c i tt) a (record a { is_late = true }) s.out refl;
  wakes = λ past c a at i. with_asked past c i a (record a { is_late = false }) at refl;
  repeats_mds = λ past c a at i. (tt, later past (Sends (RepeatsToMds a.xid a.message)) c i tt);
  timed = λ past c xid i. (tt, later past (Enters (TimedOut (AClient c.number) xid)) c i tt);
  moves = λ past c file l after comes quiet i. with_layout_in past c i (Some (with_writer l after.writer)) (came_fits past c file l after comes i);
  covers = λ past c file l after comes quiet i. any_covers InRange SendsSpelled told_so past file (with_writer l after.writer) (has_writer c l after)
      (λ untold told. with_layout_in past (has_writer c l after) i (Some (record (with_writer l after.writer) { untold = untold })) (its_layout past (has_writer c l after) i (with_writer l after.writer) refl));
  fails = λ past c file l after id cause comes is some i.
      with_layout_in past c i (Some (ending (with_failed (with_writer l after.writer) id cause))) (ending_fits (with_failed (with_writer l after.writer) id cause) (came_fits past c file l after comes i));
  loses = λ past c file l after id cause comes is i.
      commit_kept past c (Some (record (ending (with_failed (with_writer l after.writer) id cause)) { untold = [] })) (ending_fits (with_failed (with_writer l after.writer) id cause) (came_fits past c file l after comes i)) i;
  fenced = λ past c file l after id status comes is i. commit_kept past c None tt i;
  repeats_server = λ h c file l server out late entries d j.
      (let spelled : HasSpelling (RepeatsToServer server out.xid c.name l.writer.cred out.call) = late.was.spelled (CallsServer server out.xid c.name l.writer.cred out.call) (late_sent h c l server out late.base.0 late.layout late.out_is) in (
        spelled,
        later (heard_late h server ++ entered entries) (Sends (RepeatsToServer server out.xid c.name l.writer.cred out.call)) d j spelled,
      ));
  callbacks = λ past c s slot at i. with_tie past c i (HasSession (record s { callbacks = slot })) (subst IsTieInRange at i.tie_fits);
  replies = λ past d bytes now reply q call i. (call_number bytes reply.xid q call, later past (Sends (RepliesToMds reply)) d i (call_number bytes reply.xid q call));
  strays = λ past c file l place at bytes m q straying i.
      (let spelled = stray_spelled past c l place at bytes m i (its_layout past c i l straying.layout) q.0 q.1 straying.there in (
        tt,
        (
          spelled,
          numbered_later (past ++ Enters (Rogue file.file (record { 0 = l.writer.cred }) at bytes) ∷ []) (Sends (CallsServer m.id.server c.next_xid c.name l.writer.cred (ds.Write m.id.fileid at false bytes))) c
              (later past (Enters (Rogue file.file (record { 0 = l.writer.cred }) at bytes)) c i tt) spelled (xid_after c.next_xid) c.layout (next_fits c.next_xid i.next_fits) i.layout_fits,
        ),
      ));
}

pub spelled : EachRunIsSpelled
spelled number verifier first_xid inputs starts all =
    (in_each_run IsInputInRange InRange SendsSpelled spelled_cases number verifier first_xid inputs all (record {
      name_fits = name_short number starts.number_fits;
      verifier_fits = starts.verifier_fits;
      next_fits = starts.first_fits;
      queue_fits = tt;
      tie_fits = tt;
      file_fits = tt;
      layout_fits = tt;
      asked_fits = tt;
      again_fits = tt;
      alone = tt;
      spelled = λ send i. absurd i;
    })).each
