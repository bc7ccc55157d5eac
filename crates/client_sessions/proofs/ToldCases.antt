-- What a client tells under its layouts, in each case of what an event can do.
use Rattle.std.proofs.Common.{◌≡◌, ℕ, Bool, true, false, List, [], ◌∷◌, ◌++◌, length, Option, Some, None, refl, sym, ap, subst, ◌∙◌, inl, inr, ◌⊎◌}
use Rattle.std.specs.Prelude.{not}
use Rattle.std.specs.List.{filter}
use Rattle.rpc_record.specs.Replies.{RpcReply}
use Rattle.device_addr.specs.declared.net_addr.NetAddr.{NetAddr}
use Rattle.cluster_model.specs.declared.ids.NodeId.TheVariants.{Mds, Server, Client as AClient}
use Rattle.cluster_model.specs.declared.ids.MirrorId.{MirrorId}
use Rattle.cluster_model.specs.declared.phase.LeftCause.{LeftCause}
use Rattle.cluster_model.specs.declared.entry.Entry.TheVariants.{Sent, Rogue, Told, TimedOut, Answer}
use Rattle.cluster_model.specs.DsCalls as ds
use Rattle.ds_calls.specs.GivenReplies.{reply_of_call}
use Rattle.mirror_writer.specs.declared.step.WriterStep.{WriterStep}
use Rattle.mirror_writer.specs.declared.step.WriterStep.TheVariants as step
use Rattle.mirror_writer.specs.Writers.{WriterValue, WriterAfter, WriterSends, commit_wanted, next_sent, with_write}
use Rattle.mirror_writer.specs.Outstanding.{is_covered_everywhere, has_no_mirror}
use Rattle.client_file_calls.specs.declared.open.OpenFile.{OpenFile}
use Rattle.client_file_calls.specs.declared.grant.LayoutGrant.{LayoutGrant}
use Rattle.client_mds_calls.specs.MdsCalls.{MdsCallValue}
use Rattle.client_mds_calls.specs.MdsCompounds.{mds_call_bytes}
use Rattle.client_mds_calls.specs.MdsReplies.{Granted, Returned}
use Rattle.client_state.specs.declared.stage.LayoutStage.{LayoutStage}
use Rattle.client_state.specs.declared.request.UserRequest.{UserRequest}
use Rattle.client_state.specs.declared.layout.Layout.{Layout}
use Rattle.client_state.specs.declared.asked.Asked.{Asked}
use Rattle.client_state.specs.declared.tie.Tie.{Tie}
use Rattle.client_state.specs.ClientStates.{ClientValue}
use Rattle.client_state.specs.ClientQueue.{is_writing, with_writer, ending}
use Rattle.client_state.specs.ClientSends.{CallsServer, CallsMds, RepeatsToServer, RepeatsToMds, RepliesToMds}
use Rattle.client_answers.specs.ClientMirrors.{with_failed, has_writer, tells, tells_covered}
use Rattle.client_answers.specs.ClientAnswers.{new_layout, learns_devices}
use Rattle.mirror_client.specs.ClientRule.{layout_at_tick}
use Rattle.client_laws.specs.ClientHistory.{ClientInput, Requested, Recorded, LeftProtocol, HistoryItem, Hears, Enters, Sends, entered}
use Rattle.client_laws.proofs.GrantFacts.{granted_apart, granted_some}
use Rattle.client_laws.proofs.Stands.{IfThere}
use Rattle.client_records.proofs.Joins.{RunKeeps}
use Rattle.client_records.proofs.Cases.{ComesTo, ByReply, ByTimeout, comes_by, comes_layout, IsQuietStep, Adds, IsAnswered, said, IsTieBehind, free, heard_mds, heard_late, IsTaking, Cases}
use Rattle.client_records.proofs.Told.{tells_keep}
use Rattle.client_records.proofs.EachRun.{Base}
use Rattle.client_sessions.specs.ClientSessions.{SaysWho, KeepsSlot}
use Rattle.client_sessions.specs.LayoutEnds.{IsToldOf}
use Rattle.client_sessions.proofs.Slots as slots
use Rattle.client_sessions.proofs.Slots.{Slots, made, freed, by_answer, with_layout_of, there_layout}
use Rattle.client_sessions.proofs.SlotCases.{slot_cases}
use Rattle.client_sessions.proofs.Marks.{marks_of, MarksBehind, MarksAfter, FailsAt, reply_marks, timeout_marks, sent_marks, taken_marks, none_left}
use Rattle.client_sessions.proofs.Unreported.{UnreportedOf, fresh_unreported, staged_unreported, taken_unreported, failed_unreported}
use Rattle.client_sessions.proofs.UntoldStands.{Unreported, OutKept, UntoldOf, Untold, untold_later, KeepsUntold, relayout, its_unreported, in_place, ending_untold, ending_unreported, ending_keeps, ended, ticked, ticked_keeps, behind, goes_out}
use Rattle.client_sessions.proofs.ToldOf.{TellsHeld, told_later, covered_each_told, returned_each_told}

abbrev Anything : ClientInput → Type 0
Anything input = Unit {0}

abbrev pub HoldsUntold : ℕ → ℕ → List HistoryItem → ClientValue → Type 0
HoldsUntold number verifier past c = Slots number verifier past c × Untold past c

-- ---- the layout

true_false : true ≡ false → ⊥
true_false is = absurd cc

same_marks : (l : Layout) (w : WriterValue) → marks_of w ≡ marks_of l.writer → Unreported l → Unreported (record l { writer = w })
same_marks l w same u = subst (λ marks. UnreportedOf marks l.mirrors l.statuses l.stage l.untold) (sym same) u

-- the same mirrors, stage and writes
keeps_writer : (l : Layout) (w : WriterValue) → KeepsUntold l (record l { writer = w })
keeps_writer l w = record { mirrors = refl; stage = λ is. is; untold = λ is none. none }

-- by an answer, and by a timeout
came_marks : (I : List HistoryItem → ClientValue → Type 0) (past : List HistoryItem) (c : ClientValue) (file : OpenFile) (l : Layout) (after : WriterAfter) → ComesTo Base Anything I past c file l after → MarksAfter l.writer after
came_marks I past c file l after (ByReply h server bytes now reply out s past_is is) = subst (λ (x : WriterAfter). MarksAfter l.writer x) (sym is) (reply_marks l.writer reply.xid (reply_of_call out.call reply))
came_marks I past c file l after (ByTimeout h server out s past_is is) = subst (λ (x : WriterAfter). MarksAfter l.writer x) (sym is) (timeout_marks l.writer out.xid)

quiet_marks : (old new : List (MirrorId × Bool)) (came : WriterStep) → IsQuietStep came → MarksBehind old came new → new ≡ old
quiet_marks old new step.Stranger quiet marks = marks
quiet_marks old new step.Waiting quiet marks = marks
quiet_marks old new step.Committed quiet marks = marks
quiet_marks old new (step.Failed id cause) quiet marks = absurd quiet
quiet_marks old new (step.Fenced id status) quiet marks = absurd quiet

-- a mirror failed
module _ (I : List HistoryItem → ClientValue → Type 0) (past : List HistoryItem) (c : ClientValue) (file : OpenFile) (l : Layout) (after : WriterAfter) (id : MirrorId) (cause : LeftCause) (comes : ComesTo Base Anything I past c file l after)
    (is : after.step ≡ step.Failed id cause) (u : Untold past c) where
  abbrev lost : Layout
  lost = with_failed (with_writer l after.writer) id cause

  its_fail : FailsAt (marks_of l.writer) id (marks_of after.writer)
  its_fail = subst (λ (k : WriterStep). MarksBehind (marks_of l.writer) k (marks_of after.writer)) is (came_marks I past c file l after comes)

  at : c.layout ≡ Some l
  at = comes_layout Base Anything I past c file l after comes

  was : Unreported l
  was = its_unreported past c l at u

  fails_so : has_no_mirror after.writer ≡ false → UntoldOf past c.name (Some (ending (with_failed (with_writer l after.writer) id cause))) c.asked
  fails_so some =
      in_place past c l (ending lost) at (record { mirrors = (ending_keeps lost).mirrors; stage = (ending_keeps lost).stage; untold = (ending_keeps lost).untold })
      (ending_unreported lost (λ s ends. failed_unreported (marks_of l.writer) l.mirrors l.statuses l.stage l.untold was id cause (marks_of after.writer) its_fail s l.untold ends (inr (sym (none_left after.writer) ∙ some)))) u

  loses_so : UntoldOf past c.name (Some (record (ending (with_failed (with_writer l after.writer) id cause)) { untold = [] })) c.asked
  loses_so =
      in_place past c l (record (ending lost) { untold = [] }) at (record { mirrors = (ending_keeps lost).mirrors; stage = (ending_keeps lost).stage; untold = λ is none. refl })
      (ending_untold lost [] (λ s ends. failed_unreported (marks_of l.writer) l.mirrors l.statuses l.stage l.untold was id cause (marks_of after.writer) its_fail s [] ends (inl refl))) u

-- a write is taken
takes_so : (past : List HistoryItem) (c : ClientValue) (file : OpenFile) (l : Layout) (at : ℕ) (bytes : List ℕ) (rest : List UserRequest) (more : List ℕ) → IsTaking c file l at bytes rest → Untold past c
    → UntoldOf past c.name (Some (record l { writer = with_write l.writer at bytes; untold = more })) c.asked
takes_so past c file l at bytes rest more taking u =
    in_place past c l (record l { writer = with_write l.writer at bytes; untold = more }) taking.layout (record { mirrors = refl; stage = λ is. is; untold = λ ends none. absurd (true_false (sym writing ∙ ends)) })
    (subst (λ marks. UnreportedOf marks l.mirrors l.statuses l.stage more) (sym (taken_marks l.writer at bytes))
    (taken_unreported (marks_of l.writer) l.mirrors l.statuses l.stage l.untold (its_unreported past c l taking.layout u) writing more)) u
  where
    writing : is_writing l.stage ≡ true
    writing = ap is_writing taking.stage

-- ---- answers

-- nothing is out any more
no_out : (past : List HistoryItem) (name : List ℕ) (layout : Option Layout) → IfThere layout Unreported → UntoldOf past name layout None
no_out past name layout fits = record { layout_of = fits; out_of = tt }

learned : (past : List HistoryItem) (c : ClientValue) (tie : Tie) (addresses : List NetAddr) → Untold past c → (layout : Option Layout) → Untold past (learns_devices layout addresses (free tie c))
learned past c tie addresses u None = no_out past c.name c.layout u.layout_of
learned past c tie addresses u (Some l) = no_out past c.name c.layout u.layout_of

-- the same record is out
same_out : (past : List HistoryItem) (c : ClientValue) (a : Asked) (late : Bool) → c.asked ≡ Some a → Untold past c → UntoldOf past c.name c.layout (Some (record a { is_late = late }))
same_out past c a late at u = by_asked (subst (λ (o : Option Asked). UntoldOf past c.name c.layout o) at u)
  where
    by_asked : UntoldOf past c.name c.layout (Some a) → UntoldOf past c.name c.layout (Some (record a { is_late = late }))
    by_asked k = record { layout_of = k.layout_of; out_of = record { call = k.out_of.call; sent = k.out_of.sent; kept = k.out_of.kept } }

granted_so : (h : List HistoryItem) (c : ClientValue) (a : Asked) (bytes : List ℕ) (now : ℕ) (reply : RpcReply) (g : LayoutGrant) → (said a reply).answer ≡ Granted g → Untold (heard_mds h bytes now) (record c { layout = Some (new_layout g); asked = None })
granted_so h c a bytes now reply g is = no_out (heard_mds h bytes now) c.name (Some (new_layout g)) (fresh_unreported g.mirrors (new_layout g).stage (granted_apart a.ask reply g is) (granted_some a.ask reply g is))

-- ---- all of them

module _ (number verifier : ℕ) where
  abbrev Kept : List HistoryItem → ClientValue → Type 0
  Kept past c = HoldsUntold number verifier past c

  k : Cases Base (λ (input : ClientInput). Unit {0}) (Slots number verifier) (λ past item. SaysWho number verifier past item × KeepsSlot past item)
  k = slot_cases number verifier

  next_untold : (past : List HistoryItem) (item : HistoryItem) (c : ClientValue) → Untold past c → Untold (past ++ item ∷ []) c
  next_untold past item c u = untold_later past (item ∷ []) c.name c.layout c.asked u

  told_so : (past : List HistoryItem) (c : ClientValue) (file : OpenFile) (cred at : ℕ) (bytes : List ℕ) → IsToldOf past cred at bytes → Kept past c → Adds Kept TellsHeld past (Enters (Told file.file (record { 0 = cred }) at bytes)) c
  told_so past c file cred at bytes told i =
      (told, (slots.later number verifier past c i.0 (Enters (Told file.file (record { 0 = cred }) at bytes)) tt, next_untold past (Enters (Told file.file (record { 0 = cred }) at bytes)) c i.1))

  its_slots : (past : List HistoryItem) (c : ClientValue) (file : OpenFile) (l : Layout) (after : WriterAfter) → ComesTo Base Anything Kept past c file l after → ComesTo Base Anything (Slots number verifier) past c file l after
  its_slots = comes_by Base Anything Kept (Slots number verifier) (λ h c i. i.0)

  -- those that are covered by now
  covers_so : (past : List HistoryItem) (c : ClientValue) (file : OpenFile) (l : Layout) (after : WriterAfter) → ComesTo Base Anything Kept past c file l after → IsQuietStep after.step → Kept past (has_writer c l after)
      → RunKeeps Kept TellsHeld past (tells_covered file (Some (with_writer l after.writer)) (has_writer c l after))
  covers_so past c file l after comes quiet i =
      tells_keep Kept TellsHeld IsToldOf told_later told_so past file after.writer (filter (is_covered_everywhere after.writer) l.untold) (record (has_writer c l after) { layout = Some left })
      (covered_each_told Anything Kept past c file l after comes quiet l.untold) (
        with_layout_of number verifier past (has_writer c l after) i.0 (Some left) (there_layout number verifier past (has_writer c l after) i.0 (with_writer l after.writer) left refl refl),
        in_place past (has_writer c l after) (with_writer l after.writer) left refl (record { mirrors = refl; stage = λ is. is; untold = λ is none. less none })
            (staged_unreported (marks_of after.writer) l.mirrors l.statuses l.stage l.untold i.1.layout_of l.stage (filter (λ n. not (is_covered_everywhere after.writer n)) l.untold) (λ is. is) less) i.1,
      )
    where
      left : Layout
      left = record (with_writer l after.writer) { untold = filter (λ n. not (is_covered_everywhere after.writer n)) l.untold }

      less : l.untold ≡ [] → filter (λ n. not (is_covered_everywhere after.writer n)) l.untold ≡ []
      less none = ap (filter (λ n. not (is_covered_everywhere after.writer n))) none

  returns_so : (h : List HistoryItem) (c : ClientValue) (a : Asked) (bytes : List ℕ) (now : ℕ) (reply : RpcReply) (tie : Tie) (s : IsAnswered Base Anything h c a bytes now reply) → IsTieBehind now (said a reply).slot c.tie tie → Kept h c
      → (file : OpenFile) (l : Layout) → (said a reply).answer ≡ Returned → c.layout ≡ Some l → RunKeeps Kept TellsHeld (heard_mds h bytes now) (tells file l.writer l.untold (record (free tie c) { layout = None }))
  returns_so h c a bytes now reply tie s behind i file l is at =
      tells_keep Kept TellsHeld IsToldOf told_later told_so (heard_mds h bytes now) file l.writer l.untold (record (free tie c) { layout = None })
      (returned_each_told Anything Kept h c a bytes now reply s (subst (λ (o : Option Asked). IfThere o (λ b. OutKept h c.name c.layout b.xid)) s.out i.1.out_of) l at is) (
        freed number verifier h c a bytes now reply s i.0 tie c.file None c.devices (by_answer number verifier h c a bytes now reply s i.0 tie behind Returned is (λ takes. takes) (λ e. absurd cc)),
        no_out (heard_mds h bytes now) c.name None tt,
      )

  pub told_cases : Cases Base (λ (input : ClientInput). Unit {0}) (HoldsUntold number verifier) TellsHeld
  told_cases = record {
    heard = λ past input. tt;
    hears = λ h c input stays q i. (k.hears h c input stays q i.0, next_untold h (Hears input) c i.1);
    requests = λ h c request q i. (k.requests h c request q i.0, next_untold h (Hears (Requested request)) c i.1);
    leaves = λ h c i. (k.leaves h c i.0, next_untold h (Hears LeftProtocol) c i.1);
    ticks = λ past c i. (k.ticks past c i.0, relayout past c.name c.layout (layout_at_tick c.layout) c.asked (ticked_keeps c.layout) (ticked c.layout i.1.layout_of) i.1);
    answers = λ past c a answers told i. (tt, ((k.answers past c a answers told i.0).1, next_untold past (Enters (Answer c.number a)) c i.1));
    done = λ past c request rest at may i. (k.done past c request rest at may i.0, i.1);
    takes = λ past c file l at bytes rest taking i. (
      tt,
      (
        (k.takes past c file l at bytes rest taking i.0).1,
        untold_later past (Enters (Sent file.file (record { 0 = l.writer.cred }) at bytes) ∷ []) c.name (Some (record l { writer = with_write l.writer at bytes; untold = l.untold ++ length l.writer.taken ∷ [] })) c.asked
            (takes_so past c file l at bytes rest (l.untold ++ length l.writer.taken ∷ []) taking i.1),
      ),
    );
    ends = λ past c l at i. (k.ends past c l at i.0, in_place past c l (ending l) at (ending_keeps l) (ended l (its_unreported past c l at i.1)) i.1);
    commits = λ past c l at i. (k.commits past c l at i.0, in_place past c l (with_writer l (commit_wanted l.writer)) at (keeps_writer l (commit_wanted l.writer)) (same_marks l (commit_wanted l.writer) refl (its_unreported past c l at i.1)) i.1);
    calls = λ past c l s at some is i. (
      tt,
      (
        (k.calls past c l s at some is i.0).1,
        untold_later past (Sends (CallsServer s.id.server c.next_xid c.name l.writer.cred s.call) ∷ []) c.name (Some (record l { writer = s.writer })) c.asked
            (in_place past c l (record l { writer = s.writer }) at (keeps_writer l s.writer) (same_marks l s.writer (sent_marks l.writer c.next_xid s is) (its_unreported past c l at i.1)) i.1),
      ),
    );
    asks = λ past c kind call none some due is i.
        (let m = made number verifier past c i.0 kind call due is in (
          tt,
          (
            (k.asks past c kind call none some due is i.0).1,
            goes_out past c.name c.file c.layout kind call (record { xid = c.next_xid; ask = kind; message = mds_call_bytes c.next_xid c.name call; is_late = false }) m.0.kind_is m.0.its i.1.layout_of,
          ),
        ));
    client = λ h c a bytes now reply tie s behind i clientid sequence is. (k.client h c a bytes now reply tie s behind i.0 clientid sequence is, no_out (heard_mds h bytes now) c.name c.layout i.1.layout_of);
    session = λ h c a bytes now reply tie s behind i session is. (k.session h c a bytes now reply tie s behind i.0 session is, no_out (heard_mds h bytes now) c.name c.layout i.1.layout_of);
    complete = λ h c a bytes now reply tie s behind i is. (k.complete h c a bytes now reply tie s behind i.0 is, no_out (heard_mds h bytes now) c.name c.layout i.1.layout_of);
    opened = λ h c a bytes now reply tie s behind i file is. (k.opened h c a bytes now reply tie s behind i.0 file is, no_out (heard_mds h bytes now) c.name c.layout i.1.layout_of);
    granted = λ h c a bytes now reply tie s behind i grant is. (k.granted h c a bytes now reply tie s behind i.0 grant is, granted_so h c a bytes now reply grant is);
    learns = λ h c a bytes now reply tie s behind i addresses is. (k.learns h c a bytes now reply tie s behind i.0 addresses is, learned (heard_mds h bytes now) c tie addresses (next_untold h (Hears (Recorded Mds bytes now)) c i.1) c.layout);
    served = λ h c a bytes now reply tie s behind i is. (k.served h c a bytes now reply tie s behind i.0 is, no_out (heard_mds h bytes now) c.name c.layout i.1.layout_of);
    idle = λ h c a bytes now reply tie s behind i is. (k.idle h c a bytes now reply tie s behind i.0 is, no_out (heard_mds h bytes now) c.name c.layout i.1.layout_of);
    returned = λ h c a bytes now reply tie s behind i file l is there at. returns_so h c a bytes now reply tie s behind i file l is at;
    refused = λ h c a bytes now reply tie s back i status queue waits layout is shorter kept. (
      k.refused h c a bytes now reply tie s back i.0 status queue waits layout is shorter kept,
      no_out (heard_mds h bytes now) c.name layout (behind a.ask c.layout layout kept i.1.layout_of),
    );
    gone = λ h c a bytes now reply tie s behind i status is bad kind. (k.gone h c a bytes now reply tie s behind i.0 status is bad kind, no_out (heard_mds h bytes now) c.name None tt);
    starts_over = λ h c a bytes now reply tie s behind i queue over shorter. (k.starts_over h c a bytes now reply tie s behind i.0 queue over shorter, no_out (heard_mds h bytes now) c.name None tt);
    again = λ h c a bytes now reply s at i. (k.again h c a bytes now reply s at i.0, no_out (heard_mds h bytes now) c.name c.layout i.1.layout_of);
    delays = λ h c a bytes now reply s at i. (k.delays h c a bytes now reply s at i.0, same_out (heard_mds h bytes now) c a true s.out (next_untold h (Hears (Recorded Mds bytes now)) c i.1));
    wakes = λ past c a at i. (k.wakes past c a at i.0, same_out past c a false at i.1);
    repeats_mds = λ past c a at i. (tt, ((k.repeats_mds past c a at i.0).1, next_untold past (Sends (RepeatsToMds a.xid a.message)) c i.1));
    timed = λ past c xid i. (tt, ((k.timed past c xid i.0).1, next_untold past (Enters (TimedOut (AClient c.number) xid)) c i.1));
    moves = λ past c file l after comes quiet i. (
      k.moves past c file l after (its_slots past c file l after comes) quiet i.0,
      in_place past c l (with_writer l after.writer) (comes_layout Base Anything Kept past c file l after comes) (keeps_writer l after.writer)
          (same_marks l after.writer (quiet_marks (marks_of l.writer) (marks_of after.writer) after.step quiet (came_marks Kept past c file l after comes)) (its_unreported past c l (comes_layout Base Anything Kept past c file l after comes) i.1)) i.1,
    );
    covers = λ past c file l after comes quiet i. covers_so past c file l after comes quiet i;
    fails = λ past c file l after id cause comes is some i. (
      k.fails past c file l after id cause (its_slots past c file l after comes) is some i.0,
      fails_so Kept past c file l after id cause comes is i.1 some,
    );
    loses = λ past c file l after id cause comes is i. (
      k.loses past c file l after id cause (its_slots past c file l after comes) is i.0,
      loses_so Kept past c file l after id cause comes is i.1,
    );
    fenced = λ past c file l after id status comes is i. (
      k.fenced past c file l after id status (its_slots past c file l after comes) is i.0,
      relayout past c.name c.layout None c.asked tt tt i.1,
    );
    repeats_server = λ h c file l server out late entries d j. (
      tt,
      (
        slots.later number verifier (heard_late h server ++ entered entries) d j.0 (Sends (RepeatsToServer server out.xid c.name l.writer.cred out.call)) tt,
        next_untold (heard_late h server ++ entered entries) (Sends (RepeatsToServer server out.xid c.name l.writer.cred out.call)) d j.1,
      ),
    );
    callbacks = λ past c s slot at i. (k.callbacks past c s slot at i.0, i.1);
    replies = λ past d bytes now reply q call i. (tt, ((k.replies past d bytes now reply q call i.0).1, next_untold past (Sends (RepliesToMds reply)) d i.1));
    strays = λ past c file l place at bytes m q straying i.
        (let rogue : HistoryItem = Enters (Rogue file.file (record { 0 = l.writer.cred }) at bytes) in
        let send : HistoryItem = Sends (CallsServer m.id.server c.next_xid c.name l.writer.cred (ds.Write m.id.fileid at false bytes)) in (
          tt,
          (
            tt,
            (
              slots.later number verifier (past ++ rogue ∷ []) c (slots.later number verifier past c i.0 rogue tt) send tt,
              next_untold (past ++ rogue ∷ []) send c (next_untold past rogue c i.1),
            ),
          ),
        ));
  }
