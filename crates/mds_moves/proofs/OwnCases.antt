-- An own write begins, is answered, times out and ends: each is bound moves of the machine, and what stands of it stands.
use Rattle.std.proofs.Common.{◌≡◌, ◌≤◌, ℕ, ◌+◌, ◌-◌, ◌*◌, ◌^◌, Bool, true, false, cond, List, [], ◌∷◌, ◌++◌, Option, Some, None, refl, sym, ap, subst, ◌∙◌, inl, arith}
use Rattle.std.specs.Prelude.{slice_set, map, is_some, nat_lt}
use Rattle.std.specs.List.{find, AllByRecursion}
use Rattle.std.proofs.lemmas.Bool.{cond_both, and_from, lt-ltb, ltb-false, eq-eqb}
use Rattle.cluster_model.specs.declared.limits.TheConstants.{SPARE_UIDS}
use Rattle.cluster_model.specs.declared.ids.NodeId.TheVariants.{Mds, Server}
use Rattle.cluster_model.specs.declared.ids.FileId.{FileId}
use Rattle.cluster_model.specs.declared.ids.MirrorId.{MirrorId}
use Rattle.cluster_model.specs.declared.ids.Mirror.{Mirror}
use Rattle.cluster_model.specs.declared.phase.LeftCause.{LeftCause}
use Rattle.cluster_model.specs.declared.entry.Entry.{Entry}
use Rattle.cluster_model.specs.declared.layout_state.LayoutPhase.TheVariants.{Free, Held}
use Rattle.cluster_model.specs.DsCalls.{DsCallValue, DsReplyValue}
use Rattle.cluster_model.specs.Phases.{ids_of, unreported}
use Rattle.cluster_model.specs.Members.{IsOneOf}
use Rattle.file_rule.specs.declared.fresh.Fresh.{Fresh}
use Rattle.file_rule.specs.MdsFiles.{Idle, MdsFile, FileStep}
use Rattle.file_rule.specs.FilePhases.{OwnWrite, OwnEnds, are_spent, end_of_uids, phase}
use Rattle.cluster_laws.specs.Machine.{PacketValue, Call, Machine, Happens, numbered_at}
use Rattle.cluster_laws.specs.CallRanges.{AreServersInRange}
use Rattle.cluster_laws.specs.Agreement.{a_write, sent_of}
use Rattle.cluster_laws.specs.Holders.{IsIn, IsCovered, the_write, IsBoundInput}
use Rattle.cluster_laws.specs.Telling.{telling}
use Rattle.cluster_laws.proofs.FewMirrors.{FileHasFew}
use Rattle.cluster_laws.proofs.Invariant.{is_idle}
use Rattle.cluster_laws.proofs.Lives.{itself}
use Rattle.machine_moves.specs.MachineGoesOn.{HasCalled, HasServerAnswered}
use Rattle.machine_moves.proofs.Packets.{goes_keep}
use Rattle.machine_moves.proofs.Numbers.{AreCallsOnce}
use Rattle.mds_io.specs.OwnWrites.{after_own_reply, ended}
use Rattle.mirror_writer.specs.declared.step.WriterStep.{WriterStep}
use Rattle.mirror_writer.specs.declared.step.WriterStep.TheVariants as step
use Rattle.mirror_writer.specs.Writers.{WriterAfter, after_timeout}
use Rattle.mds_rule.specs.MdsStates.{CompoundRun, WaitingWrite, ServedFile, MdsSend, CallsServer, CallsBack, Replies, Answers, AwaitedCall, MdsValue, served, with_served}
use Rattle.mds_rule.specs.declared.waiter.Waiter.{Waiter}
use Rattle.mds_rule.specs.declared.waiter.Waiter.TheVariants.{ForWrite}
use Rattle.mds_rule.specs.ServedFiles.{has_fresh, file_behind, file_stepped}
use Rattle.mds_rule.specs.FileOps.{with_write}
use Rattle.mds_rule.specs.Answers.{is_failure_of, with_failed, write_stepped, failures_by_place}
use Rattle.mds_laws.specs.MdsRunLaws.{number_sent}
use Rattle.mds_walk.proofs.Lists.{AllOf, all_in, all_set, all_got}
use Rattle.mds_laws.proofs.OwnWriters.{StaysWriter}
use Rattle.mds_laws.proofs.Keeping.{IsWriteOf}
use Rattle.mds_walk.proofs.Parts.{CanBegin, end_input, without_write}
use Rattle.mds_walk.proofs.Served.{place_served, served_again, stepped_there}
use Rattle.mds_laws.proofs.OwnPeriods.{own_granted, own_granted_so}
use Rattle.mds_laws.proofs.WriterKept.{answer_kept, timeout_kept}
use Rattle.mds_moves.specs.MdsMoves.{message_of, IsCallFor, IsSentBy, IsSentIn, IsWriterInRange, IsWaitingInRange, IsServedInRange}
use Rattle.mds_moves.specs.MdsBinds.{IsReachedBy, IsWrittenTo, IsOwnWrite, OwnWriteStands, ServedStands, HasOwnWrites}
use Rattle.mds_moves.proofs.Draws.{DrawFew}
use Rattle.mds_moves.proofs.FileStands.{RunsStand, TellsAll}
use Rattle.mds_moves.proofs.WriterMirrors.{MirrorFailures, HasMoreFailures, IsAmongFailures, IsGivenTo, AnswersSent, WriterStandsAfter, answer_so, timeout_so}
use Rattle.mds_moves.proofs.WriterSends.{new_ids, new_so}
use Rattle.mds_moves.proofs.WriterEnds.{few_places, is_open, all_covered}
use Rattle.mds_moves.proofs.OwnKept.{then_in, told_join, own_put}
use Rattle.mds_moves.proofs.CleanEnds.{own_may}
use Rattle.mds_moves.proofs.MdsMachine.{file_there, put_files, same_files}
use Rattle.mds_moves.proofs.Ranges.{CallsFit, file_at, same_range, stays_in_range, write_in_range}
use Rattle.mds_moves.proofs.Stands.{HeardBy, IsFrom, stays_reached, is_reached, file_stands}
use Rattle.mds_moves.proofs.Inputs.{input_case, WasHeard, was_heard}
use Rattle.mds_moves.proofs.Calls.{write_of, calls_once}

-- ---- a file that is granted to the metadata server

-- its write is among those that were sent
sent_now : (file : FileId) (f : MdsFile) (at : ℕ) (bytes : List ℕ) → IsIn (the_write at bytes) (sent_of f.layout.cred.0 (telling (own_granted file f at bytes).entries))
sent_now file f at bytes =
    subst (λ (b : Bool). IsIn (the_write at bytes) (cond b (a_write at bytes) [] ++ [])) (sym (eq-eqb f.layout.cred.0 f.layout.cred.0 refl)) (inl refl)

apart : (is_recalled : Bool) → Held Mds is_recalled ≡ Free → ⊥
apart is_recalled is = absurd cc

-- a file that is free has no write that waits
none_waits : (packets : List PacketValue) (journal : List Entry) (ss : List MdsSend) (f g : MdsFile) → f.layout.phase ≡ Free → (o : Option WaitingWrite) → OwnWriteStands packets journal ss f o → OwnWriteStands packets journal ss g o
none_waits packets journal ss f g free None i = tt
none_waits packets journal ss f g free (Some w) i = absurd (apart i.is_recalled (sym i.held ∙ free))

-- what is to be drawn is there as long as uids are left
fresh_left : (fresh : Fresh) → fresh.name ≤ 4 * fresh.uid → are_spent fresh ≡ false → has_fresh fresh ≡ true
fresh_left fresh names unspent =
    let left : fresh.uid + SPARE_UIDS ≤ end_of_uids = ltb-false end_of_uids (fresh.uid + SPARE_UIDS) unspent in
    and_from (nat_lt fresh.uid end_of_uids) (nat_lt (fresh.name + 4) (2 ^ 64)) (lt-ltb fresh.uid end_of_uids (omega (arith, left))) (lt-ltb (fresh.name + 4) (2 ^ 64) (omega (arith, left, names)))

-- ---- failures that are noted

found_front : (test : (MirrorId × LeftCause) → Bool) (fs : MirrorFailures) (x : MirrorId × LeftCause) → is_some (find test fs) ≡ true → is_some (find test (fs ++ x ∷ [])) ≡ true
found_front test [] x is = absurd cc
found_front test (f ∷ fs) x is = by_test (test f) is (found_front test fs x)
  where
    by_test : (b : Bool) → is_some (cond b (Some f) (find test fs)) ≡ true → (is_some (find test fs) ≡ true → is_some (find test (fs ++ x ∷ [])) ≡ true) → is_some (cond b (Some f) (find test (fs ++ x ∷ []))) ≡ true
    by_test true its more = refl
    by_test false its more = more its

found_last : (test : (MirrorId × LeftCause) → Bool) (fs : MirrorFailures) (x : MirrorId × LeftCause) → test x ≡ true → is_some (find test (fs ++ x ∷ [])) ≡ true
found_last test [] x is = ap (λ (b : Bool). is_some (cond b (Some x) None)) is
found_last test (f ∷ fs) x is = cond_both (test f) (Some f) (find test (fs ++ x ∷ [])) (λ (o : Option (MirrorId × LeftCause)). is_some o ≡ true) (λ yes. refl) (λ no_more. found_last test fs x is)

more_with : (s : WriterStep) (fs : MirrorFailures) → HasMoreFailures fs (with_failed s fs)
more_with (step.Failed id cause) fs k is = found_front (is_failure_of k) fs (id, cause) is
more_with step.Stranger fs k is = is
more_with step.Waiting fs k is = is
more_with (step.Fenced id status) fs k is = is
more_with step.Committed fs k is = is

noted_with : (s : WriterStep) (fs : MirrorFailures) → IsAmongFailures s (with_failed s fs)
noted_with (step.Failed id cause) fs = found_last (is_failure_of id) fs (id, cause) (itself id)
noted_with step.Stranger fs = tt
noted_with step.Waiting fs = tt
noted_with (step.Fenced id status) fs = tt
noted_with step.Committed fs = tt

-- a step of its writer leaves the write as it stands
stepped_so : (packets : List PacketValue) (journal : List Entry) (ss : List MdsSend) (f : MdsFile) (w : WaitingWrite) (a : WriterAfter) → StaysWriter w.writer a.writer
    → WriterStandsAfter packets ss w.writer.cred w.at w.bytes w.writer w.failures a → IsOwnWrite packets journal ss f w → IsOwnWrite packets journal ss f (write_stepped w a)
stepped_so packets journal ss f w a kept so o =
    let there = so (with_failed a.step w.failures) (more_with a.step w.failures) (noted_with a.step w.failures) in
    record {
      is_recalled = o.is_recalled;
      held = o.held;
      idle = o.idle;
      uid = o.uid ∙ sym kept.cred;
      mirrors = there.1 ∙ o.mirrors;
      taken = kept.taken ∙ o.taken;
      some = o.some;
      sent = subst (λ (u : ℕ). IsIn (the_write w.at w.bytes) (sent_of u journal)) (sym kept.cred) o.sent;
      each = subst (λ (u : ℕ). AllOf (IsWrittenTo packets ss u w.at w.bytes (with_failed a.step w.failures)) a.writer.mirrors) (sym kept.cred) there.0;
    }

-- ---- an answer to a call that was sent

abbrev GivenFor : List PacketValue → DsReplyValue → MdsSend → Type 0
GivenFor packets reply (CallsServer server xid uid call) = IsGivenTo packets server xid uid call reply
GivenFor packets reply (CallsBack xid back file stateid) = Unit {0}
GivenFor packets reply (Replies node other) = Unit {0}
GivenFor packets reply (Answers node bytes) = Unit {0}

module _ (few : DrawFew) (fit : CallsFit) (tells : TellsAll) (stand : RunsStand) (mc : Machine) (journal : List Entry) (reached : IsReachedBy mc journal) (range : AreServersInRange mc) (Stood : Type 0) (past : List MdsSend) where
  abbrev IsSo : MdsValue → List Entry → List MdsSend → Type 0
  IsSo m es ss = IsFrom mc journal Stood past m es ss

  -- a write that is kept with a file
  its_write : (m : MdsValue) (file : FileId) (s : ServedFile) → served m file ≡ Some s → (o : Option WaitingWrite) → IsWriteOf s.file s.write o → (es : List Entry) (ss : List MdsSend) → IsSo m es ss → IsWaitingInRange o
  its_write m file s at o its es ss i =
      let n : Machine = i.machine in
      write_in_range s.file s.write o (file_at fit n (stays_reached mc n es (is_reached mc journal reached) i.goes) (same_range mc n i.stays range) file.0 s.file (file_there n m file s i.is.files at)) its (write_of m file s at i.is.writes)

  -- a file is put back with another write, or the same
  abbrev pub put_case : (m : MdsValue) (file : FileId) (s t : ServedFile) → served m file ≡ Some s → t.file ≡ s.file → IsWaitingInRange t.write → (es : List Entry) (ss : List MdsSend) (i : IsSo m es ss)
      → (Stood → HasOwnWrites i.machine.packets (journal ++ telling es) ss m.files m.fresh → ServedStands i.machine.packets (journal ++ telling es) ss t) → IsSo (with_served m file t) es ss
  put_case m file s t at same write es ss i own = record {
    machine = i.machine;
    goes = i.goes;
    stays = i.stays;
    is = same_files i.machine m.servers m.mirrors m.files m.fresh m.calls m.next_xid ss i.is (slice_set m.files (file.0 - 1) t) (put_files m.files (file.0 - 1) s t (place_served m file s at).1 same)
        (all_set IsServedInRange m.files (file.0 - 1) t i.is.writes write);
    kept = i.kept;
    binds = i.binds;
    own = λ stood.
        own_put i.machine.packets (journal ++ telling es) ss m.files m.fresh (file.0 - 1) t (own stood (i.own stood))
        (subst FileHasFew (sym same) (all_got (λ (y : ServedFile). FileHasFew y.file) m.files (file.0 - 1) s (i.own stood).few (place_served m file s at).1)) (i.own stood);
  }

  stands_at : (m : MdsValue) (file : FileId) (s : ServedFile) → served m file ≡ Some s → (packets : List PacketValue) (j : List Entry) (ss : List MdsSend) → HasOwnWrites packets j ss m.files m.fresh → ServedStands packets j ss s
  stands_at m file s at packets j ss own = all_got (ServedStands packets j ss) m.files (file.0 - 1) s own.writes (place_served m file s at).1

  write_stands : (m : MdsValue) (file : FileId) (s : ServedFile) → served m file ≡ Some s → (w : WaitingWrite) → s.write ≡ Some w → (packets : List PacketValue) (j : List Entry) (ss : List MdsSend) → HasOwnWrites packets j ss m.files m.fresh
      → IsOwnWrite packets j ss s.file w
  write_stands m file s at w waits packets j ss own = subst (OwnWriteStands packets j ss s.file) waits (stands_at m file s at packets j ss own)

  pub same_case : (m : MdsValue) (file : FileId) (s t : ServedFile) → served m file ≡ Some s → t.file ≡ s.file → t.write ≡ s.write → (es : List Entry) (ss : List MdsSend) → IsSo m es ss → IsSo (with_served m file t) es ss
  same_case m file s t at same write es ss i =
      put_case m file s t at same (subst IsWaitingInRange (sym write) (write_of m file s at i.is.writes)) es ss i
      (λ stood own.
      subst (λ (f : MdsFile). OwnWriteStands i.machine.packets (journal ++ telling es) ss f t.write) (sym same)
      (subst (λ (o : Option WaitingWrite). OwnWriteStands i.machine.packets (journal ++ telling es) ss s.file o) (sym write) (stands_at m file s at i.machine.packets (journal ++ telling es) ss own)))

  -- ---- it begins

  pub begins_case : (m : MdsValue) (file : FileId) (s : ServedFile) (c : CompoundRun) (at : ℕ) (bytes : List ℕ) → served m file ≡ Some s → CanBegin m s at bytes → has_fresh m.fresh ≡ true → (es : List Entry) (ss : List MdsSend) → IsSo m es ss
      → IsSo (with_served (file_stepped m file s (phase file s.file (OwnWrite at bytes) m.fresh)).mds file (with_write c at bytes (file_behind s (phase file s.file (OwnWrite at bytes) m.fresh))))
      (es ++ (phase file s.file (OwnWrite at bytes) m.fresh).entries) ss
  begins_case m file s c at bytes there can fresh es ss i =
      let n : Machine = i.machine in
      let made : FileStep = phase file s.file (OwnWrite at bytes) m.fresh in
      let t : ServedFile = file_behind s made in
      let x : MdsValue = (file_stepped m file s made).mds in
      let its : numbered_at n.files file.0 ≡ Some s.file = file_there n m file s i.is.files there in
      let so : made ≡ own_granted file s.file at bytes = own_granted_so file s.file m.fresh at bytes can.free can.unspent in
      let idle : s.file.activity ≡ Idle = (file_stands tells mc n journal es reached i.goes stand file.0 s.file its).idle (ap is_idle can.free) in
      let first : IsSo x (es ++ made.entries) ss =
      input_case few tells stand mc journal reached Stood past m file s (OwnWrite at bytes) there fresh es ss i (Happens file.0 (OwnWrite at bytes)) refl
      (λ stood ends. subst (λ (o : Option MdsFile). IsBoundInput n.packets (journal ++ telling es) (OwnWrite at bytes) o) (sym its) can.some)
      (λ stood was. none_waits n.packets (journal ++ telling (es ++ made.entries)) ss s.file made.file can.free s.write was) in
      let sent : IsIn (the_write at bytes) (sent_of made.file.layout.cred.0 (journal ++ telling (es ++ made.entries))) =
      subst (λ (y : FileStep). IsIn (the_write at bytes) (sent_of y.file.layout.cred.0 (journal ++ telling (es ++ y.entries)))) (sym so)
      (subst (λ (j : List Entry). IsIn (the_write at bytes) (sent_of s.file.layout.cred.0 j)) (sym (told_join journal es (own_granted file s.file at bytes).entries))
      (then_in s.file.layout.cred.0 (the_write at bytes) (journal ++ telling es) (telling (own_granted file s.file at bytes).entries) (sent_now file s.file at bytes))) in
      put_case x file t (with_write c at bytes t) (stepped_there m file s made there) refl
      (its_write x file t (stepped_there m file s made there) (with_write c at bytes t).write (inl (record { at = at; bytes = bytes; is = refl; few = can.few; within = can.within })) (es ++ made.entries) ss first) (es ++ made.entries) ss first
      (λ stood own.
      record {
        is_recalled = false;
        held = ap (λ (y : FileStep). y.file.layout.phase) so;
        idle = ap (λ (y : FileStep). y.file.activity) so ∙ idle;
        uid = refl;
        mirrors = new_ids made.file.layout.live;
        taken = refl;
        some = can.some;
        sent = sent;
        each = new_so first.machine.packets ss made.file.layout.cred.0 at bytes made.file.layout.live;
      })

  -- names are never used up before the uids
  pub alone_case : (m : MdsValue) (file : FileId) (s : ServedFile) (c : CompoundRun) (at : ℕ) (bytes : List ℕ) → served m file ≡ Some s → CanBegin m s at bytes → has_fresh m.fresh ≡ false → (es : List Entry) (ss : List MdsSend) → IsSo m es ss
      → IsSo (with_served m file (with_write c at bytes s)) es ss
  alone_case m file s c at bytes there can spent es ss i =
      put_case m file s (with_write c at bytes s) there refl
      (its_write m file s there (with_write c at bytes s).write (inl (record { at = at; bytes = bytes; is = refl; few = can.few; within = can.within })) es ss i) es ss i
      (λ stood own. absurd (never (sym spent ∙ fresh_left m.fresh own.names can.unspent)))
    where
      never : false ≡ true → ⊥
      never is = absurd cc

  -- ---- an answer, and a timeout

  module _ (es : List Entry) (m : MdsValue) (ss : List MdsSend) (i : IsSo m es ss) (file : FileId) (call : AwaitedCall) (server own uid : ℕ) (c : DsCallValue) (says : DsCallValue → DsReplyValue) (known : HeardBy mc past call says)
      (caller : call.caller ≡ ForWrite file) (sent : call.sent ≡ CallsServer server own uid c) where
    heard : WasHeard mc past i.machine call server own uid c says
    heard =
        let by : (call.node ≡ Server server) × IsCallFor (ForWrite file) (message_of own uid c) = subst (λ (w : Waiter). IsSentBy call.node w (CallsServer server own uid c)) caller (subst (IsSentBy call.node call.caller) sent known.awaited.node) in
        was_heard mc past i.machine es i.goes call server own uid c says known sent by.0 by.1.1

    inside : IsOneOf (CallsServer server own uid c) ss
    inside = subst (λ (x : MdsSend). IsOneOf x ss) sent (i.kept call.sent heard.inside)

    once : AreCallsOnce i.machine
    once = calls_once tells mc journal reached Stood past i.machine es i.goes

    given : IsGivenTo i.machine.packets server own uid c (says c)
    given =
        let stands : HasServerAnswered i.machine server own c heard.reply = heard.stands in
        let called : HasCalled i.machine server own uid c = (all_in (IsSentIn i.machine) ss (CallsServer server own uid c) i.is.sent inside).0 in
        let same : Call Mds server own stands.uid stands.uid c ≡ Call Mds server own uid uid c =
        once.once stands.called called.place own (Call Mds server own stands.uid stands.uid c) (Call Mds server own uid uid c) stands.call_there called.there (record { server = server; uid = stands.uid; gid = stands.uid; call = c; is = refl })
        (record { server = server; uid = uid; gid = uid; call = c; is = refl }) in
        subst (λ (r : DsReplyValue). IsGivenTo i.machine.packets server own uid c r) (sym heard.same)
        (record { called = stands.called; call_there = stands.call_there ∙ ap Some same; place = stands.place; there = stands.there })

    answers : AnswersSent i.machine.packets ss call.xid (says c)
    answers other user asked there =
        let number : number_sent (CallsServer server own uid c) ≡ Some call.xid = ap number_sent (sym sent) ∙ known.awaited.number in
        let one : CallsServer server own uid c ≡ CallsServer other call.xid user asked = i.is.once (CallsServer server own uid c) (CallsServer other call.xid user asked) call.xid inside there number refl in
        subst (GivenFor i.machine.packets (says c)) one given

  -- a step of its writer
  step_case : (m : MdsValue) (file : FileId) (s : ServedFile) (w : WaitingWrite) (a : WriterAfter) → StaysWriter w.writer a.writer → served m file ≡ Some s → s.write ≡ Some w → (es : List Entry) (ss : List MdsSend) (i : IsSo m es ss)
      → (IsOwnWrite i.machine.packets (journal ++ telling es) ss s.file w → WriterStandsAfter i.machine.packets ss w.writer.cred w.at w.bytes w.writer w.failures a) → IsSo (with_served m file (record s { write = Some (write_stepped w a) })) es ss
  step_case m file s w a kept at waits es ss i so =
      let was : IsWriterInRange w.writer = subst IsWaitingInRange waits (write_of m file s at i.is.writes) in
      put_case m file s (record s { write = Some (write_stepped w a) }) at refl (stays_in_range w.writer a.writer kept was) es ss i
      (λ stood own.
      (let o = write_stands m file s at w waits i.machine.packets (journal ++ telling es) ss own in
      stepped_so i.machine.packets (journal ++ telling es) ss s.file w a kept (so o) o))

  pub answer_case : (m : MdsValue) (file : FileId) (s : ServedFile) (w : WaitingWrite) (call : AwaitedCall) (server own uid : ℕ) (c : DsCallValue) (says : DsCallValue → DsReplyValue) → HeardBy mc past call says
      → call.caller ≡ ForWrite file → call.sent ≡ CallsServer server own uid c → served m file ≡ Some s → s.write ≡ Some w → (es : List Entry) (ss : List MdsSend) → IsSo m es ss
      → IsSo (with_served m file (record s { write = Some (write_stepped w (after_own_reply w.writer call.xid (says c))) })) es ss
  answer_case m file s w call server own uid c says known caller sent at waits es ss i =
      step_case m file s w (after_own_reply w.writer call.xid (says c)) (answer_kept w.writer call.xid (says c)) at waits es ss i
      (λ o. answer_so i.machine.packets ss w.writer.cred w.at w.bytes w.writer w.failures o.each call.xid (says c) (answers es m ss i file call server own uid c says known caller sent))

  pub late_write : (m : MdsValue) (file : FileId) (s : ServedFile) (w : WaitingWrite) (xid : ℕ) → served m file ≡ Some s → s.write ≡ Some w → (es : List Entry) (ss : List MdsSend) → IsSo m es ss
      → IsSo (with_served m file (record s { write = Some (write_stepped w (after_timeout w.writer xid)) })) es ss
  late_write m file s w xid at waits es ss i =
      step_case m file s w (after_timeout w.writer xid) (timeout_kept w.writer xid) at waits es ss i (λ o. timeout_so i.machine.packets ss w.writer.cred w.at w.bytes w.writer w.failures o.each xid)

  -- ---- it is over

  pub drop_case : (m : MdsValue) (file : FileId) (s : ServedFile) → served m file ≡ Some s → (es : List Entry) (ss : List MdsSend) → IsSo m es ss → IsSo (with_served m file (without_write s)) es ss
  drop_case m file s at es ss i = put_case m file s (without_write s) at refl tt es ss i (λ stood own. tt)

  covers : (packets : List PacketValue) (j : List Entry) (ss : List MdsSend) (f : MdsFile) (w : WaitingWrite) (places : List Bool) → FileHasFew f → ended w.writer ≡ Some places → IsOwnWrite packets j ss f w
      → AllByRecursion (λ (id : MirrorId). IsCovered packets f.layout.cred.0 id (the_write w.at w.bytes)) (ids_of (unreported (map is_some (failures_by_place w.failures f.layout.live)) f.layout.live))
  covers packets j ss f w places has over o =
      subst (λ (l : List Mirror). AllByRecursion (λ (id : MirrorId). IsCovered packets f.layout.cred.0 id (the_write w.at w.bytes)) (ids_of l)) (sym (few_places w.failures f.layout.live has.mirrors.few_live))
      (subst (λ (u : ℕ). AllByRecursion (λ (id : MirrorId). IsCovered packets u id (the_write w.at w.bytes)) (ids_of (unreported (Rattle.mds_moves.proofs.WriterEnds.gone w.failures f.layout.live) f.layout.live))) (sym o.uid)
      (all_covered packets ss w.writer.cred w.at w.bytes w.failures f.layout.live w.writer.mirrors o.mirrors o.each (is_open w.writer places over)))

  pub ends_case : (m : MdsValue) (file : FileId) (s : ServedFile) (w : WaitingWrite) (places : List Bool) → served m file ≡ Some s → s.write ≡ Some w → ended w.writer ≡ Some places → has_fresh m.fresh ≡ true → (es : List Entry) (ss : List MdsSend) → IsSo m es ss
      → IsSo (file_stepped (with_served m file (without_write s)) file (without_write s) (phase file s.file (end_input s w) m.fresh)).mds (es ++ (phase file s.file (end_input s w) m.fresh).entries) ss
  ends_case m file s w places at waits over fresh es ss i =
      let n : Machine = i.machine in
      let u : ServedFile = without_write s in
      let its : numbered_at n.files file.0 ≡ Some s.file = file_there n m file s i.is.files at in
      let causes : List (Option LeftCause) = failures_by_place w.failures s.file.layout.live in
      input_case few tells stand mc journal reached Stood past (with_served m file u) file u (end_input s w) (served_again m file s u at) fresh es ss (put_case m file s u at refl tt es ss i (λ stood own. tt)) (Happens file.0 (end_input s w)) refl
      (λ stood ends.
      subst (λ (o : Option MdsFile). IsBoundInput n.packets (journal ++ telling es) (OwnEnds causes w.at w.bytes) o) (sym its)
      (own_may mc.packets n.packets (goes_keep mc n es i.goes) journal es file s.file m.fresh causes w.at w.bytes ends
      (covers n.packets (journal ++ telling es) ss s.file w places (all_got (λ (y : ServedFile). FileHasFew y.file) m.files (file.0 - 1) s (i.own stood).few (place_served m file s at).1) over
      (write_stands m file s at w waits n.packets (journal ++ telling es) ss (i.own stood)))))
      (λ stood was. tt)
