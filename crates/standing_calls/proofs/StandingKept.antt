-- Each call that a file, a READ or an own write awaits stands through every part of every event.
use Rattle.std.proofs.Common.{◌≡◌, ℕ, suc, ◌+◌, Bool, true, false, List, [], ◌∷◌, length, Option, Some, None, refl, sym, ap, subst, ◌∙◌, arith, inl}
use Rattle.std.specs.Prelude.{◌-◌, ◌==◌, ◌&&◌, not, map, remove, slice_get, slice_set, if◌then◌else◌, nat_lt}
use Rattle.std.specs.List.{list_any}
use Rattle.std.proofs.lemmas.Bool.{and_parts, ne_eqb, eq-eqb}
use Rattle.std.proofs.lemmas.Option.{none-some}
use Rattle.device_addr.specs.Universal.{AddressValue}
use Rattle.cluster_model.specs.declared.ids.NodeId.TheVariants.{Server}
use Rattle.cluster_model.specs.declared.ids.FileId.{FileId}
use Rattle.cluster_model.specs.declared.ids.Mirror.{Mirror}
use Rattle.cluster_model.specs.declared.entry.Entry.{Entry}
use Rattle.cluster_model.specs.Fences.{is_out}
use Rattle.file_rule.specs.MdsFiles.{FileStep, MdsFile}
use Rattle.file_rule.specs.FilePhases.{FileInput, OwnWrite, TimesOut, Answers, Sees, phase, is_outstanding, new_mds_file, creations_at, AsksLayout, Returns}
use Rattle.mds_io.specs.Reads.{ReadState, in_turn}
use Rattle.mds_io.specs.Reads as read
use Rattle.mds_io.specs.OwnWrites.{after_own_reply}
use Rattle.mirror_writer.specs.Writers as writer
use Rattle.mds_rule.specs.MdsStates.{WaitingRead, WaitingWrite, ServedFile, MdsSend, CallsServer, AwaitedCall, MdsValue, served, with_served, numbered, new_mds}
use Rattle.mds_rule.specs.declared.waiter.Waiter.TheVariants.{ForFile, ForRead, ForWrite}
use Rattle.mds_rule.specs.ServedFiles.{has_fresh, file_behind, file_stepped}
use Rattle.mds_rule.specs.FileOps.{max_files, uids_left, servers_of, new_served, with_read, with_write}
use Rattle.mds_rule.specs.Answers.{own_answer, write_stepped, is_read_out}
use Rattle.mds_walk.specs.MdsRuns.{MdsEvent, mds_run}
use Rattle.mds_walk.proofs.Parts.{HeardAny, IsReadAt, with_read_at, heard_by, end_input, without_write, Parts, Calls, KeepsBegin, AnyCompound, any_wait, RunParts, GivesAnswers, OutParts, EventParts}
use Rattle.mds_walk.proofs.Served.{served_again, stepped_there}
use Rattle.mds_walk.proofs.EventWalk.{in_each_run}
use Rattle.mds_walk.proofs.TableKept.{Table, table_parts, table_calls, new_table, table_runs, table_answers, table_outs}
use Rattle.standing_calls.specs.Standing.{CallsStand, StandsTo}
use Rattle.standing_calls.proofs.Spots.{Spot, is_at, has_at, not_both, left_same, AreNone, none_left, map_set, map_get, got_at, and_true, IsLeft, Once, first_passes, is_number}
use Rattle.standing_calls.proofs.OwnSpots.{number_of, own_spots, out_number, outstanding_at, creation_spot}
use Rattle.standing_calls.proofs.OwnSteps.{KindOf, IsNext, itself_next, late_next, sees_next, answer_next, unasked_itself}
use Rattle.standing_calls.proofs.OwnOuts.{goes_to}
use Rattle.standing_calls.proofs.ReadSpots.{read_spot, read_spots, server_of, begun_left, turns_push, behind_left, behind_turns, late_so, put_left, put_turns, gone_left, gone_turns, reply_gone, put_taken, gone_taken, turns_none, sent_so, TurnSo, TurnsSo}
use Rattle.standing_calls.proofs.WriteSpots.{write_spots, writer_spots, called_at, new_left, write_late, write_taken, write_goes}
use Rattle.standing_calls.proofs.FilesKept.{FileGood, Leaves, Hears, hears_own, hears_reads, hears_write, FilesIn, files_left, files_stepped, files_pushed, files_heard, files_unheard, files_leave, files_forget, files_called, spots_called, files_call, file_of}
use Rattle.cluster_model.specs.declared.limits.TheConstants.{SPARE_UIDS}
use Rattle.cluster_model.specs.DsCalls.{DsReplyValue}
use Rattle.mds_walk.proofs.Lists.{all_got}
use Rattle.mds_progress.specs.FirstOut.{is_called_at}
use Rattle.mds_rule.specs.LayoutOps.{client_number, with_holder}
use Rattle.cluster_model.specs.Phases.{holder_of}
use Rattle.layout_report.specs.Reports.{report_of}

-- While uids and names are left, the calls of each file stand.
abbrev pub Standing : MdsValue → List Entry → List MdsSend → Type 0
Standing m es ss = Table m es ss × (has_fresh m.fresh ≡ true → FilesIn m.calls m.files)

-- ---- what is left behind an input of the table of phases

next_leaves : (calls : List AwaitedCall) (file : FileId) (s : ServedFile) (step : FileStep) → IsNext s.file step.file → FileGood calls file s → Leaves s (file_behind s step)
next_leaves calls file s step next g = record {
  own = next.left;
  reads = behind_left step.entries step.file.layout.live s.reads;
  write = left_same (write_spots s.write);
  turns = behind_turns step.entries step.file.layout.live s.reads g.turns;
  kind = next.kind;
}

-- an input of the file, with the calls as they were
input_stands : (m : MdsValue) (file : FileId) (s : ServedFile) (input : FileInput) → served m file ≡ Some s → (KindOf s.file → IsNext s.file (phase file s.file input m.fresh).file) → FilesIn m.calls m.files
    → FilesIn (file_stepped m file s (phase file s.file input m.fresh)).mds.calls (file_stepped m file s (phase file s.file input m.fresh)).mds.files
input_stands m file s input there next all =
    let step : FileStep = phase file s.file input m.fresh in
    files_stepped m file s step (files_left m file s (file_behind s step) there (λ g. next_leaves m.calls file s step (next g.kind) g) all)

-- ---- other changes of a file

read_leaves : (calls : List AwaitedCall) (file : FileId) (s : ServedFile) (xid place : ℕ) (r : WaitingRead) → slice_get s.reads place ≡ Some r → FileGood calls file s → Leaves s (with_read_at s place r (read.after_timeout r.read xid).read)
read_leaves calls file s xid place r at g =
    let so = late_so r.read xid in
    record {
      own = left_same (own_spots s.file);
      reads = put_left s.reads place r (read.after_timeout r.read xid).read at so;
      write = left_same (write_spots s.write);
      turns = put_turns s.reads place r (read.after_timeout r.read xid).read at so.turn g.turns;
      kind = g.kind;
    }

gone_leaves : (calls : List AwaitedCall) (file : FileId) (s : ServedFile) (place : ℕ) (r : WaitingRead) → slice_get s.reads place ≡ Some r → FileGood calls file s → Leaves s (record s { reads = remove s.reads place })
gone_leaves calls file s place r at g = record {
  own = left_same (own_spots s.file);
  reads = gone_left s.reads place r at;
  write = left_same (write_spots s.write);
  turns = gone_turns s.reads place g.turns;
  kind = g.kind;
}

-- its calls are as they were
same_calls : (calls : List AwaitedCall) (file : FileId) (s t : ServedFile) → t.file ≡ s.file → t.reads ≡ s.reads → t.write ≡ s.write → FileGood calls file s → Leaves s t
same_calls calls file s t its reads write g = record {
  own = subst (λ (f : MdsFile). IsLeft (own_spots f) (own_spots s.file)) (sym its) (left_same (own_spots s.file));
  reads = subst (λ (l : List WaitingRead). IsLeft (read_spots l) (read_spots s.reads)) (sym reads) (left_same (read_spots s.reads));
  write = subst (λ (o : Option WaitingWrite). IsLeft (write_spots o) (write_spots s.write)) (sym write) (left_same (write_spots s.write));
  turns = subst TurnsSo (sym reads) g.turns;
  kind = subst KindOf (sym its) g.kind;
}

-- its write is another, or none
write_leaves : (calls : List AwaitedCall) (file : FileId) (s : ServedFile) (o : Option WaitingWrite) → IsLeft (write_spots o) (write_spots s.write) → FileGood calls file s → Leaves s (record s { write = o })
write_leaves calls file s o l g = record { own = left_same (own_spots s.file); reads = left_same (read_spots s.reads); write = l; turns = g.turns; kind = g.kind }

stepped_write : (s : ServedFile) (w v : WaitingWrite) → s.write ≡ Some w → IsLeft (writer_spots v.writer) (writer_spots w.writer) → IsLeft (write_spots (Some v)) (write_spots s.write)
stepped_write s w v waits l = subst (λ (o : Option WaitingWrite). IsLeft (writer_spots v.writer) (write_spots o)) (sym waits) l

-- a new file has no call out
made_none : (name : ℕ) (servers : List ℕ) → AreNone (map creation_spot (creations_at name servers))
made_none name [] = tt
made_none name (k ∷ servers) = (refl, made_none name servers)

new_good : (m : MdsValue) (name : List ℕ) (file : FileId) → FileGood m.calls file (new_served name (new_mds_file m.fresh (servers_of (length m.servers) m.mirrors (length m.files + 1))))
new_good m name file =
    let servers : List ℕ = servers_of (length m.servers) m.mirrors (length m.files + 1) in
    let l = none_left (map creation_spot (creations_at m.fresh.name servers)) [] (made_none m.fresh.name servers) in
    record {
      own = record { stand = λ server n is. absurd (not_both (sym (l.at server n is))); once = l.once tt };
      reads = record { stand = λ server n is. absurd (not_both (sym is)); once = tt };
      write = record { stand = λ server n is. absurd (not_both (sym is)); once = tt };
      turns = tt;
      kind = tt;
    }

pub standing_parts : Parts Standing HeardAny AnyCompound
standing_parts = record {
  wait = λ m es ss j file s there. any_wait s.reads s.write;
  opens = λ m client file es ss j. j;
  closes = λ m client file es ss j. j;
  reclaims = λ m client es ss j. j;
  gone = λ m client es ss j. j;
  tables = λ m move no es ss j. j;
  asks_recall = λ m file s n recalled client now there held off es ss j. j;
  times_recall = λ m xid out es ss j. j;
  ticks_recalls = λ m now es ss j. j;
  later = λ m file p es ss j. j;
  sizes = λ m file s server fileid size there es ss j. (j.0, λ fresh. files_left m file s _ there (same_calls m.calls file s _ refl refl refl) (j.1 fresh));
  gives_again = λ m file s client there its es ss j. (j.0, λ fresh. files_left m file s _ there (same_calls m.calls file s (with_holder client true s) refl refl refl) (j.1 fresh));
  grants = λ m file s client n from there free left fresh es ss j.
      let step : FileStep = phase file s.file (AsksLayout n) m.fresh in
      let x : MdsValue = (file_stepped m file s step).mds in
      let t : ServedFile = file_behind s step in (
        table_parts.grants m file s client n from there free left fresh es ss j.0,
        λ any.
            files_left x file t (with_holder client false t) (stepped_there m file s step there) (same_calls x.calls file t (with_holder client false t) refl refl refl)
            (input_stands m file s (AsksLayout n) there (itself_next file s.file m.fresh (AsksLayout n) refl) (j.1 fresh)),
      );
  grants_alone = λ m file s client n from there free left spent es ss j. (j.0, λ fresh. absurd (not_both (sym fresh ∙ spent)));
  inputs = λ m file s input unasked there fresh es ss j.
      (table_parts.inputs m file s input unasked there fresh es ss j.0, λ any. input_stands m file s input there (itself_next file s.file m.fresh input (unasked_itself input unasked)) (j.1 fresh));
  timeouts = λ m file s node xid out there fresh es ss j.
      (table_parts.timeouts m file s node xid out there fresh es ss j.0, λ any. input_stands m file s (TimesOut xid) there (late_next file s.file m.fresh xid) (j.1 fresh));
  learns = λ m file s call server own uid c replies fileid shown heard caller sent named shows there fresh es ss j.
      (j.0, λ any. input_stands m file s (Sees (record { server = server; fileid = fileid }) shown.seen) there (sees_next file s.file m.fresh (record { server = server; fileid = fileid }) shown.seen) (j.1 fresh));
  begins_read = λ m file s c at count any there es ss j. (
    j.0,
    λ fresh. files_left m file s (with_read c at count s) there
        (λ g. record {
          own = left_same (own_spots s.file);
          reads = begun_left s.reads c s.file.layout.live at count;
          write = left_same (write_spots s.write);
          turns = turns_push s.reads _ g.turns (λ none. refl);
          kind = g.kind;
        }) (j.1 fresh),
  );
  times_read = λ m file s xid place r at on es ss j. (j.0, λ fresh. files_left m file s _ at.there (read_leaves m.calls file s xid place r at.at) (j.1 fresh));
  loses_read = λ m file s xid place r e at over es ss j. (j.0, λ fresh. files_left m file s _ at.there (gone_leaves m.calls file s place r at.at) (j.1 fresh));
  begins_write = λ m file s c at bytes any there can fresh es ss j.
      let step : FileStep = phase file s.file (OwnWrite at bytes) m.fresh in
      let x : MdsValue = (file_stepped m file s step).mds in
      let t : ServedFile = file_behind s step in (
        table_parts.begins_write m file s c at bytes any there can fresh es ss j.0,
        λ any.
            files_left x file t (with_write c at bytes t) (stepped_there m file s step there) (write_leaves x.calls file t _ (new_left c t.file.layout.live t.file.layout.cred.0 at bytes (write_spots t.write)))
            (input_stands m file s (OwnWrite at bytes) there (itself_next file s.file m.fresh (OwnWrite at bytes) refl) (j.1 fresh)),
      );
  begins_alone = λ m file s c at bytes any there can spent es ss j. (j.0, λ fresh. absurd (not_both (sym fresh ∙ spent)));
  times_write = λ m file s w xid there waits out es ss j.
      (j.0, λ fresh. files_left m file s _ there (write_leaves m.calls file s _ (stepped_write s w (write_stepped w (writer.after_timeout w.writer xid)) waits (write_late w.writer xid))) (j.1 fresh));
  ends_write = λ m file s w places there waits over fresh es ss j.
      let n : MdsValue = with_served m file (without_write s) in (
        table_parts.ends_write m file s w places there waits over fresh es ss j.0,
        λ any.
            input_stands n file (without_write s) (end_input s w) (served_again m file s (without_write s) there) (itself_next file s.file m.fresh (end_input s w) refl)
            (files_left m file s (without_write s) there (write_leaves m.calls file s None (none_left [] (write_spots s.write) tt)) (j.1 fresh)),
      );
  drops_write = λ m file s w places there waits over spent es ss j. (j.0, λ fresh. absurd (not_both (sym fresh ∙ spent)));
  makes = λ m name may es ss j.
      (j.0, λ any. files_pushed m _ (new_good m name) (j.1 (and_parts (nat_lt (length m.files) max_files && not (nat_lt (uids_left m) SPARE_UIDS)) (has_fresh m.fresh) may).1));
}

pub standing_runs : RunParts Standing
standing_runs = record {
  confirmed = λ m client node es ss j. j;
  destroys = λ m session es ss j. j;
  returns = λ m file s errors there fresh es ss j.
      let input : FileInput = Returns (client_number (holder_of s.file.layout.phase)) s.file.layout.cred (report_of errors s.file.layout.live) in
      (table_runs.returns m file s errors there fresh es ss j.0, λ any. input_stands m file s input there (itself_next file s.file m.fresh input refl) (j.1 fresh));
  replies = λ m node xid bytes es ss j. (table_runs.replies m node xid bytes es ss j.0, j.1);
  finishes = λ m pass bytes es ss j. j;
}

pub standing_answers : GivesAnswers Standing
standing_answers m node bytes reply is es ss j = (table_answers m node bytes reply is es ss j.0, j.1)

-- ---- an answer

own_heard : (m : MdsValue) (xid : ℕ) (call : AwaitedCall) (file : FileId) (s : ServedFile) (reply : DsReplyValue) → call.caller ≡ ForFile file → FileGood m.calls file s
    → Hears call file xid s (file_behind s (phase file s.file (Answers xid reply) m.fresh))
own_heard m xid call file s reply is g =
    let step : FileStep = phase file s.file (Answers xid reply) m.fresh in
    let next = answer_next file s.file m.fresh xid reply g.kind in
    hears_own call file xid s (file_behind s step) is (next_leaves m.calls file s step (record { left = next.taken.left; kind = next.kind }) g) (next.taken.gone g.own.once)

read_heard : (m : MdsValue) (xid : ℕ) (call : AwaitedCall) (file : FileId) (s : ServedFile) (place : ℕ) (r : WaitingRead) (reply : DsReplyValue) → call.caller ≡ ForRead file → IsReadAt m file s xid place r
    → FileGood m.calls file s → Hears call file xid s (with_read_at s place r (read.after_reply r.read xid reply).read)
read_heard m xid call file s place r reply is at g =
    let t : WaitingRead = record { compound = r.compound; read = (read.after_reply r.read xid reply).read } in
    let out : is_out xid r.read.stage ≡ true = first_passes (is_read_out xid) s.reads place r at.first at.at in
    let none : (read_spot t).1 ≡ None = reply_gone r.read xid reply (all_got (λ (x : WaitingRead). TurnSo x.read) s.reads place r g.turns at.at) out in
    let taken = put_taken xid s.reads place r t at.first at.at none in
    hears_reads call file xid s (with_read_at s place r (read.after_reply r.read xid reply).read) is
    (record { own = left_same (own_spots s.file); reads = taken.left; write = left_same (write_spots s.write); turns = turns_none s.reads place t none g.turns; kind = g.kind }) (taken.gone g.reads.once)

read_ended : (m : MdsValue) (xid : ℕ) (call : AwaitedCall) (file : FileId) (s : ServedFile) (place : ℕ) (r : WaitingRead) → call.caller ≡ ForRead file → IsReadAt m file s xid place r → FileGood m.calls file s
    → Hears call file xid s (record s { reads = remove s.reads place })
read_ended m xid call file s place r is at g =
    hears_reads call file xid s (record s { reads = remove s.reads place }) is (gone_leaves m.calls file s place r at.at g) ((gone_taken xid s.reads place r at.first at.at).gone g.reads.once)

write_heard : (m : MdsValue) (xid : ℕ) (call : AwaitedCall) (file : FileId) (s : ServedFile) (w : WaitingWrite) (reply : DsReplyValue) → call.caller ≡ ForWrite file → s.write ≡ Some w → FileGood m.calls file s
    → Hears call file xid s (record s { write = Some (write_stepped w (after_own_reply w.writer xid reply)) })
write_heard m xid call file s w reply is waits g =
    let v : WaitingWrite = write_stepped w (after_own_reply w.writer xid reply) in
    let taken = write_taken w.writer xid reply in
    hears_write call file xid s (record s { write = Some v }) is (write_leaves m.calls file s (Some v) (stepped_write s w v waits taken.left) g)
    (taken.gone (subst (λ (o : Option WaitingWrite). Once (write_spots o)) waits g.write.once))

pub standing_calls : Calls Standing HeardAny
standing_calls = record {
  fits = λ m es ss j call inside. inl (j.0.waiters call inside);
  hears = λ m node xid file s call c replies heard its there out fresh es ss j.
      let step : FileStep = phase file s.file (Answers xid (own_answer c (replies c))) m.fresh in (
        table_calls.hears m node xid file s call c replies heard its there out fresh es ss j.0,
        λ any.
            files_stepped (heard_by node xid m) file s step (files_heard m node xid call file s (file_behind s step) its.found (ap file_of its.waits) there (own_heard m xid call file s (own_answer c (replies c)) its.waits) (j.1 fresh)),
      );
  unheard = λ m node xid file s call c its there spent es ss j. (table_calls.unheard m node xid file s call c its there spent es ss j.0, λ fresh. absurd (not_both (sym fresh ∙ spent)));
  hears_read = λ m node xid file s call c replies place r heard its at on es ss j. (
    table_calls.hears_read m node xid file s call c replies place r heard its at on es ss j.0,
    λ fresh.
        files_heard m node xid call file s _ its.found (ap file_of its.waits) at.there (read_heard m xid call file s place r (replies c) its.waits at) (j.1 fresh),
  );
  ends_read = λ m node xid file s call c replies place r e heard its at over es ss j. (
    table_calls.ends_read m node xid file s call c replies place r e heard its at over es ss j.0,
    λ fresh.
        files_heard m node xid call file s _ its.found (ap file_of its.waits) at.there (read_ended m xid call file s place r its.waits at) (j.1 fresh),
  );
  hears_write = λ m node xid file s w call c replies heard its there waits out es ss j. (
    table_calls.hears_write m node xid file s w call c replies heard its there waits out es ss j.0,
    λ fresh.
        files_heard m node xid call file s _ its.found (ap file_of its.waits) there (write_heard m xid call file s w (replies c) its.waits waits) (j.1 fresh),
  );
  hears_recall = λ m node xid status call found its out es ss j. (table_calls.hears_recall m node xid status call found its out es ss j.0, λ fresh. files_unheard m node xid call found its (j.1 fresh));
  leaves = λ m node xid call inside its off es ss j. (table_calls.leaves m node xid call inside its off es ss j.0, λ fresh. files_leave m ss node xid call j.0 inside its off (j.1 fresh));
  forgets = λ m es ss j. (table_calls.forgets m es ss j.0, λ fresh. files_forget m (j.1 fresh));
  late = λ m call inside is es ss j. j;
  again = λ m call inside is es ss j. (table_calls.again m call inside is es ss j.0, j.1);
}

pub standing_outs : OutParts Standing
standing_outs = record {
  calls_file = λ m file s out there has idle its es ss j.
      let c : AwaitedCall = record { node = Server out.server; xid = m.next_xid; caller = ForFile file; sent = CallsServer out.server m.next_xid out.uid out.call } in (
        table_outs.calls_file m file s out there has idle its es ss j.0,
        λ fresh.
            files_call m ss j.0 has c refl file s (record s { file = out.file }) there
            (λ g h.
            let goes = goes_to s.file m.next_xid out g.kind its in
            record {
              own = spots_called m ss j.0 has c refl (ForFile file) (own_spots s.file) (own_spots out.file) out.server goes.place refl refl goes.set g.own;
              reads = h.reads;
              write = h.write;
              turns = h.turns;
              kind = goes.kind g.kind;
            }) (j.1 fresh),
      );
  calls_write = λ m file s w out there has waits its es ss j.
      let c : AwaitedCall = record { node = Server out.id.server; xid = m.next_xid; caller = ForWrite file; sent = CallsServer out.id.server m.next_xid w.writer.cred out.call } in (
        table_outs.calls_write m file s w out there has waits its es ss j.0,
        λ fresh.
            files_call m ss j.0 has c refl file s (record s { write = Some (record w { writer = out.writer }) }) there
            (λ g h.
            let goes = write_goes w.writer m.next_xid out its in
            record {
              own = h.own;
              reads = h.reads;
              write = spots_called m ss j.0 has c refl (ForWrite file) (write_spots s.write) (writer_spots out.writer) out.id.server goes.place refl refl
                  (goes.set ∙ ap (λ (o : Option WaitingWrite). slice_set (write_spots o) goes.place (out.id.server, Some m.next_xid)) (sym waits)) g.write;
              turns = h.turns;
              kind = h.kind;
            }) (j.1 fresh),
      );
  calls_read = λ m file s place r out there has at its es ss j.
      let c : AwaitedCall = record { node = Server out.id.server; xid = m.next_xid; caller = ForRead file; sent = CallsServer out.id.server m.next_xid 0 out.call } in
      let t : WaitingRead = record { compound = r.compound; read = out.read } in (
        table_outs.calls_read m file s place r out there has at its es ss j.0,
        λ fresh.
            files_call m ss j.0 has c refl file s (with_read_at s place r out.read) there
            (λ g h.
            let goes = sent_so r.read m.next_xid out its in
            record {
              own = h.own;
              reads = spots_called m ss j.0 has c refl (ForRead file) (read_spots s.reads) (read_spots (slice_set s.reads place t)) out.id.server place refl refl
                  (map_set read_spot s.reads place t ∙ ap (λ (p : Spot). slice_set (read_spots s.reads) place p) goes.0) g.reads;
              write = h.write;
              turns = put_turns s.reads place r out.read at (λ so. goes.1) h.turns;
              kind = h.kind;
            }) (j.1 fresh),
      );
  calls_back = λ m sent session has its es ss j. (table_outs.calls_back m sent session has its es ss j.0, λ fresh. files_called m ss j.0 has _ refl (j.1 fresh));
  skips = λ m sent has its es ss j. (table_outs.skips m sent has its es ss j.0, j.1);
  back = λ m client es ss j. j;
  repeats = λ m server xid call found es ss j. (table_outs.repeats m server xid call found es ss j.0, j.1);
}

pub standing_begins : KeepsBegin Standing
standing_begins m request now es ss j = j

pub standing_whole : EventParts Standing HeardAny AnyCompound
standing_whole = record { parts = standing_parts; runs = standing_runs; any = λ c. tt; answers = standing_answers; calls = standing_calls; outs = standing_outs; begins = standing_begins }

new_files : (calls : List AwaitedCall) → FilesIn calls []
new_files calls file s is = absurd (none-some s (sym (none_served (file.0 == 0)) ∙ is))
  where
    none_served : (b : Bool) → (if b then None else slice_get {X = ServedFile} [] (file.0 - 1)) ≡ None
    none_served true = refl
    none_served false = refl

-- ---- the law

at_place : (m : MdsValue) (place : ℕ) (s : ServedFile) → slice_get m.files place ≡ Some s → served m (numbered (suc place)) ≡ Some s
at_place m place s is =
    let pred : suc place - 1 ≡ place = omega arith in
    ap (λ (b : Bool). if b then None else slice_get m.files (suc place - 1)) (ne_eqb (suc place) 0 (λ e. omega (arith, e))) ∙ (ap (λ (k : ℕ). slice_get m.files k) pred ∙ is)

own_stands : (m : MdsValue) (file : FileId) (s : ServedFile) → FileGood m.calls file s → (server xid : ℕ) → is_outstanding s.file server xid ≡ true → StandsTo m server xid (ForFile file)
own_stands m file s g server xid out = g.own.stand server xid (sym (outstanding_at s.file server xid s.file.activity) ∙ out)

turn_stands : (m : MdsValue) (file : FileId) (s : ServedFile) → FileGood m.calls file s → (place xid : ℕ) (r : WaitingRead) → slice_get s.reads place ≡ Some r → is_out xid r.read.stage ≡ true → (o : Option Mirror) → in_turn r.read ≡ o
    → (mirror : Mirror) × (o ≡ Some mirror) × StandsTo m mirror.id.server xid (ForRead file)
turn_stands m file s g place xid r at out None turn =
    let none : number_of r.read.stage ≡ None = all_got (λ (x : WaitingRead). TurnSo x.read) s.reads place r g.turns at turn in
    absurd (not_both (sym out ∙ (out_number xid r.read.stage ∙ ap (is_number xid) none)))
turn_stands m file s g place xid r at out (Some mirror) turn =
    let its : is_at mirror.id.server xid (read_spot r) ≡ true =
    and_true (server_of (in_turn r.read) == mirror.id.server) (is_number xid (number_of r.read.stage)) (eq-eqb (server_of (in_turn r.read)) mirror.id.server (ap server_of turn)) (sym (out_number xid r.read.stage) ∙ out) in
    (mirror, refl, g.reads.stand mirror.id.server xid (got_at mirror.id.server xid (read_spots s.reads) place (read_spot r) (map_get read_spot s.reads place r at) its))

write_stands : (m : MdsValue) (file : FileId) (s : ServedFile) → FileGood m.calls file s → (w : WaitingWrite) → s.write ≡ Some w → (server xid : ℕ) → list_any (is_called_at server xid) w.writer.mirrors ≡ true
    → StandsTo m server xid (ForWrite file)
write_stands m file s g w waits server xid out = g.write.stand server xid (ap (λ (o : Option WaitingWrite). has_at server xid (write_spots o)) waits ∙ (sym (called_at server xid w.writer.mirrors) ∙ out))

pub calls_stand : (servers : List AddressValue) (mirrors : ℕ) (events : List MdsEvent) → has_fresh (mds_run servers mirrors events).mds.fresh ≡ true → CallsStand (mds_run servers mirrors events).mds
calls_stand servers mirrors events fresh =
    let m : MdsValue = (mds_run servers mirrors events).mds in
    let j : Standing m (mds_run servers mirrors events).entries (mds_run servers mirrors events).sends = in_each_run Standing AnyCompound standing_whole (new_mds servers mirrors) events (new_table, λ any. new_files []) in
    let good : (place : ℕ) (s : ServedFile) → slice_get m.files place ≡ Some s → FileGood m.calls (numbered (suc place)) s = λ place s is. j.1 fresh (numbered (suc place)) s (at_place m place s is) in
    record {
      files = λ place s is. own_stands m (numbered (suc place)) s (good place s is);
      reads = λ place s is at xid r there out. turn_stands m (numbered (suc place)) s (good place s is) at xid r there out (in_turn r.read) refl;
      writes = λ place s is. write_stands m (numbered (suc place)) s (good place s is);
    }
