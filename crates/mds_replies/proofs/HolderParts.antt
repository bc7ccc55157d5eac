-- What is kept in each of the cases is kept in each part of the walk.
use Rattle.std.proofs.Common.{◌≡◌, ◌≤◌, ℕ, ◌+◌, Bool, true, false, cond, List, [], ◌∷◌, ◌++◌, length, Option, Some, refl, sym, ap, subst, ◌∙◌, inl, inr}
use Rattle.std.specs.Prelude.{not, drop, nat_eq, remove, slice_get, if◌then◌else◌}
use Rattle.std.specs.Map.{remove_entry}
use Rattle.std.proofs.lemmas.List.{append-nil}
use Rattle.std.proofs.lemmas.Option.{same_Some, none-some}
use Rattle.cluster_model.specs.declared.ids.NodeId.{NodeId}
use Rattle.cluster_model.specs.declared.limits.TheConstants.{MAX_FILE, PIECE_SIZE}
use Rattle.cluster_model.specs.declared.ids.NodeId.TheVariants.{Mds, Server, Client}
use Rattle.cluster_model.specs.declared.ids.FileId.{FileId}
use Rattle.cluster_model.specs.declared.entry.Entry.{Entry}
use Rattle.cluster_model.specs.declared.entry.Entry.TheVariants as entry
use Rattle.cluster_model.specs.declared.layout_state.LayoutPhase.TheVariants.{Free}
use Rattle.cluster_model.specs.DsCalls.{DsReplyValue}
use Rattle.cluster_model.specs.Members.{IsOneOf}
use Rattle.cluster_model.specs.Phases.{holder_of}
use Rattle.file_rule.specs.MdsFiles.{FileStep}
use Rattle.file_rule.specs.FilePhases.{FileInput, AsksLayout, OwnWrite, Recall as ToRecall, Returns, Revokes, OwnEnds, Resilver, Answers as IsAnswer, TimesOut, Ticks, Sees, phase, are_spent}
use Rattle.layout_state.specs.Grants.{is_held}
use Rattle.mds_io.specs.declared.read_end.ReadEnd.{ReadEnd}
use Rattle.mds_io.specs.Reads.{ReadState}
use Rattle.mds_io.specs.Reads as read
use Rattle.mds_io.specs.OwnWrites.{after_own_reply}
use Rattle.mirror_writer.specs.Writers.{WriterAfter}
use Rattle.mirror_writer.specs.Writers as writer
use Rattle.nfs4_session.specs.Bindings.{back_call}
use Rattle.nfs4_types.specs.Stateids.{layout_stateid_of}
use Rattle.nfs4_types.specs.declared.status.Stat4.TheVariants as stat
use Rattle.open_state.specs.Opens.{opened, closed}
use Rattle.recall.specs.declared.recall.Recall.{Recall}
use Rattle.recall.specs.Recalls.{new_recall, with_recall, after_reply, after_timeout, after_tick}
use Rattle.mds_rule.specs.MdsStates.{CompoundRun, WaitingRead, WaitingWrite, ServedFile, MdsSend, CallsBack, AwaitedCall, MdsValue, MdsStep, sends_none, is_call_to, confirmed_node, served, with_served, with_size}
use Rattle.mds_rule.specs.declared.waiter.Waiter.TheVariants.{ForRecall}
use Rattle.mds_rule.specs.OpSteps.{refused_as}
use Rattle.mds_rule.specs.ServedFiles.{has_fresh, file_behind, file_stepped, input_at, takes_input, forgotten}
use Rattle.mds_rule.specs.FileOps.{with_read, with_write, write_result}
use Rattle.mds_rule.specs.LayoutOps.{with_holder, client_number, is_granted}
use Rattle.mds_rule.specs.Answers.{is_awaited, failed_entries, read_result, without_read, write_stepped, own_answer, recall_end}
use Rattle.mds_rule.specs.Goes.{calls_as, stateid_seqid}
use Rattle.mds_walk.proofs.Parts.{Becomes, Enters, HeardOf, comes_unasked, with_read_at, end_entry, without_write, heard_by, Parts, RunParts, Resumes, HearsOdd, Calls, OutParts}
use Rattle.mds_walk.proofs.Keeping.{enters_then, enters_becomes, becomes_keeps}
use Rattle.mds_walk.proofs.Lists.{found_in, got_in}
use Rattle.mds_walk.proofs.Served.{served_again, stepped_there}
use Rattle.mds_laws.proofs.Keeping.{IsWriterOf, old_write}
use Rattle.mds_laws.proofs.EachParts.{end_noted, found_number, failures_noted}
use Rattle.mds_laws.proofs.OwnWriters.{StaysWriter}
use Rattle.mds_laws.proofs.WriterKept.{answer_kept, timeout_kept, sends_of, read_of}
use Rattle.mds_replies.proofs.HolderCases.{NoneNew, Cases, RunCases, WaitCases, OutCases, out_of, is_plain_input}
use Rattle.mds_replies.proofs.LegibleResults.{as_it_is, read_legible, write_legible}
use Rattle.mds_replies.proofs.WaitingCompounds.{reads_push, reads_set, reads_without, set_same}

-- who is forgotten was there
still_confirmed : (client : ℕ) (confirmed : List (ℕ × NodeId)) → NoneNew confirmed (remove_entry (nat_eq client) confirmed)
still_confirmed client [] p inside = absurd inside
still_confirmed client (q ∷ confirmed) p inside = by_test (nat_eq client q.0) inside (still_confirmed client confirmed p)
  where
    by_test : (b : Bool) → IsOneOf p (cond b confirmed (q ∷ remove_entry (nat_eq client) confirmed)) → (IsOneOf p (remove_entry (nat_eq client) confirmed) → IsOneOf p confirmed) → IsOneOf p (q ∷ confirmed)
    by_test true its rest = inr its
    by_test false (inl is) rest = inl is
    by_test false (inr its) rest = inr (rest its)

unasked_plain : (input : FileInput) → comes_unasked input ≡ true → is_plain_input input ≡ true
unasked_plain (AsksLayout client) is = refl
unasked_plain (OwnWrite at bytes) is = refl
unasked_plain ToRecall is = refl
unasked_plain (Returns client claimed places) is = absurd cc
unasked_plain (Revokes cause) is = refl
unasked_plain (OwnEnds causes at bytes) is = absurd cc
unasked_plain Resilver is = refl
unasked_plain (IsAnswer xid reply) is = absurd cc
unasked_plain (TimesOut xid) is = absurd cc
unasked_plain Ticks is = refl
unasked_plain (Sees id seen) is = absurd cc

-- an input of a file that is served, where something may be drawn, and where nothing may
taken : (m : MdsValue) (file : FileId) (s : ServedFile) (input : FileInput) → served m file ≡ Some s → has_fresh m.fresh ≡ true → takes_input m file input ≡ file_stepped m file s (phase file s.file input m.fresh)
taken m file s input there fresh =
    ap (λ (o : Option ServedFile). input_at m file input o) there ∙ ap (λ (b : Bool). if b then file_stepped m file s (phase file s.file input m.fresh) else sends_none m) fresh

not_taken : (m : MdsValue) (file : FileId) (s : ServedFile) (input : FileInput) → served m file ≡ Some s → has_fresh m.fresh ≡ false → takes_input m file input ≡ sends_none m
not_taken m file s input there spent =
    ap (λ (o : Option ServedFile). input_at m file input o) there ∙ ap (λ (b : Bool). if b then file_stepped m file s (phase file s.file input m.fresh) else sends_none m) spent

-- a file that is free is granted to nobody
free_ungranted : (m : MdsValue) (file : FileId) (s : ServedFile) → served m file ≡ Some s → s.file.layout.phase ≡ Free → is_granted (served m file) ≡ false
free_ungranted m file s there free = ap is_granted there ∙ ap is_held free

-- ---- what goes out

module _ (I : MdsValue → List Entry → List MdsSend → Type 0) (k : OutCases I) where
  pub out_parts : OutParts I
  out_parts = record {
    calls_file = λ m file s c there has idle its. k.calls_file m file s c there has its;
    calls_write = λ m file s w c there has waits its. k.calls_write m file s w c there has waits its (sends_of w.writer m.next_xid c its).2;
    calls_read = λ m file s place r c there has at its.
        k.calls_read m file s (with_read_at s place r c.read) c.id.server c.call there has refl refl refl (old_write s.file s.write) (set_same s.reads place r (record { compound = r.compound; read = c.read }) at refl) refl
        (read_of r.read m.next_xid c its).0 (read_of r.read m.next_xid c its).1;
    calls_back = λ m sent session has its.
        let n : MdsValue = record m { recalls = sent.recalls } in
        let back = back_call sent.call.client session in
        let stateid = layout_stateid_of sent.call.file.0 sent.call.cred.0 (stateid_seqid (served m sent.call.file)) in
        becomes_keeps I m n (calls_as n back.node ForRecall (CallsBack m.next_xid back sent.call.file stateid)) (k.recalled m sent.recalls) (k.calls_back n back.node back sent.call.file stateid has);
    skips = λ m sent has its es ss i. k.skips (record m { recalls = sent.recalls }) has es ss (k.recalled m sent.recalls es ss i);
    back = k.back;
    repeats = λ m server xid call found es ss i. k.again m call.sent es ss i (k.was m es ss i call (found_in (is_call_to (Server server) xid) m.calls call found));
  }

-- ---- where compounds are run, and how one goes on

pub case_runs : (I : MdsValue → List Entry → List MdsSend → Type 0) (W : CompoundRun → Type 0) → RunCases I W → RunParts I
case_runs I W r = record {
  confirmed = r.confirms;
  destroys = r.destroys;
  returns = λ m file s errors. r.returns m file s (client_number (holder_of s.file.layout.phase)) s.file.layout.cred errors;
  replies = r.replies;
  finishes = r.finishes;
}

pub case_resumes : (I : MdsValue → List Entry → List MdsSend → Type 0) (W : CompoundRun → Type 0) → WaitCases I W → Resumes I W
case_resumes I W g = record {
  has_read = λ now m c eof bytes few its. g.done now m c (read_result eof bytes) (read_legible eof bytes few) its;
  has_written = λ now m c count its. g.done now m c (write_result count) (write_legible count) its;
  read_failed = λ now m c its. g.failed now m c 25 (as_it_is (refused_as 25 stat.Io) refl) its;
  write_failed = λ now m c its. g.failed now m c 38 (as_it_is (refused_as 38 stat.Io) refl) its;
}

-- ---- what the taking of an event does, and what becomes of the calls

module _ (I : MdsValue → List Entry → List MdsSend → Type 0) (Heard : HeardOf) (W : CompoundRun → Type 0) (k : Cases I Heard W) where
  recalled : (m : MdsValue) (recalls : List Recall) → Becomes I m (record m { recalls = recalls })
  recalled m recalls = k.quiet m m.confirmed m.opens m.reclaimed recalls (λ p inside. inside)

  -- a file with one READ changed, or without it
  read_set : (m : MdsValue) (file : FileId) (s : ServedFile) (place : ℕ) (r : WaitingRead) (after : ReadState) → served m file ≡ Some s → slice_get s.reads place ≡ Some r → Becomes I m (with_served m file (with_read_at s place r after))
  read_set m file s place r after there at =
      k.puts m file s (with_read_at s place r after) there refl refl refl (old_write s.file s.write)
      (λ a. record { reads_so = reads_set W s.reads place (record { compound = r.compound; read = after }) a.reads_so (a.reads_so r (got_in s.reads place r at)); write_so = a.write_so })

  read_out : (m : MdsValue) (file : FileId) (s : ServedFile) (place : ℕ) → served m file ≡ Some s → Becomes I m (without_read m file s place)
  read_out m file s place there =
      k.puts m file s (record s { reads = remove s.reads place }) there refl refl refl (old_write s.file s.write) (λ a. record { reads_so = reads_without W s.reads place a.reads_so; write_so = a.write_so })

  read_steps : (m : MdsValue) (file : FileId) (s : ServedFile) (place : ℕ) (r : WaitingRead) (after : ReadState) → served m file ≡ Some s → slice_get s.reads place ≡ Some r
      → Enters I m (with_served m file (with_read_at s place r after)) (failed_entries r.read after)
  read_steps m file s place r after there at =
      enters_becomes I m m (with_served m file (with_read_at s place r after)) (failed_entries r.read after) (failures_noted I k.notes m (drop (length r.read.failures) after.failures)) (read_set m file s place r after there at)

  read_ended : (m : MdsValue) (file : FileId) (s : ServedFile) (place : ℕ) (old new : ReadState) (e : ReadEnd) → served m file ≡ Some s → Enters I m (without_read m file s place) (failed_entries old new ++ end_entry file e ∷ [])
  read_ended m file s place old new e there =
      enters_then I m m (without_read m file s place) (failed_entries old new) (end_entry file e ∷ []) (failures_noted I k.notes m (drop (length old.failures) new.failures))
      (enters_becomes I m m (without_read m file s place) (end_entry file e ∷ []) (k.notes m (end_entry file e) (end_noted file e)) (read_out m file s place there))

  -- one with an own write that has begun, has gone a step, or is over
  write_begun : (m : MdsValue) (file : FileId) (s : ServedFile) (c : CompoundRun) (at : ℕ) (bytes : List ℕ) → W c → served m file ≡ Some s → length bytes ≤ PIECE_SIZE → at + length bytes ≤ MAX_FILE
      → Becomes I m (with_served m file (with_write c at bytes s))
  write_begun m file s c at bytes its there few within =
      k.puts m file s (with_write c at bytes s) there refl refl refl (inl (record { at = at; bytes = bytes; is = refl; few = few; within = within }))
      (λ a. record { reads_so = a.reads_so; write_so = λ w same. subst (λ (x : WaitingWrite). W x.compound) (same_Some _ w same) its })

  write_set : (m : MdsValue) (file : FileId) (s : ServedFile) (w : WaitingWrite) (a : WriterAfter) → StaysWriter w.writer a.writer → served m file ≡ Some s → s.write ≡ Some w
      → Becomes I m (with_served m file (record s { write = Some (write_stepped w a) }))
  write_set m file s w a kept there waits =
      k.puts m file s (record s { write = Some (write_stepped w a) }) there refl refl refl (inr (subst (λ (o : Option WaitingWrite). IsWriterOf a.writer o) (sym waits) kept))
      (λ all. record { reads_so = all.reads_so; write_so = λ x one. subst (λ (y : WaitingWrite). W y.compound) (same_Some (write_stepped w a) x one) (all.write_so w waits) })

  write_out : (m : MdsValue) (file : FileId) (s : ServedFile) → served m file ≡ Some s → Becomes I m (with_served m file (without_write s))
  write_out m file s there = k.puts m file s (without_write s) there refl refl refl tt (λ a. record { reads_so = a.reads_so; write_so = λ y none. absurd (none-some y none) })

  -- one that is granted
  granted : (m : MdsValue) (file : FileId) (s : ServedFile) (client n : ℕ) (x : MdsStep) (t : ServedFile) → confirmed_node m client ≡ Some (Client n) → served m file ≡ Some s → s.file.layout.phase ≡ Free → are_spent m.fresh ≡ false
      → takes_input m file (AsksLayout n) ≡ x → served x.mds file ≡ Some t → Enters I m (with_served x.mds file (with_holder client false t)) x.entries
  granted m file s client n x t from there free left is at =
      subst (λ (y : MdsStep). Enters I m (with_served y.mds file (with_holder client false t)) y.entries) is
      (k.grants m file n client t from (free_ungranted m file s there free)
      (λ y its. (subst (λ (z : ServedFile). z.file.layout.phase ≡ Free) (same_Some s y (sym there ∙ its)) free, left)) (ap (λ (y : MdsStep). served y.mds file) is ∙ at))

  pub case_parts : Parts I Heard W
  case_parts = record {
    wait = k.wait;
    opens = λ m client file. k.quiet m m.confirmed (opened m.opens client file) m.reclaimed m.recalls (λ p inside. inside);
    closes = λ m client file. k.quiet m m.confirmed (closed m.opens client file) m.reclaimed m.recalls (λ p inside. inside);
    reclaims = λ m client. k.quiet m m.confirmed m.opens (m.reclaimed ++ client ∷ []) m.recalls (λ p inside. inside);
    gone = λ m client. k.quiet m (forgotten client m).confirmed (forgotten client m).opens (forgotten client m).reclaimed m.recalls (still_confirmed client m.confirmed);
    tables = k.tables;
    asks_recall = λ m file s n is_recalled client now there held off. recalled m (with_recall (new_recall file s.file.layout.cred client now) m.recalls);
    times_recall = λ m xid out. recalled m (after_timeout m.recalls xid).recalls;
    ticks_recalls = λ m now. recalled m (after_tick m.recalls now).recalls;
    later = λ m file p. k.notes m (entry.Later file p) refl;
    sizes = λ m file s server fileid size there.
        k.puts m file s (record s { sizes = with_size (record { server = server; fileid = fileid }) size s.sizes }) there refl refl refl (old_write s.file s.write) (λ a. a);
    gives_again = k.again_to;
    grants = λ m file s client n from there free left fresh.
        let step : FileStep = phase file s.file (AsksLayout n) m.fresh in
        granted m file s client n (file_stepped m file s step) (file_behind s step) from there free left (taken m file s (AsksLayout n) there fresh) (stepped_there m file s step there);
    grants_alone = λ m file s client n from there free left spent es ss i.
        subst (λ (l : List Entry). I (with_served m file (with_holder client false s)) l ss) (append-nil es)
        (granted m file s client n (sends_none m) s from there free left (not_taken m file s (AsksLayout n) there spent) there es ss i);
    inputs = λ m file s input unasked. k.inputs m file s input (unasked_plain input unasked);
    timeouts = λ m file s node xid out. k.timeouts m file s xid;
    learns = k.learns;
    begins_read = λ m file s c at count its there.
        k.puts m file s (with_read c at count s) there refl refl refl (old_write s.file s.write) (λ a. record { reads_so = reads_push W s.reads _ a.reads_so its; write_so = a.write_so });
    times_read = λ m file s xid place r at on. read_steps m file s place r (read.after_timeout r.read xid).read at.there at.at;
    loses_read = λ m file s xid place r e at over. read_ended m file s place r.read (read.after_timeout r.read xid).read e at.there;
    begins_write = λ m file s c at bytes its there can fresh.
        let step : FileStep = phase file s.file (OwnWrite at bytes) m.fresh in
        let t : ServedFile = file_behind s step in
        let n : MdsValue = (file_stepped m file s step).mds in
        enters_becomes I m n (with_served n file (with_write c at bytes t)) step.entries (k.inputs m file s (OwnWrite at bytes) refl there fresh)
        (write_begun n file t c at bytes its (stepped_there m file s step there) can.few can.within);
    begins_alone = λ m file s c at bytes its there can spent. write_begun m file s c at bytes its there can.few can.within;
    times_write = λ m file s w xid there waits out. write_set m file s w (writer.after_timeout w.writer xid) (timeout_kept w.writer xid) there waits;
    ends_write = λ m file s w places there waits over fresh es ss i.
        k.own_ends (with_served m file (without_write s)) file (without_write s) w.failures w.at w.bytes (served_again m file s (without_write s) there) fresh es ss (write_out m file s there es ss i);
    drops_write = λ m file s w places there waits over spent. write_out m file s there;
    makes = k.makes;
  }

  left : (node : NodeId) (xid : ℕ) (m : MdsValue) → Becomes I m (heard_by node xid m)
  left node xid m = k.forgets m (λ (c : AwaitedCall). not (is_call_to node xid c))

  recall_heard : (node : NodeId) (xid status : ℕ) (m : MdsValue) → Becomes I m (record (heard_by node xid m) { recalls = (after_reply m.recalls xid (recall_end status)).recalls })
  recall_heard node xid status m es ss i = recalled (heard_by node xid m) (after_reply m.recalls xid (recall_end status)).recalls es ss (left node xid m es ss i)

  odd : HearsOdd I
  odd = record { leaves = λ m node xid. left node xid m; recalled = λ m node xid status. recall_heard node xid status m }

  pub case_calls : Calls I Heard
  case_calls = record {
    fits = λ m es ss i call inside. inr odd;
    hears = λ m node xid file s call c replies heard its there out fresh es ss i.
        let n : MdsValue = heard_by node xid m in
        let answer : DsReplyValue = own_answer c (replies c) in
        subst (λ (x : ℕ). Enters I n (file_stepped n file s (phase file s.file (IsAnswer x answer) m.fresh)).mds (phase file s.file (IsAnswer x answer) m.fresh).entries) (found_number node xid m.calls call its.found)
        (k.hears n file s call its.server its.own its.uid c replies heard its.waits its.sent out there fresh) es ss (left node xid m es ss i);
    unheard = λ m node xid file s call c its there spent. left node xid m;
    hears_read = λ m node xid file s call c replies place r heard its at on es ss i. read_steps (heard_by node xid m) file s place r (read.after_reply r.read xid (replies c)).read at.there at.at es ss (left node xid m es ss i);
    ends_read = λ m node xid file s call c replies place r e heard its at over es ss i. read_ended (heard_by node xid m) file s place r.read (read.after_reply r.read xid (replies c)).read e at.there es ss (left node xid m es ss i);
    hears_write = λ m node xid file s w call c replies heard its there waits out es ss i.
        write_set (heard_by node xid m) file s w (after_own_reply w.writer xid (replies c)) (answer_kept w.writer xid (replies c)) there waits es ss (left node xid m es ss i);
    hears_recall = λ m node xid status call found its out. recall_heard node xid status m;
    leaves = λ m node xid call inside its off. left node xid m;
    forgets = λ m. k.forgets m (is_awaited m);
    late = λ m call inside is. k.notes m (entry.TimedOut Mds call.xid) refl;
    again = λ m call inside is es ss i. k.again m call.sent es ss i (k.was m es ss i call inside);
  }

  pub case_outs : OutParts I
  case_outs = out_parts I (out_of I Heard W k)
