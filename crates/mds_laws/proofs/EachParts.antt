-- What is kept in each of the closer cases is kept in each part of the walk.
use Rattle.std.proofs.Common.{◌≡◌, ℕ, true, false, List, [], ◌∷◌, ◌++◌, length, Some, refl, subst, inr}
use Rattle.std.specs.Prelude.{◌==◌, ◌&&◌, not, map, drop, remove}
use Rattle.std.specs.List.{find}
use Rattle.std.proofs.lemmas.Bool.{and_parts, eqb-true}
use Rattle.std.proofs.lemmas.List.{append_assoc}
use Rattle.compound_reply.specs.Replied.{success_reply}
use Rattle.cluster_model.specs.declared.ids.NodeId.{NodeId}
use Rattle.cluster_model.specs.declared.ids.NodeId.TheVariants.{Mds, Server}
use Rattle.cluster_model.specs.declared.ids.FileId.{FileId}
use Rattle.cluster_model.specs.declared.entry.Entry.{Entry}
use Rattle.cluster_model.specs.declared.entry.Entry.TheVariants as entry
use Rattle.cluster_model.specs.DsCalls.{DsReplyValue}
use Rattle.cluster_model.specs.Nodes.{is_node}
use Rattle.cluster_model.specs.Phases.{holder_of}
use Rattle.file_rule.specs.MdsFiles.{FileStep}
use Rattle.file_rule.specs.FilePhases.{FileInput, AsksLayout, OwnWrite, Recall as ToRecall, Returns, Revokes, OwnEnds, Resilver, Answers as IsAnswer, TimesOut, Ticks, Sees, phase}
use Rattle.layout_report.specs.Reports.{report_of}
use Rattle.mds_io.specs.declared.read_end.Failure.{Failure}
use Rattle.mds_io.specs.declared.read_end.ReadEnd.{ReadEnd}
use Rattle.mds_io.specs.declared.read_end.ReadEnd.TheVariants as end
use Rattle.mds_io.specs.Reads.{ReadState}
use Rattle.mds_io.specs.Reads as read
use Rattle.mds_io.specs.OwnWrites.{after_own_reply}
use Rattle.nfs4_session.specs.Bindings.{back_call}
use Rattle.nfs4_session.specs.TableLaw.{FinishRequest, CallBack, DestroySession}
use Rattle.nfs4_types.specs.Stateids.{layout_stateid_of}
use Rattle.open_state.specs.Opens.{opened, closed}
use Rattle.recall.specs.declared.recall.Recall.{Recall}
use Rattle.recall.specs.Recalls.{new_recall, with_recall, after_reply, after_timeout, after_tick}
use Rattle.mds_rule.specs.MdsStates.{ServedFile, MdsSend, CallsBack, AwaitedCall, MdsValue, is_call_to, served, with_served, with_size}
use Rattle.mds_rule.specs.declared.waiter.Waiter.TheVariants.{ForRecall}
use Rattle.mds_rule.specs.ServedFiles.{file_behind, file_stepped, forgotten}
use Rattle.mds_rule.specs.SessionOps.{confirmed_by}
use Rattle.mds_rule.specs.FileOps.{with_read}
use Rattle.mds_rule.specs.LayoutOps.{with_holder, client_number}
use Rattle.mds_rule.specs.Answers.{is_awaited, failed_entry, failed_entries, without_read, write_stepped, own_answer, recall_end}
use Rattle.mds_rule.specs.Goes.{calls_as, stateid_seqid}
use Rattle.mds_walk.proofs.Parts.{Becomes, Enters, HeardOf, AnyCompound, any_wait, comes_unasked, with_read_at, end_entry, heard_by, Parts, RunParts, HearsOdd, Calls, OutParts, EventParts, KeepsBegin}
use Rattle.mds_walk.proofs.Keeping.{stays, enters_then, enters_becomes, becomes_keeps}
use Rattle.mds_walk.proofs.Lists.{found_in, found_passes}
use Rattle.mds_walk.proofs.Served.{stepped_there}
use Rattle.mds_laws.proofs.Keeping.{is_note, comes_by_itself, plain_no_request}
use Rattle.mds_laws.proofs.EachCases.{EachCase, is_own_input}
use Rattle.mds_laws.proofs.WriterKept.{sends_of, read_of}

unasked_comes : (input : FileInput) → comes_unasked input ≡ true → comes_by_itself input ≡ true
unasked_comes (AsksLayout client) is = refl
unasked_comes (OwnWrite at bytes) is = refl
unasked_comes ToRecall is = refl
unasked_comes (Returns client claimed places) is = refl
unasked_comes (Revokes cause) is = refl
unasked_comes (OwnEnds causes at bytes) is = refl
unasked_comes Resilver is = refl
unasked_comes (IsAnswer xid reply) is = absurd cc
unasked_comes (TimesOut xid) is = absurd cc
unasked_comes Ticks is = refl
unasked_comes (Sees id seen) is = absurd cc

unasked_other : (input : FileInput) → comes_unasked input ≡ true → is_own_input input ≡ false
unasked_other (AsksLayout client) is = refl
unasked_other (OwnWrite at bytes) is = absurd cc
unasked_other ToRecall is = refl
unasked_other (Returns client claimed places) is = refl
unasked_other (Revokes cause) is = refl
unasked_other (OwnEnds causes at bytes) is = absurd cc
unasked_other Resilver is = refl
unasked_other (IsAnswer xid reply) is = refl
unasked_other (TimesOut xid) is = refl
unasked_other Ticks is = refl
unasked_other (Sees id seen) is = refl

pub end_noted : (file : FileId) (e : ReadEnd) → is_note (end_entry file e) ≡ true
end_noted file (end.Bytes eof bytes) = refl
end_noted file (end.AllFailed failures) = refl

-- the number under which a call was found is its own
pub found_number : (node : NodeId) (xid : ℕ) (calls : List AwaitedCall) (call : AwaitedCall) → find (is_call_to node xid) calls ≡ Some call → call.xid ≡ xid
found_number node xid calls call found = eqb-true call.xid xid (and_parts (is_node call.node node) (call.xid == xid) (found_passes (is_call_to node xid) calls call found)).1

-- failures of a READ are noted
pub failures_noted : (I : MdsValue → List Entry → List MdsSend → Type 0) → ((n : MdsValue) (e : Entry) → is_note e ≡ true → Enters I n n (e ∷ [])) → (m : MdsValue) (failures : List Failure) → Enters I m m (map failed_entry failures)
failures_noted I notes m [] = stays I m
failures_noted I notes m (f ∷ failures) =
    λ es ss i. subst (λ (l : List Entry). I m l ss) (append_assoc es (failed_entry f ∷ []) (map failed_entry failures)) (failures_noted I notes m failures (es ++ failed_entry f ∷ []) ss (notes m (failed_entry f) refl es ss i))

module _ (I : MdsValue → List Entry → List MdsSend → Type 0) (Heard : HeardOf) (k : EachCase I Heard) where
  recalled : (m : MdsValue) (recalls : List Recall) → Becomes I m (record m { recalls = recalls })
  recalled m recalls = k.quiet m m.confirmed m.opens m.reclaimed recalls

  -- what an answer or a timeout leaves of a READ
  read_put : (m : MdsValue) (file : FileId) (s t : ServedFile) (old new : ReadState) → Becomes I m (with_served m file t) → Enters I m (with_served m file t) (failed_entries old new)
  read_put m file s t old new b = enters_becomes I m m (with_served m file t) (failed_entries old new) (failures_noted I k.notes m (drop (length old.failures) new.failures)) b

  read_gone : (m : MdsValue) (file : FileId) (s : ServedFile) (place : ℕ) (old new : ReadState) (e : ReadEnd) → Becomes I m (without_read m file s place) → Enters I m (without_read m file s place) (failed_entries old new ++ end_entry file e ∷ [])
  read_gone m file s place old new e b =
      enters_then I m m (without_read m file s place) (failed_entries old new) (end_entry file e ∷ []) (failures_noted I k.notes m (drop (length old.failures) new.failures))
      (enters_becomes I m m (without_read m file s place) (end_entry file e ∷ []) (k.notes m (end_entry file e) (end_noted file e)) b)

  pub each_parts : Parts I Heard AnyCompound
  each_parts = record {
    wait = λ m es ss i file s there. any_wait s.reads s.write;
    opens = λ m client file. k.quiet m m.confirmed (opened m.opens client file) m.reclaimed m.recalls;
    closes = λ m client file. k.quiet m m.confirmed (closed m.opens client file) m.reclaimed m.recalls;
    reclaims = λ m client. k.quiet m m.confirmed m.opens (m.reclaimed ++ client ∷ []) m.recalls;
    gone = λ m client. k.quiet m (forgotten client m).confirmed (forgotten client m).opens (forgotten client m).reclaimed m.recalls;
    tables = λ m move plain. k.tables m move (plain_no_request move plain);
    asks_recall = λ m file s n is_recalled client now there held off. recalled m (with_recall (new_recall file s.file.layout.cred client now) m.recalls);
    times_recall = λ m xid out. recalled m (after_timeout m.recalls xid).recalls;
    ticks_recalls = λ m now. recalled m (after_tick m.recalls now).recalls;
    later = λ m file p. k.notes m (entry.Later file p) refl;
    sizes = λ m file s server fileid size there. k.puts m file s (record s { sizes = with_size (record { server = server; fileid = fileid }) size s.sizes }) there refl refl refl;
    gives_again = λ m file s client there its. k.holds m file s client true there;
    grants = λ m file s client n from there free left fresh.
        let step : FileStep = phase file s.file (AsksLayout n) m.fresh in
        let x : MdsValue = (file_stepped m file s step).mds in
        enters_becomes I m x (with_served x file (with_holder client false (file_behind s step))) step.entries (k.inputs m file s (AsksLayout n) refl refl there fresh)
        (k.holds x file (file_behind s step) client false (stepped_there m file s step there));
    grants_alone = λ m file s client n from there free left spent. k.holds m file s client false there;
    inputs = λ m file s input unasked. k.inputs m file s input (unasked_comes input unasked) (unasked_other input unasked);
    timeouts = λ m file s node xid out. k.timeouts m file s xid;
    learns = k.learns;
    begins_read = λ m file s c at count any there. k.puts m file s (with_read c at count s) there refl refl refl;
    times_read = λ m file s xid place r at on.
        let after : ReadState = (read.after_timeout r.read xid).read in read_put m file s (with_read_at s place r after) r.read after (k.puts m file s (with_read_at s place r after) at.there refl refl refl);
    loses_read = λ m file s xid place r e at over. read_gone m file s place r.read (read.after_timeout r.read xid).read e (k.puts m file s (record s { reads = remove s.reads place }) at.there refl refl refl);
    begins_write = λ m file s c at bytes any there can fresh. k.begins_write m file s c at bytes there can fresh;
    begins_alone = λ m file s c at bytes any there can spent. k.begins_alone m file s c at bytes there can spent;
    times_write = λ m file s w xid there waits out. k.times_write m file s w xid there waits;
    ends_write = k.ends_write;
    drops_write = k.drops_write;
    makes = k.makes;
  }

  pub each_runs : RunParts I
  each_runs = record {
    confirmed = λ m client node. k.quiet m (confirmed_by client node m.confirmed) m.opens m.reclaimed m.recalls;
    destroys = λ m session. k.tables m (DestroySession session) tt;
    returns = λ m file s errors. k.inputs m file s (Returns (client_number (holder_of s.file.layout.phase)) s.file.layout.cred (report_of errors s.file.layout.live)) refl refl;
    replies = λ m node xid bytes. k.replies m node (success_reply xid bytes);
    finishes = λ m pass bytes. k.tables m (FinishRequest pass bytes) tt;
  }

  left : (node : NodeId) (xid : ℕ) (m : MdsValue) → Becomes I m (heard_by node xid m)
  left node xid m = k.forgets m (λ (c : AwaitedCall). not (is_call_to node xid c))

  recall_heard : (node : NodeId) (xid status : ℕ) (m : MdsValue) → Becomes I m (record (heard_by node xid m) { recalls = (after_reply m.recalls xid (recall_end status)).recalls })
  recall_heard node xid status m es ss i = recalled (heard_by node xid m) (after_reply m.recalls xid (recall_end status)).recalls es ss (left node xid m es ss i)

  odd : HearsOdd I
  odd = record { leaves = λ m node xid. left node xid m; recalled = λ m node xid status. recall_heard node xid status m }

  pub each_calls : Calls I Heard
  each_calls = record {
    fits = λ m es ss i call inside. inr odd;
    hears = λ m node xid file s call c replies heard its there out fresh es ss i.
        let n : MdsValue = heard_by node xid m in
        let answer : DsReplyValue = own_answer c (replies c) in
        subst (λ (x : ℕ). Enters I n (file_stepped n file s (phase file s.file (IsAnswer x answer) m.fresh)).mds (phase file s.file (IsAnswer x answer) m.fresh).entries) (found_number node xid m.calls call its.found)
        (k.hears n file s call its.server its.own its.uid c replies heard its.waits its.sent out there fresh) es ss (left node xid m es ss i);
    unheard = λ m node xid file s call c its there spent. left node xid m;
    hears_read = λ m node xid file s call c replies place r heard its at on es ss i.
        let n : MdsValue = heard_by node xid m in
        let after : ReadState = (read.after_reply r.read xid (replies c)).read in
        read_put n file s (with_read_at s place r after) r.read after (k.puts n file s (with_read_at s place r after) at.there refl refl refl) es ss (left node xid m es ss i);
    ends_read = λ m node xid file s call c replies place r e heard its at over es ss i.
        let n : MdsValue = heard_by node xid m in
        read_gone n file s place r.read (read.after_reply r.read xid (replies c)).read e (k.puts n file s (record s { reads = remove s.reads place }) at.there refl refl refl) es ss (left node xid m es ss i);
    hears_write = λ m node xid file s w call c replies heard its there waits out es ss i.
        let n : MdsValue = heard_by node xid m in
        subst (λ (x : ℕ). Becomes I n (with_served n file (record s { write = Some (write_stepped w (after_own_reply w.writer x (replies c))) }))) (found_number node xid m.calls call its.found)
        (k.answers_write n file s w call its.server its.own its.uid c replies heard its.waits its.sent there waits) es ss (left node xid m es ss i);
    hears_recall = λ m node xid status call found its out. recall_heard node xid status m;
    leaves = λ m node xid call inside its off. left node xid m;
    forgets = λ m. k.forgets m (is_awaited m);
    late = λ m call inside is. k.notes m (entry.TimedOut Mds call.xid) refl;
    again = λ m call inside is es ss i. k.again m call.sent es ss i (k.was m es ss i call inside);
  }

  pub each_outs : OutParts I
  each_outs = record {
    calls_file = λ m file s c there has idle its. k.calls_file m file s c there has its;
    calls_write = λ m file s w c there has waits its. k.calls_write m file s w c there has waits its (sends_of w.writer m.next_xid c its).2;
    calls_read = λ m file s place r c there has at its.
        k.calls_read m file s (with_read_at s place r c.read) c.id.server c.call there has refl refl refl (read_of r.read m.next_xid c its).0 (read_of r.read m.next_xid c its).1;
    calls_back = λ m sent session has its.
        let n : MdsValue = record m { recalls = sent.recalls } in
        let back = back_call sent.call.client session in
        let stateid = layout_stateid_of sent.call.file.0 sent.call.cred.0 (stateid_seqid (served m sent.call.file)) in
        becomes_keeps I m n (calls_as n back.node ForRecall (CallsBack m.next_xid back sent.call.file stateid)) (recalled m sent.recalls) (k.calls_back n back.node back sent.call.file stateid has);
    skips = λ m sent has its es ss i. k.skips (record m { recalls = sent.recalls }) has es ss (recalled m sent.recalls es ss i);
    back = λ m client. k.tables m (CallBack client) tt;
    repeats = λ m server xid call found es ss i. k.again m call.sent es ss i (k.was m es ss i call (found_in (is_call_to (Server server) xid) m.calls call found));
  }

  pub each_event_part : KeepsBegin I → EventParts I Heard AnyCompound
  each_event_part begins = record { parts = each_parts; runs = each_runs; any = λ c. tt; answers = k.answers; calls = each_calls; outs = each_outs; begins = begins }
