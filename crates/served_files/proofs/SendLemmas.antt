-- Which call of a file goes out, by the part of it that sends.
use Rattle.std.proofs.Common.{◌≡◌, ℕ, zero, suc, ◌≤◌, Bool, true, false, cond, List, [], ◌∷◌, length, set, Option, Some, None, Result, Ok, Err, refl, sym, ap, subst, ◌∙◌, arith}
use Rattle.std.specs.Prelude.{slice_get, is_some, is_err}
use Rattle.std.specs.Option.{option_map}
use Rattle.std.proofs.lemmas.Option.{same_Some}
use Rattle.ff_xdr.specs.declared.error.NoMemory.{NoMemory}
use Rattle.cluster_model.specs.declared.ids.FileId.{FileId}
use Rattle.cluster_model.specs.declared.ids.Mirror.{Mirror}
use Rattle.cluster_model.specs.declared.ids.MirrorId.{MirrorId}
use Rattle.cluster_model.specs.declared.limits.TheConstants.{PIECE_SIZE}
use Rattle.cluster_model.specs.Fences.{waits}
use Rattle.cluster_model.specs.DsCalls.{DsCallValue, data_in}
use Rattle.file_rule.specs.FilePhases.{CallOut, call_out}
use Rattle.file_rule.specs.MdsFiles.{MdsFile}
use Rattle.mds_activity.specs.FileCalls.{GoesFirst}
use Rattle.mds_io.specs.Reads.{ReadState, ReadSends, in_turn, sends_to}
use Rattle.mds_io.specs.Reads as read
use Rattle.mds_io.specs.Calls as read_calls
use Rattle.mirror_writer.specs.Writers.{WriterValue, WriterSends}
use Rattle.mirror_writer.specs.Writers as writer
use Rattle.mirror_writer.specs.Calls.{WaitsAt}
use Rattle.mds_rule.specs.MdsStates.{WaitingRead, WaitingWrite, ServedFile}
use Rattle.mds_rule.specs.Goes.{OwnCall, own_of_file, own_of_write, own_by}
use Rattle.mds_rule.specs.declared.waiter.Waiter.{Waiter}
use Rattle.served_files.specs.declared.sending.SentByFile.{SentByFile}
use Rattle.served_files.specs.Sending.{OwnWaits, SendsOwn, ReadWaits, read_sent, SendsReadAt, SendsFileRead, SentOfWrite, SentOfFile, SentOfRead, SendsOne, SendsAmong}

-- ---- to which server it waits

pub first_is : (out : Option CallOut) (servers : List ℕ) → GoesFirst out servers → slice_get servers 0 ≡ option_map (λ (c : CallOut). c.server) out
first_is None [] goes = refl
first_is None (n ∷ servers) goes = absurd goes
first_is (Some c) [] goes = absurd goes
first_is (Some c) (n ∷ servers) goes = ap Some (sym goes)

pub write_waits : (w : WriterValue) (xid : ℕ) (o : Option MirrorId) → WaitsAt w xid o → option_map (λ (id : MirrorId). id.server) o ≡ option_map (λ (c : WriterSends). c.id.server) (writer.next_sent w xid)
write_waits w xid None is = ap (option_map (λ (c : WriterSends). c.id.server)) (sym is)
write_waits w xid (Some id) (sent, is, same) = ap (λ (i : MirrorId). Some i.server) (sym same) ∙ ap (option_map (λ (c : WriterSends). c.id.server)) (sym is)

by_write : (file : FileId) (s : ServedFile) (xid : ℕ) (w : WaitingWrite) (o : Option WriterSends) → own_by file s xid s.write ≡ option_map (own_of_write file s w) o → OwnWaits s file xid (option_map (λ (c : WriterSends). c.id.server) o)
by_write file s xid w None is = is
by_write file s xid w (Some sent) is = (own_of_write file s w sent, is, refl)

by_file : (file : FileId) (s : ServedFile) (xid : ℕ) (o : Option CallOut) → own_by file s xid s.write ≡ option_map (own_of_file file s) o → OwnWaits s file xid (option_map (λ (c : CallOut). c.server) o)
by_file file s xid None is = is
by_file file s xid (Some out) is = (own_of_file file s out, is, refl)

pub waits_by_write : (s : ServedFile) (w : WaitingWrite) (result : Option ℕ) → s.write ≡ Some w → ((xid : ℕ) → result ≡ option_map (λ (c : WriterSends). c.id.server) (writer.next_sent w.writer xid)) → (file : FileId) (xid : ℕ) → OwnWaits s file xid result
waits_by_write s w result is said file xid = subst (OwnWaits s file xid) (sym (said xid)) (by_write file s xid w (writer.next_sent w.writer xid) (ap (own_by file s xid) is))

pub waits_by_file : (s : ServedFile) (result : Option ℕ) → s.write ≡ None → ((xid : ℕ) → result ≡ option_map (λ (c : CallOut). c.server) (call_out s.file xid)) → (file : FileId) (xid : ℕ) → OwnWaits s file xid result
waits_by_file s result is said file xid = subst (OwnWaits s file xid) (sym (said xid)) (by_file file s xid (call_out s.file xid) (ap (own_by file s xid) is))

-- ---- it goes out

abbrev own_call : ServedFile → Waiter → ℕ → ℕ → DsCallValue → OwnCall
own_call s caller server uid call = record { served = s; caller = caller; server = server; uid = uid; call = call }

same_call : (s t : ServedFile) (k l : Waiter) (m n u v : ℕ) (x y : DsCallValue) → s ≡ t → k ≡ l → m ≡ n → u ≡ v → x ≡ y → own_call s k m u x ≡ own_call t l n v y
same_call s t k l m n u v x y served caller server uid call = λ i. own_call (served i) (caller i) (server i) (uid i) (call i)

write_sent : (file : FileId) (old : ServedFile) (xid : ℕ) (w : WaitingWrite) (sent : Option WriterSends) (result : Result (Option SentByFile) NoMemory) (v : WaitingWrite) → own_by file old xid old.write ≡ option_map (own_of_write file old w) sent → old.write ≡ Some w → SentOfWrite file w sent result v → SendsOwn file old xid result (record old { write = Some v })
write_sent file old xid w sent (Err e) v out is said = refl
write_sent file old xid w None (Ok None) v out is said = (out, ap (λ (o : Option WaitingWrite). record old { write = o }) (ap Some said ∙ sym is))
write_sent file old xid w None (Ok (Some c)) v out is said = absurd said
write_sent file old xid w (Some sent) (Ok None) v out is said = absurd said
write_sent file old xid w (Some sent) (Ok (Some c)) v out is (wrote, caller, server, uid, call) =
    out ∙ ap Some (same_call _ _ _ _ _ _ _ _ _ _ (ap (λ (u : WaitingWrite). record old { write = Some u }) (sym wrote)) (sym caller) (sym server) (sym uid) (sym call))

pub sends_by_write : (file : FileId) (old : ServedFile) (xid : ℕ) (w : WaitingWrite) (result : Result (Option SentByFile) NoMemory) (v : WaitingWrite) → old.write ≡ Some w → SentOfWrite file w (writer.next_sent w.writer xid) result v → SendsOwn file old xid result (record old { write = Some v })
sends_by_write file old xid w result v is said = write_sent file old xid w (writer.next_sent w.writer xid) result v (ap (own_by file old xid) is) is said

file_sent : (file : FileId) (old : ServedFile) (xid : ℕ) (out : Option CallOut) (result : Result (Option SentByFile) NoMemory) (f : MdsFile) → own_by file old xid old.write ≡ option_map (own_of_file file old) out → SentOfFile file old.file out result f → SendsOwn file old xid result (record old { file = f })
file_sent file old xid out (Err e) f is said = refl
file_sent file old xid None (Ok None) f is said = (is, ap (λ (g : MdsFile). record old { file = g }) said)
file_sent file old xid None (Ok (Some c)) f is said = absurd said
file_sent file old xid (Some out) (Ok None) f is said = absurd said
file_sent file old xid (Some out) (Ok (Some c)) f is (went, caller, server, uid, call) =
    is ∙ ap Some (same_call _ _ _ _ _ _ _ _ _ _ (ap (λ (g : MdsFile). record old { file = g }) (sym went)) (sym caller) (sym server) (sym uid) (sym call))

pub sends_by_file : (file : FileId) (old : ServedFile) (xid : ℕ) (result : Result (Option SentByFile) NoMemory) (f : MdsFile) → old.write ≡ None → SentOfFile file old.file (call_out old.file xid) result f → SendsOwn file old xid result (record old { file = f })
sends_by_file file old xid result f is said = file_sent file old xid (call_out old.file xid) result f (ap (own_by file old xid) is) said

-- ---- reads

-- a READ has no data
few_by : (r : ReadState) (xid : ℕ) (b : Bool) (m : Option Mirror) (sent : ReadSends) → cond b (sends_to r xid m) None ≡ Some sent → length (data_in sent.call) ≤ PIECE_SIZE
few_by r xid false m sent is = absurd (cc)
few_by r xid true None sent is = absurd (cc)
few_by r xid true (Some m) sent is = subst (λ (s : ReadSends). length (data_in s.call) ≤ PIECE_SIZE) (same_Some _ sent is) (omega arith)

pub few_read : (r : ReadState) (xid : ℕ) (sent : ReadSends) → read.next_sent r xid ≡ Some sent → length (data_in sent.call) ≤ PIECE_SIZE
few_read r xid sent is = few_by r xid (waits r.stage) (in_turn r) sent is

pub read_waits : (s : ServedFile) (n xid : ℕ) (r : WaitingRead) (o : Option MirrorId) → slice_get s.reads n ≡ Some r → read_calls.WaitsAt r.read xid o → ReadWaits s n xid (option_map (λ (id : MirrorId). id.server) o)
read_waits s n xid r None is none = ap (read_sent s xid) is ∙ none
read_waits s n xid r (Some id) is (sent, next, same) = (sent, ap (read_sent s xid) is ∙ next, ap (λ (i : MirrorId). i.server) same)

sent_at : (file : FileId) (old : ServedFile) (n xid : ℕ) (r : WaitingRead) (sent : Option ReadSends) (result : Result (Option SentByFile) NoMemory) (v : WaitingRead) → read.next_sent r.read xid ≡ sent → set old.reads n r ≡ old.reads → SentOfRead file r sent result v → SendsReadAt file old n xid result (record old { reads = set old.reads n v }) (Some r)
sent_at file old n xid r sent (Err e) v next same said = refl
sent_at file old n xid r None (Ok None) v next same said = (next, ap (λ (u : WaitingRead). record old { reads = set old.reads n u }) said ∙ ap (λ (rs : List WaitingRead). record old { reads = rs }) same)
sent_at file old n xid r None (Ok (Some c)) v next same said = absurd said
sent_at file old n xid r (Some sent) (Ok None) v next same said = absurd said
sent_at file old n xid r (Some sent) (Ok (Some c)) v next same (goes, caller, server, uid, call) =
    (sent, next, ap (λ (u : WaitingRead). record old { reads = set old.reads n u }) goes, caller, server, uid, call)

-- a list with what stands at a place put there again
pub set_same : (rs : List WaitingRead) (n : ℕ) (r : WaitingRead) → slice_get rs n ≡ Some r → set rs n r ≡ rs
set_same [] n r is = absurd (cc)
set_same (q ∷ rs) zero r is = ap (λ (p : WaitingRead). p ∷ rs) (sym (same_Some q r is))
set_same (q ∷ rs) (suc n) r is = ap (λ (ps : List WaitingRead). q ∷ ps) (set_same rs n r is)

pub sends_by_read : (file : FileId) (old : ServedFile) (n xid : ℕ) (r : WaitingRead) (result : Result (Option SentByFile) NoMemory) (v : WaitingRead) → slice_get old.reads n ≡ Some r → SentOfRead file r (read.next_sent r.read xid) result v → SendsFileRead file old n xid result (record old { reads = set old.reads n v })
sends_by_read file old n xid r result v is said =
    subst (SendsReadAt file old n xid result (record old { reads = set old.reads n v })) (sym is) (sent_at file old n xid r (read.next_sent r.read xid) result v refl (set_same old.reads n r is) said)

-- ---- one among many goes out

pub never_waits : (r : ReadState) (o : Option MirrorId) → is_some o ≡ false → ((xid : ℕ) → read_calls.WaitsAt r xid o) → (xid : ℕ) → read.next_sent r xid ≡ None
never_waits r None none waits = waits
never_waits r (Some id) none waits = absurd (cc)

module _ (file : FileId) (reads : List WaitingRead) (n xid : ℕ) (r : WaitingRead) where
  -- it does not wait
  pub stays_among : slice_get reads n ≡ Some r → read.next_sent r.read xid ≡ None → SendsAmong file reads n xid (Ok None) reads
  stays_among at none = subst (SendsOne file reads n xid (Ok None) reads) (sym at) (r, subst (λ (o : Option ReadSends). SentOfRead file r o (Ok None) r) (sym none) refl, sym (set_same reads n r at))

  -- memory was wanted before
  pub fails_among : (result : Result (Option SentByFile) NoMemory) → is_err result ≡ true → slice_get reads n ≡ Some r → SendsAmong file reads n xid result reads
  fails_among (Ok sent) failed at = absurd (cc)
  fails_among (Err e) failed at = subst (SendsOne file reads n xid (Err e) reads) (sym at) (r, tt, sym (set_same reads n r at))

  pub goes_among : (result : Result (Option SentByFile) NoMemory) (v : WaitingRead) → slice_get reads n ≡ Some r → SentOfRead file r (read.next_sent r.read xid) result v → SendsAmong file reads n xid result (set reads n v)
  goes_among result v at said = subst (SendsOne file reads n xid result (set reads n v)) (sym at) (v, said, refl)

-- the file of which it is one
by_place : (file : FileId) (old : ServedFile) (n xid : ℕ) (result : Result (Option SentByFile) NoMemory) (reads : List WaitingRead) (o : Option WaitingRead) → slice_get old.reads n ≡ o → SendsOne file old.reads n xid result reads o
    → SendsFileRead file old n xid result (record old { reads = reads })
by_place file old n xid result reads None at (none, same) =
    subst (SendsReadAt file old n xid result (record old { reads = reads })) (sym at)
    (subst (λ (o : Result (Option SentByFile) NoMemory). SendsReadAt file old n xid o (record old { reads = reads }) None) (sym none) (ap (λ (rs : List WaitingRead). record old { reads = rs }) same))
by_place file old n xid result reads (Some r) at (v, said, same) =
    subst (λ (rs : List WaitingRead). SendsFileRead file old n xid result (record old { reads = rs })) (sym same) (sends_by_read file old n xid r result v at said)

pub sends_by_reads : (file : FileId) (old : ServedFile) (n xid : ℕ) (result : Result (Option SentByFile) NoMemory) (reads : List WaitingRead) → SendsAmong file old.reads n xid result reads → SendsFileRead file old n xid result (record old { reads = reads })
sends_by_reads file old n xid result reads said = by_place file old n xid result reads (slice_get old.reads n) refl said
