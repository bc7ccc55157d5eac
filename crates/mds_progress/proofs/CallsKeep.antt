-- The calls that go out at the end of an event leave nothing kept where nothing was.
use Rattle.std.proofs.Common.{◌≡◌, ℕ, zero, suc, List, [], ◌∷◌, Option, Some, None, refl, subst}
use Rattle.std.specs.Prelude.{◌-◌, ◌==◌, ◌&&◌, length, slice_get, slice_set}
use Rattle.std.specs.Option.{option_map}
use Rattle.std.specs.List.{find, range_with_len}
use Rattle.std.proofs.lemmas.Bool.{cond_both}
use Rattle.std.proofs.lemmas.Option.{none-some, same_Some}
use Rattle.cluster_model.specs.declared.ids.NodeId.TheVariants.{Server}
use Rattle.cluster_model.specs.declared.ids.FileId.{FileId}
use Rattle.file_rule.specs.FilePhases.{CallOut, call_out}
use Rattle.mds_io.specs.Reads.{ReadSends}
use Rattle.mds_io.specs.Reads as read
use Rattle.mirror_writer.specs.Writers.{WriterSends}
use Rattle.mirror_writer.specs.Writers as writer
use Rattle.nfs4_session.specs.Clients.{SessionState, has_id}
use Rattle.nfs4_session.specs.Bindings.{last_session}
use Rattle.recall.specs.declared.recall.RecallCall.{RecallCall}
use Rattle.recall.specs.Recalls.{RecallSends, next_sent}
use Rattle.mds_rule.specs.MdsStates.{WaitingRead, WaitingWrite, ServedFile, AwaitedCall, MdsValue, MdsStep, sends_none, and_then, is_call_to, served, numbered}
use Rattle.mds_rule.specs.declared.waiter.Waiter.TheVariants.{ForRead}
use Rattle.mds_rule.specs.Goes.{calls_server, OwnCall, own_of_file, own_of_write, own_by, place_of, own_call_at, own_next, has_xids, own_call, own_two, own_calls, read_goes, read_call, read_call_in, each, read_count, read_calls, calls_back, recall_goes, recall_call, repeats_call, repeats, place_calls, file_calls, calls_out}
use Rattle.mds_progress.proofs.Kept.{NoneKept, OutKeeps, out_keeps}

-- nothing of any file is kept
abbrev pub AllFree : List ServedFile → Type 0
AllFree files = (place : ℕ) (s : ServedFile) → slice_get files place ≡ Some s → NoneKept s.file.activity

-- what is set at a place is so too
pub all_set : (files : List ServedFile) (place : ℕ) (t : ServedFile) → AllFree files → NoneKept t.file.activity → AllFree (slice_set files place t)
all_set [] place t all free p s is = all p s is
all_set (f ∷ files) zero t all free zero s is = subst (λ (x : ServedFile). NoneKept x.file.activity) (same_Some t s is) free
all_set (f ∷ files) zero t all free (suc p) s is = all (suc p) s is
all_set (f ∷ files) (suc place) t all free zero s is = all zero s is
all_set (f ∷ files) (suc place) t all free (suc p) s is = all_set files place t (λ q x its. all (suc q) x its) free p s is

pub served_free : (m : MdsValue) (file : FileId) (s : ServedFile) → AllFree m.files → served m file ≡ Some s → NoneKept s.file.activity
served_free m file s all is =
    cond_both (file.0 == 0) None (slice_get m.files (file.0 - 1)) (λ (o : Option ServedFile). o ≡ Some s → NoneKept s.file.activity) (λ off none. absurd (none-some s none)) (λ on its. all (file.0 - 1) s its) is

-- a step leaves nothing kept where nothing was
abbrev pub Frees : MdsValue → MdsStep → Type 0
Frees m s = AllFree m.files → AllFree s.mds.files

pub frees_then : (m : MdsValue) (s : MdsStep) (next : MdsValue → MdsStep) → Frees m s → ((n : MdsValue) → Frees n (next n)) → Frees m (and_then s next)
frees_then m s next first second all = second s.mds (first all)

each_frees : {A : Type 0} (step : A → MdsValue → MdsStep) → ((a : A) (m : MdsValue) → Frees m (step a m)) → (list : List A) (m : MdsValue) → Frees m (each step list m)
each_frees step frees [] m all = all
each_frees step frees (a ∷ list) m all = each_frees step frees list (step a m).mds (frees a m all)

-- ---- a file's own calls

own_at_frees : (m : MdsValue) (file : FileId) (s : ServedFile) (place : ℕ) (o : Option OwnCall) → ((c : OwnCall) → o ≡ Some c → NoneKept c.served.file.activity) → Frees m (own_call_at m file s place o)
own_at_frees m file s place None free all = all
own_at_frees m file s place (Some c) free all =
    cond_both (place_of s c.server == place) (calls_server m file c.served c.caller c.server c.uid c.call) (sends_none m) (λ (x : MdsStep). AllFree x.mds.files) (λ is. all_set m.files (file.0 - 1) c.served all (free c refl)) (λ off. all)

file_out_free : (file : FileId) (s : ServedFile) (o : Option CallOut) → OutKeeps o → (c : OwnCall) → option_map (own_of_file file s) o ≡ Some c → NoneKept c.served.file.activity
file_out_free file s None keeps c is = absurd (none-some c is)
file_out_free file s (Some out) keeps c is = subst (λ (x : OwnCall). NoneKept x.served.file.activity) (same_Some (own_of_file file s out) c is) keeps

write_out_free : (file : FileId) (s : ServedFile) (w : WaitingWrite) (o : Option WriterSends) → NoneKept s.file.activity → (c : OwnCall) → option_map (own_of_write file s w) o ≡ Some c → NoneKept c.served.file.activity
write_out_free file s w None free c is = absurd (none-some c is)
write_out_free file s w (Some out) free c is = subst (λ (x : OwnCall). NoneKept x.served.file.activity) (same_Some (own_of_write file s w out) c is) free

own_by_free : (file : FileId) (s : ServedFile) (xid : ℕ) (o : Option WaitingWrite) → NoneKept s.file.activity → (c : OwnCall) → own_by file s xid o ≡ Some c → NoneKept c.served.file.activity
own_by_free file s xid None free c is = file_out_free file s (call_out s.file xid) (out_keeps s.file xid s.file.activity free) c is
own_by_free file s xid (Some w) free c is = write_out_free file s w (writer.next_sent w.writer xid) free c is

own_next_frees : (m : MdsValue) (file : FileId) (place : ℕ) (o : Option ServedFile) → served m file ≡ o → Frees m (own_next m file place o)
own_next_frees m file place None is all = all
own_next_frees m file place (Some s) is all = own_at_frees m file s place (own_by file s m.next_xid s.write) (own_by_free file s m.next_xid s.write (served_free m file s all is)) all

own_frees : (file : FileId) (place : ℕ) (m : MdsValue) → Frees m (own_call file place m)
own_frees file place m all =
    cond_both (has_xids m) (own_next m file place (served m file)) (sends_none m) (λ (x : MdsStep). AllFree x.mds.files) (λ has. own_next_frees m file place (served m file) refl all) (λ off. all)

two_frees : (file : FileId) (place : ℕ) (m : MdsValue) → Frees m (own_two file place m)
two_frees file place m = frees_then m (own_call file place m) (own_call file place) (own_frees file place m) (own_frees file place)

all_own_frees : (file : FileId) (place : ℕ) (m : MdsValue) → Frees m (own_calls file place m)
all_own_frees file place m = frees_then m (own_two file place m) (own_two file place) (two_frees file place m) (two_frees file place)

-- ---- READs

read_goes_frees : (m : MdsValue) (file : FileId) (s : ServedFile) (n place : ℕ) (r : WaitingRead) (o : Option ReadSends) → NoneKept s.file.activity → Frees m (read_goes m file s n place r o)
read_goes_frees m file s n place r None free all = all
read_goes_frees m file s n place r (Some sent) free all =
    let t : ServedFile = record s { reads = slice_set s.reads n (record { compound = r.compound; read = sent.read }) } in
    cond_both ((place_of s sent.id.server == place) && has_xids m) (calls_server m file t (ForRead file) sent.id.server 0 sent.call) (sends_none m) (λ (x : MdsStep). AllFree x.mds.files)
    (λ is. all_set m.files (file.0 - 1) t all free) (λ off. all)

read_call_frees : (m : MdsValue) (file : FileId) (s : ServedFile) (n place : ℕ) (o : Option WaitingRead) → NoneKept s.file.activity → Frees m (read_call m file s n place o)
read_call_frees m file s n place None free all = all
read_call_frees m file s n place (Some r) free all = read_goes_frees m file s n place r (read.next_sent r.read m.next_xid) free all

read_in_frees : (file : FileId) (place n : ℕ) (m : MdsValue) (o : Option ServedFile) → served m file ≡ o → Frees m (read_call_in file place n m o)
read_in_frees file place n m None is all = all
read_in_frees file place n m (Some s) is all = read_call_frees m file s n place (slice_get s.reads n) (served_free m file s all is) all

reads_free : (file : FileId) (place : ℕ) (m : MdsValue) → Frees m (read_calls file place m)
reads_free file place m = each_frees (λ n k. read_call_in file place n k (served k file)) (λ n k. read_in_frees file place n k (served k file) refl) (range_with_len 0 (read_count (served m file))) m

-- ---- recalls, and what goes out again: no file changes

back_frees : (m : MdsValue) (call : RecallCall) (o : Option SessionState) → Frees m (calls_back m call o)
back_frees m call None all = all
back_frees m call (Some session) all = all

recall_goes_frees : (m : MdsValue) (file : FileId) (o : Option RecallSends) → Frees m (recall_goes m file o)
recall_goes_frees m file None all = all
recall_goes_frees m file (Some sent) all =
    let n : MdsValue = record m { recalls = sent.recalls } in
    cond_both (sent.call.file.0 == file.0) (calls_back n sent.call (last_session (find (has_id sent.call.client) m.sessions.clients))) (sends_none m) (λ (x : MdsStep). AllFree x.mds.files)
    (λ is. back_frees n sent.call (last_session (find (has_id sent.call.client) m.sessions.clients)) all) (λ off. all)

recall_frees : (file : FileId) (m : MdsValue) → Frees m (recall_call file m)
recall_frees file m all =
    cond_both (has_xids m) (recall_goes m file (next_sent m.recalls m.next_xid)) (sends_none m) (λ (x : MdsStep). AllFree x.mds.files) (λ has. recall_goes_frees m file (next_sent m.recalls m.next_xid) all) (λ off. all)

repeat_frees : (m : MdsValue) (o : Option AwaitedCall) → Frees m (repeats_call m o)
repeat_frees m None all = all
repeat_frees m (Some call) all = all

repeats_free : (kept : Option (Option (ℕ × ℕ))) (m : MdsValue) → Frees m (repeats kept m)
repeats_free None m all = all
repeats_free (Some None) m all = all
repeats_free (Some (Some kept)) m all = repeat_frees m (find (is_call_to (Server kept.0) kept.1) m.calls) all

-- ---- all of them

place_frees : (file : FileId) (place : ℕ) (m : MdsValue) → Frees m (place_calls file place m)
place_frees file place m = frees_then m (own_calls file place m) (read_calls file place) (all_own_frees file place m) (reads_free file place)

file_frees : (kept : List (Option (ℕ × ℕ))) (n : ℕ) (m : MdsValue) → Frees m (file_calls kept n m)
file_frees kept n m =
    frees_then m (and_then (recall_call (numbered n) m) (repeats (slice_get kept (n - 1)))) (each (place_calls (numbered n)) (0 ∷ 1 ∷ 2 ∷ 3 ∷ 4 ∷ []))
    (frees_then m (recall_call (numbered n) m) (repeats (slice_get kept (n - 1))) (recall_frees (numbered n) m) (repeats_free (slice_get kept (n - 1))))
    (each_frees (place_calls (numbered n)) (place_frees (numbered n)) (0 ∷ 1 ∷ 2 ∷ 3 ∷ 4 ∷ []))

pub calls_free : (kept : List (Option (ℕ × ℕ))) (m : MdsValue) → Frees m (calls_out kept m)
calls_free kept m = each_frees (file_calls kept) (file_frees kept) (range_with_len 1 (length m.files)) m
