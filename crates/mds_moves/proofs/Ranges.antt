-- The numbers of calls fit their fields: those of a file's calls and of an own write's; of a READ it is decided.
use Rattle.std.proofs.Common.{◌≡◌, ◌≤◌, ◌<◌, ℕ, ◌+◌, ◌^◌, true, List, [], ◌∷◌, length, Option, Some, None, refl, sym, subst, inl, inr, ◌⊎◌, arith}
use Rattle.std.specs.Prelude.{map}
use Rattle.std.specs.List.{AllByRecursion}
use Rattle.std.proofs.lemmas.Bool.{cases_lt}
use Rattle.cluster_model.specs.declared.ids.Mirror.{Mirror}
use Rattle.cluster_model.specs.DsCalls.{DsCallValue, Create, SetAttr, Write, Commit, Read}
use Rattle.cluster_model.specs.Server.{ServerState}
use Rattle.ds_calls.specs.DsCallLaws.{IsSpeakable, HasRecord}
use Rattle.file_rule.specs.MdsFiles.{MdsFile}
use Rattle.file_rule.specs.FilePhases.{CallOut, call_out}
use Rattle.cluster_laws.specs.Machine.{Machine, Move, numbered_at}
use Rattle.cluster_laws.specs.CallRanges.{AreFieldsInRange, IsServerInRange, AreServersInRange, IsCallInRange, CallsInRange, IsFileInRange, MirrorsInRange}
use Rattle.mds_io.specs.OwnWrites.{own_write}
use Rattle.mirror_writer.specs.declared.call.TakenWrite.{TakenWrite}
use Rattle.mirror_writer.specs.Writers.{WriterMirror, WriterValue, new_mirror, queued}
use Rattle.mds_rule.specs.MdsStates.{WaitingWrite}
use Rattle.mds_rule.specs.Spelled.{mds_name}
use Rattle.mds_walk.proofs.Lists.{AllOf, all_in}
use Rattle.mds_laws.proofs.OwnWriters.{StaysWriter, IsNewWriter, IsCallOf, fileids_of}
use Rattle.mds_laws.proofs.Keeping.{is_read_call, IsWriterOf, IsWriteOf}
use Rattle.mds_moves.specs.MdsMoves.{IsReached, message_of, IsSpoken, IsTakenInRange, IsWriterInRange, IsWaitingInRange}

-- ---- the laws of each run

pub record CallsFit : Type 0 where
  pub calls : (boots : List ℕ) (moves : List Move) → CallsInRange boots moves
  pub mirrors : (boots : List ℕ) (moves : List Move) → MirrorsInRange boots moves

pub call_at : CallsFit → (mc : Machine) → IsReached mc → AreServersInRange mc → (n xid : ℕ) (f : MdsFile) (c : CallOut) → numbered_at mc.files n ≡ Some f → call_out f xid ≡ Some c → IsCallInRange c
call_at fit mc reached range n xid f c =
    subst (λ (x : Machine). AreServersInRange x → numbered_at x.files n ≡ Some f → call_out f xid ≡ Some c → IsCallInRange c) reached.2 (λ its. fit.calls reached.0 reached.1 its n xid f c) range

pub file_at : CallsFit → (mc : Machine) → IsReached mc → AreServersInRange mc → (n : ℕ) (f : MdsFile) → numbered_at mc.files n ≡ Some f → IsFileInRange f
file_at fit mc reached range n f =
    subst (λ (x : Machine). AreServersInRange x → numbered_at x.files n ≡ Some f → IsFileInRange f) reached.2 (λ its. fit.mirrors reached.0 reached.1 its n f) range

pub same_range : (mc n : Machine) → n.servers ≡ mc.servers → AreServersInRange mc → AreServersInRange n
same_range mc n same range = subst (λ (all : List ServerState). (k : ℕ) (s : ServerState) → numbered_at all k ≡ Some s → IsServerInRange s) (sym same) range

-- ---- a file's calls

short : (k : ℕ) → k ≤ 65536 → k ≤ 1048576
short k few = omega (arith, few)

speakable : (c : DsCallValue) → AreFieldsInRange c → IsSpeakable c
speakable (Create name owner) its = its
speakable (SetAttr fileid owner guard) its = its
speakable (Write fileid at synced bytes) (a, b, few) = (a, b, short (length bytes) few)
speakable (Commit fileid) its = its
speakable (Read fileid at count) its = its

name_length : length mds_name ≡ 3
name_length = refl

has_record : (xid uid : ℕ) (c : DsCallValue) → xid ≤ 4294967295 → uid < 2 ^ 32 → IsSpeakable c → HasRecord (message_of xid uid c)
has_record xid uid c few user its = record { xid_fits = omega (arith, few); machine_fits = omega (arith, name_length); user_fits = user; call_fits = its }

pub file_speaks : (xid : ℕ) (c : CallOut) → xid ≤ 4294967295 → IsCallInRange c → HasRecord (message_of xid c.uid c.call)
file_speaks xid c few its = has_record xid c.uid c.call few its.uid (speakable c.call its.call)

-- ---- an own write's

pub write_speaks : (w : WriterValue) (xid : ℕ) (c : DsCallValue) → xid ≤ 4294967295 → IsWriterInRange w → IsCallOf w c → HasRecord (message_of xid w.cred c)
write_speaks w xid (Write fileid at synced bytes) few i call =
    let taken : IsTakenInRange (record { at = at; bytes = bytes }) = all_in IsTakenInRange w.taken (record { at = at; bytes = bytes }) i.taken call.1 in
    let within : at + length bytes ≤ 67108864 = taken.0 in
    has_record xid w.cred (Write fileid at synced bytes) few i.cred (all_in (λ (n : ℕ). n < 2 ^ 64) (fileids_of w) fileid i.fileids call.0, omega (arith, within), short (length bytes) taken.1)
write_speaks w xid (Commit fileid) few i call = has_record xid w.cred (Commit fileid) few i.cred (all_in (λ (n : ℕ). n < 2 ^ 64) (fileids_of w) fileid i.fileids call)
write_speaks w xid (Create name owner) few i call = absurd call
write_speaks w xid (SetAttr fileid owner guard) few i call = absurd call
write_speaks w xid (Read fileid at count) few i call = absurd call

pub stays_in_range : (w v : WriterValue) → StaysWriter w v → IsWriterInRange w → IsWriterInRange v
stays_in_range w v kept i = record {
  cred = subst (λ (n : ℕ). n < 2 ^ 32) (sym kept.cred) i.cred;
  fileids = subst (λ (l : List ℕ). AllOf (λ (n : ℕ). n < 2 ^ 64) l) (sym kept.fileids) i.fileids;
  taken = subst (λ (l : List TakenWrite). AllOf IsTakenInRange l) (sym kept.taken) i.taken;
}

live_fit : (k : ℕ) (live : List Mirror) → AllByRecursion (λ (m : Mirror). m.id.fileid < 2 ^ 64) live → AllOf (λ (n : ℕ). n < 2 ^ 64) (map (λ (m : WriterMirror). m.id.fileid) (map (queued k) (map new_mirror live)))
live_fit k [] all = tt
live_fit k (m ∷ live) all = (all.0, live_fit k live all.1)

new_in_range : (f : MdsFile) (w : WriterValue) → IsFileInRange f → IsNewWriter f w → IsWriterInRange w
new_in_range f w fits new =
    let begun : IsWriterInRange (own_write f.layout.live f.layout.cred.0 new.at new.bytes) = record { cred = fits.cred; fileids = live_fit 0 f.layout.live fits.live; taken = ((new.within, new.few), tt) } in
    subst IsWriterInRange (sym new.is) begun

pub write_in_range : (f : MdsFile) (old o : Option WaitingWrite) → IsFileInRange f → IsWriteOf f old o → IsWaitingInRange old → IsWaitingInRange o
write_in_range f old None fits its i = tt
write_in_range f old (Some w) fits (inl new) i = new_in_range f w.writer fits new
write_in_range f old (Some w) fits (inr same) i = by_old old same i
  where
    by_old : (old : Option WaitingWrite) → IsWriterOf w.writer old → IsWaitingInRange old → IsWriterInRange w.writer
    by_old None its was = absurd its
    by_old (Some v) its was = stays_in_range v.writer w.writer its was

-- ---- a READ's for a client

pub read_spoken : (xid : ℕ) (c : DsCallValue) → xid ≤ 4294967295 → is_read_call c ≡ true → IsSpoken (message_of xid 0 c)
read_spoken xid (Create name owner) few is = absurd cc
read_spoken xid (SetAttr fileid owner guard) few is = absurd cc
read_spoken xid (Write fileid at synced bytes) few is = absurd cc
read_spoken xid (Commit fileid) few is = absurd cc
read_spoken xid (Read fileid at count) few is = by_tests (cases_lt fileid (2 ^ 64)) (cases_lt at (2 ^ 64)) (cases_lt count (2 ^ 32))
  where
    by_tests : (fileid < 2 ^ 64) ⊎ (2 ^ 64 ≤ fileid) → (at < 2 ^ 64) ⊎ (2 ^ 64 ≤ at) → (count < 2 ^ 32) ⊎ (2 ^ 32 ≤ count) → IsSpoken (message_of xid 0 (Read fileid at count))
    by_tests (inl a) (inl b) (inl c) = inl (has_record xid 0 (Read fileid at count) few (omega arith) (a, b, c))
    by_tests (inr over) b c = inr (λ its. (let fits : fileid < 2 ^ 64 = its.call_fits.0 in omega (arith, fits, over)), refl)
    by_tests (inl a) (inr over) c = inr (λ its. (let fits : at < 2 ^ 64 = its.call_fits.1 in omega (arith, fits, over)), refl)
    by_tests (inl a) (inl b) (inr over) = inr (λ its. (let fits : count < 2 ^ 32 = its.call_fits.2 in omega (arith, fits, over)), refl)
