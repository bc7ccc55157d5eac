-- A result and its value: each is known by the other.
use Rattle.std.proofs.Common.{◌≡◌, ℕ, true, cond, eqb, List, [], ◌∷◌, Option, Some, None, refl, sym, ap, subst, ◌∙◌, inl, inr}
use Rattle.std.proofs.lemmas.Bool.{eqb-true, or_cases}
use Rattle.std.specs.List.{AllByRecursion, list_any}
use Rattle.std.specs.Option.{option_map}
use Rattle.ff_xdr.specs.Form.{Form, Optional, Value, Fits}
use Rattle.ff_xdr.specs.Arms.{arm, by_arm, of_each_arm}
use Rattle.nfs3_wire.specs.declared.attributes.Fattr3.{Fattr3}
use Rattle.nfs3_wire.specs.declared.wcc.WccAttr.{WccAttr}
use Rattle.nfs3_wire.specs.declared.wcc.WccData.{WccData}
use Rattle.nfs3_wire.specs.declared.file_type.FileType.{FileType}
use Rattle.nfs3_wire.specs.declared.file_type.FileType.TheVariants.{Regular, Directory}
use Rattle.nfs3_wire.specs.declared.stable_how.StableHow.{StableHow}
use Rattle.nfs3_wire.specs.declared.stable_how.StableHow.TheVariants.{Unstable, DataSync, FileSync}
use Rattle.nfs3_wire.specs.declared.status.Stat3.{Stat3}
use Rattle.nfs3_wire.specs.declared.status.Stat3.TheVariants as stat
use Rattle.nfs3_wire.specs.declared.fsinfo.FsInfoOk.{FsInfoOk}
use Rattle.nfs3_wire.specs.FileTypes.{ftype3, file_type_number}
use Rattle.nfs3_wire.specs.Stability.{stable_how, stable_how_number, stable_how_of}
use Rattle.nfs3_wire.specs.Status.{refusal, refusals, stat_number}
use Rattle.nfs3_wire.specs.Attributes.{time3_of, fattr3, fattr3_value}
use Rattle.nfs3_wire.specs.Wcc.{wcc_attr, wcc_attr_value, wcc_data, wcc_data_value}
use Rattle.nfs3_wire.specs.Getattr.{getattr_result}
use Rattle.nfs3_wire.specs.Setattr.{setattr_result}
use Rattle.nfs3_wire.specs.Lookup.{lookup_result}
use Rattle.nfs3_wire.specs.Read.{read_result}
use Rattle.nfs3_wire.specs.Write.{write_result}
use Rattle.nfs3_wire.specs.Create.{create_result}
use Rattle.nfs3_wire.specs.Fsinfo.{fsinfo_ok, fsinfo_ok_value, fsinfo_result}
use Rattle.nfs3_wire.specs.Commit.{commit_result}
use Rattle.nfs3_wire.specs.Replies.{nfs3_results, Nfs3Reply, Null, GetAttrDone, GetAttrRefused, SetAttrDone, SetAttrRefused, LookupDone, LookupRefused, ReadDone, ReadRefused, WriteDone, WriteRefused, CreateDone, CreateRefused, FsInfoDone, FsInfoRefused, CommitDone, CommitRefused, reply_value}
use Rattle.nfs3_wire.specs.Laws.{IsReplyOfItsValue, IsReplysValue}

-- ---- a value as a result

abbrev kind_of : ℕ → FileType
kind_of n = cond (eqb n 1) Regular Directory

abbrev stat_of : ℕ → Stat3
stat_of n =
    cond (eqb n 0) stat.Ok
    (cond (eqb n 2) stat.NoEnt
    (cond (eqb n 5) stat.Io
    (cond (eqb n 13) stat.Acces
    (cond (eqb n 17) stat.Exist
    (cond (eqb n 20) stat.NotDir
    (cond (eqb n 21) stat.IsDir
    (cond (eqb n 22) stat.Inval
    (cond (eqb n 27) stat.Fbig
    (cond (eqb n 28) stat.NoSpc
    (cond (eqb n 63) stat.NameTooLong
    (cond (eqb n 70) stat.Stale
    (cond (eqb n 10001) stat.BadHandle
    (cond (eqb n 10002) stat.NotSync
    (cond (eqb n 10004) stat.NotSupp
    (cond (eqb n 10006) stat.ServerFault stat.Jukebox)))))))))))))))

abbrev fattr3_of : Value fattr3 → Fattr3
fattr3_of ((kind, (mode, (nlink, (uid, gid)))), ((size, (used, ((major, minor), (fsid, fileid)))), (atime, (mtime, ctime)))) =
    record {
      kind = kind_of kind;
      mode = mode;
      nlink = nlink;
      uid = uid;
      gid = gid;
      size = size;
      used = used;
      rdev = record { major = major; minor = minor };
      fsid = fsid;
      fileid = fileid;
      atime = time3_of atime;
      mtime = time3_of mtime;
      ctime = time3_of ctime;
    }

abbrev wcc_attr_of : Value wcc_attr → WccAttr
wcc_attr_of (size, (mtime, ctime)) = record { size = size; mtime = time3_of mtime; ctime = time3_of ctime }

abbrev wcc_data_of : Value wcc_data → WccData
wcc_data_of (before, after) = record { before = option_map wcc_attr_of before; after = option_map fattr3_of after }

abbrev fsinfo_of : Value fsinfo_ok → FsInfoOk
fsinfo_of (attributes, (((rtmax, (rtpref, rtmult)), (wtmax, (wtpref, wtmult))), (dtpref, (maxfilesize, (time_delta, properties))))) =
    record {
      attributes = option_map fattr3_of attributes;
      rtmax = rtmax;
      rtpref = rtpref;
      rtmult = rtmult;
      wtmax = wtmax;
      wtpref = wtpref;
      wtmult = wtmult;
      dtpref = dtpref;
      maxfilesize = maxfilesize;
      time_delta = time3_of time_delta;
      properties = properties;
    }

abbrev getattr_of : Value getattr_result → Nfs3Reply
getattr_of (inl a) = GetAttrDone (fattr3_of a)
getattr_of (inr (n, nothing)) = GetAttrRefused (stat_of n)

abbrev setattr_of : Value setattr_result → Nfs3Reply
setattr_of (inl w) = SetAttrDone (wcc_data_of w)
setattr_of (inr (n, w)) = SetAttrRefused (stat_of n) (wcc_data_of w)

abbrev lookup_of : Value lookup_result → Nfs3Reply
lookup_of (inl (file, (a, d))) = LookupDone file (option_map fattr3_of a) (option_map fattr3_of d)
lookup_of (inr (n, d)) = LookupRefused (stat_of n) (option_map fattr3_of d)

abbrev read_of : Value read_result → Nfs3Reply
read_of (inl (a, (count, (eof, bytes)))) = ReadDone (option_map fattr3_of a) count eof bytes
read_of (inr (n, a)) = ReadRefused (stat_of n) (option_map fattr3_of a)

abbrev write_of : Value write_result → Nfs3Reply
write_of (inl (w, (count, (s, verifier)))) = WriteDone (wcc_data_of w) count (stable_how_of s) verifier
write_of (inr (n, w)) = WriteRefused (stat_of n) (wcc_data_of w)

abbrev create_of : Value create_result → Nfs3Reply
create_of (inl (file, (a, w))) = CreateDone file (option_map fattr3_of a) (wcc_data_of w)
create_of (inr (n, w)) = CreateRefused (stat_of n) (wcc_data_of w)

abbrev fsinfo_reply_of : Value fsinfo_result → Nfs3Reply
fsinfo_reply_of (inl info) = FsInfoDone (fsinfo_of info)
fsinfo_reply_of (inr (n, a)) = FsInfoRefused (stat_of n) (option_map fattr3_of a)

abbrev commit_of : Value commit_result → Nfs3Reply
commit_of (inl (w, verifier)) = CommitDone (wcc_data_of w) verifier
commit_of (inr (n, w)) = CommitRefused (stat_of n) (wcc_data_of w)

abbrev reply_of : Value nfs3_results → Nfs3Reply
reply_of = by_arm nfs3_results (λ nothing. Null, (getattr_of, (setattr_of, (lookup_of, (read_of, (write_of, (create_of, (fsinfo_reply_of, (commit_of, tt)))))))))

-- ---- a result by its value

kind_known : (k : FileType) → kind_of (file_type_number k) ≡ k
kind_known Regular = refl
kind_known Directory = refl

stat_known : (s : Stat3) → stat_of (stat_number s) ≡ s
stat_known stat.Ok = refl
stat_known stat.NoEnt = refl
stat_known stat.Io = refl
stat_known stat.Acces = refl
stat_known stat.Exist = refl
stat_known stat.NotDir = refl
stat_known stat.IsDir = refl
stat_known stat.Inval = refl
stat_known stat.Fbig = refl
stat_known stat.NoSpc = refl
stat_known stat.NameTooLong = refl
stat_known stat.Stale = refl
stat_known stat.BadHandle = refl
stat_known stat.NotSync = refl
stat_known stat.NotSupp = refl
stat_known stat.ServerFault = refl
stat_known stat.Jukebox = refl

stable_known : (s : StableHow) → stable_how_of (stable_how_number s) ≡ s
stable_known Unstable = refl
stable_known DataSync = refl
stable_known FileSync = refl

option_known : {A B : Type 0} (view : A → B) (back : B → A) → ((a : A) → back (view a) ≡ a) → (o : Option A) → option_map back (option_map view o) ≡ o
option_known view back one None = refl
option_known view back one (Some a) = ap Some (one a)

fattr3_known : (a : Fattr3) → fattr3_of (fattr3_value a) ≡ a
fattr3_known a =
    let k = kind_known a.kind in
    rw k refl

wcc_attr_known : (w : WccAttr) → wcc_attr_of (wcc_attr_value w) ≡ w
wcc_attr_known w = refl

attributes_known : (o : Option Fattr3) → option_map fattr3_of (option_map fattr3_value o) ≡ o
attributes_known o = option_known fattr3_value fattr3_of fattr3_known o

wcc_data_known : (w : WccData) → wcc_data_of (wcc_data_value w) ≡ w
wcc_data_known w =
    let before = option_known wcc_attr_value wcc_attr_of wcc_attr_known w.before in
    let after = attributes_known w.after in
    rw (before, after) refl

fsinfo_known : (info : FsInfoOk) → fsinfo_of (fsinfo_ok_value info) ≡ info
fsinfo_known info =
    let a = attributes_known info.attributes in
    rw a refl

of_value : (r : Nfs3Reply) → reply_of (reply_value r) ≡ r
of_value Null = refl
of_value (GetAttrDone a) = ap GetAttrDone (fattr3_known a)
of_value (GetAttrRefused s) = ap GetAttrRefused (stat_known s)
of_value (SetAttrDone w) = ap SetAttrDone (wcc_data_known w)
of_value (SetAttrRefused s w) = cc (stat_known s, wcc_data_known w)
of_value (LookupDone file a d) = cc (attributes_known a, attributes_known d)
of_value (LookupRefused s d) = cc (stat_known s, attributes_known d)
of_value (ReadDone a count eof bytes) = cc (attributes_known a)
of_value (ReadRefused s a) = cc (stat_known s, attributes_known a)
of_value (WriteDone w count s verifier) = cc (wcc_data_known w, stable_known s)
of_value (WriteRefused s w) = cc (stat_known s, wcc_data_known w)
of_value (CreateDone file a w) = cc (attributes_known a, wcc_data_known w)
of_value (CreateRefused s w) = cc (stat_known s, wcc_data_known w)
of_value (FsInfoDone info) = ap FsInfoDone (fsinfo_known info)
of_value (FsInfoRefused s a) = cc (stat_known s, attributes_known a)
of_value (CommitDone w verifier) = cc (wcc_data_known w)
of_value (CommitRefused s w) = cc (stat_known s, wcc_data_known w)

pub reply_known : (r s : Nfs3Reply) → IsReplyOfItsValue r s
reply_known r s same = sym (of_value r) ∙ ap reply_of same ∙ of_value s

-- ---- a value by its result

-- what holds of each number of a list holds of one of them
one_of : (P : ℕ → Type 0) (n : ℕ) (numbers : List ℕ) → AllByRecursion P numbers → list_any (eqb n) numbers ≡ true → P n
one_of P n [] all some = absurd cc
one_of P n (k ∷ numbers) all some =
    elim (or_cases (eqb n k) (list_any (eqb n) numbers) some) [
      | inl same ↦ subst P (sym (eqb-true n k same)) all.0
      | inr rest ↦ one_of P n numbers all.1 rest
    ]

kind_is : (n : ℕ) → Fits ftype3 n → n ≡ file_type_number (kind_of n)
kind_is n fits = one_of (λ k. k ≡ file_type_number (kind_of k)) n (1 ∷ 2 ∷ []) (refl, (refl, tt)) fits

stat_is : (n : ℕ) → Fits refusal n → n ≡ stat_number (stat_of n)
stat_is n fits =
    one_of (λ k. k ≡ stat_number (stat_of k)) n refusals
    (refl, (refl, (refl, (refl, (refl, (refl, (refl, (refl, (refl, (refl, (refl, (refl, (refl, (refl, (refl, (refl, tt)))))))))))))))) fits

option_is : {A : Type 0} (each : Form) (view : A → Value each) (back : Value each → A) → ((v : Value each) → Fits each v → v ≡ view (back v))
    → (o : Option (Value each)) → Fits (Optional each) o → o ≡ option_map view (option_map back o)
option_is each view back one None fits = refl
option_is each view back one (Some v) fits = ap Some (one v fits)

stable_is : (n : ℕ) → Fits stable_how n → n ≡ stable_how_number (stable_how_of n)
stable_is n fits = one_of (λ k. k ≡ stable_how_number (stable_how_of k)) n (0 ∷ 1 ∷ 2 ∷ []) (refl, (refl, (refl, tt))) fits

fattr3_is : (v : Value fattr3) → Fits fattr3 v → v ≡ fattr3_value (fattr3_of v)
fattr3_is ((kind, (mode, (nlink, (uid, gid)))), ((size, (used, ((major, minor), (fsid, fileid)))), (accessed, (modified, changed)))) fits =
    ap (λ (k : ℕ). ((k, (mode, (nlink, (uid, gid)))), ((size, (used, ((major, minor), (fsid, fileid)))), (accessed, (modified, changed))))) (kind_is kind fits.0.0)

wcc_attr_is : (v : Value wcc_attr) → Fits wcc_attr v → v ≡ wcc_attr_value (wcc_attr_of v)
wcc_attr_is (size, ((ms, mn), (cs, cn))) fits = refl

attributes_is : (o : Option (Value fattr3)) → Fits (Optional fattr3) o → o ≡ option_map fattr3_value (option_map fattr3_of o)
attributes_is o fits = option_is fattr3 fattr3_value fattr3_of fattr3_is o fits

wcc_data_is : (v : Value wcc_data) → Fits wcc_data v → v ≡ wcc_data_value (wcc_data_of v)
wcc_data_is (before, after) fits =
    let b = option_is wcc_attr wcc_attr_value wcc_attr_of wcc_attr_is before fits.0 in
    let a = attributes_is after fits.1 in
    cc (a, b)

fsinfo_is : (v : Value fsinfo_ok) → Fits fsinfo_ok v → v ≡ fsinfo_ok_value (fsinfo_of v)
fsinfo_is (attributes, (((rtmax, (rtpref, rtmult)), (wtmax, (wtpref, wtmult))), (dtpref, (maxfilesize, ((seconds, nanos), properties))))) fits =
    ap (λ (a : Option (Value fattr3)). (a, (((rtmax, (rtpref, rtmult)), (wtmax, (wtpref, wtmult))), (dtpref, (maxfilesize, ((seconds, nanos), properties))))))
    (attributes_is attributes fits.0)

getattr_is : (v : Value getattr_result) → Fits getattr_result v → arm 1 nfs3_results v ≡ reply_value (getattr_of v)
getattr_is (inl a) fits = cc (fattr3_is a fits)
getattr_is (inr (n, nothing)) fits = ap (λ (k : ℕ). arm 1 nfs3_results (inr (k, tt))) (stat_is n fits.0)

setattr_is : (v : Value setattr_result) → Fits setattr_result v → arm 2 nfs3_results v ≡ reply_value (setattr_of v)
setattr_is (inl w) fits = cc (wcc_data_is w fits)
setattr_is (inr (n, w)) fits = cc (stat_is n fits.0, wcc_data_is w fits.1)

lookup_is : (v : Value lookup_result) → Fits lookup_result v → arm 3 nfs3_results v ≡ reply_value (lookup_of v)
lookup_is (inl (file, (a, d))) fits = cc (attributes_is a fits.1.0, attributes_is d fits.1.1)
lookup_is (inr (n, d)) fits = cc (stat_is n fits.0, attributes_is d fits.1)

read_is : (v : Value read_result) → Fits read_result v → arm 6 nfs3_results v ≡ reply_value (read_of v)
read_is (inl (a, (count, (eof, bytes)))) fits = cc (attributes_is a fits.0)
read_is (inr (n, a)) fits = cc (stat_is n fits.0, attributes_is a fits.1)

write_is : (v : Value write_result) → Fits write_result v → arm 7 nfs3_results v ≡ reply_value (write_of v)
write_is (inl (w, (count, (s, verifier)))) fits = cc (wcc_data_is w fits.0, stable_is s fits.1.1.0)
write_is (inr (n, w)) fits = cc (stat_is n fits.0, wcc_data_is w fits.1)

create_is : (v : Value create_result) → Fits create_result v → arm 8 nfs3_results v ≡ reply_value (create_of v)
create_is (inl (file, (a, w))) fits = cc (attributes_is a fits.1.0, wcc_data_is w fits.1.1)
create_is (inr (n, w)) fits = cc (stat_is n fits.0, wcc_data_is w fits.1)

fsinfo_reply_is : (v : Value fsinfo_result) → Fits fsinfo_result v → arm 19 nfs3_results v ≡ reply_value (fsinfo_reply_of v)
fsinfo_reply_is (inl info) fits = cc (fsinfo_is info fits)
fsinfo_reply_is (inr (n, a)) fits = cc (stat_is n fits.0, attributes_is a fits.1)

commit_is : (v : Value commit_result) → Fits commit_result v → arm 21 nfs3_results v ≡ reply_value (commit_of v)
commit_is (inl (w, verifier)) fits = cc (wcc_data_is w fits.0)
commit_is (inr (n, w)) fits = cc (stat_is n fits.0, wcc_data_is w fits.1)

is_value : (v : Value nfs3_results) → Fits nfs3_results v → v ≡ reply_value (reply_of v)
is_value = of_each_arm nfs3_results (λ v. Fits nfs3_results v → v ≡ reply_value (reply_of v)) (
  λ nothing fits. refl,
  (getattr_is, (setattr_is, (lookup_is, (read_is, (write_is, (create_is, (fsinfo_reply_is, (commit_is, tt)))))))),
)

pub replys_value : (v : Value nfs3_results) → IsReplysValue v
replys_value v fits = (reply_of v, is_value v fits)
