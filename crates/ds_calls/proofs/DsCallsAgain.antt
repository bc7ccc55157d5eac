-- The records of calls are read again, and told apart.
use Rattle.std.proofs.Common.{◌≡◌, ℕ, ◌+◌, ◌^◌, ◌<◌, ◌≤◌, Bool, true, false, ltb, List, [], ◌∷◌, length, drop, Option, Some, None, Result, Ok, refl, sym, ap, subst, ◌∙◌, arith, append-nil, length-append}
use Rattle.std.specs.Prelude.{IsTrue, nat_eq, codes, decimal}
use Rattle.std.specs.Int.{w64, from_be_bytes}
use Rattle.std.specs.List.{list_any}
use Rattle.std.specs.Option.{option_map}
use Rattle.std.proofs.lemmas.Bool.{le-ltb}
use Rattle.std.proofs.lemmas.Fmt.{decimal_injective}
use Rattle.std.proofs.lemmas.Nat.{from_be_bytes-to_be_bytes_8}
use Rattle.ff_xdr.specs.declared.error.XdrError.{XdrError}
use Rattle.ff_xdr.specs.Form.{Form, Value, Fits, is_sound, spelling, arm_of, long}
use Rattle.ff_xdr.specs.Reading.{Read, reading, whole}
use Rattle.ff_xdr.specs.WholeArms.{whole_arm, IsWholeArmReadAgain}
use Rattle.ff_xdr.proofs.Again.{again}
use Rattle.ff_xdr.proofs.CutShort.{length-long}
use Rattle.rpc_record.specs.declared.call.CallFault.{CallFault}
use Rattle.rpc_record.specs.Rpc.{authsys_parms, credential_value}
use Rattle.rpc_record.specs.Calls.{RpcCall, call_body, body_value, call_at}
use Rattle.rpc_record.specs.Laws.{IsCallReadAgain}
use Rattle.nfs3_wire.specs.declared.attributes.Time3.{Time3}
use Rattle.nfs3_wire.specs.declared.create.CreateHow.TheVariants.{Unchecked}
use Rattle.nfs3_wire.specs.Calls.{Nfs3Call, calls, call_value, call_of}
use Rattle.nfs3_wire.specs.Calls as nfs
use Rattle.nfs3_wire.specs.Laws.{IsCallOfItsValue}
use Rattle.nfs3_wire.specs.Stability.{stable_how_number}
use Rattle.cluster_model.specs.DsCalls.{DsCallValue, Create, SetAttr, Write, Commit, Read as ReadCall, mirror_name}
use Rattle.ds_calls.specs.MadeCalls.{fileid_handle, asked_stability, nfs_call_of, user_credential, credential_body}
use Rattle.ds_calls.specs.DsCallLaws.{IsSpeakable, DsMessage, HasRecord, message_call, IsUnderstood, AreToldApart}
use Rattle.ds_calls.proofs.CallHeaders.{body_length}
use Rattle.ds_calls.proofs.MirrorNames.{twenty_digits}

-- ---- a value that is all the bytes

whole_all : {M : Type 0} (bytes : List ℕ) (x : M × ℕ) (r : Read M) → r ≡ Ok x → x.1 ≡ length bytes → whole bytes r ≡ Ok x.0
whole_all bytes x r is end =
    let left : ltb x.1 (length bytes) ≡ false = le-ltb _ _ (omega (arith, end)) in
    rw is (rw left refl)

pub whole_spelled : (form : Form) → IsTrue (is_sound form) → (v : Value form) → Fits form v → whole (spelling form v) (reading form (spelling form v) 0) ≡ Ok v
whole_spelled form sound v fits =
    let text = spelling form v in
    let size : 0 + length text ≡ length text = omega arith in
    let read : reading form text 0 ≡ Ok (v, 0 + length text) = subst (λ (t : List ℕ). reading form t 0 ≡ Ok (v, 0 + length text)) (append-nil text) (again form sound v [] [] fits) in
    whole_all text (v, 0 + length text) (reading form text 0) read size

-- ---- what fits

handle_short : (fileid : ℕ) → length (fileid_handle fileid) ≤ 64
handle_short fileid = omega (arith, length-long fileid)

name_short : (number : ℕ) → number < 2 ^ 64 → length (mirror_name number) ≤ 4294967295
name_short number h = omega (arith, length-append (codes "m") (decimal number), twenty_digits number h)

how_fits : (synced : Bool) → IsTrue (list_any (nat_eq (stable_how_number (asked_stability synced))) (0 ∷ 1 ∷ 2 ∷ []))
how_fits true = refl
how_fits false = refl

pub speakable_fits : (call : DsCallValue) → IsSpeakable call → Fits calls (call_value (nfs_call_of call))
speakable_fits (Create name owner) p = (handle_short 1, (name_short name p.0, (omega arith, (p.1, (p.1, (tt, (tt, tt)))))))
speakable_fits (SetAttr fileid owner guard) p = (handle_short fileid, ((tt, (p.1, (p.1, (tt, (tt, tt))))), (p.2, p.3)))
speakable_fits (Write fileid at synced bytes) p = (handle_short fileid, (p.1, (omega (arith, p.2), (how_fits synced, p.2))))
speakable_fits (Commit fileid) p = (handle_short fileid, (omega arith, omega arith))
speakable_fits (ReadCall fileid at count) p = (handle_short fileid, (p.1, p.2))

procedure_fits : (call : DsCallValue) → arm_of calls (call_value (nfs_call_of call)) < 2 ^ 32
procedure_fits (Create name owner) = omega arith
procedure_fits (SetAttr fileid owner guard) = omega arith
procedure_fits (Write fileid at synced bytes) = omega arith
procedure_fits (Commit fileid) = omega arith
procedure_fits (ReadCall fileid at count) = omega arith

credential_fits : (m : DsMessage) → HasRecord m → Fits authsys_parms (credential_value (user_credential m.machine m.user))
credential_fits m h = (omega arith, (h.machine_fits, (h.user_fits, (h.user_fits, (omega arith, tt)))))

body_short : (m : DsMessage) → HasRecord m → length (credential_body m.machine m.user) ≤ 400
body_short m h = omega (arith, body_length m.machine m.user, h.machine_fits)

header_fits : (m : DsMessage) → HasRecord m → Fits call_body (body_value (message_call m))
header_fits m h = (omega arith, (omega arith, (procedure_fits m.call, ((omega arith, body_short m h), (omega arith, omega arith)))))

-- ---- each part of an NFSv3 call tells the part of the call

same_number : (a b : ℕ) → a < 2 ^ 64 → b < 2 ^ 64 → fileid_handle a ≡ fileid_handle b → a ≡ b
unfolding long
same_number a b p q e = sym (from_be_bytes-to_be_bytes_8 a p) ∙ ap (from_be_bytes w64) e ∙ from_be_bytes-to_be_bytes_8 b q

same_name : (a b : ℕ) → a < 2 ^ 64 → b < 2 ^ 64 → mirror_name a ≡ mirror_name b → a ≡ b
same_name a b p q e = decimal_injective a b p q (ap (drop 1) e)

same_synced : (a b : Bool) → asked_stability a ≡ asked_stability b → a ≡ b
same_synced true true e = refl
same_synced true false e = absurd cc
same_synced false true e = absurd cc
same_synced false false e = refl

some_same : {A : Type 0} (a b : A) → Some a ≡ Some b → a ≡ b
some_same a b e = cc

-- the user that a call sets, and the parts of its guard
abbrev owner_asked : Nfs3Call → Option ℕ
owner_asked (nfs.Create directory name (Unchecked attributes)) = attributes.uid
owner_asked (nfs.SetAttr file attributes guard) = attributes.uid
owner_asked call = None

abbrev guard_asked : (Time3 → ℕ) → Nfs3Call → Option ℕ
guard_asked part (nfs.SetAttr file attributes guard) = option_map part guard
guard_asked part call = None

same_calls : (c d : DsCallValue) → IsSpeakable c → IsSpeakable d → nfs_call_of c ≡ nfs_call_of d → c ≡ d
same_calls (Create n o) (Create n' o') p q e =
    let names : mirror_name n ≡ mirror_name n' = cc (e) in
    let owners : o ≡ o' = some_same o o' (ap owner_asked e) in
    λ i. Create (same_name n n' p.0 q.0 names i) (owners i)
same_calls (SetAttr f o g) (SetAttr f' o' g') p q e =
    let files : fileid_handle f ≡ fileid_handle f' = cc (e) in
    let owners : o ≡ o' = some_same o o' (ap owner_asked e) in
    let boots : g.boot ≡ g'.boot = some_same g.boot g'.boot (ap (guard_asked (λ t. t.seconds)) e) in
    let counts : g.count ≡ g'.count = some_same g.count g'.count (ap (guard_asked (λ t. t.nanos)) e) in
    λ i. SetAttr (same_number f f' p.0 q.0 files i) (owners i) (record { boot = boots i; count = counts i })
same_calls (Write f a s b) (Write f' a' s' b') p q e =
    let files : fileid_handle f ≡ fileid_handle f' = cc (e) in
    let places : a ≡ a' = cc (e) in
    let hows : asked_stability s ≡ asked_stability s' = cc (e) in
    let bytes : b ≡ b' = cc (e) in
    λ i. Write (same_number f f' p.0 q.0 files i) (places i) (same_synced s s' hows i) (bytes i)
same_calls (Commit f) (Commit f') p q e =
    let files : fileid_handle f ≡ fileid_handle f' = cc (e) in
    λ i. Commit (same_number f f' p q files i)
same_calls (ReadCall f a n) (ReadCall f' a' n') p q e =
    let files : fileid_handle f ≡ fileid_handle f' = cc (e) in
    let places : a ≡ a' = cc (e) in
    let counts : n ≡ n' = cc (e) in
    λ i. ReadCall (same_number f f' p.0 q.0 files i) (places i) (counts i)
same_calls c d p q e = absurd cc

-- ---- the laws

abbrev found : {A : Type 0} (E : Type 0) → A → Result A E
found E a = Ok a

ok_same : {A : Type 0} (E : Type 0) (a b : A) → found E a ≡ found E b → a ≡ b
ok_same E a b e = cc

module _ (header : (c : RpcCall) → IsCallReadAgain c) (arguments : (v : Value calls) → IsWholeArmReadAgain calls v) (known : (c : Nfs3Call) → IsCallOfItsValue c) where
  pub understood : (m : DsMessage) → IsUnderstood m
  understood m = λ h. record {
    header = header (message_call m) h.xid_fits (header_fits m h);
    credential = whole_spelled authsys_parms refl (credential_value (user_credential m.machine m.user)) (credential_fits m h);
    arguments = arguments (call_value (nfs_call_of m.call)) (speakable_fits m.call h.call_fits);
    asked = known (nfs_call_of m.call);
  }

  pub told_apart : (m n : DsMessage) → AreToldApart m n
  told_apart m n = λ h k e.
      let a = understood m h in
      let b = understood n k in
      let same : message_call m ≡ message_call n = ok_same CallFault (message_call m) (message_call n) (sym a.header ∙ ap call_at e ∙ b.header) in
      let xids = ap (λ (r : RpcCall). r.xid) same in
      let who : credential_value (user_credential m.machine m.user) ≡ credential_value (user_credential n.machine n.user) =
      ok_same XdrError _ _ (sym a.credential ∙ ap (λ (r : RpcCall). whole r.cred.body (reading authsys_parms r.cred.body 0)) same ∙ b.credential) in
      let machines = ap (λ (v : Value authsys_parms). v.1.0) who in
      let users = ap (λ (v : Value authsys_parms). v.1.1.0) who in
      let values : call_value (nfs_call_of m.call) ≡ call_value (nfs_call_of n.call) =
      ok_same XdrError _ _ (sym a.arguments ∙ ap (λ (r : RpcCall). whole_arm calls r.procedure r.args) same ∙ b.arguments) in
      let called : nfs_call_of m.call ≡ nfs_call_of n.call = sym a.asked ∙ ap call_of values ∙ b.asked in
      let asked = same_calls m.call n.call h.call_fits k.call_fits called in
      λ i. record { xid = xids i; machine = machines i; user = users i; call = asked i }
