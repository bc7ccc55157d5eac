-- The reply that says an answer comes to that answer.
use Rattle.std.proofs.Common.{◌≡◌, ℕ, ◌^◌, ◌<◌, ◌≤◌, Bool, true, false, cond, ◌||◌, eqb, List, [], ◌∷◌, length, map, Option, Some, None, refl, sym, ap, ◌∙◌, arith, inl, inr}
use Rattle.std.specs.Prelude.{IsTrue, ◌≢◌}
use Rattle.std.specs.List.{list_any}
use Rattle.std.specs.Option.{option_map}
use Rattle.std.proofs.lemmas.Bool.{eqb-true, eq-eqb, ne_eqb, le-leb}
use Rattle.std.proofs.lemmas.Nat.{from_be_bytes-to_be_bytes_8}
use Rattle.ff_xdr.specs.Form.{Form, Optional, Value, Fits, is_sound, spelling, long}
use Rattle.rpc_record.specs.Replies.{RpcReply}
use Rattle.rpc_record.specs.Laws.{IsReplyReadAgain}
use Rattle.nfs3_wire.specs.declared.attributes.Fattr3.{Fattr3}
use Rattle.nfs3_wire.specs.declared.status.Stat3.{Stat3}
use Rattle.nfs3_wire.specs.Attributes.{fattr3_value}
use Rattle.nfs3_wire.specs.Status.{stat_number}
use Rattle.nfs3_wire.specs.Wcc.{post_op_value, wcc_attr, wcc_attr_value, wcc_data, wcc_data_value}
use Rattle.nfs3_wire.specs.Create.{create_result}
use Rattle.nfs3_wire.specs.Setattr.{setattr_result}
use Rattle.nfs3_wire.specs.Write.{write_result}
use Rattle.nfs3_wire.specs.Commit.{commit_result}
use Rattle.nfs3_wire.specs.Read.{read_result}
use Rattle.nfs3_wire.specs.Stability.{stable_how_number}
use Rattle.nfs3_wire.specs.Replies.{nfs3_results, reply_value}
use Rattle.cluster_model.specs.declared.ds_call.Shown.{Shown}
use Rattle.cluster_model.specs.DsCalls.{DsCallValue, Create, SetAttr, Write, Commit, Read, DsReplyValue, Created, Set, Written, Committed, Bytes, NotSync, Failed}
use Rattle.ds_calls.specs.MadeCalls.{fileid_handle, asked_stability}
use Rattle.ds_calls.specs.GivenReplies.{shown_where, handle_fileid, created_as, setattr_answer, write_answer, commit_answer, read_answer, create_answer, answer_by, in_form, reply_of_call}
use Rattle.ds_calls.specs.DsCallLaws.{IsRefusalNumber, IsAnswerTo, refusal_statuses, status_in, status_by, showing, wcc_showing, AttributesBeside, nfs_reply_of, ds_rpc_reply, IsAnswered}
use Rattle.ds_calls.proofs.DsCallsAgain.{whole_spelled}

-- ---- statuses, handles and what is shown

one_status : (n : ℕ) (s : Stat3) (others : List Stat3) → (list_any (eqb n) (map stat_number others) ≡ true → stat_number (status_in others n) ≡ n)
    → (t : Bool) → eqb n (stat_number s) ≡ t → (t || list_any (eqb n) (map stat_number others)) ≡ true → stat_number (cond t s (status_in others n)) ≡ n
one_status n s others behind true is some = sym (eqb-true n (stat_number s) is)
one_status n s others behind false is some = behind some

status_found : (statuses : List Stat3) (n : ℕ) → list_any (eqb n) (map stat_number statuses) ≡ true → stat_number (status_in statuses n) ≡ n
status_found [] n some = absurd cc
status_found (s ∷ others) n some = one_status n s others (status_found others n) (eqb n (stat_number s)) refl some

status_back : (n : ℕ) → IsRefusalNumber n → stat_number (status_by n) ≡ n
status_back n some = status_found refusal_statuses n some

handle_back : (fileid : ℕ) → fileid < 2 ^ 64 → handle_fileid (fileid_handle fileid) ≡ Some fileid
unfolding long
handle_back fileid h = ap Some (from_be_bytes-to_be_bytes_8 fileid h)

shown_back : (any : Fattr3) (shown : Option Shown) → shown_where (post_op_value (option_map (showing any) shown)) ≡ shown
shown_back any None = refl
shown_back any (Some s) = refl

-- ---- what the values of results come to

failed_back : (any : Fattr3) (n : ℕ) (shown : Option Shown) → IsRefusalNumber n → Failed (stat_number (status_by n)) (shown_where (post_op_value (option_map (showing any) shown))) ≡ Failed n shown
failed_back any n shown some = λ i. Failed (status_back n some i) (shown_back any shown i)

unsynced_back : (any : Fattr3) (before : Value (Optional wcc_attr)) (n : ℕ) (shown : Option Shown) → IsRefusalNumber n → n ≢ 10002
    → setattr_answer (inr (stat_number (status_by n), (before, post_op_value (option_map (showing any) shown)))) ≡ Failed n shown
unsynced_back any before n shown some other =
    let test : eqb (stat_number (status_by n)) 10002 ≡ false = ap (λ (k : ℕ). eqb k 10002) (status_back n some) ∙ ne_eqb n 10002 other in
    rw test (failed_back any n shown some)

written_back : (any : Fattr3) (before : Value (Optional wcc_attr)) (synced : Bool) (size : ℕ) (shown : Option Shown) (verifier : ℕ)
    → write_answer synced size (inl ((before, post_op_value (option_map (showing any) shown)), (size, (stable_how_number (asked_stability synced), verifier)))) ≡ Written shown verifier
written_back any before true size shown verifier = rw (eq-eqb size size refl) (ap (λ (s : Option Shown). Written s verifier) (shown_back any shown))
written_back any before false size shown verifier = rw (eq-eqb size size refl) (ap (λ (s : Option Shown). Written s verifier) (shown_back any shown))

read_back : (any : Fattr3) (asked : ℕ) (shown : Option Shown) (eof : Bool) (bytes : List ℕ) → length bytes ≤ asked
    → read_answer asked (inl (post_op_value (option_map (showing any) shown), (length bytes, (eof, bytes)))) ≡ Bytes shown eof bytes
read_back any asked shown eof bytes few =
    rw (eq-eqb (length bytes) (length bytes) refl, le-leb (length bytes) asked few) (ap (λ (s : Option Shown). Bytes s eof bytes) (shown_back any shown))

-- ---- the results in their form

given : (form : Form) → IsTrue (is_sound form) → (answer : Value form → DsReplyValue) (v : Value form) → Fits form v → in_form form answer (spelling form v) ≡ answer v
given form sound answer v fits = ap (answer_by answer) (whole_spelled form sound v fits)

-- the attributes before and after, of an object and of the directory
abbrev wcc : AttributesBeside → Option Shown → Value wcc_data
wcc b shown = wcc_data_value (wcc_showing b shown)

answer_back : (b : AttributesBeside) (call : DsCallValue) (reply : DsReplyValue) (xid : ℕ) → IsAnswerTo call reply → Fits nfs3_results (reply_value (nfs_reply_of b call reply))
    → reply_of_call call (ds_rpc_reply xid (nfs_reply_of b call reply)) ≡ reply
answer_back b (Create name owner) (Created fileid shown) xid is fits =
    given create_result refl create_answer (inl (Some (fileid_handle fileid), (Some (fattr3_value (showing b.attributes shown)), wcc_data_value b.directory))) fits
    ∙ ap (λ (o : Option ℕ). created_as o shown) (handle_back fileid is)
answer_back b (Create name owner) (Failed n None) xid is fits =
    given create_result refl create_answer (inr (stat_number (status_by n), wcc_data_value b.directory)) fits ∙ ap (λ (k : ℕ). Failed k None) (status_back n is)
answer_back b (SetAttr fileid owner guard) (Set shown) xid is fits = given setattr_result refl setattr_answer (inl (wcc b shown)) fits ∙ ap Set (shown_back b.attributes shown)
answer_back b (SetAttr fileid owner guard) (NotSync shown) xid is fits = given setattr_result refl setattr_answer (inr (10002, wcc b (Some shown))) fits
answer_back b (SetAttr fileid owner guard) (Failed n shown) xid is fits =
    given setattr_result refl setattr_answer (inr (stat_number (status_by n), wcc b shown)) fits ∙ unsynced_back b.attributes (option_map wcc_attr_value b.before) n shown is.0 is.1
answer_back b (Write fileid at synced bytes) (Written shown verifier) xid is fits =
    given write_result refl (write_answer synced (length bytes)) (inl (wcc b shown, (length bytes, (stable_how_number (asked_stability synced), verifier)))) fits
    ∙ written_back b.attributes (option_map wcc_attr_value b.before) synced (length bytes) shown verifier
answer_back b (Write fileid at synced bytes) (Failed n shown) xid is fits =
    given write_result refl (write_answer synced (length bytes)) (inr (stat_number (status_by n), wcc b shown)) fits ∙ failed_back b.attributes n shown is
answer_back b (Commit fileid) (Committed shown verifier) xid is fits =
    given commit_result refl commit_answer (inl (wcc b shown, verifier)) fits ∙ ap (λ (s : Option Shown). Committed s verifier) (shown_back b.attributes shown)
answer_back b (Commit fileid) (Failed n shown) xid is fits =
    given commit_result refl commit_answer (inr (stat_number (status_by n), wcc b shown)) fits ∙ failed_back b.attributes n shown is
answer_back b (Read fileid at count) (Bytes shown eof bytes) xid is fits =
    given read_result refl (read_answer count) (inl (post_op_value (option_map (showing b.attributes) shown), (length bytes, (eof, bytes)))) fits
    ∙ read_back b.attributes count shown eof bytes is
answer_back b (Read fileid at count) (Failed n shown) xid is fits =
    given read_result refl (read_answer count) (inr (stat_number (status_by n), post_op_value (option_map (showing b.attributes) shown))) fits ∙ failed_back b.attributes n shown is
answer_back b call reply xid is fits = absurd is

-- ---- the law

module _ (header : (r : RpcReply) → IsReplyReadAgain r) where
  pub is_answered : (xid : ℕ) (b : AttributesBeside) (call : DsCallValue) (reply : DsReplyValue) → IsAnswered xid b call reply
  is_answered xid b call reply = λ small is fits. record {
    record_again = header (ds_rpc_reply xid (nfs_reply_of b call reply)) ((small, (refl, ((omega arith, omega arith), tt))), tt, tt);
    answer = answer_back b call reply xid is fits;
  }
