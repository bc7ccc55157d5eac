-- A client's request on a slot that takes effect: the run of its operations behind the SEQUENCE, and how it ends.
use Rattle.std.proofs.Common.{◌≡◌, ◌<◌, ℕ, Bool, true, false, cond, List, [], ◌∷◌, length, Option, Some, None, refl, sym, ap, subst, inl}
use Rattle.std.specs.Prelude.{◌==◌, ◌^◌}
use Rattle.std.proofs.lemmas.Bool.{cond_both}
use Rattle.std.proofs.lemmas.Nat.{from_be_bytes-to_be_bytes_8}
use Rattle.ff_xdr.specs.Arms.{arm}
use Rattle.ff_xdr.specs.Form.{Value, Fits, spelling, long}
use Rattle.cluster_model.specs.declared.ids.NodeId.{NodeId}
use Rattle.cluster_model.specs.declared.ids.FileId.{FileId}
use Rattle.nfs4_types.specs.declared.ids.SessionId.{SessionId}
use Rattle.nfs4_types.specs.declared.status.Stat4.{Stat4}
use Rattle.nfs4_types.specs.declared.status.Stat4.TheVariants as stat
use Rattle.nfs4_types.specs.Status.{stat4_number}
use Rattle.nfs4_types.specs.Handles.{file_handle_of, file_number_of}
use Rattle.nfs4_compound.specs.declared.stop.Stop.TheVariants as stop
use Rattle.nfs4_compound.specs.Args.{argop4}
use Rattle.nfs4_compound.specs.Results.{resop4}
use Rattle.nfs4_compound.specs.Compounds.{compound4_res}
use Rattle.compound_reply.specs.Replied.{success_reply}
use Rattle.nfs4_session.specs.declared.begin.SlotPass.{SlotPass}
use Rattle.nfs4_session.specs.Slots.{SlotAnswer, TakesEffect}
use Rattle.nfs4_session.specs.Requests.{request_answer, after_request, pass_of}
use Rattle.nfs4_session.specs.Bindings.{after_binding}
use Rattle.client_file_calls.specs.FileOps.{put_fh_op}
use Rattle.client_mds_calls.specs.declared.reply.SlotReport.TheVariants.{Taken}
use Rattle.client_mds_calls.specs.MdsReplies.{slot_answer_of}
use Rattle.client_mds_calls.specs.MdsCalls.{SlotCallValue, OnSlot, is_kept_reply}
use Rattle.client_mds_calls.specs.MdsCompounds.{slot_ops, mds_ops}
use Rattle.mds_refusals.specs.declared.object.Object.{Object}
use Rattle.mds_refusals.specs.declared.object.Object.TheVariants.{Root, File}
use Rattle.mds_refusals.specs.Orders.{is_root, is_file, file_of, refusal}
use Rattle.mds_refusals.specs.PutFh.{object_numbered, object_at, object_of, put_fh_order}
use Rattle.mds_rule.specs.MdsStates.{CompoundRun, Replies, MdsValue, MdsStep, enters}
use Rattle.mds_rule.specs.OpSteps.{OpStep, refuses, refused_as, refused_or}
use Rattle.mds_rule.specs.FileOps.{put_object, file_or_none}
use Rattle.mds_rule.specs.Compounds.{operate, has_session, kept_in_slot, sequence_result, op_then, runs, sequenced}
use Rattle.mds_replies.specs.SlotReplies.{request_of}
use Rattle.mds_replies.proofs.ReplyForms.{IsRefusal, in_order}
use Rattle.mds_replies.proofs.ReplySent.{run_of_call}
use Rattle.mds_replies.proofs.SameTables.{SameTable}

-- ---- the run

-- behind the request, the server and the run of its compound
abbrev pub taken_mds : ℕ → MdsValue → NodeId → SessionId → ℕ → SlotCallValue → MdsValue
taken_mds now m node session number call = record m { sessions = after_request (after_binding m.sessions session node) (request_of session number call) now }

abbrev pub run_with : NodeId → ℕ → SlotPass → Bool → List (Value argop4) → List (Value resop4) → Option Object → CompoundRun
run_with node xid pass kept ops results current =
    record { node = node; xid = xid; tag = []; ops = ops; stop = stop.End None; results = results; slot = Some pass; is_kept = kept; current = current }

abbrev pub taken_compound : NodeId → ℕ → List ℕ → SessionId → ℕ → SlotCallValue → CompoundRun
taken_compound node xid name session number call =
    run_with node xid (pass_of (request_of session number call)) (is_kept_reply call) (mds_ops name (OnSlot session number call)) (sequence_result (request_of session number call) ∷ []) None

pub taken_is : (now : ℕ) (m : MdsValue) (node : NodeId) (xid : ℕ) (name : List ℕ) (session : SessionId) (number : ℕ) (call : SlotCallValue)
    → request_answer (after_binding m.sessions session node) (request_of session number call) ≡ TakesEffect
    → run_of_call now m node xid name (OnSlot session number call) ≡ runs now (slot_ops name call) (taken_mds now m node session number call) (taken_compound node xid name session number call)
taken_is now m node xid name session number call effect =
    ap (λ (a : SlotAnswer). sequenced now (record m { sessions = after_binding m.sessions session node })
    (record { node = node; xid = xid; tag = []; ops = mds_ops name (OnSlot session number call); stop = stop.End None; results = []; slot = None; is_kept = false; current = None })
    (slot_ops name call) (request_of session number call) a) effect

-- ---- how it ends

-- The compound ended by this status and with these results, of which the first is the SEQUENCE's: its slot keeps the reply, which is all that is
-- sent. `n` is the server behind the operations.
pub record HasEnded (m n : MdsValue) (node : NodeId) (xid : ℕ) (pass : SlotPass) (results : List (Value resop4)) (status : Stat4) (step : MdsStep) : Type 0 where
  pub mds : step.mds ≡ record n { sessions = kept_in_slot n.sessions (Some pass) (spelling compound4_res (stat4_number status, ([], results))) }
  pub sends : step.sends ≡ Replies node (success_reply xid (spelling compound4_res (stat4_number status, ([], results)))) ∷ []
  pub same : SameTable m n
  pub taken : slot_answer_of results ≡ Taken
  pub fits : Fits compound4_res (stat4_number status, ([], results))

-- ---- PUTFH in front of another operation

handle_again : (file : ℕ) → file < 2 ^ 64 → file_number_of (long file) ≡ Some file
unfolding long
handle_again file small = ap Some (from_be_bytes-to_be_bytes_8 file small)

pub object_is : (file : FileId) → file.0 < 2 ^ 64 → object_of (file_handle_of file.0) ≡ Some (object_numbered file.0)
object_is file small = ap object_at (handle_again file.0 small)

-- where it is not the root's, it is the file
pub numbered_file : (file : FileId) → is_root (Some (object_numbered file.0)) ≡ false → file_or_none (file_of (Some (object_numbered file.0))) ≡ file
numbered_file file = cond_both (file.0 == 0) Root (File file) (λ (o : Object). is_root (Some o) ≡ false → file_or_none (file_of (Some o)) ≡ file) (λ is. λ off. absurd cc) (λ some. λ off. refl)

pub numbered_its : (file : FileId) → is_file (Some (object_numbered file.0)) ≡ true → file_or_none (file_of (Some (object_numbered file.0))) ≡ file
numbered_its file = cond_both (file.0 == 0) Root (File file) (λ (o : Object). is_file (Some o) ≡ true → file_or_none (file_of (Some o)) ≡ file) (λ is. λ on. absurd cc) (λ some. λ on. refl)

pub numbered_some : (file : FileId) → (file.0 == 0) ≡ false → object_numbered file.0 ≡ File file
numbered_some file some = ap (λ (b : Bool). cond b Root (File file)) some

-- it is refused by another status than BAD_STATEID
abbrev IsPutRefusal : Stat4 → Type 0
IsPutRefusal status = IsRefusal 22 status × ((stat4_number status == 10025) ≡ false)

put_fh_statuses : (file : FileId) (files : ℕ) (status : Stat4) → refusal (put_fh_order (file_handle_of file.0) files) ≡ Some status → IsPutRefusal status
put_fh_statuses file files status is =
    in_order IsPutRefusal (put_fh_order (file_handle_of file.0) files)
    ((record { some = refl; its_number = refl; fits = refl }, refl), ((record { some = refl; its_number = refl; fits = refl }, refl), tt)) status is

module _ (now : ℕ) (m : MdsValue) (node : NodeId) (xid : ℕ) (pass : SlotPass) (kept : Bool) (ops : List (Value argop4)) (first : Value resop4) (P : MdsStep → Type 0)
    (refused : (status : Stat4) → IsRefusal 22 status → (stat4_number status == 10025) ≡ false → P (enters [] (record {
      mds = record m { sessions = kept_in_slot m.sessions (Some pass) (spelling compound4_res (stat4_number status, ([], first ∷ refused_as 22 status ∷ []))) };
      entries = [];
      sends = Replies node (success_reply xid (spelling compound4_res (stat4_number status, ([], first ∷ refused_as 22 status ∷ [])))) ∷ [];
    })))
    (file : FileId) (small : file.0 < 2 ^ 64) (next : Value argop4)
    (goes_on : P (enters [] (runs now (next ∷ []) m (run_with node xid pass kept (next ∷ []) (first ∷ arm 22 resop4 (inl tt) ∷ []) (Some (object_numbered file.0)))))) where
  abbrev Then : OpStep → Type 0
  Then s = P (op_then s (λ n d. runs now (next ∷ []) n d))

  put_so : (o : Option Object) → o ≡ Some (object_numbered file.0) → Then (put_object m (run_with node xid pass kept (next ∷ []) (first ∷ []) None) o)
  put_so o is = subst (λ (x : Option Object). Then (put_object m (run_with node xid pass kept (next ∷ []) (first ∷ []) None) x)) (sym is) goes_on

  by_status : (status : Option Stat4) → refusal (put_fh_order (file_handle_of file.0) (length m.files)) ≡ status
      → Then (refused_or m (run_with node xid pass kept (next ∷ []) (first ∷ []) None) 22 status (put_object m (run_with node xid pass kept (next ∷ []) (first ∷ []) None) (object_of (file_handle_of file.0))))
  by_status None is = put_so (object_of (file_handle_of file.0)) (object_is file small)
  by_status (Some status) is = let r = put_fh_statuses file (length m.files) status is in refused status r.0 r.1

  -- the file is put, or the compound ends by a refusal
  pub put_first : P (runs now (put_fh_op file ∷ next ∷ []) m (run_with node xid pass kept ops (first ∷ []) None))
  put_first =
      cond_both (has_session m (Some pass)) (operate now m (run_with node xid pass kept (next ∷ []) (first ∷ []) None) (put_fh_op file))
      (refuses m (run_with node xid pass kept (next ∷ []) (first ∷ []) None) 22 stat.BadSession) Then
      (λ is. by_status (refusal (put_fh_order (file_handle_of file.0) (length m.files))) refl)
      (λ off. refused stat.BadSession (record { some = refl; its_number = refl; fits = refl }) refl)
