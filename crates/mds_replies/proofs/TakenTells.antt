-- The reply to a client's LAYOUTGET or LAYOUTRETURN that takes effect tells the slot that it was taken.
use Rattle.std.proofs.Common.{◌≡◌, ℕ, true, List, [], ◌∷◌, length, ap, ◌∙◌, inl}
use Rattle.ff_xdr.specs.Arms.{arm}
use Rattle.ff_xdr.specs.Form.{Value}
use Rattle.rpc_record.specs.Replies.{RpcReply}
use Rattle.cluster_model.specs.declared.ids.NodeId.{NodeId}
use Rattle.cluster_model.specs.Members.{IsOneOf}
use Rattle.device_addr.specs.Universal.{AddressValue}
use Rattle.nfs4_types.specs.declared.ids.SessionId.{SessionId}
use Rattle.nfs4_types.specs.declared.status.Stat4.{Stat4}
use Rattle.nfs4_types.specs.declared.status.Stat4.TheVariants as stat
use Rattle.nfs4_types.specs.Status.{stat4_number}
use Rattle.nfs4_compound.specs.Results.{resop4}
use Rattle.nfs4_session.specs.Slots.{TakesEffect}
use Rattle.nfs4_session.specs.Requests.{request_answer, pass_of}
use Rattle.nfs4_session.specs.Bindings.{after_binding}
use Rattle.client_mds_calls.specs.declared.reply.SlotReport.TheVariants.{Taken}
use Rattle.client_mds_calls.specs.FittingCalls.{FitsRequest}
use Rattle.client_mds_calls.specs.MdsCalls.{SlotCallValue, OnSlot, ask_on_slot}
use Rattle.client_mds_calls.specs.MdsCalls as slot
use Rattle.client_mds_calls.specs.MdsCompounds.{slot_ops}
use Rattle.client_mds_calls.specs.MdsReplies.{reply_of_ask}
use Rattle.mds_rule.specs.MdsStates.{Replies, MdsValue}
use Rattle.mds_rule.specs.LayoutOps.{layout_of_file, no_stateid}
use Rattle.mds_rule.specs.Compounds.{runs, sequence_result}
use Rattle.mds_walk.specs.MdsRuns.{MdsEvent, after_event}
use Rattle.mds_replies.specs.ClientCalls.{IsCallFrom, server_after, IsEventOf}
use Rattle.mds_replies.specs.SlotReplies.{request_of, EffectsAreNumbered}
use Rattle.mds_replies.specs.AnsweredRequests.{AreFitCalls, StaysRoomy}
use Rattle.mds_replies.proofs.TakenRequests.{taken_mds, taken_compound, HasEnded}
use Rattle.mds_replies.proofs.LayoutGetRuns.{GetEnds, IsRefused, Grants}
use Rattle.mds_replies.proofs.ReportedMirrors.{errors_for}
use Rattle.mds_replies.proofs.LayoutReturnRuns.{given_step, ReturnEnds, Accepts}
use Rattle.mds_replies.proofs.LayoutReturnRuns as giving
use Rattle.mds_replies.proofs.LegibleReplies.{tells_fitting}
use Rattle.mds_replies.proofs.SlotHistories.{is_layout_call}
use Rattle.mds_replies.proofs.TakenMeans.{own_reply, get_of, return_of}

module _ (numbered : EffectsAreNumbered) (servers : List AddressValue) (mirrors : ℕ) (events early late : List MdsEvent) (f : MdsEvent) (fit : AreFitCalls events) (roomy : StaysRoomy servers mirrors events)
    (split : IsEventOf events early f late) (node : NodeId) (xid : ℕ) (name : List ℕ) (session : SessionId) (number : ℕ) where
  ended_tells : (call : SlotCallValue) (came : IsCallFrom f node xid name (OnSlot session number call))
      (effect : request_answer (after_binding (server_after servers mirrors early).sessions session node) (request_of session number call) ≡ TakesEffect) (its_id : length session.0 ≡ 16) (n : MdsValue) (results : List (Value resop4)) (status : Stat4)
      → HasEnded (taken_mds f.now (server_after servers mirrors early) node session number call) n node xid (pass_of (request_of session number call)) results status
      (runs f.now (slot_ops name call) (taken_mds f.now (server_after servers mirrors early) node session number call) (taken_compound node xid name session number call))
      → (reply : RpcReply) → IsOneOf (Replies node reply) (after_event f (server_after servers mirrors early)).sends → (c : SlotCallValue) → (reply_of_ask (ask_on_slot c) reply).slot ≡ Taken
  ended_tells call came effect its_id n results status ended reply sent c =
      ap (λ (r : RpcReply). (reply_of_ask (ask_on_slot c) r).slot) (own_reply numbered servers mirrors events early late f fit roomy split node xid name session number call came effect its_id n results status ended reply sent)
      ∙ tells_fitting (stat4_number status) results ended.fits ended.taken c xid

  pub layout_tells : (call : SlotCallValue) → is_layout_call call ≡ true → IsCallFrom f node xid name (OnSlot session number call)
      → request_answer (after_binding (server_after servers mirrors early).sessions session node) (request_of session number call) ≡ TakesEffect → FitsRequest (OnSlot session number call)
      → (reply : RpcReply) → IsOneOf (Replies node reply) (after_event f (server_after servers mirrors early)).sends → (c : SlotCallValue) → (reply_of_ask (ask_on_slot c) reply).slot ≡ Taken
  layout_tells (slot.LayoutGet file) on came effect fits reply sent c =
      by_end (get_of numbered servers mirrors events early late f fit roomy split node xid name session number file came effect fits.0 fits.1)
    where
      by_end : GetEnds (taken_mds f.now (server_after servers mirrors early) node session number (slot.LayoutGet file)) node xid (pass_of (request_of session number (slot.LayoutGet file)))
          (sequence_result (request_of session number (slot.LayoutGet file))) file.file
          (runs f.now (slot_ops name (slot.LayoutGet file)) (taken_mds f.now (server_after servers mirrors early) node session number (slot.LayoutGet file)) (taken_compound node xid name session number (slot.LayoutGet file)))
          → (reply_of_ask (ask_on_slot c) reply).slot ≡ Taken
      by_end (IsRefused n results status ended some short) = ended_tells (slot.LayoutGet file) came effect fits.0 n results status ended reply sent c
      by_end (Grants n got ended) =
          ended_tells (slot.LayoutGet file) came effect fits.0 n (sequence_result (request_of session number (slot.LayoutGet file)) ∷ arm 22 resop4 (inl tt) ∷ layout_of_file file.file got.its ∷ []) stat.Ok ended reply sent c
  layout_tells (slot.LayoutReturn file stateid failed) on came effect fits reply sent c =
      by_end (return_of numbered servers mirrors events early late f fit roomy split node xid name session number file stateid failed came effect fits.0 fits.1)
    where
      by_end : ReturnEnds (taken_mds f.now (server_after servers mirrors early) node session number (slot.LayoutReturn file stateid failed)) node xid (pass_of (request_of session number (slot.LayoutReturn file stateid failed)))
          (sequence_result (request_of session number (slot.LayoutReturn file stateid failed))) file stateid failed
          (runs f.now (slot_ops name (slot.LayoutReturn file stateid failed)) (taken_mds f.now (server_after servers mirrors early) node session number (slot.LayoutReturn file stateid failed))
          (taken_compound node xid name session number (slot.LayoutReturn file stateid failed)))
          → (reply_of_ask (ask_on_slot c) reply).slot ≡ Taken
      by_end (giving.IsRefused n results status ended some none entries) = ended_tells (slot.LayoutReturn file stateid failed) came effect fits.0 n results status ended reply sent c
      by_end (Accepts given ended entries) =
          ended_tells (slot.LayoutReturn file stateid failed) came effect fits.0 (given_step (taken_mds f.now (server_after servers mirrors early) node session number (slot.LayoutReturn file stateid failed)) file given.its (errors_for stateid failed)).mds
          (sequence_result (request_of session number (slot.LayoutReturn file stateid failed)) ∷ arm 22 resop4 (inl tt) ∷ no_stateid ∷ []) stat.Ok ended reply sent c
  layout_tells slot.ReclaimComplete on came effect fits reply sent c = absurd cc
  layout_tells (slot.Open text) on came effect fits reply sent c = absurd cc
  layout_tells (slot.DeviceInfo numbers) on came effect fits reply sent c = absurd cc
  layout_tells (slot.Write file at bytes) on came effect fits reply sent c = absurd cc
  layout_tells (slot.Read file at count) on came effect fits reply sent c = absurd cc
  layout_tells slot.Renew on came effect fits reply sent c = absurd cc
