-- The number that a record of the metadata server has as a call is that of its send; and what is known of all its sends.
use Rattle.std.proofs.Common.{◌≡◌, ◌<◌, ◌≤◌, ℕ, ◌^◌, List, drop, Some, Result, Ok, Err, refl, sym, ap, subst, ◌∙◌, arith}
use Rattle.std.proofs.lemmas.Nat.{from_be_bytes-to_be_bytes_4}
use Rattle.ff_xdr.specs.Form.{Value, word}
use Rattle.ff_xdr.specs.Reading.{Read, reading}
use Rattle.rpc_record.specs.declared.call.CallFault.{CallFault}
use Rattle.rpc_record.specs.declared.call.CallFault.TheVariants.{NotACall, RpcVersion, Bad}
use Rattle.rpc_record.specs.Rpc.{opaque_auth_of}
use Rattle.rpc_record.specs.Calls.{RpcCall, call_body, call_bytes, call_at, word_of, with_body}
use Rattle.rpc_record.specs.Replies.{RpcReply, reply_bytes}
use Rattle.rpc_record.proofs.CallLaws.{Kind, Cut, Other, Headless, Stranger, Ours, kind_of}
use Rattle.cluster_model.specs.declared.ids.NodeId.{NodeId}
use Rattle.cluster_model.specs.Members.{IsOneOf}
use Rattle.ds_calls.specs.MadeCalls.{ds_rpc_call}
use Rattle.recall_calls.specs.RecallCalls.{recall_rpc_call}
use Rattle.mds_rule.specs.MdsStates.{MdsSend, CallsServer, CallsBack, Replies, Answers, new_mds}
use Rattle.mds_rule.specs.Spelled.{mds_name, spelled_send}
use Rattle.mds_walk.specs.MdsRuns.{mds_run}
use Rattle.mds_laws.specs.MdsRunLaws.{number_sent, FitsNumber, NumbersAscend, NumbersFit}
use Rattle.mds_walk.proofs.Lists.{Split, split_in, AllOf, all_in}
use Rattle.mds_histories.specs.MdsHistory.{MdsItem, sends_in, mds_history}
use Rattle.mds_histories.proofs.Histories.{sends_of_run}
use Rattle.node_histories.specs.Weaves.{items_in}
use Rattle.node_histories.specs.NodeHistories.{MdsStory, IsToldByNodes}
use Rattle.world_rule.specs.ClusterWorlds.{ClusterState}
use Rattle.world_moves.proofs.ReplyRecords.{reply_no_call}
use Rattle.world_reads.proofs.RunForms.{IsAnswerForm, Formed, run_formed, AreOnce, run_once}

-- ---- the number of a call

pub call_number : (c : RpcCall) → c.xid < 2 ^ 32 → word_of (call_bytes c) 0 ≡ c.xid
unfolding word word_of
call_number c small = from_be_bytes-to_be_bytes_4 c.xid small

abbrev fine : RpcCall → Result RpcCall CallFault
fine c = Ok c

abbrev failed : CallFault → Result RpcCall CallFault
failed e = Err e

call_is : (x y : RpcCall) → fine x ≡ fine y → x ≡ y
call_is x y is = cc

err_is_no_call : (e : CallFault) (c : RpcCall) → failed e ≡ fine c → ⊥
err_is_no_call e c is = absurd cc

body_number : (xid : ℕ) (bytes : List ℕ) (r : Read (Value call_body)) (c : RpcCall) → with_body xid bytes r ≡ Ok c → c.xid ≡ xid
body_number xid bytes (Ok ((program, (version, (procedure, (cred, verf)))), at)) c is =
    subst (λ (x : RpcCall). x.xid ≡ xid)
    (call_is (record { xid = xid; program = program; version = version; procedure = procedure; cred = opaque_auth_of cred; verf = opaque_auth_of verf; args = drop at bytes }) c is) refl
body_number xid bytes (Err e) c is = absurd (err_is_no_call (Bad xid e) c is)

pub call_word : (bytes : List ℕ) (c : RpcCall) → call_at bytes ≡ Ok c → c.xid ≡ word_of bytes 0
call_word bytes c is = by_kind (kind_of bytes)
  where
    by_kind : Kind bytes → c.xid ≡ word_of bytes 0
    by_kind (Cut lt err) = absurd (err_is_no_call NotACall c (sym err ∙ is))
    by_kind (Other le ne err) = absurd (err_is_no_call NotACall c (sym err ∙ is))
    by_kind (Headless lt e le zero err) = absurd (err_is_no_call (Bad (word_of bytes 0) e) c (sym err ∙ is))
    by_kind (Stranger le zero ne err) = absurd (err_is_no_call (RpcVersion (word_of bytes 0)) c (sym err ∙ is))
    by_kind (Ours le zero two body) = body_number (word_of bytes 0) bytes (reading call_body bytes 12) c (sym body ∙ is)

pub reply_is_no_call : (r : RpcReply) (bytes : List ℕ) (c : RpcCall) → bytes ≡ reply_bytes r → call_at bytes ≡ Ok c → ⊥
reply_is_no_call r bytes c same is = err_is_no_call NotACall c (sym (reply_no_call r) ∙ (ap call_at (sym same) ∙ is))

spelled_number : (call c : RpcCall) (bytes : List ℕ) → call.xid < 2 ^ 32 → bytes ≡ call_bytes call → call_at bytes ≡ Ok c → call.xid ≡ c.xid
spelled_number call c bytes small same is = sym (call_number call small) ∙ (ap (λ (l : List ℕ). word_of l 0) (sym same) ∙ sym (call_word bytes c is))

-- as a call it has the number under which it was sent
pub sent_number : (s : MdsSend) (bytes : List ℕ) → (spelled_send s).1 ≡ bytes → IsAnswerForm s → FitsNumber (number_sent s) → (c : RpcCall) → call_at bytes ≡ Ok c → number_sent s ≡ Some c.xid
sent_number (CallsServer server xid uid call) bytes same form fits c is =
    let few : xid ≤ 4294967295 = fits.1 in
    ap (λ (n : ℕ). Some n) (spelled_number (ds_rpc_call xid mds_name uid call) c bytes (omega (arith, few)) (sym same) is)
sent_number (CallsBack xid back file stateid) bytes same form fits c is =
    let few : xid ≤ 4294967295 = fits.1 in
    ap (λ (n : ℕ). Some n) (spelled_number (recall_rpc_call xid back file stateid) c bytes (omega (arith, few)) (sym same) is)
sent_number (Replies node reply) bytes same form fits c is = absurd (reply_is_no_call reply bytes c (sym same) is)
sent_number (Answers node record_bytes) bytes same form fits c is = absurd (reply_is_no_call form.reply bytes c (sym same ∙ form.is) is)

-- ---- all sends of a story

pub record StoryFacts (s : MdsStory) : Type 0 where
  pub mirrors : (mds_run s.servers s.mirrors s.events).mds.mirrors ≡ s.mirrors
  pub once : AreOnce (sends_in (items_in s.steps))
  pub form : (send : MdsSend) → IsOneOf send (sends_in (items_in s.steps)) → IsAnswerForm send
  pub fits : (send : MdsSend) → IsOneOf send (sends_in (items_in s.steps)) → FitsNumber (number_sent send)

pub story_facts : (w : ClusterState) (t : IsToldByNodes w) → NumbersAscend t.mds.servers t.mds.mirrors t.mds.events → NumbersFit t.mds.servers t.mds.mirrors t.mds.events → StoryFacts t.mds
story_facts w t ascend fit =
    let s : MdsStory = t.mds in
    let same : (mds_run s.servers s.mirrors s.events).sends ≡ sends_in (items_in s.steps) =
    sym (sends_of_run (new_mds s.servers s.mirrors) s.events) ∙ ap (λ (l : List MdsItem). sends_in l) t.mds_is.history in
    let formed : Formed s.mirrors (mds_run s.servers s.mirrors s.events).mds.mirrors (mds_run s.servers s.mirrors s.events).mds.calls (mds_run s.servers s.mirrors s.events).sends = run_formed s.mirrors s.servers s.events in
    record {
      mirrors = formed.stays;
      once = subst AreOnce same (run_once s.servers s.mirrors s.events ascend);
      form = λ send inside. all_in IsAnswerForm (sends_in (items_in s.steps)) send (subst (λ (l : List MdsSend). AllOf IsAnswerForm l) same formed.forms) inside;
      fits = λ send inside. (
          let p : Split send (sends_in (items_in s.steps)) = split_in send (sends_in (items_in s.steps)) inside in
          fit p.front p.behind send (same ∙ p.is)
          );
    }
