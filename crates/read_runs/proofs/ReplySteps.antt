-- An answer to a call keeps what holds by the history. The awaited call is the send that went out under its number, so what answers a
-- waiting READ is what the mirror that was asked says to it.
use Rattle.std.proofs.Common.{◌≡◌, ℕ, true, List, [], ◌∷◌, ◌++◌, Option, Some, None, refl, sym, ap, subst, ◌∙◌, inl, inr}
use Rattle.std.specs.Prelude.{◌==◌, not}
use Rattle.std.specs.List.{find}
use Rattle.std.proofs.lemmas.Bool.{cond_both, and_parts, eqb-true}
use Rattle.rpc_record.specs.Replies.{RpcReply}
use Rattle.cluster_model.specs.declared.ids.NodeId.{NodeId}
use Rattle.cluster_model.specs.declared.ids.NodeId.TheVariants.{Mds, Server, Client}
use Rattle.cluster_model.specs.declared.ids.FileId.{FileId}
use Rattle.cluster_model.specs.DsCalls.{DsCallValue, Read, DsReplyValue}
use Rattle.cluster_model.specs.Nodes.{is_node}
use Rattle.cluster_model.specs.Members.{IsOneOf}
use Rattle.cluster_laws.proofs.Lists.{all_at}
use Rattle.ds_calls.specs.GivenReplies.{reply_of_call}
use Rattle.file_rule.specs.FilePhases.{Answers}
use Rattle.mds_receive.specs.MdsReceive.{IsReply, incoming_of}
use Rattle.mds_io.specs.Reads.{after_reply}
use Rattle.mds_io.specs.OwnWrites.{after_own_reply}
use Rattle.recall.specs.Recalls as recalls
use Rattle.mds_rule.specs.MdsStates as mds
use Rattle.mds_rule.specs.MdsStates.{WaitingRead, ServedFile, MdsSend, CallsServer, CallsBack, Replies, AwaitedCall, MdsValue, MdsStep, sends_none, served, is_call_to, without_call}
use Rattle.mds_rule.specs.declared.waiter.Waiter.{Waiter}
use Rattle.mds_rule.specs.declared.waiter.Waiter.TheVariants.{ForFile, ForRead, ForWrite, ForRecall}
use Rattle.mds_rule.specs.ServedFiles.{takes_input}
use Rattle.mds_rule.specs.Answers.{is_awaited, fileid_of, attributes_shown, own_answer, sees_size, recall_end, server_answered, answered_as, answers_found, takes_answer}
use Rattle.mds_walk.specs.MdsRuns.{Hears}
use Rattle.mds_walk.proofs.Lists.{found_in, found_passes}
use Rattle.mds_histories.specs.MdsHistory.{MdsItem, Comes, Sends, sends_in}
use Rattle.mds_histories.proofs.Histories.{sends_joined}
use Rattle.read_runs.proofs.WaitingReads.{IsOut, IsWaitingFor}
use Rattle.read_runs.proofs.ReadBecomes.{SaysIt, read_answered}
use Rattle.read_runs.proofs.SentCalls.{IsTo, IsCallSo}
use Rattle.read_runs.proofs.Holding.{IsReadSo, Holds, holds_still, holds_forget}
use Rattle.read_runs.proofs.Steps.{same, silent_keeps, items_in}
use Rattle.read_runs.proofs.ServedSteps.{takes}
use Rattle.read_runs.proofs.CompoundSteps.{sees, write_heard, recalls_step, read_steps}

-- ---- the node, and the send

node_same : (a b : NodeId) → is_node a b ≡ true → b ≡ a
node_same Mds Mds is = refl
node_same Mds (Server k) is = absurd cc
node_same Mds (Client k) is = absurd cc
node_same (Server n) Mds is = absurd cc
node_same (Server n) (Server k) is = ap Server (sym (eqb-true n k is))
node_same (Server n) (Client k) is = absurd cc
node_same (Client n) Mds is = absurd cc
node_same (Client n) (Server k) is = absurd cc
node_same (Client n) (Client k) is = ap Client (sym (eqb-true n k is))

abbrev server_or : ℕ → MdsSend → ℕ
server_or other (CallsServer server xid uid call) = server
server_or other (CallsBack xid back file stateid) = other
server_or other (Replies node reply) = other
server_or other (mds.Answers node bytes) = other

abbrev call_or : DsCallValue → MdsSend → DsCallValue
call_or other (CallsServer server xid uid call) = call
call_or other (CallsBack xid back file stateid) = other
call_or other (Replies node reply) = other
call_or other (mds.Answers node bytes) = other

in_behind : (s : MdsSend) (xs ys : List MdsSend) → IsOneOf s ys → IsOneOf s (xs ++ ys)
in_behind s [] ys inside = inside
in_behind s (x ∷ xs) ys inside = inr (in_behind s xs ys inside)

-- what was asked stands among what was sent
asked_in : (h start since before behind : List MdsItem) (s : MdsSend) → h ≡ start ++ since → since ≡ before ++ Sends s ∷ behind → IsOneOf s (sends_in h)
asked_in h start since before behind s split is =
    subst (λ (ss : List MdsSend). IsOneOf s ss)
    (ap (λ l. sends_in start ++ l) (sym (sends_joined before (Sends s ∷ behind)) ∙ ap sends_in (sym is)) ∙ sym (sends_joined start since) ∙ ap sends_in (sym split))
    (in_behind s (sends_in start) (sends_in before ++ s ∷ sends_in behind) (in_behind s (sends_in before) (s ∷ sends_in behind) (inl refl)))

-- ---- an answer

module _ (past : List MdsItem) (now : ℕ) (node : NodeId) (answer : List ℕ) (reply : RpcReply) (heard : incoming_of answer ≡ IsReply reply) where
  abbrev StepHolds : MdsStep → Type 0
  StepHolds s = Holds s.mds ((past ++ Comes (record { now = now; input = Hears node answer }) ∷ []) ++ items_in s)

  it_came : (m : MdsValue) → Holds m past → Holds m (past ++ Comes (record { now = now; input = Hears node answer }) ∷ [])
  it_came m i = holds_still m.mirrors m.files m.calls m.next_xid past i (Comes (record { now = now; input = Hears node answer }) ∷ []) (tt, tt) refl

  -- to a call that is awaited: who waits is as it was before the call was forgotten
  module _ (m : MdsValue) (i : Holds m past) (call : AwaitedCall) (inside : IsOneOf call m.calls) (its : is_call_to node reply.xid call ≡ true) (server own uid : ℕ) (c : DsCallValue) (sent : call.sent ≡ CallsServer server own uid c) where
    says_it : (file : FileId) (x : MdsValue) (s : ServedFile) (place : ℕ) (r : WaitingRead) (w : IsWaitingFor past file r.compound r.read) (o : IsOut w.start w.since r.read reply.xid)
        → SaysIt past file r.compound r.read now node answer reply (reply_of_call c reply) o.mirror
    says_it file x s place r w o =
        let asked : MdsSend = CallsServer o.mirror.id.server reply.xid 0 (Read o.mirror.id.fileid r.read.at r.read.count) in
        let parts = and_parts (is_node call.node node) (call.xid == reply.xid) its in
        let so : IsCallSo call = i.numbered.are call inside in
        let one : call.sent ≡ asked =
        i.numbered.once call.sent asked reply.xid (i.numbered.were call inside) (asked_in past w.start w.since o.asked.before o.behind asked w.starts.split o.asked.split) (so.number ∙ ap Some (eqb-true call.xid reply.xid parts.1)) refl in
        let same : CallsServer server own uid c ≡ asked = sym sent ∙ one in
        let to : call.node ≡ Server server = subst (IsTo call.node) sent so.node in
        (node_same call.node node parts.0 ∙ to ∙ ap (λ (y : MdsSend). Server (server_or server y)) same, ap (λ (y : MdsSend). reply_of_call (call_or c y) reply) same)

    server_step : (n : MdsValue) → Holds n past → (caller : Waiter) → StepHolds (server_answered now n server reply.xid c (reply_of_call c reply) caller)
    server_step n j (ForFile file) =
        let given : DsReplyValue = own_answer c (reply_of_call c reply) in
        let x : MdsValue = sees_size n file server c given in
        silent_keeps x (takes_input x file (Answers reply.xid given)) (takes x file (Answers reply.xid given) (λ s. tt)) (past ++ Comes (record { now = now; input = Hears node answer }) ∷ [])
        (it_came x (sees n file server c given past j))
    server_step n j (ForRead file) =
        let x : MdsValue = sees_size n file server c (reply_of_call c reply) in
        let k : Holds x past = sees n file server c (reply_of_call c reply) past j in
        read_steps now x file reply.xid (λ r. after_reply r reply.xid (reply_of_call c reply)) (past ++ Comes (record { now = now; input = Hears node answer }) ∷ [])
        (λ s place r at there.
        let w : IsWaitingFor past file r.compound r.read = all_at (IsReadSo past file) s.reads place r (k.files_so file s at).reads there in
        read_answered past file r.compound r.read now node answer reply (reply_of_call c reply) w heard (λ o. says_it file x s place r w o))
        (it_came x k)
    server_step n j (ForWrite file) =
        let given : DsReplyValue = reply_of_call c reply in
        let x : MdsValue = sees_size n file server c given in
        write_heard now x file server (fileid_of c given) (attributes_shown given) (λ w. after_own_reply w reply.xid given) (past ++ Comes (record { now = now; input = Hears node answer }) ∷ [])
        (it_came x (sees n file server c given past j))
    server_step n j ForRecall = same n (past ++ Comes (record { now = now; input = Hears node answer }) ∷ []) (it_came n j)

  answered_step : (m : MdsValue) (i : Holds m past) (call : AwaitedCall) → IsOneOf call m.calls → is_call_to node reply.xid call ≡ true → (n : MdsValue) → Holds n past → (status : ℕ) (sent : MdsSend) → call.sent ≡ sent
      → StepHolds (answered_as now n reply.xid (λ c. reply_of_call c reply) status call.caller sent)
  answered_step m i call inside its n j status (CallsServer server own uid c) sent = server_step m i call inside its server own uid c sent n j call.caller
  answered_step m i call inside its n j status (CallsBack own back file stateid) sent =
      recalls_step n (recalls.after_reply n.recalls reply.xid (recall_end status)) (past ++ Comes (record { now = now; input = Hears node answer }) ∷ []) (it_came n j)
  answered_step m i call inside its n j status (Replies other given) sent = same n (past ++ Comes (record { now = now; input = Hears node answer }) ∷ []) (it_came n j)
  answered_step m i call inside its n j status (mds.Answers other bytes) sent = same n (past ++ Comes (record { now = now; input = Hears node answer }) ∷ []) (it_came n j)

  found_step : (m : MdsValue) → Holds m past → (status : ℕ) (o : Option AwaitedCall) → find (is_call_to node reply.xid) m.calls ≡ o → StepHolds (answers_found now m node reply.xid (λ c. reply_of_call c reply) status o)
  found_step m i status None found = same m (past ++ Comes (record { now = now; input = Hears node answer }) ∷ []) (it_came m i)
  found_step m i status (Some call) found =
      let n : MdsValue = record m { calls = without_call node reply.xid m.calls } in
      let j : Holds n past = holds_forget m.mirrors m.files m.calls m.next_xid past i (λ c. not (is_call_to node reply.xid c)) in
      cond_both (is_awaited m call) (answered_as now n reply.xid (λ c. reply_of_call c reply) status call.caller call.sent) (sends_none n) StepHolds
      (λ is. answered_step m i call (found_in (is_call_to node reply.xid) m.calls call found) (found_passes (is_call_to node reply.xid) m.calls call found) n j status call.sent refl)
      (λ off. same n (past ++ Comes (record { now = now; input = Hears node answer }) ∷ []) (it_came n j))

  -- what holds before it came holds behind what it does
  pub answer_step : (m : MdsValue) → Holds m past → (status : ℕ) → StepHolds (takes_answer now m node reply.xid (λ c. reply_of_call c reply) status)
  answer_step m i status = found_step m i status (find (is_call_to node reply.xid) m.calls) refl
