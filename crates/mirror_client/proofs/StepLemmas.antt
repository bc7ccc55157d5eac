-- What was done, and then what follows.
use Rattle.std.proofs.Common.{◌≡◌, ℕ, if◌then◌else◌, false, List, [], ◌∷◌, ◌++◌, map, Option, Some, None, ap, sym, ◌∙◌, subst, append_assoc}
use Rattle.cluster_model.specs.declared.outbox.Outbox.{Outbox}
use Rattle.client_state.specs.ClientStates.{ClientValue, ClientRun}
use Rattle.rpc_record.specs.Replies.{reply_bytes}
use Rattle.cluster_model.specs.declared.ids.NodeId.TheVariants.{Mds}
use Rattle.client_callbacks.specs.Callbacks.{CbReply}
use Rattle.client_callbacks.specs.CallbackSteps.{HasCalledBack}
use Rattle.std.proofs.lemmas.Bool.{eq-eqb}
use Rattle.std.proofs.lemmas.List.{map-append}
use Rattle.client_mds_calls.specs.declared.ask.MdsAsk.{MdsAsk}
use Rattle.client_mds_calls.specs.MdsReplies.{MdsReplyValue}
use Rattle.client_state.specs.declared.asked.Asked.{Asked}
use Rattle.client_answers.specs.ClientAnswers.{mds_answered}
use Rattle.mirror_client.specs.ClientRule.{unless_left, mds_replied, found_call}
use Rattle.client_state.specs.ClientSends.{spelled_send, ClientStep, sends_none, and_then, run_then}
use Rattle.client_calls.specs.ClientCalls.{ends_event}
use Rattle.client_state.specs.QueueSteps.{HasRun, HasStepped}

pub ran_then : (r : ClientRun) (next : ClientValue → ClientStep) (old mid new : Outbox) (c d : ClientValue) → HasRun r old c mid → HasStepped (next c) mid d new → HasStepped (run_then r next) old d new
ran_then r next old mid new c d first second =
    let more = subst (λ (x : ClientValue). HasStepped (next x) mid d new) first.client second in
    record {
      client = more.client;
      entries = more.entries ∙ ap (λ x. x ++ (next r.client).entries) first.entries ∙ append_assoc old.entries.items r.entries (next r.client).entries;
      sends = more.sends ∙ ap (λ x. x ++ map spelled_send (next r.client).sends) first.sends;
    }

-- one step, and then another
pub stepped_then : (s : ClientStep) (next : ClientValue → ClientStep) (old mid new : Outbox) (c d : ClientValue) → HasStepped s old c mid → HasStepped (next c) mid d new → HasStepped (and_then s next) old d new
stepped_then s next old mid new c d first second =
    let more = subst (λ (x : ClientValue). HasStepped (next x) mid d new) first.client second in
    record {
      client = more.client;
      entries = more.entries ∙ ap (λ x. x ++ (next s.client).entries) first.entries ∙ append_assoc old.entries.items s.entries (next s.client).entries;
      sends =
          more.sends ∙ ap (λ x. x ++ map spelled_send (next s.client).sends) first.sends ∙ append_assoc old.sends.items (map spelled_send s.sends) (map spelled_send (next s.client).sends)
          ∙ ap (λ x. old.sends.items ++ x) (sym (map-append spelled_send s.sends (next s.client).sends));
    }

-- a record that is a call: it is answered, and then the calls go out
pub called_back : (k : Option CbReply) (message : List ℕ) (now : ℕ) (old c : ClientValue) (reply : List ℕ) (before mid new : Outbox) (d : ClientValue)
    → HasCalledBack k (Some reply) c old → mid.entries.items ≡ before.entries.items → mid.sends.items ≡ before.sends.items ++ (Mds, reply) ∷ [] → HasStepped (ends_event c) mid d new
    → HasStepped (found_call k message now old) before d new
called_back None message now old c reply before mid new d called entries sends stepped = absurd (cc (called.0))
called_back (Some k) message now old c reply before mid new d called entries sends stepped =
    let rest = subst (λ (x : ClientValue). HasStepped (ends_event x) mid d new) called.1 stepped in
    let same : reply ≡ reply_bytes k.reply = cc (called.0) in
    record {
      client = rest.client;
      entries = rest.entries ∙ ap (λ x. x ++ (ends_event k.client).entries) entries;
      sends =
          rest.sends ∙ ap (λ x. x ++ map spelled_send (ends_event k.client).sends) (sends ∙ ap (λ r. before.sends.items ++ (Mds, r) ∷ []) same)
          ∙ append_assoc before.sends.items ((Mds, reply_bytes k.reply) ∷ []) (map spelled_send (ends_event k.client).sends);
    }

-- a client that has not left
pub still_here : (c : ClientValue) (s : ClientStep) → c.has_left ≡ false → unless_left c s ≡ s
still_here c s here = ap (λ b. if b then sends_none c else s) here

-- a reply to the compound that is outstanding
pub replied_to : (c : ClientValue) (asked : Asked) (xid : ℕ) (reply : MdsAsk → MdsReplyValue) (now : ℕ) (old mid new : Outbox) (e d : ClientValue) → c.asked ≡ Some asked → asked.xid ≡ xid
    → HasRun (mds_answered asked.ask (reply asked.ask) now c) old e mid → HasStepped (ends_event e) mid d new → HasStepped (mds_replied c.asked xid reply now c) old d new
replied_to c asked xid reply now old mid new e d is same ran stepped =
    let step : mds_replied (Some asked) xid reply now c ≡ run_then (mds_answered asked.ask (reply asked.ask) now c) ends_event =
    ap (λ b. if b then run_then (mds_answered asked.ask (reply asked.ask) now c) ends_event else sends_none c) (eq-eqb asked.xid xid same) in
    subst (λ (x : Option Asked). HasStepped (mds_replied x xid reply now c) old d new) (sym is)
    (subst (λ (s : ClientStep). HasStepped s old d new) (sym step)
    (ran_then (mds_answered asked.ask (reply asked.ask) now c) ends_event old mid new e d ran stepped))
