-- What each input keeps, and so each run.
use Rattle.std.proofs.Common.{◌≡◌, ◌≢◌, ℕ, Bool, true, false, List, [], ◌∷◌, ◌++◌, Option, Some, None, Result, Ok, Err, refl, sym, subst, ◌∙◌}
use Rattle.std.specs.Prelude.{◌==◌, ◌&&◌, ◌||◌, if◌then◌else◌}
use Rattle.std.specs.List.{AllByRecursion}
use Rattle.std.proofs.lemmas.Bool.{eqb-true}
use Rattle.std.proofs.lemmas.List.{append_assoc, append-nil}
use Rattle.std.proofs.lemmas.Option.{same_Some}
use Rattle.ff_xdr.specs.declared.error.XdrError.{XdrError}
use Rattle.rpc_record.specs.Calls.{call_at}
use Rattle.rpc_record.specs.Replies.{RpcReply, reply_at}
use Rattle.ds_calls.specs.GivenReplies.{reply_of_call}
use Rattle.cluster_model.specs.declared.ids.NodeId.{NodeId}
use Rattle.cluster_model.specs.declared.ids.NodeId.TheVariants.{Mds, Server, Client}
use Rattle.cluster_model.specs.declared.ids.Mirror.{Mirror}
use Rattle.cluster_model.specs.declared.entry.Entry.TheVariants.{TimedOut}
use Rattle.client_file_calls.specs.declared.open.OpenFile.{OpenFile}
use Rattle.client_mds_calls.specs.declared.ask.MdsAsk.TheVariants as ask
use Rattle.client_mds_calls.specs.MdsReplies.{reply_of_ask}
use Rattle.client_state.specs.declared.layout.Layout.{Layout}
use Rattle.client_state.specs.declared.asked.Asked.{Asked}
use Rattle.client_state.specs.ClientStates.{ClientValue}
use Rattle.client_state.specs.ClientSends.{RepeatsToMds, RepliesToMds, ClientStep, sends_none, and_then, run_then}
use Rattle.client_calls.specs.ClientCalls.{asks, may_ask, ends_event}
use Rattle.client_answers.specs.ClientMirrors.{ds_answered}
use Rattle.client_answers.specs.ClientAnswers.{mds_answered}
use Rattle.client_callbacks.specs.Callbacks.{CbReply, callback_of}
use Rattle.mirror_client.specs.ClientRule.{unless_left, with_request, mds_replied, mds_timed_out, timed_out_to, client_at_tick, resends_late, is_stale_tie, renews, ticks_on, turned, rogue_write, mirror_of_place, strays, found_reply, found_call, record_from}
use Rattle.client_laws.specs.ClientHistory.{ClientInput, Requested, Recorded, TimeoutOf, Ticked, LeftProtocol, Strayed, input_step, HistoryItem, Hears, Enters, entered, sent, items_of, client_history, client_after, Each}
use Rattle.client_laws.proofs.Orders.{each_append}
use Rattle.client_records.proofs.Joins.{RunKeeps, StepKeeps, CallsKeep, run_unmoved, run_steps, step_none, step_calls, step_either, calls_none, calls_either}
use Rattle.client_records.proofs.Cases.{heard_mds, heard_server, IsCallOf, Renews, Cases}
use Rattle.client_records.proofs.QueueKeeps.{Stays}
use Rattle.client_records.proofs.EventEnds.{nonzero, may_keep, calls_keep}
use Rattle.client_records.proofs.AnswersKeep.{mds_answer_keeps}
use Rattle.client_records.proofs.ServersKeep.{first_keep, answered_keeps, timeout_keeps}
use Rattle.client_records.proofs.CallbackKeeps.{callback_keeps}

either : (a b : Bool) → (a || b) ≡ false → (a ≡ false) × (b ≡ false)
either false b is = (refl, is)
either true b is = absurd cc

-- what a run comes to
pub record RunIs (I : List HistoryItem → ClientValue → Type 0) (P : List HistoryItem → HistoryItem → Type 0) (h : List HistoryItem) (c : ClientValue) (inputs : List ClientInput) : Type 0 where
  pub each : Each P h (client_history c inputs)
  pub keeps : I (h ++ client_history c inputs) (client_after c inputs)

module _ (B : List HistoryItem → ClientValue → Type 0) (Q : ClientInput → Type 0) (I : List HistoryItem → ClientValue → Type 0) (P : List HistoryItem → HistoryItem → Type 0) (k : Cases B Q I P) where
  -- within an event, and at its end
  ended : (past : List HistoryItem) (s : ClientStep) → StepKeeps (Stays I) P past s → StepKeeps I P past s
  ended past s keeps = record { entries = keeps.entries; sends = keeps.sends; keeps = keeps.keeps.0 }

  -- ---- records

  module _ (h : List HistoryItem) (c : ClientValue) (bytes : List ℕ) (now : ℕ) (base : B h c) (stays : c.has_left ≡ false) (i : I h c) where
    none_keeps : Q (Recorded Mds bytes now) → StepKeeps (Stays I) P (heard_mds h bytes now) (sends_none c)
    none_keeps input = step_none (Stays I) P (heard_mds h bytes now) c (k.hears h c (Recorded Mds bytes now) tt input i, stays)

    mds_reply_keeps : Q (Recorded Mds bytes now) → (reply : RpcReply) → reply_at bytes ≡ Ok reply → (asked : Option Asked) → c.asked ≡ asked
        → StepKeeps (Stays I) P (heard_mds h bytes now) (mds_replied asked reply.xid (λ kind. reply_of_ask kind reply) now c)
    mds_reply_keeps input reply is None at = none_keeps input
    mds_reply_keeps input reply is (Some a) at =
        step_either (Stays I) P (heard_mds h bytes now) (a.xid == reply.xid) (run_then (mds_answered a.ask (reply_of_ask a.ask reply) now c) ends_event) (sends_none c)
        (λ same.
        let run : RunKeeps (Stays I) P (heard_mds h bytes now) (mds_answered a.ask (reply_of_ask a.ask reply) now c) =
        mds_answer_keeps B Q I P k h c a bytes now reply (record { base = base; input = input; stays = stays; out = at; reply_is = is; number = eqb-true a.xid reply.xid same }) i in
        run_steps (Stays I) P (heard_mds h bytes now) (mds_answered a.ask (reply_of_ask a.ask reply) now c) ends_event run
        (calls_keep B Q I P k (heard_mds h bytes now ++ entered (mds_answered a.ask (reply_of_ask a.ask reply) now c).entries) (mds_answered a.ask (reply_of_ask a.ask reply) now c).client run.keeps))
        (λ other. none_keeps input)

    mds_found_keeps : Q (Recorded Mds bytes now) → (r : Result RpcReply XdrError) → reply_at bytes ≡ r → StepKeeps (Stays I) P (heard_mds h bytes now) (found_reply Mds r now c)
    mds_found_keeps input (Ok reply) is = mds_reply_keeps input reply is c.asked refl
    mds_found_keeps input (Err e) is = none_keeps input

    call_found_keeps : Q (Recorded Mds bytes now) → (o : Option CbReply) → callback_of (call_at bytes) c ≡ o → StepKeeps (Stays I) P (heard_mds h bytes now) (found_call o bytes now c)
    call_found_keeps input None is = mds_found_keeps input (reply_at bytes) refl
    call_found_keeps input (Some b) is =
        let back : Stays I (heard_mds h bytes now) b.client × IsCallOf (call_at bytes) b.reply.xid = callback_keeps B Q I P k (heard_mds h bytes now) (call_at bytes) c b is (k.hears h c (Recorded Mds bytes now) tt input i, stays) in
        first_keep B Q I P k (heard_mds h bytes now) (record { client = b.client; entries = [] }) (RepliesToMds b.reply ∷ [])
        (run_unmoved (Stays I) P (heard_mds h bytes now) b.client back.0)
        (record {
          sends = λ entries d s. ((k.replies (heard_mds h bytes now ++ entered entries) d bytes now b.reply input back.1 s.0).0, tt);
          keeps = λ entries d s. ((k.replies (heard_mds h bytes now ++ entered entries) d bytes now b.reply input back.1 s.0).1, s.1);
        })

    server_found_keeps : (server : ℕ) → Q (Recorded (Server server) bytes now) → (r : Result RpcReply XdrError) → reply_at bytes ≡ r → StepKeeps (Stays I) P (heard_server h server bytes now) (found_reply (Server server) r now c)
    server_found_keeps server input (Ok reply) is =
        let run : RunKeeps (Stays I) P (heard_server h server bytes now) (ds_answered server reply.xid (λ call. reply_of_call call reply) c) = answered_keeps B Q I P k h c server bytes now reply base input stays i is c.file c.layout refl refl in
        run_steps (Stays I) P (heard_server h server bytes now) (ds_answered server reply.xid (λ call. reply_of_call call reply) c) ends_event run
        (calls_keep B Q I P k (heard_server h server bytes now ++ entered (ds_answered server reply.xid (λ call. reply_of_call call reply) c).entries) (ds_answered server reply.xid (λ call. reply_of_call call reply) c).client run.keeps)
    server_found_keeps server input (Err e) is = step_none (Stays I) P (heard_server h server bytes now) c (k.hears h c (Recorded (Server server) bytes now) tt input i, stays)

    pub record_keeps : (from : NodeId) → Q (Recorded from bytes now) → StepKeeps (Stays I) P (h ++ Hears (Recorded from bytes now) ∷ []) (record_from from bytes now c)
    record_keeps Mds input = call_found_keeps input (callback_of (call_at bytes) c) refl
    record_keeps (Server server) input = server_found_keeps server input (reply_at bytes) refl
    record_keeps (Client number) input = step_none (Stays I) P (h ++ Hears (Recorded (Client number) bytes now) ∷ []) c (k.hears h c (Recorded (Client number) bytes now) tt input i, stays)

  -- ---- timeouts

  repeat_keeps : (past : List HistoryItem) (c : ClientValue) (asked : Option Asked) → c.asked ≡ asked → Stays I past c → StepKeeps (Stays I) P past (mds_timed_out asked c)
  repeat_keeps past c None at i = step_none (Stays I) P past c i
  repeat_keeps past c (Some a) at i =
      let entry = k.timed past c a.xid i.0 in
      let send = k.repeats_mds (past ++ Enters (TimedOut (Client c.number) a.xid) ∷ []) c a at entry.1 in
      record { entries = (entry.0, tt); sends = (send.0, tt); keeps = (send.1, i.1) }

  late_keeps : (h : List HistoryItem) (c : ClientValue) (to : NodeId) → B h c → c.has_left ≡ false → I h c → I (h ++ Hears (TimeoutOf to) ∷ []) c → StepKeeps (Stays I) P (h ++ Hears (TimeoutOf to) ∷ []) (timed_out_to to c)
  late_keeps h c Mds base stays i heard = repeat_keeps (h ++ Hears (TimeoutOf Mds) ∷ []) c c.asked refl (heard, stays)
  late_keeps h c (Server server) base stays i heard = timeout_keeps B Q I P k h c server base stays i heard c.file c.layout refl refl
  late_keeps h c (Client number) base stays i heard = step_none (Stays I) P (h ++ Hears (TimeoutOf (Client number)) ∷ []) c (heard, stays)

  -- ---- ticks

  resend_keeps : (past : List HistoryItem) (c : ClientValue) (asked : Option Asked) → c.asked ≡ asked → Stays I past c → CallsKeep (Stays I) P past (resends_late c asked)
  resend_keeps past c None at i = calls_none (Stays I) P past c i
  resend_keeps past c (Some a) at i =
      calls_either (Stays I) P past a.is_late (record { client = record c { asked = Some (record a { is_late = false }) }; entries = []; sends = RepeatsToMds a.xid a.message ∷ [] }) (sends_none c)
      (λ late.
      let send = k.repeats_mds past (record c { asked = Some (record a { is_late = false }) }) (record a { is_late = false }) refl (k.wakes past c a at i.0) in
      record { none = refl; sends = (send.0, tt); keeps = (send.1, i.1) })
      (λ late. calls_none (Stays I) P past c i)

  renew_keeps : (past : List HistoryItem) (c : ClientValue) (now : ℕ) → Stays I past c → CallsKeep (Stays I) P past (renews now c)
  renew_keeps past c now i = by_tests (may_ask c c.asked) (is_stale_tie now c.tie) refl
    where
      by_tests : (a b : Bool) → may_ask c c.asked ≡ a → CallsKeep (Stays I) P past (if a && b then asks c (Some ask.Renew) else sends_none c)
      by_tests true true may = may_keep B Q I P k past c i may (Some ask.Renew) (λ kind is. Renews (sym (same_Some ask.Renew kind is)))
      by_tests true false may = calls_none (Stays I) P past c i
      by_tests false b may = calls_none (Stays I) P past c i

  tick_keeps : (past : List HistoryItem) (c : ClientValue) (now : ℕ) → Stays I past c → StepKeeps (Stays I) P past (ticks_on now c)
  tick_keeps past c now i =
      let ended : StepKeeps (Stays I) P past (ends_event c) = calls_keep B Q I P k past c i in
      let again : StepKeeps (Stays I) P past (and_then (ends_event c) (λ d. resends_late d d.asked)) =
      step_calls (Stays I) P past (ends_event c) (λ d. resends_late d d.asked) ended (resend_keeps ((past ++ entered (ends_event c).entries) ++ sent (ends_event c).sends) (ends_event c).client (ends_event c).client.asked refl ended.keeps) in
      let two : ClientStep = and_then (ends_event c) (λ d. resends_late d d.asked) in
      step_calls (Stays I) P past two (renews now) again (renew_keeps ((past ++ entered two.entries) ++ sent two.sends) two.client now again.keeps)

  -- ---- a client that left the protocol

  rogue_keeps : (past : List HistoryItem) (c : ClientValue) (file : OpenFile) (l : Layout) (place at : ℕ) (bytes : List ℕ) → Q (Strayed place at bytes) → I past c → c.file ≡ Some file → c.layout ≡ Some l → l.was_sent ≡ false → c.next_xid ≢ 0
      → (o : Option Mirror) → mirror_of_place l.mirrors place ≡ o → StepKeeps I P past (rogue_write c file l at bytes o)
  rogue_keeps past c file l place at bytes input i there layout unsent some None is = step_none I P past c i
  rogue_keeps past c file l place at bytes input i there layout unsent some (Some m) is =
      let g = k.strays past c file l place at bytes m input (record { file_is = there; layout = layout; unsent = unsent; left = some; there = is }) i in
      record { entries = (g.0, tt); sends = (g.1.0, tt); keeps = g.1.1 }

  stray_keeps : (past : List HistoryItem) (c : ClientValue) (place at : ℕ) (bytes : List ℕ) → Q (Strayed place at bytes) → I past c → (file : Option OpenFile) (layout : Option Layout) → c.file ≡ file → c.layout ≡ layout
      → StepKeeps I P past (strays file layout place at bytes c)
  stray_keeps past c place at bytes input i (Some file) (Some l) there layout =
      step_either I P past (l.was_sent || (c.next_xid == 0)) (sends_none c) (rogue_write c file l at bytes (mirror_of_place l.mirrors place)) (λ is. step_none I P past c i)
      (λ is. rogue_keeps past c file l place at bytes input i there layout (either l.was_sent (c.next_xid == 0) is).0 (nonzero c.next_xid (either l.was_sent (c.next_xid == 0) is).1) (mirror_of_place l.mirrors place) refl)
  stray_keeps past c place at bytes input i (Some file) None there layout = step_none I P past c i
  stray_keeps past c place at bytes input i None layout there where_is = step_none I P past c i

  -- ---- whatever comes

  unless_keeps : (past : List HistoryItem) (c : ClientValue) (next : ClientStep) → I past c → (c.has_left ≡ false → StepKeeps (Stays I) P past next) → StepKeeps I P past (unless_left c next)
  unless_keeps past c next i keeps = step_either I P past c.has_left (sends_none c) next (λ left. step_none I P past c i) (λ stays. ended past next (keeps stays))

  pub input_keeps : (h : List HistoryItem) (c : ClientValue) (input : ClientInput) → B h c → Q input → I h c → StepKeeps I P (h ++ Hears input ∷ []) (input_step input c)
  input_keeps h c (Requested request) base input i =
      unless_keeps (h ++ Hears (Requested request) ∷ []) c (ends_event (with_request request c)) (k.hears h c (Requested request) tt input i)
      (λ stays. calls_keep B Q I P k (h ++ Hears (Requested request) ∷ []) (with_request request c) (k.requests h c request input i, stays))
  input_keeps h c (Recorded from bytes now) base input i =
      unless_keeps (h ++ Hears (Recorded from bytes now) ∷ []) c (record_from from bytes now c) (k.hears h c (Recorded from bytes now) tt input i) (λ stays. record_keeps h c bytes now base stays i from input)
  input_keeps h c (TimeoutOf to) base input i =
      unless_keeps (h ++ Hears (TimeoutOf to) ∷ []) c (timed_out_to to c) (k.hears h c (TimeoutOf to) tt input i) (λ stays. late_keeps h c to base stays i (k.hears h c (TimeoutOf to) tt input i))
  input_keeps h c (Ticked now) base input i =
      unless_keeps (h ++ Hears (Ticked now) ∷ []) c (ticks_on now (client_at_tick c)) (k.hears h c (Ticked now) tt input i)
      (λ stays. tick_keeps (h ++ Hears (Ticked now) ∷ []) (client_at_tick c) now (k.ticks (h ++ Hears (Ticked now) ∷ []) c (k.hears h c (Ticked now) tt input i), stays))
  input_keeps h c LeftProtocol base input i = step_none I P (h ++ Hears LeftProtocol ∷ []) (turned c) (k.leaves h c i)
  input_keeps h c (Strayed place at bytes) base input i = stray_keeps (h ++ Hears (Strayed place at bytes) ∷ []) c place at bytes input (k.hears h c (Strayed place at bytes) tt input i) c.file c.layout refl refl

  -- ---- every run

  module _ (goes : (h : List HistoryItem) (c : ClientValue) (input : ClientInput) → B h c → B (h ++ items_of input (input_step input c)) (input_step input c).client) where
    pub run_keeps : (inputs : List ClientInput) (h : List HistoryItem) (c : ClientValue) → AllByRecursion Q inputs → B h c → I h c → RunIs I P h c inputs
    run_keeps [] h c all base i = record { each = tt; keeps = subst (λ (l : List HistoryItem). I l c) (sym (append-nil h)) i }
    run_keeps (input ∷ inputs) h c all base i =
        let s : ClientStep = input_step input c in
        let heard : List HistoryItem = h ++ Hears input ∷ [] in
        let e : List HistoryItem = entered s.entries in
        let t : List HistoryItem = sent s.sends in
        let g : StepKeeps I P heard s = input_keeps h c input base all.0 i in
        let whole : (heard ++ e) ++ t ≡ h ++ (Hears input ∷ (e ++ t)) = append_assoc heard e t ∙ append_assoc h (Hears input ∷ []) (e ++ t) in
        let rest : RunIs I P (h ++ items_of input s) s.client inputs = run_keeps inputs (h ++ items_of input s) s.client all.1 (goes h c input base) (subst (λ (l : List HistoryItem). I l s.client) whole g.keeps) in
        record {
          each = each_append P h (items_of input s) (client_history s.client inputs) (k.heard h input, each_append P heard e t g.entries g.sends) rest.each;
          keeps = subst (λ (l : List HistoryItem). I l (client_after s.client inputs)) (append_assoc h (items_of input s) (client_history s.client inputs)) rest.keeps;
        }
