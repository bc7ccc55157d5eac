-- Why no record of a client goes out again but at a tick and for a timeout.
use Rattle.std.proofs.Common.{◌≡◌, ℕ, Bool, true, false, List, [], ◌∷◌, ◌++◌, Option, Some, None, Result, Ok, Err, refl, sym, ap, subst, ◌∙◌}
use Rattle.std.specs.Prelude.{◌==◌, ◌||◌, ◌&&◌, if◌then◌else◌}
use Rattle.std.specs.List.{filter}
use Rattle.std.proofs.lemmas.List.{append_assoc}
use Rattle.std.proofs.lemmas.List.Elements.{filter-append}
use Rattle.std.proofs.lemmas.Option.{none-some}
use Rattle.ff_xdr.specs.declared.error.XdrError.{XdrError}
use Rattle.rpc_record.specs.Calls.{call_at}
use Rattle.rpc_record.specs.Replies.{RpcReply, reply_at}
use Rattle.cluster_model.specs.declared.ids.NodeId.{NodeId}
use Rattle.cluster_model.specs.declared.ids.NodeId.TheVariants.{Mds, Server, Client}
use Rattle.cluster_model.specs.declared.ids.Mirror.{Mirror}
use Rattle.ds_calls.specs.GivenReplies.{reply_of_call}
use Rattle.mirror_writer.specs.declared.step.WriterStep.{WriterStep}
use Rattle.mirror_writer.specs.declared.step.WriterStep.TheVariants as step
use Rattle.mirror_writer.specs.Writers.{after_timeout}
use Rattle.mirror_writer.specs.Outstanding.{OutCall, out_at}
use Rattle.client_file_calls.specs.declared.open.OpenFile.{OpenFile}
use Rattle.client_mds_calls.specs.declared.ask.MdsAsk.{MdsAsk}
use Rattle.client_mds_calls.specs.declared.ask.MdsAsk.TheVariants as ask
use Rattle.client_mds_calls.specs.MdsCalls.{MdsCallValue}
use Rattle.client_mds_calls.specs.MdsReplies.{reply_of_ask}
use Rattle.client_state.specs.declared.layout.Layout.{Layout}
use Rattle.client_state.specs.declared.asked.Asked.{Asked}
use Rattle.client_state.specs.ClientStates.{ClientValue}
use Rattle.client_state.specs.ClientSends.{ClientSend, CallsServer, CallsMds, RepeatsToServer, RepeatsToMds, RepliesToMds, ClientStep, sends_none, and_then, run_then}
use Rattle.client_state.specs.ClientQueue.{run_queue}
use Rattle.client_calls.specs.ClientCalls.{xid_after, asks_as, asks, call_by_ask, may_ask, ends_event}
use Rattle.client_calls.specs.ClientLaws.{CarryNumbers, NumbersCalls}
use Rattle.client_answers.specs.ClientAnswers.{mds_answered}
use Rattle.client_answers.specs.ClientMirrors.{goes_again, ds_answered, late_out, ds_timed_out_by}
use Rattle.client_callbacks.specs.Callbacks.{CbReply, callback_of}
use Rattle.mirror_client.specs.ClientRule.{with_request, mds_replied, found_reply, found_call, record_from, mds_timed_out, timed_out_to, client_at_tick, resends_late, is_stale_tie, renews, ticks_on, rogue_write, mirror_of_place, strays}
use Rattle.client_laws.specs.ClientHistory.{ClientInput, Requested, Recorded, TimeoutOf, Ticked, LeftProtocol, Strayed}
use Rattle.client_progress.specs.Pace.{is_again, sent_again, AtMostOne, IsOutstanding, IsOfNumber, IsOfTimeout, PacesInput}

-- calls that take new numbers
numbered_none : (xid : ℕ) (sends : List ClientSend) (next : ℕ) → CarryNumbers xid sends next → filter is_again sends ≡ []
numbered_none xid [] next c = refl
numbered_none xid (CallsServer server own name uid call ∷ sends) next c = numbered_none (xid_after xid) sends next c.1.1
numbered_none xid (CallsMds own name call ∷ sends) next c = numbered_none (xid_after xid) sends next c.1.1
numbered_none xid (RepeatsToServer server own name uid call ∷ sends) next c = absurd (none-some _ c.1.0)
numbered_none xid (RepeatsToMds own message ∷ sends) next c = absurd (none-some _ c.1.0)
numbered_none xid (RepliesToMds reply ∷ sends) next c = absurd (none-some _ c.1.0)

-- of two steps, where the second sends none of them
first_alone : (xs ys : List ClientSend) → filter is_again ys ≡ [] → filter is_again (xs ++ ys) ≡ filter is_again xs ++ []
first_alone xs ys none = filter-append is_again xs ys ∙ ap (λ (zs : List ClientSend). filter is_again xs ++ zs) none

second_alone : (xs ys : List ClientSend) → filter is_again xs ≡ [] → filter is_again (xs ++ ys) ≡ filter is_again ys
second_alone xs ys none = filter-append is_again xs ys ∙ ap (λ (zs : List ClientSend). zs ++ filter is_again ys) none

unless_none : (left : Bool) (c : ClientValue) (s : ClientStep) → sent_again s ≡ [] → sent_again (if left then sends_none c else s) ≡ []
unless_none true c s none = refl
unless_none false c s none = none

-- a compound that is asked is a new call
asked_none : (c : ClientValue) (kind : MdsAsk) (call : Option MdsCallValue) → sent_again (asks_as c kind call) ≡ []
asked_none c kind None = refl
asked_none c kind (Some call) = refl

module _ (numbers : (c : ClientValue) (wants : Option MdsAsk) → NumbersCalls c wants) where
  ends_none : (c : ClientValue) → sent_again (ends_event c) ≡ []
  ends_none c = numbered_none _ _ _ (numbers (run_queue c).run.client (run_queue c).wants)

  -- ---- a record

  replied_none : (asked : Option Asked) (reply : RpcReply) (now : ℕ) (c : ClientValue) → sent_again (mds_replied asked reply.xid (λ kind. reply_of_ask kind reply) now c) ≡ []
  replied_none None reply now c = refl
  replied_none (Some a) reply now c = by_number (a.xid == reply.xid)
    where
      by_number : (b : Bool) → sent_again (if b then run_then (mds_answered a.ask (reply_of_ask a.ask reply) now c) ends_event else sends_none c) ≡ []
      by_number true = ends_none (mds_answered a.ask (reply_of_ask a.ask reply) now c).client
      by_number false = refl

  found_none : (from : NodeId) (reply : Result RpcReply XdrError) (now : ℕ) (c : ClientValue) → sent_again (found_reply from reply now c) ≡ []
  found_none Mds (Ok reply) now c = replied_none c.asked reply now c
  found_none (Server server) (Ok reply) now c = ends_none (ds_answered server reply.xid (λ call. reply_of_call call reply) c).client
  found_none (Client number) (Ok reply) now c = refl
  found_none from (Err e) now c = refl

  called_none : (k : Option CbReply) (bytes : List ℕ) (now : ℕ) (c : ClientValue) → sent_again (found_call k bytes now c) ≡ []
  called_none (Some k) bytes now c = ends_none k.client
  called_none None bytes now c = found_none Mds (reply_at bytes) now c

  record_none : (from : NodeId) (bytes : List ℕ) (now : ℕ) (c : ClientValue) → sent_again (record_from from bytes now c) ≡ []
  record_none Mds bytes now c = called_none (callback_of (call_at bytes) c) bytes now c
  record_none (Server server) bytes now c = found_none (Server server) (reply_at bytes) now c
  record_none (Client number) bytes now c = refl

  -- ---- a timeout

  abbrev IsLate : ClientStep → Type 0
  IsLate s = AtMostOne (IsOfTimeout s.entries) (sent_again s)

  mds_late : (asked : Option Asked) (c : ClientValue) → IsLate (mds_timed_out asked c)
  mds_late None c = tt
  mds_late (Some a) c = refl

  -- what goes out again comes first, and the end of the event sends none
  late_of : (c : ClientValue) (file : OpenFile) (l : Layout) (server : ℕ) (out : OutCall) (came : WriterStep) (rest : List ClientSend) → filter is_again rest ≡ []
      → AtMostOne (IsOfNumber out.xid) (filter is_again (goes_again (RepeatsToServer server out.xid c.name l.writer.cred out.call) came ++ rest))
  late_of c file l server out step.Waiting rest none = subst (λ (xs : List ClientSend). AtMostOne (IsOfNumber out.xid) (RepeatsToServer server out.xid c.name l.writer.cred out.call ∷ xs)) (sym none) refl
  late_of c file l server out step.Stranger rest none = subst (AtMostOne (IsOfNumber out.xid)) (sym none) tt
  late_of c file l server out step.Committed rest none = subst (AtMostOne (IsOfNumber out.xid)) (sym none) tt
  late_of c file l server out (step.Failed id cause) rest none = subst (AtMostOne (IsOfNumber out.xid)) (sym none) tt
  late_of c file l server out (step.Fenced id status) rest none = subst (AtMostOne (IsOfNumber out.xid)) (sym none) tt

  none_late : (s : ClientStep) → sent_again s ≡ [] → IsLate s
  none_late s none = subst (AtMostOne (IsOfTimeout s.entries)) (sym none) tt

  out_late : (file : OpenFile) (l : Layout) (server : ℕ) (c : ClientValue) (o : Option OutCall) → IsLate (and_then (late_out file l server o c) ends_event)
  out_late file l server c None = none_late (and_then (late_out file l server None c) ends_event) (ends_none c)
  out_late file l server c (Some out) = late_of c file l server out (after_timeout l.writer out.xid).step _ (ends_none (late_out file l server (Some out) c).client)

  server_late : (file : Option OpenFile) (layout : Option Layout) (server : ℕ) (c : ClientValue) → IsLate (and_then (ds_timed_out_by file layout server c) ends_event)
  server_late (Some file) (Some l) server c = out_late file l server c (out_at l.writer server)
  server_late (Some file) None server c = none_late (and_then (sends_none c) ends_event) (ends_none c)
  server_late None layout server c = none_late (and_then (sends_none c) ends_event) (ends_none c)

  timeout_late : (to : NodeId) (c : ClientValue) → IsLate (timed_out_to to c)
  timeout_late Mds c = mds_late c.asked c
  timeout_late (Server server) c = server_late c.file c.layout server c
  timeout_late (Client number) c = tt

  unless_late : (left : Bool) (c : ClientValue) (s : ClientStep) → IsLate s → IsLate (if left then sends_none c else s)
  unless_late true c s late = tt
  unless_late false c s late = late

  -- ---- a tick

  abbrev IsTicked : ClientStep → Type 0
  IsTicked s = AtMostOne (IsOutstanding s.client.asked) (sent_again s)

  renews_none : (now : ℕ) (c : ClientValue) → sent_again (renews now c) ≡ []
  renews_none now c = by_test (may_ask c c.asked && is_stale_tie now c.tie)
    where
      by_test : (b : Bool) → sent_again (if b then asks c (Some ask.Renew) else sends_none c) ≡ []
      by_test true = asked_none c ask.Renew (call_by_ask c ask.Renew)
      by_test false = refl

  -- where a compound is out, none is asked for
  renews_not : (now : ℕ) (c : ClientValue) (a : Asked) → c.asked ≡ Some a → renews now c ≡ sends_none c
  renews_not now c a at = ap (λ (o : Option Asked). if may_ask c o && is_stale_tie now c.tie then asks c (Some ask.Renew) else sends_none c) at

  resent : (now : ℕ) (d : ClientValue) (a : Asked) → IsTicked (and_then (resends_late d (Some a)) (renews now))
  resent now d a = by_late a.is_late refl
    where
      again : ClientStep
      again = record { client = record d { asked = Some (record a { is_late = false }) }; entries = []; sends = RepeatsToMds a.xid a.message ∷ [] }

      by_late : (b : Bool) → a.is_late ≡ b → IsTicked (and_then (if b then again else sends_none d) (renews now))
      by_late true is = subst (λ (s : ClientStep). AtMostOne (IsOutstanding s.client.asked) (filter is_again (RepeatsToMds a.xid a.message ∷ s.sends))) (sym (renews_not now again.client _ refl)) (record a { is_late = false }, refl, refl)
      by_late false is = subst (AtMostOne (IsOutstanding (renews now d).client.asked)) (sym (renews_none now d)) tt

  late_ticked : (now : ℕ) (d : ClientValue) (asked : Option Asked) → IsTicked (and_then (resends_late d asked) (renews now))
  late_ticked now d None = subst (AtMostOne (IsOutstanding (renews now d).client.asked)) (sym (renews_none now d)) tt
  late_ticked now d (Some a) = resent now d a

  tick_ticked : (now : ℕ) (c : ClientValue) → IsTicked (ticks_on now c)
  tick_ticked now c =
      let d = (ends_event c).client in
      let late = resends_late d d.asked in
      let rest = (renews now late.client).sends in
      let whole : filter is_again (((ends_event c).sends ++ late.sends) ++ rest) ≡ filter is_again (late.sends ++ rest) =
      ap (filter is_again) (append_assoc (ends_event c).sends late.sends rest) ∙ second_alone (ends_event c).sends (late.sends ++ rest) (ends_none c) in
      subst (AtMostOne (IsOutstanding (renews now late.client).client.asked)) (sym whole) (late_ticked now d d.asked)

  unless_ticked : (left : Bool) (c : ClientValue) (s : ClientStep) → IsTicked s → IsTicked (if left then sends_none c else s)
  unless_ticked true c s ticked = tt
  unless_ticked false c s ticked = ticked

  -- ---- a client that left

  rogue_none : (file : Option OpenFile) (layout : Option Layout) (place at : ℕ) (bytes : List ℕ) (c : ClientValue) → sent_again (strays file layout place at bytes c) ≡ []
  rogue_none (Some file) (Some l) place at bytes c = by_test (l.was_sent || (c.next_xid == 0)) (mirror_of_place l.mirrors place)
    where
      by_test : (b : Bool) (m : Option Mirror) → sent_again (if b then sends_none c else rogue_write c file l at bytes m) ≡ []
      by_test true m = refl
      by_test false None = refl
      by_test false (Some m) = refl
  rogue_none (Some file) None place at bytes c = refl
  rogue_none None layout place at bytes c = refl

  -- ---- all inputs

  pub paces : (input : ClientInput) (c : ClientValue) → PacesInput input c
  paces (Requested request) c = unless_none c.has_left c _ (ends_none (with_request request c))
  paces (Recorded from bytes now) c = unless_none c.has_left c _ (record_none from bytes now c)
  paces (TimeoutOf to) c = unless_late c.has_left c _ (timeout_late to c)
  paces (Ticked now) c = unless_ticked c.has_left c _ (tick_ticked now (client_at_tick c))
  paces LeftProtocol c = refl
  paces (Strayed place at bytes) c = rogue_none c.file c.layout place at bytes c
