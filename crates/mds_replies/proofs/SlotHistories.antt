-- What a slot keeps, and what a compound waits for, by the request that took effect.
use Rattle.std.proofs.Common.{◌≡◌, ◌≤◌, ◌<◌, ℕ, Bool, true, false, List, [], ◌∷◌, ◌++◌, length, Some, None, refl, sym, ap, subst, ◌∙◌, arith}
use Rattle.std.specs.Prelude.{◌==◌, ◌&&◌, ◌||◌, nat_lt}
use Rattle.std.proofs.lemmas.Bool.{cond_both, and_parts, eqb-true, eq-eqb, ltb-true}
use Rattle.std.proofs.lemmas.List.{append_assoc}
use Rattle.std.proofs.lemmas.Option.{same_Some}
use Rattle.ff_xdr.specs.Form.{Value, arm_of}
use Rattle.rpc_record.specs.Replies.{RpcReply}
use Rattle.compound_reply.specs.Replied.{success_reply}
use Rattle.cluster_model.specs.declared.ids.NodeId.{NodeId}
use Rattle.cluster_model.specs.declared.ids.FileId.{FileId}
use Rattle.device_addr.specs.Universal.{AddressValue}
use Rattle.nfs4_types.specs.declared.ids.SessionId.{SessionId}
use Rattle.nfs4_types.specs.declared.sequence.Sequence.{Sequence}
use Rattle.nfs4_types.specs.declared.stateid.Stateid.{Stateid}
use Rattle.nfs4_compound.specs.Args.{argop4}
use Rattle.nfs4_compound.specs.declared.stop.Stop.TheVariants as stop
use Rattle.nfs4_session.specs.declared.slot.TheConstants.{MAX_KEPT}
use Rattle.nfs4_session.specs.Slots.{SlotState, SlotReply, NoRequest, InProgress, Cached, Uncached as NotKept, TakesEffect, is_in_progress, kept_as, slot_finished}
use Rattle.nfs4_session.specs.Clients.{client_in, number_in}
use Rattle.nfs4_session.specs.Requests.{request_answer, pass_of}
use Rattle.nfs4_session.specs.Bindings.{after_binding}
use Rattle.table_slots.specs.TableSlots.{is_of_session}
use Rattle.client_file_calls.specs.declared.open.OpenFile.{OpenFile}
use Rattle.client_file_calls.specs.declared.layout_return.FailedMirror.{FailedMirror}
use Rattle.client_mds_calls.specs.declared.reply.SlotReport.{SlotReport}
use Rattle.client_mds_calls.specs.declared.reply.SlotReport.TheVariants.{Taken, Uncached, Delayed, Unknown}
use Rattle.client_mds_calls.specs.FittingCalls.{FitsRequest}
use Rattle.client_mds_calls.specs.MdsCalls.{SlotCallValue, MdsCallValue, OnSlot, ask_on_slot}
use Rattle.client_mds_calls.specs.MdsCalls as slot
use Rattle.client_mds_calls.specs.MdsCompounds.{mds_ops}
use Rattle.client_mds_calls.specs.MdsReplies.{MdsAnswerValue, MdsReplyValue, reply_of_ask}
use Rattle.mds_receive.specs.MdsReceive.{IncomingValue, IsCompound, incoming_of}
use Rattle.mds_rule.specs.MdsStates.{CompoundRun}
use Rattle.mds_walk.specs.MdsRuns.{MdsInput, MdsEvent, Hears}
use Rattle.mds_walk.specs.FirstRequests.{first_request}
use Rattle.mds_replies.specs.ClientCalls.{IsCallFrom, server_after, IsEventOf}
use Rattle.mds_replies.specs.SlotReplies.{request_of, TookEffect}
use Rattle.mds_replies.proofs.LegibleReplies.{TellsTaken, IsLegibleSoFar}
use Rattle.mds_replies.specs.AnsweredRequests.{MeansSo, TookEffectAmong, MeansTaken, IsUnknown, WasNoGet, IsFreeAt, StandsByReport, StandsFor, AnswersRequest}

-- ---- an event's compound asks for a layout, or gives one back

pub third_number : List (Value argop4) → ℕ
third_number (a ∷ b ∷ c ∷ rest) = arm_of argop4 c
third_number ops = 0

abbrev is_layout_number : ℕ → Bool
is_layout_number n = (n == 50) || (n == 51)

pub layout_ops : List (Value argop4) → Bool
layout_ops ops = is_layout_number (third_number ops)

abbrev layout_in : IncomingValue → Bool
layout_in (IsCompound xid v) = layout_ops v.ops.values
layout_in other = false

abbrev layout_heard : MdsInput → Bool
layout_heard (Hears node bytes) = layout_in (incoming_of bytes)
layout_heard other = false

abbrev pub layout_event : MdsEvent → Bool
layout_event e = layout_heard e.input

abbrev pub is_layout_call : SlotCallValue → Bool
is_layout_call (slot.LayoutGet file) = true
is_layout_call (slot.LayoutReturn file stateid failed) = true
is_layout_call other = false

third_of : (name : List ℕ) (session : SessionId) (number : ℕ) (c : SlotCallValue) → layout_ops (mds_ops name (OnSlot session number c)) ≡ is_layout_call c
unfolding third_number layout_ops
third_of name session number slot.ReclaimComplete = refl
third_of name session number (slot.Open file) = refl
third_of name session number (slot.LayoutGet file) = refl
third_of name session number (slot.DeviceInfo []) = refl
third_of name session number (slot.DeviceInfo (a ∷ [])) = refl
third_of name session number (slot.DeviceInfo (a ∷ b ∷ servers)) = refl
third_of name session number (slot.Write file at bytes) = refl
third_of name session number (slot.Read file at count) = refl
third_of name session number (slot.LayoutReturn file stateid failed) = refl
third_of name session number slot.Renew = refl

pub event_of_call : (f : MdsEvent) (node : NodeId) (xid : ℕ) (name : List ℕ) (session : SessionId) (number : ℕ) (c : SlotCallValue) → IsCallFrom f node xid name (OnSlot session number c) → layout_event f ≡ is_layout_call c
event_of_call f node xid name session number c came = ap layout_heard came.input ∙ ap layout_in came.compound ∙ ap layout_ops came.is.ops ∙ third_of name session number c

-- ---- it asks for a layout

abbrev get_in : IncomingValue → Bool
get_in (IsCompound xid v) = third_number v.ops.values == 50
get_in other = false

abbrev get_heard : MdsInput → Bool
get_heard (Hears node bytes) = get_in (incoming_of bytes)
get_heard other = false

abbrev pub get_event : MdsEvent → Bool
get_event e = get_heard e.input

get_third : (name : List ℕ) (session : SessionId) (number : ℕ) (file : OpenFile) → third_number (mds_ops name (OnSlot session number (slot.LayoutGet file))) ≡ 50
unfolding third_number
get_third name session number file = refl

pub event_of_get : (f : MdsEvent) (node : NodeId) (xid : ℕ) (name : List ℕ) (session : SessionId) (number : ℕ) (file : OpenFile) → IsCallFrom f node xid name (OnSlot session number (slot.LayoutGet file)) → get_event f ≡ true
event_of_get f node xid name session number file came =
    ap get_heard came.input ∙ ap get_in came.compound ∙ ap (λ (ops : List (Value argop4)). third_number ops == 50) came.is.ops ∙ ap (λ (n : ℕ). n == 50) (get_third name session number file)

return_third : (name : List ℕ) (session : SessionId) (number : ℕ) (file : FileId) (stateid : Stateid) (failed : List FailedMirror) → third_number (mds_ops name (OnSlot session number (slot.LayoutReturn file stateid failed))) ≡ 51
unfolding third_number
return_third name session number file stateid failed = refl

pub event_of_return : (f : MdsEvent) (node : NodeId) (xid : ℕ) (name : List ℕ) (session : SessionId) (number : ℕ) (file : FileId) (stateid : Stateid) (failed : List FailedMirror)
    → IsCallFrom f node xid name (OnSlot session number (slot.LayoutReturn file stateid failed)) → get_event f ≡ false
event_of_return f node xid name session number file stateid failed came =
    ap get_heard came.input ∙ ap get_in came.compound ∙ ap (λ (ops : List (Value argop4)). third_number ops == 50) came.is.ops ∙ ap (λ (n : ℕ). n == 50) (return_third name session number file stateid failed)

-- what is no call on layouts asks for none
plain_get : (f : MdsEvent) → layout_event f ≡ false → get_event f ≡ false
unfolding layout_ops
plain_get f off = by_input f.input off
  where
    by_or : (a b : Bool) → (a || b) ≡ false → a ≡ false
    by_or true b is = absurd cc
    by_or false b is = refl

    by_incoming : (v : IncomingValue) → layout_in v ≡ false → get_in v ≡ false
    by_incoming (IsCompound xid v) is = by_or (third_number v.ops.values == 50) (third_number v.ops.values == 51) is
    by_incoming other is = refl

    by_input : (input : MdsInput) → layout_heard input ≡ false → get_heard input ≡ false
    by_input (Hears node bytes) is = by_incoming (incoming_of bytes) is
    by_input other is = refl

pub plain_means : (servers : List AddressValue) (mirrors : ℕ) (early : List MdsEvent) (f : MdsEvent) (session : SessionId) (c : SlotCallValue) (answer : MdsAnswerValue) → is_layout_call c ≡ false → MeansSo servers mirrors early f session c answer
plain_means servers mirrors early f session (slot.LayoutGet file) answer off = absurd cc
plain_means servers mirrors early f session (slot.LayoutReturn file stateid failed) answer off = absurd cc
plain_means servers mirrors early f session c answer off = tt

-- ---- one event has one request

abbrev node_in : NodeId → MdsInput → NodeId
node_in other (Hears node bytes) = node
node_in other input = other

abbrev bytes_in : MdsInput → List ℕ
bytes_in (Hears node bytes) = bytes
bytes_in other = []

abbrev ops_in : IncomingValue → List (Value argop4)
ops_in (IsCompound xid v) = v.ops.values
ops_in other = []

module _ (f : MdsEvent) (node there : NodeId) (xid number : ℕ) (name other : List ℕ) (call also : MdsCallValue) (came : IsCallFrom f node xid name call) (comes : IsCallFrom f there number other also) where
  pub same_node : node ≡ there
  same_node = ap (node_in node) (sym came.input ∙ comes.input)

  pub same_ops : mds_ops name call ≡ mds_ops other also
  same_ops =
      let bytes : came.bytes ≡ comes.bytes = ap bytes_in (sym came.input ∙ comes.input) in
      sym came.is.ops ∙ ap ops_in (sym came.compound ∙ ap incoming_of bytes ∙ comes.compound) ∙ comes.is.ops

-- ---- a request that took effect

module _ (servers : List AddressValue) (mirrors : ℕ) where
  pub record IsTaken (past : List MdsEvent) (client number sequence : ℕ) : Type 0 where
    pub early : List MdsEvent
    pub f : MdsEvent
    pub late : List MdsEvent
    pub split : IsEventOf past early f late
    pub asked : SessionId
    pub its_client : client_in asked ≡ client
    pub its_number : number_in asked ≡ number
    pub took : TookEffect servers mirrors early f asked sequence

  -- the reply that is kept of it means what it says
  abbrev pub MeansKept : (past : List MdsEvent) (client number sequence : ℕ) → IsTaken past client number sequence → List ℕ → Type 0
  MeansKept past client number sequence t reply =
      (name : List ℕ) (session : SessionId) (n : ℕ) (c : SlotCallValue) → IsCallFrom t.f t.took.node t.took.xid name (OnSlot session n c) → FitsRequest (OnSlot session n c)
      → MeansSo servers mirrors t.early t.f session c (reply_of_ask (ask_on_slot c) (success_reply t.took.xid reply)).answer

  -- and tells the slot that the request was taken
  abbrev pub KeptSo : (past : List MdsEvent) (client number sequence : ℕ) → IsTaken past client number sequence → List ℕ → Type 0
  KeptSo past client number sequence t reply = MeansKept past client number sequence t reply × TellsTaken reply

  abbrev pub SlotBy : List MdsEvent → ℕ → ℕ → ℕ → SlotReply → Type 0
  SlotBy past client number last NoRequest = Unit {0}
  SlotBy past client number last InProgress = (t : IsTaken past client number last) × (layout_event t.f ≡ false)
  SlotBy past client number last (Cached reply) = (t : IsTaken past client number last) × KeptSo past client number last t reply
  SlotBy past client number last NotKept = (t : IsTaken past client number last) × (get_event t.f ≡ false)

  abbrev pub SlotSo : List MdsEvent → ℕ → ℕ → SlotState → Type 0
  SlotSo past client number s = SlotBy past client number s.last s.reply

  later : (past more early late : List MdsEvent) (f : MdsEvent) → IsEventOf past early f late → IsEventOf (past ++ more) early f (late ++ more)
  later past more early late f split = ap (λ (l : List MdsEvent). l ++ more) split ∙ append_assoc early (f ∷ late) more

  slot_later : (past more : List MdsEvent) (client number last : ℕ) (r : SlotReply) → SlotBy past client number last r → SlotBy (past ++ more) client number last r
  slot_later past more client number last NoRequest p = tt
  slot_later past more client number last InProgress p =
      (record { early = p.0.early; f = p.0.f; late = p.0.late ++ more; split = later past more p.0.early p.0.late p.0.f p.0.split; asked = p.0.asked; its_client = p.0.its_client; its_number = p.0.its_number; took = p.0.took }, p.1)
  slot_later past more client number last (Cached reply) p =
      (record { early = p.0.early; f = p.0.f; late = p.0.late ++ more; split = later past more p.0.early p.0.late p.0.f p.0.split; asked = p.0.asked; its_client = p.0.its_client; its_number = p.0.its_number; took = p.0.took }, p.1)
  slot_later past more client number last NotKept p =
      (record { early = p.0.early; f = p.0.f; late = p.0.late ++ more; split = later past more p.0.early p.0.late p.0.f p.0.split; asked = p.0.asked; its_client = p.0.its_client; its_number = p.0.its_number; took = p.0.took }, p.1)

  pub slot_more : (past more : List MdsEvent) (client number : ℕ) (s : SlotState) → SlotSo past client number s → SlotSo (past ++ more) client number s
  slot_more past more client number s p = slot_later past more client number s.last s.reply p

  -- a compound that is done when its request is not in the event any more
  plain_kept : (past : List MdsEvent) (client number sequence : ℕ) (t : IsTaken past client number sequence) (reply : List ℕ) → layout_event t.f ≡ false → MeansKept past client number sequence t reply
  plain_kept past client number sequence t reply plain name session n c came fits = plain_means servers mirrors t.early t.f session c _ (sym (event_of_call t.f t.took.node t.took.xid name session n c came) ∙ plain)

  -- to a LAYOUTGET the reply is short
  kept_by : (past : List MdsEvent) (client number sequence : ℕ) (t : IsTaken past client number sequence) (reply : List ℕ) → KeptSo past client number sequence t reply → (get_event t.f ≡ true → length reply ≤ 32768)
      → SlotBy past client number sequence (kept_as reply)
  kept_by past client number sequence t reply means few = cond_both (nat_lt MAX_KEPT (length reply)) NotKept (Cached reply) (SlotBy past client number sequence) (λ long. (t, by_get (get_event t.f) refl long)) (λ short. (t, means))
    where
      too_long : length reply ≤ 32768 → MAX_KEPT < length reply → ⊥
      too_long short less = omega (arith, short, less)

      by_get : (b : Bool) → get_event t.f ≡ b → nat_lt MAX_KEPT (length reply) ≡ true → get_event t.f ≡ false
      by_get false is long = is
      by_get true is long = absurd (too_long (few is) (ltb-true MAX_KEPT (length reply) long))

  pub kept_now : (past : List MdsEvent) (client number sequence : ℕ) (t : IsTaken past client number sequence) (reply : List ℕ) → KeptSo past client number sequence t reply → (get_event t.f ≡ true → length reply ≤ 32768)
      → SlotSo past client number (record { last = sequence; reply = kept_as reply })
  kept_now past client number sequence t reply means few = kept_by past client number sequence t reply means few

  not_both : false ≡ true → ⊥
  not_both is = absurd cc

  finished_by : (past : List MdsEvent) (client number last : ℕ) (r : SlotReply) (reply : List ℕ) → TellsTaken reply → is_in_progress r ≡ true → SlotBy past client number last r → SlotBy past client number last (kept_as reply)
  finished_by past client number last NoRequest reply told is p = absurd cc
  finished_by past client number last InProgress reply told is p = kept_by past client number last p.0 reply (plain_kept past client number last p.0 reply p.1, told) (λ gets. absurd (not_both (sym (plain_get p.0.f p.1) ∙ gets)))
  finished_by past client number last (Cached other) reply told is p = absurd cc
  finished_by past client number last NotKept reply told is p = absurd cc

  pub slot_done : (past : List MdsEvent) (client number sequence : ℕ) (reply : List ℕ) → TellsTaken reply → (s : SlotState) → SlotSo past client number s → SlotSo past client number (slot_finished sequence reply s)
  slot_done past client number sequence reply told s p =
      cond_both ((s.last == sequence) && is_in_progress s.reply) (record { last = sequence; reply = kept_as reply }) s (SlotSo past client number)
      (λ is.
      let both = and_parts (s.last == sequence) (is_in_progress s.reply) is in
      subst (λ (n : ℕ). SlotBy past client number n (kept_as reply)) (eqb-true s.last sequence both.0) (finished_by past client number s.last s.reply reply told both.1 p))
      (λ off. p)

  -- ---- a compound that waits

  pub record WaitsSo (past : List MdsEvent) (c : CompoundRun) : Type 0 where
    pub early : List MdsEvent
    pub f : MdsEvent
    pub late : List MdsEvent
    pub split : IsEventOf past early f late
    pub session : SessionId
    pub number : ℕ
    pub took : TookEffect servers mirrors early f session number
    pub node : c.node ≡ took.node
    pub xid : c.xid ≡ took.xid
    pub plain : layout_event f ≡ false
    pub ops : c.ops ≡ []
    pub stop : c.stop ≡ stop.End None
    pub slot : c.slot ≡ Some (pass_of (request_of session number took.call))
    pub legible : IsLegibleSoFar 1 c

  pub waits_more : (past more : List MdsEvent) (c : CompoundRun) → WaitsSo past c → WaitsSo (past ++ more) c
  waits_more past more c w = record {
    early = w.early;
    f = w.f;
    late = w.late ++ more;
    split = later past more w.early w.late w.f w.split;
    session = w.session;
    number = w.number;
    took = w.took;
    node = w.node;
    xid = w.xid;
    plain = w.plain;
    ops = w.ops;
    stop = w.stop;
    slot = w.slot;
    legible = w.legible;
  }

  -- ---- what a reply stands on, where F says of which requests a slot is free

  own_session : (session : SessionId) → is_of_session session session ≡ true
  own_session session =
      both (client_in session == client_in session) (number_in session == number_in session) (eq-eqb (client_in session) (client_in session) refl) (eq-eqb (number_in session) (number_in session) refl)
    where
      both : (a b : Bool) → a ≡ true → b ≡ true → (a && b) ≡ true
      both true b first second = second
      both false b first second = absurd cc

  -- a call that came in the event of a request that took effect is that request
  pub effect_too : (early : List MdsEvent) (f : MdsEvent) (session : SessionId) (number : ℕ) (took : TookEffect servers mirrors early f session number) (node : NodeId) (xid : ℕ) (name : List ℕ) (asked : SessionId) (n : ℕ) (c : SlotCallValue)
      → IsCallFrom f node xid name (OnSlot asked n c) → request_answer (after_binding (server_after servers mirrors early).sessions asked node) (request_of asked n c) ≡ TakesEffect
  effect_too early f session number took node xid name asked n c came =
      let one : took.node ≡ node = same_node f took.node node took.xid xid took.name name (OnSlot session number took.call) (OnSlot asked n c) took.came came in
      let request : request_of session number took.call ≡ request_of asked n c =
      same_Some (request_of session number took.call) (request_of asked n c) (ap first_request (same_ops f took.node node took.xid xid took.name name (OnSlot session number took.call) (OnSlot asked n c) took.came came)) in
      subst (λ (x : NodeId). request_answer (after_binding (server_after servers mirrors early).sessions asked x) (request_of asked n c) ≡ TakesEffect) one
      (subst (λ (q : Sequence). request_answer (after_binding (server_after servers mirrors early).sessions q.session took.node) q ≡ TakesEffect) request took.effect)

  took_too : (early : List MdsEvent) (f : MdsEvent) (session : SessionId) (number : ℕ) (took : TookEffect servers mirrors early f session number) (node : NodeId) (xid : ℕ) (name : List ℕ) (asked : SessionId) (n : ℕ) (c : SlotCallValue)
      → IsCallFrom f node xid name (OnSlot asked n c) → TookEffect servers mirrors early f asked n
  took_too early f session number took node xid name asked n c came = record { node = node; xid = xid; name = name; call = c; came = came; effect = effect_too early f session number took node xid name asked n c came }

  -- it has its session and its number
  pub same_request : (f : MdsEvent) (node there : NodeId) (xid also : ℕ) (name other : List ℕ) (session asked : SessionId) (number n : ℕ) (call c : SlotCallValue) → IsCallFrom f node xid name (OnSlot session number call)
      → IsCallFrom f there also other (OnSlot asked n c) → request_of session number call ≡ request_of asked n c
  same_request f node there xid also name other session asked number n call c came comes =
      same_Some (request_of session number call) (request_of asked n c) (ap first_request (same_ops f node there xid also name other (OnSlot session number call) (OnSlot asked n c) came comes))

  module _ (F : SessionId → ℕ → Type 0) where
    abbrev pub ByReport : List MdsEvent → List MdsEvent → SessionId → ℕ → SlotCallValue → MdsAnswerValue → SlotReport → Type 0
    ByReport past before session number call answer Taken = (t : TookEffectAmong servers mirrors past session number) × MeansTaken servers mirrors past session number call answer t × F session number
    ByReport past before session number call answer Uncached = (t : TookEffectAmong servers mirrors past session number) × WasNoGet servers mirrors past session number t × F session number
    ByReport past before session number call answer Delayed = Unit {0}
    ByReport past before session number call answer Unknown = IsUnknown servers mirrors before session number answer

    abbrev pub StandsWith : List MdsEvent → List MdsEvent → SessionId → ℕ → SlotCallValue → MdsReplyValue → Type 0
    StandsWith past before session number call says = ByReport past before session number call says.answer says.slot

    pub record AnswersWith (past : List MdsEvent) (node : NodeId) (reply : RpcReply) : Type 0 where
      pub early : List MdsEvent
      pub f : MdsEvent
      pub late : List MdsEvent
      pub split : IsEventOf past early f late
      pub name : List ℕ
      pub call : MdsCallValue
      pub came : IsCallFrom f node reply.xid name call
      pub stands : (other : List ℕ) (session : SessionId) (number : ℕ) (c : SlotCallValue) → IsCallFrom f node reply.xid other (OnSlot session number c) → FitsRequest (OnSlot session number c)
          → StandsWith past early session number c (reply_of_ask (ask_on_slot c) reply)

    pub stands_taken : (past early late : List MdsEvent) (f : MdsEvent) → IsEventOf past early f late → (session : SessionId) (number : ℕ) → TookEffect servers mirrors early f session number → (node : NodeId) (xid : ℕ) (name : List ℕ) (asked : SessionId)
        (n : ℕ) (c : SlotCallValue) → IsCallFrom f node xid name (OnSlot asked n c) → (says : MdsReplyValue) → says.slot ≡ Taken → MeansSo servers mirrors early f asked c says.answer → F asked n → StandsWith past early asked n c says
    stands_taken past early late f split session number took node xid name asked n c came says told means free = subst (λ (r : SlotReport). ByReport past early asked n c says.answer r) (sym told) taken_so
      where
        taken_so : ByReport past early asked n c says.answer Taken
        taken_so = (record { early = early; f = f; late = late; split = split; asked = asked; its = own_session asked; took = took_too early f session number took node xid name asked n c came }, λ other same. means, free)

    -- the reply of a compound that waited
    pub waited_answers : (past : List MdsEvent) (c : CompoundRun) (bytes : List ℕ) → (w : WaitsSo past c) → TellsTaken bytes → F w.session w.number → AnswersWith past c.node (success_reply c.xid bytes)
    waited_answers past c bytes w told free = record {
      early = w.early;
      f = w.f;
      late = w.late;
      split = w.split;
      name = w.took.name;
      call = OnSlot w.session w.number w.took.call;
      came = its_call;
      stands = λ other asked n call came fits.
          stands_taken past w.early w.late w.f w.split w.session w.number w.took c.node c.xid other asked n call came (reply_of_ask (ask_on_slot call) (success_reply c.xid bytes)) (told call c.xid)
          (plain_means servers mirrors w.early w.f asked call _ (sym (event_of_call w.f c.node c.xid other asked n call came) ∙ w.plain))
          (subst (λ (q : Sequence). F q.session q.sequence) (same_request w.f c.node c.node c.xid c.xid w.took.name other w.session asked w.number n w.took.call call its_call came) free);
    }
      where
        its_call : IsCallFrom w.f c.node c.xid w.took.name (OnSlot w.session w.number w.took.call)
        its_call = subst (λ (x : NodeId). IsCallFrom w.f x c.xid w.took.name (OnSlot w.session w.number w.took.call)) (sym w.node)
            (subst (λ (x : ℕ). IsCallFrom w.f w.took.node x w.took.name (OnSlot w.session w.number w.took.call)) (sym w.xid) w.took.came)

  -- where G says so too
  module _ (F G : SessionId → ℕ → Type 0) (on : (session : SessionId) (n : ℕ) → F session n → G session n) (past : List MdsEvent) where
    report_on : (before : List MdsEvent) (session : SessionId) (n : ℕ) (c : SlotCallValue) (answer : MdsAnswerValue) (r : SlotReport) → ByReport F past before session n c answer r → ByReport G past before session n c answer r
    report_on before session n c answer Taken p = (p.0, p.1, on session n p.2)
    report_on before session n c answer Uncached p = (p.0, p.1, on session n p.2)
    report_on before session n c answer Delayed p = tt
    report_on before session n c answer Unknown p = p

    pub answers_on : (node : NodeId) (reply : RpcReply) → AnswersWith F past node reply → AnswersWith G past node reply
    answers_on node reply a = record {
      early = a.early;
      f = a.f;
      late = a.late;
      split = a.split;
      name = a.name;
      call = a.call;
      came = a.came;
      stands = λ other session n c came fits.
          report_on a.early session n c (reply_of_ask (ask_on_slot c) reply).answer (reply_of_ask (ask_on_slot c) reply).slot (a.stands other session n c came fits);
    }

  -- where that is the server behind the events
  module _ (F : SessionId → ℕ → Type 0) (past : List MdsEvent) (free : (session : SessionId) (n : ℕ) → F session n → IsFreeAt (server_after servers mirrors past) session n) where
    report_stands : (before : List MdsEvent) (session : SessionId) (n : ℕ) (c : SlotCallValue) (answer : MdsAnswerValue) (r : SlotReport) → ByReport F past before session n c answer r
        → StandsByReport servers mirrors past before session n c answer r
    report_stands before session n c answer Taken p = (p.0, p.1, free session n p.2)
    report_stands before session n c answer Uncached p = (p.0, p.1, free session n p.2)
    report_stands before session n c answer Delayed p = tt
    report_stands before session n c answer Unknown p = p

    pub stands_behind : (before : List MdsEvent) (session : SessionId) (n : ℕ) (c : SlotCallValue) (says : MdsReplyValue) → StandsWith F past before session n c says → StandsFor servers mirrors past before session n c says
    stands_behind before session n c says p = report_stands before session n c says.answer says.slot p

    pub answers_request : (node : NodeId) (reply : RpcReply) → AnswersWith F past node reply → AnswersRequest servers mirrors past node reply
    answers_request node reply a = record {
      early = a.early;
      f = a.f;
      late = a.late;
      split = a.split;
      name = a.name;
      call = a.call;
      came = a.came;
      stands = λ other session n c came fits. stands_behind a.early session n c (reply_of_ask (ask_on_slot c) reply) (a.stands other session n c came fits);
    }
