-- A layout that was recalled goes: at every moment behind the reply.
use Rattle.std.proofs.Common.{◌≡◌, ℕ, Bool, true, false, List, [], ◌∷◌, ◌++◌, take, Option, Some, None, refl, sym, ap, subst, ◌∙◌, inl, inr, ◌⊎◌}
use Rattle.std.specs.Prelude.{if◌then◌else◌}
use Rattle.std.proofs.lemmas.List.{append_assoc, append-nil}
use Rattle.std.proofs.lemmas.Option.{none-some, same_Some}
use Rattle.ff_xdr.specs.Form.{word}
use Rattle.rpc_record.specs.Calls.{call_at}
use Rattle.rpc_record.specs.Replies.{RpcReply}
use Rattle.cluster_model.specs.declared.ids.NodeId.TheVariants.{Mds}
use Rattle.cluster_model.specs.declared.answer.UserAnswer.TheVariants as answer
use Rattle.cluster_model.specs.declared.answer.FailCause.TheVariants as failing
use Rattle.cluster_model.specs.declared.entry.Entry.{Entry}
use Rattle.cluster_model.specs.declared.entry.Entry.TheVariants.{Answer}
use Rattle.client_mds_calls.specs.MdsCalls.{OnSlot}
use Rattle.client_mds_calls.specs.MdsCalls as slot
use Rattle.client_state.specs.declared.layout.Layout.{Layout}
use Rattle.client_state.specs.ClientStates.{ClientValue, fresh_client}
use Rattle.client_state.specs.ClientSends.{ClientSend, CallsMds, RepliesToMds, ClientStep, sends_none}
use Rattle.client_calls.specs.ClientCalls.{ends_event}
use Rattle.client_callbacks.specs.Callbacks.{CbReply, cb_reply, cb_call_answer, callback_of}
use Rattle.mirror_client.specs.ClientRule.{answers_callback, found_call, client_recorded}
use Rattle.client_laws.specs.ClientHistory.{ClientInput, Recorded, input_step, HistoryItem, Hears, Enters, Sends, entered, sent, items_of, client_history, client_after, HasItem}
use Rattle.client_laws.specs.RecallLaws.{IsCallback, AsksBack, LastHeard, heard_behind, last_heard, WasRecalled, WasGivenBack, IsGoing, LayoutHasGone, WasReturned, WasLost, GoesStill, RecalledGoes}
use Rattle.client_laws.proofs.Orders.{in_more}
use Rattle.client_laws.proofs.Splits.{not_empty, there, tail_of, head_of, IsIn, IsBehind, split_either}
use Rattle.client_laws.proofs.SlotKept.{HeardCallback, SlotStands, slot_later}
use Rattle.client_laws.proofs.SlotSteps.{input_slot}
use Rattle.client_laws.proofs.RecallGoes.{IsRecalled, callback_so}
use Rattle.client_laws.proofs.Replied.{same_reply, heard_last}
use Rattle.client_laws.proofs.Goes.{StepGoes}
use Rattle.client_laws.proofs.Events.{input_goes}
use Rattle.client_laws.proofs.Steady.{Follows, Tied, tied_steady, CallsTied, ends_tied}
use Rattle.client_laws.proofs.CallbackSteady.{callback_steady}
use Rattle.client_laws.proofs.LayoutSteps.{Becomes, Stays, IsLost, IsGone, StepMoves, input_moves}
use Rattle.client_laws.proofs.Runs.{fresh_stands, fresh_slot}
use Rattle.client_laws.proofs.Stands.{Every, Stands, IfThere, MuteSend}

-- ---- items

in_behind : (xs ys : List HistoryItem) (x : HistoryItem) → HasItem ys x → HasItem (xs ++ ys) x
in_behind [] ys x i = i
in_behind (y ∷ xs) ys x i = inr (in_behind xs ys x i)

-- ---- what stands before an event, and behind it

record AllStand (h : List HistoryItem) (c : ClientValue) : Type 0 where
  pub stands : Stands h c
  pub slot : SlotStands h c.tie
  pub tied : Tied c

next_stands : (h : List HistoryItem) (c : ClientValue) (input : ClientInput) → AllStand h c → AllStand (h ++ items_of input (input_step input c)) (input_step input c).client
next_stands h c input a =
    let s : ClientStep = input_step input c in
    let g : StepGoes (h ++ Hears input ∷ []) s = input_goes h c input a.stands a.slot in
    let heard : List HistoryItem = h ++ Hears input ∷ [] in
    let e : List HistoryItem = entered s.entries in
    let t : List HistoryItem = sent s.sends in
    let m : StepMoves h c s = input_moves h c input a.stands a.tied in
    record {
      stands = subst (λ l. Stands l s.client) (append_assoc heard e t ∙ append_assoc h (Hears input ∷ []) (e ++ t)) g.stands;
      slot = subst (λ l. SlotStands l s.client.tie) (append_assoc h (Hears input ∷ []) (e ++ t)) (slot_later heard (e ++ t) s.client.tie (input_slot h c input a.slot));
      tied = m.tied;
    }

-- ---- a layout that is going goes on

going_on : (c d : ClientValue) (state : List ℕ) → Follows c.layout d.layout → IsGoing c state → IsGoing d state
going_on c d state follows g = by_layout d.layout refl (subst (λ (o : Option Layout). Follows o d.layout) g.there follows)
  where
    by_layout : (layout : Option Layout) → d.layout ≡ layout → Follows (Some g.layout) layout → IsGoing d state
    by_layout None at f = absurd f
    by_layout (Some l) at f = record { layout = l; there = at; its_state = ap (λ k. k.other) f.stateid ∙ g.its_state; stage = f.stage g.stage }

given_later : (h more : List HistoryItem) (state : List ℕ) → WasGivenBack h state → WasGivenBack (h ++ more) state
given_later h more state g = record {
  xid = g.xid;
  name = g.name;
  session = g.session;
  sequence = g.sequence;
  file = g.file;
  stateid = g.stateid;
  failed = g.failed;
  its_state = g.its_state;
  sent = in_more (Sends (CallsMds g.xid g.name (OnSlot g.session g.sequence (slot.LayoutReturn g.file g.stateid g.failed))) ∷ []) h more g.sent;
}

gone_next : (h behind : List HistoryItem) (c : ClientValue) (input : ClientInput) (state : List ℕ) → StepMoves h c (input_step input c) → LayoutHasGone h behind c state
    → LayoutHasGone (h ++ items_of input (input_step input c)) (behind ++ items_of input (input_step input c)) (input_step input c).client state
gone_next h behind c input state m (WasReturned g) = WasReturned (given_later h (items_of input (input_step input c)) state g)
gone_next h behind c input state m (WasLost client i) = WasLost client (in_more (Enters (Answer client (answer.Failed failing.Revoked)) ∷ []) behind (items_of input (input_step input c)) i)
gone_next h behind c input state m (GoesStill g) = by_what m.becomes
  where
    by_what : Becomes h c.layout (input_step input c).client.layout (input_step input c).entries → LayoutHasGone (h ++ items_of input (input_step input c)) (behind ++ items_of input (input_step input c)) (input_step input c).client state
    by_what (Stays follows) = GoesStill (going_on c (input_step input c).client state follows g)
    by_what (IsLost client i) =
        WasLost client (in_behind behind (items_of input (input_step input c)) (Enters (Answer client (answer.Failed failing.Revoked))) (inr (in_more (Enters (Answer client (answer.Failed failing.Revoked)) ∷ []) (entered (input_step input c).entries) (sent (input_step input c).sends) i)))
    by_what (IsGone gone) =
        WasReturned (given_later h (items_of input (input_step input c)) state (subst (WasGivenBack h) g.its_state (subst (λ (o : Option Layout). IfThere o (λ l. WasGivenBack h l.stateid.other)) g.there gone)))

goes_on : (inputs : List ClientInput) (h behind : List HistoryItem) (c : ClientValue) (state : List ℕ) → AllStand h c → LayoutHasGone h behind c state → LayoutHasGone (h ++ client_history c inputs) (behind ++ client_history c inputs) (client_after c inputs) state
goes_on [] h behind c state a g = subst (λ l. LayoutHasGone l (behind ++ []) c state) (sym (append-nil h)) (subst (λ l. LayoutHasGone h l c state) (sym (append-nil behind)) g)
goes_on (input ∷ inputs) h behind c state a g =
    let items : List HistoryItem = items_of input (input_step input c) in
    let d : ClientValue = (input_step input c).client in
    let more : List HistoryItem = client_history d inputs in
    let next : LayoutHasGone ((h ++ items) ++ more) ((behind ++ items) ++ more) (client_after d inputs) state =
    goes_on inputs (h ++ items) (behind ++ items) d state (next_stands h c input a) (gone_next h behind c input state (input_moves h c input a.stands a.tied) g) in
    subst (λ l. LayoutHasGone l (behind ++ (items ++ more)) (client_after d inputs) state) (append_assoc h items more) (subst (λ l. LayoutHasGone ((h ++ items) ++ more) l (client_after d inputs) state) (append_assoc behind items more) next)

-- ---- the reply

none_sent : (sends : List ClientSend) (mid rest : List HistoryItem) → sent sends ≡ mid ++ rest → last_heard mid ≡ None
none_sent sends [] rest is = refl
none_sent [] (x ∷ mid) rest is = absurd cc
none_sent (s ∷ sends) (x ∷ mid) rest is = subst (λ k. heard_behind k (last_heard mid) ≡ None) (ap (head_of x) is) (ap (heard_behind (Sends s)) (none_sent sends mid rest (ap tail_of is)))

none_behind : (entries : List Entry) (mid : List HistoryItem) → last_heard mid ≡ None → last_heard (entered entries ++ mid) ≡ None
none_behind [] mid none = none
none_behind (e ∷ entries) mid none = ap (heard_behind (Enters e)) (none_behind entries mid none)

no_entry : (entries : List Entry) (s : ClientSend) → HasItem (entered entries) (Sends s) → ⊥
no_entry [] s i = i
no_entry (e ∷ entries) s (inl (same, rest)) = absurd (cc (same))
no_entry (e ∷ entries) s (inr i) = no_entry entries s i

no_reply : (sends : List ClientSend) (reply : RpcReply) → Every MuteSend sends → HasItem (sent sends) (Sends (RepliesToMds reply)) → ⊥
no_reply [] reply mute i = i
no_reply (s ∷ sends) reply mute (inl (same, rest)) = is_mute s mute.0 (send_of same)
  where
    send_in : ClientSend → HistoryItem → ClientSend
    send_in other (Sends s) = s
    send_in other item = other

    send_of : Sends (RepliesToMds reply) ≡ Sends s → RepliesToMds reply ≡ s
    send_of same = cc (same)

    is_mute : (s : ClientSend) → MuteSend s → RepliesToMds reply ≡ s → ⊥
    is_mute s mute same = subst MuteSend (sym same) mute
no_reply (s ∷ sends) reply mute (inr i) = no_reply sends reply mute.1 i

-- what was heard last, and the recall in it
record RecallsNow (h : List HistoryItem) (bytes : List ℕ) (reply : RpcReply) (state : List ℕ) : Type 0 where
  pub session : List ℕ
  pub number : ℕ
  pub callback : IsCallback bytes session number
  pub asks : AsksBack callback.cb.ops.values state
  pub first : HeardCallback h session number → ⊥
  pub ok : take 4 reply.results ≡ word 0

module _ (h : List HistoryItem) (c : ClientValue) (a : AllStand h c) (bytes : List ℕ) (reply : RpcReply) (state : List ℕ) (r : RecallsNow h bytes reply state) where
  recalled_now : (k : CbReply) → callback_of (call_at bytes) c ≡ Some k → k.reply ≡ reply → IsGoing (ends_event k.client).client state
  recalled_now k is same =
      let e : IsRecalled k.client.layout state = callback_so h c bytes k state r.session r.number a.slot is r.callback r.asks r.first (subst (λ (x : RpcReply). take 4 x.results ≡ word 0) (sym same) r.ok) in
      let ends : CallsTied k.client (ends_event k.client) = ends_tied k.client (tied_steady c k.client (callback_steady (call_at bytes) c k is) a.tied) in
      going_on k.client (ends_event k.client).client state ends.follows (record { layout = e.held; there = e.there; its_state = e.its_state; stage = e.stage })

  by_place : (k : CbReply) → callback_of (call_at bytes) c ≡ Some k → (mid left : List HistoryItem) → sent (answers_callback k).sends ≡ mid ++ Sends (RepliesToMds reply) ∷ left → IsGoing (answers_callback k).client state
  by_place k is [] left at = going (recalled_now k is (same_reply k.reply reply (ap (head_of (Sends (RepliesToMds reply))) at)))
    where
      going : IsGoing (ends_event k.client).client state → IsGoing (answers_callback k).client state
      going g = record { layout = g.layout; there = g.there; its_state = g.its_state; stage = g.stage }
  by_place k is (x ∷ mid) left at =
      let ends : CallsTied k.client (ends_event k.client) = ends_tied k.client (tied_steady c k.client (callback_steady (call_at bytes) c k is) a.tied) in
      absurd (no_reply (ends_event k.client).sends reply ends.mute (subst (λ l. HasItem l (Sends (RepliesToMds reply))) (sym (ap tail_of at)) (there mid left (Sends (RepliesToMds reply)))))

  its : callback_of (call_at bytes) c ≡ Some (cb_reply r.callback.call.xid (cb_call_answer r.callback.call c))
  its = ap (λ k. callback_of k c) r.callback.call_is

  recorded_goes : (now : ℕ) (mid left : List HistoryItem) → sent (client_recorded Mds bytes now c).sends ≡ mid ++ Sends (RepliesToMds reply) ∷ left → IsGoing (client_recorded Mds bytes now c).client state
  recorded_goes now mid left = by_test c.has_left
    where
      by_call : (o : Option CbReply) → o ≡ Some (cb_reply r.callback.call.xid (cb_call_answer r.callback.call c))
          → (let s : ClientStep = found_call o bytes now c in sent s.sends ≡ mid ++ Sends (RepliesToMds reply) ∷ left → IsGoing s.client state)
      by_call None same at = absurd (none-some _ same)
      by_call (Some k) same at = by_place k (its ∙ sym same) mid left at

      by_test : (b : Bool)
          → (let s : ClientStep = if b then sends_none c else found_call (callback_of (call_at bytes) c) bytes now c in sent s.sends ≡ mid ++ Sends (RepliesToMds reply) ∷ left → IsGoing s.client state)
      by_test true at = absurd (not_empty mid left (Sends (RepliesToMds reply)) at)
      by_test false at = by_call (callback_of (call_at bytes) c) its at

-- the event in which it was answered
event_goes : (h : List HistoryItem) (c : ClientValue) (input : ClientInput) (mid left : List HistoryItem) (reply : RpcReply) (state : List ℕ) → AllStand h c
    → sent (input_step input c).sends ≡ mid ++ Sends (RepliesToMds reply) ∷ left → WasRecalled (h ++ Hears input ∷ (entered (input_step input c).entries ++ mid)) reply state → IsGoing (input_step input c).client state
event_goes h c input mid left reply state a at r =
    subst (λ (i : ClientInput). sent (input_step i c).sends ≡ mid ++ Sends (RepliesToMds reply) ∷ left → IsGoing (input_step i c).client state) (sym its_input)
    (recorded_goes h c a r.bytes reply state now r.now mid left) at
  where
    none : last_heard (entered (input_step input c).entries ++ mid) ≡ None
    none = none_behind (input_step input c).entries mid (none_sent (input_step input c).sends mid (Sends (RepliesToMds reply) ∷ left) at)

    same : ◌≡◌ {A = LastHeard} (record { earlier = h; input = input }) (record { earlier = r.earlier; input = Recorded Mds r.bytes r.now })
    same = same_Some _ _ (sym (heard_last h input (entered (input_step input c).entries ++ mid) none) ∙ r.last)

    its_input : input ≡ Recorded Mds r.bytes r.now
    its_input = ap (λ (x : LastHeard). x.input) same

    now : RecallsNow h r.bytes reply state
    now = record {
      session = r.session;
      number = r.number;
      callback = r.callback;
      asks = r.asks;
      first = λ heard. r.new heard.bytes heard.now (subst (λ e. HasItem e (Hears (Recorded Mds heard.bytes heard.now))) (ap (λ (x : LastHeard). x.earlier) same) heard.there) heard.callback;
      ok = r.ok;
    }

-- ---- every run

-- it was answered within the event
answered_within : (h : List HistoryItem) (c : ClientValue) (input : ClientInput) (before left : List HistoryItem) (reply : RpcReply) (state : List ℕ) → AllStand h c
    → items_of input (input_step input c) ≡ before ++ Sends (RepliesToMds reply) ∷ left → WasRecalled (h ++ before) reply state → IsGoing (input_step input c).client state
answered_within h c input [] left reply state a is r = absurd cc
answered_within h c input (x ∷ before) left reply state a is r = by_place (split_either (entered (input_step input c).entries) (sent (input_step input c).sends) before left (Sends (RepliesToMds reply)) (ap tail_of is))
  where
    by_place : IsIn (entered (input_step input c).entries) (sent (input_step input c).sends) before left (Sends (RepliesToMds reply)) ⊎ IsBehind (entered (input_step input c).entries) (sent (input_step input c).sends) before left (Sends (RepliesToMds reply))
        → IsGoing (input_step input c).client state
    by_place (inl i) = absurd (no_entry (input_step input c).entries (RepliesToMds reply) (subst (λ l. HasItem l (Sends (RepliesToMds reply))) (sym i.split) (there before i.left (Sends (RepliesToMds reply)))))
    by_place (inr b) =
        event_goes h c input b.mid left reply state a b.split
        (subst (λ l. WasRecalled (h ++ Hears input ∷ l) reply state) b.items_are (subst (λ k. WasRecalled (h ++ k ∷ before) reply state) (sym (ap (head_of x) is)) r))

recalled_in : (inputs : List ClientInput) (h : List HistoryItem) (c : ClientValue) (before behind : List HistoryItem) (reply : RpcReply) (state : List ℕ) → AllStand h c
    → client_history c inputs ≡ before ++ Sends (RepliesToMds reply) ∷ behind → WasRecalled (h ++ before) reply state → LayoutHasGone (h ++ client_history c inputs) behind (client_after c inputs) state
recalled_in [] h c before behind reply state a is r = absurd (not_empty before behind (Sends (RepliesToMds reply)) is)
recalled_in (input ∷ inputs) h c before behind reply state a is r =
    by_place (λ mid split its. recalled_in inputs (h ++ items_of input (input_step input c)) (input_step input c).client mid behind reply state (next_stands h c input a) split its)
    (split_either (items_of input (input_step input c)) (client_history (input_step input c).client inputs) before behind (Sends (RepliesToMds reply)) is)
  where
    items : List HistoryItem
    items = items_of input (input_step input c)

    more : List HistoryItem
    more = client_history (input_step input c).client inputs

    by_place : ((mid : List HistoryItem) → more ≡ mid ++ Sends (RepliesToMds reply) ∷ behind → WasRecalled ((h ++ items) ++ mid) reply state → LayoutHasGone ((h ++ items) ++ more) behind (client_after (input_step input c).client inputs) state)
        → IsIn items more before behind (Sends (RepliesToMds reply)) ⊎ IsBehind items more before behind (Sends (RepliesToMds reply)) → LayoutHasGone (h ++ (items ++ more)) behind (client_after (input_step input c).client inputs) state
    by_place further (inl i) =
        let going : IsGoing (input_step input c).client state = answered_within h c input before i.left reply state a i.split r in
        let later : LayoutHasGone ((h ++ items) ++ more) (i.left ++ more) (client_after (input_step input c).client inputs) state =
        goes_on inputs (h ++ items) i.left (input_step input c).client state (next_stands h c input a) (GoesStill going) in
        subst (λ l. LayoutHasGone l behind (client_after (input_step input c).client inputs) state) (append_assoc h items more) (subst (λ l. LayoutHasGone ((h ++ items) ++ more) l (client_after (input_step input c).client inputs) state) (sym i.rest) later)
    by_place further (inr b) =
        subst (λ l. LayoutHasGone l behind (client_after (input_step input c).client inputs) state) (append_assoc h items more)
        (further b.mid b.split (subst (λ l. WasRecalled l reply state) (sym (append_assoc h items b.mid)) (subst (λ l. WasRecalled (h ++ l) reply state) b.items_are r)))

fresh_all : (number verifier first_xid : ℕ) → AllStand [] (fresh_client number verifier first_xid)
fresh_all number verifier first_xid = record { stands = fresh_stands number verifier first_xid; slot = fresh_slot number verifier first_xid; tied = record { held = tt; out = tt; anew = tt } }

pub recalled_goes : RecalledGoes
recalled_goes number verifier first_xid inputs before behind reply state is r = recalled_in inputs [] (fresh_client number verifier first_xid) before behind reply state (fresh_all number verifier first_xid) is r
