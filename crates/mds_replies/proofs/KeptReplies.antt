-- What the first slot of a session keeps behind a request that took effect and whose compound is done, and that calls which go out leave it.
use Rattle.std.proofs.Common.{◌≡◌, ◌≤◌, ◌<◌, ℕ, Bool, true, false, cond, List, [], ◌∷◌, length, Option, Some, None, refl, sym, ap, ◌∙◌, arith}
use Rattle.std.specs.Prelude.{◌&&◌, nat_lt, slice_get}
use Rattle.std.specs.List.{find}
use Rattle.std.specs.Option.{option_map}
use Rattle.std.proofs.lemmas.Bool.{eq-eqb, ltb-true}
use Rattle.std.proofs.lemmas.Option.{same_Some, none-some}
use Rattle.cluster_model.specs.declared.ids.NodeId.TheVariants.{Server}
use Rattle.cluster_model.specs.declared.entry.Entry.{Entry}
use Rattle.nfs4_types.specs.declared.ids.SessionId.{SessionId}
use Rattle.nfs4_types.specs.declared.status.Stat4.TheVariants as stat
use Rattle.nfs4_session.specs.declared.slot.TheConstants.{MAX_KEPT}
use Rattle.nfs4_session.specs.Slots.{SlotState, Cached, Uncached as NotKept, TakesEffect, Refuses, kept_as, slot_begun, slot_finished}
use Rattle.nfs4_session.specs.Clients.{ClientState, SessionState, SessionsState, has_id, has_number, client_in, number_in, session_of_client, session_of, change_first, change_session, with_sessions, renewed_at}
use Rattle.nfs4_session.specs.Requests.{answer_by_slot, answer_by_session, request_answer, change_at, change_slot, after_request, after_finish, pass_of}
use Rattle.nfs4_session.specs.Bindings.{last_session, client_called_back, called_back}
use Rattle.nfs4_session.specs.TableLaw.{called_back_by}
use Rattle.client_mds_calls.specs.MdsCalls.{SlotCallValue}
use Rattle.mds_rule.specs.MdsStates.{MdsSend, CallsServer, CallsBack, AwaitedCall, MdsValue}
use Rattle.mds_rule.specs.declared.waiter.Waiter.TheVariants.{ForFile, ForRead, ForWrite, ForRecall}
use Rattle.mds_rule.specs.Goes.{calls_out}
use Rattle.mds_replies.specs.SlotReplies.{request_of}
use Rattle.mds_replies.specs.AnsweredRequests.{first_slot, slot_of}
use Rattle.mds_laws.proofs.Numbers.{WereSent, sent_more, sent_with}
use Rattle.mds_replies.proofs.HolderCases.{OutCases}
use Rattle.mds_replies.proofs.PeriodKept.{sent_with_calls, in_sent}
use Rattle.mds_replies.proofs.GoesWalk.{out_walk}

-- ---- what is found behind a change

module _ {X : Type 0} (test : X → Bool) where
  -- that the test does not see
  pub found_changed : (f : X → X) → ((x : X) → test (f x) ≡ test x) → (xs : List X) → find test (change_first test f xs) ≡ option_map f (find test xs)
  found_changed f same [] = refl
  found_changed f same (x ∷ xs) = by_test (test x) refl (found_changed f same xs)
    where
      by_test : (b : Bool) → test x ≡ b → find test (change_first test f xs) ≡ option_map f (find test xs) → find test (cond b (f x ∷ xs) (x ∷ change_first test f xs)) ≡ option_map f (cond b (Some x) (find test xs))
      by_test true is later = ap (λ (b : Bool). cond b (Some (f x)) (find test xs)) (same x ∙ is)
      by_test false is later = ap (λ (b : Bool). cond b (Some x) (find test (change_first test f xs))) is ∙ later

  -- what a change leaves, of whichever element
  module _ {Y : Type 0} (g : X → Y) (other : X → Bool) (f : X → X) (same : (x : X) → test (f x) ≡ test x) (leaves : (x : X) → g (f x) ≡ g x) where
    pub found_left : (xs : List X) → option_map g (find test (change_first other f xs)) ≡ option_map g (find test xs)
    found_left [] = refl
    found_left (x ∷ xs) = by_other (other x) (found_left xs)
      where
        one : (b : Bool) → option_map g (cond b (Some (f x)) (find test xs)) ≡ option_map g (cond b (Some x) (find test xs))
        one true = ap (λ (y : Y). Some y) (leaves x)
        one false = refl

        rest : (b : Bool) → option_map g (find test (change_first other f xs)) ≡ option_map g (find test xs)
            → option_map g (cond b (Some x) (find test (change_first other f xs))) ≡ option_map g (cond b (Some x) (find test xs))
        rest true later = refl
        rest false later = later

        by_other : (b : Bool) → option_map g (find test (change_first other f xs)) ≡ option_map g (find test xs) → option_map g (find test (cond b (f x ∷ xs) (x ∷ change_first other f xs))) ≡ option_map g (find test (x ∷ xs))
        by_other true later = ap (λ (b : Bool). option_map g (cond b (Some (f x)) (find test xs))) (same x) ∙ one (test x)
        by_other false later = rest (test x) later

-- ---- the first slot of a session

module _ (session : SessionId) where
  abbrev Found : SessionsState → Option SessionState
  Found s = session_of s.clients session

  session_changed : (f : SessionState → SessionState) → ((x : SessionState) → has_number (number_in session) (f x) ≡ has_number (number_in session) x) → (clients : List ClientState)
      → session_of (change_session session f clients) session ≡ option_map f (session_of clients session)
  session_changed f same clients =
      ap (session_of_client (number_in session))
      (found_changed (has_id (client_in session)) (λ c. with_sessions c (change_first (has_number (number_in session)) f c.sessions)) (λ c. refl) clients) ∙ by_found (find (has_id (client_in session)) clients)
    where
      by_found : (o : Option ClientState) → session_of_client (number_in session) (option_map (λ (c : ClientState). with_sessions c (change_first (has_number (number_in session)) f c.sessions)) o) ≡ option_map f (session_of_client (number_in session) o)
      by_found None = refl
      by_found (Some c) = found_changed (has_number (number_in session)) f same c.sessions

  session_renewed : (now : ℕ) (clients : List ClientState) → session_of (change_first (has_id (client_in session)) (renewed_at now) clients) session ≡ session_of clients session
  session_renewed now clients = ap (session_of_client (number_in session)) (found_changed (has_id (client_in session)) (renewed_at now) (λ c. refl) clients) ∙ by_found (find (has_id (client_in session)) clients)
    where
      by_found : (o : Option ClientState) → session_of_client (number_in session) (option_map (renewed_at now) o) ≡ session_of_client (number_in session) o
      by_found None = refl
      by_found (Some c) = refl

  first_changed : (f : SlotState → SlotState) (o : Option SessionState) (slot : SlotState) → first_slot o ≡ Some slot → first_slot (option_map (change_slot 0 f) o) ≡ Some (f slot)
  first_changed f None slot at = absurd (none-some slot at)
  first_changed f (Some x) slot at = by_slots x.slots at
    where
      by_slots : (slots : List SlotState) → slice_get slots 0 ≡ Some slot → slice_get (change_at 0 f slots (slice_get slots 0)) 0 ≡ Some (f slot)
      by_slots [] is = absurd (none-some slot is)
      by_slots (y ∷ ys) is = ap (λ (z : SlotState). Some (f z)) (same_Some y slot is)

  module _ (s : SessionsState) (number : ℕ) (call : SlotCallValue) (now : ℕ) where
    begins : (effect : request_answer s (request_of session number call) ≡ TakesEffect) → (o : Option SessionState) → session_of s.clients session ≡ o → first_slot (session_of (after_request s (request_of session number call) now).clients session) ≡ Some (slot_begun number)
    begins effect None at = absurd (not_gone (sym effect ∙ ap (answer_by_session (request_of session number call)) at))
      where
        not_gone : TakesEffect ≡ Refuses stat.BadSession → ⊥
        not_gone is = absurd cc
    begins effect (Some x) at = by_slot (slice_get x.slots 0) refl
      where
        not_there : TakesEffect ≡ Refuses stat.BadSlot → ⊥
        not_there is = absurd cc

        by_slot : (o : Option SlotState) → slice_get x.slots 0 ≡ o → first_slot (session_of (after_request s (request_of session number call) now).clients session) ≡ Some (slot_begun number)
        by_slot None none = absurd (not_there (sym effect ∙ ap (answer_by_session (request_of session number call)) at ∙ ap (answer_by_slot number) none))
        by_slot (Some slot) there =
            ap first_slot (session_renewed now (change_session session (change_slot 0 (λ slot. slot_begun number)) s.clients) ∙ session_changed (change_slot 0 (λ slot. slot_begun number)) (λ y. refl) s.clients)
            ∙ first_changed (λ slot. slot_begun number) (session_of s.clients session) slot (ap first_slot at ∙ there)

    pub has_begun : request_answer s (request_of session number call) ≡ TakesEffect → first_slot (session_of (after_request s (request_of session number call) now).clients session) ≡ Some (slot_begun number)
    has_begun effect = begins effect (session_of s.clients session) refl

    done_is : (reply : List ℕ) → slot_finished number reply (slot_begun number) ≡ record { last = number; reply = kept_as reply }
    done_is reply = ap (λ (b : Bool). cond (b && true) (record { last = number; reply = kept_as reply }) (slot_begun number)) (eq-eqb number number refl)

    pub has_finished : (t : SessionsState) (reply : List ℕ) → first_slot (session_of t.clients session) ≡ Some (slot_begun number)
        → first_slot (session_of (after_finish t (pass_of (request_of session number call)) reply).clients session) ≡ Some (record { last = number; reply = kept_as reply })
    has_finished t reply at =
        ap first_slot (session_changed (change_slot 0 (slot_finished number reply)) (λ y. refl) t.clients) ∙ first_changed (slot_finished number reply) (session_of t.clients session) (slot_begun number) at
        ∙ ap (λ (z : SlotState). Some z) (done_is reply)

pub kept_short : (reply : List ℕ) → length reply ≤ 32768 → kept_as reply ≡ Cached reply
kept_short reply short = ap (λ (b : Bool). cond b NotKept (Cached reply)) (not_long (nat_lt MAX_KEPT (length reply)) refl)
  where
    not_long : (b : Bool) → nat_lt MAX_KEPT (length reply) ≡ b → nat_lt MAX_KEPT (length reply) ≡ false
    not_long false is = is
    not_long true is = absurd (too_long (ltb-true MAX_KEPT (length reply) is))
      where
        too_long : MAX_KEPT < length reply → ⊥
        too_long less = omega (arith, short, less)

-- ---- calls that go out

module _ (session : SessionId) where
  abbrev slots_found : ClientState → Option (List SlotState)
  slots_found c = option_map (λ (x : SessionState). x.slots) (find (has_number (number_in session)) c.sessions)

  abbrev first_in : Option (List SlotState) → Option SlotState
  first_in None = None
  first_in (Some slots) = slice_get slots 0

  abbrev first_among : Option (Option (List SlotState)) → Option SlotState
  first_among None = None
  first_among (Some o) = first_in o

  first_is : (o : Option SessionState) → first_slot o ≡ first_in (option_map (λ (x : SessionState). x.slots) o)
  first_is None = refl
  first_is (Some x) = refl

  slot_is : (o : Option ClientState) → first_slot (session_of_client (number_in session) o) ≡ first_among (option_map slots_found o)
  slot_is None = refl
  slot_is (Some c) = first_is (find (has_number (number_in session)) c.sessions)

  slots_left : (number : ℕ) (c : ClientState) → slots_found (client_called_back number c) ≡ slots_found c
  slots_left number c = found_left (has_number (number_in session)) (λ (x : SessionState). x.slots) (has_number number) called_back (λ x. refl) (λ x. refl) c.sessions

  back_leaves : (client : ℕ) (s : SessionsState) (o : Option SessionState) → first_slot (session_of (called_back_by s client o).clients session) ≡ first_slot (session_of s.clients session)
  back_leaves client s None = refl
  back_leaves client s (Some x) =
      slot_is (find (has_id (client_in session)) (change_first (has_id client) (client_called_back x.number) s.clients))
      ∙ ap first_among (found_left (has_id (client_in session)) slots_found (has_id client) (client_called_back x.number) (λ c. refl) (slots_left x.number) s.clients) ∙ sym (slot_is (find (has_id (client_in session)) s.clients))

  module _ (slot : SlotState) where
    record Stands (s : SessionsState) (calls : List AwaitedCall) (ss : List MdsSend) : Type 0 where
      pub kept : first_slot (session_of s.clients session) ≡ Some slot
      pub were : WereSent calls ss

    abbrev IsSo : MdsValue → List Entry → List MdsSend → Type 0
    IsSo m es ss = Stands m.sessions m.calls ss

    outs : OutCases IsSo
    outs = record {
      recalled = λ m recalls es ss i. i;
      back = λ m client es ss i. record { kept = back_leaves client m.sessions (last_session (find (has_id client) m.sessions.clients)) ∙ i.kept; were = i.were };
      calls_file = λ m other s c at has its es ss i.
          record { kept = i.kept; were = sent_with m.calls ss (record { node = Server c.server; xid = m.next_xid; caller = ForFile other; sent = CallsServer c.server m.next_xid c.uid c.call }) i.were };
      calls_write = λ m other s w c at has waits its is_write es ss i.
          record { kept = i.kept; were = sent_with m.calls ss (record { node = Server c.id.server; xid = m.next_xid; caller = ForWrite other; sent = CallsServer c.id.server m.next_xid w.writer.cred c.call }) i.were };
      calls_read = λ m other s t server call at has same held number write waits kept uid is_read es ss i.
          record { kept = i.kept; were = sent_with m.calls ss (record { node = Server server; xid = m.next_xid; caller = ForRead other; sent = CallsServer server m.next_xid 0 call }) i.were };
      calls_back = λ m node back other stateid has es ss i.
          record { kept = i.kept; were = sent_with m.calls ss (record { node = node; xid = m.next_xid; caller = ForRecall; sent = CallsBack m.next_xid back other stateid }) i.were };
      skips = λ m has es ss i. i;
      was = λ m es ss i. i.were;
      again = λ m s es ss i inside. record { kept = i.kept; were = sent_more m.calls ss s i.were };
    }

    pub out_leaves : (m : MdsValue) → slot_of m session ≡ Some slot → slot_of (calls_out [] m).mds session ≡ Some slot
    out_leaves m at = (out_walk IsSo outs [] m [] (sent_with_calls m.calls) (record { kept = at; were = λ call inside. in_sent call m.calls inside })).kept
