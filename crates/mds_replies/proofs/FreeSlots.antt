-- Of which number a session's first slot has no request in progress, over the calls of a table of clients.
use Rattle.std.proofs.Common.{◌≡◌, ℕ, Bool, true, false, cond, List, [], ◌∷◌, ◌++◌, length, Option, Some, None, refl, sym, ap, subst, ◌∙◌}
use Rattle.std.specs.Prelude.{◌==◌, ◌&&◌, nat_lt, slice_get}
use Rattle.std.specs.List.{All, AllPairs, find}
use Rattle.std.proofs.lemmas.Bool.{cond_both, eqb-true, eq-eqb}
use Rattle.std.proofs.lemmas.List.Sums.{fold_push}
use Rattle.std.proofs.lemmas.Option.{same_Some, none-some}
use Rattle.device_addr.specs.Universal.{AddressValue}
use Rattle.nfs4_types.specs.declared.ids.SessionId.{SessionId}
use Rattle.nfs4_types.specs.declared.sequence.Sequence.{Sequence}
use Rattle.nfs4_types.specs.declared.status.Stat4.TheVariants as stat
use Rattle.nfs4_session.specs.declared.slot.TheConstants.{MAX_KEPT}
use Rattle.nfs4_session.specs.declared.session.TheConstants.{SLOTS}
use Rattle.nfs4_session.specs.Slots.{SlotState, SlotReply, NoRequest, InProgress, Cached, Uncached as NotKept, SlotAnswer, TakesEffect, Refuses, answer_again, is_in_progress, sequence_after, slot_answer, kept_as, slot_begun, slot_finished}
use Rattle.nfs4_session.specs.Clients.{ClientState, SessionState, SessionsState, no_clients, has_id, has_number, client_in, number_in, session_of_client, session_of, change_first, change_session, with_sessions}
use Rattle.nfs4_session.specs.Requests.{answer_by_slot, answer_by_session, request_answer, change_at, change_slot, after_request, after_finish}
use Rattle.nfs4_session.specs.TableLaw.{TableMove, table_after, TableRun, table_moved, table_run, IsTable, KeepsTable}
use Rattle.client_mds_calls.specs.MdsCalls.{SlotCallValue}
use Rattle.mds_rule.specs.MdsStates.{new_mds}
use Rattle.mds_walk.specs.MdsRuns.{MdsEvent}
use Rattle.mds_laws.proofs.Keeping.{IsNoRequest}
use Rattle.mds_walk.proofs.Lists.{AllOf, all_in, found_in, found_passes}
use Rattle.mds_replies.specs.ClientCalls.{server_after}
use Rattle.mds_replies.specs.SlotReplies.{request_of}
use Rattle.mds_replies.specs.AnsweredRequests.{first_slot}
use Rattle.mds_replies.proofs.TableRuns.{run_keeps}
use Rattle.mds_replies.proofs.SlotTables.{HasFirst, changed_first, SessionSo, ClientSo, TableSo, all_more, move_so, request_so}
use Rattle.mds_replies.proofs.OneOfAll.{all_from, all_both, one_has, unique_found, all_change_one}

-- ---- the tables that calls come to

-- the table is the one behind these calls
pub record IsRunTable (s : SessionsState) : Type 0 where
  pub moves : List TableMove
  pub is : s ≡ (table_run 1 moves).table

abbrev begun : TableRun
begun = record { table = no_clients 1; ids = []; numbers = [] }

pub run_table_on : (s : SessionsState) (move : TableMove) → IsRunTable s → IsRunTable (table_after s move)
run_table_on s move i = record {
  moves = i.moves ++ move ∷ [];
  is = ap (λ (t : SessionsState). table_after t move) i.is ∙ sym (ap (λ (r : TableRun). r.table) (fold_push table_moved begun i.moves move));
}

-- of every run
pub run_table : (servers : List AddressValue) (mirrors : ℕ) (events : List MdsEvent) → IsRunTable (server_after servers mirrors events).sessions
run_table servers mirrors events = run_keeps IsRunTable (λ s move i. run_table_on s move i) (new_mds servers mirrors) events (record { moves = []; is = refl })

pub is_table : KeepsTable → (s : SessionsState) → IsRunTable s → IsTable s
is_table keeps s i = subst IsTable (sym i.is) (keeps 1 i.moves).0

-- ---- free

-- a slot of this session has no request of this number in progress
abbrev pub FreeFor : ℕ → ℕ → ℕ → ℕ → ℕ → SlotState → Type 0
FreeFor k j n client number slot = client ≡ k → number ≡ j → slot.last ≡ n → is_in_progress slot.reply ≡ false

abbrev pub FreeIn : SessionsState → SessionId → ℕ → Type 0
FreeIn s session n = TableSo (FreeFor (client_in session) (number_in session) n) s

pub kept_free : (reply : List ℕ) → is_in_progress (kept_as reply) ≡ false
kept_free reply = cond_both (nat_lt MAX_KEPT (length reply)) NotKept (Cached reply) (λ (r : SlotReply). is_in_progress r ≡ false) (λ long. refl) (λ short. refl)

finished_free : (k j n client number sequence : ℕ) (reply : List ℕ) (slot : SlotState) → FreeFor k j n client number slot → FreeFor k j n client number (slot_finished sequence reply slot)
finished_free k j n client number sequence reply slot p =
    cond_both ((slot.last == sequence) && is_in_progress slot.reply) (record { last = sequence; reply = kept_as reply }) slot (FreeFor k j n client number) (λ is. λ its so same. kept_free reply) (λ off. p)

-- it stays so while no request begins
pub free_stays : (s : SessionsState) (move : TableMove) → IsNoRequest move → (session : SessionId) (n : ℕ) → FreeIn s session n → FreeIn (table_after s move) session n
free_stays s move none session n free =
    move_so (FreeFor (client_in session) (number_in session) n) (λ client number. λ its so same. refl) (finished_free (client_in session) (number_in session) n) s move none free

-- and where one of another number begins
pub free_begins : (s : SessionsState) (request : Sequence) (now : ℕ) → request.slot ≡ 0 → (session : SessionId) (n : ℕ) → FreeFor (client_in session) (number_in session) n (client_in request.session) (number_in request.session) (slot_begun request.sequence)
    → FreeIn s session n → FreeIn (after_request s request now) session n
free_begins s request now at session n its free =
    request_so (FreeFor (client_in session) (number_in session) n) s request now at its free

-- ---- each session has a first slot

none_of : 0 ≡ SLOTS → ⊥
none_of is = absurd cc

some_first : (slots : List SlotState) → length slots ≡ SLOTS → HasFirst slots
some_first [] is = absurd (none_of is)
some_first (x ∷ slots) is = tt

abbrev HaveFirst : ClientState → Type 0
HaveFirst c = AllOf (λ (x : SessionState). HasFirst x.slots) c.sessions

abbrev OtherNumbers : ClientState → Type 0
OtherNumbers c = AllPairs (λ (a b : SessionState). ¬ (a.number ≡ b.number)) c.sessions

have_first : (s : SessionsState) → IsTable s → AllOf HaveFirst s.clients
have_first s t =
    all_more (λ (c : ClientState). All (λ (x : SessionState). length x.slots ≡ SLOTS) c.sessions) HaveFirst
    (λ c all. all_more (λ (x : SessionState). length x.slots ≡ SLOTS) (λ (x : SessionState). HasFirst x.slots) (λ x is. some_first x.slots is) c.sessions (all_from (λ (x : SessionState). length x.slots ≡ SLOTS) c.sessions all)) s.clients
    (all_from (λ (c : ClientState). All (λ (x : SessionState). length x.slots ≡ SLOTS) c.sessions) s.clients t.slots)

other_numbers : (s : SessionsState) → IsTable s → AllOf OtherNumbers s.clients
other_numbers s t = all_from OtherNumbers s.clients t.numbers

differ : (a b : ℕ) → (a == b) ≡ false → a ≡ b → ⊥
differ a b off is = absurd (cc (eq-eqb a b is, off))

second_off : (a b : Bool) → (a && b) ≡ false → a ≡ true → b ≡ false
second_off true b off is = off
second_off false b off is = absurd cc

done_free : (n : ℕ) (reply : List ℕ) (slot : SlotState) → (slot_finished n reply slot).last ≡ n → is_in_progress (slot_finished n reply slot).reply ≡ false
done_free n reply slot =
    cond_both ((slot.last == n) && is_in_progress slot.reply) (record { last = n; reply = kept_as reply }) slot (λ (x : SlotState). x.last ≡ n → is_in_progress x.reply ≡ false) (λ is. λ same. kept_free reply)
    (λ off. λ same. second_off (slot.last == n) (is_in_progress slot.reply) off (eq-eqb slot.last n same))

-- ---- the first slot of one session is changed

module _ (k j : ℕ) (f : SlotState → SlotState) (P R : ℕ → ℕ → SlotState → Type 0) (here : (slot : SlotState) → P k j slot → R k j (f slot))
    (other : (client number : ℕ) (slot : SlotState) → (client ≡ k → number ≡ j → ⊥) → P client number slot → R client number slot) where
  first_changed : (slots : List SlotState) → HasFirst slots → ((slot : SlotState) → slice_get slots 0 ≡ Some slot → P k j slot) → (slot : SlotState) → slice_get (change_at 0 f slots (slice_get slots 0)) 0 ≡ Some slot → R k j slot
  first_changed [] some its slot is = absurd some
  first_changed (x ∷ slots) some its slot is = subst (λ (y : SlotState). R k j y) (same_Some (f x) slot is) (here x (its x refl))

  in_session : (id : ℕ) (x : SessionState) → id ≡ k → has_number j x ≡ true → SessionSo P id x → SessionSo R id (change_slot 0 f x)
  in_session id x its is p = (
    changed_first 0 f x.slots p.0,
    λ slot at.
        subst (λ (c : ℕ). R c x.number slot) (sym its)
        (subst (λ (n : ℕ). R k n slot) (sym (eqb-true x.number j is))
        (first_changed x.slots p.0 (λ y there. subst (λ (c : ℕ). P c j y) its (subst (λ (n : ℕ). P id n y) (eqb-true x.number j is) (p.1 y there))) slot at)),
  )

  beside : (id : ℕ) (x : SessionState) → has_number j x ≡ false → SessionSo P id x → SessionSo R id x
  beside id x off p = (p.0, λ slot at. other id x.number slot (λ its so. differ x.number j off so) (p.1 slot at))

  in_client : (c : ClientState) → has_id k c ≡ true → OtherNumbers c × ClientSo P c → AllOf (SessionSo R c.id) (change_first (has_number j) (change_slot 0 f) c.sessions)
  in_client c is has =
      all_change_one (has_number j) (SessionSo P c.id) (SessionSo R c.id) (change_slot 0 f) (λ x so p. in_session c.id x (eqb-true c.id k is) so p) (λ x off p. beside c.id x off p) c.sessions (one_has (λ (x : SessionState). x.number) j c.sessions has.0) has.1

  in_other : (c : ClientState) → has_id k c ≡ false → ClientSo P c → ClientSo R c
  in_other c off has = all_more (SessionSo P c.id) (SessionSo R c.id) (λ x p. (p.0, λ slot at. other c.id x.number slot (λ its so. differ c.id k off its) (p.1 slot at))) c.sessions has

  change_in : (s : SessionsState) → IsTable s → TableSo P s → AllOf (ClientSo R) (change_first (has_id k) (λ c. with_sessions c (change_first (has_number j) (change_slot 0 f) c.sessions)) s.clients)
  change_in s t all =
      all_change_one (has_id k) (λ (c : ClientState). OtherNumbers c × ClientSo P c) (ClientSo R) (λ c. with_sessions c (change_first (has_number j) (change_slot 0 f) c.sessions)) (λ c is has. in_client c is has) (λ c off has. in_other c off has.1) s.clients
      (one_has (λ (c : ClientState). c.id) k s.clients t.ids) (all_both OtherNumbers (ClientSo P) (λ (c : ClientState). OtherNumbers c × ClientSo P c) (λ c p q. (p, q)) s.clients (other_numbers s t) all)

pub change_one : (s : SessionsState) → IsTable s → (session : SessionId) (f : SlotState → SlotState) (P R : ℕ → ℕ → SlotState → Type 0)
    → ((slot : SlotState) → P (client_in session) (number_in session) slot → R (client_in session) (number_in session) (f slot))
    → ((client number : ℕ) (slot : SlotState) → (client ≡ client_in session → number ≡ number_in session → ⊥) → P client number slot → R client number slot) → TableSo P s
    → AllOf (ClientSo R) (change_session session (change_slot 0 f) s.clients)
change_one s t session f P R here other all = change_in (client_in session) (number_in session) f P R here other s t all

-- ---- the request of this number is done

abbrev AnySlot : ℕ → ℕ → SlotState → Type 0
AnySlot client number slot = Unit {0}

any_slots : (s : SessionsState) → IsTable s → TableSo AnySlot s
any_slots s t = all_more HaveFirst (ClientSo AnySlot) (λ c has. all_more (λ (x : SessionState). HasFirst x.slots) (SessionSo AnySlot c.id) (λ x some. (some, λ slot at. tt)) c.sessions has) s.clients (have_first s t)

pub finish_frees : (s : SessionsState) → IsTable s → (session : SessionId) (n : ℕ) (reply : List ℕ) → FreeIn (after_finish s (record { session = session; slot = 0; sequence = n }) reply) session n
finish_frees s t session n reply =
    change_one s t session (slot_finished n reply) AnySlot (FreeFor (client_in session) (number_in session) n) (λ slot any its so same. done_free n reply slot same) (λ client number slot apart any its so same. absurd (apart its so)) (any_slots s t)

-- ---- the one session of this id

-- what holds of its first slot holds of every first slot of it
module _ (s : SessionsState) (t : IsTable s) (session : SessionId) (P : SlotState → Type 0) (its : (slot : SlotState) → first_slot (session_of s.clients session) ≡ Some slot → P slot) where
  abbrev ItsOwn : ℕ → ℕ → SlotState → Type 0
  ItsOwn client number slot = client ≡ client_in session → number ≡ number_in session → P slot

  of_session : (c : ClientState) → (c.id ≡ client_in session → find (has_id (client_in session)) s.clients ≡ Some c) → (x : SessionState) → HasFirst x.slots
      → (x.number ≡ number_in session → find (has_number (number_in session)) c.sessions ≡ Some x) → SessionSo ItsOwn c.id x
  of_session c found x some there = (
    some,
    λ slot at one same. its slot (ap (λ (o : Option ClientState). first_slot (session_of_client (number_in session) o)) (found one) ∙ ap first_slot (there same) ∙ at),
  )

  of_client : (c : ClientState) → OtherNumbers c × HaveFirst c → (c.id ≡ client_in session → find (has_id (client_in session)) s.clients ≡ Some c) → ClientSo ItsOwn c
  of_client c has found =
      all_both (λ (x : SessionState). HasFirst x.slots) (λ (x : SessionState). x.number ≡ number_in session → find (has_number (number_in session)) c.sessions ≡ Some x) (SessionSo ItsOwn c.id) (λ x some there. of_session c found x some there) c.sessions has.1
      (unique_found (λ (x : SessionState). x.number) (number_in session) c.sessions has.0)

  pub table_by_first : TableSo ItsOwn s
  table_by_first =
      all_both (λ (c : ClientState). OtherNumbers c × HaveFirst c) (λ (c : ClientState). c.id ≡ client_in session → find (has_id (client_in session)) s.clients ≡ Some c) (ClientSo ItsOwn) (λ c has found. of_client c has found) s.clients
      (all_both OtherNumbers HaveFirst (λ (c : ClientState). OtherNumbers c × HaveFirst c) (λ c p q. (p, q)) s.clients (other_numbers s t) (have_first s t))
      (unique_found (λ (c : ClientState). c.id) (client_in session) s.clients t.ids)

-- and it holds of its first slot where it holds of each
module _ (P : ℕ → ℕ → SlotState → Type 0) (s : SessionsState) (session : SessionId) (all : TableSo P s) (slot : SlotState) where
  in_found : (c : ClientState) → c.id ≡ client_in session → AllOf (SessionSo P c.id) c.sessions → (o : Option SessionState) → find (has_number (number_in session)) c.sessions ≡ o → first_slot o ≡ Some slot
      → P (client_in session) (number_in session) slot
  in_found c its so None at is = absurd (none-some slot is)
  in_found c its so (Some x) at is =
      subst (λ (k : ℕ). P k (number_in session) slot) its
      (subst (λ (j : ℕ). P c.id j slot) (eqb-true x.number (number_in session) (found_passes (has_number (number_in session)) c.sessions x at))
      ((all_in (SessionSo P c.id) c.sessions x so (found_in (has_number (number_in session)) c.sessions x at)).1 slot is))

  by_found : (o : Option ClientState) → find (has_id (client_in session)) s.clients ≡ o → first_slot (session_of_client (number_in session) o) ≡ Some slot → P (client_in session) (number_in session) slot
  by_found None at is = absurd (none-some slot is)
  by_found (Some c) at is =
      in_found c (eqb-true c.id (client_in session) (found_passes (has_id (client_in session)) s.clients c at)) (all_in (ClientSo P) s.clients c all (found_in (has_id (client_in session)) s.clients c at))
      (find (has_number (number_in session)) c.sessions) refl is

  pub first_so : first_slot (session_of s.clients session) ≡ Some slot → P (client_in session) (number_in session) slot
  first_so is = by_found (find (has_id (client_in session)) s.clients) refl is

-- ---- a request that is answered, and not put off

module _ (s : SessionsState) (session : SessionId) (n : ℕ) (call : SlotCallValue) (a : SlotAnswer) (is : request_answer s (request_of session n call) ≡ a) (done : Refuses stat.Delay ≡ a → ⊥) where
  told : (slot : SlotState) (o : Option SessionState) → answer_by_session (request_of session n call) o ≡ a → first_slot o ≡ Some slot → slot_answer slot n ≡ a
  told slot None answers at = absurd (none-some slot at)
  told slot (Some x) answers at = ap (answer_by_slot n) (sym at) ∙ answers

  by_reply : (r : SlotReply) → answer_again r ≡ a → is_in_progress r ≡ false
  by_reply NoRequest answers = refl
  by_reply InProgress answers = absurd (done answers)
  by_reply (Cached reply) answers = refl
  by_reply NotKept answers = refl

  again : (slot : SlotState) → first_slot (session_of s.clients session) ≡ Some slot → slot.last ≡ n → is_in_progress slot.reply ≡ false
  again slot at same =
      by_reply slot.reply
      (sym (ap (λ (b : Bool). cond b (answer_again slot.reply) (cond ((n == sequence_after slot.last) && Rattle.std.specs.Prelude.not (is_in_progress slot.reply)) TakesEffect (Refuses stat.SeqMisordered))) (eq-eqb n slot.last (sym same)))
      ∙ told slot (session_of s.clients session) is at)

  pub answered_free : IsTable s → FreeIn s session n
  answered_free t = table_by_first s t session (λ (slot : SlotState). slot.last ≡ n → is_in_progress slot.reply ≡ false) again
