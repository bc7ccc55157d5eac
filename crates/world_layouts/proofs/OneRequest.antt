-- Of a life, one request has a number of a session.
use Rattle.std.proofs.Common.{◌≡◌, ◌<◌, ◌≤◌, ℕ, ◌+◌, ◌^◌, Bool, true, false, length, List, [], ◌∷◌, ◌++◌, refl, sym, ap, subst, ◌∙◌, inl, inr, ◌⊎◌, arith, append_assoc, length-append}
use Rattle.std.specs.Prelude.{nat_le, nat_lt, ◌==◌, ◌&&◌}
use Rattle.std.specs.List.{AllByRecursion}
use Rattle.std.proofs.lemmas.Bool.Decides.{nat_tests}
use Rattle.std.proofs.lemmas.Bool.{leb-true, ltb-true, and_parts, eqb-true, eq-eqb}
use Rattle.cluster_model.specs.declared.ids.NodeId.TheVariants.{Mds, Client}
use Rattle.world_rule.specs.ClusterWorlds.{ClusterState}
use Rattle.nfs4_types.specs.declared.ids.SessionId.{SessionId}
use Rattle.nfs4_types.specs.declared.status.Stat4.TheVariants as stat
use Rattle.nfs4_session.specs.Clients.{client_in, number_in}
use Rattle.table_slots.specs.TableSlots.{is_of_session}
use Rattle.device_addr.specs.Universal.{AddressValue}
use Rattle.client_mds_calls.specs.declared.reply.SlotReport.{SlotReport}
use Rattle.client_mds_calls.specs.declared.reply.SlotReport.TheVariants.{Taken, Uncached, Unknown}
use Rattle.client_mds_calls.specs.MdsCalls.{MdsCallValue, ExchangeId, CreateSession, OnSlot, SlotCallValue}
use Rattle.client_mds_calls.specs.MdsReplies.{MdsReplyValue, Session}
use Rattle.client_mds_calls.specs.MdsReplies as says_of
use Rattle.mds_walk.specs.MdsRuns.{MdsEvent}
use Rattle.mds_replies.specs.ClientCalls.{IsCallFrom, AreCalls, server_after, IsEventOf, HearsCall}
use Rattle.mds_replies.specs.SlotReplies.{count_taken}
use Rattle.mds_replies.specs.ClientIds.{GivesId, GivesSession}
use Rattle.mds_replies.specs.AnsweredRequests.{HearsFitCall, AreFitCalls, StaysRoomy, StandsByReport, StandsFor, TookEffectAmong, IsFreeAt, IsRefusedWith, IsUnknown, HasNoSession, IsOutOfOrder}
use Rattle.mds_replies.specs.SlotOrder.{SlotsStayFree, OrderIsByCount, CountsTookEffect, TakenAreCounted, FirstIsFree}
use Rattle.mds_session_order.specs.SessionOrder.{SessionsAreNew}
use Rattle.client_laws.specs.ClientHistory.{HistoryItem, HasItem, Each}
use Rattle.client_sessions.specs.HeardReplies.{IsHeard}
use Rattle.client_sessions.specs.SessionRounds.{IsUsed, WasUsed, WasUnused, IsOfSession, IsInSession, KeepsRound, UsesFew, EachRunKeepsRounds}
use Rattle.node_histories.specs.Weaves.{items_in}
use Rattle.node_histories.specs.ClientLives.{Life}
use Rattle.node_histories.specs.NodeHistories.{HasLife, IsToldByNodes}
use Rattle.world_moves.specs.WorldMoves.{IsRunOf}
use Rattle.world_journal.specs.Journal.{IsJournalInRange}
use Rattle.world_reads.proofs.Steps.{all_first}
use Rattle.world_reads.proofs.LifeRecords.{compound}
use Rattle.world_layouts.specs.WorldLayouts.{IsOneRequestEach, StartsAreFew}
use Rattle.world_layouts.proofs.LifeSends.{each_at, hearing_from, LifeIs, life_is}
use Rattle.world_layouts.proofs.HeardCalls.{are_calls, are_fit_calls}
use Rattle.world_layouts.proofs.OwnCalls.{CalledOwn, own_call}
use Rattle.world_layouts.proofs.HeardItems.{HeardReply, HeardUnder, heard_under, heard_reply, stands_so, answered_now}
use Rattle.world_layouts.proofs.MomentOrder.{BeginsWith, begins_with, has_middle, comes_later}
use Rattle.world_layouts.proofs.OwnIds.{IdLaws}
use Rattle.world_layouts.proofs.OwnRequests.{OwnRequest, own_request, SplitAt, split_at}

pub record SessionLaws : Type 0 where
  pub ids : IdLaws
  pub new : SessionsAreNew
  pub stays : SlotsStayFree
  pub first : FirstIsFree
  pub misordered : OrderIsByCount
  pub taken : CountsTookEffect
  pub counted : TakenAreCounted
  pub rounds : EachRunKeepsRounds

-- ---- lists of items

-- an item before another in one list
pub before_it : (a b c d : List HistoryItem) (x y : HistoryItem) → a ++ x ∷ b ≡ c ++ y ∷ d → length a < length c → BeginsWith a x c
before_it a b c d x y is less = begins_with a x b c (y ∷ d) is less

pub in_front : (a : List HistoryItem) (x : HistoryItem) (c : List HistoryItem) → BeginsWith a x c → HasItem c x
in_front a x c r = subst (λ (h : List HistoryItem). HasItem h x) (sym r.is) (has_middle a r.more x)

pub data IsIn (a : List HistoryItem) (s : HistoryItem) (b : List HistoryItem) (x : HistoryItem) : Type 0 where
  Front : HasItem a x → IsIn a s b x
  This : x ≡ s → IsIn a s b x
  Back : HasItem b x → IsIn a s b x

pub is_in : (a : List HistoryItem) (s : HistoryItem) (b : List HistoryItem) (x : HistoryItem) → HasItem (a ++ s ∷ b) x → IsIn a s b x
is_in [] s b x (inl here) = This here.0
is_in [] s b x (inr there) = Back there
is_in (y ∷ a) s b x (inl here) = Front (inl here)
is_in (y ∷ a) s b x (inr there) = further (is_in a s b x there)
  where
    further : IsIn a s b x → IsIn (y ∷ a) s b x
    further (Front has) = Front (inr has)
    further (This is) = This is
    further (Back has) = Back has

not_exchange : (xid number verifier : ℕ) (name other : List ℕ) (session : SessionId) (k : ℕ) (call : SlotCallValue) → compound xid name (OnSlot session k call) ≡ compound number other (ExchangeId verifier) → ⊥
not_exchange xid number verifier name other session k call is = absurd cc

of_round : (client sequence : ℕ) (session : SessionId) (items : List HistoryItem) → AllByRecursion (IsOfSession client sequence session) items → (x : HistoryItem) → HasItem items x → IsOfSession client sequence session x
of_round client sequence session [] all x has = absurd has
of_round client sequence session (y ∷ items) all x (inl here) = subst (IsOfSession client sequence session) (sym here.0) all.0
of_round client sequence session (y ∷ items) all x (inr there) = of_round client sequence session items all.1 x there

-- two items at one place are one
pub same_place : (a b p q : List HistoryItem) (x y : HistoryItem) → a ++ x ∷ b ≡ p ++ y ∷ q → length a ≡ length p → x ≡ y
same_place [] b [] q x y is size = cc is
same_place [] b (z ∷ p) q x y is size = absurd (omega (arith, size))
same_place (z ∷ a) b [] q x y is size = absurd (omega (arith, size))
same_place (z ∷ a) b (v ∷ p) q x y is size = let rest : a ++ x ∷ b ≡ p ++ y ∷ q = cc is in same_place a b p q x y rest (omega (arith, size))

same_request : (xid own : ℕ) (name other : List ℕ) (session asked : SessionId) (k n : ℕ) (c d : SlotCallValue) → compound xid name (OnSlot session k c) ≡ compound own other (OnSlot asked n d) → (session ≡ asked) × (c ≡ d)
same_request xid own name other session asked k n c d is = (cc is, cc is)

turned_round : (session asked : SessionId) → is_of_session session asked ≡ true → is_of_session asked session ≡ true
turned_round session asked is =
    let both = and_parts (client_in asked == client_in session) (number_in asked == number_in session) is in
    both_true (client_in session == client_in asked) (number_in session == number_in asked) (eq-eqb (client_in session) (client_in asked) (sym (eqb-true (client_in asked) (client_in session) both.0)))
    (eq-eqb (number_in session) (number_in asked) (sym (eqb-true (number_in asked) (number_in session) both.1)))
  where
    both_true : (a b : Bool) → a ≡ true → b ≡ true → (a && b) ≡ true
    both_true true b first second = second
    both_true false b first second = absurd cc

-- what took effect among events took effect among more
among_more : (servers : List AddressValue) (mirrors : ℕ) (events more : List MdsEvent) (session : SessionId) (number : ℕ) → TookEffectAmong servers mirrors events session number → TookEffectAmong servers mirrors (events ++ more) session number
among_more servers mirrors events more session number t = record {
  early = t.early;
  f = t.f;
  late = t.late ++ more;
  split = ap (λ (l : List MdsEvent). l ++ more) t.split ∙ append_assoc t.early (t.f ∷ t.late) more;
  asked = t.asked;
  its = t.its;
  took = t.took;
}

module _ (laws : SessionLaws) (boots : List ℕ) (w : ClusterState) (run : IsRunOf boots w) (t : IsToldByNodes w) (few : length w.machines.clients < 2 ^ 32) (range : IsJournalInRange w.journal) (roomy : StaysRoomy t.mds.servers t.mds.mirrors t.mds.events)
    (starts : StartsAreFew t) where
  abbrev pub Heard : (n : ℕ) (l : Life) → List HistoryItem → List ℕ → MdsCallValue → MdsReplyValue → List HistoryItem → Type 0
  Heard n l past name call says behind = HeardReply laws.ids.replies boots w run t few range roomy n l past name call says behind

  pub calls_all : AreCalls t.mds.events
  calls_all = are_calls laws.ids.replies.calls boots w run t few range

  pub fits_all : AreFitCalls t.mds.events
  fits_all = are_fit_calls laws.ids.replies.calls boots w run t few range

  pub fits_first : (a b : List MdsEvent) → t.mds.events ≡ a ++ b → AreFitCalls (a ++ b)
  fits_first a b is = subst AreFitCalls is fits_all

  pub room_first : (a b : List MdsEvent) → t.mds.events ≡ a ++ b → StaysRoomy t.mds.servers t.mds.mirrors (a ++ b)
  room_first a b is = subst (StaysRoomy t.mds.servers t.mds.mirrors) is roomy

  -- of more events than are left there is room for those before
  room_before : (a b : List MdsEvent) → t.mds.events ≡ a ++ b → StaysRoomy t.mds.servers t.mds.mirrors a
  room_before a b is = record {
    room = λ before after split. roomy.room before (after ++ b) (is ∙ (ap (λ (l : List MdsEvent). l ++ b) split ∙ append_assoc before after b));
    counts = λ before after split. roomy.counts before (after ++ b) (is ∙ (ap (λ (l : List MdsEvent). l ++ b) split ∙ append_assoc before after b));
  }

  fits_before : (a b : List MdsEvent) → t.mds.events ≡ a ++ b → AreFitCalls a
  fits_before a b is = all_first (λ (e : MdsEvent). HearsFitCall e.input) a b (subst AreFitCalls is fits_all)

  -- ---- a number that was used took effect

  record IsTakenBy (before : List MdsEvent) (e : MdsEvent) (session : SessionId) (number : ℕ) : Type 0 where
    taken : TookEffectAmong t.mds.servers t.mds.mirrors (before ++ e ∷ []) session number
    free : IsFreeAt (server_after t.mds.servers t.mds.mirrors (before ++ e ∷ [])) session number

  by_report : (events early : List MdsEvent) (session : SessionId) (number : ℕ) (c : SlotCallValue) (says : MdsReplyValue) → IsUsed says → StandsFor t.mds.servers t.mds.mirrors events early session number c says
      → TookEffectAmong t.mds.servers t.mds.mirrors events session number × IsFreeAt (server_after t.mds.servers t.mds.mirrors events) session number
  by_report events early session number c says (inl taken) stands =
      let s : StandsByReport t.mds.servers t.mds.mirrors events early session number c says.answer Taken = subst (λ (r : SlotReport). StandsByReport t.mds.servers t.mds.mirrors events early session number c says.answer r) taken stands in
      (s.0, s.2)
  by_report events early session number c says (inr uncached) stands =
      let s : StandsByReport t.mds.servers t.mds.mirrors events early session number c says.answer Uncached = subst (λ (r : SlotReport). StandsByReport t.mds.servers t.mds.mirrors events early session number c says.answer r) uncached stands in
      (s.0, s.2)

  used_so : (n : ℕ) (l : Life) (past : List HistoryItem) (name : List ℕ) (session : SessionId) (number : ℕ) (c : SlotCallValue) (says : MdsReplyValue) (behind : List HistoryItem) (h : Heard n l past name (OnSlot session number c) says behind) → IsUsed says
      → IsTakenBy h.was.answered.before h.was.answered.e session number
  used_so n l past name session number c says behind h used =
      let r = by_report (h.was.answered.before ++ h.was.answered.e ∷ []) h.was.answered.answers.early session number c says used
      (subst (λ (r : MdsReplyValue). StandsFor t.mds.servers t.mds.mirrors (h.was.answered.before ++ h.was.answered.e ∷ []) h.was.answered.answers.early session number c r) h.says_so
      (stands_so laws.ids.replies boots w run t few range roomy n l (h.before ++ compound h.reply.xid name (OnSlot session number c) ∷ h.until) h.bytes h.now (behind ++ h.rest) h.reply name session number c h.was)) in
      record { taken = r.0; free = r.1 }

  module _ (n : ℕ) (l : Life) (its : HasLife t.stories n l) where
    i : LifeIs w t n laws.ids.replies.calls.numbered l
    i = life_is w t laws.ids.replies.calls.numbered n l its

    pub whole_at : (before : List MdsEvent) (e : MdsEvent) (after : List MdsEvent) → IsEventOf t.mds.events before e after → t.mds.events ≡ (before ++ e ∷ []) ++ after
    whole_at before e after is = is ∙ sym (append_assoc before (e ∷ []) after)

    uses_few : UsesFew (items_in l.steps)
    uses_few past more session number is used =
        let h : Heard n l past used.name (OnSlot session number used.call) used.says used.behind = heard_reply laws.ids.replies boots w run t few range roomy n l its past more is used.xid used.name (OnSlot session number used.call) used.says used.behind used.heard in
        let a = h.was.answered in
        let taken : IsTakenBy a.before a.e session number = used_so n l past used.name session number used.call used.says used.behind h used.used in
        let whole : t.mds.events ≡ (a.before ++ a.e ∷ []) ++ a.after = whole_at a.before a.e a.after a.split in
        let counted : number ≤ count_taken t.mds.servers t.mds.mirrors (a.before ++ a.e ∷ []) session =
        laws.counted t.mds.servers t.mds.mirrors (a.before ++ a.e ∷ []) a.after (fits_first (a.before ++ a.e ∷ []) a.after whole) (room_first (a.before ++ a.e ∷ []) a.after whole) session number taken.taken in
        let limit = roomy.counts (a.before ++ a.e ∷ []) a.after whole session in
        omega (arith, counted, limit)

    each_round : Each KeepsRound [] (items_in l.steps)
    each_round =
        subst (λ (h : List HistoryItem). Each KeepsRound [] h) i.facts.is.history (laws.rounds n l.verifier l.first_xid l.inputs (subst UsesFew (sym i.facts.is.history) uses_few))

    pub round_at : (a b : List HistoryItem) (xid : ℕ) (name : List ℕ) (session : SessionId) (number : ℕ) (c : SlotCallValue) → items_in l.steps ≡ a ++ compound xid name (OnSlot session number c) ∷ b → IsInSession a session number
    round_at a b xid name session number c is = each_at KeepsRound [] a b (compound xid name (OnSlot session number c)) (subst (λ (h : List HistoryItem). Each KeepsRound [] h) is each_round)

    -- ---- what comes behind a reply

    pub heard_in : (past rest : List HistoryItem) → items_in l.steps ≡ past ++ rest → (xid : ℕ) (name : List ℕ) (call : MdsCallValue) (says : MdsReplyValue) (behind : List HistoryItem) → IsHeard past xid name call says behind
        → HeardUnder laws.ids.replies boots w run t few range roomy n l past xid name call says behind
    heard_in past rest is xid name call says behind heard = heard_under laws.ids.replies boots w run t few range roomy n l its past rest is xid name call says behind heard

    -- a reply that was heard in `past`, and a compound that went out behind it
    pub behind_reply : (past : List HistoryItem) (name : List ℕ) (call : MdsCallValue) (says : MdsReplyValue) (behind : List HistoryItem) (h : Heard n l past name call says behind) (a b : List HistoryItem) (xid : ℕ) (other : List ℕ) (asked : MdsCallValue)
        → items_in l.steps ≡ a ++ compound xid other asked ∷ b → length past ≤ length a → (early late : List MdsEvent) (f : MdsEvent) → IsEventOf t.mds.events early f late → CalledOwn t n l early late f xid other asked → length h.was.answered.before < length early
    behind_reply past name call says behind h a b xid other asked is less early late f split c =
        let place : List HistoryItem = h.before ++ compound h.reply.xid name call ∷ h.until in
        let size = ap (λ (x : List HistoryItem). length x) h.past_is in
        let parts = length-append place (hearing_from Mds h.bytes h.now ∷ behind) in
        comes_later w t laws.ids.replies.calls.numbered n l its place h.bytes h.now (behind ++ h.rest) h.was.heard h.reply h.was.answered a b xid other asked is (omega (arith, less, size, parts)) early late f split c

    -- the same where the reply was heard later than the other went out: then it went out before
    sent_before : (past : List HistoryItem) (name : List ℕ) (call : MdsCallValue) (says : MdsReplyValue) (behind : List HistoryItem) (h : Heard n l past name call says behind) (a b : List HistoryItem) (xid : ℕ) (other : List ℕ) (asked : MdsCallValue)
        → items_in l.steps ≡ a ++ compound xid other asked ∷ b → (early late : List MdsEvent) (f : MdsEvent) → IsEventOf t.mds.events early f late → CalledOwn t n l early late f xid other asked → length early ≤ length h.was.answered.before → length a < length past
    sent_before past name call says behind h a b xid other asked is early late f split c few_events = by_test (nat_le (length past) (length a)) refl
      where
        by_test : (b : Bool) → nat_le (length past) (length a) ≡ b → length a < length past
        by_test true at =
            let later = behind_reply past name call says behind h a _ xid other asked is (leb-true (length past) (length a) at) early late f split c in
            absurd (omega (arith, later, few_events))
        by_test false at = grind (arith, nat_tests, at)

    -- ---- a session of an older round is another

    abbrev pub gives_session : (past : List HistoryItem) (name : List ℕ) (client sequence : ℕ) (says : MdsReplyValue) (behind : List HistoryItem) (h : Heard n l past name (CreateSession client sequence) says behind) (session : SessionId) → says.answer ≡ Session session
        → GivesSession t.mds.servers t.mds.mirrors h.was.answered.before h.was.answered.e client session
    gives_session past name client sequence says behind h session is = record {
      node = Client n;
      xid = h.reply.xid;
      name = name;
      sequence = sequence;
      came = answered_now laws.ids.replies boots w run t few range roomy n l its (h.before ++ compound h.reply.xid name (CreateSession client sequence) ∷ h.until) h.bytes h.now (behind ++ h.rest) h.reply name (CreateSession client sequence) h.was h.has refl;
      reply = h.reply;
      sent = h.was.answered.sent;
      says = ap (λ (s : MdsReplyValue). s.answer) h.says_so ∙ is;
    }

    abbrev pub gives_id : (past : List HistoryItem) (name : List ℕ) (verifier : ℕ) (says : MdsReplyValue) (behind : List HistoryItem) (h : Heard n l past name (ExchangeId verifier) says behind) (client sequence : ℕ) → says.answer ≡ says_of.Client client sequence
        → GivesId t.mds.servers t.mds.mirrors h.was.answered.before h.was.answered.e name verifier client
    gives_id past name verifier says behind h client sequence is = record {
      node = Client n;
      xid = h.reply.xid;
      came = answered_now laws.ids.replies boots w run t few range roomy n l its (h.before ++ compound h.reply.xid name (ExchangeId verifier) ∷ h.until) h.bytes h.now (behind ++ h.rest) h.reply name (ExchangeId verifier) h.was h.has refl;
      reply = h.reply;
      sent = h.was.answered.sent;
      sequence = sequence;
      says = ap (λ (s : MdsReplyValue). s.answer) h.says_so ∙ is;
    }

    -- a compound without a slot is answered in the event in which it came
    pub called_now : (past : List HistoryItem) (name : List ℕ) (call : MdsCallValue) (says : MdsReplyValue) (behind : List HistoryItem) (h : Heard n l past name call says behind) → IsCallFrom h.was.answered.e (Client n) h.reply.xid name call
        → CalledOwn t n l h.was.answered.before h.was.answered.after h.was.answered.e h.reply.xid name call
    called_now past name call says behind h came = own_call laws.ids.replies.calls boots w run t few range n l its h.reply.xid name call h.has h.was.answered.before h.was.answered.after h.was.answered.e h.was.answered.split name call came

    pub behind_event : (a b c d : List MdsEvent) (x y : MdsEvent) → IsEventOf t.mds.events a x b → IsEventOf t.mds.events c y d → length a < length c → BeginsWith a x c
    behind_event a b c d x y first second less = begins_with a x b c (y ∷ d) (sym first ∙ second) less

    -- a request on a session before the EXCHANGE_ID of a round is on another session
    other_session : (a b : List HistoryItem) (xid : ℕ) (name : List ℕ) (session : SessionId) (number : ℕ) (c : SlotCallValue) → items_in l.steps ≡ a ++ compound xid name (OnSlot session number c) ∷ b → (r : IsInSession a session number)
        → (own : ℕ) (other : List ℕ) (asked : SessionId) (k : ℕ) (d : SlotCallValue) → HasItem r.before (compound own other (OnSlot asked k d)) → is_of_session session asked ≡ true → ⊥
    other_session a b xid name session number c is r own other asked k d has same =
        let s : SplitAt r.before (compound own other (OnSlot asked k d)) = split_at r.before (compound own other (OnSlot asked k d)) has in
        let exchange : HistoryItem = compound r.xid r.name (ExchangeId r.verifier) in
        let tail : List HistoryItem = compound xid name (OnSlot session number c) ∷ b in
        let at_exchange : items_in l.steps ≡ r.before ++ exchange ∷ (r.rest ++ tail) = is ∙ (ap (λ (x : List HistoryItem). x ++ tail) r.split ∙ append_assoc r.before (exchange ∷ r.rest) tail) in
        let at_old : items_in l.steps ≡ s.before ++ compound own other (OnSlot asked k d) ∷ (s.behind ++ exchange ∷ (r.rest ++ tail)) =
        at_exchange ∙ (ap (λ (x : List HistoryItem). x ++ exchange ∷ (r.rest ++ tail)) s.is ∙ append_assoc s.before (compound own other (OnSlot asked k d) ∷ s.behind) (exchange ∷ (r.rest ++ tail))) in
        let q : IsInSession s.before asked k = round_at s.before (s.behind ++ exchange ∷ (r.rest ++ tail)) own other asked k d at_old in
        let old = q.given in
        let new = r.given in
        -- the answers
        let u_old =
        heard_in s.before (compound own other (OnSlot asked k d) ∷ (s.behind ++ exchange ∷ (r.rest ++ tail))) at_old old.xid old.name (CreateSession old.clientid old.sequence) old.says q.behind old.heard in
        let h_old : Heard n l s.before old.name (CreateSession old.clientid old.sequence) old.says q.behind = u_old.heard in
        let u_new = heard_in a tail is new.xid new.name (CreateSession new.clientid new.sequence) new.says r.behind new.heard in
        let h_new : Heard n l a new.name (CreateSession new.clientid new.sequence) new.says r.behind = u_new.heard in
        let create : HistoryItem = compound new.xid new.name (CreateSession new.clientid new.sequence) in
        let create_tail : List HistoryItem = (new.heard.until ++ hearing_from Mds new.heard.bytes new.heard.now ∷ r.behind) ++ tail in
        let at_create : items_in l.steps ≡ new.heard.before ++ create ∷ create_tail = is ∙ (ap (λ (x : List HistoryItem). x ++ tail) new.heard.split ∙ append_assoc new.heard.before (create ∷ (new.heard.until ++ hearing_from Mds new.heard.bytes new.heard.now ∷ r.behind)) tail) in
        let u_id = heard_in new.heard.before (create ∷ create_tail) at_create r.xid r.name (ExchangeId r.verifier) r.id_says r.id_behind r.id_heard in
        let h_id : Heard n l new.heard.before r.name (ExchangeId r.verifier) r.id_says r.id_behind = u_id.heard in
        let g_old = gives_session s.before old.name old.clientid old.sequence old.says q.behind h_old asked old.is in
        let g_new = gives_session a new.name new.clientid new.sequence new.says r.behind h_new session new.is in
        let g_id = gives_id new.heard.before r.name r.verifier r.id_says r.id_behind h_id new.clientid new.sequence r.id_is in
        -- their order
        let id_number : h_id.reply.xid ≡ r.xid = u_id.number in
        let new_number : h_new.reply.xid ≡ new.xid = u_new.number in
        let size = ap (λ (x : List HistoryItem). length x) s.is in
        let parts = length-append s.before (compound own other (OnSlot asked k d) ∷ s.behind) in
        let first_less = behind_reply s.before old.name (CreateSession old.clientid old.sequence) old.says q.behind h_old r.before (r.rest ++ tail) h_id.reply.xid r.name (ExchangeId r.verifier)
        (subst (λ (x : ℕ). items_in l.steps ≡ r.before ++ compound x r.name (ExchangeId r.verifier) ∷ (r.rest ++ tail)) (sym id_number) at_exchange) (omega (arith, size, parts)) h_id.was.answered.before h_id.was.answered.after h_id.was.answered.e h_id.was.answered.split
        (called_now new.heard.before r.name (ExchangeId r.verifier) r.id_says r.id_behind h_id g_id.came) in
        let second_less = behind_reply new.heard.before r.name (ExchangeId r.verifier) r.id_says r.id_behind h_id new.heard.before create_tail h_new.reply.xid new.name (CreateSession new.clientid new.sequence)
        (subst (λ (x : ℕ). items_in l.steps ≡ new.heard.before ++ compound x new.name (CreateSession new.clientid new.sequence) ∷ create_tail) (sym new_number) at_create) (omega arith) h_new.was.answered.before h_new.was.answered.after h_new.was.answered.e h_new.was.answered.split
        (called_now a new.name (CreateSession new.clientid new.sequence) new.says r.behind h_new g_new.came) in
        let first = behind_event h_old.was.answered.before h_old.was.answered.after h_id.was.answered.before h_id.was.answered.after h_old.was.answered.e h_id.was.answered.e h_old.was.answered.split h_id.was.answered.split first_less in
        let second = behind_event h_id.was.answered.before h_id.was.answered.after h_new.was.answered.before h_new.was.answered.after h_id.was.answered.e h_new.was.answered.e h_id.was.answered.split h_new.was.answered.split second_less in
        let all_calls : AreCalls (h_id.was.answered.before ++ h_id.was.answered.e ∷ (second.more ++ h_new.was.answered.e ∷ [])) =
        all_first (λ (e : MdsEvent). HearsCall e.input) (h_id.was.answered.before ++ h_id.was.answered.e ∷ (second.more ++ h_new.was.answered.e ∷ [])) h_new.was.answered.after
        (subst AreCalls (h_new.was.answered.split ∙ (ap (λ (x : List MdsEvent). x ++ h_new.was.answered.e ∷ h_new.was.answered.after) second.is ∙ regroup h_id.was.answered.before h_id.was.answered.e second.more h_new.was.answered.e h_new.was.answered.after)) calls_all) in
        laws.new t.mds.servers t.mds.mirrors h_id.was.answered.before second.more h_id.was.answered.e h_new.was.answered.e all_calls r.name r.verifier new.clientid g_id session
        (moved_session h_new.was.answered.before (h_id.was.answered.before ++ h_id.was.answered.e ∷ second.more) second.is h_new.was.answered.e new.clientid session g_new).0
        (moved_session h_new.was.answered.before (h_id.was.answered.before ++ h_id.was.answered.e ∷ second.more) second.is h_new.was.answered.e new.clientid session g_new).1
        h_old.was.answered.before first.more h_old.was.answered.e first.is old.clientid asked g_old same
      where
        regroup : (p : List MdsEvent) (x : MdsEvent) (q : List MdsEvent) (y : MdsEvent) (z : List MdsEvent) → (p ++ x ∷ q) ++ y ∷ z ≡ (p ++ x ∷ (q ++ y ∷ [])) ++ z
        regroup p x q y z =
            append_assoc p (x ∷ q) (y ∷ z) ∙ (ap (λ (e : List MdsEvent). p ++ x ∷ e) (sym (append_assoc q (y ∷ []) z)) ∙ sym (append_assoc p (x ∷ (q ++ y ∷ [])) z))

        moved_session : (p q : List MdsEvent) → p ≡ q → (e : MdsEvent) (client : ℕ) (session : SessionId) (g : GivesSession t.mds.servers t.mds.mirrors p e client session)
            → (x : GivesSession t.mds.servers t.mds.mirrors q e client session) × (x.sequence ≡ g.sequence)
        moved_session p q same_events e client session g =
            subst (λ (z : List MdsEvent). (x : GivesSession t.mds.servers t.mds.mirrors z e client session) × (x.sequence ≡ g.sequence)) same_events (g, refl)

    -- ---- a number that is next is in order

    pub item_there : (b : List HistoryItem) (a : List HistoryItem) (xid : ℕ) (name : List ℕ) (call : MdsCallValue) → items_in l.steps ≡ a ++ compound xid name call ∷ b → HasItem (items_in l.steps) (compound xid name call)
    item_there b a xid name call is = subst (λ (h : List HistoryItem). HasItem h (compound xid name call)) (sym is) (has_middle a b (compound xid name call))

    -- in its round nothing was asked for behind the number that is next
    pub none_asked : (a b : List HistoryItem) (xid : ℕ) (name : List ℕ) (session : SessionId) (number : ℕ) (c : SlotCallValue) → items_in l.steps ≡ a ++ compound xid name (OnSlot session number c) ∷ b → IsInSession a session number
        → (own : ℕ) (other : List ℕ) (asked : SessionId) (d : SlotCallValue) → HasItem a (compound own other (OnSlot asked (number + 1) d)) → is_of_session session asked ≡ true → ⊥
    none_asked a b xid name session number c is r own other asked d inside its_session =
        by_place (is_in r.before (compound r.xid r.name (ExchangeId r.verifier)) r.rest (compound own other (OnSlot asked (number + 1) d)) (subst (λ (x : List HistoryItem). HasItem x (compound own other (OnSlot asked (number + 1) d))) r.split inside))
      where
        too_far : (k : ℕ) (P : Type 0) → k ≡ number + 1 → (k < number) ⊎ ((k ≡ number) × P) → ⊥
        too_far k P at (inl smaller) = absurd (omega (arith, at, smaller))
        too_far k P at (inr same) = let one = same.0 in absurd (omega (arith, at, one))

        by_place : IsIn r.before (compound r.xid r.name (ExchangeId r.verifier)) r.rest (compound own other (OnSlot asked (number + 1) d)) → ⊥
        by_place (Front has) = other_session a b xid name session number c is r own other asked (number + 1) d has its_session
        by_place (This same) = not_exchange own r.xid r.verifier other r.name asked (number + 1) d same
        by_place (Back has) =
            let on : asked ≡ session = of_round r.given.clientid r.given.sequence session r.rest r.only (compound own other (OnSlot asked (number + 1) d)) has in
            too_far (number + 1) _ refl (r.upto own other (number + 1) d (subst (λ (x : SessionId). HasItem r.rest (compound own other (OnSlot x (number + 1) d))) on has))

    -- at a request of this number nothing behind it took effect by an event in which a reply was sent that was heard by then
    none_behind : (a b : List HistoryItem) (xid : ℕ) (name : List ℕ) (session : SessionId) (number : ℕ) (c : SlotCallValue) → items_in l.steps ≡ a ++ compound xid name (OnSlot session number c) ∷ b → IsInSession a session number
        → (other : List ℕ) (call : MdsCallValue) (says : MdsReplyValue) (behind : List HistoryItem) (h : Heard n l a other call says behind) → (early late : List MdsEvent) → t.mds.events ≡ early ++ late → length early ≤ length h.was.answered.before
        → TookEffectAmong t.mds.servers t.mds.mirrors early session (number + 1) → ⊥
    none_behind a b xid name session number c is r other call says behind h early late whole less taken =
        let o : OwnRequest t n l taken.early (taken.late ++ late) taken.f taken.took.node taken.took.xid taken.asked (number + 1) = own_request laws.ids boots w run t few range roomy starts n l its xid name session number c (item_there b a xid name (OnSlot session number c) is) early late whole (number + 1) taken in
        let s : SplitAt (items_in l.steps) (compound taken.took.xid o.name (OnSlot taken.asked (number + 1) o.call)) = split_at (items_in l.steps) (compound taken.took.xid o.name (OnSlot taken.asked (number + 1) o.call)) o.has in
        let size = ap (λ (x : List MdsEvent). length x) taken.split in
        let parts = length-append taken.early (taken.f ∷ taken.late) in
        let before : length s.before < length a =
        sent_before a other call says behind h s.before s.behind taken.took.xid o.name (OnSlot taken.asked (number + 1) o.call) s.is taken.early (taken.late ++ late) taken.f o.split o.called (omega (arith, less, size, parts)) in
        let place : BeginsWith s.before (compound taken.took.xid o.name (OnSlot taken.asked (number + 1) o.call)) a =
        before_it s.before s.behind a b (compound taken.took.xid o.name (OnSlot taken.asked (number + 1) o.call)) (compound xid name (OnSlot session number c)) (sym s.is ∙ is) before in
        let inside : HasItem a (compound taken.took.xid o.name (OnSlot taken.asked (number + 1) o.call)) = in_front s.before (compound taken.took.xid o.name (OnSlot taken.asked (number + 1) o.call)) a place in
        none_asked a b xid name session number c is r taken.took.xid o.name taken.asked o.call inside taken.its

    -- ---- two requests

    -- a reply to a request, heard in `past`: where no request behind its number took effect when it came, it was in order
    module _ (past tail : List HistoryItem) (is : items_in l.steps ≡ past ++ tail) (session : SessionId) (number : ℕ) (own : ℕ) (other : List ℕ) (d : SlotCallValue) (says : MdsReplyValue) (behind : List HistoryItem)
        (told : IsHeard past own other (OnSlot session number d) says behind) where
      -- the place of the request, and its round
      abbrev pub asked_behind : List HistoryItem
      asked_behind = (told.until ++ hearing_from Mds told.bytes told.now ∷ behind) ++ tail

      pub asked_at : items_in l.steps ≡ told.before ++ compound own other (OnSlot session number d) ∷ asked_behind
      asked_at =
          is ∙ (ap (λ (x : List HistoryItem). x ++ tail) told.split ∙ append_assoc told.before (compound own other (OnSlot session number d) ∷ (told.until ++ hearing_from Mds told.bytes told.now ∷ behind)) tail)

      pub asked_round : IsInSession told.before session number
      asked_round = round_at told.before asked_behind own other session number d asked_at

      pub under : HeardUnder laws.ids.replies boots w run t few range roomy n l past own other (OnSlot session number d) says behind
      under = heard_in past tail is own other (OnSlot session number d) says behind told

      abbrev pub early : List MdsEvent
      early = under.heard.was.answered.answers.early

      abbrev pub late : List MdsEvent
      late = under.heard.was.answered.answers.f ∷ (under.heard.was.answered.answers.late ++ under.heard.was.answered.after)

      pub whole : t.mds.events ≡ early ++ late
      whole = under.heard.was.answered.asked_split

      pub early_less : length early ≤ length under.heard.was.answered.before
      early_less =
          let size = ap (λ (x : List MdsEvent). length x) under.heard.was.answered.answers.split in
          let left = length-append under.heard.was.answered.before (under.heard.was.answered.e ∷ []) in
          let right = length-append early (under.heard.was.answered.answers.f ∷ under.heard.was.answered.answers.late) in
          omega (arith, size, left, right)

      pub refused_not : (number + 1 ≤ count_taken t.mds.servers t.mds.mirrors early session → ⊥) → IsRefusedWith t.mds.servers t.mds.mirrors early session number stat.SeqMisordered → ⊥
      refused_not not_more refused = by_last asked_round.last
        where
          some : (number ≡ 1) ⊎ ((last : ℕ) × (number ≡ last + 1) × WasUsed told.before session last) → 1 ≤ number
          some (inl one) = omega (arith, one)
          some (inr used) = let next = used.1 in omega (arith, next)

          order : (number ≡ count_taken t.mds.servers t.mds.mirrors early session → ⊥) × (number ≡ count_taken t.mds.servers t.mds.mirrors early session + 1 → IsFreeAt (server_after t.mds.servers t.mds.mirrors early) session (count_taken t.mds.servers t.mds.mirrors early session) → ⊥)
          order = laws.misordered t.mds.servers t.mds.mirrors t.mds.events early (under.heard.was.answered.answers.late ++ under.heard.was.answered.after) under.heard.was.answered.answers.f whole fits_all roomy session number refused (some asked_round.last)

          below : count_taken t.mds.servers t.mds.mirrors early session + 1 ≤ number
          below = by_test (nat_le (count_taken t.mds.servers t.mds.mirrors early session + 1) number) refl
            where
              by_test : (b : Bool) → nat_le (count_taken t.mds.servers t.mds.mirrors early session + 1) number ≡ b → count_taken t.mds.servers t.mds.mirrors early session + 1 ≤ number
              by_test true its = leb-true (count_taken t.mds.servers t.mds.mirrors early session + 1) number its
              by_test false its =
                  let more : number ≤ count_taken t.mds.servers t.mds.mirrors early session = grind (arith, nat_tests, its) in
                  absurd (at_most (count_taken t.mds.servers t.mds.mirrors early session) more order.0 not_more)
                where
                  at_most : (k : ℕ) → number ≤ k → (number ≡ k → ⊥) → (number + 1 ≤ k → ⊥) → ⊥
                  at_most k more apart none = less_or_same k more apart none (nat_le (number + 1) k) refl
                    where
                      less_or_same : (k : ℕ) → number ≤ k → (number ≡ k → ⊥) → (number + 1 ≤ k → ⊥) → (b : Bool) → nat_le (number + 1) k ≡ b → ⊥
                      less_or_same k more apart none true its = none (leb-true (number + 1) k its)
                      less_or_same k more apart none false its = apart (grind (arith, nat_tests, its, more))

          -- the one before is done, and its slot free, when this one comes
          by_last : (number ≡ 1) ⊎ ((last : ℕ) × (number ≡ last + 1) × WasUsed told.before session last) → ⊥
          by_last (inl one) =
              let less = below in
              let none : count_taken t.mds.servers t.mds.mirrors early session ≡ 0 = omega (arith, one, less) in
              order.1 (omega (arith, one, none))
              (subst (λ (k : ℕ). IsFreeAt (server_after t.mds.servers t.mds.mirrors early) session k) (sym none) (laws.first t.mds.servers t.mds.mirrors early late (fits_first early late whole) (room_first early late whole) session none))
          by_last (inr (last, next, used)) =
              let old = heard_in told.before (compound own other (OnSlot session number d) ∷ asked_behind) asked_at used.xid used.name (OnSlot session last used.call) used.says used.behind used.heard in
              let ans = old.heard.was.answered in
              let k : IsTakenBy ans.before ans.e session last = used_so n l told.before used.name session last used.call used.says used.behind old.heard used.used in
              let later = behind_reply told.before used.name (OnSlot session last used.call) used.says used.behind old.heard told.before asked_behind under.heard.reply.xid other (OnSlot session number d)
              (subst (λ (x : ℕ). items_in l.steps ≡ told.before ++ compound x other (OnSlot session number d) ∷ asked_behind) (sym under.number) asked_at) (omega arith) early (under.heard.was.answered.answers.late ++ under.heard.was.answered.after) under.heard.was.answered.answers.f whole under.heard.was.own in
              let place : BeginsWith ans.before ans.e early = begins_with ans.before ans.e ans.after early late (sym ans.split ∙ whole) later in
              let upto : early ≡ (ans.before ++ ans.e ∷ []) ++ place.more = place.is ∙ sym (append_assoc ans.before (ans.e ∷ []) place.more) in
              let all : t.mds.events ≡ ((ans.before ++ ans.e ∷ []) ++ place.more) ++ late = whole ∙ ap (λ (x : List MdsEvent). x ++ late) upto in
              let free : IsFreeAt (server_after t.mds.servers t.mds.mirrors early) session last =
              subst (λ (x : List MdsEvent). IsFreeAt (server_after t.mds.servers t.mds.mirrors x) session last) (sym upto)
              (laws.stays t.mds.servers t.mds.mirrors (ans.before ++ ans.e ∷ []) place.more (fits_before ((ans.before ++ ans.e ∷ []) ++ place.more) late all) (room_before ((ans.before ++ ans.e ∷ []) ++ place.more) late all) session last k.taken k.free) in
              let counted : last ≤ count_taken t.mds.servers t.mds.mirrors early session =
              laws.counted t.mds.servers t.mds.mirrors early late (fits_first early late whole) (room_first early late whole) session last
              (subst (λ (x : List MdsEvent). TookEffectAmong t.mds.servers t.mds.mirrors x session last) (sym upto) (among_more t.mds.servers t.mds.mirrors (ans.before ++ ans.e ∷ []) place.more session last k.taken)) in
              let less = below in
              let same : last ≡ count_taken t.mds.servers t.mds.mirrors early session = omega (arith, next, counted, less) in
              order.1 (omega (arith, next, same)) (subst (λ (x : ℕ). IsFreeAt (server_after t.mds.servers t.mds.mirrors early) session x) same free)

      -- what it stands on
      pub stands : StandsFor t.mds.servers t.mds.mirrors (under.heard.was.answered.before ++ under.heard.was.answered.e ∷ []) early session number d says
      stands =
          subst (λ (r : MdsReplyValue). StandsFor t.mds.servers t.mds.mirrors (under.heard.was.answered.before ++ under.heard.was.answered.e ∷ []) early session number d r) under.heard.says_so
          (stands_so laws.ids.replies boots w run t few range roomy n l (under.heard.before ++ compound under.heard.reply.xid other (OnSlot session number d) ∷ under.heard.until) under.heard.bytes under.heard.now (behind ++ under.heard.rest) under.heard.reply other
          session number d under.heard.was)

      -- where it is told unknown, its session is gone
      pub unknown_so : says.slot ≡ Unknown → IsUnknown t.mds.servers t.mds.mirrors early session number says.answer
      unknown_so is_unknown = subst (λ (r : SlotReport). StandsByReport t.mds.servers t.mds.mirrors (under.heard.was.answered.before ++ under.heard.was.answered.e ∷ []) early session number d says.answer r) is_unknown stands

    -- a request of this number that was told unknown, and not that its session is gone, was in order
    module _ (a b : List HistoryItem) (xid : ℕ) (name : List ℕ) (session : SessionId) (number : ℕ) (c : SlotCallValue) (is : items_in l.steps ≡ a ++ compound xid name (OnSlot session number c) ∷ b) (r : IsInSession a session number)
        (own : ℕ) (other : List ℕ) (d : SlotCallValue) (u : WasUnused a own other session number d) where
      abbrev tail : List HistoryItem
      tail = compound xid name (OnSlot session number c) ∷ b

      abbrev before : List MdsEvent
      before = early a tail is session number own other d u.says u.behind u.heard

      abbrev behind : List MdsEvent
      behind = late a tail is session number own other d u.says u.behind u.heard

      all : t.mds.events ≡ before ++ behind
      all = whole a tail is session number own other d u.says u.behind u.heard

      not_more : number + 1 ≤ count_taken t.mds.servers t.mds.mirrors before session → ⊥
      not_more most =
          none_behind a b xid name session number c is r other (OnSlot session number d) u.says u.behind (under a tail is session number own other d u.says u.behind u.heard).heard before behind all
          (early_less a tail is session number own other d u.says u.behind u.heard)
          (laws.taken t.mds.servers t.mds.mirrors before behind (fits_first before behind all) (room_first before behind all) session (number + 1) (omega arith) most)

      not_unused : ⊥
      not_unused = by_unknown (unknown_so a tail is session number own other d u.says u.behind u.heard u.unused.slot)
        where
          by_unknown : IsUnknown t.mds.servers t.mds.mirrors before session number u.says.answer → ⊥
          by_unknown (HasNoSession gone refused) = u.unused.not_gone gone
          by_unknown (IsOutOfOrder order refused) = refused_not a tail is session number own other d u.says u.behind u.heard not_more refused

    -- a request that went out before another of its number is on another session
    before_other : (a b p q : List HistoryItem) (xid own : ℕ) (name other : List ℕ) (session asked : SessionId) (number : ℕ) (c d : SlotCallValue) → items_in l.steps ≡ a ++ compound xid name (OnSlot session number c) ∷ b
        → items_in l.steps ≡ p ++ compound own other (OnSlot asked number d) ∷ q → length p < length a → is_of_session session asked ≡ true → ⊥
    before_other a b p q xid own name other session asked number c d is at less same =
        let r : IsInSession a session number = round_at a b xid name session number c is in
        let inside : HasItem a (compound own other (OnSlot asked number d)) = in_front p (compound own other (OnSlot asked number d)) a (before_it p q a b (compound own other (OnSlot asked number d)) (compound xid name (OnSlot session number c)) (sym at ∙ is) less) in
        by_place r (is_in r.before (compound r.xid r.name (ExchangeId r.verifier)) r.rest (compound own other (OnSlot asked number d)) (subst (λ (x : List HistoryItem). HasItem x (compound own other (OnSlot asked number d))) r.split inside))
      where
        by_upto : (r : IsInSession a session number) → (number < number) ⊎ ((number ≡ number) × WasUnused a own other session number d) → ⊥
        by_upto r (inl wrong) = absurd (omega (arith, wrong))
        by_upto r (inr unused) = not_unused a b xid name session number c is r own other d unused.1

        by_place : (r : IsInSession a session number) → IsIn r.before (compound r.xid r.name (ExchangeId r.verifier)) r.rest (compound own other (OnSlot asked number d)) → ⊥
        by_place r (Front has) = other_session a b xid name session number c is r own other asked number d has same
        by_place r (This one) = not_exchange own r.xid r.verifier other r.name asked number d one
        by_place r (Back has) =
            let on : asked ≡ session = of_round r.given.clientid r.given.sequence session r.rest r.only (compound own other (OnSlot asked number d)) has in
            by_upto r (r.upto own other number d (subst (λ (x : SessionId). HasItem r.rest (compound own other (OnSlot x number d))) on has))

    -- it is sent once
    pub one_send : (xid other : ℕ) (name names : List ℕ) (session asked : SessionId) (number : ℕ) (c d : SlotCallValue) → HasItem (items_in l.steps) (compound xid name (OnSlot session number c))
        → HasItem (items_in l.steps) (compound other names (OnSlot asked number d)) → is_of_session session asked ≡ true → compound xid name (OnSlot session number c) ≡ compound other names (OnSlot asked number d)
    one_send xid other name names session asked number c d has also same =
        let s : SplitAt (items_in l.steps) (compound xid name (OnSlot session number c)) = split_at (items_in l.steps) (compound xid name (OnSlot session number c)) has in
        let o : SplitAt (items_in l.steps) (compound other names (OnSlot asked number d)) = split_at (items_in l.steps) (compound other names (OnSlot asked number d)) also in
        by_place s o (nat_lt (length o.before) (length s.before)) (nat_lt (length s.before) (length o.before)) refl refl
      where
        by_place : (s : SplitAt (items_in l.steps) (compound xid name (OnSlot session number c))) (o : SplitAt (items_in l.steps) (compound other names (OnSlot asked number d))) (a b : Bool) → nat_lt (length o.before) (length s.before) ≡ a
            → nat_lt (length s.before) (length o.before) ≡ b → compound xid name (OnSlot session number c) ≡ compound other names (OnSlot asked number d)
        by_place s o true b less more =
            absurd (before_other s.before s.behind o.before o.behind xid other name names session asked number c d s.is o.is (ltb-true (length o.before) (length s.before) less) same)
        by_place s o false true less more =
            absurd (before_other o.before o.behind s.before s.behind other xid names name asked session number d c o.is s.is (ltb-true (length s.before) (length o.before) more) (turned_round session asked same))
        by_place s o false false less more =
            same_place s.before s.behind o.before o.behind (compound xid name (OnSlot session number c)) (compound other names (OnSlot asked number d)) (sym s.is ∙ o.is) (grind (arith, nat_tests, less, more))

    pub one_each : (xid other : ℕ) (name names : List ℕ) (session asked : SessionId) (number : ℕ) (c d : SlotCallValue) → HasItem (items_in l.steps) (compound xid name (OnSlot session number c))
        → HasItem (items_in l.steps) (compound other names (OnSlot asked number d)) → is_of_session session asked ≡ true → (session ≡ asked) × (c ≡ d)
    one_each xid other name names session asked number c d has also same = same_request xid other name names session asked number number c d (one_send xid other name names session asked number c d has also same)

pub one_request_each : SessionLaws → (boots : List ℕ) (w : ClusterState) → IsRunOf boots w → (t : IsToldByNodes w) → length w.machines.clients < 2 ^ 32 → IsJournalInRange w.journal → StaysRoomy t.mds.servers t.mds.mirrors t.mds.events → StartsAreFew t → IsOneRequestEach t
one_request_each laws boots w run t few range roomy starts n l its xid other name names session asked number c d has also same =
    one_each laws boots w run t few range roomy starts n l its xid other name names session asked number c d has also same
