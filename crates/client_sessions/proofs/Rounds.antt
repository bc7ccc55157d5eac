-- A client's requests on one session, by what each stands on.
use Rattle.std.proofs.Common.{◌≡◌, ◌<◌, ℕ, ◌+◌, zero, suc, Bool, true, false, length, List, [], ◌∷◌, ◌++◌, refl, sym, ap, subst, ◌∙◌, inl, inr, ◌⊎◌, arith, length-append}
use Rattle.std.specs.Prelude.{◌==◌, if◌then◌else◌}
use Rattle.std.specs.List.{AllByRecursion}
use Rattle.std.proofs.lemmas.List.{append_assoc, append-nil}
use Rattle.std.proofs.lemmas.Bool.{eqb-true}
use Rattle.nfs4_types.specs.declared.ids.SessionId.{SessionId}
use Rattle.nfs4_session.specs.Slots.{sequence_after}
use Rattle.cluster_model.specs.declared.ids.NodeId.TheVariants.{Mds}
use Rattle.client_mds_calls.specs.MdsCalls.{MdsCallValue, SlotCallValue, ExchangeId, CreateSession, OnSlot}
use Rattle.client_mds_calls.specs.MdsReplies.{MdsReplyValue, Client}
use Rattle.client_state.specs.ClientSends.{ClientSend, CallsServer, CallsMds, RepeatsToServer, RepeatsToMds, RepliesToMds}
use Rattle.client_laws.specs.ClientHistory.{HistoryItem, Hears, Enters, Sends, Recorded, HasItem, Each}
use Rattle.client_sessions.specs.HeardReplies.{IsHeard, IsNoCompound}
use Rattle.client_sessions.specs.ClientSessions.{WasGivenId, IsNew, IsAgain, WasGivenSession, IsNextOnSlot, IsFirst, IsBehind, MovesTo, KeepsSlot}
use Rattle.client_sessions.specs.SessionRounds.{IsUsed, IsUnused, WasUsed, WasUnused, IsCallOfRound, IsOfSession, IsInSession, IsRound, KeepsRound, UsesFew}
use Rattle.client_sessions.proofs.HeardLater.{all_more, heard_later, session_later}

-- ---- items of a round

-- where no compound goes out
quiet_item : (client sequence : ℕ) (session : SessionId) (item : HistoryItem) → IsNoCompound item → IsOfSession client sequence session item
quiet_item client sequence session (Hears input) none = tt
quiet_item client sequence session (Enters entry) none = tt
quiet_item client sequence session (Sends (CallsServer server xid name uid call)) none = tt
quiet_item client sequence session (Sends (CallsMds xid name call)) none = absurd none
quiet_item client sequence session (Sends (RepeatsToServer server xid name uid call)) none = tt
quiet_item client sequence session (Sends (RepeatsToMds xid message)) none = tt
quiet_item client sequence session (Sends (RepliesToMds reply)) none = tt

quiet_items : (client sequence : ℕ) (session : SessionId) (items : List HistoryItem) → AllByRecursion IsNoCompound items → AllByRecursion (IsOfSession client sequence session) items
quiet_items client sequence session [] none = tt
quiet_items client sequence session (x ∷ items) none = (quiet_item client sequence session x none.0, quiet_items client sequence session items none.1)

-- no compound is among them
none_among : (items : List HistoryItem) → AllByRecursion IsNoCompound items → (xid : ℕ) (name : List ℕ) (call : MdsCallValue) → HasItem items (Sends (CallsMds xid name call)) → ⊥
none_among [] none xid name call has = has
none_among (x ∷ items) none xid name call (inl here) = subst IsNoCompound (sym here.0) none.0
none_among (x ∷ items) none xid name call (inr there) = none_among items none.1 xid name call there

data IsAmong (a : List HistoryItem) (s : HistoryItem) (b : List HistoryItem) (x : HistoryItem) : Type 0 where
  InFront : HasItem a x → IsAmong a s b x
  IsThis : x ≡ s → IsAmong a s b x
  InBack : HasItem b x → IsAmong a s b x

among : (a : List HistoryItem) (s : HistoryItem) (b : List HistoryItem) (x : HistoryItem) → HasItem (a ++ s ∷ b) x → IsAmong a s b x
among [] s b x (inl here) = IsThis here.0
among [] s b x (inr there) = InBack there
among (y ∷ a) s b x (inl here) = InFront (inl here)
among (y ∷ a) s b x (inr there) = further (among a s b x there)
  where
    further : IsAmong a s b x → IsAmong (y ∷ a) s b x
    further (InFront in_a) = InFront (inr in_a)
    further (IsThis is) = IsThis is
    further (InBack in_b) = InBack in_b

-- a compound that went out and was answered, with none between
abbrev sending : ℕ → List ℕ → MdsCallValue → HistoryItem
sending xid name call = Sends (CallsMds xid name call)

abbrev hearing : List ℕ → ℕ → HistoryItem
hearing bytes now = Hears (Recorded Mds bytes now)

-- what came behind a history, where one compound went out first and no other did
module _ (front : List HistoryItem) (xid : ℕ) (name : List ℕ) (call : MdsCallValue) (until : List HistoryItem) (bytes : List ℕ) (now : ℕ) (behind : List HistoryItem) (before_quiet : AllByRecursion IsNoCompound until) (quiet : AllByRecursion IsNoCompound behind) where
  abbrev more : List HistoryItem
  more = until ++ hearing bytes now ∷ behind

  none_more : AllByRecursion IsNoCompound (until ++ hearing bytes now ∷ behind)
  none_more = all_more IsNoCompound until (hearing bytes now ∷ behind) before_quiet (tt, quiet)

  only_on : (client sequence : ℕ) (session : SessionId) → IsCallOfRound client sequence session call → AllByRecursion (IsOfSession client sequence session) front
      → AllByRecursion (IsOfSession client sequence session) (front ++ sending xid name call ∷ (until ++ hearing bytes now ∷ behind))
  only_on client sequence session its only =
      all_more (IsOfSession client sequence session) front (sending xid name call ∷ (until ++ hearing bytes now ∷ behind)) only (its, quiet_items client sequence session (until ++ hearing bytes now ∷ behind) none_more)

-- ---- the next number

after_small : (last next : ℕ) → last < 4294967295 → next ≡ sequence_after last → next ≡ last + 1
after_small last next small is = by_test (last == 4294967295) refl is
  where
    by_test : (b : Bool) → (last == 4294967295) ≡ b → next ≡ (if b then 0 else last + 1) → next ≡ last + 1
    by_test true at its = let same = eqb-true last 4294967295 at in absurd (omega (arith, small, same))
    by_test false at its = its

-- ---- what was answered, in a longer history

used_later : (past more : List HistoryItem) (session : SessionId) (number : ℕ) → WasUsed past session number → WasUsed (past ++ more) session number
used_later past more session number u = record {
  xid = u.xid;
  name = u.name;
  call = u.call;
  says = u.says;
  behind = u.behind ++ more;
  heard = heard_later past more u.xid u.name (OnSlot session number u.call) u.says u.behind u.heard;
  used = u.used;
}

unused_later : (past more : List HistoryItem) (xid : ℕ) (name : List ℕ) (session : SessionId) (number : ℕ) (call : SlotCallValue) → WasUnused past xid name session number call → WasUnused (past ++ more) xid name session number call
unused_later past more xid name session number call u = record {
  says = u.says;
  behind = u.behind ++ more;
  heard = heard_later past more xid name (OnSlot session number call) u.says u.behind u.heard;
  unused = u.unused;
}

-- ---- an id that was given, and what went out since

record IdRound (past : List HistoryItem) (client sequence : ℕ) : Type 0 where
  pub before : List HistoryItem
  pub xid : ℕ
  pub name : List ℕ
  pub verifier : ℕ
  pub rest : List HistoryItem
  pub split : past ≡ before ++ sending xid name (ExchangeId verifier) ∷ rest
  pub says : MdsReplyValue
  pub behind : List HistoryItem
  pub heard : IsHeard past xid name (ExchangeId verifier) says behind
  pub at : heard.before ≡ before
  pub is : says.answer ≡ Client client sequence
  pub only : (session : SessionId) → AllByRecursion (IsOfSession client sequence session) rest
  pub none : (xid : ℕ) (name : List ℕ) (session : SessionId) (k : ℕ) (call : SlotCallValue) → HasItem rest (sending xid name (OnSlot session k call)) → ⊥

-- an item that is a CREATE_SESSION is no request on a slot
not_slot : (xid number : ℕ) (name other : List ℕ) (session : SessionId) (k client sequence : ℕ) (call : SlotCallValue) → sending xid name (OnSlot session k call) ≡ sending number other (CreateSession client sequence) → ⊥
not_slot xid number name other session k client sequence call is = absurd cc

same_sending : (xid number : ℕ) (name other : List ℕ) (a b : MdsCallValue) → sending xid name a ≡ sending number other b → (xid ≡ number) × (name ≡ other) × (a ≡ b)
same_sending xid number name other a b is = (cc is, cc is, cc is)

same_slot : (session other : SessionId) (k n : ℕ) (a b : SlotCallValue) → OnSlot session k a ≡ OnSlot other n b → (k ≡ n) × (a ≡ b)
same_slot session other k n a b is = (cc is, cc is)

each_at : (P : List HistoryItem → HistoryItem → Type 0) (past a b : List HistoryItem) (item : HistoryItem) → Each P past (a ++ item ∷ b) → P (past ++ a) item
each_at P past [] b item each = subst (λ (l : List HistoryItem). P l item) (sym (append-nil past)) each.0
each_at P past (x ∷ a) b item each = subst (λ (l : List HistoryItem). P l item) (append_assoc past (x ∷ []) a) (each_at P (past ++ x ∷ []) a b item each.1)

module _ (h : List HistoryItem) (each : Each KeepsSlot [] h) (few : UsesFew h) where
  at_place : (before behind : List HistoryItem) (item : HistoryItem) → h ≡ before ++ item ∷ behind → KeepsSlot before item
  at_place before behind item is = each_at KeepsSlot [] before behind item (subst (λ (l : List HistoryItem). Each KeepsSlot [] l) is each)

  record SentAt (past : List HistoryItem) (before : List HistoryItem) (item : HistoryItem) : Type 0 where
    rest : List HistoryItem
    is : h ≡ before ++ item ∷ rest
    less : length before < length past

  sent_at : (past rest : List HistoryItem) → h ≡ past ++ rest → (xid : ℕ) (name : List ℕ) (call : MdsCallValue) (says : MdsReplyValue) (behind : List HistoryItem) (a : IsHeard past xid name call says behind) → SentAt past a.before (sending xid name call)
  sent_at past rest is xid name call says behind a =
      let tail : List HistoryItem = a.until ++ hearing a.bytes a.now ∷ behind in
      let size = ap (λ (l : List HistoryItem). length l) a.split in
      let parts = length-append a.before (sending xid name call ∷ tail) in
      record {
        rest = tail ++ rest;
        is = is ∙ (ap (λ (l : List HistoryItem). l ++ rest) a.split ∙ append_assoc a.before (sending xid name call ∷ tail) rest);
        less = omega (arith, size, parts);
      }

  id_round : (fuel : ℕ) (past rest : List HistoryItem) → h ≡ past ++ rest → length past < fuel → (client sequence : ℕ) → WasGivenId past client sequence → IdRound past client sequence
  id_round zero past rest is less client sequence given = absurd (omega (arith, less))
  id_round (suc fuel) past rest is less client sequence (IsNew xid name verifier says behind heard answer first second) = record {
    before = heard.before;
    xid = xid;
    name = name;
    verifier = verifier;
    rest = heard.until ++ hearing heard.bytes heard.now ∷ behind;
    split = heard.split;
    says = says;
    behind = behind;
    heard = heard;
    at = refl;
    is = answer;
    only = λ session. quiet_items client sequence session (heard.until ++ hearing heard.bytes heard.now ∷ behind) (none_more [] xid name (ExchangeId verifier) heard.until heard.bytes heard.now behind first second);
    none = λ x own session k call has.
        none_among (heard.until ++ hearing heard.bytes heard.now ∷ behind) (none_more [] xid name (ExchangeId verifier) heard.until heard.bytes heard.now behind first second) x own (OnSlot session k call) has;
  }
  id_round (suc fuel) past rest is less client sequence (IsAgain xid name says status behind heard answer later first second) =
      let tail : List HistoryItem = heard.until ++ hearing heard.bytes heard.now ∷ behind in
      let place : SentAt past heard.before (sending xid name (CreateSession client sequence)) = sent_at past rest is xid name (CreateSession client sequence) says behind heard in
      let shorter = place.less in
      let r : IdRound heard.before client sequence =
      id_round fuel heard.before (sending xid name (CreateSession client sequence) ∷ place.rest) place.is (omega (arith, less, shorter)) client sequence
      (at_place heard.before place.rest (sending xid name (CreateSession client sequence)) place.is) in
      let more : List HistoryItem = sending xid name (CreateSession client sequence) ∷ tail in
      subst (λ (l : List HistoryItem). IdRound l client sequence) (sym heard.split) (record {
        before = r.before;
        xid = r.xid;
        name = r.name;
        verifier = r.verifier;
        rest = r.rest ++ more;
        split = ap (λ (l : List HistoryItem). l ++ more) r.split ∙ append_assoc r.before (sending r.xid r.name (ExchangeId r.verifier) ∷ r.rest) more;
        says = r.says;
        behind = r.behind ++ more;
        heard = heard_later heard.before more r.xid r.name (ExchangeId r.verifier) r.says r.behind r.heard;
        at = r.at;
        is = r.is;
        only = λ session. only_on r.rest xid name (CreateSession client sequence) heard.until heard.bytes heard.now behind first second client sequence session (refl, refl) (r.only session);
        none = λ x own session k call has.
            no_slot r.rest r.none xid name client sequence tail (none_more [] xid name (CreateSession client sequence) heard.until heard.bytes heard.now behind first second) x own session k call
            (among r.rest (sending xid name (CreateSession client sequence)) tail (sending x own (OnSlot session k call)) has);
      })
    where
      no_slot : (front : List HistoryItem) → ((x : ℕ) (own : List ℕ) (s : SessionId) (k : ℕ) (call : SlotCallValue) → HasItem front (sending x own (OnSlot s k call)) → ⊥) → (number : ℕ) (other : List ℕ) (c n : ℕ) (back : List HistoryItem)
          → AllByRecursion IsNoCompound back → (x : ℕ) (own : List ℕ) (s : SessionId) (k : ℕ) (call : SlotCallValue) → IsAmong front (sending number other (CreateSession c n)) back (sending x own (OnSlot s k call)) → ⊥
      no_slot front none number other c n back quiet x own s k call (InFront has) = none x own s k call has
      no_slot front none number other c n back quiet x own s k call (IsThis same) = not_slot x number own other s k c n call same
      no_slot front none number other c n back quiet x own s k call (InBack has) = none_among back quiet x own (OnSlot s k call) has

  -- the first request on a session
  first_round : (past rest : List HistoryItem) → h ≡ past ++ rest → (session : SessionId) (number : ℕ) (behind : List HistoryItem) → WasGivenSession past session behind → AllByRecursion IsNoCompound behind → number ≡ 1 → IsInSession past session number
  first_round past rest is session number behind g quiet one =
      let call : MdsCallValue = CreateSession g.clientid g.sequence in
      let tail : List HistoryItem = g.heard.until ++ hearing g.heard.bytes g.heard.now ∷ behind in
      let place : SentAt past g.heard.before (sending g.xid g.name call) = sent_at past rest is g.xid g.name call g.says behind g.heard in
      let r : IdRound g.heard.before g.clientid g.sequence =
      id_round (suc (length g.heard.before)) g.heard.before (sending g.xid g.name call ∷ place.rest) place.is (omega arith) g.clientid g.sequence (at_place g.heard.before place.rest (sending g.xid g.name call) place.is) in
      let more : List HistoryItem = sending g.xid g.name call ∷ tail in
      record {
        before = r.before;
        xid = r.xid;
        name = r.name;
        verifier = r.verifier;
        rest = r.rest ++ more;
        split = g.heard.split ∙ (ap (λ (l : List HistoryItem). l ++ more) r.split ∙ append_assoc r.before (sending r.xid r.name (ExchangeId r.verifier) ∷ r.rest) more);
        behind = behind;
        given = g;
        id_says = r.says;
        id_behind = r.behind;
        id_heard = r.heard;
        id_at = r.at;
        id_is = r.is;
        only = only_on r.rest g.xid g.name call g.heard.until g.heard.bytes g.heard.now behind g.quiet quiet g.clientid g.sequence session (refl, refl) (r.only session);
        last = inl one;
        upto = λ xid name k asked has. absurd (no_slot r xid name k asked (among r.rest (sending g.xid g.name call) tail (sending xid name (OnSlot session k asked)) has));
      }
    where
      no_slot : (r : IdRound g.heard.before g.clientid g.sequence) (xid : ℕ) (name : List ℕ) (k : ℕ) (asked : SlotCallValue)
          → IsAmong r.rest (sending g.xid g.name (CreateSession g.clientid g.sequence)) (g.heard.until ++ hearing g.heard.bytes g.heard.now ∷ behind) (sending xid name (OnSlot session k asked)) → ⊥
      no_slot r xid name k asked (InFront has) = r.none xid name session k asked has
      no_slot r xid name k asked (IsThis same) = not_slot xid g.xid name g.name session k g.clientid g.sequence asked same
      no_slot r xid name k asked (InBack has) =
          none_among (g.heard.until ++ hearing g.heard.bytes g.heard.now ∷ behind) (none_more [] g.xid g.name (CreateSession g.clientid g.sequence) g.heard.until g.heard.bytes g.heard.now behind g.quiet quiet) xid name (OnSlot session k asked) has

  -- ---- a request behind another

  -- the reply to the one before, as it moves the number on
  data Moves (last number : ℕ) (says : MdsReplyValue) : Type 0 where
    On : number ≡ last + 1 → IsUsed says → Moves last number says
    Stays : number ≡ last → IsUnused says → Moves last number says

  moves_so : (past rest : List HistoryItem) → h ≡ past ++ rest → (session : SessionId) (xid : ℕ) (name : List ℕ) (last number : ℕ) (call : SlotCallValue) (says : MdsReplyValue) (behind : List HistoryItem) → IsHeard past xid name (OnSlot session last call) says behind
      → MovesTo says last number → Moves last number says
  moves_so past rest is session xid name last number call says behind heard (inl taken) =
      let used : IsUsed says = inl taken.0 in
      On (after_small last number (few past rest session last is (record { xid = xid; name = name; call = call; says = says; behind = behind; heard = heard; used = used })) taken.1) used
  moves_so past rest is session xid name last number call says behind heard (inr (inl uncached)) =
      let used : IsUsed says = inr uncached.0 in
      On (after_small last number (few past rest session last is (record { xid = xid; name = name; call = call; says = says; behind = behind; heard = heard; used = used })) uncached.1) used
  moves_so past rest is session xid name last number call says behind heard (inr (inr unknown)) = Stays unknown.1 (record { slot = unknown.0; not_gone = unknown.2 })

  next_round : (session : SessionId) (xid : ℕ) (name : List ℕ) (last number : ℕ) (call : SlotCallValue) (says : MdsReplyValue) (before until : List HistoryItem) (bytes : List ℕ) (now : ℕ) (behind : List HistoryItem)
      → AllByRecursion IsNoCompound until → AllByRecursion IsNoCompound behind → IsHeard (before ++ sending xid name (OnSlot session last call) ∷ (until ++ hearing bytes now ∷ behind)) xid name (OnSlot session last call) says behind
      → Moves last number says → IsInSession before session last → IsInSession (before ++ sending xid name (OnSlot session last call) ∷ (until ++ hearing bytes now ∷ behind)) session number
  next_round session xid name last number call says before until bytes now behind first second heard moves r =
      let tail : List HistoryItem = until ++ hearing bytes now ∷ behind in
      let more : List HistoryItem = sending xid name (OnSlot session last call) ∷ tail in
      record {
        before = r.before;
        xid = r.xid;
        name = r.name;
        verifier = r.verifier;
        rest = r.rest ++ more;
        split = ap (λ (l : List HistoryItem). l ++ more) r.split ∙ append_assoc r.before (sending r.xid r.name (ExchangeId r.verifier) ∷ r.rest) more;
        behind = r.behind ++ more;
        given = session_later before more session r.behind r.given;
        id_says = r.id_says;
        id_behind = r.id_behind;
        id_heard = r.id_heard;
        id_at = r.id_at;
        id_is = r.id_is;
        only = only_on r.rest xid name (OnSlot session last call) until bytes now behind first second r.given.clientid r.given.sequence session refl r.only;
        last = last_so moves r.last;
        upto = λ x own k asked has. upto_so moves x own k asked (among r.rest (sending xid name (OnSlot session last call)) tail (sending x own (OnSlot session k asked)) has);
      }
    where
      last_so : Moves last number says → (last ≡ 1) ⊎ ((l : ℕ) × (last ≡ l + 1) × WasUsed before session l)
          → (number ≡ 1) ⊎ ((l : ℕ) × (number ≡ l + 1) × WasUsed (before ++ sending xid name (OnSlot session last call) ∷ (until ++ hearing bytes now ∷ behind)) session l)
      last_so (On is used) was = inr (last, is, record { xid = xid; name = name; call = call; says = says; behind = behind; heard = heard; used = used })
      last_so (Stays is unused) (inl one) = inl (is ∙ one)
      last_so (Stays is unused) (inr was) = inr (was.0, is ∙ was.1, used_later before (sending xid name (OnSlot session last call) ∷ (until ++ hearing bytes now ∷ behind)) session was.0 was.2)

      front_so : Moves last number says → (x : ℕ) (own : List ℕ) (k : ℕ) (asked : SlotCallValue) → (k < last) ⊎ ((k ≡ last) × WasUnused before x own session k asked)
          → (k < number) ⊎ ((k ≡ number) × WasUnused (before ++ sending xid name (OnSlot session last call) ∷ (until ++ hearing bytes now ∷ behind)) x own session k asked)
      front_so (On is used) x own k asked (inl less) = inl (omega (arith, is, less))
      front_so (On is used) x own k asked (inr was) = let same = was.0 in inl (omega (arith, is, same))
      front_so (Stays is unused) x own k asked (inl less) = inl (omega (arith, is, less))
      front_so (Stays is unused) x own k asked (inr was) = inr (was.0 ∙ sym is, unused_later before (sending xid name (OnSlot session last call) ∷ (until ++ hearing bytes now ∷ behind)) x own session k asked was.1)

      this_so : Moves last number says → (k : ℕ) → k ≡ last → (k < number) ⊎ ((k ≡ number) × WasUnused (before ++ sending xid name (OnSlot session last call) ∷ (until ++ hearing bytes now ∷ behind)) xid name session last call)
      this_so (On is used) k same = inl (omega (arith, is, same))
      this_so (Stays is unused) k same = inr (same ∙ sym is, record { says = says; behind = behind; heard = heard; unused = unused })

      upto_so : Moves last number says → (x : ℕ) (own : List ℕ) (k : ℕ) (asked : SlotCallValue) → IsAmong r.rest (sending xid name (OnSlot session last call)) (until ++ hearing bytes now ∷ behind) (sending x own (OnSlot session k asked))
          → (k < number) ⊎ ((k ≡ number) × WasUnused (before ++ sending xid name (OnSlot session last call) ∷ (until ++ hearing bytes now ∷ behind)) x own session k asked)
      upto_so moves x own k asked (InFront has) = front_so moves x own k asked (r.upto x own k asked has)
      upto_so moves x own k asked (IsThis same) =
          let parts = same_sending x xid own name (OnSlot session k asked) (OnSlot session last call) same in
          let slots = same_slot session session k last asked call parts.2 in
          moved (this_so moves k slots.0)
        where
          moved : (k < number) ⊎ ((k ≡ number) × WasUnused (before ++ sending xid name (OnSlot session last call) ∷ (until ++ hearing bytes now ∷ behind)) xid name session last call)
              → (k < number) ⊎ ((k ≡ number) × WasUnused (before ++ sending xid name (OnSlot session last call) ∷ (until ++ hearing bytes now ∷ behind)) x own session k asked)
          moved (inl less) = inl less
          moved (inr was) =
              let parts = same_sending x xid own name (OnSlot session k asked) (OnSlot session last call) same in
              let slots = same_slot session session k last asked call parts.2 in
              inr (
                was.0,
                subst (λ (c : SlotCallValue). WasUnused (before ++ sending xid name (OnSlot session last call) ∷ (until ++ hearing bytes now ∷ behind)) x own session k c) (sym slots.1) (subst (λ (n : ℕ). WasUnused (before ++ sending xid name (OnSlot session last call) ∷ (until ++ hearing bytes now ∷ behind)) x own session n call) (sym slots.0)
                    (subst (λ (o : List ℕ). WasUnused (before ++ sending xid name (OnSlot session last call) ∷ (until ++ hearing bytes now ∷ behind)) x o session last call) (sym parts.1) (subst (λ (y : ℕ). WasUnused (before ++ sending xid name (OnSlot session last call) ∷ (until ++ hearing bytes now ∷ behind)) y name session last call) (sym parts.0) was.1))),
              )
      upto_so moves x own k asked (InBack has) =
          absurd (none_among (until ++ hearing bytes now ∷ behind) (none_more [] xid name (OnSlot session last call) until bytes now behind first second) x own (OnSlot session k asked) has)

  in_round : (fuel : ℕ) (past rest : List HistoryItem) → h ≡ past ++ rest → length past < fuel → (session : SessionId) (number : ℕ) → IsNextOnSlot past session number → IsInSession past session number
  in_round zero past rest is less session number next = absurd (omega (arith, less))
  in_round (suc fuel) past rest is less session number (IsFirst behind given quiet one) = first_round past rest is session number behind given quiet one
  in_round (suc fuel) past rest is less session number (IsBehind xid name last call says behind heard first second moves) =
      let place : SentAt past heard.before (sending xid name (OnSlot session last call)) = sent_at past rest is xid name (OnSlot session last call) says behind heard in
      let shorter = place.less in
      let r : IsInSession heard.before session last =
      in_round fuel heard.before (sending xid name (OnSlot session last call) ∷ place.rest) place.is (omega (arith, less, shorter)) session last (at_place heard.before place.rest (sending xid name (OnSlot session last call)) place.is) in
      subst (λ (l : List HistoryItem). IsInSession l session number) (sym heard.split)
      (next_round session xid name last number call says heard.before heard.until heard.bytes heard.now behind first second
      (subst (λ (l : List HistoryItem). IsHeard l xid name (OnSlot session last call) says behind) heard.split heard)
      (moves_so past rest is session xid name last number call says behind heard moves) r)

  -- ---- each compound

  item_round : (past rest : List HistoryItem) (item : HistoryItem) → h ≡ past ++ item ∷ rest → KeepsSlot past item → KeepsRound past item
  item_round past rest (Hears input) is keeps = tt
  item_round past rest (Enters entry) is keeps = tt
  item_round past rest (Sends (CallsServer server xid name uid call)) is keeps = tt
  item_round past rest (Sends (CallsMds xid name (ExchangeId verifier))) is keeps = tt
  item_round past rest (Sends (CallsMds xid name (CreateSession client sequence))) is keeps = tt
  item_round past rest (Sends (CallsMds xid name (OnSlot session number call))) is keeps =
      in_round (suc (length past)) past (Sends (CallsMds xid name (OnSlot session number call)) ∷ rest) is (omega arith) session number keeps
  item_round past rest (Sends (RepeatsToServer server xid name uid call)) is keeps = tt
  item_round past rest (Sends (RepeatsToMds xid message)) is keeps = tt
  item_round past rest (Sends (RepliesToMds reply)) is keeps = tt

  all_rounds : (past items : List HistoryItem) → h ≡ past ++ items → Each KeepsSlot past items → Each KeepsRound past items
  all_rounds past [] is keeps = tt
  all_rounds past (item ∷ items) is keeps = (item_round past items item is keeps.0, all_rounds (past ++ item ∷ []) items (is ∙ sym (append_assoc past (item ∷ []) items)) keeps.1)

pub keeps_rounds : (h : List HistoryItem) → Each KeepsSlot [] h → UsesFew h → Each KeepsRound [] h
keeps_rounds h each few = all_rounds h each few [] h refl each
