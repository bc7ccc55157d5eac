-- What a client's compounds stand on: its id, its session, and the numbers on its slot (RFC 8881, sections 2.4, 2.10.6, 18.35 and 18.36).
use Rattle.std.specs.Prelude.{◌≡◌, ℕ, true, ◌⊎◌, List, [], ◌∷◌, ◌++◌}
use Rattle.std.specs.List.{AllByRecursion}
use Rattle.nfs4_types.specs.declared.ids.SessionId.{SessionId}
use Rattle.nfs4_session.specs.Slots.{sequence_after}
use Rattle.client_mds_calls.specs.declared.reply.SlotReport.TheVariants.{Taken, Uncached, Unknown}
use Rattle.client_mds_calls.specs.MdsCalls.{MdsCallValue, SlotCallValue, ExchangeId, CreateSession, OnSlot}
use Rattle.client_mds_calls.specs.MdsReplies.{MdsReplyValue, Client, Session, Refused}
use Rattle.client_answers.specs.ClientAnswers.{is_for_later}
use Rattle.client_state.specs.ClientStates.{client_name, fresh_client}
use Rattle.client_state.specs.ClientSends.{CallsMds}
use Rattle.client_laws.specs.ClientHistory.{ClientInput, HistoryItem, Hears, Enters, Sends, Each, client_history}
use Rattle.client_sessions.specs.HeardReplies.{IsHeard, IsNoCompound}

-- ---- who it is

-- each compound bears the client's name, and an EXCHANGE_ID the verifier of this start
abbrev pub IsAskedAs : ℕ → MdsCallValue → Type 0
IsAskedAs verifier (ExchangeId own) = own ≡ verifier
IsAskedAs verifier call = Unit {0}

abbrev pub SaysWho : ℕ → ℕ → List HistoryItem → HistoryItem → Type 0
SaysWho number verifier past (Sends (CallsMds xid name call)) = (name ≡ client_name number) × IsAskedAs verifier call
SaysWho number verifier past item = Unit {0}

-- ---- its id

-- The compound before it was an EXCHANGE_ID that was answered with this id and this number, or a CREATE_SESSION of both that was refused for
-- now (RFC 8881, section 15.1.1.3).
pub data WasGivenId (past : List HistoryItem) (clientid sequence : ℕ) : Type 0 where
  IsNew : (xid : ℕ) (name : List ℕ) (verifier : ℕ) (says : MdsReplyValue) (behind : List HistoryItem)
      → (heard : IsHeard past xid name (ExchangeId verifier) says behind) → says.answer ≡ Client clientid sequence
      → AllByRecursion IsNoCompound heard.until → AllByRecursion IsNoCompound behind → WasGivenId past clientid sequence
  IsAgain : (xid : ℕ) (name : List ℕ) (says : MdsReplyValue) (status : ℕ) (behind : List HistoryItem)
      → (heard : IsHeard past xid name (CreateSession clientid sequence) says behind) → says.answer ≡ Refused status → is_for_later status ≡ true
      → AllByRecursion IsNoCompound heard.until → AllByRecursion IsNoCompound behind → WasGivenId past clientid sequence

-- ---- its session

-- a CREATE_SESSION was answered with this session, and no compound went out between; and then came these
pub record WasGivenSession (past : List HistoryItem) (session : SessionId) (behind : List HistoryItem) : Type 0 where
  pub xid : ℕ
  pub name : List ℕ
  pub clientid : ℕ
  pub sequence : ℕ
  pub says : MdsReplyValue
  pub heard : IsHeard past xid name (CreateSession clientid sequence) says behind
  pub quiet : AllByRecursion IsNoCompound heard.until
  pub is : says.answer ≡ Session session

-- ---- the next number on its slot

-- BADSESSION (RFC 8881, section 15.1.11.1)
abbrev pub bad_session : ℕ
bad_session = 10052

-- a reply moves the slot on: the request took effect, and was not refused since the session is gone; its reply was not kept; or the SEQUENCE was
-- refused, and not since the session is gone, and the number stays
abbrev pub MovesTo : MdsReplyValue → ℕ → ℕ → Type 0
MovesTo says last next =
    ((says.slot ≡ Taken) × (next ≡ sequence_after last) × (says.answer ≡ Refused bad_session → ⊥)) ⊎ ((says.slot ≡ Uncached) × (next ≡ sequence_after last))
    ⊎ ((says.slot ≡ Unknown) × (next ≡ last) × (says.answer ≡ Refused bad_session → ⊥))

-- the request is the first on a session that was just given; or the compound before it was on this slot, and was answered
pub data IsNextOnSlot (past : List HistoryItem) (session : SessionId) (sequence : ℕ) : Type 0 where
  IsFirst : (behind : List HistoryItem) → WasGivenSession past session behind → AllByRecursion IsNoCompound behind → sequence ≡ 1 → IsNextOnSlot past session sequence
  IsBehind : (xid : ℕ) (name : List ℕ) (last : ℕ) (call : SlotCallValue) (says : MdsReplyValue) (behind : List HistoryItem)
      → (heard : IsHeard past xid name (OnSlot session last call) says behind) → AllByRecursion IsNoCompound heard.until → AllByRecursion IsNoCompound behind → MovesTo says last sequence
      → IsNextOnSlot past session sequence

abbrev pub StandsOn : List HistoryItem → MdsCallValue → Type 0
StandsOn past (ExchangeId verifier) = Unit {0}
StandsOn past (CreateSession clientid sequence) = WasGivenId past clientid sequence
StandsOn past (OnSlot session sequence call) = IsNextOnSlot past session sequence

abbrev pub KeepsSlot : List HistoryItem → HistoryItem → Type 0
KeepsSlot past (Sends (CallsMds xid name call)) = StandsOn past call
KeepsSlot past item = Unit {0}

-- ---- of every run

abbrev pub EachRunSaysWho : Type 0
EachRunSaysWho = (number verifier first_xid : ℕ) (inputs : List ClientInput) → Each (SaysWho number verifier) [] (client_history (fresh_client number verifier first_xid) inputs)
