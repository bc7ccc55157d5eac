-- A client's requests on one session: since the EXCHANGE_ID before them it asked for nothing but that session, and numbered its requests on it one
-- by one (RFC 8881, sections 2.10.6.1, 18.35 and 18.36).
use Rattle.std.specs.Prelude.{◌≡◌, ℕ, ◌+◌, ◌<◌, ◌⊎◌, List, [], ◌∷◌, ◌++◌}
use Rattle.std.specs.List.{AllByRecursion}
use Rattle.nfs4_types.specs.declared.ids.SessionId.{SessionId}
use Rattle.client_mds_calls.specs.declared.reply.SlotReport.TheVariants.{Taken, Uncached, Unknown}
use Rattle.client_mds_calls.specs.MdsCalls.{MdsCallValue, SlotCallValue, ExchangeId, CreateSession, OnSlot}
use Rattle.client_mds_calls.specs.MdsReplies.{MdsReplyValue, Client, Refused}
use Rattle.client_state.specs.ClientStates.{fresh_client}
use Rattle.client_state.specs.ClientSends.{CallsMds}
use Rattle.client_laws.specs.ClientHistory.{ClientInput, HistoryItem, Sends, HasItem, Each, client_history}
use Rattle.client_sessions.specs.HeardReplies.{IsHeard}
use Rattle.client_sessions.specs.ClientSessions.{WasGivenSession, bad_session}

-- ---- what became of a request's number

-- it was used: the request took effect, and its reply may not have been kept
abbrev pub IsUsed : MdsReplyValue → Type 0
IsUsed says = (says.slot ≡ Taken) ⊎ (says.slot ≡ Uncached)

-- the SEQUENCE was refused, and not since the session is gone
pub record IsUnused (says : MdsReplyValue) : Type 0 where
  pub slot : says.slot ≡ Unknown
  pub not_gone : says.answer ≡ Refused bad_session → ⊥

-- a request of this number was answered as used
pub record WasUsed (past : List HistoryItem) (session : SessionId) (number : ℕ) : Type 0 where
  pub xid : ℕ
  pub name : List ℕ
  pub call : SlotCallValue
  pub says : MdsReplyValue
  pub behind : List HistoryItem
  pub heard : IsHeard past xid name (OnSlot session number call) says behind
  pub used : IsUsed says

-- this request was answered as unused
pub record WasUnused (past : List HistoryItem) (xid : ℕ) (name : List ℕ) (session : SessionId) (number : ℕ) (call : SlotCallValue) : Type 0 where
  pub says : MdsReplyValue
  pub behind : List HistoryItem
  pub heard : IsHeard past xid name (OnSlot session number call) says behind
  pub unused : IsUnused says

-- ---- a round: an EXCHANGE_ID, and what stands on it

-- of compounds only a CREATE_SESSION of this id and number, and requests on this session
abbrev pub IsCallOfRound : ℕ → ℕ → SessionId → MdsCallValue → Type 0
IsCallOfRound client sequence session (ExchangeId verifier) = ⊥
IsCallOfRound client sequence session (CreateSession c s) = (c ≡ client) × (s ≡ sequence)
IsCallOfRound client sequence session (OnSlot s number call) = s ≡ session

abbrev pub IsOfSession : ℕ → ℕ → SessionId → HistoryItem → Type 0
IsOfSession client sequence session (Sends (CallsMds xid name call)) = IsCallOfRound client sequence session call
IsOfSession client sequence session item = Unit {0}

-- Behind an EXCHANGE_ID, which was answered with an id, a CREATE_SESSION of that answer was answered with the session. The number is 1, or the next
-- behind a used one; each request since has a smaller number, or this one and was unused.
pub record IsInSession (past : List HistoryItem) (session : SessionId) (number : ℕ) : Type 0 where
  pub before : List HistoryItem
  pub xid : ℕ
  pub name : List ℕ
  pub verifier : ℕ
  pub rest : List HistoryItem
  pub split : past ≡ before ++ Sends (CallsMds xid name (ExchangeId verifier)) ∷ rest
  pub behind : List HistoryItem
  pub given : WasGivenSession past session behind
  pub id_says : MdsReplyValue
  pub id_behind : List HistoryItem
  pub id_heard : IsHeard given.heard.before xid name (ExchangeId verifier) id_says id_behind
  pub id_at : id_heard.before ≡ before
  pub id_is : id_says.answer ≡ Client given.clientid given.sequence
  pub only : AllByRecursion (IsOfSession given.clientid given.sequence session) rest
  pub last : (number ≡ 1) ⊎ ((last : ℕ) × (number ≡ last + 1) × WasUsed past session last)
  pub upto : (xid : ℕ) (name : List ℕ) (k : ℕ) (call : SlotCallValue) → HasItem rest (Sends (CallsMds xid name (OnSlot session k call)))
      → (k < number) ⊎ ((k ≡ number) × WasUnused past xid name session k call)

abbrev pub IsRound : List HistoryItem → MdsCallValue → Type 0
IsRound past (ExchangeId verifier) = Unit {0}
IsRound past (CreateSession client sequence) = Unit {0}
IsRound past (OnSlot session number call) = IsInSession past session number

abbrev pub KeepsRound : List HistoryItem → HistoryItem → Type 0
KeepsRound past (Sends (CallsMds xid name call)) = IsRound past call
KeepsRound past item = Unit {0}

-- ---- of every run

-- used numbers do not go round (RFC 8881, section 2.10.6.1)
abbrev pub UsesFew : List HistoryItem → Type 0
UsesFew history = (past more : List HistoryItem) (session : SessionId) (number : ℕ) → history ≡ past ++ more → WasUsed past session number → number < 4294967295

abbrev pub EachRunKeepsRounds : Type 0
EachRunKeepsRounds =
    (number verifier first_xid : ℕ) (inputs : List ClientInput) → UsesFew (client_history (fresh_client number verifier first_xid) inputs) → Each KeepsRound [] (client_history (fresh_client number verifier first_xid) inputs)
