-- What the count of a session's requests that took effect says of their numbers, in every run of a metadata server to which clients of this
-- cluster call (RFC 8881, section 2.10.6.1).
use Rattle.std.specs.Prelude.{◌≡◌, ℕ, ◌+◌, ◌≤◌, List, ◌++◌}
use Rattle.nfs4_types.specs.declared.ids.SessionId.{SessionId}
use Rattle.nfs4_types.specs.declared.status.Stat4.TheVariants as stat
use Rattle.device_addr.specs.Universal.{AddressValue}
use Rattle.mds_walk.specs.MdsRuns.{MdsEvent}
use Rattle.mds_replies.specs.ClientCalls.{server_after, IsEventOf}
use Rattle.mds_replies.specs.SlotReplies.{count_taken}
use Rattle.mds_replies.specs.AnsweredRequests.{AreFitCalls, StaysRoomy, TookEffectAmong, IsRefusedWith, IsFreeAt}

-- A slot that is free of a request that took effect stays so, whatever comes: none takes effect with this number again.
abbrev pub SlotsStayFree : Type 0
SlotsStayFree =
    (servers : List AddressValue) (mirrors : ℕ) (events more : List MdsEvent) → AreFitCalls (events ++ more) → StaysRoomy servers mirrors (events ++ more) → (session : SessionId) (number : ℕ)
    → TookEffectAmong servers mirrors events session number → IsFreeAt (server_after servers mirrors events) session number → IsFreeAt (server_after servers mirrors (events ++ more)) session number

-- A number that is refused with SEQ_MISORDERED is not that of the last request that took effect, nor the next one where the slot is free of that
-- request.
abbrev pub OrderIsByCount : Type 0
OrderIsByCount =
    (servers : List AddressValue) (mirrors : ℕ) (events before after : List MdsEvent) (e : MdsEvent) → IsEventOf events before e after → AreFitCalls events → StaysRoomy servers mirrors events → (session : SessionId) (number : ℕ)
    → IsRefusedWith servers mirrors before session number stat.SeqMisordered → 1 ≤ number
    → (number ≡ count_taken servers mirrors before session → ⊥)
    × (number ≡ count_taken servers mirrors before session + 1 → IsFreeAt (server_after servers mirrors before) session (count_taken servers mirrors before session) → ⊥)

-- A slot on which no request took effect has none in progress.
abbrev pub FirstIsFree : Type 0
FirstIsFree =
    (servers : List AddressValue) (mirrors : ℕ) (before more : List MdsEvent) → AreFitCalls (before ++ more) → StaysRoomy servers mirrors (before ++ more) → (session : SessionId) → count_taken servers mirrors before session ≡ 0
    → IsFreeAt (server_after servers mirrors before) session 0

-- A request that took effect has a number of at most that count.
abbrev pub TakenAreCounted : Type 0
TakenAreCounted =
    (servers : List AddressValue) (mirrors : ℕ) (before more : List MdsEvent) → AreFitCalls (before ++ more) → StaysRoomy servers mirrors (before ++ more) → (session : SessionId) (number : ℕ)
    → TookEffectAmong servers mirrors before session number → number ≤ count_taken servers mirrors before session

-- The numbers from 1 to that count are those of requests that took effect.
abbrev pub CountsTookEffect : Type 0
CountsTookEffect =
    (servers : List AddressValue) (mirrors : ℕ) (before more : List MdsEvent) → AreFitCalls (before ++ more) → StaysRoomy servers mirrors (before ++ more) → (session : SessionId) (number : ℕ) → 1 ≤ number
    → number ≤ count_taken servers mirrors before session → TookEffectAmong servers mirrors before session number
