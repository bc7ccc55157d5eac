-- In which order ids and sessions are given, in every run of a metadata server to which clients of this cluster call (RFC 8881, sections
-- 18.35 and 18.36).
use Rattle.std.specs.Prelude.{◌≡◌, ℕ, true, List, [], ◌∷◌, ◌++◌}
use Rattle.nfs4_types.specs.declared.ids.SessionId.{SessionId}
use Rattle.nfs4_types.specs.declared.status.Stat4.TheVariants as stat
use Rattle.nfs4_session.specs.Clients.{client_in}
use Rattle.table_slots.specs.TableSlots.{is_of_session}
use Rattle.device_addr.specs.Universal.{AddressValue}
use Rattle.mds_walk.specs.MdsRuns.{MdsEvent}
use Rattle.mds_replies.specs.ClientCalls.{AreCalls, IsEventOf}
use Rattle.mds_replies.specs.ClientIds.{GivesId, GivesSession}
use Rattle.mds_replies.specs.SlotReplies.{TookEffect}
use Rattle.mds_replies.specs.AnsweredRequests.{IsRefusedWith}

-- A session that a CREATE_SESSION of this id and number is answered with is new since an EXCHANGE_ID was answered with them: no CREATE_SESSION was answered
-- with it before (RFC 8881, section 18.36.4).
abbrev pub SessionsAreNew : Type 0
SessionsAreNew =
    (servers : List AddressValue) (mirrors : ℕ) (early middle : List MdsEvent) (f e : MdsEvent) → AreCalls (early ++ f ∷ (middle ++ e ∷ []))
    → (owner : List ℕ) (verifier client : ℕ) (i : GivesId servers mirrors early f owner verifier client) (session : SessionId) (g : GivesSession servers mirrors (early ++ f ∷ middle) e client session) → g.sequence ≡ i.sequence
    → (before after : List MdsEvent) (d : MdsEvent) → IsEventOf early before d after → (other : ℕ) (old : SessionId) → GivesSession servers mirrors before d other old → is_of_session session old ≡ true → ⊥

-- Where a session that was given is gone, its client's id is not given again (RFC 8881, sections 8.3 and 18.35.4).
abbrev pub IdsStayGone : Type 0
IdsStayGone =
    (servers : List AddressValue) (mirrors : ℕ) (before more : List MdsEvent) (f : MdsEvent) → AreCalls (before ++ (more ++ f ∷ []))
    → (early late : List MdsEvent) (d : MdsEvent) → IsEventOf before early d late → (client : ℕ) (session : SessionId) → GivesSession servers mirrors early d client session
    → (number : ℕ) → IsRefusedWith servers mirrors before session number stat.BadSession
    → (owner : List ℕ) (verifier other : ℕ) → GivesId servers mirrors (before ++ more) f owner verifier other → other ≡ client_in session → ⊥

-- and no request on a session of that client takes effect again (RFC 8881, section 2.10.6.1)
abbrev pub ClientsStayGone : Type 0
ClientsStayGone =
    (servers : List AddressValue) (mirrors : ℕ) (before more : List MdsEvent) (f : MdsEvent) → AreCalls before
    → (early late : List MdsEvent) (d : MdsEvent) → IsEventOf before early d late → (client : ℕ) (session : SessionId) → GivesSession servers mirrors early d client session
    → (number : ℕ) → IsRefusedWith servers mirrors before session number stat.BadSession
    → (other : SessionId) (k : ℕ) → TookEffect servers mirrors (before ++ more) f other k → client_in other ≡ client_in session → ⊥
