-- Two grants under one uid that a life heard are to one LAYOUTGET, and so one (RFC 8881, section 18.43; RFC 8435, section 2.2).
use Rattle.std.proofs.Common.{◌≡◌, ◌<◌, ◌≤◌, ℕ, ◌^◌, Bool, true, false, length, List, [], ◌∷◌, ◌++◌, refl, sym, ap, subst, ◌∙◌, inl, inr, ◌⊎◌, arith, append_assoc, length-append}
use Rattle.std.specs.Prelude.{nat_lt}
use Rattle.std.proofs.lemmas.Bool.Decides.{nat_tests}
use Rattle.std.proofs.lemmas.Bool.{ltb-true}
use Rattle.cluster_model.specs.declared.ids.NodeId.TheVariants.{Server}
use Rattle.world_rule.specs.ClusterWorlds.{ClusterState}
use Rattle.nfs4_types.specs.Stateids.{three_words}
use Rattle.nfs4_types.specs.declared.ids.SessionId.{SessionId}
use Rattle.nfs4_session.specs.Clients.{client_in}
use Rattle.client_file_calls.specs.declared.grant.LayoutGrant.{LayoutGrant}
use Rattle.client_file_calls.specs.declared.layout_return.FailedMirror.{FailedMirror}
use Rattle.client_file_calls.specs.declared.open.OpenFile.{OpenFile}
use Rattle.client_mds_calls.specs.declared.reply.SlotReport.{SlotReport}
use Rattle.client_mds_calls.specs.declared.reply.SlotReport.TheVariants.{Taken, Uncached, Delayed, Unknown}
use Rattle.client_mds_calls.specs.MdsCalls.{MdsCallValue, OnSlot, SlotCallValue}
use Rattle.client_mds_calls.specs.MdsCalls as slot
use Rattle.client_mds_calls.specs.MdsReplies.{MdsAnswerValue, MdsReplyValue, Granted, Returned, Refused}
use Rattle.mds_walk.specs.MdsRuns.{MdsEvent}
use Rattle.mds_replies.specs.ClientCalls.{server_after, IsEventOf}
use Rattle.mds_replies.specs.LayoutReplies.{HasPeriod}
use Rattle.mds_replies.specs.SlotReplies.{TookEffect}
use Rattle.mds_replies.specs.AnsweredRequests.{StaysRoomy, KeepsAnswer, StandsByReport, IsUnknown, HasNoSession, IsOutOfOrder, bad_stateid}
use Rattle.mds_reports.specs.SlotReports.{AgreesWith}
use Rattle.client_state.specs.ClientSends.{CallsServer}
use Rattle.client_laws.specs.ClientHistory.{HistoryItem, Hears, Sends, Recorded, InOrder, HasItem, Each, client_history}
use Rattle.client_laws.specs.ClientRunLaws.{WasGranted}
use Rattle.client_sessions.specs.HeardReplies.{IsHeard}
use Rattle.client_sessions.specs.LayoutEnds.{AsksForOne, IsAskSettled, HasLayoutEnded, ByReturn, BySession, ByFence, WasFenced}
use Rattle.client_sessions.proofs.HeardLater.{granted_of}
use Rattle.node_histories.specs.Weaves.{items_in}
use Rattle.node_histories.specs.ClientLives.{Life, start_of}
use Rattle.node_histories.specs.NodeHistories.{HasLife, IsToldByNodes}
use Rattle.world_moves.specs.WorldMoves.{IsRunOf}
use Rattle.world_journal.specs.Journal.{IsJournalInRange}
use Rattle.world_reads.proofs.LifeRecords.{compound}
use Rattle.world_layouts.specs.WorldLayouts.{IsOneRequestEach, StartsAreFew, RefusalsAreEnds, GrantsAreOnce}
use Rattle.world_layouts.proofs.LifeSends.{each_at, life_is}
use Rattle.world_layouts.proofs.MomentOrder.{Begins, begins, BeginsWith, begins_with, has_middle}
use Rattle.world_layouts.proofs.HeardItems.{HeardUnder}
use Rattle.world_layouts.proofs.OwnEffects.{IsOwnEffect, effect_is_own, TookSo, took_so}
use Rattle.world_layouts.proofs.GrantedUids.{GrantTook, grant_took, moment_of, one_period, items_of_life}
use Rattle.world_layouts.proofs.OneRequest.{asked_behind, asked_at, under, stands, unknown_so}
use Rattle.world_grants.proofs.OneEffect.{OnceLaws, layout_laws, SameSplit, same_split, same_answer, one_event}
use Rattle.world_grants.proofs.RepliesBehind.{upto_reply, heard_last, past_is, heard_behind, EffectAt, effect_at, comes_behind}
use Rattle.world_grants.proofs.LostSessions.{not_lost}
use Rattle.world_grants.proofs.EndedPeriods.{returned_not}
use Rattle.world_grants.proofs.FencedLayouts.{fenced_not}
use Rattle.world_grants.proofs.SettledAsks.{agrees, not_misordered}

-- ---- answers

one_status : (a b : ℕ) → Refused a ≡ Refused b → a ≡ b
one_status a b is = cc

not_returned : (a : ℕ) → Returned ≡ Refused a → ⊥
not_returned a is = absurd cc

one_grant : (g k : LayoutGrant) → Granted g ≡ Granted k → g ≡ k
one_grant g k is = cc

-- the answer says that the session is gone, and another status or none
not_both : {A : Type 0} (answer : MdsAnswerValue) (a b : ℕ) → answer ≡ Refused a → answer ≡ Refused b → (a ≡ b → ⊥) → A
not_both answer a b first second apart = absurd (apart (one_status a b (sym first ∙ second)))

apart_up : (a b : ℕ) → a < b → a ≡ b → ⊥
apart_up a b less is = absurd (omega (arith, less, is))

apart_down : (a b : ℕ) → b < a → a ≡ b → ⊥
apart_down a b less is = absurd (omega (arith, less, is))

-- a LAYOUTRETURN that was accepted, or of no stateid, was not answered otherwise
not_ended : (answer : MdsAnswerValue) (status : ℕ) → (answer ≡ Returned) ⊎ (answer ≡ Refused bad_stateid) → answer ≡ Refused status → (10025 ≡ status → ⊥) → ⊥
not_ended answer status (inl is) other apart = not_returned status (sym is ∙ other)
not_ended answer status (inr is) other apart = apart (one_status 10025 status (sym is ∙ other))

apart_from : (status : ℕ) → 10026 ≤ status → 10025 ≡ status → ⊥
apart_from status more is = absurd (omega (arith, more, is))

below_from : (status : ℕ) → status < 10025 → 10025 ≡ status → ⊥
below_from status less is = absurd (omega (arith, less, is))

-- ---- events

event_in : (events before after early late : List MdsEvent) (e f : MdsEvent) → IsEventOf events before e after → IsEventOf (before ++ e ∷ []) early f late → IsEventOf events early f (late ++ after)
event_in events before after early late e f split inside =
    split ∙ (sym (append_assoc before (e ∷ []) after) ∙ (ap (λ (l : List MdsEvent). l ++ after) inside ∙ append_assoc early (f ∷ late) after))

-- what took effect by an event stands before one that is later
effect_then : (events before after early late later rest : List MdsEvent) (e f x : MdsEvent) → IsEventOf events before e after → IsEventOf (before ++ e ∷ []) early f late → IsEventOf events later x rest → length before < length later → Begins (early ++ f ∷ []) later
effect_then events before after early late later rest e f x split inside at less =
    let size = ap (λ (l : List MdsEvent). length l) inside in
    let left = length-append before (e ∷ []) in
    let right = length-append early (f ∷ late) in
    let short = length-append early (f ∷ []) in
    begins (early ++ f ∷ []) (late ++ after) later (x ∷ rest) (append_assoc early (f ∷ []) (late ++ after) ∙ (sym (event_in events before after early late e f split inside) ∙ at)) (omega (arith, size, left, right, short, less))

-- ---- items

in_after : (ps front h : List HistoryItem) → InOrder ps h → InOrder ps (front ++ h)
in_after [] front h i = tt
in_after (p ∷ ps) [] h i = i
in_after (p ∷ ps) (x ∷ front) h i = inr (in_after (p ∷ ps) front h i)

fenced_after : (front behind : List HistoryItem) (grant : LayoutGrant) → WasFenced behind grant → WasFenced (front ++ behind) grant
fenced_after front behind grant f = record {
  place = f.place;
  mirror = f.mirror;
  there = f.there;
  xid = f.xid;
  name = f.name;
  call = f.call;
  to_mirror = f.to_mirror;
  bytes = f.bytes;
  now = f.now;
  status = f.status;
  shown = f.shown;
  says = f.says;
  fence = f.fence;
  order = in_after (Sends (CallsServer f.mirror.id.server f.xid f.name grant.uid.0 f.call) ∷ Hears (Recorded (Server f.mirror.id.server) f.bytes f.now) ∷ []) front behind f.order;
}

begins_less : (a b c : List HistoryItem) → c ≡ a ++ b → length a ≤ length c
begins_less a b c is =
    let size = ap (λ (l : List HistoryItem). length l) is in
    let parts = length-append a b in
    omega (arith, size, parts)

get_session : (xid own : ℕ) (name other : List ℕ) (session asked : SessionId) (k n : ℕ) (file also : OpenFile) → compound xid name (OnSlot session k (slot.LayoutGet file)) ≡ compound own other (OnSlot asked n (slot.LayoutGet also)) → session ≡ asked
get_session xid own name other session asked k n file also is = cc

get_number : (xid own : ℕ) (name other : List ℕ) (session asked : SessionId) (k n : ℕ) (file also : OpenFile) → compound xid name (OnSlot session k (slot.LayoutGet file)) ≡ compound own other (OnSlot asked n (slot.LayoutGet also)) → k ≡ n
get_number xid own name other session asked k n file also is = cc

get_file : (xid own : ℕ) (name other : List ℕ) (session asked : SessionId) (k n : ℕ) (file also : OpenFile) → compound xid name (OnSlot session k (slot.LayoutGet file)) ≡ compound own other (OnSlot asked n (slot.LayoutGet also)) → file ≡ also
get_file xid own name other session asked k n file also is = cc

abbrev get_call : {past : List HistoryItem} {grant : LayoutGrant} → WasGranted past grant → MdsCallValue
get_call i = OnSlot i.session i.sequence (slot.LayoutGet i.file)

module _ (laws : OnceLaws) (boots : List ℕ) (w : ClusterState) (run : IsRunOf boots w) (t : IsToldByNodes w) (few : length w.machines.clients < 2 ^ 32) (range : IsJournalInRange w.journal) (roomy : StaysRoomy t.mds.servers t.mds.mirrors t.mds.events)
    (starts : StartsAreFew t) (one : IsOneRequestEach t) (ends : RefusalsAreEnds t) where
  abbrev Took : (n : ℕ) (l : Life) (past : List HistoryItem) (grant : LayoutGrant) (granted : WasGranted past grant) → Type 0
  Took n l past grant granted = GrantTook (layout_laws laws) boots w run t few range roomy starts one n l past grant granted

  took : (n : ℕ) (l : Life) → HasLife t.stories n l → (past tail : List HistoryItem) → items_in l.steps ≡ past ++ tail → (grant : LayoutGrant) (granted : WasGranted past grant) → Took n l past grant granted
  took n l its past tail is grant granted = grant_took (layout_laws laws) boots w run t few range roomy starts one n l its past tail is grant granted

  took_at : (n : ℕ) (l : Life) (past : List HistoryItem) (grant : LayoutGrant) (granted : WasGranted past grant) (k : Took n l past grant granted) → IsEventOf t.mds.events k.early k.f (k.late ++ k.heard.was.answered.after)
  took_at n l past grant granted k = let a = k.heard.was.answered in event_in t.mds.events a.before a.after k.early k.late a.e k.f a.split k.split

  -- ---- the first is asked for before the second

  module _ (n : ℕ) (l : Life) (its : HasLife t.stories n l) (past tail : List HistoryItem) (is : items_in l.steps ≡ past ++ tail) (g k : LayoutGrant) (i : WasGranted past g) (j : WasGranted past k) (uid : g.uid.0 ≡ k.uid.0)
      (first : Took n l past g i) (second : Took n l past k j) where
    abbrev asks : HistoryItem
    asks = compound j.xid j.name (get_call j)

    abbrev rest : List HistoryItem
    rest = j.since ++ tail

    asks_at : items_in l.steps ≡ j.before ++ asks ∷ rest
    asks_at = is ∙ (ap (λ (x : List HistoryItem). x ++ tail) j.split ∙ append_assoc j.before (asks ∷ j.since) tail)

    abbrev after : List MdsEvent
    after = second.late ++ second.heard.was.answered.after

    at : IsEventOf t.mds.events second.early second.f after
    at = took_at n l past k j second

    effect : EffectAt t n l j.before rest j.session j.sequence second.early after second.f
    effect = effect_at laws boots w run t few range roomy starts n l its j.before rest j.xid j.name j.session j.sequence (slot.LayoutGet j.file) asks_at second.early after second.f at second.took

    had : HasPeriod (server_after t.mds.servers t.mds.mirrors (second.early ++ second.f ∷ [])) j.file.file (client_in j.session) g.uid.0
    had = subst (λ (u : ℕ). HasPeriod (server_after t.mds.servers t.mds.mirrors (second.early ++ second.f ∷ [])) j.file.file (client_in j.session) u) (sym uid) second.grants.has

    client : client_in j.session ≡ client_in i.session
    client =
        sym (one_period (layout_laws laws) boots w run t few range roomy starts one (first.early ++ first.f ∷ []) (second.early ++ second.f ∷ []) (moment_of (layout_laws laws) boots w run t few range roomy starts one n l past g i first)
        (moment_of (layout_laws laws) boots w run t few range roomy starts one n l past k j second) i.file.file j.file.file (client_in i.session) (client_in j.session) g.uid.0 first.grants.has had).1

    -- a request that was answered behind the grant, and before the second LAYOUTGET went out
    module _ (upto behind : List HistoryItem) (split : j.before ≡ upto ++ behind) (xid : ℕ) (name : List ℕ) (sequence : ℕ) (c : SlotCallValue) (says : MdsReplyValue) (told : IsHeard upto xid name (OnSlot i.session sequence c) says []) where
      abbrev more : List HistoryItem
      more = behind ++ asks ∷ rest

      abbrev upto_at : items_in l.steps ≡ upto ++ more
      upto_at = asks_at ∙ (ap (λ (x : List HistoryItem). x ++ asks ∷ rest) split ∙ append_assoc upto behind (asks ∷ rest))

      less : length upto ≤ length j.before
      less = begins_less upto behind j.before split

      abbrev reply : HeardUnder laws.sessions.ids.replies boots w run t few range roomy n l upto xid name (OnSlot i.session sequence c) says []
      reply = under laws.sessions boots w run t few range roomy starts n l its upto more upto_at i.session sequence xid name c says [] told

      agree : (r : SlotReport) → says.slot ≡ r → AgreesWith says.answer r
      agree r slot_is = subst (λ (x : SlotReport). AgreesWith says.answer x) slot_is (agrees laws boots w run t few range roomy starts n l its upto name i.session sequence c says [] reply.heard)

      -- it was not unknown since its session is gone
      gone_not : IsUnknown t.mds.servers t.mds.mirrors reply.heard.was.answered.answers.early i.session sequence says.answer → says.answer ≡ Refused 10052 → ⊥
      gone_not (HasNoSession gone refused) status =
          not_lost laws boots w run t few range roomy starts n l its upto more upto_at i.session sequence xid name c says [] told refused j.before rest j.session j.sequence second.early after second.f effect at second.took less client
      gone_not (IsOutOfOrder order refused) status = not_both says.answer 10052 10063 status order (apart_up 10052 10063 (omega arith))

      lost_not : says.answer ≡ Refused 10052 → ⊥
      lost_not status = by_slot says.slot refl
        where
          by_slot : (r : SlotReport) → says.slot ≡ r → ⊥
          by_slot Taken slot_is = agree Taken slot_is status
          by_slot Uncached slot_is = not_both says.answer 10052 10068 status (agree Uncached slot_is) (apart_up 10052 10068 (omega arith))
          by_slot Delayed slot_is = not_both says.answer 10052 10008 status (agree Delayed slot_is) (apart_down 10052 10008 (omega arith))
          by_slot Unknown slot_is = gone_not (unknown_so laws.sessions boots w run t few range roomy starts n l its upto more upto_at i.session sequence xid name c says [] told slot_is) status

    -- ---- by the reply that settled the first

    module _ (s : IsAskSettled j.before i.xid i.name i.session i.sequence i.file) where
      abbrev upto : List HistoryItem
      upto = upto_reply i.xid i.name (get_call i) s.heard

      abbrev settled_split : j.before ≡ upto ++ s.behind
      settled_split = past_is j.before i.xid i.name (get_call i) s.says s.behind s.heard

      abbrev told : IsHeard (upto_reply i.xid i.name (get_call i) s.heard) i.xid i.name (OnSlot i.session i.sequence (slot.LayoutGet i.file)) s.says []
      told = heard_last j.before i.xid i.name (get_call i) s.says s.behind s.heard

      abbrev settled_at : items_in l.steps ≡ upto ++ (s.behind ++ asks ∷ rest)
      settled_at = upto_at upto s.behind settled_split i.xid i.name i.sequence (slot.LayoutGet i.file) s.says told

      abbrev settled : HeardUnder laws.sessions.ids.replies boots w run t few range roomy n l upto i.xid i.name (OnSlot i.session i.sequence (slot.LayoutGet i.file)) s.says []
      settled = reply upto s.behind settled_split i.xid i.name i.sequence (slot.LayoutGet i.file) s.says told

      -- ---- it was taken

      module _ (is_taken : s.says.slot ≡ Taken) where
        abbrev ans : List MdsEvent
        ans = settled.heard.was.answered.before

        own : TookSo t (settled.heard.was.answered.before ++ settled.heard.was.answered.e ∷ []) i.session i.sequence (slot.LayoutGet i.file) s.says.answer
        own = took_so laws.sessions.ids boots w run t few range roomy starts one n l its upto i.name i.session i.sequence (slot.LayoutGet i.file) s.says [] settled.heard is_taken

        one_moment : own.early ++ own.f ∷ [] ≡ first.early ++ first.f ∷ []
        one_moment =
            let a = settled.heard.was.answered in
            let r = one_event laws boots w run t few range roomy starts i.session i.sequence own.early (own.late ++ a.after) first.early (first.late ++ first.heard.was.answered.after) own.f first.f
            (event_in t.mds.events a.before a.after own.early own.late a.e own.f a.split own.split) (took_at n l past g i first) own.took first.took in
            ap (λ (x : List MdsEvent). x ++ own.f ∷ []) r.first ∙ ap (λ (x : MdsEvent). first.early ++ x ∷ []) r.middle

        granted_so : s.says.answer ≡ Granted g
        granted_so =
            same_answer (server_after t.mds.servers t.mds.mirrors (first.early ++ first.f ∷ [])) i.session (slot.LayoutGet i.file) s.says.answer (Granted g)
            (subst (λ (x : List MdsEvent). KeepsAnswer (server_after t.mds.servers t.mds.mirrors x) i.session (slot.LayoutGet i.file) s.says.answer) one_moment own.means.0) first.keeps

        -- what comes behind the reply comes behind the grant
        since_grant : (later after_later : List MdsEvent) (x : MdsEvent) → IsEventOf t.mds.events later x after_later → length settled.heard.was.answered.before < length later → Begins (first.early ++ first.f ∷ []) later
        since_grant later after_later x there less =
            let a = settled.heard.was.answered in
            subst (λ (m : List MdsEvent). Begins m later) one_moment (effect_then t.mds.events a.before a.after own.early own.late later after_later a.e own.f x a.split own.split there less)

        small : g.uid.0 < 2 ^ 32
        small =
            let m = moment_of (layout_laws laws) boots w run t few range roomy starts one n l past g i first in
            subst (λ (x : ℕ). x < 2 ^ 32) first.grants.has.its_uid ((roomy.room (first.early ++ first.f ∷ []) m.behind m.is).creds i.file.file first.grants.has.file_is first.grants.has.there)

        names : g.stateid.other ≡ three_words i.file.file.0 g.uid.0 0
        names = ap (λ (x : LayoutGrant). x.stateid.other) first.grants.is ∙ ap (λ (x : LayoutGrant). three_words i.file.file.0 x.uid.0 0) (sym first.grants.is)

        -- a LAYOUTRETURN
        module _ (xid : ℕ) (name : List ℕ) (sequence : ℕ) (failed : List FailedMirror) (says : MdsReplyValue) (more : List HistoryItem)
            (heard : IsHeard s.behind xid name (OnSlot i.session sequence (slot.LayoutReturn i.file.file g.stateid failed)) says more) where
          abbrev gives : MdsCallValue
          gives = OnSlot i.session sequence (slot.LayoutReturn i.file.file g.stateid failed)

          abbrev there : IsHeard (upto ++ s.behind) xid name (OnSlot i.session sequence (slot.LayoutReturn i.file.file g.stateid failed)) says more
          there = heard_behind upto s.behind xid name gives says more heard

          abbrev returned : List HistoryItem
          returned = upto_reply xid name gives there

          abbrev returned_split : j.before ≡ returned ++ more
          returned_split = settled_split ∙ past_is (upto ++ s.behind) xid name gives says more there

          abbrev told_return : IsHeard (upto_reply xid name gives there) xid name (OnSlot i.session sequence (slot.LayoutReturn i.file.file g.stateid failed)) says []
          told_return = heard_last (upto ++ s.behind) xid name gives says more there

          abbrev return_reply : HeardUnder laws.sessions.ids.replies boots w run t few range roomy n l returned xid name (OnSlot i.session sequence (slot.LayoutReturn i.file.file g.stateid failed)) says []
          return_reply = reply returned more returned_split xid name sequence (slot.LayoutReturn i.file.file g.stateid failed) says told_return

          taken_not : says.slot ≡ Taken → (says.answer ≡ Returned) ⊎ (says.answer ≡ Refused bad_stateid) → ⊥
          taken_not return_taken answer =
              let c : SlotCallValue = slot.LayoutReturn i.file.file g.stateid failed in
              let a = return_reply.heard.was.answered in
              let r : TookSo t (a.before ++ a.e ∷ []) i.session sequence (slot.LayoutReturn i.file.file g.stateid failed) says.answer =
              took_so laws.sessions.ids boots w run t few range roomy starts one n l its returned name i.session sequence (slot.LayoutReturn i.file.file g.stateid failed) says [] return_reply.heard return_taken in
              let r_at : IsEventOf t.mds.events r.early r.f (r.late ++ a.after) = event_in t.mds.events a.before a.after r.early r.late a.e r.f a.split r.split in
              let q : List HistoryItem =
              asked_behind laws.sessions boots w run t few range roomy starts n l its returned (more ++ asks ∷ rest) (upto_at returned more returned_split xid name sequence c says told_return) i.session sequence xid name c says [] told_return in
              let place : items_in l.steps ≡ told_return.before ++ compound xid name gives ∷ q =
              asked_at laws.sessions boots w run t few range roomy starts n l its returned (more ++ asks ∷ rest) (upto_at returned more returned_split xid name sequence c says told_return) i.session sequence xid name c says [] told_return in
              let e : EffectAt t n l told_return.before q i.session sequence r.early (r.late ++ a.after) r.f = effect_at laws boots w run t few range roomy starts n l its told_return.before q xid name i.session sequence c place r.early (r.late ++ a.after) r.f r_at r.took in
              let behind_grant = comes_behind laws boots w run t few range roomy starts n l its upto i.name (get_call i) s.says [] settled.heard told_return.before q i.session sequence r.early (r.late ++ a.after) r.f e r_at
              (begins_less upto heard.before told_return.before refl) in
              let before_second = comes_behind laws boots w run t few range roomy starts n l its returned name gives says [] return_reply.heard j.before rest j.session j.sequence second.early after second.f effect at (begins_less returned more j.before returned_split) in
              returned_not laws boots w run t few range roomy starts (first.early ++ first.f ∷ []) i.file.file i.session g.uid.0 first.grants.has g.stateid names small failed r.early (r.late ++ a.after) r.f r_at
              (since_grant r.early (r.late ++ a.after) r.f r_at behind_grant) says.answer r.means answer second.early after second.f at
              (effect_then t.mds.events a.before a.after r.early r.late second.early after a.e r.f second.f a.split r.split at before_second) j.file.file (client_in j.session) had

          return_not : (says.answer ≡ Returned) ⊎ (says.answer ≡ Refused bad_stateid) → ⊥
          return_not answer = by_slot says.slot refl
            where
              by_unknown : IsUnknown t.mds.servers t.mds.mirrors return_reply.heard.was.answered.answers.early i.session sequence says.answer → ⊥
              by_unknown (HasNoSession gone refused) = not_ended says.answer 10052 answer gone (apart_from 10052 (omega arith))
              by_unknown (IsOutOfOrder order refused) = not_ended says.answer 10063 answer order (apart_from 10063 (omega arith))

              by_slot : (r : SlotReport) → says.slot ≡ r → ⊥
              by_slot Taken slot_is = taken_not slot_is answer
              by_slot Uncached slot_is =
                  not_ended says.answer 10068 answer (agree returned more returned_split xid name sequence (slot.LayoutReturn i.file.file g.stateid failed) says told_return Uncached slot_is) (apart_from 10068 (omega arith))
              by_slot Delayed slot_is =
                  not_ended says.answer 10008 answer (agree returned more returned_split xid name sequence (slot.LayoutReturn i.file.file g.stateid failed) says told_return Delayed slot_is) (below_from 10008 (omega arith))
              by_slot Unknown slot_is =
                  by_unknown (unknown_so laws.sessions boots w run t few range roomy starts n l its returned (more ++ asks ∷ rest)
                  (upto_at returned more returned_split xid name sequence (slot.LayoutReturn i.file.file g.stateid failed) says told_return) i.session sequence xid name (slot.LayoutReturn i.file.file g.stateid failed) says [] told_return slot_is)

        ended_not : HasLayoutEnded s.behind i.session i.file.file g → ⊥
        ended_not (ByReturn xid name sequence failed says more heard answer) = return_not xid name sequence failed says more heard answer
        ended_not (BySession xid name sequence call says more heard answer) =
            let there : IsHeard (upto ++ s.behind) xid name (OnSlot i.session sequence call) says more = heard_behind upto s.behind xid name (OnSlot i.session sequence call) says more heard in
            lost_not (upto_reply xid name (OnSlot i.session sequence call) there) more (settled_split ∙ past_is (upto ++ s.behind) xid name (OnSlot i.session sequence call) says more there) xid name sequence call says
            (heard_last (upto ++ s.behind) xid name (OnSlot i.session sequence call) says more there) answer
        ended_not (ByFence fenced) =
            fenced_not laws boots w run t few range roomy starts n l its ends j.before rest j.session j.sequence second.early after second.f effect at g
            (granted_of j.before i.xid i.name i.session i.sequence i.file s.says s.behind g s.heard granted_so)
            (subst (λ (h : List HistoryItem). WasFenced h g) (sym settled_split) (fenced_after upto s.behind g fenced)) j.file.file (client_in j.session) had

        taken_ended : ⊥
        taken_ended = ended_not (s.ended g granted_so)

      settled_not : ⊥
      settled_not = by_slot s.says.slot refl
        where
          by_unknown : IsUnknown t.mds.servers t.mds.mirrors settled.heard.was.answered.answers.early i.session i.sequence s.says.answer → ⊥
          by_unknown (HasNoSession gone refused) = lost_not upto s.behind settled_split i.xid i.name i.sequence (slot.LayoutGet i.file) s.says told gone
          by_unknown (IsOutOfOrder order refused) =
              not_misordered laws boots w run t few range roomy starts n l its (s.behind ++ asks ∷ rest) i.session i.sequence i.xid i.name (slot.LayoutGet i.file) s.says upto settled_at told s.quiet refused

          by_uncached : StandsByReport t.mds.servers t.mds.mirrors (settled.heard.was.answered.before ++ settled.heard.was.answered.e ∷ []) settled.heard.was.answered.answers.early i.session i.sequence (slot.LayoutGet i.file) s.says.answer Uncached → ⊥
          by_uncached (e, no_get, free) =
              let a = settled.heard.was.answered in
              let o : IsOwnEffect i.session e.asked i.sequence (slot.LayoutGet i.file) e.f e.took.node e.took.xid =
              effect_is_own laws.sessions.ids boots w run t few range roomy starts one n l its settled.heard.reply.xid i.name i.session i.sequence (slot.LayoutGet i.file) settled.heard.has a.before a.after a.e a.split e in
              no_get o.name i.file o.came

          by_slot : (r : SlotReport) → s.says.slot ≡ r → ⊥
          by_slot Taken slot_is = taken_ended slot_is
          by_slot Uncached slot_is =
              by_uncached (subst (λ (r : SlotReport). StandsByReport t.mds.servers t.mds.mirrors (settled.heard.was.answered.before ++ settled.heard.was.answered.e ∷ []) settled.heard.was.answered.answers.early i.session i.sequence (slot.LayoutGet i.file) s.says.answer r) slot_is
              (stands laws.sessions boots w run t few range roomy starts n l its upto (s.behind ++ asks ∷ rest) settled_at i.session i.sequence i.xid i.name (slot.LayoutGet i.file) s.says [] told))
          by_slot Delayed slot_is = s.final slot_is
          by_slot Unknown slot_is =
              by_unknown (unknown_so laws.sessions boots w run t few range roomy starts n l its upto (s.behind ++ asks ∷ rest) settled_at i.session i.sequence i.xid i.name (slot.LayoutGet i.file) s.says [] told slot_is)

    before_not : length i.before < length j.before → ⊥
    before_not less =
        let each : Each AsksForOne [] (items_in l.steps) =
        subst (λ (h : List HistoryItem). Each AsksForOne [] h) (life_is w t laws.sessions.ids.replies.calls.numbered n l its).facts.is.history (laws.asks n l.verifier l.first_xid l.inputs) in
        let place : BeginsWith i.before (compound i.xid i.name (get_call i)) j.before = begins_with i.before (compound i.xid i.name (get_call i)) i.since j.before (asks ∷ j.since) (sym i.split ∙ j.split) less in
        let has : HasItem j.before (compound i.xid i.name (get_call i)) =
        subst (λ (h : List HistoryItem). HasItem h (compound i.xid i.name (get_call i))) (sym place.is) (has_middle i.before place.more (compound i.xid i.name (get_call i))) in
        settled_not (each_at AsksForOne [] j.before rest asks (subst (λ (h : List HistoryItem). Each AsksForOne [] h) asks_at each) i.xid i.name i.session i.sequence i.file has)

    -- ---- one is the other

    same_grant : length i.before ≡ length j.before → (g ≡ k) × (i.since ≡ j.since)
    same_grant size =
        let s : SameSplit i.before i.since j.before j.since (compound i.xid i.name (get_call i)) asks = same_split i.before i.since j.before j.since (compound i.xid i.name (get_call i)) asks (sym i.split ∙ j.split) size in
        let session : i.session ≡ j.session = get_session i.xid j.xid i.name j.name i.session j.session i.sequence j.sequence i.file j.file s.middle in
        let number : i.sequence ≡ j.sequence = get_number i.xid j.xid i.name j.name i.session j.session i.sequence j.sequence i.file j.file s.middle in
        let file : i.file ≡ j.file = get_file i.xid j.xid i.name j.name i.session j.session i.sequence j.sequence i.file j.file s.middle in
        let its_effect : TookEffect t.mds.servers t.mds.mirrors second.early second.f i.session i.sequence =
        subst (λ (x : SessionId). TookEffect t.mds.servers t.mds.mirrors second.early second.f x i.sequence) (sym session) (subst (λ (x : ℕ). TookEffect t.mds.servers t.mds.mirrors second.early second.f j.session x) (sym number) second.took) in
        let r = one_event laws boots w run t few range roomy starts i.session i.sequence first.early (first.late ++ first.heard.was.answered.after) second.early after first.f second.f (took_at n l past g i first) at first.took its_effect in
        let moment : second.early ++ second.f ∷ [] ≡ first.early ++ first.f ∷ [] =
        sym (ap (λ (x : List MdsEvent). x ++ first.f ∷ []) r.first ∙ ap (λ (x : MdsEvent). second.early ++ x ∷ []) r.middle) in
        let its_keeps : KeepsAnswer (server_after t.mds.servers t.mds.mirrors (second.early ++ second.f ∷ [])) i.session (slot.LayoutGet i.file) (Granted k) =
        subst (λ (x : SessionId). KeepsAnswer (server_after t.mds.servers t.mds.mirrors (second.early ++ second.f ∷ [])) x (slot.LayoutGet i.file) (Granted k)) (sym session)
        (subst (λ (x : OpenFile). KeepsAnswer (server_after t.mds.servers t.mds.mirrors (second.early ++ second.f ∷ [])) j.session (slot.LayoutGet x) (Granted k)) (sym file) second.keeps) in
        let answer : Granted g ≡ Granted k =
        same_answer (server_after t.mds.servers t.mds.mirrors (first.early ++ first.f ∷ [])) i.session (slot.LayoutGet i.file) (Granted g) (Granted k) first.keeps
        (subst (λ (x : List MdsEvent). KeepsAnswer (server_after t.mds.servers t.mds.mirrors x) i.session (slot.LayoutGet i.file) (Granted k)) moment its_keeps) in
        (one_grant g k answer, s.last)

  pub grants_are_once : GrantsAreOnce t
  grants_are_once n l its g k i j uid = by_place (nat_lt (length i.before) (length j.before)) (nat_lt (length j.before) (length i.before)) refl refl
    where
      past : List HistoryItem
      past = client_history (start_of n l) l.inputs

      whole : items_in l.steps ≡ client_history (start_of n l) l.inputs ++ []
      whole = items_of_life (layout_laws laws) boots w run t few range roomy starts one n l its

      first : Took n l (client_history (start_of n l) l.inputs) g i
      first = took n l its (client_history (start_of n l) l.inputs) [] whole g i

      second : Took n l (client_history (start_of n l) l.inputs) k j
      second = took n l its (client_history (start_of n l) l.inputs) [] whole k j

      by_place : (a b : Bool) → nat_lt (length i.before) (length j.before) ≡ a → nat_lt (length j.before) (length i.before) ≡ b → (g ≡ k) × (i.since ≡ j.since)
      by_place true b less more = absurd (before_not n l its (client_history (start_of n l) l.inputs) [] whole g k i j uid first second (ltb-true (length i.before) (length j.before) less))
      by_place false true less more = absurd (before_not n l its (client_history (start_of n l) l.inputs) [] whole k g j i (sym uid) second first (ltb-true (length j.before) (length i.before) more))
      by_place false false less more = same_grant n l its (client_history (start_of n l) l.inputs) [] whole g k i j uid first second (grind (arith, nat_tests, less, more))
