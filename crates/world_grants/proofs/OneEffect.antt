-- A number of a session takes effect in one event, behind which its slot keeps one answer.
use Rattle.std.proofs.Common.{◌≡◌, ◌<◌, ◌≤◌, ℕ, ◌+◌, ◌^◌, Bool, true, false, length, List, [], ◌∷◌, ◌++◌, refl, sym, ap, ◌∙◌, arith}
use Rattle.std.specs.Prelude.{nat_lt, ◌==◌, ◌&&◌}
use Rattle.std.proofs.lemmas.Bool.Decides.{nat_tests}
use Rattle.std.proofs.lemmas.Bool.{ltb-true, eq-eqb}
use Rattle.std.proofs.lemmas.Option.{same_Some}
use Rattle.world_rule.specs.ClusterWorlds.{ClusterState}
use Rattle.compound_reply.specs.Replied.{success_reply}
use Rattle.nfs4_types.specs.declared.ids.SessionId.{SessionId}
use Rattle.nfs4_session.specs.Clients.{client_in, number_in}
use Rattle.nfs4_session.specs.Slots.{SlotState, Cached}
use Rattle.table_slots.specs.TableSlots.{is_of_session}
use Rattle.client_mds_calls.specs.MdsCalls.{SlotCallValue, ask_on_slot}
use Rattle.client_mds_calls.specs.MdsReplies.{MdsAnswerValue, reply_of_ask}
use Rattle.mds_rule.specs.MdsStates.{MdsValue}
use Rattle.mds_walk.specs.MdsRuns.{MdsEvent}
use Rattle.mds_replies.specs.ClientCalls.{IsEventOf}
use Rattle.mds_replies.specs.SlotReplies.{TookEffect, EffectsAreNumbered, count_taken}
use Rattle.mds_replies.specs.LayoutReplies.{PeriodsAreOwn, PeriodsGoOn, PeriodsEnd}
use Rattle.mds_replies.specs.AnsweredRequests.{StaysRoomy, KeepsAnswer}
use Rattle.mds_reports.specs.SlotReports.{ReportsAgree}
use Rattle.mds_session_order.specs.SessionOrder.{ClientsStayGone}
use Rattle.client_laws.specs.ClientRunLaws.{InEachRun}
use Rattle.client_sessions.specs.LayoutEnds.{AsksForOne}
use Rattle.node_histories.specs.NodeHistories.{IsToldByNodes}
use Rattle.world_moves.specs.WorldMoves.{IsRunOf}
use Rattle.world_journal.specs.Journal.{IsJournalInRange}
use Rattle.world_layouts.specs.WorldLayouts.{StartsAreFew}
use Rattle.world_layouts.proofs.MomentOrder.{BeginsWith, begins_with}
use Rattle.world_layouts.proofs.GrantedUids.{LayoutLaws}
use Rattle.world_layouts.proofs.OneRequest.{SessionLaws, calls_all, fits_first, room_first}

-- ---- the laws of lower crates

pub record OnceLaws : Type 0 where
  pub sessions : SessionLaws
  pub asks : InEachRun AsksForOne
  pub own : PeriodsAreOwn
  pub goes_on : PeriodsGoOn
  pub over : PeriodsEnd
  pub numbered : EffectsAreNumbered
  pub gone : ClientsStayGone
  pub reports : ReportsAgree

abbrev pub layout_laws : OnceLaws → LayoutLaws
layout_laws laws = record { ids = laws.sessions.ids; own = laws.own }

-- ---- lists

-- two parts of one list at one place are one
pub record SameSplit {A : Type 0} (a b c d : List A) (x y : A) : Type 0 where
  pub first : a ≡ c
  pub middle : x ≡ y
  pub last : b ≡ d

pub same_split : {A : Type 0} (a b c d : List A) (x y : A) → a ++ x ∷ b ≡ c ++ y ∷ d → length a ≡ length c → SameSplit a b c d x y
same_split [] b [] d x y is size = let middle : x ≡ y = cc is in let last : b ≡ d = cc is in record { first = refl; middle = middle; last = last }
same_split [] b (z ∷ c) d x y is size = absurd (omega (arith, size))
same_split (z ∷ a) b [] d x y is size = absurd (omega (arith, size))
same_split {A = A} (z ∷ a) b (v ∷ c) d x y is size =
    let head : z ≡ v = cc is in
    let rest : a ++ x ∷ b ≡ c ++ y ∷ d = cc is in
    let r : SameSplit a b c d x y = same_split a b c d x y rest (omega (arith, size)) in
    record { first = ap (λ (k : A). k ∷ a) head ∙ ap (λ (l : List A). v ∷ l) r.first; middle = r.middle; last = r.last }

-- ---- one answer

cached_is : (a b : List ℕ) → Cached a ≡ Cached b → a ≡ b
cached_is a b is = cc

pub same_answer : (m : MdsValue) (session : SessionId) (c : SlotCallValue) (a b : MdsAnswerValue) → KeepsAnswer m session c a → KeepsAnswer m session c b → a ≡ b
same_answer m session c a b j k =
    let slot : j.slot ≡ k.slot = same_Some j.slot k.slot (sym j.there ∙ k.there) in
    let bytes : j.bytes ≡ k.bytes = cached_is j.bytes k.bytes (sym j.kept ∙ (ap (λ (s : SlotState). s.reply) slot ∙ k.kept)) in
    sym j.says ∙ (ap (λ (x : List ℕ). (reply_of_ask (ask_on_slot c) (success_reply 0 x)).answer) bytes ∙ k.says)

-- ---- one event

pub own_session : (session : SessionId) → is_of_session session session ≡ true
own_session session =
    both (client_in session == client_in session) (number_in session == number_in session) (eq-eqb (client_in session) (client_in session) refl) (eq-eqb (number_in session) (number_in session) refl)
  where
    both : (a b : Bool) → a ≡ true → b ≡ true → (a && b) ≡ true
    both true b first second = second
    both false b first second = absurd cc

module _ (laws : OnceLaws) (boots : List ℕ) (w : ClusterState) (run : IsRunOf boots w) (t : IsToldByNodes w) (few : length w.machines.clients < 2 ^ 32) (range : IsJournalInRange w.journal) (roomy : StaysRoomy t.mds.servers t.mds.mirrors t.mds.events)
    (starts : StartsAreFew t) where
  not_earlier : (session : SessionId) (number : ℕ) (early late other after : List MdsEvent) (f e : MdsEvent) → IsEventOf t.mds.events early f late → IsEventOf t.mds.events other e after
      → TookEffect t.mds.servers t.mds.mirrors early f session number → TookEffect t.mds.servers t.mds.mirrors other e session number → length early < length other → ⊥
  not_earlier session number early late other after f e first second took also less =
      let place : BeginsWith early f other = begins_with early f late other (e ∷ after) (sym first ∙ second) less in
      let counted : number ≤ count_taken t.mds.servers t.mds.mirrors other session =
      laws.sessions.counted t.mds.servers t.mds.mirrors other (e ∷ after) (fits_first laws.sessions boots w run t few range roomy starts other (e ∷ after) second) (room_first laws.sessions boots w run t few range roomy starts other (e ∷ after) second) session number
      (record { early = early; f = f; late = place.more; split = place.is; asked = session; its = own_session session; took = took }) in
      let next : number ≡ count_taken t.mds.servers t.mds.mirrors other session + 1 =
      (laws.numbered t.mds.servers t.mds.mirrors t.mds.events other after e session number (calls_all laws.sessions boots w run t few range roomy starts) second (roomy.counts other (e ∷ after) second session) also).0 in
      absurd (omega (arith, counted, next))

  pub one_event : (session : SessionId) (number : ℕ) (early late other after : List MdsEvent) (f e : MdsEvent) → IsEventOf t.mds.events early f late → IsEventOf t.mds.events other e after
      → TookEffect t.mds.servers t.mds.mirrors early f session number → TookEffect t.mds.servers t.mds.mirrors other e session number → SameSplit early late other after f e
  one_event session number early late other after f e first second took also = by_place (nat_lt (length early) (length other)) (nat_lt (length other) (length early)) refl refl
    where
      by_place : (a b : Bool) → nat_lt (length early) (length other) ≡ a → nat_lt (length other) (length early) ≡ b → SameSplit early late other after f e
      by_place true b less more = absurd (not_earlier session number early late other after f e first second took also (ltb-true (length early) (length other) less))
      by_place false true less more = absurd (not_earlier session number other after early late e f second first also took (ltb-true (length other) (length early) more))
      by_place false false less more = same_split early late other after f e (sym first ∙ second) (grind (arith, nat_tests, less, more))
