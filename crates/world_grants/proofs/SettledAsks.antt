-- A LAYOUTGET that took effect, in the history of the life that sent it, and the reply by which it was settled: this is the one that its slot keeps.
use Rattle.std.proofs.Common.{◌≡◌, ◌<◌, ℕ, ◌+◌, ◌^◌, true, false, length, List, [], ◌∷◌, ◌++◌, refl, sym, ap, subst, ◌∙◌, inl, inr, ◌⊎◌, arith, length-append}
use Rattle.std.specs.List.{AllByRecursion}
use Rattle.cluster_model.specs.declared.ids.NodeId.TheVariants.{Mds, Client}
use Rattle.world_rule.specs.ClusterWorlds.{ClusterState}
use Rattle.nfs4_types.specs.declared.ids.SessionId.{SessionId}
use Rattle.nfs4_types.specs.declared.status.Stat4.TheVariants as stat
use Rattle.table_slots.specs.TableSlots.{is_of_session}
use Rattle.client_mds_calls.specs.MdsCalls.{MdsCallValue, OnSlot, SlotCallValue, ask_of, ask_on_slot, takes_slot}
use Rattle.client_mds_calls.specs.MdsReplies.{MdsReplyValue, reply_of_ask}
use Rattle.client_mds_calls.specs.MdsCalls as slot
use Rattle.mds_walk.specs.MdsRuns.{MdsEvent, Hears}
use Rattle.mds_replies.specs.AnsweredRequests.{StaysRoomy, IsRefusedWith, TookEffectAmong}
use Rattle.mds_reports.specs.SlotReports.{AgreesWith, AgreesRead, CameAlone}
use Rattle.client_laws.specs.ClientHistory.{HistoryItem, HasItem}
use Rattle.client_laws.proofs.Orders.{in_either}
use Rattle.client_sessions.specs.HeardReplies.{IsHeard, IsNoCompound}
use Rattle.node_histories.specs.Weaves.{items_in}
use Rattle.node_histories.specs.ClientLives.{Life}
use Rattle.node_histories.specs.NodeHistories.{HasLife, IsToldByNodes}
use Rattle.world_moves.specs.WorldMoves.{IsRunOf}
use Rattle.world_journal.specs.Journal.{IsJournalInRange}
use Rattle.world_reads.proofs.LifeRecords.{compound}
use Rattle.world_layouts.specs.WorldLayouts.{StartsAreFew}
use Rattle.world_layouts.proofs.LifeSends.{hearing_from}
use Rattle.world_layouts.proofs.HeardCalls.{are_fit_calls}
use Rattle.world_layouts.proofs.MomentOrder.{less_or, BeginsWith, begins_with, has_middle}
use Rattle.world_layouts.proofs.OwnCalls.{CalledOwn, own_call, same_takes}
use Rattle.world_layouts.proofs.OwnRequests.{OwnRequest, own_request, SplitAt, split_at}
use Rattle.world_layouts.proofs.OneRequest.{IsIn, Front, This, Back, is_in, Heard, fits_first, room_first, behind_reply, none_asked, asked_behind, asked_at, asked_round, under, early, late, whole, early_less, refused_not}
use Rattle.world_grants.proofs.OneEffect.{OnceLaws}

no_compound : (items : List HistoryItem) → AllByRecursion IsNoCompound items → (xid : ℕ) (name : List ℕ) (call : MdsCallValue) → HasItem items (compound xid name call) → ⊥
no_compound [] all xid name call has = absurd has
no_compound (x ∷ items) all xid name call (inl here) = subst IsNoCompound (sym here.0) all.0
no_compound (x ∷ items) all xid name call (inr has) = no_compound items all.1 xid name call has

not_heard : (xid : ℕ) (name : List ℕ) (call : MdsCallValue) (bytes : List ℕ) (now : ℕ) → compound xid name call ≡ hearing_from Mds bytes now → ⊥
not_heard xid name call bytes now is = absurd cc

other_number : (xid own : ℕ) (name other : List ℕ) (session asked : SessionId) (number : ℕ) (c d : SlotCallValue) → compound xid name (OnSlot session (number + 1) c) ≡ compound own other (OnSlot asked number d) → ⊥
other_number xid own name other session asked number c d is = let same : number + 1 ≡ number = cc is in absurd (omega (arith, same))

both_ways : true ≡ false → ⊥
both_ways is = absurd cc

slot_taken : (c : SlotCallValue) → takes_slot (ask_on_slot c) ≡ true
slot_taken slot.ReclaimComplete = refl
slot_taken (slot.Open name) = refl
slot_taken (slot.LayoutGet file) = refl
slot_taken (slot.DeviceInfo servers) = refl
slot_taken (slot.Write file at bytes) = refl
slot_taken (slot.Read file at count) = refl
slot_taken (slot.LayoutReturn file stateid failed) = refl
slot_taken slot.Renew = refl

module _ (laws : OnceLaws) (boots : List ℕ) (w : ClusterState) (run : IsRunOf boots w) (t : IsToldByNodes w) (few : length w.machines.clients < 2 ^ 32) (range : IsJournalInRange w.journal) (roomy : StaysRoomy t.mds.servers t.mds.mirrors t.mds.events)
    (starts : StartsAreFew t) (n : ℕ) (l : Life) (its : HasLife t.stories n l) where
  -- what a reply tells the slot and its answer agree
  pub agrees : (past : List HistoryItem) (name : List ℕ) (session : SessionId) (number : ℕ) (c : SlotCallValue) (says : MdsReplyValue) (behind : List HistoryItem) → Heard laws.sessions boots w run t few range roomy starts n l past name (OnSlot session number c) says behind
      → AgreesWith says.answer says.slot
  agrees past name session number c says behind h =
      subst (λ (r : MdsReplyValue). AgreesWith r.answer r.slot) h.says_so
      (by_kind (laws.reports t.mds.servers t.mds.mirrors t.mds.events h.was.answered.before h.was.answered.after h.was.answered.e (are_fit_calls laws.sessions.ids.replies.calls boots w run t few range) roomy h.was.answered.split (Client n) h.reply h.was.answered.sent))
    where
      same_bytes : (x y : List ℕ) → Hears (Client n) x ≡ Hears (Client n) y → x ≡ y
      same_bytes x y is = cc

      not_alone : CameAlone h.was.answered.e (Client n) h.reply.xid → ⊥
      not_alone a =
          let own : CalledOwn t n l h.was.answered.before h.was.answered.after h.was.answered.e h.reply.xid name (OnSlot session number c) =
          own_call laws.sessions.ids.replies.calls boots w run t few range n l its h.reply.xid name (OnSlot session number c) h.has h.was.answered.before h.was.answered.after h.was.answered.e h.was.answered.split a.name a.call a.came in
          let takes : takes_slot (ask_of a.call) ≡ takes_slot (ask_of (OnSlot session number c)) =
          same_takes laws.sessions.ids.replies.calls boots w run t few range h.was.answered.e (Client n) h.reply.xid a.name name a.call (OnSlot session number c) a.came own.called (same_bytes a.came.bytes own.called.bytes (sym a.came.input ∙ own.called.input)) in
          absurd (both_ways (sym (takes ∙ slot_taken c) ∙ a.alone))

      by_kind : AgreesRead h.reply ⊎ CameAlone h.was.answered.e (Client n) h.reply.xid → AgreesWith (reply_of_ask (ask_on_slot c) h.reply).answer (reply_of_ask (ask_on_slot c) h.reply).slot
      by_kind (inl reads) = reads c
      by_kind (inr alone) = absurd (not_alone alone)

  -- a request that was answered before another went out was in order when it came
  module _ (tail : List HistoryItem) (session : SessionId) (number xid : ℕ) (name : List ℕ) (c : SlotCallValue) (says : MdsReplyValue) (upto : List HistoryItem) (is : items_in l.steps ≡ upto ++ tail)
      (told : IsHeard upto xid name (OnSlot session number c) says []) (quiet : AllByRecursion IsNoCompound told.until) where
    abbrev came : List MdsEvent
    came = early laws.sessions boots w run t few range roomy starts n l its upto tail is session number xid name c says [] told

    abbrev since : List MdsEvent
    since = late laws.sessions boots w run t few range roomy starts n l its upto tail is session number xid name c says [] told

    split_there : t.mds.events ≡ came ++ since
    split_there = whole laws.sessions boots w run t few range roomy starts n l its upto tail is session number xid name c says [] told

    none_later : TookEffectAmong t.mds.servers t.mds.mirrors came session (number + 1) → ⊥
    none_later k =
        let q : List HistoryItem = asked_behind laws.sessions boots w run t few range roomy starts n l its upto tail is session number xid name c says [] told in
        let at : items_in l.steps ≡ told.before ++ compound xid name (OnSlot session number c) ∷ q = asked_at laws.sessions boots w run t few range roomy starts n l its upto tail is session number xid name c says [] told in
        let has : HasItem (items_in l.steps) (compound xid name (OnSlot session number c)) = subst (λ (h : List HistoryItem). HasItem h (compound xid name (OnSlot session number c))) (sym at) (has_middle told.before q (compound xid name (OnSlot session number c))) in
        let o : OwnRequest t n l k.early (k.late ++ since) k.f k.took.node k.took.xid k.asked (number + 1) =
        own_request laws.sessions.ids boots w run t few range roomy starts n l its xid name session number c has came since split_there (number + 1) k in
        let s : SplitAt (items_in l.steps) (compound k.took.xid o.name (OnSlot k.asked (number + 1) o.call)) = split_at (items_in l.steps) (compound k.took.xid o.name (OnSlot k.asked (number + 1) o.call)) o.has in
        let u = under laws.sessions boots w run t few range roomy starts n l its upto tail is session number xid name c says [] told in
        let sent : length s.before < length upto =
        less_or (length upto) (length s.before)
        (λ most.
        let later = behind_reply laws.sessions boots w run t few range roomy starts n l its upto name (OnSlot session number c) says [] u.heard s.before s.behind k.took.xid o.name (OnSlot k.asked (number + 1) o.call) s.is most k.early (k.late ++ since) k.f o.split o.called in
        let first = early_less laws.sessions boots w run t few range roomy starts n l its upto tail is session number xid name c says [] told in
        let size = ap (λ (x : List MdsEvent). length x) k.split in
        let parts = length-append k.early (k.f ∷ k.late) in
        absurd (omega (arith, later, first, size, parts))) in
        let place : BeginsWith s.before (compound k.took.xid o.name (OnSlot k.asked (number + 1) o.call)) upto = begins_with s.before (compound k.took.xid o.name (OnSlot k.asked (number + 1) o.call)) s.behind upto tail (sym s.is ∙ is) sent in
        let inside : HasItem upto (compound k.took.xid o.name (OnSlot k.asked (number + 1) o.call)) =
        subst (λ (h : List HistoryItem). HasItem h (compound k.took.xid o.name (OnSlot k.asked (number + 1) o.call))) (sym place.is) (has_middle s.before place.more (compound k.took.xid o.name (OnSlot k.asked (number + 1) o.call))) in
        by_place q at k.asked k.its k.took.xid o.name o.call
        (is_in told.before (compound xid name (OnSlot session number c)) (told.until ++ hearing_from Mds told.bytes told.now ∷ []) (compound k.took.xid o.name (OnSlot k.asked (number + 1) o.call))
        (subst (λ (h : List HistoryItem). HasItem h (compound k.took.xid o.name (OnSlot k.asked (number + 1) o.call))) told.split inside))
      where
        by_place : (q : List HistoryItem) (at : items_in l.steps ≡ told.before ++ compound xid name (OnSlot session number c) ∷ q) (asked : SessionId) (same : is_of_session session asked ≡ true) (own : ℕ) (other : List ℕ) (d : SlotCallValue)
            → IsIn told.before (compound xid name (OnSlot session number c)) (told.until ++ hearing_from Mds told.bytes told.now ∷ []) (compound own other (OnSlot asked (number + 1) d)) → ⊥
        by_place q at asked same own other d (Front has) =
            none_asked laws.sessions boots w run t few range roomy starts n l its told.before q xid name session number c at
            (asked_round laws.sessions boots w run t few range roomy starts n l its upto tail is session number xid name c says [] told) own other asked d has same
        by_place q at asked same own other d (This one) = other_number own xid other name asked session number d c one
        by_place q at asked same own other d (Back has) = by_end (in_either told.until (hearing_from Mds told.bytes told.now ∷ []) (compound own other (OnSlot asked (number + 1) d)) has)
          where
            by_end : HasItem told.until (compound own other (OnSlot asked (number + 1) d)) ⊎ HasItem (hearing_from Mds told.bytes told.now ∷ []) (compound own other (OnSlot asked (number + 1) d)) → ⊥
            by_end (inl between) = no_compound told.until quiet own other (OnSlot asked (number + 1) d) between
            by_end (inr (inl last)) = not_heard own other (OnSlot asked (number + 1) d) told.bytes told.now last.0
            by_end (inr (inr none)) = none

    pub not_misordered : IsRefusedWith t.mds.servers t.mds.mirrors came session number stat.SeqMisordered → ⊥
    not_misordered refused =
        refused_not laws.sessions boots w run t few range roomy starts n l its upto tail is session number xid name c says [] told
        (λ most. none_later (laws.sessions.taken t.mds.servers t.mds.mirrors came since (fits_first laws.sessions boots w run t few range roomy starts came since split_there) (room_first laws.sessions boots w run t few range roomy starts came since split_there) session
        (number + 1) (omega arith) most)) refused
