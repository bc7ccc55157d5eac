-- Answers of the metadata server.
use Rattle.client_laws.specs.RecallLaws.{WasRecalled}
use Rattle.client_laws.proofs.Splits.{StandsBefore, split_before}
use Rattle.std.proofs.lemmas.List.{append_assoc}
use Rattle.cluster_model.specs.declared.entry.Entry.TheVariants.{Sent}
use Rattle.cluster_model.specs.declared.ids.FileId.{FileId}
use Rattle.std.proofs.Common.{◌≡◌, ℕ, Bool, true, false, List, [], ◌∷◌, ◌++◌, Option, Some, None, refl, sym, ap, subst, ◌∙◌, inl, inr, ◌⊎◌}
use Rattle.std.specs.Prelude.{slice_get, Ok, ◌==◌, ◌&&◌, if◌then◌else◌}
use Rattle.std.proofs.lemmas.Option.{none-some, same_Some}
use Rattle.rpc_record.specs.Replies.{RpcReply, reply_at}
use Rattle.cluster_model.specs.declared.ids.NodeId.TheVariants.{Mds}
use Rattle.mirror_writer.specs.declared.call.TakenWrite.{TakenWrite}
use Rattle.client_file_calls.specs.declared.open.OpenFile.{OpenFile}
use Rattle.client_file_calls.specs.declared.grant.LayoutGrant.{LayoutGrant}
use Rattle.client_mds_calls.specs.declared.ask.MdsAsk.{MdsAsk}
use Rattle.client_mds_calls.specs.declared.ask.MdsAsk.TheVariants as ask
use Rattle.client_mds_calls.specs.declared.reply.SlotReport.{SlotReport}
use Rattle.client_mds_calls.specs.declared.reply.SlotReport.TheVariants.{Taken, Uncached, Delayed, Unknown}
use Rattle.client_mds_calls.specs.FittingCalls.{reports_server}
use Rattle.client_mds_calls.specs.MdsCalls.{MdsCallValue, OnSlot}
use Rattle.client_mds_calls.specs.MdsCalls as slot
use Rattle.client_mds_calls.specs.MdsReplies.{MdsAnswerValue, Client, Session, Complete, Opened, Granted, Devices, Written, Bytes, Returned, Renewed, Refused, MdsReplyValue, reply_of_ask}
use Rattle.client_state.specs.declared.stage.LayoutStage.TheVariants.{Returning}
use Rattle.client_state.specs.declared.request.UserRequest.{UserRequest}
use Rattle.client_state.specs.declared.layout.Layout.{Layout}
use Rattle.client_state.specs.declared.asked.Asked.{Asked}
use Rattle.client_state.specs.declared.tie.Tie.{Tie}
use Rattle.client_state.specs.ClientStates.{ClientValue, ClientRun, unmoved, ends_as, as_new, is_layout_return}
use Rattle.client_state.specs.ClientQueue.{revoked_layout}
use Rattle.client_state.specs.ClientSends.{CallsMds, RepliesToMds}
use Rattle.client_answers.specs.ClientAnswers.{next_on_slot, without_head, new_layout, learns_devices, layout_returned, head_refused, has_session, deferred, defers, after_refusal, refused_otherwise, is_for_later, asks_later, session_lost, refused_by_mds, by_answer, delayed, mds_answered}
use Rattle.client_laws.specs.ClientHistory.{HistoryItem, Hears, Sends, Recorded, HasItem, InOrder, entered, Enters}
use Rattle.client_laws.specs.ClientRunLaws.{IsReplied, WasCovered, CoveredByReturn}
use Rattle.client_laws.proofs.Orders.{in_next, in_either, in_end}
use Rattle.client_laws.proofs.Later.{numbers_later, layout_later, there_later, covered_next, all_replied_later, stands_later, under_later, every_append, not_replied}
use Rattle.client_laws.proofs.GrantFacts.{granted_kind, granted_few, returned_kind}
use Rattle.client_laws.proofs.LayoutMoves.{new_stands, deferred_stands}
use Rattle.client_laws.proofs.Goes.{RunGoes, run_unmoved, with_layout_stands}
use Rattle.client_laws.proofs.QueueGoes.{answer_goes}
use Rattle.client_laws.proofs.Tells.{MayTellWrite, tells_go}
use Rattle.client_laws.proofs.DsGoes.{revoked_goes, IsNotGetting}
use Rattle.client_laws.proofs.Stands.{Every, NumbersStand, StandsOf, Stands, LayoutStands, AskFits, AskOut, GetsLayout, GivesLayout, ReturnOut, IfThere, IsOut, reported_of, TakenUnder, QuietItem}

-- ---- nothing is out, and nothing goes out anew

-- each compound was replied to
abbrev pub AllReplied : List HistoryItem → Type 0
AllReplied past = (xid : ℕ) (name : List ℕ) (call : MdsCallValue) → HasItem past (Sends (CallsMds xid name call)) → IsReplied past xid name call

-- what stands then, whatever the layout
pub record FreeOf (past : List HistoryItem) (next : ℕ) : Type 0 where
  pub numbers : NumbersStand past next
  pub replied : AllReplied past
  pub under : (file : FileId) (cred at : ℕ) (bytes : List ℕ) → HasItem past (Enters (Sent file (record { 0 = cred }) at bytes)) → TakenUnder past cred file at bytes

free_stands : (past : List HistoryItem) (name : List ℕ) (next : ℕ) (layout : Option Layout) → FreeOf past next → IfThere layout (λ l. LayoutStands past name (reports_server (reported_of l)) l) → StandsOf past name next layout None None
free_stands past name next layout free stands = record {
  numbers = free.numbers;
  replied = λ xid caller call i. inr (free.replied xid caller call i);
  asked_out = tt;
  alone = tt;
  layout_stands = stands;
  taken_under = free.under;
  gets_again = λ is. absurd (none-some _ is);
  returns_again = λ is. absurd (none-some _ is);
}

-- behind a run that ends with nothing out
stands_free : (past : List HistoryItem) (name : List ℕ) (next : ℕ) (layout : Option Layout) (again : Option MdsAsk) → StandsOf past name next layout None again → FreeOf past next
stands_free past name next layout again s = record { numbers = s.numbers; replied = λ xid caller call i. by_way xid caller call (s.replied xid caller call i); under = s.taken_under }
  where
    by_way : (xid : ℕ) (caller : List ℕ) (call : MdsCallValue) → IsOut None xid ⊎ IsReplied past xid caller call → IsReplied past xid caller call
    by_way xid caller call (inl out) = absurd out
    by_way xid caller call (inr r) = r

-- the client is as new
new_goes : (past : List HistoryItem) (r : ClientRun) → r.client.asked ≡ None → RunGoes past r → RunGoes past (ends_as r as_new)
new_goes past r none g = record {
  entries = g.entries;
  stands = free_stands (past ++ entered r.entries) r.client.name r.client.next_xid None (stands_free (past ++ entered r.entries) r.client.name r.client.next_xid r.client.layout r.client.again (subst (λ (o : Option Asked). StandsOf (past ++ entered r.entries) r.client.name r.client.next_xid r.client.layout o r.client.again) none g.stands)) tt;
}

-- ---- it is refused

module _ (past : List HistoryItem) (c : ClientValue) (out : c.asked ≡ None) (no_again : c.again ≡ None) (s : Stands past c) where
  free : FreeOf past c.next_xid
  free = stands_free past c.name c.next_xid c.layout c.again (subst (λ (o : Option Asked). StandsOf past c.name c.next_xid c.layout o c.again) out s)

  -- with another layout
  with_new : (layout : Option Layout) → IfThere layout (λ l. LayoutStands past c.name (reports_server (reported_of l)) l) → StandsOf past c.name c.next_xid layout c.asked c.again
  with_new layout stands =
      subst (λ (o : Option Asked). StandsOf past c.name c.next_xid layout o c.again) (sym out)
      (subst (λ (o : Option MdsAsk). StandsOf past c.name c.next_xid layout None o) (sym no_again) (free_stands past c.name c.next_xid layout free stands))

  defer_stands : (layout : Option Layout) → c.layout ≡ layout → IfThere (deferred layout) (λ l. LayoutStands past c.name (reports_server (reported_of l)) l)
  defer_stands None at = tt
  defer_stands (Some l) at = deferred_stands past c.name (reports_server (reported_of l)) l (subst (λ (o : Option Layout). IfThere o (λ l. LayoutStands past c.name (reports_server (reported_of l)) l)) at s.layout_stands)

  defers_stands : (kind : MdsAsk) → Stands past (defers kind c)
  defers_stands ask.LayoutReturn = with_new (deferred c.layout) (defer_stands c.layout refl)
  defers_stands ask.LayoutGet = s
  defers_stands ask.ExchangeId = s
  defers_stands ask.CreateSession = s
  defers_stands ask.ReclaimComplete = s
  defers_stands ask.Open = s
  defers_stands (ask.DeviceInfo count) = s
  defers_stands ask.Write = s
  defers_stands (ask.Read at count) = s
  defers_stands ask.Renew = s

  later_stands : (kind : MdsAsk) → Stands past (asks_later kind c)
  later_stands ask.LayoutReturn = with_new (deferred c.layout) (defer_stands c.layout refl)
  later_stands ask.Renew = s
  later_stands ask.LayoutGet = s
  later_stands ask.ExchangeId = s
  later_stands ask.CreateSession = s
  later_stands ask.ReclaimComplete = s
  later_stands ask.Open = s
  later_stands (ask.DeviceInfo count) = s
  later_stands ask.Write = s
  later_stands (ask.Read at count) = s

  new_stands_so : Stands past (as_new c)
  new_stands_so = free_stands past c.name c.next_xid None free tt

  after_refusal_stands : (kind : MdsAsk) → Stands past (after_refusal kind c)
  after_refusal_stands kind = by_test (has_session c.tie)
    where
      by_test : (b : Bool) → Stands past (if b then defers kind c else as_new c)
      by_test true = defers_stands kind
      by_test false = new_stands_so

pub record Refuses (past : List HistoryItem) (r : ClientRun) : Type 0 where
  pub goes : RunGoes past r
  pub asked : r.client.asked ≡ None
  pub again : r.client.again ≡ None

head_refused_goes : (past : List HistoryItem) (status : ℕ) (queue : List UserRequest) (c : ClientValue) → c.asked ≡ None → c.again ≡ None → Stands past c → Refuses past (head_refused status queue c)
head_refused_goes past status [] c out none s = record { goes = run_unmoved past c s; asked = out; again = none }
head_refused_goes past status (request ∷ rest) c out none s = record { goes = answer_goes past _ (without_head c) s tt; asked = out; again = none }

otherwise_goes : (past : List HistoryItem) (kind : MdsAsk) (status : ℕ) (c : ClientValue) → c.asked ≡ None → c.again ≡ None → Stands past c → RunGoes past (refused_otherwise kind status c)
otherwise_goes past kind status c out none s =
    let r : Refuses past (head_refused status c.queue c) = head_refused_goes past status c.queue c out none s in
    record {
      entries = r.goes.entries;
      stands = after_refusal_stands (past ++ entered (head_refused status c.queue c).entries) (head_refused status c.queue c).client r.asked r.again r.goes.stands kind;
    }

nothing_asked : (asked : Option Asked) → asked ≡ None → IsNotGetting asked
nothing_asked asked is = subst IsNotGetting (sym is) tt

session_lost_goes : (past : List HistoryItem) (layout : Option Layout) (c : ClientValue) → c.asked ≡ None → c.again ≡ None → Stands past c → RunGoes past (session_lost layout c)
session_lost_goes past None c out none s =
    let r : Refuses past (head_refused 10052 c.queue c) = head_refused_goes past 10052 c.queue c out none s in new_goes past (head_refused 10052 c.queue c) r.asked r.goes
session_lost_goes past (Some l) c out none s = new_goes past (revoked_layout c) out (revoked_goes past c s (nothing_asked c.asked out))

refused_goes : (past : List HistoryItem) (kind : MdsAsk) (status : ℕ) (c : ClientValue) → c.asked ≡ None → c.again ≡ None → Stands past c → RunGoes past (refused_by_mds kind status c)
refused_goes past kind status c out none s = by_tests (status == 10052) (is_for_later status) ((status == 10025) && is_layout_return kind)
  where
    by_tests : (a b d : Bool) → RunGoes past (if a then session_lost c.layout c else if b then unmoved (asks_later kind c) else if d then revoked_layout c else refused_otherwise kind status c)
    by_tests true b d = session_lost_goes past c.layout c out none s
    by_tests false true d = run_unmoved past (asks_later kind c) (later_stands past c out none s kind)
    by_tests false false true = revoked_goes past c s (nothing_asked c.asked out)
    by_tests false false false = otherwise_goes past kind status c out none s

-- ---- an answer

-- a LAYOUTRETURN, which was this call, is accepted; and what it says of a write
pub record ReturnAccepted (past : List HistoryItem) (call : MdsCallValue) (grant : LayoutGrant) (at : ℕ) (data_of : List ℕ) : Type 0 where
  pub by_return : CoveredByReturn past grant at data_of
  pub call_is : call ≡ OnSlot by_return.session by_return.sequence (slot.LayoutReturn by_return.file grant.stateid by_return.failed)

module _ (h : List HistoryItem) (c : ClientValue) (s : Stands h c) (a : Asked) (at : c.asked ≡ Some a) (bytes : List ℕ) (now : ℕ) (reply : RpcReply) (reply_is : reply_at bytes ≡ Ok reply) (number : a.xid ≡ reply.xid) where
  abbrev item : HistoryItem
  item = Hears (Recorded Mds bytes now)

  abbrev past : List HistoryItem
  past = h ++ Hears (Recorded Mds bytes now) ∷ []

  pub its_ask : AskOut h c.name c.layout a
  its_ask = subst (λ (o : Option Asked). IfThere o (AskOut h c.name c.layout)) at s.asked_out

  no_again : c.again ≡ None
  no_again = subst (λ (o : Option Asked). IfThere o (λ k. c.again ≡ None)) at s.alone

  all_replied : AllReplied (h ++ Hears (Recorded Mds bytes now) ∷ [])
  all_replied xid name call i = by_way (all_replied_later h (item ∷ []) c.asked (tt, tt) s.replied xid name call i) (before i)
    where
      before : HasItem (h ++ Hears (Recorded Mds bytes now) ∷ []) (Sends (CallsMds xid name call)) → HasItem h (Sends (CallsMds xid name call))
      before i = by_place (in_either h (item ∷ []) (Sends (CallsMds xid name call)) i)
        where
          by_place : HasItem h (Sends (CallsMds xid name call)) ⊎ HasItem (item ∷ []) (Sends (CallsMds xid name call)) → HasItem h (Sends (CallsMds xid name call))
          by_place (inl i) = i
          by_place (inr (inl (same, rest))) = absurd (cc (same))
          by_place (inr (inr i)) = absurd i

      by_way : IsOut c.asked xid ⊎ IsReplied (h ++ Hears (Recorded Mds bytes now) ∷ []) xid name call → HasItem h (Sends (CallsMds xid name call)) → IsReplied (h ++ Hears (Recorded Mds bytes now) ∷ []) xid name call
      by_way (inl is) i =
          let same : a.xid ≡ xid = subst (λ (o : Option Asked). IsOut o xid) at is in
          record { bytes = bytes; now = now; reply = reply; reply_is = reply_is; number = sym number ∙ same; order = in_next (Sends (CallsMds xid name call) ∷ []) h item i }
      by_way (inr r) i = r

  free_now : FreeOf (h ++ Hears (Recorded Mds bytes now) ∷ []) c.next_xid
  free_now = record { numbers = numbers_later h (item ∷ []) c.next_xid (tt, tt) s.numbers; replied = all_replied; under = under_later h (item ∷ []) (tt, tt) s.taken_under }

  pub layout_now : IfThere c.layout (λ l. LayoutStands (h ++ Hears (Recorded Mds bytes now) ∷ []) c.name (reports_server (reported_of l)) l)
  layout_now = there_later c.layout (λ l. LayoutStands h c.name (reports_server (reported_of l)) l) (λ l. LayoutStands (h ++ item ∷ []) c.name (reports_server (reported_of l)) l) (λ l. layout_later h (item ∷ []) c.name (reports_server (reported_of l)) l (tt, tt) (tt, tt)) s.layout_stands

  -- nothing is out now
  with_layout_now : (layout : Option Layout) → IfThere layout (λ l. LayoutStands (h ++ Hears (Recorded Mds bytes now) ∷ []) c.name (reports_server (reported_of l)) l) → StandsOf (h ++ Hears (Recorded Mds bytes now) ∷ []) c.name c.next_xid layout None c.again
  with_layout_now layout stands = subst (λ (o : Option MdsAsk). StandsOf past c.name c.next_xid layout None o) (sym no_again) (free_stands past c.name c.next_xid layout free_now stands)

  without_now : StandsOf (h ++ Hears (Recorded Mds bytes now) ∷ []) c.name c.next_xid c.layout None c.again
  without_now = with_layout_now c.layout layout_now

  fits_of : (kind : MdsAsk) → a.ask ≡ kind → AskFits h (Sends (CallsMds a.xid c.name its_ask.call)) c.layout its_ask.call kind
  fits_of kind is = subst (AskFits h (Sends (CallsMds a.xid c.name its_ask.call)) c.layout its_ask.call) is its_ask.fits

  -- a layout is granted
  gets_layout : (g : LayoutGrant) → (reply_of_ask a.ask reply).answer ≡ Granted g → GetsLayout h (Sends (CallsMds a.xid c.name its_ask.call)) c.layout its_ask.call
  gets_layout g says = fits_of ask.LayoutGet (granted_kind a.ask reply g says)

  granted_stands : (g : LayoutGrant) → (reply_of_ask a.ask reply).answer ≡ Granted g → LayoutStands (h ++ Hears (Recorded Mds bytes now) ∷ []) c.name (reports_server (reported_of (new_layout g))) (new_layout g)
  granted_stands g says =
      let gets : GetsLayout h (Sends (CallsMds a.xid c.name its_ask.call)) c.layout its_ask.call = gets_layout g says in
      new_stands past c.name g
      (record {
        before = gets.before;
        since = gets.since ++ item ∷ [];
        xid = a.xid;
        name = c.name;
        session = gets.session;
        sequence = gets.sequence;
        file = gets.file;
        bytes = bytes;
        now = now;
        split = subst (λ (k : MdsCallValue). past ≡ gets.before ++ Sends (CallsMds a.xid c.name k) ∷ (gets.since ++ item ∷ [])) gets.is
            (ap (λ l. l ++ item ∷ []) gets.split ∙ append_assoc gets.before (Sends (CallsMds a.xid c.name its_ask.call) ∷ gets.since) (item ∷ []));
        heard = in_end gets.since item;
        says = record { reply = reply; reply_is = reply_is; number = sym number; says_so = ap (λ k. (reply_of_ask k reply).answer) (sym (granted_kind a.ask reply g says)) ∙ says };
      }) (every_append QuietItem gets.since (item ∷ []) gets.quiet (tt, tt)) (λ r.
      (let b : StandsBefore gets.since r.items (Sends (RepliesToMds r.reply)) = split_before gets.since (item ∷ []) r.items r.behind (Sends (RepliesToMds r.reply)) r.split (not_replied (item ∷ []) r.reply (tt, tt)) in
      gets.unrecalled r.items b.behind r.reply g.stateid.other b.split (subst (λ (k : MdsCallValue). WasRecalled (gets.before ++ Sends (CallsMds a.xid c.name k) ∷ r.items) r.reply g.stateid.other) (sym gets.is) r.recalled))) (granted_few a.ask reply g says)

  -- a return is accepted: what it reports, and what is covered elsewhere
  pub returned_covered : (l : Layout) → c.layout ≡ Some l → (reply_of_ask a.ask reply).answer ≡ Returned → (old : LayoutStands (h ++ Hears (Recorded Mds bytes now) ∷ []) c.name (reports_server (reported_of l)) l) (n : ℕ) (t : TakenWrite) → slice_get l.writer.taken n ≡ Some t
      → ReturnAccepted (h ++ Hears (Recorded Mds bytes now) ∷ []) its_ask.call old.grant t.at t.bytes
  returned_covered l there says old n t is =
      let kind : a.ask ≡ ask.LayoutReturn = returned_kind a.ask reply says in
      let gives : GivesLayout h (Sends (CallsMds a.xid c.name its_ask.call)) c.layout its_ask.call = fits_of ask.LayoutReturn kind in
      let out : ReturnOut h (Sends (CallsMds a.xid c.name its_ask.call)) gives.stateid gives.failed l = subst (λ (o : Option Layout). IfThere o (ReturnOut h (Sends (CallsMds a.xid c.name its_ask.call)) gives.stateid gives.failed)) there gives.out in
      let its : its_ask.call ≡ OnSlot gives.session gives.sequence (slot.LayoutReturn gives.file old.grant.stateid gives.failed) = gives.is ∙ ap (λ k. OnSlot gives.session gives.sequence (slot.LayoutReturn gives.file k gives.failed)) (out.its_stateid ∙ old.stateid) in
      record {
        by_return = record {
          xid = a.xid;
          name = c.name;
          session = gives.session;
          sequence = gives.sequence;
          file = gives.file;
          failed = gives.failed;
          bytes = bytes;
          now = now;
          says = record { reply = reply; reply_is = reply_is; number = sym number; says_so = ap (λ k. (reply_of_ask k reply).answer) (sym kind) ∙ says };
          order = subst (λ (k : MdsCallValue). InOrder (Sends (CallsMds a.xid c.name k) ∷ item ∷ []) past) its (in_next (Sends (CallsMds a.xid c.name its_ask.call) ∷ []) h item its_ask.sent);
          covered = λ place m found not_so.
              subst (λ (k : MdsCallValue). WasCovered past m.id old.grant.uid.0 t.at t.bytes (Sends (CallsMds a.xid c.name k) ∷ item ∷ [])) its
              (subst (λ (k : ℕ). WasCovered past m.id k t.at t.bytes (Sends (CallsMds a.xid c.name its_ask.call) ∷ item ∷ [])) old.uid
              (covered_next h item m.id l.writer.cred t.at t.bytes (Sends (CallsMds a.xid c.name its_ask.call) ∷ []) (out.covered n t is place m (ap (λ k. slice_get k place) old.mirrors ∙ found) not_so)));
        };
        call_is = its;
      }

  returned_tells : (l : Layout) → c.layout ≡ Some l → (reply_of_ask a.ask reply).answer ≡ Returned → (n : ℕ) → MayTellWrite (h ++ Hears (Recorded Mds bytes now) ∷ []) l.writer n
  returned_tells l there says n t is =
      let old : LayoutStands past c.name (reports_server (reported_of l)) l = subst (λ (o : Option Layout). IfThere o (λ l. LayoutStands past c.name (reports_server (reported_of l)) l)) there layout_now in
      record {
        grant = old.grant;
        granted = old.granted;
        its_uid = sym old.uid;
        taken = old.entered n t is;
        covered = inr (returned_covered l there says old n t is).by_return;
      }

  every_tells : (l : Layout) → c.layout ≡ Some l → (reply_of_ask a.ask reply).answer ≡ Returned → (ns : List ℕ) → Every (MayTellWrite (h ++ Hears (Recorded Mds bytes now) ∷ []) l.writer) ns
  every_tells l there says [] = tt
  every_tells l there says (n ∷ ns) = (returned_tells l there says n, every_tells l there says ns)

  returned_goes : (d : ClientValue) → d.name ≡ c.name → d.next_xid ≡ c.next_xid → d.asked ≡ None → d.again ≡ c.again → (file : Option OpenFile) (layout : Option Layout) → c.layout ≡ layout → d.layout ≡ layout → Stands past d
      → (reply_of_ask a.ask reply).answer ≡ Returned → RunGoes (h ++ Hears (Recorded Mds bytes now) ∷ []) (layout_returned file layout d)
  returned_goes d name next asked again (Some file) (Some l) there its stands says = tells_go past file l.writer l.untold (record d { layout = None }) (every_tells l there says l.untold) (with_layout_stands past d None stands tt tt)
  returned_goes d name next asked again (Some file) None there its stands says = run_unmoved past d stands
  returned_goes d name next asked again None layout there its stands says = run_unmoved past d stands

  -- what an answer comes to, once nothing is out
  answer_comes : (tie : Tie) (says : MdsAnswerValue) → (reply_of_ask a.ask reply).answer ≡ says → RunGoes (h ++ Hears (Recorded Mds bytes now) ∷ []) (by_answer a.ask says (record c { tie = tie; asked = None }))
  answer_comes tie (Refused status) is = refused_goes past a.ask status (record c { tie = tie; asked = None }) refl no_again without_now
  answer_comes tie (Client clientid sequence) is = run_unmoved past _ without_now
  answer_comes tie (Session session) is = run_unmoved past _ without_now
  answer_comes tie Complete is = run_unmoved past _ without_now
  answer_comes tie (Opened file) is = answer_goes past _ (record (without_head (record c { tie = tie; asked = None })) { file = Some file }) without_now tt
  answer_comes tie (Granted g) is = run_unmoved past (record c { tie = tie; asked = None; layout = Some (new_layout g) }) (with_layout_now (Some (new_layout g)) (granted_stands g is))
  answer_comes tie (Devices addresses) is = by_layout c.layout refl
    where
      by_layout : (layout : Option Layout) → c.layout ≡ layout → RunGoes (h ++ Hears (Recorded Mds bytes now) ∷ []) (unmoved (learns_devices layout addresses (record c { tie = tie; asked = None })))
      by_layout None at = run_unmoved past _ without_now
      by_layout (Some l) at = run_unmoved past _ without_now
  answer_comes tie Written is = answer_goes past _ (without_head (record c { tie = tie; asked = None })) without_now tt
  answer_comes tie (Bytes eof data_of) is = answer_goes past _ (without_head (record c { tie = tie; asked = None })) without_now tt
  answer_comes tie Returned is = returned_goes (record c { tie = tie; asked = None }) refl refl refl refl c.file c.layout refl refl without_now is
  answer_comes tie Renewed is = run_unmoved past _ without_now

  -- the same goes out anew
  anew_stands : StandsOf (h ++ Hears (Recorded Mds bytes now) ∷ []) c.name c.next_xid c.layout None (Some a.ask)
  anew_stands = record {
    numbers = free_now.numbers;
    replied = λ xid caller call i. inr (all_replied xid caller call i);
    asked_out = tt;
    alone = tt;
    layout_stands = layout_now;
    taken_under = free_now.under;
    gets_again = λ is. no_layout (fits_of ask.LayoutGet (same_Some a.ask ask.LayoutGet is));
    returns_again = λ is. stage_of (fits_of ask.LayoutReturn (same_Some a.ask ask.LayoutReturn is)) c.layout refl;
  }
    where
      no_layout : GetsLayout h (Sends (CallsMds a.xid c.name its_ask.call)) c.layout its_ask.call → c.layout ≡ None
      no_layout g = g.no_layout

      stage_of : GivesLayout h (Sends (CallsMds a.xid c.name its_ask.call)) c.layout its_ask.call → (layout : Option Layout) → c.layout ≡ layout → IfThere layout (λ l. l.stage ≡ Returning)
      stage_of g None there = tt
      stage_of g (Some l) there = (subst (λ (o : Option Layout). IfThere o (ReturnOut h (Sends (CallsMds a.xid c.name its_ask.call)) g.stateid g.failed)) there g.out).stage

  -- the same record goes out again
  delayed_stands : (asked : Option Asked) → c.asked ≡ asked → Stands (h ++ Hears (Recorded Mds bytes now) ∷ []) c → StandsOf (h ++ Hears (Recorded Mds bytes now) ∷ []) c.name c.next_xid c.layout (delayed asked) c.again
  delayed_stands None is stands = subst (λ (o : Option Asked). StandsOf past c.name c.next_xid c.layout o c.again) is stands
  delayed_stands (Some b) is stands =
      let k : StandsOf past c.name c.next_xid c.layout (Some b) c.again = subst (λ (o : Option Asked). StandsOf past c.name c.next_xid c.layout o c.again) is stands in
      record {
        numbers = k.numbers;
        replied = k.replied;
        asked_out = record { call = k.asked_out.call; sent = k.asked_out.sent; fits = k.asked_out.fits };
        alone = k.alone;
        layout_stands = k.layout_stands;
        taken_under = k.taken_under;
        gets_again = k.gets_again;
        returns_again = k.returns_again;
      }

  pub mds_answer_goes : RunGoes (h ++ Hears (Recorded Mds bytes now) ∷ []) (mds_answered a.ask (reply_of_ask a.ask reply) now c)
  mds_answer_goes = by_slot (reply_of_ask a.ask reply) refl
    where
      by_report : (answer : MdsAnswerValue) → (reply_of_ask a.ask reply).answer ≡ answer → (report : SlotReport) → RunGoes (h ++ Hears (Recorded Mds bytes now) ∷ []) (mds_answered a.ask (record { slot = report; answer = answer }) now c)
      by_report answer is Taken = answer_comes (next_on_slot now c).tie answer is
      by_report answer is Unknown = answer_comes c.tie answer is
      by_report answer is Uncached = run_unmoved past _ anew_stands
      by_report answer is Delayed = run_unmoved past _ (delayed_stands c.asked refl (stands_later h (item ∷ []) c (tt, tt) s))

      by_slot : (r : MdsReplyValue) → reply_of_ask a.ask reply ≡ r → RunGoes (h ++ Hears (Recorded Mds bytes now) ∷ []) (mds_answered a.ask r now c)
      by_slot r is = by_report r.answer (ap (λ k. k.answer) is) r.slot
