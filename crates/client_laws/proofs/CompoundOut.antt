-- The compound that goes out at the end of an event.
use Rattle.client_laws.proofs.Splits.{not_empty}
use Rattle.std.proofs.Common.{◌≡◌, ◌≢◌, ℕ, Bool, true, false, List, [], ◌∷◌, ◌++◌, Option, Some, None, refl, sym, ap, subst, ◌∙◌, inl, inr, ◌⊎◌}
use Rattle.std.specs.Prelude.{slice_get, not, ◌==◌, ◌&&◌, if◌then◌else◌}
use Rattle.std.specs.Option.{option_or}
use Rattle.std.proofs.lemmas.Option.{none-some, same_Some}
use Rattle.nfs4_types.specs.declared.ids.SessionId.{SessionId}
use Rattle.cluster_model.specs.declared.ids.FileId.{FileId}
use Rattle.cluster_model.specs.declared.ids.Mirror.{Mirror}
use Rattle.cluster_model.specs.declared.entry.Entry.TheVariants.{Sent, Answer}
use Rattle.cluster_model.specs.declared.answer.UserAnswer.TheVariants as answer
use Rattle.cluster_model.specs.declared.answer.FailCause.TheVariants as failing
use Rattle.client_file_calls.specs.declared.open.OpenFile.{OpenFile}
use Rattle.client_mds_calls.specs.declared.ask.MdsAsk.{MdsAsk}
use Rattle.client_mds_calls.specs.declared.ask.MdsAsk.TheVariants as ask
use Rattle.client_mds_calls.specs.FittingCalls.{reports_server}
use Rattle.client_mds_calls.specs.MdsCalls.{MdsCallValue, ExchangeId, CreateSession, OnSlot, SlotCallValue}
use Rattle.client_mds_calls.specs.MdsCalls as slot
use Rattle.client_state.specs.declared.stage.LayoutStage.TheVariants.{Returning}
use Rattle.client_state.specs.declared.request.UserRequest.{UserRequest}
use Rattle.client_state.specs.declared.request.UserRequest.TheVariants.{Open, Write, Through, Commit, Read, Return}
use Rattle.client_state.specs.declared.layout.Layout.{Layout}
use Rattle.client_state.specs.declared.asked.Asked.{Asked}
use Rattle.client_state.specs.declared.tie.Tie.{Tie}
use Rattle.client_state.specs.declared.tie.Tie.TheVariants.{NoClient, HasClient, HasSession}
use Rattle.client_state.specs.ClientStates.{ClientValue, is_layout_return}
use Rattle.client_state.specs.ClientSends.{CallsMds, sends_none, RepliesToMds}
use Rattle.client_calls.specs.ClientCalls.{is_ending, is_settled, return_ask, due_ask, failed_mirrors, open_call, through_call, devices_call, file_call, on_slot, session_call, call_by_ask, returning, layout_asked, asks_as, asks, may_ask, calls_mds, calls_mirrors, calls_all}
use Rattle.client_laws.specs.ClientHistory.{HistoryItem, Enters, Sends, HasItem, sent}
use Rattle.client_laws.specs.ClientRunLaws.{IsReplied, WasCovered, MayReturn, ReturnsOnSlot, ReturnsCall}
use Rattle.client_laws.proofs.Orders.{in_either, in_end}
use Rattle.client_laws.proofs.Later.{numbers_next, replied_later, layout_later, there_later, covered_next, layout_given, under_later}
use Rattle.client_laws.proofs.Goes.{CallsGo, calls_none, calls_then}
use Rattle.client_laws.proofs.CallsOut.{mirrors_go, settled_covered, is_settled_so, mirrors_none}
use Rattle.client_laws.proofs.Stands.{Stands, LayoutStands, GetsLayout, GivesLayout, AskFits, IfThere, IsOut, IsSettled, reported_of, QuietSlot, QuietCall}

-- ---- what a call is by what is asked

pub record IsOnSlot (o : Option SlotCallValue) (call : MdsCallValue) : Type 0 where
  pub session : SessionId
  pub sequence : ℕ
  pub its : SlotCallValue
  pub there : o ≡ Some its
  pub is : call ≡ OnSlot session sequence its

on_slot_so : (tie : Tie) (o : Option SlotCallValue) (call : MdsCallValue) → on_slot tie o ≡ Some call → IsOnSlot o call
on_slot_so NoClient o call is = absurd (none-some call is)
on_slot_so (HasClient clientid sequence) o call is = absurd (none-some call is)
on_slot_so (HasSession s) None call is = absurd (none-some call is)
on_slot_so (HasSession s) (Some k) call is = record { session = s.id; sequence = s.next; its = k; there = refl; is = sym (same_Some _ call is) }

open_no_return : (queue : List UserRequest) (call : SlotCallValue) → open_call queue ≡ Some call → QuietSlot call
open_no_return [] call is = absurd (none-some call is)
open_no_return (Open name ∷ rest) call is = subst QuietSlot (same_Some _ call is) tt
open_no_return (Write at bytes ∷ rest) call is = absurd (none-some call is)
open_no_return (Through at bytes ∷ rest) call is = absurd (none-some call is)
open_no_return (Commit ∷ rest) call is = absurd (none-some call is)
open_no_return (Read at count ∷ rest) call is = absurd (none-some call is)
open_no_return (Return ∷ rest) call is = absurd (none-some call is)

through_no_return : (file : OpenFile) (queue : List UserRequest) (call : SlotCallValue) → through_call file queue ≡ Some call → QuietSlot call
through_no_return file [] call is = absurd (none-some call is)
through_no_return file (Through at bytes ∷ rest) call is = subst QuietSlot (same_Some _ call is) tt
through_no_return file (Write at bytes ∷ rest) call is = absurd (none-some call is)
through_no_return file (Open name ∷ rest) call is = absurd (none-some call is)
through_no_return file (Commit ∷ rest) call is = absurd (none-some call is)
through_no_return file (Read at count ∷ rest) call is = absurd (none-some call is)
through_no_return file (Return ∷ rest) call is = absurd (none-some call is)

devices_no_return : (c : ClientValue) (layout : Option Layout) (call : SlotCallValue) → devices_call c layout ≡ Some call → QuietSlot call
devices_no_return c None call is = absurd (none-some call is)
devices_no_return c (Some l) call is = subst QuietSlot (same_Some _ call is) tt

right_on_slot : (past : List HistoryItem) (call : SlotCallValue) → QuietSlot call → ReturnsOnSlot past call
right_on_slot past (slot.LayoutReturn file stateid failed) quiet = absurd quiet
right_on_slot past slot.ReclaimComplete quiet = tt
right_on_slot past (slot.Open name) quiet = tt
right_on_slot past (slot.LayoutGet file) quiet = tt
right_on_slot past (slot.DeviceInfo servers) quiet = tt
right_on_slot past (slot.Write file at bytes) quiet = tt
right_on_slot past (slot.Read file at count) quiet = tt
right_on_slot past slot.Renew quiet = tt

right_call : (past : List HistoryItem) (call : MdsCallValue) → QuietCall call → ReturnsCall past call
right_call past (OnSlot session sequence call) quiet = right_on_slot past call quiet
right_call past (ExchangeId verifier) quiet = tt
right_call past (CreateSession clientid sequence) quiet = tt

-- ---- what goes out

module _ (past : List HistoryItem) (c : ClientValue) (s : Stands past c) (call : MdsCallValue) where
  abbrev item : HistoryItem
  item = Sends (CallsMds c.next_xid c.name call)

  abbrev LayoutThen : MdsAsk → Type 0
  LayoutThen kind = IfThere (layout_asked kind c.layout) (λ l. LayoutStands (past ++ Sends (CallsMds c.next_xid c.name call) ∷ []) c.name (reports_server (reported_of l)) l)

  pub record AskIsRight (kind : MdsAsk) : Type 0 where
    pub returns : ReturnsCall past call
    pub fits : AskFits (past ++ Sends (CallsMds c.next_xid c.name call) ∷ []) (Sends (CallsMds c.next_xid c.name call)) (layout_asked kind c.layout) call kind
    pub layout : IfThere (layout_asked kind c.layout) (λ l. LayoutStands (past ++ Sends (CallsMds c.next_xid c.name call) ∷ []) c.name (reports_server (reported_of l)) l)

  same_layout : QuietCall call → IfThere c.layout (λ l. LayoutStands (past ++ Sends (CallsMds c.next_xid c.name call) ∷ []) c.name (reports_server (reported_of l)) l)
  same_layout quiet = there_later c.layout (λ l. LayoutStands past c.name (reports_server (reported_of l)) l) (λ l. LayoutStands (past ++ item ∷ []) c.name (reports_server (reported_of l)) l) (λ l. layout_later past (item ∷ []) c.name (reports_server (reported_of l)) l (quiet, tt) (tt, tt)) s.layout_stands

  no_return : (o : Option SlotCallValue) → IsOnSlot o call → ((k : SlotCallValue) → o ≡ Some k → QuietSlot k) → QuietCall call
  no_return o i none = subst QuietCall (sym i.is) (none i.its i.there)

  on_file : (file : Option OpenFile) (kind : MdsAsk) → ((f : OpenFile) (k : SlotCallValue) → file_call c (Some f) kind ≡ Some k → QuietSlot k) → (k : SlotCallValue) → file_call c file kind ≡ Some k → QuietSlot k
  on_file None kind none k is = absurd (none-some k is)
  on_file (Some f) kind none k is = none f k is

  gets_layout : c.layout ≡ None → (file : Option OpenFile) (i : IsOnSlot (file_call c file ask.LayoutGet) call) → GetsLayout (past ++ Sends (CallsMds c.next_xid c.name call) ∷ []) (Sends (CallsMds c.next_xid c.name call)) c.layout call
  gets_layout none None i = absurd (none-some i.its i.there)
  gets_layout none (Some f) i = record { session = i.session; sequence = i.sequence; file = f; is = i.is ∙ ap (OnSlot i.session i.sequence) (sym (same_Some _ i.its i.there)); no_layout = none; before = past; since = []; split = refl; quiet = tt; unrecalled = λ items behind reply state split recalled. not_empty items behind (Sends (RepliesToMds reply)) split }

  -- a LAYOUTRETURN
  give_right : (l : Layout) → c.layout ≡ Some l → IsSettled l.writer.mirrors → (f : OpenFile) (i : IsOnSlot (Some (slot.LayoutReturn f.file l.stateid (failed_mirrors l.mirrors l.statuses))) call)
      → ReturnsCall past call × GivesLayout (past ++ Sends (CallsMds c.next_xid c.name call) ∷ []) (Sends (CallsMds c.next_xid c.name call)) (Some (record l { stage = Returning; was_sent = true })) call
      × LayoutStands (past ++ Sends (CallsMds c.next_xid c.name call) ∷ []) c.name (reports_server (reported_of l)) (record l { stage = Returning; was_sent = true })
  give_right l at settled f i =
      let old : LayoutStands past c.name (reports_server (reported_of l)) l = subst (λ (o : Option Layout). IfThere o (λ l. LayoutStands past c.name (reports_server (reported_of l)) l)) at s.layout_stands in
      let is : call ≡ OnSlot i.session i.sequence (slot.LayoutReturn f.file l.stateid (failed_mirrors l.mirrors l.statuses)) = i.is ∙ ap (OnSlot i.session i.sequence) (sym (same_Some _ i.its i.there)) in (
        subst (ReturnsCall past) (sym is) (may_return old),
        record {
          session = i.session;
          sequence = i.sequence;
          file = f.file;
          stateid = l.stateid;
          failed = failed_mirrors l.mirrors l.statuses;
          is = is;
          out = record {
            its_stateid = refl;
            stage = refl;
            covered = λ n w there place m found not_so. covered_next past item m.id l.writer.cred w.at w.bytes [] (settled_covered past c.name l old settled n w there place m found not_so);
          };
        },
        layout_given past (item ∷ []) c.name (reports_server (reported_of l)) l old (tt, tt) none_taken settled,
      )
    where
      none_taken : (client : ℕ) → HasItem (Sends (CallsMds c.next_xid c.name call) ∷ []) (Enters (Answer client (answer.Failed failing.Revoked))) → ⊥
      none_taken client (inl (same, rest)) = absurd (cc (same))
      none_taken client (inr i) = i

      may_return : LayoutStands past c.name (reports_server (reported_of l)) l → MayReturn past l.stateid (failed_mirrors l.mirrors l.statuses)
      may_return old = record {
        grant = old.grant;
        granted = old.granted;
        its_stateid = sym old.stateid;
        held = old.was_taken;
        covered = λ file at bytes i place m found not_so. by_taken file at bytes place m (ap (λ k. slice_get k place) old.mirrors ∙ found) not_so (old.taken file at bytes (subst (λ (k : ℕ). HasItem old.granted.since (Enters (Sent file (record { 0 = k }) at bytes))) (sym old.uid) i));
      }
        where
          by_taken : (file : FileId) (at : ℕ) (bytes : List ℕ) (place : ℕ) (m : Mirror) → slice_get l.mirrors place ≡ Some m → reports_server (failed_mirrors l.mirrors l.statuses) m.id.server ≡ false
              → (n : ℕ) × (slice_get l.writer.taken n ≡ Some (record { at = at; bytes = bytes })) → WasCovered past m.id old.grant.uid.0 at bytes []
          by_taken file at bytes place m found not_so (n, there) = subst (λ (k : ℕ). WasCovered past m.id k at bytes []) old.uid (settled_covered past c.name l old settled n (record { at = at; bytes = bytes }) there place m found not_so)

  give_by : (file : Option OpenFile) (layout : Option Layout) → c.layout ≡ layout → IfThere layout (λ l. IsSettled l.writer.mirrors) → IsOnSlot (file_call (record c { layout = layout }) file ask.LayoutReturn) call
      → ReturnsCall past call × GivesLayout (past ++ Sends (CallsMds c.next_xid c.name call) ∷ []) (Sends (CallsMds c.next_xid c.name call)) (returning layout) call
      × IfThere (returning layout) (λ l. LayoutStands (past ++ Sends (CallsMds c.next_xid c.name call) ∷ []) c.name (reports_server (reported_of l)) l)
  give_by None layout at settled i = absurd (none-some i.its i.there)
  give_by (Some f) None at settled i = absurd (none-some i.its i.there)
  give_by (Some f) (Some l) at settled i = give_right l at settled f i

  -- it gives no layout back
  plain_right : (kind : MdsAsk) → QuietCall call → AskFits (past ++ Sends (CallsMds c.next_xid c.name call) ∷ []) (Sends (CallsMds c.next_xid c.name call)) (layout_asked kind c.layout) call kind → layout_asked kind c.layout ≡ c.layout → AskIsRight kind
  plain_right kind quiet fits same = record {
    returns = right_call past call quiet;
    fits = fits;
    layout = subst (λ (o : Option Layout). IfThere o (λ l. LayoutStands (past ++ item ∷ []) c.name (reports_server (reported_of l)) l)) (sym same) (same_layout quiet);
  }

  session_quiet : (tie : Tie) → session_call tie ≡ Some call → QuietCall call
  session_quiet NoClient is = absurd (none-some call is)
  session_quiet (HasClient clientid sequence) is = subst QuietCall (same_Some _ call is) tt
  session_quiet (HasSession t) is = absurd (none-some call is)

  ask_right : (kind : MdsAsk) → call_by_ask c kind ≡ Some call → (is_layout_return kind ≡ true → IfThere c.layout (λ l. IsSettled l.writer.mirrors)) → (kind ≡ ask.LayoutGet → c.layout ≡ None) → AskIsRight kind
  ask_right ask.ExchangeId is due none = plain_right ask.ExchangeId (subst QuietCall (same_Some _ call is) tt) tt refl
  ask_right ask.CreateSession is due none = plain_right ask.CreateSession (session_quiet c.tie is) tt refl
  ask_right ask.ReclaimComplete is due none = plain_right ask.ReclaimComplete (no_return _ (on_slot_so c.tie _ call is) (λ k there. subst QuietSlot (same_Some _ k there) tt)) tt refl
  ask_right ask.Open is due none = plain_right ask.Open (no_return _ (on_slot_so c.tie _ call is) (open_no_return c.queue)) tt refl
  ask_right ask.LayoutGet is due none =
      plain_right ask.LayoutGet (no_return _ (on_slot_so c.tie _ call is) (on_file c.file ask.LayoutGet (λ f k there. subst QuietSlot (same_Some _ k there) tt))) (gets_layout (none refl) c.file (on_slot_so c.tie _ call is)) refl
  ask_right (ask.DeviceInfo count) is due none = plain_right (ask.DeviceInfo count) (no_return _ (on_slot_so c.tie _ call is) (on_file c.file (ask.DeviceInfo count) (λ f. devices_no_return c c.layout))) tt refl
  ask_right ask.Write is due none = plain_right ask.Write (no_return _ (on_slot_so c.tie _ call is) (on_file c.file ask.Write (λ f. through_no_return f c.queue))) tt refl
  ask_right (ask.Read at count) is due none = plain_right (ask.Read at count) (no_return _ (on_slot_so c.tie _ call is) (on_file c.file (ask.Read at count) (λ f k there. subst QuietSlot (same_Some _ k there) tt))) tt refl
  ask_right ask.Renew is due none = plain_right ask.Renew (no_return _ (on_slot_so c.tie _ call is) (λ k there. subst QuietSlot (same_Some _ k there) tt)) tt refl
  ask_right ask.LayoutReturn is due none =
      let g = give_by c.file c.layout refl (due refl) (on_slot_so c.tie _ call is) in
      record { returns = g.0; fits = g.1; layout = g.2 }

  compound_called : (kind : MdsAsk) → c.asked ≡ None → c.next_xid ≢ 0 → AskIsRight kind → CallsGo past (asks_as c kind (Some call))
  compound_called kind none some right = record {
    none = refl;
    sends = ((λ x caller its i. answered x caller its (s.replied x caller its i), tt, right.returns, tt, tt, tt), tt);
    stands = record {
      numbers = numbers_next past (CallsMds c.next_xid c.name call) c.next_xid refl some s.numbers;
      replied = λ x caller its i. by_place x caller its (in_either past (item ∷ []) (Sends (CallsMds x caller its)) i);
      asked_out = record { call = call; sent = in_end past item; fits = right.fits };
      alone = refl;
      layout_stands = right.layout;
      taken_under = under_later past (item ∷ []) (tt, tt) s.taken_under;
      gets_again = λ is. absurd (none-some _ is);
      returns_again = λ is. absurd (none-some _ is);
    };
  }
    where
      answered : (x : ℕ) (caller : List ℕ) (its : MdsCallValue) → IsOut c.asked x ⊎ IsReplied past x caller its → IsReplied past x caller its
      answered x caller its (inl out) = absurd (subst (λ (o : Option Asked). IsOut o x) none out)
      answered x caller its (inr r) = r

      number_of : HistoryItem → ℕ
      number_of i = sent_number i
        where
          sent_number : HistoryItem → ℕ
          sent_number (Sends (CallsMds x caller its)) = x
          sent_number i = 0

      by_place : (x : ℕ) (caller : List ℕ) (its : MdsCallValue) → HasItem past (Sends (CallsMds x caller its)) ⊎ HasItem (item ∷ []) (Sends (CallsMds x caller its))
          → (c.next_xid ≡ x) ⊎ IsReplied (past ++ Sends (CallsMds c.next_xid c.name call) ∷ []) x caller its
      by_place x caller its (inl i) = inr (replied_later past (item ∷ []) x caller its (answered x caller its (s.replied x caller its i)))
      by_place x caller its (inr (inl (same, rest))) = inl (cc (same))
      by_place x caller its (inr (inr i)) = absurd i

-- ---- what is due

three : (a b d : Option MdsAsk) (kind : MdsAsk) → option_or a (option_or b d) ≡ Some kind → (a ≡ Some kind) ⊎ ((b ≡ Some kind) ⊎ (d ≡ Some kind))
three (Some x) b d kind is = inl is
three None (Some y) d kind is = inr (inl is)
three None None d kind is = inr (inr is)

same_return : (kind : MdsAsk) → is_layout_return kind ≡ true → kind ≡ ask.LayoutReturn
same_return ask.LayoutReturn is = refl
same_return ask.LayoutGet is = absurd cc
same_return ask.ExchangeId is = absurd cc
same_return ask.CreateSession is = absurd cc
same_return ask.ReclaimComplete is = absurd cc
same_return ask.Open is = absurd cc
same_return (ask.DeviceInfo count) is = absurd cc
same_return ask.Write is = absurd cc
same_return (ask.Read at count) is = absurd cc
same_return ask.Renew is = absurd cc

stage_settled : (past : List HistoryItem) (name : List ℕ) (layout : Option Layout) → IfThere layout (λ l. LayoutStands past name (reports_server (reported_of l)) l) → IfThere layout (λ l. l.stage ≡ Returning)
    → IfThere layout (λ l. IsSettled l.writer.mirrors)
stage_settled past name None s at = tt
stage_settled past name (Some l) s at = s.settled (s.returning at)

return_settled : (layout : Option Layout) (kind : MdsAsk) → return_ask layout ≡ Some kind → IfThere layout (λ l. IsSettled l.writer.mirrors)
return_settled None kind is = tt
return_settled (Some l) kind is = by_test (is_ending l.stage) (is_settled l.writer) refl is
  where
    by_test : (a b : Bool) → is_settled l.writer ≡ b → (if a && b then Some ask.LayoutReturn else None) ≡ Some kind → IsSettled l.writer.mirrors
    by_test true true settled is = is_settled_so l.writer settled
    by_test true false settled is = absurd (none-some kind is)
    by_test false b settled is = absurd (none-some kind is)

-- the head never asks for a LAYOUTRETURN, and for a LAYOUTGET where there is no layout alone
abbrev pub WantsFit : Option Layout → Option MdsAsk → Type 0
WantsFit layout wants = IfThere wants (λ kind. (is_layout_return kind ≡ false) × (kind ≡ ask.LayoutGet → layout ≡ None))

due_settled : (past : List HistoryItem) (c : ClientValue) (wants : Option MdsAsk) (kind : MdsAsk) → Stands past c → WantsFit c.layout wants → due_ask wants c ≡ Some kind → is_layout_return kind ≡ true
    → IfThere c.layout (λ l. IsSettled l.writer.mirrors)
due_settled past c wants kind s never is so = by_three (three c.again (return_ask c.layout) _ kind is)
  where
    not_both : true ≡ false → ⊥
    not_both e = absurd cc

    by_wants : (b : Bool) (o : Option MdsAsk) → WantsFit c.layout o → (if b then None else o) ≡ Some kind → ⊥
    by_wants true o never is = none-some kind is
    by_wants false None never is = none-some kind is
    by_wants false (Some k) never is = not_both (sym so ∙ ap is_layout_return (sym (same_Some k kind is)) ∙ never.0)

    by_three : (c.again ≡ Some kind) ⊎ ((return_ask c.layout ≡ Some kind) ⊎ ((if c.waits then None else wants) ≡ Some kind)) → IfThere c.layout (λ l. IsSettled l.writer.mirrors)
    by_three (inl again) = stage_settled past c.name c.layout s.layout_stands (s.returns_again (again ∙ ap Some (same_return kind so)))
    by_three (inr (inl ret)) = return_settled c.layout kind ret
    by_three (inr (inr head)) = absurd (by_wants c.waits wants never head)

return_only : (layout : Option Layout) (kind : MdsAsk) → return_ask layout ≡ Some kind → kind ≡ ask.LayoutReturn
return_only None kind is = absurd (none-some kind is)
return_only (Some l) kind is = by_test (is_ending l.stage && is_settled l.writer) is
  where
    by_test : (b : Bool) → (if b then Some ask.LayoutReturn else None) ≡ Some kind → kind ≡ ask.LayoutReturn
    by_test true is = sym (same_Some ask.LayoutReturn kind is)
    by_test false is = absurd (none-some kind is)

due_gets : (past : List HistoryItem) (c : ClientValue) (wants : Option MdsAsk) (kind : MdsAsk) → Stands past c → WantsFit c.layout wants → due_ask wants c ≡ Some kind → kind ≡ ask.LayoutGet → c.layout ≡ None
due_gets past c wants kind s fit is gets = by_three (three c.again (return_ask c.layout) _ kind is)
  where
    by_wants : (b : Bool) (o : Option MdsAsk) → WantsFit c.layout o → (if b then None else o) ≡ Some kind → c.layout ≡ None
    by_wants true o fit is = absurd (none-some kind is)
    by_wants false None fit is = absurd (none-some kind is)
    by_wants false (Some k) fit is = fit.1 (same_Some k kind is ∙ gets)

    not_get : ask.LayoutGet ≡ ask.LayoutReturn → ⊥
    not_get e = absurd cc

    by_three : (c.again ≡ Some kind) ⊎ ((return_ask c.layout ≡ Some kind) ⊎ ((if c.waits then None else wants) ≡ Some kind)) → c.layout ≡ None
    by_three (inl again) = s.gets_again (again ∙ ap Some gets)
    by_three (inr (inl ret)) = absurd (not_get (sym gets ∙ return_only c.layout kind ret))
    by_three (inr (inr head)) = by_wants c.waits wants fit head

-- ---- all calls

asks_go_by : (past : List HistoryItem) (c : ClientValue) (kind : MdsAsk) → Stands past c → c.asked ≡ None → c.next_xid ≢ 0 → (is_layout_return kind ≡ true → IfThere c.layout (λ l. IsSettled l.writer.mirrors)) → (kind ≡ ask.LayoutGet → c.layout ≡ None) → (o : Option MdsCallValue) → call_by_ask c kind ≡ o
    → CallsGo past (asks_as c kind o)
asks_go_by past c kind s none some due gets None is = calls_none past c s
asks_go_by past c kind s none some due gets (Some call) is = compound_called past c s call kind none some (ask_right past c s call kind is due gets)

pub asks_go : (past : List HistoryItem) (c : ClientValue) (kind : Option MdsAsk) → Stands past c → may_ask c c.asked ≡ true → ((k : MdsAsk) → kind ≡ Some k → is_layout_return k ≡ true → IfThere c.layout (λ l. IsSettled l.writer.mirrors)) → ((k : MdsAsk) → kind ≡ Some k → k ≡ ask.LayoutGet → c.layout ≡ None) → CallsGo past (asks c kind)
asks_go past c None s may due gets = calls_none past c s
asks_go past c (Some kind) s may due gets = asks_go_by past c kind s (no_asked c.asked may) (some_number c.asked may) (due kind refl) (gets kind refl) (call_by_ask c kind) refl
  where
    not_both : false ≡ true → ⊥
    not_both e = absurd cc

    no_asked : (asked : Option Asked) → may_ask c asked ≡ true → asked ≡ None
    no_asked None may = refl
    no_asked (Some a) may = absurd (not_both may)

    some_number : (asked : Option Asked) → may_ask c asked ≡ true → c.next_xid ≢ 0
    some_number None may e = not_both (sym (sym may ∙ ap (λ x. not (x == 0)) e))
    some_number (Some a) may e = not_both may

mds_goes : (past : List HistoryItem) (c : ClientValue) (wants : Option MdsAsk) → Stands past c → WantsFit c.layout wants → CallsGo past (calls_mds wants c)
mds_goes past c wants s never = by_test (may_ask c c.asked) refl
  where
    by_test : (b : Bool) → may_ask c c.asked ≡ b → CallsGo past (if b then asks c (due_ask wants c) else sends_none c)
    by_test true may = asks_go past c (due_ask wants c) s may (λ k is so. due_settled past c wants k s never is so) (λ k is so. due_gets past c wants k s never is so)
    by_test false may = calls_none past c s

pub all_go : (past : List HistoryItem) (c : ClientValue) (wants : Option MdsAsk) → Stands past c → WantsFit c.layout wants → CallsGo past (calls_all wants c)
all_go past c wants s fit =
    let first : CallsGo past (calls_mirrors c) = mirrors_go past c s in
    calls_then past (calls_mirrors c) (calls_mds wants) first (mds_goes (past ++ sent (calls_mirrors c).sends) (calls_mirrors c).client wants first.stands (fits_behind wants fit))
  where
    fits_behind : (o : Option MdsAsk) → WantsFit c.layout o → WantsFit (calls_mirrors c).client.layout o
    fits_behind None fit = tt
    fits_behind (Some kind) fit = (fit.0, λ gets. mirrors_none c (fit.1 gets))
