-- What is told is covered, and a mirror at which it is so was not reported.
use Rattle.std.proofs.Common.{◌≡◌, ℕ, Bool, true, false, List, [], ◌∷◌, ◌++◌, Option, Some, refl, sym, ap, subst, ◌∙◌, inl, inr, ◌⊎◌}
use Rattle.std.specs.Prelude.{slice_get, ◌||◌}
use Rattle.std.specs.List.{filter}
use Rattle.std.proofs.lemmas.List.{append_assoc}
use Rattle.rpc_record.specs.Replies.{RpcReply}
use Rattle.cluster_model.specs.declared.ids.NodeId.TheVariants.{Server, Client as AClient}
use Rattle.cluster_model.specs.declared.ids.Mirror.{Mirror}
use Rattle.cluster_model.specs.declared.entry.Entry.{Entry}
use Rattle.cluster_model.specs.declared.entry.Entry.TheVariants.{Told, TimedOut}
use Rattle.mirror_writer.specs.declared.step.WriterStep.{WriterStep}
use Rattle.mirror_writer.specs.declared.step.WriterStep.TheVariants as step
use Rattle.mirror_writer.specs.Writers.{WriterAfter}
use Rattle.mirror_writer.specs.Outstanding.{is_covered_everywhere}
use Rattle.client_file_calls.specs.declared.open.OpenFile.{OpenFile}
use Rattle.client_file_calls.specs.declared.layout_return.FailedMirror.{FailedMirror}
use Rattle.client_mds_calls.specs.FittingCalls.{reports_server}
use Rattle.client_mds_calls.specs.MdsCalls.{MdsCallValue, OnSlot}
use Rattle.client_mds_calls.specs.MdsCalls as slot
use Rattle.client_mds_calls.specs.MdsReplies.{Returned}
use Rattle.client_state.specs.declared.layout.Layout.{Layout}
use Rattle.client_state.specs.declared.asked.Asked.{Asked}
use Rattle.client_state.specs.ClientStates.{ClientValue}
use Rattle.client_state.specs.ClientQueue.{with_writer}
use Rattle.client_state.specs.ClientSends.{ClientSend, CallsMds}
use Rattle.client_answers.specs.ClientMirrors.{has_writer}
use Rattle.client_laws.specs.ClientHistory.{ClientInput, HistoryItem, Hears, Enters, Recorded, TimeoutOf}
use Rattle.client_laws.specs.ClientRunLaws.{CoveredAtEach, CoveredByReturn}
use Rattle.client_laws.proofs.Later.{covered_later, granted_later, under_uid_later, stands_later, every_map}
use Rattle.client_laws.proofs.Places.{every_filter}
use Rattle.client_laws.proofs.Stands.{Every, Stands, LayoutStands, IfThere, AskOut, reported_of}
use Rattle.client_laws.proofs.WriterMoves.{failed_by, AfterMoves, reply_moves, timeout_moves}
use Rattle.client_laws.proofs.DsGoes.{none_failed, or_false}
use Rattle.client_laws.proofs.MdsGoes.{ReturnAccepted, returned_covered, its_ask, layout_now}
use Rattle.client_laws.proofs.Tells.{by_return_later, covered_each}
use Rattle.client_records.proofs.Cases.{ComesTo, ByReply, ByTimeout, IsQuietStep, IsAnswered, heard_mds, heard_server, said}
use Rattle.client_records.proofs.Told.{MayTell}
use Rattle.client_records.proofs.SameWriters.{layout_of}
use Rattle.client_records.proofs.EachRun.{Base}
use Rattle.client_sessions.specs.LayoutEnds.{HasUnreported, IsToldOf}
use Rattle.client_sessions.proofs.Unreported.{HasKept}
use Rattle.client_sessions.proofs.UntoldStands.{CallKept, OutKept}

-- ---- what is said

abbrev pub ToldEntry : List HistoryItem → Entry → Type 0
ToldEntry past (Told file uid at bytes) = IsToldOf past uid.0 at bytes
ToldEntry past entry = Unit {0}

abbrev pub TellsHeld : List HistoryItem → HistoryItem → Type 0
TellsHeld past (Enters entry) = ToldEntry past entry
TellsHeld past item = Unit {0}

pub told_later : (past : List HistoryItem) (item : HistoryItem) (uid at : ℕ) (bytes : List ℕ) → IsToldOf past uid at bytes → IsToldOf (past ++ item ∷ []) uid at bytes
told_later past item uid at bytes t = record {
  grant = t.grant;
  granted = granted_later past (item ∷ []) t.grant t.granted;
  its_uid = t.its_uid;
  taken = under_uid_later past (item ∷ []) uid at bytes t.taken;
  covered = by_way t.covered;
}
  where
    by_way : CoveredAtEach past t.grant at bytes ⊎ ((r : CoveredByReturn past t.grant at bytes) × HasUnreported t.grant r.failed)
        → CoveredAtEach (past ++ item ∷ []) t.grant at bytes ⊎ ((r : CoveredByReturn (past ++ item ∷ []) t.grant at bytes) × HasUnreported t.grant r.failed)
    by_way (inl each) = inl (λ place m there. covered_later past (item ∷ []) m.id t.grant.uid.0 at bytes [] (each place m there))
    by_way (inr (r, some)) = inr (by_return_later past (item ∷ []) t.grant at bytes r, some)

every_any : (ns : List ℕ) → Every (λ (n : ℕ). Unit {0}) ns
every_any [] = tt
every_any (n ∷ ns) = (tt, every_any ns)

-- ---- covered at each mirror

quiet_false : (came : WriterStep) → IsQuietStep came → (server : ℕ) → failed_by came server ≡ false
quiet_false step.Stranger quiet server = refl
quiet_false step.Waiting quiet server = refl
quiet_false step.Committed quiet server = refl
quiet_false (step.Failed id cause) quiet server = absurd quiet
quiet_false (step.Fenced id status) quiet server = absurd quiet

module _ (Q : ClientInput → Type 0) (I : List HistoryItem → ClientValue → Type 0) where
  quiet_stands : (past : List HistoryItem) (c : ClientValue) (l : Layout) (at : c.layout ≡ Some l) → Stands past c → (after : WriterAfter) → AfterMoves past c.name (reports_server (reported_of l)) l.writer after → IsQuietStep after.step → Stands past (has_writer c l after)
  quiet_stands past c l at s after moves quiet =
      none_failed past c l at s after moves after.step refl (λ server is. or_false (reports_server (reported_of l) server) (subst (λ (b : Bool). (reports_server (reported_of l) server || b) ≡ true) (quiet_false after.step quiet server) is))

  -- how the client stands behind an answer or a timeout by which no mirror failed
  came_stands : (past : List HistoryItem) (c : ClientValue) (file : OpenFile) (l : Layout) (after : WriterAfter) → ComesTo Base Q I past c file l after → IsQuietStep after.step → Stands past (has_writer c l after)
  came_stands past c file l after (ByReply h server bytes now reply out s past_is is) quiet =
      let old : LayoutStands h c.name (reports_server (reported_of l)) l = layout_of h c l s.base.0 s.layout in
      let moves : AfterMoves (heard_server h server bytes now) c.name (reports_server (reported_of l)) l.writer after =
      subst (λ (x : WriterAfter). AfterMoves (heard_server h server bytes now) c.name (reports_server (reported_of l)) l.writer x) (sym is)
      (reply_moves h c.name (reports_server (reported_of l)) l.writer old.writer c.next_xid s.base.0.numbers server bytes now reply s.reply_is out s.out_is s.number) in
      subst (λ (p : List HistoryItem). Stands p (has_writer c l after)) (sym past_is)
      (quiet_stands (heard_server h server bytes now) c l s.layout (stands_later h (Hears (Recorded (Server server) bytes now) ∷ []) c (tt, tt) s.base.0) after moves quiet)
  came_stands past c file l after (ByTimeout h server out s past_is is) quiet =
      let old : LayoutStands h c.name (reports_server (reported_of l)) l = layout_of h c l s.base.0 s.layout in
      let more : List HistoryItem = Hears (TimeoutOf (Server server)) ∷ Enters (TimedOut (AClient c.number) out.xid) ∷ [] in
      let moves : AfterMoves (h ++ more) c.name (reports_server (reported_of l)) l.writer after =
      subst (λ (x : WriterAfter). AfterMoves (h ++ more) c.name (reports_server (reported_of l)) l.writer x) (sym is) (timeout_moves h c.name (reports_server (reported_of l)) l.writer old.writer more out.xid) in
      subst (λ (p : List HistoryItem). Stands p (has_writer c l after)) (sym (past_is ∙ append_assoc h (Hears (TimeoutOf (Server server)) ∷ []) (Enters (TimedOut (AClient c.number) out.xid) ∷ [])))
      (quiet_stands (h ++ more) c l s.layout (stands_later h more c (tt, (tt, tt)) s.base.0) after moves quiet)

  covered_told : (past : List HistoryItem) (name : List ℕ) (l : Layout) → LayoutStands past name (reports_server (reported_of l)) l → (n : ℕ) → is_covered_everywhere l.writer n ≡ true → MayTell IsToldOf past l.writer n
  covered_told past name l s n everywhere t there = record { grant = s.grant; granted = s.granted; its_uid = sym s.uid; taken = s.entered n t there; covered = inl (covered_each past name l s n everywhere t there) }

  pub covered_each_told : (past : List HistoryItem) (c : ClientValue) (file : OpenFile) (l : Layout) (after : WriterAfter) → ComesTo Base Q I past c file l after → IsQuietStep after.step → (ns : List ℕ)
      → Every (MayTell IsToldOf past after.writer) (filter (is_covered_everywhere after.writer) ns)
  covered_each_told past c file l after comes quiet ns =
      every_map (λ (n : ℕ). Unit {0} × (is_covered_everywhere after.writer n ≡ true)) (MayTell IsToldOf past after.writer)
      (λ n covered. covered_told past c.name (with_writer l after.writer) (came_stands past c file l after comes quiet).layout_stands n covered.1) (filter (is_covered_everywhere after.writer) ns)
      (every_filter (λ (n : ℕ). Unit {0}) (is_covered_everywhere after.writer) ns (every_any ns))

  -- ---- by a return that is accepted

  abbrev call_in : MdsCallValue → ClientSend → MdsCallValue
  call_in other (CallsMds xid name call) = call
  call_in other send = other

  module _ (h : List HistoryItem) (c : ClientValue) (a : Asked) (bytes : List ℕ) (now : ℕ) (reply : RpcReply) (s : IsAnswered Base Q h c a bytes now reply) (out : OutKept h c.name c.layout a.xid) (l : Layout) (at : c.layout ≡ Some l) (says : (said a reply).answer ≡ Returned) where
    held : LayoutStands (heard_mds h bytes now) c.name (reports_server (reported_of l)) l
    held =
        subst (λ (o : Option Layout). IfThere o (λ l. LayoutStands (heard_mds h bytes now) c.name (reports_server (reported_of l)) l)) at
        (layout_now h c s.base.0 a s.out bytes now reply s.reply_is s.number)

    abbrev its : AskOut h c.name c.layout a
    its = its_ask h c s.base.0 a s.out bytes now reply s.reply_is s.number

    -- the call that is out
    one_call : out.call ≡ its.call
    one_call = ap (call_in out.call) (s.base.0.numbers.once (CallsMds a.xid c.name out.call) (CallsMds a.xid c.name its.call) a.xid out.sent its.sent refl refl)

    returned_told : (n : ℕ) → (l.untold ≡ [] → ⊥) → MayTell IsToldOf (heard_mds h bytes now) l.writer n
    returned_told n left t there =
        let r : ReturnAccepted (heard_mds h bytes now) its.call held.grant t.at t.bytes = returned_covered h c s.base.0 a s.out bytes now reply s.reply_is s.number l at says held n t there in
        let kept : CallKept (Some l) (OnSlot r.by_return.session r.by_return.sequence (slot.LayoutReturn r.by_return.file held.grant.stateid r.by_return.failed)) =
        subst (λ (k : MdsCallValue). CallKept (Some l) k) (one_call ∙ r.call_is) (subst (λ (o : Option Layout). CallKept o out.call) at out.kept) in
        record { grant = held.grant; granted = held.granted; its_uid = sym held.uid; taken = held.entered n t there; covered = inr (r.by_return, some_left r.by_return.failed kept.1) }
      where
        some_left : (failed : List FailedMirror) → (l.untold ≡ []) ⊎ HasKept l.mirrors failed → HasUnreported held.grant failed
        some_left failed (inl none) = absurd (left none)
        some_left failed (inr k) = record { place = k.place; mirror = k.mirror; there = ap (λ (ms : List Mirror). slice_get ms k.place) (sym held.mirrors) ∙ k.there; kept = k.kept }

    every_returned : (ns : List ℕ) → (l.untold ≡ [] → ⊥) → Every (MayTell IsToldOf (heard_mds h bytes now) l.writer) ns
    every_returned [] left = tt
    every_returned (n ∷ ns) left = (returned_told n left, every_returned ns left)

    pub returned_each_told : Every (MayTell IsToldOf (heard_mds h bytes now) l.writer) l.untold
    returned_each_told = by_list l.untold refl
      where
        by_list : (ns : List ℕ) → l.untold ≡ ns → Every (MayTell IsToldOf (heard_mds h bytes now) l.writer) ns
        by_list [] is = tt
        by_list (n ∷ ns) is = every_returned (n ∷ ns) (λ none. absurd (cc (sym is ∙ none)))
