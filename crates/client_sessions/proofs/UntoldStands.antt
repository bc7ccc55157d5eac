-- How a layout that a client holds, and a LAYOUTRETURN of it that is out, stand by what is not told.
use Rattle.std.proofs.Common.{◌≡◌, ℕ, Bool, true, false, List, [], ◌∷◌, ◌++◌, length, Option, Some, None, refl, sym, ap, subst, ◌∙◌, inl, inr, ◌⊎◌}
use Rattle.std.specs.List.{list_all}
use Rattle.nfs4_types.specs.declared.ids.SessionId.{SessionId}
use Rattle.nfs4_types.specs.declared.stateid.Stateid.{Stateid}
use Rattle.cluster_model.specs.declared.ids.FileId.{FileId}
use Rattle.cluster_model.specs.declared.ids.Mirror.{Mirror}
use Rattle.cluster_model.specs.declared.ids.MirrorId.{MirrorId}
use Rattle.cluster_model.specs.declared.phase.LeftCause.{LeftCause}
use Rattle.mirror_writer.specs.Writers.{WriterValue, commit_wanted, with_write}
use Rattle.client_file_calls.specs.declared.open.OpenFile.{OpenFile}
use Rattle.client_file_calls.specs.declared.grant.LayoutGrant.{LayoutGrant}
use Rattle.client_file_calls.specs.declared.layout_return.FailedMirror.{FailedMirror}
use Rattle.client_mds_calls.specs.declared.ask.MdsAsk.{MdsAsk}
use Rattle.client_mds_calls.specs.declared.ask.MdsAsk.TheVariants as ask
use Rattle.client_mds_calls.specs.MdsCalls.{MdsCallValue, ExchangeId, CreateSession, OnSlot, SlotCallValue, ask_of}
use Rattle.client_mds_calls.specs.MdsCalls as slot
use Rattle.client_state.specs.declared.stage.LayoutStage.{LayoutStage}
use Rattle.client_state.specs.declared.stage.LayoutStage.TheVariants.{Writing, Ending, Deferred, Returning}
use Rattle.client_state.specs.declared.layout.Layout.{Layout}
use Rattle.client_state.specs.declared.asked.Asked.{Asked}
use Rattle.client_state.specs.ClientStates.{ClientValue}
use Rattle.client_state.specs.ClientQueue.{is_writing, ends_layout, ending, with_writer}
use Rattle.client_state.specs.ClientSends.{CallsMds}
use Rattle.client_calls.specs.ClientCalls.{failed_mirrors, layout_asked}
use Rattle.client_answers.specs.ClientMirrors.{with_failed}
use Rattle.client_answers.specs.ClientAnswers.{deferred, new_layout}
use Rattle.mirror_client.specs.ClientRule.{stage_after_tick, layout_at_tick}
use Rattle.client_laws.specs.ClientHistory.{HistoryItem, Sends, HasItem}
use Rattle.client_laws.proofs.Orders.{in_more, in_end}
use Rattle.client_laws.proofs.Stands.{IfThere}
use Rattle.client_records.proofs.Cases.{IsLayoutBehind}
use Rattle.client_sessions.proofs.CallsMade.{IsReturnOf, IsCallOf}
use Rattle.client_sessions.proofs.Marks.{is_marked, marks_of, FailsAt, taken_marks}
use Rattle.client_sessions.proofs.Unreported.{HasKept, UnreportedOf, staged_unreported, taken_unreported, some_kept, failed_unreported}

-- ---- what stands

abbrev pub Unreported : Layout → Type 0
Unreported l = UnreportedOf (marks_of l.writer) l.mirrors l.statuses l.stage l.untold

-- a return that is out: nothing is left to tell, or some mirror is not reported by it
abbrev pub SlotKept : Option Layout → SlotCallValue → Type 0
SlotKept layout (slot.LayoutReturn file stateid failed) = IfThere layout (λ l. (is_writing l.stage ≡ false) × ((l.untold ≡ []) ⊎ HasKept l.mirrors failed))
SlotKept layout call = Unit {0}

abbrev pub CallKept : Option Layout → MdsCallValue → Type 0
CallKept layout (OnSlot session sequence call) = SlotKept layout call
CallKept layout call = Unit {0}

pub record OutKept (past : List HistoryItem) (name : List ℕ) (layout : Option Layout) (xid : ℕ) : Type 0 where
  pub call : MdsCallValue
  pub sent : HasItem past (Sends (CallsMds xid name call))
  pub kept : CallKept layout call

pub record UntoldOf (past : List HistoryItem) (name : List ℕ) (layout : Option Layout) (asked : Option Asked) : Type 0 where
  pub layout_of : IfThere layout Unreported
  pub out_of : IfThere asked (λ a. OutKept past name layout a.xid)

abbrev pub Untold : List HistoryItem → ClientValue → Type 0
Untold past c = UntoldOf past c.name c.layout c.asked

pub untold_later : (past more : List HistoryItem) (name : List ℕ) (layout : Option Layout) (asked : Option Asked) → UntoldOf past name layout asked → UntoldOf (past ++ more) name layout asked
untold_later past more name layout asked u = record { layout_of = u.layout_of; out_of = by_asked asked u.out_of }
  where
    by_asked : (asked : Option Asked) → IfThere asked (λ a. OutKept past name layout a.xid) → IfThere asked (λ a. OutKept (past ++ more) name layout a.xid)
    by_asked None out = tt
    by_asked (Some a) out = record { call = out.call; sent = in_more (Sends (CallsMds a.xid name out.call) ∷ []) past more out.sent; kept = out.kept }

-- ---- another layout in its place

-- it has the same mirrors; no write is taken under it, and none is left to tell, where it was so
pub record KeepsUntold (l new : Layout) : Type 0 where
  pub mirrors : new.mirrors ≡ l.mirrors
  pub stage : is_writing l.stage ≡ false → is_writing new.stage ≡ false
  pub untold : is_writing l.stage ≡ false → l.untold ≡ [] → new.untold ≡ []

abbrev pub KeepsOut : Option Layout → Option Layout → Type 0
KeepsOut old None = Unit {0}
KeepsOut None (Some new) = ⊥
KeepsOut (Some l) (Some new) = KeepsUntold l new

pub keeps_out : (layout : Option Layout) → KeepsOut layout layout
keeps_out None = tt
keeps_out (Some l) = record { mirrors = refl; stage = λ is. is; untold = λ is none. none }

call_kept : (old new : Option Layout) → KeepsOut old new → (call : MdsCallValue) → CallKept old call → CallKept new call
call_kept old new keeps (ExchangeId verifier) kept = tt
call_kept old new keeps (CreateSession clientid sequence) kept = tt
call_kept old new keeps (OnSlot session sequence call) kept = on_slot old new keeps call kept
  where
    still : (l new : Layout) → KeepsUntold l new → (failed : List FailedMirror) → is_writing l.stage ≡ false → (l.untold ≡ []) ⊎ HasKept l.mirrors failed → (new.untold ≡ []) ⊎ HasKept new.mirrors failed
    still l new keeps failed ends (inl none) = inl (keeps.untold ends none)
    still l new keeps failed ends (inr some) = inr (subst (λ (ms : List Mirror). HasKept ms failed) (sym keeps.mirrors) some)

    returns : (old new : Option Layout) → KeepsOut old new → (failed : List FailedMirror) → IfThere old (λ l. (is_writing l.stage ≡ false) × ((l.untold ≡ []) ⊎ HasKept l.mirrors failed))
        → IfThere new (λ l. (is_writing l.stage ≡ false) × ((l.untold ≡ []) ⊎ HasKept l.mirrors failed))
    returns old None keeps failed kept = tt
    returns None (Some new) keeps failed kept = absurd keeps
    returns (Some l) (Some new) keeps failed kept = (keeps.stage kept.0, still l new keeps failed kept.0 kept.1)

    on_slot : (old new : Option Layout) → KeepsOut old new → (call : SlotCallValue) → SlotKept old call → SlotKept new call
    on_slot old new keeps (slot.LayoutReturn file stateid failed) kept = returns old new keeps failed kept
    on_slot old new keeps slot.ReclaimComplete kept = tt
    on_slot old new keeps (slot.Open name) kept = tt
    on_slot old new keeps (slot.LayoutGet file) kept = tt
    on_slot old new keeps (slot.DeviceInfo servers) kept = tt
    on_slot old new keeps (slot.Write file at bytes) kept = tt
    on_slot old new keeps (slot.Read file at count) kept = tt
    on_slot old new keeps slot.Renew kept = tt

pub relayout : (past : List HistoryItem) (name : List ℕ) (old new : Option Layout) (asked : Option Asked) → KeepsOut old new → IfThere new Unreported → UntoldOf past name old asked → UntoldOf past name new asked
relayout past name old new asked keeps fits u = record { layout_of = fits; out_of = by_asked asked u.out_of }
  where
    by_asked : (asked : Option Asked) → IfThere asked (λ a. OutKept past name old a.xid) → IfThere asked (λ a. OutKept past name new a.xid)
    by_asked None out = tt
    by_asked (Some a) out = record { call = out.call; sent = out.sent; kept = call_kept old new keeps out.call out.kept }

-- where one is held
pub its_unreported : (past : List HistoryItem) (c : ClientValue) (l : Layout) → c.layout ≡ Some l → Untold past c → Unreported l
its_unreported past c l at u = subst (λ (o : Option Layout). IfThere o Unreported) at u.layout_of

pub in_place : (past : List HistoryItem) (c : ClientValue) (l new : Layout) → c.layout ≡ Some l → KeepsUntold l new → Unreported new → Untold past c → UntoldOf past c.name (Some new) c.asked
in_place past c l new at keeps fits u = relayout past c.name c.layout (Some new) c.asked (subst (λ (o : Option Layout). KeepsOut o (Some new)) (sym at) keeps) fits u

-- ---- its stage

ends_so : (l : Layout) (stage : LayoutStage) (left : List ℕ) → l.stage ≡ stage → ((s : LayoutStage) → is_writing s ≡ false → UnreportedOf (marks_of l.writer) l.mirrors l.statuses s left)
    → UnreportedOf (marks_of (ends_layout l stage).writer) (ends_layout l stage).mirrors (ends_layout l stage).statuses (ends_layout l stage).stage left
ends_so l Writing left at each = each Ending refl
ends_so l Ending left at each = each l.stage (ap is_writing at)
ends_so l Deferred left at each = each l.stage (ap is_writing at)
ends_so l Returning left at each = each l.stage (ap is_writing at)

ends_untold : (l : Layout) (stage : LayoutStage) → (ends_layout l stage).untold ≡ l.untold
ends_untold l Writing = refl
ends_untold l Ending = refl
ends_untold l Deferred = refl
ends_untold l Returning = refl

-- with less that is not told, too
pub ending_untold : (l : Layout) (left : List ℕ) → ((s : LayoutStage) → is_writing s ≡ false → UnreportedOf (marks_of l.writer) l.mirrors l.statuses s left) → Unreported (record (ending l) { untold = left })
ending_untold l left each = ends_so l l.stage left refl each

pub ending_unreported : (l : Layout) → ((s : LayoutStage) → is_writing s ≡ false → UnreportedOf (marks_of l.writer) l.mirrors l.statuses s l.untold) → Unreported (ending l)
ending_unreported l each =
    subst (λ (left : List ℕ). UnreportedOf (marks_of (ending l).writer) (ending l).mirrors (ending l).statuses (ending l).stage left) (sym (ends_untold l l.stage)) (ends_so l l.stage l.untold refl each)

ends_keeps : (l : Layout) (stage : LayoutStage) → KeepsUntold l (ends_layout l stage)
ends_keeps l Writing = record { mirrors = refl; stage = λ is. refl; untold = λ is none. none }
ends_keeps l Ending = record { mirrors = refl; stage = λ is. is; untold = λ is none. none }
ends_keeps l Deferred = record { mirrors = refl; stage = λ is. is; untold = λ is none. none }
ends_keeps l Returning = record { mirrors = refl; stage = λ is. is; untold = λ is none. none }

pub ending_keeps : (l : Layout) → KeepsUntold l (ending l)
ending_keeps l = ends_keeps l l.stage

-- another stage, in which no write is taken where none was
pub staged : (l : Layout) (stage : LayoutStage) → (is_writing stage ≡ true → is_writing l.stage ≡ true) → Unreported l → Unreported (record l { stage = stage })
staged l stage writing u = staged_unreported (marks_of l.writer) l.mirrors l.statuses l.stage l.untold u stage l.untold writing (λ none. none)

-- none is taken any more
pub ended : (l : Layout) → Unreported l → Unreported (ending l)
ended l u = ending_unreported l (λ s ends. staged_unreported (marks_of l.writer) l.mirrors l.statuses l.stage l.untold u s l.untold (λ is. absurd (cc (sym is ∙ ends))) (λ none. none))

tick_writing : (stage : LayoutStage) → is_writing (stage_after_tick stage) ≡ is_writing stage
tick_writing Writing = refl
tick_writing Ending = refl
tick_writing Deferred = refl
tick_writing Returning = refl

pub ticked : (layout : Option Layout) → IfThere layout Unreported → IfThere (layout_at_tick layout) Unreported
ticked None u = tt
ticked (Some l) u = staged l (stage_after_tick l.stage) (λ is. sym (tick_writing l.stage) ∙ is) u

pub ticked_keeps : (layout : Option Layout) → KeepsOut layout (layout_at_tick layout)
ticked_keeps None = tt
ticked_keeps (Some l) = record { mirrors = refl; stage = λ is. tick_writing l.stage ∙ is; untold = λ is none. none }

pub behind : (kind : MdsAsk) (old new : Option Layout) → IsLayoutBehind kind old new → IfThere old Unreported → IfThere new Unreported
behind kind old new (inl same) u = subst (λ (o : Option Layout). IfThere o Unreported) (sym same) u
behind kind old new (inr (back, same)) u = subst (λ (o : Option Layout). IfThere o Unreported) (sym same) (put_off old u)
  where
    put_off : (layout : Option Layout) → IfThere layout Unreported → IfThere (deferred layout) Unreported
    put_off None u = tt
    put_off (Some l) u = staged l Deferred (λ is. absurd cc) u

-- ---- a compound goes out

-- a layout whose return is out
asked_unreported : (kind : MdsAsk) (layout : Option Layout) → IfThere layout Unreported → IfThere (layout_asked kind layout) Unreported
asked_unreported ask.LayoutReturn None u = tt
asked_unreported ask.LayoutReturn (Some l) u = staged l Returning (λ is. absurd cc) u
asked_unreported ask.ExchangeId layout u = u
asked_unreported ask.CreateSession layout u = u
asked_unreported ask.ReclaimComplete layout u = u
asked_unreported ask.Open layout u = u
asked_unreported ask.LayoutGet layout u = u
asked_unreported (ask.DeviceInfo count) layout u = u
asked_unreported ask.Write layout u = u
asked_unreported (ask.Read at count) layout u = u
asked_unreported ask.Renew layout u = u

return_kept : (file : Option OpenFile) (layout : Option Layout) (id : FileId) (stateid : Stateid) (failed : List FailedMirror) → IfThere layout Unreported → IsReturnOf file layout id stateid failed
    → IfThere (layout_asked ask.LayoutReturn layout) (λ l. (is_writing l.stage ≡ false) × ((l.untold ≡ []) ⊎ HasKept l.mirrors failed))
return_kept file None id stateid failed u its = tt
return_kept None (Some l) id stateid failed u its = absurd its
return_kept (Some f) (Some l) id stateid failed u its = (refl, by_told u.told)
  where
    by_told : (l.untold ≡ []) ⊎ (list_all is_marked (marks_of l.writer) ≡ false) → (l.untold ≡ []) ⊎ HasKept l.mirrors failed
    by_told (inl none) = inl none
    by_told (inr live) = inr (subst (λ (fs : List FailedMirror). HasKept l.mirrors fs) (sym its.2) (some_kept (marks_of l.writer) l.mirrors l.statuses l.stage l.untold u live))

asked_kept : (file : Option OpenFile) (layout : Option Layout) (call : MdsCallValue) → IfThere layout Unreported → IsCallOf file layout call → CallKept (layout_asked (ask_of call) layout) call
asked_kept file layout (ExchangeId verifier) u its = tt
asked_kept file layout (CreateSession clientid sequence) u its = tt
asked_kept file layout (OnSlot session sequence (slot.LayoutReturn id stateid failed)) u its = return_kept file layout id stateid failed u its
asked_kept file layout (OnSlot session sequence slot.ReclaimComplete) u its = tt
asked_kept file layout (OnSlot session sequence (slot.Open name)) u its = tt
asked_kept file layout (OnSlot session sequence (slot.LayoutGet f)) u its = tt
asked_kept file layout (OnSlot session sequence (slot.DeviceInfo servers)) u its = tt
asked_kept file layout (OnSlot session sequence (slot.Write f at bytes)) u its = tt
asked_kept file layout (OnSlot session sequence (slot.Read f at count)) u its = tt
asked_kept file layout (OnSlot session sequence slot.Renew) u its = tt

pub goes_out : (past : List HistoryItem) (name : List ℕ) (file : Option OpenFile) (layout : Option Layout) (kind : MdsAsk) (call : MdsCallValue) (a : Asked) → ask_of call ≡ kind → IsCallOf file layout call → IfThere layout Unreported
    → UntoldOf (past ++ Sends (CallsMds a.xid name call) ∷ []) name (layout_asked kind layout) (Some a)
goes_out past name file layout kind call a kind_is its u = record {
  layout_of = asked_unreported kind layout u;
  out_of = record { call = call; sent = in_end past (Sends (CallsMds a.xid name call)); kept = subst (λ (k : MdsAsk). CallKept (layout_asked k layout) call) kind_is (asked_kept file layout call u its) };
}
