-- Why no client is stuck behind the end of an event.
use Rattle.client_progress.proofs.CallsFit.{waits_of, Calling, mirrors_calling, CanAsk, can_return, can_ask, IsReady, asked_fit}
use Rattle.client_progress.proofs.Fits.{not_both, AskFits, LayoutFits, Fit}
use Rattle.client_progress.proofs.FlagLists.{Misses, missed}
use Rattle.client_progress.proofs.OneServer.{out_there, HasBusy, one_busy}
use Rattle.client_progress.proofs.QueueFits.{WantsCommit, NoRequest, WantsCall, Waits, Stops, QueueFits, queue_fits}
use Rattle.client_progress.proofs.Waiting.{waits_in, waits_few, AreIdle, none_waits, AreCallable, callable, nowhere}
use Rattle.std.proofs.Common.{◌≡◌, ◌≢◌, ℕ, zero, suc, ◌≤◌, Bool, true, false, List, [], ◌∷◌, ◌++◌, length, Option, Some, None, refl, sym, ap, subst, ◌∙◌, inl, inr, ◌⊎◌, arith}
use Rattle.std.specs.Prelude.{slice_get, not, is_some, ◌==◌, ◌&&◌, ◌||◌, if◌then◌else◌}
use Rattle.std.specs.List.{list_any}
use Rattle.std.specs.Option.{option_or}
use Rattle.std.proofs.lemmas.List.{length-map}
use Rattle.std.proofs.lemmas.Option.{none-some, same_Some}
use Rattle.cluster_model.specs.declared.ids.MirrorId.{MirrorId}
use Rattle.cluster_model.specs.declared.ids.Mirror.{Mirror}
use Rattle.cluster_model.specs.declared.ids.NodeId.TheVariants.{Mds, Server}
use Rattle.mirror_writer.specs.Writers.{WriterMirror, WriterValue, is_committed, open_committed, rest_committed}
use Rattle.mirror_writer.specs.Outstanding.{OutCall, out_at, has_no_mirror}
use Rattle.client_file_calls.specs.declared.open.OpenFile.{OpenFile}
use Rattle.client_mds_calls.specs.declared.ask.MdsAsk.{MdsAsk}
use Rattle.client_mds_calls.specs.declared.ask.MdsAsk.TheVariants as ask
use Rattle.client_mds_calls.specs.FittingCalls.{reports_server}
use Rattle.client_mds_calls.specs.MdsCalls.{MdsCallValue}
use Rattle.client_state.specs.declared.stage.LayoutStage.{LayoutStage}
use Rattle.client_state.specs.declared.stage.LayoutStage.TheVariants.{Writing, Ending, Deferred, Returning}
use Rattle.client_state.specs.declared.layout.Layout.{Layout}
use Rattle.client_state.specs.declared.asked.Asked.{Asked}
use Rattle.client_state.specs.ClientStates.{ClientValue}
use Rattle.client_state.specs.ClientSends.{sends_none}
use Rattle.client_state.specs.ClientQueue.{is_writing, run_queue}
use Rattle.client_calls.specs.ClientCalls.{calls_mirrors, is_ending, is_settled, return_ask, due_ask, asks_as, asks, may_ask, calls_mds, ends_event, returning, layout_asked}
use Rattle.mirror_client.specs.ClientRule.{compound_number, ds_call_number, ds_outstanding}
use Rattle.client_laws.specs.ClientHistory.{HistoryItem, entered, sent}
use Rattle.client_laws.proofs.CallsOut.{nonzero, mirrors_go}
use Rattle.client_laws.proofs.Places.{all_at, same_number}
use Rattle.client_laws.proofs.QueueGoes.{QueueGoes, queue_goes}
use Rattle.client_laws.proofs.Stands.{Stands, LayoutStands, IfThere, reported_of, is_settled_there}
use Rattle.client_laws.proofs.Steady.{kind_of}
use Rattle.client_progress.specs.Going.{is_given_back, is_deferred, is_returning, HasToDo, AwaitsAnswer, AwaitsTick, IsNeverStuck, waiting_place, HasCalledMirrors, HasSentAnew}

-- ---- a return that is not due yet

any_there : {A : Type 0} (test : A → Bool) (xs : List A) (i : ℕ) (x : A) → slice_get xs i ≡ Some x → test x ≡ true → list_any test xs ≡ true
any_there test [] i x there passes = absurd (none-some x there)
any_there test (y ∷ xs) zero x there passes = first (test y) (list_any test xs) (ap test (same_Some y x there) ∙ passes)
  where
    first : (a b : Bool) → a ≡ true → (a || b) ≡ true
    first true b is = refl
    first false b is = absurd cc
any_there test (y ∷ xs) (suc i) x there passes = further (test y) (list_any test xs) (any_there test xs i x there passes)
  where
    further : (a b : Bool) → b ≡ true → (a || b) ≡ true
    further true b is = refl
    further false b is = is

-- some mirror that has not failed is not committed
unsettled : (w : WriterValue) → is_settled w ≡ false → open_committed w.mirrors ≡ false
unsettled w is = by_open (open_committed w.mirrors) refl
  where
    neither : (a b : Bool) → (a || b) ≡ false → (a ≡ false) × (b ≡ false)
    neither false b is = (refl, is)
    neither true b is = absurd cc

    committed : (m : WriterMirror) → m.has_failed ≡ false → is_settled_there m ≡ true → is_committed m ≡ true
    committed m alive settled = sym (ap (λ b. b || is_committed m) alive) ∙ settled

    counts : (m : WriterMirror) → m.has_failed ≡ false → is_committed m ≡ true → (not m.has_failed && is_committed m) ≡ true
    counts m alive all = ap (λ b. not b && is_committed m) alive ∙ all

    by_mirror : open_committed w.mirrors ≡ true → Misses (λ (m : WriterMirror). m.has_failed) w.mirrors → ⊥
    by_mirror all one =
        let m : WriterMirror = one.element in
        let its : is_committed m ≡ true = committed m one.fails (all_at is_settled_there w.mirrors all one.place m one.there) in
        let any : list_any (λ (m : WriterMirror). not m.has_failed && is_committed m) w.mirrors ≡ true = any_there (λ (m : WriterMirror). not m.has_failed && is_committed m) w.mirrors one.place m one.there (counts m one.fails its) in
        not_both (sym any ∙ sym (ap (λ b. b && list_any (λ (m : WriterMirror). not m.has_failed && is_committed m) w.mirrors) all) ∙ (neither (rest_committed w) (has_no_mirror w) is).0)

    by_open : (b : Bool) → open_committed w.mirrors ≡ b → open_committed w.mirrors ≡ false
    by_open true all = absurd (by_mirror all (missed (λ (m : WriterMirror). m.has_failed) w.mirrors (neither (rest_committed w) (has_no_mirror w) is).1))
    by_open false all = all

-- what is due of a layout
record IsReturnDue (layout : Option Layout) (kind : MdsAsk) : Type 0 where
  layout_of : Layout
  at : layout ≡ Some layout_of
  back : is_given_back layout ≡ true
  is : kind ≡ ask.LayoutReturn

return_due : (layout : Option Layout) (kind : MdsAsk) → return_ask layout ≡ Some kind → IsReturnDue layout kind
return_due None kind is = absurd (none-some kind is)
return_due (Some l) kind is = by_test l.stage refl (is_settled l.writer) is
  where
    by_test : (stage : LayoutStage) → l.stage ≡ stage → (b : Bool) → (if is_ending stage && b then Some ask.LayoutReturn else None) ≡ Some kind → IsReturnDue (Some l) kind
    by_test Ending at true is = record { layout_of = l; at = refl; back = ap (λ s. not (is_writing s)) at; is = sym (same_Some ask.LayoutReturn kind is) }
    by_test Ending at false is = absurd (none-some kind is)
    by_test Writing at b is = absurd (none-some kind is)
    by_test Deferred at b is = absurd (none-some kind is)
    by_test Returning at b is = absurd (none-some kind is)

-- ---- what an event ends with

pub record EndsOf (e : ClientValue) : Type 0 where
  pub fit : Fit e
  pub goes : IsNeverStuck e
  pub anew : HasSentAnew e
  pub called : HasCalledMirrors e

returning_given : (layout : Option Layout) → is_returning layout ≡ true → is_given_back layout ≡ true
returning_given None is = absurd cc
returning_given (Some l) is = by_stage l.stage is
  where
    by_stage : (stage : LayoutStage) → is_returning (Some (record l { stage = stage })) ≡ true → not (is_writing stage) ≡ true
    by_stage Writing is = absurd cc
    by_stage Ending is = refl
    by_stage Deferred is = refl
    by_stage Returning is = refl

-- behind the calls to data servers
module _ (past : List HistoryItem) (f : ClientValue) (s : Stands past f) (wants : Option MdsAsk) (i : Calling wants 0 f) where
  -- a call to a mirror is out
  commits_go : (l : Layout) → f.layout ≡ Some l → f.next_xid ≢ 0 → l.writer.wants_commit ≡ true → open_committed l.writer.mirrors ≡ false → AwaitsAnswer f
  commits_go l at some wish open_one = by_file (is_some f.file) refl f.file refl
    where
      stands : LayoutStands past f.name (reports_server (reported_of l)) l
      stands = subst (λ (o : Option Layout). IfThere o (λ l. LayoutStands past f.name (reports_server (reported_of l)) l)) at s.layout_stands

      fits : LayoutFits f.devices l
      fits = subst (λ (o : Option Layout). IfThere o (LayoutFits f.devices)) at i.fit.layout_fits

      held : is_some f.file ≡ true
      held = subst (λ (o : Option Layout). IfThere o (λ l. is_some f.file ≡ true)) at i.fit.held

      idle : AreIdle l.writer.wants_commit l.writer.mirrors
      idle = none_waits l.writer.wants_commit l.writer.mirrors (zero_of (subst (λ (o : Option Layout). waits_of o ≤ 0) at (i.few some)))
        where
          zero_of : waits_in l.writer.wants_commit l.writer.mirrors ≤ 0 → waits_in l.writer.wants_commit l.writer.mirrors ≡ 0
          zero_of few = omega (arith, few)

      by_out : (file : OpenFile) → f.file ≡ Some file → (b : HasBusy l.writer) → (out : OutCall) × (out_at l.writer b.mirror.id.server ≡ Some out) → AwaitsAnswer f
      by_out file there b (out, is) =
          (Server b.mirror.id.server, out.xid, ap (λ o. ds_outstanding o f.layout b.mirror.id.server) there ∙ ap (λ o. ds_outstanding (Some file) o b.mirror.id.server) at ∙ ap ds_call_number is)

      by_busy : (file : OpenFile) → f.file ≡ Some file → HasBusy l.writer → AwaitsAnswer f
      by_busy file there b = by_out file there b (out_there past f.name (reports_server (reported_of l)) l.writer stands.writer l.mirrors stands.ids fits.writer.apart b.place b.mirror b.there b.busy)

      by_file : (b : Bool) → is_some f.file ≡ b → (file : Option OpenFile) → f.file ≡ file → AwaitsAnswer f
      by_file b is None there = absurd (not_both (sym held ∙ ap is_some there))
      by_file b is (Some file) there = by_busy file there (one_busy l.writer wish open_one idle)

  -- nothing is asked, and no return is due
  layout_goes : (layout : Option Layout) → f.layout ≡ layout → f.next_xid ≢ 0 → return_ask layout ≡ None → is_returning layout ≡ false → is_given_back layout ≡ true → AwaitsAnswer f ⊎ AwaitsTick f
  layout_goes None at some none still back = absurd cc
  layout_goes (Some l) at some none still back = by_stage l.stage refl
    where
      fits : LayoutFits f.devices l
      fits = subst (λ (o : Option Layout). IfThere o (LayoutFits f.devices)) at i.fit.layout_fits

      not_due : l.stage ≡ Ending → is_settled l.writer ≡ false
      not_due stage = by_settled (is_settled l.writer) refl
        where
          by_settled : (b : Bool) → is_settled l.writer ≡ b → is_settled l.writer ≡ false
          by_settled false is = is
          by_settled true is = absurd (none-some ask.LayoutReturn (sym none ∙ ap (λ s. if is_ending s && is_settled l.writer then Some ask.LayoutReturn else None) stage ∙ ap (λ b. if b then Some ask.LayoutReturn else None) is))

      by_wish : l.stage ≡ Ending → (l.writer.wants_commit ≡ true) ⊎ (open_committed l.writer.mirrors ≡ true) → AwaitsAnswer f
      by_wish stage (inl wish) = commits_go l at some wish (unsettled l.writer (not_due stage))
      by_wish stage (inr all) = absurd (not_both (sym all ∙ unsettled l.writer (not_due stage)))

      by_stage : (stage : LayoutStage) → l.stage ≡ stage → AwaitsAnswer f ⊎ AwaitsTick f
      by_stage Writing stage = absurd (not_both (sym back ∙ ap (λ s. not (is_writing s)) stage))
      by_stage Ending stage = inl (by_wish stage (fits.writer.wanted (ap is_writing stage)))
      by_stage Deferred stage = inr (inr (ap is_deferred at ∙ ap (λ s. is_deferred (Some (record l { stage = s }))) stage))
      by_stage Returning stage = absurd (not_both (sym (ap (λ s. is_returning (Some (record l { stage = s }))) stage) ∙ still))

  -- no mirror waits
  none_called : f.next_xid ≢ 0 → (layout : Option Layout) → f.layout ≡ layout → waiting_place layout ≡ None
  none_called some None at = refl
  none_called some (Some l) at = nowhere l.writer (none_waits l.writer.wants_commit l.writer.mirrors (zero_of (subst (λ (o : Option Layout). waits_of o ≤ 0) at (i.few some))))
    where
      zero_of : waits_in l.writer.wants_commit l.writer.mirrors ≤ 0 → waits_in l.writer.wants_commit l.writer.mirrors ≡ 0
      zero_of few = omega (arith, few)

  called_here : HasCalledMirrors f
  called_here some = none_called some f.layout refl

  back_called : (layout : Option Layout) → waiting_place layout ≡ None → waiting_place (returning layout) ≡ None
  back_called None none = refl
  back_called (Some l) none = none

  asked_called : (kind : MdsAsk) (layout : Option Layout) → waiting_place layout ≡ None → waiting_place (layout_asked kind layout) ≡ None
  asked_called ask.LayoutReturn layout none = back_called layout none
  asked_called ask.ExchangeId layout none = none
  asked_called ask.CreateSession layout none = none
  asked_called ask.ReclaimComplete layout none = none
  asked_called ask.Open layout none = none
  asked_called ask.LayoutGet layout none = none
  asked_called (ask.DeviceInfo count) layout none = none
  asked_called ask.Write layout none = none
  asked_called (ask.Read at count) layout none = none
  asked_called ask.Renew layout none = none

  -- a compound goes out
  sent_end : (kind : MdsAsk) → f.next_xid ≢ 0 → IsReady f.tie f.file f.queue f.layout f.devices kind → CanAsk f kind → EndsOf (asks f (Some kind)).client
  sent_end kind some ready (call, is) = subst (λ (o : Option MdsCallValue). EndsOf (asks_as f kind o).client) (sym is) (record {
    fit = asked_fit f.tie f.file f.queue f.devices f.layout kind (kind_of f.asked) f.again ready i.fit;
    goes = λ left todo. inl (Mds, f.next_xid, refl);
    anew = λ left. refl;
    called = λ left. asked_called kind f.layout (called_here some);
  })

  module _ (none : f.asked ≡ None) (some : f.next_xid ≢ 0) where
    -- what goes out anew
    anew_end : (kind : MdsAsk) → f.again ≡ Some kind → EndsOf (asks f (Some kind)).client
    anew_end kind anew = sent_end kind some (by_return (is_returning f.layout) refl) (can_ask f i.fit kind fits)
      where
        fits : AskFits f.tie f.file f.queue f.layout f.devices kind
        fits = subst (λ (o : Option MdsAsk). IfThere o (AskFits f.tie f.file f.queue f.layout f.devices)) anew i.fit.anew

        by_either : is_returning f.layout ≡ true → (kind_of f.asked ≡ Some ask.LayoutReturn) ⊎ (f.again ≡ Some ask.LayoutReturn) → IsReady f.tie f.file f.queue f.layout f.devices kind
        by_either is (inl out) = absurd (none-some ask.LayoutReturn (sym (ap kind_of none) ∙ out))
        by_either is (inr again) = inl (same_Some kind ask.LayoutReturn (sym anew ∙ again), returning_given f.layout is)

        by_return : (b : Bool) → is_returning f.layout ≡ b → IsReady f.tie f.file f.queue f.layout f.devices kind
        by_return true is = by_either is (i.fit.returning is)
        by_return false is = inr (fits, is)

    module _ (idle : f.again ≡ None) where
      still : is_returning f.layout ≡ false
      still = by_return (is_returning f.layout) refl
        where
          by_either : (kind_of f.asked ≡ Some ask.LayoutReturn) ⊎ (f.again ≡ Some ask.LayoutReturn) → ⊥
          by_either (inl out) = none-some ask.LayoutReturn (sym (ap kind_of none) ∙ out)
          by_either (inr again) = none-some ask.LayoutReturn (sym idle ∙ again)

          by_return : (b : Bool) → is_returning f.layout ≡ b → is_returning f.layout ≡ false
          by_return true is = absurd (by_either (i.fit.returning is))
          by_return false is = is

      stays : (HasToDo f → AwaitsAnswer f ⊎ AwaitsTick f) → EndsOf f
      stays goes = record { fit = i.fit; goes = λ left todo. goes todo; anew = λ left. idle; called = called_here }

      due_end : (kind : MdsAsk) → IsReturnDue f.layout kind → EndsOf (asks f (Some kind)).client
      due_end kind due = subst (λ (k : MdsAsk). EndsOf (asks f (Some k)).client) (sym due.is) (sent_end ask.LayoutReturn some (inl (refl, due.back)) (can_return f i.fit due.layout_of due.at))

      commit_goes : (layout : Option Layout) → f.layout ≡ layout → WantsCommit layout → AwaitsAnswer f
      commit_goes None at commits = absurd commits
      commit_goes (Some l) at commits = commits_go l at some commits.0 commits.1

      stops_end : return_ask f.layout ≡ None → Stops f wants → EndsOf (asks f wants).client
      stops_end no_return (NoRequest is empty) = subst (λ (o : Option MdsAsk). EndsOf (asks f o).client) (sym is) (stays by_todo)
        where
          by_todo : HasToDo f → AwaitsAnswer f ⊎ AwaitsTick f
          by_todo (inl has) = absurd (not_both (sym has ∙ empty))
          by_todo (inr back) = layout_goes f.layout refl some no_return still back
      stops_end no_return (WantsCall kind is fits) = subst (λ (o : Option MdsAsk). EndsOf (asks f o).client) (sym is) (sent_end kind some (inr (fits, still)) (can_ask f i.fit kind fits))
      stops_end no_return (Waits is (inl back)) = subst (λ (o : Option MdsAsk). EndsOf (asks f o).client) (sym is) (stays (λ todo. layout_goes f.layout refl some no_return still back))
      stops_end no_return (Waits is (inr commits)) = subst (λ (o : Option MdsAsk). EndsOf (asks f o).client) (sym is) (stays (λ todo. inl (commit_goes f.layout refl commits)))

      waits_end : return_ask f.layout ≡ None → (b : Bool) → f.waits ≡ b → EndsOf (asks f (if b then None else wants)).client
      waits_end no_return true is = stays (λ todo. inr (inl is))
      waits_end no_return false is = stops_end no_return i.stops

      return_end : (o : Option MdsAsk) → return_ask f.layout ≡ o → EndsOf (asks f (option_or o (if f.waits then None else wants))).client
      return_end None is = waits_end is f.waits refl
      return_end (Some kind) is = due_end kind (return_due f.layout kind is)

    again_end : (o : Option MdsAsk) → f.again ≡ o → EndsOf (asks f (option_or o (option_or (return_ask f.layout) (if f.waits then None else wants)))).client
    again_end None is = return_end is (return_ask f.layout) refl
    again_end (Some kind) is = anew_end kind is

  asked_end : (asked : Option Asked) → f.asked ≡ asked → EndsOf (if may_ask f asked then asks f (due_ask wants f) else sends_none f).client
  asked_end (Some a) at = record { fit = i.fit; goes = λ some todo. inl (Mds, a.xid, ap compound_number at); anew = λ some. subst (λ (o : Option Asked). IfThere o (λ a. f.again ≡ None)) at s.alone; called = called_here }
  asked_end None at = by_number (f.next_xid == 0) refl
    where
      by_number : (b : Bool) → (f.next_xid == 0) ≡ b → EndsOf (if not b then asks f (due_ask wants f) else sends_none f).client
      by_number true is = record { fit = i.fit; goes = λ some todo. absurd (some (same_number f.next_xid 0 is)); anew = λ some. absurd (some (same_number f.next_xid 0 is)); called = called_here }
      by_number false is = again_end at (nonzero f.next_xid is) f.again refl

  pub mds_end : EndsOf (calls_mds wants f).client
  mds_end = asked_end f.asked refl

-- ---- the end of an event

few_wait : (past : List HistoryItem) (name : List ℕ) (layout : Option Layout) → IfThere layout (λ l. LayoutStands past name (reports_server (reported_of l)) l) → waits_of layout ≤ 4
few_wait past name None s = omega arith
few_wait past name (Some l) s =
    omega (arith, waits_few l.writer.wants_commit l.writer.mirrors, s.few, sym (length-map l.writer.mirrors (λ (m : WriterMirror). m.id)) ∙ ap (λ (ids : List MirrorId). length ids) s.ids ∙ length-map l.mirrors (λ (m : Mirror). m.id))

can_call : (past : List HistoryItem) (name : List ℕ) (layout : Option Layout) → IfThere layout (λ l. LayoutStands past name (reports_server (reported_of l)) l) → IfThere layout (λ l. AreCallable l.writer)
can_call past name None s = tt
can_call past name (Some l) s = callable past name (reports_server (reported_of l)) l.writer s.writer

pub event_end : (past : List HistoryItem) (c : ClientValue) → Stands past c → Fit c → EndsOf (ends_event c).client
event_end past c s fit =
    let d : ClientValue = (run_queue c).run.client in
    let wants : Option MdsAsk = (run_queue c).wants in
    let q : QueueFits (run_queue c) = queue_fits c fit in
    let later : List HistoryItem = past ++ entered (run_queue c).run.entries in
    let goes : QueueGoes past (run_queue c) = queue_goes past c s in
    let start : Calling (run_queue c).wants 4 d = record { fit = q.fit; stops = q.stops; callable = can_call later d.name d.layout goes.run.stands.layout_stands; few = λ some. few_wait later d.name d.layout goes.run.stands.layout_stands } in
    mds_end (later ++ sent (calls_mirrors d).sends) (calls_mirrors d).client (mirrors_go later d goes.run.stands).stands (run_queue c).wants (mirrors_calling (run_queue c).wants d start)
