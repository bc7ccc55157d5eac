-- What an answer of a data server leaves, and a timeout of a call to it.
use Rattle.client_progress.proofs.Fits.{not_both, HasUnknown, AskFits, IsUncovered, WriterFits, LayoutFits, FitOf, Fit, SameHead, fit_queue, SameAsk, fit_layout, ending_fits, ending_same}
use Rattle.client_progress.proofs.AnswersFit.{run_if}
use Rattle.client_progress.proofs.WriterSteps.{is_fenced_step, is_failed_step, is_told_step, AfterGoes}
use Rattle.std.proofs.Common.{◌≡◌, ℕ, ◌<◌, ◌≤◌, Bool, true, false, List, [], ◌∷◌, length, Option, Some, None, refl, sym, ap, subst, ◌∙◌, inl, inr, ◌⊎◌, arith}
use Rattle.std.specs.Prelude.{not, ◌==◌, if◌then◌else◌}
use Rattle.std.specs.List.{list_all, filter}
use Rattle.std.proofs.lemmas.Option.{none-some}
use Rattle.nfs4_types.specs.declared.ids.DeviceId.{DeviceId}
use Rattle.device_addr.specs.declared.net_addr.NetAddr.{NetAddr}
use Rattle.cluster_model.specs.declared.ids.MirrorId.{MirrorId}
use Rattle.cluster_model.specs.declared.phase.LeftCause.{LeftCause}
use Rattle.mirror_writer.specs.declared.call.TakenWrite.{TakenWrite}
use Rattle.mirror_writer.specs.declared.step.WriterStep.{WriterStep}
use Rattle.mirror_writer.specs.declared.step.WriterStep.TheVariants as step
use Rattle.mirror_writer.specs.Writers.{WriterValue, WriterAfter, is_covered, is_committed, open_committed}
use Rattle.mirror_writer.specs.Outstanding.{OutCall, out_at, is_covered_everywhere, has_no_mirror}
use Rattle.client_file_calls.specs.declared.open.OpenFile.{OpenFile}
use Rattle.client_mds_calls.specs.declared.ask.MdsAsk.{MdsAsk}
use Rattle.client_mds_calls.specs.declared.ask.MdsAsk.TheVariants as ask
use Rattle.client_mds_calls.specs.FittingCalls.{reports_server}
use Rattle.client_state.specs.declared.stage.LayoutStage.{LayoutStage}
use Rattle.client_state.specs.declared.stage.LayoutStage.TheVariants.{Writing, Ending, Deferred, Returning}
use Rattle.client_state.specs.declared.request.UserRequest.{UserRequest}
use Rattle.client_state.specs.declared.request.UserRequest.TheVariants.{Open, Write, Through, Commit, Read, Return}
use Rattle.client_state.specs.declared.layout.Layout.{Layout}
use Rattle.client_state.specs.declared.tie.Tie.{Tie}
use Rattle.client_state.specs.ClientStates.{ClientValue, unmoved}
use Rattle.client_state.specs.ClientQueue.{with_layout, with_writer, ending, is_writing, unknown_in, without_commit, lost_mirrors, revoked_layout}
use Rattle.client_answers.specs.ClientMirrors.{tells_covered, with_failed, mirror_failed, after_step, has_writer}
use Rattle.client_laws.specs.ClientHistory.{HistoryItem}
use Rattle.client_laws.proofs.Later.{every_map}
use Rattle.client_laws.proofs.Places.{all_at, all_from, or_right, every_filter}
use Rattle.client_laws.proofs.Stands.{Every, AtEach, IfThere, LayoutStands, CountsOnce, is_settled_there, reported_of}
use Rattle.client_laws.proofs.Steady.{kind_of}
use Rattle.client_laws.proofs.WriterMoves.{WriterMoves, nothing_out}
use Rattle.client_progress.specs.Going.{is_returning_stage, is_returning}

-- ---- the queue without a commit

commit_head : (file : Option OpenFile) (layout : Option Layout) (queue : List UserRequest) → SameHead file layout queue (without_commit queue)
commit_head file layout [] = record { opens = λ is was. was; through = λ is gone was. was }
commit_head file layout (Commit ∷ rest) = record { opens = λ is was. absurd (not_both (sym was)); through = λ is gone was. absurd (not_both (sym was)) }
commit_head file layout (Open name ∷ rest) = record { opens = λ is was. was; through = λ is gone was. was }
commit_head file layout (Write at bytes ∷ rest) = record { opens = λ is was. was; through = λ is gone was. was }
commit_head file layout (Through at bytes ∷ rest) = record { opens = λ is was. was; through = λ is gone was. was }
commit_head file layout (Read at count ∷ rest) = record { opens = λ is was. was; through = λ is gone was. was }
commit_head file layout (Return ∷ rest) = record { opens = λ is was. was; through = λ is gone was. was }

-- ---- the layout is lost

-- what is asked does not need the layout
module _ (tie : Tie) (file : Option OpenFile) (queue : List UserRequest) (l : Layout) (devices : List (DeviceId × NetAddr)) (known : HasUnknown devices (Some l) → ⊥) (still : is_returning (Some l) ≡ true → ⊥) where
  ask_lost : (kind : MdsAsk) → AskFits tie file queue (Some l) devices kind → AskFits tie file queue None devices kind
  ask_lost ask.ExchangeId fits = fits
  ask_lost ask.CreateSession fits = fits
  ask_lost ask.ReclaimComplete fits = fits
  ask_lost ask.Open fits = fits
  ask_lost ask.LayoutGet fits = absurd (none-some l (sym fits.1))
  ask_lost (ask.DeviceInfo count) fits = absurd (known fits)
  ask_lost ask.Write fits = absurd (none-some l (sym fits.1))
  ask_lost (ask.Read at count) fits = fits
  ask_lost ask.LayoutReturn fits = absurd (still fits)
  ask_lost ask.Renew fits = fits

  asks_lost : (kind : Option MdsAsk) → IfThere kind (AskFits tie file queue (Some l) devices) → IfThere kind (AskFits tie file queue None devices)
  asks_lost None fits = tt
  asks_lost (Some kind) fits = ask_lost kind fits

  lost_fit : (asked again : Option MdsAsk) → FitOf tie file queue (Some l) devices asked again → FitOf tie file queue None devices asked again
  lost_fit asked again fit = record { tied = fit.tied; held = tt; layout_fits = tt; out = asks_lost asked fit.out; anew = asks_lost again fit.anew; returning = λ is. absurd (not_both (sym is)) }

-- ---- a layout under which a call is out

none_flags : (flags : List Bool) (taken : List TakenWrite) → length flags ≡ length taken → taken ≡ [] → list_all is_covered flags ≡ true
none_flags [] taken size none = refl
none_flags (b ∷ flags) taken size none = absurd (omega (arith, size, ap (λ (ts : List TakenWrite). length ts) none))

module _ (h : List HistoryItem) (name : List ℕ) (l : Layout) (s : LayoutStands h name (reports_server (reported_of l)) l) (server : ℕ) (out : OutCall) (out_is : out_at l.writer server ≡ Some out) where
  counts : AtEach l.writer.mirrors CountsOnce
  counts place m there = (s.writer place m there).counts

  -- a write was taken, so the devices are known
  pub all_known : (devices : List (DeviceId × NetAddr)) → LayoutFits devices l → HasUnknown devices (Some l) → ⊥
  all_known devices fits unknown = by_known fits.writer.known
    where
      by_known : (l.writer.taken ≡ []) ⊎ ((length (unknown_in devices l.mirrors) == 0) ≡ true) → ⊥
      by_known (inl none) = nothing_out l.writer server out (record { counts = counts; settled = λ place m there. or_right m.has_failed (is_committed m) (none_flags m.covered l.writer.taken (s.writer place m there).size none) }) out_is
      by_known (inr known) = not_both (sym known ∙ unknown)

  -- and no LAYOUTRETURN is out
  pub not_returning : is_returning (Some l) ≡ true → ⊥
  not_returning is = nothing_out l.writer server out (record { counts = counts; settled = s.settled (s.returning (by_stage l.stage is)) }) out_is
    where
      by_stage : (stage : LayoutStage) → is_returning_stage stage ≡ true → stage ≡ Returning
      by_stage Writing is = absurd cc
      by_stage Ending is = absurd cc
      by_stage Deferred is = absurd cc
      by_stage Returning is = refl

-- ---- the writer behind a step

-- the writes that are left to tell
abbrev left_untold : Bool → WriterValue → List ℕ → List ℕ
left_untold true w untold = filter (λ n. not (is_covered_everywhere w n)) untold
left_untold false w untold = untold

flip : (b : Bool) → not b ≡ true → b ≡ false
flip true is = absurd cc
flip false is = refl

module _ (h : List HistoryItem) (name : List ℕ) (reports : ℕ → Bool) (devices : List (DeviceId × NetAddr)) (l : Layout) (fits : LayoutFits devices l) (commit : Bool) (after : WriterAfter) (moves : WriterMoves h name reports l.writer after.writer) (goes : AfterGoes commit l.writer after) where
  wanted_after : is_writing l.stage ≡ false → (after.writer.wants_commit ≡ true) ⊎ (open_committed after.writer.mirrors ≡ true)
  wanted_after ends = by_wish goes.wants (fits.writer.wanted ends)
    where
      by_wish : (after.writer.wants_commit ≡ l.writer.wants_commit) ⊎ (open_committed after.writer.mirrors ≡ true) → (l.writer.wants_commit ≡ true) ⊎ (open_committed l.writer.mirrors ≡ true) → (after.writer.wants_commit ≡ true) ⊎ (open_committed after.writer.mirrors ≡ true)
      by_wish (inr all) old = inr all
      by_wish (inl same) (inl wish) = inl (same ∙ wish)
      by_wish (inl same) (inr all) = inr (all_from is_settled_there after.writer.mirrors (moves.settled (all_at is_settled_there l.writer.mirrors all)))

  within : (n : ℕ) → n < length l.writer.taken → n < length after.writer.taken
  within n is = subst (λ (ts : List TakenWrite). n < length ts) (sym moves.taken) is

  same_untold : ((n : ℕ) → is_covered_everywhere after.writer n ≡ is_covered_everywhere l.writer n) → (n : ℕ) → IsUncovered l.writer n → IsUncovered after.writer n
  same_untold same n is = (within n is.0, same n ∙ is.1)

  writer_after : (untold : List ℕ) → is_fenced_step after.step ≡ false → Every (IsUncovered after.writer) untold → WriterFits devices l.mirrors after.writer untold l.stage
  writer_after untold free all = record {
    apart = fits.writer.apart;
    some = subst (λ (ids : List MirrorId). 1 ≤ length ids) (sym moves.ids) fits.writer.some;
    unfenced = goes.fenced free ∙ fits.writer.unfenced;
    sizes = λ place m there. (moves.stands place m there).size;
    wanted = wanted_after;
    untold_fit = all;
    known = by_known fits.writer.known;
  }
    where
      by_known : (l.writer.taken ≡ []) ⊎ ((length (unknown_in devices l.mirrors) == 0) ≡ true) → (after.writer.taken ≡ []) ⊎ ((length (unknown_in devices l.mirrors) == 0) ≡ true)
      by_known (inl none) = inl (moves.taken ∙ none)
      by_known (inr known) = inr known

  -- what was covered is told
  untold_after : Every (IsUncovered after.writer) (left_untold commit after.writer l.untold)
  untold_after = by_commit commit refl
    where
      by_covered : ((commit ≡ true) × (is_told_step after.step ≡ true)) ⊎ ((n : ℕ) → is_covered_everywhere after.writer n ≡ is_covered_everywhere l.writer n) → commit ≡ false → Every (IsUncovered after.writer) l.untold
      by_covered (inl is) none = absurd (not_both (sym is.0 ∙ none))
      by_covered (inr same) none = every_map (IsUncovered l.writer) (IsUncovered after.writer) (same_untold same) l.untold fits.writer.untold_fit

      by_commit : (b : Bool) → commit ≡ b → Every (IsUncovered after.writer) (left_untold b after.writer l.untold)
      by_commit false none = by_covered goes.covered none
      by_commit true is = every_map (λ n. IsUncovered l.writer n × (not (is_covered_everywhere after.writer n) ≡ true)) (IsUncovered after.writer) (λ n all. (within n all.0.0, flip (is_covered_everywhere after.writer n) all.1)) (filter (λ n. not (is_covered_everywhere after.writer n)) l.untold)
          (every_filter (IsUncovered l.writer) (λ n. not (is_covered_everywhere after.writer n)) l.untold fits.writer.untold_fit)

  -- no mirror failed
  quiet_fits : is_fenced_step after.step ≡ false → is_failed_step after.step ≡ false → LayoutFits devices (record l { writer = after.writer; untold = left_untold commit after.writer l.untold })
  quiet_fits free alive = record { writer = writer_after (left_untold commit after.writer l.untold) free untold_after; sound = λ writing. goes.sound alive (fits.sound writing) }

  -- a mirror failed
  failed_fits : (id : MirrorId) (cause : LeftCause) → is_fenced_step after.step ≡ false → is_told_step after.step ≡ false → LayoutFits devices (ending (with_failed (with_writer l after.writer) id cause))
  failed_fits id cause free failed = ending_fits devices (with_failed (with_writer l after.writer) id cause) (writer_after l.untold free (by_covered goes.covered))
    where
      by_covered : ((commit ≡ true) × (is_told_step after.step ≡ true)) ⊎ ((n : ℕ) → is_covered_everywhere after.writer n ≡ is_covered_everywhere l.writer n) → Every (IsUncovered after.writer) l.untold
      by_covered (inl is) = absurd (not_both (sym is.1 ∙ failed))
      by_covered (inr same) = every_map (IsUncovered l.writer) (IsUncovered after.writer) (same_untold same) l.untold fits.writer.untold_fit

-- none is left to tell
dropped_fits : (devices : List (DeviceId × NetAddr)) (l : Layout) → LayoutFits devices l → LayoutFits devices (record l { untold = [] })
dropped_fits devices l fits = record {
  writer = record {
    apart = fits.writer.apart;
    some = fits.writer.some;
    unfenced = fits.writer.unfenced;
    sizes = fits.writer.sizes;
    wanted = fits.writer.wanted;
    untold_fit = tt;
    known = fits.writer.known;
  };
  sound = fits.sound;
}

-- ---- what an answer and a timeout come to

module _ (h : List HistoryItem) (name : List ℕ) (reports : ℕ → Bool) (c : ClientValue) (fit : Fit c) (l : Layout) (at : c.layout ≡ Some l) (known : HasUnknown c.devices (Some l) → ⊥) (still : is_returning (Some l) ≡ true → ⊥)
    (commit : Bool) (after : WriterAfter) (moves : WriterMoves h name reports l.writer after.writer) (goes : AfterGoes commit l.writer after) where
  -- the layout becomes this
  become_fit : (new : Layout) → SameAsk l new → (LayoutFits c.devices l → LayoutFits c.devices new) → FitOf c.tie c.file c.queue (Some new) c.devices (kind_of c.asked) c.again
  become_fit new same keeps = fit_layout c.tie c.file c.queue c.layout l new c.devices (kind_of c.asked) c.again at same keeps fit

  told_fit : (file : OpenFile) → is_fenced_step after.step ≡ false → is_failed_step after.step ≡ false → (b : Bool) → commit ≡ b → Fit (if b then tells_covered file (has_writer c l after).layout (has_writer c l after) else unmoved (has_writer c l after)).client
  told_fit file free alive true is =
      become_fit (record l { writer = after.writer; untold = filter (λ n. not (is_covered_everywhere after.writer n)) l.untold }) (record { mirrors = refl; stage = refl })
      (λ fits. subst (λ b. LayoutFits c.devices (record l { writer = after.writer; untold = left_untold b after.writer l.untold })) is (quiet_fits h name reports c.devices l fits commit after moves goes free alive))
  told_fit file free alive false is =
      become_fit (with_writer l after.writer) (record { mirrors = refl; stage = refl })
      (λ fits. subst (λ b. LayoutFits c.devices (record l { writer = after.writer; untold = left_untold b after.writer l.untold })) is (quiet_fits h name reports c.devices l fits commit after moves goes free alive))

  failed_fit : (id : MirrorId) (cause : LeftCause) → is_fenced_step after.step ≡ false → is_told_step after.step ≡ false → Fit (mirror_failed id cause (Some (with_writer l after.writer)) (has_writer c l after)).client
  failed_fit id cause free failed =
      run_if Fit (has_no_mirror after.writer) (lost_mirrors new (has_writer c l after)) (unmoved (with_layout (has_writer c l after) (ending new)))
      (λ none. fit_queue c.tie c.file c.queue (without_commit c.queue) (Some (record (ending new) { untold = [] })) c.devices (kind_of c.asked) c.again (commit_head c.file (Some (record (ending new) { untold = [] })) c.queue)
      (become_fit (record (ending new) { untold = [] }) (record { mirrors = same.mirrors; stage = same.stage }) (λ fits. dropped_fits c.devices (ending new) (failed_fits h name reports c.devices l fits commit after moves goes id cause free failed))))
      (λ some. become_fit (ending new) (record { mirrors = same.mirrors; stage = same.stage }) (λ fits. failed_fits h name reports c.devices l fits commit after moves goes id cause free failed))
    where
      new : Layout
      new = with_failed (with_writer l after.writer) id cause

      same : SameAsk (with_failed (with_writer l after.writer) id cause) (ending (with_failed (with_writer l after.writer) id cause))
      same = ending_same (with_failed (with_writer l after.writer) id cause)

  revoked_fit : Fit (revoked_layout (has_writer c l after)).client
  revoked_fit = fit_queue c.tie c.file c.queue (without_commit c.queue) None c.devices (kind_of c.asked) c.again (commit_head c.file None c.queue)
      (lost_fit c.tie c.file c.queue l c.devices known still (kind_of c.asked) c.again (subst (λ (o : Option Layout). FitOf c.tie c.file c.queue o c.devices (kind_of c.asked) c.again) at fit))

  by_step : (file : OpenFile) (came : WriterStep) → after.step ≡ came → Fit (after_step commit file came (has_writer c l after)).client
  by_step file step.Stranger is = become_fit (with_writer l after.writer) (record { mirrors = refl; stage = refl }) (λ fits. stranger_fits fits)
    where
      stranger_fits : LayoutFits c.devices l → LayoutFits c.devices (with_writer l after.writer)
      stranger_fits fits = by_covered goes.covered
        where
          by_covered : ((commit ≡ true) × (is_told_step after.step ≡ true)) ⊎ ((n : ℕ) → is_covered_everywhere after.writer n ≡ is_covered_everywhere l.writer n) → LayoutFits c.devices (with_writer l after.writer)
          by_covered (inr same) = record { writer = writer_after h name reports c.devices l fits commit after moves goes l.untold (ap is_fenced_step is) (every_map (IsUncovered l.writer) (IsUncovered after.writer) (same_untold h name reports c.devices l fits commit after moves goes same) l.untold fits.writer.untold_fit); sound = λ writing. goes.sound (ap is_failed_step is) (fits.sound writing) }
          by_covered (inl so) = absurd (not_both (sym so.1 ∙ ap is_told_step is))
  by_step file step.Waiting is = told_fit file (ap is_fenced_step is) (ap is_failed_step is) commit refl
  by_step file step.Committed is = told_fit file (ap is_fenced_step is) (ap is_failed_step is) commit refl
  by_step file (step.Failed id cause) is = failed_fit id cause (ap is_fenced_step is) (ap is_told_step is)
  by_step file (step.Fenced id status) is = revoked_fit

  pub after_fit : (file : OpenFile) → Fit (after_step commit file after.step (has_writer c l after)).client
  after_fit file = by_step file after.step refl
