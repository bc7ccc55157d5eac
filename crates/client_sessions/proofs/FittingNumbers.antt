-- Of what a client has: the numbers that its compounds say, and that a compound which goes out fits its form.
use Rattle.std.proofs.Common.{◌≡◌, ℕ, zero, suc, ◌+◌, ◌<◌, ◌≤◌, ◌^◌, Bool, true, false, List, [], ◌∷◌, ◌++◌, length, map, replicate, Option, Some, None, sym, ap, subst, ◌∙◌, arith, inl, inr, length-append}
use Rattle.std.specs.Prelude.{slice_set, position, if◌then◌else◌}
use Rattle.std.specs.List.{AllByRecursion}
use Rattle.std.proofs.lemmas.List.{length-map}
use Rattle.std.proofs.lemmas.Option.{none-some, same_Some}
use Rattle.ff_xdr.specs.Form.{Fits, long}
use Rattle.ff_xdr.proofs.CutShort.{length-long}
use Rattle.nfs4_types.specs.declared.ids.DeviceId.{DeviceId}
use Rattle.nfs4_types.specs.declared.stateid.Stateid.{Stateid}
use Rattle.device_addr.specs.declared.net_addr.NetAddr.{NetAddr}
use Rattle.ff_layout.specs.IoError.{ff_ioerr4}
use Rattle.ff_layout.specs.ReturnBody.{ff_layoutreturn4}
use Rattle.cluster_model.specs.declared.ids.Mirror.{Mirror}
use Rattle.cluster_model.specs.declared.ids.MirrorId.{MirrorId}
use Rattle.cluster_model.specs.declared.phase.LeftCause.{LeftCause}
use Rattle.cluster_model.specs.Journal.{is_mirror}
use Rattle.client_file_calls.specs.declared.open.OpenFile.{OpenFile}
use Rattle.client_file_calls.specs.declared.grant.LayoutGrant.{LayoutGrant}
use Rattle.client_file_calls.specs.declared.layout_return.FailedMirror.{FailedMirror}
use Rattle.client_file_calls.specs.FileOps.{device_info_op, io_error_of}
use Rattle.client_mds_calls.specs.declared.ask.MdsAsk.{MdsAsk}
use Rattle.client_mds_calls.specs.declared.ask.MdsAsk.TheVariants as ask
use Rattle.client_mds_calls.specs.FittingCalls.{FitsSlotCall, FitsAsked}
use Rattle.client_mds_calls.specs.MdsCalls.{MdsCallValue, SlotCallValue}
use Rattle.client_mds_calls.specs.MdsCalls as slot
use Rattle.client_mds_calls.specs.MdsCompounds.{slot_ops}
use Rattle.client_state.specs.declared.stage.LayoutStage.{LayoutStage}
use Rattle.client_state.specs.declared.stage.LayoutStage.TheVariants.{Writing, Ending, Deferred, Returning}
use Rattle.client_state.specs.declared.request.UserRequest.{UserRequest}
use Rattle.client_state.specs.declared.request.UserRequest.TheVariants.{Open, Write, Through, Commit, Read, Return}
use Rattle.client_state.specs.declared.layout.Layout.{Layout}
use Rattle.client_state.specs.declared.tie.Tie.{Tie}
use Rattle.client_state.specs.declared.tie.Tie.TheVariants.{NoClient, HasClient, HasSession}
use Rattle.client_state.specs.ClientStates.{ClientValue}
use Rattle.client_state.specs.ClientQueue.{knows, unknown_in, ends_layout, ending}
use Rattle.client_calls.specs.ClientCalls.{failed_mirrors, open_call, through_call, devices_call, return_call, file_call, on_slot, session_call, call_by_ask, returning, layout_asked}
use Rattle.client_answers.specs.ClientMirrors.{with_status_at, reported_status, with_failed}
use Rattle.client_answers.specs.ClientAnswers.{deferred, new_layout}
use Rattle.mirror_client.specs.ClientRule.{layout_at_tick}
use Rattle.client_laws.proofs.Stands.{IfThere}
use Rattle.client_records.proofs.AnswersFit.{IsStateidInRange}
use Rattle.client_records.proofs.Cases.{IsLayoutBehind}
use Rattle.client_records.proofs.Ranges.{IsTieInRange}
use Rattle.client_sessions.proofs.GrantedNumbers.{AreServersInRange, IsFileInRange}

-- ---- ranges

abbrev pub IsStatusInRange : Option ℕ → Type 0
IsStatusInRange o = IfThere o (λ status. status < 2 ^ 32)

-- what a return of the layout says
pub record ReportFits (stateid : Stateid) (mirrors : List Mirror) (statuses : List (Option ℕ)) : Type 0 where
  pub stateid_fits : IsStateidInRange stateid
  pub few : length mirrors ≤ 4
  pub servers_fit : AreServersInRange mirrors
  pub statuses_fit : AllByRecursion IsStatusInRange statuses

abbrev pub IsReportFit : Layout → Type 0
IsReportFit l = ReportFits l.stateid l.mirrors l.statuses

pub record NumbersFit (tie : Tie) (file : Option OpenFile) (layout : Option Layout) : Type 0 where
  pub tie_fits : IsTieInRange tie
  pub file_fits : IfThere file IsFileInRange
  pub layout_fits : IfThere layout IsReportFit

-- ---- what is reported

device_fits : (server : ℕ) → length (replicate 8 0 ++ long server) ≡ 16
device_fits server = length-append (replicate 8 0) (long server) ∙ ap (λ n. 8 + n) (length-long server)

error_fits : (stateid : Stateid) → IsStateidInRange stateid → (server status : ℕ) → status < 2 ^ 32 → Fits ff_ioerr4 (io_error_of stateid (record { server = server; status = status }))
error_fits stateid fits server status small = (omega arith, (omega arith, (fits, (omega arith, ((device_fits server, (small, omega arith)), tt)))))

failed_servers : (mirrors : List Mirror) (statuses : List (Option ℕ)) → AreServersInRange mirrors → AllByRecursion (λ (f : FailedMirror). f.server < 2 ^ 64) (failed_mirrors mirrors statuses)
failed_servers [] [] all = tt
failed_servers [] (status ∷ statuses) all = tt
failed_servers (m ∷ mirrors) [] all = tt
failed_servers (m ∷ mirrors) (None ∷ statuses) all = failed_servers mirrors statuses all.1
failed_servers (m ∷ mirrors) (Some status ∷ statuses) all = (all.0, failed_servers mirrors statuses all.1)

failed_few : (mirrors : List Mirror) (statuses : List (Option ℕ)) → length (failed_mirrors mirrors statuses) ≤ length mirrors
failed_few [] [] = omega arith
failed_few [] (status ∷ statuses) = omega arith
failed_few (m ∷ mirrors) [] = omega arith
failed_few (m ∷ mirrors) (None ∷ statuses) = omega (arith, failed_few mirrors statuses)
failed_few (m ∷ mirrors) (Some status ∷ statuses) = omega (arith, failed_few mirrors statuses)

errors_fit : (stateid : Stateid) → IsStateidInRange stateid → (mirrors : List Mirror) (statuses : List (Option ℕ)) → AllByRecursion IsStatusInRange statuses
    → AllByRecursion (λ v. Fits ff_ioerr4 v) (map (io_error_of stateid) (failed_mirrors mirrors statuses))
errors_fit stateid fits [] [] all = tt
errors_fit stateid fits [] (status ∷ statuses) all = tt
errors_fit stateid fits (m ∷ mirrors) [] all = tt
errors_fit stateid fits (m ∷ mirrors) (None ∷ statuses) all = errors_fit stateid fits mirrors statuses all.1
errors_fit stateid fits (m ∷ mirrors) (Some status ∷ statuses) all = (error_fits stateid fits m.id.server status all.0, errors_fit stateid fits mirrors statuses all.1)

report_fits : (l : Layout) → IsReportFit l → Fits ff_layoutreturn4 (map (io_error_of l.stateid) (failed_mirrors l.mirrors l.statuses), [])
report_fits l r = ((omega (arith, length-map (failed_mirrors l.mirrors l.statuses) (io_error_of l.stateid), failed_few l.mirrors l.statuses, r.few), errors_fit l.stateid r.stateid_fits l.mirrors l.statuses r.statuses_fit), (omega arith, tt))

-- ---- a compound

-- a request on a slot fits, and has at most fifteen operations behind its SEQUENCE
abbrev IsRequestFit : List ℕ → SlotCallValue → Type 0
IsRequestFit name call = FitsSlotCall call × (length (slot_ops name call) ≤ 15)

open_fits : (name : List ℕ) (queue : List UserRequest) → IfThere (open_call queue) (IsRequestFit name)
open_fits name [] = tt
open_fits name (Open file ∷ rest) = (tt, omega arith)
open_fits name (Write at bytes ∷ rest) = tt
open_fits name (Through at bytes ∷ rest) = tt
open_fits name (Commit ∷ rest) = tt
open_fits name (Read at count ∷ rest) = tt
open_fits name (Return ∷ rest) = tt

through_fits : (name : List ℕ) (file : OpenFile) (queue : List UserRequest) → IfThere (through_call file queue) (IsRequestFit name)
through_fits name file [] = tt
through_fits name file (Through at bytes ∷ rest) = (tt, omega arith)
through_fits name file (Open other ∷ rest) = tt
through_fits name file (Write at bytes ∷ rest) = tt
through_fits name file (Commit ∷ rest) = tt
through_fits name file (Read at count ∷ rest) = tt
through_fits name file (Return ∷ rest) = tt

unknown_few : (devices : List (DeviceId × NetAddr)) (mirrors : List Mirror) → length (unknown_in devices mirrors) ≤ length mirrors
unknown_few devices [] = omega arith
unknown_few devices (m ∷ mirrors) = by_test (knows devices m.id.server) (unknown_few devices mirrors)
  where
    by_test : (b : Bool) → length (unknown_in devices mirrors) ≤ length mirrors → length (if b then unknown_in devices mirrors else m.id.server ∷ unknown_in devices mirrors) ≤ length (m ∷ mirrors)
    by_test true few = omega (arith, few)
    by_test false few = omega (arith, few)

devices_fit : (name : List ℕ) (c : ClientValue) (layout : Option Layout) → IfThere layout IsReportFit → IfThere (devices_call c layout) (IsRequestFit name)
devices_fit name c None fits = tt
devices_fit name c (Some l) fits = (tt, omega (arith, length-map (unknown_in c.devices l.mirrors) device_info_op, unknown_few c.devices l.mirrors, fits.few))

return_fits : (name : List ℕ) (file : OpenFile) → IsFileInRange file → (layout : Option Layout) → IfThere layout IsReportFit → IfThere (return_call file layout) (IsRequestFit name)
return_fits name file long None fits = tt
return_fits name file long (Some l) fits = ((long, (failed_servers l.mirrors l.statuses fits.servers_fit, report_fits l fits)), omega arith)

slot_so : (name : List ℕ) (tie : Tie) → IsTieInRange tie → (o : Option SlotCallValue) → IfThere o (IsRequestFit name) → (call : MdsCallValue) → on_slot tie o ≡ Some call → FitsAsked name call
slot_so name NoClient fits o its call is = absurd (none-some call is)
slot_so name (HasClient clientid sequence) fits o its call is = absurd (none-some call is)
slot_so name (HasSession s) fits None its call is = absurd (none-some call is)
slot_so name (HasSession s) fits (Some k) its call is = subst (FitsAsked name) (same_Some _ call is) ((fits.0, its.0), omega (arith, its.1))

session_so : (name : List ℕ) (tie : Tie) → (call : MdsCallValue) → session_call tie ≡ Some call → FitsAsked name call
session_so name NoClient call is = absurd (none-some call is)
session_so name (HasClient clientid sequence) call is = subst (FitsAsked name) (same_Some _ call is) (tt, omega arith)
session_so name (HasSession s) call is = absurd (none-some call is)

module _ (c : ClientValue) (i : NumbersFit c.tie c.file c.layout) where
  file_so : (kind : MdsAsk) → ((f : OpenFile) → IsFileInRange f → IfThere (file_call c (Some f) kind) (IsRequestFit c.name)) → (file : Option OpenFile) → IfThere file IsFileInRange → IfThere (file_call c file kind) (IsRequestFit c.name)
  file_so kind each None fits = tt
  file_so kind each (Some f) fits = each f fits

  by_file : (kind : MdsAsk) → ((f : OpenFile) → IsFileInRange f → IfThere (file_call c (Some f) kind) (IsRequestFit c.name)) → (call : MdsCallValue) → on_slot c.tie (file_call c c.file kind) ≡ Some call → FitsAsked c.name call
  by_file kind each call is = slot_so c.name c.tie i.tie_fits (file_call c c.file kind) (file_so kind each c.file i.file_fits) call is

  pub asked_fits : (kind : MdsAsk) (call : MdsCallValue) → call_by_ask c kind ≡ Some call → FitsAsked c.name call
  asked_fits ask.ExchangeId call is = subst (FitsAsked c.name) (same_Some _ call is) (tt, omega arith)
  asked_fits ask.CreateSession call is = session_so c.name c.tie call is
  asked_fits ask.ReclaimComplete call is = slot_so c.name c.tie i.tie_fits (Some slot.ReclaimComplete) (tt, omega arith) call is
  asked_fits ask.Open call is = slot_so c.name c.tie i.tie_fits (open_call c.queue) (open_fits c.name c.queue) call is
  asked_fits ask.LayoutGet call is = by_file ask.LayoutGet (λ f long. (long, omega arith)) call is
  asked_fits (ask.DeviceInfo count) call is = by_file (ask.DeviceInfo count) (λ f long. devices_fit c.name c c.layout i.layout_fits) call is
  asked_fits ask.Write call is = by_file ask.Write (λ f long. through_fits c.name f c.queue) call is
  asked_fits (ask.Read at count) call is = by_file (ask.Read at count) (λ f long. (tt, omega arith)) call is
  asked_fits ask.LayoutReturn call is = by_file ask.LayoutReturn (λ f long. return_fits c.name f long c.layout i.layout_fits) call is
  asked_fits ask.Renew call is = slot_so c.name c.tie i.tie_fits (Some slot.Renew) (tt, omega arith) call is

-- ---- the layout

pub with_numbers : (tie : Tie) (file : Option OpenFile) (old new : Option Layout) → NumbersFit tie file old → IfThere new IsReportFit → NumbersFit tie file new
with_numbers tie file old new i fits = record { tie_fits = i.tie_fits; file_fits = i.file_fits; layout_fits = fits }

pub ending_report : (l : Layout) → IsReportFit l → IsReportFit (ending l)
ending_report l fits = by_stage l.stage
  where
    by_stage : (stage : LayoutStage) → IsReportFit (ends_layout l stage)
    by_stage Writing = fits
    by_stage Ending = fits
    by_stage Deferred = fits
    by_stage Returning = fits

deferred_report : (layout : Option Layout) → IfThere layout IsReportFit → IfThere (deferred layout) IsReportFit
deferred_report None fits = tt
deferred_report (Some l) fits = fits

pub report_behind : (kind : MdsAsk) (old new : Option Layout) → IsLayoutBehind kind old new → IfThere old IsReportFit → IfThere new IsReportFit
report_behind kind old new (inl same) fits = subst (λ (o : Option Layout). IfThere o IsReportFit) (sym same) fits
report_behind kind old new (inr (back, same)) fits = subst (λ (o : Option Layout). IfThere o IsReportFit) (sym same) (deferred_report old fits)

pub ticked_report : (layout : Option Layout) → IfThere layout IsReportFit → IfThere (layout_at_tick layout) IsReportFit
ticked_report None fits = tt
ticked_report (Some l) fits = fits

returning_report : (layout : Option Layout) → IfThere layout IsReportFit → IfThere (returning layout) IsReportFit
returning_report None fits = tt
returning_report (Some l) fits = fits

pub asked_report : (kind : MdsAsk) (layout : Option Layout) → IfThere layout IsReportFit → IfThere (layout_asked kind layout) IsReportFit
asked_report ask.LayoutReturn layout fits = returning_report layout fits
asked_report ask.ExchangeId layout fits = fits
asked_report ask.CreateSession layout fits = fits
asked_report ask.ReclaimComplete layout fits = fits
asked_report ask.Open layout fits = fits
asked_report ask.LayoutGet layout fits = fits
asked_report (ask.DeviceInfo count) layout fits = fits
asked_report ask.Write layout fits = fits
asked_report (ask.Read at count) layout fits = fits
asked_report ask.Renew layout fits = fits

pub granted_report : (g : LayoutGrant) → IsStateidInRange g.stateid → length g.mirrors ≤ 4 → AreServersInRange g.mirrors → IsReportFit (new_layout g)
granted_report g stateid few servers = record { stateid_fits = stateid; few = few; servers_fit = servers; statuses_fit = (tt, (tt, (tt, (tt, tt)))) }

-- ---- a mirror failed

set_fits : (statuses : List (Option ℕ)) (place status : ℕ) → status < 2 ^ 32 → AllByRecursion IsStatusInRange statuses → AllByRecursion IsStatusInRange (slice_set statuses place (Some status))
set_fits [] place status small all = tt
set_fits (x ∷ statuses) zero status small all = (small, all.1)
set_fits (x ∷ statuses) (suc place) status small all = (all.0, set_fits statuses place status small all.1)

at_fits : (statuses : List (Option ℕ)) (o : Option ℕ) (status : ℕ) → status < 2 ^ 32 → AllByRecursion IsStatusInRange statuses → AllByRecursion IsStatusInRange (with_status_at statuses o status)
at_fits statuses None status small all = all
at_fits statuses (Some place) status small all = set_fits statuses place status small all

pub failed_report : (l : Layout) (id : MirrorId) (cause : LeftCause) → reported_status cause < 2 ^ 32 → IsReportFit l → IsReportFit (with_failed l id cause)
failed_report l id cause small fits = record {
  stateid_fits = fits.stateid_fits;
  few = fits.few;
  servers_fit = fits.servers_fit;
  statuses_fit = at_fits l.statuses (position (λ (m : Mirror). is_mirror id m.id) l.mirrors) (reported_status cause) small fits.statuses_fit;
}
