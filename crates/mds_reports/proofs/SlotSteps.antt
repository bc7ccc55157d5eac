-- The operations of a client's requests on a slot leave the table of clients as it is, and end by another status than BADSESSION.
use Rattle.std.proofs.Common.{◌≡◌, ℕ, Bool, true, false, List, [], ◌∷◌, ◌++◌, length, Option, Some, None, refl, inl}
use Rattle.std.specs.Prelude.{◌==◌, map, nat_eq, is_some}
use Rattle.std.specs.List.{list_any}
use Rattle.std.proofs.lemmas.Bool.{cond_both}
use Rattle.ff_xdr.specs.Form.{Value}
use Rattle.ff_xdr.specs.Arms.{arm}
use Rattle.cluster_model.specs.declared.ids.NodeId.{NodeId}
use Rattle.cluster_model.specs.declared.ids.NodeId.TheVariants.{Mds, Server, Client}
use Rattle.cluster_model.specs.declared.ids.FileId.{FileId}
use Rattle.cluster_model.specs.declared.phase.Phase.{Phase}
use Rattle.device_addr.specs.Universal.{AddressValue}
use Rattle.ff_layout.specs.IoError.{ff_ioerr4}
use Rattle.layout_report.specs.Reports.{report_of}
use Rattle.file_rule.specs.FilePhases.{AsksLayout, Returns}
use Rattle.nfs4_types.specs.declared.status.Stat4.{Stat4}
use Rattle.nfs4_types.specs.declared.status.Stat4.TheVariants as stat
use Rattle.nfs4_types.specs.Status.{stat4_number}
use Rattle.nfs4_file_ops.specs.Open.{open4_args}
use Rattle.nfs4_file_ops.specs.Read.{read4_args}
use Rattle.nfs4_file_ops.specs.Write.{write4_args}
use Rattle.nfs4_file_ops.specs.GetDeviceInfo.{getdeviceinfo4_args}
use Rattle.nfs4_file_ops.specs.LayoutGet.{layoutget4_args}
use Rattle.nfs4_file_ops.specs.LayoutReturn.{layoutreturn_file4}
use Rattle.nfs4_compound.specs.Args.{argop4}
use Rattle.nfs4_compound.specs.Results.{resop4}
use Rattle.nfs4_session.specs.declared.begin.SlotPass.{SlotPass}
use Rattle.nfs4_session.specs.Clients.{client_in}
use Rattle.mds_refusals.specs.declared.object.Object.{Object}
use Rattle.mds_refusals.specs.Orders.{Order, refusal}
use Rattle.mds_refusals.specs.PutFh.{put_fh_order, object_of}
use Rattle.mds_refusals.specs.Opens.{open_order}
use Rattle.mds_refusals.specs.Reads.{read_order}
use Rattle.mds_refusals.specs.Writes.{write_order}
use Rattle.mds_refusals.specs.LayoutReturns.{layout_return_order}
use Rattle.mds_refusals.specs.LayoutGets.{layout_get_order}
use Rattle.mds_refusals.specs.GetDeviceInfo.{device_info_order}
use Rattle.mds_rule.specs.MdsStates.{CompoundRun, ServedFile, MdsValue, MdsStep, sends_none, confirmed_node, served, file_named}
use Rattle.mds_rule.specs.OpSteps.{OpStep, Goes, Ends, Waits, with_result, refuses, by_order, refused_or}
use Rattle.mds_rule.specs.ServedFiles.{takes_input}
use Rattle.mds_rule.specs.SessionOps.{reclaims}
use Rattle.mds_rule.specs.FileOps.{client_of, current_file, stateid_in, named_in, may_make, can_open, name_in, put_object, runs_put_fh, get_object, opens_or_makes, creation_in, runs_open, read_length, reads_at, read_ask, runs_read, write_ask, writes_file, write_refused, runs_write}
use Rattle.mds_rule.specs.LayoutOps.{layout_asked, layout_found, granted_in, grants_to, is_granted, is_try_later, phase_behind, later_by, layout_answer, runs_layout_get, errors_of, return_by, returns_file, file_return, device_from, device_size, device_answer, runs_get_device_info}
use Rattle.mds_rule.specs.Compounds.{operate}
use Rattle.mds_refusals.specs.declared.layout_get.LayoutGetFound.{LayoutGetFound}
use Rattle.client_mds_calls.specs.MdsCalls.{SlotCallValue}
use Rattle.client_mds_calls.specs.MdsCalls as slot
use Rattle.client_mds_calls.specs.MdsCompounds.{slot_ops}
use Rattle.nfs4_types.specs.Handles.{file_handle_of}
use Rattle.nfs4_types.specs.Ids.{device_id_of}
use Rattle.nfs4_types.specs.Stateids.{stateid4_value}
use Rattle.nfs4_file_ops.specs.OpenHow.{createhow4, openflag4}
use Rattle.client_file_calls.specs.declared.open.TheConstants.{SHARE_BOTH}
use Rattle.client_file_calls.specs.declared.layouts.TheConstants.{MAX_COUNT}
use Rattle.client_file_calls.specs.FileOps.{whole_length, flex_files, reads_and_writes, put_fh_op, device_info_op, return_body}
use Rattle.mds_walk.proofs.Lists.{AllOf}
use Rattle.mds_replies.proofs.ReplyForms.{in_order}
use Rattle.mds_replies.proofs.SameTables.{input_same}

-- another status than BADSESSION
abbrev pub IsOtherStatus : Stat4 → Type 0
IsOtherStatus status = (stat4_number status == 10052) ≡ false

abbrev pub StepStays : MdsValue → OpStep → Type 0
StepStays m (Goes n entries d) = n.sessions ≡ m.sessions
StepStays m (Ends n entries d status) = IsOtherStatus status
StepStays m (Waits n entries) = Unit {0}

by_status_so : (m : MdsValue) (c : CompoundRun) (number : ℕ) (o : Option Stat4) (step : OpStep) → ((status : Stat4) → o ≡ Some status → IsOtherStatus status) → StepStays m step → StepStays m (refused_or m c number o step)
by_status_so m c number None step other its = its
by_status_so m c number (Some status) step other its = other status refl

ordered : (m : MdsValue) (c : CompoundRun) (number : ℕ) (order : Order) (step : OpStep) → AllOf (λ (f : Bool × Stat4). IsOtherStatus f.1) order → StepStays m step → StepStays m (by_order m c number order step)
ordered m c number order step all its = by_status_so m c number (refusal order) step (in_order IsOtherStatus order all) its

-- ---- names and opens

put_stays : (m : MdsValue) (c : CompoundRun) (o : Option Object) → StepStays m (put_object m c o)
put_stays m c None = refl
put_stays m c (Some object) = refl

put_fh_stays : (m : MdsValue) (c : CompoundRun) (handle : List ℕ) → StepStays m (runs_put_fh m c handle)
put_fh_stays m c handle = ordered m c 22 (put_fh_order handle (length m.files)) (put_object m c (object_of handle)) (refl, (refl, tt)) (put_stays m c (object_of handle))

get_stays : (m : MdsValue) (c : CompoundRun) (o : Option Object) → StepStays m (get_object m c o)
get_stays m c None = refl
get_stays m c (Some object) = refl

opens_stays : (m : MdsValue) (c : CompoundRun) (name : List ℕ) (o : Option FileId) → StepStays m (opens_or_makes m c name o)
opens_stays m c name (Some file) = refl
opens_stays m c name None = refl

open_stays : (m : MdsValue) (c : CompoundRun) (args : Value open4_args) → StepStays m (runs_open m c args)
open_stays m c (seqid, (access, (deny, (clientid, (owner, (how, claim)))))) =
    ordered m c 18 (open_order c.current (name_in claim) access (creation_in how) (record { file = file_named m (name_in claim); can_open = can_open m (client_of c) (file_named m (name_in claim)); can_make = may_make m })) (opens_or_makes m c (name_in claim) (file_named m (name_in claim))) (refl, (refl, (refl, (refl, (refl, (refl, (refl, tt))))))) (opens_stays m c (name_in claim) (file_named m (name_in claim)))

-- ---- bytes

reads_stay : (m : MdsValue) (c : CompoundRun) (file : FileId) (at count : ℕ) (o : Option ServedFile) → StepStays m (reads_at m c file at count o)
reads_stay m c file at count None = refl
reads_stay m c file at count (Some s) = tt

read_stays : (m : MdsValue) (c : CompoundRun) (args : Value read4_args) → StepStays m (runs_read m c args)
read_stays m c (stateid, (offset, count)) =
    ordered m c 25 (read_order c.current (read_ask m c (stateid, (offset, count)))) (reads_at m c (current_file c) offset (read_length count) (served m (current_file c))) (refl, (refl, (refl, (refl, (refl, tt))))) (reads_stay m c (current_file c) offset (read_length count) (served m (current_file c)))

writes_stay : (m : MdsValue) (c : CompoundRun) (args : Value write4_args) → StepStays m (writes_file m c args)
writes_stay m c (stateid, (offset, (stable, []))) = refl
writes_stay m c (stateid, (offset, (stable, (b ∷ bytes)))) = tt

write_stays : (m : MdsValue) (c : CompoundRun) (now : ℕ) (args : Value write4_args) → StepStays m (runs_write m c now args)
write_stays m c now args = by_status (refusal (write_order c.current (write_ask m c args))) refl
  where
    by_status : (o : Option Stat4) → refusal (write_order c.current (write_ask m c args)) ≡ o → StepStays m (write_refused m c now args o)
    by_status None is = writes_stay m c args
    by_status (Some status) is =
        in_order (λ (s : Stat4). StepStays m (write_refused m c now args (Some s))) (write_order c.current (write_ask m c args)) (refl, (refl, (refl, (refl, (refl, (refl, (refl, tt))))))) status is

-- ---- layouts and devices

granted_stays : (m : MdsValue) (step : MdsStep) (c : CompoundRun) (file : FileId) (again : Bool) (o : Option ServedFile) → step.mds.sessions ≡ m.sessions → StepStays m (granted_in step c file again o)
granted_stays m step c file again None same = refl
granted_stays m step c file again (Some s) same = same

grants_stay : (m : MdsValue) (c : CompoundRun) (file : FileId) (again : Bool) (from : Option NodeId) → StepStays m (grants_to m c file again from)
grants_stay m c file true from = granted_stays m (sends_none m) c file true (served m file) refl
grants_stay m c file false None = refl
grants_stay m c file false (Some Mds) = refl
grants_stay m c file false (Some (Server n)) = refl
grants_stay m c file false (Some (Client n)) =
    granted_stays m (takes_input m file (AsksLayout n)) c file false (served (takes_input m file (AsksLayout n)).mds file) (input_same m file (AsksLayout n) (served m file)).sessions

later_stays : (m : MdsValue) (c : CompoundRun) (now : ℕ) (o : Option Phase) → StepStays m (later_by m c now o)
later_stays m c now None = refl
later_stays m c now (Some phase) = refl

layout_get_stays : (m : MdsValue) (c : CompoundRun) (now : ℕ) (args : Value layoutget4_args) → StepStays m (runs_layout_get m c now args)
layout_get_stays m c now args = by_found (layout_found m c (layout_asked args))
  where
    by_found : (found : LayoutGetFound) → StepStays m (layout_answer m c now found (refusal (layout_get_order c.current (layout_asked args) found)))
    by_found found =
        cond_both (is_try_later (refusal (layout_get_order c.current (layout_asked args) found))) (later_by m c now (phase_behind found.fault))
        (refused_or m c 50 (refusal (layout_get_order c.current (layout_asked args) found)) (grants_to m c (current_file c) (is_granted (served m (current_file c))) (confirmed_node m (client_of c)))) (λ (s : OpStep). StepStays m s)
        (λ later. later_stays m c now (phase_behind found.fault))
        (λ other. by_status_so m c 50 (refusal (layout_get_order c.current (layout_asked args) found)) (grants_to m c (current_file c) (is_granted (served m (current_file c))) (confirmed_node m (client_of c)))
        (in_order IsOtherStatus (layout_get_order c.current (layout_asked args) found) (refl, (refl, (refl, (refl, (refl, (refl, (refl, (refl, (refl, (refl, (refl, tt))))))))))))
        (grants_stay m c (current_file c) (is_granted (served m (current_file c))) (confirmed_node m (client_of c))))

device_stays : (m : MdsValue) (c : CompoundRun) (args : Value getdeviceinfo4_args) → StepStays m (runs_get_device_info m c args)
device_stays m c (device, (layout_type, (maxcount, notify))) = by_found (device_from 1 m.servers device)
  where
    by_found : (found : Option AddressValue) → StepStays m (device_answer m c maxcount found (refusal (device_info_order layout_type (is_some found) maxcount (device_size found))))
    by_found found = by_status (refusal (device_info_order layout_type (is_some found) maxcount (device_size found))) refl
      where
        by_status : (o : Option Stat4) → refusal (device_info_order layout_type (is_some found) maxcount (device_size found)) ≡ o → StepStays m (device_answer m c maxcount found o)
        by_status None is = refl
        by_status (Some status) is = in_order (λ (s : Stat4). StepStays m (device_answer m c maxcount found (Some s))) (device_info_order layout_type (is_some found) maxcount (device_size found)) (refl, (refl, (refl, tt))) status is

returns_stay : (m : MdsValue) (c : CompoundRun) (o : Option (List (Value ff_ioerr4))) → StepStays m (returns_file m c o)
returns_stay m c None = refl
returns_stay m c (Some errors) = by_file (served m (current_file c))
  where
    by_file : (o : Option ServedFile) → StepStays m (return_by m c (current_file c) errors o)
    by_file None = refl
    by_file (Some s) = (input_same m (current_file c) (Returns _ s.file.layout.cred (report_of errors s.file.layout.live)) (served m (current_file c))).sessions

file_return_stays : (m : MdsValue) (c : CompoundRun) (reclaim : Bool) (layout_type : ℕ) (args : Value layoutreturn_file4) → StepStays m (file_return m c reclaim layout_type args)
file_return_stays m c reclaim layout_type (offset, (length, (stateid, body))) =
    ordered m c 51
    (layout_return_order c.current (record { layout_type = layout_type; reclaim = reclaim; offset = offset; length = length; has_body = is_some (errors_of body); named = named_in m c (stateid_in stateid) }))
    (returns_file m c (errors_of body)) (refl, (refl, (refl, (refl, (refl, tt))))) (returns_stay m c (errors_of body))

reclaims_stay : (m : MdsValue) (c : CompoundRun) (o : Option SlotPass) → StepStays m (reclaims m c o)
reclaims_stay m c None = refl
reclaims_stay m c (Some pass) =
    cond_both (list_any (nat_eq (client_in pass.session)) m.reclaimed) (refuses m c 58 stat.CompleteAlready)
    (Goes (record m { reclaimed = m.reclaimed ++ client_in pass.session ∷ [] }) [] (with_result c (arm 58 resop4 (inl tt)))) (λ (s : OpStep). StepStays m s) (λ is. refl) (λ off. refl)

-- ---- the operations of a request

abbrev pub OpStays : Value argop4 → Type 0
OpStays op = (now : ℕ) (m : MdsValue) (c : CompoundRun) → StepStays m (operate now m c op)

devices_stay : (servers : List ℕ) → AllOf OpStays (map device_info_op servers)
devices_stay [] = tt
devices_stay (n ∷ servers) = (λ now m c. device_stays m c ((device_id_of n).0, (flex_files, (MAX_COUNT, []))), devices_stay servers)

abbrev put_stays_at : (file : FileId) → OpStays (put_fh_op file)
put_stays_at file now m c = put_fh_stays m c (file_handle_of file.0)

pub ops_stay : (name : List ℕ) (call : SlotCallValue) → AllOf OpStays (slot_ops name call)
ops_stay name slot.ReclaimComplete = (λ now m c. reclaims_stay m c c.slot, tt)
ops_stay name (slot.Open file) = (
  λ now m c. refl,
  (λ now m c. open_stays m c (0, (SHARE_BOTH, (0, (0, (name, (arm 1 openflag4 (arm 0 createhow4 ([], [])), inl file)))))), (λ now m c. get_stays m c c.current, tt)),
)
ops_stay name (slot.LayoutGet file) = (
  put_stays_at file.file,
  (λ now m c. layout_get_stays m c now (false, (flex_files, (reads_and_writes, (0, (whole_length, (0, (stateid4_value file.stateid, MAX_COUNT))))))), tt),
)
ops_stay name (slot.DeviceInfo servers) = devices_stay servers
ops_stay name (slot.Write file at bytes) = (put_stays_at file.file, (λ now m c. write_stays m c now (stateid4_value file.stateid, (at, (2, bytes))), tt))
ops_stay name (slot.Read file at count) = (put_stays_at file.file, (λ now m c. read_stays m c (stateid4_value file.stateid, (at, count)), tt))
ops_stay name (slot.LayoutReturn file stateid failed) = (
  put_stays_at file,
  (λ now m c. file_return_stays m c false flex_files (0, (whole_length, (stateid4_value stateid, return_body stateid failed))), tt),
)
ops_stay name slot.Renew = tt
