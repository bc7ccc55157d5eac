-- The operations on layouts and devices (RFC 8881, sections 18.40 and 18.42 to 18.44; RFC 8435, sections 4, 5 and 9).
use Rattle.std.specs.Prelude.{ℕ, ◌+◌, Bool, true, false, ◌==◌, List, [], ◌∷◌, length, bytes_eq, Option, Some, None, is_some, Result, Ok, Err, if◌then◌else◌}
use Rattle.std.proofs.Common.{inl, inr}
use Rattle.ff_xdr.specs.Form.{Value}
use Rattle.ff_xdr.specs.Arms.{arm, by_arm}
use Rattle.ff_xdr.specs.Reading.{reading, whole}
use Rattle.ff_xdr.specs.declared.error.XdrError.{XdrError}
use Rattle.cluster_model.specs.declared.ids.NodeId.{NodeId}
use Rattle.cluster_model.specs.declared.ids.NodeId.TheVariants.{Mds, Server, Client}
use Rattle.cluster_model.specs.declared.ids.FileId.{FileId}
use Rattle.cluster_model.specs.declared.phase.EndCause.TheVariants.{ReturnedAll}
use Rattle.cluster_model.specs.declared.phase.Phase.{Phase}
use Rattle.cluster_model.specs.declared.entry.Entry.TheVariants as entry
use Rattle.cluster_model.specs.declared.layout_state.LayoutState.{LayoutState}
use Rattle.cluster_model.specs.Phases.{phase_of, holder_of}
use Rattle.file_rule.specs.FilePhases.{AsksLayout, Returns}
use Rattle.layout_state.specs.declared.grant.GrantFault.{GrantFault}
use Rattle.layout_state.specs.declared.grant.GrantFault.TheVariants.{Later, Spent}
use Rattle.layout_state.specs.Grants.{grant_fault, is_held}
use Rattle.layout_report.specs.Reports.{report_of}
use Rattle.ff_layout.specs.IoError.{ff_ioerr4}
use Rattle.ff_layout.specs.ReturnBody.{ff_layoutreturn4}
use Rattle.device_addr.specs.Universal.{AddressValue}
use Rattle.nfs4_types.specs.declared.status.Stat4.{Stat4}
use Rattle.nfs4_types.specs.declared.status.Stat4.TheVariants as stat
use Rattle.nfs4_types.specs.Ids.{device_id_of}
use Rattle.nfs4_types.specs.Stateids.{layout_stateid_of}
use Rattle.nfs4_file_ops.specs.GetDeviceInfo.{getdeviceinfo4_args}
use Rattle.nfs4_file_ops.specs.LayoutCommit.{layoutcommit4_args}
use Rattle.nfs4_file_ops.specs.LayoutGet.{layoutget4_args}
use Rattle.nfs4_file_ops.specs.LayoutReturn.{layoutreturn4, layoutreturn_file4, layoutreturn4_args}
use Rattle.nfs4_file_ops.specs.declared.layout_get.LayoutGetArgs.{LayoutGetArgs}
use Rattle.nfs4_compound.specs.Results.{resop4}
use Rattle.open_state.specs.Opens.{next_seqid}
use Rattle.mds_refusals.specs.Orders.{refusal}
use Rattle.mds_refusals.specs.LayoutGets.{layout_get_order}
use Rattle.mds_refusals.specs.declared.layout_get.LayoutGetFound.{LayoutGetFound}
use Rattle.mds_refusals.specs.LayoutReturns.{layout_return_order, layout_return_all_order}
use Rattle.mds_refusals.specs.LayoutCommit.{layout_commit_order}
use Rattle.mds_refusals.specs.GetDeviceInfo.{device_info_order}
use Rattle.mds_rule.specs.MdsStates.{CompoundRun, ServedFile, MdsValue, MdsStep, sends_none, confirmed_node, served, with_served}
use Rattle.mds_rule.specs.OpSteps.{OpStep, Goes, Ends, with_result, gives, refuses, by_order, refused_or}
use Rattle.mds_rule.specs.ServedFiles.{takes_input, asks_back}
use Rattle.mds_rule.specs.SessionOps.{goes_with}
use Rattle.mds_rule.specs.FileOps.{client_of, current_file, stateid_in, named_in, uids_left, ends_by}
use Rattle.granted_layouts.specs.GrantedBodies.{layout_body, whole_layout, layout_length, layout_result, device_body, device_info_length, device_info_result}

-- ---- LAYOUTGET 50 (section 18.43)

abbrev pub layout_asked : Value layoutget4_args → LayoutGetArgs
layout_asked (signal, (layout_type, (iomode, (offset, (length, (minlength, (stateid, maxcount))))))) =
    record { signal = signal; layout_type = layout_type; iomode = iomode; offset = offset; length = length; minlength = minlength; stateid = stateid_in stateid; maxcount = maxcount }

-- Why the file is not granted to this client: by its id, whatever node it calls from.
abbrev pub holds_by : ℕ → Option ℕ → Bool
holds_by client None = false
holds_by client (Some holder) = holder == client

abbrev pub fault_of_holder : LayoutState → ℕ → Bool → Option NodeId → NodeId → Option GrantFault
fault_of_holder layout left is_its None node = grant_fault layout node left
fault_of_holder layout left true (Some holder) node = grant_fault layout holder left
fault_of_holder layout left false (Some holder) node = Some (Later (phase_of layout.phase))

abbrev pub layout_fault : MdsValue → CompoundRun → Option ServedFile → Option GrantFault
layout_fault m c None = Some Spent
layout_fault m c (Some s) = fault_of_holder s.file.layout (uids_left m) (holds_by (client_of c) s.holder) (holder_of s.file.layout.phase) c.node

abbrev pub size_for : Option ServedFile → ℕ
size_for None = 0
size_for (Some s) = layout_length s.file.layout.cred.0 s.file.layout.live

abbrev pub layout_found : MdsValue → CompoundRun → LayoutGetArgs → LayoutGetFound
layout_found m c args = record { named = named_in m c args.stateid; fault = layout_fault m c (served m (current_file c)); size = size_for (served m (current_file c)) }

-- the layout's stateid: its seqid is 1 with a new grant, and goes on with each that is given again
abbrev pub with_holder : ℕ → Bool → ServedFile → ServedFile
with_holder client again s = record s { holder = Some client; seqid = if again then next_seqid s.seqid else 1 }

abbrev pub layout_of_file : FileId → ServedFile → Value resop4
layout_of_file file s = arm 50 resop4 (layout_result (layout_stateid_of file.0 s.file.layout.cred.0 s.seqid) (whole_layout (layout_body s.file.layout.cred.0 s.file.layout.live) ∷ []))

abbrev pub grants_as : MdsStep → CompoundRun → FileId → ServedFile → OpStep
grants_as step c file s = Goes (with_served step.mds file s) step.entries (with_result c (layout_of_file file s))

abbrev pub granted_in : MdsStep → CompoundRun → FileId → Bool → Option ServedFile → OpStep
granted_in step c file again None = ends_by step c 50 stat.LayoutUnavailable
granted_in step c file again (Some s) = grants_as step c file (with_holder (client_of c) again s)

-- who holds it is the node from which the client's id was confirmed; only a client's node does
abbrev pub grants_to : MdsValue → CompoundRun → FileId → Bool → Option NodeId → OpStep
grants_to m c file true from = granted_in (sends_none m) c file true (served m file)
grants_to m c file false None = refuses m c 50 stat.LayoutUnavailable
grants_to m c file false (Some Mds) = refuses m c 50 stat.LayoutUnavailable
grants_to m c file false (Some (Server n)) = refuses m c 50 stat.LayoutUnavailable
grants_to m c file false (Some (Client n)) = let step = takes_input m file (AsksLayout n) in granted_in step c file false (served step.mds file)

abbrev pub is_granted : Option ServedFile → Bool
is_granted None = false
is_granted (Some s) = is_held s.file.layout.phase

-- LAYOUTTRYLATER: the phase is entered, and the layout that a client has of the file is asked back
abbrev pub try_later : MdsStep → CompoundRun → FileId → Phase → OpStep
try_later s c file phase = Ends s.mds (entry.Later file phase ∷ s.entries) (with_result c (arm 50 resop4 (inr (inl false)))) stat.LayoutTryLater

abbrev pub phase_behind : Option GrantFault → Option Phase
phase_behind (Some (Later phase)) = Some phase
phase_behind fault = None

abbrev pub is_try_later : Option Stat4 → Bool
is_try_later (Some stat.LayoutTryLater) = true
is_try_later status = false

abbrev pub later_by : MdsValue → CompoundRun → ℕ → Option Phase → OpStep
later_by m c now None = refuses m c 50 stat.LayoutUnavailable
later_by m c now (Some phase) = try_later (asks_back m (current_file c) now) c (current_file c) phase

abbrev pub layout_answer : MdsValue → CompoundRun → ℕ → LayoutGetFound → Option Stat4 → OpStep
layout_answer m c now found status =
    if is_try_later status then later_by m c now (phase_behind found.fault)
    else refused_or m c 50 status (grants_to m c (current_file c) (is_granted (served m (current_file c))) (confirmed_node m (client_of c)))

abbrev pub layout_by : MdsValue → CompoundRun → ℕ → LayoutGetArgs → LayoutGetFound → OpStep
layout_by m c now args found = layout_answer m c now found (refusal (layout_get_order c.current args found))

abbrev pub runs_layout_get : MdsValue → CompoundRun → ℕ → Value layoutget4_args → OpStep
runs_layout_get m c now args = layout_by m c now (layout_asked args) (layout_found m c (layout_asked args))

-- ---- LAYOUTRETURN 51 (section 18.44)

abbrev pub no_stateid : Value resop4
no_stateid = arm 51 resop4 (inl None)

-- the errors that a body reports, where it is one
abbrev pub errors_in : Result (Value ff_layoutreturn4) XdrError → Option (List (Value ff_ioerr4))
errors_in (Ok body) = Some body.0
errors_in (Err e) = None

abbrev pub errors_of : List ℕ → Option (List (Value ff_ioerr4))
errors_of body = errors_in (whole body (reading ff_layoutreturn4 body 0))

abbrev pub client_number : Option NodeId → ℕ
client_number None = 0
client_number (Some Mds) = 0
client_number (Some (Server n)) = 0
client_number (Some (Client n)) = n

abbrev pub return_by : MdsValue → CompoundRun → FileId → List (Value ff_ioerr4) → Option ServedFile → OpStep
return_by m c file errors None = refuses m c 51 stat.BadStateid
return_by m c file errors (Some s) =
    goes_with (takes_input m file (Returns (client_number (holder_of s.file.layout.phase)) s.file.layout.cred (report_of errors s.file.layout.live))) (with_result c no_stateid)

abbrev pub returns_file : MdsValue → CompoundRun → Option (List (Value ff_ioerr4)) → OpStep
returns_file m c None = refuses m c 51 stat.BadXdr
returns_file m c (Some errors) = return_by m c (current_file c) errors (served m (current_file c))

abbrev pub file_return : MdsValue → CompoundRun → Bool → ℕ → Value layoutreturn_file4 → OpStep
file_return m c reclaim layout_type (offset, (length, (stateid, body))) =
    by_order m c 51
    (layout_return_order c.current (record { layout_type = layout_type; reclaim = reclaim; offset = offset; length = length; has_body = is_some (errors_of body); named = named_in m c (stateid_in stateid) }))
    (returns_file m c (errors_of body))

-- FSID and ALL end each of the client's periods
abbrev pub returns_all : MdsValue → CompoundRun → Bool → ℕ → OpStep
returns_all m c reclaim layout_type =
    by_order m c 51 (layout_return_all_order layout_type reclaim)
    (goes_with (Rattle.mds_rule.specs.ServedFiles.ends_periods m (client_of c) ReturnedAll) (with_result c no_stateid))

abbrev pub runs_layout_return : MdsValue → CompoundRun → Value layoutreturn4_args → OpStep
runs_layout_return m c (reclaim, (layout_type, (iomode, kind))) =
    by_arm layoutreturn4 ((λ file. file_return m c reclaim layout_type file), ((λ fsid. returns_all m c reclaim layout_type), ((λ all. returns_all m c reclaim layout_type), tt))) kind

-- ---- LAYOUTCOMMIT 49 (section 18.42): it changes nothing

abbrev pub runs_layout_commit : MdsValue → CompoundRun → Value layoutcommit4_args → OpStep
runs_layout_commit m c (offset, (length, (reclaim, (stateid, rest)))) =
    by_order m c 49 (layout_commit_order c.current (named_in m c (stateid_in stateid))) (gives m c (arm 49 resop4 (inl None)))

-- ---- GETDEVICEINFO 47 (section 18.40)

abbrev pub device_from : ℕ → List AddressValue → List ℕ → Option AddressValue
device_from n [] device = None
device_from n (address ∷ servers) device = if bytes_eq (device_id_of n).0 device then Some address else device_from (n + 1) servers device

abbrev pub device_size : Option AddressValue → ℕ
device_size None = 0
device_size (Some address) = device_info_length address

abbrev pub device_bytes : ℕ → Option AddressValue → List ℕ
device_bytes maxcount None = []
device_bytes maxcount (Some address) = if maxcount == 0 then [] else device_body address

-- TOOSMALL says how many bytes would do
abbrev pub device_answer : MdsValue → CompoundRun → ℕ → Option AddressValue → Option Stat4 → OpStep
device_answer m c maxcount found (Some stat.TooSmall) = Ends m [] (with_result c (arm 47 resop4 (inr (inl (device_size found))))) stat.TooSmall
device_answer m c maxcount found status = refused_or m c 47 status (gives m c (arm 47 resop4 (device_info_result (device_bytes maxcount found))))

abbrev pub device_by : MdsValue → CompoundRun → ℕ → ℕ → Option AddressValue → OpStep
device_by m c layout_type maxcount found = device_answer m c maxcount found (refusal (device_info_order layout_type (is_some found) maxcount (device_size found)))

abbrev pub runs_get_device_info : MdsValue → CompoundRun → Value getdeviceinfo4_args → OpStep
runs_get_device_info m c (device, (layout_type, (maxcount, notify))) = device_by m c layout_type maxcount (device_from 1 m.servers device)
