-- Each operation on files and layouts, but for a READ, keeps what holds by the history.
use Rattle.std.proofs.Common.{◌≡◌, ◌≤◌, ℕ, ◌+◌, Bool, true, false, List, [], ◌∷◌, length, Option, Some, None, refl, sym, ap, subst, ◌∙◌, inl}
use Rattle.std.specs.Prelude.{is_some}
use Rattle.std.specs.List.{AllByRecursion}
use Rattle.std.proofs.lemmas.Bool.{cond_both}
use Rattle.std.proofs.lemmas.Option.{same_Some}
use Rattle.ff_xdr.specs.Form.{Value}
use Rattle.ff_xdr.specs.Arms.{arm, by_arm, of_each_arm}
use Rattle.cluster_model.specs.declared.ids.NodeId.{NodeId}
use Rattle.cluster_model.specs.declared.ids.NodeId.TheVariants.{Mds, Server, Client}
use Rattle.cluster_model.specs.declared.ids.FileId.{FileId}
use Rattle.cluster_model.specs.declared.phase.EndCause.TheVariants.{ReturnedAll}
use Rattle.cluster_model.specs.declared.phase.Phase.{Phase}
use Rattle.cluster_model.specs.declared.entry.Entry.TheVariants as entry
use Rattle.cluster_model.specs.Phases.{holder_of}
use Rattle.cluster_laws.proofs.FewMirrors.{FileHasFew}
use Rattle.device_addr.specs.Universal.{AddressValue}
use Rattle.file_rule.specs.MdsFiles.{MdsFile}
use Rattle.file_rule.specs.FilePhases.{FileInput, OwnWrite, AsksLayout, Returns}
use Rattle.ff_layout.specs.IoError.{ff_ioerr4}
use Rattle.layout_report.specs.Reports.{report_of}
use Rattle.nfs4_types.specs.declared.status.Stat4.{Stat4}
use Rattle.nfs4_types.specs.declared.status.Stat4.TheVariants as stat
use Rattle.nfs4_file_ops.specs.Close.{close4_args}
use Rattle.nfs4_file_ops.specs.Open.{open4_args}
use Rattle.nfs4_file_ops.specs.Write.{write4_args}
use Rattle.nfs4_file_ops.specs.GetDeviceInfo.{getdeviceinfo4_args}
use Rattle.nfs4_file_ops.specs.LayoutCommit.{layoutcommit4_args}
use Rattle.nfs4_file_ops.specs.LayoutGet.{layoutget4_args}
use Rattle.nfs4_file_ops.specs.LayoutReturn.{layoutreturn4, layoutreturn_file4, layoutreturn4_args}
use Rattle.nfs4_compound.specs.Results.{resop4}
use Rattle.open_state.specs.declared.open.Open.{Open}
use Rattle.open_state.specs.Opens.{open_of}
use Rattle.mds_refusals.specs.declared.object.Object.{Object}
use Rattle.mds_refusals.specs.declared.object.Object.TheVariants.{File}
use Rattle.mds_refusals.specs.declared.layout_get.LayoutGetFound.{LayoutGetFound}
use Rattle.mds_refusals.specs.declared.open.Creation.{Creation}
use Rattle.mds_refusals.specs.Opens.{open_order}
use Rattle.mds_refusals.specs.Orders.{refusal}
use Rattle.mds_refusals.specs.Lookup.{lookup_order}
use Rattle.mds_refusals.specs.Commit.{commit_order}
use Rattle.mds_refusals.specs.LayoutReturns.{layout_return_all_order}
use Rattle.mds_refusals.specs.LayoutCommit.{layout_commit_order}
use Rattle.mds_refusals.specs.Writes.{write_order}
use Rattle.mds_refusals.specs.LayoutGets.{layout_get_order}
use Rattle.mds_refusals.specs.GetDeviceInfo.{device_info_order}
use Rattle.mds_refusals.specs.PutFh.{put_fh_order, object_of}
use Rattle.mds_rule.specs.MdsStates.{CompoundRun, ServedFile, MdsValue, MdsStep, sends_none, confirmed_node, served, with_served, numbered, file_named}
use Rattle.mds_rule.specs.OpSteps.{OpStep, with_result, at_object, gives, refused_or}
use Rattle.mds_rule.specs.ServedFiles.{takes_input, asks_back, ends_periods}
use Rattle.mds_rule.specs.SessionOps.{goes_with}
use Rattle.mds_rule.specs.FileOps.{client_of, current_file, file_or_none, stateid_in, named_in, write_verifier, put_object, runs_put_fh, get_object, runs_get_fh, runs_lookup, get_attributes, runs_get_attr, with_new_file, opens_or_makes, opens_file, open_named, creation_in, can_open, may_make, runs_open, name_in, closes, runs_close, runs_commit, write_ask, with_write, writes_at, writes_file, ends_by, is_delay, write_refused, runs_write}
use Rattle.mds_rule.specs.LayoutOps.{no_stateid, layout_asked, layout_found, with_holder, granted_in, grants_to, is_granted, phase_behind, later_by, layout_answer, runs_layout_get, is_try_later, errors_of, client_number, return_by, returns_file, file_return, returns_all, runs_layout_return, runs_layout_commit, device_from, device_size, device_answer, runs_get_device_info}
use Rattle.open_state.specs.Opens.{opened, closed}
use Rattle.mds_histories.specs.MdsHistory.{MdsItem, Enters}
use Rattle.read_runs.proofs.LeavingMirrors.{reports_leave}
use Rattle.read_runs.proofs.LiveTold.{live_in_layout, FitsPhase, LeaveSo}
use Rattle.read_runs.proofs.Holding.{AreNoReads, IsWriteSo, IsReadSo, IsServedSo, holds_still, holds_put}
use Rattle.read_runs.proofs.FileMoves.{holds_made}
use Rattle.read_runs.proofs.Steps.{Becomes, EntersSo, KeepsOp, no_entries, stays, enters_then, enters_becomes}
use Rattle.read_runs.proofs.ServedSteps.{takes, takes_by, asks, periods, refused}

-- ---- a file is put back as it stands, with other things beside it

pub served_as : (h : List MdsItem) (file : FileId) (s t : ServedFile) → t.file ≡ s.file → t.reads ≡ s.reads → IsWriteSo t.write → IsServedSo h file s → IsServedSo h file t
served_as h file s t same reads write i = record {
  live = i.live ∙ ap (λ (f : MdsFile). live_in_layout f.layout) (sym same);
  few = subst FileHasFew (sym same) i.few;
  fits = subst (λ (f : MdsFile). FitsPhase f.layout.phase f.activity) (sym same) i.fits;
  reads = subst (λ rs. AllByRecursion (IsReadSo h file) rs) (sym reads) i.reads;
  write = write;
}

pub puts : (m : MdsValue) (file : FileId) (s t : ServedFile) → served m file ≡ Some s → t.file ≡ s.file → t.reads ≡ s.reads → (IsWriteSo s.write → IsWriteSo t.write) → Becomes m (with_served m file t)
puts m file s t at same reads write h i =
    holds_put m.mirrors m.files m.calls m.next_xid h file s t i at (served_as h file s t same reads (write (i.files_so file s at).write) (i.files_so file s at))

-- ---- names and opens

object_put : (m : MdsValue) (c : CompoundRun) (o : Option Object) → KeepsOp m (put_object m c o)
object_put m c None = stays m
object_put m c (Some object) = stays m

pub puts_fh : (m : MdsValue) (c : CompoundRun) (handle : List ℕ) → KeepsOp m (runs_put_fh m c handle)
puts_fh m c handle = refused m c 22 (refusal (put_fh_order handle (length m.files))) _ (object_put m c (object_of handle))

object_got : (m : MdsValue) (c : CompoundRun) (o : Option Object) → KeepsOp m (get_object m c o)
object_got m c None = stays m
object_got m c (Some object) = stays m

pub gets_fh : (m : MdsValue) (c : CompoundRun) → KeepsOp m (runs_get_fh m c)
gets_fh m c = object_got m c c.current

pub looks_up : (m : MdsValue) (c : CompoundRun) (name : List ℕ) → KeepsOp m (runs_lookup m c name)
looks_up m c name =
    refused m c 15 (refusal (lookup_order c.current name (file_named m name))) (gives m (at_object c (File (file_or_none (file_named m name)))) (arm 15 resop4 (inl tt))) (stays m)

attributes_got : (m : MdsValue) (c : CompoundRun) (words : List ℕ) (o : Option Object) → KeepsOp m (get_attributes m c words o)
attributes_got m c words None = stays m
attributes_got m c words (Some object) = stays m

pub gets_attr : (m : MdsValue) (c : CompoundRun) (words : List ℕ) → KeepsOp m (runs_get_attr m c words)
gets_attr m c words = attributes_got m c words c.current

open_step : (m : MdsValue) (c : CompoundRun) (access : ℕ) (creation : Creation) (name : List ℕ) (o : Option FileId) → KeepsOp m (open_named m c access creation name o)
open_step m c access creation name (Some file) =
    refused m c 18 (refusal (open_order c.current name access creation (record { file = Some file; can_open = can_open m (client_of c) (Some file); can_make = may_make m }))) (opens_file m c file)
    (no_entries m (record m { opens = opened m.opens (client_of c) file }) (λ h i. i))
open_step m c access creation name None =
    refused m c 18 (refusal (open_order c.current name access creation (record { file = None; can_open = can_open m (client_of c) None; can_make = may_make m }))) (opens_or_makes m c name None)
    (no_entries m (record (with_new_file m name) { opens = opened m.opens (client_of c) (numbered (length m.files + 1)) })
    (λ h i. holds_made m.mirrors m.files m.calls m.next_xid h name m.fresh (length m.servers) (length m.files + 1) i))

pub opens : (m : MdsValue) (c : CompoundRun) (args : Value open4_args) → KeepsOp m (runs_open m c args)
opens m c (seqid, (access, (deny, (clientid, (owner, (how, claim)))))) = open_step m c access (creation_in how) (name_in claim) (file_named m (name_in claim))

close_step : (m : MdsValue) (c : CompoundRun) (file : FileId) (o : Option Open) → KeepsOp m (closes m c file o)
close_step m c file None = stays m
close_step m c file (Some o) = no_entries m (record m { opens = closed m.opens (client_of c) file }) (λ h i. i)

pub closes_file : (m : MdsValue) (c : CompoundRun) (args : Value close4_args) → KeepsOp m (runs_close m c args)
closes_file m c (seqid, stateid) = refused m c 4 _ _ (close_step m c (current_file c) (open_of m.opens (client_of c) (current_file c)))

pub commits : (m : MdsValue) (c : CompoundRun) → KeepsOp m (runs_commit m c)
commits m c = refused m c 5 (refusal (commit_order c.current)) (gives m c (arm 5 resop4 (inl write_verifier))) (stays m)

-- ---- bytes

write_begun : (m : MdsValue) (c : CompoundRun) → AreNoReads c.ops → (file : FileId) (at : ℕ) (bytes : List ℕ) (o : Option ServedFile) → served m file ≡ o → Becomes m (writes_at m c file at bytes o)
write_begun m c none file at bytes None is = λ h i. i
write_begun m c none file at bytes (Some s) is = puts m file s (with_write c at bytes s) is refl refl (λ old. none)

write_step : (m : MdsValue) (c : CompoundRun) → AreNoReads c.ops → (args : Value write4_args) → KeepsOp m (writes_file m c args)
write_step m c none (stateid, (offset, (stable, []))) = stays m
write_step m c none (stateid, (offset, (stable, (b ∷ bytes)))) =
    let s : MdsStep = takes_input m (current_file c) (OwnWrite offset (b ∷ bytes)) in
    enters_becomes m s.mds (writes_at s.mds c (current_file c) offset (b ∷ bytes) (served s.mds (current_file c))) s.entries (takes m (current_file c) (OwnWrite offset (b ∷ bytes)) (λ t. tt)).enters
    (write_begun s.mds c none (current_file c) offset (b ∷ bytes) (served s.mds (current_file c)) refl)

pub writes : (m : MdsValue) (c : CompoundRun) → AreNoReads c.ops → (now : ℕ) (args : Value write4_args) → KeepsOp m (runs_write m c now args)
writes m c none now args = by_status (refusal (write_order c.current (write_ask m c args)))
  where
    by_status : (status : Option Stat4) → KeepsOp m (write_refused m c now args status)
    by_status status =
        cond_both (is_delay status) (ends_by (asks_back m (current_file c) now) c 38 stat.Delay) (refused_or m c 38 status (writes_file m c args)) (λ (x : OpStep). KeepsOp m x)
        (λ is. (asks m (current_file c) now).enters) (λ off. refused m c 38 status (writes_file m c args) (write_step m c none args))

-- ---- layouts

granted_step : (m : MdsValue) (s : MdsStep) (c : CompoundRun) (file : FileId) (again : Bool) → EntersSo m s.mds s.entries → (o : Option ServedFile) → served s.mds file ≡ o → KeepsOp m (granted_in s c file again o)
granted_step m s c file again first None is = first
granted_step m s c file again first (Some t) is =
    enters_becomes m s.mds (with_served s.mds file (with_holder (client_of c) again t)) s.entries first (puts s.mds file t (with_holder (client_of c) again t) is refl refl (λ old. old))

grants_step : (m : MdsValue) (c : CompoundRun) (file : FileId) (again : Bool) (from : Option NodeId) → KeepsOp m (grants_to m c file again from)
grants_step m c file true from = granted_step m (sends_none m) c file true (stays m) (served m file) refl
grants_step m c file false None = stays m
grants_step m c file false (Some Mds) = stays m
grants_step m c file false (Some (Server n)) = stays m
grants_step m c file false (Some (Client n)) =
    let s : MdsStep = takes_input m file (AsksLayout n) in
    granted_step m s c file false (takes m file (AsksLayout n) (λ t. tt)).enters (served s.mds file) refl

later_step : (m : MdsValue) (c : CompoundRun) (now : ℕ) (p : Option Phase) → KeepsOp m (later_by m c now p)
later_step m c now None = stays m
later_step m c now (Some p) =
    let s : MdsStep = asks_back m (current_file c) now in
    enters_then m m s.mds (entry.Later (current_file c) p ∷ []) s.entries (λ h i. holds_still m.mirrors m.files m.calls m.next_xid h i (Enters (entry.Later (current_file c) p) ∷ []) (refl, tt) refl) (asks m (current_file c) now).enters

pub layout_gets : (m : MdsValue) (c : CompoundRun) (now : ℕ) (args : Value layoutget4_args) → KeepsOp m (runs_layout_get m c now args)
layout_gets m c now args = by_found (layout_found m c (layout_asked args)) (refusal (layout_get_order c.current (layout_asked args) (layout_found m c (layout_asked args))))
  where
    by_found : (found : LayoutGetFound) (status : Option Stat4) → KeepsOp m (layout_answer m c now found status)
    by_found found status =
        cond_both (is_try_later status) (later_by m c now (phase_behind found.fault)) (refused_or m c 50 status (grants_to m c (current_file c) (is_granted (served m (current_file c))) (confirmed_node m (client_of c)))) (λ (x : OpStep). KeepsOp m x)
        (λ is. later_step m c now (phase_behind found.fault))
        (λ off. refused m c 50 status (grants_to m c (current_file c) (is_granted (served m (current_file c))) (confirmed_node m (client_of c))) (grants_step m c (current_file c) (is_granted (served m (current_file c))) (confirmed_node m (client_of c))))

-- what is reported is said of the mirrors' servers
return_step : (m : MdsValue) (c : CompoundRun) (file : FileId) (errors : List (Value ff_ioerr4)) (o : Option ServedFile) → served m file ≡ o → KeepsOp m (return_by m c file errors o)
return_step m c file errors None at = stays m
return_step m c file errors (Some s) at =
    let input : FileInput = Returns (client_number (holder_of s.file.layout.phase)) s.file.layout.cred (report_of errors s.file.layout.live) in
    (takes_by m file input (λ t is few. subst (λ (x : ServedFile). LeaveSo file x.file input) (same_Some s t (sym at ∙ is)) (reports_leave file errors s.file.layout.live (subst (λ (x : ServedFile). length x.file.layout.live ≤ 4) (same_Some t s (sym is ∙ at)) few)))).enters

returns_step : (m : MdsValue) (c : CompoundRun) (o : Option (List (Value ff_ioerr4))) → KeepsOp m (returns_file m c o)
returns_step m c None = stays m
returns_step m c (Some errors) = return_step m c (current_file c) errors (served m (current_file c)) refl

file_step : (m : MdsValue) (c : CompoundRun) (reclaim : Bool) (layout_type : ℕ) (args : Value layoutreturn_file4) → KeepsOp m (file_return m c reclaim layout_type args)
file_step m c reclaim layout_type (offset, (length, (stateid, body))) = refused m c 51 _ _ (returns_step m c (errors_of body))

all_step : (m : MdsValue) (c : CompoundRun) (reclaim : Bool) (layout_type : ℕ) → KeepsOp m (returns_all m c reclaim layout_type)
all_step m c reclaim layout_type =
    refused m c 51 (refusal (layout_return_all_order layout_type reclaim)) (goes_with (ends_periods m (client_of c) ReturnedAll) (with_result c no_stateid)) (periods m (client_of c) ReturnedAll).enters

pub layout_returns : (m : MdsValue) (c : CompoundRun) (args : Value layoutreturn4_args) → KeepsOp m (runs_layout_return m c args)
layout_returns m c (reclaim, (layout_type, (iomode, kind))) =
    of_each_arm layoutreturn4
    (λ (v : Value layoutreturn4).
    KeepsOp m (by_arm layoutreturn4 ((λ file. file_return m c reclaim layout_type file), ((λ fsid. returns_all m c reclaim layout_type), ((λ all. returns_all m c reclaim layout_type), tt))) v))
    ((λ file. file_step m c reclaim layout_type file), ((λ fsid. all_step m c reclaim layout_type), ((λ all. all_step m c reclaim layout_type), tt))) kind

pub layout_commits : (m : MdsValue) (c : CompoundRun) (args : Value layoutcommit4_args) → KeepsOp m (runs_layout_commit m c args)
layout_commits m c (offset, (length, (reclaim, (stateid, rest)))) =
    refused m c 49 (refusal (layout_commit_order c.current (named_in m c (stateid_in stateid)))) (gives m c (arm 49 resop4 (inl None))) (stays m)

pub device_infos : (m : MdsValue) (c : CompoundRun) (args : Value getdeviceinfo4_args) → KeepsOp m (runs_get_device_info m c args)
device_infos m c (device, (layout_type, (maxcount, notify))) =
    by_status (device_from 1 m.servers device) (refusal (device_info_order layout_type (is_some (device_from 1 m.servers device)) maxcount (device_size (device_from 1 m.servers device))))
  where
    by_status : (found : Option AddressValue) (status : Option Stat4) → KeepsOp m (device_answer m c maxcount found status)
    by_status found None = stays m
    by_status found (Some stat.TooSmall) = stays m
    by_status found (Some status) = stays m
