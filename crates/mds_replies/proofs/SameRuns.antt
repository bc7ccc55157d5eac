-- Each operation leaves of the run of its compound where the reply goes, why nothing is read behind it, and its slot; and its result stands
-- behind those before it.
use Rattle.std.proofs.Common.{◌≡◌, ℕ, Bool, true, false, List, [], ◌∷◌, ◌++◌, length, Option, Some, None, refl, ap, ◌∙◌, inl}
use Rattle.std.specs.Prelude.{is_some, nat_eq}
use Rattle.std.specs.List.{find, list_any}
use Rattle.std.proofs.lemmas.Bool.{cond_both}
use Rattle.std.proofs.lemmas.List.{append_assoc}
use Rattle.ff_xdr.specs.Form.{Value, arm_of, long}
use Rattle.ff_xdr.specs.Arms.{arm, by_arm, of_each_arm}
use Rattle.cluster_model.specs.declared.ids.NodeId.{NodeId}
use Rattle.cluster_model.specs.declared.ids.NodeId.TheVariants.{Mds, Server, Client}
use Rattle.cluster_model.specs.declared.ids.FileId.{FileId}
use Rattle.cluster_model.specs.declared.phase.Phase.{Phase}
use Rattle.cluster_model.specs.declared.phase.EndCause.TheVariants.{ClientGone, ReturnedAll}
use Rattle.device_addr.specs.Universal.{AddressValue}
use Rattle.ff_layout.specs.IoError.{ff_ioerr4}
use Rattle.file_rule.specs.FilePhases.{AsksLayout}
use Rattle.nfs4_types.specs.declared.ids.SessionId.{SessionId}
use Rattle.nfs4_types.specs.declared.status.Stat4.{Stat4}
use Rattle.nfs4_types.specs.declared.status.Stat4.TheVariants as stat
use Rattle.nfs4_types.specs.Channels.{channel_attrs4}
use Rattle.nfs4_file_ops.specs.Close.{close4_args}
use Rattle.nfs4_file_ops.specs.Open.{open4_args}
use Rattle.nfs4_file_ops.specs.Read.{read4_args}
use Rattle.nfs4_file_ops.specs.Write.{write4_args}
use Rattle.nfs4_file_ops.specs.GetDeviceInfo.{getdeviceinfo4_args}
use Rattle.nfs4_file_ops.specs.LayoutCommit.{layoutcommit4_args}
use Rattle.nfs4_file_ops.specs.LayoutReturn.{layoutreturn4, layoutreturn_file4, layoutreturn4_args}
use Rattle.nfs4_session_ops.specs.BindConn.{bind_conn4_args}
use Rattle.nfs4_session_ops.specs.ExchangeId.{exchange_id4_args}
use Rattle.nfs4_session_ops.specs.CreateSession.{create_session4_args}
use Rattle.nfs4_compound.specs.Args.{argop4}
use Rattle.nfs4_compound.specs.Results.{resop4}
use Rattle.nfs4_session.specs.declared.begin.SlotPass.{SlotPass}
use Rattle.nfs4_session.specs.declared.faults.Created.{Created}
use Rattle.nfs4_session.specs.declared.faults.IdFault.{IdFault}
use Rattle.nfs4_session.specs.declared.faults.SessionFault.{SessionFault}
use Rattle.nfs4_session.specs.Clients.{SessionsState, client_in, session_of, has_id}
use Rattle.nfs4_session.specs.ExchangeIds.{ExchangeCase, exchange_case, exchange_fault}
use Rattle.nfs4_session.specs.CreateSessions.{CreateSessionCase, create_session_case, create_session_fault, created_answer, after_creating}
use Rattle.nfs4_session.specs.Ends.{destroy_client_fault, without_session, without_client}
use Rattle.open_state.specs.declared.open.Open.{Open}
use Rattle.open_state.specs.Opens.{open_of}
use Rattle.mds_refusals.specs.declared.object.Object.{Object}
use Rattle.mds_refusals.specs.Orders.{refusal}
use Rattle.mds_refusals.specs.declared.object.Object.TheVariants.{Root, File}
use Rattle.mds_refusals.specs.Lookup.{lookup_order}
use Rattle.mds_refusals.specs.Commit.{commit_order}
use Rattle.mds_refusals.specs.LayoutReturns.{layout_return_all_order}
use Rattle.mds_refusals.specs.LayoutCommit.{layout_commit_order}
use Rattle.mds_refusals.specs.PutFh.{put_fh_order, object_of}
use Rattle.mds_refusals.specs.Writes.{write_order}
use Rattle.mds_refusals.specs.LayoutGets.{layout_get_order}
use Rattle.mds_refusals.specs.GetDeviceInfo.{device_info_order}
use Rattle.mds_rule.specs.MdsStates.{CompoundRun, ServedFile, MdsValue, MdsStep, sends_none, confirmed_node, served, file_named}
use Rattle.mds_rule.specs.OpSteps.{OpStep, Goes, Ends, Waits, with_result, at_object, gives, refuses, refused_as, refused_or}
use Rattle.mds_rule.specs.ServedFiles.{takes_input, asks_back, ends_periods, ends_client}
use Rattle.mds_rule.specs.SessionOps.{goes_with, with_exchange, runs_exchange, with_session, with_create, runs_create, on_session, runs_bind, runs_destroy_client, reclaims}
use Rattle.mds_rule.specs.FileOps.{client_of, current_file, file_or_none, stateid_in, named_in, write_verifier, put_object, get_object, get_attributes, opens_or_makes, name_in, runs_open, closes, runs_close, reads_at, read_length, runs_read, write_ask, writes_file, is_delay, ends_by, write_refused, runs_write}
use Rattle.mds_rule.specs.LayoutOps.{no_stateid, layout_asked, layout_found, granted_in, grants_to, is_granted, is_try_later, phase_behind, later_by, layout_answer, runs_layout_get, errors_of, return_by, returns_file, file_return, returns_all, runs_layout_return, runs_layout_commit, device_from, device_size, device_answer, runs_get_device_info}
use Rattle.mds_rule.specs.Compounds.{operate, has_session, operates}

-- ---- a run that goes on

pub record Like (c d : CompoundRun) : Type 0 where
  pub node : d.node ≡ c.node
  pub xid : d.xid ≡ c.xid
  pub tag : d.tag ≡ c.tag
  pub stop : d.stop ≡ c.stop
  pub slot : d.slot ≡ c.slot
  pub more : List (Value resop4)
  pub results : d.results ≡ c.results ++ more

pub like_then : (c d x : CompoundRun) → Like c d → Like d x → Like c x
like_then c d x l r = record {
  node = r.node ∙ l.node;
  xid = r.xid ∙ l.xid;
  tag = r.tag ∙ l.tag;
  stop = r.stop ∙ l.stop;
  slot = r.slot ∙ l.slot;
  more = l.more ++ r.more;
  results = r.results ∙ ap (λ rs. rs ++ r.more) l.results ∙ append_assoc c.results l.more r.more;
}

abbrev pub StepsLike : CompoundRun → OpStep → Type 0
StepsLike c (Goes n entries d) = Like c d
StepsLike c (Ends n entries d status) = Like c d
StepsLike c (Waits n entries) = Unit {0}

-- one result more, with any current object
likes : (c : CompoundRun) (current : Option Object) (result : Value resop4)
    → Like c (record { node = c.node; xid = c.xid; tag = c.tag; ops = c.ops; stop = c.stop; results = c.results ++ result ∷ []; slot = c.slot; is_kept = c.is_kept; current = current })
likes c current result = record { node = refl; xid = refl; tag = refl; stop = refl; slot = refl; more = result ∷ []; results = refl }

unless : (m : MdsValue) (c : CompoundRun) (number : ℕ) (status : Option Stat4) (step : OpStep) → StepsLike c step → StepsLike c (refused_or m c number status step)
unless m c number None step its = its
unless m c number (Some status) step its = likes c c.current _

-- ---- names, opens and bytes

put_like : (m : MdsValue) (c : CompoundRun) (o : Option Object) → StepsLike c (put_object m c o)
put_like m c None = likes c c.current _
put_like m c (Some object) = likes c (Some object) _

get_like : (m : MdsValue) (c : CompoundRun) (o : Option Object) → StepsLike c (get_object m c o)
get_like m c None = likes c c.current _
get_like m c (Some object) = likes c c.current _

attributes_like : (m : MdsValue) (c : CompoundRun) (words : List ℕ) (o : Option Object) → StepsLike c (get_attributes m c words o)
attributes_like m c words None = likes c c.current _
attributes_like m c words (Some object) = likes c c.current _

opens_like : (m : MdsValue) (c : CompoundRun) (name : List ℕ) (o : Option FileId) → StepsLike c (opens_or_makes m c name o)
opens_like m c name (Some file) = likes c _ _
opens_like m c name None = likes c _ _

open_like : (m : MdsValue) (c : CompoundRun) (args : Value open4_args) → StepsLike c (runs_open m c args)
open_like m c (seqid, (access, (deny, (clientid, (owner, (how, claim)))))) = unless m c 18 _ (opens_or_makes m c (name_in claim) (file_named m (name_in claim))) (opens_like m c (name_in claim) (file_named m (name_in claim)))

closes_like : (m : MdsValue) (c : CompoundRun) (file : FileId) (o : Option Open) → StepsLike c (closes m c file o)
closes_like m c file None = likes c c.current _
closes_like m c file (Some o) = likes c c.current _

close_like : (m : MdsValue) (c : CompoundRun) (args : Value close4_args) → StepsLike c (runs_close m c args)
close_like m c (seqid, stateid) = unless m c 4 _ (closes m c (current_file c) (open_of m.opens (client_of c) (current_file c))) (closes_like m c (current_file c) (open_of m.opens (client_of c) (current_file c)))

reads_like : (m : MdsValue) (c : CompoundRun) (file : FileId) (at count : ℕ) (o : Option ServedFile) → StepsLike c (reads_at m c file at count o)
reads_like m c file at count None = likes c c.current _
reads_like m c file at count (Some s) = tt

read_like : (m : MdsValue) (c : CompoundRun) (args : Value read4_args) → StepsLike c (runs_read m c args)
read_like m c (stateid, (offset, count)) = unless m c 25 _ (reads_at m c (current_file c) offset (read_length count) (served m (current_file c))) (reads_like m c (current_file c) offset (read_length count) (served m (current_file c)))

writes_like : (m : MdsValue) (c : CompoundRun) (args : Value write4_args) → StepsLike c (writes_file m c args)
writes_like m c (stateid, (offset, (stable, []))) = likes c c.current _
writes_like m c (stateid, (offset, (stable, (b ∷ bytes)))) = tt

write_like : (m : MdsValue) (c : CompoundRun) (now : ℕ) (args : Value write4_args) → StepsLike c (runs_write m c now args)
write_like m c now args = by_status (refusal (write_order c.current (write_ask m c args)))
  where
    by_status : (status : Option Stat4) → StepsLike c (write_refused m c now args status)
    by_status status =
        cond_both (is_delay status) (ends_by (asks_back m (current_file c) now) c 38 stat.Delay) (refused_or m c 38 status (writes_file m c args)) (StepsLike c)
        (λ is. likes c c.current _) (λ off. unless m c 38 status (writes_file m c args) (writes_like m c args))

-- ---- clients and sessions

exchange_like : (m : MdsValue) (c : CompoundRun) (verifier owner : List ℕ) (now : ℕ) (case : ExchangeCase) (fault : Option IdFault) → StepsLike c (with_exchange m c verifier owner now case fault)
exchange_like m c verifier owner now case None = likes c c.current _
exchange_like m c verifier owner now case (Some fault) = likes c c.current _

exchanges_like : (m : MdsValue) (c : CompoundRun) (now : ℕ) (args : Value exchange_id4_args) → StepsLike c (runs_exchange m c now args)
exchanges_like m c now (verifier, (owner, (flags, rest))) =
    exchange_like m c (long verifier) owner now (exchange_case m.sessions.clients (long verifier) owner) (exchange_fault m.sessions (exchange_case m.sessions.clients (long verifier) owner))

session_like : (m : MdsValue) (c : CompoundRun) (client sequence : ℕ) (fore back : Value channel_attrs4) (sessions : SessionsState) (o : Option Created) → StepsLike c (with_session m c client sequence fore back sessions o)
session_like m c client sequence fore back sessions None = likes c c.current _
session_like m c client sequence fore back sessions (Some created) = likes c c.current _

create_like : (m : MdsValue) (c : CompoundRun) (client sequence : ℕ) (fore back : Value channel_attrs4) (program now : ℕ) (case : CreateSessionCase) (fault : Option SessionFault)
    → StepsLike c (with_create m c client sequence fore back program now case fault)
create_like m c client sequence fore back program now case (Some fault) = likes c c.current _
create_like m c client sequence fore back program now case None = session_like m c client sequence fore back (after_creating m.sessions program c.node now case) (created_answer m.sessions client case)

creates_like : (m : MdsValue) (c : CompoundRun) (now : ℕ) (args : Value create_session4_args) → StepsLike c (runs_create m c now args)
creates_like m c now (client, (sequence, (flags, (fore, (back, (program, security)))))) =
    create_like m c client sequence fore back program now (create_session_case m.sessions client sequence) (create_session_fault (create_session_case m.sessions client sequence))

on_like : (m : MdsValue) (c : CompoundRun) (number : ℕ) (session : SessionId) (step : OpStep) → StepsLike c step → StepsLike c (on_session m c number session step)
on_like m c number session step its = cond_both (is_some (session_of m.sessions.clients session)) step (refuses m c number stat.BadSession) (StepsLike c) (λ is. its) (λ off. likes c c.current _)

bind_like : (m : MdsValue) (c : CompoundRun) (args : Value bind_conn4_args) → StepsLike c (runs_bind m c args)
bind_like m c (session, (direction, rdma)) = on_like m c 41 (record { 0 = session }) _ (likes c c.current _)

destroy_like : (m : MdsValue) (c : CompoundRun) (client : ℕ) → StepsLike c (runs_destroy_client m c client)
destroy_like m c client =
    unless m c 57 (destroy_client_fault (find (has_id client) m.sessions.clients)) (goes_with (ends_client (record m { sessions = without_client m.sessions client }) client ClientGone) (with_result c (arm 57 resop4 (inl tt))))
    (likes c c.current (arm 57 resop4 (inl tt)))

reclaims_like : (m : MdsValue) (c : CompoundRun) (o : Option SlotPass) → StepsLike c (reclaims m c o)
reclaims_like m c None = likes c c.current _
reclaims_like m c (Some slot) =
    cond_both (list_any (nat_eq (client_in slot.session)) m.reclaimed) (refuses m c 58 stat.CompleteAlready) (Goes (record m { reclaimed = m.reclaimed ++ client_in slot.session ∷ [] }) [] (with_result c (arm 58 resop4 (inl tt)))) (StepsLike c)
    (λ is. likes c c.current _) (λ off. likes c c.current _)

-- ---- layouts and devices

granted_like : (s : MdsStep) (c : CompoundRun) (file : FileId) (again : Bool) (o : Option ServedFile) → StepsLike c (granted_in s c file again o)
granted_like s c file again None = likes c c.current _
granted_like s c file again (Some t) = likes c c.current _

grants_like : (m : MdsValue) (c : CompoundRun) (file : FileId) (again : Bool) (from : Option NodeId) → StepsLike c (grants_to m c file again from)
grants_like m c file true from = granted_like (sends_none m) c file true (served m file)
grants_like m c file false None = likes c c.current _
grants_like m c file false (Some Mds) = likes c c.current _
grants_like m c file false (Some (Server n)) = likes c c.current _
grants_like m c file false (Some (Client n)) = granted_like (takes_input m file (AsksLayout n)) c file false (served (takes_input m file (AsksLayout n)).mds file)

later_like : (m : MdsValue) (c : CompoundRun) (now : ℕ) (p : Option Phase) → StepsLike c (later_by m c now p)
later_like m c now None = likes c c.current _
later_like m c now (Some p) = likes c c.current _

layout_like : (m : MdsValue) (c : CompoundRun) (now : ℕ) (args : Value Rattle.nfs4_file_ops.specs.LayoutGet.layoutget4_args) → StepsLike c (runs_layout_get m c now args)
layout_like m c now args = by_status (refusal (layout_get_order c.current (layout_asked args) (layout_found m c (layout_asked args))))
  where
    by_status : (status : Option Stat4) → StepsLike c (layout_answer m c now (layout_found m c (layout_asked args)) status)
    by_status status =
        cond_both (is_try_later status) (later_by m c now (phase_behind (layout_found m c (layout_asked args)).fault)) (refused_or m c 50 status (grants_to m c (current_file c) (is_granted (served m (current_file c))) (confirmed_node m (client_of c)))) (StepsLike c)
        (λ is. later_like m c now (phase_behind (layout_found m c (layout_asked args)).fault))
        (λ off. unless m c 50 status (grants_to m c (current_file c) (is_granted (served m (current_file c))) (confirmed_node m (client_of c))) (grants_like m c (current_file c) (is_granted (served m (current_file c))) (confirmed_node m (client_of c))))

return_like : (m : MdsValue) (c : CompoundRun) (file : FileId) (errors : List (Value ff_ioerr4)) (o : Option ServedFile) → StepsLike c (return_by m c file errors o)
return_like m c file errors None = likes c c.current _
return_like m c file errors (Some s) = likes c c.current _

returns_like : (m : MdsValue) (c : CompoundRun) (o : Option (List (Value ff_ioerr4))) → StepsLike c (returns_file m c o)
returns_like m c None = likes c c.current _
returns_like m c (Some errors) = return_like m c (current_file c) errors (served m (current_file c))

file_like : (m : MdsValue) (c : CompoundRun) (reclaim : Bool) (layout_type : ℕ) (args : Value layoutreturn_file4) → StepsLike c (file_return m c reclaim layout_type args)
file_like m c reclaim layout_type (offset, (length, (stateid, body))) = unless m c 51 _ (returns_file m c (errors_of body)) (returns_like m c (errors_of body))

all_like : (m : MdsValue) (c : CompoundRun) (reclaim : Bool) (layout_type : ℕ) → StepsLike c (returns_all m c reclaim layout_type)
all_like m c reclaim layout_type =
    unless m c 51 (refusal (layout_return_all_order layout_type reclaim)) (goes_with (ends_periods m (client_of c) ReturnedAll) (with_result c no_stateid)) (likes c c.current no_stateid)

layout_returns_like : (m : MdsValue) (c : CompoundRun) (args : Value layoutreturn4_args) → StepsLike c (runs_layout_return m c args)
layout_returns_like m c (reclaim, (layout_type, (iomode, kind))) =
    of_each_arm layoutreturn4
    (λ (v : Value layoutreturn4).
    StepsLike c (by_arm layoutreturn4 ((λ file. file_return m c reclaim layout_type file), ((λ fsid. returns_all m c reclaim layout_type), ((λ all. returns_all m c reclaim layout_type), tt))) v))
    ((λ file. file_like m c reclaim layout_type file), ((λ fsid. all_like m c reclaim layout_type), ((λ all. all_like m c reclaim layout_type), tt))) kind

commit_like : (m : MdsValue) (c : CompoundRun) (args : Value layoutcommit4_args) → StepsLike c (runs_layout_commit m c args)
commit_like m c (offset, (length, (reclaim, (stateid, rest)))) =
    unless m c 49 (refusal (layout_commit_order c.current (named_in m c (stateid_in stateid)))) (gives m c (arm 49 resop4 (inl None))) (likes c c.current (arm 49 resop4 (inl None)))

device_like : (m : MdsValue) (c : CompoundRun) (args : Value getdeviceinfo4_args) → StepsLike c (runs_get_device_info m c args)
device_like m c (device, (layout_type, (maxcount, notify))) = by_status (device_from 1 m.servers device) (refusal (device_info_order layout_type (is_some (device_from 1 m.servers device)) maxcount (device_size (device_from 1 m.servers device))))
  where
    by_status : (found : Option AddressValue) (status : Option Stat4) → StepsLike c (device_answer m c maxcount found status)
    by_status found None = likes c c.current _
    by_status found (Some stat.TooSmall) = likes c c.current _
    by_status found (Some status) = likes c c.current _

-- ---- any operation

pub operate_like : (now : ℕ) (m : MdsValue) (c : CompoundRun) (op : Value argop4) → StepsLike c (operate now m c op)
operate_like now m c op =
    of_each_arm argop4 (λ (v : Value argop4). StepsLike c (operate now m c v)) (
      (λ close. close_like m c close),
      (
        (λ commit. unless m c 5 (refusal (commit_order c.current)) (gives m c (arm 5 resop4 (inl write_verifier))) (likes c c.current (arm 5 resop4 (inl write_verifier)))),
        (
          (λ words. attributes_like m c words c.current),
          (
            (λ nothing. get_like m c c.current),
            (
              (λ name. unless m c 15 (refusal (lookup_order c.current name (file_named m name))) (gives m (at_object c (File (file_or_none (file_named m name)))) (arm 15 resop4 (inl tt))) (likes c (Some (File (file_or_none (file_named m name)))) (arm 15 resop4 (inl tt)))),
              (
                (λ opening. open_like m c opening),
                (
                  (λ handle. unless m c 22 (refusal (put_fh_order handle (length m.files))) (put_object m c (object_of handle)) (put_like m c (object_of handle))),
                  (
                    (λ nothing. likes c (Some Root) (arm 24 resop4 (inl tt))),
                    (
                      (λ read. read_like m c read),
                      (
                        (λ write. write_like m c now write),
                        (
                          (λ bind. bind_like m c bind),
                          (
                            (λ exchange. exchanges_like m c now exchange),
                            (
                              (λ create. creates_like m c now create),
                              (
                                (λ session. on_like m c 44 (record { 0 = session }) (Goes (record m { sessions = without_session m.sessions (record { 0 = session }) }) [] (with_result c (arm 44 resop4 (inl tt)))) (likes c c.current (arm 44 resop4 (inl tt)))),
                                (
                                  (λ device. device_like m c device),
                                  (
                                    (λ commit. commit_like m c commit),
                                    (
                                      (λ layout. layout_like m c now layout),
                                      (
                                        (λ layout. layout_returns_like m c layout),
                                        ((λ sequence. likes c c.current (refused_as 53 stat.SequencePos)), ((λ client. destroy_like m c client), ((λ one_fs. reclaims_like m c c.slot), tt))),
                                      ),
                                    ),
                                  ),
                                ),
                              ),
                            ),
                          ),
                        ),
                      ),
                    ),
                  ),
                ),
              ),
            ),
          ),
        ),
      ),
    ) op

pub operates_like : (now : ℕ) (m : MdsValue) (c : CompoundRun) (op : Value argop4) → StepsLike c (operates now m c op)
operates_like now m c op =
    cond_both (has_session m c.slot) (operate now m c op) (refuses m c (arm_of argop4 op) stat.BadSession) (λ (s : OpStep). StepsLike c s) (λ is. operate_like now m c op) (λ off. likes c c.current _)
