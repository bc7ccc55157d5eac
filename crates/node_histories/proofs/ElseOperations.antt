-- Each operation of a compound from another node leaves a server that knows no node as itself.
use Rattle.std.proofs.Common.{◌≡◌, ℕ, ◌+◌, Bool, true, false, List, [], ◌∷◌, ◌++◌, length, Option, Some, None, refl, inl}
use Rattle.std.specs.Prelude.{is_some, nat_eq}
use Rattle.std.specs.List.{find, list_any}
use Rattle.std.proofs.lemmas.Bool.{cond_both}
use Rattle.ff_xdr.specs.Form.{Value, long}
use Rattle.ff_xdr.specs.Arms.{arm, by_arm, of_each_arm}
use Rattle.cluster_model.specs.declared.ids.NodeId.{NodeId}
use Rattle.cluster_model.specs.declared.ids.NodeId.TheVariants.{Mds, Server, Client}
use Rattle.cluster_model.specs.declared.ids.FileId.{FileId}
use Rattle.cluster_model.specs.declared.phase.EndCause.TheVariants.{ClientGone, ReturnedAll}
use Rattle.cluster_model.specs.declared.phase.Phase.{Phase}
use Rattle.cluster_model.specs.Phases.{holder_of}
use Rattle.device_addr.specs.Universal.{AddressValue}
use Rattle.ff_layout.specs.IoError.{ff_ioerr4}
use Rattle.file_rule.specs.FilePhases.{OwnWrite, AsksLayout, Returns}
use Rattle.layout_report.specs.Reports.{report_of}
use Rattle.mds_refusals.specs.Orders.{refusal}
use Rattle.mds_refusals.specs.Lookup.{lookup_order}
use Rattle.mds_refusals.specs.Opens.{open_order}
use Rattle.mds_refusals.specs.PutFh.{put_fh_order, object_of}
use Rattle.mds_refusals.specs.Commit.{commit_order}
use Rattle.mds_refusals.specs.GetDeviceInfo.{device_info_order}
use Rattle.mds_refusals.specs.LayoutCommit.{layout_commit_order}
use Rattle.mds_refusals.specs.LayoutGets.{layout_get_order}
use Rattle.mds_refusals.specs.LayoutReturns.{layout_return_all_order}
use Rattle.mds_refusals.specs.Writes.{write_order}
use Rattle.mds_refusals.specs.declared.layout_get.LayoutGetFound.{LayoutGetFound}
use Rattle.mds_refusals.specs.declared.object.Object.{Object}
use Rattle.mds_refusals.specs.declared.object.Object.TheVariants.{File}
use Rattle.mds_refusals.specs.declared.open.Creation.{Creation}
use Rattle.nfs4_types.specs.declared.ids.SessionId.{SessionId}
use Rattle.nfs4_types.specs.declared.status.Stat4.{Stat4}
use Rattle.nfs4_types.specs.declared.status.Stat4.TheVariants as stat
use Rattle.nfs4_types.specs.Channels.{channel_attrs4}
use Rattle.nfs4_compound.specs.Results.{resop4}
use Rattle.nfs4_session_ops.specs.BindConn.{bind_conn4_args}
use Rattle.nfs4_session_ops.specs.ExchangeId.{exchange_id4_args}
use Rattle.nfs4_session_ops.specs.CreateSession.{create_session4_args}
use Rattle.nfs4_file_ops.specs.Close.{close4_args}
use Rattle.nfs4_file_ops.specs.GetDeviceInfo.{getdeviceinfo4_args}
use Rattle.nfs4_file_ops.specs.LayoutCommit.{layoutcommit4_args}
use Rattle.nfs4_file_ops.specs.LayoutGet.{layoutget4_args}
use Rattle.nfs4_file_ops.specs.LayoutReturn.{layoutreturn4, layoutreturn_file4, layoutreturn4_args}
use Rattle.nfs4_file_ops.specs.Open.{open4_args}
use Rattle.nfs4_file_ops.specs.Read.{read4_args}
use Rattle.nfs4_file_ops.specs.Write.{write4_args}
use Rattle.nfs4_session.specs.declared.begin.SlotPass.{SlotPass}
use Rattle.nfs4_session.specs.declared.faults.Created.{Created}
use Rattle.nfs4_session.specs.declared.faults.IdFault.{IdFault}
use Rattle.nfs4_session.specs.declared.faults.SessionFault.{SessionFault}
use Rattle.nfs4_session.specs.Clients.{SessionsState, has_id, client_in, session_of}
use Rattle.nfs4_session.specs.ExchangeIds.{ExchangeCase, exchange_case, exchange_fault, after_exchange}
use Rattle.nfs4_session.specs.CreateSessions.{CreateSessionCase, create_session_case, create_session_fault, created_answer, after_creating}
use Rattle.nfs4_session.specs.Bindings.{after_binding}
use Rattle.nfs4_session.specs.Ends.{without_session, without_client, destroy_client_fault}
use Rattle.open_state.specs.Opens.{OpensValue, open_of, opened, closed}
use Rattle.open_state.specs.declared.open.Open.{Open}
use Rattle.mds_rule.specs.MdsStates.{CompoundRun, ServedFile, MdsValue, MdsStep, sends_none, confirmed_node, served, numbered, file_named}
use Rattle.mds_rule.specs.OpSteps.{OpStep, Goes, Ends, Waits, with_result, at_object, gives, refuses, refused_or}
use Rattle.mds_rule.specs.ServedFiles.{takes_input, asks_back, ends_periods}
use Rattle.mds_rule.specs.SessionOps.{with_exchange, runs_exchange, confirms, gone_with, goes_with, with_session, with_create, runs_create, on_session, runs_bind, runs_destroy_session, runs_destroy_client, reclaims}
use Rattle.mds_rule.specs.FileOps.{client_of, current_file, file_or_none, stateid_in, named_in, put_object, runs_put_fh, get_object, runs_get_fh, runs_lookup, get_attributes, runs_get_attr, with_new_file, opens_or_makes, opens_file, open_named, creation_in, can_open, may_make, runs_open, name_in, closes, runs_close, runs_commit, reads_at, runs_read, read_length, with_read, with_write, writes_at, writes_file, ends_by, write_refused, runs_write, write_ask, is_delay}
use Rattle.mds_rule.specs.LayoutOps.{no_stateid, layout_asked, layout_found, with_holder, granted_in, grants_to, is_granted, phase_behind, later_by, layout_answer, runs_layout_get, is_try_later, errors_of, client_number, return_by, returns_file, file_return, returns_all, runs_layout_return, runs_layout_commit, device_from, device_size, device_answer, runs_get_device_info}
use Rattle.mds_walk.proofs.Lists.{all_push}
use Rattle.node_histories.proofs.Elsewhere.{IsElse, TableElse, ReadElse, FileElse, Else, StepElse, binding_else, exchange_else, creating_else, destroyed_else, gone_else, with_table, with_file_else, served_else, none_goes}
use Rattle.node_histories.proofs.ElseInputs.{takes_else, asks_else, periods_else, client_ends_else}

abbrev pub OpElse : OpStep → Type 0
OpElse (Goes m entries c) = Else m × IsElse c.node
OpElse (Ends m entries c status) = Else m × IsElse c.node
OpElse (Waits m entries) = Else m

-- a server with other opens, or other parts that name no node
opens_else : (m : MdsValue) (opens : OpensValue) → Else m → Else (record m { opens = opens })
opens_else m opens e = record { table = e.table; files_else = e.files_else; calls_else = e.calls_else }

made_else : (m : MdsValue) (name : List ℕ) → Else m → Else (with_new_file m name)
made_else m name e = record { table = e.table; files_else = all_push FileElse m.files _ e.files_else (tt, tt); calls_else = e.calls_else }

module _ (m : MdsValue) (c : CompoundRun) (e : Else m) (its : IsElse c.node) where
  pub refused_else : (number : ℕ) (status : Option Stat4) (step : OpStep) → OpElse step → OpElse (refused_or m c number status step)
  refused_else number None step q = q
  refused_else number (Some status) step q = (e, its)

  -- ---- names and opens

  object_put : (o : Option Object) → OpElse (put_object m c o)
  object_put None = (e, its)
  object_put (Some object) = (e, its)

  pub puts_fh : (handle : List ℕ) → OpElse (runs_put_fh m c handle)
  puts_fh handle = refused_else 22 (refusal (put_fh_order handle (length m.files))) _ (object_put (object_of handle))

  object_got : (o : Option Object) → OpElse (get_object m c o)
  object_got None = (e, its)
  object_got (Some object) = (e, its)

  pub gets_fh : OpElse (runs_get_fh m c)
  gets_fh = object_got c.current

  pub looks_up : (name : List ℕ) → OpElse (runs_lookup m c name)
  looks_up name = refused_else 15 (refusal (lookup_order c.current name (file_named m name))) (gives m (at_object c (File (file_or_none (file_named m name)))) (arm 15 resop4 (inl tt))) (e, its)

  attributes_got : (words : List ℕ) (o : Option Object) → OpElse (get_attributes m c words o)
  attributes_got words None = (e, its)
  attributes_got words (Some object) = (e, its)

  pub gets_attr : (words : List ℕ) → OpElse (runs_get_attr m c words)
  gets_attr words = attributes_got words c.current

  opened_else : (access : ℕ) (creation : Creation) (name : List ℕ) (o : Option FileId) → OpElse (open_named m c access creation name o)
  opened_else access creation name (Some file) =
      refused_else 18 (refusal (open_order c.current name access creation (record { file = Some file; can_open = can_open m (client_of c) (Some file); can_make = may_make m }))) (opens_file m c file)
      (opens_else m (opened m.opens (client_of c) file) e, its)
  opened_else access creation name None =
      refused_else 18 (refusal (open_order c.current name access creation (record { file = None; can_open = can_open m (client_of c) None; can_make = may_make m }))) (opens_or_makes m c name None)
      (opens_else (with_new_file m name) (opened m.opens (client_of c) (numbered (length m.files + 1))) (made_else m name e), its)

  pub opens_so : (args : Value open4_args) → OpElse (runs_open m c args)
  opens_so (seqid, (access, (deny, (clientid, (owner, (how, claim)))))) = opened_else access (creation_in how) (name_in claim) (file_named m (name_in claim))

  closed_else : (file : FileId) (o : Option Open) → OpElse (closes m c file o)
  closed_else file None = (e, its)
  closed_else file (Some o) = (opens_else m (closed m.opens (client_of c) file) e, its)

  pub closes_file : (args : Value close4_args) → OpElse (runs_close m c args)
  closes_file (seqid, stateid) = refused_else 4 _ _ (closed_else (current_file c) (open_of m.opens (client_of c) (current_file c)))

  pub commits : OpElse (runs_commit m c)
  commits = refused_else 5 (refusal (commit_order c.current)) (gives m c _) (e, its)

  -- ---- bytes

  read_else : (file : FileId) (at count : ℕ) (o : Option ServedFile) → served m file ≡ o → OpElse (reads_at m c file at count o)
  read_else file at count None is = (e, its)
  read_else file at count (Some s) is =
      let was : FileElse s = served_else m file s e is in
      with_file_else m file (with_read c at count s) e (was.0, all_push ReadElse s.reads _ was.1 its)

  pub reads : (args : Value read4_args) → OpElse (runs_read m c args)
  reads (stateid, (offset, count)) = refused_else 25 _ _ (read_else (current_file c) offset (read_length count) (served m (current_file c)) refl)

  -- a write that begins, at a server behind its period's begin
  begun_else : (n : MdsValue) → Else n → (file : FileId) (at : ℕ) (bytes : List ℕ) (o : Option ServedFile) → served n file ≡ o → Else (writes_at n c file at bytes o)
  begun_else n k file at bytes None is = k
  begun_else n k file at bytes (Some s) is = with_file_else n file (with_write c at bytes s) k (its, (served_else n file s k is).1)

  write_else : (args : Value write4_args) → OpElse (writes_file m c args)
  write_else (stateid, (offset, (stable, []))) = (e, its)
  write_else (stateid, (offset, (stable, (b ∷ bytes)))) =
      let s : MdsStep = takes_input m (current_file c) (OwnWrite offset (b ∷ bytes)) in
      begun_else s.mds (takes_else m (current_file c) (OwnWrite offset (b ∷ bytes)) e).0 (current_file c) offset (b ∷ bytes) (served s.mds (current_file c)) refl

  pub writes : (now : ℕ) (args : Value write4_args) → OpElse (runs_write m c now args)
  writes now args = by_status (refusal (write_order c.current (write_ask m c args)))
    where
      by_status : (status : Option Stat4) → OpElse (write_refused m c now args status)
      by_status status =
          cond_both (is_delay status) (ends_by (asks_back m (current_file c) now) c 38 stat.Delay) (refused_or m c 38 status (writes_file m c args)) (λ (x : OpStep). OpElse x)
          (λ is. ((asks_else m (current_file c) now e).0, its)) (λ off. refused_else 38 status (writes_file m c args) (write_else args))

  -- ---- layouts

  granted_else : (s : MdsStep) → Else s.mds → (file : FileId) (again : Bool) (o : Option ServedFile) → served s.mds file ≡ o → OpElse (granted_in s c file again o)
  granted_else s k file again None is = (k, its)
  granted_else s k file again (Some t) is = (with_file_else s.mds file (with_holder (client_of c) again t) k (served_else s.mds file t k is), its)

  grants_else : (file : FileId) (again : Bool) (from : Option NodeId) → OpElse (grants_to m c file again from)
  grants_else file true from = granted_else (sends_none m) e file true (served m file) refl
  grants_else file false None = (e, its)
  grants_else file false (Some Mds) = (e, its)
  grants_else file false (Some (Server n)) = (e, its)
  grants_else file false (Some (Client n)) =
      let s : MdsStep = takes_input m file (AsksLayout n) in
      granted_else s (takes_else m file (AsksLayout n) e).0 file false (served s.mds file) refl

  later_else : (now : ℕ) (p : Option Phase) → OpElse (later_by m c now p)
  later_else now None = (e, its)
  later_else now (Some p) = ((asks_else m (current_file c) now e).0, its)

  pub layout_gets : (now : ℕ) (args : Value layoutget4_args) → OpElse (runs_layout_get m c now args)
  layout_gets now args = by_found (layout_found m c (layout_asked args)) (refusal (layout_get_order c.current (layout_asked args) (layout_found m c (layout_asked args))))
    where
      by_found : (found : LayoutGetFound) (status : Option Stat4) → OpElse (layout_answer m c now found status)
      by_found found status =
          cond_both (is_try_later status) (later_by m c now (phase_behind found.fault)) (refused_or m c 50 status (grants_to m c (current_file c) (is_granted (served m (current_file c))) (confirmed_node m (client_of c)))) (λ (x : OpStep). OpElse x)
          (λ is. later_else now (phase_behind found.fault))
          (λ off. refused_else 50 status (grants_to m c (current_file c) (is_granted (served m (current_file c))) (confirmed_node m (client_of c))) (grants_else (current_file c) (is_granted (served m (current_file c))) (confirmed_node m (client_of c))))

  returned_else : (file : FileId) (errors : List (Value ff_ioerr4)) (o : Option ServedFile) → OpElse (return_by m c file errors o)
  returned_else file errors None = (e, its)
  returned_else file errors (Some s) = ((takes_else m file (Returns (client_number (holder_of s.file.layout.phase)) s.file.layout.cred (report_of errors s.file.layout.live)) e).0, its)

  returns_else : (o : Option (List (Value ff_ioerr4))) → OpElse (returns_file m c o)
  returns_else None = (e, its)
  returns_else (Some errors) = returned_else (current_file c) errors (served m (current_file c))

  file_else : (reclaim : Bool) (layout_type : ℕ) (args : Value layoutreturn_file4) → OpElse (file_return m c reclaim layout_type args)
  file_else reclaim layout_type (offset, (length, (stateid, body))) = refused_else 51 _ _ (returns_else (errors_of body))

  all_else : (reclaim : Bool) (layout_type : ℕ) → OpElse (returns_all m c reclaim layout_type)
  all_else reclaim layout_type =
      refused_else 51 (refusal (layout_return_all_order layout_type reclaim)) (goes_with (ends_periods m (client_of c) ReturnedAll) (with_result c no_stateid)) ((periods_else m (client_of c) ReturnedAll e).0, its)

  pub layout_returns : (args : Value layoutreturn4_args) → OpElse (runs_layout_return m c args)
  layout_returns (reclaim, (layout_type, (iomode, kind))) =
      of_each_arm layoutreturn4
      (λ (v : Value layoutreturn4). OpElse (by_arm layoutreturn4 ((λ file. file_return m c reclaim layout_type file), ((λ fsid. returns_all m c reclaim layout_type), ((λ all. returns_all m c reclaim layout_type), tt))) v))
      ((λ file. file_else reclaim layout_type file), ((λ fsid. all_else reclaim layout_type), ((λ all. all_else reclaim layout_type), tt))) kind

  pub layout_commits : (args : Value layoutcommit4_args) → OpElse (runs_layout_commit m c args)
  layout_commits (offset, (length, (reclaim, (stateid, rest)))) =
      refused_else 49 (refusal (layout_commit_order c.current (named_in m c (stateid_in stateid)))) (gives m c (arm 49 resop4 (inl None))) (e, its)

  pub device_infos : (args : Value getdeviceinfo4_args) → OpElse (runs_get_device_info m c args)
  device_infos (device, (layout_type, (maxcount, notify))) = by_status (device_from 1 m.servers device) (refusal (device_info_order layout_type (is_some (device_from 1 m.servers device)) maxcount (device_size (device_from 1 m.servers device))))
    where
      by_status : (found : Option AddressValue) (status : Option Stat4) → OpElse (device_answer m c maxcount found status)
      by_status found None = (e, its)
      by_status found (Some stat.TooSmall) = (e, its)
      by_status found (Some status) = (e, its)

  -- ---- clients and sessions

  exchanged_else : (verifier owner : List ℕ) (now : ℕ) (case : ExchangeCase) (fault : Option IdFault) → OpElse (with_exchange m c verifier owner now case fault)
  exchanged_else verifier owner now case None = (with_table m (after_exchange m.sessions verifier owner now case) e (exchange_else m.sessions verifier owner now case e.table), its)
  exchanged_else verifier owner now case (Some fault) = (e, its)

  pub exchanges : (now : ℕ) (args : Value exchange_id4_args) → OpElse (runs_exchange m c now args)
  exchanges now (verifier, (owner, (flags, rest))) =
      exchanged_else (long verifier) owner now (exchange_case m.sessions.clients (long verifier) owner) (exchange_fault m.sessions (exchange_case m.sessions.clients (long verifier) owner))

  gone_with_else : (client : Option ℕ) (n : MdsValue) → Else n → StepElse (gone_with client n)
  gone_with_else None n k = none_goes n k
  gone_with_else (Some client) n k = client_ends_else n client ClientGone k

  session_made : (client sequence : ℕ) (fore back : Value channel_attrs4) (sessions : SessionsState) (o : Option Created) → TableElse sessions → OpElse (with_session m c client sequence fore back sessions o)
  session_made client sequence fore back sessions None t = (e, its)
  session_made client sequence fore back sessions (Some created) t =
      ((gone_with_else created.gone (confirms client c.node (record m { sessions = sessions })) (record { table = t; files_else = e.files_else; calls_else = e.calls_else })).0, its)

  created_else : (client sequence : ℕ) (fore back : Value channel_attrs4) (program now : ℕ) (case : CreateSessionCase) (fault : Option SessionFault) → OpElse (with_create m c client sequence fore back program now case fault)
  created_else client sequence fore back program now case (Some fault) = (e, its)
  created_else client sequence fore back program now case None =
      session_made client sequence fore back (after_creating m.sessions program c.node now case) (created_answer m.sessions client case) (creating_else m.sessions program c.node now case its e.table)

  pub creates : (now : ℕ) (args : Value create_session4_args) → OpElse (runs_create m c now args)
  creates now (client, (sequence, (flags, (fore, (back, (program, security)))))) =
      created_else client sequence fore back program now (create_session_case m.sessions client sequence) (create_session_fault (create_session_case m.sessions client sequence))

  at_session : (number : ℕ) (session : SessionId) (step : OpStep) → OpElse step → OpElse (on_session m c number session step)
  at_session number session step q = cond_both (is_some (session_of m.sessions.clients session)) step (refuses m c number stat.BadSession) (λ (x : OpStep). OpElse x) (λ is. q) (λ off. (e, its))

  pub binds : (args : Value bind_conn4_args) → OpElse (runs_bind m c args)
  binds (session, (direction, rdma)) =
      at_session 41 (record { 0 = session }) _ (with_table m (after_binding m.sessions (record { 0 = session }) c.node) e (binding_else m.sessions (record { 0 = session }) c.node its e.table), its)

  pub destroys_session : (session : List ℕ) → OpElse (runs_destroy_session m c session)
  destroys_session session = at_session 44 (record { 0 = session }) _ (with_table m (without_session m.sessions (record { 0 = session })) e (destroyed_else m.sessions (record { 0 = session }) e.table), its)

  pub destroys_client : (client : ℕ) → OpElse (runs_destroy_client m c client)
  destroys_client client =
      refused_else 57 (destroy_client_fault (find (has_id client) m.sessions.clients)) _
      ((client_ends_else (record m { sessions = without_client m.sessions client }) client ClientGone (with_table m (without_client m.sessions client) e (gone_else m.sessions client e.table))).0, its)

  pub reclaims_all : (slot : Option SlotPass) → OpElse (reclaims m c slot)
  reclaims_all None = (e, its)
  reclaims_all (Some slot) =
      cond_both (list_any (nat_eq (client_in slot.session)) m.reclaimed) (refuses m c 58 stat.CompleteAlready)
      (Goes (record m { reclaimed = m.reclaimed ++ client_in slot.session ∷ [] }) [] (with_result c (arm 58 resop4 (inl tt)))) (λ (x : OpStep). OpElse x)
      (λ is. (e, its)) (λ off. (record { table = e.table; files_else = e.files_else; calls_else = e.calls_else }, its))
