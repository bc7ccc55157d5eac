-- The operations of a client's requests on a slot, but for those on layouts, have legible results.
use Rattle.std.proofs.Common.{◌≡◌, ◌≤◌, ◌<◌, ℕ, suc, ◌+◌, ◌^◌, Bool, true, false, List, [], ◌∷◌, ◌++◌, length, Option, Some, None, refl, ◌∙◌, arith, inl, inr}
use Rattle.std.specs.Prelude.{is_some, nat_eq}
use Rattle.std.specs.List.{list_any}
use Rattle.std.proofs.lemmas.Bool.{cond_both, ltb-false}
use Rattle.ff_xdr.specs.Arms.{arm}
use Rattle.ff_xdr.specs.Form.{Value, arm_of, long}
use Rattle.ff_xdr.proofs.CutShort.{length-long}
use Rattle.cluster_model.specs.declared.ids.FileId.{FileId}
use Rattle.device_addr.specs.Universal.{AddressValue}
use Rattle.granted_layouts.specs.GrantedBodies.{device_body, device_info_length, device_info_result}
use Rattle.granted_layouts.proofs.DeviceSizes.{body_few}
use Rattle.nfs4_types.specs.declared.status.Stat4.{Stat4}
use Rattle.nfs4_types.specs.declared.status.Stat4.TheVariants as stat
use Rattle.nfs4_types.specs.Ids.{device_id_of}
use Rattle.nfs4_types.specs.Stateids.{stateid4_value}
use Rattle.nfs4_file_ops.specs.OpenHow.{createhow4, openflag4}
use Rattle.nfs4_file_ops.specs.Open.{open4_args}
use Rattle.nfs4_file_ops.specs.Read.{read4_args}
use Rattle.nfs4_file_ops.specs.Write.{write4_args}
use Rattle.nfs4_compound.specs.Args.{argop4}
use Rattle.nfs4_compound.specs.Results.{resop4}
use Rattle.nfs4_session.specs.declared.begin.SlotPass.{SlotPass}
use Rattle.nfs4_session.specs.Clients.{client_in}
use Rattle.open_state.specs.Opens.{open_of, given}
use Rattle.client_file_calls.specs.declared.open.TheConstants.{SHARE_BOTH}
use Rattle.client_file_calls.specs.declared.layouts.TheConstants.{FLEX_FILES, MAX_COUNT}
use Rattle.client_file_calls.specs.FileOps.{put_fh_op, open_op, device_info_op, device_info_ops, write_op, read_op}
use Rattle.client_mds_calls.specs.MdsCalls.{SlotCallValue}
use Rattle.client_mds_calls.specs.MdsCalls as slot
use Rattle.client_mds_calls.specs.MdsCompounds.{slot_ops}
use Rattle.mds_refusals.specs.declared.object.Object.{Object}
use Rattle.mds_refusals.specs.declared.object.Object.TheVariants.{Root, File}
use Rattle.mds_refusals.specs.declared.open.Creation.{Creation}
use Rattle.mds_refusals.specs.declared.open.OpenFound.{OpenFound}
use Rattle.mds_refusals.specs.declared.read.ReadAsk.{ReadAsk}
use Rattle.mds_refusals.specs.declared.write.WriteAsk.{WriteAsk}
use Rattle.mds_refusals.specs.Orders.{Order, refusal}
use Rattle.mds_refusals.specs.PutFh.{put_fh_order, object_of}
use Rattle.mds_refusals.specs.Opens.{open_order}
use Rattle.mds_refusals.specs.Reads.{read_order}
use Rattle.mds_refusals.specs.Writes.{write_order}
use Rattle.mds_refusals.specs.GetDeviceInfo.{device_info_order}
use Rattle.mds_rule.specs.MdsStates.{CompoundRun, ServedFile, MdsValue, served, file_named, numbered}
use Rattle.mds_rule.specs.OpSteps.{OpStep, Goes, with_result, refuses, refused_as, refused_or}
use Rattle.mds_rule.specs.ServedFiles.{asks_back}
use Rattle.mds_rule.specs.SessionOps.{reclaims}
use Rattle.mds_rule.specs.FileOps.{client_of, current_file, put_object, get_object, object_handle, can_open, may_make, creation_in, open_result, opens_or_makes, name_in, runs_open, reads_at, read_length, read_ask, runs_read, write_ask, writes_file, write_result, is_delay, ends_by, write_refused, runs_write}
use Rattle.mds_rule.specs.LayoutOps.{device_from, device_size, device_bytes, device_answer}
use Rattle.mds_rule.specs.Compounds.{operate, has_session, operates, with_ops}
use Rattle.mds_walk.proofs.LayoutHolders.{holds_none}
use Rattle.mds_replies.proofs.ReplyForms.{in_order}
use Rattle.mds_replies.proofs.LegibleResults.{IsLegible, as_it_is, write_legible, open_legible, too_small_legible}
use Rattle.mds_replies.proofs.LegibleReplies.{IsLegibleSoFar, legible_more}
use Rattle.mds_replies.proofs.SlotHistories.{is_layout_call}
use Rattle.mds_replies.proofs.Turns.{StepsTo, Says}

-- ---- refusals

abbrev IsRefusedSo : ℕ → Stat4 → Type 0
IsRefusedSo number status = IsLegible (refused_as number status)

put_statuses : (handle : List ℕ) (files : ℕ) (status : Stat4) → refusal (put_fh_order handle files) ≡ Some status → IsRefusedSo 22 status
put_statuses handle files status is =
    in_order (IsRefusedSo 22) (put_fh_order handle files) (as_it_is (refused_as 22 stat.BadHandle) refl, (as_it_is (refused_as 22 stat.Stale) refl, tt)) status is

open_statuses : (o : Option Object) (name : List ℕ) (access : ℕ) (creation : Creation) (found : OpenFound) (status : Stat4) → refusal (open_order o name access creation found) ≡ Some status → IsRefusedSo 18 status
open_statuses o name access creation found status is =
    in_order (IsRefusedSo 18) (open_order o name access creation found) (
      as_it_is (refused_as 18 stat.NoFileHandle) refl,
      (
        as_it_is (refused_as 18 stat.NotDir) refl,
        (
          as_it_is (refused_as 18 stat.Inval) refl,
          (
            as_it_is (refused_as 18 stat.NameTooLong) refl,
            (as_it_is (refused_as 18 stat.NoEnt) refl, (as_it_is (refused_as 18 stat.Exist) refl, (as_it_is (refused_as 18 stat.ServerFault) refl, tt))),
          ),
        ),
      ),
    ) status is

read_statuses : (o : Option Object) (ask : ReadAsk) (status : Stat4) → refusal (read_order o ask) ≡ Some status → IsRefusedSo 25 status
read_statuses o ask status is =
    in_order (IsRefusedSo 25) (read_order o ask) (
      as_it_is (refused_as 25 stat.NoFileHandle) refl,
      (
        as_it_is (refused_as 25 stat.IsDir) refl,
        (as_it_is (refused_as 25 stat.BadStateid) refl, (as_it_is (refused_as 25 stat.RepTooBigToCache) refl, (as_it_is (refused_as 25 stat.Delay) refl, tt))),
      ),
    ) status is

write_statuses : (o : Option Object) (ask : WriteAsk) (status : Stat4) → refusal (write_order o ask) ≡ Some status → IsRefusedSo 38 status
write_statuses o ask status is =
    in_order (IsRefusedSo 38) (write_order o ask) (
      as_it_is (refused_as 38 stat.NoFileHandle) refl,
      (
        as_it_is (refused_as 38 stat.IsDir) refl,
        (
          as_it_is (refused_as 38 stat.BadStateid) refl,
          (
            as_it_is (refused_as 38 stat.Inval) refl,
            (as_it_is (refused_as 38 stat.Fbig) refl, (as_it_is (refused_as 38 stat.Delay) refl, (as_it_is (refused_as 38 stat.ServerFault) refl, tt))),
          ),
        ),
      ),
    ) status is

-- TOOSMALL is given in a result of its own
abbrev is_too_small : Stat4 → Bool
is_too_small stat.TooSmall = true
is_too_small status = false

abbrev IsDeviceRefusal : Stat4 → Type 0
IsDeviceRefusal status = is_too_small status ≡ false → IsRefusedSo 47 status

device_statuses : (layout_type : ℕ) (known : Bool) (maxcount size : ℕ) (status : Stat4) → refusal (device_info_order layout_type known maxcount size) ≡ Some status → IsDeviceRefusal status
device_statuses layout_type known maxcount size status is =
    in_order IsDeviceRefusal (device_info_order layout_type known maxcount size)
    (λ off. as_it_is (refused_as 47 stat.UnknownLayoutType) refl, (λ off. as_it_is (refused_as 47 stat.NoEnt) refl, (λ off. absurd cc, tt))) status is

-- the address fits where it is given
device_legible : (found : Option AddressValue) → device_size found ≤ 4096 → IsLegible (arm 47 resop4 (device_info_result (device_bytes MAX_COUNT found)))
device_legible None short = as_it_is (arm 47 resop4 (device_info_result [])) (omega arith, (omega arith, (omega arith, tt)))
device_legible (Some address) short =
    let few : length (device_body address) < 2 ^ 32 = body_few address (device_info_length address) (device_body address) refl refl (omega (arith, short)) in
    as_it_is (arm 47 resop4 (device_info_result (device_body address))) (omega arith, (omega (arith, few), (omega arith, tt)))

handle_legible : (object : Object) → IsLegible (arm 10 resop4 (inl (object_handle object)))
handle_legible Root = as_it_is (arm 10 resop4 (inl (long 0))) (omega (arith, length-long 0))
handle_legible (File file) = as_it_is (arm 10 resop4 (inl (long file.0))) (omega (arith, length-long file.0))

-- ---- each operation

module _ (left : ℕ) (m : MdsValue) (c : CompoundRun) (so : IsLegibleSoFar (suc left) c) where
  abbrev To : OpStep → Type 0
  To s = StepsTo (λ (d : CompoundRun). IsLegibleSoFar left d) s

  -- one result more, with any current object
  more : (current : Option Object) (result : Value resop4) → IsLegible result
      → IsLegibleSoFar left (record { node = c.node; xid = c.xid; tag = c.tag; ops = c.ops; stop = c.stop; results = c.results ++ result ∷ []; slot = c.slot; is_kept = c.is_kept; current = current })
  more current result its =
      legible_more left c (record { node = c.node; xid = c.xid; tag = c.tag; ops = c.ops; stop = c.stop; results = c.results ++ result ∷ []; slot = c.slot; is_kept = c.is_kept; current = current }) result so its refl refl

  unless : (number : ℕ) (status : Option Stat4) (step : OpStep) → ((s : Stat4) → status ≡ Some s → IsRefusedSo number s) → (status ≡ None → To step) → To (refused_or m c number status step)
  unless number None step refused its = its refl
  unless number (Some status) step refused its = more c.current (refused_as number status) (refused status refl)

  put_to : (o : Option Object) → To (put_object m c o)
  put_to None = more c.current (refused_as 22 stat.BadHandle) (as_it_is (refused_as 22 stat.BadHandle) refl)
  put_to (Some object) = more (Some object) (arm 22 resop4 (inl tt)) (as_it_is (arm 22 resop4 (inl tt)) tt)

  get_to : (o : Option Object) → To (get_object m c o)
  get_to None = more c.current (refused_as 10 stat.NoFileHandle) (as_it_is (refused_as 10 stat.NoFileHandle) refl)
  get_to (Some object) = more c.current (arm 10 resop4 (inl (object_handle object))) (handle_legible object)

  opens_to : (name : List ℕ) (o : Option FileId) → To (opens_or_makes m c name o)
  opens_to name (Some file) = more (Some (File file)) (open_result (given (open_of m.opens (client_of c) file) file m.opens.last)) (open_legible (given (open_of m.opens (client_of c) file) file m.opens.last))
  opens_to name None =
      let file : FileId = numbered (length m.files + 1) in
      more (Some (File file)) (open_result (given (open_of m.opens (client_of c) file) file m.opens.last)) (open_legible (given (open_of m.opens (client_of c) file) file m.opens.last))

  open_to : (args : Value open4_args) → To (runs_open m c args)
  open_to (seqid, (access, (deny, (clientid, (owner, (how, claim)))))) =
      let found : Option FileId = file_named m (name_in claim) in
      let order : Order = open_order c.current (name_in claim) access (creation_in how) (record { file = found; can_open = can_open m (client_of c) found; can_make = may_make m }) in
      unless 18 (refusal order) (opens_or_makes m c (name_in claim) found)
      (λ s is. open_statuses c.current (name_in claim) access (creation_in how) (record { file = found; can_open = can_open m (client_of c) found; can_make = may_make m }) s is) (λ none. opens_to (name_in claim) found)

  reads_to : (file : FileId) (at count : ℕ) (o : Option ServedFile) → To (reads_at m c file at count o)
  reads_to file at count None = more c.current (refused_as 25 stat.Stale) (as_it_is (refused_as 25 stat.Stale) refl)
  reads_to file at count (Some s) = tt

  read_to : (args : Value read4_args) → To (runs_read m c args)
  read_to (stateid, (offset, count)) =
      unless 25 (refusal (read_order c.current (read_ask m c (stateid, (offset, count))))) (reads_at m c (current_file c) offset (read_length count) (served m (current_file c)))
      (λ s is. read_statuses c.current (read_ask m c (stateid, (offset, count))) s is) (λ none. reads_to (current_file c) offset (read_length count) (served m (current_file c)))

  writes_to : (args : Value write4_args) → To (writes_file m c args)
  writes_to (stateid, (offset, (stable, []))) = more c.current (write_result 0) (write_legible 0)
  writes_to (stateid, (offset, (stable, (b ∷ bytes)))) = tt

  write_to : (now : ℕ) (args : Value write4_args) → To (runs_write m c now args)
  write_to now args = by_status (refusal (write_order c.current (write_ask m c args))) refl
    where
      by_status : (status : Option Stat4) → refusal (write_order c.current (write_ask m c args)) ≡ status → To (write_refused m c now args status)
      by_status status so_far =
          cond_both (is_delay status) (ends_by (asks_back m (current_file c) now) c 38 stat.Delay) (refused_or m c 38 status (writes_file m c args)) To
          (λ is. more c.current (refused_as 38 stat.Delay) (as_it_is (refused_as 38 stat.Delay) refl))
          (λ off. unless 38 status (writes_file m c args) (λ s is. write_statuses c.current (write_ask m c args) s (so_far ∙ is)) (λ none. writes_to args))

  reclaim_to : (o : Option SlotPass) → To (reclaims m c o)
  reclaim_to None = more c.current (refused_as 58 stat.OpNotInSession) (as_it_is (refused_as 58 stat.OpNotInSession) refl)
  reclaim_to (Some pass) =
      cond_both (list_any (nat_eq (client_in pass.session)) m.reclaimed) (refuses m c 58 stat.CompleteAlready) (Goes (record m { reclaimed = m.reclaimed ++ client_in pass.session ∷ [] }) [] (with_result c (arm 58 resop4 (inl tt)))) To
      (λ is. more c.current (refused_as 58 stat.CompleteAlready) (as_it_is (refused_as 58 stat.CompleteAlready) refl)) (λ off. more c.current (arm 58 resop4 (inl tt)) (as_it_is (arm 58 resop4 (inl tt)) tt))

  device_to : (found : Option AddressValue) (status : Option Stat4) → refusal (device_info_order FLEX_FILES (is_some found) MAX_COUNT (device_size found)) ≡ status → To (device_answer m c MAX_COUNT found status)
  device_to found None is =
      let all = holds_none (device_info_order FLEX_FILES (is_some found) MAX_COUNT (device_size found)) is in
      more c.current (arm 47 resop4 (device_info_result (device_bytes MAX_COUNT found))) (device_legible found (ltb-false MAX_COUNT (device_size found) all.1.1.0))
  device_to found (Some stat.TooSmall) is = more c.current (arm 47 resop4 (inr (inl (device_size found)))) (too_small_legible (device_size found))
  device_to found (Some status) is = more c.current (refused_as 47 status) (device_statuses FLEX_FILES (is_some found) MAX_COUNT (device_size found) status is refl)

  -- its session may be gone
  operates_to : (now : ℕ) (op : Value argop4) → To (operate now m c op) → IsRefusedSo (arm_of argop4 op) stat.BadSession → To (operates now m c op)
  operates_to now op its gone = cond_both (has_session m c.slot) (operate now m c op) (refuses m c (arm_of argop4 op) stat.BadSession) To (λ is. its) (λ off. more c.current (refused_as (arm_of argop4 op) stat.BadSession) gone)

-- ---- the operations of a call

-- with these operations to come
abbrev pub IsLegibleRun : List (Value argop4) → CompoundRun → Type 0
IsLegibleRun ops c = IsLegibleSoFar (length ops) c

-- it is so with any operations left
pub run_on : (left ops : List (Value argop4)) (c : CompoundRun) → IsLegibleRun left c → IsLegibleRun left (with_ops c ops)
run_on left ops c so = record { tag = so.tag; request = so.request; its = so.its; rest = so.rest; results = so.results; legible = so.legible; few = so.few }

devices_say : (servers : List ℕ) → Says IsLegibleRun (device_info_ops servers)
devices_say [] = tt
devices_say (server ∷ servers) = (
  λ now m c so.
      operates_to (length (device_info_ops servers)) m c so now (device_info_op server)
      (device_to (length (device_info_ops servers)) m c so (device_from 1 m.servers (device_id_of server).0) (refusal (device_info_order FLEX_FILES (is_some (device_from 1 m.servers (device_id_of server).0)) MAX_COUNT (device_size (device_from 1 m.servers (device_id_of server).0)))) refl)
      (as_it_is (refused_as 47 stat.BadSession) refl),
  devices_say servers,
)

put_says : (file : FileId) (ops : List (Value argop4)) → Says IsLegibleRun ops → Says IsLegibleRun (put_fh_op file ∷ ops)
put_says file ops rest = (
  λ now m c so.
      operates_to (length ops) m c so now (put_fh_op file)
      (unless (length ops) m c so 22 (refusal (put_fh_order (long file.0) (length m.files))) (put_object m c (object_of (long file.0))) (λ s is. put_statuses (long file.0) (length m.files) s is) (λ none. put_to (length ops) m c so (object_of (long file.0))))
      (as_it_is (refused_as 22 stat.BadSession) refl),
  rest,
)

pub calls_say : (name : List ℕ) (call : SlotCallValue) → is_layout_call call ≡ false → Says IsLegibleRun (slot_ops name call)
calls_say name slot.ReclaimComplete off = (λ now m c so. operates_to 0 m c so now (arm 58 argop4 false) (reclaim_to 0 m c so c.slot) (as_it_is (refused_as 58 stat.BadSession) refl), tt)
calls_say name (slot.Open text) off = (
  λ now m c so. operates_to 2 m c so now (arm 24 argop4 tt) (more 2 m c so (Some Root) (arm 24 resop4 (inl tt)) (as_it_is (arm 24 resop4 (inl tt)) tt)) (as_it_is (refused_as 24 stat.BadSession) refl),
  (
    λ now m c so. operates_to 1 m c so now (open_op name text) (open_to 1 m c so (0, (SHARE_BOTH, (0, (0, (name, (arm 1 openflag4 (arm 0 createhow4 ([], [])), inl text))))))) (as_it_is (refused_as 18 stat.BadSession) refl),
    (λ now m c so. operates_to 0 m c so now (arm 10 argop4 tt) (get_to 0 m c so c.current) (as_it_is (refused_as 10 stat.BadSession) refl), tt),
  ),
)
calls_say name (slot.LayoutGet file) off = absurd cc
calls_say name (slot.DeviceInfo servers) off = devices_say servers
calls_say name (slot.Write file at bytes) off =
    put_says file.file (write_op file.stateid at bytes ∷ []) (λ now m c so. operates_to 0 m c so now (write_op file.stateid at bytes) (write_to 0 m c so now (stateid4_value file.stateid, (at, (2, bytes)))) (as_it_is (refused_as 38 stat.BadSession) refl), tt)
calls_say name (slot.Read file at count) off =
    put_says file.file (read_op file.stateid at count ∷ []) (λ now m c so. operates_to 0 m c so now (read_op file.stateid at count) (read_to 0 m c so (stateid4_value file.stateid, (at, count))) (as_it_is (refused_as 25 stat.BadSession) refl), tt)
calls_say name (slot.LayoutReturn file stateid failed) off = absurd cc
calls_say name slot.Renew off = tt
