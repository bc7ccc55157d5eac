-- A call that goes out is a call of the machine: a file's own, or one that anybody may send.
use Rattle.std.proofs.Common.{◌≡◌, ◌<◌, ◌≤◌, ◌⊎◌, ℕ, ◌-◌, Bool, true, cond, List, [], ◌∷◌, ◌++◌, length, Some, refl, sym, ap, subst, ◌∙◌, inl, inr, arith}
use Rattle.std.specs.Prelude.{map, slice_get, slice_set}
use Rattle.std.proofs.lemmas.Bool.{and_from, lt-ltb, cases_lt}
use Rattle.cluster_model.specs.declared.ids.NodeId.TheVariants.{Mds, Server}
use Rattle.cluster_model.specs.declared.ids.FileId.{FileId}
use Rattle.cluster_model.specs.declared.entry.Entry.{Entry}
use Rattle.cluster_model.specs.DsCalls.{DsCallValue}
use Rattle.file_rule.specs.MdsFiles.{MdsFile}
use Rattle.file_rule.specs.FilePhases.{CallOut, call_out}
use Rattle.cluster_laws.specs.Machine.{PacketValue, Call, Machine, Move, MachineStep, CallsOut, Uses, new_machine, no_move, with_number, is_new_number, numbered_at, goes_out, call_out_from, may_use, moved}
use Rattle.cluster_laws.specs.CallRanges.{AreServersInRange}
use Rattle.ds_calls.specs.DsCallLaws.{HasRecord}
use Rattle.machine_moves.specs.MachineMoves.{KeepsPackets}
use Rattle.machine_moves.specs.MachineGoesOn.{MachineGoesOn}
use Rattle.machine_moves.proofs.Bound.{goes_further}
use Rattle.machine_moves.proofs.Numbers.{AreCallsOnce, new_once, moves_once}
use Rattle.cluster_laws.specs.FenceLaw.{new_servers}
use Rattle.cluster_laws.specs.Agreement.{sent_of}
use Rattle.cluster_laws.specs.Holders.{IsPacketAt, IsIn, the_write, IsBoundCall, IsBound}
use Rattle.cluster_laws.specs.Telling.{telling}
use Rattle.cluster_laws.proofs.Lists.{at_place, push_old}
use Rattle.cluster_laws.proofs.FewMirrors.{FileHasFew}
use Rattle.cluster_laws.proofs.FewSteps.{OutFew, out_few}
use Rattle.mirror_writer.specs.Writers.{WriterSends, next_sent}
use Rattle.mds_laws.proofs.WriterKept.{sends_of}
use Rattle.mds_laws.proofs.Keeping.{is_write_call}
use Rattle.mds_moves.specs.MdsBinds.{IsReachedBy, AreCallsBehind, IsWrittenTo, IsOwnWrite, OwnWriteStands, ServedStands, HasOwnWrites}
use Rattle.mds_moves.proofs.FileStands.{TellsAll}
use Rattle.mds_moves.proofs.WriterMirrors.{within}
use Rattle.mds_moves.proofs.WriterSends.{call_so, is_bound}
use Rattle.mds_moves.proofs.OwnKept.{ends_before, own_put, own_on, calls_none}
use Rattle.std.proofs.lemmas.List.{append-nil}
use Rattle.std.proofs.lemmas.Option.{same_Some}
use Rattle.machine_moves.proofs.Packets.{move_keeps}
use Rattle.mds_rule.specs.MdsStates.{WaitingWrite, ServedFile, MdsSend, CallsServer, AwaitedCall, MdsValue, served}
use Rattle.mds_rule.specs.declared.waiter.Waiter.{Waiter}
use Rattle.mds_rule.specs.declared.waiter.Waiter.TheVariants.{ForFile, ForWrite}
use Rattle.mds_rule.specs.Goes.{calls_server, has_xids}
use Rattle.mds_walk.proofs.Lists.{AllOf, in_more, in_last, all_set, all_got}
use Rattle.mds_walk.proofs.Served.{place_served}
use Rattle.mds_moves.specs.MdsMoves.{message_of, IsSpoken, IsCallFor, IsWriterInRange, IsWaitingInRange, IsServedInRange}
use Rattle.mds_moves.proofs.CallKinds.{reads_bytes, of_write, write_used}
use Rattle.mds_moves.proofs.MdsMachine.{file_in, file_there, set_files, put_files, is_new, goes_calling}
use Rattle.mds_moves.proofs.Ranges.{CallsFit, call_at, same_range, file_speaks, write_speaks, stays_in_range}
use Rattle.mds_moves.proofs.Stands.{IsFrom, stays_reached, is_reached, then_reached, binds_further}

-- a new call goes out
abbrev calling : Machine → List MdsFile → ℕ → PacketValue → Machine
calling n files xid packet = record {
  servers = n.servers;
  files = files;
  next_uid = n.next_uid;
  next_name = n.next_name;
  last_xid = with_number n.last_xid Mds xid;
  packets = n.packets ++ packet ∷ [];
  holdings = n.holdings;
}

last_there : {A : Type 0} (xs : List A) (x : A) → slice_get (xs ++ x ∷ []) (length xs) ≡ Some x
last_there [] x = refl
last_there (y ∷ ys) x = last_there ys x

pub push_there : (xs : List PacketValue) (x : PacketValue) (place : ℕ) (y : PacketValue) → slice_get xs place ≡ Some y → slice_get (xs ++ x ∷ []) place ≡ Some y
push_there xs x place y is = push_old xs (x ∷ []) place y is

-- what goes out leaves the file few mirrors
few_out : (f : MdsFile) (xid : ℕ) (c : CallOut) → call_out f xid ≡ Some c → FileHasFew f → FileHasFew c.file
few_out f xid c is few = subst (OutFew f few) is (out_few f few xid f.activity few.room)

-- what waits at a file
pub write_of : (m : MdsValue) (file : FileId) (s : ServedFile) → served m file ≡ Some s → AllOf IsServedInRange m.files → IsWaitingInRange s.write
write_of m file s at all = all_got IsServedInRange m.files (file.0 - 1) s all (place_served m file s at).1

-- a new number is behind all that stands there
module _ (n : Machine) (new : Machine) (once : AreCallsOnce n) (keeps : KeepsPackets n new) (xid : ℕ) (less : n.last_xid Mds < xid) where
  pub all_behind : (place : ℕ) (packet : PacketValue) → IsPacketAt n.packets place packet → AreCallsBehind new.packets place xid
  all_behind place packet there p server uid gid call at = by_place (cases_lt p (length n.packets))
    where
      by_place : (p < length n.packets) ⊎ (length n.packets ≤ p) → place < p
      by_place (inl old) =
          let was = at_place n.packets p old in
          let same : was.0 ≡ Call Mds server xid uid gid call = same_Some was.0 (Call Mds server xid uid gid call) (sym (keeps p was.0 was.1) ∙ at) in
          let few : xid ≤ n.last_xid Mds = once.used p xid was.0 was.1 (record { server = server; uid = uid; gid = gid; call = call; is = same }) in
          absurd (omega (arith, few, less))
      by_place (inr more) = let is_within = within n.packets place packet there in omega (arith, is_within, more)

module _ (tells : TellsAll) (mc : Machine) (journal : List Entry) (reached : IsReachedBy mc journal) (Stood : Type 0) (past : List MdsSend) where
  abbrev IsSo : MdsValue → List Entry → List MdsSend → Type 0
  IsSo m es ss = IsFrom mc journal Stood past m es ss

  -- what is owed of the file whose call goes out
  abbrev pub CallsSo : (m : MdsValue) (es : List Entry) (ss : List MdsSend) → Machine → ServedFile → PacketValue → MdsSend → Type 0
  CallsSo m es ss n t packet sent =
      Stood → HasOwnWrites n.packets (journal ++ telling es) ss m.files m.fresh → ServedStands (n.packets ++ packet ∷ []) (journal ++ telling es) (ss ++ sent ∷ []) t × FileHasFew t.file

  call_case : (m : MdsValue) (file : FileId) (t : ServedFile) (caller : Waiter) (server uid : ℕ) (c : DsCallValue) → has_xids m ≡ true → (es : List Entry) (ss : List MdsSend) (i : IsSo m es ss) → IsCallFor caller (message_of m.next_xid uid c)
      → IsSpoken (message_of m.next_xid uid c) → IsWaitingInRange t.write → (files : List MdsFile) → map file_in (slice_set m.files (file.0 - 1) t) ≡ files → (move : Move)
      → moved i.machine move ≡ record { machine = calling i.machine files m.next_xid (Call Mds server m.next_xid uid uid c); entries = [] }
      → (Stood → IsBound i.machine (journal ++ telling es) move) → CallsSo m es ss i.machine t (Call Mds server m.next_xid uid uid c) (CallsServer server m.next_xid uid c)
      → IsSo (calls_server m file t caller server uid c).mds (es ++ []) (ss ++ CallsServer server m.next_xid uid c ∷ [])
  call_case m file t caller server uid c has es ss i its spoken write files same move comes bound own =
      let n : Machine = i.machine in
      let packet : PacketValue = Call Mds server m.next_xid uid uid c in
      let after : Machine = calling n files m.next_xid packet in
      let step : MachineStep = record { machine = after; entries = [] } in
      let call : AwaitedCall = record { node = Server server; xid = m.next_xid; caller = caller; sent = CallsServer server m.next_xid uid c } in
      let keeps : KeepsPackets n after = subst (λ (s : MachineStep). KeepsPackets n s.machine) comes (move_keeps n move) in
      record {
        machine = after;
        goes = goes_further mc n es move step i.goes comes;
        stays = i.stays;
        is = goes_calling n after (record { packets = keeps; servers = refl }) m.servers m.mirrors m.files m.fresh m.calls m.next_xid ss i.is has
            (omega arith) call refl (record { number = refl; node = (refl, its) }) (record { place = length n.packets; there = last_there n.packets packet }, spoken) (slice_set m.files (file.0 - 1) t) same i.is.fresh (all_set IsServedInRange m.files (file.0 - 1) t i.is.writes write);
        kept = λ s inside. in_more s ss (call.sent ∷ []) (i.kept s inside);
        binds = binds_further tells mc n journal es reached i.goes (es ++ []) (ends_before mc.packets journal es []) Stood i.binds move (λ stood ends. bound stood);
        own = λ stood.
            (let its_own = own stood (i.own stood) in
            let later : HasOwnWrites after.packets (journal ++ telling es) (ss ++ call.sent ∷ []) m.files m.fresh =
            own_on n.packets after.packets keeps (journal ++ telling es) ss (ss ++ call.sent ∷ []) (λ s inside. in_more s ss (call.sent ∷ []) inside) m.files m.fresh (i.own stood) in
            subst (λ (l : List Entry). HasOwnWrites after.packets (journal ++ telling l) (ss ++ call.sent ∷ []) (slice_set m.files (file.0 - 1) t) m.fresh) (sym (append-nil es))
            (own_put after.packets (journal ++ telling es) (ss ++ call.sent ∷ []) m.files m.fresh (file.0 - 1) t its_own.0 its_own.1 later));
      }

  pub file_case : CallsFit → AreServersInRange mc → (m : MdsValue) (file : FileId) (s : ServedFile) (c : CallOut) → served m file ≡ Some s → has_xids m ≡ true → call_out s.file m.next_xid ≡ Some c → (es : List Entry) (ss : List MdsSend) → IsSo m es ss
      → IsSo (calls_server m file (record s { file = c.file }) (ForFile file) c.server c.uid c.call).mds (es ++ []) (ss ++ CallsServer c.server m.next_xid c.uid c.call ∷ [])
  file_case fit range m file s c at has its es ss i =
      let n : Machine = i.machine in
      let there : numbered_at n.files file.0 ≡ Some s.file = file_there n m file s i.is.files at in
      let place : slice_get m.files (file.0 - 1) ≡ Some s = (place_served m file s at).1 in
      let spoken : HasRecord (message_of m.next_xid c.uid c.call) =
      file_speaks m.next_xid c i.is.few (call_at fit n (stays_reached mc n es (is_reached mc journal reached) i.goes) (same_range mc n i.stays range) file.0 m.next_xid s.file c there its) in
      let new : is_new_number n Mds m.next_xid ≡ true = lt-ltb (n.last_xid Mds) m.next_xid (is_new n m.servers m.mirrors m.files m.fresh m.calls m.next_xid ss i.is has) in
      let packet : PacketValue = Call Mds c.server m.next_xid c.uid c.uid c.call in
      let sent : MdsSend = CallsServer c.server m.next_xid c.uid c.call in
      call_case m file (record s { file = c.file }) (ForFile file) c.server c.uid c.call has es ss i (reads_bytes s.file m.next_xid c its, spoken) (inl spoken) (write_of m file s at i.is.writes) (slice_set n.files (file.0 - 1) c.file)
      (set_files m.files n.files (file.0 - 1) (record s { file = c.file }) i.is.files) (CallsOut file.0 m.next_xid)
      (ap (call_out_from n file.0 m.next_xid) there
      ∙ (ap (λ (b : Bool). cond b (goes_out n file.0 m.next_xid (call_out s.file m.next_xid)) (no_move n)) new ∙ ap (goes_out n file.0 m.next_xid) its)) (λ stood. tt)
      (λ stood own. (
        calls_none n.packets (n.packets ++ packet ∷ []) (journal ++ telling es) ss (ss ++ sent ∷ []) s.file m.next_xid c its s.write (all_got (ServedStands n.packets (journal ++ telling es) ss) m.files (file.0 - 1) s own.writes place),
        few_out s.file m.next_xid c its (all_got (λ (y : ServedFile). FileHasFew y.file) m.files (file.0 - 1) s own.few place),
      ))

  pub used_case : (m : MdsValue) (file : FileId) (s t : ServedFile) (caller : Waiter) (server uid : ℕ) (c : DsCallValue) → served m file ≡ Some s → t.file ≡ s.file → has_xids m ≡ true → may_use c ≡ true
      → (es : List Entry) (ss : List MdsSend) (i : IsSo m es ss) → IsCallFor caller (message_of m.next_xid uid c) → IsSpoken (message_of m.next_xid uid c) → IsWaitingInRange t.write
      → (Stood → IsBoundCall (journal ++ telling es) uid c) → CallsSo m es ss i.machine t (Call Mds server m.next_xid uid uid c) (CallsServer server m.next_xid uid c)
      → IsSo (calls_server m file t caller server uid c).mds (es ++ []) (ss ++ CallsServer server m.next_xid uid c ∷ [])
  used_case m file s t caller server uid c at same has may es ss i its spoken write bound own =
      let n : Machine = i.machine in
      let new : is_new_number n Mds m.next_xid ≡ true = lt-ltb (n.last_xid Mds) m.next_xid (is_new n m.servers m.mirrors m.files m.fresh m.calls m.next_xid ss i.is has) in
      let step : MachineStep = record { machine = calling n n.files m.next_xid (Call Mds server m.next_xid uid uid c); entries = [] } in
      call_case m file t caller server uid c has es ss i its spoken write n.files (put_files m.files (file.0 - 1) s t (place_served m file s at).1 same ∙ i.is.files) (Uses Mds server m.next_xid uid uid c)
      (ap (λ (b : Bool). cond b step (no_move n)) (and_from (may_use c) (is_new_number n Mds m.next_xid) may new)) bound own

  -- ---- a call of an own write

  pub calls_once : (n : Machine) (es : List Entry) → MachineGoesOn mc es n → AreCallsOnce n
  calls_once n es g =
      let r : IsReachedBy n (journal ++ telling es) = then_reached tells mc n journal es reached g in
      subst AreCallsOnce r.machine (moves_once (new_machine (new_servers 1 r.boots)) r.moves (new_once (new_servers 1 r.boots)))

  pub write_case : (m : MdsValue) (file : FileId) (s : ServedFile) (w : WaitingWrite) (c : WriterSends) → served m file ≡ Some s → has_xids m ≡ true → s.write ≡ Some w → next_sent w.writer m.next_xid ≡ Some c → is_write_call c.call ≡ true
      → (es : List Entry) (ss : List MdsSend) → IsSo m es ss
      → IsSo (calls_server m file (record s { write = Some (record w { writer = c.writer }) }) (ForWrite file) c.id.server w.writer.cred c.call).mds (es ++ []) (ss ++ CallsServer c.id.server m.next_xid w.writer.cred c.call ∷ [])
  write_case m file s w c at has waits its is_write es ss i =
      let n : Machine = i.machine in
      let place : slice_get m.files (file.0 - 1) ≡ Some s = (place_served m file s at).1 in
      let was : IsWriterInRange w.writer = subst IsWaitingInRange waits (write_of m file s at i.is.writes) in
      let out = sends_of w.writer m.next_xid c its in
      let spoken : HasRecord (message_of m.next_xid w.writer.cred c.call) = write_speaks w.writer m.next_xid c.call i.is.few was out.3 in
      let packet : PacketValue = Call Mds c.id.server m.next_xid w.writer.cred w.writer.cred c.call in
      let sent : MdsSend = CallsServer c.id.server m.next_xid w.writer.cred c.call in
      let less : n.last_xid Mds < m.next_xid = is_new n m.servers m.mirrors m.files m.fresh m.calls m.next_xid ss i.is has in
      let v : WaitingWrite = record w { writer = c.writer } in
      let its_own : (own : HasOwnWrites n.packets (journal ++ telling es) ss m.files m.fresh) → IsOwnWrite n.packets (journal ++ telling es) ss s.file w =
      λ own. subst (OwnWriteStands n.packets (journal ++ telling es) ss s.file) waits (all_got (ServedStands n.packets (journal ++ telling es) ss) m.files (file.0 - 1) s own.writes place) in
      used_case m file s (record s { write = Some v }) (ForWrite file) c.id.server w.writer.cred c.call at refl has (write_used c.call is_write) es ss i (of_write c.call is_write, spoken) (inl spoken)
      (stays_in_range w.writer c.writer out.0 was)
      (λ stood. (let o = its_own (i.own stood) in is_bound (journal ++ telling es) w.writer.cred w.at w.bytes w.writer o.taken o.sent c.call out.3))
      (λ stood own.
      (let o = its_own own in
      let there = call_so n.packets (n.packets ++ packet ∷ []) (λ p x h. push_there n.packets packet p x h) ss (ss ++ sent ∷ []) (λ x inside. in_more x ss (sent ∷ []) inside) w.writer.cred w.at w.bytes w.failures w.writer o.taken o.each m.next_xid
      (λ p x h. all_behind n (calling n n.files m.next_xid packet) (calls_once n es i.goes) (λ q y g. push_there n.packets packet q y g) m.next_xid less p x h) c its (in_last sent ss) in (
        record {
          is_recalled = o.is_recalled;
          held = o.held;
          idle = o.idle;
          uid = o.uid ∙ sym out.0.cred;
          mirrors = there.1 ∙ o.mirrors;
          taken = out.0.taken ∙ o.taken;
          some = o.some;
          sent = subst (λ (u : ℕ). IsIn (the_write w.at w.bytes) (sent_of u (journal ++ telling es))) (sym out.0.cred) o.sent;
          each = subst (λ (u : ℕ). AllOf (IsWrittenTo (n.packets ++ packet ∷ []) (ss ++ sent ∷ []) u w.at w.bytes w.failures) c.writer.mirrors) (sym out.0.cred) there.0;
        },
        all_got (λ (y : ServedFile). FileHasFew y.file) m.files (file.0 - 1) s own.few place,
      )))
