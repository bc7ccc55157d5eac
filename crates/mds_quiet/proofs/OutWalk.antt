-- What is kept of a metadata server by the calls that go out at the end of an event, where each of their parts keeps it.
use Rattle.std.proofs.Common.{◌≡◌, ◌≢◌, ℕ, List, [], ◌∷◌, Option, Some, None, refl}
use Rattle.std.specs.Prelude.{◌-◌, ◌==◌, ◌&&◌, slice_get, slice_set}
use Rattle.std.specs.List.{find, range_with_len}
use Rattle.std.proofs.lemmas.Bool.{cond_both, and_parts}
use Rattle.cluster_model.specs.declared.ids.NodeId.{NodeId}
use Rattle.cluster_model.specs.declared.ids.NodeId.TheVariants.{Server}
use Rattle.cluster_model.specs.declared.ids.FileId.{FileId}
use Rattle.mds_io.specs.Reads.{ReadSends}
use Rattle.mds_io.specs.Reads as read
use Rattle.nfs4_session.specs.Clients.{SessionsState, SessionState, has_id}
use Rattle.nfs4_session.specs.Bindings.{last_session}
use Rattle.recall.specs.declared.recall.RecallCall.{RecallCall}
use Rattle.recall.specs.Recalls.{RecallSends, next_sent}
use Rattle.mds_rule.specs.MdsStates.{WaitingRead, ServedFile, MdsSend, AwaitedCall, MdsValue, MdsStep, sends_none, and_then, is_call_to, served, with_served, numbered}
use Rattle.mds_rule.specs.declared.waiter.Waiter.{Waiter}
use Rattle.mds_rule.specs.declared.waiter.Waiter.TheVariants.{ForRead}
use Rattle.mds_rule.specs.Goes.{xid_after, calls_as, calls_server, OwnCall, own_by, place_of, own_call_at, own_next, has_xids, own_call, read_goes, read_call, read_call_in, each, read_count, read_calls, calls_back, recall_goes, recall_call, repeats_call, repeats, place_calls, file_calls}
use Rattle.mds_progress.proofs.OutWalk.{some_number}

-- a file's READ behind its call
abbrev pub read_sent : ServedFile → ℕ → WaitingRead → ReadSends → ServedFile
read_sent s n r sent = record s { reads = slice_set s.reads n (record { compound = r.compound; read = sent.read }) }

-- what any of them can do
pub record OutCases (P : MdsValue → Type 0) : Type 0 where
  pub called : (m : MdsValue) (node : NodeId) (caller : Waiter) (sent : MdsSend) → m.next_xid ≢ 0 → P m → P (calls_as m node caller sent).mds
  pub skips : (m : MdsValue) → m.next_xid ≢ 0 → P m → P (record m { next_xid = xid_after m.next_xid })
  pub sessions : (m : MdsValue) (table : SessionsState) → P m → P (record m { sessions = table })
  pub recalls : (m : MdsValue) (sent : RecallSends) → next_sent m.recalls m.next_xid ≡ Some sent → P m → P (record m { recalls = sent.recalls })
  pub reads : (m : MdsValue) (file : FileId) (s : ServedFile) (n : ℕ) (r : WaitingRead) (sent : ReadSends) → served m file ≡ Some s → slice_get s.reads n ≡ Some r → read.next_sent r.read m.next_xid ≡ Some sent
      → P m → P (with_served m file (read_sent s n r sent))
  pub own : (m : MdsValue) (file : FileId) (s : ServedFile) (c : OwnCall) → served m file ≡ Some s → own_by file s m.next_xid s.write ≡ Some c → P m → P (with_served m file c.served)

module _ (P : MdsValue → Type 0) (k : OutCases P) where
  pub each_so : {A : Type 0} (step : A → MdsValue → MdsStep) → ((a : A) (m : MdsValue) → P m → P (step a m).mds) → (list : List A) (m : MdsValue) → P m → P (each step list m).mds
  each_so step keeps [] m p = p
  each_so step keeps (a ∷ list) m p = each_so step keeps list (step a m).mds (keeps a m p)

  -- ---- READs

  read_goes_so : (m : MdsValue) (file : FileId) (s : ServedFile) → served m file ≡ Some s → (n place : ℕ) (r : WaitingRead) → slice_get s.reads n ≡ Some r → (o : Option ReadSends) → read.next_sent r.read m.next_xid ≡ o → P m → P (read_goes m file s n place r o).mds
  read_goes_so m file s is n place r at None goes p = p
  read_goes_so m file s is n place r at (Some sent) goes p =
      cond_both ((place_of s sent.id.server == place) && has_xids m) (calls_server m file (read_sent s n r sent) (ForRead file) sent.id.server 0 sent.call) (sends_none m) (λ (x : MdsStep). P x.mds)
      (λ both. k.called (with_served m file (read_sent s n r sent)) (Server sent.id.server) (ForRead file) _ (some_number m (and_parts (place_of s sent.id.server == place) (has_xids m) both).1) (k.reads m file s n r sent is at goes p)) (λ off. p)

  read_call_so : (m : MdsValue) (file : FileId) (s : ServedFile) → served m file ≡ Some s → (n place : ℕ) (o : Option WaitingRead) → slice_get s.reads n ≡ o → P m → P (read_call m file s n place o).mds
  read_call_so m file s is n place None at p = p
  read_call_so m file s is n place (Some r) at p = read_goes_so m file s is n place r at (read.next_sent r.read m.next_xid) refl p

  read_in_so : (file : FileId) (place n : ℕ) (m : MdsValue) (o : Option ServedFile) → served m file ≡ o → P m → P (read_call_in file place n m o).mds
  read_in_so file place n m None is p = p
  read_in_so file place n m (Some s) is p = read_call_so m file s is n place (slice_get s.reads n) refl p

  pub read_so : (file : FileId) (place n : ℕ) (m : MdsValue) → P m → P (read_call_in file place n m (served m file)).mds
  read_so file place n m p = read_in_so file place n m (served m file) refl p

  pub reads_so : (file : FileId) (place : ℕ) (m : MdsValue) → P m → P (read_calls file place m).mds
  reads_so file place m = each_so (λ n x. read_call_in file place n x (served x file)) (λ n x. read_so file place n x) (range_with_len 0 (read_count (served m file))) m

  -- ---- recalls, and what goes out again

  back_so : (m : MdsValue) (c : RecallCall) (o : Option SessionState) → m.next_xid ≢ 0 → P m → P (calls_back m c o).mds
  back_so m c None some p = k.skips m some p
  back_so m c (Some session) some p = k.called _ _ _ _ some (k.sessions m _ p)

  recall_goes_so : (m : MdsValue) (file : FileId) (o : Option RecallSends) → next_sent m.recalls m.next_xid ≡ o → m.next_xid ≢ 0 → P m → P (recall_goes m file o).mds
  recall_goes_so m file None goes some p = p
  recall_goes_so m file (Some sent) goes some p =
      let n : MdsValue = record m { recalls = sent.recalls } in
      cond_both (sent.call.file.0 == file.0) (calls_back n sent.call (last_session (find (has_id sent.call.client) m.sessions.clients))) (sends_none m) (λ (x : MdsStep). P x.mds)
      (λ is. back_so n sent.call (last_session (find (has_id sent.call.client) m.sessions.clients)) some (k.recalls m sent goes p)) (λ off. p)

  pub recall_so : (file : FileId) (m : MdsValue) → P m → P (recall_call file m).mds
  recall_so file m p =
      cond_both (has_xids m) (recall_goes m file (next_sent m.recalls m.next_xid)) (sends_none m) (λ (x : MdsStep). P x.mds) (λ has. recall_goes_so m file (next_sent m.recalls m.next_xid) refl (some_number m has) p) (λ off. p)

  repeat_so : (m : MdsValue) (o : Option AwaitedCall) → P m → P (repeats_call m o).mds
  repeat_so m None p = p
  repeat_so m (Some c) p = p

  pub repeats_so : (kept : Option (Option (ℕ × ℕ))) (m : MdsValue) → P m → P (repeats kept m).mds
  repeats_so None m p = p
  repeats_so (Some None) m p = p
  repeats_so (Some (Some kept)) m p = repeat_so m (find (is_call_to (Server kept.0) kept.1) m.calls) p

  -- what goes out of a file before the calls by place
  pub front_so : (kept : List (Option (ℕ × ℕ))) (n : ℕ) (m : MdsValue) → P m → P (and_then (recall_call (numbered n) m) (repeats (slice_get kept (n - 1)))).mds
  front_so kept n m p = repeats_so (slice_get kept (n - 1)) (recall_call (numbered n) m).mds (recall_so (numbered n) m p)

  -- ---- a file's own calls

  own_at_so : (m : MdsValue) (file : FileId) (s : ServedFile) → served m file ≡ Some s → (place : ℕ) (o : Option OwnCall) → own_by file s m.next_xid s.write ≡ o → m.next_xid ≢ 0 → P m → P (own_call_at m file s place o).mds
  own_at_so m file s is place None its some p = p
  own_at_so m file s is place (Some c) its some p =
      cond_both (place_of s c.server == place) (calls_server m file c.served c.caller c.server c.uid c.call) (sends_none m) (λ (x : MdsStep). P x.mds)
      (λ here. k.called (with_served m file c.served) (Server c.server) c.caller _ some (k.own m file s c is its p)) (λ off. p)

  own_next_so : (m : MdsValue) (file : FileId) (place : ℕ) (o : Option ServedFile) → served m file ≡ o → m.next_xid ≢ 0 → P m → P (own_next m file place o).mds
  own_next_so m file place None is some p = p
  own_next_so m file place (Some s) is some p = own_at_so m file s is place (own_by file s m.next_xid s.write) refl some p

  pub own_so : (file : FileId) (place : ℕ) (m : MdsValue) → P m → P (own_call file place m).mds
  own_so file place m p =
      cond_both (has_xids m) (own_next m file place (served m file)) (sends_none m) (λ (x : MdsStep). P x.mds) (λ has. own_next_so m file place (served m file) refl (some_number m has) p) (λ off. p)

  pub four_so : (file : FileId) (place : ℕ) (m : MdsValue) → P m → P (own_call file place (own_call file place (own_call file place (own_call file place m).mds).mds).mds).mds
  four_so file place m p =
      let one : MdsValue = (own_call file place m).mds in
      let two : MdsValue = (own_call file place one).mds in
      own_so file place (own_call file place two).mds (own_so file place two (own_so file place one (own_so file place m p)))

  pub place_so : (file : FileId) (place : ℕ) (m : MdsValue) → P m → P (place_calls file place m).mds
  place_so file place m p = reads_so file place (own_call file place (own_call file place (own_call file place (own_call file place m).mds).mds).mds).mds (four_so file place m p)

  pub file_so : (kept : List (Option (ℕ × ℕ))) (n : ℕ) (m : MdsValue) → P m → P (file_calls kept n m).mds
  file_so kept n m p = each_so (place_calls (numbered n)) (λ place x. place_so (numbered n) place x) (0 ∷ 1 ∷ 2 ∷ 3 ∷ 4 ∷ []) (and_then (recall_call (numbered n) m) (repeats (slice_get kept (n - 1)))).mds (front_so kept n m p)
