-- What is kept of a metadata server by the calls that go out at the end of an event, where it is kept by each of their parts.
use Rattle.std.proofs.Common.{◌≡◌, ◌≢◌, ℕ, Bool, true, false, List, [], ◌∷◌, length, Option, Some, None, refl, sym, ap, subst, ◌∙◌}
use Rattle.std.specs.Prelude.{◌-◌, ◌==◌, ◌&&◌, not, slice_get, slice_set}
use Rattle.std.specs.List.{find, range_with_len}
use Rattle.std.proofs.lemmas.Bool.{cond_both, and_parts, eq-eqb}
use Rattle.cluster_model.specs.declared.ids.NodeId.{NodeId}
use Rattle.cluster_model.specs.declared.ids.NodeId.TheVariants.{Server}
use Rattle.cluster_model.specs.declared.ids.FileId.{FileId}
use Rattle.mds_io.specs.Reads.{ReadSends}
use Rattle.mds_io.specs.Reads as read
use Rattle.nfs4_session.specs.Clients.{SessionsState, SessionState, has_id}
use Rattle.nfs4_session.specs.Bindings.{last_session}
use Rattle.recall.specs.declared.recall.Recall.{Recall}
use Rattle.recall.specs.declared.recall.RecallCall.{RecallCall}
use Rattle.recall.specs.Recalls.{RecallSends, next_sent}
use Rattle.mds_rule.specs.MdsStates.{WaitingRead, ServedFile, MdsSend, AwaitedCall, MdsValue, MdsStep, sends_none, and_then, is_call_to, served, with_served, numbered}
use Rattle.mds_rule.specs.declared.waiter.Waiter.{Waiter}
use Rattle.mds_rule.specs.declared.waiter.Waiter.TheVariants.{ForRead}
use Rattle.mds_rule.specs.Goes.{xid_after, calls_as, calls_server, OwnCall, own_by, place_of, own_call_at, own_next, has_xids, own_call, own_two, own_calls, read_goes, read_call, read_call_in, each, read_count, read_calls, calls_back, recall_goes, recall_call, repeats_call, repeats, place_calls, file_calls, calls_out}

-- there is a number for a next call
pub some_number : (m : MdsValue) → has_xids m ≡ true → m.next_xid ≢ 0
some_number m has zero_is = not_both (sym has ∙ ap not (eq-eqb m.next_xid 0 zero_is))
  where
    not_both : true ≡ false → ⊥
    not_both e = absurd cc

module _ (P : MdsValue → Type 0) (Allowed : FileId → Type 0)
    (called : (m : MdsValue) (node : NodeId) (caller : Waiter) (sent : MdsSend) → m.next_xid ≢ 0 → P m → P (calls_as m node caller sent).mds)
    (reads : (m : MdsValue) (file : FileId) (s : ServedFile) (list : List WaitingRead) → Allowed file → served m file ≡ Some s → P m → P (with_served m file (record s { reads = list })))
    (recalls : (m : MdsValue) (list : List Recall) → P m → P (record m { recalls = list }))
    (sessions : (m : MdsValue) (table : SessionsState) → P m → P (record m { sessions = table }))
    (skips : (m : MdsValue) → m.next_xid ≢ 0 → P m → P (record m { next_xid = xid_after m.next_xid })) where
  pub each_so : {A : Type 0} (step : A → MdsValue → MdsStep) → ((a : A) (m : MdsValue) → P m → P (step a m).mds) → (list : List A) (m : MdsValue) → P m → P (each step list m).mds
  each_so step keeps [] m p = p
  each_so step keeps (a ∷ list) m p = each_so step keeps list (step a m).mds (keeps a m p)

  -- ---- READs

  read_goes_so : (m : MdsValue) (file : FileId) (s : ServedFile) → Allowed file → served m file ≡ Some s → (n place : ℕ) (r : WaitingRead) (o : Option ReadSends) → P m → P (read_goes m file s n place r o).mds
  read_goes_so m file s may is n place r None p = p
  read_goes_so m file s may is n place r (Some sent) p =
      let list : List WaitingRead = slice_set s.reads n (record { compound = r.compound; read = sent.read }) in
      cond_both ((place_of s sent.id.server == place) && has_xids m) (calls_server m file (record s { reads = list }) (ForRead file) sent.id.server 0 sent.call) (sends_none m) (λ (x : MdsStep). P x.mds)
      (λ both. called (with_served m file (record s { reads = list })) (Server sent.id.server) (ForRead file) _ (some_number m (and_parts (place_of s sent.id.server == place) (has_xids m) both).1) (reads m file s list may is p)) (λ off. p)

  read_call_so : (m : MdsValue) (file : FileId) (s : ServedFile) → Allowed file → served m file ≡ Some s → (n place : ℕ) (o : Option WaitingRead) → P m → P (read_call m file s n place o).mds
  read_call_so m file s may is n place None p = p
  read_call_so m file s may is n place (Some r) p = read_goes_so m file s may is n place r (read.next_sent r.read m.next_xid) p

  read_in_so : (file : FileId) → Allowed file → (place n : ℕ) (m : MdsValue) (o : Option ServedFile) → served m file ≡ o → P m → P (read_call_in file place n m o).mds
  read_in_so file may place n m None is p = p
  read_in_so file may place n m (Some s) is p = read_call_so m file s may is n place (slice_get s.reads n) p

  pub reads_so : (file : FileId) → Allowed file → (place : ℕ) (m : MdsValue) → P m → P (read_calls file place m).mds
  reads_so file may place m = each_so (λ n k. read_call_in file place n k (served k file)) (λ n k. read_in_so file may place n k (served k file) refl) (range_with_len 0 (read_count (served m file))) m

  -- ---- recalls, and what goes out again

  back_so : (m : MdsValue) (c : RecallCall) (o : Option SessionState) → m.next_xid ≢ 0 → P m → P (calls_back m c o).mds
  back_so m c None some p = skips m some p
  back_so m c (Some session) some p = called _ _ _ _ some (sessions m _ p)

  recall_goes_so : (m : MdsValue) (file : FileId) (o : Option RecallSends) → m.next_xid ≢ 0 → P m → P (recall_goes m file o).mds
  recall_goes_so m file None some p = p
  recall_goes_so m file (Some sent) some p =
      let n : MdsValue = record m { recalls = sent.recalls } in
      cond_both (sent.call.file.0 == file.0) (calls_back n sent.call (last_session (find (has_id sent.call.client) m.sessions.clients))) (sends_none m) (λ (x : MdsStep). P x.mds)
      (λ is. back_so n sent.call (last_session (find (has_id sent.call.client) m.sessions.clients)) some (recalls m sent.recalls p)) (λ off. p)

  recall_so : (file : FileId) (m : MdsValue) → P m → P (recall_call file m).mds
  recall_so file m p =
      cond_both (has_xids m) (recall_goes m file (next_sent m.recalls m.next_xid)) (sends_none m) (λ (x : MdsStep). P x.mds) (λ has. recall_goes_so m file (next_sent m.recalls m.next_xid) (some_number m has) p) (λ off. p)

  repeat_so : (m : MdsValue) (o : Option AwaitedCall) → P m → P (repeats_call m o).mds
  repeat_so m None p = p
  repeat_so m (Some c) p = p

  repeats_so : (kept : Option (Option (ℕ × ℕ))) (m : MdsValue) → P m → P (repeats kept m).mds
  repeats_so None m p = p
  repeats_so (Some None) m p = p
  repeats_so (Some (Some kept)) m p = repeat_so m (find (is_call_to (Server kept.0) kept.1) m.calls) p

  -- what goes out of a file before the calls by place
  pub front_so : (kept : List (Option (ℕ × ℕ))) (n : ℕ) (m : MdsValue) → P m → P (and_then (recall_call (numbered n) m) (repeats (slice_get kept (n - 1)))).mds
  front_so kept n m p = repeats_so (slice_get kept (n - 1)) (recall_call (numbered n) m).mds (recall_so (numbered n) m p)

  -- ---- with a file's own calls

  module _ (own : (m : MdsValue) (file : FileId) (s : ServedFile) (c : OwnCall) → Allowed file → served m file ≡ Some s → own_by file s m.next_xid s.write ≡ Some c → P m → P (with_served m file c.served)) where
    own_at_so : (m : MdsValue) (file : FileId) (s : ServedFile) → Allowed file → served m file ≡ Some s → (place : ℕ) (o : Option OwnCall) → own_by file s m.next_xid s.write ≡ o → m.next_xid ≢ 0 → P m → P (own_call_at m file s place o).mds
    own_at_so m file s may is place None its some p = p
    own_at_so m file s may is place (Some c) its some p =
        cond_both (place_of s c.server == place) (calls_server m file c.served c.caller c.server c.uid c.call) (sends_none m) (λ (x : MdsStep). P x.mds)
        (λ here. called (with_served m file c.served) (Server c.server) c.caller _ some (own m file s c may is its p)) (λ off. p)

    own_next_so : (m : MdsValue) (file : FileId) → Allowed file → (place : ℕ) (o : Option ServedFile) → served m file ≡ o → m.next_xid ≢ 0 → P m → P (own_next m file place o).mds
    own_next_so m file may place None is some p = p
    own_next_so m file may place (Some s) is some p = own_at_so m file s may is place (own_by file s m.next_xid s.write) refl some p

    pub own_so : (file : FileId) → Allowed file → (place : ℕ) (m : MdsValue) → P m → P (own_call file place m).mds
    own_so file may place m p =
        cond_both (has_xids m) (own_next m file place (served m file)) (sends_none m) (λ (x : MdsStep). P x.mds) (λ has. own_next_so m file may place (served m file) refl (some_number m has) p) (λ off. p)

    pub place_so : (file : FileId) → Allowed file → (place : ℕ) (m : MdsValue) → P m → P (place_calls file place m).mds
    place_so file may place m p =
        let one : MdsValue = (own_call file place m).mds in
        let two : MdsValue = (own_call file place one).mds in
        let three : MdsValue = (own_call file place two).mds in
        reads_so file may place (own_call file place three).mds (own_so file may place three (own_so file may place two (own_so file may place one (own_so file may place m p))))

    pub file_so : (kept : List (Option (ℕ × ℕ))) (n : ℕ) → Allowed (numbered n) → (m : MdsValue) → P m → P (file_calls kept n m).mds
    file_so kept n may m p = each_so (place_calls (numbered n)) (λ place k. place_so (numbered n) may place k) (0 ∷ 1 ∷ 2 ∷ 3 ∷ 4 ∷ []) (and_then (recall_call (numbered n) m) (repeats (slice_get kept (n - 1)))).mds (front_so kept n m p)
