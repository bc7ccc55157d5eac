-- The calls that go out at the end of an event keep what is kept in each case.
use Rattle.std.proofs.Common.{◌≡◌, ℕ, true, List, [], ◌∷◌, ◌++◌, length, Option, Some, None, refl, sym, subst}
use Rattle.std.specs.Prelude.{◌-◌, ◌==◌, ◌&&◌, slice_get}
use Rattle.std.specs.Option.{option_map}
use Rattle.std.specs.List.{find, range_with_len}
use Rattle.std.proofs.lemmas.Bool.{cond_both, and_parts}
use Rattle.std.proofs.lemmas.List.{append-nil}
use Rattle.cluster_model.specs.declared.ids.NodeId.TheVariants.{Server}
use Rattle.cluster_model.specs.declared.ids.FileId.{FileId}
use Rattle.cluster_model.specs.declared.entry.Entry.{Entry}
use Rattle.file_rule.specs.FilePhases.{CallOut, call_out}
use Rattle.mds_io.specs.Reads.{ReadSends}
use Rattle.mds_io.specs.Reads as read
use Rattle.mirror_writer.specs.Writers.{WriterSends}
use Rattle.mirror_writer.specs.Writers as writer
use Rattle.nfs4_session.specs.Clients.{SessionState, has_id, change_first, with_clients}
use Rattle.nfs4_session.specs.Bindings.{last_session, client_called_back}
use Rattle.nfs4_session.specs.TableLaw.{called_back_by}
use Rattle.recall.specs.Recalls.{RecallSends, next_sent}
use Rattle.mds_rule.specs.MdsStates.{WaitingRead, WaitingWrite, ServedFile, MdsSend, AwaitedCall, MdsValue, MdsStep, sends_none, and_then, is_call_to, served, numbered}
use Rattle.mds_rule.specs.declared.waiter.Waiter.TheVariants.{ForRead}
use Rattle.mds_rule.specs.Goes.{xid_after, calls_server, OwnCall, own_of_file, own_of_write, own_by, place_of, own_call_at, own_next, has_xids, own_call, own_two, own_calls, read_goes, read_call, read_call_in, each, read_count, read_calls, calls_back, recall_goes, recall_call, repeats_call, repeats, place_calls, file_calls, calls_out}
use Rattle.mds_walk.proofs.Parts.{Becomes, Keeps, with_read_at, OutParts}
use Rattle.mds_walk.proofs.Keeping.{then_keeps, none_keeps, same, becomes_keeps}

module _ (I : MdsValue → List Entry → List MdsSend → Type 0) where
  pub each_walk : {A : Type 0} (step : A → MdsValue → MdsStep) → ((a : A) (m : MdsValue) → Keeps I m (step a m)) → (list : List A) (m : MdsValue) → Keeps I m (each step list m)
  each_walk step all [] m = same I m
  each_walk step all (a ∷ list) m = then_keeps I m (step a m) (λ n. each step list n) (all a m) (λ n. each_walk step all list n)

module _ (I : MdsValue → List Entry → List MdsSend → Type 0) (k : OutParts I) where
  -- ---- a file's own calls

  own_call_walk : (m : MdsValue) (file : FileId) (s : ServedFile) (place : ℕ) (o : OwnCall) → Keeps I m (calls_server m file o.served o.caller o.server o.uid o.call) → Keeps I m (own_call_at m file s place (Some o))
  own_call_walk m file s place o q =
      cond_both (place_of s o.server == place) (calls_server m file o.served o.caller o.server o.uid o.call) (sends_none m) (λ (x : MdsStep). Keeps I m x) (λ is. q) (λ off. same I m)

  own_file_walk : (m : MdsValue) (file : FileId) (place : ℕ) → has_xids m ≡ true → (s : ServedFile) → served m file ≡ Some s → s.write ≡ None → (o : Option CallOut) → call_out s.file m.next_xid ≡ o
      → Keeps I m (own_call_at m file s place (option_map (own_of_file file s) o))
  own_file_walk m file place has s is idle None its = same I m
  own_file_walk m file place has s is idle (Some out) its = own_call_walk m file s place (own_of_file file s out) (k.calls_file m file s out is has idle its)

  own_write_walk : (m : MdsValue) (file : FileId) (place : ℕ) → has_xids m ≡ true → (s : ServedFile) → served m file ≡ Some s → (w : WaitingWrite) → s.write ≡ Some w → (o : Option WriterSends)
      → writer.next_sent w.writer m.next_xid ≡ o → Keeps I m (own_call_at m file s place (option_map (own_of_write file s w) o))
  own_write_walk m file place has s is w waits None its = same I m
  own_write_walk m file place has s is w waits (Some out) its = own_call_walk m file s place (own_of_write file s w out) (k.calls_write m file s w out is has waits its)

  own_by_walk : (m : MdsValue) (file : FileId) (place : ℕ) → has_xids m ≡ true → (s : ServedFile) → served m file ≡ Some s → (o : Option WaitingWrite) → s.write ≡ o
      → Keeps I m (own_call_at m file s place (own_by file s m.next_xid o))
  own_by_walk m file place has s is None its = own_file_walk m file place has s is its (call_out s.file m.next_xid) refl
  own_by_walk m file place has s is (Some w) its = own_write_walk m file place has s is w its (writer.next_sent w.writer m.next_xid) refl

  own_next_walk : (m : MdsValue) (file : FileId) (place : ℕ) → has_xids m ≡ true → (o : Option ServedFile) → served m file ≡ o → Keeps I m (own_next m file place o)
  own_next_walk m file place has None is = same I m
  own_next_walk m file place has (Some s) is = own_by_walk m file place has s is s.write refl

  own_one_walk : (file : FileId) (place : ℕ) (m : MdsValue) → Keeps I m (own_call file place m)
  own_one_walk file place m =
      cond_both (has_xids m) (own_next m file place (served m file)) (sends_none m) (λ (s : MdsStep). Keeps I m s) (λ has. own_next_walk m file place has (served m file) refl) (λ off. same I m)

  own_two_walk : (file : FileId) (place : ℕ) (m : MdsValue) → Keeps I m (own_two file place m)
  own_two_walk file place m = then_keeps I m (own_call file place m) (own_call file place) (own_one_walk file place m) (λ n. own_one_walk file place n)

  own_walk : (file : FileId) (place : ℕ) (m : MdsValue) → Keeps I m (own_calls file place m)
  own_walk file place m = then_keeps I m (own_two file place m) (own_two file place) (own_two_walk file place m) (λ n. own_two_walk file place n)

  -- ---- READs

  read_goes_walk : (m : MdsValue) (file : FileId) (s : ServedFile) → served m file ≡ Some s → (n place : ℕ) (r : WaitingRead) → slice_get s.reads n ≡ Some r → (o : Option ReadSends) → read.next_sent r.read m.next_xid ≡ o
      → Keeps I m (read_goes m file s n place r o)
  read_goes_walk m file s is n place r at None its = same I m
  read_goes_walk m file s is n place r at (Some sent) its =
      cond_both ((place_of s sent.id.server == place) && has_xids m) (calls_server m file (with_read_at s n r sent.read) (ForRead file) sent.id.server 0 sent.call) (sends_none m) (λ (x : MdsStep). Keeps I m x)
      (λ both. k.calls_read m file s n r sent is (and_parts (place_of s sent.id.server == place) (has_xids m) both).1 at its) (λ off. same I m)

  read_call_walk : (m : MdsValue) (file : FileId) (s : ServedFile) → served m file ≡ Some s → (n place : ℕ) (o : Option WaitingRead) → slice_get s.reads n ≡ o → Keeps I m (read_call m file s n place o)
  read_call_walk m file s is n place None at = same I m
  read_call_walk m file s is n place (Some r) at = read_goes_walk m file s is n place r at (read.next_sent r.read m.next_xid) refl

  read_in_walk : (file : FileId) (place n : ℕ) (m : MdsValue) (o : Option ServedFile) → served m file ≡ o → Keeps I m (read_call_in file place n m o)
  read_in_walk file place n m None is = same I m
  read_in_walk file place n m (Some s) is = read_call_walk m file s is n place (slice_get s.reads n) refl

  reads_walk : (file : FileId) (place : ℕ) (m : MdsValue) → Keeps I m (read_calls file place m)
  reads_walk file place m = each_walk I (λ n x. read_call_in file place n x (served x file)) (λ n x. read_in_walk file place n x (served x file) refl) (range_with_len 0 (read_count (served m file))) m

  -- ---- recalls

  back_walk : (m : MdsValue) (sent : RecallSends) → has_xids m ≡ true → next_sent m.recalls m.next_xid ≡ Some sent → (o : Option SessionState) → Becomes I m (record m { sessions = called_back_by m.sessions sent.call.client o })
      → Keeps I m (calls_back (record m { recalls = sent.recalls }) sent.call o)
  back_walk m sent has its None b = none_keeps I m (record m { recalls = sent.recalls; next_xid = xid_after m.next_xid }) (k.skips m sent has its)
  back_walk m sent has its (Some session) b =
      let n : MdsValue = record m { sessions = with_clients m.sessions (change_first (has_id sent.call.client) (client_called_back session.number) m.sessions.clients) } in
      becomes_keeps I m n (calls_back (record m { recalls = sent.recalls }) sent.call (Some session)) b (k.calls_back n sent session has its)

  recall_goes_walk : (m : MdsValue) (file : FileId) → has_xids m ≡ true → (o : Option RecallSends) → next_sent m.recalls m.next_xid ≡ o → Keeps I m (recall_goes m file o)
  recall_goes_walk m file has None its = same I m
  recall_goes_walk m file has (Some sent) its =
      cond_both (sent.call.file.0 == file.0) (calls_back (record m { recalls = sent.recalls }) sent.call (last_session (find (has_id sent.call.client) m.sessions.clients))) (sends_none m) (λ (s : MdsStep). Keeps I m s)
      (λ is. back_walk m sent has its (last_session (find (has_id sent.call.client) m.sessions.clients)) (k.back m sent.call.client)) (λ off. same I m)

  recall_walk : (file : FileId) (m : MdsValue) → Keeps I m (recall_call file m)
  recall_walk file m = cond_both (has_xids m) (recall_goes m file (next_sent m.recalls m.next_xid)) (sends_none m) (λ (s : MdsStep). Keeps I m s) (λ has. recall_goes_walk m file has (next_sent m.recalls m.next_xid) refl) (λ off. same I m)

  -- ---- what goes out again

  repeat_walk : (m : MdsValue) (server xid : ℕ) (o : Option AwaitedCall) → find (is_call_to (Server server) xid) m.calls ≡ o → Keeps I m (repeats_call m o)
  repeat_walk m server xid None found = same I m
  repeat_walk m server xid (Some call) found = λ es ss i. subst (λ (l : List Entry). I m l (ss ++ call.sent ∷ [])) (sym (append-nil es)) (k.repeats m server xid call found es ss i)

  repeats_walk : (kept : Option (Option (ℕ × ℕ))) (m : MdsValue) → Keeps I m (repeats kept m)
  repeats_walk None m = same I m
  repeats_walk (Some None) m = same I m
  repeats_walk (Some (Some kept)) m = repeat_walk m kept.0 kept.1 (find (is_call_to (Server kept.0) kept.1) m.calls) refl

  -- ---- all of them

  place_walk : (file : FileId) (place : ℕ) (m : MdsValue) → Keeps I m (place_calls file place m)
  place_walk file place m = then_keeps I m (own_calls file place m) (read_calls file place) (own_walk file place m) (λ n. reads_walk file place n)

  file_walk : (kept : List (Option (ℕ × ℕ))) (n : ℕ) (m : MdsValue) → Keeps I m (file_calls kept n m)
  file_walk kept n m =
      then_keeps I m (and_then (recall_call (numbered n) m) (repeats (slice_get kept (n - 1)))) (each (place_calls (numbered n)) (0 ∷ 1 ∷ 2 ∷ 3 ∷ 4 ∷ []))
      (then_keeps I m (recall_call (numbered n) m) (repeats (slice_get kept (n - 1))) (recall_walk (numbered n) m) (λ x. repeats_walk (slice_get kept (n - 1)) x))
      (λ x. each_walk I (place_calls (numbered n)) (λ place y. place_walk (numbered n) place y) (0 ∷ 1 ∷ 2 ∷ 3 ∷ 4 ∷ []) x)

  pub out_walk : (kept : List (Option (ℕ × ℕ))) (m : MdsValue) → Keeps I m (calls_out kept m)
  out_walk kept m = each_walk I (file_calls kept) (λ n x. file_walk kept n x) (range_with_len 1 (length m.files)) m
