-- What the end of an event keeps: the queue, the calls to data servers, and the compound.
use Rattle.std.proofs.Common.{◌≡◌, ◌≢◌, ℕ, Bool, true, false, length, List, ◌++◌, Option, Some, None, refl, sym, ap, subst, ◌∙◌}
use Rattle.std.specs.Prelude.{not, ◌==◌, ◌&&◌, if◌then◌else◌}
use Rattle.std.specs.Option.{option_or}
use Rattle.std.proofs.lemmas.Bool.{eq-eqb}
use Rattle.std.proofs.lemmas.Option.{none-some, same_Some}
use Rattle.nfs4_types.specs.declared.ids.DeviceId.{DeviceId}
use Rattle.device_addr.specs.declared.net_addr.NetAddr.{NetAddr}
use Rattle.cluster_model.specs.declared.ids.Mirror.{Mirror}
use Rattle.mirror_writer.specs.Writers.{WriterSends, next_sent}
use Rattle.client_file_calls.specs.declared.open.OpenFile.{OpenFile}
use Rattle.client_mds_calls.specs.declared.ask.MdsAsk.{MdsAsk}
use Rattle.client_mds_calls.specs.declared.ask.MdsAsk.TheVariants as ask
use Rattle.client_mds_calls.specs.MdsCalls.{MdsCallValue}
use Rattle.client_state.specs.declared.request.UserRequest.{UserRequest}
use Rattle.client_state.specs.declared.layout.Layout.{Layout}
use Rattle.client_state.specs.declared.asked.Asked.{Asked}
use Rattle.client_state.specs.declared.tie.Tie.{Tie}
use Rattle.client_state.specs.ClientStates.{ClientValue}
use Rattle.client_state.specs.ClientQueue.{unknown_in, run_queue}
use Rattle.client_state.specs.ClientSends.{CallsServer, sends_none}
use Rattle.client_calls.specs.ClientCalls.{xid_after, calls_next, calls_under, calls_mirror, calls_two, calls_mirrors, is_ending, is_settled, return_ask, due_ask, call_by_ask, asks_as, asks, may_ask, calls_mds, calls_all, ends_event}
use Rattle.client_laws.specs.ClientHistory.{ClientInput, HistoryItem, Sends, sent, entered}
use Rattle.client_records.proofs.Joins.{StepKeeps, CallsKeep, calls_none, calls_then, calls_either, run_calls}
use Rattle.client_records.proofs.Cases.{Adds, Wants, IsDue, Anew, Returns, ByHead, Cases}
use Rattle.client_records.proofs.QueueKeeps.{Stays, WantsSome, QueueKeeps, queue_keeps}

-- ---- numbers that are left

pub nonzero : (n : ℕ) → (n == 0) ≡ false → n ≢ 0
nonzero n is same = true_false (sym (eq-eqb n 0 same) ∙ is)
  where
    true_false : true ≡ false → ⊥
    true_false e = absurd cc

-- ---- what the head wants stands behind a call to a data server

wants_called : (file : Option OpenFile) (queue : List UserRequest) (tie : Tie) (devices : List (DeviceId × NetAddr)) (old new : Layout) (kind : MdsAsk) → new.mirrors ≡ old.mirrors → Wants file queue (Some old) tie devices kind → Wants file queue (Some new) tie devices kind
wants_called file queue tie devices old new ask.ExchangeId same w = w
wants_called file queue tie devices old new ask.CreateSession same w = w
wants_called file queue tie devices old new ask.ReclaimComplete same w = w
wants_called file queue tie devices old new ask.Open same w = w
wants_called file queue tie devices old new ask.LayoutGet same w = absurd (none-some old (sym w))
wants_called file queue tie devices old new (ask.DeviceInfo count) same w = w ∙ sym (ap (λ (ms : List Mirror). length (unknown_in devices ms)) same)
wants_called file queue tie devices old new ask.Write same w = w
wants_called file queue tie devices old new (ask.Read at count) same w = w
wants_called file queue tie devices old new ask.LayoutReturn same w = w
wants_called file queue tie devices old new ask.Renew same w = w

-- ---- calls to data servers

-- of any predicate of histories and clients
module _ (J : List HistoryItem → ClientValue → Type 0) (P : List HistoryItem → HistoryItem → Type 0)
    (one : (past : List HistoryItem) (c : ClientValue) (l : Layout) (s : WriterSends) → c.layout ≡ Some l → c.next_xid ≢ 0 → next_sent l.writer c.next_xid ≡ Some s → J past c
    → Adds J P past (Sends (CallsServer s.id.server c.next_xid c.name l.writer.cred s.call)) (record c { layout = Some (record l { writer = s.writer }); next_xid = xid_after c.next_xid })) where
  next_keeps : (past : List HistoryItem) (c : ClientValue) (l : Layout) → c.layout ≡ Some l → c.next_xid ≢ 0 → J past c → (o : Option WriterSends) → next_sent l.writer c.next_xid ≡ o → CallsKeep J P past (calls_next c l o)
  next_keeps past c l at some j None is = calls_none J P past c j
  next_keeps past c l at some j (Some s) is =
      let g = one past c l s at some is j in
      record { none = refl; sends = (g.0, tt); keeps = g.1 }

  under_keeps : (past : List HistoryItem) (c : ClientValue) → c.next_xid ≢ 0 → J past c → (layout : Option Layout) → c.layout ≡ layout → CallsKeep J P past (calls_under c layout)
  under_keeps past c some j None at = calls_none J P past c j
  under_keeps past c some j (Some l) at = next_keeps past c l at some j (next_sent l.writer c.next_xid) refl

  mirror_keeps : (past : List HistoryItem) (c : ClientValue) → J past c → CallsKeep J P past (calls_mirror c)
  mirror_keeps past c j = calls_either J P past (c.next_xid == 0) (sends_none c) (calls_under c c.layout) (λ is. calls_none J P past c j) (λ is. under_keeps past c (nonzero c.next_xid is) j c.layout refl)

  two_keep : (past : List HistoryItem) (c : ClientValue) → J past c → CallsKeep J P past (calls_two c)
  two_keep past c j =
      let first : CallsKeep J P past (calls_mirror c) = mirror_keeps past c j in
      calls_then J P past (calls_mirror c) calls_mirror first (mirror_keeps (past ++ sent (calls_mirror c).sends) (calls_mirror c).client first.keeps)

  pub mirrors_keep : (past : List HistoryItem) (c : ClientValue) → J past c → CallsKeep J P past (calls_mirrors c)
  mirrors_keep past c j =
      let first : CallsKeep J P past (calls_two c) = two_keep past c j in
      calls_then J P past (calls_two c) calls_two first (two_keep (past ++ sent (calls_two c).sends) (calls_two c).client first.keeps)

-- ---- the compound

may_so : (c : ClientValue) (asked : Option Asked) → may_ask c asked ≡ true → (asked ≡ None) × ((c.next_xid == 0) ≡ false)
may_so c None may = (refl, by_flag (c.next_xid == 0) may)
  where
    by_flag : (b : Bool) → not b ≡ true → b ≡ false
    by_flag true is = absurd cc
    by_flag false is = refl
may_so c (Some a) may = absurd cc

both : (a b : Bool) → (a && b) ≡ true → (a ≡ true) × (b ≡ true)
both true b is = (refl, is)
both false b is = absurd cc

return_due : (c : ClientValue) (kind : MdsAsk) (layout : Option Layout) → c.layout ≡ layout → return_ask layout ≡ Some kind → IsDue c kind
return_due c kind None at is = absurd (none-some kind is)
return_due c kind (Some l) at is = by_test (is_ending l.stage && is_settled l.writer) refl is
  where
    by_test : (b : Bool) → (is_ending l.stage && is_settled l.writer) ≡ b → (if b then Some ask.LayoutReturn else None) ≡ Some kind → IsDue c kind
    by_test true so is = Returns l at (both (is_ending l.stage) (is_settled l.writer) so).0 (both (is_ending l.stage) (is_settled l.writer) so).1 (sym (same_Some ask.LayoutReturn kind is))
    by_test false so is = absurd (none-some kind is)

due_so : (c : ClientValue) (wants : Option MdsAsk) (kind : MdsAsk) → WantsSome c wants → due_ask wants c ≡ Some kind → IsDue c kind
due_so c wants kind w is = by_again c.again refl is
  where
    by_wants : (o : Option MdsAsk) → WantsSome c o → o ≡ Some kind → IsDue c kind
    by_wants None w is = absurd (none-some kind is)
    by_wants (Some k) w is = subst (IsDue c) (same_Some k kind is) (ByHead w)

    by_waits : (b : Bool) → (if b then None else wants) ≡ Some kind → IsDue c kind
    by_waits true is = absurd (none-some kind is)
    by_waits false is = by_wants wants w is

    by_return : (o : Option MdsAsk) → return_ask c.layout ≡ o → option_or o (if c.waits then None else wants) ≡ Some kind → IsDue c kind
    by_return None none is = by_waits c.waits is
    by_return (Some k) due is = return_due c kind c.layout refl (due ∙ is)

    by_again : (o : Option MdsAsk) → c.again ≡ o → option_or o (option_or (return_ask c.layout) (if c.waits then None else wants)) ≡ Some kind → IsDue c kind
    by_again None none is = by_return (return_ask c.layout) refl is
    by_again (Some k) anew is = Anew (anew ∙ is)

module _ (B : List HistoryItem → ClientValue → Type 0) (Q : ClientInput → Type 0) (I : List HistoryItem → ClientValue → Type 0) (P : List HistoryItem → HistoryItem → Type 0) (k : Cases B Q I P) where
  ask_keeps : (past : List HistoryItem) (c : ClientValue) (kind : MdsAsk) → c.asked ≡ None → c.next_xid ≢ 0 → IsDue c kind → Stays I past c → (o : Option MdsCallValue) → call_by_ask c kind ≡ o → CallsKeep (Stays I) P past (asks_as c kind o)
  ask_keeps past c kind none some due i None is = calls_none (Stays I) P past c i
  ask_keeps past c kind none some due i (Some call) is =
      let g = k.asks past c kind call none some due is i.0 in
      record { none = refl; sends = (g.0, tt); keeps = (g.1, i.1) }

  pub asks_keep : (past : List HistoryItem) (c : ClientValue) → c.asked ≡ None → c.next_xid ≢ 0 → Stays I past c → (o : Option MdsAsk) → ((kind : MdsAsk) → o ≡ Some kind → IsDue c kind) → CallsKeep (Stays I) P past (asks c o)
  asks_keep past c none some i None due = calls_none (Stays I) P past c i
  asks_keep past c none some i (Some kind) due = ask_keeps past c kind none some (due kind refl) i (call_by_ask c kind) refl

  pub may_keep : (past : List HistoryItem) (c : ClientValue) → Stays I past c → may_ask c c.asked ≡ true → (o : Option MdsAsk) → ((kind : MdsAsk) → o ≡ Some kind → IsDue c kind) → CallsKeep (Stays I) P past (asks c o)
  may_keep past c i may o due = asks_keep past c (may_so c c.asked may).0 (nonzero c.next_xid (may_so c c.asked may).1) i o due

  mds_keeps : (past : List HistoryItem) (c : ClientValue) (wants : Option MdsAsk) → Stays I past c → WantsSome c wants → CallsKeep (Stays I) P past (calls_mds wants c)
  mds_keeps past c wants i w =
      calls_either (Stays I) P past (may_ask c c.asked) (asks c (due_ask wants c)) (sends_none c)
      (λ may. may_keep past c i may (due_ask wants c) (λ kind is. due_so c wants kind w is)) (λ may. calls_none (Stays I) P past c i)

  call_keeps : (wants : Option MdsAsk) (past : List HistoryItem) (c : ClientValue) (l : Layout) (s : WriterSends) → c.layout ≡ Some l → c.next_xid ≢ 0 → next_sent l.writer c.next_xid ≡ Some s
      → Stays I past c → WantsSome c wants
      → Adds (λ later d. (I later d × (d.has_left ≡ false)) × WantsSome d wants) P past (Sends (CallsServer s.id.server c.next_xid c.name l.writer.cred s.call)) (record c { layout = Some (record l { writer = s.writer }); next_xid = xid_after c.next_xid })
  call_keeps wants past c l s at some is i w =
      let g = k.calls past c l s at some is i.0 in
      (g.0, ((g.1, i.1), by_wants wants w))
    where
      by_wants : (o : Option MdsAsk) → WantsSome c o → WantsSome (record c { layout = Some (record l { writer = s.writer }); next_xid = xid_after c.next_xid }) o
      by_wants None w = tt
      by_wants (Some kind) w = wants_called c.file c.queue c.tie c.devices l (record l { writer = s.writer }) kind refl (subst (λ (o : Option Layout). Wants c.file c.queue o c.tie c.devices kind) at w)

  pub all_keep : (past : List HistoryItem) (c : ClientValue) (wants : Option MdsAsk) → Stays I past c → WantsSome c wants → CallsKeep (Stays I) P past (calls_all wants c)
  all_keep past c wants i w =
      let first : CallsKeep (λ later d. (I later d × (d.has_left ≡ false)) × WantsSome d wants) P past (calls_mirrors c) =
      mirrors_keep (λ later d. (I later d × (d.has_left ≡ false)) × WantsSome d wants) P (λ past c l s at some is j. call_keeps wants past c l s at some is j.0 j.1) past c (i, w) in
      calls_then (Stays I) P past (calls_mirrors c) (calls_mds wants) (record { none = first.none; sends = first.sends; keeps = first.keeps.0 })
      (mds_keeps (past ++ sent (calls_mirrors c).sends) (calls_mirrors c).client wants first.keeps.0 first.keeps.1)

  pub calls_keep : (past : List HistoryItem) (c : ClientValue) → Stays I past c → StepKeeps (Stays I) P past (ends_event c)
  calls_keep past c i =
      let q : QueueKeeps I P past (run_queue c) = queue_keeps B Q I P k past c i in
      run_calls (Stays I) P past (run_queue c).run (calls_all (run_queue c).wants) q.run (all_keep (past ++ entered (run_queue c).run.entries) (run_queue c).run.client (run_queue c).wants q.run.keeps q.wants)
