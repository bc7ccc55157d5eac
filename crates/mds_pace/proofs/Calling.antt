-- The calls that go out at the end of an event: each new one has a number that no call had before, so what goes out again is what was kept.
use Rattle.std.proofs.Common.{arith, ◌≡◌, ◌≢◌, ℕ, ◌≤◌, Bool, true, false, List, [], ◌∷◌, ◌++◌, length, Option, Some, None, refl, sym, ap, subst, ◌∙◌, inl, inr, ◌⊎◌}
use Rattle.std.specs.Prelude.{◌-◌, ◌==◌, ◌&&◌, nat_lt, slice_get, slice_set, if◌then◌else◌}
use Rattle.std.specs.List.{filter, find, flat_map, range_with_len}
use Rattle.std.proofs.lemmas.Bool.{cond_both, and_parts, eqb-true, ne_eqb}
use Rattle.std.proofs.lemmas.List.{append-nil}
use Rattle.cluster_model.specs.Members.{IsOneOf}
use Rattle.cluster_model.specs.Nodes.{is_node}
use Rattle.cluster_model.specs.declared.ids.NodeId.{NodeId}
use Rattle.cluster_model.specs.declared.ids.NodeId.TheVariants.{Server}
use Rattle.cluster_model.specs.declared.ids.FileId.{FileId}
use Rattle.mds_io.specs.Reads.{ReadSends}
use Rattle.mds_io.specs.Reads as read
use Rattle.nfs4_types.specs.Stateids.{layout_stateid_of}
use Rattle.nfs4_session.specs.Clients.{SessionState, has_id, change_first, with_clients}
use Rattle.nfs4_session.specs.Bindings.{last_session, back_call, client_called_back}
use Rattle.recall.specs.declared.recall.RecallCall.{RecallCall}
use Rattle.recall.specs.Recalls.{RecallSends, next_sent}
use Rattle.mds_rule.specs.MdsStates.{WaitingRead, ServedFile, MdsSend, CallsBack, AwaitedCall, MdsValue, MdsStep, sends_none, and_then, with_call, is_call_to, served, numbered}
use Rattle.mds_rule.specs.declared.waiter.Waiter.{Waiter}
use Rattle.mds_rule.specs.declared.waiter.Waiter.TheVariants.{ForRead, ForRecall}
use Rattle.mds_rule.specs.Goes.{xid_after, calls_as, calls_server, OwnCall, own_by, place_of, own_call_at, own_next, has_xids, own_call, own_two, own_calls, read_goes, read_call, read_call_in, each, read_count, read_calls, stateid_seqid, calls_back, recall_goes, recall_call, repeats_call, repeats, place_calls, file_calls, calls_out}
use Rattle.mds_laws.specs.MdsRunLaws.{number_sent}
use Rattle.mds_walk.proofs.Lists.{in_with_call, found_in, found_passes}
use Rattle.mds_progress.specs.TickLaw.{WasTaken}
use Rattle.mds_pace.specs.MdsPace.{was_taken, went_before, record_of, kept_record}
use Rattle.mds_pace.proofs.Taken.{IsFrom, from_after, not_both, some_number, taken_so, taken_is, new_so, one_new, one_again, both_again}

and_false : (b : Bool) → (b && false) ≡ false
and_false true = refl
and_false false = refl

abbrev no_sends : List MdsSend
no_sends = []

-- ---- one call more

skipped : (node : NodeId) (xid : ℕ) (c : AwaitedCall) → c.xid ≢ xid → is_call_to node xid c ≡ false
skipped node xid c other = ap (λ (b : Bool). is_node c.node node && b) (ne_eqb c.xid xid other) ∙ and_false (is_node c.node node)

found_past : (node : NodeId) (xid : ℕ) (c : AwaitedCall) (calls : List AwaitedCall) → c.xid ≢ xid → find (is_call_to node xid) (c ∷ calls) ≡ find (is_call_to node xid) calls
found_past node xid c calls other = ap (λ (b : Bool). if b then Some c else find (is_call_to node xid) calls) (skipped node xid c other)

found_with : (node : NodeId) (xid : ℕ) (c : AwaitedCall) (calls : List AwaitedCall) → c.xid ≢ xid → find (is_call_to node xid) (with_call c calls) ≡ find (is_call_to node xid) calls
found_with node xid c [] other = found_past node xid c [] other
found_with node xid c (d ∷ calls) other =
    cond_both (nat_lt c.xid d.xid) (c ∷ d ∷ calls) (if c.xid == d.xid then c ∷ calls else d ∷ with_call c calls) (λ (l : List AwaitedCall). find (is_call_to node xid) l ≡ find (is_call_to node xid) (d ∷ calls))
    (λ below. found_past node xid c (d ∷ calls) other)
    (λ off.
    cond_both (c.xid == d.xid) (c ∷ calls) (d ∷ with_call c calls) (λ (l : List AwaitedCall). find (is_call_to node xid) l ≡ find (is_call_to node xid) (d ∷ calls))
    (λ same. found_past node xid c calls other ∙ sym (found_past node xid d calls (λ its. other (eqb-true c.xid d.xid same ∙ its))))
    (λ away. ap (λ (o : Option AwaitedCall). if is_call_to node xid d then Some d else o) (found_with node xid c calls other)))

numbered_so : (node : NodeId) (xid : ℕ) (c : AwaitedCall) → is_call_to node xid c ≡ true → c.xid ≡ xid
numbered_so node xid c its = eqb-true c.xid xid (and_parts (is_node c.node node) (c.xid == xid) its).1

-- The calls stand as they did at the event's start, but for new ones: the next number is of those that were not taken then.
pub record Stands (x : ℕ) (before calls : List AwaitedCall) (next : ℕ) : Type 0 where
  pub from : IsFrom x next
  pub same : (node : NodeId) (xid : ℕ) → WasTaken xid x → find (is_call_to node xid) calls ≡ find (is_call_to node xid) before
  pub new : (call : AwaitedCall) → IsOneOf call calls → IsOneOf call before ⊎ (went_before x call.sent ≡ false)

-- each has its own number, which was taken
abbrev pub AreTaken : ℕ → List AwaitedCall → Type 0
AreTaken x calls = (call : AwaitedCall) → IsOneOf call calls → (number_sent call.sent ≡ Some call.xid) × WasTaken call.xid x

module _ (x : ℕ) (before : List AwaitedCall) where
  pub begun : (calls : List AwaitedCall) (next : ℕ) → calls ≡ before → IsFrom x next → Stands x before calls next
  begun calls next is f = record {
    from = f;
    same = λ node xid taken. ap (λ (l : List AwaitedCall). find (is_call_to node xid) l) is;
    new = λ call inside. inl (subst (λ (l : List AwaitedCall). IsOneOf call l) is inside);
  }

  is_new : (next : ℕ) (calls : List AwaitedCall) (s : MdsSend) → next ≢ 0 → number_sent s ≡ Some next → Stands x before calls next → went_before x s ≡ false
  is_new next calls s has number t = ap (was_taken x) number ∙ new_so x next (t.from has).0 (t.from has).1

  not_taken : (next xid : ℕ) → x ≢ 0 → x ≤ next → WasTaken xid x → next ≢ xid
  not_taken next xid some from (inl less) same = omega (arith, from, less, same)
  not_taken next xid some from (inr none) same = some none

  passed : (next : ℕ) (calls : List AwaitedCall) → next ≢ 0 → Stands x before calls next → Stands x before calls (xid_after next)
  passed next calls has t = record { from = from_after x next has t.from; same = t.same; new = t.new }

  called : (call : AwaitedCall) (next : ℕ) (calls : List AwaitedCall) → next ≢ 0 → call.xid ≡ next → number_sent call.sent ≡ Some next → Stands x before calls next → Stands x before (with_call call calls) (xid_after next)
  called call next calls has is number t = record {
    from = from_after x next has t.from;
    same = λ node xid taken. found_with node xid call calls (λ its. not_taken next xid (t.from has).0 (t.from has).1 taken (sym is ∙ its)) ∙ t.same node xid taken;
    new = λ c inside. by_place c (in_with_call c call calls inside);
  }
    where
      by_place : (c : AwaitedCall) → IsOneOf c calls ⊎ (c ≡ call) → IsOneOf c before ⊎ (went_before x c.sent ≡ false)
      by_place c (inl old) = t.new c old
      by_place c (inr its) = inr (ap (λ (d : AwaitedCall). went_before x d.sent) its ∙ is_new next calls call.sent has number t)

  -- the step keeps it, and these go out again in it
  abbrev pub Leaves : MdsValue → MdsStep → List MdsSend → Type 0
  Leaves m s again = Stands x before m.calls m.next_xid → Stands x before s.mds.calls s.mds.next_xid × (filter (went_before x) s.sends ≡ again)

  abbrev Goes : MdsValue → MdsStep → Type 0
  Goes m s = Leaves m s []

  then_leaves : (m : MdsValue) (s : MdsStep) (next : MdsValue → MdsStep) (olds more : List MdsSend) → Leaves m s olds → ((n : MdsValue) → Leaves n (next n) more) → Leaves m (and_then s next) (olds ++ more)
  then_leaves m s next olds more first second t =
      let a : Stands x before s.mds.calls s.mds.next_xid × (filter (went_before x) s.sends ≡ olds) = first t in
      let b : Stands x before (next s.mds).mds.calls (next s.mds).mds.next_xid × (filter (went_before x) (next s.mds).sends ≡ more) = second s.mds a.0 in
      (b.0, both_again x s.sends (next s.mds).sends olds more a.1 b.1)

  then_goes : (m : MdsValue) (s : MdsStep) (next : MdsValue → MdsStep) → Goes m s → ((n : MdsValue) → Goes n (next n)) → Goes m (and_then s next)
  then_goes m s next first second = then_leaves m s next [] [] first second

  each_goes : {A : Type 0} (step : A → MdsValue → MdsStep) → ((a : A) (m : MdsValue) → Goes m (step a m)) → (list : List A) (m : MdsValue) → Goes m (each step list m)
  each_goes step goes [] m = λ t. (t, refl)
  each_goes step goes (a ∷ list) m = then_goes m (step a m) (λ n. each step list n) (goes a m) (λ n. each_goes step goes list n)

  stays : (m : MdsValue) → Goes m (sends_none m)
  stays m t = (t, refl)

  -- ---- the calls that go out

  call_goes : (m : MdsValue) (node : NodeId) (caller : Waiter) (sent : MdsSend) → m.next_xid ≢ 0 → number_sent sent ≡ Some m.next_xid → Goes m (calls_as m node caller sent)
  call_goes m node caller sent has number t =
      (called (record { node = node; xid = m.next_xid; caller = caller; sent = sent }) m.next_xid m.calls has refl number t, one_new x sent (is_new m.next_xid m.calls sent has number t))

  own_at_goes : (m : MdsValue) (file : FileId) (s : ServedFile) (place : ℕ) (o : Option OwnCall) → m.next_xid ≢ 0 → Goes m (own_call_at m file s place o)
  own_at_goes m file s place None some = stays m
  own_at_goes m file s place (Some c) some =
      cond_both (place_of s c.server == place) (calls_server m file c.served c.caller c.server c.uid c.call) (sends_none m) (λ (y : MdsStep). Goes m y) (λ is. call_goes m (Server c.server) c.caller _ some refl) (λ off. stays m)

  own_next_goes : (m : MdsValue) (file : FileId) (place : ℕ) (o : Option ServedFile) → m.next_xid ≢ 0 → Goes m (own_next m file place o)
  own_next_goes m file place None some = stays m
  own_next_goes m file place (Some s) some = own_at_goes m file s place (own_by file s m.next_xid s.write) some

  own_goes : (file : FileId) (place : ℕ) (m : MdsValue) → Goes m (own_call file place m)
  own_goes file place m =
      cond_both (has_xids m) (own_next m file place (served m file)) (sends_none m) (λ (y : MdsStep). Goes m y) (λ has. own_next_goes m file place (served m file) (some_number m has)) (λ off. stays m)

  two_go : (file : FileId) (place : ℕ) (m : MdsValue) → Goes m (own_two file place m)
  two_go file place m = then_goes m (own_call file place m) (own_call file place) (own_goes file place m) (own_goes file place)

  all_own_go : (file : FileId) (place : ℕ) (m : MdsValue) → Goes m (own_calls file place m)
  all_own_go file place m = then_goes m (own_two file place m) (own_two file place) (two_go file place m) (two_go file place)

  read_out_goes : (m : MdsValue) (file : FileId) (s : ServedFile) (n place : ℕ) (r : WaitingRead) (o : Option ReadSends) → Goes m (read_goes m file s n place r o)
  read_out_goes m file s n place r None = stays m
  read_out_goes m file s n place r (Some sent) =
      let f : ServedFile = record s { reads = slice_set s.reads n (record { compound = r.compound; read = sent.read }) } in
      cond_both ((place_of s sent.id.server == place) && has_xids m) (calls_server m file f (ForRead file) sent.id.server 0 sent.call) (sends_none m) (λ (y : MdsStep). Goes m y)
      (λ both. call_goes m (Server sent.id.server) (ForRead file) _ (some_number m (and_parts (place_of s sent.id.server == place) (has_xids m) both).1) refl) (λ off. stays m)

  read_call_goes : (m : MdsValue) (file : FileId) (s : ServedFile) (n place : ℕ) (o : Option WaitingRead) → Goes m (read_call m file s n place o)
  read_call_goes m file s n place None = stays m
  read_call_goes m file s n place (Some r) = read_out_goes m file s n place r (read.next_sent r.read m.next_xid)

  read_in_goes : (file : FileId) (place n : ℕ) (m : MdsValue) (o : Option ServedFile) → Goes m (read_call_in file place n m o)
  read_in_goes file place n m None = stays m
  read_in_goes file place n m (Some s) = read_call_goes m file s n place (slice_get s.reads n)

  reads_go : (file : FileId) (place : ℕ) (m : MdsValue) → Goes m (read_calls file place m)
  reads_go file place m = each_goes (λ n k. read_call_in file place n k (served k file)) (λ n k. read_in_goes file place n k (served k file)) (range_with_len 0 (read_count (served m file))) m

  back_goes : (m : MdsValue) (c : RecallCall) (o : Option SessionState) → m.next_xid ≢ 0 → Goes m (calls_back m c o)
  back_goes m c None some = λ t. (passed m.next_xid m.calls some t, refl)
  back_goes m c (Some session) some =
      let back = back_call c.client session in
      let n : MdsValue = record m { sessions = with_clients m.sessions (change_first (has_id c.client) (client_called_back session.number) m.sessions.clients) } in
      call_goes n back.node ForRecall (CallsBack m.next_xid back c.file (layout_stateid_of c.file.0 c.cred.0 (stateid_seqid (served m c.file)))) some refl

  recall_out_goes : (m : MdsValue) (file : FileId) (o : Option RecallSends) → m.next_xid ≢ 0 → Goes m (recall_goes m file o)
  recall_out_goes m file None some = stays m
  recall_out_goes m file (Some sent) some =
      let n : MdsValue = record m { recalls = sent.recalls } in
      cond_both (sent.call.file.0 == file.0) (calls_back n sent.call (last_session (find (has_id sent.call.client) m.sessions.clients))) (sends_none m) (λ (y : MdsStep). Goes m y)
      (λ is. back_goes n sent.call (last_session (find (has_id sent.call.client) m.sessions.clients)) some) (λ off. stays m)

  recall_one_goes : (file : FileId) (m : MdsValue) → Goes m (recall_call file m)
  recall_one_goes file m =
      cond_both (has_xids m) (recall_goes m file (next_sent m.recalls m.next_xid)) (sends_none m) (λ (y : MdsStep). Goes m y) (λ has. recall_out_goes m file (next_sent m.recalls m.next_xid) (some_number m has)) (λ off. stays m)

  place_goes : (file : FileId) (place : ℕ) (m : MdsValue) → Goes m (place_calls file place m)
  place_goes file place m = then_goes m (own_calls file place m) (read_calls file place) (all_own_go file place m) (reads_go file place)

  -- ---- what goes out again of each file, and so of all of them

  module _ (kept : List (Option (ℕ × ℕ))) (again : ℕ → List MdsSend) (repeated : (n : ℕ) (m : MdsValue) → Leaves m (repeats (slice_get kept (n - 1)) m) (again n)) where
    file_leaves : (n : ℕ) (m : MdsValue) → Leaves m (file_calls kept n m) (again n)
    file_leaves n m =
        subst (λ (l : List MdsSend). Leaves m (file_calls kept n m) l) (append-nil (again n))
        (then_leaves m (and_then (recall_call (numbered n) m) (repeats (slice_get kept (n - 1)))) (each (place_calls (numbered n)) (0 ∷ 1 ∷ 2 ∷ 3 ∷ 4 ∷ [])) (again n) []
        (then_leaves m (recall_call (numbered n) m) (repeats (slice_get kept (n - 1))) [] (again n) (recall_one_goes (numbered n) m) (λ y. repeated n y))
        (each_goes (place_calls (numbered n)) (place_goes (numbered n)) (0 ∷ 1 ∷ 2 ∷ 3 ∷ 4 ∷ [])))

    files_leave : (ns : List ℕ) (m : MdsValue) → Leaves m (each (file_calls kept) ns m) (flat_map again ns)
    files_leave [] m = stays m
    files_leave (n ∷ ns) m = then_leaves m (file_calls kept n m) (λ y. each (file_calls kept) ns y) (again n) (flat_map again ns) (file_leaves n m) (λ y. files_leave ns y)

    pub out_leaves : (m : MdsValue) → Leaves m (calls_out kept m) (flat_map again (range_with_len 1 (length m.files)))
    out_leaves m = files_leave (range_with_len 1 (length m.files)) m

  -- where nothing was kept
  none_of_each : (ns : List ℕ) → flat_map (λ (n : ℕ). no_sends) ns ≡ []
  none_of_each [] = refl
  none_of_each (n ∷ ns) = none_of_each ns

  pub none_again : (m : MdsValue) → Leaves m (calls_out [] m) []
  none_again m = subst (λ (l : List MdsSend). Leaves m (calls_out [] m) l) (none_of_each (range_with_len 1 (length m.files))) (out_leaves [] (λ n. no_sends) (λ n y. stays y) m)

  -- ---- where calls were kept

  abbrev pub record_at : Option (Option (ℕ × ℕ)) → List MdsSend
  record_at None = []
  record_at (Some o) = kept_record before o

  module _ (all : AreTaken x before) where
    -- none has a number that was not taken
    none_there : (node : NodeId) (xid : ℕ) → was_taken x (Some xid) ≡ false → (c : AwaitedCall) → IsOneOf c before → is_call_to node xid c ≡ true → ⊥
    none_there node xid off c inside its = not_both (sym (ap (λ (n : ℕ). was_taken x (Some n)) (sym (numbered_so node xid c its)) ∙ taken_so x c.xid (all c inside).1) ∙ off)

    taken_repeated : (m : MdsValue) (o : Option AwaitedCall) → ((c : AwaitedCall) → o ≡ Some c → IsOneOf c before) → filter (went_before x) (repeats_call m o).sends ≡ record_of o
    taken_repeated m None inside = refl
    taken_repeated m (Some c) inside = let its : (number_sent c.sent ≡ Some c.xid) × WasTaken c.xid x = all c (inside c refl) in one_again x c.sent (ap (was_taken x) its.0 ∙ taken_so x c.xid its.1)

    nothing_there : (node : NodeId) (xid : ℕ) → was_taken x (Some xid) ≡ false → (o : Option AwaitedCall) → find (is_call_to node xid) before ≡ o → record_of o ≡ []
    nothing_there node xid off None found = refl
    nothing_there node xid off (Some c) found = absurd (none_there node xid off c (found_in (is_call_to node xid) before c found) (found_passes (is_call_to node xid) before c found))

    new_repeated : (m : MdsValue) (node : NodeId) (xid : ℕ) → was_taken x (Some xid) ≡ false → Stands x before m.calls m.next_xid → (o : Option AwaitedCall) → find (is_call_to node xid) m.calls ≡ o → filter (went_before x) (repeats_call m o).sends ≡ []
    new_repeated m node xid off t None found = refl
    new_repeated m node xid off t (Some c) found = by_new (t.new c (found_in (is_call_to node xid) m.calls c found))
      where
        by_new : IsOneOf c before ⊎ (went_before x c.sent ≡ false) → filter (went_before x) (c.sent ∷ []) ≡ []
        by_new (inl old) = absurd (none_there node xid off c old (found_passes (is_call_to node xid) m.calls c found))
        by_new (inr new) = one_new x c.sent new

    one_repeated : (m : MdsValue) (node : NodeId) (xid : ℕ) → Stands x before m.calls m.next_xid → filter (went_before x) (repeats_call m (find (is_call_to node xid) m.calls)).sends ≡ record_of (find (is_call_to node xid) before)
    one_repeated m node xid t = by_taken (was_taken x (Some xid)) refl
      where
        by_taken : (b : Bool) → was_taken x (Some xid) ≡ b → filter (went_before x) (repeats_call m (find (is_call_to node xid) m.calls)).sends ≡ record_of (find (is_call_to node xid) before)
        by_taken true is =
            subst (λ (o : Option AwaitedCall). filter (went_before x) (repeats_call m o).sends ≡ record_of (find (is_call_to node xid) before)) (sym (t.same node xid (taken_is x xid is)))
            (taken_repeated m (find (is_call_to node xid) before) (λ c found. found_in (is_call_to node xid) before c found))
        by_taken false off = new_repeated m node xid off t (find (is_call_to node xid) m.calls) refl ∙ sym (nothing_there node xid off (find (is_call_to node xid) before) refl)

    repeat_stands : (m : MdsValue) (o : Option AwaitedCall) → Stands x before m.calls m.next_xid → Stands x before (repeats_call m o).mds.calls (repeats_call m o).mds.next_xid
    repeat_stands m None t = t
    repeat_stands m (Some c) t = t

    repeated_so : (o : Option (Option (ℕ × ℕ))) (m : MdsValue) → Leaves m (repeats o m) (record_at o)
    repeated_so None m = stays m
    repeated_so (Some None) m = stays m
    repeated_so (Some (Some kept)) m = λ t. (repeat_stands m (find (is_call_to (Server kept.0) kept.1) m.calls) t, one_repeated m (Server kept.0) kept.1 t)

    pub kept_again : (kept : List (Option (ℕ × ℕ))) (m : MdsValue) → Leaves m (calls_out kept m) (flat_map (λ (n : ℕ). record_at (slice_get kept (n - 1))) (range_with_len 1 (length m.files)))
    kept_again kept m = out_leaves kept (λ n. record_at (slice_get kept (n - 1))) (λ n y. repeated_so (slice_get kept (n - 1)) y) m
