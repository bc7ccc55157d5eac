-- The call that a file kept goes out again in a tick: it stands among the calls through all that goes out before.
use Rattle.std.proofs.Common.{arith, ◌≡◌, ◌≢◌, ℕ, ◌+◌, ◌<◌, ◌≤◌, zero, suc, Bool, true, false, List, [], ◌∷◌, ◌++◌, length, Option, Some, None, refl, sym, ap, subst, ◌∙◌, inl, inr}
use Rattle.std.specs.Prelude.{◌-◌, ◌==◌, ◌&&◌, not, nat_lt, map, slice_get, slice_set, if◌then◌else◌}
use Rattle.std.specs.List.{find, range_with_len}
use Rattle.std.proofs.lemmas.Bool.{cond_both, and_parts, eqb-true, eq-eqb, ne_eqb}
use Rattle.std.proofs.lemmas.Option.{none-some, same_Some}
use Rattle.cluster_model.specs.Members.{IsOneOf}
use Rattle.cluster_model.specs.declared.ids.NodeId.{NodeId}
use Rattle.cluster_model.specs.declared.ids.NodeId.TheVariants.{Server}
use Rattle.cluster_model.specs.declared.ids.FileId.{FileId}
use Rattle.cluster_model.specs.Nodes.{is_node}
use Rattle.file_rule.specs.MdsFiles.{FileStep}
use Rattle.file_rule.specs.FilePhases.{Ticks, phase}
use Rattle.mds_activity.specs.FileCalls.{kept_out}
use Rattle.mds_io.specs.Reads.{ReadSends}
use Rattle.mds_io.specs.Reads as read
use Rattle.nfs4_session.specs.Clients.{SessionState, has_id}
use Rattle.nfs4_session.specs.Bindings.{last_session}
use Rattle.recall.specs.declared.recall.RecallCall.{RecallCall}
use Rattle.recall.specs.Recalls.{RecallSends, next_sent}
use Rattle.mds_rule.specs.MdsStates.{WaitingRead, ServedFile, MdsSend, AwaitedCall, MdsValue, MdsStep, sends_none, and_then, with_call, is_call_to, served, numbered}
use Rattle.mds_rule.specs.declared.waiter.Waiter.{Waiter}
use Rattle.mds_rule.specs.declared.waiter.Waiter.TheVariants.{ForRead}
use Rattle.mds_rule.specs.ServedFiles.{has_fresh, file_stepped, input_at, takes_input}
use Rattle.mds_rule.specs.Goes.{xid_after, calls_as, calls_server, OwnCall, own_by, place_of, own_call_at, own_next, has_xids, own_call, own_two, own_calls, read_goes, read_call, read_call_in, each, read_count, read_calls, calls_back, recall_goes, recall_call, repeats_call, repeats, place_calls, file_calls, calls_out}
use Rattle.mds_rule.specs.Events.{kept_calls, files_tick}
use Rattle.mds_progress.specs.TickLaw.{ends_with, behind_ends, WasTaken, SendsKept}
use Rattle.mds_progress.proofs.Ticked.{each_length, pred_suc}

not_both : true ≡ false → ⊥
not_both e = absurd cc

-- ---- lists

in_front : {A : Type 0} (x : A) (xs ys : List A) → IsOneOf x xs → IsOneOf x (xs ++ ys)
in_front x [] ys inside = absurd inside
in_front x (y ∷ xs) ys (inl is) = inl is
in_front x (y ∷ xs) ys (inr inside) = inr (in_front x xs ys inside)

in_behind : {A : Type 0} (x : A) (xs ys : List A) → IsOneOf x ys → IsOneOf x (xs ++ ys)
in_behind x [] ys inside = inside
in_behind x (y ∷ xs) ys inside = inr (in_behind x xs ys inside)

unequal : (a b : ℕ) → (a == b) ≡ false → a ≢ b
unequal a b off same = not_both (sym (eq-eqb a b same) ∙ off)

pub in_range : (count from n : ℕ) → from ≤ n → n < from + count → IsOneOf n (range_with_len from count)
in_range zero from n low high = absurd (omega (arith, low, high))
in_range (suc count) from n low high = by_first (n == from) refl (λ low high. in_range count (from + 1) n low high)
  where
    by_first : (b : Bool) → (n == from) ≡ b → (from + 1 ≤ n → n < from + 1 + count → IsOneOf n (range_with_len (from + 1) count)) → IsOneOf n (range_with_len from (suc count))
    by_first true is rest = inl (eqb-true n from is)
    by_first false is rest = let ne : n ≢ from = unequal n from is in inr (rest (omega (arith, low, ne)) (omega (arith, high)))

got_kept : (files : List ServedFile) (place : ℕ) (s : ServedFile) → slice_get files place ≡ Some s → slice_get (map (λ (s : ServedFile). kept_out s.file) files) place ≡ Some (kept_out s.file)
got_kept [] place s is = absurd (none-some s is)
got_kept (f ∷ files) zero s is = ap (λ (x : ServedFile). Some (kept_out x.file)) (same_Some f s is)
got_kept (f ∷ files) (suc place) s is = got_kept files place s is

pub within : (files : List ServedFile) (place : ℕ) (s : ServedFile) → slice_get files place ≡ Some s → place < length files
within [] place s is = absurd (none-some s is)
within (f ∷ files) zero s is = omega arith
within (f ∷ files) (suc place) s is = let l : place < length files = within files place s is in omega (arith, l)

-- there is a number for a next call
some_number : (m : MdsValue) → has_xids m ≡ true → m.next_xid ≢ 0
some_number m has zero_is = not_both (sym has ∙ ap not (eq-eqb m.next_xid 0 zero_is))

and_false : (b : Bool) → (b && false) ≡ false
and_false true = refl
and_false false = refl

module _ (server xid : ℕ) (call : AwaitedCall) where
  -- it stands among the calls under its number, which the next call does not take
  abbrev Stands : MdsValue → Type 0
  Stands m = (find (is_call_to (Server server) xid) m.calls ≡ Some call) × WasTaken xid m.next_xid

  abbrev Keeps : MdsValue → MdsStep → Type 0
  Keeps m s = Stands m → Stands s.mds

  -- ---- one call more

  skipped : (c : AwaitedCall) → c.xid ≢ xid → is_call_to (Server server) xid c ≡ false
  skipped c other = ap (λ b. is_node c.node (Server server) && b) (ne_eqb c.xid xid other) ∙ and_false (is_node c.node (Server server))

  found_past : (c : AwaitedCall) (calls : List AwaitedCall) → c.xid ≢ xid → find (is_call_to (Server server) xid) (c ∷ calls) ≡ find (is_call_to (Server server) xid) calls
  found_past c calls other = ap (λ (b : Bool). if b then Some c else find (is_call_to (Server server) xid) calls) (skipped c other)

  found_with : (c : AwaitedCall) (calls : List AwaitedCall) → c.xid ≢ xid → find (is_call_to (Server server) xid) (with_call c calls) ≡ find (is_call_to (Server server) xid) calls
  found_with c [] other = found_past c [] other
  found_with c (d ∷ calls) other =
      cond_both (nat_lt c.xid d.xid) (c ∷ d ∷ calls) (if c.xid == d.xid then c ∷ calls else d ∷ with_call c calls) (λ (l : List AwaitedCall). find (is_call_to (Server server) xid) l ≡ find (is_call_to (Server server) xid) (d ∷ calls))
      (λ below. found_past c (d ∷ calls) other)
      (λ off.
      cond_both (c.xid == d.xid) (c ∷ calls) (d ∷ with_call c calls) (λ (l : List AwaitedCall). find (is_call_to (Server server) xid) l ≡ find (is_call_to (Server server) xid) (d ∷ calls))
      (λ same. found_past c calls other ∙ sym (found_past d calls (λ its. other (eqb-true c.xid d.xid same ∙ its))))
      (λ away. ap (λ (o : Option AwaitedCall). if is_call_to (Server server) xid d then Some d else o) (found_with c calls other)))

  not_next : (next : ℕ) → next ≢ 0 → WasTaken xid next → next ≢ xid
  not_next next some (inl less) same = omega (arith, less, same)
  not_next next some (inr none) same = some none

  taken_on : (next : ℕ) → next ≢ 0 → WasTaken xid next → WasTaken xid (next + 1)
  taken_on next some (inl less) = inl (omega (arith, less))
  taken_on next some (inr none) = absurd (some none)

  taken_after : (next : ℕ) → next ≢ 0 → WasTaken xid next → WasTaken xid (xid_after next)
  taken_after next some taken = cond_both (next == 4294967295) 0 (next + 1) (λ (n : ℕ). WasTaken xid n) (λ last. inr refl) (λ off. taken_on next some taken)

  called_keeps : (m : MdsValue) (node : NodeId) (caller : Waiter) (sent : MdsSend) → m.next_xid ≢ 0 → Keeps m (calls_as m node caller sent)
  called_keeps m node caller sent some stands =
      (found_with (record { node = node; xid = m.next_xid; caller = caller; sent = sent }) m.calls (not_next m.next_xid some stands.1) ∙ stands.0, taken_after m.next_xid some stands.1)

  then_keeps : (m : MdsValue) (s : MdsStep) (next : MdsValue → MdsStep) → Keeps m s → ((n : MdsValue) → Keeps n (next n)) → Keeps m (and_then s next)
  then_keeps m s next first second stands = second s.mds (first stands)

  each_keeps : {A : Type 0} (step : A → MdsValue → MdsStep) → ((a : A) (m : MdsValue) → Keeps m (step a m)) → (list : List A) (m : MdsValue) → Keeps m (each step list m)
  each_keeps step keeps [] m stands = stands
  each_keeps step keeps (a ∷ list) m stands = each_keeps step keeps list (step a m).mds (keeps a m stands)

  -- ---- the calls that go out

  own_at_keeps : (m : MdsValue) (file : FileId) (s : ServedFile) (place : ℕ) (o : Option OwnCall) → m.next_xid ≢ 0 → Keeps m (own_call_at m file s place o)
  own_at_keeps m file s place None some stands = stands
  own_at_keeps m file s place (Some c) some stands =
      cond_both (place_of s c.server == place) (calls_server m file c.served c.caller c.server c.uid c.call) (sends_none m) (λ (x : MdsStep). Stands x.mds) (λ is. called_keeps m (Server c.server) c.caller _ some stands) (λ off. stands)

  own_next_keeps : (m : MdsValue) (file : FileId) (place : ℕ) (o : Option ServedFile) → m.next_xid ≢ 0 → Keeps m (own_next m file place o)
  own_next_keeps m file place None some stands = stands
  own_next_keeps m file place (Some s) some stands = own_at_keeps m file s place (own_by file s m.next_xid s.write) some stands

  own_keeps : (file : FileId) (place : ℕ) (m : MdsValue) → Keeps m (own_call file place m)
  own_keeps file place m stands =
      cond_both (has_xids m) (own_next m file place (served m file)) (sends_none m) (λ (x : MdsStep). Stands x.mds) (λ has. own_next_keeps m file place (served m file) (some_number m has) stands) (λ off. stands)

  two_keep : (file : FileId) (place : ℕ) (m : MdsValue) → Keeps m (own_two file place m)
  two_keep file place m = then_keeps m (own_call file place m) (own_call file place) (own_keeps file place m) (own_keeps file place)

  all_own_keep : (file : FileId) (place : ℕ) (m : MdsValue) → Keeps m (own_calls file place m)
  all_own_keep file place m = then_keeps m (own_two file place m) (own_two file place) (two_keep file place m) (two_keep file place)

  read_goes_keeps : (m : MdsValue) (file : FileId) (s : ServedFile) (n place : ℕ) (r : WaitingRead) (o : Option ReadSends) → Keeps m (read_goes m file s n place r o)
  read_goes_keeps m file s n place r None stands = stands
  read_goes_keeps m file s n place r (Some sent) stands =
      let t : ServedFile = record s { reads = slice_set s.reads n (record { compound = r.compound; read = sent.read }) } in
      cond_both ((place_of s sent.id.server == place) && has_xids m) (calls_server m file t (ForRead file) sent.id.server 0 sent.call) (sends_none m) (λ (x : MdsStep). Stands x.mds)
      (λ both. called_keeps m (Server sent.id.server) (ForRead file) _ (some_number m (and_parts (place_of s sent.id.server == place) (has_xids m) both).1) stands) (λ off. stands)

  read_call_keeps : (m : MdsValue) (file : FileId) (s : ServedFile) (n place : ℕ) (o : Option WaitingRead) → Keeps m (read_call m file s n place o)
  read_call_keeps m file s n place None stands = stands
  read_call_keeps m file s n place (Some r) stands = read_goes_keeps m file s n place r (read.next_sent r.read m.next_xid) stands

  read_in_keeps : (file : FileId) (place n : ℕ) (m : MdsValue) (o : Option ServedFile) → Keeps m (read_call_in file place n m o)
  read_in_keeps file place n m None stands = stands
  read_in_keeps file place n m (Some s) stands = read_call_keeps m file s n place (slice_get s.reads n) stands

  reads_keep : (file : FileId) (place : ℕ) (m : MdsValue) → Keeps m (read_calls file place m)
  reads_keep file place m = each_keeps (λ n k. read_call_in file place n k (served k file)) (λ n k. read_in_keeps file place n k (served k file)) (range_with_len 0 (read_count (served m file))) m

  back_keeps : (m : MdsValue) (c : RecallCall) (o : Option SessionState) → m.next_xid ≢ 0 → Keeps m (calls_back m c o)
  back_keeps m c None some stands = (stands.0, taken_after m.next_xid some stands.1)
  back_keeps m c (Some session) some stands = called_keeps m _ _ _ some stands

  recall_goes_keeps : (m : MdsValue) (file : FileId) (o : Option RecallSends) → m.next_xid ≢ 0 → Keeps m (recall_goes m file o)
  recall_goes_keeps m file None some stands = stands
  recall_goes_keeps m file (Some sent) some stands =
      let n : MdsValue = record m { recalls = sent.recalls } in
      cond_both (sent.call.file.0 == file.0) (calls_back n sent.call (last_session (find (has_id sent.call.client) m.sessions.clients))) (sends_none m) (λ (x : MdsStep). Stands x.mds)
      (λ is. back_keeps n sent.call (last_session (find (has_id sent.call.client) m.sessions.clients)) some stands) (λ off. stands)

  recall_keeps : (file : FileId) (m : MdsValue) → Keeps m (recall_call file m)
  recall_keeps file m stands =
      cond_both (has_xids m) (recall_goes m file (next_sent m.recalls m.next_xid)) (sends_none m) (λ (x : MdsStep). Stands x.mds) (λ has. recall_goes_keeps m file (next_sent m.recalls m.next_xid) (some_number m has) stands) (λ off. stands)

  repeat_keeps : (m : MdsValue) (o : Option AwaitedCall) → Keeps m (repeats_call m o)
  repeat_keeps m None stands = stands
  repeat_keeps m (Some c) stands = stands

  repeats_keep : (kept : Option (Option (ℕ × ℕ))) (m : MdsValue) → Keeps m (repeats kept m)
  repeats_keep None m stands = stands
  repeats_keep (Some None) m stands = stands
  repeats_keep (Some (Some kept)) m stands = repeat_keeps m (find (is_call_to (Server kept.0) kept.1) m.calls) stands

  place_keeps : (file : FileId) (place : ℕ) (m : MdsValue) → Keeps m (place_calls file place m)
  place_keeps file place m = then_keeps m (own_calls file place m) (read_calls file place) (all_own_keep file place m) (reads_keep file place)

  file_keeps : (kept : List (Option (ℕ × ℕ))) (n : ℕ) (m : MdsValue) → Keeps m (file_calls kept n m)
  file_keeps kept n m =
      then_keeps m (and_then (recall_call (numbered n) m) (repeats (slice_get kept (n - 1)))) (each (place_calls (numbered n)) (0 ∷ 1 ∷ 2 ∷ 3 ∷ 4 ∷ []))
      (then_keeps m (recall_call (numbered n) m) (repeats (slice_get kept (n - 1))) (recall_keeps (numbered n) m) (repeats_keep (slice_get kept (n - 1))))
      (each_keeps (place_calls (numbered n)) (place_keeps (numbered n)) (0 ∷ 1 ∷ 2 ∷ 3 ∷ 4 ∷ []))

  -- ---- it goes out with its file's

  repeated : (kept : Option (Option (ℕ × ℕ))) (m : MdsValue) → kept ≡ Some (Some (server, xid)) → Stands m → IsOneOf call.sent (repeats kept m).sends
  repeated kept m is stands =
      subst (λ (o : Option (Option (ℕ × ℕ))). IsOneOf call.sent (repeats o m).sends) (sym is)
      (subst (λ (o : Option AwaitedCall). IsOneOf call.sent (repeats_call m o).sends) (sym stands.0) (inl refl))

  file_sends : (kept : List (Option (ℕ × ℕ))) (n : ℕ) (m : MdsValue) → slice_get kept (n - 1) ≡ Some (Some (server, xid)) → Stands m → IsOneOf call.sent (file_calls kept n m).sends
  file_sends kept n m is stands =
      let r : MdsStep = recall_call (numbered n) m in
      in_front call.sent (r.sends ++ (repeats (slice_get kept (n - 1)) r.mds).sends) _ (in_behind call.sent r.sends (repeats (slice_get kept (n - 1)) r.mds).sends (repeated (slice_get kept (n - 1)) r.mds is (recall_keeps (numbered n) m stands)))

  each_sends : (kept : List (Option (ℕ × ℕ))) (n : ℕ) → slice_get kept (n - 1) ≡ Some (Some (server, xid)) → (ns : List ℕ) (m : MdsValue) → IsOneOf n ns → Stands m → IsOneOf call.sent (each (file_calls kept) ns m).sends
  each_sends kept n is [] m inside stands = absurd inside
  each_sends kept n is (k ∷ ns) m (inl same) stands = in_front call.sent (file_calls kept k m).sends _ (subst (λ (j : ℕ). IsOneOf call.sent (file_calls kept j m).sends) same (file_sends kept n m is stands))
  each_sends kept n is (k ∷ ns) m (inr inside) stands = in_behind call.sent (file_calls kept k m).sends _ (each_sends kept n is ns (file_calls kept k m).mds inside (file_keeps kept k m stands))

  -- ---- the pass before changes no calls

  input_keeps : (m : MdsValue) (n : ℕ) (o : Option ServedFile) → Keeps m (input_at m (numbered n) Ticks o)
  input_keeps m n None stands = stands
  input_keeps m n (Some s) stands =
      let step : FileStep = phase (numbered n) s.file Ticks m.fresh in
      cond_both (has_fresh m.fresh) (file_stepped m (numbered n) s step) (sends_none m) (λ (x : MdsStep). Stands x.mds) (λ has. stands) (λ off. stands)

  files_send : (m : MdsValue) (place : ℕ) (s : ServedFile) → slice_get m.files place ≡ Some s → kept_out s.file ≡ Some (server, xid) → Stands m → IsOneOf call.sent (files_tick m).sends
  files_send m place s is kept stands =
      let pass : MdsStep = each (λ n k. takes_input k (numbered n) Ticks) (range_with_len 1 (length m.files)) m in
      let there : slice_get (kept_calls m) (suc place - 1) ≡ Some (Some (server, xid)) =
      ap (λ (k : ℕ). slice_get (kept_calls m) k) (pred_suc place) ∙ got_kept m.files place s is ∙ ap Some kept in
      let less : place < length m.files = within m.files place s is in
      let inside : IsOneOf (suc place) (range_with_len 1 (length pass.mds.files)) =
      subst (λ (n : ℕ). IsOneOf (suc place) (range_with_len 1 n)) (sym (each_length (range_with_len 1 (length m.files)) m)) (in_range (length m.files) 1 (suc place) (omega arith) (omega (arith, less))) in
      in_behind call.sent pass.sends (calls_out (kept_calls m) pass.mds).sends
      (each_sends (kept_calls m) (suc place) there (range_with_len 1 (length pass.mds.files)) pass.mds inside
      (each_keeps (λ n k. takes_input k (numbered n) Ticks) (λ n k. input_keeps k n (served k (numbered n))) (range_with_len 1 (length m.files)) m stands))

pub resends : (now : ℕ) (m : MdsValue) → SendsKept now m
resends now m place s server xid call is kept found taken =
    let n : MdsValue = behind_ends now m in
    in_front call.sent ((ends_with now m).sends ++ (files_tick n).sends) [] (in_behind call.sent (ends_with now m).sends (files_tick n).sends (files_send server xid call n place s is kept (found, taken)))
