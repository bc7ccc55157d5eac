-- Why the first call that a file waits with goes out at the end of an event.
use Rattle.std.proofs.Common.{◌≡◌, ◌≢◌, ◌⊎◌, inl, inr, ℕ, zero, suc, Bool, true, false, List, [], ◌∷◌, length, Option, Some, None, refl, sym, ap, subst, arith, ◌∙◌}
use Rattle.std.specs.Prelude.{◌-◌, ◌==◌, ◌≤◌, ◌<◌, if◌then◌else◌, not, position, slice_get, slice_set}
use Rattle.std.specs.Option.{option_map}
use Rattle.std.specs.List.{list_any, range_with_len}
use Rattle.std.proofs.lemmas.Bool.{cond_both, eq-eqb, eqb-true}
use Rattle.std.proofs.lemmas.List.Quantifiers.{position-Some}
use Rattle.std.proofs.lemmas.Option.{none-some, same_Some}
use Rattle.cluster_model.specs.Members.{IsOneOf}
use Rattle.cluster_model.proofs.Elements.{slice_get-set_same, slice_get-set_other}
use Rattle.cluster_model.specs.declared.ids.FileId.{FileId}
use Rattle.cluster_model.specs.declared.ids.Mirror.{Mirror}
use Rattle.cluster_model.specs.declared.ids.NodeId.{NodeId}
use Rattle.cluster_model.specs.declared.ids.NodeId.TheVariants.{Server}
use Rattle.file_rule.specs.MdsFiles.{MdsFile}
use Rattle.file_rule.specs.FilePhases.{CallOut, call_out, is_outstanding}
use Rattle.mirror_writer.specs.Writers.{WriterSends}
use Rattle.mirror_writer.specs.Writers as writer
use Rattle.nfs4_session.specs.Clients.{SessionsState}
use Rattle.recall.specs.declared.recall.Recall.{Recall}
use Rattle.mds_rule.specs.declared.waiter.Waiter.{Waiter}
use Rattle.mds_rule.specs.MdsStates.{WaitingRead, WaitingWrite, ServedFile, MdsSend, MdsValue, MdsStep, sends_none, served, with_served, numbered}
use Rattle.mds_rule.specs.Goes.{xid_after, calls_as, calls_server, OwnCall, own_of_file, own_of_write, own_by, place_of, place_or_last, own_call_at, own_next, has_xids, own_call, read_calls, each, place_calls, file_calls, calls_out}
use Rattle.mds_progress.specs.FirstOut.{is_called_at, is_called_by, FirstWaitsFor, HasCallTo, FirstGoesOut}
use Rattle.mds_progress.proofs.Called.{not_both, GoesOut, goes_out, KeepsOut, stays_out}
use Rattle.mds_progress.proofs.WriterCalled.{WriteGoes, write_goes, WriteStays, write_stays}
use Rattle.mds_progress.proofs.OutWalk.{some_number, each_so, reads_so, front_so, own_so, place_so, file_so}
use Rattle.mds_progress.proofs.Ticked.{pred_suc}
use Rattle.mds_progress.proofs.Resent.{in_range, within}

-- ---- a file's own call

-- the server that it goes to, whatever the file's number and READs
abbrev waits_for : ℕ → Option WaitingWrite → MdsFile → Option ℕ
waits_for xid None f = option_map (λ (c : CallOut). c.server) (call_out f xid)
waits_for xid (Some w) f = option_map (λ (c : WriterSends). c.id.server) (writer.next_sent w.writer xid)

file_for : (file : FileId) (s : ServedFile) (o : Option CallOut) → option_map (λ (c : OwnCall). c.server) (option_map (own_of_file file s) o) ≡ option_map (λ (c : CallOut). c.server) o
file_for file s None = refl
file_for file s (Some c) = refl

write_for : (file : FileId) (s : ServedFile) (w : WaitingWrite) (o : Option WriterSends) → option_map (λ (c : OwnCall). c.server) (option_map (own_of_write file s w) o) ≡ option_map (λ (c : WriterSends). c.id.server) o
write_for file s w None = refl
write_for file s w (Some c) = refl

own_for : (file : FileId) (s : ServedFile) (xid : ℕ) (o : Option WaitingWrite) → option_map (λ (c : OwnCall). c.server) (own_by file s xid o) ≡ waits_for xid o s.file
own_for file s xid None = file_for file s (call_out s.file xid)
own_for file s xid (Some w) = write_for file s w (writer.next_sent w.writer xid)

-- it is out behind it, and those that were stay
abbrev OwnGoes : ℕ → OwnCall → Type 0
OwnGoes xid c = is_called_by c.served.write c.served.file c.server xid ≡ true

file_goes : (file : FileId) (s : ServedFile) (xid : ℕ) → s.write ≡ None → (o : Option CallOut) → GoesOut xid o → (c : OwnCall) → option_map (own_of_file file s) o ≡ Some c → OwnGoes xid c
file_goes file s xid none None goes c is = absurd (none-some c is)
file_goes file s xid none (Some out) goes c is =
    subst (OwnGoes xid) (same_Some (own_of_file file s out) c is) (subst (λ (w : Option WaitingWrite). is_called_by w out.file out.server xid ≡ true) (sym none) goes)

write_goes_so : (file : FileId) (s : ServedFile) (w : WaitingWrite) (xid : ℕ) (o : Option WriterSends) → WriteGoes xid o → (c : OwnCall) → option_map (own_of_write file s w) o ≡ Some c → OwnGoes xid c
write_goes_so file s w xid None goes c is = absurd (none-some c is)
write_goes_so file s w xid (Some out) goes c is = subst (OwnGoes xid) (same_Some (own_of_write file s w out) c is) goes

own_goes : (file : FileId) (s : ServedFile) (xid : ℕ) (o : Option WaitingWrite) → s.write ≡ o → (c : OwnCall) → own_by file s xid o ≡ Some c → OwnGoes xid c
own_goes file s xid None at c is = file_goes file s xid at (call_out s.file xid) (goes_out s.file xid s.file.activity) c is
own_goes file s xid (Some w) at c is = write_goes_so file s w xid (writer.next_sent w.writer xid) (write_goes w.writer xid) c is

file_stays : (server own : ℕ) (file : FileId) (s : ServedFile) → s.write ≡ None → is_outstanding s.file server own ≡ true → (o : Option CallOut) → KeepsOut server own s.file s.file.activity o → (c : OwnCall) → option_map (own_of_file file s) o ≡ Some c
    → is_called_by c.served.write c.served.file server own ≡ true
file_stays server own file s none out None stays c is = absurd (none-some c is)
file_stays server own file s none out (Some goes) stays c is =
    subst (λ (d : OwnCall). is_called_by d.served.write d.served.file server own ≡ true) (same_Some (own_of_file file s goes) c is)
    (subst (λ (w : Option WaitingWrite). is_called_by w goes.file server own ≡ true) (sym none) (stays out))

write_stays_so : (server own : ℕ) (file : FileId) (s : ServedFile) (w : WaitingWrite) → list_any (is_called_at server own) w.writer.mirrors ≡ true → (o : Option WriterSends) → WriteStays server own w.writer o → (c : OwnCall) → option_map (own_of_write file s w) o ≡ Some c
    → is_called_by c.served.write c.served.file server own ≡ true
write_stays_so server own file s w out None stays c is = absurd (none-some c is)
write_stays_so server own file s w out (Some goes) stays c is =
    subst (λ (d : OwnCall). is_called_by d.served.write d.served.file server own ≡ true) (same_Some (own_of_write file s w goes) c is) (stays out)

own_stays : (server own : ℕ) (file : FileId) (s : ServedFile) (xid : ℕ) (o : Option WaitingWrite) → s.write ≡ o → is_called_by o s.file server own ≡ true → (c : OwnCall) → own_by file s xid o ≡ Some c
    → is_called_by c.served.write c.served.file server own ≡ true
own_stays server own file s xid None at out c is = file_stays server own file s at out (call_out s.file xid) (stays_out server own s.file xid s.file.activity) c is
own_stays server own file s xid (Some w) at out c is = write_stays_so server own file s w out (writer.next_sent w.writer xid) (write_stays server own w.writer xid) c is

-- ---- lists

served_at : (m : MdsValue) (file : FileId) (s : ServedFile) → served m file ≡ Some s → slice_get m.files (file.0 - 1) ≡ Some s
served_at m file s is =
    cond_both (file.0 == 0) None (slice_get m.files (file.0 - 1)) (λ (o : Option ServedFile). o ≡ Some s → slice_get m.files (file.0 - 1) ≡ Some s) (λ off none. absurd (none-some s none)) (λ on its. its) is

found_within : {X : Type 0} (test : X → Bool) (xs : List X) (i : ℕ) → position test xs ≡ Some i → i < length xs
found_within test [] i at = absurd (none-some i at)
found_within test (z ∷ xs) i at = (position-Some test (z ∷ xs) i z at).0

-- a place of the live list, or the last
few_places : (s : ServedFile) (server : ℕ) → length s.file.layout.live ≤ 4 → (o : Option ℕ) → position (λ (m : Mirror). m.id.server == server) s.file.layout.live ≡ o → place_or_last o ≤ 4
few_places s server few None at = omega arith
few_places s server few (Some place) at = let below : place < length s.file.layout.live = found_within (λ (m : Mirror). m.id.server == server) s.file.layout.live place at in omega (arith, below, few)

places : (q : ℕ) → q ≤ 4 → IsOneOf q (0 ∷ 1 ∷ 2 ∷ 3 ∷ 4 ∷ [])
places zero few = inl refl
places (suc zero) few = inr (inl refl)
places (suc (suc zero)) few = inr (inr (inl refl))
places (suc (suc (suc zero))) few = inr (inr (inr (inl refl)))
places (suc (suc (suc (suc zero)))) few = inr (inr (inr (inr (inl refl))))
places (suc (suc (suc (suc (suc q))))) few = absurd (omega (arith, few))

not_zero : (n : ℕ) (b : Bool) → (suc n == 0) ≡ b → b ≡ false
not_zero n true is = let same : suc n ≡ 0 = eqb-true (suc n) 0 is in absurd (omega (arith, same))
not_zero n false is = refl

served_suc : (m : MdsValue) (n : ℕ) → served m (numbered (suc n)) ≡ slice_get m.files n
served_suc m n = ap (λ (b : Bool). if b then None else slice_get m.files (suc n - 1)) (not_zero n (suc n == 0) refl) ∙ ap (slice_get m.files) (pred_suc n)

-- ---- the file at one place, and one server

module _ (p server : ℕ) where
  abbrev Goes : MdsValue → Type 0
  Goes m = (m.next_xid ≡ 0) ⊎ HasCallTo p server m

  abbrev Anything : FileId → Type 0
  Anything file = Unit {0}

  goes_called : (m : MdsValue) (node : NodeId) (caller : Waiter) (sent : MdsSend) → m.next_xid ≢ 0 → Goes m → Goes (calls_as m node caller sent).mds
  goes_called m node caller sent some (inl none) = absurd (some none)
  goes_called m node caller sent some (inr has) = inr has

  goes_recalls : (m : MdsValue) (list : List Recall) → Goes m → Goes (record m { recalls = list })
  goes_recalls m list (inl none) = inl none
  goes_recalls m list (inr has) = inr has

  goes_sessions : (m : MdsValue) (table : SessionsState) → Goes m → Goes (record m { sessions = table })
  goes_sessions m table (inl none) = inl none
  goes_sessions m table (inr has) = inr has

  goes_skips : (m : MdsValue) → m.next_xid ≢ 0 → Goes m → Goes (record m { next_xid = xid_after m.next_xid })
  goes_skips m some (inl none) = absurd (some none)
  goes_skips m some (inr has) = inr has

  -- a file is put at a place, by this or that rule where it is its own
  put : (m : MdsValue) (file : FileId) (s t : ServedFile) (Is : ServedFile → Type 0) → served m file ≡ Some s → (Is s → Is t) → (u : ServedFile) → slice_get m.files p ≡ Some u → Is u
      → (v : ServedFile) × (slice_get (slice_set m.files (file.0 - 1) t) p ≡ Some v) × Is v
  put m file s t Is is moves u at has = by_place (file.0 - 1 == p) refl
    where
      by_place : (b : Bool) → (file.0 - 1 == p) ≡ b → (v : ServedFile) × (slice_get (slice_set m.files (file.0 - 1) t) p ≡ Some v) × Is v
      by_place true here =
          let same : file.0 - 1 ≡ p = eqb-true (file.0 - 1) p here in
          let own : slice_get m.files p ≡ Some s = subst (λ (i : ℕ). slice_get m.files i ≡ Some s) same (served_at m file s is) in
          (t, subst (λ (i : ℕ). slice_get (slice_set m.files i t) p ≡ Some t) (sym same) (slice_get-set_same m.files p s t own), moves (subst Is (same_Some u s (sym at ∙ own)) has))
      by_place false off = (u, slice_get-set_other m.files (file.0 - 1) p t (λ same. not_both (sym off ∙ eq-eqb (file.0 - 1) p (sym same))) ∙ at, has)

  goes_put : (m : MdsValue) (file : FileId) (s t : ServedFile) → served m file ≡ Some s → ((own : ℕ) → is_called_by s.write s.file server own ≡ true → is_called_by t.write t.file server own ≡ true) → Goes m → Goes (with_served m file t)
  goes_put m file s t is moves (inl none) = inl none
  goes_put m file s t is moves (inr has) =
      let own : ℕ = has.1 in
      let after = put m file s t (λ (v : ServedFile). is_called_by v.write v.file server own ≡ true) is (moves own) has.0 has.2 has.3 in
      inr (after.0, own, after.1, after.2)

  goes_reads : (m : MdsValue) (file : FileId) (s : ServedFile) (list : List WaitingRead) → Anything file → served m file ≡ Some s → Goes m → Goes (with_served m file (record s { reads = list }))
  goes_reads m file s list may is goes = goes_put m file s (record s { reads = list }) is (λ own out. out) goes

  goes_own : (m : MdsValue) (file : FileId) (s : ServedFile) (c : OwnCall) → Anything file → served m file ≡ Some s → own_by file s m.next_xid s.write ≡ Some c → Goes m → Goes (with_served m file c.served)
  goes_own m file s c may is its goes = goes_put m file s c.served is (λ own out. own_stays server own file s m.next_xid s.write refl out c its) goes

  -- ---- it waits for its pass, or has gone out

  module _ (q : ℕ) where
    abbrev Waits : ServedFile → Type 0
    Waits s = ((xid : ℕ) → waits_for xid s.write s.file ≡ Some server) × (place_of s server ≡ q)

    abbrev StillWaits : MdsValue → Type 0
    StillWaits m = (s : ServedFile) × (slice_get m.files p ≡ Some s) × Waits s

    abbrev Open : MdsValue → Type 0
    Open m = StillWaits m ⊎ Goes m

    open_called : (m : MdsValue) (node : NodeId) (caller : Waiter) (sent : MdsSend) → m.next_xid ≢ 0 → Open m → Open (calls_as m node caller sent).mds
    open_called m node caller sent some (inl waits) = inl waits
    open_called m node caller sent some (inr goes) = inr (goes_called m node caller sent some goes)

    open_recalls : (m : MdsValue) (list : List Recall) → Open m → Open (record m { recalls = list })
    open_recalls m list (inl waits) = inl waits
    open_recalls m list (inr goes) = inr (goes_recalls m list goes)

    open_sessions : (m : MdsValue) (table : SessionsState) → Open m → Open (record m { sessions = table })
    open_sessions m table (inl waits) = inl waits
    open_sessions m table (inr goes) = inr (goes_sessions m table goes)

    open_skips : (m : MdsValue) → m.next_xid ≢ 0 → Open m → Open (record m { next_xid = xid_after m.next_xid })
    open_skips m some (inl waits) = inl waits
    open_skips m some (inr goes) = inr (goes_skips m some goes)

    open_reads : (m : MdsValue) (file : FileId) (s : ServedFile) (list : List WaitingRead) → Anything file → served m file ≡ Some s → Open m → Open (with_served m file (record s { reads = list }))
    open_reads m file s list may is (inl waits) = inl (put m file s (record s { reads = list }) Waits is (λ its. its) waits.0 waits.1 waits.2)
    open_reads m file s list may is (inr goes) = inr (goes_reads m file s list may is goes)

    -- the call that goes out is the one to the server
    own_here : (m : MdsValue) (file : FileId) (s : ServedFile) (c : OwnCall) → served m file ≡ Some s → own_by file s m.next_xid s.write ≡ Some c → file.0 - 1 ≡ p → Waits s → HasCallTo p server (with_served m file c.served)
    own_here m file s c is its here waits =
        let to : c.server ≡ server =
        same_Some c.server server (sym (ap (option_map (λ (d : OwnCall). d.server)) its) ∙ own_for file s m.next_xid s.write ∙ waits.0 m.next_xid) in
        let own : slice_get m.files p ≡ Some s = subst (λ (i : ℕ). slice_get m.files i ≡ Some s) here (served_at m file s is) in (
          c.served,
          m.next_xid,
          subst (λ (i : ℕ). slice_get (slice_set m.files i c.served) p ≡ Some c.served) (sym here) (slice_get-set_same m.files p s c.served own),
          subst (λ (n : ℕ). is_called_by c.served.write c.served.file n m.next_xid ≡ true) to (own_goes file s m.next_xid s.write refl c its),
        )

    open_own : (m : MdsValue) (file : FileId) (s : ServedFile) (c : OwnCall) → Anything file → served m file ≡ Some s → own_by file s m.next_xid s.write ≡ Some c → Open m → Open (with_served m file c.served)
    open_own m file s c may is its (inr goes) = inr (goes_own m file s c may is its goes)
    open_own m file s c may is its (inl waits) = by_place (file.0 - 1 == p) refl
      where
        by_place : (b : Bool) → (file.0 - 1 == p) ≡ b → Open (with_served m file c.served)
        by_place true here =
            let same : file.0 - 1 ≡ p = eqb-true (file.0 - 1) p here in
            let own : slice_get m.files p ≡ Some s = subst (λ (i : ℕ). slice_get m.files i ≡ Some s) same (served_at m file s is) in
            inr (inr (own_here m file s c is its same (subst Waits (same_Some waits.0 s (sym waits.1 ∙ own)) waits.2)))
        by_place false off = inl (waits.0, slice_get-set_other m.files (file.0 - 1) p c.served (λ same. not_both (sym off ∙ eq-eqb (file.0 - 1) p (sym same))) ∙ waits.1, waits.2)

    -- ---- its pass

    here_is : (numbered (suc p)).0 - 1 ≡ p
    here_is = pred_suc p

    turn_at : (m : MdsValue) (s : ServedFile) (o : Option OwnCall) → served m (numbered (suc p)) ≡ Some s → own_by (numbered (suc p)) s m.next_xid s.write ≡ o → Waits s → m.next_xid ≢ 0 → Goes (own_call_at m (numbered (suc p)) s q o).mds
    turn_at m s None is its waits some = absurd (none-some server (ap (option_map (λ (d : OwnCall). d.server)) (sym its) ∙ own_for (numbered (suc p)) s m.next_xid s.write ∙ waits.0 m.next_xid))
    turn_at m s (Some c) is its waits some =
        let to : c.server ≡ server =
        same_Some c.server server (sym (ap (option_map (λ (d : OwnCall). d.server)) its) ∙ own_for (numbered (suc p)) s m.next_xid s.write ∙ waits.0 m.next_xid) in
        cond_both (place_of s c.server == q) (calls_server m (numbered (suc p)) c.served c.caller c.server c.uid c.call) (sends_none m) (λ (x : MdsStep). Goes x.mds)
        (λ on. inr (own_here m (numbered (suc p)) s c is its here_is waits))
        (λ off. absurd (not_both (sym off ∙ eq-eqb (place_of s c.server) q (ap (place_of s) to ∙ waits.1))))

    turn_next : (m : MdsValue) (o : Option ServedFile) → served m (numbered (suc p)) ≡ o → StillWaits m → m.next_xid ≢ 0 → Goes (own_next m (numbered (suc p)) q o).mds
    turn_next m None is waits some = absurd (none-some waits.0 (sym is ∙ served_suc m p ∙ waits.1))
    turn_next m (Some s) is waits some =
        turn_at m s (own_by (numbered (suc p)) s m.next_xid s.write) is refl (subst Waits (same_Some waits.0 s (sym (served_suc m p ∙ waits.1) ∙ is)) waits.2) some

    turn : (m : MdsValue) → Open m → Goes (own_call (numbered (suc p)) q m).mds
    turn m (inr goes) = own_so Goes Anything goes_called goes_reads goes_recalls goes_sessions goes_skips goes_own (numbered (suc p)) tt q m goes
    turn m (inl waits) =
        cond_both (has_xids m) (own_next m (numbered (suc p)) q (served m (numbered (suc p)))) (sends_none m) (λ (x : MdsStep). Goes x.mds)
        (λ has. turn_next m (served m (numbered (suc p))) refl waits (some_number m has)) (λ off. inl (none_left (m.next_xid == 0) refl off))
      where
        none_left : (b : Bool) → (m.next_xid == 0) ≡ b → not b ≡ false → m.next_xid ≡ 0
        none_left true is off = eqb-true m.next_xid 0 is
        none_left false is off = absurd cc

    turn_place : (m : MdsValue) → Open m → Goes (place_calls (numbered (suc p)) q m).mds
    turn_place m may =
        let one : MdsValue = (own_call (numbered (suc p)) q m).mds in
        let two : MdsValue = (own_call (numbered (suc p)) q one).mds in
        let three : MdsValue = (own_call (numbered (suc p)) q two).mds in
        reads_so Goes Anything goes_called goes_reads goes_recalls goes_sessions goes_skips (numbered (suc p)) tt q (own_call (numbered (suc p)) q three).mds
        (own_on three (own_on two (own_on one (turn m may))))
      where
        own_on : (k : MdsValue) → Goes k → Goes (own_call (numbered (suc p)) q k).mds
        own_on k goes = own_so Goes Anything goes_called goes_reads goes_recalls goes_sessions goes_skips goes_own (numbered (suc p)) tt q k goes

    pub turns : (list : List ℕ) (m : MdsValue) → IsOneOf q list → Open m → Goes (each (place_calls (numbered (suc p))) list m).mds
    turns [] m inside may = absurd inside
    turns (k ∷ list) m (inl same) may =
        each_so Goes Anything goes_called goes_reads goes_recalls goes_sessions goes_skips (place_calls (numbered (suc p)))
        (λ place n. place_so Goes Anything goes_called goes_reads goes_recalls goes_sessions goes_skips goes_own (numbered (suc p)) tt place n)
        list (place_calls (numbered (suc p)) k m).mds (subst (λ (j : ℕ). Goes (place_calls (numbered (suc p)) j m).mds) same (turn_place m may))
    turns (k ∷ list) m (inr inside) may =
        turns list (place_calls (numbered (suc p)) k m).mds inside (place_so Open Anything open_called open_reads open_recalls open_sessions open_skips open_own (numbered (suc p)) tt k m may)

    -- ---- all files

    of_file : (kept : List (Option (ℕ × ℕ))) (m : MdsValue) → q ≤ 4 → Open m → Goes (file_calls kept (suc p) m).mds
    of_file kept m few may = turns (0 ∷ 1 ∷ 2 ∷ 3 ∷ 4 ∷ []) _ (places q few) (front_so Open Anything open_called open_reads open_recalls open_sessions open_skips kept (suc p) m may)

    pub of_files : (kept : List (Option (ℕ × ℕ))) (list : List ℕ) (m : MdsValue) → q ≤ 4 → IsOneOf (suc p) list → Open m → Goes (each (file_calls kept) list m).mds
    of_files kept [] m few inside may = absurd inside
    of_files kept (n ∷ list) m few (inl same) may =
        each_so Goes Anything goes_called goes_reads goes_recalls goes_sessions goes_skips (file_calls kept)
        (λ k x. file_so Goes Anything goes_called goes_reads goes_recalls goes_sessions goes_skips goes_own kept k tt x)
        list (file_calls kept n m).mds (subst (λ (j : ℕ). Goes (file_calls kept j m).mds) same (of_file kept m few may))
    of_files kept (n ∷ list) m few (inr inside) may =
        of_files kept list (file_calls kept n m).mds few inside (file_so Open Anything open_called open_reads open_recalls open_sessions open_skips open_own kept n tt m may)

pub first_goes : (kept : List (Option (ℕ × ℕ))) (m : MdsValue) → FirstGoesOut kept m
first_goes kept m p s server at few waits some =
    let q : ℕ = place_of s server in
    let less : p < length m.files = within m.files p s at in
    let inside : IsOneOf (suc p) (range_with_len 1 (length m.files)) = in_range (length m.files) 1 (suc p) (omega arith) (omega (arith, less)) in
    let open_at : (xid : ℕ) → waits_for xid s.write s.file ≡ Some server = λ xid. sym (own_for (numbered (suc p)) s xid s.write) ∙ waits xid in
    went (of_files p server q kept (range_with_len 1 (length m.files)) m (few_places s server few (position (λ (n : Mirror). n.id.server == server) s.file.layout.live) refl) inside (inl (s, at, (open_at, refl))))
  where
    went : Goes p server (calls_out kept m).mds → HasCallTo p server (calls_out kept m).mds
    went (inl none) = absurd (some none)
    went (inr has) = has
