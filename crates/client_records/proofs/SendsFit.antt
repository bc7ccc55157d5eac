-- What goes out has a spelling, where what the client has is in range.
use Rattle.std.proofs.Common.{◌≡◌, ℕ, ◌+◌, ◌<◌, ◌≤◌, ◌^◌, Bool, true, false, List, [], ◌∷◌, length, Option, Some, None, refl, sym, ap, subst, ◌∙◌, arith, length-append}
use Rattle.std.specs.Prelude.{◌==◌, ◌-◌, slice_get, codes, decimal, option_map, if◌then◌else◌}
use Rattle.std.specs.List.{AllByRecursion}
use Rattle.std.proofs.lemmas.Bool.{ltb-false, eq-eqb}
use Rattle.std.proofs.lemmas.Fmt.{length-decimal-le}
use Rattle.std.proofs.lemmas.Option.{none-some, same_Some, slice_get-map}
use Rattle.cluster_model.specs.declared.limits.TheConstants.{MAX_FILE, PIECE_SIZE}
use Rattle.cluster_model.specs.declared.ids.Mirror.{Mirror}
use Rattle.cluster_model.specs.declared.ids.MirrorId.{MirrorId}
use Rattle.cluster_model.specs.DsCalls.{DsCallValue}
use Rattle.cluster_model.specs.DsCalls as ds
use Rattle.ds_calls.specs.DsCallLaws.{IsSpeakable}
use Rattle.device_addr.specs.declared.net_addr.NetAddr.{NetAddr}
use Rattle.nfs4_types.specs.declared.ids.DeviceId.{DeviceId}
use Rattle.mirror_writer.specs.declared.call.TakenWrite.{TakenWrite}
use Rattle.mirror_writer.specs.declared.call.NextCall.{NextCall}
use Rattle.mirror_writer.specs.declared.call.NextCall.TheVariants.{SendsWrite, SendsCommit}
use Rattle.mirror_writer.specs.Writers.{WriterMirror, WriterValue, WriterSends, write_of_taken, call_for, next_sent}
use Rattle.client_file_calls.specs.declared.open.OpenFile.{OpenFile}
use Rattle.client_mds_calls.specs.declared.ask.MdsAsk.{MdsAsk}
use Rattle.client_mds_calls.specs.declared.ask.MdsAsk.TheVariants as ask
use Rattle.client_mds_calls.specs.MdsCalls.{MdsCallValue, ExchangeId, CreateSession, OnSlot, SlotCallValue}
use Rattle.client_mds_calls.specs.MdsCalls as slot
use Rattle.client_state.specs.declared.request.UserRequest.{UserRequest}
use Rattle.client_state.specs.declared.request.UserRequest.TheVariants.{Open, Write, Through, Commit, Read, Return}
use Rattle.client_state.specs.declared.layout.Layout.{Layout}
use Rattle.client_state.specs.declared.tie.Tie.{Tie}
use Rattle.client_state.specs.declared.tie.Tie.TheVariants.{NoClient, HasClient, HasSession}
use Rattle.client_state.specs.ClientStates.{ClientValue, client_name}
use Rattle.client_state.specs.ClientQueue.{knows, unknown_in}
use Rattle.client_state.specs.ClientSends.{CallsServer, CallsMds}
use Rattle.client_calls.specs.ClientCalls.{xid_after, failed_mirrors, open_call, through_call, devices_call, return_call, file_call, on_slot, session_call, call_by_ask}
use Rattle.mirror_client.specs.ClientRule.{mirror_of_place}
use Rattle.client_laws.specs.ClientHistory.{HistoryItem}
use Rattle.client_laws.proofs.NextSent.{Sending, sending}
use Rattle.client_laws.proofs.Stands.{IfThere, writer_ids}
use Rattle.client_records.specs.ClientRecords.{HasSpelling}
use Rattle.client_records.proofs.AnswersFit.{IsStateidInRange, IsMirrorInRange}
use Rattle.client_records.proofs.CompoundsFit.{IsSlotCallInRange, IsCallInRange, compound_fits}
use Rattle.client_records.proofs.Cases.{HeadThrough, Wants, IsDue, Anew, Returns, ByHead, Renews}
use Rattle.client_records.proofs.Ranges.{AreRequestsInRange, IsTieInRange, IsWriteInRange, IsIdInRange, IsLayoutInRange, IsKindInRange, InRange, all_there}

-- ---- numbers and names

pub next_fits : (n : ℕ) → n < 2 ^ 32 → xid_after n < 2 ^ 32
next_fits n small = by_test (n == 4294967295) refl
  where
    true_false : true ≡ false → ⊥
    true_false e = absurd cc

    by_test : (b : Bool) → (n == 4294967295) ≡ b → (if b then 0 else n + 1) < 2 ^ 32
    by_test true last = omega arith
    by_test false last = omega (arith, small, λ (same : n ≡ 4294967295). true_false (sym (eq-eqb n 4294967295 same) ∙ last))

pub name_short : (number : ℕ) → number < 2 ^ 32 → length (client_name number) ≤ 255
name_short number small = omega (arith, length-append (codes "c") (decimal number), length-decimal-le 10 number (omega arith) (omega (arith, small)) (omega (arith, small)))

-- ---- a call to a data server

write_speaks : (id : MirrorId) → id.fileid < 2 ^ 64 → (o : Option TakenWrite) → IfThere o IsWriteInRange → (call : DsCallValue) → write_of_taken id o ≡ Some call → IsSpeakable call
write_speaks id fits None write call is = absurd (none-some call is)
write_speaks id fits (Some t) write call is = subst IsSpeakable (same_Some _ call is) (fits, write.0, write.1)

taken_there : (taken : List TakenWrite) (n : ℕ) → AllByRecursion IsWriteInRange taken → (o : Option TakenWrite) → slice_get taken n ≡ o → IfThere o IsWriteInRange
taken_there taken n all None at = tt
taken_there taken n all (Some t) at = all_there IsWriteInRange taken n t all at

call_speaks : (w : WriterValue) (id : MirrorId) → id.fileid < 2 ^ 64 → AllByRecursion IsWriteInRange w.taken → (next : NextCall) (call : DsCallValue) → call_for w id next ≡ Some call → IsSpeakable call
call_speaks w id fits all (SendsWrite n) call is = write_speaks id fits (slice_get w.taken n) (taken_there w.taken n all (slice_get w.taken n) refl) call is
call_speaks w id fits all SendsCommit call is = subst IsSpeakable (same_Some _ call is) fits

pub call_spelled : (past : List HistoryItem) (c : ClientValue) (l : Layout) (s : WriterSends) → InRange past c → IsLayoutInRange l → next_sent l.writer c.next_xid ≡ Some s → HasSpelling (CallsServer s.id.server c.next_xid c.name l.writer.cred s.call)
call_spelled past c l s i ranges is =
    let how : Sending l.writer c.next_xid s = sending l.writer c.next_xid s is in
    let id_fits : how.mirror.id.fileid < 2 ^ 64 = all_there IsIdInRange (writer_ids l.writer) how.place how.mirror.id ranges.ids_fit (slice_get-map (λ (m : WriterMirror). m.id) l.writer.mirrors how.place ∙ ap (option_map (λ (m : WriterMirror). m.id)) how.found) in
    record {
      xid_fits = i.next_fits;
      machine_fits = i.name_fits;
      user_fits = ranges.cred_fits;
      call_fits = call_speaks l.writer how.mirror.id id_fits ranges.taken_fit how.next s.call how.call_is;
    }

pub stray_spelled : (past : List HistoryItem) (c : ClientValue) (l : Layout) (place at : ℕ) (bytes : List ℕ) (m : Mirror) → InRange past c → IsLayoutInRange l → at ≤ MAX_FILE → length bytes ≤ PIECE_SIZE → mirror_of_place l.mirrors place ≡ Some m
    → HasSpelling (CallsServer m.id.server c.next_xid c.name l.writer.cred (ds.Write m.id.fileid at false bytes))
stray_spelled past c l place at bytes m i ranges within small is = record {
  xid_fits = i.next_fits;
  machine_fits = i.name_fits;
  user_fits = ranges.cred_fits;
  call_fits = (by_test (place == 0) is, omega (arith, within), omega (arith, small));
}
  where
    by_test : (b : Bool) → (if b then None else slice_get l.mirrors (place - 1)) ≡ Some m → m.id.fileid < 2 ^ 64
    by_test true is = absurd (none-some m is)
    by_test false is = all_there IsMirrorInRange l.mirrors (place - 1) m ranges.mirrors_fit is

-- ---- a compound

open_fits : (name : List ℕ) → length name ≤ 255 → (queue : List UserRequest) → AreRequestsInRange queue → IfThere (open_call queue) (IsSlotCallInRange name)
open_fits name short [] all = tt
open_fits name short (Open file ∷ rest) all = (omega (arith, short), omega (arith, all.0))
open_fits name short (Write at bytes ∷ rest) all = tt
open_fits name short (Through at bytes ∷ rest) all = tt
open_fits name short (Commit ∷ rest) all = tt
open_fits name short (Read at count ∷ rest) all = tt
open_fits name short (Return ∷ rest) all = tt

through_fits : (name : List ℕ) (file : OpenFile) → IsStateidInRange file.stateid → (queue : List UserRequest) → AreRequestsInRange queue → HeadThrough (Some file) queue → IfThere (through_call file queue) (IsSlotCallInRange name)
through_fits name file fits [] all head = absurd head
through_fits name file fits (Through at bytes ∷ rest) all head = (fits, omega (arith, ltb-false MAX_FILE (at + length bytes) head), omega (arith, all.0))
through_fits name file fits (Open other ∷ rest) all head = absurd head
through_fits name file fits (Write at bytes ∷ rest) all head = absurd head
through_fits name file fits (Commit ∷ rest) all head = absurd head
through_fits name file fits (Read at count ∷ rest) all head = absurd head
through_fits name file fits (Return ∷ rest) all head = absurd head

unknown_few : (devices : List (DeviceId × NetAddr)) (mirrors : List Mirror) → length (unknown_in devices mirrors) ≤ length mirrors
unknown_few devices [] = omega arith
unknown_few devices (m ∷ mirrors) = by_test (knows devices m.id.server) (unknown_few devices mirrors)
  where
    by_test : (b : Bool) → length (unknown_in devices mirrors) ≤ length mirrors → length (if b then unknown_in devices mirrors else m.id.server ∷ unknown_in devices mirrors) ≤ length (m ∷ mirrors)
    by_test true few = omega (arith, few)
    by_test false few = omega (arith, few)

devices_fit : (name : List ℕ) (c : ClientValue) (layout : Option Layout) → IfThere layout IsLayoutInRange → IfThere (devices_call c layout) (IsSlotCallInRange name)
devices_fit name c None ranges = tt
devices_fit name c (Some l) ranges = omega (arith, unknown_few c.devices l.mirrors, ranges.few)

failed_few : (mirrors : List Mirror) (statuses : List (Option ℕ)) → length (failed_mirrors mirrors statuses) ≤ length mirrors
failed_few [] [] = omega arith
failed_few [] (status ∷ statuses) = omega arith
failed_few (m ∷ mirrors) [] = omega arith
failed_few (m ∷ mirrors) (None ∷ statuses) = omega (arith, failed_few mirrors statuses)
failed_few (m ∷ mirrors) (Some status ∷ statuses) = omega (arith, failed_few mirrors statuses)

return_fits : (name : List ℕ) (file : OpenFile) (layout : Option Layout) → IfThere layout IsLayoutInRange → IfThere (return_call file layout) (IsSlotCallInRange name)
return_fits name file None ranges = tt
return_fits name file (Some l) ranges = (ranges.stateid_fits, omega (arith, failed_few l.mirrors l.statuses, ranges.few))

-- a call on the slot
slot_so : (name : List ℕ) (tie : Tie) → IsTieInRange tie → (o : Option SlotCallValue) → IfThere o (IsSlotCallInRange name) → (call : MdsCallValue) → on_slot tie o ≡ Some call → IsCallInRange name call
slot_so name NoClient fits o its call is = absurd (none-some call is)
slot_so name (HasClient clientid sequence) fits o its call is = absurd (none-some call is)
slot_so name (HasSession s) fits None its call is = absurd (none-some call is)
slot_so name (HasSession s) fits (Some k) its call is = subst (IsCallInRange name) (same_Some _ call is) (fits.0, fits.1, its)

session_so : (name : List ℕ) (tie : Tie) → IsTieInRange tie → (call : MdsCallValue) → session_call tie ≡ Some call → IsCallInRange name call
session_so name NoClient fits call is = absurd (none-some call is)
session_so name (HasClient clientid sequence) fits call is = subst (IsCallInRange name) (same_Some _ call is) fits
session_so name (HasSession s) fits call is = absurd (none-some call is)

module _ (past : List HistoryItem) (c : ClientValue) (i : InRange past c) where
  file_so : (kind : MdsAsk) → ((f : OpenFile) → IsStateidInRange f.stateid → IsKindInRange (Some f) c.queue kind → IfThere (file_call c (Some f) kind) (IsSlotCallInRange c.name)) → (file : Option OpenFile) → IfThere file (λ f. IsStateidInRange f.stateid)
      → IsKindInRange file c.queue kind → IfThere (file_call c file kind) (IsSlotCallInRange c.name)
  file_so kind each None fits its = tt
  file_so kind each (Some f) fits its = each f fits its

  call_in_range : (kind : MdsAsk) (call : MdsCallValue) → IsKindInRange c.file c.queue kind → call_by_ask c kind ≡ Some call → IsCallInRange c.name call
  call_in_range ask.ExchangeId call its is = subst (IsCallInRange c.name) (same_Some _ call is) (i.verifier_fits, omega (arith, i.name_fits))
  call_in_range ask.CreateSession call its is = session_so c.name c.tie i.tie_fits call is
  call_in_range ask.ReclaimComplete call its is = slot_so c.name c.tie i.tie_fits (Some slot.ReclaimComplete) tt call is
  call_in_range ask.Open call its is = slot_so c.name c.tie i.tie_fits (open_call c.queue) (open_fits c.name i.name_fits c.queue i.queue_fits) call is
  call_in_range ask.LayoutGet call its is = slot_so c.name c.tie i.tie_fits (file_call c c.file ask.LayoutGet) (file_so ask.LayoutGet (λ f fits kind. fits) c.file i.file_fits its) call is
  call_in_range (ask.DeviceInfo count) call its is =
      slot_so c.name c.tie i.tie_fits (file_call c c.file (ask.DeviceInfo count)) (file_so (ask.DeviceInfo count) (λ f fits kind. devices_fit c.name c c.layout i.layout_fits) c.file i.file_fits its) call is
  call_in_range ask.Write call its is = slot_so c.name c.tie i.tie_fits (file_call c c.file ask.Write) (file_so ask.Write (λ f fits kind. through_fits c.name f fits c.queue i.queue_fits kind) c.file i.file_fits its) call is
  call_in_range (ask.Read at count) call its is =
      slot_so c.name c.tie i.tie_fits (file_call c c.file (ask.Read at count)) (file_so (ask.Read at count) (λ f fits kind. (fits, omega (arith, kind.0), omega (arith, kind.1))) c.file i.file_fits its) call is
  call_in_range ask.LayoutReturn call its is = slot_so c.name c.tie i.tie_fits (file_call c c.file ask.LayoutReturn) (file_so ask.LayoutReturn (λ f fits kind. return_fits c.name f c.layout i.layout_fits) c.file i.file_fits its) call is
  call_in_range ask.Renew call its is = slot_so c.name c.tie i.tie_fits (Some slot.Renew) tt call is

  pub compound_spelled : (kind : MdsAsk) (call : MdsCallValue) → IsKindInRange c.file c.queue kind → call_by_ask c kind ≡ Some call → HasSpelling (CallsMds c.next_xid c.name call)
  compound_spelled kind call its is = record { xid_fits = i.next_fits; ops_fit = compound_fits c.name call (call_in_range kind call its is) }

  -- what goes out is in range
  wanted_fits : (kind : MdsAsk) → Wants c.file c.queue c.layout c.tie c.devices kind → IsKindInRange c.file c.queue kind
  wanted_fits ask.Write w = w
  wanted_fits (ask.Read at count) (rest, queue) = of_head (subst AreRequestsInRange queue i.queue_fits)
    where
      of_head : AreRequestsInRange (Read at count ∷ rest) → (at ≤ MAX_FILE) × (count ≤ PIECE_SIZE)
      of_head all = all.0
  wanted_fits ask.ExchangeId w = tt
  wanted_fits ask.CreateSession w = tt
  wanted_fits ask.ReclaimComplete w = tt
  wanted_fits ask.Open w = tt
  wanted_fits ask.LayoutGet w = tt
  wanted_fits (ask.DeviceInfo count) w = tt
  wanted_fits ask.LayoutReturn w = tt
  wanted_fits ask.Renew w = tt

  pub due_fits : (kind : MdsAsk) → IsDue c kind → IsKindInRange c.file c.queue kind
  due_fits kind (Anew at) = subst (λ (o : Option MdsAsk). IfThere o (IsKindInRange c.file c.queue)) at i.again_fits
  due_fits kind (Returns l at ending settled is) = subst (IsKindInRange c.file c.queue) (sym is) tt
  due_fits kind (ByHead w) = wanted_fits kind w
  due_fits kind (Renews is) = subst (IsKindInRange c.file c.queue) (sym is) tt
