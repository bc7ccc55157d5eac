-- The compound that is made of what is asked.
use Rattle.std.proofs.Common.{◌≡◌, ℕ, Bool, true, false, List, [], ◌∷◌, length, Option, Some, None, refl, sym, ap, subst, ◌∙◌, inl, inr, ◌⊎◌}
use Rattle.std.specs.Prelude.{if◌then◌else◌}
use Rattle.std.proofs.lemmas.Option.{none-some, same_Some}
use Rattle.nfs4_types.specs.declared.ids.DeviceId.{DeviceId}
use Rattle.nfs4_types.specs.declared.ids.SessionId.{SessionId}
use Rattle.nfs4_types.specs.declared.stateid.Stateid.{Stateid}
use Rattle.device_addr.specs.declared.net_addr.NetAddr.{NetAddr}
use Rattle.cluster_model.specs.declared.ids.FileId.{FileId}
use Rattle.client_file_calls.specs.declared.open.OpenFile.{OpenFile}
use Rattle.client_file_calls.specs.declared.layout_return.FailedMirror.{FailedMirror}
use Rattle.client_mds_calls.specs.declared.ask.MdsAsk.{MdsAsk}
use Rattle.client_mds_calls.specs.declared.ask.MdsAsk.TheVariants as ask
use Rattle.client_mds_calls.specs.MdsCalls.{MdsCallValue, ExchangeId, CreateSession, OnSlot, SlotCallValue, ask_on_slot, ask_of, takes_slot}
use Rattle.client_mds_calls.specs.MdsCalls as slot
use Rattle.client_state.specs.declared.request.UserRequest.{UserRequest}
use Rattle.client_state.specs.declared.request.UserRequest.TheVariants.{Open, Write, Through, Commit, Read, Return}
use Rattle.client_state.specs.declared.layout.Layout.{Layout}
use Rattle.client_state.specs.declared.tie.OwnSession.{OwnSession}
use Rattle.client_state.specs.declared.tie.Tie.{Tie}
use Rattle.client_state.specs.declared.tie.Tie.TheVariants.{NoClient, HasClient, HasSession}
use Rattle.client_state.specs.ClientStates.{ClientValue}
use Rattle.client_state.specs.ClientQueue.{unknown_servers, opens_by}
use Rattle.client_calls.specs.ClientCalls.{failed_mirrors, open_call, through_call, devices_call, return_call, file_call, slot_call, on_slot, session_call, call_by_ask}
use Rattle.client_records.proofs.Cases.{IsCounted, Wants, IsDue, Anew, Returns, ByHead, Renews}
use Rattle.client_sessions.specs.ClientSessions.{IsAskedAs}

-- ---- by what the client is

-- of this session, with this number next
abbrev pub IsOnSession : Tie → SessionId → ℕ → Type 0
IsOnSession (HasSession s) session sequence = (s.id ≡ session) × (s.next ≡ sequence)
IsOnSession tie session sequence = ⊥

-- a compound is asked by a client that stands so
abbrev pub IsBy : Tie → MdsCallValue → Type 0
IsBy tie (ExchangeId verifier) = tie ≡ NoClient
IsBy tie (CreateSession clientid sequence) = tie ≡ HasClient clientid sequence
IsBy tie (OnSlot session sequence call) = IsOnSession tie session sequence

-- a LAYOUTGET is of the open file, a LAYOUTRETURN of it and of the layout
abbrev pub IsReturnOf : Option OpenFile → Option Layout → FileId → Stateid → List FailedMirror → Type 0
IsReturnOf (Some f) (Some l) file stateid failed = (file ≡ f.file) × (stateid ≡ l.stateid) × (failed ≡ failed_mirrors l.mirrors l.statuses)
IsReturnOf file layout id stateid failed = ⊥

abbrev pub IsSlotOf : Option OpenFile → Option Layout → SlotCallValue → Type 0
IsSlotOf file layout (slot.LayoutGet f) = file ≡ Some f
IsSlotOf file layout (slot.LayoutReturn id stateid failed) = IsReturnOf file layout id stateid failed
IsSlotOf file layout call = Unit {0}

abbrev pub IsCallOf : Option OpenFile → Option Layout → MdsCallValue → Type 0
IsCallOf file layout (OnSlot session sequence call) = IsSlotOf file layout call
IsCallOf file layout call = Unit {0}

pub record IsMade (c : ClientValue) (kind : MdsAsk) (call : MdsCallValue) : Type 0 where
  pub kind_is : ask_of call ≡ kind
  pub by : IsBy c.tie call
  pub who : IsAskedAs c.verifier call
  pub its : IsCallOf c.file c.layout call

-- ---- what is asked, by where the client stands

-- no layout is asked for where there is one, no file is opened where one is, and so many devices are asked for as are not known
abbrev pub KindStands : Option OpenFile → Option Layout → List (DeviceId × NetAddr) → MdsAsk → Type 0
KindStands file layout devices ask.LayoutGet = layout ≡ None
KindStands file layout devices ask.Open = file ≡ None
KindStands file layout devices (ask.DeviceInfo count) = IsCounted devices count layout
KindStands file layout devices kind = Unit {0}

-- what needs no slot is asked by a client without a session
abbrev pub IsFirst : Tie → MdsAsk → Type 0
IsFirst tie kind = takes_slot kind ≡ false → opens_by tie ≡ kind

pub wanted_stands : (c : ClientValue) (kind : MdsAsk) → Wants c.file c.queue c.layout c.tie c.devices kind → KindStands c.file c.layout c.devices kind × IsFirst c.tie kind
wanted_stands c ask.ExchangeId w = (tt, λ is. w.1)
wanted_stands c ask.CreateSession w = (tt, λ is. w.1)
wanted_stands c ask.ReclaimComplete w = (tt, λ is. absurd cc)
wanted_stands c ask.Open w = (w.0, λ is. absurd cc)
wanted_stands c ask.LayoutGet w = (w, λ is. absurd cc)
wanted_stands c (ask.DeviceInfo count) w = (w, λ is. absurd cc)
wanted_stands c ask.Write w = (tt, λ is. absurd cc)
wanted_stands c (ask.Read at count) w = (tt, λ is. absurd cc)
wanted_stands c ask.LayoutReturn w = absurd w
wanted_stands c ask.Renew w = absurd w

-- what goes out anew stands so and takes a slot
pub due_stands : (c : ClientValue) (kind : MdsAsk) → IsDue c kind → ((k : MdsAsk) → c.again ≡ Some k → KindStands c.file c.layout c.devices k × (takes_slot k ≡ true)) → KindStands c.file c.layout c.devices kind × IsFirst c.tie kind
due_stands c kind (Anew at) again = ((again kind at).0, λ is. absurd (not_both (takes_slot kind) (again kind at).1 is))
  where
    not_both : (b : Bool) → b ≡ true → b ≡ false → ⊥
    not_both true is other = absurd cc
    not_both false is other = absurd cc
due_stands c kind (Returns l at ending settled is) again = subst (λ (k : MdsAsk). KindStands c.file c.layout c.devices k × IsFirst c.tie k) (sym is) (tt, λ is. absurd cc)
due_stands c kind (ByHead w) again = wanted_stands c kind w
due_stands c kind (Renews is) again = subst (λ (k : MdsAsk). KindStands c.file c.layout c.devices k × IsFirst c.tie k) (sym is) (tt, λ is. absurd cc)

-- ---- what is made

opens_none : (tie : Tie) → opens_by tie ≡ ask.ExchangeId → tie ≡ NoClient
opens_none NoClient is = refl
opens_none (HasClient clientid sequence) is = absurd cc
opens_none (HasSession s) is = absurd (by_flag s.is_complete is)
  where
    by_flag : (b : Bool) → (if b then ask.Open else ask.ReclaimComplete) ≡ ask.ExchangeId → ⊥
    by_flag true is = absurd cc
    by_flag false is = absurd cc

slot_so : (c : ClientValue) (kind : MdsAsk) (o : Option SlotCallValue) → ((k : SlotCallValue) → o ≡ Some k → (ask_on_slot k ≡ kind) × IsSlotOf c.file c.layout k) → (tie : Tie) → c.tie ≡ tie → (call : MdsCallValue) → on_slot tie o ≡ Some call → IsMade c kind call
slot_so c kind o made NoClient at call is = absurd (none-some call is)
slot_so c kind o made (HasClient clientid sequence) at call is = absurd (none-some call is)
slot_so c kind None made (HasSession s) at call is = absurd (none-some call is)
slot_so c kind (Some k) made (HasSession s) at call is =
    subst (IsMade c kind) (same_Some (OnSlot s.id s.next k) call is) (record { kind_is = (made k refl).0; by = subst (λ (t : Tie). IsOnSession t s.id s.next) (sym at) (refl, refl); who = tt; its = (made k refl).1 })

open_so : (c : ClientValue) (queue : List UserRequest) (k : SlotCallValue) → open_call queue ≡ Some k → (ask_on_slot k ≡ ask.Open) × IsSlotOf c.file c.layout k
open_so c [] k is = absurd (none-some k is)
open_so c (Open name ∷ rest) k is = subst (λ (k : SlotCallValue). (ask_on_slot k ≡ ask.Open) × IsSlotOf c.file c.layout k) (same_Some _ k is) (refl, tt)
open_so c (Write at bytes ∷ rest) k is = absurd (none-some k is)
open_so c (Through at bytes ∷ rest) k is = absurd (none-some k is)
open_so c (Commit ∷ rest) k is = absurd (none-some k is)
open_so c (Read at count ∷ rest) k is = absurd (none-some k is)
open_so c (Return ∷ rest) k is = absurd (none-some k is)

through_so : (c : ClientValue) (file : OpenFile) (queue : List UserRequest) (k : SlotCallValue) → through_call file queue ≡ Some k → (ask_on_slot k ≡ ask.Write) × IsSlotOf c.file c.layout k
through_so c file [] k is = absurd (none-some k is)
through_so c file (Through at bytes ∷ rest) k is = subst (λ (k : SlotCallValue). (ask_on_slot k ≡ ask.Write) × IsSlotOf c.file c.layout k) (same_Some _ k is) (refl, tt)
through_so c file (Open name ∷ rest) k is = absurd (none-some k is)
through_so c file (Write at bytes ∷ rest) k is = absurd (none-some k is)
through_so c file (Commit ∷ rest) k is = absurd (none-some k is)
through_so c file (Read at count ∷ rest) k is = absurd (none-some k is)
through_so c file (Return ∷ rest) k is = absurd (none-some k is)

devices_so : (c : ClientValue) (count : ℕ) (layout : Option Layout) → IsCounted c.devices count layout → (k : SlotCallValue) → devices_call c layout ≡ Some k → (ask_on_slot k ≡ ask.DeviceInfo count) × IsSlotOf c.file c.layout k
devices_so c count None counted k is = absurd (none-some k is)
devices_so c count (Some l) counted k is =
    subst (λ (k : SlotCallValue). (ask_on_slot k ≡ ask.DeviceInfo count) × IsSlotOf c.file c.layout k) (same_Some (slot.DeviceInfo (unknown_servers c l)) k is) (ap ask.DeviceInfo (sym counted), tt)

return_so : (c : ClientValue) (file : OpenFile) → c.file ≡ Some file → (layout : Option Layout) → c.layout ≡ layout → (k : SlotCallValue) → return_call file layout ≡ Some k → (ask_on_slot k ≡ ask.LayoutReturn) × IsSlotOf c.file c.layout k
return_so c file there None at k is = absurd (none-some k is)
return_so c file there (Some l) at k is =
    subst (λ (k : SlotCallValue). (ask_on_slot k ≡ ask.LayoutReturn) × IsSlotOf c.file c.layout k) (same_Some (slot.LayoutReturn file.file l.stateid (failed_mirrors l.mirrors l.statuses)) k is)
    (refl, subst (λ (o : Option OpenFile). IsReturnOf o c.layout file.file l.stateid (failed_mirrors l.mirrors l.statuses)) (sym there) (subst (λ (o : Option Layout). IsReturnOf (Some file) o file.file l.stateid (failed_mirrors l.mirrors l.statuses)) (sym at) (refl, refl, refl)))

module _ (c : ClientValue) (call : MdsCallValue) where
  on_file : (kind : MdsAsk) → ((f : OpenFile) → c.file ≡ Some f → (k : SlotCallValue) → file_call c (Some f) kind ≡ Some k → (ask_on_slot k ≡ kind) × IsSlotOf c.file c.layout k) → (file : Option OpenFile) → c.file ≡ file
      → (k : SlotCallValue) → file_call c file kind ≡ Some k → (ask_on_slot k ≡ kind) × IsSlotOf c.file c.layout k
  on_file kind each None at k is = absurd (none-some k is)
  on_file kind each (Some f) at k is = each f at k is

  session_so : (tie : Tie) → c.tie ≡ tie → session_call tie ≡ Some call → IsMade c ask.CreateSession call
  session_so NoClient at is = absurd (none-some call is)
  session_so (HasClient clientid sequence) at is = subst (IsMade c ask.CreateSession) (same_Some _ call is) (record { kind_is = refl; by = at; who = tt; its = tt })
  session_so (HasSession s) at is = absurd (none-some call is)

  pub is_made : (kind : MdsAsk) → call_by_ask c kind ≡ Some call → KindStands c.file c.layout c.devices kind → (takes_slot kind ≡ false → opens_by c.tie ≡ kind) → IsMade c kind call
  is_made ask.ExchangeId is stands first = subst (IsMade c ask.ExchangeId) (same_Some _ call is) (record { kind_is = refl; by = opens_none c.tie (first refl); who = refl; its = tt })
  is_made ask.CreateSession is stands first = session_so c.tie refl is
  is_made ask.ReclaimComplete is stands first =
      slot_so c ask.ReclaimComplete (Some slot.ReclaimComplete) (λ k at. subst (λ (k : SlotCallValue). (ask_on_slot k ≡ ask.ReclaimComplete) × IsSlotOf c.file c.layout k) (same_Some _ k at) (refl, tt)) c.tie refl call is
  is_made ask.Open is stands first = slot_so c ask.Open (open_call c.queue) (open_so c c.queue) c.tie refl call is
  is_made ask.LayoutGet is stands first =
      slot_so c ask.LayoutGet (file_call c c.file ask.LayoutGet)
      (on_file ask.LayoutGet (λ f there k at. subst (λ (k : SlotCallValue). (ask_on_slot k ≡ ask.LayoutGet) × IsSlotOf c.file c.layout k) (same_Some _ k at) (refl, there)) c.file refl) c.tie refl call is
  is_made (ask.DeviceInfo count) is stands first =
      slot_so c (ask.DeviceInfo count) (file_call c c.file (ask.DeviceInfo count)) (on_file (ask.DeviceInfo count) (λ f there. devices_so c count c.layout stands) c.file refl) c.tie refl call is
  is_made ask.Write is stands first = slot_so c ask.Write (file_call c c.file ask.Write) (on_file ask.Write (λ f there. through_so c f c.queue) c.file refl) c.tie refl call is
  is_made (ask.Read at count) is stands first =
      slot_so c (ask.Read at count) (file_call c c.file (ask.Read at count))
      (on_file (ask.Read at count) (λ f there k its. subst (λ (k : SlotCallValue). (ask_on_slot k ≡ ask.Read at count) × IsSlotOf c.file c.layout k) (same_Some _ k its) (refl, tt)) c.file refl) c.tie refl call is
  is_made ask.LayoutReturn is stands first =
      slot_so c ask.LayoutReturn (file_call c c.file ask.LayoutReturn) (on_file ask.LayoutReturn (λ f there. return_so c f there c.layout refl) c.file refl) c.tie refl call is
  is_made ask.Renew is stands first =
      slot_so c ask.Renew (Some slot.Renew) (λ k at. subst (λ (k : SlotCallValue). (ask_on_slot k ≡ ask.Renew) × IsSlotOf c.file c.layout k) (same_Some _ k at) (refl, tt)) c.tie refl call is

-- ---- the other way round

-- a call by the kind that it has
pub exchange_so : (call : MdsCallValue) → ask_of call ≡ ask.ExchangeId → (verifier : ℕ) × (call ≡ ExchangeId verifier)
exchange_so (ExchangeId verifier) is = (verifier, refl)
exchange_so (CreateSession clientid sequence) is = absurd cc
exchange_so (OnSlot session sequence call) is = absurd (none_so call is)
  where
    none_so : (call : SlotCallValue) → ask_on_slot call ≡ ask.ExchangeId → ⊥
    none_so slot.ReclaimComplete is = absurd cc
    none_so (slot.Open name) is = absurd cc
    none_so (slot.LayoutGet file) is = absurd cc
    none_so (slot.DeviceInfo servers) is = absurd cc
    none_so (slot.Write file at bytes) is = absurd cc
    none_so (slot.Read file at count) is = absurd cc
    none_so (slot.LayoutReturn file stateid failed) is = absurd cc
    none_so slot.Renew is = absurd cc

pub create_so : (call : MdsCallValue) → ask_of call ≡ ask.CreateSession → (clientid : ℕ) × (sequence : ℕ) × (call ≡ CreateSession clientid sequence)
create_so (CreateSession clientid sequence) is = (clientid, sequence, refl)
create_so (ExchangeId verifier) is = absurd cc
create_so (OnSlot session sequence call) is = absurd (none_so call is)
  where
    none_so : (call : SlotCallValue) → ask_on_slot call ≡ ask.CreateSession → ⊥
    none_so slot.ReclaimComplete is = absurd cc
    none_so (slot.Open name) is = absurd cc
    none_so (slot.LayoutGet file) is = absurd cc
    none_so (slot.DeviceInfo servers) is = absurd cc
    none_so (slot.Write file at bytes) is = absurd cc
    none_so (slot.Read file at count) is = absurd cc
    none_so (slot.LayoutReturn file stateid failed) is = absurd cc
    none_so slot.Renew is = absurd cc
