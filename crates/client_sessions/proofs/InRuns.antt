-- What a client asks for, gives back and enters in each of its runs.
use Rattle.std.proofs.Common.{ℕ, List, [], ◌∷◌, ◌++◌, refl}
use Rattle.cluster_model.specs.declared.entry.Entry.{Entry}
use Rattle.cluster_model.specs.declared.entry.Entry.TheVariants as entry
use Rattle.cluster_model.specs.declared.entry.Entry.TheVariants.{Sent, Rogue, Told}
use Rattle.client_state.specs.ClientStates.{fresh_client}
use Rattle.client_state.specs.ClientSends.{CallsServer, CallsMds, RepeatsToServer, RepeatsToMds, RepliesToMds}
use Rattle.client_laws.specs.ClientHistory.{ClientInput, HistoryItem, Hears, Enters, Sends, client_history, Each}
use Rattle.client_laws.specs.ClientRunLaws.{InEachRun}
use Rattle.client_laws.proofs.Orders.{each_weaker}
use Rattle.client_records.proofs.EachRun.{any_inputs, in_each_run}
use Rattle.client_sessions.specs.ClientSessions.{SaysWho, KeepsSlot, EachRunSaysWho}
use Rattle.client_sessions.specs.LayoutEnds.{AsksForOne, ReturnsOwn, EntersUnder, EntersGranted, CallsGranted}
use Rattle.client_sessions.specs.EnteredFiles.{EntersForFile}
use Rattle.client_sessions.proofs.Slots.{Slots}
use Rattle.client_sessions.proofs.SlotCases.{slot_cases}
use Rattle.client_sessions.proofs.LayoutsHeld.{Layouts}
use Rattle.client_sessions.proofs.LayoutSteps.{HeldEntry, SaysHeld, Holds}
use Rattle.client_sessions.proofs.LayoutCases.{layout_cases}
use Rattle.client_sessions.proofs.UntoldStands.{Untold}
use Rattle.client_sessions.proofs.ToldOf.{ToldEntry, TellsHeld}
use Rattle.client_sessions.proofs.ToldCases.{HoldsUntold, told_cases}

abbrev Any : ClientInput → Type 0
Any input = Unit {0}

module _ (number verifier first_xid : ℕ) where
  fresh_slots : Slots number verifier [] (fresh_client number verifier first_xid)
  fresh_slots = record { name_is = refl; own_is = refl; stands = tt; asked_kind = tt; again_kind = tt; alone = tt }

  fresh_layouts : Layouts [] (fresh_client number verifier first_xid)
  fresh_layouts = record { held = 0; layout_of = tt; settles = λ xid name session sequence other i. absurd i; left = λ stays. tt }

  fresh_untold : Untold [] (fresh_client number verifier first_xid)
  fresh_untold = record { layout_of = tt; out_of = tt }

  slots_in : (inputs : List ClientInput) → Each (λ past item. SaysWho number verifier past item × KeepsSlot past item) [] (client_history (fresh_client number verifier first_xid) inputs)
  slots_in inputs = (in_each_run Any (Slots number verifier) (λ past item. SaysWho number verifier past item × KeepsSlot past item) (slot_cases number verifier) number verifier first_xid inputs (any_inputs inputs) fresh_slots).each

  held_in : (inputs : List ClientInput) → Each SaysHeld [] (client_history (fresh_client number verifier first_xid) inputs)
  held_in inputs = (in_each_run Any (Holds number verifier) SaysHeld (layout_cases number verifier) number verifier first_xid inputs (any_inputs inputs) (fresh_slots, fresh_layouts)).each

  told_in : (inputs : List ClientInput) → Each TellsHeld [] (client_history (fresh_client number verifier first_xid) inputs)
  told_in inputs = (in_each_run Any (HoldsUntold number verifier) TellsHeld (told_cases number verifier) number verifier first_xid inputs (any_inputs inputs) (fresh_slots, fresh_untold)).each

-- ---- who it is, its slot, and its layouts

pub says_who : EachRunSaysWho
says_who number verifier first_xid inputs =
    each_weaker (λ past item. SaysWho number verifier past item × KeepsSlot past item) (SaysWho number verifier) (λ past item so. so.0) [] (client_history (fresh_client number verifier first_xid) inputs) (slots_in number verifier first_xid inputs)

pub keeps_slot : InEachRun KeepsSlot
keeps_slot number verifier first_xid inputs =
    each_weaker (λ past item. SaysWho number verifier past item × KeepsSlot past item) KeepsSlot (λ past item so. so.1) [] (client_history (fresh_client number verifier first_xid) inputs) (slots_in number verifier first_xid inputs)

pub asks_for_one : InEachRun AsksForOne
asks_for_one number verifier first_xid inputs = each_weaker SaysHeld AsksForOne (λ past item so. so.0) [] (client_history (fresh_client number verifier first_xid) inputs) (held_in number verifier first_xid inputs)

pub returns_own : InEachRun ReturnsOwn
returns_own number verifier first_xid inputs = each_weaker SaysHeld ReturnsOwn (λ past item so. so.1) [] (client_history (fresh_client number verifier first_xid) inputs) (held_in number verifier first_xid inputs)

-- ---- what it enters

each_both : (P R : List HistoryItem → HistoryItem → Type 0) (past items : List HistoryItem) → Each P past items → Each R past items → Each (λ past item. P past item × R past item) past items
each_both P R past [] first second = tt
each_both P R past (item ∷ items) first second = ((first.0, second.0), each_both P R (past ++ item ∷ []) items first.1 second.1)

entry_granted : (past : List HistoryItem) (e : Entry) → HeldEntry past e → ToldEntry past e → EntersUnder past e
entry_granted past (entry.Packet number from to bytes) held told = tt
entry_granted past (entry.Delivered number) held told = tt
entry_granted past (entry.TimedOut node xid) held told = tt
entry_granted past (entry.Hold from to) held told = tt
entry_granted past (entry.Pass from to) held told = tt
entry_granted past (entry.Tick seconds) held told = tt
entry_granted past (entry.Granted file cred holder) held told = tt
entry_granted past (Sent file uid at bytes) held told = held
entry_granted past (Rogue file uid at bytes) held told = held
entry_granted past (entry.Turned client) held told = tt
entry_granted past (Told file uid at bytes) held told = told
entry_granted past (entry.Ended file cred cause) held told = tt
entry_granted past (entry.Left file mirror cause) held told = tt
entry_granted past (entry.Swapped file old new) held told = tt
entry_granted past (entry.Fenced file old new live) held told = tt
entry_granted past (entry.Free file live) held told = tt
entry_granted past (entry.Applied mirror cred at bytes) held told = tt
entry_granted past (entry.Committed mirror) held told = tt
entry_granted past (entry.Owner mirror cred) held told = tt
entry_granted past (entry.Restarted server pieces) held told = tt
entry_granted past (entry.ReadAnswer file status bytes) held told = tt
entry_granted past (entry.Failed mirror xid) held told = tt
entry_granted past (entry.Later file phase) held told = tt
entry_granted past (entry.Answer client answer) held told = tt
entry_granted past (entry.Audit file mirror length bytes) held told = tt
entry_granted past (entry.Rebooted client) held told = tt

item_granted : (past : List HistoryItem) (item : HistoryItem) → SaysHeld past item × TellsHeld past item → EntersGranted past item
item_granted past (Enters e) so = entry_granted past e so.0.2 so.1
item_granted past (Hears input) so = tt
item_granted past (Sends send) so = tt

pub enters_granted : InEachRun EntersGranted
enters_granted number verifier first_xid inputs =
    let history : List HistoryItem = client_history (fresh_client number verifier first_xid) inputs in
    each_weaker (λ past item. SaysHeld past item × TellsHeld past item) EntersGranted item_granted [] history (each_both SaysHeld TellsHeld [] history (held_in number verifier first_xid inputs) (told_in number verifier first_xid inputs))

pub enters_for_file : InEachRun EntersForFile
enters_for_file number verifier first_xid inputs = each_weaker SaysHeld EntersForFile (λ past item so. so.3) [] (client_history (fresh_client number verifier first_xid) inputs) (held_in number verifier first_xid inputs)

-- ---- whom it calls

item_called : (past : List HistoryItem) (item : HistoryItem) → SaysHeld past item → CallsGranted past item
item_called past (Enters e) so = tt
item_called past (Hears input) so = tt
item_called past (Sends (CallsServer server xid name uid call)) so = so.2
item_called past (Sends (CallsMds xid name call)) so = tt
item_called past (Sends (RepeatsToServer server xid name uid call)) so = tt
item_called past (Sends (RepeatsToMds xid message)) so = tt
item_called past (Sends (RepliesToMds reply)) so = tt

pub calls_granted : InEachRun CallsGranted
calls_granted number verifier first_xid inputs = each_weaker SaysHeld CallsGranted item_called [] (client_history (fresh_client number verifier first_xid) inputs) (held_in number verifier first_xid inputs)
