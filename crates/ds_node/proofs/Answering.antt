-- What a record that was answered, or not, has done.
use Rattle.std.proofs.Common.{◌≡◌, ℕ, Bool, eqb, List, [], ◌∷◌, ◌++◌, length, Option, Some, None, Result, Ok, Err, inl, inr, sym, ap, subst, ◌∙◌, arith}
use Rattle.std.proofs.lemmas.List.{length-append}
use Rattle.std.proofs.lemmas.Bool.{eq-eqb, ne_eqb}
use Rattle.cluster_model.specs.declared.ids.NodeId.{NodeId}
use Rattle.cluster_model.specs.Server.{ServerState}
use Rattle.rpc_record.specs.declared.stream.Failed.{Failed}
use Rattle.rpc_record.specs.declared.stream.Failed.TheVariants as failed
use Rattle.rpc_record.specs.Stream.{counted, one_more}
use Rattle.store_disk.specs.Disks.{DiskLife, both_faults}
use Rattle.twin_log.specs.LogCalls.{CountsTwins}
use Rattle.ds_files.specs.Records.{sent_to}
use Rattle.ds_store.specs.declared.fault.OpenCause.{OpenCause}
use Rattle.ds_store.specs.declared.fault.OpenCause.TheVariants as cause
use Rattle.ds_store.specs.declared.fault.StoreFault.{StoreFault}
use Rattle.ds_store.specs.declared.fault.StoreFault.TheVariants as store
use Rattle.ds_store.specs.Kept.{Becomes, IsLogOf, KeptState, LogsStep, SaysEither, SaysServer, SettlesCall, SpendsBy, TakesCall, TakesSince, WaitsSince, plain_fault}
use Rattle.ds_store.specs.Opens.{plain_open}
use Rattle.ff_node.specs.Nodes.{SentRecords}
use Rattle.ff_node.specs.Serve.{disk_counted, disk_faults}
use Rattle.ff_node.proofs.ServeLemmas.{both_first, both_second}
use Rattle.ds_store.proofs.BothDisks.{both_new, now_weaker}
use Rattle.ds_store.proofs.Waiting.{waits_from}
use Rattle.ds_node.specs.DsNodes.{IsUnspent, KeepsSettled, end_of_opening, event_fault, gives_none, server_leaves, settle_fault}

-- a reply is one record more
pub none_given : (old : SentRecords) (from : NodeId) (reply : Option (List ℕ)) (new : SentRecords) (before after : ℕ) → before ≡ length old → after ≡ length new → new ≡ old ++ sent_to from reply
    → eqb after before ≡ gives_none reply
none_given old from None new before after was is sends = eq-eqb after before (omega (arith, was, is, ap length sends, length-append old []))
none_given old from (Some reply) new before after was is sends = ne_eqb after before (λ same. absurd (omega (arith, same, was, is, ap length sends, length-append old ((from, reply) ∷ []))))

-- of a server that goes on
pub goes_on : {T : Type 0} (after : ServerState) (old : KeptState) (disk spare : Option DiskLife) (result : Result T StoreFault) (new : KeptState) (disk' spare' : Option DiskLife) → IsUnspent old
    → TakesCall old.spent after old disk spare result new disk' spare' → Becomes after old disk spare result new disk' spare'
goes_on {T = T} after old disk spare result new disk' spare' is takes = subst (λ (x : Option StoreFault). TakesCall {T = T} x after old disk spare result new disk' spare') is takes

pub settles_on : (old : KeptState) (disk spare : Option DiskLife) (result : Result (Unit {0}) StoreFault) (new : KeptState) (disk' spare' : Option DiskLife) → IsUnspent old → SettlesCall old.spent old disk spare result new disk' spare'
    → (new.server ≡ old.server) × SpendsBy result new.spent
settles_on old disk spare result new disk' spare' is settles = subst (λ (x : Option StoreFault). SettlesCall x old disk spare result new disk' spare') is settles

-- ---- what waits

-- a call that was taken waits with the others
pub keeps_on : {T : Type 0} (settled : ServerState) (old new : KeptState) (disk spare disk' spare' : Option DiskLife) (result : Result T StoreFault) (x : T) → result ≡ Ok x
    → ((s : ServerState) (began began_spare : Option DiskLife) → WaitsSince s old.server old.log began began_spare disk spare → TakesSince s began began_spare result new disk' spare')
    → KeepsSettled settled old disk spare → KeepsSettled settled new disk' spare'
keeps_on settled old new disk spare disk' spare' result x ok takes (began, began_spare, waits) = (began, began_spare, (takes settled began began_spare waits).waits x ok)

-- where one was not a crash leaves the settled server
pub leaves_settled : {T : Type 0} (settled broken : ServerState) (old new : KeptState) (disk spare disk' spare' : Option DiskLife) (result : Result T StoreFault)
    → ((s : ServerState) (began began_spare : Option DiskLife) → WaitsSince s old.server old.log began began_spare disk spare → TakesSince s began began_spare result new disk' spare')
    → KeepsSettled settled old disk spare → server_leaves settled broken disk' spare'
leaves_settled settled broken old new disk spare disk' spare' result takes (began, began_spare, waits) =
    now_weaker (SaysServer settled) (SaysEither settled broken) (λ left left_spare says. inl says) disk' spare'
    (both_new (SaysServer settled) began began_spare disk' spare' (takes settled began began_spare waits).since)

-- what waits was settled
pub keeps_settled : (settled : ServerState) (old new : KeptState) (disk spare disk' spare' : Option DiskLife) (result : Result (Unit {0}) StoreFault) (x : Unit {0}) → result ≡ Ok x → new.server ≡ old.server
    → ((s : ServerState) (began began_spare : Option DiskLife) → WaitsSince s old.server old.log began began_spare disk spare → LogsStep s old.server began began_spare result new.log disk' spare')
    → KeepsSettled settled old disk spare → KeepsSettled new.server new disk' spare'
keeps_settled settled old new disk spare disk' spare' result x ok same settles (began, began_spare, waits) =
    let holds : IsLogOf new.server new.log disk' spare' = subst (λ (s : ServerState). IsLogOf s new.log disk' spare') (sym same) ((settles settled began began_spare waits).kept x ok) in
    (disk', spare', waits_from new.server new.log disk' spare' holds)

-- or it was not, and a crash leaves the one server or the other
pub leaves_unsettled : (settled : ServerState) (old new : KeptState) (disk spare disk' spare' : Option DiskLife) (result : Result (Unit {0}) StoreFault)
    → ((s : ServerState) (began began_spare : Option DiskLife) → WaitsSince s old.server old.log began began_spare disk spare → LogsStep s old.server began began_spare result new.log disk' spare')
    → KeepsSettled settled old disk spare → server_leaves settled old.server disk' spare'
leaves_unsettled settled old new disk spare disk' spare' result settles (began, began_spare, waits) =
    both_new (SaysEither settled old.server) began began_spare disk' spare' (settles settled began began_spare waits).since

-- ---- counts of faults

-- the sum of the counts of both disks is counted as one
pub counts_sum : {T : Type 0} (r : Result T Failed) (d s d' s' : ℕ) → CountsTwins r d s d' s' → both_faults d' s' ≡ counted r (both_faults d s)
counts_sum (Ok x) d s d' s' h = ap (λ (n : ℕ). both_faults n s') h.0 ∙ ap (λ (n : ℕ). both_faults d n) h.1
counts_sum (Err failed.Fault) d s d' s' (inl h) = ap (λ (n : ℕ). both_faults n s') h.0 ∙ ap (λ (n : ℕ). both_faults (one_more d) n) h.1 ∙ both_first d s
counts_sum (Err failed.Fault) d s d' s' (inr h) = ap (λ (n : ℕ). both_faults n s') h.0 ∙ ap (λ (n : ℕ). both_faults d n) h.1 ∙ both_second d s
counts_sum (Err failed.NoMemory) d s d' s' h = ap (λ (n : ℕ). both_faults n s') h.0 ∙ ap (λ (n : ℕ). both_faults d n) h.1

-- of a record that was not answered
pub event_sum : (T : Type 0) (after : ServerState) (old : KeptState) (disk spare : Option DiskLife) (e : StoreFault) (new : KeptState) (disk' spare' : Option DiskLife) (d s d' s' : ℕ)
    → Becomes {T = T} after old disk spare (Err e) new disk' spare' → CountsTwins (plain_fault {T = T} (Err e)) d s d' s' → both_faults d' s' ≡ disk_counted {T = Bool} (Err (event_fault e)) (both_faults d s)
event_sum T after old disk spare store.Disk new disk' spare' d s d' s' becomes h = counts_sum {T = Unit {0}} (Err failed.Fault) d s d' s' h
event_sum T after old disk spare store.Broken new disk' spare' d s d' s' becomes h = absurd becomes
event_sum T after old disk spare store.NoMemory new disk' spare' d s d' s' becomes h = counts_sum {T = Unit {0}} (Err failed.NoMemory) d s d' s' h

-- of a log that could not be opened
pub opening_sum : (T : Type 0) (e : OpenCause) (d s d' s' : ℕ) → CountsTwins (plain_open {T = T} (Err e)) d s d' s' → both_faults d' s' ≡ disk_faults (end_of_opening e) (both_faults d s)
opening_sum T cause.Disk d s d' s' h = counts_sum {T = Unit {0}} (Err failed.Fault) d s d' s' h
opening_sum T (cause.BadLog place) d s d' s' h = counts_sum {T = Unit {0}} (Ok tt) d s d' s' h
opening_sum T cause.BootsSpent d s d' s' h = counts_sum {T = Unit {0}} (Ok tt) d s d' s' h
opening_sum T cause.NoMemory d s d' s' h = counts_sum {T = Unit {0}} (Err failed.NoMemory) d s d' s' h

-- of what could not be settled
pub settle_sum : (spent : Option StoreFault) (e : StoreFault) (d s d' s' : ℕ) → SpendsBy {T = Unit {0}} (Err e) spent → CountsTwins (plain_fault {T = Unit {0}} (Err e)) d s d' s' → both_faults d' s' ≡ counted {T = Unit {0}} (Err (settle_fault e)) (both_faults d s)
settle_sum spent store.Disk d s d' s' spends h = counts_sum {T = Unit {0}} (Err failed.Fault) d s d' s' h
settle_sum spent store.Broken d s d' s' spends h = absurd spends
settle_sum spent store.NoMemory d s d' s' spends h = counts_sum {T = Unit {0}} (Err failed.NoMemory) d s d' s' h
