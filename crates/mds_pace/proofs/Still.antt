-- What a file takes, and clients, leases and recalls that end, sends nothing: the calls and the next number are as they were.
use Rattle.std.proofs.Common.{◌≡◌, ℕ, zero, suc, Bool, true, false, List, [], ◌∷◌, ◌++◌, length, Option, Some, None, refl, ap, ◌∙◌}
use Rattle.std.specs.Prelude.{is_some}
use Rattle.std.specs.List.{find, list_any}
use Rattle.std.proofs.lemmas.Bool.{cond_both}
use Rattle.cluster_model.specs.declared.ids.FileId.{FileId}
use Rattle.cluster_model.specs.declared.ids.Cred.{Cred}
use Rattle.cluster_model.specs.declared.phase.EndCause.{EndCause}
use Rattle.cluster_model.specs.declared.phase.EndCause.TheVariants.{Lease, Recalled}
use Rattle.file_rule.specs.MdsFiles.{FileStep}
use Rattle.file_rule.specs.FilePhases.{FileInput, Recall as ToRecall, Revokes, Ticks, phase}
use Rattle.layout_state.specs.Grants.{holder_to_recall}
use Rattle.mds_rows.specs.Draws.{drawn}
use Rattle.nfs4_session.specs.Clients.{ClientState}
use Rattle.nfs4_session.specs.Ends.{has_ended, without_client}
use Rattle.recall.specs.Recalls.{is_under_way, new_recall, with_recall, without_file, after_tick}
use Rattle.mds_rule.specs.MdsStates.{ServedFile, MdsSend, MdsValue, MdsStep, sends_none, and_then, served, with_served, numbered}
use Rattle.mds_rule.specs.ServedFiles.{is_period_end, has_fresh, file_behind, file_stepped, input_at, takes_input, with_new_recall, recall_by, recall_at, asks_back, held_from, one_by_one, ends_periods, forgotten, ends_client}
use Rattle.mds_rule.specs.Goes.{each}
use Rattle.mds_rule.specs.Events.{lease_ends, leases_end, recall_expires, recalls_expire}
use Rattle.mds_progress.specs.TickLaw.{ends_with}

pub record Still (m : MdsValue) (s : MdsStep) : Type 0 where
  pub number : s.mds.next_xid ≡ m.next_xid
  pub calls : s.mds.calls ≡ m.calls
  pub none : s.sends ≡ []

pub still_then : (m : MdsValue) (s : MdsStep) (next : MdsValue → MdsStep) → Still m s → ((n : MdsValue) → Still n (next n)) → Still m (and_then s next)
still_then m s next first second =
    let second_so : Still s.mds (next s.mds) = second s.mds in
    record { number = second_so.number ∙ first.number; calls = second_so.calls ∙ first.calls; none = ap (λ (l : List MdsSend). l ++ (next s.mds).sends) first.none ∙ second_so.none }

pub still_same : (m : MdsValue) → Still m (sends_none m)
still_same m = record { number = refl; calls = refl; none = refl }

stepped : (m : MdsValue) (file : FileId) (s : ServedFile) (step : FileStep) → Still m (file_stepped m file s step)
stepped m file s step =
    let n : MdsValue = with_served (record m { fresh = drawn m.fresh step }) file (file_behind s step) in
    record {
      number = cond_both (list_any is_period_end step.entries) (record n { recalls = without_file file n.recalls }) n (λ (y : MdsValue). y.next_xid ≡ m.next_xid) (λ end. refl) (λ other. refl);
      calls = cond_both (list_any is_period_end step.entries) (record n { recalls = without_file file n.recalls }) n (λ (y : MdsValue). y.calls ≡ m.calls) (λ end. refl) (λ other. refl);
      none = refl;
    }

input_still : (m : MdsValue) (file : FileId) (input : FileInput) (o : Option ServedFile) → Still m (input_at m file input o)
input_still m file input None = still_same m
input_still m file input (Some s) =
    let step : FileStep = phase file s.file input m.fresh in
    cond_both (has_fresh m.fresh) (file_stepped m file s step) (sends_none m) (λ (y : MdsStep). Still m y) (λ fresh. stepped m file s step) (λ off. still_same m)

pub takes_still : (m : MdsValue) (file : FileId) (input : FileInput) → Still m (takes_input m file input)
takes_still m file input = input_still m file input (served m file)

-- ---- recalls

new_recall_still : (m : MdsValue) (file : FileId) (cred : Cred) (client : Option ℕ) (now : ℕ) → Still m (sends_none (with_new_recall m file cred client now))
new_recall_still m file cred None now = still_same m
new_recall_still m file cred (Some client) now =
    let n : MdsValue = record m { recalls = with_recall (new_recall file cred client now) m.recalls } in
    cond_both (is_under_way file cred m.recalls) m n (λ (y : MdsValue). Still m (sends_none y)) (λ is. still_same m) (λ off. record { number = refl; calls = refl; none = refl })

by_holder : (m : MdsValue) (file : FileId) (s : ServedFile) (now : ℕ) (b : Bool) → Still m (recall_by m file s now b)
by_holder m file s now false = still_same m
by_holder m file s now true =
    still_then m (takes_input m file ToRecall) (λ n. sends_none (with_new_recall n file s.file.layout.cred s.holder now)) (takes_still m file ToRecall) (λ n. new_recall_still n file s.file.layout.cred s.holder now)

by_file : (m : MdsValue) (file : FileId) (now : ℕ) (o : Option ServedFile) → Still m (recall_at m file now o)
by_file m file now None = still_same m
by_file m file now (Some s) = by_holder m file s now (is_some (holder_to_recall s.file.layout.phase))

pub asks_still : (m : MdsValue) (file : FileId) (now : ℕ) → Still m (asks_back m file now)
asks_still m file now = by_file m file now (served m file)

-- ---- the periods of a client

turns_still : (step : MdsValue → FileId → MdsStep) → ((m : MdsValue) (file : FileId) → Still m (step m file)) → (files : List FileId) (m : MdsValue) → Still m (one_by_one step files m)
turns_still step one [] m = still_same m
turns_still step one (file ∷ files) m = still_then m (step m file) (λ n. one_by_one step files n) (one m file) (λ n. turns_still step one files n)

pub client_still : (m : MdsValue) (client : ℕ) (end : EndCause) → Still m (ends_client m client end)
client_still m client end =
    still_then m (ends_periods m client end) (λ n. sends_none (forgotten client n)) (turns_still (λ n file. takes_input n file (Revokes end)) (λ n file. takes_still n file (Revokes end)) (held_from client 1 m.files) m)
    (λ n. record { number = refl; calls = refl; none = refl })

-- ---- what ends with a tick

from_like : (m n : MdsValue) (s : MdsStep) → n.next_xid ≡ m.next_xid → n.calls ≡ m.calls → Still n s → Still m s
from_like m n s number calls t = record { number = t.number ∙ number; calls = t.calls ∙ calls; none = t.none }

lease_still : (m : MdsValue) (o : Option ClientState) (next : MdsValue → MdsStep) → ((n : MdsValue) → Still n (next n)) → Still m (lease_ends m o next)
lease_still m None next all = still_same m
lease_still m (Some c) next all =
    let n : MdsValue = record m { sessions = without_client m.sessions c.id } in
    still_then m (ends_client n c.id Lease) next (from_like m n (ends_client n c.id Lease) refl refl (client_still n c.id Lease)) all

leases_still : (now n : ℕ) (m : MdsValue) → Still m (leases_end now n m)
leases_still now zero m = still_same m
leases_still now (suc n) m = lease_still m (find (has_ended now) m.sessions.clients) (leases_end now n) (λ y. leases_still now n y)

expires_still : (m : MdsValue) (o : Option (FileId × Cred)) (next : MdsValue → MdsStep) → ((n : MdsValue) → Still n (next n)) → Still m (recall_expires m o next)
expires_still m None next all = still_same m
expires_still m (Some grant) next all = still_then m (takes_input m grant.0 (Revokes Recalled)) next (takes_still m grant.0 (Revokes Recalled)) all

recalls_still : (now n : ℕ) (m : MdsValue) → Still m (recalls_expire now n m)
recalls_still now zero m = record { number = refl; calls = refl; none = refl }
recalls_still now (suc n) m =
    let y : MdsValue = record m { recalls = (after_tick m.recalls now).recalls } in
    from_like m y (recall_expires y (after_tick m.recalls now).expired (recalls_expire now n)) refl refl (expires_still y (after_tick m.recalls now).expired (recalls_expire now n) (λ z. recalls_still now n z))

pub ends_still : (now : ℕ) (m : MdsValue) → Still m (ends_with now m)
ends_still now m = still_then m (leases_end now (length m.sessions.clients) m) (λ n. recalls_expire now (length n.recalls) n) (leases_still now (length m.sessions.clients) m) (λ n. recalls_still now (length n.recalls) n)

-- the tick at each of these files
pub pass_still : (ns : List ℕ) (m : MdsValue) → Still m (each (λ n k. takes_input k (numbered n) Ticks) ns m)
pass_still [] m = still_same m
pass_still (n ∷ ns) m = still_then m (takes_input m (numbered n) Ticks) (λ y. each (λ n k. takes_input k (numbered n) Ticks) ns y) (takes_still m (numbered n) Ticks) (λ y. pass_still ns y)
