-- Leases that end, one after the other. Each turn takes one client out, so there are turns enough.
use Rattle.std.proofs.Common.{◌≡◌, ℕ, zero, suc, ◌<◌, Bool, true, false, cond, eqb, List, [], ◌∷◌, length, Option, Some, None, refl, sym, ap, subst, ◌∙◌, arith}
use Rattle.std.specs.Prelude.{find}
use Rattle.std.proofs.lemmas.Bool.{eq-eqb}
use Rattle.std.proofs.lemmas.Option.{none-some}
use Rattle.cluster_model.specs.declared.ids.FileId.{FileId}
use Rattle.cluster_model.specs.declared.outbox.Outbox.{Outbox}
use Rattle.cluster_model.specs.declared.entry.Entry.{Entry}
use Rattle.cluster_model.specs.declared.phase.EndCause.{EndCause}
use Rattle.cluster_model.specs.declared.phase.EndCause.TheVariants.{Lease}
use Rattle.file_rule.specs.MdsFiles.{FileStep}
use Rattle.file_rule.specs.FilePhases.{FileInput, Revokes, phase}
use Rattle.nfs4_session.specs.Clients.{ClientState, SessionsState, has_id, remove_first}
use Rattle.nfs4_session.specs.Ends.{has_ended, without_client, ExpiresBy, Expires}
use Rattle.recall.specs.Recalls.{without_file}
use Rattle.mds_rule.specs.MdsStates.{ServedFile, MdsValue, MdsStep, sends_none, served}
use Rattle.mds_rule.specs.ServedFiles.{has_fresh, is_period_end, recalls_behind, file_stepped, input_at, takes_input, one_by_one, held_from, ends_client}
use Rattle.std.specs.List.{list_any}
use Rattle.mds_rule.specs.Events.{lease_ends, leases_end}
use Rattle.compound_run.specs.CompoundRuns.{HasMadeStep}
use Rattle.mds_state.proofs.StepLemmas.{stepped_then, stepped_none}

-- ---- what ends with a client leaves the other clients

behind_keeps : (m : MdsValue) (file : FileId) (entries : List Entry) → (recalls_behind m file entries).sessions ≡ m.sessions
behind_keeps m file entries = by_end (list_any is_period_end entries)
  where
    by_end : (b : Bool) → (cond b (record m { recalls = without_file file m.recalls }) m).sessions ≡ m.sessions
    by_end true = refl
    by_end false = refl

input_keeps : (m : MdsValue) (file : FileId) (input : FileInput) → (takes_input m file input).mds.sessions ≡ m.sessions
input_keeps m file input = by_file (served m file)
  where
    by_step : (s : ServedFile) (step : FileStep) (b : Bool) → (cond b (file_stepped m file s step) (sends_none m)).mds.sessions ≡ m.sessions
    by_step s step true = behind_keeps _ file step.entries
    by_step s step false = refl

    by_file : (s : Option ServedFile) → (input_at m file input s).mds.sessions ≡ m.sessions
    by_file None = refl
    by_file (Some s) = by_step s (phase file s.file input m.fresh) (has_fresh m.fresh)

all_keep : (step : MdsValue → FileId → MdsStep) → ((m : MdsValue) (file : FileId) → (step m file).mds.sessions ≡ m.sessions) → (files : List FileId) (m : MdsValue) → (one_by_one step files m).mds.sessions ≡ m.sessions
all_keep step keeps [] m = refl
all_keep step keeps (file ∷ files) m = all_keep step keeps files (step m file).mds ∙ keeps m file

client_keeps : (m : MdsValue) (client : ℕ) (end : EndCause) → (ends_client m client end).mds.sessions ≡ m.sessions
client_keeps m client end = all_keep (λ n file. takes_input n file (Revokes end)) (λ n file. input_keeps n file (Revokes end)) (held_from client 1 m.files) m

-- ---- one client less

one_less : (test : ClientState → Bool) (c : ClientState) (clients : List ClientState) → find test clients ≡ Some c → length clients ≡ suc (length (remove_first (has_id c.id) clients))
one_less test c [] found = absurd (none-some c found)
one_less test c (x ∷ xs) found = by_test (test x) found (one_less test c xs)
  where
    by_id : (b : Bool) → length xs ≡ suc (length (remove_first (has_id c.id) xs)) → suc (length xs) ≡ suc (length (cond b xs (x ∷ remove_first (has_id c.id) xs)))
    by_id true rest = refl
    by_id false rest = ap suc rest

    by_test : (b : Bool) → cond b (Some x) (find test xs) ≡ Some c → (find test xs ≡ Some c → length xs ≡ suc (length (remove_first (has_id c.id) xs)))
        → suc (length xs) ≡ suc (length (cond (has_id c.id x) xs (x ∷ remove_first (has_id c.id) xs)))
    by_test true is rest =
        let same : x ≡ c = cc in
        let own : eqb x.id c.id ≡ true = eq-eqb x.id c.id (ap (λ (d : ClientState). d.id) same) in
        ap (λ b. suc (length (cond b xs (x ∷ remove_first (has_id c.id) xs)))) (sym own)
    by_test false is rest = by_id (has_id c.id x) (rest is)

-- ---- what was told

record HasExpired (s : SessionsState) (now client : ℕ) (new : SessionsState) : Type 0 where
  c : ClientState
  found : find (has_ended now) s.clients ≡ Some c
  id : client ≡ c.id
  rest : new ≡ without_client s c.id

expired : (s : SessionsState) (now client : ℕ) (new : SessionsState) → Expires s now (Some client) new → HasExpired s now client new
expired s now client new e = by_found (find (has_ended now) s.clients) refl e
  where
    same_id : (a b : ℕ) → Some a ≡ Some b → a ≡ b
    same_id a b is = cc

    by_found : (found : Option ClientState) → find (has_ended now) s.clients ≡ found → ExpiresBy s found (Some client) new → HasExpired s now client new
    by_found None is e = absurd (none-some client (sym e.0))
    by_found (Some c) is e = record { c = c; found = is; id = same_id client c.id e.0; rest = e.1 }

record NoneExpired (s : SessionsState) (now : ℕ) (new : SessionsState) : Type 0 where
  none : find (has_ended now) s.clients ≡ None
  same : new ≡ s

none_expired : (s : SessionsState) (now : ℕ) (new : SessionsState) → Expires s now None new → NoneExpired s now new
none_expired s now new e = by_found (find (has_ended now) s.clients) refl e
  where
    by_found : (found : Option ClientState) → find (has_ended now) s.clients ≡ found → ExpiresBy s found None new → NoneExpired s now new
    by_found None is e = record { none = is; same = e.1 }
    by_found (Some c) is e = absurd (none-some c.id e.0)

-- ---- one turn

fewer_clients : (now client : ℕ) (m k : MdsValue) (sessions : SessionsState) (old mid : Outbox) → Expires m.sessions now (Some client) sessions
    → HasMadeStep (ends_client (record m { sessions = sessions }) client Lease) old k mid → length m.sessions.clients ≡ suc (length k.sessions.clients)
fewer_clients now client m k sessions old mid e first =
    let h = expired m.sessions now client sessions e in
    let kept : k.sessions ≡ without_client m.sessions h.c.id =
    ap (λ (x : MdsValue). x.sessions) first.mds ∙ client_keeps (record m { sessions = sessions }) client Lease ∙ h.rest in
    one_less (has_ended now) h.c m.sessions.clients h.found ∙ ap (λ (s : SessionsState). suc (length s.clients)) (sym kept)

turn : (now client : ℕ) (m k n : MdsValue) (sessions : SessionsState) (old mid new : Outbox) → Expires m.sessions now (Some client) sessions
    → HasMadeStep (ends_client (record m { sessions = sessions }) client Lease) old k mid → HasMadeStep (leases_end now (length k.sessions.clients) k) mid n new
    → HasMadeStep (leases_end now (length m.sessions.clients) m) old n new
turn now client m k n sessions old mid new e first rest =
    let h = expired m.sessions now client sessions e in
    let of_client : HasMadeStep (ends_client (record m { sessions = sessions }) h.c.id Lease) old k mid =
    subst (λ (i : ℕ). HasMadeStep (ends_client (record m { sessions = sessions }) i Lease) old k mid) h.id first in
    let of_rest : HasMadeStep (ends_client (record m { sessions = without_client m.sessions h.c.id }) h.c.id Lease) old k mid =
    subst (λ (s : SessionsState). HasMadeStep (ends_client (record m { sessions = s }) h.c.id Lease) old k mid) h.rest of_client in
    subst (λ (j : ℕ). HasMadeStep (leases_end now j m) old n new) (sym (fewer_clients now client m k sessions old mid e first))
    (subst (λ (o : Option ClientState). HasMadeStep (lease_ends m o (leases_end now (length k.sessions.clients))) old n new) (sym h.found)
    (stepped_then (ends_client (record m { sessions = without_client m.sessions h.c.id }) h.c.id Lease) (leases_end now (length k.sessions.clients)) old mid new k n of_rest rest))

no_lease : (now len : ℕ) (m : MdsValue) (out : Outbox) → find (has_ended now) m.sessions.clients ≡ None → HasMadeStep (leases_end now len m) out m out
no_lease now zero m out none = stepped_none m out
no_lease now (suc len) m out none = subst (λ (o : Option ClientState). HasMadeStep (lease_ends m o (leases_end now len)) out m out) (sym none) (stepped_none m out)

no_turn : (now len : ℕ) (m : MdsValue) (sessions : SessionsState) (out : Outbox) → Expires m.sessions now None sessions → HasMadeStep (leases_end now len m) out (record m { sessions = sessions }) out
no_turn now len m sessions out e =
    let h = none_expired m.sessions now sessions e in
    subst (λ (s : SessionsState). HasMadeStep (leases_end now len m) out (record m { sessions = s }) out) (sym h.same) (no_lease now len m out h.none)

-- ---- the same of a state that is this one

pub lease_turn : (now client : ℕ) (m seen k n : MdsValue) (sessions : SessionsState) (old mid new : Outbox) → m ≡ seen → Expires m.sessions now (Some client) sessions
    → HasMadeStep (ends_client (record m { sessions = sessions }) client Lease) old k mid → HasMadeStep (leases_end now (length k.sessions.clients) k) mid n new
    → HasMadeStep (leases_end now (length seen.sessions.clients) seen) old n new
lease_turn now client m seen k n sessions old mid new is e first rest =
    subst (λ (x : MdsValue). HasMadeStep (leases_end now (length x.sessions.clients) x) old n new) is (turn now client m k n sessions old mid new e first rest)

pub lease_fewer : (now client : ℕ) (m seen k : MdsValue) (sessions : SessionsState) (old mid : Outbox) → m ≡ seen → Expires m.sessions now (Some client) sessions
    → HasMadeStep (ends_client (record m { sessions = sessions }) client Lease) old k mid → length k.sessions.clients < length seen.sessions.clients
lease_fewer now client m seen k sessions old mid is e first =
    let fewer = fewer_clients now client m k sessions old mid e first in
    subst (λ (x : MdsValue). length k.sessions.clients < length x.sessions.clients) is (omega (arith, fewer))

pub lease_none : (now : ℕ) (m seen : MdsValue) (sessions : SessionsState) (out : Outbox) → m ≡ seen → Expires m.sessions now None sessions
    → HasMadeStep (leases_end now (length seen.sessions.clients) seen) out (record m { sessions = sessions }) out
lease_none now m seen sessions out is e =
    subst (λ (x : MdsValue). HasMadeStep (leases_end now (length x.sessions.clients) x) out (record m { sessions = sessions }) out) is (no_turn now (length m.sessions.clients) m sessions out e)
