-- A metadata server that knows no other node as itself: of its sessions, of compounds that wait, and of what it has sent.
use Rattle.std.proofs.Common.{◌≡◌, ℕ, Bool, List, [], ◌∷◌, ◌++◌, Option, Some, None, refl, sym, subst, inl, inr, ◌⊎◌}
use Rattle.std.specs.Prelude.{filter}
use Rattle.std.specs.List.{find, last_or}
use Rattle.std.proofs.lemmas.Bool.{cond_both}
use Rattle.std.proofs.lemmas.Option.{none-some, same_Some}
use Rattle.cluster_model.specs.declared.ids.NodeId.{NodeId}
use Rattle.cluster_model.specs.declared.ids.NodeId.TheVariants.{Mds, Server, Client}
use Rattle.cluster_model.specs.declared.ids.FileId.{FileId}
use Rattle.cluster_model.specs.Members.{IsOneOf}
use Rattle.nfs4_types.specs.declared.ids.SessionId.{SessionId}
use Rattle.nfs4_session.specs.declared.begin.SlotPass.{SlotPass}
use Rattle.nfs4_session.specs.Clients.{SessionState, ClientState, SessionsState, has_id, has_number, client_in, number_in, change_first, remove_first, with_sessions, with_clients, renewed_at, change_session}
use Rattle.nfs4_session.specs.Bindings.{bound_to, bound_last, client_bound, after_binding, last_session, called_back, client_called_back}
use Rattle.nfs4_session.specs.Ends.{without_session, without_client}
use Rattle.nfs4_session.specs.ExchangeIds.{ExchangeCase, IsKnown, IsAgain, ReplacesUnconfirmed, Restarts, IsNewOwner, is_unconfirmed_of, new_client, after_exchange}
use Rattle.nfs4_session.specs.CreateSessions.{CreateSessionCase, IsDue, IsReplay, IsMisordered, HasNoRoom, IsStale, is_before_restart, with_new_session, created_session, after_creating}
use Rattle.nfs4_session.specs.Requests.{change_slot, after_request, after_finish}
use Rattle.nfs4_types.specs.declared.sequence.Sequence.{Sequence}
use Rattle.mds_rule.specs.MdsStates.{WaitingRead, WaitingWrite, ServedFile, MdsSend, AwaitedCall, MdsValue, MdsStep, sends_none, and_then, with_call, with_served, served}
use Rattle.mds_rule.specs.Spelled.{spelled_send}
use Rattle.mds_walk.proofs.Lists.{in_with_call, in_filtered, found_in, AllOf, all_push, all_in, all_set, all_got}
use Rattle.mds_walk.proofs.Served.{place_served}

-- ---- nodes

abbrev pub IsElse : NodeId → Type 0
IsElse Mds = ⊥
IsElse (Server n) = Unit {0}
IsElse (Client n) = Unit {0}

abbrev pub SendElse : MdsSend → Type 0
SendElse s = IsElse (spelled_send s).0

abbrev pub CallElse : AwaitedCall → Type 0
CallElse call = SendElse call.sent

abbrev pub SessionElse : SessionState → Type 0
SessionElse session = IsElse session.node

abbrev pub ClientElse : ClientState → Type 0
ClientElse c = AllOf SessionElse c.sessions

abbrev pub TableElse : SessionsState → Type 0
TableElse s = AllOf ClientElse s.clients

abbrev pub ReadElse : WaitingRead → Type 0
ReadElse r = IsElse r.compound.node

abbrev pub WriteElse : Option WaitingWrite → Type 0
WriteElse None = Unit {0}
WriteElse (Some w) = IsElse w.compound.node

abbrev pub FileElse : ServedFile → Type 0
FileElse s = WriteElse s.write × AllOf ReadElse s.reads

-- by the parts of a server
pub record ElseOf (sessions : SessionsState) (files : List ServedFile) (calls : List AwaitedCall) : Type 0 where
  pub table : TableElse sessions
  pub files_else : AllOf FileElse files
  pub calls_else : AllOf CallElse calls

abbrev pub Else : MdsValue → Type 0
Else m = ElseOf m.sessions m.files m.calls

-- a step to such a server, that sends elsewhere
abbrev pub StepElse : MdsStep → Type 0
StepElse s = Else s.mds × AllOf SendElse s.sends

-- ---- lists

pub all_join : {A : Type 0} (P : A → Type 0) (a b : List A) → AllOf P a → AllOf P b → AllOf P (a ++ b)
all_join P [] b first second = second
all_join P (x ∷ a) b first second = (first.0, all_join P a b first.1 second)

pub all_by : {A : Type 0} (P : A → Type 0) (xs : List A) → ((x : A) → IsOneOf x xs → P x) → AllOf P xs
all_by P [] each = tt
all_by P (x ∷ xs) each = (each x (inl refl), all_by P xs (λ y inside. each y (inr inside)))

pub all_changed : {A : Type 0} (P : A → Type 0) (test : A → Bool) (change : A → A) → ((x : A) → P x → P (change x)) → (xs : List A) → AllOf P xs → AllOf P (change_first test change xs)
all_changed P test change keeps [] all = tt
all_changed {A = A} P test change keeps (x ∷ xs) all =
    cond_both (test x) (change x ∷ xs) (x ∷ change_first test change xs) (λ (l : List A). AllOf P l) (λ is. (keeps x all.0, all.1)) (λ off. (all.0, all_changed P test change keeps xs all.1))

pub all_removed : {A : Type 0} (P : A → Type 0) (test : A → Bool) (xs : List A) → AllOf P xs → AllOf P (remove_first test xs)
all_removed P test [] all = tt
all_removed {A = A} P test (x ∷ xs) all = cond_both (test x) xs (x ∷ remove_first test xs) (λ (l : List A). AllOf P l) (λ is. all.1) (λ off. (all.0, all_removed P test xs all.1))

pub all_filtered : {A : Type 0} (P : A → Type 0) (test : A → Bool) (xs : List A) → AllOf P xs → AllOf P (filter test xs)
all_filtered P test xs all = all_by P (filter test xs) (λ x inside. all_in P xs x all (in_filtered test x xs inside))

pub all_found : {A : Type 0} (P : A → Type 0) (test : A → Bool) (xs : List A) (x : A) → AllOf P xs → find test xs ≡ Some x → P x
all_found P test xs x all is = all_in P xs x all (found_in test xs x is)

-- ---- the table of clients

bound_else : (number : ℕ) (node : NodeId) → IsElse node → (sessions : List SessionState) (o : Option SessionState) → AllOf SessionElse sessions → AllOf SessionElse (bound_last number node sessions o)
bound_else number node its sessions None all = all
bound_else number node its sessions (Some session) all =
    all_push SessionElse (remove_first (has_number number) sessions) (bound_to node session) (all_removed SessionElse (has_number number) sessions all) its

pub binding_else : (s : SessionsState) (id : SessionId) (node : NodeId) → IsElse node → TableElse s → TableElse (after_binding s id node)
binding_else s id node its all =
    all_changed ClientElse (has_id (client_in id)) (client_bound (number_in id) node) (λ c is. bound_else (number_in id) node its c.sessions (find (has_number (number_in id)) c.sessions) is) s.clients all

session_else : (id : SessionId) (change : SessionState → SessionState) → ((x : SessionState) → SessionElse x → SessionElse (change x)) → (clients : List ClientState) → AllOf ClientElse clients
    → AllOf ClientElse (change_session id change clients)
session_else id change keeps clients all =
    all_changed ClientElse (has_id (client_in id)) (λ c. with_sessions c (change_first (has_number (number_in id)) change c.sessions))
    (λ c is. all_changed SessionElse (has_number (number_in id)) change keeps c.sessions is) clients all

pub request_else : (s : SessionsState) (request : Sequence) (now : ℕ) → TableElse s → TableElse (after_request s request now)
request_else s request now all =
    all_changed ClientElse (has_id (client_in request.session)) (renewed_at now) (λ c is. is) (change_session request.session (change_slot request.slot _) s.clients)
    (session_else request.session (change_slot request.slot _) (λ x is. is) s.clients all)

pub finish_else : (s : SessionsState) (pass : SlotPass) (reply : List ℕ) → TableElse s → TableElse (after_finish s pass reply)
finish_else s pass reply all = session_else pass.session (change_slot pass.slot _) (λ x is. is) s.clients all

pub exchange_else : (s : SessionsState) (verifier owner : List ℕ) (now : ℕ) (case : ExchangeCase) → TableElse s → TableElse (after_exchange s verifier owner now case)
exchange_else s verifier owner now (IsKnown client) all = all_changed ClientElse (has_id client.id) (renewed_at now) (λ c is. is) s.clients all
exchange_else s verifier owner now (IsAgain client) all = all_changed ClientElse (has_id client.id) (renewed_at now) (λ c is. is) s.clients all
exchange_else s verifier owner now ReplacesUnconfirmed all =
    all_push ClientElse (remove_first (is_unconfirmed_of owner) s.clients) (new_client s verifier owner now) (all_removed ClientElse (is_unconfirmed_of owner) s.clients all) tt
exchange_else s verifier owner now Restarts all = all_push ClientElse s.clients (new_client s verifier owner now) all tt
exchange_else s verifier owner now IsNewOwner all = all_push ClientElse s.clients (new_client s verifier owner now) all tt

pub creating_else : (s : SessionsState) (program : ℕ) (node : NodeId) (now : ℕ) (case : CreateSessionCase) → IsElse node → TableElse s → TableElse (after_creating s program node now case)
creating_else s program node now (IsDue c) its all =
    all_changed ClientElse (has_id c.id) (with_new_session (created_session s program node) now) (λ d is. all_push SessionElse d.sessions (created_session s program node) is its)
    (remove_first (is_before_restart c) s.clients) (all_removed ClientElse (is_before_restart c) s.clients all)
creating_else s program node now (IsReplay session) its all = all
creating_else s program node now IsMisordered its all = all
creating_else s program node now HasNoRoom its all = all
creating_else s program node now IsStale its all = all

pub destroyed_else : (s : SessionsState) (id : SessionId) → TableElse s → TableElse (without_session s id)
destroyed_else s id all =
    all_changed ClientElse (has_id (client_in id)) (λ c. with_sessions c (remove_first (has_number (number_in id)) c.sessions)) (λ c is. all_removed SessionElse (has_number (number_in id)) c.sessions is) s.clients all

pub gone_else : (s : SessionsState) (client : ℕ) → TableElse s → TableElse (without_client s client)
gone_else s client all = all_removed ClientElse (has_id client) s.clients all

pub called_else : (s : SessionsState) (client number : ℕ) → TableElse s → TableElse (with_clients s (change_first (has_id client) (client_called_back number) s.clients))
called_else s client number all =
    all_changed ClientElse (has_id client) (client_called_back number) (λ c is. all_changed SessionElse (has_number number) called_back (λ x its. its) c.sessions is) s.clients all

last_else : (sessions : List SessionState) (session : SessionState) → AllOf SessionElse sessions → last_or None sessions ≡ Some session → SessionElse session
last_else [] session all is = absurd cc
last_else (x ∷ []) session all is = subst SessionElse (same_Some x session is) all.0
last_else (x ∷ y ∷ sessions) session all is = last_else (y ∷ sessions) session all.1 is

last_of_client : (o : Option ClientState) (clients : List ClientState) (client : ℕ) (session : SessionState) → find (has_id client) clients ≡ o → AllOf ClientElse clients → last_session o ≡ Some session → SessionElse session
last_of_client None clients client session found all is = absurd (none-some session is)
last_of_client (Some c) clients client session found all is = last_else c.sessions session (all_found ClientElse (has_id client) clients c all found) is

pub last_session_else : (clients : List ClientState) (client : ℕ) (session : SessionState) → AllOf ClientElse clients → last_session (find (has_id client) clients) ≡ Some session → SessionElse session
last_session_else clients client session all is = last_of_client (find (has_id client) clients) clients client session refl all is

-- ---- a server with other parts

pub with_table : (m : MdsValue) (sessions : SessionsState) → Else m → TableElse sessions → Else (record m { sessions = sessions })
with_table m sessions e its = record { table = its; files_else = e.files_else; calls_else = e.calls_else }

pub with_file_else : (m : MdsValue) (file : FileId) (t : ServedFile) → Else m → FileElse t → Else (with_served m file t)
with_file_else m file t e its = record { table = e.table; files_else = all_set FileElse m.files _ t e.files_else its; calls_else = e.calls_else }

pub served_else : (m : MdsValue) (file : FileId) (s : ServedFile) → Else m → served m file ≡ Some s → FileElse s
served_else m file s e is = all_got FileElse m.files _ s e.files_else (place_served m file s is).1

pub with_call_else : (call : AwaitedCall) (calls : List AwaitedCall) → CallElse call → AllOf CallElse calls → AllOf CallElse (with_call call calls)
with_call_else call calls its all = all_by CallElse (with_call call calls) (λ x inside. by_side x (in_with_call x call calls inside))
  where
    by_side : (x : AwaitedCall) → IsOneOf x calls ⊎ (x ≡ call) → CallElse x
    by_side x (inl old) = all_in CallElse calls x all old
    by_side x (inr new) = subst CallElse (sym new) its

pub without_calls_else : (m : MdsValue) (test : AwaitedCall → Bool) → Else m → Else (record m { calls = filter test m.calls })
without_calls_else m test e = record { table = e.table; files_else = e.files_else; calls_else = all_filtered CallElse test m.calls e.calls_else }

-- ---- steps that follow one another

pub none_goes : (m : MdsValue) → Else m → StepElse (sends_none m)
none_goes m e = (e, tt)

pub then_goes : (s : MdsStep) (next : MdsValue → MdsStep) → StepElse s → ((n : MdsValue) → Else n → StepElse (next n)) → StepElse (and_then s next)
then_goes s next first second = ((second s.mds first.0).0, all_join SendElse s.sends (next s.mds).sends first.1 (second s.mds first.0).1)
