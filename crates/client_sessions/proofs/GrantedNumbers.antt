-- Which numbers of files and of data servers an answer of the metadata server brings.
use Rattle.std.proofs.Common.{◌≡◌, ℕ, ◌<◌, ◌^◌, Bool, true, false, List, [], ◌∷◌, drop, Option, Some, None, Result, Ok, Err, refl, arith, inl, inr, ◌⊎◌}
use Rattle.std.specs.Prelude.{nat_eq, nat_le, nat_lt, ◌==◌, ◌&&◌, bytes_eq, if◌then◌else◌}
use Rattle.std.specs.Int.{w64, from_be_bytes}
use Rattle.std.specs.List.{AllByRecursion}
use Rattle.std.proofs.lemmas.Bool.{leb-true, ltb-true}
use Rattle.ff_xdr.specs.declared.error.XdrError.{XdrError}
use Rattle.ff_xdr.specs.Form.{Form, Arm, Value}
use Rattle.ff_xdr.specs.Arms.{OneOf, Body}
use Rattle.ff_xdr.specs.Reading.{reading, whole}
use Rattle.rpc_record.specs.Replies.{RpcReply, is_success}
use Rattle.nfs4_types.specs.declared.stateid.Stateid.{Stateid}
use Rattle.nfs4_types.specs.Handles.{file_number_of}
use Rattle.nfs4_types.specs.Ids.{device_id_of}
use Rattle.nfs4_file_ops.specs.Layout4.{layout4}
use Rattle.nfs4_compound.specs.Results.{resop4}
use Rattle.nfs4_compound.specs.Compounds.{compound4_res}
use Rattle.ff_layout.specs.DataServer.{ff_data_server4}
use Rattle.ff_layout.specs.Mirror.{ff_mirror4}
use Rattle.ff_layout.specs.Layout.{ff_layout4}
use Rattle.cluster_model.specs.declared.ids.Mirror.{Mirror}
use Rattle.cluster_model.specs.Mirrors.{are_mirrors}
use Rattle.client_compounds.specs.MdsResults.{one_in, in_arm, done_as, sequence_ok}
use Rattle.client_session_calls.specs.SessionResults.{exchange_id_results, create_session_results, reclaim_complete_results, renew_results}
use Rattle.client_file_calls.specs.declared.open.OpenFile.{OpenFile}
use Rattle.client_file_calls.specs.declared.grant.LayoutGrant.{LayoutGrant}
use Rattle.client_file_calls.specs.declared.grant.GrantedMirror.{GrantedMirror}
use Rattle.client_file_calls.specs.LayoutGrants.{user_number_in, server_number, server_in, granted_mirror_at, one_handle, data_server_of, granted_mirror_of, under_one, joined_mirror, mirrors_under, granted_to, grant_by, layout_grant_of}
use Rattle.client_file_calls.specs.FileResults.{put_fh_ok, put_root_fh_ok, stateid_of, small_number, open_ok, get_fh_ok, opened_file, open_results, one_layout, layout_get_ok, layout_get_results, device_info_results, write_results, read_results, layout_return_results}
use Rattle.client_mds_calls.specs.declared.ask.MdsAsk.{MdsAsk}
use Rattle.client_mds_calls.specs.declared.ask.MdsAsk.TheVariants as ask
use Rattle.client_mds_calls.specs.MdsReplies.{MdsAnswerValue, Opened, Granted, Refused, answer_if, answer_where, results_of_ask, compound_reply, odd_mds_reply, reply_of_ask}
use Rattle.client_laws.proofs.Stands.{IfThere}

-- ---- ranges

abbrev IsLong : ℕ → Type 0
IsLong n = n < 2 ^ 64

abbrev pub IsServerInRange : Mirror → Type 0
IsServerInRange m = m.id.server < 2 ^ 64

abbrev pub AreServersInRange : List Mirror → Type 0
AreServersInRange mirrors = AllByRecursion IsServerInRange mirrors

abbrev pub IsFileInRange : OpenFile → Type 0
IsFileInRange f = f.file.0 < 2 ^ 64

abbrev pub IsAnswerNumbered : MdsAnswerValue → Type 0
IsAnswerNumbered (Opened file) = IsFileInRange file
IsAnswerNumbered (Granted grant) = AreServersInRange grant.mirrors
IsAnswerNumbered answer = Unit {0}

by_if : {A : Type 0} (P : A → Type 0) (b : Bool) (x y : Option A) → (b ≡ true → IfThere x P) → IfThere y P → IfThere (if b then x else y) P
by_if P true x y first second = first refl
by_if P false x y first second = second

-- ---- a result of one operation

one_has : {A B C R : Type 0} (P : R → Type 0) (here : Bool) (some : OneOf here A C → R) (none : R) (behind : (C → R) → B → R) → ((b : OneOf here A C) → P (some b)) → P none
    → ((f : C → R) → ((c : C) → P (f c)) → (w : B) → P (behind f w)) → (v : A ⊎ B) → P (one_in {A = A} {B = B} {C = C} here some none behind v)
one_has P true some none behind each other further (inl v) = each v
one_has P true some none behind each other further (inr v) = other
one_has P false some none behind each other further (inl v) = other
one_has P false some none behind each other further (inr v) = further some each v

arm_has : {R : Type 0} (P : R → Type 0) (n : ℕ) (form : Form) (some : Body n form → R) (none : R) → ((b : Body n form) → P (some b)) → P none → (v : Value form) → P (in_arm n form some none v)
arm_has P n (Arm number body others) some none each other v = one_has P (nat_eq n number) some none (λ next w. in_arm n others next none w) each other (λ f all w. arm_has P n others f none all other w) v
arm_has P n form some none each other v = other

done_has : {A B R : Type 0} (P : R → Type 0) (some : A → Option R) → ((a : A) → IfThere (some a) P) → (v : A ⊎ B) → IfThere (done_as some v) P
done_has P some each (inl done) = each done
done_has P some each (inr status) = tt

-- ---- the data servers of a layout

abbrev IsGrantedInRange : GrantedMirror → Type 0
IsGrantedInRange m = m.mirror.id.server < 2 ^ 64

second : (a b : Bool) → (a && b) ≡ true → b ≡ true
second true b is = is
second false b is = absurd cc

server_fits : (n : ℕ) (is : Bool) → IfThere (server_number n is) IsLong
server_fits n is = by_if IsLong (is && nat_le 1 n && nat_le n 16) (Some n) None (λ so. omega (arith, leb-true n 16 (second (is && nat_le 1 n) (nat_le n 16) so))) tt

device_fits : (device : List ℕ) → IfThere (server_in device) IsLong
device_fits device = server_fits (from_be_bytes w64 (drop 8 device)) (bytes_eq device (device_id_of (from_be_bytes w64 (drop 8 device))).0)

at_fits : (server fileid uid : Option ℕ) → IfThere server IsLong → IfThere (granted_mirror_at server fileid uid) IsGrantedInRange
at_fits None fileid uid fits = tt
at_fits (Some server) None uid fits = tt
at_fits (Some server) (Some fileid) None fits = tt
at_fits (Some server) (Some fileid) (Some uid) fits = fits

data_server_fits : (v : Value ff_data_server4) → IfThere (data_server_of v) IsGrantedInRange
data_server_fits (device, (efficiency, (stateid, (handles, (user, group))))) =
    by_if IsGrantedInRange (bytes_eq user group) (granted_mirror_at (server_in device) (one_handle handles) (user_number_in user)) None
    (λ same. at_fits (server_in device) (one_handle handles) (user_number_in user) (device_fits device)) tt

mirror_fits : (servers : Value ff_mirror4) → IfThere (granted_mirror_of servers) IsGrantedInRange
mirror_fits [] = tt
mirror_fits (server ∷ []) = data_server_fits server
mirror_fits (server ∷ other ∷ servers) = tt

under_fits : (uid : ℕ) (o : Option GrantedMirror) → IfThere o IsGrantedInRange → IfThere (under_one uid o) IsServerInRange
under_fits uid None fits = tt
under_fits uid (Some m) fits = by_if IsServerInRange (m.uid == uid) (Some m.mirror) None (λ same. fits) tt

joined_fits : (m : Option Mirror) (mirrors : Option (List Mirror)) → IfThere m IsServerInRange → IfThere mirrors AreServersInRange → IfThere (joined_mirror m mirrors) AreServersInRange
joined_fits None mirrors first others = tt
joined_fits (Some m) None first others = tt
joined_fits (Some m) (Some mirrors) first others = (first, others)

mirrors_fit : (uid : ℕ) (mirrors : List (Value ff_mirror4)) → IfThere (mirrors_under uid mirrors) AreServersInRange
mirrors_fit uid [] = tt
mirrors_fit uid (m ∷ rest) = joined_fits (under_one uid (granted_mirror_of m)) (mirrors_under uid rest) (under_fits uid (granted_mirror_of m) (mirror_fits m)) (mirrors_fit uid rest)

abbrev IsGrantNumbered : LayoutGrant → Type 0
IsGrantNumbered g = AreServersInRange g.mirrors

to_fits : (stateid : Stateid) (uid : ℕ) (mirrors : Option (List Mirror)) → IfThere mirrors AreServersInRange → IfThere (granted_to stateid uid mirrors) IsGrantNumbered
to_fits stateid uid None all = tt
to_fits stateid uid (Some mirrors) all = by_if IsGrantNumbered (are_mirrors mirrors) (Some (record { stateid = stateid; uid = record { 0 = uid }; mirrors = mirrors })) None (λ are. all) tt

by_fits : (stateid : Stateid) (mirrors : List (Value ff_mirror4)) (first : Option GrantedMirror) → IfThere (grant_by stateid mirrors first) IsGrantNumbered
by_fits stateid mirrors None = tt
by_fits stateid mirrors (Some m) = to_fits stateid m.uid (mirrors_under m.uid mirrors) (mirrors_fit m.uid mirrors)

grant_fits : (stateid : Stateid) (r : Result (Value ff_layout4) XdrError) → IfThere (layout_grant_of stateid r) IsGrantNumbered
grant_fits stateid (Ok (stripe, (first ∷ rest, hints))) = by_fits stateid (first ∷ rest) (granted_mirror_of first)
grant_fits stateid (Ok (stripe, ([], hints))) = tt
grant_fits stateid (Err e) = tt

one_layout_fits : (stateid : Stateid) (layouts : List (Value layout4)) → IfThere (one_layout stateid layouts) IsGrantNumbered
one_layout_fits stateid [] = tt
one_layout_fits stateid ((offset, (size, (iomode, (kind, body)))) ∷ []) =
    by_if IsGrantNumbered (iomode == 2 && kind == 4) (layout_grant_of stateid (whole body (reading ff_layout4 body 0))) None (λ so. grant_fits stateid (whole body (reading ff_layout4 body 0))) tt
one_layout_fits stateid (first ∷ (other ∷ rest)) = tt

gets_fit : (v : Value resop4) → IfThere (layout_get_ok v) IsGrantNumbered
gets_fit v =
    arm_has (λ (o : Option LayoutGrant). IfThere o IsGrantNumbered) 50 resop4 (done_as (λ (on_close, (stateid, layouts)). one_layout (stateid_of stateid) layouts)) None
    (done_has IsGrantNumbered (λ (on_close, (stateid, layouts)). one_layout (stateid_of stateid) layouts) (λ (on_close, (stateid, layouts)). one_layout_fits (stateid_of stateid) layouts)) tt v

get_fits : (results : List (Value resop4)) → IfThere (layout_get_results results) IsGrantNumbered
get_fits [] = tt
get_fits (s ∷ []) = tt
get_fits (s ∷ (p ∷ [])) = tt
get_fits (s ∷ (p ∷ (l ∷ []))) = by_if IsGrantNumbered (sequence_ok s && put_fh_ok p) (layout_get_ok l) None (λ so. gets_fit l) tt
get_fits (s ∷ (p ∷ (l ∷ (k ∷ rest)))) = tt

-- ---- the number of a file

small_fits : (o : Option ℕ) → IfThere (small_number o) IsLong
small_fits None = tt
small_fits (Some n) = by_if IsLong (nat_lt n (2 ^ 32)) (Some n) None (λ is. omega (arith, ltb-true n (2 ^ 32) is)) tt

handle_fits : (v : Value resop4) → IfThere (get_fh_ok v) IsLong
handle_fits v =
    arm_has (λ (o : Option ℕ). IfThere o IsLong) 10 resop4 (done_as (λ handle. small_number (file_number_of handle))) None
    (done_has IsLong (λ handle. small_number (file_number_of handle)) (λ handle. small_fits (file_number_of handle))) tt v

opened_fits : (stateid : Option Stateid) (file : Option ℕ) → IfThere file IsLong → IfThere (opened_file stateid file) IsFileInRange
opened_fits None file fits = tt
opened_fits (Some stateid) None fits = tt
opened_fits (Some stateid) (Some file) fits = fits

open_fits : (results : List (Value resop4)) → IfThere (open_results results) IsFileInRange
open_fits [] = tt
open_fits (s ∷ []) = tt
open_fits (s ∷ (p ∷ [])) = tt
open_fits (s ∷ (p ∷ (o ∷ []))) = tt
open_fits (s ∷ (p ∷ (o ∷ (g ∷ [])))) = by_if IsFileInRange (sequence_ok s && put_root_fh_ok p) (opened_file (open_ok o) (get_fh_ok g)) None (λ so. opened_fits (open_ok o) (get_fh_ok g) (handle_fits g)) tt
open_fits (s ∷ (p ∷ (o ∷ (g ∷ (k ∷ rest))))) = tt

-- ---- the answer

where_fits : {A : Type 0} (P : A → Type 0) (answer : A → MdsAnswerValue) → ((a : A) → P a → IsAnswerNumbered (answer a)) → (o : Option A) → IfThere o P → IsAnswerNumbered (answer_where answer o)
where_fits P answer each None fits = tt
where_fits P answer each (Some a) fits = each a fits

plain_fits : {A : Type 0} (answer : A → MdsAnswerValue) → ((a : A) → IsAnswerNumbered (answer a)) → (o : Option A) → IsAnswerNumbered (answer_where answer o)
plain_fits answer each None = tt
plain_fits answer each (Some a) = each a

if_fits : (answer : MdsAnswerValue) → IsAnswerNumbered answer → (b : Bool) → IsAnswerNumbered (answer_if b answer)
if_fits answer fits true = fits
if_fits answer fits false = tt

results_fit : (kind : MdsAsk) (results : List (Value resop4)) → IsAnswerNumbered (results_of_ask kind results)
results_fit ask.ExchangeId results = plain_fits _ (λ g. tt) (exchange_id_results results)
results_fit ask.CreateSession results = plain_fits _ (λ s. tt) (create_session_results results)
results_fit ask.ReclaimComplete results = if_fits _ tt (reclaim_complete_results results)
results_fit ask.Open results = where_fits IsFileInRange _ (λ f fits. fits) (open_results results) (open_fits results)
results_fit ask.LayoutGet results = where_fits IsGrantNumbered _ (λ g fits. fits) (layout_get_results results) (get_fits results)
results_fit (ask.DeviceInfo count) results = plain_fits _ (λ d. tt) (device_info_results count results)
results_fit ask.Write results = if_fits _ tt (write_results results)
results_fit (ask.Read at count) results = plain_fits _ (λ b. tt) (read_results at count results)
results_fit ask.LayoutReturn results = if_fits _ tt (layout_return_results results)
results_fit ask.Renew results = if_fits _ tt (renew_results results)

compound_fits : (kind : MdsAsk) (r : Result (Value compound4_res) XdrError) → IsAnswerNumbered (compound_reply kind r).answer
compound_fits kind (Err e) = tt
compound_fits kind (Ok (status, (tag, results))) = by_test (status == 0)
  where
    by_test : (b : Bool) → IsAnswerNumbered (if b then results_of_ask kind results else Refused status)
    by_test true = results_fit kind results
    by_test false = tt

pub answer_numbered : (kind : MdsAsk) (reply : RpcReply) → IsAnswerNumbered (reply_of_ask kind reply).answer
answer_numbered kind reply = by_test (is_success reply.stat)
  where
    by_test : (b : Bool) → IsAnswerNumbered (if b then compound_reply kind (whole reply.results (reading compound4_res reply.results 0)) else odd_mds_reply).answer
    by_test true = compound_fits kind (whole reply.results (reading compound4_res reply.results 0))
    by_test false = tt
