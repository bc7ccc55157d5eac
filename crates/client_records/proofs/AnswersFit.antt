-- What an answer of the metadata server brings is in range, where the record's bytes are bytes.
use Rattle.std.proofs.Common.{◌≡◌, ℕ, ◌<◌, ◌≤◌, ◌^◌, Bool, true, false, List, [], ◌∷◌, length, Option, Some, None, Result, Ok, Err, refl, inl, inr}
use Rattle.std.specs.Prelude.{nat_le, nat_lt, ◌==◌, ◌&&◌, bytes_eq, decimal, if◌then◌else◌}
use Rattle.std.specs.Int.{w64, from_be_bytes}
use Rattle.std.specs.List.{AllByRecursion}
use Rattle.std.specs.Str.Parse.{digits_value}
use Rattle.std.proofs.lemmas.Bool.{leb-true, ltb-true}
use Rattle.ff_xdr.specs.declared.error.XdrError.{XdrError}
use Rattle.ff_xdr.specs.Form.{Form, Value, Pair, Array, Arm, Enum, Number32, Number64, Boolean}
use Rattle.ff_xdr.specs.Arms.{Body}
use Rattle.ff_xdr.specs.Reading.{reading, whole}
use Rattle.rpc_record.specs.Replies.{RpcReply, is_success}
use Rattle.nfs4_types.specs.declared.ids.SessionId.{SessionId}
use Rattle.nfs4_types.specs.declared.stateid.Stateid.{Stateid}
use Rattle.nfs4_types.specs.Handles.{nfs_fh4, file_number_of}
use Rattle.nfs4_types.specs.Ids.{deviceid4}
use Rattle.nfs4_types.specs.Objects.{opaque_body}
use Rattle.nfs4_types.specs.Stateids.{stateid4}
use Rattle.nfs4_types.specs.Status.{nfsstat4, refusals4}
use Rattle.nfs4_types.specs.OpResults.{but}
use Rattle.nfs4_types.specs.Texts.{free_text}
use Rattle.nfs4_file_ops.specs.Layout4.{layout4}
use Rattle.nfs4_file_ops.specs.LayoutGet.{layoutget4_ok}
use Rattle.nfs4_compound.specs.Results.{resop4}
use Rattle.nfs4_compound.specs.Compounds.{tag4, compound4_res}
use Rattle.ff_layout.specs.DataServer.{ff_data_server4}
use Rattle.ff_layout.specs.Mirror.{ff_mirror4}
use Rattle.ff_layout.specs.Layout.{ff_layout4}
use Rattle.cluster_model.specs.declared.ids.Mirror.{Mirror}
use Rattle.cluster_model.specs.Mirrors.{are_mirrors, are_on_different_servers}
use Rattle.client_compounds.specs.MdsResults.{done_as, sequence_ok}
use Rattle.client_session_calls.specs.declared.exchange_id.ClientGiven.{ClientGiven}
use Rattle.client_session_calls.specs.SessionResults.{exchange_id_ok, exchange_id_results, create_session_ok, create_session_results, reclaim_complete_results, renew_results}
use Rattle.client_file_calls.specs.declared.open.OpenFile.{OpenFile}
use Rattle.client_file_calls.specs.declared.grant.LayoutGrant.{LayoutGrant}
use Rattle.client_file_calls.specs.declared.grant.GrantedMirror.{GrantedMirror}
use Rattle.client_file_calls.specs.LayoutGrants.{user_number_in, server_in, granted_mirror_at, one_handle, data_server_of, granted_mirror_of, under_one, joined_mirror, mirrors_under, granted_to, grant_by, layout_grant_of}
use Rattle.client_file_calls.specs.FileResults.{put_fh_ok, put_root_fh_ok, stateid_of, open_ok, get_fh_ok, opened_file, open_results, one_layout, layout_get_ok, layout_get_results, device_info_results, write_results, read_results, layout_return_results}
use Rattle.client_mds_calls.specs.declared.ask.MdsAsk.{MdsAsk}
use Rattle.client_mds_calls.specs.declared.ask.MdsAsk.TheVariants as ask
use Rattle.client_mds_calls.specs.MdsReplies.{MdsAnswerValue, Client, Session, Opened, Granted, Refused, answer_if, answer_where, results_of_ask, compound_reply, odd_mds_reply, reply_of_ask}
use Rattle.client_laws.proofs.Stands.{IfThere}
use Rattle.client_records.specs.ClientRecords.{AreBytes}
use Rattle.client_records.proofs.HeldBytes.{Holds, HoldsBody, holds_pair, holds_body, holds_array, opaque_bytes, whole_holds, arm_holds, number_of_bytes}

-- ---- ranges

abbrev pub IsStateidInRange : Stateid → Type 0
IsStateidInRange s = (s.seqid < 2 ^ 32) × (length s.other ≡ 12)

abbrev pub IsMirrorInRange : Mirror → Type 0
IsMirrorInRange m = m.id.fileid < 2 ^ 64

pub record IsGrantInRange (g : LayoutGrant) : Type 0 where
  pub stateid : IsStateidInRange g.stateid
  pub uid : g.uid.0 < 2 ^ 32
  pub mirrors : AllByRecursion IsMirrorInRange g.mirrors
  pub few : length g.mirrors ≤ 4

abbrev pub IsAnswerInRange : MdsAnswerValue → Type 0
IsAnswerInRange (Client clientid sequence) = (clientid < 2 ^ 64) × (sequence < 2 ^ 32)
IsAnswerInRange (Session session) = length session.0 ≡ 16
IsAnswerInRange (Opened file) = IsStateidInRange file.stateid
IsAnswerInRange (Granted grant) = IsGrantInRange grant
IsAnswerInRange answer = Unit {0}

by_if : {A : Type 0} (P : A → Type 0) (b : Bool) (x y : Option A) → (b ≡ true → IfThere x P) → IfThere y P → IfThere (if b then x else y) P
by_if P true x y first second = first refl
by_if P false x y first second = second

-- ---- the mirrors of a layout

abbrev IsGrantedInRange : GrantedMirror → Type 0
IsGrantedInRange m = (m.mirror.id.fileid < 2 ^ 64) × (m.uid < 2 ^ 32)

abbrev IsLong : ℕ → Type 0
IsLong n = n < 2 ^ 64

abbrev IsWord : ℕ → Type 0
IsWord n = n < 2 ^ 32

number_fits : (handle : List ℕ) → AreBytes handle → IfThere (file_number_of handle) IsLong
number_fits handle are = by_if IsLong (length handle == 8) (Some (from_be_bytes w64 handle)) None (λ eight. number_of_bytes handle are) tt

handle_fits : (handles : List (List ℕ)) → AllByRecursion (λ h. Holds nfs_fh4 h) handles → IfThere (one_handle handles) IsLong
handle_fits [] all = tt
handle_fits (handle ∷ []) all = number_fits handle (opaque_bytes 128 handle all.0)
handle_fits (handle ∷ other ∷ handles) all = tt

user_fits : (text : List ℕ) → IfThere (user_number_in text) IsWord
user_fits text =
    by_if IsWord (bytes_eq text (decimal (digits_value 10 text)) && nat_lt (digits_value 10 text) (2 ^ 32)) (Some (digits_value 10 text)) None
    (λ is. ltb-true (digits_value 10 text) (2 ^ 32) (second (bytes_eq text (decimal (digits_value 10 text))) (nat_lt (digits_value 10 text) (2 ^ 32)) is)) tt
  where
    second : (a b : Bool) → (a && b) ≡ true → b ≡ true
    second true b is = is
    second false b is = absurd cc

mirror_at_fits : (server fileid uid : Option ℕ) → IfThere fileid IsLong → IfThere uid IsWord → IfThere (granted_mirror_at server fileid uid) IsGrantedInRange
mirror_at_fits None fileid uid first second = tt
mirror_at_fits (Some server) None uid first second = tt
mirror_at_fits (Some server) (Some fileid) None first second = tt
mirror_at_fits (Some server) (Some fileid) (Some uid) first second = (first, second)

-- the handles, the user and the group
abbrev handed4 : Form
handed4 = Pair (Array 4294967295 nfs_fh4) (Pair free_text free_text)

server_fits : (v : Value ff_data_server4) → Holds ff_data_server4 v → IfThere (data_server_of v) IsGrantedInRange
server_fits (device, (efficiency, (stateid, (handles, (user, group))))) h =
    let first = (holds_pair deviceid4 (Pair Number32 (Pair stateid4 handed4)) device (efficiency, (stateid, (handles, (user, group)))) h).1 in
    let second = (holds_pair Number32 (Pair stateid4 handed4) efficiency (stateid, (handles, (user, group))) first).1 in
    let third = (holds_pair stateid4 handed4 stateid (handles, (user, group)) second).1 in
    let hands = (holds_pair (Array 4294967295 nfs_fh4) (Pair free_text free_text) handles (user, group) third).0 in
    by_if IsGrantedInRange (bytes_eq user group) (granted_mirror_at (server_in device) (one_handle handles) (user_number_in user)) None
    (λ same. mirror_at_fits (server_in device) (one_handle handles) (user_number_in user) (handle_fits handles (holds_array 4294967295 nfs_fh4 handles hands)) (user_fits user)) tt

mirror_fits : (servers : Value ff_mirror4) → Holds ff_mirror4 servers → IfThere (granted_mirror_of servers) IsGrantedInRange
mirror_fits [] h = tt
mirror_fits (server ∷ []) h = server_fits server (holds_array 4294967295 ff_data_server4 (server ∷ []) h).0
mirror_fits (server ∷ other ∷ servers) h = tt

abbrev AreMirrorsInRange : List Mirror → Type 0
AreMirrorsInRange mirrors = AllByRecursion IsMirrorInRange mirrors

under_fits : (uid : ℕ) (o : Option GrantedMirror) → IfThere o IsGrantedInRange → IfThere (under_one uid o) IsMirrorInRange
under_fits uid None fits = tt
under_fits uid (Some m) fits = by_if IsMirrorInRange (m.uid == uid) (Some m.mirror) None (λ same. fits.0) tt

joined_fits : (m : Option Mirror) (mirrors : Option (List Mirror)) → IfThere m IsMirrorInRange → IfThere mirrors AreMirrorsInRange → IfThere (joined_mirror m mirrors) AreMirrorsInRange
joined_fits None mirrors first second = tt
joined_fits (Some m) None first second = tt
joined_fits (Some m) (Some mirrors) first second = (first, second)

mirrors_fit : (uid : ℕ) (mirrors : List (Value ff_mirror4)) → AllByRecursion (λ m. Holds ff_mirror4 m) mirrors → IfThere (mirrors_under uid mirrors) AreMirrorsInRange
mirrors_fit uid [] all = tt
mirrors_fit uid (m ∷ rest) all = joined_fits (under_one uid (granted_mirror_of m)) (mirrors_under uid rest) (under_fits uid (granted_mirror_of m) (mirror_fits m all.0)) (mirrors_fit uid rest all.1)

to_fits : (stateid : Stateid) (uid : ℕ) (mirrors : Option (List Mirror)) → IsStateidInRange stateid → uid < 2 ^ 32 → IfThere mirrors AreMirrorsInRange → IfThere (granted_to stateid uid mirrors) IsGrantInRange
to_fits stateid uid None fits word all = tt
to_fits stateid uid (Some mirrors) fits word all =
    by_if IsGrantInRange (are_mirrors mirrors) (Some (record { stateid = stateid; uid = record { 0 = uid }; mirrors = mirrors })) None
    (λ are. record { stateid = fits; uid = word; mirrors = all; few = leb-true (length mirrors) 4 (first (nat_le (length mirrors) 4) (are_on_different_servers mirrors) are) }) tt
  where
    first : (a b : Bool) → a && b ≡ true → a ≡ true
    first true b is = refl
    first false b is = absurd cc

by_fits : (stateid : Stateid) (mirrors : List (Value ff_mirror4)) (first : Option GrantedMirror) → IsStateidInRange stateid → AllByRecursion (λ m. Holds ff_mirror4 m) mirrors → IfThere first IsGrantedInRange → IfThere (grant_by stateid mirrors first) IsGrantInRange
by_fits stateid mirrors None fits all first = tt
by_fits stateid mirrors (Some m) fits all first = to_fits stateid m.uid (mirrors_under m.uid mirrors) fits first.1 (mirrors_fit m.uid mirrors all)

grant_fits : (stateid : Stateid) → IsStateidInRange stateid → (r : Result (Value ff_layout4) XdrError) → ((v : Value ff_layout4) → r ≡ Ok v → Holds ff_layout4 v) → IfThere (layout_grant_of stateid r) IsGrantInRange
grant_fits stateid fits (Ok (stripe, (first ∷ rest, hints))) holds =
    let all = holds_array 4294967295 ff_mirror4 (first ∷ rest) (holds_pair (Array 4294967295 ff_mirror4) (Pair Number32 Number32) (first ∷ rest) hints (holds_pair Number64 (Pair (Array 4294967295 ff_mirror4) (Pair Number32 Number32)) stripe (first ∷ rest, hints) (holds (stripe, (first ∷ rest, hints)) refl)).1).0 in
    by_fits stateid (first ∷ rest) (granted_mirror_of first) fits all (mirror_fits first all.0)
grant_fits stateid fits (Ok (stripe, ([], hints))) holds = tt
grant_fits stateid fits (Err e) holds = tt

body_fits : (stateid : Stateid) → IsStateidInRange stateid → (body : List ℕ) → AreBytes body → IfThere (layout_grant_of stateid (whole body (reading ff_layout4 body 0))) IsGrantInRange
body_fits stateid fits body are = grant_fits stateid fits (whole body (reading ff_layout4 body 0)) (λ v is. whole_holds ff_layout4 refl body are v is)

-- the iomode, the kind and the body
abbrev moded4 : Form
moded4 = Pair Number32 (Pair Number32 opaque_body)

one_layout_fits : (stateid : Stateid) → IsStateidInRange stateid → (layouts : List (Value layout4)) → AllByRecursion (λ l. Holds layout4 l) layouts → IfThere (one_layout stateid layouts) IsGrantInRange
one_layout_fits stateid fits [] all = tt
one_layout_fits stateid fits ((offset, (size, (iomode, (kind, body)))) ∷ []) all =
    let behind = (holds_pair Number64 (Pair Number64 moded4) offset (size, (iomode, (kind, body))) all.0).1 in
    let mode = (holds_pair Number64 moded4 size (iomode, (kind, body)) behind).1 in
    let content = (holds_pair Number32 (Pair Number32 opaque_body) iomode (kind, body) mode).1 in
    let opaque = (holds_pair Number32 opaque_body kind body content).1 in
    by_if IsGrantInRange (iomode == 2 && kind == 4) (layout_grant_of stateid (whole body (reading ff_layout4 body 0))) None (λ so. body_fits stateid fits body (opaque_bytes 4294967295 body opaque)) tt
one_layout_fits stateid fits (first ∷ (second ∷ rest)) all = tt

-- ---- the results of each operation

client_fits : (v : Value resop4) → Holds resop4 v → IfThere (exchange_id_ok v) (λ g. (g.clientid < 2 ^ 64) × (g.sequence < 2 ^ 32))
client_fits v h = arm_holds (λ (o : Option ClientGiven). IfThere o (λ g. (g.clientid < 2 ^ 64) × (g.sequence < 2 ^ 32))) 42 resop4 (done_as (λ (clientid, (sequence, rest)). Some (record { clientid = clientid; sequence = sequence }))) None each tt v h
  where
    each : (b : Body 42 resop4) → HoldsBody 42 resop4 b → IfThere (done_as (λ (clientid, (sequence, rest)). Some (record { clientid = clientid; sequence = sequence })) b) (λ (g : ClientGiven). (g.clientid < 2 ^ 64) × (g.sequence < 2 ^ 32))
    each (inl (clientid, (sequence, rest))) h = (h.0.0, h.0.1.0)
    each (inr status) h = tt

session_fits : (v : Value resop4) → Holds resop4 v → IfThere (create_session_ok v) (λ s. length s.0 ≡ 16)
session_fits v h = arm_holds (λ (o : Option SessionId). IfThere o (λ s. length s.0 ≡ 16)) 43 resop4 (done_as (λ (session, rest). Some (record { 0 = session }))) None each tt v h
  where
    each : (b : Body 43 resop4) → HoldsBody 43 resop4 b → IfThere (done_as (λ (session, rest). Some (record { 0 = session })) b) (λ (s : SessionId). length s.0 ≡ 16)
    each (inl (session, rest)) h = h.0.0
    each (inr status) h = tt

opens_fit : (v : Value resop4) → Holds resop4 v → IfThere (open_ok v) IsStateidInRange
opens_fit v h = arm_holds (λ (o : Option Stateid). IfThere o IsStateidInRange) 18 resop4 (done_as (λ (stateid, rest). Some (stateid_of stateid))) None each tt v h
  where
    each : (b : Body 18 resop4) → HoldsBody 18 resop4 b → IfThere (done_as (λ (stateid, rest). Some (stateid_of stateid)) b) IsStateidInRange
    each (inl ((seqid, other), rest)) h = h.0.0
    each (inr status) h = tt

gets_fit : (v : Value resop4) → Holds resop4 v → IfThere (layout_get_ok v) IsGrantInRange
gets_fit v h = arm_holds (λ (o : Option LayoutGrant). IfThere o IsGrantInRange) 50 resop4 (done_as (λ (on_close, (stateid, layouts)). one_layout (stateid_of stateid) layouts)) None each tt v h
  where
    each : (b : Body 50 resop4) → HoldsBody 50 resop4 b → IfThere (done_as (λ (on_close, (stateid, layouts)). one_layout (stateid_of stateid) layouts) b) IsGrantInRange
    each (inl (on_close, ((seqid, other), layouts))) h =
        let behind = (holds_pair Boolean (Pair stateid4 (Array 4294967295 layout4)) on_close ((seqid, other), layouts) (holds_body 0 layoutget4_ok (Arm 10058 Boolean (Enum (but 10058 refusals4))) (on_close, ((seqid, other), layouts)) h)).1 in
        let parts = holds_pair stateid4 (Array 4294967295 layout4) (seqid, other) layouts behind in
        one_layout_fits (stateid_of (seqid, other)) parts.0.0 layouts (holds_array 4294967295 layout4 layouts parts.1)
    each (inr other) h = tt

-- ---- the results of each compound

opened_fits : (stateid : Option Stateid) (file : Option ℕ) → IfThere stateid IsStateidInRange → IfThere (opened_file stateid file) (λ (f : OpenFile). IsStateidInRange f.stateid)
opened_fits None file fits = tt
opened_fits (Some stateid) None fits = tt
opened_fits (Some stateid) (Some file) fits = fits

exchange_fits : (results : List (Value resop4)) → AllByRecursion (λ v. Holds resop4 v) results → IfThere (exchange_id_results results) (λ g. (g.clientid < 2 ^ 64) × (g.sequence < 2 ^ 32))
exchange_fits [] all = tt
exchange_fits (e ∷ []) all = client_fits e all.0
exchange_fits (e ∷ (f ∷ rest)) all = tt

create_fits : (results : List (Value resop4)) → AllByRecursion (λ v. Holds resop4 v) results → IfThere (create_session_results results) (λ s. length s.0 ≡ 16)
create_fits [] all = tt
create_fits (e ∷ []) all = session_fits e all.0
create_fits (e ∷ (f ∷ rest)) all = tt

open_fits : (results : List (Value resop4)) → AllByRecursion (λ v. Holds resop4 v) results → IfThere (open_results results) (λ (f : OpenFile). IsStateidInRange f.stateid)
open_fits [] all = tt
open_fits (s ∷ []) all = tt
open_fits (s ∷ (p ∷ [])) all = tt
open_fits (s ∷ (p ∷ (o ∷ []))) all = tt
open_fits (s ∷ (p ∷ (o ∷ (g ∷ [])))) all = by_if (λ (f : OpenFile). IsStateidInRange f.stateid) (sequence_ok s && put_root_fh_ok p) (opened_file (open_ok o) (get_fh_ok g)) None (λ so. opened_fits (open_ok o) (get_fh_ok g) (opens_fit o all.1.1.0)) tt
open_fits (s ∷ (p ∷ (o ∷ (g ∷ (k ∷ rest))))) all = tt

get_fits : (results : List (Value resop4)) → AllByRecursion (λ v. Holds resop4 v) results → IfThere (layout_get_results results) IsGrantInRange
get_fits [] all = tt
get_fits (s ∷ []) all = tt
get_fits (s ∷ (p ∷ [])) all = tt
get_fits (s ∷ (p ∷ (l ∷ []))) all = by_if IsGrantInRange (sequence_ok s && put_fh_ok p) (layout_get_ok l) None (λ so. gets_fit l all.1.1.0) tt
get_fits (s ∷ (p ∷ (l ∷ (k ∷ rest)))) all = tt

where_fits : {A : Type 0} (P : A → Type 0) (answer : A → MdsAnswerValue) → ((a : A) → P a → IsAnswerInRange (answer a)) → (o : Option A) → IfThere o P → IsAnswerInRange (answer_where answer o)
where_fits P answer each None fits = tt
where_fits P answer each (Some a) fits = each a fits

plain_fits : {A : Type 0} (answer : A → MdsAnswerValue) → ((a : A) → IsAnswerInRange (answer a)) → (o : Option A) → IsAnswerInRange (answer_where answer o)
plain_fits answer each None = tt
plain_fits answer each (Some a) = each a

if_fits : (answer : MdsAnswerValue) → IsAnswerInRange answer → (b : Bool) → IsAnswerInRange (answer_if b answer)
if_fits answer fits true = fits
if_fits answer fits false = tt

results_fit : (kind : MdsAsk) (results : List (Value resop4)) → AllByRecursion (λ v. Holds resop4 v) results → IsAnswerInRange (results_of_ask kind results)
results_fit ask.ExchangeId results all = where_fits (λ g. (g.clientid < 2 ^ 64) × (g.sequence < 2 ^ 32)) _ (λ g fits. fits) (exchange_id_results results) (exchange_fits results all)
results_fit ask.CreateSession results all = where_fits (λ s. length s.0 ≡ 16) _ (λ s fits. fits) (create_session_results results) (create_fits results all)
results_fit ask.ReclaimComplete results all = if_fits _ tt (reclaim_complete_results results)
results_fit ask.Open results all = where_fits (λ (f : OpenFile). IsStateidInRange f.stateid) _ (λ f fits. fits) (open_results results) (open_fits results all)
results_fit ask.LayoutGet results all = where_fits IsGrantInRange _ (λ g fits. fits) (layout_get_results results) (get_fits results all)
results_fit (ask.DeviceInfo count) results all = plain_fits _ (λ d. tt) (device_info_results count results)
results_fit ask.Write results all = if_fits _ tt (write_results results)
results_fit (ask.Read at count) results all = plain_fits _ (λ b. tt) (read_results at count results)
results_fit ask.LayoutReturn results all = if_fits _ tt (layout_return_results results)
results_fit ask.Renew results all = if_fits _ tt (renew_results results)

compound_fits : (kind : MdsAsk) (r : Result (Value compound4_res) XdrError) → ((v : Value compound4_res) → r ≡ Ok v → Holds compound4_res v) → IsAnswerInRange (compound_reply kind r).answer
compound_fits kind (Err e) holds = tt
compound_fits kind (Ok (status, (tag, results))) holds = by_test (status == 0)
  where
    each : AllByRecursion (λ v. Holds resop4 v) results
    each = holds_array 4294967295 resop4 results (holds_pair tag4 (Array 4294967295 resop4) tag results (holds_pair nfsstat4 (Pair tag4 (Array 4294967295 resop4)) status (tag, results) (holds (status, (tag, results)) refl)).1).1

    by_test : (b : Bool) → IsAnswerInRange (if b then results_of_ask kind results else Refused status)
    by_test true = results_fit kind results each
    by_test false = tt

pub answer_fits : (kind : MdsAsk) (reply : RpcReply) → AreBytes reply.results → IsAnswerInRange (reply_of_ask kind reply).answer
answer_fits kind reply are = by_test (is_success reply.stat)
  where
    by_test : (b : Bool) → IsAnswerInRange (if b then compound_reply kind (whole reply.results (reading compound4_res reply.results 0)) else odd_mds_reply).answer
    by_test true = compound_fits kind (whole reply.results (reading compound4_res reply.results 0)) (λ v is. whole_holds compound4_res refl reply.results are v is)
    by_test false = tt
