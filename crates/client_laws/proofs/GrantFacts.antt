-- What an answer of the metadata server comes of, and which mirrors a layout that is granted has.
use Rattle.std.proofs.Common.{◌≡◌, ℕ, ◌≤◌, Bool, true, false, List, [], ◌∷◌, length, Option, Some, None, Result, Ok, Err, refl, subst, inl, inr, ◌⊎◌}
use Rattle.std.specs.Prelude.{nat_eq, nat_le, ◌==◌, ◌&&◌, if◌then◌else◌}
use Rattle.std.proofs.lemmas.Bool.{leb-true}
use Rattle.ff_xdr.specs.declared.error.XdrError.{XdrError}
use Rattle.ff_xdr.specs.Form.{Form, Arm, Value}
use Rattle.ff_xdr.specs.Arms.{OneOf, Body}
use Rattle.ff_xdr.specs.Reading.{reading, whole}
use Rattle.rpc_record.specs.Replies.{RpcReply, is_success}
use Rattle.nfs4_types.specs.declared.stateid.Stateid.{Stateid}
use Rattle.nfs4_file_ops.specs.Layout4.{layout4}
use Rattle.nfs4_compound.specs.Results.{resop4}
use Rattle.nfs4_compound.specs.Compounds.{compound4_res}
use Rattle.ff_layout.specs.Mirror.{ff_mirror4}
use Rattle.ff_layout.specs.Layout.{ff_layout4}
use Rattle.cluster_model.specs.declared.ids.Mirror.{Mirror}
use Rattle.cluster_model.specs.Mirrors.{are_mirrors, are_on_different_servers}
use Rattle.client_compounds.specs.MdsResults.{one_in, in_arm, done_as, sequence_ok}
use Rattle.client_session_calls.specs.SessionResults.{exchange_id_results, create_session_results, reclaim_complete_results, renew_results}
use Rattle.client_file_calls.specs.declared.grant.LayoutGrant.{LayoutGrant}
use Rattle.client_file_calls.specs.declared.grant.GrantedMirror.{GrantedMirror}
use Rattle.client_file_calls.specs.LayoutGrants.{granted_mirror_of, under_one, joined_mirror, mirrors_under, granted_to, grant_by, layout_grant_of}
use Rattle.client_file_calls.specs.FileResults.{put_fh_ok, stateid_of, one_layout, layout_get_ok, layout_get_results, open_results, device_info_results, write_results, read_results, layout_return_results}
use Rattle.client_mds_calls.specs.declared.ask.MdsAsk.{MdsAsk}
use Rattle.client_mds_calls.specs.declared.ask.MdsAsk.TheVariants as ask
use Rattle.client_mds_calls.specs.MdsReplies.{MdsAnswerValue, Client, Granted, Returned, Refused, answer_if, answer_where, results_of_ask, compound_answer, compound_reply, reply_of_ask, odd_mds_reply}
use Rattle.client_laws.proofs.Stands.{IfThere}

-- ---- a result of one operation

one_has : {A B C R : Type 0} (P : R → Type 0) (here : Bool) (some : OneOf here A C → R) (none : R) (behind : (C → R) → B → R) → ((b : OneOf here A C) → P (some b)) → P none
    → ((f : C → R) → ((c : C) → P (f c)) → (w : B) → P (behind f w)) → (v : A ⊎ B) → P (one_in {A = A} {B = B} {C = C} here some none behind v)
one_has P true some none behind each other further (inl v) = each v
one_has P true some none behind each other further (inr v) = other
one_has P false some none behind each other further (inl v) = other
one_has P false some none behind each other further (inr v) = further some each v

arm_has : {R : Type 0} (P : R → Type 0) (n : ℕ) (form : Form) (some : Body n form → R) (none : R) → ((b : Body n form) → P (some b)) → P none → (v : Value form) → P (in_arm n form some none v)
arm_has P n (Arm number body others) some none each other v = one_has P (nat_eq n number) some none (λ next w. in_arm n others next none w) each other (λ f all w. arm_has P n others f none all other w) v
arm_has P n form some none each other v = other

-- ---- the mirrors

-- one or more
abbrev pub IsSome : List Mirror → Type 0
IsSome [] = ⊥
IsSome (m ∷ mirrors) = Unit {0}

abbrev HasMirrors : Option LayoutGrant → Type 0
HasMirrors o = IfThere o (λ g. (are_mirrors g.mirrors ≡ true) × IsSome g.mirrors)

by_if : (b : Bool) (x y : Option LayoutGrant) → (b ≡ true → HasMirrors x) → HasMirrors y → HasMirrors (if b then x else y)
by_if true x y first second = first refl
by_if false x y first second = second

to_has : (stateid : Stateid) (uid : ℕ) (mirrors : Option (List Mirror)) → IfThere mirrors IsSome → HasMirrors (granted_to stateid uid mirrors)
to_has stateid uid None some = tt
to_has stateid uid (Some mirrors) some = by_if (are_mirrors mirrors) (Some (record { stateid = stateid; uid = record { 0 = uid }; mirrors = mirrors })) None (λ are. (are, some)) tt

joined_some : (m : Option Mirror) (mirrors : Option (List Mirror)) → IfThere (joined_mirror m mirrors) IsSome
joined_some None mirrors = tt
joined_some (Some m) None = tt
joined_some (Some m) (Some mirrors) = tt

by_has : (stateid : Stateid) (m : Value ff_mirror4) (rest : List (Value ff_mirror4)) (first : Option GrantedMirror) → HasMirrors (grant_by stateid (m ∷ rest) first)
by_has stateid m rest None = tt
by_has stateid m rest (Some first) = to_has stateid first.uid (mirrors_under first.uid (m ∷ rest)) (joined_some (under_one first.uid (granted_mirror_of m)) (mirrors_under first.uid rest))

grant_has : (stateid : Stateid) (r : Result (Value ff_layout4) XdrError) → HasMirrors (layout_grant_of stateid r)
grant_has stateid (Ok (stripe, (first ∷ rest, hints))) = by_has stateid first rest (granted_mirror_of first)
grant_has stateid (Ok (stripe, ([], hints))) = tt
grant_has stateid (Err e) = tt

one_layout_has : (stateid : Stateid) (layouts : List (Value layout4)) → HasMirrors (one_layout stateid layouts)
one_layout_has stateid [] = tt
one_layout_has stateid ((offset, (size, (iomode, (kind, body)))) ∷ []) =
    by_if (iomode == 2 && kind == 4) (layout_grant_of stateid (whole body (reading ff_layout4 body 0))) None (λ so. grant_has stateid (whole body (reading ff_layout4 body 0))) tt
one_layout_has stateid (first ∷ (second ∷ rest)) = tt

done_has : {A B : Type 0} (some : A → Option LayoutGrant) → ((a : A) → HasMirrors (some a)) → (v : A ⊎ B) → HasMirrors (done_as some v)
done_has some each (inl done) = each done
done_has some each (inr status) = tt

get_has : (v : Value resop4) → HasMirrors (layout_get_ok v)
get_has v = arm_has HasMirrors 50 resop4 (done_as (λ (on_close, (stateid, layouts)). one_layout (stateid_of stateid) layouts)) None (done_has (λ (on_close, (stateid, layouts)). one_layout (stateid_of stateid) layouts) (λ (on_close, (stateid, layouts)). one_layout_has (stateid_of stateid) layouts)) tt v

results_have : (results : List (Value resop4)) → HasMirrors (layout_get_results results)
results_have [] = tt
results_have (s ∷ []) = tt
results_have (s ∷ (p ∷ [])) = tt
results_have (s ∷ (p ∷ (l ∷ []))) = by_if (sequence_ok s && put_fh_ok p) (layout_get_ok l) None (λ so. get_has l) tt
results_have (s ∷ (p ∷ (l ∷ (k ∷ rest)))) = tt

-- ---- which compound an answer is to

-- a layout is granted by a LAYOUTGET alone, and returned by a LAYOUTRETURN; a client is made by an EXCHANGE_ID
abbrev Fits : MdsAsk → MdsAnswerValue → Type 0
Fits kind (Granted g) = (kind ≡ ask.LayoutGet) × (are_mirrors g.mirrors ≡ true) × IsSome g.mirrors
Fits kind Returned = kind ≡ ask.LayoutReturn
Fits kind (Client clientid sequence) = kind ≡ ask.ExchangeId
Fits kind answer = Unit {0}

where_fits : {A : Type 0} (kind : MdsAsk) (answer : A → MdsAnswerValue) → ((a : A) → Fits kind (answer a)) → (o : Option A) → Fits kind (answer_where answer o)
where_fits kind answer each None = tt
where_fits kind answer each (Some a) = each a

if_fits : (kind : MdsAsk) (answer : MdsAnswerValue) → Fits kind answer → (b : Bool) → Fits kind (answer_if b answer)
if_fits kind answer fits true = fits
if_fits kind answer fits false = tt

granted_fits : (o : Option LayoutGrant) → HasMirrors o → Fits ask.LayoutGet (answer_where Granted o)
granted_fits None has = tt
granted_fits (Some g) has = (refl, has.0, has.1)

results_fit : (kind : MdsAsk) (results : List (Value resop4)) → Fits kind (results_of_ask kind results)
results_fit ask.ExchangeId results = where_fits ask.ExchangeId _ (λ c. refl) (exchange_id_results results)
results_fit ask.CreateSession results = where_fits ask.CreateSession _ (λ c. tt) (create_session_results results)
results_fit ask.ReclaimComplete results = if_fits ask.ReclaimComplete _ tt (reclaim_complete_results results)
results_fit ask.Open results = where_fits ask.Open _ (λ c. tt) (open_results results)
results_fit ask.LayoutGet results = granted_fits (layout_get_results results) (results_have results)
results_fit (ask.DeviceInfo count) results = where_fits (ask.DeviceInfo count) _ (λ c. tt) (device_info_results count results)
results_fit ask.Write results = if_fits ask.Write _ tt (write_results results)
results_fit (ask.Read at count) results = where_fits (ask.Read at count) _ (λ c. tt) (read_results at count results)
results_fit ask.LayoutReturn results = if_fits ask.LayoutReturn _ refl (layout_return_results results)
results_fit ask.Renew results = if_fits ask.Renew _ tt (renew_results results)

compound_fits : (kind : MdsAsk) (status : ℕ) (results : List (Value resop4)) → Fits kind (compound_answer kind status results)
compound_fits kind status results = by_test (status == 0)
  where
    by_test : (b : Bool) → Fits kind (if b then results_of_ask kind results else Refused status)
    by_test true = results_fit kind results
    by_test false = tt

whole_fits : (kind : MdsAsk) (r : Result (Value compound4_res) XdrError) → Fits kind (compound_reply kind r).answer
whole_fits kind (Ok (status, (tag, results))) = compound_fits kind status results
whole_fits kind (Err e) = tt

reply_fits : (kind : MdsAsk) (reply : RpcReply) → Fits kind (reply_of_ask kind reply).answer
reply_fits kind reply = by_test (is_success reply.stat)
  where
    by_test : (b : Bool) → Fits kind (if b then compound_reply kind (whole reply.results (reading compound4_res reply.results 0)) else odd_mds_reply).answer
    by_test true = whole_fits kind (whole reply.results (reading compound4_res reply.results 0))
    by_test false = tt

few_mirrors : (mirrors : List Mirror) → are_mirrors mirrors ≡ true → length mirrors ≤ 4
few_mirrors mirrors are = leb-true (length mirrors) 4 (first (nat_le (length mirrors) 4) (are_on_different_servers mirrors) are)
  where
    first : (a b : Bool) → a && b ≡ true → a ≡ true
    first true b is = refl
    first false b is = absurd cc

pub granted_kind : (kind : MdsAsk) (reply : RpcReply) (g : LayoutGrant) → (reply_of_ask kind reply).answer ≡ Granted g → kind ≡ ask.LayoutGet
granted_kind kind reply g is = (subst (Fits kind) is (reply_fits kind reply)).0

pub granted_few : (kind : MdsAsk) (reply : RpcReply) (g : LayoutGrant) → (reply_of_ask kind reply).answer ≡ Granted g → length g.mirrors ≤ 4
granted_few kind reply g is = few_mirrors g.mirrors (subst (Fits kind) is (reply_fits kind reply)).1

pub granted_apart : (kind : MdsAsk) (reply : RpcReply) (g : LayoutGrant) → (reply_of_ask kind reply).answer ≡ Granted g → are_on_different_servers g.mirrors ≡ true
granted_apart kind reply g is = second (nat_le (length g.mirrors) 4) (are_on_different_servers g.mirrors) (subst (Fits kind) is (reply_fits kind reply)).1
  where
    second : (a b : Bool) → a && b ≡ true → b ≡ true
    second true b is = is
    second false b is = absurd cc

pub granted_some : (kind : MdsAsk) (reply : RpcReply) (g : LayoutGrant) → (reply_of_ask kind reply).answer ≡ Granted g → IsSome g.mirrors
granted_some kind reply g is = (subst (Fits kind) is (reply_fits kind reply)).2

pub returned_kind : (kind : MdsAsk) (reply : RpcReply) → (reply_of_ask kind reply).answer ≡ Returned → kind ≡ ask.LayoutReturn
returned_kind kind reply is = subst (Fits kind) is (reply_fits kind reply)

pub client_kind : (kind : MdsAsk) (reply : RpcReply) (clientid sequence : ℕ) → (reply_of_ask kind reply).answer ≡ Client clientid sequence → kind ≡ ask.ExchangeId
client_kind kind reply clientid sequence is = subst (Fits kind) is (reply_fits kind reply)
