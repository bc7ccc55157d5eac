-- Which compound an answer is to, and what it says of the slot.
use Rattle.std.proofs.Common.{◌≡◌, ℕ, Bool, true, false, List, [], ◌∷◌, Option, Some, None, Result, Ok, Err, refl, sym, ap, subst, ◌∙◌, inl, inr, ◌⊎◌}
use Rattle.std.specs.Prelude.{nat_eq, ◌==◌, ◌&&◌, if◌then◌else◌}
use Rattle.std.proofs.lemmas.Bool.{eq-eqb}
use Rattle.ff_xdr.specs.declared.error.XdrError.{XdrError}
use Rattle.ff_xdr.specs.Form.{Form, Arm, Value}
use Rattle.ff_xdr.specs.Arms.{OneOf, Body}
use Rattle.ff_xdr.specs.Reading.{reading, whole}
use Rattle.rpc_record.specs.Replies.{RpcReply, is_success}
use Rattle.nfs4_compound.specs.Results.{resop4}
use Rattle.nfs4_compound.specs.Compounds.{compound4_res}
use Rattle.client_compounds.specs.MdsResults.{one_in, in_arm, is_done_result, sequence_ok}
use Rattle.client_session_calls.specs.SessionResults.{exchange_id_results, create_session_results, reclaim_complete_results, renew_results}
use Rattle.client_file_calls.specs.declared.grant.LayoutGrant.{LayoutGrant}
use Rattle.client_file_calls.specs.FileResults.{put_fh_ok, layout_get_ok, open_results, layout_get_results, device_info_results, write_results, read_results, layout_return_results}
use Rattle.client_mds_calls.specs.declared.ask.MdsAsk.{MdsAsk}
use Rattle.client_mds_calls.specs.declared.ask.MdsAsk.TheVariants as ask
use Rattle.client_mds_calls.specs.declared.reply.SlotReport.{SlotReport}
use Rattle.client_mds_calls.specs.declared.reply.SlotReport.TheVariants.{Taken, Uncached, Delayed, Unknown}
use Rattle.client_mds_calls.specs.MdsCalls.{takes_slot}
use Rattle.client_mds_calls.specs.MdsReplies.{MdsAnswerValue, Client, Session, Opened, Granted, Refused, MdsReplyValue, answer_if, answer_where, results_of_ask, slot_result, slot_answer_of, slot_told, compound_answer, compound_reply, odd_mds_reply, reply_of_ask}

-- ---- refusals

-- the status of a refusal
abbrev status_of : MdsAnswerValue → ℕ
status_of (Refused status) = status
status_of answer = 0

pub refused_apart : (n m : ℕ) → (n == m) ≡ false → Refused n ≡ Refused m → ⊥
refused_apart n m other same = true_false (sym (eq-eqb n m (ap status_of same)) ∙ other)
  where
    true_false : true ≡ false → ⊥
    true_false e = absurd cc

-- ---- which compound

-- a client is made by an EXCHANGE_ID alone, a session by a CREATE_SESSION, and a file opened by an OPEN; any other answer that is no refusal is to
-- a request on a slot
abbrev pub IsAnswerTo : MdsAsk → MdsAnswerValue → Type 0
IsAnswerTo kind (Client clientid sequence) = kind ≡ ask.ExchangeId
IsAnswerTo kind (Session session) = kind ≡ ask.CreateSession
IsAnswerTo kind (Opened file) = kind ≡ ask.Open
IsAnswerTo kind (Refused status) = Unit {0}
IsAnswerTo kind answer = takes_slot kind ≡ true

where_to : {A : Type 0} (kind : MdsAsk) (answer : A → MdsAnswerValue) → ((a : A) → IsAnswerTo kind (answer a)) → (o : Option A) → IsAnswerTo kind (answer_where answer o)
where_to kind answer each None = tt
where_to kind answer each (Some a) = each a

if_to : (kind : MdsAsk) (answer : MdsAnswerValue) → IsAnswerTo kind answer → (b : Bool) → IsAnswerTo kind (answer_if b answer)
if_to kind answer is true = is
if_to kind answer is false = tt

results_to : (kind : MdsAsk) (results : List (Value resop4)) → IsAnswerTo kind (results_of_ask kind results)
results_to ask.ExchangeId results = where_to ask.ExchangeId _ (λ c. refl) (exchange_id_results results)
results_to ask.CreateSession results = where_to ask.CreateSession _ (λ s. refl) (create_session_results results)
results_to ask.ReclaimComplete results = if_to ask.ReclaimComplete _ refl (reclaim_complete_results results)
results_to ask.Open results = where_to ask.Open _ (λ f. refl) (open_results results)
results_to ask.LayoutGet results = where_to ask.LayoutGet _ (λ g. refl) (layout_get_results results)
results_to (ask.DeviceInfo count) results = where_to (ask.DeviceInfo count) _ (λ d. refl) (device_info_results count results)
results_to ask.Write results = if_to ask.Write _ refl (write_results results)
results_to (ask.Read at count) results = where_to (ask.Read at count) _ (λ b. refl) (read_results at count results)
results_to ask.LayoutReturn results = if_to ask.LayoutReturn _ refl (layout_return_results results)
results_to ask.Renew results = if_to ask.Renew _ refl (renew_results results)

compound_to : (kind : MdsAsk) (r : Result (Value compound4_res) XdrError) → IsAnswerTo kind (compound_reply kind r).answer
compound_to kind (Err e) = tt
compound_to kind (Ok (status, (tag, results))) = by_test (status == 0)
  where
    by_test : (b : Bool) → IsAnswerTo kind (if b then results_of_ask kind results else Refused status)
    by_test true = results_to kind results
    by_test false = tt

pub answer_to : (kind : MdsAsk) (reply : RpcReply) → IsAnswerTo kind (reply_of_ask kind reply).answer
answer_to kind reply = by_test (is_success reply.stat)
  where
    by_test : (b : Bool) → IsAnswerTo kind (if b then compound_reply kind (whole reply.results (reading compound4_res reply.results 0)) else odd_mds_reply).answer
    by_test true = compound_to kind (whole reply.results (reading compound4_res reply.results 0))
    by_test false = tt

-- ---- what is made of one result twice

one_both : {A B C R S : Type 0} (P : R → S → Type 0) (here : Bool) (some : OneOf here A C → R) (none : R) (behind : (C → R) → B → R) (more : OneOf here A C → S) (other : S) (after : (C → S) → B → S)
    → ((b : OneOf here A C) → P (some b) (more b)) → P none other → ((f : C → R) (g : C → S) → ((c : C) → P (f c) (g c)) → (w : B) → P (behind f w) (after g w))
    → (v : A ⊎ B) → P (one_in {A = A} {B = B} {C = C} here some none behind v) (one_in {A = A} {B = B} {C = C} here more other after v)
one_both P true some none behind more other after each both further (inl v) = each v
one_both P true some none behind more other after each both further (inr v) = both
one_both P false some none behind more other after each both further (inl v) = both
one_both P false some none behind more other after each both further (inr v) = further some more each v

arm_both : {R S : Type 0} (P : R → S → Type 0) (n : ℕ) (form : Form) (some : Body n form → R) (none : R) (more : Body n form → S) (other : S) → ((b : Body n form) → P (some b) (more b)) → P none other
    → (v : Value form) → P (in_arm n form some none v) (in_arm n form more other v)
arm_both P n (Arm number body others) some none more other each both v =
    one_both P (nat_eq n number) some none (λ next w. in_arm n others next none w) more other (λ next w. in_arm n others next other w) each both (λ f g all w. arm_both P n others f none g other all both w) v
arm_both P n form some none more other each both v = both

-- where the SEQUENCE is OK, the request took effect
sequence_taken : (v : Value resop4) → sequence_ok v ≡ true → slot_answer_of (v ∷ []) ≡ Taken
sequence_taken v = arm_both (λ ok told. ok ≡ true → told ≡ Taken) 53 resop4 is_done_result false slot_result Unknown each (λ is. absurd cc) v
  where
    each : (b : Body 53 resop4) → is_done_result b ≡ true → slot_result b ≡ Taken
    each (inl done) is = refl
    each (inr status) is = absurd cc

-- ---- the slot

abbrev SaysTaken : MdsReplyValue → Type 0
SaysTaken r = (grant : LayoutGrant) → r.answer ≡ Granted grant → r.slot ≡ Taken

first : (a b : Bool) → (a && b) ≡ true → a ≡ true
first true b is = refl
first false b is = absurd cc

get_taken : (results : List (Value resop4)) (g : LayoutGrant) → layout_get_results results ≡ Some g → slot_answer_of results ≡ Taken
get_taken [] g is = absurd cc
get_taken (s ∷ []) g is = absurd cc
get_taken (s ∷ (p ∷ [])) g is = absurd cc
get_taken (s ∷ (p ∷ (l ∷ []))) g is = by_test (sequence_ok s && put_fh_ok p) refl is
  where
    by_test : (b : Bool) → (sequence_ok s && put_fh_ok p) ≡ b → (if b then layout_get_ok l else None) ≡ Some g → slot_answer_of (s ∷ (p ∷ (l ∷ []))) ≡ Taken
    by_test true ok is = sequence_taken s (first (sequence_ok s) (put_fh_ok p) ok)
    by_test false ok is = absurd cc
get_taken (s ∷ (p ∷ (l ∷ (k ∷ rest)))) g is = absurd cc

where_granted : (o : Option LayoutGrant) (g : LayoutGrant) → answer_where Granted o ≡ Granted g → o ≡ Some g
where_granted None g is = absurd cc
where_granted (Some k) g is = ap Some cc

no_grant : {A : Type 0} (answer : A → MdsAnswerValue) → ((a : A) (g : LayoutGrant) → answer a ≡ Granted g → ⊥) → (o : Option A) (g : LayoutGrant) → answer_where answer o ≡ Granted g → ⊥
no_grant answer each None g is = absurd cc
no_grant answer each (Some a) g is = each a g is

if_no_grant : (answer : MdsAnswerValue) → ((g : LayoutGrant) → answer ≡ Granted g → ⊥) → (b : Bool) (g : LayoutGrant) → answer_if b answer ≡ Granted g → ⊥
if_no_grant answer none true g is = none g is
if_no_grant answer none false g is = absurd cc

results_taken : (kind : MdsAsk) (results : List (Value resop4)) (g : LayoutGrant) → results_of_ask kind results ≡ Granted g → slot_told kind results ≡ Taken
results_taken ask.LayoutGet results g is = get_taken results g (where_granted (layout_get_results results) g is)
results_taken ask.ExchangeId results g is = absurd (no_grant _ (λ c g is. absurd cc) (exchange_id_results results) g is)
results_taken ask.CreateSession results g is = absurd (no_grant _ (λ s g is. absurd cc) (create_session_results results) g is)
results_taken ask.ReclaimComplete results g is = absurd (if_no_grant _ (λ g is. absurd cc) (reclaim_complete_results results) g is)
results_taken ask.Open results g is = absurd (no_grant _ (λ f g is. absurd cc) (open_results results) g is)
results_taken (ask.DeviceInfo count) results g is = absurd (no_grant _ (λ d g is. absurd cc) (device_info_results count results) g is)
results_taken ask.Write results g is = absurd (if_no_grant _ (λ g is. absurd cc) (write_results results) g is)
results_taken (ask.Read at count) results g is = absurd (no_grant _ (λ b g is. absurd cc) (read_results at count results) g is)
results_taken ask.LayoutReturn results g is = absurd (if_no_grant _ (λ g is. absurd cc) (layout_return_results results) g is)
results_taken ask.Renew results g is = absurd (if_no_grant _ (λ g is. absurd cc) (renew_results results) g is)

compound_taken : (kind : MdsAsk) (r : Result (Value compound4_res) XdrError) (g : LayoutGrant) → (compound_reply kind r).answer ≡ Granted g → (compound_reply kind r).slot ≡ Taken
compound_taken kind (Err e) g is = absurd cc
compound_taken kind (Ok (status, (tag, results))) g is = by_test (status == 0) is
  where
    by_test : (b : Bool) → (if b then results_of_ask kind results else Refused status) ≡ Granted g → slot_told kind results ≡ Taken
    by_test true is = results_taken kind results g is
    by_test false is = absurd cc

-- a layout is granted where the request took effect
pub granted_taken : (kind : MdsAsk) (reply : RpcReply) (g : LayoutGrant) → (reply_of_ask kind reply).answer ≡ Granted g → (reply_of_ask kind reply).slot ≡ Taken
granted_taken kind reply g = by_test (is_success reply.stat)
  where
    by_test : (b : Bool) → (let r : MdsReplyValue = if b then compound_reply kind (whole reply.results (reading compound4_res reply.results 0)) else odd_mds_reply in r.answer ≡ Granted g → r.slot ≡ Taken)
    by_test true = compound_taken kind (whole reply.results (reading compound4_res reply.results 0)) g
    by_test false = λ is. absurd cc

-- only a request on a slot is told that its reply was not kept
told_so : (kind : MdsAsk) (results : List (Value resop4)) → slot_told kind results ≡ Uncached → takes_slot kind ≡ true
told_so kind results = by_test (takes_slot kind) refl
  where
    by_test : (b : Bool) → takes_slot kind ≡ b → (if b then slot_answer_of results else Unknown) ≡ Uncached → takes_slot kind ≡ true
    by_test true takes is = takes
    by_test false takes is = absurd cc

compound_uncached : (kind : MdsAsk) (r : Result (Value compound4_res) XdrError) → (compound_reply kind r).slot ≡ Uncached → takes_slot kind ≡ true
compound_uncached kind (Err e) is = absurd cc
compound_uncached kind (Ok (status, (tag, results))) is = told_so kind results is

pub uncached_slot : (kind : MdsAsk) (reply : RpcReply) → (reply_of_ask kind reply).slot ≡ Uncached → takes_slot kind ≡ true
uncached_slot kind reply = by_test (is_success reply.stat)
  where
    by_test : (b : Bool) → (let r : MdsReplyValue = if b then compound_reply kind (whole reply.results (reading compound4_res reply.results 0)) else odd_mds_reply in r.slot ≡ Uncached → takes_slot kind ≡ true)
    by_test true = compound_uncached kind (whole reply.results (reading compound4_res reply.results 0))
    by_test false = λ is. absurd cc
