-- A LAYOUTRETURN that is answered as accepted took effect (RFC 8881, sections 18.44 and 18.46).
use Rattle.std.proofs.Common.{◌≡◌, ◌⊎◌, ℕ, Bool, true, false, List, [], ◌∷◌, Result, Ok, Err, refl, inl, inr}
use Rattle.std.specs.Prelude.{◌&&◌, ◌==◌, if◌then◌else◌, nat_eq}
use Rattle.ff_xdr.specs.declared.error.XdrError.{XdrError}
use Rattle.ff_xdr.specs.Form.{Form, Arm, Value}
use Rattle.ff_xdr.specs.Arms.{OneOf, Body}
use Rattle.ff_xdr.specs.Reading.{reading, whole}
use Rattle.rpc_record.specs.Replies.{RpcReply, is_success}
use Rattle.nfs4_compound.specs.Results.{resop4}
use Rattle.nfs4_compound.specs.Compounds.{compound4_res}
use Rattle.client_compounds.specs.MdsResults.{one_in, in_arm, is_done_result, sequence_ok}
use Rattle.client_file_calls.specs.FileResults.{put_fh_ok, layout_return_results, layout_return_ok}
use Rattle.client_mds_calls.specs.declared.reply.SlotReport.TheVariants.{Taken, Unknown}
use Rattle.client_mds_calls.specs.declared.ask.MdsAsk.TheVariants as ask
use Rattle.client_mds_calls.specs.MdsReplies.{Returned, Refused, answer_if, results_of_ask, slot_result, slot_answer_of, slot_told, compound_reply, odd_mds_reply, reply_of_ask}

one_both : {A B C R S : Type 0} (P : R → S → Type 0) (here : Bool) (some : OneOf here A C → R) (none : R) (behind : (C → R) → B → R) (more : OneOf here A C → S) (other : S) (after : (C → S) → B → S)
    → ((b : OneOf here A C) → P (some b) (more b)) → P none other → ((f : C → R) (g : C → S) → ((c : C) → P (f c) (g c)) → (w : B) → P (behind f w) (after g w))
    → (v : A ⊎ B) → P (one_in {A = A} {B = B} {C = C} here some none behind v) (one_in {A = A} {B = B} {C = C} here more other after v)
one_both P true some none behind more other after each both further (inl v) = each v
one_both P true some none behind more other after each both further (inr v) = both
one_both P false some none behind more other after each both further (inl v) = both
one_both P false some none behind more other after each both further (inr v) = further some more each v

arm_both : {R S : Type 0} (P : R → S → Type 0) (n : ℕ) (form : Form) (some : Body n form → R) (none : R) (more : Body n form → S) (other : S) → ((b : Body n form) → P (some b) (more b)) → P none other
    → (v : Value form) → P (in_arm n form some none v) (in_arm n form more other v)
arm_both P n (Arm number body others) some none more other each both v =
    one_both P (nat_eq n number) some none (λ next w. in_arm n others next none w) more other (λ next w. in_arm n others next other w) each both (λ f g all w. arm_both P n others f none g other all both w) v
arm_both P n form some none more other each both v = both

-- where the SEQUENCE is OK, the request took effect
sequence_taken : (v : Value resop4) → sequence_ok v ≡ true → slot_answer_of (v ∷ []) ≡ Taken
sequence_taken v = arm_both (λ ok told. ok ≡ true → told ≡ Taken) 53 resop4 is_done_result false slot_result Unknown each (λ is. absurd cc) v
  where
    each : (b : Body 53 resop4) → is_done_result b ≡ true → slot_result b ≡ Taken
    each (inl done) is = refl
    each (inr status) is = absurd cc

first : (a b : Bool) → (a && b) ≡ true → a ≡ true
first true b is = refl
first false b is = absurd cc

return_taken : (results : List (Value resop4)) → layout_return_results results ≡ true → slot_answer_of results ≡ Taken
return_taken [] is = absurd cc
return_taken (s ∷ []) is = absurd cc
return_taken (s ∷ (p ∷ [])) is = absurd cc
return_taken (s ∷ (p ∷ (r ∷ []))) is = sequence_taken s (first (sequence_ok s) (put_fh_ok p) (first (sequence_ok s && put_fh_ok p) (layout_return_ok r) is))
return_taken (s ∷ (p ∷ (r ∷ (k ∷ rest)))) is = absurd cc

if_returned : (b : Bool) → answer_if b Returned ≡ Returned → b ≡ true
if_returned true is = refl
if_returned false is = absurd cc

compound_taken : (r : Result (Value compound4_res) XdrError) → (compound_reply ask.LayoutReturn r).answer ≡ Returned → (compound_reply ask.LayoutReturn r).slot ≡ Taken
compound_taken (Err e) is = absurd cc
compound_taken (Ok (status, (tag, results))) is = by_test (status == 0) is
  where
    by_test : (b : Bool) → (if b then results_of_ask ask.LayoutReturn results else Refused status) ≡ Returned → slot_told ask.LayoutReturn results ≡ Taken
    by_test true is = return_taken results (if_returned (layout_return_results results) is)
    by_test false is = absurd cc

pub returned_taken : (reply : RpcReply) → (reply_of_ask ask.LayoutReturn reply).answer ≡ Returned → (reply_of_ask ask.LayoutReturn reply).slot ≡ Taken
returned_taken reply = by_test (is_success reply.stat)
  where
    by_test : (b : Bool) → (if b then compound_reply ask.LayoutReturn (whole reply.results (reading compound4_res reply.results 0)) else odd_mds_reply).answer ≡ Returned
        → (if b then compound_reply ask.LayoutReturn (whole reply.results (reading compound4_res reply.results 0)) else odd_mds_reply).slot ≡ Taken
    by_test true is = compound_taken (whole reply.results (reading compound4_res reply.results 0)) is
    by_test false is = absurd cc
