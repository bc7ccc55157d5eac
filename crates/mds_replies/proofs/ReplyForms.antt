-- The replies to a client's request on a slot fit their form, by their results: the SEQUENCE, what stands behind it, and refusals.
use Rattle.std.proofs.Common.{◌≡◌, ◌≤◌, ◌<◌, ℕ, Bool, true, false, cond, List, [], ◌∷◌, length, Some, ap, subst, ◌∙◌, arith}
use Rattle.std.proofs.lemmas.Option.{same_Some, none-some}
use Rattle.std.specs.Prelude.{IsTrue, ◌==◌, ◌^◌, nat_eq}
use Rattle.std.specs.List.{AllByRecursion, list_any}
use Rattle.ff_xdr.specs.Form.{Value, Fits, spelling}
use Rattle.nfs4_types.specs.declared.sequence.Sequence.{Sequence}
use Rattle.nfs4_types.specs.declared.status.Stat4.{Stat4}
use Rattle.nfs4_types.specs.Status.{stat4_number, stats4}
use Rattle.nfs4_compound.specs.Results.{resop4}
use Rattle.nfs4_compound.specs.Compounds.{compound4_res}
use Rattle.compound_reply.specs.Replied.{success_reply}
use Rattle.client_mds_calls.specs.declared.ask.MdsAsk.{MdsAsk}
use Rattle.client_mds_calls.specs.MdsReplies.{MdsAnswerValue, MdsReplyValue, Refused, reply_of_ask, results_of_ask}
use Rattle.mds_refusals.specs.Orders.{Order, refusal}
use Rattle.mds_rule.specs.OpSteps.{refused_as}
use Rattle.mds_rule.specs.Compounds.{sequence_result}
use Rattle.mds_walk.proofs.Lists.{AllOf}
use Rattle.mds_replies.proofs.ReplySent.{read_as}
use Rattle.mds_replies.proofs.ExchangeRuns.{no_tag}

-- ---- results that fit

pub sequence_fits : (s : Sequence) → length s.session.0 ≡ 16 → s.sequence < 2 ^ 32 → s.slot ≡ 0 → Fits resop4 (sequence_result s)
sequence_fits s id number slot = (id, (number, (omega (arith, slot), (omega arith, (omega arith, omega arith)))))

-- a refusal of an operation, by a status other than OK
pub record IsRefusal (number : ℕ) (status : Stat4) : Type 0 where
  pub some : (stat4_number status == 0) ≡ false
  pub its_number : IsTrue (list_any (nat_eq (stat4_number status)) stats4)
  pub fits : Fits resop4 (refused_as number status)

-- the first that holds of an order is so where all are
pub in_order : (P : Stat4 → Type 0) (order : Order) → AllOf (λ (f : Bool × Stat4). P f.1) order → (status : Stat4) → refusal order ≡ Some status → P status
in_order P [] all status is = absurd (none-some status is)
in_order P (f ∷ order) all status is = by_test f.0 is (λ its. in_order P order all.1 status its)
  where
    by_test : (b : Bool) → cond b (Some f.1) (refusal order) ≡ Some status → (refusal order ≡ Some status → P status) → P status
    by_test true its rest = subst P (same_Some f.1 status its) all.0
    by_test false its rest = rest its

-- ---- a reply

-- of few results, each of which fits
pub reply_fits : (status : ℕ) (results : List (Value resop4)) → IsTrue (list_any (nat_eq status) stats4) → length results ≤ 4294967295 → AllByRecursion (Fits resop4) results → Fits compound4_res (status, ([], results))
reply_fits status results its few all = (its, ((omega arith, no_tag), (few, all)))

-- what it says: its status alone, where it is another than OK
pub refused_says : (kind : MdsAsk) (xid status : ℕ) (results : List (Value resop4)) → Fits compound4_res (status, ([], results)) → (status == 0) ≡ false
    → (reply_of_ask kind (success_reply xid (spelling compound4_res (status, ([], results))))).answer ≡ Refused status
refused_says kind xid status results fits some =
    ap (λ (r : MdsReplyValue). r.answer) (read_as kind xid (status, ([], results)) fits) ∙ ap (λ (b : Bool). cond {A = MdsAnswerValue} b (results_of_ask kind results) (Refused status)) some

pub done_says : (kind : MdsAsk) (xid : ℕ) (results : List (Value resop4)) → Fits compound4_res (0, ([], results))
    → (reply_of_ask kind (success_reply xid (spelling compound4_res (0, ([], results))))).answer ≡ results_of_ask kind results
done_says kind xid results fits = ap (λ (r : MdsReplyValue). r.answer) (read_as kind xid (0, ([], results)) fits)
