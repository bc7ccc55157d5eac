-- Replies that are refused.
use Rattle.std.proofs.Common.{◌≡◌, ℕ, ◌+◌, ◌<◌, Bool, true, false, cond, ltb, List, [], length, take, Result, Ok, Err, refl, sym, ap, subst, ◌∙◌, arith, inl, inr}
use Rattle.std.specs.Prelude.{◌⊎◌}
use Rattle.std.proofs.lemmas.Bool.{ltb-true, lt-ltb}
use Rattle.ff_xdr.specs.declared.error.XdrError.{XdrError}
use Rattle.ff_xdr.specs.declared.error.XdrWhy.TheVariants.{Rest}
use Rattle.ff_xdr.specs.Form.{Value}
use Rattle.ff_xdr.specs.Laws.{behind}
use Rattle.ff_xdr.specs.Reading.{Read, ◌>>=◌, reading}
use Rattle.ff_xdr.proofs.Refusals.{below, seen}
use Rattle.ff_xdr.proofs.Seen.{Seen, Took, end_of, same_byte}
use Rattle.ff_xdr.proofs.Sequences.{take_less}
use Rattle.rpc_record.specs.Replies.{RpcReply, reply_header, is_success, reply_of_header, results_at, reply_at}
use Rattle.rpc_record.specs.Laws.{IsReplyShortAtEnd, IsReplyRefusedThere}
use Rattle.rpc_record.proofs.Records.{all_short, all_stop}
use Rattle.rpc_record.proofs.ReplyLaws.{with_results, reply_behind}

abbrev pub failed : {A : Type 0} → XdrError → Result A XdrError
failed e = Err e

abbrev pub rest : ℕ → XdrError
rest at = record { place = at; why = Rest }

failed_same : {A : Type 0} (d e : XdrError) → failed {A = A} d ≡ failed {A = A} e → d ≡ e
failed_same d e is = cc

-- bytes are left over behind a header, and would be in any record that goes on
pub record LeavesRest (bytes : List ℕ) (at : ℕ) (reply : List ℕ → Result RpcReply XdrError) (e : XdrError) : Type 0 where
  pub left : at < length bytes
  pub refusal : rest at ≡ e
  pub more : (other : List ℕ) → at < length other → reply other ≡ failed (rest at)

abbrev rest_by : Bool → ℕ → Result (Unit {0}) XdrError
rest_by t at = cond t (Err (rest at)) (Ok tt)

rest_left : (t : Bool) (at : ℕ) (r : RpcReply) (e : XdrError) → (rest_by t at >>= (λ nothing. Ok []) >>= λ results. Ok (with_results r results)) ≡ failed e → (t ≡ true) × (rest at ≡ e)
rest_left true at r e is = (refl, failed_same {A = RpcReply} (rest at) e is)
rest_left false at r e is = absurd cc

abbrev results_by : Bool → ℕ → RpcReply → List ℕ → Result RpcReply XdrError
results_by has at r bytes = results_at has bytes at >>= λ results. Ok (with_results r results)

leaves_rest : (has : Bool) (bytes : List ℕ) (at : ℕ) (r : RpcReply) (e : XdrError) → results_by has at r bytes ≡ failed e → LeavesRest bytes at (results_by has at r) e
leaves_rest true bytes at r e is = absurd cc
leaves_rest false bytes at r e is =
    let both = rest_left (ltb at (length bytes)) at r e is in
    record {
      left = ltb-true _ _ both.0;
      refusal = both.1;
      more = λ other lt.
          let left : ltb at (length other) ≡ true = lt-ltb _ _ lt in
          rw left refl;
    }

-- ---- the header, and what stands behind it

abbrev pub with_header : List ℕ → Read (Value reply_header) → Result RpcReply XdrError
with_header bytes r = r >>= (λ v. Ok (reply_of_header v.0, v.1)) >>= reply_behind bytes

-- a header is refused, or it was read with bytes left over
pub reply_cases : (bytes : List ℕ) (r : Read (Value reply_header)) (e : XdrError) → with_header bytes r ≡ failed e
    → (r ≡ Err e) ⊎ ((v : Value reply_header × ℕ) × (r ≡ Ok v) × LeavesRest bytes v.1 (λ b. with_header b (Ok v)) e)
reply_cases bytes (Err d) e is = inl (ap Err (failed_same {A = RpcReply} d e is))
reply_cases bytes (Ok v) e is = inr (v, refl, leaves_rest (is_success (reply_of_header v.0).stat) bytes v.1 (reply_of_header v.0) e is)

pub reply_short : all_short → IsReplyShortAtEnd
unfolding reply_at
reply_short short = λ bytes e is why. elim (reply_cases bytes (reading reply_header bytes 0) e is) [
  | inl refusal ↦ short reply_header refl 0 bytes e refusal why
  | inr over ↦
      let rest-why : Rest ≡ e.why = ap (λ (d : XdrError). d.why) over.2.refusal in
      absurd cc
]

pub reply_stops : all_stop → IsReplyRefusedThere
unfolding reply_at
reply_stops stops = λ bytes other e is why same. elim (reply_cases bytes (reading reply_header bytes 0) e is) [
  | inl refusal ↦ ap (with_header other) (stops reply_header refl 0 bytes other e refusal why same)
  | inr over ↦
      let v = over.0 in
      let ends : behind e ≡ v.1 + 1 = ap (λ (d : XdrError). behind d) (sym over.2.refusal) in
      let there : take (v.1 + 1) bytes ≡ take (v.1 + 1) other = subst (λ (k : ℕ). take k bytes ≡ take k other) ends same in
      let took : Took end_of 0 (λ b. reading reply_header b 0) bytes v = subst (λ (q : Read (Value reply_header)). Seen end_of 0 (λ b. reading reply_header b 0) bytes q) over.1 (below reply_header bytes 0 (seen reply_header refl bytes 0)) in
      let read : reading reply_header other 0 ≡ Ok v = took.same other (take_less v.1 (v.1 + 1) bytes other (omega arith) there) in
      let left = same_byte bytes other v.1 over.2.left there in
      ap (with_header other) read ∙ over.2.more other left.0 ∙ ap failed over.2.refusal
]
