-- What the notes of a run tell: a callback that is out has timed out at most twice.
use Rattle.std.proofs.Common.{◌≡◌, ℕ, ◌+◌, ◌<◌, Bool, true, false, cond, eqb, ltb, List, [], ◌∷◌, Option, Some, None, refl, ap, arith}
use Rattle.std.proofs.lemmas.Option.{same_Some, none-some}
use Rattle.std.proofs.lemmas.Bool.{ltb-true}
use Rattle.recall.specs.declared.recall.RecallCall.{RecallCall}
use Rattle.recall.specs.RecallLaws.{RecallNote, WasAsked, WasSent, WasAnswered, WasLate, HasExpired, WasEnded, OutRecall, is_call_of, late_once, unless_call, call_out}

few_late : (o : Option OutRecall) (out : OutRecall) → late_once o ≡ Some out → out.timeouts < 3
few_late None out is = absurd (none-some out is)
few_late (Some o) out is = by_test (ltb (o.timeouts + 1) 3) refl is
  where
    by_test : (b : Bool) → ltb (o.timeouts + 1) 3 ≡ b → cond {A = Option OutRecall} b (Some (record { call = o.call; timeouts = o.timeouts + 1 })) None ≡ Some out → out.timeouts < 3
    by_test true few is =
        let less = ltb-true (o.timeouts + 1) 3 few in
        let more : o.timeouts + 1 ≡ out.timeouts = ap (λ (x : OutRecall). x.timeouts) (same_Some (record { call = o.call; timeouts = o.timeouts + 1 }) out is) in
        omega (arith, less, more)
    by_test false few is = absurd (none-some out is)

few_kept : (test : RecallCall → Bool) (o : Option OutRecall) (out : OutRecall) → unless_call test o ≡ Some out → o ≡ Some out
few_kept test None out is = is
few_kept test (Some o) out is = by_test (test o.call) is
  where
    by_test : (b : Bool) → cond {A = Option OutRecall} b None (Some o) ≡ Some out → Some o ≡ Some out
    by_test true is = absurd (none-some out is)
    by_test false is = is

pub few_out : (notes : List RecallNote) (xid : ℕ) (out : OutRecall) → call_out notes xid ≡ Some out → out.timeouts < 3
few_out [] xid out is = absurd (none-some out is)
few_out (WasAsked file cred client at ∷ before) xid out is = few_out before xid out is
few_out (WasSent call ∷ before) xid out is = by_test (eqb call.xid xid) is (few_out before xid out)
  where
    by_test : (b : Bool) → cond {A = Option OutRecall} b (Some (record { call = call; timeouts = 0 })) (call_out before xid) ≡ Some out → (call_out before xid ≡ Some out → out.timeouts < 3) → out.timeouts < 3
    by_test true is rest = let none : 0 ≡ out.timeouts = ap (λ (x : OutRecall). x.timeouts) (same_Some (record { call = call; timeouts = 0 }) out is) in omega (arith, none)
    by_test false is rest = rest is
few_out (WasAnswered own status ∷ before) xid out is = by_test (eqb own xid) is (few_out before xid out)
  where
    by_test : (b : Bool) → cond {A = Option OutRecall} b None (call_out before xid) ≡ Some out → (call_out before xid ≡ Some out → out.timeouts < 3) → out.timeouts < 3
    by_test true is rest = absurd (none-some out is)
    by_test false is rest = rest is
few_out (WasLate own ∷ before) xid out is = by_test (eqb own xid) is (few_out before xid out)
  where
    by_test : (b : Bool) → cond {A = Option OutRecall} b (late_once (call_out before xid)) (call_out before xid) ≡ Some out → (call_out before xid ≡ Some out → out.timeouts < 3) → out.timeouts < 3
    by_test true is rest = few_late (call_out before xid) out is
    by_test false is rest = rest is
few_out (HasExpired file cred ∷ before) xid out is = few_out before xid out (few_kept (is_call_of file cred) (call_out before xid) out is)
few_out (WasEnded file ∷ before) xid out is = few_out before xid out (few_kept (λ call. eqb call.file.0 file.0) (call_out before xid) out is)
