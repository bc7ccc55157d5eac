-- Arguments that are read whole are a compound of exactly these operations, and a call with them is taken as this compound.
use Rattle.std.proofs.Common.{◌≡◌, ℕ, zero, suc, true, false, not, cond, eqb, ltb, List, [], ◌∷◌, length, Option, None, Result, Ok, Err, refl, sym, ap, subst, ◌∙◌}
use Rattle.std.proofs.lemmas.Bool.{le-ltb}
use Rattle.std.specs.Int.{w32}
use Rattle.ff_xdr.specs.declared.error.XdrWhy.TheVariants.{TooLong, Rest}
use Rattle.ff_xdr.specs.Form.{Form, Number32, Pair, Array, Value}
use Rattle.ff_xdr.specs.Reading.{Read, ◌>>=◌, number_at, length_at, many_at, reading, rest_of, whole}
use Rattle.ff_xdr.proofs.Places.{bind_ok, bind_is, guard_ok, ok_is}
use Rattle.rpc_record.specs.declared.call.CallFault.{CallFault}
use Rattle.rpc_record.specs.Calls.{RpcCall, call_bytes}
use Rattle.rpc_record.specs.Laws.{IsCallReadAgain}
use Rattle.nfs4_compound.specs.declared.stop.Stop.TheVariants as stop
use Rattle.nfs4_compound.specs.Args.{argop4}
use Rattle.nfs4_compound.specs.declared.stop.Stop.{Stop}
use Rattle.nfs4_compound.specs.Operations.{OpList, left_at}
use Rattle.nfs4_compound.specs.AllOps.{served_ops}
use Rattle.nfs4_compound.specs.Compounds.{CompoundValue, whole_stop, compound_head, compound_of, compound_at, compound4_args, tag4}
use Rattle.nfs4_compound.specs.Laws.{AreServedWhole}
use Rattle.mds_receive.specs.MdsReceive.{with_call}
use Rattle.mds_receive.specs.MdsReceiveLaws.{compound_with, IsTakenWhole}

length_is : (max : ℕ) (bytes : List ℕ) (at : ℕ) (n : ℕ × ℕ) → length_at max bytes at ≡ Ok n → number_at w32 bytes at ≡ Ok n
unfolding length_at
length_is max bytes at n e =
    let a = bind_ok (number_at w32 bytes at) (λ k. cond (ltb max k.0) (Err (record { place = at; why = TooLong })) (Ok k)) n e in
    let g = guard_ok (ltb max a.0.0) (record { place = at; why = TooLong }) (Ok a.0) n a.2 in
    subst (λ (k : ℕ × ℕ). number_at w32 bytes at ≡ Ok k) (ok_is a.0 n g.1) a.1

many_length : {M : Type 0} (each : ℕ → Read M) (count at : ℕ) (vs : List M × ℕ) → many_at each count at ≡ Ok vs → length vs.0 ≡ count
many_length {M = M} each zero at vs e = subst (λ (p : List M × ℕ). length p.0 ≡ 0) (ok_is ([], at) vs e) refl
many_length {M = M} each (suc n) at vs e =
    let a = bind_ok (each at) (λ first. many_at each n first.1 >>= λ others. Ok (first.0 ∷ others.0, others.1)) vs e in
    let b = bind_ok (many_at each n a.0.1) (λ others. Ok (a.0.0 ∷ others.0, others.1)) vs a.2 in
    subst (λ (p : List M × ℕ). length p.0 ≡ suc n) (ok_is (a.0.0 ∷ b.0.0, b.0.1) vs b.2) (ap suc (many_length each n a.0.1 b.0 b.1))

-- ---- the head, and the operations behind it

abbrev listed : Form
listed = Array 4294967295 argop4

abbrev behind : Form
behind = Pair Number32 listed

abbrev behind_head : Form
behind_head = Pair Number32 Number32

abbrev made : List ℕ → Value compound4_args × ℕ → CompoundValue
made args v = record { tag = v.0.0; minorversion = v.0.1.0; count = length v.0.1.1; ops = record { values = v.0.1.1; stop = stop.End (left_at args v.1) }; stop = stop.End (left_at args v.1) }

abbrev value : List ℕ → ℕ → ℕ → OpList argop4 → Stop → CompoundValue
value tag minor count ops end = record { tag = tag; minorversion = minor; count = count; ops = ops; stop = end }

-- ---- pairs

record HasReadPair (first second : Form) (bytes : List ℕ) (at : ℕ) (v : Value (Pair first second) × ℕ) : Type 0 where
  a : Value first × ℕ
  b : Value second × ℕ
  front : reading first bytes at ≡ Ok a
  rest : reading second bytes a.1 ≡ Ok b
  same : ((a.0, b.0), b.1) ≡ v

pair_ok : (first second : Form) (bytes : List ℕ) (at : ℕ) (v : Value (Pair first second) × ℕ) → reading (Pair first second) bytes at ≡ Ok v → HasReadPair first second bytes at v
pair_ok first second bytes at v e =
    let a = bind_ok (reading first bytes at) (λ x. reading second bytes x.1 >>= λ y. Ok ((x.0, y.0), y.1)) v e in
    let b = bind_ok (reading second bytes a.0.1) (λ y. Ok ((a.0.0, y.0), y.1)) v a.2 in
    record { a = a.0; b = b.0; front = a.1; rest = b.1; same = ok_is ((a.0.0, b.0.0), b.0.1) v b.2 }

pair_is : (first second : Form) (bytes : List ℕ) (at : ℕ) (a : Value first × ℕ) (b : Value second × ℕ) → reading first bytes at ≡ Ok a → reading second bytes a.1 ≡ Ok b
    → reading (Pair first second) bytes at ≡ Ok ((a.0, b.0), b.1)
pair_is first second bytes at a b e f =
    bind_is (reading first bytes at) (λ x. reading second bytes x.1 >>= λ y. Ok ((x.0, y.0), y.1)) a e ∙ bind_is (reading second bytes a.1) (λ y. Ok ((a.0, y.0), y.1)) b f

-- ---- a compound

module _ (given : AreServedWhole) where
  -- behind a tag, a minor version and a count stand the operations
  parts_made : (args : List ℕ) (tag : List ℕ × ℕ) (minor count : ℕ × ℕ) (ops : List (Value argop4) × ℕ) → reading compound_head args 0 ≡ Ok ((tag.0, (minor.0, count.0)), count.1)
      → many_at (λ place. reading argop4 args place) count.0 count.1 ≡ Ok ops → compound_at args ≡ Ok (made args ((tag.0, (minor.0, ops.0)), ops.1))
  parts_made args tag minor count ops head e =
      let list = given count.0 args count.1 ops.0 ops.1 e in
      let size : length ops.0 ≡ count.0 = many_length (λ place. reading argop4 args place) count.0 count.1 ops e in
      let found : compound_at args ≡ Ok (value tag.0 minor.0 count.0 (served_ops count.0 args count.1) (whole_stop count.0 args count.1)) =
      bind_is (reading compound_head args 0) (λ h. Ok (compound_of args h)) ((tag.0, (minor.0, count.0)), count.1) head in
      let counted : compound_at args ≡ Ok (value tag.0 minor.0 (length ops.0) (served_ops count.0 args count.1) (whole_stop count.0 args count.1)) =
      subst (λ (k : ℕ). compound_at args ≡ Ok (value tag.0 minor.0 k (served_ops count.0 args count.1) (whole_stop count.0 args count.1))) (sym size) found in
      let listed : compound_at args ≡ Ok (value tag.0 minor.0 (length ops.0) (record { values = ops.0; stop = stop.End (left_at args ops.1) }) (whole_stop count.0 args count.1)) =
      subst (λ (o : OpList argop4). compound_at args ≡ Ok (value tag.0 minor.0 (length ops.0) o (whole_stop count.0 args count.1))) list.ops counted in
      subst (λ (t : Stop). compound_at args ≡ Ok (value tag.0 minor.0 (length ops.0) (record { values = ops.0; stop = stop.End (left_at args ops.1) }) t)) list.ends listed

  compound_is : (args : List ℕ) (v : Value compound4_args × ℕ) → reading compound4_args args 0 ≡ Ok v → compound_at args ≡ Ok (made args v)
  compound_is args v e =
      let t = pair_ok tag4 behind args 0 v e in
      let m = pair_ok Number32 listed args t.a.1 t.b t.rest in
      let n = bind_ok (length_at 4294967295 args m.a.1) (λ k. many_at (λ place. reading argop4 args place) k.0 k.1) m.b m.rest in
      let two : reading behind_head args t.a.1 ≡ Ok ((m.a.0, n.0.0), n.0.1) = pair_is Number32 Number32 args t.a.1 m.a n.0 m.front (length_is 4294967295 args m.a.1 n.0 n.1) in
      let head : reading compound_head args 0 ≡ Ok ((t.a.0, (m.a.0, n.0.0)), n.0.1) = pair_is tag4 behind_head args 0 t.a ((m.a.0, n.0.0), n.0.1) t.front two in
      let whole_list : compound_at args ≡ Ok (made args ((t.a.0, (m.a.0, m.b.0)), m.b.1)) = parts_made args t.a m.a n.0 m.b head n.2 in
      let behind_tag : compound_at args ≡ Ok (made args ((t.a.0, t.b.0), t.b.1)) =
      subst (λ (w : Value behind × ℕ). compound_at args ≡ Ok (made args ((t.a.0, w.0), w.1))) m.same whole_list in
      subst (λ (w : Value compound4_args × ℕ). compound_at args ≡ Ok (made args w)) t.same behind_tag

  pub compound_whole : (args tag : List ℕ) (ops : List (Value argop4)) → whole args (reading compound4_args args 0) ≡ Ok (tag, (1, ops)) → compound_at args ≡ Ok (compound_with tag ops)
  compound_whole args tag ops e =
      let r = bind_ok (reading compound4_args args 0) (λ v. rest_of args v.1 >>= λ nothing. Ok v.0) (tag, (1, ops)) e in
      let s = bind_ok (rest_of args r.0.1) (λ nothing. Ok r.0.0) (tag, (1, ops)) r.2 in
      let g = guard_ok (ltb r.0.1 (length args)) (record { place = r.0.1; why = Rest }) (Ok tt) s.0 s.1 in
      let none : left_at args r.0.1 ≡ None = rw (g.0) refl in
      let same : r.0.0 ≡ (tag, (1, ops)) = ok_is {A = Value compound4_args} r.0.0 (tag, (1, ops)) s.2 in
      let found : compound_at args ≡ Ok (made args r.0) = compound_is args r.0 r.1 in
      let ended : compound_at args ≡ Ok (record { tag = r.0.0.0; minorversion = r.0.0.1.0; count = length r.0.0.1.1; ops = record { values = r.0.0.1.1; stop = stop.End None }; stop = stop.End None }) =
      subst (λ (rest : Option ℕ). compound_at args ≡ Ok (record { tag = r.0.0.0; minorversion = r.0.0.1.0; count = length r.0.0.1.1; ops = record { values = r.0.0.1.1; stop = stop.End rest }; stop = stop.End rest })) none found in
      subst (λ (w : Value compound4_args). compound_at args ≡ Ok (record { tag = w.0; minorversion = w.1.0; count = length w.1.1; ops = record { values = w.1.1; stop = stop.End None }; stop = stop.End None })) same ended

  pub taken : (header : (c : RpcCall) → IsCallReadAgain c) (call : RpcCall) (tag : List ℕ) (ops : List (Value argop4)) → IsTakenWhole call tag ops
  taken header call tag ops = λ h a.
      let program : not (eqb call.program 100003) ≡ false = ap (λ (k : ℕ). not (eqb k 100003)) a.program in
      let version : not (eqb call.version 4) ≡ false = ap (λ (k : ℕ). not (eqb k 4)) a.version in
      let null : eqb call.procedure 0 ≡ false = ap (λ (k : ℕ). eqb k 0) a.procedure in
      let compound : eqb call.procedure 1 ≡ true = ap (λ (k : ℕ). eqb k 1) a.procedure in
      let args = compound_whole call.args tag ops a.args in
      let few : ltb 16 (length ops) ≡ false = le-ltb _ _ (a.few) in
      ap (λ (r : Result RpcCall CallFault). with_call r (call_bytes call)) (header call h.0 h.1)
      ∙ rw (program, version, null, compound) (rw args (rw few refl))
