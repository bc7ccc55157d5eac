-- Reading two unions as one, where it is known of which of them the number is.
use Rattle.std.proofs.Common.{◌≡◌, ℕ, zero, suc, Bool, true, false, ◌||◌, eqb, List, [], ◌∷◌, None, Result, Ok, Err, refl, sym, ap, subst, ◌∙◌, inl, inr}
use Rattle.std.specs.Prelude.{◌⊎◌, map}
use Rattle.std.specs.Int.{w32}
use Rattle.ff_xdr.specs.declared.error.XdrError.{XdrError}
use Rattle.std.specs.Result.{IsErrAnd}
use Rattle.std.proofs.lemmas.Result.{err_from_is_err_and}
use Rattle.ff_xdr.specs.Calls.{Place, Decodes}
use Rattle.ff_xdr.specs.Form.{Form, Arm, NoArm, Value, has_arm}
use Rattle.ff_xdr.specs.Reading.{Read, ◌>>=◌, number_at, arm_at, reading, many_at}
use Rattle.ff_xdr.proofs.Places.{bind_ok, ok_is}
use Rattle.nfs4_unserved_ops.specs.Args.{unserved_argop4}
use Rattle.nfs4_compound.specs.declared.stop.Stop.{Stop}
use Rattle.nfs4_compound.specs.declared.stop.Stop.TheVariants as stop
use Rattle.nfs4_compound.specs.Args.{argop4}
use Rattle.nfs4_compound.specs.Joined.{joined, ahead, ends_in_arms, behind, in_tail, side_of}
use Rattle.nfs4_compound.specs.Operations.{OpList, left_at, operations, rest_now}
use Rattle.nfs4_compound.specs.AllOps.{nfs_argop4, served_first, served_of, served_list, served_ops}
use Rattle.nfs4_compound.specs.Laws.{GivesWhole, AreServedWhole}
use Rattle.nfs4_compound.proofs.Listings.{given_whole}

-- ---- numbers

or_none : (a b : Bool) → a || b ≡ false → (a ≡ false) × (b ≡ false)
or_none true b h = absurd cc
or_none false b h = (refl, h)

either : (a b c : Bool) → (b ≡ true → c ≡ true) → a || b ≡ true → a || c ≡ true
either true b c more h = refl
either false b c more h = more h

-- an arm of the first union is one of both
pub arm_ahead : (front tail : Form) (n : ℕ) → has_arm n front ≡ true → has_arm n (joined front tail) ≡ true
arm_ahead (Arm number body others) tail n h = either (eqb n number) (has_arm n others) (has_arm n (joined others tail)) (arm_ahead others tail n) h
arm_ahead _ tail n h = absurd cc

-- ---- a number of the second union

abbrev onto_tail : (front tail : Form) → ends_in_arms front → Read (Value tail) → Read (Value (joined front tail))
onto_tail front tail ends r = r >>= λ v. Ok (behind front tail ends v.0, v.1)

same : {A : Type 0} (r : Read A) → r ≡ (r >>= λ v. Ok (v.0, v.1))
same (Ok v) = refl
same (Err e) = refl

behind_one : (number : ℕ) (body others tail : Form) (ends : ends_in_arms others) (b : Read (Value body)) (r : Read (Value tail))
    → arm_at false b (onto_tail others tail ends r) ≡ onto_tail (Arm number body others) tail ends r
behind_one number body others tail ends b (Ok v) = refl
behind_one number body others tail ends b (Err e) = refl

past_front : (front tail : Form) (ends : ends_in_arms front) (n : ℕ) (bytes : List ℕ) (at to : ℕ) → number_at w32 bytes at ≡ Ok (n, to) → has_arm n front ≡ false
    → reading (joined front tail) bytes at ≡ onto_tail front tail ends (reading tail bytes at)
past_front (Arm number body others) tail ends n bytes at to read none =
    let parts = or_none (eqb n number) (has_arm n others) none in
    let rest = past_front others tail ends n bytes at to read parts.1 in
    rw (read, parts.0, rest) (behind_one number body others tail ends (reading body bytes to) (reading tail bytes at))
past_front NoArm tail ends n bytes at to read none = same (reading tail bytes at)
past_front _ tail ends n bytes at to read none = absurd ends

tail_is : (front tail : Form) (ends : ends_in_arms front) (old fork after : Place) (n : ℕ) → fork ≡ old
    → (number_at w32 fork.bytes fork.at ≡ Ok (n, after.at)) × (after.bytes ≡ fork.bytes) → has_arm n front ≡ false
    → reading (joined front tail) old.bytes old.at ≡ onto_tail front tail ends (reading tail old.bytes old.at)
tail_is front tail ends old fork after n same number none =
    let read = subst (λ (q : Place). number_at w32 q.bytes q.at ≡ Ok (n, after.at)) same number.0 in
    past_front front tail ends n old.bytes old.at after.at read none

-- what a reader of both owes, by what the reader of the second did
pub tail_read : {X : Type 0} (front tail : Form) (ends : ends_in_arms front) (view : X → Value (joined front tail)) (old fork after final : Place) (n : ℕ) (x : X) (v : Value tail)
    → fork ≡ old → (number_at w32 fork.bytes fork.at ≡ Ok (n, after.at)) × (after.bytes ≡ fork.bytes) → has_arm n front ≡ false
    → (reading tail old.bytes old.at ≡ Ok (v, final.at)) × (final.bytes ≡ old.bytes) → view x ≡ behind front tail ends v
    → Decodes view old (Ok x) final (reading (joined front tail) old.bytes old.at)
tail_read front tail ends view old fork after final n x v same number none h is = (
  tail_is front tail ends old fork after n same number none ∙ ap (λ (r : Read (Value tail)). onto_tail front tail ends r) h.0
      ∙ ap (λ (u : Value (joined front tail)). Ok (u, final.at)) (sym is),
  h.1,
)

pub tail_refused : {X : Type 0} {Q : XdrError → Type 0} (front tail : Form) → ends_in_arms front → (view : X → Value (joined front tail)) (old fork after final : Place) (n : ℕ) (e : XdrError)
    (r : Result X XdrError) → fork ≡ old → (number_at w32 fork.bytes fork.at ≡ Ok (n, after.at)) × (after.bytes ≡ fork.bytes) → has_arm n front ≡ false
    → (reading tail old.bytes old.at ≡ Err e) × (final ≡ old) → IsErrAnd r Q → ((y : XdrError) → Q y → e ≡ y)
    → Decodes view old r final (reading (joined front tail) old.bytes old.at)
tail_refused front tail ends view old fork after final n e r same number none h is is_e =
    let p = err_from_is_err_and r is in
    let all = tail_is front tail ends old fork after n same number none ∙ ap (λ (t : Read (Value tail)). onto_tail front tail ends t) h.0 ∙ ap (λ (f : XdrError). Err f) (is_e p.0 p.2) in
    subst (λ s. Decodes view old s final (reading (joined front tail) old.bytes old.at)) (sym p.1) (all, h.1)

-- ---- a number of the first union

abbrev onto_front : (front tail : Form) → Read (Value front) → Read (Value (joined front tail))
onto_front front tail r = r >>= λ v. Ok (ahead front tail v.0, v.1)

here_or : (number : ℕ) (body others tail : Form) (here more : Bool) (b : Read (Value body)) (o : Read (Value others)) (g : Read (Value (joined others tail)))
    → here || more ≡ true → (more ≡ true → g ≡ onto_front others tail o) → arm_at here b g ≡ onto_front (Arm number body others) tail (arm_at here b o)
here_or number body others tail true more (Ok v) o g built rest = refl
here_or number body others tail true more (Err e) o g built rest = refl
here_or number body others tail false more b (Ok v) g built rest =
    let is = rest built in
    rw is refl
here_or number body others tail false more b (Err e) g built rest =
    let is = rest built in
    rw is refl

of_front : (front tail : Form) (n : ℕ) (bytes : List ℕ) (at to : ℕ) → number_at w32 bytes at ≡ Ok (n, to) → has_arm n front ≡ true
    → reading (joined front tail) bytes at ≡ onto_front front tail (reading front bytes at)
of_front (Arm number body others) tail n bytes at to read built =
    rw read (here_or number body others tail (eqb n number) (has_arm n others) (reading body bytes to) (reading others bytes at) (reading (joined others tail) bytes at) built
    (λ more. of_front others tail n bytes at to read more))
of_front _ tail n bytes at to read built = absurd cc

front_is : (front tail : Form) (old fork after : Place) (n : ℕ) → fork ≡ old → (number_at w32 fork.bytes fork.at ≡ Ok (n, after.at)) × (after.bytes ≡ fork.bytes)
    → has_arm n front ≡ true → reading (joined front tail) old.bytes old.at ≡ onto_front front tail (reading front old.bytes old.at)
front_is front tail old fork after n same number built =
    let read = subst (λ (q : Place). number_at w32 q.bytes q.at ≡ Ok (n, after.at)) same number.0 in
    of_front front tail n old.bytes old.at after.at read built

pub front_read : {X : Type 0} (front tail : Form) (view : X → Value (joined front tail)) (old fork after final : Place) (n : ℕ) (x : X) (v : Value front)
    → fork ≡ old → (number_at w32 fork.bytes fork.at ≡ Ok (n, after.at)) × (after.bytes ≡ fork.bytes) → has_arm n front ≡ true
    → (reading front old.bytes old.at ≡ Ok (v, final.at)) × (final.bytes ≡ old.bytes) → view x ≡ ahead front tail v
    → Decodes view old (Ok x) final (reading (joined front tail) old.bytes old.at)
front_read front tail view old fork after final n x v same number built h is = (
  front_is front tail old fork after n same number built ∙ ap (λ (r : Read (Value front)). onto_front front tail r) h.0
      ∙ ap (λ (u : Value (joined front tail)). Ok (u, final.at)) (sym is),
  h.1,
)

pub front_refused : {X : Type 0} {Q : XdrError → Type 0} (front tail : Form) (view : X → Value (joined front tail)) (old fork after final : Place) (n : ℕ) (e : XdrError)
    (r : Result X XdrError) → fork ≡ old → (number_at w32 fork.bytes fork.at ≡ Ok (n, after.at)) × (after.bytes ≡ fork.bytes) → has_arm n front ≡ true
    → (reading front old.bytes old.at ≡ Err e) × (final ≡ old) → IsErrAnd r Q → ((y : XdrError) → Q y → e ≡ y)
    → Decodes view old r final (reading (joined front tail) old.bytes old.at)
front_refused front tail view old fork after final n e r same number built h is is_e =
    let p = err_from_is_err_and r is in
    let all = front_is front tail old fork after n same number built ∙ ap (λ (t : Read (Value front)). onto_front front tail t) h.0 ∙ ap (λ (f : XdrError). Err f) (is_e p.0 p.2) in
    subst (λ s. Decodes view old s final (reading (joined front tail) old.bytes old.at)) (sym p.1) (all, h.1)

-- ---- what the first union reads, both read

front_given : (number : ℕ) (body others tail : Form) (here : Bool) (b : Read (Value body)) (o : Read (Value others)) (g : Read (Value (joined others tail)))
    (v : Value (Arm number body others)) (to : ℕ) → arm_at here b o ≡ Ok (v, to) → ((w : Value others) (end : ℕ) → o ≡ Ok (w, end) → g ≡ Ok (ahead others tail w, end))
    → arm_at here b g ≡ Ok (ahead (Arm number body others) tail v, to)
front_given number body others tail true (Ok x) o g v to is rest =
    ap (λ (p : Value (Arm number body others) × ℕ). Ok (ahead (Arm number body others) tail p.0, p.1)) (ok_is {A = Value (Arm number body others) × ℕ} (inl x.0, x.1) (v, to) is)
front_given number body others tail true (Err e) o g v to is rest = absurd cc
front_given number body others tail false b (Ok x) g v to is rest =
    let there : g ≡ Ok (ahead others tail x.0, x.1) = rest x.0 x.1 refl in
    rw there (ap (λ (p : Value (Arm number body others) × ℕ). Ok (ahead (Arm number body others) tail p.0, p.1)) (ok_is {A = Value (Arm number body others) × ℕ} (inr x.0, x.1) (v, to) is))
front_given number body others tail false b (Err e) g v to is rest = absurd cc

pub read_joined : (front tail : Form) → ends_in_arms front → (bytes : List ℕ) (at : ℕ) (v : Value front) (to : ℕ) → reading front bytes at ≡ Ok (v, to)
    → reading (joined front tail) bytes at ≡ Ok (ahead front tail v, to)
read_joined (Arm number body others) tail ends bytes at v to is =
    let n = bind_ok (number_at w32 bytes at) (λ n. arm_at (eqb n.0 number) (reading body bytes n.1) (reading others bytes at)) (v, to) is in
    let read : number_at w32 bytes at ≡ Ok n.0 = n.1 in
    rw read (front_given number body others tail (eqb n.0.0 number) (reading body bytes n.0.1) (reading others bytes at) (reading (joined others tail) bytes at) v to n.2
    (λ w end there. read_joined others tail ends bytes at w end there))
read_joined NoArm tail ends bytes at v to is = absurd v
read_joined _ tail ends bytes at v to is = absurd ends

side_ahead : (front tail : Form) → ends_in_arms front → (v : Value front) → side_of front tail (ahead front tail v) ≡ inl v
side_ahead (Arm number body others) tail ends (inl v) = refl
side_ahead (Arm number body others) tail ends (inr v) = ap (λ (s : Value others ⊎ Value tail). in_tail {A = Value body} s) (side_ahead others tail ends v)
side_ahead NoArm tail ends v = absurd v
side_ahead _ tail ends v = absurd ends

-- ---- the next operation is carried out

pub gives_served : (list new : OpList nfs_argop4) (op : Value argop4) → list.values ≡ ahead argop4 unserved_argop4 op ∷ new.values → new.stop ≡ list.stop
    → ((served_list list).values ≡ op ∷ (served_list new).values) × ((served_list new).stop ≡ (served_list list).stop)
gives_served list new op values ends =
    let both : served_list list ≡ served_of (ahead argop4 unserved_argop4 op ∷ new.values) new.stop =
    ap (λ (vs : List (Value nfs_argop4)). served_of vs list.stop) values ∙ ap (λ (s : Stop). served_of (ahead argop4 unserved_argop4 op ∷ new.values) s) (sym ends) in
    let all : served_list list ≡ served_first (inl op) (served_list new) =
    both ∙ ap (λ (side : Value argop4 ⊎ Value unserved_argop4). served_first side (served_list new)) (side_ahead argop4 unserved_argop4 tt op) in
    (ap (λ (l : OpList argop4). l.values) all, sym (ap (λ (l : OpList argop4). l.stop) all))

-- where operations are left nothing is known of what stands behind them
rest_first : (side : Value argop4 ⊎ Value unserved_argop4) (others : OpList argop4) → rest_now (served_first side others).values (served_first side others).stop ≡ None
rest_first (inl op) others = refl
rest_first (inr op) others = refl

rest_of_list : (values : List (Value nfs_argop4)) (s : Stop) → rest_now (served_of values s).values (served_of values s).stop ≡ rest_now values s
rest_of_list [] s = refl
rest_of_list (op ∷ ops) s = rest_first (side_of argop4 unserved_argop4 op) (served_of ops s)

pub rest_served : (list : OpList nfs_argop4) → rest_now (served_list list).values (served_list list).stop ≡ rest_now list.values list.stop
rest_served list = rest_of_list list.values list.stop

-- ---- operations that are all carried out

abbrev all_ahead : List (Value argop4) → List (Value nfs_argop4)
all_ahead values = map (λ v. ahead argop4 unserved_argop4 v) values

all_served : (values : List (Value argop4)) (s : Stop) → served_of (all_ahead values) s ≡ record { values = values; stop = s }
all_served [] s = refl
all_served (v ∷ values) s =
    let here = side_ahead argop4 unserved_argop4 tt v in
    let rest = all_served values s in
    rw (here, rest) refl

many_ahead : (bytes : List ℕ) (count at : ℕ) (values : List (Value argop4)) (to : ℕ) → many_at (λ place. reading argop4 bytes place) count at ≡ Ok (values, to)
    → many_at (λ place. reading nfs_argop4 bytes place) count at ≡ Ok (all_ahead values, to)
many_ahead bytes zero at values to is = ap (λ (p : List (Value argop4) × ℕ). Ok (all_ahead p.0, p.1)) (ok_is {A = List (Value argop4) × ℕ} ([], at) (values, to) is)
many_ahead bytes (suc n) at values to is =
    let each : ℕ → Read (Value argop4) = λ place. reading argop4 bytes place in
    let first = bind_ok (each at) (λ v. many_at each n v.1 >>= λ others. Ok (v.0 ∷ others.0, others.1)) (values, to) is in
    let others = bind_ok (many_at each n first.0.1) (λ others. Ok (first.0.0 ∷ others.0, others.1)) (values, to) first.2 in
    let whole = ok_is {A = List (Value argop4) × ℕ} (first.0.0 ∷ others.0.0, others.0.1) (values, to) others.2 in
    let here : reading nfs_argop4 bytes at ≡ Ok (ahead argop4 unserved_argop4 first.0.0, first.0.1) = read_joined argop4 unserved_argop4 tt bytes at first.0.0 first.0.1 first.1 in
    let rest : many_at (λ place. reading nfs_argop4 bytes place) n first.0.1 ≡ Ok (all_ahead others.0.0, others.0.1) = many_ahead bytes n first.0.1 others.0.0 others.0.1 others.1 in
    rw (here, rest) (ap (λ (p : List (Value argop4) × ℕ). Ok (all_ahead p.0, p.1)) whole)

pub served_whole : AreServedWhole
served_whole count bytes at values to is =
    let all = given_whole nfs_argop4 count bytes at (all_ahead values) to (many_ahead bytes count at values to is) in
    record {
      ops = ap (λ (l : OpList nfs_argop4). served_list l) all ∙ all_served values (stop.End (left_at bytes to));
      ends = ap (λ (l : OpList nfs_argop4). l.stop) all;
    }
