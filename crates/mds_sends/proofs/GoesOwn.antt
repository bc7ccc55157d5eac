-- A file's own call that goes out, or does not.
use Rattle.std.proofs.Common.{◌≡◌, ℕ, zero, suc, ◌-◌, ◌==◌, [], ◌∷◌, slice_get, slice_set, Bool, true, false, cond, not, List, Option, Some, None, Result, Ok, Err, refl, sym, ap, subst, ◌∙◌, OnOk}
use Rattle.std.proofs.lemmas.Bool.{eq-eqb, ne_eqb}
use Rattle.std.proofs.lemmas.Option.{same_Some}
use Rattle.ff_xdr.specs.declared.error.NoMemory.{NoMemory}
use Rattle.cluster_model.specs.declared.ids.NodeId.TheVariants.{Server}
use Rattle.cluster_model.specs.declared.ids.FileId.{FileId}
use Rattle.cluster_model.specs.declared.outbox.Outbox.{Outbox}
use Rattle.mds_rule.specs.MdsStates.{ServedFile, CallsServer, MdsValue, MdsStep, sends_none, served, served_in, with_file}
use Rattle.mds_rule.specs.Goes.{OwnCall, own_by, own_call, own_call_at, own_next, has_xids, place_of, calls_as, calls_server}
use Rattle.compound_run.specs.CompoundRuns.{HasMadeStep}
use Rattle.served_files.specs.declared.sending.SentByFile.{SentByFile}
use Rattle.served_files.specs.Sending.{OwnWaits}
use Rattle.served_files.specs.FileSteps.{SendsOwnOf, SendsOwnIn}
use Rattle.mds_state.proofs.StepLemmas.{stepped_none}

-- nothing is done in either case
pub either_none : (b : Bool) (s : MdsStep) → cond b s s ≡ s
either_none true s = refl
either_none false s = refl

pub steps_none : (s : MdsStep) (m : MdsValue) (out : Outbox) → s ≡ sends_none m → HasMadeStep s out m out
steps_none s m out is = subst (λ (x : MdsStep). HasMadeStep x out m out) (sym is) (stepped_none m out)

-- a file put where it is
slice_same : (files : List ServedFile) (n : ℕ) (s : ServedFile) → slice_get files n ≡ Some s → slice_set files n s ≡ files
slice_same [] n s is = refl
slice_same (x ∷ files) zero s is = ap (λ (y : ServedFile). y ∷ files) (sym (same_Some x s is))
slice_same (x ∷ files) (suc n) s is = ap (λ (l : List ServedFile). x ∷ l) (slice_same files n s is)

same_by : (files : List ServedFile) (n : ℕ) (s : ServedFile) (b : Bool) → cond b None (slice_get files n) ≡ Some s → slice_set files n s ≡ files
same_by files n s true is = absurd (cc)
same_by files n s false is = slice_same files n s is

pub with_same : (files : List ServedFile) (file : FileId) (s : ServedFile) → served_in files file ≡ Some s → with_file files file s ≡ files
with_same files file s is = same_by files (file.0 - 1) s (file.0 == 0) is

pub own_is : (m : MdsValue) (file : FileId) (place : ℕ) (s : ServedFile) (o : Option OwnCall) → served m file ≡ Some s → own_by file s m.next_xid s.write ≡ o
    → own_call file place m ≡ cond (has_xids m) (own_call_at m file s place o) (sends_none m)
own_is m file place s o is by =
    ap (λ (x : Option ServedFile). cond (has_xids m) (own_next m file place x) (sends_none m)) is ∙ ap (λ (x : Option OwnCall). cond (has_xids m) (own_call_at m file s place x) (sends_none m)) by

-- none waits
pub own_not : (m : MdsValue) (file : FileId) (place : ℕ) (s : ServedFile) (out : Outbox) → served m file ≡ Some s → OwnWaits s file m.next_xid None → HasMadeStep (own_call file place m) out m out
own_not m file place s out is waits = steps_none _ m out (own_is m file place s None is waits ∙ either_none (has_xids m) (sends_none m))

-- it waits for another place
pub own_elsewhere : (m : MdsValue) (file : FileId) (place server : ℕ) (s : ServedFile) (out : Outbox) → served m file ≡ Some s → OwnWaits s file m.next_xid (Some server) → (place_of s server ≡ place → ⊥)
    → HasMadeStep (own_call file place m) out m out
own_elsewhere m file place server s out is (c, by, to) other =
    let test = ne_eqb (place_of s c.server) place (λ same. other (ap (place_of s) (sym to) ∙ same)) in
    let none : own_call_at m file s place (Some c) ≡ sends_none m = ap (λ (b : Bool). cond b (calls_server m file c.served c.caller c.server c.uid c.call) (sends_none m)) test in
    steps_none _ m out (own_is m file place s (Some c) is by ∙ ap (λ (x : MdsStep). cond (has_xids m) x (sends_none m)) none ∙ either_none (has_xids m) (sends_none m))

-- none went out
own_left : (m : MdsValue) (file : FileId) (place : ℕ) (s : ServedFile) (new : List ServedFile) (out : Outbox) → served m file ≡ Some s → SendsOwnOf m.files file m.next_xid (Ok None) new (Some s)
    → HasMadeStep (own_call file place m) out (record m { files = new }) out
own_left m file place s new out is (t, (none, stays), now) =
    let same : record m { files = new } ≡ m = ap (λ (files : List ServedFile). record m { files = files }) (now ∙ ap (with_file m.files file) stays ∙ with_same m.files file s is) in
    subst (λ (n : MdsValue). HasMadeStep (own_call file place m) out n out) (sym same) (own_not m file place s out is none)

pub own_kept : (m : MdsValue) (file : FileId) (place : ℕ) (s : ServedFile) (new : List ServedFile) (out : Outbox) → served m file ≡ Some s → SendsOwnIn m.files file m.next_xid (Ok None) new
    → HasMadeStep (own_call file place m) out (record m { files = new }) out
own_kept m file place s new out is said = own_left m file place s new out is (subst (SendsOwnOf m.files file m.next_xid (Ok None) new) is said)

-- it went out
own_out : (m n : MdsValue) (file : FileId) (place server : ℕ) (s : ServedFile) (c : SentByFile) (new : List ServedFile) (out out' : Outbox) → (m.next_xid ≡ 0 → ⊥) → served m file ≡ Some s
    → OwnWaits s file m.next_xid (Some server) → place_of s server ≡ place → SendsOwnOf m.files file m.next_xid (Ok (Some c)) new (Some s)
    → HasMadeStep (calls_as (record m { files = new }) (Server c.server) c.caller (CallsServer c.server m.next_xid c.uid.0 c.call)) out n out'
    → HasMadeStep (own_call file place m) out n out'
own_out m n file place server s c new out out' more is (d, waits, to) here (t, by, now) step =
    let o : OwnCall = record { served = t; caller = c.caller; server = c.server; uid = c.uid.0; call = c.call } in
    let same : d ≡ o = same_Some d o (sym waits ∙ by) in
    let at : place_of s c.server ≡ place = ap (λ (x : OwnCall). place_of s x.server) (sym same) ∙ ap (place_of s) to ∙ here in
    let goes : own_call file place m ≡ calls_server m file t c.caller c.server c.uid.0 c.call =
    own_is m file place s (Some o) is by
    ∙ ap (λ (b : Bool). cond (not b) (own_call_at m file s place (Some o)) (sends_none m)) (ne_eqb m.next_xid 0 more)
    ∙ ap (λ (b : Bool). cond b (calls_server m file t c.caller c.server c.uid.0 c.call) (sends_none m)) (eq-eqb (place_of s c.server) place at)
    in
    subst (λ (x : MdsStep). HasMadeStep x out n out') (sym goes)
    (subst (λ (files : List ServedFile). HasMadeStep (calls_as (record m { files = files }) (Server c.server) c.caller (CallsServer c.server m.next_xid c.uid.0 c.call)) out n out') now step)

pub own_went : (m n : MdsValue) (file : FileId) (place server : ℕ) (s : ServedFile) (c : SentByFile) (new : List ServedFile) (out out' : Outbox) (result : Result (Unit {0}) NoMemory) → (m.next_xid ≡ 0 → ⊥)
    → served m file ≡ Some s → OwnWaits s file m.next_xid (Some server) → place_of s server ≡ place → SendsOwnIn m.files file m.next_xid (Ok (Some c)) new
    → OnOk result (HasMadeStep (calls_as (record m { files = new }) (Server c.server) c.caller (CallsServer c.server m.next_xid c.uid.0 c.call)) out n out')
    → OnOk result (HasMadeStep (own_call file place m) out n out')
own_went m n file place server s c new out out' (Err e) more is waits here said step = tt
own_went m n file place server s c new out out' (Ok done) more is waits here said step =
    own_out m n file place server s c new out out' more is waits here (subst (SendsOwnOf m.files file m.next_xid (Ok (Some c)) new) is said) step
