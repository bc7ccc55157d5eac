-- A file is opened, and closed.
use Rattle.std.proofs.Common.{◌≡◌, ℕ, ◌+◌, Bool, List, [], length, Option, Some, None, Result, Ok, Err, refl, sym, ap, subst, ◌∙◌, IfOk, OnOk}
use Rattle.std.proofs.lemmas.List.{append-nil}
use Rattle.ff_xdr.specs.declared.error.NoMemory.{NoMemory}
use Rattle.cluster_model.specs.declared.ids.FileId.{FileId}
use Rattle.cluster_model.specs.declared.outbox.Outbox.{Outbox}
use Rattle.nfs4_types.specs.declared.status.Stat4.{Stat4}
use Rattle.open_state.specs.declared.open.Open.{Open}
use Rattle.open_state.specs.declared.open.OpenFault.{OpenFault}
use Rattle.open_state.specs.Opens.{OpensValue, Opens, Gives, open_of, open_fault, given, opened, stateid_of}
use Rattle.mds_refusals.specs.declared.object.Object.TheVariants.{File}
use Rattle.mds_refusals.specs.declared.open.Creation.{Creation}
use Rattle.mds_refusals.specs.declared.open.OpenStep.TheVariants as step
use Rattle.mds_refusals.specs.Orders.{refusal}
use Rattle.mds_refusals.specs.Opens.{open_order, open_step}
use Rattle.mds_rule.specs.MdsStates.{CompoundRun, MdsValue, file_named, numbered}
use Rattle.mds_rule.specs.OpSteps.{with_result, at_object, refused_or}
use Rattle.mds_rule.specs.FileOps.{client_of, open_result, opens_file, opens_or_makes, with_new_file, can_open, may_make}
use Rattle.compound_run.specs.declared.op_end.OpEnd.{OpEnd}
use Rattle.compound_run.specs.declared.op_end.OpEnd.TheVariants as end
use Rattle.compound_run.specs.CompoundRuns.{HasOperated, OnGoes}
use Rattle.mds_state.proofs.OpLemmas.{done_so}

goes_in : (result : Result OpEnd NoMemory) (P : Type 0) → OnGoes result P → IfOk result (λ e. e ≡ end.Goes)
goes_in (Err e) P is = tt
goes_in (Ok end.Goes) P is = refl
goes_in (Ok (end.Ends status)) P is = absurd is
goes_in (Ok end.Waits) P is = absurd is

done_in : (result : Result OpEnd NoMemory) (P : Type 0) → OnGoes result P → OnOk result P
done_in (Err e) P is = tt
done_in (Ok end.Goes) P is = is
done_in (Ok (end.Ends status)) P is = absurd is
done_in (Ok end.Waits) P is = absurd is

-- what an OPEN gave, and what there is open then
pub record Opened (s : OpensValue) (client : ℕ) (file : FileId) (o : Open) (new : OpensValue) : Type 0 where
  pub gives : o ≡ given (open_of s client file) file s.last
  pub leaves : new ≡ opened s client file

pub opened_by : (s : OpensValue) (client : ℕ) (file : FileId) (r : Result Open OpenFault) (opens : OpensValue) (o : Open) → Opens s client file r opens → r ≡ Ok o → Opened s client file o opens
opened_by s client file r opens o (Gives none) is = record { gives = cc is; leaves = refl }
opened_by s client file r opens o (Rattle.open_state.specs.Opens.Refuses fault why) is = absurd (cc is)
opened_by s client file r opens o (Rattle.open_state.specs.Opens.Wants e) is = absurd (cc is)

pub opened_so : (m : MdsValue) (c d : CompoundRun) (client : ℕ) (file : FileId) (o : Open) (opens : OpensValue) (result : Result OpEnd NoMemory) (out : Outbox) → client ≡ client_of c → Opened m.opens client file o opens
    → OnGoes result (d ≡ with_result (at_object c (File file)) (open_result o)) → HasOperated (opens_file m c file) out result (record m { opens = opens }) d out
opened_so m c d client file o opens result out whose is run =
    let there = given (open_of m.opens (client_of c) file) file m.opens.last in
    let same : o ≡ there = is.gives ∙ ap (λ (k : ℕ). given (open_of m.opens k file) file m.opens.last) whose in
    done_so (record m { opens = opened m.opens (client_of c) file }) (record m { opens = opens }) [] (with_result (at_object c (File file)) (open_result there)) d result out out
    (goes_in result (d ≡ with_result (at_object c (File file)) (open_result o)) run)
    (subst (λ (x : Open). OnOk result (d ≡ with_result (at_object c (File file)) (open_result x))) same (done_in result (d ≡ with_result (at_object c (File file)) (open_result o)) run))
    (record {
      mds = ap (λ (x : OpensValue). record m { opens = x }) (is.leaves ∙ ap (λ (k : ℕ). opened m.opens k file) whose);
      entries = sym (append-nil out.entries.items);
      sends = refl;
    })

-- ---- what it finds

pub order_so : (m : MdsValue) (c : CompoundRun) (access : ℕ) (creation : Creation) (name : List ℕ) (client : ℕ) (file : Option FileId) (can may : Bool) → client ≡ client_of c → file ≡ file_named m name → can ≡ can_open m client file
    → may ≡ may_make m → refusal (open_order c.current name access creation (record { file = file; can_open = can; can_make = may }))
    ≡ refusal (open_order c.current name access creation (record { file = file_named m name; can_open = can_open m (client_of c) (file_named m name); can_make = may_make m }))
order_so m c access creation name client file can may whose found could makes =
    let order = λ (f : Option FileId) (a b : Bool). refusal (open_order c.current name access creation (record { file = f; can_open = a; can_make = b })) in
    let can_is : can ≡ can_open m (client_of c) (file_named m name) = could ∙ ap (λ (k : ℕ). can_open m k file) whose ∙ ap (λ (f : Option FileId). can_open m (client_of c) f) found in
    ap (λ (f : Option FileId). order f can may) found ∙ ap (λ (a : Bool). order (file_named m name) a may) can_is ∙ ap (λ (b : Bool). order (file_named m name) (can_open m (client_of c) (file_named m name)) b) makes

pub opens_so : (m n : MdsValue) (c d : CompoundRun) (name : List ℕ) (found : Option FileId) (file : FileId) (refused : Option Stat4) (result : Result OpEnd NoMemory) (out : Outbox) → refused ≡ None
    → step.Opens file ≡ open_step found → HasOperated (opens_file m c file) out result n d out → HasOperated (refused_or m c 18 refused (opens_or_makes m c name found)) out result n d out
opens_so m n c d name None file refused result out none is h = absurd (cc is)
opens_so m n c d name (Some f) file refused result out none is h =
    let same : file ≡ f = cc is in
    subst (λ (x : Option Stat4). HasOperated (refused_or m c 18 x (opens_file m c f)) out result n d out) (sym none) (subst (λ (x : FileId). HasOperated (opens_file m c x) out result n d out) same h)

pub makes_so : (m n : MdsValue) (c d : CompoundRun) (name : List ℕ) (found : Option FileId) (file : FileId) (refused : Option Stat4) (result : Result OpEnd NoMemory) (out : Outbox) → refused ≡ None
    → step.Makes ≡ open_step found → file ≡ numbered (length m.files + 1) → HasOperated (opens_file (with_new_file m name) c file) out result n d out
    → HasOperated (refused_or m c 18 refused (opens_or_makes m c name found)) out result n d out
makes_so m n c d name None file refused result out none is same h =
    subst (λ (x : Option Stat4). HasOperated (refused_or m c 18 x (opens_file (with_new_file m name) c (numbered (length m.files + 1)))) out result n d out) (sym none)
    (subst (λ (x : FileId). HasOperated (opens_file (with_new_file m name) c x) out result n d out) same h)
makes_so m n c d name (Some f) file refused result out none is same h = absurd (cc is)
