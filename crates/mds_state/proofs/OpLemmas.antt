-- An operation that was refused, or is done.
use Rattle.std.proofs.Common.{◌≡◌, ℕ, Bool, false, cond, List, [], Option, Some, None, Result, Ok, Err, refl, sym, ap, subst, IfOk, OnOk}
use Rattle.std.proofs.lemmas.List.{append-nil}
use Rattle.ff_xdr.specs.declared.error.NoMemory.{NoMemory}
use Rattle.ff_xdr.specs.Form.{Value}
use Rattle.cluster_model.specs.declared.entry.Entry.{Entry}
use Rattle.cluster_model.specs.declared.outbox.Outbox.{Outbox}
use Rattle.nfs4_types.specs.declared.status.Stat4.{Stat4}
use Rattle.nfs4_compound.specs.Results.{resop4}
use Rattle.nfs4_session.specs.Clients.{SessionsState}
use Rattle.mds_rule.specs.MdsStates.{CompoundRun, MdsValue}
use Rattle.mds_rule.specs.OpSteps.{OpStep, Goes, with_result, refused_as, refuses, refused_or}
use Rattle.compound_run.specs.declared.op_end.OpEnd.{OpEnd}
use Rattle.compound_run.specs.declared.op_end.OpEnd.TheVariants as end
use Rattle.compound_run.specs.CompoundRuns.{HasEntered, HasOperated}

pub refusal_so : (m n : MdsValue) (c d : CompoundRun) (number : ℕ) (status : Stat4) (result : Result OpEnd NoMemory) (out : Outbox) → n ≡ m → IfOk result (λ e. e ≡ end.Ends status)
    → OnOk result (d ≡ with_result c (refused_as number status)) → HasOperated (refuses m c number status) out result n d out
refusal_so m n c d number status (Err e) out same ends run = tt
refusal_so m n c d number status (Ok e) out same ends run =
    subst (λ (x : OpEnd). HasOperated (refuses m c number status) out (Ok x) n d out) (sym ends) (refl, run, record { mds = same; entries = sym (append-nil out.entries.items); sends = refl })

-- it is refused by this status
pub refused_so : (m n : MdsValue) (c d : CompoundRun) (number : ℕ) (status : Stat4) (o : Option Stat4) (step : OpStep) (result : Result OpEnd NoMemory) (out : Outbox) → o ≡ Some status → n ≡ m
    → IfOk result (λ e. e ≡ end.Ends status) → OnOk result (d ≡ with_result c (refused_as number status)) → HasOperated (refused_or m c number o step) out result n d out
refused_so m n c d number status o step result out is same ends run =
    subst (λ (x : Option Stat4). HasOperated (refused_or m c number x step) out result n d out) (sym is) (refusal_so m n c d number status result out same ends run)

-- it is done
pub done_so : (m n : MdsValue) (entries : List Entry) (c d : CompoundRun) (result : Result OpEnd NoMemory) (old new : Outbox) → IfOk result (λ e. e ≡ end.Goes) → OnOk result (d ≡ c)
    → HasEntered m entries old n new → HasOperated (Goes m entries c) old result n d new
done_so m n entries c d (Err e) old new goes run entered = tt
done_so m n entries c d (Ok e) old new goes run entered = subst (λ (x : OpEnd). HasOperated (Goes m entries c) old (Ok x) n d new) (sym goes) (run, entered)

pub same_sessions : (m : MdsValue) (s : SessionsState) → s ≡ m.sessions → record m { sessions = s } ≡ m
same_sessions m s same = ap (λ (x : SessionsState). record m { sessions = x }) same

-- it is refused by this status where a test fails
pub refusal_unless : (m n : MdsValue) (c d : CompoundRun) (number : ℕ) (status : Stat4) (test : Bool) (step : OpStep) (result : Result OpEnd NoMemory) (out : Outbox) → test ≡ false → n ≡ m
    → IfOk result (λ e. e ≡ end.Ends status) → OnOk result (d ≡ with_result c (refused_as number status)) → HasOperated (cond test step (refuses m c number status)) out result n d out
refusal_unless m n c d number status test step result out is same ends run =
    subst (λ b. HasOperated (cond b step (refuses m c number status)) out result n d out) (sym is) (refusal_so m n c d number status result out same ends run)
