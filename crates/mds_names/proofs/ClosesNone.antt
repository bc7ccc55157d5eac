-- A CLOSE of what is not open changes nothing.
use Rattle.std.proofs.Common.{◌≡◌, ℕ, Bool, true, false, not, cond, eqb, List, [], ◌∷◌, filter, Option, Some, None, Result, refl, sym, ap, ◌∙◌, IfOk, OnOk}
use Rattle.std.specs.Prelude.{find}
use Rattle.std.specs.Option.{option_map}
use Rattle.std.proofs.lemmas.Bool.{eqb-true}
use Rattle.std.proofs.lemmas.Option.{none-some}
use Rattle.ff_xdr.specs.declared.error.NoMemory.{NoMemory}
use Rattle.cluster_model.specs.declared.ids.FileId.{FileId}
use Rattle.cluster_model.specs.declared.outbox.Outbox.{Outbox}
use Rattle.nfs4_types.specs.declared.status.Stat4.TheVariants as stat
use Rattle.open_state.specs.declared.open.Open.{Open}
use Rattle.open_state.specs.Opens.{OpensValue, opens_in, opens_of, open_of, is_of, is_other, set_opens, again, closed}
use Rattle.mds_rule.specs.MdsStates.{CompoundRun, MdsValue}
use Rattle.mds_rule.specs.OpSteps.{with_result, refused_as}
use Rattle.mds_rule.specs.FileOps.{closes}
use Rattle.compound_run.specs.declared.op_end.OpEnd.{OpEnd}
use Rattle.compound_run.specs.declared.op_end.OpEnd.TheVariants as end
use Rattle.compound_run.specs.CompoundRuns.{HasOperated}
use Rattle.mds_state.proofs.OpLemmas.{refusal_so}

module _ (client : ℕ) (opens : List Open) where
  -- what stood there already changes nothing
  set_kept : (es : List (ℕ × List Open)) → opens_in es client ≡ opens → set_opens client opens es ≡ es
  set_kept [] same = refl
  set_kept (e ∷ es) same = by_case (eqb e.0 client) refl (set_kept es)
    where
      by_case : (b : Bool) → eqb e.0 client ≡ b → (opens_in es client ≡ opens → set_opens client opens es ≡ es) → set_opens client opens (e ∷ es) ≡ e ∷ es
      by_case true here rest =
          let its : e.1 ≡ opens = sym (ap (λ b. cond b e.1 (opens_in es client)) here) ∙ same in
          ap (λ b. cond b ((client, opens) ∷ es) (e ∷ set_opens client opens es)) here
          ∙ ap (λ (k : ℕ). (k, opens) ∷ es) (sym (eqb-true e.0 client here))
          ∙ ap (λ (l : List Open). (e.0, l) ∷ es) (sym its)
      by_case false behind rest =
          ap (λ b. cond b ((client, opens) ∷ es) (e ∷ set_opens client opens es)) behind
          ∙ ap (λ (l : List (ℕ × List Open)). e ∷ l) (rest (sym (ap (λ b. cond b e.1 (opens_in es client)) behind) ∙ same))

-- where no open is of a file, all are kept
all_kept : (file : FileId) (xs : List Open) → find (is_of file) xs ≡ None → filter (is_other file) xs ≡ xs
all_kept file [] none = refl
all_kept file (x ∷ xs) none = by_case (is_of file x) refl (all_kept file xs)
  where
    by_case : (b : Bool) → is_of file x ≡ b → (find (is_of file) xs ≡ None → filter (is_other file) xs ≡ xs) → filter (is_other file) (x ∷ xs) ≡ x ∷ xs
    by_case true here rest = absurd (none-some x (sym none ∙ ap (λ b. cond b (Some x) (find (is_of file) xs)) here))
    by_case false other rest =
        ap (λ b. cond (not b) (x ∷ filter (is_other file) xs) (filter (is_other file) xs)) other
        ∙ ap (λ (l : List Open). x ∷ l) (rest (sym (ap (λ b. cond b (Some x) (find (is_of file) xs)) other) ∙ none))

closed_none : (s : OpensValue) (client : ℕ) (file : FileId) → open_of s client file ≡ None → closed s client file ≡ s
closed_none s client file none =
    ap (λ (o : List Open). record { clients = set_opens client o s.clients; last = s.last }) (all_kept file (opens_of s client) none)
    ∙ ap (λ (cs : List (ℕ × List Open)). record { clients = cs; last = s.last }) (set_kept client (opens_of s client) s.clients refl)

none_of : (o : Option Open) → None ≡ option_map again o → o ≡ None
none_of None told = refl
none_of (Some o) told = absurd (cc told)

pub not_closed : (m : MdsValue) (c d : CompoundRun) (client : ℕ) (file : FileId) (opens : OpensValue) (result : Result OpEnd NoMemory) (out : Outbox) → None ≡ option_map again (open_of m.opens client file) → opens ≡ closed m.opens client file
    → IfOk result (λ e. e ≡ end.Ends stat.BadStateid) → OnOk result (d ≡ with_result c (refused_as 4 stat.BadStateid)) → HasOperated (closes m c file (open_of m.opens client file)) out result (record m { opens = opens }) d out
not_closed m c d client file opens result out told leaves ends run =
    let none = none_of (open_of m.opens client file) told in
    rw none (refusal_so m (record m { opens = opens }) c d 4 stat.BadStateid result out (ap (λ (x : OpensValue). record m { opens = x }) (leaves ∙ closed_none m.opens client file none)) ends run)
