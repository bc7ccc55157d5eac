-- A period ends once: of each uid one end is entered.
use Rattle.std.proofs.Common.{Bool, cond, ◌≡◌, ℕ, true, false, List, [], ◌∷◌, ◌++◌, refl, ap, subst, ◌∙◌}
use Rattle.std.specs.Prelude.{◌||◌}
use Rattle.std.specs.List.{list_any}
use Rattle.cluster_model.specs.declared.entry.Entry.{Entry}
use Rattle.cluster_model.specs.declared.entry.Entry.TheVariants as entry
use Rattle.cluster_model.specs.declared.phase.EndCause.{EndCause}
use Rattle.cluster_laws.specs.Agreement.{cause_in, causes_of}
use Rattle.mds_walk.proofs.Lists.{EachOf, each_at}
use Rattle.mds_laws.proofs.PeriodUids.{Ends}
use Rattle.mds_laws.proofs.UsedOnce.{uses_uid, HasNone, IsFirst, run_once}
use Rattle.mds_replies.specs.PeriodEntries.{UidsEndOnce}

not_ended_one : (uid : ℕ) (e : Entry) → uses_uid Ends uid e ≡ false → cause_in uid e ≡ []
not_ended_one uid (entry.Ended file cred cause) off = ap (λ (b : Bool). cond b (cause ∷ []) []) off
not_ended_one uid e off = refl

both_off : (a b : Bool) → (a || b) ≡ false → (a ≡ false) × (b ≡ false)
both_off true b is = absurd cc
both_off false b is = (refl, is)

no_causes : (uid : ℕ) (es : List Entry) → HasNone Ends uid es → causes_of uid es ≡ []
no_causes uid [] none = refl
no_causes uid (e ∷ es) none =
    let both = both_off (uses_uid Ends uid e) (list_any (uses_uid Ends uid) es) none in
    ap (λ (l : List EndCause). l ++ causes_of uid es) (not_ended_one uid e both.0) ∙ no_causes uid es both.1

pub uids_end_once : UidsEndOnce
uids_end_once servers mirrors events before behind file cred cause calls is =
    no_causes cred.0 before (each_at (IsFirst Ends) [] before behind (entry.Ended file cred cause) (subst (EachOf (IsFirst Ends) []) is (run_once Ends servers mirrors events).each))
