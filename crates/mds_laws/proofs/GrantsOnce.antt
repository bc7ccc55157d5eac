-- A uid is granted once.
use Rattle.std.proofs.Common.{◌≡◌, ℕ, Bool, false, List, [], ◌∷◌, ◌++◌, refl, sym, ap, subst, ◌∙◌}
use Rattle.std.specs.Prelude.{◌||◌}
use Rattle.std.specs.List.{list_any}
use Rattle.device_addr.specs.Universal.{AddressValue}
use Rattle.cluster_model.specs.declared.entry.Entry.{Entry}
use Rattle.cluster_model.specs.declared.entry.Entry.TheVariants as entry
use Rattle.mds_walk.specs.MdsRuns.{MdsEvent, mds_run}
use Rattle.mds_laws.specs.MdsRunLaws.{grants_uid, IsFirstGrant, GrantsUidsOnce}
use Rattle.mds_walk.proofs.Lists.{EachOf, each_at}
use Rattle.mds_laws.proofs.PeriodUids.{Grants}
use Rattle.mds_laws.proofs.UsedOnce.{uses_uid, IsFirst, run_once}

same_test : (uid : ℕ) (e : Entry) → grants_uid uid e ≡ uses_uid Grants uid e
same_test uid (entry.Granted file cred holder) = refl
same_test uid (entry.Ended file cred cause) = refl
same_test uid e = refl

same_any : (uid : ℕ) (es : List Entry) → list_any (grants_uid uid) es ≡ list_any (uses_uid Grants uid) es
same_any uid [] = refl
same_any uid (e ∷ es) = ap (λ (b : Bool). b || list_any (grants_uid uid) es) (same_test uid e) ∙ ap (λ (b : Bool). uses_uid Grants uid e || b) (same_any uid es)

first_grant : (past : List Entry) (e : Entry) → IsFirst Grants past e → IsFirstGrant past e
first_grant past (entry.Granted file cred holder) is = same_any cred.0 past ∙ is
first_grant past e is = tt

pub grants_uids_once : (servers : List AddressValue) (mirrors : ℕ) (events : List MdsEvent) → GrantsUidsOnce servers mirrors events
grants_uids_once servers mirrors events before after e is =
    first_grant before e (each_at (IsFirst Grants) [] before after e (subst (EachOf (IsFirst Grants) []) is (run_once Grants servers mirrors events).each))
