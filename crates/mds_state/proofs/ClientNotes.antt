-- What is noted of clients: where they were confirmed from, and what is forgotten of one that is gone.
use Rattle.std.proofs.Common.{◌≡◌, ℕ, false, cond, List, [], ◌∷◌, ◌++◌, Option, Some, None, nat_eq, refl, sym, ap, ◌∙◌}
use Rattle.std.specs.Prelude.{not, ◌==◌, filter, is_some}
use Rattle.std.specs.Map.{lookup, remove_entry}
use Rattle.cluster_model.specs.declared.ids.NodeId.{NodeId}
use Rattle.open_state.specs.Opens.{OpensValue, ended}
use Rattle.mds_rule.specs.MdsStates.{MdsValue}
use Rattle.mds_rule.specs.SessionOps.{confirms}
use Rattle.mds_rule.specs.ServedFiles.{forgotten}

pub none_there : {X : Type 0} (o : Option X) → is_some o ≡ false → o ≡ None
none_there None is = refl
none_there (Some x) is = absurd cc

-- it is noted of a client of which it was not
pub confirmed_so : (client : ℕ) (node : NodeId) (m : MdsValue) (confirmed : List (ℕ × NodeId)) → is_some (lookup (nat_eq client) m.confirmed) ≡ false
    → confirmed ≡ m.confirmed ++ (client, node) ∷ [] → record m { confirmed = confirmed } ≡ confirms client node m
confirmed_so client node m confirmed absent new =
    ap (λ l. record m { confirmed = l }) (new ∙ sym (ap (λ b. cond b m.confirmed (m.confirmed ++ (client, node) ∷ [])) absent))

pub forgotten_so : (client : ℕ) (m : MdsValue) (opens : OpensValue) (confirmed : List (ℕ × NodeId)) (reclaimed : List ℕ) → opens ≡ ended m.opens client
    → confirmed ≡ remove_entry (nat_eq client) m.confirmed → reclaimed ≡ filter (λ id. not (id == client)) m.reclaimed
    → record m { confirmed = confirmed; opens = opens; reclaimed = reclaimed } ≡ forgotten client m
forgotten_so client m opens confirmed reclaimed ends unconfirmed gone = λ i. record m { confirmed = unconfirmed i; opens = ends i; reclaimed = gone i }
