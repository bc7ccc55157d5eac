-- Whose each id of a client is, in every run: a record keeps its owner and its verifier, no two records have one id, and an id is not given
-- again.
use Rattle.std.proofs.Common.{◌≡◌, ◌≤◌, ℕ, ◌+◌, List, sym, ap, ◌∙◌, arith, subst}
use Rattle.cluster_model.specs.Members.{IsOneOf}
use Rattle.nfs4_session.specs.Clients.{ClientState, SessionsState, client_id}
use Rattle.nfs4_session.specs.ExchangeIds.{new_client}
use Rattle.nfs4_session.specs.TableLaw.{TableMove, table_after}
use Rattle.mds_walk.proofs.Lists.{all_in}
use Rattle.mds_replies.proofs.TableKeys.{FitsWord, Came, Was, IsNew, verifier_of, owner_of, came_with, grows_with}

pub record IsTable (s : SessionsState) : Type 0 where
  pub boot : s.boot ≡ 1
  pub few : s.ids ≤ 4294967295
  pub ids : (c : ClientState) → IsOneOf c s.clients → c.id ≤ client_id 1 s.ids
  pub sequences : (c : ClientState) → IsOneOf c s.clients → FitsWord c
  pub pairs : (c d : ClientState) → IsOneOf c s.clients → IsOneOf d s.clients → c.id ≡ d.id → (c.owner ≡ d.owner) × (c.verifier ≡ d.verifier)

-- this id is of this owner and verifier
pub record IsOwn (id : ℕ) (owner verifier : List ℕ) (s : SessionsState) : Type 0 where
  pub given : id ≤ client_id 1 s.ids
  pub its : (c : ClientState) → IsOneOf c s.clients → c.id ≡ id → (c.owner ≡ owner) × (c.verifier ≡ verifier)

module _ (s : SessionsState) (move : TableMove) where
  pub came : (d : ClientState) → IsOneOf d (table_after s move).clients → Came s (table_after s move).ids (verifier_of move) (owner_of move) d
  came d inside = all_in (Came s (table_after s move).ids (verifier_of move) (owner_of move)) (table_after s move).clients d (came_with s move) inside

  new_id : s.boot ≡ 1 → (d : ClientState) (now : ℕ) → d ≡ new_client s (verifier_of move) (owner_of move) now → d.id ≡ client_id 1 (s.ids + 1)
  new_id boot d now is = ap (λ (c : ClientState). c.id) is ∙ ap (λ (n : ℕ). client_id n (s.ids + 1)) boot

  module _ (i : IsTable s) where
    id_within : (d : ClientState) → Came s (table_after s move).ids (verifier_of move) (owner_of move) d → d.id ≤ client_id 1 (table_after s move).ids
    id_within d (Was c inside key) = let more : s.ids ≤ (table_after s move).ids = (grows_with s move).more in let its : c.id ≤ client_id 1 s.ids = i.ids c inside in let same : d.id ≡ c.id = key.id in omega (arith, more, its, same)
    id_within d (IsNew now is new) = let its : d.id ≡ client_id 1 (s.ids + 1) = new_id i.boot d now is in omega (arith, its, new)

    sequence_within : (d : ClientState) → Came s (table_after s move).ids (verifier_of move) (owner_of move) d → FitsWord d
    sequence_within d (Was c inside key) = key.sequence (i.sequences c inside)
    sequence_within d (IsNew now is new) = subst FitsWord (sym is) (omega arith, tt)

    not_new : (c d x : ClientState) (now : ℕ) → IsOneOf x s.clients → c.id ≡ x.id → d ≡ new_client s (verifier_of move) (owner_of move) now → c.id ≡ d.id → ⊥
    not_new c d x now inside same is one =
        let old : x.id ≤ client_id 1 s.ids = i.ids x inside in
        let new : d.id ≡ client_id 1 (s.ids + 1) = new_id i.boot d now is in
        omega (arith, old, new, same, one)

    one_owner : (c d : ClientState) → Came s (table_after s move).ids (verifier_of move) (owner_of move) c → Came s (table_after s move).ids (verifier_of move) (owner_of move) d → c.id ≡ d.id → (c.owner ≡ d.owner) × (c.verifier ≡ d.verifier)
    one_owner c d (Was x inside key) (Was y there other) is =
        let both = i.pairs x y inside there (sym key.id ∙ is ∙ other.id) in (key.owner ∙ both.0 ∙ sym other.owner, key.verifier ∙ both.1 ∙ sym other.verifier)
    one_owner c d (Was x inside key) (IsNew now is new) one = absurd (not_new c d x now inside key.id is one)
    one_owner c d (IsNew now is new) (Was y there other) one = absurd (not_new d c y now there other.id is (sym one))
    one_owner c d (IsNew now is new) (IsNew later also too) one = (ap (λ (x : ClientState). x.owner) is ∙ sym (ap (λ (x : ClientState). x.owner) also), ap (λ (x : ClientState). x.verifier) is ∙ sym (ap (λ (x : ClientState). x.verifier) also))

    pub table_keeps : IsTable (table_after s move)
    table_keeps = record {
      boot = (grows_with s move).boot ∙ i.boot;
      few = (grows_with s move).few i.few;
      ids = λ d inside. id_within d (came d inside);
      sequences = λ d inside. sequence_within d (came d inside);
      pairs = λ c d inside there. one_owner c d (came c inside) (came d there);
    }

    module _ (id : ℕ) (owner verifier : List ℕ) (o : IsOwn id owner verifier s) where
      own_of : (d : ClientState) → Came s (table_after s move).ids (verifier_of move) (owner_of move) d → d.id ≡ id → (d.owner ≡ owner) × (d.verifier ≡ verifier)
      own_of d (Was c inside key) is = let its = o.its c inside (sym key.id ∙ is) in (key.owner ∙ its.0, key.verifier ∙ its.1)
      own_of d (IsNew now is new) same = absurd (not_it (new_id i.boot d now is) same o.given)
        where
          not_it : d.id ≡ client_id 1 (s.ids + 1) → d.id ≡ id → id ≤ client_id 1 s.ids → ⊥
          not_it its one given = omega (arith, its, one, given)

      pub own_keeps : IsOwn id owner verifier (table_after s move)
      own_keeps = record { given = let more : s.ids ≤ (table_after s move).ids = (grows_with s move).more in let old : id ≤ client_id 1 s.ids = o.given in omega (arith, more, old); its = λ d inside. own_of d (came d inside) }
