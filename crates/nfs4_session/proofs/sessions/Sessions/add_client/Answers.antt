use Rattle.std.proofs.Common.{◌≡◌, ◌+◌, ◌++◌, [], ◌∷◌, false, length, refl, sym, ap, ◌∙◌, arith}
use Rattle.std.specs.List.{list_any}
use Rattle.std.proofs.lemmas.Bool.{cond-false}
use Rattle.std.proofs.Math.Dec.{eqb}
use Rattle.nfs4_session.specs.Clients.{ClientState, is_owned_by, client_id}
use Rattle.nfs4_session.proofs.Known.{counted, owners_of, is_owner, owned_is}
use Rattle.nfs4_session.proofs.Kept.{known_le, is_new, kept_added, stands_as}
use Rattle.nfs4_session.proofs.sessions.Sessions.add_client.Goals as goal

pub overflow_add-self-then-not-is_known : goal.overflow_add-self-then-not-is_known
overflow_add-self-then-not-is_known c =
    let low = known_le c.self.inside.clients.items in
    omega (arith, low, c.self.invariant.owners, c.self.inside.clients.small, c.deref.ensures.len, ap length c.deref.ensures.value, c.push.ensures.lower_bound, c.reserve.ensures.len, c.in_ok-reserve.ensures.ok)

pub invariant_of-self-then-not-is_known : goal.invariant_of-self-then-not-is_known
invariant_of-self-then-not-is_known c =
    let items = c.self.inside.clients.items in
    let keys = c.self.inside.places.keys in
    let boot = c.self.inside.boot in
    let given = c.self.inside.ids in
    let r = c.in_ok-record.record in
    let next = c.next_id-id.result in
    let same : r.id ≡ next = ap (λ (x : ClientState). x.id) c.in_ok-record.ensures in
    let any = c.any-is_known.ensures ∙ ap (λ l. list_any (is_owned_by c.args.owner.now) l) c.deref.ensures.value ∙ ap (λ o. list_any (is_owned_by o) items) (sym (ap (λ (x : ClientState). x.owner) c.in_ok-record.ensures)) in
    let more : counted (is_owner r.owner (owners_of items)) ≡ 1 = ap counted (sym (owned_is r.owner items) ∙ sym any ∙ c.if-not-is_known.true) in
    let fresh : list_any (eqb next) keys ≡ false = is_new (client_id boot given) next keys c.self.invariant.below (omega (arith, c.next_id-id.ensures)) in
    let with_key = c.in_ok-insert.ensures.keys ∙ cond-false _ _ _ fresh ∙ ap (λ k. keys ++ k ∷ []) (sym same) in
    let with_record = c.in_ok-push.ensures.items ∙ ap (λ l. l ++ r ∷ []) c.reserve.ensures.items in
    stands_as _ _ _ _ boot (given + 1) (c.self.inside.owners + 1) (c.self.inside.owners + counted (is_owner r.owner (owners_of items))) with_key with_record (omega (arith, more))
    (kept_added keys items boot given c.self.inside.owners r _ (same ∙ c.next_id-id.ensures) refl c.self.invariant)

pub invariant_of-self-else-not-is_known : goal.invariant_of-self-else-not-is_known
invariant_of-self-else-not-is_known c =
    let items = c.self.inside.clients.items in
    let keys = c.self.inside.places.keys in
    let boot = c.self.inside.boot in
    let given = c.self.inside.ids in
    let r = c.in_ok-record.record in
    let next = c.next_id-id.result in
    let same : r.id ≡ next = ap (λ (x : ClientState). x.id) c.in_ok-record.ensures in
    let any = c.any-is_known.ensures ∙ ap (λ l. list_any (is_owned_by c.args.owner.now) l) c.deref.ensures.value ∙ ap (λ o. list_any (is_owned_by o) items) (sym (ap (λ (x : ClientState). x.owner) c.in_ok-record.ensures)) in
    let more : counted (is_owner r.owner (owners_of items)) ≡ 0 = ap counted (sym (owned_is r.owner items) ∙ sym any ∙ c.if-not-is_known.false) in
    let fresh : list_any (eqb next) keys ≡ false = is_new (client_id boot given) next keys c.self.invariant.below (omega (arith, c.next_id-id.ensures)) in
    let with_key = c.in_ok-insert.ensures.keys ∙ cond-false _ _ _ fresh ∙ ap (λ k. keys ++ k ∷ []) (sym same) in
    let with_record = c.in_ok-push.ensures.items ∙ ap (λ l. l ++ r ∷ []) c.reserve.ensures.items in
    stands_as _ _ _ _ boot (given + 1) c.self.inside.owners (c.self.inside.owners + counted (is_owner r.owner (owners_of items))) with_key with_record (omega (arith, more))
    (kept_added keys items boot given c.self.inside.owners r _ (same ∙ c.next_id-id.ensures) refl c.self.invariant)
