use Rattle.std.proofs.Common.{◌≡◌, ◌<◌, length, refl, sym, ap, ◌∙◌, arith, subst}
use Rattle.std.specs.List.{list_any}
use Rattle.std.specs.Prelude.{remove}
use Rattle.std.proofs.lemmas.Option.{slice_get_read}
use Rattle.nfs4_session.specs.Clients.{SessionsState, is_owned_by}
use Rattle.nfs4_session.proofs.Known.{counted}
use Rattle.nfs4_session.proofs.Kept.{left_is, kept_removed, stands_as}
use Rattle.nfs4_session.proofs.sessions.Sessions.remove.Goals as goal

pub overflow_sub-self : goal.overflow_sub-self
overflow_sub-self c =
    let items = c.self.inside.clients.items in
    let r = c.remove-record.result in
    let within = subst (λ (s : SessionsState). c.args.place < length s.clients) (sym c.self.view_is) c.requires in
    let at = slice_get_read items (length items) c.args.place r refl within c.remove-record.ensures.value in
    let any = c.any.ensures ∙ ap (λ l. list_any (is_owned_by c.owner.result.now) l) (c.deref.ensures.value ∙ c.remove-record.ensures.items) ∙ ap (λ o. list_any (is_owned_by o) (remove items c.args.place)) c.owner.ensures in
    let one : counted (list_any (is_owned_by r.owner) (remove items c.args.place)) ≡ 1 = ap counted (sym any ∙ c.if-not-any.true) in
    omega (arith, one, left_is c.self.inside.places.keys items c.self.inside.boot c.self.inside.ids c.self.inside.owners c.args.place r at c.self.invariant)

pub invariant_of-self : goal.invariant_of-self
invariant_of-self c =
    let items = c.self.inside.clients.items in
    let r = c.remove-record.result in
    let within = subst (λ (s : SessionsState). c.args.place < length s.clients) (sym c.self.view_is) c.requires in
    let at = slice_get_read items (length items) c.args.place r refl within c.remove-record.ensures.value in
    let any = c.any.ensures ∙ ap (λ l. list_any (is_owned_by c.owner.result.now) l) (c.deref.ensures.value ∙ c.remove-record.ensures.items) ∙ ap (λ o. list_any (is_owned_by o) (remove items c.args.place)) c.owner.ensures in
    let one : counted (list_any (is_owned_by r.owner) (remove items c.args.place)) ≡ 1 = ap counted (sym any ∙ c.if-not-any.true) in
    let left = left_is c.self.inside.places.keys items c.self.inside.boot c.self.inside.ids c.self.inside.owners c.args.place r at c.self.invariant in
    stands_as _ _ _ _ c.self.inside.boot c.self.inside.ids _ _ c.shift_remove_index.ensures.keys c.remove-record.ensures.items (omega (arith, one, left))
    (kept_removed c.self.inside.places.keys items c.self.inside.boot c.self.inside.ids c.self.inside.owners c.args.place c.self.invariant)

pub invariant_of-self-else-not-any : goal.invariant_of-self-else-not-any
invariant_of-self-else-not-any c =
    let items = c.self.inside.clients.items in
    let r = c.remove-record.result in
    let within = subst (λ (s : SessionsState). c.args.place < length s.clients) (sym c.self.view_is) c.requires in
    let at = slice_get_read items (length items) c.args.place r refl within c.remove-record.ensures.value in
    let any = c.any.ensures ∙ ap (λ l. list_any (is_owned_by c.owner.result.now) l) (c.deref.ensures.value ∙ c.remove-record.ensures.items) ∙ ap (λ o. list_any (is_owned_by o) (remove items c.args.place)) c.owner.ensures in
    let one : counted (list_any (is_owned_by r.owner) (remove items c.args.place)) ≡ 0 = ap counted (sym any ∙ c.if-not-any.false) in
    let left = left_is c.self.inside.places.keys items c.self.inside.boot c.self.inside.ids c.self.inside.owners c.args.place r at c.self.invariant in
    stands_as _ _ _ _ c.self.inside.boot c.self.inside.ids _ _ c.shift_remove_index.ensures.keys c.remove-record.ensures.items (omega (arith, one, left))
    (kept_removed c.self.inside.places.keys items c.self.inside.boot c.self.inside.ids c.self.inside.owners c.args.place c.self.invariant)
