use Rattle.std.proofs.Common.{◌≡◌, ◌++◌, List, ℕ, None, take, ap, sym, subst, ◌∙◌}
use Rattle.rpc_record.specs.Frames.{Front, HasGiven, Takes}
use Rattle.record_link.specs.Kept.{front_with, IsKept}
use Rattle.record_link.proofs.ConnectionLemmas.{whole_stays, none_of, some_of, read_kept, read_on, kept_front}
use Rattle.record_link.proofs.connection.Connection.advance.Goals as goal

pub returns-then-is_some-clause-told : goal.returns-then-is_some-clause-told
returns-then-is_some-clause-told c fed is =
    let some = some_of c.self.inside.whole (sym c.is_some.ensures ∙ c.if-is_some.true) in
    let whole = ap (λ s. s.front) (sym c.self.view_is) ∙ ap (λ w. front_with c.self.inside.frames w) some.1 in
    whole_stays c.args.self.now some.0 fed whole is

pub invariant_of-self : goal.invariant_of-self
invariant_of-self c =
    let none = none_of c.self.inside.whole (sym c.is_some.ensures ∙ c.if-is_some.false) in
    let kept : IsKept c.self.inside.frames None c.self.inside.refused = subst (λ w. IsKept c.self.inside.frames w c.self.inside.refused) none c.self.invariant in
    let takes = subst (λ l. Takes kept.fed l c.in-Ok.count c.feed.new.self) c.bytes.ensures (c.in-Ok.ensures.told kept.fed kept.front) in
    read_kept kept.fed c.self.inside.ahead c.in-Ok.count c.self.inside.frames c.feed.new.self c.taken.new.frames c.taken.result c.self.inside.refused kept.front kept.marked takes c.taken.ensures

pub returns-in-Ok-clause-goes_on : goal.returns-in-Ok-clause-goes_on
returns-in-Ok-clause-goes_on c came messages come =
    let none = none_of c.self.inside.whole (sym c.is_some.ensures ∙ c.if-is_some.false) in
    let front : c.args.self.now.front ≡ c.self.inside.frames = ap (λ s. s.front) (sym c.self.view_is) ∙ ap (λ w. front_with c.self.inside.frames w) none in
    let after = sym (kept_front c.feed.new.self c.taken.new.frames c.taken.result c.taken.ensures) in
    read_on came messages c.args.self.now _ c.self.inside.ahead c.in-Ok.count (ap (λ s. s.ahead) (sym c.self.view_is)) c.drop_front.ensures
    (λ stream given. subst (λ (f : Front). HasGiven (stream ++ take c.in-Ok.count c.self.inside.ahead) messages f) after
    (subst (λ (l : List ℕ). HasGiven (stream ++ take c.in-Ok.count l) messages c.feed.new.self) c.bytes.ensures
    (c.in-Ok.ensures.goes_on stream messages (subst (λ (f : Front). HasGiven stream messages f) front given))))
    come
