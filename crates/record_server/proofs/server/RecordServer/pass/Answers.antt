use Rattle.std.proofs.Common.{◌≡◌, ◌≤◌, ℕ, ap, subst, ◌∙◌}
use Rattle.std.specs.Prelude.{max}
use Rattle.record_server.specs.Network.{waited_more}
use Rattle.record_server.specs.Server.{ServingState}
use Rattle.record_server.proofs.server.RecordServer.pass.Goals as goal

pub returns : goal.returns
returns g c =
    let old : ServingState = c.args.self.now in
    let could = c.wait-could.result in
    let time : c.max-self-inside.result ≡ max old.time c.time.result = c.max-self-inside.ensures ∙ ap (λ (x : ServingState). max x.time c.time.result) c.self.view_is in
    let waiting : g.N.Network.waiting c.time.new.self ≡ old.waiting = c.time.ensures.waiting ∙ c.wait-could.ensures.waiting ∙ ap (λ (x : ServingState). x.waiting) c.self.view_is in
    let made : g.N.Network.made c.time.new.self ≡ old.made = c.time.ensures.made ∙ c.wait-could.ensures.made ∙ ap (λ (x : ServingState). x.made) c.self.view_is in
    let met : g.N.Network.faults c.time.new.self ≡ waited_more could old.faults = c.time.ensures.faults ∙ c.wait-could.ensures.faults ∙ ap (λ (x : ServingState). waited_more could x.faults) c.self.view_is in
    let rises : old.moment ≤ c.time.result = subst (λ (m : ℕ). m ≤ c.time.result) (c.wait-could.ensures.moment ∙ ap (λ (x : ServingState). x.moment) c.self.view_is) c.time.ensures.rises in
    (c.time.result, (rises, λ i. record (c.self.view_is i) { time = time i; waiting = waiting i; made = made i; reported = g.N.Network.reported c.time.new.self; moment = c.time.ensures.kept i; faults = met i }))
