use Rattle.std.proofs.Common.{◌≡◌, ◌≤◌, ℕ, List, map, ap, subst, refl, inl, ◌∙◌}
use Rattle.std.specs.Prelude.{max}
use Rattle.record_server.specs.Server.{ServingState, resumed_by}
use Rattle.record_server.proofs.server.RecordServer.ask.Goals as goal

pub returns : goal.returns
returns g c =
    let old : ServingState = c.args.self.now in
    let reported : List ℕ = g.N.Network.reported c.time.new.self in
    let time : c.max-self-inside.result ≡ max old.time c.time.result = c.max-self-inside.ensures ∙ ap (λ (x : ServingState). max x.time c.time.result) c.self.view_is in
    let waiting : g.N.Network.waiting c.time.new.self ≡ old.waiting = c.time.ensures.waiting ∙ c.wait.ensures.waiting ∙ ap (λ (x : ServingState). x.waiting) c.self.view_is in
    let made : g.N.Network.made c.time.new.self ≡ old.made = c.time.ensures.made ∙ c.wait.ensures.made ∙ ap (λ (x : ServingState). x.made) c.self.view_is in
    let met : g.N.Network.faults c.time.new.self ≡ old.faults = c.time.ensures.faults ∙ c.if-not-wait.ensures.faults ∙ ap (λ (x : ServingState). x.faults) c.self.view_is in
    let rises : old.moment ≤ c.time.result = subst (λ (m : ℕ). m ≤ c.time.result) (c.wait.ensures.moment ∙ ap (λ (x : ServingState). x.moment) c.self.view_is) c.time.ensures.rises in (
      c.time.result,
      reported,
      rises,
      (
        map (resumed_by reported) old.peers,
        inl refl,
        c.resume.ensures
            ∙ (λ i. record (c.self.view_is i) { peers = map (resumed_by reported) (c.self.view_is i).peers; time = time i; waiting = waiting i; made = made i; reported = reported; moment = c.time.ensures.kept i; faults = met i }),
      ),
    )
