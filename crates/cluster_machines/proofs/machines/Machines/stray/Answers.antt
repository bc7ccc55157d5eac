use Rattle.std.proofs.Common.{◌≡◌, sym, ap, ◌∙◌}
use Rattle.mirror_client.specs.ClientSteps.{ClientOfUser}
use Rattle.mirror_client.specs.ClientRule.{strays}
use Rattle.world_rule.specs.Machines.{goes_astray}
use Rattle.cluster_machines.proofs.Acting.{no_client, client_stays, client_acted_as, read_again}
use Rattle.cluster_machines.proofs.Leaving.{stays_within, strays_left}
use Rattle.cluster_machines.proofs.machines.Machines.stray.Goals as goal

pub returns-in_default : goal.returns-in_default
returns-in_default c = no_client c.args.self.now _ _ c.self.inside.clients.items c.self.view_is c.args.client c.len.result (goes_astray c.args.place c.args.at c.args.bytes.now) c.args.out.now (c.len.ensures ∙ c.self.inside.clients.ok.0) (sym c.index_of.ensures.exact ∙ c.in_default.is)

pub returns-then-not-has_left : goal.returns-then-not-has_left
returns-then-not-has_left c =
    let x = c.index.result.now in
    client_stays c.args.self.now _ _ c.self.inside.clients.items c.self.view_is c.args.client c.len.result c.in-Some.index c.index.result.now (c.len.ensures ∙ c.self.inside.clients.ok.0) c.in-Some.ensures.within.0 c.in-Some.ensures.within.1 c.index.ensures (goes_astray c.args.place c.args.at c.args.bytes.now) c.args.out.now (stays_within c.args.place c.args.at c.args.bytes.now x.client (sym c.has_left.ensures ∙ c.if-not-has_left.true))

pub returns : goal.returns
returns c =
    let x = c.index.result.now in
    let z = c.index_mut.result.now in
    let same : z ≡ x = read_again c.args.self.now _ _ c.self.inside.clients.items c.self.view_is c.args.client c.len.result c.in-Some.index c.index.result.now (c.len.ensures ∙ c.self.inside.clients.ok.0) c.in-Some.ensures.within.0 c.in-Some.ensures.within.1 c.index.ensures z c.index_mut.ensures.value in
    client_acted_as c.args.self.now _ _ c.self.inside.clients.items c.self.view_is c.args.client c.len.result c.in-Some.index c.index_mut.result.now (c.len.ensures ∙ c.self.inside.clients.ok.0) c.in-Some.ensures.within.0 c.in-Some.ensures.within.1 c.index_mut.ensures.value (goes_astray c.args.place c.args.at c.args.bytes.now) (λ d. strays d.file d.layout c.args.place c.args.at c.args.bytes.now d) c.stray.new.self c.args.out.now c.stray.result c.stray.new.out
    (strays_left c.args.place c.args.at c.args.bytes.now z.client (ap (λ (d : ClientOfUser). d.client.has_left) same ∙ sym c.has_left.ensures ∙ c.if-not-has_left.false)) c.stray.ensures
