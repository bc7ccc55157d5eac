use Rattle.std.proofs.Common.{◌≡◌, refl, sym, ap, ◌∙◌}
use Rattle.cluster_model.specs.declared.outbox.Outbox.{Outbox}
use Rattle.mirror_client.specs.ClientSteps.{ClientOfUser}
use Rattle.mirror_client.specs.ClientRule.{turned}
use Rattle.world_rule.specs.Machines.{leaves}
use Rattle.cluster_machines.proofs.Acting.{no_client, client_stays, client_stepped, read_again}
use Rattle.cluster_machines.proofs.Leaving.{left_before, has_turned}
use Rattle.cluster_machines.proofs.machines.Machines.turn.Goals as goal

pub returns-in_default : goal.returns-in_default
returns-in_default c = no_client c.args.self.now _ _ c.self.inside.clients.items c.self.view_is c.args.client c.len.result (leaves c.args.client) c.args.out.now (c.len.ensures ∙ c.self.inside.clients.ok.0) (sym c.index_of.ensures.exact ∙ c.in_default.is)

pub returns-then-has_left : goal.returns-then-has_left
returns-then-has_left c =
    let x = c.index.result.now in
    client_stays c.args.self.now _ _ c.self.inside.clients.items c.self.view_is c.args.client c.len.result c.in-Some.index c.index.result.now (c.len.ensures ∙ c.self.inside.clients.ok.0) c.in-Some.ensures.within.0 c.in-Some.ensures.within.1 c.index.ensures (leaves c.args.client) c.args.out.now (left_before c.args.client x.client (sym c.has_left.ensures ∙ c.if-has_left.true))

pub returns : goal.returns
returns c =
    let x = c.index.result.now in
    let z = c.index_mut.result.now in
    let y = c.turn.new.self in
    let after : Outbox = record c.args.out.now { entries = c.push.new.self } in
    let same : z ≡ x = read_again c.args.self.now _ _ c.self.inside.clients.items c.self.view_is c.args.client c.len.result c.in-Some.index c.index.result.now (c.len.ensures ∙ c.self.inside.clients.ok.0) c.in-Some.ensures.within.0 c.in-Some.ensures.within.1 c.index.ensures z c.index_mut.ensures.value in
    let is : y.client ≡ turned x.client = ap (λ (d : ClientOfUser). d.client) c.turn.ensures ∙ ap (λ (d : ClientOfUser). turned d.client) same in
    client_stepped c.args.self.now _ _ c.self.inside.clients.items c.self.view_is c.args.client c.len.result c.in-Some.index c.index.result.now (c.len.ensures ∙ c.self.inside.clients.ok.0) c.in-Some.ensures.within.0 c.in-Some.ensures.within.1 c.index.ensures (leaves c.args.client) y c.args.out.now after (has_turned c.args.client x.client y.client c.args.out.now after (sym c.has_left.ensures ∙ c.if-has_left.false) is c.in_ok-push.ensures.items refl)
