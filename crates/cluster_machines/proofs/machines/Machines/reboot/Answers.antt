use Rattle.std.proofs.Common.{◌≡◌, refl, sym, ap, ◌∙◌}
use Rattle.cluster_model.specs.declared.outbox.Outbox.{Outbox}
use Rattle.mirror_client.specs.ClientSteps.{ClientOfUser}
use Rattle.client_state.specs.ClientStates.{fresh_client}
use Rattle.world_rule.specs.Machines.{starts_anew}
use Rattle.cluster_machines.proofs.Acting.{no_client, client_stays, client_stepped, read_again}
use Rattle.cluster_machines.proofs.Leaving.{stays_away, has_started}
use Rattle.cluster_machines.proofs.machines.Machines.reboot.Goals as goal

pub returns-in_default : goal.returns-in_default
returns-in_default c = no_client c.args.self.now _ _ c.self.inside.clients.items c.self.view_is c.args.client c.len.result (starts_anew c.args.client c.args.verifier) c.args.out.now (c.len.ensures ∙ c.self.inside.clients.ok.0) (sym c.index_of.ensures.exact ∙ c.in_default.is)

pub returns-then-has_left : goal.returns-then-has_left
returns-then-has_left c =
    let x = c.index.result.now in
    client_stays c.args.self.now _ _ c.self.inside.clients.items c.self.view_is c.args.client c.len.result c.in-Some.index c.index.result.now (c.len.ensures ∙ c.self.inside.clients.ok.0) c.in-Some.ensures.within.0 c.in-Some.ensures.within.1 c.index.ensures (starts_anew c.args.client c.args.verifier) c.args.out.now (stays_away c.args.client c.args.verifier x.client (sym c.has_left.ensures ∙ c.if-has_left.true))

pub returns : goal.returns
returns c =
    let x = c.index.result.now in
    let z = c.index-2.result.now in
    let y = c.in_ok-started.started in
    let after : Outbox = record c.args.out.now { entries = c.push.new.self } in
    let same : z ≡ x = read_again c.args.self.now _ _ c.self.inside.clients.items c.self.view_is c.args.client c.len.result c.in-Some.index c.index.result.now (c.len.ensures ∙ c.self.inside.clients.ok.0) c.in-Some.ensures.within.0 c.in-Some.ensures.within.1 c.index.ensures z c.index-2.ensures in
    let is : y.client ≡ fresh_client c.args.client c.args.verifier x.client.next_xid
    = c.in_ok-started.ensures ∙ ap (fresh_client c.args.client c.args.verifier) (c.next_xid-first_xid.ensures ∙ ap (λ (d : ClientOfUser). d.client.next_xid) same) in
    client_stepped c.args.self.now _ _ c.self.inside.clients.items c.self.view_is c.args.client c.len.result c.in-Some.index c.index.result.now (c.len.ensures ∙ c.self.inside.clients.ok.0) c.in-Some.ensures.within.0 c.in-Some.ensures.within.1 c.index.ensures (starts_anew c.args.client c.args.verifier) y c.args.out.now after
    (has_started c.args.client c.args.verifier x.client y.client c.args.out.now after (sym c.has_left.ensures ∙ c.if-has_left.false) is c.in_ok-push.ensures.items refl)
