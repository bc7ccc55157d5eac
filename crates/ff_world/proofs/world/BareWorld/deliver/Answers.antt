use Rattle.std.proofs.Common.{◌≡◌, ◌+◌, ◌≤◌, length, subst, ap, arith}
use Rattle.cluster_model.specs.Event.{Deliver}
use Rattle.ds_files.specs.Receive.{outcome_of}
use Rattle.ff_world.specs.World.{WorldValue, Happens, sends_of}
use Rattle.ff_world.proofs.Effects.{few_packets, delivered, with_server, entered}
use Rattle.ff_world.proofs.world.BareWorld.deliver.Goals as goal

pub enter-requires : goal.enter-requires
enter-requires c =
    let few : 1 + length c.on_record.new.out.sends.items ≤ length c.in_ok-added.added.items = rw c.in_ok-added.ensures (few_packets c.self.inside.sent c.args.bytes c.on_record.new.out.entries.items c.on_record.new.out.sends.items) in
    omega (arith, few, c.len.ensures, c.self.invariant.sent)

pub returns-clause-happens : goal.returns-clause-happens
returns-clause-happens c =
    let old : WorldValue = record { world = record { server = c.self.inside.server; sent = c.self.inside.sent; journal = c.self.inside.journal }; spent = c.self.inside.spent } in
    let o = outcome_of c.self.inside.server c.args.bytes in
    let acts = c.in_ok-on_record.ensures.ok in
    let state : c.on_record.new.self ≡ o.server = rw c.bytes-2.ensures at acts.state in
    let entries : c.on_record.new.out.entries.items ≡ o.entries = rw (c.bytes-2.ensures, c.new-out.ensures.entries) at acts.entries in
    let sends : c.on_record.new.out.sends.items ≡ sends_of o = rw (c.bytes-2.ensures, c.new-out.ensures.sends) at acts.sends in
    let adds = delivered old.world c.args.bytes _ _ _ entries sends c.in_ok-added.ensures in
    let many : c.self.inside.sent + 1 + c.len.result ≡ c.self.inside.sent + 1 + length (sends_of o) = omega (arith, adds.1) in
    subst (λ (v : WorldValue). Happens v.world (Deliver c.args.bytes) c.enter.result c.enter.new.self.world) c.self.view_is
    (entered old (with_server old c.on_record.new.self) c.enter.new.self (Deliver c.args.bytes) _ _ c.enter.result (ap (with_server old) state) many adds.0 c.enter.ensures).0
