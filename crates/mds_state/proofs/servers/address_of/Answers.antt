use Rattle.std.proofs.Common.{◌+◌, [], map, sym, ap, ◌∙◌}
use Rattle.std.specs.Prelude.{bytes_eq}
use Rattle.device_addr.specs.Universal.{address_value}
use Rattle.mds_rule.specs.LayoutOps.{device_from}
use Rattle.nfs4_types.specs.declared.ids.DeviceId.{DeviceId}
use Rattle.mds_state.proofs.Devices.{found_here, not_here}
use Rattle.mds_state.proofs.servers.address_of.Goals as goal

pub loop-place-preserved : goal.loop-place-preserved
loop-place-preserved c =
    not_here (c.loop-place.place + 1) c.loop-place.place c.args.addresses.now (record { host = []; port = 0 }) c.args.device.0
    (device_from 1 (map address_value c.args.addresses.now) c.args.device.0) c.loop-place-test.true
    (ap (λ (d : DeviceId). bytes_eq d.0 c.args.device.0) (sym c.device_of.ensures) ∙ sym c.eq.ensures ∙ c.if-eq.false)
    c.loop-place.invariant

pub returns-then-eq : goal.returns-then-eq
returns-then-eq c =
    found_here (c.loop-place.place + 1) c.loop-place.place c.args.addresses.now (record { host = []; port = 0 }) c.args.device.0
    (device_from 1 (map address_value c.args.addresses.now) c.args.device.0) c.loop-place-test.true
    (ap (λ (d : DeviceId). bytes_eq d.0 c.args.device.0) (sym c.device_of.ensures) ∙ sym c.eq.ensures ∙ c.if-eq.true)
    c.loop-place.invariant
