use Rattle.device_addr.specs.Universal.{address_value}
use Rattle.granted_layouts.proofs.DeviceSizes.{body_few}
use Rattle.granted_layouts.proofs.granted_device.device_body.Goals as goal

pub returns-clause-few : goal.returns-clause-few
returns-clause-few c =
    body_few (address_value c.args.address.now) c.device_info_size-size.result c.in_ok-body.body c.in_ok-body.ensures c.device_info_size-size.ensures c.device_info_size-size.type_inv
