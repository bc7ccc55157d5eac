use Rattle.device_addr.specs.Universal.{address_value}
use Rattle.granted_layouts.proofs.DeviceSizes.{device_info_size_is}
use Rattle.granted_layouts.proofs.device_answer.device_info_size.Goals as goal

pub returns : goal.returns
returns c = device_info_size_is (address_value c.args.address.now) c.text_len.result c.text_len.ensures.length
