use Rattle.client_file_calls.proofs.Addresses.{address_is}
use Rattle.client_file_calls.proofs.device_info.universal_address.Goals as goal

pub returns : goal.returns
returns c = address_is c.args.text.now c.parse_universal.result c.parse_universal.ensures.text c.parse_universal.ensures.address
