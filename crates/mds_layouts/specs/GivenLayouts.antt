-- The body of a device that is given whole.
use Rattle.std.specs.Prelude.{ℕ, List, [], Option, Some, None}
use Rattle.device_addr.specs.Universal.{AddressValue}
use Rattle.granted_layouts.specs.GrantedBodies.{device_body}

-- its address; no bytes where there is none
abbrev pub address_bytes : Option AddressValue → List ℕ
address_bytes None = []
address_bytes (Some address) = device_body address
