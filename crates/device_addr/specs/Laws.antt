-- Different addresses have different texts.
use Rattle.std.specs.Prelude.{◌≡◌}
use Rattle.device_addr.specs.Universal.{AddressValue, IsAddress, address_text}

abbrev pub AreTextsDifferent : Type 0
AreTextsDifferent = (a b : AddressValue) → IsAddress a → IsAddress b → address_text a ≡ address_text b → a ≡ b
