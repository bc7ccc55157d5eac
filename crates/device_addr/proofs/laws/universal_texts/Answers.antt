use Rattle.device_addr.proofs.TextLemmas.{same_address}
use Rattle.device_addr.proofs.laws.universal_texts.Goals as goal

pub returns : goal.returns
returns c = same_address
