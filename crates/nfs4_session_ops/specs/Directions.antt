-- Which channels of a session a connection serves (RFC 8881, section 18.34).
use Rattle.std.specs.Prelude.{ℕ, [], ◌∷◌}
use Rattle.ff_xdr.specs.Form.{Form, Enum}
use Rattle.nfs4_session_ops.specs.declared.direction.FromClient.{FromClient}
use Rattle.nfs4_session_ops.specs.declared.direction.FromClient.TheVariants as client
use Rattle.nfs4_session_ops.specs.declared.direction.FromServer.{FromServer}
use Rattle.nfs4_session_ops.specs.declared.direction.FromServer.TheVariants as server

-- channel_dir_from_client4: FORE, BACK, FORE_OR_BOTH, BACK_OR_BOTH
abbrev pub from_client4 : Form
from_client4 = Enum (1 ∷ 2 ∷ 3 ∷ 7 ∷ [])

abbrev pub from_client4_number : FromClient → ℕ
from_client4_number client.Fore = 1
from_client4_number client.Back = 2
from_client4_number client.ForeOrBoth = 3
from_client4_number client.BackOrBoth = 7

-- channel_dir_from_server4: FORE, BACK, BOTH
abbrev pub from_server4 : Form
from_server4 = Enum (1 ∷ 2 ∷ 3 ∷ [])

abbrev pub from_server4_number : FromServer → ℕ
from_server4_number server.Fore = 1
from_server4_number server.Back = 2
from_server4_number server.Both = 3
