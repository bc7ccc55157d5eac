-- How the code goes through the cases of EXCHANGE_ID.
use Rattle.std.specs.Prelude.{Bool, true, false, Option, Some, None}
use Rattle.nfs4_session.specs.declared.faults.Exchanged.{Exchanged}
use Rattle.nfs4_session.specs.ExchangeIds.{ExchangeCase, IsKnown, IsAgain, ReplacesUnconfirmed, Restarts, IsNewOwner, exchanged}

-- the record that is there already
abbrev pub record_known : ExchangeCase → Option Exchanged
record_known (IsKnown client) = Some (exchanged client)
record_known (IsAgain client) = Some (exchanged client)
record_known ReplacesUnconfirmed = None
record_known Restarts = None
record_known IsNewOwner = None

abbrev pub is_new_owner : ExchangeCase → Bool
is_new_owner (IsKnown client) = false
is_new_owner (IsAgain client) = false
is_new_owner ReplacesUnconfirmed = false
is_new_owner Restarts = false
is_new_owner IsNewOwner = true
