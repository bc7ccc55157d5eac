-- The request of a slot that a record makes (RFC 8881, section 18.46).
use Rattle.std.specs.Prelude.{List, [], ◌∷◌, Option, None, option_map}
use Rattle.ff_xdr.specs.Form.{Value}
use Rattle.nfs4_types.specs.declared.sequence.Sequence.{Sequence}
use Rattle.nfs4_compound.specs.Args.{argop4}
use Rattle.mds_receive.specs.MdsReceive.{IncomingValue, PassedOver, IsReply, IsAnswered, IsCompound}
use Rattle.mds_rule.specs.Compounds.{sequence_in, sequence_of}

-- of a slot, where its compound begins with a SEQUENCE
abbrev pub first_request : List (Value argop4) → Option Sequence
first_request [] = None
first_request (op ∷ ops) = option_map sequence_in (sequence_of op)

abbrev pub request_in : IncomingValue → Option Sequence
request_in PassedOver = None
request_in (IsReply reply) = None
request_in (IsAnswered bytes) = None
request_in (IsCompound xid v) = first_request v.ops.values
