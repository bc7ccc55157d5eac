-- The arguments of a client's compound (RFC 8881, section 16.2), and the SEQUENCE in front of them. What has no other value is zero,
-- false, absent or empty.
use Rattle.std.specs.Prelude.{ℕ, Bool, List, []}
use Rattle.ff_xdr.specs.Form.{Value, spelling}
use Rattle.ff_xdr.specs.Arms.{arm}
use Rattle.nfs4_types.specs.declared.ids.SessionId.{SessionId}
use Rattle.nfs4_compound.specs.Args.{argop4}
use Rattle.nfs4_compound.specs.Compounds.{compound4_args}

-- (section 18.46), on slot 0
abbrev pub sequence_op : SessionId → ℕ → Bool → Value argop4
sequence_op session sequence kept = arm 53 argop4 (session.0, (sequence, (0, (0, kept))))

-- the arguments of a compound of these operations: an empty tag, and minor version 1 (section 16.2)
unfoldable pub compound_args : List (Value argop4) → List ℕ
compound_args ops = spelling compound4_args ([], (1, ops))
