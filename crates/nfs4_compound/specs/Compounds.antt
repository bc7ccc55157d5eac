-- Compounds and callback compounds: what stands before the operations, and the whole (RFC 8881, sections 16.2.3 and 20.2.3).
use Rattle.std.specs.Prelude.{ℕ, List, Result, Ok}
use Rattle.nfs4_compound.specs.declared.tag.TheConstants.{MAX_TAG4}
use Rattle.ff_xdr.specs.declared.error.XdrError.{XdrError}
use Rattle.ff_xdr.specs.Form.{Form, Number32, Text, Pair, Array, Value}
use Rattle.ff_xdr.specs.Reading.{◌>>=◌, reading}
use Rattle.nfs4_types.specs.Status.{nfsstat4}
use Rattle.nfs4_compound.specs.Args.{argop4}
use Rattle.nfs4_compound.specs.CbArgs.{cb_argop4}
use Rattle.nfs4_compound.specs.Results.{resop4}
use Rattle.nfs4_compound.specs.CbResults.{cb_resop4}
use Rattle.nfs4_compound.specs.declared.stop.Stop.{Stop}
use Rattle.nfs4_compound.specs.Operations.{OpList, operations, verdict_of}
use Rattle.nfs4_compound.specs.AllOps.{nfs_argop4, served_ops}

-- a tag, utf8str_cs, of at most 1,024 bytes; the maximum is the project's own
abbrev pub tag4 : Form
tag4 = Text MAX_TAG4

-- COMPOUND4args: tag, minorversion, argarray<>
abbrev pub compound4_args : Form
compound4_args = Pair tag4 (Pair Number32 (Array 4294967295 argop4))

-- COMPOUND4res: status, tag, resarray<>
abbrev pub compound4_res : Form
compound4_res = Pair nfsstat4 (Pair tag4 (Array 4294967295 resop4))

-- CB_COMPOUND4args: tag, minorversion, callback_ident, argarray<>
abbrev pub cb_compound4_args : Form
cb_compound4_args = Pair tag4 (Pair Number32 (Pair Number32 (Array 4294967295 cb_argop4)))

-- CB_COMPOUND4res: status, tag, resarray<>
abbrev pub cb_compound4_res : Form
cb_compound4_res = Pair nfsstat4 (Pair tag4 (Array 4294967295 cb_resop4))

-- A compound's arguments of which the operations are read one by one: the tag, the minor version, how many operations there are to be,
-- those that stand there, up to the first that is not carried out, and why none is read behind all that are.
pub record CompoundValue : Type 0 where
  pub tag : List ℕ
  pub minorversion : ℕ
  pub count : ℕ
  pub ops : OpList argop4
  pub stop : Stop

abbrev pub whole_stop : ℕ → List ℕ → ℕ → Stop
whole_stop count bytes at = (operations nfs_argop4 count bytes at).stop

abbrev pub compound_head : Form
compound_head = Pair tag4 (Pair Number32 Number32)

abbrev pub compound_of : List ℕ → Value compound_head × ℕ → CompoundValue
compound_of args ((tag, (minorversion, count)), at) =
    record { tag = tag; minorversion = minorversion; count = count; ops = served_ops count args at; stop = whole_stop count args at }

abbrev pub compound_at : List ℕ → Result CompoundValue XdrError
compound_at args = do
  head ← reading compound_head args 0
  Ok (compound_of args head)

-- what a compound's arguments are judged to be
abbrev pub compound_verdict : List ℕ → Result (Unit {0}) XdrError
compound_verdict args = do
  compound ← compound_at args
  verdict_of compound.stop

-- The same of a callback compound, which has a callback_ident too.
pub record CbCompoundValue : Type 0 where
  pub tag : List ℕ
  pub minorversion : ℕ
  pub callback_ident : ℕ
  pub count : ℕ
  pub ops : OpList cb_argop4

abbrev pub cb_compound_head : Form
cb_compound_head = Pair tag4 (Pair Number32 (Pair Number32 Number32))

abbrev pub cb_compound_of : List ℕ → Value cb_compound_head × ℕ → CbCompoundValue
cb_compound_of args ((tag, (minorversion, (callback_ident, count))), at) =
    record { tag = tag; minorversion = minorversion; callback_ident = callback_ident; count = count; ops = operations cb_argop4 count args at }

abbrev pub cb_compound_at : List ℕ → Result CbCompoundValue XdrError
cb_compound_at args = do
  head ← reading cb_compound_head args 0
  Ok (cb_compound_of args head)

abbrev pub cb_compound_verdict : List ℕ → Result (Unit {0}) XdrError
cb_compound_verdict args = do
  compound ← cb_compound_at args
  verdict_of compound.ops.stop
