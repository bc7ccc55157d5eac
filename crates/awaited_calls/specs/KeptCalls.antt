-- What a kept call is.
use Rattle.cluster_model.specs.DsCalls.{DsCallValue}
use Rattle.cluster_model.specs.DsCalls as ds
use Rattle.awaited_calls.specs.declared.kept_call.KeptBody.{KeptBody}
use Rattle.awaited_calls.specs.declared.kept_call.KeptBody.TheVariants.{Create, SetAttr, Write, Commit, Read}

-- the call that it keeps (RFC 1813, section 3.3)
abbrev pub kept_value : KeptBody → DsCallValue
kept_value (Create name owner) = ds.Create name owner.0
kept_value (SetAttr fileid owner guard) = ds.SetAttr fileid owner.0 guard
kept_value (Write fileid at synced bytes) = ds.Write fileid at synced bytes
kept_value (Commit fileid) = ds.Commit fileid
kept_value (Read fileid at count) = ds.Read fileid at count
