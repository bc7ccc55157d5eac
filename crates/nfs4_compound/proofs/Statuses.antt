-- Each status is one of those that a compound may have.
use Rattle.std.proofs.Common.{refl}
use Rattle.ff_xdr.specs.Form.{Fits}
use Rattle.nfs4_types.specs.declared.status.Stat4.{Stat4}
use Rattle.nfs4_types.specs.declared.status.Stat4.TheVariants as stat
use Rattle.nfs4_types.specs.Status.{nfsstat4, stat4_number}

pub stat_fits : (s : Stat4) → Fits nfsstat4 (stat4_number s)
stat_fits stat.Ok = refl
stat_fits stat.Perm = refl
stat_fits stat.NoEnt = refl
stat_fits stat.Io = refl
stat_fits stat.Access = refl
stat_fits stat.Exist = refl
stat_fits stat.NotDir = refl
stat_fits stat.IsDir = refl
stat_fits stat.Inval = refl
stat_fits stat.Fbig = refl
stat_fits stat.NoSpc = refl
stat_fits stat.Rofs = refl
stat_fits stat.NameTooLong = refl
stat_fits stat.Stale = refl
stat_fits stat.BadHandle = refl
stat_fits stat.BadCookie = refl
stat_fits stat.NotSupp = refl
stat_fits stat.TooSmall = refl
stat_fits stat.ServerFault = refl
stat_fits stat.Delay = refl
stat_fits stat.NoFileHandle = refl
stat_fits stat.MinorVersMismatch = refl
stat_fits stat.StaleClientId = refl
stat_fits stat.OldStateid = refl
stat_fits stat.BadStateid = refl
stat_fits stat.NotSame = refl
stat_fits stat.AttrNotSupp = refl
stat_fits stat.NoGrace = refl
stat_fits stat.BadXdr = refl
stat_fits stat.LocksHeld = refl
stat_fits stat.BadOwner = refl
stat_fits stat.OpIllegal = refl
stat_fits stat.BadIoMode = refl
stat_fits stat.BadSession = refl
stat_fits stat.BadSlot = refl
stat_fits stat.CompleteAlready = refl
stat_fits stat.LayoutTryLater = refl
stat_fits stat.LayoutUnavailable = refl
stat_fits stat.NoMatchingLayout = refl
stat_fits stat.RecallConflict = refl
stat_fits stat.UnknownLayoutType = refl
stat_fits stat.SeqMisordered = refl
stat_fits stat.SequencePos = refl
stat_fits stat.RepTooBigToCache = refl
stat_fits stat.RetryUncachedRep = refl
stat_fits stat.TooManyOps = refl
stat_fits stat.OpNotInSession = refl
stat_fits stat.ClientIdBusy = refl
stat_fits stat.NotOnlyOp = refl
stat_fits stat.WrongType = refl
