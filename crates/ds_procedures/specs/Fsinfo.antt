-- FSINFO: what the file system can (RFC 1813, section 3.3.19).
use Rattle.std.specs.Prelude.{Option, None}
use Rattle.ds_procedures.specs.declared.fsinfo.TheConstants.{LISTING, PREFERRED, PROPERTIES}
use Rattle.nfs3_wire.specs.declared.attributes.Fattr3.{Fattr3}
use Rattle.nfs3_wire.specs.declared.fsinfo.FsInfoOk.{FsInfoOk}
use Rattle.nfs3_wire.specs.Replies.{Nfs3Reply, FsInfoDone, FsInfoRefused}
use Rattle.cluster_model.specs.Server.{ServerState, max_read, max_file}
use Rattle.ds_procedures.specs.Objects.{Object, Missing, Root, File, attributes_of}

-- data in one READ or WRITE, the sizes that are best, the longest file, the step of times, and what the file system can: it is the
-- same everywhere, and sets times (FSF3_HOMOGENEOUS and FSF3_CANSETTIME)
abbrev pub server_info : Option Fattr3 → FsInfoOk
server_info attributes = record {
  attributes = attributes;
  rtmax = max_read;
  rtpref = PREFERRED;
  rtmult = 1;
  wtmax = max_read;
  wtpref = PREFERRED;
  wtmult = 1;
  dtpref = LISTING;
  maxfilesize = max_file;
  time_delta = record { seconds = 0; nanos = 1 };
  properties = PROPERTIES;
}

abbrev pub fsinfo_reply : ServerState → Object → Nfs3Reply
fsinfo_reply s (Missing status) = FsInfoRefused status None
fsinfo_reply s Root = FsInfoDone (server_info (attributes_of s Root))
fsinfo_reply s (File index f) = FsInfoDone (server_info (attributes_of s (File index f)))
