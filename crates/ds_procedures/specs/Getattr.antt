-- GETATTR: the attributes of an object (RFC 1813, section 3.3.1).
use Rattle.nfs3_wire.specs.Replies.{Nfs3Reply, GetAttrDone, GetAttrRefused}
use Rattle.cluster_model.specs.Server.{ServerState}
use Rattle.ds_procedures.specs.Objects.{Object, Missing, Root, File, root_attributes, file_attributes}
use Rattle.std.specs.Prelude.{◌+◌}

abbrev pub getattr_reply : ServerState → Object → Nfs3Reply
getattr_reply s (Missing status) = GetAttrRefused status
getattr_reply s Root = GetAttrDone (root_attributes s.root)
getattr_reply s (File index f) = GetAttrDone (file_attributes (index + 2) f)
