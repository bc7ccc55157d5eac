-- READ: bytes of a file (RFC 1813, section 3.3.6).
use Rattle.std.specs.Prelude.{ℕ, ◌+◌, length, Option, Some, None}
use Rattle.nfs3_wire.specs.declared.status.Stat3.TheVariants as stat
use Rattle.nfs3_wire.specs.Replies.{Nfs3Reply, ReadDone, ReadRefused}
use Rattle.cluster_model.specs.File.{StoredFile}
use Rattle.cluster_model.specs.Server.{ServerState, Caller, Refusal, read_refusal, bytes_read, ends_at}
use Rattle.ds_procedures.specs.Objects.{Object, Missing, Root, File, attributes_of, file_attributes, stat_of}

abbrev pub read_done : ℕ → StoredFile → ℕ → ℕ → Nfs3Reply
read_done index f offset count =
    let bytes = bytes_read f offset count in
    ReadDone (Some (file_attributes (index + 2) f)) (length bytes) (ends_at f offset bytes) bytes

abbrev pub read_unless : ℕ → StoredFile → ℕ → ℕ → Option Refusal → Nfs3Reply
read_unless index f offset count (Some refusal) = ReadRefused (stat_of refusal) (Some (file_attributes (index + 2) f))
read_unless index f offset count None = read_done index f offset count

abbrev pub read_reply : ServerState → Object → ℕ → ℕ → Caller → Nfs3Reply
read_reply s (Missing status) offset count caller = ReadRefused status None
read_reply s Root offset count caller = ReadRefused stat.Inval (attributes_of s Root)
read_reply s (File index f) offset count caller = read_unless index f offset count (read_refusal f caller)
