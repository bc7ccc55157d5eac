-- The read law: a READ through the metadata server is answered with bytes that a mirror showed, or as failed where every mirror failed it
-- (RFC 8881, section 18.22; RFC 1813, section 3.3.6).
use Rattle.std.specs.Prelude.{◌≡◌, ℕ, ◌⊎◌, List, [], ◌∷◌, ◌++◌, take, drop, min, Option, Some, None, Ok}
use Rattle.std.specs.List.{AllByRecursion}
use Rattle.rpc_record.specs.Calls.{RpcCall, call_at}
use Rattle.rpc_record.specs.Replies.{RpcReply, reply_at}
use Rattle.cluster_model.specs.declared.limits.TheConstants.{PIECE_SIZE}
use Rattle.cluster_model.specs.declared.ids.NodeId.{NodeId}
use Rattle.cluster_model.specs.declared.ids.NodeId.TheVariants.{Mds, Server, Client}
use Rattle.cluster_model.specs.declared.ids.FileId.{FileId}
use Rattle.cluster_model.specs.declared.ids.MirrorId.{MirrorId}
use Rattle.cluster_model.specs.declared.phase.LeftCause.{LeftCause}
use Rattle.cluster_model.specs.declared.entry.Entry.{Entry}
use Rattle.cluster_model.specs.declared.entry.Entry.TheVariants.{Packet, Delivered, ReadAnswer, Failed, Free, Left, Swapped}
use Rattle.cluster_model.specs.Content.{shown_of}
use Rattle.cluster_model.specs.Journal.{content_of}
use Rattle.cluster_model.specs.Members.{IsOneOf}
use Rattle.cluster_laws.specs.FenceLaw.{live_in}
use Rattle.ff_laws.specs.declared.read_call.ReadCall.{ReadCall}
use Rattle.ff_laws.specs.ReadCalls.{client_read_of, server_read_of}

-- ---- packets of a journal

-- a packet was sent, and what stands before it
pub record WasSentIn (journal : List Entry) (from to : NodeId) (bytes : List ℕ) : Type 0 where
  pub before : List Entry
  pub number : ℕ
  pub behind : List Entry
  pub split : journal ≡ before ++ Packet number from to bytes ∷ behind

-- the packet of this number was sent
pub record IsNumbered (journal : List Entry) (number : ℕ) (from to : NodeId) (bytes : List ℕ) : Type 0 where
  pub before : List Entry
  pub behind : List Entry
  pub split : journal ≡ before ++ Packet number from to bytes ∷ behind

-- the record is a call of this number, or a reply (RFC 5531, section 9)
pub record IsCallOf (bytes : List ℕ) (xid : ℕ) : Type 0 where
  pub call : RpcCall
  pub reads : call_at bytes ≡ Ok call
  pub number : call.xid ≡ xid

pub record IsReplyOf (bytes : List ℕ) (xid : ℕ) : Type 0 where
  pub reply : RpcReply
  pub reads : reply_at bytes ≡ Ok reply
  pub number : reply.xid ≡ xid

-- ---- the reply, the request, and the start

-- the first reply of the metadata server to a client
abbrev pub IsNoReplyToClient : Entry → Type 0
IsNoReplyToClient (Packet number Mds (Client client) bytes) = (xid : ℕ) → IsReplyOf bytes xid → ⊥
IsNoReplyToClient e = Unit {0}

pub record IsRepliedFirst (behind : List Entry) (client xid : ℕ) : Type 0 where
  pub quiet : List Entry
  pub number : ℕ
  pub bytes : List ℕ
  pub more : List Entry
  pub split : behind ≡ quiet ++ Packet number Mds (Client client) bytes ∷ more
  pub first : AllByRecursion IsNoReplyToClient quiet
  pub its : IsReplyOf bytes xid

-- Each call of that client to the metadata server under that number is this READ, repeated or not.
abbrev pub AreRequests : List Entry → ℕ → ReadCall → Type 0
AreRequests journal client read =
    (bytes : List ℕ) → WasSentIn journal (Client client) Mds bytes → IsCallOf bytes read.xid → client_read_of bytes ≡ Some read

-- one of the packets of the request came
pub record IsRequestIn (journal : List Entry) (client : ℕ) (read : ReadCall) (number : ℕ) : Type 0 where
  pub bytes : List ℕ
  pub there : IsNumbered journal number (Client client) Mds bytes
  pub reads : client_read_of bytes ≡ Some read

-- none of them came
abbrev pub HasNotCome : List Entry → ℕ → ReadCall → Type 0
HasNotCome early client read = (before behind : List Entry) (number : ℕ) → early ≡ before ++ Delivered number ∷ behind → IsRequestIn before client read number → ⊥

abbrev pub IsNoSwapOf : FileId → Entry → Type 0
IsNoSwapOf file (Swapped other old new) = other ≡ file → ⊥
IsNoSwapOf file e = Unit {0}

-- Behind this journal, these entries end where mirrors come into the file's live list, which is a swap of the file or its first entry
-- free; or there are none.
pub data EndsWithComing (journal : List Entry) (file : FileId) (entries : List Entry) : Type 0 where
  HasNone : entries ≡ [] → EndsWithComing journal file entries
  HasSwap : (before : List Entry) (old : Option MirrorId) (new : MirrorId) → entries ≡ before ++ Swapped file old new ∷ [] → EndsWithComing journal file entries
  HasFree : (before : List Entry) (live : List MirrorId) → entries ≡ before ++ Free file live ∷ [] → live_in (journal ++ before) file ≡ None
      → EndsWithComing journal file entries

-- The start of a READ is the first delivery of its request, or the last moment between that and the answer in which mirrors came into
-- the file's live list. No first entry free is behind the start, since the file has live mirrors there (`live_then` below).
pub record StartsAt (before : List Entry) (file : FileId) (client : ℕ) (read : ReadCall) (start since : List Entry) : Type 0 where
  pub early : List Entry
  pub number : ℕ
  pub comings : List Entry
  pub split : before ≡ start ++ since
  pub start_is : start ≡ early ++ Delivered number ∷ comings
  pub request : IsRequestIn early client read number
  pub first : HasNotCome early client read
  pub last : EndsWithComing (early ++ Delivered number ∷ []) file comings
  pub no_more : AllByRecursion (IsNoSwapOf file) since

-- ---- what the answer rests on

-- of bytes, those from an offset on, of which a READ gives at most 65,536
abbrev pub cut_of : ℕ → ℕ → List ℕ → List ℕ
cut_of offset count bytes = take (min count PIECE_SIZE) (drop offset bytes)

-- a mirror of these showed the bytes at a moment between the start and the answer
pub record WasShown (start since : List Entry) (read : ReadCall) (live : List MirrorId) (bytes : List ℕ) : Type 0 where
  pub mirror : MirrorId
  pub live_then : IsOneOf mirror live
  pub until : List Entry
  pub behind : List Entry
  pub split : since ≡ until ++ behind
  pub shows : cut_of read.offset read.count (shown_of (content_of (start ++ until) mirror).content) ≡ bytes

-- a READ of the mirror at the request's offset was sent since the start, and its number was not used there before
pub record WasAsked (start since : List Entry) (read : ReadCall) (mirror : MirrorId) (xid : ℕ) : Type 0 where
  pub bytes : List ℕ
  pub sent : WasSentIn since Mds (Server mirror.server) bytes
  pub asked : ReadCall
  pub reads : server_read_of bytes ≡ Some asked
  pub number : asked.xid ≡ xid
  pub its_file : asked.handle ≡ mirror.fileid
  pub its_offset : asked.offset ≡ read.offset
  pub new : (others : List ℕ) → WasSentIn start Mds (Server mirror.server) others → IsCallOf others xid → ⊥

-- since the start the mirror left, or such a READ of it failed
pub data HasFailed (start since : List Entry) (file : FileId) (read : ReadCall) (mirror : MirrorId) : Type 0 where
  HasLeft : (before behind : List Entry) (cause : LeftCause) → since ≡ before ++ Left file mirror cause ∷ behind → HasFailed start since file read mirror
  HasNotRead : (before behind : List Entry) (xid : ℕ) → since ≡ before ++ Failed mirror xid ∷ behind → WasAsked start before read mirror xid → HasFailed start since file read mirror

-- status 0, with bytes; or 5, NFS4ERR_IO (RFC 8881, section 15.1)
abbrev pub HasCause : List Entry → List Entry → FileId → ReadCall → List MirrorId → ℕ → List ℕ → Type 0
HasCause start since file read live status bytes =
    ((status ≡ 0) × WasShown start since read live bytes) ⊎ ((status ≡ 5) × ((m : MirrorId) → IsOneOf m live → HasFailed start since file read m))

-- ---- the law

-- an answer, with what stands before and behind it
pub record IsReadLawful (before : List Entry) (file : FileId) (status : ℕ) (bytes : List ℕ) (behind : List Entry) : Type 0 where
  pub client : ℕ
  pub read : ReadCall
  pub replied : IsRepliedFirst behind client read.xid
  pub requests : AreRequests before client read
  pub start : List Entry
  pub since : List Entry
  pub starts : StartsAt before file client read start since
  pub live : List MirrorId
  pub live_then : live_in start file ≡ Some live
  pub cause : HasCause start since file read live status bytes

abbrev pub ObeysReads : List Entry → Type 0
ObeysReads journal =
    (before behind : List Entry) (file : FileId) (status : ℕ) (bytes : List ℕ) → journal ≡ before ++ ReadAnswer file status bytes ∷ behind → IsReadLawful before file status bytes behind
