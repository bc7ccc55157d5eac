-- What makes an answer of the worked journals lawful.
use Rattle.std.proofs.Common.{◌≡◌, ℕ, false, List, [], ◌∷◌, ◌++◌, Some, refl, sym, subst, inl}
use Rattle.std.proofs.lemmas.List.{append-nil}
use Rattle.std.specs.List.{AllByRecursion, list_any}
use Rattle.cluster_model.specs.declared.ids.FileId.{FileId}
use Rattle.cluster_model.specs.declared.ids.MirrorId.{MirrorId}
use Rattle.cluster_model.specs.declared.ids.NodeId.TheVariants.{Mds, Server, Client}
use Rattle.cluster_model.specs.declared.entry.Entry.{Entry}
use Rattle.cluster_model.specs.declared.entry.Entry.TheVariants.{Packet, Delivered, ReadAnswer, Failed}
use Rattle.cluster_model.specs.Content.{shown_of}
use Rattle.cluster_model.specs.Journal.{content_of}
use Rattle.cluster_model.specs.Members.{IsOneOf}
use Rattle.cluster_laws.specs.FenceLaw.{live_in}
use Rattle.cluster_laws.proofs.Lists.{all_split}
use Rattle.ff_laws.specs.declared.read_call.ReadCall.{ReadCall}
use Rattle.ff_laws.specs.ReadCalls.{client_read_of, server_read_of}
use Rattle.ff_laws.specs.ReadLaw.{IsReplyOf, EndsWithComing, HasNotCome, HasCause, WasSentIn, IsReadLawful, ObeysReads, HasFailed, HasNotRead, cut_of}
use Rattle.ff_laws.specs.WorkedReads.{the_file, on, the_read, asks, asks_server, of_server}
use Rattle.ff_laws.specs.WorkedRecords.{client_record, server_record}
use Rattle.ff_laws.proofs.Entries.{is_answer, is_delivery, is_to_server, is_swap, not_there, one_place, no_swaps}
use Rattle.ff_laws.proofs.Records.{request_reads}

-- a journal with one answer, which is lawful
pub obeys_at : (before behind : List Entry) (file : FileId) (status : ℕ) (bytes : List ℕ) → list_any is_answer before ≡ false → list_any is_answer behind ≡ false
    → IsReadLawful before file status bytes behind → ObeysReads (before ++ ReadAnswer file status bytes ∷ behind)
obeys_at before behind file status bytes early late lawful before' behind' file' status' bytes' is =
    let place = one_place is_answer before behind before' behind' (ReadAnswer file status bytes) (ReadAnswer file' status' bytes') early late refl is in
    let same_file : file ≡ file' = cc (place.1) in
    let same_status : status ≡ status' = cc (place.1) in
    let same_bytes : bytes ≡ bytes' = cc (place.1) in
    subst (λ (x : List Entry). IsReadLawful x file' status' bytes' behind') place.0
    (subst (λ (x : List Entry). IsReadLawful before file' status' bytes' x) place.2
    (subst (λ (x : FileId). IsReadLawful before x status' bytes' behind) same_file
    (subst (λ (x : ℕ). IsReadLawful before file x bytes' behind) same_status
    (subst (λ (x : List ℕ). IsReadLawful before file status x behind) same_bytes lawful))))

-- the record of a client's packet to the metadata server is the request's
abbrev pub IsThisRequest : Entry → Type 0
IsThisRequest (Packet number (Client client) Mds bytes) = bytes ≡ client_record 7 1 0 1
IsThisRequest e = Unit {0}

pub one_request : (journal : List Entry) (client : ℕ) (bytes : List ℕ) → AllByRecursion IsThisRequest journal → WasSentIn journal (Client client) Mds bytes
    → client_read_of bytes ≡ Some the_read
one_request journal client bytes all sent =
    let same : bytes ≡ client_record 7 1 0 1 =
    all_split IsThisRequest sent.before (Packet sent.number (Client client) Mds bytes) sent.behind (subst (λ (x : List Entry). AllByRecursion IsThisRequest x) sent.split all) in
    subst (λ (x : List ℕ). client_read_of x ≡ Some the_read) (sym same) request_reads

-- nothing was delivered yet
pub not_come : (early : List Entry) (client : ℕ) (read : ReadCall) → list_any is_delivery early ≡ false → HasNotCome early client read
not_come early client read none before behind number is request = not_there is_delivery early before behind (Delivered number) none refl is

-- no READ was sent to a data server
pub not_asked : (journal : List Entry) (server : ℕ) (bytes : List ℕ) → list_any is_to_server journal ≡ false → WasSentIn journal Mds (Server server) bytes → ⊥
not_asked journal server bytes none sent = not_there is_to_server journal sent.before sent.behind (Packet sent.number Mds (Server server) bytes) none refl sent.split

-- What stands up to the start: the delivery of the first packet of the request, and what goes on until mirrors come into the file's live list.
abbrev pub start_behind : List Entry → List Entry → List Entry
start_behind begin comings = (begin ++ asks 1 ∷ []) ++ Delivered 1 ∷ comings

-- An answer that has its cause, behind the start, and its reply right behind it.
pub lawful_behind : (begin comings since behind : List Entry) (status number : ℕ) (bytes reply : List ℕ) (live : List MirrorId)
    → list_any is_delivery (begin ++ asks 1 ∷ []) ≡ false → EndsWithComing ((begin ++ asks 1 ∷ []) ++ Delivered 1 ∷ []) the_file comings → list_any is_swap since ≡ false
    → AllByRecursion IsThisRequest (start_behind begin comings ++ since) → IsReplyOf reply 7
    → live_in (start_behind begin comings) the_file ≡ Some live → HasCause (start_behind begin comings) since the_file the_read live status bytes
    → IsReadLawful (start_behind begin comings ++ since) the_file status bytes (Packet number Mds (Client 1) reply ∷ behind)
lawful_behind begin comings since behind status number bytes reply live none ends kept all its live_then cause = record {
  client = 1;
  read = the_read;
  replied = record { quiet = []; number = number; bytes = reply; more = behind; split = refl; first = tt; its = its };
  requests = λ record_bytes sent is. one_request (start_behind begin comings ++ since) 1 record_bytes all sent;
  start = start_behind begin comings;
  since = since;
  starts = record {
    early = begin ++ asks 1 ∷ [];
    number = 1;
    comings = comings;
    split = refl;
    start_is = refl;
    request = record { bytes = client_record 7 1 0 1; there = record { before = begin; behind = []; split = refl }; reads = request_reads };
    first = not_come (begin ++ asks 1 ∷ []) 1 the_read none;
    last = ends;
    no_more = no_swaps the_file since kept;
  };
  live = live;
  live_then = live_then;
  cause = cause;
}

-- Bytes that a mirror shows at the start are a cause.
pub shown_at_start : (start since : List Entry) (live : List MirrorId) (mirror : MirrorId) (bytes : List ℕ) → IsOneOf mirror live
    → cut_of 0 1 (shown_of (content_of start mirror).content) ≡ bytes → HasCause start since the_file the_read live 0 bytes
shown_at_start start since live mirror bytes here shows =
    let still = subst (λ (x : List Entry). cut_of 0 1 (shown_of (content_of x mirror).content) ≡ bytes) (sym (append-nil start)) shows in
    inl (refl, record { mirror = mirror; live_then = here; until = []; behind = since; split = refl; shows = still })

-- A mirror failed a READ, which was sent since the start, where none was sent before.
pub failed_since : (start before behind asked_before asked_behind : List Entry) (server number xid : ℕ) → list_any is_to_server start ≡ false
    → before ≡ asked_before ++ asks_server number server xid ∷ asked_behind → server_read_of (server_record xid 2 0 1) ≡ Some (of_server xid)
    → HasFailed start (before ++ Failed (on server) xid ∷ behind) the_file the_read (on server)
failed_since start before behind asked_before asked_behind server number xid none sent reads = HasNotRead before behind xid refl (
    record {
      bytes = server_record xid 2 0 1;
      sent = record { before = asked_before; number = number; behind = asked_behind; split = sent };
      asked = of_server xid;
      reads = reads;
      number = refl;
      its_file = refl;
      its_offset = refl;
      new = λ others was call. not_asked start server others none was;
    }
    )
