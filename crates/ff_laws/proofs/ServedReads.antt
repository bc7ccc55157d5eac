-- A READ that is lawful from some place behind any delivery of its request is lawful.
use Rattle.std.proofs.Common.{◌≡◌, ℕ, inl, inr, List, [], ◌∷◌, ◌++◌, Some, None, refl, sym, ap, ◌∙◌, subst, append_assoc}
use Rattle.std.specs.List.{AllByRecursion}
use Rattle.cluster_model.specs.declared.ids.FileId.{FileId}
use Rattle.cluster_model.specs.declared.ids.MirrorId.{MirrorId}
use Rattle.cluster_model.specs.declared.ids.NodeId.{NodeId}
use Rattle.cluster_model.specs.declared.entry.Entry.{Entry}
use Rattle.cluster_model.specs.declared.entry.Entry.TheVariants.{Packet, Delivered, Failed, Left}
use Rattle.cluster_model.specs.Content.{shown_of}
use Rattle.cluster_model.specs.Journal.{content_of}
use Rattle.cluster_laws.specs.FenceLaw.{live_in, live_by}
use Rattle.cluster_laws.proofs.Journals.{live_append}
use Rattle.cluster_laws.proofs.Lists.{all_append}
use Rattle.ff_laws.specs.declared.read_call.ReadCall.{ReadCall}
use Rattle.ff_laws.specs.ReadLaw.{WasSentIn, IsRepliedFirst, AreRequests, IsRequestIn, IsNoSwapOf, WasShown, WasAsked, HasFailed, HasLeft, HasNotRead, HasCause, IsReadLawful, cut_of}
use Rattle.ff_laws.proofs.FirstDeliveries.{first_delivery}
use Rattle.ff_laws.proofs.Comings.{BringNone, WereLive, last_coming, were_live, are_no_swaps}

-- An answer, with what stands before and behind it: as `IsReadLawful`, but that the start is any place behind some delivery of the request,
-- so that no swap of the file is between it and the answer.
pub record IsReadServed (before : List Entry) (file : FileId) (status : ℕ) (bytes : List ℕ) (behind : List Entry) : Type 0 where
  pub client : ℕ
  pub read : ReadCall
  pub replied : IsRepliedFirst behind client read.xid
  pub requests : AreRequests before client read
  pub start : List Entry
  pub since : List Entry
  pub split : before ≡ start ++ since
  pub early : List Entry
  pub number : ℕ
  pub more : List Entry
  pub start_is : start ≡ early ++ Delivered number ∷ more
  pub request : IsRequestIn early client read number
  pub no_more : AllByRecursion (IsNoSwapOf file) since
  pub live : List MirrorId
  pub live_then : live_in start file ≡ Some live
  pub cause : HasCause start since file read live status bytes

-- ---- causes since an earlier start

sent_before : (start more : List Entry) (from to : NodeId) (bytes : List ℕ) → WasSentIn start from to bytes → WasSentIn (start ++ more) from to bytes
sent_before start more from to bytes sent = record {
  before = sent.before;
  number = sent.number;
  behind = sent.behind ++ more;
  split = ap (λ (k : List Entry). k ++ more) sent.split ∙ append_assoc sent.before (Packet sent.number from to bytes ∷ sent.behind) more;
}

sent_since : (more since : List Entry) (from to : NodeId) (bytes : List ℕ) → WasSentIn since from to bytes → WasSentIn (more ++ since) from to bytes
sent_since more since from to bytes sent = record {
  before = more ++ sent.before;
  number = sent.number;
  behind = sent.behind;
  split = ap (λ (k : List Entry). more ++ k) sent.split ∙ sym (append_assoc more sent.before (Packet sent.number from to bytes ∷ sent.behind));
}

asked_since : (start more since : List Entry) (read : ReadCall) (m : MirrorId) (xid : ℕ)
    → WasAsked (start ++ more) since read m xid → WasAsked start (more ++ since) read m xid
asked_since start more since read m xid was = record {
  bytes = was.bytes;
  sent = sent_since more since _ _ was.bytes was.sent;
  asked = was.asked;
  reads = was.reads;
  number = was.number;
  its_file = was.its_file;
  its_offset = was.its_offset;
  new = λ others sent call. was.new others (sent_before start more _ _ others sent) call;
}

failed_before : (start more since : List Entry) (file : FileId) (read : ReadCall) (m : MirrorId)
    → HasFailed (start ++ more) since file read m → HasFailed start (more ++ since) file read m
failed_before start more since file read m (HasLeft before behind cause is) =
    HasLeft (more ++ before) behind cause (ap (λ (k : List Entry). more ++ k) is ∙ sym (append_assoc more before (Left file m cause ∷ behind)))
failed_before start more since file read m (HasNotRead before behind xid is was) =
    HasNotRead (more ++ before) behind xid (ap (λ (k : List Entry). more ++ k) is ∙ sym (append_assoc more before (Failed m xid ∷ behind)))
    (asked_since start more before read m xid was)

shown_before : (start more since : List Entry) (file : FileId) (read : ReadCall) (live : List MirrorId) (bytes : List ℕ)
    (was : WereLive file (live_in start file) live more) → WasShown (start ++ more) since read live bytes → WasShown start (more ++ since) read was.mirrors bytes
shown_before start more since file read live bytes was shown = record {
  mirror = shown.mirror;
  live_then = was.old shown.mirror shown.live_then;
  until = more ++ shown.until;
  behind = shown.behind;
  split = ap (λ (k : List Entry). more ++ k) shown.split ∙ sym (append_assoc more shown.until shown.behind);
  shows =
      subst (λ (k : List Entry). cut_of read.offset read.count (shown_of (content_of k shown.mirror).content) ≡ bytes) (append_assoc start more shown.until) shown.shows;
}

-- Where no mirrors came in between, what has a cause since a start has one since an earlier start.
cause_before : (start more since : List Entry) (file : FileId) (read : ReadCall) (live : List MirrorId) (status : ℕ) (bytes : List ℕ)
    (was : WereLive file (live_in start file) live more) → HasCause (start ++ more) since file read live status bytes
    → HasCause start (more ++ since) file read was.mirrors status bytes
cause_before start more since file read live status bytes was (inl done) = inl (done.0, shown_before start more since file read live bytes was done.1)
cause_before start more since file read live status bytes was (inr failed) =
    inr (
      failed.0,
      λ m one. elim (was.each m one) [
        | inl still ↦ failed_before start more since file read m (failed.1 m still)
        | inr gone ↦
            HasLeft gone.before (gone.behind ++ since) gone.cause
            (ap (λ (k : List Entry). k ++ since) gone.split ∙ append_assoc gone.before (Left file m gone.cause ∷ gone.behind) since)
      ],
    )

-- ---- the law

pub served_lawful : (before : List Entry) (file : FileId) (status : ℕ) (bytes : List ℕ) (behind : List Entry) → IsReadServed before file status bytes behind
    → IsReadLawful before file status bytes behind
served_lawful before file status bytes behind s =
    let first = first_delivery s.early s.more s.number s.client s.read s.request in
    let journal : List Entry = first.early ++ Delivered first.number ∷ [] in
    let last = last_coming journal file first.more in
    let start : List Entry = first.early ++ Delivered first.number ∷ last.comings in
    let start_is : journal ++ last.comings ≡ start = append_assoc first.early (Delivered first.number ∷ []) last.comings in
    let whole : s.start ≡ start ++ last.rest =
    s.start_is ∙ first.split ∙ ap (λ (k : List Entry). first.early ++ Delivered first.number ∷ k) last.split
    ∙ sym (append_assoc first.early (Delivered first.number ∷ last.comings) last.rest) in
    let quiet = subst (λ (k : List Entry). BringNone file (live_in k file) last.rest) start_is last.quiet in
    let live_then : live_by file (live_in start file) last.rest ≡ Some s.live =
    sym (live_append file None start last.rest) ∙ ap (λ (k : List Entry). live_in k file) (sym whole) ∙ s.live_then in
    let was : WereLive file (live_in start file) s.live last.rest = were_live file (live_in start file) last.rest s.live quiet live_then in
    let cause = subst (λ (k : List Entry). HasCause k s.since file s.read s.live status bytes) whole s.cause in
    record {
      client = s.client;
      read = s.read;
      replied = s.replied;
      requests = s.requests;
      start = start;
      since = last.rest ++ s.since;
      starts = record {
        early = first.early;
        number = first.number;
        comings = last.comings;
        split = s.split ∙ ap (λ (k : List Entry). k ++ s.since) whole ∙ append_assoc start last.rest s.since;
        start_is = refl;
        request = first.request;
        first = first.first;
        last = last.last;
        no_more = all_append (IsNoSwapOf file) last.rest s.since (are_no_swaps file (live_in start file) last.rest quiet) s.no_more;
      };
      live = was.mirrors;
      live_then = was.were;
      cause = cause_before start last.rest s.since file s.read s.live status bytes was cause;
    }
