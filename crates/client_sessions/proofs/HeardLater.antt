-- Replies that were heard, in a longer history.
use Rattle.std.proofs.Common.{◌≡◌, ℕ, List, [], ◌∷◌, ◌++◌, refl, sym, ap, subst, ◌∙◌, inl, inr}
use Rattle.std.specs.List.{AllByRecursion}
use Rattle.std.proofs.lemmas.List.{append_assoc}
use Rattle.cluster_model.specs.declared.ids.NodeId.TheVariants.{Mds, Server}
use Rattle.nfs4_types.specs.declared.ids.SessionId.{SessionId}
use Rattle.cluster_model.specs.declared.ids.FileId.{FileId}
use Rattle.client_file_calls.specs.declared.open.OpenFile.{OpenFile}
use Rattle.client_file_calls.specs.declared.grant.LayoutGrant.{LayoutGrant}
use Rattle.client_mds_calls.specs.MdsCalls.{MdsCallValue, OnSlot}
use Rattle.client_mds_calls.specs.MdsCalls as slot
use Rattle.client_mds_calls.specs.MdsReplies.{MdsReplyValue, Granted}
use Rattle.client_state.specs.ClientSends.{CallsServer, CallsMds}
use Rattle.client_laws.specs.ClientHistory.{HistoryItem, Hears, Sends, Recorded, HasItem}
use Rattle.client_laws.specs.ClientRunLaws.{WasGranted}
use Rattle.client_laws.proofs.Orders.{in_more}
use Rattle.client_sessions.specs.HeardReplies.{IsHeard, IsNoCompound}
use Rattle.client_sessions.specs.ClientSessions.{WasGivenId, IsNew, IsAgain, WasGivenSession, IsNextOnSlot, IsFirst, IsBehind}
use Rattle.client_sessions.specs.LayoutEnds.{HasLayoutEnded, WasFenced, ByReturn, BySession, ByFence, IsAskSettled}

pub all_more : (P : HistoryItem → Type 0) (xs ys : List HistoryItem) → AllByRecursion P xs → AllByRecursion P ys → AllByRecursion P (xs ++ ys)
all_more P [] ys first second = second
all_more P (x ∷ xs) ys first second = (first.0, all_more P xs ys first.1 second)

-- ---- a reply

pub split_later : (past more before until behind : List HistoryItem) (s r : HistoryItem) → past ≡ before ++ s ∷ (until ++ r ∷ behind) → past ++ more ≡ before ++ s ∷ (until ++ r ∷ (behind ++ more))
split_later past more before until behind s r is =
    ap (λ l. l ++ more) is ∙ append_assoc before (s ∷ (until ++ r ∷ behind)) more ∙ ap (λ l. before ++ s ∷ l) (append_assoc until (r ∷ behind) more)

abbrev pub heard_later : (past more : List HistoryItem) (xid : ℕ) (name : List ℕ) (call : MdsCallValue) (says : MdsReplyValue) (behind : List HistoryItem) → IsHeard past xid name call says behind → IsHeard (past ++ more) xid name call says (behind ++ more)
heard_later past more xid name call says behind h = record {
  before = h.before;
  until = h.until;
  bytes = h.bytes;
  now = h.now;
  split = split_later past more h.before h.until behind (Sends (CallsMds xid name call)) (Hears (Recorded Mds h.bytes h.now)) h.split;
  reply = h.reply;
  reply_is = h.reply_is;
  number = h.number;
  says_so = h.says_so;
}

-- what stands behind a reply stands in the history
pub in_behind : (past : List HistoryItem) (xid : ℕ) (name : List ℕ) (call : MdsCallValue) (says : MdsReplyValue) (behind : List HistoryItem) → IsHeard past xid name call says behind → (x : HistoryItem) → HasItem behind x → HasItem past x
in_behind past xid name call says behind h x i =
    subst (λ l. HasItem l x) (sym h.split) (in_second h.before (Sends (CallsMds xid name call) ∷ (h.until ++ Hears (Recorded Mds h.bytes h.now) ∷ behind)) (inr (in_second h.until (Hears (Recorded Mds h.bytes h.now) ∷ behind) (inr i))))
  where
    in_second : (a b : List HistoryItem) → HasItem b x → HasItem (a ++ b) x
    in_second [] b i = i
    in_second (y ∷ a) b i = inr (in_second a b i)

-- its compound was sent
pub heard_sent : (past : List HistoryItem) (xid : ℕ) (name : List ℕ) (call : MdsCallValue) (says : MdsReplyValue) (behind : List HistoryItem) → IsHeard past xid name call says behind → HasItem past (Sends (CallsMds xid name call))
heard_sent past xid name call says behind h = subst (λ l. HasItem l (Sends (CallsMds xid name call))) (sym h.split) (at_end h.before)
  where
    at_end : (a : List HistoryItem) → HasItem (a ++ Sends (CallsMds xid name call) ∷ (h.until ++ Hears (Recorded Mds h.bytes h.now) ∷ behind)) (Sends (CallsMds xid name call))
    at_end [] = inl (refl, tt)
    at_end (y ∷ a) = inr (at_end a)

-- ---- what is told by replies

pub id_later : (past more : List HistoryItem) (clientid sequence : ℕ) → AllByRecursion IsNoCompound more → WasGivenId past clientid sequence → WasGivenId (past ++ more) clientid sequence
id_later past more clientid sequence none (IsNew xid name verifier says behind heard is between next) =
    IsNew xid name verifier says (behind ++ more) (heard_later past more xid name _ says behind heard) is between (all_more IsNoCompound behind more next none)
id_later past more clientid sequence none (IsAgain xid name says status behind heard is later between next) =
    IsAgain xid name says status (behind ++ more) (heard_later past more xid name _ says behind heard) is later between (all_more IsNoCompound behind more next none)

abbrev pub session_later : (past more : List HistoryItem) (session : SessionId) (behind : List HistoryItem) → WasGivenSession past session behind → WasGivenSession (past ++ more) session (behind ++ more)
session_later past more session behind g = record {
  xid = g.xid;
  name = g.name;
  clientid = g.clientid;
  sequence = g.sequence;
  says = g.says;
  heard = heard_later past more g.xid g.name _ g.says behind g.heard;
  quiet = g.quiet;
  is = g.is;
}

pub slot_later : (past more : List HistoryItem) (session : SessionId) (sequence : ℕ) → AllByRecursion IsNoCompound more → IsNextOnSlot past session sequence → IsNextOnSlot (past ++ more) session sequence
slot_later past more session sequence none (IsFirst behind given next one) = IsFirst (behind ++ more) (session_later past more session behind given) (all_more IsNoCompound behind more next none) one
slot_later past more session sequence none (IsBehind xid name last call says behind heard between next moves) =
    IsBehind xid name last call says (behind ++ more) (heard_later past more xid name _ says behind heard) between (all_more IsNoCompound behind more next none) moves

-- ---- a layout

abbrev pub fenced_later : (behind more : List HistoryItem) (grant : LayoutGrant) → WasFenced behind grant → WasFenced (behind ++ more) grant
fenced_later behind more grant f = record {
  place = f.place;
  mirror = f.mirror;
  there = f.there;
  xid = f.xid;
  name = f.name;
  call = f.call;
  to_mirror = f.to_mirror;
  bytes = f.bytes;
  now = f.now;
  status = f.status;
  shown = f.shown;
  says = f.says;
  fence = f.fence;
  order = in_more (Sends (CallsServer f.mirror.id.server f.xid f.name grant.uid.0 f.call) ∷ Hears (Recorded (Server f.mirror.id.server) f.bytes f.now) ∷ []) behind more f.order;
}

pub ended_later : (behind more : List HistoryItem) (session : SessionId) (file : FileId) (grant : LayoutGrant) → HasLayoutEnded behind session file grant → HasLayoutEnded (behind ++ more) session file grant
ended_later behind more session file grant (ByReturn xid name sequence failed says rest heard is) = ByReturn xid name sequence failed says (rest ++ more) (heard_later behind more xid name _ says rest heard) is
ended_later behind more session file grant (BySession xid name sequence call says rest heard is) = BySession xid name sequence call says (rest ++ more) (heard_later behind more xid name _ says rest heard) is
ended_later behind more session file grant (ByFence f) = ByFence (fenced_later behind more grant f)

pub settled_later : (past more : List HistoryItem) (xid : ℕ) (name : List ℕ) (session : SessionId) (sequence : ℕ) (file : OpenFile) → IsAskSettled past xid name session sequence file → IsAskSettled (past ++ more) xid name session sequence file
settled_later past more xid name session sequence file s = record {
  says = s.says;
  behind = s.behind ++ more;
  heard = heard_later past more xid name _ s.says s.behind s.heard;
  quiet = s.quiet;
  final = s.final;
  ended = λ grant is. ended_later s.behind more session file.file grant (s.ended grant is);
}

-- a reply to a LAYOUTGET that grants a layout
abbrev pub granted_of : (past : List HistoryItem) (xid : ℕ) (name : List ℕ) (session : SessionId) (sequence : ℕ) (file : OpenFile) (says : MdsReplyValue) (behind : List HistoryItem) (grant : LayoutGrant)
    → IsHeard past xid name (OnSlot session sequence (slot.LayoutGet file)) says behind → says.answer ≡ Granted grant → WasGranted past grant
granted_of past xid name session sequence file says behind grant h is = record {
  before = h.before;
  since = h.until ++ Hears (Recorded Mds h.bytes h.now) ∷ behind;
  xid = xid;
  name = name;
  session = session;
  sequence = sequence;
  file = file;
  bytes = h.bytes;
  now = h.now;
  split = h.split;
  heard = there h.until;
  says = record { reply = h.reply; reply_is = h.reply_is; number = h.number; says_so = ap (λ (r : MdsReplyValue). r.answer) h.says_so ∙ is };
}
  where
    there : (a : List HistoryItem) → HasItem (a ++ Hears (Recorded Mds h.bytes h.now) ∷ behind) (Hears (Recorded Mds h.bytes h.now))
    there [] = inl (refl, tt)
    there (y ∷ a) = inr (there a)
