-- What an answer of a journal with one request rests on, if it is lawful.
use Rattle.std.proofs.Common.{◌≡◌, ℕ, zero, suc, Bool, true, false, ◌||◌, List, [], ◌∷◌, ◌++◌, take, drop, get_or, arith, Option, Some, None, refl, sym, ap, subst, ◌∙◌, append_assoc}
use Rattle.std.specs.List.{list_any}
use Rattle.std.proofs.lemmas.Option.{same_Some}
use Rattle.cluster_model.specs.declared.ids.FileId.{FileId}
use Rattle.cluster_model.specs.declared.ids.MirrorId.{MirrorId}
use Rattle.cluster_model.specs.declared.ids.NodeId.TheVariants.{Mds, Client}
use Rattle.cluster_model.specs.declared.entry.Entry.{Entry}
use Rattle.cluster_model.specs.declared.entry.Entry.TheVariants.{Packet, Delivered, Free, Left, Swapped, Applied, Committed, Owner, Restarted, Failed}
use Rattle.cluster_model.specs.Journal.{Copy, copy_after, content_of, is_mirror}
use Rattle.cluster_laws.specs.FenceLaw.{live_in, live_by, live_after}
use Rattle.cluster_laws.proofs.Journals.{live_stays, content_same}
use Rattle.ff_laws.specs.declared.read_call.ReadCall.{ReadCall}
use Rattle.ff_laws.specs.ReadLaw.{StartsAt, HasFailed, HasLeft, HasNotRead, WasAsked}
use Rattle.ff_laws.specs.WorkedReads.{the_file}
use Rattle.ff_laws.proofs.Entries.{is_request, is_left, none_of, none_by, not_there, one_place}

-- ---- the start

-- The start is behind the only packet of a client to the metadata server.
pub record IsBehind (first tail : List Entry) (x : Entry) (start since : List Entry) : Type 0 where
  pub more : List Entry
  pub start_is : start ≡ first ++ x ∷ more
  pub tail_is : tail ≡ more ++ since

pub behind_request : (first tail : List Entry) (x : Entry) (file : FileId) (client : ℕ) (read : ReadCall) (start since : List Entry)
    → list_any is_request first ≡ false → list_any is_request tail ≡ false → StartsAt (first ++ x ∷ tail) file client read start since → IsBehind first tail x start since
behind_request first tail x file client read start since early late s =
    let there = s.request.there in
    let packet : Entry = Packet s.number (Client client) Mds s.request.bytes in
    let more : List Entry = there.behind ++ Delivered s.number ∷ s.comings in
    let start_is : start ≡ there.before ++ packet ∷ more =
    s.start_is ∙ ap (λ (k : List Entry). k ++ Delivered s.number ∷ s.comings) there.split ∙ append_assoc there.before (packet ∷ there.behind) (Delivered s.number ∷ s.comings) in
    let whole : first ++ x ∷ tail ≡ there.before ++ packet ∷ (more ++ since) =
    s.split ∙ ap (λ (k : List Entry). k ++ since) start_is ∙ append_assoc there.before (packet ∷ more) since in
    let place = one_place is_request first tail there.before (more ++ since) x packet early late refl whole in
    record {
      more = more;
      start_is = start_is ∙ sym (ap (λ (k : List Entry). k ++ packet ∷ more) place.0) ∙ sym (ap (λ (k : Entry). first ++ k ∷ more) place.1);
      tail_is = place.2;
    }

-- ---- the live mirrors

abbrev pub changes_live : Entry → Bool
changes_live (Free file mirrors) = true
changes_live (Left file mirror cause) = true
changes_live (Swapped file old new) = true
changes_live e = false

abbrev LeavesLive : Entry → Type 0
LeavesLive e = (live : Option (List MirrorId)) → live_after the_file live e ≡ live

leaves_live : (e : Entry) → changes_live e ≡ false → LeavesLive e
leaves_live (Free file mirrors) h = absurd cc
leaves_live (Left file mirror cause) h = absurd cc
leaves_live (Swapped file old new) h = absurd cc
leaves_live e h = λ live. refl

-- They are those of the journal's first entry.
pub same_live : (mirrors live : List MirrorId) (tail start since : List Entry) → list_any changes_live tail ≡ false → Free the_file mirrors ∷ tail ≡ start ++ since
    → live_in start the_file ≡ Some live → mirrors ≡ live
same_live mirrors live tail [] since quiet is there = absurd cc
same_live mirrors live tail (e ∷ start) since quiet is there =
    let head : Free the_file mirrors ≡ e = cc in
    let rest : tail ≡ start ++ since = cc in
    let none = (none_of changes_live start since (ap (λ (k : List Entry). list_any changes_live k) (sym rest) ∙ quiet)).0 in
    let stays : live_by the_file (Some mirrors) start ≡ Some mirrors = live_stays the_file start (none_by changes_live LeavesLive leaves_live start none) (Some mirrors) in
    let there' : live_by the_file (Some mirrors) start ≡ Some live = subst (λ (k : Entry). live_by the_file (live_after the_file None k) start ≡ Some live) (sym head) there in
    same_Some mirrors live (sym stays ∙ there')

-- ---- the bytes of a mirror

abbrev pub changes_copy : Entry → Bool
changes_copy (Applied mirror cred at bytes) = true
changes_copy (Committed mirror) = true
changes_copy (Owner mirror cred) = true
changes_copy (Restarted server pieces) = true
changes_copy e = false

abbrev LeavesCopy : MirrorId → Entry → Type 0
LeavesCopy m e = (c : Copy) → copy_after m c e ≡ c

leaves_copy : (m : MirrorId) (e : Entry) → changes_copy e ≡ false → LeavesCopy m e
leaves_copy m (Applied mirror cred at bytes) h = absurd cc
leaves_copy m (Committed mirror) h = absurd cc
leaves_copy m (Owner mirror cred) h = absurd cc
leaves_copy m (Restarted server pieces) h = absurd cc
leaves_copy m e h = λ c. refl

-- They stay.
pub same_content : (m : MirrorId) (journal entries : List Entry) → list_any changes_copy entries ≡ false → content_of (journal ++ entries) m ≡ content_of journal m
same_content m journal entries none = content_same m journal entries (none_by changes_copy (LeavesCopy m) (leaves_copy m) entries none)

-- At each moment since the start a mirror shows what it showed before the request went out.
pub shown_then : (first tail : List Entry) (x : Entry) (m : MirrorId) (start since until behind : List Entry) → changes_copy x ≡ false → list_any changes_copy tail ≡ false
    → IsBehind first tail x start since → since ≡ until ++ behind → content_of (start ++ until) m ≡ content_of first m
shown_then first tail x m start since until behind quiet none place split =
    let entries : List Entry = place.more ++ until in
    let whole : tail ≡ entries ++ behind = place.tail_is ∙ ap (λ (k : List Entry). place.more ++ k) split ∙ sym (append_assoc place.more until behind) in
    let few = (none_of changes_copy entries behind (ap (λ (k : List Entry). list_any changes_copy k) (sym whole) ∙ none)).0 in
    let here : start ++ until ≡ first ++ x ∷ entries = ap (λ (k : List Entry). k ++ until) place.start_is ∙ append_assoc first (x ∷ place.more) until in
    let none' : list_any changes_copy (x ∷ entries) ≡ false = ap (λ (b : Bool). b || list_any changes_copy entries) quiet ∙ few in
    ap (λ (k : List Entry). content_of k m) here ∙ same_content m first (x ∷ entries) none'

-- no part of "B" is "A"
pub no_part : (count offset : ℕ) → take {A = ℕ} count (drop offset (66 ∷ [])) ≡ 65 ∷ [] → ⊥
no_part zero offset is = absurd cc
no_part (suc count) zero is = let wrong : 66 ≡ 65 = ap (λ (k : List ℕ). get_or k 0 0) is in absurd (omega (arith, wrong))
no_part (suc count) (suc zero) is = absurd cc
no_part (suc count) (suc (suc offset)) is = absurd cc

-- ---- what failed

-- the mirror failed
abbrev pub fails_of : MirrorId → Entry → Bool
fails_of m (Failed mirror xid) = is_mirror mirror m
fails_of m e = false

-- Where it did not leave, and no READ of it failed, it did not fail.
pub not_failed : (start since : List Entry) (file : FileId) (read : ReadCall) (m : MirrorId) → is_mirror m m ≡ true → list_any is_left since ≡ false
    → list_any (fails_of m) since ≡ false → HasFailed start since file read m → ⊥
not_failed start since file read m own stays none (HasLeft before behind cause is) = not_there is_left since before behind (Left file m cause) stays refl is
not_failed start since file read m own stays none (HasNotRead before behind xid is asked) = not_there (fails_of m) since before behind (Failed m xid) none own is

-- the READ that failed, where the mirror did not leave
pub record FailedBy (start since : List Entry) (read : ReadCall) (m : MirrorId) : Type 0 where
  pub before : List Entry
  pub behind : List Entry
  pub xid : ℕ
  pub is : since ≡ before ++ Failed m xid ∷ behind
  pub asked : WasAsked start before read m xid

pub failed_by : (start since : List Entry) (file : FileId) (read : ReadCall) (m : MirrorId) → list_any is_left since ≡ false → HasFailed start since file read m → FailedBy start since read m
failed_by start since file read m stays (HasLeft before behind cause is) = absurd (not_there is_left since before behind (Left file m cause) stays refl is)
failed_by start since file read m stays (HasNotRead before behind xid is asked) = record { before = before; behind = behind; xid = xid; is = is; asked = asked }

-- Where one READ of the mirror failed behind the request, that is the one.
pub same_number : (tail more before behind since : List Entry) (m : MirrorId) (number xid : ℕ) → is_mirror m m ≡ true → list_any (fails_of m) tail ≡ false
    → tail ++ Failed m number ∷ [] ≡ more ++ since → since ≡ before ++ Failed m xid ∷ behind → number ≡ xid
same_number tail more before behind since m number xid own none split is =
    let whole : tail ++ Failed m number ∷ [] ≡ (more ++ before) ++ Failed m xid ∷ behind =
    split ∙ ap (λ (k : List Entry). more ++ k) is ∙ sym (append_assoc more before (Failed m xid ∷ behind)) in
    let place = one_place (fails_of m) tail [] (more ++ before) behind (Failed m number) (Failed m xid) none refl own whole in
    cc (place.1)
