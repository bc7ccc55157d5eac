-- What a client has is in range, and each record that it sent so far has a spelling.
use Rattle.std.proofs.Common.{◌≡◌, ℕ, zero, suc, ◌+◌, ◌<◌, ◌≤◌, ◌^◌, Bool, true, false, List, [], ◌∷◌, ◌++◌, length, drop, Option, Some, None, refl, sym, subst, ◌∙◌, arith, inl, inr, ◌⊎◌}
use Rattle.std.specs.Prelude.{◌==◌, slice_get, if◌then◌else◌}
use Rattle.std.specs.List.{AllByRecursion}
use Rattle.std.proofs.lemmas.Bool.{eq-eqb}
use Rattle.std.proofs.lemmas.Option.{none-some, same_Some}
use Rattle.nfs4_session.specs.Slots.{sequence_after}
use Rattle.nfs4_types.specs.declared.stateid.Stateid.{Stateid}
use Rattle.cluster_model.specs.declared.limits.TheConstants.{MAX_FILE, PIECE_SIZE}
use Rattle.cluster_model.specs.declared.ids.Mirror.{Mirror}
use Rattle.cluster_model.specs.declared.ids.MirrorId.{MirrorId}
use Rattle.mirror_writer.specs.declared.call.TakenWrite.{TakenWrite}
use Rattle.client_file_calls.specs.declared.open.OpenFile.{OpenFile}
use Rattle.client_mds_calls.specs.declared.ask.MdsAsk.{MdsAsk}
use Rattle.client_mds_calls.specs.declared.ask.MdsAsk.TheVariants as ask
use Rattle.client_mds_calls.specs.declared.reply.SlotReport.{SlotReport}
use Rattle.client_mds_calls.specs.declared.reply.SlotReport.TheVariants.{Taken, Uncached, Delayed, Unknown}
use Rattle.client_state.specs.declared.stage.LayoutStage.{LayoutStage}
use Rattle.client_state.specs.declared.stage.LayoutStage.TheVariants.{Writing, Ending, Deferred, Returning}
use Rattle.client_state.specs.declared.request.UserRequest.{UserRequest}
use Rattle.client_state.specs.declared.request.UserRequest.TheVariants.{Open, Write, Through, Commit, Read, Return}
use Rattle.client_state.specs.declared.layout.Layout.{Layout}
use Rattle.client_state.specs.declared.asked.Asked.{Asked}
use Rattle.client_state.specs.declared.tie.Tie.{Tie}
use Rattle.client_state.specs.declared.tie.Tie.TheVariants.{NoClient, HasClient, HasSession}
use Rattle.client_state.specs.ClientStates.{ClientValue}
use Rattle.client_state.specs.ClientQueue.{is_past, ends_layout, ending, without_commit}
use Rattle.client_state.specs.ClientSends.{ClientSend}
use Rattle.client_calls.specs.ClientCalls.{returning, layout_asked}
use Rattle.client_answers.specs.ClientAnswers.{moved_tie, deferred, completed_tie}
use Rattle.mirror_client.specs.ClientRule.{layout_at_tick}
use Rattle.client_laws.specs.ClientHistory.{HistoryItem, Sends, HasItem}
use Rattle.client_laws.proofs.Orders.{in_either}
use Rattle.client_laws.proofs.Stands.{IfThere, writer_ids}
use Rattle.client_records.specs.ClientRecords.{IsRequestInRange, HasSpelling, SendsSpelled}
use Rattle.client_records.proofs.AnswersFit.{IsStateidInRange, IsMirrorInRange}
use Rattle.client_records.proofs.Cases.{HeadThrough, MayBeDone, Shortens, IsTieBehind, IsLayoutBehind}

-- ---- ranges

abbrev pub AreRequestsInRange : List UserRequest → Type 0
AreRequestsInRange queue = AllByRecursion IsRequestInRange queue

abbrev pub IsTieInRange : Tie → Type 0
IsTieInRange NoClient = Unit {0}
IsTieInRange (HasClient clientid sequence) = (clientid < 2 ^ 64) × (sequence < 2 ^ 32)
IsTieInRange (HasSession s) = (length s.id.0 ≡ 16) × (s.next < 2 ^ 32)

-- a write that was taken is within a file
abbrev pub IsWriteInRange : TakenWrite → Type 0
IsWriteInRange t = (t.at < 2 ^ 64) × (length t.bytes ≤ 1048576)

abbrev pub IsIdInRange : MirrorId → Type 0
IsIdInRange id = id.fileid < 2 ^ 64

pub record LayoutRanges (stateid : Stateid) (mirrors : List Mirror) (cred : ℕ) (ids : List MirrorId) (taken : List TakenWrite) : Type 0 where
  pub stateid_fits : IsStateidInRange stateid
  pub mirrors_fit : AllByRecursion IsMirrorInRange mirrors
  pub few : length mirrors ≤ 4
  pub cred_fits : cred < 2 ^ 32
  pub ids_fit : AllByRecursion IsIdInRange ids
  pub taken_fit : AllByRecursion IsWriteInRange taken

abbrev pub IsLayoutInRange : Layout → Type 0
IsLayoutInRange l = LayoutRanges l.stateid l.mirrors l.writer.cred (writer_ids l.writer) l.writer.taken

-- of what is asked: a write through the metadata server stands at the head, a read has its numbers
abbrev pub IsKindInRange : Option OpenFile → List UserRequest → MdsAsk → Type 0
IsKindInRange file queue ask.Write = HeadThrough file queue
IsKindInRange file queue (ask.Read at count) = (at ≤ MAX_FILE) × (count ≤ PIECE_SIZE)
IsKindInRange file queue kind = Unit {0}

pub record RangesOf (past : List HistoryItem) (name : List ℕ) (verifier next : ℕ) (queue : List UserRequest) (tie : Tie) (file : Option OpenFile) (layout : Option Layout) (asked : Option Asked) (again : Option MdsAsk) : Type 0 where
  pub name_fits : length name ≤ 255
  pub verifier_fits : verifier < 2 ^ 64
  pub next_fits : next < 2 ^ 32
  pub queue_fits : AreRequestsInRange queue
  pub tie_fits : IsTieInRange tie
  pub file_fits : IfThere file (λ f. IsStateidInRange f.stateid)
  pub layout_fits : IfThere layout IsLayoutInRange
  pub asked_fits : IfThere asked (λ a. IsKindInRange file queue a.ask)
  pub again_fits : IfThere again (IsKindInRange file queue)
  pub alone : IfThere asked (λ a. again ≡ None)
  pub spelled : (send : ClientSend) → HasItem past (Sends send) → HasSpelling send

abbrev pub InRange : List HistoryItem → ClientValue → Type 0
InRange past c = RangesOf past c.name c.verifier c.next_xid c.queue c.tie c.file c.layout c.asked c.again

-- ---- a longer history

spelled_later : (past : List HistoryItem) (item : HistoryItem) → SendsSpelled past item → ((send : ClientSend) → HasItem past (Sends send) → HasSpelling send) → (send : ClientSend) → HasItem (past ++ item ∷ []) (Sends send) → HasSpelling send
spelled_later past item fits all send i = by_place (in_either past (item ∷ []) (Sends send) i)
  where
    by_place : HasItem past (Sends send) ⊎ HasItem (item ∷ []) (Sends send) → HasSpelling send
    by_place (inl i) = all send i
    by_place (inr (inl (same, rest))) = subst (SendsSpelled past) (sym same) fits
    by_place (inr (inr i)) = absurd i

-- an item is added, and other things change that are in range
module _ (past : List HistoryItem) (item : HistoryItem) (c : ClientValue) (i : InRange past c) (fits : SendsSpelled past item) where
  pub later : RangesOf (past ++ item ∷ []) c.name c.verifier c.next_xid c.queue c.tie c.file c.layout c.asked c.again
  later = record {
    name_fits = i.name_fits;
    verifier_fits = i.verifier_fits;
    next_fits = i.next_fits;
    queue_fits = i.queue_fits;
    tie_fits = i.tie_fits;
    file_fits = i.file_fits;
    layout_fits = i.layout_fits;
    asked_fits = i.asked_fits;
    again_fits = i.again_fits;
    alone = i.alone;
    spelled = spelled_later past item fits i.spelled;
  }

  -- a call takes a number
  pub numbered_later : (next : ℕ) (layout : Option Layout) → next < 2 ^ 32 → IfThere layout IsLayoutInRange → RangesOf (past ++ item ∷ []) c.name c.verifier next c.queue c.tie c.file layout c.asked c.again
  numbered_later next layout small ranges = record {
    name_fits = i.name_fits;
    verifier_fits = i.verifier_fits;
    next_fits = small;
    queue_fits = i.queue_fits;
    tie_fits = i.tie_fits;
    file_fits = i.file_fits;
    layout_fits = ranges;
    asked_fits = i.asked_fits;
    again_fits = i.again_fits;
    alone = i.alone;
    spelled = spelled_later past item fits i.spelled;
  }

  -- something is asked
  pub asked_later : (next : ℕ) (layout : Option Layout) (a : Asked) → next < 2 ^ 32 → IfThere layout IsLayoutInRange → IsKindInRange c.file c.queue a.ask → RangesOf (past ++ item ∷ []) c.name c.verifier next c.queue c.tie c.file layout (Some a) None
  asked_later next layout a small ranges kind = record {
    name_fits = i.name_fits;
    verifier_fits = i.verifier_fits;
    next_fits = small;
    queue_fits = i.queue_fits;
    tie_fits = i.tie_fits;
    file_fits = i.file_fits;
    layout_fits = ranges;
    asked_fits = kind;
    again_fits = tt;
    alone = refl;
    spelled = spelled_later past item fits i.spelled;
  }

  -- nothing is out, or goes out anew, but this
  pub free_later : (queue : List UserRequest) (tie : Tie) (file : Option OpenFile) (layout : Option Layout) (again : Option MdsAsk) → AreRequestsInRange queue → IsTieInRange tie → IfThere file (λ f. IsStateidInRange f.stateid)
      → IfThere layout IsLayoutInRange → IfThere again (IsKindInRange file queue) → RangesOf (past ++ item ∷ []) c.name c.verifier c.next_xid queue tie file layout None again
  free_later queue tie file layout again requests ties files ranges kind = record {
    name_fits = i.name_fits;
    verifier_fits = i.verifier_fits;
    next_fits = i.next_fits;
    queue_fits = requests;
    tie_fits = ties;
    file_fits = files;
    layout_fits = ranges;
    asked_fits = tt;
    again_fits = kind;
    alone = tt;
    spelled = spelled_later past item fits i.spelled;
  }

-- ---- the same history

module _ (past : List HistoryItem) (c : ClientValue) (i : InRange past c) where
  -- another queue, and another layout
  pub with_queue : (queue : List UserRequest) (layout : Option Layout) → AreRequestsInRange queue → IfThere layout IsLayoutInRange → ((kind : MdsAsk) → IsKindInRange c.file c.queue kind → IsKindInRange c.file queue kind)
      → RangesOf past c.name c.verifier c.next_xid queue c.tie c.file layout c.asked c.again
  with_queue queue layout requests ranges kinds = record {
    name_fits = i.name_fits;
    verifier_fits = i.verifier_fits;
    next_fits = i.next_fits;
    queue_fits = requests;
    tie_fits = i.tie_fits;
    file_fits = i.file_fits;
    layout_fits = ranges;
    asked_fits = of_asked c.asked i.asked_fits;
    again_fits = of_again c.again i.again_fits;
    alone = i.alone;
    spelled = i.spelled;
  }
    where
      of_asked : (o : Option Asked) → IfThere o (λ a. IsKindInRange c.file c.queue a.ask) → IfThere o (λ a. IsKindInRange c.file queue a.ask)
      of_asked None fits = tt
      of_asked (Some a) fits = kinds a.ask fits

      of_again : (o : Option MdsAsk) → IfThere o (IsKindInRange c.file c.queue) → IfThere o (IsKindInRange c.file queue)
      of_again None fits = tt
      of_again (Some kind) fits = kinds kind fits

  pub with_layout_in : (layout : Option Layout) → IfThere layout IsLayoutInRange → RangesOf past c.name c.verifier c.next_xid c.queue c.tie c.file layout c.asked c.again
  with_layout_in layout ranges = with_queue c.queue layout i.queue_fits ranges (λ kind fits. fits)

  -- the record that is out is of the same
  pub with_asked : (a b : Asked) → c.asked ≡ Some a → b.ask ≡ a.ask → RangesOf past c.name c.verifier c.next_xid c.queue c.tie c.file c.layout (Some b) c.again
  with_asked a b at same = record {
    name_fits = i.name_fits;
    verifier_fits = i.verifier_fits;
    next_fits = i.next_fits;
    queue_fits = i.queue_fits;
    tie_fits = i.tie_fits;
    file_fits = i.file_fits;
    layout_fits = i.layout_fits;
    asked_fits = subst (IsKindInRange c.file c.queue) (sym same) (subst (λ (o : Option Asked). IfThere o (λ a. IsKindInRange c.file c.queue a.ask)) at i.asked_fits);
    again_fits = i.again_fits;
    alone = subst (λ (o : Option Asked). IfThere o (λ a. c.again ≡ None)) at i.alone;
    spelled = i.spelled;
  }

  pub with_tie : (tie : Tie) → IsTieInRange tie → RangesOf past c.name c.verifier c.next_xid c.queue tie c.file c.layout c.asked c.again
  with_tie tie fits = record {
    name_fits = i.name_fits;
    verifier_fits = i.verifier_fits;
    next_fits = i.next_fits;
    queue_fits = i.queue_fits;
    tie_fits = fits;
    file_fits = i.file_fits;
    layout_fits = i.layout_fits;
    asked_fits = i.asked_fits;
    again_fits = i.again_fits;
    alone = i.alone;
    spelled = i.spelled;
  }

  pub its_layout : (l : Layout) → c.layout ≡ Some l → IsLayoutInRange l
  its_layout l at = subst (λ (o : Option Layout). IfThere o IsLayoutInRange) at i.layout_fits

  pub no_again : (a : Asked) → c.asked ≡ Some a → c.again ≡ None
  no_again a at = subst (λ (o : Option Asked). IfThere o (λ a. c.again ≡ None)) at i.alone

  pub asked_kind : (a : Asked) → c.asked ≡ Some a → IsKindInRange c.file c.queue a.ask
  asked_kind a at = subst (λ (o : Option Asked). IfThere o (λ a. IsKindInRange c.file c.queue a.ask)) at i.asked_fits

-- ---- the queue

pub kind_done : (file : Option OpenFile) (request : UserRequest) (rest : List UserRequest) (kind : MdsAsk) → MayBeDone file request → IsKindInRange file (request ∷ rest) kind → IsKindInRange file rest kind
kind_done file request rest ask.Write may fits = absurd (not_through file request may fits)
  where
    not_both : (b : Bool) → b ≡ true → b ≡ false → ⊥
    not_both true is other = absurd cc
    not_both false is other = absurd cc

    not_through : (file : Option OpenFile) (request : UserRequest) → MayBeDone file request → HeadThrough file (request ∷ rest) → ⊥
    not_through None request may fits = fits
    not_through (Some f) (Through at bytes) may fits = not_both (is_past at bytes) may fits
    not_through (Some f) (Open name) may fits = fits
    not_through (Some f) (Write at bytes) may fits = fits
    not_through (Some f) Commit may fits = fits
    not_through (Some f) (Read at count) may fits = fits
    not_through (Some f) Return may fits = fits
kind_done file request rest (ask.Read at count) may fits = fits
kind_done file request rest ask.ExchangeId may fits = tt
kind_done file request rest ask.CreateSession may fits = tt
kind_done file request rest ask.ReclaimComplete may fits = tt
kind_done file request rest ask.Open may fits = tt
kind_done file request rest ask.LayoutGet may fits = tt
kind_done file request rest (ask.DeviceInfo count) may fits = tt
kind_done file request rest ask.LayoutReturn may fits = tt
kind_done file request rest ask.Renew may fits = tt

-- whatever keeps a write through the metadata server at the head
kind_through : (file : Option OpenFile) (old new : List UserRequest) → (HeadThrough file old → HeadThrough file new) → (kind : MdsAsk) → IsKindInRange file old kind → IsKindInRange file new kind
kind_through file old new keeps ask.Write fits = keeps fits
kind_through file old new keeps (ask.Read at count) fits = fits
kind_through file old new keeps ask.ExchangeId fits = tt
kind_through file old new keeps ask.CreateSession fits = tt
kind_through file old new keeps ask.ReclaimComplete fits = tt
kind_through file old new keeps ask.Open fits = tt
kind_through file old new keeps ask.LayoutGet fits = tt
kind_through file old new keeps (ask.DeviceInfo count) fits = tt
kind_through file old new keeps ask.LayoutReturn fits = tt
kind_through file old new keeps ask.Renew fits = tt

pub kind_more : (file : Option OpenFile) (queue : List UserRequest) (request : UserRequest) (kind : MdsAsk) → IsKindInRange file queue kind → IsKindInRange file (queue ++ request ∷ []) kind
kind_more file queue request kind = kind_through file queue (queue ++ request ∷ []) (keeps file queue) kind
  where
    keeps : (file : Option OpenFile) (queue : List UserRequest) → HeadThrough file queue → HeadThrough file (queue ++ request ∷ [])
    keeps None queue fits = absurd fits
    keeps (Some f) [] fits = absurd fits
    keeps (Some f) (Through at bytes ∷ rest) fits = fits
    keeps (Some f) (Open name ∷ rest) fits = absurd fits
    keeps (Some f) (Write at bytes ∷ rest) fits = absurd fits
    keeps (Some f) (Commit ∷ rest) fits = absurd fits
    keeps (Some f) (Read at count ∷ rest) fits = absurd fits
    keeps (Some f) (Return ∷ rest) fits = absurd fits

pub kind_commit : (file : Option OpenFile) (queue : List UserRequest) (kind : MdsAsk) → IsKindInRange file queue kind → IsKindInRange file (without_commit queue) kind
kind_commit file queue kind = kind_through file queue (without_commit queue) (keeps file queue) kind
  where
    keeps : (file : Option OpenFile) (queue : List UserRequest) → HeadThrough file queue → HeadThrough file (without_commit queue)
    keeps None queue fits = absurd fits
    keeps (Some f) [] fits = absurd fits
    keeps (Some f) (Through at bytes ∷ rest) fits = fits
    keeps (Some f) (Open name ∷ rest) fits = absurd fits
    keeps (Some f) (Write at bytes ∷ rest) fits = absurd fits
    keeps (Some f) (Commit ∷ rest) fits = absurd fits
    keeps (Some f) (Read at count ∷ rest) fits = absurd fits
    keeps (Some f) (Return ∷ rest) fits = absurd fits

-- ---- the tie

after_fits : (n : ℕ) → n < 2 ^ 32 → sequence_after n < 2 ^ 32
after_fits n small = by_test (n == 4294967295) refl
  where
    true_false : true ≡ false → ⊥
    true_false e = absurd cc

    by_test : (b : Bool) → (n == 4294967295) ≡ b → (if b then 0 else n + 1) < 2 ^ 32
    by_test true last = omega arith
    by_test false last = omega (arith, small, λ (same : n ≡ 4294967295). true_false (sym (eq-eqb n 4294967295 same) ∙ last))

pub moved_fits : (now : ℕ) (tie : Tie) → IsTieInRange tie → IsTieInRange (moved_tie now tie)
moved_fits now NoClient fits = tt
moved_fits now (HasClient clientid sequence) fits = fits
moved_fits now (HasSession s) fits = (fits.0, after_fits s.next fits.1)

pub behind_fits : (now : ℕ) (slot : SlotReport) (old new : Tie) → IsTieBehind now slot old new → IsTieInRange old → IsTieInRange new
behind_fits now Taken old new is fits = subst IsTieInRange (sym is) (moved_fits now old fits)
behind_fits now Unknown old new is fits = subst IsTieInRange (sym is) fits
behind_fits now Uncached old new is fits = absurd is
behind_fits now Delayed old new is fits = absurd is

pub completed_fits : (tie : Tie) → IsTieInRange tie → IsTieInRange (completed_tie tie)
completed_fits NoClient fits = tt
completed_fits (HasClient clientid sequence) fits = fits
completed_fits (HasSession s) fits = fits

-- ---- the layout

pub ending_fits : (l : Layout) → IsLayoutInRange l → IsLayoutInRange (ending l)
ending_fits l fits = by_stage l.stage
  where
    by_stage : (stage : LayoutStage) → IsLayoutInRange (ends_layout l stage)
    by_stage Writing = fits
    by_stage Ending = fits
    by_stage Deferred = fits
    by_stage Returning = fits

deferred_fits : (layout : Option Layout) → IfThere layout IsLayoutInRange → IfThere (deferred layout) IsLayoutInRange
deferred_fits None fits = tt
deferred_fits (Some l) fits = fits

pub layout_behind : (kind : MdsAsk) (old new : Option Layout) → IsLayoutBehind kind old new → IfThere old IsLayoutInRange → IfThere new IsLayoutInRange
layout_behind kind old new (inl same) fits = subst (λ (o : Option Layout). IfThere o IsLayoutInRange) (sym same) fits
layout_behind kind old new (inr (back, same)) fits = subst (λ (o : Option Layout). IfThere o IsLayoutInRange) (sym same) (deferred_fits old fits)

pub ticked_fits : (layout : Option Layout) → IfThere layout IsLayoutInRange → IfThere (layout_at_tick layout) IsLayoutInRange
ticked_fits None fits = tt
ticked_fits (Some l) fits = fits

returning_fits : (layout : Option Layout) → IfThere layout IsLayoutInRange → IfThere (returning layout) IsLayoutInRange
returning_fits None fits = tt
returning_fits (Some l) fits = fits

pub layout_asked_fits : (kind : MdsAsk) (layout : Option Layout) → IfThere layout IsLayoutInRange → IfThere (layout_asked kind layout) IsLayoutInRange
layout_asked_fits ask.LayoutReturn layout fits = returning_fits layout fits
layout_asked_fits ask.ExchangeId layout fits = fits
layout_asked_fits ask.CreateSession layout fits = fits
layout_asked_fits ask.ReclaimComplete layout fits = fits
layout_asked_fits ask.Open layout fits = fits
layout_asked_fits ask.LayoutGet layout fits = fits
layout_asked_fits (ask.DeviceInfo count) layout fits = fits
layout_asked_fits ask.Write layout fits = fits
layout_asked_fits (ask.Read at count) layout fits = fits
layout_asked_fits ask.Renew layout fits = fits

pub taken_more : (taken : List TakenWrite) (t : TakenWrite) → AllByRecursion IsWriteInRange taken → IsWriteInRange t → AllByRecursion IsWriteInRange (taken ++ t ∷ [])
taken_more [] t all fits = (fits, tt)
taken_more (x ∷ taken) t all fits = (all.0, taken_more taken t all.1 fits)

pub all_there : {A : Type 0} (P : A → Type 0) (xs : List A) (n : ℕ) (x : A) → AllByRecursion P xs → slice_get xs n ≡ Some x → P x
all_there P [] n x all there = absurd (none-some x there)
all_there P (y ∷ ys) zero x all there = subst P (same_Some y x there) all.0
all_there P (y ∷ ys) (suc n) x all there = all_there P ys n x all.1 there
