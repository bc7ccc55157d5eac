-- Replies of results that are read back, behind a SEQUENCE's: each tells the slot that the request was taken.
use Rattle.std.proofs.Common.{◌≡◌, ◌≤◌, ℕ, suc, ◌+◌, List, [], ◌∷◌, ◌++◌, length, refl, sym, ap, subst, ◌∙◌, arith, length-append}
use Rattle.std.specs.Prelude.{IsTrue, nat_eq}
use Rattle.std.specs.List.{AllByRecursion, list_any, flat_map}
use Rattle.ff_xdr.specs.Form.{Value, Fits, spelling, word, padded}
use Rattle.compound_reply.specs.Replied.{success_reply}
use Rattle.nfs4_types.specs.declared.sequence.Sequence.{Sequence}
use Rattle.nfs4_types.specs.declared.status.Stat4.{Stat4}
use Rattle.nfs4_types.specs.declared.status.Stat4.TheVariants as stat
use Rattle.nfs4_types.specs.Status.{stat4_number, stats4}
use Rattle.nfs4_compound.specs.Results.{resop4}
use Rattle.nfs4_compound.specs.Compounds.{compound4_res}
use Rattle.client_mds_calls.specs.declared.reply.SlotReport.TheVariants.{Taken}
use Rattle.client_mds_calls.specs.MdsCalls.{SlotCallValue, ask_on_slot}
use Rattle.client_mds_calls.specs.MdsCalls as slot
use Rattle.client_mds_calls.specs.MdsReplies.{MdsReplyValue, slot_answer_of, slot_told, reply_of_ask}
use Rattle.mds_rule.specs.MdsStates.{CompoundRun}
use Rattle.mds_rule.specs.Compounds.{compound_bytes, sequence_result}
use Rattle.mds_walk.proofs.Lists.{AllOf, all_push}
use Rattle.mds_replies.proofs.LegibleResults.{IsLegible}
use Rattle.mds_replies.proofs.ReplyForms.{reply_fits}
use Rattle.mds_replies.proofs.ReplySent.{read_as}

-- ---- results

abbrev others : (results : List (Value resop4)) → AllOf IsLegible results → List (Value resop4)
others [] all = []
others (r ∷ results) all = all.0.other ∷ others results all.1

others_fit : (results : List (Value resop4)) (all : AllOf IsLegible results) → AllByRecursion (Fits resop4) (others results all)
others_fit [] all = tt
others_fit (r ∷ results) all = (all.0.fits, others_fit results all.1)

others_many : (results : List (Value resop4)) (all : AllOf IsLegible results) → length (others results all) ≡ length results
others_many [] all = refl
others_many (r ∷ results) all = ap suc (others_many results all.1)

abbrev text_of : List (Value resop4) → List ℕ
text_of results = flat_map (λ (v : Value resop4). spelling resop4 v) results

others_same : (results : List (Value resop4)) (all : AllOf IsLegible results) → text_of (others results all) ≡ text_of results
others_same [] all = refl
others_same (r ∷ results) all = ap (λ (t : List ℕ). t ++ text_of (others results all.1)) all.0.same ∙ ap (λ (t : List ℕ). spelling resop4 r ++ t) (others_same results all.1)

-- ---- a reply

-- whoever asked, the slot is told that the request was taken
abbrev pub TellsTaken : List ℕ → Type 0
TellsTaken bytes = (c : SlotCallValue) (xid : ℕ) → (reply_of_ask (ask_on_slot c) (success_reply xid bytes)).slot ≡ Taken

status_known : (status : Stat4) → IsTrue (list_any (nat_eq (stat4_number status)) stats4)
status_known stat.Ok = refl
status_known stat.Perm = refl
status_known stat.NoEnt = refl
status_known stat.Io = refl
status_known stat.Access = refl
status_known stat.Exist = refl
status_known stat.NotDir = refl
status_known stat.IsDir = refl
status_known stat.Inval = refl
status_known stat.Fbig = refl
status_known stat.NoSpc = refl
status_known stat.Rofs = refl
status_known stat.NameTooLong = refl
status_known stat.Stale = refl
status_known stat.BadHandle = refl
status_known stat.BadCookie = refl
status_known stat.NotSupp = refl
status_known stat.TooSmall = refl
status_known stat.ServerFault = refl
status_known stat.Delay = refl
status_known stat.NoFileHandle = refl
status_known stat.MinorVersMismatch = refl
status_known stat.StaleClientId = refl
status_known stat.OldStateid = refl
status_known stat.BadStateid = refl
status_known stat.NotSame = refl
status_known stat.AttrNotSupp = refl
status_known stat.NoGrace = refl
status_known stat.BadXdr = refl
status_known stat.LocksHeld = refl
status_known stat.BadOwner = refl
status_known stat.OpIllegal = refl
status_known stat.BadIoMode = refl
status_known stat.BadSession = refl
status_known stat.BadSlot = refl
status_known stat.CompleteAlready = refl
status_known stat.LayoutTryLater = refl
status_known stat.LayoutUnavailable = refl
status_known stat.NoMatchingLayout = refl
status_known stat.RecallConflict = refl
status_known stat.UnknownLayoutType = refl
status_known stat.SeqMisordered = refl
status_known stat.SequencePos = refl
status_known stat.RepTooBigToCache = refl
status_known stat.RetryUncachedRep = refl
status_known stat.TooManyOps = refl
status_known stat.OpNotInSession = refl
status_known stat.ClientIdBusy = refl
status_known stat.NotOnlyOp = refl
status_known stat.WrongType = refl

told_on_slot : (c : SlotCallValue) (results : List (Value resop4)) → slot_told (ask_on_slot c) results ≡ slot_answer_of results
told_on_slot slot.ReclaimComplete results = refl
told_on_slot (slot.Open name) results = refl
told_on_slot (slot.LayoutGet file) results = refl
told_on_slot (slot.DeviceInfo servers) results = refl
told_on_slot (slot.Write file at bytes) results = refl
told_on_slot (slot.Read file at count) results = refl
told_on_slot (slot.LayoutReturn file stateid failed) results = refl
told_on_slot slot.Renew results = refl

-- where the results fit
pub tells_fitting : (status : ℕ) (results : List (Value resop4)) → Fits compound4_res (status, ([], results)) → slot_answer_of results ≡ Taken → TellsTaken (spelling compound4_res (status, ([], results)))
tells_fitting status results fits taken c xid =
    ap (λ (r : MdsReplyValue). r.slot) (read_as (ask_on_slot c) xid (status, ([], results)) fits) ∙ told_on_slot c results ∙ taken

-- where they are legible
pub tells_legible : (status : Stat4) (request : Sequence) (rest : List (Value resop4)) → Fits resop4 (sequence_result request) → AllOf IsLegible rest → length rest ≤ 16
    → TellsTaken (spelling compound4_res (stat4_number status, ([], sequence_result request ∷ rest)))
tells_legible status request rest its all few =
    let first : Value resop4 = sequence_result request in
    let many : length (others rest all) ≡ length rest = others_many rest all in
    subst TellsTaken
    (ap (λ (n : ℕ). word (stat4_number status) ++ ((word 0 ++ padded []) ++ (word (suc n) ++ (spelling resop4 first ++ text_of (others rest all))))) many
    ∙ ap (λ (t : List ℕ). word (stat4_number status) ++ ((word 0 ++ padded []) ++ (word (suc (length rest)) ++ (spelling resop4 first ++ t)))) (others_same rest all))
    (tells_fitting (stat4_number status) (first ∷ others rest all) (reply_fits (stat4_number status) (first ∷ others rest all) (status_known status) (omega (arith, many, few)) (its, others_fit rest all)) refl)

-- ---- a request on a slot that runs

-- Its results so far are the SEQUENCE's and others that are legible; with as many to come they are few.
pub record IsLegibleSoFar (left : ℕ) (c : CompoundRun) : Type 0 where
  pub tag : c.tag ≡ []
  pub request : Sequence
  pub its : Fits resop4 (sequence_result request)
  pub rest : List (Value resop4)
  pub results : c.results ≡ sequence_result request ∷ rest
  pub legible : AllOf IsLegible rest
  pub few : length rest + left ≤ 16

-- with one more
pub legible_more : (left : ℕ) (c d : CompoundRun) (r : Value resop4) → IsLegibleSoFar (suc left) c → IsLegible r → d.tag ≡ c.tag → d.results ≡ c.results ++ r ∷ [] → IsLegibleSoFar left d
legible_more left c d r so its tag results = record {
  tag = tag ∙ so.tag;
  request = so.request;
  its = so.its;
  rest = so.rest ++ r ∷ [];
  results = results ∙ ap (λ (rs : List (Value resop4)). rs ++ r ∷ []) so.results;
  legible = all_push IsLegible so.rest r so.legible its;
  few = let more = length-append so.rest (r ∷ []) in let few = so.few in omega (arith, more, few);
}

-- its reply
pub tells_so : (left : ℕ) (c : CompoundRun) (status : Stat4) → IsLegibleSoFar left c → TellsTaken (compound_bytes c status)
tells_so left c status so =
    let few : length so.rest ≤ 16 = let f = so.few in omega (arith, f) in
    subst TellsTaken
    (ap (λ (rs : List (Value resop4)). spelling compound4_res (stat4_number status, ([], rs))) (sym so.results) ∙ ap (λ (t : List ℕ). spelling compound4_res (stat4_number status, (t, c.results))) (sym so.tag))
    (tells_legible status so.request so.rest so.its so.legible few)
