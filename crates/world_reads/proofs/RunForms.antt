-- Of a metadata server's run: the number of mirrors of a new file stays, what is answered at once is answered by a reply, and two calls
-- under one number are one.
use Rattle.std.proofs.Common.{◌≡◌, ◌<◌, ℕ, List, [], ◌∷◌, ◌++◌, Some, refl, sym, ap, subst, ◌∙◌, inl, inr, ◌⊎◌, arith, append_assoc, append-nil}
use Rattle.std.specs.List.{list_any}
use Rattle.std.proofs.lemmas.Bool.{cond_both}
use Rattle.cluster_model.specs.declared.ids.NodeId.TheVariants.{Server}
use Rattle.cluster_model.specs.declared.ids.FileId.{FileId}
use Rattle.cluster_model.specs.declared.entry.Entry.{Entry}
use Rattle.cluster_model.specs.Members.{IsOneOf}
use Rattle.rpc_record.specs.CallNumbers.{IsBelow}
use Rattle.device_addr.specs.Universal.{AddressValue}
use Rattle.file_rule.specs.FilePhases.{Answers as IsAnswer, TimesOut, Sees, phase}
use Rattle.file_rule.specs.MdsFiles.{FileStep}
use Rattle.mds_rows.specs.Draws.{drawn}
use Rattle.recall.specs.Recalls.{without_file}
use Rattle.mds_rule.specs.Answers.{own_answer}
use Rattle.mds_rule.specs.MdsStates.{ServedFile, MdsSend, CallsServer, CallsBack, Replies, Answers, AwaitedCall, MdsValue, with_call, with_served, new_mds}
use Rattle.mds_rule.specs.declared.waiter.Waiter.TheVariants.{ForFile, ForRead, ForWrite, ForRecall}
use Rattle.mds_rule.specs.ServedFiles.{is_period_end, file_behind, file_stepped}
use Rattle.mds_walk.specs.MdsRuns.{MdsEvent, mds_run}
use Rattle.mds_laws.specs.MdsRunLaws.{number_sent, AreBelow, IsNewOrAgain, IsNew, IsAgain, NumbersAscend}
use Rattle.mds_walk.proofs.Lists.{AllOf, all_push, all_in}
use Rattle.mds_laws.proofs.Keeping.{Cases}
use Rattle.mds_walk.proofs.Parts.{HeardAny}
use Rattle.mds_laws.proofs.Numbers.{WereSent, sent_more, sent_with, sent_kept}
use Rattle.mds_laws.proofs.GoesWalk.{in_each_run}
use Rattle.mds_forms.specs.Forms.{IsReplyRecord}

-- what is answered at once
abbrev pub IsAnswerForm : MdsSend → Type 0
IsAnswerForm (CallsServer server xid uid call) = Unit {0}
IsAnswerForm (CallsBack xid back file stateid) = Unit {0}
IsAnswerForm (Replies node reply) = Unit {0}
IsAnswerForm (Answers node bytes) = IsReplyRecord bytes

-- by the parts of the server that it is about
pub record Formed (mirrors now : ℕ) (calls : List AwaitedCall) (ss : List MdsSend) : Type 0 where
  pub stays : now ≡ mirrors
  pub were : WereSent calls ss
  pub forms : AllOf IsAnswerForm ss

module _ (mirrors : ℕ) where
  abbrev IsSo : MdsValue → List Entry → List MdsSend → Type 0
  IsSo m es ss = Formed mirrors m.mirrors m.calls ss

  push : (now : ℕ) (calls : List AwaitedCall) (ss : List MdsSend) (s : MdsSend) → IsAnswerForm s → Formed mirrors now calls ss → Formed mirrors now calls (ss ++ s ∷ [])
  push now calls ss s form i = record { stays = i.stays; were = sent_more calls ss s i.were; forms = all_push IsAnswerForm ss s i.forms form }

  called : (now : ℕ) (calls : List AwaitedCall) (ss : List MdsSend) (call : AwaitedCall) → IsAnswerForm call.sent → Formed mirrors now calls ss → Formed mirrors now (with_call call calls) (ss ++ call.sent ∷ [])
  called now calls ss call form i = record { stays = i.stays; were = sent_with calls ss call i.were; forms = all_push IsAnswerForm ss call.sent i.forms form }

  inputs : (m : MdsValue) (file : FileId) (s : ServedFile) (step : FileStep) (es : List Entry) (ss : List MdsSend) → IsSo m es ss → IsSo (file_stepped m file s step).mds (es ++ step.entries) ss
  inputs m file s step es ss i =
      let n : MdsValue = with_served (record m { fresh = drawn m.fresh step }) file (file_behind s step) in
      cond_both (list_any is_period_end step.entries) (record n { recalls = without_file file n.recalls }) n (λ (x : MdsValue). Formed mirrors x.mirrors x.calls ss) (λ end. i) (λ other. i)

  cases : Cases IsSo HeardAny
  cases = record {
    quiet = λ m confirmed opens reclaimed recalls es ss i. i;
    tables = λ m move is es ss i. i;
    replies = λ m node reply es ss i. push m.mirrors m.calls ss (Replies node reply) tt i;
    answers = λ m node bytes reply is es ss i. push m.mirrors m.calls ss (Answers node bytes) (record { reply = reply; is = is }) i;
    notes = λ m e is es ss i. i;
    puts = λ m file s t at same write es ss i. i;
    inputs = λ m file s input itself at fresh es ss i. inputs m file s (phase file s.file input m.fresh) es ss i;
    timeouts = λ m file s xid at fresh es ss i. inputs m file s (phase file s.file (TimesOut xid) m.fresh) es ss i;
    hears = λ m file s call server own uid c replies heard caller sent out at fresh es ss i. inputs m file s (phase file s.file (IsAnswer call.xid (own_answer c (replies c))) m.fresh) es ss i;
    learns = λ m file s call server own uid c replies fileid shown heard caller sent named shows at fresh es ss i.
        inputs m file s (phase file s.file (Sees (record { server = server; fileid = fileid }) shown.seen) m.fresh) es ss i;
    makes = λ m name may es ss i. i;
    calls_file = λ m file s c at has its es ss i.
        called m.mirrors m.calls ss (record { node = Server c.server; xid = m.next_xid; caller = ForFile file; sent = CallsServer c.server m.next_xid c.uid c.call }) tt i;
    calls_write = λ m file s w c at has waits its is_write es ss i.
        called m.mirrors m.calls ss (record { node = Server c.id.server; xid = m.next_xid; caller = ForWrite file; sent = CallsServer c.id.server m.next_xid w.writer.cred c.call }) tt i;
    calls_read = λ m file s t server call at has same write uid is_read es ss i.
        called m.mirrors m.calls ss (record { node = Server server; xid = m.next_xid; caller = ForRead file; sent = CallsServer server m.next_xid 0 call }) tt i;
    calls_back = λ m node back file stateid has es ss i.
        called m.mirrors m.calls ss (record { node = node; xid = m.next_xid; caller = ForRecall; sent = CallsBack m.next_xid back file stateid }) tt i;
    skips = λ m has es ss i. i;
    forgets = λ m test es ss i. record { stays = i.stays; were = sent_kept test m.calls ss i.were; forms = i.forms };
    was = λ m es ss i. i.were;
    again = λ m s es ss i inside. push m.mirrors m.calls ss s (all_in IsAnswerForm ss s i.forms inside) i;
  }

  pub run_formed : (servers : List AddressValue) (events : List MdsEvent) → Formed mirrors (mds_run servers mirrors events).mds.mirrors (mds_run servers mirrors events).mds.calls (mds_run servers mirrors events).sends
  run_formed servers events = in_each_run IsSo cases (λ m request now es ss i. i) (new_mds servers mirrors) events (record { stays = refl; were = λ call inside. absurd inside; forms = tt })

-- ---- two calls under one number are one

abbrev pub AreOnce : List MdsSend → Type 0
AreOnce ss = (a b : MdsSend) (xid : ℕ) → IsOneOf a ss → IsOneOf b ss → number_sent a ≡ Some xid → number_sent b ≡ Some xid → a ≡ b

not_below : (xid : ℕ) (ss : List MdsSend) (a : MdsSend) → AreBelow xid ss → IsOneOf a ss → number_sent a ≡ Some xid → ⊥
not_below xid [] a below inside is = absurd inside
not_below xid (s ∷ ss) a below (inl same) is =
    let less : IsBelow xid (Some xid) = subst (IsBelow xid) (ap number_sent (sym same) ∙ is) below.0 in
    absurd (omega (arith, less))
not_below xid (s ∷ ss) a below (inr inside) is = not_below xid ss a below.1 inside is

in_either : (a : MdsSend) (p : List MdsSend) (s : MdsSend) → IsOneOf a (p ++ s ∷ []) → IsOneOf a p ⊎ (a ≡ s)
in_either a [] s (inl same) = inr same
in_either a [] s (inr none) = absurd none
in_either a (x ∷ p) s (inl same) = inl (inl same)
in_either a (x ∷ p) s (inr inside) = further (in_either a p s inside)
  where
    further : IsOneOf a p ⊎ (a ≡ s) → IsOneOf a (x ∷ p) ⊎ (a ≡ s)
    further (inl old) = inl (inr old)
    further (inr new) = inr new

in_middle : (front behind : List MdsSend) (s : MdsSend) → IsOneOf s (front ++ s ∷ behind)
in_middle [] behind s = inl refl
in_middle (x ∷ front) behind s = inr (in_middle front behind s)

-- the last and one before it
last_once : (p : List MdsSend) (s a : MdsSend) (xid : ℕ) → AreOnce p → IsNewOrAgain p s xid → IsOneOf a p → number_sent a ≡ Some xid → number_sent s ≡ Some xid → a ≡ s
last_once p s a xid once (IsNew below) inside first second = absurd (not_below xid p a below inside first)
last_once p s a xid once (IsAgain front behind is) inside first second = once a s xid inside (subst (λ (l : List MdsSend). IsOneOf s l) (sym is) (in_middle front behind s)) first second

one_more : (p : List MdsSend) (s : MdsSend) → ((xid : ℕ) → number_sent s ≡ Some xid → IsNewOrAgain p s xid) → AreOnce p → AreOnce (p ++ s ∷ [])
one_more p s new once a b xid first second na nb = by_places (in_either a p s first) (in_either b p s second)
  where
    by_places : IsOneOf a p ⊎ (a ≡ s) → IsOneOf b p ⊎ (b ≡ s) → a ≡ b
    by_places (inl x) (inl y) = once a b xid x y na nb
    by_places (inl x) (inr y) = let nb' : number_sent s ≡ Some xid = ap number_sent (sym y) ∙ nb in last_once p s a xid once (new xid nb') x na nb' ∙ sym y
    by_places (inr x) (inl y) = let na' : number_sent s ≡ Some xid = ap number_sent (sym x) ∙ na in x ∙ sym (last_once p s b xid once (new xid na') y nb na')
    by_places (inr x) (inr y) = x ∙ sym y

all_once : (ss p rest : List MdsSend) → ss ≡ p ++ rest → ((before after : List MdsSend) (s : MdsSend) (xid : ℕ) → ss ≡ before ++ s ∷ after → number_sent s ≡ Some xid → IsNewOrAgain before s xid) → AreOnce p → AreOnce ss
all_once ss p [] is ascend once = subst AreOnce (sym (is ∙ append-nil p)) once
all_once ss p (s ∷ rest) is ascend once = all_once ss (p ++ s ∷ []) rest (is ∙ sym (append_assoc p (s ∷ []) rest)) ascend (one_more p s (λ xid number. ascend p rest s xid is number) once)

pub run_once : (servers : List AddressValue) (mirrors : ℕ) (events : List MdsEvent) → NumbersAscend servers mirrors events → AreOnce (mds_run servers mirrors events).sends
run_once servers mirrors events ascend = all_once (mds_run servers mirrors events).sends [] (mds_run servers mirrors events).sends refl ascend (λ a b xid inside. absurd inside)
