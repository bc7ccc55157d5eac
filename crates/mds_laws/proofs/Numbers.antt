-- Each call has a number of its own, above those of all calls before it, or is one that went out before.
use Rattle.std.proofs.Common.{◌≡◌, ◌≤◌, ℕ, zero, suc, ◌+◌, Bool, true, false, cond, List, [], ◌∷◌, ◌++◌, Option, Some, None, refl, sym, subst, ◌∙◌, inl, inr, ◌⊎◌, arith, filter}
use Rattle.std.specs.Prelude.{not, ◌==◌}
use Rattle.std.specs.List.{list_any}
use Rattle.std.proofs.lemmas.Bool.{cond_both}
use Rattle.std.proofs.lemmas.Bool.Decides.{nat_tests}
use Rattle.std.proofs.lemmas.Option.{same_Some, none-some}
use Rattle.device_addr.specs.Universal.{AddressValue}
use Rattle.cluster_model.specs.declared.ids.NodeId.TheVariants.{Server}
use Rattle.cluster_model.specs.declared.ids.FileId.{FileId}
use Rattle.cluster_model.specs.declared.entry.Entry.{Entry}
use Rattle.cluster_model.specs.Members.{IsOneOf}
use Rattle.rpc_record.specs.CallNumbers.{IsBelow}
use Rattle.file_rule.specs.FilePhases.{Answers as IsAnswer, TimesOut, Sees, phase}
use Rattle.file_rule.specs.MdsFiles.{FileStep}
use Rattle.mds_rows.specs.Draws.{drawn}
use Rattle.recall.specs.Recalls.{without_file}
use Rattle.mds_rule.specs.Answers.{own_answer}
use Rattle.mds_rule.specs.MdsStates.{ServedFile, MdsSend, CallsServer, CallsBack, Replies, Answers, AwaitedCall, MdsValue, with_call, with_served, new_mds}
use Rattle.mds_rule.specs.declared.waiter.Waiter.TheVariants.{ForFile, ForRead, ForWrite, ForRecall}
use Rattle.mds_rule.specs.ServedFiles.{is_period_end, file_behind, file_stepped}
use Rattle.mds_rule.specs.Goes.{xid_after}
use Rattle.mds_walk.specs.MdsRuns.{MdsEvent}
use Rattle.mds_laws.specs.MdsRunLaws.{number_sent, AreBelow, IsNewOrAgain, IsNew, IsAgain, NumbersAscend, FitsNumber, NumbersFit}
use Rattle.mds_walk.proofs.Lists.{in_more, in_last, in_with_call, in_filtered, Split, split_in, EachOf, each_push, each_at, AllOf, all_push, all_in, all_split}
use Rattle.mds_laws.proofs.Keeping.{Cases}
use Rattle.mds_walk.proofs.Parts.{HeardAny}
use Rattle.mds_laws.proofs.GoesWalk.{in_each_run}

-- ---- the calls that were sent

-- each was sent before
abbrev pub WereSent : List AwaitedCall → List MdsSend → Type 0
WereSent calls ss = (call : AwaitedCall) → IsOneOf call calls → IsOneOf call.sent ss

pub sent_more : (calls : List AwaitedCall) (ss : List MdsSend) (s : MdsSend) → WereSent calls ss → WereSent calls (ss ++ s ∷ [])
sent_more calls ss s were call inside = in_more call.sent ss (s ∷ []) (were call inside)

pub sent_with : (calls : List AwaitedCall) (ss : List MdsSend) (call : AwaitedCall) → WereSent calls ss → WereSent (with_call call calls) (ss ++ call.sent ∷ [])
sent_with calls ss call were other inside = by_place (in_with_call other call calls inside)
  where
    by_place : IsOneOf other calls ⊎ (other ≡ call) → IsOneOf other.sent (ss ++ call.sent ∷ [])
    by_place (inl old) = in_more other.sent ss (call.sent ∷ []) (were other old)
    by_place (inr new) = subst (λ (c : AwaitedCall). IsOneOf c.sent (ss ++ call.sent ∷ [])) (sym new) (in_last call.sent ss)

pub sent_kept : (test : AwaitedCall → Bool) (calls : List AwaitedCall) (ss : List MdsSend) → WereSent calls ss → WereSent (filter test calls) ss
sent_kept test calls ss were call inside = were call (in_filtered test call calls inside)

-- ---- numbers

abbrev IsNumbered : List MdsSend → MdsSend → Type 0
IsNumbered before s = (xid : ℕ) → number_sent s ≡ Some xid → IsNewOrAgain before s xid

below_more : (next : ℕ) (o : Option ℕ) → IsBelow next o → IsBelow (next + 1) o
below_more next None is = tt
below_more next (Some n) is = omega (arith, is)

pub below_all : (next : ℕ) (ss : List MdsSend) → AreBelow next ss → AreBelow (next + 1) ss
below_all next [] all = tt
below_all next (s ∷ ss) all = (below_more next (number_sent s) all.0, below_all next ss all.1)

pub below_push : (next : ℕ) (ss : List MdsSend) (s : MdsSend) → AreBelow next ss → IsBelow next (number_sent s) → AreBelow next (ss ++ s ∷ [])
below_push next [] s all is = (is, tt)
below_push next (x ∷ ss) s all is = (all.0, below_push next ss s all.1 is)

pub in_below : (next : ℕ) (ss : List MdsSend) (s : MdsSend) → AreBelow next ss → IsOneOf s ss → IsBelow next (number_sent s)
in_below next [] s all inside = absurd inside
in_below next (x ∷ ss) s all (inl is) = subst (λ (y : MdsSend). IsBelow next (number_sent y)) (sym is) all.0
in_below next (x ∷ ss) s all (inr inside) = in_below next ss s all.1 inside

-- behind the number that was used
pub after_below : (next : ℕ) (ss : List MdsSend) → AreBelow (next + 1) ss → not (xid_after next == 0) ≡ true → AreBelow (xid_after next) ss
after_below next ss all = by_last (next == 4294967295)
  where
    by_last : (b : Bool) → not (cond b 0 (next + 1) == 0) ≡ true → AreBelow (cond b 0 (next + 1)) ss
    by_last true has = absurd cc
    by_last false has = all

abbrev HasWord : MdsSend → Type 0
HasWord s = FitsNumber (number_sent s)

positive : (n : ℕ) → not (n == 0) ≡ true → 1 ≤ n
positive zero has = absurd cc
positive (suc n) has = omega arith

pub after_fits : (next : ℕ) → next ≤ 4294967295 → xid_after next ≤ 4294967295
after_fits next fits =
    cond_both (next == 4294967295) 0 (next + 1) (λ (n : ℕ). n ≤ 4294967295) (λ is. omega arith) (λ off. grind (arith, nat_tests, off, fits))

pub record Numbered (next : ℕ) (calls : List AwaitedCall) (ss : List MdsSend) : Type 0 where
  pub each : EachOf IsNumbered [] ss
  pub below : not (next == 0) ≡ true → AreBelow next ss
  pub were : WereSent calls ss
  pub fits : next ≤ 4294967295
  pub words : AllOf HasWord ss

abbrev IsSo : MdsValue → List Entry → List MdsSend → Type 0
IsSo m es ss = Numbered m.next_xid m.calls ss

plain : (next : ℕ) (calls : List AwaitedCall) (ss : List MdsSend) (s : MdsSend) → number_sent s ≡ None → Numbered next calls ss → Numbered next calls (ss ++ s ∷ [])
plain next calls ss s none i = record {
  each = each_push IsNumbered [] ss s i.each (λ xid is. absurd (none-some xid (sym none ∙ is)));
  below = λ has. below_push next ss s (i.below has) (subst (IsBelow next) (sym none) tt);
  were = sent_more calls ss s i.were;
  fits = i.fits;
  words = all_push HasWord ss s i.words (subst FitsNumber (sym none) tt);
}

called : (next : ℕ) (calls : List AwaitedCall) (ss : List MdsSend) (call : AwaitedCall) → not (next == 0) ≡ true → number_sent call.sent ≡ Some next → Numbered next calls ss
    → Numbered (xid_after next) (with_call call calls) (ss ++ call.sent ∷ [])
called next calls ss call has number i = record {
  each = each_push IsNumbered [] ss call.sent i.each (λ xid is. subst (IsNewOrAgain ss call.sent) (same_Some next xid (sym number ∙ is)) (IsNew (i.below has)));
  below = after_below next (ss ++ call.sent ∷ []) (below_push (next + 1) ss call.sent (below_all next ss (i.below has)) (subst (IsBelow (next + 1)) (sym number) (omega arith)));
  were = sent_with calls ss call i.were;
  fits = after_fits next i.fits;
  words = all_push HasWord ss call.sent i.words (subst FitsNumber (sym number) (positive next has, i.fits));
}

inputs : (m : MdsValue) (file : FileId) (s : ServedFile) (step : FileStep) (es : List Entry) (ss : List MdsSend) → IsSo m es ss → IsSo (file_stepped m file s step).mds (es ++ step.entries) ss
inputs m file s step es ss i =
    let n : MdsValue = with_served (record m { fresh = drawn m.fresh step }) file (file_behind s step) in
    cond_both (list_any is_period_end step.entries) (record n { recalls = without_file file n.recalls }) n (λ (x : MdsValue). Numbered x.next_xid x.calls ss) (λ end. i) (λ other. i)

cases : Cases IsSo HeardAny
cases = record {
  quiet = λ m confirmed opens reclaimed recalls es ss i. i;
  tables = λ m move is es ss i. i;
  replies = λ m node reply es ss i. plain m.next_xid m.calls ss (Replies node reply) refl i;
  answers = λ m node bytes reply is es ss i. plain m.next_xid m.calls ss (Answers node bytes) refl i;
  notes = λ m e is es ss i. i;
  puts = λ m file s t at same write es ss i. i;
  inputs = λ m file s input itself at fresh es ss i. inputs m file s (phase file s.file input m.fresh) es ss i;
  timeouts = λ m file s xid at fresh es ss i. inputs m file s (phase file s.file (TimesOut xid) m.fresh) es ss i;
  hears = λ m file s call server own uid c replies heard caller sent out at fresh es ss i. inputs m file s (phase file s.file (IsAnswer call.xid (own_answer c (replies c))) m.fresh) es ss i;
  learns = λ m file s call server own uid c replies fileid shown heard caller sent named shows at fresh es ss i. inputs m file s (phase file s.file (Sees (record { server = server; fileid = fileid }) shown.seen) m.fresh) es ss i;
  makes = λ m name may es ss i. i;
  calls_file = λ m file s c at has its es ss i.
      called m.next_xid m.calls ss (record { node = Server c.server; xid = m.next_xid; caller = ForFile file; sent = CallsServer c.server m.next_xid c.uid c.call }) has refl i;
  calls_write = λ m file s w c at has waits its is_write es ss i.
      called m.next_xid m.calls ss (record { node = Server c.id.server; xid = m.next_xid; caller = ForWrite file; sent = CallsServer c.id.server m.next_xid w.writer.cred c.call }) has refl i;
  calls_read = λ m file s t server call at has same write uid is_read es ss i.
      called m.next_xid m.calls ss (record { node = Server server; xid = m.next_xid; caller = ForRead file; sent = CallsServer server m.next_xid 0 call }) has refl i;
  calls_back = λ m node back file stateid has es ss i.
      called m.next_xid m.calls ss (record { node = node; xid = m.next_xid; caller = ForRecall; sent = CallsBack m.next_xid back file stateid }) has refl i;
  skips = λ m has es ss i. record { each = i.each; below = after_below m.next_xid ss (below_all m.next_xid ss (i.below has)); were = i.were; fits = after_fits m.next_xid i.fits; words = i.words };
  forgets = λ m test es ss i. record { each = i.each; below = i.below; were = sent_kept test m.calls ss i.were; fits = i.fits; words = i.words };
  was = λ m es ss i. i.were;
  again = λ m s es ss i inside. again m.next_xid m.calls ss s inside i;
}
  where
    again : (next : ℕ) (calls : List AwaitedCall) (ss : List MdsSend) (s : MdsSend) → IsOneOf s ss → Numbered next calls ss → Numbered next calls (ss ++ s ∷ [])
    again next calls ss s inside i =
        let split : Split s ss = split_in s ss inside in
        record {
          each = each_push IsNumbered [] ss s i.each (λ xid is. IsAgain split.front split.behind split.is);
          below = λ has. below_push next ss s (i.below has) (in_below next ss s (i.below has) inside);
          were = sent_more calls ss s i.were;
          fits = i.fits;
          words = all_push HasWord ss s i.words (all_in HasWord ss s i.words inside);
        }

begun : (servers : List AddressValue) (mirrors : ℕ) → IsSo (new_mds servers mirrors) [] []
begun servers mirrors = record { each = tt; below = λ has. tt; were = λ call inside. absurd inside; fits = omega arith; words = tt }

pub numbers_calls : (servers : List AddressValue) (mirrors : ℕ) (events : List MdsEvent) → NumbersAscend servers mirrors events
numbers_calls servers mirrors events before after s xid is number =
    each_at IsNumbered [] before after s (subst (EachOf IsNumbered []) is (in_each_run IsSo cases (λ m request now es ss i. i) (new_mds servers mirrors) events (begun servers mirrors)).each) xid number

pub numbers_fit : (servers : List AddressValue) (mirrors : ℕ) (events : List MdsEvent) → NumbersFit servers mirrors events
numbers_fit servers mirrors events before after s is =
    all_split HasWord before after s (subst (AllOf HasWord) is (in_each_run IsSo cases (λ m request now es ss i. i) (new_mds servers mirrors) events (begun servers mirrors)).words)
