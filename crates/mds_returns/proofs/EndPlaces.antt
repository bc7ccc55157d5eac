-- The place of an end among the entries of an event, and that the calls that go out enter nothing.
use Rattle.std.proofs.Common.{◌≡◌, Bool, true, false, List, [], ◌∷◌, ◌++◌, refl, sym, ap, subst, ◌∙◌, inl, inr}
use Rattle.std.proofs.lemmas.List.{append-nil}
use Rattle.cluster_model.specs.declared.ids.NodeId.TheVariants.{Server}
use Rattle.cluster_model.specs.declared.ids.FileId.{FileId}
use Rattle.cluster_model.specs.declared.ids.Cred.{Cred}
use Rattle.cluster_model.specs.declared.ids.Mirror.{Mirror}
use Rattle.cluster_model.specs.declared.phase.EndCause.TheVariants.{Returned, AllReported}
use Rattle.cluster_model.specs.declared.entry.Entry.{Entry}
use Rattle.cluster_model.specs.declared.entry.Entry.TheVariants as entry
use Rattle.cluster_model.specs.Phases.{end_entries}
use Rattle.cluster_model.specs.Members.{IsOneOf}
use Rattle.mds_rule.specs.MdsStates.{MdsSend, CallsServer, CallsBack, AwaitedCall, MdsValue, with_call}
use Rattle.mds_rule.specs.declared.waiter.Waiter.TheVariants.{ForFile, ForRead, ForWrite, ForRecall}
use Rattle.mds_rule.specs.Goes.{calls_out}
use Rattle.mds_laws.proofs.Numbers.{WereSent, sent_more, sent_with}
use Rattle.mds_replies.proofs.HolderCases.{OutCases}
use Rattle.mds_replies.proofs.GoesWalk.{out_walk}
use Rattle.mds_replies.proofs.PeriodKept.{in_sent, sent_with_calls}
use Rattle.mds_replies.proofs.EndCauses.{IsNoReturn, NoneReturned}

-- ---- lists

abbrev rest_of : List Entry → List Entry
rest_of [] = []
rest_of (e ∷ entries) = entries

abbrev has_some : List Entry → Bool
has_some [] = false
has_some (e ∷ entries) = true

pub not_empty : (front : List Entry) (b : Entry) (back : List Entry) → [] ≡ front ++ b ∷ back → ⊥
not_empty [] b back is = not_so (ap has_some is)
  where
    not_so : false ≡ true → ⊥
    not_so e = absurd cc
not_empty (e ∷ front) b back is = not_so (ap has_some is)
  where
    not_so : false ≡ true → ⊥
    not_so e = absurd cc

pub in_middle : (b : Entry) (front back : List Entry) → IsOneOf b (front ++ b ∷ back)
in_middle b [] back = inl refl
in_middle b (e ∷ front) back = inr (in_middle b front back)

pub record IsPlaced (xs front : List Entry) (a b : Entry) : Type 0 where
  pub before : front ≡ xs
  pub one : b ≡ a

abbrev first_in : List Entry → Entry → Entry
first_in [] other = other
first_in (e ∷ entries) other = e

-- an entry of an end as returned stands behind those that are none, as the last one
last_one : (xs : List Entry) (a b : Entry) (front back : List Entry) → NoneReturned xs → (IsNoReturn b → ⊥) → xs ++ a ∷ [] ≡ front ++ b ∷ back → IsPlaced xs front a b
last_one [] a b [] back none returned is = record { before = refl; one = sym (ap (λ (l : List Entry). first_in l a) is) }
last_one [] a b (e ∷ front) back none returned is = absurd (not_empty front b back (ap rest_of is))
last_one (x ∷ xs) a b [] back none returned is = absurd (returned (subst IsNoReturn (ap (λ (l : List Entry). first_in l x) is) none.0))
last_one (x ∷ xs) a b (e ∷ front) back none returned is =
    let p : IsPlaced xs front a b = last_one xs a b front back none.1 returned (ap rest_of is) in
    record { before = ap (λ (y : Entry). y ∷ front) (sym (ap (λ (l : List Entry). first_in l x) is)) ∙ ap (λ (l : List Entry). x ∷ l) p.before; one = p.one }

abbrev cause_in : Entry → Bool
cause_in (entry.Ended file cred AllReported) = true
cause_in other = false

-- the end of a LAYOUTRETURN
pub placed : (file other : FileId) (cred its : Cred) (left : List Entry) (live : List Mirror) (front back : List Entry) → NoneReturned left → end_entries other its left Returned live ≡ front ++ entry.Ended file cred Returned ∷ back
    → IsPlaced left front (entry.Ended other its Returned) (entry.Ended file cred Returned)
placed file other cred its left [] front back none is =
    absurd (not_so (ap cause_in (last_one [] (entry.Ended other its AllReported) (entry.Ended file cred Returned) front back tt (λ none. none) is).one))
  where
    not_so : false ≡ true → ⊥
    not_so e = absurd cc
placed file other cred its left (m ∷ live) front back none is = last_one left (entry.Ended other its Returned) (entry.Ended file cred Returned) front back none (λ none. none) is

-- ---- the calls that go out

record IsSilent (calls : List AwaitedCall) (es : List Entry) (ss : List MdsSend) : Type 0 where
  pub none : es ≡ []
  pub were : WereSent calls ss

abbrev IsSo : MdsValue → List Entry → List MdsSend → Type 0
IsSo m es ss = IsSilent m.calls es ss

called : (calls : List AwaitedCall) (call : AwaitedCall) (es : List Entry) (ss : List MdsSend) → IsSilent calls es ss → IsSilent (with_call call calls) (es ++ []) (ss ++ call.sent ∷ [])
called calls call es ss i = record { none = append-nil es ∙ i.none; were = sent_with calls ss call i.were }

outs : OutCases IsSo
outs = record {
  recalled = λ m recalls es ss i. i;
  back = λ m client es ss i. i;
  calls_file = λ m file s c at has its es ss i. called m.calls (record { node = Server c.server; xid = m.next_xid; caller = ForFile file; sent = CallsServer c.server m.next_xid c.uid c.call }) es ss i;
  calls_write = λ m file s w c at has waits its is_write es ss i.
      called m.calls (record { node = Server c.id.server; xid = m.next_xid; caller = ForWrite file; sent = CallsServer c.id.server m.next_xid w.writer.cred c.call }) es ss i;
  calls_read = λ m file s t server call at has same holder seqid write waits kept uid is_read es ss i.
      called m.calls (record { node = Server server; xid = m.next_xid; caller = ForRead file; sent = CallsServer server m.next_xid 0 call }) es ss i;
  calls_back = λ m node back file stateid has es ss i. called m.calls (record { node = node; xid = m.next_xid; caller = ForRecall; sent = CallsBack m.next_xid back file stateid }) es ss i;
  skips = λ m has es ss i. i;
  was = λ m es ss i. i.were;
  again = λ m s es ss i inside. record { none = i.none; were = sent_more m.calls ss s i.were };
}

pub out_none : (m : MdsValue) → (calls_out [] m).entries ≡ []
out_none m = (out_walk IsSo outs [] m [] (sent_with_calls m.calls) (record { none = refl; were = λ call inside. in_sent call m.calls inside })).none
