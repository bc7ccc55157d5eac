-- The calls that went out, by their numbers: no two are under one number, and each call that is awaited went out under its own, to its node.
use Rattle.std.proofs.Common.{◌≡◌, ℕ, ◌+◌, true, List, [], ◌∷◌, ◌++◌, Some, None, sym, ap, subst, ◌∙◌, inl, inr, ◌⊎◌, arith, Bool, filter}
use Rattle.std.specs.Prelude.{not, ◌==◌}
use Rattle.std.proofs.lemmas.Option.{none-some}
use Rattle.cluster_model.specs.declared.ids.NodeId.{NodeId}
use Rattle.cluster_model.specs.declared.ids.NodeId.TheVariants.{Server}
use Rattle.cluster_model.specs.Members.{IsOneOf}
use Rattle.rpc_record.specs.CallNumbers.{IsBelow}
use Rattle.mds_rule.specs.MdsStates.{MdsSend, CallsServer, CallsBack, Replies, Answers, AwaitedCall, with_call}
use Rattle.mds_rule.specs.Goes.{xid_after}
use Rattle.mds_laws.specs.MdsRunLaws.{number_sent, AreBelow}
use Rattle.mds_walk.proofs.Lists.{in_with_call, in_filtered}
use Rattle.mds_laws.proofs.Numbers.{WereSent, sent_more, sent_with, sent_kept, below_all, below_push, in_below, after_below}

-- a call of a data server went out to that node
abbrev pub IsTo : NodeId → MdsSend → Type 0
IsTo node (CallsServer server xid uid call) = node ≡ Server server
IsTo node (CallsBack xid back file stateid) = Unit {0}
IsTo node (Replies other reply) = Unit {0}
IsTo node (Answers other bytes) = Unit {0}

pub record IsCallSo (call : AwaitedCall) : Type 0 where
  pub number : number_sent call.sent ≡ Some call.xid
  pub node : IsTo call.node call.sent

-- two under one number are the same
abbrev pub SentOnce : List MdsSend → Type 0
SentOnce ss = (a b : MdsSend) (xid : ℕ) → IsOneOf a ss → IsOneOf b ss → number_sent a ≡ Some xid → number_sent b ≡ Some xid → a ≡ b

pub record HaveNumbers (next : ℕ) (calls : List AwaitedCall) (ss : List MdsSend) : Type 0 where
  pub below : not (next == 0) ≡ true → AreBelow next ss
  pub once : SentOnce ss
  pub were : WereSent calls ss
  pub are : (call : AwaitedCall) → IsOneOf call calls → IsCallSo call

in_pushed : (x s : MdsSend) (ss : List MdsSend) → IsOneOf x (ss ++ s ∷ []) → IsOneOf x ss ⊎ (x ≡ s)
in_pushed x s [] (inl is) = inr is
in_pushed x s [] (inr inside) = absurd inside
in_pushed x s (y ∷ ss) (inl is) = inl (inl is)
in_pushed x s (y ∷ ss) (inr inside) = further (in_pushed x s ss inside)
  where
    further : IsOneOf x ss ⊎ (x ≡ s) → IsOneOf x (y ∷ ss) ⊎ (x ≡ s)
    further (inl old) = inl (inr old)
    further (inr new) = inr new

-- the number that is next was not used
pub not_used : (next : ℕ) (ss : List MdsSend) → AreBelow next ss → (s : MdsSend) → IsOneOf s ss → number_sent s ≡ Some next → ⊥
not_used next ss below s inside is = none_below (subst (IsBelow next) is (in_below next ss s below inside))
  where
    none_below : IsBelow next (Some next) → ⊥
    none_below less = omega (arith, less)

-- one more under a number that no other has
once_new : (ss : List MdsSend) (s : MdsSend) → SentOnce ss → ((x : MdsSend) (xid : ℕ) → IsOneOf x ss → number_sent x ≡ Some xid → number_sent s ≡ Some xid → ⊥) → SentOnce (ss ++ s ∷ [])
once_new ss s once new a b xid first second as_a as_b = by_places (in_pushed a s ss first) (in_pushed b s ss second)
  where
    by_places : IsOneOf a ss ⊎ (a ≡ s) → IsOneOf b ss ⊎ (b ≡ s) → a ≡ b
    by_places (inl x) (inl y) = once a b xid x y as_a as_b
    by_places (inl x) (inr y) = absurd (new a xid x as_a (ap number_sent (sym y) ∙ as_b))
    by_places (inr x) (inl y) = absurd (new b xid y as_b (ap number_sent (sym x) ∙ as_a))
    by_places (inr x) (inr y) = x ∙ sym y

once_again : (ss : List MdsSend) (s : MdsSend) → SentOnce ss → IsOneOf s ss → SentOnce (ss ++ s ∷ [])
once_again ss s once inside a b xid first second as_a as_b = once a b xid (old a (in_pushed a s ss first)) (old b (in_pushed b s ss second)) as_a as_b
  where
    old : (x : MdsSend) → IsOneOf x ss ⊎ (x ≡ s) → IsOneOf x ss
    old x (inl its) = its
    old x (inr is) = subst (λ (y : MdsSend). IsOneOf y ss) (sym is) inside

-- ---- what goes out

pub numbers_none : (next : ℕ) (calls : List AwaitedCall) (ss : List MdsSend) (s : MdsSend) → number_sent s ≡ None → HaveNumbers next calls ss → HaveNumbers next calls (ss ++ s ∷ [])
numbers_none next calls ss s none n = record {
  below = λ has. below_push next ss s (n.below has) (subst (IsBelow next) (sym none) tt);
  once = once_new ss s n.once (λ x xid inside its is. none-some xid (sym none ∙ is));
  were = sent_more calls ss s n.were;
  are = n.are;
}

pub numbers_again : (next : ℕ) (calls : List AwaitedCall) (ss : List MdsSend) (s : MdsSend) → IsOneOf s ss → HaveNumbers next calls ss → HaveNumbers next calls (ss ++ s ∷ [])
numbers_again next calls ss s inside n = record {
  below = λ has. below_push next ss s (n.below has) (in_below next ss s (n.below has) inside);
  once = once_again ss s n.once inside;
  were = sent_more calls ss s n.were;
  are = n.are;
}

pub numbers_new : (next : ℕ) (calls : List AwaitedCall) (ss : List MdsSend) (call : AwaitedCall) → not (next == 0) ≡ true → number_sent call.sent ≡ Some next → IsCallSo call → HaveNumbers next calls ss
    → HaveNumbers (xid_after next) (with_call call calls) (ss ++ call.sent ∷ [])
numbers_new next calls ss call has number so n = record {
  below = after_below next (ss ++ call.sent ∷ []) (below_push (next + 1) ss call.sent (below_all next ss (n.below has)) (subst (IsBelow (next + 1)) (sym number) (omega arith)));
  once = once_new ss call.sent n.once (λ x xid inside its is. not_used next ss (n.below has) x inside (its ∙ sym is ∙ number));
  were = sent_with calls ss call n.were;
  are = λ x inside. by_place x (in_with_call x call calls inside);
}
  where
    by_place : (x : AwaitedCall) → IsOneOf x calls ⊎ (x ≡ call) → IsCallSo x
    by_place x (inl old) = n.are x old
    by_place x (inr is) = subst IsCallSo (sym is) so

pub numbers_skip : (next : ℕ) (calls : List AwaitedCall) (ss : List MdsSend) → not (next == 0) ≡ true → HaveNumbers next calls ss → HaveNumbers (xid_after next) calls ss
numbers_skip next calls ss has n = record { below = after_below next ss (below_all next ss (n.below has)); once = n.once; were = n.were; are = n.are }

pub numbers_forget : (next : ℕ) (calls : List AwaitedCall) (ss : List MdsSend) (test : AwaitedCall → Bool) → HaveNumbers next calls ss → HaveNumbers next (filter test calls) ss
numbers_forget next calls ss test n = record {
  below = n.below;
  once = n.once;
  were = sent_kept test calls ss n.were;
  are = λ call inside. n.are call (in_filtered test call calls inside);
}
