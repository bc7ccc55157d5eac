-- Items that stand in a history in an order, and what each item of a history is behind what came before it.
use Rattle.std.proofs.Common.{List, [], ◌∷◌, ◌++◌, refl, sym, subst, inl, inr, ◌⊎◌}
use Rattle.std.proofs.lemmas.List.{append_assoc, append-nil}
use Rattle.client_laws.specs.ClientHistory.{HistoryItem, InOrder, HasItem, Each}

pub in_more : (ps h more : List HistoryItem) → InOrder ps h → InOrder ps (h ++ more)
in_more [] h more i = tt
in_more (p ∷ ps) [] more i = absurd i
in_more (p ∷ ps) (x ∷ h) more (inl (e, r)) = inl (e, in_more ps h more r)
in_more (p ∷ ps) (x ∷ h) more (inr r) = inr (in_more (p ∷ ps) h more r)

pub in_end : (h : List HistoryItem) (x : HistoryItem) → HasItem (h ++ x ∷ []) x
in_end [] x = inl (refl, tt)
in_end (y ∷ h) x = inr (in_end h x)

-- one more behind them
pub in_next : (ps h : List HistoryItem) (x : HistoryItem) → InOrder ps h → InOrder (ps ++ x ∷ []) (h ++ x ∷ [])
in_next [] h x i = in_end h x
in_next (p ∷ ps) [] x i = absurd i
in_next (p ∷ ps) (y ∷ h) x (inl (e, r)) = inl (e, in_next ps h x r)
in_next (p ∷ ps) (y ∷ h) x (inr r) = inr (in_next (p ∷ ps) h x r)

pub in_either : (h more : List HistoryItem) (x : HistoryItem) → HasItem (h ++ more) x → HasItem h x ⊎ HasItem more x
in_either [] more x i = inr i
in_either (y ∷ h) more x (inl e) = inl (inl e)
in_either (y ∷ h) more x (inr i) = further (in_either h more x i)
  where
    further : HasItem h x ⊎ HasItem more x → HasItem (y ∷ h) x ⊎ HasItem more x
    further (inl i) = inl (inr i)
    further (inr i) = inr i

-- ---- each item

module _ (P : List HistoryItem → HistoryItem → Type 0) where
  pub each_append : (past a b : List HistoryItem) → Each P past a → Each P (past ++ a) b → Each P past (a ++ b)
  each_append past [] b first second = subst (λ l. Each P l b) (append-nil past) second
  each_append past (x ∷ a) b first second = (first.0, each_append (past ++ x ∷ []) a b first.1 (subst (λ l. Each P l b) (sym (append_assoc past (x ∷ []) a)) second))

pub each_weaker : (P Q : List HistoryItem → HistoryItem → Type 0) → ((past : List HistoryItem) (x : HistoryItem) → P past x → Q past x) → (past items : List HistoryItem) → Each P past items → Each Q past items
each_weaker P Q weaker past [] each = tt
each_weaker P Q weaker past (x ∷ items) each = (weaker past x each.0, each_weaker P Q weaker (past ++ x ∷ []) items each.1)
