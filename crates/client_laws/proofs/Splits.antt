-- Where an item stands in a history that grows.
use Rattle.std.proofs.Common.{◌≡◌, List, [], ◌∷◌, ◌++◌, refl, sym, ap, subst, ◌∙◌, inl, inr, ◌⊎◌}
use Rattle.client_laws.specs.ClientHistory.{HistoryItem, HasItem}

abbrev pub tail_of : List HistoryItem → List HistoryItem
tail_of [] = []
tail_of (x ∷ xs) = xs

abbrev pub head_of : HistoryItem → List HistoryItem → HistoryItem
head_of other [] = other
head_of other (x ∷ xs) = x

-- it stands in the first part
pub record StandsBefore (xs items : List HistoryItem) (r : HistoryItem) : Type 0 where
  pub behind : List HistoryItem
  pub split : xs ≡ items ++ r ∷ behind

pub there : (a b : List HistoryItem) (r : HistoryItem) → HasItem (a ++ r ∷ b) r
there [] b r = inl (refl, tt)
there (x ∷ a) b r = inr (there a b r)

further : (x y : HistoryItem) (xs items : List HistoryItem) (r : HistoryItem) → x ≡ y → StandsBefore xs items r → StandsBefore (x ∷ xs) (y ∷ items) r
further x y xs items r same s = record { behind = s.behind; split = ap (λ k. k ∷ xs) same ∙ ap (λ l. y ∷ l) s.split }

at_head : (x : HistoryItem) (xs more behind : List HistoryItem) (r : HistoryItem) → (x ∷ xs) ++ more ≡ r ∷ behind → StandsBefore (x ∷ xs) [] r
at_head x xs more behind r is = record { behind = xs; split = ap (λ k. k ∷ xs) (ap (head_of x) is) }

pub split_before : (xs more items behind : List HistoryItem) (r : HistoryItem) → xs ++ more ≡ items ++ r ∷ behind → (HasItem more r → ⊥) → StandsBefore xs items r
split_before [] more items behind r is none = absurd (none (subst (λ l. HasItem l r) (sym is) (there items behind r)))
split_before (x ∷ xs) more [] behind r is none = at_head x xs more behind r is
split_before (x ∷ xs) more (y ∷ items) behind r is none = further x y xs items r (ap (head_of x) is) (split_before xs more items behind r (ap tail_of is) none)

-- or it is the last
pub record IsLast (xs items : List HistoryItem) (r last : HistoryItem) : Type 0 where
  pub items_are : items ≡ xs
  pub last_is : r ≡ last

pub not_empty : (items behind : List HistoryItem) (r : HistoryItem) → [] ≡ items ++ r ∷ behind → ⊥
not_empty [] behind r is = absurd cc
not_empty (y ∷ items) behind r is = absurd cc

further_last : (x y : HistoryItem) (xs items : List HistoryItem) (r last : HistoryItem) → x ≡ y → StandsBefore xs items r ⊎ IsLast xs items r last → StandsBefore (x ∷ xs) (y ∷ items) r ⊎ IsLast (x ∷ xs) (y ∷ items) r last
further_last x y xs items r last same (inl s) = inl (further x y xs items r same s)
further_last x y xs items r last same (inr e) = inr (record { items_are = ap (λ k. k ∷ items) (sym same) ∙ ap (λ l. x ∷ l) e.items_are; last_is = e.last_is })

pub split_last : (xs items behind : List HistoryItem) (r last : HistoryItem) → xs ++ last ∷ [] ≡ items ++ r ∷ behind → StandsBefore xs items r ⊎ IsLast xs items r last
split_last [] [] behind r last is = inr (record { items_are = refl; last_is = sym (ap (head_of last) is) })
split_last [] (y ∷ items) behind r last is = absurd (not_empty items behind r (ap tail_of is))
split_last (x ∷ xs) [] behind r last is = inl (at_head x xs (last ∷ []) behind r is)
split_last (x ∷ xs) (y ∷ items) behind r last is = further_last x y xs items r last (ap (head_of x) is) (split_last xs items behind r last (ap tail_of is))

-- it stands in the first part of a list, with what is left of that part behind it
pub record IsIn (xs more items behind : List HistoryItem) (r : HistoryItem) : Type 0 where
  pub left : List HistoryItem
  pub split : xs ≡ items ++ r ∷ left
  pub rest : behind ≡ left ++ more

-- or in the second, behind the whole first part
pub record IsBehind (xs more items behind : List HistoryItem) (r : HistoryItem) : Type 0 where
  pub mid : List HistoryItem
  pub items_are : items ≡ xs ++ mid
  pub split : more ≡ mid ++ r ∷ behind

further_in : (x y : HistoryItem) (xs more items behind : List HistoryItem) (r : HistoryItem) → x ≡ y → IsIn xs more items behind r ⊎ IsBehind xs more items behind r → IsIn (x ∷ xs) more (y ∷ items) behind r ⊎ IsBehind (x ∷ xs) more (y ∷ items) behind r
further_in x y xs more items behind r same (inl i) = inl (record { left = i.left; split = ap (λ k. k ∷ xs) same ∙ ap (λ l. y ∷ l) i.split; rest = i.rest })
further_in x y xs more items behind r same (inr b) = inr (record { mid = b.mid; items_are = ap (λ k. k ∷ items) (sym same) ∙ ap (λ l. x ∷ l) b.items_are; split = b.split })

pub split_either : (xs more items behind : List HistoryItem) (r : HistoryItem) → xs ++ more ≡ items ++ r ∷ behind → IsIn xs more items behind r ⊎ IsBehind xs more items behind r
split_either [] more items behind r is = inr (record { mid = items; items_are = refl; split = is })
split_either (x ∷ xs) more [] behind r is = inl (record { left = xs; split = ap (λ k. k ∷ xs) (ap (head_of x) is); rest = sym (ap tail_of is) })
split_either (x ∷ xs) more (y ∷ items) behind r is = further_in x y xs more items behind r (ap (head_of x) is) (split_either xs more items behind r (ap tail_of is))
