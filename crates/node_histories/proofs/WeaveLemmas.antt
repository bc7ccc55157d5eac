-- Weaves go on: steps behind steps, entries of others, and the place of an entry in the steps.
use Rattle.std.proofs.Common.{◌≡◌, List, [], ◌∷◌, ◌++◌, refl, sym, ap, subst, ◌∙◌}
use Rattle.std.proofs.lemmas.List.{append_assoc, append-nil}
use Rattle.cluster_model.specs.declared.ids.NodeId.{NodeId}
use Rattle.cluster_model.specs.declared.entry.Entry.{Entry}
use Rattle.node_histories.specs.Weaves.{ItemShown, WeaveStep, Passes, Unseen, Seen, entries_in, items_in, IsShownAs, AreWoven, StandsInWeave}

-- ---- steps behind steps

pub entries_join : {I : Type 0} (a b : List (WeaveStep I)) → entries_in (a ++ b) ≡ entries_in a ++ entries_in b
entries_join [] b = refl
entries_join (Passes e ∷ a) b = ap (λ (l : List Entry). e ∷ l) (entries_join a b)
entries_join (Unseen item ∷ a) b = entries_join a b
entries_join (Seen item e ∷ a) b = ap (λ (l : List Entry). e ∷ l) (entries_join a b)

pub items_join : {I : Type 0} (a b : List (WeaveStep I)) → items_in (a ++ b) ≡ items_in a ++ items_in b
items_join [] b = refl
items_join (Passes e ∷ a) b = items_join a b
items_join {I = I} (Unseen item ∷ a) b = ap (λ (l : List I). item ∷ l) (items_join a b)
items_join {I = I} (Seen item e ∷ a) b = ap (λ (l : List I). item ∷ l) (items_join a b)

-- the journal behind an entry and more
behind_one : (journal : List Entry) (e : Entry) (more : List Entry) → (journal ++ e ∷ []) ++ more ≡ journal ++ e ∷ more
behind_one journal e more = append_assoc journal (e ∷ []) more

pub woven_join : {I : Type 0} (shown : I → ItemShown) (node : NodeId) (journal : List Entry) (a b : List (WeaveStep I)) → AreWoven shown node journal a → AreWoven shown node (journal ++ entries_in a) b → AreWoven shown node journal (a ++ b)
woven_join shown node journal [] b tt more = subst (λ (j : List Entry). AreWoven shown node j b) (append-nil journal) more
woven_join shown node journal (Passes e ∷ a) b so more = woven_join shown node (journal ++ e ∷ []) a b so (subst (λ (j : List Entry). AreWoven shown node j b) (sym (behind_one journal e (entries_in a))) more)
woven_join shown node journal (Unseen item ∷ a) b (is, so) more = (is, woven_join shown node journal a b so more)
woven_join shown node journal (Seen item e ∷ a) b (is, so) more = (is, woven_join shown node (journal ++ e ∷ []) a b so (subst (λ (j : List Entry). AreWoven shown node j b) (sym (behind_one journal e (entries_in a))) more))

-- ---- entries of others

abbrev pub passing : (I : Type 0) → List Entry → List (WeaveStep I)
passing I [] = []
passing I (e ∷ entries) = Passes e ∷ passing I entries

pub passed_entries : (I : Type 0) (entries : List Entry) → entries_in (passing I entries) ≡ entries
passed_entries I [] = refl
passed_entries I (e ∷ entries) = ap (λ (l : List Entry). e ∷ l) (passed_entries I entries)

pub passed_items : (I : Type 0) (entries : List Entry) → items_in (passing I entries) ≡ []
passed_items I [] = refl
passed_items I (e ∷ entries) = passed_items I entries

pub passed_woven : (I : Type 0) (shown : I → ItemShown) (node : NodeId) (journal entries : List Entry) → AreWoven shown node journal (passing I entries)
passed_woven I shown node journal [] = tt
passed_woven I shown node journal (e ∷ entries) = passed_woven I shown node (journal ++ e ∷ []) entries

-- ---- the place of an entry

-- an entry of a weave, with the steps before it: it is an item's, or passed
pub data IsPlaced (I : Type 0) (steps : List (WeaveStep I)) (past : List Entry) (e : Entry) : Type 0 where
  OfItem : (earlier later : List (WeaveStep I)) (item : I) → steps ≡ earlier ++ Seen item e ∷ later → entries_in earlier ≡ past → IsPlaced I steps past e
  OfOthers : (earlier later : List (WeaveStep I)) → steps ≡ earlier ++ Passes e ∷ later → entries_in earlier ≡ past → IsPlaced I steps past e

-- the same behind one more step
placed_behind : {I : Type 0} (step : WeaveStep I) (steps : List (WeaveStep I)) (past : List Entry) (e : Entry) → IsPlaced I steps past e → IsPlaced I (step ∷ steps) (entries_in (step ∷ []) ++ past) e
placed_behind {I = I} step steps past e (OfItem earlier later item split place) =
    OfItem (step ∷ earlier) later item (ap (λ (l : List (WeaveStep I)). step ∷ l) split) (entries_join (step ∷ []) earlier ∙ ap (λ (l : List Entry). entries_in (step ∷ []) ++ l) place)
placed_behind {I = I} step steps past e (OfOthers earlier later split place) =
    OfOthers (step ∷ earlier) later (ap (λ (l : List (WeaveStep I)). step ∷ l) split) (entries_join (step ∷ []) earlier ∙ ap (λ (l : List Entry). entries_in (step ∷ []) ++ l) place)

pub is_placed : {I : Type 0} (steps : List (WeaveStep I)) (past behind : List Entry) (e : Entry) → entries_in steps ≡ past ++ e ∷ behind → IsPlaced I steps past e
is_placed [] [] behind e is = absurd cc
is_placed [] (p ∷ past) behind e is = absurd cc
is_placed {I = I} (Passes x ∷ steps) [] behind e is =
    let same : x ≡ e = cc is in
    subst (λ (y : Entry). IsPlaced I (Passes x ∷ steps) [] y) same (OfOthers [] steps refl refl)
is_placed {I = I} (Passes x ∷ steps) (p ∷ past) behind e is =
    let same : x ≡ p = cc is in
    let rest : entries_in steps ≡ past ++ e ∷ behind = cc is in
    subst (λ (y : Entry). IsPlaced I (Passes x ∷ steps) (y ∷ past) e) same (placed_behind (Passes x) steps past e (is_placed steps past behind e rest))
is_placed (Unseen item ∷ steps) past behind e is = placed_behind (Unseen item) steps past e (is_placed steps past behind e is)
is_placed {I = I} (Seen item x ∷ steps) [] behind e is =
    let same : x ≡ e = cc is in
    subst (λ (y : Entry). IsPlaced I (Seen item x ∷ steps) [] y) same (OfItem [] steps item refl refl)
is_placed {I = I} (Seen item x ∷ steps) (p ∷ past) behind e is =
    let same : x ≡ p = cc is in
    let rest : entries_in steps ≡ past ++ e ∷ behind = cc is in
    subst (λ (y : Entry). IsPlaced I (Seen item x ∷ steps) (y ∷ past) e) same (placed_behind (Seen item x) steps past e (is_placed steps past behind e rest))

-- an item stands in more steps as it does
pub stands_later : {I : Type 0} (begun : List Entry) (steps more : List (WeaveStep I)) (past : List Entry) (item : I) (e : Entry) → StandsInWeave begun steps past item e → StandsInWeave begun (steps ++ more) past item e
stands_later {I = I} begun steps more past item e s = record {
  earlier = s.earlier;
  later = s.later ++ more;
  split = ap (λ (l : List (WeaveStep I)). l ++ more) s.split ∙ append_assoc s.earlier (Seen item e ∷ s.later) more;
  place = s.place;
}

-- ---- what an item's place says

-- the steps up to an item are woven, and the item is shown so
pub record IsSeenAt {I : Type 0} (shown : I → ItemShown) (node : NodeId) (begun : List Entry) (earlier : List (WeaveStep I)) (item : I) (e : Entry) (later : List (WeaveStep I)) : Type 0 where
  pub before : AreWoven shown node begun earlier
  pub is : IsShownAs node (begun ++ entries_in earlier) (shown item) e
  pub behind : AreWoven shown node ((begun ++ entries_in earlier) ++ e ∷ []) later

pub seen_at : {I : Type 0} (shown : I → ItemShown) (node : NodeId) (begun : List Entry) (earlier : List (WeaveStep I)) (item : I) (e : Entry) (later : List (WeaveStep I))
    → AreWoven shown node begun (earlier ++ Seen item e ∷ later) → IsSeenAt shown node begun earlier item e later
seen_at {I = I} shown node begun [] item e later (is, more) = record {
  before = tt;
  is = subst (λ (j : List Entry). IsShownAs node j (shown item) e) (sym (append-nil begun)) is;
  behind = subst (λ (j : List Entry). AreWoven shown node (j ++ e ∷ []) later) (sym (append-nil begun)) more;
}
seen_at {I = I} shown node begun (Passes x ∷ earlier) item e later so =
    let s = seen_at shown node (begun ++ x ∷ []) earlier item e later so in record {
      before = s.before;
      is = subst (λ (j : List Entry). IsShownAs node j (shown item) e) (behind_one begun x (entries_in earlier)) s.is;
      behind = subst (λ (j : List Entry). AreWoven shown node (j ++ e ∷ []) later) (behind_one begun x (entries_in earlier)) s.behind;
    }
seen_at {I = I} shown node begun (Unseen i ∷ earlier) item e later (is, so) =
    let s = seen_at shown node begun earlier item e later so in record { before = (is, s.before); is = s.is; behind = s.behind }
seen_at {I = I} shown node begun (Seen i x ∷ earlier) item e later (is, so) =
    let s = seen_at shown node (begun ++ x ∷ []) earlier item e later so in record {
      before = (is, s.before);
      is = subst (λ (j : List Entry). IsShownAs node j (shown item) e) (behind_one begun x (entries_in earlier)) s.is;
      behind = subst (λ (j : List Entry). AreWoven shown node (j ++ e ∷ []) later) (behind_one begun x (entries_in earlier)) s.behind;
    }
