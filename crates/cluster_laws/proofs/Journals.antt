-- A journal each entry of which is right behind those before it obeys the fence law.
use Rattle.std.proofs.Common.{◌≡◌, false, List, [], ◌∷◌, ◌++◌, Option, None, refl, sym, ap, subst, ◌∙◌, append_assoc, append-nil}
use Rattle.std.specs.List.{AllByRecursion}
use Rattle.cluster_model.specs.declared.ids.FileId.{FileId}
use Rattle.cluster_model.specs.declared.ids.MirrorId.{MirrorId}
use Rattle.cluster_model.specs.declared.entry.Entry.{Entry}
use Rattle.cluster_model.specs.declared.entry.Entry.TheVariants as entry
use Rattle.cluster_model.specs.Journal.{Copy, no_copy, copy_after, copy_by, content_of}
use Rattle.cluster_laws.specs.FenceLaw.{live_in, live_by, live_after, is_among, ObeysFences}
use Rattle.cluster_laws.proofs.Invariant.{IsNotShutOut, IsRight, AreRight}
use Rattle.cluster_laws.proofs.Lists.{all_split}

-- ---- joined journals

pub live_append : (f : FileId) (x : Option (List MirrorId)) (a b : List Entry) → live_by f x (a ++ b) ≡ live_by f (live_by f x a) b
live_append f x [] b = refl
live_append f x (e ∷ a) b = live_append f (live_after f x e) a b

pub copy_append : (m : MirrorId) (c : Copy) (a b : List Entry) → copy_by m c (a ++ b) ≡ copy_by m (copy_by m c a) b
copy_append m c [] b = refl
copy_append m c (e ∷ a) b = copy_append m (copy_after m c e) a b

-- entries that change no live list of a file, and no copy
pub live_stays : (f : FileId) (entries : List Entry) → AllByRecursion (λ e. (x : Option (List MirrorId)) → live_after f x e ≡ x) entries → (x : Option (List MirrorId)) → live_by f x entries ≡ x
live_stays f [] h x = refl
live_stays f (e ∷ entries) h x = ap (λ y. live_by f y entries) (h.0 x) ∙ live_stays f entries h.1 x

pub copy_stays : (m : MirrorId) (entries : List Entry) → AllByRecursion (λ e. (c : Copy) → copy_after m c e ≡ c) entries → (c : Copy) → copy_by m c entries ≡ c
copy_stays m [] h c = refl
copy_stays m (e ∷ entries) h c = ap (λ y. copy_by m y entries) (h.0 c) ∙ copy_stays m entries h.1 c

pub live_same : (f : FileId) (journal entries : List Entry) → AllByRecursion (λ e. (x : Option (List MirrorId)) → live_after f x e ≡ x) entries → live_in (journal ++ entries) f ≡ live_in journal f
live_same f journal entries h = live_append f None journal entries ∙ live_stays f entries h (live_in journal f)

pub content_same : (m : MirrorId) (journal entries : List Entry) → AllByRecursion (λ e. (c : Copy) → copy_after m c e ≡ c) entries → content_of (journal ++ entries) m ≡ content_of journal m
content_same m journal entries h = copy_append m no_copy journal entries ∙ copy_stays m entries h (content_of journal m)

-- ---- right entries

pub right_more : (before a b : List Entry) → AreRight before a → AreRight (before ++ a) b → AreRight before (a ++ b)
right_more before [] b h k = subst (λ x. AreRight x b) (append-nil before) k
right_more before (e ∷ a) b h k = (h.0, right_more (before ++ e ∷ []) a b h.1 (subst (λ x. AreRight x b) (sym (append_assoc before (e ∷ []) a)) k))

right_at : (before front : List Entry) (e : Entry) (rest : List Entry) → AreRight before (front ++ e ∷ rest) → IsRight (before ++ front) e
right_at before [] e rest h = subst (λ x. IsRight x e) (sym (append-nil before)) h.0
right_at before (x ∷ front) e rest h = subst (λ y. IsRight y e) (append_assoc before (x ∷ []) front) (right_at (before ++ x ∷ []) front e rest h.1)

pub obeys : (journal : List Entry) → AreRight [] journal → ObeysFences journal
obeys journal right before behind f old new live is =
    let fence : Entry = entry.Fenced f old new live in
    let here : IsRight before fence = right_at [] before fence behind (subst (λ x. AreRight [] x) is right) in
    record {
      live_list = here.0;
      owners = here.1;
      shut_out = λ between rest m at bytes more.
          let applied : Entry = entry.Applied m old at bytes in
          let whole : journal ≡ (before ++ fence ∷ between) ++ applied ∷ rest =
          is ∙ ap (λ x. before ++ fence ∷ x) more ∙ sym (append_assoc before (fence ∷ between) (applied ∷ rest)) in
          let all : IsRight (before ++ fence ∷ between) applied = right_at [] (before ++ fence ∷ between) applied rest (subst (λ x. AreRight [] x) whole right) in
          let shut : is_among m (live_in (before ++ fence ∷ between) f) ≡ false = all_split (IsNotShutOut (before ++ fence ∷ between) m old) before fence between all refl in
          ap (λ x. is_among m (live_in x f)) (append_assoc before (fence ∷ []) between) ∙ shut;
    }
