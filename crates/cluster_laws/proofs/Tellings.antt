-- What the entries tell that a run of the machine makes.
use Rattle.std.proofs.Common.{◌≡◌, Bool, true, false, cond, List, [], ◌∷◌, ◌++◌, Option, None, refl, sym, ap, ◌∙◌}
use Rattle.std.proofs.lemmas.Bool.{cond_both}
use Rattle.std.proofs.lemmas.List.Elements.{filter-append}
use Rattle.cluster_model.specs.declared.ids.FileId.{FileId}
use Rattle.cluster_model.specs.declared.ids.MirrorId.{MirrorId}
use Rattle.cluster_model.specs.declared.entry.Entry.{Entry}
use Rattle.cluster_model.specs.declared.entry.Entry.TheVariants as entry
use Rattle.cluster_model.specs.Journal.{Copy, no_copy, copy_after, copy_by, content_of}
use Rattle.cluster_laws.specs.FenceLaw.{live_in, live_by, live_after, is_among, IsFencedAt, ObeysFences}
use Rattle.cluster_laws.specs.Telling.{is_telling, telling}
use Rattle.cluster_laws.proofs.Lists.{all_more}

-- ---- entries of other kinds

-- such an entry changes neither a live list nor a copy
quiet_live : (f : FileId) (e : Entry) → is_telling e ≡ false → (x : Option (List MirrorId)) → live_after f x e ≡ x
quiet_live f (entry.Left file mirror cause) quiet x = absurd cc
quiet_live f (entry.Swapped file old new) quiet x = absurd cc
quiet_live f (entry.Free file live) quiet x = absurd cc
quiet_live f _ quiet x = refl

pub quiet_copy : (m : MirrorId) (e : Entry) → is_telling e ≡ false → (c : Copy) → copy_after m c e ≡ c
quiet_copy m (entry.Applied mirror cred at bytes) quiet c = absurd cc
quiet_copy m (entry.Committed mirror) quiet c = absurd cc
quiet_copy m (entry.Owner mirror cred) quiet c = absurd cc
quiet_copy m (entry.Restarted server pieces) quiet c = absurd cc
quiet_copy m _ quiet c = refl

pub live_told : (f : FileId) (journal : List Entry) (x : Option (List MirrorId)) → live_by f x (telling journal) ≡ live_by f x journal
live_told f [] x = refl
live_told f (e ∷ journal) x =
    cond_both (is_telling e) (e ∷ telling journal) (telling journal) (λ (kept : List Entry). live_by f x kept ≡ live_by f (live_after f x e) journal)
    (λ tells. live_told f journal (live_after f x e)) (λ quiet. live_told f journal x ∙ ap (λ y. live_by f y journal) (sym (quiet_live f e quiet x)))

pub copy_told : (m : MirrorId) (journal : List Entry) (c : Copy) → copy_by m c (telling journal) ≡ copy_by m c journal
copy_told m [] c = refl
copy_told m (e ∷ journal) c =
    cond_both (is_telling e) (e ∷ telling journal) (telling journal) (λ (kept : List Entry). copy_by m c kept ≡ copy_by m (copy_after m c e) journal)
    (λ tells. copy_told m journal (copy_after m c e)) (λ quiet. copy_told m journal c ∙ ap (λ y. copy_by m y journal) (sym (quiet_copy m e quiet c)))

-- a split of what is left, in the whole journal
pub record IsLifted (journal before : List Entry) (e : Entry) (behind : List Entry) : Type 0 where
  pub front : List Entry
  pub rest : List Entry
  pub is : journal ≡ front ++ e ∷ rest
  pub tells : is_telling e ≡ true
  pub front_is : telling front ≡ before
  pub rest_is : telling rest ≡ behind

same_parts : (x y : Entry) (a b : List Entry) → x ∷ a ≡ y ∷ b → (x ≡ y) × (a ≡ b)
same_parts x y a b e = (cc, cc)

pub lifted : (journal before : List Entry) (e : Entry) (behind : List Entry) → telling journal ≡ before ++ e ∷ behind → IsLifted journal before e behind
lifted [] [] e behind is = absurd cc
lifted [] (y ∷ before) e behind is = absurd cc
lifted (x ∷ journal) before e behind is = by_test (is_telling x) refl is (λ front more. lifted journal front e behind more)
  where
    told : (front : List Entry) → is_telling x ≡ true → telling (x ∷ front) ≡ x ∷ telling front
    told front t = ap (λ (b : Bool). cond b (x ∷ telling front) (telling front)) t

    by_front : (before : List Entry) → is_telling x ≡ true → x ∷ telling journal ≡ before ++ e ∷ behind → ((front : List Entry) → telling journal ≡ front ++ e ∷ behind → IsLifted journal front e behind) → IsLifted (x ∷ journal) before e behind
    by_front [] t is more =
        let parts = same_parts x e (telling journal) behind is in
        record { front = []; rest = journal; is = ap (λ (y : Entry). y ∷ journal) parts.0; tells = ap is_telling (sym parts.0) ∙ t; front_is = refl; rest_is = parts.1 }
    by_front (y ∷ before) t is more =
        let parts = same_parts x y (telling journal) (before ++ e ∷ behind) is in
        let l = more before parts.1 in
        record {
          front = x ∷ l.front;
          rest = l.rest;
          is = ap (λ (j : List Entry). x ∷ j) l.is;
          tells = l.tells;
          front_is = told l.front t ∙ ap (λ (j : List Entry). x ∷ j) l.front_is ∙ ap (λ (z : Entry). z ∷ before) parts.0;
          rest_is = l.rest_is;
        }

    by_test : (b : Bool) → is_telling x ≡ b → cond b (x ∷ telling journal) (telling journal) ≡ before ++ e ∷ behind → ((front : List Entry) → telling journal ≡ front ++ e ∷ behind → IsLifted journal front e behind) → IsLifted (x ∷ journal) before e behind
    by_test true t is more = by_front before t is more
    by_test false t is more =
        let l = more before is in
        record {
          front = x ∷ l.front;
          rest = l.rest;
          is = ap (λ (j : List Entry). x ∷ j) l.is;
          tells = l.tells;
          front_is = ap (λ (b : Bool). cond b (x ∷ telling l.front) (telling l.front)) t ∙ l.front_is;
          rest_is = l.rest_is;
        }

-- ---- the fence law

pub fences_told : (journal : List Entry) → ObeysFences (telling journal) → ObeysFences journal
fences_told journal h before behind f old new live is =
    let fence : Entry = entry.Fenced f old new live in
    let told : IsFencedAt (telling before) f old new live (telling behind) = h (telling before) (telling behind) f old new live (ap telling is ∙ filter-append is_telling before (fence ∷ behind)) in
    record {
      live_list = sym (live_told f before None) ∙ told.live_list;
      owners = all_more (λ m. (content_of (telling before) m).owner ≡ new.0) (λ m. (content_of before m).owner ≡ new.0) live (λ m k. ap (λ (c : Copy). c.owner) (sym (copy_told m before no_copy)) ∙ k) told.owners;
      shut_out = λ between rest m at bytes more.
          let shut = told.shut_out (telling between) (telling rest) m at bytes (ap telling more ∙ filter-append is_telling between (entry.Applied m old at bytes ∷ rest)) in
          let whole : telling ((before ++ fence ∷ []) ++ between) ≡ (telling before ++ fence ∷ []) ++ telling between =
          filter-append is_telling (before ++ fence ∷ []) between ∙ ap (λ x. x ++ telling between) (filter-append is_telling before (fence ∷ [])) in
          ap (is_among m) (sym (live_told f ((before ++ fence ∷ []) ++ between) None) ∙ ap (λ x. live_in x f) whole) ∙ shut;
    }

pub fences_left : (journal : List Entry) → ObeysFences journal → ObeysFences (telling journal)
fences_left journal h before behind f old new live is =
    let fence : Entry = entry.Fenced f old new live in
    let l = lifted journal before fence behind is in
    let whole : IsFencedAt l.front f old new live l.rest = h l.front l.rest f old new live l.is in
    record {
      live_list = ap (λ x. live_in x f) (sym l.front_is) ∙ live_told f l.front None ∙ whole.live_list;
      owners = all_more (λ m. (content_of l.front m).owner ≡ new.0) (λ m. (content_of before m).owner ≡ new.0) live
          (λ m k. ap (λ (c : Copy). c.owner) (ap (λ x. content_of x m) (sym l.front_is) ∙ copy_told m l.front no_copy) ∙ k) whole.owners;
      shut_out = λ between rest m at bytes more.
          let k = lifted l.rest between (entry.Applied m old at bytes) rest (l.rest_is ∙ more) in
          let shut = whole.shut_out k.front k.rest m at bytes k.is in
          let parts : telling ((l.front ++ fence ∷ []) ++ k.front) ≡ (before ++ fence ∷ []) ++ between =
          filter-append is_telling (l.front ++ fence ∷ []) k.front
          ∙ ap (λ x. x ++ telling k.front) (filter-append is_telling l.front (fence ∷ []) ∙ ap (λ x. x ++ fence ∷ []) l.front_is)
          ∙ ap (λ x. (before ++ fence ∷ []) ++ x) k.front_is in
          ap (is_among m) (ap (λ x. live_in x f) (sym parts) ∙ live_told f ((l.front ++ fence ∷ []) ++ k.front) None) ∙ shut;
    }
