-- What is noted of users behind entries that say nothing of them.
use Rattle.std.proofs.Common.{◌≡◌, ◌≢◌, ℕ, ◌<◌, Bool, true, false, ◌&&◌, ◌||◌, eqb, cond, List, [], ◌∷◌, ◌++◌, length, Some, refl, sym, ap, subst, ◌∙◌, append_assoc, append-nil, eq-eqb}
use Rattle.std.specs.List.{AllByRecursion, flat_map}
use Rattle.std.proofs.lemmas.Bool.{cond_both, eqb-true, ne_eqb}
use Rattle.cluster_model.specs.declared.ids.FileId.{FileId}
use Rattle.cluster_model.specs.declared.ids.NodeId.{NodeId}
use Rattle.cluster_model.specs.declared.ids.Cred.{Cred}
use Rattle.cluster_model.specs.declared.ids.MirrorId.{MirrorId}
use Rattle.cluster_model.specs.declared.entry.Entry.{Entry}
use Rattle.cluster_model.specs.declared.entry.Entry.TheVariants as entry
use Rattle.cluster_model.specs.Content.{Pending}
use Rattle.cluster_laws.specs.Machine.{Holding, file_id, held_by_entry, held_by}
use Rattle.cluster_laws.specs.FenceLaw.{is_file, is_among}
use Rattle.cluster_laws.specs.Periods.{grants, was_granted}
use Rattle.cluster_laws.specs.Agreement.{sent_in, strayed_in, cause_in, sent_of, rogue_of, causes_of}
use Rattle.cluster_laws.specs.Holders.{the_write}
use Rattle.sound_journals.specs.Views.{FileView, view_after, view_by, no_view, view_of}
use Rattle.cluster_laws.proofs.Lists.{all_append, all_more}
use Rattle.sound_runs.proofs.ViewFolds.{view_append, sent_is, rogue_is, causes_are}
use Rattle.sound_runs.proofs.FileTurns.{IsBlank, IsGrantWith, NoWrite, OneWrite}
use Rattle.sound_runs.proofs.TurnSays.{IsPlain}
use Rattle.sound_runs.proofs.OnceGranted.{granted_more, granted_behind, not_both}

pub record IsUnnoted (journal : List Entry) (uid : ℕ) : Type 0 where
  pub sent : sent_of uid journal ≡ []
  pub rogue : rogue_of uid journal ≡ []
  pub causes : causes_of uid journal ≡ []
  pub layout : (f : FileId) (m : MirrorId) → (view_of journal f).layout uid m ≡ false

-- a holding was granted, and its mirrors are those of the layout
pub record IsHeldSo (journal : List Entry) (h : Holding) : Type 0 where
  pub granted : was_granted journal h.uid ≡ true
  pub mirrors : (f : FileId) (id : MirrorId) → (view_of journal f).layout h.uid id ≡ true → is_among id (Some h.mirrors) ≡ true

-- all that is sent has some bytes
abbrev pub AreSome : List Entry → Type 0
AreSome journal = (uid : ℕ) → AllByRecursion (λ w. 0 < length w.bytes) (sent_of uid journal)

-- an entry that says nothing of a user
pub record IsApartFrom (u : ℕ) (e : Entry) : Type 0 where
  pub sent : sent_in u e ≡ []
  pub strayed : strayed_in u e ≡ []
  pub causes : cause_in u e ≡ []
  pub grants : grants u e ≡ false

pub plain_apart : (c u : ℕ) → u ≢ c → (e : Entry) → IsPlain c e → IsApartFrom u e
plain_apart c u other e p = record { sent = p.sent u; strayed = p.strayed u; causes = p.causes u other; grants = p.grants u }

-- ---- folds over joined journals

pub flat_append : {A B : Type 0} (f : A → List B) (xs ys : List A) → flat_map f (xs ++ ys) ≡ flat_map f xs ++ flat_map f ys
flat_append f [] ys = refl
flat_append f (x ∷ xs) ys = ap (λ l. f x ++ l) (flat_append f xs ys) ∙ sym (append_assoc (f x) (flat_map f xs) (flat_map f ys))

flat_none : {B : Type 0} (f : Entry → List B) (es : List Entry) → AllByRecursion (λ e. f e ≡ []) es → flat_map f es ≡ []
flat_none f [] h = refl
flat_none f (e ∷ es) h = ap (λ l. l ++ flat_map f es) h.0 ∙ flat_none f es h.1

flat_same : {B : Type 0} (f : Entry → List B) (journal es : List Entry) → AllByRecursion (λ e. f e ≡ []) es → flat_map f (journal ++ es) ≡ flat_map f journal
flat_same f journal es h = flat_append f journal es ∙ (ap (λ l. flat_map f journal ++ l) (flat_none f es h) ∙ append-nil (flat_map f journal))

pub held_none : (mirrors : List MirrorId) (c : ℕ) (es : List Entry) → AllByRecursion (IsPlain c) es → held_by mirrors es ≡ []
held_none mirrors c es all = flat_none (held_by_entry mirrors) es (all_more (IsPlain c) (λ e. held_by_entry mirrors e ≡ []) es (λ e p. p.held mirrors) all)

pub sent_plain : (c : ℕ) (journal es : List Entry) → AllByRecursion (IsPlain c) es → (u : ℕ) → sent_of u (journal ++ es) ≡ sent_of u journal
sent_plain c journal es all u = flat_same (sent_in u) journal es (all_more (IsPlain c) (λ e. sent_in u e ≡ []) es (λ e p. p.sent u) all)

-- ---- layouts

and_off : (a b : Bool) → b ≡ false → (a && b) ≡ false
and_off true b e = e
and_off false b e = refl

layout_one : (f : FileId) (v : FileView) (u : ℕ) (m : MirrorId) (e : Entry) → grants u e ≡ false → (view_after f v e).layout u m ≡ v.layout u m
layout_one f v u m (entry.Granted file cred holder) off = ap (λ b. cond b (is_among m v.live || v.layout u m) (v.layout u m)) (and_off (is_file file f) (eqb cred.0 u) off)
layout_one f v u m _ off = refl

pub layout_on : (f : FileId) (v : FileView) (u : ℕ) (m : MirrorId) (es : List Entry) → AllByRecursion (λ e. grants u e ≡ false) es → (view_by f v es).layout u m ≡ v.layout u m
layout_on f v u m [] all = refl
layout_on f v u m (e ∷ es) all = layout_on f (view_after f v e) u m es all.1 ∙ layout_one f v u m e all.0

pub layout_same : (journal es : List Entry) (u : ℕ) → AllByRecursion (λ e. grants u e ≡ false) es → (f : FileId) (m : MirrorId) → (view_of (journal ++ es) f).layout u m ≡ (view_of journal f).layout u m
layout_same journal es u all f m = ap (λ (v : FileView). v.layout u m) (view_append f no_view journal es) ∙ layout_on f (view_of journal f) u m es all

-- ---- users

pub unnoted_on : (journal es : List Entry) (u : ℕ) → AllByRecursion (IsApartFrom u) es → IsUnnoted journal u → IsUnnoted (journal ++ es) u
unnoted_on journal es u all h = record {
  sent = flat_same (sent_in u) journal es (all_more (IsApartFrom u) (λ e. sent_in u e ≡ []) es (λ e k. k.sent) all) ∙ h.sent;
  rogue = flat_same (strayed_in u) journal es (all_more (IsApartFrom u) (λ e. strayed_in u e ≡ []) es (λ e k. k.strayed) all) ∙ h.rogue;
  causes = flat_same (cause_in u) journal es (all_more (IsApartFrom u) (λ e. cause_in u e ≡ []) es (λ e k. k.causes) all) ∙ h.causes;
  layout = λ f m. layout_same journal es u (all_more (IsApartFrom u) (λ e. grants u e ≡ false) es (λ e k. k.grants) all) f m ∙ h.layout f m;
}

pub unnoted_blank : (f : FileId) (journal : List Entry) (u : ℕ) → IsUnnoted journal u → IsBlank (view_of journal f) u
unnoted_blank f journal u h = record { sent = sent_is f u journal ∙ h.sent; rogue = rogue_is f u journal ∙ h.rogue; causes = causes_are f u journal ∙ h.causes }

pub held_on : (journal es : List Entry) (h : Holding) → AllByRecursion (λ e. grants h.uid e ≡ false) es → IsHeldSo journal h → IsHeldSo (journal ++ es) h
held_on journal es h none k = record { granted = granted_more h.uid journal es k.granted; mirrors = λ f id is. k.mirrors f id (sym (layout_same journal es h.uid none f id) ∙ is) }

pub plain_grants : (c u : ℕ) (es : List Entry) → AllByRecursion (IsPlain c) es → AllByRecursion (λ e. grants u e ≡ false) es
plain_grants c u es all = all_more (IsPlain c) (λ e. grants u e ≡ false) es (λ e p. p.grants u) all

pub some_plain : (c : ℕ) (journal es : List Entry) → AllByRecursion (IsPlain c) es → AreSome journal → AreSome (journal ++ es)
some_plain c journal es all some u = subst (λ (l : List Pending). AllByRecursion (λ w. 0 < length w.bytes) l) (sym (sent_plain c journal es all u)) (some u)

-- ---- a grant

module _ (n : ℕ) (cred : Cred) (holder : NodeId) where
  grant_apart : (writes : List Entry) → IsGrantWith n cred writes → (u : ℕ) → eqb cred.0 u ≡ false → AllByRecursion (IsApartFrom u) (entry.Granted (file_id n) cred holder ∷ writes)
  grant_apart writes NoWrite u off = (record { sent = refl; strayed = refl; causes = refl; grants = off }, tt)
  grant_apart writes (OneWrite at bytes some) u off = (record { sent = refl; strayed = refl; causes = refl; grants = off }, (record { sent = ap (λ b. cond b (the_write at bytes ∷ []) []) off; strayed = refl; causes = refl; grants = refl }, tt))

  pub unnoted_grant : (journal writes : List Entry) → IsGrantWith n cred writes → (u : ℕ) → was_granted (entry.Granted (file_id n) cred holder ∷ writes) u ≡ false → IsUnnoted journal u → IsUnnoted (journal ++ entry.Granted (file_id n) cred holder ∷ writes) u
  unnoted_grant journal writes taken u none h = unnoted_on journal (entry.Granted (file_id n) cred holder ∷ writes) u (grant_apart writes taken u (first (eqb cred.0 u) (was_granted writes u) none)) h
    where
      first : (a b : Bool) → (a || b) ≡ false → a ≡ false
      first true b e = absurd cc
      first false b e = refl

  writes_some : (writes : List Entry) → IsGrantWith n cred writes → (u : ℕ) → AllByRecursion (λ w. 0 < length w.bytes) (sent_of u (entry.Granted (file_id n) cred holder ∷ writes))
  writes_some writes NoWrite u = tt
  writes_some writes (OneWrite at bytes some) u = cond_both (eqb cred.0 u) (the_write at bytes ∷ []) [] (λ (l : List Pending). AllByRecursion (λ w. 0 < length w.bytes) (l ++ [])) (λ e. (some, tt)) (λ e. tt)

  pub some_grant : (journal writes : List Entry) → IsGrantWith n cred writes → AreSome journal → AreSome (journal ++ entry.Granted (file_id n) cred holder ∷ writes)
  some_grant journal writes taken some u =
      subst (λ (l : List Pending). AllByRecursion (λ w. 0 < length w.bytes) l) (sym (flat_append (sent_in u) journal (entry.Granted (file_id n) cred holder ∷ writes)))
      (all_append (λ w. 0 < length w.bytes) (sent_of u journal) (sent_of u (entry.Granted (file_id n) cred holder ∷ writes)) (some u) (writes_some writes taken u))

  -- those that were held before were granted under other uids
  pub held_grant : (journal writes : List Entry) → IsGrantWith n cred writes → was_granted journal cred.0 ≡ false → (h : Holding) → IsHeldSo journal h → IsHeldSo (journal ++ entry.Granted (file_id n) cred holder ∷ writes) h
  held_grant journal writes taken unused h k =
      let off : eqb cred.0 h.uid ≡ false = ne_eqb cred.0 h.uid (λ same. not_both (was_granted journal h.uid) k.granted (ap (was_granted journal) (sym same) ∙ unused)) in
      held_on journal (entry.Granted (file_id n) cred holder ∷ writes) h (all_more (IsApartFrom h.uid) (λ e. grants h.uid e ≡ false) (entry.Granted (file_id n) cred holder ∷ writes) (λ e a. a.grants) (grant_apart writes taken h.uid off)) k

  or_either : (a b : Bool) → (a || b) ≡ true → b ≡ false → a ≡ true
  or_either true b e f = refl
  or_either false true e f = absurd cc
  or_either false false e f = e

  -- the new one: its layout is the live list
  new_layout : (journal writes : List Entry) (ids : List MirrorId) → IsGrantWith n cred writes → IsUnnoted journal cred.0 → (view_of journal (file_id n)).live ≡ Some ids → (f : FileId) (id : MirrorId)
      → (view_by f (view_of journal f) (entry.Granted (file_id n) cred holder ∷ writes)).layout cred.0 id ≡ true → is_among id (Some ids) ≡ true
  new_layout journal writes ids taken blank live f id is = by_file (is_file (file_id n) f) refl (sym (behind writes taken) ∙ is)
    where
      behind : (ws : List Entry) → IsGrantWith n cred ws → (view_by f (view_after f (view_of journal f) (entry.Granted (file_id n) cred holder)) ws).layout cred.0 id ≡ (view_after f (view_of journal f) (entry.Granted (file_id n) cred holder)).layout cred.0 id
      behind ws NoWrite = refl
      behind ws (OneWrite at bytes some) = refl

      by_file : (b : Bool) → is_file (file_id n) f ≡ b → cond (is_file (file_id n) f && eqb cred.0 cred.0) (is_among id (view_of journal f).live || (view_of journal f).layout cred.0 id) ((view_of journal f).layout cred.0 id) ≡ true → is_among id (Some ids) ≡ true
      by_file true e k =
          let it : file_id n ≡ f = ap (λ (x : ℕ). file_id x) (eqb-true n f.0 e) in
          let on : (is_file (file_id n) f && eqb cred.0 cred.0) ≡ true = ap (λ b. b && eqb cred.0 cred.0) e ∙ eq-eqb cred.0 cred.0 refl in
          let now : (view_of journal f).live ≡ Some ids = ap (λ (x : FileId). (view_of journal x).live) (sym it) ∙ live in
          sym (ap (is_among id) now) ∙ or_either (is_among id (view_of journal f).live) ((view_of journal f).layout cred.0 id) (sym (ap (λ b. cond b (is_among id (view_of journal f).live || (view_of journal f).layout cred.0 id) ((view_of journal f).layout cred.0 id)) on) ∙ k) (blank.layout f id)
      by_file false e k =
          let off : (is_file (file_id n) f && eqb cred.0 cred.0) ≡ false = ap (λ b. b && eqb cred.0 cred.0) e in
          absurd (not_both ((view_of journal f).layout cred.0 id) (sym (ap (λ b. cond b (is_among id (view_of journal f).live || (view_of journal f).layout cred.0 id) ((view_of journal f).layout cred.0 id)) off) ∙ k) (blank.layout f id))

  pub held_new : (journal writes : List Entry) (ids : List MirrorId) → IsGrantWith n cred writes → IsUnnoted journal cred.0 → (view_of journal (file_id n)).live ≡ Some ids
      → AllByRecursion (IsHeldSo (journal ++ entry.Granted (file_id n) cred holder ∷ writes)) (held_by ids (entry.Granted (file_id n) cred holder ∷ writes))
  held_new journal writes ids taken blank live = by_writes writes taken
    where
      it : (ws : List Entry) → IsGrantWith n cred ws → IsHeldSo (journal ++ entry.Granted (file_id n) cred holder ∷ ws) (record { node = holder; file = file_id n; uid = cred.0; mirrors = ids })
      it ws t = record {
        granted = granted_behind cred.0 journal (entry.Granted (file_id n) cred holder ∷ ws) (ap (λ b. b || was_granted ws cred.0) (eq-eqb cred.0 cred.0 refl));
        mirrors = λ f id is. new_layout journal ws ids t blank live f id (sym (ap (λ (v : FileView). v.layout cred.0 id) (view_append f no_view journal (entry.Granted (file_id n) cred holder ∷ ws))) ∙ is);
      }

      by_writes : (ws : List Entry) → IsGrantWith n cred ws → AllByRecursion (IsHeldSo (journal ++ entry.Granted (file_id n) cred holder ∷ ws)) (held_by ids (entry.Granted (file_id n) cred holder ∷ ws))
      by_writes ws NoWrite = (it [] NoWrite, tt)
      by_writes ws (OneWrite at bytes some) = (it (entry.Sent (file_id n) cred at bytes ∷ []) (OneWrite at bytes some), tt)
