-- Two journals that tell the same; and a journal without the entries that no run makes tells the same as the whole.
use Rattle.std.proofs.Common.{◌≡◌, ℕ, Bool, false, cond, List, [], ◌∷◌, ◌++◌, Option, None, Some, refl, sym, ap, subst, ◌∙◌}
use Rattle.std.specs.Prelude.{◌||◌}
use Rattle.std.specs.List.{flat_map, list_any}
use Rattle.std.proofs.lemmas.Bool.{cond_both}
use Rattle.cluster_model.specs.declared.ids.FileId.{FileId}
use Rattle.cluster_model.specs.declared.ids.MirrorId.{MirrorId}
use Rattle.cluster_model.specs.declared.entry.Entry.{Entry}
use Rattle.cluster_model.specs.declared.entry.Entry.TheVariants as entry
use Rattle.cluster_model.specs.Journal.{Copy, no_copy, copy_after, content_of}
use Rattle.cluster_laws.specs.FenceLaw.{is_file, live_in}
use Rattle.cluster_laws.specs.Agreement.{sent_in, strayed_in, told_in, sent_of, rogue_of, told_of, cause_in, causes_of, period_in, periods_of, is_free_entry, has_free}
use Rattle.cluster_laws.specs.Periods.{owed_after, owed_by, owed_in, first_owner, user_when_free, user_after, user_by, user_in, grants, was_granted}
use Rattle.cluster_laws.specs.Telling.{is_telling, telling}
use Rattle.cluster_laws.proofs.Journals.{copy_append}
use Rattle.cluster_laws.proofs.Tellings.{live_told, copy_told, quiet_copy}

pub record TellSame (a b : List Entry) : Type 0 where
  pub live : (f : FileId) → live_in a f ≡ live_in b f
  pub content : (m : MirrorId) → content_of a m ≡ content_of b m
  pub owed : (f : FileId) → owed_in a f ≡ owed_in b f
  pub user : (f : FileId) → user_in a f ≡ user_in b f
  pub granted : (uid : ℕ) → was_granted a uid ≡ was_granted b uid
  pub sent : (uid : ℕ) → sent_of uid a ≡ sent_of uid b
  pub rogue : (uid : ℕ) → rogue_of uid a ≡ rogue_of uid b
  pub told : (uid : ℕ) → told_of uid a ≡ told_of uid b
  pub causes : (uid : ℕ) → causes_of uid a ≡ causes_of uid b
  pub periods : (f : FileId) → periods_of f a ≡ periods_of f b
  pub free : (f : FileId) → has_free f a ≡ has_free f b

pub turned : (a b : List Entry) → TellSame a b → TellSame b a
turned a b s = record {
  live = λ f. sym (s.live f);
  content = λ m. sym (s.content m);
  owed = λ f. sym (s.owed f);
  user = λ f. sym (s.user f);
  granted = λ uid. sym (s.granted uid);
  sent = λ uid. sym (s.sent uid);
  rogue = λ uid. sym (s.rogue uid);
  told = λ uid. sym (s.told uid);
  causes = λ uid. sym (s.causes uid);
  periods = λ f. sym (s.periods f);
  free = λ f. sym (s.free f);
}

-- ---- folds over what is left

flat_told : {A : Type 0} (g : Entry → List A) → ((e : Entry) → is_telling e ≡ false → g e ≡ []) → (journal : List Entry) → flat_map g (telling journal) ≡ flat_map g journal
flat_told g none [] = refl
flat_told g none (e ∷ journal) =
    cond_both (is_telling e) (e ∷ telling journal) (telling journal) (λ (kept : List Entry). flat_map g kept ≡ g e ++ flat_map g journal)
    (λ tells. ap (λ rest. g e ++ rest) (flat_told g none journal)) (λ quiet. flat_told g none journal ∙ ap (λ front. front ++ flat_map g journal) (sym (none e quiet)))

any_told : (g : Entry → Bool) → ((e : Entry) → is_telling e ≡ false → g e ≡ false) → (journal : List Entry) → list_any g (telling journal) ≡ list_any g journal
any_told g none [] = refl
any_told g none (e ∷ journal) =
    cond_both (is_telling e) (e ∷ telling journal) (telling journal) (λ (kept : List Entry). list_any g kept ≡ (g e || list_any g journal))
    (λ tells. ap (λ (rest : Bool). g e || rest) (any_told g none journal)) (λ quiet. any_told g none journal ∙ ap (λ (first : Bool). first || list_any g journal) (sym (none e quiet)))

no_sent : (uid : ℕ) (e : Entry) → is_telling e ≡ false → sent_in uid e ≡ []
no_sent uid (entry.Sent file cred at bytes) quiet = absurd cc
no_sent uid _ quiet = refl

no_rogue : (uid : ℕ) (e : Entry) → is_telling e ≡ false → strayed_in uid e ≡ []
no_rogue uid (entry.Rogue file cred at bytes) quiet = absurd cc
no_rogue uid _ quiet = refl

no_told : (uid : ℕ) (e : Entry) → is_telling e ≡ false → told_in uid e ≡ []
no_told uid (entry.Told file cred at bytes) quiet = absurd cc
no_told uid _ quiet = refl

no_cause : (uid : ℕ) (e : Entry) → is_telling e ≡ false → cause_in uid e ≡ []
no_cause uid (entry.Ended file cred cause) quiet = absurd cc
no_cause uid _ quiet = refl

no_period : (f : FileId) (e : Entry) → is_telling e ≡ false → period_in f e ≡ []
no_period f (entry.Granted file cred holder) quiet = absurd cc
no_period f _ quiet = refl

no_free : (f : FileId) (e : Entry) → is_telling e ≡ false → is_free_entry f e ≡ false
no_free f (entry.Free file live) quiet = absurd cc
no_free f _ quiet = refl

no_grant : (uid : ℕ) (e : Entry) → is_telling e ≡ false → grants uid e ≡ false
no_grant uid (entry.Granted file cred holder) quiet = absurd cc
no_grant uid _ quiet = refl

quiet_owed : (f : FileId) (e : Entry) → is_telling e ≡ false → (owed : Option ℕ) → owed_after f owed e ≡ owed
quiet_owed f (entry.Ended file cred cause) quiet owed = absurd cc
quiet_owed f (entry.Fenced file old new live) quiet owed = absurd cc
quiet_owed f _ quiet owed = refl

owed_told : (f : FileId) (journal : List Entry) (owed : Option ℕ) → owed_by f owed (telling journal) ≡ owed_by f owed journal
owed_told f [] owed = refl
owed_told f (e ∷ journal) owed =
    cond_both (is_telling e) (e ∷ telling journal) (telling journal) (λ (kept : List Entry). owed_by f owed kept ≡ owed_by f (owed_after f owed e) journal)
    (λ tells. owed_told f journal (owed_after f owed e)) (λ quiet. owed_told f journal owed ∙ ap (λ y. owed_by f y journal) (sym (quiet_owed f e quiet owed)))

-- the users of a file's periods, behind journals that say the same of each mirror
quiet_user : (f : FileId) (before : List Entry) (e : Entry) → is_telling e ≡ false → (uid : Option ℕ) → user_after f before uid e ≡ uid
quiet_user f before (entry.Free file live) quiet uid = absurd cc
quiet_user f before (entry.Fenced file old new live) quiet uid = absurd cc
quiet_user f before _ quiet uid = refl

same_owner : (a b : List Entry) → ((m : MirrorId) → content_of a m ≡ content_of b m) → (live : List MirrorId) → first_owner a live ≡ first_owner b live
same_owner a b same [] = refl
same_owner a b same (m ∷ live) = ap (λ (c : Copy). Some c.owner) (same m)

same_when_free : (a b : List Entry) → ((m : MirrorId) → content_of a m ≡ content_of b m) → (live : List MirrorId) (uid : Option ℕ) → user_when_free a live uid ≡ user_when_free b live uid
same_when_free a b same live None = same_owner a b same live
same_when_free a b same live (Some uid) = refl

same_after : (f : FileId) (a b : List Entry) → ((m : MirrorId) → content_of a m ≡ content_of b m) → (uid : Option ℕ) (e : Entry) → user_after f a uid e ≡ user_after f b uid e
same_after f a b same uid (entry.Free file live) = ap (λ (x : Option ℕ). cond (is_file file f) x uid) (same_when_free a b same live uid)
same_after f a b same uid _ = refl

with_one : (a b : List Entry) (e : Entry) → ((m : MirrorId) → content_of a m ≡ content_of b m) → (m : MirrorId) → content_of (a ++ e ∷ []) m ≡ content_of (b ++ e ∷ []) m
with_one a b e same m = copy_append m no_copy a (e ∷ []) ∙ ap (λ (c : Copy). copy_after m c e) (same m) ∙ sym (copy_append m no_copy b (e ∷ []))

with_quiet : (a b : List Entry) (e : Entry) → is_telling e ≡ false → ((m : MirrorId) → content_of a m ≡ content_of b m) → (m : MirrorId) → content_of a m ≡ content_of (b ++ e ∷ []) m
with_quiet a b e quiet same m = same m ∙ sym (copy_append m no_copy b (e ∷ []) ∙ quiet_copy m e quiet (content_of b m))

user_told : (f : FileId) (journal a b : List Entry) → ((m : MirrorId) → content_of a m ≡ content_of b m) → (uid : Option ℕ) → user_by f a uid (telling journal) ≡ user_by f b uid journal
user_told f [] a b same uid = refl
user_told f (e ∷ journal) a b same uid =
    cond_both (is_telling e) (e ∷ telling journal) (telling journal) (λ (kept : List Entry). user_by f a uid kept ≡ user_by f (b ++ e ∷ []) (user_after f b uid e) journal)
    (λ tells. user_told f journal (a ++ e ∷ []) (b ++ e ∷ []) (with_one a b e same) (user_after f a uid e) ∙ ap (λ y. user_by f (b ++ e ∷ []) y journal) (same_after f a b same uid e))
    (λ quiet. user_told f journal a (b ++ e ∷ []) (with_quiet a b e quiet same) uid ∙ ap (λ y. user_by f (b ++ e ∷ []) y journal) (sym (quiet_user f b e quiet uid)))

pub same_told : (journal : List Entry) → TellSame (telling journal) journal
same_told journal = record {
  live = λ f. live_told f journal None;
  content = λ m. copy_told m journal no_copy;
  owed = λ f. owed_told f journal None;
  user = λ f. user_told f journal [] [] (λ m. refl) None;
  granted = λ uid. any_told (grants uid) (no_grant uid) journal;
  sent = λ uid. flat_told (sent_in uid) (no_sent uid) journal;
  rogue = λ uid. flat_told (strayed_in uid) (no_rogue uid) journal;
  told = λ uid. flat_told (told_in uid) (no_told uid) journal;
  causes = λ uid. flat_told (cause_in uid) (no_cause uid) journal;
  periods = λ f. flat_told (period_in f) (no_period f) journal;
  free = λ f. any_told (is_free_entry f) (no_free f) journal;
}

-- of a journal whose left entries are these
pub same_as : (journal left : List Entry) → telling journal ≡ left → TellSame left journal
same_as journal left is = subst (λ (j : List Entry). TellSame j journal) is (same_told journal)
