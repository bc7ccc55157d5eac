-- A write that was told: its user has ended clean, or it is covered at each mirror of the layout. So it stays.
use Rattle.std.proofs.Common.{◌≡◌, ℕ, Bool, true, false, ◌&&◌, ◌||◌, eqb, cond, List, [], ◌∷◌, ◌++◌, refl, sym, ap, subst, ◌∙◌, ◌⊎◌, inl, inr, eq-eqb}
use Rattle.std.proofs.lemmas.Bool.{and_parts, eqb-true, cond-true}
use Rattle.cluster_model.specs.declared.ids.FileId.{FileId}
use Rattle.cluster_model.specs.declared.ids.MirrorId.{MirrorId}
use Rattle.cluster_model.specs.declared.phase.EndCause.{EndCause}
use Rattle.cluster_model.specs.declared.entry.Entry.{Entry}
use Rattle.cluster_model.specs.declared.entry.Entry.TheVariants.{Granted, Sent, Told, Ended}
use Rattle.cluster_model.specs.Content.{Pending}
use Rattle.cluster_laws.specs.FenceLaw.{is_file, is_among}
use Rattle.cluster_laws.specs.Agreement.{told_in, told_of}
use Rattle.cluster_laws.specs.Holders.{IsIn, the_write}
use Rattle.sound_journals.specs.Views.{FileView, view_after, view_by}
use Rattle.sound_journals.specs.Sound.{IsSoundEntry, AreSoundEntries, HasCleanEnd, IsCoveredByAll, EndsNow, IsToldSoundly, AfterEnd, AtAll, AtEnd, AreToldEntries}
use Rattle.cluster_laws.proofs.Putting.{in_left, in_either}
use Rattle.sound_journals.proofs.Standing.{clean_end_on, covered_on}

abbrev pub IsToldAt : FileView → ℕ → Pending → Type 0
IsToldAt v uid w = HasCleanEnd v uid ⊎ IsCoveredByAll v uid w.at w.bytes

sent_grows : (f : FileId) (v : FileView) (e : Entry) (uid : ℕ) (w : Pending) → IsIn w (v.sent uid) → IsIn w ((view_after f v e).sent uid)
sent_grows f v (Sent file cred at bytes) uid w is = by_test (eqb cred.0 uid)
  where
    by_test : (b : Bool) → IsIn w (cond b (v.sent uid ++ the_write at bytes ∷ []) (v.sent uid))
    by_test true = in_left w (v.sent uid) (the_write at bytes ∷ []) is
    by_test false = is
sent_grows f v _ uid w is = is

-- a user with a write is not granted any more
layout_back : (f : FileId) (v : FileView) (e : Entry) (uid : ℕ) (w : Pending) (m : MirrorId) → IsSoundEntry f v e → IsIn w (v.sent uid) → (view_after f v e).layout uid m ≡ true → v.layout uid m ≡ true
layout_back f v (Granted file cred holder) uid w m s is there = by_test (is_file file f && eqb cred.0 uid) refl there
  where
    wrong : (is_file file f && eqb cred.0 uid) ≡ true → ⊥
    wrong both =
        let parts = and_parts (is_file file f) (eqb cred.0 uid) both in
        let none : v.sent uid ≡ [] = sym (ap v.sent (eqb-true cred.0 uid parts.1)) ∙ (s parts.0).sent in
        subst (IsIn w) none is

    by_test : (b : Bool) → (is_file file f && eqb cred.0 uid) ≡ b → cond b (is_among m v.live || v.layout uid m) (v.layout uid m) ≡ true → v.layout uid m ≡ true
    by_test true both there = absurd (wrong both)
    by_test false both there = there
layout_back f v _ uid w m s is there = there

told_on : (f : FileId) (v : FileView) (e : Entry) (uid : ℕ) (w : Pending) → IsSoundEntry f v e → IsToldAt v uid w → IsToldAt (view_after f v e) uid w
told_on f v e uid w s (inl h) = inl (clean_end_on f v e uid s h)
told_on f v e uid w s (inr c) = inr (record { some = c.some; sent = sent_grows f v e uid w c.sent; covered = λ m there. covered_on f v e uid m w (c.covered m (layout_back f v e uid w m s c.sent there)) })

told_run : (f : FileId) (v : FileView) (entries : List Entry) (uid : ℕ) (w : Pending) → AreSoundEntries f v entries → IsToldAt v uid w → IsToldAt (view_by f v entries) uid w
told_run f v [] uid w s h = h
told_run f v (e ∷ entries) uid w s h = told_run f (view_after f v e) entries uid w s.1 (told_on f v e uid w s.0 h)

-- the end that comes next
ends_next : (f : FileId) (v : FileView) (entries : List Entry) (uid : ℕ) (w : Pending) → AreSoundEntries f v entries → EndsNow uid entries → IsToldAt (view_by f v entries) uid w
ends_next f v entries uid w s n = subst (λ (es : List Entry). IsToldAt (view_by f v es) uid w) (sym n.are) (told_run f (view_after f v (Ended n.file n.cred n.cause)) n.more uid w sound.1 (inl ended))
  where
    sound : AreSoundEntries f v (Ended n.file n.cred n.cause ∷ n.more)
    sound = subst (AreSoundEntries f v) n.are s

    ended : HasCleanEnd (view_after f v (Ended n.file n.cred n.cause)) uid
    ended = record {
      cause = n.cause;
      more = [];
      causes = cond-true (eqb n.cred.0 uid) (v.causes uid ++ n.cause ∷ []) (v.causes uid) (eq-eqb n.cred.0 uid n.uid_is) ∙ ap (λ (cs : List EndCause). cs ++ n.cause ∷ []) (sym (ap v.causes n.uid_is) ∙ sound.0.0);
      clean = n.clean;
    }

told_now : (f : FileId) (v : FileView) (e : Entry) (entries : List Entry) (uid : ℕ) (w : Pending) → AreSoundEntries f v (e ∷ entries) → AreToldEntries f v (e ∷ entries) → IsIn w (told_in uid e) → IsToldAt (view_by f v (e ∷ entries)) uid w
told_now f v (Told file cred at bytes) entries uid w s t is = by_test (eqb cred.0 uid) refl is
  where
    so : IsToldSoundly v uid at bytes entries → IsToldAt (view_by f v (Told file cred at bytes ∷ entries)) uid (the_write at bytes)
    so (AfterEnd h) = told_run f v (Told file cred at bytes ∷ entries) uid (the_write at bytes) s (inl h)
    so (AtAll c) = told_run f v (Told file cred at bytes ∷ entries) uid (the_write at bytes) s (inr c)
    so (AtEnd n) = ends_next f (view_after f v (Told file cred at bytes)) entries uid (the_write at bytes) s.1 n

    one : eqb cred.0 uid ≡ true → (the_write at bytes ≡ w) ⊎ IsIn w [] → IsToldAt (view_by f v (Told file cred at bytes ∷ entries)) uid w
    one same (inl is_w) = subst (λ (x : Pending). IsToldAt (view_by f v (Told file cred at bytes ∷ entries)) uid x) is_w (so (subst (λ (u : ℕ). IsToldSoundly v u at bytes entries) (eqb-true cred.0 uid same) t.0))
    one same (inr wrong) = absurd wrong

    by_test : (b : Bool) → eqb cred.0 uid ≡ b → IsIn w (cond b (the_write at bytes ∷ []) []) → IsToldAt (view_by f v (Told file cred at bytes ∷ entries)) uid w
    by_test true same there = one same there
    by_test false same there = absurd there
told_now f v _ entries uid w s t is = absurd is

pub told_all : (f : FileId) (v : FileView) (entries : List Entry) (uid : ℕ) (w : Pending) → AreSoundEntries f v entries → AreToldEntries f v entries → IsIn w (told_of uid entries) → IsToldAt (view_by f v entries) uid w
told_all f v [] uid w s t is = absurd is
told_all f v (e ∷ entries) uid w s t is =
    elim (in_either w (told_in uid e) (told_of uid entries) is) [
      | inl now ↦ told_now f v e entries uid w s t now
      | inr later ↦ told_all f (view_after f v e) entries uid w s.1 t.1 later
    ]
