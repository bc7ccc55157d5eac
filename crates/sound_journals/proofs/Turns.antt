-- One mirror in the view of a file, entry by entry.
use Rattle.std.proofs.Common.{◌≡◌, ◌≢◌, ℕ, ◌<◌, Bool, true, false, ◌&&◌, eqb, cond, List, [], ◌∷◌, ◌++◌, Some, refl, sym, ap, subst, ◌∙◌, arith, ◌⊎◌, inl, inr}
use Rattle.std.specs.List.{AllByRecursion}
use Rattle.std.proofs.lemmas.Bool.{and_parts, eqb-true, eqb-false}
use Rattle.cluster_model.specs.declared.ids.FileId.{FileId}
use Rattle.cluster_model.specs.declared.ids.MirrorId.{MirrorId}
use Rattle.cluster_model.specs.declared.phase.EndCause.{EndCause}
use Rattle.cluster_model.specs.declared.entry.Entry.{Entry}
use Rattle.cluster_model.specs.declared.entry.Entry.TheVariants.{Sent, Rogue, Applied, Committed, Owner, Restarted}
use Rattle.cluster_model.specs.Content.{Pending, joined, settled, survived, pieces_of}
use Rattle.cluster_model.specs.Journal.{Copy, is_mirror, copy_after}
use Rattle.cluster_model.specs.Phases.{is_clean}
use Rattle.cluster_model.specs.Laws.{AreDisjoint}
use Rattle.cluster_laws.specs.Agreement.{ArePairwiseDisjoint, Has}
use Rattle.cluster_laws.specs.Holders.{IsIn, the_write}
use Rattle.cluster_laws.specs.Keeping.{MirrorTrace}
use Rattle.sound_journals.specs.Marks.{UserMarks, marks_after}
use Rattle.sound_journals.specs.Views.{FileView, sent_after, rogue_after}
use Rattle.sound_journals.specs.Sound.{IsSentSoundly, AllLive, IsAppliedSoundly, OfPeriod, NoChange, IsSoundEntry}
use Rattle.cluster_laws.proofs.Lists.{all_any}
use Rattle.sound_journals.proofs.Holding.{IsHeld, held_applies, held_same, held_commits, held_loses, held_sends, held_strays}
use Rattle.sound_journals.proofs.Having.{has_joins, has_commits, has_loses}

-- ---- small facts

pub mirror_is : (a b : MirrorId) → is_mirror a b ≡ true → a ≡ b
mirror_is a b h =
    let parts = and_parts (eqb a.server b.server) (eqb a.fileid b.fileid) h in
    let server : a.server ≡ b.server = eqb-true a.server b.server parts.0 in
    let fileid : a.fileid ≡ b.fileid = eqb-true a.fileid b.fileid parts.1 in
    λ i. record { server = server i; fileid = fileid i }

pub one_user : (periods : List ℕ) (a b : ℕ) → periods ≡ a ∷ [] → periods ≡ b ∷ [] → a ≡ b
one_user periods a b p q = cc

pub no_user : (periods : List ℕ) (a : ℕ) → periods ≡ [] → periods ≡ a ∷ [] → ⊥
no_user periods a p q = absurd cc

pub apart_push : (ws : List Pending) (w : Pending) → ArePairwiseDisjoint ws → ((v : Pending) → IsIn v ws → AreDisjoint v.at v.bytes w.at w.bytes) → ArePairwiseDisjoint (ws ++ w ∷ [])
apart_push [] w h new = (tt, tt)
apart_push (v ∷ ws) w h new = (all_push ws h.0, apart_push ws w h.1 (λ x is. new x (inr is)))
  where
    all_push : (xs : List Pending) → AllByRecursion (λ x. AreDisjoint v.at v.bytes x.at x.bytes) xs → AllByRecursion (λ x. AreDisjoint v.at v.bytes x.at x.bytes) (xs ++ w ∷ [])
    all_push [] h = (new v (inl refl), tt)
    all_push (x ∷ xs) h = (h.0, all_push xs h.1)

pub not_clean_end : (causes : List EndCause) (cause : EndCause) (more : List EndCause) → causes ≡ cause ∷ more → is_clean cause ≡ true → AllByRecursion (λ (c : EndCause). is_clean c ≡ false) causes → ⊥
not_clean_end causes cause more are clean all = let wrong = (subst (AllByRecursion (λ (c : EndCause). is_clean c ≡ false)) are all).0 in absurd cc

-- ---- what a live mirror meets

abbrev pub IsSoundAt : FileView → MirrorId → Entry → Type 0
IsSoundAt v m (Applied mirror cred at bytes) = is_mirror mirror m ≡ true → IsAppliedSoundly v m cred.0 at bytes
IsSoundAt v m _ = Unit {0}

pub sound_all : (f : FileId) (v : FileView) (e : Entry) → IsSoundEntry f v e → (live : List MirrorId) → v.live ≡ Some live → AllByRecursion (λ m. IsSoundAt v m e) live
sound_all f v (Applied mirror cred at bytes) s live are = subst (λ l. AllLive l (λ m. is_mirror mirror m ≡ true → IsAppliedSoundly v m cred.0 at bytes)) are s.1
sound_all f v _ s live are = all_any (λ m. Unit {0}) live (λ m. tt)

-- no write of the period
abbrev pub IsApartAt : FileView → MirrorId → Entry → Type 0
IsApartAt v m (Applied mirror cred at bytes) = is_mirror mirror m ≡ true → v.periods ≡ cred.0 ∷ [] → ⊥
IsApartAt v m _ = Unit {0}

pub apart_free : (v : FileView) (m : MirrorId) (e : Entry) → v.periods ≡ [] → IsApartAt v m e
apart_free v m (Applied mirror cred at bytes) none = λ is p. no_user v.periods cred.0 none p
apart_free v m _ none = tt

-- a mirror that the user cannot reach any more
pub apart_past : (f : FileId) (v : FileView) (m : MirrorId) (e : Entry) (uid : ℕ) → v.periods ≡ uid ∷ [] → uid < (v.copy m).owner → IsSoundEntry f v e → IsApartAt v m e
apart_past f v m (Applied mirror cred at bytes) uid period past s = λ is p.
    let same : uid ≡ cred.0 = one_user v.periods uid cred.0 period p in
    let owner : cred.0 ≡ (v.copy m).owner = s.0 ∙ ap (λ (k : MirrorId). (v.copy k).owner) (mirror_is mirror m is) in
    absurd (omega (arith, same, owner, past))
apart_past f v m _ uid period past s = tt

pub past_on : (f : FileId) (v : FileView) (e : Entry) (m : MirrorId) (uid : ℕ) → IsSoundEntry f v e → uid < (v.copy m).owner → uid < (copy_after m (v.copy m) e).owner
past_on f v (Applied mirror cred at bytes) m uid s past = by_test (is_mirror mirror m)
  where
    by_test : (b : Bool) → uid < (cond b (record { content = joined (v.copy m).content at bytes; owner = (v.copy m).owner }) (v.copy m)).owner
    by_test true = past
    by_test false = past
past_on f v (Committed mirror) m uid s past = by_test (is_mirror mirror m)
  where
    by_test : (b : Bool) → uid < (cond b (record { content = settled (v.copy m).content; owner = (v.copy m).owner }) (v.copy m)).owner
    by_test true = past
    by_test false = past
past_on f v (Restarted server pieces) m uid s past = by_test (eqb server m.server)
  where
    by_test : (b : Bool) → uid < (cond b (record { content = survived (v.copy m).content (pieces_of m.fileid pieces); owner = (v.copy m).owner }) (v.copy m)).owner
    by_test true = past
    by_test false = past
past_on f v (Owner mirror cred) m uid s past = by_test (is_mirror mirror m) refl
  where
    by_test : (b : Bool) → is_mirror mirror m ≡ b → uid < (cond b (record { content = (v.copy m).content; owner = cred.0 }) (v.copy m)).owner
    by_test true is = let owner : (v.copy mirror).owner ≡ (v.copy m).owner = ap (λ (k : MirrorId). (v.copy k).owner) (mirror_is mirror m is) in omega (arith, owner, past, s)
    by_test false is = past
past_on f v _ m uid s past = past

-- ---- a mirror that has some bytes

pub has_on : (v : FileView) (e : Entry) (m : MirrorId) (base : List ℕ) → IsSoundAt v m e → IsApartAt v m e → Has base (v.copy m).content → Has base (copy_after m (v.copy m) e).content
has_on v (Applied mirror cred at bytes) m base s apart h = by_test (is_mirror mirror m) refl
  where
    joins : IsAppliedSoundly v m cred.0 at bytes → (v.periods ≡ cred.0 ∷ [] → ⊥) → Has base (joined (v.copy m).content at bytes)
    joins (OfPeriod p new) other = absurd (other p)
    joins (NoChange other same) _ = has_joins base (v.copy m).content h at bytes same

    by_test : (b : Bool) → is_mirror mirror m ≡ b → Has base (cond b (record { content = joined (v.copy m).content at bytes; owner = (v.copy m).owner }) (v.copy m)).content
    by_test true is = joins (s is) (apart is)
    by_test false is = h
has_on v (Committed mirror) m base s apart h = by_test (is_mirror mirror m)
  where
    by_test : (b : Bool) → Has base (cond b (record { content = settled (v.copy m).content; owner = (v.copy m).owner }) (v.copy m)).content
    by_test true = has_commits base (v.copy m).content h
    by_test false = h
has_on v (Restarted server pieces) m base s apart h = by_test (eqb server m.server)
  where
    by_test : (b : Bool) → Has base (cond b (record { content = survived (v.copy m).content (pieces_of m.fileid pieces); owner = (v.copy m).owner }) (v.copy m)).content
    by_test true = has_loses base (v.copy m).content h (pieces_of m.fileid pieces)
    by_test false = h
has_on v (Owner mirror cred) m base s apart h = by_test (is_mirror mirror m)
  where
    by_test : (b : Bool) → Has base (cond b (record { content = (v.copy m).content; owner = cred.0 }) (v.copy m)).content
    by_test true = h
    by_test false = h
has_on v _ m base s apart h = h

-- ---- a mirror of the period

abbrev pub trace_at : FileView → ℕ → MirrorId → MirrorTrace
trace_at v uid m = record { content = (v.copy m).content; here = (v.marks uid m).here; covered = (v.marks uid m).covered }

abbrev trace_by : Copy → UserMarks → MirrorTrace
trace_by c k = record { content = c.content; here = k.here; covered = k.covered }

pub held_on : (f : FileId) (v : FileView) (e : Entry) (uid : ℕ) (base : List ℕ) (m : MirrorId) → v.periods ≡ uid ∷ [] → IsSoundEntry f v e → IsSoundAt v m e → IsHeld base (v.sent uid) (v.rogue uid) (trace_at v uid m)
    → IsHeld base (sent_after uid (v.sent uid) e) (rogue_after uid (v.rogue uid) e) (trace_by (copy_after m (v.copy m) e) (marks_after uid m (v.marks uid m) e))
held_on f v (Applied mirror cred at bytes) uid base m period s sound h = by_tests (is_mirror mirror m) (eqb cred.0 uid) refl refl
  where
    ours : cred.0 ≡ uid → IsAppliedSoundly v m cred.0 at bytes → IsHeld base (v.sent uid) (v.rogue uid) (record { content = joined (v.copy m).content at bytes; here = the_write at bytes ∷ (v.marks uid m).here; covered = (v.marks uid m).covered })
    ours same (OfPeriod p new) = held_applies base (v.sent uid) (v.rogue uid) (trace_at v uid m) h at bytes (subst (λ (u : ℕ). IsIn (the_write at bytes) (v.sent u) ⊎ IsIn (the_write at bytes) (v.rogue u)) same new)
    ours same (NoChange other no_change) = absurd (other (period ∙ ap (λ (u : ℕ). u ∷ []) (sym same)))

    others : cred.0 ≢ uid → IsAppliedSoundly v m cred.0 at bytes → IsHeld base (v.sent uid) (v.rogue uid) (record { content = joined (v.copy m).content at bytes; here = (v.marks uid m).here; covered = (v.marks uid m).covered })
    others differ (OfPeriod p new) = absurd (differ (one_user v.periods cred.0 uid p period))
    others differ (NoChange other no_change) = held_same base (v.sent uid) (v.rogue uid) (trace_at v uid m) h at bytes no_change

    by_tests : (b c : Bool) → is_mirror mirror m ≡ b → eqb cred.0 uid ≡ c
        → IsHeld base (v.sent uid) (v.rogue uid) (trace_by (cond b (record { content = joined (v.copy m).content at bytes; owner = (v.copy m).owner }) (v.copy m)) (cond (b && c) (record { here = the_write at bytes ∷ (v.marks uid m).here; covered = (v.marks uid m).covered }) (v.marks uid m)))
    by_tests true true is same = ours (eqb-true cred.0 uid same) (sound is)
    by_tests true false is differ = others (eqb-false cred.0 uid differ) (sound is)
    by_tests false c is same = h
held_on f v (Committed mirror) uid base m period s sound h = by_test (is_mirror mirror m)
  where
    by_test : (b : Bool) → IsHeld base (v.sent uid) (v.rogue uid) (trace_by (cond b (record { content = settled (v.copy m).content; owner = (v.copy m).owner }) (v.copy m)) (cond b (record { here = (v.marks uid m).here; covered = (v.marks uid m).here ++ (v.marks uid m).covered }) (v.marks uid m)))
    by_test true = held_commits base (v.sent uid) (v.rogue uid) (trace_at v uid m) h
    by_test false = h
held_on f v (Restarted server pieces) uid base m period s sound h = by_test (eqb server m.server)
  where
    by_test : (b : Bool) → IsHeld base (v.sent uid) (v.rogue uid) (trace_by (cond b (record { content = survived (v.copy m).content (pieces_of m.fileid pieces); owner = (v.copy m).owner }) (v.copy m)) (cond b (record { here = []; covered = (v.marks uid m).covered }) (v.marks uid m)))
    by_test true = held_loses base (v.sent uid) (v.rogue uid) (trace_at v uid m) h (pieces_of m.fileid pieces)
    by_test false = h
held_on f v (Owner mirror cred) uid base m period s sound h = by_test (is_mirror mirror m)
  where
    by_test : (b : Bool) → IsHeld base (v.sent uid) (v.rogue uid) (trace_by (cond b (record { content = (v.copy m).content; owner = cred.0 }) (v.copy m)) (v.marks uid m))
    by_test true = h
    by_test false = h
held_on f v (Sent file cred at bytes) uid base m period s sound h = by_test (eqb cred.0 uid) refl
  where
    sends : IsSentSoundly v uid at bytes → IsHeld base (v.sent uid ++ the_write at bytes ∷ []) (v.rogue uid) (trace_at v uid m)
    sends k = held_sends base (v.sent uid) (v.rogue uid) (trace_at v uid m) h (the_write at bytes) k.none_strayed (apart_push (v.sent uid) (the_write at bytes) h.apart k.apart)

    by_test : (b : Bool) → eqb cred.0 uid ≡ b → IsHeld base (cond b (v.sent uid ++ the_write at bytes ∷ []) (v.sent uid)) (v.rogue uid) (trace_at v uid m)
    by_test true same = sends (subst (λ (u : ℕ). IsSentSoundly v u at bytes) (eqb-true cred.0 uid same) s)
    by_test false same = h
held_on f v (Rogue file cred at bytes) uid base m period s sound h = by_test (eqb cred.0 uid)
  where
    by_test : (b : Bool) → IsHeld base (v.sent uid) (cond b (v.rogue uid ++ the_write at bytes ∷ []) (v.rogue uid)) (trace_at v uid m)
    by_test true = held_strays base (v.sent uid) (v.rogue uid) (trace_at v uid m) h (the_write at bytes)
    by_test false = h
held_on f v _ uid base m period s sound h = h
