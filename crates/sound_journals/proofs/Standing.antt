-- How a file stands in its view: not made yet, free, or in a period that is open, ended clean or ended dirty.
use Rattle.std.proofs.Common.{◌≡◌, ℕ, ◌<◌, Bool, true, false, ◌&&◌, eqb, cond, List, [], ◌∷◌, ◌++◌, Some, None, refl, sym, ap, subst, ◌∙◌, ◌⊎◌, inl, inr}
use Rattle.std.specs.List.{AllByRecursion}
use Rattle.std.proofs.lemmas.Bool.{eqb-true}
use Rattle.cluster_model.specs.declared.ids.FileId.{FileId}
use Rattle.cluster_model.specs.declared.ids.MirrorId.{MirrorId}
use Rattle.cluster_model.specs.declared.phase.EndCause.{EndCause}
use Rattle.cluster_model.specs.declared.entry.Entry.{Entry}
use Rattle.cluster_model.specs.declared.entry.Entry.TheVariants.{Sent, Rogue, Ended, Applied, Committed, Restarted}
use Rattle.cluster_model.specs.Content.{Pending}
use Rattle.cluster_model.specs.Journal.{is_mirror}
use Rattle.cluster_model.specs.Phases.{is_clean}
use Rattle.cluster_laws.specs.Agreement.{Has}
use Rattle.cluster_laws.specs.Holders.{IsIn, the_write}
use Rattle.sound_journals.specs.Views.{FileView, periods_after, view_after}
use Rattle.sound_journals.specs.Sound.{IsFineList, EndsPeriod, HasCleanEnd, IsNotEndedClean, IsSoundEntry}
use Rattle.cluster_laws.proofs.Lists.{all_more}
use Rattle.sound_journals.proofs.Lists.{all_both}
use Rattle.cluster_laws.proofs.Putting.{in_right}
use Rattle.sound_journals.proofs.Holding.{IsHeld}
use Rattle.sound_journals.proofs.Turns.{one_user, not_clean_end, IsSoundAt, sound_all, apart_free, apart_past, past_on, has_on, trace_at, held_on}
use Rattle.sound_journals.proofs.Sources.{IsDirtyFrom, layout_on, dirty_on}

-- a mirror of the layout
pub record IsOriginal (v : FileView) (uid : ℕ) (base : List ℕ) (m : MirrorId) : Type 0 where
  pub of_layout : v.layout uid m ≡ true
  pub held : IsHeld base (v.sent uid) (v.rogue uid) (trace_at v uid m)

-- one at which all that was sent is covered
pub record IsCleanOne (v : FileView) (uid : ℕ) (base : List ℕ) (m : MirrorId) : Type 0 where
  pub original : IsOriginal v uid base m
  pub all_covered : AllByRecursion (λ w. IsIn w (v.marks uid m).covered) (v.sent uid)

-- one that came in behind a dirty end
pub record IsCopied (v : FileView) (uid : ℕ) (base : List ℕ) (m : MirrorId) : Type 0 where
  pub past : uid < (v.copy m).owner
  pub bytes : List ℕ
  pub has : Has bytes (v.copy m).content
  pub dirty : IsDirtyFrom v uid base bytes

abbrev pub IsDirtyOne : FileView → ℕ → List ℕ → MirrorId → Type 0
IsDirtyOne v uid base m = IsOriginal v uid base m ⊎ IsCopied v uid base m

pub data Ending (v : FileView) (uid : ℕ) (base : List ℕ) (live : List MirrorId) : Type 0 where
  Open : v.causes uid ≡ [] → AllByRecursion (IsOriginal v uid base) live → Ending v uid base live
  EndedClean : EndsPeriod v uid true → v.rogue uid ≡ [] → AllByRecursion (IsCleanOne v uid base) live → Ending v uid base live
  EndedDirty : EndsPeriod v uid false → AllByRecursion (IsDirtyOne v uid base) live → Ending v uid base live

pub data Stand (v : FileView) : Type 0 where
  NotYet : v.base ≡ None → v.periods ≡ [] → v.live ≡ None → Stand v
  Agreed : (base : List ℕ) (live : List MirrorId) → v.base ≡ Some base → v.periods ≡ [] → v.live ≡ Some live → IsFineList live → AllByRecursion (λ m. Has base (v.copy m).content) live → Stand v
  InPeriod : (base : List ℕ) (uid : ℕ) (live : List MirrorId) → v.base ≡ Some base → v.periods ≡ uid ∷ [] → v.live ≡ Some live → IsFineList live → Ending v uid base live → Stand v

-- ---- ends

pub same_end : (v : FileView) (uid other : ℕ) (a b : Bool) → EndsPeriod v uid a → EndsPeriod v other b → a ≡ b
same_end v uid other a b h g =
    let same : uid ≡ other = one_user v.periods uid other h.period g.period in
    let causes : h.cause ∷ [] ≡ g.cause ∷ [] = sym h.causes ∙ ap v.causes same ∙ g.causes in
    let cause : h.cause ≡ g.cause = cc (causes) in
    sym h.is_so ∙ ap is_clean cause ∙ g.is_so

pub not_ended : (v : FileView) (uid other : ℕ) (b : Bool) → v.periods ≡ uid ∷ [] → v.causes uid ≡ [] → EndsPeriod v other b → ⊥
not_ended v uid other b period none g =
    let same : uid ≡ other = one_user v.periods uid other period g.period in
    let causes : [] ≡ g.cause ∷ [] = sym none ∙ ap v.causes same ∙ g.causes in
    absurd (cc (causes))

pub causes_stay : (f : FileId) (v : FileView) (e : Entry) (uid : ℕ) (cause : EndCause) (more : List EndCause) → v.causes uid ≡ cause ∷ more → IsSoundEntry f v e → (view_after f v e).causes uid ≡ v.causes uid
causes_stay f v (Ended file cred now) uid cause more are s = by_test (eqb cred.0 uid) refl
  where
    wrong : cred.0 ≡ uid → ⊥
    wrong same = let none : [] ≡ cause ∷ more = sym s.0 ∙ ap v.causes same ∙ are in absurd (cc (none))

    by_test : (b : Bool) → eqb cred.0 uid ≡ b → cond b (v.causes uid ++ now ∷ []) (v.causes uid) ≡ v.causes uid
    by_test true is = absurd (wrong (eqb-true cred.0 uid is))
    by_test false is = refl
causes_stay f v _ uid cause more are s = refl

pub clean_end_on : (f : FileId) (v : FileView) (e : Entry) (uid : ℕ) → IsSoundEntry f v e → HasCleanEnd v uid → HasCleanEnd (view_after f v e) uid
clean_end_on f v e uid s h = record { cause = h.cause; more = h.more; causes = causes_stay f v e uid h.cause h.more h.causes s ∙ h.causes; clean = h.clean }

pub clean_end_of : (v : FileView) (uid : ℕ) → EndsPeriod v uid true → HasCleanEnd v uid
clean_end_of v uid h = record { cause = h.cause; more = []; causes = h.causes; clean = h.is_so }

-- behind a clean end nothing is sent any more, and nothing strays
pub sent_still : (f : FileId) (v : FileView) (e : Entry) (uid : ℕ) → IsSoundEntry f v e → HasCleanEnd v uid → (view_after f v e).sent uid ≡ v.sent uid
sent_still f v (Sent file cred at bytes) uid s h = by_test (eqb cred.0 uid) refl
  where
    by_test : (b : Bool) → eqb cred.0 uid ≡ b → cond b (v.sent uid ++ the_write at bytes ∷ []) (v.sent uid) ≡ v.sent uid
    by_test true is = absurd (not_clean_end (v.causes uid) h.cause h.more h.causes h.clean (subst (λ (u : ℕ). IsNotEndedClean v u) (eqb-true cred.0 uid is) s.not_clean))
    by_test false is = refl
sent_still f v _ uid s h = refl

pub rogue_still : (f : FileId) (v : FileView) (e : Entry) (uid : ℕ) → IsSoundEntry f v e → HasCleanEnd v uid → (view_after f v e).rogue uid ≡ v.rogue uid
rogue_still f v (Rogue file cred at bytes) uid s h = by_test (eqb cred.0 uid) refl
  where
    by_test : (b : Bool) → eqb cred.0 uid ≡ b → cond b (v.rogue uid ++ the_write at bytes ∷ []) (v.rogue uid) ≡ v.rogue uid
    by_test true is = absurd (not_clean_end (v.causes uid) h.cause h.more h.causes h.clean (subst (λ (u : ℕ). IsNotEndedClean v u) (eqb-true cred.0 uid is) s))
    by_test false is = refl
rogue_still f v _ uid s h = refl

-- what is covered stays so
pub covered_on : (f : FileId) (v : FileView) (e : Entry) (uid : ℕ) (m : MirrorId) (w : Pending) → IsIn w (v.marks uid m).covered → IsIn w ((view_after f v e).marks uid m).covered
covered_on f v (Applied mirror cred at bytes) uid m w h = by_test (is_mirror mirror m && eqb cred.0 uid)
  where
    by_test : (b : Bool) → IsIn w (cond b (record { here = the_write at bytes ∷ (v.marks uid m).here; covered = (v.marks uid m).covered }) (v.marks uid m)).covered
    by_test true = h
    by_test false = h
covered_on f v (Committed mirror) uid m w h = by_test (is_mirror mirror m)
  where
    by_test : (b : Bool) → IsIn w (cond b (record { here = (v.marks uid m).here; covered = (v.marks uid m).here ++ (v.marks uid m).covered }) (v.marks uid m)).covered
    by_test true = in_right w (v.marks uid m).here (v.marks uid m).covered h
    by_test false = h
covered_on f v (Restarted server pieces) uid m w h = by_test (eqb server m.server)
  where
    by_test : (b : Bool) → IsIn w (cond b (record { here = []; covered = (v.marks uid m).covered }) (v.marks uid m)).covered
    by_test true = h
    by_test false = h
covered_on f v _ uid m w h = h

-- ---- live mirrors

module _ (f : FileId) (v : FileView) (e : Entry) (s : IsSoundEntry f v e) where
  pub hass_on : (live : List MirrorId) (base : List ℕ) → v.live ≡ Some live → v.periods ≡ [] → AllByRecursion (λ m. Has base (v.copy m).content) live → AllByRecursion (λ m. Has base ((view_after f v e).copy m).content) live
  hass_on live base are free h =
      all_both (λ m. IsSoundAt v m e) (λ m. Has base (v.copy m).content) (λ m. Has base ((view_after f v e).copy m).content) live
      (λ m sound has. has_on v e m base sound (apart_free v m e free) has) (sound_all f v e s live are) h

  pub original_on : (uid : ℕ) (base : List ℕ) (m : MirrorId) → v.periods ≡ uid ∷ [] → IsSoundAt v m e → IsOriginal v uid base m → IsOriginal (view_after f v e) uid base m
  original_on uid base m period sound o = record { of_layout = layout_on f v e uid m o.of_layout; held = held_on f v e uid base m period s sound o.held }

  pub copied_on : (uid : ℕ) (base : List ℕ) (m : MirrorId) → v.periods ≡ uid ∷ [] → IsSoundAt v m e → IsCopied v uid base m → IsCopied (view_after f v e) uid base m
  copied_on uid base m period sound c = record {
    past = past_on f v e m uid s c.past;
    bytes = c.bytes;
    has = has_on v e m c.bytes sound (apart_past f v m e uid period c.past s) c.has;
    dirty = dirty_on f v e uid base c.bytes s c.dirty;
  }

  pub clean_on : (uid : ℕ) (base : List ℕ) (m : MirrorId) → v.periods ≡ uid ∷ [] → HasCleanEnd v uid → IsSoundAt v m e → IsCleanOne v uid base m → IsCleanOne (view_after f v e) uid base m
  clean_on uid base m period clean sound c = record {
    original = original_on uid base m period sound c.original;
    all_covered = subst (AllByRecursion (λ w. IsIn w ((view_after f v e).marks uid m).covered)) (sym (sent_still f v e uid s clean))
        (all_more (λ w. IsIn w (v.marks uid m).covered) (λ w. IsIn w ((view_after f v e).marks uid m).covered) (v.sent uid) (λ w is. covered_on f v e uid m w is) c.all_covered);
  }

  pub dirty_one_on : (uid : ℕ) (base : List ℕ) (m : MirrorId) → v.periods ≡ uid ∷ [] → IsSoundAt v m e → IsDirtyOne v uid base m → IsDirtyOne (view_after f v e) uid base m
  dirty_one_on uid base m period sound (inl o) = inl (original_on uid base m period sound o)
  dirty_one_on uid base m period sound (inr c) = inr (copied_on uid base m period sound c)

  module _ (uid : ℕ) (base : List ℕ) (live : List MirrorId) (are : v.live ≡ Some live) (period : v.periods ≡ uid ∷ []) where
    pub originals_on : AllByRecursion (IsOriginal v uid base) live → AllByRecursion (IsOriginal (view_after f v e) uid base) live
    originals_on h = all_both (λ m. IsSoundAt v m e) (IsOriginal v uid base) (IsOriginal (view_after f v e) uid base) live (λ m sound o. original_on uid base m period sound o) (sound_all f v e s live are) h

    pub cleans_on : HasCleanEnd v uid → AllByRecursion (IsCleanOne v uid base) live → AllByRecursion (IsCleanOne (view_after f v e) uid base) live
    cleans_on clean h = all_both (λ m. IsSoundAt v m e) (IsCleanOne v uid base) (IsCleanOne (view_after f v e) uid base) live (λ m sound c. clean_on uid base m period clean sound c) (sound_all f v e s live are) h

    pub dirties_on : AllByRecursion (IsDirtyOne v uid base) live → AllByRecursion (IsDirtyOne (view_after f v e) uid base) live
    dirties_on h = all_both (λ m. IsSoundAt v m e) (IsDirtyOne v uid base) (IsDirtyOne (view_after f v e) uid base) live (λ m sound d. dirty_one_on uid base m period sound d) (sound_all f v e s live are) h

  pub ends_on : (uid : ℕ) (clean : Bool) → periods_after f v.periods e ≡ v.periods → EndsPeriod v uid clean → EndsPeriod (view_after f v e) uid clean
  ends_on uid clean same h = record { period = same ∙ h.period; cause = h.cause; causes = causes_stay f v e uid h.cause [] h.causes s ∙ h.causes; is_so = h.is_so }
