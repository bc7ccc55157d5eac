-- What entries leave of a user's marks at a mirror.
use Rattle.std.proofs.Common.{◌≡◌, ◌≢◌, ℕ, Bool, true, eqb, cond, List, [], ◌∷◌, ◌++◌, refl, sym, subst, inl, inr}
use Rattle.std.specs.Prelude.{◌&&◌}
use Rattle.std.specs.List.{AllByRecursion}
use Rattle.std.proofs.lemmas.Bool.{cond_both, eqb-true, eq-eqb, and_from}
use Rattle.cluster_model.specs.declared.ids.Cred.{Cred}
use Rattle.cluster_model.specs.declared.ids.MirrorId.{MirrorId}
use Rattle.cluster_model.specs.declared.entry.Entry.{Entry}
use Rattle.cluster_model.specs.declared.entry.Entry.TheVariants.{Applied, Committed, Restarted}
use Rattle.cluster_model.specs.Content.{Pending}
use Rattle.cluster_model.specs.Journal.{is_mirror}
use Rattle.cluster_laws.specs.Holders.{IsIn, the_write}
use Rattle.sound_journals.specs.Marks.{UserMarks, no_marks, marks_after, marks_by, marks_of}

-- ---- lists of writes

pub in_left : (w : Pending) (a b : List Pending) → IsIn w a → IsIn w (a ++ b)
in_left w [] b is = absurd is
in_left w (v ∷ a) b (inl this) = inl this
in_left w (v ∷ a) b (inr rest) = inr (in_left w a b rest)

pub in_right : (w : Pending) (a b : List Pending) → IsIn w b → IsIn w (a ++ b)
in_right w [] b is = is
in_right w (v ∷ a) b is = inr (in_right w a b is)

-- ---- one entry

-- it is no restart of this server
abbrev pub IsNotRestartOf : ℕ → Entry → Type 0
IsNotRestartOf n (Restarted server pieces) = server ≢ n
IsNotRestartOf n _ = Unit {0}

module _ (uid : ℕ) (m : MirrorId) (k : UserMarks) where
  covered_stays : (e : Entry) (w : Pending) → IsIn w k.covered → IsIn w (marks_after uid m k e).covered
  covered_stays (Applied mirror cred at bytes) w is =
      cond_both (is_mirror mirror m && eqb cred.0 uid) (record { here = the_write at bytes ∷ k.here; covered = k.covered }) k (λ (x : UserMarks). IsIn w x.covered) (λ e. is) (λ e. is)
  covered_stays (Committed mirror) w is =
      cond_both (is_mirror mirror m) (record { here = k.here; covered = k.here ++ k.covered }) k (λ (x : UserMarks). IsIn w x.covered) (λ e. in_right w k.here k.covered is) (λ e. is)
  covered_stays (Restarted server pieces) w is = cond_both (eqb server m.server) (record { here = []; covered = k.covered }) k (λ (x : UserMarks). IsIn w x.covered) (λ e. is) (λ e. is)
  covered_stays _ w is = is

  here_stays : (e : Entry) → IsNotRestartOf m.server e → (w : Pending) → IsIn w k.here → IsIn w (marks_after uid m k e).here
  here_stays (Applied mirror cred at bytes) runs w is =
      cond_both (is_mirror mirror m && eqb cred.0 uid) (record { here = the_write at bytes ∷ k.here; covered = k.covered }) k (λ (x : UserMarks). IsIn w x.here) (λ e. inr is) (λ e. is)
  here_stays (Committed mirror) runs w is =
      cond_both (is_mirror mirror m) (record { here = k.here; covered = k.here ++ k.covered }) k (λ (x : UserMarks). IsIn w x.here) (λ e. is) (λ e. is)
  here_stays (Restarted server pieces) runs w is =
      cond_both (eqb server m.server) (record { here = []; covered = k.covered }) k (λ (x : UserMarks). IsIn w x.here) (λ e. absurd (runs (eqb-true server m.server e))) (λ e. is)
  here_stays _ runs w is = is

  -- a write that was applied is here
  pub applied_here : (mirror : MirrorId) (cred : Cred) (at : ℕ) (bytes : List ℕ) → is_mirror mirror m ≡ true → cred.0 ≡ uid → IsIn (the_write at bytes) (marks_after uid m k (Applied mirror cred at bytes)).here
  applied_here mirror cred at bytes same own =
      subst (λ (b : Bool). IsIn (the_write at bytes) (cond b (record { here = the_write at bytes ∷ k.here; covered = k.covered }) k).here) (sym (and_from (is_mirror mirror m) (eqb cred.0 uid) same (eq-eqb cred.0 uid own))) (inl refl)

  -- what is here is covered behind a COMMIT
  pub committed_covers : (mirror : MirrorId) → is_mirror mirror m ≡ true → (w : Pending) → IsIn w k.here → IsIn w (marks_after uid m k (Committed mirror)).covered
  committed_covers mirror same w is =
      subst (λ (b : Bool). IsIn w (cond b (record { here = k.here; covered = k.here ++ k.covered }) k).covered) (sym same) (in_left w k.here k.covered is)

-- ---- more entries

pub covered_by : (uid : ℕ) (m : MirrorId) (entries : List Entry) (k : UserMarks) (w : Pending) → IsIn w k.covered → IsIn w (marks_by uid m k entries).covered
covered_by uid m [] k w is = is
covered_by uid m (e ∷ entries) k w is = covered_by uid m entries (marks_after uid m k e) w (covered_stays uid m k e w is)

pub here_by : (uid : ℕ) (m : MirrorId) (entries : List Entry) → AllByRecursion (IsNotRestartOf m.server) entries → (k : UserMarks) (w : Pending) → IsIn w k.here → IsIn w (marks_by uid m k entries).here
here_by uid m [] runs k w is = is
here_by uid m (e ∷ entries) runs k w is = here_by uid m entries runs.1 (marks_after uid m k e) w (here_stays uid m k e runs.0 w is)

marks_append : (uid : ℕ) (m : MirrorId) (k : UserMarks) (a b : List Entry) → marks_by uid m k (a ++ b) ≡ marks_by uid m (marks_by uid m k a) b
marks_append uid m k [] b = refl
marks_append uid m k (e ∷ a) b = marks_append uid m (marks_after uid m k e) a b

module _ (journal entries : List Entry) (uid : ℕ) (m : MirrorId) where
  -- what holds of what entries make of the marks so far holds behind the journal with them
  pub marks_more : (P : UserMarks → Type 0) → P (marks_by uid m (marks_of journal uid m) entries) → P (marks_of (journal ++ entries) uid m)
  marks_more P is = subst P (sym (marks_append uid m no_marks journal entries)) is

  pub covered_more : (w : Pending) → IsIn w (marks_of journal uid m).covered → IsIn w (marks_of (journal ++ entries) uid m).covered
  covered_more w is = marks_more (λ (k : UserMarks). IsIn w k.covered) (covered_by uid m entries (marks_of journal uid m) w is)

  pub here_more : AllByRecursion (IsNotRestartOf m.server) entries → (w : Pending) → IsIn w (marks_of journal uid m).here → IsIn w (marks_of (journal ++ entries) uid m).here
  here_more runs w is = marks_more (λ (k : UserMarks). IsIn w k.here) (here_by uid m entries runs (marks_of journal uid m) w is)

-- ---- mirrors

abbrev pub mirror_at : ℕ → ℕ → MirrorId
mirror_at n fileid = record { server = n; fileid = fileid }

pub same_mirror : (a b : MirrorId) → a.server ≡ b.server → a.fileid ≡ b.fileid → is_mirror a b ≡ true
same_mirror a b server fileid = and_from (eqb a.server b.server) (eqb a.fileid b.fileid) (eq-eqb a.server b.server server) (eq-eqb a.fileid b.fileid fileid)
