-- The laws hold of a journal just where they hold of what is left of it without the entries that no run makes.
use Rattle.std.proofs.Common.{◌≡◌, ℕ, ◌-◌, ◌≤◌, Bool, true, false, cond, List, [], ◌∷◌, ◌++◌, length, Option, None, Some, refl, sym, ap, subst, ◌∙◌, ◌⊎◌, append_assoc}
use Rattle.std.specs.Prelude.{max, slice_get}
use Rattle.std.proofs.lemmas.List.Elements.{filter-append}
use Rattle.cluster_model.specs.declared.ids.FileId.{FileId}
use Rattle.cluster_model.specs.declared.ids.MirrorId.{MirrorId}
use Rattle.cluster_model.specs.declared.phase.EndCause.{EndCause}
use Rattle.cluster_model.specs.declared.entry.Entry.{Entry}
use Rattle.cluster_model.specs.declared.entry.Entry.TheVariants as entry
use Rattle.cluster_model.specs.Content.{Pending, shown_of, overlay_all}
use Rattle.cluster_model.specs.Journal.{Copy, content_of}
use Rattle.cluster_model.specs.Laws.{byte_at}
use Rattle.cluster_model.specs.Phases.{is_clean}
use Rattle.cluster_laws.specs.FenceLaw.{live_in}
use Rattle.cluster_laws.specs.Agreement.{sent_of, rogue_of, causes_of, periods_of, IsByteOfOne, furthest_end, ArePairwiseDisjoint, IsCleanStep, IsDirtyStep, IsEndBy, IsEndStep, IsFlatStep, shown_at, bytes_of, Has, Agree, AgreesAlways}
use Rattle.cluster_laws.specs.Periods.{IsInPlace, AreAlike, ArePeriodsFenced, OwnedFromAll, DoOwnersStay}
use Rattle.cluster_laws.specs.Telling.{is_telling, telling, SaysTheSame}
use Rattle.cluster_laws.proofs.Lists.{all_more}
use Rattle.cluster_laws.proofs.Tellings.{lifted, fences_told, fences_left}
use Rattle.cluster_laws.proofs.SameTold.{TellSame, turned, same_told, same_as}

-- ---- splits

-- what is left of a split at an entry that is left
at_entry : (before : List Entry) (e : Entry) (behind : List Entry) → is_telling e ≡ true → telling (before ++ e ∷ behind) ≡ telling before ++ e ∷ telling behind
at_entry before e behind tells = filter-append is_telling before (e ∷ behind) ∙ ap (λ (b : Bool). telling before ++ cond b (e ∷ telling behind) (telling behind)) tells

-- a split of what is left in two
pub record IsParted (journal a b : List Entry) : Type 0 where
  pub front : List Entry
  pub rest : List Entry
  pub is : journal ≡ front ++ rest
  pub front_is : telling front ≡ a
  pub rest_is : telling rest ≡ b

parted : (a b journal : List Entry) → telling journal ≡ a ++ b → IsParted journal a b
parted [] b journal is = record { front = []; rest = journal; is = refl; front_is = refl; rest_is = is }
parted (e ∷ a) b journal is =
    let l = lifted journal [] e (a ++ b) is in
    let p = parted a b l.rest l.rest_is in
    record {
      front = l.front ++ e ∷ p.front;
      rest = p.rest;
      is = l.is ∙ ap (λ (j : List Entry). l.front ++ e ∷ j) p.is ∙ sym (append_assoc l.front (e ∷ p.front) p.rest);
      front_is = at_entry l.front e p.front l.tells ∙ ap (λ (j : List Entry). j ++ e ∷ telling p.front) l.front_is ∙ ap (λ (j : List Entry). e ∷ j) p.front_is;
      rest_is = p.rest_is;
    }

-- ---- the law of periods

alike_same : (a b : List Entry) → TellSame a b → (live : List MirrorId) → AreAlike a live → AreAlike b live
alike_same a b s [] h = tt
alike_same a b s (m ∷ live) h =
    all_more (λ k. (content_of a k).owner ≡ (content_of a m).owner) (λ k. (content_of b k).owner ≡ (content_of b m).owner) live
    (λ k q. ap (λ (c : Copy). c.owner) (sym (s.content k)) ∙ q ∙ ap (λ (c : Copy). c.owner) (s.content m)) h

place_same : (a b : List Entry) → TellSame a b → (e : Entry) → IsInPlace a e → IsInPlace b e
place_same a b s (entry.Granted file cred holder) h = record { fenced = sym (s.owed file) ∙ h.fenced; new = sym (s.granted cred.0) ∙ h.new; user = sym (s.user file) ∙ h.user }
place_same a b s (entry.Ended file cred cause) h = record { fenced = sym (s.owed file) ∙ h.fenced; user = sym (s.user file) ∙ h.user }
place_same a b s (entry.Free file live) h = record { fenced = sym (s.owed file) ∙ h.fenced; some = h.some; alike = λ none. alike_same a b s live (h.alike (s.user file ∙ none)) }
place_same a b s _ h = h

quiet_place : (before : List Entry) (e : Entry) → is_telling e ≡ false → IsInPlace before e
quiet_place before (entry.Granted file cred holder) quiet = absurd cc
quiet_place before (entry.Ended file cred cause) quiet = absurd cc
quiet_place before (entry.Fenced file old new live) quiet = absurd cc
quiet_place before (entry.Free file live) quiet = absurd cc
quiet_place before _ quiet = tt

periods_told : (journal : List Entry) → ArePeriodsFenced (telling journal) → ArePeriodsFenced journal
periods_told journal h before behind e is = by_kind (is_telling e) refl
  where
    by_kind : (b : Bool) → is_telling e ≡ b → IsInPlace before e
    by_kind true t = place_same (telling before) before (same_told before) e (h (telling before) (telling behind) e (ap telling is ∙ at_entry before e behind t))
    by_kind false t = quiet_place before e t

periods_left : (journal : List Entry) → ArePeriodsFenced journal → ArePeriodsFenced (telling journal)
periods_left journal h before behind e is =
    let l = lifted journal before e behind is in
    place_same l.front before (turned before l.front (same_as l.front before l.front_is)) e (h l.front l.rest e l.is)

-- ---- owners stay

owned_same : (a b : List Entry) → TellSame a b → (uid : ℕ) (live : Option (List MirrorId)) → OwnedFromAll a uid live → OwnedFromAll b uid live
owned_same a b s uid None h = tt
owned_same a b s uid (Some live) h = all_more (λ m. uid ≤ (content_of a m).owner) (λ m. uid ≤ (content_of b m).owner) live (λ m q. subst (λ (c : Copy). uid ≤ c.owner) (s.content m) q) h

owners_told : (journal : List Entry) → DoOwnersStay (telling journal) → DoOwnersStay journal
owners_told journal h before behind f old new live is =
    let s = same_told journal in
    owned_same (telling journal) journal s new.0 (live_in journal f)
    (subst (OwnedFromAll (telling journal) new.0) (s.live f) (h (telling before) (telling behind) f old new live (ap telling is ∙ at_entry before (entry.Fenced f old new live) behind refl)))

owners_left : (journal : List Entry) → DoOwnersStay journal → DoOwnersStay (telling journal)
owners_left journal h before behind f old new live is =
    let s = turned (telling journal) journal (same_told journal) in
    let l = lifted journal before (entry.Fenced f old new live) behind is in
    owned_same journal (telling journal) s new.0 (live_in (telling journal) f) (subst (OwnedFromAll journal new.0) (s.live f) (h l.front l.rest f old new live l.is))

-- ---- agreement

shown_same : (a b : List Entry) → TellSame a b → (live : Option (List MirrorId)) → shown_at a live ≡ shown_at b live
shown_same a b s None = refl
shown_same a b s (Some []) = refl
shown_same a b s (Some (m ∷ live)) = ap (λ (c : Copy). shown_of c.content) (s.content m)

bytes_same : (a b : List Entry) → TellSame a b → (f : FileId) → bytes_of a f ≡ bytes_of b f
bytes_same a b s f = ap (shown_at a) (s.live f) ∙ shown_same a b s (live_in b f)

agree_same : (a b : List Entry) → TellSame a b → (bytes : List ℕ) (live : Option (List MirrorId)) → Agree a bytes live → Agree b bytes live
agree_same a b s bytes None h = h
agree_same a b s bytes (Some []) h = h
agree_same a b s bytes (Some (m ∷ live)) h =
    (h.0, all_more (λ k. Has bytes (content_of a k).content) (λ k. Has bytes (content_of b k).content) (m ∷ live) (λ k q. subst (λ (c : Copy). Has bytes c.content) (s.content k) q) h.1)

module _ (a b : List Entry) (s : TellSame a b) (x y : List Entry) (u : TellSame x y) (old new : List ℕ) where
  clean_same : (uid : ℕ) → IsCleanStep a uid old new → IsCleanStep b uid old new
  clean_same uid h = record { disjoint = subst ArePairwiseDisjoint (s.sent uid) h.disjoint; none_strayed = sym (s.rogue uid) ∙ h.none_strayed; bytes = h.bytes ∙ ap (overlay_all old) (s.sent uid) }

  both_same : (uid : ℕ) → sent_of uid x ++ rogue_of uid x ≡ sent_of uid y ++ rogue_of uid y
  both_same uid = ap (λ ws. ws ++ rogue_of uid x) (u.sent uid) ∙ ap (λ ws. sent_of uid y ++ ws) (u.rogue uid)

  dirty_same : (uid : ℕ) → IsDirtyStep a x uid old new → IsDirtyStep b y uid old new
  dirty_same uid h = record {
    bytes = λ place less. subst (λ (ws : List Pending). (byte_at new place ≡ byte_at old place) ⊎ IsByteOfOne ws place (byte_at new place)) (both_same uid) (h.bytes place less);
    told = λ k place w is over.
        subst (λ (ws : List Pending). (byte_at new place ≡ byte_at w.bytes (place - w.at)) ⊎ IsByteOfOne ws place (byte_at new place)) (u.rogue uid)
        (h.told k place w (ap (λ (ws : List Pending). slice_get ws k) (s.told uid) ∙ is) over);
    least = subst (λ (ws : List Pending). max (length old) (furthest_end ws) ≤ length new) (s.told uid) h.least;
    most = subst (λ (ws : List Pending). length new ≤ max (length old) (furthest_end ws)) (both_same uid) h.most;
  }

  end_same : (uid : ℕ) (clean : Bool) → IsEndBy a x uid old new clean → IsEndBy b y uid old new clean
  end_same uid true h = clean_same uid h
  end_same uid false h = dirty_same uid h

  causes_same : (uid : ℕ) (causes : List EndCause) → IsEndStep a x uid old new causes → IsEndStep b y uid old new causes
  causes_same uid [] h = h
  causes_same uid (cause ∷ causes) h = end_same uid (is_clean cause) h

  flat_same : (periods : List ℕ) → IsFlatStep a x old new periods → IsFlatStep b y old new periods
  flat_same [] h = h
  flat_same (uid ∷ []) h = subst (IsEndStep b y uid old new) (u.causes uid) (causes_same uid (causes_of uid x) h)
  flat_same (uid ∷ next ∷ more) h = h

-- a step of one journal is one of another that tells the same
step_same : (a b : List Entry) → TellSame a b → (o p : List Entry) → TellSame o p → (x y : List Entry) → TellSame x y → (i j : List Entry) → TellSame i j → (f : FileId)
    → IsFlatStep a x (bytes_of o f) (bytes_of x f) (periods_of f i) → IsFlatStep b y (bytes_of p f) (bytes_of y f) (periods_of f j)
step_same a b s o p q x y u i j v f h =
    subst (λ (old : List ℕ). IsFlatStep b y old (bytes_of y f) (periods_of f j)) (bytes_same o p q f)
    (subst (λ (new : List ℕ). IsFlatStep b y (bytes_of o f) new (periods_of f j)) (bytes_same x y u f)
    (subst (λ (ps : List ℕ). IsFlatStep b y (bytes_of o f) (bytes_of x f) ps) (v.periods f) (flat_same a b s x y u (bytes_of o f) (bytes_of x f) (periods_of f i) h)))

free_same : (o p : List Entry) → TellSame o p → (x y : List Entry) → TellSame x y → (f : FileId) → Agree x (bytes_of o f) (live_in x f) → Agree y (bytes_of p f) (live_in y f)
free_same o p q x y u f h =
    subst (λ (bytes : List ℕ). Agree y bytes (live_in y f)) (bytes_same o p q f) (agree_same x y u (bytes_of o f) (live_in y f) (subst (Agree x (bytes_of o f)) (u.live f) h))

agreement_told : (journal : List Entry) (f : FileId) → AgreesAlways (telling journal) f → AgreesAlways journal f
agreement_told journal f h = record {
  first = λ before behind live is none.
      let free : Entry = entry.Free f live in
      sym (bytes_same (telling before ++ free ∷ []) (before ++ free ∷ []) (same_as (before ++ free ∷ []) (telling before ++ free ∷ []) (at_entry before free [] refl)) f)
      ∙ h.first (telling before) (telling behind) live (ap telling is ∙ at_entry before free behind refl) ((same_told before).free f ∙ none);
  steps = λ before between behind live next is none.
      let free : Entry = entry.Free f live in
      let again : Entry = entry.Free f next in
      let o = same_as (before ++ free ∷ []) (telling before ++ free ∷ []) (at_entry before free [] refl) in
      let x = same_as (before ++ free ∷ between) (telling before ++ free ∷ telling between) (at_entry before free between refl) in
      step_same (telling journal) journal (same_told journal) (telling before ++ free ∷ []) (before ++ free ∷ []) o (telling before ++ free ∷ telling between) (before ++ free ∷ between) x (telling between) between (same_told between) f
      (h.steps (telling before) (telling between) (telling behind) live next
      (ap telling is ∙ at_entry (before ++ free ∷ between) again behind refl ∙ ap (λ (j : List Entry). j ++ again ∷ telling behind) (at_entry before free between refl)) ((same_told between).free f ∙ none));
  free = λ before between behind live is none quiet.
      let free : Entry = entry.Free f live in
      let o = same_as (before ++ free ∷ []) (telling before ++ free ∷ []) (at_entry before free [] refl) in
      let x = same_as (before ++ free ∷ between) (telling before ++ free ∷ telling between) (at_entry before free between refl) in
      free_same (telling before ++ free ∷ []) (before ++ free ∷ []) o (telling before ++ free ∷ telling between) (before ++ free ∷ between) x f
      (h.free (telling before) (telling between) (telling behind) live
      (ap telling is ∙ filter-append is_telling (before ++ free ∷ between) behind ∙ ap (λ (j : List Entry). j ++ telling behind) (at_entry before free between refl)) ((same_told between).free f ∙ none) ((same_told between).periods f ∙ quiet));
}

agreement_left : (journal : List Entry) (f : FileId) → AgreesAlways journal f → AgreesAlways (telling journal) f
agreement_left journal f h = record {
  first = λ before behind live is none.
      let free : Entry = entry.Free f live in
      let l = lifted journal before free behind is in
      bytes_same (before ++ free ∷ []) (l.front ++ free ∷ []) (with_free l.front before free refl l.front_is) f ∙ h.first l.front l.rest live l.is (sym ((same_as l.front before l.front_is).free f) ∙ none);
  steps = λ before between behind live next is none.
      let free : Entry = entry.Free f live in
      let again : Entry = entry.Free f next in
      let l = lifted journal (before ++ free ∷ between) again behind is in
      let k = lifted l.front before free between l.front_is in
      let o = turned (before ++ free ∷ []) (k.front ++ free ∷ []) (with_free k.front before free refl k.front_is) in
      let x = turned (before ++ free ∷ between) (k.front ++ free ∷ k.rest) (whole k.front k.rest before between free refl k.front_is k.rest_is) in
      let i = same_as k.rest between k.rest_is in
      step_same journal (telling journal) (turned (telling journal) journal (same_told journal)) (k.front ++ free ∷ []) (before ++ free ∷ []) o (k.front ++ free ∷ k.rest) (before ++ free ∷ between) x k.rest between (turned between k.rest i) f
      (h.steps k.front k.rest l.rest live next (l.is ∙ ap (λ (j : List Entry). j ++ again ∷ l.rest) k.is) (sym (i.free f) ∙ none));
  free = λ before between behind live is none quiet.
      let free : Entry = entry.Free f live in
      let p = parted (before ++ free ∷ between) behind journal is in
      let k = lifted p.front before free between p.front_is in
      let o = turned (before ++ free ∷ []) (k.front ++ free ∷ []) (with_free k.front before free refl k.front_is) in
      let x = turned (before ++ free ∷ between) (k.front ++ free ∷ k.rest) (whole k.front k.rest before between free refl k.front_is k.rest_is) in
      let i = same_as k.rest between k.rest_is in
      free_same (k.front ++ free ∷ []) (before ++ free ∷ []) o (k.front ++ free ∷ k.rest) (before ++ free ∷ between) x f
      (h.free k.front k.rest p.rest live (p.is ∙ ap (λ (j : List Entry). j ++ p.rest) k.is) (sym (i.free f) ∙ none) (sym (i.periods f) ∙ quiet));
}
  where
    with_free : (front before : List Entry) (e : Entry) → is_telling e ≡ true → telling front ≡ before → TellSame (before ++ e ∷ []) (front ++ e ∷ [])
    with_free front before e tells is = same_as (front ++ e ∷ []) (before ++ e ∷ []) (at_entry front e [] tells ∙ ap (λ (j : List Entry). j ++ e ∷ []) is)

    whole : (front rest before between : List Entry) (e : Entry) → is_telling e ≡ true → telling front ≡ before → telling rest ≡ between → TellSame (before ++ e ∷ between) (front ++ e ∷ rest)
    whole front rest before between e tells is more =
        same_as (front ++ e ∷ rest) (before ++ e ∷ between) (at_entry front e rest tells ∙ ap (λ (j : List Entry). j ++ e ∷ telling rest) is ∙ ap (λ (j : List Entry). before ++ e ∷ j) more)

-- ---- all together

pub says_the_same : (journal : List Entry) → SaysTheSame journal
says_the_same journal =
    let s = same_told journal in
    record {
      live = s.live;
      content = s.content;
      fences = (fences_told journal, fences_left journal);
      periods = (periods_told journal, periods_left journal);
      owners = (owners_told journal, owners_left journal);
      agreement = λ f. (agreement_told journal f, agreement_left journal f);
    }
