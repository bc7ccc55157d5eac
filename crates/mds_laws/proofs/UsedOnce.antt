-- A uid is granted once, and the period under it ends once: the uids that the files have were not used up, and no two of them are the same.
use Rattle.std.proofs.Common.{Bool, ◌≡◌, ◌≤◌, ◌<◌, ℕ, ◌+◌, ◌-◌, true, false, List, [], ◌∷◌, ◌++◌, length, Option, Some, None, refl, sym, ap, subst, ◌∙◌, inl, inr, ◌⊎◌, arith}
use Rattle.std.specs.Prelude.{◌==◌, slice_get, slice_set}
use Rattle.std.specs.List.{list_any}
use Rattle.std.proofs.lemmas.Bool.{cond_both, cases_eq, ne_eqb, or_from}
use Rattle.std.proofs.lemmas.List.{append-nil}
use Rattle.std.proofs.lemmas.List.Folds.{list_any-append}
use Rattle.std.proofs.lemmas.Option.{same_Some, none-some}
use Rattle.device_addr.specs.Universal.{AddressValue}
use Rattle.cluster_model.specs.declared.ids.NodeId.TheVariants.{Server}
use Rattle.cluster_model.specs.declared.ids.FileId.{FileId}
use Rattle.cluster_model.specs.declared.entry.Entry.{Entry}
use Rattle.cluster_model.specs.declared.entry.Entry.TheVariants as entry
use Rattle.cluster_model.specs.declared.layout_state.LayoutState.{LayoutState}
use Rattle.cluster_model.proofs.Elements.{slice_get-set_other, slice_get-set_same, Pushed, Old, New, pushed}
use Rattle.file_rule.specs.FilePhases.{Answers as IsAnswer, TimesOut, Sees, FileInput, new_mds_file, phase}
use Rattle.file_rule.specs.MdsFiles.{MdsFile, FileStep}
use Rattle.mds_rows.specs.Draws.{drawn}
use Rattle.recall.specs.Recalls.{without_file}
use Rattle.mds_rule.specs.Answers.{own_answer}
use Rattle.mds_rule.specs.MdsStates.{ServedFile, MdsSend, CallsServer, CallsBack, Replies, Answers, AwaitedCall, MdsValue, with_call, served, with_served, new_mds}
use Rattle.mds_rule.specs.declared.waiter.Waiter.TheVariants.{ForFile, ForRead, ForWrite, ForRecall}
use Rattle.mds_rule.specs.ServedFiles.{is_period_end, file_behind, file_stepped}
use Rattle.mds_rule.specs.FileOps.{servers_of, new_served, with_new_file}
use Rattle.mds_walk.specs.MdsRuns.{MdsEvent, mds_run}
use Rattle.mds_walk.proofs.Lists.{EachOf, each_push, each_join, each_at, AllOf, all_push, all_set, all_got}
use Rattle.mds_laws.proofs.Keeping.{Cases, note_quiet, is_quiet}
use Rattle.mds_walk.proofs.Parts.{HeardAny}
use Rattle.mds_walk.proofs.Served.{place_served}
use Rattle.mds_laws.proofs.GoesWalk.{in_each_run}
use Rattle.mds_laws.proofs.FileGrants.{out_layout}
use Rattle.mds_laws.proofs.PeriodUids.{Side, Grants, Ends, uid_of, Agrees, Keeps, Draws, IsGrantUse, IsEndUse, behind_grant, behind_end, IsUseOf, uid_behind, Uses}
use Rattle.mds_laws.proofs.FileCreds.{phase_uses, out_agrees}
use Rattle.mds_laws.proofs.Numbers.{WereSent, sent_more, sent_with, sent_kept}

-- ---- grants, or ends of periods

abbrev pub of_grants : Side → Bool → Bool
of_grants Grants its = its
of_grants Ends its = false

abbrev pub of_ends : Side → Bool → Bool
of_ends Grants its = false
of_ends Ends its = its

abbrev pub uses_uid : Side → ℕ → Entry → Bool
uses_uid side uid (entry.Granted file cred holder) = of_grants side (cred.0 == uid)
uses_uid side uid (entry.Ended file cred cause) = of_ends side (cred.0 == uid)
uses_uid side uid e = false

abbrev pub OfGrants : Side → Type 0 → Type 0
OfGrants Grants T = T
OfGrants Ends T = Unit {0}

abbrev pub OfEnds : Side → Type 0 → Type 0
OfEnds Grants T = Unit {0}
OfEnds Ends T = T

not_some : (uid : ℕ) → None ≡ Some uid → ⊥
not_some uid is = absurd cc

grant_not : (side : Side) (old : Option ℕ) (own uid : ℕ) → IsGrantUse side old own → (old ≡ Some uid → ⊥) → of_grants side (own == uid) ≡ false
grant_not Grants old own uid is apart = ne_eqb own uid (λ same. apart (is ∙ ap (λ (n : ℕ). Some n) same))
grant_not Ends old own uid is apart = refl

end_not : (side : Side) (old : Option ℕ) (own uid : ℕ) → IsEndUse side old own → (old ≡ Some uid → ⊥) → of_ends side (own == uid) ≡ false
end_not Grants old own uid is apart = refl
end_not Ends old own uid is apart = ne_eqb own uid (λ same. apart (is ∙ ap (λ (n : ℕ). Some n) same))

grant_behind : (side : Side) (old : Option ℕ) (own uid : ℕ) → behind_grant side old ≡ Some uid → (old ≡ Some uid) × (of_grants side (own == uid) ≡ false)
grant_behind Grants old own uid is = absurd (not_some uid is)
grant_behind Ends old own uid is = (is, refl)

end_behind : (side : Side) (old : Option ℕ) (own uid : ℕ) → behind_end side old ≡ Some uid → (old ≡ Some uid) × (of_ends side (own == uid) ≡ false)
end_behind Grants old own uid is = (is, refl)
end_behind Ends old own uid is = absurd (not_some uid is)

grant_first : (side : Side) (old : Option ℕ) (own : ℕ) (T : Type 0) → IsGrantUse side old own → (old ≡ Some own → T) → OfGrants side T
grant_first Grants old own T is none = none is
grant_first Ends old own T is none = tt

end_first : (side : Side) (old : Option ℕ) (own : ℕ) (T : Type 0) → IsEndUse side old own → (old ≡ Some own → T) → OfEnds side T
end_first Grants old own T is none = tt
end_first Ends old own T is none = none is

abbrev pub FileAgrees : ServedFile → Type 0
FileAgrees s = Agrees s.file.activity s.file.layout.phase

module _ (side : Side) where
  -- ---- entries that do not use up a uid

  abbrev pub HasNone : ℕ → List Entry → Type 0
  HasNone uid entries = list_any (uses_uid side uid) entries ≡ false

  none_join : (uid : ℕ) (a b : List Entry) → HasNone uid a → HasNone uid b → HasNone uid (a ++ b)
  none_join uid a b first second = list_any-append (uses_uid side uid) a b ∙ or_from (list_any (uses_uid side uid) a) (list_any (uses_uid side uid) b) first second

  none_push : (uid : ℕ) (a : List Entry) (e : Entry) → HasNone uid a → uses_uid side uid e ≡ false → HasNone uid (a ++ e ∷ [])
  none_push uid a e first is = none_join uid a (e ∷ []) first (or_from (uses_uid side uid e) false is refl)

  quiet_none : (uid : ℕ) (e : Entry) → is_quiet e ≡ true → uses_uid side uid e ≡ false
  quiet_none uid (entry.Granted file cred holder) is = absurd cc
  quiet_none uid (entry.Ended file cred cause) is = absurd cc
  quiet_none uid e is = refl

  -- where it is a grant, or an end, it is the first of its uid
  abbrev pub IsFirst : List Entry → Entry → Type 0
  IsFirst past (entry.Granted file cred holder) = OfGrants side (HasNone cred.0 past)
  IsFirst past (entry.Ended file cred cause) = OfEnds side (HasNone cred.0 past)
  IsFirst past e = Unit {0}

  quiet_first : (past : List Entry) (e : Entry) → is_quiet e ≡ true → IsFirst past e
  quiet_first past (entry.Granted file cred holder) is = absurd cc
  quiet_first past (entry.Ended file cred cause) is = absurd cc
  quiet_first past e is = tt

  -- ---- one entry of a file

  entry_not : (old : Option ℕ) (e : Entry) → IsUseOf side old e → (uid : ℕ) → (old ≡ Some uid → ⊥) → uses_uid side uid e ≡ false
  entry_not old (entry.Granted file cred holder) is uid apart = grant_not side old cred.0 uid is apart
  entry_not old (entry.Ended file cred cause) is uid apart = end_not side old cred.0 uid is apart
  entry_not old e is uid apart = refl

  -- the uid that is left was there before it, and is not the one that it uses up
  entry_behind : (old : Option ℕ) (e : Entry) (uid : ℕ) → uid_behind side old e ≡ Some uid → (old ≡ Some uid) × (uses_uid side uid e ≡ false)
  entry_behind old (entry.Granted file cred holder) uid is = grant_behind side old cred.0 uid is
  entry_behind old (entry.Ended file cred cause) uid is = end_behind side old cred.0 uid is
  entry_behind old e uid is = (is, refl)

  entry_first : (past : List Entry) (old : Option ℕ) (e : Entry) → IsUseOf side old e → ((uid : ℕ) → old ≡ Some uid → HasNone uid past) → IsFirst past e
  entry_first past old (entry.Granted file cred holder) is none = grant_first side old cred.0 (HasNone cred.0 past) is (none cred.0)
  entry_first past old (entry.Ended file cred cause) is none = end_first side old cred.0 (HasNone cred.0 past) is (none cred.0)
  entry_first past old e is none = tt

  -- ---- the entries of an input

  only_old : (fresh after : ℕ) (old : Option ℕ) (entries : List Entry) (new : Option ℕ) → Uses side fresh after old entries new → (uid : ℕ) → (old ≡ Some uid → ⊥) → HasNone uid entries
  only_old fresh after old [] new u uid apart = refl
  only_old fresh after old (e ∷ entries) new u uid apart =
      or_from (uses_uid side uid e) (list_any (uses_uid side uid) entries) (entry_not old e u.0 uid apart)
      (only_old fresh after (uid_behind side old e) entries new u.1 uid (λ is. apart (entry_behind old e uid is).0))

  -- where the file's uid comes from: it had it before and it was not used up, or it was drawn
  pub data Came (fresh after : ℕ) (old : Option ℕ) (entries : List Entry) (uid : ℕ) : Type 0 where
    Was : old ≡ Some uid → HasNone uid entries → Came fresh after old entries uid
    IsDrawn : uid ≡ fresh → fresh < after → Came fresh after old entries uid

  pub came_of : (fresh after : ℕ) (old : Option ℕ) (entries : List Entry) (new : Option ℕ) → Uses side fresh after old entries new → (uid : ℕ) → new ≡ Some uid → Came fresh after old entries uid
  came_of fresh after old [] new (Keeps same) uid is = Was (sym same ∙ is) refl
  came_of fresh after old [] new (Draws same less) uid is = IsDrawn (sym (same_Some fresh uid (sym same ∙ is))) less
  came_of fresh after old (e ∷ entries) new u uid is = further (came_of fresh after (uid_behind side old e) entries new u.1 uid is)
    where
      further : Came fresh after (uid_behind side old e) entries uid → Came fresh after old (e ∷ entries) uid
      further (Was was none) =
          let behind = entry_behind old e uid was in
          Was behind.0 (or_from (uses_uid side uid e) (list_any (uses_uid side uid) entries) behind.1 none)
      further (IsDrawn new less) = IsDrawn new less

  each_run : (fresh after : ℕ) (past : List Entry) (old : Option ℕ) (entries : List Entry) (new : Option ℕ) → Uses side fresh after old entries new → ((uid : ℕ) → old ≡ Some uid → HasNone uid past) → EachOf IsFirst past entries
  each_run fresh after past old [] new u none = tt
  each_run fresh after past old (e ∷ entries) new u none = (
    entry_first past old e u.0 none,
    each_run fresh after (past ++ e ∷ []) (uid_behind side old e) entries new u.1
        (λ uid is. let behind = entry_behind old e uid is in none_push uid past e (none uid behind.0) behind.1),
  )

  -- ---- all files

  abbrev pub AreUnspent : ℕ → List ServedFile → List Entry → Type 0
  AreUnspent fresh files es = (place : ℕ) (s : ServedFile) (uid : ℕ) → slice_get files place ≡ Some s → uid_of side s.file.layout ≡ Some uid → (uid < fresh) × HasNone uid es

  abbrev pub AreApart : List ServedFile → Type 0
  AreApart files = (i j : ℕ) (s t : ServedFile) (uid : ℕ) → slice_get files i ≡ Some s → slice_get files j ≡ Some t → uid_of side s.file.layout ≡ Some uid → uid_of side t.file.layout ≡ Some uid → i ≡ j

  -- a uid that was not drawn was not used up
  abbrev pub AreUnused : ℕ → List Entry → Type 0
  AreUnused fresh es = (uid : ℕ) → fresh ≤ uid → HasNone uid es

  -- of the files, and of what was entered
  pub record Once (fresh : ℕ) (files : List ServedFile) (es : List Entry) : Type 0 where
    pub agree : AllOf FileAgrees files
    pub unspent : AreUnspent fresh files es
    pub apart : AreApart files
    pub unused : AreUnused fresh es
    pub each : EachOf IsFirst [] es

  record Stands (fresh : ℕ) (files : List ServedFile) (calls : List AwaitedCall) (es : List Entry) (ss : List MdsSend) : Type 0 where
    pub once : Once fresh files es
    pub were : WereSent calls ss

  abbrev IsSo : MdsValue → List Entry → List MdsSend → Type 0
  IsSo m es ss = Stands m.fresh.uid m.files m.calls es ss

  -- ---- one file changes, and what is entered is of it

  module _ (fresh after : ℕ) (files : List ServedFile) (es entries : List Entry) (place : ℕ) (s t : ServedFile) (at : slice_get files place ≡ Some s) (uses : Uses side fresh after (uid_of side s.file.layout) entries (uid_of side t.file.layout))
      (more : fresh ≤ after) (i : Once fresh files es) where
    -- what is at a place afterwards
    data IsAt (j : ℕ) (x : ServedFile) : Type 0 where
      Changed : j ≡ place → t ≡ x → IsAt j x
      Stayed : (j ≡ place → ⊥) → slice_get files j ≡ Some x → IsAt j x

    at_now : (j : ℕ) (x : ServedFile) → slice_get (slice_set files place t) j ≡ Some x → IsAt j x
    at_now j x got = by_place (cases_eq j place)
      where
        by_place : (j ≡ place) ⊎ (j ≡ place → ⊥) → IsAt j x
        by_place (inl same) = Changed same (same_Some t x (sym (slice_get-set_same files place s t at) ∙ ap (slice_get (slice_set files place t)) (sym same) ∙ got))
        by_place (inr ne) = Stayed ne (sym (slice_get-set_other files place j t ne) ∙ got)

    -- the uid of the file was that of no other, also where it was drawn
    new_below : (uid : ℕ) → Came fresh after (uid_of side s.file.layout) entries uid → (uid < after) × HasNone uid (es ++ entries)
    new_below uid (Was was none) =
        let old : (uid < fresh) × HasNone uid es = i.unspent place s uid at was in
        (omega (arith, old.0, more), none_join uid es entries old.1 none)
    new_below uid (IsDrawn is less) = (
      omega (arith, is, less),
      none_join uid es entries (i.unused uid (omega (arith, is))) (only_old fresh after (uid_of side s.file.layout) entries (uid_of side t.file.layout) uses uid (λ was. not_below uid (i.unspent place s uid at was).0 is)),
    )
      where
        not_below : (n : ℕ) → n < fresh → n ≡ fresh → ⊥
        not_below n below same = omega (arith, below, same)

    set_unspent : AreUnspent after (slice_set files place t) (es ++ entries)
    set_unspent j x uid got next = by_place (at_now j x got)
      where
        by_place : IsAt j x → (uid < after) × HasNone uid (es ++ entries)
        by_place (Changed same is) = new_below uid (came_of fresh after (uid_of side s.file.layout) entries (uid_of side t.file.layout) uses uid (ap (λ (y : ServedFile). uid_of side y.file.layout) is ∙ next))
        by_place (Stayed ne old) =
            let its : (uid < fresh) × HasNone uid es = i.unspent j x uid old next in (
              omega (arith, its.0, more),
              none_join uid es entries its.1 (only_old fresh after (uid_of side s.file.layout) entries (uid_of side t.file.layout) uses uid (λ was. ne (i.apart j place x s uid old at next was))),
            )

    other_apart : (j : ℕ) (x : ServedFile) (uid : ℕ) → (j ≡ place → ⊥) → slice_get files j ≡ Some x → uid_of side x.file.layout ≡ Some uid → Came fresh after (uid_of side s.file.layout) entries uid → ⊥
    other_apart j x uid ne old next (Was was none) = ne (i.apart j place x s uid old at next was)
    other_apart j x uid ne old next (IsDrawn is less) = not_below (i.unspent j x uid old next).0
      where
        not_below : uid < fresh → ⊥
        not_below below = omega (arith, below, is)

    came_now : (x : ServedFile) (uid : ℕ) → t ≡ x → uid_of side x.file.layout ≡ Some uid → Came fresh after (uid_of side s.file.layout) entries uid
    came_now x uid is next = came_of fresh after (uid_of side s.file.layout) entries (uid_of side t.file.layout) uses uid (ap (λ (y : ServedFile). uid_of side y.file.layout) is ∙ next)

    set_apart : AreApart (slice_set files place t)
    set_apart j k x y uid got other its also = by_place (at_now j x got) (at_now k y other)
      where
        by_place : IsAt j x → IsAt k y → j ≡ k
        by_place (Changed same is) (Changed too those) = same ∙ sym too
        by_place (Changed same is) (Stayed ne old) = absurd (other_apart k y uid ne old also (came_now x uid is its))
        by_place (Stayed ne old) (Changed too those) = absurd (other_apart j x uid ne old its (came_now y uid those also))
        by_place (Stayed ne old) (Stayed off was) = i.apart j k x y uid old was its also

    set_unused : AreUnused after (es ++ entries)
    set_unused uid above =
        none_join uid es entries (i.unused uid (omega (arith, above, more)))
        (only_old fresh after (uid_of side s.file.layout) entries (uid_of side t.file.layout) uses uid (λ was. not_below (i.unspent place s uid at was).0))
      where
        not_below : uid < fresh → ⊥
        not_below below = omega (arith, below, above, more)

    set_once : FileAgrees t → Once after (slice_set files place t) (es ++ entries)
    set_once its = record {
      agree = all_set FileAgrees files place t i.agree its;
      unspent = set_unspent;
      apart = set_apart;
      unused = set_unused;
      each = each_join IsFirst [] es entries i.each (each_run fresh after es (uid_of side s.file.layout) entries (uid_of side t.file.layout) uses (λ uid was. (i.unspent place s uid at was).1));
    }

  -- ---- the cases

  -- a file is put back with the same layout
  same_once : (m : MdsValue) (file : FileId) (s t : ServedFile) → served m file ≡ Some s → t.file.layout ≡ s.file.layout → FileAgrees t → (es : List Entry) → Once m.fresh.uid m.files es → Once m.fresh.uid (slice_set m.files (file.0 - 1) t) es
  same_once m file s t at same its es i =
      subst (λ (l : List Entry). Once m.fresh.uid (slice_set m.files (file.0 - 1) t) l) (append-nil es)
      (set_once m.fresh.uid m.fresh.uid m.files es [] (file.0 - 1) s t (place_served m file s at).1 (Keeps (ap (λ (l : LayoutState). uid_of side l) same)) (omega arith) i its)

  agrees_served : (m : MdsValue) (file : FileId) (s : ServedFile) → served m file ≡ Some s → AllOf FileAgrees m.files → FileAgrees s
  agrees_served m file s at all = all_got FileAgrees m.files (file.0 - 1) s all (place_served m file s at).1

  puts : (m : MdsValue) (file : FileId) (s t : ServedFile) → served m file ≡ Some s → t.file ≡ s.file → (es : List Entry) → Once m.fresh.uid m.files es → Once m.fresh.uid (slice_set m.files (file.0 - 1) t) es
  puts m file s t at same es i =
      same_once m file s t at (ap (λ (f : MdsFile). f.layout) same) (subst (λ (f : MdsFile). Agrees f.activity f.layout.phase) (sym same) (agrees_served m file s at i.agree)) es i

  inputs : (m : MdsValue) (file : FileId) (s : ServedFile) (input : FileInput) → served m file ≡ Some s → (es : List Entry) (ss : List MdsSend) → IsSo m es ss
      → IsSo (file_stepped m file s (phase file s.file input m.fresh)).mds (es ++ (phase file s.file input m.fresh).entries) ss
  inputs m file s input at es ss i =
      let step : FileStep = phase file s.file input m.fresh in
      let n : MdsValue = with_served (record m { fresh = drawn m.fresh step }) file (file_behind s step) in
      let uses = phase_uses side file m.fresh s.file input (agrees_served m file s at i.once.agree) in
      let new : Stands n.fresh.uid n.files n.calls (es ++ step.entries) ss = record {
        once = set_once m.fresh.uid (m.fresh.uid + step.uids) m.files es step.entries (file.0 - 1) s (file_behind s step) (place_served m file s at).1 uses.0 (omega arith) i.once uses.1;
        were = i.were;
      } in
      cond_both (list_any is_period_end step.entries) (record n { recalls = without_file file n.recalls }) n (λ (x : MdsValue). Stands x.fresh.uid x.files x.calls (es ++ step.entries) ss) (λ end. new) (λ other. new)

  -- a new file, with a uid that was drawn
  module _ (fresh : ℕ) (files : List ServedFile) (es : List Entry) (t : ServedFile) (drew : uid_of side t.file.layout ≡ Some fresh) (i : Once fresh files es) where
    fresh_uid : (x : ServedFile) (uid : ℕ) → x ≡ t → uid_of side x.file.layout ≡ Some uid → uid ≡ fresh
    fresh_uid x uid is next = sym (same_Some fresh uid (sym drew ∙ ap (λ (y : ServedFile). uid_of side y.file.layout) (sym is) ∙ next))

    push_unspent : AreUnspent (fresh + 1) (files ++ t ∷ []) es
    push_unspent j x uid got next = by_place (pushed files t j x got)
      where
        by_place : Pushed files t j x → (uid < fresh + 1) × HasNone uid es
        by_place (Old at) = let its : (uid < fresh) × HasNone uid es = i.unspent j x uid at next in (omega (arith, its.0), its.1)
        by_place (New at is) = let its : uid ≡ fresh = fresh_uid x uid is next in (omega (arith, its), i.unused uid (omega (arith, its)))

    old_is_not : (j : ℕ) (x y : ServedFile) (uid : ℕ) → slice_get files j ≡ Some x → uid_of side x.file.layout ≡ Some uid → y ≡ t → uid_of side y.file.layout ≡ Some uid → ⊥
    old_is_not j x y uid at next is also = not_below (i.unspent j x uid at next).0 (fresh_uid y uid is also)
      where
        not_below : uid < fresh → uid ≡ fresh → ⊥
        not_below below same = omega (arith, below, same)

    push_apart : AreApart (files ++ t ∷ [])
    push_apart j k x y uid got other its also = by_place (pushed files t j x got) (pushed files t k y other)
      where
        by_place : Pushed files t j x → Pushed files t k y → j ≡ k
        by_place (Old at) (Old there) = i.apart j k x y uid at there its also
        by_place (Old at) (New there is) = absurd (old_is_not j x y uid at its is also)
        by_place (New at is) (Old there) = absurd (old_is_not k y x uid there also is its)
        by_place (New at is) (New there too) = at ∙ sym there

    push_once : FileAgrees t → Once (fresh + 1) (files ++ t ∷ []) es
    push_once its = record {
      agree = all_push FileAgrees files t i.agree its;
      unspent = push_unspent;
      apart = push_apart;
      unused = λ uid above. i.unused uid (omega (arith, above));
      each = i.each;
    }

  makes : (m : MdsValue) (name : List ℕ) (es : List Entry) (ss : List MdsSend) → IsSo m es ss → IsSo (with_new_file m name) es ss
  makes m name es ss i = record {
    once = push_once m.fresh.uid m.files es (new_served name (new_mds_file m.fresh (servers_of (length m.servers) m.mirrors (length m.files + 1)))) refl i.once refl;
    were = i.were;
  }

  -- what is no grant and no end
  notes : (fresh : ℕ) (files : List ServedFile) (es : List Entry) (e : Entry) → is_quiet e ≡ true → Once fresh files es → Once fresh files (es ++ e ∷ [])
  notes fresh files es e quiet i = record {
    agree = i.agree;
    unspent = λ place s uid got next. let its = i.unspent place s uid got next in (its.0, none_push uid es e its.1 (quiet_none uid e quiet));
    apart = i.apart;
    unused = λ uid above. none_push uid es e (i.unused uid above) (quiet_none uid e quiet);
    each = each_push IsFirst [] es e i.each (quiet_first es e quiet);
  }

  -- a call goes out
  called : (fresh : ℕ) (files : List ServedFile) (calls : List AwaitedCall) (call : AwaitedCall) (es : List Entry) (ss : List MdsSend) → Once fresh files es → WereSent calls ss → Stands fresh files (with_call call calls) (es ++ []) (ss ++ call.sent ∷ [])
  called fresh files calls call es ss once were =
      subst (λ (l : List Entry). Stands fresh files (with_call call calls) l (ss ++ call.sent ∷ [])) (sym (append-nil es)) (record { once = once; were = sent_with calls ss call were })

  sends : (m : MdsValue) (es : List Entry) (ss : List MdsSend) (s : MdsSend) → IsSo m es ss → IsSo m es (ss ++ s ∷ [])
  sends m es ss s i = record { once = i.once; were = sent_more m.calls ss s i.were }

  cases : Cases IsSo HeardAny
  cases = record {
    quiet = λ m confirmed opens reclaimed recalls es ss i. i;
    tables = λ m move is es ss i. i;
    replies = λ m node reply es ss i. sends m es ss (Replies node reply) i;
    answers = λ m node bytes reply is es ss i. sends m es ss (Answers node bytes) i;
    notes = λ m e note es ss i. record { once = notes m.fresh.uid m.files es e (note_quiet e note) i.once; were = i.were };
    puts = λ m file s t at same write es ss i. record { once = puts m file s t at same es i.once; were = i.were };
    inputs = λ m file s input itself at fresh es ss i. inputs m file s input at es ss i;
    timeouts = λ m file s xid at fresh es ss i. inputs m file s (TimesOut xid) at es ss i;
    hears = λ m file s call server own uid c replies heard caller sent out at fresh es ss i. inputs m file s (IsAnswer call.xid (own_answer c (replies c))) at es ss i;
    learns = λ m file s call server own uid c replies fileid shown heard caller sent named shows at fresh es ss i. inputs m file s (Sees (record { server = server; fileid = fileid }) shown.seen) at es ss i;
    makes = λ m name may. makes m name;
    calls_file = λ m file s c at has its es ss i.
        called m.fresh.uid (slice_set m.files (file.0 - 1) (record s { file = c.file })) m.calls (record { node = Server c.server; xid = m.next_xid; caller = ForFile file; sent = CallsServer c.server m.next_xid c.uid c.call }) es ss
        (same_once m file s (record s { file = c.file }) at (out_layout s.file m.next_xid c its) (out_agrees s.file m.next_xid c (agrees_served m file s at i.once.agree) its) es i.once) i.were;
    calls_write = λ m file s w c at has waits its is_write es ss i.
        called m.fresh.uid (slice_set m.files (file.0 - 1) (record s { write = Some (record w { writer = c.writer }) })) m.calls
        (record { node = Server c.id.server; xid = m.next_xid; caller = ForWrite file; sent = CallsServer c.id.server m.next_xid w.writer.cred c.call }) es ss
        (puts m file s (record s { write = Some (record w { writer = c.writer }) }) at refl es i.once) i.were;
    calls_read = λ m file s t server call at has same write uid is_read es ss i.
        called m.fresh.uid (slice_set m.files (file.0 - 1) t) m.calls (record { node = Server server; xid = m.next_xid; caller = ForRead file; sent = CallsServer server m.next_xid 0 call }) es ss (puts m file s t at same es i.once) i.were;
    calls_back = λ m node back file stateid has es ss i.
        called m.fresh.uid m.files m.calls (record { node = node; xid = m.next_xid; caller = ForRecall; sent = CallsBack m.next_xid back file stateid }) es ss i.once i.were;
    skips = λ m has es ss i. i;
    forgets = λ m test es ss i. record { once = i.once; were = sent_kept test m.calls ss i.were };
    was = λ m es ss i. i.were;
    again = λ m s es ss i inside. sends m es ss s i;
  }

  begun : (servers : List AddressValue) (mirrors : ℕ) → IsSo (new_mds servers mirrors) [] []
  begun servers mirrors = record {
    once = record {
      agree = tt;
      unspent = λ place s uid got next. absurd (none-some s got);
      apart = λ i j s t uid got other its also. absurd (none-some s got);
      unused = λ uid above. refl;
      each = tt;
    };
    were = λ call inside. absurd inside;
  }

  -- behind each run
  pub run_once : (servers : List AddressValue) (mirrors : ℕ) (events : List MdsEvent) → Once (mds_run servers mirrors events).mds.fresh.uid (mds_run servers mirrors events).mds.files (mds_run servers mirrors events).entries
  run_once servers mirrors events = (in_each_run IsSo cases (λ m request now es ss i. i) (new_mds servers mirrors) events (begun servers mirrors)).once
