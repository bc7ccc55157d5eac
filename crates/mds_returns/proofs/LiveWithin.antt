-- What the entries of an input of the table of phases leave of a live list that has none but mirrors of the file.
use Rattle.std.proofs.Common.{◌≡◌, ℕ, Bool, true, false, cond, List, [], ◌∷◌, ◌++◌, Option, Some, None, refl, sym, ap, subst, ◌∙◌, inl, inr, ◌⊎◌}
use Rattle.std.specs.Prelude.{◌==◌, ◌&&◌, not, map, filter, is_some, if◌then◌else◌}
use Rattle.std.specs.List.{AllByRecursion}
use Rattle.std.proofs.lemmas.Bool.{cond_both}
use Rattle.std.proofs.lemmas.Option.{same_Some}
use Rattle.cluster_model.specs.declared.ids.NodeId.{NodeId}
use Rattle.cluster_model.specs.declared.ids.NodeId.TheVariants.{Mds, Server, Client}
use Rattle.cluster_model.specs.declared.ids.FileId.{FileId}
use Rattle.cluster_model.specs.declared.ids.Cred.{Cred}
use Rattle.cluster_model.specs.declared.ids.Mirror.{Mirror}
use Rattle.cluster_model.specs.declared.ids.MirrorId.{MirrorId}
use Rattle.cluster_model.specs.declared.phase.EndCause.{EndCause}
use Rattle.cluster_model.specs.declared.phase.EndCause.TheVariants.{Returned, Own}
use Rattle.cluster_model.specs.declared.phase.LeftCause.{LeftCause}
use Rattle.cluster_model.specs.declared.entry.Entry.{Entry}
use Rattle.cluster_model.specs.declared.entry.Entry.TheVariants as entry
use Rattle.cluster_model.specs.declared.layout_state.LayoutState.{LayoutState}
use Rattle.cluster_model.specs.declared.layout_state.LayoutPhase.{LayoutPhase}
use Rattle.cluster_model.specs.declared.layout_state.LayoutPhase.TheVariants.{Making, Free, Held, Fencing, Settling, Copying}
use Rattle.cluster_model.specs.Journal.{is_mirror}
use Rattle.cluster_model.specs.Phases.{ids_of, unreported, left_entries, reported_cause, left_with, end_entries, returned}
use Rattle.cluster_model.specs.Members.{IsOneOf}
use Rattle.file_rule.specs.declared.fresh.Fresh.{Fresh}
use Rattle.file_rule.specs.MdsFiles.{MdsFile, FileStep, nothing, a_uid, goes_fencing}
use Rattle.file_rule.specs.FilePhases.{FileInput, AsksLayout, OwnWrite, Recall, Returns, Revokes, OwnEnds, Resilver, Answers, TimesOut, Ticks, Sees, held_in, by_client, by_mds, returned_row, own_row, phase}
use Rattle.cluster_laws.specs.FenceLaw.{is_file, live_after, live_by, changed_live, first_free, swapped_in}
use Rattle.cluster_laws.proofs.Invariant.{live_of}
use Rattle.cluster_laws.proofs.Journals.{live_append}
use Rattle.cluster_laws.proofs.Lists.{all_append}
use Rattle.cluster_laws.proofs.Lives.{own_file, itself}
use Rattle.mds_walk.proofs.Lists.{in_more, in_last, in_filtered}
use Rattle.mds_replies.proofs.Turns.{in_pushed}
use Rattle.mds_replies.proofs.MirrorsTold.{IsOf, told, Fits, Tells, phase_tells}

-- ---- live lists within others

-- each mirror of the first is one of the second, and both are known or neither is
abbrev pub Within : Option (List MirrorId) → Option (List MirrorId) → Type 0
Within None None = Unit {0}
Within None (Some ks) = ⊥
Within (Some ids) None = ⊥
Within (Some ids) (Some ks) = (id : MirrorId) → IsOneOf id ids → IsOneOf id ks

passes : (p : MirrorId → Bool) (ids : List MirrorId) (id : MirrorId) → IsOneOf id (filter p ids) → p id ≡ true
passes p [] id inside = absurd inside
passes p (k ∷ ids) id inside = by_test (p k) refl inside (passes p ids id)
  where
    by_test : (b : Bool) → p k ≡ b → IsOneOf id (cond b (k ∷ filter p ids) (filter p ids)) → (IsOneOf id (filter p ids) → p id ≡ true) → p id ≡ true
    by_test true at (inl is) rest = ap p is ∙ at
    by_test true at (inr its) rest = rest its
    by_test false at its rest = rest its

in_filter : (p : MirrorId → Bool) (ks : List MirrorId) (id : MirrorId) → IsOneOf id ks → p id ≡ true → IsOneOf id (filter p ks)
in_filter p [] id inside on = absurd inside
in_filter p (k ∷ ks) id (inl is) on = by_test (p k) (sym (ap p is) ∙ on)
  where
    by_test : (b : Bool) → b ≡ true → IsOneOf id (cond b (k ∷ filter p ks) (filter p ks))
    by_test true at = inl is
    by_test false at = absurd cc
in_filter p (k ∷ ks) id (inr its) on = by_test (p k) (in_filter p ks id its on)
  where
    by_test : (b : Bool) → IsOneOf id (filter p ks) → IsOneOf id (cond b (k ∷ filter p ks) (filter p ks))
    by_test true there = inr there
    by_test false there = there

in_map : (f : MirrorId → MirrorId) (x : MirrorId) (ks : List MirrorId) → IsOneOf x ks → IsOneOf (f x) (map f ks)
in_map f x [] inside = absurd inside
in_map f x (k ∷ ks) (inl is) = inl (ap f is)
in_map f x (k ∷ ks) (inr its) = inr (in_map f x ks its)

map_within : (f : MirrorId → MirrorId) (ids ks : List MirrorId) → ((id : MirrorId) → IsOneOf id ids → IsOneOf id ks) → (id : MirrorId) → IsOneOf id (map f ids) → IsOneOf id (map f ks)
map_within f [] ks all id inside = absurd inside
map_within f (x ∷ ids) ks all id (inl is) = subst (λ (y : MirrorId). IsOneOf y (map f ks)) (sym is) (in_map f x ks (all x (inl refl)))
map_within f (x ∷ ids) ks all id (inr its) = map_within f ids ks (λ y inside. all y (inr inside)) id its

swap_within : (old : Option MirrorId) (new : MirrorId) (ids ks : List MirrorId) → ((id : MirrorId) → IsOneOf id ids → IsOneOf id ks) → (id : MirrorId) → IsOneOf id (swapped_in old new ids) → IsOneOf id (swapped_in old new ks)
swap_within None new ids ks all id inside = by_place (in_pushed id new ids inside)
  where
    by_place : IsOneOf id ids ⊎ (id ≡ new) → IsOneOf id (ks ++ new ∷ [])
    by_place (inl was) = in_more id ks (new ∷ []) (all id was)
    by_place (inr is) = subst (λ (x : MirrorId). IsOneOf x (ks ++ new ∷ [])) (sym is) (in_last new ks)
swap_within (Some old) new ids ks all id inside = map_within (λ (m : MirrorId). if is_mirror m old then new else m) ids ks all id inside

free_within : (mirrors : List MirrorId) (a b : Option (List MirrorId)) → Within a b → Within (first_free mirrors a) (first_free mirrors b)
free_within mirrors None None w = λ id inside. inside
free_within mirrors None (Some ks) w = absurd w
free_within mirrors (Some ids) None w = absurd w
free_within mirrors (Some ids) (Some ks) w = w

changed_within : (change : List MirrorId → List MirrorId) → ((ids ks : List MirrorId) → ((id : MirrorId) → IsOneOf id ids → IsOneOf id ks) → (id : MirrorId) → IsOneOf id (change ids) → IsOneOf id (change ks)) → (a b : Option (List MirrorId))
    → Within a b → Within (changed_live change a) (changed_live change b)
changed_within change keeps None None w = tt
changed_within change keeps None (Some ks) w = absurd w
changed_within change keeps (Some ids) None w = absurd w
changed_within change keeps (Some ids) (Some ks) w = keeps ids ks w

filter_within : (p : MirrorId → Bool) (ids ks : List MirrorId) → ((id : MirrorId) → IsOneOf id ids → IsOneOf id ks) → (id : MirrorId) → IsOneOf id (filter p ids) → IsOneOf id (filter p ks)
filter_within p ids ks all id inside = in_filter p ks id (all id (in_filtered p id ids inside)) (passes p ids id inside)

by_file : (b : Bool) (x y a c : Option (List MirrorId)) → Within x y → Within a c → Within (cond b x a) (cond b y c)
by_file true x y a c its other = its
by_file false x y a c its other = other

within_after : (g : FileId) (e : Entry) (a b : Option (List MirrorId)) → Within a b → Within (live_after g a e) (live_after g b e)
within_after g (entry.Free file mirrors) a b w = by_file (is_file file g) (first_free mirrors a) (first_free mirrors b) a b (free_within mirrors a b w) w
within_after g (entry.Left file mirror cause) a b w =
    by_file (is_file file g) (changed_live (filter (λ m. not (is_mirror m mirror))) a) (changed_live (filter (λ m. not (is_mirror m mirror))) b) a b
    (changed_within (filter (λ m. not (is_mirror m mirror))) (filter_within (λ m. not (is_mirror m mirror))) a b w) w
within_after g (entry.Swapped file old new) a b w =
    by_file (is_file file g) (changed_live (swapped_in old new) a) (changed_live (swapped_in old new) b) a b (changed_within (swapped_in old new) (swap_within old new) a b w) w
within_after g e a b w = w

within_by : (g : FileId) (entries : List Entry) (a b : Option (List MirrorId)) → Within a b → Within (live_by g a entries) (live_by g b entries)
within_by g [] a b w = w
within_by g (e ∷ entries) a b w = within_by g entries (live_after g a e) (live_after g b e) (within_after g e a b w)

-- ---- mirrors that leave

-- what is left of a list of mirrors where those of this live list leave that have a cause
abbrev left_of : List (Option LeftCause) → List Mirror → List MirrorId → List MirrorId
left_of causes [] was = was
left_of [] (m ∷ live) was = was
left_of (None ∷ causes) (m ∷ live) was = left_of causes live was
left_of (Some cause ∷ causes) (m ∷ live) was = left_of causes live (filter (λ (k : MirrorId). not (is_mirror k m.id)) was)

left_is : (file : FileId) (causes : List (Option LeftCause)) (live : List Mirror) (was : List MirrorId) → live_by file (Some was) (left_entries file causes live) ≡ Some (left_of causes live was)
left_is file causes [] was = refl
left_is file [] (m ∷ live) was = refl
left_is file (None ∷ causes) (m ∷ live) was = left_is file causes live was
left_is file (Some cause ∷ causes) (m ∷ live) was =
    ap (λ (b : Bool). live_by file (cond b (Some (filter (λ (k : MirrorId). not (is_mirror k m.id)) was)) (Some was)) (left_entries file causes live)) (own_file file)
    ∙ left_is file causes live (filter (λ (k : MirrorId). not (is_mirror k m.id)) was)

left_was : (causes : List (Option LeftCause)) (live : List Mirror) (was : List MirrorId) (id : MirrorId) → IsOneOf id (left_of causes live was) → IsOneOf id was
left_was causes [] was id inside = inside
left_was [] (m ∷ live) was id inside = inside
left_was (None ∷ causes) (m ∷ live) was id inside = left_was causes live was id inside
left_was (Some cause ∷ causes) (m ∷ live) was id inside =
    in_filtered (λ (k : MirrorId). not (is_mirror k m.id)) id was (left_was causes live (filter (λ (k : MirrorId). not (is_mirror k m.id)) was) id inside)

-- one that is left, and is of the file, did not leave it
left_stays : (causes : List (Option LeftCause)) (live : List Mirror) (was : List MirrorId) (id : MirrorId) → IsOneOf id (left_of causes live was) → IsOneOf id (ids_of live) → IsOneOf id (ids_of (unreported (map is_some causes) live))
left_stays causes [] was id inside its = absurd its
left_stays [] (m ∷ live) was id inside its = its
left_stays (None ∷ causes) (m ∷ live) was id inside (inl is) = inl is
left_stays (None ∷ causes) (m ∷ live) was id inside (inr its) = inr (left_stays causes live was id inside its)
left_stays (Some cause ∷ causes) (m ∷ live) was id inside (inl is) =
    absurd (not_so (sym (ap not (ap (λ (x : MirrorId). is_mirror x m.id) is ∙ itself m.id))
    ∙ passes (λ (k : MirrorId). not (is_mirror k m.id)) was id (left_was causes live (filter (λ (k : MirrorId). not (is_mirror k m.id)) was) id inside)))
  where
    not_so : false ≡ true → ⊥
    not_so e = absurd cc
left_stays (Some cause ∷ causes) (m ∷ live) was id inside (inr its) = left_stays causes live (filter (λ (k : MirrorId). not (is_mirror k m.id)) was) id inside its

pub record IsLeft (causes : List (Option LeftCause)) (live : List Mirror) (id : MirrorId) : Type 0 where
  pub was : IsOneOf id (ids_of live)
  pub stays : IsOneOf id (ids_of (unreported (map is_some causes) live))

-- a mirror that is live behind the entries of those that leave
pub behind_left : (file : FileId) (causes : List (Option LeftCause)) (live : List Mirror) (w : Option (List MirrorId)) → Within w (Some (ids_of live)) → (ids : List MirrorId) → live_by file w (left_entries file causes live) ≡ Some ids → (id : MirrorId)
    → IsOneOf id ids → IsLeft causes live id
behind_left file causes live None w ids is id inside = absurd w
behind_left file causes live (Some was) w ids is id inside =
    let there : IsOneOf id (left_of causes live was) = subst (λ (l : List MirrorId). IsOneOf id l) (same_Some ids (left_of causes live was) (sym is ∙ left_is file causes live was)) inside in
    let its : IsOneOf id (ids_of live) = w id (left_was causes live was id there) in
    record { was = its; stays = left_stays causes live was id there its }

leave_within : (file : FileId) (causes : List (Option LeftCause)) (live : List Mirror) (was : List MirrorId) → ((id : MirrorId) → IsOneOf id was → IsOneOf id (ids_of live))
    → Within (live_by file (Some was) (left_entries file causes live)) (Some (ids_of (unreported (map is_some causes) live)))
leave_within file causes live was all =
    subst (λ (w : Option (List MirrorId)). Within w (Some (ids_of (unreported (map is_some causes) live)))) (sym (left_is file causes live was))
    (λ id inside. left_stays causes live was id inside (all id (left_was causes live was id inside)))

some_cause : (b : Bool) → is_some (reported_cause b) ≡ b
some_cause true = refl
some_cause false = refl

pub places_again : (places : List Bool) → map is_some (map reported_cause places) ≡ places
places_again [] = refl
places_again (b ∷ places) = ap (λ (c : Bool). c ∷ map is_some (map reported_cause places)) (some_cause b) ∙ ap (λ (l : List Bool). b ∷ l) (places_again places)

left_own : (file : FileId) (causes : List (Option LeftCause)) (live : List Mirror) → AllByRecursion (IsOf file) (left_entries file causes live)
left_own file causes [] = tt
left_own file [] (m ∷ live) = tt
left_own file (None ∷ causes) (m ∷ live) = left_own file causes live
left_own file (Some cause ∷ causes) (m ∷ live) = (refl, left_own file causes live)

-- ---- an input

-- behind its entries the live list has none but mirrors of the file, where it had before
pub record StaysWithin (file : FileId) (s : LayoutState) (x : FileStep) : Type 0 where
  pub live : (was : Option (List MirrorId)) → Within was (told s) → Within (live_by file was x.entries) (told x.file.layout)
  pub own : AllByRecursion (IsOf file) x.entries
  pub fits : Fits x.file.layout.phase x.file.activity

of_told : (file : FileId) (s : LayoutState) (x : FileStep) → Tells file s x → StaysWithin file s x
of_told file s x t = record {
  live = λ was w. subst (λ (l : Option (List MirrorId)). Within (live_by file was x.entries) l) t.live (within_by file x.entries was (told s) w);
  own = t.own;
  fits = t.fits;
}

module _ (file : FileId) (fresh : Fresh) where
  still : (f : MdsFile) → Fits f.layout.phase f.activity → StaysWithin file f.layout (nothing f)
  still f i = record { live = λ was w. w; own = tt; fits = i }

  end_live : (s : LayoutState) (left : List Entry) (cause : EndCause) (behind : List Mirror) → told s ≡ Some (ids_of s.live)
      → ((was : List MirrorId) → ((id : MirrorId) → IsOneOf id was → IsOneOf id (ids_of s.live)) → Within (live_by file (Some was) left) (Some (ids_of behind)))
      → (was : Option (List MirrorId)) → Within was (told s) → Within (live_by file was (left ++ entry.Ended file s.cred cause ∷ [])) (Some (ids_of behind))
  end_live s left cause behind held leave was w = by_list was (subst (λ (l : Option (List MirrorId)). Within was l) held w)
    where
      by_list : (o : Option (List MirrorId)) → Within o (Some (ids_of s.live)) → Within (live_by file o (left ++ entry.Ended file s.cred cause ∷ [])) (Some (ids_of behind))
      by_list None none = absurd none
      by_list (Some ids) all = subst (λ (l : Option (List MirrorId)). Within l (Some (ids_of behind))) (sym (live_append file (Some ids) left (entry.Ended file s.cred cause ∷ []))) (leave ids all)

  end_within : (s : LayoutState) (next : Cred) (left : List Entry) (cause : EndCause) (behind : List Mirror) (uid : ℕ) → told s ≡ Some (ids_of s.live)
      → ((was : List MirrorId) → ((id : MirrorId) → IsOneOf id was → IsOneOf id (ids_of s.live)) → Within (live_by file (Some was) left) (Some (ids_of behind))) → AllByRecursion (IsOf file) left
      → StaysWithin file s (goes_fencing (record { file = left_with s next behind; entries = end_entries file s.cred left cause behind }) uid)
  end_within s next left cause [] uid held leave own = record { live = λ was w. subst (λ (l : Option (List MirrorId)). Within was l) held w; own = (tt, tt); fits = refl }
  end_within s next left cause (m ∷ behind) uid held leave own = record {
    live = end_live s left cause (m ∷ behind) held leave;
    own = all_append (IsOf file) left (entry.Ended file s.cred cause ∷ []) own (tt, tt);
    fits = refl;
  }

  held_within : (f : MdsFile) (row : NodeId → FileStep) (p : LayoutPhase) → f.layout.phase ≡ p → Fits f.layout.phase f.activity → ((holder : NodeId) → told f.layout ≡ Some (ids_of f.layout.live) → StaysWithin file f.layout (row holder))
      → StaysWithin file f.layout (held_in f row p)
  held_within f row Making at i all = still f i
  held_within f row Free at i all = still f i
  held_within f row (Held holder is_recalled) at i all = all holder (ap (λ (q : LayoutPhase). live_of q (ids_of f.layout.live)) at)
  held_within f row (Fencing next end) at i all = still f i
  held_within f row (Settling copies) at i all = still f i
  held_within f row (Copying copier copies) at i all = still f i

  client_within : (f : MdsFile) (row : ℕ → FileStep) → Fits f.layout.phase f.activity → ((n : ℕ) → StaysWithin file f.layout (row n)) → (holder : NodeId) → StaysWithin file f.layout (by_client f row holder)
  client_within f row i all Mds = still f i
  client_within f row i all (Server n) = still f i
  client_within f row i all (Client n) = all n

  mds_within : (f : MdsFile) (row : FileStep) → Fits f.layout.phase f.activity → StaysWithin file f.layout row → (holder : NodeId) → StaysWithin file f.layout (by_mds f row holder)
  mds_within f row i its Mds = its
  mds_within f row i its (Server n) = still f i
  mds_within f row i its (Client n) = still f i

  returned_within : (f : MdsFile) (client : ℕ) (claimed : Cred) (places : List Bool) (holder : ℕ) → Fits f.layout.phase f.activity → told f.layout ≡ Some (ids_of f.layout.live)
      → StaysWithin file f.layout (returned_row file f client claimed places fresh holder)
  returned_within f client claimed places holder i held =
      cond_both (holder == client && (f.layout.cred.0 == claimed.0)) (goes_fencing (returned file f.layout places (a_uid fresh.uid)) fresh.uid) (nothing f) (λ (x : FileStep). StaysWithin file f.layout x)
      (λ is.
      end_within f.layout (a_uid fresh.uid) (left_entries file (map reported_cause places) f.layout.live) Returned (unreported places f.layout.live) fresh.uid held
      (λ was all.
      subst (λ (l : List Bool). Within (live_by file (Some was) (left_entries file (map reported_cause places) f.layout.live)) (Some (ids_of (unreported l f.layout.live)))) (places_again places)
      (leave_within file (map reported_cause places) f.layout.live was all))
      (left_own file (map reported_cause places) f.layout.live))
      (λ off. still f i)

  own_within : (f : MdsFile) (causes : List (Option LeftCause)) (at : ℕ) (bytes : List ℕ) → told f.layout ≡ Some (ids_of f.layout.live) → StaysWithin file f.layout (own_row file f causes (entry.Told file f.layout.cred at bytes) fresh)
  own_within f causes at bytes held =
      let said : List Entry = entry.Told file f.layout.cred at bytes ∷ [] in
      let left : List Entry = left_entries file causes f.layout.live in
      end_within f.layout (a_uid fresh.uid) (left ++ said) Own (unreported (map is_some causes) f.layout.live) fresh.uid held
      (λ was all.
      subst (λ (l : Option (List MirrorId)). Within l (Some (ids_of (unreported (map is_some causes) f.layout.live)))) (sym (live_append file (Some was) left said)) (leave_within file causes f.layout.live was all))
      (all_append (IsOf file) left said (left_own file causes f.layout.live) (tt, tt))

  -- each input of the table
  pub phase_within : (f : MdsFile) (input : FileInput) → Fits f.layout.phase f.activity → StaysWithin file f.layout (phase file f input fresh)
  phase_within f (Returns client claimed places) i =
      held_within f (by_client f (returned_row file f client claimed places fresh)) f.layout.phase refl i
      (λ holder held. client_within f (returned_row file f client claimed places fresh) i (λ n. returned_within f client claimed places n i held) holder)
  phase_within f (OwnEnds causes at bytes) i =
      held_within f (by_mds f (own_row file f causes (entry.Told file f.layout.cred at bytes) fresh)) f.layout.phase refl i
      (λ holder held. mds_within f (own_row file f causes (entry.Told file f.layout.cred at bytes) fresh) i (own_within f causes at bytes held) holder)
  phase_within f (AsksLayout client) i = of_told file f.layout (phase file f (AsksLayout client) fresh) (phase_tells file fresh f (AsksLayout client) i tt)
  phase_within f (OwnWrite at bytes) i = of_told file f.layout (phase file f (OwnWrite at bytes) fresh) (phase_tells file fresh f (OwnWrite at bytes) i tt)
  phase_within f Recall i = of_told file f.layout (phase file f Recall fresh) (phase_tells file fresh f Recall i tt)
  phase_within f (Revokes cause) i = of_told file f.layout (phase file f (Revokes cause) fresh) (phase_tells file fresh f (Revokes cause) i tt)
  phase_within f Resilver i = of_told file f.layout (phase file f Resilver fresh) (phase_tells file fresh f Resilver i tt)
  phase_within f (Answers xid reply) i = of_told file f.layout (phase file f (Answers xid reply) fresh) (phase_tells file fresh f (Answers xid reply) i tt)
  phase_within f (TimesOut xid) i = of_told file f.layout (phase file f (TimesOut xid) fresh) (phase_tells file fresh f (TimesOut xid) i tt)
  phase_within f Ticks i = of_told file f.layout (phase file f Ticks fresh) (phase_tells file fresh f Ticks i tt)
  phase_within f (Sees id seen) i = of_told file f.layout (phase file f (Sees id seen) fresh) (phase_tells file fresh f (Sees id seen) i tt)
