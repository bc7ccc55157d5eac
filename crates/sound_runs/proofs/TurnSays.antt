-- What the entries of a turn say of users and of other files.
use Rattle.std.proofs.Common.{◌≡◌, ℕ, Bool, true, false, cond, List, [], ◌∷◌, ◌++◌, Option, Some, None, refl, sym, ap, subst, ◌∙◌}
use Rattle.std.specs.List.{AllByRecursion}
use Rattle.std.proofs.lemmas.Bool.{ne_eqb}
use Rattle.cluster_model.specs.declared.ids.FileId.{FileId}
use Rattle.cluster_model.specs.declared.ids.NodeId.{NodeId}
use Rattle.cluster_model.specs.declared.ids.Cred.{Cred}
use Rattle.cluster_model.specs.declared.ids.MirrorId.{MirrorId}
use Rattle.cluster_model.specs.declared.ids.Mirror.{Mirror}
use Rattle.cluster_model.specs.declared.phase.EndCause.{EndCause}
use Rattle.cluster_model.specs.declared.phase.LeftCause.{LeftCause}
use Rattle.cluster_model.specs.declared.entry.Entry.{Entry}
use Rattle.cluster_model.specs.declared.entry.Entry.TheVariants as entry
use Rattle.cluster_model.specs.declared.targets.SwappedIn.{SwappedIn}
use Rattle.cluster_model.specs.declared.layout_state.LayoutState.{LayoutState}
use Rattle.cluster_model.specs.declared.layout_state.LayoutPhase.{LayoutPhase}
use Rattle.cluster_model.specs.declared.layout_state.LayoutPhase.TheVariants.{Making, Free, Held, Fencing, Settling, Copying}
use Rattle.cluster_model.specs.declared.layout_state.FenceEnd.{FenceEnd}
use Rattle.cluster_model.specs.declared.layout_state.FenceEnd.TheVariants.{Clean, Dirty, Copied}
use Rattle.cluster_model.specs.Phases.{ids_of, left_entries, swapped_entries, free_entries, is_clean, is_source, phase_without, after_loss}
use Rattle.cluster_laws.specs.Machine.{file_id, held_by_entry}
use Rattle.cluster_laws.specs.Periods.{grants}
use Rattle.cluster_laws.specs.Agreement.{sent_in, strayed_in, cause_in}
use Rattle.sound_journals.specs.Views.{FileView, view_after, view_by}
use Rattle.sound_journals.specs.Sound.{EndsNow, AfterEnd, AtAll, AtEnd, IsToldEntry, AreToldEntries}
use Rattle.cluster_laws.proofs.Lists.{all_append}
use Rattle.cluster_laws.proofs.Invariant.{is_idle}
use Rattle.sound_runs.proofs.FileTurns.{IsAlike, IsGrantWith, NoWrite, OneWrite, IsToldWith, NoneTold, OneTold, is_making, FileTurn, Rests, Learnt, Recalled, Grants, EndsDirty, EndsClean, Resilvers, Makes, Loses, FenceDone, Frees, CopyBegins, CopySwaps}

-- an entry of a file, which ends no period but that of this user
abbrev pub IsEntryOf : ℕ → ℕ → Entry → Type 0
IsEntryOf n c (entry.Free file mirrors) = file ≡ file_id n
IsEntryOf n c (entry.Granted file cred holder) = file ≡ file_id n
IsEntryOf n c (entry.Sent file cred at bytes) = file ≡ file_id n
IsEntryOf n c (entry.Told file cred at bytes) = file ≡ file_id n
IsEntryOf n c (entry.Ended file cred cause) = (file ≡ file_id n) × (cred.0 ≡ c)
IsEntryOf n c (entry.Left file mirror cause) = file ≡ file_id n
IsEntryOf n c (entry.Swapped file old new) = file ≡ file_id n
IsEntryOf n c (entry.Fenced file old new live) = file ≡ file_id n
IsEntryOf n c _ = ⊥

-- an entry that grants nothing, notes no write, and ends no period but that of this user
pub record IsPlain (c : ℕ) (e : Entry) : Type 0 where
  pub sent : (u : ℕ) → sent_in u e ≡ []
  pub strayed : (u : ℕ) → strayed_in u e ≡ []
  pub grants : (u : ℕ) → grants u e ≡ false
  pub held : (mirrors : List MirrorId) → held_by_entry mirrors e ≡ []
  pub causes : (u : ℕ) → (u ≡ c → ⊥) → cause_in u e ≡ []

-- a grant, with the write that it is for
pub record IsOneGrant (n : ℕ) (s x : LayoutState) (entries : List Entry) : Type 0 where
  pub free : s.phase ≡ Free
  pub holder : NodeId
  pub writes : List Entry
  pub taken : IsGrantWith n s.cred writes
  pub is : entries ≡ entry.Granted (file_id n) s.cred holder ∷ writes
  pub live : ids_of x.live ≡ ids_of s.live

abbrev pub is_held : LayoutPhase → Bool
is_held Making = false
is_held Free = false
is_held (Held holder is_recalled) = true
is_held (Fencing next end) = false
is_held (Settling copies) = false
is_held (Copying copier copies) = false

pub data TurnSays (n : ℕ) (s x : LayoutState) (entries : List Entry) : Type 0 where
  SaysGrant : IsOneGrant n s x entries → TurnSays n s x entries
  SaysEnd : is_held s.phase ≡ true → AllByRecursion (IsPlain s.cred.0) entries → TurnSays n s x entries
  SaysNone : ((c : ℕ) → AllByRecursion (IsPlain c) entries) → TurnSays n s x entries

-- ---- entries of each kind

none_in : (e : Entry) (c : ℕ) → ((u : ℕ) → sent_in u e ≡ []) → ((u : ℕ) → strayed_in u e ≡ []) → ((u : ℕ) → grants u e ≡ false) → ((mirrors : List MirrorId) → held_by_entry mirrors e ≡ []) → ((u : ℕ) → cause_in u e ≡ []) → IsPlain c e
none_in e c a b d g h = record { sent = a; strayed = b; grants = d; held = g; causes = λ u other. h u }

left_plain : (n : ℕ) (id : MirrorId) (cause : LeftCause) (c : ℕ) → IsPlain c (entry.Left (file_id n) id cause)
left_plain n id cause c = none_in (entry.Left (file_id n) id cause) c (λ u. refl) (λ u. refl) (λ u. refl) (λ m. refl) (λ u. refl)

free_plain : (n : ℕ) (ids : List MirrorId) (c : ℕ) → IsPlain c (entry.Free (file_id n) ids)
free_plain n ids c = none_in (entry.Free (file_id n) ids) c (λ u. refl) (λ u. refl) (λ u. refl) (λ m. refl) (λ u. refl)

told_plain : (n : ℕ) (cred : Cred) (at : ℕ) (bytes : List ℕ) (c : ℕ) → IsPlain c (entry.Told (file_id n) cred at bytes)
told_plain n cred at bytes c = none_in (entry.Told (file_id n) cred at bytes) c (λ u. refl) (λ u. refl) (λ u. refl) (λ m. refl) (λ u. refl)

fenced_plain : (n : ℕ) (old new : Cred) (ids : List MirrorId) (c : ℕ) → IsPlain c (entry.Fenced (file_id n) old new ids)
fenced_plain n old new ids c = none_in (entry.Fenced (file_id n) old new ids) c (λ u. refl) (λ u. refl) (λ u. refl) (λ m. refl) (λ u. refl)

swaps_plain : (n : ℕ) (targets : List SwappedIn) (c : ℕ) → AllByRecursion (IsPlain c) (swapped_entries (file_id n) targets)
swaps_plain n [] c = tt
swaps_plain n (t ∷ targets) c = (none_in (entry.Swapped (file_id n) t.old t.new.id) c (λ u. refl) (λ u. refl) (λ u. refl) (λ m. refl) (λ u. refl), swaps_plain n targets c)

lefts_plain : (n : ℕ) (causes : List (Option LeftCause)) (live : List Mirror) (c : ℕ) → AllByRecursion (IsPlain c) (left_entries (file_id n) causes live)
lefts_plain n causes [] c = tt
lefts_plain n [] (m ∷ live) c = tt
lefts_plain n (None ∷ causes) (m ∷ live) c = lefts_plain n causes live c
lefts_plain n (Some cause ∷ causes) (m ∷ live) c = (left_plain n m.id cause c, lefts_plain n causes live c)

frees_plain : (n : ℕ) (end : FenceEnd) (live : List Mirror) (c : ℕ) → AllByRecursion (IsPlain c) (free_entries (file_id n) end live)
frees_plain n Clean live c = (free_plain n (ids_of live) c, tt)
frees_plain n Dirty live c = tt
frees_plain n Copied live c = (free_plain n (ids_of live) c, tt)

ended_plain : (n : ℕ) (cred : Cred) (cause : EndCause) → IsPlain cred.0 (entry.Ended (file_id n) cred cause)
ended_plain n cred cause = record {
  sent = λ u. refl;
  strayed = λ u. refl;
  grants = λ u. refl;
  held = λ m. refl;
  causes = λ u other. ap (λ b. cond b (cause ∷ []) []) (ne_eqb cred.0 u (λ e. other (sym e)));
}

lefts_of : (n c : ℕ) (causes : List (Option LeftCause)) (live : List Mirror) → AllByRecursion (IsEntryOf n c) (left_entries (file_id n) causes live)
lefts_of n c causes [] = tt
lefts_of n c [] (m ∷ live) = tt
lefts_of n c (None ∷ causes) (m ∷ live) = lefts_of n c causes live
lefts_of n c (Some cause ∷ causes) (m ∷ live) = (refl, lefts_of n c causes live)

swaps_of : (n c : ℕ) (targets : List SwappedIn) → AllByRecursion (IsEntryOf n c) (swapped_entries (file_id n) targets)
swaps_of n c [] = tt
swaps_of n c (t ∷ targets) = (refl, swaps_of n c targets)

frees_of : (n c : ℕ) (end : FenceEnd) (live : List Mirror) → AllByRecursion (IsEntryOf n c) (free_entries (file_id n) end live)
frees_of n c Clean live = (refl, tt)
frees_of n c Dirty live = tt
frees_of n c Copied live = (refl, tt)

told_of_plain : (n : ℕ) (cred : Cred) (told : List Entry) (c : ℕ) → IsToldWith n cred told → AllByRecursion (IsPlain c) told
told_of_plain n cred told c NoneTold = tt
told_of_plain n cred told c (OneTold at bytes) = (told_plain n cred at bytes c, tt)

told_entries_of : (n c : ℕ) (cred : Cred) (told : List Entry) → IsToldWith n cred told → AllByRecursion (IsEntryOf n c) told
told_entries_of n c cred told NoneTold = tt
told_entries_of n c cred told (OneTold at bytes) = (refl, tt)

writes_of : (n c : ℕ) (cred : Cred) (writes : List Entry) → IsGrantWith n cred writes → AllByRecursion (IsEntryOf n c) writes
writes_of n c cred writes NoWrite = tt
writes_of n c cred writes (OneWrite at bytes some) = (refl, tt)

-- ---- phases that a mirror may leave in

idle_lost : (p : LayoutPhase) (source : Bool) → is_idle p ≡ false → is_making p ≡ false → (is_idle (phase_without p source) ≡ false) × (is_making (phase_without p source) ≡ false)
idle_lost Making source idle making = absurd cc
idle_lost Free source idle making = absurd cc
idle_lost (Held holder is_recalled) source idle making = absurd cc
idle_lost (Fencing next end) source idle making = (refl, refl)
idle_lost (Settling copies) source idle making = (refl, refl)
idle_lost (Copying copier copies) true idle making = (refl, refl)
idle_lost (Copying copier copies) false idle making = (refl, refl)

wrong : (p q : LayoutPhase) → p ≡ q → is_idle p ≡ false → is_idle q ≡ true → ⊥
wrong p q e off on = let same : true ≡ false = sym on ∙ (ap is_idle (sym e) ∙ off) in cc

-- ---- turns

module _ (n uid : ℕ) where
  pub turn_of : (v : FileView) (s x : LayoutState) (entries : List Entry) → FileTurn n uid v s x entries → AllByRecursion (IsEntryOf n s.cred.0) entries
  turn_of v s x entries (Rests w t) = tt
  turn_of v s x entries (Learnt w a t y more e k) = subst (λ (c : Cred). AllByRecursion (IsEntryOf n c.0) entries) e.cred (turn_of v t x entries k)
  turn_of v s x entries (Recalled w t holder is_recalled is) = tt
  turn_of v s x entries (Grants w t holder writes is blank taken) = (refl, writes_of n s.cred.0 s.cred writes taken)
  turn_of v s x entries (EndsDirty w t holder is_recalled cause is dirty less) = ((refl, refl), tt)
  turn_of v s x entries (EndsClean w t holder is_recalled causes m kept told cause is some with_told clean covered apart less) =
      all_append (IsEntryOf n s.cred.0) (left_entries (file_id n) causes s.live) (told ++ entry.Ended (file_id n) s.cred cause ∷ []) (lefts_of n s.cred.0 causes s.live)
      (all_append (IsEntryOf n s.cred.0) told (entry.Ended (file_id n) s.cred cause ∷ []) (told_entries_of n s.cred.0 s.cred told with_told) ((refl, refl), tt))
  turn_of v s x entries (Resilvers w t is) = tt
  turn_of v s x entries (Makes w t live is apart some) = (refl, tt)
  turn_of v s x entries (Loses w t id cause y more may idle making k) = (refl, turn_of (view_after (file_id n) v (entry.Left (file_id n) id cause)) (after_loss s id) x more k)
  turn_of v s x entries (FenceDone w t next end is owners) = (refl, frees_of n s.cred.0 end s.live)
  turn_of v s x entries (Frees w t copies is) = (refl, tt)
  turn_of v s x entries (CopyBegins w t copies copier is) = tt
  turn_of v s x entries (CopySwaps w t copier copies by o targets is less up good apart) = swaps_of n s.cred.0 (o ∷ targets)

  -- with calls under way
  busy_plain : (v : FileView) (s x : LayoutState) (entries : List Entry) → FileTurn n uid v s x entries → is_idle s.phase ≡ false → (c : ℕ) → AllByRecursion (IsPlain c) entries
  busy_plain v s x entries (Rests w t) off c = tt
  busy_plain v s x entries (Learnt w a t y more e k) off c = busy_plain v t x entries k (ap is_idle e.phase ∙ off) c
  busy_plain v s x entries (Recalled w t holder is_recalled is) off c = tt
  busy_plain v s x entries (Grants w t holder writes is blank taken) off c = absurd (wrong s.phase Free is off refl)
  busy_plain v s x entries (EndsDirty w t holder is_recalled cause is dirty less) off c = absurd (wrong s.phase (Held holder is_recalled) is off refl)
  busy_plain v s x entries (EndsClean w t holder is_recalled causes m kept told cause is some with_told clean covered apart less) off c = absurd (wrong s.phase (Held holder is_recalled) is off refl)
  busy_plain v s x entries (Resilvers w t is) off c = tt
  busy_plain v s x entries (Makes w t live is apart some) off c = (free_plain n (ids_of live) c, tt)
  busy_plain v s x entries (Loses w t id cause y more may idle making k) off c =
      (left_plain n id cause c, busy_plain (view_after (file_id n) v (entry.Left (file_id n) id cause)) (after_loss s id) x more k (idle_lost s.phase (is_source id s.live) idle making).0 c)
  busy_plain v s x entries (FenceDone w t next end is owners) off c = (fenced_plain n s.cred next (ids_of s.live) c, frees_plain n end s.live c)
  busy_plain v s x entries (Frees w t copies is) off c = (free_plain n (ids_of s.live) c, tt)
  busy_plain v s x entries (CopyBegins w t copies copier is) off c = tt
  busy_plain v s x entries (CopySwaps w t copier copies by o targets is less up good apart) off c = swaps_plain n (o ∷ targets) c

  grant_alike : (s t x : LayoutState) (entries : List Entry) → IsAlike s t → TurnSays n t x entries → TurnSays n s x entries
  grant_alike s t x entries e (SaysGrant g) = SaysGrant (record {
    free = sym e.phase ∙ g.free;
    holder = g.holder;
    writes = g.writes;
    taken = subst (λ (c : Cred). IsGrantWith n c g.writes) e.cred g.taken;
    is = g.is ∙ ap (λ (c : Cred). entry.Granted (file_id n) c g.holder ∷ g.writes) e.cred;
    live = g.live ∙ e.ids;
  })
  grant_alike s t x entries e (SaysEnd held all) = SaysEnd (ap is_held (sym e.phase) ∙ held) (subst (λ (c : Cred). AllByRecursion (IsPlain c.0) entries) e.cred all)
  grant_alike s t x entries e (SaysNone all) = SaysNone all

  pub turn_says : (v : FileView) (s x : LayoutState) (entries : List Entry) → FileTurn n uid v s x entries → TurnSays n s x entries
  turn_says v s x entries (Rests w t) = SaysNone (λ c. tt)
  turn_says v s x entries (Learnt w a t y more e k) = grant_alike s t x entries e (turn_says v t x entries k)
  turn_says v s x entries (Recalled w t holder is_recalled is) = SaysNone (λ c. tt)
  turn_says v s x entries (Grants w t holder writes is blank taken) = SaysGrant (record { free = is; holder = holder; writes = writes; taken = taken; is = refl; live = refl })
  turn_says v s x entries (EndsDirty w t holder is_recalled cause is dirty less) = SaysEnd (ap is_held is) (ended_plain n s.cred cause, tt)
  turn_says v s x entries (EndsClean w t holder is_recalled causes m kept told cause is some with_told clean covered apart less) =
      SaysEnd (ap is_held is) (all_append (IsPlain s.cred.0) (left_entries (file_id n) causes s.live) (told ++ entry.Ended (file_id n) s.cred cause ∷ []) (lefts_plain n causes s.live s.cred.0)
      (all_append (IsPlain s.cred.0) told (entry.Ended (file_id n) s.cred cause ∷ []) (told_of_plain n s.cred told s.cred.0 with_told) (ended_plain n s.cred cause, tt)))
  turn_says v s x entries (Resilvers w t is) = SaysNone (λ c. tt)
  turn_says v s x entries (Makes w t live is apart some) = SaysNone (λ c. (free_plain n (ids_of live) c, tt))
  turn_says v s x entries (Loses w t id cause y more may idle making k) =
      SaysNone (λ c. (left_plain n id cause c, busy_plain (view_after (file_id n) v (entry.Left (file_id n) id cause)) (after_loss s id) x more k (idle_lost s.phase (is_source id s.live) idle making).0 c))
  turn_says v s x entries (FenceDone w t next end is owners) = SaysNone (λ c. (fenced_plain n s.cred next (ids_of s.live) c, frees_plain n end s.live c))
  turn_says v s x entries (Frees w t copies is) = SaysNone (λ c. (free_plain n (ids_of s.live) c, tt))
  turn_says v s x entries (CopyBegins w t copies copier is) = SaysNone (λ c. tt)
  turn_says v s x entries (CopySwaps w t copier copies by o targets is less up good apart) = SaysNone (λ c. swaps_plain n (o ∷ targets) c)

-- ---- told entries

pub ends_more : (uid : ℕ) (a b : List Entry) → EndsNow uid a → EndsNow uid (a ++ b)
ends_more uid a b e = record { file = e.file; cred = e.cred; cause = e.cause; more = e.more ++ b; are = ap (λ (l : List Entry). l ++ b) e.are; uid_is = e.uid_is; clean = e.clean }

pub told_more : (f : FileId) (v : FileView) (a b : List Entry) → AreToldEntries f v a → AreToldEntries f (view_by f v a) b → AreToldEntries f v (a ++ b)
told_more f v [] b h k = k
told_more f v (e ∷ a) b h k = (one e h.0, told_more f (view_after f v e) a b h.1 k)
  where
    one : (e : Entry) → IsToldEntry v e a → IsToldEntry v e (a ++ b)
    one (entry.Told file cred at bytes) (AfterEnd x) = AfterEnd x
    one (entry.Told file cred at bytes) (AtAll x) = AtAll x
    one (entry.Told file cred at bytes) (AtEnd x) = AtEnd (ends_more cred.0 a b x)
    one _ x = tt

lefts_told : (f : FileId) (v : FileView) (n : ℕ) (causes : List (Option LeftCause)) (live : List Mirror) → AreToldEntries f v (left_entries (file_id n) causes live)
lefts_told f v n causes [] = tt
lefts_told f v n [] (m ∷ live) = tt
lefts_told f v n (None ∷ causes) (m ∷ live) = lefts_told f v n causes live
lefts_told f v n (Some cause ∷ causes) (m ∷ live) = (tt, lefts_told f (view_after f v (entry.Left (file_id n) m.id cause)) n causes live)

swaps_told : (f : FileId) (v : FileView) (n : ℕ) (targets : List SwappedIn) → AreToldEntries f v (swapped_entries (file_id n) targets)
swaps_told f v n [] = tt
swaps_told f v n (t ∷ targets) = (tt, swaps_told f (view_after f v (entry.Swapped (file_id n) t.old t.new.id)) n targets)

frees_told : (f : FileId) (v : FileView) (n : ℕ) (end : FenceEnd) (live : List Mirror) → AreToldEntries f v (free_entries (file_id n) end live)
frees_told f v n Clean live = (tt, tt)
frees_told f v n Dirty live = tt
frees_told f v n Copied live = (tt, tt)

end_told : (f : FileId) (v : FileView) (n : ℕ) (cred : Cred) (told : List Entry) (cause : EndCause) → IsToldWith n cred told → is_clean cause ≡ true → AreToldEntries f v (told ++ entry.Ended (file_id n) cred cause ∷ [])
end_told f v n cred told cause NoneTold clean = (tt, tt)
end_told f v n cred told cause (OneTold at bytes) clean = (AtEnd (record { file = file_id n; cred = cred; cause = cause; more = []; are = refl; uid_is = refl; clean = clean }), (tt, tt))

grant_told : (f : FileId) (v : FileView) (n : ℕ) (cred : Cred) (writes : List Entry) → IsGrantWith n cred writes → AreToldEntries f v writes
grant_told f v n cred writes NoWrite = tt
grant_told f v n cred writes (OneWrite at bytes some) = (tt, tt)

pub turn_told : (n uid : ℕ) (f : FileId) (w v : FileView) (s x : LayoutState) (entries : List Entry) → FileTurn n uid v s x entries → AreToldEntries f w entries
turn_told n uid f w v s x entries (Rests a t) = tt
turn_told n uid f w v s x entries (Learnt a b t y more e k) = turn_told n uid f w v t x entries k
turn_told n uid f w v s x entries (Recalled a t holder is_recalled is) = tt
turn_told n uid f w v s x entries (Grants a t holder writes is blank taken) = (tt, grant_told f (view_after f w (entry.Granted (file_id n) s.cred holder)) n s.cred writes taken)
turn_told n uid f w v s x entries (EndsDirty a t holder is_recalled cause is dirty less) = (tt, tt)
turn_told n uid f w v s x entries (EndsClean a t holder is_recalled causes m kept told cause is some with_told clean covered apart less) =
    told_more f w (left_entries (file_id n) causes s.live) (told ++ entry.Ended (file_id n) s.cred cause ∷ []) (lefts_told f w n causes s.live) (end_told f (view_by f w (left_entries (file_id n) causes s.live)) n s.cred told cause with_told clean)
turn_told n uid f w v s x entries (Resilvers a t is) = tt
turn_told n uid f w v s x entries (Makes a t live is apart some) = (tt, tt)
turn_told n uid f w v s x entries (Loses a t id cause y more may idle making k) = (tt, turn_told n uid f (view_after f w (entry.Left (file_id n) id cause)) (view_after (file_id n) v (entry.Left (file_id n) id cause)) (after_loss s id) x more k)
turn_told n uid f w v s x entries (FenceDone a t next end is owners) = (tt, frees_told f (view_after f w (entry.Fenced (file_id n) s.cred next (ids_of s.live))) n end s.live)
turn_told n uid f w v s x entries (Frees a t copies is) = (tt, tt)
turn_told n uid f w v s x entries (CopyBegins a t copies copier is) = tt
turn_told n uid f w v s x entries (CopySwaps a t copier copies by o targets is less up good apart) = swaps_told f w n (o ∷ targets)
