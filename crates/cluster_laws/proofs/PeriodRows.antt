-- A period is granted and ends, and a fence is done: each in its place.
use Rattle.std.proofs.Common.{◌≡◌, ◌≢◌, ℕ, ◌+◌, ◌<◌, Bool, true, false, eqb, ltb, cond, ◌&&◌, List, [], ◌∷◌, ◌++◌, length, map, Option, Some, None, is_some, refl, sym, ap, subst, ◌∙◌, arith, append_assoc}
use Rattle.std.specs.List.{AllByRecursion}
use Rattle.std.proofs.lemmas.Bool.{cond_both}
use Rattle.cluster_model.specs.declared.ids.NodeId.{NodeId}
use Rattle.cluster_model.specs.declared.ids.NodeId.TheVariants.{Mds, Server, Client}
use Rattle.cluster_model.specs.declared.ids.Cred.{Cred}
use Rattle.cluster_model.specs.declared.ids.Mirror.{Mirror}
use Rattle.cluster_model.specs.declared.phase.EndCause.{EndCause}
use Rattle.cluster_model.specs.declared.phase.EndCause.TheVariants.{Returned, Own, AllReported}
use Rattle.cluster_model.specs.declared.phase.LeftCause.{LeftCause}
use Rattle.cluster_model.specs.declared.entry.Entry.{Entry}
use Rattle.cluster_model.specs.declared.entry.Entry.TheVariants as entry
use Rattle.cluster_model.specs.declared.call_stage.CallStage.TheVariants.{Waits}
use Rattle.cluster_model.specs.declared.layout_state.LayoutState.{LayoutState}
use Rattle.cluster_model.specs.declared.layout_state.LayoutPhase.{LayoutPhase}
use Rattle.cluster_model.specs.declared.layout_state.LayoutPhase.TheVariants.{Making, Free, Held, Fencing, Settling, Copying}
use Rattle.cluster_model.specs.declared.layout_state.FenceEnd.{FenceEnd}
use Rattle.cluster_model.specs.declared.layout_state.FenceEnd.TheVariants.{Clean, Dirty}
use Rattle.cluster_model.specs.declared.layout_state.CopyKind.TheVariants.{Adding}
use Rattle.cluster_model.specs.Fences.{fence_of}
use Rattle.cluster_model.specs.Phases.{unreported, left_entries, is_clean, granted, reported_cause, returned, revoked, resilvered, fencing, left_with, end_entries, with_phase}
use Rattle.file_rule.specs.MdsFiles.{Activity, Idle, Makes, Fences, Settles, Copies, MdsFile, FileStep, nothing, stays, a_uid, goes_fencing, with_entries}
use Rattle.file_rule.specs.declared.fresh.Fresh.{Fresh}
use Rattle.file_rule.specs.FilePhases.{are_spent, asked_in, held_in, by_client, by_mds, recalled_row, returned_row, revoked_row, own_row, resilvered_in}
use Rattle.cluster_laws.specs.Machine.{file_id}
use Rattle.cluster_laws.specs.Telling.{is_telling}
use Rattle.cluster_laws.specs.Periods.{owed_in}
use Rattle.cluster_laws.proofs.Lists.{all_append}
use Rattle.cluster_laws.proofs.Invariant.{Net, If, is_idle, IsBusyWith, IsFile}
use Rattle.cluster_laws.proofs.Lives.{own_file}
use Rattle.cluster_laws.proofs.Known.{fresh_from}
use Rattle.cluster_laws.proofs.PeriodFacts.{place_more, granted_in, none_granted, granted_append, IsNoPeriod, owed_same, user_same, owed_then, IsOfFile, ended_of, IsStill, told_still, left_still, granted_none}
use Rattle.cluster_laws.proofs.PeriodStates.{IsMine, is_free, IsIdleSo, owed_of, IsActive, IsPeriod, drawn_for, mine_drawn, new_mine, PeriodRow, PeriodOk, Plain, Draws, still_none, still_of, still_place, still_grants, still_tells, still_row, new_unused}

-- entries of mirrors that leave
pub left_stills : (n : ℕ) (causes : List (Option LeftCause)) (live : List Mirror) → AllByRecursion IsStill (left_entries (file_id n) causes live)
left_stills n causes [] = tt
left_stills n [] (m ∷ live) = tt
left_stills n (None ∷ causes) (m ∷ live) = left_stills n causes live
left_stills n (Some cause ∷ causes) (m ∷ live) = (left_still (file_id n) m.id cause, left_stills n causes live)

-- with nothing new a file's periods are as they were
pub as_before : (whose : ℕ → ℕ) (next_uid : ℕ) (journal : List Entry) (n : ℕ) (g : MdsFile) → IsPeriod whose next_uid journal n g → PeriodRow whose next_uid journal n g []
as_before whose next_uid journal n g p = still_row whose next_uid journal n g [] tt (subst (λ (j : List Entry). IsPeriod whose next_uid j n g) (sym (nil journal)) p)
  where
    nil : (j : List Entry) → j ++ [] ≡ j
    nil [] = refl
    nil (e ∷ j) = ap (λ (x : List Entry). e ∷ x) (nil j)

module _ (net : Net) (whose : ℕ → ℕ) (n next_uid : ℕ) (journal : List Entry) (below : AllByRecursion (λ e. If (granted_in e) (λ u. u < next_uid)) journal) (f : MdsFile) (h : IsFile net journal n f) (p : IsPeriod whose next_uid journal n f) (servers : ℕ) where
  abbrev fresh : Fresh
  fresh = fresh_from net next_uid servers

  abbrev Ok : FileStep → Type 0
  Ok x = PeriodOk whose next_uid journal n x

  pub same : Ok (nothing f)
  same = Plain refl (as_before whose next_uid journal n f p)

  -- nothing is under way for it
  idle_so : (activity : Activity) → IsBusyWith net journal n f.layout activity → is_idle f.layout.phase ≡ true → IsActive whose next_uid journal n f.layout activity → IsIdleSo journal n f.layout
  idle_so Idle busy idle a = a
  idle_so (Makes all) busy idle a = let wrong : true ≡ false = sym idle ∙ ap is_idle busy.phase in absurd cc
  idle_so (Fences fence) busy idle a = let wrong : true ≡ false = sym idle ∙ ap is_idle busy.phase in absurd cc
  idle_so (Settles stage) busy idle a = let wrong : true ≡ false = sym idle ∙ ap is_idle busy.phase in absurd cc
  idle_so (Copies c) busy idle a = let wrong : true ≡ false = sym idle ∙ ap is_idle busy.phase in absurd cc

  still_idle : (s : LayoutState) (entries : List Entry) (activity : Activity) → IsBusyWith net journal n f.layout activity → is_idle f.layout.phase ≡ true → IsIdleSo (journal ++ entries) n s → IsActive whose next_uid (journal ++ entries) n s activity
  still_idle s entries Idle busy idle a = a
  still_idle s entries (Makes all) busy idle a = let wrong : true ≡ false = sym idle ∙ ap is_idle busy.phase in absurd cc
  still_idle s entries (Fences fence) busy idle a = let wrong : true ≡ false = sym idle ∙ ap is_idle busy.phase in absurd cc
  still_idle s entries (Settles stage) busy idle a = let wrong : true ≡ false = sym idle ∙ ap is_idle busy.phase in absurd cc
  still_idle s entries (Copies c) busy idle a = let wrong : true ≡ false = sym idle ∙ ap is_idle busy.phase in absurd cc

  now : is_idle f.layout.phase ≡ true → IsIdleSo journal n f.layout
  now idle = idle_so f.activity h.busy idle p.active

  -- ---- Free

  pub asked : (holder : NodeId) (entries : List Entry) → AllByRecursion IsStill entries → (q : LayoutPhase) → f.layout.phase ≡ q → Ok (asked_in (file_id n) f holder entries fresh q)
  asked holder entries still Making is = same
  asked holder entries still Free is =
      let idle = now (ap is_idle is) in
      let grant : Entry = entry.Granted (file_id n) f.layout.cred holder in
      let none : AllByRecursion (IsNoPeriod (file_id n)) (grant ∷ entries) = (granted_none (file_id n) (file_id n) f.layout.cred holder, still_none n entries still) in
      cond_both (are_spent fresh) (nothing f) (with_entries (granted (file_id n) f.layout holder).entries (record { file = record { layout = (granted (file_id n) f.layout holder).file; activity = f.activity }; entries = entries; uids = 0; names = 0 })) Ok
      (λ b. same)
      (λ b. Plain refl (record {
        place = (record { fenced = idle.fenced.owed; new = idle.unused (ap is_free is); user = idle.fenced.user }, still_place (journal ++ grant ∷ []) entries still);
        of_file = (λ k other. granted_none (file_id k) (file_id n) f.layout.cred holder, still_of n entries still);
        grants = (p.mine, still_grants (IsMine whose next_uid n) entries still);
        tells = (refl, still_tells entries still);
        period = record {
          mine = p.mine;
          active = still_idle (with_phase f.layout (Held holder false)) (grant ∷ entries) f.activity h.busy (ap is_idle is) (record {
            fenced = record { some = idle.fenced.some; owed = owed_same (file_id n) journal (grant ∷ entries) none ∙ idle.fenced.owed; user = user_same (file_id n) journal (grant ∷ entries) none ∙ idle.fenced.user };
            unused = λ e. absurd cc;
          });
        };
      }))
  asked holder entries still (Held other is_recalled) is = same
  asked holder entries still (Fencing next end) is = same
  asked holder entries still (Settling copies) is = same
  asked holder entries still (Copying copier copies) is = same

  -- another phase, in which nobody was granted the file
  rephased : (q : LayoutPhase) (activity : Activity) → ((j : List Entry) → IsIdleSo j n f.layout → IsActive whose next_uid j n (with_phase f.layout q) activity) → is_idle f.layout.phase ≡ true → PeriodRow whose next_uid journal n (record { layout = with_phase f.layout q; activity = activity }) []
  rephased q activity to idle = as_before whose next_uid journal n _ (record { mine = p.mine; active = to journal (now idle) })

  pub resilver : (q : LayoutPhase) → f.layout.phase ≡ q → Ok (resilvered_in f fresh q)
  resilver Making is = same
  resilver Free is =
      cond_both (ltb (length f.layout.live) f.layout.wanted && (cond (are_spent fresh) false true)) (stays (resilvered f.layout) (Settles Waits)) (nothing f) Ok
      (λ b. Plain refl (rephased (Settling Adding) (Settles Waits) (λ j idle. record { fenced = record { some = idle.fenced.some; owed = idle.fenced.owed; user = idle.fenced.user }; unused = idle.unused (ap is_free is) }) (ap is_idle is)))
      (λ b. same)
  resilver (Held holder is_recalled) is = same
  resilver (Fencing next end) is = same
  resilver (Settling copies) is = same
  resilver (Copying copier copies) is = same

  -- ---- Held

  held : (row : NodeId → FileStep) → ((holder : NodeId) → is_idle f.layout.phase ≡ true → Ok (row holder)) → (q : LayoutPhase) → f.layout.phase ≡ q → Ok (held_in f row q)
  held row ok Making is = same
  held row ok Free is = same
  held row ok (Held holder is_recalled) is = ok holder (ap is_idle is)
  held row ok (Fencing next end) is = same
  held row ok (Settling copies) is = same
  held row ok (Copying copier copies) is = same

  of_client : (row : ℕ → FileStep) → ((client : ℕ) → Ok (row client)) → (holder : NodeId) → Ok (by_client f row holder)
  of_client row ok Mds = same
  of_client row ok (Server k) = same
  of_client row ok (Client k) = ok k

  of_mds : (row : FileStep) → Ok row → (holder : NodeId) → Ok (by_mds f row holder)
  of_mds row ok Mds = ok
  of_mds row ok (Server k) = same
  of_mds row ok (Client k) = same

  pub recall : Ok (held_in f (by_client f (recalled_row f)) f.layout.phase)
  recall =
      held (by_client f (recalled_row f)) (λ holder idle. of_client (recalled_row f) (λ client. Plain refl (as_before whose next_uid journal n _ (record {
        mine = p.mine;
        active = recalls client idle f.activity h.busy (now idle);
      }))) holder) f.layout.phase refl
    where
      recalls : (client : ℕ) → is_idle f.layout.phase ≡ true → (activity : Activity) → IsBusyWith net journal n f.layout activity → IsIdleSo journal n f.layout → IsActive whose next_uid journal n (with_phase f.layout (Held (Client client) true)) activity
      recalls client idle Idle busy a = record { fenced = record { some = a.fenced.some; owed = a.fenced.owed; user = a.fenced.user }; unused = λ e. absurd cc }
      recalls client idle (Makes all) busy a = let wrong : true ≡ false = sym idle ∙ ap is_idle busy.phase in absurd cc
      recalls client idle (Fences fence) busy a = let wrong : true ≡ false = sym idle ∙ ap is_idle busy.phase in absurd cc
      recalls client idle (Settles stage) busy a = let wrong : true ≡ false = sym idle ∙ ap is_idle busy.phase in absurd cc
      recalls client idle (Copies c) busy a = let wrong : true ≡ false = sym idle ∙ ap is_idle busy.phase in absurd cc

  -- ---- the period ends

  -- behind these entries and the end a fence over these mirrors begins
  fence_begins : (left : List Entry) → AllByRecursion IsStill left → (cause : EndCause) (live : List Mirror) (end : FenceEnd) → owed_of end f.layout.cred.0 ≡ Some f.layout.cred.0 → 0 < length live → is_idle f.layout.phase ≡ true
      → PeriodRow (drawn_for whose next_uid n) (next_uid + 1) journal n (record { layout = fencing f.layout live end (a_uid next_uid); activity = Fences (fence_of live next_uid) }) (left ++ entry.Ended (file_id n) f.layout.cred cause ∷ [])
  fence_begins left still cause live end owes some idle =
      let e : Entry = entry.Ended (file_id n) f.layout.cred cause in
      let so = (now idle).fenced in
      let none = still_none n left still in
      record {
        place = place_more journal left (e ∷ []) (still_place journal left still) (record { fenced = owed_same (file_id n) journal left none ∙ so.owed; user = user_same (file_id n) journal left none ∙ so.user }, tt);
        of_file = all_append (IsOfFile n) left (e ∷ []) (still_of n left still) (ended_of n f.layout.cred cause, tt);
        grants = all_append (λ x. If (granted_in x) (IsMine (drawn_for whose next_uid n) (next_uid + 1) n)) left (e ∷ []) (still_grants (IsMine (drawn_for whose next_uid n) (next_uid + 1) n) left still) (tt, tt);
        tells = all_append (λ x. is_telling x ≡ true) left (e ∷ []) (still_tells left still) (refl, tt);
        period = record {
          mine = mine_drawn whose next_uid n n f.layout.cred.0 p.mine;
          active = record {
            some = some;
            next = a_uid next_uid;
            end = end;
            phase = refl;
            owed = ap (λ (j : List Entry). owed_in j (file_id n)) (sym (append_assoc journal left (e ∷ []))) ∙ owed_then (file_id n) (journal ++ left) e
                ∙ ap (λ (b : Bool). cond b (Some f.layout.cred.0) (owed_in (journal ++ left) (file_id n))) (own_file (file_id n)) ∙ sym owes;
            fresh = refl;
            mine = new_mine whose next_uid n;
            unused = granted_append next_uid journal (left ++ e ∷ []) (new_unused next_uid journal below)
                (none_granted next_uid (left ++ e ∷ []) (all_append (λ x. If (granted_in x) (λ u. u ≢ next_uid)) left (e ∷ []) (still_grants (λ u. u ≢ next_uid) left still) (tt, tt)));
          };
        };
      }

  -- with these mirrors left
  ends : (left : List Entry) → AllByRecursion IsStill left → (cause : EndCause) (kept : List Mirror) → is_idle f.layout.phase ≡ true
      → PeriodRow (drawn_for whose next_uid n) (next_uid + 1) journal n (record { layout = left_with f.layout (a_uid next_uid) kept; activity = Fences (fence_of (left_with f.layout (a_uid next_uid) kept).live next_uid) }) (end_entries (file_id n) f.layout.cred left cause kept)
  ends left still cause [] idle = fence_begins [] tt AllReported f.layout.live Dirty refl (now idle).fenced.some idle
  ends left still cause (m ∷ kept) idle = fence_begins left still cause (m ∷ kept) Clean refl (more kept) idle
    where
      more : (rest : List Mirror) → 0 < length (m ∷ rest)
      more rest = omega arith

  pub returns : (client : ℕ) (claimed : Cred) (places : List Bool) → Ok (held_in f (by_client f (returned_row (file_id n) f client claimed places fresh)) f.layout.phase)
  returns client claimed places =
      held (by_client f (returned_row (file_id n) f client claimed places fresh)) (λ holder idle. of_client (returned_row (file_id n) f client claimed places fresh) (λ k. by_holder k idle) holder) f.layout.phase refl
    where
      by_holder : (k : ℕ) → is_idle f.layout.phase ≡ true → Ok (returned_row (file_id n) f client claimed places fresh k)
      by_holder k idle =
          cond_both (eqb k client && (eqb f.layout.cred.0 claimed.0)) (goes_fencing (returned (file_id n) f.layout places (a_uid next_uid)) next_uid) (nothing f) Ok
          (λ e. Draws refl (ends (left_entries (file_id n) (map reported_cause places) f.layout.live) (left_stills n (map reported_cause places) f.layout.live) Returned (unreported places f.layout.live) idle)) (λ e. same)

  pub revokes : (cause : EndCause) → Ok (held_in f (by_client f (λ client. revoked_row (file_id n) f cause fresh)) f.layout.phase)
  revokes cause =
      held (by_client f (λ client. revoked_row (file_id n) f cause fresh)) (λ holder idle. of_client (λ client. revoked_row (file_id n) f cause fresh) (λ k. by_cause idle) holder) f.layout.phase refl
    where
      by_cause : is_idle f.layout.phase ≡ true → Ok (revoked_row (file_id n) f cause fresh)
      by_cause idle =
          cond_both (is_clean cause) (nothing f) (goes_fencing (revoked (file_id n) f.layout cause (a_uid next_uid)) next_uid) Ok
          (λ e. same) (λ e. Draws refl (fence_begins [] tt cause f.layout.live Dirty refl (now idle).fenced.some idle))

  pub own_ends : (causes : List (Option LeftCause)) (at : ℕ) (bytes : List ℕ) → Ok (held_in f (by_mds f (own_row (file_id n) f causes (entry.Told (file_id n) f.layout.cred at bytes) fresh)) f.layout.phase)
  own_ends causes at bytes =
      let told : Entry = entry.Told (file_id n) f.layout.cred at bytes in
      let left : List Entry = left_entries (file_id n) causes f.layout.live ++ told ∷ [] in
      let still = all_append IsStill (left_entries (file_id n) causes f.layout.live) (told ∷ []) (left_stills n causes f.layout.live) (told_still (file_id n) f.layout.cred at bytes, tt) in
      held (by_mds f (own_row (file_id n) f causes told fresh)) (λ holder idle. of_mds (own_row (file_id n) f causes told fresh) (Draws refl (ends left still Own (unreported (map is_some causes) f.layout.live) idle)) holder) f.layout.phase refl
