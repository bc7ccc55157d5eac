-- In every run of a metadata server recalls are in the order of their files, each of the period in which a client holds the file.
use Rattle.std.proofs.Common.{◌≡◌, ◌≢◌, ◌<◌, ◌≤◌, ◌⊎◌, inl, inr, ℕ, ◌+◌, Bool, true, false, cond, List, [], ◌∷◌, ◌++◌, length, map, Some, None, refl, sym, ap, subst, ◌∙◌, arith, length-set}
use Rattle.std.specs.Prelude.{◌-◌, ◌==◌, ◌&&◌, ◌||◌, not, nat_lt, slice_get, slice_set, remove, if◌then◌else◌}
use Rattle.std.specs.List.{AllByRecursion, list_any}
use Rattle.std.proofs.lemmas.Bool.{cond_both, and_parts, cases_eq, eq-eqb, eqb-true, eqb-false, ltb-true, ltb-false}
use Rattle.std.proofs.lemmas.List.Folds.{list_any-append}
use Rattle.std.proofs.lemmas.Option.{same_Some, none-some}
use Rattle.device_addr.specs.Universal.{AddressValue}
use Rattle.cluster_model.proofs.Elements.{slice_get-set_other, slice_get-set_same, slice_get-push, Pushed, Old, New, pushed}
use Rattle.cluster_model.specs.declared.ids.NodeId.TheVariants.{Mds, Client}
use Rattle.cluster_model.specs.declared.ids.FileId.{FileId}
use Rattle.cluster_model.specs.declared.ids.Cred.{Cred}
use Rattle.cluster_model.specs.declared.ids.Mirror.{Mirror}
use Rattle.cluster_model.specs.declared.phase.EndCause.{EndCause}
use Rattle.cluster_model.specs.declared.entry.Entry.{Entry}
use Rattle.cluster_model.specs.declared.entry.Entry.TheVariants as entry
use Rattle.cluster_model.specs.declared.layout_state.LayoutState.{LayoutState}
use Rattle.cluster_model.specs.declared.layout_state.LayoutPhase.{LayoutPhase}
use Rattle.cluster_model.specs.declared.layout_state.LayoutPhase.TheVariants.{Held}
use Rattle.cluster_model.specs.declared.phase.EndCause.TheVariants.{Returned}
use Rattle.cluster_model.specs.Phases.{holder_of, is_clean, unreported, left_entries, reported_cause, end_entries, returned, revoked}
use Rattle.layout_report.specs.Reports.{report_of}
use Rattle.file_rule.specs.declared.fresh.Fresh.{Fresh}
use Rattle.file_rule.specs.MdsFiles.{Activity, Idle, MdsFile, FileStep, nothing, a_uid, goes_fencing}
use Rattle.file_rule.specs.FilePhases.{FileInput, AsksLayout, OwnWrite, Recall as ToRecall, Returns, Revokes, OwnEnds, Resilver, Answers as IsAnswer, TimesOut, Ticks, Sees, asked_in, held_in, by_client, by_mds, recalled_row, returned_row, revoked_row, own_row, resilvered_in, answered_in, timed_out_in, new_mds_file, phase, CallOut, call_out}
use Rattle.mds_rows.specs.Draws.{drawn}
use Rattle.recall.specs.declared.recall.Recall.{Recall}
use Rattle.recall.specs.Recalls.{is_of_file, is_of, is_before, is_under_way, new_recall, with_recall, grant_of, without_file, after_reply, after_timeout, after_tick}
use Rattle.mirror_writer.specs.Writers as writer
use Rattle.mds_io.specs.Reads as read
use Rattle.mds_io.specs.OwnWrites.{after_own_reply}
use Rattle.mds_rule.specs.MdsStates.{ServedFile, MdsSend, MdsValue, with_size, served_in, served, with_served, numbered, new_mds}
use Rattle.mds_rule.specs.ServedFiles.{is_period_end, file_behind, file_stepped}
use Rattle.mds_rule.specs.FileOps.{servers_of, new_served, with_new_file, with_read, with_write}
use Rattle.mds_rule.specs.LayoutOps.{with_holder, client_number}
use Rattle.mds_rule.specs.Answers.{own_answer, recall_end, write_stepped}
use Rattle.cluster_laws.proofs.Invariant.{is_idle}
use Rattle.mds_walk.proofs.Parts.{HeardAny, heard_by, end_input, without_write, with_read_at, Parts, Calls, KeepsBegin, AnyCompound, any_wait, RunParts, GivesAnswers, OutParts, EventParts}
use Rattle.mds_walk.proofs.Served.{place_served, served_again, stepped_there}
use Rattle.mds_walk.proofs.TableKept.{Table, table_parts, table_calls, new_table, table_runs, table_answers, table_outs}
use Rattle.mds_progress.proofs.Resent.{within}
use Rattle.mds_quiet.specs.Resting.{RecallsRise, AreRecallsInOrder}
use Rattle.mds_quiet.proofs.Parts.{IsPart}
use Rattle.mds_quiet.proofs.OwnPhases.{Agrees, nothing_under_way, phase_agrees, out_agrees}
use Rattle.mds_quiet.proofs.OwnCalls.{out_layout}
use Rattle.mds_quiet.proofs.RecallParts.{grants, some_less, reply_less, timeout_less, sent_less, tick_less}

-- ---- grants in order

abbrev Rises : ℕ → ℕ → List (FileId × Cred) → Type 0
Rises low last [] = Unit {0}
Rises low last (g ∷ all) = (low < g.0.0) × (g.0.0 ≤ last) × Rises g.0.0 last all

rises_from : (low high last : ℕ) (all : List (FileId × Cred)) → low ≤ high → Rises high last all → Rises low last all
rises_from low high last [] le rise = tt
rises_from low high last (g ∷ all) le (up, few, rest) = (omega (arith, le, up), few, rest)

rises_more : (low last more : ℕ) (all : List (FileId × Cred)) → last ≤ more → Rises low last all → Rises low more all
rises_more low last more [] le rise = tt
rises_more low last more (g ∷ all) le (up, few, rest) = (up, omega (arith, le, few), rises_more g.0.0 last more all le rest)

rises_part : (low last : ℕ) (some all : List (FileId × Cred)) → IsPart some all → Rises low last all → Rises low last some
rises_part low last [] all part rise = tt
rises_part low last (x ∷ some) [] part rise = absurd part
rises_part low last (x ∷ some) (g ∷ all) (inl both) (up, few, rest) =
    subst (λ (y : FileId × Cred). (low < y.0.0) × (y.0.0 ≤ last) × Rises y.0.0 last some) (sym both.0) (up, few, rises_part g.0.0 last some all both.1 rest)
rises_part low last (x ∷ some) (g ∷ all) (inr part) (up, few, rest) = rises_part low last (x ∷ some) all part (rises_from low g.0.0 last all (omega (arith, up)) rest)

all_part : (P : FileId × Cred → Type 0) (some all : List (FileId × Cred)) → IsPart some all → AllByRecursion P all → AllByRecursion P some
all_part P [] all part its = tt
all_part P (x ∷ some) [] part its = absurd part
all_part P (x ∷ some) (g ∷ all) (inl both) its = (subst P (sym both.0) its.0, all_part P some all both.1 its.1)
all_part P (x ∷ some) (g ∷ all) (inr part) its = all_part P (x ∷ some) all part its.1

all_so : (P Q : FileId × Cred → Type 0) (all : List (FileId × Cred)) → ((g : FileId × Cred) → P g → Q g) → AllByRecursion P all → AllByRecursion Q all
all_so P Q [] more its = tt
all_so P Q (g ∷ all) more its = (more g its.0, all_so P Q all more its.1)

recalls_rise : (low last : ℕ) (all : List Recall) → Rises low last (grants all) → RecallsRise low last all
recalls_rise low last [] rise = tt
recalls_rise low last (r ∷ all) (up, few, rest) = (up, few, recalls_rise r.file.0 last all rest)

-- ---- a period of a client

abbrev pub IsClients : LayoutPhase → Type 0
IsClients p = (n : ℕ) × (r : Bool) × (p ≡ Held (Client n) r)

-- the file of a recall is held by a client, in its period
abbrev HeldAs : List ServedFile → FileId × Cred → Type 0
HeldAs files g = (s : ServedFile) × (served_in files g.0 ≡ Some s) × (s.file.layout.cred ≡ g.1) × IsClients s.file.layout.phase

-- the period goes on
record IsHeldOn (f g : MdsFile) : Type 0 where
  pub cred_same : g.layout.cred ≡ f.layout.cred
  pub client : IsClients g.layout.phase

on_off : true ≡ false → ⊥
on_off e = absurd cc

or_on : (a b : Bool) → b ≡ true → (a || b) ≡ true
or_on true b is = refl
or_on false b is = is

ends_told : (file : FileId) (cred : Cred) (left : List Entry) (cause : EndCause) (live : List Mirror) → list_any is_period_end (end_entries file cred left cause live) ≡ true
ends_told file cred left cause [] = refl
ends_told file cred left cause (m ∷ live) = list_any-append is_period_end left (entry.Ended file cred cause ∷ []) ∙ or_on (list_any is_period_end left) true refl

-- unless its end is entered
held_on : (file : FileId) (fresh : Fresh) (f : MdsFile) (input : FileInput) (n : ℕ) (r : Bool) → f.layout.phase ≡ Held (Client n) r → f.activity ≡ Idle → list_any is_period_end (phase file f input fresh).entries ≡ false → IsHeldOn f (phase file f input fresh).file
held_on file fresh f input n r at idle = by_input input
  where
    itself : list_any is_period_end (nothing f).entries ≡ false → IsHeldOn f f
    itself none = record { cred_same = refl; client = (n, r, at) }

    by_input : (i : FileInput) → list_any is_period_end (phase file f i fresh).entries ≡ false → IsHeldOn f (phase file f i fresh).file
    by_input (AsksLayout client) = subst (λ (p : LayoutPhase). list_any is_period_end (asked_in file f (Client client) [] fresh p).entries ≡ false → IsHeldOn f (asked_in file f (Client client) [] fresh p).file) (sym at) itself
    by_input (OwnWrite place bytes) =
        subst (λ (p : LayoutPhase). list_any is_period_end (asked_in file f Mds (entry.Sent file f.layout.cred place bytes ∷ []) fresh p).entries ≡ false → IsHeldOn f (asked_in file f Mds (entry.Sent file f.layout.cred place bytes ∷ []) fresh p).file) (sym at) itself
    by_input ToRecall =
        subst (λ (p : LayoutPhase). list_any is_period_end (held_in f (by_client f (recalled_row f)) p).entries ≡ false → IsHeldOn f (held_in f (by_client f (recalled_row f)) p).file) (sym at) (λ none. record { cred_same = refl; client = (n, true, refl) })
    by_input (Returns client claimed places) =
        subst (λ (p : LayoutPhase). list_any is_period_end (held_in f (by_client f (returned_row file f client claimed places fresh)) p).entries ≡ false → IsHeldOn f (held_in f (by_client f (returned_row file f client claimed places fresh)) p).file) (sym at)
        (cond_both (n == client && (f.layout.cred.0 == claimed.0)) (goes_fencing (returned file f.layout places (a_uid fresh.uid)) fresh.uid) (nothing f) (λ (x : FileStep). list_any is_period_end x.entries ≡ false → IsHeldOn f x.file)
        (λ is none. absurd (on_off (sym (ends_told file f.layout.cred (left_entries file (map reported_cause places) f.layout.live) Returned (unreported places f.layout.live)) ∙ none))) (λ off. itself))
    by_input (Revokes cause) =
        subst (λ (p : LayoutPhase). list_any is_period_end (held_in f (by_client f (λ client. revoked_row file f cause fresh)) p).entries ≡ false → IsHeldOn f (held_in f (by_client f (λ client. revoked_row file f cause fresh)) p).file) (sym at)
        (cond_both (is_clean cause) (nothing f) (goes_fencing (revoked file f.layout cause (a_uid fresh.uid)) fresh.uid) (λ (x : FileStep). list_any is_period_end x.entries ≡ false → IsHeldOn f x.file) (λ is. itself) (λ off none. absurd (on_off none)))
    by_input (OwnEnds causes place bytes) =
        subst (λ (p : LayoutPhase). list_any is_period_end (held_in f (by_mds f (own_row file f causes (entry.Told file f.layout.cred place bytes) fresh)) p).entries ≡ false → IsHeldOn f (held_in f (by_mds f (own_row file f causes (entry.Told file f.layout.cred place bytes) fresh)) p).file) (sym at) itself
    by_input Resilver = subst (λ (p : LayoutPhase). list_any is_period_end (resilvered_in f fresh p).entries ≡ false → IsHeldOn f (resilvered_in f fresh p).file) (sym at) itself
    by_input (IsAnswer xid reply) = subst (λ (a : Activity). list_any is_period_end (answered_in file f xid reply fresh a).entries ≡ false → IsHeldOn f (answered_in file f xid reply fresh a).file) (sym idle) itself
    by_input (TimesOut xid) = subst (λ (a : Activity). list_any is_period_end (timed_out_in file f xid fresh a).entries ≡ false → IsHeldOn f (timed_out_in file f xid fresh a).file) (sym idle) itself
    by_input Ticks = λ none. record { cred_same = refl; client = (n, r, at) }
    by_input (Sees id seen) = λ none. record { cred_same = refl; client = (n, r, at) }

-- ---- all files

abbrev AllAgree : List ServedFile → Type 0
AllAgree files = (place : ℕ) (s : ServedFile) → slice_get files place ≡ Some s → Agrees s.file.activity s.file.layout.phase

pub record RecallsStand (files : List ServedFile) (all : List Recall) : Type 0 where
  held : AllByRecursion (HeldAs files) (grants all)
  rise : Rises 0 (length files) (grants all)
  agree : AllAgree files

abbrev Stand : MdsValue → Type 0
Stand m = RecallsStand m.files m.recalls

-- beside the table of the calls that were sent
abbrev pub IsSo : MdsValue → List Entry → List MdsSend → Type 0
IsSo m es ss = Table m es ss × Stand m

-- a client's period of the file goes on where it is put back as another
abbrev GoesOn : ServedFile → ServedFile → Type 0
GoesOn s t = IsClients s.file.layout.phase → IsHeldOn s.file t.file

module _ (m : MdsValue) (file : FileId) (s t : ServedFile) (at : served m file ≡ Some s) where
  there : slice_get m.files (file.0 - 1) ≡ Some s
  there = (place_served m file s at).1

  other_held : (g : FileId × Cred) → g.0.0 ≢ file.0 → HeldAs m.files g → HeldAs (slice_set m.files (file.0 - 1) t) g
  other_held g ne (x, is, cred, client) =
      let its = place_served m g.0 x is in
      let own = place_served m file s at in
      let far : g.0.0 - 1 ≢ file.0 - 1 = apart g.0.0 file.0 (eqb-false g.0.0 0 its.0) (eqb-false file.0 0 own.0) ne in
      (x, ap (λ (b : Bool). if b then None else slice_get (slice_set m.files (file.0 - 1) t) (g.0.0 - 1)) its.0 ∙ slice_get-set_other m.files (file.0 - 1) (g.0.0 - 1) t far ∙ its.1, cred, client)
    where
      apart : (a b : ℕ) → a ≢ 0 → b ≢ 0 → a ≢ b → a - 1 ≢ b - 1
      apart a b na nb other same = other (omega (arith, na, nb, same))

  put_held : GoesOn s t → (g : FileId × Cred) → HeldAs m.files g → HeldAs (slice_set m.files (file.0 - 1) t) g
  put_held on g h = by_file (cases_eq g.0.0 file.0)
    where
      by_file : (g.0.0 ≡ file.0) ⊎ (g.0.0 ≡ file.0 → ⊥) → HeldAs (slice_set m.files (file.0 - 1) t) g
      by_file (inr ne) = other_held g ne h
      by_file (inl same) =
          let one : g.0 ≡ file = ap numbered same in
          let its : h.0 ≡ s = same_Some h.0 s (sym h.1 ∙ ap (served_in m.files) one ∙ at) in
          let k : IsHeldOn s.file t.file = on (subst (λ (x : ServedFile). IsClients x.file.layout.phase) its h.3) in
          (t, ap (served_in (slice_set m.files (file.0 - 1) t)) one ∙ served_again m file s t at, k.cred_same ∙ ap (λ (x : ServedFile). x.file.layout.cred) (sym its) ∙ h.2, k.client)

  agree_put : Agrees t.file.activity t.file.layout.phase → AllAgree m.files → AllAgree (slice_set m.files (file.0 - 1) t)
  agree_put new all other x got = by_place (cases_eq other (file.0 - 1))
    where
      by_place : (other ≡ file.0 - 1) ⊎ (other ≡ file.0 - 1 → ⊥) → Agrees x.file.activity x.file.layout.phase
      by_place (inl same) =
          subst (λ (y : ServedFile). Agrees y.file.activity y.file.layout.phase) (same_Some t x (sym (slice_get-set_same m.files (file.0 - 1) s t there) ∙ (ap (slice_get (slice_set m.files (file.0 - 1) t)) (sym same) ∙ got))) new
      by_place (inr ne) = all other x (sym (slice_get-set_other m.files (file.0 - 1) other t ne) ∙ got)

  rise_put : (low : ℕ) (all : List (FileId × Cred)) → Rises low (length m.files) all → Rises low (length (slice_set m.files (file.0 - 1) t)) all
  rise_put low all rise = subst (λ (n : ℕ). Rises low n all) (sym (length-set m.files (file.0 - 1) t)) rise

  put_files : GoesOn s t → Agrees t.file.activity t.file.layout.phase → Stand m → RecallsStand (slice_set m.files (file.0 - 1) t) m.recalls
  put_files on new i = record {
    held = all_so (HeldAs m.files) (HeldAs (slice_set m.files (file.0 - 1) t)) (grants m.recalls) (put_held on) i.held;
    rise = rise_put 0 (grants m.recalls) i.rise;
    agree = agree_put new i.agree;
  }

  -- the file's recalls are over
  ended_held : (all : List Recall) → AllByRecursion (HeldAs m.files) (grants all) → AllByRecursion (HeldAs (slice_set m.files (file.0 - 1) t)) (grants (without_file file all))
  ended_held [] its = tt
  ended_held (r ∷ all) its = by_file (is_of_file file r) refl (ended_held all its.1)
    where
      by_file : (b : Bool) → (r.file.0 == file.0) ≡ b → AllByRecursion (HeldAs (slice_set m.files (file.0 - 1) t)) (grants (without_file file all))
          → AllByRecursion (HeldAs (slice_set m.files (file.0 - 1) t)) (grants (cond (not b) (r ∷ without_file file all) (without_file file all)))
      by_file true is rest = rest
      by_file false is rest = (other_held (grant_of r) (eqb-false r.file.0 file.0 is) its.0, rest)

  end_files : Agrees t.file.activity t.file.layout.phase → Stand m → RecallsStand (slice_set m.files (file.0 - 1) t) (without_file file m.recalls)
  end_files new i = record {
    held = ended_held m.recalls i.held;
    rise = rise_put 0 (grants (without_file file m.recalls)) (rises_part 0 (length m.files) (grants (without_file file m.recalls)) (grants m.recalls) (some_less _ m.recalls) i.rise);
    agree = agree_put new i.agree;
  }

module _ (m : MdsValue) (file : FileId) (s : ServedFile) (at : served m file ≡ Some s) where
  its_agrees : AllAgree m.files → Agrees s.file.activity s.file.layout.phase
  its_agrees all = all (file.0 - 1) s (place_served m file s at).1

  put_case : (t : ServedFile) → t.file ≡ s.file → Stand m → Stand (with_served m file t)
  put_case t same i =
      put_files m file s t at (λ client. record { cred_same = ap (λ (f : MdsFile). f.layout.cred) same; client = subst (λ (f : MdsFile). IsClients f.layout.phase) (sym same) client })
      (subst (λ (f : MdsFile). Agrees f.activity f.layout.phase) (sym same) (its_agrees i.agree)) i

  idle_of : IsClients s.file.layout.phase → Agrees s.file.activity s.file.layout.phase → s.file.activity ≡ Idle
  idle_of (n, r, is) agrees = nothing_under_way s.file.activity s.file.layout.phase (ap is_idle is) agrees

  input_case : (input : FileInput) → Stand m → Stand (file_stepped m file s (phase file s.file input m.fresh)).mds
  input_case input i =
      let step : FileStep = phase file s.file input m.fresh in
      let t : ServedFile = file_behind s step in
      let n : MdsValue = with_served (record m { fresh = drawn m.fresh step }) file t in
      let new : Agrees t.file.activity t.file.layout.phase = phase_agrees file m.fresh s.file input (its_agrees i.agree) in
      cond_both (list_any is_period_end step.entries) (record n { recalls = without_file file n.recalls }) n (λ (x : MdsValue). Stand x) (λ over. end_files m file s t at new i)
      (λ on. put_files m file s t at (λ client. held_on file m.fresh s.file input client.0 client.1 client.2 (idle_of client (its_agrees i.agree)) on) new i)

-- ---- a layout is asked back

no_other : (n : MdsValue) (file : FileId) (t : ServedFile) (cred : Cred) → served n file ≡ Some t → t.file.layout.cred ≡ cred → (all : List Recall) → list_any (is_of file cred) all ≡ false → AllByRecursion (HeldAs n.files) (grants all) → AllByRecursion (λ (r : Recall). r.file.0 ≢ file.0) all
no_other n file t cred at same [] none held = tt
no_other n file t cred at same (r ∷ all) none held = by_test (is_of file cred r) refl none (no_other n file t cred at same all)
  where
    other : is_of file cred r ≡ false → r.file.0 ≢ file.0
    other off here =
        let h : HeldAs n.files (grant_of r) = held.0 in
        let one : r.file ≡ file = ap numbered here in
        let its : h.0 ≡ t = same_Some h.0 t (sym h.1 ∙ ap (served_in n.files) one ∙ at) in
        let its_cred : r.cred ≡ cred = sym h.2 ∙ ap (λ (x : ServedFile). x.file.layout.cred) its ∙ same in
        on_off (sym (ap (λ (b : Bool). b && (r.cred.0 == cred.0)) (eq-eqb r.file.0 file.0 here) ∙ eq-eqb r.cred.0 cred.0 (ap (λ (c : Cred). c.0) its_cred)) ∙ off)

    by_test : (b : Bool) → is_of file cred r ≡ b → (b || list_any (is_of file cred) all) ≡ false → (list_any (is_of file cred) all ≡ false → AllByRecursion (HeldAs n.files) (grants all) → AllByRecursion (λ (x : Recall). x.file.0 ≢ file.0) all)
        → (r.file.0 ≢ file.0) × AllByRecursion (λ (x : Recall). x.file.0 ≢ file.0) all
    by_test true is its more = absurd (on_off its)
    by_test false is its more = (other is, more its held.1)

before_less : (r x : Recall) → x.file.0 ≢ r.file.0 → is_before r x ≡ true → r.file.0 < x.file.0
before_less r x ne is = by_less (nat_lt r.file.0 x.file.0) refl is
  where
    by_less : (b : Bool) → nat_lt r.file.0 x.file.0 ≡ b → (b || ((r.file.0 == x.file.0) && nat_lt r.cred.0 x.cred.0)) ≡ true → r.file.0 < x.file.0
    by_less true less its = ltb-true r.file.0 x.file.0 less
    by_less false less its = absurd (ne (sym (eqb-true r.file.0 x.file.0 (and_parts (r.file.0 == x.file.0) (nat_lt r.cred.0 x.cred.0) its).0)))

behind_less : (r x : Recall) → x.file.0 ≢ r.file.0 → is_before r x ≡ false → x.file.0 < r.file.0
behind_less r x ne is = by_less (nat_lt r.file.0 x.file.0) refl is
  where
    by_less : (b : Bool) → nat_lt r.file.0 x.file.0 ≡ b → (b || ((r.file.0 == x.file.0) && nat_lt r.cred.0 x.cred.0)) ≡ false → x.file.0 < r.file.0
    by_less true less its = absurd (on_off its)
    by_less false less its = let up = ltb-false r.file.0 x.file.0 less in omega (arith, up, ne)

put_rises : (low last : ℕ) (r : Recall) (all : List Recall) → low < r.file.0 → r.file.0 ≤ last → AllByRecursion (λ (x : Recall). x.file.0 ≢ r.file.0) all → Rises low last (grants all) → Rises low last (grants (with_recall r all))
put_rises low last r [] up few other rise = (up, few, tt)
put_rises low last r (x ∷ all) up few other (x_up, x_few, rest) =
    cond_both (is_before r x) (r ∷ (x ∷ all)) (x ∷ with_recall r all) (λ (l : List Recall). Rises low last (grants l)) (λ is. (up, few, (before_less r x other.0 is, x_few, rest)))
    (λ off. (x_up, x_few, put_rises x.file.0 last r all (behind_less r x other.0 off) few other.1 rest))

put_all : (P : FileId × Cred → Type 0) (r : Recall) (all : List Recall) → P (grant_of r) → AllByRecursion P (grants all) → AllByRecursion P (grants (with_recall r all))
put_all P r [] new its = (new, tt)
put_all P r (x ∷ all) new its = cond_both (is_before r x) (r ∷ (x ∷ all)) (x ∷ with_recall r all) (λ (l : List Recall). AllByRecursion P (grants l)) (λ is. (new, its)) (λ off. (its.0, put_all P r all new its.1))

asked : (m : MdsValue) (file : FileId) (s : ServedFile) (n : ℕ) (recalled : Bool) (client now : ℕ) → served m file ≡ Some s → s.file.layout.phase ≡ Held (Client n) recalled → is_under_way file s.file.layout.cred m.recalls ≡ false → Stand m
    → RecallsStand m.files (with_recall (new_recall file s.file.layout.cred client now) m.recalls)
asked m file s n recalled client now at held off i =
    let r : Recall = new_recall file s.file.layout.cred client now in
    let place = place_served m file s at in
    let some : file.0 ≢ 0 = eqb-false file.0 0 place.0 in
    let less : file.0 - 1 < length m.files = within m.files (file.0 - 1) s place.1 in
    record {
      held = put_all (HeldAs m.files) r m.recalls (s, at, refl, (n, recalled, held)) i.held;
      rise = put_rises 0 (length m.files) r m.recalls (omega (arith, some)) (omega (arith, less, some)) (no_other m file s s.file.layout.cred at refl m.recalls off i.held) i.rise;
      agree = i.agree;
    }

-- recalls that go on, or end
fewer : (m : MdsValue) (all : List Recall) → IsPart (grants all) (grants m.recalls) → Stand m → RecallsStand m.files all
fewer m all part i = record {
  held = all_part (HeldAs m.files) (grants all) (grants m.recalls) part i.held;
  rise = rises_part 0 (length m.files) (grants all) (grants m.recalls) part i.rise;
  agree = i.agree;
}

-- ---- a new file

makes : (m : MdsValue) (name : List ℕ) → Stand m → Stand (with_new_file m name)
makes m name i = record {
  held = all_so (HeldAs m.files) (HeldAs (with_new_file m name).files) (grants m.recalls) pushed_held i.held;
  rise = rises_more 0 (length m.files) (length (with_new_file m name).files) (grants m.recalls) (longer m.files _) i.rise;
  agree = λ place s got. by_place place s (pushed m.files _ place s got);
}
  where
    longer : (files : List ServedFile) (x : ServedFile) → length files ≤ length (files ++ x ∷ [])
    longer [] x = omega arith
    longer (f ∷ files) x = let rest = longer files x in omega (arith, rest)

    pushed_held : (g : FileId × Cred) → HeldAs m.files g → HeldAs (with_new_file m name).files g
    pushed_held g (s, is, cred, client) =
        let its = place_served m g.0 s is in
        (s, ap (λ (b : Bool). if b then None else slice_get (with_new_file m name).files (g.0.0 - 1)) its.0 ∙ slice_get-push m.files (g.0.0 - 1) s _ its.1, cred, client)

    by_place : (place : ℕ) (s : ServedFile) → Pushed m.files (new_served name (new_mds_file m.fresh (servers_of (length m.servers) m.mirrors (length m.files + 1)))) place s → Agrees s.file.activity s.file.layout.phase
    by_place place s (Old at) = i.agree place s at
    by_place place s (New at its) = subst (λ (x : ServedFile). Agrees x.file.activity x.file.layout.phase) (sym its) refl

-- ---- the cases

pub parts : Parts IsSo HeardAny AnyCompound
parts = record {
  wait = λ m es ss j file s there. any_wait s.reads s.write;
  opens = λ m client file es ss j. j;
  closes = λ m client file es ss j. j;
  reclaims = λ m client es ss j. j;
  gone = λ m client es ss j. j;
  tables = λ m move no es ss j. j;
  asks_recall = λ m file s n recalled client now there held off es ss j. (j.0, asked m file s n recalled client now there held off j.1);
  times_recall = λ m xid out es ss j. (j.0, fewer m (after_timeout m.recalls xid).recalls (timeout_less m.recalls xid) j.1);
  ticks_recalls = λ m now es ss j. (j.0, fewer m (after_tick m.recalls now).recalls (tick_less m.recalls now) j.1);
  later = λ m file p es ss j. j;
  sizes = λ m file s server fileid size there es ss j. (j.0, put_case m file s there (record s { sizes = with_size (record { server = server; fileid = fileid }) size s.sizes }) refl j.1);
  gives_again = λ m file s client there its es ss j. (j.0, put_case m file s there (with_holder client true s) refl j.1);
  grants = λ m file s client n from there free left fresh es ss j.
      (let step : FileStep = phase file s.file (AsksLayout n) m.fresh in (
        table_parts.grants m file s client n from there free left fresh es ss j.0,
        put_case (file_stepped m file s step).mds file (file_behind s step) (stepped_there m file s step there) (with_holder client false (file_behind s step)) refl (input_case m file s there (AsksLayout n) j.1),
      ));
  grants_alone = λ m file s client n from there free left spent es ss j. (j.0, put_case m file s there (with_holder client false s) refl j.1);
  inputs = λ m file s input unasked there fresh es ss j. (table_parts.inputs m file s input unasked there fresh es ss j.0, input_case m file s there input j.1);
  timeouts = λ m file s node xid out there fresh es ss j. (table_parts.timeouts m file s node xid out there fresh es ss j.0, input_case m file s there (TimesOut xid) j.1);
  learns = λ m file s call server own uid c replies fileid shown heard caller sent named shows there fresh es ss j. (j.0, input_case m file s there (Sees (record { server = server; fileid = fileid }) shown.seen) j.1);
  begins_read = λ m file s c at count any there es ss j. (j.0, put_case m file s there (with_read c at count s) refl j.1);
  times_read = λ m file s xid place r at on es ss j. (j.0, put_case m file s at.there (with_read_at s place r (read.after_timeout r.read xid).read) refl j.1);
  loses_read = λ m file s xid place r e at over es ss j. (j.0, put_case m file s at.there (record s { reads = remove s.reads place }) refl j.1);
  begins_write = λ m file s c at bytes any there can fresh es ss j.
      (let step : FileStep = phase file s.file (OwnWrite at bytes) m.fresh in (
        table_parts.begins_write m file s c at bytes any there can fresh es ss j.0,
        put_case (file_stepped m file s step).mds file (file_behind s step) (stepped_there m file s step there) (with_write c at bytes (file_behind s step)) refl (input_case m file s there (OwnWrite at bytes) j.1),
      ));
  begins_alone = λ m file s c at bytes any there can spent es ss j. (j.0, put_case m file s there (with_write c at bytes s) refl j.1);
  times_write = λ m file s w xid there waits out es ss j. (j.0, put_case m file s there (record s { write = Some (write_stepped w (writer.after_timeout w.writer xid)) }) refl j.1);
  ends_write = λ m file s w places there waits over fresh es ss j.
      (table_parts.ends_write m file s w places there waits over fresh es ss j.0, input_case (with_served m file (without_write s)) file (without_write s) (served_again m file s (without_write s) there) (end_input s w) (put_case m file s there (without_write s) refl j.1));
  drops_write = λ m file s w places there waits over spent es ss j. (j.0, put_case m file s there (without_write s) refl j.1);
  makes = λ m name may es ss j. (j.0, makes m name j.1);
}

pub runs : RunParts IsSo
runs = record {
  confirmed = λ m client node es ss j. j;
  destroys = λ m session es ss j. j;
  returns = λ m file s errors there fresh es ss j.
      (table_runs.returns m file s errors there fresh es ss j.0, input_case m file s there (Returns (client_number (holder_of s.file.layout.phase)) s.file.layout.cred (report_of errors s.file.layout.live)) j.1);
  replies = λ m node xid bytes es ss j. (table_runs.replies m node xid bytes es ss j.0, j.1);
  finishes = λ m pass bytes es ss j. j;
}

pub answers : GivesAnswers IsSo
answers m node bytes reply is es ss j = (table_answers m node bytes reply is es ss j.0, j.1)

out_on : (s : ServedFile) (xid : ℕ) (c : CallOut) → call_out s.file xid ≡ Some c → IsClients s.file.layout.phase → IsHeldOn s.file c.file
out_on s xid c is clients =
    let same : c.file.layout ≡ s.file.layout = out_layout s.file xid c is in
    record { cred_same = ap (λ (l : LayoutState). l.cred) same; client = subst (λ (l : LayoutState). IsClients l.phase) (sym same) clients }

pub calls : Calls IsSo HeardAny
calls = record {
  fits = λ m es ss j call inside. inl (j.0.waiters call inside);
  hears = λ m node xid file s call c replies heard its there out fresh es ss j.
      (table_calls.hears m node xid file s call c replies heard its there out fresh es ss j.0, input_case (heard_by node xid m) file s there (IsAnswer xid (own_answer c (replies c))) j.1);
  unheard = λ m node xid file s call c its there spent es ss j. (table_calls.unheard m node xid file s call c its there spent es ss j.0, j.1);
  hears_read = λ m node xid file s call c replies place r heard its at on es ss j.
      (table_calls.hears_read m node xid file s call c replies place r heard its at on es ss j.0, put_case m file s at.there (with_read_at s place r (read.after_reply r.read xid (replies c)).read) refl j.1);
  ends_read = λ m node xid file s call c replies place r e heard its at over es ss j.
      (table_calls.ends_read m node xid file s call c replies place r e heard its at over es ss j.0, put_case m file s at.there (record s { reads = remove s.reads place }) refl j.1);
  hears_write = λ m node xid file s w call c replies heard its there waits out es ss j.
      (table_calls.hears_write m node xid file s w call c replies heard its there waits out es ss j.0, put_case m file s there (record s { write = Some (write_stepped w (after_own_reply w.writer xid (replies c))) }) refl j.1);
  hears_recall = λ m node xid status call found its out es ss j.
      (table_calls.hears_recall m node xid status call found its out es ss j.0, fewer m (after_reply m.recalls xid (recall_end status)).recalls (reply_less m.recalls xid (recall_end status)) j.1);
  leaves = λ m node xid call inside its off es ss j. (table_calls.leaves m node xid call inside its off es ss j.0, j.1);
  forgets = λ m es ss j. (table_calls.forgets m es ss j.0, j.1);
  late = λ m call inside is es ss j. j;
  again = λ m call inside is es ss j. (table_calls.again m call inside is es ss j.0, j.1);
}

pub outs : OutParts IsSo
outs = record {
  calls_file = λ m file s out there has idle its es ss j. (
    table_outs.calls_file m file s out there has idle its es ss j.0,
    put_files m file s (record s { file = out.file }) there (out_on s m.next_xid out its) (out_agrees s.file m.next_xid out (its_agrees m file s there j.1.agree) its) j.1,
  );
  calls_write = λ m file s w out there has waits its es ss j.
      (table_outs.calls_write m file s w out there has waits its es ss j.0, put_case m file s there (record s { write = Some (record w { writer = out.writer }) }) refl j.1);
  calls_read = λ m file s place r out there has at its es ss j. (table_outs.calls_read m file s place r out there has at its es ss j.0, put_case m file s there (with_read_at s place r out.read) refl j.1);
  calls_back = λ m sent session has its es ss j. (table_outs.calls_back m sent session has its es ss j.0, fewer m sent.recalls (sent_less m.recalls m.next_xid sent its) j.1);
  skips = λ m sent has its es ss j. (table_outs.skips m sent has its es ss j.0, fewer m sent.recalls (sent_less m.recalls m.next_xid sent its) j.1);
  back = λ m client es ss j. j;
  repeats = λ m server xid call found es ss j. (table_outs.repeats m server xid call found es ss j.0, j.1);
}

pub begins : KeepsBegin IsSo
begins m request now es ss j = j

pub whole : EventParts IsSo HeardAny AnyCompound
whole = record { parts = parts; runs = runs; any = λ c. tt; answers = answers; calls = calls; outs = outs; begins = begins }

pub begun : (servers : List AddressValue) (mirrors : ℕ) → IsSo (new_mds servers mirrors) [] []
begun servers mirrors = (new_table, record { held = tt; rise = tt; agree = λ place s got. absurd (none-some s got) })

pub in_order : (m : MdsValue) (es : List Entry) (ss : List MdsSend) → IsSo m es ss → AreRecallsInOrder m
in_order m es ss i = recalls_rise 0 (length m.files) m.recalls i.1.rise
