-- Which mirrors of a file a client's LAYOUTRETURN leaves: those that it does not report; and as what the period ends.
use Rattle.std.proofs.Common.{◌≡◌, ◌≤◌, ◌<◌, ℕ, ◌^◌, Bool, true, false, cond, List, [], ◌∷◌, length, drop, map, Some, refl, sym, ap, ◌∙◌, arith, inl, inr}
use Rattle.std.specs.Prelude.{◌==◌, ◌&&◌, ◌||◌, bytes_eq}
use Rattle.std.specs.Int.{w64, from_be_bytes}
use Rattle.std.specs.List.{AllByRecursion}
use Rattle.std.proofs.lemmas.Bool.{eqb-true, eq-eqb}
use Rattle.std.proofs.lemmas.Nat.{from_be_bytes-to_be_bytes_8}
use Rattle.std.proofs.lemmas.Slice.Eq.{bytes_eq-Decides}
use Rattle.ff_xdr.specs.Form.{Value, Fits, long}
use Rattle.ff_layout.specs.IoError.{ff_ioerr4}
use Rattle.ff_layout.specs.ReturnBody.{ff_layoutreturn4}
use Rattle.cluster_model.specs.declared.ids.NodeId.TheVariants.{Client}
use Rattle.cluster_model.specs.declared.ids.FileId.{FileId}
use Rattle.cluster_model.specs.declared.ids.Cred.{Cred}
use Rattle.cluster_model.specs.declared.ids.Mirror.{Mirror}
use Rattle.cluster_model.specs.declared.phase.EndCause.TheVariants.{Returned}
use Rattle.cluster_model.specs.declared.entry.Entry.{Entry}
use Rattle.cluster_model.specs.declared.entry.Entry.TheVariants as entry
use Rattle.cluster_model.specs.declared.layout_state.LayoutPhase.{LayoutPhase}
use Rattle.cluster_model.specs.declared.layout_state.LayoutPhase.TheVariants.{Held}
use Rattle.cluster_model.specs.Phases.{holder_of, unreported, end_cause, end_entries, returned}
use Rattle.cluster_model.specs.Members.{IsOneOf}
use Rattle.file_rule.specs.MdsFiles.{MdsFile, FileStep, nothing, a_uid, goes_fencing}
use Rattle.file_rule.specs.FilePhases.{Returns, held_in, by_client, returned_row, phase}
use Rattle.layout_report.specs.Reports.{is_reported, report_of}
use Rattle.nfs4_types.specs.declared.stateid.Stateid.{Stateid}
use Rattle.nfs4_types.specs.Ids.{device_id_of}
use Rattle.ds_calls.proofs.DsCallsAgain.{whole_spelled}
use Rattle.client_file_calls.specs.declared.layout_return.FailedMirror.{FailedMirror}
use Rattle.client_file_calls.specs.FileOps.{io_error_of, return_body}
use Rattle.mds_rule.specs.MdsStates.{ServedFile, MdsValue, MdsStep, sends_none, served}
use Rattle.mds_rule.specs.ServedFiles.{has_fresh, file_stepped, input_at, takes_input}
use Rattle.mds_rule.specs.LayoutOps.{errors_in, errors_of, client_number}
use Rattle.client_mds_calls.specs.FittingCalls.{reports_server}
use Rattle.mds_walk.proofs.Lists.{in_last}

abbrev pub errors_for : Stateid → List FailedMirror → List (Value ff_ioerr4)
errors_for stateid failed = map (io_error_of stateid) failed

-- ---- the errors are read as they were reported

pub errors_again : (stateid : Stateid) (failed : List FailedMirror) → Fits ff_layoutreturn4 (errors_for stateid failed, []) → errors_of (return_body stateid failed) ≡ Some (errors_for stateid failed)
errors_again stateid failed fits = ap errors_in (whole_spelled ff_layoutreturn4 refl (errors_for stateid failed, []) fits)

device_back : (n : ℕ) → n < 2 ^ 64 → from_be_bytes w64 (drop 8 (device_id_of n).0) ≡ n
unfolding long
device_back n small = from_be_bytes-to_be_bytes_8 n small

same_device : (a b : ℕ) → a < 2 ^ 64 → b < 2 ^ 64 → bytes_eq (device_id_of a).0 (device_id_of b).0 ≡ (a == b)
same_device a b first second = by_test (a == b) refl
  where
    off : (c : Bool) → (c ≡ true → ⊥) → c ≡ false
    off true never = absurd (never refl)
    off false never = refl

    one : bytes_eq (device_id_of a).0 (device_id_of b).0 ≡ true → a ≡ b
    one is = sym (device_back a first) ∙ ap (λ (bytes : List ℕ). from_be_bytes w64 (drop 8 bytes)) ((bytes_eq-Decides (device_id_of a).0 (device_id_of b).0).0 is) ∙ device_back b second

    by_test : (c : Bool) → (a == b) ≡ c → bytes_eq (device_id_of a).0 (device_id_of b).0 ≡ c
    by_test true is = (bytes_eq-Decides (device_id_of a).0 (device_id_of b).0).1 (ap (λ (n : ℕ). (device_id_of n).0) (eqb-true a b is))
    by_test false is = off (bytes_eq (device_id_of a).0 (device_id_of b).0) (λ same. not_so (sym (eq-eqb a b (one same)) ∙ is))
      where
        not_so : true ≡ false → ⊥
        not_so e = absurd cc

or_false : (b : Bool) → (b || false) ≡ b
or_false true = refl
or_false false = refl

pub reports_same : (stateid : Stateid) (failed : List FailedMirror) (server : ℕ) → AllByRecursion (λ (f : FailedMirror). f.server < 2 ^ 64) failed → server < 2 ^ 64 → is_reported (errors_for stateid failed) server ≡ reports_server failed server
reports_same stateid [] server all small = refl
reports_same stateid (f ∷ failed) server all small =
    ap (λ (b : Bool). b || is_reported (errors_for stateid failed) server) (or_false (bytes_eq (device_id_of f.server).0 (device_id_of server).0) ∙ same_device f.server server all.0 small)
    ∙ ap (λ (b : Bool). (f.server == server) || b) (reports_same stateid failed server all.1 small)

-- ---- the mirrors at the places that are not reported

module _ (errors : List (Value ff_ioerr4)) where
  -- of each place whether its mirror is reported
  abbrev AreFlags : List Bool → List Mirror → Type 0
  AreFlags [] live = Unit {0}
  AreFlags (b ∷ places) [] = Unit {0}
  AreFlags (b ∷ places) (m ∷ live) = (b ≡ is_reported errors m.id.server) × AreFlags places live

  report_flags : (live : List Mirror) → AreFlags (report_of errors live) live
  report_flags [] = tt
  report_flags (a ∷ []) = (refl, tt)
  report_flags (a ∷ b ∷ []) = (refl, (refl, tt))
  report_flags (a ∷ b ∷ c ∷ []) = (refl, (refl, (refl, tt)))
  report_flags (a ∷ b ∷ c ∷ d ∷ live) = (refl, (refl, (refl, (refl, tt))))

  stays_in : (places : List Bool) (live : List Mirror) → AreFlags places live → (m : Mirror) → IsOneOf m live → is_reported errors m.id.server ≡ false → IsOneOf m (unreported places live)
  stays_in places [] flags m inside off = absurd inside
  stays_in [] (x ∷ live) flags m inside off = inside
  stays_in (b ∷ places) (x ∷ live) flags m (inl is) off = by_flag b (flags.0 ∙ sym (ap (λ (y : Mirror). is_reported errors y.id.server) is) ∙ off)
    where
      by_flag : (c : Bool) → c ≡ false → IsOneOf m (cond c (unreported places live) (x ∷ unreported places live))
      by_flag true never = absurd cc
      by_flag false never = inl is
  stays_in (b ∷ places) (x ∷ live) flags m (inr inside) off = by_flag b (stays_in places live flags.1 m inside off)
    where
      by_flag : (c : Bool) → IsOneOf m (unreported places live) → IsOneOf m (cond c (unreported places live) (x ∷ unreported places live))
      by_flag true its = its
      by_flag false its = inr its

  -- of no more mirrors than there are places those that stay are not reported
  not_reported : (places : List Bool) (live : List Mirror) → AreFlags places live → length live ≤ length places → (m : Mirror) → IsOneOf m (unreported places live) → is_reported errors m.id.server ≡ false
  not_reported places [] flags few m inside = absurd inside
  not_reported [] (x ∷ live) flags few m inside = absurd (omega (arith, few))
  not_reported (b ∷ places) (x ∷ live) flags few m inside = by_flag b flags.0 inside (λ its. not_reported places live flags.1 (omega (arith, few)) m its)
    where
      by_flag : (c : Bool) → c ≡ is_reported errors x.id.server → IsOneOf m (cond c (unreported places live) (x ∷ unreported places live)) → (IsOneOf m (unreported places live) → is_reported errors m.id.server ≡ false) → is_reported errors m.id.server ≡ false
      by_flag true is its rest = rest its
      by_flag false is (inl one) rest = ap (λ (y : Mirror). is_reported errors y.id.server) one ∙ sym is
      by_flag false is (inr its) rest = rest its

  pub unreported_has : (live : List Mirror) (m : Mirror) → IsOneOf m live → is_reported errors m.id.server ≡ false → IsOneOf m (unreported (report_of errors live) live)
  unreported_has live m inside off = stays_in (report_of errors live) live (report_flags live) m inside off

  pub unreported_off : (live : List Mirror) → length live ≤ 4 → (m : Mirror) → IsOneOf m (unreported (report_of errors live) live) → is_reported errors m.id.server ≡ false
  unreported_off live few m inside = not_reported (report_of errors live) live (report_flags live) few m inside

-- ---- as what the period ends

pub ends_as : (file : FileId) (cred : Cred) (left : List Entry) (live : List Mirror) → IsOneOf (entry.Ended file cred (end_cause Returned live)) (end_entries file cred left Returned live)
ends_as file cred left [] = inl refl
ends_as file cred left (m ∷ live) = in_last (entry.Ended file cred Returned) left

pub ends_returned : (live : List Mirror) (m : Mirror) → IsOneOf m live → end_cause Returned live ≡ Returned
ends_returned [] m inside = absurd inside
ends_returned (x ∷ live) m inside = refl

-- ---- the input of the table of phases

abbrev pub returned_step : MdsValue → FileId → ServedFile → List Bool → FileStep
returned_step m file s places = goes_fencing (returned file s.file.layout places (a_uid m.fresh.uid)) m.fresh.uid

pub returned_is : (m : MdsValue) (file : FileId) (s : ServedFile) (n : ℕ) (is_recalled : Bool) (places : List Bool) → served m file ≡ Some s → s.file.layout.phase ≡ Held (Client n) is_recalled → has_fresh m.fresh ≡ true
    → takes_input m file (Returns (client_number (holder_of s.file.layout.phase)) s.file.layout.cred places) ≡ file_stepped m file s (returned_step m file s places)
returned_is m file s n is_recalled places at held fresh =
    let f : MdsFile = s.file in
    let cred : ℕ = s.file.layout.cred.0 in
    let same : (n == n && (cred == cred)) ≡ true = ap (λ (b : Bool). b && (cred == cred)) (eq-eqb n n refl) ∙ eq-eqb cred cred refl in
    ap (input_at m file (Returns (client_number (holder_of s.file.layout.phase)) s.file.layout.cred places)) at
    ∙ ap (λ (b : Bool). cond {A = MdsStep} b (file_stepped m file s (phase file s.file (Returns (client_number (holder_of s.file.layout.phase)) s.file.layout.cred places) m.fresh)) (sends_none m)) fresh
    ∙ ap (λ (p : LayoutPhase). file_stepped m file s (held_in s.file (by_client s.file (returned_row file s.file (client_number (holder_of p)) s.file.layout.cred places m.fresh)) p)) held
    ∙ ap (λ (b : Bool). file_stepped m file s (cond {A = FileStep} b (returned_step m file s places) (nothing s.file))) same
