-- An own write that has ended is covered at each mirror that stays.
use Rattle.std.proofs.Common.{◌≡◌, ◌≤◌, ℕ, Bool, true, false, cond, List, [], ◌∷◌, length, Option, Some, None, refl, sym, ap, subst, ◌∙◌, arith}
use Rattle.std.specs.Prelude.{map, is_some, ◌||◌}
use Rattle.std.specs.List.{find, list_all, AllByRecursion}
use Rattle.std.specs.Option.{option_map}
use Rattle.std.proofs.lemmas.Bool.{cond_both, and_parts}
use Rattle.cluster_model.specs.declared.ids.MirrorId.{MirrorId}
use Rattle.cluster_model.specs.declared.ids.Mirror.{Mirror}
use Rattle.cluster_model.specs.declared.phase.LeftCause.{LeftCause}
use Rattle.cluster_model.specs.Phases.{ids_of, unreported}
use Rattle.cluster_laws.specs.Machine.{PacketValue}
use Rattle.cluster_laws.specs.Holders.{IsCovered, the_write}
use Rattle.mirror_writer.specs.Writers.{WriterMirror, WriterValue, is_committed, is_covered as is_flag, open_committed, reported_places}
use Rattle.mds_io.specs.OwnWrites.{ended}
use Rattle.mds_rule.specs.MdsStates.{MdsSend}
use Rattle.mds_rule.specs.Answers.{is_failure_of, cause_at, failures_by_place}
use Rattle.mds_walk.proofs.Lists.{AllOf}
use Rattle.mds_moves.specs.MdsBinds.{IsWrittenTo}
use Rattle.mds_moves.proofs.WriterMirrors.{MirrorFailures, ids_in}

-- whether each failed, in the order of the live list
abbrev pub gone : MirrorFailures → List Mirror → List Bool
gone fs live = map (λ (m : Mirror). is_some (cause_at fs m)) live

pub few_places : (fs : MirrorFailures) (live : List Mirror) → length live ≤ 4 → unreported (map is_some (failures_by_place fs live)) live ≡ unreported (gone fs live) live
few_places fs [] few = refl
few_places fs (a ∷ []) few = refl
few_places fs (a ∷ b ∷ []) few = refl
few_places fs (a ∷ b ∷ c ∷ []) few = refl
few_places fs (a ∷ b ∷ c ∷ d ∷ []) few = refl
few_places fs (a ∷ b ∷ c ∷ d ∷ e ∷ live) few = absurd (omega (arith, few))

-- who failed is found
found_some : (fs : MirrorFailures) (m : Mirror) → is_some (cause_at fs m) ≡ is_some (find (is_failure_of m.id) fs)
found_some fs m = by_found (find (is_failure_of m.id) fs)
  where
    by_found : (o : Option (MirrorId × LeftCause)) → is_some (option_map (λ (failure : MirrorId × LeftCause). failure.1) o) ≡ is_some o
    by_found None = refl
    by_found (Some failure) = refl

pub is_open : (w : WriterValue) (places : List Bool) → ended w ≡ Some places → open_committed w.mirrors ≡ true
is_open w places over = by_test (open_committed w.mirrors) over
  where
    by_test : (b : Bool) → cond b (Some (reported_places w)) None ≡ Some places → b ≡ true
    by_test true is = refl
    by_test false is = absurd cc

or_second : (a b : Bool) → (a || b) ≡ true → a ≡ false → b ≡ true
or_second true b is off = absurd cc
or_second false b is off = is

module _ (packets : List PacketValue) (ss : List MdsSend) (uid at : ℕ) (bytes : List ℕ) (fs : MirrorFailures) where
  not_failed : (m : WriterMirror) → IsWrittenTo packets ss uid at bytes fs m → is_some (find (is_failure_of m.id) fs) ≡ false → m.has_failed ≡ false
  not_failed m i none = by_flag m.has_failed refl
    where
      apart : true ≡ false → ⊥
      apart is = absurd cc

      by_flag : (b : Bool) → m.has_failed ≡ b → b ≡ false
      by_flag true is = absurd (apart (sym (i.failed is) ∙ none))
      by_flag false is = refl

  covered_one : (m : WriterMirror) → IsWrittenTo packets ss uid at bytes fs m → is_committed m ≡ true → IsCovered packets uid m.id (the_write at bytes)
  covered_one m i is = i.covers (both_true i.is_covered (subst (λ (l : List Bool). list_all is_flag l ≡ true) i.flag is))
    where
      both_true : (b : Bool) → list_all is_flag (b ∷ []) ≡ true → b ≡ true
      both_true true its = refl
      both_true false its = absurd cc

  first_same : (a b : MirrorId) (more others : List MirrorId) → a ∷ more ≡ b ∷ others → a ≡ b
  first_same a b more others is = cc (is)

  rest_same : (a b : MirrorId) (more others : List MirrorId) → a ∷ more ≡ b ∷ others → more ≡ others
  rest_same a b more others is = cc (is)

  pub all_covered : (live : List Mirror) (mirrors : List WriterMirror) → ids_in mirrors ≡ ids_of live → AllOf (IsWrittenTo packets ss uid at bytes fs) mirrors → open_committed mirrors ≡ true
      → AllByRecursion (λ (id : MirrorId). IsCovered packets uid id (the_write at bytes)) (ids_of (unreported (gone fs live) live))
  all_covered [] mirrors same all over = tt
  all_covered (x ∷ live) [] same all over = absurd (cc (same))
  all_covered (x ∷ live) (m ∷ mirrors) same all over =
      let id : m.id ≡ x.id = first_same m.id x.id (ids_in mirrors) (ids_of live) same in
      let parts = and_parts (m.has_failed || is_committed m) (open_committed mirrors) over in
      let rest = all_covered live mirrors (rest_same m.id x.id (ids_in mirrors) (ids_of live) same) all.1 parts.1 in
      cond_both (is_some (cause_at fs x)) (unreported (gone fs live) live) (x ∷ unreported (gone fs live) live) (λ (l : List Mirror). AllByRecursion (λ (k : MirrorId). IsCovered packets uid k (the_write at bytes)) (ids_of l)) (λ failed. rest)
      (λ stays. (
        subst (λ (k : MirrorId). IsCovered packets uid k (the_write at bytes)) id
            (covered_one m all.0 (or_second m.has_failed (is_committed m) parts.0 (not_failed m all.0 (ap (λ (k : MirrorId). is_some (find (is_failure_of k) fs)) id ∙ (sym (found_some fs x) ∙ stays))))),
        rest,
      ))
