-- A file whose copy is in another state.
use Rattle.std.proofs.Common.{◌≡◌, ℕ, Bool, true, not, ◌&&◌, List, [], ◌∷◌, map, set, Option, Some, refl, sym, subst, ◌+◌, false, length, arith}
use Rattle.std.specs.Prelude.{slice_get, ◌||◌, nat_lt}
use Rattle.std.specs.List.{AllByRecursion, list_all}
use Rattle.std.proofs.lemmas.Bool.{cond_both, and_parts, ltb-false}
use Rattle.cluster_model.specs.declared.ids.MirrorId.{MirrorId}
use Rattle.cluster_model.specs.declared.entry.Entry.{Entry}
use Rattle.cluster_model.specs.declared.call_stage.CallStage.{CallStage}
use Rattle.cluster_model.specs.declared.call_stage.CallStage.TheVariants.{Waits, Out, KeptOut, KeptBack, Done, GivenUp}
use Rattle.cluster_model.specs.declared.layout_state.LayoutState.{LayoutState}
use Rattle.cluster_model.specs.Fences.{is_out, is_over}
use Rattle.copy_rule.specs.Copies.{CopyState, is_given_up, at_stage, stage_for, to_write, with_target, with_next, have_answered, goes_on, is_long}
use Rattle.copy_rule.specs.declared.copy_target.CopyTarget.{CopyTarget}
use Rattle.file_rule.specs.MdsFiles.{Copies}
use Rattle.cluster_laws.proofs.Lists.{all_at, all_set}
use Rattle.cluster_laws.proofs.Invariant.{Net, IsTargetOf, IsNotSource, site_of, IsPlan, IsFile, IsShort}
use Rattle.cluster_laws.proofs.Plans.{sites_set}
use Rattle.cluster_model.specs.declared.limits.TheConstants.{MAX_FILE, PIECE_SIZE}

module _ (net : Net) (n : ℕ) (journal : List Entry) (s : LayoutState) (c : CopyState) (h : IsFile net journal n (record { layout = s; activity = Copies c })) where
  pub recopied : (at : ℕ) (piece : List ℕ) (ended : Bool) (read : CallStage) (targets : List CopyTarget) → AllByRecursion (IsTargetOf net n c.copier at piece) targets → AllByRecursion (λ t. IsNotSource s.live t.replaced) targets → map site_of targets ≡ map site_of c.targets → IsShort at piece
      → IsFile net journal n (record { layout = s; activity = Copies (record { copier = c.copier; source = c.source; at = at; piece = piece; ended = ended; read = read; targets = targets }) })
  recopied at piece ended read targets ok sources same short = record {
    live = h.live;
    apart = h.apart;
    mirrors = h.mirrors;
    cred = h.cred;
    top = h.top;
    busy = record { copier = h.busy.copier; copies = h.busy.copies; phase = h.busy.phase; targets = ok; later = h.busy.later; top = h.busy.top; fences = h.busy.fences; sources = sources; plan = subst (IsPlan s.live) (sym same) h.busy.plan; source = h.busy.source; short = short };
  }

  -- another state of one target
  pub put_target : (place : ℕ) (t new : CopyTarget) → slice_get c.targets place ≡ Some t → new.server ≡ t.server → new.replaced ≡ t.replaced → IsTargetOf net n c.copier c.at c.piece new → IsFile net journal n (record { layout = s; activity = Copies (with_target c place new) })
  put_target place t new there on same ok =
      recopied c.at c.piece c.ended c.read (set c.targets place new) (all_set (IsTargetOf net n c.copier c.at c.piece) c.targets place new h.busy.targets ok)
      (all_set (λ x. IsNotSource s.live x.replaced) c.targets place new h.busy.sources (subst (IsNotSource s.live) (sym same) (all_at (λ x. IsNotSource s.live x.replaced) c.targets place t h.busy.sources there))) (sites_set c.targets place t new there on same) h.busy.short

-- ---- targets to which no call is out

not_out : (stage : CallStage) (xid : ℕ) → is_over stage ≡ true → is_out xid stage ≡ true → ⊥
not_out Waits xid over out = absurd cc
not_out (Out x timeouts) xid over out = absurd cc
not_out (KeptOut x) xid over out = absurd cc
not_out KeptBack xid over out = absurd cc
not_out Done xid over out = absurd cc
not_out GivenUp xid over out = absurd cc

-- of another piece
pub rests_at : (net : Net) (n copier at : ℕ) (piece : List ℕ) (place : ℕ) (next : List ℕ) (t : CopyTarget) (stage : CallStage) → ((xid : ℕ) → is_out xid stage ≡ true → ⊥) → IsTargetOf net n copier at piece t → IsTargetOf net n copier place next (at_stage t stage)
rests_at net n copier at piece place next t stage none h = record { drawn = h.drawn; home = h.home; low = h.low; out = λ xid is. absurd (none xid is); made = h.made }

over_targets : (net : Net) (n copier at : ℕ) (piece : List ℕ) (place : ℕ) (next : List ℕ) (targets : List CopyTarget) → list_all (λ t. is_over t.stage) targets ≡ true → AllByRecursion (IsTargetOf net n copier at piece) targets → AllByRecursion (IsTargetOf net n copier place next) targets
over_targets net n copier at piece place next [] over h = tt
over_targets net n copier at piece place next (t ∷ targets) over h =
    let parts = and_parts _ _ over in
    (rests_at net n copier at piece place next t t.stage (λ xid out. not_out t.stage xid parts.0 out) h.0, over_targets net n copier at piece place next targets parts.1 h.1)

-- a piece is to be written
not_out_for : (bytes : List ℕ) (xid : ℕ) → is_out xid (stage_for bytes) ≡ true → ⊥
not_out_for [] xid out = absurd cc
not_out_for (b ∷ bytes) xid out = absurd cc

given_up_out : (stage : CallStage) (xid : ℕ) → is_given_up stage ≡ true → is_out xid stage ≡ true → ⊥
given_up_out Waits xid up out = absurd cc
given_up_out (Out x timeouts) xid up out = absurd cc
given_up_out (KeptOut x) xid up out = absurd cc
given_up_out KeptBack xid up out = absurd cc
given_up_out Done xid up out = absurd cc
given_up_out GivenUp xid up out = absurd cc

pub to_write_ok : (net : Net) (n copier at : ℕ) (piece : List ℕ) (place : ℕ) (bytes : List ℕ) (t : CopyTarget) → IsTargetOf net n copier at piece t → IsTargetOf net n copier place bytes (to_write bytes t)
to_write_ok net n copier at piece place bytes t h =
    cond_both (is_given_up t.stage) t (at_stage t (stage_for bytes)) (λ (x : CopyTarget). IsTargetOf net n copier place bytes x)
    (λ e. rests_at net n copier at piece place bytes t t.stage (λ xid out. given_up_out t.stage xid e out) h) (λ e. rests_at net n copier at piece place bytes t (stage_for bytes) (not_out_for bytes) h)

pub same_replaced : (bytes : List ℕ) (P : Option MirrorId → Type 0) (t : CopyTarget) → P t.replaced → P (to_write bytes t).replaced
same_replaced bytes P t h = cond_both (is_given_up t.stage) t (at_stage t (stage_for bytes)) (λ (x : CopyTarget). P x.replaced) (λ e. h) (λ e. h)

-- the place of the next piece, which is not read yet; and a piece that was not refused
next_short : (at : ℕ) (piece : List ℕ) → IsShort at piece → IsShort (at + length piece) []
next_short at piece h = let end = h.end in record { size = omega arith; end = omega (arith, end) }

pub short_by : (c : CopyState) (bytes : List ℕ) → is_long c bytes ≡ false → IsShort c.at bytes
short_by c bytes e =
    let parts = or_false (nat_lt PIECE_SIZE (length bytes)) (nat_lt MAX_FILE (c.at + length bytes)) e in
    let size = ltb-false PIECE_SIZE (length bytes) parts.0 in
    let end = ltb-false MAX_FILE (c.at + length bytes) parts.1 in
    record { size = omega (arith, size); end = omega (arith, end) }
  where
    or_false : (a b : Bool) → (a || b) ≡ false → (a ≡ false) × (b ≡ false)
    or_false true b e = absurd cc
    or_false false b e = (refl, e)

-- the next piece is to be read, or not
pub goes_on_ok : (net : Net) (n : ℕ) (journal : List Entry) (s : LayoutState) (d : CopyState) → IsFile net journal n (record { layout = s; activity = Copies d }) → IsFile net journal n (record { layout = s; activity = Copies (goes_on d) })
goes_on_ok net n journal s d h =
    cond_both (is_over d.read && not d.ended && have_answered d) (with_next d) d (λ (x : CopyState). IsFile net journal n (record { layout = s; activity = Copies x }))
    (λ e. recopied net n journal s d h _ [] d.ended Waits d.targets (over_targets net n d.copier d.at d.piece _ [] d.targets (and_parts _ _ e).1 h.busy.targets) h.busy.sources refl (next_short d.at d.piece h.busy.short))
    (λ e. h)
