-- What a step makes of a read, beside what the notes tell of it.
use Rattle.std.proofs.Common.{◌≡◌, ℕ, ◌<◌, Bool, List, [], ◌∷◌, ◌++◌, length, Option, Some, None, refl, sym, ap, subst, ◌∙◌, arith}
use Rattle.std.specs.Prelude.{slice_get}
use Rattle.std.proofs.lemmas.List.{length-append}
use Rattle.cluster_model.specs.declared.ids.Mirror.{Mirror}
use Rattle.cluster_model.specs.declared.ids.MirrorId.{MirrorId}
use Rattle.cluster_model.specs.declared.ds_call.Shown.{Shown}
use Rattle.cluster_model.specs.declared.call_stage.CallStage.{CallStage}
use Rattle.cluster_model.specs.declared.call_stage.CallStage.TheVariants.{Waits, Out, KeptOut, KeptBack, Done, GivenUp}
use Rattle.cluster_model.specs.DsCalls.{DsReplyValue, Bytes}
use Rattle.cluster_model.specs.Phases.{ids_of}
use Rattle.mds_io.specs.declared.read_end.Failure.{Failure}
use Rattle.mds_io.specs.declared.read_end.ReadEnd.TheVariants as end
use Rattle.mds_io.specs.Reads.{ReadState, ReadAfter, goes_on, with_failure, failed_with, end_of}
use Rattle.mds_io.specs.ReadLaws.{ReadNote, ReadRun, OutRead, read_out, failures_told, ids_failed, EndsAs}
use Rattle.mds_io.proofs.Named.{Begins, next_named, one_failed, all_failed, one_left}

-- ---- a read that stands as the notes tell

abbrev pub out_as : MirrorId → ℕ → ℕ → OutRead
out_as id xid timeouts = record { id = id; xid = xid; timeouts = timeouts }

-- the READ that is out goes to the mirror that has its turn
abbrev pub IsOutAs : List Mirror → List Failure → CallStage → Option OutRead → Type 0
IsOutAs live failures Waits out = out ≡ None
IsOutAs live failures (Out xid timeouts) out = (m : Mirror) × (slice_get live (length failures) ≡ Some m) × (out ≡ Some (out_as m.id xid timeouts)) × (timeouts < 3)
IsOutAs live failures (KeptOut xid) out = ⊥
IsOutAs live failures KeptBack out = ⊥
IsOutAs live failures Done out = out ≡ None
IsOutAs live failures GivenUp out = ⊥

pub record Good (live : List Mirror) (failures : List Failure) (stage : CallStage) (notes : List ReadNote) : Type 0 where
  pub told : failures ≡ failures_told notes
  pub named : Begins (ids_failed failures) (ids_of live)
  pub out : IsOutAs live failures stage (read_out notes)

abbrev pub state_of : List Mirror → ℕ → ℕ → List Failure → CallStage → ReadState
state_of live at count failures stage = record { at = at; count = count; live = live; failures = failures; stage = stage }

pub record Stands (live : List Mirror) (at count : ℕ) (run : ReadRun) : Type 0 where
  pub failures : List Failure
  pub stage : CallStage
  pub is : run.read ≡ state_of live at count failures stage
  pub good : Good live failures stage run.notes

-- an answer or a timeout, behind which the notes are these
pub record AfterSo (live : List Mirror) (at count : ℕ) (before after : List ReadNote) (reply : Option DsReplyValue) (a : ReadAfter) : Type 0 where
  pub stands : Stands live at count (record { read = a.read; notes = after })
  pub ends : EndsAs live before after reply a.end

-- ---- the three ways on

module _ (live : List Mirror) (at count : ℕ) (failures : List Failure) (before after : List ReadNote) (reply : Option DsReplyValue) (told : failures ≡ failures_told before) (named : Begins (ids_failed failures) (ids_of live)) where
  -- no mirror has failed
  pub no_failure : (stage : CallStage) → failures_told after ≡ failures_told before → IsOutAs live failures stage (read_out after) → AfterSo live at count before after reply (goes_on (state_of live at count failures stage))
  no_failure stage same out = record {
    stands = record { failures = failures; stage = stage; is = refl; good = record { told = told ∙ sym same; named = named; out = out } };
    ends = λ all. all.0 (sym same);
  }

  -- the bytes have come
  pub has_bytes : (shown : Option Shown) (eof : Bool) (bytes : List ℕ) → reply ≡ Some (Bytes shown eof bytes) → failures_told after ≡ failures_told before → read_out after ≡ None
      → AfterSo live at count before after reply (record { read = state_of live at count failures Done; end = Some (end.Bytes eof bytes) })
  has_bytes shown eof bytes gives same none = record {
    stands = record { failures = failures; stage = Done; is = refl; good = record { told = told ∙ sym same; named = named; out = none } };
    ends = (shown, gives);
  }

  -- the mirror that has its turn has failed
  pub one_fails : (m : Mirror) (f : Failure) → slice_get live (length failures) ≡ Some m → f.id ≡ m.id → failures_told after ≡ failures_told before ++ f ∷ [] → read_out after ≡ None
      → AfterSo live at count before after reply (failed_with (with_failure (state_of live at count failures (Out f.xid 0)) f))
  one_fails m f found its more none = record {
    stands = record { failures = failures ++ f ∷ []; stage = Waits; is = refl; good = record { told = told_more; named = named_more; out = none } };
    ends = by_turn (slice_get live (length (failures ++ f ∷ []))) refl;
  }
    where
      told_more : failures ++ f ∷ [] ≡ failures_told after
      told_more = ap (λ l. l ++ f ∷ []) told ∙ sym more

      next : (behind : List MirrorId) × (ids_of live ≡ ids_failed failures ++ f.id ∷ behind)
      next = subst (λ (id : MirrorId). (behind : List MirrorId) × (ids_of live ≡ ids_failed failures ++ id ∷ behind)) (sym its) (next_named live failures m found named)

      named_more : Begins (ids_failed (failures ++ f ∷ [])) (ids_of live)
      named_more = one_failed (ids_of live) failures f next

      others : failures_told before ≡ failures_told after → ⊥
      others same = omega (arith, ap length same, ap length more, length-append (failures_told before) (f ∷ []))

      by_turn : (o : Option Mirror) → slice_get live (length (failures ++ f ∷ [])) ≡ o → EndsAs live before after reply (end_of (state_of live at count (failures ++ f ∷ []) Waits) o)
      by_turn None over = (told_more, (others, ap ids_failed (sym told_more) ∙ all_failed live (failures ++ f ∷ []) over named_more))
      by_turn (Some next) left = λ all. one_left live (failures ++ f ∷ []) next left named_more (ap ids_failed told_more ∙ all.1)
