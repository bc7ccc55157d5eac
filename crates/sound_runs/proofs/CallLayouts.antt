-- A call that goes out leaves its file's layout.
use Rattle.std.proofs.Common.{◌≡◌, ℕ, List, [], ◌∷◌, Option, Some, None, refl, sym, ap, ◌∙◌}
use Rattle.std.specs.Prelude.{slice_get}
use Rattle.std.proofs.lemmas.Bool.{cond_both}
use Rattle.std.proofs.lemmas.Option.{same_Some}
use Rattle.cluster_model.specs.declared.ids.Mirror.{Mirror}
use Rattle.cluster_model.specs.Fences.{waits, FenceCall, next_call}
use Rattle.copy_rule.specs.Copies.{CopyCall}
use Rattle.copy_rule.specs.Copies as copy
use Rattle.file_rule.specs.declared.creation.Creation.{Creation}
use Rattle.file_rule.specs.MdsFiles.{Creations, Activity, Idle, Makes, Fences, Settles, Copies, MdsFile}
use Rattle.file_rule.specs.FilePhases.{CallOut, call_out, call_out_of, create_out_at, create_out, creation_waiting, fence_out, settle_out, copy_out}

module _ (f : MdsFile) (xid : ℕ) (c : CallOut) where
  abbrev Kept : Option CallOut → Type 0
  Kept o = o ≡ Some c → c.file.layout ≡ f.layout

  some : (x : CallOut) → x.file.layout ≡ f.layout → Kept (Some x)
  some x same e = ap (λ (y : CallOut). y.file.layout) (sym (same_Some x c e)) ∙ same

  none : Kept None
  none e = absurd cc

  create_at : (all : Creations) (place : ℕ) (got : Option Creation) → Kept (create_out_at f all xid place got)
  create_at all place None = none
  create_at all place (Some x) = some _ refl

  create : (all : Creations) (got : Option ℕ) → Kept (create_out f all xid got)
  create all None = none
  create all (Some place) = create_at all place (slice_get all.items place)

  fence : (got : Option FenceCall) → Kept (fence_out f got)
  fence None = none
  fence (Some x) = some _ refl

  settle : (live : List Mirror) → Kept (settle_out f xid live)
  settle [] = none
  settle (m ∷ live) = some _ refl

  copies : (got : Option CopyCall) → Kept (copy_out f got)
  copies None = none
  copies (Some x) = some _ refl

  by_activity : (a : Activity) → Kept (call_out_of f xid a)
  by_activity Idle = none
  by_activity (Makes all) = create all (creation_waiting all)
  by_activity (Fences x) = fence (next_call x xid)
  by_activity (Settles stage) = cond_both (waits stage) (settle_out f xid f.layout.live) None Kept (λ e. settle f.layout.live) (λ e. none)
  by_activity (Copies x) = copies (copy.next_call x xid)

  pub layout_kept : call_out f xid ≡ Some c → c.file.layout ≡ f.layout
  layout_kept = by_activity f.activity
