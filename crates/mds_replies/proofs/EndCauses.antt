-- No input of the table of phases but a return enters that a period ended as returned.
use Rattle.std.proofs.Common.{List, [], ◌∷◌, Option, Some, None}
use Rattle.std.specs.List.{AllByRecursion}
use Rattle.cluster_model.specs.declared.ids.FileId.{FileId}
use Rattle.cluster_model.specs.declared.ids.Mirror.{Mirror}
use Rattle.cluster_model.specs.declared.phase.EndCause.{EndCause}
use Rattle.cluster_model.specs.declared.phase.EndCause.TheVariants.{Returned}
use Rattle.cluster_model.specs.declared.phase.LeftCause.{LeftCause}
use Rattle.cluster_model.specs.declared.entry.Entry.{Entry}
use Rattle.cluster_model.specs.declared.entry.Entry.TheVariants as entry
use Rattle.cluster_model.specs.Phases.{left_entries}
use Rattle.file_rule.specs.declared.fresh.Fresh.{Fresh}
use Rattle.file_rule.specs.MdsFiles.{MdsFile}
use Rattle.file_rule.specs.FilePhases.{FileInput, Returns, phase}
use Rattle.machine_walk.proofs.PhaseEntries.{IsCauseOf, IsPhaseEntry, phase_all}

abbrev IsNotReturned : EndCause → Type 0
IsNotReturned Returned = ⊥
IsNotReturned cause = Unit {0}

-- it does not say that a period ended as returned
abbrev pub IsNoReturn : Entry → Type 0
IsNoReturn (entry.Ended file cred cause) = IsNotReturned cause
IsNoReturn e = Unit {0}

abbrev pub NoneReturned : List Entry → Type 0
NoneReturned entries = AllByRecursion IsNoReturn entries

-- an input that is no return
abbrev pub IsNoReturnInput : FileInput → Type 0
IsNoReturnInput (Returns client claimed places) = ⊥
IsNoReturnInput input = Unit {0}

pub left_none : (file : FileId) (causes : List (Option LeftCause)) (live : List Mirror) → NoneReturned (left_entries file causes live)
left_none file causes [] = tt
left_none file [] (m ∷ live) = tt
left_none file (None ∷ causes) (m ∷ live) = left_none file causes live
left_none file (Some cause ∷ causes) (m ∷ live) = (tt, left_none file causes live)

other_cause : (input : FileInput) → IsNoReturnInput input → (cause : EndCause) → IsCauseOf input cause → IsNotReturned cause
other_cause (Returns client claimed places) its Returned is = absurd its
other_cause _ its Returned is = absurd is
other_cause _ its _ is = tt

no_return : (input : FileInput) → IsNoReturnInput input → (e : Entry) → IsPhaseEntry input e → IsNoReturn e
no_return input its (entry.Ended file cred cause) is = other_cause input its cause is
no_return input its _ is = tt

pub phase_none : (file : FileId) (fresh : Fresh) (f : MdsFile) (input : FileInput) → IsNoReturnInput input → NoneReturned (phase file f input fresh).entries
phase_none file fresh f input its = phase_all IsNoReturn file fresh f input (no_return input its)
