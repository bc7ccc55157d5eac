-- Journals that the laws refuse.
use Rattle.std.specs.Prelude.{◌≡◌, ℕ, false, List, [], ◌∷◌, ◌++◌}
use Rattle.cluster_model.specs.declared.ids.NodeId.TheVariants.{Client}
use Rattle.cluster_model.specs.declared.phase.EndCause.TheVariants.{Returned, Lease}
use Rattle.cluster_model.specs.declared.entry.Entry.{Entry}
use Rattle.cluster_model.specs.declared.entry.Entry.TheVariants.{Granted, Sent, Told, Ended, Fenced, Free, Applied, Committed, Owner, Restarted}
use Rattle.file_rule.specs.MdsFiles.{a_uid}
use Rattle.cluster_model.specs.DsCalls.{Write, Commit}
use Rattle.file_rule.specs.FilePhases.{AsksLayout, Returns, Revokes}
use Rattle.cluster_laws.specs.Machine.{Move, Deliver, Creates, Happens, CallsOut, SendsAgain, Uses, Takes, Tells, Restarts, file_id}
use Rattle.cluster_laws.specs.FenceLaw.{ObeysFences}
use Rattle.cluster_laws.specs.Periods.{ArePeriodsFenced}
use Rattle.cluster_laws.specs.Agreement.{AgreesAlways}
use Rattle.cluster_laws.specs.Holders.{AreBound}
use Rattle.cluster_laws.specs.WorkedRuns.{at_server, run_journal}

abbrev pub BreaksFences : List Entry → Type 0
BreaksFences journal = ObeysFences journal → ⊥

abbrev pub BreaksPeriods : List Entry → Type 0
BreaksPeriods journal = ArePeriodsFenced journal → ⊥

-- ---- fences

-- of a file that was never free
abbrev pub fence_of_nothing : List Entry
fence_of_nothing =
    Owner (at_server 1 2) (a_uid 65537)
    ∷ Fenced (file_id 1) (a_uid 65536) (a_uid 65537) (at_server 1 2 ∷ [])
    ∷ []

-- before the second mirror belongs to the fresh uid
abbrev pub fence_of_one_mirror : List Entry
fence_of_one_mirror =
    Owner (at_server 1 2) (a_uid 65536)
    ∷ Owner (at_server 2 2) (a_uid 65536)
    ∷ Free (file_id 1) (at_server 1 2 ∷ at_server 2 2 ∷ [])
    ∷ Owner (at_server 1 2) (a_uid 65537)
    ∷ Fenced (file_id 1) (a_uid 65536) (a_uid 65537) (at_server 1 2 ∷ at_server 2 2 ∷ [])
    ∷ []

-- behind which the fenced uid still writes
abbrev pub write_behind_the_fence : List Entry
write_behind_the_fence =
    Owner (at_server 1 2) (a_uid 65536)
    ∷ Free (file_id 1) (at_server 1 2 ∷ [])
    ∷ Owner (at_server 1 2) (a_uid 65537)
    ∷ Fenced (file_id 1) (a_uid 65536) (a_uid 65537) (at_server 1 2 ∷ [])
    ∷ Applied (at_server 1 2) (a_uid 65536) 0 (65 ∷ [])
    ∷ []

-- ---- periods

-- a grant behind an end, without a fence between
abbrev pub grant_without_a_fence : List Entry
grant_without_a_fence =
    Owner (at_server 1 2) (a_uid 65536)
    ∷ Free (file_id 1) (at_server 1 2 ∷ [])
    ∷ Granted (file_id 1) (a_uid 65536) (Client 1)
    ∷ Ended (file_id 1) (a_uid 65536) Returned
    ∷ Granted (file_id 1) (a_uid 65537) (Client 2)
    ∷ []

-- a fence that shuts the user out at no mirror
abbrev pub fence_without_mirrors : List Entry
fence_without_mirrors =
    Owner (at_server 1 2) (a_uid 65536)
    ∷ Free (file_id 1) (at_server 1 2 ∷ [])
    ∷ Granted (file_id 1) (a_uid 65536) (Client 1)
    ∷ Ended (file_id 1) (a_uid 65536) Returned
    ∷ Fenced (file_id 1) (a_uid 65536) (a_uid 65537) []
    ∷ []

-- one user granted twice
abbrev pub granted_again : List Entry
granted_again =
    Owner (at_server 1 2) (a_uid 65536)
    ∷ Free (file_id 1) (at_server 1 2 ∷ [])
    ∷ Granted (file_id 1) (a_uid 65536) (Client 1)
    ∷ Granted (file_id 1) (a_uid 65536) (Client 2)
    ∷ []

-- ---- agreement

abbrev pub BreaksAgreement : List Entry → Type 0
BreaksAgreement journal = AgreesAlways journal (file_id 1) → ⊥

-- two mirrors of a free file, of which one has a byte
abbrev pub mirrors_differ : List Entry
mirrors_differ =
    Owner (at_server 1 2) (a_uid 65536)
    ∷ Owner (at_server 2 2) (a_uid 65536)
    ∷ Applied (at_server 2 2) (a_uid 65536) 0 (65 ∷ [])
    ∷ Free (file_id 1) (at_server 1 2 ∷ at_server 2 2 ∷ [])
    ∷ []

-- a write that was told and not committed, and lost with a restart
abbrev pub told_and_lost : List Entry
told_and_lost =
    Owner (at_server 1 2) (a_uid 65536)
    ∷ Free (file_id 1) (at_server 1 2 ∷ [])
    ∷ Granted (file_id 1) (a_uid 65536) (Client 1)
    ∷ Sent (file_id 1) (a_uid 65536) 0 (65 ∷ [])
    ∷ Applied (at_server 1 2) (a_uid 65536) 0 (65 ∷ [])
    ∷ Told (file_id 1) (a_uid 65536) 0 (65 ∷ [])
    ∷ Restarted 1 []
    ∷ Ended (file_id 1) (a_uid 65536) Lease
    ∷ Owner (at_server 1 2) (a_uid 65537)
    ∷ Fenced (file_id 1) (a_uid 65536) (a_uid 65537) (at_server 1 2 ∷ [])
    ∷ Committed (at_server 1 2)
    ∷ Free (file_id 1) (at_server 1 2 ∷ [])
    ∷ []

-- a run in which a holder sends a byte that it never took; and its journal
abbrev pub untaken : List Move
untaken =
    Creates (1 ∷ []) ∷ CallsOut 1 1 ∷ Deliver 0 ∷ Deliver 1 ∷ Happens 1 (AsksLayout 1) ∷ Uses (Client 1) 1 1 65536 65536 (Write 2 0 false (65 ∷ [])) ∷ Deliver 2
    ∷ Happens 1 (Returns 1 (a_uid 65536) []) ∷ CallsOut 1 2 ∷ Deliver 4 ∷ Deliver 5 ∷ CallsOut 1 3 ∷ Deliver 6 ∷ Deliver 7 ∷ []

abbrev pub untaken_journal : List Entry
untaken_journal =
    Owner (at_server 1 2) (a_uid 65536)
    ∷ Free (file_id 1) (at_server 1 2 ∷ [])
    ∷ Granted (file_id 1) (a_uid 65536) (Client 1)
    ∷ Applied (at_server 1 2) (a_uid 65536) 0 (65 ∷ [])
    ∷ Ended (file_id 1) (a_uid 65536) Returned
    ∷ Owner (at_server 1 2) (a_uid 65537)
    ∷ Fenced (file_id 1) (a_uid 65536) (a_uid 65537) (at_server 1 2 ∷ [])
    ∷ Free (file_id 1) (at_server 1 2 ∷ [])
    ∷ []

-- A run in which a write is told by a COMMIT that went out, and was answered, before it, and went out once more behind its answer. The
-- second one never comes, and a restart loses the write. So it is the answered COMMIT that has to stand behind.
abbrev pub told_until_repeat : List Move
told_until_repeat =
    Creates (1 ∷ []) ∷ CallsOut 1 1 ∷ Deliver 0 ∷ Deliver 1 ∷ Happens 1 (AsksLayout 1) ∷ Takes (file_id 1) 65536 0 (65 ∷ []) ∷ Uses (Client 1) 1 1 65536 65536 (Commit 2) ∷ Deliver 2
    ∷ Uses (Client 1) 1 2 65536 65536 (Write 2 0 false (65 ∷ [])) ∷ Deliver 4 ∷ SendsAgain 2 ∷ []

abbrev pub told_by_a_repeat : List Move
told_by_a_repeat = told_until_repeat ++ Tells (file_id 1) 65536 0 (65 ∷ []) ∷ Restarts 1 [] ∷ Happens 1 (Revokes Lease) ∷ CallsOut 1 2 ∷ Deliver 7 ∷ Deliver 8 ∷ CallsOut 1 3 ∷ Deliver 9 ∷ Deliver 10 ∷ []

abbrev pub told_by_a_repeat_journal : List Entry
told_by_a_repeat_journal =
    Owner (at_server 1 2) (a_uid 65536)
    ∷ Free (file_id 1) (at_server 1 2 ∷ [])
    ∷ Granted (file_id 1) (a_uid 65536) (Client 1)
    ∷ Sent (file_id 1) (a_uid 65536) 0 (65 ∷ [])
    ∷ Committed (at_server 1 2)
    ∷ Applied (at_server 1 2) (a_uid 65536) 0 (65 ∷ [])
    ∷ Told (file_id 1) (a_uid 65536) 0 (65 ∷ [])
    ∷ Restarted 1 []
    ∷ Ended (file_id 1) (a_uid 65536) Lease
    ∷ Owner (at_server 1 2) (a_uid 65537)
    ∷ Fenced (file_id 1) (a_uid 65536) (a_uid 65537) (at_server 1 2 ∷ [])
    ∷ Committed (at_server 1 2)
    ∷ Free (file_id 1) (at_server 1 2 ∷ [])
    ∷ []

-- A holder is not bound so, and the file does not agree.
pub record IsLoose (boots : List ℕ) (moves : List Move) (journal : List Entry) : Type 0 where
  pub is : run_journal boots moves ≡ journal
  pub loose : AreBound boots moves → ⊥
  pub breaks : BreaksAgreement journal
