-- Whom a layout is handed to (RFC 8881, section 18.43; RFC 8435, section 2.2).
use Rattle.std.specs.Prelude.{◌≡◌, ℕ, Some}
use Rattle.ff_xdr.specs.Form.{Value}
use Rattle.cluster_model.specs.declared.layout_state.LayoutPhase.TheVariants.{Free}
use Rattle.nfs4_file_ops.specs.LayoutGet.{layoutget4_args}
use Rattle.mds_rule.specs.MdsStates.{CompoundRun, ServedFile, MdsValue, served}
use Rattle.mds_rule.specs.OpSteps.{OpStep, Goes, Ends, Waits, with_result}
use Rattle.mds_rule.specs.FileOps.{client_of, current_file}
use Rattle.mds_rule.specs.LayoutOps.{layout_of_file, runs_layout_get}

-- the result is the layout of the file that the client of this compound holds, under the uid that the file was granted
pub record HandsToHolder (c : CompoundRun) (n : MdsValue) (d : CompoundRun) : Type 0 where
  pub file : ServedFile
  pub is : served n (current_file c) ≡ Some file
  pub holder : file.holder ≡ Some (client_of c)
  pub result : d ≡ with_result c (layout_of_file (current_file c) file)

abbrev pub HandsLayout : CompoundRun → OpStep → Type 0
HandsLayout c (Goes n entries d) = HandsToHolder c n d
HandsLayout c (Ends n entries d status) = Unit {0}
HandsLayout c (Waits n entries) = Unit {0}

-- A LAYOUTGET that is not refused puts the layout into the compound of the client that holds the file, and into no other's.
abbrev pub HandsLayoutsToHolders : Type 0
HandsLayoutsToHolders = (now : ℕ) (m : MdsValue) (c : CompoundRun) (args : Value layoutget4_args) → HandsLayout c (runs_layout_get m c now args)

-- ---- whose the file was before

-- the file was free, or it was held already, and this client's
pub data WasFreeOrIts (m : MdsValue) (c : CompoundRun) : Type 0 where
  WasFree : (was : ServedFile) → served m (current_file c) ≡ Some was → was.file.layout.phase ≡ Free → WasFreeOrIts m c
  WasIts : (was : ServedFile) → served m (current_file c) ≡ Some was → was.holder ≡ Some (client_of c) → WasFreeOrIts m c

abbrev pub WhereItGoes : Type 0 → OpStep → Type 0
WhereItGoes A (Goes n entries d) = A
WhereItGoes A (Ends n entries d status) = Unit {0}
WhereItGoes A (Waits n entries) = Unit {0}

-- A LAYOUTGET goes through only where the file was free, or was the client's already: no layout is handed out beside another client's.
abbrev pub TakesNoLayoutAway : Type 0
TakesNoLayoutAway = (now : ℕ) (m : MdsValue) (c : CompoundRun) (args : Value layoutget4_args) → WhereItGoes (WasFreeOrIts m c) (runs_layout_get m c now args)
