-- The laws of lower crates, as the proofs use them.
use Rattle.std.specs.Prelude.{◌^◌, ◌<◌, length}
use Rattle.cluster_laws.specs.FenceLaw.{ObeysFences}
use Rattle.cluster_laws.specs.Periods.{ArePeriodsFenced}
use Rattle.world_rule.specs.ClusterWorlds.{ClusterState}
use Rattle.client_state.specs.ClientStates.{ClientValue}
use Rattle.client_laws.specs.ClientHistory.{ClientInput}
use Rattle.client_laws.specs.ClientRunLaws.{InEachRun, ReturnsCommitted, KeepsSilent, WritesApart}
use Rattle.client_sends.specs.SendsOfUsers.{SendsAsUser}
use Rattle.client_sessions.specs.LayoutEnds.{EntersGranted, EachRunStraysAtOnce, EachRunTakesBytes}
use Rattle.client_records.specs.ClientRecords.{EachRunIsSpelled, EachRunIsNumbered}
use Rattle.node_histories.specs.NodeHistories.{IsToldByNodes}
use Rattle.world_journal.specs.Journal.{IsJournalInRange}
use Rattle.world_layouts.specs.WorldLayouts.{GrantsAreOnce, GrantsAreTold, UidsAreOwn, StateidsAreOnce, ReturnsAreSent, ReturnsHaveEnded}
use Rattle.client_sessions.specs.EnteredFiles.{EntersForFile}
use Rattle.world_holders.proofs.HolderFacts.{EachRunOwnsPeriods, AreEntriesTogether, StraysHaveLeft}

-- the laws of each run of a client
pub record ClientLaws : Type 0 where
  pub spelled : EachRunIsSpelled
  pub numbered : EachRunIsNumbered
  pub users : (c : ClientValue) (input : ClientInput) → SendsAsUser input c
  pub returns : InEachRun ReturnsCommitted
  pub silent : InEachRun KeepsSilent
  pub apart : InEachRun WritesApart
  pub enters : InEachRun EntersGranted
  pub files : InEachRun EntersForFile
  pub strays : EachRunStraysAtOnce
  pub bytes : EachRunTakesBytes

-- what calls of clients stand on: fewer than 2^32 clients and a journal of bytes, and that calls have a spelling, a number and a user
pub record HasCallLaws (w : ClusterState) : Type 0 where
  pub few : length w.machines.clients < 2 ^ 32
  pub range : IsJournalInRange w.journal
  pub spelled : EachRunIsSpelled
  pub numbered : EachRunIsNumbered
  pub users : (c : ClientValue) (input : ClientInput) → SendsAsUser input c

-- Fewer than 2^32 clients, and a journal of bytes; the laws of its clients and of its metadata server, and what the journal says of periods; each
-- layout is granted once and to one life, and what ends as returned was sent.
pub record HasLaws {w : ClusterState} (told : IsToldByNodes w) : Type 0 where
  pub few : length w.machines.clients < 2 ^ 32
  pub range : IsJournalInRange w.journal
  pub clients : ClientLaws
  pub periods : ArePeriodsFenced w.journal
  pub fences : ObeysFences w.journal
  pub own : EachRunOwnsPeriods
  pub together : AreEntriesTogether told
  pub left : StraysHaveLeft told
  pub stateids : StateidsAreOnce told
  pub once : GrantsAreOnce told
  pub granted : GrantsAreTold told
  pub uids : UidsAreOwn told
  pub sent : ReturnsAreSent told
  pub ended : ReturnsHaveEnded told

abbrev pub call_laws : (w : ClusterState) (told : IsToldByNodes w) → HasLaws told → HasCallLaws w
call_laws w told laws = record { few = laws.few; range = laws.range; spelled = laws.clients.spelled; numbered = laws.clients.numbered; users = laws.clients.users }
