-- The request of a slot that an event makes, as calls of the table of clients. The walk through an event begins behind them, so that what
-- is kept by all other calls of the table is kept from there on, whatever becomes of the request.
use Rattle.std.proofs.Common.{ℕ, List, [], ◌∷◌, Option, Some, None}
use Rattle.cluster_model.specs.declared.ids.NodeId.{NodeId}
use Rattle.cluster_model.specs.declared.entry.Entry.{Entry}
use Rattle.nfs4_types.specs.declared.sequence.Sequence.{Sequence}
use Rattle.nfs4_session.specs.TableLaw.{TableMove, BeginRequest, Bind}
use Rattle.table_slots.specs.TableSlots.{table_from}
use Rattle.mds_receive.specs.MdsReceive.{incoming_of}
use Rattle.mds_rule.specs.MdsStates.{CompoundRun, MdsSend, MdsValue}
use Rattle.mds_walk.specs.MdsRuns.{MdsInput, Hears, IsTimedOut, Ticks, RecallsFile, Resilvers}
use Rattle.mds_walk.specs.FirstRequests.{request_in}
use Rattle.mds_walk.proofs.Parts.{KeepsBegin, Becomes, HeardOf, moved, Parts}

-- its session is bound to the node that it came from, and it begins
abbrev pub request_moves : ℕ → NodeId → Option Sequence → List TableMove
request_moves now from None = []
request_moves now from (Some request) = Bind request.session from ∷ BeginRequest request now ∷ []

abbrev pub behind_request : ℕ → MdsValue → NodeId → Option Sequence → MdsValue
behind_request now m from o = record m { sessions = table_from m.sessions (request_moves now from o) }

-- of an event
abbrev pub begun_moves : ℕ → MdsInput → List TableMove
begun_moves now (Hears from bytes) = request_moves now from (request_in (incoming_of bytes))
begun_moves now (IsTimedOut to which) = []
begun_moves now Ticks = []
begun_moves now (RecallsFile file) = []
begun_moves now (Resilvers file) = []

abbrev pub behind_begin : ℕ → MdsInput → MdsValue → MdsValue
behind_begin now input m = record m { sessions = table_from m.sessions (begun_moves now input) }

module _ (I : MdsValue → List Entry → List MdsSend → Type 0) (Heard : HeardOf) (W : CompoundRun → Type 0) (k : Parts I Heard W) (begins : KeepsBegin I) where
  -- what is kept from before the request is so behind its calls
  request_kept : (now : ℕ) (m : MdsValue) (from : NodeId) (o : Option Sequence) → Becomes I m (behind_request now m from o)
  request_kept now m from None = λ es ss i. i
  request_kept now m from (Some request) =
      let n : MdsValue = moved m (Bind request.session from) in
      λ es ss i. begins n request now es ss (k.tables m (Bind request.session from) tt es ss i)

  pub begin_kept : (now : ℕ) (input : MdsInput) (m : MdsValue) → Becomes I m (behind_begin now input m)
  begin_kept now (Hears from bytes) m = request_kept now m from (request_in (incoming_of bytes))
  begin_kept now (IsTimedOut to which) m = λ es ss i. i
  begin_kept now Ticks m = λ es ss i. i
  begin_kept now (RecallsFile file) m = λ es ss i. i
  begin_kept now (Resilvers file) m = λ es ss i. i
