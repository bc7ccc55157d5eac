-- Turns of a conversation with a metadata server, by the values of what comes, and what each shows.
use Rattle.std.specs.Prelude.{ℕ, ◌+◌, List, [], ◌∷◌, length, Some, None}
use Rattle.ff_xdr.specs.Form.{Value, spelling}
use Rattle.cluster_model.specs.declared.ids.NodeId.{NodeId}
use Rattle.cluster_model.specs.declared.ids.NodeId.TheVariants.{Server}
use Rattle.cluster_model.specs.declared.entry.Entry.{Entry}
use Rattle.cluster_model.specs.DsCalls.{DsReplyValue, Set}
use Rattle.nfs4_compound.specs.declared.stop.Stop.TheVariants as stop
use Rattle.nfs4_compound.specs.Args.{argop4}
use Rattle.nfs4_compound.specs.Results.{resop4}
use Rattle.nfs4_compound.specs.Compounds.{CompoundValue, compound4_res}
use Rattle.mds_rule.specs.MdsStates.{MdsSend, Replies, MdsValue, MdsStep, and_then, numbered}
use Rattle.compound_reply.specs.Replied.{success_reply}
use Rattle.mds_rule.specs.Answers.{takes_answer}
use Rattle.mds_rule.specs.Goes.{calls_out}
use Rattle.mds_rule.specs.Events.{takes_compound, takes_timeout, takes_tick, takes_recall, takes_resilver}

pub data MdsTurn : Type 0 where
  -- a compound of these operations
  Runs : (node : NodeId) (xid : ℕ) (ops : List (Value argop4)) → MdsTurn
  -- a compound of these operations, and behind them one with this number, which is not built
  RunsUpTo : (node : NodeId) (xid : ℕ) (ops : List (Value argop4)) (number : ℕ) → MdsTurn
  -- a data server's answer to the call of this number
  Gets : (server xid : ℕ) (reply : DsReplyValue) → MdsTurn
  -- the status that a callback is answered with
  IsTold : (node : NodeId) (xid status : ℕ) → MdsTurn
  -- of the calls to this node, the one that was sent first, and the one of this number
  TimesOut : (node : NodeId) → MdsTurn
  CallTimesOut : (node : NodeId) (xid : ℕ) → MdsTurn
  Ticks : MdsTurn
  IsToRecall : (file : ℕ) → MdsTurn
  IsToResilver : (file : ℕ) → MdsTurn

pub record MdsShown : Type 0 where
  pub entries : List Entry
  pub sends : List MdsSend

abbrev pub compound_with : List (Value argop4) → CompoundValue
compound_with ops = record { tag = []; minorversion = 1; count = length ops; ops = record { values = ops; stop = stop.End None }; stop = stop.End None }

abbrev pub compound_up_to : List (Value argop4) → ℕ → CompoundValue
compound_up_to ops number = record { tag = []; minorversion = 1; count = length ops + 1; ops = record { values = ops; stop = stop.Unread number }; stop = stop.Unread number }

abbrev pub after_turn : ℕ → MdsValue → MdsTurn → MdsStep
after_turn now m (Runs node xid ops) = takes_compound now m node xid (compound_with ops)
after_turn now m (RunsUpTo node xid ops number) = takes_compound now m node xid (compound_up_to ops number)
after_turn now m (Gets server xid reply) = and_then (takes_answer now m (Server server) xid (λ call. reply) 0) (calls_out [])
after_turn now m (IsTold node xid status) = and_then (takes_answer now m node xid (λ call. Set None) status) (calls_out [])
after_turn now m (TimesOut node) = takes_timeout now m node None
after_turn now m (CallTimesOut node xid) = takes_timeout now m node (Some xid)
after_turn now m Ticks = takes_tick now m
after_turn now m (IsToRecall file) = takes_recall now m (numbered file)
after_turn now m (IsToResilver file) = takes_resilver m (numbered file)

-- a server behind turns, each at its moment
abbrev pub mds_behind : MdsValue → List (ℕ × MdsTurn) → MdsValue
mds_behind m [] = m
mds_behind m (turn ∷ turns) = mds_behind (after_turn turn.0 m turn.1).mds turns

-- what each of them shows
abbrev pub turns_shown : MdsValue → List (ℕ × MdsTurn) → List MdsShown
turns_shown m [] = []
turns_shown m (turn ∷ turns) = record { entries = (after_turn turn.0 m turn.1).entries; sends = (after_turn turn.0 m turn.1).sends } ∷ turns_shown (after_turn turn.0 m turn.1).mds turns

-- the reply to a compound with this status and these results
abbrev pub replied : NodeId → ℕ → ℕ → List (Value resop4) → MdsSend
replied node xid status results = Replies node (success_reply xid (spelling compound4_res (status, ([], results))))

abbrev pub shows : List Entry → List MdsSend → MdsShown
shows entries sends = record { entries = entries; sends = sends }
