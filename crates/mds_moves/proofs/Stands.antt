-- What is kept within an event: the machine went on from where it stood, and the server is its own.
use Rattle.std.proofs.Common.{◌≡◌, ℕ, suc, ◌+◌, List, [], ◌∷◌, ◌++◌, length, Some, refl, sym, ap, subst, ◌∙◌, inr, arith}
use Rattle.cluster_model.specs.declared.limits.TheConstants.{FIRST_UID}
use Rattle.cluster_model.specs.declared.ids.NodeId.TheVariants.{Server}
use Rattle.cluster_model.specs.declared.entry.Entry.{Entry}
use Rattle.cluster_model.specs.DsCalls.{DsCallValue, DsReplyValue}
use Rattle.cluster_model.specs.Members.{IsOneOf}
use Rattle.device_addr.specs.Universal.{AddressValue}
use Rattle.file_rule.specs.declared.fresh.Fresh.{Fresh}
use Rattle.file_rule.specs.MdsFiles.{MdsFile}
use Rattle.cluster_laws.specs.Machine.{Machine, Move, new_machine, numbered_at, machine_after, journal_of}
use Rattle.cluster_laws.specs.Holders.{IsBound, AreBoundFrom}
use Rattle.cluster_laws.specs.Telling.{telling}
use Rattle.cluster_laws.specs.FenceLaw.{new_servers}
use Rattle.machine_moves.specs.MachineGoesOn.{MachineGoesOn}
use Rattle.machine_moves.proofs.Going.{after_append, journal_append}
use Rattle.machine_moves.proofs.Bound.{bound_further, goes_told}
use Rattle.mds_rule.specs.MdsStates.{ServedFile, MdsSend, AwaitedCall, MdsValue}
use Rattle.mds_moves.specs.MdsMoves.{IsReached, NewIsMdsOf, StaysReached, IsAwaitedFor, IsServerOf, IsSendAnswered}
use Rattle.mds_moves.specs.MdsBinds.{IsReachedBy, EndsInOrder, HasOwnWrites}
use Rattle.mds_moves.proofs.FileStands.{FileStands, RunsStand, TellsAll}

-- From this machine with its journal, and behind what was sent before. Where own writes stood, and periods end as they should, the moves are
-- bound, and own writes stand.
pub record Stands (mc : Machine) (journal : List Entry) (Stood : Type 0) (past : List MdsSend) (servers : List AddressValue) (mirrors : ℕ) (all : List ServedFile) (next : Fresh) (awaited : List AwaitedCall) (next_xid : ℕ) (es : List Entry) (ss : List MdsSend) : Type 0 where
  pub machine : Machine
  pub goes : MachineGoesOn mc es machine
  pub is : IsServerOf machine servers mirrors all next awaited next_xid ss
  pub kept : (s : MdsSend) → IsOneOf s past → IsOneOf s ss
  pub stays : machine.servers ≡ mc.servers
  pub binds : Stood → EndsInOrder mc.packets journal es → AreBoundFrom mc journal goes.moves
  pub own : Stood → HasOwnWrites machine.packets (journal ++ telling es) ss all next

-- what is known of an answer to an awaited call
pub record HeardBy (mc : Machine) (past : List MdsSend) (call : AwaitedCall) (says : DsCallValue → DsReplyValue) : Type 0 where
  pub awaited : IsAwaitedFor call
  pub answered : (k : ℕ) → call.node ≡ Server k → IsSendAnswered mc k says call.sent
  pub inside : (k : ℕ) → call.node ≡ Server k → IsOneOf call.sent past

-- of a server, from this machine on
abbrev pub IsFrom : Machine → List Entry → Type 0 → List MdsSend → MdsValue → List Entry → List MdsSend → Type 0
IsFrom mc journal Stood past m es ss = Stands mc journal Stood past m.servers m.mirrors m.files m.fresh m.calls m.next_xid es ss

pub stays_reached : StaysReached
stays_reached mc n entries reached g =
    (reached.0, reached.1 ++ g.moves, after_append (new_machine (new_servers 1 reached.0)) reached.1 g.moves ∙ (ap (λ (x : Machine). machine_after x g.moves) reached.2 ∙ g.machine))

-- ---- with its journal

pub is_reached : (mc : Machine) (journal : List Entry) → IsReachedBy mc journal → IsReached mc
is_reached mc journal r = (r.boots, r.moves, r.machine)

module _ (tells : TellsAll) (mc n : Machine) (journal es : List Entry) (reached : IsReachedBy mc journal) (g : MachineGoesOn mc es n) where
  abbrev start : Machine
  start = new_machine (new_servers 1 reached.boots)

  pub made_told : journal_of mc g.moves ≡ telling es
  made_told = goes_told start mc n reached.moves es g reached.machine (tells reached.boots (reached.moves ++ g.moves))

  abbrev pub then_reached : IsReachedBy n (journal ++ telling es)
  then_reached = record {
    boots = reached.boots;
    moves = reached.moves ++ g.moves;
    machine = after_append start reached.moves g.moves ∙ (ap (λ (x : Machine). machine_after x g.moves) reached.machine ∙ g.machine);
    journal = journal_append start reached.moves g.moves
        ∙ (ap (λ (x : Machine). journal_of start reached.moves ++ journal_of x g.moves) reached.machine ∙ (ap (λ (l : List Entry). l ++ journal_of mc g.moves) reached.journal ∙ ap (λ (l : List Entry). journal ++ l) made_told));
  }

  -- what is known of a file by then
  pub file_stands : RunsStand → (k : ℕ) (f : MdsFile) → numbered_at n.files k ≡ Some f → FileStands (journal ++ telling es) k f
  file_stands stand k f there =
      subst (λ (j : List Entry). FileStands j k f) then_reached.journal (stand reached.boots (reached.moves ++ g.moves) k f (ap (λ (x : Machine). numbered_at x.files k) then_reached.machine ∙ there))

  -- a move more that is bound
  pub binds_further : (fs : List Entry) → (EndsInOrder mc.packets journal fs → EndsInOrder mc.packets journal es) → (Stood : Type 0) → (Stood → EndsInOrder mc.packets journal es → AreBoundFrom mc journal g.moves) → (move : Move)
      → (Stood → EndsInOrder mc.packets journal fs → IsBound n (journal ++ telling es) move) → Stood → EndsInOrder mc.packets journal fs → AreBoundFrom mc journal (g.moves ++ move ∷ [])
  binds_further fs front Stood binds move its stood ends =
      bound_further mc n journal es g move (binds stood (front ends)) (subst (λ (l : List Entry). IsBound n (journal ++ l) move) (sym made_told) (its stood ends))

-- ---- a new server

so_many : (n : ℕ) (boots : List ℕ) → length (new_servers n boots) ≡ length boots
so_many n [] = refl
so_many n (boot ∷ boots) = ap suc (so_many (n + 1) boots)

pub new_is : NewIsMdsOf
new_is boots servers mirrors some few there same =
    let many : length servers ≡ length (new_servers 1 boots) = same ∙ sym (so_many 1 boots) in
    record {
      files = refl;
      fresh = ap (λ (k : ℕ). record { uid = FIRST_UID; name = 1; servers = k }) many;
      setup = record { some = some; few = few; there = there; same = many };
      numbers = inr (omega arith);
      below = λ has. tt;
      few = omega arith;
      once = λ a b xid a_in b_in a_is b_is. absurd a_in;
      calls = λ call inside. absurd inside;
      writes = tt;
      sent = tt;
    }
