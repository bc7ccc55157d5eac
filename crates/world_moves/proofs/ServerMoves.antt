-- What a data server does on a packet is moves of the machine.
use Rattle.std.proofs.Common.{◌≡◌, ℕ, zero, suc, ◌-◌, Bool, true, false, cond, List, [], ◌∷◌, ◌++◌, length, Some, None, refl, sym, ap, subst, ◌∙◌, length-set}
use Rattle.std.specs.Prelude.{slice_get, slice_set, ◌&&◌, ◌==◌}
use Rattle.std.specs.List.{AllByRecursion}
use Rattle.cluster_model.specs.declared.ids.NodeId.{NodeId}
use Rattle.cluster_model.specs.declared.ids.NodeId.TheVariants.{Mds, Client}
use Rattle.cluster_model.specs.declared.piece.Piece.{Piece}
use Rattle.cluster_model.specs.declared.entry.Entry.{Entry}
use Rattle.cluster_model.specs.declared.entry.Entry.TheVariants as entry
use Rattle.cluster_model.specs.Server.{ServerState, restart_of}
use Rattle.cluster_model.specs.DsCalls.{DsCallValue, ds_step}
use Rattle.ds_files.specs.Receive.{Outcome}
use Rattle.cluster_laws.specs.Machine.{Call, Reply, Machine, MachineStep, Deliver, Uses, Restarts, no_move, numbered_at, with_server, puts_out, caller_by, served, arrives_at, delivered, may_use, started_again, restarts_at, moved}
use Rattle.cluster_laws.specs.Telling.{telling}
use Rattle.machine_moves.specs.MachineGoesOn.{MachineGoesOn}
use Rattle.machine_moves.specs.MachineMoves.{KeepsPackets}
use Rattle.machine_moves.proofs.Going.{goes_quiet, goes_then, goes_as}
use Rattle.machine_moves.proofs.Packets.{keeps_same, keeps_then, goes_keep}
use Rattle.user_records.specs.UserRecords.{DoesAsUser, DoesNothing, DoesCall}

-- ---- lists

pub at_end : {A : Type 0} (xs : List A) (x : A) → slice_get (xs ++ x ∷ []) (length xs) ≡ Some x
at_end [] x = refl
at_end (y ∷ xs) x = at_end xs x

set_there : {A : Type 0} (xs : List A) (k : ℕ) (x : A) → slice_get xs k ≡ Some x → slice_set xs k x ≡ xs
set_there [] k x is = refl
set_there (y ∷ xs) zero x is = cc
set_there (y ∷ xs) (suc k) x is = ap (λ (l : List _). y ∷ l) (set_there xs k x is)

-- what has a number stands there
pub at_place : {A : Type 0} (xs : List A) (n : ℕ) (x : A) → numbered_at xs n ≡ Some x → slice_get xs (n - 1) ≡ Some x
at_place xs n x is = by_test (n == 0) is
  where
    by_test : (b : Bool) → cond b None (slice_get xs (n - 1)) ≡ Some x → slice_get xs (n - 1) ≡ Some x
    by_test true none = absurd cc
    by_test false there = there

pub all_at : {A : Type 0} (P : A → Type 0) (xs : List A) (k : ℕ) (x : A) → AllByRecursion P xs → slice_get xs k ≡ Some x → P x
all_at P [] k x all is = absurd cc
all_at P (y ∷ xs) zero x all is = let same : y ≡ x = cc in subst P same all.0
all_at P (y ∷ xs) (suc k) x all is = all_at P xs k x all.1 is

pub all_set : {A : Type 0} (P : A → Type 0) (xs : List A) (k : ℕ) (x : A) → AllByRecursion P xs → P x → AllByRecursion P (slice_set xs k x)
all_set P [] k x all its = tt
all_set P (y ∷ xs) zero x all its = (its, all.1)
all_set P (y ∷ xs) (suc k) x all its = (all.0, all_set P xs k x all.1 its)

-- ---- machines that the metadata server does not tell apart

-- Its files, what is drawn, how many data servers there are and its numbers are the same, and no packet is lost.
pub record IsLike (m n : Machine) : Type 0 where
  pub files : n.files ≡ m.files
  pub uid : n.next_uid ≡ m.next_uid
  pub name : n.next_name ≡ m.next_name
  pub count : length n.servers ≡ length m.servers
  pub last : n.last_xid Mds ≡ m.last_xid Mds
  pub packets : KeepsPackets m n

-- The machine goes on by these entries to one where data server n is this one, and nothing else has changed but packets.
pub record GoesAt (mc : Machine) (n : ℕ) (s : ServerState) (entries : List Entry) : Type 0 where
  pub machine : Machine
  pub goes : MachineGoesOn mc entries machine
  pub servers : machine.servers ≡ slice_set mc.servers (n - 1) s
  pub like : IsLike mc machine

-- as a step that comes to this
pub goes_at : (mc : Machine) (n : ℕ) (s new : ServerState) (o : Outcome) → GoesAt mc n new o.entries → o.server ≡ new → GoesAt mc n o.server o.entries
goes_at mc n s new o g is = record { machine = g.machine; goes = g.goes; servers = g.servers ∙ ap (λ (x : ServerState). slice_set mc.servers (n - 1) x) (sym is); like = g.like }

-- it stays as it is
pub stays_at : (mc : Machine) (n : ℕ) (s : ServerState) (entries : List Entry) → numbered_at mc.servers n ≡ Some s → telling entries ≡ [] → GoesAt mc n s entries
stays_at mc n s entries at quiet = record {
  machine = mc;
  goes = goes_quiet mc entries quiet;
  servers = sym (set_there mc.servers (n - 1) s (at_place mc.servers n s at));
  like = record { files = refl; uid = refl; name = refl; count = refl; last = refl; packets = keeps_same mc };
}

-- ---- a call that was sent is delivered

module _ (mc : Machine) (place : ℕ) (from : NodeId) (n xid uid gid : ℕ) (call : DsCallValue) (s : ServerState)
    (there : slice_get mc.packets place ≡ Some (Call from n xid uid gid call)) (at : numbered_at mc.servers n ≡ Some s) where
  abbrev behind_it : Machine
  behind_it = with_server mc n (ds_step s (caller_by uid gid) call).server (mc.packets ++ Reply place n from xid (ds_step s (caller_by uid gid) call).reply ∷ [])

  comes_so : moved mc (Deliver place) ≡ served mc place from n xid (ds_step s (caller_by uid gid) call)
  comes_so = ap (delivered mc place) there ∙ ap (arrives_at mc place from n xid (caller_by uid gid) call) at

  delivery : MachineGoesOn mc (ds_step s (caller_by uid gid) call).entries behind_it
  delivery = goes_as mc (Deliver place) (served mc place from n xid (ds_step s (caller_by uid gid) call)) comes_so

  pub delivers : GoesAt mc n (ds_step s (caller_by uid gid) call).server (ds_step s (caller_by uid gid) call).entries
  delivers = record {
    machine = behind_it;
    goes = delivery;
    servers = refl;
    like = record { files = refl; uid = refl; name = refl; count = length-set mc.servers (n - 1) (ds_step s (caller_by uid gid) call).server; last = refl; packets = goes_keep mc behind_it (ds_step s (caller_by uid gid) call).entries delivery };
  }

  -- its answer is the last packet then
  pub answered : slice_get delivers.machine.packets (length mc.packets) ≡ Some (Reply place n from xid (ds_step s (caller_by uid gid) call).reply)
  unfolding delivers
  answered = at_end mc.packets (Reply place n from xid (ds_step s (caller_by uid gid) call).reply)

-- ---- a user's call goes out and is delivered

module _ (mc : Machine) (client n uid gid : ℕ) (call : DsCallValue) (s : ServerState) (may : may_use call ≡ true) (at : numbered_at mc.servers n ≡ Some s) where
  abbrev sent_out : Machine
  sent_out = puts_out mc (Client client) 0 (Call (Client client) n 0 uid gid call)

  abbrev goes_so : MachineStep
  goes_so = record { machine = sent_out; entries = [] }

  use_is : moved mc (Uses (Client client) n 0 uid gid call) ≡ goes_so
  use_is = ap (λ (b : Bool). cond (b && true) goes_so (no_move mc)) may

  use_goes : MachineGoesOn mc [] sent_out
  use_goes = goes_as mc (Uses (Client client) n 0 uid gid call) goes_so use_is

  pub uses : GoesAt mc n (ds_step s (caller_by uid gid) call).server (ds_step s (caller_by uid gid) call).entries
  uses =
      let g : GoesAt sent_out n (ds_step s (caller_by uid gid) call).server (ds_step s (caller_by uid gid) call).entries =
      delivers sent_out (length mc.packets) (Client client) n 0 uid gid call s (at_end mc.packets (Call (Client client) n 0 uid gid call)) at in
      record {
        machine = g.machine;
        goes = goes_then mc sent_out g.machine [] (ds_step s (caller_by uid gid) call).entries use_goes g.goes;
        servers = g.servers;
        like = record {
          files = g.like.files;
          uid = g.like.uid;
          name = g.like.name;
          count = g.like.count;
          last = g.like.last;
          packets = keeps_then mc sent_out g.machine (goes_keep mc sent_out [] use_goes) g.like.packets;
        };
      }

-- what a user's record does, whoever sent it
pub as_user : (mc : Machine) (client n : ℕ) (s : ServerState) (o : Outcome) → numbered_at mc.servers n ≡ Some s → DoesAsUser s o → GoesAt mc n o.server o.entries
as_user mc client n s o at (DoesNothing server entries) = goes_at mc n s s o (stays_at mc n s o.entries at (ap telling entries)) server
as_user mc client n s o at (DoesCall uid gid call may server entries) =
    goes_at mc n s (ds_step s (caller_by uid gid) call).server o (subst (GoesAt mc n (ds_step s (caller_by uid gid) call).server) (sym entries) (uses mc client n uid gid call s may at)) server

-- ---- a restart

pub starts_again : (mc : Machine) (n : ℕ) (pieces : List Piece) (s new : ServerState) → numbered_at mc.servers n ≡ Some s → restart_of s pieces ≡ Some new → GoesAt mc n new (entry.Restarted n pieces ∷ [])
starts_again mc n pieces s new at is =
    let comes : moved mc (Restarts n pieces) ≡ record { machine = with_server mc n new mc.packets; entries = entry.Restarted n pieces ∷ [] } = ap (restarts_at mc n pieces) at ∙ ap (started_again mc n pieces) is in
    let goes : MachineGoesOn mc (entry.Restarted n pieces ∷ []) (with_server mc n new mc.packets) = goes_as mc (Restarts n pieces) (record { machine = with_server mc n new mc.packets; entries = entry.Restarted n pieces ∷ [] }) comes in
    record {
      machine = with_server mc n new mc.packets;
      goes = goes;
      servers = refl;
      like = record { files = refl; uid = refl; name = refl; count = length-set mc.servers (n - 1) new; last = refl; packets = goes_keep mc (with_server mc n new mc.packets) (entry.Restarted n pieces ∷ []) goes };
    }
