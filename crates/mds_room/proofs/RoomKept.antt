-- A run that has uids and names left at its end has room for numbers at each moment.
use Rattle.std.proofs.Common.{◌≡◌, ◌≤◌, ◌<◌, ℕ, ◌+◌, ◌^◌, true, List, [], ◌∷◌, ◌++◌, length, Option, None, subst, arith}
use Rattle.std.specs.Prelude.{nat_lt}
use Rattle.std.specs.List.{AllByRecursion}
use Rattle.std.proofs.lemmas.Bool.{and_parts, ltb-true}
use Rattle.cluster_model.specs.declared.ids.FileId.{FileId}
use Rattle.cluster_model.specs.declared.ids.MirrorId.{MirrorId}
use Rattle.cluster_model.specs.declared.entry.Entry.{Entry}
use Rattle.nfs4_types.specs.declared.ids.SessionId.{SessionId}
use Rattle.device_addr.specs.Universal.{AddressValue}
use Rattle.file_rule.specs.declared.fresh.Fresh.{Fresh}
use Rattle.file_rule.specs.FilePhases.{end_of_uids}
use Rattle.mds_rule.specs.MdsStates.{ServedFile, MdsValue, new_mds}
use Rattle.mds_rule.specs.ServedFiles.{has_fresh}
use Rattle.mds_walk.specs.MdsRuns.{MdsEvent, run_from, mds_run}
use Rattle.mds_replies.specs.ClientCalls.{server_after}
use Rattle.mds_replies.specs.SlotReplies.{count_taken}
use Rattle.mds_replies.specs.AnsweredRequests.{FitsMirrorId, HasSpareNumbers}
use Rattle.mds_replies.proofs.Periods.{run_behind, entries_behind}
use Rattle.mds_replies.proofs.HoldersHold.{fresh_from, at_file}
use Rattle.mds_replies.proofs.BegunPeriods.{SoAt}
use Rattle.mds_replies.proofs.PeriodsBegun.{so_behind_run}
use Rattle.mds_room.specs.Room.{IsLiveInRange, records_heard, RunsHaveRoom}
use Rattle.mds_room.proofs.RecordsHeard.{few_effects, heard_before}
use Rattle.mds_room.proofs.RoomRuns.{Below, Within, IsSo, stands_on, behind_run, from_then}
use Rattle.mds_room.proofs.LiveTold.{TellsEight, told_eight, live_fit}

front_all : (xs ys : List Entry) → AllByRecursion IsLiveInRange (xs ++ ys) → AllByRecursion IsLiveInRange xs
front_all [] ys all = tt
front_all (e ∷ xs) ys all = (all.0, front_all xs ys all.1)

small_uid : (fresh : Fresh) → has_fresh fresh ≡ true → fresh.uid < end_of_uids
small_uid fresh is = ltb-true fresh.uid end_of_uids (and_parts (nat_lt fresh.uid end_of_uids) (nat_lt (fresh.name + 4) (2 ^ 64)) is).0

abbrev limit : ℕ
limit = 4294967296

wide : 5000 ≤ limit
wide = omega arith

module _ (servers : List AddressValue) (mirrors : ℕ) (few : mirrors ≤ 4) (many : length servers < 2 ^ 32) where
  many_so : length servers + 1 ≤ limit
  many_so = omega (arith, many)

  -- what is left behind more events was left before them
  fresh_then : (before after : List MdsEvent) → has_fresh (server_after servers mirrors (before ++ after)).fresh ≡ true → has_fresh (server_after servers mirrors before).fresh ≡ true
  fresh_then before after is =
      let m : MdsValue = server_after servers mirrors before in
      let more : IsSo m.fresh.uid m.fresh.name limit wide (run_from m after).mds ((mds_run servers mirrors before).entries ++ (run_from m after).entries) ((mds_run servers mirrors before).sends ++ (run_from m after).sends) =
      stands_on m.fresh.uid m.fresh.name limit wide after m (mds_run servers mirrors before).entries (mds_run servers mirrors before).sends
      (from_then limit wide m (mds_run servers mirrors before).entries (mds_run servers mirrors before).sends (behind_run limit wide servers mirrors before few many_so)) in
      fresh_from m.fresh (run_from m after).mds.fresh more.uids more.names (subst (λ (x : MdsValue). has_fresh x.fresh ≡ true) (run_behind (new_mds servers mirrors) before after) is)

  room_at : (before after : List MdsEvent) → AllByRecursion IsLiveInRange (mds_run servers mirrors (before ++ after)).entries → has_fresh (server_after servers mirrors (before ++ after)).fresh ≡ true
      → HasSpareNumbers (server_after servers mirrors before)
  room_at before after told is = record {
    fresh = fresh;
    creds = λ file s at. small file s (at_file (Below m.fresh.uid) m file s at so.below);
    live = λ file s at. fits file s (at_file (Below m.fresh.uid) m file s at so.below) (at_file (Within limit) m file s at so.within) (so_behind_run servers mirrors before few file s at);
    few = λ file s at. (so_behind_run servers mirrors before few file s at).few.mirrors.few_live;
  }
    where
      m : MdsValue
      m = server_after servers mirrors before

      so : IsSo 0 0 limit wide m (mds_run servers mirrors before).entries (mds_run servers mirrors before).sends
      so = behind_run limit wide servers mirrors before few many_so

      fresh : has_fresh m.fresh ≡ true
      fresh = fresh_then before after is

      small : (file : FileId) (s : ServedFile) → Below m.fresh.uid s → s.file.layout.cred.0 < 2 ^ 32
      small file s below =
          let less : s.file.layout.cred.0 < m.fresh.uid = below.layout_below.cred in
          let end : m.fresh.uid < end_of_uids = small_uid m.fresh fresh in
          omega (arith, less, end)

      entries_so : AllByRecursion IsLiveInRange (mds_run servers mirrors before).entries
      entries_so =
          front_all (mds_run servers mirrors before).entries (run_from m after).entries (subst (λ (l : List Entry). AllByRecursion IsLiveInRange l) (entries_behind (new_mds servers mirrors) before after) told)

      fits : (file : FileId) (s : ServedFile) → Below m.fresh.uid s → Within limit s → SoAt (mds_run servers mirrors before).entries file s.file → AllByRecursion FitsMirrorId s.file.layout.live
      fits file s below within at =
          live_fit limit s.file.layout.phase s.file.layout.live (omega arith)
          (subst (λ (o : Option (List MirrorId)). TellsEight o) at.told_so (told_eight file None (mds_run servers mirrors before).entries entries_so tt)) below.layout_below.making within.live

  count_at : (before after : List MdsEvent) → records_heard (before ++ after) + 1 < 4294967296 → (session : SessionId) → count_taken servers mirrors before session + 1 < 4294967296
  count_at before after less session =
      let effects = few_effects session 0 (new_mds servers mirrors) before in
      let first = heard_before before after in
      omega (arith, less, effects, first)

pub runs_have_room : RunsHaveRoom
runs_have_room servers mirrors events few many heard told fresh = record {
  room = λ before after is.
      room_at servers mirrors few many before after (subst (λ (l : List MdsEvent). AllByRecursion IsLiveInRange (mds_run servers mirrors l).entries) is told)
      (subst (λ (l : List MdsEvent). has_fresh (server_after servers mirrors l).fresh ≡ true) is fresh);
  counts = λ before after is session. count_at servers mirrors few many before after (subst (λ (l : List MdsEvent). records_heard l + 1 < 4294967296) is heard) session;
}
