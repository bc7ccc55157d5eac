-- No event of a metadata server begins with the end of its own write: that end stands directly behind what is told of the write, in one event.
use Rattle.std.proofs.Common.{◌≡◌, ℕ, List, [], ◌∷◌, ◌++◌, refl, sym, ap, ◌∙◌}
use Rattle.std.proofs.lemmas.List.{append_assoc, append-nil}
use Rattle.cluster_model.specs.declared.ids.FileId.{FileId}
use Rattle.cluster_model.specs.declared.phase.EndCause.TheVariants.{Own}
use Rattle.cluster_model.specs.declared.entry.Entry.{Entry}
use Rattle.cluster_model.specs.declared.entry.Entry.TheVariants as entry
use Rattle.device_addr.specs.Universal.{AddressValue}
use Rattle.mds_rule.specs.MdsStates.{MdsValue, new_mds}
use Rattle.mds_walk.specs.MdsRuns.{MdsEvent, after_event, run_from, mds_run}
use Rattle.mds_laws.specs.OwnPeriods.{RunsOwnPeriods, FollowsTold, BeginsWithEnd}
use Rattle.bound_worlds.specs.BoundWorlds.{BeginsOtherwise, EventsBeginOtherwise}

entries_with : (m : MdsValue) (events : List MdsEvent) (e : MdsEvent) → (run_from m (events ++ e ∷ [])).entries ≡ (run_from m events).entries ++ (after_event e (run_from m events).mds).entries
entries_with m [] e = append-nil (after_event e m).entries
entries_with m (x ∷ events) e =
    ap (λ (l : List Entry). (after_event x m).entries ++ l) (entries_with (after_event x m).mds events e)
    ∙ sym (append_assoc (after_event x m).entries (run_from (after_event x m).mds events).entries (after_event e (run_from (after_event x m).mds events).mds).entries)

pub begin_otherwise : ((servers : List AddressValue) (mirrors : ℕ) (events : List MdsEvent) → RunsOwnPeriods servers mirrors events) → EventsBeginOtherwise
begin_otherwise law servers mirrors events e = by_entries (after_event e (mds_run servers mirrors events).mds).entries refl
  where
    by_entries : (entries : List Entry) → (after_event e (mds_run servers mirrors events).mds).entries ≡ entries → BeginsOtherwise entries
    by_entries [] is file uid ends = ends
    by_entries (x ∷ behind) is file uid ends = at_end told
      where
        old : List Entry
        old = (mds_run servers mirrors events).entries

        told : FollowsTold file (record { 0 = uid }) (mds_run servers mirrors events).entries
        told =
            (law servers mirrors (events ++ e ∷ [])).ended (mds_run servers mirrors events).entries behind file (record { 0 = uid })
            (entries_with (new_mds servers mirrors) events e ∙ (ap (λ (l : List Entry). (mds_run servers mirrors events).entries ++ l) is ∙ ap (λ (y : Entry). (mds_run servers mirrors events).entries ++ y ∷ behind) ends))

        at_end : FollowsTold file (record { 0 = uid }) (mds_run servers mirrors events).entries → ⊥
        at_end t =
            let ending : BeginsWithEnd file (record { 0 = uid }) [] = ((law servers mirrors events).told t.before [] file (record { 0 = uid }) t.at t.bytes t.is).1 in
            let wrong : [] ≡ entry.Ended file (record { 0 = uid }) Own ∷ ending.behind = ending.is in
            absurd cc
