-- Periods go on until they are entered as ended, none comes back behind its end, and each is of one file and of one client.
use Rattle.std.proofs.Common.{◌≡◌, ℕ, ◌-◌, Bool, true, false, List, [], ◌∷◌, ◌++◌, Some, refl, sym, ap, subst, ◌∙◌, inl, inr, ◌⊎◌}
use Rattle.std.specs.Prelude.{◌||◌, slice_get}
use Rattle.std.specs.List.{list_any}
use Rattle.std.proofs.lemmas.Bool.{eq-eqb}
use Rattle.std.proofs.lemmas.List.{append_assoc}
use Rattle.std.proofs.lemmas.Option.{same_Some}
use Rattle.device_addr.specs.Universal.{AddressValue}
use Rattle.cluster_model.specs.declared.ids.FileId.{FileId}
use Rattle.cluster_model.specs.declared.ids.Cred.{Cred}
use Rattle.cluster_model.specs.declared.entry.Entry.{Entry}
use Rattle.cluster_model.specs.declared.entry.Entry.TheVariants as entry
use Rattle.cluster_model.specs.Members.{IsOneOf}
use Rattle.mds_rule.specs.MdsStates.{ServedFile, MdsValue, new_mds}
use Rattle.mds_walk.specs.MdsRuns.{MdsEvent, after_event, run_from, mds_run}
use Rattle.mds_walk.proofs.Lists.{in_more}
use Rattle.mds_replies.specs.ClientCalls.{server_after}
use Rattle.mds_replies.specs.LayoutReplies.{HasPeriod, EntersEnd, PeriodsGoOn, PeriodsEnd, PeriodsAreOwn}
use Rattle.mds_laws.proofs.PeriodUids.{uid_by, uid_of, Ends}
use Rattle.mds_laws.proofs.UsedOnce.{run_once, uses_uid, HasNone}
use Rattle.mds_replies.proofs.HeldFiles.{in_behind}
use Rattle.mds_replies.proofs.PeriodKept.{Has, Goes, at_place, one_place, run_goes}

-- ---- runs that go on

pub run_behind : (m : MdsValue) (before more : List MdsEvent) → (run_from m (before ++ more)).mds ≡ (run_from (run_from m before).mds more).mds
run_behind m [] more = refl
run_behind m (e ∷ before) more = run_behind (after_event e m).mds before more

pub entries_behind : (m : MdsValue) (before more : List MdsEvent) → (run_from m (before ++ more)).entries ≡ (run_from m before).entries ++ (run_from (run_from m before).mds more).entries
entries_behind m [] more = refl
entries_behind m (e ∷ before) more =
    ap (λ (l : List Entry). (after_event e m).entries ++ l) (entries_behind (after_event e m).mds before more)
    ∙ sym (append_assoc (after_event e m).entries (run_from (after_event e m).mds before).entries (run_from (run_from (after_event e m).mds before).mds more).entries)

-- ---- a period, by the list of files

to_has : (m : MdsValue) (file : FileId) (client uid : ℕ) → HasPeriod m file client uid → Has file client uid m.files
to_has m file client uid p = record {
  its = p.file_is;
  there = p.there;
  hers = record { holder = p.holder; node = p.node; held = record { is_recalled = p.is_recalled; phase = p.phase; its = ap (λ (n : ℕ). record { 0 = n }) p.its_uid } };
}

from_has : (m : MdsValue) (file : FileId) (client uid : ℕ) → Has file client uid m.files → HasPeriod m file client uid
from_has m file client uid h = record {
  file_is = h.its;
  there = h.there;
  holder = h.hers.holder;
  node = h.hers.node;
  is_recalled = h.hers.held.is_recalled;
  phase = h.hers.held.phase;
  its_uid = ap (λ (c : Cred). c.0) h.hers.held.its;
}

-- its uid is the file's
uid_now : (m : MdsValue) (file : FileId) (client uid : ℕ) (p : HasPeriod m file client uid) → uid_of Ends p.file_is.file.layout ≡ Some uid
uid_now m file client uid p = ap (uid_by Ends p.file_is.file.layout.cred) p.phase ∙ ap (λ (n : ℕ). Some n) p.its_uid

-- ---- they go on

pub periods_go_on : PeriodsGoOn
periods_go_on servers mirrors before more file client uid calls p =
    by_case (run_goes file client uid (server_after servers mirrors before) more (run_once Ends servers mirrors before).agree (to_has (server_after servers mirrors before) file client uid p))
  where
    by_case : Goes file client uid (run_from (server_after servers mirrors before) more).mds.files (run_from (server_after servers mirrors before) more).entries
        → HasPeriod (server_after servers mirrors (before ++ more)) file client uid ⊎ EntersEnd (run_from (server_after servers mirrors before) more).entries file uid
    by_case (inl has) =
        inl (subst (λ (m : MdsValue). HasPeriod m file client uid) (sym (run_behind (new_mds servers mirrors) before more)) (from_has (run_from (server_after servers mirrors before) more).mds file client uid has))
    by_case (inr e) = inr (record { cause = e.cause; there = e.there })

-- ---- none comes back

both_off : (a b : Bool) → (a || b) ≡ false → (a ≡ false) × (b ≡ false)
both_off true b is = absurd cc
both_off false b is = (refl, is)

none_in : (uid : ℕ) (es : List Entry) (e : Entry) → HasNone Ends uid es → IsOneOf e es → uses_uid Ends uid e ≡ false
none_in uid [] e none inside = absurd inside
none_in uid (x ∷ es) e none (inl is) = ap (uses_uid Ends uid) is ∙ (both_off (uses_uid Ends uid x) (list_any (uses_uid Ends uid) es) none).0
none_in uid (x ∷ es) e none (inr inside) = none_in uid es e (both_off (uses_uid Ends uid x) (list_any (uses_uid Ends uid) es) none).1 inside

not_ended : (uid : ℕ) (es : List Entry) (file : FileId) → HasNone Ends uid es → EntersEnd es file uid → ⊥
not_ended uid es file none e = not_so (sym (eq-eqb uid uid refl) ∙ none_in uid es (entry.Ended file (record { 0 = uid }) e.cause) none e.there)
  where
    not_so : true ≡ false → ⊥
    not_so is = absurd cc

-- behind each run a uid that is held under ended no period
still_none : (servers : List AddressValue) (mirrors : ℕ) (events : List MdsEvent) (file : FileId) (client uid : ℕ) → HasPeriod (server_after servers mirrors events) file client uid
    → HasNone Ends uid (mds_run servers mirrors events).entries
still_none servers mirrors events file client uid p =
    ((run_once Ends servers mirrors events).unspent (file.0 - 1) p.file_is uid (at_place (server_after servers mirrors events).files file p.file_is p.there).1 (uid_now (server_after servers mirrors events) file client uid p)).1

pub periods_end : PeriodsEnd
periods_end servers mirrors before more file uid calls e other client p =
    not_ended uid (mds_run servers mirrors (before ++ more)).entries file (still_none servers mirrors (before ++ more) other client uid p)
    (record {
      cause = e.cause;
      there = subst (λ (l : List Entry). IsOneOf (entry.Ended file (record { 0 = uid }) e.cause) l) (sym (entries_behind (new_mds servers mirrors) before more))
          (in_more (entry.Ended file (record { 0 = uid }) e.cause) (mds_run servers mirrors before).entries (run_from (server_after servers mirrors before) more).entries e.there);
    })

-- ---- each is of one file and of one client

one_now : (servers : List AddressValue) (mirrors : ℕ) (events : List MdsEvent) (file other : FileId) (client stranger uid : ℕ) → HasPeriod (server_after servers mirrors events) file client uid
    → HasPeriod (server_after servers mirrors events) other stranger uid → (file ≡ other) × (client ≡ stranger)
one_now servers mirrors events file other client stranger uid p q =
    let m : MdsValue = server_after servers mirrors events in
    let mine = at_place m.files file p.file_is p.there in
    let theirs = at_place m.files other q.file_is q.there in
    let same : file.0 - 1 ≡ other.0 - 1 = (run_once Ends servers mirrors events).apart (file.0 - 1) (other.0 - 1) p.file_is q.file_is uid mine.1 theirs.1 (uid_now m file client uid p) (uid_now m other stranger uid q) in
    let one : p.file_is ≡ q.file_is = same_Some p.file_is q.file_is (sym mine.1 ∙ ap (slice_get m.files) same ∙ theirs.1) in
    (ap (λ (n : ℕ). record { 0 = n }) (one_place file.0 other.0 mine.0 theirs.0 same), same_Some client stranger (sym p.holder ∙ ap (λ (s : ServedFile). s.holder) one ∙ q.holder))

pub periods_are_own : PeriodsAreOwn
periods_are_own servers mirrors before more file other client stranger uid calls p q = by_case (periods_go_on servers mirrors before more file client uid calls p)
  where
    by_case : HasPeriod (server_after servers mirrors (before ++ more)) file client uid ⊎ EntersEnd (run_from (server_after servers mirrors before) more).entries file uid → (file ≡ other) × (client ≡ stranger)
    by_case (inl still) = one_now servers mirrors (before ++ more) file other client stranger uid still q
    by_case (inr e) =
        absurd (not_ended uid (mds_run servers mirrors (before ++ more)).entries file (still_none servers mirrors (before ++ more) other stranger uid q)
        (record {
          cause = e.cause;
          there = subst (λ (l : List Entry). IsOneOf (entry.Ended file (record { 0 = uid }) e.cause) l) (sym (entries_behind (new_mds servers mirrors) before more))
              (in_behind (entry.Ended file (record { 0 = uid }) e.cause) (mds_run servers mirrors before).entries (run_from (server_after servers mirrors before) more).entries e.there);
        }))
