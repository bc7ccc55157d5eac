use Rattle.std.proofs.Common.{◌≡◌, ℕ, List, [], ◌∷◌, ◌++◌, Some, refl, sym, ap, ◌∙◌, subst, arith, inl, inr}
use Rattle.std.specs.List.{list_any}
use Rattle.cluster_model.specs.declared.ids.MirrorId.{MirrorId}
use Rattle.cluster_model.specs.declared.entry.Entry.{Entry}
use Rattle.cluster_model.specs.declared.entry.Entry.TheVariants.{Delivered, TimedOut, Failed}
use Rattle.cluster_model.specs.declared.ids.NodeId.TheVariants.{Mds}
use Rattle.cluster_model.specs.Content.{shown_of}
use Rattle.cluster_model.specs.Journal.{Copy, content_of}
use Rattle.cluster_model.specs.Members.{IsOneOf}
use Rattle.ff_laws.specs.ReadLaw.{HasNone, HasSwap, HasFailed, IsCallOf, cut_of}
use Rattle.ff_laws.specs.WorkedReads.{the_file, on, the_read, asks, answers, fails, asks_server, server_fails, takes, three_mirrors, tries_three, tries_all, waits_for_swap, tries_new, tries_second, tries_one, changed_mirror, asked_mirror, repeats_one, one_mirror}
use Rattle.ff_laws.specs.WorkedRecords.{server_record, nfs_reply, answer_words, failure_words}
use Rattle.ff_laws.proofs.Records.{server_reads, is_call_10, is_answer, is_failure}
use Rattle.ff_laws.proofs.Lawful.{start_behind, lawful_behind, obeys_at, shown_at_start, failed_since}
use Rattle.ff_laws.proofs.Entries.{is_left, none_of}
use Rattle.ff_laws.proofs.Broken.{fails_of, same_live, not_failed, behind_request, shown_then, no_part, failed_by, same_number}
use Rattle.ff_laws.proofs.laws.worked_reads.Goals as goal

-- what stands before each failure
abbrev before_first : List Entry
before_first = asks_server 2 1 13 ∷ TimedOut Mds 13 ∷ asks_server 3 1 13 ∷ TimedOut Mds 13 ∷ asks_server 4 1 13 ∷ TimedOut Mds 13 ∷ []

abbrev before_second : List Entry
before_second = before_first ++ Failed (on 1) 13 ∷ asks_server 5 2 14 ∷ Delivered 5 ∷ server_fails 6 2 14 ∷ Delivered 6 ∷ []

abbrev before_third : List Entry
before_third = before_second ++ Failed (on 2) 14 ∷ asks_server 7 3 15 ∷ Delivered 7 ∷ server_fails 8 3 15 ∷ Delivered 8 ∷ []

abbrev three : List MirrorId
three = on 1 ∷ on 2 ∷ on 3 ∷ []

abbrev start : List Entry
start = start_behind three_mirrors []

all_failed : (m : MirrorId) → IsOneOf m three → HasFailed start tries_all the_file the_read m
all_failed m (inl is) = subst (λ (k : MirrorId). HasFailed start tries_all the_file the_read k) (sym is) (failed_since start before_first _ [] _ 1 2 13 refl refl server_reads.1)
all_failed m (inr (inl is)) = subst (λ (k : MirrorId). HasFailed start tries_all the_file the_read k) (sym is) (failed_since start before_second _ (before_first ++ Failed (on 1) 13 ∷ []) _ 2 5 14 refl refl server_reads.2)
all_failed m (inr (inr (inl is))) = subst (λ (k : MirrorId). HasFailed start tries_all the_file the_read k) (sym is) (failed_since start before_third [] (before_second ++ Failed (on 2) 14 ∷ []) _ 3 7 15 refl refl server_reads.3)
all_failed m (inr (inr (inr none))) = absurd none

pub returns-clause-third : goal.returns-clause-third
returns-clause-third c =
    let cause = shown_at_start start tries_three three (on 3) (65 ∷ []) (inr (inr (inl refl))) refl in
    let lawful = lawful_behind three_mirrors [] tries_three (Delivered 8 ∷ []) 0 8 (65 ∷ []) (nfs_reply 7 answer_words) three refl (HasNone refl) refl (search) is_answer refl cause in
    obeys_at (start ++ tries_three) (answers 8 ∷ Delivered 8 ∷ []) the_file 0 (65 ∷ []) refl refl lawful

pub returns-clause-all_fail : goal.returns-clause-all_fail
returns-clause-all_fail c =
    let lawful = lawful_behind three_mirrors [] tries_all (Delivered 9 ∷ []) 5 9 [] (nfs_reply 7 failure_words) three refl (HasNone refl) refl (search) is_failure refl (inr (refl, all_failed)) in
    obeys_at (start ++ tries_all) (fails 9 ∷ Delivered 9 ∷ []) the_file 5 [] refl refl lawful

pub returns-clause-swap : goal.returns-clause-swap
returns-clause-swap c =
    let swapped = start_behind three_mirrors waits_for_swap in
    let live = on 4 ∷ on 2 ∷ on 3 ∷ [] in
    let cause = shown_at_start swapped tries_new live (on 4) (65 ∷ []) (inl refl) refl in
    let ends = HasSwap (asks_server 2 1 10 ∷ takes 4 65 ∷ []) (Some (on 1)) (on 4) refl in
    let lawful = lawful_behind three_mirrors waits_for_swap tries_new (Delivered 5 ∷ []) 0 5 (65 ∷ []) (nfs_reply 7 answer_words) live refl ends refl (search) is_answer refl cause in
    obeys_at (swapped ++ tries_new) (answers 5 ∷ Delivered 5 ∷ []) the_file 0 (65 ∷ []) refl refl lawful

pub returns-clause-late : goal.returns-clause-late
returns-clause-late c =
    let cause = shown_at_start start tries_second three (on 2) (65 ∷ []) (inr (inl refl)) refl in
    let lawful = lawful_behind three_mirrors [] tries_second (Delivered 3 ∷ Delivered 9 ∷ []) 0 9 (65 ∷ []) (nfs_reply 7 answer_words) three refl (HasNone refl) refl (search) is_answer refl cause in
    obeys_at (start ++ tries_second) (answers 9 ∷ Delivered 3 ∷ Delivered 9 ∷ []) the_file 0 (65 ∷ []) refl refl lawful

-- ---- the journals that break the law

pub returns-clause-given_up : goal.returns-clause-given_up
returns-clause-given_up c = λ obeys.
    let lawful = obeys (start ++ tries_one) (fails 4 ∷ Delivered 4 ∷ []) the_file 5 [] refl in
    let tail = takes 1 65 ∷ takes 2 65 ∷ takes 3 65 ∷ asks 1 ∷ Delivered 1 ∷ tries_one in
    let live = same_live three lawful.live tail lawful.start lawful.since refl lawful.starts.split lawful.live_then in
    elim lawful.cause [
      | inl done ↦ absurd (omega (arith, done.0))
      | inr failed ↦
          let second = failed.1 (on 2) (subst (λ (k : List MirrorId). IsOneOf (on 2) k) live (inr (inl refl))) in
          let stays = (none_of is_left lawful.start lawful.since (ap (λ (k : List Entry). list_any is_left k) (sym lawful.starts.split))).1 in
          let none = (none_of (fails_of (on 2)) lawful.start lawful.since (ap (λ (k : List Entry). list_any (fails_of (on 2)) k) (sym lawful.starts.split))).1 in
          not_failed lawful.start lawful.since the_file lawful.read (on 2) refl stays none second
    ]

pub returns-clause-kept : goal.returns-clause-kept
returns-clause-kept c = λ obeys.
    let lawful = obeys (changed_mirror ++ asks 1 ∷ Delivered 1 ∷ []) (answers 2 ∷ Delivered 2 ∷ []) the_file 0 (65 ∷ []) refl in
    let place = behind_request changed_mirror (Delivered 1 ∷ []) (asks 1) the_file lawful.client lawful.read lawful.start lawful.since refl refl lawful.starts in
    let live = same_live (on 1 ∷ []) lawful.live (takes 1 65 ∷ takes 1 66 ∷ asks 1 ∷ Delivered 1 ∷ []) lawful.start lawful.since refl lawful.starts.split lawful.live_then in
    elim lawful.cause [
      | inl done ↦
          let shown = done.1 in
          let content = shown_then changed_mirror (Delivered 1 ∷ []) (asks 1) shown.mirror lawful.start lawful.since shown.until shown.behind refl refl place shown.split in
          let part = ap (λ (k : Copy). cut_of lawful.read.offset lawful.read.count (shown_of k.content)) (sym content) ∙ shown.shows in
          elim (subst (λ (k : List MirrorId). IsOneOf shown.mirror k) (sym live) shown.live_then) [
            | inl is ↦ no_part _ _ (subst (λ (k : MirrorId). cut_of lawful.read.offset lawful.read.count (shown_of (content_of changed_mirror k).content) ≡ 65 ∷ []) is part)
            | inr none ↦ absurd none
          ]
      | inr failed ↦ absurd (omega (arith, failed.0))
    ]

pub returns-clause-stale : goal.returns-clause-stale
returns-clause-stale c = λ obeys.
    let lawful = obeys (asked_mirror ++ asks 1 ∷ Delivered 1 ∷ (repeats_one ++ Failed (on 1) 10 ∷ [])) (fails 5 ∷ Delivered 5 ∷ []) the_file 5 [] refl in
    let tail : List Entry = Delivered 1 ∷ repeats_one in
    let place = behind_request asked_mirror (tail ++ Failed (on 1) 10 ∷ []) (asks 1) the_file lawful.client lawful.read lawful.start lawful.since refl refl lawful.starts in
    let live = same_live (on 1 ∷ []) lawful.live (takes 1 65 ∷ asks_server 2 1 10 ∷ asks 1 ∷ (tail ++ Failed (on 1) 10 ∷ [])) lawful.start lawful.since refl lawful.starts.split lawful.live_then in
    elim lawful.cause [
      | inl done ↦ absurd (omega (arith, done.0))
      | inr failed ↦
          let stays = (none_of is_left lawful.start lawful.since (ap (λ (k : List Entry). list_any is_left k) (sym lawful.starts.split))).1 in
          let by = failed_by lawful.start lawful.since the_file lawful.read (on 1) stays (failed.1 (on 1) (subst (λ (k : List MirrorId). IsOneOf (on 1) k) live (inl refl))) in
          let number = same_number tail place.more by.before by.behind lawful.since (on 1) 10 by.xid refl refl place.tail_is by.is in
          by.asked.new (server_record 10 2 0 1) (record { before = one_mirror; number = 2; behind = asks 1 ∷ place.more; split = place.start_is }) (subst (λ (k : ℕ). IsCallOf (server_record 10 2 0 1) k) number is_call_10)
    ]
