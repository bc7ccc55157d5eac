-- The bytes that a journal says of a mirror are those that its turns make.
use Rattle.std.proofs.Common.{◌≡◌, ℕ, ◌+◌, ◌-◌, ◌<◌, ◌≤◌, ◌⊎◌, Bool, true, false, eqb, cond, List, [], ◌∷◌, ◌++◌, length, max, Some, refl, sym, ap, subst, ◌∙◌, arith}
use Rattle.std.specs.Prelude.{slice_get}
use Rattle.cluster_model.specs.declared.ids.MirrorId.{MirrorId}
use Rattle.cluster_model.specs.declared.entry.Entry.{Entry}
use Rattle.cluster_model.specs.declared.entry.Entry.TheVariants.{Applied, Committed, Owner, Restarted}
use Rattle.cluster_model.specs.Content.{Pending, Content, overlay_all, joined, settled, survived, pieces_of}
use Rattle.cluster_model.specs.Journal.{Copy, no_copy, is_mirror, copy_after, copy_by, content_of}
use Rattle.cluster_laws.specs.Agreement.{sent_of, rogue_of, told_of, covers, IsByteOfOne, furthest_end, IsDirtyStep, Has}
use Rattle.cluster_model.specs.Laws.{byte_at}
use Rattle.cluster_laws.specs.Holders.{IsIn, the_write}
use Rattle.cluster_laws.specs.Keeping.{MirrorTurn, Applies, Commits, Loses, MirrorTrace, kept_from, after_turn, after_turns, turns_in, turns_of, KeepsWrites, kept_behind, IsMadeByTurns, HasHeld, HeldAgree, shown_behind, TakesCleanStep, TakesDirtyStep}
use Rattle.cluster_laws.proofs.Putting.{all_in, is_at, furthest_by}
use Rattle.cluster_laws.proofs.Journals.{copy_append}
use Rattle.cluster_laws.proofs.Lists.{all_more}
use Rattle.cluster_laws.proofs.Keepings.{keeps_always, keeps_all}

turns_append : (k : MirrorTrace) (a b : List MirrorTurn) → after_turns k (a ++ b) ≡ after_turns (after_turns k a) b
turns_append k [] b = refl
turns_append k (turn ∷ a) b = turns_append (after_turn k turn) a b

-- one entry
one_made : (m : MirrorId) (e : Entry) (k : MirrorTrace) (c : Copy) → k.content ≡ c.content → (after_turns k (turns_in m e)).content ≡ (copy_after m c e).content
one_made m (Applied mirror cred at bytes) k c same = by_test (is_mirror mirror m)
  where
    by_test : (b : Bool) → (after_turns k (cond b (Applies (the_write at bytes) ∷ []) [])).content ≡ (cond b (record { content = joined c.content at bytes; owner = c.owner }) c).content
    by_test true = ap (λ (x : Content). joined x at bytes) same
    by_test false = same
one_made m (Committed mirror) k c same = by_test (is_mirror mirror m)
  where
    by_test : (b : Bool) → (after_turns k (cond b (Commits ∷ []) [])).content ≡ (cond b (record { content = settled c.content; owner = c.owner }) c).content
    by_test true = ap settled same
    by_test false = same
one_made m (Restarted server pieces) k c same = by_test (eqb server m.server)
  where
    by_test : (b : Bool) → (after_turns k (cond b (Loses (pieces_of m.fileid pieces) ∷ []) [])).content ≡ (cond b (record { content = survived c.content (pieces_of m.fileid pieces); owner = c.owner }) c).content
    by_test true = ap (λ (x : Content). survived x (pieces_of m.fileid pieces)) same
    by_test false = same
one_made m (Owner mirror cred) k c same = by_test (is_mirror mirror m)
  where
    by_test : (b : Bool) → k.content ≡ (cond b (record { content = c.content; owner = cred.0 }) c).content
    by_test true = same
    by_test false = same
one_made m _ k c same = same

all_made : (m : MirrorId) (entries : List Entry) (k : MirrorTrace) (c : Copy) → k.content ≡ c.content → (after_turns k (turns_of m entries)).content ≡ (copy_by m c entries).content
all_made m [] k c same = same
all_made m (e ∷ entries) k c same =
    ap (λ (x : MirrorTrace). x.content) (turns_append k (turns_in m e) (turns_of m entries)) ∙ all_made m entries (after_turns k (turns_in m e)) (copy_after m c e) (one_made m e k c same)

pub made_by_turns : (before entries : List Entry) (m : MirrorId) → IsMadeByTurns before entries m
made_by_turns before entries m = ap (λ (c : Copy). c.content) (copy_append m no_copy before entries) ∙ sym (all_made m entries (kept_from (content_of before m).content) (content_of before m) refl)

pub held_agree : (base : List ℕ) (sent : List Pending) (before entries : List Entry) (mirrors : List MirrorId) → HeldAgree base sent before entries mirrors
held_agree base sent before entries mirrors h =
    all_more (HasHeld base sent before entries) (λ m. Has (overlay_all base sent) (content_of (before ++ entries) m).content) mirrors
    (λ m held. subst (Has (overlay_all base sent)) (sym (made_by_turns before entries m)) (keeps_all base sent (content_of before m).content (turns_of m entries) held.first held.period held.covered)) h

-- ---- steps of the flat file

pub takes_clean : (journal : List Entry) (uid : ℕ) (base : List ℕ) (before entries : List Entry) (m : MirrorId) → TakesCleanStep journal uid base before entries m
takes_clean journal uid base before entries m none h = record { disjoint = h.period.apart; none_strayed = none; bytes = (held_agree base (sent_of uid journal) before entries (m ∷ []) (h, tt)).0.shown }

pub takes_dirty : (journal : List Entry) (uid : ℕ) (base : List ℕ) (before entries : List Entry) (m : MirrorId) → TakesDirtyStep journal uid base before entries m
takes_dirty journal uid base before entries m h = subst (IsDirtyStep journal (before ++ entries) uid base) (sym shown) (record { bytes = k.bytes; told = told; least = least; most = k.most })
  where
    sent : List Pending
    sent = sent_of uid (before ++ entries)

    rogue : List Pending
    rogue = rogue_of uid (before ++ entries)

    kept : MirrorTrace
    kept = kept_behind before entries m

    k : KeepsWrites base sent rogue kept
    k = keeps_always base sent rogue (content_of before m).content (turns_of m entries) h.first h.period

    shown : shown_behind before entries m ≡ kept.content.stable
    shown = ap (λ (c : Content). overlay_all c.stable c.pending) (made_by_turns before entries m) ∙ ap (overlay_all kept.content.stable) (sym (ap (λ (c : Content). c.pending) (made_by_turns before entries m)) ∙ h.settled)

    told : (j place : ℕ) (w : Pending) → slice_get (told_of uid journal) j ≡ Some w → covers w place → (byte_at kept.content.stable place ≡ byte_at w.bytes (place - w.at)) ⊎ IsByteOfOne rogue place (byte_at kept.content.stable place)
    told j place w is c = let both = all_in (λ v. IsIn v sent × IsIn v kept.covered) (told_of uid journal) w h.told (is_at (told_of uid journal) j w is) in k.stands w place both.0 both.1 c

    ends : (w : Pending) → IsIn w (told_of uid journal) → w.at + length w.bytes ≤ length kept.content.stable
    ends w is =
        let both = all_in (λ v. IsIn v sent × IsIn v kept.covered) (told_of uid journal) w h.told is in
        let some = all_in (λ v. 0 < length v.bytes) sent w h.period.sent_some both.0 in
        let last = k.within w (w.at + length w.bytes - 1) both.0 both.1 (omega (arith, some), omega (arith, some)) in
        omega (arith, some, last)

    least : max (length base) (furthest_end (told_of uid journal)) ≤ length kept.content.stable
    least =
        let first = k.least in
        let far = furthest_by (told_of uid journal) (length kept.content.stable) ends in
        omega (arith, first, far)
