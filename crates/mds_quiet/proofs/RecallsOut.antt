-- Why no recall may go behind the calls that go out, where recalls are in the order of their files.
use Rattle.std.proofs.Common.{◌≡◌, ◌≢◌, ◌≤◌, ◌<◌, ◌⊎◌, inl, inr, ℕ, zero, suc, ◌+◌, Bool, true, false, cond, List, [], ◌∷◌, length, Option, Some, None, refl, sym, ap, subst, ◌∙◌, arith}
use Rattle.std.specs.Prelude.{◌-◌, ◌==◌, ◌&&◌, not, slice_get, slice_set, position}
use Rattle.std.specs.List.{position_from, find, range_with_len}
use Rattle.std.proofs.lemmas.Bool.{cond_both, and_parts, eq-eqb, eqb-true}
use Rattle.std.proofs.lemmas.Iterator.Adapters.{position_from-zero}
use Rattle.std.proofs.lemmas.Option.{none-some, same_Some}
use Rattle.cluster_model.proofs.Elements.{slice_get-set_same, slice_get-set_other}
use Rattle.cluster_model.specs.declared.ids.FileId.{FileId}
use Rattle.nfs4_session.specs.Clients.{SessionState, has_id}
use Rattle.nfs4_session.specs.Bindings.{last_session}
use Rattle.recall.specs.declared.recall.Recall.{Recall}
use Rattle.recall.specs.declared.recall.RecallCall.{RecallCall}
use Rattle.recall.specs.declared.recall.RecallStage.{RecallStage}
use Rattle.recall.specs.declared.recall.RecallStage.TheVariants.{Waits, Out, Later, Agreed}
use Rattle.recall.specs.Recalls.{RecallSends, at_stage, waits, is_out, has_one_out, may_go, sent_at, sent_from, next_sent}
use Rattle.mds_rule.specs.MdsStates.{MdsValue, MdsStep, sends_none, numbered}
use Rattle.mds_rule.specs.Goes.{has_xids, each, calls_back, recall_goes, recall_call, place_calls, file_calls, calls_out}
use Rattle.mds_progress.proofs.OutWalk.{some_number}
use Rattle.mds_progress.proofs.Called.{any_there, and_false}
use Rattle.mds_quiet.specs.Resting.{RecallsRise}
use Rattle.mds_quiet.specs.RestLaw.{RecallsGoOut}
use Rattle.mds_quiet.proofs.OutWalk.{OutCases, each_so, repeats_so, place_so}
use Rattle.mds_quiet.proofs.FileOuts.{off_on, none_left}
use Rattle.mds_quiet.proofs.OwnCalls.{FoundOff, found_off}

-- ---- lists

no_test : {X : Type 0} (test : X → Bool) (xs : List X) (k i : ℕ) (x : X) → position_from test k xs ≡ None → slice_get xs i ≡ Some x → test x ≡ false
no_test test [] k i x none at = absurd (none-some x at)
no_test {X = X} test (y ∷ xs) k i x none at = by_test (test y) refl none i at (no_test test xs (k + 1))
  where
    by_test : (b : Bool) → test y ≡ b → cond b (Some k) (position_from test (k + 1) xs) ≡ None → (j : ℕ) → slice_get (y ∷ xs) j ≡ Some x
        → ((l : ℕ) (z : X) → position_from test (k + 1) xs ≡ None → slice_get xs l ≡ Some z → test z ≡ false) → test x ≡ false
    by_test true is its j there more = absurd (none-some k (sym its))
    by_test false is its zero there more = ap test (sym (same_Some y x there)) ∙ is
    by_test false is its (suc j) there more = more j x its there

rise_in : (low last : ℕ) (all : List Recall) (i : ℕ) (r : Recall) → RecallsRise low last all → slice_get all i ≡ Some r → (low < r.file.0) × (r.file.0 ≤ last)
rise_in low last [] i r rise at = absurd (none-some r at)
rise_in low last (x ∷ all) zero r (up, few, rest) at = subst (λ (y : Recall). (low < y.file.0) × (y.file.0 ≤ last)) (same_Some x r at) (up, few)
rise_in low last (x ∷ all) (suc i) r (up, few, rest) at = let later = rise_in x.file.0 last all i r rest at in let far = later.0 in (omega (arith, up, far), later.1)

-- what passes the test stands at the first place, or is of a later file
later : (test : Recall → Bool) (low last : ℕ) (all : List Recall) (k i : ℕ) (r : Recall) → RecallsRise low last all → position_from test k all ≡ Some (k + i) → slice_get all i ≡ Some r
    → (j : ℕ) (x : Recall) → slice_get all j ≡ Some x → test x ≡ true → (j ≡ i) ⊎ (r.file.0 < x.file.0)
later test low last [] k i r rise is at j x there passes = absurd (none-some x there)
later test low last (y ∷ all) k i r (up, few, rest) is at j x there passes = by_test (test y) refl is (λ i' found its l got. later test y.file.0 last all (k + 1) i' r rest found its l x got passes) i refl j there
  where
    far : (l : ℕ) → k + 1 + l ≡ k + suc l
    far l = omega arith

    by_test : (b : Bool) → test y ≡ b → cond b (Some k) (position_from test (k + 1) all) ≡ Some (k + i)
        → ((i' : ℕ) → position_from test (k + 1) all ≡ Some (k + 1 + i') → slice_get all i' ≡ Some r → (l : ℕ) → slice_get all l ≡ Some x → (l ≡ i') ⊎ (r.file.0 < x.file.0)) → (i' : ℕ) → i' ≡ i → (l : ℕ) → slice_get (y ∷ all) l ≡ Some x → (l ≡ i) ⊎ (r.file.0 < x.file.0)
    by_test true on its more i' same l got = let first : k ≡ k + i = same_Some k (k + i) its in at_first (omega (arith, first)) l got
      where
        at_first : i ≡ 0 → (l : ℕ) → slice_get (y ∷ all) l ≡ Some x → (l ≡ i) ⊎ (r.file.0 < x.file.0)
        at_first zero_is zero got = inl (sym zero_is)
        at_first zero_is (suc l) got =
            let first : y ≡ r = same_Some y r (subst (λ (n : ℕ). slice_get (y ∷ all) n ≡ Some r) zero_is at) in
            inr (subst (λ (z : Recall). z.file.0 < x.file.0) first (rise_in y.file.0 last all l x rest got).0)
    by_test false off its more zero same l got = absurd (too_near (more_of all (k + 1) (k + i) its) (sym same))
      where
        more_of : (xs : List Recall) (a b : ℕ) → position_from test a xs ≡ Some b → a ≤ b
        more_of [] a b none = absurd (none-some b none)
        more_of (z ∷ xs) a b found = by_z (test z) found (more_of xs (a + 1) b)
          where
            by_z : (c : Bool) → cond c (Some a) (position_from test (a + 1) xs) ≡ Some b → (position_from test (a + 1) xs ≡ Some b → a + 1 ≤ b) → a ≤ b
            by_z true got more = let same : a ≡ b = same_Some a b got in omega (arith, same)
            by_z false got more = let le = more got in omega (arith, le)

        too_near : k + 1 ≤ k + i → i ≡ 0 → ⊥
        too_near le zero_is = absurd (omega (arith, le, zero_is))
    by_test false off its more (suc i') same zero got = absurd (off_on (sym off ∙ ap test (same_Some y x got) ∙ passes))
    by_test false off its more (suc i') same (suc l) got =
        further (more i' (its ∙ ap Some (ap (λ (n : ℕ). k + n) (sym same) ∙ sym (far i'))) (subst (λ (n : ℕ). slice_get (y ∷ all) n ≡ Some r) (sym same) at) l got)
      where
        further : (l ≡ i') ⊎ (r.file.0 < x.file.0) → (suc l ≡ i) ⊎ (r.file.0 < x.file.0)
        further (inl here) = inl (ap suc here ∙ same)
        further (inr behind) = inr behind

pub rise_set : (low last : ℕ) (all : List Recall) (i : ℕ) (r new : Recall) → slice_get all i ≡ Some r → new.file ≡ r.file → RecallsRise low last all → RecallsRise low last (slice_set all i new)
rise_set low last [] i r new at same rise = absurd (none-some r at)
rise_set low last (x ∷ all) zero r new at same (up, few, rest) =
    let file : x.file ≡ new.file = ap (λ (y : Recall). y.file) (same_Some x r at) ∙ sym same in
    (subst (λ (f : FileId). low < f.0) file up, subst (λ (f : FileId). f.0 ≤ last) file few, subst (λ (f : FileId). RecallsRise f.0 last all) file rest)
rise_set low last (x ∷ all) (suc i) r new at same (up, few, rest) = (up, few, rise_set x.file.0 last all i r new at same rest)

-- ---- one that goes out

not_out : (stage : RecallStage) → waits stage ≡ true → is_out stage ≡ false
not_out Waits is = refl
not_out (Out xid timeouts) is = refl_of is
  where
    refl_of : false ≡ true → true ≡ false
    refl_of e = sym e
not_out Later is = refl
not_out Agreed is = refl

-- which recall it was
pub record IsSent (all : List Recall) (sent : RecallSends) : Type 0 where
  pub place : ℕ
  pub r : Recall
  pub xid : ℕ
  pub first : position (may_go all) all ≡ Some place
  pub at : slice_get all place ≡ Some r
  pub goes : may_go all r ≡ true
  pub behind : sent.recalls ≡ slice_set all place (at_stage (Out xid 0) r)
  pub file : sent.call.file ≡ r.file

pub sent_of : (all : List Recall) (xid : ℕ) (sent : RecallSends) → next_sent all xid ≡ Some sent → IsSent all sent
sent_of all xid sent is = by_place (position (may_go all) all) refl is
  where
    by_recall : (place : ℕ) → position (may_go all) all ≡ Some place → (o : Option Recall) → slice_get all place ≡ o → sent_at all xid place o ≡ Some sent → IsSent all sent
    by_recall place found None at none = absurd (none-some sent none)
    by_recall place found (Some r) at its =
        let f : FoundOff (may_go all) all place = found_off (may_go all) all place found in
        let same : f.x ≡ r = same_Some f.x r (sym f.at ∙ at) in
        let so = same_Some _ sent its in
        record {
          place = place;
          r = r;
          xid = xid;
          first = found;
          at = at;
          goes = ap (may_go all) (sym same) ∙ f.passes;
          behind = ap (λ (s : RecallSends). s.recalls) (sym so);
          file = ap (λ (s : RecallSends). s.call.file) (sym so);
        }

    by_place : (o : Option ℕ) → position (may_go all) all ≡ o → sent_from all xid o ≡ Some sent → IsSent all sent
    by_place None found none = absurd (none-some sent none)
    by_place (Some place) found its = by_recall place found (slice_get all place) refl its

-- those that may go behind it might before, and are others
still_goes : (all : List Recall) (place xid : ℕ) (r : Recall) → slice_get all place ≡ Some r → may_go all r ≡ true → (x : Recall) → may_go (slice_set all place (at_stage (Out xid 0) r)) x ≡ true → may_go all x ≡ true
still_goes all place xid r at goes x now =
    let parts = and_parts (waits x.stage) (not (has_one_out (slice_set all place (at_stage (Out xid 0) r)) x.client)) now in
    ap (λ (b : Bool). b && not (has_one_out all x.client)) parts.0 ∙ by_out (has_one_out all x.client) refl parts.1
  where
    idle : ((r.client == x.client) && is_out r.stage) ≡ false
    idle = ap (λ (b : Bool). (r.client == x.client) && b) (not_out r.stage (and_parts (waits r.stage) (not (has_one_out all r.client)) goes).0) ∙ and_false (r.client == x.client)

    by_out : (b : Bool) → has_one_out all x.client ≡ b → not (has_one_out (slice_set all place (at_stage (Out xid 0) r)) x.client) ≡ true → not b ≡ true
    by_out true out none = absurd (off_on (ap not (sym (any_there (λ (y : Recall). (y.client == x.client) && is_out y.stage) all place (at_stage (Out xid 0) r) r at idle out)) ∙ none))
    by_out false out none = refl

-- ---- all that go before a file's

-- each that may go is of a file from this number on
pub record GoFrom (low last : ℕ) (all : List Recall) : Type 0 where
  pub rise : RecallsRise 0 last all
  pub from : (i : ℕ) (r : Recall) → slice_get all i ≡ Some r → may_go all r ≡ true → low ≤ r.file.0

from_later : (low last : ℕ) (all : List Recall) (place : ℕ) (r : Recall) → GoFrom low last all → position (may_go all) all ≡ Some place → slice_get all place ≡ Some r → (j : ℕ) (x : Recall) → slice_get all j ≡ Some x → may_go all x ≡ true → (j ≡ place) ⊎ (r.file.0 < x.file.0)
from_later low last all place r g first at = later (may_go all) 0 last all 0 place r g.rise (sym (position_from-zero (may_go all) all) ∙ first ∙ ap Some (sym (plus place))) at
  where
    plus : (n : ℕ) → 0 + n ≡ n
    plus n = omega arith

none_now : (all : List Recall) (place xid : ℕ) (r : Recall) → slice_get all place ≡ Some r → (x : Recall) → slice_get (slice_set all place (at_stage (Out xid 0) r)) place ≡ Some x → may_go (slice_set all place (at_stage (Out xid 0) r)) x ≡ true → ⊥
none_now all place xid r at x there goes =
    let same : at_stage (Out xid 0) r ≡ x = same_Some (at_stage (Out xid 0) r) x (sym (slice_get-set_same all place r (at_stage (Out xid 0) r) at) ∙ there) in
    off_on (ap (may_go (slice_set all place (at_stage (Out xid 0) r))) same ∙ goes)

-- whichever goes out, those that are left are of files from the number on
sent_from_so : (low last : ℕ) (all : List Recall) (sent : RecallSends) → IsSent all sent → GoFrom low last all → GoFrom low last sent.recalls
sent_from_so low last all sent s g = subst (GoFrom low last) (sym s.behind) (record {
  rise = rise_set 0 last all s.place s.r (at_stage (Out s.xid 0) s.r) s.at refl g.rise;
  from = λ i x there goes. by_place i x there goes (i == s.place) refl;
})
  where
    by_place : (i : ℕ) (x : Recall) → slice_get (slice_set all s.place (at_stage (Out s.xid 0) s.r)) i ≡ Some x → may_go (slice_set all s.place (at_stage (Out s.xid 0) s.r)) x ≡ true → (b : Bool) → (i == s.place) ≡ b → low ≤ x.file.0
    by_place i x there goes true here = absurd (none_now all s.place s.xid s.r s.at x (subst (λ (n : ℕ). slice_get (slice_set all s.place (at_stage (Out s.xid 0) s.r)) n ≡ Some x) (eqb-true i s.place here) there) goes)
    by_place i x there goes false off =
        g.from i x (sym (slice_get-set_other all s.place i (at_stage (Out s.xid 0) s.r) (λ same. off_on (sym off ∙ eq-eqb i s.place same))) ∙ there) (still_goes all s.place s.xid s.r s.at s.goes x goes)

-- the file's own goes out: those that are left are of later files
sent_past : (low last : ℕ) (all : List Recall) (sent : RecallSends) → IsSent all sent → GoFrom low last all → GoFrom (suc low) last sent.recalls
sent_past low last all sent s g = subst (GoFrom (suc low) last) (sym s.behind) (record {
  rise = rise_set 0 last all s.place s.r (at_stage (Out s.xid 0) s.r) s.at refl g.rise;
  from = λ i x there goes. by_place i x there goes (i == s.place) refl;
})
  where
    past : (x : Recall) (i : ℕ) → (i == s.place) ≡ false → (i ≡ s.place) ⊎ (s.r.file.0 < x.file.0) → suc low ≤ x.file.0
    past x i off (inl same) = absurd (off_on (sym off ∙ eq-eqb i s.place same))
    past x i off (inr up) = let at_least = g.from s.place s.r s.at s.goes in omega (arith, up, at_least)

    by_place : (i : ℕ) (x : Recall) → slice_get (slice_set all s.place (at_stage (Out s.xid 0) s.r)) i ≡ Some x → may_go (slice_set all s.place (at_stage (Out s.xid 0) s.r)) x ≡ true → (b : Bool) → (i == s.place) ≡ b → suc low ≤ x.file.0
    by_place i x there goes true here = absurd (none_now all s.place s.xid s.r s.at x (subst (λ (n : ℕ). slice_get (slice_set all s.place (at_stage (Out s.xid 0) s.r)) n ≡ Some x) (eqb-true i s.place here) there) goes)
    by_place i x there goes false off =
        past x i off
        (from_later low last all s.place s.r g s.first s.at i x (sym (slice_get-set_other all s.place i (at_stage (Out s.xid 0) s.r) (λ same. off_on (sym off ∙ eq-eqb i s.place same))) ∙ there) (still_goes all s.place s.xid s.r s.at s.goes x goes))

-- the first that may go is of a later file: so are all
other_past : (low last : ℕ) (all : List Recall) (sent : RecallSends) → IsSent all sent → sent.call.file.0 ≢ low → GoFrom low last all → GoFrom (suc low) last all
other_past low last all sent s other g = record { rise = g.rise; from = λ i x there goes. by_place i x there (from_later low last all s.place s.r g s.first s.at i x there goes) }
  where
    up : suc low ≤ s.r.file.0
    up = let at_least = g.from s.place s.r s.at s.goes in let ne : s.r.file.0 ≢ low = λ same. other (ap (λ (f : FileId). f.0) s.file ∙ same) in omega (arith, at_least, ne)

    by_place : (i : ℕ) (x : Recall) → slice_get all i ≡ Some x → (i ≡ s.place) ⊎ (s.r.file.0 < x.file.0) → suc low ≤ x.file.0
    by_place i x there (inl same) = subst (λ (y : Recall). suc low ≤ y.file.0) (same_Some s.r x (sym s.at ∙ subst (λ (n : ℕ). slice_get all n ≡ Some x) same there)) up
    by_place i x there (inr far) = let first = up in omega (arith, first, far)

none_goes : (all : List Recall) (xid : ℕ) → next_sent all xid ≡ None → (i : ℕ) (x : Recall) → slice_get all i ≡ Some x → may_go all x ≡ true → ⊥
none_goes all xid none i x there goes = by_position (position (may_go all) all) refl none
  where
    by_recall : (place : ℕ) → position (may_go all) all ≡ Some place → (o : Option Recall) → slice_get all place ≡ o → sent_at all xid place o ≡ None → ⊥
    by_recall place found None at its = let f : FoundOff (may_go all) all place = found_off (may_go all) all place found in none-some f.x (sym at ∙ f.at)
    by_recall place found (Some r) at its = none-some _ (sym its)

    by_position : (o : Option ℕ) → position (may_go all) all ≡ o → sent_from all xid o ≡ None → ⊥
    by_position None found its = off_on (sym (no_test (may_go all) all 0 i x (sym (position_from-zero (may_go all) all) ∙ found) there) ∙ goes)
    by_position (Some place) found its = by_recall place found (slice_get all place) refl its

-- ---- over all files

module _ (last : ℕ) where
  abbrev From : ℕ → MdsValue → Type 0
  From low m = (m.next_xid ≡ 0) ⊎ GoFrom low last m.recalls

  cases : (low : ℕ) → OutCases (From low)
  cases low = record {
    called = λ m node caller sent some i. calls m some i;
    skips = λ m some i. calls m some i;
    sessions = λ m table i. i;
    recalls = λ m sent goes i. sends m sent (sent_of m.recalls m.next_xid sent goes) i;
    reads = λ m file s n r sent is at goes i. i;
    own = λ m file s c is its i. i;
  }
    where
      calls : {N : Type 0} (m : MdsValue) → m.next_xid ≢ 0 → From low m → N ⊎ GoFrom low last m.recalls
      calls m some (inl none) = absurd (some none)
      calls m some (inr g) = inr g

      sends : (m : MdsValue) (sent : RecallSends) → IsSent m.recalls sent → From low m → (m.next_xid ≡ 0) ⊎ GoFrom low last sent.recalls
      sends m sent s (inl none) = inl none
      sends m sent s (inr g) = inr (sent_from_so low last m.recalls sent s g)

  back_so : (low : ℕ) (m : MdsValue) (c : RecallCall) (o : Option SessionState) → GoFrom low last m.recalls → From low (calls_back m c o).mds
  back_so low m c None g = inr g
  back_so low m c (Some session) g = inr g

  turn_goes : (low : ℕ) (m : MdsValue) (o : Option RecallSends) → next_sent m.recalls m.next_xid ≡ o → GoFrom low last m.recalls → From (suc low) (recall_goes m (numbered low) o).mds
  turn_goes low m None is g = inr (record { rise = g.rise; from = λ i x there goes. absurd (none_goes m.recalls m.next_xid is i x there goes) })
  turn_goes low m (Some sent) is g =
      let s : IsSent m.recalls sent = sent_of m.recalls m.next_xid sent is in
      let n : MdsValue = record m { recalls = sent.recalls } in
      cond_both (sent.call.file.0 == (numbered low).0) (calls_back n sent.call (last_session (find (has_id sent.call.client) m.sessions.clients))) (sends_none m) (λ (x : MdsStep). From (suc low) x.mds)
      (λ here. back_so (suc low) n sent.call (last_session (find (has_id sent.call.client) m.sessions.clients)) (sent_past low last m.recalls sent s g))
      (λ off. inr (other_past low last m.recalls sent s (λ same. off_on (sym off ∙ eq-eqb sent.call.file.0 low same)) g))

  turn : (low : ℕ) (m : MdsValue) → From low m → From (suc low) (recall_call (numbered low) m).mds
  turn low m (inl none) =
      cond_both (has_xids m) (recall_goes m (numbered low) (next_sent m.recalls m.next_xid)) (sends_none m) (λ (x : MdsStep). From (suc low) x.mds) (λ has. absurd (some_number m has none)) (λ off. inl none)
  turn low m (inr g) =
      cond_both (has_xids m) (recall_goes m (numbered low) (next_sent m.recalls m.next_xid)) (sends_none m) (λ (x : MdsStep). From (suc low) x.mds) (λ has. turn_goes low m (next_sent m.recalls m.next_xid) refl g) (λ off. inl (none_left m off))

  of_file : (kept : List (Option (ℕ × ℕ))) (low : ℕ) (m : MdsValue) → From low m → From (suc low) (file_calls kept low m).mds
  of_file kept low m i =
      let k : MdsValue = (recall_call (numbered low) m).mds in
      each_so (From (suc low)) (cases (suc low)) (place_calls (numbered low)) (λ place x. place_so (From (suc low)) (cases (suc low)) (numbered low) place x) (0 ∷ 1 ∷ 2 ∷ 3 ∷ 4 ∷ [])
      (Rattle.mds_rule.specs.Goes.repeats (slice_get kept (low - 1)) k).mds (repeats_so (From (suc low)) (cases (suc low)) (slice_get kept (low - 1)) k (turn low m i))

  of_files : (kept : List (Option (ℕ × ℕ))) (count low : ℕ) (m : MdsValue) → From low m → From (low + count) (each (file_calls kept) (range_with_len low count) m).mds
  of_files kept zero low m i = subst (λ (n : ℕ). From n m) (same low) i
    where
      same : (n : ℕ) → n ≡ n + 0
      same n = omega arith
  of_files kept (suc count) low m i =
      let next : suc low ≡ low + 1 = omega arith in
      let k : MdsValue = (file_calls kept low m).mds in
      subst (λ (n : ℕ). From n (each (file_calls kept) (range_with_len (low + 1) count) k).mds) (sum low count) (of_files kept count (low + 1) k (subst (λ (n : ℕ). From n k) next (of_file kept low m i)))
    where
      sum : (a b : ℕ) → a + 1 + b ≡ a + suc b
      sum a b = omega arith

pub recalls_go : (kept : List (Option (ℕ × ℕ))) (m : MdsValue) → RecallsGoOut kept m
recalls_go kept m rise some xid =
    by_sent (next_sent (calls_out kept m).mds.recalls xid) refl
    (of_files (length m.files) kept (length m.files) 1 m (inr (record { rise = rise; from = λ i r at goes. (rise_in 0 (length m.files) m.recalls i r rise at).0 })))
  where
    past : (n last : ℕ) → 1 + last ≤ n → n ≤ last → ⊥
    past n last up few = absurd (omega (arith, up, few))

    by_sent : (o : Option RecallSends) → next_sent (calls_out kept m).mds.recalls xid ≡ o → From (length m.files) (1 + length m.files) (calls_out kept m).mds → o ≡ None
    by_sent None is i = refl
    by_sent (Some sent) is (inl none) = absurd (some none)
    by_sent (Some sent) is (inr g) =
        let s : IsSent (calls_out kept m).mds.recalls sent = sent_of (calls_out kept m).mds.recalls xid sent is in
        absurd (past s.r.file.0 (length m.files) (g.from s.place s.r s.at s.goes) (rise_in 0 (length m.files) (calls_out kept m).mds.recalls s.place s.r g.rise s.at).1)
