-- The entries of a table behind each change, and the recalls that are seen.
use Rattle.std.proofs.Common.{◌≡◌, ℕ, zero, suc, ◌+◌, ◌<◌, Bool, true, false, not, ◌&&◌, ◌||◌, cond, eqb, nat_lt, List, [], ◌∷◌, length, map, set, get_or, Option, Some, None, refl, sym, ap, subst, ◌∙◌, arith}
use Rattle.std.specs.Prelude.{slice_get, option_map, insert}
use Rattle.std.specs.List.{find, filter, list_any, position, position_or_len, AllByRecursion}
use Rattle.std.proofs.lemmas.Option.{slice_get-map, slice_get-get_or}
use Rattle.std.proofs.lemmas.Bool.{eq-eqb, both_ways}
use Rattle.std.proofs.lemmas.List.{length-map}
use Rattle.cluster_model.specs.declared.ids.FileId.{FileId}
use Rattle.cluster_model.specs.declared.ids.Cred.{Cred}
use Rattle.recall.specs.declared.recall.Recall.{Recall}
use Rattle.recall.specs.declared.recall.RecallStage.{RecallStage}
use Rattle.recall.specs.declared.kept_recall.KeptRecall.{KeptRecall}
use Rattle.recall.specs.declared.kept_recall.Ended.{Ended}
use Rattle.recall.specs.Recalls.{at_stage, at_tick, is_out, waits, grant_of, may_go, is_before, with_recall}
use Rattle.recall.specs.Entries.{recall_in, grant_in, recalls_of, is_out_to, holder, is_free, is_ready, ticked, held_as, goes_on, goes_on_in, unless_ended, released, entries_after, IsAtMostOne, IsHeld, IsRecallTable}
use Rattle.recall.proofs.Inserted.{inserted, each_inserted}
use Rattle.recall.proofs.Outs.{free_is, holder_sent, holder_rests, holder_stays, alone_sent, alone_rests, alone_stays, holder_left, alone_left, holder_at_tick, alone_at_tick, holder_asked, alone_asked}

-- ---- what is found among the entries

pub found_in : (test : Recall → Bool) (es : List KeptRecall) → option_map grant_in (find (λ e. test e.recall) es) ≡ option_map grant_of (find test (recalls_of es))
found_in test [] = refl
found_in test (e ∷ es) = by_case (test e.recall) (found_in test es)
  where
    by_case : (b : Bool) → option_map grant_in (find (λ x. test x.recall) es) ≡ option_map grant_of (find test (recalls_of es))
        → option_map grant_in (cond b (Some e) (find (λ x. test x.recall) es)) ≡ option_map grant_of (cond b (Some e.recall) (find test (recalls_of es)))
    by_case true rest = refl
    by_case false rest = rest

pub any_in : (test : Recall → Bool) (es : List KeptRecall) → list_any (λ e. test e.recall) es ≡ list_any test (recalls_of es)
any_in test [] = refl
any_in test (e ∷ es) = ap (λ b. test e.recall || b) (any_in test es)

-- two tests that agree on each entry have one place
place_by : (own : KeptRecall → Bool) (test : Recall → Bool) (es : List KeptRecall) → AllByRecursion (λ e. own e ≡ test e.recall) es → position_or_len own es ≡ position_or_len test (recalls_of es)
place_by own test [] each = refl
place_by own test (e ∷ es) each =
    ap (λ b. cond (not b) (1 + position_or_len own es) 0) each.0 ∙ ap (λ n. cond (not (test e.recall)) (1 + n) 0) (place_by own test es each.1)

position_by : (own : KeptRecall → Bool) (test : Recall → Bool) (es : List KeptRecall) → AllByRecursion (λ e. own e ≡ test e.recall) es → position own es ≡ position test (recalls_of es)
position_by own test es each =
    ap (λ n. cond (nat_lt n (length es)) (Some n) None) (place_by own test es each)
    ∙ ap (λ size. cond (nat_lt (position_or_len test (recalls_of es)) size) (Some (position_or_len test (recalls_of es))) None) (sym (length-map es recall_in))

each_same : (test : Recall → Bool) (es : List KeptRecall) → AllByRecursion (λ e. test e.recall ≡ test e.recall) es
each_same test [] = tt
each_same test (e ∷ es) = (refl, each_same test es)

pub position_in : (test : Recall → Bool) (es : List KeptRecall) → position (λ e. test e.recall) es ≡ position test (recalls_of es)
position_in test es = position_by (λ e. test e.recall) test es (each_same test es)

each_ready : (recalls : List Recall) (es : List KeptRecall) → AllByRecursion (IsHeld recalls) es → AllByRecursion (λ e. is_ready e ≡ may_go recalls e.recall) es
each_ready recalls [] each = tt
each_ready recalls (e ∷ es) each = (ap (λ b. waits e.recall.stage && b) (ap is_free each.0 ∙ free_is recalls e.recall.client), each_ready recalls es each.1)

pub ready_in : (es : List KeptRecall) → IsRecallTable es → position is_ready es ≡ position (may_go (recalls_of es)) (recalls_of es)
ready_in es stands = position_by is_ready (may_go (recalls_of es)) es (each_ready (recalls_of es) es stands.held)

pub at_place : (es : List KeptRecall) (place : ℕ) (d : KeptRecall) → place < length es → slice_get (recalls_of es) place ≡ Some (get_or es place d).recall
at_place es place d within = slice_get-map recall_in es place ∙ ap (option_map recall_in) (slice_get-get_or es place d within)

-- ---- one entry is put anew

pub set_in : (es : List KeptRecall) (place : ℕ) (e : KeptRecall) → recalls_of (set es place e) ≡ set (recalls_of es) place e.recall
set_in [] place e = refl
set_in (x ∷ es) zero e = refl
set_in (x ∷ es) (suc place) e = ap (λ rs. x.recall ∷ rs) (set_in es place e)

held_in : (client : ℕ) (grant : Option (FileId × Cred)) (es : List KeptRecall) → recalls_of (map (held_as client grant) es) ≡ recalls_of es
held_in client grant [] = refl
held_in client grant (e ∷ es) = by_case (eqb e.recall.client client) (held_in client grant es)
  where
    by_case : (b : Bool) → recalls_of (map (held_as client grant) es) ≡ recalls_of es
        → (cond b (record { recall = e.recall; held_by = grant }) e).recall ∷ recalls_of (map (held_as client grant) es) ≡ e.recall ∷ recalls_of es
    by_case true rest = ap (λ rs. e.recall ∷ rs) rest
    by_case false rest = ap (λ rs. e.recall ∷ rs) rest

pub put_in : (client : ℕ) (grant : Option (FileId × Cred)) (es : List KeptRecall) (place : ℕ) (e : KeptRecall) → recalls_of (map (held_as client grant) (set es place e)) ≡ set (recalls_of es) place e.recall
put_in client grant es place e = held_in client grant (set es place e) ∙ set_in es place e

-- each entry of this client is marked anew, and no other
module _ (old new : List Recall) (client : ℕ) (grant : Option (FileId × Cred)) (now : (own : ℕ) → holder new own ≡ cond (eqb own client) grant (holder old own)) where
  mark : (e : KeptRecall) → (eqb e.recall.client client ≡ false → IsHeld old e) → IsHeld new (held_as client grant e)
  mark e held = by_case (eqb e.recall.client client) refl
    where
      by_case : (b : Bool) → eqb e.recall.client client ≡ b → IsHeld new (cond b (record { recall = e.recall; held_by = grant }) e)
      by_case true is = sym (now e.recall.client ∙ ap (λ b. cond b grant (holder old e.recall.client)) is)
      by_case false is = held is ∙ sym (now e.recall.client ∙ ap (λ b. cond b grant (holder old e.recall.client)) is)

  marks : (es : List KeptRecall) → AllByRecursion (IsHeld old) es → AllByRecursion (IsHeld new) (map (held_as client grant) es)
  marks [] each = tt
  marks (e ∷ es) each = (mark e (λ other. each.0), marks es each.1)

  marks_put : (es : List KeptRecall) (place : ℕ) (e : KeptRecall) → eqb e.recall.client client ≡ true → AllByRecursion (IsHeld old) es → AllByRecursion (IsHeld new) (map (held_as client grant) (set es place e))
  marks_put [] place e own each = tt
  marks_put (x ∷ es) zero e own each = (mark e (λ other. absurd (both_ways (eqb e.recall.client client) other own)), marks es each.1)
  marks_put (x ∷ es) (suc place) e own each = (mark x (λ other. each.0), marks_put es place e own each.1)

-- a callback goes out
module _ (es : List KeptRecall) (stands : IsRecallTable es) (place : ℕ) (r : Recall) (at : slice_get (recalls_of es) place ≡ Some r) (s : RecallStage) where
  put_stands : (held_by grant : Option (FileId × Cred))
      → ((own : ℕ) → holder (set (recalls_of es) place (at_stage s r)) own ≡ cond (eqb own r.client) grant (holder (recalls_of es) own))
      → ((own : ℕ) → IsAtMostOne (is_out_to own) (set (recalls_of es) place (at_stage s r)))
      → IsRecallTable (map (held_as r.client grant) (set es place (record { recall = at_stage s r; held_by = held_by })))
  put_stands held_by grant now alone =
      let e : KeptRecall = record { recall = at_stage s r; held_by = held_by } in
      let same : set (recalls_of es) place (at_stage s r) ≡ recalls_of (map (held_as r.client grant) (set es place e)) = sym (put_in r.client grant es place e) in
      record {
        held = subst (λ (rs : List Recall). AllByRecursion (IsHeld rs) (map (held_as r.client grant) (set es place e))) same
            (marks_put (recalls_of es) (set (recalls_of es) place (at_stage s r)) r.client grant now es place e (eq-eqb r.client r.client refl) stands.held);
        alone = λ own. subst (λ (rs : List Recall). IsAtMostOne (is_out_to own) rs) same (alone own);
      }

  pub sent_stands : is_out s ≡ true → find (is_out_to r.client) (recalls_of es) ≡ None
      → IsRecallTable (map (held_as r.client (Some (grant_of r))) (set es place (record { recall = at_stage s r; held_by = Some (grant_of r) })))
  sent_stands out none = put_stands (Some (grant_of r)) (Some (grant_of r)) (holder_sent (recalls_of es) place r at s out none) (alone_sent (recalls_of es) place r at s none stands.alone)

  pub rest_stands : is_out s ≡ false → is_out r.stage ≡ true → IsRecallTable (map (held_as r.client None) (set es place (record { recall = at_stage s r; held_by = None })))
  rest_stands rests out = put_stands None None (holder_rests (recalls_of es) place r at s rests out (stands.alone r.client)) (alone_rests (recalls_of es) place r at s rests stands.alone)

-- each entry stays marked as it was
weaker : (old new : List Recall) → ((own : ℕ) → holder new own ≡ holder old own) → (es : List KeptRecall) → AllByRecursion (IsHeld old) es → AllByRecursion (IsHeld new) es
weaker old new same [] each = tt
weaker old new same (e ∷ es) each = (each.0 ∙ sym (same e.recall.client), weaker old new same es each.1)

each_at : (P : KeptRecall → Type 0) (es : List KeptRecall) (place : ℕ) (d : KeptRecall) → place < length es → AllByRecursion P es → P (get_or es place d)
each_at P [] place d within each = absurd (omega arith)
each_at P (e ∷ es) zero d within each = each.0
each_at P (e ∷ es) (suc place) d within each = each_at P es place d (omega arith) each.1

each_set : (P : KeptRecall → Type 0) (es : List KeptRecall) (place : ℕ) (e : KeptRecall) → AllByRecursion P es → P e → AllByRecursion P (set es place e)
each_set P [] place e each this = tt
each_set P (x ∷ es) zero e each this = (this, each.1)
each_set P (x ∷ es) (suc place) e each this = (each.0, each_set P es place e each.1 this)

-- a callback that is out stays out
pub late_stands : (es : List KeptRecall) → IsRecallTable es → (place : ℕ) (e : KeptRecall) → place < length es → e ≡ get_or es place e → (s : RecallStage) → is_out s ≡ is_out e.recall.stage
    → IsRecallTable (set es place (record { recall = at_stage s e.recall; held_by = e.held_by }))
late_stands es stands place e within is s same =
    let at : slice_get (recalls_of es) place ≡ Some e.recall = at_place es place e within ∙ ap (λ (x : KeptRecall). Some x.recall) (sym is) in
    let new : KeptRecall = record { recall = at_stage s e.recall; held_by = e.held_by } in
    let rs : List Recall = set (recalls_of es) place (at_stage s e.recall) in
    let shown : rs ≡ recalls_of (set es place new) = sym (set_in es place new) in
    let own : IsHeld (recalls_of es) e = subst (λ (x : KeptRecall). IsHeld (recalls_of es) x) (sym is) (each_at (IsHeld (recalls_of es)) es place e within stands.held) in
    record {
      held = subst (λ (l : List Recall). AllByRecursion (IsHeld l) (set es place new)) shown
          (each_set (IsHeld rs) es place new (weaker (recalls_of es) rs (holder_stays (recalls_of es) place e.recall at s same) es stands.held) (own ∙ sym (holder_stays (recalls_of es) place e.recall at s same e.recall.client)));
      alone = λ client. subst (λ (l : List Recall). IsAtMostOne (is_out_to client) l) shown (alone_stays (recalls_of es) place e.recall at s same stands.alone client);
    }

-- ---- some recalls are over

pub left_in : (ended : Ended) (es : List KeptRecall) → recalls_of (entries_after ended es) ≡ filter (goes_on ended) (recalls_of es)
left_in ended [] = refl
left_in ended (e ∷ es) = by_case (goes_on ended e.recall) (left_in ended es)
  where
    by_case : (b : Bool) → recalls_of (entries_after ended es) ≡ filter (goes_on ended) (recalls_of es)
        → recalls_of (map (released ended) (cond b (e ∷ filter (goes_on_in ended) es) (filter (goes_on_in ended) es))) ≡ cond b (e.recall ∷ filter (goes_on ended) (recalls_of es)) (filter (goes_on ended) (recalls_of es))
    by_case true rest = ap (λ rs. e.recall ∷ rs) rest
    by_case false rest = rest

each_left : (ended : Ended) (old new : List Recall) → ((own : ℕ) → holder new own ≡ unless_ended ended (holder old own)) → (es : List KeptRecall) → AllByRecursion (IsHeld old) es → AllByRecursion (IsHeld new) (entries_after ended es)
each_left ended old new now [] each = tt
each_left ended old new now (e ∷ es) each = by_case (goes_on ended e.recall) (each_left ended old new now es each.1)
  where
    by_case : (b : Bool) → AllByRecursion (IsHeld new) (entries_after ended es) → AllByRecursion (IsHeld new) (map (released ended) (cond b (e ∷ filter (goes_on_in ended) es) (filter (goes_on_in ended) es)))
    by_case true rest = (ap (unless_ended ended) each.0 ∙ sym (now e.recall.client), rest)
    by_case false rest = rest

pub left_stands : (ended : Ended) (es : List KeptRecall) → IsRecallTable es → IsRecallTable (entries_after ended es)
left_stands ended es stands =
    let shown = sym (left_in ended es) in
    record {
      held = subst (λ (rs : List Recall). AllByRecursion (IsHeld rs) (entries_after ended es)) shown
          (each_left ended (recalls_of es) (filter (goes_on ended) (recalls_of es)) (λ own. holder_left ended (recalls_of es) own (stands.alone own)) es stands.held);
      alone = λ own. subst (λ (rs : List Recall). IsAtMostOne (is_out_to own) rs) shown (alone_left ended (recalls_of es) stands.alone own);
    }

-- ---- a tick

pub ticked_in : (es : List KeptRecall) → recalls_of (map ticked es) ≡ map at_tick (recalls_of es)
ticked_in [] = refl
ticked_in (e ∷ es) = ap (λ rs. at_tick e.recall ∷ rs) (ticked_in es)

each_ticked : (rs : List Recall) (es : List KeptRecall) → AllByRecursion (IsHeld rs) es → AllByRecursion (IsHeld rs) (map ticked es)
each_ticked rs [] each = tt
each_ticked rs (e ∷ es) each = (each.0, each_ticked rs es each.1)

pub ticked_stands : (es : List KeptRecall) → IsRecallTable es → IsRecallTable (map ticked es)
ticked_stands es stands =
    let shown = sym (ticked_in es) in
    record {
      held = subst (λ (rs : List Recall). AllByRecursion (IsHeld rs) (map ticked es)) shown
          (each_ticked (map at_tick (recalls_of es)) es (weaker (recalls_of es) (map at_tick (recalls_of es)) (holder_at_tick (recalls_of es)) es stands.held));
      alone = λ own. subst (λ (rs : List Recall). IsAtMostOne (is_out_to own) rs) shown (alone_at_tick (recalls_of es) stands.alone own);
    }

-- ---- one more

pub asked_stands : (e : KeptRecall) (es : List KeptRecall) → IsRecallTable es → is_out e.recall.stage ≡ false → e.held_by ≡ holder (recalls_of es) e.recall.client
    → IsRecallTable (insert es (position_or_len (λ x. is_before e.recall x.recall) es) e)
asked_stands e es stands rests held =
    let place = position_or_len (λ x. is_before e.recall x.recall) es in
    let rs : List Recall = with_recall e.recall (recalls_of es) in
    let shown = sym (inserted e es) in
    let same : (own : ℕ) → holder rs own ≡ holder (recalls_of es) own = λ own. holder_asked e.recall (recalls_of es) own rests in
    record {
      held = subst (λ (l : List Recall). AllByRecursion (IsHeld l) (insert es place e)) shown
          (each_inserted (IsHeld rs) e es place (weaker (recalls_of es) rs same es stands.held) (held ∙ sym (same e.recall.client)));
      alone = λ own. subst (λ (l : List Recall). IsAtMostOne (is_out_to own) l) shown (alone_asked e.recall (recalls_of es) rests stands.alone own);
    }
