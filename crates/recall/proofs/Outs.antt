-- Whose callback is outstanding, once a recall changed.
use Rattle.std.proofs.Common.{◌≡◌, inl, inr, ℕ, Bool, true, false, not, ◌&&◌, cond, eqb, List, map, set, Option, Some, None, refl, sym, ap, subst, ◌∙◌}
use Rattle.std.specs.Prelude.{slice_get, option_map, is_some}
use Rattle.std.specs.List.{find, filter}
use Rattle.std.proofs.lemmas.Bool.{eq-eqb, eqb-true, and_left, and_right, both_ways}
use Rattle.cluster_model.specs.declared.ids.FileId.{FileId}
use Rattle.cluster_model.specs.declared.ids.Cred.{Cred}
use Rattle.recall.specs.declared.recall.Recall.{Recall}
use Rattle.recall.specs.declared.recall.RecallStage.{RecallStage}
use Rattle.recall.specs.declared.recall.RecallStage.TheVariants.{Waits, Out, Later, Agreed}
use Rattle.recall.specs.declared.kept_recall.Ended.{Ended}
use Rattle.recall.specs.Recalls.{at_stage, is_out, waits, stage_at_tick, at_tick, grant_of, has_one_out, with_recall}
use Rattle.recall.specs.Entries.{is_out_to, holder, is_free, is_ended, goes_on, unless_ended, IsAtMostOne}
use Rattle.recall.proofs.Firsts.{kept_if, any_found, find_kept, one_kept, find_map, one_map, set_other, set_gone, set_found, set_image, one_set}
use Rattle.recall.proofs.Inserted.{found_past, one_more}

-- ---- one recall

pub out_at_tick : (s : RecallStage) → is_out (stage_at_tick s) ≡ is_out s
out_at_tick Waits = refl
out_at_tick (Out xid timeouts) = refl
out_at_tick Later = refl
out_at_tick Agreed = refl

pub waits_not_out : (s : RecallStage) → waits s ≡ true → is_out s ≡ false
waits_not_out Waits is = refl
waits_not_out (Out xid timeouts) is = absurd (both_ways false refl is)
waits_not_out Later is = refl
waits_not_out Agreed is = refl

-- one that is not out is out to nobody
pub not_out_to : (client : ℕ) (r : Recall) → is_out r.stage ≡ false → is_out_to client r ≡ false
not_out_to client r is = and_right (eqb r.client client) (is_out r.stage) is

pub out_to : (r : Recall) → is_out r.stage ≡ true → is_out_to r.client r ≡ true
out_to r is = ap (λ b. b && is_out r.stage) (eq-eqb r.client r.client refl) ∙ is

pub other_client : (client : ℕ) (r : Recall) → eqb r.client client ≡ false → is_out_to client r ≡ false
other_client client r is = and_left (eqb r.client client) (is_out r.stage) is

pub free_is : (recalls : List Recall) (client : ℕ) → is_free (holder recalls client) ≡ not (has_one_out recalls client)
free_is recalls client = by_found (find (is_out_to client) recalls) ∙ ap not (sym (any_found (is_out_to client) recalls))
  where
    by_found : (o : Option Recall) → is_free (option_map grant_of o) ≡ not (is_some o)
    by_found None = refl
    by_found (Some r) = refl

-- ---- a recall at a place

module _ (recalls : List Recall) (place : ℕ) (r : Recall) (at : slice_get recalls place ≡ Some r) where
  -- by clients: the one of the recall, and the others
  by_client : (s : RecallStage) (grant : Option (FileId × Cred)) → holder (set recalls place (at_stage s r)) r.client ≡ grant
      → (client : ℕ) → holder (set recalls place (at_stage s r)) client ≡ cond (eqb client r.client) grant (holder recalls client)
  by_client s grant its client = by_test (eqb client r.client) refl
    where
      turned : eqb client r.client ≡ false → (t : Bool) → eqb r.client client ≡ t → t ≡ false
      turned other true same = absurd (both_ways (eqb client r.client) other (eq-eqb client r.client (sym (eqb-true r.client client same))))
      turned other false same = refl

      by_test : (t : Bool) → eqb client r.client ≡ t → holder (set recalls place (at_stage s r)) client ≡ cond t grant (holder recalls client)
      by_test true same = ap (holder (set recalls place (at_stage s r))) (eqb-true client r.client same) ∙ its
      by_test false other =
          let differs : eqb r.client client ≡ false = turned other (eqb r.client client) refl in
          ap (option_map grant_of) (set_other (is_out_to client) recalls place r (at_stage s r) at (other_client client r differs) (other_client client (at_stage s r) differs))

  -- it goes out
  pub holder_sent : (s : RecallStage) → is_out s ≡ true → find (is_out_to r.client) recalls ≡ None → (client : ℕ)
      → holder (set recalls place (at_stage s r)) client ≡ cond (eqb client r.client) (Some (grant_of r)) (holder recalls client)
  holder_sent s out none client =
      by_client s (Some (grant_of r)) (ap (option_map grant_of) (set_found (is_out_to r.client) recalls place r (at_stage s r) none at (out_to (at_stage s r) out))) client

  -- it is out no more
  pub holder_rests : (s : RecallStage) → is_out s ≡ false → is_out r.stage ≡ true → IsAtMostOne (is_out_to r.client) recalls → (client : ℕ)
      → holder (set recalls place (at_stage s r)) client ≡ cond (eqb client r.client) None (holder recalls client)
  holder_rests s rests out one client =
      by_client s None (ap (option_map grant_of) (set_gone (is_out_to r.client) recalls place r (at_stage s r) one at (out_to r out) (not_out_to r.client (at_stage s r) rests))) client

  -- it is out still
  pub holder_stays : (s : RecallStage) → is_out s ≡ is_out r.stage → (client : ℕ) → holder (set recalls place (at_stage s r)) client ≡ holder recalls client
  holder_stays s same client = set_image (is_out_to client) grant_of recalls place r (at_stage s r) at (ap (λ b. eqb r.client client && b) same) refl

  -- at most one is out to a client
  pub alone_sent : (s : RecallStage) → find (is_out_to r.client) recalls ≡ None → ((client : ℕ) → IsAtMostOne (is_out_to client) recalls) → (client : ℕ) → IsAtMostOne (is_out_to client) (set recalls place (at_stage s r))
  alone_sent s none one client = one_set (is_out_to client) recalls place r (at_stage s r) (one client) at (λ here. inr (none_out here))
    where
      same_client : (t : Bool) → eqb r.client client ≡ t → t && is_out s ≡ true → r.client ≡ client
      same_client true is here = eqb-true r.client client is
      same_client false is here = absurd (both_ways false refl here)

      none_out : is_out_to client (at_stage s r) ≡ true → find (is_out_to client) recalls ≡ None
      none_out here = subst (λ (n : ℕ). find (is_out_to n) recalls ≡ None) (same_client (eqb r.client client) refl here) none

  pub alone_rests : (s : RecallStage) → is_out s ≡ false → ((client : ℕ) → IsAtMostOne (is_out_to client) recalls) → (client : ℕ) → IsAtMostOne (is_out_to client) (set recalls place (at_stage s r))
  alone_rests s rests one client =
      one_set (is_out_to client) recalls place r (at_stage s r) (one client) at (λ here. absurd (both_ways (is_out_to client (at_stage s r)) (not_out_to client (at_stage s r) rests) here))

  pub alone_stays : (s : RecallStage) → is_out s ≡ is_out r.stage → ((client : ℕ) → IsAtMostOne (is_out_to client) recalls) → (client : ℕ) → IsAtMostOne (is_out_to client) (set recalls place (at_stage s r))
  alone_stays s same one client =
      one_set (is_out_to client) recalls place r (at_stage s r) (one client) at (λ here. inl (sym (ap (λ b. eqb r.client client && b) same) ∙ here))

-- ---- all recalls

pub holder_left : (ended : Ended) (recalls : List Recall) (client : ℕ) → IsAtMostOne (is_out_to client) recalls → holder (filter (goes_on ended) recalls) client ≡ unless_ended ended (holder recalls client)
holder_left ended recalls client one = ap (option_map grant_of) (find_kept (is_out_to client) (goes_on ended) recalls one) ∙ by_found (find (is_out_to client) recalls)
  where
    by_test : (r : Recall) (t : Bool) → option_map grant_of (cond (not t) (Some r) None) ≡ cond t None (Some (grant_of r))
    by_test r true = refl
    by_test r false = refl

    by_found : (o : Option Recall) → option_map grant_of (kept_if (goes_on ended) o) ≡ unless_ended ended (option_map grant_of o)
    by_found None = refl
    by_found (Some r) = by_test r (is_ended ended (grant_of r))

pub alone_left : (ended : Ended) (recalls : List Recall) → ((client : ℕ) → IsAtMostOne (is_out_to client) recalls) → (client : ℕ) → IsAtMostOne (is_out_to client) (filter (goes_on ended) recalls)
alone_left ended recalls one client = one_kept (is_out_to client) (goes_on ended) recalls (one client)

out_to_at_tick : (client : ℕ) (r : Recall) → is_out_to client (at_tick r) ≡ is_out_to client r
out_to_at_tick client r = ap (λ b. eqb r.client client && b) (out_at_tick r.stage)

pub holder_at_tick : (recalls : List Recall) (client : ℕ) → holder (map at_tick recalls) client ≡ holder recalls client
holder_at_tick recalls client = ap (option_map grant_of) (find_map (is_out_to client) at_tick (out_to_at_tick client) recalls) ∙ by_found (find (is_out_to client) recalls)
  where
    by_found : (o : Option Recall) → option_map grant_of (option_map at_tick o) ≡ option_map grant_of o
    by_found None = refl
    by_found (Some r) = refl

pub alone_at_tick : (recalls : List Recall) → ((client : ℕ) → IsAtMostOne (is_out_to client) recalls) → (client : ℕ) → IsAtMostOne (is_out_to client) (map at_tick recalls)
alone_at_tick recalls one client = one_map (is_out_to client) at_tick (out_to_at_tick client) recalls (one client)

pub holder_asked : (r : Recall) (recalls : List Recall) (client : ℕ) → is_out r.stage ≡ false → holder (with_recall r recalls) client ≡ holder recalls client
holder_asked r recalls client is = ap (option_map grant_of) (found_past (is_out_to client) r recalls (not_out_to client r is))

pub alone_asked : (r : Recall) (recalls : List Recall) → is_out r.stage ≡ false → ((client : ℕ) → IsAtMostOne (is_out_to client) recalls) → (client : ℕ) → IsAtMostOne (is_out_to client) (with_recall r recalls)
alone_asked r recalls is one client =
    one_more (is_out_to client) r recalls (one client) (λ here. absurd (both_ways (is_out_to client r) (not_out_to client r is) here))
