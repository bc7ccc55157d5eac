-- The targets of a copy: which of the source's bytes stand at each, and what an answer, a timeout and a tick make of that (RFC 8435, section 8.3).
use Rattle.std.proofs.Common.{◌≡◌, ℕ, ◌+◌, ◌<◌, ◌≤◌, Bool, true, false, ltb, cond, ◌&&◌, not, List, [], ◌∷◌, length, map, Option, Some, None, is_some, refl, sym, ap, subst, ◌∙◌, arith}
use Rattle.std.specs.Prelude.{slice_get}
use Rattle.std.specs.List.{AllByRecursion, list_all}
use Rattle.std.proofs.lemmas.Bool.{cond_both, and_parts}
use Rattle.std.proofs.lemmas.Option.{same_Some}
use Rattle.cluster_model.specs.declared.ids.MirrorId.{MirrorId}
use Rattle.cluster_model.specs.declared.ids.Mirror.{Mirror}
use Rattle.cluster_model.specs.declared.phase.LeftCause.TheVariants.{Error, Timeouts}
use Rattle.cluster_model.specs.declared.tick.Tick.{Tick}
use Rattle.cluster_model.specs.declared.ds_call.Shown.{Shown}
use Rattle.cluster_model.specs.declared.entry.Entry.{Entry}
use Rattle.cluster_model.specs.declared.call_stage.CallStage.{CallStage}
use Rattle.cluster_model.specs.declared.call_stage.CallStage.TheVariants.{Waits, Out, KeptOut, KeptBack, Done, GivenUp}
use Rattle.cluster_model.specs.Journal.{content_of}
use Rattle.cluster_model.specs.DsCalls.{Create, Write, DsReplyValue, Created, Set, Written, Committed, Bytes, NotSync, Failed}
use Rattle.cluster_model.specs.Fences.{is_out, is_over, stage_at_tick, odd_status}
use Rattle.copy_rule.specs.Copies.{CopyState, at_stage, having_made, seen_then, thrown_away, TargetStep, goes_on_with, target_fails, create_answered, write_answered, target_answered, target_late, to_write, is_given_up, stage_for, with_target, with_read, with_piece, with_next, have_answered, goes_on, CopyAfter, stranger, source_fails, is_long, copy_then, read_answered, read_late, target_of, step_at, step_from, by_read}
use Rattle.copy_rule.specs.declared.copy_target.CopyTarget.{CopyTarget}
use Rattle.copy_rule.specs.declared.copy_target.CopyStep.TheVariants.{Waiting}
use Rattle.file_rule.specs.FilePhases.{FileInput, Answers, TimesOut, Ticks}
use Rattle.cluster_laws.specs.Machine.{PacketValue}
use Rattle.cluster_laws.proofs.Lists.{all_at, all_set, found_at}
use Rattle.cluster_laws.proofs.Invariant.{at_server, is_answered}
use Rattle.cluster_laws.proofs.PeriodStates.{IsMine}
use Rattle.machine_walk.proofs.MoveCases.{HasReply, IsHeard}
use Rattle.machine_walk.proofs.Stories.{Story}
use Rattle.machine_walk.proofs.StepKinds.{copy_turned}
use Rattle.copied_bytes.proofs.CallsKept.{IsOutSo, reply_so}
use Rattle.copied_bytes.proofs.Parts.{IsPart, IsPut, put_less, none_put}
use Rattle.copied_bytes.proofs.Sources.{owner_of}
use Rattle.copied_bytes.proofs.TargetServes.{IsWriteReply}
use Rattle.copied_bytes.proofs.CopyTurns.{at_tick_out}

-- up to where the bytes stand at a target: behind the piece in hand, once it has answered
abbrev pub reach : CallStage → ℕ → List ℕ → ℕ
reach Waits at piece = at
reach (Out xid timeouts) at piece = at
reach (KeptOut xid) at piece = at
reach KeptBack at piece = at
reach Done at piece = at + length piece
reach GivenUp at piece = at

-- the name of a target was drawn for its file, with the copy's uid
pub record IsSiteOf (t : Story) (names n by name : ℕ) : Type 0 where
  pub drawn : name < names
  pub home : t.drawn.home name ≡ n
  pub low : t.drawn.low name ≡ by

pub record IsTargetKept (S : ℕ → Type 0) (packets : List PacketValue) (last : ℕ) (journal : List Entry) (by : ℕ) (bytes : List ℕ) (at : ℕ) (piece : List ℕ) (x : CopyTarget) : Type 0 where
  pub site : S x.name
  pub asks : (xid : ℕ) → is_out xid x.stage ≡ true → x.made ≡ None → IsOutSo packets last xid x.server (Create x.name by) (λ r. Unit {0})
  pub unmade : x.made ≡ None → is_given_up x.stage ≡ false → (at ≡ 0) × (piece ≡ [])
  pub done : is_answered x.stage ≡ true → is_some x.made ≡ true
  pub lost : is_given_up x.stage ≡ true → x.made ≡ None
  pub holds : (m : Mirror) → x.made ≡ Some m → IsPut bytes (reach x.stage at piece) (content_of journal m.id).content
  pub owner : (m : Mirror) → x.made ≡ Some m → owner_of journal m.id ≡ by
  pub outs : (xid : ℕ) (m : Mirror) → is_out xid x.stage ≡ true → x.made ≡ Some m → IsOutSo packets last xid m.id.server (Write m.id.fileid at true piece) (IsWriteReply journal bytes (at + length piece) m.id)

pub record TargetsKept (t : Story) (uid names : ℕ) (packets : List PacketValue) (last : ℕ) (journal : List Entry) (n : ℕ) (bytes : List ℕ) (c : CopyState) : Type 0 where
  pub newest : (u : ℕ) → IsMine t.whose uid n u → u ≤ c.copier
  pub all_over : (xid : ℕ) → is_out xid c.read ≡ true → have_answered c ≡ true
  pub empty : is_over c.read ≡ false → c.piece ≡ []
  pub each : AllByRecursion (IsTargetKept (IsSiteOf t names n c.copier) packets last journal c.copier bytes c.at c.piece) c.targets

none_some : (m : Mirror) → None ≡ Some m → ⊥
none_some m e = cc

out_over : (stage : CallStage) (xid : ℕ) → is_out xid stage ≡ true → is_over stage ≡ true → ⊥
out_over Waits xid e f = cc
out_over (Out own timeouts) xid e f = cc
out_over (KeptOut own) xid e f = cc
out_over KeptBack xid e f = cc
out_over Done xid e f = cc
out_over GivenUp xid e f = cc

out_up : (stage : CallStage) (xid : ℕ) → is_out xid stage ≡ true → is_given_up stage ≡ false
out_up Waits xid e = refl
out_up (Out own timeouts) xid e = refl
out_up (KeptOut own) xid e = refl
out_up KeptBack xid e = refl
out_up Done xid e = refl
out_up GivenUp xid e = absurd cc

out_not_over : (stage : CallStage) (xid : ℕ) → is_out xid stage ≡ true → is_over stage ≡ false
out_not_over Waits xid e = refl
out_not_over (Out own timeouts) xid e = refl
out_not_over (KeptOut own) xid e = refl
out_not_over KeptBack xid e = refl
out_not_over Done xid e = absurd cc
out_not_over GivenUp xid e = absurd cc

pub reach_out : (stage : CallStage) (xid at : ℕ) (piece : List ℕ) → is_out xid stage ≡ true → reach stage at piece ≡ at
reach_out Waits xid at piece e = absurd cc
reach_out (Out own timeouts) xid at piece e = refl
reach_out (KeptOut own) xid at piece e = refl
reach_out KeptBack xid at piece e = absurd cc
reach_out Done xid at piece e = absurd cc
reach_out GivenUp xid at piece e = absurd cc

pub all_over_of : (targets : List CopyTarget) → list_all (λ (y : CopyTarget). is_over y.stage) targets ≡ true → AllByRecursion (λ (y : CopyTarget). is_over y.stage ≡ true) targets
all_over_of [] h = tt
all_over_of (x ∷ targets) h = let parts = and_parts (is_over x.stage) (list_all (λ (y : CopyTarget). is_over y.stage) targets) h in (parts.0, all_over_of targets parts.1)

module _ (S : ℕ → Type 0) (packets : List PacketValue) (last : ℕ) (journal : List Entry) (by : ℕ) (bytes : List ℕ) (at : ℕ) (piece : List ℕ) where
  abbrev Kept : CopyTarget → Type 0
  Kept x = IsTargetKept S packets last journal by bytes at piece x

  gone : (x : CopyTarget) → Kept x → Kept (thrown_away x)
  gone x h = record { site = h.site; asks = λ xid o none. absurd cc; unmade = λ none up. absurd cc; done = λ e. absurd cc; lost = λ e. refl; holds = λ m e. absurd (none_some m e); owner = λ m e. absurd (none_some m e); outs = λ xid m o e. absurd cc }

  module _ (x : CopyTarget) (h : Kept x) (xid : ℕ) (out : is_out xid x.stage ≡ true) where
    -- a file that was made belongs to the copy, and has nothing
    made_now : (fileid : ℕ) (seen : Tick) → x.made ≡ None → owner_of journal (at_server x.server fileid) ≡ by → IsPart bytes (content_of journal (at_server x.server fileid)).content → Kept (having_made x fileid seen)
    made_now fileid seen none owner part =
        let start = h.unmade none (out_up x.stage xid out) in
        let zero : 0 ≡ at + length piece = (let same = ap (λ (ws : List ℕ). length ws) start.1 in let first = start.0 in omega (arith, same, first)) in
        record {
          site = h.site;
          asks = λ k o e. absurd cc;
          unmade = λ e up. absurd cc;
          done = λ e. refl;
          lost = λ e. absurd cc;
          holds = λ m e. subst (λ (y : Mirror). IsPut bytes (at + length piece) (content_of journal y.id).content) (same_Some _ m e) (subst (λ (k : ℕ). IsPut bytes k (content_of journal (at_server x.server fileid)).content) zero (none_put bytes (content_of journal (at_server x.server fileid)).content part));
          owner = λ m e. subst (λ (y : Mirror). owner_of journal y.id ≡ by) (same_Some _ m e) owner;
          outs = λ k m o e. absurd cc;
        }

    created_kept : (reply : DsReplyValue) → x.made ≡ None → ((fileid : ℕ) (shown : Shown) → reply ≡ Created fileid shown → (owner_of journal (at_server x.server fileid) ≡ by) × IsPart bytes (content_of journal (at_server x.server fileid)).content) → Kept (create_answered x reply).target
    created_kept (Created fileid shown) none k = let so = k fileid shown refl in made_now fileid shown.seen none so.0 so.1
    created_kept (Set shown) none k = gone x h
    created_kept (Written shown verifier) none k = gone x h
    created_kept (Committed shown verifier) none k = gone x h
    created_kept (Bytes shown eof more) none k = gone x h
    created_kept (NotSync shown) none k = gone x h
    created_kept (Failed status shown) none k = gone x h

    seen_same : (made : Option Mirror) (shown : Option Shown) (m : Mirror) → seen_then made shown ≡ Some m → (y : Mirror) × (made ≡ Some y) × (m.id ≡ y.id)
    seen_same None shown m e = absurd (none_some m e)
    seen_same (Some y) None m e = (y, refl, ap (λ (z : Mirror). z.id) (sym (same_Some y m e)))
    seen_same (Some y) (Some shown) m e = (y, refl, ap (λ (z : Mirror). z.id) (sym (same_Some _ m e)))

    some_still : (made : Option Mirror) (shown : Option Shown) (y : Mirror) → made ≡ Some y → is_some (seen_then made shown) ≡ true
    some_still None shown y e = absurd (none_some y e)
    some_still (Some z) None y e = refl
    some_still (Some z) (Some shown) y e = refl

    written_kept : (reply : DsReplyValue) (y : Mirror) → x.made ≡ Some y → HasReply packets xid reply → Kept (write_answered x reply).target
    written_kept (Created fileid shown) y is heard = gone x h
    written_kept (Set shown) y is heard = gone x h
    written_kept (Written shown verifier) y is heard = record {
      site = h.site;
      asks = λ k o e. absurd cc;
      unmade = λ e up. let some = some_still x.made shown y is in let wrong : true ≡ false = sym some ∙ ap is_some e in absurd cc;
      done = λ e. some_still x.made shown y is;
      lost = λ e. absurd cc;
      holds = λ m e.
          let k = seen_same x.made shown m e in
          subst (λ (i : MirrorId). IsPut bytes (at + length piece) (content_of journal i).content) (sym k.2) (reply_so packets last xid k.0.id.server (Write k.0.id.fileid at true piece) (IsWriteReply journal bytes (at + length piece) k.0.id) (Written shown verifier) (h.outs xid k.0 out k.1) heard);
      owner = λ m e. let k = seen_same x.made shown m e in ap (owner_of journal) k.2 ∙ h.owner k.0 k.1;
      outs = λ k m o e. absurd cc;
    }
    written_kept (Committed shown verifier) y is heard = gone x h
    written_kept (Bytes shown eof more) y is heard = gone x h
    written_kept (NotSync shown) y is heard = gone x h
    written_kept (Failed status shown) y is heard = gone x h

    answered_kept : (reply : DsReplyValue) (made : Option Mirror) → x.made ≡ made → HasReply packets xid reply → ((fileid : ℕ) (shown : Shown) → x.made ≡ None → reply ≡ Created fileid shown → (owner_of journal (at_server x.server fileid) ≡ by) × IsPart bytes (content_of journal (at_server x.server fileid)).content)
        → Kept (target_answered x reply made).target
    answered_kept reply None is heard k = created_kept reply is (λ fileid shown e. k fileid shown is e)
    answered_kept reply (Some y) is heard k = written_kept reply y is heard

    late_kept : (stage : CallStage) → x.stage ≡ stage → Kept (target_late x stage).target
    late_kept Waits is = h
    late_kept (Out own timeouts) is =
        cond_both (ltb (timeouts + 1) 3) (goes_on_with (at_stage x (Out own (timeouts + 1)))) (target_fails x Timeouts) (λ (y : TargetStep). Kept y.target)
        (λ e. record {
          site = h.site;
          asks = λ k o none. h.asks k (ap (is_out k) is ∙ o) none;
          unmade = λ none up. h.unmade none (ap is_given_up is);
          done = λ wrong. absurd cc;
          lost = λ wrong. absurd cc;
          holds = λ m made. subst (λ (k : ℕ). IsPut bytes k (content_of journal m.id).content) (ap (λ (y : CallStage). reach y at piece) is) (h.holds m made);
          owner = h.owner;
          outs = λ k m o made. h.outs k m (ap (is_out k) is ∙ o) made;
        })
        (λ e. gone x h)
    late_kept (KeptOut own) is = h
    late_kept KeptBack is = h
    late_kept Done is = h
    late_kept GivenUp is = h

  -- with the next piece to be read, where it has answered the one in hand
  next_kept : (x : CopyTarget) → is_over x.stage ≡ true → Kept x → IsTargetKept S packets last journal by bytes (at + length piece) [] x
  next_kept x over h = record {
    site = h.site;
    asks = λ xid o none. absurd (out_over x.stage xid o over);
    unmade = λ none up. absurd (not_made x.stage over up (λ e. sym (h.done e) ∙ ap is_some none));
    done = h.done;
    lost = h.lost;
    holds = λ m made. by_stage x.stage over m made (λ e. h.lost e) (h.holds m made);
    owner = h.owner;
    outs = λ xid m o made. absurd (out_over x.stage xid o over);
  }
    where
      not_made : (stage : CallStage) → is_over stage ≡ true → is_given_up stage ≡ false → (is_answered stage ≡ true → true ≡ false) → ⊥
      not_made Waits e f k = cc
      not_made (Out own timeouts) e f k = cc
      not_made (KeptOut own) e f k = cc
      not_made KeptBack e f k = cc
      not_made Done e f k = let wrong = k refl in cc
      not_made GivenUp e f k = cc

      by_stage : (stage : CallStage) → is_over stage ≡ true → (m : Mirror) → x.made ≡ Some m → (is_given_up stage ≡ true → x.made ≡ None) → IsPut bytes (reach stage at piece) (content_of journal m.id).content → IsPut bytes (reach stage (at + length piece) []) (content_of journal m.id).content
      by_stage Waits e m made lost k = absurd cc
      by_stage (Out own timeouts) e m made lost k = absurd cc
      by_stage (KeptOut own) e m made lost k = absurd cc
      by_stage KeptBack e m made lost k = absurd cc
      by_stage Done e m made lost k = let same : at + length piece ≡ at + length piece + length {A = ℕ} [] = omega arith in subst (λ (y : ℕ). IsPut bytes y (content_of journal m.id).content) same k
      by_stage GivenUp e m made lost k = absurd (none_some m (sym (lost refl) ∙ made))

  -- with a piece to be written, where it has answered the one before
  write_kept : (more : List ℕ) (x : CopyTarget) → piece ≡ [] → is_over x.stage ≡ true → Kept x → IsTargetKept S packets last journal by bytes at more (to_write more x)
  write_kept more x none over h = by_given (is_given_up x.stage) refl
    where
      upto : (m : Mirror) → x.made ≡ Some m → is_given_up x.stage ≡ false → IsPut bytes at (content_of journal m.id).content
      upto m made up = by_stage x.stage over up (h.holds m made)
        where
          by_stage : (stage : CallStage) → is_over stage ≡ true → is_given_up stage ≡ false → IsPut bytes (reach stage at piece) (content_of journal m.id).content → IsPut bytes at (content_of journal m.id).content
          by_stage Waits e f k = k
          by_stage (Out own timeouts) e f k = k
          by_stage (KeptOut own) e f k = k
          by_stage KeptBack e f k = k
          by_stage Done e f k = put_less bytes (at + length piece) at (content_of journal m.id).content (omega arith) k
          by_stage GivenUp e f k = k

      is_made : is_given_up x.stage ≡ false → x.made ≡ None → ⊥
      is_made up none_made = by_stage x.stage over up (λ e. sym (h.done e) ∙ ap is_some none_made)
        where
          by_stage : (stage : CallStage) → is_over stage ≡ true → is_given_up stage ≡ false → (is_answered stage ≡ true → true ≡ false) → ⊥
          by_stage Waits e f k = cc
          by_stage (Out own timeouts) e f k = cc
          by_stage (KeptOut own) e f k = cc
          by_stage KeptBack e f k = cc
          by_stage Done e f k = let wrong = k refl in cc
          by_stage GivenUp e f k = cc

      some_made : is_given_up x.stage ≡ false → (made : Option Mirror) → x.made ≡ made → is_some made ≡ true
      some_made up None is = absurd (is_made up is)
      some_made up (Some m) is = refl

      at_stage_kept : (stage : CallStage) → is_given_up x.stage ≡ false → is_given_up stage ≡ false → ((xid : ℕ) → is_out xid stage ≡ true → ⊥) → reach stage at more ≡ at → IsTargetKept S packets last journal by bytes at more (at_stage x stage)
      at_stage_kept stage up given outs to = record {
        site = h.site;
        asks = λ xid o none_made. absurd (outs xid o);
        unmade = λ none_made e. absurd (is_made up none_made);
        done = λ e. some_made up x.made refl;
        lost = λ e. let wrong : true ≡ false = sym e ∙ given in absurd cc;
        holds = λ m made. subst (λ (k : ℕ). IsPut bytes k (content_of journal m.id).content) (sym to) (upto m made up);
        owner = h.owner;
        outs = λ xid m o made. absurd (outs xid o);
      }

      staged : is_given_up x.stage ≡ false → (ws : List ℕ) → more ≡ ws → IsTargetKept S packets last journal by bytes at more (at_stage x (stage_for ws))
      staged up [] is = at_stage_kept Done up refl (λ xid e. wrong xid e) (let same = ap (λ (zs : List ℕ). length zs) is in omega (arith, same))
        where
          wrong : (xid : ℕ) → false ≡ true → ⊥
          wrong xid e = cc
      staged up (b ∷ ws) is = at_stage_kept Waits up refl (λ xid e. wrong xid e) refl
        where
          wrong : (xid : ℕ) → false ≡ true → ⊥
          wrong xid e = cc

      by_given : (g : Bool) → is_given_up x.stage ≡ g → IsTargetKept S packets last journal by bytes at more (cond (is_given_up x.stage) x (at_stage x (stage_for more)))
      by_given true e = subst (λ (g : Bool). IsTargetKept S packets last journal by bytes at more (cond g x (at_stage x (stage_for more)))) (sym e) (record {
        site = h.site;
        asks = h.asks;
        unmade = λ none_made up. let wrong : true ≡ false = sym e ∙ up in absurd cc;
        done = h.done;
        lost = h.lost;
        holds = λ m made. absurd (none_some m (sym (h.lost e) ∙ made));
        owner = h.owner;
        outs = λ xid m o made. absurd (none_some m (sym (h.lost e) ∙ made));
      })
      by_given false e = subst (λ (g : Bool). IsTargetKept S packets last journal by bytes at more (cond g x (at_stage x (stage_for more)))) (sym e) (staged e more refl)

-- ---- the copy

pub all_both : {A : Type 0} (P Q R : A → Type 0) (xs : List A) → ((x : A) → P x → Q x → R x) → AllByRecursion P xs → AllByRecursion Q xs → AllByRecursion R xs
all_both P Q R [] f h k = tt
all_both P Q R (x ∷ xs) f h k = (f x h.0 k.0, all_both P Q R xs f h.1 k.1)

all_mapped : {A : Type 0} (P Q R : A → Type 0) (g : A → A) (xs : List A) → ((x : A) → P x → Q x → R (g x)) → AllByRecursion P xs → AllByRecursion Q xs → AllByRecursion R (map g xs)
all_mapped P Q R g [] f h k = tt
all_mapped P Q R g (x ∷ xs) f h k = (f x h.0 k.0, all_mapped P Q R g xs f h.1 k.1)

module _ (t : Story) (uid names : ℕ) (packets : List PacketValue) (last : ℕ) (journal : List Entry) (n : ℕ) (bytes : List ℕ) where
  abbrev So : CopyState → Type 0
  So c = TargetsKept t uid names packets last journal n bytes c

  -- what a CREATE that is answered leaves
  abbrev pub IsMadeThen : FileInput → ℕ → Type 0
  IsMadeThen (Answers xid reply) by = (x : CopyTarget) (fileid : ℕ) (shown : Shown) → IsSiteOf t names n by x.name → IsOutSo packets last xid x.server (Create x.name by) (λ r. Unit {0}) → ((u : ℕ) → IsMine t.whose uid n u → u ≤ by) → reply ≡ Created fileid shown
      → (owner_of journal (at_server x.server fileid) ≡ by) × IsPart bytes (content_of journal (at_server x.server fileid)).content
  IsMadeThen _ by = Unit {0}

  read_staged : (c : CopyState) (stage : CallStage) → ((xid : ℕ) → is_out xid stage ≡ true → is_out xid c.read ≡ true) → (is_over stage ≡ false → is_over c.read ≡ false) → So c → So (with_read c stage)
  read_staged c stage outs over h = record { newest = h.newest; all_over = λ xid e. h.all_over xid (outs xid e); empty = λ e. h.empty (over e); each = h.each }

  goes_on_kept : (c : CopyState) → So c → So (goes_on c)
  goes_on_kept c h =
      cond_both (is_over c.read && not c.ended && have_answered c) (with_next c) c So
      (λ e.
      let parts = and_parts (is_over c.read && not c.ended) (have_answered c) e in
      record {
        newest = h.newest;
        all_over = λ xid wrong. absurd cc;
        empty = λ f. refl;
        each = all_both (λ (y : CopyTarget). is_over y.stage ≡ true) (IsTargetKept (IsSiteOf t names n c.copier) packets last journal c.copier bytes c.at c.piece) (IsTargetKept (IsSiteOf t names n c.copier) packets last journal c.copier bytes (c.at + length c.piece) []) c.targets
            (λ y over k. next_kept (IsSiteOf t names n c.copier) packets last journal c.copier bytes c.at c.piece y over k) (all_over_of c.targets parts.1) h.each;
      })
      (λ e. h)

  target_kept : (c : CopyState) (place : ℕ) (y : CopyTarget) → ((xid : ℕ) → is_out xid c.read ≡ true → ⊥) → IsTargetKept (IsSiteOf t names n c.copier) packets last journal c.copier bytes c.at c.piece y → So c → So (with_target c place y)
  target_kept c place y idle k h = record { newest = h.newest; all_over = λ xid e. absurd (idle xid e); empty = h.empty; each = all_set (IsTargetKept (IsSiteOf t names n c.copier) packets last journal c.copier bytes c.at c.piece) c.targets place y h.each k }

  module _ (c : CopyState) (h : So c) where
    abbrev One : CopyTarget → Type 0
    One x = IsTargetKept (IsSiteOf t names n c.copier) packets last journal c.copier bytes c.at c.piece x

    target_turn : (xid : ℕ) (step : CopyTarget → TargetStep) → ((place : ℕ) (x : CopyTarget) → slice_get c.targets place ≡ Some x → is_out xid x.stage ≡ true → One x → One (step x).target) → (reads : CopyAfter) → (is_out xid c.read ≡ true → So reads.copy)
        → So (step_from c step (by_read c xid reads) (target_of c xid)).copy
    target_turn xid step ok reads read_ok = by_found (target_of c xid) refl
      where
        by_found : (found : Option ℕ) → target_of c xid ≡ found → So (step_from c step (by_read c xid reads) found).copy
        by_found None is = cond_both (is_out xid c.read) reads (stranger c) (λ (a : CopyAfter). So a.copy) read_ok (λ e. h)
        by_found (Some place) is =
            let x = found_at (λ (y : CopyTarget). is_out xid y.stage) c.targets place is in
            subst (λ (got : Option CopyTarget). So (step_at c step place got).copy) (sym x.1)
            (goes_on_kept (with_target c place (step x.0).target)
            (target_kept c place (step x.0).target (λ own e. out_over x.0.stage xid x.2 (all_at (λ (y : CopyTarget). is_over y.stage ≡ true) c.targets place x.0 (all_over_of c.targets (h.all_over own e)) x.1))
            (ok place x.0 x.1 x.2 (all_at One c.targets place x.0 h.each x.1)) h))

    back : (xid : ℕ) → is_out xid c.read ≡ true → So (with_read c KeptBack)
    back xid e = read_staged c KeptBack (λ k o. absurd cc) (λ f. out_not_over c.read xid e) h

    read_kept : (xid : ℕ) (reply : DsReplyValue) → is_out xid c.read ≡ true → So (read_answered c reply).copy
    read_kept xid (Created fileid shown) e = back xid e
    read_kept xid (Set shown) e = back xid e
    read_kept xid (Written shown verifier) e = back xid e
    read_kept xid (Committed shown verifier) e = back xid e
    read_kept xid (Bytes shown eof more) e =
        cond_both (is_long c more) (source_fails c KeptBack (Error odd_status)) (copy_then (with_piece c eof more) Waiting) (λ (a : CopyAfter). So a.copy) (λ long. back xid e)
        (λ short. goes_on_kept (with_piece c eof more) (record {
          newest = h.newest;
          all_over = λ k wrong. absurd cc;
          empty = λ wrong. absurd cc;
          each = all_mapped (λ (y : CopyTarget). is_over y.stage ≡ true) One (IsTargetKept (IsSiteOf t names n c.copier) packets last journal c.copier bytes c.at more) (to_write more) c.targets
              (λ y over k. write_kept (IsSiteOf t names n c.copier) packets last journal c.copier bytes c.at c.piece more y (h.empty (out_not_over c.read xid e)) over k) (all_over_of c.targets (h.all_over xid e)) h.each;
        }))
    read_kept xid (NotSync shown) e = back xid e
    read_kept xid (Failed status shown) e = back xid e

    late_read : (stage : CallStage) → c.read ≡ stage → (xid : ℕ) → is_out xid c.read ≡ true → So (read_late c stage).copy
    late_read Waits is xid e = h
    late_read (Out own timeouts) is xid e =
        cond_both (ltb (timeouts + 1) 3) (record { copy = with_read c (Out own (timeouts + 1)); step = Waiting }) (source_fails c (KeptOut own) Timeouts) (λ (a : CopyAfter). So a.copy)
        (λ b. read_staged c (Out own (timeouts + 1)) (λ k o. ap (is_out k) is ∙ o) (λ f. out_not_over c.read xid e) h) (λ b. read_staged c (KeptOut own) (λ k o. ap (is_out k) is ∙ o) (λ f. out_not_over c.read xid e) h)
    late_read (KeptOut own) is xid e = h
    late_read KeptBack is xid e = h
    late_read Done is xid e = h
    late_read GivenUp is xid e = h

    tick_over : (stage : CallStage) → is_over (stage_at_tick stage) ≡ false → is_over stage ≡ false
    tick_over Waits e = refl
    tick_over (Out own timeouts) e = refl
    tick_over (KeptOut own) e = refl
    tick_over KeptBack e = refl
    tick_over Done e = e
    tick_over GivenUp e = e

    pub targets_turn : (input : FileInput) → IsHeard packets input → IsMadeThen input c.copier → So (copy_turned input c).copy
    targets_turn (Answers xid reply) heard made =
        target_turn xid (λ x. target_answered x reply x.made) (λ place x there out k. answered_kept (IsSiteOf t names n c.copier) packets last journal c.copier bytes c.at c.piece x k xid out reply x.made refl heard (λ fileid shown none is. made x fileid shown k.site (k.asks xid out none) h.newest is)) (read_answered c reply) (read_kept xid reply)
    targets_turn (TimesOut xid) heard made = target_turn xid (λ x. target_late x x.stage) (λ place x there out k. late_kept (IsSiteOf t names n c.copier) packets last journal c.copier bytes c.at c.piece x k xid out x.stage refl) (read_late c c.read) (late_read c.read refl xid)
    targets_turn Ticks heard made = read_staged c (stage_at_tick c.read) (at_tick_out c.read) (tick_over c.read) h
    targets_turn _ heard made = h
