-- What an answer, a timeout and a tick make of a copy, as seen from its source.
use Rattle.std.proofs.Common.{◌≡◌, ℕ, ◌+◌, Bool, true, false, ltb, ◌&&◌, not, List, Option, Some, None, refl, sym, ap, subst, ◌∙◌}
use Rattle.std.specs.Prelude.{slice_get}
use Rattle.std.proofs.lemmas.Bool.{cond_both, and_parts}
use Rattle.cluster_model.specs.declared.ids.MirrorId.{MirrorId}
use Rattle.cluster_model.specs.declared.ids.Mirror.{Mirror}
use Rattle.cluster_model.specs.declared.phase.LeftCause.TheVariants.{Error, Timeouts}
use Rattle.cluster_model.specs.declared.entry.Entry.{Entry}
use Rattle.cluster_model.specs.declared.call_stage.CallStage.{CallStage}
use Rattle.cluster_model.specs.declared.call_stage.CallStage.TheVariants.{Waits, Out, KeptOut, KeptBack, Done, GivenUp}
use Rattle.cluster_model.specs.DsCalls.{DsReplyValue, Created, Set, Written, Committed, Bytes, NotSync, Failed}
use Rattle.cluster_model.specs.Fences.{is_out, is_over, stage_at_tick, odd_status}
use Rattle.copy_rule.specs.Copies.{CopyState, at_stage, TargetStep, goes_on_with, target_fails, create_answered, write_answered, target_answered, target_late, to_write, is_given_up, stage_for, with_target, with_read, with_piece, with_next, have_answered, goes_on, CopyAfter, stranger, source_fails, is_long, copy_then, read_answered, read_late, target_of, step_at, step_from, by_read}
use Rattle.copy_rule.specs.declared.copy_target.CopyTarget.{CopyTarget}
use Rattle.copy_rule.specs.declared.copy_target.CopyStep.TheVariants.{Waiting}
use Rattle.file_rule.specs.FilePhases.{FileInput, Answers, TimesOut, Ticks}
use Rattle.cluster_laws.specs.Machine.{PacketValue}
use Rattle.cluster_laws.proofs.Lists.{all_at, all_set}
use Rattle.cluster_laws.proofs.Lives.{all_map}
use Rattle.machine_walk.proofs.MoveCases.{HasReply, IsHeard}
use Rattle.machine_walk.proofs.Stories.{Story}
use Rattle.machine_walk.proofs.StepKinds.{copy_turned}
use Rattle.copied_bytes.proofs.CallsKept.{reply_so}
use Rattle.copied_bytes.proofs.Slices.{slice_next}
use Rattle.copied_bytes.proofs.Sources.{IsNotFirst, IsReadReply, CopiesFrom}

-- ---- a target replaces what it was to replace

created_same : (t : CopyTarget) (reply : DsReplyValue) → (create_answered t reply).target.replaced ≡ t.replaced
created_same t (Created fileid shown) = refl
created_same t (Set shown) = refl
created_same t (Written shown verifier) = refl
created_same t (Committed shown verifier) = refl
created_same t (Bytes shown eof bytes) = refl
created_same t (NotSync shown) = refl
created_same t (Failed status shown) = refl

written_same : (t : CopyTarget) (reply : DsReplyValue) → (write_answered t reply).target.replaced ≡ t.replaced
written_same t (Created fileid shown) = refl
written_same t (Set shown) = refl
written_same t (Written shown verifier) = refl
written_same t (Committed shown verifier) = refl
written_same t (Bytes shown eof bytes) = refl
written_same t (NotSync shown) = refl
written_same t (Failed status shown) = refl

answered_same : (t : CopyTarget) (reply : DsReplyValue) (made : Option Mirror) → (target_answered t reply made).target.replaced ≡ t.replaced
answered_same t reply None = created_same t reply
answered_same t reply (Some m) = written_same t reply

late_same : (t : CopyTarget) (stage : CallStage) → (target_late t stage).target.replaced ≡ t.replaced
late_same t Waits = refl
late_same t (Out xid timeouts) = cond_both (ltb (timeouts + 1) 3) (goes_on_with (at_stage t (Out xid (timeouts + 1)))) (target_fails t Timeouts) (λ (x : TargetStep). x.target.replaced ≡ t.replaced) (λ e. refl) (λ e. refl)
late_same t (KeptOut xid) = refl
late_same t KeptBack = refl
late_same t Done = refl
late_same t GivenUp = refl

to_write_same : (bytes : List ℕ) (t : CopyTarget) → (to_write bytes t).replaced ≡ t.replaced
to_write_same bytes t = cond_both (is_given_up t.stage) t (at_stage t (stage_for bytes)) (λ (x : CopyTarget). x.replaced ≡ t.replaced) (λ e. refl) (λ e. refl)

not_both : (b : Bool) → b ≡ true → not b ≡ true → ⊥
not_both true e f = cc
not_both false e f = cc

pub at_tick_out : (stage : CallStage) (xid : ℕ) → is_out xid (stage_at_tick stage) ≡ true → is_out xid stage ≡ true
at_tick_out Waits xid e = e
at_tick_out (Out own timeouts) xid e = e
at_tick_out (KeptOut own) xid e = e
at_tick_out KeptBack xid e = absurd cc
at_tick_out Done xid e = e
at_tick_out GivenUp xid e = e

module _ (t : Story) (packets : List PacketValue) (last : ℕ) (journal : List Entry) (id : MirrorId) where
  abbrev So : CopyState → Type 0
  So c = CopiesFrom t packets last journal c id

  -- its READ is at another stage
  read_at : (c : CopyState) (stage : CallStage) → ((xid : ℕ) → is_out xid stage ≡ true → is_out xid c.read ≡ true) → So c → So (with_read c stage)
  read_at c stage outs h = record { from = h.from; bytes = h.bytes; copy = h.copy; whole = h.whole; slice = h.slice; over = h.over; reads = λ xid e. h.reads xid (outs xid e); replaced = h.replaced }

  goes_on_so : (c : CopyState) → So c → So (goes_on c)
  goes_on_so c h =
      cond_both (is_over c.read && not c.ended && have_answered c) (with_next c) c So
      (λ e.
      let parts = and_parts (is_over c.read && not c.ended) (have_answered c) e in
      let more = and_parts (is_over c.read) (not c.ended) parts.0 in
      record { from = h.from; bytes = h.bytes; copy = h.copy; whole = h.whole; slice = slice_next h.bytes c.at c.piece h.slice; over = λ ended. absurd (not_both c.ended ended more.1); reads = λ xid wrong. absurd cc; replaced = h.replaced })
      (λ e. h)

  target_put : (c : CopyState) (place : ℕ) (x y : CopyTarget) → slice_get c.targets place ≡ Some x → y.replaced ≡ x.replaced → So c → So (with_target c place y)
  target_put c place x y there same h = record {
    from = h.from;
    bytes = h.bytes;
    copy = h.copy;
    whole = h.whole;
    slice = h.slice;
    over = h.over;
    reads = h.reads;
    replaced = all_set (λ z. IsNotFirst id z.replaced) c.targets place y h.replaced (subst (IsNotFirst id) (sym same) (all_at (λ z. IsNotFirst id z.replaced) c.targets place x h.replaced there));
  }

  module _ (c : CopyState) (h : So c) where
    target_step : (step : CopyTarget → TargetStep) → ((x : CopyTarget) → (step x).target.replaced ≡ x.replaced) → (xid : ℕ) (reads : CopyAfter) → (is_out xid c.read ≡ true → So reads.copy) → So (step_from c step (by_read c xid reads) (target_of c xid)).copy
    target_step step same xid reads ok = by_found (target_of c xid)
      where
        at_place : (place : ℕ) (got : Option CopyTarget) → slice_get c.targets place ≡ got → So (step_at c step place got).copy
        at_place place None is = h
        at_place place (Some x) is = goes_on_so (with_target c place (step x).target) (target_put c place x (step x).target is (same x) h)

        by_found : (found : Option ℕ) → So (step_from c step (by_read c xid reads) found).copy
        by_found None = cond_both (is_out xid c.read) reads (stranger c) (λ (a : CopyAfter). So a.copy) ok (λ e. h)
        by_found (Some place) = at_place place (slice_get c.targets place) refl

    kept : So (with_read c KeptBack)
    kept = read_at c KeptBack (λ xid e. absurd cc) h

    read_so : (xid : ℕ) (reply : DsReplyValue) → HasReply packets xid reply → is_out xid c.read ≡ true → So (read_answered c reply).copy
    read_so xid (Created fileid shown) heard e = kept
    read_so xid (Set shown) heard e = kept
    read_so xid (Written shown verifier) heard e = kept
    read_so xid (Committed shown verifier) heard e = kept
    read_so xid (Bytes shown eof bytes) heard e =
        let k = reply_so packets last xid id.server _ (IsReadReply h.bytes c.at) (Bytes shown eof bytes) (h.reads xid e) heard in
        cond_both (is_long c bytes) (source_fails c KeptBack (Error odd_status)) (copy_then (with_piece c eof bytes) Waiting) (λ (a : CopyAfter). So a.copy) (λ long. kept)
        (λ short. goes_on_so (with_piece c eof bytes) (record {
          from = h.from;
          bytes = h.bytes;
          copy = h.copy;
          whole = h.whole;
          slice = k.0;
          over = k.1;
          reads = λ x wrong. absurd cc;
          replaced = all_map (λ z. IsNotFirst id z.replaced) (λ z. IsNotFirst id z.replaced) (to_write bytes) c.targets (λ z q. subst (IsNotFirst id) (sym (to_write_same bytes z)) q) h.replaced;
        }))
    read_so xid (NotSync shown) heard e = kept
    read_so xid (Failed status shown) heard e = kept

    late_so : (stage : CallStage) → c.read ≡ stage → So (read_late c stage).copy
    late_so Waits is = h
    late_so (Out own timeouts) is =
        cond_both (ltb (timeouts + 1) 3) (record { copy = with_read c (Out own (timeouts + 1)); step = Waiting }) (source_fails c (KeptOut own) Timeouts) (λ (a : CopyAfter). So a.copy)
        (λ e. read_at c (Out own (timeouts + 1)) (λ xid o. ap (is_out xid) is ∙ o) h) (λ e. read_at c (KeptOut own) (λ xid o. ap (is_out xid) is ∙ o) h)
    late_so (KeptOut own) is = h
    late_so KeptBack is = h
    late_so Done is = h
    late_so GivenUp is = h

    pub copy_turn : (input : FileInput) → IsHeard packets input → So (copy_turned input c).copy
    copy_turn (Answers xid reply) heard = target_step (λ x. target_answered x reply x.made) (λ x. answered_same x reply x.made) xid (read_answered c reply) (read_so xid reply heard)
    copy_turn (TimesOut xid) heard = target_step (λ x. target_late x x.stage) (λ x. late_same x x.stage) xid (read_late c c.read) (λ e. late_so c.read refl)
    copy_turn Ticks heard = read_at c (stage_at_tick c.read) (at_tick_out c.read) h
    copy_turn _ heard = h
