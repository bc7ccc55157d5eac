-- What the notes say of one target of a copy, and what becomes of it.
use Rattle.std.proofs.Common.{◌≡◌, ℕ, ◌+◌, ◌<◌, Bool, true, false, cond, List, [], ◌∷◌, ◌++◌, Option, Some, None, refl, sym, ap, subst, ◌∙◌, append-nil, arith}
use Rattle.std.specs.Prelude.{◌==◌, ◌&&◌, ◌||◌, not, nat_lt, slice_get}
use Rattle.std.proofs.lemmas.Bool.{ltb-true}
use Rattle.std.proofs.lemmas.Bool.Decides.{nat_tests}
use Rattle.std.proofs.lemmas.List.Concat.{flat_map-append}
use Rattle.cluster_model.specs.declared.limits.TheConstants.{MAX_TIMEOUTS}
use Rattle.cluster_model.specs.declared.tick.Tick.{Tick}
use Rattle.cluster_model.specs.declared.ids.MirrorId.{MirrorId}
use Rattle.cluster_model.specs.declared.ids.Mirror.{Mirror}
use Rattle.cluster_model.specs.declared.ds_call.Shown.{Shown}
use Rattle.cluster_model.specs.declared.phase.LeftCause.TheVariants.{Timeouts}
use Rattle.cluster_model.specs.declared.call_stage.CallStage.{CallStage}
use Rattle.cluster_model.specs.declared.call_stage.CallStage.TheVariants.{Waits, Out, KeptOut, KeptBack, Done, GivenUp}
use Rattle.cluster_model.specs.Content.{Pending}
use Rattle.cluster_model.specs.DsCalls.{DsReplyValue, Created, Set, Written, Committed, Bytes, NotSync, Failed}
use Rattle.cluster_model.specs.Fences.{waits, is_out, is_over}
use Rattle.copy_rule.specs.declared.copy_target.Target.{Target}
use Rattle.copy_rule.specs.declared.copy_target.CopyTarget.{CopyTarget}
use Rattle.copy_rule.specs.Copies.{TargetStep, at_stage, having_made, having_written, seen_then, thrown_away, is_given_up, to_write, stage_for, target_call, target_answered, create_answered, write_answered, target_late, target_fails, goes_on_with}
use Rattle.resilver.specs.CopyLaws.{CopyNote, WasSent, WasAnswered, WasLate, CopyCallOut, call_out, late_once, is_read, Piece, pieces_read, write_in, writes_taken, writes_for, write_for, is_creation, was_created, fails_call, lost_by_answer, lost_by_timeout, was_lost, tick_of, seen_in, later_of, last_seen}
use Rattle.resilver.proofs.Lists.{equal, is_equal, apart, out_same, over_not_out}
use Rattle.resilver.proofs.CallsOut.{sent_same, late_same, no_read}
use Rattle.resilver.proofs.Away.{LeavesBe, be_sent, be_late}

-- its call waits or is out
abbrev pub is_open : CallStage → Bool
is_open Waits = true
is_open (Out xid timeouts) = true
is_open (KeptOut xid) = false
is_open KeptBack = false
is_open Done = false
is_open GivenUp = false

-- this file, and no other of its server, was made under the name; and its ctime is the one last seen there
pub record IsMade (copier server name : ℕ) (notes : List CopyNote) (m : Mirror) : Type 0 where
  pub server_is : m.id.server ≡ server
  pub created : was_created m.id name copier notes ≡ true
  pub only : (other : MirrorId) → other.server ≡ server → was_created other name copier notes ≡ true → other ≡ m.id
  pub seen : last_seen m.id notes ≡ Some m.seen

-- A target waits for its file, or for the answer to the WRITE of the piece in hand; it has taken each piece; or it is lost.
pub data Standing (copier at : ℕ) (piece : List ℕ) (notes : List CopyNote) (t : CopyTarget) : Type 0 where
  Unmade : is_open t.stage ≡ true → t.made ≡ None → pieces_read notes ≡ []
      → ((id : MirrorId) → id.server ≡ t.server → (writes_taken id notes ≡ []) × (was_created id t.name copier notes ≡ false)) → Standing copier at piece notes t
  Writing : (m : Mirror) → is_open t.stage ≡ true → t.made ≡ Some m → IsMade copier t.server t.name notes m
      → writes_taken m.id notes ++ record { at = at; bytes = piece } ∷ [] ≡ writes_for (pieces_read notes) → Standing copier at piece notes t
  Holding : (m : Mirror) → t.stage ≡ Done → t.made ≡ Some m → IsMade copier t.server t.name notes m
      → writes_taken m.id notes ≡ writes_for (pieces_read notes) → Standing copier at piece notes t
  Lost : t.stage ≡ GivenUp → t.made ≡ None → Standing copier at piece notes t

abbrev pub timeouts_of : CallStage → ℕ
timeouts_of (Out xid timeouts) = timeouts
timeouts_of Waits = 0
timeouts_of (KeptOut xid) = 0
timeouts_of KeptBack = 0
timeouts_of Done = 0
timeouts_of GivenUp = 0

-- the call that is out at a target
abbrev pub target_out : ℕ → ℕ → List ℕ → CopyTarget → CopyCallOut
target_out copier at piece t = record { server = t.server; call = target_call copier at piece t.name t.made; timeouts = timeouts_of t.stage }

pub record TargetAt (plan : List Target) (copier at : ℕ) (piece : List ℕ) (notes : List CopyNote) (place : ℕ) (t : CopyTarget) : Type 0 where
  pub from : Target
  pub planned : slice_get plan place ≡ Some from
  pub server : from.server ≡ t.server
  pub name : from.name ≡ t.name
  pub replaced : from.replaced ≡ t.replaced
  pub few : timeouts_of t.stage < MAX_TIMEOUTS
  pub lost : is_given_up t.stage ≡ was_lost t.server notes
  pub out : (y : ℕ) → is_out y t.stage ≡ true → call_out notes y ≡ Some (target_out copier at piece t)
  pub stands : Standing copier at piece notes t

-- ---- what a note leaves as it was

made_on : (copier server name : ℕ) (notes new : List CopyNote) (m : Mirror) → LeavesBe copier server notes new → IsMade copier server name notes m → IsMade copier server name new m
made_on copier server name notes new m be made = record {
  server_is = made.server_is;
  created = be.created m.id name made.server_is ∙ made.created;
  only = λ other same was. made.only other same (sym (be.created other name same) ∙ was);
  seen = be.seen m.id made.server_is ∙ made.seen;
}

pub standing_on : (copier at : ℕ) (piece : List ℕ) (notes new : List CopyNote) (t : CopyTarget) → LeavesBe copier t.server notes new → Standing copier at piece notes t → Standing copier at piece new t
standing_on copier at piece notes new t be (Unmade open' none nothing untouched) =
    Unmade open' none (be.pieces ∙ nothing) (λ id same. let p = untouched id same in (be.writes id same ∙ p.0, be.created id t.name same ∙ p.1))
standing_on copier at piece notes new t be (Writing m open' is made taken) =
    Writing m open' is (made_on copier t.server t.name notes new m be made) (ap (λ l. l ++ record { at = at; bytes = piece } ∷ []) (be.writes m.id made.server_is) ∙ taken ∙ ap writes_for (sym be.pieces))
standing_on copier at piece notes new t be (Holding m over is made taken) =
    Holding m over is (made_on copier t.server t.name notes new m be made) (be.writes m.id made.server_is ∙ taken ∙ ap writes_for (sym be.pieces))
standing_on copier at piece notes new t be (Lost over none) = Lost over none

pub target_on : (plan : List Target) (copier at : ℕ) (piece : List ℕ) (notes new : List CopyNote) (place : ℕ) (t : CopyTarget) → LeavesBe copier t.server notes new
    → ((y : ℕ) → is_out y t.stage ≡ true → call_out new y ≡ call_out notes y) → TargetAt plan copier at piece notes place t → TargetAt plan copier at piece new place t
target_on plan copier at piece notes new place t be same a = record {
  from = a.from;
  planned = a.planned;
  server = a.server;
  name = a.name;
  replaced = a.replaced;
  few = a.few;
  lost = a.lost ∙ sym be.lost;
  out = λ y out. same y out ∙ a.out y out;
  stands = standing_on copier at piece notes new t be a.stands;
}

-- ---- stages

pub out_open : (x : ℕ) (s : CallStage) → is_out x s ≡ true → is_given_up s ≡ false
out_open x (Out own n) is = refl
out_open x (KeptOut own) is = refl
out_open x Waits is = absurd cc
out_open x KeptBack is = absurd cc
out_open x Done is = absurd cc
out_open x GivenUp is = absurd cc

waits_open : (s : CallStage) → waits s ≡ true → is_given_up s ≡ false
waits_open Waits is = refl
waits_open (Out own n) is = absurd cc
waits_open (KeptOut own) is = absurd cc
waits_open KeptBack is = absurd cc
waits_open Done is = absurd cc
waits_open GivenUp is = absurd cc

-- a call of a target that is not over goes to another stage, where it is not over
standing_at : (copier at : ℕ) (piece : List ℕ) (notes : List CopyNote) (t : CopyTarget) (stage : CallStage) → is_over t.stage ≡ false → is_open stage ≡ true
    → Standing copier at piece notes t → Standing copier at piece notes (at_stage t stage)
standing_at copier at piece notes t stage going open' (Unmade was none nothing untouched) = Unmade open' none nothing untouched
standing_at copier at piece notes t stage going open' (Writing m was is made taken) = Writing m open' is made taken
standing_at copier at piece notes t stage going open' (Holding m over is made taken) = absurd (apart (is_over t.stage) (ap is_over over) going)
standing_at copier at piece notes t stage going open' (Lost over none) = absurd (apart (is_over t.stage) (ap is_over over) going)

pub open_over : (s : CallStage) → is_open s ≡ true → is_over s ≡ true → ⊥
open_over Waits is over = absurd cc
open_over (Out own n) is over = absurd cc
open_over (KeptOut own) is over = absurd cc
open_over KeptBack is over = absurd cc
open_over Done is over = absurd cc
open_over GivenUp is over = absurd cc

four : (a b c d e : Bool) → a ≡ true → b ≡ true → c ≡ true → d ≡ true → ((a && (b && (c && d))) || e) ≡ true
four true true true true e p q r s = refl
four false b c d e p q r s = absurd cc
four true false c d e p q r s = absurd cc
four true true false d e p q r s = absurd cc
four true true true false e p q r s = absurd cc

both : (a b : Bool) → a ≡ true → b ≡ true → (a && (b && true)) ≡ true
both true true p q = refl
both false b p q = absurd cc
both true false p q = absurd cc

two : (a b : Bool) → a ≡ true → b ≡ true → (a && b) ≡ true
two true b p q = q
two false b p q = absurd cc

second_of : (a b c e : Bool) → e ≡ false → ((a && (b && c)) || e) ≡ true → b ≡ true
second_of true true c e none is = refl
second_of true false c e none is = absurd cc
second_of false b c e none is = absurd (cc (none, is))

module _ (plan : List Target) (copier at : ℕ) (piece : List ℕ) (notes : List CopyNote) (place : ℕ) (t : CopyTarget) (a : TargetAt plan copier at piece notes place t) where
  -- its call goes out
  pub sent_at : (x : ℕ) → waits t.stage ≡ true → is_over t.stage ≡ false
      → TargetAt plan copier at piece (WasSent t.server x (target_call copier at piece t.name t.made) ∷ notes) place (at_stage t (Out x 0))
  sent_at x waiting going = record {
    from = a.from;
    planned = a.planned;
    server = a.server;
    name = a.name;
    replaced = a.replaced;
    few = omega arith;
    lost = sym (waits_open t.stage waiting) ∙ a.lost;
    out = λ y out. sent_same notes t.server x y (target_call copier at piece t.name t.made) (out_same x y (Out x 0) (equal x x refl) out);
    stands =
        standing_on copier at piece notes (WasSent t.server x (target_call copier at piece t.name t.made) ∷ notes) (at_stage t (Out x 0)) (be_sent copier t.server notes t.server x (target_call copier at piece t.name t.made))
        (standing_at copier at piece notes t (Out x 0) going refl a.stands);
  }

  -- it is thrown away
  thrown_at : (new : List CopyNote) → was_lost t.server new ≡ true → TargetAt plan copier at piece new place (thrown_away t)
  thrown_at new lost = record {
    from = a.from;
    planned = a.planned;
    server = a.server;
    name = a.name;
    replaced = a.replaced;
    few = omega arith;
    lost = sym lost;
    out = λ y out. absurd cc;
    stands = Lost refl refl;
  }

  module _ (x : ℕ) (out : is_out x t.stage ≡ true) where
    left_before : was_lost t.server notes ≡ false
    left_before = sym a.lost ∙ out_open x t.stage out

    -- an answer that was not wanted
    fails_at : (reply : DsReplyValue) → fails_call (target_call copier at piece t.name t.made) reply ≡ true → TargetAt plan copier at piece (WasAnswered x reply ∷ notes) place (thrown_away t)
    fails_at reply fails =
        thrown_at (WasAnswered x reply ∷ notes)
        (ap (λ (o : Option CopyCallOut). lost_by_answer t.server reply o || was_lost t.server notes) (a.out x out)
        ∙ ap (λ b. (b && fails_call (target_call copier at piece t.name t.made) reply) || was_lost t.server notes) (equal t.server t.server refl)
        ∙ ap (λ b. b || was_lost t.server notes) fails)

    -- it is not lost by an answer that was wanted
    stays_left : (reply : DsReplyValue) → fails_call (target_call copier at piece t.name t.made) reply ≡ false → was_lost t.server (WasAnswered x reply ∷ notes) ≡ false
    stays_left reply fails =
        ap (λ (o : Option CopyCallOut). lost_by_answer t.server reply o || was_lost t.server notes) (a.out x out)
        ∙ ap (λ b. (b && fails_call (target_call copier at piece t.name t.made) reply) || was_lost t.server notes) (equal t.server t.server refl)
        ∙ ap (λ b. b || was_lost t.server notes) fails
        ∙ left_before

    -- what its call was
    its_call : (made : Option Mirror) → t.made ≡ made → call_out notes x ≡ Some (record { server = t.server; call = target_call copier at piece t.name made; timeouts = timeouts_of t.stage })
    its_call made is = a.out x out ∙ ap (λ (o : Option Mirror). Some (record { server = t.server; call = target_call copier at piece t.name o; timeouts = timeouts_of t.stage })) is

    fails_so : (made : Option Mirror) (reply : DsReplyValue) (b : Bool) → t.made ≡ made → fails_call (target_call copier at piece t.name made) reply ≡ b → fails_call (target_call copier at piece t.name t.made) reply ≡ b
    fails_so made reply b is fails = ap (λ (o : Option Mirror). fails_call (target_call copier at piece t.name o) reply) is ∙ fails

    -- its CREATE was answered
    created_at : (fileid : ℕ) (shown : Shown) → t.made ≡ None → pieces_read notes ≡ []
        → ((id : MirrorId) → id.server ≡ t.server → (writes_taken id notes ≡ []) × (was_created id t.name copier notes ≡ false))
        → TargetAt plan copier at piece (WasAnswered x (Created fileid shown) ∷ notes) place (having_made t fileid shown.seen)
    created_at fileid shown none nothing untouched = record {
      from = a.from;
      planned = a.planned;
      server = a.server;
      name = a.name;
      replaced = a.replaced;
      few = omega arith;
      lost = sym (stays_left (Created fileid shown) (fails_so None (Created fileid shown) false none refl));
      out = λ y so. absurd cc;
      stands =
          Holding (record { id = id; seen = shown.seen }) refl refl
          (record {
            server_is = refl;
            created = makes id ∙ four (t.server == t.server) (fileid == fileid) (t.name == t.name) (copier == copier) (was_created id t.name copier notes) (equal t.server t.server refl) (equal fileid fileid refl) (equal t.name t.name refl) (equal copier copier refl);
            only = λ other same was. named other same (second_of (t.server == other.server) (fileid == other.fileid) ((t.name == t.name) && (copier == copier)) (was_created other t.name copier notes) (untouched other same).1 (sym (makes other) ∙ was));
            seen =
                ap (λ (o : Option CopyCallOut). later_of (seen_in id (Created fileid shown) o) (last_seen id notes)) (its_call None none)
                ∙ ap (λ (b : Bool). later_of (cond {A = Option Tick} b (Some shown.seen) None) (last_seen id notes)) (both (t.server == t.server) (fileid == fileid) (equal t.server t.server refl) (equal fileid fileid refl));
          })
          (append-nil (writes_taken id notes) ∙ (untouched id refl).0 ∙ sym (ap writes_for (append-nil (pieces_read notes) ∙ nothing)));
    }
      where
        id : MirrorId
        id = record { server = t.server; fileid = fileid }

        makes : (other : MirrorId) → was_created other t.name copier (WasAnswered x (Created fileid shown) ∷ notes)
            ≡ (((t.server == other.server) && ((fileid == other.fileid) && ((t.name == t.name) && (copier == copier)))) || was_created other t.name copier notes)
        makes other = ap (λ (o : Option CopyCallOut). is_creation other t.name copier (Created fileid shown) o || was_created other t.name copier notes) (its_call None none)

        named : (other : MirrorId) → other.server ≡ t.server → (fileid == other.fileid) ≡ true → other ≡ id
        named other same is = ap (λ n. record { server = other.server; fileid = n }) (sym (is_equal fileid other.fileid is)) ∙ ap (λ n. record { server = n; fileid = fileid }) same

    create_at : (reply : DsReplyValue) → t.made ≡ None → pieces_read notes ≡ []
        → ((id : MirrorId) → id.server ≡ t.server → (writes_taken id notes ≡ []) × (was_created id t.name copier notes ≡ false))
        → TargetAt plan copier at piece (WasAnswered x reply ∷ notes) place (create_answered t reply).target
    create_at (Created fileid shown) none nothing untouched = created_at fileid shown none nothing untouched
    create_at (Set shown) none nothing untouched = fails_at (Set shown) (fails_so None (Set shown) true none refl)
    create_at (Written shown verifier) none nothing untouched = fails_at (Written shown verifier) (fails_so None (Written shown verifier) true none refl)
    create_at (Committed shown verifier) none nothing untouched = fails_at (Committed shown verifier) (fails_so None (Committed shown verifier) true none refl)
    create_at (Bytes shown eof bytes) none nothing untouched = fails_at (Bytes shown eof bytes) (fails_so None (Bytes shown eof bytes) true none refl)
    create_at (NotSync shown) none nothing untouched = fails_at (NotSync shown) (fails_so None (NotSync shown) true none refl)
    create_at (Failed status shown) none nothing untouched = fails_at (Failed status shown) (fails_so None (Failed status shown) true none refl)

    -- a WRITE to it was answered
    written_at : (shown : Option Shown) (verifier : ℕ) (m : Mirror) → t.made ≡ Some m → IsMade copier t.server t.name notes m
        → writes_taken m.id notes ++ record { at = at; bytes = piece } ∷ [] ≡ writes_for (pieces_read notes) → TargetAt plan copier at piece (WasAnswered x (Written shown verifier) ∷ notes) place (having_written t shown)
    written_at shown verifier m is made taken = record {
      from = a.from;
      planned = a.planned;
      server = a.server;
      name = a.name;
      replaced = a.replaced;
      few = omega arith;
      lost = sym (stays_left (Written shown verifier) (fails_so (Some m) (Written shown verifier) false is refl));
      out = λ y so. absurd cc;
      stands = by_shown shown refl;
    }
      where
        new : List CopyNote
        new = WasAnswered x (Written shown verifier) ∷ notes

        -- what the answer shows of it
        sees : last_seen m.id (WasAnswered x (Written shown verifier) ∷ notes) ≡ later_of (tick_of shown) (last_seen m.id notes)
        sees =
            ap (λ (o : Option CopyCallOut). later_of (seen_in m.id (Written shown verifier) o) (last_seen m.id notes)) (its_call (Some m) is)
            ∙ ap (λ (b : Bool). later_of (cond {A = Option Tick} b (tick_of shown) None) (last_seen m.id notes)) (two (t.server == m.id.server) (m.id.fileid == m.id.fileid) (equal t.server m.id.server (sym made.server_is)) (equal m.id.fileid m.id.fileid refl))

        still : (tick : Tick) → last_seen m.id (WasAnswered x (Written shown verifier) ∷ notes) ≡ Some tick → IsMade copier t.server t.name (WasAnswered x (Written shown verifier) ∷ notes) (record { id = m.id; seen = tick })
        still tick seen = record { server_is = made.server_is; created = made.created; only = made.only; seen = seen }

        takes : writes_taken m.id (WasAnswered x (Written shown verifier) ∷ notes) ≡ writes_for (pieces_read (WasAnswered x (Written shown verifier) ∷ notes))
        takes =
            ap (λ (o : Option CopyCallOut). writes_taken m.id notes ++ write_in m.id (Written shown verifier) o) (its_call (Some m) is)
            ∙ ap (λ (b : Bool). writes_taken m.id notes ++ cond {A = List Pending} b (record { at = at; bytes = piece } ∷ []) []) (both (t.server == m.id.server) (m.id.fileid == m.id.fileid) (equal t.server m.id.server (sym made.server_is)) (equal m.id.fileid m.id.fileid refl))
            ∙ taken
            ∙ ap writes_for (sym (append-nil (pieces_read notes)))

        by_shown : (s : Option Shown) → shown ≡ s → Standing copier at piece (WasAnswered x (Written shown verifier) ∷ notes) (having_written t s)
        by_shown None at = Holding m refl (ap (λ o. seen_then o None) is) (still m.seen (sees ∙ ap (λ (o : Option Shown). later_of (tick_of o) (last_seen m.id notes)) at ∙ made.seen)) takes
        by_shown (Some s) at = Holding (record { id = m.id; seen = s.seen }) refl (ap (λ o. seen_then o (Some s)) is) (still s.seen (sees ∙ ap (λ (o : Option Shown). later_of (tick_of o) (last_seen m.id notes)) at)) takes

    write_at : (reply : DsReplyValue) (m : Mirror) → t.made ≡ Some m → IsMade copier t.server t.name notes m
        → writes_taken m.id notes ++ record { at = at; bytes = piece } ∷ [] ≡ writes_for (pieces_read notes) → TargetAt plan copier at piece (WasAnswered x reply ∷ notes) place (write_answered t reply).target
    write_at (Written shown verifier) m is made taken = written_at shown verifier m is made taken
    write_at (Created fileid shown) m is made taken = fails_at (Created fileid shown) (fails_so (Some m) (Created fileid shown) true is refl)
    write_at (Set shown) m is made taken = fails_at (Set shown) (fails_so (Some m) (Set shown) true is refl)
    write_at (Committed shown verifier) m is made taken = fails_at (Committed shown verifier) (fails_so (Some m) (Committed shown verifier) true is refl)
    write_at (Bytes shown eof bytes) m is made taken = fails_at (Bytes shown eof bytes) (fails_so (Some m) (Bytes shown eof bytes) true is refl)
    write_at (NotSync shown) m is made taken = fails_at (NotSync shown) (fails_so (Some m) (NotSync shown) true is refl)
    write_at (Failed status shown) m is made taken = fails_at (Failed status shown) (fails_so (Some m) (Failed status shown) true is refl)

    pub answered_at : (reply : DsReplyValue) → TargetAt plan copier at piece (WasAnswered x reply ∷ notes) place (target_answered t reply t.made).target
    answered_at reply = by_standing a.stands
      where
        by_standing : Standing copier at piece notes t → TargetAt plan copier at piece (WasAnswered x reply ∷ notes) place (target_answered t reply t.made).target
        by_standing (Unmade open' none nothing untouched) =
            subst (λ (o : Option Mirror). TargetAt plan copier at piece (WasAnswered x reply ∷ notes) place (target_answered t reply o).target) (sym none) (create_at reply none nothing untouched)
        by_standing (Writing m open' is made taken) =
            subst (λ (o : Option Mirror). TargetAt plan copier at piece (WasAnswered x reply ∷ notes) place (target_answered t reply o).target) (sym is) (write_at reply m is made taken)
        by_standing (Holding m over is made taken) = absurd (apart (is_out x t.stage) out (ap (is_out x) over))
        by_standing (Lost over none) = absurd (apart (is_out x t.stage) out (ap (is_out x) over))

    -- its call timed out
    tells_lost : (n : ℕ) → t.stage ≡ Out x n → lost_by_timeout t.server (call_out notes x) ≡ (n + 1 == MAX_TIMEOUTS)
    tells_lost n is =
        ap (lost_by_timeout t.server) (a.out x out)
        ∙ ap (λ b. b && (not (is_read (target_call copier at piece t.name t.made)) && (timeouts_of t.stage + 1 == MAX_TIMEOUTS))) (equal t.server t.server refl)
        ∙ ap (λ b. not b && (timeouts_of t.stage + 1 == MAX_TIMEOUTS)) (no_read copier at piece t.name t.made)
        ∙ ap (λ (s : CallStage). timeouts_of s + 1 == MAX_TIMEOUTS) is

    again_at : (n : ℕ) → t.stage ≡ Out x n → nat_lt (n + 1) MAX_TIMEOUTS ≡ true → TargetAt plan copier at piece (WasLate x ∷ notes) place (at_stage t (Out x (n + 1)))
    again_at n is less = record {
      from = a.from;
      planned = a.planned;
      server = a.server;
      name = a.name;
      replaced = a.replaced;
      few = ltb-true (n + 1) MAX_TIMEOUTS less;
      lost = sym left_before ∙ sym be.lost;
      out = λ y so.
          let same : x ≡ y = out_same x y (Out x (n + 1)) (equal x x refl) so in
          late_same notes x y same ∙ ap (λ k. late_once (call_out notes k)) (sym same) ∙ ap late_once (a.out x out)
          ∙ ap (λ (b : Bool). cond {A = Option CopyCallOut} b (Some (target_out copier at piece t)) (cond {A = Option CopyCallOut} (nat_lt (timeouts_of t.stage + 1) MAX_TIMEOUTS) (Some (again (timeouts_of t.stage + 1))) None)) (no_read copier at piece t.name t.made)
          ∙ ap (λ (s : CallStage). cond {A = Option CopyCallOut} (nat_lt (timeouts_of s + 1) MAX_TIMEOUTS) (Some (again (timeouts_of s + 1))) None) is
          ∙ ap (λ (b : Bool). cond {A = Option CopyCallOut} b (Some (again (n + 1))) None) less;
      stands = standing_on copier at piece notes (WasLate x ∷ notes) (at_stage t (Out x (n + 1))) be (standing_at copier at piece notes t (Out x (n + 1)) (ap is_over is) refl a.stands);
    }
      where
        again : ℕ → CopyCallOut
        again k = record { server = t.server; call = target_call copier at piece t.name t.made; timeouts = k }

        be : LeavesBe copier t.server notes (WasLate x ∷ notes)
        be = be_late copier t.server notes x (tells_lost n is ∙ grind (arith, nat_tests, less))

    no_kept : (own : ℕ) → t.stage ≡ KeptOut own → ⊥
    no_kept own is = by_standing a.stands
      where
        by_standing : Standing copier at piece notes t → ⊥
        by_standing (Unmade open' none nothing untouched) = apart (is_open t.stage) open' (ap is_open is)
        by_standing (Writing m open' made_is made taken) = apart (is_open t.stage) open' (ap is_open is)
        by_standing (Holding m over made_is made taken) = apart (is_over t.stage) (ap is_over over) (ap is_over is)
        by_standing (Lost over none) = apart (is_over t.stage) (ap is_over over) (ap is_over is)

    pub late_at : (s : CallStage) → t.stage ≡ s → TargetAt plan copier at piece (WasLate x ∷ notes) place (target_late t s).target
    late_at (Out own n) is = subst (λ (k : ℕ). TargetAt plan copier at piece (WasLate x ∷ notes) place (target_late t (Out k n)).target) same (by_count (nat_lt (n + 1) MAX_TIMEOUTS) refl)
      where
        same : x ≡ own
        same = out_same x own t.stage out (ap (is_out own) is ∙ equal own own refl)

        here : t.stage ≡ Out x n
        here = is ∙ ap (λ k. Out k n) (sym same)

        last : nat_lt (n + 1) MAX_TIMEOUTS ≡ false → (n + 1 == MAX_TIMEOUTS) ≡ true
        last more = let few : n < MAX_TIMEOUTS = subst (λ (k : CallStage). timeouts_of k < MAX_TIMEOUTS) is a.few in grind (arith, nat_tests, more, few)

        by_count : (b : Bool) → nat_lt (n + 1) MAX_TIMEOUTS ≡ b
            → TargetAt plan copier at piece (WasLate x ∷ notes) place (cond {A = TargetStep} b (goes_on_with (at_stage t (Out x (n + 1)))) (target_fails t Timeouts)).target
        by_count true less = again_at n here less
        by_count false more = thrown_at (WasLate x ∷ notes) (ap (λ b. b || was_lost t.server notes) (tells_lost n here ∙ last more))
    late_at (KeptOut own) is = absurd (no_kept own is)
    late_at Waits is = absurd (apart (is_out x t.stage) out (ap (is_out x) is))
    late_at KeptBack is = absurd (apart (is_out x t.stage) out (ap (is_out x) is))
    late_at Done is = absurd (apart (is_out x t.stage) out (ap (is_out x) is))
    late_at GivenUp is = absurd (apart (is_out x t.stage) out (ap (is_out x) is))

  -- ---- a piece, and the next one

  -- its call is over: it is as it was for another piece in hand
  pub next_at : (at' : ℕ) (piece' : List ℕ) → is_over t.stage ≡ true → TargetAt plan copier at' piece' notes place t
  next_at at' piece' over = record {
    from = a.from;
    planned = a.planned;
    server = a.server;
    name = a.name;
    replaced = a.replaced;
    few = a.few;
    lost = a.lost;
    out = λ y so. absurd (apart (is_out y t.stage) so (over_not_out y t.stage over));
    stands = by_standing a.stands;
  }
    where
      by_standing : Standing copier at piece notes t → Standing copier at' piece' notes t
      by_standing (Unmade open' none nothing untouched) = absurd (open_over t.stage open' over)
      by_standing (Writing m open' is made taken) = absurd (open_over t.stage open' over)
      by_standing (Holding m done is made taken) = Holding m done is made taken
      by_standing (Lost lost none) = Lost lost none

  -- the source answered
  module _ (x : ℕ) (shown : Option Shown) (eof : Bool) (bytes : List ℕ) (over : is_over t.stage ≡ true)
      (one : pieces_read (WasAnswered x (Bytes shown eof bytes) ∷ notes) ≡ pieces_read notes ++ record { at = at; bytes = bytes; eof = eof } ∷ [])
      (same : was_lost t.server (WasAnswered x (Bytes shown eof bytes) ∷ notes) ≡ was_lost t.server notes) where
    given_up_at : t.stage ≡ GivenUp → t.made ≡ None → TargetAt plan copier at bytes (WasAnswered x (Bytes shown eof bytes) ∷ notes) place t
    given_up_at is none = record {
      from = a.from;
      planned = a.planned;
      server = a.server;
      name = a.name;
      replaced = a.replaced;
      few = a.few;
      lost = a.lost ∙ sym same;
      out = λ y so. absurd (apart (is_out y t.stage) so (over_not_out y t.stage over));
      stands = Lost is none;
    }

    takes_piece : (m : Mirror) (l : List ℕ) → l ≡ bytes → t.stage ≡ Done → t.made ≡ Some m → IsMade copier t.server t.name notes m → writes_taken m.id notes ≡ writes_for (pieces_read notes)
        → TargetAt plan copier at bytes (WasAnswered x (Bytes shown eof bytes) ∷ notes) place (at_stage t (stage_for l))
    takes_piece m l are done is made taken = record {
      from = a.from;
      planned = a.planned;
      server = a.server;
      name = a.name;
      replaced = a.replaced;
      few = few_for l;
      lost = left_for l ∙ sym (ap is_given_up done) ∙ a.lost ∙ sym same;
      out = λ y so. absurd (apart (is_out y (stage_for l)) so (not_out y l));
      stands = by_bytes l are;
    }
      where
        few_for : (k : List ℕ) → timeouts_of (stage_for k) < MAX_TIMEOUTS
        few_for [] = omega arith
        few_for (b ∷ k) = omega arith

        left_for : (k : List ℕ) → is_given_up (stage_for k) ≡ false
        left_for [] = refl
        left_for (b ∷ k) = refl

        not_out : (y : ℕ) (k : List ℕ) → is_out y (stage_for k) ≡ false
        not_out y [] = refl
        not_out y (b ∷ k) = refl

        p : List ℕ → Piece
        p k = record { at = at; bytes = k; eof = eof }

        still : IsMade copier t.server t.name (WasAnswered x (Bytes shown eof bytes) ∷ notes) m
        still = record { server_is = made.server_is; created = made.created; only = made.only; seen = made.seen }

        -- the WRITEs for what was READ
        wanted : writes_for (pieces_read (WasAnswered x (Bytes shown eof bytes) ∷ notes)) ≡ writes_for (pieces_read notes) ++ (write_for (p bytes) bytes ++ [])
        wanted = ap writes_for one ∙ flat_map-append (λ (q : Piece). write_for q q.bytes) (pieces_read notes) (p bytes ∷ [])

        has : writes_taken m.id (WasAnswered x (Bytes shown eof bytes) ∷ notes) ≡ writes_for (pieces_read notes)
        has = append-nil (writes_taken m.id notes) ∙ taken

        by_bytes : (k : List ℕ) → k ≡ bytes → Standing copier at bytes (WasAnswered x (Bytes shown eof bytes) ∷ notes) (at_stage t (stage_for k))
        by_bytes [] none =
            Holding m refl is still
            (has ∙ sym (append-nil (writes_for (pieces_read notes))) ∙ ap (λ (l : List ℕ). writes_for (pieces_read notes) ++ (write_for (p l) l ++ [])) none ∙ sym wanted)
        by_bytes (b ∷ k) some =
            Writing m refl is still
            (ap (λ l. l ++ record { at = at; bytes = bytes } ∷ []) has ∙ ap (λ (l : List ℕ). writes_for (pieces_read notes) ++ record { at = at; bytes = l } ∷ []) (sym some)
            ∙ ap (λ (l : List ℕ). writes_for (pieces_read notes) ++ (write_for (p l) l ++ [])) some ∙ sym wanted)

    pub piece_at : TargetAt plan copier at bytes (WasAnswered x (Bytes shown eof bytes) ∷ notes) place (to_write bytes t)
    piece_at = by_standing a.stands
      where
        by_left : (b : Bool) → is_given_up t.stage ≡ b → TargetAt plan copier at bytes (WasAnswered x (Bytes shown eof bytes) ∷ notes) place (cond b t (at_stage t (stage_for bytes)))
            → TargetAt plan copier at bytes (WasAnswered x (Bytes shown eof bytes) ∷ notes) place (to_write bytes t)
        by_left b is there = subst (λ (k : Bool). TargetAt plan copier at bytes (WasAnswered x (Bytes shown eof bytes) ∷ notes) place (cond k t (at_stage t (stage_for bytes)))) (sym is) there

        by_standing : Standing copier at piece notes t → TargetAt plan copier at bytes (WasAnswered x (Bytes shown eof bytes) ∷ notes) place (to_write bytes t)
        by_standing (Unmade open' none nothing untouched) = absurd (open_over t.stage open' over)
        by_standing (Writing m open' is made taken) = absurd (open_over t.stage open' over)
        by_standing (Holding m done is made taken) = by_left false (ap is_given_up done) (takes_piece m bytes refl done is made taken)
        by_standing (Lost lost none) = by_left true (ap is_given_up lost) (given_up_at lost none)
