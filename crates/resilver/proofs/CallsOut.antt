-- What the notes say of the call that is out under a number, and what one more note changes.
use Rattle.std.proofs.Common.{◌≡◌, ◌≢◌, ℕ, ◌+◌, Bool, true, false, cond, List, [], ◌∷◌, Option, Some, None, refl, sym, ap, ◌∙◌}
use Rattle.std.specs.Prelude.{◌==◌, ◌||◌, nat_lt}
use Rattle.std.proofs.lemmas.Option.{none-some}
use Rattle.cluster_model.specs.declared.limits.TheConstants.{MAX_TIMEOUTS}
use Rattle.cluster_model.specs.declared.ids.Mirror.{Mirror}
use Rattle.cluster_model.specs.DsCalls.{DsCallValue, Create, SetAttr, Write, Commit, Read, DsReplyValue, Created, Set, Written, Committed, Bytes, NotSync, Failed}
use Rattle.copy_rule.specs.Copies.{target_call}
use Rattle.resilver.specs.CopyLaws.{CopyNote, WasSent, WasAnswered, WasLate, HasTicked, CopyCallOut, was_sent, call_out, late_once, is_read, piece_of_call, piece_in}
use Rattle.resilver.proofs.Lists.{not_equal, equal}

-- a READ is out
abbrev pub reads_out : Option CopyCallOut → Bool
reads_out None = false
reads_out (Some o) = is_read o.call

pub not_sent : (notes : List CopyNote) (x : ℕ) → was_sent notes x ≡ false → call_out notes x ≡ None
not_sent [] x is = refl
not_sent (WasSent server own call ∷ before) x is = by_test (own == x) is (not_sent before x)
  where
    by_test : (b : Bool) → (b || was_sent before x) ≡ false → (was_sent before x ≡ false → call_out before x ≡ None)
        → cond {A = Option CopyCallOut} b (Some (record { server = server; call = call; timeouts = 0 })) (call_out before x) ≡ None
    by_test true is more = absurd cc
    by_test false is more = more is
not_sent (WasAnswered own reply ∷ before) x is = by_test (own == x) (not_sent before x is)
  where
    by_test : (b : Bool) → call_out before x ≡ None → cond {A = Option CopyCallOut} b None (call_out before x) ≡ None
    by_test true none = refl
    by_test false none = none
not_sent (WasLate own ∷ before) x is = by_test (own == x) (not_sent before x is)
  where
    by_test : (b : Bool) → call_out before x ≡ None → cond {A = Option CopyCallOut} b (late_once (call_out before x)) (call_out before x) ≡ None
    by_test true none = ap late_once none
    by_test false none = none
not_sent (HasTicked ∷ before) x is = not_sent before x is

-- a number of which none was sent is no number of a call that is out
pub fresh_other : (notes : List CopyNote) (x y : ℕ) (o : CopyCallOut) → was_sent notes x ≡ false → call_out notes y ≡ Some o → x ≢ y
fresh_other notes x y o fresh out same = none-some o (sym (not_sent notes x fresh) ∙ ap (call_out notes) same ∙ out)

pub sent_other : (notes : List CopyNote) (server x y : ℕ) (call : DsCallValue) → x ≢ y → call_out (WasSent server x call ∷ notes) y ≡ call_out notes y
sent_other notes server x y call other = ap (λ (b : Bool). cond {A = Option CopyCallOut} b (Some (record { server = server; call = call; timeouts = 0 })) (call_out notes y)) (not_equal x y other)

pub sent_same : (notes : List CopyNote) (server x y : ℕ) (call : DsCallValue) → x ≡ y → call_out (WasSent server x call ∷ notes) y ≡ Some (record { server = server; call = call; timeouts = 0 })
sent_same notes server x y call same = ap (λ (b : Bool). cond {A = Option CopyCallOut} b (Some (record { server = server; call = call; timeouts = 0 })) (call_out notes y)) (equal x y same)

pub answered_other : (notes : List CopyNote) (x y : ℕ) (reply : DsReplyValue) → x ≢ y → call_out (WasAnswered x reply ∷ notes) y ≡ call_out notes y
answered_other notes x y reply other = ap (λ (b : Bool). cond {A = Option CopyCallOut} b None (call_out notes y)) (not_equal x y other)

pub answered_same : (notes : List CopyNote) (x y : ℕ) (reply : DsReplyValue) → x ≡ y → call_out (WasAnswered x reply ∷ notes) y ≡ None
answered_same notes x y reply same = ap (λ (b : Bool). cond {A = Option CopyCallOut} b None (call_out notes y)) (equal x y same)

pub late_other : (notes : List CopyNote) (x y : ℕ) → x ≢ y → call_out (WasLate x ∷ notes) y ≡ call_out notes y
late_other notes x y other = ap (λ (b : Bool). cond {A = Option CopyCallOut} b (late_once (call_out notes y)) (call_out notes y)) (not_equal x y other)

pub late_same : (notes : List CopyNote) (x y : ℕ) → x ≡ y → call_out (WasLate x ∷ notes) y ≡ late_once (call_out notes y)
late_same notes x y same = ap (λ (b : Bool). cond {A = Option CopyCallOut} b (late_once (call_out notes y)) (call_out notes y)) (equal x y same)

-- ---- READs

pub reads_late : (o : Option CopyCallOut) → reads_out o ≡ false → reads_out (late_once o) ≡ false
reads_late None is = refl
reads_late (Some o) is = by_read (is_read o.call) refl
  where
    by_count : (b : Bool) → reads_out (cond {A = Option CopyCallOut} b (Some (record { server = o.server; call = o.call; timeouts = o.timeouts + 1 })) None) ≡ false
    by_count true = is
    by_count false = refl

    by_read : (b : Bool) → is_read o.call ≡ b
        → reads_out (cond {A = Option CopyCallOut} b (Some o) (cond {A = Option CopyCallOut} (nat_lt (o.timeouts + 1) MAX_TIMEOUTS) (Some (record { server = o.server; call = o.call; timeouts = o.timeouts + 1 })) None)) ≡ false
    by_read true reads = absurd cc
    by_read false reads = by_count (nat_lt (o.timeouts + 1) MAX_TIMEOUTS)

-- no READ is out under any number but those for which one was before
pub reads_sent : (notes : List CopyNote) (server x y : ℕ) (call : DsCallValue) → is_read call ≡ false → reads_out (call_out notes y) ≡ false → reads_out (call_out (WasSent server x call ∷ notes) y) ≡ false
reads_sent notes server x y call other is = by_test (x == y)
  where
    by_test : (b : Bool) → reads_out (cond {A = Option CopyCallOut} b (Some (record { server = server; call = call; timeouts = 0 })) (call_out notes y)) ≡ false
    by_test true = other
    by_test false = is

pub reads_answered : (notes : List CopyNote) (x y : ℕ) (reply : DsReplyValue) → reads_out (call_out notes y) ≡ false → reads_out (call_out (WasAnswered x reply ∷ notes) y) ≡ false
reads_answered notes x y reply is = by_test (x == y)
  where
    by_test : (b : Bool) → reads_out (cond {A = Option CopyCallOut} b None (call_out notes y)) ≡ false
    by_test true = refl
    by_test false = is

pub reads_timed_out : (notes : List CopyNote) (x y : ℕ) → reads_out (call_out notes y) ≡ false → reads_out (call_out (WasLate x ∷ notes) y) ≡ false
reads_timed_out notes x y is = by_test (x == y)
  where
    by_test : (b : Bool) → reads_out (cond {A = Option CopyCallOut} b (late_once (call_out notes y)) (call_out notes y)) ≡ false
    by_test true = reads_late (call_out notes y) is
    by_test false = is

pub no_read : (copier at : ℕ) (piece : List ℕ) (name : ℕ) (made : Option Mirror) → is_read (target_call copier at piece name made) ≡ false
no_read copier at piece name None = refl
no_read copier at piece name (Some m) = refl

piece_of_none : (call : DsCallValue) (bytes : List ℕ) (eof : Bool) → is_read call ≡ false → piece_of_call call bytes eof ≡ []
piece_of_none (Read fileid at count) bytes eof is = absurd cc
piece_of_none (Create name owner) bytes eof is = refl
piece_of_none (SetAttr fileid owner guard) bytes eof is = refl
piece_of_none (Write fileid at synced written) bytes eof is = refl
piece_of_none (Commit fileid) bytes eof is = refl

-- what is no answer to a READ brings no piece
pub piece_none : (reply : DsReplyValue) (o : Option CopyCallOut) → reads_out o ≡ false → piece_in reply o ≡ []
piece_none (Bytes shown eof bytes) (Some o) is = piece_of_none o.call bytes eof is
piece_none (Bytes shown eof bytes) None is = refl
piece_none (Created fileid shown) o is = refl
piece_none (Set shown) o is = refl
piece_none (Written shown verifier) o is = refl
piece_none (Committed shown verifier) o is = refl
piece_none (NotSync shown) o is = refl
piece_none (Failed status shown) o is = refl
