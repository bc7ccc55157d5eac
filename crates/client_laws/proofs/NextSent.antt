-- How a call that goes out to a mirror came to be.
use Rattle.std.proofs.Common.{◌≡◌, ℕ, Option, Some, None, refl, sym, ap, ◌∙◌}
use Rattle.std.specs.Prelude.{slice_get, slice_set}
use Rattle.std.proofs.lemmas.Option.{none-some, same_Some}
use Rattle.cluster_model.specs.DsCalls.{DsCallValue}
use Rattle.mirror_writer.specs.declared.call.NextCall.{NextCall}
use Rattle.mirror_writer.specs.Writers.{WriterMirror, WriterValue, WriterSends, with_out, with_writer_mirrors, next_at, next_place, next_sent, sends_at, sends_to, sends_next, sends_as, call_for}

pub record Sending (s : WriterValue) (xid : ℕ) (sends : WriterSends) : Type 0 where
  pub place : ℕ
  pub mirror : WriterMirror
  pub found : slice_get s.mirrors place ≡ Some mirror
  pub next : NextCall
  pub next_is : next_at s.wants_commit mirror ≡ Some next
  pub call_is : call_for s mirror.id next ≡ Some sends.call
  pub id_is : mirror.id ≡ sends.id
  pub writer_is : sends.writer ≡ with_writer_mirrors s (slice_set s.mirrors place (with_out xid next mirror))

pub sending : (s : WriterValue) (xid : ℕ) (sends : WriterSends) → next_sent s xid ≡ Some sends → Sending s xid sends
sending s xid sends is = by_place (next_place s) is
  where
    by_call : (at : ℕ) (m : WriterMirror) → slice_get s.mirrors at ≡ Some m → (next : NextCall) → next_at s.wants_commit m ≡ Some next → (call : Option DsCallValue) → call_for s m.id next ≡ call
        → sends_as s xid at m next call ≡ Some sends → Sending s xid sends
    by_call at m found next waits None called is = absurd (none-some sends is)
    by_call at m found next waits (Some call) called is =
        let same : ◌≡◌ {A = WriterSends} (record { writer = with_writer_mirrors s (slice_set s.mirrors at (with_out xid next m)); id = m.id; call = call }) sends = same_Some _ sends is in
        record {
          place = at;
          mirror = m;
          found = found;
          next = next;
          next_is = waits;
          call_is = called ∙ ap (λ (x : WriterSends). Some x.call) same;
          id_is = ap (λ (x : WriterSends). x.id) same;
          writer_is = sym (ap (λ (x : WriterSends). x.writer) same);
        }

    by_next : (at : ℕ) (m : WriterMirror) → slice_get s.mirrors at ≡ Some m → (next : Option NextCall) → next_at s.wants_commit m ≡ next → sends_next s xid at m next ≡ Some sends → Sending s xid sends
    by_next at m found None waits is = absurd (none-some sends is)
    by_next at m found (Some next) waits is = by_call at m found next waits (call_for s m.id next) refl is

    by_mirror : (at : ℕ) (o : Option WriterMirror) → slice_get s.mirrors at ≡ o → sends_to s xid at o ≡ Some sends → Sending s xid sends
    by_mirror at None found is = absurd (none-some sends is)
    by_mirror at (Some m) found is = by_next at m found (next_at s.wants_commit m) refl is

    by_place : (o : Option ℕ) → sends_at s xid o ≡ Some sends → Sending s xid sends
    by_place None is = absurd (none-some sends is)
    by_place (Some at) is = by_mirror at (slice_get s.mirrors at) refl is
