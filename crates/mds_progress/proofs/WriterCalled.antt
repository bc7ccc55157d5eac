-- What a call of an own write that goes out leaves of its calls.
use Rattle.std.proofs.Common.{◌≡◌, ℕ, Bool, true, false, List, [], ◌∷◌, Option, Some, None, refl, sym, ap, ◌∙◌}
use Rattle.std.specs.Prelude.{◌==◌, ◌&&◌, slice_get, slice_set, if◌then◌else◌}
use Rattle.std.specs.List.{list_any}
use Rattle.std.proofs.lemmas.Option.{none-some}
use Rattle.cluster_model.specs.DsCalls.{DsCallValue}
use Rattle.mirror_writer.specs.declared.call.WriterCall.{WriterCall}
use Rattle.mirror_writer.specs.declared.call.WriterCall.TheVariants.{NoCall, OutWrite, OutCommit}
use Rattle.mirror_writer.specs.declared.call.NextCall.{NextCall}
use Rattle.mirror_writer.specs.declared.call.NextCall.TheVariants.{SendsWrite, SendsCommit}
use Rattle.mirror_writer.specs.Writers.{WriterMirror, WriterValue, WriterSends, next_of_call, next_at, next_place, with_out, call_for, sends_as, sends_next, sends_to, sends_at, next_sent, is_call}
use Rattle.mds_progress.specs.FirstOut.{is_called_at}
use Rattle.mds_progress.proofs.Called.{any_here, any_there, both_true, and_false}

-- it is out, to its mirror's server
abbrev pub WriteGoes : ℕ → Option WriterSends → Type 0
WriteGoes xid None = Unit {0}
WriteGoes xid (Some c) = list_any (is_called_at c.id.server xid) c.writer.mirrors ≡ true

-- those that were out stay so
abbrev pub WriteStays : ℕ → ℕ → WriterValue → Option WriterSends → Type 0
WriteStays server own w None = Unit {0}
WriteStays server own w (Some c) = list_any (is_called_at server own) w.mirrors ≡ true → list_any (is_called_at server own) c.writer.mirrors ≡ true

out_is : (xid : ℕ) (m : WriterMirror) (next : NextCall) → is_called_at m.id.server xid (with_out xid next m) ≡ true
out_is xid m (SendsWrite n) = both_true m.id.server xid
out_is xid m SendsCommit = both_true m.id.server xid

-- where a call waits, none is out
idle_call : (wants : Bool) (m : WriterMirror) (next : NextCall) (own : ℕ) (failed : Bool) (call : WriterCall) → (if failed then None else next_of_call wants m call) ≡ Some next → is_call own call ≡ false
idle_call wants m next own true call is = absurd (none-some next is)
idle_call wants m next own false NoCall is = refl
idle_call wants m next own false (OutWrite xid write timeouts) is = absurd (none-some next is)
idle_call wants m next own false (OutCommit xid timeouts) is = absurd (none-some next is)

idle_there : (wants : Bool) (m : WriterMirror) (next : NextCall) (server own : ℕ) → next_at wants m ≡ Some next → is_called_at server own m ≡ false
idle_there wants m next server own is = ap (λ b. (m.id.server == server) && b) (idle_call wants m next own m.has_failed m.call is) ∙ and_false (m.id.server == server)

as_goes : (w : WriterValue) (xid place : ℕ) (m : WriterMirror) (next : NextCall) (o : Option DsCallValue) → slice_get w.mirrors place ≡ Some m → WriteGoes xid (sends_as w xid place m next o)
as_goes w xid place m next None at = tt
as_goes w xid place m next (Some call) at = any_here (is_called_at m.id.server xid) w.mirrors place (with_out xid next m) m at (out_is xid m next)

next_goes : (w : WriterValue) (xid place : ℕ) (m : WriterMirror) (o : Option NextCall) → slice_get w.mirrors place ≡ Some m → WriteGoes xid (sends_next w xid place m o)
next_goes w xid place m None at = tt
next_goes w xid place m (Some next) at = as_goes w xid place m next (call_for w m.id next) at

to_goes : (w : WriterValue) (xid place : ℕ) (o : Option WriterMirror) → slice_get w.mirrors place ≡ o → WriteGoes xid (sends_to w xid place o)
to_goes w xid place None at = tt
to_goes w xid place (Some m) at = next_goes w xid place m (next_at w.wants_commit m) at

at_goes : (w : WriterValue) (xid : ℕ) (o : Option ℕ) → WriteGoes xid (sends_at w xid o)
at_goes w xid None = tt
at_goes w xid (Some place) = to_goes w xid place (slice_get w.mirrors place) refl

pub write_goes : (w : WriterValue) (xid : ℕ) → WriteGoes xid (next_sent w xid)
write_goes w xid = at_goes w xid (next_place w)

as_stays : (server own : ℕ) (w : WriterValue) (xid place : ℕ) (m : WriterMirror) (next : NextCall) (o : Option DsCallValue) → slice_get w.mirrors place ≡ Some m → is_called_at server own m ≡ false → WriteStays server own w (sends_as w xid place m next o)
as_stays server own w xid place m next None at off = tt
as_stays server own w xid place m next (Some call) at off = any_there (is_called_at server own) w.mirrors place (with_out xid next m) m at off

next_stays : (server own : ℕ) (w : WriterValue) (xid place : ℕ) (m : WriterMirror) (o : Option NextCall) → slice_get w.mirrors place ≡ Some m → next_at w.wants_commit m ≡ o → WriteStays server own w (sends_next w xid place m o)
next_stays server own w xid place m None at is = tt
next_stays server own w xid place m (Some next) at is = as_stays server own w xid place m next (call_for w m.id next) at (idle_there w.wants_commit m next server own is)

to_stays : (server own : ℕ) (w : WriterValue) (xid place : ℕ) (o : Option WriterMirror) → slice_get w.mirrors place ≡ o → WriteStays server own w (sends_to w xid place o)
to_stays server own w xid place None at = tt
to_stays server own w xid place (Some m) at = next_stays server own w xid place m (next_at w.wants_commit m) at refl

at_stays : (server own : ℕ) (w : WriterValue) (xid : ℕ) (o : Option ℕ) → WriteStays server own w (sends_at w xid o)
at_stays server own w xid None = tt
at_stays server own w xid (Some place) = to_stays server own w xid place (slice_get w.mirrors place) refl

pub write_stays : (server own : ℕ) (w : WriterValue) (xid : ℕ) → WriteStays server own w (next_sent w xid)
write_stays server own w xid = at_stays server own w xid (next_place w)
