use Rattle.std.proofs.Common.{ap, sym, subst, ◌∙◌, Bool, Some, None, List}
use Rattle.std.specs.Prelude.{slice_get}
use Rattle.std.specs.List.{position}
use Rattle.mirror_writer.specs.Writers.{WriterValue, next_at, is_some_call}
use Rattle.mirror_writer.specs.Rooms.{RoomyMirror, mirrors_shown}
use Rattle.mirror_writer.specs.MirrorSteps.{NextOf}
use Rattle.mirror_writer.specs.Calls.{IsGone}
use Rattle.mirror_writer.proofs.WriterSteps.{position_shown, first_place, none_first, to_send_none, to_send_gone, to_send_some}
use Rattle.mirror_writer.proofs.writer.Writer.to_send.Goals as goal

pub returns-in_default : goal.returns-in_default
returns-in_default c =
    let w = c.self.inside in
    let s : WriterValue = record { cred = w.cred.0; taken = w.taken.items; mirrors = mirrors_shown w.mirrors.items; wants_commit = w.wants_commit; is_fenced = w.is_fenced } in
    let at = sym (position_shown (λ m. is_some_call (next_at w.wants_commit m)) w.mirrors.items) ∙ sym (ap (position (λ r. is_some_call (next_at w.wants_commit r.mirror))) c.deref.ensures.value) ∙ sym c.waiting.ensures.found in
    rw (← c.self.view_is) (λ xid. none_first s xid (first_place s None c.if-self.false (at ∙ c.in_default.is)))

pub returns-in_default-next_of : goal.returns-in_default-next_of
returns-in_default-next_of c =
    let w = c.self.inside in
    let s : WriterValue = record { cred = w.cred.0; taken = w.taken.items; mirrors = mirrors_shown w.mirrors.items; wants_commit = w.wants_commit; is_fenced = w.is_fenced } in
    let at = sym (position_shown (λ m. is_some_call (next_at w.wants_commit m)) w.mirrors.items) ∙ sym (ap (position (λ r. is_some_call (next_at w.wants_commit r.mirror))) c.deref.ensures.value) ∙ sym c.waiting.ensures.found in
    let first = first_place s (Some c.in-Some.place) c.if-self.false (at ∙ c.in-Some.is) in
    let says = subst (λ (rs : List RoomyMirror). NextOf w.wants_commit (slice_get (mirrors_shown rs) c.in-Some.place) c.next_of.result) c.deref-2.ensures.value c.next_of.ensures in
    rw (← c.self.view_is) (λ xid. to_send_none s xid c.in-Some.place c.next_of.result first c.in_default-next_of.is says)

pub returns-then-is_gone : goal.returns-then-is_gone
returns-then-is_gone c =
    let w = c.self.inside in
    let s : WriterValue = record { cred = w.cred.0; taken = w.taken.items; mirrors = mirrors_shown w.mirrors.items; wants_commit = w.wants_commit; is_fenced = w.is_fenced } in
    let at = sym (position_shown (λ m. is_some_call (next_at w.wants_commit m)) w.mirrors.items) ∙ sym (ap (position (λ r. is_some_call (next_at w.wants_commit r.mirror))) c.deref.ensures.value) ∙ sym c.waiting.ensures.found in
    let first = first_place s (Some c.in-Some.place) c.if-self.false (at ∙ c.in-Some.is) in
    let says = subst (λ (rs : List RoomyMirror). NextOf w.wants_commit (slice_get (mirrors_shown rs) c.in-Some.place) c.next_of.result) c.deref-2.ensures.value c.next_of.ensures in
    let gone = subst (λ (b : Bool). IsGone s c.in-Some-next_of.next b) c.if-is_gone.true (subst (λ (v : WriterValue). IsGone v c.in-Some-next_of.next c.is_gone.result) (sym c.self.view_is) c.is_gone.ensures) in
    rw (← c.self.view_is) (λ xid. to_send_gone s xid c.in-Some.place c.next_of.result c.in-Some-next_of.id c.in-Some-next_of.next first c.in-Some-next_of.is gone says)

pub returns : goal.returns
returns c =
    let w = c.self.inside in
    let s : WriterValue = record { cred = w.cred.0; taken = w.taken.items; mirrors = mirrors_shown w.mirrors.items; wants_commit = w.wants_commit; is_fenced = w.is_fenced } in
    let at = sym (position_shown (λ m. is_some_call (next_at w.wants_commit m)) w.mirrors.items) ∙ sym (ap (position (λ r. is_some_call (next_at w.wants_commit r.mirror))) c.deref.ensures.value) ∙ sym c.waiting.ensures.found in
    let first = first_place s (Some c.in-Some.place) c.if-self.false (at ∙ c.in-Some.is) in
    let says = subst (λ (rs : List RoomyMirror). NextOf w.wants_commit (slice_get (mirrors_shown rs) c.in-Some.place) c.next_of.result) c.deref-2.ensures.value c.next_of.ensures in
    let there = subst (λ (b : Bool). IsGone s c.in-Some-next_of.next b) c.if-is_gone.false (subst (λ (v : WriterValue). IsGone v c.in-Some-next_of.next c.is_gone.result) (sym c.self.view_is) c.is_gone.ensures) in
    rw (← c.self.view_is) (to_send_some s c.in-Some.place c.next_of.result c.in-Some-next_of.id c.in-Some-next_of.next first c.in-Some-next_of.is there says)
