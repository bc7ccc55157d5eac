-- A step of one read of a file, and what becomes of the others.
use Rattle.std.proofs.Common.{◌≡◌, ℕ, zero, suc, List, [], ◌∷◌, length, set, get_or, Option, Some, None, Ok, refl, sym, ap, subst, ◌∙◌}
use Rattle.std.specs.Prelude.{position, remove, slice_get}
use Rattle.std.proofs.lemmas.Option.{slice_get_read}
use Rattle.std.proofs.lemmas.List.Quantifiers.{position-Some}
use Rattle.cluster_model.proofs.Elements.{slice_get-set_same}
use Rattle.cluster_model.specs.declared.entry.Entry.{Entry}
use Rattle.mds_io.specs.declared.read_end.ReadEnd.{ReadEnd}
use Rattle.mds_io.specs.Reads.{ReadState, ReadAfter}
use Rattle.mds_rule.specs.MdsStates.{CompoundRun, WaitingRead}
use Rattle.mds_rule.specs.Answers.{is_read_out}
use Rattle.served_files.specs.declared.reading.EndedRead.{EndedRead}
use Rattle.served_files.specs.Waiting.{StepsOne, EndedAt, EndedAtPlace, ReadEndsAs, StepsRead, StepsReadFrom, StepsReadAt, reads_left}
use Rattle.served_files.proofs.ReadLists.{waiting_as}

remove_set : (reads : List WaitingRead) (place : ℕ) (w : WaitingRead) → remove (set reads place w) place ≡ remove reads place
remove_set [] place w = refl
remove_set (r ∷ reads) zero w = refl
remove_set (r ∷ reads) (suc place) w = ap (λ rest. r ∷ rest) (remove_set reads place w)

-- it has ended or not
left : (old new : List WaitingRead) (place : ℕ) (w : WaitingRead) (c : CompoundRun) (read : ReadState) (end : Option ReadEnd) (result : Option EndedRead) (r : WaitingRead)
    → r.compound ≡ c → w ≡ waiting_as r.compound read → EndedAtPlace (set old place w) place end result new (Some w)
    → (new ≡ reads_left old place r read end) × ReadEndsAs end r.compound result
left old new place w c read None result r same is ends = (ends.1 ∙ ap (set old place) is, subst (ReadEndsAs None r.compound) (sym ends.0) tt)
left old new place w c read (Some by) result r same is ends =
    (ends.0 ∙ remove_set old place w, subst (λ (d : CompoundRun). ReadEndsAs (Some by) d result) (ap (λ (w : WaitingRead). w.compound) is) ends.1)

-- the read whose call has this number was stepped
pub steps_read : (step : ReadState → ReadAfter) (old new : List WaitingRead) (entries entries' : List Entry) (xid place : ℕ) (r w : WaitingRead) (end : Option ReadEnd) (result : Option EndedRead)
    → position (is_read_out xid) old ≡ Some place → r ≡ get_or old place r → StepsOne (step r.read) r entries (Ok end) w entries'
    → EndedAt (set old place w) place end result new → StepsRead old entries xid step (Ok result) new entries'
steps_read step old new entries entries' xid place r w end result is item one ends =
    let at : slice_get old place ≡ Some r = slice_get_read old (length old) place r refl (position-Some (is_read_out xid) old place r is).0 item in
    let there : EndedAtPlace (set old place w) place (step r.read).end result new (Some w) =
    subst (λ (e : Option ReadEnd). EndedAtPlace (set old place w) place e result new (Some w)) one.2
    (subst (λ (o : Option WaitingRead). EndedAtPlace (set old place w) place end result new o) (slice_get-set_same old place r w at) ends) in
    let both = left old new place w r.compound (step r.read).read (step r.read).end result r refl one.0 there in
    subst (λ (o : Option ℕ). StepsReadFrom old entries step result new entries' o) (sym is)
    (subst (λ (o : Option WaitingRead). StepsReadAt old entries step place result new entries' o) (sym at) (both.0, one.1, both.1))
