use Rattle.std.proofs.Common.{List, sym, ap, ◌∙◌}
use Rattle.std.specs.Prelude.{option_map}
use Rattle.std.specs.List.{find}
use Rattle.recall.specs.declared.kept_recall.KeptRecall.{KeptRecall}
use Rattle.recall.specs.Recalls.{has_expired}
use Rattle.recall.specs.Entries.{grant_in}
use Rattle.recall.proofs.Answered.{told_in, ticks_none, ticks_some}
use Rattle.recall.proofs.recalls.Recalls.tick.Goals as goal

pub returns-in_default : goal.returns-in_default
returns-in_default c =
    let told = sym (told_in c.args.now c.self.inside.entries.items c.args.self.now c.self.view_is) ∙ sym (ap (λ (l : List KeptRecall). option_map grant_in (find (λ e. has_expired c.args.now e.recall) l)) c.as_slice.ensures.value)
    ∙ sym c.expired.ensures ∙ c.in_default.is in
    ticks_none c.args.now c.args.self.now c.wake.new.self told c.wake.ensures

pub returns : goal.returns
returns c =
    let told = sym (told_in c.args.now c.self.inside.entries.items c.args.self.now c.self.view_is) ∙ sym (ap (λ (l : List KeptRecall). option_map grant_in (find (λ e. has_expired c.args.now e.recall) l)) c.as_slice.ensures.value)
    ∙ sym c.expired.ensures ∙ c.in-Some.is in
    ticks_some c.args.now c.args.self.now c.forget.new.self c.wake-2.new.self (c.in-Some.file, c.in-Some.cred) told c.forget.ensures c.wake-2.ensures
