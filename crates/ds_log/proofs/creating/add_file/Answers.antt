use Rattle.std.proofs.Common.{◌≡◌, ◌++◌, ◌∷◌, []}
use Rattle.ds_log.proofs.LastingLemmas.{lasting_file, added_keeps}
use Rattle.ds_log.proofs.creating.add_file.Goals as goal

pub returns-clause-keeps : goal.returns-clause-keeps
returns-clause-keeps c =
    let new = c.args.new.now in
    let files : c.push.new.self.items ≡ c.args.files.now.items ++ lasting_file new.owner new.group new.mode c.args.times ∷ [] = cc (c.in_ok-push.ensures.items, c.in_ok-reserve.ensures.items, c.with_times-file.ensures) in
    rw (files, c.in_ok-add.ensures.ok) (added_keeps c.args.head.now c.args.files.now.items new.name.now new.owner new.group new.mode c.args.times c.requires.lasting c.requires.may c.requires.mode c.requires.begun)

pub returns-in_err-add-clause-keeps : goal.returns-in_err-add-clause-keeps
returns-in_err-add-clause-keeps c = rw (c.in_ok-reserve.ensures.items, c.in_err-add.ensures.err) c.requires.lasting
