-- What a line comes to in the code: nothing, the setup, or an event.
use Rattle.std.proofs.Common.{◌≡◌, ◌≢◌, ℕ, Bool, true, false, List, [], ◌∷◌, Option, Some, None, Result, Err, refl, sym, ap, subst, ◌∙◌, ◌==◌, if◌then◌else◌}
use Rattle.std.specs.Option.{option_map}
use Rattle.std.specs.Prelude.{IfSome}
use Rattle.std.proofs.lemmas.Bool.{cond-true, cond-false}
use Rattle.ff_xdr.specs.declared.error.NoMemory.{NoMemory}
use Rattle.cluster_model.specs.Event.{EventValue}
use Rattle.line_runs.specs.declared.end.LineStep.{LineStep}
use Rattle.world_journal.specs.declared.fault.WorldFault.{WorldFault}
use Rattle.ff_world.specs.World.{WorldValue}
use Rattle.journal_print.specs.declared.mode.Mode.{Mode}
use Rattle.ff_replay.specs.declared.setup.Setup.{Setup}
use Rattle.ff_replay.specs.declared.line.Line.{Line}
use Rattle.ff_replay.specs.Script.{ScriptWorld, SaysNothing, SetsUp, Happens, words_in, line_in, world_of, setup_of, setup_of_world}
use Rattle.ff_replay.specs.Player.{Outside, is_comment, played_by, played, event_played, line_said, IsLineOf, PlayerState, GoesFrom, PlayerPlays}
use Rattle.ff_replay.proofs.PlayLemmas.{prints_none}

pub comment_says : (setup : Option Setup) (line : List ℕ) → is_comment line ≡ true → line_in setup line ≡ Some SaysNothing
comment_says setup [] is = refl
comment_says setup (c ∷ rest) is = cond-true (c == 35) (Some SaysNothing) (words_in setup (c ∷ rest)) is

pub words_say : (setup : Option Setup) (line : List ℕ) → is_comment line ≡ false → line_in setup line ≡ words_in setup line
words_say setup [] is = absurd (cc (is))
words_say setup (c ∷ rest) is = cond-false (c == 35) (Some SaysNothing) (words_in setup (c ∷ rest)) is

-- what says nothing leaves all as it is
pub goes_nowhere : (mode : Mode) (p : PlayerState) (line : List ℕ) → p.spent ≡ None → line_in (setup_of p.stage) line ≡ Some SaysNothing → GoesFrom mode p (played p.stage line) false p
goes_nowhere mode p line fresh is = record {
  next = p.stage;
  entries = [];
  is = ap (played_by p.stage) is;
  now = (λ i. record { stage = p.stage; spent = fresh i; trace = prints_none mode p.trace [] refl i });
}

-- ---- a line that was read

pub read_so : (setup : Option Setup) (line : List ℕ) (r : Option Line) → option_map line_said r ≡ line_in setup line → (q : Option Line) → r ≡ q → line_in setup line ≡ option_map line_said q
read_so setup line r said q is = sym said ∙ ap (option_map line_said) is

-- it is one that may stand there
pub fits_so : (setup : Option Setup) (r : Option Line) → IfSome r (λ l. IsLineOf setup l) → (l : Line) → r ≡ Some l → IsLineOf setup l
fits_so setup r fits l is = subst (λ q. IfSome q (λ k. IsLineOf setup k)) is fits

-- the setup is chosen
pub sets_up : (mode : Mode) (old new : PlayerState) (line : List ℕ) (setup : Setup) → line_in None line ≡ Some (SetsUp setup)
    → new.stage ≡ Some (world_of setup) → new.spent ≡ None → new.trace ≡ old.trace → GoesFrom mode old (played None line) false new
sets_up mode old new line setup said stage spent trace = record {
  next = Some (world_of setup);
  entries = [];
  is = ap (played_by None) said;
  now = (λ i. record { stage = stage i; spent = spent i; trace = (trace ∙ prints_none mode old.trace [] refl) i });
}

-- an event of a world
pub plays_event : (mode : Mode) (p : PlayerState) (w : ScriptWorld) (line : List ℕ) (event : EventValue) (r : Result LineStep NoMemory) (new : PlayerState) → line_in (Some (setup_of_world w)) line ≡ Some (Happens event)
    → PlayerPlays mode p (event_played w event) r new → PlayerPlays mode p (played (Some w) line) r new
plays_event mode p w line event r new is plays = subst (λ s. PlayerPlays mode p (played_by (Some w) s) r new) (sym is) plays

-- ---- a world that is spent

pub stays : (old next : WorldValue) (r : Result (Unit {0}) WorldFault) → ((fault : WorldFault) → old.spent ≡ Some fault → (r ≡ Err fault) × (next ≡ old)) → old.spent ≢ None → next ≡ old
stays old next r spent some = by_spent old.spent refl
  where
    by_spent : (o : Option WorldFault) → old.spent ≡ o → next ≡ old
    by_spent None is = absurd (some is)
    by_spent (Some fault) is = (spent fault is).1
