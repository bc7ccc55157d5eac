-- A record is appended: it is written behind the last gate byte, and becomes part of the log.
use Rattle.std.proofs.Common.{◌≡◌, ℕ, List, [], ◌∷◌, ◌++◌, Option, Some, None, Result, Ok, Err, inl, refl, arith, subst}
use Rattle.rpc_record.specs.declared.stream.Failed.{Failed}
use Rattle.store_disk.specs.Disks.{DiskLife, LeavesSince}
use Rattle.store_disk.proofs.Images.{images_of}
use Rattle.store_disk.proofs.Leaving.{since_both, since_weaker}
use Rattle.gate_log.specs.Appends.{Appends, HasEither, HoldsLog, KeepsLog}
use Rattle.gate_log.specs.Staging.{HasBodies, IsSameToGate, SealsLog, Stages, StagesLog, StagesMore}

-- an append that did not end
pub appends_in_part : (old : Option DiskLife) (bodies : List (List ℕ)) (body : List ℕ) (result : Result ℕ Failed) (e : Failed) (new : Option DiskLife) → result ≡ Err e
    → LeavesSince old new (HasEither bodies (bodies ++ body ∷ [])) → Appends old bodies body result new
appends_in_part old bodies body result e new is h = record { crash = h; kept = λ end ok. absurd (cc (is, ok)) }

-- none waits in a log that is synced
none_waits : (life : DiskLife) (bodies : List (List ℕ)) (end : ℕ) → KeepsLog life bodies end → StagesLog life bodies [] end end
none_waits life bodies end keeps = record {
  log = keeps.log;
  end_is = keeps.end_is;
  closed = keeps.closed;
  waiting = refl;
  at_is = omega arith;
  within = keeps.within;
  short = tt;
  left = images_of (IsSameToGate life.now.seen end) life.now life.now.seen keeps.synced refl;
}

pub begins : (told : Option DiskLife) (bodies : List (List ℕ)) (end : ℕ) → HoldsLog told bodies end → Stages told bodies [] end end
begins None bodies end h = tt
begins (Some life) bodies end h = none_waits life bodies end h

module _ (old : Option DiskLife) (bodies : List (List ℕ)) (body : List ℕ) (end : ℕ) where
  abbrev Left : List ℕ → Type 0
  Left = HasEither bodies (bodies ++ body ∷ [])

  pub staged_first : (result : Result ℕ Failed) (new : Option DiskLife) → StagesMore old bodies [] body end result new → LeavesSince old new Left
  staged_first result new more = since_weaker (HasBodies bodies) Left old new (λ left h. inl h) more.crash

  module _ (next : ℕ) (staged : Option DiskLife) (more : StagesMore old bodies [] body end (Ok next) staged) where
    pub waits_now : Stages staged bodies (body ∷ []) end next
    waits_now = more.kept next refl

    pub seal_since : (result : Result (Unit {0}) Failed) (new : Option DiskLife) → SealsLog staged bodies (body ∷ []) next result new → LeavesSince old new Left
    seal_since result new seals = since_both Left old staged new (staged_first (Ok next) staged more) seals.crash

    pub appended : (x : Unit {0}) (new : Option DiskLife) → SealsLog staged bodies (body ∷ []) next (Ok x) new → Appends old bodies body (Ok next) new
    appended x new seals = record {
      crash = seal_since (Ok x) new seals;
      kept = λ at ok. subst (HoldsLog new (bodies ++ body ∷ [])) (same_ok next at ok) (seals.kept x refl);
    }
      where
        same_ok : (n m : ℕ) → ◌≡◌ {A = Result ℕ Failed} (Ok n) (Ok m) → n ≡ m
        same_ok n m is = cc (is)
