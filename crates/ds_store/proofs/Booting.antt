-- The next boot of a server is logged.
use Rattle.std.proofs.Common.{◌≡◌, ℕ, ◌+◌, ◌^◌, ◌<◌, true, false, ltb, eqb, List, [], ◌∷◌, ◌++◌, length, drop, map, replicate, Option, Some, None, Result, Ok, Err, ◌⊎◌, inl, inr, refl, sym, ap, subst, ◌∙◌, arith}
use Rattle.std.proofs.lemmas.Bool.{cond_both, lt-ltb}
use Rattle.std.proofs.lemmas.Option.{same_Some}
use Rattle.rpc_record.specs.declared.stream.Failed.{Failed}
use Rattle.cluster_model.specs.File.{StoredFile, restarted}
use Rattle.cluster_model.specs.Server.{ServerState, files_restarted, server_restarted, restart_of, max_boot}
use Rattle.store_disk.specs.Disks.{DiskLife}
use Rattle.store_disk.proofs.Leaving.{since_none, since_same}
use Rattle.twin_log.specs.Twins.{TwinLog, New, Has, Bad, at_side, opposite}
use Rattle.twin_log.specs.KeptLogs.{IsPassed, KeptLogState, StandsTwin, next_generation}
use Rattle.twin_log.specs.LogCalls.{AppendsTwin}
use Rattle.twin_log.proofs.Sides.{own_same}
use Rattle.ds_log.specs.Bodies.{Boots}
use Rattle.ds_log.specs.Durable.{applied_as, applied_bytes, durable, played, start_of, unbooted}
use Rattle.ds_snapshot.specs.Snapshots.{body_text}
use Rattle.ds_snapshot.proofs.Written as written
use Rattle.ds_store.specs.Kept.{LeavesBoth, LogsStep, SaysEither, SaysServer, said_by}
use Rattle.ds_store.specs.Renewals.{Renews, SaysRenewed}
use Rattle.ds_store.specs.Opens.{SaysBooting}
use Rattle.ds_store.specs.Reading.{HasLasting, HasSaid, SaysBoot, is_of_none}
use Rattle.ds_store.proofs.BothDisks.{OwnSays, both_since, both_weaker, log_of, own_now, other_now, says_renewed, says_together}
use Rattle.ds_store.proofs.Appending.{append_since, longer}

-- ---- its record

-- what stands before the body
pub boot_front : (none raw : List ℕ) → none ≡ [] → raw ≡ none ++ replicate 5 0 → raw ≡ replicate 5 0
boot_front none raw is head = head ∙ ap (λ (o : List ℕ). o ++ replicate 5 0) is

pub boot_short : (boot : ℕ) (raw new : List ℕ) → raw ≡ replicate 5 0 → new ≡ raw ++ body_text (Boots boot) → length new < 2 ^ 32 + 5
boot_short boot raw new front text = written.framed_short (Boots boot) raw new (written.boot_short boot) (ap length front) text

pub says_boot : (boot : ℕ) (raw new gated : List ℕ) → boot < 2 ^ 32 → raw ≡ replicate 5 0 → new ≡ raw ++ body_text (Boots boot) → gated ≡ drop 5 new → SaysBoot boot gated
says_boot boot raw new gated fits front text is = record { body = written.framed_body (Boots boot) raw new gated fits front text is }

-- ---- what is logged of it

files_again : (fileid : ℕ) (files : List StoredFile) → map (λ (f : StoredFile). restarted f []) (files_restarted fileid files []) ≡ map (λ (f : StoredFile). restarted f []) files
files_again fileid [] = refl
files_again fileid (f ∷ files) = ap (λ (fs : List StoredFile). restarted f [] ∷ fs) (files_again (fileid + 1) files)

restarts_as : (said next : ServerState) → restart_of said [] ≡ Some next → next ≡ server_restarted said []
restarts_as said next =
    cond_both (eqb said.clock.boot max_boot) None (Some (server_restarted said [])) (λ (o : Option ServerState). o ≡ Some next → next ≡ server_restarted said [])
    (λ spent e. absurd (cc (e))) (λ left e. sym (same_Some (server_restarted said []) next e))

boot_next : (said next : ServerState) → restart_of said [] ≡ Some next → next.clock.boot ≡ said.clock.boot + 1
boot_next said next starts = ap (λ (s : ServerState). s.clock.boot) (restarts_as said next starts)

-- what lasts of it is what lasted, in the next boot
boot_lasts : (said next : ServerState) → durable said ≡ said → restart_of said [] ≡ Some next → durable next ≡ record said { clock = start_of (said.clock.boot + 1) }
boot_lasts said next lasts starts =
    let files : map (λ (f : StoredFile). restarted f []) (files_restarted 2 said.files []) ≡ said.files = files_again 2 said.files ∙ ap (λ (s : ServerState). s.files) lasts in
    ap durable (restarts_as said next starts)
    ∙ ap (λ (fs : List StoredFile). let s : ServerState = record said { clock = start_of (said.clock.boot + 1); files = fs } in s) files

module _ (said next : ServerState) (starts : restart_of said [] ≡ Some next) where
  same_number : said.number ≡ next.number
  same_number = ap (λ (s : ServerState). s.number) (sym (restarts_as said next starts))

  boot_made : (body : List ℕ) → durable said ≡ said → SaysBoot next.clock.boot body → applied_bytes (durable said) body ≡ Some (durable next)
  boot_made body lasts says =
      let here : SaysBoot (said.clock.boot + 1) body = subst (λ (n : ℕ). SaysBoot n body) (boot_next said next starts) says in
      let later : ltb said.clock.boot (said.clock.boot + 1) ≡ true = lt-ltb said.clock.boot (said.clock.boot + 1) (omega arith) in
      let made : applied_as said (Some (Boots (said.clock.boot + 1))) ≡ Some (record said { clock = start_of (said.clock.boot + 1) }) = rw later refl in
      ap (λ (s : ServerState). applied_bytes s body) lasts ∙ ap (applied_as said) here.body ∙ made ∙ ap (λ (s : ServerState). Some s) (sym (boot_lasts said next lasts starts))

  either_boots : durable said ≡ said → (left left_spare : List ℕ) → SaysEither said next left left_spare → SaysBooting said.number (Ok said) left left_spare
  either_boots lasts left left_spare (inl says) = inl (says ∙ ap (λ (s : ServerState). Ok s) lasts)
  either_boots lasts left left_spare (inr says) = inr (said, next, refl, starts, says)

-- ---- disks that have its log

module _ (said : ServerState) (log : KeptLogState) (disk spare : Option DiskLife) (has : HasLasting said log disk spare) where
  says_said : (left left_spare : List ℕ) → OwnSays has.says (at_side log.side left left_spare) → IsPassed log.generation (at_side (opposite log.side) left left_spare) → SaysServer said left left_spare
  says_said left left_spare own other =
      ap (said_by said.number) (says_together log.side has.says left left_spare own (subst (λ (g : Option ℕ). IsPassed g (at_side (opposite log.side) left left_spare)) has.stands.generation_is other))
      ∙ has.is_said.said ∙ ap (λ (s : ServerState). Ok s) (sym has.is_said.lasts)

  -- nothing was done
  stays : LeavesBoth disk spare disk spare (SaysServer said)
  stays =
      both_since log.side (OwnSays has.says) (IsPassed log.generation) (SaysServer said) says_said disk spare disk spare
      (since_none (OwnSays has.says) (at_side log.side disk spare) (own_now log has.says disk spare has.stands))
      (since_none (IsPassed log.generation) (at_side (opposite log.side) disk spare) (other_now log has.says disk spare has.stands))

  pub boots_not : LeavesBoth disk spare disk spare (SaysBooting said.number (Ok said))
  boots_not = both_weaker (SaysServer said) (SaysBooting said.number (Ok said)) (λ left left_spare says. inl (says ∙ ap (λ (s : ServerState). Ok s) has.is_said.lasts)) disk spare disk spare stays

  module _ (next : ServerState) (starts : restart_of said [] ≡ Some next) where
    -- memory was wanted for the record
    pub logs_not : (e : Failed) → LogsStep said next disk spare (Err e) log disk spare
    logs_not e = record { since = both_weaker (SaysServer said) (SaysEither said next) (λ left left_spare says. inl says) disk spare disk spare stays; kept = λ x ok. absurd (cc (ok)) }

    abbrev PassedOrRenewed : List ℕ → Type 0
    PassedOrRenewed left = IsPassed log.generation left ⊎ SaysRenewed next (next_generation log.generation) left

    joins : (left left_spare : List ℕ) → OwnSays has.says (at_side log.side left left_spare) → PassedOrRenewed (at_side (opposite log.side) left left_spare) → SaysEither said next left left_spare
    joins left left_spare own (inl passed) = inl (says_said left left_spare own passed)
    joins left left_spare own (inr renewed) =
        inr (says_renewed next log.side has.says left left_spare own
        (subst (λ (g : Option ℕ). SaysRenewed next (next_generation g) (at_side (opposite log.side) left left_spare)) has.stands.generation_is renewed))

    module _ (result : Result (Unit {0}) Failed) (log' : KeptLogState) (disk' spare' : Option DiskLife) where
      -- the log was renewed
      pub logs_renewed : Renews next log disk spare result log' disk' spare' → LogsStep said next disk spare result log' disk' spare'
      logs_renewed r = record {
        since =
            both_since log.side (OwnSays has.says) PassedOrRenewed (SaysEither said next) joins disk spare disk' spare'
            (since_same (OwnSays has.says) (at_side log.side disk spare) (at_side log.side disk' spare') (own_same log.side disk spare disk' spare' r.crash.others) (own_now log has.says disk spare has.stands))
            r.crash.leaves;
        kept = r.kept;
      }

      appended_as : (says : TwinLog) → StandsTwin log says disk spare → HasSaid said.number says said → is_of_none log.generation ≡ false → (body : List ℕ) → SaysBoot next.clock.boot body
          → ((generation start : ℕ) (bodies : List (List ℕ)) → StandsTwin log (Has generation start bodies) disk spare → AppendsTwin log disk spare generation start bodies body result log' disk' spare') → LogsStep said next disk spare result log' disk' spare'
      appended_as New stands is some body boot appends = let none : is_of_none log.generation ≡ true = ap is_of_none stands.generation_is in absurd (cc (some, none))
      appended_as (Bad place) stands is some body boot appends = absurd stands.own
      appended_as (Has generation start bodies) stands is some body boot appends =
          let a = appends generation start bodies stands in
          let number = same_number said next starts in
          let made = boot_made said next starts body is.lasts boot in
          let says : played (unbooted said.number) start bodies ≡ Ok (durable said) = is.said ∙ ap (λ (s : ServerState). Ok s) (sym is.lasts) in
          record {
            since = append_since said next log generation start bodies (body ∷ []) stands.generation_is says (longer said next body number made start bodies says) disk spare disk' spare' stands.other a.crash;
            kept = λ x ok. log_of next log' generation start (bodies ++ body ∷ []) disk' spare' (a.kept x ok) (longer said next body number made start bodies says);
          }

      -- the record was appended
      pub logs_appended : is_of_none log.generation ≡ false → (body : List ℕ) → SaysBoot next.clock.boot body
          → ((generation start : ℕ) (bodies : List (List ℕ)) → StandsTwin log (Has generation start bodies) disk spare → AppendsTwin log disk spare generation start bodies body result log' disk' spare') → LogsStep said next disk spare result log' disk' spare'
      logs_appended some body boot appends = appended_as has.says has.stands has.is_said some body boot appends

      pub boots_since : LogsStep said next disk spare result log' disk' spare' → LeavesBoth disk spare disk' spare' (SaysBooting said.number (Ok said))
      boots_since step = both_weaker (SaysEither said next) (SaysBooting said.number (Ok said)) (either_boots said next starts has.is_said.lasts) disk spare disk' spare' step.since
