-- How many bytes a log has behind a renewal, and behind a call.
use Rattle.std.proofs.Common.{◌≡◌, ℕ, ◌+◌, ◌*◌, ◌≤◌, ◌==◌, Bool, true, false, ◌&&◌, ltb, if◌then◌else◌, List, [], ◌∷◌, length, Option, Some, None, OnOk, Result, Ok, Err, ◌⊎◌, inl, inr, refl, sym, ap, subst, ◌∙◌, arith}
use Rattle.std.proofs.lemmas.Bool.{le-ltb, lt-ltb, ltb-false}
use Rattle.cluster_model.specs.Server.{ServerState, Effect, server_after}
use Rattle.store_disk.specs.Disks.{DiskLife}
use Rattle.gate_log.specs.Logs.{log_size}
use Rattle.gate_log.specs.Appends.{HoldsLog}
use Rattle.twin_log.specs.declared.side.Side.{Side}
use Rattle.twin_log.specs.declared.side.Side.TheVariants as side
use Rattle.twin_log.specs.Twins.{Has, at_side, generation_body, generation_in}
use Rattle.twin_log.specs.KeptLogs.{HoldsFile, KeptLogState, SaysLog, StandsTwin, has_next, has_waiting}
use Rattle.twin_log.specs.LogCalls.{HasRenewed, renewed_place, sealed_log}
use Rattle.twin_log.proofs.Files.{length_generation}
use Rattle.ds_files.specs.Decisions.{CanDo}
use Rattle.ds_log.specs.Bodies.{Logged}
use Rattle.ds_log.specs.Durable.{durable}
use Rattle.ds_log.specs.Steady.{IsSteady}
use Rattle.ds_snapshot.specs.Snapshots.{AreBodiesOf, body_text, snapshot_of}
use Rattle.ds_snapshot.specs.Sizes.{bodies_size, snapshot_size}
use Rattle.ds_store.specs.Kept.{IsLogOf, LeavesBoth, WaitsForOne}
use Rattle.ds_store.specs.Renewals.{AppendsCall, HasRenewedSize, IsLogBounded, IsWithinLimit, IsWithinThen, RenewsIf, SettlesIf, SettlesLog, is_to_renew, log_limit, renewed_size}
use Rattle.ds_store.proofs.Growing.{grows}

-- ---- the size of a renewed log

-- texts have the bytes of their bodies
texts_size : (put : List (List ℕ)) (bodies : List Logged) → AreBodiesOf put bodies → log_size put ≡ bodies_size bodies
texts_size [] [] are = refl
texts_size [] (body ∷ bodies) are = absurd are
texts_size (p ∷ put) [] are = absurd are
texts_size (p ∷ put) (body ∷ bodies) are = ap (λ (n : ℕ). 5 + n + log_size put) (ap length are.0.text) ∙ ap (λ (n : ℕ). 5 + length (body_text body) + n) (texts_size put bodies are.1)

by_first : (is_other : Bool) (body : List ℕ) (behind put : List (List ℕ)) (n : ℕ) → (if is_other then 0 else 5 + length body) ≡ 5 + n → (if is_other then body ∷ behind else behind) ≡ put → 5 + length body + log_size behind ≡ 5 + n + log_size put
by_first true body behind put n place bodies = absurd (omega (arith, place))
by_first false body behind put n place bodies = ap (λ (m : ℕ). m + log_size behind) place ∙ ap (λ (l : List (List ℕ)). 5 + n + log_size l) bodies

-- a file whose bodies say a generation, and these behind it
says_size : (all : List (List ℕ)) (generation : ℕ) (put : List (List ℕ)) → SaysLog all generation (renewed_place generation) put → log_size all ≡ renewed_place generation + log_size put
says_size [] generation put says = absurd (cc (says.generation_is))
says_size (body ∷ behind) generation put says = by_first (generation_in body == 0) body behind put (length (generation_body generation)) says.start_is says.bodies_are

holds_end : (told : Option DiskLife) (life : DiskLife) → told ≡ Some life → (all : List (List ℕ)) (end : ℕ) → HoldsLog told all end → end ≡ log_size all
holds_end None life is all end holds = absurd (cc (is))
holds_end (Some life') life is all end holds = holds.end_is

adds_up : (size end whole place put snapshot : ℕ) → size ≡ end + 1 → end ≡ whole → whole ≡ 5 + place + put → place ≡ 12 → put ≡ snapshot → size ≡ 18 + snapshot
adds_up size end whole place put snapshot a b c d e = omega (arith, a, b, c, d, e)

file_size : (told : Option DiskLife) (life : DiskLife) → told ≡ Some life → (s : ServerState) (log : KeptLogState) (generation : ℕ) (put : List (List ℕ)) → HoldsFile told generation (renewed_place generation) put log.end log.size → log.size ≡ log.end + 1
    → AreBodiesOf put (snapshot_of (durable s)) → log.size ≡ renewed_size s
file_size told life is s log generation put file behind are =
    adds_up log.size log.end (log_size file.all) (length (generation_body generation)) (log_size put) (snapshot_size (durable s)) behind (holds_end told life is file.all log.end file.log) (says_size file.all generation put file.says) (length_generation generation)
    (texts_size put (snapshot_of (durable s)) are)

-- one of two disks that tell does
one_tells : (x : Side) (d sp : DiskLife) → (life : DiskLife) × (at_side x (Some d) (Some sp) ≡ Some life)
one_tells side.Disk d sp = (d, refl)
one_tells side.Spare d sp = (sp, refl)

pub sized : (s : ServerState) (log : KeptLogState) (generation : ℕ) (put : List (List ℕ)) (disk spare : Option DiskLife) → StandsTwin log (Has generation (renewed_place generation) put) disk spare → log.size ≡ log.end + 1
    → AreBodiesOf put (snapshot_of (durable s)) → HasRenewedSize s log disk spare
sized s log generation put None spare stands behind are = tt
sized s log generation put (Some d) None stands behind are = tt
sized s log generation put (Some d) (Some sp) stands behind are =
    let tells = one_tells log.side d sp in
    file_size (at_side log.side (Some d) (Some sp)) tells.0 tells.1 s log generation put stands.own behind are

pub at_ok : {T E P : Type 0} (result : Result T E) (x : T) → result ≡ Ok x → OnOk result P → P
at_ok (Ok y) x is h = h
at_ok (Err e) x is h = absurd (cc (is))

-- ---- the limit

limit_more : (limit a b : ℕ) → limit ≤ 16777216 + 2 * (18 + a) → a ≤ b → limit ≤ 16777216 + 2 * (18 + b)
limit_more limit a b within more = omega (arith, within, more)

-- it is no lower for the server behind a step
pub limit_on : (server old new : ServerState) (what : Effect) (limit : ℕ) → server ≡ old → IsSteady server → CanDo old what → new ≡ server_after server what → limit ≤ log_limit server → limit ≤ log_limit new
limit_on server old new what limit same steady can made within =
    subst (λ (s : ServerState). limit ≤ log_limit s) (sym made)
    (limit_more limit (snapshot_size (durable server)) (snapshot_size (durable (server_after server what))) within (grows server what steady (subst (λ (s : ServerState). CanDo s what) (sym same) can)))

renewed_within : (size snapshot : ℕ) → size ≡ 18 + snapshot → size ≤ 16777216 + 2 * (18 + snapshot)
renewed_within size snapshot is = omega (arith, is)

-- a renewed log is within it
within_renewed : (s : ServerState) (log : KeptLogState) → log.size ≡ renewed_size s → IsWithinLimit s log
within_renewed s log is next = renewed_within log.size (snapshot_size (durable s)) is

-- one that is not to be renewed is
and_false : (a b : Bool) → (a && b) ≡ false → a ≡ true → b ≡ false
and_false true b h is = h
and_false false b h is = absurd (cc (is))

pub within_not : (s : ServerState) (log : KeptLogState) → is_to_renew s log ≡ false → IsWithinLimit s log
within_not s log not next = ltb-false (log_limit s) log.size (and_false (has_next log.generation) (ltb (log_limit s) log.size) not next)

-- ---- what settling leaves

pub then_within : {E : Type 0} (s : ServerState) (old : KeptLogState) (result : Result (Unit {0}) E) (new : KeptLogState) (disk spare : Option DiskLife) → IsWithinLimit s new → IsWithinThen s old result new disk spare
then_within s old (Err e) new disk spare within = tt
then_within s old (Ok x) new None spare within = tt
then_within s old (Ok x) new (Some disk) None within = tt
then_within s old (Ok x) new (Some disk) (Some spare) within = λ waits. within

pub then_failed : {E : Type 0} (s : ServerState) (old : KeptLogState) (result : Result (Unit {0}) E) (new : KeptLogState) (disk spare : Option DiskLife) (e : E) → result ≡ Err e → IsWithinThen s old result new disk spare
then_failed s old (Err f) new disk spare e is = tt
then_failed s old (Ok x) new disk spare e is = absurd (cc (is))

pub then_none : {E : Type 0} (s : ServerState) (old : KeptLogState) (result : Result (Unit {0}) E) (new : KeptLogState) (disk spare : Option DiskLife) → has_waiting old ≡ false → IsWithinThen s old result new disk spare
then_none s old (Err e) new disk spare none = tt
then_none s old (Ok x) new None spare none = tt
then_none s old (Ok x) new (Some disk) None none = tt
then_none s old (Ok x) new (Some disk) (Some spare) none = λ waits. absurd (cc (waits, none))

-- the same, as it is answered
pub then_as : {E F : Type 0} (s : ServerState) (old : KeptLogState) (result : Result (Unit {0}) E) (answer : Result (Unit {0}) F) (new : KeptLogState) (disk spare : Option DiskLife) → ((x : Unit {0}) → answer ≡ Ok x → result ≡ Ok x)
    → IsWithinThen s old result new disk spare → IsWithinThen s old answer new disk spare
then_as s old result (Err f) new disk spare done h = tt
then_as s old (Err e) (Ok x) new disk spare done h = absurd (cc (done x refl))
then_as s old (Ok y) (Ok x) new None spare done h = tt
then_as s old (Ok y) (Ok x) new (Some disk) None done h = tt
then_as s old (Ok y) (Ok x) new (Some disk) (Some spare) done h = h

-- it has the size of a renewed one
pub then_renewed : {E : Type 0} (s : ServerState) (old : KeptLogState) (result : Result (Unit {0}) E) (new : KeptLogState) (disk spare : Option DiskLife) → ((x : Unit {0}) → result ≡ Ok x → HasRenewedSize s new disk spare) → IsWithinThen s old result new disk spare
then_renewed s old (Err e) new disk spare size = tt
then_renewed s old (Ok x) new None spare size = tt
then_renewed s old (Ok x) new (Some disk) None size = tt
then_renewed s old (Ok x) new (Some disk) (Some spare) size = λ waits. within_renewed s new (size x refl)

-- ---- what it makes of the log

-- the same of a log whose numbers are those of one that was sealed
pub renewed_of : (old log new : KeptLogState) → log ≡ sealed_log old → HasRenewed log new → HasRenewed old new
renewed_of old log new is h =
    let here : HasRenewed (sealed_log old) new = subst (λ (l : KeptLogState). HasRenewed l new) is h in
    record { side = here.side; generation = here.generation; size = here.size; next = here.next; place = here.place; none_renews = here.none_renews }

settles_as : (b : Bool) (s : ServerState) (old new : KeptLogState) → b ≡ true → RenewsIf (is_to_renew s old) old new → SettlesIf b s old new
settles_as true s old new waits h = h
settles_as false s old new waits h = absurd (cc (waits))

renews_as : (b : Bool) (old new : KeptLogState) → b ≡ true → HasRenewed old new → RenewsIf b old new
renews_as true old new is h = h
renews_as false old new is h = absurd (cc (is))

stays_as : (b : Bool) (old new : KeptLogState) → b ≡ false → new ≡ sealed_log old → RenewsIf b old new
stays_as true old new is h = absurd (cc (is))
stays_as false old new is h = h

pub settles_renewed : (s : ServerState) (old log new : KeptLogState) → has_waiting old ≡ true → log ≡ sealed_log old → is_to_renew s log ≡ true → HasRenewed log new → SettlesLog s old new
settles_renewed s old log new waits is renew h =
    settles_as (has_waiting old) s old new waits (renews_as (is_to_renew s old) old new (subst (λ (l : KeptLogState). is_to_renew s l ≡ true) is renew) (renewed_of old log new is h))

pub settles_sealed : (s : ServerState) (old log : KeptLogState) → has_waiting old ≡ true → log ≡ sealed_log old → is_to_renew s log ≡ false → SettlesLog s old log
settles_sealed s old log waits is renew = settles_as (has_waiting old) s old log waits (stays_as (is_to_renew s old) old log (subst (λ (l : KeptLogState). is_to_renew s l ≡ false) is renew) is)

pub settles_none : (s : ServerState) (old new : KeptLogState) → has_waiting old ≡ false → new ≡ old → SettlesLog s old new
settles_none s old new none same = by_flag (has_waiting old) none
  where
    by_flag : (b : Bool) → b ≡ false → SettlesIf b s old new
    by_flag true is = absurd (cc (is))
    by_flag false is = same

-- ---- what a call leaves

-- a call that failed says nothing
pub failed_bounded : {T E : Type 0} (before : ServerState) (old : KeptLogState) (result : Result T E) (after : ServerState) (new : KeptLogState) (disk spare : Option DiskLife) (e : E) → result ≡ Err e → IsLogBounded before old result after new disk spare
failed_bounded before old (Err e) after new disk spare f is = tt
failed_bounded before old (Ok x) after new disk spare f is = absurd (cc (is))

not_waiting : (log : KeptLogState) → log.at ≡ log.end → has_waiting log ≡ false
not_waiting log none = le-ltb log.end log.at (omega (arith, none))

settled_same : (b : Bool) (s : ServerState) (old new : KeptLogState) → b ≡ false → SettlesIf b s old new → new ≡ old
settled_same true s old new none h = absurd (cc (none))
settled_same false s old new none h = h

module _ (before after : ServerState) (old mid new : KeptLogState) (one : WaitsForOne before old after mid) (settles : SettlesLog after mid new) where
  appended : (E : Type 0) (disk spare : DiskLife) (x : Unit {0}) → old.at ≡ old.end → IsWithinThen {E = E} after mid (Ok x) new (Some disk) (Some spare) → (new ≡ old) ⊎ AppendsCall before after old new
  appended E disk spare x none within = by_one one
    where
      by_one : WaitsForOne before old after mid → (new ≡ old) ⊎ AppendsCall before after old new
      by_one (inl same) = inl (settled_same (has_waiting mid) after mid new (ap has_waiting same ∙ not_waiting old none) settles ∙ same)
      by_one (inr (body, made, is)) =
          let waits : has_waiting mid ≡ true = ap has_waiting is ∙ lt-ltb old.end (old.at + 5 + length body) (omega (arith, none)) in
          inr (record { body = body; made = made; settles = subst (λ (l : KeptLogState). SettlesLog after l new) is settles; within = within waits })

  -- it appended nothing, or its record
  pub call_bounded : (F : Type 0) {T E : Type 0} (P : List ℕ → List ℕ → Type 0) (disk spare disk' spare' : Option DiskLife) → IsLogOf before old disk spare → LeavesBoth disk spare disk' spare' P → (x : Unit {0}) → IsWithinThen {E = F} after mid (Ok x) new disk' spare'
      → (result : Result T E) → IsLogBounded before old result after new disk' spare'
  call_bounded F P disk spare disk' spare' keeps since x within (Err e) = tt
  call_bounded F P disk spare None spare' keeps since x within (Ok y) = tt
  call_bounded F P disk spare (Some d') None keeps since x within (Ok y) = tt
  call_bounded F P None spare (Some d') (Some s') keeps since x within (Ok y) = absurd (cc (since))
  call_bounded F P (Some d) None (Some d') (Some s') keeps since x within (Ok y) = absurd (cc (since))
  call_bounded F P (Some d) (Some s) (Some d') (Some s') keeps since x within (Ok y) = appended F d' s' x keeps.stands.none_waits within
