-- How a get goes on from answer to answer.
use Rattle.std.proofs.Common.{◌≡◌, ℕ, ◌+◌, ◌-◌, ◌^◌, ◌<◌, min, Bool, true, false, List, [], ◌∷◌, ◌++◌, length, drop, Option, Some, None, Result, Ok, Err, refl, sym, ap, subst, ◌∙◌, arith, append_assoc, append-nil}
use Rattle.std.proofs.lemmas.List.{length-append}
use Rattle.std.specs.Prelude.{OnOk, IsErr, slice_get}
use Rattle.std.proofs.lemmas.Bool.{false≢true}
use Rattle.ff_xdr.specs.declared.error.NoMemory.{NoMemory}
use Rattle.rpc_record.specs.declared.stream.Failed.{Failed}
use Rattle.line_runs.specs.Writing.{WritesText}
use Rattle.cluster_model.specs.declared.answer.FailCause.{FailCause}
use Rattle.cluster_model.specs.declared.answer.UserAnswer.{UserAnswer}
use Rattle.cluster_model.specs.declared.limits.TheConstants.{PIECE_SIZE}
use Rattle.cluster_model.specs.declared.outbox.Outbox.{Outbox}
use Rattle.client_state.specs.declared.request.UserRequest.TheVariants.{Read}
use Rattle.client_state.specs.QueueSteps.{HasStepped}
use Rattle.mirror_client.specs.ClientRule.{client_requested}
use Rattle.mirror_client.specs.ClientSteps.{ClientOfUser, StepsBy}
use Rattle.client_state.specs.ClientStates.{ClientValue}
use Rattle.client_state.specs.ClientSends.{ClientStep}
use Rattle.ff_node.specs.Nodes.{SentRecords}
use Rattle.ff_node.specs.Serve.{behind, TookBeginning, WritesFor}
use Rattle.ff_node.proofs.ServeLemmas.{more_more}
use Rattle.user_nodes.specs.declared.get.Seen.{Seen}
use Rattle.user_nodes.specs.Users.{answers_taken, records_of}
use Rattle.user_nodes.specs.Gets.{GetValue, reads_next, answer_bytes, answered_bytes, says_bytes, says_end, saw_more, saw_none, seen_outcome, goes_on_after, goes_on_reading, size_behind, first_outcome, get_outcome, get_does}
use Rattle.user_nodes.proofs.AnswerLemmas.{any_more, failed_more, first_is, none_is}

-- the next read is asked for
pub read_stepped : (at : ℕ) (goes_on : Bool) (old new : ClientOfUser) (before after : Outbox) (result : Result (Unit {0}) NoMemory) → goes_on ≡ true → StepsBy (client_requested (Read at PIECE_SIZE)) old before result new after
    → OnOk result (HasStepped (reads_next at goes_on old.client) before new.client after)
read_stepped at true old new before after (Ok x) on steps = steps.2
read_stepped at false old new before after (Ok x) on steps = absurd (false≢true on)
read_stepped at goes_on old new before after (Err e) on steps = tt

-- ---- what is written

-- all of the text but the rest was written
abbrev pub HasWrittenFor : Option (List ℕ) → List ℕ → List ℕ → Option (List ℕ) → Type 0
HasWrittenFor held text rest held' = (part : List ℕ) × (part ++ rest ≡ text) × (held' ≡ behind held part)

wrote_all : (held : Option (List ℕ)) (text : List ℕ) (x : Unit {0}) (held' : Option (List ℕ)) → WritesText held text (Ok x) held' → held' ≡ behind held text
wrote_all None text x held' writes = writes
wrote_all (Some old) text x held' writes = writes

wrote_part : (held : Option (List ℕ)) (text : List ℕ) (e : Failed) (held' : Option (List ℕ)) → WritesText held text (Err e) held' → TookBeginning held text held'
wrote_part None text e held' writes = writes
wrote_part (Some old) text e held' writes = writes

part_whole : (part more rest bytes others : List ℕ) → more ++ rest ≡ bytes → (part ++ more) ++ (rest ++ others) ≡ part ++ (bytes ++ others)
part_whole part more rest bytes others whole =
    append_assoc part more (rest ++ others) ∙ ap (λ (l : List ℕ). part ++ l) (sym (append_assoc more rest others)) ∙ ap (λ (l : List ℕ). part ++ (l ++ others)) whole

-- a beginning of the bytes behind a part
took_part : (held : Option (List ℕ)) (part bytes others all : List ℕ) (held' : Option (List ℕ)) → part ++ (bytes ++ others) ≡ all → TookBeginning (behind held part) bytes held' → TookBeginning held all held'
took_part None part bytes others all held' text took = took
took_part (Some old) part bytes others all held' text (more, begins, is) = (
  part ++ more,
  record { rest = begins.rest ++ others; whole = part_whole part more begins.rest bytes others begins.whole ∙ text },
  is ∙ ap Some (append_assoc old part more),
)

-- ---- the first answer is taken

module _ (a : UserAnswer) (answers : List UserAnswer) (first : slice_get answers 0 ≡ Some a) where
  pub saw_first : (s s' : Seen) → s' ≡ saw_more s (a ∷ []) → saw_more s' (drop 1 answers) ≡ saw_more s answers
  saw_first s s' noted =
      let rest = drop 1 answers in
      let one : saw_more (saw_more s (a ∷ [])) rest ≡ saw_more s (a ∷ rest) = λ i. record {
        has_bytes = any_more says_bytes s.has_bytes a rest i;
        has_end = any_more says_end s.has_end a rest i;
        failed = failed_more s.failed a rest i;
      } in
      ap (λ t. saw_more t rest) noted ∙ one ∙ ap (saw_more s) (sym (first_is answers a first))

  bytes_first : answered_bytes answers ≡ answer_bytes a ++ answered_bytes (drop 1 answers)
  bytes_first = ap answered_bytes (first_is answers a first)

  pub size_first : (n n' : ℕ) (bytes : List ℕ) → bytes ≡ answer_bytes a → n' ≡ min (n + length bytes) (2 ^ 64 - 1) → size_behind n' (drop 1 answers) ≡ size_behind n answers
  size_first n n' bytes are is =
      let whole : length (answered_bytes answers) ≡ length bytes + length (answered_bytes (drop 1 answers)) = omega (arith, ap length bytes_first, ap length are, length-append (answer_bytes a) (answered_bytes (drop 1 answers))) in
      omega (arith, whole, is)

  -- its bytes were written
  pub written_first : (held now now' : Option (List ℕ)) (all bytes : List ℕ) (x : Unit {0}) → bytes ≡ answer_bytes a → HasWrittenFor held all (answered_bytes answers) now → WritesText now bytes (Ok x) now'
      → HasWrittenFor held all (answered_bytes (drop 1 answers)) now'
  written_first held now now' all bytes x are (part, whole, is) writes = (
    part ++ bytes,
    append_assoc part bytes (answered_bytes (drop 1 answers)) ∙ ap (λ (l : List ℕ). part ++ (l ++ answered_bytes (drop 1 answers))) are ∙ ap (λ (l : List ℕ). part ++ l) (sym bytes_first) ∙ whole,
    wrote_all now bytes x now' writes ∙ ap (λ (h : Option (List ℕ)). behind h bytes) is ∙ more_more held part bytes,
  )

  -- a beginning of its bytes was written
  pub written_part : {T : Type 0} (held now now' : Option (List ℕ)) (all bytes : List ℕ) (e : Failed) (result : Result T Failed) → bytes ≡ answer_bytes a → HasWrittenFor held all (answered_bytes answers) now → WritesText now bytes (Err e) now'
      → IsErr result → WritesFor held all result now'
  written_part held now now' all bytes e (Ok x) are written writes fails = absurd (cc (fails))
  written_part held now now' all bytes e (Err f) are (part, whole, is) writes fails =
      let text : part ++ (bytes ++ answered_bytes (drop 1 answers)) ≡ all = ap (λ (l : List ℕ). part ++ (l ++ answered_bytes (drop 1 answers))) are ∙ ap (λ (l : List ℕ). part ++ l) (sym bytes_first) ∙ whole in
      took_part held part bytes (answered_bytes (drop 1 answers)) all now' text (subst (λ (h : Option (List ℕ)). TookBeginning h bytes now') is (wrote_part now bytes e now' writes))

-- ---- all were taken

pub all_taken : (n : GetValue) (c d : ClientValue) (size : ℕ) → slice_get c.answers 0 ≡ None → size < 2 ^ 64 → d ≡ record c { answers = drop 1 c.answers } → answers_taken c ≡ answers_taken n.client
    → size_behind size c.answers ≡ size_behind n.size n.client.answers → (o : Option (Result (Unit {0}) FailCause)) → o ≡ n.outcome → (given : Option ℕ) → given ≡ n.last
    → record { client = d; size = size; outcome = o; last = given } ≡ record n { client = answers_taken n.client; size = size_behind n.size n.client.answers }
all_taken n c d size none fits last client sizes o outcome given same_given =
    let left = none_is c.answers none in
    let same : size ≡ size_behind size c.answers = omega (arith, ap (λ (l : List UserAnswer). length (answered_bytes l)) left) in λ i. record {
      client = (last ∙ ap (λ (l : List UserAnswer). record c { answers = drop 1 l }) left ∙ client) i;
      size = (same ∙ sizes) i;
      outcome = outcome i;
      last = same_given i;
    }

-- ---- a step

took_none : (held : Option (List ℕ)) (text : List ℕ) → TookBeginning held text held
took_none None text = refl
took_none (Some old) text = ([], record { rest = text; whole = refl }, ap Some (sym (append-nil old)))

took_all : (held : Option (List ℕ)) (text : List ℕ) (held' : Option (List ℕ)) → held' ≡ behind held text → TookBeginning held text held'
took_all None text held' is = is
took_all (Some old) text held' is = (text, record { rest = []; whole = append-nil text }, is)

pub took_for : {T E : Type 0} (held : Option (List ℕ)) (text : List ℕ) (held' : Option (List ℕ)) (result : Result T E) → IsErr result → TookBeginning held text held' → WritesFor held text result held'
took_for held text held' (Ok x) fails took = absurd (cc (fails))
took_for held text held' (Err e) fails took = took

module _ (s : ClientStep) (n : GetValue) (moment : ℕ) where
  -- the client did not do the step
  pub step_fails : (held : Option (List ℕ)) → TookBeginning held (get_does s n.size n.outcome moment).text held
  step_fails held = took_none held (answered_bytes s.client.answers)

  module _ (c : ClientValue) (stepped : c ≡ s.client) where
    pub bytes_after : {T E : Type 0} (held held' : Option (List ℕ)) (result : Result T E) → WritesFor held (answered_bytes c.answers) result held' → WritesFor held (get_does s n.size n.outcome moment).text result held'
    bytes_after held held' result writes = subst (λ (d : ClientValue). WritesFor held (answered_bytes d.answers) result held') stepped writes

    -- its bytes were written, and then something failed
    pub all_then_fails : (E : Type 0) (held held' : Option (List ℕ)) (x : Seen) → WritesFor {E = E} held (answered_bytes c.answers) (Ok x) held' → TookBeginning held (get_does s n.size n.outcome moment).text held'
    all_then_fails E held held' x writes = took_all held (answered_bytes s.client.answers) held' (subst (λ (d : ClientValue). held' ≡ behind held (answered_bytes d.answers)) stepped writes)

    module _ (seen : Seen) (saw : seen ≡ saw_more saw_none c.answers) (mid : GetValue)
        (taken : mid ≡ record { client = answers_taken c; size = size_behind n.size c.answers; outcome = n.outcome; last = Some moment }) where
      goes_on : reads_next mid.size (goes_on_after seen) mid.client ≡ reads_next (size_behind n.size s.client.answers) (goes_on_reading s.client.answers) (answers_taken s.client)
      goes_on =
          ap (λ (m : GetValue). reads_next m.size (goes_on_after seen) m.client) taken ∙ ap (λ (t : Seen). reads_next (size_behind n.size c.answers) (goes_on_after t) (answers_taken c)) saw
          ∙ ap (λ (d : ClientValue). reads_next (size_behind n.size d.answers) (goes_on_reading d.answers) (answers_taken d)) stepped

      pub state_after_step : (last : GetValue) → last.client ≡ (reads_next mid.size (goes_on_after seen) mid.client).client → last.size ≡ mid.size → last.outcome ≡ first_outcome mid.outcome (seen_outcome seen) → last.last ≡ mid.last
          → last ≡ (get_does s n.size n.outcome moment).state
      state_after_step last client size outcome given = λ i. record {
        client = (client ∙ ap (λ (t : ClientStep). t.client) goes_on) i;
        size = (size ∙ ap (λ (m : GetValue). m.size) taken ∙ ap (λ (d : ClientValue). size_behind n.size d.answers) stepped) i;
        outcome =
            (outcome ∙ ap (λ (m : GetValue). first_outcome m.outcome (seen_outcome seen)) taken ∙ ap (λ (t : Seen). first_outcome n.outcome (seen_outcome t)) saw
            ∙ ap (λ (d : ClientValue). first_outcome n.outcome (get_outcome d.answers)) stepped) i;
        last = (given ∙ ap (λ (m : GetValue). m.last) taken) i;
      }

      pub sends_after_step : (before between after : SentRecords) → between ≡ before ++ records_of s → after ≡ between ++ records_of (reads_next mid.size (goes_on_after seen) mid.client)
          → after ≡ before ++ (get_does s n.size n.outcome moment).sends
      sends_after_step before between after first second =
          let next = reads_next (size_behind n.size s.client.answers) (goes_on_reading s.client.answers) (answers_taken s.client) in
          second ∙ ap (λ (t : ClientStep). between ++ records_of t) goes_on ∙ ap (λ (l : SentRecords). l ++ records_of next) first ∙ append_assoc before (records_of s) (records_of next)
