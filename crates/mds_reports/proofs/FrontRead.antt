-- A reply whose first result is that of a SEQUENCE that is OK is read as one to a request that took effect, and has its status.
use Rattle.std.proofs.Common.{◌≡◌, ◌<◌, ℕ, ◌+◌, zero, suc, Bool, true, false, cond, List, [], ◌∷◌, ◌++◌, length, Option, Some, None, Result, Ok, Err, refl, sym, ap, subst, ◌∙◌, arith, append-nil}
use Rattle.std.specs.Prelude.{◌==◌, nat_lt, take, drop}
use Rattle.std.specs.Int.{Width, w32, byte_len, from_be_bytes}
use Rattle.std.specs.List.{flat_map}
use Rattle.ff_xdr.specs.declared.error.XdrError.{XdrError}
use Rattle.ff_xdr.specs.declared.error.XdrWhy.TheVariants.{Short, TooLong}
use Rattle.ff_xdr.specs.Form.{Form, Pair, Array, Value, Fits, spelling, word}
use Rattle.ff_xdr.specs.Reading.{◌>>=◌, number_at, length_at, many_at, reading, rest_of, whole}
use Rattle.ff_xdr.specs.Laws.{Stands}
use Rattle.ff_xdr.proofs.Places.{bind_ok, guard_ok, ok_is, stands_first, stands_second, stands_between}
use Rattle.ff_xdr.proofs.Again.{again_where}
use Rattle.nfs4_types.specs.declared.sequence.Sequence.{Sequence}
use Rattle.nfs4_types.specs.declared.status.Stat4.{Stat4}
use Rattle.nfs4_types.specs.Status.{stat4_number, nfsstat4}
use Rattle.nfs4_compound.specs.Results.{resop4}
use Rattle.nfs4_compound.specs.Compounds.{compound4_res, tag4}
use Rattle.nfs4_compound.proofs.Statuses.{stat_fits}
use Rattle.compound_reply.specs.Replied.{success_reply}
use Rattle.client_mds_calls.specs.declared.ask.MdsAsk.TheVariants as ask
use Rattle.client_mds_calls.specs.declared.reply.SlotReport.TheVariants.{Taken}
use Rattle.client_mds_calls.specs.declared.reply.SlotReport.{SlotReport}
use Rattle.client_mds_calls.specs.MdsCalls.{SlotCallValue, ask_on_slot}
use Rattle.client_mds_calls.specs.MdsCalls as slot
use Rattle.client_session_calls.specs.SessionResults.{reclaim_complete_results, renew_results}
use Rattle.client_file_calls.specs.FileResults.{open_results, layout_get_results, device_info_results, write_results, read_results, layout_return_results}
use Rattle.client_mds_calls.specs.MdsReplies.{MdsAnswerValue, Complete, Opened, Granted, Devices, Written, Bytes, Returned, Renewed, Refused, answer_if, answer_where, results_of_ask, slot_told, compound_answer, compound_reply}
use Rattle.mds_rule.specs.Compounds.{sequence_result}
use Rattle.mds_replies.proofs.ExchangeRuns.{no_tag}
use Rattle.mds_reports.specs.SlotReports.{AgreesWith, AgreesRead}

-- ---- what is read, part by part

abbrev listed : Form
listed = Array 4294967295 resop4

record HasPair (first second : Form) (bytes : List ℕ) (at : ℕ) (v : Value (Pair first second) × ℕ) : Type 0 where
  a : Value first × ℕ
  b : Value second × ℕ
  front : reading first bytes at ≡ Ok a
  rest : reading second bytes a.1 ≡ Ok b
  same : ((a.0, b.0), b.1) ≡ v

pair_ok : (first second : Form) (bytes : List ℕ) (at : ℕ) (v : Value (Pair first second) × ℕ) → reading (Pair first second) bytes at ≡ Ok v → HasPair first second bytes at v
pair_ok first second bytes at v e =
    let a = bind_ok (reading first bytes at) (λ x. reading second bytes x.1 >>= λ y. Ok ((x.0, y.0), y.1)) v e in
    let b = bind_ok (reading second bytes a.0.1) (λ y. Ok ((a.0.0, y.0), y.1)) v a.2 in
    record { a = a.0; b = b.0; front = a.1; rest = b.1; same = ok_is ((a.0.0, b.0.0), b.0.1) v b.2 }

number_place : (w : Width) (bytes : List ℕ) (at : ℕ) (n : ℕ × ℕ) → number_at w bytes at ≡ Ok n → n.1 ≡ at + byte_len w
unfolding number_at
number_place w bytes at n e =
    let g = guard_ok (nat_lt (length bytes) (at + byte_len w)) (record { place = length bytes; why = Short }) (Ok (from_be_bytes w (take (byte_len w) (drop at bytes)), at + byte_len w)) n e in
    ap (λ (p : ℕ × ℕ). p.1) (sym (ok_is (from_be_bytes w (take (byte_len w) (drop at bytes)), at + byte_len w) n g.1))

length_place : (max : ℕ) (bytes : List ℕ) (at : ℕ) (n : ℕ × ℕ) → length_at max bytes at ≡ Ok n → n.1 ≡ at + 4
unfolding length_at
length_place max bytes at n e =
    let a = bind_ok (number_at w32 bytes at) (λ k. cond (nat_lt max k.0) (Err (record { place = at; why = TooLong })) (Ok k)) n e in
    let g = guard_ok (nat_lt max a.0.0) (record { place = at; why = TooLong }) (Ok a.0) n a.2 in
    sym (ap (λ (p : ℕ × ℕ). p.1) (ok_is a.0 n g.1)) ∙ number_place w32 bytes at a.0 a.1

word_length : (n : ℕ) → length (word n) ≡ 4
unfolding word
word_length n = refl

-- the first of a list is this one
abbrev BeginsWith : Value resop4 → List (Value resop4) → Type 0
BeginsWith first [] = Unit {0}
BeginsWith first (x ∷ results) = x ≡ first

first_of : (bytes : List ℕ) (first : Value resop4) (at to count : ℕ) (vs : List (Value resop4) × ℕ) → reading resop4 bytes at ≡ Ok (first, to) → many_at (λ place. reading resop4 bytes place) count at ≡ Ok vs → BeginsWith first vs.0
first_of bytes first at to zero vs is e = subst (λ (p : List (Value resop4) × ℕ). BeginsWith first p.0) (ok_is ([], at) vs e) tt
first_of bytes first at to (suc n) vs is e =
    let a = bind_ok (reading resop4 bytes at) (λ x. many_at (λ place. reading resop4 bytes place) n x.1 >>= λ others. Ok (x.0 ∷ others.0, others.1)) vs e in
    let b = bind_ok (many_at (λ place. reading resop4 bytes place) n a.0.1) (λ others. Ok (a.0.0 ∷ others.0, others.1)) vs a.2 in
    let same : (first, to) ≡ a.0 = ok_is (first, to) a.0 (sym is ∙ a.1) in
    subst (λ (p : List (Value resop4) × ℕ). BeginsWith first p.0) (ok_is (a.0.0 ∷ b.0.0, b.0.1) vs b.2) (sym (ap (λ (p : Value resop4 × ℕ). p.0) same))

-- ---- a reply's bytes

-- they are read with this status, and with this result first
record ReadsFront (bytes : List ℕ) (status : ℕ) (first : Value resop4) : Type 0 where
  so : (v : Value compound4_res) → whole bytes (reading compound4_res bytes 0) ≡ Ok v → (v.0 ≡ status) × BeginsWith first v.1.1

module _ (status : ℕ) (first : Value resop4) (more : List (Value resop4)) (fits_status : Fits nfsstat4 status) (fits_first : Fits resop4 first) where
  abbrev bytes : List ℕ
  bytes = spelling compound4_res (status, ([], first ∷ more))

  abbrev others : List ℕ
  others = flat_map (λ v. spelling resop4 v) more

  abbrev results_text : List ℕ
  results_text = word (suc (length more)) ++ (spelling resop4 first ++ others)

  abbrev end : ℕ
  end = 0 + length bytes

  stands_all : Stands bytes 0 bytes end
  stands_all = subst (λ (l : List ℕ). Stands l 0 bytes end) (append-nil bytes) (stands_between [] bytes [])

  -- the places of its parts
  abbrev p1 : ℕ
  p1 = 0 + length (spelling nfsstat4 status)

  abbrev p2 : ℕ
  p2 = p1 + length (spelling tag4 [])

  behind_status : Stands bytes p1 (spelling tag4 [] ++ results_text) end
  behind_status = stands_second bytes 0 (spelling nfsstat4 status) (spelling tag4 [] ++ results_text) end stands_all

  behind_tag : Stands bytes p2 results_text end
  behind_tag = stands_second bytes p1 (spelling tag4 []) results_text end behind_status

  read_status : reading nfsstat4 bytes 0 ≡ Ok (status, p1)
  read_status = again_where nfsstat4 refl status bytes 0 p1 fits_status (stands_first bytes 0 (spelling nfsstat4 status) (spelling tag4 [] ++ results_text) end stands_all)

  read_tag : reading tag4 bytes p1 ≡ Ok ([], p2)
  read_tag = again_where tag4 refl [] bytes p1 p2 (omega arith, no_tag) (stands_first bytes p1 (spelling tag4 []) results_text end behind_status)

  behind_count : Stands bytes (p2 + length (word (suc (length more)))) (spelling resop4 first ++ others) end
  behind_count = stands_second bytes p2 (word (suc (length more))) (spelling resop4 first ++ others) end behind_tag

  read_first : reading resop4 bytes (p2 + 4) ≡ Ok (first, (p2 + 4) + length (spelling resop4 first))
  read_first =
      subst (λ (k : ℕ). reading resop4 bytes (p2 + k) ≡ Ok (first, (p2 + k) + length (spelling resop4 first))) (word_length (suc (length more)))
      (again_where resop4 refl first bytes (p2 + length (word (suc (length more)))) ((p2 + length (word (suc (length more)))) + length (spelling resop4 first)) fits_first
      (stands_first bytes (p2 + length (word (suc (length more)))) (spelling resop4 first) others end behind_count))

  front_so : (r : Value compound4_res × ℕ) → reading compound4_res bytes 0 ≡ Ok r → (r.0.0 ≡ status) × BeginsWith first r.0.1.1
  front_so r e =
      let a = pair_ok nfsstat4 (Pair tag4 listed) bytes 0 r e in
      let b = pair_ok tag4 listed bytes a.a.1 a.b a.rest in
      let n = bind_ok (length_at 4294967295 bytes b.a.1) (λ k. many_at (λ place. reading resop4 bytes place) k.0 k.1) b.b b.rest in
      let status_is : (status, p1) ≡ a.a = ok_is (status, p1) a.a (sym read_status ∙ a.front) in
      let first_place : a.a.1 ≡ p1 = sym (ap (λ (p : ℕ × ℕ). p.1) status_is) in
      let tag_is : ([], p2) ≡ b.a = ok_is ([], p2) b.a (sym read_tag ∙ subst (λ (k : ℕ). reading tag4 bytes k ≡ Ok b.a) first_place b.front) in
      let second_place : b.a.1 ≡ p2 = sym (ap (λ (p : List ℕ × ℕ). p.1) tag_is) in
      let place : n.0.1 ≡ p2 + 4 = length_place 4294967295 bytes b.a.1 n.0 n.1 ∙ ap (λ (k : ℕ). k + 4) second_place in
      let list : BeginsWith first b.b.0 =
      first_of bytes first (p2 + 4) ((p2 + 4) + length (spelling resop4 first)) n.0.0 b.b read_first (subst (λ (k : ℕ). many_at (λ place. reading resop4 bytes place) n.0.0 k ≡ Ok b.b) place n.2) in
      let its_list : BeginsWith first a.b.0.1 = subst (λ (w : Value (Pair tag4 listed) × ℕ). BeginsWith first w.0.1) b.same list in (
        sym (ap (λ (w : Value compound4_res × ℕ). w.0.0) a.same) ∙ sym (ap (λ (p : ℕ × ℕ). p.0) status_is),
        subst (λ (w : Value compound4_res × ℕ). BeginsWith first w.0.1.1) a.same its_list,
      )

  reads_front : ReadsFront bytes status first
  reads_front = record {
    so = λ v e.
        (let r = bind_ok (reading compound4_res bytes 0) (λ x. rest_of bytes x.1 >>= λ nothing. Ok x.0) v e in
        let s = bind_ok (rest_of bytes r.0.1) (λ nothing. Ok r.0.0) v r.2 in
        let same : r.0.0 ≡ v = ok_is {A = Value compound4_res} r.0.0 v s.2 in
        subst (λ (x : Value compound4_res). (x.0 ≡ status) × BeginsWith first x.1.1) same (front_so r.0 r.1));
  }

-- ---- what is told

-- results of a call that is OK are no refusal with BADSESSION
same_status : (a b : ℕ) → Refused a ≡ Refused b → a ≡ b
same_status a b is = cc

not_less : (a b : ℕ) → a < b → a ≡ b → ⊥
not_less a b less is = absurd (omega (arith, less, is))

not_odd : Refused 10006 ≡ Refused 10052 → ⊥
not_odd is = not_less 10006 10052 (omega arith) (same_status 10006 10052 is)

where_not : {A : Type 0} (answer : A → MdsAnswerValue) → ((a : A) → answer a ≡ Refused 10052 → ⊥) → (o : Option A) → answer_where answer o ≡ Refused 10052 → ⊥
where_not answer each None is = not_odd is
where_not answer each (Some a) is = each a is

if_not : (answer : MdsAnswerValue) → (answer ≡ Refused 10052 → ⊥) → (b : Bool) → answer_if b answer ≡ Refused 10052 → ⊥
if_not answer not true is = not is
if_not answer not false is = not_odd is

abbrev is_refusal : MdsAnswerValue → Bool
is_refusal (Refused status) = true
is_refusal answer = false

plain_not : (answer : MdsAnswerValue) → is_refusal answer ≡ false → answer ≡ Refused 10052 → ⊥
plain_not answer off is = not_so (sym (ap is_refusal is) ∙ off)
  where
    not_so : true ≡ false → ⊥
    not_so e = absurd cc

results_not : (c : SlotCallValue) (results : List (Value resop4)) → results_of_ask (ask_on_slot c) results ≡ Refused 10052 → ⊥
results_not slot.ReclaimComplete results = if_not Complete (plain_not Complete refl) (reclaim_complete_results results)
results_not (slot.Open name) results = where_not Opened (λ a. plain_not (Opened a) refl) (open_results results)
results_not (slot.LayoutGet file) results = where_not Granted (λ a. plain_not (Granted a) refl) (layout_get_results results)
results_not (slot.DeviceInfo servers) results = where_not Devices (λ a. plain_not (Devices a) refl) (device_info_results (length servers) results)
results_not (slot.Write file at bytes) results = if_not Written (plain_not Written refl) (write_results results)
results_not (slot.Read file at count) results = where_not (λ b. Bytes b.eof b.bytes) (λ b. plain_not (Bytes b.eof b.bytes) refl) (read_results at count results)
results_not (slot.LayoutReturn file stateid failed) results = if_not Returned (plain_not Returned refl) (layout_return_results results)
results_not slot.Renew results = if_not Renewed (plain_not Renewed refl) (renew_results results)

answer_not : (c : SlotCallValue) (status : ℕ) (results : List (Value resop4)) → (status == 10052) ≡ false → compound_answer (ask_on_slot c) status results ≡ Refused 10052 → ⊥
answer_not c status results other = by_test (status == 0)
  where
    same : (a b : ℕ) → Refused a ≡ Refused b → a ≡ b
    same a b e = cc

    by_test : (b : Bool) → cond {A = MdsAnswerValue} b (results_of_ask (ask_on_slot c) results) (Refused status) ≡ Refused 10052 → ⊥
    by_test true is = results_not c results is
    by_test false is = not_both (ap (λ (k : ℕ). k == 10052) (same status 10052 is) ∙ refl) other
      where
        not_both : (status == 10052) ≡ true → (status == 10052) ≡ false → ⊥
        not_both a b = absurd (apart (sym a ∙ b))
          where
            apart : true ≡ false → ⊥
            apart e = absurd cc

-- as each request reads it
told_of : (c : SlotCallValue) (s : Sequence) (results : List (Value resop4)) → slot_told (ask_on_slot c) (sequence_result s ∷ results) ≡ Taken
told_of slot.ReclaimComplete s results = refl
told_of (slot.Open name) s results = refl
told_of (slot.LayoutGet file) s results = refl
told_of (slot.DeviceInfo servers) s results = refl
told_of (slot.Write file at bytes) s results = refl
told_of (slot.Read file at count) s results = refl
told_of (slot.LayoutReturn file stateid failed) s results = refl
told_of slot.Renew s results = refl

none_told : (c : SlotCallValue) (answer : MdsAnswerValue) → AgreesWith answer (slot_told (ask_on_slot c) [])
none_told slot.ReclaimComplete answer = tt
none_told (slot.Open name) answer = tt
none_told (slot.LayoutGet file) answer = tt
none_told (slot.DeviceInfo servers) answer = tt
none_told (slot.Write file at bytes) answer = tt
none_told (slot.Read file at count) answer = tt
none_told (slot.LayoutReturn file stateid failed) answer = tt
none_told slot.Renew answer = tt

-- a reply behind a SEQUENCE that is OK, of another status than BADSESSION, agrees
pub agrees_taken : (xid : ℕ) (status : Stat4) (s : Sequence) (more : List (Value resop4)) → (stat4_number status == 10052) ≡ false → Fits resop4 (sequence_result s)
    → AgreesRead (success_reply xid (spelling compound4_res (stat4_number status, ([], sequence_result s ∷ more))))
agrees_taken xid status s more other fits c =
    by_reading (whole (spelling compound4_res (stat4_number status, ([], sequence_result s ∷ more))) (reading compound4_res (spelling compound4_res (stat4_number status, ([], sequence_result s ∷ more))) 0)) refl
  where
    by_results : (number : ℕ) (results : List (Value resop4)) → number ≡ stat4_number status → BeginsWith (sequence_result s) results → AgreesWith (compound_answer (ask_on_slot c) number results) (slot_told (ask_on_slot c) results)
    by_results number [] is begins = none_told c (compound_answer (ask_on_slot c) number [])
    by_results number (x ∷ results) is begins =
        subst (λ (y : Value resop4). AgreesWith (compound_answer (ask_on_slot c) number (y ∷ results)) (slot_told (ask_on_slot c) (y ∷ results))) (sym begins)
        (subst (λ (r : SlotReport). AgreesWith (compound_answer (ask_on_slot c) number (sequence_result s ∷ results)) r) (sym (told_of c s results))
        (answer_not c number (sequence_result s ∷ results) (ap (λ (k : ℕ). k == 10052) is ∙ other)))

    by_reading : (r : Result (Value compound4_res) XdrError) → whole (spelling compound4_res (stat4_number status, ([], sequence_result s ∷ more))) (reading compound4_res (spelling compound4_res (stat4_number status, ([], sequence_result s ∷ more))) 0) ≡ r
        → AgreesWith (compound_reply (ask_on_slot c) (whole (spelling compound4_res (stat4_number status, ([], sequence_result s ∷ more))) (reading compound4_res (spelling compound4_res (stat4_number status, ([], sequence_result s ∷ more))) 0))).answer
        (compound_reply (ask_on_slot c) (whole (spelling compound4_res (stat4_number status, ([], sequence_result s ∷ more))) (reading compound4_res (spelling compound4_res (stat4_number status, ([], sequence_result s ∷ more))) 0))).slot
    by_reading (Err e) is = subst (λ (r : Result (Value compound4_res) XdrError). AgreesWith (compound_reply (ask_on_slot c) r).answer (compound_reply (ask_on_slot c) r).slot) (sym is) tt
    by_reading (Ok (number, (tag, results))) is =
        let f = (reads_front (stat4_number status) (sequence_result s) more (stat_fits status) fits).so (number, (tag, results)) is in
        subst (λ (r : Result (Value compound4_res) XdrError). AgreesWith (compound_reply (ask_on_slot c) r).answer (compound_reply (ask_on_slot c) r).slot) (sym is) (by_results number results f.0 f.1)
