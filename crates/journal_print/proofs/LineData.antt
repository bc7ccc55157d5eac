-- Lines differ in their data alone.
use Rattle.std.proofs.Common.{◌≡◌, ℕ, ◌≤◌, nat_le, true, List, length, refl, ap, arith}
use Rattle.std.proofs.lemmas.Bool.{le-leb}
use Rattle.cluster_model.specs.declared.answer.UserAnswer.{UserAnswer}
use Rattle.cluster_model.specs.declared.answer.UserAnswer.TheVariants.{Bytes}
use Rattle.cluster_model.specs.declared.entry.Entry.{Entry}
use Rattle.cluster_model.specs.declared.entry.Entry.TheVariants.{Sent, Rogue, Told, Applied, ReadAnswer, Answer, Audit}
use Rattle.cluster_model.specs.Wordings.{text_of_bytes, answer_words}
use Rattle.cluster_model.specs.Print.{words, words_of, line_of, answer_hex_len, hex_len}
use Rattle.journal_print.specs.Brief.{is_brief, brief_bytes, answer_by, words_by, brief_line}

-- data that is shown as it is, up to this length
abbrev ShowsWhole : (List ℕ → List ℕ) → ℕ → Type 0
ShowsWhole show n = (bytes : List ℕ) → length bytes ≤ n → show bytes ≡ text_of_bytes bytes

whole_answer : (show : List ℕ → List ℕ) (said : UserAnswer) → ShowsWhole show (answer_hex_len said) → answer_by show said ≡ answer_words said
whole_answer show (Bytes eof bytes) whole = rw (whole bytes (omega arith)) refl
whole_answer show said whole = refl

whole_words : (show : List ℕ → List ℕ) (e : Entry) → ShowsWhole show (hex_len e) → words_by show e ≡ words_of e
whole_words show (Sent file cred at bytes) whole = rw (whole bytes (omega arith)) refl
whole_words show (Rogue file cred at bytes) whole = rw (whole bytes (omega arith)) refl
whole_words show (Told file cred at bytes) whole = rw (whole bytes (omega arith)) refl
whole_words show (Applied mirror cred at bytes) whole = rw (whole bytes (omega arith)) refl
whole_words show (ReadAnswer file status bytes) whole = rw (whole bytes (omega arith)) refl
whole_words show (Audit file mirror size bytes) whole = rw (whole bytes (omega arith)) refl
whole_words show (Answer client said) whole = rw (whole_answer show said whole) refl
whole_words show e whole = refl

pub whole_line : (e : Entry) → words (words_by text_of_bytes e) ≡ line_of e
whole_line e = ap words (whole_words text_of_bytes e (λ bytes h. refl))

short_bytes : (bytes : List ℕ) → length bytes ≤ 64 → brief_bytes bytes ≡ text_of_bytes bytes
short_bytes bytes h =
    let test : nat_le (length bytes) 64 ≡ true = le-leb (length bytes) 64 h in
    rw test refl

pub short_line : (e : Entry) → is_brief e ≡ true → hex_len e ≤ 64 → brief_line e ≡ line_of e
short_line e has h = rw has (ap words (whole_words brief_bytes e (λ bytes le. short_bytes bytes (omega arith))))
