-- Different journals have different texts: a line's words say which entry they are of, and a text which words.
use Rattle.std.proofs.Common.{◌≡◌, ℕ, ◌≤◌, nat_lt, true, false, List, [], ◌∷◌, ◌++◌, drop, get_or, codes, refl, sym, ap, ◌∙◌, arith, append_assoc}
use Rattle.std.specs.Prelude.{decimal}
use Rattle.std.specs.List.{list_all}
use Rattle.std.specs.Str.{bytes_eq}
use Rattle.std.proofs.lemmas.Bool.{and_parts}
use Rattle.std.proofs.lemmas.Bool.Decides.{nat_tests}
use Rattle.cluster_model.specs.declared.ids.NodeId.{NodeId}
use Rattle.cluster_model.specs.declared.ids.NodeId.TheVariants.{Server, Client}
use Rattle.cluster_model.specs.declared.ids.FileId.{FileId}
use Rattle.cluster_model.specs.declared.ids.Cred.{Cred}
use Rattle.cluster_model.specs.declared.phase.Phase.{Phase}
use Rattle.cluster_model.specs.declared.phase.Phase.TheVariants as phase
use Rattle.cluster_model.specs.declared.phase.EndCause.{EndCause}
use Rattle.cluster_model.specs.declared.phase.EndCause.TheVariants as ending
use Rattle.cluster_model.specs.declared.phase.LeftCause.{LeftCause}
use Rattle.cluster_model.specs.declared.phase.LeftCause.TheVariants as leaving
use Rattle.cluster_model.specs.declared.answer.FailCause.{FailCause}
use Rattle.cluster_model.specs.declared.answer.FailCause.TheVariants as failing
use Rattle.cluster_model.specs.declared.answer.UserAnswer.{UserAnswer}
use Rattle.cluster_model.specs.declared.answer.UserAnswer.TheVariants as answer
use Rattle.cluster_model.specs.declared.entry.Entry.{Entry}
use Rattle.cluster_model.specs.declared.entry.Entry.TheVariants.{Packet, Delivered, TimedOut, Hold, Pass, Tick, Granted, Sent, Rogue, Turned, Told, Ended, Left, Swapped, Fenced, Free, Applied, Committed, Owner, Restarted, ReadAnswer, Failed, Later, Answer, Audit, Rebooted}
use Rattle.cluster_model.specs.Wordings.{phase_text, end_text, left_words, fail_words, answer_words}
use Rattle.cluster_model.specs.Print.{node_text, mirror_text, words, words_of, print}
use Rattle.cluster_model.specs.Prints.{Fits32, Fits64, FitsLeft, FitsFail, FitsAnswer, FitsEntry, FitsJournal}
use Rattle.journal_print.proofs.Reading.{Above, Above-decimal, wide, number_in, number_again, bytes_in, bytes_again, bytes_word, flag_in, flag_again, flag_word, node_in, node_again, node_word, mirror_in, mirror_again, mirror_word, old_in, old_again, old_word, mirrors_in, mirrors_again, mirrors_word, pieces_in, pieces_again, pieces_word}

-- ---- what words were written of

-- the word of this place
abbrev at : List (List ℕ) → ℕ → List ℕ
at ws i = get_or ws i []

-- what the words behind the first come to, by the row that the first one names
chosen : {T : Type 0} → T → List (List ℕ × (List (List ℕ) → T)) → List (List ℕ) → T
chosen other [] ws = other
chosen other ((name, row) ∷ rows) ws = elim (bytes_eq (at ws 0) name) [ true ↦ row (drop 1 ws) | false ↦ chosen other rows ws ]

file_in : List ℕ → FileId
file_in s = record { 0 = number_in s }

cred_in : List ℕ → Cred
cred_in s = record { 0 = number_in s }

-- the number of a machine
number_of : NodeId → ℕ
number_of (Server n) = n
number_of (Client n) = n
number_of _ = 0

file_again : (f : FileId) → Fits32 f.0 → file_in (decimal f.0) ≡ f
unfolding file_in
file_again f h = rw (number_again f.0 (wide f.0 h)) refl

cred_again : (u : Cred) → Fits32 u.0 → cred_in (decimal u.0) ≡ u
unfolding cred_in
cred_again u h = rw (number_again u.0 (wide u.0 h)) refl

-- ---- phases, causes and answers

phase_in : List ℕ → Phase
phase_in s = chosen phase.Making (
    (codes "making", λ ws. phase.Making) ∷
    (codes "free", λ ws. phase.Free) ∷
    (codes "held", λ ws. phase.Held) ∷
    (codes "fencing", λ ws. phase.Fencing) ∷
    (codes "settling", λ ws. phase.Settling) ∷
    (codes "copying", λ ws. phase.Copying) ∷ []) (s ∷ [])

phase_again : (c : Phase) → phase_in (phase_text c) ≡ c
unfolding phase_in chosen
phase_again phase.Making = refl
phase_again phase.Free = refl
phase_again phase.Held = refl
phase_again phase.Fencing = refl
phase_again phase.Settling = refl
phase_again phase.Copying = refl

phase_word : (c : Phase) → Above 32 (phase_text c)
phase_word phase.Making = refl
phase_word phase.Free = refl
phase_word phase.Held = refl
phase_word phase.Fencing = refl
phase_word phase.Settling = refl
phase_word phase.Copying = refl

end_in : List ℕ → EndCause
end_in s = chosen ending.Own (
    (codes "returned", λ ws. ending.Returned) ∷
    (codes "own", λ ws. ending.Own) ∷
    (codes "allreported", λ ws. ending.AllReported) ∷
    (codes "recalled", λ ws. ending.Recalled) ∷
    (codes "lease", λ ws. ending.Lease) ∷
    (codes "nolayout", λ ws. ending.NoLayout) ∷
    (codes "clientgone", λ ws. ending.ClientGone) ∷
    (codes "returnedall", λ ws. ending.ReturnedAll) ∷ []) (s ∷ [])

end_again : (c : EndCause) → end_in (end_text c) ≡ c
unfolding end_in chosen
end_again ending.Returned = refl
end_again ending.Own = refl
end_again ending.AllReported = refl
end_again ending.Recalled = refl
end_again ending.Lease = refl
end_again ending.NoLayout = refl
end_again ending.ClientGone = refl
end_again ending.ReturnedAll = refl

end_word : (c : EndCause) → Above 32 (end_text c)
end_word ending.Returned = refl
end_word ending.Own = refl
end_word ending.AllReported = refl
end_word ending.Recalled = refl
end_word ending.Lease = refl
end_word ending.NoLayout = refl
end_word ending.ClientGone = refl
end_word ending.ReturnedAll = refl

left_in : List (List ℕ) → LeftCause
left_in ws = chosen leaving.Timeouts (
    (codes "reported", λ vs. leaving.Reported) ∷
    (codes "error", λ vs. leaving.Error (number_in (at vs 0))) ∷
    (codes "timeouts", λ vs. leaving.Timeouts) ∷
    (codes "unsynced", λ vs. leaving.Unsynced) ∷ []) ws

left_again : (c : LeftCause) → FitsLeft c → left_in (left_words c) ≡ c
unfolding left_in chosen
left_again leaving.Reported h = refl
left_again (leaving.Error status) h = ap leaving.Error (number_again status (wide status h))
left_again leaving.Timeouts h = refl
left_again leaving.Unsynced h = refl

fail_in : List (List ℕ) → FailCause
fail_in ws = chosen failing.Revoked (
    (codes "revoked", λ vs. failing.Revoked) ∷
    (codes "allmirrors", λ vs. failing.AllMirrors) ∷
    (codes "refused", λ vs. failing.Refused (number_in (at vs 0))) ∷ []) ws

fail_again : (c : FailCause) → FitsFail c → fail_in (fail_words c) ≡ c
unfolding fail_in chosen
fail_again failing.Revoked h = refl
fail_again failing.AllMirrors h = refl
fail_again (failing.Refused status) h = ap failing.Refused (number_again status (wide status h))

answer_in : List (List ℕ) → UserAnswer
answer_in ws = chosen answer.Written (
    (codes "opened", λ vs. answer.Opened (file_in (at vs 0))) ∷
    (codes "written", λ vs. answer.Written) ∷
    (codes "committed", λ vs. answer.Committed (number_in (at vs 0))) ∷
    (codes "bytes", λ vs. answer.Bytes (flag_in (at vs 0)) (bytes_in (at vs 1))) ∷
    (codes "returned", λ vs. answer.Returned) ∷
    (codes "failed", λ vs. answer.Failed (fail_in vs)) ∷ []) ws

answer_again : (a : UserAnswer) → FitsAnswer a → answer_in (answer_words a) ≡ a
unfolding answer_in chosen
answer_again (answer.Opened file) h = ap answer.Opened (file_again file h)
answer_again answer.Written h = refl
answer_again (answer.Committed writes) h = ap answer.Committed (number_again writes (wide writes h))
answer_again (answer.Bytes eof bytes) h = rw (flag_again eof, bytes_again bytes h) refl
answer_again answer.Returned h = refl
answer_again (answer.Failed why) h = ap answer.Failed (fail_again why h)

-- ---- entries

entry_in : List (List ℕ) → Entry
entry_in ws = chosen (Tick 0) (
    (codes "packet", λ vs. Packet (number_in (at vs 0)) (node_in (at vs 1)) (node_in (at vs 2)) (bytes_in (at vs 3))) ∷
    (codes "delivered", λ vs. Delivered (number_in (at vs 0))) ∷
    (codes "timedout", λ vs. TimedOut (node_in (at vs 0)) (number_in (at vs 1))) ∷
    (codes "hold", λ vs. Hold (node_in (at vs 0)) (node_in (at vs 1))) ∷
    (codes "pass", λ vs. Pass (node_in (at vs 0)) (node_in (at vs 1))) ∷
    (codes "tick", λ vs. Tick (number_in (at vs 0))) ∷
    (codes "granted", λ vs. Granted (file_in (at vs 0)) (cred_in (at vs 1)) (node_in (at vs 2))) ∷
    (codes "sent", λ vs. Sent (file_in (at vs 0)) (cred_in (at vs 1)) (number_in (at vs 2)) (bytes_in (at vs 3))) ∷
    (codes "rogue", λ vs. Rogue (file_in (at vs 0)) (cred_in (at vs 1)) (number_in (at vs 2)) (bytes_in (at vs 3))) ∷
    (codes "turned", λ vs. Turned (number_of (node_in (at vs 0)))) ∷
    (codes "told", λ vs. Told (file_in (at vs 0)) (cred_in (at vs 1)) (number_in (at vs 2)) (bytes_in (at vs 3))) ∷
    (codes "ended", λ vs. Ended (file_in (at vs 0)) (cred_in (at vs 1)) (end_in (at vs 2))) ∷
    (codes "left", λ vs. Left (file_in (at vs 0)) (mirror_in (at vs 1)) (left_in (drop 2 vs))) ∷
    (codes "swapped", λ vs. Swapped (file_in (at vs 0)) (old_in (at vs 1)) (mirror_in (at vs 2))) ∷
    (codes "fenced", λ vs. Fenced (file_in (at vs 0)) (cred_in (at vs 1)) (cred_in (at vs 2)) (mirrors_in (at vs 3))) ∷
    (codes "free", λ vs. Free (file_in (at vs 0)) (mirrors_in (at vs 1))) ∷
    (codes "applied", λ vs. Applied (mirror_in (at vs 0)) (cred_in (at vs 1)) (number_in (at vs 2)) (bytes_in (at vs 3))) ∷
    (codes "committed", λ vs. Committed (mirror_in (at vs 0))) ∷
    (codes "owner", λ vs. Owner (mirror_in (at vs 0)) (cred_in (at vs 1))) ∷
    (codes "restarted", λ vs. Restarted (number_of (node_in (at vs 0))) (pieces_in (at vs 1))) ∷
    (codes "read", λ vs. ReadAnswer (file_in (at vs 0)) (number_in (at vs 1)) (bytes_in (at vs 2))) ∷
    (codes "failed", λ vs. Failed (mirror_in (at vs 0)) (number_in (at vs 1))) ∷
    (codes "later", λ vs. Later (file_in (at vs 0)) (phase_in (at vs 1))) ∷
    (codes "answer", λ vs. Answer (number_of (node_in (at vs 0))) (answer_in (drop 1 vs))) ∷
    (codes "audit", λ vs. Audit (file_in (at vs 0)) (mirror_in (at vs 1)) (number_in (at vs 2)) (bytes_in (at vs 3))) ∷
    (codes "rebooted", λ vs. Rebooted (number_of (node_in (at vs 0)))) ∷ []) ws

-- the words of an entry say it again
entry_again : (e : Entry) → FitsEntry e → entry_in (words_of e) ≡ e
unfolding entry_in chosen number_of
entry_again (Packet number from to bytes) h = rw (number_again number h.0, node_again from h.1, node_again to h.2, bytes_again bytes h.3) refl
entry_again (Delivered number) h = rw (number_again number h) refl
entry_again (TimedOut node xid) h = rw (node_again node h.0, number_again xid (wide xid h.1)) refl
entry_again (Hold from to) h = rw (node_again from h.0, node_again to h.1) refl
entry_again (Pass from to) h = rw (node_again from h.0, node_again to h.1) refl
entry_again (Tick seconds) h = rw (number_again seconds (wide seconds h)) refl
entry_again (Granted file cred holder) h = rw (file_again file h.0, cred_again cred h.1, node_again holder h.2) refl
entry_again (Sent file cred at bytes) h = rw (file_again file h.0, cred_again cred h.1, number_again at h.2, bytes_again bytes h.3) refl
entry_again (Rogue file cred at bytes) h = rw (file_again file h.0, cred_again cred h.1, number_again at h.2, bytes_again bytes h.3) refl
entry_again (Turned client) h = rw (node_again (Client client) h) refl
entry_again (Told file cred at bytes) h = rw (file_again file h.0, cred_again cred h.1, number_again at h.2, bytes_again bytes h.3) refl
entry_again (Ended file cred cause) h = rw (file_again file h.0, cred_again cred h.1, end_again cause) refl
entry_again (Left file mirror cause) h = rw (file_again file h.0, mirror_again mirror h.1, left_again cause h.2) refl
entry_again (Swapped file old new) h = rw (file_again file h.0, old_again old h.1, mirror_again new h.2) refl
entry_again (Fenced file old new live) h = rw (file_again file h.0, cred_again old h.1, cred_again new h.2, mirrors_again live h.3) refl
entry_again (Free file live) h = rw (file_again file h.0, mirrors_again live h.1) refl
entry_again (Applied mirror cred at bytes) h = rw (mirror_again mirror h.0, cred_again cred h.1, number_again at h.2, bytes_again bytes h.3) refl
entry_again (Committed mirror) h = rw (mirror_again mirror h) refl
entry_again (Owner mirror cred) h = rw (mirror_again mirror h.0, cred_again cred h.1) refl
entry_again (Restarted server pieces) h = rw (node_again (Server server) h.0, pieces_again pieces h.1) refl
entry_again (ReadAnswer file status bytes) h = rw (file_again file h.0, number_again status (wide status h.1), bytes_again bytes h.2) refl
entry_again (Failed mirror xid) h = rw (mirror_again mirror h.0, number_again xid (wide xid h.1)) refl
entry_again (Later file phase) h = rw (file_again file h, phase_again phase) refl
entry_again (Answer client said) h = rw (node_again (Client client) h.0, answer_again said h.1) refl
entry_again (Audit file mirror size bytes) h = rw (file_again file h.0, mirror_again mirror h.1, number_again size h.2, bytes_again bytes h.3) refl
entry_again (Rebooted client) h = rw (node_again (Client client) h) refl

-- ---- lines

-- each is a word, and there is one
abbrev AreWords : List (List ℕ) → Type 0
AreWords [] = ⊥
AreWords (w ∷ []) = Above 32 w
AreWords (w ∷ v ∷ ws) = Above 32 w × AreWords (v ∷ ws)

in_front : (w : List ℕ) (ws : List (List ℕ)) → Above 32 w → AreWords ws → AreWords (w ∷ ws)
in_front w [] hw h = absurd h
in_front w (v ∷ vs) hw h = (hw, h)

word64 : (n : ℕ) → Fits64 n → Above 32 (decimal n)
word64 n h = Above-decimal 32 n (omega arith) h

word32 : (n : ℕ) → Fits32 n → Above 32 (decimal n)
word32 n h = word64 n (wide n h)

left_are : (c : LeftCause) → FitsLeft c → AreWords (left_words c)
left_are leaving.Reported h = refl
left_are (leaving.Error status) h = (refl, word32 status h)
left_are leaving.Timeouts h = refl
left_are leaving.Unsynced h = refl

fail_are : (c : FailCause) → FitsFail c → AreWords (fail_words c)
fail_are failing.Revoked h = refl
fail_are failing.AllMirrors h = refl
fail_are (failing.Refused status) h = (refl, word32 status h)

answer_are : (a : UserAnswer) → FitsAnswer a → AreWords (answer_words a)
answer_are (answer.Opened file) h = (refl, word32 file.0 h)
answer_are answer.Written h = refl
answer_are (answer.Committed writes) h = (refl, word32 writes h)
answer_are (answer.Bytes eof bytes) h = (refl, (flag_word eof, bytes_word bytes h))
answer_are answer.Returned h = refl
answer_are (answer.Failed why) h = in_front (codes "failed") (fail_words why) refl (fail_are why h)

entry_are : (e : Entry) → FitsEntry e → AreWords (words_of e)
entry_are (Packet number from to bytes) h = (refl, (word64 number h.0, (node_word from h.1, (node_word to h.2, bytes_word bytes h.3))))
entry_are (Delivered number) h = (refl, word64 number h)
entry_are (TimedOut node xid) h = (refl, (node_word node h.0, word32 xid h.1))
entry_are (Hold from to) h = (refl, (node_word from h.0, node_word to h.1))
entry_are (Pass from to) h = (refl, (node_word from h.0, node_word to h.1))
entry_are (Tick seconds) h = (refl, word32 seconds h)
entry_are (Granted file cred holder) h = (refl, (word32 file.0 h.0, (word32 cred.0 h.1, node_word holder h.2)))
entry_are (Sent file cred at bytes) h = (refl, (word32 file.0 h.0, (word32 cred.0 h.1, (word64 at h.2, bytes_word bytes h.3))))
entry_are (Rogue file cred at bytes) h = (refl, (word32 file.0 h.0, (word32 cred.0 h.1, (word64 at h.2, bytes_word bytes h.3))))
entry_are (Turned client) h = (refl, node_word (Client client) h)
entry_are (Told file cred at bytes) h = (refl, (word32 file.0 h.0, (word32 cred.0 h.1, (word64 at h.2, bytes_word bytes h.3))))
entry_are (Ended file cred cause) h = (refl, (word32 file.0 h.0, (word32 cred.0 h.1, end_word cause)))
entry_are (Left file mirror cause) h = (refl, (word32 file.0 h.0, in_front (mirror_text mirror) (left_words cause) (mirror_word mirror h.1) (left_are cause h.2)))
entry_are (Swapped file old new) h = (refl, (word32 file.0 h.0, (old_word old h.1, mirror_word new h.2)))
entry_are (Fenced file old new live) h = (refl, (word32 file.0 h.0, (word32 old.0 h.1, (word32 new.0 h.2, mirrors_word live h.3))))
entry_are (Free file live) h = (refl, (word32 file.0 h.0, mirrors_word live h.1))
entry_are (Applied mirror cred at bytes) h = (refl, (mirror_word mirror h.0, (word32 cred.0 h.1, (word64 at h.2, bytes_word bytes h.3))))
entry_are (Committed mirror) h = (refl, mirror_word mirror h)
entry_are (Owner mirror cred) h = (refl, (mirror_word mirror h.0, word32 cred.0 h.1))
entry_are (Restarted server pieces) h = (refl, (node_word (Server server) h.0, pieces_word pieces h.1))
entry_are (ReadAnswer file status bytes) h = (refl, (word32 file.0 h.0, (word32 status h.1, bytes_word bytes h.2)))
entry_are (Failed mirror xid) h = (refl, (mirror_word mirror h.0, word32 xid h.1))
entry_are (Later file phase) h = (refl, (word32 file.0 h, phase_word phase))
entry_are (Answer client said) h = (refl, in_front (node_text (Client client)) (answer_words said) (node_word (Client client) h.0) (answer_are said h.1))
entry_are (Audit file mirror size bytes) h = (refl, (word32 file.0 h.0, (mirror_word mirror h.1, (word64 size h.2, bytes_word bytes h.3))))
entry_are (Rebooted client) h = (refl, node_word (Client client) h)

-- Texts above k and behind each a byte that is not: where the whole is one, so are the parts.
cut : (k c d : ℕ) (w v r s : List ℕ) → c ≤ k → d ≤ k → Above k w → Above k v
    → w ++ c ∷ r ≡ v ++ d ∷ s → (w ≡ v) × (c ≡ d) × (r ≡ s)
cut k c d [] [] r s hc hd hw hv e = (refl, cc, cc)
cut k c d [] (y ∷ v) r s hc hd hw hv e =
    let same : c ≡ y = cc in
    let above = and_parts (nat_lt k y) (list_all (nat_lt k) v) hv in
    absurd (grind (arith, nat_tests))
cut k c d (x ∷ w) [] r s hc hd hw hv e =
    let same : x ≡ d = cc in
    let above = and_parts (nat_lt k x) (list_all (nat_lt k) w) hw in
    absurd (grind (arith, nat_tests))
cut k c d (x ∷ w) (y ∷ v) r s hc hd hw hv e =
    let same : x ≡ y = cc in
    let rest : w ++ c ∷ r ≡ v ++ d ∷ s = cc in
    let one = and_parts (nat_lt k x) (list_all (nat_lt k) w) hw in
    let two = and_parts (nat_lt k y) (list_all (nat_lt k) v) hv in
    let ih = cut k c d w v r s hc hd one.1 two.1 rest in
    (cc, ih.1, ih.2)

-- a line of words, with more behind it
words_injective : (ws vs : List (List ℕ)) (r s : List ℕ) → AreWords ws → AreWords vs → words ws ++ r ≡ words vs ++ s → (ws ≡ vs) × (r ≡ s)
words_injective [] vs r s hw hv e = absurd hw
words_injective (w ∷ []) [] r s hw hv e = absurd hv
words_injective (w ∷ w2 ∷ ws) [] r s hw hv e = absurd hv
words_injective (w ∷ []) (v ∷ []) r s hw hv e =
    let parts = cut 32 10 10 w v r s (omega arith) (omega arith) hw hv (simp append_assoc at e) in (ap (λ x. x ∷ []) parts.0, parts.2)
words_injective (w ∷ []) (v ∷ v2 ∷ vs) r s hw hv e =
    let parts = cut 32 10 32 w v r (words (v2 ∷ vs) ++ s) (omega arith) (omega arith) hw hv.0 (simp append_assoc at e) in
    absurd (omega (arith, parts.1))
words_injective (w ∷ w2 ∷ ws) (v ∷ []) r s hw hv e =
    let parts = cut 32 32 10 w v (words (w2 ∷ ws) ++ r) s (omega arith) (omega arith) hw.0 hv (simp append_assoc at e) in
    absurd (omega (arith, parts.1))
words_injective (w ∷ w2 ∷ ws) (v ∷ v2 ∷ vs) r s hw hv e =
    let parts = cut 32 32 32 w v (words (w2 ∷ ws) ++ r) (words (v2 ∷ vs) ++ s) (omega arith) (omega arith) hw.0 hv.0 (simp append_assoc at e) in
    let ih = words_injective (w2 ∷ ws) (v2 ∷ vs) r s hw.1 hv.1 parts.2 in (cc, ih.1)

-- no line is empty
some_words : (ws : List (List ℕ)) (r : List ℕ) → words ws ++ r ≡ [] → ⊥
some_words [] r h = cc
some_words ([] ∷ []) r h = cc
some_words ((b ∷ w) ∷ []) r h = cc
some_words ([] ∷ v ∷ vs) r h = cc
some_words ((b ∷ w) ∷ v ∷ vs) r h = cc

pub same_from_print : (a b : List Entry) → FitsJournal a → FitsJournal b → print a ≡ print b → a ≡ b
same_from_print [] [] ha hb e = refl
same_from_print [] (y ∷ b) ha hb e = absurd (some_words (words_of y) (print b) (sym e))
same_from_print (x ∷ a) [] ha hb e = absurd (some_words (words_of x) (print a) e)
same_from_print (x ∷ a) (y ∷ b) ha hb e =
    let parts = words_injective (words_of x) (words_of y) (print a) (print b) (entry_are x ha.0) (entry_are y hb.0) e in
    let one : x ≡ y = sym (entry_again x ha.0) ∙ ap entry_in parts.0 ∙ entry_again y hb.0 in
    let rest = same_from_print a b ha.1 hb.1 parts.1 in
    cc
