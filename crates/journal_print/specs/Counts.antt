-- How many entries of each kind there are.
use Rattle.std.specs.Prelude.{ℕ, Bool, List, [], ◌∷◌, codes, decimal, count_by, ◌==◌, if◌then◌else◌}
use Rattle.std.specs.List.{flat_map, zip}
use Rattle.std.specs.Str.{bytes_eq}
use Rattle.cluster_model.specs.declared.entry.Entry.{Entry}
use Rattle.cluster_model.specs.Print.{words, words_of}

-- the first words of lines, in the order of the journal's kinds
abbrev pub kinds : List (List ℕ)
kinds =
    codes "packet"
    ∷ codes "delivered"
    ∷ codes "timedout"
    ∷ codes "hold"
    ∷ codes "pass"
    ∷ codes "tick"
    ∷ codes "granted"
    ∷ codes "sent"
    ∷ codes "rogue"
    ∷ codes "turned"
    ∷ codes "told"
    ∷ codes "ended"
    ∷ codes "left"
    ∷ codes "swapped"
    ∷ codes "fenced"
    ∷ codes "free"
    ∷ codes "applied"
    ∷ codes "committed"
    ∷ codes "owner"
    ∷ codes "restarted"
    ∷ codes "read"
    ∷ codes "failed"
    ∷ codes "later"
    ∷ codes "answer"
    ∷ codes "audit"
    ∷ codes "rebooted"
    ∷ []

-- the first of some words
abbrev pub leading_word : List (List ℕ) → List ℕ
leading_word [] = []
leading_word (word ∷ rest) = word

-- the first word of an entry's line
abbrev pub kind_word : Entry → List ℕ
kind_word entry = leading_word (words_of entry)

-- its line begins with this word
abbrev pub is_of_kind : List ℕ → Entry → Bool
is_of_kind word entry = bytes_eq (kind_word entry) word

-- how many entries' lines begin with it
abbrev pub count_of_kind : List Entry → List ℕ → ℕ
count_of_kind entries word = count_by (is_of_kind word) entries

-- the line of a kind of which there are so many: no line where there are none
abbrev pub kind_line : List ℕ → ℕ → List ℕ
kind_line word count = if count == 0 then [] else words (word ∷ decimal count ∷ [])

-- the lines of kinds with these words, of which there are so many
unfoldable pub kind_lines : List (List ℕ) → List ℕ → List ℕ
kind_lines words numbers = flat_map (λ (p : List ℕ × ℕ). kind_line p.0 p.1) (zip words numbers)

-- what stands for a kind: nothing where no entry is of it
abbrev pub count_line : List Entry → List ℕ → List ℕ
count_line entries word = kind_line word (count_of_kind entries word)

-- the counts of a journal
unfoldable pub counts : List Entry → List ℕ
counts entries = flat_map (count_line entries) kinds
