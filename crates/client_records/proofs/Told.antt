-- Writes that are told, one after the other.
use Rattle.std.proofs.Common.{◌≡◌, ℕ, List, [], ◌∷◌, ◌++◌, length, Option, Some, None, refl, sym, subst}
use Rattle.std.specs.Prelude.{slice_get, not}
use Rattle.std.specs.List.{filter}
use Rattle.std.proofs.lemmas.List.{append_assoc, append-nil}
use Rattle.cluster_model.specs.declared.entry.Entry.TheVariants.{Told}
use Rattle.mirror_writer.specs.declared.call.TakenWrite.{TakenWrite}
use Rattle.mirror_writer.specs.Writers.{WriterValue}
use Rattle.mirror_writer.specs.Outstanding.{is_covered_everywhere}
use Rattle.client_file_calls.specs.declared.open.OpenFile.{OpenFile}
use Rattle.client_state.specs.declared.layout.Layout.{Layout}
use Rattle.client_state.specs.ClientStates.{ClientValue}
use Rattle.client_answers.specs.ClientMirrors.{told_entry, told_entries, counted_on, tells, tells_covered}
use Rattle.client_laws.specs.ClientHistory.{HistoryItem, Enters, entered, Each}
use Rattle.client_laws.proofs.Stands.{Every}
use Rattle.client_records.proofs.Joins.{RunKeeps}
use Rattle.client_records.proofs.Cases.{Adds}

-- a taken write may be told, as M says
abbrev pub MayTell : (List HistoryItem → ℕ → ℕ → List ℕ → Type 0) → List HistoryItem → WriterValue → ℕ → Type 0
MayTell M past w n = (t : TakenWrite) → slice_get w.taken n ≡ Some t → M past w.cred t.at t.bytes

record Tells (I : List HistoryItem → ClientValue → Type 0) (P : List HistoryItem → HistoryItem → Type 0) (past : List HistoryItem) (c : ClientValue) (items : List HistoryItem) : Type 0 where
  each : Each P past items
  keeps : I (past ++ items) c

module _ (I : List HistoryItem → ClientValue → Type 0) (P : List HistoryItem → HistoryItem → Type 0) (M : List HistoryItem → ℕ → ℕ → List ℕ → Type 0)
    (more : (past : List HistoryItem) (item : HistoryItem) (cred at : ℕ) (bytes : List ℕ) → M past cred at bytes → M (past ++ item ∷ []) cred at bytes)
    (one : (past : List HistoryItem) (c : ClientValue) (file : OpenFile) (cred at : ℕ) (bytes : List ℕ) → M past cred at bytes → I past c → Adds I P past (Enters (Told file.file (record { 0 = cred }) at bytes)) c) where
  each_later : (past : List HistoryItem) (item : HistoryItem) (w : WriterValue) (ns : List ℕ) → Every (MayTell M past w) ns → Every (MayTell M (past ++ item ∷ []) w) ns
  each_later past item w [] all = tt
  each_later past item w (n ∷ ns) all = (λ t there. more past item w.cred t.at t.bytes (all.0 t there), each_later past item w ns all.1)

  told_keep : (file : OpenFile) (w : WriterValue) (ns : List ℕ) (past : List HistoryItem) (c : ClientValue) → Every (MayTell M past w) ns → I past c → Tells I P past c (entered (told_entries file w ns))
  told_keep file w [] past c all i = record { each = tt; keeps = subst (λ h. I h c) (sym (append-nil past)) i }
  told_keep file w (n ∷ ns) past c all i =
      by_write (slice_get w.taken n) refl (told_keep file w ns past c all.1 i) (λ item j. told_keep file w ns (past ++ item ∷ []) c (each_later past item w ns all.1) j)
    where
      by_write : (o : Option TakenWrite) → slice_get w.taken n ≡ o → Tells I P past c (entered (told_entries file w ns)) → ((item : HistoryItem) → I (past ++ item ∷ []) c → Tells I P (past ++ item ∷ []) c (entered (told_entries file w ns)))
          → Tells I P past c (entered (told_entry file w.cred o ++ told_entries file w ns))
      by_write None there rest further = rest
      by_write (Some t) there rest further =
          let item : HistoryItem = Enters (Told file.file (record { 0 = w.cred }) t.at t.bytes) in
          let g = one past c file w.cred t.at t.bytes (all.0 t there) i in
          let behind : Tells I P (past ++ item ∷ []) c (entered (told_entries file w ns)) = further item g.1 in
          record { each = (g.0, behind.each); keeps = subst (λ h. I h c) (append_assoc past (item ∷ []) (entered (told_entries file w ns))) behind.keeps }

  pub tells_keep : (past : List HistoryItem) (file : OpenFile) (w : WriterValue) (ns : List ℕ) (c : ClientValue) → Every (MayTell M past w) ns → I past (record c { told = counted_on c.told (length ns) }) → RunKeeps I P past (tells file w ns c)
  tells_keep past file w ns c all i =
      let t : Tells I P past (record c { told = counted_on c.told (length ns) }) (entered (told_entries file w ns)) = told_keep file w ns past (record c { told = counted_on c.told (length ns) }) all i in
      record { entries = t.each; keeps = t.keeps }

any_tell : (past : List HistoryItem) (w : WriterValue) (ns : List ℕ) → Every (MayTell (λ past cred at bytes. Unit {0}) past w) ns
any_tell past w [] = tt
any_tell past w (n ∷ ns) = (λ t there. tt, any_tell past w ns)

-- whatever is told
pub any_tells : (I : List HistoryItem → ClientValue → Type 0) (P : List HistoryItem → HistoryItem → Type 0)
    → ((past : List HistoryItem) (c : ClientValue) (file : OpenFile) (cred at : ℕ) (bytes : List ℕ) → I past c → Adds I P past (Enters (Told file.file (record { 0 = cred }) at bytes)) c)
    → (past : List HistoryItem) (file : OpenFile) (w : WriterValue) (ns : List ℕ) (c : ClientValue) → I past (record c { told = counted_on c.told (length ns) }) → RunKeeps I P past (tells file w ns c)
any_tells I P one past file w ns c i =
    tells_keep I P (λ past cred at bytes. Unit {0}) (λ past item cred at bytes m. tt) (λ past c file cred at bytes m i. one past c file cred at bytes i) past file w ns c (any_tell past w ns) i

pub any_covers : (I : List HistoryItem → ClientValue → Type 0) (P : List HistoryItem → HistoryItem → Type 0)
    → ((past : List HistoryItem) (c : ClientValue) (file : OpenFile) (cred at : ℕ) (bytes : List ℕ) → I past c → Adds I P past (Enters (Told file.file (record { 0 = cred }) at bytes)) c)
    → (past : List HistoryItem) (file : OpenFile) (l : Layout) (c : ClientValue) → ((untold : List ℕ) (told : ℕ) → I past (record c { layout = Some (record l { untold = untold }); told = told })) → RunKeeps I P past (tells_covered file (Some l) c)
any_covers I P one past file l c i =
    let left : List ℕ = filter (λ n. not (is_covered_everywhere l.writer n)) l.untold in
    any_tells I P one past file l.writer (filter (is_covered_everywhere l.writer) l.untold) (record c { layout = Some (record l { untold = left }) }) (i left (counted_on c.told (length (filter (is_covered_everywhere l.writer) l.untold))))
