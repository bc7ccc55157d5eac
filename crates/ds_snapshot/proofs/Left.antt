-- What is left of a snapshot, one body on.
use Rattle.std.proofs.Common.{◌≡◌, ℕ, ◌+◌, ◌<◌, ◌≤◌, List, [], ◌∷◌, ◌++◌, length, drop, Option, Some, None, refl, sym, ap, ◌∙◌, arith, inl, inr}
use Rattle.std.specs.Prelude.{slice_get, option_map}
use Rattle.std.proofs.lemmas.List.{drop_all}
use Rattle.std.proofs.lemmas.Option.{slice_get-map, slice_get_cases, slice_get_past}
use Rattle.cluster_model.specs.File.{StoredFile, restarted}
use Rattle.cluster_model.specs.Server.{ServerState}
use Rattle.ds_log.specs.Bodies.{Logged}
use Rattle.ds_log.specs.Durable.{durable}
use Rattle.ds_snapshot.specs.Snapshots.{chunk_at, chunk_count, chunk_bodies, file_body, file_bodies, files_bodies}
use Rattle.ds_snapshot.specs.NextBodies.{files_from, chunks_from}
use Rattle.ds_snapshot.proofs.Chunks.{drop_at_place, holds, chunk_next, chunks_done}

-- what lasts of a file
abbrev pub left : StoredFile → StoredFile
left f = restarted f []

-- ---- the file at an index

file_next : (s : ServerState) (index : ℕ) (name : List ℕ) (f : StoredFile) → slice_get s.names index ≡ Some name → slice_get s.files index ≡ Some f
    → files_from s index ≡ file_body (index + 2) name f ∷ (chunk_bodies (index + 2) f ++ files_from s (index + 1))
file_next s index name f named there =
    let fileid : index + 2 + 1 ≡ index + 1 + 2 = omega arith in
    (λ i. files_bodies (index + 2) (drop_at_place s.names index name named i) (drop_at_place s.files index f there i))
    ∙ ap (λ (n : ℕ). file_body (index + 2) name f ∷ (chunk_bodies (index + 2) f ++ files_bodies n (drop (index + 1) s.names) (drop (index + 1) s.files))) fileid

past : {X : Type 0} (xs : List X) (index : ℕ) → None ≡ slice_get xs index → drop index xs ≡ []
past xs index none =
    elim (slice_get_cases xs index).1 [
      | inl found ↦ absurd (cc (none, found.2))
      | inr end ↦ drop_all index xs end.0
    ]

no_files : (fileid : ℕ) (names : List (List ℕ)) → files_bodies fileid names [] ≡ []
no_files fileid [] = refl
no_files fileid (name ∷ names) = refl

no_file : (s : ServerState) (index : ℕ) → None ≡ slice_get s.files index → files_from s index ≡ []
no_file s index none = ap (files_bodies (index + 2) (drop index s.names)) (past s.files index none) ∙ no_files (index + 2) (drop index s.names)

no_name : (s : ServerState) (index : ℕ) → None ≡ slice_get s.names index → files_from s index ≡ []
no_name s index none = ap (λ (names : List (List ℕ)). files_bodies (index + 2) names (drop index s.files)) (past s.names index none)

-- ---- of what lasts of a server

module _ (s : ServerState) (index : ℕ) where
  lasts_at : (f : StoredFile) → Some f ≡ slice_get s.files index → slice_get (durable s).files index ≡ Some (left f)
  lasts_at f there = slice_get-map left s.files index ∙ ap (option_map left) (sym there)

  none_at : None ≡ slice_get s.files index → None ≡ slice_get (durable s).files index
  none_at none = sym (slice_get-map left s.files index ∙ ap (option_map left) (sym none))

  pub no_file_left : None ≡ slice_get s.files index → files_from (durable s) index ≡ []
  no_file_left none = no_file (durable s) index (none_at none)

  pub no_name_left : None ≡ slice_get s.names index → files_from (durable s) index ≡ []
  no_name_left none = no_name (durable s) index none

  pub file_left : (name : List ℕ) (f : StoredFile) → Some name ≡ slice_get s.names index → Some f ≡ slice_get s.files index
      → files_from (durable s) index ≡ file_body (index + 2) name (left f) ∷ (chunks_from index 0 (slice_get (durable s).files index) ++ files_from (durable s) (index + 1))
  file_left name f named there =
      file_next (durable s) index name (left f) (sym named) (lasts_at f there)
      ∙ ap (λ (o : Option StoredFile). file_body (index + 2) name (left f) ∷ (chunks_from index 0 o ++ files_from (durable s) (index + 1))) (sym (lasts_at f there))

  -- no file has this index, so none has a later one
  pub no_chunk_left : (chunk : ℕ) → None ≡ slice_get s.files index → chunks_from index chunk (slice_get (durable s).files index) ++ files_from (durable s) (index + 1) ≡ []
  no_chunk_left chunk none =
      ap (λ (o : Option StoredFile). chunks_from index chunk o ++ files_from (durable s) (index + 1)) (sym (none_at none))
      ∙ no_file (durable s) (index + 1) (later none)
    where
      later : None ≡ slice_get s.files index → None ≡ slice_get (durable s).files (index + 1)
      later none =
          elim (slice_get_cases (durable s).files index).1 [
            | inl found ↦ absurd (cc (none_at none, found.2))
            | inr end ↦ sym (slice_get_past (durable s).files (index + 1) (omega (arith, end.0)))
          ]

  module _ (f : StoredFile) (there : Some f ≡ slice_get s.files index) (chunk : ℕ) where
    pub file_done : chunk_count (length f.content.stable) ≤ chunk → chunks_from index chunk (slice_get (durable s).files index) ++ files_from (durable s) (index + 1) ≡ files_from (durable s) (index + 1)
    file_done le =
        ap (λ (o : Option StoredFile). chunks_from index chunk o ++ files_from (durable s) (index + 1)) (lasts_at f there)
        ∙ ap (λ (bodies : List Logged). bodies ++ files_from (durable s) (index + 1)) (chunks_done (index + 2) (left f) chunk le)

    pub chunk_left : chunk < chunk_count (length f.content.stable) → chunks_from index chunk (slice_get (durable s).files index) ++ files_from (durable s) (index + 1)
        ≡ holds (index + 2) (left f) (chunk_at f.content.stable chunk) ∷ (chunks_from index (chunk + 1) (slice_get (durable s).files index) ++ files_from (durable s) (index + 1))
    chunk_left less =
        ap (λ (o : Option StoredFile). chunks_from index chunk o ++ files_from (durable s) (index + 1)) (lasts_at f there)
        ∙ ap (λ (bodies : List Logged). bodies ++ files_from (durable s) (index + 1)) (chunk_next (index + 2) (left f) chunk less)
        ∙ ap (λ (o : Option StoredFile). holds (index + 2) (left f) (chunk_at f.content.stable chunk) ∷ (chunks_from index (chunk + 1) o ++ files_from (durable s) (index + 1))) (sym (lasts_at f there))

  pub file_there : (name : List ℕ) (f : StoredFile) → Some name ≡ slice_get s.names index → Some f ≡ slice_get s.files index → files_from (durable s) index ≡ file_bodies (index + 2) name (left f) ++ files_from (durable s) (index + 1)
  file_there name f named there = file_next (durable s) index name (left f) (sym named) (lasts_at f there)
