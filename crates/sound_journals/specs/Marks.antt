-- What a mirror had of one user's writes: since its server's last restart, and before a COMMIT (RFC 1813, sections 3.3.7 and 3.3.21).
use Rattle.std.specs.Prelude.{ℕ, Bool, ◌&&◌, ◌==◌, List, [], ◌∷◌, ◌++◌, if◌then◌else◌}
use Rattle.cluster_model.specs.declared.ids.MirrorId.{MirrorId}
use Rattle.cluster_model.specs.declared.entry.Entry.{Entry}
use Rattle.cluster_model.specs.declared.entry.Entry.TheVariants.{Applied, Committed, Restarted}
use Rattle.cluster_model.specs.Content.{Pending}
use Rattle.cluster_model.specs.Journal.{is_mirror}
use Rattle.cluster_laws.specs.Holders.{the_write}

-- what was applied under it since the last restart; and what was applied before a COMMIT, in the same boot
pub record UserMarks : Type 0 where
  pub here : List Pending
  pub covered : List Pending

abbrev pub no_marks : UserMarks
no_marks = record { here = []; covered = [] }

abbrev pub marks_after : ℕ → MirrorId → UserMarks → Entry → UserMarks
marks_after uid m k (Applied mirror cred at bytes) = if is_mirror mirror m && (cred.0 == uid) then record { here = the_write at bytes ∷ k.here; covered = k.covered } else k
marks_after uid m k (Committed mirror) = if is_mirror mirror m then record { here = k.here; covered = k.here ++ k.covered } else k
marks_after uid m k (Restarted server pieces) = if server == m.server then record { here = []; covered = k.covered } else k
marks_after uid m k _ = k

abbrev pub marks_by : ℕ → MirrorId → UserMarks → List Entry → UserMarks
marks_by uid m k [] = k
marks_by uid m k (e ∷ entries) = marks_by uid m (marks_after uid m k e) entries

-- of a whole journal
abbrev pub marks_of : List Entry → ℕ → MirrorId → UserMarks
marks_of journal uid m = marks_by uid m no_marks journal
