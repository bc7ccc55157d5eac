-- What a journal says of one mirror.
use Rattle.std.specs.Prelude.{ℕ, Bool, ◌&&◌, ◌==◌, if◌then◌else◌, List, [], ◌∷◌}
use Rattle.cluster_model.specs.declared.ids.MirrorId.{MirrorId}
use Rattle.cluster_model.specs.declared.entry.Entry.{Entry}
use Rattle.cluster_model.specs.declared.entry.Entry.TheVariants.{Applied, Committed, Owner, Restarted}
use Rattle.cluster_model.specs.Content.{Content, no_content, joined, settled, survived, pieces_of}

-- the bytes of a mirror, and the user that it belongs to
pub record Copy : Type 0 where
  pub content : Content
  pub owner : ℕ

-- before the first entry
abbrev pub no_copy : Copy
no_copy = record { content = no_content; owner = 0 }

abbrev pub is_mirror : MirrorId → MirrorId → Bool
is_mirror a b = a.server == b.server && a.fileid == b.fileid

-- what an entry says of a mirror: four kinds say something
abbrev pub copy_after : MirrorId → Copy → Entry → Copy
copy_after m c (Applied mirror cred at bytes) = if is_mirror mirror m then record { content = joined c.content at bytes; owner = c.owner } else c
copy_after m c (Committed mirror) = if is_mirror mirror m then record { content = settled c.content; owner = c.owner } else c
copy_after m c (Owner mirror cred) = if is_mirror mirror m then record { content = c.content; owner = cred.0 } else c
copy_after m c (Restarted server pieces) = if server == m.server then record { content = survived c.content (pieces_of m.fileid pieces); owner = c.owner } else c
copy_after m c _ = c

abbrev pub copy_by : MirrorId → Copy → List Entry → Copy
copy_by m c [] = c
copy_by m c (entry ∷ entries) = copy_by m (copy_after m c entry) entries

-- a mirror after a journal
abbrev pub content_of : List Entry → MirrorId → Copy
content_of journal m = copy_by m no_copy journal
