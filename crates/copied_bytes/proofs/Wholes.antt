-- A mirror whose bytes are all stable, with nothing pending, stays so unless a write is applied there.
use Rattle.std.proofs.Common.{◌≡◌, ℕ, Bool, true, false, eqb, cond, List, [], ◌∷◌, refl, sym, ap, subst, ◌∙◌}
use Rattle.std.specs.List.{AllByRecursion}
use Rattle.std.proofs.lemmas.Bool.{and_parts, eqb-true}
use Rattle.cluster_model.specs.declared.piece.Piece.{Piece}
use Rattle.cluster_model.specs.declared.ids.MirrorId.{MirrorId}
use Rattle.cluster_model.specs.declared.entry.Entry.{Entry}
use Rattle.cluster_model.specs.declared.entry.Entry.TheVariants as entry
use Rattle.cluster_model.specs.Content.{Content, overlay_all, shown_of, settled, survived, kept_of, pieces_of}
use Rattle.cluster_model.specs.Journal.{Copy, is_mirror, copy_after, copy_by}
use Rattle.cluster_laws.specs.Agreement.{Has}
use Rattle.cluster_laws.proofs.KnownNow.{id_by}
use Rattle.machine_walk.proofs.Writers.{is_applied}

-- all of these bytes are stable, and nothing is pending
abbrev pub whole_of : List ℕ → Content
whole_of bytes = record { stable = bytes; pending = [] }

pub record IsWhole (bytes : List ℕ) (c : Content) : Type 0 where
  pub is : c ≡ whole_of bytes

pub whole_has : (bytes : List ℕ) (c : Content) → IsWhole bytes c → Has bytes c
whole_has bytes c h = subst (Has bytes) (sym h.is) (record { shown = refl; stable = refl; pending = tt })

pub whole_shown : (bytes : List ℕ) (c : Content) → IsWhole bytes c → shown_of c ≡ bytes
whole_shown bytes c h = ap shown_of h.is

pub whole_settled : (bytes : List ℕ) (c : Content) → IsWhole bytes c → IsWhole bytes (settled c)
whole_settled bytes c h = record { is = ap settled h.is }

-- COMMIT leaves it so
pub settled_whole : (c : Content) → IsWhole (shown_of c) (settled c)
settled_whole c = record { is = refl }

none_kept : (pieces : List Piece) → kept_of [] pieces ≡ []
none_kept [] = refl
none_kept (p ∷ pieces) = none_kept pieces

pub whole_survived : (bytes : List ℕ) (c : Content) (pieces : List Piece) → IsWhole bytes c → IsWhole bytes (survived c pieces)
whole_survived bytes c pieces h = record { is = ap (λ x. survived x pieces) h.is ∙ ap (λ ws. record { stable = overlay_all bytes ws; pending = [] }) (none_kept pieces) }

-- ---- by an entry

cond_whole : (bytes : List ℕ) (b : Bool) (x y : Copy) → IsWhole bytes x.content → IsWhole bytes y.content → IsWhole bytes (cond b x y).content
cond_whole bytes true x y h k = h
cond_whole bytes false x y h k = k

pub whole_after : (id : MirrorId) (bytes : List ℕ) (c : Copy) (e : Entry) → is_applied e ≡ false → IsWhole bytes c.content → IsWhole bytes (copy_after id c e).content
whole_after id bytes c (entry.Applied mirror cred at more) off h = absurd cc
whole_after id bytes c (entry.Committed mirror) off h = cond_whole bytes (is_mirror mirror id) (record { content = settled c.content; owner = c.owner }) c (whole_settled bytes c.content h) h
whole_after id bytes c (entry.Owner mirror cred) off h = cond_whole bytes (is_mirror mirror id) (record { content = c.content; owner = cred.0 }) c h h
whole_after id bytes c (entry.Restarted server pieces) off h = cond_whole bytes (eqb server id.server) (record { content = survived c.content (pieces_of id.fileid pieces); owner = c.owner }) c (whole_survived bytes c.content (pieces_of id.fileid pieces) h) h
whole_after id bytes c _ off h = h

pub whole_by : (id : MirrorId) (bytes : List ℕ) (entries : List Entry) (c : Copy) → AllByRecursion (λ e. is_applied e ≡ false) entries → IsWhole bytes c.content → IsWhole bytes (copy_by id c entries).content
whole_by id bytes [] c off h = h
whole_by id bytes (e ∷ entries) c off h = whole_by id bytes entries (copy_after id c e) off.1 (whole_after id bytes c e off.0 h)

-- the same mirror
pub is_that : (a b : MirrorId) → is_mirror a b ≡ true → a ≡ b
is_that a b e =
    let parts = and_parts (eqb a.server b.server) (eqb a.fileid b.fileid) e in
    id_by a b.server b.fileid (eqb-true _ _ parts.0) (eqb-true _ _ parts.1)
