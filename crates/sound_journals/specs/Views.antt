-- What a journal says of one file, as one fold over its entries: the live list, each mirror's bytes, what was written under each user, and
-- how its periods ended.
use Rattle.std.specs.Prelude.{ℕ, Bool, false, ◌&&◌, ◌||◌, ◌==◌, List, [], ◌∷◌, ◌++◌, Option, Some, None, if◌then◌else◌}
use Rattle.cluster_model.specs.declared.ids.FileId.{FileId}
use Rattle.cluster_model.specs.declared.ids.MirrorId.{MirrorId}
use Rattle.cluster_model.specs.declared.phase.EndCause.{EndCause}
use Rattle.cluster_model.specs.declared.entry.Entry.{Entry}
use Rattle.cluster_model.specs.declared.entry.Entry.TheVariants.{Free, Granted, Sent, Rogue, Ended}
use Rattle.cluster_model.specs.Content.{Pending, shown_of}
use Rattle.cluster_model.specs.Journal.{Copy, no_copy, copy_after}
use Rattle.cluster_laws.specs.FenceLaw.{is_file, live_after, is_among}
use Rattle.cluster_laws.specs.Holders.{the_write}
use Rattle.sound_journals.specs.Marks.{UserMarks, no_marks, marks_after}

pub record FileView : Type 0 where
  -- the bytes of the first live mirror at the last entry free, and the users that were granted the file since
  pub base : Option (List ℕ)
  pub periods : List ℕ
  pub live : Option (List MirrorId)
  pub copy : MirrorId → Copy
  pub marks : ℕ → MirrorId → UserMarks
  -- by the user: what it sent, what it sent after it left the protocol, and how its periods ended
  pub sent : ℕ → List Pending
  pub rogue : ℕ → List Pending
  pub causes : ℕ → List EndCause
  -- the mirror was live when the user was granted the file
  pub layout : ℕ → MirrorId → Bool

-- what the first live mirror shows
abbrev pub first_shown : (MirrorId → Copy) → Option (List MirrorId) → List ℕ
first_shown copy None = []
first_shown copy (Some []) = []
first_shown copy (Some (m ∷ live)) = shown_of (copy m).content

abbrev pub base_after : FileId → FileView → Entry → Option (List ℕ)
base_after f v (Free file mirrors) = if is_file file f then Some (first_shown v.copy (live_after f v.live (Free file mirrors))) else v.base
base_after f v _ = v.base

abbrev pub periods_after : FileId → List ℕ → Entry → List ℕ
periods_after f periods (Free file mirrors) = if is_file file f then [] else periods
periods_after f periods (Granted file cred holder) = if is_file file f then periods ++ cred.0 ∷ [] else periods
periods_after f periods _ = periods

abbrev pub sent_after : ℕ → List Pending → Entry → List Pending
sent_after uid all (Sent file cred at bytes) = if cred.0 == uid then all ++ the_write at bytes ∷ [] else all
sent_after uid all _ = all

abbrev pub rogue_after : ℕ → List Pending → Entry → List Pending
rogue_after uid all (Rogue file cred at bytes) = if cred.0 == uid then all ++ the_write at bytes ∷ [] else all
rogue_after uid all _ = all

abbrev pub causes_after : ℕ → List EndCause → Entry → List EndCause
causes_after uid all (Ended file cred cause) = if cred.0 == uid then all ++ cause ∷ [] else all
causes_after uid all _ = all

abbrev pub layout_after : FileId → Option (List MirrorId) → ℕ → MirrorId → Bool → Entry → Bool
layout_after f live uid m is (Granted file cred holder) = if is_file file f && (cred.0 == uid) then is_among m live || is else is
layout_after f live uid m is _ = is

abbrev pub view_after : FileId → FileView → Entry → FileView
view_after f v e = record {
  base = base_after f v e;
  periods = periods_after f v.periods e;
  live = live_after f v.live e;
  copy = λ m. copy_after m (v.copy m) e;
  marks = λ uid m. marks_after uid m (v.marks uid m) e;
  sent = λ uid. sent_after uid (v.sent uid) e;
  rogue = λ uid. rogue_after uid (v.rogue uid) e;
  causes = λ uid. causes_after uid (v.causes uid) e;
  layout = λ uid m. layout_after f v.live uid m (v.layout uid m) e;
}

abbrev pub view_by : FileId → FileView → List Entry → FileView
view_by f v [] = v
view_by f v (e ∷ entries) = view_by f (view_after f v e) entries

-- before the first entry
abbrev pub no_view : FileView
no_view = record {
  base = None;
  periods = [];
  live = None;
  copy = λ m. no_copy;
  marks = λ uid m. no_marks;
  sent = λ uid. [];
  rogue = λ uid. [];
  causes = λ uid. [];
  layout = λ uid m. false;
}

-- of a whole journal
abbrev pub view_of : List Entry → FileId → FileView
view_of journal f = view_by f no_view journal
