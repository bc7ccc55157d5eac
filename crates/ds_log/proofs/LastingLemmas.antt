-- What is done to the server that a log says keeps what holds of it.
use Rattle.std.proofs.Common.{◌≡◌, ℕ, ◌+◌, ◌-◌, ◌<◌, ◌≤◌, List, [], ◌∷◌, ◌++◌, length, get_or, set, Some, refl, sym, ap, subst, ◌∙◌, arith, inl, inr, length-append, append-nil}
use Rattle.std.specs.Prelude.{slice_get, IsTrue}
use Rattle.std.proofs.lemmas.Bool.{cases_eq}
use Rattle.std.proofs.lemmas.Option.{slice_get_read, same_Some}
use Rattle.std.proofs.lemmas.List.{append_assoc}
use Rattle.std.proofs.lemmas.List.Sums.{sum_by_push}
use Rattle.cluster_model.specs.declared.tick.Times.{Times}
use Rattle.cluster_model.specs.Content.{no_content}
use Rattle.cluster_model.specs.File.{StoredFile, shown}
use Rattle.cluster_model.specs.Server.{max_total}
use Rattle.cluster_model.proofs.Elements.{slice_get-set_other, slice_get-set_same, Pushed, Old, New, pushed}
use Rattle.ds_procedures.specs.declared.setattr.TheConstants.{MODE_BITS}
use Rattle.ds_procedures.specs.declared.server_base.ServerBase.{ServerBase}
use Rattle.ds_procedures.proofs.Places.{size_le_total}
use Rattle.ds_files.proofs.Carried.{keeps_sizes}
use Rattle.ds_log.specs.Durable.{start_of, attributed, is_good_name}
use Rattle.ds_log.specs.Steady.{AreGoodNames}
use Rattle.ds_log.specs.Lasting.{IsLastingFile, IsLasting}

-- ---- a boot

later_file : (a b : ℕ) (f : StoredFile) → a ≤ b → IsLastingFile a f → IsLastingFile b f
later_file a b f le k = record { settled = k.settled; times = k.times; mode = k.mode; ctime = omega (arith, le, k.ctime); size = k.size }

pub begins : (h : ServerBase) (files : List StoredFile) (boot : ℕ) → h.clock.boot ≤ boot → IsLasting h files → IsLasting (record h { clock = start_of boot }) files
begins h files boot le k = record {
  server = record { total = k.server.total; bounded = k.server.bounded; ticks = omega arith; named = k.server.named };
  count = refl;
  names = k.names;
  root = omega (arith, le, k.root);
  each = λ index f there. later_file h.clock.boot boot f le (k.each index f there);
}

-- ---- the root's times

pub rooted : (h : ServerBase) (files : List StoredFile) (root : Times) → root.ctime.boot ≤ h.clock.boot → IsLasting h files → IsLasting (record h { root = root }) files
rooted h files root begun k = record {
  server = record { total = k.server.total; bounded = k.server.bounded; ticks = k.server.ticks; named = k.server.named };
  count = k.count;
  names = k.names;
  root = omega (arith, begun);
  each = k.each;
}

-- ---- one file is another

module _ (h : ServerBase) (files : List StoredFile) (index : ℕ) (f file : StoredFile) (k : IsLasting h files) (lt : index < length files) (is : f ≡ get_or files index f) where
  there : slice_get files index ≡ Some f
  there = slice_get_read files (length files) index f refl lt is

  pub lasts_at : IsLastingFile h.clock.boot f
  lasts_at = k.each index f there

  pub part_at : length (shown f) ≤ h.total
  part_at = omega (arith, size_le_total files index f there, k.server.total)

  each_after : IsLastingFile h.clock.boot file → (i : ℕ) (g : StoredFile) → slice_get (set files index file) i ≡ Some g → IsLastingFile h.clock.boot g
  each_after lasts i g e =
      elim (cases_eq i index) [
        | inl same ↦
            let here : Some file ≡ Some g = sym (slice_get-set_same files index f file there) ∙ subst (λ (j : ℕ). slice_get (set files index file) j ≡ Some g) same e in
            subst (λ (x : StoredFile). IsLastingFile h.clock.boot x) (same_Some file g here) lasts
        | inr other ↦ k.each i g (sym (slice_get-set_other files index i file other) ∙ e)
      ]

  pub stored_keeps : IsLastingFile h.clock.boot file → h.total - length (shown f) + length (shown file) ≤ max_total
      → IsLasting (record h { total = h.total - length (shown f) + length (shown file) }) (set files index file)
  stored_keeps lasts room = record { server = keeps_sizes h files index f file h.clock k.server is lt room k.server.ticks; count = k.count; names = k.names; root = k.root; each = each_after lasts }

  -- the same of a server base that is given
  pub counted_keeps : (h' : ServerBase) → h' ≡ record h { total = h.total - length (shown f) + length (shown file) } → h'.total ≤ max_total → IsLastingFile h.clock.boot file → IsLasting h' (set files index file)
  counted_keeps h' counted bounded lasts =
      let total : h'.total ≡ h.total - length (shown f) + length (shown file) = ap (λ (x : ServerBase). x.total) counted in
      subst (λ (x : ServerBase). IsLasting x (set files index file)) (sym counted) (stored_keeps lasts (omega (arith, total, bounded)))

  -- its attributes are others
  same_total : length (shown file) ≡ length (shown f) → h.total - length (shown f) + length (shown file) ≡ h.total
  same_total size = omega (arith, size, part_at)

  pub attributed_keeps : (owner group mode : ℕ) (times : Times) → mode < MODE_BITS → times.ctime.boot ≤ h.clock.boot → file ≡ attributed f owner group mode times → IsLasting h (set files index file)
  attributed_keeps owner group mode times less begun made =
      let old = lasts_at in
      let new : IsLastingFile h.clock.boot (attributed f owner group mode times) = record { settled = old.settled; times = refl; mode = less; ctime = begun; size = old.size } in
      let lasts = subst (λ (x : StoredFile). IsLastingFile h.clock.boot x) (sym made) new in
      let size : length (shown file) ≡ length (shown f) = ap (λ (x : StoredFile). length (shown x)) made in
      let total = same_total size in
      subst (λ (n : ℕ). IsLasting (record h { total = n }) (set files index file)) total (stored_keeps lasts (omega (arith, total, k.server.bounded)))

-- ---- a file more

pub good_push : (front names : List (List ℕ)) (name : List ℕ) → AreGoodNames front names → IsTrue (is_good_name (front ++ names) name) → AreGoodNames front (names ++ name ∷ [])
good_push front [] name k good = (subst (λ (all : List (List ℕ)). IsTrue (is_good_name all name)) (append-nil front) good, tt)
good_push front (first ∷ names) name k good =
    let whole = subst (λ (all : List (List ℕ)). IsTrue (is_good_name all name)) (sym (append_assoc front (first ∷ []) names)) good in
    (k.0, good_push (front ++ first ∷ []) names name k.1 whole)

-- a file with these attributes, which last, and no bytes
abbrev pub lasting_file : ℕ → ℕ → ℕ → Times → StoredFile
lasting_file owner group mode times = record { content = no_content; owner = owner; group = group; mode = mode; times = times; stable_times = times }

pub added_keeps : (h : ServerBase) (files : List StoredFile) (name : List ℕ) (owner group mode : ℕ) (times : Times) → IsLasting h files → IsTrue (is_good_name h.names name) → mode < MODE_BITS → times.ctime.boot ≤ h.clock.boot
    → IsLasting (record h { names = h.names ++ name ∷ [] }) (files ++ lasting_file owner group mode times ∷ [])
added_keeps h files name owner group mode times k good less begun =
    let new = lasting_file owner group mode times in
    let names = length-append h.names (name ∷ []) in
    let count = length-append files (new ∷ []) in
    let sum = sum_by_push (λ (g : StoredFile). length (shown g)) files new in
    let lasts : IsLastingFile h.clock.boot new = record { settled = refl; times = refl; mode = less; ctime = begun; size = omega arith } in
    record {
      server = record { total = omega (arith, sum, k.server.total); bounded = k.server.bounded; ticks = k.server.ticks; named = omega (arith, names, count, k.server.named) };
      count = k.count;
      names = good_push [] h.names name k.names good;
      root = k.root;
      each = λ i g e. by_place lasts i g (pushed files new i g e);
    }
  where
    by_place : IsLastingFile h.clock.boot (lasting_file owner group mode times) → (i : ℕ) (g : StoredFile) → Pushed files (lasting_file owner group mode times) i g → IsLastingFile h.clock.boot g
    by_place lasts i g (Old e) = k.each i g e
    by_place lasts i g (New at is) = subst (λ (x : StoredFile). IsLastingFile h.clock.boot x) (sym is) lasts
