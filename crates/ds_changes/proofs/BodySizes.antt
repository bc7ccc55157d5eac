-- How long bodies are, and that they have a spelling.
use Rattle.std.proofs.Common.{◌≡◌, ℕ, ◌+◌, ◌-◌, ◌*◌, ◌^◌, ◌<◌, ◌≤◌, List, [], ◌∷◌, ◌++◌, length, map, min, refl, sym, ap, ◌∙◌, arith}
use Rattle.std.specs.List.{AllByRecursion, flat_map}
use Rattle.std.proofs.lemmas.List.{length-append, length-map, length-take, length-drop}
use Rattle.cluster_model.specs.declared.tick.Tick.{Tick}
use Rattle.cluster_model.specs.declared.tick.Times.{Times}
use Rattle.cluster_model.specs.Content.{Pending}
use Rattle.cluster_model.specs.Server.{max_file}
use Rattle.ff_xdr.specs.Form.{Fits, spelling, word, long, padded, pad_len}
use Rattle.ff_xdr.proofs.Fields.{length-word}
use Rattle.ff_xdr.proofs.CutShort.{length-long}
use Rattle.ff_xdr.proofs.StoppedText.{length-padded}
use Rattle.ds_log.specs.Bodies.{Logged, Creates, SetsAttributes, HoldsBytes, tick_form, tick_value, range_form, range_value, body_form, body_value}
use Rattle.ds_log.proofs.Reread.{body_again}
use Rattle.ds_changes.specs.Joined.{IsShown, AreRangesApart, AreJoined}
use Rattle.ds_changes.specs.Logging.{Spelled, Spells, IsRange, range_sizes, AreFewRanges, IsOwn}

-- ---- ranges

pad_few : (n : ℕ) → pad_len n ≤ 3
unfolding pad_len
pad_few n = omega arith

range_size : (r : Pending) → IsRange r → length (spelling range_form (range_value r)) ≤ 16 * length r.bytes
range_size r is =
    let whole = length-append (long r.at) (word (length r.bytes) ++ padded r.bytes) in
    let part = length-append (word (length r.bytes)) (padded r.bytes) in
    omega (arith, is.some, whole, part, length-long r.at, length-word (length r.bytes), length-padded r.bytes, pad_few (length r.bytes))

ranges_size : (rs : List Pending) → AllByRecursion IsRange rs → length (flat_map (λ v. spelling range_form v) (map range_value rs)) ≤ 16 * range_sizes rs
ranges_size [] all = omega arith
ranges_size (r ∷ rs) all =
    let joined = length-append (spelling range_form (range_value r)) (flat_map (λ v. spelling range_form v) (map range_value rs)) in
    omega (arith, joined, range_size r all.0, ranges_size rs all.1)

-- each range has a byte
count_le : (rs : List Pending) → AllByRecursion IsRange rs → length rs ≤ range_sizes rs
count_le [] all = omega arith
count_le (r ∷ rs) all = omega (arith, all.0.some, count_le rs all.1)

ranges_fit : (rs : List Pending) → AllByRecursion IsRange rs → AllByRecursion (Fits range_form) (map range_value rs)
ranges_fit [] all = tt
ranges_fit (r ∷ rs) all = ((omega (arith, all.0.ends), omega (arith, all.0.ends)), ranges_fit rs all.1)

-- few ranges are no more than a word counts
pub few_count : (rs : List Pending) → AreFewRanges rs → length rs < 2 ^ 32
few_count rs few = omega (arith, count_le rs few.each, few.few)

-- ---- bodies

module _ (fileid : ℕ) (mtime ctime : Tick) (rs : List Pending) (few : AreFewRanges rs) where
  pub bytes_fit : fileid < 2 ^ 64 → Fits tick_form (tick_value mtime) → Fits tick_form (tick_value ctime) → Fits body_form (body_value (HoldsBytes fileid mtime ctime rs))
  bytes_fit f m c = (f, (m, (c, (omega (arith, few_count rs few, length-map rs range_value), ranges_fit rs few.each))))

  pub bytes_short : length (spelling body_form (body_value (HoldsBytes fileid mtime ctime rs))) < 2 ^ 32
  bytes_short =
      let all = flat_map (λ v. spelling range_form v) (map range_value rs) in
      let array = word (length (map range_value rs)) ++ all in
      let c = word ctime.boot ++ word ctime.count in
      let m = word mtime.boot ++ word mtime.count in
      omega (
        arith,
        length-append (word 4) (long fileid ++ (m ++ (c ++ array))),
        length-word 4,
        length-append (long fileid) (m ++ (c ++ array)),
        length-long fileid,
        length-append m (c ++ array),
        length-append (word mtime.boot) (word mtime.count),
        length-word mtime.boot,
        length-word mtime.count,
        length-append c array,
        length-append (word ctime.boot) (word ctime.count),
        length-word ctime.boot,
        length-word ctime.count,
        length-append (word (length (map range_value rs))) all,
        length-word (length (map range_value rs)),
        ranges_size rs few.each,
        few.few,
      )

pub spelled_as : (body : Logged) (bytes : List ℕ) → Fits body_form (body_value body) → bytes ≡ spelling body_form (body_value body) → Spelled body bytes
spelled_as body bytes fits is = record { is = is; again = rw is (body_again body fits) }

-- a body of a step that has a spelling of few bytes is logged by it
pub spells : (Is : Logged → Type 0) (body : Logged) (bytes : List ℕ) → Is body → length (spelling body_form (body_value body)) < 2 ^ 32 → Spelled body bytes → Spells Is bytes
spells Is body bytes of short spelled = record { body = body; of = of; spelled = spelled; short = rw spelled.is short }

-- ---- the ranges of pending writes are few

shown_end : (shown : List ℕ) (r : Pending) → IsShown shown r → r.at + length r.bytes ≤ length shown
shown_end shown r is =
    let long : length r.bytes ≡ min (length r.bytes) (length shown - r.at) = sym (ap length is.same) ∙ simp (length-take, length-drop) refl in
    omega (arith, long, is.some)

sizes_within : (shown : List ℕ) (r : Pending) (rs : List Pending) → AllByRecursion (IsShown shown) (r ∷ rs) → AreRangesApart (r ∷ rs) → r.at + range_sizes (r ∷ rs) ≤ length shown
sizes_within shown r [] all apart = omega (arith, shown_end shown r all.0)
sizes_within shown r (q ∷ rs) all apart = omega (arith, apart.0, sizes_within shown q rs all.1 apart.1)

sizes_le : (shown : List ℕ) (rs : List Pending) → AllByRecursion (IsShown shown) rs → AreRangesApart rs → range_sizes rs ≤ length shown
sizes_le shown [] all apart = omega arith
sizes_le shown (r ∷ rs) all apart = omega (arith, sizes_within shown r rs all apart)

each_range : (shown : List ℕ) (rs : List Pending) → length shown ≤ max_file → AllByRecursion (IsShown shown) rs → AllByRecursion IsRange rs
each_range shown [] size all = tt
each_range shown (r ∷ rs) size all = (record { some = all.0.some; ends = omega (arith, size, shown_end shown r all.0) }, each_range shown rs size all.1)

both_ranges : (rs own : List Pending) → AllByRecursion IsRange rs → AllByRecursion IsRange own → AllByRecursion IsRange (rs ++ own)
both_ranges [] own all more = more
both_ranges (r ∷ rs) own all more = (all.0, both_ranges rs own all.1 more)

sizes_append : (rs own : List Pending) → range_sizes (rs ++ own) ≡ range_sizes rs + range_sizes own
sizes_append [] own = omega arith
sizes_append (r ∷ rs) own = omega (arith, sizes_append rs own)

pub few_joined : (pending : List Pending) (shown : List ℕ) (rs own : List Pending) → length shown ≤ max_file → AreJoined pending shown rs → IsOwn own → AreFewRanges (rs ++ own)
few_joined pending shown rs own size joined is = record {
  each = both_ranges rs own (each_range shown rs size joined.shows) is.each;
  few = omega (arith, sizes_append rs own, sizes_le shown rs joined.shows joined.apart, is.few, size);
}

-- ---- a new file, and attributes

module _ (name : List ℕ) (fileid owner group mode : ℕ) (tick : Tick) (short : length name ≤ 255) where
  pub create_short : length (spelling body_form (body_value (Creates name fileid owner group mode tick))) < 2 ^ 32
  create_short =
      let t = word tick.boot ++ word tick.count in
      let n = word (length name) ++ padded name in
      omega (
        arith,
        short,
        length-append (word 2) (n ++ (long fileid ++ (word owner ++ (word group ++ (word mode ++ t))))),
        length-word 2,
        length-append n (long fileid ++ (word owner ++ (word group ++ (word mode ++ t)))),
        length-append (word (length name)) (padded name),
        length-word (length name),
        length-padded name,
        pad_few (length name),
        length-append (long fileid) (word owner ++ (word group ++ (word mode ++ t))),
        length-long fileid,
        length-append (word owner) (word group ++ (word mode ++ t)),
        length-word owner,
        length-append (word group) (word mode ++ t),
        length-word group,
        length-append (word mode) t,
        length-word mode,
        length-append (word tick.boot) (word tick.count),
        length-word tick.boot,
        length-word tick.count,
      )

module _ (fileid owner group mode : ℕ) (times : Times) where
  abbrev two : Tick → List ℕ
  two t = word t.boot ++ word t.count

  tick_size : (t : Tick) → length (two t) ≡ 8
  tick_size t = omega (arith, length-append (word t.boot) (word t.count), length-word t.boot, length-word t.count)

  pub set_short : length (spelling body_form (body_value (SetsAttributes fileid owner group mode times))) < 2 ^ 32
  set_short =
      let ts = two times.atime ++ (two times.mtime ++ two times.ctime) in
      omega (
        arith,
        length-append (word 3) (long fileid ++ (word owner ++ (word group ++ (word mode ++ ts)))),
        length-word 3,
        length-append (long fileid) (word owner ++ (word group ++ (word mode ++ ts))),
        length-long fileid,
        length-append (word owner) (word group ++ (word mode ++ ts)),
        length-word owner,
        length-append (word group) (word mode ++ ts),
        length-word group,
        length-append (word mode) ts,
        length-word mode,
        length-append (two times.atime) (two times.mtime ++ two times.ctime),
        length-append (two times.mtime) (two times.ctime),
        tick_size times.atime,
        tick_size times.mtime,
        tick_size times.ctime,
      )
