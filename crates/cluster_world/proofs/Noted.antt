-- The packets of a journal that grows, and of pairs that are held.
use Rattle.std.proofs.Common.{◌≡◌, ℕ, ◌+◌, List, [], ◌∷◌, ◌++◌, length, refl, sym, ap, ◌∙◌, arith}
use Rattle.cluster_model.specs.declared.ids.NodeId.{NodeId}
use Rattle.cluster_model.specs.declared.entry.Entry.{Entry}
use Rattle.cluster_model.specs.declared.entry.Entry.TheVariants.{Packet, Delivered}
use Rattle.packet_table.specs.Packets.{PacketsValue}
use Rattle.world_rule.specs.Sent.{noting, noting_all, packets_in}

-- entries behind entries
noted_append : (p : PacketsValue) (place : ℕ) (xs ys : List Entry) → noting_all p place (xs ++ ys) ≡ noting_all (noting_all p place xs) (place + length xs) ys
noted_append p place [] ys = let e : place ≡ place + 0 = omega arith in ap (λ n. noting_all p n ys) e
noted_append p place (x ∷ xs) ys =
    let e : place + 1 + length xs ≡ place + length (x ∷ xs) = omega arith in
    noted_append (noting p place x) (place + 1) xs ys ∙ ap (λ n. noting_all (noting_all (noting p place x) (place + 1) xs) n ys) e

-- a journal with more entries
pub noted_behind : (journal more : List Entry) (held : List (NodeId × NodeId)) → noting_all (packets_in journal held) (length journal) more ≡ packets_in (journal ++ more) held
noted_behind journal more held =
    let e : length journal ≡ 0 + length journal = omega arith in
    ap (λ n. noting_all (packets_in journal held) n more) e ∙ sym (noted_append (record { notes = []; held = held }) 0 journal more)

-- which pairs are held does not matter for the rest
abbrev with_held : List (NodeId × NodeId) → PacketsValue → PacketsValue
with_held held p = record { notes = p.notes; held = held }

held_beside : (held : List (NodeId × NodeId)) (p : PacketsValue) (place : ℕ) (e : Entry) → noting (with_held held p) place e ≡ with_held held (noting p place e)
held_beside held p place (Packet number from to bytes) = refl
held_beside held p place (Delivered number) = refl
held_beside held p place e = refl

held_beside_all : (held : List (NodeId × NodeId)) (p : PacketsValue) (place : ℕ) (es : List Entry) → noting_all (with_held held p) place es ≡ with_held held (noting_all p place es)
held_beside_all held p place [] = refl
held_beside_all held p place (e ∷ es) = ap (λ q. noting_all q (place + 1) es) (held_beside held p place e) ∙ held_beside_all held (noting p place e) (place + 1) es

pub with_other_held : (journal : List Entry) (held others : List (NodeId × NodeId)) → packets_in journal others ≡ record { notes = (packets_in journal held).notes; held = others }
with_other_held journal held others = held_beside_all others (record { notes = []; held = held }) 0 journal

held_stay : (p : PacketsValue) (place : ℕ) (e : Entry) → (noting p place e).held ≡ p.held
held_stay p place (Packet number from to bytes) = refl
held_stay p place (Delivered number) = refl
held_stay p place e = refl

held_stay_all : (p : PacketsValue) (place : ℕ) (es : List Entry) → (noting_all p place es).held ≡ p.held
held_stay_all p place [] = refl
held_stay_all p place (e ∷ es) = held_stay_all (noting p place e) (place + 1) es ∙ held_stay p place e

-- the pairs of the packets are those that are held
pub held_in : (journal : List Entry) (held : List (NodeId × NodeId)) → (packets_in journal held).held ≡ held
held_in journal held = held_stay_all (record { notes = []; held = held }) 0 journal
