-- Entries made of components, and how much they add.
use Rattle.std.proofs.Common.{◌≡◌, ℕ, suc, ◌+◌, ◌-◌, ◌^◌, ◌<◌, ◌≤◌, min, lit<, Bool, true, false, ◌||◌, List, [], ◌∷◌, length, map, drop, Option, Some, zero-add, arith, refl, sym, ap, ◌∙◌}
use Rattle.std.specs.Prelude.{nat_lt, sum_by, unwrap_or, slice_get, slice_index_or}
use Rattle.std.proofs.lemmas.List.Sums.{sum_by-cons}
use Rattle.uc_store.specs.declared.stored.Stored.{Stored}
use Rattle.std.specs.Option.{option_map_or}
use Rattle.std.proofs.lemmas.Bool.Decides.{nat_tests}
use Rattle.uc_base.specs.declared.hash.Hash.{Hash}
use Rattle.uc_tree.specs.declared.item.Item.{Item}
use Rattle.uc_tree.specs.Counts.{node_count}
use Rattle.uc_tree.specs.Replacing.{by_members, replaced}
use Rattle.uc_tree.specs.Types.{Ty}
use Rattle.uc_canon.specs.Members.{Members, items_of, count_of}
use Rattle.uc_canon.specs.Opening.{IsOpened, stored_members}
use Rattle.uc_store.specs.declared.counts.Counts.{Counts}
use Rattle.uc_store.specs.Drafts.{AreCounts}
use Rattle.uc_store.specs.Entries.{Entry}
use Rattle.uc_store.specs.Growth.{Digest, opened, stored_from, with_entry, is_past_limits}
use Rattle.uc_store.specs.Prepared.{counts_of}
use Rattle.uc_store.specs.Table.{Table, nodes_of_entry, member_count, byte_count, type_node_count}
use Rattle.uc_store.specs.Builtins.{AreBuiltinTypes}
use Rattle.uc_store.specs.Kept.{IsSound}
use Rattle.uc_store.proofs.Growing.{made_of_nothing}
use Rattle.uc_store.proofs.Tables.{sum_by-with, empty_table}

values_of : (f : Item → Option Item) (xs ys : List Item) → map Some xs ≡ map f ys → xs ≡ map (λ i. unwrap_or (f i) i) ys
values_of f [] [] e = refl
values_of f [] (y ∷ ys) e = absurd cc
values_of f (x ∷ xs) [] e = absurd cc
values_of f (x ∷ xs) (y ∷ ys) e =
    let first : Some x ≡ f y = cc in
    let rest : map Some xs ≡ map f ys = cc in
    let value : x ≡ unwrap_or (f y) y = rw (← first) refl in
    let values : xs ≡ map (λ i. unwrap_or (f i) i) ys = values_of f xs ys rest in
    cc

pub opened_items : (hash : Hash) (m : Members) (items : List Item) → IsOpened hash m items → items ≡ map (opened hash (count_of m)) (items_of m)
opened_items hash m items o = values_of (replaced (by_members (stored_members hash (count_of m)))) items (items_of m) o

pub length-stored_from : (items : List Item) (types : List Ty) (hints : List (List (List ℕ))) → length (stored_from items types hints) ≡ length items
length-stored_from [] types hints = refl
length-stored_from (i ∷ items) types hints = ap (λ n. suc n) (length-stored_from items (drop 1 types) (drop 1 hints))

abbrev type_nodes : Stored → ℕ
type_nodes s = option_map_or node_count s.type_of 0

abbrev stored_first : Item → List Ty → List (List (List ℕ)) → Stored
stored_first i types hints = record { item = i; type_of = slice_get types 0; hints = slice_index_or hints 0 [] ∷ [] }

pub nodes-stored_from : (items : List Item) (types : List Ty) (hints : List (List (List ℕ))) → length types ≤ length items
    → sum_by type_nodes (stored_from items types hints) ≡ sum_by node_count types
nodes-stored_from [] [] hints l = refl
nodes-stored_from [] (t ∷ types) hints l = absurd (omega arith)
nodes-stored_from (i ∷ items) [] hints l = sum_by-cons type_nodes (stored_first i [] hints) (stored_from items [] (drop 1 hints)) ∙ zero-add (sum_by type_nodes (stored_from items [] (drop 1 hints))) ∙ nodes-stored_from items [] (drop 1 hints) (omega arith)
nodes-stored_from (i ∷ items) (t ∷ types) hints l =
    sum_by-cons type_nodes (stored_first i (t ∷ types) hints) (stored_from items types (drop 1 hints))
    ∙ ap (λ n. node_count t + n) (nodes-stored_from items types (drop 1 hints) (omega arith)) ∙ sym (sum_by-cons node_count t types)

-- the counts of an entry more
pub counts_step : (e : Entry) (t : Table) (old new : Counts) (members bytes type_nodes : ℕ) → AreCounts t old
    → members ≡ length e.members → bytes ≡ length e.text → type_nodes ≡ min (nodes_of_entry e) (2 ^ 64 - 1)
    → new.members ≡ min (old.members + members) (2 ^ 64 - 1) → new.bytes ≡ min (old.bytes + bytes) (2 ^ 64 - 1) → new.type_nodes ≡ min (old.type_nodes + type_nodes) (2 ^ 64 - 1)
    → AreCounts (with_entry e t) new
counts_step e t old new members bytes type_nodes a m b n p q r = record {
  members = rw (sum_by-with (λ x. length x.members) e t) (omega (arith, a.members));
  bytes = rw (sum_by-with (λ x. length x.text) e t) (omega (arith, a.bytes));
  type_nodes = rw (sum_by-with nodes_of_entry e t) (omega (arith, a.type_nodes));
}

capped_test : (a x : ℕ) → a < 2 ^ 64 - 1 → nat_lt a (min x (2 ^ 64 - 1)) ≡ nat_lt a x
capped_test a x l = grind (arith, nat_tests)

-- the capped counts pass a limit where the counts do
pub limits_told : (t : Table) (c : Counts) → AreCounts t c → (nat_lt 400000 c.members || (nat_lt 67108864 c.bytes || nat_lt 20000000 c.type_nodes)) ≡ is_past_limits t
limits_told t c a =
    rw (a.members, a.bytes, a.type_nodes)
    (rw (capped_test 400000 (member_count t) (lit< tt), capped_test 67108864 (byte_count t) (lit< tt), capped_test 20000000 (type_node_count t) (lit< tt)) refl)

below_limit : (a x : ℕ) → nat_lt a x ≡ false → x ≤ a
below_limit a x e = grind (arith, nat_tests)

or_false : (a b : Bool) → (a || b) ≡ false → (a ≡ false) × (b ≡ false)
or_false true b e = absurd cc
or_false false b e = (refl, e)

counts_same : (a b : Counts) → a.members ≡ b.members → a.bytes ≡ b.bytes → a.type_nodes ≡ b.type_nodes → a ≡ b
counts_same a b m n o =
    let f : ℕ → Counts = λ x. record { members = x; bytes = a.bytes; type_nodes = a.type_nodes } in
    let g : ℕ → Counts = λ x. record { members = b.members; bytes = x; type_nodes = a.type_nodes } in
    let h : ℕ → Counts = λ x. record { members = b.members; bytes = b.bytes; type_nodes = x } in
    ap f m ∙ ap g n ∙ ap h o

-- within the limits the counts are exact
pub counts_exact : (t : Table) (c : Counts) → AreCounts t c → is_past_limits t ≡ false → c ≡ counts_of t
counts_exact t c a w =
    let first : (nat_lt 400000 (member_count t) ≡ false) × ((nat_lt 67108864 (byte_count t) || nat_lt 20000000 (type_node_count t)) ≡ false) = or_false (nat_lt 400000 (member_count t)) (nat_lt 67108864 (byte_count t) || nat_lt 20000000 (type_node_count t)) w in
    let rest = or_false (nat_lt 67108864 (byte_count t)) (nat_lt 20000000 (type_node_count t)) first.1 in
    let m : c.members ≡ member_count t = omega (arith, a.members, below_limit 400000 (member_count t) first.0) in
    let b : c.bytes ≡ byte_count t = omega (arith, a.bytes, below_limit 67108864 (byte_count t) rest.0) in
    let n : c.type_nodes ≡ type_node_count t = omega (arith, a.type_nodes, below_limit 20000000 (type_node_count t) rest.1) in
    counts_same c (counts_of t) m b n

-- exact counts are counts
pub counts_of_exact : (t : Table) (c : Counts) → c ≡ counts_of t → is_past_limits t ≡ false → AreCounts t c
counts_of_exact t c e w =
    let first = or_false (nat_lt 400000 (member_count t)) (nat_lt 67108864 (byte_count t) || nat_lt 20000000 (type_node_count t)) w in
    let rest = or_false (nat_lt 67108864 (byte_count t)) (nat_lt 20000000 (type_node_count t)) first.1 in
    let m : c.members ≡ member_count t = ap (λ x. x.members) e in
    let b : c.bytes ≡ byte_count t = ap (λ x. x.bytes) e in
    let n : c.type_nodes ≡ type_node_count t = ap (λ x. x.type_nodes) e in
    record {
      members = omega (arith, m, below_limit 400000 (member_count t) first.0);
      bytes = omega (arith, b, below_limit 67108864 (byte_count t) rest.0);
      type_nodes = omega (arith, n, below_limit 20000000 (type_node_count t) rest.1);
    }

-- what holds of a store of nothing
pub sound_empty : (digest : Digest) (types : List Ty) (c : Counts) → AreBuiltinTypes types → c.members ≡ 0 → c.bytes ≡ 0 → c.type_nodes ≡ 0 → IsSound digest types [] c
sound_empty digest types c t m b n = record {
  builtin_types = t;
  ordered = empty_table;
  made = made_of_nothing digest;
  counted = counts_same c (counts_of []) m b n;
  within = refl;
}
