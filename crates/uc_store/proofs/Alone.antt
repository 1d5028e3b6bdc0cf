-- One definition that refers to nothing may be stored over each table.
use Rattle.std.proofs.Common.{◌≡◌, ℕ, zero, suc, ◌<◌, ◌^◌, List, [], ◌∷◌, length, get_or, Some, None, inl, arith, refl, sym, ap, subst, ◌∙◌, lit<, lit≤}
use Rattle.std.specs.Prelude.{slice_index, slice_get}
use Rattle.std.specs.List.{All, Contains}
use Rattle.std.specs.Cmp.Lexicographic.{slice_cmp}
use Rattle.std.specs.Ordering.{nat_cmp}
use Rattle.std.proofs.lemmas.Cmp.{nat_list_cmp_total, tied_itself}
use Rattle.std.specs.declared.cmp.Ordering.TheVariants.{Equal}
use Rattle.uc_base.specs.Graph.{Edge}
use Rattle.uc_tree.specs.declared.definition.Definition.{Definition}
use Rattle.uc_tree.specs.declared.literal.Literal.TheVariants as lit
use Rattle.uc_tree.specs.declared.item.Item.{Item}
use Rattle.uc_tree.specs.declared.item.Item.TheVariants as item
use Rattle.uc_tree.specs.Targets.{targets_of, ty_targets, IsRefOf}
use Rattle.uc_tree.specs.Terms as term
use Rattle.uc_tree.specs.Types.{Ty, variable, quantified, arrow}
use Rattle.uc_canon.specs.Bounds.{IsDefinitionInBounds}
use Rattle.uc_canon.specs.Canonical.{IsCanonical}
use Rattle.uc_canon.specs.Members.{terms, text_of}
use Rattle.uc_canon.specs.Numbering.{rows_of, order_from, moved, IsReordered, IsTextFrom, IsBefore}
use Rattle.uc_canon.proofs.LeastText.{text_from_is}
use Rattle.uc_store.specs.Binders.{item_binders}
use Rattle.uc_store.specs.Builtins.{nat}
use Rattle.uc_store.specs.Checked.{Checked}
use Rattle.uc_store.specs.Sorts.{uses_of, IsOfSort}
use Rattle.uc_store.specs.Storable.{IsStored, IsStoredType, AreHints, IsStorable}
use Rattle.uc_store.specs.Table.{Table}

-- a definition that refers to nothing, and that stays as it is when it gets the number 0
pub record IsAlone (d : Definition) : Type 0 where
  pub bounds : IsDefinitionInBounds 1 d
  pub targets : targets_of (item.Term d) ≡ []
  pub uses : uses_of (item.Term d) ≡ []
  pub rows : rows_of (terms (d ∷ [])) ≡ [] ∷ []
  pub order : order_from (terms (d ∷ [])) 0 ≡ 0 ∷ []
  pub stays : moved (0 ∷ []) (terms (d ∷ [])) 0 ≡ Some (item.Term d)

no_edge : (u v : ℕ) → Edge ([] ∷ []) u v → ⊥
no_edge zero v e = absurd (omega (arith, e.1))
no_edge (suc u) v e = absurd (omega (arith, e.1))

reordered : (d : Definition) → IsAlone d → IsReordered (order_from (terms (d ∷ [])) 0) (terms (d ∷ [])) (terms (d ∷ []))
reordered d a =
    let P : List ℕ → Type 0 = λ o. IsReordered o (terms (d ∷ [])) (terms (d ∷ [])) in
    subst P (sym a.order) (record { kind = tt; size = refl; items = λ k l. at k l })
  where
    at : (k : ℕ) → k < 1 → slice_get (item.Term d ∷ []) k ≡ moved (0 ∷ []) (terms (d ∷ [])) (slice_index (0 ∷ []) k)
    at zero l = sym a.stays
    at (suc k) l = absurd (omega arith)

given : (d : Definition) → IsAlone d → IsTextFrom (terms (d ∷ [])) 0 (text_of (terms (d ∷ [])))
given d a = record { renumbered = terms (d ∷ []); reordered = reordered d a; spelled = refl }

not_before_itself : (t : List ℕ) → IsBefore t t → ⊥
not_before_itself t b = let e : slice_cmp nat_cmp t t ≡ Equal = tied_itself nat_list_cmp_total t in cc

least : (d : Definition) → IsAlone d → (other : ℕ) (t : List ℕ) → other < 1 → IsTextFrom (terms (d ∷ [])) other t → IsBefore t (text_of (terms (d ∷ []))) → ⊥
least d a zero t l from b =
    let same : t ≡ text_of (terms (d ∷ [])) = text_from_is (terms (d ∷ [])) 0 t from ∙ sym (text_from_is (terms (d ∷ [])) 0 (text_of (terms (d ∷ []))) (given d a)) in
    let P : List ℕ → Type 0 = λ x. IsBefore x (text_of (terms (d ∷ []))) in
    not_before_itself (text_of (terms (d ∷ []))) (subst P same b)
least d a (suc other) t l from b = absurd (omega arith)

canonical : (d : Definition) → IsAlone d → IsCanonical (text_of (terms (d ∷ []))) (terms (d ∷ []))
canonical d a = record {
  spelled = refl;
  bounds = (record { enough = lit≤ tt; few = lit< tt }, (a.bounds, tt));
  one = record {
    filled = lit< tt;
    closed = let P : List (List ℕ) → Type 0 = λ g. (u v : ℕ) → Edge g u v → v < length g in subst P (sym a.rows) (λ u v e. absurd (no_edge u v e));
    together = λ u v l m. inl (omega arith);
  };
  least = record { start = 0; below = lit< tt; given = given d a; least = least d a };
}

-- what is in a list of one is that one
of_one : {A : Type 0} (x y : A) → Contains (x ∷ []) y → x ≡ y
of_one x y c = go c.0 c.1 c.2
  where
    go : (k : ℕ) → k < 1 → get_or (x ∷ []) k y ≡ y → x ≡ y
    go zero l e = e
    go (suc k) l e = absurd (omega arith)

pub alone_storable : (d : Definition) (t : Ty) (hints : List (List ℕ)) (table : Table) (c : Checked) → IsAlone d → IsStoredType t → AreHints (item_binders (item.Term d)) hints
    → c ≡ record { members = terms (d ∷ []); types = t ∷ []; hints = hints ∷ [] } → IsStorable table c
alone_storable d t hints table c a s h is =
    let P : Checked → Type 0 = λ x. IsStorable table x in
    subst P (sym is) (record {
      canonical = canonical d a;
      typed = refl;
      types = λ k x l. each k x l;
      stands = λ i r m w.
          let Q : Item → Type 0 = λ j. IsRefOf r j in
          let here : IsRefOf r (item.Term d) = subst Q (sym (of_one (item.Term d) i m)) w in
          absurd (omega (arith, here.1, ap length a.targets));
      sorts = λ i m.
          let Q : Item → Type 0 = λ j. All (IsOfSort table) (uses_of j) in
          subst Q (of_one (item.Term d) i m) (λ k x l. absurd (omega (arith, l, ap length a.uses)));
      hints = (h, tt);
    })
  where
    each : (k : ℕ) (x : Ty) → k < 1 → IsStoredType (get_or (t ∷ []) k x)
    each zero x l = s
    each (suc k) x l = absurd (omega arith)

abbrev pub numeral : ℕ → Definition
numeral n = record { signature = None; body = term.literal (lit.Nat n) }

pub numeral_alone : (n : ℕ) → n < 2 ^ 64 → IsAlone (numeral n)
numeral_alone n l = record {
  bounds = record { signature = tt; body = l; bound = (tt, tt); levels = lit≤ tt };
  targets = refl;
  uses = refl;
  rows = refl;
  order = refl;
  stays = refl;
}

abbrev pub identity : Definition
identity = record { signature = None; body = term.lambda (term.variable 0) }

pub identity_alone : IsAlone identity
identity_alone = record {
  bounds = record { signature = tt; body = lit< tt; bound = (tt, lit< tt); levels = lit≤ tt };
  targets = refl;
  uses = refl;
  rows = refl;
  order = refl;
  stays = refl;
}

pub nat_stored : IsStoredType nat
nat_stored = record { closed = tt; stored = λ k x l. go k x l }
  where
    go : (k : ℕ) (x : _) → k < 1 → IsStored (get_or (ty_targets nat) k x)
    go zero x l = tt
    go (suc k) x l = absurd (omega arith)

pub identity_type_stored : IsStoredType (quantified (arrow (variable 0) (variable 0)))
identity_type_stored = record { closed = (lit< tt, lit< tt); stored = λ k x l. absurd (omega arith) }
