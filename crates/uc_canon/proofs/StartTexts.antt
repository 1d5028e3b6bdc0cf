-- The text of a start, one member more.
use Rattle.std.proofs.Common.{◌≡◌, ◌↔◌, ℕ, ◌+◌, ◌<◌, List, [], ◌++◌, Option, Some, length, get_or, drop, refl, sym, ap, subst, ◌∙◌, append_assoc}
use Rattle.std.specs.List.{slice_get}
use Rattle.std.specs.Option.{option_map_or, option_and_then}
use Rattle.std.proofs.lemmas.List.{drop_more}
use Rattle.std.proofs.lemmas.Option.{slice_get_read}
use Rattle.uc_tree.specs.declared.target.Target.{Target}
use Rattle.uc_tree.specs.declared.item.Item.{Item}
use Rattle.uc_tree.specs.Replacing.{by_members, replaced}
use Rattle.uc_canon.specs.Members.{Members, items_of}
use Rattle.uc_canon.specs.Numbering.{renumbering, moved}
use Rattle.uc_canon.specs.Starts.{item_text, moved_text, moved_texts, ComesBefore}
use Rattle.uc_canon.specs.declared.standing.Standing.{Standing}

-- what is written of a member
pub part_is : (order : List ℕ) (m : Members) (items : List Item) (numbers : List Target) (u : ℕ) (i : Item) (part : List ℕ)
    → items ≡ items_of m → numbers ≡ renumbering order (length items) → u < length items → i ≡ get_or items u i
    → part ≡ option_map_or item_text (replaced (by_members numbers) i) [] → part ≡ moved_text order m u
part_is order m items numbers u i part same numbered lt is e =
    let s : slice_get items u ≡ Some i = slice_get_read items (length items) u i refl lt is in
    let f : List Item → List Target → Option Item = λ (xs : List Item) (ns : List Target). option_and_then (replaced (by_members ns)) (slice_get xs u) in
    let p : replaced (by_members numbers) i ≡ f items numbers = ap (option_and_then (replaced (by_members numbers))) (sym s) in
    let q : f items numbers ≡ f items (renumbering order (length items)) = ap (f items) numbered in
    let r : f items (renumbering order (length items)) ≡ moved order m u = ap (λ (xs : List Item). f xs (renumbering order (length xs))) same in
    e ∙ ap (λ (o : Option Item). option_map_or item_text o []) (p ∙ q ∙ r)

-- the text so far
pub text_step : (order : List ℕ) (m : Members) (text part whole : List ℕ) (k : ℕ) → k < length order → part ≡ moved_text order m (get_or order k 0)
    → text ++ moved_texts order m (drop k order) ≡ whole → (text ++ part) ++ moved_texts order m (drop (k + 1) order) ≡ whole
text_step order m text part whole k lt is e =
    append_assoc text part (moved_texts order m (drop (k + 1) order))
    ∙ ap (λ (xs : List ℕ). text ++ (xs ++ moved_texts order m (drop (k + 1) order))) is
    ∙ ap (λ (xs : List ℕ). text ++ moved_texts order m xs) (sym (drop_more order k 0 lt)) ∙ e

-- how it stands to the least one so far
pub standing_step : (known old new : Standing) (text part : List ℕ) → ((rest : List ℕ) → ComesBefore known (text ++ rest) ↔ ComesBefore old rest)
    → ((rest : List ℕ) → ComesBefore old (part ++ rest) ↔ ComesBefore new rest) → (rest : List ℕ) → ComesBefore known ((text ++ part) ++ rest) ↔ ComesBefore new rest
standing_step known old new text part f g rest =
    let h : ComesBefore known (text ++ (part ++ rest)) ↔ ComesBefore new rest = (λ x. (g rest).0 ((f (part ++ rest)).0 x), λ x. (f (part ++ rest)).1 ((g rest).1 x)) in
    rw (append_assoc text part rest) h

-- the whole text, where it is known how it stands
pub whole_stands : (known now : Standing) (text rest whole : List ℕ) → text ++ rest ≡ whole → ((rest : List ℕ) → ComesBefore known (text ++ rest) ↔ ComesBefore now rest)
    → ComesBefore known whole ↔ ComesBefore now rest
whole_stands known now text rest whole e f = let P : List ℕ → Type 0 = λ xs. ComesBefore known xs ↔ ComesBefore now rest in subst P e (f rest)
