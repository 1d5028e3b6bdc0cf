-- How the items of a file are read one by one.
use Rattle.std.proofs.Common.{◌≡◌, suc, ◌-◌, ◌<◌, ◌≤◌, List, [], ◌∷◌, ◌++◌, get_or, take, drop, length, length-append, refl, subst, sym, ap, ◌∙◌, append_assoc, inl, inr, arith}
use Rattle.std.proofs.Math.Seq.{drop-append_seam, take-length}
use Rattle.std.specs.Prelude.{Option, Some, None, ◌⊎◌}
use Rattle.std.specs.List.{slice_get}
use Rattle.std.specs.Option.{option_map_or}
use Rattle.uc_base.specs.declared.place.Place.{Place}
use Rattle.uc_base.specs.declared.fault.Fault.{Fault}
use Rattle.uc_base.specs.declared.fault.Fault.TheVariants.{BadSyntax, TooDeep, Memory}
use Rattle.uc_layout.specs.declared.token.Token.{Token}
use Rattle.uc_layout.specs.Tokens.{Seen, seen, seen_one}
use Rattle.uc_scratch.specs.declared.file.Item as code
use Rattle.uc_scratch.specs.Files.{Item}
use Rattle.uc_scratch.specs.FileViews.{item_of, items_of}
use Rattle.uc_scratch.specs.Terminals.{terminal_of, terminals_of}
use Rattle.uc_scratch.specs.ItemGrammar.{items_among}
use Rattle.uc_scratch.specs.ExprLevels.{Signed}
use Rattle.uc_scratch.specs.FileLevels as levels
use Rattle.uc_scratch.specs.FileLevels.{item_levels, signed_behind, AreShallow}
use Rattle.uc_scratch.specs.Signatures.{signed_after}
use Rattle.uc_scratch.specs.Rooms.{HasRoom}
use Rattle.uc_scratch.specs.Reading as reading
use Rattle.uc_scratch.specs.Reading.{ReadsTokens, ReadsItems, IsItemsFault, IsFileFault}
use Rattle.uc_scratch.specs.Nesting.{too_deep_place}
use Rattle.uc_scratch.specs.NameFaults.{name_fault}
use Rattle.uc_scratch.proofs.ItemRooms.{room_first, room_rest, text_has_room}

-- the last item is the one that counts
signed_more : (is : List Item) (i : Item) → signed_after (is ++ i ∷ []) ≡ signed_behind i
signed_more [] i = refl
signed_more (j ∷ []) i = refl
signed_more (j ∷ k ∷ is) i = signed_more (k ∷ is) i

items_more : (is : List code.Item) (i : code.Item) → items_of (is ++ i ∷ []) ≡ items_of is ++ item_of i ∷ []
items_more [] i = refl
items_more (j ∷ is) i = ap (λ l. item_of j ∷ l) (items_more is i)

terminals_more : (ts us : List Token) → terminals_of (seen (ts ++ us)) ≡ terminals_of (seen ts) ++ terminals_of (seen us)
terminals_more [] us = refl
terminals_more (t ∷ ts) us = ap (λ l. terminal_of (seen_one t) ∷ l) (terminals_more ts us)

append_none : (is : List Item) → is ++ [] ≡ is
append_none [] = refl
append_none (i ∷ is) = ap (λ l. i ∷ l) (append_none is)

-- What is left to read, behind some items that are read: readings and faults of the rest are those of the whole.
pub record Left (whole : List Seen) (done : List Item) (rest : List Seen) : Type 0 where
  pub room : HasRoom (terminals_of rest)
  pub readings : (is : List Item) → ReadsItems (items_among rest) is → ReadsItems (items_among whole) (done ++ is)
  pub shallow : (is : List Item) → AreShallow (signed_after done) is → AreShallow None (done ++ is)
  pub fault : (f : Fault) → IsItemsFault (signed_after done) (items_among rest) f → IsItemsFault None (items_among whole) f

pub start : (whole : List Seen) → HasRoom (terminals_of whole) → Left whole [] whole
start whole h = record { room = h; readings = λ is r. r; shallow = λ is s. s; fault = λ f h. h }

one_more : (done is : List Item) (i : Item) → (done ++ i ∷ []) ++ is ≡ done ++ i ∷ is
one_more done is i = append_assoc done (i ∷ []) is

-- an item more is read
passed : (whole : List Seen) (done : List Item) (rest after ts : List Seen) (i : Item) → items_among rest ≡ ts ∷ items_among after
    → HasRoom (terminals_of after) → ReadsTokens ts i → item_levels (signed_after done) i ≤ 512 → Left whole done rest → Left whole (done ++ i ∷ []) after
passed whole done rest after ts i cut room r l h = record {
  room = room;
  readings = λ is s.
      let P : List (List Seen) → Type 0 = λ tss. ReadsItems tss (i ∷ is) in
      let Q : List Item → Type 0 = λ js. ReadsItems (items_among whole) js in
      subst Q (sym (one_more done is i)) (h.readings (i ∷ is) (subst P (sym cut) (reading.more_items r s)));
  shallow = λ is s.
      let P : Option Signed → Type 0 = λ o. AreShallow o is in
      let Q : List Item → Type 0 = λ js. AreShallow None js in
      subst Q (sym (one_more done is i)) (h.shallow (i ∷ is) (levels.more_items l (subst P (signed_more done i) s)));
  fault = λ f s.
      let P : Option Signed → Type 0 = λ o. IsItemsFault o (items_among after) f in
      let Q : List (List Seen) → Type 0 = λ tss. IsItemsFault (signed_after done) tss f in
      h.fault f (subst Q (sym cut) (reading.later r l (subst P (signed_more done i) s)));
}

-- the fault of the first item is that of all
first_fault : (signed : Option Signed) (ts : List Seen) (tss : List (List Seen)) (f : Fault) → IsItemsFault signed (ts ∷ []) f → IsItemsFault signed (ts ∷ tss) f
first_fault signed ts tss f (reading.no_reading n) = reading.no_reading n
first_fault signed ts tss f (reading.too_many_levels r l) = reading.too_many_levels r l
first_fault signed ts tss f (reading.later r l h) = absurd (elim h [ ])

-- The tokens of the first item, and those behind it, as a cut gives them.
pub record IsCut (rest first after : List Token) : Type 0 where
  pub cut : items_among (seen rest) ≡ seen first ∷ items_among (seen after)
  pub whole : rest ≡ first ++ after

room_of_both : (rest first after : List Token) → IsCut rest first after → HasRoom (terminals_of (seen rest)) → HasRoom (terminals_of (seen first) ++ terminals_of (seen after))
room_of_both rest first after c h =
    let P : List Token → Type 0 = λ ts. HasRoom (terminals_of (seen ts)) in
    subst HasRoom (terminals_more first after) (subst P c.whole h)

pub room_of_first : (rest first after : List Token) → IsCut rest first after → HasRoom (terminals_of (seen rest)) → HasRoom (terminals_of (seen first))
room_of_first rest first after c h = room_first _ _ (room_of_both rest first after c h)

room_of_rest : (rest first after : List Token) → IsCut rest first after → HasRoom (terminals_of (seen rest)) → HasRoom (terminals_of (seen after))
room_of_rest rest first after c h = room_rest _ _ (room_of_both rest first after c h)

behind_first : (rest first after : List Token) → IsCut rest first after → after ≡ take (length rest - length first) (drop (length first) rest)
behind_first rest first after c =
    let e : drop (length first) rest ≡ after = ap (drop (length first)) c.whole ∙ drop-append_seam first after in
    let n : length rest - length first ≡ length after = omega (arith, ap length c.whole, length-append first after) in
    sym (take-length after) ∙ ap (λ l. take (length after) l) (sym e) ∙ ap (λ k. take k (drop (length first) rest)) (sym n)

pub step : (whole : List Seen) (done : List code.Item) (rest first after : List Token) (i : code.Item) → IsCut rest first after
    → ReadsTokens (seen first) (item_of i) → item_levels (signed_after (items_of done)) (item_of i) ≤ 512
    → Left whole (items_of done) (seen rest) → Left whole (items_of (done ++ i ∷ [])) (seen (take (length rest - length first) (drop (length first) rest)))
step whole done rest first after i c r l h =
    let P : List Item → Type 0 = λ is. Left whole is (seen (take (length rest - length first) (drop (length first) rest))) in
    let Q : List Token → Type 0 = λ ts. Left whole (items_of done ++ item_of i ∷ []) (seen ts) in
    subst P (sym (items_more done i)) (subst Q (behind_first rest first after c)
    (passed whole (items_of done) (seen rest) (seen after) (seen first) (item_of i) c.cut (room_of_rest rest first after c h.room) r l h))

pub fault_of_first : (whole : List Seen) (done : List Item) (rest first after : List Token) (f : Fault) → IsCut rest first after
    → (f ≡ Memory) ⊎ IsItemsFault (signed_after done) (seen first ∷ []) f → Left whole done (seen rest) → (f ≡ Memory) ⊎ IsItemsFault None (items_among whole) f
fault_of_first whole done rest first after f c (inl m) h = inl m
fault_of_first whole done rest first after f c (inr e) h =
    let P : List (List Seen) → Type 0 = λ tss. IsItemsFault (signed_after done) tss f in
    inr (h.fault f (subst P (sym c.cut) (first_fault (signed_after done) (seen first) (items_among (seen after)) f e)))

-- nothing is left
pub all_read : (whole : List Seen) (done : List Item) (rest : List Token) → rest ≡ [] → Left whole done (seen rest) → ReadsItems (items_among whole) done × AreShallow None done
all_read whole done rest e h =
    let P : List Token → Type 0 = λ ts. ReadsItems (items_among (seen ts)) [] in
    let Q : List Item → Type 0 = λ js. ReadsItems (items_among whole) js in
    let R : List Item → Type 0 = λ js. AreShallow None js in
    (subst Q (append_none done) (h.readings [] (subst P (sym e) reading.no_items)), subst R (append_none done) (h.shallow [] levels.no_items))

one_less : (i j : code.Item) (is : List code.Item) → slice_get (i ∷ j ∷ is) (length (i ∷ j ∷ is) - 1) ≡ slice_get (j ∷ is) (length (j ∷ is) - 1)
one_less i j is = let e : length (i ∷ j ∷ is) - 1 ≡ suc (length (j ∷ is) - 1) = omega arith in ap (slice_get (i ∷ j ∷ is)) e

-- what some items give, by the last
pub after_none : (is : List code.Item) → slice_get is (length is - 1) ≡ None → signed_after (items_of is) ≡ None
after_none [] e = refl
after_none (i ∷ []) e = cc
after_none (i ∷ j ∷ is) e = after_none (j ∷ is) (sym (one_less i j is) ∙ e)

pub after_some : (is : List code.Item) (i : code.Item) → slice_get is (length is - 1) ≡ Some i → signed_after (items_of is) ≡ signed_behind (item_of i)
after_some [] i e = cc
after_some (j ∷ []) i e = ap (λ o. option_map_or (λ x. signed_behind (item_of x)) o None) e
after_some (j ∷ k ∷ is) i e = after_some (k ∷ is) i (sym (one_less j k is) ∙ e)

-- the fault of an item alone, at its first token
pub bad_syntax : (signed : Option Signed) (ts : List Token) (d : Token) → 0 < length ts → ((i : Item) → ReadsTokens (seen ts) i → ⊥)
    → IsItemsFault signed (seen ts ∷ []) (BadSyntax (get_or ts 0 d).place)
bad_syntax signed [] d h n = absurd (omega arith)
bad_syntax signed (t ∷ ts) d h n = reading.no_reading n

pub too_deep : (signed : Option Signed) (ts : List Token) (d : Token) (i : Item) → 0 < length ts → ReadsTokens (seen ts) i → 512 < item_levels signed i
    → IsItemsFault signed (seen ts ∷ []) (TooDeep (get_or ts 0 d).place)
too_deep signed [] d i h r l = absurd (omega arith)
too_deep signed (t ∷ ts) d i h r l = reading.too_many_levels r l

is_none : {A : Type 0} (o : Option A) → ((x : A) → o ≡ Some x → ⊥) → o ≡ None
is_none None n = refl
is_none (Some x) n = absurd (n x refl)

-- A text that nests nowhere too deep, as it is and as its tokens are seen.
pub record IsText (blocks ts : List Seen) : Type 0 where
  pub same : ts ≡ blocks
  pub nested : too_deep_place ts ≡ None

pub text : (blocks ts : List Seen) (o : Option Place) → ts ≡ blocks → o ≡ too_deep_place ts → ((p : Place) → o ≡ Some p → ⊥) → IsText blocks ts
text blocks ts o e f n = record { same = e; nested = sym f ∙ is_none o n }

pub text_room : (blocks ts : List Seen) → IsText blocks ts → HasRoom (terminals_of ts)
text_room blocks ts t = text_has_room ts t.nested

-- the faults of a text, by the stage that finds them

pub fault_of_nesting : (blocks ts : List Seen) (o : Option Place) (p : Place) → ts ≡ blocks → o ≡ too_deep_place ts → o ≡ Some p → IsFileFault blocks (TooDeep p)
fault_of_nesting blocks ts o p e f g =
    let P : List Seen → Type 0 = λ bs. IsFileFault bs (TooDeep p) in subst P e (reading.nests_too_deep (sym f ∙ g))

pub fault_of_items : (blocks ts : List Seen) (f : Fault) → IsText blocks ts → (f ≡ Memory) ⊎ IsItemsFault None (items_among ts) f → (f ≡ Memory) ⊎ IsFileFault blocks f
fault_of_items blocks ts f t (inl m) = inl m
fault_of_items blocks ts f t (inr i) =
    let P : List Seen → Type 0 = λ bs. IsFileFault bs f in inr (subst P t.same (reading.at_item t.nested i))

pub fault_of_names : (blocks ts : List Seen) (is js : List code.Item) (o : Option Fault) (f : Fault) → IsText blocks ts
    → ReadsItems (items_among ts) (items_of is) → AreShallow None (items_of is) → js ≡ is → o ≡ name_fault (items_of js) → o ≡ Some f → IsFileFault blocks f
fault_of_names blocks ts is js o f t r s e g h =
    let P : List Seen → Type 0 = λ bs. IsFileFault bs f in
    subst P t.same (reading.at_name t.nested r s (sym (g ∙ ap (λ l. name_fault (items_of l)) e) ∙ h))
