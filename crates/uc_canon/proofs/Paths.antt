-- A path is a name.
use Rattle.std.proofs.Common.{◌≡◌, ℕ, Bool, true, false, ◌==◌, if◌then◌else◌, List, [], ◌∷◌, refl, sym, ap, ◌∙◌}
use Rattle.std.proofs.lemmas.Bool.{and_parts}
use Rattle.std.specs.Cmp.Derive.{both_true}
use Rattle.std.specs.List.{list_all}
use Rattle.uc_base.specs.Name.{is_word, are_segments, segments_of, with_first, IsName, IsPath}

with_first_some : (c : ℕ) (ss : List (List ℕ)) → with_first c ss ≡ [] → ⊥
with_first_some c [] e = cc
with_first_some c (s ∷ ss) e = cc

some_segment : (text : List ℕ) → segments_of text ≡ [] → ⊥
some_segment [] e = cc
some_segment (c ∷ cs) e = go (c == 46) e
  where
    go : (b : Bool) → (if b then [] ∷ segments_of cs else with_first c (segments_of cs)) ≡ [] → ⊥
    go true e = cc
    go false e = with_first_some c (segments_of cs) e

words_are_segments : (s : List ℕ) (ss : List (List ℕ)) → list_all is_word (s ∷ ss) ≡ true → are_segments (s ∷ ss) ≡ true
words_are_segments s [] e = rw (and_parts (is_word s) true e).0 refl
words_are_segments s (t ∷ ss) e = let p = and_parts (is_word s) (list_all is_word (t ∷ ss)) e in both_true p.0 (words_are_segments t ss p.1)

pub path_is_name : (text : List ℕ) → IsPath text → IsName text
path_is_name text path = record { segments = go (segments_of text) refl; short = path.short }
  where
    go : (ss : List (List ℕ)) → segments_of text ≡ ss → are_segments (segments_of text) ≡ true
    go [] is = absurd (some_segment text is)
    go (s ∷ ss) is = ap are_segments is ∙ words_are_segments s ss (ap (list_all is_word) (sym is) ∙ path.words)
