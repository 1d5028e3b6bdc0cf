use Rattle.std.proofs.Common.{◌≡◌, false, ℕ, List, refl, sym, ap, ◌∙◌, subst}
use Rattle.std.specs.Prelude.{bytes_eq}
use Rattle.std.specs.Map.{lookup}
use Rattle.uc_meaning.specs.Candidates.{used_among, ending_in, first_filled, meaning_among}
use Rattle.uc_meaning.specs.Entries.{Entry}
use Rattle.uc_meaning.specs.SortNames.{indexed_wanted}
use Rattle.uc_meaning.specs.Results.{Gives}
use Rattle.uc_meaning.proofs.CandidateSteps.{found_own, own_meaning, used_meaning, whole_meaning, ending_meaning}
use Rattle.uc_meaning.proofs.lookup.LookupMeanings.name.Goals as goal
use Rattle.uc_meaning.proofs.lookup.LookupMeanings.name.Goals.{in-None, in-Some+else-is_own}

pub returns-then-is_own : goal.returns-then-is_own
returns-then-is_own g c =
    let E : List Entry = indexed_wanted c.args.self.now.kinds c.args.self.now.terms c.args.wanted in
    own_meaning E c.args.usings.now c.args.written.now.place c.args.written.now.text c.in_ok-whole.whole c.in_ok-whole.ensures.order
    (c.in_ok-whole.ensures.found ∙ ap (λ w. lookup (bytes_eq w) E) c.as_slice-text.ensures) c.in-Some.target c.in-Some.is (sym c.is_own.ensures ∙ c.if-is_own.true)

pub returns-then-not-is_empty : goal.returns-then-not-is_empty
returns-then-not-is_empty g c =
    let E : List Entry = indexed_wanted c.args.self.now.kinds c.args.self.now.terms c.args.wanted in
    let w : List ℕ = c.args.written.now.text in
    let found : c.match-whole.whole ≡ lookup (bytes_eq w) E = elim c.match-whole.branch [
      | in-None b ↦ b.whole-is ∙ c.in_ok-whole.ensures.found ∙ ap (λ v. lookup (bytes_eq v) E) c.as_slice-text.ensures
      | in-Some+else-is_own b ↦ b.whole-is ∙ sym b.in-Some.is ∙ c.in_ok-whole.ensures.found ∙ ap (λ v. lookup (bytes_eq v) E) c.as_slice-text.ensures
    ] in
    let other : found_own c.match-whole.whole ≡ false = elim c.match-whole.branch [
      | in-None b ↦ ap found_own (b.whole-is ∙ b.in-None.is)
      | in-Some+else-is_own b ↦ ap found_own b.whole-is ∙ sym b.is_own.ensures ∙ b.if-is_own.false
    ] in
    let used : c.in_ok-used.used ≡ first_filled (used_among E w c.args.usings.now) =
    c.in_ok-used.ensures.used ∙ ap (λ v. first_filled (used_among E v c.args.usings.now)) c.as_slice-text.ensures in
    let candidates =
    used_meaning E c.args.usings.now c.args.written.now.place w c.match-whole.whole c.in_ok-whole.ensures.order found other c.in_ok-used.used used
    (λ e. let h = c.if-not-is_empty.ensures.1 e in cc) in
    subst (Gives (λ t. t) c.meaning.result)
    (ap (λ v. meaning_among c.args.written.now.place v c.in_ok-used.used) c.as_slice-text.ensures ∙ ap (meaning_among c.args.written.now.place w) (sym candidates))
    c.meaning.ensures

pub returns-in-Some-whole : goal.returns-in-Some-whole
returns-in-Some-whole g c =
    let E : List Entry = indexed_wanted c.args.self.now.kinds c.args.self.now.terms c.args.wanted in
    let w : List ℕ = c.args.written.now.text in
    let found : c.match-whole.whole ≡ lookup (bytes_eq w) E = elim c.match-whole.branch [
      | in-None b ↦ b.whole-is ∙ c.in_ok-whole.ensures.found ∙ ap (λ v. lookup (bytes_eq v) E) c.as_slice-text.ensures
      | in-Some+else-is_own b ↦ b.whole-is ∙ sym b.in-Some.is ∙ c.in_ok-whole.ensures.found ∙ ap (λ v. lookup (bytes_eq v) E) c.as_slice-text.ensures
    ] in
    let other : found_own c.match-whole.whole ≡ false = elim c.match-whole.branch [
      | in-None b ↦ ap found_own (b.whole-is ∙ b.in-None.is)
      | in-Some+else-is_own b ↦ ap found_own b.whole-is ∙ sym b.is_own.ensures ∙ b.if-is_own.false
    ] in
    let used : c.in_ok-used.used ≡ first_filled (used_among E w c.args.usings.now) =
    c.in_ok-used.ensures.used ∙ ap (λ v. first_filled (used_among E v c.args.usings.now)) c.as_slice-text.ensures in
    whole_meaning E c.args.usings.now c.args.written.now.place w c.match-whole.whole c.in_ok-whole.ensures.order found other c.in_ok-used.used used (c.if-not-is_empty.ensures.0 refl)
    c.in-Some-whole.target c.in-Some-whole.is

pub returns : goal.returns
returns g c =
    let E : List Entry = indexed_wanted c.args.self.now.kinds c.args.self.now.terms c.args.wanted in
    let w : List ℕ = c.args.written.now.text in
    let found : c.match-whole.whole ≡ lookup (bytes_eq w) E = elim c.match-whole.branch [
      | in-None b ↦ b.whole-is ∙ c.in_ok-whole.ensures.found ∙ ap (λ v. lookup (bytes_eq v) E) c.as_slice-text.ensures
      | in-Some+else-is_own b ↦ b.whole-is ∙ sym b.in-Some.is ∙ c.in_ok-whole.ensures.found ∙ ap (λ v. lookup (bytes_eq v) E) c.as_slice-text.ensures
    ] in
    let other : found_own c.match-whole.whole ≡ false = elim c.match-whole.branch [
      | in-None b ↦ ap found_own (b.whole-is ∙ b.in-None.is)
      | in-Some+else-is_own b ↦ ap found_own b.whole-is ∙ sym b.is_own.ensures ∙ b.if-is_own.false
    ] in
    let used : c.in_ok-used.used ≡ first_filled (used_among E w c.args.usings.now) =
    c.in_ok-used.ensures.used ∙ ap (λ v. first_filled (used_among E v c.args.usings.now)) c.as_slice-text.ensures in
    let candidates =
    ending_meaning E c.args.usings.now c.args.written.now.place w c.match-whole.whole c.in_ok-whole.ensures.order found other c.in_ok-used.used used (c.if-not-is_empty.ensures.0 refl)
    c.in-None-whole.is in
    subst (Gives (λ t. t) c.ending_meaning.result)
    (ap (λ v. meaning_among c.args.written.now.place v (ending_in E v)) c.as_slice-text.ensures ∙ ap (meaning_among c.args.written.now.place w) (sym candidates))
    c.ending_meaning.ensures
