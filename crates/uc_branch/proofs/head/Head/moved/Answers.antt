use Rattle.std.proofs.Common.{◌≡◌, true, false, sym, ap, ◌∙◌, inl, option_map, Some, Option, List, ℕ}
use Rattle.std.specs.Option.{option_copied}
use Rattle.uc_base.specs.declared.fault.Fault.TheVariants.{NameTaken}
use Rattle.uc_branch.specs.Heads.{HeadPairs}
use Rattle.uc_branch.specs.Pairs.{is_same_name, lesser, least_name_of}
use Rattle.uc_branch.specs.Moving.{moves_some, makes_no_name, taken_names, least_taken}
use Rattle.uc_branch.proofs.head.Head.moved.Goals as goal

pub returns-in-Some-clause-refused : goal.returns-in-Some-clause-refused
returns-in-Some-clause-refused c =
    let from = c.args.from.now in
    let to = c.args.to.now in
    let old = c.args.self.now in
    let apart : is_same_name from to ≡ false = sym c.eq.ensures ∙ c.if-eq.false in
    let some : moves_some from old ≡ true = sym c.has_some.ensures ∙ c.if-not-has_some.false in
    let kinds_good : makes_no_name from to old.kinds ≡ false = ap (λ (h : HeadPairs). makes_no_name from to h.kinds) (sym c.self.view_is) ∙ c.in_ok-kinds.ensures.good in
    let terms_good : makes_no_name from to old.terms ≡ false = ap (λ (h : HeadPairs). makes_no_name from to h.terms) (sym c.self.view_is) ∙ c.in_ok-terms.ensures.good in
    let kinds : option_copied c.first_taken.result ≡ least_name_of (taken_names from to old.kinds) =
    c.first_taken.ensures ∙ rw (c.as_slice.ensures.value, c.in_ok-kinds.ensures.staying, c.in_ok-kinds.ensures.renamed) (ap (λ (h : HeadPairs). least_name_of (taken_names from to h.kinds)) c.self.view_is) in
    let terms : option_copied c.first_taken-2.result ≡ least_name_of (taken_names from to old.terms) =
    c.first_taken-2.ensures ∙ rw (c.as_slice-2.ensures.value, c.in_ok-terms.ensures.staying, c.in_ok-terms.ensures.renamed) (ap (λ (h : HeadPairs). least_name_of (taken_names from to h.terms)) c.self.view_is) in
    let least : least_taken from to old ≡ Some c.in-Some.name.now =
    sym (c.lesser-taken.ensures ∙ (ap (λ (x : Option (List ℕ)). lesser x (option_copied c.first_taken-2.result)) kinds ∙ ap (lesser (least_name_of (taken_names from to old.kinds))) terms)) ∙ ap option_copied c.in-Some.is in
    inl (rw (apart, some, kinds_good, terms_good) (ap (option_map NameTaken) (least ∙ ap Some (sym c.in_ok-copy-3.ensures))))
