-- Forms of terms and types that rules tell apart.
use Rattle.std.specs.Prelude.{ℕ, zero, suc, Bool, true, false, ◌==◌}
use Rattle.std.specs.List.{list_any}
use Rattle.uc_base.specs.declared.reference.Ref.TheVariants.{Builtin}
use Rattle.uc_tree.specs.declared.target.Target.TheVariants.{Stored}
use Rattle.uc_tree.specs.Terms.{Term, Terms}
use Rattle.uc_tree.specs.Terms as terms
use Rattle.uc_context.specs.Entries.{ContextEntries, is_unsolved}
use Rattle.uc_context.specs.Opens.{Open, existential, quantified, arrow, tuple, applied, none, more}
use Rattle.uc_subtyping.specs.Instances.{opens_count}

-- how many terms a list has
abbrev pub terms_count : Terms → ℕ
terms_count terms.none = zero
terms_count (terms.more e es) = suc (terms_count es)

-- whether a type is a list
abbrev pub is_list : Open → Bool
is_list (applied (Stored (Builtin n)) (more t none)) = n == 5
is_list _ = false

-- whether a rule of its form checks a term against a type without a quantifier at its front
abbrev pub has_rule_of_form : Term → Open → Bool
has_rule_of_form (terms.lambda e) (arrow a b) = true
has_rule_of_form (terms.tuple es) (tuple ts) = terms_count es == opens_count ts
has_rule_of_form (terms.list es) t = is_list t
has_rule_of_form (terms.conditional a b c) t = true
has_rule_of_form (terms.binding s a b) t = true
has_rule_of_form (terms.match e cs) t = true
has_rule_of_form e t = false

-- whether a type can be that of a function
abbrev pub is_applicable : ContextEntries → Open → Bool
is_applicable es (quantified t) = true
is_applicable es (arrow a b) = true
is_applicable es (existential x) = list_any (is_unsolved x) es
is_applicable es _ = false
