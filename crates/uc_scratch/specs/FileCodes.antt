-- How the logic stores the items of a file.
use Rattle.std.specs.Prelude.{◌≡◌, List, refl}
use Rattle.std.specs.Coded.{Coded, coded_list, coded×, code_by}
use base.Stored.{Gv, gnil, gnum, gcons}
use Rattle.uc_base.specs.contracts.place.Place as place
use Rattle.uc_scratch.specs.contracts.written.Written as written
use Rattle.uc_scratch.specs.contracts.written.Param as param
use Rattle.uc_scratch.specs.contracts.written.Head as head
use Rattle.uc_scratch.specs.contracts.file.DeclarationSort as sort
use Rattle.uc_scratch.specs.TypeExprs.{TypeAtoms}
use Rattle.uc_scratch.specs.TypeCodes.{coded_type, coded_type_atoms}
use Rattle.uc_scratch.specs.ExprCodes.{coded_expr, coded_block}
use Rattle.uc_scratch.specs.Files.{Constructor, Item, using, declaration, signature, prefix, infix_operator, watch}
use Rattle.uc_scratch.specs.declared.written.Written.{Written}

-- a constructor is stored as the pair of its name and its fields
abbrev pub coded_constructor : Coded Constructor
coded_constructor = code_by (Written × TypeAtoms) (coded× written.the_row.coded coded_type_atoms) (λ c. (c.name, c.fields)) (λ p. record { name = p.0; fields = p.1 }) (λ _. refl)

abbrev item_code : Item → Gv
item_code (using p w ws) = gcons (gnum 0) (gcons (place.the_row.coded.code p) (gcons (written.the_row.coded.code w) ((coded_list written.the_row.coded).code ws)))
item_code (declaration s w ws cs) = gcons (gnum 1) (gcons (sort.the_row.coded.code s) (gcons (written.the_row.coded.code w) (gcons ((coded_list written.the_row.coded).code ws) ((coded_list coded_constructor).code cs))))
item_code (signature h t) = gcons (gnum 2) (gcons (head.the_row.coded.code h) (coded_type.code t))
item_code (prefix h ps b) = gcons (gnum 3) (gcons (head.the_row.coded.code h) (gcons ((coded_list param.the_row.coded).code ps) (coded_block.code b)))
item_code (infix_operator p w q b) = gcons (gnum 4) (gcons (param.the_row.coded.code p) (gcons (written.the_row.coded.code w) (gcons (param.the_row.coded.code q) (coded_block.code b))))
item_code (watch p e) = gcons (gnum 5) (gcons (place.the_row.coded.code p) (coded_expr.code e))

pub item_inj : (x y : Item) → item_code x ≡ item_code y → x ≡ y
item_inj (using p w ws) (using q v vs) i = let h : p ≡ q = place.the_row.coded.inj p q (cc) in let j : w ≡ v = written.the_row.coded.inj w v (cc) in let k : ws ≡ vs = (coded_list written.the_row.coded).inj ws vs (cc) in cc
item_inj (declaration s w ws cs) (declaration t v vs ds) i = let h : s ≡ t = sort.the_row.coded.inj s t (cc) in let j : w ≡ v = written.the_row.coded.inj w v (cc) in let k : ws ≡ vs = (coded_list written.the_row.coded).inj ws vs (cc) in let l : cs ≡ ds = (coded_list coded_constructor).inj cs ds (cc) in cc
item_inj (signature h t) (signature g u) i = let j : h ≡ g = head.the_row.coded.inj h g (cc) in let k : t ≡ u = coded_type.inj t u (cc) in cc
item_inj (prefix h ps b) (prefix g qs c) i = let j : h ≡ g = head.the_row.coded.inj h g (cc) in let k : ps ≡ qs = (coded_list param.the_row.coded).inj ps qs (cc) in let l : b ≡ c = coded_block.inj b c (cc) in cc
item_inj (infix_operator p w q b) (infix_operator r v s c) i = let h : p ≡ r = param.the_row.coded.inj p r (cc) in let j : w ≡ v = written.the_row.coded.inj w v (cc) in let k : q ≡ s = param.the_row.coded.inj q s (cc) in let l : b ≡ c = coded_block.inj b c (cc) in cc
item_inj (watch p e) (watch q f) i = let h : p ≡ q = place.the_row.coded.inj p q (cc) in let j : e ≡ f = coded_expr.inj e f (cc) in cc
item_inj _ _ i = cc

abbrev pub coded_item : Coded Item
coded_item = record { code = item_code; inj = item_inj }

abbrev pub coded_items : Coded (List Item)
coded_items = coded_list coded_item
