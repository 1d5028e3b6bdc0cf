use Rattle.std.proofs.Common.{refl, ap, ◌∙◌, ◌+◌, drop, cond, Some, map}
use Rattle.std.specs.Prelude.{bytes_eq}
use Rattle.uc_base.specs.Name.{is_one_of}
use Rattle.uc_meaning.specs.Senses.{no_names}
use Rattle.uc_meaning.specs.Suffixes.{suffixes_of, ending_at}
use Rattle.uc_meaning.proofs.SuffixSteps.{text_put, word_put}
use Rattle.uc_meaning.proofs.suffixes.Suffixes.new.Goals as goal

pub loop-text-preserved : goal.loop-text-preserved
loop-text-preserved c = λ w.
    let left = is_one_of (map (λ text. text.now) (drop (c.loop-text.text-index + 1) c.texts-text-items.result.now)) w in
    let old = ending_at (suffixes_of c.loop-text.endings.entries) w in
    ap (λ es. cond left (Some no_names) (ending_at (suffixes_of es) w)) c.in_ok-insert.ensures.entries
    ∙ ap (λ x. cond left (Some no_names) x) (text_put _ (λ v u. refl) w c.loop-text.endings.entries c.in_ok-to_vec.field-0 c.none.result)
    ∙ ap (λ x. cond left (Some no_names) (cond (bytes_eq w c.in_ok-to_vec.field-0.items) (Some x) old)) c.none.ensures
    ∙ ap (λ text. cond left (Some no_names) (cond (bytes_eq w text) (Some no_names) old)) (c.in_ok-to_vec.ensures.items_if_clones_equal (λ x y e. e))
    ∙ word_put (λ text. text.now) c.texts-text-items.result.now c.loop-text.text-index _ w no_names old c.loop-text-test.true ∙ c.loop-text.invariant w
