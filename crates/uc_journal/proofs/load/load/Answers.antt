use Rattle.std.proofs.Common.{◌≡◌, ◌⊎◌, ◌≤◌, inl, inr, ℕ, length, take, arith, ap, ◌∙◌, length-take}
use Rattle.std.proofs.lemmas.Bool.{cases_lt}
use Rattle.std.proofs.lemmas.List.{take_at}
use Rattle.std.proofs.lemmas.Result.{IfOk-weaker}
use Rattle.uc_journal.specs.Text.{text_limit}
use Rattle.uc_journal.proofs.Front.{text_longer, damaged_longer}
use Rattle.uc_journal.proofs.load.load.Given as given
use Rattle.uc_journal.proofs.load.load.Goals as goal

-- what was read is the front of the file
read : (g : given.Over) (c : goal.After-drop-bytes-in-Ok g) → g.D.Disk.tells → c.deref.result.now ≡ take c.min.result (g.D.Disk.view c.args.disk.now).seen
read g c told =
    let seen = (g.D.Disk.view c.args.disk.now).seen in
    let room : length c.as_mut_slice.result.now ≡ c.min.result = c.as_mut_slice.ensures.len ∙ c.in_ok-resize.ensures.len in
    let filled : c.read_at.new.room ≡ take c.min.result seen = c.in-Ok.ensures.bytes told ∙ ap (λ (n : ℕ). take n seen) room in
    let full : length c.read_at.new.room ≡ c.resize.new.self.len = omega (arith, ap length filled, length-take c.min.result seen, c.min.ensures, c.requires.size told, c.in_ok-resize.ensures.len) in
    c.deref.ensures.value ∙ take_at c.read_at.new.room _ c.resize.new.self.len full ∙ filled

pub returns-in-Ok-clause-text : goal.returns-in-Ok-clause-text
returns-in-Ok-clause-text g c told =
    IfOk-weaker c.read_records.result _ _ (λ found text. text_longer c.min.result (g.D.Disk.view c.args.disk.now).seen c.deref.result.now (read g c told) found.1.items text) c.read_records.ensures.text

pub returns-in-Ok-clause-damaged : goal.returns-in-Ok-clause-damaged
returns-in-Ok-clause-damaged g c told at is =
    let seen = (g.D.Disk.view c.args.disk.now).seen in
    let enough : (length seen ≤ c.min.result) ⊎ (text_limit ≤ c.min.result) = elim (cases_lt c.args.len text_limit) [
      | inl short ↦ inl (omega (arith, short, c.min.ensures, c.requires.size told))
      | inr long ↦ inr (omega (arith, long, c.min.ensures))
    ] in
    damaged_longer c.min.result seen c.deref.result.now (read g c told) at enough (c.read_records.ensures.damaged at is)
