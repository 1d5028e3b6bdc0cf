use Rattle.std.proofs.Common.{◌≡◌, ◌⊎◌, inl, inr, ◌+◌, ◌++◌, [], ◌∷◌, ℕ, suc, length, List, sym, ◌∙◌, arith}
use Rattle.uc_outside.specs.Call.{calls_of}
use Rattle.uc_outside.specs.Image.{settled}
use Rattle.uc_outside.specs.declared.done.Done.{Done}
use Rattle.uc_outside.specs.declared.done.Done.TheVariants as done
use Rattle.uc_outside.proofs.Images.{settled-synced, settled-wrote, settled-spoilt}
use Rattle.uc_outside.proofs.image.settled_after.Goals as goal

-- a write leaves the count
quiet : (call : Done) → ((at : ℕ) × (n : ℕ) × (call ≡ done.Wrote at n)) ⊎ ((at : ℕ) × (n : ℕ) × (call ≡ done.Spoilt at n)) → (log : List ℕ) (calls : List Done) → settled (calls_of log (calls ++ call ∷ [])) ≡ settled (calls_of log calls)
quiet call (inl (at, n, is)) log calls = rw is (settled-wrote calls at n log)
quiet call (inr (at, n, is)) log calls = rw is (settled-spoilt calls at n log)

pub returns-in-Wrote : goal.returns-in-Wrote
returns-in-Wrote c = record {
  count = λ log calls before is. is ∙ sym (quiet c.args.call c.in-Wrote.is log calls);
  within = omega (arith, c.requires.within);
}

pub returns-in-Synced-clause-count : goal.returns-in-Synced-clause-count
returns-in-Synced-clause-count c log calls before is = rw c.in-Synced.is (let e : c.args.before + 1 ≡ suc (length calls) = omega (arith, before) in e ∙ sym (settled-synced calls log))
