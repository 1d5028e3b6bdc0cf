use Rattle.std.proofs.Common.{rules, ◌≡◌, ◌^◌, arith, inl, ap, ◌∙◌, length}
use Rattle.uc_turnstile.specs.Rule.{is_idle}
use Rattle.uc_turnstile.proofs.Deals.{deals_on, goes_on, deals_out, deals_last, starts, all_push, each_snoc}
use Rattle.uc_turnstile.proofs.turnstile.Turnstile.deal.Goals as goal

pub split_seat-next-requires : goal.split_seat-next-requires
split_seat-next-requires g c = let lt = c.loop-i-test.true in (search rules, search rules, deals_on _ _ _ _ _ _ _ _ _ _ (c.loop-i.invariant.me c.requires.view.0 c.requires.view.1) (omega arith))

pub seated-requires-clause-first : goal.seated-requires-clause-first
seated-requires-clause-first g c = let s = starts _ _ _ (deals_out _ _ _ _ _ (c.loop-i.invariant.me c.requires.view.0 c.requires.view.1) c.split_seat-next.ensures.4) in (s.0, inl s.1)

pub loop-i-preserved : goal.loop-i-preserved
loop-i-preserved g c =
    let lt = c.loop-i-test.true in
    let count = c.loop-i.invariant.count in record {
      table = c.split_seat-next.ensures.0 ∙ c.loop-i.invariant.table;
      me = λ log e. goes_on _ _ _ _ _ _ (c.loop-i.invariant.me log e) (omega arith) (omega arith) c.split_seat-next.ensures.2;
      count = let l = c.push_reserved.ensures.len in omega arith;
      capacity = c.push_reserved.ensures.capacity ∙ c.loop-i.invariant.capacity;
      own = all_push (λ p. p.seat.table_id ≡ c.args.seat.table_id) _ _ _ c.push_reserved.ensures.items c.loop-i.invariant.own (ap (λ s. s.table_id) c.seated.ensures.0 ∙ (c.split_seat-next.ensures.3 ∙ c.loop-i.invariant.table));
      left = all_push (λ p. (p.turns_left ≡ 2 ^ 40) × (p.splits_left ≡ 15)) _ _ _ c.push_reserved.ensures.items c.loop-i.invariant.left (c.seated.ensures.1, c.seated.ensures.2);
      each = λ log e. each_snoc _ _ _ _ c.loop-i.i (search rules) c.push_reserved.ensures.items (c.loop-i.invariant.each log e) (ap (λ s. s.me) c.seated.ensures.0 ∙ deals_out _ _ _ _ _ (c.loop-i.invariant.me log e) c.split_seat-next.ensures.4);
    }

pub seated-requires-2-clause-idle : goal.seated-requires-2-clause-idle
seated-requires-2-clause-idle g c = let ge = c.loop-i-test.false in let s = starts _ _ _ (deals_last _ _ _ _ (c.loop-i.invariant.me c.requires.view.0 c.requires.view.1) (omega arith)) in (ap is_idle s.3, ap length s.4)

pub seated-requires-2-clause-first : goal.seated-requires-2-clause-first
seated-requires-2-clause-first g c = let ge = c.loop-i-test.false in let s = starts _ _ _ (deals_last _ _ _ _ (c.loop-i.invariant.me c.requires.view.0 c.requires.view.1) (omega arith)) in (s.0, inl s.1)

pub seated-requires-2-clause-room : goal.seated-requires-2-clause-room
seated-requires-2-clause-room g c = let ge = c.loop-i-test.false in let s = starts _ _ _ (deals_last _ _ _ _ (c.loop-i.invariant.me c.requires.view.0 c.requires.view.1) (omega arith)) in let r = s.2 in omega arith

pub returns-clause-own : goal.returns-clause-own
returns-clause-own g c =
    all_push (λ p. p.seat.table_id ≡ c.args.self.now.table.shared.table_id) _ _ _ c.push_reserved-2.ensures.items (λ k d lt. c.loop-i.invariant.own k d lt ∙ c.requires.own) (ap (λ s. s.table_id) c.seated-2.ensures.0 ∙ (c.loop-i.invariant.table ∙ c.requires.own))

pub returns-clause-left : goal.returns-clause-left
returns-clause-left g c = all_push (λ p. (p.turns_left ≡ 2 ^ 40) × (p.splits_left ≡ 15)) _ _ _ c.push_reserved-2.ensures.items c.loop-i.invariant.left (c.seated-2.ensures.1, c.seated-2.ensures.2)

pub returns-clause-each : goal.returns-clause-each
returns-clause-each g c log e =
    let ge = c.loop-i-test.false in
    each_snoc _ _ _ _ c.loop-i.i (search rules) c.push_reserved-2.ensures.items (c.loop-i.invariant.each log e) (ap (λ s. s.me) c.seated-2.ensures.0 ∙ deals_last _ _ _ _ (c.loop-i.invariant.me log e) (omega arith))
