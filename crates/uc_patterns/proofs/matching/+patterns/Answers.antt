use Rattle.std.proofs.Common.{◌≡◌, ℕ, ◌+◌, ◌<◌, List, length, OnOk, IfErr, arith, rules, refl, sym, ap, subst, ◌∙◌, inl, length-append}
use Rattle.std.proofs.lemmas.Result.{err_from_is_err_and, on_ok_weaker, IfErr-weaker}
use Rattle.uc_base.specs.declared.fault.Fault.TheVariants.{Memory}
use Rattle.uc_base.specs.declared.place.Spot.{Spot}
use Rattle.uc_tree.specs.Nodes.{pattern_nodes, patterns_nodes}
use Rattle.uc_tree.specs.Patterns.{Pattern, patterns_of, pattern_size, patterns_size}
use Rattle.uc_tree.specs.Patterns as patterns
use Rattle.uc_tree.specs.PatternViews.{pattern_of}
use Rattle.uc_tree.specs.Types.{Ty}
use Rattle.uc_tree.proofs.Sizes.{pattern_at}
use Rattle.uc_kinds.specs.PatternTyping.{Known}
use Rattle.uc_context.specs.Closing.{open_from}
use Rattle.uc_context.specs.Fresh.{fresh_number, fresh_numbers}
use Rattle.uc_context.specs.Opens.{Open, existential, none, more, opens_of}
use Rattle.uc_subtyping.specs.Instances.{opens_count}
use Rattle.uc_subtyping.proofs.Arms.{opens_count-of}
use Rattle.uc_subtyping.proofs.SubtypeArms.{opens_left, opens_left-more, opens_left-none, opens_left-all}
use Rattle.uc_soundness.proofs.Types.{type_covered}
use Rattle.uc_sound_typing.specs.Formed.{IsFormedPattern}
use Rattle.uc_sound_typing.proofs.Growing.{Covered-grows}
use Rattle.uc_typing.specs.Fronts.{front_count, behind_front, existentials, arguments_of, repeated, list_of}
use Rattle.uc_patterns.specs.declared.state.State.{State}
use Rattle.uc_patterns.specs.Walks.{AreTypes, IsFreshInstance, IsMatched}
use Rattle.uc_patterns.proofs.Arms.{Facing, Passing, facing_tuple, facing_list, facing_cons, facing_snoc, facing_fields, facing_refused, before_ready, before_lower, before_upper, mid_ready, mid_types, mid_room, passing_matched, passing_stopped, passing_other, tuple_expected, list_expected, cons_expected, snoc_expected, fields_expected, patterns_count-of, tuple_counts, list_counts, tuple_types, tuple_many, list_types, by_variable, by_alias, alias_stopped, alias_room, by_any}
use Rattle.uc_patterns.proofs.FrontParts.{repeated_length}
use Rattle.uc_patterns.proofs.States.{Behind, behind_binder}
use Rattle.uc_patterns.proofs.Steps.{PendingPatterns, pending_start, pending_as, pending_room, pending_stopped, pending_next, pending_done, patterns_left, patterns_left-more, patterns_left-none, patterns_left-all}
use Rattle.uc_patterns.proofs.TwoParts.{IsStoppedAt, first_typed, first_room, first_stopped, next_ready, second_typed, second_room, second_stopped, two_matched, cons_nodes, snoc_nodes}
use Rattle.uc_patterns.proofs.matching.+patterns.Goals as goal

pub match_tuple-expect-requires-clause-ready : goal.match_tuple-expect-requires-clause-ready
match_tuple-expect-requires-clause-ready g t c =
    let known : Known = g.K.TargetTypes.known c.args.known.now in
    let old : State = c.args.state.now in
    let s : Open = c.args.against.now in
    let ps : List Pattern = c.args.parts.now in
    let before : State = record { context = c.declare_all.new.context; sight = old.sight; spot = old.spot } in
    let ns : List ℕ = c.in_ok-numbers.numbers.items in
    let us : List Open = c.in_ok-parts_expected.parts_expected.items in
    let many : ns ≡ fresh_numbers (length ps) old.context = search rules in
    let are : us ≡ existentials ns = search rules in
    let f : Facing known old before (patterns.tuple (patterns_of ps)) s c.tuple-expected.result (tuple_expected old.context (patterns_of ps)) = facing_tuple known old before s c.tuple-expected.result c.requires.ready c.requires.typed refl refl ps ns us c.requires.pattern many c.in_ok-numbers.ensures.ok are c.tuple-expected.ensures in
    before_ready f

pub match_tuple-expect-requires-clause-lower : goal.match_tuple-expect-requires-clause-lower
match_tuple-expect-requires-clause-lower g t c =
    let known : Known = g.K.TargetTypes.known c.args.known.now in
    let old : State = c.args.state.now in
    let s : Open = c.args.against.now in
    let ps : List Pattern = c.args.parts.now in
    let before : State = record { context = c.declare_all.new.context; sight = old.sight; spot = old.spot } in
    let ns : List ℕ = c.in_ok-numbers.numbers.items in
    let us : List Open = c.in_ok-parts_expected.parts_expected.items in
    let many : ns ≡ fresh_numbers (length ps) old.context = search rules in
    let are : us ≡ existentials ns = search rules in
    let f : Facing known old before (patterns.tuple (patterns_of ps)) s c.tuple-expected.result (tuple_expected old.context (patterns_of ps)) = facing_tuple known old before s c.tuple-expected.result c.requires.ready c.requires.typed refl refl ps ns us c.requires.pattern many c.in_ok-numbers.ensures.ok are c.tuple-expected.ensures in
    before_lower f

pub match_tuple-expect-requires-clause-upper : goal.match_tuple-expect-requires-clause-upper
match_tuple-expect-requires-clause-upper g t c =
    let known : Known = g.K.TargetTypes.known c.args.known.now in
    let old : State = c.args.state.now in
    let s : Open = c.args.against.now in
    let ps : List Pattern = c.args.parts.now in
    let before : State = record { context = c.declare_all.new.context; sight = old.sight; spot = old.spot } in
    let ns : List ℕ = c.in_ok-numbers.numbers.items in
    let us : List Open = c.in_ok-parts_expected.parts_expected.items in
    let many : ns ≡ fresh_numbers (length ps) old.context = search rules in
    let are : us ≡ existentials ns = search rules in
    let f : Facing known old before (patterns.tuple (patterns_of ps)) s c.tuple-expected.result (tuple_expected old.context (patterns_of ps)) = facing_tuple known old before s c.tuple-expected.result c.requires.ready c.requires.typed refl refl ps ns us c.requires.pattern many c.in_ok-numbers.ensures.ok are c.tuple-expected.ensures in
    before_upper f

pub match_tuple-expect-requires-clause-nodes : goal.match_tuple-expect-requires-clause-nodes
match_tuple-expect-requires-clause-nodes g t c =
    let known : Known = g.K.TargetTypes.known c.args.known.now in
    let old : State = c.args.state.now in
    let s : Open = c.args.against.now in
    let ps : List Pattern = c.args.parts.now in
    let before : State = record { context = c.declare_all.new.context; sight = old.sight; spot = old.spot } in
    let ns : List ℕ = c.in_ok-numbers.numbers.items in
    let us : List Open = c.in_ok-parts_expected.parts_expected.items in
    let many : ns ≡ fresh_numbers (length ps) old.context = search rules in
    let are : us ≡ existentials ns = search rules in
    let f : Facing known old before (patterns.tuple (patterns_of ps)) s c.tuple-expected.result (tuple_expected old.context (patterns_of ps)) = facing_tuple known old before s c.tuple-expected.result c.requires.ready c.requires.typed refl refl ps ns us c.requires.pattern many c.in_ok-numbers.ensures.ok are c.tuple-expected.ensures in
    omega arith

pub match_tuple-returns-in_err-expect-clause-err : goal.match_tuple-returns-in_err-expect-clause-err
match_tuple-returns-in_err-expect-clause-err g t c =
    let known : Known = g.K.TargetTypes.known c.args.known.now in
    let old : State = c.args.state.now in
    let s : Open = c.args.against.now in
    let ps : List Pattern = c.args.parts.now in
    let before : State = record { context = c.declare_all.new.context; sight = old.sight; spot = old.spot } in
    let ns : List ℕ = c.in_ok-numbers.numbers.items in
    let us : List Open = c.in_ok-parts_expected.parts_expected.items in
    let many : ns ≡ fresh_numbers (length ps) old.context = search rules in
    let are : us ≡ existentials ns = search rules in
    let f : Facing known old before (patterns.tuple (patterns_of ps)) s c.tuple-expected.result (tuple_expected old.context (patterns_of ps)) = facing_tuple known old before s c.tuple-expected.result c.requires.ready c.requires.typed refl refl ps ns us c.requires.pattern many c.in_ok-numbers.ensures.ok are c.tuple-expected.ensures in
    let p = err_from_is_err_and c.from_residual-in_err-expect.result c.from_residual-in_err-expect.ensures.1 in
    rw (p.1, p.2) (facing_refused f _ c.in_err-expect.ensures.err)

pub match_tuple-match_each-requires : goal.match_tuple-match_each-requires
match_tuple-match_each-requires g t c κs within =
    let known : Known = g.K.TargetTypes.known c.args.known.now in
    let old : State = c.args.state.now in
    let s : Open = c.args.against.now in
    let ps : List Pattern = c.args.parts.now in
    let before : State = record { context = c.declare_all.new.context; sight = old.sight; spot = old.spot } in
    let ns : List ℕ = c.in_ok-numbers.numbers.items in
    let us : List Open = c.in_ok-parts_expected.parts_expected.items in
    let many : ns ≡ fresh_numbers (length ps) old.context = search rules in
    let are : us ≡ existentials ns = search rules in
    let f : Facing known old before (patterns.tuple (patterns_of ps)) s c.tuple-expected.result (tuple_expected old.context (patterns_of ps)) = facing_tuple known old before s c.tuple-expected.result c.requires.ready c.requires.typed refl refl ps ns us c.requires.pattern many c.in_ok-numbers.ensures.ok are c.tuple-expected.ensures in
    let mid : State = c.expect.new.state in
    let h : Passing known old before mid (patterns.tuple (patterns_of ps)) s c.tuple-expected.result (tuple_expected old.context (patterns_of ps)) = record { facing = f; below = c.in_ok-expect.ensures.ok; sight = c.in_ok-expect.ensures.sight; spot = c.in_ok-expect.ensures.spot } in
    let types : List Open = c.deref-3.result.now in
    let again : types ≡ existentials ns = search rules in (
      omega arith,
      (search rules, (mid_ready h, (c.requires.pattern, (subst (AreTypes known.arity mid.context) (sym (tuple_types old.context ps ns types many again)) (mid_types h), ((tuple_many old.context ps ns types many again), mid_room h (length (patterns_nodes (patterns_of ps))) (omega arith)))))),
    )

pub match_tuple-returns-in_err-match_each-clause-err : goal.match_tuple-returns-in_err-match_each-clause-err
match_tuple-returns-in_err-match_each-clause-err g t c =
    let known : Known = g.K.TargetTypes.known c.args.known.now in
    let old : State = c.args.state.now in
    let s : Open = c.args.against.now in
    let ps : List Pattern = c.args.parts.now in
    let before : State = record { context = c.declare_all.new.context; sight = old.sight; spot = old.spot } in
    let ns : List ℕ = c.in_ok-numbers.numbers.items in
    let us : List Open = c.in_ok-parts_expected.parts_expected.items in
    let many : ns ≡ fresh_numbers (length ps) old.context = search rules in
    let are : us ≡ existentials ns = search rules in
    let f : Facing known old before (patterns.tuple (patterns_of ps)) s c.tuple-expected.result (tuple_expected old.context (patterns_of ps)) = facing_tuple known old before s c.tuple-expected.result c.requires.ready c.requires.typed refl refl ps ns us c.requires.pattern many c.in_ok-numbers.ensures.ok are c.tuple-expected.ensures in
    let mid : State = c.expect.new.state in
    let h : Passing known old before mid (patterns.tuple (patterns_of ps)) s c.tuple-expected.result (tuple_expected old.context (patterns_of ps)) = record { facing = f; below = c.in_ok-expect.ensures.ok; sight = c.in_ok-expect.ensures.sight; spot = c.in_ok-expect.ensures.spot } in
    let types : List Open = c.deref-3.result.now in
    let again : types ≡ existentials ns = search rules in
    let p = err_from_is_err_and c.from_residual-in_err-match_each.result c.from_residual-in_err-match_each.ensures.1 in
    rw (p.1, p.2) (passing_stopped h (opens_of types) (tuple_types old.context ps ns types many again) (tuple_counts old.context ps) _ c.in_err-match_each.ensures.err)

pub match_tuple-returns-clause-ok : goal.match_tuple-returns-clause-ok
match_tuple-returns-clause-ok g t c =
    let known : Known = g.K.TargetTypes.known c.args.known.now in
    let old : State = c.args.state.now in
    let s : Open = c.args.against.now in
    let ps : List Pattern = c.args.parts.now in
    let before : State = record { context = c.declare_all.new.context; sight = old.sight; spot = old.spot } in
    let ns : List ℕ = c.in_ok-numbers.numbers.items in
    let us : List Open = c.in_ok-parts_expected.parts_expected.items in
    let many : ns ≡ fresh_numbers (length ps) old.context = search rules in
    let are : us ≡ existentials ns = search rules in
    let f : Facing known old before (patterns.tuple (patterns_of ps)) s c.tuple-expected.result (tuple_expected old.context (patterns_of ps)) = facing_tuple known old before s c.tuple-expected.result c.requires.ready c.requires.typed refl refl ps ns us c.requires.pattern many c.in_ok-numbers.ensures.ok are c.tuple-expected.ensures in
    let mid : State = c.expect.new.state in
    let h : Passing known old before mid (patterns.tuple (patterns_of ps)) s c.tuple-expected.result (tuple_expected old.context (patterns_of ps)) = record { facing = f; below = c.in_ok-expect.ensures.ok; sight = c.in_ok-expect.ensures.sight; spot = c.in_ok-expect.ensures.spot } in
    let types : List Open = c.deref-3.result.now in
    let again : types ≡ existentials ns = search rules in
    passing_matched h (opens_of types) (tuple_types old.context ps ns types many again) (tuple_counts old.context ps) c.match_each.new.state refl c.in_ok-match_each.ensures.ok

pub match_list-expect-requires-clause-ready : goal.match_list-expect-requires-clause-ready
match_list-expect-requires-clause-ready g t c =
    let known : Known = g.K.TargetTypes.known c.args.known.now in
    let old : State = c.args.state.now in
    let s : Open = c.args.against.now in
    let ps : List Pattern = c.args.elements.now in
    let before : State = record { context = c.declare.new.context; sight = old.sight; spot = old.spot } in
    let n : ℕ = c.in_ok-number.number in
    let u : Open = c.in_ok-expected.expected in
    let type : u ≡ list_of (existential n) = search rules in
    let f : Facing known old before (patterns.list (patterns_of ps)) s u (list_expected old.context (patterns_of ps)) = facing_list known old before s u c.requires.ready c.requires.typed refl refl n c.in_ok-number.ensures.number c.in_ok-number.ensures.ok type (patterns_of ps) c.requires.pattern in
    before_ready f

pub match_list-expect-requires-clause-lower : goal.match_list-expect-requires-clause-lower
match_list-expect-requires-clause-lower g t c =
    let known : Known = g.K.TargetTypes.known c.args.known.now in
    let old : State = c.args.state.now in
    let s : Open = c.args.against.now in
    let ps : List Pattern = c.args.elements.now in
    let before : State = record { context = c.declare.new.context; sight = old.sight; spot = old.spot } in
    let n : ℕ = c.in_ok-number.number in
    let u : Open = c.in_ok-expected.expected in
    let type : u ≡ list_of (existential n) = search rules in
    let f : Facing known old before (patterns.list (patterns_of ps)) s u (list_expected old.context (patterns_of ps)) = facing_list known old before s u c.requires.ready c.requires.typed refl refl n c.in_ok-number.ensures.number c.in_ok-number.ensures.ok type (patterns_of ps) c.requires.pattern in
    before_lower f

pub match_list-expect-requires-clause-upper : goal.match_list-expect-requires-clause-upper
match_list-expect-requires-clause-upper g t c =
    let known : Known = g.K.TargetTypes.known c.args.known.now in
    let old : State = c.args.state.now in
    let s : Open = c.args.against.now in
    let ps : List Pattern = c.args.elements.now in
    let before : State = record { context = c.declare.new.context; sight = old.sight; spot = old.spot } in
    let n : ℕ = c.in_ok-number.number in
    let u : Open = c.in_ok-expected.expected in
    let type : u ≡ list_of (existential n) = search rules in
    let f : Facing known old before (patterns.list (patterns_of ps)) s u (list_expected old.context (patterns_of ps)) = facing_list known old before s u c.requires.ready c.requires.typed refl refl n c.in_ok-number.ensures.number c.in_ok-number.ensures.ok type (patterns_of ps) c.requires.pattern in
    before_upper f

pub match_list-expect-requires-clause-nodes : goal.match_list-expect-requires-clause-nodes
match_list-expect-requires-clause-nodes g t c =
    let known : Known = g.K.TargetTypes.known c.args.known.now in
    let old : State = c.args.state.now in
    let s : Open = c.args.against.now in
    let ps : List Pattern = c.args.elements.now in
    let before : State = record { context = c.declare.new.context; sight = old.sight; spot = old.spot } in
    let n : ℕ = c.in_ok-number.number in
    let u : Open = c.in_ok-expected.expected in
    let type : u ≡ list_of (existential n) = search rules in
    let f : Facing known old before (patterns.list (patterns_of ps)) s u (list_expected old.context (patterns_of ps)) = facing_list known old before s u c.requires.ready c.requires.typed refl refl n c.in_ok-number.ensures.number c.in_ok-number.ensures.ok type (patterns_of ps) c.requires.pattern in
    omega arith

pub match_list-returns-in_err-expect-clause-err : goal.match_list-returns-in_err-expect-clause-err
match_list-returns-in_err-expect-clause-err g t c =
    let known : Known = g.K.TargetTypes.known c.args.known.now in
    let old : State = c.args.state.now in
    let s : Open = c.args.against.now in
    let ps : List Pattern = c.args.elements.now in
    let before : State = record { context = c.declare.new.context; sight = old.sight; spot = old.spot } in
    let n : ℕ = c.in_ok-number.number in
    let u : Open = c.in_ok-expected.expected in
    let type : u ≡ list_of (existential n) = search rules in
    let f : Facing known old before (patterns.list (patterns_of ps)) s u (list_expected old.context (patterns_of ps)) = facing_list known old before s u c.requires.ready c.requires.typed refl refl n c.in_ok-number.ensures.number c.in_ok-number.ensures.ok type (patterns_of ps) c.requires.pattern in
    let p = err_from_is_err_and c.from_residual-in_err-expect.result c.from_residual-in_err-expect.ensures.1 in
    rw (p.1, p.2) (facing_refused f _ c.in_err-expect.ensures.err)

pub match_list-match_each-requires : goal.match_list-match_each-requires
match_list-match_each-requires g t c κs within =
    let known : Known = g.K.TargetTypes.known c.args.known.now in
    let old : State = c.args.state.now in
    let s : Open = c.args.against.now in
    let ps : List Pattern = c.args.elements.now in
    let before : State = record { context = c.declare.new.context; sight = old.sight; spot = old.spot } in
    let n : ℕ = c.in_ok-number.number in
    let u : Open = c.in_ok-expected.expected in
    let type : u ≡ list_of (existential n) = search rules in
    let f : Facing known old before (patterns.list (patterns_of ps)) s u (list_expected old.context (patterns_of ps)) = facing_list known old before s u c.requires.ready c.requires.typed refl refl n c.in_ok-number.ensures.number c.in_ok-number.ensures.ok type (patterns_of ps) c.requires.pattern in
    let mid : State = c.expect.new.state in
    let h : Passing known old before mid (patterns.list (patterns_of ps)) s u (list_expected old.context (patterns_of ps)) = record { facing = f; below = c.in_ok-expect.ensures.ok; sight = c.in_ok-expect.ensures.sight; spot = c.in_ok-expect.ensures.spot } in
    let types : List Open = c.deref.result.now in
    let again : opens_of types ≡ repeated (length ps) (existential n) = search rules in (
      omega arith,
      (search rules, (mid_ready h, (c.requires.pattern, (subst (AreTypes known.arity mid.context) (sym (list_types old.context ps n types c.in_ok-number.ensures.number again)) (mid_types h), ((sym (repeated_length (length ps) (existential n) types again)), mid_room h (length (patterns_nodes (patterns_of ps))) (omega arith)))))),
    )

pub match_list-returns-in_err-match_each-clause-err : goal.match_list-returns-in_err-match_each-clause-err
match_list-returns-in_err-match_each-clause-err g t c =
    let known : Known = g.K.TargetTypes.known c.args.known.now in
    let old : State = c.args.state.now in
    let s : Open = c.args.against.now in
    let ps : List Pattern = c.args.elements.now in
    let before : State = record { context = c.declare.new.context; sight = old.sight; spot = old.spot } in
    let n : ℕ = c.in_ok-number.number in
    let u : Open = c.in_ok-expected.expected in
    let type : u ≡ list_of (existential n) = search rules in
    let f : Facing known old before (patterns.list (patterns_of ps)) s u (list_expected old.context (patterns_of ps)) = facing_list known old before s u c.requires.ready c.requires.typed refl refl n c.in_ok-number.ensures.number c.in_ok-number.ensures.ok type (patterns_of ps) c.requires.pattern in
    let mid : State = c.expect.new.state in
    let h : Passing known old before mid (patterns.list (patterns_of ps)) s u (list_expected old.context (patterns_of ps)) = record { facing = f; below = c.in_ok-expect.ensures.ok; sight = c.in_ok-expect.ensures.sight; spot = c.in_ok-expect.ensures.spot } in
    let types : List Open = c.deref.result.now in
    let again : opens_of types ≡ repeated (length ps) (existential n) = search rules in
    let p = err_from_is_err_and c.from_residual-in_err-match_each.result c.from_residual-in_err-match_each.ensures.1 in
    rw (p.1, p.2) (passing_stopped h (opens_of types) (list_types old.context ps n types c.in_ok-number.ensures.number again) (list_counts old.context ps) _ c.in_err-match_each.ensures.err)

pub match_list-returns-clause-ok : goal.match_list-returns-clause-ok
match_list-returns-clause-ok g t c =
    let known : Known = g.K.TargetTypes.known c.args.known.now in
    let old : State = c.args.state.now in
    let s : Open = c.args.against.now in
    let ps : List Pattern = c.args.elements.now in
    let before : State = record { context = c.declare.new.context; sight = old.sight; spot = old.spot } in
    let n : ℕ = c.in_ok-number.number in
    let u : Open = c.in_ok-expected.expected in
    let type : u ≡ list_of (existential n) = search rules in
    let f : Facing known old before (patterns.list (patterns_of ps)) s u (list_expected old.context (patterns_of ps)) = facing_list known old before s u c.requires.ready c.requires.typed refl refl n c.in_ok-number.ensures.number c.in_ok-number.ensures.ok type (patterns_of ps) c.requires.pattern in
    let mid : State = c.expect.new.state in
    let h : Passing known old before mid (patterns.list (patterns_of ps)) s u (list_expected old.context (patterns_of ps)) = record { facing = f; below = c.in_ok-expect.ensures.ok; sight = c.in_ok-expect.ensures.sight; spot = c.in_ok-expect.ensures.spot } in
    let types : List Open = c.deref.result.now in
    let again : opens_of types ≡ repeated (length ps) (existential n) = search rules in
    passing_matched h (opens_of types) (list_types old.context ps n types c.in_ok-number.ensures.number again) (list_counts old.context ps) c.match_each.new.state refl c.in_ok-match_each.ensures.ok

pub match_constructor-expect-requires-clause-ready : goal.match_constructor-expect-requires-clause-ready
match_constructor-expect-requires-clause-ready g t c =
    let known : Known = g.K.TargetTypes.known c.args.known.now in
    let old : State = c.args.state.now in
    let s : Open = c.args.against.now in
    let ps : List Pattern = c.args.fields.now in
    let before : State = record { context = c.constructor_type.new.context; sight = old.sight; spot = old.spot } in
    let ty : Ty = c.requires.constructor.ty in
    let opened : IsFreshInstance old.context before.context ty c.in_ok-constructor.constructor = c.in_ok-constructor.ensures.ok ty c.requires.constructor.is in
    let f : Facing known old before (patterns.constructor c.args.target.now (patterns_of ps)) s c.result_of-expected.result.now (fields_expected old.context (patterns_of ps) ty) = facing_fields known old before s c.result_of-expected.result.now c.requires.ready c.requires.typed refl refl c.args.target.now (patterns_of ps) ty c.in_ok-constructor.constructor c.requires.constructor c.requires.pattern c.requires.constructor.is opened.context opened.type c.result_of-expected.ensures in
    before_ready f

pub match_constructor-expect-requires-clause-lower : goal.match_constructor-expect-requires-clause-lower
match_constructor-expect-requires-clause-lower g t c =
    let known : Known = g.K.TargetTypes.known c.args.known.now in
    let old : State = c.args.state.now in
    let s : Open = c.args.against.now in
    let ps : List Pattern = c.args.fields.now in
    let before : State = record { context = c.constructor_type.new.context; sight = old.sight; spot = old.spot } in
    let ty : Ty = c.requires.constructor.ty in
    let opened : IsFreshInstance old.context before.context ty c.in_ok-constructor.constructor = c.in_ok-constructor.ensures.ok ty c.requires.constructor.is in
    let f : Facing known old before (patterns.constructor c.args.target.now (patterns_of ps)) s c.result_of-expected.result.now (fields_expected old.context (patterns_of ps) ty) = facing_fields known old before s c.result_of-expected.result.now c.requires.ready c.requires.typed refl refl c.args.target.now (patterns_of ps) ty c.in_ok-constructor.constructor c.requires.constructor c.requires.pattern c.requires.constructor.is opened.context opened.type c.result_of-expected.ensures in
    before_lower f

pub match_constructor-expect-requires-clause-upper : goal.match_constructor-expect-requires-clause-upper
match_constructor-expect-requires-clause-upper g t c =
    let known : Known = g.K.TargetTypes.known c.args.known.now in
    let old : State = c.args.state.now in
    let s : Open = c.args.against.now in
    let ps : List Pattern = c.args.fields.now in
    let before : State = record { context = c.constructor_type.new.context; sight = old.sight; spot = old.spot } in
    let ty : Ty = c.requires.constructor.ty in
    let opened : IsFreshInstance old.context before.context ty c.in_ok-constructor.constructor = c.in_ok-constructor.ensures.ok ty c.requires.constructor.is in
    let f : Facing known old before (patterns.constructor c.args.target.now (patterns_of ps)) s c.result_of-expected.result.now (fields_expected old.context (patterns_of ps) ty) = facing_fields known old before s c.result_of-expected.result.now c.requires.ready c.requires.typed refl refl c.args.target.now (patterns_of ps) ty c.in_ok-constructor.constructor c.requires.constructor c.requires.pattern c.requires.constructor.is opened.context opened.type c.result_of-expected.ensures in
    before_upper f

pub match_constructor-expect-requires-clause-nodes : goal.match_constructor-expect-requires-clause-nodes
match_constructor-expect-requires-clause-nodes g t c =
    let known : Known = g.K.TargetTypes.known c.args.known.now in
    let old : State = c.args.state.now in
    let s : Open = c.args.against.now in
    let ps : List Pattern = c.args.fields.now in
    let before : State = record { context = c.constructor_type.new.context; sight = old.sight; spot = old.spot } in
    let ty : Ty = c.requires.constructor.ty in
    let opened : IsFreshInstance old.context before.context ty c.in_ok-constructor.constructor = c.in_ok-constructor.ensures.ok ty c.requires.constructor.is in
    let f : Facing known old before (patterns.constructor c.args.target.now (patterns_of ps)) s c.result_of-expected.result.now (fields_expected old.context (patterns_of ps) ty) = facing_fields known old before s c.result_of-expected.result.now c.requires.ready c.requires.typed refl refl c.args.target.now (patterns_of ps) ty c.in_ok-constructor.constructor c.requires.constructor c.requires.pattern c.requires.constructor.is opened.context opened.type c.result_of-expected.ensures in
    omega arith

pub match_constructor-returns-in_err-expect-clause-err : goal.match_constructor-returns-in_err-expect-clause-err
match_constructor-returns-in_err-expect-clause-err g t c =
    let known : Known = g.K.TargetTypes.known c.args.known.now in
    let old : State = c.args.state.now in
    let s : Open = c.args.against.now in
    let ps : List Pattern = c.args.fields.now in
    let before : State = record { context = c.constructor_type.new.context; sight = old.sight; spot = old.spot } in
    let ty : Ty = c.requires.constructor.ty in
    let opened : IsFreshInstance old.context before.context ty c.in_ok-constructor.constructor = c.in_ok-constructor.ensures.ok ty c.requires.constructor.is in
    let f : Facing known old before (patterns.constructor c.args.target.now (patterns_of ps)) s c.result_of-expected.result.now (fields_expected old.context (patterns_of ps) ty) = facing_fields known old before s c.result_of-expected.result.now c.requires.ready c.requires.typed refl refl c.args.target.now (patterns_of ps) ty c.in_ok-constructor.constructor c.requires.constructor c.requires.pattern c.requires.constructor.is opened.context opened.type c.result_of-expected.ensures in
    let p = err_from_is_err_and c.from_residual-in_err-expect.result c.from_residual-in_err-expect.ensures.1 in
    rw (p.1, p.2) (facing_refused f _ c.in_err-expect.ensures.err)

pub match_constructor-match_each-requires : goal.match_constructor-match_each-requires
match_constructor-match_each-requires g t c κs within =
    let known : Known = g.K.TargetTypes.known c.args.known.now in
    let old : State = c.args.state.now in
    let s : Open = c.args.against.now in
    let ps : List Pattern = c.args.fields.now in
    let before : State = record { context = c.constructor_type.new.context; sight = old.sight; spot = old.spot } in
    let ty : Ty = c.requires.constructor.ty in
    let opened : IsFreshInstance old.context before.context ty c.in_ok-constructor.constructor = c.in_ok-constructor.ensures.ok ty c.requires.constructor.is in
    let f : Facing known old before (patterns.constructor c.args.target.now (patterns_of ps)) s c.result_of-expected.result.now (fields_expected old.context (patterns_of ps) ty) = facing_fields known old before s c.result_of-expected.result.now c.requires.ready c.requires.typed refl refl c.args.target.now (patterns_of ps) ty c.in_ok-constructor.constructor c.requires.constructor c.requires.pattern c.requires.constructor.is opened.context opened.type c.result_of-expected.ensures in
    let mid : State = c.expect.new.state in
    let h : Passing known old before mid (patterns.constructor c.args.target.now (patterns_of ps)) s c.result_of-expected.result.now (fields_expected old.context (patterns_of ps) ty) = record { facing = f; below = c.in_ok-expect.ensures.ok; sight = c.in_ok-expect.ensures.sight; spot = c.in_ok-expect.ensures.spot } in
    let types : List Open = c.deref.result.now in
    let read : types ≡ c.in_ok-types.types.items = search rules in
    let again : opens_of types ≡ arguments_of (behind_front (existentials (fresh_numbers (front_count (open_from ty)) old.context)) (open_from ty)) = ap opens_of read ∙ c.in_ok-types.ensures ∙ ap arguments_of opened.type in
    let lengths : length ps ≡ length types = search rules in (
      omega arith,
      (search rules, (mid_ready h, (c.requires.pattern, (subst (AreTypes known.arity mid.context) (sym again) (mid_types h), (lengths, mid_room h (length (patterns_nodes (patterns_of ps))) (omega arith)))))),
    )

pub match_constructor-returns-in_err-match_each-clause-err : goal.match_constructor-returns-in_err-match_each-clause-err
match_constructor-returns-in_err-match_each-clause-err g t c =
    let known : Known = g.K.TargetTypes.known c.args.known.now in
    let old : State = c.args.state.now in
    let s : Open = c.args.against.now in
    let ps : List Pattern = c.args.fields.now in
    let before : State = record { context = c.constructor_type.new.context; sight = old.sight; spot = old.spot } in
    let ty : Ty = c.requires.constructor.ty in
    let opened : IsFreshInstance old.context before.context ty c.in_ok-constructor.constructor = c.in_ok-constructor.ensures.ok ty c.requires.constructor.is in
    let f : Facing known old before (patterns.constructor c.args.target.now (patterns_of ps)) s c.result_of-expected.result.now (fields_expected old.context (patterns_of ps) ty) = facing_fields known old before s c.result_of-expected.result.now c.requires.ready c.requires.typed refl refl c.args.target.now (patterns_of ps) ty c.in_ok-constructor.constructor c.requires.constructor c.requires.pattern c.requires.constructor.is opened.context opened.type c.result_of-expected.ensures in
    let mid : State = c.expect.new.state in
    let h : Passing known old before mid (patterns.constructor c.args.target.now (patterns_of ps)) s c.result_of-expected.result.now (fields_expected old.context (patterns_of ps) ty) = record { facing = f; below = c.in_ok-expect.ensures.ok; sight = c.in_ok-expect.ensures.sight; spot = c.in_ok-expect.ensures.spot } in
    let types : List Open = c.deref.result.now in
    let read : types ≡ c.in_ok-types.types.items = search rules in
    let again : opens_of types ≡ arguments_of (behind_front (existentials (fresh_numbers (front_count (open_from ty)) old.context)) (open_from ty)) = ap opens_of read ∙ c.in_ok-types.ensures ∙ ap arguments_of opened.type in
    let lengths : length ps ≡ length types = search rules in
    let p = err_from_is_err_and c.from_residual-in_err-match_each.result c.from_residual-in_err-match_each.ensures.1 in
    rw (p.1, p.2) (passing_stopped h (opens_of types) again (patterns_count-of ps ∙ lengths ∙ sym (opens_count-of types) ∙ ap opens_count again) _ c.in_err-match_each.ensures.err)

pub match_constructor-returns-clause-ok : goal.match_constructor-returns-clause-ok
match_constructor-returns-clause-ok g t c =
    let known : Known = g.K.TargetTypes.known c.args.known.now in
    let old : State = c.args.state.now in
    let s : Open = c.args.against.now in
    let ps : List Pattern = c.args.fields.now in
    let before : State = record { context = c.constructor_type.new.context; sight = old.sight; spot = old.spot } in
    let ty : Ty = c.requires.constructor.ty in
    let opened : IsFreshInstance old.context before.context ty c.in_ok-constructor.constructor = c.in_ok-constructor.ensures.ok ty c.requires.constructor.is in
    let f : Facing known old before (patterns.constructor c.args.target.now (patterns_of ps)) s c.result_of-expected.result.now (fields_expected old.context (patterns_of ps) ty) = facing_fields known old before s c.result_of-expected.result.now c.requires.ready c.requires.typed refl refl c.args.target.now (patterns_of ps) ty c.in_ok-constructor.constructor c.requires.constructor c.requires.pattern c.requires.constructor.is opened.context opened.type c.result_of-expected.ensures in
    let mid : State = c.expect.new.state in
    let h : Passing known old before mid (patterns.constructor c.args.target.now (patterns_of ps)) s c.result_of-expected.result.now (fields_expected old.context (patterns_of ps) ty) = record { facing = f; below = c.in_ok-expect.ensures.ok; sight = c.in_ok-expect.ensures.sight; spot = c.in_ok-expect.ensures.spot } in
    let types : List Open = c.deref.result.now in
    let read : types ≡ c.in_ok-types.types.items = search rules in
    let again : opens_of types ≡ arguments_of (behind_front (existentials (fresh_numbers (front_count (open_from ty)) old.context)) (open_from ty)) = ap opens_of read ∙ c.in_ok-types.ensures ∙ ap arguments_of opened.type in
    let lengths : length ps ≡ length types = search rules in
    passing_matched h (opens_of types) again (patterns_count-of ps ∙ lengths ∙ sym (opens_count-of types) ∙ ap opens_count again) c.match_each.new.state refl c.in_ok-match_each.ensures.ok

pub match_constructor-returns-then-fields-len-clause-err : goal.match_constructor-returns-then-fields-len-clause-err
match_constructor-returns-then-fields-len-clause-err g t c =
    let known : Known = g.K.TargetTypes.known c.args.known.now in
    let old : State = c.args.state.now in
    let s : Open = c.args.against.now in
    let ps : List Pattern = c.args.fields.now in
    let before : State = record { context = c.constructor_type.new.context; sight = old.sight; spot = old.spot } in
    let ty : Ty = c.requires.constructor.ty in
    let opened : IsFreshInstance old.context before.context ty c.in_ok-constructor.constructor = c.in_ok-constructor.ensures.ok ty c.requires.constructor.is in
    let f : Facing known old before (patterns.constructor c.args.target.now (patterns_of ps)) s c.result_of-expected.result.now (fields_expected old.context (patterns_of ps) ty) = facing_fields known old before s c.result_of-expected.result.now c.requires.ready c.requires.typed refl refl c.args.target.now (patterns_of ps) ty c.in_ok-constructor.constructor c.requires.constructor c.requires.pattern c.requires.constructor.is opened.context opened.type c.result_of-expected.ensures in
    let mid : State = c.expect.new.state in
    let h : Passing known old before mid (patterns.constructor c.args.target.now (patterns_of ps)) s c.result_of-expected.result.now (fields_expected old.context (patterns_of ps) ty) = record { facing = f; below = c.in_ok-expect.ensures.ok; sight = c.in_ok-expect.ensures.sight; spot = c.in_ok-expect.ensures.spot } in
    let types : List Open = c.in_ok-types.types.items in
    let again : opens_of types ≡ arguments_of (behind_front (existentials (fresh_numbers (front_count (open_from ty)) old.context)) (open_from ty)) = c.in_ok-types.ensures ∙ ap arguments_of opened.type in
    passing_other h _ (λ same. let lengths : length ps ≡ length types = sym (patterns_count-of ps) ∙ same ∙ ap opens_count (sym again) ∙ opens_count-of types in absurd (omega (arith, lengths, c.in_ok-types.types.ok.0))) refl

pub match_cons-expect-requires-clause-ready : goal.match_cons-expect-requires-clause-ready
match_cons-expect-requires-clause-ready g t c =
    let known : Known = g.K.TargetTypes.known c.args.known.now in
    let old : State = c.args.state.now in
    let s : Open = c.args.against.now in
    let before : State = record { context = c.declare.new.context; sight = old.sight; spot = old.spot } in
    let n : ℕ = c.in_ok-number.number in
    let u : Open = c.in_ok-list.list in
    let type : u ≡ list_of (existential n) = search rules in
    let f : Facing known old before (patterns.cons c.args.first.now c.args.rest.now) s u (cons_expected old.context c.args.first.now c.args.rest.now) = facing_cons known old before s u c.requires.ready c.requires.typed refl refl n c.in_ok-number.ensures.number c.in_ok-number.ensures.ok type c.args.first.now c.args.rest.now c.requires.first c.requires.rest in
    before_ready f

pub match_cons-expect-requires-clause-lower : goal.match_cons-expect-requires-clause-lower
match_cons-expect-requires-clause-lower g t c =
    let known : Known = g.K.TargetTypes.known c.args.known.now in
    let old : State = c.args.state.now in
    let s : Open = c.args.against.now in
    let before : State = record { context = c.declare.new.context; sight = old.sight; spot = old.spot } in
    let n : ℕ = c.in_ok-number.number in
    let u : Open = c.in_ok-list.list in
    let type : u ≡ list_of (existential n) = search rules in
    let f : Facing known old before (patterns.cons c.args.first.now c.args.rest.now) s u (cons_expected old.context c.args.first.now c.args.rest.now) = facing_cons known old before s u c.requires.ready c.requires.typed refl refl n c.in_ok-number.ensures.number c.in_ok-number.ensures.ok type c.args.first.now c.args.rest.now c.requires.first c.requires.rest in
    before_lower f

pub match_cons-expect-requires-clause-upper : goal.match_cons-expect-requires-clause-upper
match_cons-expect-requires-clause-upper g t c =
    let known : Known = g.K.TargetTypes.known c.args.known.now in
    let old : State = c.args.state.now in
    let s : Open = c.args.against.now in
    let before : State = record { context = c.declare.new.context; sight = old.sight; spot = old.spot } in
    let n : ℕ = c.in_ok-number.number in
    let u : Open = c.in_ok-list.list in
    let type : u ≡ list_of (existential n) = search rules in
    let f : Facing known old before (patterns.cons c.args.first.now c.args.rest.now) s u (cons_expected old.context c.args.first.now c.args.rest.now) = facing_cons known old before s u c.requires.ready c.requires.typed refl refl n c.in_ok-number.ensures.number c.in_ok-number.ensures.ok type c.args.first.now c.args.rest.now c.requires.first c.requires.rest in
    before_upper f

pub match_cons-expect-requires-clause-nodes : goal.match_cons-expect-requires-clause-nodes
match_cons-expect-requires-clause-nodes g t c =
    let known : Known = g.K.TargetTypes.known c.args.known.now in
    let old : State = c.args.state.now in
    let s : Open = c.args.against.now in
    let before : State = record { context = c.declare.new.context; sight = old.sight; spot = old.spot } in
    let n : ℕ = c.in_ok-number.number in
    let u : Open = c.in_ok-list.list in
    let type : u ≡ list_of (existential n) = search rules in
    let f : Facing known old before (patterns.cons c.args.first.now c.args.rest.now) s u (cons_expected old.context c.args.first.now c.args.rest.now) = facing_cons known old before s u c.requires.ready c.requires.typed refl refl n c.in_ok-number.ensures.number c.in_ok-number.ensures.ok type c.args.first.now c.args.rest.now c.requires.first c.requires.rest in
    omega arith

pub match_cons-returns-in_err-expect-clause-err : goal.match_cons-returns-in_err-expect-clause-err
match_cons-returns-in_err-expect-clause-err g t c =
    let known : Known = g.K.TargetTypes.known c.args.known.now in
    let old : State = c.args.state.now in
    let s : Open = c.args.against.now in
    let before : State = record { context = c.declare.new.context; sight = old.sight; spot = old.spot } in
    let n : ℕ = c.in_ok-number.number in
    let u : Open = c.in_ok-list.list in
    let type : u ≡ list_of (existential n) = search rules in
    let f : Facing known old before (patterns.cons c.args.first.now c.args.rest.now) s u (cons_expected old.context c.args.first.now c.args.rest.now) = facing_cons known old before s u c.requires.ready c.requires.typed refl refl n c.in_ok-number.ensures.number c.in_ok-number.ensures.ok type c.args.first.now c.args.rest.now c.requires.first c.requires.rest in
    let p = err_from_is_err_and c.from_residual-in_err-expect.result c.from_residual-in_err-expect.ensures.1 in
    rw (p.1, p.2) (facing_refused f _ c.in_err-expect.ensures.err)

pub match_cons-match_pattern-requires : goal.match_cons-match_pattern-requires
match_cons-match_pattern-requires g t c κs within =
    let known : Known = g.K.TargetTypes.known c.args.known.now in
    let old : State = c.args.state.now in
    let s : Open = c.args.against.now in
    let before : State = record { context = c.declare.new.context; sight = old.sight; spot = old.spot } in
    let n : ℕ = c.in_ok-number.number in
    let u : Open = c.in_ok-list.list in
    let type : u ≡ list_of (existential n) = search rules in
    let f : Facing known old before (patterns.cons c.args.first.now c.args.rest.now) s u (cons_expected old.context c.args.first.now c.args.rest.now) = facing_cons known old before s u c.requires.ready c.requires.typed refl refl n c.in_ok-number.ensures.number c.in_ok-number.ensures.ok type c.args.first.now c.args.rest.now c.requires.first c.requires.rest in
    let mid : State = c.expect.new.state in
    let h : Passing known old before mid (patterns.cons c.args.first.now c.args.rest.now) s u (cons_expected old.context c.args.first.now c.args.rest.now) = record { facing = f; below = c.in_ok-expect.ensures.ok; sight = c.in_ok-expect.ensures.sight; spot = c.in_ok-expect.ensures.spot } in
    let all : u ≡ list_of (existential (fresh_number old.context)) = type ∙ ap (λ (m : ℕ). list_of (existential m)) c.in_ok-number.ensures.number in
    let element : Open = c.existential-element.result in
    let exists : element ≡ existential (fresh_number old.context) = c.existential-element.ensures ∙ ap existential c.in_ok-number.ensures.number in
    let whole : more element (more (list_of (existential (fresh_number old.context))) none) ≡ (cons_expected old.context c.args.first.now c.args.rest.now).types = ap (λ (v : Open). more v (more (list_of (existential (fresh_number old.context))) none)) exists in (
      omega arith,
      (search rules, (mid_ready h, (c.requires.first, (first_typed h c.args.first.now c.args.rest.now element (list_of (existential (fresh_number old.context))) refl whole, first_room h c.args.first.now c.args.rest.now element (list_of (existential (fresh_number old.context))) refl whole c.requires.nodes)))),
    )

pub match_cons-returns-in_err-match_pattern-clause-err : goal.match_cons-returns-in_err-match_pattern-clause-err
match_cons-returns-in_err-match_pattern-clause-err g t c =
    let known : Known = g.K.TargetTypes.known c.args.known.now in
    let old : State = c.args.state.now in
    let s : Open = c.args.against.now in
    let before : State = record { context = c.declare.new.context; sight = old.sight; spot = old.spot } in
    let n : ℕ = c.in_ok-number.number in
    let u : Open = c.in_ok-list.list in
    let type : u ≡ list_of (existential n) = search rules in
    let f : Facing known old before (patterns.cons c.args.first.now c.args.rest.now) s u (cons_expected old.context c.args.first.now c.args.rest.now) = facing_cons known old before s u c.requires.ready c.requires.typed refl refl n c.in_ok-number.ensures.number c.in_ok-number.ensures.ok type c.args.first.now c.args.rest.now c.requires.first c.requires.rest in
    let mid : State = c.expect.new.state in
    let h : Passing known old before mid (patterns.cons c.args.first.now c.args.rest.now) s u (cons_expected old.context c.args.first.now c.args.rest.now) = record { facing = f; below = c.in_ok-expect.ensures.ok; sight = c.in_ok-expect.ensures.sight; spot = c.in_ok-expect.ensures.spot } in
    let all : u ≡ list_of (existential (fresh_number old.context)) = type ∙ ap (λ (m : ℕ). list_of (existential m)) c.in_ok-number.ensures.number in
    let element : Open = c.existential-element.result in
    let exists : element ≡ existential (fresh_number old.context) = c.existential-element.ensures ∙ ap existential c.in_ok-number.ensures.number in
    let whole : more element (more (list_of (existential (fresh_number old.context))) none) ≡ (cons_expected old.context c.args.first.now c.args.rest.now).types = ap (λ (v : Open). more v (more (list_of (existential (fresh_number old.context))) none)) exists in
    let p = err_from_is_err_and c.from_residual-in_err-match_pattern.result c.from_residual-in_err-match_pattern.ensures.1 in
    rw (p.1, p.2) (first_stopped h c.args.first.now c.args.rest.now element (list_of (existential (fresh_number old.context))) refl whole _ c.in_err-match_pattern.ensures.err)

pub match_cons-match_pattern-requires-2 : goal.match_cons-match_pattern-requires-2
match_cons-match_pattern-requires-2 g t c κs within =
    let known : Known = g.K.TargetTypes.known c.args.known.now in
    let old : State = c.args.state.now in
    let s : Open = c.args.against.now in
    let before : State = record { context = c.declare.new.context; sight = old.sight; spot = old.spot } in
    let n : ℕ = c.in_ok-number.number in
    let u : Open = c.in_ok-list.list in
    let type : u ≡ list_of (existential n) = search rules in
    let f : Facing known old before (patterns.cons c.args.first.now c.args.rest.now) s u (cons_expected old.context c.args.first.now c.args.rest.now) = facing_cons known old before s u c.requires.ready c.requires.typed refl refl n c.in_ok-number.ensures.number c.in_ok-number.ensures.ok type c.args.first.now c.args.rest.now c.requires.first c.requires.rest in
    let mid : State = c.expect.new.state in
    let h : Passing known old before mid (patterns.cons c.args.first.now c.args.rest.now) s u (cons_expected old.context c.args.first.now c.args.rest.now) = record { facing = f; below = c.in_ok-expect.ensures.ok; sight = c.in_ok-expect.ensures.sight; spot = c.in_ok-expect.ensures.spot } in
    let all : u ≡ list_of (existential (fresh_number old.context)) = type ∙ ap (λ (m : ℕ). list_of (existential m)) c.in_ok-number.ensures.number in
    let element : Open = c.existential-element.result in
    let exists : element ≡ existential (fresh_number old.context) = c.existential-element.ensures ∙ ap existential c.in_ok-number.ensures.number in
    let whole : more element (more u none) ≡ (cons_expected old.context c.args.first.now c.args.rest.now).types = ap (λ (v : Open). more v (more u none)) exists ∙ ap (λ (v : Open). more (existential (fresh_number old.context)) (more v none)) all in (
      omega arith,
      (search rules, (next_ready h c.args.first.now c.args.rest.now element u refl whole c.match_pattern.new.state c.requires.first c.in_ok-match_pattern.ensures.ok, (c.requires.rest, (second_typed h c.args.first.now c.args.rest.now element u refl whole c.match_pattern.new.state c.requires.first c.in_ok-match_pattern.ensures.ok, second_room h c.args.first.now c.args.rest.now element u refl whole c.match_pattern.new.state c.requires.first c.in_ok-match_pattern.ensures.ok c.requires.nodes)))),
    )

pub match_cons-returns-in_err-match_pattern-2-clause-err : goal.match_cons-returns-in_err-match_pattern-2-clause-err
match_cons-returns-in_err-match_pattern-2-clause-err g t c =
    let known : Known = g.K.TargetTypes.known c.args.known.now in
    let old : State = c.args.state.now in
    let s : Open = c.args.against.now in
    let before : State = record { context = c.declare.new.context; sight = old.sight; spot = old.spot } in
    let n : ℕ = c.in_ok-number.number in
    let u : Open = c.in_ok-list.list in
    let type : u ≡ list_of (existential n) = search rules in
    let f : Facing known old before (patterns.cons c.args.first.now c.args.rest.now) s u (cons_expected old.context c.args.first.now c.args.rest.now) = facing_cons known old before s u c.requires.ready c.requires.typed refl refl n c.in_ok-number.ensures.number c.in_ok-number.ensures.ok type c.args.first.now c.args.rest.now c.requires.first c.requires.rest in
    let mid : State = c.expect.new.state in
    let h : Passing known old before mid (patterns.cons c.args.first.now c.args.rest.now) s u (cons_expected old.context c.args.first.now c.args.rest.now) = record { facing = f; below = c.in_ok-expect.ensures.ok; sight = c.in_ok-expect.ensures.sight; spot = c.in_ok-expect.ensures.spot } in
    let all : u ≡ list_of (existential (fresh_number old.context)) = type ∙ ap (λ (m : ℕ). list_of (existential m)) c.in_ok-number.ensures.number in
    let element : Open = c.existential-element.result in
    let exists : element ≡ existential (fresh_number old.context) = c.existential-element.ensures ∙ ap existential c.in_ok-number.ensures.number in
    let whole : more element (more u none) ≡ (cons_expected old.context c.args.first.now c.args.rest.now).types = ap (λ (v : Open). more v (more u none)) exists ∙ ap (λ (v : Open). more (existential (fresh_number old.context)) (more v none)) all in
    let p = err_from_is_err_and c.from_residual-in_err-match_pattern-2.result c.from_residual-in_err-match_pattern-2.ensures.1 in
    rw (p.1, p.2) (second_stopped h c.args.first.now c.args.rest.now element u refl whole c.match_pattern.new.state c.requires.first c.in_ok-match_pattern.ensures.ok _ c.in_err-match_pattern-2.ensures.err)

pub match_cons-returns-clause-ok : goal.match_cons-returns-clause-ok
match_cons-returns-clause-ok g t c =
    let known : Known = g.K.TargetTypes.known c.args.known.now in
    let old : State = c.args.state.now in
    let s : Open = c.args.against.now in
    let before : State = record { context = c.declare.new.context; sight = old.sight; spot = old.spot } in
    let n : ℕ = c.in_ok-number.number in
    let u : Open = c.in_ok-list.list in
    let type : u ≡ list_of (existential n) = search rules in
    let f : Facing known old before (patterns.cons c.args.first.now c.args.rest.now) s u (cons_expected old.context c.args.first.now c.args.rest.now) = facing_cons known old before s u c.requires.ready c.requires.typed refl refl n c.in_ok-number.ensures.number c.in_ok-number.ensures.ok type c.args.first.now c.args.rest.now c.requires.first c.requires.rest in
    let mid : State = c.expect.new.state in
    let h : Passing known old before mid (patterns.cons c.args.first.now c.args.rest.now) s u (cons_expected old.context c.args.first.now c.args.rest.now) = record { facing = f; below = c.in_ok-expect.ensures.ok; sight = c.in_ok-expect.ensures.sight; spot = c.in_ok-expect.ensures.spot } in
    let all : u ≡ list_of (existential (fresh_number old.context)) = type ∙ ap (λ (m : ℕ). list_of (existential m)) c.in_ok-number.ensures.number in
    let element : Open = c.existential-element.result in
    let exists : element ≡ existential (fresh_number old.context) = c.existential-element.ensures ∙ ap existential c.in_ok-number.ensures.number in
    let whole : more element (more u none) ≡ (cons_expected old.context c.args.first.now c.args.rest.now).types = ap (λ (v : Open). more v (more u none)) exists ∙ ap (λ (v : Open). more (existential (fresh_number old.context)) (more v none)) all in
    two_matched h c.args.first.now c.args.rest.now element u refl whole c.match_pattern.new.state c.requires.first c.in_ok-match_pattern.ensures.ok c.match_pattern-2.new.state (cons_nodes c.args.first.now c.args.rest.now) c.in_ok-match_pattern-2.ensures.ok

pub match_snoc-expect-requires-clause-ready : goal.match_snoc-expect-requires-clause-ready
match_snoc-expect-requires-clause-ready g t c =
    let known : Known = g.K.TargetTypes.known c.args.known.now in
    let old : State = c.args.state.now in
    let s : Open = c.args.against.now in
    let before : State = record { context = c.declare.new.context; sight = old.sight; spot = old.spot } in
    let n : ℕ = c.in_ok-number.number in
    let u : Open = c.in_ok-list.list in
    let type : u ≡ list_of (existential n) = search rules in
    let f : Facing known old before (patterns.snoc c.args.front.now c.args.last.now) s u (snoc_expected old.context c.args.front.now c.args.last.now) = facing_snoc known old before s u c.requires.ready c.requires.typed refl refl n c.in_ok-number.ensures.number c.in_ok-number.ensures.ok type c.args.front.now c.args.last.now c.requires.front c.requires.last in
    before_ready f

pub match_snoc-expect-requires-clause-lower : goal.match_snoc-expect-requires-clause-lower
match_snoc-expect-requires-clause-lower g t c =
    let known : Known = g.K.TargetTypes.known c.args.known.now in
    let old : State = c.args.state.now in
    let s : Open = c.args.against.now in
    let before : State = record { context = c.declare.new.context; sight = old.sight; spot = old.spot } in
    let n : ℕ = c.in_ok-number.number in
    let u : Open = c.in_ok-list.list in
    let type : u ≡ list_of (existential n) = search rules in
    let f : Facing known old before (patterns.snoc c.args.front.now c.args.last.now) s u (snoc_expected old.context c.args.front.now c.args.last.now) = facing_snoc known old before s u c.requires.ready c.requires.typed refl refl n c.in_ok-number.ensures.number c.in_ok-number.ensures.ok type c.args.front.now c.args.last.now c.requires.front c.requires.last in
    before_lower f

pub match_snoc-expect-requires-clause-upper : goal.match_snoc-expect-requires-clause-upper
match_snoc-expect-requires-clause-upper g t c =
    let known : Known = g.K.TargetTypes.known c.args.known.now in
    let old : State = c.args.state.now in
    let s : Open = c.args.against.now in
    let before : State = record { context = c.declare.new.context; sight = old.sight; spot = old.spot } in
    let n : ℕ = c.in_ok-number.number in
    let u : Open = c.in_ok-list.list in
    let type : u ≡ list_of (existential n) = search rules in
    let f : Facing known old before (patterns.snoc c.args.front.now c.args.last.now) s u (snoc_expected old.context c.args.front.now c.args.last.now) = facing_snoc known old before s u c.requires.ready c.requires.typed refl refl n c.in_ok-number.ensures.number c.in_ok-number.ensures.ok type c.args.front.now c.args.last.now c.requires.front c.requires.last in
    before_upper f

pub match_snoc-expect-requires-clause-nodes : goal.match_snoc-expect-requires-clause-nodes
match_snoc-expect-requires-clause-nodes g t c =
    let known : Known = g.K.TargetTypes.known c.args.known.now in
    let old : State = c.args.state.now in
    let s : Open = c.args.against.now in
    let before : State = record { context = c.declare.new.context; sight = old.sight; spot = old.spot } in
    let n : ℕ = c.in_ok-number.number in
    let u : Open = c.in_ok-list.list in
    let type : u ≡ list_of (existential n) = search rules in
    let f : Facing known old before (patterns.snoc c.args.front.now c.args.last.now) s u (snoc_expected old.context c.args.front.now c.args.last.now) = facing_snoc known old before s u c.requires.ready c.requires.typed refl refl n c.in_ok-number.ensures.number c.in_ok-number.ensures.ok type c.args.front.now c.args.last.now c.requires.front c.requires.last in
    omega arith

pub match_snoc-returns-in_err-expect-clause-err : goal.match_snoc-returns-in_err-expect-clause-err
match_snoc-returns-in_err-expect-clause-err g t c =
    let known : Known = g.K.TargetTypes.known c.args.known.now in
    let old : State = c.args.state.now in
    let s : Open = c.args.against.now in
    let before : State = record { context = c.declare.new.context; sight = old.sight; spot = old.spot } in
    let n : ℕ = c.in_ok-number.number in
    let u : Open = c.in_ok-list.list in
    let type : u ≡ list_of (existential n) = search rules in
    let f : Facing known old before (patterns.snoc c.args.front.now c.args.last.now) s u (snoc_expected old.context c.args.front.now c.args.last.now) = facing_snoc known old before s u c.requires.ready c.requires.typed refl refl n c.in_ok-number.ensures.number c.in_ok-number.ensures.ok type c.args.front.now c.args.last.now c.requires.front c.requires.last in
    let p = err_from_is_err_and c.from_residual-in_err-expect.result c.from_residual-in_err-expect.ensures.1 in
    rw (p.1, p.2) (facing_refused f _ c.in_err-expect.ensures.err)

pub match_snoc-match_pattern-requires : goal.match_snoc-match_pattern-requires
match_snoc-match_pattern-requires g t c κs within =
    let known : Known = g.K.TargetTypes.known c.args.known.now in
    let old : State = c.args.state.now in
    let s : Open = c.args.against.now in
    let before : State = record { context = c.declare.new.context; sight = old.sight; spot = old.spot } in
    let n : ℕ = c.in_ok-number.number in
    let u : Open = c.in_ok-list.list in
    let type : u ≡ list_of (existential n) = search rules in
    let f : Facing known old before (patterns.snoc c.args.front.now c.args.last.now) s u (snoc_expected old.context c.args.front.now c.args.last.now) = facing_snoc known old before s u c.requires.ready c.requires.typed refl refl n c.in_ok-number.ensures.number c.in_ok-number.ensures.ok type c.args.front.now c.args.last.now c.requires.front c.requires.last in
    let mid : State = c.expect.new.state in
    let h : Passing known old before mid (patterns.snoc c.args.front.now c.args.last.now) s u (snoc_expected old.context c.args.front.now c.args.last.now) = record { facing = f; below = c.in_ok-expect.ensures.ok; sight = c.in_ok-expect.ensures.sight; spot = c.in_ok-expect.ensures.spot } in
    let all : u ≡ list_of (existential (fresh_number old.context)) = type ∙ ap (λ (m : ℕ). list_of (existential m)) c.in_ok-number.ensures.number in
    let whole : more u (more (existential (fresh_number old.context)) none) ≡ (snoc_expected old.context c.args.front.now c.args.last.now).types = ap (λ (v : Open). more v (more (existential (fresh_number old.context)) none)) all in (
      omega arith,
      (search rules, (mid_ready h, (c.requires.front, (first_typed h c.args.front.now c.args.last.now u (existential (fresh_number old.context)) refl whole, first_room h c.args.front.now c.args.last.now u (existential (fresh_number old.context)) refl whole c.requires.nodes)))),
    )

pub match_snoc-returns-in_err-match_pattern-clause-err : goal.match_snoc-returns-in_err-match_pattern-clause-err
match_snoc-returns-in_err-match_pattern-clause-err g t c =
    let known : Known = g.K.TargetTypes.known c.args.known.now in
    let old : State = c.args.state.now in
    let s : Open = c.args.against.now in
    let before : State = record { context = c.declare.new.context; sight = old.sight; spot = old.spot } in
    let n : ℕ = c.in_ok-number.number in
    let u : Open = c.in_ok-list.list in
    let type : u ≡ list_of (existential n) = search rules in
    let f : Facing known old before (patterns.snoc c.args.front.now c.args.last.now) s u (snoc_expected old.context c.args.front.now c.args.last.now) = facing_snoc known old before s u c.requires.ready c.requires.typed refl refl n c.in_ok-number.ensures.number c.in_ok-number.ensures.ok type c.args.front.now c.args.last.now c.requires.front c.requires.last in
    let mid : State = c.expect.new.state in
    let h : Passing known old before mid (patterns.snoc c.args.front.now c.args.last.now) s u (snoc_expected old.context c.args.front.now c.args.last.now) = record { facing = f; below = c.in_ok-expect.ensures.ok; sight = c.in_ok-expect.ensures.sight; spot = c.in_ok-expect.ensures.spot } in
    let all : u ≡ list_of (existential (fresh_number old.context)) = type ∙ ap (λ (m : ℕ). list_of (existential m)) c.in_ok-number.ensures.number in
    let whole : more u (more (existential (fresh_number old.context)) none) ≡ (snoc_expected old.context c.args.front.now c.args.last.now).types = ap (λ (v : Open). more v (more (existential (fresh_number old.context)) none)) all in
    let p = err_from_is_err_and c.from_residual-in_err-match_pattern.result c.from_residual-in_err-match_pattern.ensures.1 in
    rw (p.1, p.2) (first_stopped h c.args.front.now c.args.last.now u (existential (fresh_number old.context)) refl whole _ c.in_err-match_pattern.ensures.err)

pub match_snoc-match_pattern-requires-2 : goal.match_snoc-match_pattern-requires-2
match_snoc-match_pattern-requires-2 g t c κs within =
    let known : Known = g.K.TargetTypes.known c.args.known.now in
    let old : State = c.args.state.now in
    let s : Open = c.args.against.now in
    let before : State = record { context = c.declare.new.context; sight = old.sight; spot = old.spot } in
    let n : ℕ = c.in_ok-number.number in
    let u : Open = c.in_ok-list.list in
    let type : u ≡ list_of (existential n) = search rules in
    let f : Facing known old before (patterns.snoc c.args.front.now c.args.last.now) s u (snoc_expected old.context c.args.front.now c.args.last.now) = facing_snoc known old before s u c.requires.ready c.requires.typed refl refl n c.in_ok-number.ensures.number c.in_ok-number.ensures.ok type c.args.front.now c.args.last.now c.requires.front c.requires.last in
    let mid : State = c.expect.new.state in
    let h : Passing known old before mid (patterns.snoc c.args.front.now c.args.last.now) s u (snoc_expected old.context c.args.front.now c.args.last.now) = record { facing = f; below = c.in_ok-expect.ensures.ok; sight = c.in_ok-expect.ensures.sight; spot = c.in_ok-expect.ensures.spot } in
    let all : u ≡ list_of (existential (fresh_number old.context)) = type ∙ ap (λ (m : ℕ). list_of (existential m)) c.in_ok-number.ensures.number in
    let element : Open = c.existential-element.result in
    let exists : element ≡ existential (fresh_number old.context) = c.existential-element.ensures ∙ ap existential c.in_ok-number.ensures.number in
    let whole : more u (more element none) ≡ (snoc_expected old.context c.args.front.now c.args.last.now).types = ap (λ (v : Open). more v (more element none)) all ∙ ap (λ (v : Open). more (list_of (existential (fresh_number old.context))) (more v none)) exists in (
      omega arith,
      (search rules, (next_ready h c.args.front.now c.args.last.now u element refl whole c.match_pattern.new.state c.requires.front c.in_ok-match_pattern.ensures.ok, (c.requires.last, (second_typed h c.args.front.now c.args.last.now u element refl whole c.match_pattern.new.state c.requires.front c.in_ok-match_pattern.ensures.ok, second_room h c.args.front.now c.args.last.now u element refl whole c.match_pattern.new.state c.requires.front c.in_ok-match_pattern.ensures.ok c.requires.nodes)))),
    )

pub match_snoc-returns-in_err-match_pattern-2-clause-err : goal.match_snoc-returns-in_err-match_pattern-2-clause-err
match_snoc-returns-in_err-match_pattern-2-clause-err g t c =
    let known : Known = g.K.TargetTypes.known c.args.known.now in
    let old : State = c.args.state.now in
    let s : Open = c.args.against.now in
    let before : State = record { context = c.declare.new.context; sight = old.sight; spot = old.spot } in
    let n : ℕ = c.in_ok-number.number in
    let u : Open = c.in_ok-list.list in
    let type : u ≡ list_of (existential n) = search rules in
    let f : Facing known old before (patterns.snoc c.args.front.now c.args.last.now) s u (snoc_expected old.context c.args.front.now c.args.last.now) = facing_snoc known old before s u c.requires.ready c.requires.typed refl refl n c.in_ok-number.ensures.number c.in_ok-number.ensures.ok type c.args.front.now c.args.last.now c.requires.front c.requires.last in
    let mid : State = c.expect.new.state in
    let h : Passing known old before mid (patterns.snoc c.args.front.now c.args.last.now) s u (snoc_expected old.context c.args.front.now c.args.last.now) = record { facing = f; below = c.in_ok-expect.ensures.ok; sight = c.in_ok-expect.ensures.sight; spot = c.in_ok-expect.ensures.spot } in
    let all : u ≡ list_of (existential (fresh_number old.context)) = type ∙ ap (λ (m : ℕ). list_of (existential m)) c.in_ok-number.ensures.number in
    let element : Open = c.existential-element.result in
    let exists : element ≡ existential (fresh_number old.context) = c.existential-element.ensures ∙ ap existential c.in_ok-number.ensures.number in
    let whole : more u (more element none) ≡ (snoc_expected old.context c.args.front.now c.args.last.now).types = ap (λ (v : Open). more v (more element none)) all ∙ ap (λ (v : Open). more (list_of (existential (fresh_number old.context))) (more v none)) exists in
    let p = err_from_is_err_and c.from_residual-in_err-match_pattern-2.result c.from_residual-in_err-match_pattern-2.ensures.1 in
    rw (p.1, p.2) (second_stopped h c.args.front.now c.args.last.now u element refl whole c.match_pattern.new.state c.requires.front c.in_ok-match_pattern.ensures.ok _ c.in_err-match_pattern-2.ensures.err)

pub match_snoc-returns-clause-ok : goal.match_snoc-returns-clause-ok
match_snoc-returns-clause-ok g t c =
    let known : Known = g.K.TargetTypes.known c.args.known.now in
    let old : State = c.args.state.now in
    let s : Open = c.args.against.now in
    let before : State = record { context = c.declare.new.context; sight = old.sight; spot = old.spot } in
    let n : ℕ = c.in_ok-number.number in
    let u : Open = c.in_ok-list.list in
    let type : u ≡ list_of (existential n) = search rules in
    let f : Facing known old before (patterns.snoc c.args.front.now c.args.last.now) s u (snoc_expected old.context c.args.front.now c.args.last.now) = facing_snoc known old before s u c.requires.ready c.requires.typed refl refl n c.in_ok-number.ensures.number c.in_ok-number.ensures.ok type c.args.front.now c.args.last.now c.requires.front c.requires.last in
    let mid : State = c.expect.new.state in
    let h : Passing known old before mid (patterns.snoc c.args.front.now c.args.last.now) s u (snoc_expected old.context c.args.front.now c.args.last.now) = record { facing = f; below = c.in_ok-expect.ensures.ok; sight = c.in_ok-expect.ensures.sight; spot = c.in_ok-expect.ensures.spot } in
    let all : u ≡ list_of (existential (fresh_number old.context)) = type ∙ ap (λ (m : ℕ). list_of (existential m)) c.in_ok-number.ensures.number in
    let element : Open = c.existential-element.result in
    let exists : element ≡ existential (fresh_number old.context) = c.existential-element.ensures ∙ ap existential c.in_ok-number.ensures.number in
    let whole : more u (more element none) ≡ (snoc_expected old.context c.args.front.now c.args.last.now).types = ap (λ (v : Open). more v (more element none)) all ∙ ap (λ (v : Open). more (list_of (existential (fresh_number old.context))) (more v none)) exists in
    two_matched h c.args.front.now c.args.last.now u element refl whole c.match_pattern.new.state c.requires.front c.in_ok-match_pattern.ensures.ok c.match_pattern-2.new.state (snoc_nodes c.args.front.now c.args.last.now) c.in_ok-match_pattern-2.ensures.ok

pub match_pattern-returns-in-Literal-clause-ok : goal.match_pattern-returns-in-Literal-clause-ok
match_pattern-returns-in-Literal-clause-ok g t c =
    let known : Known = g.K.TargetTypes.known c.args.known.now in
    let old : State = c.args.state.now in
    let s : Open = c.args.against.now in
    let is : c.args.pattern.now ≡ patterns.literal c.in-Literal.literal = sym c.pattern.view_is ∙ ap pattern_of c.in-Literal.is in
    subst (λ (q : Pattern). OnOk c.match_literal.result (IsMatched known old c.match_literal.new.state q s)) (sym is) c.match_literal.ensures.ok

pub match_pattern-returns-in-Literal-clause-err : goal.match_pattern-returns-in-Literal-clause-err
match_pattern-returns-in-Literal-clause-err g t c =
    let known : Known = g.K.TargetTypes.known c.args.known.now in
    let old : State = c.args.state.now in
    let s : Open = c.args.against.now in
    let is : c.args.pattern.now ≡ patterns.literal c.in-Literal.literal = sym c.pattern.view_is ∙ ap pattern_of c.in-Literal.is in
    subst (λ (q : Pattern). IfErr c.match_literal.result (IsStoppedAt known old q s)) (sym is) c.match_literal.ensures.err

pub match_pattern-returns-in-Unit-clause-ok : goal.match_pattern-returns-in-Unit-clause-ok
match_pattern-returns-in-Unit-clause-ok g t c =
    let known : Known = g.K.TargetTypes.known c.args.known.now in
    let old : State = c.args.state.now in
    let s : Open = c.args.against.now in
    let is : c.args.pattern.now ≡ patterns.unit = sym c.pattern.view_is ∙ ap pattern_of c.in-Unit.is in
    subst (λ (q : Pattern). OnOk c.match_unit.result (IsMatched known old c.match_unit.new.state q s)) (sym is) c.match_unit.ensures.ok

pub match_pattern-returns-in-Unit-clause-err : goal.match_pattern-returns-in-Unit-clause-err
match_pattern-returns-in-Unit-clause-err g t c =
    let known : Known = g.K.TargetTypes.known c.args.known.now in
    let old : State = c.args.state.now in
    let s : Open = c.args.against.now in
    let is : c.args.pattern.now ≡ patterns.unit = sym c.pattern.view_is ∙ ap pattern_of c.in-Unit.is in
    subst (λ (q : Pattern). IfErr c.match_unit.result (IsStoppedAt known old q s)) (sym is) c.match_unit.ensures.err

pub match_pattern-returns-in-Tuple-clause-ok : goal.match_pattern-returns-in-Tuple-clause-ok
match_pattern-returns-in-Tuple-clause-ok g t c =
    let known : Known = g.K.TargetTypes.known c.args.known.now in
    let old : State = c.args.state.now in
    let s : Open = c.args.against.now in
    let read : c.deref-in-Tuple.result.now ≡ c.in-Tuple.parts.items = search rules in
    let is : c.args.pattern.now ≡ patterns.tuple (patterns_of c.deref-in-Tuple.result.now) = sym c.pattern.view_is ∙ ap pattern_of c.in-Tuple.is ∙ ap (λ (qs : List Pattern). patterns.tuple (patterns_of qs)) (sym read) in
    subst (λ (q : Pattern). OnOk c.match_tuple.result (IsMatched known old c.match_tuple.new.state q s)) (sym is) c.match_tuple.ensures.ok

pub match_pattern-returns-in-Tuple-clause-err : goal.match_pattern-returns-in-Tuple-clause-err
match_pattern-returns-in-Tuple-clause-err g t c =
    let known : Known = g.K.TargetTypes.known c.args.known.now in
    let old : State = c.args.state.now in
    let s : Open = c.args.against.now in
    let read : c.deref-in-Tuple.result.now ≡ c.in-Tuple.parts.items = search rules in
    let is : c.args.pattern.now ≡ patterns.tuple (patterns_of c.deref-in-Tuple.result.now) = sym c.pattern.view_is ∙ ap pattern_of c.in-Tuple.is ∙ ap (λ (qs : List Pattern). patterns.tuple (patterns_of qs)) (sym read) in
    subst (λ (q : Pattern). IfErr c.match_tuple.result (IsStoppedAt known old q s)) (sym is) c.match_tuple.ensures.err

pub match_pattern-returns-in-List-clause-ok : goal.match_pattern-returns-in-List-clause-ok
match_pattern-returns-in-List-clause-ok g t c =
    let known : Known = g.K.TargetTypes.known c.args.known.now in
    let old : State = c.args.state.now in
    let s : Open = c.args.against.now in
    let read : c.deref-in-List.result.now ≡ c.in-List.elements.items = search rules in
    let is : c.args.pattern.now ≡ patterns.list (patterns_of c.deref-in-List.result.now) = sym c.pattern.view_is ∙ ap pattern_of c.in-List.is ∙ ap (λ (qs : List Pattern). patterns.list (patterns_of qs)) (sym read) in
    subst (λ (q : Pattern). OnOk c.match_list.result (IsMatched known old c.match_list.new.state q s)) (sym is) c.match_list.ensures.ok

pub match_pattern-returns-in-List-clause-err : goal.match_pattern-returns-in-List-clause-err
match_pattern-returns-in-List-clause-err g t c =
    let known : Known = g.K.TargetTypes.known c.args.known.now in
    let old : State = c.args.state.now in
    let s : Open = c.args.against.now in
    let read : c.deref-in-List.result.now ≡ c.in-List.elements.items = search rules in
    let is : c.args.pattern.now ≡ patterns.list (patterns_of c.deref-in-List.result.now) = sym c.pattern.view_is ∙ ap pattern_of c.in-List.is ∙ ap (λ (qs : List Pattern). patterns.list (patterns_of qs)) (sym read) in
    subst (λ (q : Pattern). IfErr c.match_list.result (IsStoppedAt known old q s)) (sym is) c.match_list.ensures.err

pub match_pattern-returns-in-Ctor-clause-ok : goal.match_pattern-returns-in-Ctor-clause-ok
match_pattern-returns-in-Ctor-clause-ok g t c =
    let known : Known = g.K.TargetTypes.known c.args.known.now in
    let old : State = c.args.state.now in
    let s : Open = c.args.against.now in
    let read : c.deref-in-Ctor.result.now ≡ c.in-Ctor.fields.items = search rules in
    let is : c.args.pattern.now ≡ patterns.constructor c.in-Ctor.target (patterns_of c.deref-in-Ctor.result.now) = sym c.pattern.view_is ∙ ap pattern_of c.in-Ctor.is ∙ ap (λ (qs : List Pattern). patterns.constructor c.in-Ctor.target (patterns_of qs)) (sym read) in
    subst (λ (q : Pattern). OnOk c.match_constructor.result (IsMatched known old c.match_constructor.new.state q s)) (sym is) c.match_constructor.ensures.ok

pub match_pattern-returns-in-Ctor-clause-err : goal.match_pattern-returns-in-Ctor-clause-err
match_pattern-returns-in-Ctor-clause-err g t c =
    let known : Known = g.K.TargetTypes.known c.args.known.now in
    let old : State = c.args.state.now in
    let s : Open = c.args.against.now in
    let read : c.deref-in-Ctor.result.now ≡ c.in-Ctor.fields.items = search rules in
    let is : c.args.pattern.now ≡ patterns.constructor c.in-Ctor.target (patterns_of c.deref-in-Ctor.result.now) = sym c.pattern.view_is ∙ ap pattern_of c.in-Ctor.is ∙ ap (λ (qs : List Pattern). patterns.constructor c.in-Ctor.target (patterns_of qs)) (sym read) in
    subst (λ (q : Pattern). IfErr c.match_constructor.result (IsStoppedAt known old q s)) (sym is) c.match_constructor.ensures.err

pub match_pattern-returns-in-Cons-clause-ok : goal.match_pattern-returns-in-Cons-clause-ok
match_pattern-returns-in-Cons-clause-ok g t c =
    let known : Known = g.K.TargetTypes.known c.args.known.now in
    let old : State = c.args.state.now in
    let s : Open = c.args.against.now in
    let read : c.deref-in-Cons.result.now ≡ c.in-Cons.first.value = search rules in
    let read_then : c.deref-in-Cons-2.result.now ≡ c.in-Cons.rest.value = search rules in
    let is : c.args.pattern.now ≡ patterns.cons c.deref-in-Cons.result.now c.deref-in-Cons-2.result.now = sym c.pattern.view_is ∙ ap pattern_of c.in-Cons.is ∙ ap (λ (q : Pattern). patterns.cons q c.in-Cons.rest.value) (sym read) ∙ ap (λ (q : Pattern). patterns.cons c.deref-in-Cons.result.now q) (sym read_then) in
    subst (λ (q : Pattern). OnOk c.match_cons.result (IsMatched known old c.match_cons.new.state q s)) (sym is) c.match_cons.ensures.ok

pub match_pattern-returns-in-Cons-clause-err : goal.match_pattern-returns-in-Cons-clause-err
match_pattern-returns-in-Cons-clause-err g t c =
    let known : Known = g.K.TargetTypes.known c.args.known.now in
    let old : State = c.args.state.now in
    let s : Open = c.args.against.now in
    let read : c.deref-in-Cons.result.now ≡ c.in-Cons.first.value = search rules in
    let read_then : c.deref-in-Cons-2.result.now ≡ c.in-Cons.rest.value = search rules in
    let is : c.args.pattern.now ≡ patterns.cons c.deref-in-Cons.result.now c.deref-in-Cons-2.result.now = sym c.pattern.view_is ∙ ap pattern_of c.in-Cons.is ∙ ap (λ (q : Pattern). patterns.cons q c.in-Cons.rest.value) (sym read) ∙ ap (λ (q : Pattern). patterns.cons c.deref-in-Cons.result.now q) (sym read_then) in
    subst (λ (q : Pattern). IfErr c.match_cons.result (IsStoppedAt known old q s)) (sym is) c.match_cons.ensures.err

pub match_pattern-returns-in-Snoc-clause-ok : goal.match_pattern-returns-in-Snoc-clause-ok
match_pattern-returns-in-Snoc-clause-ok g t c =
    let known : Known = g.K.TargetTypes.known c.args.known.now in
    let old : State = c.args.state.now in
    let s : Open = c.args.against.now in
    let read : c.deref-in-Snoc.result.now ≡ c.in-Snoc.front.value = search rules in
    let read_then : c.deref-in-Snoc-2.result.now ≡ c.in-Snoc.last.value = search rules in
    let is : c.args.pattern.now ≡ patterns.snoc c.deref-in-Snoc.result.now c.deref-in-Snoc-2.result.now = sym c.pattern.view_is ∙ ap pattern_of c.in-Snoc.is ∙ ap (λ (q : Pattern). patterns.snoc q c.in-Snoc.last.value) (sym read) ∙ ap (λ (q : Pattern). patterns.snoc c.deref-in-Snoc.result.now q) (sym read_then) in
    subst (λ (q : Pattern). OnOk c.match_snoc.result (IsMatched known old c.match_snoc.new.state q s)) (sym is) c.match_snoc.ensures.ok

pub match_pattern-returns-in-Snoc-clause-err : goal.match_pattern-returns-in-Snoc-clause-err
match_pattern-returns-in-Snoc-clause-err g t c =
    let known : Known = g.K.TargetTypes.known c.args.known.now in
    let old : State = c.args.state.now in
    let s : Open = c.args.against.now in
    let read : c.deref-in-Snoc.result.now ≡ c.in-Snoc.front.value = search rules in
    let read_then : c.deref-in-Snoc-2.result.now ≡ c.in-Snoc.last.value = search rules in
    let is : c.args.pattern.now ≡ patterns.snoc c.deref-in-Snoc.result.now c.deref-in-Snoc-2.result.now = sym c.pattern.view_is ∙ ap pattern_of c.in-Snoc.is ∙ ap (λ (q : Pattern). patterns.snoc q c.in-Snoc.last.value) (sym read) ∙ ap (λ (q : Pattern). patterns.snoc c.deref-in-Snoc.result.now q) (sym read_then) in
    subst (λ (q : Pattern). IfErr c.match_snoc.result (IsStoppedAt known old q s)) (sym is) c.match_snoc.ensures.err

pub match_pattern-match_tuple-requires : goal.match_pattern-match_tuple-requires
match_pattern-match_tuple-requires g t c κs within =
    let known : Known = g.K.TargetTypes.known c.args.known.now in
    let old : State = c.args.state.now in
    let s : Open = c.args.against.now in
    let read : c.deref-in-Tuple.result.now ≡ c.in-Tuple.parts.items = search rules in
    let is : c.args.pattern.now ≡ patterns.tuple (patterns_of c.deref-in-Tuple.result.now) = sym c.pattern.view_is ∙ ap pattern_of c.in-Tuple.is ∙ ap (λ (qs : List Pattern). patterns.tuple (patterns_of qs)) (sym read) in
    let formed : IsFormedPattern known (patterns.tuple (patterns_of c.deref-in-Tuple.result.now)) = subst (IsFormedPattern known) is c.requires.pattern in
    (omega (arith, ap pattern_size is), (search rules, (c.requires.ready, (formed, (c.requires.typed, omega (arith, ap (λ (q : Pattern). length (pattern_nodes q)) is))))))

pub match_pattern-match_list-requires : goal.match_pattern-match_list-requires
match_pattern-match_list-requires g t c κs within =
    let known : Known = g.K.TargetTypes.known c.args.known.now in
    let old : State = c.args.state.now in
    let s : Open = c.args.against.now in
    let read : c.deref-in-List.result.now ≡ c.in-List.elements.items = search rules in
    let is : c.args.pattern.now ≡ patterns.list (patterns_of c.deref-in-List.result.now) = sym c.pattern.view_is ∙ ap pattern_of c.in-List.is ∙ ap (λ (qs : List Pattern). patterns.list (patterns_of qs)) (sym read) in
    let formed : IsFormedPattern known (patterns.list (patterns_of c.deref-in-List.result.now)) = subst (IsFormedPattern known) is c.requires.pattern in
    (omega (arith, ap pattern_size is), (search rules, (c.requires.ready, (formed, (c.requires.typed, omega (arith, ap (λ (q : Pattern). length (pattern_nodes q)) is))))))

pub match_pattern-match_constructor-requires : goal.match_pattern-match_constructor-requires
match_pattern-match_constructor-requires g t c κs within =
    let known : Known = g.K.TargetTypes.known c.args.known.now in
    let old : State = c.args.state.now in
    let s : Open = c.args.against.now in
    let read : c.deref-in-Ctor.result.now ≡ c.in-Ctor.fields.items = search rules in
    let is : c.args.pattern.now ≡ patterns.constructor c.in-Ctor.target (patterns_of c.deref-in-Ctor.result.now) = sym c.pattern.view_is ∙ ap pattern_of c.in-Ctor.is ∙ ap (λ (qs : List Pattern). patterns.constructor c.in-Ctor.target (patterns_of qs)) (sym read) in
    let formed : IsFormedPattern known (patterns.constructor c.in-Ctor.target (patterns_of c.deref-in-Ctor.result.now)) = subst (IsFormedPattern known) is c.requires.pattern in
    (omega (arith, ap pattern_size is), (search rules, (c.requires.ready, (formed.0, (formed.1, (c.requires.typed, omega (arith, ap (λ (q : Pattern). length (pattern_nodes q)) is)))))))

pub match_pattern-match_cons-requires : goal.match_pattern-match_cons-requires
match_pattern-match_cons-requires g t c κs within =
    let known : Known = g.K.TargetTypes.known c.args.known.now in
    let old : State = c.args.state.now in
    let s : Open = c.args.against.now in
    let read : c.deref-in-Cons.result.now ≡ c.in-Cons.first.value = search rules in
    let read_then : c.deref-in-Cons-2.result.now ≡ c.in-Cons.rest.value = search rules in
    let is : c.args.pattern.now ≡ patterns.cons c.deref-in-Cons.result.now c.deref-in-Cons-2.result.now = sym c.pattern.view_is ∙ ap pattern_of c.in-Cons.is ∙ ap (λ (q : Pattern). patterns.cons q c.in-Cons.rest.value) (sym read) ∙ ap (λ (q : Pattern). patterns.cons c.deref-in-Cons.result.now q) (sym read_then) in
    let formed : IsFormedPattern known (patterns.cons c.deref-in-Cons.result.now c.deref-in-Cons-2.result.now) = subst (IsFormedPattern known) is c.requires.pattern in
    (omega (arith, ap pattern_size is), (search rules, (c.requires.ready, (formed.0, (formed.1, (c.requires.typed, omega (arith, ap (λ (q : Pattern). length (pattern_nodes q)) is, length-append (pattern_nodes c.deref-in-Cons.result.now) (pattern_nodes c.deref-in-Cons-2.result.now))))))))

pub match_pattern-match_snoc-requires : goal.match_pattern-match_snoc-requires
match_pattern-match_snoc-requires g t c κs within =
    let known : Known = g.K.TargetTypes.known c.args.known.now in
    let old : State = c.args.state.now in
    let s : Open = c.args.against.now in
    let read : c.deref-in-Snoc.result.now ≡ c.in-Snoc.front.value = search rules in
    let read_then : c.deref-in-Snoc-2.result.now ≡ c.in-Snoc.last.value = search rules in
    let is : c.args.pattern.now ≡ patterns.snoc c.deref-in-Snoc.result.now c.deref-in-Snoc-2.result.now = sym c.pattern.view_is ∙ ap pattern_of c.in-Snoc.is ∙ ap (λ (q : Pattern). patterns.snoc q c.in-Snoc.last.value) (sym read) ∙ ap (λ (q : Pattern). patterns.snoc c.deref-in-Snoc.result.now q) (sym read_then) in
    let formed : IsFormedPattern known (patterns.snoc c.deref-in-Snoc.result.now c.deref-in-Snoc-2.result.now) = subst (IsFormedPattern known) is c.requires.pattern in
    (omega (arith, ap pattern_size is), (search rules, (c.requires.ready, (formed.0, (formed.1, (c.requires.typed, omega (arith, ap (λ (q : Pattern). length (pattern_nodes q)) is, length-append (pattern_nodes c.deref-in-Snoc.result.now) (pattern_nodes c.deref-in-Snoc-2.result.now))))))))

pub match_pattern-match_literal-requires-clause-nodes : goal.match_pattern-match_literal-requires-clause-nodes
match_pattern-match_literal-requires-clause-nodes g t c =
    let known : Known = g.K.TargetTypes.known c.args.known.now in
    let old : State = c.args.state.now in
    let s : Open = c.args.against.now in
    let is : c.args.pattern.now ≡ patterns.literal c.in-Literal.literal = sym c.pattern.view_is ∙ ap pattern_of c.in-Literal.is in
    omega (arith, ap (λ (q : Pattern). length (pattern_nodes q)) is)

pub match_pattern-match_unit-requires-clause-nodes : goal.match_pattern-match_unit-requires-clause-nodes
match_pattern-match_unit-requires-clause-nodes g t c =
    let known : Known = g.K.TargetTypes.known c.args.known.now in
    let old : State = c.args.state.now in
    let s : Open = c.args.against.now in
    let is : c.args.pattern.now ≡ patterns.unit = sym c.pattern.view_is ∙ ap pattern_of c.in-Unit.is in
    omega (arith, ap (λ (q : Pattern). length (pattern_nodes q)) is)

pub match_pattern-advance-requires : goal.match_pattern-advance-requires
match_pattern-advance-requires g t c =
    let known : Known = g.K.TargetTypes.known c.args.known.now in
    let old : State = c.args.state.now in
    let s : Open = c.args.against.now in
    let is : c.args.pattern.now ≡ patterns.any = sym c.pattern.view_is ∙ ap pattern_of c.in-Any.is in
    omega (arith, ap (λ (q : Pattern). length (pattern_nodes q)) is)

pub match_pattern-bind-requires : goal.match_pattern-bind-requires
match_pattern-bind-requires g t c =
    let known : Known = g.K.TargetTypes.known c.args.known.now in
    let old : State = c.args.state.now in
    let s : Open = c.args.against.now in
    let is : c.args.pattern.now ≡ patterns.variable = sym c.pattern.view_is ∙ ap pattern_of c.in-Var.is in
    omega (arith, ap (λ (q : Pattern). length (pattern_nodes q)) is)

pub match_pattern-bind-requires-in-As : goal.match_pattern-bind-requires-in-As
match_pattern-bind-requires-in-As g t c =
    let known : Known = g.K.TargetTypes.known c.args.known.now in
    let old : State = c.args.state.now in
    let s : Open = c.args.against.now in
    let is : c.args.pattern.now ≡ patterns.alias c.in-As.inside.value = sym c.pattern.view_is ∙ ap pattern_of c.in-As.is in
    omega (arith, ap (λ (q : Pattern). length (pattern_nodes q)) is)

pub match_pattern-returns-in-Any-clause-ok : goal.match_pattern-returns-in-Any-clause-ok
match_pattern-returns-in-Any-clause-ok g t c =
    let known : Known = g.K.TargetTypes.known c.args.known.now in
    let old : State = c.args.state.now in
    let s : Open = c.args.against.now in
    let is : c.args.pattern.now ≡ patterns.any = sym c.pattern.view_is ∙ ap pattern_of c.in-Any.is in
    let new : State = record { context = old.context; sight = old.sight; spot = c.advance.new.spot } in
    subst (λ (q : Pattern). IsMatched known old new q s) (sym is) (by_any known old new s (ap (λ (sp : Spot). let st : State = record { context = old.context; sight = old.sight; spot = sp } in st) c.advance.ensures))

pub match_pattern-returns-in-Var-clause-ok : goal.match_pattern-returns-in-Var-clause-ok
match_pattern-returns-in-Var-clause-ok g t c =
    let known : Known = g.K.TargetTypes.known c.args.known.now in
    let old : State = c.args.state.now in
    let s : Open = c.args.against.now in
    let is : c.args.pattern.now ≡ patterns.variable = sym c.pattern.view_is ∙ ap pattern_of c.in-Var.is in
    subst (λ (q : Pattern). OnOk c.bind.result (IsMatched known old c.bind.new.state q s)) (sym is) (on_ok_weaker c.bind.result (λ at. by_variable known old c.bind.new.state s at) c.bind.ensures.ok)

pub match_pattern-returns-in-Var-clause-err : goal.match_pattern-returns-in-Var-clause-err
match_pattern-returns-in-Var-clause-err g t c =
    let known : Known = g.K.TargetTypes.known c.args.known.now in
    let old : State = c.args.state.now in
    let s : Open = c.args.against.now in
    IfErr-weaker c.bind.result (λ fault. fault ≡ Memory) (IsStoppedAt known old c.args.pattern.now s) (λ fault memory. inl memory) c.bind.ensures.err

pub match_pattern-match_pattern-requires : goal.match_pattern-match_pattern-requires
match_pattern-match_pattern-requires g t c κs within =
    let known : Known = g.K.TargetTypes.known c.args.known.now in
    let old : State = c.args.state.now in
    let s : Open = c.args.against.now in
    let read : c.deref.result.now ≡ c.in-As.inside.value = search rules in
    let is : c.args.pattern.now ≡ patterns.alias c.deref.result.now = sym c.pattern.view_is ∙ ap pattern_of c.in-As.is ∙ ap (λ (q : Pattern). patterns.alias q) (sym read) in
    let inside : Pattern = c.deref.result.now in
    let mid : State = c.bind-in-As.new.state in
    let b : Behind known old.context mid = behind_binder known old c.requires.ready mid (fresh_number old.context) s refl c.requires.typed c.in_ok-bind-in-As.ensures.ok in (
      omega (arith, ap pattern_size is),
      (
        search rules,
        (
          b.ready,
          (
            subst (IsFormedPattern known) is c.requires.pattern,
            (
              type_covered known.arity old.context mid.context (Covered-grows b.grows) 0 s c.requires.typed,
              alias_room known old mid s c.in_ok-bind-in-As.ensures.ok (length (pattern_nodes inside)) (omega (arith, ap (λ (q : Pattern). length (pattern_nodes q)) is)),
            ),
          ),
        ),
      ),
    )

pub match_pattern-returns-in_err-match_pattern-in-As-clause-err : goal.match_pattern-returns-in_err-match_pattern-in-As-clause-err
match_pattern-returns-in_err-match_pattern-in-As-clause-err g t c =
    let known : Known = g.K.TargetTypes.known c.args.known.now in
    let old : State = c.args.state.now in
    let s : Open = c.args.against.now in
    let read : c.deref.result.now ≡ c.in-As.inside.value = search rules in
    let is : c.args.pattern.now ≡ patterns.alias c.deref.result.now = sym c.pattern.view_is ∙ ap pattern_of c.in-As.is ∙ ap (λ (q : Pattern). patterns.alias q) (sym read) in
    let inside : Pattern = c.deref.result.now in
    let mid : State = c.bind-in-As.new.state in
    let p = err_from_is_err_and c.from_residual-in_err-match_pattern-in-As.result c.from_residual-in_err-match_pattern-in-As.ensures.1 in
    rw (p.1, p.2) (subst (λ (q : Pattern). IsStoppedAt known old q s c.in_err-match_pattern-in-As.field-0.0) (sym is) (alias_stopped known old mid s c.in_ok-bind-in-As.ensures.ok inside _ c.in_err-match_pattern-in-As.ensures.err))

pub match_pattern-returns-in_ok-match_pattern-in-As-clause-ok : goal.match_pattern-returns-in_ok-match_pattern-in-As-clause-ok
match_pattern-returns-in_ok-match_pattern-in-As-clause-ok g t c =
    let known : Known = g.K.TargetTypes.known c.args.known.now in
    let old : State = c.args.state.now in
    let s : Open = c.args.against.now in
    let read : c.deref.result.now ≡ c.in-As.inside.value = search rules in
    let is : c.args.pattern.now ≡ patterns.alias c.deref.result.now = sym c.pattern.view_is ∙ ap pattern_of c.in-As.is ∙ ap (λ (q : Pattern). patterns.alias q) (sym read) in
    let inside : Pattern = c.deref.result.now in
    let mid : State = c.bind-in-As.new.state in
    subst (λ (q : Pattern). IsMatched known old c.match_pattern.new.state q s) (sym is) (by_alias known old mid s c.in_ok-bind-in-As.ensures.ok c.match_pattern.new.state inside c.in_ok-match_pattern-in-As.ensures.ok)

pub match_each-loop-at-init : goal.match_each-loop-at-init
match_each-loop-at-init g t c =
    let known : Known = g.K.TargetTypes.known c.args.known.now in
    let old : State = c.args.state.now in
    let ps : List Pattern = c.args.patterns.now in
    let ts : List Open = c.args.types.now in
    pending_as known old (patterns_of ps) (opens_of ts) old old (patterns_of ps) (patterns_left ps 0) (opens_of ts) (opens_left ts 0) refl (patterns_left-all ps) (opens_left-all ts) (pending_start known old (patterns_of ps) (opens_of ts) c.requires.ready c.requires.patterns c.requires.typed)

pub match_each-match_pattern-requires : goal.match_each-match_pattern-requires
match_each-match_pattern-requires g t c κs within =
    let known : Known = g.K.TargetTypes.known c.args.known.now in
    let old : State = c.args.state.now in
    let ps : List Pattern = c.args.patterns.now in
    let ts : List Open = c.args.types.now in
    let at : ℕ = c.loop-at.at in
    let now : State = c.loop-at.state in
    let p : Pattern = c.index-patterns-at.result in
    let u : Open = c.index-types-at.result in
    let there : at < length ts = omega (arith, c.requires.as_many, c.loop-at-test.true) in
    let h : PendingPatterns known old now (patterns_of ps) (patterns.more p (patterns_left ps (at + 1))) (opens_of ts) (more u (opens_left ts (at + 1))) =
    pending_as known old (patterns_of ps) (opens_of ts) now now (patterns_left ps at) (patterns.more p (patterns_left ps (at + 1))) (opens_left ts at) (more u (opens_left ts (at + 1))) refl
    (patterns_left-more ps at p c.loop-at-test.true c.index-patterns-at.is) (opens_left-more ts at u there c.index-types-at.is) c.loop-at.invariant in
    let smaller : pattern_size p < patterns_size (patterns_of ps) = subst (λ (q : Pattern). pattern_size q < patterns_size (patterns_of ps)) (sym c.index-patterns-at.is) (pattern_at ps at p c.loop-at-test.true) in
    (omega arith, (search rules, (h.ready, (h.formed.0, (h.typed.0, pending_room known old (patterns_of ps) (opens_of ts) now p (patterns_left ps (at + 1)) u (opens_left ts (at + 1)) h c.requires.nodes)))))

pub match_each-returns-in_err-match_pattern-clause-err : goal.match_each-returns-in_err-match_pattern-clause-err
match_each-returns-in_err-match_pattern-clause-err g t c =
    let known : Known = g.K.TargetTypes.known c.args.known.now in
    let old : State = c.args.state.now in
    let ps : List Pattern = c.args.patterns.now in
    let ts : List Open = c.args.types.now in
    let at : ℕ = c.loop-at.at in
    let now : State = c.loop-at.state in
    let p : Pattern = c.index-patterns-at.result in
    let u : Open = c.index-types-at.result in
    let there : at < length ts = omega (arith, c.requires.as_many, c.loop-at-test.true) in
    let h : PendingPatterns known old now (patterns_of ps) (patterns.more p (patterns_left ps (at + 1))) (opens_of ts) (more u (opens_left ts (at + 1))) =
    pending_as known old (patterns_of ps) (opens_of ts) now now (patterns_left ps at) (patterns.more p (patterns_left ps (at + 1))) (opens_left ts at) (more u (opens_left ts (at + 1))) refl
    (patterns_left-more ps at p c.loop-at-test.true c.index-patterns-at.is) (opens_left-more ts at u there c.index-types-at.is) c.loop-at.invariant in
    let r = err_from_is_err_and c.from_residual.result c.from_residual.ensures.1 in
    rw (r.1, r.2) (pending_stopped known old (patterns_of ps) (opens_of ts) now p (patterns_left ps (at + 1)) u (opens_left ts (at + 1)) h _ c.in_err-match_pattern.ensures.err)

pub match_each-loop-at-preserved : goal.match_each-loop-at-preserved
match_each-loop-at-preserved g t c =
    let known : Known = g.K.TargetTypes.known c.args.known.now in
    let old : State = c.args.state.now in
    let ps : List Pattern = c.args.patterns.now in
    let ts : List Open = c.args.types.now in
    let at : ℕ = c.loop-at.at in
    let now : State = c.loop-at.state in
    let p : Pattern = c.index-patterns-at.result in
    let u : Open = c.index-types-at.result in
    let there : at < length ts = omega (arith, c.requires.as_many, c.loop-at-test.true) in
    let h : PendingPatterns known old now (patterns_of ps) (patterns.more p (patterns_left ps (at + 1))) (opens_of ts) (more u (opens_left ts (at + 1))) =
    pending_as known old (patterns_of ps) (opens_of ts) now now (patterns_left ps at) (patterns.more p (patterns_left ps (at + 1))) (opens_left ts at) (more u (opens_left ts (at + 1))) refl
    (patterns_left-more ps at p c.loop-at-test.true c.index-patterns-at.is) (opens_left-more ts at u there c.index-types-at.is) c.loop-at.invariant in
    pending_next known old (patterns_of ps) (opens_of ts) now p (patterns_left ps (at + 1)) u (opens_left ts (at + 1)) h c.match_pattern.new.state c.in_ok-match_pattern.ensures.ok

pub match_each-returns-clause-ok : goal.match_each-returns-clause-ok
match_each-returns-clause-ok g t c =
    let known : Known = g.K.TargetTypes.known c.args.known.now in
    let old : State = c.args.state.now in
    let ps : List Pattern = c.args.patterns.now in
    let ts : List Open = c.args.types.now in
    let at : ℕ = c.loop-at.at in
    let now : State = c.loop-at.state in
    pending_done known old (patterns_of ps) (opens_of ts) now
    (pending_as known old (patterns_of ps) (opens_of ts) now now (patterns_left ps at) patterns.none (opens_left ts at) none refl (patterns_left-none ps at (omega arith)) (opens_left-none ts at (omega arith)) c.loop-at.invariant)
