-- The forms of lexemes: finite automata over the bytes of a text.
use Rattle.std.specs.Prelude.{◌≡◌, ℕ, ◌+◌, ◌<◌, ◌≤◌, Bool, true, false, List, [], ◌∷◌, ◌++◌, ◌==◌, ◌&&◌, ◌||◌, not, nat_le, nat_lt, length, take, Option, Some, None, if◌then◌else◌}
use Rattle.uc_base.specs.Name.{is_letter, is_digit, is_wordy, is_operator}
use Rattle.uc_layout.specs.declared.automaton.Form.{Form}
use Rattle.uc_layout.specs.declared.automaton.Form.TheVariants as form
use Rattle.uc_layout.specs.declared.automaton.State.{State}
use Rattle.uc_layout.specs.declared.automaton.State.TheVariants.{SegmentStart, Wordy, Operators, NumberStart, Sign, Digits, Letter, Point, Fraction, TextStart, TextInside, TextEscape, TextEnd, CharStart, CharMark, CharEscape, CharBytes, CharEnd, HashStart, HashDigits, MemberStart, MemberZero, MemberDigits, CtorStart, CtorZero, CtorDigits, BuiltinStart, BuiltinMark, BuiltinName, SingleStart, SingleEnd}

-- `0` to `9` and `a` to `f`
abbrev pub is_lower_digit : ℕ → Bool
is_lower_digit c = (nat_le 48 c && nat_le c 57) || (nat_le 97 c && nat_le c 102)

-- `n t r 0 s \ "`: what may follow a backslash
abbrev pub is_escape : ℕ → Bool
is_escape c = c == 110 || (c == 116 || (c == 114 || (c == 48 || (c == 115 || (c == 92 || c == 34)))))

-- a byte of a UTF-8 character behind its first
abbrev pub is_continuation : ℕ → Bool
is_continuation c = nat_le 128 c && nat_lt c 192

-- `( ) [ ] , . @`
abbrev pub is_single : ℕ → Bool
is_single c = c == 40 || (c == 41 || (c == 91 || (c == 93 || (c == 44 || (c == 46 || c == 64)))))

-- a state under a condition
abbrev pub only : Bool → State → Option State
only test state = if test then Some state else None

-- a segment that begins with an operator character has only these; any other has wordy characters
abbrev pub segment_step : ℕ → Option State
segment_step c = if is_operator c then Some Operators else only (is_wordy c) Wordy

-- more digits, a letter behind them, or a point
abbrev pub digits_step : ℕ → Option State
digits_step c = if is_digit c then Some Digits else (if is_letter c then Some Letter else only (c == 46) Point)

-- a quote ends the text, a backslash begins an escape, and no text goes on behind a line feed
abbrev pub text_step : ℕ → Option State
text_step c = if c == 34 then Some TextEnd else (if c == 92 then Some TextEscape else only (not (c == 10)) TextInside)

-- a backslash begins an escape; any other character but the line feed and the carriage return stands for itself
abbrev pub character_step : ℕ → Option State
character_step c = if c == 92 then Some CharEscape else only (not (c == 10) && not (c == 13)) CharBytes

-- at most 128 digits; from 8 on a dot and a number of a member, or `#` and a number of a constructor, may follow
abbrev pub hash_step : ℕ → ℕ → Option State
hash_step count c =
    if nat_lt count 128 && is_lower_digit c then Some (HashDigits (count + 1))
    else (if nat_lt count 8 then None else (if c == 46 then Some MemberStart else only (c == 35) CtorStart))

-- numbers have no leading zero
abbrev pub member_step : ℕ → Option State
member_step c = if c == 48 then Some MemberZero else only (is_digit c) (MemberDigits 1)

-- and at most nine digits
abbrev pub member_digits_step : ℕ → ℕ → Option State
member_digits_step count c = if nat_lt count 9 && is_digit c then Some (MemberDigits (count + 1)) else only (c == 35) CtorStart

-- the number of a constructor, likewise without a leading zero
abbrev pub ctor_step : ℕ → Option State
ctor_step c = if c == 48 then Some CtorZero else only (is_digit c) (CtorDigits 1)

-- and with at most nine digits
abbrev pub ctor_digits_step : ℕ → ℕ → Option State
ctor_digits_step count c = if nat_lt count 9 && is_digit c then Some (CtorDigits (count + 1)) else None

-- the state behind one more byte
abbrev pub step : State → ℕ → Option State
step SegmentStart c = segment_step c
step Wordy c = if is_wordy c then Some Wordy else only (c == 46) SegmentStart
step Operators c = if is_operator c then Some Operators else only (c == 46) SegmentStart
step NumberStart c = if c == 43 || c == 45 then Some Sign else only (is_digit c) Digits
step Sign c = only (is_digit c) Digits
step Digits c = digits_step c
step Letter c = None
step Point c = only (is_digit c) Fraction
step Fraction c = None
step TextStart c = only (c == 34) TextInside
step TextInside c = text_step c
step TextEscape c = only (is_escape c) TextInside
step TextEnd c = None
step CharStart c = only (c == 63) CharMark
step CharMark c = character_step c
step CharEscape c = only (is_escape c) CharEnd
step CharBytes c = only (is_continuation c) CharBytes
step CharEnd c = None
step HashStart c = only (c == 35) (HashDigits 0)
step (HashDigits count) c = hash_step count c
step MemberStart c = member_step c
step MemberZero c = only (c == 35) CtorStart
step (MemberDigits count) c = member_digits_step count c
step CtorStart c = ctor_step c
step CtorZero c = None
step (CtorDigits count) c = ctor_digits_step count c
step BuiltinStart c = only (c == 35) BuiltinMark
step BuiltinMark c = only (c == 35) BuiltinName
step BuiltinName c = segment_step c
step SingleStart c = only (is_single c) SingleEnd
step SingleEnd c = None

-- whether a lexeme may end in a state
abbrev pub is_final : State → Bool
is_final Wordy = true
is_final Operators = true
is_final Digits = true
is_final Letter = true
is_final Fraction = true
is_final TextEnd = true
is_final CharBytes = true
is_final CharEnd = true
is_final (HashDigits count) = nat_le 8 count
is_final MemberZero = true
is_final (MemberDigits count) = true
is_final CtorZero = true
is_final (CtorDigits count) = true
is_final BuiltinName = true
is_final SingleEnd = true
is_final _ = false

-- the state before the first byte of a lexeme
abbrev pub initial : Form → State
initial form.Dotted = SegmentStart
initial form.Number = NumberStart
initial form.Text = TextStart
initial form.Character = CharStart
initial form.Hash = HashStart
initial form.Builtin = BuiltinStart
initial form.Single = SingleStart

-- what may stand behind a state, up to the end of a lexeme
pub data Accepts : State → List ℕ → Type 0 where
  ends : {s : State} → is_final s ≡ true → Accepts s []
  goes_on : {s t : State} {c : ℕ} {cs : List ℕ} → step s c ≡ Some t → Accepts t cs → Accepts s (c ∷ cs)

-- the lexemes of a form
abbrev pub IsLexeme : Form → List ℕ → Type 0
IsLexeme f text = Accepts (initial f) text

-- how long the longest front of a text is that a state accepts; 0 where there is none
pub record IsLongest (s : State) (text : List ℕ) (n : ℕ) : Type 0 where
  pub within : n ≤ length text
  pub accepted : 0 < n → Accepts s (take n text)
  pub longest : (front rest : List ℕ) → text ≡ front ++ rest → Accepts s front → length front ≤ n
