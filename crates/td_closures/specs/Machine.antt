-- How an expression is read from its tokens, one by one. The laws tell that what is read so is what the grammar says.
use Rattle.std.specs.Prelude.{ℕ, suc, nat_lt, nat_le, if◌then◌else◌, List, [], ◌∷◌, Result, Ok, Err, ⊤}
use Rattle.td_formula.specs.declared.expression.Sign.{Sign}
use Rattle.td_formula.specs.declared.expression.Sign.TheVariants as signs
use Rattle.td_formula.specs.declared.expression.Operator.{Operator}
use Rattle.td_formula.specs.declared.expression.Operator.TheVariants as operators
use Rattle.td_closures.specs.declared.token.Token.{Token}
use Rattle.td_closures.specs.declared.token.Token.TheVariants as tokens
use Rattle.td_closures.specs.declared.fault.Wrong.{Wrong}
use Rattle.td_closures.specs.declared.fault.Wrong.TheVariants as wrongs
use Rattle.td_closures.specs.Phrase.{Phrase, number, name, prefix, infix', choice, operator_level, sign_level}

-- what stands before an expression that is being read, the innermost first
pub data Around : Type 0 where
  whole : Around
  paren : Around → Around
  signed : Sign → Around → Around
  left : Operator → Phrase → Around → Around
  called : Operator → Around → Around
  first : Operator → Around → Around
  second : Operator → Phrase → Around → Around
  test : Around → Around
  chosen : Phrase → Around → Around
  otherwise : Phrase → Phrase → Around → Around

-- how many there are
abbrev pub depth : Around → ℕ
depth whole = 0
depth (paren around) = suc (depth around)
depth (signed s around) = suc (depth around)
depth (left o p around) = suc (depth around)
depth (called o around) = suc (depth around)
depth (first o around) = suc (depth around)
depth (second o p around) = suc (depth around)
depth (test around) = suc (depth around)
depth (chosen p around) = suc (depth around)
depth (otherwise p q around) = suc (depth around)

-- how tight an expression that stands there must bind: after `min` and before its parenthesis none may stand
abbrev pub place : Around → ℕ
place (signed s around) = sign_level s
place (left o p around) = suc (operator_level o)
place (called o around) = 9
place around = 0

-- what is known by now: an expression is wanted, or there, or read, or this is wrong
pub data Reading : Type 0 where
  wanted : Around → Reading
  there : Around → Phrase → Reading
  read : Phrase → Reading
  wrong : Wrong → Reading

-- what binds at least so tight is put together
abbrev pub settled : ℕ → Around → Phrase → Around × Phrase
settled m (signed s around) e = if nat_le m (sign_level s) then settled m around (prefix s e) else (signed s around, e)
settled m (left o p around) e = if nat_le m (operator_level o) then settled m around (infix' o p e) else (left o p around, e)
settled m (otherwise p q around) e = if nat_le m 0 then settled m around (choice p q e) else (otherwise p q around, e)
settled m around e = (around, e)

-- an expression of this level may stand there
abbrev pub placed : ℕ → Around → Reading → Reading
placed level around next = if nat_le (place around) level then next else wrong wrongs.Syntax

-- one more stands before the next expression
abbrev pub deeper : Around → Reading → Reading
deeper around next = if nat_lt (depth around) 64 then next else wrong wrongs.Deep

abbrev pub pushed : ℕ → Around → Around → Reading
pushed level around inner = placed level around (deeper around (wanted inner))

abbrev pub opened : Around → Reading
opened (called o around) = wanted (first o around)
opened around = pushed 8 around (paren around)

-- a sign
abbrev pub minus : Operator → Around → Reading
minus operators.Minus around = pushed 7 around (signed signs.Negative around)
minus o around = wrong wrongs.Syntax

-- `not` or `abs`
abbrev pub prefixed : Sign → Around → Reading
prefixed signs.Negative around = wrong wrongs.Syntax
prefixed s around = pushed (sign_level s) around (signed s around)

-- where an expression is wanted
abbrev pub begun : Around → Token → Reading
begun around (tokens.Number n) = placed 8 around (there around (number n))
begun around (tokens.Named x) = placed 8 around (there around (name x))
begun around (tokens.New r) = wrong wrongs.Name
begun around tokens.Unknown = wrong wrongs.Name
begun around (tokens.Infix o) = minus o around
begun around (tokens.Prefix s) = prefixed s around
begun around (tokens.Call o) = pushed 8 around (called o around)
begun around tokens.If = pushed 0 around (test around)
begun around tokens.Open = opened around
begun around _ = wrong wrongs.Syntax

-- where one is there, and what binds tighter is put together
abbrev pub with_then : Around × Phrase → Reading
with_then (test around, e) = wanted (chosen e around)
with_then _ = wrong wrongs.Syntax

abbrev pub with_else : Around × Phrase → Reading
with_else (chosen p around, e) = wanted (otherwise p e around)
with_else _ = wrong wrongs.Syntax

abbrev pub with_close : Around × Phrase → Reading
with_close (paren around, e) = there around e
with_close (second o p around, e) = there around (infix' o p e)
with_close _ = wrong wrongs.Syntax

abbrev pub with_comma : Around × Phrase → Reading
with_comma (first o around, e) = wanted (second o e around)
with_comma (whole, e) = read e
with_comma _ = wrong wrongs.Syntax

abbrev pub with_end : Around × Phrase → Reading
with_end (whole, e) = read e
with_end _ = wrong wrongs.Syntax

abbrev pub with_infix : Operator → Around × Phrase → Reading
with_infix o s = if nat_le (operator_level o) 8 then pushed (operator_level o) s.0 (left o s.1 s.0) else wrong wrongs.Syntax

abbrev pub gone_on : Around → Phrase → Token → Reading
gone_on around e (tokens.Infix o) = with_infix o (settled (operator_level o) around e)
gone_on around e tokens.Then = with_then (settled 0 around e)
gone_on around e tokens.Else = with_else (settled 0 around e)
gone_on around e tokens.Close = with_close (settled 0 around e)
gone_on around e tokens.Comma = with_comma (settled 0 around e)
gone_on around e tokens.When = with_end (settled 0 around e)
gone_on around e tokens.End = with_end (settled 0 around e)
gone_on around e _ = wrong wrongs.Syntax

-- with one token more
abbrev pub with_token : Reading → Token → Reading
with_token (wanted around) t = begun around t
with_token (there around e) t = gone_on around e t
with_token (read e) t = read e
with_token (wrong w) t = wrong w

-- the expression at the front of these tokens, and those from the one that ends it on
pub data Front : Type 0 where
  front : Phrase → List Token → Front
  faulty : Wrong → Front

abbrev pub run_on : Reading → List Token → (Reading → Front) → Front
run_on (read e) ts more = front e ts
run_on (wrong w) ts more = faulty w
run_on (wanted around) ts more = more (wanted around)
run_on (there around e) ts more = more (there around e)

abbrev pub run : Reading → List Token → Front
run reading [] = faulty wrongs.Syntax
run reading (t ∷ ts) = run_on (with_token reading t) (t ∷ ts) (λ next. run next ts)

-- whether an expression of this level may stand there, and one more before it
abbrev pub place_checked : ℕ → Around → Result ⊤ Wrong
place_checked level around = if nat_le (place around) level then Ok tt else Err wrongs.Syntax

abbrev pub deeper_checked : ℕ → Around → Result ⊤ Wrong
deeper_checked level around =
    if nat_le (place around) level then (if nat_lt (depth around) 64 then Ok tt else Err wrongs.Deep) else Err wrongs.Syntax
