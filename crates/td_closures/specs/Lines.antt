-- THE GRAMMAR OF THE LINES OF A CLOSURE, over their tokens.
use Rattle.std.specs.Prelude.{◌≡◌, ◌≤◌, ℕ, pos, Bool, true, false, ◌&&◌, nat_lt, nat_le, if◌then◌else◌, List, [], ◌∷◌, length, Result, Ok, Err}
use Rattle.td_formula.specs.declared.expression.Name.{Name}
use Rattle.td_formula.specs.declared.expression.Name.TheVariants as names
use Rattle.td_formula.specs.declared.expression.Operator.TheVariants as operators
use Rattle.td_formula.specs.declared.closure.ClosureKind.{ClosureKind}
use Rattle.td_closures.specs.declared.token.Token.{Token}
use Rattle.td_closures.specs.declared.token.Token.TheVariants as tokens
use Rattle.td_closures.specs.declared.token.Verb.{Verb}
use Rattle.td_closures.specs.declared.token.Verb.TheVariants as verbs
use Rattle.td_closures.specs.declared.fault.Wrong.{Wrong}
use Rattle.td_closures.specs.declared.fault.Wrong.TheVariants as wrongs
use Rattle.td_closures.specs.Phrase.{Phrase, number, IsRead}

-- a name that is given another value, where the condition holds
pub record Assigned : Type 0 where
  pub name : Name
  pub value : Phrase
  pub when : Phrase

-- two values, where the condition holds
pub record Paired : Type 0 where
  pub first : Phrase
  pub second : Phrase
  pub when : Phrase

-- A line: the head of a closure, or what a closure does
pub data Line : Type 0 where
  head : ClosureKind → ℕ → Line
  lets : List Assigned → Line
  item : List Assigned → Line
  each : Paired → Line
  send : Paired → Line
  keep : Paired → Line

-- the codes of closures in text
abbrev pub is_code : ℕ → Bool
is_code n = nat_le 10000 n && nat_le n 65535

-- a condition, and what follows it: without `when` it is 1
abbrev pub IsWhen : List Token → Phrase → List Token → Type 0
IsWhen (tokens.When ∷ ts) w rest = IsRead ts w rest
IsWhen ts w rest = (w ≡ number (pos 1)) × (ts ≡ rest)

-- `E, E` and its condition, to the end of the line
pub record IsPair (ts : List Token) (p : Paired) : Type 0 where
  pub after_first : List Token
  pub after_second : List Token
  pub first : IsRead ts p.first (tokens.Comma ∷ after_first)
  pub second : IsRead after_first p.second after_second
  pub when : IsWhen after_second p.when (tokens.End ∷ [])

-- what an item may change
abbrev pub may_change : Name → Bool
may_change names.A = true
may_change names.B = true
may_change (names.Register r) = true
may_change _ = false

-- the name that a line gives a value: a `let` one that is new, of which there are eight at most, and an `item` one that is there
abbrev pub target_of : Verb → Token → Result Name Wrong
target_of verbs.Let (tokens.New r) = if nat_lt r 8 then Ok (names.Register r) else Err wrongs.TooMany
target_of verbs.Item (tokens.Named x) = if may_change x then Ok x else Err wrongs.Name
target_of verb (tokens.Named x) = Err wrongs.Name
target_of verb (tokens.New r) = Err wrongs.Name
target_of verb tokens.Unknown = Err wrongs.Name
target_of verb t = Err wrongs.Syntax

-- a `let` has no condition
abbrev pub IsCondition : Verb → List Token → Phrase → List Token → Type 0
IsCondition verbs.Item ts w rest = IsWhen ts w rest
IsCondition verb ts w rest = (w ≡ number (pos 1)) × (ts ≡ rest)

-- `NAME = E` and its condition, and what follows
pub record IsChange (verb : Verb) (ts : List Token) (c : Assigned) (rest : List Token) : Type 0 where
  pub token : Token
  pub values : List Token
  pub after : List Token
  pub begins : ts ≡ token ∷ tokens.Infix operators.Equal ∷ values
  pub target : target_of verb token ≡ Ok c.name
  pub value : IsRead values c.value after
  pub when : IsCondition verb after c.when rest

-- one or more, with commas between them, to the end of the line
abbrev pub AreChanges : Verb → List Token → List Assigned → Type 0
AreChanges verb ts [] = ⊥
AreChanges verb ts (c ∷ []) = IsChange verb ts c (tokens.End ∷ [])
AreChanges verb ts (c ∷ d ∷ cs) = (rest : List Token) × IsChange verb ts c (tokens.Comma ∷ rest) × AreChanges verb rest (d ∷ cs)

-- the line begins with this word, and its changes follow: 64 at most
pub record AreChangesOf (verb : Verb) (ts : List Token) (cs : List Assigned) : Type 0 where
  pub after : List Token
  pub begins : ts ≡ tokens.Verb verb ∷ after
  pub changes : AreChanges verb after cs
  pub few : length cs ≤ 64

pub record IsPairOf (verb : Verb) (ts : List Token) (p : Paired) : Type 0 where
  pub after : List Token
  pub begins : ts ≡ tokens.Verb verb ∷ after
  pub pair : IsPair after p

pub record IsHead (ts : List Token) (kind : ClosureKind) (code : ℕ) : Type 0 where
  pub tokens_are : ts ≡ tokens.Kind kind ∷ tokens.Number (pos code) ∷ tokens.End ∷ []
  pub in_range : is_code code ≡ true

-- THESE TOKENS SPELL THIS LINE
abbrev pub IsLine : List Token → Line → Type 0
IsLine ts (head kind code) = IsHead ts kind code
IsLine ts (lets cs) = AreChangesOf verbs.Let ts cs
IsLine ts (item cs) = AreChangesOf verbs.Item ts cs
IsLine ts (each p) = IsPairOf verbs.Each ts p
IsLine ts (send p) = IsPairOf verbs.Send ts p
IsLine ts (keep p) = IsPairOf verbs.Keep ts p
