-- THE TOKENS OF A LINE.
use Rattle.std.specs.Prelude.{ℕ, pos, ◌+◌, ◌==◌, Bool, true, false, ◌&&◌, ◌||◌, nat_lt, nat_le, if◌then◌else◌, List, [], ◌∷◌, ◌++◌, length, codes, slice_index, Option, Some, None}
use Rattle.std.specs.Str.{bytes_eq}
use Rattle.td_formula.specs.declared.expression.Name.{Name}
use Rattle.td_formula.specs.declared.expression.Name.TheVariants as names
use Rattle.td_formula.specs.declared.expression.Sign.TheVariants as signs
use Rattle.td_formula.specs.declared.expression.Operator.TheVariants as operators
use Rattle.td_formula.specs.declared.closure.ClosureKind.{ClosureKind}
use Rattle.td_formula.specs.declared.closure.ClosureKind.TheVariants as kinds
use Rattle.td_plan.specs.Text.{words, natural_of}
use Rattle.td_closures.specs.declared.token.Token.{Token}
use Rattle.td_closures.specs.declared.token.Token.TheVariants as tokens
use Rattle.td_closures.specs.declared.token.Verb.{Verb}
use Rattle.td_closures.specs.declared.token.Verb.TheVariants as verbs
use Rattle.td_closures.specs.declared.words.Scope.{Scope}

abbrev pub is_letter : ℕ → Bool
is_letter b = (nat_le 97 b && nat_le b 122) || ((nat_le 65 b && nat_le b 90) || (b == 95))

abbrev pub is_of_word : ℕ → Bool
is_of_word b = is_letter b || (nat_le 48 b && nat_le b 57)

abbrev pub is_of_test : ℕ → Bool
is_of_test b = (b == 60) || ((b == 62) || (b == 33))

-- two characters beside each other are of one word: letters, digits and `_`, and the two of `<=`, `>=` and `!=`
abbrev pub are_joined : ℕ → ℕ → Bool
are_joined b c = (is_of_word b && is_of_word c) || (is_of_test b && (c == 61))

abbrev pub is_at_front : (ℕ → Bool) → List ℕ → Bool
is_at_front test [] = true
is_at_front test (c ∷ bs) = test c

-- no printable ASCII character counts as `?`, which is in no word
abbrev pub shown : ℕ → ℕ
shown b = if nat_le 32 b && nat_le b 126 then b else 63

-- a line up to its comment, with a space after each word
abbrev pub spaced : List ℕ → List ℕ
spaced [] = []
spaced (b ∷ bs) = if b == 35 then [] else shown b ∷ ((if is_at_front (are_joined b) bs then [] else 32 ∷ []) ++ spaced bs)

-- a line of no words: spaces stand up to its end, or up to its comment
abbrev pub is_blank : List ℕ → Bool
is_blank [] = true
is_blank (b ∷ bs) = if b == 32 then is_blank bs else (b == 35)

-- what a line begins with
abbrev pub head_word : List ℕ → Option Token
head_word word =
    if bytes_eq word (codes "map") then Some (tokens.Kind kinds.Map)
    else (if bytes_eq word (codes "group") then Some (tokens.Kind kinds.Group)
    else (if bytes_eq word (codes "fold") then Some (tokens.Kind kinds.Fold)
    else (if bytes_eq word (codes "let") then Some (tokens.Verb verbs.Let)
    else (if bytes_eq word (codes "item") then Some (tokens.Verb verbs.Item)
    else (if bytes_eq word (codes "each") then Some (tokens.Verb verbs.Each)
    else (if bytes_eq word (codes "send") then Some (tokens.Verb verbs.Send)
    else (if bytes_eq word (codes "keep") then Some (tokens.Verb verbs.Keep)
    else None)))))))

-- the other words
abbrev pub plain_word : List ℕ → Option Token
plain_word word =
    if bytes_eq word (codes "if") then Some tokens.If
    else (if bytes_eq word (codes "then") then Some tokens.Then
    else (if bytes_eq word (codes "else") then Some tokens.Else
    else (if bytes_eq word (codes "when") then Some tokens.When
    else (if bytes_eq word (codes "not") then Some (tokens.Prefix signs.Not)
    else (if bytes_eq word (codes "abs") then Some (tokens.Prefix signs.Absolute)
    else (if bytes_eq word (codes "min") then Some (tokens.Call operators.Least)
    else (if bytes_eq word (codes "max") then Some (tokens.Call operators.Most)
    else None)))))))

-- `or`, `and` and the tests
abbrev pub test_word : List ℕ → Option Token
test_word word =
    if bytes_eq word (codes "or") then Some (tokens.Infix operators.Or)
    else (if bytes_eq word (codes "and") then Some (tokens.Infix operators.And)
    else (if bytes_eq word (codes "=") then Some (tokens.Infix operators.Equal)
    else (if bytes_eq word (codes "!=") then Some (tokens.Infix operators.Unequal)
    else (if bytes_eq word (codes "<") then Some (tokens.Infix operators.Less)
    else (if bytes_eq word (codes "<=") then Some (tokens.Infix operators.AtMost)
    else (if bytes_eq word (codes ">") then Some (tokens.Infix operators.Greater)
    else (if bytes_eq word (codes ">=") then Some (tokens.Infix operators.AtLeast)
    else None)))))))

-- sums, products, parentheses and commas
abbrev pub sum_word : List ℕ → Option Token
sum_word word =
    if bytes_eq word (codes "+") then Some (tokens.Infix operators.Plus)
    else (if bytes_eq word (codes "-") then Some (tokens.Infix operators.Minus)
    else (if bytes_eq word (codes "*") then Some (tokens.Infix operators.Times)
    else (if bytes_eq word (codes "/") then Some (tokens.Infix operators.Quotient)
    else (if bytes_eq word (codes "%") then Some (tokens.Infix operators.Remainder)
    else (if bytes_eq word (codes "(") then Some tokens.Open
    else (if bytes_eq word (codes ")") then Some tokens.Close
    else (if bytes_eq word (codes ",") then Some tokens.Comma
    else None)))))))

-- the names that are no registers
abbrev pub name_word : List ℕ → Option Name
name_word word =
    if bytes_eq word (codes "key") then Some names.Key
    else (if bytes_eq word (codes "val") then Some names.Val
    else (if bytes_eq word (codes "port") then Some names.Port
    else (if bytes_eq word (codes "a") then Some names.A
    else (if bytes_eq word (codes "b") then Some names.B
    else (if bytes_eq word (codes "before_a") then Some names.BeforeA
    else (if bytes_eq word (codes "before_b") then Some names.BeforeB
    else (if bytes_eq word (codes "known") then Some names.Known
    else (if bytes_eq word (codes "items") then Some names.Items
    else (if bytes_eq word (codes "lost") then Some names.Lost
    else None)))))))))

-- whether a name is there: `items` in groups and folds, those of a state in folds, and `lost` at the end
abbrev pub is_fold : Option ClosureKind → Bool
is_fold (Some kinds.Fold) = true
is_fold _ = false

abbrev pub has_items : Option ClosureKind → Bool
has_items (Some kinds.Fold) = true
has_items (Some kinds.Group) = true
has_items _ = false

abbrev pub is_there : Scope → Name → Bool
is_there scope names.Key = true
is_there scope names.Val = true
is_there scope names.Port = true
is_there scope names.Items = has_items scope.kind
is_there scope names.Lost = scope.at_end
is_there scope (names.Register r) = true
is_there scope _ = is_fold scope.kind

abbrev pub name_token : Scope → Name → Token
name_token scope x = if is_there scope x then tokens.Named x else tokens.Unknown

-- the number of a register
abbrev pub register_from : ℕ → List (List ℕ) → List ℕ → Option ℕ
register_from n [] word = None
register_from n (register ∷ registers) word = if bytes_eq register word then Some n else register_from (n + 1) registers word

-- a word that names no register yet
abbrev pub new_word : Scope → ℕ → List ℕ → Token
new_word scope n word = if scope.may_name && is_letter (slice_index word 0) then tokens.New n else tokens.Unknown

abbrev pub number_word : Scope → ℕ → List ℕ → Option ℕ → Token
number_word scope n word None = new_word scope n word
number_word scope n word (Some number) = tokens.Number (pos number)

abbrev pub register_word : Scope → ℕ → List ℕ → Option ℕ → Token
register_word scope n word None = number_word scope n word (natural_of word)
register_word scope n word (Some r) = tokens.Named (names.Register r)

abbrev pub or_else : Option Token → Token → Token
or_else None t = t
or_else (Some t) u = t

abbrev pub named_word : Scope → Option Name → Token → Token
named_word scope None t = t
named_word scope (Some x) t = name_token scope x

-- the token of a word
abbrev pub token_of : Scope → List (List ℕ) → List ℕ → Token
token_of scope registers word =
    or_else (head_word word) (or_else (plain_word word) (or_else (test_word word) (or_else (sum_word word)
    (named_word scope (name_word word) (register_word scope (length registers) word (register_from 0 registers word))))))

-- the registers after a token: those that a line names are there from then on, eight at most
abbrev pub with_register : List (List ℕ) → List ℕ → Token → List (List ℕ)
with_register registers word (tokens.New n) = if nat_lt (length registers) 8 then registers ++ word ∷ [] else registers
with_register registers word _ = registers

-- the tokens of words, and the registers after them
abbrev pub tokens_of : Scope → List (List ℕ) → List (List ℕ) → List Token
tokens_of scope registers [] = tokens.End ∷ []
tokens_of scope registers (word ∷ words) =
    token_of scope registers word ∷ tokens_of scope (with_register registers word (token_of scope registers word)) words

abbrev pub registers_after : Scope → List (List ℕ) → List (List ℕ) → List (List ℕ)
registers_after scope registers [] = registers
registers_after scope registers (word ∷ words) = registers_after scope (with_register registers word (token_of scope registers word)) words

-- what names there are on a line of an open closure, by its first word: a `let` may name registers, and on `send` and `keep` there
-- is `lost`
abbrev pub verb_scope : Option ClosureKind → Verb → Scope
verb_scope kind verbs.Let = record { kind = kind; at_end = false; may_name = true }
verb_scope kind verbs.Send = record { kind = kind; at_end = true; may_name = false }
verb_scope kind verbs.Keep = record { kind = kind; at_end = true; may_name = false }
verb_scope kind verb = record { kind = kind; at_end = false; may_name = false }

abbrev pub token_scope : Option ClosureKind → Token → Scope
token_scope kind (tokens.Verb verb) = verb_scope kind verb
token_scope kind t = verb_scope kind verbs.Item

abbrev pub first_scope : Option ClosureKind → Option Token → Scope
first_scope kind None = verb_scope kind verbs.Item
first_scope kind (Some t) = token_scope kind t

abbrev pub scope_of : Option ClosureKind → List (List ℕ) → Scope
scope_of kind [] = verb_scope kind verbs.Item
scope_of kind (word ∷ words) = first_scope kind (head_word word)
