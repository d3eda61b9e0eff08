-- CLOSURES THAT A TEXT CAN SPELL: what their names, numbers and lines must be.
use Rattle.std.specs.Prelude.{◌≡◌, ◌≤◌, ◌^◌, ℕ, zero, suc, ◌+◌, pos, negsuc, Bool, true, false, ◌&&◌, nat_lt, List, [], ◌∷◌, ◌++◌, length, Some, if◌then◌else◌, ⊤}
use Rattle.std.specs.Fmt.{decimal}
use Rattle.std.specs.List.{AllByRecursion}
use Rattle.td_formula.specs.declared.expression.Name.{Name}
use Rattle.td_formula.specs.declared.expression.Name.TheVariants as names
use Rattle.td_formula.specs.declared.expression.Operator.TheVariants as operators
use Rattle.td_formula.specs.declared.closure.ClosureKind.{ClosureKind}
use Rattle.td_closures.specs.declared.token.Token.{Token}
use Rattle.td_closures.specs.declared.token.Token.TheVariants as tokens
use Rattle.td_closures.specs.declared.token.Verb.{Verb}
use Rattle.td_closures.specs.declared.token.Verb.TheVariants as verbs
use Rattle.td_closures.specs.declared.words.Scope.{Scope}
use Rattle.td_closures.specs.Phrase.{Phrase, number, name, parens, prefix, infix', call, choice, written, nested, bare}
use Rattle.td_closures.specs.Words.{is_fold, has_items, is_there, verb_scope}
use Rattle.td_closures.specs.Lines.{Assigned, Paired, Line, is_code, may_change}
use Rattle.td_closures.specs.Lines.Line.{head, lets, item, each, send, keep}
use Rattle.td_closures.specs.Drafts.{Said, has_closure, nodes_in}
use Rattle.td_closures.specs.Canonical.{canonical, is_one, is_unchanged, lines_of}

-- the registers of a canonical text
abbrev pub register : ℕ → List ℕ
register r = 114 ∷ decimal r

abbrev pub registers_from : ℕ → ℕ → List (List ℕ)
registers_from k zero = []
registers_from k (suc n) = register k ∷ registers_from (k + 1) n

abbrev pub registers : ℕ → List (List ℕ)
registers n = registers_from 0 n

-- EXPRESSIONS. Where there are so many registers, their numbers and names stand for something
abbrev pub is_named : Scope → ℕ → Phrase → Bool
is_named scope n (number (pos m)) = nat_lt m (2 ^ 64)
is_named scope n (number (negsuc m)) = false
is_named scope n (name (names.Register r)) = nat_lt r n
is_named scope n (name x) = is_there scope x
is_named scope n (parens p) = is_named scope n p
is_named scope n (prefix s p) = is_named scope n p
is_named scope n (infix' o p q) = is_named scope n p && is_named scope n q
is_named scope n (call o p q) = is_named scope n p && is_named scope n q
is_named scope n (choice p q r) = is_named scope n p && (is_named scope n q && is_named scope n r)

pub record IsExpression (scope : Scope) (n : ℕ) (e : Phrase) : Type 0 where
  pub tree : bare e ≡ e
  pub named : is_named scope n e ≡ true
  pub shallow : nested (canonical e) ≤ 64

-- LINES. A `let` names the next register, and may use it
pub record IsLet (kind : ClosureKind) (n : ℕ) (c : Assigned) : Type 0 where
  pub name_is : c.name ≡ names.Register n
  pub value : IsExpression (verb_scope (Some kind) verbs.Let) (suc n) c.value
  pub when_is : c.when ≡ number (pos 1)

abbrev pub AreLets : ClosureKind → ℕ → List Assigned → Type 0
AreLets kind n [] = ⊤
AreLets kind n (c ∷ cs) = IsLet kind n c × AreLets kind (suc n) cs

pub record IsItem (kind : ClosureKind) (n : ℕ) (c : Assigned) : Type 0 where
  pub has_some : has_items (Some kind) ≡ true
  pub changes : may_change c.name ≡ true
  pub there : is_named (verb_scope (Some kind) verbs.Item) n (name c.name) ≡ true
  pub value : IsExpression (verb_scope (Some kind) verbs.Item) n c.value
  pub when : IsExpression (verb_scope (Some kind) verbs.Item) n c.when

pub record IsPairAt (scope : Scope) (n : ℕ) (p : Paired) : Type 0 where
  pub first : IsExpression scope n p.first
  pub second : IsExpression scope n p.second
  pub when : IsExpression scope n p.when

pub record IsEach (kind : ClosureKind) (n : ℕ) (p : Paired) : Type 0 where
  pub has_some : has_items (Some kind) ≡ true
  pub pair : IsPairAt (verb_scope (Some kind) verbs.Each) n p

pub record IsKeep (kind : ClosureKind) (n : ℕ) (p : Paired) : Type 0 where
  pub has_state : is_fold (Some kind) ≡ true
  pub pair : IsPairAt (verb_scope (Some kind) verbs.Keep) n p

pub record IsClosure (c : Said) : Type 0 where
  pub code : is_code c.code ≡ true
  pub lets : AreLets c.kind 0 c.lets
  pub few : length c.lets ≤ 8
  pub changes : AllByRecursion (IsItem c.kind (length c.lets)) c.changes
  pub each : AllByRecursion (IsEach c.kind (length c.lets)) c.each
  pub sends : AllByRecursion (IsPairAt (verb_scope (Some c.kind) verbs.Send) (length c.lets)) c.sends
  pub few_sends : length c.sends ≤ 8
  pub keep : is_unchanged c.keep ≡ false → IsKeep c.kind (length c.lets) c.keep

-- no two of one kind have one code
abbrev pub AreApart : List Said → List Said → Type 0
AreApart done [] = ⊤
AreApart done (c ∷ cs) = (has_closure c.kind c.code done ≡ false) × AreApart (done ++ c ∷ []) cs

-- THE TOKENS OF A CANONICAL LINE
abbrev pub when_tokens : Phrase → List Token
when_tokens w = if is_one w then [] else tokens.When ∷ written (canonical w)

abbrev pub target_token : Verb → Name → Token
target_token verbs.Let (names.Register r) = tokens.New r
target_token verb x = tokens.Named x

abbrev pub change_tokens : Verb → Assigned → List Token
change_tokens verb c = target_token verb c.name ∷ tokens.Infix operators.Equal ∷ (written (canonical c.value) ++ when_tokens c.when)

abbrev pub changes_tokens : Verb → List Assigned → List Token
changes_tokens verb [] = []
changes_tokens verb (c ∷ []) = change_tokens verb c
changes_tokens verb (c ∷ d ∷ cs) = change_tokens verb c ++ tokens.Comma ∷ changes_tokens verb (d ∷ cs)

abbrev pub pair_tokens : Paired → List Token
pair_tokens p = written (canonical p.first) ++ tokens.Comma ∷ (written (canonical p.second) ++ when_tokens p.when)

abbrev pub line_tokens : Line → List Token
line_tokens (head kind code) = tokens.Kind kind ∷ tokens.Number (pos code) ∷ tokens.End ∷ []
line_tokens (lets cs) = tokens.Verb verbs.Let ∷ (changes_tokens verbs.Let cs ++ tokens.End ∷ [])
line_tokens (item cs) = tokens.Verb verbs.Item ∷ (changes_tokens verbs.Item cs ++ tokens.End ∷ [])
line_tokens (each p) = tokens.Verb verbs.Each ∷ (pair_tokens p ++ tokens.End ∷ [])
line_tokens (send p) = tokens.Verb verbs.Send ∷ (pair_tokens p ++ tokens.End ∷ [])
line_tokens (keep p) = tokens.Verb verbs.Keep ∷ (pair_tokens p ++ tokens.End ∷ [])

-- THE LINES OF CLOSURES, and how many numbers, names and operators they have
abbrev pub all_lines : List Said → List Line
all_lines [] = []
all_lines (c ∷ cs) = lines_of c ++ all_lines cs

abbrev pub nodes_of : List Line → ℕ
nodes_of [] = 0
nodes_of (l ∷ ls) = nodes_in (line_tokens l) + nodes_of ls

-- THESE CLOSURES CAN BE SPELLED
pub record AreSpellable (cs : List Said) : Type 0 where
  pub each : AllByRecursion IsClosure cs
  pub apart : AreApart [] cs
  pub few : length cs ≤ 256
  pub nodes : nodes_of (all_lines cs) ≤ 4096
