-- WHAT A TEXT SAYS UP TO A LINE, and what a line more adds.
use Rattle.std.specs.Prelude.{ℕ, ◌-◌, pos, Bool, true, false, ◌==◌, ◌&&◌, ◌||◌, nat_lt, nat_le, if◌then◌else◌, List, [], ◌∷◌, ◌++◌, length, count_by, Option, Some, None, option_map, option_to_list, Result, Ok, Err}
use Rattle.td_formula.specs.declared.expression.Name.TheVariants as names
use Rattle.td_formula.specs.declared.closure.ClosureKind.{ClosureKind}
use Rattle.td_formula.specs.Written.{is_kind}
use Rattle.td_plan.specs.Text.{words}
use Rattle.td_closures.specs.declared.token.Token.{Token}
use Rattle.td_closures.specs.declared.token.Token.TheVariants as tokens
use Rattle.td_closures.specs.declared.fault.Wrong.{Wrong}
use Rattle.td_closures.specs.declared.fault.Wrong.TheVariants as wrongs
use Rattle.td_closures.specs.Phrase.{number, name}
use Rattle.td_closures.specs.Words.{spaced, is_fold, has_items, scope_of, tokens_of, registers_after}
use Rattle.td_closures.specs.Lines.{Assigned, Paired, Line}
use Rattle.td_closures.specs.Lines.Line.{head, lets, item, each, send, keep}

-- A closure, as its lines say it
pub record Said : Type 0 where
  pub kind : ClosureKind
  pub code : ℕ
  pub lets : List Assigned
  pub changes : List Assigned
  pub each : List Paired
  pub sends : List Paired
  pub keep : Paired

-- a state stays as it is where no line `keep` stands
abbrev pub unchanged : Paired
unchanged = record { first = name names.A; second = name names.B; when = number (pos 1) }

abbrev pub new_closure : ClosureKind → ℕ → Said
new_closure kind code = record { kind = kind; code = code; lets = []; changes = []; each = []; sends = []; keep = unchanged }

-- The closures before the last one, and that one: whether it has its line `keep`, and its registers; and how many bytes and how many
-- nodes are left
pub record Draft : Type 0 where
  pub done : List Said
  pub last : Option Said
  pub kept : Bool
  pub registers : List (List ℕ)
  pub bytes : ℕ
  pub nodes : ℕ

abbrev pub no_draft : Draft
no_draft = record { done = []; last = None; kept = false; registers = []; bytes = 1048577; nodes = 4096 }

abbrev pub closures_of : Draft → List Said
closures_of d = d.done ++ option_to_list d.last

-- THE HEAD OF A CLOSURE: no two of one kind have one code, and there are 256 at most
abbrev pub has_closure : ClosureKind → ℕ → List Said → Bool
has_closure kind code [] = false
has_closure kind code (c ∷ cs) = (is_kind kind c.kind && (c.code == code)) || has_closure kind code cs

abbrev pub begun_with : Draft → ClosureKind → ℕ → Draft
begun_with d kind code = record { done = closures_of d; last = Some (new_closure kind code); kept = false; registers = []; bytes = d.bytes; nodes = d.nodes }

abbrev pub with_head : Draft → ClosureKind → ℕ → Result Draft Wrong
with_head d kind code =
    if has_closure kind code (closures_of d) then Err wrongs.Code
    else (if nat_lt (length (closures_of d)) 256 then Ok (begun_with d kind code) else Err wrongs.TooMany)

-- THE OTHER LINES. `item` and `each` stand in groups and folds, and `keep` once in a fold; a closure has eight lines `send`
abbrev pub with_lets : Said → List Assigned → Said
with_lets c cs = record c { lets = c.lets ++ cs }

abbrev pub with_item : Said → List Assigned → Result Said Wrong
with_item c cs = if has_items (Some c.kind) then Ok (record c { changes = c.changes ++ cs }) else Err wrongs.Syntax

abbrev pub with_each : Said → Paired → Result Said Wrong
with_each c p = if has_items (Some c.kind) then Ok (record c { each = c.each ++ p ∷ [] }) else Err wrongs.Syntax

abbrev pub with_send : Said → Paired → Result Said Wrong
with_send c p = if nat_lt (length c.sends) 8 then Ok (record c { sends = c.sends ++ p ∷ [] }) else Err wrongs.TooMany

abbrev pub with_keep : Said → Bool → Paired → Result Said Wrong
with_keep c kept p = if is_fold (Some c.kind) then (if kept then Err wrongs.TooMany else Ok (record c { keep = p })) else Err wrongs.Syntax

abbrev pub is_keep : Line → Bool
is_keep (keep p) = true
is_keep _ = false

abbrev pub with_part : Said → Bool → Line → Result Said Wrong
with_part c kept (head kind code) = Err wrongs.Syntax
with_part c kept (lets cs) = Ok (with_lets c cs)
with_part c kept (item cs) = with_item c cs
with_part c kept (each p) = with_each c p
with_part c kept (send p) = with_send c p
with_part c kept (keep p) = with_keep c kept p

abbrev pub with_last : Draft → Bool → Result Said Wrong → Result Draft Wrong
with_last d kept (Ok c) = Ok (record d { last = Some c; kept = kept })
with_last d kept (Err w) = Err w

-- a closure begins with its head
abbrev pub in_last : Draft → Option Said → Line → Result Draft Wrong
in_last d None line = Err wrongs.Syntax
in_last d (Some c) line = with_last d (d.kept || is_keep line) (with_part c d.kept line)

-- WITH ONE LINE MORE
abbrev pub with_line : Draft → Line → Result Draft Wrong
with_line d (head kind code) = with_head d kind code
with_line d line = in_last d d.last line

-- THE TOKENS OF A LINE OF THE TEXT
abbrev pub kind_of : Draft → Option ClosureKind
kind_of d = option_map (λ c. c.kind) d.last

unfoldable pub tokens_in : Draft → List ℕ → List Token
tokens_in d line = tokens_of (scope_of (kind_of d) (words (spaced line))) d.registers (words (spaced line))

unfoldable pub registers_in : Draft → List ℕ → List (List ℕ)
registers_in d line = registers_after (scope_of (kind_of d) (words (spaced line))) d.registers (words (spaced line))

-- a line has 4,096 bytes at most, and all lines 1,048,577 with their line feeds
abbrev pub is_long : Draft → List ℕ → Bool
is_long d line = nat_lt 4096 (length line) || nat_le d.bytes (length line)

abbrev pub after_words : Draft → List ℕ → Draft
after_words d line = record d { registers = registers_in d line; bytes = d.bytes - length line - 1 }

-- numbers, names and operators: 4,096 at most in all
abbrev pub is_node : Token → Bool
is_node (tokens.Number n) = true
is_node (tokens.Named x) = true
is_node (tokens.Infix o) = true
is_node (tokens.Prefix s) = true
is_node (tokens.Call o) = true
is_node tokens.If = true
is_node _ = false

abbrev pub nodes_in : List Token → ℕ
nodes_in ts = count_by is_node ts

abbrev pub after_nodes : Draft → List Token → Draft
after_nodes d ts = record d { nodes = d.nodes - nodes_in ts }
