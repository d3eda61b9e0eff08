-- How a line is read from its tokens, part by part. The laws tell that what is read so is what the grammar says.
use Rattle.std.specs.Prelude.{ℕ, zero, suc, ℤ, pos, int_le, unsigned_abs, ◌&&◌, if◌then◌else◌, List, [], ◌∷◌, ◌++◌, Option, Some, None, Result, Ok, Err, ⊤}
use Rattle.td_formula.specs.declared.expression.Name.{Name}
use Rattle.td_formula.specs.declared.expression.Operator.TheVariants as operators
use Rattle.td_formula.specs.declared.closure.ClosureKind.{ClosureKind}
use Rattle.td_closures.specs.declared.token.Token.{Token}
use Rattle.td_closures.specs.declared.token.Token.TheVariants as tokens
use Rattle.td_closures.specs.declared.token.Verb.{Verb}
use Rattle.td_closures.specs.declared.token.Verb.TheVariants as verbs
use Rattle.td_closures.specs.declared.fault.Wrong.{Wrong}
use Rattle.td_closures.specs.declared.fault.Wrong.TheVariants as wrongs
use Rattle.td_closures.specs.Phrase.{Phrase, number}
use Rattle.td_closures.specs.Machine.{wanted, whole, run, Front, front, faulty}
use Rattle.td_closures.specs.Lines.{Assigned, Paired, Line, target_of}
use Rattle.td_closures.specs.Lines.Line.{head, lets, item, each, send, keep}

-- what comes after an answer, unless it is a refusal
abbrev pub and_then : {A B : Type 0} → Result A Wrong → (A → Result B Wrong) → Result B Wrong
and_then (Ok x) f = f x
and_then (Err w) f = Err w

-- an expression, and what follows it
abbrev pub of_front : Front → Result (Phrase × List Token) Wrong
of_front (front e ts) = Ok (e, ts)
of_front (faulty w) = Err w

unfoldable pub expression_of : List Token → Result (Phrase × List Token) Wrong
expression_of ts = of_front (run (wanted whole) ts)

abbrev pub when_of : List Token → Result (Phrase × List Token) Wrong
when_of (tokens.When ∷ ts) = expression_of ts
when_of ts = Ok (number (pos 1), ts)

abbrev pub after_comma : List Token → Result (List Token) Wrong
after_comma (tokens.Comma ∷ ts) = Ok ts
after_comma ts = Err wrongs.Syntax

abbrev pub ended : List Token → Result ⊤ Wrong
ended (tokens.End ∷ []) = Ok tt
ended ts = Err wrongs.Syntax

-- `E, E` and its condition, step by step
abbrev pub paired : Phrase → Phrase → Phrase → ⊤ → Result Paired Wrong
paired e f w end = Ok (record { first = e; second = f; when = w })

abbrev pub with_when : Phrase → Phrase → (Phrase × List Token) → Result Paired Wrong
with_when e f w = and_then (ended w.1) (paired e f w.0)

abbrev pub with_second : Phrase → (Phrase × List Token) → Result Paired Wrong
with_second e f = and_then (when_of f.1) (with_when e f.0)

abbrev pub with_separator : Phrase → List Token → Result Paired Wrong
with_separator e ts = and_then (expression_of ts) (with_second e)

abbrev pub with_first : (Phrase × List Token) → Result Paired Wrong
with_first e = and_then (after_comma e.1) (with_separator e.0)

unfoldable pub pair_of : List Token → Result Paired Wrong
pair_of ts = and_then (expression_of ts) with_first

-- `NAME =`
abbrev pub with_rest : List Token → Result Name Wrong → Result (Name × List Token) Wrong
with_rest ts (Ok x) = Ok (x, ts)
with_rest ts (Err w) = Err w

abbrev pub assigned_of : Verb → List Token → Result (Name × List Token) Wrong
assigned_of verb (t ∷ tokens.Infix operators.Equal ∷ ts) = with_rest ts (target_of verb t)
assigned_of verb ts = Err wrongs.Syntax

abbrev pub condition_of : Verb → List Token → Result (Phrase × List Token) Wrong
condition_of verbs.Item ts = when_of ts
condition_of verb ts = Ok (number (pos 1), ts)

-- `NAME = E` and its condition, and what follows, step by step
abbrev pub changed : Name → Phrase → (Phrase × List Token) → Result (Assigned × List Token) Wrong
changed x e w = Ok (record { name = x; value = e; when = w.0 }, w.1)

abbrev pub with_value : Verb → Name → (Phrase × List Token) → Result (Assigned × List Token) Wrong
with_value verb x e = and_then (condition_of verb e.1) (changed x e.0)

abbrev pub with_target : Verb → (Name × List Token) → Result (Assigned × List Token) Wrong
with_target verb x = and_then (expression_of x.1) (with_value verb x.0)

unfoldable pub change_of : Verb → List Token → Result (Assigned × List Token) Wrong
change_of verb ts = and_then (assigned_of verb ts) (with_target verb)

-- so many at most, with commas between them, after those that are done
abbrev pub after_change : List Token → Result (Option (List Token)) Wrong
after_change (tokens.Comma ∷ ts) = Ok (Some ts)
after_change (tokens.End ∷ []) = Ok None
after_change ts = Err wrongs.Syntax

abbrev pub with_next : (List Token → List Assigned → Result (List Assigned) Wrong) → List Assigned → Option (List Token) → Result (List Assigned) Wrong
with_next more done (Some ts) = more ts done
with_next more done None = Ok done

abbrev pub next_of : (List Token → List Assigned → Result (List Assigned) Wrong) → List Assigned → List Token → Result (List Assigned) Wrong
next_of more done ts = and_then (after_change ts) (with_next more done)

abbrev pub with_change : (List Token → List Assigned → Result (List Assigned) Wrong) → List Assigned → (Assigned × List Token) → Result (List Assigned) Wrong
with_change more done c = next_of more (done ++ c.0 ∷ []) c.1

unfoldable pub changes_of : Verb → ℕ → List Token → List Assigned → Result (List Assigned) Wrong
changes_of verb zero ts done = Err wrongs.TooMany
changes_of verb (suc n) ts done = and_then (change_of verb ts) (with_change (λ us more. changes_of verb n us more) done)

abbrev pub head_at : ClosureKind → ℤ → Result Line Wrong
head_at kind n = if int_le (pos 10000) n && int_le n (pos 65535) then Ok (head kind (unsigned_abs n)) else Err wrongs.Code

abbrev pub head_of : ClosureKind → List Token → Result Line Wrong
head_of kind (tokens.Number n ∷ tokens.End ∷ []) = head_at kind n
head_of kind ts = Err wrongs.Syntax

-- a line that begins so
abbrev pub of_lets : List Assigned → Result Line Wrong
of_lets cs = Ok (lets cs)

abbrev pub of_item : List Assigned → Result Line Wrong
of_item cs = Ok (item cs)

abbrev pub of_each : Paired → Result Line Wrong
of_each p = Ok (each p)

abbrev pub of_send : Paired → Result Line Wrong
of_send p = Ok (send p)

abbrev pub of_keep : Paired → Result Line Wrong
of_keep p = Ok (keep p)

abbrev pub verb_line : Verb → List Token → Result Line Wrong
verb_line verbs.Let ts = and_then (changes_of verbs.Let 64 ts []) of_lets
verb_line verbs.Item ts = and_then (changes_of verbs.Item 64 ts []) of_item
verb_line verbs.Each ts = and_then (pair_of ts) of_each
verb_line verbs.Send ts = and_then (pair_of ts) of_send
verb_line verbs.Keep ts = and_then (pair_of ts) of_keep

abbrev pub line_of : List Token → Result Line Wrong
line_of (tokens.Kind kind ∷ ts) = head_of kind ts
line_of (tokens.Verb verb ∷ ts) = verb_line verb ts
line_of ts = Err wrongs.Syntax
