-- The tokens of a canonical line, and that they spell it.
use Rattle.std.specs.Prelude.{◌≡◌, ◌≤◌, ◌<◌, ◌^◌, ℕ, suc, pos, Bool, true, false, if◌then◌else◌, List, [], ◌∷◌, ◌++◌, codes, Some, Ok}
use Rattle.std.proofs.Common.{refl, ap, sym, ◌∙◌, arith, subst, append_assoc, lit≤}
use Rattle.std.specs.Fmt.{decimal}
use Rattle.std.proofs.lemmas.List.{append-nil}
use Rattle.std.proofs.lemmas.Bool.{lt-ltb}
use Rattle.std.proofs.lemmas.Bool.Decides.{Decides-int_eq}
use Rattle.td_formula.specs.declared.expression.Name.{Name}
use Rattle.td_formula.specs.declared.expression.Name.TheVariants as names
use Rattle.td_formula.specs.declared.expression.Operator.TheVariants as operators
use Rattle.td_formula.specs.declared.closure.ClosureKind.{ClosureKind}
use Rattle.td_formula.specs.declared.closure.ClosureKind.TheVariants as kinds
use Rattle.td_plan.specs.Text.{words}
use Rattle.td_closures.specs.declared.token.Token.{Token}
use Rattle.td_closures.specs.declared.token.Token.TheVariants as tokens
use Rattle.td_closures.specs.declared.token.Verb.{Verb}
use Rattle.td_closures.specs.declared.token.Verb.TheVariants as verbs
use Rattle.td_closures.specs.declared.words.Scope.{Scope}
use Rattle.td_closures.specs.Phrase.{Phrase, number, name, parens, prefix, infix', call, choice, written, begins_with_end, IsRead}
use Rattle.td_closures.specs.Words.{spaced, verb_scope, with_register, tokens_of, registers_after}
use Rattle.td_closures.specs.Lines.{Assigned, Paired, Line, IsWhen, IsPair, may_change, target_of, IsChange, is_code, IsLine}
use Rattle.td_closures.specs.Lines.Line.{head, each, send, keep}
use Rattle.td_closures.specs.Drafts.{Draft, kind_of, tokens_in, registers_in}
use Rattle.td_closures.specs.Canonical.{canonical, name_text, expression_text, is_one, when_text, change_text, pair_text, kind_text, line_text, let_line, item_line}
use Rattle.td_closures.specs.Spelled.{register, registers, IsExpression, IsLet, IsItem, IsPairAt, when_tokens, change_tokens, pair_tokens, line_tokens}
use Rattle.td_closures.proofs.Blank.{space}
use Rattle.td_closures.proofs.Fewest.{spells_again}
use Rattle.td_closures.proofs.RegisterWords.{new_token, with_new, register_of_word}
use Rattle.td_closures.proofs.Spoken.{Says, says_then, says_comma, says_when, says_name, says_number, says_operator, says_expression, ends_word, word_cut}

-- CONDITIONS
pub one_is : (w : Phrase) → is_one w ≡ true → w ≡ number (pos 1)
one_is (number n) h = ap number ((Decides-int_eq n (pos 1)).0 h)
one_is (name x) h = absurd (cc)
one_is (parens p) h = absurd (cc)
one_is (prefix s p) h = absurd (cc)
one_is (infix' o p q) h = absurd (cc)
one_is (call o p q) h = absurd (cc)
one_is (choice p q r) h = absurd (cc)

when_ends_by : (w : Phrase) (b : Bool) → ends_word (if b then [] else codes " when " ++ expression_text w) ≡ true
when_ends_by w true = refl
when_ends_by w false = refl

says_nothing : (scope : Scope) (regs : List (List ℕ)) → Says scope regs [] [] []
says_nothing scope regs = record { tokens_are = refl; registers_are = refl }

says_last : (scope : Scope) (n : ℕ) (e : Phrase) → n ≤ 8 → IsExpression scope n e → Says scope (registers n) (expression_text e) (written (canonical e)) []
says_last scope n e small h = subst (λ (x : List ℕ). Says scope (registers n) x (written (canonical e)) []) (append-nil (expression_text e)) (says_expression scope n e [] small h.named refl)

says_when_by : (scope : Scope) (n : ℕ) (w : Phrase) (b : Bool) → n ≤ 8 → IsExpression scope n w
    → Says scope (registers n) (if b then [] else codes " when " ++ expression_text w) (if b then [] else tokens.When ∷ written (canonical w)) []
says_when_by scope n w true small h = says_nothing scope (registers n)
says_when_by scope n w false small h = says_then (says_when scope (registers n) (expression_text w)) (says_last scope n w small h)

says_when_text : (scope : Scope) (n : ℕ) (w : Phrase) → n ≤ 8 → IsExpression scope n w → Says scope (registers n) (when_text w) (when_tokens w) []
says_when_text scope n w small h = says_when_by scope n w (is_one w) small h

-- PAIRS AND CHANGES
says_values : (scope : Scope) (n : ℕ) (e w : Phrase) → n ≤ 8 → IsExpression scope n e → IsExpression scope n w
    → Says scope (registers n) (expression_text e ++ when_text w) (written (canonical e) ++ when_tokens w) []
says_values scope n e w small h k = says_then (says_expression scope n e (when_text w) small h.named (when_ends_by w (is_one w))) (says_when_text scope n w small k)

says_pair : (scope : Scope) (n : ℕ) (p : Paired) → n ≤ 8 → IsPairAt scope n p → Says scope (registers n) (pair_text p) (pair_tokens p) []
says_pair scope n p small h =
    says_then (says_expression scope n p.first (codes ", " ++ (expression_text p.second ++ when_text p.when)) small h.first.named refl)
    (says_then (says_comma scope (registers n) (expression_text p.second ++ when_text p.when)) (says_values scope n p.second p.when small h.second h.when))

says_assigned : (scope : Scope) (n : ℕ) (c : Assigned) → n ≤ 8 → IsExpression scope n c.value → IsExpression scope n c.when
    → Says scope (registers n) (codes " = " ++ (expression_text c.value ++ when_text c.when)) (tokens.Infix operators.Equal ∷ (written (canonical c.value) ++ when_tokens c.when)) []
says_assigned scope n c small h k = says_then (says_operator scope (registers n) operators.Equal (expression_text c.value ++ when_text c.when) refl) (says_values scope n c.value c.when small h k)

says_item : (kind : ClosureKind) (n : ℕ) (c : Assigned) → n ≤ 8 → IsItem kind n c → Says (verb_scope (Some kind) verbs.Item) (registers n) (change_text c) (change_tokens verbs.Item c) []
says_item kind n c small h =
    let scope = verb_scope (Some kind) verbs.Item in
    says_then (says_name scope n c.name (codes " = " ++ (expression_text c.value ++ when_text c.when)) small h.there refl) (says_assigned scope n c small h.value h.when)

-- a `let` names a register
one_there : (scope : Scope) (n : ℕ) → IsExpression scope n (number (pos 1))
one_there scope n = record { tree = refl; named = refl; shallow = lit≤ tt }

abbrev let_tokens : ℕ → Assigned → List Token
let_tokens n c = tokens.New n ∷ tokens.Infix operators.Equal ∷ (written (canonical c.value) ++ when_tokens c.when)

let_target : (n : ℕ) (c : Assigned) → c.name ≡ names.Register n → change_tokens verbs.Let c ≡ let_tokens n c
let_target n c e = ap (λ (x : Name). change_tokens verbs.Let (record c { name = x })) e

let_cut : (n : ℕ) (c : Assigned) → n < 8 → c.name ≡ names.Register n → words (spaced (change_text c)) ≡ register n ∷ words (spaced (codes " = " ++ (expression_text c.value ++ when_text c.when)))
let_cut n c small e =
    ap (λ (x : Name). words (spaced (name_text x ++ (codes " = " ++ (expression_text c.value ++ when_text c.when))))) e
    ∙ word_cut (register n) (codes " = " ++ (expression_text c.value ++ when_text c.when)) (register_of_word n small) (omega arith) refl

let_said : (kind : ClosureKind) (n : ℕ) (c : Assigned) → n < 8 → IsLet kind n c
    → Says (verb_scope (Some kind) verbs.Let) (registers (suc n)) (codes " = " ++ (expression_text c.value ++ when_text c.when)) (tokens.Infix operators.Equal ∷ (written (canonical c.value) ++ when_tokens c.when)) []
let_said kind n c small h =
    let scope = verb_scope (Some kind) verbs.Let in
    says_assigned scope (suc n) c (omega arith) h.value (subst (IsExpression scope (suc n)) (sym h.when_is) (one_there scope (suc n)))

let_tokens_are : (kind : ClosureKind) (n : ℕ) (c : Assigned) → n < 8 → IsLet kind n c → tokens_of (verb_scope (Some kind) verbs.Let) (registers n) (words (spaced (change_text c))) ≡ change_tokens verbs.Let c ++ tokens.End ∷ []
let_tokens_are kind n c small h =
    let scope = verb_scope (Some kind) verbs.Let in
    let ws = words (spaced (codes " = " ++ (expression_text c.value ++ when_text c.when))) in
    ap (tokens_of scope (registers n)) (let_cut n c small h.name_is)
    ∙ (ap (λ (t : Token). t ∷ tokens_of scope (with_register (registers n) (register n) t) ws) (new_token scope n small refl)
    ∙ (ap (λ (r : List (List ℕ)). tokens.New n ∷ tokens_of scope r ws) (with_new n small)
    ∙ (ap (λ (ts : List Token). tokens.New n ∷ ts) (let_said kind n c small h).tokens_are
    ∙ ap (λ (ts : List Token). ts ++ tokens.End ∷ []) (sym (let_target n c h.name_is)))))

let_registers_are : (kind : ClosureKind) (n : ℕ) (c : Assigned) → n < 8 → IsLet kind n c → registers_after (verb_scope (Some kind) verbs.Let) (registers n) (words (spaced (change_text c))) ≡ registers (suc n)
let_registers_are kind n c small h =
    let scope = verb_scope (Some kind) verbs.Let in
    let ws = words (spaced (codes " = " ++ (expression_text c.value ++ when_text c.when))) in
    ap (registers_after scope (registers n)) (let_cut n c small h.name_is)
    ∙ (ap (λ (t : Token). registers_after scope (with_register (registers n) (register n) t) ws) (new_token scope n small refl)
    ∙ (ap (λ (r : List (List ℕ)). registers_after scope r ws) (with_new n small)
    ∙ (let_said kind n c small h).registers_are))

-- THE FIRST WORD
abbrev pub verb_text : Verb → List ℕ
verb_text verbs.Let = codes "  let "
verb_text verbs.Item = codes "  item "
verb_text verbs.Each = codes "  each "
verb_text verbs.Send = codes "  send "
verb_text verbs.Keep = codes "  keep "

verb_tokens : (d : Draft) (verb : Verb) (rest : List ℕ) → tokens_in d (verb_text verb ++ rest) ≡ tokens.Verb verb ∷ tokens_of (verb_scope (kind_of d) verb) d.registers (words (spaced rest))
unfolding tokens_in
verb_tokens d verbs.Let rest = ap (λ (ws : List (List ℕ)). tokens.Verb verbs.Let ∷ tokens_of (verb_scope (kind_of d) verbs.Let) d.registers ws) (space rest)
verb_tokens d verbs.Item rest = ap (λ (ws : List (List ℕ)). tokens.Verb verbs.Item ∷ tokens_of (verb_scope (kind_of d) verbs.Item) d.registers ws) (space rest)
verb_tokens d verbs.Each rest = ap (λ (ws : List (List ℕ)). tokens.Verb verbs.Each ∷ tokens_of (verb_scope (kind_of d) verbs.Each) d.registers ws) (space rest)
verb_tokens d verbs.Send rest = ap (λ (ws : List (List ℕ)). tokens.Verb verbs.Send ∷ tokens_of (verb_scope (kind_of d) verbs.Send) d.registers ws) (space rest)
verb_tokens d verbs.Keep rest = ap (λ (ws : List (List ℕ)). tokens.Verb verbs.Keep ∷ tokens_of (verb_scope (kind_of d) verbs.Keep) d.registers ws) (space rest)

verb_registers : (d : Draft) (verb : Verb) (rest : List ℕ) → registers_in d (verb_text verb ++ rest) ≡ registers_after (verb_scope (kind_of d) verb) d.registers (words (spaced rest))
unfolding registers_in
verb_registers d verbs.Let rest = ap (λ (ws : List (List ℕ)). registers_after (verb_scope (kind_of d) verbs.Let) d.registers ws) (space rest)
verb_registers d verbs.Item rest = ap (λ (ws : List (List ℕ)). registers_after (verb_scope (kind_of d) verbs.Item) d.registers ws) (space rest)
verb_registers d verbs.Each rest = ap (λ (ws : List (List ℕ)). registers_after (verb_scope (kind_of d) verbs.Each) d.registers ws) (space rest)
verb_registers d verbs.Send rest = ap (λ (ws : List (List ℕ)). registers_after (verb_scope (kind_of d) verbs.Send) d.registers ws) (space rest)
verb_registers d verbs.Keep rest = ap (λ (ws : List (List ℕ)). registers_after (verb_scope (kind_of d) verbs.Keep) d.registers ws) (space rest)

-- WHAT A LINE IS IN A DRAFT: its tokens, which spell it, and the registers behind it
pub record IsSaidAt (d : Draft) (l : Line) (regs : List (List ℕ)) : Type 0 where
  pub tokens_are : tokens_in d (line_text l) ≡ line_tokens l
  pub registers_are : registers_in d (line_text l) ≡ regs
  pub spelled : IsLine (line_tokens l) l

said_verb : (d : Draft) (n : ℕ) (kind : ClosureKind) (verb : Verb) (rest : List ℕ) (ts : List Token) → kind_of d ≡ Some kind → d.registers ≡ registers n → Says (verb_scope (Some kind) verb) (registers n) rest ts []
    → (tokens_in d (verb_text verb ++ rest) ≡ tokens.Verb verb ∷ (ts ++ tokens.End ∷ [])) × (registers_in d (verb_text verb ++ rest) ≡ registers n)
said_verb d n kind verb rest ts k r s = (
  verb_tokens d verb rest ∙ ((λ i. tokens.Verb verb ∷ tokens_of (verb_scope (k i) verb) (r i) (words (spaced rest))) ∙ ap (λ (x : List Token). tokens.Verb verb ∷ x) s.tokens_are),
  verb_registers d verb rest ∙ ((λ i. registers_after (verb_scope (k i) verb) (r i) (words (spaced rest))) ∙ s.registers_are),
)

-- expressions among the tokens
is_read : (scope : Scope) (n : ℕ) (e : Phrase) (ts rest : List Token) → IsExpression scope n e → ts ≡ written (canonical e) ++ rest → begins_with_end rest ≡ true → IsRead ts e rest
is_read scope n e ts rest h splits ends = record { front = written (canonical e); spelled = spells_again e h.tree h.shallow; splits = splits; ends = ends }

when_ends_tokens : (w : Phrase) (b : Bool) → begins_with_end ((if b then [] else tokens.When ∷ written (canonical w)) ++ tokens.End ∷ []) ≡ true
when_ends_tokens w true = refl
when_ends_tokens w false = refl

is_when_by : (scope : Scope) (n : ℕ) (w : Phrase) (b : Bool) → is_one w ≡ b → IsExpression scope n w → IsWhen ((if b then [] else tokens.When ∷ written (canonical w)) ++ tokens.End ∷ []) w (tokens.End ∷ [])
is_when_by scope n w true e h = (one_is w e, refl)
is_when_by scope n w false e h = is_read scope n w (written (canonical w) ++ tokens.End ∷ []) (tokens.End ∷ []) h refl refl

is_pair : (scope : Scope) (n : ℕ) (p : Paired) → IsPairAt scope n p → IsPair (pair_tokens p ++ tokens.End ∷ []) p
is_pair scope n p h =
    let two : List Token = written (canonical p.second) ++ (when_tokens p.when ++ tokens.End ∷ []) in
    record {
      after_first = two;
      after_second = when_tokens p.when ++ tokens.End ∷ [];
      first = is_read scope n p.first (pair_tokens p ++ tokens.End ∷ []) (tokens.Comma ∷ two) h.first (simp append_assoc) refl;
      second = is_read scope n p.second two (when_tokens p.when ++ tokens.End ∷ []) h.second refl (when_ends_tokens p.when (is_one p.when));
      when = is_when_by scope n p.when (is_one p.when) refl h.when;
    }

-- LINES
pub said_each : (d : Draft) (n : ℕ) (kind : ClosureKind) (p : Paired) → n ≤ 8 → kind_of d ≡ Some kind → d.registers ≡ registers n → IsPairAt (verb_scope (Some kind) verbs.Each) n p → IsSaidAt d (each p) (registers n)
said_each d n kind p small k r h =
    let s = said_verb d n kind verbs.Each (pair_text p) (pair_tokens p) k r (says_pair (verb_scope (Some kind) verbs.Each) n p small h) in
    record { tokens_are = s.0; registers_are = s.1; spelled = record { after = pair_tokens p ++ tokens.End ∷ []; begins = refl; pair = is_pair (verb_scope (Some kind) verbs.Each) n p h } }

pub said_send : (d : Draft) (n : ℕ) (kind : ClosureKind) (p : Paired) → n ≤ 8 → kind_of d ≡ Some kind → d.registers ≡ registers n → IsPairAt (verb_scope (Some kind) verbs.Send) n p → IsSaidAt d (send p) (registers n)
said_send d n kind p small k r h =
    let s = said_verb d n kind verbs.Send (pair_text p) (pair_tokens p) k r (says_pair (verb_scope (Some kind) verbs.Send) n p small h) in
    record { tokens_are = s.0; registers_are = s.1; spelled = record { after = pair_tokens p ++ tokens.End ∷ []; begins = refl; pair = is_pair (verb_scope (Some kind) verbs.Send) n p h } }

pub said_keep : (d : Draft) (n : ℕ) (kind : ClosureKind) (p : Paired) → n ≤ 8 → kind_of d ≡ Some kind → d.registers ≡ registers n → IsPairAt (verb_scope (Some kind) verbs.Keep) n p → IsSaidAt d (keep p) (registers n)
said_keep d n kind p small k r h =
    let s = said_verb d n kind verbs.Keep (pair_text p) (pair_tokens p) k r (says_pair (verb_scope (Some kind) verbs.Keep) n p small h) in
    record { tokens_are = s.0; registers_are = s.1; spelled = record { after = pair_tokens p ++ tokens.End ∷ []; begins = refl; pair = is_pair (verb_scope (Some kind) verbs.Keep) n p h } }

item_target : (x : Name) → may_change x ≡ true → target_of verbs.Item (tokens.Named x) ≡ Ok x
item_target x h = rw h refl

pub said_item : (d : Draft) (n : ℕ) (kind : ClosureKind) (c : Assigned) → n ≤ 8 → kind_of d ≡ Some kind → d.registers ≡ registers n → IsItem kind n c → IsSaidAt d (item_line c) (registers n)
said_item d n kind c small k r h =
    let scope = verb_scope (Some kind) verbs.Item in
    let s = said_verb d n kind verbs.Item (change_text c) (change_tokens verbs.Item c) k r (says_item kind n c small h) in
    let values : List Token = (written (canonical c.value) ++ when_tokens c.when) ++ tokens.End ∷ [] in
    let change : IsChange verbs.Item (change_tokens verbs.Item c ++ tokens.End ∷ []) c (tokens.End ∷ []) = record {
      token = tokens.Named c.name;
      values = values;
      after = when_tokens c.when ++ tokens.End ∷ [];
      begins = refl;
      target = item_target c.name h.changes;
      value = is_read scope n c.value values (when_tokens c.when ++ tokens.End ∷ []) h.value (append_assoc (written (canonical c.value)) (when_tokens c.when) (tokens.End ∷ [])) (when_ends_tokens c.when (is_one c.when));
      when = is_when_by scope n c.when (is_one c.when) refl h.when;
    } in
    record { tokens_are = s.0; registers_are = s.1; spelled = record { after = change_tokens verbs.Item c ++ tokens.End ∷ []; begins = refl; changes = change; few = lit≤ tt } }

let_named : (n : ℕ) (x : Name) → n < 8 → x ≡ names.Register n → target_of verbs.Let (tokens.New n) ≡ Ok x
let_named n x small e = rw (lt-ltb n 8 small) (let back : names.Register n ≡ x = sym e in λ i. Ok (back i))

pub said_let : (d : Draft) (n : ℕ) (kind : ClosureKind) (c : Assigned) → n < 8 → kind_of d ≡ Some kind → d.registers ≡ registers n → IsLet kind n c → IsSaidAt d (let_line c) (registers (suc n))
said_let d n kind c small k r h =
    let scope = verb_scope (Some kind) verbs.Let in
    let values : List Token = (written (canonical c.value) ++ when_tokens c.when) ++ tokens.End ∷ [] in
    let after : List Token = when_tokens c.when ++ tokens.End ∷ [] in
    let last : after ≡ tokens.End ∷ [] = ap (λ (w : Phrase). when_tokens w ++ tokens.End ∷ []) h.when_is in
    let change : IsChange verbs.Let (change_tokens verbs.Let c ++ tokens.End ∷ []) c (tokens.End ∷ []) = record {
      token = tokens.New n;
      values = values;
      after = after;
      begins = ap (λ (ts : List Token). ts ++ tokens.End ∷ []) (let_target n c h.name_is);
      target = let_named n c.name small h.name_is;
      value = is_read scope (suc n) c.value values after h.value (append_assoc (written (canonical c.value)) (when_tokens c.when) (tokens.End ∷ [])) (when_ends_tokens c.when (is_one c.when));
      when = (h.when_is, last);
    } in
    record {
      tokens_are = verb_tokens d verbs.Let (change_text c) ∙ ((λ i. tokens.Verb verbs.Let ∷ tokens_of (verb_scope (k i) verbs.Let) (r i) (words (spaced (change_text c)))) ∙ ap (λ (x : List Token). tokens.Verb verbs.Let ∷ x) (let_tokens_are kind n c small h));
      registers_are = verb_registers d verbs.Let (change_text c) ∙ ((λ i. registers_after (verb_scope (k i) verbs.Let) (r i) (words (spaced (change_text c)))) ∙ let_registers_are kind n c small h);
      spelled = record { after = change_tokens verbs.Let c ++ tokens.End ∷ []; begins = refl; changes = change; few = lit≤ tt };
    }

-- a head
head_tokens : (d : Draft) (kind : ClosureKind) (rest : List ℕ) → tokens_in d (kind_text kind ++ rest) ≡ tokens.Kind kind ∷ tokens_of (verb_scope (kind_of d) verbs.Item) d.registers (words (spaced rest))
unfolding tokens_in
head_tokens d kinds.Map rest = ap (λ (ws : List (List ℕ)). tokens.Kind kinds.Map ∷ tokens_of (verb_scope (kind_of d) verbs.Item) d.registers ws) (space rest)
head_tokens d kinds.Group rest = ap (λ (ws : List (List ℕ)). tokens.Kind kinds.Group ∷ tokens_of (verb_scope (kind_of d) verbs.Item) d.registers ws) (space rest)
head_tokens d kinds.Fold rest = ap (λ (ws : List (List ℕ)). tokens.Kind kinds.Fold ∷ tokens_of (verb_scope (kind_of d) verbs.Item) d.registers ws) (space rest)

head_registers : (d : Draft) (kind : ClosureKind) (rest : List ℕ) → registers_in d (kind_text kind ++ rest) ≡ registers_after (verb_scope (kind_of d) verbs.Item) d.registers (words (spaced rest))
unfolding registers_in
head_registers d kinds.Map rest = ap (λ (ws : List (List ℕ)). registers_after (verb_scope (kind_of d) verbs.Item) d.registers ws) (space rest)
head_registers d kinds.Group rest = ap (λ (ws : List (List ℕ)). registers_after (verb_scope (kind_of d) verbs.Item) d.registers ws) (space rest)
head_registers d kinds.Fold rest = ap (λ (ws : List (List ℕ)). registers_after (verb_scope (kind_of d) verbs.Item) d.registers ws) (space rest)

pub said_head : (d : Draft) (n : ℕ) (kind : ClosureKind) (code : ℕ) → code < 2 ^ 64 → d.registers ≡ registers n → is_code code ≡ true → IsSaidAt d (head kind code) (registers n)
said_head d n kind code small r h =
    let scope = verb_scope (kind_of d) verbs.Item in
    let s : Says scope (registers n) (decimal code) (tokens.Number (pos code) ∷ []) [] =
    subst (λ (x : List ℕ). Says scope (registers n) x (tokens.Number (pos code) ∷ []) []) (append-nil (decimal code)) (says_number scope n code [] small refl) in
    record {
      tokens_are = head_tokens d kind (decimal code) ∙ ((λ i. tokens.Kind kind ∷ tokens_of scope (r i) (words (spaced (decimal code)))) ∙ ap (λ (x : List Token). tokens.Kind kind ∷ x) s.tokens_are);
      registers_are = head_registers d kind (decimal code) ∙ ((λ i. registers_after scope (r i) (words (spaced (decimal code)))) ∙ s.registers_are);
      spelled = record { tokens_are = refl; in_range = h };
    }
