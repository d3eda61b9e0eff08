-- The tokens of a line: each name and number among them stands for something, and a new register is the next.
use Rattle.std.specs.Prelude.{◌≡◌, ◌≤◌, ◌<◌, ◌^◌, ℕ, suc, ◌+◌, pos, negsuc, Bool, true, false, ◌&&◌, nat_lt, nat_le, if◌then◌else◌, List, [], ◌∷◌, ◌++◌, length, codes, slice_index, Option, Some, None, ⊤}
use Rattle.std.proofs.Common.{refl, ap, sym, ◌∙◌, arith, subst, append_assoc, length-append, cond}
use Rattle.std.specs.Str.{bytes_eq}
use Rattle.std.specs.Str.Parse.{digits_value}
use Rattle.std.proofs.lemmas.Bool.{lt-ltb, ltb-true}
use Rattle.std.proofs.lemmas.List.Sums.{sum_by-append}
use Rattle.std.proofs.lemmas.Option.{cond_some}
use Rattle.td_formula.specs.declared.expression.Name.{Name}
use Rattle.td_formula.specs.declared.expression.Name.TheVariants as names
use Rattle.td_formula.specs.declared.expression.Sign.{Sign}
use Rattle.td_formula.specs.declared.expression.Sign.TheVariants as signs
use Rattle.td_formula.specs.declared.expression.Operator.{Operator}
use Rattle.td_formula.specs.declared.expression.Operator.TheVariants as operators
use Rattle.td_formula.specs.declared.closure.ClosureKind.{ClosureKind}
use Rattle.td_formula.specs.declared.closure.ClosureKind.TheVariants as kinds
use Rattle.td_plan.specs.Text.{words, natural_of, is_numeral}
use Rattle.td_closures.specs.declared.token.Token.{Token}
use Rattle.td_closures.specs.declared.token.Token.TheVariants as tokens
use Rattle.td_closures.specs.declared.token.Verb.{Verb}
use Rattle.td_closures.specs.declared.token.Verb.TheVariants as verbs
use Rattle.td_closures.specs.declared.words.Scope.{Scope}
use Rattle.td_closures.specs.Phrase.{Phrase, number, name, parens, prefix, infix', call, choice, sign_token, written, operator_level, sign_level, level, nested, bare, IsRead}
use Rattle.td_closures.specs.Words.{is_letter, spaced, is_there, verb_scope, token_scope, first_scope, scope_of, head_word, plain_word, test_word, sum_word, name_word, register_from, number_word, register_word, or_else, named_word, token_of, with_register, tokens_of, registers_after}
use Rattle.td_closures.specs.Drafts.{Draft, kind_of, tokens_in, registers_in, is_node, nodes_in}
use Rattle.td_closures.specs.Canonical.{placed, canonical}
use Rattle.td_closures.specs.Spelled.{is_named, IsExpression}
use Rattle.td_closures.proofs.Complete.{and_right}
use Rattle.td_closures.proofs.Fewest.{has_words, no_deeper, canonical_of_bare}

-- WHAT A TOKEN MAY BE, where there are so many registers
abbrev pub is_token : Scope → ℕ → Token → Bool
is_token scope n (tokens.Number (pos m)) = nat_lt m (2 ^ 64)
is_token scope n (tokens.Number (negsuc m)) = false
is_token scope n (tokens.Named (names.Register r)) = nat_lt r n
is_token scope n (tokens.Named x) = is_there scope x
is_token scope n (tokens.Infix o) = nat_le (operator_level o) 8
is_token scope n (tokens.Call o) = nat_lt 8 (operator_level o)
is_token scope n _ = true

abbrev pub IsToken : Scope → ℕ → Token → Type 0
IsToken scope n (tokens.New r) = r ≡ n
IsToken scope n t = is_token scope n t ≡ true

-- how many registers there are behind a token
abbrev pub behind : ℕ → Token → ℕ
behind n (tokens.New r) = if nat_lt n 8 then suc n else n
behind n _ = n

-- so many are there at first, and so many at last
abbrev pub AreTokens : Scope → ℕ → ℕ → List Token → Type 0
AreTokens scope n m [] = n ≡ m
AreTokens scope n m (t ∷ ts) = IsToken scope n t × AreTokens scope (behind n t) m ts

-- and what begins no line
abbrev is_verb : Token → Bool
is_verb (tokens.Verb v) = true
is_verb _ = false

record IsOther (scope : Scope) (n : ℕ) (t : Token) : Type 0 where
  token : IsToken scope n t
  other : is_verb t ≡ false

-- THE TOKEN OF A WORD
abbrev MaybeToken : Scope → ℕ → Option Token → Type 0
MaybeToken scope n None = ⊤
MaybeToken scope n (Some t) = IsToken scope n t

abbrev MaybeOther : Scope → ℕ → Option Token → Type 0
MaybeOther scope n None = ⊤
MaybeOther scope n (Some t) = IsOther scope n t

record HasToken (scope : Scope) (n : ℕ) (o : Option Token) : Type 0 where
  has : MaybeToken scope n o

record HasOther (scope : Scope) (n : ℕ) (o : Option Token) : Type 0 where
  has : MaybeOther scope n o

choose : {scope : Scope} {n : ℕ} {rest : Option Token} (b : Bool) (t : Token) → IsToken scope n t → HasToken scope n rest → HasToken scope n (if b then Some t else rest)
choose true t h k = record { has = h }
choose false t h k = k

choose_other : {scope : Scope} {n : ℕ} {rest : Option Token} (b : Bool) (t : Token) → IsOther scope n t → HasOther scope n rest → HasOther scope n (if b then Some t else rest)
choose_other true t h k = record { has = h }
choose_other false t h k = k

no_token : (scope : Scope) (n : ℕ) → HasToken scope n None
no_token scope n = record { has = tt }

no_other : (scope : Scope) (n : ℕ) → HasOther scope n None
no_other scope n = record { has = tt }

or_token : (scope : Scope) (n : ℕ) (a : Option Token) (t : Token) → MaybeToken scope n a → IsToken scope n t → IsToken scope n (or_else a t)
or_token scope n None t h k = k
or_token scope n (Some u) t h k = h

or_other : (scope : Scope) (n : ℕ) (a : Option Token) (t : Token) → MaybeOther scope n a → IsOther scope n t → IsOther scope n (or_else a t)
or_other scope n None t h k = k
or_other scope n (Some u) t h k = h

of_head_word : (scope : Scope) (n : ℕ) (word : List ℕ) → HasToken scope n (head_word word)
of_head_word scope n word =
    choose (bytes_eq word (codes "map")) (tokens.Kind kinds.Map) refl
    (choose (bytes_eq word (codes "group")) (tokens.Kind kinds.Group) refl
    (choose (bytes_eq word (codes "fold")) (tokens.Kind kinds.Fold) refl
    (choose (bytes_eq word (codes "let")) (tokens.Verb verbs.Let) refl
    (choose (bytes_eq word (codes "item")) (tokens.Verb verbs.Item) refl
    (choose (bytes_eq word (codes "each")) (tokens.Verb verbs.Each) refl
    (choose (bytes_eq word (codes "send")) (tokens.Verb verbs.Send) refl
    (choose (bytes_eq word (codes "keep")) (tokens.Verb verbs.Keep) refl (no_token scope n))))))))

of_plain_word : (scope : Scope) (n : ℕ) (word : List ℕ) → HasOther scope n (plain_word word)
of_plain_word scope n word =
    choose_other (bytes_eq word (codes "if")) tokens.If (record { token = refl; other = refl })
    (choose_other (bytes_eq word (codes "then")) tokens.Then (record { token = refl; other = refl })
    (choose_other (bytes_eq word (codes "else")) tokens.Else (record { token = refl; other = refl })
    (choose_other (bytes_eq word (codes "when")) tokens.When (record { token = refl; other = refl })
    (choose_other (bytes_eq word (codes "not")) (tokens.Prefix signs.Not) (record { token = refl; other = refl })
    (choose_other (bytes_eq word (codes "abs")) (tokens.Prefix signs.Absolute) (record { token = refl; other = refl })
    (choose_other (bytes_eq word (codes "min")) (tokens.Call operators.Least) (record { token = refl; other = refl })
    (choose_other (bytes_eq word (codes "max")) (tokens.Call operators.Most) (record { token = refl; other = refl }) (no_other scope n))))))))

of_test_word : (scope : Scope) (n : ℕ) (word : List ℕ) → HasOther scope n (test_word word)
of_test_word scope n word =
    choose_other (bytes_eq word (codes "or")) (tokens.Infix operators.Or) (record { token = refl; other = refl })
    (choose_other (bytes_eq word (codes "and")) (tokens.Infix operators.And) (record { token = refl; other = refl })
    (choose_other (bytes_eq word (codes "=")) (tokens.Infix operators.Equal) (record { token = refl; other = refl })
    (choose_other (bytes_eq word (codes "!=")) (tokens.Infix operators.Unequal) (record { token = refl; other = refl })
    (choose_other (bytes_eq word (codes "<")) (tokens.Infix operators.Less) (record { token = refl; other = refl })
    (choose_other (bytes_eq word (codes "<=")) (tokens.Infix operators.AtMost) (record { token = refl; other = refl })
    (choose_other (bytes_eq word (codes ">")) (tokens.Infix operators.Greater) (record { token = refl; other = refl })
    (choose_other (bytes_eq word (codes ">=")) (tokens.Infix operators.AtLeast) (record { token = refl; other = refl }) (no_other scope n))))))))

of_sum_word : (scope : Scope) (n : ℕ) (word : List ℕ) → HasOther scope n (sum_word word)
of_sum_word scope n word =
    choose_other (bytes_eq word (codes "+")) (tokens.Infix operators.Plus) (record { token = refl; other = refl })
    (choose_other (bytes_eq word (codes "-")) (tokens.Infix operators.Minus) (record { token = refl; other = refl })
    (choose_other (bytes_eq word (codes "*")) (tokens.Infix operators.Times) (record { token = refl; other = refl })
    (choose_other (bytes_eq word (codes "/")) (tokens.Infix operators.Quotient) (record { token = refl; other = refl })
    (choose_other (bytes_eq word (codes "%")) (tokens.Infix operators.Remainder) (record { token = refl; other = refl })
    (choose_other (bytes_eq word (codes "(")) tokens.Open (record { token = refl; other = refl })
    (choose_other (bytes_eq word (codes ")")) tokens.Close (record { token = refl; other = refl })
    (choose_other (bytes_eq word (codes ",")) tokens.Comma (record { token = refl; other = refl }) (no_other scope n))))))))

-- a fixed name is no register
abbrev IsFixed : Option Name → Type 0
IsFixed None = ⊤
IsFixed (Some (names.Register r)) = ⊥
IsFixed (Some x) = ⊤

record HasFixed (o : Option Name) : Type 0 where
  has : IsFixed o

fixed : {rest : Option Name} (b : Bool) (x : Name) → IsFixed (Some x) → HasFixed rest → HasFixed (if b then Some x else rest)
fixed true x h k = record { has = h }
fixed false x h k = k

no_name : HasFixed None
no_name = record { has = tt }

of_name_word : (word : List ℕ) → HasFixed (name_word word)
of_name_word word =
    fixed (bytes_eq word (codes "key")) names.Key tt
    (fixed (bytes_eq word (codes "val")) names.Val tt
    (fixed (bytes_eq word (codes "port")) names.Port tt
    (fixed (bytes_eq word (codes "a")) names.A tt
    (fixed (bytes_eq word (codes "b")) names.B tt
    (fixed (bytes_eq word (codes "before_a")) names.BeforeA tt
    (fixed (bytes_eq word (codes "before_b")) names.BeforeB tt
    (fixed (bytes_eq word (codes "known")) names.Known tt
    (fixed (bytes_eq word (codes "items")) names.Items tt
    (fixed (bytes_eq word (codes "lost")) names.Lost tt no_name)))))))))

fixed_named : (scope : Scope) (n : ℕ) (x : Name) → IsFixed (Some x) → is_token scope n (tokens.Named x) ≡ is_there scope x
fixed_named scope n (names.Register r) h = absurd h
fixed_named scope n names.Key h = refl
fixed_named scope n _ h = refl

name_by : (scope : Scope) (n : ℕ) (x : Name) (b : Bool) → IsFixed (Some x) → is_there scope x ≡ b → IsOther scope n (if b then tokens.Named x else tokens.Unknown)
name_by scope n x true h e = record { token = fixed_named scope n x h ∙ e; other = refl }
name_by scope n x false h e = record { token = refl; other = refl }

of_named : (scope : Scope) (n : ℕ) (o : Option Name) (t : Token) → IsFixed o → IsOther scope n t → IsOther scope n (named_word scope o t)
of_named scope n None t h k = k
of_named scope n (Some x) t h k = name_by scope n x (is_there scope x) h refl

-- a register that is found is there
register_by : (k r : ℕ) (registers : List (List ℕ)) (b : Bool) (rest : Option ℕ) → (rest ≡ Some r → r < k + 1 + length registers) → (if b then Some k else rest) ≡ Some r → r < k + suc (length registers)
register_by k r registers true rest ih h = let same : k ≡ r = cc in omega arith
register_by k r registers false rest ih h = let below : r < k + 1 + length registers = ih h in omega arith

found_below : (k r : ℕ) (registers : List (List ℕ)) (word : List ℕ) → register_from k registers word ≡ Some r → r < k + length registers
found_below k r [] word h = absurd (cc)
found_below k r (x ∷ xs) word h = register_by k r xs (bytes_eq x word) (register_from (k + 1) xs word) (λ e. found_below (k + 1) r xs word e) h

natural_below : (word : List ℕ) (m : ℕ) → natural_of word ≡ Some m → m < 2 ^ 64
unfolding natural_of
natural_below word m h =
    let test : ((is_numeral word && nat_lt (digits_value 10 word) (2 ^ 64)) ≡ true) × (digits_value 10 word ≡ m) = cond_some _ _ _ h in
    let small : digits_value 10 word < 2 ^ 64 = ltb-true (digits_value 10 word) (2 ^ 64) (and_right (is_numeral word) (nat_lt (digits_value 10 word) (2 ^ 64)) test.0) in
    subst (λ (x : ℕ). x < 2 ^ 64) test.1 small

new_by : (scope : Scope) (n : ℕ) (b : Bool) → IsOther scope n (if b then tokens.New n else tokens.Unknown)
new_by scope n true = record { token = refl; other = refl }
new_by scope n false = record { token = refl; other = refl }

number_by : (scope : Scope) (n : ℕ) (word : List ℕ) (o : Option ℕ) → natural_of word ≡ o → IsOther scope n (number_word scope n word o)
number_by scope n word None h = new_by scope n (scope.may_name && is_letter (slice_index word 0))
number_by scope n word (Some m) h = record { token = lt-ltb m (2 ^ 64) (natural_below word m h); other = refl }

of_register : (scope : Scope) (registers : List (List ℕ)) (word : List ℕ) (o : Option ℕ) → register_from 0 registers word ≡ o → IsOther scope (length registers) (register_word scope (length registers) word o)
of_register scope registers word None h = number_by scope (length registers) word (natural_of word) refl
of_register scope registers word (Some r) h = let below : r < 0 + length registers = found_below 0 r registers word h in record { token = lt-ltb r (length registers) (omega arith); other = refl }

-- behind the words that begin a line
abbrev later : Scope → List (List ℕ) → List ℕ → Token
later scope registers word = or_else (plain_word word) (or_else (test_word word) (or_else (sum_word word) (named_word scope (name_word word) (register_word scope (length registers) word (register_from 0 registers word)))))

of_later : (scope : Scope) (registers : List (List ℕ)) (word : List ℕ) → IsOther scope (length registers) (later scope registers word)
of_later scope registers word =
    let n : ℕ = length registers in
    let last : Token = register_word scope n word (register_from 0 registers word) in
    let named : Token = named_word scope (name_word word) last in
    or_other scope n (plain_word word) (or_else (test_word word) (or_else (sum_word word) named)) (of_plain_word scope n word).has
    (or_other scope n (test_word word) (or_else (sum_word word) named) (of_test_word scope n word).has
    (or_other scope n (sum_word word) named (of_sum_word scope n word).has
    (of_named scope n (name_word word) last (of_name_word word).has (of_register scope registers word (register_from 0 registers word) refl))))

of_word : (scope : Scope) (registers : List (List ℕ)) (word : List ℕ) → IsToken scope (length registers) (token_of scope registers word)
of_word scope registers word = or_token scope (length registers) (head_word word) (later scope registers word) (of_head_word scope (length registers) word).has (of_later scope registers word).token

-- the scope of a line is that of its first token
scope_by : (kind : Option ClosureKind) (o : Option Token) (t : Token) → is_verb t ≡ false → first_scope kind o ≡ token_scope kind (or_else o t)
scope_by kind None (tokens.Verb v) h = absurd (cc)
scope_by kind None _ h = refl
scope_by kind (Some u) t h = refl

-- THE TOKENS OF WORDS
length_by : (registers : List (List ℕ)) (word : List ℕ) (b : Bool) → length (if b then registers ++ word ∷ [] else registers) ≡ (if b then suc (length registers) else length registers)
length_by registers word true = let e : length (registers ++ word ∷ []) ≡ length registers + 1 = length-append registers (word ∷ []) in omega (arith, e)
length_by registers word false = refl

length_behind : (registers : List (List ℕ)) (word : List ℕ) (t : Token) → length (with_register registers word t) ≡ behind (length registers) t
length_behind registers word (tokens.New r) = length_by registers word (nat_lt (length registers) 8)
length_behind registers word _ = refl

pub of_words : (scope : Scope) (registers ws : List (List ℕ)) → AreTokens scope (length registers) (length (registers_after scope registers ws)) (tokens_of scope registers ws)
of_words scope registers [] = (refl, refl)
of_words scope registers (word ∷ ws) =
    let t : Token = token_of scope registers word in (
      of_word scope registers word,
      subst (λ (n : ℕ). AreTokens scope n (length (registers_after scope (with_register registers word t) ws)) (tokens_of scope (with_register registers word t) ws)) (length_behind registers word t)
          (of_words scope (with_register registers word t) ws),
    )

-- THE TOKENS OF A LINE
pub record IsInLine (d : Draft) (line : List ℕ) : Type 0 where
  pub scope : Scope
  pub tokens_are : AreTokens scope (length d.registers) (length (registers_in d line)) (tokens_in d line)
  pub scope_is : (verb : Verb) (after : List Token) → tokens_in d line ≡ tokens.Verb verb ∷ after → scope ≡ verb_scope (kind_of d) verb

first_token : (scope : Scope) (kind : Option ClosureKind) (registers ws : List (List ℕ)) (verb : Verb) (after : List Token) → scope ≡ scope_of kind ws → tokens_of scope registers ws ≡ tokens.Verb verb ∷ after → scope ≡ verb_scope kind verb
first_token scope kind registers [] verb after s h = absurd (cc)
first_token scope kind registers (word ∷ ws) verb after s h =
    let t : token_of scope registers word ≡ tokens.Verb verb = cc in
    s ∙ (scope_by kind (head_word word) (later scope registers word) (of_later scope registers word).other ∙ ap (token_scope kind) t)

pub in_line : (d : Draft) (line : List ℕ) → IsInLine d line
unfolding tokens_in registers_in
in_line d line =
    let ws : List (List ℕ) = words (spaced line) in
    record {
      scope = scope_of (kind_of d) ws;
      tokens_are = of_words (scope_of (kind_of d) ws) d.registers ws;
      scope_is = λ verb after h. first_token (scope_of (kind_of d) ws) (kind_of d) d.registers ws verb after refl h;
    }

-- AN EXPRESSION AMONG THEM
record IsPhraseAt (scope : Scope) (n m : ℕ) (p : Phrase) (rest : List Token) : Type 0 where
  named : is_named scope n p ≡ true
  words : has_words p ≡ true
  others : AreTokens scope n m rest

both : (a b : Bool) → a ≡ true → b ≡ true → (a && b) ≡ true
both a b h k = rw (h, k) refl

three : (a b c : Bool) → a ≡ true → b ≡ true → c ≡ true → (a && (b && c)) ≡ true
three a b c h k l = rw (h, k, l) refl

behind_sign : (scope : Scope) (n m : ℕ) (s : Sign) (ts : List Token) → AreTokens scope n m (sign_token s ∷ ts) → AreTokens scope n m ts
behind_sign scope n m signs.Not ts h = h.1
behind_sign scope n m signs.Negative ts h = h.1
behind_sign scope n m signs.Absolute ts h = h.1

phrase_at : (scope : Scope) (n m : ℕ) (p : Phrase) (rest : List Token) → AreTokens scope n m (written p ++ rest) → IsPhraseAt scope n m p rest
phrase_at scope n m (number (pos k)) rest h = record { named = h.0; words = refl; others = h.1 }
phrase_at scope n m (number (negsuc k)) rest h = let no = h.0 in absurd (cc)
phrase_at scope n m (name (names.Register r)) rest h = record { named = h.0; words = refl; others = h.1 }
phrase_at scope n m (name _) rest h = record { named = h.0; words = refl; others = h.1 }
phrase_at scope n m (parens p) rest h =
    let x : IsPhraseAt scope n m p (tokens.Close ∷ rest) = phrase_at scope n m p (tokens.Close ∷ rest) (subst (AreTokens scope n m) (append_assoc (written p) (tokens.Close ∷ []) rest) h.1) in
    record { named = x.named; words = x.words; others = x.others.1 }
phrase_at scope n m (prefix s p) rest h =
    let x : IsPhraseAt scope n m p rest = phrase_at scope n m p rest (behind_sign scope n m s (written p ++ rest) h) in
    record { named = x.named; words = x.words; others = x.others }
phrase_at scope n m (infix' o p q) rest h =
    let x : IsPhraseAt scope n m p (tokens.Infix o ∷ (written q ++ rest)) = phrase_at scope n m p (tokens.Infix o ∷ (written q ++ rest)) (subst (AreTokens scope n m) (append_assoc (written p) (tokens.Infix o ∷ written q) rest) h) in
    let y : IsPhraseAt scope n m q rest = phrase_at scope n m q rest x.others.1 in
    record {
      named = both (is_named scope n p) (is_named scope n q) x.named y.named;
      words = three (nat_le (operator_level o) 8) (has_words p) (has_words q) x.others.0 x.words y.words;
      others = y.others;
    }
phrase_at scope n m (call o p q) rest h =
    let text : (written p ++ tokens.Comma ∷ (written q ++ tokens.Close ∷ [])) ++ rest ≡ written p ++ tokens.Comma ∷ (written q ++ tokens.Close ∷ rest) = simp append_assoc in
    let x : IsPhraseAt scope n m p (tokens.Comma ∷ (written q ++ tokens.Close ∷ rest)) = phrase_at scope n m p (tokens.Comma ∷ (written q ++ tokens.Close ∷ rest)) (subst (AreTokens scope n m) text h.1.1) in
    let y : IsPhraseAt scope n m q (tokens.Close ∷ rest) = phrase_at scope n m q (tokens.Close ∷ rest) x.others.1 in
    record {
      named = both (is_named scope n p) (is_named scope n q) x.named y.named;
      words = three (nat_lt 8 (operator_level o)) (has_words p) (has_words q) h.0 x.words y.words;
      others = y.others.1;
    }
phrase_at scope n m (choice p q r) rest h =
    let text : (written p ++ tokens.Then ∷ (written q ++ tokens.Else ∷ written r)) ++ rest ≡ written p ++ tokens.Then ∷ (written q ++ tokens.Else ∷ (written r ++ rest)) = simp append_assoc in
    let x : IsPhraseAt scope n m p (tokens.Then ∷ (written q ++ tokens.Else ∷ (written r ++ rest))) = phrase_at scope n m p (tokens.Then ∷ (written q ++ tokens.Else ∷ (written r ++ rest))) (subst (AreTokens scope n m) text h.1) in
    let y : IsPhraseAt scope n m q (tokens.Else ∷ (written r ++ rest)) = phrase_at scope n m q (tokens.Else ∷ (written r ++ rest)) x.others.1 in
    let z : IsPhraseAt scope n m r rest = phrase_at scope n m r rest y.others.1 in
    record {
      named = three (is_named scope n p) (is_named scope n q) (is_named scope n r) x.named y.named z.named;
      words = three (has_words p) (has_words q) (has_words r) x.words y.words z.words;
      others = z.others;
    }

-- the names of a phrase are those of its expression
bare_named : (scope : Scope) (n : ℕ) (p : Phrase) → is_named scope n (bare p) ≡ is_named scope n p
bare_named scope n (number m) = refl
bare_named scope n (name x) = refl
bare_named scope n (parens p) = bare_named scope n p
bare_named scope n (prefix s p) = bare_named scope n p
bare_named scope n (infix' o p q) = let a = bare_named scope n p in let b = bare_named scope n q in λ i. a i && b i
bare_named scope n (call o p q) = let a = bare_named scope n p in let b = bare_named scope n q in λ i. a i && b i
bare_named scope n (choice p q r) = let a = bare_named scope n p in let b = bare_named scope n q in let c = bare_named scope n r in λ i. a i && (b i && c i)

bare_again : (p : Phrase) → bare (bare p) ≡ bare p
bare_again (number m) = refl
bare_again (name x) = refl
bare_again (parens p) = bare_again p
bare_again (prefix s p) = ap (prefix s) (bare_again p)
bare_again (infix' o p q) = let a = bare_again p in let b = bare_again q in λ i. infix' o (a i) (b i)
bare_again (call o p q) = let a = bare_again p in let b = bare_again q in λ i. infix' o (a i) (b i)
bare_again (choice p q r) = let a = bare_again p in let b = bare_again q in let c = bare_again r in λ i. choice (a i) (b i) (c i)

-- HOW MANY NUMBERS, NAMES AND OPERATORS an expression has
pub nodes_append : (ts us : List Token) → nodes_in (ts ++ us) ≡ nodes_in ts + nodes_in us
nodes_append ts us = sum_by-append (λ t. cond (is_node t) 1 0) ts us

nodes_placed : (p : Phrase) (b : Bool) → nodes_in (written (if b then parens p else p)) ≡ nodes_in (written p)
nodes_placed p true = let a : nodes_in (written p ++ tokens.Close ∷ []) ≡ nodes_in (written p) + nodes_in (tokens.Close ∷ []) = nodes_append (written p) (tokens.Close ∷ []) in omega (arith, a)
nodes_placed p false = refl

nodes_sign : (s : Sign) (ts : List Token) → nodes_in (sign_token s ∷ ts) ≡ 1 + nodes_in ts
nodes_sign signs.Not ts = nodes_append (sign_token signs.Not ∷ []) ts
nodes_sign signs.Negative ts = nodes_append (sign_token signs.Negative ∷ []) ts
nodes_sign signs.Absolute ts = nodes_append (sign_token signs.Absolute ∷ []) ts

nodes_infix : (o : Operator) (p q : Phrase) → nodes_in (written (infix' o p q)) ≡ nodes_in (written p) + nodes_in (written q) + 1
nodes_infix o p q = let a : nodes_in (written p ++ tokens.Infix o ∷ written q) ≡ nodes_in (written p) + nodes_in (tokens.Infix o ∷ written q) = nodes_append (written p) (tokens.Infix o ∷ written q) in
    let b : nodes_in (tokens.Infix o ∷ written q) ≡ 1 + nodes_in (written q) = nodes_append (tokens.Infix o ∷ []) (written q) in
    omega (arith, a, b)

nodes_call : (o : Operator) (p q : Phrase) → nodes_in (written (call o p q)) ≡ nodes_in (written p) + nodes_in (written q) + 1
nodes_call o p q =
    let a : nodes_in (written p ++ tokens.Comma ∷ (written q ++ tokens.Close ∷ [])) ≡ nodes_in (written p) + nodes_in (tokens.Comma ∷ (written q ++ tokens.Close ∷ [])) = nodes_append (written p) (tokens.Comma ∷ (written q ++ tokens.Close ∷ [])) in
    let b : nodes_in (written q ++ tokens.Close ∷ []) ≡ nodes_in (written q) + nodes_in (tokens.Close ∷ []) = nodes_append (written q) (tokens.Close ∷ []) in
    let c : nodes_in (written (call o p q)) ≡ 1 + nodes_in (written p ++ tokens.Comma ∷ (written q ++ tokens.Close ∷ [])) = nodes_append (tokens.Call o ∷ []) (tokens.Open ∷ (written p ++ tokens.Comma ∷ (written q ++ tokens.Close ∷ []))) in
    omega (arith, a, b, c)

nodes_choice : (p q r : Phrase) → nodes_in (written (choice p q r)) ≡ nodes_in (written p) + nodes_in (written q) + nodes_in (written r) + 1
nodes_choice p q r =
    let a : nodes_in (written p ++ tokens.Then ∷ (written q ++ tokens.Else ∷ written r)) ≡ nodes_in (written p) + nodes_in (tokens.Then ∷ (written q ++ tokens.Else ∷ written r)) = nodes_append (written p) (tokens.Then ∷ (written q ++ tokens.Else ∷ written r)) in
    let b : nodes_in (written q ++ tokens.Else ∷ written r) ≡ nodes_in (written q) + nodes_in (tokens.Else ∷ written r) = nodes_append (written q) (tokens.Else ∷ written r) in
    let c : nodes_in (written (choice p q r)) ≡ 1 + nodes_in (written p ++ tokens.Then ∷ (written q ++ tokens.Else ∷ written r)) = nodes_append (tokens.If ∷ []) (written p ++ tokens.Then ∷ (written q ++ tokens.Else ∷ written r)) in
    omega (arith, a, b, c)

nodes_joined : (o : Operator) (c d p q : Phrase) (b : Bool) → nodes_in (written c) ≡ nodes_in (written p) → nodes_in (written d) ≡ nodes_in (written q)
    → nodes_in (written (if b then infix' o (placed (operator_level o) c) (placed (suc (operator_level o)) d) else call o c d)) ≡ nodes_in (written p) + nodes_in (written q) + 1
nodes_joined o c d p q true h k =
    let x : nodes_in (written (placed (operator_level o) c)) ≡ nodes_in (written c) = nodes_placed c (nat_lt (level c) (operator_level o)) in
    let y : nodes_in (written (placed (suc (operator_level o)) d)) ≡ nodes_in (written d) = nodes_placed d (nat_lt (level d) (suc (operator_level o))) in
    omega (arith, x, y, h, k, nodes_infix o (placed (operator_level o) c) (placed (suc (operator_level o)) d))
nodes_joined o c d p q false h k = omega (arith, h, k, nodes_call o c d)

canonical_nodes : (p : Phrase) → nodes_in (written (canonical p)) ≡ nodes_in (written p)
canonical_nodes (number n) = refl
canonical_nodes (name x) = refl
canonical_nodes (parens p) = let a : nodes_in (written (parens p)) ≡ nodes_in (written p) = nodes_placed p true in canonical_nodes p ∙ sym a
canonical_nodes (prefix s p) =
    let x : nodes_in (written (placed (sign_level s) (canonical p))) ≡ nodes_in (written (canonical p)) = nodes_placed (canonical p) (nat_lt (level (canonical p)) (sign_level s)) in
    omega (arith, x, canonical_nodes p, nodes_sign s (written (placed (sign_level s) (canonical p))), nodes_sign s (written p))
canonical_nodes (infix' o p q) = omega (arith, nodes_joined o (canonical p) (canonical q) p q (nat_le (operator_level o) 8) (canonical_nodes p) (canonical_nodes q), nodes_infix o p q)
canonical_nodes (call o p q) = omega (arith, nodes_joined o (canonical p) (canonical q) p q (nat_le (operator_level o) 8) (canonical_nodes p) (canonical_nodes q), nodes_call o p q)
canonical_nodes (choice p q r) = omega (arith, nodes_choice (canonical p) (canonical q) (canonical r), nodes_choice p q r, canonical_nodes p, canonical_nodes q, canonical_nodes r)

pub record IsReadAt (scope : Scope) (n m : ℕ) (e : Phrase) (ts rest : List Token) : Type 0 where
  pub expression : IsExpression scope n e
  pub others : AreTokens scope n m rest
  pub nodes : nodes_in ts ≡ nodes_in (written (canonical e)) + nodes_in rest

pub read_at : (scope : Scope) (n m : ℕ) (ts : List Token) (e : Phrase) (rest : List Token) → AreTokens scope n m ts → IsRead ts e rest → IsReadAt scope n m e ts rest
read_at scope n m ts e rest h r =
    let p : Phrase = r.spelled.phrase in
    let splits : ts ≡ written p ++ rest = r.splits ∙ ap (λ (x : List Token). x ++ rest) (sym r.spelled.tokens_are) in
    let x : IsPhraseAt scope n m p rest = phrase_at scope n m p rest (subst (AreTokens scope n m) splits h) in
    let flat : nested (canonical (bare p)) ≤ nested p = no_deeper p r.spelled.formed x.words in
    let of_bare : IsExpression scope n (bare p) = record { tree = bare_again p; named = bare_named scope n p ∙ x.named; shallow = omega (arith, flat, r.spelled.shallow) } in
    let same : nodes_in (written (canonical (bare p))) ≡ nodes_in (written p) = ap (λ (q : Phrase). nodes_in (written q)) (canonical_of_bare p) ∙ canonical_nodes p in
    let of_tree : nodes_in (written (canonical e)) ≡ nodes_in (written p) = ap (λ (q : Phrase). nodes_in (written (canonical q))) (sym r.spelled.tree_is) ∙ same in
    let parts : nodes_in ts ≡ nodes_in (written p) + nodes_in rest = ap nodes_in splits ∙ nodes_append (written p) rest in
    record { expression = subst (IsExpression scope n) r.spelled.tree_is of_bare; others = x.others; nodes = omega (arith, of_tree, parts) }
