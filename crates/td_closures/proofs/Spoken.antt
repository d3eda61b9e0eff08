-- The words of a canonical text, and their tokens.
use Rattle.std.specs.Prelude.{◌≡◌, ◌≤◌, ◌<◌, ◌^◌, ℕ, suc, ◌==◌, pos, negsuc, Bool, true, false, not, ◌&&◌, ◌||◌, nat_lt, nat_le, if◌then◌else◌, List, [], ◌∷◌, ◌++◌, filter, length, codes}
use Rattle.std.proofs.Common.{refl, ap, sym, ◌∙◌, arith, subst, append_assoc}
use Rattle.std.specs.List.{list_all, slice_split}
use Rattle.std.specs.Fmt.{decimal}
use Rattle.std.proofs.lemmas.List.{append-nil}
use Rattle.std.proofs.lemmas.Bool.{ltb-true, lt-ltb, le-leb, leb-true}
use Rattle.std.proofs.lemmas.Bool.Decides.{nat_tests}
use Rattle.std.proofs.lemmas.Fmt.{decimal_nonempty}
use Rattle.td_formula.specs.declared.expression.Name.{Name}
use Rattle.td_formula.specs.declared.expression.Name.TheVariants as names
use Rattle.td_formula.specs.declared.expression.Sign.{Sign}
use Rattle.td_formula.specs.declared.expression.Sign.TheVariants as signs
use Rattle.td_formula.specs.declared.expression.Operator.{Operator}
use Rattle.td_formula.specs.declared.expression.Operator.TheVariants as operators
use Rattle.td_plan.specs.Text.{words}
use Rattle.td_closures.specs.declared.token.Token.{Token}
use Rattle.td_closures.specs.declared.token.Token.TheVariants as tokens
use Rattle.td_closures.specs.declared.words.Scope.{Scope}
use Rattle.td_closures.specs.Phrase.{Phrase, number, name, parens, prefix, infix', call, choice, sign_token, written, operator_level, sign_level, level}
use Rattle.td_closures.specs.Words.{is_letter, is_of_word, is_of_test, are_joined, is_at_front, shown, spaced, token_of, with_register, tokens_of, registers_after}
use Rattle.td_closures.specs.Canonical.{placed, canonical, name_text, sign_text, operator_text, phrase_text, expression_text}
use Rattle.td_closures.specs.Spelled.{registers, is_named}
use Rattle.td_closures.proofs.Blank.{space}
use Rattle.td_closures.proofs.Complete.{and_left, and_right}
use Rattle.td_closures.proofs.Fewest.{has_words, words_canonical}
use Rattle.td_closures.proofs.Numerals.{IsDigits, decimal_digits}
use Rattle.td_closures.proofs.RegisterWords.{register_token, register_of_word, number_token}

-- A WORD OF LETTERS AND DIGITS
pub record IsOfWord (b : ℕ) : Type 0 where
  pub no_space : (b == 32) ≡ false
  pub no_comment : (b == 35) ≡ false
  pub as_shown : shown b ≡ b
  pub no_test : is_of_test b ≡ false
  pub least : 48 ≤ b
  pub most : b ≤ 122

unequal : (b c : ℕ) → (b ≡ c → ⊥) → (b == c) ≡ false
unequal b c ne = grind (arith, nat_tests)

all_three : (a b c : Bool) → a ≡ false → b ≡ false → c ≡ false → (a || (b || c)) ≡ false
all_three a b c p q r = rw (p, q, r) refl

between : (lo hi b : ℕ) → (nat_le lo b && nat_le b hi) ≡ true → (lo ≤ b) × (b ≤ hi)
between lo hi b h = (leb-true lo b (and_left (nat_le lo b) (nat_le b hi) h), leb-true b hi (and_right (nat_le lo b) (nat_le b hi) h))

from_range : (b : ℕ) → 48 ≤ b → b ≤ 122 → (b ≡ 60 → ⊥) → (b ≡ 62 → ⊥) → IsOfWord b
from_range b least most less greater = record {
  no_space = unequal b 32 (λ e. omega (arith, e));
  no_comment = unequal b 35 (λ e. omega (arith, e));
  as_shown = rw (le-leb 32 b (omega arith), le-leb b 126 (omega arith)) refl;
  no_test = all_three (b == 60) (b == 62) (b == 33) (unequal b 60 less) (unequal b 62 greater) (unequal b 33 (λ e. omega (arith, e)));
  least = least;
  most = most;
}

letter : (b : ℕ) → 65 ≤ b → b ≤ 122 → IsOfWord b
letter b l m = from_range b (omega arith) m (λ e. omega (arith, e)) (λ e. omega (arith, e))

of_digit : (b : ℕ) → (nat_le 48 b && nat_le b 57) ≡ true → IsOfWord b
of_digit b h =
    let r = between 48 57 b h in
    let least : 48 ≤ b = r.0 in
    let most : b ≤ 57 = r.1 in
    from_range b least (omega arith) (λ e. omega (arith, e)) (λ e. omega (arith, e))

of_line : (b : ℕ) (t : Bool) → (b == 95) ≡ t → t ≡ true → IsOfWord b
of_line b true e h = let same : b ≡ 95 = grind (arith, nat_tests) in letter b (omega arith) (omega arith)
of_line b false e h = absurd (cc)

of_upper : (b : ℕ) (t : Bool) → (nat_le 65 b && nat_le b 90) ≡ t → (t || (b == 95)) ≡ true → IsOfWord b
of_upper b true e h = let r = between 65 90 b e in let least : 65 ≤ b = r.0 in let most : b ≤ 90 = r.1 in letter b least (omega arith)
of_upper b false e h = of_line b (b == 95) refl h

of_lower : (b : ℕ) (t : Bool) → (nat_le 97 b && nat_le b 122) ≡ t → (t || ((nat_le 65 b && nat_le b 90) || (b == 95))) ≡ true → IsOfWord b
of_lower b true e h = let r = between 97 122 b e in let least : 97 ≤ b = r.0 in letter b (omega arith) r.1
of_lower b false e h = of_upper b (nat_le 65 b && nat_le b 90) refl h

of_letter : (b : ℕ) (t : Bool) → is_letter b ≡ t → (t || (nat_le 48 b && nat_le b 57)) ≡ true → IsOfWord b
of_letter b true e h = of_lower b (nat_le 97 b && nat_le b 122) refl e
of_letter b false e h = of_digit b h

pub of_word : (b : ℕ) → is_of_word b ≡ true → IsOfWord b
of_word b h = of_letter b (is_letter b) refl h

-- what follows does not go on with it
abbrev pub ends_word : List ℕ → Bool
ends_word rest = is_at_front (λ c. not (is_of_word c)) rest

-- what stands behind it in a line with spaces
abbrev behind : List ℕ → List ℕ
behind [] = []
behind (c ∷ cs) = 32 ∷ spaced (c ∷ cs)

goes_on : (p q r s : Bool) → p ≡ true → q ≡ true → ((p && q) || (r && s)) ≡ true
goes_on p q r s h k = rw (h, k) refl

is_not : (q : Bool) → not q ≡ true → q ≡ false
is_not true h = absurd (cc)
is_not false h = refl

ends : (p q r s : Bool) → q ≡ false → r ≡ false → ((p && q) || (r && s)) ≡ false
ends true q r s h k = rw (h, k) refl
ends false q r s h k = rw k refl

-- a character with the next one, and without
with_next : (b s : ℕ) (t j : Bool) (x y : List ℕ) → t ≡ false → s ≡ b → j ≡ true → x ≡ y → ◌≡◌ {A = List ℕ} (if t then [] else s ∷ ((if j then [] else 32 ∷ []) ++ x)) (b ∷ y)
with_next b s t j x y e f g h = rw (e, f, g, h) refl

without_next : (b s : ℕ) (t j : Bool) (x : List ℕ) → t ≡ false → s ≡ b → j ≡ false → ◌≡◌ {A = List ℕ} (if t then [] else s ∷ ((if j then [] else 32 ∷ []) ++ x)) (b ∷ 32 ∷ x)
without_next b s t j x e f g = rw (e, f, g) refl

last_of_word : (b : ℕ) (rest : List ℕ) → is_of_word b ≡ true → ends_word rest ≡ true → spaced (b ∷ rest) ≡ b ∷ behind rest
last_of_word b [] h e = let w : IsOfWord b = of_word b h in with_next b (shown b) (b == 35) true [] [] w.no_comment w.as_shown refl refl
last_of_word b (c ∷ cs) h e =
    let w : IsOfWord b = of_word b h in
    without_next b (shown b) (b == 35) (are_joined b c) (spaced (c ∷ cs)) w.no_comment w.as_shown (ends (is_of_word b) (is_of_word c) (is_of_test b) (c == 61) (is_not (is_of_word c) e) w.no_test)

spaced_word : (b : ℕ) (bs rest : List ℕ) → list_all is_of_word (b ∷ bs) ≡ true → ends_word rest ≡ true → spaced ((b ∷ bs) ++ rest) ≡ (b ∷ bs) ++ behind rest
spaced_word b [] rest h e = last_of_word b rest (and_left (is_of_word b) true h) e
spaced_word b (c ∷ cs) rest h e =
    let here : is_of_word b ≡ true = and_left (is_of_word b) (list_all is_of_word (c ∷ cs)) h in
    let more : list_all is_of_word (c ∷ cs) ≡ true = and_right (is_of_word b) (list_all is_of_word (c ∷ cs)) h in
    let next : is_of_word c ≡ true = and_left (is_of_word c) (list_all is_of_word cs) more in
    let w : IsOfWord b = of_word b here in
    with_next b (shown b) (b == 35) (are_joined b c) (spaced ((c ∷ cs) ++ rest)) ((c ∷ cs) ++ behind rest) w.no_comment w.as_shown
    (goes_on (is_of_word b) (is_of_word c) (is_of_test b) (c == 61) here next) (spaced_word c cs rest more e)

split_at : (w ys : List ℕ) → list_all is_of_word w ≡ true → slice_split (λ b. b == 32) (w ++ 32 ∷ ys) ≡ w ∷ slice_split (λ b. b == 32) ys
split_at [] ys h = refl
split_at (x ∷ xs) ys h = rw ((of_word x (and_left (is_of_word x) (list_all is_of_word xs) h)).no_space, split_at xs ys (and_right (is_of_word x) (list_all is_of_word xs) h)) refl

split_only : (w : List ℕ) → list_all is_of_word w ≡ true → slice_split (λ b. b == 32) w ≡ w ∷ []
split_only [] h = refl
split_only (x ∷ xs) h = rw ((of_word x (and_left (is_of_word x) (list_all is_of_word xs) h)).no_space, split_only xs (and_right (is_of_word x) (list_all is_of_word xs) h)) refl

first_word : (line w : List ℕ) (parts : List (List ℕ)) → 0 < length w → slice_split (λ b. b == 32) line ≡ w ∷ parts → words line ≡ w ∷ filter (λ v. nat_lt 0 (length v)) parts
first_word line w parts some e = ap (filter (λ v. nat_lt 0 (length v))) e ∙ rw (lt-ltb 0 (length w) some) refl

words_behind : (b : ℕ) (bs rest : List ℕ) → list_all is_of_word (b ∷ bs) ≡ true → words ((b ∷ bs) ++ behind rest) ≡ (b ∷ bs) ∷ words (spaced rest)
words_behind b bs [] h = ap words (append-nil (b ∷ bs)) ∙ first_word (b ∷ bs) (b ∷ bs) [] (omega arith) (split_only (b ∷ bs) h)
words_behind b bs (c ∷ cs) h = first_word ((b ∷ bs) ++ 32 ∷ spaced (c ∷ cs)) (b ∷ bs) (slice_split (λ x. x == 32) (spaced (c ∷ cs))) (omega arith) (split_at (b ∷ bs) (spaced (c ∷ cs)) h)

pub word_cut : (w rest : List ℕ) → list_all is_of_word w ≡ true → 0 < length w → ends_word rest ≡ true → words (spaced (w ++ rest)) ≡ w ∷ words (spaced rest)
word_cut [] rest h some e = absurd (omega arith)
word_cut (b ∷ bs) rest h some e = ap words (spaced_word b bs rest h e) ∙ words_behind b bs rest h

-- SYMBOLS
minus_cut : (rest : List ℕ) → words (spaced (45 ∷ rest)) ≡ codes "-" ∷ words (spaced rest)
minus_cut [] = refl
minus_cut (c ∷ cs) = refl

open_cut : (rest : List ℕ) → words (spaced (40 ∷ rest)) ≡ codes "(" ∷ words (spaced rest)
open_cut [] = refl
open_cut (c ∷ cs) = refl

close_cut : (rest : List ℕ) → words (spaced (41 ∷ rest)) ≡ codes ")" ∷ words (spaced rest)
close_cut [] = refl
close_cut (c ∷ cs) = refl

operator_cut : (o : Operator) (rest : List ℕ) → words (spaced (operator_text o ++ 32 ∷ rest)) ≡ operator_text o ∷ words (spaced (32 ∷ rest))
operator_cut operators.Or rest = refl
operator_cut _ rest = refl

-- WHAT A TEXT SAYS up to a rest of it: these tokens, and no new register
pub record Says (scope : Scope) (regs : List (List ℕ)) (text : List ℕ) (ts : List Token) (rest : List ℕ) : Type 0 where
  pub tokens_are : tokens_of scope regs (words (spaced text)) ≡ ts ++ tokens_of scope regs (words (spaced rest))
  pub registers_are : registers_after scope regs (words (spaced text)) ≡ registers_after scope regs (words (spaced rest))

abbrev is_new : Token → Bool
is_new (tokens.New n) = true
is_new _ = false

no_register : (regs : List (List ℕ)) (w : List ℕ) (t : Token) → is_new t ≡ false → with_register regs w t ≡ regs
no_register regs w (tokens.New n) h = absurd (cc)
no_register regs w _ h = refl

pub says_word : (scope : Scope) (regs : List (List ℕ)) (text w : List ℕ) (t : Token) (rest : List ℕ) → words (spaced text) ≡ w ∷ words (spaced rest) → token_of scope regs w ≡ t → is_new t ≡ false
    → Says scope regs text (t ∷ []) rest
says_word scope regs text w t rest cut token old = record {
  tokens_are = ap (tokens_of scope regs) cut ∙ (ap (λ (x : Token). x ∷ tokens_of scope (with_register regs w x) (words (spaced rest))) token ∙ ap (λ (r : List (List ℕ)). t ∷ tokens_of scope r (words (spaced rest))) (no_register regs w t old));
  registers_are = ap (registers_after scope regs) cut ∙ (ap (λ (x : Token). registers_after scope (with_register regs w x) (words (spaced rest))) token ∙ ap (λ (r : List (List ℕ)). registers_after scope r (words (spaced rest))) (no_register regs w t old));
}

pub says_space : (scope : Scope) (regs : List (List ℕ)) (rest : List ℕ) → Says scope regs (32 ∷ rest) [] rest
says_space scope regs rest = record { tokens_are = ap (tokens_of scope regs) (space rest); registers_are = ap (registers_after scope regs) (space rest) }

pub says_then : {scope : Scope} {regs : List (List ℕ)} {text middle rest : List ℕ} {ts us : List Token} → Says scope regs text ts middle → Says scope regs middle us rest → Says scope regs text (ts ++ us) rest
says_then {scope} {regs} {text} {middle} {rest} {ts} {us} s t = record {
  tokens_are = s.tokens_are ∙ (ap (λ (x : List Token). ts ++ x) t.tokens_are ∙ sym (append_assoc ts us (tokens_of scope regs (words (spaced rest)))));
  registers_are = s.registers_are ∙ t.registers_are;
}

-- NAMES AND NUMBERS that are there
pub says_name : (scope : Scope) (n : ℕ) (x : Name) (rest : List ℕ) → n ≤ 8 → is_named scope n (name x) ≡ true → ends_word rest ≡ true → Says scope (registers n) (name_text x ++ rest) (tokens.Named x ∷ []) rest
says_name scope n (names.Register r) rest small h e =
    let there : r < n = ltb-true r n h in
    says_word scope (registers n) (name_text (names.Register r) ++ rest) (name_text (names.Register r)) (tokens.Named (names.Register r)) rest
    (word_cut (name_text (names.Register r)) rest (register_of_word r (omega arith)) (omega arith) e) (register_token scope n r small there) refl
says_name scope n names.Key rest small h e = says_word scope (registers n) (name_text names.Key ++ rest) (name_text names.Key) (tokens.Named names.Key) rest (word_cut (name_text names.Key) rest refl (omega arith) e) refl refl
says_name scope n names.Val rest small h e = says_word scope (registers n) (name_text names.Val ++ rest) (name_text names.Val) (tokens.Named names.Val) rest (word_cut (name_text names.Val) rest refl (omega arith) e) refl refl
says_name scope n names.Port rest small h e = says_word scope (registers n) (name_text names.Port ++ rest) (name_text names.Port) (tokens.Named names.Port) rest (word_cut (name_text names.Port) rest refl (omega arith) e) refl refl
says_name scope n x rest small h e = says_word scope (registers n) (name_text x ++ rest) (name_text x) (tokens.Named x) rest (word_cut (name_text x) rest refl (omega arith) e) (rw h refl) refl

pub says_number : (scope : Scope) (n m : ℕ) (rest : List ℕ) → m < 2 ^ 64 → ends_word rest ≡ true → Says scope (registers n) (decimal m ++ rest) (tokens.Number (pos m) ∷ []) rest
says_number scope n m rest small e =
    let w : IsDigits (decimal m) = decimal_digits m small in
    says_word scope (registers n) (decimal m ++ rest) (decimal m) (tokens.Number (pos m)) rest (word_cut (decimal m) rest w.of_word (decimal_nonempty m small) e) (number_token scope n m small) refl

-- OPERATORS AND WORDS between expressions
operator_token : (scope : Scope) (regs : List (List ℕ)) (o : Operator) → nat_le (operator_level o) 8 ≡ true → token_of scope regs (operator_text o) ≡ tokens.Infix o
operator_token scope regs operators.Least h = absurd (cc)
operator_token scope regs operators.Most h = absurd (cc)
operator_token scope regs _ h = refl

pub says_operator : (scope : Scope) (regs : List (List ℕ)) (o : Operator) (rest : List ℕ) → nat_le (operator_level o) 8 ≡ true → Says scope regs (codes " " ++ (operator_text o ++ (codes " " ++ rest))) (tokens.Infix o ∷ []) rest
says_operator scope regs o rest h =
    says_then (says_space scope regs (operator_text o ++ 32 ∷ rest))
    (says_then (says_word scope regs (operator_text o ++ 32 ∷ rest) (operator_text o) (tokens.Infix o) (32 ∷ rest) (operator_cut o rest) (operator_token scope regs o h) refl) (says_space scope regs rest))

says_call : (scope : Scope) (regs : List (List ℕ)) (o : Operator) (rest : List ℕ) → nat_lt 8 (operator_level o) ≡ true → Says scope regs (operator_text o ++ (codes "(" ++ rest)) (tokens.Call o ∷ tokens.Open ∷ []) rest
says_call scope regs operators.Least rest h = says_then (says_word scope regs (codes "min(" ++ rest) (codes "min") (tokens.Call operators.Least) (40 ∷ rest) refl refl refl) (says_word scope regs (40 ∷ rest) (codes "(") tokens.Open rest (open_cut rest) refl refl)
says_call scope regs operators.Most rest h = says_then (says_word scope regs (codes "max(" ++ rest) (codes "max") (tokens.Call operators.Most) (40 ∷ rest) refl refl refl) (says_word scope regs (40 ∷ rest) (codes "(") tokens.Open rest (open_cut rest) refl refl)
says_call scope regs _ rest h = absurd (cc)

pub says_comma : (scope : Scope) (regs : List (List ℕ)) (rest : List ℕ) → Says scope regs (codes ", " ++ rest) (tokens.Comma ∷ []) rest
says_comma scope regs rest = says_then (says_word scope regs (codes ", " ++ rest) (codes ",") tokens.Comma (32 ∷ rest) refl refl refl) (says_space scope regs rest)

says_sign : (scope : Scope) (regs : List (List ℕ)) (s : Sign) (rest : List ℕ) → Says scope regs (sign_text s ++ rest) (sign_token s ∷ []) rest
says_sign scope regs signs.Not rest = says_then (says_word scope regs (codes "not " ++ rest) (codes "not") (tokens.Prefix signs.Not) (32 ∷ rest) refl refl refl) (says_space scope regs rest)
says_sign scope regs signs.Negative rest = says_word scope regs (codes "-" ++ rest) (codes "-") (tokens.Infix operators.Minus) rest (minus_cut rest) refl refl
says_sign scope regs signs.Absolute rest = says_then (says_word scope regs (codes "abs " ++ rest) (codes "abs") (tokens.Prefix signs.Absolute) (32 ∷ rest) refl refl refl) (says_space scope regs rest)

says_if : (scope : Scope) (regs : List (List ℕ)) (rest : List ℕ) → Says scope regs (codes "if " ++ rest) (tokens.If ∷ []) rest
says_if scope regs rest = says_then (says_word scope regs (codes "if " ++ rest) (codes "if") tokens.If (32 ∷ rest) refl refl refl) (says_space scope regs rest)

says_then_word : (scope : Scope) (regs : List (List ℕ)) (rest : List ℕ) → Says scope regs (codes " then " ++ rest) (tokens.Then ∷ []) rest
says_then_word scope regs rest = says_then (says_word scope regs (codes " then " ++ rest) (codes "then") tokens.Then (32 ∷ rest) refl refl refl) (says_space scope regs rest)

says_else : (scope : Scope) (regs : List (List ℕ)) (rest : List ℕ) → Says scope regs (codes " else " ++ rest) (tokens.Else ∷ []) rest
says_else scope regs rest = says_then (says_word scope regs (codes " else " ++ rest) (codes "else") tokens.Else (32 ∷ rest) refl refl refl) (says_space scope regs rest)

pub says_when : (scope : Scope) (regs : List (List ℕ)) (rest : List ℕ) → Says scope regs (codes " when " ++ rest) (tokens.When ∷ []) rest
says_when scope regs rest = says_then (says_word scope regs (codes " when " ++ rest) (codes "when") tokens.When (32 ∷ rest) refl refl refl) (says_space scope regs rest)

says_close : (scope : Scope) (regs : List (List ℕ)) (rest : List ℕ) → Says scope regs (41 ∷ rest) (tokens.Close ∷ []) rest
says_close scope regs rest = says_word scope regs (41 ∷ rest) (codes ")") tokens.Close rest (close_cut rest) refl refl

-- A PHRASE is said by its text
pub says_phrase : (scope : Scope) (n : ℕ) (p : Phrase) (rest : List ℕ) → n ≤ 8 → is_named scope n p ≡ true → has_words p ≡ true → ends_word rest ≡ true → Says scope (registers n) (phrase_text p ++ rest) (written p) rest
says_phrase scope n (number (pos m)) rest small h w e = says_number scope n m rest (ltb-true m (2 ^ 64) h) e
says_phrase scope n (number (negsuc m)) rest small h w e = absurd (cc)
says_phrase scope n (name x) rest small h w e = says_name scope n x rest small h e
says_phrase scope n (parens p) rest small h w e =
    let regs = registers n in
    let text : phrase_text (parens p) ++ rest ≡ 40 ∷ (phrase_text p ++ 41 ∷ rest) = ap (λ (x : List ℕ). 40 ∷ x) (append_assoc (phrase_text p) (41 ∷ []) rest) in
    subst (λ (x : List ℕ). Says scope regs x (written (parens p)) rest) (sym text)
    (says_then (says_word scope regs (40 ∷ (phrase_text p ++ 41 ∷ rest)) (codes "(") tokens.Open (phrase_text p ++ 41 ∷ rest) (open_cut (phrase_text p ++ 41 ∷ rest)) refl refl)
    (says_then (says_phrase scope n p (41 ∷ rest) small h w refl) (says_close scope regs rest)))
says_phrase scope n (prefix s p) rest small h w e =
    let regs = registers n in
    subst (λ (x : List ℕ). Says scope regs x (written (prefix s p)) rest) (sym (append_assoc (sign_text s) (phrase_text p) rest))
    (says_then (says_sign scope regs s (phrase_text p ++ rest)) (says_phrase scope n p rest small h w e))
says_phrase scope n (infix' o p q) rest small h w e =
    let regs = registers n in
    let more = and_right (nat_le (operator_level o) 8) (has_words p && has_words q) w in
    let text : phrase_text (infix' o p q) ++ rest ≡ phrase_text p ++ (codes " " ++ (operator_text o ++ (codes " " ++ (phrase_text q ++ rest)))) = simp append_assoc in
    subst (λ (x : List ℕ). Says scope regs x (written (infix' o p q)) rest) (sym text)
    (says_then (says_phrase scope n p (codes " " ++ (operator_text o ++ (codes " " ++ (phrase_text q ++ rest)))) small (and_left (is_named scope n p) (is_named scope n q) h) (and_left (has_words p) (has_words q) more) refl)
    (says_then (says_operator scope regs o (phrase_text q ++ rest) (and_left (nat_le (operator_level o) 8) (has_words p && has_words q) w))
    (says_phrase scope n q rest small (and_right (is_named scope n p) (is_named scope n q) h) (and_right (has_words p) (has_words q) more) e)))
says_phrase scope n (call o p q) rest small h w e =
    let regs = registers n in
    let more = and_right (nat_lt 8 (operator_level o)) (has_words p && has_words q) w in
    let text : phrase_text (call o p q) ++ rest ≡ operator_text o ++ (codes "(" ++ (phrase_text p ++ (codes ", " ++ (phrase_text q ++ 41 ∷ rest)))) = simp append_assoc in
    subst (λ (x : List ℕ). Says scope regs x (written (call o p q)) rest) (sym text)
    (says_then (says_call scope regs o (phrase_text p ++ (codes ", " ++ (phrase_text q ++ 41 ∷ rest))) (and_left (nat_lt 8 (operator_level o)) (has_words p && has_words q) w))
    (says_then (says_phrase scope n p (codes ", " ++ (phrase_text q ++ 41 ∷ rest)) small (and_left (is_named scope n p) (is_named scope n q) h) (and_left (has_words p) (has_words q) more) refl)
    (says_then (says_comma scope regs (phrase_text q ++ 41 ∷ rest))
    (says_then (says_phrase scope n q (41 ∷ rest) small (and_right (is_named scope n p) (is_named scope n q) h) (and_right (has_words p) (has_words q) more) refl) (says_close scope regs rest)))))
says_phrase scope n (choice p q r) rest small h w e =
    let regs = registers n in
    let named = and_right (is_named scope n p) (is_named scope n q && is_named scope n r) h in
    let more = and_right (has_words p) (has_words q && has_words r) w in
    let text : phrase_text (choice p q r) ++ rest ≡ codes "if " ++ (phrase_text p ++ (codes " then " ++ (phrase_text q ++ (codes " else " ++ (phrase_text r ++ rest))))) = simp append_assoc in
    subst (λ (x : List ℕ). Says scope regs x (written (choice p q r)) rest) (sym text)
    (says_then (says_if scope regs (phrase_text p ++ (codes " then " ++ (phrase_text q ++ (codes " else " ++ (phrase_text r ++ rest))))))
    (says_then (says_phrase scope n p (codes " then " ++ (phrase_text q ++ (codes " else " ++ (phrase_text r ++ rest)))) small (and_left (is_named scope n p) (is_named scope n q && is_named scope n r) h) (and_left (has_words p) (has_words q && has_words r) w) refl)
    (says_then (says_then_word scope regs (phrase_text q ++ (codes " else " ++ (phrase_text r ++ rest))))
    (says_then (says_phrase scope n q (codes " else " ++ (phrase_text r ++ rest)) small (and_left (is_named scope n q) (is_named scope n r) named) (and_left (has_words q) (has_words r) more) refl)
    (says_then (says_else scope regs (phrase_text r ++ rest))
    (says_phrase scope n r rest small (and_right (is_named scope n q) (is_named scope n r) named) (and_right (has_words q) (has_words r) more) e))))))

-- the canonical phrase of an expression has its names
named_by : (scope : Scope) (n : ℕ) (p : Phrase) (b : Bool) → is_named scope n (if b then parens p else p) ≡ is_named scope n p
named_by scope n p true = refl
named_by scope n p false = refl

named_placed : (scope : Scope) (n least : ℕ) (p : Phrase) (b : Bool) → is_named scope n p ≡ b → is_named scope n (placed least p) ≡ b
named_placed scope n least p b h = named_by scope n p (nat_lt (level p) least) ∙ h

named_joined : (scope : Scope) (n : ℕ) (o : Operator) (p q : Phrase) (x y c : Bool) → is_named scope n p ≡ x → is_named scope n q ≡ y
    → is_named scope n (if c then infix' o (placed (operator_level o) p) (placed (suc (operator_level o)) q) else call o p q) ≡ (x && y)
named_joined scope n o p q x y true h k = let a = named_placed scope n (operator_level o) p x h in let b = named_placed scope n (suc (operator_level o)) q y k in λ i. a i && b i
named_joined scope n o p q x y false h k = λ i. h i && k i

pub named_canonical : (scope : Scope) (n : ℕ) (e : Phrase) → is_named scope n (canonical e) ≡ is_named scope n e
named_canonical scope n (number m) = refl
named_canonical scope n (name x) = refl
named_canonical scope n (parens p) = named_canonical scope n p
named_canonical scope n (prefix s p) = named_placed scope n (sign_level s) (canonical p) (is_named scope n p) (named_canonical scope n p)
named_canonical scope n (infix' o p q) = named_joined scope n o (canonical p) (canonical q) (is_named scope n p) (is_named scope n q) (nat_le (operator_level o) 8) (named_canonical scope n p) (named_canonical scope n q)
named_canonical scope n (call o p q) = named_joined scope n o (canonical p) (canonical q) (is_named scope n p) (is_named scope n q) (nat_le (operator_level o) 8) (named_canonical scope n p) (named_canonical scope n q)
named_canonical scope n (choice p q r) = let a = named_canonical scope n p in let b = named_canonical scope n q in let c = named_canonical scope n r in λ i. a i && (b i && c i)

pub says_expression : (scope : Scope) (n : ℕ) (e : Phrase) (rest : List ℕ) → n ≤ 8 → is_named scope n e ≡ true → ends_word rest ≡ true → Says scope (registers n) (expression_text e ++ rest) (written (canonical e)) rest
says_expression scope n e rest small h ends = says_phrase scope n (canonical e) rest small (named_canonical scope n e ∙ h) (words_canonical e) ends
