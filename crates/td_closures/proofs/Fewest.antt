-- A canonical phrase is a phrase of its expression, with no more levels of nesting than any other.
use Rattle.std.specs.Prelude.{◌≡◌, ◌≤◌, ◌<◌, ℕ, suc, Bool, true, false, ◌&&◌, nat_lt, nat_le, if◌then◌else◌}
use Rattle.std.proofs.Common.{refl, ap, ◌∙◌, arith}
use Rattle.std.proofs.lemmas.Bool.Decides.{nat_tests}
use Rattle.std.proofs.lemmas.Bool.{le-leb, leb-true, ltb-true, ltb-false}
use Rattle.td_formula.specs.declared.expression.Sign.{Sign}
use Rattle.td_formula.specs.declared.expression.Sign.TheVariants as signs
use Rattle.td_formula.specs.declared.expression.Operator.{Operator}
use Rattle.td_formula.specs.declared.expression.Operator.TheVariants as operators
use Rattle.td_closures.specs.Phrase.{Phrase, number, name, parens, prefix, infix', call, choice, written, operator_level, sign_level, level, is_formed, nested, bare, Spells}
use Rattle.td_closures.specs.Canonical.{placed, joined, canonical}
use Rattle.td_closures.proofs.Complete.{and_left, and_right, at_most}

-- LEVELS
sign_small : (s : Sign) → sign_level s ≤ 8
sign_small signs.Not = omega arith
sign_small signs.Negative = omega arith
sign_small signs.Absolute = omega arith

placed_by : (p : Phrase) (least : ℕ) (b : Bool) → least ≤ 8 → nat_lt (level p) least ≡ b → nat_le least (level (if b then parens p else p)) ≡ true
placed_by p least true small e = le-leb least 8 small
placed_by p least false small e = le-leb least (level p) (ltb-false (level p) least e)

pub placed_level : (p : Phrase) (least : ℕ) → least ≤ 8 → nat_le least (level (placed least p)) ≡ true
placed_level p least small = placed_by p least (nat_lt (level p) least) small refl

formed_by : (p : Phrase) (b : Bool) → is_formed p ≡ true → is_formed (if b then parens p else p) ≡ true
formed_by p true h = h
formed_by p false h = h

placed_formed : (p : Phrase) (least : ℕ) → is_formed p ≡ true → is_formed (placed least p) ≡ true
placed_formed p least h = formed_by p (nat_lt (level p) least) h

bare_by : (p q : Phrase) (b : Bool) → bare p ≡ q → bare (if b then parens p else p) ≡ q
bare_by p q true h = h
bare_by p q false h = h

placed_bare : (p q : Phrase) (least : ℕ) → bare p ≡ q → bare (placed least p) ≡ q
placed_bare p q least h = bare_by p q (nat_lt (level p) least) h

two : (a b : Bool) → a ≡ true → b ≡ true → (a && b) ≡ true
two a b p q = rw (p, q) refl

three : (a b c : Bool) → a ≡ true → b ≡ true → c ≡ true → (a && (b && c)) ≡ true
three a b c p q r = rw (p, q, r) refl

four : (a b c d : Bool) → a ≡ true → b ≡ true → c ≡ true → d ≡ true → (a && (b && (c && d))) ≡ true
four a b c d p q r s = rw (p, q, r, s) refl

infix_formed : (o : Operator) (p q : Phrase) → operator_level o < 8 → is_formed p ≡ true → is_formed q ≡ true → is_formed (infix' o (placed (operator_level o) p) (placed (suc (operator_level o)) q)) ≡ true
infix_formed o p q small f g =
    four (nat_le (operator_level o) (level (placed (operator_level o) p))) (nat_lt (operator_level o) (level (placed (suc (operator_level o)) q))) (is_formed (placed (operator_level o) p)) (is_formed (placed (suc (operator_level o)) q))
    (placed_level p (operator_level o) (omega arith)) (placed_level q (suc (operator_level o)) (omega arith)) (placed_formed p (operator_level o) f) (placed_formed q (suc (operator_level o)) g)

-- an operator between expressions binds looser than they do at their tightest
tight_by : (o : Operator) → operator_level o ≤ 8 → operator_level o < 8
tight_by operators.Or h = omega arith
tight_by _ h = omega arith

joined_by : (o : Operator) (p q : Phrase) (b : Bool) → nat_le (operator_level o) 8 ≡ b → is_formed p ≡ true → is_formed q ≡ true
    → is_formed (if b then infix' o (placed (operator_level o) p) (placed (suc (operator_level o)) q) else call o p q) ≡ true
joined_by o p q true e f g = infix_formed o p q (tight_by o (leb-true (operator_level o) 8 e)) f g
joined_by o p q false e f g = rw (f, g) refl

-- A CANONICAL PHRASE IS FORMED
pub canonical_formed : (e : Phrase) → is_formed (canonical e) ≡ true
canonical_formed (number n) = refl
canonical_formed (name x) = refl
canonical_formed (parens p) = canonical_formed p
canonical_formed (prefix s p) = two (nat_le (sign_level s) (level (placed (sign_level s) (canonical p)))) (is_formed (placed (sign_level s) (canonical p))) (placed_level (canonical p) (sign_level s) (sign_small s)) (placed_formed (canonical p) (sign_level s) (canonical_formed p))
canonical_formed (infix' o p q) = joined_by o (canonical p) (canonical q) (nat_le (operator_level o) 8) refl (canonical_formed p) (canonical_formed q)
canonical_formed (call o p q) = joined_by o (canonical p) (canonical q) (nat_le (operator_level o) 8) refl (canonical_formed p) (canonical_formed q)
canonical_formed (choice p q r) = three (is_formed (canonical p)) (is_formed (canonical q)) (is_formed (canonical r)) (canonical_formed p) (canonical_formed q) (canonical_formed r)

-- AND HAS THE SAME EXPRESSION
bare_joined : (o : Operator) (p q x y : Phrase) (b : Bool) → bare p ≡ x → bare q ≡ y → bare (if b then infix' o (placed (operator_level o) p) (placed (suc (operator_level o)) q) else call o p q) ≡ infix' o x y
bare_joined o p q x y true f g = let a : bare (placed (operator_level o) p) ≡ x = placed_bare p x (operator_level o) f in let b : bare (placed (suc (operator_level o)) q) ≡ y = placed_bare q y (suc (operator_level o)) g in λ i. infix' o (a i) (b i)
bare_joined o p q x y false f g = λ i. infix' o (f i) (g i)

pub canonical_bare : (e : Phrase) → bare (canonical e) ≡ bare e
canonical_bare (number n) = refl
canonical_bare (name x) = refl
canonical_bare (parens p) = canonical_bare p
canonical_bare (prefix s p) = ap (prefix s) (placed_bare (canonical p) (bare p) (sign_level s) (canonical_bare p))
canonical_bare (infix' o p q) = bare_joined o (canonical p) (canonical q) (bare p) (bare q) (nat_le (operator_level o) 8) (canonical_bare p) (canonical_bare q)
canonical_bare (call o p q) = bare_joined o (canonical p) (canonical q) (bare p) (bare q) (nat_le (operator_level o) 8) (canonical_bare p) (canonical_bare q)
canonical_bare (choice p q r) = let a : bare (canonical p) ≡ bare p = canonical_bare p in let b : bare (canonical q) ≡ bare q = canonical_bare q in let c : bare (canonical r) ≡ bare r = canonical_bare r in λ i. choice (a i) (b i) (c i)

-- so its tokens spell the expression, where it is not nested too deep
pub spells_again : (e : Phrase) → bare e ≡ e → nested (canonical e) ≤ 64 → Spells (written (canonical e)) e
spells_again e tree shallow = record { phrase = canonical e; tokens_are = refl; formed = canonical_formed e; shallow = shallow; tree_is = canonical_bare e ∙ tree }

-- AND IS NESTED NO DEEPER than any phrase of that expression; less deep than one in parentheses that it does not need
record IsLeast (c p : Phrase) : Type 0 where
  flat : nested c ≤ nested p
  less : level c < level p → suc (nested c) ≤ nested p

placed_least_by : (c p : Phrase) (m : ℕ) (b : Bool) → nat_lt (level c) m ≡ b → m ≤ level p → IsLeast c p → nested (if b then parens c else c) ≤ nested p
placed_least_by c p m true e h l = let low : level c < m = ltb-true (level c) m e in l.less (omega arith)
placed_least_by c p m false e h l = l.flat

placed_least : (c p : Phrase) (m : ℕ) → m ≤ level p → IsLeast c p → nested (placed m c) ≤ nested p
placed_least c p m h l = placed_least_by c p m (nat_lt (level c) m) refl h l

-- operators and calls as the words of a text have them
abbrev pub has_words : Phrase → Bool
has_words (number n) = true
has_words (name x) = true
has_words (parens p) = has_words p
has_words (prefix s p) = has_words p
has_words (infix' o p q) = nat_le (operator_level o) 8 && (has_words p && has_words q)
has_words (call o p q) = nat_lt 8 (operator_level o) && (has_words p && has_words q)
has_words (choice p q r) = has_words p && (has_words q && has_words r)

words_by : (p : Phrase) (b : Bool) → has_words p ≡ true → has_words (if b then parens p else p) ≡ true
words_by p true h = h
words_by p false h = h

large : (n : ℕ) → nat_le n 8 ≡ false → nat_lt 8 n ≡ true
large n h = grind (arith, nat_tests)

words_joined : (o : Operator) (p q : Phrase) (b : Bool) → nat_le (operator_level o) 8 ≡ b → has_words p ≡ true → has_words q ≡ true
    → has_words (if b then infix' o (placed (operator_level o) p) (placed (suc (operator_level o)) q) else call o p q) ≡ true
words_joined o p q true e f g =
    three (nat_le (operator_level o) 8) (has_words (placed (operator_level o) p)) (has_words (placed (suc (operator_level o)) q)) e
    (words_by p (nat_lt (level p) (operator_level o)) f) (words_by q (nat_lt (level q) (suc (operator_level o))) g)
words_joined o p q false e f g = three (nat_lt 8 (operator_level o)) (has_words p) (has_words q) (large (operator_level o) e) f g

pub words_canonical : (e : Phrase) → has_words (canonical e) ≡ true
words_canonical (number n) = refl
words_canonical (name x) = refl
words_canonical (parens p) = words_canonical p
words_canonical (prefix s p) = words_by (canonical p) (nat_lt (level (canonical p)) (sign_level s)) (words_canonical p)
words_canonical (infix' o p q) = words_joined o (canonical p) (canonical q) (nat_le (operator_level o) 8) refl (words_canonical p) (words_canonical q)
words_canonical (call o p q) = words_joined o (canonical p) (canonical q) (nat_le (operator_level o) 8) refl (words_canonical p) (words_canonical q)
words_canonical (choice p q r) = three (has_words (canonical p)) (has_words (canonical q)) (has_words (canonical r)) (words_canonical p) (words_canonical q) (words_canonical r)

infix_least : (o : Operator) (p q c d : Phrase) (b : Bool) → nat_le (operator_level o) 8 ≡ b → operator_level o ≤ 8 → operator_level o ≤ level p → operator_level o < level q → IsLeast c p → IsLeast d q
    → IsLeast (if b then infix' o (placed (operator_level o) c) (placed (suc (operator_level o)) d) else call o c d) (infix' o p q)
infix_least o p q c d true e small h k l m =
    let x : nested (placed (operator_level o) c) ≤ nested p = placed_least c p (operator_level o) h l in
    let y : nested (placed (suc (operator_level o)) d) ≤ nested q = placed_least d q (suc (operator_level o)) (omega arith) m in
    record { flat = omega (arith, x, y); less = λ n. absurd (omega (arith, n)) }
infix_least o p q c d false e small h k l m = let t : nat_le (operator_level o) 8 ≡ true = le-leb (operator_level o) 8 small in absurd (cc)

call_least : (o : Operator) (p q c d : Phrase) (b : Bool) → nat_le (operator_level o) 8 ≡ b → 8 < operator_level o → IsLeast c p → IsLeast d q
    → IsLeast (if b then infix' o (placed (operator_level o) c) (placed (suc (operator_level o)) d) else call o c d) (call o p q)
call_least o p q c d true e large l m = let t : operator_level o ≤ 8 = leb-true (operator_level o) 8 e in absurd (omega arith)
call_least o p q c d false e large l m = record { flat = omega (arith, l.flat, m.flat); less = λ n. absurd (omega (arith, n)) }

least : (p : Phrase) → is_formed p ≡ true → has_words p ≡ true → IsLeast (canonical p) p
least (number n) f w = record { flat = omega arith; less = λ n. absurd (omega (arith, n)) }
least (name x) f w = record { flat = omega arith; less = λ n. absurd (omega (arith, n)) }
least (parens p) f w =
    let l : IsLeast (canonical p) p = least p f w in
    record { flat = omega (arith, l.flat); less = λ n. omega (arith, l.flat) }
least (prefix s p) f w =
    let l : IsLeast (canonical p) p = least p (and_right (nat_le (sign_level s) (level p)) (is_formed p) f) w in
    let x : nested (placed (sign_level s) (canonical p)) ≤ nested p = placed_least (canonical p) p (sign_level s) (leb-true (sign_level s) (level p) (and_left (nat_le (sign_level s) (level p)) (is_formed p) f)) l in
    record { flat = omega (arith, x); less = λ n. absurd (omega (arith, n)) }
least (infix' o p q) f w =
    let before : operator_level o ≤ level p = leb-true (operator_level o) (level p) (and_left (nat_le (operator_level o) (level p)) (nat_lt (operator_level o) (level q) && (is_formed p && is_formed q)) f) in
    let more = and_right (nat_le (operator_level o) (level p)) (nat_lt (operator_level o) (level q) && (is_formed p && is_formed q)) f in
    let after : operator_level o < level q = ltb-true (operator_level o) (level q) (and_left (nat_lt (operator_level o) (level q)) (is_formed p && is_formed q) more) in
    let both = and_right (nat_lt (operator_level o) (level q)) (is_formed p && is_formed q) more in
    let formed_p : is_formed p ≡ true = and_left (is_formed p) (is_formed q) both in
    let words = and_right (nat_le (operator_level o) 8) (has_words p && has_words q) w in
    let most : level p ≤ 8 = at_most p formed_p in
    infix_least o p q (canonical p) (canonical q) (nat_le (operator_level o) 8) refl (omega arith) before after
    (least p formed_p (and_left (has_words p) (has_words q) words)) (least q (and_right (is_formed p) (is_formed q) both) (and_right (has_words p) (has_words q) words))
least (call o p q) f w =
    let words = and_right (nat_lt 8 (operator_level o)) (has_words p && has_words q) w in
    call_least o p q (canonical p) (canonical q) (nat_le (operator_level o) 8) refl (ltb-true 8 (operator_level o) (and_left (nat_lt 8 (operator_level o)) (has_words p && has_words q) w))
    (least p (and_left (is_formed p) (is_formed q) f) (and_left (has_words p) (has_words q) words)) (least q (and_right (is_formed p) (is_formed q) f) (and_right (has_words p) (has_words q) words))
least (choice p q r) f w =
    let more = and_right (is_formed p) (is_formed q && is_formed r) f in
    let words = and_right (has_words p) (has_words q && has_words r) w in
    let x : IsLeast (canonical p) p = least p (and_left (is_formed p) (is_formed q && is_formed r) f) (and_left (has_words p) (has_words q && has_words r) w) in
    let y : IsLeast (canonical q) q = least q (and_left (is_formed q) (is_formed r) more) (and_left (has_words q) (has_words r) words) in
    let z : IsLeast (canonical r) r = least r (and_right (is_formed q) (is_formed r) more) (and_right (has_words q) (has_words r) words) in
    record { flat = omega (arith, x.flat, y.flat, z.flat); less = λ n. absurd (omega (arith, n)) }

-- it is that of the bare phrase
same_joined : (o : Operator) (p q x y : Phrase) → p ≡ x → q ≡ y → joined o p q ≡ joined o x y
same_joined o p q x y f g = λ i. joined o (f i) (g i)

pub canonical_of_bare : (p : Phrase) → canonical (bare p) ≡ canonical p
canonical_of_bare (number n) = refl
canonical_of_bare (name x) = refl
canonical_of_bare (parens p) = canonical_of_bare p
canonical_of_bare (prefix s p) = ap (λ (c : Phrase). prefix s (placed (sign_level s) c)) (canonical_of_bare p)
canonical_of_bare (infix' o p q) = same_joined o (canonical (bare p)) (canonical (bare q)) (canonical p) (canonical q) (canonical_of_bare p) (canonical_of_bare q)
canonical_of_bare (call o p q) = same_joined o (canonical (bare p)) (canonical (bare q)) (canonical p) (canonical q) (canonical_of_bare p) (canonical_of_bare q)
canonical_of_bare (choice p q r) = let a : canonical (bare p) ≡ canonical p = canonical_of_bare p in let b : canonical (bare q) ≡ canonical q = canonical_of_bare q in let c : canonical (bare r) ≡ canonical r = canonical_of_bare r in λ i. choice (a i) (b i) (c i)

pub no_deeper : (p : Phrase) → is_formed p ≡ true → has_words p ≡ true → nested (canonical (bare p)) ≤ nested p
no_deeper p f w = let l : IsLeast (canonical p) p = least p f w in rw (canonical_of_bare p) l.flat
