-- What the grammar says is read.
use Rattle.std.specs.Prelude.{◌≡◌, ◌≤◌, ◌<◌, ℕ, ◌+◌, Bool, true, false, ◌&&◌, nat_lt, nat_le, if◌then◌else◌, List, [], ◌∷◌, ◌++◌}
use Rattle.std.proofs.Common.{refl, ap, ◌∙◌, arith, append_assoc}
use Rattle.std.proofs.lemmas.Bool.{le-leb, lt-ltb, leb-true, ltb-true, lt-leb}
use Rattle.td_formula.specs.declared.expression.Sign.{Sign}
use Rattle.td_formula.specs.declared.expression.Sign.TheVariants as signs
use Rattle.td_formula.specs.declared.expression.Operator.{Operator}
use Rattle.td_formula.specs.declared.expression.Operator.TheVariants as operators
use Rattle.td_closures.specs.declared.token.Token.{Token}
use Rattle.td_closures.specs.declared.token.Token.TheVariants as tokens
use Rattle.td_closures.specs.declared.fault.Wrong.TheVariants as wrongs
use Rattle.td_closures.specs.Phrase.{Phrase, number, name, parens, prefix, infix', call, choice, sign_token, written, operator_level, sign_level, level, is_formed, nested, bare}
use Rattle.td_closures.specs.Machine.{Around, whole, paren, signed, left, called, first, second, test, chosen, otherwise, depth, place, Reading, wanted, there, wrong, settled, pushed, opened, with_token, run_on, run, with_infix, with_comma, with_close, with_then, with_else}

pub and_left : (a b : Bool) → (a && b) ≡ true → a ≡ true
and_left true b h = refl
and_left false b h = h

pub and_right : (a b : Bool) → (a && b) ≡ true → b ≡ true
and_right true b h = h
and_right false true h = refl
and_right false false h = h

-- a step, where an expression is wanted then, and where one is there
pub to_wanted : (r : Reading) (t : Token) (ts : List Token) (a : Around) → with_token r t ≡ wanted a → run r (t ∷ ts) ≡ run (wanted a) ts
to_wanted r t ts a e = ap (λ (x : Reading). run_on x (t ∷ ts) (λ n. run n ts)) e

pub to_there : (r : Reading) (t : Token) (ts : List Token) (a : Around) (p : Phrase) → with_token r t ≡ there a p → run r (t ∷ ts) ≡ run (there a p) ts
to_there r t ts a p e = ap (λ (x : Reading). run_on x (t ∷ ts) (λ n. run n ts)) e

pub pushed_is : (l : ℕ) (a b : Around) → place a ≤ l → depth a < 64 → pushed l a b ≡ wanted b
pushed_is l a b h d = rw (le-leb (place a) l h, lt-ltb (depth a) 64 d)

pub opened_is : (a : Around) → place a ≤ 8 → depth a < 64 → opened a ≡ wanted (paren a)
opened_is (called o a) h d = absurd (omega arith)
opened_is whole h d = pushed_is 8 whole (paren whole) h d
opened_is (paren a) h d = pushed_is 8 (paren a) (paren (paren a)) h d
opened_is (signed s a) h d = pushed_is 8 (signed s a) (paren (signed s a)) h d
opened_is (left o p a) h d = pushed_is 8 (left o p a) (paren (left o p a)) h d
opened_is (first o a) h d = pushed_is 8 (first o a) (paren (first o a)) h d
opened_is (second o p a) h d = pushed_is 8 (second o p a) (paren (second o p a)) h d
opened_is (test a) h d = pushed_is 8 (test a) (paren (test a)) h d
opened_is (chosen p a) h d = pushed_is 8 (chosen p a) (paren (chosen p a)) h d
opened_is (otherwise p q a) h d = pushed_is 8 (otherwise p q a) (paren (otherwise p q a)) h d

-- no sign binds as tight as an operator
apart_not : (o : Operator) → operator_level o ≡ 3 → ⊥
apart_not operators.Or h = omega arith
apart_not _ h = omega arith

apart_negative : (o : Operator) → operator_level o ≡ 7 → ⊥
apart_negative operators.Or h = omega arith
apart_negative _ h = omega arith

apart_absolute : (o : Operator) → operator_level o ≡ 8 → ⊥
apart_absolute operators.Or h = omega arith
apart_absolute _ h = omega arith

apart : (s : Sign) (o : Operator) → sign_level s ≤ operator_level o → sign_level s < operator_level o
apart signs.Not o h = let ne : operator_level o ≡ 3 → ⊥ = apart_not o in omega arith
apart signs.Negative o h = let ne : operator_level o ≡ 7 → ⊥ = apart_negative o in omega arith
apart signs.Absolute o h = let ne : operator_level o ≡ 8 → ⊥ = apart_absolute o in omega arith

pub some_level : (o : Operator) → 0 < operator_level o
some_level operators.Or = omega arith
some_level _ = omega arith

-- what stands there is not put together by an operator for which it is loose enough
pub stays : (o : Operator) (a : Around) (e : Phrase) → place a ≤ operator_level o → settled (operator_level o) a e ≡ (a, e)
stays o (signed s a) e h = rw (lt-leb (operator_level o) (sign_level s) (apart s o h))
stays o (left n p a) e h = rw (lt-leb (operator_level o) (operator_level n) (omega arith))
stays o (otherwise p q a) e h = rw (lt-leb (operator_level o) 0 (some_level o))
stays o whole e h = refl
stays o (paren a) e h = refl
stays o (called n a) e h = refl
stays o (first n a) e h = refl
stays o (second n p a) e h = refl
stays o (test a) e h = refl
stays o (chosen p a) e h = refl

-- a formed phrase is written with operators that stand between expressions
pub at_most : (p : Phrase) → is_formed p ≡ true → level p ≤ 8
at_most (infix' o p q) f =
    let l : operator_level o ≤ level p = leb-true (operator_level o) (level p) (and_left (nat_le (operator_level o) (level p)) (nat_lt (operator_level o) (level q) && (is_formed p && is_formed q)) f) in
    let rest = and_right (nat_le (operator_level o) (level p)) (nat_lt (operator_level o) (level q) && (is_formed p && is_formed q)) f in
    let both = and_right (nat_lt (operator_level o) (level q)) (is_formed p && is_formed q) rest in
    let below : level p ≤ 8 = at_most p (and_left (is_formed p) (is_formed q) both) in
    omega arith
at_most (prefix signs.Not p) f = omega arith
at_most (prefix signs.Negative p) f = omega arith
at_most (prefix signs.Absolute p) f = omega arith
at_most (number n) f = omega arith
at_most (name x) f = omega arith
at_most (parens p) f = omega arith
at_most (call o p q) f = omega arith
at_most (choice p q r) f = omega arith

-- A phrase is read from here on: what then stands there comes to the phrase, as soon as it is put together.
pub record Reached (a : Around) (p : Phrase) (ts : List Token) : Type 0 where
  pub inner : Around
  pub tree : Phrase
  pub runs : run (wanted a) (written p ++ ts) ≡ run (there inner tree) ts
  pub settles : (m : ℕ) → m ≤ level p → settled m inner tree ≡ settled m a (bare p)

abbrev Reads : Phrase → Type 0
Reads p = (a : Around) (ts : List Token) → is_formed p ≡ true → place a ≤ level p → depth a + nested p ≤ 64 → Reached a p ts

placed_number : (p : Phrase) (t : Token) (b : Phrase) (a : Around) (ts : List Token) → place a ≤ 8 → with_token (wanted a) t ≡ (if nat_le (place a) 8 then there a b else wrong wrongs.Syntax) → run (wanted a) (t ∷ ts) ≡ run (there a b) ts
placed_number p t b a ts h e = to_there (wanted a) t ts a b (e ∙ rw (le-leb (place a) 8 h))

sign_step : (s : Sign) (a : Around) → with_token (wanted a) (sign_token s) ≡ pushed (sign_level s) a (signed s a)
sign_step signs.Not a = refl
sign_step signs.Negative a = refl
sign_step signs.Absolute a = refl

of_parens : (p : Phrase) → Reads p → Reads (parens p)
of_parens p ih a ts f h d =
    let below : depth a < 64 = omega arith in
    let within : Reached (paren a) p (tokens.Close ∷ ts) = ih (paren a) (tokens.Close ∷ ts) f (omega arith) (omega arith) in
    let closed : with_token (there within.inner within.tree) tokens.Close ≡ there a (bare p) = ap with_close (within.settles 0 (omega arith)) in
    record {
      inner = a;
      tree = bare p;
      runs = to_wanted (wanted a) tokens.Open ((written p ++ tokens.Close ∷ []) ++ ts) (paren a) (opened_is a h below)
          ∙ (rw append_assoc (within.runs ∙ to_there (there within.inner within.tree) tokens.Close ts a (bare p) closed));
      settles = λ m l. refl;
    }

of_prefix : (s : Sign) (p : Phrase) → Reads p → Reads (prefix s p)
of_prefix s p ih a ts f h d =
    let tight : sign_level s ≤ level p = leb-true (sign_level s) (level p) (and_left (nat_le (sign_level s) (level p)) (is_formed p) f) in
    let below : depth a < 64 = omega arith in
    let within : Reached (signed s a) p ts = ih (signed s a) ts (and_right (nat_le (sign_level s) (level p)) (is_formed p) f) tight (omega arith) in
    record {
      inner = within.inner;
      tree = within.tree;
      runs = to_wanted (wanted a) (sign_token s) (written p ++ ts) (signed s a) (sign_step s a ∙ pushed_is (sign_level s) a (signed s a) h below) ∙ within.runs;
      settles = λ m l. within.settles m (omega arith) ∙ rw (le-leb m (sign_level s) l);
    }

of_infix : (o : Operator) (p q : Phrase) → Reads p → Reads q → Reads (infix' o p q)
of_infix o p q ih jh a ts f h d =
    let before : operator_level o ≤ level p = leb-true (operator_level o) (level p) (and_left (nat_le (operator_level o) (level p)) (nat_lt (operator_level o) (level q) && (is_formed p && is_formed q)) f) in
    let more = and_right (nat_le (operator_level o) (level p)) (nat_lt (operator_level o) (level q) && (is_formed p && is_formed q)) f in
    let after : operator_level o < level q = ltb-true (operator_level o) (level q) (and_left (nat_lt (operator_level o) (level q)) (is_formed p && is_formed q) more) in
    let both = and_right (nat_lt (operator_level o) (level q)) (is_formed p && is_formed q) more in
    let formed_p : is_formed p ≡ true = and_left (is_formed p) (is_formed q) both in
    let formed_q : is_formed q ≡ true = and_right (is_formed p) (is_formed q) both in
    let most : level p ≤ 8 = at_most p formed_p in
    let below : depth a < 64 = omega arith in
    let x : Reached a p (tokens.Infix o ∷ (written q ++ ts)) = ih a (tokens.Infix o ∷ (written q ++ ts)) formed_p (omega arith) (omega arith) in
    let y : Reached (left o (bare p) a) q ts = jh (left o (bare p) a) ts formed_q (omega arith) (omega arith) in
    let here : settled (operator_level o) x.inner x.tree ≡ (a, bare p) = x.settles (operator_level o) before ∙ stays o a (bare p) h in
    let joins : with_token (there x.inner x.tree) (tokens.Infix o) ≡ wanted (left o (bare p) a) =
    ap (with_infix o) here ∙ (rw (le-leb (operator_level o) 8 (omega arith)) (pushed_is (operator_level o) a (left o (bare p) a) h below)) in
    record {
      inner = y.inner;
      tree = y.tree;
      runs = rw append_assoc (x.runs ∙ (to_wanted (there x.inner x.tree) (tokens.Infix o) (written q ++ ts) (left o (bare p) a) joins ∙ y.runs));
      settles = λ m l. y.settles m (omega arith) ∙ rw (le-leb m (operator_level o) l);
    }

of_call : (o : Operator) (p q : Phrase) → Reads p → Reads q → Reads (call o p q)
of_call o p q ih jh a ts f h d =
    let below : depth a < 64 = omega arith in
    let x : Reached (first o a) p (tokens.Comma ∷ (written q ++ tokens.Close ∷ ts)) =
    ih (first o a) (tokens.Comma ∷ (written q ++ tokens.Close ∷ ts)) (and_left (is_formed p) (is_formed q) f) (omega arith) (omega arith) in
    let y : Reached (second o (bare p) a) q (tokens.Close ∷ ts) =
    jh (second o (bare p) a) (tokens.Close ∷ ts) (and_right (is_formed p) (is_formed q) f) (omega arith) (omega arith) in
    let comma : with_token (there x.inner x.tree) tokens.Comma ≡ wanted (second o (bare p) a) = ap with_comma (x.settles 0 (omega arith)) in
    let closed : with_token (there y.inner y.tree) tokens.Close ≡ there a (infix' o (bare p) (bare q)) = ap with_close (y.settles 0 (omega arith)) in
    record {
      inner = a;
      tree = infix' o (bare p) (bare q);
      runs = to_wanted (wanted a) (tokens.Call o) (tokens.Open ∷ ((written p ++ tokens.Comma ∷ (written q ++ tokens.Close ∷ [])) ++ ts)) (called o a) (pushed_is 8 a (called o a) h below)
          ∙ simp append_assoc (x.runs
          ∙ (to_wanted (there x.inner x.tree) tokens.Comma (written q ++ tokens.Close ∷ ts) (second o (bare p) a) comma
          ∙ (y.runs ∙ to_there (there y.inner y.tree) tokens.Close ts a (infix' o (bare p) (bare q)) closed)));
      settles = λ m l. refl;
    }

of_choice : (p q r : Phrase) → Reads p → Reads q → Reads r → Reads (choice p q r)
of_choice p q r ih jh kh a ts f h d =
    let below : depth a < 64 = omega arith in
    let more : (is_formed q && is_formed r) ≡ true = and_right (is_formed p) (is_formed q && is_formed r) f in
    let x : Reached (test a) p (tokens.Then ∷ (written q ++ tokens.Else ∷ (written r ++ ts))) =
    ih (test a) (tokens.Then ∷ (written q ++ tokens.Else ∷ (written r ++ ts))) (and_left (is_formed p) (is_formed q && is_formed r) f) (omega arith) (omega arith) in
    let y : Reached (chosen (bare p) a) q (tokens.Else ∷ (written r ++ ts)) =
    jh (chosen (bare p) a) (tokens.Else ∷ (written r ++ ts)) (and_left (is_formed q) (is_formed r) more) (omega arith) (omega arith) in
    let z : Reached (otherwise (bare p) (bare q) a) r ts =
    kh (otherwise (bare p) (bare q) a) ts (and_right (is_formed q) (is_formed r) more) (omega arith) (omega arith) in
    let at_then : with_token (there x.inner x.tree) tokens.Then ≡ wanted (chosen (bare p) a) = ap with_then (x.settles 0 (omega arith)) in
    let at_else : with_token (there y.inner y.tree) tokens.Else ≡ wanted (otherwise (bare p) (bare q) a) = ap with_else (y.settles 0 (omega arith)) in
    record {
      inner = z.inner;
      tree = z.tree;
      runs = to_wanted (wanted a) tokens.If ((written p ++ tokens.Then ∷ (written q ++ tokens.Else ∷ written r)) ++ ts) (test a) (pushed_is 0 a (test a) h below)
          ∙ simp append_assoc (x.runs
          ∙ (to_wanted (there x.inner x.tree) tokens.Then (written q ++ tokens.Else ∷ (written r ++ ts)) (chosen (bare p) a) at_then
          ∙ (y.runs
          ∙ (to_wanted (there y.inner y.tree) tokens.Else (written r ++ ts) (otherwise (bare p) (bare q) a) at_else ∙ z.runs))));
      settles = λ m l. z.settles m (omega arith) ∙ rw (le-leb m 0 l);
    }

pub reads : (p : Phrase) → Reads p
reads (number n) a ts f h d = record {
  inner = a;
  tree = number n;
  runs = placed_number (number n) (tokens.Number n) (number n) a ts h refl;
  settles = λ m l. refl;
}
reads (name x) a ts f h d = record {
  inner = a;
  tree = name x;
  runs = placed_number (name x) (tokens.Named x) (name x) a ts h refl;
  settles = λ m l. refl;
}
reads (parens p) a ts f h d = of_parens p (reads p) a ts f h d
reads (prefix s p) a ts f h d = of_prefix s p (reads p) a ts f h d
reads (infix' o p q) a ts f h d = of_infix o p q (reads p) (reads q) a ts f h d
reads (call o p q) a ts f h d = of_call o p q (reads p) (reads q) a ts f h d
reads (choice p q r) a ts f h d = of_choice p q r (reads p) (reads q) (reads r) a ts f h d
