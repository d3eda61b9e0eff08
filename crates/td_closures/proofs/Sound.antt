-- What is read is what the grammar says.
use Rattle.std.specs.Prelude.{◌≡◌, ◌≤◌, ◌<◌, ℕ, suc, ◌+◌, Bool, true, false, ◌&&◌, nat_lt, nat_le, if◌then◌else◌, List, [], ◌∷◌, ◌++◌}
use Rattle.std.proofs.Common.{refl, ap, sym, ◌∙◌, arith, append_assoc, subst}
use Rattle.std.proofs.lemmas.Bool.{le-leb, lt-ltb, leb-true, ltb-true}
use Rattle.td_formula.specs.declared.expression.Sign.{Sign}
use Rattle.td_formula.specs.declared.expression.Sign.TheVariants as signs
use Rattle.td_formula.specs.declared.expression.Operator.{Operator}
use Rattle.td_formula.specs.declared.expression.Operator.TheVariants as operators
use Rattle.td_closures.specs.declared.token.Token.{Token}
use Rattle.td_closures.specs.declared.token.Token.TheVariants as tokens
use Rattle.td_closures.specs.declared.fault.Wrong.TheVariants as wrongs
use Rattle.td_closures.specs.Phrase.{Phrase, number, name, parens, prefix, infix', call, choice, sign_token, written, operator_level, sign_level, level, is_formed, nested, bare, is_end}
use Rattle.td_closures.specs.Machine.{Around, whole, paren, signed, left, called, first, second, test, chosen, otherwise, depth, place, Reading, wanted, there, read, wrong, settled, placed, deeper, pushed, opened, minus, prefixed, begun, with_token, run_on, run, front, with_infix, gone_on, with_comma, with_close, with_then, with_else, with_end}

-- a phrase of this tree that is formed, and not too deep where so many stand before it
pub record Is (before : ℕ) (p e : Phrase) : Type 0 where
  pub tree : bare p ≡ e
  pub formed : is_formed p ≡ true
  pub shallow : before + nested p ≤ 64

-- tokens that end with these, where an expression of this level may stand
pub record Fits (a : Around) (l : ℕ) (us last : List Token) (Inner : List Token → Type 0) : Type 0 where
  pub fore : List Token
  pub is : us ≡ fore ++ last
  pub places : place a ≤ l
  pub below : depth a < 64
  pub inner : Inner fore

-- these tokens lead there
abbrev pub Stands : Around → List Token → Type 0
Stands whole us = us ≡ []
Stands (paren a) us = Fits a 8 us (tokens.Open ∷ []) (Stands a)
Stands (signed s a) us = Fits a (sign_level s) us (sign_token s ∷ []) (Stands a)
Stands (left o e a) us = (p : Phrase) × Is (depth a) p e × (operator_level o ≤ level p) × Fits a (operator_level o) us (written p ++ tokens.Infix o ∷ []) (Stands a)
Stands (called o a) us = Fits a 8 us (tokens.Call o ∷ []) (Stands a)
Stands (first o a) us = Fits a 8 us (tokens.Call o ∷ tokens.Open ∷ []) (Stands a)
Stands (second o e a) us = (p : Phrase) × Is (suc (depth a)) p e × Fits a 8 us (tokens.Call o ∷ tokens.Open ∷ (written p ++ tokens.Comma ∷ [])) (Stands a)
Stands (test a) us = Fits a 0 us (tokens.If ∷ []) (Stands a)
Stands (chosen e a) us = (p : Phrase) × Is (suc (depth a)) p e × Fits a 0 us (tokens.If ∷ (written p ++ tokens.Then ∷ [])) (Stands a)
Stands (otherwise e f a) us = (p : Phrase) × (q : Phrase) × Is (suc (depth a)) p e × Is (suc (depth a)) q f
    × Fits a 0 us (tokens.If ∷ (written p ++ tokens.Then ∷ (written q ++ tokens.Else ∷ []))) (Stands a)

-- these tokens lead there, and then write this expression
pub record Has (l : ℕ) (a : Around) (e : Phrase) (us : List Token) : Type 0 where
  pub fore : List Token
  pub phrase : Phrase
  pub is : us ≡ fore ++ written phrase
  pub what : Is (depth a) phrase e
  pub tight : l ≤ level phrase
  pub places : place a ≤ level phrase
  pub stands : Stands a fore

abbrev HasPair : ℕ → Around × Phrase → List Token → Type 0
HasPair l s us = Has l s.0 s.1 us

both : (a b : Bool) → a ≡ true → b ≡ true → (a && b) ≡ true
both true true h k = refl
both true false h k = k
both false b h k = h

choose : (b : Bool) (l : ℕ) (x y : Around × Phrase) (us : List Token) → (b ≡ true → HasPair l x us) → HasPair l y us → HasPair l (if b then x else y) us
choose true l x y us f g = f refl
choose false l x y us f g = g

of_signed : (l : ℕ) (s : Sign) (a : Around) (e : Phrase) (us : List Token) → l ≤ sign_level s → Has l (signed s a) e us → Has l a (prefix s e) us
of_signed l s a e us m h = record {
  fore = h.stands.fore;
  phrase = prefix s h.phrase;
  is = h.is ∙ (rw h.stands.is (append_assoc h.stands.fore (sign_token s ∷ []) (written h.phrase)));
  what = record {
    tree = ap (prefix s) h.what.tree;
    formed = both (nat_le (sign_level s) (level h.phrase)) (is_formed h.phrase) (le-leb (sign_level s) (level h.phrase) h.places) h.what.formed;
    shallow = omega (arith, h.what.shallow);
  };
  tight = m;
  places = h.stands.places;
  stands = h.stands.inner;
}

of_left : (l : ℕ) (o : Operator) (f : Phrase) (a : Around) (e : Phrase) (us : List Token) → l ≤ operator_level o → Has l (left o f a) e us → Has l a (infix' o f e) us
of_left l o f a e us m h =
    let p : Phrase = h.stands.0 in
    let w : Is (depth a) p f = h.stands.1 in
    let t : operator_level o ≤ level p = h.stands.2 in
    let x : Fits a (operator_level o) h.fore (written p ++ tokens.Infix o ∷ []) (Stands a) = h.stands.3 in
    record {
      fore = x.fore;
      phrase = infix' o p h.phrase;
      is = h.is ∙ (rw x.is (simp append_assoc));
      what = record {
        tree = ap (λ (z : Phrase). infix' o z (bare h.phrase)) w.tree ∙ ap (infix' o f) h.what.tree;
        formed = both (nat_le (operator_level o) (level p)) (nat_lt (operator_level o) (level h.phrase) && (is_formed p && is_formed h.phrase))
            (le-leb (operator_level o) (level p) t)
            (both (nat_lt (operator_level o) (level h.phrase)) (is_formed p && is_formed h.phrase) (lt-ltb (operator_level o) (level h.phrase) h.places)
            (both (is_formed p) (is_formed h.phrase) w.formed h.what.formed));
        shallow = omega (arith, h.what.shallow, w.shallow);
      };
      tight = m;
      places = x.places;
      stands = x.inner;
    }

of_otherwise : (l : ℕ) (f g : Phrase) (a : Around) (e : Phrase) (us : List Token) → l ≤ 0 → Has l (otherwise f g a) e us → Has l a (choice f g e) us
of_otherwise l f g a e us m h =
    let p : Phrase = h.stands.0 in
    let q : Phrase = h.stands.1 in
    let v : Is (suc (depth a)) p f = h.stands.2 in
    let w : Is (suc (depth a)) q g = h.stands.3 in
    let x : Fits a 0 h.fore (tokens.If ∷ (written p ++ tokens.Then ∷ (written q ++ tokens.Else ∷ []))) (Stands a) = h.stands.4 in
    record {
      fore = x.fore;
      phrase = choice p q h.phrase;
      is = h.is ∙ (rw x.is (simp append_assoc));
      what = record {
        tree = ap (λ (z : Phrase). choice z (bare q) (bare h.phrase)) v.tree ∙ (ap (λ (z : Phrase). choice f z (bare h.phrase)) w.tree ∙ ap (choice f g) h.what.tree);
        formed = both (is_formed p) (is_formed q && is_formed h.phrase) v.formed (both (is_formed q) (is_formed h.phrase) w.formed h.what.formed);
        shallow = omega (arith, h.what.shallow, v.shallow, w.shallow);
      };
      tight = m;
      places = x.places;
      stands = x.inner;
    }

settles : (l : ℕ) (a : Around) (e : Phrase) (us : List Token) → Has l a e us → HasPair l (settled l a e) us
settles l (signed s a) e us h =
    choose (nat_le l (sign_level s)) l (settled l a (prefix s e)) (signed s a, e) us
    (λ t. settles l a (prefix s e) us (of_signed l s a e us (leb-true l (sign_level s) t) h)) h
settles l (left o f a) e us h =
    choose (nat_le l (operator_level o)) l (settled l a (infix' o f e)) (left o f a, e) us
    (λ t. settles l a (infix' o f e) us (of_left l o f a e us (leb-true l (operator_level o) t) h)) h
settles l (otherwise f g a) e us h =
    choose (nat_le l 0) l (settled l a (choice f g e)) (otherwise f g a, e) us
    (λ t. settles l a (choice f g e) us (of_otherwise l f g a e us (leb-true l 0 t) h)) h
settles l whole e us h = h
settles l (paren a) e us h = h
settles l (called o a) e us h = h
settles l (first o a) e us h = h
settles l (second o f a) e us h = h
settles l (test a) e us h = h
settles l (chosen f a) e us h = h

-- what a step tells, after these tokens and this one
abbrev Stepped : List Token → Token → Reading → Type 0
Stepped us t (wanted a) = Stands a (us ++ t ∷ [])
Stepped us t (there a e) = Has 8 a e (us ++ t ∷ [])
Stepped us t (read e) = Has 0 whole e us × (is_end t ≡ true)
Stepped us t (wrong w) = Unit {0}

placed_step : (l : ℕ) (a : Around) (next : Reading) (us : List Token) (t : Token) → (place a ≤ l → Stepped us t next) → Stepped us t (placed l a next)
placed_step l a next us t f = by_test (nat_le (place a) l) (λ h. f (leb-true (place a) l h))
  where
    by_test : (b : Bool) → (b ≡ true → Stepped us t next) → Stepped us t (if b then next else wrong wrongs.Syntax)
    by_test true g = g refl
    by_test false g = tt

deeper_step : (a : Around) (next : Reading) (us : List Token) (t : Token) → (depth a < 64 → Stepped us t next) → Stepped us t (deeper a next)
deeper_step a next us t f = by_test (nat_lt (depth a) 64) (λ h. f (ltb-true (depth a) 64 h))
  where
    by_test : (b : Bool) → (b ≡ true → Stepped us t next) → Stepped us t (if b then next else wrong wrongs.Deep)
    by_test true g = g refl
    by_test false g = tt

pushed_step : (l : ℕ) (a b : Around) (us : List Token) (t : Token) → (place a ≤ l → depth a < 64 → Stands b (us ++ t ∷ [])) → Stepped us t (pushed l a b)
pushed_step l a b us t f = placed_step l a (deeper a (wanted b)) us t (λ h. deeper_step a (wanted b) us t (f h))

-- one more stands before the next expression
more : (a : Around) (l : ℕ) (us : List Token) (t : Token) → Stands a us → place a ≤ l → depth a < 64 → Fits a l (us ++ t ∷ []) (t ∷ []) (Stands a)
more a l us t s h d = record { fore = us; is = refl; places = h; below = d; inner = s }

operand_step : (p : Phrase) (a : Around) (us : List Token) (t : Token) → written p ≡ t ∷ [] → bare p ≡ p → is_formed p ≡ true → nested p ≡ 0 → level p ≡ 8 → depth a ≤ 64 → Stands a us → Stepped us t (placed 8 a (there a p))
operand_step p a us t w b f n l d s = placed_step 8 a (there a p) us t (λ h. record {
  fore = us;
  phrase = p;
  is = ap (λ (x : List Token). us ++ x) (sym w);
  what = record { tree = b; formed = f; shallow = omega arith };
  tight = omega arith;
  places = omega arith;
  stands = s;
})

-- no more than 64 stand before an expression
few : (a : Around) (us : List Token) → Stands a us → depth a ≤ 64
few whole us s = omega arith
few (paren a) us s = omega (arith, s.below)
few (signed n a) us s = omega (arith, s.below)
few (left o e a) us s = omega (arith, s.3.below)
few (called o a) us s = omega (arith, s.below)
few (first o a) us s = omega (arith, s.below)
few (second o e a) us s = omega (arith, s.2.below)
few (test a) us s = omega (arith, s.below)
few (chosen e a) us s = omega (arith, s.2.below)
few (otherwise e f a) us s = omega (arith, s.4.below)

opened_step : (a : Around) (us : List Token) → Stands a us → Stepped us tokens.Open (opened a)
opened_step (called o a) us s = record {
  fore = s.fore;
  is = ap (λ (x : List Token). x ++ tokens.Open ∷ []) s.is ∙ append_assoc s.fore (tokens.Call o ∷ []) (tokens.Open ∷ []);
  places = s.places;
  below = s.below;
  inner = s.inner;
}
opened_step whole us s = pushed_step 8 whole (paren whole) us tokens.Open (more whole 8 us tokens.Open s)
opened_step (paren a) us s = pushed_step 8 (paren a) (paren (paren a)) us tokens.Open (more (paren a) 8 us tokens.Open s)
opened_step (signed n a) us s = pushed_step 8 (signed n a) (paren (signed n a)) us tokens.Open (more (signed n a) 8 us tokens.Open s)
opened_step (left o e a) us s = pushed_step 8 (left o e a) (paren (left o e a)) us tokens.Open (more (left o e a) 8 us tokens.Open s)
opened_step (first o a) us s = pushed_step 8 (first o a) (paren (first o a)) us tokens.Open (more (first o a) 8 us tokens.Open s)
opened_step (second o e a) us s = pushed_step 8 (second o e a) (paren (second o e a)) us tokens.Open (more (second o e a) 8 us tokens.Open s)
opened_step (test a) us s = pushed_step 8 (test a) (paren (test a)) us tokens.Open (more (test a) 8 us tokens.Open s)
opened_step (chosen e a) us s = pushed_step 8 (chosen e a) (paren (chosen e a)) us tokens.Open (more (chosen e a) 8 us tokens.Open s)
opened_step (otherwise e f a) us s = pushed_step 8 (otherwise e f a) (paren (otherwise e f a)) us tokens.Open (more (otherwise e f a) 8 us tokens.Open s)

minus_step : (o : Operator) (a : Around) (us : List Token) → Stands a us → Stepped us (tokens.Infix o) (minus o a)
minus_step operators.Minus a us s = pushed_step 7 a (signed signs.Negative a) us (tokens.Infix operators.Minus) (more a 7 us (tokens.Infix operators.Minus) s)
minus_step operators.Or a us s = tt
minus_step _ a us s = tt

prefix_step : (n : Sign) (a : Around) (us : List Token) → Stands a us → Stepped us (tokens.Prefix n) (prefixed n a)
prefix_step signs.Not a us s = pushed_step 3 a (signed signs.Not a) us (tokens.Prefix signs.Not) (more a 3 us (tokens.Prefix signs.Not) s)
prefix_step signs.Absolute a us s = pushed_step 8 a (signed signs.Absolute a) us (tokens.Prefix signs.Absolute) (more a 8 us (tokens.Prefix signs.Absolute) s)
prefix_step signs.Negative a us s = tt

begun_step : (a : Around) (t : Token) (us : List Token) → Stands a us → Stepped us t (begun a t)
begun_step a (tokens.Number n) us s = operand_step (number n) a us (tokens.Number n) refl refl refl refl refl (few a us s) s
begun_step a (tokens.Named x) us s = operand_step (name x) a us (tokens.Named x) refl refl refl refl refl (few a us s) s
begun_step a (tokens.Infix o) us s = minus_step o a us s
begun_step a (tokens.Prefix n) us s = prefix_step n a us s
begun_step a (tokens.Call o) us s = pushed_step 8 a (called o a) us (tokens.Call o) (more a 8 us (tokens.Call o) s)
begun_step a tokens.If us s = pushed_step 0 a (test a) us tokens.If (more a 0 us tokens.If s)
begun_step a tokens.Open us s = opened_step a us s
begun_step a (tokens.New r) us s = tt
begun_step a tokens.Unknown us s = tt
begun_step a (tokens.Kind k) us s = tt
begun_step a (tokens.Verb v) us s = tt
begun_step a tokens.Then us s = tt
begun_step a tokens.Else us s = tt
begun_step a tokens.When us s = tt
begun_step a tokens.Close us s = tt
begun_step a tokens.Comma us s = tt
begun_step a tokens.End us s = tt

then_step : (s : Around × Phrase) (us : List Token) → HasPair 0 s us → Stepped us tokens.Then (with_then s)
then_step (test a, e) us h = (
  h.phrase,
  h.what,
  record {
    fore = h.stands.fore;
    is = ap (λ (x : List Token). x ++ tokens.Then ∷ []) h.is ∙ (rw h.stands.is (simp append_assoc));
    places = h.stands.places;
    below = h.stands.below;
    inner = h.stands.inner;
  },
)
then_step (whole, e) us h = tt
then_step (_, e) us h = tt

else_step : (s : Around × Phrase) (us : List Token) → HasPair 0 s us → Stepped us tokens.Else (with_else s)
else_step (chosen f a, e) us h =
    let x : Fits a 0 h.fore (tokens.If ∷ (written h.stands.0 ++ tokens.Then ∷ [])) (Stands a) = h.stands.2 in (
      h.stands.0,
      h.phrase,
      h.stands.1,
      h.what,
      record {
        fore = x.fore;
        is = ap (λ (x : List Token). x ++ tokens.Else ∷ []) h.is ∙ (rw x.is (simp append_assoc));
        places = x.places;
        below = x.below;
        inner = x.inner;
      },
    )
else_step (whole, e) us h = tt
else_step (_, e) us h = tt

close_step : (s : Around × Phrase) (us : List Token) → HasPair 0 s us → Stepped us tokens.Close (with_close s)
close_step (paren a, e) us h = record {
  fore = h.stands.fore;
  phrase = parens h.phrase;
  is = ap (λ (x : List Token). x ++ tokens.Close ∷ []) h.is ∙ (rw h.stands.is (simp append_assoc));
  what = record { tree = h.what.tree; formed = h.what.formed; shallow = omega (arith, h.what.shallow) };
  tight = omega arith;
  places = h.stands.places;
  stands = h.stands.inner;
}
close_step (second o f a, e) us h =
    let w : Is (suc (depth a)) h.stands.0 f = h.stands.1 in
    let x : Fits a 8 h.fore (tokens.Call o ∷ tokens.Open ∷ (written h.stands.0 ++ tokens.Comma ∷ [])) (Stands a) = h.stands.2 in
    record {
      fore = x.fore;
      phrase = call o h.stands.0 h.phrase;
      is = ap (λ (x : List Token). x ++ tokens.Close ∷ []) h.is ∙ (rw x.is (simp append_assoc));
      what = record {
        tree = ap (λ (z : Phrase). infix' o z (bare h.phrase)) w.tree ∙ ap (infix' o f) h.what.tree;
        formed = both (is_formed h.stands.0) (is_formed h.phrase) w.formed h.what.formed;
        shallow = omega (arith, h.what.shallow, w.shallow);
      };
      tight = omega arith;
      places = x.places;
      stands = x.inner;
    }
close_step (whole, e) us h = tt
close_step (_, e) us h = tt

comma_step : (s : Around × Phrase) (us : List Token) → HasPair 0 s us → Stepped us tokens.Comma (with_comma s)
comma_step (first o a, e) us h = (
  h.phrase,
  h.what,
  record {
    fore = h.stands.fore;
    is = ap (λ (x : List Token). x ++ tokens.Comma ∷ []) h.is ∙ (rw h.stands.is (simp append_assoc));
    places = h.stands.places;
    below = h.stands.below;
    inner = h.stands.inner;
  },
)
comma_step (whole, e) us h = (h, refl)
comma_step (paren a, e) us h = tt
comma_step (_, e) us h = tt

end_step : (t : Token) (s : Around × Phrase) (us : List Token) → is_end t ≡ true → HasPair 0 s us → Stepped us t (with_end s)
end_step t (whole, e) us i h = (h, i)
end_step t (paren a, e) us i h = tt
end_step t (_, e) us i h = tt

infix_step : (o : Operator) (s : Around × Phrase) (us : List Token) → (operator_level o ≤ 8 → HasPair (operator_level o) s us) → Stepped us (tokens.Infix o) (with_infix o s)
infix_step o s us f = by_test (nat_le (operator_level o) 8) (λ h. leb-true (operator_level o) 8 h)
  where
    by_test : (b : Bool) → (b ≡ true → operator_level o ≤ 8) → Stepped us (tokens.Infix o) (if b then pushed (operator_level o) s.0 (left o s.1 s.0) else wrong wrongs.Syntax)
    by_test false g = tt
    by_test true g =
        let h : HasPair (operator_level o) s us = f (g refl) in
        pushed_step (operator_level o) s.0 (left o s.1 s.0) us (tokens.Infix o) (λ p d. (
          h.phrase,
          h.what,
          h.tight,
          record {
            fore = h.fore;
            is = ap (λ (x : List Token). x ++ tokens.Infix o ∷ []) h.is ∙ append_assoc h.fore (written h.phrase) (tokens.Infix o ∷ []);
            places = p;
            below = d;
            inner = h.stands;
          },
        ))

-- what binds so tight may stand where less is asked
looser : (l : ℕ) (a : Around) (e : Phrase) (us : List Token) → l ≤ 8 → Has 8 a e us → Has l a e us
looser l a e us m h = record {
  fore = h.fore;
  phrase = h.phrase;
  is = h.is;
  what = h.what;
  tight = omega (arith, h.tight);
  places = h.places;
  stands = h.stands;
}

gone_step : (a : Around) (e : Phrase) (t : Token) (us : List Token) → Has 8 a e us → Stepped us t (gone_on a e t)
gone_step a e (tokens.Infix o) us h = infix_step o (settled (operator_level o) a e) us (λ m. settles (operator_level o) a e us (looser (operator_level o) a e us m h))
gone_step a e tokens.Then us h = then_step (settled 0 a e) us (settles 0 a e us (looser 0 a e us (omega arith) h))
gone_step a e tokens.Else us h = else_step (settled 0 a e) us (settles 0 a e us (looser 0 a e us (omega arith) h))
gone_step a e tokens.Close us h = close_step (settled 0 a e) us (settles 0 a e us (looser 0 a e us (omega arith) h))
gone_step a e tokens.Comma us h = comma_step (settled 0 a e) us (settles 0 a e us (looser 0 a e us (omega arith) h))
gone_step a e tokens.When us h = end_step tokens.When (settled 0 a e) us refl (settles 0 a e us (looser 0 a e us (omega arith) h))
gone_step a e tokens.End us h = end_step tokens.End (settled 0 a e) us refl (settles 0 a e us (looser 0 a e us (omega arith) h))
gone_step a e (tokens.Number n) us h = tt
gone_step a e (tokens.Named x) us h = tt
gone_step a e (tokens.New r) us h = tt
gone_step a e tokens.Unknown us h = tt
gone_step a e (tokens.Kind k) us h = tt
gone_step a e (tokens.Verb v) us h = tt
gone_step a e (tokens.Prefix n) us h = tt
gone_step a e (tokens.Call o) us h = tt
gone_step a e tokens.If us h = tt
gone_step a e tokens.Open us h = tt

-- what is known by now, of the tokens so far
abbrev Stood : Reading → List Token → Type 0
Stood (wanted a) us = Stands a us
Stood (there a e) us = Has 8 a e us
Stood (read e) us = ⊥
Stood (wrong w) us = ⊥

stepped : (r : Reading) (t : Token) (us : List Token) → Stood r us → Stepped us t (with_token r t)
stepped (wanted a) t us s = begun_step a t us s
stepped (there a e) t us s = gone_step a e t us s
stepped (read e) t us s = absurd s
stepped (wrong w) t us s = absurd s

-- the tokens begin with a phrase of this tree, and one that ends an expression is next
pub record BeginsWith (ts : List Token) (e : Phrase) (rest : List Token) : Type 0 where
  pub phrase : Phrase
  pub what : Is 0 phrase e
  pub is : ts ≡ written phrase ++ rest
  pub last : Token
  pub others : List Token
  pub rest_is : rest ≡ last ∷ others
  pub ends : is_end last ≡ true

abbrev Soundly : List Token → Type 0
Soundly ts = (r : Reading) (us : List Token) (e : Phrase) (rest : List Token) → Stood r us → run r ts ≡ front e rest → BeginsWith (us ++ ts) e rest

soundly_on : (next : Reading) (us : List Token) (t : Token) (ts : List Token) (e : Phrase) (rest : List Token) → Soundly ts → Stepped us t next → run_on next (t ∷ ts) (λ n. run n ts) ≡ front e rest → BeginsWith (us ++ t ∷ ts) e rest
soundly_on (wrong w) us t ts e rest ih s h = absurd (cc)
soundly_on (wanted a) us t ts e rest ih s h = subst (λ (x : List Token). BeginsWith x e rest) (append_assoc us (t ∷ []) ts) (ih (wanted a) (us ++ t ∷ []) e rest s h)
soundly_on (there a f) us t ts e rest ih s h = subst (λ (x : List Token). BeginsWith x e rest) (append_assoc us (t ∷ []) ts) (ih (there a f) (us ++ t ∷ []) e rest s h)
soundly_on (read f) us t ts e rest ih s h =
    let k : Has 0 whole f us = s.0 in
    let f_is : f ≡ e = cc in
    let rest_is : t ∷ ts ≡ rest = cc in
    record {
      phrase = k.phrase;
      what = record { tree = k.what.tree ∙ f_is; formed = k.what.formed; shallow = k.what.shallow };
      is = ap (λ (x : List Token). x ++ t ∷ ts) (k.is ∙ ap (λ (x : List Token). x ++ written k.phrase) k.stands) ∙ ap (λ (x : List Token). written k.phrase ++ x) rest_is;
      last = t;
      others = ts;
      rest_is = sym rest_is;
      ends = s.1;
    }

soundly : (ts : List Token) → Soundly ts
soundly [] r us e rest s h = absurd (cc)
soundly (t ∷ ts) r us e rest s h = soundly_on (with_token r t) us t ts e rest (soundly ts) (stepped r t us s) h

pub sound : (ts : List Token) (e : Phrase) (rest : List Token) → run (wanted whole) ts ≡ front e rest → BeginsWith ts e rest
sound ts e rest h = soundly ts (wanted whole) [] e rest refl h
