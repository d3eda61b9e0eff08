-- The grammar and the steps say the same.
use Rattle.std.specs.Prelude.{◌≡◌, ◌⊎◌, true, List, [], ◌∷◌, ◌++◌, Result, Ok, Err, IfOk, IfErr}
use Rattle.std.specs.Borrow.{Bor}
use Rattle.std.proofs.Common.{refl, ap, sym, ◌∙◌, arith, inl, inr}
use Rattle.td_formula.specs.declared.expression.Expression.{Expression}
use Rattle.td_closures.specs.declared.fault.Wrong.{Wrong}
use Rattle.td_closures.specs.declared.fault.Wrong.TheVariants.{Syntax, Name, Code, TooMany, Deep, Memory}
use Rattle.td_closures.specs.declared.token.Token.{Token}
use Rattle.td_closures.specs.declared.token.Token.TheVariants as tokens
use Rattle.td_closures.specs.Phrase.{Phrase, written, bare, is_end, IsRead, tree_of}
use Rattle.td_closures.specs.Machine.{Around, whole, Reading, wanted, there, read, settled, with_token, with_comma, with_end, run_on, run, front, faulty}
use Rattle.td_closures.specs.Context.{Fronts}
use Rattle.td_closures.proofs.Complete.{Reached, reads}
use Rattle.td_closures.proofs.Sound.{BeginsWith, sound}

pub is_read : (ts : List Token) (e : Phrase) (rest : List Token) → run (wanted whole) ts ≡ front e rest → IsRead ts e rest
is_read ts e rest h =
    let b : BeginsWith ts e rest = sound ts e rest h in
    record {
      front = written b.phrase;
      spelled = record { phrase = b.phrase; tokens_are = refl; formed = b.what.formed; shallow = omega (arith, b.what.shallow); tree_is = b.what.tree };
      splits = b.is;
      ends = rw b.rest_is b.ends;
    }

ended : (t : Token) (e f : Phrase) (a : Around) → is_end t ≡ true → settled 0 a e ≡ (whole, f) → with_token (there a e) t ≡ read f
ended tokens.Comma e f a i h = ap with_comma h
ended tokens.When e f a i h = ap with_end h
ended tokens.End e f a i h = ap with_end h
ended tokens.If e f a i h = absurd (cc)
ended _ e f a i h = absurd (cc)

pub runs : (ts : List Token) (e : Phrase) (rest : List Token) → IsRead ts e rest → run (wanted whole) ts ≡ front e rest
runs ts e [] r = let no = r.ends in absurd (cc)
runs ts e (t ∷ rest) r =
    let p : Phrase = r.spelled.phrase in
    let x : Reached whole p (t ∷ rest) = reads p whole (t ∷ rest) r.spelled.formed (omega arith) (omega (arith, r.spelled.shallow)) in
    let last : with_token (there x.inner x.tree) t ≡ read (bare p) = ended t x.tree (bare p) x.inner r.ends (x.settles 0 (omega arith)) in
    let ends : run (there x.inner x.tree) (t ∷ rest) ≡ front (bare p) (t ∷ rest) = ap (λ (y : Reading). run_on y (t ∷ rest) (λ n. run n rest)) last in
    let splits : ts ≡ written p ++ t ∷ rest = r.splits ∙ ap (λ (x : List Token). x ++ t ∷ rest) (sym r.spelled.tokens_are) in
    ap (run (wanted whole)) splits ∙ (x.runs ∙ (ends ∙ ap (λ (y : Phrase). front y (t ∷ rest)) r.spelled.tree_is))

pub ok : (ts : List Token) (r : Result (Expression × Bor (List Token)) Wrong) → Fronts r (run (wanted whole) ts) → IfOk r (λ x. IsRead ts (tree_of x.0) x.1.now)
ok ts (Ok x) h = is_read ts (tree_of x.0) x.1.now (sym h)
ok ts (Err w) h = tt

unread : (ts : List Token) (w : Wrong) → faulty w ≡ run (wanted whole) ts → (tree : Phrase) (rest : List Token) → IsRead ts tree rest → ⊥
unread ts w h tree rest r = let e : run (wanted whole) ts ≡ front tree rest = runs ts tree rest r in cc

pub refused : (ts : List Token) (r : Result (Expression × Bor (List Token)) Wrong) → Fronts r (run (wanted whole) ts) → IfErr r (λ w. (w ≡ Memory) ⊎ ((tree : Phrase) (rest : List Token) → IsRead ts tree rest → ⊥))
refused ts (Ok x) h = tt
refused ts (Err Memory) h = inl refl
refused ts (Err Syntax) h = inr (unread ts Syntax h)
refused ts (Err Name) h = inr (unread ts Name h)
refused ts (Err Code) h = inr (unread ts Code h)
refused ts (Err TooMany) h = inr (unread ts TooMany h)
refused ts (Err Deep) h = inr (unread ts Deep h)
