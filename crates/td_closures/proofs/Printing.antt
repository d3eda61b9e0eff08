-- What is printed of an expression, part by part.
use Rattle.std.specs.Prelude.{◌≡◌, ◌≤◌, ◌<◌, ℕ, suc, ◌+◌, ℤ, Bool, true, false, nat_lt, nat_le, if◌then◌else◌, List, [], ◌∷◌, ◌++◌, codes}
use Rattle.std.proofs.Common.{refl, ap, sym, ◌∙◌, arith, append_assoc}
use Rattle.std.specs.Fmt.{signed_decimal}
use Rattle.std.proofs.lemmas.List.{append-nil}
use Rattle.std.proofs.lemmas.Bool.{le-ltb, le-leb}
use Rattle.std.proofs.lemmas.Bool.Decides.{nat_tests}
use Rattle.td_formula.specs.declared.expression.Name.{Name}
use Rattle.td_formula.specs.declared.expression.Sign.{Sign}
use Rattle.td_formula.specs.declared.expression.Operator.{Operator}
use Rattle.td_closures.specs.Phrase.{Phrase, number, name, parens, prefix, infix', call, choice, operator_level, sign_level, level}
use Rattle.td_closures.specs.Canonical.{placed, canonical, name_text, sign_text, operator_text, phrase_text, parenthesis, placed_text, expression_text}

parts_by : (p : Phrase) (b : Bool) → phrase_text (if b then parens p else p) ≡ (if b then 40 ∷ [] else []) ++ (phrase_text p ++ (if b then 41 ∷ [] else []))
parts_by p true = refl
parts_by p false = sym (append-nil (phrase_text p))

-- an expression between the parentheses that it may need
placed_parts : (p : Phrase) (least : ℕ) → phrase_text (placed least p) ≡ parenthesis (level p) least 40 ++ (phrase_text p ++ parenthesis (level p) least 41)
placed_parts p least = parts_by p (nat_lt (level p) least)

-- one that binds at its tightest needs none
tightest : (p : Phrase) (least : ℕ) → level p ≡ 8 → least ≤ 8 → phrase_text (placed least p) ≡ phrase_text p
tightest p least e h = let no : nat_lt (level p) least ≡ false = le-ltb (level p) least (omega (arith, e)) in ap (λ (b : Bool). phrase_text (if b then parens p else p)) no

pub printed_number : (n : ℤ) (least : ℕ) → least ≤ 8 → signed_decimal n ≡ placed_text least (number n)
printed_number n least h = sym (tightest (number n) least refl h)

pub printed_name : (x : Name) (least : ℕ) → least ≤ 8 → name_text x ≡ placed_text least (name x)
printed_name x least h = sym (tightest (name x) least refl h)

-- anything may stand where nothing is asked
pub printed_whole : (e : Phrase) → placed_text 0 e ≡ expression_text e
printed_whole e = let no : nat_lt (level (canonical e)) 0 ≡ false = le-ltb (level (canonical e)) 0 (omega arith) in ap (λ (b : Bool). phrase_text (if b then parens (canonical e) else canonical e)) no

-- bytes that are appended one after another
four : (b o s x c : List ℕ) → (((b ++ o) ++ s) ++ x) ++ c ≡ b ++ (o ++ ((s ++ x) ++ c))
four b o s x c = simp append_assoc

pub printed_one : (s : Sign) (t : Phrase) (least : ℕ) (b0 b1 b2 b3 b4 : List ℕ) → b1 ≡ b0 ++ parenthesis (sign_level s) least 40 → b2 ≡ b1 ++ sign_text s → b3 ≡ b2 ++ placed_text (sign_level s) t → b4 ≡ b3 ++ parenthesis (sign_level s) least 41
    → b4 ≡ b0 ++ placed_text least (prefix s t)
printed_one s t least b0 b1 b2 b3 b4 e1 e2 e3 e4 =
    let o : List ℕ = parenthesis (sign_level s) least 40 in
    let c : List ℕ = parenthesis (sign_level s) least 41 in
    let x : List ℕ = placed_text (sign_level s) t in
    let all : b4 ≡ (((b0 ++ o) ++ sign_text s) ++ x) ++ c = e4 ∙ ap (λ (r : List ℕ). r ++ c) (e3 ∙ ap (λ (r : List ℕ). r ++ x) (e2 ∙ ap (λ (r : List ℕ). r ++ sign_text s) e1)) in
    let parts : placed_text least (prefix s t) ≡ o ++ ((sign_text s ++ x) ++ c) = placed_parts (canonical (prefix s t)) least in
    all ∙ (four b0 o (sign_text s) x c ∙ ap (λ (r : List ℕ). b0 ++ r) (sym parts))

seven : (b o x s w y c : List ℕ) → ((((((b ++ o) ++ x) ++ s) ++ w) ++ s) ++ y) ++ c ≡ b ++ (o ++ ((x ++ (s ++ (w ++ (s ++ y)))) ++ c))
seven b o x s w y c = simp append_assoc

-- an operator between two expressions
between : (o : Operator) (t u : Phrase) → operator_level o ≤ 8 → canonical (infix' o t u) ≡ infix' o (placed (operator_level o) (canonical t)) (placed (suc (operator_level o)) (canonical u))
between o t u h = ap (λ (b : Bool). (let p : Phrase = if b then infix' o (placed (operator_level o) (canonical t)) (placed (suc (operator_level o)) (canonical u)) else call o (canonical t) (canonical u) in p)) (le-leb (operator_level o) 8 h)

pub printed_two : (o : Operator) (t u : Phrase) (least : ℕ) (b0 b1 b2 b3 b4 b5 b6 b7 : List ℕ) → operator_level o ≤ 8 → b1 ≡ b0 ++ parenthesis (operator_level o) least 40 → b2 ≡ b1 ++ placed_text (operator_level o) t → b3 ≡ b2 ++ codes " " → b4 ≡ b3 ++ operator_text o → b5 ≡ b4 ++ codes " "
    → b6 ≡ b5 ++ placed_text (operator_level o + 1) u → b7 ≡ b6 ++ parenthesis (operator_level o) least 41 → b7 ≡ b0 ++ placed_text least (infix' o t u)
printed_two o t u least b0 b1 b2 b3 b4 b5 b6 b7 small e1 e2 e3 e4 e5 e6 e7 =
    let before : List ℕ = parenthesis (operator_level o) least 40 in
    let behind : List ℕ = parenthesis (operator_level o) least 41 in
    let x : List ℕ = placed_text (operator_level o) t in
    let y : List ℕ = placed_text (suc (operator_level o)) u in
    let next : operator_level o + 1 ≡ suc (operator_level o) = omega arith in
    let sixth : b6 ≡ b5 ++ y = e6 ∙ ap (λ (n : ℕ). b5 ++ placed_text n u) next in
    let all : b7 ≡ ((((((b0 ++ before) ++ x) ++ codes " ") ++ operator_text o) ++ codes " ") ++ y) ++ behind
    = e7 ∙ ap (λ (r : List ℕ). r ++ behind) (sixth ∙ ap (λ (r : List ℕ). r ++ y) (e5 ∙ ap (λ (r : List ℕ). r ++ codes " ") (e4 ∙ ap (λ (r : List ℕ). r ++ operator_text o) (e3 ∙ ap (λ (r : List ℕ). r ++ codes " ") (e2 ∙ ap (λ (r : List ℕ). r ++ x) e1))))) in
    let parts : phrase_text (placed least (infix' o (placed (operator_level o) (canonical t)) (placed (suc (operator_level o)) (canonical u)))) ≡ before ++ ((x ++ (codes " " ++ (operator_text o ++ (codes " " ++ y)))) ++ behind)
    = placed_parts (infix' o (placed (operator_level o) (canonical t)) (placed (suc (operator_level o)) (canonical u))) least in
    all ∙ (seven b0 before x (codes " ") (operator_text o) y behind ∙ ap (λ (r : List ℕ). b0 ++ r) (sym parts ∙ ap (λ (p : Phrase). phrase_text (placed least p)) (sym (between o t u small))))

-- a call
called : (o : Operator) (t u : Phrase) → 8 < operator_level o → canonical (infix' o t u) ≡ call o (canonical t) (canonical u)
called o t u h = let no : nat_le (operator_level o) 8 ≡ false = grind (arith, nat_tests) in ap (λ (b : Bool). (let p : Phrase = if b then infix' o (placed (operator_level o) (canonical t)) (placed (suc (operator_level o)) (canonical u)) else call o (canonical t) (canonical u) in p)) no

six : (b w o x s y c : List ℕ) → (((((b ++ w) ++ o) ++ x) ++ s) ++ y) ++ c ≡ b ++ (w ++ (o ++ (x ++ (s ++ (y ++ c)))))
six b w o x s y c = simp append_assoc

pub printed_call : (o : Operator) (t u : Phrase) (least : ℕ) (b0 b1 b2 b3 b4 b5 b6 : List ℕ) → least ≤ 8 → 8 < operator_level o → b1 ≡ b0 ++ operator_text o → b2 ≡ b1 ++ codes "(" → b3 ≡ b2 ++ placed_text 0 t → b4 ≡ b3 ++ codes ", " → b5 ≡ b4 ++ placed_text 0 u → b6 ≡ b5 ++ codes ")"
    → b6 ≡ b0 ++ placed_text least (infix' o t u)
printed_call o t u least b0 b1 b2 b3 b4 b5 b6 small large e1 e2 e3 e4 e5 e6 =
    let x : List ℕ = expression_text t in
    let y : List ℕ = expression_text u in
    let third : b3 ≡ b2 ++ x = e3 ∙ ap (λ (r : List ℕ). b2 ++ r) (printed_whole t) in
    let fifth : b5 ≡ b4 ++ y = e5 ∙ ap (λ (r : List ℕ). b4 ++ r) (printed_whole u) in
    let all : b6 ≡ (((((b0 ++ operator_text o) ++ codes "(") ++ x) ++ codes ", ") ++ y) ++ codes ")"
    = e6 ∙ ap (λ (r : List ℕ). r ++ codes ")") (fifth ∙ ap (λ (r : List ℕ). r ++ y) (e4 ∙ ap (λ (r : List ℕ). r ++ codes ", ") (third ∙ ap (λ (r : List ℕ). r ++ x) (e2 ∙ ap (λ (r : List ℕ). r ++ codes "(") e1)))) in
    let whole : phrase_text (placed least (call o (canonical t) (canonical u))) ≡ phrase_text (call o (canonical t) (canonical u)) = tightest (call o (canonical t) (canonical u)) least refl small in
    all ∙ (six b0 (operator_text o) (codes "(") x (codes ", ") y (codes ")") ∙ ap (λ (r : List ℕ). b0 ++ r) (sym whole ∙ ap (λ (p : Phrase). phrase_text (placed least p)) (sym (called o t u large))))

-- a choice
eight : (b o i x t y e z c : List ℕ) → (((((((b ++ o) ++ i) ++ x) ++ t) ++ y) ++ e) ++ z) ++ c ≡ b ++ (o ++ ((i ++ (x ++ (t ++ (y ++ (e ++ z))))) ++ c))
eight b o i x t y e z c = simp append_assoc

pub printed_choice : (p q r : Phrase) (least : ℕ) (b0 b1 b2 b3 b4 b5 b6 b7 b8 : List ℕ) → b1 ≡ b0 ++ parenthesis 0 least 40 → b2 ≡ b1 ++ codes "if " → b3 ≡ b2 ++ placed_text 0 p → b4 ≡ b3 ++ codes " then " → b5 ≡ b4 ++ placed_text 0 q → b6 ≡ b5 ++ codes " else " → b7 ≡ b6 ++ placed_text 0 r
    → b8 ≡ b7 ++ parenthesis 0 least 41 → b8 ≡ b0 ++ placed_text least (choice p q r)
printed_choice p q r least b0 b1 b2 b3 b4 b5 b6 b7 b8 e1 e2 e3 e4 e5 e6 e7 e8 =
    let before : List ℕ = parenthesis 0 least 40 in
    let behind : List ℕ = parenthesis 0 least 41 in
    let x : List ℕ = expression_text p in
    let y : List ℕ = expression_text q in
    let z : List ℕ = expression_text r in
    let third : b3 ≡ b2 ++ x = e3 ∙ ap (λ (l : List ℕ). b2 ++ l) (printed_whole p) in
    let fifth : b5 ≡ b4 ++ y = e5 ∙ ap (λ (l : List ℕ). b4 ++ l) (printed_whole q) in
    let seventh : b7 ≡ b6 ++ z = e7 ∙ ap (λ (l : List ℕ). b6 ++ l) (printed_whole r) in
    let all : b8 ≡ (((((((b0 ++ before) ++ codes "if ") ++ x) ++ codes " then ") ++ y) ++ codes " else ") ++ z) ++ behind
    = e8 ∙ ap (λ (l : List ℕ). l ++ behind) (seventh ∙ ap (λ (l : List ℕ). l ++ z) (e6 ∙ ap (λ (l : List ℕ). l ++ codes " else ") (fifth ∙ ap (λ (l : List ℕ). l ++ y) (e4 ∙ ap (λ (l : List ℕ). l ++ codes " then ") (third ∙ ap (λ (l : List ℕ). l ++ x) (e2 ∙ ap (λ (l : List ℕ). l ++ codes "if ") e1)))))) in
    let parts : placed_text least (choice p q r) ≡ before ++ ((codes "if " ++ (x ++ (codes " then " ++ (y ++ (codes " else " ++ z))))) ++ behind) = placed_parts (canonical (choice p q r)) least in
    all ∙ (eight b0 before (codes "if ") x (codes " then ") y (codes " else ") z behind ∙ ap (λ (l : List ℕ). b0 ++ l) (sym parts))
