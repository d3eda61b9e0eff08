-- What is printed of a closure: its head, and then its lines, kind by kind.
use Rattle.std.specs.Prelude.{◌≡◌, ℕ, List, [], ◌∷◌, ◌++◌}
use Rattle.std.proofs.Common.{ap, sym, ◌∙◌, append_assoc}
use Rattle.td_closures.specs.Lines.{Line}
use Rattle.td_closures.specs.Canonical.{lines_text}
use Rattle.td_closures.proofs.CanonicalText.{lines_text_append}

six : (b h l i e s k : List ℕ) → (((((b ++ (h ++ 10 ∷ [])) ++ l) ++ i) ++ e) ++ s) ++ k ≡ b ++ (h ++ 10 ∷ (l ++ (i ++ (e ++ (s ++ k)))))
six b h l i e s k = simp append_assoc

pub printed_lines : (b0 b1 b2 b3 b4 b5 h : List ℕ) (ls is es ss ks : List Line) → b1 ≡ b0 ++ (h ++ 10 ∷ []) → b2 ≡ b1 ++ lines_text ls → b3 ≡ b2 ++ lines_text is → b4 ≡ b3 ++ lines_text es → b5 ≡ b4 ++ lines_text ss
    → b5 ++ lines_text ks ≡ b0 ++ (h ++ 10 ∷ lines_text (ls ++ (is ++ (es ++ (ss ++ ks)))))
printed_lines b0 b1 b2 b3 b4 b5 h ls is es ss ks e1 e2 e3 e4 e5 =
    let l : List ℕ = lines_text ls in
    let i : List ℕ = lines_text is in
    let e : List ℕ = lines_text es in
    let s : List ℕ = lines_text ss in
    let k : List ℕ = lines_text ks in
    let all : b5 ++ k ≡ (((((b0 ++ (h ++ 10 ∷ [])) ++ l) ++ i) ++ e) ++ s) ++ k =
    ap (λ (r : List ℕ). r ++ k) (e5 ∙ ap (λ (r : List ℕ). r ++ s) (e4 ∙ ap (λ (r : List ℕ). r ++ e) (e3 ∙ ap (λ (r : List ℕ). r ++ i) (e2 ∙ ap (λ (r : List ℕ). r ++ l) e1)))) in
    let lines : lines_text (ls ++ (is ++ (es ++ (ss ++ ks)))) ≡ l ++ (i ++ (e ++ (s ++ k))) =
    lines_text_append ls (is ++ (es ++ (ss ++ ks))) ∙ ap (λ (r : List ℕ). l ++ r) (lines_text_append is (es ++ (ss ++ ks))
    ∙ ap (λ (r : List ℕ). i ++ r) (lines_text_append es (ss ++ ks) ∙ ap (λ (r : List ℕ). e ++ r) (lines_text_append ss ks))) in
    all ∙ (six b0 h l i e s k ∙ ap (λ (r : List ℕ). b0 ++ (h ++ 10 ∷ r)) (sym lines))
