-- Lists of picks, word by word.
use Rattle.std.proofs.Common.{◌≡◌, ℕ, zero, suc, ◌<◌, List, [], ◌∷◌, Some, None, map, length, get_or, refl, ap, sym, ◌∙◌, arith}
use Rattle.std.specs.Borrow.{Bor}
use Rattle.td_plan.specs.Text.{natural_of}

-- a word among them that writes no number
pub no_picks : (words : List (List ℕ)) (word : List ℕ) (k : ℕ) → k < length words → word ≡ get_or words k word → natural_of word ≡ None → (picks : List ℕ) → map natural_of words ≡ map Some picks → ⊥
no_picks [] word k below at none picks e = omega (arith, below)
no_picks (w ∷ words) word k below at none [] e = cc
no_picks (w ∷ words) word zero below at none (p ∷ picks) e = let here : natural_of w ≡ Some p = cc in let same : natural_of word ≡ natural_of w = ap natural_of at in cc
no_picks (w ∷ words) word (suc k) below at none (p ∷ picks) e = no_picks words word k (omega (arith, below)) at none picks (cc)

-- all words, and what they write
pub all_picks : (seen : List (Bor (List ℕ))) (words : List (List ℕ)) (picks : List ℕ) → map (λ w. w.now) seen ≡ words → map (λ w. natural_of w.now) seen ≡ map Some picks → map natural_of words ≡ map Some picks
all_picks seen words picks is e = ap (map natural_of) (sym is) ∙ maps seen ∙ e
  where
    maps : (seen : List (Bor (List ℕ))) → map natural_of (map (λ w. w.now) seen) ≡ map (λ w. natural_of w.now) seen
    maps [] = refl
    maps (w ∷ seen) = ap (λ l. natural_of w.now ∷ l) (maps seen)
