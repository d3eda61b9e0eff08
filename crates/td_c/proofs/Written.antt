-- One place more of an array is written.
use Rattle.std.proofs.Common.{◌≡◌, ℕ, ◌+◌, ◌<◌, List, [], ◌∷◌, ◌++◌, map, take, drop, length, set, sym, ◌∙◌}
use Rattle.std.proofs.lemmas.List.{take_more_set, drop-set-lt, map-append}

pub place_more : {X Row : Type 0} (row : X → Row) (rows before : List Row) (at n : ℕ) (ys : List X) (x : X) (new : Row) → at < n → at < length rows
    → take at rows ≡ map row ys → drop n rows ≡ drop n before → new ≡ row x → (take (at + 1) (set rows at new) ≡ map row (ys ++ x ∷ [])) × (drop n (set rows at new) ≡ drop n before)
place_more row rows before at n ys x new below low written others is =
    (take_more_set rows at new low ∙ ((λ i. written i ++ is i ∷ []) ∙ sym (map-append row ys (x ∷ []))), drop-set-lt n rows at new below ∙ others)
