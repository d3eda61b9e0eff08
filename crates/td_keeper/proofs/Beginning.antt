-- Batches that are a beginning of others, found one after another.
use Rattle.std.proofs.Common.{◌≡◌, ℕ, ◌+◌, ◌<◌, List, [], ◌∷◌, ◌++◌, take, drop, length, get_or, sym, ap, ◌∙◌, arith}
use Rattle.std.proofs.lemmas.List.{append_assoc, drop_more, take_more, take_all, length-drop, length-append, get_or-drop, get_or_append_left, get_or-map}
use Rattle.td_stamp.specs.declared.values.Entry.{Entry}
use Rattle.td_journal.specs.declared.payload.Submitted.{Submitted}
use Rattle.td_store.specs.standing.Standing.{batches_of}
use Rattle.td_keeper.specs.Halls.{Begin}

-- so many of them, and then the others from a place on
abbrev pub Found : List (List Entry) → List (List Entry) → ℕ → ℕ → Type 0
Found some all past i = drop past all ≡ take i some ++ drop (past + i) all

pub none_found : (some all : List (List Entry)) (past : ℕ) → Found some all past 0
none_found some all past = let here : past ≡ past + 0 = omega arith in ap (λ n. drop n all) here

pub found_more : (some all : List (List Entry)) (past i : ℕ) → i < length some → past + i < length all → get_or all (past + i) [] ≡ get_or some i []
    → Found some all past i → Found some all past (i + 1)
found_more some all past i l m same is =
    let next : past + i + 1 ≡ past + (i + 1) = omega arith in
    is ∙ (ap (λ r. take i some ++ r) (drop_more all (past + i) [] m ∙ (λ j. same j ∷ drop (next j) all))
    ∙ (sym (append_assoc (take i some) (get_or some i [] ∷ []) (drop (past + (i + 1)) all)) ∙ ap (λ t. t ++ drop (past + (i + 1)) all) (sym (take_more some i [] l))))

pub all_found : (some all : List (List Entry)) (past : ℕ) → Found some all past (length some) → Begin some (drop past all)
all_found some all past is = (drop (past + length some) all, is ∙ ap (λ t. t ++ drop (past + length some) all) (take_all (length some) some (omega arith)))

-- where they begin the others, each stands there
pub stands : (some all : List (List Entry)) (past i : ℕ) → i < length some → Begin some (drop past all) → (past + i < length all) × (get_or all (past + i) [] ≡ get_or some i [])
stands some all past i l begin =
    let long = ap length begin.1 ∙ length-append some begin.0 in
    let left = length-drop past all in (
      omega (arith, l, long, left),
      sym (get_or-drop past all i []) ∙ (ap (λ r. get_or r i []) begin.1 ∙ get_or_append_left some begin.0 [] i l),
    )

-- the batch of what was submitted
pub there : (xs : List Submitted) (i : ℕ) (s : Submitted) → i < length xs → s ≡ get_or xs i s → get_or (batches_of xs) i [] ≡ s.batch
there xs i s l is = get_or-map (λ x. x.batch) xs i s [] l ∙ ap (λ x. x.batch) (sym is)
