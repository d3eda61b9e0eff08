-- Words that are printed one by one.
use Rattle.std.proofs.Common.{◌≡◌, ℕ, ◌+◌, List, [], ◌∷◌, ◌++◌, map, refl, sym, ap, ◌∙◌, take, length, ◌<◌, get_or}
use Rattle.std.specs.Prelude.{decimal}
use Rattle.std.specs.List.{join_with_byte}
use Rattle.std.proofs.lemmas.List.{append_assoc, append-nil, map-append, take_more}
use Rattle.td_plan.specs.Lines.{Vertex, name_of, text_of_line, words_of_kind}
use Rattle.td_plan.specs.Lines.Line.{vertex}
use Rattle.td_plan.specs.Steps.Printed.{spaced}

pub spaced-append : (xs ys : List (List ℕ)) → spaced (xs ++ ys) ≡ spaced xs ++ spaced ys
spaced-append [] ys = refl
spaced-append (x ∷ xs) ys = ap (λ r. (32 ∷ x) ++ r) (spaced-append xs ys) ∙ sym (append_assoc (32 ∷ x) (spaced xs) (spaced ys))

joined : (w : List ℕ) (ws : List (List ℕ)) → join_with_byte 32 (w ∷ ws) ≡ w ++ spaced ws
joined w [] = sym (append-nil w)
joined w (v ∷ ws) = ap (λ r. w ++ (32 ∷ r)) (joined v ws)

-- what a vertex is called, and its line
named : (v : Vertex) → name_of v ≡ decimal v.number ++ spaced (words_of_kind v.kind)
named v = joined (decimal v.number) (words_of_kind v.kind)

pub line_printed : (v : Vertex) → text_of_line (vertex v) ≡ ((decimal v.number ++ spaced (words_of_kind v.kind)) ++ spaced (map decimal v.sources)) ++ 10 ∷ []
line_printed v =
    ap (λ r. r ++ 10 ∷ [])
    (joined (decimal v.number) (words_of_kind v.kind ++ map decimal v.sources) ∙ ap (λ r. decimal v.number ++ r) (spaced-append (words_of_kind v.kind) (map decimal v.sources)) ∙ sym (append_assoc (decimal v.number) (spaced (words_of_kind v.kind)) (spaced (map decimal v.sources))))

line_named : (v : Vertex) → text_of_line (vertex v) ≡ (name_of v ++ spaced (map decimal v.sources)) ++ 10 ∷ []
line_named v = line_printed v ∙ ap (λ r. (r ++ spaced (map decimal v.sources)) ++ 10 ∷ []) (sym (named v))

-- one source more
pub spaced-push : (sources : List ℕ) (s : ℕ) → spaced (map decimal (sources ++ s ∷ [])) ≡ spaced (map decimal sources) ++ 32 ∷ decimal s
spaced-push sources s = ap spaced (map-append decimal sources (s ∷ [])) ∙ spaced-append (map decimal sources) (decimal s ∷ []) ∙ ap (λ r. spaced (map decimal sources) ++ r) (append-nil (32 ∷ decimal s))

-- the bytes after one source more
pub sources_push : (before so_far after : List ℕ) (sources : List ℕ) (i : ℕ) → i < length sources → so_far ≡ before ++ spaced (map decimal (take i sources)) → after ≡ so_far ++ (32 ∷ decimal (get_or sources i 0))
    → after ≡ before ++ spaced (map decimal (take (i + 1) sources))
sources_push before so_far after sources i h e f =
    f ∙ ap (λ r. r ++ (32 ∷ decimal (get_or sources i 0))) e ∙ append_assoc before (spaced (map decimal (take i sources))) (32 ∷ decimal (get_or sources i 0))
    ∙ ap (λ r. before ++ r) (sym (spaced-push (take i sources) (get_or sources i 0)) ∙ ap (λ xs. spaced (map decimal xs)) (sym (take_more sources i 0 h)))

-- the bytes after the name of a vertex
pub name_printed : (v : Vertex) (b0 b1 b2 : List ℕ) → b1 ≡ b0 ++ decimal v.number → b2 ≡ b1 ++ spaced (words_of_kind v.kind) → b2 ≡ b0 ++ name_of v
name_printed v b0 b1 b2 e1 e2 =
    let n = decimal v.number in
    let k = spaced (words_of_kind v.kind) in
    e2 ∙ ap (λ r. r ++ k) e1 ∙ append_assoc b0 n k ∙ ap (λ r. b0 ++ r) (sym (named v))

-- the bytes after its line
pub vertex_printed : (v : Vertex) (b0 b1 b2 b3 : List ℕ) → b1 ≡ b0 ++ name_of v → b2 ≡ b1 ++ spaced (map decimal v.sources) → b3 ≡ b2 ++ 10 ∷ [] → b3 ≡ b0 ++ text_of_line (vertex v)
vertex_printed v b0 b1 b2 b3 e1 e2 e3 =
    let n = name_of v in
    let s = spaced (map decimal v.sources) in
    let all : b3 ≡ ((b0 ++ n) ++ s) ++ 10 ∷ [] = e3 ∙ ap (λ r. r ++ 10 ∷ []) (e2 ∙ ap (λ r. r ++ s) e1) in
    all ∙ ap (λ r. r ++ 10 ∷ []) (append_assoc b0 n s) ∙ append_assoc b0 (n ++ s) (10 ∷ []) ∙ ap (λ r. b0 ++ r) (sym (line_named v))
