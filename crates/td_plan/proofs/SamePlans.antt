-- Two plans are the same where their marks and their vertices are.
use Rattle.std.proofs.Common.{◌≡◌, ℕ, ◌<◌, List, [], ◌∷◌, length, map, get_or, refl, sym, ap, ◌∙◌, arith}
use Rattle.std.proofs.lemmas.List.{get_or-map}
use Rattle.td_plan.specs.declared.mark.Mark.{Mark}
use Rattle.td_plan.specs.declared.mark.Mark.TheVariants as mark
use Rattle.td_plan.specs.Lines.{Vertex, Line}
use Rattle.td_plan.specs.Lines.Line.{vertex, loop, end}
use Rattle.td_plan.specs.Blocks.{PlacedVertex, vertices}
use Rattle.td_plan.specs.Marks.{lines_of_marks, AreMarked}

-- an item that differs
module _ {X Y : Type 0} (f : X → Y) where
  pub differing : (xs ys : List X) (i : ℕ) (x y : X) → i < length xs → length xs ≡ length ys → x ≡ get_or xs i x → y ≡ get_or ys i y → (f x ≡ f y → ⊥) → map f xs ≡ map f ys → ⊥
  differing xs ys i x y h same here there ne e =
      ne (ap f here ∙ sym (get_or-map f xs i x (f x) h) ∙ ap (λ ls. get_or ls i (f x)) e ∙ get_or-map f ys i y (f x) (omega arith) ∙ ap f (sym there))

-- LINES, MARKS AND VERTICES
abbrev mark_of : Line → Mark
mark_of (vertex v) = mark.Vertex
mark_of (loop b) = mark.Loop b
mark_of end = mark.End

marks_back : (marks : List Mark) (ps : List PlacedVertex) → AreMarked marks ps → map mark_of (lines_of_marks marks ps) ≡ marks
marks_back [] [] m = refl
marks_back [] (p ∷ ps) m = absurd m
marks_back (mark.Vertex ∷ marks) [] m = absurd m
marks_back (mark.Vertex ∷ marks) (p ∷ ps) m = ap (λ ms. mark.Vertex ∷ ms) (marks_back marks ps m)
marks_back (mark.Loop b ∷ marks) ps m = ap (λ ms. mark.Loop b ∷ ms) (marks_back marks ps m)
marks_back (mark.End ∷ marks) ps m = ap (λ ms. mark.End ∷ ms) (marks_back marks ps m)

abbrev pub bare : PlacedVertex → Vertex
bare p = p.vertex

lines_alike : (marks : List Mark) (ps qs : List PlacedVertex) → map bare ps ≡ map bare qs → lines_of_marks marks ps ≡ lines_of_marks marks qs
lines_alike [] ps qs e = refl
lines_alike (mark.Vertex ∷ marks) [] [] e = lines_alike marks [] [] e
lines_alike (mark.Vertex ∷ marks) [] (q ∷ qs) e = absurd (cc)
lines_alike (mark.Vertex ∷ marks) (p ∷ ps) [] e = absurd (cc)
lines_alike (mark.Vertex ∷ marks) (p ∷ ps) (q ∷ qs) e =
    let first : bare p ≡ bare q = cc in
    let rest : map bare ps ≡ map bare qs = cc in
    λ i. vertex (first i) ∷ lines_alike marks ps qs rest i
lines_alike (mark.Loop b ∷ marks) ps qs e = ap (λ ls. loop b ∷ ls) (lines_alike marks ps qs e)
lines_alike (mark.End ∷ marks) ps qs e = ap (λ ls. end ∷ ls) (lines_alike marks ps qs e)

pub plans_same : (marks more : List Mark) (ps qs : List PlacedVertex) → marks ≡ more → map bare ps ≡ map bare qs → lines_of_marks marks ps ≡ lines_of_marks more qs
plans_same marks more ps qs e f = lines_alike marks ps qs f ∙ ap (λ ms. lines_of_marks ms qs) e

pub marks_same : (marks more : List Mark) (ps qs : List PlacedVertex) → AreMarked marks ps → AreMarked more qs → lines_of_marks marks ps ≡ lines_of_marks more qs → marks ≡ more
marks_same marks more ps qs m n e = sym (marks_back marks ps m) ∙ ap (map mark_of) e ∙ marks_back more qs n

pub vertices_same : (plan other : List Line) (ps qs : List PlacedVertex) → ps ≡ vertices plan → qs ≡ vertices other → plan ≡ other → map bare ps ≡ map bare qs
vertices_same plan other ps qs m n e = ap (map bare) (m ∙ ap vertices e ∙ sym n)
