-- One line more: the scope, the loops, the edges and the faults of a longer plan.
use Rattle.std.proofs.Common.{◌≡◌, ℕ, ◌+◌, ◌<◌, ◌≤◌, Bool, true, false, ◌&&◌, ◌||◌, nat_le, nat_lt, List, [], ◌∷◌, ◌++◌, length, refl, sym, ap, ◌∙◌, subst, arith}
use Rattle.std.specs.Prelude.{Option, Some, None, is_none, option_map, flat_map, fold, sum_by, drop, Result, Ok, Err}
use Rattle.std.specs.List.{list_all}
use Rattle.std.proofs.lemmas.List.Sums.{fold-append, sum_by-cons, sum_by-append}
use Rattle.std.proofs.lemmas.List.Concat.{length-flat_map}
use Rattle.std.proofs.lemmas.List.FromFn.{length-enumerate_from}
use Rattle.std.proofs.lemmas.List.{length-map, append-nil, length_push}
use Rattle.std.proofs.lemmas.List.Folds.{list_all-append}
use Rattle.td_plan.specs.declared.vertex.Loop.{Loop}
use Rattle.td_plan.specs.declared.mark.Mark.{Mark}
use Rattle.td_plan.specs.declared.mark.Mark.TheVariants as mark
use Rattle.td_plan.specs.declared.error.PlanError.{PlanError}
use Rattle.td_plan.specs.declared.reader.Feedback.{Feedback}
use Rattle.td_plan.specs.Lines.{Vertex, Line, has_form}
use Rattle.td_plan.specs.Lines.Line.{vertex, loop, end}
use Rattle.td_plan.specs.Blocks.{PlacedVertex, Scope, no_scope, scope_after, scope_of, edges_to, edge_count, loops, loops_from}
use Rattle.td_plan.specs.Faults.{Fault, has_fault, faults, fault_of, is_faultless}
use Rattle.td_plan.specs.Steps.Reading.{Draft, Answers, error_of, line_or_fault, with_line}
use Rattle.td_plan.specs.Marks.{lines_of_marks, AreMarked}
use Rattle.td_plan.specs.Steps.Inside.{AreRead, IsCounted}
use Rattle.std.proofs.lemmas.Bool.Decides.{nat_tests}
use Rattle.td_plan.proofs.Trees.{none_found, neither}

-- THE SCOPE AND THE LOOPS
pub scope_push : (plan : List Line) (line : Line) → scope_of (plan ++ line ∷ []) ≡ scope_after (scope_of plan) line
scope_push plan line = fold-append scope_after no_scope plan (line ∷ [])

loops_append : (scope : Scope) (xs ys : List Line) → loops_from scope (xs ++ ys) ≡ loops_from scope xs ++ loops_from (fold scope_after scope xs) ys
loops_append scope [] ys = refl
loops_append scope (vertex v ∷ xs) ys = loops_append (scope_after scope (vertex v)) xs ys
loops_append scope (loop b ∷ xs) ys = ap (λ ls. record { first = length scope.vertices; bound = b } ∷ ls) (loops_append (scope_after scope (loop b)) xs ys)
loops_append scope (end ∷ xs) ys = loops_append (scope_after scope end) xs ys

pub loops_push : (plan : List Line) (line : Line) → loops (plan ++ line ∷ []) ≡ loops plan ++ loops_from (scope_of plan) (line ∷ [])
loops_push plan line = loops_append no_scope plan (line ∷ [])

-- EDGES
pub length-edges_to : (p : PlacedVertex) → length (edges_to p) ≡ length p.vertex.sources
length-edges_to p = length-map _ _ ∙ length-enumerate_from 0 p.vertex.sources

pub edge_count-edges : (placed : List PlacedVertex) → length (flat_map edges_to placed) ≡ edge_count placed
edge_count-edges placed = length-flat_map edges_to placed ∙ by placed
  where
    by : (ps : List PlacedVertex) → sum_by (λ p. length (edges_to p)) ps ≡ edge_count ps
    by [] = refl
    by (p ∷ ps) = sum_by-cons (λ p. length (edges_to p)) p ps ∙ (λ i. length-edges_to p i + by ps i) ∙ sym (sum_by-cons (λ p. length p.vertex.sources) p ps)

-- FAULTS
pub faultless_append : (scope : Scope) (xs ys : List Line) → is_faultless scope (xs ++ ys) ≡ (is_faultless scope xs && is_faultless (fold scope_after scope xs) ys)
faultless_append scope [] ys = refl
faultless_append scope (x ∷ xs) ys = by (is_none (fault_of scope x)) (faultless_append (scope_after scope x) xs ys)
  where
    by : (b : Bool) → is_faultless (scope_after scope x) (xs ++ ys) ≡ (is_faultless (scope_after scope x) xs && is_faultless (fold scope_after (scope_after scope x) xs) ys)
        → (b && is_faultless (scope_after scope x) (xs ++ ys)) ≡ ((b && is_faultless (scope_after scope x) xs) && is_faultless (fold scope_after (scope_after scope x) xs) ys)
    by true e = e
    by false e = refl

pub faultless_push : (plan : List Line) (line : Line) → is_faultless no_scope plan ≡ true → fault_of (scope_of plan) line ≡ None → is_faultless no_scope (plan ++ line ∷ []) ≡ true
faultless_push plan line all none = faultless_append no_scope plan (line ∷ []) ∙ rw (all, none) refl

formed_push : (plan : List Line) (line : Line) → list_all has_form plan ≡ true → has_form line ≡ true → list_all has_form (plan ++ line ∷ []) ≡ true
formed_push plan line all here = list_all-append has_form plan (line ∷ []) ∙ rw (all, here) refl

-- MARKS
pub vertex_marked : (marks : List Mark) (ps : List PlacedVertex) (p : PlacedVertex) → AreMarked marks ps → AreMarked (marks ++ mark.Vertex ∷ []) (ps ++ p ∷ [])
vertex_marked [] [] p m = tt
vertex_marked [] (q ∷ ps) p m = absurd m
vertex_marked (mark.Vertex ∷ marks) [] p m = absurd m
vertex_marked (mark.Vertex ∷ marks) (q ∷ ps) p m = vertex_marked marks ps p m
vertex_marked (mark.Loop b ∷ marks) ps p m = vertex_marked marks ps p m
vertex_marked (mark.End ∷ marks) ps p m = vertex_marked marks ps p m

pub vertex_line : (marks : List Mark) (ps : List PlacedVertex) (p : PlacedVertex) → AreMarked marks ps → lines_of_marks (marks ++ mark.Vertex ∷ []) (ps ++ p ∷ []) ≡ lines_of_marks marks ps ++ vertex p.vertex ∷ []
vertex_line [] [] p m = refl
vertex_line [] (q ∷ ps) p m = absurd m
vertex_line (mark.Vertex ∷ marks) [] p m = absurd m
vertex_line (mark.Vertex ∷ marks) (q ∷ ps) p m = ap (λ ls. vertex q.vertex ∷ ls) (vertex_line marks ps p m)
vertex_line (mark.Loop b ∷ marks) ps p m = ap (λ ls. loop b ∷ ls) (vertex_line marks ps p m)
vertex_line (mark.End ∷ marks) ps p m = ap (λ ls. end ∷ ls) (vertex_line marks ps p m)

pub head_marked : (marks : List Mark) (ps : List PlacedVertex) (bound : ℕ) → AreMarked marks ps → AreMarked (marks ++ mark.Loop bound ∷ []) ps
head_marked [] [] bound m = tt
head_marked [] (q ∷ ps) bound m = absurd m
head_marked (mark.Vertex ∷ marks) [] bound m = absurd m
head_marked (mark.Vertex ∷ marks) (q ∷ ps) bound m = head_marked marks ps bound m
head_marked (mark.Loop b ∷ marks) ps bound m = head_marked marks ps bound m
head_marked (mark.End ∷ marks) ps bound m = head_marked marks ps bound m

pub head_line : (marks : List Mark) (ps : List PlacedVertex) (bound : ℕ) → lines_of_marks (marks ++ mark.Loop bound ∷ []) ps ≡ lines_of_marks marks ps ++ loop bound ∷ []
head_line [] ps bound = refl
head_line (mark.Vertex ∷ marks) [] bound = head_line marks [] bound
head_line (mark.Vertex ∷ marks) (q ∷ ps) bound = ap (λ ls. vertex q.vertex ∷ ls) (head_line marks ps bound)
head_line (mark.Loop b ∷ marks) ps bound = ap (λ ls. loop b ∷ ls) (head_line marks ps bound)
head_line (mark.End ∷ marks) ps bound = ap (λ ls. end ∷ ls) (head_line marks ps bound)

pub end_marked : (marks : List Mark) (ps : List PlacedVertex) → AreMarked marks ps → AreMarked (marks ++ mark.End ∷ []) ps
end_marked [] [] m = tt
end_marked [] (q ∷ ps) m = absurd m
end_marked (mark.Vertex ∷ marks) [] m = absurd m
end_marked (mark.Vertex ∷ marks) (q ∷ ps) m = end_marked marks ps m
end_marked (mark.Loop b ∷ marks) ps m = end_marked marks ps m
end_marked (mark.End ∷ marks) ps m = end_marked marks ps m

pub end_line : (marks : List Mark) (ps : List PlacedVertex) → lines_of_marks (marks ++ mark.End ∷ []) ps ≡ lines_of_marks marks ps ++ end ∷ []
end_line [] ps = refl
end_line (mark.Vertex ∷ marks) [] = end_line marks []
end_line (mark.Vertex ∷ marks) (q ∷ ps) = ap (λ ls. vertex q.vertex ∷ ls) (end_line marks ps)
end_line (mark.Loop b ∷ marks) ps = ap (λ ls. loop b ∷ ls) (end_line marks ps)
end_line (mark.End ∷ marks) ps = ap (λ ls. end ∷ ls) (end_line marks ps)

-- WHAT WAS READ
pub read_push : (lines : List Line) (line : Line) (marks more : List Mark) (scope next : Scope) (kept longer : List Loop) → AreRead lines marks scope kept → has_form line ≡ true → fault_of (scope_of lines) line ≡ None
    → AreMarked more next.vertices → next ≡ scope_after scope line → longer ≡ kept ++ loops_from scope (line ∷ []) → AreRead (lines ++ line ∷ []) more next longer
read_push lines line marks more scope next kept longer r form none marked next_is longer_is = record {
  marked = marked;
  scope_is = next_is ∙ ap (λ s. scope_after s line) r.scope_is ∙ sym (scope_push lines line);
  loops_are = longer_is ∙ (λ i. r.loops_are i ++ loops_from (r.scope_is i) (line ∷ [])) ∙ sym (loops_push lines line);
  formed = formed_push lines line r.formed form;
  faultless = faultless_push lines line r.faultless none;
}

abbrev lines_in : List Mark → Scope → List Line
lines_in marks scope = lines_of_marks marks scope.vertices

are_marked : (more marks : List Mark) (next vs : List PlacedVertex) → more ≡ marks → next ≡ vs → AreMarked marks vs → AreMarked more next
are_marked more marks next vs e f m = subst (λ (p : List Mark × List PlacedVertex). AreMarked p.0 p.1) (λ i. (sym e i, sym f i)) m

pub end_lines : (marks more : List Mark) (scope next : Scope) → more ≡ marks ++ mark.End ∷ [] → next ≡ scope_after scope end → lines_in more next ≡ lines_in marks scope ++ end ∷ []
end_lines marks more scope next e n = (λ i. lines_of_marks (e i) (n i).vertices) ∙ end_line marks scope.vertices

pub end_read : (marks more : List Mark) (scope next : Scope) (kept : List Loop) → AreRead (lines_in marks scope) marks scope kept → more ≡ marks ++ mark.End ∷ [] → next ≡ scope_after scope end
    → fault_of (scope_of (lines_in marks scope)) end ≡ None → AreRead (lines_in more next) more next kept
end_read marks more scope next kept r e n none =
    subst (λ ls. AreRead ls more next kept) (sym (end_lines marks more scope next e n))
    (read_push (lines_in marks scope) end marks more scope next kept kept r refl none (are_marked more _ next.vertices _ e (λ i. (n i).vertices) (end_marked marks scope.vertices r.marked)) n (sym (append-nil kept)))

pub head_lines : (marks more : List Mark) (scope next : Scope) (bound : ℕ) → more ≡ marks ++ mark.Loop bound ∷ [] → next ≡ scope_after scope (loop bound) → lines_in more next ≡ lines_in marks scope ++ loop bound ∷ []
head_lines marks more scope next bound e n = (λ i. lines_of_marks (e i) (n i).vertices) ∙ head_line marks scope.vertices bound

pub head_read : (marks more : List Mark) (scope next : Scope) (kept longer : List Loop) (bound : ℕ) → AreRead (lines_in marks scope) marks scope kept → more ≡ marks ++ mark.Loop bound ∷ []
    → next ≡ scope_after scope (loop bound) → longer ≡ kept ++ record { first = length scope.vertices; bound = bound } ∷ [] → has_form (loop bound) ≡ true → fault_of (scope_of (lines_in marks scope)) (loop bound) ≡ None
    → AreRead (lines_in more next) more next longer
head_read marks more scope next kept longer bound r e n l form none =
    subst (λ ls. AreRead ls more next longer) (sym (head_lines marks more scope next bound e n))
    (read_push (lines_in marks scope) (loop bound) marks more scope next kept longer r form none (are_marked more _ next.vertices _ e (λ i. (n i).vertices) (head_marked marks scope.vertices bound r.marked)) n l)

pub vertex_lines : (marks more : List Mark) (scope next : Scope) (v : Vertex) → AreMarked marks scope.vertices → more ≡ marks ++ mark.Vertex ∷ [] → next ≡ scope_after scope (vertex v)
    → lines_in more next ≡ lines_in marks scope ++ vertex v ∷ []
vertex_lines marks more scope next v m e n = (λ i. lines_of_marks (e i) (n i).vertices) ∙ vertex_line marks scope.vertices (record { vertex = v; loops = scope.loops }) m

pub vertex_read : (marks more : List Mark) (scope next : Scope) (kept : List Loop) (v : Vertex) → AreRead (lines_in marks scope) marks scope kept → more ≡ marks ++ mark.Vertex ∷ []
    → next ≡ scope_after scope (vertex v) → has_form (vertex v) ≡ true → fault_of (scope_of (lines_in marks scope)) (vertex v) ≡ None → AreRead (lines_in more next) more next kept
vertex_read marks more scope next kept v r e n form none =
    subst (λ ls. AreRead ls more next kept) (sym (vertex_lines marks more scope next v r.marked e n))
    (read_push (lines_in marks scope) (vertex v) marks more scope next kept kept r form none
    (are_marked more _ next.vertices _ e (λ i. (n i).vertices) (vertex_marked marks scope.vertices (record { vertex = v; loops = scope.loops }) r.marked)) n (sym (append-nil kept)))

-- a draft, by its parts
pub drafted : (a b : List Line) (f g : List Feedback) → a ≡ b → f ≡ g → ◌≡◌ {A = Result Draft PlanError} (Ok (record { lines = a; feedbacks = f })) (Ok (record { lines = b; feedbacks = g }))
drafted a b f g p q = λ i. Ok (record { lines = p i; feedbacks = q i })

-- COUNTS
not_le : (a b : ℕ) → nat_le a b ≡ false → b < a
not_le a b h = grind (arith, nat_tests)

not_lt : (a b : ℕ) → nat_lt a b ≡ false → b ≤ a
not_lt a b h = grind (arith, nat_tests)

pub count_push : (ps : List PlacedVertex) (p : PlacedVertex) → edge_count (ps ++ p ∷ []) ≡ edge_count ps + length p.vertex.sources
count_push ps p =
    let here : sum_by (λ (q : PlacedVertex). length q.vertex.sources) (p ∷ []) ≡ length p.vertex.sources = sum_by-cons (λ (q : PlacedVertex). length q.vertex.sources) p [] ∙ omega arith in
    sum_by-append (λ q. length q.vertex.sources) ps (p ∷ []) ∙ ap (λ n. edge_count ps + n) here

-- a vertex without a fault is not one too many, nor its sources, nor the edges that lead to it
pub record IsFew (scope : Scope) (v : Vertex) : Type 0 where
  pub vertices : length scope.vertices < 64
  pub sources : length v.sources ≤ 8
  pub edges : edge_count scope.vertices + length v.sources ≤ 128

pub few : (scope : Scope) (v : Vertex) → fault_of scope (vertex v) ≡ None → IsFew scope v
few scope v none =
    let p : Fault → Bool = has_fault scope (vertex v) in
    let a = none_found p Fault.syntax (drop 1 faults) (ap is_none none) in
    let b = none_found p Fault.number (drop 2 faults) a.1 in
    let c = none_found p Fault.order (drop 3 faults) b.1 in
    let d = none_found p Fault.nest (drop 4 faults) c.1 in
    let e = none_found p Fault.bound (drop 5 faults) d.1 in
    let f = none_found p Fault.fold_in_loop (drop 6 faults) e.1 in
    let g = none_found p Fault.again (drop 7 faults) f.1 in
    let h = none_found p Fault.too_many (drop 8 faults) g.1 in
    let first = neither (nat_le 64 (length scope.vertices) || nat_lt 8 (length v.sources)) (nat_lt 128 (edge_count scope.vertices + length v.sources)) h.0 in
    let two = neither (nat_le 64 (length scope.vertices)) (nat_lt 8 (length v.sources)) first.0 in
    record { vertices = not_le 64 _ two.0; sources = not_lt 8 _ two.1; edges = not_lt 128 _ first.1 }

pub counted_push : (scope : Scope) (v : Vertex) (count : ℕ) → IsCounted scope.vertices count → fault_of scope (vertex v) ≡ None → IsCounted (scope_after scope (vertex v)).vertices (count + length v.sources)
counted_push scope v count c none =
    let f = few scope v none in
    let longer = length_push scope.vertices (record { vertex = v; loops = scope.loops }) in
    record {
      counted = ap (λ n. n + length v.sources) c.counted ∙ sym (count_push scope.vertices (record { vertex = v; loops = scope.loops }));
      few_vertices = omega (arith, f.vertices, longer);
      few_edges = omega (arith, f.edges, c.counted);
    }

-- THE ANSWER OF A LINE
pub refused_line : (draft : Draft) (n : ℕ) (line : Line) (e : PlanError) → Some e ≡ option_map (λ f. error_of f n) (fault_of (scope_of draft.lines) line) → with_line draft n line ≡ Err e
refused_line draft n line e some = by (fault_of (scope_of draft.lines) line) refl some
  where
    by : (o : Option Fault) → fault_of (scope_of draft.lines) line ≡ o → Some e ≡ option_map (λ f. error_of f n) o → with_line draft n line ≡ Err e
    by None at s = absurd (cc)
    by (Some f) at s = let same : error_of f n ≡ e = cc in ap (line_or_fault draft n line) at ∙ ap Err same

pub taken_line : (draft : Draft) (n : ℕ) (line : Line) → None ≡ option_map (λ f. error_of f n) (fault_of (scope_of draft.lines) line) → fault_of (scope_of draft.lines) line ≡ None
taken_line draft n line none = by (fault_of (scope_of draft.lines) line) refl none
  where
    by : (o : Option Fault) → fault_of (scope_of draft.lines) line ≡ o → None ≡ option_map (λ f. error_of f n) o → fault_of (scope_of draft.lines) line ≡ None
    by None at s = at
    by (Some f) at s = absurd (cc)

pub taken_answer : (draft : Draft) (n : ℕ) (line : Line) (r : Result Draft PlanError) → fault_of (scope_of draft.lines) line ≡ None → Answers r (line_or_fault draft n line None) → Answers r (with_line draft n line)
taken_answer draft n line r none a = subst (λ o. Answers r (line_or_fault draft n line o)) (sym none) a
