-- How long the canonical text of a plan is at most: 15 bytes for a vertex beside its sources, 3 for each of these, and 14
-- for a loop. Loops are counted by the vertices in loops: there are at most three round each, and none round no vertex.
use Rattle.std.proofs.Common.{◌≡◌, ℕ, ◌+◌, ◌*◌, ◌<◌, ◌≤◌, Bool, true, false, not, ◌&&◌, ◌||◌, ◌==◌, nat_le, nat_lt, List, [], ◌∷◌, ◌++◌, length, map, refl, sym, ap, ◌∙◌, arith, codes, cond, length-append}
use Rattle.std.specs.Prelude.{is_none, decimal, fold, drop, sum_by}
use Rattle.std.specs.List.{list_all, list_any}
use Rattle.std.proofs.lemmas.List.{length_push}
use Rattle.std.proofs.lemmas.List.Folds.{list_all-append}
use Rattle.std.proofs.lemmas.List.Sums.{sum_by-append, sum_by-cons}
use Rattle.std.proofs.lemmas.Bool.{leb-true, ltb-true}
use Rattle.std.proofs.lemmas.Bool.Decides.{nat_tests}
use Rattle.std.proofs.lemmas.Fmt.{length-decimal-le}
use Rattle.td_plan.specs.declared.vertex.Kind.{Kind}
use Rattle.td_plan.specs.declared.vertex.Kind.TheVariants.{Input, Map, Distinct, Group, Fold, Enter, Feedback, Leave, Output}
use Rattle.td_plan.specs.declared.vertex.Loop.{Loop}
use Rattle.td_plan.specs.Lines.{Vertex, Line, has_form, has_code, has_arity, text_of, text_of_line, words_of_kind}
use Rattle.td_plan.specs.Lines.Line.{vertex, loop, end}
use Rattle.td_plan.specs.Text.{has_nine_digits}
use Rattle.td_plan.specs.Blocks.{PlacedVertex, scope_after, vertices, edge_count}
use Rattle.td_plan.specs.Faults.{Fault, has_fault, faults, fault_of, is_faultless, is_in_loop, is_input, is_output, is_of_outermost, is_of_loops, ends_nothing, is_nil, IsPlan}
use Rattle.td_plan.specs.Steps.Inside.{is_narrow}
use Rattle.td_plan.specs.Steps.Printed.{spaced}
use Rattle.td_plan.proofs.Readings.{both}
use Rattle.td_plan.proofs.Printing.{line_printed}
use Rattle.td_plan.proofs.Trees.{none_found, neither, scope, rest_faultless}
use Rattle.td_plan.proofs.Growth.{few, count_push}
use Rattle.td_plan.proofs.Built.{grown, none_when, plan_narrow}

-- WORDS
two_digits : (n : ℕ) → nat_lt n 64 ≡ true → length (decimal n) ≤ 2
two_digits n h = let lt : n < 64 = ltb-true n 64 h in let small : n < 100 = omega arith in length-decimal-le 2 n (omega arith) small (omega arith)

four_digits : (n : ℕ) → n ≤ 1000 → length (decimal n) ≤ 4
four_digits n h = let small : n < 10000 = omega arith in length-decimal-le 4 n (omega arith) small (omega arith)

five_digits : (n : ℕ) → nat_le n 65535 ≡ true → length (decimal n) ≤ 5
five_digits n h = let le : n ≤ 65535 = leb-true n 65535 h in let small : n < 100000 = omega arith in length-decimal-le 5 n (omega arith) small (omega arith)

sources_length : (ss : List ℕ) → list_all (λ s. nat_lt s 64) ss ≡ true → length (spaced (map decimal ss)) ≤ 3 * length ss
sources_length [] h = omega arith
sources_length (s ∷ ss) h =
    let parts = both (nat_lt s 64) (list_all (λ s. nat_lt s 64) ss) h in
    let here = two_digits s parts.0 in
    let more = sources_length ss parts.1 in
    let all = length-append (32 ∷ decimal s) (spaced (map decimal ss)) in
    omega arith

coded_length : (word : List ℕ) (code : ℕ) → length word ≤ 5 → nat_le code 65535 ≡ true → length (spaced (word ∷ decimal code ∷ [])) ≤ 12
coded_length word code h le =
    let digits = five_digits code le in
    let a = length-append (32 ∷ word) (spaced (decimal code ∷ [])) in
    let b = length-append (32 ∷ decimal code) (spaced []) in
    omega arith

kind_length : (k : Kind) → has_code k ≡ true → length (spaced (words_of_kind k)) ≤ 12
kind_length Input h = omega arith
kind_length (Map c) h = coded_length (codes "map") c (omega arith) h
kind_length Distinct h = omega arith
kind_length (Group c) h = coded_length (codes "group") c (omega arith) h
kind_length (Fold c) h = coded_length (codes "fold") c (omega arith) h
kind_length Enter h = omega arith
kind_length Feedback h = omega arith
kind_length Leave h = omega arith
kind_length Output h = omega arith

-- LINES
code_of_form : (v : Vertex) → has_form (vertex v) ≡ true → has_code v.kind ≡ true
code_of_form v h =
    let arity = both (has_nine_digits v.number && has_code v.kind && list_all has_nine_digits v.sources) (has_arity v.kind (length v.sources)) h in
    let nine = both (has_nine_digits v.number && has_code v.kind) (list_all has_nine_digits v.sources) arity.0 in
    (both (has_nine_digits v.number) (has_code v.kind) nine.0).1

vertex_length : (v : Vertex) (ls : List Loop) → has_form (vertex v) ≡ true → is_narrow (record { vertex = v; loops = ls }) ≡ true → length (text_of_line (vertex v)) ≤ 15 + 3 * length v.sources
vertex_length v ls form narrow =
    let outer = both (nat_lt v.number 64 && nat_le (length v.sources) 8) (list_all (λ s. nat_lt s 64) v.sources) narrow in
    let number = two_digits v.number (both (nat_lt v.number 64) (nat_le (length v.sources) 8) outer.0).0 in
    let kind = kind_length v.kind (code_of_form v form) in
    let sources = sources_length v.sources outer.1 in
    let n = decimal v.number in
    let k = spaced (words_of_kind v.kind) in
    let s = spaced (map decimal v.sources) in
    let whole : length (text_of_line (vertex v)) ≡ length (((n ++ k) ++ s) ++ 10 ∷ []) = ap length (line_printed v) in
    let a = length_push ((n ++ k) ++ s) 10 in
    let b = length-append (n ++ k) s in
    let c = length-append n k in
    omega arith

head_length : (bound : ℕ) → bound ≤ 1000 → length (text_of_line (loop bound)) ≤ 10
head_length bound h =
    let digits = four_digits bound h in
    let a = length_push (codes "loop" ++ 32 ∷ decimal bound) 10 in
    let b = length-append (codes "loop") (32 ∷ decimal bound) in
    omega arith

-- COUNTS
abbrev in_loop : PlacedVertex → ℕ
in_loop p = cond (is_in_loop p.loops) 1 0

-- how many of these vertices stand in loops
abbrev inner : List PlacedVertex → ℕ
inner vs = sum_by in_loop vs

inner_push : (vs : List PlacedVertex) (p : PlacedVertex) → inner (vs ++ p ∷ []) ≡ inner vs + in_loop p
inner_push vs p =
    let here : sum_by in_loop (p ∷ []) ≡ in_loop p = sum_by-cons in_loop p [] ∙ omega arith in
    sum_by-append in_loop vs (p ∷ []) ∙ ap (λ n. inner vs + n) here

-- how many of these open loops have no vertex yet, of which there are n
pending : ℕ → List Loop → ℕ
pending n [] = 0
pending n (l ∷ ls) = cond (l.first == n) 1 0 + pending n ls

pending_few : (n : ℕ) (ls : List Loop) → pending n ls ≤ length ls
unfolding pending
pending_few n [] = omega arith
pending_few n (l ∷ ls) = by (l.first == n) (pending_few n ls)
  where
    by : (b : Bool) → pending n ls ≤ length ls → cond b 1 0 + pending n ls ≤ length (l ∷ ls)
    by true h = omega arith
    by false h = omega arith

pending_head : (n bound : ℕ) (ls : List Loop) → pending n (record { first = n; bound = bound } ∷ ls) ≡ 1 + pending n ls
unfolding pending
pending_head n bound ls = ap (λ b. cond b 1 0 + pending n ls) (let same : (n == n) ≡ true = grind (arith, nat_tests) in same)

pending_end : (n : ℕ) (l : Loop) (ls : List Loop) → (l.first == n) ≡ false → pending n (l ∷ ls) ≡ pending n ls
unfolding pending
pending_end n l ls h = ap (λ b. cond b 1 0 + pending n ls) h ∙ omega arith

pending_none : (n : ℕ) (ls : List Loop) → is_nil ls ≡ true → pending n ls ≡ 0
unfolding pending
pending_none n [] h = refl
pending_none n (l ∷ ls) h = absurd (cc)

not_lt : (a b : ℕ) → nat_le a b ≡ false → b < a
not_lt a b h = grind (arith, nat_tests)

-- the head of a loop without a fault
head_known : (vs : List PlacedVertex) (ls : List Loop) (bound : ℕ) → is_none (fault_of (scope vs ls) (loop bound)) ≡ true → (bound ≤ 1000) × (length ls < 3)
head_known vs ls bound none =
    let p : Fault → Bool = has_fault (scope vs ls) (loop bound) in
    let a = none_found p Fault.syntax (drop 1 faults) none in
    let b = none_found p Fault.number (drop 2 faults) a.1 in
    let c = none_found p Fault.order (drop 3 faults) b.1 in
    let d = none_found p Fault.nest (drop 4 faults) c.1 in
    let e = none_found p Fault.bound (drop 5 faults) d.1 in
    let f = none_found p Fault.fold_in_loop (drop 6 faults) e.1 in
    let g = none_found p Fault.again (drop 7 faults) f.1 in
    let h = none_found p Fault.too_many (drop 8 faults) g.1 in
    (within bound e.0, not_lt 3 (length ls) h.0)
  where
    within : (n : ℕ) → not (nat_le 1 n && nat_le n 1000) ≡ false → n ≤ 1000
    within n h = grind (arith, nat_tests)

-- and the end of one
end_known : (vs : List PlacedVertex) (ls : List Loop) → is_none (fault_of (scope vs ls) end) ≡ true → ends_nothing ls (length vs) ≡ false
end_known vs ls none = let p : Fault → Bool = has_fault (scope vs ls) end in (none_found p Fault.syntax (drop 1 faults) none).0

-- a vertex stands where its kind may
abbrev fits : PlacedVertex → Bool
fits p = not (is_in_loop p.loops && is_of_outermost p.vertex.kind)

vertex_fits : (vs : List PlacedVertex) (ls : List Loop) (v : Vertex) → is_none (fault_of (scope vs ls) (vertex v)) ≡ true → fits (record { vertex = v; loops = ls }) ≡ true
vertex_fits vs ls v none =
    let p : Fault → Bool = has_fault (scope vs ls) (vertex v) in
    let a = none_found p Fault.syntax (drop 1 faults) none in
    let b = none_found p Fault.number (drop 2 faults) a.1 in
    let c = none_found p Fault.order (drop 3 faults) b.1 in
    let d = none_found p Fault.nest (drop 4 faults) c.1 in
    let misplaced = neither ((is_in_loop ls && is_of_outermost v.kind) || (not (is_in_loop ls) && is_of_loops v.kind)) _ d.0 in
    ap not (neither (is_in_loop ls && is_of_outermost v.kind) (not (is_in_loop ls) && is_of_loops v.kind) misplaced.0).0

-- ALONG THE LINES
abbrev pub after : List PlacedVertex → List Loop → List Line → List PlacedVertex
after vs ls lines = (fold scope_after (scope vs ls) lines).vertices

record IsMeasured (lines : List Line) (vs : List PlacedVertex) (ls : List Loop) : Type 0 where
  bytes : length (text_of lines) + 15 * length vs + 3 * edge_count vs + 42 * inner vs + 14 * pending (length vs) ls
      ≤ 15 * length (after vs ls lines) + 3 * edge_count (after vs ls lines) + 42 * inner (after vs ls lines) + 4 * length ls
  vertices : length (after vs ls lines) ≤ 64
  edges : edge_count (after vs ls lines) ≤ 128
  fit : list_all fits (after vs ls lines) ≡ true

nil_length : (ls : List Loop) → is_nil ls ≡ true → length ls ≡ 0
nil_length [] h = refl
nil_length (l ∷ ls) h = absurd (cc)

-- a vertex more makes up for the open loops that had none
made_up : (ls : List Loop) (b : Bool) (n m : ℕ) → is_in_loop ls ≡ b → length ls ≤ 3 → 14 * pending n ls ≤ 42 * cond b 1 0 + 14 * pending m ls
unfolding pending
made_up [] b n m e le = omega arith
made_up (l ∷ ls) true n m e le = let h = pending_few n (l ∷ ls) in omega arith
made_up (l ∷ ls) false n m e le = absurd (cc)

measured : (lines : List Line) (vs : List PlacedVertex) (ls : List Loop) → list_all has_form lines ≡ true → is_faultless (scope vs ls) lines ≡ true → is_nil (fold scope_after (scope vs ls) lines).loops ≡ true
    → list_all is_narrow (after vs ls lines) ≡ true → length ls ≤ 3 → length vs ≤ 64 → edge_count vs ≤ 128 → list_all fits vs ≡ true → IsMeasured lines vs ls
measured [] vs ls form f closed narrow depth few_vs few_es fit =
    let none = pending_none (length vs) ls closed in
    record { bytes = omega arith; vertices = few_vs; edges = few_es; fit = fit }
measured (vertex v ∷ lines) vs ls form f closed narrow depth few_vs few_es fit =
    let here : PlacedVertex = record { vertex = v; loops = ls } in
    let forms = both (has_form (vertex v)) (list_all has_form lines) form in
    let parts = both (is_none (fault_of (scope vs ls) (vertex v))) (is_faultless (scope (vs ++ here ∷ []) ls) lines) f in
    let r = grown lines (vs ++ here ∷ []) ls in
    let all : list_all is_narrow ((vs ++ here ∷ []) ++ r.0) ≡ true = ap (list_all is_narrow) (sym r.1) ∙ narrow in
    let front = both (list_all is_narrow (vs ++ here ∷ [])) (list_all is_narrow r.0) (sym (list_all-append is_narrow (vs ++ here ∷ []) r.0) ∙ all) in
    let last = both (list_all is_narrow vs) (list_all is_narrow (here ∷ [])) (sym (list_all-append is_narrow vs (here ∷ [])) ∙ front.0) in
    let one = both (is_narrow here) true last.1 in
    let line = vertex_length v ls forms.0 one.0 in
    let size = few (scope vs ls) v (none_when (scope vs ls) (vertex v) parts.0) in
    let count = length_push vs here in
    let edges = count_push vs here in
    let loops = inner_push vs here in
    let up = made_up ls (is_in_loop ls) (length vs) (length (vs ++ here ∷ [])) refl depth in
    let m = measured lines (vs ++ here ∷ []) ls forms.1 parts.1 closed narrow depth (omega (arith, size.vertices, count)) (omega (arith, size.edges, edges))
    (list_all-append fits vs (here ∷ []) ∙ rw (fit, vertex_fits vs ls v parts.0) refl) in
    let text = length-append (text_of_line (vertex v)) (text_of lines) in
    record { bytes = omega (arith, m.bytes, line, count, edges, loops, up, text); vertices = m.vertices; edges = m.edges; fit = m.fit }
measured (loop b ∷ lines) vs ls form f closed narrow depth few_vs few_es fit =
    let l : Loop = record { first = length vs; bound = b } in
    let forms = both (has_form (loop b)) (list_all has_form lines) form in
    let parts = both (is_none (fault_of (scope vs ls) (loop b))) (is_faultless (scope vs (l ∷ ls)) lines) f in
    let known = head_known vs ls b parts.0 in
    let line = head_length b known.0 in
    let m = measured lines vs (l ∷ ls) forms.1 parts.1 closed narrow (omega (arith, known.1)) few_vs few_es fit in
    let more = pending_head (length vs) b ls in
    let text = length-append (text_of_line (loop b)) (text_of lines) in
    record { bytes = omega (arith, m.bytes, line, more, text); vertices = m.vertices; edges = m.edges; fit = m.fit }
measured (end ∷ lines) vs [] form f closed narrow depth few_vs few_es fit = absurd (cc)
measured (end ∷ lines) vs (l ∷ ls) form f closed narrow depth few_vs few_es fit =
    let parts = both (is_none (fault_of (scope vs (l ∷ ls)) end)) (is_faultless (scope vs ls) lines) f in
    let known = end_known vs (l ∷ ls) parts.0 in
    let m = measured lines vs ls form parts.1 closed narrow (omega (arith, depth)) few_vs few_es fit in
    let same = pending_end (length vs) l ls known in
    let text = length-append (text_of_line end) (text_of lines) in
    record { bytes = omega (arith, m.bytes, same, text); vertices = m.vertices; edges = m.edges; fit = m.fit }

-- AN INPUT AND AN OUTPUT STAND IN NO LOOP
abbrev has_some : (PlacedVertex → Bool) → List PlacedVertex → ℕ
has_some p vs = cond (list_any p vs) 1 0

some_more : (a b : Bool) → cond (a || b) 1 0 ≤ cond a 1 0 + cond b 1 0
some_more true b = omega arith
some_more false b = omega arith

one_of : (k : Kind) (b : Bool) → not (b && is_of_outermost k) ≡ true → cond b 1 0 + cond (is_input k) 1 0 + cond (is_output k) 1 0 ≤ 1
one_of Input true h = absurd (cc)
one_of Output true h = absurd (cc)
one_of Input false h = omega arith
one_of Output false h = omega arith
one_of _ true h = omega arith
one_of _ false h = omega arith

outer_left : (vs : List PlacedVertex) → list_all fits vs ≡ true → inner vs + has_some (λ p. is_input p.vertex.kind) vs + has_some (λ p. is_output p.vertex.kind) vs ≤ length vs
outer_left [] h = omega arith
outer_left (p ∷ vs) h =
    let parts = both (fits p) (list_all fits vs) h in
    let rest = outer_left vs parts.1 in
    let here = one_of p.vertex.kind (is_in_loop p.loops) parts.0 in
    let loops = sum_by-cons in_loop p vs in
    let inputs = some_more (is_input p.vertex.kind) (list_any (λ p. is_input p.vertex.kind) vs) in
    let outputs = some_more (is_output p.vertex.kind) (list_any (λ p. is_output p.vertex.kind) vs) in
    omega (arith, rest, here, loops, inputs, outputs)

-- a plan has at most 64 vertices
few_lines : (lines : List Line) (vs : List PlacedVertex) (ls : List Loop) → is_faultless (scope vs ls) lines ≡ true → length vs ≤ 64 → length (after vs ls lines) ≤ 64
few_lines [] vs ls f le = le
few_lines (vertex v ∷ lines) vs ls f le =
    let here : PlacedVertex = record { vertex = v; loops = ls } in
    let parts = both (is_none (fault_of (scope vs ls) (vertex v))) (is_faultless (scope (vs ++ here ∷ []) ls) lines) f in
    let size = few (scope vs ls) v (none_when (scope vs ls) (vertex v) parts.0) in
    few_lines lines (vs ++ here ∷ []) ls parts.1 (omega (arith, size.vertices, length_push vs here))
few_lines (loop b ∷ lines) vs ls f le = few_lines lines vs (record { first = length vs; bound = b } ∷ ls) (rest_faultless (scope vs ls) (loop b) lines f) le
few_lines (end ∷ lines) vs ls f le = few_lines lines vs (drop 1 ls) (rest_faultless (scope vs ls) end lines f) le

pub at_most : (plan : List Line) → IsPlan plan → length (text_of plan) ≤ 3948
at_most plan p =
    let start = few_lines plan [] [] p.faultless (omega arith) in
    let m = measured plan [] [] p.formed p.faultless p.closed (plan_narrow plan p start) (omega arith) (omega arith) (omega arith) refl in
    let ends = both (list_any (λ p. is_input p.vertex.kind) (vertices plan)) (list_any (λ p. is_output p.vertex.kind) (vertices plan)) p.ends in
    let outer = outer_left (vertices plan) m.fit in
    let inputs : has_some (λ p. is_input p.vertex.kind) (vertices plan) ≡ 1 = ap (λ b. cond b 1 0) ends.0 in
    let outputs : has_some (λ p. is_output p.vertex.kind) (vertices plan) ≡ 1 = ap (λ b. cond b 1 0) ends.1 in
    omega (arith, m.bytes, m.vertices, m.edges, outer, inputs, outputs)
