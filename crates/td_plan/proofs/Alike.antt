-- Loops of a plan that have the same first numbers are the same, and so are those around them.
use Rattle.std.proofs.Common.{◌≡◌, ℕ, zero, suc, ◌+◌, ◌<◌, ◌≤◌, ◌⊎◌, inl, inr, List, [], ◌∷◌, ◌++◌, length, refl, ap, sym, ◌∙◌, subst, arith, length-append}
use Rattle.std.specs.Prelude.{Some, drop, fold}
use Rattle.std.specs.List.{AllByRecursion, slice_get}
use Rattle.std.proofs.lemmas.List.{length-map}
use Rattle.td_plan.specs.declared.vertex.Loop.{Loop}
use Rattle.td_plan.specs.Lines.{Line}
use Rattle.td_plan.specs.Lines.Line.{vertex, loop, end}
use Rattle.td_plan.specs.Blocks.{PlacedVertex, Scope, no_scope, scope_after, vertices, firsts}
use Rattle.td_plan.specs.Standing.{AreAlike}
use Rattle.td_plan.proofs.ReadOn.{all_weaker}

shorter : (ls : List Loop) (k : ℕ) → length (drop k ls) ≤ length ls
shorter [] zero = omega arith
shorter [] (suc k) = omega arith
shorter (l ∷ ls) zero = omega arith
shorter (l ∷ ls) (suc k) = let r = shorter ls k in omega (arith, r)

as_long : (a b : List Loop) → firsts a ≡ firsts b → length a ≡ length b
as_long a b e = sym (length-map a (λ l. l.first)) ∙ ap length e ∙ length-map b (λ l. l.first)

alike_itself : (ls : List Loop) → AreAlike ls ls
alike_itself [] zero zero e = refl
alike_itself [] zero (suc k) e = refl
alike_itself [] (suc j) zero e = refl
alike_itself [] (suc j) (suc k) e = refl
alike_itself (l ∷ ls) zero zero e = refl
alike_itself (l ∷ ls) zero (suc k) e = let n = as_long (l ∷ ls) (drop k ls) e in let m = shorter ls k in absurd (omega (arith, n, m))
alike_itself (l ∷ ls) (suc j) zero e = let n = as_long (drop j ls) (l ∷ ls) e in let m = shorter ls j in absurd (omega (arith, n, m))
alike_itself (l ∷ ls) (suc j) (suc k) e = alike_itself ls j k e

alike_around : (a b : List Loop) → AreAlike a b → AreAlike a (drop 1 b)
alike_around a [] h j zero e = h j zero e
alike_around a [] h j (suc k) e = h j zero e
alike_around a (l ∷ b) h j k e = h j (suc k) e

-- a loop that begins after these
alike_later : (a b : List Loop) (l : Loop) → AllByRecursion (λ m. m.first < l.first) a → AreAlike a b → AreAlike a (l ∷ b)
alike_later a b l late h j (suc k) e = h j k e
alike_later a b l late h j zero e = absurd (by a j late e)
  where
    by : (a : List Loop) (j : ℕ) → AllByRecursion (λ m. m.first < l.first) a → firsts (drop j a) ≡ l.first ∷ firsts b → ⊥
    by [] zero late e = cc
    by [] (suc j) late e = cc
    by (m ∷ a) zero late e = let same : m.first ≡ l.first = cc in omega (arith, same, late.0)
    by (m ∷ a) (suc j) late e = by a j late.1 e

alike_back : (a b : List Loop) → AreAlike a b → AreAlike b a
alike_back a b h j k e = sym (h k j (sym e))

-- BEGUN: the loops all begin before this number
AreBegun : ℕ → List Loop → Type 0
AreBegun n ls = AllByRecursion (λ (l : Loop). l.first < n) ls

begun_by : (n m : ℕ) → n ≤ m → (ls : List Loop) → AreBegun n ls → AreBegun m ls
unfolding AreBegun
begun_by n m h ls b = all_weaker (λ l. l.first < n) (λ l. l.first < m) (λ l e. omega (arith, h, e)) ls b

begun_around : (n : ℕ) (ls : List Loop) → AreBegun n ls → AreBegun n (drop 1 ls)
unfolding AreBegun
begun_around n [] b = tt
begun_around n (l ∷ ls) b = b.1

-- ALONG THE LINES
-- the last of a list, or one before it
last_or_before : {X : Type 0} (xs : List X) (y : X) (i : ℕ) (x : X) → slice_get (xs ++ y ∷ []) i ≡ Some x → (slice_get xs i ≡ Some x) ⊎ (y ≡ x)
last_or_before [] y zero x h = inr (cc)
last_or_before [] y (suc i) x h = absurd (cc)
last_or_before (z ∷ xs) y zero x h = inl h
last_or_before (z ∷ xs) y (suc i) x h = last_or_before xs y i x h

-- what is known of the vertices and the open loops of a scope
record Known (vs : List PlacedVertex) (ls : List Loop) : Type 0 where
  earlier : (i : ℕ) (p : PlacedVertex) → slice_get vs i ≡ Some p → AreBegun (length vs) p.loops
  begun : AreBegun (length vs + 1) ls
  around : (i : ℕ) (p : PlacedVertex) → slice_get vs i ≡ Some p → AreAlike p.loops ls
  alike : (i j : ℕ) (p q : PlacedVertex) → slice_get vs i ≡ Some p → slice_get vs j ≡ Some q → AreAlike p.loops q.loops

known_after : (scope : Scope) (line : Line) → Known scope.vertices scope.loops → Known (scope_after scope line).vertices (scope_after scope line).loops
unfolding AreBegun
known_after scope (vertex v) k = record {
  earlier = λ i p at. earlier i p (last_or_before scope.vertices here i p at);
  begun = begun_by (length scope.vertices + 1) (length (scope.vertices ++ here ∷ []) + 1) (omega (arith, longer)) scope.loops k.begun;
  around = λ i p at. around i p (last_or_before scope.vertices here i p at);
  alike = λ i j p q at to. alike i j p q (last_or_before scope.vertices here i p at) (last_or_before scope.vertices here j q to);
}
  where
    here : PlacedVertex
    here = record { vertex = v; loops = scope.loops }

    longer : length (scope.vertices ++ here ∷ []) ≡ length scope.vertices + 1
    longer = length-append scope.vertices (here ∷ [])

    earlier : (i : ℕ) (p : PlacedVertex) → (slice_get scope.vertices i ≡ Some p) ⊎ (here ≡ p) → AreBegun (length (scope.vertices ++ here ∷ [])) p.loops
    earlier i p (inl a) = begun_by (length scope.vertices) (length (scope.vertices ++ here ∷ [])) (omega (arith, longer)) p.loops (k.earlier i p a)
    earlier i p (inr a) = subst (λ (q : PlacedVertex). AreBegun (length (scope.vertices ++ here ∷ [])) q.loops) a
        (begun_by (length scope.vertices + 1) (length (scope.vertices ++ here ∷ [])) (omega (arith, longer)) scope.loops k.begun)

    around : (i : ℕ) (p : PlacedVertex) → (slice_get scope.vertices i ≡ Some p) ⊎ (here ≡ p) → AreAlike p.loops scope.loops
    around i p (inl a) = k.around i p a
    around i p (inr a) = subst (λ (q : PlacedVertex). AreAlike q.loops scope.loops) a (alike_itself scope.loops)

    alike : (i j : ℕ) (p q : PlacedVertex) → (slice_get scope.vertices i ≡ Some p) ⊎ (here ≡ p) → (slice_get scope.vertices j ≡ Some q) ⊎ (here ≡ q) → AreAlike p.loops q.loops
    alike i j p q (inl a) (inl b) = k.alike i j p q a b
    alike i j p q x (inr b) = subst (λ (y : PlacedVertex). AreAlike p.loops y.loops) b (around i p x)
    alike i j p q (inr a) (inl b) = alike_back q.loops p.loops (subst (λ (y : PlacedVertex). AreAlike q.loops y.loops) a (k.around j q b))
known_after scope (loop n) k = record {
  earlier = k.earlier;
  begun = (omega arith, k.begun);
  around = λ i p at. alike_later p.loops scope.loops (record { first = length scope.vertices; bound = n }) (k.earlier i p at) (k.around i p at);
  alike = k.alike;
}
known_after scope end k = record {
  earlier = k.earlier;
  begun = begun_around (length scope.vertices + 1) scope.loops k.begun;
  around = λ i p at. alike_around p.loops scope.loops (k.around i p at);
  alike = k.alike;
}

known_from : (lines : List Line) (scope : Scope) → Known scope.vertices scope.loops → Known (fold scope_after scope lines).vertices (fold scope_after scope lines).loops
known_from [] scope k = k
known_from (line ∷ lines) scope k = known_from lines (scope_after scope line) (known_after scope line k)

pub plan_alike : (plan : List Line) (i j : ℕ) (p q : PlacedVertex) → slice_get (vertices plan) i ≡ Some p → slice_get (vertices plan) j ≡ Some q → AreAlike p.loops q.loops
unfolding AreBegun
plan_alike plan = (known_from plan no_scope (record { earlier = λ i p at. absurd (cc); begun = tt; around = λ i p at. absurd (cc); alike = λ i j p q at to. absurd (cc) })).alike
