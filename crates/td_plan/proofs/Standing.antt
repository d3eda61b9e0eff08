-- The loops of a plan, and the vertices that stand in them.
use Rattle.std.proofs.Common.{◌≡◌, ℕ, zero, suc, ◌<◌, ◌⊎◌, Bool, true, false, ◌==◌, List, [], ◌∷◌, ◌++◌, length, get_or, refl, sym, ap, ◌∙◌, arith, subst, inl, inr, eq-eqb}
use Rattle.std.specs.Prelude.{Some, is_none, fold, drop}
use Rattle.std.specs.List.{Contains, AllByRecursion, slice_get}
use Rattle.std.proofs.lemmas.List.{append-nil, append_assoc}
use Rattle.std.proofs.lemmas.List.Elements.{Contains-append_left, Contains-append_right}
use Rattle.td_plan.specs.declared.vertex.Loop.{Loop}
use Rattle.td_plan.specs.Lines.{Line}
use Rattle.td_plan.specs.Lines.Line.{vertex, loop, end}
use Rattle.td_plan.specs.Blocks.{PlacedVertex, scope_after, vertices, loops, loops_from}
use Rattle.td_plan.specs.Faults.{Fault, has_fault, faults, fault_of, is_faultless, is_nil, IsPlan}
use Rattle.td_plan.specs.Standing.{StandsAmong, HasFirst}
use Rattle.td_plan.proofs.Readings.{both}
use Rattle.td_plan.proofs.Trees.{scope, none_found}
use Rattle.td_plan.proofs.Lengths.{after}

head_in : {X : Type 0} (x : X) (xs : List X) → Contains (x ∷ xs) x
head_in x xs = (0, omega arith, refl)

tail_in : {X : Type 0} (y x : X) (xs : List X) → Contains xs x → Contains (y ∷ xs) x
tail_in y x xs c = Contains-append_right (y ∷ []) xs x c

last_in : {X : Type 0} (xs : List X) (x : X) → Contains (xs ++ x ∷ []) x
last_in xs x = Contains-append_right xs (x ∷ []) x (head_in x [])

every_weaker : {X : Type 0} (P Q : X → Type 0) → ((x : X) → P x → Q x) → (xs : List X) → AllByRecursion P xs → AllByRecursion Q xs
every_weaker P Q f [] a = tt
every_weaker P Q f (x ∷ xs) a = (f x a.0, every_weaker P Q f xs a.1)

every_push : {X : Type 0} (P : X → Type 0) (xs : List X) (x : X) → AllByRecursion P xs → P x → AllByRecursion P (xs ++ x ∷ [])
every_push P [] x a h = (h, tt)
every_push P (y ∷ xs) x a h = (a.0, every_push P xs x a.1 h)

-- EACH LOOP ROUND A VERTEX IS ONE OF THE PLAN
more_among : (seen more : List Loop) (p : PlacedVertex) → StandsAmong seen p → StandsAmong (seen ++ more) p
more_among seen more p a = every_weaker (Contains seen) (Contains (seen ++ more)) (λ l c. Contains-append_left seen more l c) p.loops a

stand : (lines : List Line) (vs : List PlacedVertex) (ls seen : List Loop) → AllByRecursion (Contains seen) ls → AllByRecursion (StandsAmong seen) vs
    → AllByRecursion (StandsAmong (seen ++ loops_from (scope vs ls) lines)) (after vs ls lines)
stand [] vs ls seen a b = subst (λ s. AllByRecursion (StandsAmong s) vs) (sym (append-nil seen)) b
stand (vertex v ∷ lines) vs ls seen a b =
    let here : PlacedVertex = record { vertex = v; loops = ls } in
    stand lines (vs ++ here ∷ []) ls seen a (every_push (StandsAmong seen) vs here b a)
stand (loop bound ∷ lines) vs ls seen a b =
    let l : Loop = record { first = length vs; bound = bound } in
    let longer = seen ++ l ∷ [] in
    let r = stand lines vs (l ∷ ls) longer (last_in seen l, every_weaker (Contains seen) (Contains longer) (λ k c. Contains-append_left seen (l ∷ []) k c) ls a)
    (every_weaker (StandsAmong seen) (StandsAmong longer) (λ p s. more_among seen (l ∷ []) p s) vs b) in
    subst (λ s. AllByRecursion (StandsAmong s) (after vs (l ∷ ls) lines)) (append_assoc seen (l ∷ []) (loops_from (scope vs (l ∷ ls)) lines)) r
stand (end ∷ lines) vs [] seen a b = stand lines vs [] seen a b
stand (end ∷ lines) vs (l ∷ ls) seen a b = stand lines vs ls seen a.1 b

pub plan_stands : (plan : List Line) → AllByRecursion (StandsAmong (loops plan)) (vertices plan)
plan_stands plan = stand plan [] [] [] tt tt

-- EACH LOOP OF A PLAN HAS A VERTEX
get_more : (xs ys : List PlacedVertex) (i : ℕ) (p : PlacedVertex) → slice_get xs i ≡ Some p → slice_get (xs ++ ys) i ≡ Some p
get_more [] ys i p at = absurd (cc)
get_more (x ∷ xs) ys zero p at = at
get_more (x ∷ xs) ys (suc i) p at = get_more xs ys i p at

seam : (xs : List PlacedVertex) (y : PlacedVertex) → slice_get (xs ++ y ∷ []) (length xs) ≡ Some y
seam [] y = refl
seam (x ∷ xs) y = seam xs y

-- so far a loop has its first vertex, or is open and has none
abbrev Begun : List PlacedVertex → List Loop → Loop → Type 0
Begun vs ls l = HasFirst vs l ⊎ (Contains ls l × (l.first ≡ length vs))

after_vertex : (vs : List PlacedVertex) (ls : List Loop) (here : PlacedVertex) (l : Loop) → here.loops ≡ ls → Begun vs ls l → Begun (vs ++ here ∷ []) ls l
after_vertex vs ls here l e (inl h) = inl (h.0, get_more vs (here ∷ []) l.first h.0 h.1, h.2)
after_vertex vs ls here l e (inr o) = inl (here, ap (slice_get (vs ++ here ∷ [])) o.1 ∙ seam vs here, subst (λ ks. Contains ks l) (sym e) o.0)

after_head : (vs : List PlacedVertex) (ls : List Loop) (k l : Loop) → Begun vs ls l → Begun vs (k ∷ ls) l
after_head vs ls k l (inl h) = inl h
after_head vs ls k l (inr o) = inr (tail_in k l ls o.0, o.1)

-- the loop that ends has its first vertex
ended : (k : Loop) (ls : List Loop) (l : Loop) (n : ℕ) → Contains (k ∷ ls) l → l.first ≡ n → (k.first == n) ≡ false → Contains ls l
ended k ls l n c e t = by c.0 c.1 c.2
  where
    by : (i : ℕ) → i < length (k ∷ ls) → get_or (k ∷ ls) i l ≡ l → Contains ls l
    by zero lt at = absurd (let same : (k.first == n) ≡ true = eq-eqb k.first n (ap (λ (m : Loop). m.first) at ∙ e) in cc)
    by (suc i) lt at = (i, omega arith, at)

after_end : (vs : List PlacedVertex) (ls : List Loop) (k l : Loop) → (k.first == length vs) ≡ false → Begun vs (k ∷ ls) l → Begun vs ls l
after_end vs ls k l t (inl h) = inl h
after_end vs ls k l t (inr o) = inr (ended k ls l (length vs) o.0 o.1 t, o.1)

at_close : (vs : List PlacedVertex) (ls : List Loop) (l : Loop) → is_nil ls ≡ true → Begun vs ls l → HasFirst vs l
at_close vs ls l c (inl h) = h
at_close vs [] l c (inr o) = absurd (let lt = o.0.1 in omega arith)
at_close vs (k ∷ ls) l c (inr o) = absurd (cc)

begin : (lines : List Line) (vs : List PlacedVertex) (ls seen : List Loop) → is_faultless (scope vs ls) lines ≡ true → is_nil (fold scope_after (scope vs ls) lines).loops ≡ true → AllByRecursion (Begun vs ls) seen
    → AllByRecursion (HasFirst (after vs ls lines)) (seen ++ loops_from (scope vs ls) lines)
begin [] vs ls seen f c a = subst (AllByRecursion (HasFirst vs)) (sym (append-nil seen)) (every_weaker (Begun vs ls) (HasFirst vs) (λ l b. at_close vs ls l c b) seen a)
begin (vertex v ∷ lines) vs ls seen f c a =
    let here : PlacedVertex = record { vertex = v; loops = ls } in
    let parts = both (is_none (fault_of (scope vs ls) (vertex v))) (is_faultless (scope (vs ++ here ∷ []) ls) lines) f in
    begin lines (vs ++ here ∷ []) ls seen parts.1 c (every_weaker (Begun vs ls) (Begun (vs ++ here ∷ []) ls) (λ l b. after_vertex vs ls here l refl b) seen a)
begin (loop bound ∷ lines) vs ls seen f c a =
    let l : Loop = record { first = length vs; bound = bound } in
    let parts = both (is_none (fault_of (scope vs ls) (loop bound))) (is_faultless (scope vs (l ∷ ls)) lines) f in
    let r = begin lines vs (l ∷ ls) (seen ++ l ∷ []) parts.1 c
    (every_push (Begun vs (l ∷ ls)) seen l (every_weaker (Begun vs ls) (Begun vs (l ∷ ls)) (λ k b. after_head vs ls l k b) seen a) (inr (head_in l ls, refl))) in
    subst (AllByRecursion (HasFirst (after vs (l ∷ ls) lines))) (append_assoc seen (l ∷ []) (loops_from (scope vs (l ∷ ls)) lines)) r
begin (end ∷ lines) vs [] seen f c a = absurd (cc)
begin (end ∷ lines) vs (k ∷ ls) seen f c a =
    let parts = both (is_none (fault_of (scope vs (k ∷ ls)) end)) (is_faultless (scope vs ls) lines) f in
    let p : Fault → Bool = has_fault (scope vs (k ∷ ls)) end in
    let some : (k.first == length vs) ≡ false = (none_found p Fault.syntax (drop 1 faults) parts.0).0 in
    begin lines vs ls seen parts.1 c (every_weaker (Begun vs (k ∷ ls)) (Begun vs ls) (λ l b. after_end vs ls k l some b) seen a)

pub loops_begin : (plan : List Line) → IsPlan plan → AllByRecursion (HasFirst (vertices plan)) (loops plan)
loops_begin plan p = begin plan [] [] [] p.faultless p.closed tt
