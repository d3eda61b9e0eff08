-- The look-ups of a plan: a plan has few edges, and what is looked up of each vertex in turn is what the plan has.
use Rattle.std.proofs.Common.{◌≡◌, ℕ, zero, suc, ◌+◌, ◌<◌, ◌≤◌, ◌==◌, Bool, true, false, ◌&&◌, ◌||◌, cond, List, [], ◌∷◌, ◌++◌, map, filter, take, get_or, length, append-nil, sum_by, fold, find, nat_le, nat_lt, Option, Some, None, option_map, unwrap_or, reverse, ◌-◌, refl, ap, sym, ◌∙◌, subst, arith}
use Rattle.std.specs.Prelude.{is_none}
use Rattle.std.specs.List.{AllByRecursion, slice_get, enumerate_from}
use Rattle.std.proofs.lemmas.Bool.Decides.{nat_tests}
use Rattle.std.proofs.lemmas.List.{take_all, take_more, map-append, length-reverse, get_or-reverse}
use Rattle.std.proofs.lemmas.List.Concat.{length-flat_map}
use Rattle.std.proofs.lemmas.List.Elements.{filter-append}
use Rattle.std.proofs.lemmas.List.Sums.{sum_by-cons, sum_by_push, sum_by_more, sum_by-take-le}
use Rattle.std.proofs.lemmas.Option.{slice_get_past, slice_get_within, slice_get-get_or, get_or_from_slice_get}
use Rattle.td_plan.specs.declared.vertex.Edge.{Edge}
use Rattle.td_plan.specs.declared.vertex.Loop.{Loop}
use Rattle.td_plan.specs.Lines.{Vertex, Line}
use Rattle.td_plan.specs.Lines.Line.{vertex, loop, end}
use Rattle.td_plan.specs.Blocks.{PlacedVertex, Scope, no_scope, scope_after, vertices, edges, edges_to, edge_count, edge_at, read_loops, read_loops_at, reading_loops_at, bounds}
use Rattle.td_plan.specs.Faults.{Fault, has_fault, faults, fault_of, is_faultless, IsPlan}
use Rattle.td_plan.specs.LookedUp.{IsSourceAt}
use Rattle.td_stamp.specs.Time.{Timestamp}
use Rattle.td_reach.specs.declared.stamp.Place.TheVariants as places
use Rattle.td_reach.specs.Paths.{IsOf}
use Rattle.td_machine.specs.Active.{kind_or, kind_of, bound_of}
use Rattle.td_machine.specs.Steps.{edges_from}
use Rattle.td_shard.specs.declared.outlet.Outlet.{Outlet}
use Rattle.td_shard.specs.Messages.{AreApart}
use Rattle.td_core.specs.declared.hall.Route.{Route}
use Rattle.td_core.specs.declared.hall.Routes.{Routes}
use Rattle.td_core.specs.Routes.{outlet_of, outlets_of, IsRoute, IsRoutes}

-- FEW EDGES
both : (p q : Bool) → (p && q) ≡ true → (p ≡ true) × (q ≡ true)
both true q e = (refl, e)
both false q e = absurd (cc)

neither : (a b : Bool) → (a || b) ≡ false → (a ≡ false) × (b ≡ false)
neither true b e = absurd (cc)
neither false b e = (refl, e)

none_found : {X : Type 0} (p : X → Bool) (xs : List X) (i : ℕ) (x : X) → is_none (find p xs) ≡ true → slice_get xs i ≡ Some x → p x ≡ false
none_found p [] i x e there = absurd (cc)
none_found p (y ∷ xs) i x e there = by (p y) refl e i there (λ j. none_found p xs j x)
  where
    by : (b : Bool) → p y ≡ b → is_none (cond b (Some y) (find p xs)) ≡ true → (i : ℕ) → slice_get (y ∷ xs) i ≡ Some x
        → ((j : ℕ) → is_none (find p xs) ≡ true → slice_get xs j ≡ Some x → p x ≡ false) → p x ≡ false
    by true t e i there later = absurd (cc)
    by false t e zero there later = let is : y ≡ x = cc in ap p (sym is) ∙ t
    by false t e (suc i) there later = later i e there

at_most : (n m : ℕ) → nat_lt n m ≡ false → m ≤ n
at_most n m h = grind (arith, nat_tests)

few_more : (scope : Scope) (v : Vertex) → is_none (fault_of scope (vertex v)) ≡ true → edge_count scope.vertices + length v.sources ≤ 128
few_more scope v none =
    let many = none_found (has_fault scope (vertex v)) faults 7 Fault.too_many none refl in
    at_most 128 (edge_count scope.vertices + length v.sources) (neither (nat_le 64 (length scope.vertices) || nat_lt 8 (length v.sources)) (nat_lt 128 (edge_count scope.vertices + length v.sources)) many).1

abbrev sources_of : PlacedVertex → ℕ
sources_of p = length p.vertex.sources

few_after : (scope : Scope) (lines : List Line) → is_faultless scope lines ≡ true → edge_count scope.vertices ≤ 128 → edge_count (fold scope_after scope lines).vertices ≤ 128
few_after scope [] none few = few
few_after scope (vertex v ∷ lines) none few =
    let two = both (is_none (fault_of scope (vertex v))) (is_faultless (scope_after scope (vertex v)) lines) none in
    let more = few_more scope v two.0 in
    few_after (scope_after scope (vertex v)) lines two.1 (subst (λ n. n ≤ 128) (sym (sum_by_push sources_of scope.vertices (record { vertex = v; loops = scope.loops }))) more)
few_after scope (loop n ∷ lines) none few = few_after (scope_after scope (loop n)) lines (both (is_none (fault_of scope (loop n))) (is_faultless (scope_after scope (loop n)) lines) none).1 few
few_after scope (end ∷ lines) none few = few_after (scope_after scope end) lines (both (is_none (fault_of scope end)) (is_faultless (scope_after scope end) lines) none).1 few

pub few_edges : (plan : List Line) → IsPlan plan → edge_count (vertices plan) ≤ 128
few_edges plan is = few_after no_scope plan is.faultless (omega arith)

length-numbered : {X Y : Type 0} (f : ℕ × X → Y) (n : ℕ) (xs : List X) → length (map f (enumerate_from n xs)) ≡ length xs
length-numbered f n [] = refl
length-numbered f n (x ∷ xs) = ap suc (length-numbered f (n + 1) xs)

counted : (ps : List PlacedVertex) → sum_by (λ p. length (edges_to p)) ps ≡ edge_count ps
counted [] = refl
counted (p ∷ ps) =
    let one : length (edges_to p) ≡ sources_of p = length-numbered (λ s. record { source = s.1; reader = p.vertex.number; port = s.0 }) 0 p.vertex.sources in
    sum_by-cons (λ q. length (edges_to q)) p ps ∙ ((λ i. one i + counted ps i) ∙ sym (sum_by-cons sources_of p ps))

pub few_numbers : (plan : List Line) → IsPlan plan → length (edges plan) ≤ 128
few_numbers plan is = subst (λ n. n ≤ 128) (sym (length-flat_map edges_to (vertices plan) ∙ counted (vertices plan))) (few_edges plan is)

-- so a number of an edge is small
pub small_number : (plan : List Line) → IsPlan plan → (n : ℕ) (e : Edge) → slice_get (edges plan) n ≡ Some e → n < 256
small_number plan is n e there =
    let within = slice_get_within (edges plan) n e there in
    let few = few_numbers plan is in
    omega (arith, within, few)

-- as is one whose pointstamps are of the plan
pub edge_fits : (plan : List Line) → IsPlan plan → (t : Timestamp) (n : ℕ) → IsOf plan (record { time = t; place = places.Edge n }) → n < 256
edge_fits plan is t n of = small_number plan is n of.0 of.1

-- A BEGINNING has at most as many
pub count_next : (n : ℕ) (ps : List PlacedVertex) (p : PlacedVertex) → slice_get ps n ≡ Some p → edge_count (take (n + 1) ps) ≡ edge_count (take n ps) + length p.vertex.sources
count_next n ps p there =
    let within = slice_get_within ps n p there in
    let is : slice_get ps n ≡ Some (get_or ps n p) = slice_get-get_or ps n p within in
    let same : get_or ps n p ≡ p = cc in
    sum_by_more sources_of ps n p within ∙ ap (λ x. edge_count (take n ps) + sources_of x) same

pub count_within : (n : ℕ) (ps : List PlacedVertex) → edge_count (take n ps) ≤ edge_count ps
count_within n ps = sum_by-take-le sources_of ps n

equal : (a b : ℕ) → a ≡ b → (a == b) ≡ true
equal a b e = grind (arith, nat_tests)

not_equal : (a b : ℕ) → (a ≡ b → ⊥) → (a == b) ≡ false
not_equal a b h = by (a == b) refl
  where
    by : (t : Bool) → (a == b) ≡ t → (a == b) ≡ false
    by true e = absurd (h (grind (arith, nat_tests)))
    by false e = e

-- the innermost of loops that stand the outermost first
pub innermost_bound : (ls : List Loop) (x : Loop) → Some x ≡ slice_get (reverse ls) (length (reverse ls) - 1) → x.bound ≡ unwrap_or (slice_get (bounds ls) 0) 0
innermost_bound [] x e = absurd (cc)
innermost_bound (l ∷ ls) x e =
    let last = length (reverse (l ∷ ls)) - 1 in
    let many : length (reverse (l ∷ ls)) ≡ suc (length ls) = length-reverse (l ∷ ls) in
    let first : suc (length ls) - 1 - last ≡ 0 = omega (arith, many) in
    let is : get_or (reverse (l ∷ ls)) last x ≡ x = get_or_from_slice_get (reverse (l ∷ ls)) last x x (sym e) in
    let at : get_or (reverse (l ∷ ls)) last x ≡ get_or (l ∷ ls) (suc (length ls) - 1 - last) x = get_or-reverse (l ∷ ls) last x (omega (arith, many)) in
    ap (λ y. y.bound) (sym is ∙ (at ∙ ap (λ n. get_or (l ∷ ls) n x) first))

-- THE EDGES OUT OF A VERTEX, one by one
abbrev pub out_of : ℕ → Edge → Bool
out_of v e = e.source == v

abbrev pub outlets_among : List Line → ℕ → List Edge → List Outlet
outlets_among plan v es = map (outlet_of plan) (filter (out_of v) es)

next_edges : (plan : List Line) (v n : ℕ) (es : List Edge) (e : Edge) → slice_get es n ≡ Some e → outlets_among plan v (take (n + 1) es) ≡ outlets_among plan v (take n es) ++ outlets_among plan v (e ∷ [])
next_edges plan v n es e there =
    let within = slice_get_within es n e there in
    let is : slice_get es n ≡ Some (get_or es n e) = slice_get-get_or es n e within in
    let same : get_or es n e ≡ e = cc in
    ap (λ l. map (outlet_of plan) (filter (out_of v) l)) (take_more es n e within ∙ ap (λ x. take n es ++ x ∷ []) same)
    ∙ (ap (map (outlet_of plan)) (filter-append (out_of v) (take n es) (e ∷ [])) ∙ map-append (outlet_of plan) (filter (out_of v) (take n es)) (filter (out_of v) (e ∷ [])))

pub next_out : (plan : List Line) (v n : ℕ) (es : List Edge) (e : Edge) → slice_get es n ≡ Some e → e.source ≡ v → edge_at plan e.reader e.port ≡ n
    → outlets_among plan v (take n es) ++ record { number = n; reader = e.reader; port = e.port } ∷ [] ≡ outlets_among plan v (take (n + 1) es)
next_out plan v n es e there out number =
    sym (next_edges plan v n es e there ∙ (ap (λ b. outlets_among plan v (take n es) ++ map (outlet_of plan) (cond b (e ∷ []) [])) (equal e.source v out)
    ∙ ap (λ m. outlets_among plan v (take n es) ++ record { number = m; reader = e.reader; port = e.port } ∷ []) number))

pub next_other : (plan : List Line) (v n : ℕ) (es : List Edge) (e : Edge) → slice_get es n ≡ Some e → (e.source ≡ v → ⊥) → outlets_among plan v (take n es) ≡ outlets_among plan v (take (n + 1) es)
next_other plan v n es e there other =
    sym (next_edges plan v n es e there ∙ (ap (λ b. outlets_among plan v (take n es) ++ map (outlet_of plan) (cond b (e ∷ []) [])) (not_equal e.source v other) ∙ append-nil (outlets_among plan v (take n es))))

-- SITES in the order of the numbers
abbrev pub AreRoutes : List Line → ℕ → List Route → Type 0
AreRoutes plan v [] = Unit {0}
AreRoutes plan v (s ∷ ss) = IsRoute plan v s × AreRoutes plan (v + 1) ss

pub one_more_route : (plan : List Line) (v : ℕ) (ss : List Route) (s : Route) → AreRoutes plan v ss → IsRoute plan (v + length ss) s → AreRoutes plan v (ss ++ s ∷ [])
one_more_route plan v [] s are is = let none : v + 0 ≡ v = omega arith in (subst (λ n. IsRoute plan n s) none is, tt)
one_more_route plan v (x ∷ ss) s are is = let n = length ss in let next : v + suc n ≡ v + 1 + n = omega arith in (are.0, one_more_route plan (v + 1) ss s are.1 (subst (λ n. IsRoute plan n s) next is))

route_at : (plan : List Line) (v : ℕ) (ss : List Route) → AreRoutes plan v ss → (i : ℕ) (s : Route) → slice_get ss i ≡ Some s → IsRoute plan (v + i) s
route_at plan v [] are i s there = absurd (cc)
route_at plan v (x ∷ ss) are zero s there = let same : x ≡ s = cc in let none : v ≡ v + 0 = omega arith in subst (IsRoute plan (v + 0)) same (subst (λ n. IsRoute plan n x) none are.0)
route_at plan v (x ∷ ss) are (suc i) s there = let next : v + 1 + i ≡ v + suc i = omega arith in subst (λ n. IsRoute plan n s) next (route_at plan (v + 1) ss are.1 i s there)

-- no edge leads out of a number that no vertex has
abbrev pub SourcesByNumber : Type 0
SourcesByNumber = (plan : List Line) → IsPlan plan → (i : ℕ) (e : Edge) → slice_get (edges plan) i ≡ Some e → IsSourceAt plan e.reader e.port e.source

abbrev pub ReadThere : Type 0
ReadThere = (plan : List Line) → IsPlan plan → (reader port source : ℕ) → IsSourceAt plan reader port source → read_loops_at plan source ≡ Some (reading_loops_at plan reader)

none_passes : (p : Edge → Bool) (es : List Edge) → ((i : ℕ) (e : Edge) → slice_get es i ≡ Some e → p e ≡ false) → filter p es ≡ []
none_passes p [] h = refl
none_passes p (e ∷ es) h = ap (λ b. cond b (e ∷ filter p es) (filter p es)) (h 0 e refl) ∙ none_passes p es (λ i x there. h (suc i) x there)

-- NO TWO EDGES lead to one port of one vertex, since each has the number of its own place
abbrev pub EdgesByNumber : Type 0
EdgesByNumber = (plan : List Line) → IsPlan plan → (i : ℕ) (e : Edge) → slice_get (edges plan) i ≡ Some e → edge_at plan e.reader e.port ≡ i

module _ (plan : List Line) (p : Edge → Bool) where
  abbrev AreNumbered : ℕ → List Edge → Type 0
  AreNumbered k es = (i : ℕ) (e : Edge) → slice_get es i ≡ Some e → edge_at plan e.reader e.port ≡ k + i

  next_numbers : (k : ℕ) (x : Edge) (es : List Edge) → AreNumbered k (x ∷ es) → AreNumbered (k + 1) es
  next_numbers k x es n i e there = n (suc i) e there ∙ omega arith

  later_apart : (x : Edge) (k : ℕ) (es : List Edge) → edge_at plan x.reader x.port < k → AreNumbered k es
      → AllByRecursion (λ q. x.reader ≡ q.reader → x.port ≡ q.port → ⊥) (map (outlet_of plan) (filter p es))
  later_apart x k [] l n = tt
  later_apart x k (e ∷ es) l n = by (p e) (later_apart x (k + 1) es (omega (arith, l)) (next_numbers k e es n))
    where
      other : x.reader ≡ e.reader → x.port ≡ e.port → ⊥
      other r o = let same : edge_at plan x.reader x.port ≡ edge_at plan e.reader e.port = λ i. edge_at plan (r i) (o i) in let at = n 0 e refl in omega (arith, l, same, at)

      by : (b : Bool) → AllByRecursion (λ q. x.reader ≡ q.reader → x.port ≡ q.port → ⊥) (map (outlet_of plan) (filter p es))
          → AllByRecursion (λ q. x.reader ≡ q.reader → x.port ≡ q.port → ⊥) (map (outlet_of plan) (cond b (e ∷ filter p es) (filter p es)))
      by true rest = (other, rest)
      by false rest = rest

  all_apart : (k : ℕ) (es : List Edge) → AreNumbered k es → AreApart (map (outlet_of plan) (filter p es))
  all_apart k [] n = tt
  all_apart k (x ∷ es) n = by (p x) (all_apart (k + 1) es (next_numbers k x es n))
    where
      by : (b : Bool) → AreApart (map (outlet_of plan) (filter p es)) → AreApart (map (outlet_of plan) (cond b (x ∷ filter p es) (filter p es)))
      by true rest = (let at = n 0 x refl in later_apart x (k + 1) es (omega (arith, at)) (next_numbers k x es n), rest)
      by false rest = rest

module _ (numbers : EdgesByNumber) (sources : SourcesByNumber) (read : ReadThere) (plan : List Line) (is : IsPlan plan) where
  none_out : (v : ℕ) → slice_get (vertices plan) v ≡ None → edges_from plan v ≡ []
  none_out v none = none_passes (out_of v) (edges plan) (λ i e there. not_equal e.source v (λ same. nowhere e (read plan is e.reader e.port e.source (sources plan is i e there)) same))
    where
      nowhere : (e : Edge) → read_loops_at plan e.source ≡ Some (reading_loops_at plan e.reader) → e.source ≡ v → ⊥
      nowhere e some same =
          let gone : read_loops_at plan v ≡ None = ap (λ o. elim o [ None ↦ None | Some p ↦ read_loops p.vertex.kind p.loops ]) none in
          let two : None ≡ Some (reading_loops_at plan e.reader) = sym gone ∙ (ap (read_loops_at plan) (sym same) ∙ some) in
          cc

  module _ (routes : Routes) (are : AreRoutes plan 0 routes.by_vertex.items) (all : length routes.by_vertex.items ≡ length (vertices plan)) (many : routes.edges ≡ edge_count (vertices plan)) where
    -- of a number that no vertex has, and of any other
    record Finds (v : ℕ) (o : Option Route) : Type 0 where
      kind : kind_or (option_map (λ s. s.kind) o) ≡ kind_of plan v
      bound : unwrap_or (option_map (λ s. s.bound) o) 0 ≡ bound_of plan v
      outlets : unwrap_or (option_map (λ s. s.outlets.items) o) [] ≡ outlets_of plan v
      edge : (port : ℕ) → unwrap_or (option_map (λ s. s.first) o) routes.edges + port ≡ edge_at plan v port

    finds : (v : ℕ) (o : Option Route) → slice_get routes.by_vertex.items v ≡ o → Finds v o
    finds v (Some s) there =
        let zero_on : 0 + v ≡ v = omega arith in
        let route = subst (λ n. IsRoute plan n s) zero_on (route_at plan 0 routes.by_vertex.items are v s there) in
        record {
          kind = route.kind;
          bound = route.bound;
          outlets = route.outlets;
          edge = λ port. ap (λ n. n + port) route.first ∙ omega arith;
        }
    finds v None there =
        let past : length (vertices plan) ≤ v = subst (λ n. n ≤ v) all (none_past routes.by_vertex.items v there) in
        let none : slice_get (vertices plan) v ≡ None = slice_get_past (vertices plan) v past in
        record {
          kind = sym (ap (λ o. kind_or (option_map (λ p. p.vertex.kind) o)) none);
          bound = sym (ap (λ o. unwrap_or (slice_get (bounds (elim o [ None ↦ [] | Some p ↦ p.loops ])) 0) 0) none);
          outlets = sym (ap (map (outlet_of plan)) (none_out v none));
          edge = λ port. ap (λ n. n + port) (many ∙ ap edge_count (sym (take_all v (vertices plan) past)));
        }
      where
        none_past : (ss : List Route) (i : ℕ) → slice_get ss i ≡ None → length ss ≤ i
        none_past [] i e = omega arith
        none_past (s ∷ ss) zero e = absurd (cc)
        none_past (s ∷ ss) (suc i) e = let rest = none_past ss i e in omega (arith, rest)

    pub all_found : IsRoutes plan routes
    all_found = record {
      kind = λ v. (finds v (slice_get routes.by_vertex.items v) refl).kind;
      bound = λ v. (finds v (slice_get routes.by_vertex.items v) refl).bound;
      outlets = λ v. (finds v (slice_get routes.by_vertex.items v) refl).outlets;
      edge = λ v port. (finds v (slice_get routes.by_vertex.items v) refl).edge port;
      apart = λ v. subst AreApart (sym (finds v (slice_get routes.by_vertex.items v) refl).outlets) (all_apart plan (out_of v) 0 (edges plan) (λ i e there. numbers plan is i e there ∙ omega arith));
    }
