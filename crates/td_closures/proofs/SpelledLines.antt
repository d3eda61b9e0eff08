-- A line that is spelled is one that can be spelled canonically, with no more numbers, names and operators.
use Rattle.std.specs.Prelude.{◌≡◌, ◌≤◌, ◌<◌, ℕ, suc, ◌+◌, pos, Bool, true, false, nat_lt, if◌then◌else◌, List, [], ◌∷◌, ◌++◌, map, length, Result, Ok, Err, ⊤}
use Rattle.std.proofs.Common.{refl, ap, sym, ◌∙◌, arith, subst}
use Rattle.std.specs.List.{AllByRecursion}
use Rattle.std.proofs.lemmas.Bool.{lt-ltb, ltb-true}
use Rattle.td_formula.specs.declared.expression.Name.{Name}
use Rattle.td_formula.specs.declared.expression.Name.TheVariants as names
use Rattle.td_formula.specs.declared.expression.Operator.TheVariants as operators
use Rattle.td_closures.specs.declared.token.Token.{Token}
use Rattle.td_closures.specs.declared.token.Token.TheVariants as tokens
use Rattle.td_closures.specs.declared.token.Verb.TheVariants as verbs
use Rattle.td_closures.specs.declared.words.Scope.{Scope}
use Rattle.td_closures.specs.declared.fault.Wrong.{Wrong}
use Rattle.td_closures.specs.declared.fault.Wrong.TheVariants as wrongs
use Rattle.td_closures.specs.Phrase.{Phrase, number, name, written}
use Rattle.td_closures.specs.Lines.{Assigned, Paired, may_change, IsWhen, IsPair, target_of, IsChange, AreChanges}
use Rattle.td_closures.specs.Drafts.{nodes_in}
use Rattle.td_closures.specs.Canonical.{canonical, is_one, let_line, item_line}
use Rattle.td_closures.specs.Spelled.{is_named, IsExpression, IsPairAt, when_tokens, change_tokens, pair_tokens, line_tokens, nodes_of}
use Rattle.td_closures.proofs.SpelledTokens.{AreTokens, IsToken, IsReadAt, read_at, nodes_append}

-- CONDITIONS
pub record IsWhenAt (scope : Scope) (n m : ℕ) (w : Phrase) (ts rest : List Token) : Type 0 where
  pub expression : IsExpression scope n w
  pub others : AreTokens scope n m rest
  pub nodes : nodes_in (when_tokens w) + nodes_in rest ≤ nodes_in ts

one_there : (scope : Scope) (n : ℕ) → IsExpression scope n (number (pos 1))
one_there scope n = record { tree = refl; named = refl; shallow = omega arith }

without : (scope : Scope) (n m : ℕ) (ts : List Token) (w : Phrase) (rest : List Token) → AreTokens scope n m ts → (w ≡ number (pos 1)) × (ts ≡ rest) → IsWhenAt scope n m w ts rest
without scope n m ts w rest h e =
    let none : nodes_in (when_tokens w) ≡ 0 = ap (λ (x : Phrase). nodes_in (when_tokens x)) e.0 in
    let same : nodes_in ts ≡ nodes_in rest = ap nodes_in e.1 in
    record {
      expression = subst (IsExpression scope n) (sym e.0) (one_there scope n);
      others = subst (AreTokens scope n m) e.1 h;
      nodes = omega (arith, none, same);
    }

fewer_by : (w : Phrase) (b : Bool) → nodes_in (if b then [] else tokens.When ∷ written (canonical w)) ≤ nodes_in (written (canonical w))
fewer_by w true = omega arith
fewer_by w false = omega arith

when_at : (scope : Scope) (n m : ℕ) (ts : List Token) (w : Phrase) (rest : List Token) → AreTokens scope n m ts → IsWhen ts w rest → IsWhenAt scope n m w ts rest
when_at scope n m (tokens.When ∷ ts) w rest h e =
    let r : IsReadAt scope n m w ts rest = read_at scope n m ts w rest h.1 e in
    let fewer : nodes_in (when_tokens w) ≤ nodes_in (written (canonical w)) = fewer_by w (is_one w) in
    record { expression = r.expression; others = r.others; nodes = omega (arith, r.nodes, fewer) }
when_at scope n m [] w rest h e = without scope n m [] w rest h e
when_at scope n m (t ∷ ts) w rest h e = without scope n m (t ∷ ts) w rest h e

-- TWO VALUES
pub record IsPairedAt (scope : Scope) (n m : ℕ) (p : Paired) (ts : List Token) : Type 0 where
  pub pair : IsPairAt scope n p
  pub count : n ≡ m
  pub nodes : nodes_in (pair_tokens p ++ tokens.End ∷ []) ≤ nodes_in ts

nodes_values : (e w : Phrase) → nodes_in (written (canonical e) ++ when_tokens w) ≡ nodes_in (written (canonical e)) + nodes_in (when_tokens w)
nodes_values e w = nodes_append (written (canonical e)) (when_tokens w)

pub pair_at : (scope : Scope) (n m : ℕ) (ts : List Token) (p : Paired) → AreTokens scope n m ts → IsPair ts p → IsPairedAt scope n m p ts
pair_at scope n m ts p h e =
    let a : IsReadAt scope n m p.first ts (tokens.Comma ∷ e.after_first) = read_at scope n m ts p.first (tokens.Comma ∷ e.after_first) h e.first in
    let b : IsReadAt scope n m p.second e.after_first e.after_second = read_at scope n m e.after_first p.second e.after_second a.others.1 e.second in
    let c : IsWhenAt scope n m p.when e.after_second (tokens.End ∷ []) = when_at scope n m e.after_second p.when (tokens.End ∷ []) b.others e.when in
    let x : nodes_in (pair_tokens p ++ tokens.End ∷ []) ≡ nodes_in (pair_tokens p) + nodes_in (tokens.End ∷ []) = nodes_append (pair_tokens p) (tokens.End ∷ []) in
    let y : nodes_in (pair_tokens p) ≡ nodes_in (written (canonical p.first)) + nodes_in (tokens.Comma ∷ (written (canonical p.second) ++ when_tokens p.when))
    = nodes_append (written (canonical p.first)) (tokens.Comma ∷ (written (canonical p.second) ++ when_tokens p.when)) in
    record {
      pair = record { first = a.expression; second = b.expression; when = c.expression };
      count = c.others.1;
      nodes = omega (arith, x, y, nodes_values p.second p.when, a.nodes, b.nodes, c.nodes);
    }

-- WHAT AN ITEM CHANGES
pub record IsChangeAt (scope : Scope) (n m : ℕ) (c : Assigned) (ts rest : List Token) : Type 0 where
  pub changes : may_change c.name ≡ true
  pub there : is_named scope n (name c.name) ≡ true
  pub value : IsExpression scope n c.value
  pub when : IsExpression scope n c.when
  pub others : AreTokens scope n m rest
  pub nodes : nodes_in (change_tokens verbs.Item c) + nodes_in rest ≤ nodes_in ts

named_by : (x y : Name) (b : Bool) → may_change x ≡ b → ◌≡◌ {A = Result Name Wrong} (if b then Ok x else Err wrongs.Name) (Ok y) → (x ≡ y) × (may_change x ≡ true)
named_by x y true e h = let same : x ≡ y = cc in (same, e)
named_by x y false e h = absurd (cc)

item_target : (t : Token) (y : Name) → target_of verbs.Item t ≡ Ok y → (t ≡ tokens.Named y) × (may_change y ≡ true)
item_target (tokens.Named x) y h = let r = named_by x y (may_change x) refl h in (ap tokens.Named r.0, subst (λ (z : Name). may_change z ≡ true) r.0 r.1)
item_target (tokens.New r) y h = absurd (cc)
item_target tokens.Unknown y h = absurd (cc)
item_target _ y h = absurd (cc)

named_there : (scope : Scope) (n : ℕ) (y : Name) → IsToken scope n (tokens.Named y) → is_named scope n (name y) ≡ true
named_there scope n (names.Register r) h = h
named_there scope n names.Key h = h
named_there scope n _ h = h

item_at : (scope : Scope) (n m : ℕ) (ts : List Token) (c : Assigned) (rest : List Token) → AreTokens scope n m ts → IsChange verbs.Item ts c rest → IsChangeAt scope n m c ts rest
item_at scope n m ts c rest h e =
    let t = item_target e.token c.name e.target in
    let is : ts ≡ tokens.Named c.name ∷ tokens.Infix operators.Equal ∷ e.values = e.begins ∙ ap (λ (x : Token). x ∷ tokens.Infix operators.Equal ∷ e.values) t.0 in
    let all : AreTokens scope n m (tokens.Named c.name ∷ tokens.Infix operators.Equal ∷ e.values) = subst (AreTokens scope n m) is h in
    let v : IsReadAt scope n m c.value e.values e.after = read_at scope n m e.values c.value e.after all.1.1 e.value in
    let w : IsWhenAt scope n m c.when e.after rest = when_at scope n m e.after c.when rest v.others e.when in
    let count : nodes_in ts ≡ nodes_in (tokens.Named c.name ∷ tokens.Infix operators.Equal ∷ e.values) = ap nodes_in is in
    let right : nodes_in (tokens.Named c.name ∷ tokens.Infix operators.Equal ∷ e.values) ≡ 2 + nodes_in e.values = nodes_append (tokens.Named c.name ∷ tokens.Infix operators.Equal ∷ []) e.values in
    let left : nodes_in (change_tokens verbs.Item c) ≡ 2 + nodes_in (written (canonical c.value) ++ when_tokens c.when)
    = nodes_append (tokens.Named c.name ∷ tokens.Infix operators.Equal ∷ []) (written (canonical c.value) ++ when_tokens c.when) in
    record {
      changes = t.1;
      there = named_there scope n c.name all.0;
      value = v.expression;
      when = w.expression;
      others = w.others;
      nodes = omega (arith, count, right, left, nodes_values c.value c.when, v.nodes, w.nodes);
    }

pub record AreItemsAt (scope : Scope) (n m : ℕ) (cs : List Assigned) (ts : List Token) : Type 0 where
  pub each : AllByRecursion (λ (c : Assigned). (may_change c.name ≡ true) × (is_named scope n (name c.name) ≡ true) × IsExpression scope n c.value × IsExpression scope n c.when) cs
  pub count : n ≡ m
  pub nodes : nodes_of (map item_line cs) ≤ nodes_in ts

one_item : (c : Assigned) → nodes_in (line_tokens (item_line c)) ≡ nodes_in (change_tokens verbs.Item c)
one_item c = let a : nodes_in (change_tokens verbs.Item c ++ tokens.End ∷ []) ≡ nodes_in (change_tokens verbs.Item c) + nodes_in (tokens.End ∷ []) = nodes_append (change_tokens verbs.Item c) (tokens.End ∷ []) in omega (arith, a)

pub items_at : (scope : Scope) (n m : ℕ) (ts : List Token) (cs : List Assigned) → AreTokens scope n m ts → AreChanges verbs.Item ts cs → AreItemsAt scope n m cs ts
items_at scope n m ts [] h e = absurd e
items_at scope n m ts (c ∷ []) h e =
    let a : IsChangeAt scope n m c ts (tokens.End ∷ []) = item_at scope n m ts c (tokens.End ∷ []) h e in
    record { each = ((a.changes, a.there, a.value, a.when), tt); count = a.others.1; nodes = omega (arith, one_item c, a.nodes) }
items_at scope n m ts (c ∷ d ∷ cs) h e =
    let a : IsChangeAt scope n m c ts (tokens.Comma ∷ e.0) = item_at scope n m ts c (tokens.Comma ∷ e.0) h e.1 in
    let more : AreItemsAt scope n m (d ∷ cs) e.0 = items_at scope n m e.0 (d ∷ cs) a.others.1 e.2 in
    record { each = ((a.changes, a.there, a.value, a.when), more.each); count = more.count; nodes = omega (arith, one_item c, a.nodes, more.nodes) }

-- WHAT A `let` NAMES
pub record IsLetAt (scope : Scope) (n m : ℕ) (c : Assigned) (ts rest : List Token) : Type 0 where
  pub name_is : c.name ≡ names.Register n
  pub below : n < 8
  pub value : IsExpression scope (suc n) c.value
  pub when_is : c.when ≡ number (pos 1)
  pub others : AreTokens scope (suc n) m rest
  pub nodes : nodes_in (line_tokens (let_line c)) + nodes_in rest ≤ nodes_in ts

below_by : (r : ℕ) (y : Name) (b : Bool) → nat_lt r 8 ≡ b → ◌≡◌ {A = Result Name Wrong} (if b then Ok (names.Register r) else Err wrongs.TooMany) (Ok y) → (y ≡ names.Register r) × (r < 8)
below_by r y true e h = let same : y ≡ names.Register r = cc in (same, ltb-true r 8 e)
below_by r y false e h = absurd (cc)

let_target : (t : Token) (y : Name) → target_of verbs.Let t ≡ Ok y → (r : ℕ) × (t ≡ tokens.New r) × (y ≡ names.Register r) × (r < 8)
let_target (tokens.New r) y h = let x = below_by r y (nat_lt r 8) refl h in (r, refl, x.0, x.1)
let_target (tokens.Named x) y h = absurd (cc)
let_target tokens.Unknown y h = absurd (cc)
let_target _ y h = absurd (cc)

grown : (scope : Scope) (n m : ℕ) (ts : List Token) (b : Bool) → b ≡ true → AreTokens scope (if b then suc n else n) m ts → AreTokens scope (suc n) m ts
grown scope n m ts true e h = h
grown scope n m ts false e h = absurd (cc)

let_at : (scope : Scope) (n m : ℕ) (ts : List Token) (c : Assigned) (rest : List Token) → AreTokens scope n m ts → IsChange verbs.Let ts c rest → IsLetAt scope n m c ts rest
let_at scope n m ts c rest h e =
    let t = let_target e.token c.name e.target in
    let is : ts ≡ tokens.New t.0 ∷ tokens.Infix operators.Equal ∷ e.values = e.begins ∙ ap (λ (x : Token). x ∷ tokens.Infix operators.Equal ∷ e.values) t.1 in
    let all : AreTokens scope n m (tokens.New t.0 ∷ tokens.Infix operators.Equal ∷ e.values) = subst (AreTokens scope n m) is h in
    let next : t.0 ≡ n = all.0 in
    let below : n < 8 = omega (arith, next, t.3) in
    let inside : AreTokens scope (suc n) m (tokens.Infix operators.Equal ∷ e.values) = grown scope n m (tokens.Infix operators.Equal ∷ e.values) (nat_lt n 8) (lt-ltb n 8 below) all.1 in
    let v : IsReadAt scope (suc n) m c.value e.values e.after = read_at scope (suc n) m e.values c.value e.after inside.1 e.value in
    let count : nodes_in ts ≡ nodes_in (tokens.New t.0 ∷ tokens.Infix operators.Equal ∷ e.values) = ap nodes_in is in
    let right : nodes_in (tokens.New t.0 ∷ tokens.Infix operators.Equal ∷ e.values) ≡ 1 + nodes_in e.values = nodes_append (tokens.New t.0 ∷ tokens.Infix operators.Equal ∷ []) e.values in
    let after : nodes_in e.after ≡ nodes_in rest = ap nodes_in e.when.1 in
    let named : c.name ≡ names.Register n = t.2 ∙ ap names.Register next in
    let tokens_are : nodes_in (line_tokens (let_line c)) ≡ nodes_in (line_tokens (let_line (record c { name = names.Register n; when = number (pos 1) })))
    = (let w : c.when ≡ number (pos 1) = e.when.0 in λ i. nodes_in (line_tokens (let_line (record c { name = named i; when = w i })))) in
    let spelled : nodes_in (line_tokens (let_line (record c { name = names.Register n; when = number (pos 1) }))) ≡ nodes_in (written (canonical c.value)) + 1 = let_nodes n c.value in
    record {
      name_is = named;
      below = below;
      value = v.expression;
      when_is = e.when.0;
      others = subst (AreTokens scope (suc n) m) e.when.1 v.others;
      nodes = omega (arith, tokens_are, spelled, count, right, after, v.nodes);
    }
  where
    let_nodes : (n : ℕ) (e : Phrase) → nodes_in (line_tokens (let_line (record { name = names.Register n; value = e; when = number (pos 1) }))) ≡ nodes_in (written (canonical e)) + 1
    let_nodes n e =
        let a : nodes_in ((written (canonical e) ++ []) ++ tokens.End ∷ []) ≡ nodes_in (written (canonical e) ++ []) + nodes_in (tokens.End ∷ []) = nodes_append (written (canonical e) ++ []) (tokens.End ∷ []) in
        let b : nodes_in (written (canonical e) ++ []) ≡ nodes_in (written (canonical e)) + nodes_in [] = nodes_append (written (canonical e)) [] in
        let c : nodes_in (line_tokens (let_line (record { name = names.Register n; value = e; when = number (pos 1) }))) ≡ 1 + nodes_in ((written (canonical e) ++ []) ++ tokens.End ∷ [])
        = nodes_append (tokens.Infix operators.Equal ∷ []) ((written (canonical e) ++ []) ++ tokens.End ∷ []) in
        omega (arith, a, b, c)

abbrev pub AreLetsAt : Scope → ℕ → List Assigned → Type 0
AreLetsAt scope n [] = ⊤
AreLetsAt scope n (c ∷ cs) = ((c.name ≡ names.Register n) × IsExpression scope (suc n) c.value × (c.when ≡ number (pos 1))) × AreLetsAt scope (suc n) cs

pub record AreAllLetsAt (scope : Scope) (n m : ℕ) (cs : List Assigned) (ts : List Token) : Type 0 where
  pub each : AreLetsAt scope n cs
  pub count : n + length cs ≡ m
  pub few : n + length cs ≤ 8
  pub nodes : nodes_of (map let_line cs) ≤ nodes_in ts

pub lets_at : (scope : Scope) (n m : ℕ) (ts : List Token) (cs : List Assigned) → AreTokens scope n m ts → AreChanges verbs.Let ts cs → AreAllLetsAt scope n m cs ts
lets_at scope n m ts [] h e = absurd e
lets_at scope n m ts (c ∷ []) h e =
    let a : IsLetAt scope n m c ts (tokens.End ∷ []) = let_at scope n m ts c (tokens.End ∷ []) h e in
    let last : suc n ≡ m = a.others.1 in
    record { each = ((a.name_is, a.value, a.when_is), tt); count = omega (arith, last); few = omega (arith, a.below); nodes = omega (arith, a.nodes) }
lets_at scope n m ts (c ∷ d ∷ cs) h e =
    let a : IsLetAt scope n m c ts (tokens.Comma ∷ e.0) = let_at scope n m ts c (tokens.Comma ∷ e.0) h e.1 in
    let more : AreAllLetsAt scope (suc n) m (d ∷ cs) e.0 = lets_at scope (suc n) m e.0 (d ∷ cs) a.others.1 e.2 in
    record { each = ((a.name_is, a.value, a.when_is), more.each); count = omega (arith, more.count); few = omega (arith, more.few); nodes = omega (arith, a.nodes, more.nodes) }
