-- A text spells only closures that can be spelled canonically.
use Rattle.std.specs.Prelude.{◌≡◌, ◌≤◌, ◌<◌, ℕ, suc, ◌+◌, ◌-◌, pos, negsuc, Bool, true, false, ◌&&◌, ◌||◌, nat_lt, if◌then◌else◌, List, [], ◌∷◌, ◌++◌, map, length, Option, Some, None, option_to_list, Result, Ok, Err, ⊤}
use Rattle.std.proofs.Common.{refl, ap, sym, ◌∙◌, arith, subst, append_assoc, length-append}
use Rattle.std.specs.List.{AllByRecursion}
use Rattle.std.proofs.lemmas.List.{append-nil, map-append}
use Rattle.std.proofs.lemmas.Bool.{lt-ltb, ltb-true}
use Rattle.td_formula.specs.declared.expression.Name.TheVariants as names
use Rattle.td_formula.specs.declared.closure.ClosureKind.{ClosureKind}
use Rattle.td_plan.specs.Text.{text_lines}
use Rattle.td_closures.specs.declared.token.Token.{Token}
use Rattle.td_closures.specs.declared.token.Token.TheVariants as tokens
use Rattle.td_closures.specs.declared.token.Verb.{Verb}
use Rattle.td_closures.specs.declared.token.Verb.TheVariants as verbs
use Rattle.td_closures.specs.declared.words.Scope.{Scope}
use Rattle.td_closures.specs.declared.fault.Wrong.{Wrong}
use Rattle.td_closures.specs.declared.fault.Wrong.TheVariants as wrongs
use Rattle.td_closures.specs.Phrase.{Phrase, number, name, parens, prefix, infix', call, choice}
use Rattle.td_closures.specs.Words.{is_fold, has_items, verb_scope}
use Rattle.td_closures.specs.Lines.{Assigned, Paired, Line, is_code, may_change, IsLine}
use Rattle.td_closures.specs.Lines.Line.{head, lets, item, each, send, keep}
use Rattle.td_closures.specs.Drafts.{Said, new_closure, Draft, no_draft, closures_of, has_closure, begun_with, with_head, with_part, with_last, in_last, is_keep, with_line, kind_of, tokens_in, registers_in, after_words, nodes_in, after_nodes}
use Rattle.td_closures.specs.Texts.{says_nothing, AreSaidBy, Adds, Add, ClosuresText}
use Rattle.td_closures.specs.Canonical.{is_unchanged, let_line, item_line, keep_lines, lines_of}
use Rattle.td_closures.specs.Spelled.{is_named, IsExpression, AreLets, IsItem, IsPairAt, IsEach, IsKeep, IsClosure, AreApart, line_tokens, all_lines, nodes_of, AreSpellable}
use Rattle.td_closures.proofs.Complete.{and_left, and_right}
use Rattle.td_closures.proofs.SpelledTokens.{AreTokens, in_line, IsInLine}
use Rattle.td_closures.proofs.SpelledLines.{IsPairedAt, pair_at, AreItemsAt, items_at, AreLetsAt, AreAllLetsAt, lets_at}

-- MORE REGISTERS do no harm
both : (a b : Bool) → a ≡ true → b ≡ true → (a && b) ≡ true
both a b x y = rw (x, y) refl

three : (a b c : Bool) → a ≡ true → b ≡ true → c ≡ true → (a && (b && c)) ≡ true
three a b c x y z = rw (x, y, z) refl

more_named : (scope : Scope) (n m : ℕ) (e : Phrase) → n ≤ m → is_named scope n e ≡ true → is_named scope m e ≡ true
more_named scope n m (number (pos k)) l h = h
more_named scope n m (number (negsuc k)) l h = h
more_named scope n m (name (names.Register r)) l h = let below : r < n = ltb-true r n h in lt-ltb r m (omega arith)
more_named scope n m (name _) l h = h
more_named scope n m (parens p) l h = more_named scope n m p l h
more_named scope n m (prefix s p) l h = more_named scope n m p l h
more_named scope n m (infix' o p q) l h = both (is_named scope m p) (is_named scope m q) (more_named scope n m p l (and_left (is_named scope n p) (is_named scope n q) h)) (more_named scope n m q l (and_right (is_named scope n p) (is_named scope n q) h))
more_named scope n m (call o p q) l h = both (is_named scope m p) (is_named scope m q) (more_named scope n m p l (and_left (is_named scope n p) (is_named scope n q) h)) (more_named scope n m q l (and_right (is_named scope n p) (is_named scope n q) h))
more_named scope n m (choice p q r) l h =
    let rest = and_right (is_named scope n p) (is_named scope n q && is_named scope n r) h in
    three (is_named scope m p) (is_named scope m q) (is_named scope m r) (more_named scope n m p l (and_left (is_named scope n p) (is_named scope n q && is_named scope n r) h))
    (more_named scope n m q l (and_left (is_named scope n q) (is_named scope n r) rest)) (more_named scope n m r l (and_right (is_named scope n q) (is_named scope n r) rest))

more_expression : (scope : Scope) (n m : ℕ) (e : Phrase) → n ≤ m → IsExpression scope n e → IsExpression scope m e
more_expression scope n m e l h = record { tree = h.tree; named = more_named scope n m e l h.named; shallow = h.shallow }

more_pair : (scope : Scope) (n m : ℕ) (p : Paired) → n ≤ m → IsPairAt scope n p → IsPairAt scope m p
more_pair scope n m p l h = record { first = more_expression scope n m p.first l h.first; second = more_expression scope n m p.second l h.second; when = more_expression scope n m p.when l h.when }

more_items : (kind : ClosureKind) (n m : ℕ) (cs : List Assigned) → n ≤ m → AllByRecursion (IsItem kind n) cs → AllByRecursion (IsItem kind m) cs
more_items kind n m [] l h = tt
more_items kind n m (c ∷ cs) l h =
    let scope = verb_scope (Some kind) verbs.Item in (
      record {
        has_some = h.0.has_some;
        changes = h.0.changes;
        there = more_named scope n m (name c.name) l h.0.there;
        value = more_expression scope n m c.value l h.0.value;
        when = more_expression scope n m c.when l h.0.when;
      },
      more_items kind n m cs l h.1,
    )

more_each : (kind : ClosureKind) (n m : ℕ) (ps : List Paired) → n ≤ m → AllByRecursion (IsEach kind n) ps → AllByRecursion (IsEach kind m) ps
more_each kind n m [] l h = tt
more_each kind n m (p ∷ ps) l h = (record { has_some = h.0.has_some; pair = more_pair (verb_scope (Some kind) verbs.Each) n m p l h.0.pair }, more_each kind n m ps l h.1)

more_sends : (kind : ClosureKind) (n m : ℕ) (ps : List Paired) → n ≤ m → AllByRecursion (IsPairAt (verb_scope (Some kind) verbs.Send) n) ps → AllByRecursion (IsPairAt (verb_scope (Some kind) verbs.Send) m) ps
more_sends kind n m [] l h = tt
more_sends kind n m (p ∷ ps) l h = (more_pair (verb_scope (Some kind) verbs.Send) n m p l h.0, more_sends kind n m ps l h.1)

more_keep : (kind : ClosureKind) (n m : ℕ) (p : Paired) → n ≤ m → IsKeep kind n p → IsKeep kind m p
more_keep kind n m p l h = record { has_state = h.has_state; pair = more_pair (verb_scope (Some kind) verbs.Keep) n m p l h.pair }

-- LISTS with one more at their end
all_append : {A : Type 0} (P : A → Type 0) (xs ys : List A) → AllByRecursion P xs → AllByRecursion P ys → AllByRecursion P (xs ++ ys)
all_append P [] ys h k = k
all_append P (x ∷ xs) ys h k = (h.0, all_append P xs ys h.1 k)

all_front : {A : Type 0} (P : A → Type 0) (xs ys : List A) → AllByRecursion P (xs ++ ys) → AllByRecursion P xs
all_front P [] ys h = tt
all_front P (x ∷ xs) ys h = (h.0, all_front P xs ys h.1)

all_rest : {A : Type 0} (P : A → Type 0) (xs ys : List A) → AllByRecursion P (xs ++ ys) → AllByRecursion P ys
all_rest P [] ys h = h
all_rest P (x ∷ xs) ys h = all_rest P xs ys h.1

apart_front : (done cs : List Said) (c : Said) → AreApart done (cs ++ c ∷ []) → AreApart done cs
apart_front done [] c h = tt
apart_front done (x ∷ cs) c h = (h.0, apart_front (done ++ x ∷ []) cs c h.1)

apart_last : (done cs : List Said) (c : Said) → AreApart done (cs ++ c ∷ []) → has_closure c.kind c.code (done ++ cs) ≡ false
apart_last done [] c h = ap (has_closure c.kind c.code) (append-nil done) ∙ h.0
apart_last done (x ∷ cs) c h = ap (has_closure c.kind c.code) (sym (append_assoc done (x ∷ []) cs)) ∙ apart_last (done ++ x ∷ []) cs c h.1

apart_with : (done cs : List Said) (c : Said) → AreApart done cs → has_closure c.kind c.code (done ++ cs) ≡ false → AreApart done (cs ++ c ∷ [])
apart_with done [] c h k = (ap (has_closure c.kind c.code) (sym (append-nil done)) ∙ k, tt)
apart_with done (x ∷ cs) c h k = (h.0, apart_with (done ++ x ∷ []) cs c h.1 (ap (has_closure c.kind c.code) (append_assoc done (x ∷ []) cs) ∙ k))

-- HOW MANY NODES
nodes_lines_append : (ls ms : List Line) → nodes_of (ls ++ ms) ≡ nodes_of ls + nodes_of ms
nodes_lines_append [] ms = omega arith
nodes_lines_append (l ∷ ls) ms = omega (arith, nodes_lines_append ls ms)

nodes_all_append : (cs : List Said) (c : Said) → nodes_of (all_lines (cs ++ c ∷ [])) ≡ nodes_of (all_lines cs) + nodes_of (lines_of c)
nodes_all_append [] c = let e : nodes_of (lines_of c ++ []) ≡ nodes_of (lines_of c) + nodes_of [] = nodes_lines_append (lines_of c) [] in omega (arith, e)
nodes_all_append (x ∷ cs) c =
    let a : nodes_of (lines_of x ++ all_lines (cs ++ c ∷ [])) ≡ nodes_of (lines_of x) + nodes_of (all_lines (cs ++ c ∷ [])) = nodes_lines_append (lines_of x) (all_lines (cs ++ c ∷ [])) in
    let b : nodes_of (lines_of x ++ all_lines cs) ≡ nodes_of (lines_of x) + nodes_of (all_lines cs) = nodes_lines_append (lines_of x) (all_lines cs) in
    omega (arith, a, b, nodes_all_append cs c)

pub record HasNodes (c : Said) (l m e s k : ℕ) : Type 0 where
  pub all : nodes_of (lines_of c) ≡ nodes_in (line_tokens (head c.kind c.code)) + (l + (m + (e + (s + k))))

has_nodes : (c : Said) → HasNodes c (nodes_of (map let_line c.lets)) (nodes_of (map item_line c.changes)) (nodes_of (map each c.each)) (nodes_of (map send c.sends)) (nodes_of (keep_lines c.keep))
has_nodes c =
    let a = nodes_lines_append (map let_line c.lets) (map item_line c.changes ++ (map each c.each ++ (map send c.sends ++ keep_lines c.keep))) in
    let b = nodes_lines_append (map item_line c.changes) (map each c.each ++ (map send c.sends ++ keep_lines c.keep)) in
    let d = nodes_lines_append (map each c.each) (map send c.sends ++ keep_lines c.keep) in
    let e = nodes_lines_append (map send c.sends) (keep_lines c.keep) in
    record { all = omega (arith, a, b, d, e) }

nodes_more : {A : Type 0} (f : A → Line) (xs ys : List A) → nodes_of (map f (xs ++ ys)) ≡ nodes_of (map f xs) + nodes_of (map f ys)
nodes_more f xs ys = ap nodes_of (map-append f xs ys) ∙ nodes_lines_append (map f xs) (map f ys)

keep_by : (p : Paired) (b : Bool) → nodes_of (if b then [] else keep p ∷ []) ≤ nodes_in (line_tokens (keep p))
keep_by p true = omega arith
keep_by p false = omega arith

-- WHAT A DRAFT IS
abbrev IsCounted : Option Said → List (List ℕ) → Type 0
IsCounted None registers = ⊤
IsCounted (Some c) registers = length registers ≡ length c.lets

pub record IsDraft (d : Draft) : Type 0 where
  pub each : AllByRecursion IsClosure (closures_of d)
  pub apart : AreApart [] (closures_of d)
  pub few : length (closures_of d) ≤ 256
  pub nodes : nodes_of (all_lines (closures_of d)) + d.nodes ≤ 4096
  pub counted : IsCounted d.last d.registers

-- the last closure changes, and takes some nodes
record Changes (c f : Said) (count used : ℕ) : Type 0 where
  kind_is : f.kind ≡ c.kind
  code_is : f.code ≡ c.code
  closure : IsClosure f
  counted : count ≡ length f.lets
  nodes : nodes_of (lines_of f) ≤ nodes_of (lines_of c) + used

changed : (d : Draft) (c f : Said) (kept : Bool) (registers : List (List ℕ)) (bytes nodes used : ℕ) → IsDraft d → d.last ≡ Some c → Changes c f (length registers) used → used ≤ d.nodes → nodes ≤ d.nodes - used
    → IsDraft (record { done = d.done; last = Some f; kept = kept; registers = registers; bytes = bytes; nodes = nodes })
changed d c f kept registers bytes nodes used h last g room left =
    let all : closures_of d ≡ d.done ++ c ∷ [] = ap (λ (o : Option Said). d.done ++ option_to_list o) last in
    let each : AllByRecursion IsClosure (d.done ++ c ∷ []) = subst (AllByRecursion IsClosure) all h.each in
    let apart : AreApart [] (d.done ++ c ∷ []) = subst (AreApart []) all h.apart in
    let here : has_closure f.kind f.code d.done ≡ false = (let k = g.kind_is in let e = g.code_is in (λ i. has_closure (k i) (e i) d.done) ∙ apart_last [] d.done c apart) in
    let count : nodes_of (all_lines (closures_of d)) ≡ nodes_of (all_lines (d.done ++ c ∷ [])) = ap (λ (x : List Said). nodes_of (all_lines x)) all in
    let long : length (closures_of d) ≡ length (d.done ++ c ∷ []) = ap length all in
    record {
      each = all_append IsClosure d.done (f ∷ []) (all_front IsClosure d.done (c ∷ []) each) (g.closure, tt);
      apart = apart_with [] d.done f (apart_front [] d.done c apart) here;
      few = omega (arith, h.few, long, length-append d.done (c ∷ []), length-append d.done (f ∷ []));
      nodes = omega (arith, h.nodes, count, nodes_all_append d.done c, nodes_all_append d.done f, g.nodes, room, left);
      counted = g.counted;
    }

-- A LINE OF NO WORDS
nothing_is : (ts : List Token) → says_nothing ts ≡ true → ts ≡ tokens.End ∷ []
nothing_is (tokens.End ∷ []) h = refl
nothing_is [] h = absurd (cc)
nothing_is (t ∷ ts) h = absurd (cc)

counted_as : (o : Option Said) (xs ys : List (List ℕ)) → length xs ≡ length ys → IsCounted o xs → IsCounted o ys
counted_as None xs ys e h = tt
counted_as (Some c) xs ys e h = sym e ∙ h

after_nothing : (d : Draft) (line : List ℕ) → IsDraft d → says_nothing (tokens_in d line) ≡ true → IsDraft (after_words d line)
after_nothing d line h e =
    let l : IsInLine d line = in_line d line in
    let none : AreTokens l.scope (length d.registers) (length (registers_in d line)) (tokens.End ∷ []) = subst (AreTokens l.scope (length d.registers) (length (registers_in d line))) (nothing_is (tokens_in d line) e) l.tokens_are in
    record { each = h.each; apart = h.apart; few = h.few; nodes = h.nodes; counted = counted_as d.last d.registers (registers_in d line) none.1 h.counted }

-- A HEAD
record Began (d : Draft) (kind : ClosureKind) (code : ℕ) (f : Draft) : Type 0 where
  apart : has_closure kind code (closures_of d) ≡ false
  few : length (closures_of d) < 256
  is : f ≡ begun_with d kind code

began_by : (d : Draft) (kind : ClosureKind) (code : ℕ) (f : Draft) (b e : Bool) → has_closure kind code (closures_of d) ≡ b → nat_lt (length (closures_of d)) 256 ≡ e
    → ◌≡◌ {A = Result Draft Wrong} (if b then Err wrongs.Code else (if e then Ok (begun_with d kind code) else Err wrongs.TooMany)) (Ok f) → Began d kind code f
began_by d kind code f true e p q h = absurd (cc)
began_by d kind code f false true p q h = let same : f ≡ begun_with d kind code = cc in record { apart = p; few = ltb-true (length (closures_of d)) 256 q; is = same }
began_by d kind code f false false p q h = absurd (cc)

began : (d : Draft) (kind : ClosureKind) (code : ℕ) (f : Draft) → with_head d kind code ≡ Ok f → Began d kind code f
began d kind code f h = began_by d kind code f (has_closure kind code (closures_of d)) (nat_lt (length (closures_of d)) 256) refl refl h

fresh : (kind : ClosureKind) (code : ℕ) → is_code code ≡ true → IsClosure (new_closure kind code)
fresh kind code h = record { code = h; lets = tt; few = omega arith; changes = tt; each = tt; sends = tt; few_sends = omega arith; keep = λ e. absurd (cc) }

-- the draft of a new head
with_new_head : (d : Draft) (kind : ClosureKind) (code : ℕ) (registers : List (List ℕ)) (bytes nodes : ℕ) → IsDraft d → is_code code ≡ true → has_closure kind code (closures_of d) ≡ false → length (closures_of d) < 256 → nodes + 1 ≤ d.nodes
    → IsDraft (begun_with (record d { registers = registers; bytes = bytes; nodes = nodes }) kind code)
with_new_head d kind code registers bytes nodes h range apart few room =
    let one : nodes_of (lines_of (new_closure kind code)) ≡ 1 = refl in
    record {
      each = all_append IsClosure (closures_of d) (new_closure kind code ∷ []) h.each (fresh kind code range, tt);
      apart = apart_with [] (closures_of d) (new_closure kind code) h.apart apart;
      few = omega (arith, few, length-append (closures_of d) (new_closure kind code ∷ []));
      nodes = omega (arith, h.nodes, nodes_all_append (closures_of d) (new_closure kind code), one, room);
      counted = refl;
    }

-- THE OTHER LINES
record Parted (d : Draft) (o : Option Said) (l : Line) (f : Draft) : Type 0 where
  before : Said
  behind : Said
  last_is : o ≡ Some before
  part : with_part before d.kept l ≡ Ok behind
  is : f ≡ record d { last = Some behind; kept = d.kept || is_keep l }

parted_by : (d : Draft) (c : Said) (l : Line) (f : Draft) (r : Result Said Wrong) → with_part c d.kept l ≡ r → with_last d (d.kept || is_keep l) r ≡ Ok f → Parted d (Some c) l f
parted_by d c l f (Ok x) e h = let same : f ≡ record d { last = Some x; kept = d.kept || is_keep l } = cc in record { before = c; behind = x; last_is = refl; part = e; is = same }
parted_by d c l f (Err w) e h = absurd (cc)

parted : (d : Draft) (o : Option Said) (l : Line) (f : Draft) → in_last d o l ≡ Ok f → Parted d o l f
parted d None l f h = absurd (cc)
parted d (Some c) l f h = parted_by d c l f (with_part c d.kept l) refl h

tested : {A : Type 0} (b : Bool) (x y : A) (w : Wrong) → ◌≡◌ {A = Result A Wrong} (if b then Ok x else Err w) (Ok y) → (b ≡ true) × (x ≡ y)
tested true x y w h = let same : x ≡ y = cc in (refl, same)
tested false x y w h = absurd (cc)

-- the lines `let`
lets_append : (kind : ClosureKind) (k n : ℕ) (xs cs : List Assigned) → n ≡ k + length xs → AreLets kind k xs → AreLetsAt (verb_scope (Some kind) verbs.Let) n cs → AreLets kind k (xs ++ cs)
lets_append kind k n [] [] e h g = tt
lets_append kind k n [] (c ∷ cs) e h g =
    let same : n ≡ k = omega (arith, e) in
    let scope = verb_scope (Some kind) verbs.Let in (
      record { name_is = g.0.0 ∙ ap names.Register same; value = subst (λ (i : ℕ). IsExpression scope (suc i) c.value) same g.0.1; when_is = g.0.2 },
      lets_append kind (suc k) (suc n) [] cs (omega (arith, same)) tt g.1,
    )
lets_append kind k n (x ∷ xs) cs e h g = (h.0, lets_append kind (suc k) n xs cs (omega (arith, e)) h.1 g)

changes_lets : (c : Said) (m used : ℕ) (cs : List Assigned) → IsClosure c → AreLetsAt (verb_scope (Some c.kind) verbs.Let) (length c.lets) cs → length c.lets + length cs ≡ m → length c.lets + length cs ≤ 8 → nodes_of (map let_line cs) ≤ used
    → Changes c (record c { lets = c.lets ++ cs }) m used
changes_lets c m used cs h given count few nodes =
    let f : Said = record c { lets = c.lets ++ cs } in
    let n : ℕ = length c.lets in
    let long : length f.lets ≡ n + length cs = length-append c.lets cs in
    let more : n ≤ length f.lets = omega (arith, long) in
    let start : n ≡ 0 + length c.lets = omega arith in
    record {
      kind_is = refl;
      code_is = refl;
      closure = record {
        code = h.code;
        lets = lets_append c.kind 0 n c.lets cs start h.lets given;
        few = omega (arith, long, few);
        changes = more_items c.kind n (length f.lets) c.changes more h.changes;
        each = more_each c.kind n (length f.lets) c.each more h.each;
        sends = more_sends c.kind n (length f.lets) c.sends more h.sends;
        few_sends = h.few_sends;
        keep = λ e. more_keep c.kind n (length f.lets) c.keep more (h.keep e);
      };
      counted = omega (arith, long, count);
      nodes = omega (arith, (has_nodes c).all, (has_nodes f).all, nodes_more let_line c.lets cs, nodes);
    }

-- the lines `item`
items_are : (kind : ClosureKind) (n : ℕ) (cs : List Assigned) → has_items (Some kind) ≡ true
    → AllByRecursion (λ (c : Assigned). (may_change c.name ≡ true) × (is_named (verb_scope (Some kind) verbs.Item) n (name c.name) ≡ true) × IsExpression (verb_scope (Some kind) verbs.Item) n c.value × IsExpression (verb_scope (Some kind) verbs.Item) n c.when) cs
    → AllByRecursion (IsItem kind n) cs
items_are kind n [] some h = tt
items_are kind n (c ∷ cs) some h = (record { has_some = some; changes = h.0.0; there = h.0.1; value = h.0.2; when = h.0.3 }, items_are kind n cs some h.1)

changes_items : (c : Said) (used : ℕ) (cs : List Assigned) → IsClosure c → AllByRecursion (IsItem c.kind (length c.lets)) cs → nodes_of (map item_line cs) ≤ used → Changes c (record c { changes = c.changes ++ cs }) (length c.lets) used
changes_items c used cs h given nodes =
    let f : Said = record c { changes = c.changes ++ cs } in
    record {
      kind_is = refl;
      code_is = refl;
      closure = record {
        code = h.code;
        lets = h.lets;
        few = h.few;
        changes = all_append (IsItem c.kind (length c.lets)) c.changes cs h.changes given;
        each = h.each;
        sends = h.sends;
        few_sends = h.few_sends;
        keep = h.keep;
      };
      counted = refl;
      nodes = omega (arith, (has_nodes c).all, (has_nodes f).all, nodes_more item_line c.changes cs, nodes);
    }

-- the lines `each`, `send` and `keep`
changes_each : (c : Said) (used : ℕ) (p : Paired) → IsClosure c → IsEach c.kind (length c.lets) p → nodes_in (line_tokens (each p)) ≤ used → Changes c (record c { each = c.each ++ p ∷ [] }) (length c.lets) used
changes_each c used p h k nodes =
    let f : Said = record c { each = c.each ++ p ∷ [] } in
    record {
      kind_is = refl;
      code_is = refl;
      closure = record {
        code = h.code;
        lets = h.lets;
        few = h.few;
        changes = h.changes;
        each = all_append (IsEach c.kind (length c.lets)) c.each (p ∷ []) h.each (k, tt);
        sends = h.sends;
        few_sends = h.few_sends;
        keep = h.keep;
      };
      counted = refl;
      nodes = omega (arith, (has_nodes c).all, (has_nodes f).all, nodes_more each c.each (p ∷ []), nodes);
    }

changes_sends : (c : Said) (used : ℕ) (p : Paired) → IsClosure c → IsPairAt (verb_scope (Some c.kind) verbs.Send) (length c.lets) p → length c.sends < 8 → nodes_in (line_tokens (send p)) ≤ used → Changes c (record c { sends = c.sends ++ p ∷ [] }) (length c.lets) used
changes_sends c used p h k few nodes =
    let f : Said = record c { sends = c.sends ++ p ∷ [] } in
    record {
      kind_is = refl;
      code_is = refl;
      closure = record {
        code = h.code;
        lets = h.lets;
        few = h.few;
        changes = h.changes;
        each = h.each;
        sends = all_append (IsPairAt (verb_scope (Some c.kind) verbs.Send) (length c.lets)) c.sends (p ∷ []) h.sends (k, tt);
        few_sends = omega (arith, few, length-append c.sends (p ∷ []));
        keep = h.keep;
      };
      counted = refl;
      nodes = omega (arith, (has_nodes c).all, (has_nodes f).all, nodes_more send c.sends (p ∷ []), nodes);
    }

changes_keep : (c : Said) (used : ℕ) (p : Paired) → IsClosure c → IsKeep c.kind (length c.lets) p → nodes_in (line_tokens (keep p)) ≤ used → Changes c (record c { keep = p }) (length c.lets) used
changes_keep c used p h k nodes =
    let f : Said = record c { keep = p } in
    record {
      kind_is = refl;
      code_is = refl;
      closure = record { code = h.code; lets = h.lets; few = h.few; changes = h.changes; each = h.each; sends = h.sends; few_sends = h.few_sends; keep = λ e. k };
      counted = refl;
      nodes = omega (arith, (has_nodes c).all, (has_nodes f).all, keep_by p (is_unchanged p), nodes);
    }

-- ONE LINE MORE
-- the tokens behind the first word of a line
record Behind (d : Draft) (c : Said) (line : List ℕ) (verb : Verb) (after : List Token) : Type 0 where
  tokens_are : AreTokens (verb_scope (Some c.kind) verb) (length c.lets) (length (registers_in d line)) after
  nodes_are : nodes_in (tokens_in d line) ≡ nodes_in after

behind_verb : (d : Draft) (c : Said) (line : List ℕ) (verb : Verb) (after : List Token) → IsDraft d → d.last ≡ Some c → tokens_in d line ≡ tokens.Verb verb ∷ after → Behind d c line verb after
behind_verb d c line verb after h last begins =
    let l : IsInLine d line = in_line d line in
    let kind : kind_of d ≡ Some c.kind = (λ i. kind_of (record d { last = last i })) in
    let scope : l.scope ≡ verb_scope (Some c.kind) verb = l.scope_is verb after begins ∙ ap (λ (k : Option ClosureKind). verb_scope k verb) kind in
    let count : length d.registers ≡ length c.lets = subst (λ (o : Option Said). IsCounted o d.registers) last h.counted in
    let all : AreTokens l.scope (length d.registers) (length (registers_in d line)) (tokens.Verb verb ∷ after) = subst (AreTokens l.scope (length d.registers) (length (registers_in d line))) begins l.tokens_are in
    let step : nodes_in (tokens.Verb verb ∷ after) ≡ nodes_in after = omega arith in
    record {
      tokens_are = subst (λ (s : Scope). AreTokens s (length c.lets) (length (registers_in d line)) after) scope
          (subst (λ (n : ℕ). AreTokens l.scope n (length (registers_in d line)) after) count all.1);
      nodes_are = ap nodes_in begins ∙ step;
    }

last_closure : (d : Draft) (c : Said) → IsDraft d → d.last ≡ Some c → IsClosure c
last_closure d c h last = (all_rest IsClosure d.done (c ∷ []) (subst (AllByRecursion IsClosure) (ap (λ (o : Option Said). d.done ++ option_to_list o) last) h.each)).0

-- the draft behind a line of the last closure
stood : (d f : Draft) (line : List ℕ) (c g : Said) (kept : Bool) → IsDraft d → d.last ≡ Some c → Changes c g (length (registers_in d line)) (nodes_in (tokens_in d line)) → nodes_in (tokens_in d line) ≤ d.nodes
    → f ≡ record (after_nodes (after_words d line) (tokens_in d line)) { last = Some g; kept = kept } → IsDraft f
stood d f line c g kept h last changes few is =
    subst IsDraft (sym is) (changed d c g kept (registers_in d line) (after_words d line).bytes (d.nodes - nodes_in (tokens_in d line)) (nodes_in (tokens_in d line)) h last changes few (omega arith))

recounted : (c g : Said) (n m used : ℕ) → n ≡ m → Changes c g n used → Changes c g m used
recounted c g n m used e h = record { kind_is = h.kind_is; code_is = h.code_is; closure = h.closure; counted = sym e ∙ h.counted; nodes = h.nodes }

line_stands : (d f : Draft) (line : List ℕ) (l : Line) → IsDraft d → IsLine (tokens_in d line) l → nodes_in (tokens_in d line) ≤ d.nodes → with_line (after_nodes (after_words d line) (tokens_in d line)) l ≡ Ok f → IsDraft f
line_stands d f line (head kind code) h spelled few stands =
    let e : Draft = after_nodes (after_words d line) (tokens_in d line) in
    let b : Began e kind code f = began e kind code f stands in
    let one : nodes_in (tokens_in d line) ≡ 1 = ap nodes_in spelled.tokens_are in
    subst IsDraft (sym b.is) (with_new_head d kind code (registers_in d line) (after_words d line).bytes (d.nodes - nodes_in (tokens_in d line)) h spelled.in_range b.apart b.few (omega (arith, one, few)))
line_stands d f line (lets cs) h spelled few stands =
    let e : Draft = after_nodes (after_words d line) (tokens_in d line) in
    let p : Parted e d.last (lets cs) f = parted e d.last (lets cs) f stands in
    let c : Said = p.before in
    let t : Behind d c line verbs.Let spelled.after = behind_verb d c line verbs.Let spelled.after h p.last_is spelled.begins in
    let all : AreAllLetsAt (verb_scope (Some c.kind) verbs.Let) (length c.lets) (length (registers_in d line)) cs spelled.after = lets_at (verb_scope (Some c.kind) verbs.Let) (length c.lets) (length (registers_in d line)) spelled.after cs t.tokens_are spelled.changes in
    let same : record c { lets = c.lets ++ cs } ≡ p.behind = (let k : with_part c d.kept (lets cs) ≡ Ok p.behind = p.part in cc) in
    let changes : Changes c (record c { lets = c.lets ++ cs }) (length (registers_in d line)) (nodes_in (tokens_in d line))
    = changes_lets c (length (registers_in d line)) (nodes_in (tokens_in d line)) cs (last_closure d c h p.last_is) all.each all.count all.few (omega (arith, all.nodes, t.nodes_are)) in
    stood d f line c p.behind (d.kept || false) h p.last_is (subst (λ (g : Said). Changes c g (length (registers_in d line)) (nodes_in (tokens_in d line))) same changes) few p.is
line_stands d f line (item cs) h spelled few stands =
    let e : Draft = after_nodes (after_words d line) (tokens_in d line) in
    let p : Parted e d.last (item cs) f = parted e d.last (item cs) f stands in
    let c : Said = p.before in
    let t : Behind d c line verbs.Item spelled.after = behind_verb d c line verbs.Item spelled.after h p.last_is spelled.begins in
    let all : AreItemsAt (verb_scope (Some c.kind) verbs.Item) (length c.lets) (length (registers_in d line)) cs spelled.after = items_at (verb_scope (Some c.kind) verbs.Item) (length c.lets) (length (registers_in d line)) spelled.after cs t.tokens_are spelled.changes in
    let is = tested (has_items (Some c.kind)) (record c { changes = c.changes ++ cs }) p.behind wrongs.Syntax p.part in
    let changes : Changes c (record c { changes = c.changes ++ cs }) (length c.lets) (nodes_in (tokens_in d line))
    = changes_items c (nodes_in (tokens_in d line)) cs (last_closure d c h p.last_is) (items_are c.kind (length c.lets) cs is.0 all.each) (omega (arith, all.nodes, t.nodes_are)) in
    stood d f line c p.behind (d.kept || false) h p.last_is
    (recounted c p.behind (length c.lets) (length (registers_in d line)) (nodes_in (tokens_in d line)) all.count (subst (λ (g : Said). Changes c g (length c.lets) (nodes_in (tokens_in d line))) is.1 changes)) few p.is
line_stands d f line (each q) h spelled few stands =
    let e : Draft = after_nodes (after_words d line) (tokens_in d line) in
    let p : Parted e d.last (each q) f = parted e d.last (each q) f stands in
    let c : Said = p.before in
    let t : Behind d c line verbs.Each spelled.after = behind_verb d c line verbs.Each spelled.after h p.last_is spelled.begins in
    let all : IsPairedAt (verb_scope (Some c.kind) verbs.Each) (length c.lets) (length (registers_in d line)) q spelled.after = pair_at (verb_scope (Some c.kind) verbs.Each) (length c.lets) (length (registers_in d line)) spelled.after q t.tokens_are spelled.pair in
    let is = tested (has_items (Some c.kind)) (record c { each = c.each ++ q ∷ [] }) p.behind wrongs.Syntax p.part in
    let changes : Changes c (record c { each = c.each ++ q ∷ [] }) (length c.lets) (nodes_in (tokens_in d line))
    = changes_each c (nodes_in (tokens_in d line)) q (last_closure d c h p.last_is) (record { has_some = is.0; pair = all.pair }) (omega (arith, all.nodes, t.nodes_are)) in
    stood d f line c p.behind (d.kept || false) h p.last_is
    (recounted c p.behind (length c.lets) (length (registers_in d line)) (nodes_in (tokens_in d line)) all.count (subst (λ (g : Said). Changes c g (length c.lets) (nodes_in (tokens_in d line))) is.1 changes)) few p.is
line_stands d f line (send q) h spelled few stands =
    let e : Draft = after_nodes (after_words d line) (tokens_in d line) in
    let p : Parted e d.last (send q) f = parted e d.last (send q) f stands in
    let c : Said = p.before in
    let t : Behind d c line verbs.Send spelled.after = behind_verb d c line verbs.Send spelled.after h p.last_is spelled.begins in
    let all : IsPairedAt (verb_scope (Some c.kind) verbs.Send) (length c.lets) (length (registers_in d line)) q spelled.after = pair_at (verb_scope (Some c.kind) verbs.Send) (length c.lets) (length (registers_in d line)) spelled.after q t.tokens_are spelled.pair in
    let is = tested (nat_lt (length c.sends) 8) (record c { sends = c.sends ++ q ∷ [] }) p.behind wrongs.TooMany p.part in
    let changes : Changes c (record c { sends = c.sends ++ q ∷ [] }) (length c.lets) (nodes_in (tokens_in d line))
    = changes_sends c (nodes_in (tokens_in d line)) q (last_closure d c h p.last_is) all.pair (ltb-true (length c.sends) 8 is.0) (omega (arith, all.nodes, t.nodes_are)) in
    stood d f line c p.behind (d.kept || false) h p.last_is
    (recounted c p.behind (length c.lets) (length (registers_in d line)) (nodes_in (tokens_in d line)) all.count (subst (λ (g : Said). Changes c g (length c.lets) (nodes_in (tokens_in d line))) is.1 changes)) few p.is
line_stands d f line (keep q) h spelled few stands =
    let e : Draft = after_nodes (after_words d line) (tokens_in d line) in
    let p : Parted e d.last (keep q) f = parted e d.last (keep q) f stands in
    let c : Said = p.before in
    let t : Behind d c line verbs.Keep spelled.after = behind_verb d c line verbs.Keep spelled.after h p.last_is spelled.begins in
    let all : IsPairedAt (verb_scope (Some c.kind) verbs.Keep) (length c.lets) (length (registers_in d line)) q spelled.after = pair_at (verb_scope (Some c.kind) verbs.Keep) (length c.lets) (length (registers_in d line)) spelled.after q t.tokens_are spelled.pair in
    let is = kept_by (is_fold (Some c.kind)) d.kept (record c { keep = q }) p.behind p.part in
    let changes : Changes c (record c { keep = q }) (length c.lets) (nodes_in (tokens_in d line))
    = changes_keep c (nodes_in (tokens_in d line)) q (last_closure d c h p.last_is) (record { has_state = is.0; pair = all.pair }) (omega (arith, all.nodes, t.nodes_are)) in
    stood d f line c p.behind (d.kept || true) h p.last_is
    (recounted c p.behind (length c.lets) (length (registers_in d line)) (nodes_in (tokens_in d line)) all.count (subst (λ (g : Said). Changes c g (length c.lets) (nodes_in (tokens_in d line))) is.1 changes)) few p.is
  where
    kept_by : (b k : Bool) (x y : Said) → ◌≡◌ {A = Result Said Wrong} (if b then (if k then Err wrongs.TooMany else Ok x) else Err wrongs.Syntax) (Ok y) → (b ≡ true) × (x ≡ y)
    kept_by true true x y h = absurd (cc)
    kept_by true false x y h = let same : x ≡ y = cc in (refl, same)
    kept_by false k x y h = absurd (cc)

said_stands : (d f : Draft) (line : List ℕ) (b : Bool) → says_nothing (tokens_in d line) ≡ b → IsDraft d → AreSaidBy b (after_words d line) (tokens_in d line) f → IsDraft f
said_stands d f line true e h s = subst IsDraft (sym s) (after_nothing d line h e)
said_stands d f line false e h s = line_stands d f line s.line h s.spelled s.few s.stands

adds_stands : (d f : Draft) (line : List ℕ) → IsDraft d → Adds d line f → IsDraft f
adds_stands d f line h a = said_stands d f line (says_nothing (tokens_in d line)) refl h a.said

add_stands : (d e : Draft) (lines : List (List ℕ)) → IsDraft d → Add d lines e → IsDraft e
add_stands d e [] h a = subst IsDraft a h
add_stands d e (line ∷ lines) h a = add_stands a.0 e lines (adds_stands d a.0 line h a.1) a.2

no_draft_stands : IsDraft no_draft
no_draft_stands = record { each = tt; apart = tt; few = omega arith; nodes = omega arith; counted = tt }

-- WHAT A TEXT SPELLS CAN BE SPELLED
pub spellable : (text : List ℕ) (cs : List Said) → ClosuresText text cs → AreSpellable cs
spellable text cs t =
    let h : IsDraft t.draft = add_stands no_draft t.draft (text_lines text) no_draft_stands t.lines in
    let is : closures_of t.draft ≡ cs = sym t.closures_are in
    subst AreSpellable is (record { each = h.each; apart = h.apart; few = h.few; nodes = omega (arith, h.nodes) })
