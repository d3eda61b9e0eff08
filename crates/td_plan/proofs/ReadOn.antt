-- Which vertices of a plan's tree are read on a block.
use Rattle.std.proofs.Common.{◌≡◌, ℕ, zero, suc, ◌+◌, ◌<◌, ◌≤◌, Bool, true, false, ◌||◌, ◌==◌, List, [], ◌∷◌, ◌++◌, length, get_or, inl, inr, refl, ap, sym, ◌∙◌, subst, arith, eq-eqb}
use Rattle.std.specs.Prelude.{◌⊎◌, None, Some, drop}
use Rattle.std.specs.List.{AllByRecursion, list_any}
use Rattle.std.specs.Str.{bytes_eq}
use Rattle.std.proofs.lemmas.List.{length-map}
use Rattle.std.proofs.lemmas.List.Folds.{list_any-append}
use Rattle.std.proofs.lemmas.Slice.Eq.{bytes_eq-Decides}
use Rattle.td_plan.specs.declared.vertex.Kind.{Kind}
use Rattle.td_plan.specs.declared.vertex.Kind.TheVariants.{Leave, Output}
use Rattle.td_plan.specs.declared.vertex.Loop.{Loop}
use Rattle.td_plan.specs.Lines.{Vertex}
use Rattle.td_plan.specs.Blocks.{PlacedVertex, read_loops, firsts, is_read_on, is_source_on}
use Rattle.td_plan.specs.Tree.{Nodes, size, placed_in, IsNumbered}
use Rattle.td_plan.specs.Tree.Nodes.{done, node, block}
use Rattle.td_plan.specs.Placed.{leave_of, leaves_of, read_of, read_in}
use Rattle.td_plan.proofs.Trees.{length-placed}

-- WHAT HOLDS OF ALL ELEMENTS
pub all_append : {X : Type 0} (P : X → Type 0) (xs ys : List X) → AllByRecursion P xs → AllByRecursion P ys → AllByRecursion P (xs ++ ys)
all_append P [] ys h k = k
all_append P (x ∷ xs) ys h k = (h.0, all_append P xs ys h.1 k)

pub all_weaker : {X : Type 0} (P Q : X → Type 0) → ((x : X) → P x → Q x) → (xs : List X) → AllByRecursion P xs → AllByRecursion Q xs
all_weaker P Q f [] h = tt
all_weaker P Q f (x ∷ xs) h = (f x h.0, all_weaker P Q f xs h.1)

-- NUMBERS
abbrev pub IsAmong : List ℕ → ℕ → Type 0
IsAmong xs s = list_any (λ x. x == s) xs ≡ true

or_true : (b : Bool) → (b || true) ≡ true
or_true true = refl
or_true false = refl

pub among_left : (xs ys : List ℕ) (s : ℕ) → IsAmong xs s → IsAmong (xs ++ ys) s
among_left xs ys s h = list_any-append (λ x. x == s) xs ys ∙ ap (λ b. b || list_any (λ x. x == s) ys) h

pub among_right : (xs ys : List ℕ) (s : ℕ) → IsAmong ys s → IsAmong (xs ++ ys) s
among_right xs ys s h = list_any-append (λ x. x == s) xs ys ∙ ap (λ b. list_any (λ x. x == s) xs || b) h ∙ or_true (list_any (λ x. x == s) xs)

itself : (s : ℕ) → IsAmong (s ∷ []) s
itself s = ap (λ b. b || false) (eq-eqb s s refl)

-- the numbers count up from k, and no loop begins after what stands in it
abbrev pub InOrder : ℕ → List PlacedVertex → Type 0
InOrder k [] = Unit {0}
InOrder k (p ∷ ps) = (p.vertex.number ≡ k) × AllByRecursion (λ l. l.first ≤ k) p.loops × InOrder (k + 1) ps

pub order_left : (xs ys : List PlacedVertex) (k : ℕ) → InOrder k (xs ++ ys) → InOrder k xs
order_left [] ys k h = tt
order_left (x ∷ xs) ys k h = (h.0, h.1, order_left xs ys (k + 1) h.2)

order_append : (xs ys : List PlacedVertex) (k : ℕ) → InOrder k xs → InOrder (k + length xs) ys → InOrder k (xs ++ ys)
order_append [] ys k h g = let e : k + 0 ≡ k = omega arith in subst (λ n. InOrder n ys) e g
order_append (x ∷ xs) ys k h g =
    let e : k + suc (length xs) ≡ k + 1 + length xs = omega arith in (h.0, h.1, order_append xs ys (k + 1) h.2 (subst (λ n. InOrder n ys) e g))

begun_by : (j k : ℕ) → j ≤ k → (ls : List Loop) → AllByRecursion (λ l. l.first ≤ j) ls → AllByRecursion (λ l. l.first ≤ k) ls
begun_by j k h ls b = all_weaker (λ l. l.first ≤ j) (λ l. l.first ≤ k) (λ l e. omega arith) ls b

-- BLOCKS ARE TOLD APART
-- whether a vertex of this kind, which stands in these loops, is read on a block
abbrev pub reads_on : List Loop → Kind → List Loop → Bool
reads_on there kind loops = elim (read_loops kind loops) [ None ↦ false | Some ls ↦ bytes_eq (firsts ls) (firsts there) ]

same_firsts : (a b : List Loop) → bytes_eq (firsts a) (firsts b) ≡ true → firsts a ≡ firsts b
same_firsts a b e = (bytes_eq-Decides (firsts a) (firsts b)).0 e

as_deep : (a b : List Loop) → bytes_eq (firsts a) (firsts b) ≡ true → length a ≡ length b
as_deep a b e =
    let same : length (firsts a) ≡ length (firsts b) = ap length (same_firsts a b e) in
    omega (arith, same, length-map a (λ l. l.first), length-map b (λ l. l.first))

-- a vertex is read on no block but that in which it stands, and, as a leave, the one around it
not_on : (there loops : List Loop) (kind : Kind) → (bytes_eq (firsts loops) (firsts there) ≡ true → ⊥) → (bytes_eq (firsts (drop 1 loops)) (firsts there) ≡ true → ⊥)
    → reads_on there kind loops ≡ true → ⊥
not_on there loops Leave here outside on = outside on
not_on there loops Output here outside on = absurd (cc)
not_on there loops _ here outside on = here on

-- READ ON A BLOCK: the numbers of those of some vertices that are read on it are among these
abbrev pub Covers : List ℕ → List Loop → List PlacedVertex → Type 0
Covers xs there ps = AllByRecursion (λ p. is_read_on there p ≡ true → IsAmong xs p.vertex.number) ps

abbrev pub NoneOn : List Loop → List PlacedVertex → Type 0
NoneOn there ps = AllByRecursion (λ p. is_read_on there p ≡ true → ⊥) ps

pub none_covered : (xs : List ℕ) (there : List Loop) (ps : List PlacedVertex) → NoneOn there ps → Covers xs there ps
none_covered xs there ps h = all_weaker (λ p. is_read_on there p ≡ true → ⊥) (λ p. is_read_on there p ≡ true → IsAmong xs p.vertex.number) (λ p none on. absurd (none on)) ps h

pub covers_left : (xs ys : List ℕ) (there : List Loop) (ps : List PlacedVertex) → Covers xs there ps → Covers (xs ++ ys) there ps
covers_left xs ys there ps h =
    all_weaker (λ p. is_read_on there p ≡ true → IsAmong xs p.vertex.number) (λ p. is_read_on there p ≡ true → IsAmong (xs ++ ys) p.vertex.number) (λ p f on. among_left xs ys p.vertex.number (f on)) ps h

pub covers_right : (xs ys : List ℕ) (there : List Loop) (ps : List PlacedVertex) → Covers ys there ps → Covers (xs ++ ys) there ps
covers_right xs ys there ps h =
    all_weaker (λ p. is_read_on there p ≡ true → IsAmong ys p.vertex.number) (λ p. is_read_on there p ≡ true → IsAmong (xs ++ ys) p.vertex.number) (λ p f on. among_right xs ys p.vertex.number (f on)) ps h

pub covers_append : (xs : List ℕ) (there : List Loop) (ps qs : List PlacedVertex) → Covers xs there ps → Covers xs there qs → Covers xs there (ps ++ qs)
covers_append xs there ps qs h k = all_append (λ p. is_read_on there p ≡ true → IsAmong xs p.vertex.number) ps qs h k

-- a source on the block is among them
found_from : (there : List Loop) (xs : List ℕ) (ps : List PlacedVertex) (k i : ℕ) → InOrder k ps → Covers xs there ps → is_source_on there ps i ≡ true → IsAmong xs (k + i)
found_from there xs [] k i order covers on = absurd (cc)
found_from there xs (p ∷ ps) k zero order covers on = let e : p.vertex.number ≡ k + 0 = omega arith in subst (IsAmong xs) e (covers.0 on)
found_from there xs (p ∷ ps) k (suc i) order covers on = let e : k + 1 + i ≡ k + suc i = omega arith in subst (IsAmong xs) e (found_from there xs ps (k + 1) i order.2 covers.1 on)

pub found : (there : List Loop) (xs : List ℕ) (ps : List PlacedVertex) (s : ℕ) → InOrder 0 ps → Covers xs there ps → is_source_on there ps s ≡ true → IsAmong xs s
found there xs ps s order covers on = let e : 0 + s ≡ s = omega arith in subst (IsAmong xs) e (found_from there xs ps 0 s order covers on)

-- A BLOCK OF THE TREE
-- vertices two loops or more inside a block are not read on it
deep_one : (around loops : List Loop) (kind : Kind) → length around + 2 ≤ length loops → reads_on around kind loops ≡ true → ⊥
deep_one around [] kind long on = absurd (omega arith)
deep_one around (l ∷ ls) kind long on =
    not_on around (l ∷ ls) kind (λ e. let d : length (l ∷ ls) ≡ length around = as_deep (l ∷ ls) around e in absurd (omega arith))
    (λ e. let d : length ls ≡ length around = as_deep ls around e in absurd (omega arith)) on

deep : (nodes : Nodes) (around loops : List Loop) (k : ℕ) → length around + 2 ≤ length loops → NoneOn around (placed_in loops k nodes)
deep done around loops k h = tt
deep (node v rest) around loops k h = (deep_one around loops v.kind h, deep rest around loops (k + 1) h)
deep (block b body rest) around loops k h =
    let l : Loop = record { first = k; bound = b } in
    let long : length around + 2 ≤ length (l ∷ loops) = omega arith in
    all_append (λ p. is_read_on around p ≡ true → ⊥) (placed_in (l ∷ loops) k body) (placed_in loops (k + size body) rest) (deep body around (l ∷ loops) k long)
    (deep rest around loops (k + size body) h)

-- of the vertices of a loop, its leaves alone are read on the block around it
leave_covered : (v : Vertex) (kind : Kind) (l : Loop) (ls : List Loop) → reads_on ls kind (l ∷ ls) ≡ true → IsAmong (leave_of v kind) v.number
leave_covered v Leave l ls on = itself v.number
leave_covered v Output l ls on = absurd (cc)
leave_covered v _ l ls on = let d : length (l ∷ ls) ≡ length ls = as_deep (l ∷ ls) ls on in absurd (omega arith)

pub leaves_covered : (nodes : Nodes) (l : Loop) (ls : List Loop) (k : ℕ) → Covers (leaves_of nodes) ls (placed_in (l ∷ ls) k nodes)
leaves_covered done l ls k = tt
leaves_covered (node v rest) l ls k = (
  λ on. among_left (leave_of v v.kind) (leaves_of rest) v.number (leave_covered v v.kind l ls on),
  covers_right (leave_of v v.kind) (leaves_of rest) ls (placed_in (l ∷ ls) (k + 1) rest) (leaves_covered rest l ls (k + 1)),
)
leaves_covered (block b body rest) l ls k =
    let inner : Loop = record { first = k; bound = b } in
    let inside : List PlacedVertex = placed_in (inner ∷ l ∷ ls) k body in
    let long : length ls + 2 ≤ length (inner ∷ l ∷ ls) = omega arith in
    covers_append (leaves_of rest) ls inside (placed_in (l ∷ ls) (k + size body) rest) (none_covered (leaves_of rest) ls inside (deep body ls (inner ∷ l ∷ ls) k long))
    (leaves_covered rest l ls (k + size body))

-- and on the loop itself those of its vertices that are no leaves, and the leaves of the loops in it
pub read_covered : (v : Vertex) (kind : Kind) (l : Loop) (ls : List Loop) → reads_on (l ∷ ls) kind (l ∷ ls) ≡ true → IsAmong (read_of v kind) v.number
read_covered v Leave l ls on = let d : length ls ≡ length (l ∷ ls) = as_deep ls (l ∷ ls) on in absurd (omega arith)
read_covered v _ l ls on = itself v.number

pub block_covered : (nodes : Nodes) (l : Loop) (ls : List Loop) (k : ℕ) → Covers (read_in nodes) (l ∷ ls) (placed_in (l ∷ ls) k nodes)
block_covered done l ls k = tt
block_covered (node v rest) l ls k = (
  λ on. among_left (read_of v v.kind) (read_in rest) v.number (read_covered v v.kind l ls on),
  covers_right (read_of v v.kind) (read_in rest) (l ∷ ls) (placed_in (l ∷ ls) (k + 1) rest) (block_covered rest l ls (k + 1)),
)
block_covered (block b body rest) l ls k =
    let inner : Loop = record { first = k; bound = b } in
    let inside : List PlacedVertex = placed_in (inner ∷ l ∷ ls) k body in
    let after : List PlacedVertex = placed_in (l ∷ ls) (k + size body) rest in
    covers_append (leaves_of body ++ read_in rest) (l ∷ ls) inside after (covers_left (leaves_of body) (read_in rest) (l ∷ ls) inside (leaves_covered body inner (l ∷ ls) k))
    (covers_right (leaves_of body) (read_in rest) (l ∷ ls) after (block_covered rest l ls (k + size body)))

-- BEFORE A LOOP no vertex is read on it
begun_before : (ls around : List Loop) (l : Loop) → AllByRecursion (λ o. o.first < l.first) ls → bytes_eq (firsts ls) (firsts (l ∷ around)) ≡ true → ⊥
begun_before [] around l h on = let e : 0 ≡ length (l ∷ around) = as_deep [] (l ∷ around) on in absurd (omega arith)
begun_before (o ∷ ls) around l h on =
    let e : o.first ≡ l.first = ap (λ xs. get_or xs 0 0) (same_firsts (o ∷ ls) (l ∷ around) on) in
    let lt : o.first < l.first = h.0 in absurd (omega arith)

before_one : (kind : Kind) (loops around : List Loop) (l : Loop) → AllByRecursion (λ o. o.first < l.first) loops → reads_on (l ∷ around) kind loops ≡ true → ⊥
before_one kind [] around l h on = not_on (l ∷ around) [] kind (begun_before [] around l tt) (begun_before [] around l tt) on
before_one kind (o ∷ ls) around l h on = not_on (l ∷ around) (o ∷ ls) kind (begun_before (o ∷ ls) around l h) (begun_before ls around l h.1) on

pub none_before : (ps : List PlacedVertex) (k : ℕ) (l : Loop) (around : List Loop) → InOrder k ps → k + length ps ≤ l.first → NoneOn (l ∷ around) ps
none_before [] k l around order h = tt
none_before (p ∷ ps) k l around order h = (
  before_one p.vertex.kind p.loops around l (all_weaker (λ o. o.first ≤ k) (λ o. o.first < l.first) (λ o e. omega arith) p.loops order.1),
  none_before ps (k + 1) l around order.2 (omega arith),
)

-- AFTER A LOOP no vertex is read on it: each loop in which one stands is around it, or begins later
abbrev pub AreLater : ℕ → ℕ → List Loop → Type 0
AreLater m depth [] = Unit {0}
AreLater m depth (l ∷ ls) = ((length ls < depth) ⊎ (m ≤ l.first)) × AreLater m depth ls

abbrev pub AllLater : ℕ → ℕ → List PlacedVertex → Type 0
AllLater m depth ps = AllByRecursion (λ p. AreLater m depth p.loops) ps

begun_after : (ls around : List Loop) (l : Loop) (m depth : ℕ) → l.first < m → depth ≤ length around → AreLater m depth ls → bytes_eq (firsts ls) (firsts (l ∷ around)) ≡ true → ⊥
begun_after [] around l m depth lt h late on = let e : 0 ≡ length (l ∷ around) = as_deep [] (l ∷ around) on in absurd (omega arith)
begun_after (o ∷ ls) around l m depth lt h late on =
    let e : o.first ≡ l.first = ap (λ xs. get_or xs 0 0) (same_firsts (o ∷ ls) (l ∷ around) on) in
    let d : length (o ∷ ls) ≡ length (l ∷ around) = as_deep (o ∷ ls) (l ∷ around) on in
    elim late.0 [ inl shallow ↦ absurd (omega arith) | inr later ↦ absurd (omega arith) ]

after_one : (kind : Kind) (loops around : List Loop) (l : Loop) (m depth : ℕ) → l.first < m → depth ≤ length around → AreLater m depth loops → reads_on (l ∷ around) kind loops ≡ true → ⊥
after_one kind [] around l m depth lt h late on = not_on (l ∷ around) [] kind (begun_after [] around l m depth lt h late) (begun_after [] around l m depth lt h late) on
after_one kind (o ∷ ls) around l m depth lt h late on = not_on (l ∷ around) (o ∷ ls) kind (begun_after (o ∷ ls) around l m depth lt h late) (begun_after ls around l m depth lt h late.1) on

pub none_after : (ps : List PlacedVertex) (l : Loop) (around : List Loop) (m depth : ℕ) → l.first < m → depth ≤ length around → AllLater m depth ps → NoneOn (l ∷ around) ps
none_after ps l around m depth lt h late =
    all_weaker (λ p. AreLater m depth p.loops) (λ p. is_read_on (l ∷ around) p ≡ true → ⊥) (λ p. after_one p.vertex.kind p.loops around l m depth lt h) ps late

-- the loops of a block are around what stands in it
pub around_later : (ls : List Loop) (m depth : ℕ) → length ls ≤ depth → AreLater m depth ls
around_later [] m depth h = tt
around_later (l ∷ ls) m depth h = (inl (omega arith), around_later ls m depth (omega arith))

still_later : (ls : List Loop) (m n depth below : ℕ) → m ≤ n → below ≤ depth → AreLater n below ls → AreLater m depth ls
still_later [] m n depth below h g late = tt
still_later (l ∷ ls) m n depth below h g late =
    (elim late.0 [ inl shallow ↦ inl (omega arith) | inr later ↦ inr (omega arith) ], still_later ls m n depth below h g late.1)

pub all_still_later : (ps : List PlacedVertex) (m n depth below : ℕ) → m ≤ n → below ≤ depth → AllLater n below ps → AllLater m depth ps
all_still_later ps m n depth below h g late =
    all_weaker (λ p. AreLater n below p.loops) (λ p. AreLater m depth p.loops) (λ p. still_later p.loops m n depth below h g) ps late

pub placed_later : (nodes : Nodes) (ls : List Loop) (k m depth : ℕ) → m ≤ k → AreLater m depth ls → AllLater m depth (placed_in ls k nodes)
placed_later done ls k m depth h late = tt
placed_later (node v rest) ls k m depth h late = (late, placed_later rest ls (k + 1) m depth (omega arith) late)
placed_later (block b body rest) ls k m depth h late =
    let l : Loop = record { first = k; bound = b } in
    all_append (λ p. AreLater m depth p.loops) (placed_in (l ∷ ls) k body) (placed_in ls (k + size body) rest) (placed_later body (l ∷ ls) k m depth h (inr h, late))
    (placed_later rest ls (k + size body) m depth (omega arith) late)

-- THE VERTICES OF A TREE ARE IN ORDER
pub placed_order : (nodes : Nodes) (ls : List Loop) (k : ℕ) → IsNumbered k nodes → AllByRecursion (λ l. l.first ≤ k) ls → InOrder k (placed_in ls k nodes)
placed_order done ls k n b = tt
placed_order (node v rest) ls k n b = (n.0, b, placed_order rest ls (k + 1) n.1 (begun_by k (k + 1) (omega arith) ls b))
placed_order (block bound body rest) ls k n b =
    let l : Loop = record { first = k; bound = bound } in
    let inside : List PlacedVertex = placed_in (l ∷ ls) k body in
    let e : k + size body ≡ k + length inside = ap (λ m. k + m) (sym (length-placed body (l ∷ ls) k)) in
    order_append inside (placed_in ls (k + size body) rest) k (placed_order body (l ∷ ls) k n.0 (omega arith, b))
    (subst (λ m. InOrder m (placed_in ls (k + size body) rest)) e (placed_order rest ls (k + size body) n.1 (begun_by k (k + size body) (omega arith) ls b)))
