-- A turn depends on no bags but those that its vertices read.
use Rattle.std.proofs.Common.{◌≡◌, ℕ, zero, suc, ◌+◌, ◌≤◌, Bool, true, false, List, [], ◌∷◌, ◌++◌, flat_map, length, Option, Some, None, refl, ap, sym, ◌∙◌, subst, arith, length-append, pred, ◌==◌, ◌||◌, eq-eqb}
use Rattle.std.specs.List.{AllByRecursion, list_any}
use Rattle.std.specs.Prelude.{is_none}
use Rattle.std.proofs.lemmas.List.{length_push}
use Rattle.td_stamp.specs.declared.values.Rec.{Rec}
use Rattle.td_stamp.specs.Orders.{rec_cmp}
use Rattle.td_stamp.specs.Bag.{bag_of}
use Rattle.td_plan.specs.declared.vertex.Kind.{Kind}
use Rattle.td_plan.specs.declared.vertex.Kind.TheVariants.{Input, Map, Distinct, Group, Fold, Enter, Feedback, Leave, Output}
use Rattle.td_plan.specs.Lines.{Vertex}
use Rattle.td_plan.specs.Tree.{Nodes, size}
use Rattle.td_plan.specs.Tree.Nodes.{done, node, block}
use Rattle.td_calls.specs.Callbacks.{arrivals}
use Rattle.td_batch.specs.Meaning.{EpochInput, Bags, emitted, answer, returned, bags_read, emission, turns, over_turns, turn}
use Rattle.td_batch.specs.Quiet.{fed_back_by, fed_back}
use Rattle.td_batch.specs.Steps.Tree.{read_by, reads, AreAlike}
use Rattle.td_batch.proofs.Lists.{all_append, all_left, all_right, all_map, map_alike}
use Rattle.td_batch.proofs.Turns.{loop_bags}
use Rattle.td_batch.proofs.Quiet.{past_end}

-- both are the first turn, or neither
abbrev pub SameTurn : Option Bags → Option Bags → Type 0
SameTurn None None = Unit {0}
SameTurn (Some a) (Some b) = Unit {0}
SameTurn _ _ = ⊥

-- one more bag in both
push_one : (xs ys : Bags) (d e : List Rec) (s : ℕ) → length xs ≡ length ys → d ≡ e → emitted xs s ≡ emitted ys s → emitted (xs ++ d ∷ []) s ≡ emitted (ys ++ e ∷ []) s
push_one [] [] d e zero long same h = same
push_one [] [] d e (suc s) long same h = refl
push_one [] (y ∷ ys) d e s long same h = absurd (omega (arith, long))
push_one (x ∷ xs) [] d e s long same h = absurd (omega (arith, long))
push_one (x ∷ xs) (y ∷ ys) d e zero long same h = h
push_one (x ∷ xs) (y ∷ ys) d e (suc s) long same h = push_one xs ys d e s (ap pred long) same h

-- more bags in both
append_one : (xs ys more : Bags) (s : ℕ) → length xs ≡ length ys → emitted xs s ≡ emitted ys s → emitted (xs ++ more) s ≡ emitted (ys ++ more) s
append_one [] [] more s long h = refl
append_one [] (y ∷ ys) more s long h = absurd (omega (arith, long))
append_one (x ∷ xs) [] more s long h = absurd (omega (arith, long))
append_one (x ∷ xs) (y ∷ ys) more zero long h = h
append_one (x ∷ xs) (y ∷ ys) more (suc s) long h = append_one xs ys more s (ap pred long) h

pub alike_push : (sources : List ℕ) (xs ys : Bags) (d e : List Rec) → length xs ≡ length ys → d ≡ e → AreAlike sources xs ys → AreAlike sources (xs ++ d ∷ []) (ys ++ e ∷ [])
alike_push sources xs ys d e long same h = all_map (λ s. emitted xs s ≡ emitted ys s) (λ s. emitted (xs ++ d ∷ []) s ≡ emitted (ys ++ e ∷ []) s) (λ s f. push_one xs ys d e s long same f) sources h

pub alike_append : (sources : List ℕ) (xs ys more : Bags) → length xs ≡ length ys → AreAlike sources xs ys → AreAlike sources (xs ++ more) (ys ++ more)
alike_append sources xs ys more long h = all_map (λ s. emitted xs s ≡ emitted ys s) (λ s. emitted (xs ++ more) s ≡ emitted (ys ++ more) s) (λ s f. append_one xs ys more s long f) sources h

pub alike_then : (sources : List ℕ) (xs ys zs : Bags) → AreAlike sources xs ys → AreAlike sources ys zs → AreAlike sources xs zs
alike_then [] xs ys zs g h = tt
alike_then (s ∷ sources) xs ys zs g h = (g.0 ∙ h.0, alike_then sources xs ys zs g.1 h.1)

pub alike_back : (sources : List ℕ) (xs ys : Bags) → AreAlike sources xs ys → AreAlike sources ys xs
alike_back sources xs ys h = all_map (λ s. emitted xs s ≡ emitted ys s) (λ s. emitted ys s ≡ emitted xs s) (λ s e. sym e) sources h

pub alike_same : (sources : List ℕ) (xs ys : Bags) → xs ≡ ys → AreAlike sources xs ys
alike_same [] xs ys e = tt
alike_same (s ∷ sources) xs ys e = (ap (λ bs. emitted bs s) e, alike_same sources xs ys e)

-- bags that are the same but for one which is not among these
pub alike_but : (sources : List ℕ) (x : ℕ) (xs ys : Bags) → list_any (λ s. s == x) sources ≡ false → ((s : ℕ) → (s ≡ x → ⊥) → emitted xs s ≡ emitted ys s) → AreAlike sources xs ys
alike_but [] x xs ys none h = tt
alike_but (s ∷ sources) x xs ys none h = by (s == x) refl none (λ f. alike_but sources x xs ys f h)
  where
    by : (b : Bool) → (s == x) ≡ b → (b || list_any (λ t. t == x) sources) ≡ false → (list_any (λ t. t == x) sources ≡ false → AreAlike sources xs ys) → AreAlike (s ∷ sources) xs ys
    by true e f rest = absurd (cc)
    by false e f rest = (h s (λ is. let c : true ≡ false = sym (eq-eqb s x is) ∙ e in absurd (cc)), rest f)

-- another bag at the end, which is not among these
pub last_but : (xs : Bags) (d e : List Rec) (s : ℕ) → (s ≡ length xs → ⊥) → emitted (xs ++ d ∷ []) s ≡ emitted (xs ++ e ∷ []) s
last_but [] d e zero h = absurd (h refl)
last_but [] d e (suc s) h = refl
last_but (x ∷ xs) d e zero h = refl
last_but (x ∷ xs) d e (suc s) h = last_but xs d e s (λ f. h (ap suc f))

-- another bag at the end, which is the same where it is among these
pub last_if_read : (sources : List ℕ) (xs : Bags) (d e : List Rec) → (list_any (λ s. s == length xs) sources ≡ true → d ≡ e) → AreAlike sources (xs ++ d ∷ []) (xs ++ e ∷ [])
last_if_read sources xs d e h = by (list_any (λ s. s == length xs) sources) refl
  where
    by : (b : Bool) → list_any (λ s. s == length xs) sources ≡ b → AreAlike sources (xs ++ d ∷ []) (xs ++ e ∷ [])
    by true is = alike_same sources (xs ++ d ∷ []) (xs ++ e ∷ []) (ap (λ b. xs ++ b ∷ []) (h is))
    by false is = alike_but sources (length xs) (xs ++ d ∷ []) (xs ++ e ∷ []) is (last_but xs d e)

-- in later turns less is read
pub reads_less : (P : ℕ → Type 0) (nodes : Nodes) → AllByRecursion P (reads true nodes) → AllByRecursion P (reads false nodes)
reads_less P done h = tt
reads_less P (node v rest) h =
    all_append P (read_by false v.kind v.sources) (reads false rest) (one v.kind v.sources (all_left P (read_by true v.kind v.sources) (reads true rest) h)) (reads_less P rest (all_right P (read_by true v.kind v.sources) (reads true rest) h))
  where
    one : (kind : Kind) (sources : List ℕ) → AllByRecursion P (read_by true kind sources) → AllByRecursion P (read_by false kind sources)
    one Enter sources g = tt
    one Feedback sources g = tt
    one Input sources g = g
    one (Map code) sources g = g
    one Distinct sources g = g
    one (Group code) sources g = g
    one (Fold code) sources g = g
    one Leave sources g = g
    one Output sources g = g
reads_less P (block bound body rest) h =
    let own = reads true body ++ fed_back body in
    all_append P own (reads false rest) (all_left P own (reads true rest) h) (reads_less P rest (all_right P own (reads true rest) h))

pub reads_now : (P : ℕ → Type 0) (before : Option Bags) (nodes : Nodes) → AllByRecursion P (reads true nodes) → AllByRecursion P (reads (is_none before) nodes)
reads_now P None nodes h = h
reads_now P (Some earlier) nodes h = reads_less P nodes h

-- what a vertex reads
bags_alike : (v : Vertex) (kind : Kind) (before earlier : Option Bags) (bags others : Bags) → SameTurn before earlier → AreAlike (read_by (is_none before) kind v.sources) bags others
    → AreAlike (fed_back_by v kind) (returned before) (returned earlier) → AreAlike v.sources (bags_read kind before bags) (bags_read kind earlier others)
bags_alike v Enter None None bags others same h back = h
bags_alike v Enter (Some a) (Some b) bags others same h back = alike_same v.sources [] [] refl
bags_alike v Enter None (Some b) bags others same h back = absurd same
bags_alike v Enter (Some a) None bags others same h back = absurd same
bags_alike v Feedback before earlier bags others same h back = back
bags_alike v Input before earlier bags others same h back = h
bags_alike v (Map code) before earlier bags others same h back = h
bags_alike v Distinct before earlier bags others same h back = h
bags_alike v (Group code) before earlier bags others same h back = h
bags_alike v (Fold code) before earlier bags others same h back = h
bags_alike v Leave before earlier bags others same h back = h
bags_alike v Output before earlier bags others same h back = h

pub emission_alike : (epoch : EpochInput) (v : Vertex) (before earlier : Option Bags) (bags others : Bags) → SameTurn before earlier → AreAlike (read_by (is_none before) v.kind v.sources) bags others
    → AreAlike (fed_back_by v v.kind) (returned before) (returned earlier) → emission epoch before bags v ≡ emission epoch earlier others v
emission_alike epoch v before earlier bags others same h back =
    ap (λ bs. answer epoch v.number v.kind (arrivals bs))
    (map_alike (emitted (bags_read v.kind before bags)) (emitted (bags_read v.kind earlier others)) v.sources (bags_alike v v.kind before earlier bags others same h back))

over_alike : (each others : List Bags) (v n : ℕ) → ((s : ℕ) → v ≤ s → flat_map (λ bs. emitted bs s) each ≡ flat_map (λ bs. emitted bs s) others) → over_turns each v n ≡ over_turns others v n
over_alike each others v zero h = refl
over_alike each others v (suc n) h = λ i. bag_of rec_cmp (h v (omega arith) i) ∷ over_alike each others (v + 1) n (λ s l. h s (omega arith)) i

module _ (epoch : EpochInput) where
  -- the turns of a loop, where one turn is as another
  turns_alike : (body : Nodes) (bags others : Bags) (s : ℕ)
      → ((before earlier : Option Bags) → SameTurn before earlier → AreAlike (fed_back body) (returned before) (returned earlier) → AreAlike (s ∷ fed_back body) (turn epoch body before bags) (turn epoch body earlier others))
      → (count : ℕ) (before earlier : Option Bags) → SameTurn before earlier → AreAlike (fed_back body) (returned before) (returned earlier)
      → flat_map (λ bs. emitted bs s) (turns (λ b. turn epoch body b bags) count before) ≡ flat_map (λ bs. emitted bs s) (turns (λ b. turn epoch body b others) count earlier)
  turns_alike body bags others s one zero before earlier same back = refl
  turns_alike body bags others s one (suc count) before earlier same back =
      let now = one before earlier same back in
      λ i. now.0 i ++ turns_alike body bags others s one count (Some (turn epoch body before bags)) (Some (turn epoch body earlier others)) tt now.1 i

  pub turn_alike : (nodes : Nodes) (need : List ℕ) (before earlier : Option Bags) (bags others : Bags) → length bags ≡ length others → SameTurn before earlier
      → AreAlike (reads (is_none before) nodes) bags others → AreAlike need bags others → AreAlike (fed_back nodes) (returned before) (returned earlier)
      → AreAlike need (turn epoch nodes before bags) (turn epoch nodes earlier others)
  turn_alike done need before earlier bags others long same read h back = h
  turn_alike (node v rest) need before earlier bags others long same read h back =
      let d : List Rec = emission epoch before bags v in
      let e : List Rec = emission epoch earlier others v in
      let P : ℕ → Type 0 = λ s. emitted bags s ≡ emitted others s in
      let Q : ℕ → Type 0 = λ s. emitted (returned before) s ≡ emitted (returned earlier) s in
      let own = read_by (is_none before) v.kind v.sources in
      let is : d ≡ e = emission_alike epoch v before earlier bags others same (all_left P own (reads (is_none before) rest) read) (all_left Q (fed_back_by v v.kind) (fed_back rest) back) in
      turn_alike rest need before earlier (bags ++ d ∷ []) (others ++ e ∷ []) (length_push bags d ∙ ap (λ n. n + 1) long ∙ sym (length_push others e)) same
      (alike_push (reads (is_none before) rest) bags others d e long is (all_right P own (reads (is_none before) rest) read)) (alike_push need bags others d e long is h)
      (all_right Q (fed_back_by v v.kind) (fed_back rest) back)
  turn_alike (block bound body rest) need before earlier bags others long same read h back =
      let P : ℕ → Type 0 = λ s. emitted bags s ≡ emitted others s in
      let inner : AreAlike (reads true body ++ fed_back body) bags others = all_left P (reads true body ++ fed_back body) (reads (is_none before) rest) read in
      let fed : AreAlike (fed_back body) bags others = all_right P (reads true body) (fed_back body) inner in
      let each : (s : ℕ) → length bags ≤ s → flat_map (λ bs. emitted bs s) (turns (λ b. turn epoch body b bags) bound None) ≡ flat_map (λ bs. emitted bs s) (turns (λ b. turn epoch body b others) bound None) =
      λ s l.
      let none : emitted bags s ≡ emitted others s = past_end bags s l ∙ sym (past_end others s (omega (arith, l, long))) in
      turns_alike body bags others s
      (λ b c same_turn returns. turn_alike body (s ∷ fed_back body) b c bags others long same_turn (reads_now P b body (all_left P (reads true body) (fed_back body) inner)) (none, fed) returns)
      bound None None tt (alike_same (fed_back body) [] [] refl) in
      let more : Bags = loop_bags epoch bound body bags in
      let also : Bags = loop_bags epoch bound body others in
      let is : more ≡ also = over_alike (turns (λ b. turn epoch body b bags) bound None) (turns (λ b. turn epoch body b others) bound None) (length bags) (size body) each ∙ ap (λ n. over_turns (turns (λ b. turn epoch body b others) bound None) n (size body)) long in
      let longer : length (bags ++ more) ≡ length (others ++ more) = length-append bags more ∙ ap (λ n. n + length more) long ∙ sym (length-append others more) in
      let rest_alike : AreAlike need (turn epoch rest before (bags ++ more)) (turn epoch rest earlier (others ++ more)) =
      turn_alike rest need before earlier (bags ++ more) (others ++ more) longer same
      (alike_append (reads (is_none before) rest) bags others more long (all_right P (reads true body ++ fed_back body) (reads (is_none before) rest) read)) (alike_append need bags others more long h) back in
      subst (λ m. AreAlike need (turn epoch rest before (bags ++ more)) (turn epoch rest earlier (others ++ m))) is rest_alike
