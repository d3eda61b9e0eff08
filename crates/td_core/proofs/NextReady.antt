-- The notifications of a shard that are in the frontier, found by a walk over the frontier.
use Rattle.std.proofs.Common.{◌≡◌, ◌⊎◌, inl, inr, ℕ, zero, suc, ◌+◌, ◌≤◌, ◌&&◌, Bool, true, false, cond, List, [], ◌∷◌, ◌++◌, map, length, Option, Some, None, is_some, refl, sym, ap, ◌∙◌, subst, true≢false, arith, Contains, ◌↔◌, append_assoc, length-append}
use Rattle.std.specs.declared.cmp.Ordering.{Ordering}
use Rattle.std.specs.declared.cmp.Ordering.TheVariants.{Less, Equal, Greater}
use Rattle.std.specs.Ordering.{is_lt}
use Rattle.std.specs.FinMap.{IsAntisymmetric}
use Rattle.std.specs.List.{AllByRecursion, IsDistinct, filter_map, cons_option}
use Rattle.std.specs.List.Sorted.{IsStrictlySortedBy}
use Rattle.std.proofs.lemmas.Cmp.{tied_itself}
use Rattle.std.proofs.lemmas.Map.Keys.{sorted_head, sorted_tail}
use Rattle.td_stamp.specs.Time.{Timestamp, time_cmp}
use Rattle.td_reach.specs.declared.stamp.Place.{Place}
use Rattle.td_reach.specs.declared.stamp.Place.TheVariants as places
use Rattle.td_reach.specs.declared.stamp.Stamp.{Stamp}
use Rattle.td_reach.specs.Frontier.{Frontier}
use Rattle.td_progress.specs.Bag.{Active, is_stamp}
use Rattle.td_shard.specs.declared.waiting.Noted.{Noted}
use Rattle.td_shard.specs.Asked.{AskedList, noted_cmp, noted_at, items_at}
use Rattle.td_shard.specs.ProvedOrders.{noted_total}
use Rattle.td_core.specs.Taking.{IsReady, AreReady, IsReadyAt, IsNextReady, stamp_of_noted, asked_of, comes_after, comes_before, earlier}
use Rattle.td_core.proofs.Picking.{one_ready}
use Rattle.td_core.proofs.PickNamed.{Among, among, contained, is_asked_for, has_items}

-- the notifications for which a shard asked
abbrev pub keys : AskedList → List Noted
keys es = map (λ w. w.0) es

-- those of some pointstamps that are asked for
abbrev pub notes_of : AskedList → List Stamp → List Noted
notes_of es ps = filter_map (λ p. asked_of es p.place p.time) ps

-- each stands once
abbrev Apart : List Noted → Type 0
Apart [] = Unit {0}
Apart (n ∷ ns) = AllByRecursion (λ m. n ≡ m → ⊥) ns × Apart ns

each_among : (P : Noted → Type 0) (ns : List Noted) → ((n : Noted) → Among ns n → P n) → AllByRecursion P ns
each_among P [] f = tt
each_among P (n ∷ ns) f = (f n (inl refl), each_among P ns (λ m h. f m (inr h)))

of_among : (P : Noted → Type 0) (ns : List Noted) (n : Noted) → AllByRecursion P ns → Among ns n → P n
of_among P [] n all h = absurd h
of_among P (m ∷ ns) n all (inl e) = subst P e all.0
of_among P (m ∷ ns) n all (inr h) = of_among P ns n all.1 h

of_stamps : (P : Stamp → Type 0) (ps : List Stamp) (p : Stamp) → AllByRecursion P ps → Contains ps p → P p
of_stamps P [] p all h = absurd (let l = h.1 in omega (arith, l))
of_stamps P (q ∷ ps) p all (zero, l, e) = subst P e all.0
of_stamps P (q ∷ ps) p all (suc k, l, e) = of_stamps P ps p all.1 (k, omega (arith, l), e)

-- one that is among some stands between others
split_at : (ns : List Noted) (n : Noted) → Among ns n → (before after : List Noted) × (ns ≡ before ++ n ∷ after)
split_at [] n h = absurd h
split_at (m ∷ ns) n (inl e) = ([], ns, ap (λ x. x ∷ ns) e)
split_at (m ∷ ns) n (inr h) = let rest = split_at ns n h in (m ∷ rest.0, rest.1, ap (λ l. m ∷ l) rest.2)

in_first : (xs ys : List Noted) (n : Noted) → Among xs n → Among (xs ++ ys) n
in_first [] ys n h = absurd h
in_first (x ∷ xs) ys n (inl e) = inl e
in_first (x ∷ xs) ys n (inr h) = inr (in_first xs ys n h)

in_second : (xs ys : List Noted) (n : Noted) → Among ys n → Among (xs ++ ys) n
in_second [] ys n h = h
in_second (x ∷ xs) ys n h = inr (in_second xs ys n h)

in_which : (xs ys : List Noted) (n : Noted) → Among (xs ++ ys) n → Among xs n ⊎ Among ys n
in_which [] ys n h = inr h
in_which (x ∷ xs) ys n (inl e) = inl (inl e)
in_which (x ∷ xs) ys n (inr h) = by (in_which xs ys n h)
  where
    by : Among xs n ⊎ Among ys n → Among (x ∷ xs) n ⊎ Among ys n
    by (inl a) = inl (inr a)
    by (inr b) = inr b

-- the order of notifications
irreflexive : (n : Noted) → noted_cmp n n ≡ Less → ⊥
irreflexive n e = let tied = tied_itself noted_total n in absurd (let both = sym e ∙ tied in cc)

below_all : (x n : Noted) (ms : List Noted) → AllByRecursion (λ y. noted_cmp x y ≡ Less) ms → Among ms n → noted_cmp x n ≡ Less
below_all x n ms l h = of_among (λ y. noted_cmp x y ≡ Less) ms n l h

-- LISTS in which each stands once are no longer than those that have all of them
no_longer : (xs ys : List Noted) → Apart xs → ((n : Noted) → Among xs n → Among ys n) → length xs ≤ length ys
no_longer [] ys once all = omega arith
no_longer (x ∷ xs) ys once all =
    let fields = split_at ys x (all x (inl refl)) in
    let rest = no_longer xs (fields.0 ++ fields.1) once.1 (λ n h. elsewhere fields.0 fields.1 n (of_among (λ m. x ≡ m → ⊥) xs n once.0 h) (subst (λ l. Among l n) fields.2 (all n (inr h)))) in
    let long = ap length fields.2 ∙ length-append fields.0 (x ∷ fields.1) in
    let less = length-append fields.0 fields.1 in
    omega (arith, rest, long, less)
  where
    elsewhere : (before after : List Noted) (n : Noted) → (x ≡ n → ⊥) → Among (before ++ x ∷ after) n → Among (before ++ after) n
    elsewhere before after n other h = by (in_which before (x ∷ after) n h)
      where
        by : Among before n ⊎ Among (x ∷ after) n → Among (before ++ after) n
        by (inl a) = in_first before after n a
        by (inr (inl e)) = absurd (other e)
        by (inr (inr b)) = in_second before after n b

-- NOTIFICATIONS OF POINTSTAMPS: of those that stand there, where they are asked for
abbrev IsThere : AskedList → Noted → List Stamp → Type 0
IsThere es n ps = Contains ps (stamp_of_noted n) × (is_some (items_at es n.vertex n.time) ≡ true)

from_notes : (es : AskedList) (ps : List Stamp) (n : Noted) → Among (notes_of es ps) n → IsThere es n ps
from_notes es [] n h = absurd h
from_notes es (p ∷ ps) n h = by p.place refl h (from_notes es ps n)
  where
    later : IsThere es n ps → IsThere es n (p ∷ ps)
    later rest = ((suc (rest.0.0), (let l = rest.0.1 in omega (arith, l)), rest.0.2), rest.1)

    by : (place : Place) → p.place ≡ place → Among (cons_option (asked_of es place p.time) (notes_of es ps)) n → (Among (notes_of es ps) n → IsThere es n ps) → IsThere es n (p ∷ ps)
    by (places.Edge f) e g rest = later (rest g)
    by (places.Vertex v) e g rest = which (is_some (items_at es v p.time)) refl g
      where
        which : (b : Bool) → is_some (items_at es v p.time) ≡ b → Among (cons_option (cond b (Some (noted_at v p.time)) None) (notes_of es ps)) n → IsThere es n (p ∷ ps)
        which false asked k = later (rest k)
        which true asked (inr k) = later (rest k)
        which true asked (inl same) = (
          (0, omega arith, λ i. record { time = (same i).time; place = (e ∙ ap (λ (m : Noted). places.Vertex m.vertex) same) i }),
          subst (λ (m : Noted). is_some (items_at es m.vertex m.time) ≡ true) same asked,
        )

to_notes : (es : AskedList) (ps : List Stamp) (n : Noted) → Contains ps (stamp_of_noted n) → is_some (items_at es n.vertex n.time) ≡ true → Among (notes_of es ps) n
to_notes es [] n h asked = absurd (let l = h.1 in omega (arith, l))
to_notes es (p ∷ ps) n (zero, l, e) asked =
    subst (λ (q : Stamp). Among (cons_option (asked_of es q.place q.time) (notes_of es ps)) n) (sym e)
    (subst (λ b. Among (cons_option (cond b (Some (noted_at n.vertex n.time)) None) (notes_of es ps)) n) (sym asked) (inl refl))
to_notes es (p ∷ ps) n (suc k, l, e) asked = by (asked_of es p.place p.time) (to_notes es ps n (k, omega (arith, l), e) asked)
  where
    by : (o : Option Noted) → Among (notes_of es ps) n → Among (cons_option o (notes_of es ps)) n
    by None h = h
    by (Some m) h = inr h

module _ (told : (p q : Stamp) → (is_stamp p q ≡ true) ↔ (p ≡ q)) where
  notes_once : (es : AskedList) (ps : List Stamp) → IsDistinct is_stamp ps → Apart (notes_of es ps)
  unfolding IsDistinct
  notes_once es [] once = tt
  notes_once es (p ∷ ps) once = by (asked_of es p.place p.time) (λ n is. here n is) (notes_once es ps once.1)
    where
      here : (n : Noted) → asked_of es p.place p.time ≡ Some n → p ≡ stamp_of_noted n
      here n is =
          let own = from_notes es (p ∷ []) n (subst (λ o. Among (cons_option o []) n) (sym is) (inl refl)) in
          first own.0
        where
          first : Contains (p ∷ []) (stamp_of_noted n) → p ≡ stamp_of_noted n
          first (zero, l, e) = e
          first (suc k, l, e) = absurd (omega (arith, l))

      by : (o : Option Noted) → ((n : Noted) → o ≡ Some n → p ≡ stamp_of_noted n) → Apart (notes_of es ps) → Apart (cons_option o (notes_of es ps))
      by None is rest = rest
      by (Some n) is rest = (
        each_among (λ m. n ≡ m → ⊥) (notes_of es ps)
            (λ m h same.
            let there = (from_notes es ps m h).0 in
            let not_there = of_stamps (λ q. is_stamp p q ≡ false) ps (stamp_of_noted m) once.0 there in
            true≢false (sym ((told p (stamp_of_noted m)).1 (is n refl ∙ ap stamp_of_noted same)) ∙ not_there)),
        rest,
      )

-- THE FRONTIER tells which are ready
module _ (active : Active) (es : AskedList) where
  abbrev IsFrontier : List Stamp → Type 0
  IsFrontier ps = (p : Stamp) → Contains ps p ↔ Frontier active.plan active.stamps p

  -- each of these is asked for and ready, and the other way round
  abbrev AreReadyOnes : List Noted → Type 0
  AreReadyOnes ns = (n : Noted) → Among ns n ↔ (Among (keys es) n × IsReady active n)

  all_ready : IsAntisymmetric time_cmp → (ps : List Stamp) → IsFrontier ps → AreReadyOnes (notes_of es ps)
  all_ready apart ps is n = (
    λ h. let from = from_notes es ps n h in (is_asked_for apart n es from.1, (is (stamp_of_noted n)).0 from.0),
    λ h. to_notes es ps n ((is (stamp_of_noted n)).1 h.1) (has_items apart n es h.0),
  )

  -- so do the ready ones in order
  ready_ones : (asked ready : List Noted) → AreReady active asked ready → (n : Noted) → Among ready n ↔ (Among asked n × IsReady active n)
  ready_ones [] ready h n = (λ g. absurd (subst (λ l. Among l n) h g), λ g. absurd g.0)
  ready_ones (m ∷ asked) ready (inl h) n = let rest = ready_ones asked ready h.1 n in (λ g. let k = rest.0 g in (inr k.0, k.1), λ g. rest.1 (elsewhere g.0 g.1, g.1))
    where
      elsewhere : Among (m ∷ asked) n → IsReady active n → Among asked n
      elsewhere (inl e) is = absurd (h.0 (subst (IsReady active) (sym e) is))
      elsewhere (inr k) is = k
  ready_ones (m ∷ asked) ready (inr h) n = let rest = ready_ones asked h.1.0 h.1.2 n in (λ g. from rest.0 (subst (λ l. Among l n) h.1.1 g), λ g. subst (λ l. Among l n) (sym h.1.1) (to rest.1 g.0 g.1))
    where
      from : (Among h.1.0 n → Among asked n × IsReady active n) → Among (m ∷ h.1.0) n → Among (m ∷ asked) n × IsReady active n
      from rest (inl e) = (inl e, subst (IsReady active) e h.0)
      from rest (inr k) = let both = rest k in (inr both.0, both.1)

      to : (Among asked n × IsReady active n → Among h.1.0 n) → Among (m ∷ asked) n → IsReady active n → Among (m ∷ h.1.0) n
      to rest (inl e) is = inl e
      to rest (inr k) is = inr (rest (k, is))

  ready_once : (asked ready : List Noted) → IsStrictlySortedBy noted_cmp asked → AreReady active asked ready → Apart ready
  ready_once [] ready once h = subst Apart (sym h) tt
  ready_once (m ∷ asked) ready once (inl h) = ready_once asked ready (sorted_tail noted_cmp m asked once) h.1
  ready_once (m ∷ asked) ready once (inr h) = subst Apart (sym h.1.1) (
    each_among (λ n. m ≡ n → ⊥) h.1.0
        (λ n k same. irreflexive m (ap (noted_cmp m) same ∙ below_all m n asked (sorted_head noted_cmp m asked once) ((ready_ones asked h.1.0 h.1.2 n).0 k).0)),
    ready_once asked h.1.0 (sorted_tail noted_cmp m asked once) h.1.2,
  )

  -- COUNTED so far, with those that follow
  pub record IsCounted (left : List Stamp) (count : ℕ) : Type 0 where
    pub few : count + length (notes_of es left) ≤ length es
    pub all : (ready : List Noted) → AreReady active (keys es) ready → count + length (notes_of es left) ≡ length ready

  module _ (told : (p q : Stamp) → (is_stamp p q ≡ true) ↔ (p ≡ q)) (once : IsStrictlySortedBy noted_cmp (keys es)) where
    pub none_counted : IsAntisymmetric time_cmp → (ps : List Stamp) → IsFrontier ps → IsDistinct is_stamp ps → IsCounted ps 0
    none_counted apart ps is distinct = record {
      few =
          let less = no_longer (notes_of es ps) (keys es) (notes_once told es ps distinct) (λ n h. ((all_ready apart ps is n).0 h).0) in
          let long = length_keys es in
          omega (arith, less, long);
      all = λ ready are.
          let less = no_longer (notes_of es ps) ready (notes_once told es ps distinct) (λ n h. (ready_ones (keys es) ready are n).1 ((all_ready apart ps is n).0 h)) in
          let more = no_longer ready (notes_of es ps) (ready_once (keys es) ready once are) (λ n h. (all_ready apart ps is n).1 ((ready_ones (keys es) ready are n).0 h)) in
          omega (arith, less, more);
    }
      where
        length_keys : (fs : AskedList) → length (keys fs) ≡ length fs
        length_keys [] = refl
        length_keys (f ∷ fs) = ap suc (length_keys fs)

  pub one_counted : (left more : List Stamp) (p : Stamp) (count : ℕ) → left ≡ p ∷ more → is_some (asked_of es p.place p.time) ≡ true → IsCounted left count → IsCounted more (count + 1)
  one_counted left more p count step is so = by (asked_of es p.place p.time) (ap (λ l. length (notes_of es l)) step) is
    where
      by : (o : Option Noted) → length (notes_of es left) ≡ length (cons_option o (notes_of es more)) → is_some o ≡ true → IsCounted more (count + 1)
      by None long some = absurd (true≢false (sym some))
      by (Some n) long some = record {
        few = (let was = so.few in omega (arith, was, long));
        all = λ ready are. (let was = so.all ready are in omega (arith, was, long));
      }

  pub not_counted : (left more : List Stamp) (p : Stamp) (count : ℕ) → left ≡ p ∷ more → is_some (asked_of es p.place p.time) ≡ false → IsCounted left count → IsCounted more count
  not_counted left more p count step is so = by (asked_of es p.place p.time) (ap (λ l. length (notes_of es l)) step) is
    where
      by : (o : Option Noted) → length (notes_of es left) ≡ length (cons_option o (notes_of es more)) → is_some o ≡ false → IsCounted more count
      by None long none = record {
        few = (let was = so.few in omega (arith, was, long));
        all = λ ready are. (let was = so.all ready are in omega (arith, was, long));
      }
      by (Some n) long none = absurd (true≢false none)

  pub all_counted : (left : List Stamp) (count : ℕ) → left ≡ [] → IsCounted left count → (ready : List Noted) → AreReady active (keys es) ready → count ≡ length ready
  all_counted left count end so ready are = let was = so.all ready are in let none = ap (λ l. length (notes_of es l)) end in omega (arith, was, none)

  -- THE FIRST OF SOME that comes after another
  abbrev IsFirstOf : List Noted → Option Noted → Option Noted → Type 0
  IsFirstOf ns after None = (n : Noted) → Among ns n → comes_after after n ≡ true → ⊥
  IsFirstOf ns after (Some m) = Among ns m × (comes_after after m ≡ true) × ((n : Noted) → Among ns n → comes_after after n ≡ true → noted_cmp n m ≡ Less → ⊥)

  one_more : (ns : List Noted) (after first : Option Noted) (n : Noted) → IsFirstOf ns after first → IsFirstOf (n ∷ ns) after (earlier first after (Some n))
  one_more ns after first n h = by (comes_after after n) refl first h
    where
      lt : (o : Ordering) → is_lt o ≡ true → o ≡ Less
      lt Less e = refl
      lt Equal e = absurd (true≢false (sym e))
      lt Greater e = absurd (true≢false (sym e))

      skip : (first : Option Noted) → comes_after after n ≡ false → IsFirstOf ns after first → IsFirstOf (n ∷ ns) after first
      skip None not_after k = none
        where
          none : (x : Noted) → Among (n ∷ ns) x → comes_after after x ≡ true → ⊥
          none x (inl e) is = true≢false (sym is ∙ (ap (comes_after after) (sym e) ∙ not_after))
          none x (inr g) is = k x g is
      skip (Some m) not_after k = (inr k.0, k.1, among_rest)
        where
          among_rest : (x : Noted) → Among (n ∷ ns) x → comes_after after x ≡ true → noted_cmp x m ≡ Less → ⊥
          among_rest x (inl e) is less = true≢false (sym is ∙ (ap (comes_after after) (sym e) ∙ not_after))
          among_rest x (inr g) is less = k.2 x g is less

      by : (b : Bool) → comes_after after n ≡ b → (first : Option Noted) → IsFirstOf ns after first → IsFirstOf (n ∷ ns) after (cond (b && comes_before n first) (Some n) first)
      by false not_after first k = skip first not_after k
      by true is_after None k = (inl refl, is_after, none)
        where
          none : (x : Noted) → Among (n ∷ ns) x → comes_after after x ≡ true → noted_cmp x n ≡ Less → ⊥
          none x (inl e) is less = irreflexive x (ap (noted_cmp x) (sym e) ∙ less)
          none x (inr g) is less = k x g is
      by true is_after (Some m) k = which (is_lt (noted_cmp n m)) refl
        where
          which : (b : Bool) → is_lt (noted_cmp n m) ≡ b → IsFirstOf (n ∷ ns) after (cond b (Some n) (Some m))
          which true less = (inl refl, is_after, before)
            where
              before : (x : Noted) → Among (n ∷ ns) x → comes_after after x ≡ true → noted_cmp x n ≡ Less → ⊥
              before x (inl e) is l = irreflexive x (ap (noted_cmp x) (sym e) ∙ l)
              before x (inr g) is l = k.2 x g is (noted_total.trans x n m l (lt (noted_cmp n m) less))
          which false not_after = (inr k.0, k.1, before)
            where
              before : (x : Noted) → Among (n ∷ ns) x → comes_after after x ≡ true → noted_cmp x m ≡ Less → ⊥
              before x (inl e) is l = true≢false (sym (ap is_lt (ap (λ y. noted_cmp y m) e ∙ l)) ∙ not_after)
              before x (inr g) is l = k.2 x g is l

  -- the first of those that were looked at
  pub record IsFirstSoFar (left : List Stamp) (after first : Option Noted) : Type 0 where
    pub seen : List Noted
    pub all : (n : Noted) → (Among seen n ⊎ Among (notes_of es left) n) ↔ (Among (keys es) n × IsReady active n)
    pub is_first : IsFirstOf seen after first

  pub none_seen : IsAntisymmetric time_cmp → (ps : List Stamp) (after : Option Noted) → IsFrontier ps → IsFirstSoFar ps after None
  none_seen apart ps after is = record {
    seen = [];
    all = λ n. (λ h. (all_ready apart ps is n).0 (only n h), λ h. inr ((all_ready apart ps is n).1 h));
    is_first = λ n h later. absurd h;
  }
    where
      only : (n : Noted) → Among [] n ⊎ Among (notes_of es ps) n → Among (notes_of es ps) n
      only n (inl h) = absurd h
      only n (inr h) = h

  pub one_seen : (left more : List Stamp) (p : Stamp) (after first : Option Noted) → left ≡ p ∷ more → IsFirstSoFar left after first → IsFirstSoFar more after (earlier first after (asked_of es p.place p.time))
  one_seen left more p after first step so = by (asked_of es p.place p.time) (ap (notes_of es) step)
    where
      by : (o : Option Noted) → notes_of es left ≡ cons_option o (notes_of es more) → IsFirstSoFar more after (earlier first after o)
      by None same = record {
        seen = so.seen;
        all = λ n. subst (λ l. (Among so.seen n ⊎ Among l n) ↔ (Among (keys es) n × IsReady active n)) same (so.all n);
        is_first = so.is_first;
      }
      by (Some m) same = record {
        seen = m ∷ so.seen;
        all = λ n. let was = subst (λ l. (Among so.seen n ⊎ Among l n) ↔ (Among (keys es) n × IsReady active n)) same (so.all n) in (λ h. was.0 (back n h), λ h. forth n (was.1 h));
        is_first = one_more so.seen after first m so.is_first;
      }
        where
          back : (n : Noted) → Among (m ∷ so.seen) n ⊎ Among (notes_of es more) n → Among so.seen n ⊎ Among (m ∷ notes_of es more) n
          back n (inl (inl e)) = inr (inl e)
          back n (inl (inr h)) = inl h
          back n (inr h) = inr (inr h)

          forth : (n : Noted) → Among so.seen n ⊎ Among (m ∷ notes_of es more) n → Among (m ∷ so.seen) n ⊎ Among (notes_of es more) n
          forth n (inl h) = inl (inr h)
          forth n (inr (inl e)) = inl (inl e)
          forth n (inr (inr h)) = inr h

  pub all_seen : (left : List Stamp) (after first : Option Noted) → left ≡ [] → IsFirstSoFar left after first → IsNextReady active (keys es) after first
  all_seen left after first end so = by first so.is_first
    where
      in_seen : (n : Noted) → Contains (keys es) n → IsReady active n → Among so.seen n
      in_seen n at is = only ((so.all n).1 (among (keys es) n at, is))
        where
          only : Among so.seen n ⊎ Among (notes_of es left) n → Among so.seen n
          only (inl h) = h
          only (inr h) = absurd (subst (λ l. Among (notes_of es l) n) end h)

      by : (first : Option Noted) → IsFirstOf so.seen after first → IsNextReady active (keys es) after first
      by None h = λ n at is later. h n (in_seen n at is) later
      by (Some m) h = let own = (so.all m).0 (inl h.0) in (contained (keys es) m own.0, own.1, h.1, λ n at is later less. h.2 n (in_seen n at is) later less)

-- PLACE BY PLACE
module _ (active : Active) where
  none_of : (ns : List Noted) → AllByRecursion (λ n. IsReady active n → ⊥) ns → AreReady active ns []
  none_of [] h = refl
  none_of (n ∷ ns) h = inl (h.0, none_of ns h.1)

  more_of_none : (before more ready : List Noted) → AreReady active before ready → AreReady active more [] → AreReady active (before ++ more) ready
  more_of_none [] more ready h none = subst (AreReady active more) (sym h) none
  more_of_none (m ∷ before) more ready (inl h) none = inl (h.0, more_of_none before more ready h.1 none)
  more_of_none (m ∷ before) more ready (inr h) none = inr (h.0, (h.1.0, h.1.1, more_of_none before more h.1.0 h.1.2 none))

  lt : (m n : Noted) → noted_cmp m n ≡ Less → is_lt (noted_cmp m n) ≡ true
  lt m n e = ap is_lt e

  less : (o : Ordering) → is_lt o ≡ true → o ≡ Less
  less Less e = refl
  less Equal e = absurd (true≢false (sym e))
  less Greater e = absurd (true≢false (sym e))

  -- what stands before and after one, in order
  before_is_less : (before after : List Noted) (n : Noted) → IsStrictlySortedBy noted_cmp (before ++ n ∷ after) → AllByRecursion (λ m. noted_cmp m n ≡ Less) before
  before_is_less [] after n once = tt
  before_is_less (m ∷ before) after n once = (
    below_all m n (before ++ n ∷ after) (sorted_head noted_cmp m (before ++ n ∷ after) once) (in_second before (n ∷ after) n (inl refl)),
    before_is_less before after n (sorted_tail noted_cmp m (before ++ n ∷ after) once),
  )

  later_sorted : (before after : List Noted) → IsStrictlySortedBy noted_cmp (before ++ after) → IsStrictlySortedBy noted_cmp after
  later_sorted [] after once = once
  later_sorted (m ∷ before) after once = later_sorted before after (sorted_tail noted_cmp m (before ++ after) once)

  -- the first place
  pub first_at : (asked : List Noted) (next : Option Noted) → IsStrictlySortedBy noted_cmp asked → IsNextReady active asked None next → IsReadyAt active asked 0 next
  first_at asked None once h = ([], none_of asked (each_among (λ n. IsReady active n → ⊥) asked (λ n at is. h n (contained asked n at) is refl)), omega arith)
  first_at asked (Some m) once h =
      let fields = split_at asked m (among asked m h.0) in
      let lower = before_is_less fields.0 fields.1 m (subst (IsStrictlySortedBy noted_cmp) fields.2 once) in (
        fields.0,
        fields.1,
        [],
        fields.2,
        none_of fields.0 (each_among (λ n. IsReady active n → ⊥) fields.0
            (λ n at is. h.3 n (contained asked n (subst (λ l. Among l n) (sym fields.2) (in_first fields.0 (m ∷ fields.1) n at))) is refl (of_among (λ x. noted_cmp x m ≡ Less) fields.0 n lower at))),
        refl,
        h.1,
      )

  -- and the one after it
  pub next_at : (asked : List Noted) (place : ℕ) (last : Noted) (next : Option Noted) → IsStrictlySortedBy noted_cmp asked → IsReadyAt active asked place (Some last) → IsNextReady active asked (Some last) next
      → IsReadyAt active asked (place + 1) next
  next_at asked place last next once h is = by next is
    where
      before : List Noted
      before = h.0

      after : List Noted
      after = h.1

      ready : List Noted
      ready = h.2

      fields : asked ≡ before ++ last ∷ after
      fields = h.3

      own : List Noted
      own = before ++ last ∷ []

      in_parts : asked ≡ own ++ after
      in_parts = fields ∙ sym (append_assoc before (last ∷ []) after)

      sorted : IsStrictlySortedBy noted_cmp (last ∷ after)
      sorted = later_sorted before (last ∷ after) (subst (IsStrictlySortedBy noted_cmp) fields once)

      own_ready : AreReady active own (ready ++ last ∷ [])
      own_ready = one_ready active before ready last h.6 h.4

      many : length (ready ++ last ∷ []) ≡ place + 1
      many = let long = length-append ready (last ∷ []) in let was = h.5 in omega (arith, long, was)

      in_asked : (n : Noted) → Among after n → Contains asked n
      in_asked n at = contained asked n (subst (λ l. Among l n) (sym in_parts) (in_second own after n at))

      is_after : (n : Noted) → Among after n → comes_after (Some last) n ≡ true
      is_after n at = lt last n (below_all last n after (sorted_head noted_cmp last after sorted) at)

      lower : AllByRecursion (λ m. noted_cmp m last ≡ Less) before
      lower = before_is_less before after last (subst (IsStrictlySortedBy noted_cmp) fields once)

      by : (next : Option Noted) → IsNextReady active asked (Some last) next → IsReadyAt active asked (place + 1) next
      by None k = (
        ready ++ last ∷ [],
        subst (λ l. AreReady active l (ready ++ last ∷ [])) (sym in_parts) (more_of_none own after (ready ++ last ∷ []) own_ready (none_of after (each_among (λ n. IsReady active n → ⊥) after (λ n at ready. k n (in_asked n at) ready (is_after n at))))),
        omega (arith, many),
      )
      by (Some m) k =
          let inner = split_at after m (stands_after (in_which before (last ∷ after) m (subst (λ l. Among l m) fields (among asked m k.0)))) in
          let low = before_is_less inner.0 inner.1 m (subst (IsStrictlySortedBy noted_cmp) inner.2 (sorted_tail noted_cmp last after sorted)) in (
            own ++ inner.0,
            inner.1,
            ready ++ last ∷ [],
            in_parts ∙ (ap (λ l. own ++ l) inner.2 ∙ sym (append_assoc own inner.0 (m ∷ inner.1))),
            more_of_none own inner.0 (ready ++ last ∷ []) own_ready
                (none_of inner.0 (each_among (λ n. IsReady active n → ⊥) inner.0
                (λ n at ready.
                let there = subst (λ l. Among l n) (sym inner.2) (in_first inner.0 (m ∷ inner.1) n at) in
                k.3 n (in_asked n there) ready (is_after n there) (of_among (λ x. noted_cmp x m ≡ Less) inner.0 n low at)))),
            many,
            k.1,
          )
        where
          later : noted_cmp last m ≡ Less
          later = less (noted_cmp last m) k.2

          stands_after : Among before m ⊎ Among (last ∷ after) m → Among after m
          stands_after (inl at) = absurd (irreflexive last (noted_total.trans last m last later (of_among (λ x. noted_cmp x last ≡ Less) before m lower at)))
          stands_after (inr (inl e)) = absurd (irreflexive m (ap (λ x. noted_cmp x m) (sym e) ∙ later))
          stands_after (inr (inr at)) = at

  -- where one place has none, no later one has
  pub none_later : (asked : List Noted) (place later : ℕ) → place ≤ later → IsReadyAt active asked place None → IsReadyAt active asked later None
  none_later asked place later l h = (h.0, h.1, (let few = h.2 in omega (arith, few, l)))

  -- from one place on to the next
  pub next_place : (asked : List Noted) (place : ℕ) (found next : Option Noted) → is_some found ≡ true → IsStrictlySortedBy noted_cmp asked → IsReadyAt active asked place found
      → IsNextReady active asked found next → IsReadyAt active asked (place + 1) next
  next_place asked place None next some once at is = absurd (true≢false (sym some))
  next_place asked place (Some last) next some once at is = next_at asked place last next once at is

-- A VERTEX that has no notifications is asked for none
pub none_asked : IsAntisymmetric time_cmp → (es : AskedList) (notified : ℕ → Bool) → AllByRecursion (λ n. notified n.vertex ≡ true) (keys es) → (v : ℕ) (t : Timestamp) → notified v ≡ false → is_some (items_at es v t) ≡ false
none_asked apart es notified all v t is = by (is_some (items_at es v t)) refl
  where
    by : (b : Bool) → is_some (items_at es v t) ≡ b → b ≡ false
    by true asked = absurd (true≢false (sym (of_among (λ n. notified n.vertex ≡ true) (keys es) (noted_at v t) all (is_asked_for apart (noted_at v t) es asked)) ∙ is))
    by false none = refl
