-- The task that is taken, and the messages that are left.
use Rattle.std.proofs.Common.{◌≡◌, ℕ, zero, suc, ◌+◌, ◌-◌, ◌<◌, ◌≤◌, inl, inr, nat_lt, Bool, true, false, cond, List, [], ◌∷◌, ◌++◌, map, filter, length, get_or, take, drop, Option, Some, None, refl, sym, ap, ◌∙◌, subst, arith, append_assoc, append-nil, length-append}
use Rattle.std.specs.Option.{option_map, IsSome}
use Rattle.std.specs.List.{AllByRecursion, slice_get, remove}
use Rattle.std.proofs.lemmas.Bool.Decides.{nat_tests}
use Rattle.std.proofs.lemmas.List.{take-map, map-append}
use Rattle.std.proofs.lemmas.List.Elements.{filter-append}
use Rattle.td_stamp.specs.declared.values.Rec.{Rec}
use Rattle.td_shard.specs.declared.runs.Lane.{Lane}
use Rattle.td_shard.specs.declared.runs.Numbered.{Numbered}
use Rattle.td_machine.specs.declared.records.Message.{Message}
use Rattle.td_shard.specs.Messages.{same_edge, without_first, task_by, left_by, task_at, left_at}
use Rattle.td_shard.specs.Order.{at_number, below, few, AreAscending}
use Rattle.td_machine.specs.Steps.{coming}
use Rattle.td_shard.specs.Runs.{Part, message, on_lane, its, all_of, messages_of, rec_of, rank, lane_eq, changed_at, without_front, without_at, ahead_of, last_by, first_on, last_on, AreLinked, taken_on, lane_recs, IsOlder, IsUpTo, AreGrouped, AreNumbered, AscendIn}
use Rattle.td_shard.proofs.Lanes.{lane_eq-sound, lane_equiv}
use Rattle.td_shard.proofs.Numbers.{AreBelow, among, before_it, all_append, at_append, at_none, few_append, length-below, by_number, below_filter, ascending_below, left_below}
use Rattle.td_shard.proofs.TakenUp.{linked-changed_at, last-changed_at}
use Rattle.td_shard.proofs.Together.{all_below, all_filter, its_on}

-- the messages of records on a lane
abbrev on : Lane → List Rec → List Message
on k rs = coming k.vertex k.port k.time rs

-- LISTS
module _ {X : Type 0} where
  get-left : (xs ys : List X) (i : ℕ) (x : X) → slice_get xs i ≡ Some x → slice_get (xs ++ ys) i ≡ Some x
  get-left [] ys i x e = absurd (cc)
  get-left (y ∷ xs) ys zero x e = e
  get-left (y ∷ xs) ys (suc i) x e = get-left xs ys i x e

  get-right : (xs ys : List X) (i j : ℕ) → j ≡ length xs + i → slice_get (xs ++ ys) j ≡ slice_get ys i
  get-right [] ys i j e = let same : j ≡ i = omega (arith, e) in ap (slice_get ys) same
  get-right (x ∷ xs) ys i zero e = absurd (omega (arith, e))
  get-right (x ∷ xs) ys i (suc j) e = get-right xs ys i j (omega (arith, e))

  remove-left : (xs ys : List X) (i : ℕ) → i < length xs → remove (xs ++ ys) i ≡ remove xs i ++ ys
  remove-left [] ys i h = absurd (omega (arith, h))
  remove-left (x ∷ xs) ys zero h = refl
  remove-left (x ∷ xs) ys (suc i) h = ap (λ l. x ∷ l) (remove-left xs ys i (omega (arith, h)))

  remove-right : (xs ys : List X) (i j : ℕ) → j ≡ length xs + i → remove (xs ++ ys) j ≡ xs ++ remove ys i
  remove-right [] ys i j e = let same : j ≡ i = omega (arith, e) in ap (remove ys) same
  remove-right (x ∷ xs) ys i zero e = absurd (omega (arith, e))
  remove-right (x ∷ xs) ys i (suc j) e = ap (λ l. x ∷ l) (remove-right xs ys i j (omega (arith, e)))

  -- the one at a place
  pub record IsOne (xs : List X) (i : ℕ) (x : X) : Type 0 where
    pub read : take 1 (drop i xs) ≡ x ∷ []
    pub found : slice_get xs i ≡ Some x
    pub is : (d : X) → get_or xs i d ≡ x

  pub one : (xs : List X) (i : ℕ) → i < length xs → (x : X) × IsOne xs i x
  one [] i h = absurd (omega (arith, h))
  one (x ∷ xs) zero h = (x, record { read = refl; found = refl; is = λ d. refl })
  one (x ∷ xs) (suc i) h = let there = one xs i (omega (arith, h)) in (there.0, record { read = there.1.read; found = there.1.found; is = there.1.is })

found-map : {X Y : Type 0} (f : X → Y) (xs : List X) (i : ℕ) (x : X) → slice_get xs i ≡ Some x → slice_get (map f xs) i ≡ Some (f x)
found-map f [] i x e = absurd (cc)
found-map f (y ∷ xs) zero x e = let same : y ≡ x = cc in ap (λ z. Some (f z)) same
found-map f (y ∷ xs) (suc i) x e = found-map f xs i x e

-- THE PICKED ONE among all, with those before it in its run and those behind
pub record IsPicked (ps : List Part) (p o : ℕ) (s : Part) (r : Numbered) : Type 0 where
  pub front : List (ℕ × Message)
  pub back : List (ℕ × Message)
  pub all : all_of ps ≡ front ++ on_lane s.lane r ∷ back
  pub others : all_of (changed_at (without_at o) p ps) ≡ front ++ back
  pub before : front ≡ all_of (take p ps) ++ map (on_lane s.lane) (take o s.recs)

in_run : (k : Lane) (rs : List Numbered) (o : ℕ) (r : Numbered) (xs : List (ℕ × Message)) → slice_get rs o ≡ Some r
    → (back : List (ℕ × Message)) × (map (on_lane k) rs ++ xs ≡ map (on_lane k) (take o rs) ++ on_lane k r ∷ back) × (map (on_lane k) (remove rs o) ++ xs ≡ map (on_lane k) (take o rs) ++ back)
in_run k [] o r xs e = absurd (cc)
in_run k (q ∷ rs) zero r xs e = let same : q ≡ r = cc in (map (on_lane k) rs ++ xs, ap (λ z. on_lane k z ∷ (map (on_lane k) rs ++ xs)) same, refl)
in_run k (q ∷ rs) (suc o) r xs e = let rest = in_run k rs o r xs e in (rest.0, ap (λ l. on_lane k q ∷ l) rest.1, ap (λ l. on_lane k q ∷ l) rest.2)

pub picked : (ps : List Part) (p o : ℕ) (s : Part) (r : Numbered) (d : Part) → p < length ps → s ≡ get_or ps p d → slice_get s.recs o ≡ Some r → IsPicked ps p o s r
picked [] p o s r d h at e = absurd (omega (arith, h))
picked (t ∷ ps) zero o s r d h at e = subst (λ (x : Part). IsPicked (t ∷ ps) zero o x r) (sym at) (it (in_run t.lane t.recs o r (all_of ps) (subst (λ (x : Part). slice_get x.recs o ≡ Some r) at e)))
  where
    it : (back : List (ℕ × Message)) × (its t ++ all_of ps ≡ map (on_lane t.lane) (take o t.recs) ++ on_lane t.lane r ∷ back) × (map (on_lane t.lane) (remove t.recs o) ++ all_of ps ≡ map (on_lane t.lane) (take o t.recs) ++ back) → IsPicked (t ∷ ps) zero o t r
    it there = record { front = map (on_lane t.lane) (take o t.recs); back = there.0; all = there.1; others = there.2; before = refl }
picked (t ∷ ps) (suc p) o s r d h at e =
    let rest = picked ps p o s r d (omega (arith, h)) at e in
    record {
      front = its t ++ rest.front;
      back = rest.back;
      all = ap (λ l. its t ++ l) rest.all ∙ sym (append_assoc (its t) rest.front (on_lane s.lane r ∷ rest.back));
      others = ap (λ l. its t ++ l) rest.others ∙ sym (append_assoc (its t) rest.front rest.back);
      before = ap (λ l. its t ++ l) rest.before ∙ sym (append_assoc (its t) (all_of (take p ps)) (map (on_lane s.lane) (take o s.recs)));
    }

-- on its run the numbers ascend
module _ (c : Message) where
  rest_ascends : (xs ys : List (ℕ × Message)) → AreAscending (filter (λ x. same_edge c x.1) (xs ++ ys)) → AreAscending (filter (λ x. same_edge c x.1) ys)
  rest_ascends [] ys a = a
  rest_ascends (x ∷ xs) ys a = rest_ascends xs ys (by (same_edge c x.1) a)
    where
      by : (b : Bool) → AreAscending (cond b (x ∷ filter (λ y. same_edge c y.1) (xs ++ ys)) (filter (λ y. same_edge c y.1) (xs ++ ys))) → AreAscending (filter (λ y. same_edge c y.1) (xs ++ ys))
      by true h = h.1
      by false h = h

first_ascends : (xs ys : List (ℕ × Message)) → AreAscending (xs ++ ys) → AreAscending xs
first_ascends [] ys a = tt
first_ascends (x ∷ xs) ys a = (upper xs a.0, first_ascends xs ys a.1)
  where
    upper : (zs : List (ℕ × Message)) → AllByRecursion (λ y. x.0 < y.0) (zs ++ ys) → AllByRecursion (λ y. x.0 < y.0) zs
    upper [] h = tt
    upper (z ∷ zs) h = (h.0, upper zs h.1)

pub all_ascend : (ps : List Part) → ((c : Message) → AreAscending (filter (λ x. same_edge c x.1) (all_of ps))) → AllByRecursion AscendIn ps
all_ascend [] a = tt
all_ascend (p ∷ ps) a = (here p.recs refl, all_ascend ps (λ c. rest_ascends c (its p) (all_of ps) (a c)))
  where
    here : (rs : List Numbered) → p.recs ≡ rs → AscendIn p
    here [] e = subst (λ l. AreAscending (map (on_lane p.lane) l)) (sym e) tt
    here (r ∷ rs) e =
        let c = message p.lane r.rec in
        let k : Lane = record { vertex = c.vertex; port = c.port; time = c.time } in
        first_ascends (its p) (filter (λ x. same_edge c x.1) (all_of ps))
        (subst AreAscending (filter-append (λ x. same_edge c x.1) (its p) (all_of ps) ∙ ap (λ l. l ++ filter (λ x. same_edge c x.1) (all_of ps)) (its_on c p.lane p.recs (lane_equiv.refl p.lane))) (a c))

-- those before one in its run are below its number
before_below : (k : Lane) (rs : List Numbered) (o : ℕ) (r : Numbered) → slice_get rs o ≡ Some r → AreAscending (map (on_lane k) rs) → AreBelow r.number (map (on_lane k) (take o rs))
before_below k rs zero r e a = tt
before_below k [] (suc o) r e a = tt
before_below k (q ∷ rs) (suc o) r e a = (reach rs o e a.0, before_below k rs o r e a.1)
  where
    reach : (zs : List Numbered) (i : ℕ) → slice_get zs i ≡ Some r → AllByRecursion (λ y. q.number < y.0) (map (on_lane k) zs) → q.number < r.number
    reach [] i e h = absurd (cc)
    reach (z ∷ zs) zero e h = let same : z ≡ r = cc in subst (λ (w : Numbered). q.number < w.number) same h.0
    reach (z ∷ zs) (suc i) e h = reach zs i e h.1

pub own_ascends : (ps : List Part) (p : ℕ) (d : Part) → p < length ps → AllByRecursion AscendIn ps → AscendIn (get_or ps p d)
own_ascends [] p d h a = absurd (omega (arith, h))
own_ascends (t ∷ ps) zero d h a = a.0
own_ascends (t ∷ ps) (suc p) d h a = own_ascends ps p d (omega (arith, h)) a.1

-- A MESSAGE IN ITS PLACE, and what waits without it
pub record IsInPlace (ps : List Part) (p o pick : ℕ) (s : Part) (r : Numbered) : Type 0 where
  pub front : List Message
  pub back : List Message
  pub all : messages_of ps ≡ front ++ message s.lane r.rec ∷ back
  pub others : messages_of (changed_at (without_at o) p ps) ≡ front ++ back
  pub place : length front ≡ pick

pub in_place : (next : ℕ) (ps : List Part) (p o pick : ℕ) (s : Part) (r : Numbered) (d : Part) → AreNumbered next ps → p < length ps → s ≡ get_or ps p d → slice_get s.recs o ≡ Some r → rank ps p r.number ≡ pick → IsInPlace ps p o pick s r
in_place next ps p o pick s r d is h at e ranked =
    let it = picked ps p o s r d h at e in
    let x = on_lane s.lane r in
    let all = all_below next ps is.older in
    let parted = subst (AreBelow next) it.all all in
    let lower = parts_of (λ y. y.0 < next) it.front (x ∷ it.back) parted in
    let among_them = among next it.front x it.back lower.1.0 in
    let own : AscendIn s = subst AscendIn (sym at) (own_ascends ps p d h (all_ascend ps is.ascending)) in
    let mine = map (on_lane s.lane) (take o s.recs) in
    let none : at_number r.number mine ≡ [] = at_none r.number r.number mine (omega arith) (before_below s.lane s.recs o r e own) in
    let front_at : at_number r.number it.front ≡ at_number r.number (all_of (take p ps)) =
    ap (at_number r.number) it.before ∙ (at_append r.number (all_of (take p ps)) mine ∙ (ap (λ l. at_number r.number (all_of (take p ps)) ++ l) none ∙ append-nil (at_number r.number (all_of (take p ps))))) in
    let fewer : few r.number (all_of ps) ≡ few r.number (it.front ++ it.back) = ap (few r.number) it.all ∙ (few_append r.number it.front (x ∷ it.back) ∙ (ap (λ n. few r.number it.front + n) (itself r.number it.back) ∙ sym (few_append r.number it.front it.back))) in
    let fits = all_append (λ y. y.0 < next) it.front it.back lower.0 lower.1.1 in
    record {
      front = before_it it.front x it.back;
      back = among_them.after;
      all = by_number next (all_of ps) all ∙ (ap (below next) it.all ∙ among_them.all);
      others = by_number next (all_of (changed_at (without_at o) p ps)) (subst (AreBelow next) (sym it.others) fits) ∙ (ap (below next) it.others ∙ among_them.others);
      place = omega (arith, length-append (below r.number (it.front ++ it.back)) (at_number r.number it.front), length-below r.number (it.front ++ it.back), fewer, ap length front_at, ranked);
    }
  where
    parts_of : (P : ℕ × Message → Type 0) (xs ys : List (ℕ × Message)) → AllByRecursion P (xs ++ ys) → AllByRecursion P xs × AllByRecursion P ys
    parts_of P [] ys h = (tt, h)
    parts_of P (x ∷ xs) ys h = let rest = parts_of P xs ys h.1 in ((h.0, rest.0), rest.1)

    itself : (n : ℕ) (xs : List (ℕ × Message)) → few n ((n, message s.lane r.rec) ∷ xs) ≡ few n xs
    itself n xs = ap (λ b. cond b (suc (few n xs)) (few n xs)) (not_less n)
      where
        not_less : (n : ℕ) → nat_lt n n ≡ false
        not_less n = by (nat_lt n n) refl
          where
            by : (b : Bool) → nat_lt n n ≡ b → nat_lt n n ≡ false
            by true f = absurd (grind (arith, nat_tests, f))
            by false f = f

-- THE OTHERS OF ITS LANE
module _ (k : Lane) (r0 : Rec) where
  -- whether a message is on the lane
  abbrev beside : Message → Bool
  beside = same_edge (message k r0)

  abbrev with_it : ℕ × Message → Bool
  with_it x = beside x.1

  -- the first n of a lane, of a run and what follows
  left-run : (l : Lane) (n : ℕ) (rs : List Numbered) (ms : List (ℕ × Message)) → lane_eq k l ≡ true → without_first with_it n (map (on_lane l) rs ++ ms) ≡ map (on_lane l) (drop n rs) ++ without_first with_it (n - length rs) ms
  left-run l zero rs ms e = let none : zero - length rs ≡ zero = omega arith in ap (λ i. map (on_lane l) rs ++ without_first with_it i ms) (sym none)
  left-run l (suc n) [] ms e = let all : suc n - zero ≡ suc n = omega arith in ap (λ i. without_first with_it i ms) (sym all)
  left-run l (suc n) (r ∷ rs) ms e =
      let fewer : suc n - suc (length rs) ≡ n - length rs = omega arith in
      ap (λ b. cond b (without_first with_it n (map (on_lane l) rs ++ ms)) (on_lane l r ∷ without_first with_it (suc n) (map (on_lane l) rs ++ ms))) e
      ∙ (left-run l n rs ms e ∙ ap (λ i. map (on_lane l) (drop n rs) ++ without_first with_it i ms) (sym fewer))

  pass-run : (l : Lane) (n : ℕ) (rs : List Numbered) (ms : List (ℕ × Message)) → lane_eq k l ≡ false → without_first with_it n (map (on_lane l) rs ++ ms) ≡ map (on_lane l) rs ++ without_first with_it n ms
  pass-run l zero rs ms e = refl
  pass-run l (suc n) [] ms e = refl
  pass-run l (suc n) (r ∷ rs) ms e =
      ap (λ b. cond b (without_first with_it n (map (on_lane l) rs ++ ms)) (on_lane l r ∷ without_first with_it (suc n) (map (on_lane l) rs ++ ms))) e
      ∙ ap (λ x. on_lane l r ∷ x) (pass-run l (suc n) rs ms e)

  left-by : (n : ℕ) (t : Part) (ts : List Part) (b : Bool) → lane_eq k t.lane ≡ b
      → all_of (taken_on lane_eq k n ts) ≡ without_first with_it n (all_of ts)
      → all_of (taken_on lane_eq k (n - length t.recs) ts) ≡ without_first with_it (n - length t.recs) (all_of ts)
      → all_of (cond b (without_front n t ∷ taken_on lane_eq k (n - length t.recs) ts) (t ∷ taken_on lane_eq k n ts)) ≡ without_first with_it n (its t ++ all_of ts)
  left-by n t ts true e more less = ap (λ l. map (on_lane t.lane) (drop n t.recs) ++ l) less ∙ sym (left-run t.lane n t.recs (all_of ts) e)
  left-by n t ts false e more less = ap (λ l. its t ++ l) more ∙ sym (pass-run t.lane n t.recs (all_of ts) e)

  none_of : (n : ℕ) → ◌≡◌ {A = List (ℕ × Message)} [] (without_first with_it n [])
  none_of zero = refl
  none_of (suc n) = refl

  -- what is left when the first n of a lane are taken
  pub left_on : (n : ℕ) (ts : List Part) → all_of (taken_on lane_eq k n ts) ≡ without_first with_it n (all_of ts)
  left_on n [] = none_of n
  left_on n (t ∷ ts) = left-by n t ts (lane_eq k t.lane) refl (left_on n ts) (left_on (n - length t.recs) ts)

  recs-run : (l : Lane) (rs : List Numbered) (ms : List (ℕ × Message)) (b : Bool) → lane_eq k l ≡ b
      → map (λ (m : ℕ × Message). m.1.rec) (filter with_it (map (on_lane l) rs ++ ms)) ≡ cond b (map rec_of rs ++ map (λ (m : ℕ × Message). m.1.rec) (filter with_it ms)) (map (λ (m : ℕ × Message). m.1.rec) (filter with_it ms))
  recs-run l [] ms true e = refl
  recs-run l [] ms false e = refl
  recs-run l (r ∷ rs) ms true e =
      ap (λ b. map (λ (m : ℕ × Message). m.1.rec) (cond b (on_lane l r ∷ filter with_it (map (on_lane l) rs ++ ms)) (filter with_it (map (on_lane l) rs ++ ms)))) e
      ∙ ap (λ x. r.rec ∷ x) (recs-run l rs ms true e)
  recs-run l (r ∷ rs) ms false e =
      ap (λ b. map (λ (m : ℕ × Message). m.1.rec) (cond b (on_lane l r ∷ filter with_it (map (on_lane l) rs ++ ms)) (filter with_it (map (on_lane l) rs ++ ms)))) e
      ∙ recs-run l rs ms false e

  recs_of : (ts : List Part) → map rec_of (lane_recs lane_eq k ts) ≡ map (λ (m : ℕ × Message). m.1.rec) (filter with_it (all_of ts))
  recs_of [] = refl
  recs_of (t ∷ ts) = by (lane_eq k t.lane) refl (recs_of ts)
    where
      by : (b : Bool) → lane_eq k t.lane ≡ b → map rec_of (lane_recs lane_eq k ts) ≡ map (λ (m : ℕ × Message). m.1.rec) (filter with_it (all_of ts))
          → map rec_of (cond b (t.recs ++ lane_recs lane_eq k ts) (lane_recs lane_eq k ts)) ≡ map (λ (m : ℕ × Message). m.1.rec) (filter with_it (its t ++ all_of ts))
      by true e rest = map-append rec_of t.recs (lane_recs lane_eq k ts) ∙ (ap (λ l. map rec_of t.recs ++ l) rest ∙ sym (recs-run t.lane t.recs (all_of ts) true e))
      by false e rest = rest ∙ sym (recs-run t.lane t.recs (all_of ts) false e)

  unnumbered : (xs : List (ℕ × Message)) → map (λ (m : ℕ × Message). m.1.rec) xs ≡ map (λ (m : Message). m.rec) (map (λ x. x.1) xs)
  unnumbered [] = refl
  unnumbered (x ∷ xs) = ap (λ l. x.1.rec ∷ l) (unnumbered xs)

  -- in order, where they ascend
  in_turn : (ts : List Part) (b : ℕ) → AreBelow b (all_of ts) → AreAscending (filter with_it (all_of ts)) → filter beside (messages_of ts) ≡ map (λ x. x.1) (filter with_it (all_of ts))
  in_turn ts b h a =
      ap (filter beside) (by_number b (all_of ts) h) ∙ (below_filter b beside (all_of ts) ∙ ascending_below b (filter with_it (all_of ts)) a (all_filter (λ x. x.0 < b) with_it (all_of ts) h))

  -- the records that are taken are those of the first n messages on the edge
  pub recs-are : (n b : ℕ) (ts : List Part) → AreBelow b (all_of ts) → AreAscending (filter with_it (all_of ts)) → map rec_of (take n (lane_recs lane_eq k ts)) ≡ map (λ (m : Message). m.rec) (take n (filter beside (messages_of ts)))
  recs-are n b ts h a =
      sym (take-map rec_of n (lane_recs lane_eq k ts))
      ∙ (ap (take n) (recs_of ts ∙ (unnumbered (filter with_it (all_of ts)) ∙ ap (map (λ (m : Message). m.rec)) (sym (in_turn ts b h a)))) ∙ take-map (λ (m : Message). m.rec) n (filter beside (messages_of ts)))

  back-by : (b : Bool) (m : Message) (ms : List Message) → beside m ≡ b → on k (map (λ (x : Message). x.rec) ms) ≡ ms
      → on k (map (λ (x : Message). x.rec) (cond b (m ∷ ms) ms)) ≡ cond b (m ∷ ms) ms
  back-by false m ms e h = h
  back-by true m ms e h =
      let lane : k ≡ record { vertex = m.vertex; port = m.port; time = m.time } = lane_eq-sound k (record { vertex = m.vertex; port = m.port; time = m.time }) e in
      let same : message k m.rec ≡ m = ap (λ (l : Lane). message l m.rec) lane in
      cc

  back : (ms : List Message) → on k (map (λ (m : Message). m.rec) (filter beside ms)) ≡ filter beside ms
  back [] = refl
  back (m ∷ ms) = back-by (beside m) m (filter beside ms) refl (back ms)

  -- messages of one edge and time are known by their records
  pub come_back : (n : ℕ) (ms : List Message) → on k (map (λ (m : Message). m.rec) (take n (filter beside ms))) ≡ take n (filter beside ms)
  come_back n ms =
      ap (on k) (sym (take-map (λ (m : Message). m.rec) n (filter beside ms)))
      ∙ (sym (take-map (message k) n (map (λ (m : Message). m.rec) (filter beside ms)))
      ∙ ap (take n) (back ms))

-- THE LINKS STAY
module _ (same : Lane → Lane → Bool) (k : Lane) where
  first-taken_on-by : (j : Lane) (b : Bool) (n : ℕ) (p : Part) (xs ys ps : List Part) → first_on same j xs ≡ first_on same j ps → first_on same j ys ≡ first_on same j ps → first_on same j (cond b (without_front n p ∷ xs) (p ∷ ys)) ≡ first_on same j (p ∷ ps)
  first-taken_on-by j true n p xs ys ps e f = ap (λ o. cond (same j p.lane) (Some 0) (option_map suc o)) e
  first-taken_on-by j false n p xs ys ps e f = ap (λ o. cond (same j p.lane) (Some 0) (option_map suc o)) f

  first-taken_on : (j : Lane) (n : ℕ) (ps : List Part) → first_on same j (taken_on same k n ps) ≡ first_on same j ps
  first-taken_on j n [] = refl
  first-taken_on j n (p ∷ ps) = first-taken_on-by j (same k p.lane) n p (taken_on same k (n - length p.recs) ps) (taken_on same k n ps) ps (first-taken_on j (n - length p.recs) ps) (first-taken_on j n ps)

  last-taken_on-by : (j : Lane) (b : Bool) (n : ℕ) (p : Part) (xs ys ps : List Part) → last_on same j xs ≡ last_on same j ps → last_on same j ys ≡ last_on same j ps → last_on same j (cond b (without_front n p ∷ xs) (p ∷ ys)) ≡ last_on same j (p ∷ ps)
  last-taken_on-by j true n p xs ys ps e f = ap (last_by (same j p.lane)) e
  last-taken_on-by j false n p xs ys ps e f = ap (last_by (same j p.lane)) f

  last-taken_on : (j : Lane) (n : ℕ) (ps : List Part) → last_on same j (taken_on same k n ps) ≡ last_on same j ps
  last-taken_on j n [] = refl
  last-taken_on j n (p ∷ ps) = last-taken_on-by j (same k p.lane) n p (taken_on same k (n - length p.recs) ps) (taken_on same k n ps) ps (last-taken_on j (n - length p.recs) ps) (last-taken_on j n ps)

  linked-by : (b : Bool) (n : ℕ) (p : Part) (xs ys ps : List Part) → ((j : Lane) → first_on same j xs ≡ first_on same j ps) → ((j : Lane) → first_on same j ys ≡ first_on same j ps) → p.ahead ≡ ahead_of (first_on same p.lane ps) → AreLinked same xs → AreLinked same ys → AreLinked same (cond b (without_front n p ∷ xs) (p ∷ ys))
  linked-by true n p xs ys ps f g h l m = (h ∙ ap ahead_of (sym (f p.lane)), l)
  linked-by false n p xs ys ps f g h l m = (h ∙ ap ahead_of (sym (g p.lane)), m)

  linked-taken_on : (n : ℕ) (ps : List Part) → AreLinked same ps → AreLinked same (taken_on same k n ps)
  linked-taken_on n [] h = h
  linked-taken_on n (p ∷ ps) h =
      let m = n - length p.recs in
      linked-by (same k p.lane) n p (taken_on same k m ps) (taken_on same k n ps) ps (λ j. first-taken_on j m ps) (λ j. first-taken_on j n ps) h.0 (linked-taken_on m ps h.1) (linked-taken_on n ps h.1)

  some-by : (b : Bool) (o : Option ℕ) → IsSome o → IsSome (cond b (Some 0) (option_map suc o))
  some-by true o h = refl
  some-by false None h = absurd (cc)
  some-by false (Some i) h = refl

  -- a lane with a run has a first one
  pub has_first : (ps : List Part) (p : ℕ) (d : Part) → p < length ps → same k (get_or ps p d).lane ≡ true → IsSome (first_on same k ps)
  has_first [] p d h e = absurd (omega (arith, h))
  has_first (t ∷ ps) zero d h e = rw e refl
  has_first (t ∷ ps) (suc p) d h e = some-by (same k t.lane) (first_on same k ps) (has_first ps p d (omega (arith, h)) e)

-- NUMBERS of what is left
module _ (p q : ℕ × Message → Bool) where
  fewer_all : (P : ℕ × Message → Type 0) (n : ℕ) (xs : List (ℕ × Message)) → AllByRecursion P (filter q xs) → AllByRecursion P (filter q (without_first p n xs))
  fewer_all P zero xs a = a
  fewer_all P (suc n) [] a = tt
  fewer_all P (suc n) (x ∷ xs) a = by (p x) (q x) refl a (fewer_all P n xs) (fewer_all P (suc n) xs)
    where
      by : (b c : Bool) → q x ≡ c → AllByRecursion P (cond c (x ∷ filter q xs) (filter q xs)) → (AllByRecursion P (filter q xs) → AllByRecursion P (filter q (without_first p n xs)))
          → (AllByRecursion P (filter q xs) → AllByRecursion P (filter q (without_first p (suc n) xs))) → AllByRecursion P (filter q (cond b (without_first p n xs) (x ∷ without_first p (suc n) xs)))
      by true true e h less more = less h.1
      by true false e h less more = less h
      by false true e h less more = subst (λ c. AllByRecursion P (cond c (x ∷ filter q (without_first p (suc n) xs)) (filter q (without_first p (suc n) xs)))) (sym e) (h.0, more h.1)
      by false false e h less more = subst (λ c. AllByRecursion P (cond c (x ∷ filter q (without_first p (suc n) xs)) (filter q (without_first p (suc n) xs)))) (sym e) (more h)

  fewer_ascend : (n : ℕ) (xs : List (ℕ × Message)) → AreAscending (filter q xs) → AreAscending (filter q (without_first p n xs))
  fewer_ascend zero xs a = a
  fewer_ascend (suc n) [] a = tt
  fewer_ascend (suc n) (x ∷ xs) a = by (p x) (q x) refl a (fewer_ascend n xs) (fewer_ascend (suc n) xs)
    where
      by : (b c : Bool) → q x ≡ c → AreAscending (cond c (x ∷ filter q xs) (filter q xs)) → (AreAscending (filter q xs) → AreAscending (filter q (without_first p n xs)))
          → (AreAscending (filter q xs) → AreAscending (filter q (without_first p (suc n) xs))) → AreAscending (filter q (cond b (without_first p n xs) (x ∷ without_first p (suc n) xs)))
      by true true e h less more = less h.1
      by true false e h less more = less h
      by false true e h less more = subst (λ c. AreAscending (cond c (x ∷ filter q (without_first p (suc n) xs)) (filter q (without_first p (suc n) xs)))) (sym e) (fewer_all (λ y. x.0 < y.0) (suc n) xs h.0, more h.1)
      by false false e h less more = subst (λ c. AreAscending (cond c (x ∷ filter q (without_first p (suc n) xs)) (filter q (without_first p (suc n) xs)))) (sym e) (more h)

one_fewer : (xs : List (ℕ × Message)) (y : ℕ × Message) (zs : List (ℕ × Message)) → AreAscending (xs ++ y ∷ zs) → AreAscending (xs ++ zs)
one_fewer [] y zs a = a.1
one_fewer (x ∷ xs) y zs a = (upper xs a.0, one_fewer xs y zs a.1)
  where
    upper : (ws : List (ℕ × Message)) → AllByRecursion (λ w. x.0 < w.0) (ws ++ y ∷ zs) → AllByRecursion (λ w. x.0 < w.0) (ws ++ zs)
    upper [] h = h.1
    upper (w ∷ ws) h = (h.0, upper ws h.1)

one_fewer_of : (q : ℕ × Message → Bool) (xs : List (ℕ × Message)) (y : ℕ × Message) (zs : List (ℕ × Message)) → AreAscending (filter q (xs ++ y ∷ zs)) → AreAscending (filter q (xs ++ zs))
one_fewer_of q xs y zs a = subst AreAscending (sym (filter-append q xs zs)) (by (q y) (subst AreAscending (filter-append q xs (y ∷ zs)) a))
  where
    by : (b : Bool) → AreAscending (filter q xs ++ cond b (y ∷ filter q zs) (filter q zs)) → AreAscending (filter q xs ++ filter q zs)
    by true h = one_fewer (filter q xs) y (filter q zs) h
    by false h = h

-- RUNS WITH FEWER RECORDS
drop_all : (P : Numbered → Type 0) (n : ℕ) (rs : List Numbered) → AllByRecursion P rs → AllByRecursion P (drop n rs)
drop_all P zero rs h = h
drop_all P (suc n) [] h = tt
drop_all P (suc n) (r ∷ rs) h = drop_all P n rs h.1

remove_all : (P : Numbered → Type 0) (i : ℕ) (rs : List Numbered) → AllByRecursion P rs → AllByRecursion P (remove rs i)
remove_all P zero [] h = tt
remove_all P (suc i) [] h = tt
remove_all P zero (r ∷ rs) h = h.1
remove_all P (suc i) (r ∷ rs) h = (h.0, remove_all P i rs h.1)

older_front : (m n : ℕ) (t : Part) → IsOlder m t → IsOlder m (without_front n t)
older_front m n t h = (h.0, drop_all (λ r. r.number < m) n t.recs h.1)

older_at : (m o : ℕ) (t : Part) → IsOlder m t → IsOlder m (without_at o t)
older_at m o t h = (h.0, remove_all (λ r. r.number < m) o t.recs h.1)

up_to_front : (m n : ℕ) (t : Part) → IsUpTo m t → IsUpTo m (without_front n t)
up_to_front m n t (inl e) = inl e
up_to_front m n t (inr h) = inr (older_front m n t h)

up_to_at : (m o : ℕ) (t : Part) → IsUpTo m t → IsUpTo m (without_at o t)
up_to_at m o t (inl e) = inl e
up_to_at m o t (inr h) = inr (older_at m o t h)

all-at : (P : Part → Type 0) (o : ℕ) → ((t : Part) → P t → P (without_at o t)) → (p : ℕ) (ps : List Part) → AllByRecursion P ps → AllByRecursion P (changed_at (without_at o) p ps)
all-at P o keeps p [] h = tt
all-at P o keeps zero (t ∷ ps) h = (keeps t h.0, h.1)
all-at P o keeps (suc p) (t ∷ ps) h = (h.0, all-at P o keeps p ps h.1)

all_weaker : {Y : Type 0} (P Q : Y → Type 0) → ((y : Y) → P y → Q y) → (ys : List Y) → AllByRecursion P ys → AllByRecursion Q ys
all_weaker P Q f [] h = tt
all_weaker P Q f (y ∷ ys) h = (f y h.0, all_weaker P Q f ys h.1)

grouped-at : (o p : ℕ) (ps : List Part) → AreGrouped ps → AreGrouped (changed_at (without_at o) p ps)
grouped-at o p [] h = tt
grouped-at o zero (t ∷ ps) h = (remove_all (λ r. t.base ≤ r.number) o t.recs h.0, all_weaker (λ q. IsUpTo q.base t) (λ q. IsUpTo q.base (without_at o t)) (λ q it. up_to_at q.base o t it) ps h.1, h.2)
grouped-at o (suc p) (t ∷ ps) h = (h.0, all-at (λ q. IsUpTo q.base t) o (λ q it. it) p ps h.1, grouped-at o p ps h.2)

module _ (same : Lane → Lane → Bool) (k : Lane) where
  all-taken_on : (P : Part → Type 0) → ((m : ℕ) (t : Part) → P t → P (without_front m t)) → (n : ℕ) (ps : List Part) → AllByRecursion P ps → AllByRecursion P (taken_on same k n ps)
  all-taken_on P keeps n [] h = tt
  all-taken_on P keeps n (t ∷ ps) h = by (same k t.lane) (all-taken_on P keeps (n - length t.recs) ps h.1) (all-taken_on P keeps n ps h.1)
    where
      by : (b : Bool) → AllByRecursion P (taken_on same k (n - length t.recs) ps) → AllByRecursion P (taken_on same k n ps)
          → AllByRecursion P (cond b (without_front n t ∷ taken_on same k (n - length t.recs) ps) (t ∷ taken_on same k n ps))
      by true less more = (keeps n t h.0, less)
      by false less more = (h.0, more)

  grouped-taken_on : (n : ℕ) (ps : List Part) → AreGrouped ps → AreGrouped (taken_on same k n ps)
  grouped-taken_on n [] h = tt
  grouped-taken_on n (t ∷ ps) h = by (same k t.lane) (grouped-taken_on (n - length t.recs) ps h.2) (grouped-taken_on n ps h.2)
    where
      after : (m : ℕ) (u : Part) → AllByRecursion (λ q. IsUpTo q.base u) ps → AllByRecursion (λ q. IsUpTo q.base u) (taken_on same k m ps)
      after m u all = all-taken_on (λ q. IsUpTo q.base u) (λ j q it. it) m ps all

      by : (b : Bool) → AreGrouped (taken_on same k (n - length t.recs) ps) → AreGrouped (taken_on same k n ps)
          → AreGrouped (cond b (without_front n t ∷ taken_on same k (n - length t.recs) ps) (t ∷ taken_on same k n ps))
      by true less more = (
        drop_all (λ r. t.base ≤ r.number) n t.recs h.0,
        after (n - length t.recs) (without_front n t) (all_weaker (λ q. IsUpTo q.base t) (λ q. IsUpTo q.base (without_front n t)) (λ q it. up_to_front q.base n t it) ps h.1),
        less,
      )
      by false less more = (h.0, after n t h.1, more)

-- without a picked message, and without the first n of its lane
module _ (next : ℕ) (ps : List Part) (p o : ℕ) (s : Part) (r : Numbered) (d : Part) (is : AreNumbered next ps) (h : p < length ps) (at : s ≡ get_or ps p d) (e : slice_get s.recs o ≡ Some r) where
  qs : List Part
  qs = changed_at (without_at o) p ps

  pub numbered_others : AreNumbered next (changed_at (without_at o) p ps)
  numbered_others =
      let it = picked ps p o s r d h at e in
      record {
        older = all-at (IsOlder next) o (older_at next o) p ps is.older;
        ascending = λ c. subst (λ xs. AreAscending (filter (λ x. same_edge c x.1) xs)) (sym it.others)
            (one_fewer_of (λ x. same_edge c x.1) it.front (on_lane s.lane r) it.back (subst (λ xs. AreAscending (filter (λ x. same_edge c x.1) xs)) it.all (is.ascending c)));
        grouped = grouped-at o p ps is.grouped;
      }

pub numbered_taken : (next n : ℕ) (k : Lane) (r0 : Rec) (ps : List Part) → AreNumbered next ps → AreNumbered next (taken_on lane_eq k n ps)
numbered_taken next n k r0 ps is = record {
  older = all-taken_on lane_eq k (IsOlder next) (older_front next) n ps is.older;
  ascending = λ c. subst (λ xs. AreAscending (filter (λ x. same_edge c x.1) xs)) (sym (left_on k r0 n ps)) (fewer_ascend (λ x. same_edge (message k r0) x.1) (λ x. same_edge c x.1) n (all_of ps) (is.ascending c));
  grouped = grouped-taken_on lane_eq k n ps is.grouped;
}

-- THE WHOLE
-- what is taken and left, where the runs ps become ts and the records rs are taken on the lane k
pub record IsTask (next : ℕ) (ps : List Part) (pick : ℕ) (k : Lane) (rs : List Rec) (ts : List Part) : Type 0 where
  pub task : coming k.vertex k.port k.time rs ≡ task_at pick (messages_of ps)
  pub left : messages_of ts ≡ left_at pick (messages_of ps)
  pub linked : AreLinked lane_eq ts
  pub lasts : (q : Lane) → last_on lane_eq q ts ≡ last_on lane_eq q ps
  pub numbers : AreNumbered next ts

pub task_of : (next : ℕ) (ps : List Part) (p o pick : ℕ) (s d : Part) (r : Numbered) → AreNumbered next ps → p < length ps → s ≡ get_or ps p d → IsOne s.recs o r → rank ps p r.number ≡ pick → AreLinked lane_eq ps
    → IsTask next ps pick s.lane (r.rec ∷ map rec_of (take 63 (lane_recs lane_eq s.lane (changed_at (without_at o) p ps)))) (taken_on lane_eq s.lane 63 (changed_at (without_at o) p ps))
task_of next ps p o pick s d r numbers h at is before l =
    let ms = messages_of ps in
    let k = s.lane in
    let m = message k r.rec in
    let qs = changed_at (without_at o) p ps in
    let ts = taken_on lane_eq k 63 qs in
    let it = in_place next ps p o pick s r d numbers h at is.found before in
    let first : slice_get ms pick ≡ Some m = ap (λ l. slice_get l pick) it.all ∙ get-right it.front (m ∷ it.back) 0 pick (omega (arith, it.place)) in
    let rest : messages_of qs ≡ remove ms pick = it.others ∙ sym (ap (λ l. remove l pick) it.all ∙ remove-right it.front (m ∷ it.back) 0 pick (omega (arith, it.place))) in
    let fewer = numbered_others next ps p o s r d numbers h at is.found in
    let below_next = all_below next qs fewer.older in
    let recs : map rec_of (take 63 (lane_recs lane_eq k qs)) ≡ map (λ (x : Message). x.rec) (take 63 (filter (same_edge m) (remove ms pick))) =
    recs-are k r.rec 63 next qs below_next (fewer.ascending m) ∙ ap (λ l. map (λ (x : Message). x.rec) (take 63 (filter (same_edge m) l))) rest in
    let taken = numbered_taken next 63 k r.rec qs fewer in
    let after : messages_of ts ≡ without_first (same_edge m) 63 (remove ms pick) =
    by_number next (all_of ts) (all_below next ts taken.older) ∙ (ap (below next) (left_on k r.rec 63 qs)
    ∙ (left_below next 63 (same_edge m) (all_of qs) (fewer.ascending m)
    ∙ (ap (without_first (same_edge m) 63) (sym (by_number next (all_of qs) below_next)) ∙ ap (without_first (same_edge m) 63) rest))) in
    record {
      task = ap (λ rs. m ∷ coming k.vertex k.port k.time rs) recs ∙ (ap (λ l. m ∷ l) (come_back k r.rec 63 (remove ms pick)) ∙ ap (λ x. task_by x (remove ms pick)) (sym first));
      left = after ∙ ap (λ x. left_by x (remove ms pick)) (sym first);
      linked = linked-taken_on lane_eq k 63 qs (linked-changed_at (without_at o) (λ x. refl) lane_eq (λ x. refl) p ps l);
      lasts = λ q. last-taken_on lane_eq k q 63 qs ∙ last-changed_at (without_at o) (λ x. refl) lane_eq q p ps;
      numbers = taken;
    }
