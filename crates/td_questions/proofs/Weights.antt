-- Entries as they are ranked: their order, and that they are told by it.
use Rattle.std.proofs.Common.{◌≡◌, ℕ, ℤ, true, false, cond, List, [], ◌∷◌, map, Option, refl, ap, sym, ◌∙◌, arith, ◌==◌}
use Rattle.std.specs.Prelude.{pos, neg_ℤ, ◌-ℤ◌, ◌<ℤ◌}
use Rattle.std.specs.declared.cmp.Ordering.{Ordering}
use Rattle.std.specs.declared.cmp.Ordering.TheVariants.{Less, Equal, Greater}
use Rattle.std.specs.Ordering.{ordering_then, int_cmp, MatchOrdering}
use Rattle.std.specs.Cmp.{IsTotalOrder, then_total, on_total}
use Rattle.std.specs.FinMap.{IsAntisymmetric, int_cmp-IsAntisymmetric}
use Rattle.std.proofs.lemmas.Cmp.{int_cmp_total, int_ranked}
use Rattle.std.proofs.lemmas.Int.{ints}
use Rattle.td_stamp.specs.Bag.{set_insert, set_of}
use Rattle.td_stamp.specs.BagLaws.{SetLaws}
use Rattle.td_stamp.specs.Orders.{state_key_cmp}
use Rattle.td_stamp.specs.ProvedOrders.{both_tie, state_key_total, state_key_apart}
use Rattle.td_stamp.specs.States.{StateList}
use Rattle.td_questions.specs.declared.ranks.Ranked.{Ranked}
use Rattle.td_questions.specs.declared.ranks.Order.{Order}
use Rattle.td_questions.specs.declared.ranks.Order.TheVariants.{FromLeast, FromGreatest}
use Rattle.td_questions.specs.Asked.{Entry, at_most, kept_by}
use Rattle.td_questions.specs.Ranks.{order_of, ranked_cmp}
use Rattle.td_questions.specs.Weighed.{ranked, entry_of, IsFew}
use Rattle.td_questions.proofs.Firsts.{few_are_all, put_all, all_at_most, all_put, set_map, at_most_map, map_back}

pub ranked_total : IsTotalOrder ranked_cmp
ranked_total = then_total (on_total (λ r. r.weight) int_cmp_total) (then_total (on_total (λ r. r.place) state_key_total) (on_total (λ r. r.b) int_cmp_total))

pub ranked_apart : IsAntisymmetric ranked_cmp
ranked_apart x y e =
    let first = both_tie (int_cmp x.weight y.weight) (ordering_then (state_key_cmp x.place y.place) (int_cmp x.b y.b)) e in
    let tied = both_tie (state_key_cmp x.place y.place) (int_cmp x.b y.b) first.1 in
    λ i. record { weight = int_cmp-IsAntisymmetric x.weight y.weight first.0 i; place = state_key_apart x.place y.place tied.0 i; b = int_cmp-IsAntisymmetric x.b y.b tied.1 i }

-- what falls as a rises
abbrev fallen : ℤ → ℤ
fallen a = neg_ℤ (pos 1) -ℤ a

turned : (x y : ℤ) → int_cmp (fallen x) (fallen y) ≡ int_cmp y x
turned x y = by (int_cmp (fallen x) (fallen y)) (int_cmp y x) (int_ranked (fallen x) (fallen y) _ refl) (int_ranked y x _ refl)
  where
    by : (r s : Ordering) → MatchOrdering r (fallen x <ℤ fallen y) (fallen x ≡ fallen y) (fallen y <ℤ fallen x) → MatchOrdering s (y <ℤ x) (y ≡ x) (x <ℤ y) → r ≡ s
    by Less Less h j = refl
    by Equal Equal h j = refl
    by Greater Greater h j = refl
    by Less Equal h j = absurd (omega (arith, ints, h, j))
    by Less Greater h j = absurd (omega (arith, ints, h, j))
    by Equal Less h j = absurd (omega (arith, ints, h, j))
    by Equal Greater h j = absurd (omega (arith, ints, h, j))
    by Greater Less h j = absurd (omega (arith, ints, h, j))
    by Greater Equal h j = absurd (omega (arith, ints, h, j))

fallen_twice : (a : ℤ) → fallen (fallen a) ≡ a
fallen_twice a = omega (arith, ints)

-- the order of entries is that in which they are ranked
pub ranked_as : (order : Order) (x y : Entry) → ranked_cmp (ranked order x) (ranked order y) ≡ order_of order x y
ranked_as FromLeast x y = refl
ranked_as FromGreatest x y = ap (λ r. ordering_then r (ordering_then (state_key_cmp x.0 y.0) (int_cmp x.1.b y.1.b))) (turned x.1.a y.1.a)

pub entry_back : (order : Order) (e : Entry) → entry_of order (ranked order e) ≡ e
entry_back FromLeast e = refl
entry_back FromGreatest e = λ i. (e.0, record { a = fallen_twice e.1.a i; b = e.1.b })

module _ (order : Order) (count : Option ℕ) (vertex : ℕ) where
  -- what is still to be put in, of these states
  abbrev pub to_put : StateList → List Ranked
  to_put states = map (ranked order) (kept_by vertex states)

  -- with all that are still to be put in
  abbrev pub in_all : StateList → List Ranked → List Ranked
  in_all states keys = at_most count (put_all ranked_cmp (to_put states) keys)

  -- THE FIRST of all that were put in are the entries
  pub entries_are : (laws : SetLaws ranked_cmp) (states : StateList) (keys : List Ranked) → IsFew count keys → in_all [] keys ≡ in_all states [] → map (entry_of order) keys ≡ at_most count (set_of (order_of order) (kept_by vertex states))
  entries_are laws states keys few h =
      let sorted = set_of (order_of order) (kept_by vertex states) in
      let is : keys ≡ map (ranked order) (at_most count sorted) =
      sym (few_are_all count keys few)
      ∙ (h ∙ (ap (at_most count) (all_put ranked_cmp laws (to_put states) ∙ set_map (order_of order) ranked_cmp (ranked order) (ranked_as order) (kept_by vertex states)) ∙ at_most_map (ranked order) count sorted)) in
      ap (map (entry_of order)) is ∙ map_back (ranked order) (entry_of order) (entry_back order) (at_most count sorted)

  -- one more is put in, where it is the vertex's
  pub put_one : (e : Entry) (states : StateList) (keys new : List Ranked) → (e.0.0 == vertex) ≡ true → new ≡ at_most count (set_insert ranked_cmp (ranked order e) keys) → in_all states new ≡ in_all (e ∷ states) keys
  put_one e states keys new t is =
      ap (in_all states) is
      ∙ (all_at_most ranked_cmp count (to_put states) (set_insert ranked_cmp (ranked order e) keys)
      ∙ sym (ap (λ b. at_most count (put_all ranked_cmp (map (ranked order) (cond b (e ∷ kept_by vertex states) (kept_by vertex states))) keys)) t))

  pub put_none : (e : Entry) (states : StateList) (keys : List Ranked) → (e.0.0 == vertex) ≡ false → in_all states keys ≡ in_all (e ∷ states) keys
  put_none e states keys t = sym (ap (λ b. at_most count (put_all ranked_cmp (map (ranked order) (cond b (e ∷ kept_by vertex states) (kept_by vertex states))) keys)) t)
