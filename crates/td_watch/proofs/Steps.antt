-- Each kind of step keeps the rule of the watch.
use Rattle.std.proofs.Common.{◌≡◌, ◌≢◌, ℕ, ◌<◌, ◌≤◌, List, [], length, set, true, false, true≢false, refl, sym, ap, ◌∙◌, subst, ⊎_elim, le_refl, le_trans}
use Rattle.std.proofs.lemmas.List.{set-get_or, length-set}
use Rattle.std.specs.Prelude.{slice_index, slice_set}
use mathlib.Core.Option.{some, none}
use lib.ListN.{get_elem?}
use Rattle.atomic_table.specs.Table.{keeps, step, Allows, Splits, Joins}
use Rattle.atomic_table.proofs.Lists.{at_set, at_snoc, set_again}
use Rattle.td_watch.specs.declared.rule.SeatView.{SeatView}
use Rattle.td_watch.specs.Words.{KeepsOrder}
use Rattle.td_watch.specs.Rule.{EachAtMost, writer_seat, reader_seat, spent_seat, joined_seat, IsTrueView, KeepsRule, LoadsWord, StoresWord, ComparesJoined}
use Rattle.td_watch.proofs.Lists.{set_at_most, at_most_set, zeros_at_most, later_at_most, order_set}

not_writer : false ≡ true → ⊥
not_writer e = true≢false (sym e)

-- all views are true, once one was changed into a true one
views_set : (writer : ℕ) (words : List ℕ) (views : List SeatView) (id : ℕ) (changed : SeatView)
    → ((j : ℕ) (u : SeatView) → j ≢ id → get_elem? views j ≡ some u → IsTrueView writer words j u) → IsTrueView writer words id changed
    → (j : ℕ) (u : SeatView) → get_elem? (set views id changed) j ≡ some u → IsTrueView writer words j u
views_set writer words views id changed others mine j u e =
    ⊎_elim
    (λ (x : (j ≡ id) × (changed ≡ u)). subst (λ (y : ℕ × SeatView). IsTrueView writer words y.0 y.1) (λ i. (sym x.0 i, x.1 i)) mine)
    (λ (x : (j ≢ id) × (get_elem? views j ≡ some u)). others j u x.0 x.1)
    (at_set views id j changed u e)

-- a load by a reader's seat
pub loads : {S : Type 0} (slots id : ℕ) (seen : List ℕ) (i : ℕ)
    → Allows {S = S} {V = SeatView} KeepsRule slots id (reader_seat seen, []) i (λ n. n) (LoadsWord (step slots i 0 0 none) (reader_seat seen, []))
loads slots id seen i s rule homes at small =
    let n = slice_index s.words i in
    let view = reader_seat (slice_set seen i n) in
    let mine = rule.3 id (reader_seat seen) at in
    let below : EachAtMost (slice_set seen i n) s.words =
    λ j. set_at_most seen i j n (slice_index s.words j) (λ e. subst (λ (k : ℕ). n ≤ slice_index s.words k) (sym e) (le_refl n)) (λ _. mine.0 j) in (
      view,
      keeps,
      tt,
      subst
          (λ (l : List ℕ). (length l ≡ 3) × KeepsOrder l × (writer : ℕ) × ((j : ℕ) (u : SeatView) → get_elem? (set s.views id view) j ≡ some u → IsTrueView writer l j u))
          (sym (set-get_or s.words i 0))
          (rule.0, rule.1, rule.2, views_set rule.2 s.words s.views id view (λ j u _ e. rule.3 j u e) (below, zeros_at_most s.words, (λ t. absurd (not_writer t)))),
      (refl, (λ j le. le_trans (mine.0 j) (later_at_most s.words rule.0 rule.1 i j le))),
    )

-- a load by the writer's seat, after a reader's seat was joined to it
pub compares : {S : Type 0} (slots id : ℕ) (words : List ℕ) (joined : SeatView)
    → Allows {S = S} {V = SeatView} KeepsRule slots id (joined_seat (writer_seat words) joined, []) 0 (λ n. n)
    (ComparesJoined (step slots 0 0 0 none) (joined_seat (writer_seat words) joined, []))
compares slots id words joined s rule homes at small =
    let view = writer_seat words in
    let mine = rule.3 id (joined_seat (writer_seat words) joined) at in (
      view,
      keeps,
      tt,
      subst
          (λ (l : List ℕ). (length l ≡ 3) × KeepsOrder l × (writer : ℕ) × ((j : ℕ) (u : SeatView) → get_elem? (set s.views id view) j ≡ some u → IsTrueView writer l j u))
          (sym (set-get_or s.words 0 0))
          (rule.0, rule.1, rule.2, views_set rule.2 s.words s.views id view (λ j u _ e. rule.3 j u e) (mine.0, zeros_at_most s.words, mine.2)),
      (refl, subst (λ (l : List ℕ). EachAtMost joined.words l) (sym (mine.2 refl).1) mine.1),
    )

-- a store by the writer's seat of a number that is no less than the word was, and no more than the words before it
pub stores : {S : Type 0} (slots id : ℕ) (words : List ℕ) (i n : ℕ) → slice_index words i ≤ n → ((k : ℕ) → k < i → n ≤ slice_index words k)
    → Allows {S = S} {V = SeatView} KeepsRule slots id (writer_seat words, []) i (λ _. n) (λ _. StoresWord (step slots i n 0 none) (writer_seat words, []) n)
stores slots id words i n rises fits s rule homes at small =
    let view = writer_seat (slice_set words i n) in
    let mine = rule.3 id (writer_seat words) at in
    let is = mine.2 refl in
    let rises' : slice_index s.words i ≤ n = subst (λ (l : List ℕ). slice_index l i ≤ n) is.1 rises in
    let fits' : (k : ℕ) → k < i → n ≤ slice_index s.words k = subst (λ (l : List ℕ). (k : ℕ) → k < i → n ≤ slice_index l k) is.1 fits in
    let after = slice_set s.words i n in
    let still : (xs : List ℕ) → EachAtMost xs s.words → EachAtMost xs after =
    λ xs h j. at_most_set s.words i j n (slice_index xs j) (h j) (λ e. le_trans (h j) (subst (λ (k : ℕ). slice_index s.words k ≤ n) (sym e) rises')) in
    let same : slice_set words i n ≡ after = ap (λ (l : List ℕ). slice_set l i n) is.1 in (
      view,
      keeps,
      tt,
      (
        length-set s.words i n ∙ rule.0,
        order_set s.words i n rule.0 rule.1 rises' fits',
        rule.2,
        views_set rule.2 after s.views id view
            (λ j u ne e. let f = rule.3 j u e in (still u.words f.0, still u.joined f.1, (λ t. absurd (ne ((f.2 t).0 ∙ sym is.0)))))
            (subst (λ (l : List ℕ). EachAtMost (slice_set words i n) l) same (λ j. le_refl _), zeros_at_most after, (λ _. (is.0, same))),
      ),
      refl,
    )

-- a reader's seat is split from a seat
pub splits : {S : Type 0} (id : ℕ) (v : SeatView) → Splits {S = S} {V = SeatView} KeepsRule id v v (reader_seat v.words)
splits id v s rule at = (
  rule.0,
  rule.1,
  rule.2,
  (λ j u e.
      ⊎_elim
      (λ (was : get_elem? (set s.views id v) j ≡ some u). rule.3 j u (subst (λ (l : List SeatView). get_elem? l j ≡ some u) (set_again s.views id v at) was))
      (λ (same : reader_seat v.words ≡ u). subst (IsTrueView rule.2 s.words j) same ((rule.3 id v at).0, zeros_at_most s.words, (λ t. absurd (not_writer t))))
      (at_snoc (set s.views id v) (reader_seat v.words) u j e)),
)

-- a seat is joined to another
pub joins : {S : Type 0} (id : ℕ) (v : SeatView) (other : ℕ) (w : SeatView) → Joins {S = S} {V = SeatView} KeepsRule id v other w (joined_seat v w) spent_seat
joins id v other w s rule at ne found =
    let mine = rule.3 id v at in
    let was : get_elem? s.views other ≡ some w =
    ⊎_elim
    (λ (x : (other ≡ id) × (joined_seat v w ≡ w)). absurd (ne x.0))
    (λ (x : (other ≢ id) × (get_elem? s.views other ≡ some w)). x.1)
    (at_set s.views id other (joined_seat v w) w found) in
    let theirs = rule.3 other w was in (
      rule.0,
      rule.1,
      rule.2,
      views_set rule.2 s.words (set s.views id (joined_seat v w)) other spent_seat
          (λ j u _ e. views_set rule.2 s.words s.views id (joined_seat v w) (λ j u _ e. rule.3 j u e) (mine.0, theirs.0, mine.2) j u e)
          (zeros_at_most s.words, zeros_at_most s.words, (λ t. absurd (not_writer t))),
    )
