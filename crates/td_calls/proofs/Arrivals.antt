-- What a vertex sends of some arrivals is what its callbacks send. The laws of bags and groups are taken as arguments, as
-- td_stamp states them.
use Rattle.std.proofs.Common.{◌≡◌, ℕ, List, [], ◌∷◌, ◌++◌, map, filter, flat_map, not, refl, ap, sym, ◌∙◌, append_assoc, Bool, true, false, ◌||◌, ◌&&◌, if◌then◌else◌, Option}
use Rattle.std.specs.Cmp.{IsTotalOrder}
use Rattle.std.specs.FinMap.{IsAntisymmetric}
use Rattle.std.specs.Ordering.{is_eq}
use Rattle.td_stamp.specs.declared.values.Rec.{Rec}
use Rattle.td_stamp.specs.declared.values.State.{State}
use Rattle.td_stamp.specs.declared.values.Arrival.{Arrival}
use Rattle.td_stamp.specs.Orders.{rec_cmp}
use Rattle.td_stamp.specs.Bag.{bag_insert, bag_of, join, set_insert, set_of, has}
use Rattle.td_stamp.specs.Groups.{rec_of, groups}
use Rattle.td_plan.specs.declared.vertex.Kind.{Kind}
use Rattle.td_plan.specs.declared.vertex.Kind.TheVariants.{Input, Map, Distinct, Group, Fold}
use Rattle.td_calls.specs.Answers.{Answers}
use Rattle.td_calls.specs.Callbacks.{Kept, Added, only_sent, on_arrival, on_arrivals, on_notification, with_added, sends}
use Rattle.td_calls.specs.Laws.{SendsOneByOne, SendsBySeveral, SendsOneMore}
use Rattle.td_calls.proofs.Filters.{filter-filter}
use Rattle.td_calls.proofs.Joins.{join-append}
use Rattle.td_calls.proofs.Sets.{Rises-set_of, has-set_of, has_none, set_insert-there, set_insert-new, set_insert-others, filter-set_insert_out, filter-set_insert_in, filter-set_of}

-- what a distinct adds, where it has seen the record or not
abbrev once : Bool → Rec → Added
once b r = if b then only_sent [] else record { seen = r ∷ []; buffered = []; sent = r ∷ [] }

abbrev unseen : List Rec → Rec → Bool
unseen seen r = not (has rec_cmp r seen)

neither : (b c : Bool) → (not c && not b) ≡ not (b || c)
neither true true = refl
neither true false = refl
neither false true = refl
neither false false = refl

module _
    (total : IsTotalOrder rec_cmp) (same : IsAntisymmetric rec_cmp)
    (append : (xs ys : List Rec) → bag_of rec_cmp (xs ++ ys) ≡ join rec_cmp xs (bag_of rec_cmp ys))
    (groups_any_place : (xs ys : List Arrival) (a : Arrival) → groups (xs ++ a ∷ ys) ≡ groups (a ∷ xs ++ ys)) where
  distinct_one : (r : Rec) (rs seen : List Rec) (b : Bool) → has rec_cmp r seen ≡ b
      → filter (unseen seen) (set_of rec_cmp (r ∷ rs)) ≡ join rec_cmp (once b r).sent (filter (unseen ((once b r).seen ++ seen)) (set_of rec_cmp rs))
  distinct_one r rs seen true e = filter-set_insert_out rec_cmp total same (unseen seen) r (set_of rec_cmp rs) (ap not e)
  distinct_one r rs seen false e =
      filter-set_insert_in rec_cmp total same (unseen seen) r (set_of rec_cmp rs) (ap not e) (Rises-set_of rec_cmp total same rs)
      ∙ ap (set_insert rec_cmp r) kept ∙ set_insert-others rec_cmp total same r (set_of rec_cmp (filter (unseen seen) rs)) (Rises-set_of rec_cmp total same (filter (unseen seen) rs))
      ∙ ap (bag_insert rec_cmp r) (ap (filter other) (sym kept) ∙ filter-filter other (unseen seen) (set_of rec_cmp rs) ∙ (λ i. filter (λ s. neither (is_eq (rec_cmp s r)) (has rec_cmp s seen) i) (set_of rec_cmp rs)))
    where
      other : Rec → Bool
      other s = not (is_eq (rec_cmp s r))

      kept : filter (unseen seen) (set_of rec_cmp rs) ≡ set_of rec_cmp (filter (unseen seen) rs)
      kept = filter-set_of rec_cmp total same (unseen seen) rs

  pub on_one : (answers : Answers) (state : ℕ → Option State) (kind : Kind) → SendsOneByOne answers state kind
  on_one answers state Input kept a rest = refl
  on_one answers state (Map code) kept a rest = append (answers.emit code a.item.port (rec_of a)) (flat_map (λ a. answers.emit code a.item.port (rec_of a)) rest)
  on_one answers state Distinct kept a rest = distinct_one (rec_of a) (map rec_of rest) kept.seen (has rec_cmp (rec_of a) kept.seen) refl
  on_one answers state (Group code) kept a rest =
      ap (λ gs. bag_of rec_cmp (flat_map (λ g. (on_notification answers (Group code) g.0 (state g.0) g.1).1) gs)) (groups_any_place kept.buffered rest a)
  on_one answers state (Fold code) kept a rest =
      ap (λ gs. bag_of rec_cmp (flat_map (λ g. (on_notification answers (Fold code) g.0 (state g.0) g.1).1) gs)) (groups_any_place kept.buffered rest a)
  on_one answers state _ kept a rest = refl

  pub on_several : ((x y z : List Rec) → join rec_cmp (join rec_cmp x y) z ≡ join rec_cmp x (join rec_cmp y z)) → (answers : Answers) (state : ℕ → Option State) (kind : Kind) → SendsBySeveral answers state kind
  on_several assoc answers state kind kept [] rest = refl
  on_several assoc answers state kind kept (a ∷ first) rest =
      on_one answers state kind kept a (first ++ rest) ∙ ap (join rec_cmp added.sent) (on_several assoc answers state kind now first rest)
      ∙ sym (join-append rec_cmp added.sent more.sent (sends answers state kind (with_added now more) rest))
      ∙ (λ i. join rec_cmp (added.sent ++ more.sent) (sends answers state kind (record { seen = sym (append_assoc more.seen added.seen kept.seen) i; buffered = sym (append_assoc more.buffered added.buffered kept.buffered) i }) rest))
    where
      added : Added
      added = on_arrival answers kind kept a

      now : Kept
      now = with_added kept added

      more : Added
      more = on_arrivals answers kind now first

  distinct_one_more : (r : Rec) (rs seen : List Rec) (b c d : Bool) → has rec_cmp r seen ≡ b → has rec_cmp r rs ≡ c → d ≡ (b || c)
      → filter (unseen seen) (set_of rec_cmp (r ∷ rs)) ≡ join rec_cmp (once d r).sent (filter (unseen seen) (set_of rec_cmp rs))
  distinct_one_more r rs seen true c d e f g = filter-set_insert_out rec_cmp total same (unseen seen) r (set_of rec_cmp rs) (ap not e) ∙ ap (λ d. join rec_cmp (once d r).sent (filter (unseen seen) (set_of rec_cmp rs))) (sym g)
  distinct_one_more r rs seen false true d e f g =
      ap (filter (unseen seen)) (set_insert-there rec_cmp total same r (set_of rec_cmp rs) (Rises-set_of rec_cmp total same rs) (has-set_of rec_cmp total same r rs ∙ f))
      ∙ ap (λ d. join rec_cmp (once d r).sent (filter (unseen seen) (set_of rec_cmp rs))) (sym g)
  distinct_one_more r rs seen false false d e f g =
      filter-set_insert_in rec_cmp total same (unseen seen) r (set_of rec_cmp rs) (ap not e) (Rises-set_of rec_cmp total same rs)
      ∙ set_insert-new rec_cmp total same r (filter (unseen seen) (set_of rec_cmp rs)) (has_none rec_cmp total same (unseen seen) r (set_of rec_cmp rs) (has-set_of rec_cmp total same r rs ∙ f))
      ∙ ap (λ d. join rec_cmp (once d r).sent (filter (unseen seen) (set_of rec_cmp rs))) (sym g)

  pub on_one_more : (answers : Answers) (state : ℕ → Option State) (kind : Kind) → SendsOneMore answers state kind
  on_one_more answers state Input kept by_then a others n h = refl
  on_one_more answers state (Map code) kept by_then a others n h = append (answers.emit code a.item.port (rec_of a)) (flat_map (λ a. answers.emit code a.item.port (rec_of a)) others)
  on_one_more answers state Distinct kept by_then a others n h =
      distinct_one_more (rec_of a) (map rec_of others) kept.seen (has rec_cmp (rec_of a) kept.seen) (has rec_cmp (rec_of a) (map rec_of others)) (has rec_cmp (rec_of a) by_then.seen) refl refl (h refl)
  on_one_more answers state (Group code) kept by_then a others n h = cc
  on_one_more answers state (Fold code) kept by_then a others n h = cc
  on_one_more answers state _ kept by_then a others n h = refl
