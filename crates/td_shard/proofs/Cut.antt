-- The records seen at one place, between those of lower places and those of higher ones.
use Rattle.std.proofs.Common.{◌≡◌, ℕ, nat_lt, filter, List, [], ◌∷◌, ◌++◌, Bool, true, false, cond, Some, None, refl, ap, sym, ◌∙◌, subst, append_assoc}
use Rattle.std.specs.declared.cmp.Ordering.{Ordering}
use Rattle.std.specs.declared.cmp.Ordering.TheVariants.{Less, Equal, Greater}
use Rattle.std.specs.Ordering.{is_eq, ordering_then, nat_cmp}
use Rattle.std.specs.Cmp.{nat_cmp_total}
use Rattle.std.specs.FinMap.{nat_cmp-IsAntisymmetric}
use Rattle.std.specs.List.{AllByRecursion}
use Rattle.std.specs.List.Sorted.{IsStrictlySortedBy}
use Rattle.std.specs.Map.{keys_of, lookup, set_value}
use Rattle.std.specs.BTreeMap.{is_at, insert_entry}
use Rattle.std.specs.BTreeSet.{BTreeSet}
use Rattle.std.proofs.lemmas.Cmp.{tied_itself}
use Rattle.std.proofs.lemmas.List.Elements.{filter-append}
use Rattle.std.proofs.lemmas.Map.Keys.{sorted_head, sorted_tail}
use Rattle.td_stamp.specs.declared.values.Rec.{Rec}
use Rattle.td_stamp.specs.Orders.{rec_cmp}
use Rattle.td_stamp.specs.Bag.{bag_insert, join, has}
use Rattle.td_stamp.specs.Time.{Timestamp, time_cmp}
use Rattle.td_stamp.specs.ProvedOrders.{both_tie}
use Rattle.td_machine.specs.declared.records.Stamped.{Stamped}
use Rattle.td_machine.specs.State.{stamped_cmp}
use Rattle.td_machine.specs.Steps.{stamped}
use Rattle.td_shard.specs.declared.place.Place.{Place}
use Rattle.td_shard.specs.ProvedOrders.{time_total, place_total}
use Rattle.td_machine.specs.AtOnce.{stamped_at as at, fresh}
use Rattle.td_shard.specs.Seen.{fresh_recs, with_fresh, place_cmp, seen_at, seen_of}
use Rattle.td_shard.proofs.Orders.{time_apart}
use Rattle.td_shard.proofs.Between.{Lower, Higher, has-lower, has-higher, insert-lower, insert-higher}

then_assoc : (a b c : Ordering) → ordering_then a (ordering_then b c) ≡ ordering_then (ordering_then a b) c
then_assoc Less b c = refl
then_assoc Equal b c = refl
then_assoc Greater b c = refl

-- records are compared by place, then by themselves
by_place : (p q : Place) (r s : Rec) → stamped_cmp (at p.vertex p.time r) (at q.vertex q.time s) ≡ ordering_then (place_cmp p q) (rec_cmp r s)
by_place p q r s = then_assoc (nat_cmp p.vertex q.vertex) (time_cmp p.time q.time) (rec_cmp r s)

state_key_apart : (p q : Place) → place_cmp p q ≡ Equal → p ≡ q
state_key_apart p q e =
    let tied = both_tie (nat_cmp p.vertex q.vertex) (time_cmp p.time q.time) e in
    λ i. record { vertex = nat_cmp-IsAntisymmetric p.vertex q.vertex tied.0 i; time = time_apart p.time q.time tied.1 i }

same_place : (v : ℕ) (t : Timestamp) (r s : Rec) → stamped_cmp (at v t r) (at v t s) ≡ rec_cmp r s
same_place v t r s = rw (tied_itself nat_cmp_total v, tied_itself time_total t) refl

all-append : {X : Type 0} (P : X → Type 0) (xs ys : List X) → AllByRecursion P xs → AllByRecursion P ys → AllByRecursion P (xs ++ ys)
all-append P [] ys h k = k
all-append P (x ∷ xs) ys h k = (h.0, all-append P xs ys h.1 k)

lower_set : (p q : Place) (r : Rec) (ks : List Rec) → place_cmp p q ≡ Greater → Lower stamped_cmp (at p.vertex p.time r) (stamped q.vertex q.time ks)
lower_set p q r [] e = tt
lower_set p q r (k ∷ ks) e = (by_place p q r k ∙ ap (λ o. ordering_then o (rec_cmp r k)) e, lower_set p q r ks e)

higher_set : (p q : Place) (r : Rec) (ks : List Rec) → place_cmp p q ≡ Less → Higher stamped_cmp (at p.vertex p.time r) (stamped q.vertex q.time ks)
higher_set p q r [] e = tt
higher_set p q r (k ∷ ks) e = (by_place p q r k ∙ ap (λ o. ordering_then o (rec_cmp r k)) e, higher_set p q r ks e)

higher_all : (p : Place) (r : Rec) (es : List (Place × BTreeSet Rec)) → AllByRecursion (λ q. place_cmp p q ≡ Less) (keys_of es) → Higher stamped_cmp (at p.vertex p.time r) (seen_of es)
higher_all p r [] h = tt
higher_all p r (e ∷ es) h = all-append _ (seen_at e) (seen_of es) (higher_set p e.0 r e.1.keys h.0) (higher_all p r es h.1)

-- what is above a place is above those below it
above_all : (p q : Place) (ks : List Place) → place_cmp p q ≡ Less → AllByRecursion (λ k. place_cmp q k ≡ Less) ks → AllByRecursion (λ k. place_cmp p k ≡ Less) ks
above_all p q [] e h = tt
above_all p q (k ∷ ks) e h = (place_total.trans p q k e h.0, above_all p q ks e h.1)

not_above : (p : Place) (es : List (Place × BTreeSet Rec)) → AllByRecursion (λ k. place_cmp p k ≡ Less) (keys_of es) → lookup (is_at (place_cmp p)) es ≡ None
not_above p [] h = refl
not_above p (e ∷ es) h = rw (h.0) (not_above p es h.1)

-- WHERE THE SETS ARE CUT: the records ks of a place p stand between others, and so do those of a set that is put there
pub record Cut (p : Place) (ks : List Rec) (es : List (Place × BTreeSet Rec)) (put : BTreeSet Rec → List (Place × BTreeSet Rec)) : Type 0 where
  pub front : List Stamped
  pub back : List Stamped
  pub whole : seen_of es ≡ front ++ (stamped p.vertex p.time ks ++ back)
  pub with_set : (s : BTreeSet Rec) → seen_of (put s) ≡ front ++ (stamped p.vertex p.time s.keys ++ back)
  pub lower : (r : Rec) → Lower stamped_cmp (at p.vertex p.time r) front
  pub higher : (r : Rec) → Higher stamped_cmp (at p.vertex p.time r) back

-- past the set of a lower place
past : (p : Place) (ks : List Rec) (e : Place × BTreeSet Rec) (es : List (Place × BTreeSet Rec)) (put next : BTreeSet Rec → List (Place × BTreeSet Rec)) → place_cmp p e.0 ≡ Greater
    → ((s : BTreeSet Rec) → next s ≡ e ∷ put s) → Cut p ks es put → Cut p ks (e ∷ es) next
past p ks e es put next g n cut = record {
  front = seen_at e ++ cut.front;
  back = cut.back;
  whole = ap (λ l. seen_at e ++ l) cut.whole ∙ sym (append_assoc (seen_at e) cut.front (stamped p.vertex p.time ks ++ cut.back));
  with_set = λ s. ap seen_of (n s) ∙ (ap (λ l. seen_at e ++ l) (cut.with_set s) ∙ sym (append_assoc (seen_at e) cut.front (stamped p.vertex p.time s.keys ++ cut.back)));
  lower = λ r. all-append _ (seen_at e) cut.front (lower_set p e.0 r e.1.keys g) (cut.lower r);
  higher = cut.higher;
}

-- at a place that has a set
some_by : (p : Place) (s : BTreeSet Rec) (e : Place × BTreeSet Rec) (es : List (Place × BTreeSet Rec)) (o : Ordering) → place_cmp p e.0 ≡ o → AllByRecursion (λ k. place_cmp e.0 k ≡ Less) (keys_of es)
    → cond (is_eq o) (Some e.1) (lookup (is_at (place_cmp p)) es) ≡ Some s → (lookup (is_at (place_cmp p)) es ≡ Some s → Cut p s.keys es (set_value (is_at (place_cmp p)) es))
    → Cut p s.keys (e ∷ es) (set_value (is_at (place_cmp p)) (e ∷ es))
some_by p s e es Less o h f rest = let none : lookup (is_at (place_cmp p)) es ≡ None = not_above p es (above_all p e.0 (keys_of es) o h) in absurd (cc)
some_by p s e es Equal o h f rest =
    let here : p ≡ e.0 = state_key_apart p e.0 o in
    let set : e.1 ≡ s = is_some f in
    record {
      front = [];
      back = seen_of es;
      whole = (λ i. stamped (sym here i).vertex (sym here i).time (set i).keys ++ seen_of es);
      with_set = λ x. ap seen_of (put x) ∙ (λ i. stamped (sym here i).vertex (sym here i).time x.keys ++ seen_of es);
      lower = λ r. tt;
      higher = λ r. higher_all p r es (subst (λ q. AllByRecursion (λ k. place_cmp q k ≡ Less) (keys_of es)) (sym here) h);
    }
  where
    is_some : Some e.1 ≡ Some s → e.1 ≡ s
    is_some g = cc

    put : (x : BTreeSet Rec) → set_value (is_at (place_cmp p)) (e ∷ es) x ≡ (e.0, x) ∷ es
    put x = rw o refl
some_by p s e es Greater o h f rest = past p s.keys e es (set_value (is_at (place_cmp p)) es) (set_value (is_at (place_cmp p)) (e ∷ es)) o (λ x. rw o refl) (rest f)

pub cut_some : (p : Place) (s : BTreeSet Rec) (es : List (Place × BTreeSet Rec)) → IsStrictlySortedBy place_cmp (keys_of es) → lookup (is_at (place_cmp p)) es ≡ Some s → Cut p s.keys es (set_value (is_at (place_cmp p)) es)
cut_some p s [] h f = absurd (cc)
cut_some p s (e ∷ es) h f = some_by p s e es (place_cmp p e.0) refl (sorted_head place_cmp e.0 (keys_of es) h) f (cut_some p s es (sorted_tail place_cmp e.0 (keys_of es) h))

-- at a place that has none
none_by : (p : Place) (e : Place × BTreeSet Rec) (es : List (Place × BTreeSet Rec)) (o : Ordering) → place_cmp p e.0 ≡ o → AllByRecursion (λ k. place_cmp e.0 k ≡ Less) (keys_of es)
    → cond (is_eq o) (Some e.1) (lookup (is_at (place_cmp p)) es) ≡ None → (lookup (is_at (place_cmp p)) es ≡ None → Cut p [] es (insert_entry place_cmp es p))
    → Cut p [] (e ∷ es) (insert_entry place_cmp (e ∷ es) p)
none_by p e es Less o h f rest = record {
  front = [];
  back = seen_of (e ∷ es);
  whole = refl;
  with_set = λ x. rw o refl;
  lower = λ r. tt;
  higher = λ r. higher_all p r (e ∷ es) (o, above_all p e.0 (keys_of es) o h);
}
none_by p e es Equal o h f rest = absurd (cc)
none_by p e es Greater o h f rest = past p [] e es (insert_entry place_cmp es p) (insert_entry place_cmp (e ∷ es) p) o (λ x. rw o refl) (rest f)

pub cut_none : (p : Place) (es : List (Place × BTreeSet Rec)) → IsStrictlySortedBy place_cmp (keys_of es) → lookup (is_at (place_cmp p)) es ≡ None → Cut p [] es (insert_entry place_cmp es p)
cut_none p [] h f = record { front = []; back = []; whole = refl; with_set = λ s. refl; lower = λ r. tt; higher = λ r. tt }
cut_none p (e ∷ es) h f = none_by p e es (place_cmp p e.0) refl (sorted_head place_cmp e.0 (keys_of es) h) f (cut_none p es (sorted_tail place_cmp e.0 (keys_of es) h))

-- WITHIN ONE SET
module _ (v : ℕ) (t : Timestamp) where
  has_stamped : (r : Rec) (ks : List Rec) → has stamped_cmp (at v t r) (stamped v t ks) ≡ has rec_cmp r ks
  has_stamped r [] = refl
  has_stamped r (k ∷ ks) = rw (same_place v t r k, has_stamped r ks) refl

  insert_by : (r k : Rec) (ks : List Rec) (o : Ordering) → rec_cmp r k ≡ o → stamped_cmp (at v t r) (at v t k) ≡ o → bag_insert stamped_cmp (at v t r) (stamped v t ks) ≡ stamped v t (bag_insert rec_cmp r ks)
      → bag_insert stamped_cmp (at v t r) (stamped v t (k ∷ ks)) ≡ stamped v t (bag_insert rec_cmp r (k ∷ ks))
  insert_by r k ks Less e f rest = rw (f, e, bag_insert) refl
  insert_by r k ks Equal e f rest = rw (f, e, bag_insert) refl
  insert_by r k ks Greater e f rest = rw (f, e, bag_insert) (ap (λ l. at v t k ∷ l) rest)

  insert_stamped : (r : Rec) (ks : List Rec) → bag_insert stamped_cmp (at v t r) (stamped v t ks) ≡ stamped v t (bag_insert rec_cmp r ks)
  insert_stamped r [] = refl
  insert_stamped r (k ∷ ks) = insert_by r k ks (rec_cmp r k) refl (same_place v t r k) (insert_stamped r ks)

  module _ (front back : List Stamped) (lower : (r : Rec) → Lower stamped_cmp (at v t r) front) (higher : (r : Rec) → Higher stamped_cmp (at v t r) back) where
    abbrev around : List Rec → List Stamped
    around ks = front ++ (stamped v t ks ++ back)

    pub has_around : (r : Rec) (ks : List Rec) → has stamped_cmp (at v t r) (around ks) ≡ has rec_cmp r ks
    has_around r ks = has-lower stamped_cmp (at v t r) front (stamped v t ks ++ back) (lower r) ∙ (has-higher stamped_cmp (at v t r) (stamped v t ks) back (higher r) ∙ has_stamped r ks)

    insert_around : (r : Rec) (ks : List Rec) → bag_insert stamped_cmp (at v t r) (around ks) ≡ around (bag_insert rec_cmp r ks)
    insert_around r ks =
        insert-lower stamped_cmp (at v t r) front (stamped v t ks ++ back) (lower r)
        ∙ ap (λ l. front ++ l) (insert-higher stamped_cmp (at v t r) (stamped v t ks) back (higher r) ∙ ap (λ l. l ++ back) (insert_stamped r ks))

    pub fresh_around : (rs ks : List Rec) → fresh (around ks) v t rs ≡ fresh_recs ks rs
    fresh_around [] ks = refl
    fresh_around (r ∷ rs) ks =
        (λ i. elim (has_around r ks i) [ true ↦ fresh_around rs ks i | false ↦ r ∷ fresh (insert_around r ks i) v t rs ])
        ∙ by (has rec_cmp r ks) (fresh_around rs (bag_insert rec_cmp r ks))
      where
        by : (b : Bool) → fresh (around (bag_insert rec_cmp r ks)) v t rs ≡ fresh_recs (bag_insert rec_cmp r ks) rs
            → elim b [ true ↦ fresh_recs ks rs | false ↦ r ∷ fresh (around (bag_insert rec_cmp r ks)) v t rs ] ≡ cond b (fresh_recs ks rs) (r ∷ fresh_recs (bag_insert rec_cmp r ks) rs)
        by true e = refl
        by false e = ap (λ l. r ∷ l) e

    pub join_around : (xs ks : List Rec) → join stamped_cmp (stamped v t xs) (around ks) ≡ around (join rec_cmp xs ks)
    join_around [] ks = refl
    join_around (x ∷ xs) ks = ap (bag_insert stamped_cmp (at v t x)) (join_around xs ks) ∙ insert_around x (join rec_cmp xs ks)

-- WHAT IS SAID OF THE WHOLE LIST
module _ (p : Place) (ks : List Rec) (es : List (Place × BTreeSet Rec)) (put : BTreeSet Rec → List (Place × BTreeSet Rec)) (cut : Cut p ks es put) where
  pub has_seen : (r : Rec) → has stamped_cmp (at p.vertex p.time r) (seen_of es) ≡ has rec_cmp r ks
  has_seen r = ap (has stamped_cmp (at p.vertex p.time r)) cut.whole ∙ has_around p.vertex p.time cut.front cut.back cut.lower cut.higher r ks

  pub fresh_seen : (rs : List Rec) → fresh (seen_of es) p.vertex p.time rs ≡ fresh_recs ks rs
  fresh_seen rs = ap (λ l. fresh l p.vertex p.time rs) cut.whole ∙ fresh_around p.vertex p.time cut.front cut.back cut.lower cut.higher rs ks

  pub put_seen : (rs : List Rec) (s : BTreeSet Rec) → s.keys ≡ join rec_cmp (fresh_recs ks rs) ks → seen_of (put s) ≡ with_fresh (seen_of es) p.vertex p.time rs
  put_seen rs s e =
      cut.with_set s ∙ (ap (λ l. cut.front ++ (stamped p.vertex p.time l ++ cut.back)) e
      ∙ (sym (join_around p.vertex p.time cut.front cut.back cut.lower cut.higher (fresh_recs ks rs) ks)
      ∙ (ap (λ l. join stamped_cmp (stamped p.vertex p.time (fresh_recs ks rs)) l) (sym cut.whole)
      ∙ ap (λ l. join stamped_cmp (stamped p.vertex p.time l) (seen_of es)) (sym (fresh_seen rs)))))

  pub same_seen : (s : BTreeSet Rec) → s.keys ≡ ks → seen_of (put s) ≡ seen_of es
  same_seen s e = cut.with_set s ∙ (ap (λ l. cut.front ++ (stamped p.vertex p.time l ++ cut.back)) e ∙ sym cut.whole)

-- WHAT IS LET GO
filter_set : (epoch : ℕ) (v : ℕ) (t : Timestamp) (ks : List Rec) (b : Bool) → nat_lt epoch t.epoch ≡ b → filter (λ x. nat_lt epoch x.time.epoch) (stamped v t ks) ≡ cond b (stamped v t ks) []
filter_set epoch v t [] true e = refl
filter_set epoch v t [] false e = refl
filter_set epoch v t (k ∷ ks) true e = rw e (ap (λ l. at v t k ∷ l) (filter_set epoch v t ks true e))
filter_set epoch v t (k ∷ ks) false e = rw e (filter_set epoch v t ks false e)

-- the sets of later epochs have the records of later epochs
pub filter_seen : (epoch : ℕ) (es : List (Place × BTreeSet Rec)) → seen_of (filter (λ e. nat_lt epoch e.0.time.epoch) es) ≡ filter (λ x. nat_lt epoch x.time.epoch) (seen_of es)
filter_seen epoch [] = refl
filter_seen epoch (e ∷ es) =
    by (nat_lt epoch e.0.time.epoch) refl (filter_seen epoch es)
    ∙ sym (filter-append (λ x. nat_lt epoch x.time.epoch) (seen_at e) (seen_of es))
  where
    by : (b : Bool) → nat_lt epoch e.0.time.epoch ≡ b → seen_of (filter (λ e. nat_lt epoch e.0.time.epoch) es) ≡ filter (λ x. nat_lt epoch x.time.epoch) (seen_of es)
        → seen_of (cond b (e ∷ filter (λ e. nat_lt epoch e.0.time.epoch) es) (filter (λ e. nat_lt epoch e.0.time.epoch) es)) ≡ filter (λ x. nat_lt epoch x.time.epoch) (seen_at e) ++ filter (λ x. nat_lt epoch x.time.epoch) (seen_of es)
    by true f h = rw (filter_set epoch e.0.vertex e.0.time e.1.keys true f) (ap (λ l. seen_at e ++ l) h)
    by false f h = rw (filter_set epoch e.0.vertex e.0.time e.1.keys false f) h
