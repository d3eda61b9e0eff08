-- What the groups of some keys give, and those of the others, is what all groups give.
use Rattle.std.proofs.Common.{◌≡◌, ℕ, ◌==◌, List, [], ◌∷◌, ◌++◌, map, flat_map, filter, not, refl, ap, sym, ◌∙◌, Bool, true, false, ◌||◌, if◌then◌else◌}
use Rattle.std.specs.List.{AllByRecursion}
use Rattle.std.proofs.lemmas.List.Folds.{flat_map-map}
use Rattle.std.proofs.lemmas.Bool.{eqb-true}
use Rattle.std.specs.declared.cmp.Ordering.{Ordering}
use Rattle.std.specs.declared.cmp.Ordering.TheVariants.{Less, Equal, Greater}
use Rattle.std.specs.Ordering.{is_eq, nat_cmp}
use Rattle.std.specs.FinMap.{nat_cmp-IsAntisymmetric}
use Rattle.std.proofs.lemmas.List.{append_assoc}
use Rattle.td_stamp.specs.declared.values.Item.{Item}
use Rattle.td_stamp.specs.declared.values.Arrival.{Arrival}
use Rattle.td_stamp.specs.Orders.{item_cmp}
use Rattle.td_stamp.specs.Bag.{bag_insert, set_insert, set_of, set_has, join, bag_of, has}
use Rattle.td_stamp.specs.BagLaws.{BagLaws}
use Rattle.td_stamp.specs.Groups.{groups, items_of}
use Rattle.td_machine.specs.declared.records.Message.{Message}
use Rattle.td_machine.specs.State.{message_cmp, arrival}
use Rattle.td_machine.proofs.Lists.{filter_yes, filter_no, filter_map, all_weaken, all_filter, all_everywhere}
use Rattle.td_machine.proofs.Bags.{join-swap, join-assoc, bag_of-append, set_insert_past, set_insert_less, set_insert_equal, set_has_less, set_has_equal, set_has_past, set_has-set_of, all_set_of}
use Rattle.td_machine.specs.Below.{Below}

module _ (below : Below) where
  has_filter : (p : ℕ → Bool) (x : ℕ) (xs : List ℕ) → p x ≡ true → has nat_cmp x (filter p xs) ≡ has nat_cmp x xs
  has_filter p x [] e = refl
  has_filter p x (y ∷ xs) e = by (p y) refl (nat_cmp x y) refl (has_filter p x xs e)
    where
      by : (b : Bool) → p y ≡ b → (s : Ordering) → nat_cmp x y ≡ s → has nat_cmp x (filter p xs) ≡ has nat_cmp x xs → has nat_cmp x (filter p (y ∷ xs)) ≡ has nat_cmp x (y ∷ xs)
      by true f s g rest = ap (has nat_cmp x) (filter_yes p y xs f) ∙ ap (λ b. is_eq (nat_cmp x y) || b) rest
      by false f Less g rest = ap (has nat_cmp x) (filter_no p y xs f) ∙ rest ∙ sym (ap (λ o. is_eq o || has nat_cmp x xs) g)
      by false f Greater g rest = ap (has nat_cmp x) (filter_no p y xs f) ∙ rest ∙ sym (ap (λ o. is_eq o || has nat_cmp x xs) g)
      by false f Equal g rest = let same : true ≡ false = sym e ∙ ap p (nat_cmp-IsAntisymmetric x y g) ∙ f in cc

  -- all keys of a filtered list pass, also in the set of it
  all_passed : (p : ℕ → Bool) (xs : List ℕ) → AllByRecursion (λ x. p x ≡ true) (set_of nat_cmp (filter p xs))
  all_passed p xs = all_set_of nat_cmp (λ x. p x ≡ true) (filter p xs) (all_weaken (λ x. Unit {0} × (p x ≡ true)) (λ x. p x ≡ true) (λ x h. h.1) (filter p xs) (all_filter (λ x. Unit {0}) p xs (all_everywhere (λ x. Unit {0}) (λ x. tt) xs)))

  -- the items of a key are those of the arrivals with such keys
  items_filter : (p : ℕ → Bool) (key : ℕ) (arrived : List Arrival) → p key ≡ true → filter (λ a. a.key == key) (filter (λ a. p a.key) arrived) ≡ filter (λ a. a.key == key) arrived
  items_filter p key [] e = refl
  items_filter p key (a ∷ arrived) e = by (p a.key) refl (a.key == key) refl (items_filter p key arrived e)
    where
      by : (b : Bool) → p a.key ≡ b → (c : Bool) → (a.key == key) ≡ c → filter (λ a. a.key == key) (filter (λ a. p a.key) arrived) ≡ filter (λ a. a.key == key) arrived
          → filter (λ a. a.key == key) (filter (λ a. p a.key) (a ∷ arrived)) ≡ filter (λ a. a.key == key) (a ∷ arrived)
      by true f true g rest =
          ap (filter (λ a. a.key == key)) (filter_yes (λ a. p a.key) a arrived f) ∙ filter_yes (λ a. a.key == key) a (filter (λ a. p a.key) arrived) g ∙ ap (λ l. a ∷ l) rest ∙ sym (filter_yes (λ a. a.key == key) a arrived g)
      by true f false g rest = ap (filter (λ a. a.key == key)) (filter_yes (λ a. p a.key) a arrived f) ∙ filter_no (λ a. a.key == key) a (filter (λ a. p a.key) arrived) g ∙ rest ∙ sym (filter_no (λ a. a.key == key) a arrived g)
      by false f true g rest = let no : true ≡ false = sym e ∙ ap p (sym (eqb-true a.key key g)) ∙ f in cc
      by false f false g rest = ap (filter (λ a. a.key == key)) (filter_no (λ a. p a.key) a arrived f) ∙ rest ∙ sym (filter_no (λ a. a.key == key) a arrived g)

  module _ {Y : Type 0} (cmp : Y → Y → Ordering) (bags : BagLaws cmp) where
    -- what is given for the keys of a list, each once
    abbrev all_given : (ℕ → List Y) → List ℕ → List Y
    all_given h keys = bag_of cmp (flat_map h keys)

    abbrev once_given : (ℕ → List Y) → List ℕ → List Y
    once_given h xs = all_given h (set_of nat_cmp xs)

    cons_given : (h : ℕ → List Y) (x : ℕ) (xs : List ℕ) → all_given h (x ∷ xs) ≡ join cmp (h x) (all_given h xs)
    cons_given h x xs = bag_of-append cmp bags (h x) (flat_map h xs)

    given_once : (h : ℕ → List Y) (x : ℕ) (ys : List ℕ) (b : Bool) → set_has nat_cmp x ys ≡ b → all_given h (set_insert nat_cmp x ys) ≡ (if b then all_given h ys else join cmp (h x) (all_given h ys))
    given_once h x [] true e = cc
    given_once h x [] false e = cons_given h x []
    given_once h x (y ∷ ys) b e = by (nat_cmp x y) refl b e (given_once h x ys)
      where
        past : nat_cmp x y ≡ Greater → set_insert nat_cmp x (y ∷ ys) ≡ y ∷ set_insert nat_cmp x ys
        past f = set_insert_past nat_cmp x y ys f

        has_past : nat_cmp x y ≡ Greater → set_has nat_cmp x (y ∷ ys) ≡ set_has nat_cmp x ys
        has_past f = set_has_past nat_cmp x y ys f

        by : (s : Ordering) → nat_cmp x y ≡ s → (b : Bool) → set_has nat_cmp x (y ∷ ys) ≡ b → ((b : Bool) → set_has nat_cmp x ys ≡ b → all_given h (set_insert nat_cmp x ys) ≡ (if b then all_given h ys else join cmp (h x) (all_given h ys)))
            → all_given h (set_insert nat_cmp x (y ∷ ys)) ≡ (if b then all_given h (y ∷ ys) else join cmp (h x) (all_given h (y ∷ ys)))
        by Less f true e rest = let no : true ≡ false = sym e ∙ set_has_less nat_cmp x y ys f in cc
        by Less f false e rest = ap (all_given h) (set_insert_less nat_cmp x y ys f) ∙ cons_given h x (y ∷ ys)
        by Equal f true e rest = ap (all_given h) (set_insert_equal nat_cmp x y ys f)
        by Equal f false e rest = let no : false ≡ true = sym e ∙ set_has_equal nat_cmp x y ys f in cc
        by Greater f true e rest = ap (all_given h) (past f) ∙ cons_given h y (set_insert nat_cmp x ys) ∙ ap (join cmp (h y)) (rest true (sym (has_past f) ∙ e)) ∙ sym (cons_given h y ys)
        by Greater f false e rest =
            ap (all_given h) (past f) ∙ cons_given h y (set_insert nat_cmp x ys) ∙ ap (join cmp (h y)) (rest false (sym (has_past f) ∙ e))
            ∙ join-swap cmp bags (h y) (h x) (all_given h ys) ∙ ap (join cmp (h x)) (sym (cons_given h y ys))

    -- keys of two kinds
    keys_split : (h : ℕ → List Y) (p q : ℕ → Bool) (other : (x : ℕ) → q x ≡ not (p x)) (xs : List ℕ) → once_given h xs ≡ join cmp (once_given h (filter p xs)) (once_given h (filter q xs))
    keys_split h p q other [] = refl
    keys_split h p q other (x ∷ xs) = by (p x) refl (has nat_cmp x xs) refl (keys_split h p q other xs)
      where
        more : (ys : List ℕ) (b : Bool) → has nat_cmp x ys ≡ b → once_given h (x ∷ ys) ≡ (if b then once_given h ys else join cmp (h x) (once_given h ys))
        more ys b e = given_once h x (set_of nat_cmp ys) b (set_has-set_of nat_cmp below.number_sets x ys ∙ e)

        by : (b : Bool) → p x ≡ b → (c : Bool) → has nat_cmp x xs ≡ c → once_given h xs ≡ join cmp (once_given h (filter p xs)) (once_given h (filter q xs))
            → once_given h (x ∷ xs) ≡ join cmp (once_given h (filter p (x ∷ xs))) (once_given h (filter q (x ∷ xs)))
        by true f true g rest =
            more xs true g ∙ rest ∙ sym (λ i. join cmp ((ap (once_given h) (filter_yes p x xs f) ∙ more (filter p xs) true (has_filter p x xs f ∙ g)) i) (once_given h (filter_no q x xs (other x ∙ ap not f) i)))
        by true f false g rest =
            more xs false g ∙ ap (join cmp (h x)) rest ∙ sym (join-assoc cmp bags (h x) (once_given h (filter p xs)) (once_given h (filter q xs)))
            ∙ sym (λ i. join cmp ((ap (once_given h) (filter_yes p x xs f) ∙ more (filter p xs) false (has_filter p x xs f ∙ g)) i) (once_given h (filter_no q x xs (other x ∙ ap not f) i)))
        by false f true g rest =
            let mine : q x ≡ true = other x ∙ ap not f in
            more xs true g ∙ rest ∙ sym (λ i. join cmp (once_given h (filter_no p x xs f i)) ((ap (once_given h) (filter_yes q x xs mine) ∙ more (filter q xs) true (has_filter q x xs mine ∙ g)) i))
        by false f false g rest =
            let mine : q x ≡ true = other x ∙ ap not f in
            more xs false g ∙ ap (join cmp (h x)) rest ∙ join-swap cmp bags (h x) (once_given h (filter p xs)) (once_given h (filter q xs))
            ∙ sym (λ i. join cmp (once_given h (filter_no p x xs f i)) ((ap (once_given h) (filter_yes q x xs mine) ∙ more (filter q xs) false (has_filter q x xs mine ∙ g)) i))

    given_alike : (g h : ℕ → List Y) (keys : List ℕ) (Q : ℕ → Type 0) → ((k : ℕ) → Q k → g k ≡ h k) → AllByRecursion Q keys → flat_map g keys ≡ flat_map h keys
    given_alike g h [] Q e a = refl
    given_alike g h (k ∷ keys) Q e a = λ i. e k a.0 i ++ given_alike g h keys Q e a.1 i

    module _ (f : ℕ × List Item → List Y) where
      by_key : (arrived : List Arrival) → bag_of cmp (flat_map f (groups arrived)) ≡ once_given (λ key. f (key, items_of key arrived)) (map (λ a. a.key) arrived)
      by_key arrived = ap (bag_of cmp) (flat_map-map f (λ key. (key, items_of key arrived)) (set_of nat_cmp (map (λ a. a.key) arrived)))

      by_key_filtered : (p : ℕ → Bool) (arrived : List Arrival)
          → bag_of cmp (flat_map f (groups (filter (λ a. p a.key) arrived))) ≡ once_given (λ key. f (key, items_of key arrived)) (filter p (map (λ a. a.key) arrived))
      by_key_filtered p arrived =
          by_key (filter (λ a. p a.key) arrived)
          ∙ ap (once_given (λ key. f (key, items_of key (filter (λ a. p a.key) arrived)))) (sym (filter_map p (λ (a : Arrival). a.key) arrived))
          ∙ ap (bag_of cmp) (given_alike (λ key. f (key, items_of key (filter (λ a. p a.key) arrived))) (λ key. f (key, items_of key arrived)) (set_of nat_cmp (filter p (map (λ a. a.key) arrived))) (λ k. p k ≡ true)
          (λ k e. ap (λ l. f (k, bag_of item_cmp (map (λ (a : Arrival). a.item) l))) (items_filter p k arrived e)) (all_passed p (map (λ a. a.key) arrived)))

      -- the keys that pass a test, and the others
      pub groups_split : (p q : ℕ → Bool) → ((x : ℕ) → q x ≡ not (p x)) → (arrived : List Arrival)
          → bag_of cmp (flat_map f (groups arrived)) ≡ join cmp (bag_of cmp (flat_map f (groups (filter (λ a. p a.key) arrived)))) (bag_of cmp (flat_map f (groups (filter (λ a. q a.key) arrived))))
      groups_split p q other arrived =
          by_key arrived ∙ keys_split (λ key. f (key, items_of key arrived)) p q other (map (λ a. a.key) arrived)
          ∙ sym (λ i. join cmp (by_key_filtered p arrived i) (by_key_filtered q arrived i))

  -- the groups of what came do not depend on the order in which it is kept
  groups_put : (before : List Arrival) (c : Message) (zs : List Message) → groups (before ++ map arrival (bag_insert message_cmp c zs)) ≡ groups (before ++ arrival c ∷ map arrival zs)
  groups_put before c [] = refl
  groups_put before c (y ∷ ys) = by (message_cmp c y) (groups_put (before ++ arrival y ∷ []) c ys)
    where
      by : (s : Ordering) → groups ((before ++ arrival y ∷ []) ++ map arrival (bag_insert message_cmp c ys)) ≡ groups ((before ++ arrival y ∷ []) ++ arrival c ∷ map arrival ys)
          → groups (before ++ map arrival (elim s [ Greater ↦ y ∷ bag_insert message_cmp c ys | _ ↦ c ∷ y ∷ ys ])) ≡ groups (before ++ arrival c ∷ arrival y ∷ map arrival ys)
      by Less h = refl
      by Equal h = refl
      by Greater h =
          ap groups (sym (append_assoc before (arrival y ∷ []) (map arrival (bag_insert message_cmp c ys)))) ∙ h ∙ below.groups_middle (before ++ arrival y ∷ []) (arrival c) (map arrival ys)
          ∙ ap (λ l. groups (arrival c ∷ l)) (append_assoc before (arrival y ∷ []) (map arrival ys)) ∙ sym (below.groups_middle before (arrival c) (arrival y ∷ map arrival ys))

  groups_bag : (before : List Arrival) (cs : List Message) → groups (before ++ map arrival (bag_of message_cmp cs)) ≡ groups (before ++ map arrival cs)
  groups_bag before [] = refl
  groups_bag before (c ∷ cs) =
      groups_put before c (bag_of message_cmp cs) ∙ ap groups (sym (append_assoc before (arrival c ∷ []) (map arrival (bag_of message_cmp cs)))) ∙ groups_bag (before ++ arrival c ∷ []) cs
      ∙ ap groups (append_assoc before (arrival c ∷ []) (map arrival cs))

  pub groups_of_came : (cs : List Message) → groups (map arrival (bag_of message_cmp cs)) ≡ groups (map arrival cs)
  groups_of_came cs = groups_bag [] cs
