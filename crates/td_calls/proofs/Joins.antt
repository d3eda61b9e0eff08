-- Lists put into a bag one after the other.
use Rattle.std.proofs.Common.{◌≡◌, List, [], ◌∷◌, ◌++◌, refl, ap}
use Rattle.std.specs.declared.cmp.Ordering.{Ordering}
use Rattle.td_stamp.specs.Bag.{bag_insert, join}

pub join-append : {X : Type 0} (cmp : X → X → Ordering) (xs ys zs : List X) → join cmp (xs ++ ys) zs ≡ join cmp xs (join cmp ys zs)
join-append cmp [] ys zs = refl
join-append cmp (x ∷ xs) ys zs = ap (bag_insert cmp x) (join-append cmp xs ys zs)
