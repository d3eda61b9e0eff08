-- Keys with states, and their items beside them.
use Rattle.std.proofs.Common.{◌≡◌, ℕ, zero, suc, List, [], ◌∷◌, ◌++◌, length, map, set, refl, ap, sym, ◌∙◌, arith}
use Rattle.std.specs.Prelude.{slice_get, Option, Some, None}
use Rattle.td_stamp.specs.declared.values.Item.{Item}
use Rattle.td_stamp.specs.declared.values.State.{State}
use Rattle.td_machine.specs.State.{KeyItems}
use Rattle.td_task.specs.declared.keyed.Key.{Key}
use Rattle.td_task.specs.KeyLists.{with_items, with_state}
use Rattle.td_task.specs.Cuts.{with_last}
use Rattle.td_task.specs.Arriving.{into_last}

pub length-with_items : (keys : List Key) (items : List (List Item)) → length keys ≡ length items → length (with_items keys items) ≡ length keys
length-with_items [] items h = refl
length-with_items (k ∷ keys) [] h = absurd (omega arith)
length-with_items (k ∷ keys) (l ∷ items) h = ap suc (length-with_items keys items (omega arith))

pub with_items-add : (keys : List Key) (items : List (List Item)) (k : Key) (l : List Item) → length keys ≡ length items →
    with_items (keys ++ k ∷ []) (items ++ l ∷ []) ≡ with_items keys items ++ record { key = k.key; items = l; state = k.state } ∷ []
with_items-add [] [] k l h = refl
with_items-add [] (x ∷ items) k l h = absurd (omega arith)
with_items-add (x ∷ keys) [] k l h = absurd (omega arith)
with_items-add (x ∷ keys) (y ∷ items) k l h = ap (λ rest. record { key = x.key; items = y; state = x.state } ∷ rest) (with_items-add keys items k l (omega arith))

-- the key at a place with its items, where both are there
pub with_items-get : (keys : List Key) (items : List (List Item)) (i : ℕ) (k : Key) (l : List Item) →
    slice_get keys i ≡ Some k → slice_get items i ≡ Some l → slice_get (with_items keys items) i ≡ Some (record { key = k.key; items = l; state = k.state })
with_items-get [] items i k l e f = absurd (cc)
with_items-get (x ∷ keys) [] i k l e f = absurd (cc)
with_items-get (x ∷ keys) (y ∷ items) zero k l e f = let a : x ≡ k = cc in let b : y ≡ l = cc in cc
with_items-get (x ∷ keys) (y ∷ items) (suc i) k l e f = with_items-get keys items i k l e f

pub with_items-no_key : (keys : List Key) (items : List (List Item)) (i : ℕ) → slice_get keys i ≡ None → slice_get (with_items keys items) i ≡ None
with_items-no_key [] items i e = refl
with_items-no_key (x ∷ keys) [] i e = refl
with_items-no_key (x ∷ keys) (y ∷ items) zero e = absurd (cc)
with_items-no_key (x ∷ keys) (y ∷ items) (suc i) e = with_items-no_key keys items i e

pub with_items-no_items : (keys : List Key) (items : List (List Item)) (i : ℕ) → slice_get items i ≡ None → slice_get (with_items keys items) i ≡ None
with_items-no_items [] items i e = refl
with_items-no_items (x ∷ keys) [] i e = refl
with_items-no_items (x ∷ keys) (y ∷ items) zero e = absurd (cc)
with_items-no_items (x ∷ keys) (y ∷ items) (suc i) e = with_items-no_items keys items i e

-- another state for the key at a place
pub with_items-set : (keys : List Key) (items : List (List Item)) (i : ℕ) (q : Key) (k : KeyItems) (state : Option State) → slice_get keys i ≡ Some q → slice_get (with_items keys items) i ≡ Some k →
    with_items (set keys i (record { key = q.key; state = state })) items ≡ set (with_items keys items) i (with_state k state)
with_items-set [] items i q k state e f = absurd (cc)
with_items-set (x ∷ keys) [] i q k state e f = absurd (cc)
with_items-set (x ∷ keys) (y ∷ items) zero q k state e f =
    let a : x ≡ q = cc in
    let b : record { key = x.key; items = y; state = x.state } ≡ k = cc in
    ap (λ (z : Key). record { key = z.key; items = y; state = state } ∷ with_items keys items) (sym a)
    ∙ ap (λ (z : KeyItems). with_state z state ∷ with_items keys items) b
with_items-set (x ∷ keys) (y ∷ items) (suc i) q k state e f = ap (λ rest. record { key = x.key; items = y; state = x.state } ∷ rest) (with_items-set keys items i q k state e f)

-- one more item of the last key
pub with_items-last : (keys : List Key) (items : List (List Item)) (i : Item) → length keys ≡ length items → with_items keys (with_last items i) ≡ into_last (with_items keys items) i
with_items-last [] [] i h = refl
with_items-last [] (l ∷ items) i h = absurd (omega (arith, h))
with_items-last (k ∷ keys) [] i h = absurd (omega (arith, h))
with_items-last (k ∷ []) (l ∷ []) i h = refl
with_items-last (k ∷ []) (l ∷ m ∷ items) i h = absurd (omega (arith, h))
with_items-last (k ∷ n ∷ keys) (l ∷ []) i h = absurd (omega (arith, h))
with_items-last (k ∷ n ∷ keys) (l ∷ m ∷ items) i h = ap (λ rest. record { key = k.key; items = l; state = k.state } ∷ rest) (with_items-last (n ∷ keys) (m ∷ items) i (omega (arith, h)))

-- the keys and the items are told by what they make
abbrev key_with : KeyItems → Key
key_with g = record { key = g.key; state = g.state }

keys_back : (keys : List Key) (items : List (List Item)) → length keys ≡ length items → map key_with (with_items keys items) ≡ keys
keys_back [] items h = refl
keys_back (k ∷ keys) [] h = absurd (omega arith)
keys_back (k ∷ keys) (l ∷ items) h = ap (λ rest. k ∷ rest) (keys_back keys items (omega arith))

items_back : (keys : List Key) (items : List (List Item)) → length keys ≡ length items → map (λ g. g.items) (with_items keys items) ≡ items
items_back [] [] h = refl
items_back [] (l ∷ items) h = absurd (omega arith)
items_back (k ∷ keys) [] h = absurd (omega arith)
items_back (k ∷ keys) (l ∷ items) h = ap (λ rest. l ∷ rest) (items_back keys items (omega arith))

pub same_keys : (keys others : List Key) (items more : List (List Item)) → length keys ≡ length items → length others ≡ length more →
    with_items keys items ≡ with_items others more → keys ≡ others
same_keys keys others items more h k e = sym (keys_back keys items h) ∙ ap (map key_with) e ∙ keys_back others more k

pub same_items : (keys others : List Key) (items more : List (List Item)) → length keys ≡ length items → length others ≡ length more →
    with_items keys items ≡ with_items others more → items ≡ more
same_items keys others items more h k e = sym (items_back keys items h) ∙ ap (map (λ g. g.items)) e ∙ items_back others more k
