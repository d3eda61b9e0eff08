-- Records that come to wait in a shard: what waits then, and what is asked for.
use Rattle.std.proofs.Common.{◌≡◌, Bool, true, false, cond, List, [], ◌∷◌, ◌++◌, map, flat_map, Option, Some, None, is_some, refl, ap, sym, ◌∙◌, true≢false}
use Rattle.std.specs.declared.cmp.Ordering.{Ordering}
use Rattle.std.specs.declared.cmp.Ordering.TheVariants.{Less, Equal, Greater}
use Rattle.std.specs.Map.{lookup, set_value}
use Rattle.std.specs.BTreeMap.{is_at, insert_entry}
use Rattle.std.specs.Ordering.{nat_cmp, is_eq, match_ordering}
use Rattle.std.specs.FinMap.{IsAntisymmetric, nat_cmp-IsAntisymmetric}
use Rattle.std.proofs.lemmas.List.{map-append}
use Rattle.td_stamp.specs.declared.values.Arrival.{Arrival}
use Rattle.td_stamp.specs.ProvedOrders.{both_tie}
use Rattle.td_stamp.specs.Bag.{bag_insert, bag_of, join}
use Rattle.td_stamp.specs.Orders.{arrival_cmp}
use Rattle.td_stamp.specs.BagLaws.{BagLaws}
use Rattle.td_stamp.specs.Time.{time_cmp}
use Rattle.td_machine.specs.declared.records.Message.{Message}
use Rattle.td_machine.specs.State.{message_cmp}
use Rattle.td_machine.specs.Steps.{waiting}
use Rattle.td_shard.specs.declared.waiting.Noted.{Noted}
use Rattle.td_shard.specs.Asked.{AskedList, noted_cmp, with_items, with_items_by}
use Rattle.td_core.specs.Parts.{waiting_at}

pub none_is_some : {X : Type 0} {x : X} → None ≡ Some x → ⊥
none_is_some {X} {x} e = let no : false ≡ true = ap is_some e in true≢false (sym no)

-- only equal notifications tie
module _ (apart : IsAntisymmetric time_cmp) where
  pub noted_apart : (m n : Noted) → noted_cmp m n ≡ Equal → m ≡ n
  noted_apart m n e =
      let tied = both_tie (time_cmp m.time n.time) (nat_cmp m.vertex n.vertex) e in
      λ i. record { time = apart m.time n.time tied.0 i; vertex = nat_cmp-IsAntisymmetric m.vertex n.vertex tied.1 i }

  ties : (m n : Noted) → is_at (noted_cmp m) n ≡ true → m ≡ n
  ties m n e = noted_apart m n (by (noted_cmp m n) e)
    where
      by : (o : Ordering) → is_eq o ≡ true → o ≡ Equal
      by Less e = absurd (cc)
      by Equal e = refl
      by Greater e = absurd (cc)

-- WHAT WAITS
abbrev pub waiting_all : AskedList → List Message
waiting_all es = flat_map waiting_at es

-- some items, as messages
abbrev pub as_messages : Noted → List Arrival → List Message
as_messages n items = map (waiting n.vertex n.time) items

module _ (apart : IsAntisymmetric time_cmp) (laws : BagLaws message_cmp) (n : Noted) (more : List Arrival) where
  -- an item that is put in its place
  one_more : (m : Noted) (a : Arrival) (items : List Arrival) (rest : List Message)
      → join message_cmp (as_messages m (bag_insert arrival_cmp a items)) rest ≡ join message_cmp (as_messages m (a ∷ items)) rest
  one_more m a [] rest = refl
  one_more m a (b ∷ items) rest = by (arrival_cmp a b) (one_more m a items rest)
    where
      by : (o : Ordering) → join message_cmp (as_messages m (bag_insert arrival_cmp a items)) rest ≡ join message_cmp (as_messages m (a ∷ items)) rest
          → join message_cmp (as_messages m (elim o [ Greater ↦ b ∷ bag_insert arrival_cmp a items | _ ↦ a ∷ b ∷ items ])) rest ≡ join message_cmp (as_messages m (a ∷ b ∷ items)) rest
      by Less later = refl
      by Equal later = refl
      by Greater later =
          ap (join message_cmp (as_messages m (b ∷ []))) later ∙ laws.swaps (as_messages m (b ∷ [])) (as_messages m (a ∷ [])) (join message_cmp (as_messages m items) rest)

  -- the bag of some items
  in_bag : (m : Noted) (items : List Arrival) (rest : List Message)
      → join message_cmp (as_messages m (bag_of arrival_cmp items)) rest ≡ join message_cmp (as_messages m items) rest
  in_bag m [] rest = refl
  in_bag m (a ∷ items) rest =
      one_more m a (bag_of arrival_cmp items) rest ∙ ap (join message_cmp (as_messages m (a ∷ []))) (in_bag m items rest)

  -- two parts of an entry
  two_parts : (m : Noted) (items : List Arrival) (es : AskedList) (rest : List Message)
      → join message_cmp (as_messages m (bag_of arrival_cmp (items ++ more)) ++ waiting_all es) rest ≡ join message_cmp (as_messages m more) (join message_cmp (as_messages m items ++ waiting_all es) rest)
  two_parts m items es rest =
      laws.append (as_messages m (bag_of arrival_cmp (items ++ more))) (waiting_all es) rest
      ∙ (in_bag m (items ++ more) (join message_cmp (waiting_all es) rest)
      ∙ (ap (λ l. join message_cmp l (join message_cmp (waiting_all es) rest)) (map-append (waiting m.vertex m.time) items more)
      ∙ (laws.append (as_messages m items) (as_messages m more) (join message_cmp (waiting_all es) rest)
      ∙ (laws.swaps (as_messages m items) (as_messages m more) (join message_cmp (waiting_all es) rest)
      ∙ ap (join message_cmp (as_messages m more)) (sym (laws.append (as_messages m items) (waiting_all es) rest))))))

  -- or in a later entry
  later_part : (first : List Message) (es fs : AskedList) (rest : List Message)
      → join message_cmp (waiting_all fs) rest ≡ join message_cmp (as_messages n more) (join message_cmp (waiting_all es) rest)
      → join message_cmp (first ++ waiting_all fs) rest ≡ join message_cmp (as_messages n more) (join message_cmp (first ++ waiting_all es) rest)
  later_part first es fs rest e =
      laws.append first (waiting_all fs) rest
      ∙ (ap (join message_cmp first) e
      ∙ (laws.swaps first (as_messages n more) (join message_cmp (waiting_all es) rest)
      ∙ ap (join message_cmp (as_messages n more)) (sym (laws.append first (waiting_all es) rest))))

  grown : (es : AskedList) (items : List Arrival) (rest : List Message) → lookup (is_at (noted_cmp n)) es ≡ Some items
      → join message_cmp (waiting_all (set_value (is_at (noted_cmp n)) es (bag_of arrival_cmp (items ++ more)))) rest ≡ join message_cmp (as_messages n more) (join message_cmp (waiting_all es) rest)
  grown [] items rest found = absurd (none_is_some found)
  grown (e ∷ es) items rest found = by (is_at (noted_cmp n) e.0) refl found (λ later. grown es items rest later)
    where
      by : (b : Bool) → is_at (noted_cmp n) e.0 ≡ b → cond b (Some e.1) (lookup (is_at (noted_cmp n)) es) ≡ Some items
          → (lookup (is_at (noted_cmp n)) es ≡ Some items
          → join message_cmp (waiting_all (set_value (is_at (noted_cmp n)) es (bag_of arrival_cmp (items ++ more)))) rest ≡ join message_cmp (as_messages n more) (join message_cmp (waiting_all es) rest))
          → join message_cmp (waiting_all (cond b ((e.0, bag_of arrival_cmp (items ++ more)) ∷ es) (e ∷ set_value (is_at (noted_cmp n)) es (bag_of arrival_cmp (items ++ more))))) rest
          ≡ join message_cmp (as_messages n more) (join message_cmp (waiting_all (e ∷ es)) rest)
      by true same found later =
          let key : e.0 ≡ n = sym (ties apart n e.0 same) in
          let vals : items ≡ e.1 = ap (or items) (sym found) in
          two_parts e.0 items es rest ∙ (λ i. join message_cmp (as_messages (key i) more) (join message_cmp (as_messages e.0 (vals i) ++ waiting_all es) rest))
        where
          or : List Arrival → Option (List Arrival) → List Arrival
          or z None = z
          or z (Some v) = v
      by false other found later = later_part (as_messages e.0 e.1) es (set_value (is_at (noted_cmp n)) es (bag_of arrival_cmp (items ++ more))) rest (later found)

  put_in : (es : AskedList) (rest : List Message) → lookup (is_at (noted_cmp n)) es ≡ None
      → join message_cmp (waiting_all (insert_entry noted_cmp es n (bag_of arrival_cmp more))) rest ≡ join message_cmp (as_messages n more) (join message_cmp (waiting_all es) rest)
  put_in [] rest none = laws.append (as_messages n (bag_of arrival_cmp more)) [] rest ∙ in_bag n more rest
  put_in (e ∷ es) rest none = by (noted_cmp n e.0) refl none (λ later. put_in es rest later)
    where
      by : (o : Ordering) → noted_cmp n e.0 ≡ o → cond (is_eq o) (Some e.1) (lookup (is_at (noted_cmp n)) es) ≡ None
          → (lookup (is_at (noted_cmp n)) es ≡ None
          → join message_cmp (waiting_all (insert_entry noted_cmp es n (bag_of arrival_cmp more))) rest ≡ join message_cmp (as_messages n more) (join message_cmp (waiting_all es) rest))
          → join message_cmp (waiting_all (match_ordering o ((n, bag_of arrival_cmp more) ∷ e ∷ es) ((e.0, bag_of arrival_cmp more) ∷ es) (e ∷ insert_entry noted_cmp es n (bag_of arrival_cmp more)))) rest
          ≡ join message_cmp (as_messages n more) (join message_cmp (waiting_all (e ∷ es)) rest)
      by Less is none later = laws.append (as_messages n (bag_of arrival_cmp more)) (waiting_all (e ∷ es)) rest ∙ in_bag n more (join message_cmp (waiting_all (e ∷ es)) rest)
      by Equal is none later = absurd (none_is_some (sym none))
      by Greater is none later = later_part (as_messages e.0 e.1) es (insert_entry noted_cmp es n (bag_of arrival_cmp more)) rest (later none)

  -- MORE ITEMS of one shard
  pub more_wait : (es : AskedList) (rest : List Message)
      → join message_cmp (waiting_all (with_items es n.vertex n.time more)) rest ≡ join message_cmp (as_messages n more) (join message_cmp (waiting_all es) rest)
  more_wait es rest = by (lookup (is_at (noted_cmp n)) es) refl
    where
      by : (o : Option (List Arrival)) → lookup (is_at (noted_cmp n)) es ≡ o
          → join message_cmp (waiting_all (with_items_by o es n more)) rest ≡ join message_cmp (as_messages n more) (join message_cmp (waiting_all es) rest)
      by (Some items) found = grown es items rest found
      by None none = put_in es rest none
