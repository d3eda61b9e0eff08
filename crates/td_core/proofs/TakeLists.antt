-- Lists in which what stands at a place is changed, and bags of all members of lists.
use Rattle.std.proofs.Common.{◌≡◌, ℕ, zero, suc, ◌+◌, ◌<◌, ◌≤◌, List, [], ◌∷◌, ◌++◌, map, flat_map, length, get_or, set, slice_get, Some, refl, ap, sym, ◌∙◌, subst, arith}
use Rattle.std.specs.declared.cmp.Ordering.{Ordering}
use Rattle.std.specs.declared.cmp.Ordering.TheVariants.{Less, Equal, Greater}
use Rattle.std.specs.List.{AllByRecursion, enumerate_from}
use Rattle.td_stamp.specs.Bag.{bag_insert, bag_of, join}
use Rattle.td_stamp.specs.BagLaws.{BagLaws}
use Rattle.td_machine.specs.declared.records.Message.{Message}
use Rattle.td_machine.specs.State.{message_cmp, shard_of_key}
use Rattle.td_machine.specs.Steps.{coming}
use Rattle.td_shard.specs.declared.shard.Shard.{Shard}
use Rattle.td_shard.specs.Messages.{IsBeside}
use Rattle.td_core.specs.Parts.{in_mailboxes}
use Rattle.td_core.specs.Posted.{mails}
use Rattle.td_core.specs.Taking.{changed_at}
use Rattle.td_core.proofs.ShardParts.{IsMail}

-- a message of a shard
abbrev pub IsKeyOf : ℕ → ℕ → Message → Type 0
IsKeyOf workers s c = shard_of_key workers c.rec.key ≡ s

-- what is looked at stays as it was
pub map_same : {X Y : Type 0} (f : X → Y) (xs : List X) (i : ℕ) (x d : X) → i < length xs → f x ≡ f (get_or xs i d) → map f (set xs i x) ≡ map f xs
map_same f [] i x d h e = absurd (omega (arith, h))
map_same f (y ∷ ys) zero x d h e = ap (λ z. z ∷ map f ys) e
map_same f (y ∷ ys) (suc i) x d h e = ap (λ l. f y ∷ l) (map_same f ys i x d (omega (arith, h)) e)

-- or is changed there
pub map_changed : {X Y : Type 0} (f : X → Y) (g : Y → Y) (xs : List X) (i : ℕ) (x d : X) → i < length xs → f x ≡ g (f (get_or xs i d)) → map f (set xs i x) ≡ changed_at g i (map f xs)
map_changed f g [] i x d h e = absurd (omega (arith, h))
map_changed f g (y ∷ ys) zero x d h e = ap (λ z. z ∷ map f ys) e
map_changed f g (y ∷ ys) (suc i) x d h e = ap (λ l. f y ∷ l) (map_changed f g ys i x d (omega (arith, h)) e)

pub unchanged : {X : Type 0} (g : X → X) → ((x : X) → g x ≡ x) → (i : ℕ) (xs : List X) → changed_at g i xs ≡ xs
unchanged g same i [] = refl
unchanged g same zero (x ∷ xs) = ap (λ y. y ∷ xs) (same x)
unchanged g same (suc i) (x ∷ xs) = ap (λ l. x ∷ l) (unchanged g same i xs)

pub get_map : {X Y : Type 0} (f : X → Y) (xs : List X) (i : ℕ) (d : X) (e : Y) → i < length xs → get_or (map f xs) i e ≡ f (get_or xs i d)
get_map f [] i d e h = absurd (omega (arith, h))
get_map f (x ∷ xs) zero d e h = refl
get_map f (x ∷ xs) (suc i) d e h = get_map f xs i d e (omega (arith, h))

-- the first so many are changed
abbrev pub first_mapped : {X : Type 0} → (X → X) → ℕ → List X → List X
first_mapped f zero xs = xs
first_mapped f (suc i) [] = []
first_mapped f (suc i) (x ∷ xs) = f x ∷ first_mapped f i xs

pub length-first_mapped : {X : Type 0} (f : X → X) (i : ℕ) (xs : List X) → length (first_mapped f i xs) ≡ length xs
length-first_mapped f zero xs = refl
length-first_mapped f (suc i) [] = refl
length-first_mapped f (suc i) (x ∷ xs) = ap suc (length-first_mapped f i xs)

some_is : {X : Type 0} (x y : X) → Some x ≡ Some y → x ≡ y
some_is x y e = cc

-- and one more
pub next_mapped : {X : Type 0} (f : X → X) (i : ℕ) (xs : List X) (x : X) → slice_get (first_mapped f i xs) i ≡ Some x → set (first_mapped f i xs) i (f x) ≡ first_mapped f (suc i) xs
next_mapped f zero [] x e = absurd (cc)
next_mapped f zero (y ∷ ys) x e = ap (λ z. f z ∷ ys) (sym (some_is y x e))
next_mapped f (suc i) [] x e = absurd (cc)
next_mapped f (suc i) (y ∷ ys) x e = ap (λ l. f y ∷ l) (next_mapped f i ys x e)

pub all_mapped : {X : Type 0} (f : X → X) (i : ℕ) (xs : List X) → length xs ≤ i → first_mapped f i xs ≡ map f xs
all_mapped f zero [] h = refl
all_mapped f zero (x ∷ xs) h = absurd (omega (arith, h))
all_mapped f (suc i) [] h = refl
all_mapped f (suc i) (x ∷ xs) h = ap (λ l. f x ∷ l) (all_mapped f i xs (omega (arith, h)))

-- WHAT IS TRUE OF ALL
pub every : {X : Type 0} (P : X → Type 0) → ((x : X) → P x) → (xs : List X) → AllByRecursion P xs
every P h [] = tt
every P h (x ∷ xs) = (h x, every P h xs)

pub weaker : {X : Type 0} (P Q : X → Type 0) → ((x : X) → P x → Q x) → (xs : List X) → AllByRecursion P xs → AllByRecursion Q xs
weaker P Q f [] h = tt
weaker P Q f (x ∷ xs) h = (f x h.0, weaker P Q f xs h.1)

pub of_two : {X : Type 0} (P : X → Type 0) (xs ys : List X) → AllByRecursion P xs → AllByRecursion P ys → AllByRecursion P (xs ++ ys)
of_two P [] ys h k = k
of_two P (x ∷ xs) ys h k = (h.0, of_two P xs ys h.1 k)

pub of_first : {X : Type 0} (P : X → Type 0) (xs ys : List X) → AllByRecursion P (xs ++ ys) → AllByRecursion P xs
of_first P [] ys h = tt
of_first P (x ∷ xs) ys h = (h.0, of_first P xs ys h.1)

pub of_second : {X : Type 0} (P : X → Type 0) (xs ys : List X) → AllByRecursion P (xs ++ ys) → AllByRecursion P ys
of_second P [] ys h = h
of_second P (x ∷ xs) ys h = of_second P xs ys h.1

module _ {X : Type 0} (cmp : X → X → Ordering) (P : X → Type 0) where
  put_in : (x : X) (ys : List X) → P x → AllByRecursion P ys → AllByRecursion P (bag_insert cmp x ys)
  put_in x [] h k = (h, tt)
  put_in x (y ∷ ys) h k = by (cmp x y) (put_in x ys h k.1)
    where
      by : (o : Ordering) → AllByRecursion P (bag_insert cmp x ys) → AllByRecursion P (elim o [ Greater ↦ y ∷ bag_insert cmp x ys | _ ↦ x ∷ y ∷ ys ])
      by Less later = (h, k)
      by Equal later = (h, k)
      by Greater later = (k.0, later)

  put_out : (x : X) (ys : List X) → AllByRecursion P (bag_insert cmp x ys) → P x × AllByRecursion P ys
  put_out x [] h = (h.0, tt)
  put_out x (y ∷ ys) h = by (cmp x y) (put_out x ys) h
    where
      by : (o : Ordering) → (AllByRecursion P (bag_insert cmp x ys) → P x × AllByRecursion P ys) → AllByRecursion P (elim o [ Greater ↦ y ∷ bag_insert cmp x ys | _ ↦ x ∷ y ∷ ys ]) → P x × AllByRecursion P (y ∷ ys)
      by Less later k = (k.0, k.1)
      by Equal later k = (k.0, k.1)
      by Greater later k = let rest = later k.1 in (rest.0, (k.0, rest.1))

  pub in_bag : (xs : List X) → AllByRecursion P xs → AllByRecursion P (bag_of cmp xs)
  in_bag [] h = tt
  in_bag (x ∷ xs) h = put_in x (bag_of cmp xs) h.0 (in_bag xs h.1)

  pub of_bag : (xs : List X) → AllByRecursion P (bag_of cmp xs) → AllByRecursion P xs
  of_bag [] h = tt
  of_bag (x ∷ xs) h = let out = put_out x (bag_of cmp xs) h in (out.0, of_bag xs out.1)

-- messages of one edge and time are known by their records
pub come_back : (c : Message) (ms : List Message) → AllByRecursion (IsBeside c) ms → coming c.vertex c.port c.time (map (λ m. m.rec) ms) ≡ ms
come_back c [] h = refl
come_back c (m ∷ ms) h =
    let one : record { vertex = c.vertex; port = c.port; time = c.time; rec = m.rec } ≡ m = λ i. record { vertex = sym h.0.0 i; port = sym h.0.1 i; time = sym h.0.2 i; rec = m.rec } in
    λ i. one i ∷ come_back c ms h.1 i

-- ALL MAILBOXES
abbrev pub flat : List (List Message) → List Message
flat ms = flat_map (λ m. m) ms

pub flat_mails : (shards : List Shard) → in_mailboxes shards ≡ flat (mails shards)
flat_mails [] = refl
flat_mails (s ∷ ss) = ap (λ l. s.mailbox.messages ++ l) (flat_mails ss)

module _ (laws : BagLaws message_cmp) where
  abbrev two : List Message → List Message → List Message
  two xs ys = join message_cmp xs ys

  -- lists with the same bag may stand for each other
  pub same_bag : (xs ys zs : List Message) → bag_of message_cmp xs ≡ bag_of message_cmp ys → two xs zs ≡ two ys zs
  same_bag xs ys zs e = sym (laws.associative xs [] zs) ∙ (ap (λ l. two l zs) e ∙ laws.associative ys [] zs)

  -- at a place there is this much less
  pub less_there : (g : List Message → List Message) (cs : List Message) (ms : List (List Message)) (i : ℕ) → i < length ms
      → ((zs : List Message) → two (get_or ms i []) zs ≡ two cs (two (g (get_or ms i [])) zs)) → (zs : List Message) → two (flat ms) zs ≡ two cs (two (flat (changed_at g i ms)) zs)
  less_there g cs [] i h e zs = absurd (omega (arith, h))
  less_there g cs (m ∷ ms) zero h e zs =
      laws.append m (flat ms) zs ∙ (e (two (flat ms) zs) ∙ ap (two cs) (sym (laws.append (g m) (flat ms) zs)))
  less_there g cs (m ∷ ms) (suc i) h e zs =
      laws.append m (flat ms) zs ∙ (ap (two m) (less_there g cs ms i (omega (arith, h)) e zs)
      ∙ (laws.swaps m cs (two (flat (changed_at g i ms)) zs) ∙ ap (two cs) (sym (laws.append m (flat (changed_at g i ms)) zs))))

  -- or this much more
  pub more_there : (cs : List Message) (ms : List (List Message)) (i : ℕ) → i < length ms → (zs : List Message) → two (flat (changed_at (λ m. m ++ cs) i ms)) zs ≡ two cs (two (flat ms) zs)
  more_there cs [] i h zs = absurd (omega (arith, h))
  more_there cs (m ∷ ms) zero h zs =
      laws.append (m ++ cs) (flat ms) zs ∙ (laws.append m cs (two (flat ms) zs) ∙ (laws.swaps m cs (two (flat ms) zs) ∙ ap (two cs) (sym (laws.append m (flat ms) zs))))
  more_there cs (m ∷ ms) (suc i) h zs =
      laws.append m (flat (changed_at (λ m. m ++ cs) i ms)) zs ∙ (ap (two m) (more_there cs ms i (omega (arith, h)) zs)
      ∙ (laws.swaps m cs (two (flat ms) zs) ∙ ap (two cs) (sym (laws.append m (flat ms) zs))))

-- each mailbox has messages of its shard alone
pub mails_stay : (workers k : ℕ) (g : List Message → List Message) (ms : List (List Message)) (i : ℕ)
    → ((m : List Message) → m ≡ get_or ms i [] → AllByRecursion (λ c. IsKeyOf workers (k + i) c) m → AllByRecursion (λ c. IsKeyOf workers (k + i) c) (g m))
    → AllByRecursion (IsMail workers) (enumerate_from k ms) → AllByRecursion (IsMail workers) (enumerate_from k (changed_at g i ms))
mails_stay workers k g [] i f h = h
mails_stay workers k g (m ∷ ms) zero f h =
    let here : k + 0 ≡ k = omega arith in
    (subst (λ n. AllByRecursion (λ c. IsKeyOf workers n c) (g m)) here (f m refl (subst (λ n. AllByRecursion (λ c. IsKeyOf workers n c) m) (sym here) h.0)), h.1)
mails_stay workers k g (m ∷ ms) (suc i) f h =
    let there : k + suc i ≡ k + 1 + i = omega arith in
    (h.0, mails_stay workers (k + 1) g ms i (subst (λ n. (m : List Message) → m ≡ get_or ms i [] → AllByRecursion (λ c. IsKeyOf workers n c) m → AllByRecursion (λ c. IsKeyOf workers n c) (g m)) there f) h.1)

-- those of a shard are there, and no other's
pub at_own : (workers k : ℕ) (ms : List (List Message)) (i : ℕ) → i < length ms → AllByRecursion (IsMail workers) (enumerate_from k ms) → AllByRecursion (λ c. IsKeyOf workers (k + i) c) (get_or ms i [])
at_own workers k [] i l h = absurd (omega (arith, l))
at_own workers k (m ∷ ms) zero l h = let here : k + 0 ≡ k = omega arith in subst (λ n. AllByRecursion (λ c. IsKeyOf workers n c) m) (sym here) h.0
at_own workers k (m ∷ ms) (suc i) l h =
    let there : k + suc i ≡ k + 1 + i = omega arith in
    subst (λ n. AllByRecursion (λ c. IsKeyOf workers n c) (get_or ms i [])) (sym there) (at_own workers (k + 1) ms i (omega (arith, l)) h.1)

pub not_before : (workers k s : ℕ) (ms : List (List Message)) → s < k → AllByRecursion (IsMail workers) (enumerate_from k ms) → AllByRecursion (λ c. IsKeyOf workers s c → ⊥) (flat ms)
not_before workers k s [] l h = tt
not_before workers k s (m ∷ ms) l h =
    of_two (λ c. IsKeyOf workers s c → ⊥) m (flat ms) (weaker (λ c. IsKeyOf workers k c) (λ c. IsKeyOf workers s c → ⊥) (λ c is other. absurd (let same : k ≡ s = sym is ∙ other in omega (arith, l, same))) m h.0)
    (not_before workers (k + 1) s ms (omega (arith, l)) h.1)

pub none_of : (workers k : ℕ) (ms : List (List Message)) (i : ℕ) → get_or ms i [] ≡ [] → AllByRecursion (IsMail workers) (enumerate_from k ms) → AllByRecursion (λ c. IsKeyOf workers (k + i) c → ⊥) (flat ms)
none_of workers k [] i e h = tt
none_of workers k (m ∷ ms) zero e h =
    subst (λ l. AllByRecursion (λ c. IsKeyOf workers (k + 0) c → ⊥) (l ++ flat ms)) (sym e) (not_before workers (k + 1) (k + 0) ms (omega arith) h.1)
none_of workers k (m ∷ ms) (suc i) e h =
    let there : k + suc i ≡ k + 1 + i = omega arith in
    of_two (λ c. IsKeyOf workers (k + suc i) c → ⊥) m (flat ms)
    (weaker (λ c. IsKeyOf workers k c) (λ c. IsKeyOf workers (k + suc i) c → ⊥) (λ c is other. absurd (let same : k ≡ k + suc i = sym is ∙ other in omega (arith, same))) m h.0)
    (subst (λ n. AllByRecursion (λ c. IsKeyOf workers n c → ⊥) (flat ms)) (sym there) (none_of workers (k + 1) ms i e h.1))
