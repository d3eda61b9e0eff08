-- A script at the disk of a keeper.
use Rattle.std.proofs.Common.{◌≡◌, ℕ, ◌+◌, ◌≤◌, ◌==◌, nat_lt, Bool, true, false, List, [], ◌∷◌, arith, refl, sym, ap, subst}
use Rattle.std.specs.Prelude.{Option, Some, None, option_map, IfSome, if◌then◌else◌}
use Rattle.td_orders.specs.declared.note.Note.TheVariants.{There}
use Rattle.td_orders.specs.declared.source.Asked.{Asked}
use Rattle.td_orders.specs.declared.order.Order.{Order}
use Rattle.td_orders.specs.declared.order.Order.TheVariants as order
use Rattle.td_orders.specs.Orders.{submissions}
use Rattle.td_console.specs.declared.faults.Fault.{Fault}
use Rattle.td_orders.specs.Scripts.{Script, Asks, asked_for}
use Rattle.td_feed.specs.Held.{seen_then, seen_after}
use Rattle.td_orders.specs.Placed.{gap_at, told_after, last_after, after_gap, at_disk, unless_gap, placed_from, told_by, last_by}
use Rattle.td_calls.specs.Answers.{Answers}
use Rattle.td_store.specs.standing.Standing.{last_epoch, last_request}
use Rattle.td_keeper.specs.Keeping.{Keeping}
use Rattle.td_feed.specs.Carried.{new_to, Carries}
use Rattle.td_feed.specs.Served.{script_at}
use Rattle.td_feed.proofs.Held.{seen_on}

-- a script is the same at a keeper that has gone on with nothing
pub script_same : {D S : Type 0} (script : ℕ → ℕ → S → Option Script) (answers : Answers) (old new : Keeping D) (orders : S) → Carries answers old new [] → script_at script old orders ≡ script_at script new orders
script_same script answers old new orders carries =
    let told : last_epoch old.standing ≡ last_epoch new.standing = omega (arith, carries.told) in
    λ i. script (told i) (sym carries.last i) orders

-- and where what was asked for is done
abbrev pub next_script : {D S : Type 0} → (ℕ → ℕ → S → Option Script) → Keeping D → Option Asked → S → Option Script
next_script script k asked orders = script (told_by (last_epoch k.standing) (last_request k.standing) asked) (last_by (last_request k.standing) asked) orders

pub next_there : {D S : Type 0} (script : ℕ → ℕ → S → Option Script) (answers : Answers) (there new : Keeping D) (asked : Asked) (orders : S) → Carries answers there new (new_to there (asked_for asked))
    → next_script script there (Some asked) orders ≡ script_at script new orders
next_there script answers there new asked orders carries = λ i. script (sym carries.told i) (sym carries.last i) orders

-- what is asked for by one who is told how far a disk is
abbrev pub AsksFrom : {S : Type 0} → (ℕ → ℕ → S → Option Script) → ℕ → ℕ → S → S → Option Asked → Type 0
AsksFrom script told last old new asked = Asks (script told last old) (script (told_by told last asked) (last_by last asked) new) asked

pub asks_there : {D S : Type 0} (script : ℕ → ℕ → S → Option Script) (k : Keeping D) (told last : ℕ) (old new : S) (asked : Option Asked) → told ≡ last_epoch k.standing → last ≡ last_request k.standing
    → AsksFrom script told last old new asked → Asks (script_at script k old) (next_script script k asked new) asked
asks_there script k told last old new asked far top asks =
    subst (λ (q : ℕ). AsksFrom script (last_epoch k.standing) q old new asked) top (subst (λ (t : ℕ). AsksFrom script t last old new asked) far asks)

-- a script that is sound at a disk is sound
pub still_sound : (fault : Option Fault) (refuses : Bool) (told last : ℕ) (orders : List Order) → (placed_from fault refuses told last orders).fault ≡ None → fault ≡ None
still_sound fault refuses told last [] is = is
still_sound fault refuses told last (o ∷ orders) is = by (at_disk refuses told o) (λ t q. still_sound fault refuses t q orders) is
  where
    by : (there : Option Order) → ((t q : ℕ) → (placed_from fault refuses t q orders).fault ≡ None → fault ≡ None)
        → (unless_gap (gap_at o) (λ next. placed_from fault refuses (told_after told last (submissions (next ∷ []))) (last_after last (submissions (next ∷ []))) orders) there).fault ≡ None → fault ≡ None
    by None more e = absurd (let no = e in cc)
    by (Some next) more e = more (told_after told last (submissions (next ∷ []))) (last_after last (submissions (next ∷ []))) e

-- an order says at a disk that the same was seen
seen_there : (refuses : Bool) (told : ℕ) (o : Order) (seen : ℕ) → IfSome (at_disk refuses told o) (λ next. seen_then seen next ≡ seen_then seen o)
seen_there refuses told (order.Submit batch) seen = refl
seen_there refuses told (order.SubmitAs request batch) seen = refl
seen_there refuses told (order.SubmitAt place request batch) seen = by (place.epoch == told + 1) (nat_lt told place.epoch) refuses
  where
    by : (here after refuses : Bool)
        → IfSome (if here then Some (order.SubmitAt place request batch) else (if after then after_gap refuses place.epoch else Some (order.Say (There place.epoch)))) (λ next. seen_then seen next ≡ seen)
    by true after refuses = refl
    by false true true = refl
    by false true false = tt
    by false false refuses = refl
seen_there refuses told order.Cut seen = refl
seen_there refuses told (order.Seen line epoch) seen = refl
seen_there refuses told (order.Answer vertex wanted) seen = refl
seen_there refuses told (order.Copy copy) seen = refl
seen_there refuses told (order.Say note) seen = refl

-- and a script says there that no more was seen
pub seen_placed : (fault : Option Fault) (refuses : Bool) (told last : ℕ) (orders : List Order) (seen : ℕ) → seen_after seen (placed_from fault refuses told last orders).orders ≤ seen_after seen orders
seen_placed fault refuses told last [] seen = omega arith
seen_placed fault refuses told last (o ∷ orders) seen = by (at_disk refuses told o) (seen_there refuses told o seen) (λ t q. seen_placed fault refuses t q orders (seen_then seen o))
  where
    by : (there : Option Order) → IfSome there (λ next. seen_then seen next ≡ seen_then seen o)
        → ((t q : ℕ) → seen_after (seen_then seen o) (placed_from fault refuses t q orders).orders ≤ seen_after (seen_then seen o) orders)
        → seen_after seen (unless_gap (gap_at o) (λ next. placed_from fault refuses (told_after told last (submissions (next ∷ []))) (last_after last (submissions (next ∷ []))) orders) there).orders
        ≤ seen_after (seen_then seen o) orders
    by None same more = seen_on seen (o ∷ orders)
    by (Some next) same more =
        let t = told_after told last (submissions (next ∷ [])) in
        let q = last_after last (submissions (next ∷ [])) in
        subst (λ (n : ℕ). seen_after n (placed_from fault refuses t q orders).orders ≤ seen_after (seen_then seen o) orders) (sym same) (more t q)

-- what is made twice
pub made_twice : {A B C : Type 0} (f : A → B) (g : B → C) (o : Option A) (made : Option B) → made ≡ option_map f o → option_map g made ≡ option_map (λ a. g (f a)) o
made_twice f g None made is = ap (option_map g) is
made_twice f g (Some a) made is = ap (option_map g) is
