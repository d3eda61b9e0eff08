-- What `dump` writes of a standing asks for the epochs of that standing.
use Rattle.std.proofs.Common.{◌≡◌, ℕ, suc, zero, ◌+◌, ◌<◌, ◌≤◌, ◌^◌, ◌==◌, not, max, nat_le, eqb-true, Bool, true, false, cond, nat_lt, List, [], ◌∷◌, ◌++◌, length, map, filter, codes, ℤ, pos, negsuc, FitsSigned, Option, Some, None, option_map, Ok, refl, sym, ap, ◌∙◌, subst, arith, All}
use Rattle.std.specs.Prelude.{flat_map, slice_index}
use Rattle.std.specs.Int.{w64}
use Rattle.std.specs.Fmt.{decimal, signed_decimal}
use Rattle.std.specs.List.{list_all, list_any}
use Rattle.std.specs.Ordering.{is_le}
use Rattle.std.proofs.lemmas.Bool.{lt-ltb, ltb-true, ne_eqb}
use Rattle.std.proofs.lemmas.Fmt.{first_decimal, decimal_digit}
use Rattle.std.proofs.lemmas.List.{append_assoc, append-nil}
use Rattle.std.proofs.lemmas.List.Folds.{list_all-append}
use Rattle.td_gate.specs.Reading.{Each}
use Rattle.td_gate.specs.Fields.{is_chain}
use Rattle.td_stamp.specs.declared.values.Entry.{Entry}
use Rattle.td_stamp.specs.Orders.{entry_cmp}
use Rattle.td_stamp.specs.Bag.{IsBag}
use Rattle.td_plan.specs.Lines.{Line as PlanLine}
use Rattle.td_plan.specs.Text.{text_lines, words, number_of, is_printable, is_comment}
use Rattle.td_plan.specs.Inputs.{is_input_of}
use Rattle.td_journal.specs.declared.payload.Submitted.{Submitted}
use Rattle.td_journal.specs.Numbers.{greatest, may_come, rise}
use Rattle.td_journal.specs.Cell.{is_batch}
use Rattle.td_head.specs.Layout.{Sizes}
use Rattle.td_store.specs.standing.Standing.{Standing, submission, last_epoch, last_request}
use Rattle.td_store.specs.standing.Told.{inputs_of, floor_of}
use Rattle.td_console.specs.Number.{integer_of}
use Rattle.td_console.specs.declared.data_line.DataLine.TheVariants.{PassedOver, Record, Close}
use Rattle.td_console.specs.Data.{data_line_of, spelled}
use Rattle.td_orders.specs.declared.order.FeedLine.{FeedLine}
use Rattle.td_orders.specs.declared.order.FeedLine.TheVariants.{Data, Request}
use Rattle.td_orders.specs.declared.order.Order.{Order}
use Rattle.td_orders.specs.Orders.{Orders, is_cut, request_of, positive, or_data, feed_line_of, order_for, with_line, with_order, and_then, orders_from, orders_of, submissions, submitted_by, new_after}
use Rattle.td_report.specs.Dumped.{room_words, summary_line, request_line, record_line, epoch_text, dump_text, AsksFor, FitsLine, FitsLines}
use Rattle.td_report.proofs.Wording.{both, is_word, number_word, signed_word, word_printable, line_ascii, natural_again, word_first, word_last, line_first}

-- NUMBERS
first_digit : (n : ℕ) → n < 2 ^ 64 → 48 ≤ slice_index (decimal n) 0
first_digit zero h = rw (decimal_digit 0 (omega arith)) (omega arith)
first_digit (suc n) h = let first = first_decimal (suc n) (omega arith) h in omega (arith, first)

no_byte : (c n : ℕ) → c < 48 → n < 2 ^ 64 → (slice_index (decimal n) 0 == c) ≡ false
no_byte c n low h = ne_eqb (slice_index (decimal n) 0) c (λ e. let first = first_digit n h in omega (arith, first, e, low))

integer_again : (z : ℤ) → FitsSigned w64 z → integer_of (signed_decimal z) ≡ Some z
integer_again (pos n) fits =
    let small : n < 2 ^ 63 = omega (arith, fits) in
    let wide : n < 2 ^ 64 = omega (arith, small) in
    rw (no_byte 45 n (omega arith) wide, natural_again n wide, lt-ltb n (2 ^ 63) small) refl
integer_again (negsuc n) fits =
    let small : n < 2 ^ 63 = omega (arith, fits) in
    let wide : suc n < 2 ^ 64 = omega (arith, small) in
    rw (natural_again (suc n) wide, lt-ltb n (2 ^ 63) small) refl

number_again : (n : ℕ) → n < 2 ^ 8 → number_of (decimal n) ≡ Some n
number_again n h = rw (natural_again n (omega (arith, h)), lt-ltb n 1000000000 (omega (arith, h))) refl

-- LINES
pub spaced : (w rest : List ℕ) → is_word w ≡ true → list_all is_printable rest ≡ true → list_all is_printable (w ++ 32 ∷ rest) ≡ true
spaced w rest is h = list_all-append is_printable w (32 ∷ rest) ∙ rw (word_printable w is, h) refl

-- what a line says that has these words
module _ (line : List ℕ) (ws : List (List ℕ)) (printable : list_all is_printable line ≡ true) (has : words line ≡ ws) where
  feed_said : is_cut ws ≡ false → feed_line_of line ≡ or_data line (request_of ws)
  feed_said cut = rw (line_ascii line printable, has, cut) refl

  passed_said : is_comment ws ≡ true → data_line_of line ≡ Some PassedOver
  passed_said comment = rw (printable, has, comment) refl

  data_said : is_comment ws ≡ false → data_line_of line ≡ spelled ws
  data_said comment = rw (printable, has, comment) refl

-- `INPUT KEY VAL`, without the line feed
abbrev pub record_words : Entry → List ℕ
record_words e = decimal e.input ++ (32 ∷ (decimal e.rec.key ++ (32 ∷ signed_decimal e.rec.val)))

pub record_printable : (e : Entry) → list_all is_printable (record_words e) ≡ true
record_printable e =
    spaced (decimal e.input) (decimal e.rec.key ++ (32 ∷ signed_decimal e.rec.val)) (number_word e.input)
    (spaced (decimal e.rec.key) (signed_decimal e.rec.val) (number_word e.rec.key) (word_printable (signed_decimal e.rec.val) (signed_word e.rec.val)))

pub record_three : (e : Entry) → words (record_words e) ≡ decimal e.input ∷ decimal e.rec.key ∷ signed_decimal e.rec.val ∷ []
record_three e =
    word_first (decimal e.input) (number_word e.input) (decimal e.rec.key ++ (32 ∷ signed_decimal e.rec.val))
    ∙ ap (λ ws. decimal e.input ∷ ws) (word_first (decimal e.rec.key) (number_word e.rec.key) (signed_decimal e.rec.val)
    ∙ ap (λ ws. decimal e.rec.key ∷ ws) (word_last (signed_decimal e.rec.val) (signed_word e.rec.val)))

record_spelled : (e : Entry) → FitsLine e → spelled (decimal e.input ∷ decimal e.rec.key ∷ signed_decimal e.rec.val ∷ []) ≡ Some (Record e.input e.rec)
record_spelled e fits = rw (number_again e.input fits.input, natural_again e.rec.key fits.key, integer_again e.rec.val fits.val) refl

pub record_said : (e : Entry) → FitsLine e → feed_line_of (record_words e) ≡ Some (Data (Record e.input e.rec))
record_said e fits =
    let line = record_words e in
    let ws = decimal e.input ∷ decimal e.rec.key ∷ signed_decimal e.rec.val ∷ [] in
    let none = no_byte 35 e.input (omega arith) (let h = fits.input in omega (arith, h)) in
    feed_said line ws (record_printable e) (record_three e) refl ∙ ap (option_map Data) (data_said line ws (record_printable e) (record_three e) none ∙ record_spelled e fits)

pub close_said : feed_line_of (codes ".") ≡ Some (Data Close)
close_said = refl

-- `req Q`
abbrev pub request_words : ℕ → List ℕ
request_words q = codes "req" ++ 32 ∷ decimal q

pub request_printable : (q : ℕ) → list_all is_printable (request_words q) ≡ true
request_printable q = spaced (codes "req") (decimal q) refl (word_printable (decimal q) (number_word q))

pub request_two : (q : ℕ) → words (request_words q) ≡ codes "req" ∷ decimal q ∷ []
request_two q = word_first (codes "req") refl (decimal q) ∙ ap (λ ws. codes "req" ∷ ws) (word_last (decimal q) (number_word q))

pub request_said : (q : ℕ) → suc q < 2 ^ 64 → feed_line_of (request_words (suc q)) ≡ Some (Request (suc q))
request_said q h =
    let line = request_words (suc q) in
    feed_said line (codes "req" ∷ decimal (suc q) ∷ []) (request_printable (suc q)) (request_two (suc q)) refl ∙ ap (λ o. or_data line (positive o)) (natural_again (suc q) h)

-- a line that begins with `#`
comment_no_cut : (ws : List (List ℕ)) → is_cut (codes "#" ∷ ws) ≡ false
comment_no_cut [] = refl
comment_no_cut (w ∷ ws) = refl

comment_no_request : (ws : List (List ℕ)) → request_of (codes "#" ∷ ws) ≡ None
comment_no_request [] = refl
comment_no_request (w ∷ []) = refl
comment_no_request (w ∷ v ∷ ws) = refl

pub comment_said : (rest : List ℕ) → list_all is_printable rest ≡ true → feed_line_of (codes "#" ++ 32 ∷ rest) ≡ Some (Data PassedOver)
comment_said rest h =
    let line = codes "#" ++ 32 ∷ rest in
    let ws = codes "#" ∷ words rest in
    let printable : list_all is_printable line ≡ true = spaced (codes "#") rest refl h in
    let has : words line ≡ ws = word_first (codes "#") refl rest in
    feed_said line ws printable has (comment_no_cut (words rest)) ∙ ap (or_data line) (comment_no_request (words rest)) ∙ ap (option_map Data) (passed_said line ws printable has refl)

-- A FEED READS ON: after some lines of a text it has this, and the rest is left
abbrev Goes : List PlanLine → Orders → List ℕ → Orders → List ℕ → Type 0
Goes plan read text next rest = (n : ℕ) → (m : ℕ) × (orders_from plan n read (text_lines text) ≡ orders_from plan m next (text_lines rest))

goes_on : (plan : List PlanLine) (a b c : Orders) (x y z : List ℕ) → Goes plan a x b y → Goes plan b y c z → Goes plan a x c z
goes_on plan a b c x y z first more n = let f = first n in let g = more f.0 in (g.0, f.1 ∙ g.1)

-- one line, which says this
one_line : (plan : List PlanLine) (read next : Orders) (line rest text : List ℕ) (said : Option FeedLine) → text ≡ line ++ 10 ∷ rest → list_all is_printable line ≡ true → feed_line_of line ≡ said
    → ((n : ℕ) → with_line plan n read said ≡ Ok next) → Goes plan read text next rest
one_line plan read next line rest text said is printable says then n = (
  n + 1,
  ap (λ t. orders_from plan n read (text_lines t)) is ∙ ap (orders_from plan n read) (line_first line rest printable)
      ∙ ap (λ r. and_then (λ more. orders_from plan (n + 1) more (text_lines rest)) r) (ap (with_line plan n read) says ∙ then n),
)

-- with a record more
abbrev pub with_entry : Orders → Entry → Orders
with_entry read e = record { orders = read.orders; place = read.place; request = read.request; current = read.current ++ e ∷ [] }

record_goes : (plan : List PlanLine) (read : Orders) (e : Entry) (rest : List ℕ) → is_input_of plan e.input ≡ true → FitsLine e → Goes plan read (record_line e ++ rest) (with_entry read e) rest
record_goes plan read e rest input fits =
    one_line plan read (with_entry read e) (record_words e) rest (record_line e ++ rest) (Some (Data (Record e.input e.rec))) is (record_printable e) (record_said e fits) (λ n. rw input refl)
  where
    is : record_line e ++ rest ≡ record_words e ++ 10 ∷ rest
    is = simp append_assoc

-- and with those of a batch
abbrev pub with_entries : Orders → List Entry → Orders
with_entries read es = record { orders = read.orders; place = read.place; request = read.request; current = read.current ++ es }

records_go : (plan : List PlanLine) (read : Orders) (es : List Entry) (rest : List ℕ) → list_all (λ e. is_input_of plan e.input) es ≡ true → Each FitsLine es → Goes plan read (flat_map record_line es ++ rest) (with_entries read es) rest
records_go plan read [] rest inputs fits = λ n.
    (n, ap (λ c. orders_from plan n (record { orders = read.orders; place = read.place; request = read.request; current = c }) (text_lines rest)) (sym (append-nil read.current)))
records_go plan read (e ∷ es) rest inputs fits =
    let p = both (is_input_of plan e.input) (list_all (λ e. is_input_of plan e.input) es) inputs in
    let first : Goes plan read (record_line e ++ (flat_map record_line es ++ rest)) (with_entry read e) (flat_map record_line es ++ rest) = record_goes plan read e (flat_map record_line es ++ rest) p.0 fits.0 in
    let more = records_go plan (with_entry read e) es rest p.1 fits.1 in
    let all = goes_on plan read (with_entry read e) (with_entries (with_entry read e) es) (record_line e ++ (flat_map record_line es ++ rest)) (flat_map record_line es ++ rest) rest first more in
    let text : record_line e ++ (flat_map record_line es ++ rest) ≡ flat_map record_line (e ∷ es) ++ rest = sym (append_assoc (record_line e) (flat_map record_line es) rest) in
    let entries : (read.current ++ e ∷ []) ++ es ≡ read.current ++ e ∷ es = append_assoc read.current (e ∷ []) es in
    subst (λ t. Goes plan read t (with_entries read (e ∷ es)) rest) text
    (subst (λ c. Goes plan read (record_line e ++ (flat_map record_line es ++ rest)) (record { orders = read.orders; place = read.place; request = read.request; current = c }) rest) entries all)

-- between two epochs, with these orders
abbrev between : List Order → Orders
between orders = record { orders = orders; place = None; request = 0; current = [] }

abbrev begun : List Order → ℕ → Orders
begun orders q = record { orders = orders; place = None; request = q; current = [] }

request_goes : (plan : List PlanLine) (orders : List Order) (q : ℕ) (rest : List ℕ) → q < 2 ^ 64 → Goes plan (between orders) (request_line q ++ rest) (begun orders q) rest
request_goes plan orders zero rest h = λ n. (n, refl)
request_goes plan orders (suc q) rest h =
    one_line plan (between orders) (begun orders (suc q)) (request_words (suc q)) rest (request_line (suc q) ++ rest) (Some (Request (suc q))) is (request_printable (suc q)) (request_said q h) (λ n. refl)
  where
    is : request_line (suc q) ++ rest ≡ request_words (suc q) ++ 10 ∷ rest
    is = ap (λ (l : List ℕ). codes "req " ++ l) (append_assoc (decimal (suc q)) (10 ∷ []) rest)

-- what an epoch asks for
abbrev order_of : Submitted → Order
order_of s = order_for s.request s.batch

close_goes : (plan : List PlanLine) (orders : List Order) (s : Submitted) (rest : List ℕ) → IsBag entry_cmp s.batch
    → Goes plan (record { orders = orders; place = None; request = s.request; current = s.batch }) (codes ".\n" ++ rest) (between (orders ++ order_of s ∷ [])) rest
close_goes plan orders s rest bag =
    one_line plan (record { orders = orders; place = None; request = s.request; current = s.batch }) (between (orders ++ order_of s ∷ [])) (codes ".") rest (codes ".\n" ++ rest) (Some (Data Close)) refl refl close_said
    (λ n. ap (λ (b : List Entry). Ok (with_order (order_for s.request b) (between orders))) bag)

-- an epoch that is read as it was written: its numbers fit, its records name inputs of the plan, and are in order
pub record IsRead (plan : List PlanLine) (s : Submitted) : Type 0 where
  pub fits : FitsLines s
  pub inputs : list_all (λ e. is_input_of plan e.input) s.batch ≡ true
  pub bag : IsBag entry_cmp s.batch

epoch_goes : (plan : List PlanLine) (orders : List Order) (s : Submitted) (rest : List ℕ) → IsRead plan s → Goes plan (between orders) (epoch_text s ++ rest) (between (orders ++ order_of s ∷ [])) rest
epoch_goes plan orders s rest is =
    let records = flat_map record_line s.batch in
    let end = codes ".\n" ++ rest in
    let text : request_line s.request ++ (records ++ end) ≡ epoch_text s ++ rest = epoch_in (request_line s.request) records (codes ".\n") rest in
    let first = request_goes plan orders s.request (records ++ end) is.fits.request in
    let more = records_go plan (begun orders s.request) s.batch end is.inputs is.fits.records in
    let last = close_goes plan orders s rest is.bag in
    subst (λ t. Goes plan (between orders) t (between (orders ++ order_of s ∷ [])) rest) text
    (goes_on plan (between orders) (begun orders s.request) (between (orders ++ order_of s ∷ [])) (request_line s.request ++ (records ++ end)) (records ++ end) rest first
    (goes_on plan (begun orders s.request) (record { orders = orders; place = None; request = s.request; current = s.batch }) (between (orders ++ order_of s ∷ [])) (records ++ end) end rest more last))
  where
    epoch_in : (a b c d : List ℕ) → a ++ (b ++ (c ++ d)) ≡ ((a ++ b) ++ c) ++ d
    epoch_in a b c d = simp append_assoc

epochs_go : (plan : List PlanLine) (orders : List Order) (x : List Submitted) → Each (IsRead plan) x → Goes plan (between orders) (flat_map epoch_text x) (between (orders ++ map order_of x)) []
epochs_go plan orders [] each = λ n. (n, ap (λ o. orders_from plan n (between o) (text_lines [])) (sym (append-nil orders)))
epochs_go plan orders (s ∷ x) each =
    let first = epoch_goes plan orders s (flat_map epoch_text x) each.0 in
    let more = epochs_go plan (orders ++ order_of s ∷ []) x each.1 in
    let all = goes_on plan (between orders) (between (orders ++ order_of s ∷ [])) (between ((orders ++ order_of s ∷ []) ++ map order_of x)) (flat_map epoch_text (s ∷ x)) (flat_map epoch_text x) [] first more in
    subst (λ o. Goes plan (between orders) (flat_map epoch_text (s ∷ x)) (between o) []) (append_assoc orders (order_of s ∷ []) (map order_of x)) all

pub submits : (x : List Submitted) → submissions (map order_of x) ≡ x
submits [] = refl
submits (s ∷ x) = by s.request (submits x)
  where
    by : (q : ℕ) → submissions (map order_of x) ≡ x → submissions (order_for q s.batch ∷ map order_of x) ≡ submission q s.batch ∷ x
    by zero more = ap (λ l. submission 0 s.batch ∷ l) more
    by (suc q) more = ap (λ l. submission (suc q) s.batch ∷ l) more

-- the first line, behind its `# `
abbrev pub standing_rest : Standing → List ℕ
standing_rest s = codes "kept " ++ decimal s.epoch ++ codes " told " ++ decimal (last_epoch s) ++ codes " last " ++ decimal (last_request s)

joined : (xs words : List ℕ) (n : ℕ) → list_all is_printable xs ≡ true → list_all is_printable words ≡ true → list_all is_printable (xs ++ words ++ decimal n) ≡ true
joined xs words n a b =
    list_all-append is_printable (xs ++ words) (decimal n) ∙ rw (list_all-append is_printable xs words, a, b, word_printable (decimal n) (number_word n)) refl

pub standing_printable : (s : Standing) → list_all is_printable (standing_rest s) ≡ true
standing_printable s =
    let kept = codes "kept " ++ decimal s.epoch in
    let told = kept ++ codes " told " ++ decimal (last_epoch s) in
    joined told (codes " last ") (last_request s) (joined kept (codes " told ") (last_epoch s) (joined [] (codes "kept ") s.epoch refl refl) refl) refl

pub room_printable : (sizes : Sizes) (s : Standing) → list_all is_printable (room_words sizes s) ≡ true
room_printable sizes s =
    let epochs = codes ", epochs " ++ decimal (length s.submitted) in
    let cells = epochs ++ codes " of " ++ decimal sizes.n in
    let states = cells ++ codes ", states " ++ decimal (length s.states) in
    joined states (codes " of ") sizes.k
    (joined cells (codes ", states ") (length s.states) (joined epochs (codes " of ") sizes.n (joined [] (codes ", epochs ") (length s.submitted) refl refl) refl) refl)
    refl

summary_goes : (plan : List PlanLine) (sizes : Sizes) (s : Standing) (rest : List ℕ) → Goes plan (between []) (summary_line sizes s ++ rest) (between []) rest
summary_goes plan sizes s rest =
    let words = standing_rest s ++ room_words sizes s in
    let line = codes "#" ++ 32 ∷ words in
    let printable : list_all is_printable words ≡ true = list_all-append is_printable (standing_rest s) (room_words sizes s) ∙ rw (standing_printable s, room_printable sizes s) refl in
    one_line plan (between []) (between []) line rest (summary_line sizes s ++ rest) (Some (Data PassedOver)) (append_assoc line (10 ∷ []) rest)
    (spaced (codes "#") words refl printable) (comment_said words printable) (λ n. refl)

-- THE WHOLE TEXT
pub asks_for : (plan : List PlanLine) (sizes : Sizes) (s : Standing) → Each (IsRead plan) s.submitted → AsksFor plan (dump_text sizes s) s.submitted
asks_for plan sizes s each =
    let x = s.submitted in
    let all = goes_on plan (between []) (between []) (between (map order_of x)) (dump_text sizes s) (flat_map epoch_text x) [] (summary_goes plan sizes s (flat_map epoch_text x)) (epochs_go plan [] x each) in
    (map order_of x, (all 1).1, submits x)

-- of what was read of a disk
pub are_read : (plan : List PlanLine) (x : List Submitted) → Each FitsLines x → ((y : List Entry) → list_all (λ e. is_input_of plan e.input) y ≡ list_all (λ e. list_any (λ v. v == e.input) (inputs_of plan)) y)
    → ((y : List Entry) → is_batch (inputs_of plan) y ≡ true → IsBag entry_cmp y) → All (λ y. is_batch (inputs_of plan) y.batch ≡ true) x → Each (IsRead plan) x
are_read plan [] fits inputs bags all = tt
are_read plan (s ∷ x) fits inputs bags all =
    let first : is_batch (inputs_of plan) s.batch ≡ true = all 0 s (omega arith) in
    (record { fits = fits.0; inputs = inputs s.batch ∙ (both (list_all (λ e. list_any (λ v. v == e.input) (inputs_of plan)) s.batch) (is_chain (λ x y. is_le (entry_cmp x y)) s.batch) first).0; bag = bags s.batch first }, are_read plan x fits.1 inputs bags (λ k d h. all (suc k) d (omega (arith, h))))

-- EPOCHS WHOSE NUMBERS RISE are new
max_zero : (q : ℕ) → max q 0 ≡ q
max_zero q = omega arith

max_above : (q r : ℕ) → q < r → max q r ≡ r
max_above q r h = omega (arith, h)

one_new : (q r : ℕ) (s : Submitted) (x : List Submitted) → s.request ≡ r → may_come (Some q) r ≡ true → new_after (max q r) x ≡ x → new_after q (s ∷ x) ≡ s ∷ x
one_new q r s x is may more =
    ap (λ (b : Bool). cond b (s ∷ new_after (max q s.request) x) (new_after q x)) (ap (may_come (Some q)) is ∙ may) ∙ ap (λ l. s ∷ l) (ap (λ m. new_after (max q m) x) is ∙ more)

pub numbers_new : (q : ℕ) (x : List Submitted) → rise (Some q) x ≡ true → new_after q x ≡ x
numbers_new q [] h = refl
numbers_new q (s ∷ x) h = by s.request refl (numbers_new q x) (λ r. numbers_new r x) h
  where
    by : (r : ℕ) → s.request ≡ r → (rise (Some q) x ≡ true → new_after q x ≡ x) → ((r : ℕ) → rise (Some r) x ≡ true → new_after r x ≡ x)
        → is_chain nat_lt (q ∷ filter (λ r. not (r == 0)) (r ∷ map (λ s. s.request) x)) ≡ true → new_after q (s ∷ x) ≡ s ∷ x
    by zero is same more h = one_new q zero s x is refl (ap (λ m. new_after m x) (max_zero q) ∙ same h)
    by (suc r) is same more h =
        let never : (suc r == 0) ≡ false = ne_eqb (suc r) 0 (λ e. omega (arith, e)) in
        let p = both (nat_lt q (suc r)) (is_chain nat_lt (suc r ∷ filter (λ r. not (r == 0)) (map (λ s. s.request) x))) (rw never at h) in
        let top = max_above q (suc r) (ltb-true q (suc r) p.0) in
        one_new q (suc r) s x is (rw (never, p.0) refl) (ap (λ m. new_after m x) top ∙ more (suc r) p.1)

pub none_new : (q : ℕ) (x : List Submitted) → rise None x ≡ true → new_after q x ≡ x
none_new q [] h = refl
none_new q (s ∷ x) h =
    let p = both (s.request == 0) (list_all (λ s. s.request == 0) x) h in
    one_new q zero s x (eqb-true s.request 0 p.0) refl (ap (λ m. new_after m x) (max_zero q) ∙ none_new q x p.1)

pub told_new : (version last : ℕ) (x : List Submitted) → rise (floor_of version last) x ≡ true → new_after last x ≡ x
told_new version last x = by (nat_le 2 version)
  where
    by : (b : Bool) → rise (elim b [ true ↦ Some last | false ↦ None ]) x ≡ true → new_after last x ≡ x
    by true h = numbers_new last x h
    by false h = none_new last x h

-- a disk that stands for the epochs up to a checkpoint is fed those after it
pub fed_whole : (plan : List PlanLine) (input : List ℕ) (last : ℕ) (before x history : List Submitted) → AsksFor plan input x → new_after last x ≡ x → last ≡ greatest 0 before → history ≡ before ++ x
    → before ++ new_after (greatest 0 before) (submitted_by (orders_of plan input)) ≡ history
fed_whole plan input last before x history asks new is whole =
    let epochs : submitted_by (orders_of plan input) ≡ x = ap submitted_by asks.1 ∙ asks.2 in
    ap (λ (y : List Submitted). before ++ y) (ap (λ (q : ℕ). new_after q (submitted_by (orders_of plan input))) (sym is) ∙ ap (new_after last) epochs ∙ new) ∙ sym whole
