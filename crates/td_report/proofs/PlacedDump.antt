-- What `dump --at` writes of a standing asks for the epochs of that standing, each at its place.
use Rattle.std.proofs.Common.{◌≡◌, ℕ, suc, zero, ◌+◌, ◌<◌, ◌^◌, Bool, true, false, List, [], ◌∷◌, ◌++◌, length, codes, Option, Some, None, Ok, refl, sym, ap, ◌∙◌, subst, arith}
use Rattle.std.specs.Prelude.{flat_map, if◌then◌else◌}
use Rattle.std.specs.Fmt.{decimal}
use Rattle.std.specs.List.{list_all}
use Rattle.std.proofs.lemmas.List.{append_assoc, append-nil}
use Rattle.std.proofs.lemmas.List.Folds.{list_all-append}
use Rattle.td_gate.specs.Reading.{Each}
use Rattle.td_stamp.specs.declared.values.Entry.{Entry}
use Rattle.td_plan.specs.Lines.{Line as PlanLine}
use Rattle.td_plan.specs.Text.{text_lines, words, is_printable}
use Rattle.td_plan.specs.Inputs.{is_input_of}
use Rattle.td_journal.specs.declared.payload.Submitted.{Submitted}
use Rattle.td_head.specs.Layout.{Sizes}
use Rattle.td_store.specs.standing.Standing.{Standing}
use Rattle.td_console.specs.declared.data_line.DataLine.TheVariants.{PassedOver, Record, Close}
use Rattle.td_orders.specs.declared.order.Place.{Place}
use Rattle.td_orders.specs.declared.order.FeedLine.{FeedLine}
use Rattle.td_orders.specs.declared.order.FeedLine.TheVariants.{Data, Request, At}
use Rattle.td_orders.specs.declared.order.Order.{Order}
use Rattle.td_orders.specs.declared.order.Order.TheVariants.{SubmitAt}
use Rattle.td_orders.specs.Orders.{Orders, place_of, positive, or_held_line, feed_line_of, stream_line_of, with_line, with_order}
use Rattle.td_orders.specs.Scripts.{Script, Reading, judged, onward, script_after, script_from, script_of}
use Rattle.td_report.specs.Dumped.{room_words, summary_line, request_line, record_line, epoch_text, place_line, placed_text, placed_dump, FitsLine}
use Rattle.td_report.proofs.Wording.{both, number_word, word_printable, line_ascii, natural_again, word_first, word_last, line_first}
use Rattle.td_report.proofs.Reread.{IsRead, record_words, record_printable, record_three, record_said, request_words, request_printable, request_two, request_said, comment_said, spaced, standing_rest, standing_printable, room_printable, with_entry, with_entries}

-- where a stream is whose epochs have places, and are not refused
abbrev pub reading : List PlanLine → ℕ → Orders → Reading
reading plan n read = record { plan = plan; placing = true; hold = false; questions = false; copies = false; limit = None; number = n; flaw = None; read = read }

-- A STREAM READS ON: after some lines of a text it has this, and the rest is left
abbrev Goes : List PlanLine → Orders → List ℕ → Orders → List ℕ → Type 0
Goes plan read text next rest = (n : ℕ) → (m : ℕ) × (script_from (reading plan n read) (text_lines text) ≡ script_from (reading plan m next) (text_lines rest))

goes_on : (plan : List PlanLine) (a b c : Orders) (x y z : List ℕ) → Goes plan a x b y → Goes plan b y c z → Goes plan a x c z
goes_on plan a b c x y z first more n = let f = first n in let g = more f.0 in (g.0, f.1 ∙ g.1)

-- a line that has no place says what it says to a feed
says_on : (line : List ℕ) (ws : List (List ℕ)) (said : Option FeedLine) → list_all is_printable line ≡ true → words line ≡ ws → place_of ws ≡ None → feed_line_of line ≡ said → stream_line_of true false line ≡ said
says_on line ws said printable has none says =
    ap (λ (b : Bool). if b then or_held_line false line (place_of (words line)) else None) (line_ascii line printable)
    ∙ ap (or_held_line false line) (ap place_of has ∙ none) ∙ says

-- one line, which says this
line_on : (plan : List PlanLine) (n : ℕ) (read next : Orders) (line rest text : List ℕ) (said : Option FeedLine) → text ≡ line ++ 10 ∷ rest → list_all is_printable line ≡ true → stream_line_of true false line ≡ said
    → with_line plan n read said ≡ Ok next → script_from (reading plan n read) (text_lines text) ≡ script_from (reading plan (n + 1) next) (text_lines rest)
line_on plan n read next line rest text said is printable says gives =
    ap (λ t. script_from (reading plan n read) (text_lines t)) is ∙ ap (script_from (reading plan n read)) (line_first line rest printable)
    ∙ ap (λ w. script_after read (λ more. script_from more (text_lines rest)) (onward (reading plan n read) (judged None n line read w))) (ap (with_line plan n read) says ∙ gives)

one_line : (plan : List PlanLine) (read next : Orders) (line rest text : List ℕ) (said : Option FeedLine) → text ≡ line ++ 10 ∷ rest → list_all is_printable line ≡ true → stream_line_of true false line ≡ said
    → ((n : ℕ) → with_line plan n read said ≡ Ok next) → Goes plan read text next rest
one_line plan read next line rest text said is printable says gives n = (n + 1, line_on plan n read next line rest text said is printable says (gives n))

-- with a record more, and with those of a batch
record_goes : (plan : List PlanLine) (read : Orders) (e : Entry) (rest : List ℕ) → is_input_of plan e.input ≡ true → FitsLine e → Goes plan read (record_line e ++ rest) (with_entry read e) rest
record_goes plan read e rest input fits =
    one_line plan read (with_entry read e) (record_words e) rest (record_line e ++ rest) (Some (Data (Record e.input e.rec))) is (record_printable e)
    (says_on (record_words e) _ (Some (Data (Record e.input e.rec))) (record_printable e) (record_three e) refl (record_said e fits)) (λ n. rw input refl)
  where
    is : record_line e ++ rest ≡ record_words e ++ 10 ∷ rest
    is = simp append_assoc

records_go : (plan : List PlanLine) (read : Orders) (es : List Entry) (rest : List ℕ) → list_all (λ e. is_input_of plan e.input) es ≡ true → Each FitsLine es → Goes plan read (flat_map record_line es ++ rest) (with_entries read es) rest
records_go plan read [] rest inputs fits = λ n.
    (n, ap (λ c. script_from (reading plan n (record { orders = read.orders; place = read.place; request = read.request; current = c })) (text_lines rest)) (sym (append-nil read.current)))
records_go plan read (e ∷ es) rest inputs fits =
    let p = both (is_input_of plan e.input) (list_all (λ e. is_input_of plan e.input) es) inputs in
    let first : Goes plan read (record_line e ++ (flat_map record_line es ++ rest)) (with_entry read e) (flat_map record_line es ++ rest) = record_goes plan read e (flat_map record_line es ++ rest) p.0 fits.0 in
    let more = records_go plan (with_entry read e) es rest p.1 fits.1 in
    let all = goes_on plan read (with_entry read e) (with_entries (with_entry read e) es) (record_line e ++ (flat_map record_line es ++ rest)) (flat_map record_line es ++ rest) rest first more in
    let text : record_line e ++ (flat_map record_line es ++ rest) ≡ flat_map record_line (e ∷ es) ++ rest = sym (append_assoc (record_line e) (flat_map record_line es) rest) in
    let entries : (read.current ++ e ∷ []) ++ es ≡ read.current ++ e ∷ es = append_assoc read.current (e ∷ []) es in
    subst (λ t. Goes plan read t (with_entries read (e ∷ es)) rest) text
    (subst (λ c. Goes plan read (record_line e ++ (flat_map record_line es ++ rest)) (record { orders = read.orders; place = read.place; request = read.request; current = c }) rest) entries all)

-- between two epochs, and in one that has a place
abbrev pub between : List Order → Orders
between orders = record { orders = orders; place = None; request = 0; current = [] }

abbrev begun : List Order → Place → ℕ → List Entry → Orders
begun orders place q batch = record { orders = orders; place = Some place; request = q; current = batch }

abbrev at : ℕ → ℕ → Place
at epoch line = record { epoch = epoch; line = line }

-- `at E`
abbrev place_words : ℕ → List ℕ
place_words e = codes "at" ++ 32 ∷ decimal e

place_printable : (e : ℕ) → list_all is_printable (place_words e) ≡ true
place_printable e = spaced (codes "at") (decimal e) refl (word_printable (decimal e) (number_word e))

place_two : (e : ℕ) → words (place_words e) ≡ codes "at" ∷ decimal e ∷ []
place_two e = word_first (codes "at") refl (decimal e) ∙ ap (λ ws. codes "at" ∷ ws) (word_last (decimal e) (number_word e))

place_said : (e : ℕ) → suc e < 2 ^ 64 → stream_line_of true false (place_words (suc e)) ≡ Some (At (suc e))
place_said e h =
    let line = place_words (suc e) in
    ap (λ (b : Bool). if b then or_held_line false line (place_of (words line)) else None) (line_ascii line (place_printable (suc e)))
    ∙ ap (or_held_line false line) (ap place_of (place_two (suc e)) ∙ ap positive (natural_again (suc e) h))

place_goes : (plan : List PlanLine) (orders : List Order) (e n : ℕ) (rest : List ℕ) → suc e < 2 ^ 64
    → script_from (reading plan n (between orders)) (text_lines (place_line (suc e) ++ rest)) ≡ script_from (reading plan (n + 1) (begun orders (at (suc e) n) 0 [])) (text_lines rest)
place_goes plan orders e n rest h =
    line_on plan n (between orders) (begun orders (at (suc e) n) 0 []) (place_words (suc e)) rest (place_line (suc e) ++ rest) (Some (At (suc e))) is (place_printable (suc e)) (place_said e h) refl
  where
    is : place_line (suc e) ++ rest ≡ place_words (suc e) ++ 10 ∷ rest
    is = ap (λ (l : List ℕ). codes "at " ++ l) (append_assoc (decimal (suc e)) (10 ∷ []) rest)

request_goes : (plan : List PlanLine) (orders : List Order) (place : Place) (q : ℕ) (rest : List ℕ) → q < 2 ^ 64 → Goes plan (begun orders place 0 []) (request_line q ++ rest) (begun orders place q []) rest
request_goes plan orders place zero rest h = λ n. (n, refl)
request_goes plan orders place (suc q) rest h =
    one_line plan (begun orders place 0 []) (begun orders place (suc q) []) (request_words (suc q)) rest (request_line (suc q) ++ rest) (Some (Request (suc q))) is (request_printable (suc q))
    (says_on (request_words (suc q)) _ (Some (Request (suc q))) (request_printable (suc q)) (request_two (suc q)) refl (request_said q h)) (λ n. refl)
  where
    is : request_line (suc q) ++ rest ≡ request_words (suc q) ++ 10 ∷ rest
    is = ap (λ (l : List ℕ). codes "req " ++ l) (append_assoc (decimal (suc q)) (10 ∷ []) rest)

close_goes : (plan : List PlanLine) (orders : List Order) (place : Place) (s : Submitted) (rest : List ℕ) → IsRead plan s
    → Goes plan (begun orders place s.request s.batch) (codes ".\n" ++ rest) (between (orders ++ SubmitAt place s.request s.batch ∷ [])) rest
close_goes plan orders place s rest is =
    one_line plan (begun orders place s.request s.batch) (between (orders ++ SubmitAt place s.request s.batch ∷ [])) (codes ".") rest (codes ".\n" ++ rest) (Some (Data Close)) refl refl refl
    (λ n. ap (λ (b : List Entry). Ok (with_order (SubmitAt place s.request b) (between orders))) is.bag)

-- one epoch
epoch_goes : (plan : List PlanLine) (orders : List Order) (e n : ℕ) (s : Submitted) (rest : List ℕ) → suc e < 2 ^ 64 → IsRead plan s
    → (m : ℕ) × (script_from (reading plan n (between orders)) (text_lines (place_line (suc e) ++ epoch_text s ++ rest))
    ≡ script_from (reading plan m (between (orders ++ SubmitAt (at (suc e) n) s.request s.batch ∷ []))) (text_lines rest))
epoch_goes plan orders e n s rest small is =
    let place = at (suc e) n in
    let records = flat_map record_line s.batch in
    let end = codes ".\n" ++ rest in
    let text : request_line s.request ++ (records ++ end) ≡ epoch_text s ++ rest = epoch_in (request_line s.request) records (codes ".\n") rest in
    let first = request_goes plan orders place s.request (records ++ end) is.fits.request in
    let more = records_go plan (begun orders place s.request []) s.batch end is.inputs is.fits.records in
    let last = close_goes plan orders place s rest is in
    let all = goes_on plan (begun orders place 0 []) (begun orders place s.request []) (between (orders ++ SubmitAt place s.request s.batch ∷ [])) (request_line s.request ++ (records ++ end)) (records ++ end) rest first
    (goes_on plan (begun orders place s.request []) (begun orders place s.request s.batch) (between (orders ++ SubmitAt place s.request s.batch ∷ [])) (records ++ end) end rest more last) in
    let on = subst (λ t. Goes plan (begun orders place 0 []) t (between (orders ++ SubmitAt place s.request s.batch ∷ [])) rest) text all (n + 1) in
    (on.0, ap (λ (t : List ℕ). script_from (reading plan n (between orders)) (text_lines t)) (append_assoc (place_line (suc e)) (epoch_text s) rest) ∙ place_goes plan orders e n (epoch_text s ++ rest) small ∙ on.1)
  where
    epoch_in : (a b c d : List ℕ) → a ++ (b ++ (c ++ d)) ≡ ((a ++ b) ++ c) ++ d
    epoch_in a b c d = simp append_assoc

-- orders for these epochs, each at its place, the first of which is after this one
abbrev pub ArePlaced : ℕ → List Submitted → List Order → Type 0
ArePlaced e [] orders = orders ≡ []
ArePlaced e (s ∷ x) [] = ⊥
ArePlaced e (s ∷ x) (o ∷ orders) = ((line : ℕ) × (o ≡ SubmitAt (record { epoch = suc e; line = line }) s.request s.batch)) × ArePlaced (suc e) x orders

epochs_go : (plan : List PlanLine) (before : List Order) (e n : ℕ) (x : List Submitted) → e + length x < 2 ^ 63 → Each (IsRead plan) x
    → (orders : List Order) × ArePlaced e x orders × (m : ℕ) × (script_from (reading plan n (between before)) (text_lines (placed_text e x)) ≡ script_from (reading plan m (between (before ++ orders))) (text_lines []))
epochs_go plan before e n [] small each = ([], refl, n, ap (λ o. script_from (reading plan n (between o)) (text_lines [])) (sym (append-nil before)))
epochs_go plan before e n (s ∷ x) small each =
    let first = epoch_goes plan before e n s (placed_text (suc e) x) (omega (arith, small)) each.0 in
    let o = SubmitAt (at (suc e) n) s.request s.batch in
    let more = epochs_go plan (before ++ o ∷ []) (suc e) first.0 x (omega (arith, small)) each.1 in (
      o ∷ more.0,
      ((n, refl), more.1),
      more.2,
      first.1 ∙ more.3 ∙ ap (λ (os : List Order). script_from (reading plan more.2 (between os)) (text_lines [])) (append_assoc before (o ∷ []) more.0),
    )

summary_goes : (plan : List PlanLine) (sizes : Sizes) (s : Standing) (rest : List ℕ) → Goes plan (between []) (summary_line sizes s ++ rest) (between []) rest
summary_goes plan sizes s rest =
    let words_left = standing_rest s ++ room_words sizes s in
    let line = codes "#" ++ 32 ∷ words_left in
    let printable : list_all is_printable words_left ≡ true = list_all-append is_printable (standing_rest s) (room_words sizes s) ∙ rw (standing_printable s, room_printable sizes s) refl in
    one_line plan (between []) (between []) line rest (summary_line sizes s ++ rest) (Some (Data PassedOver)) (append_assoc line (10 ∷ []) rest) (spaced (codes "#") words_left refl printable)
    (says_on line (codes "#" ∷ words words_left) (Some (Data PassedOver)) (spaced (codes "#") words_left refl printable) (word_first (codes "#") refl words_left) (no_place (words words_left)) (comment_said words_left printable)) (λ n. refl)
  where
    no_place : (ws : List (List ℕ)) → place_of (codes "#" ∷ ws) ≡ None
    no_place [] = refl
    no_place (w ∷ []) = refl
    no_place (w ∷ v ∷ ws) = refl

-- THE WHOLE TEXT
pub asks_placed : (plan : List PlanLine) (sizes : Sizes) (s : Standing) → s.epoch + length s.submitted < 2 ^ 63 → Each (IsRead plan) s.submitted
    → (orders : List Order) × ArePlaced s.epoch s.submitted orders × ◌≡◌ {A = Script} (script_of true false false false None plan (placed_dump sizes s)) (record { orders = orders; fault = None })
asks_placed plan sizes s small each =
    let first = summary_goes plan sizes s (placed_text s.epoch s.submitted) 1 in
    let more = epochs_go plan [] s.epoch first.0 s.submitted small each in
    (more.0, more.1, first.1 ∙ more.3)
