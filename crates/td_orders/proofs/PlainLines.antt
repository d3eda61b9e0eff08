-- Plain lines: they are records, and nothing else that a line may say.
use Rattle.std.proofs.Common.{◌≡◌, ℕ, suc, ◌+◌, Bool, true, false, cond, List, [], ◌∷◌, length, length-append, codes, Option, Some, None, refl, sym, ap, ◌∙◌, arith}
use Rattle.std.specs.Prelude.{ℤ, option_and_then}
use Rattle.std.specs.Bool.{Decides}
use Rattle.std.specs.List.{list_all}
use Rattle.std.specs.Char.{is_ascii}
use Rattle.std.specs.Str.{bytes_eq}
use Rattle.std.proofs.lemmas.Slice.Eq.{bytes_eq-Decides}
use Rattle.td_stamp.specs.declared.values.Rec.{Rec}
use Rattle.td_plan.specs.Text.{words, natural_of, number_of, of_nine_digits, is_passed_over}
use Rattle.td_console.specs.declared.data_line.DataLine.TheVariants.{PassedOver, Record, Close}
use Rattle.td_console.specs.Number.{integer_of}
use Rattle.td_console.specs.Data.{data_line_of, record_of, spelled}
use Rattle.td_console.specs.Plain.{IsPlain}
use Rattle.td_questions.specs.Words.{asked_of, wanted_by, question_of}
use Rattle.td_orders.specs.declared.order.FeedLine.TheVariants.{Data}
use Rattle.td_orders.specs.Lines.{first_of, line_in}
use Rattle.td_orders.specs.Orders.{is_cut, request_of, place_of, seen_of, copy_of, feed_line_of, held_line_of, stream_line_of, session_line_of, service_line_of, IsFirstLine}

-- A NUMERAL is no word of letters
no_word : (w word : List ℕ) (n : ℕ) → natural_of word ≡ None → natural_of w ≡ Some n → bytes_eq w word ≡ false
no_word w word n none is = by (bytes_eq w word) (bytes_eq-Decides w word)
  where
    by : (b : Bool) → Decides b (w ≡ word) → b ≡ false
    by true d = absurd (let no = sym is ∙ ap natural_of (d.0 refl) ∙ none in cc)
    by false d = refl

no_get : natural_of (codes "get") ≡ None
unfolding natural_of
no_get = refl

no_list : natural_of (codes "list") ≡ None
unfolding natural_of
no_list = refl

no_top : natural_of (codes "top") ≡ None
unfolding natural_of
no_top = refl

no_least : natural_of (codes "least") ≡ None
unfolding natural_of
no_least = refl

no_rank : natural_of (codes "rank") ≡ None
unfolding natural_of
no_rank = refl

no_copy : natural_of (codes "copy") ≡ None
unfolding natural_of
no_copy = refl

-- and asks nothing
module _ (w : List ℕ) (n : ℕ) (is : natural_of w ≡ Some n) where
  wants_nothing : (x : ℕ) → wanted_by w x ≡ None
  wants_nothing x =
      rw (
        no_word w (codes "get") n no_get is,
        no_word w (codes "list") n no_list is,
        no_word w (codes "top") n no_top is,
        no_word w (codes "least") n no_least is,
        no_word w (codes "rank") n no_rank is,
      ) refl

  wants_none : (o : Option ℕ) → option_and_then (wanted_by w) o ≡ None
  wants_none None = refl
  wants_none (Some x) = wants_nothing x

  asks_nothing : (key val : List ℕ) → question_of (w ∷ key ∷ val ∷ []) ≡ None
  asks_nothing key val = ap (asked_of (natural_of key)) (wants_none (natural_of val)) ∙ by (natural_of key)
    where
      by : (o : Option ℕ) → asked_of o None ≡ None
      by None = refl
      by (Some v) = refl

  copies_nothing : (more : List (List ℕ)) → copy_of (w ∷ more) ≡ None
  copies_nothing [] = refl
  copies_nothing (name ∷ more) = rw (no_word w (codes "copy") n no_copy is) refl

-- THE WORDS OF A RECORD say nothing else
record IsRecordAlone (ws : List (List ℕ)) : Type 0 where
  cut : is_cut ws ≡ false
  request : request_of ws ≡ None
  seen : seen_of ws ≡ None
  place : place_of ws ≡ None
  question : question_of ws ≡ None
  copy : copy_of ws ≡ None

natural_in : (o : Option ℕ) (n : ℕ) → of_nine_digits o ≡ Some n → (m : ℕ) × (o ≡ Some m)
natural_in None n e = absurd (let no = e in cc)
natural_in (Some m) n e = (m, refl)

first_number : (input : List ℕ) (key : Option ℕ) (val : Option ℤ) (n : ℕ) (rec : Rec) → record_of (number_of input) key val ≡ Some (Record n rec) → (m : ℕ) × (natural_of input ≡ Some m)
first_number input key val n rec e = by (number_of input) refl e
  where
    by : (o : Option ℕ) → number_of input ≡ o → record_of o key val ≡ Some (Record n rec) → (m : ℕ) × (natural_of input ≡ Some m)
    by None same f = absurd (let no = f in cc)
    by (Some i) same f = natural_in (natural_of input) i same

three_words : (ws : List (List ℕ)) (n : ℕ) (rec : Rec) → spelled ws ≡ Some (Record n rec) → IsRecordAlone ws
three_words [] n rec e = absurd (let no = e in cc)
three_words (word ∷ []) n rec e = by (bytes_eq word (codes ".")) e
  where
    by : (b : Bool) → cond b (Some Close) None ≡ Some (Record n rec) → IsRecordAlone (word ∷ [])
    by true f = absurd (let no = f in cc)
    by false f = absurd (let no = f in cc)
three_words (word ∷ next ∷ []) n rec e = absurd (let no = e in cc)
three_words (input ∷ key ∷ val ∷ []) n rec e =
    let first = first_number input (natural_of key) (integer_of val) n rec e in
    record {
      cut = refl;
      request = refl;
      seen = refl;
      place = refl;
      question = asks_nothing input first.0 first.1 key val;
      copy = copies_nothing input first.0 first.1 (key ∷ val ∷ []);
    }
three_words (input ∷ key ∷ val ∷ more ∷ ws) n rec e = absurd (let no = e in cc)

record_words : (line : List ℕ) (n : ℕ) (rec : Rec) → data_line_of line ≡ Some (Record n rec) → IsRecordAlone (words line)
record_words line n rec e = by (is_passed_over line) e
  where
    by : (b : Bool) → cond b (Some PassedOver) (spelled (words line)) ≡ Some (Record n rec) → IsRecordAlone (words line)
    by true f = absurd (let no = f in cc)
    by false f = three_words (words line) n rec f

-- A PLAIN LINE says its record, in every input
module _ (line : List ℕ) (n : ℕ) (rec : Rec) (ascii : list_all is_ascii line ≡ true) (says : data_line_of line ≡ Some (Record n rec)) where
  alone : IsRecordAlone (words line)
  alone = record_words line n rec says

  of_feed : feed_line_of line ≡ Some (Data (Record n rec))
  of_feed = rw (ascii, alone.cut, alone.request, says) refl

  of_held : (hold : Bool) → held_line_of hold line ≡ Some (Data (Record n rec))
  of_held false = of_feed
  of_held true = rw (ascii, alone.seen) of_feed

  of_stream : (placing hold : Bool) → stream_line_of placing hold line ≡ Some (Data (Record n rec))
  of_stream false hold = of_held hold
  of_stream true hold = rw (ascii, alone.place) (of_held hold)

  of_session : (placing hold questions : Bool) → session_line_of placing hold questions line ≡ Some (Data (Record n rec))
  of_session placing hold false = of_stream placing hold
  of_session placing hold true = rw (ascii, alone.question) (of_stream placing hold)

  of_service : (placing hold questions copies : Bool) → service_line_of placing hold questions copies line ≡ Some (Data (Record n rec))
  of_service placing hold questions false = of_session placing hold questions
  of_service placing hold questions true = rw (ascii, alone.copy) (of_session placing hold questions)

-- at the front of some bytes it is their first line
pub first_plain : (bytes rest : List ℕ) (n : ℕ) (rec : Rec) → IsPlain bytes n rec rest → IsFirstLine bytes (Some (Data (Record n rec))) rest
first_plain bytes rest n rec plain =
    let size : length bytes ≡ length plain.line + suc (length rest) = ap length plain.cut ∙ length-append plain.line (10 ∷ rest) in
    record {
      line = plain.line;
      lines = plain.lines;
      says = sym (of_feed plain.line n rec plain.ascii plain.says);
      shorter = omega arith;
    }

pub plain_in_stream : (placing hold questions copies : Bool) (bytes rest : List ℕ) (n : ℕ) (rec : Rec) → IsPlain bytes n rec rest
    → Some (Data (Record n rec)) ≡ service_line_of placing hold questions copies (line_in bytes)
plain_in_stream placing hold questions copies bytes rest n rec plain =
    sym (ap (λ (l : List ℕ). service_line_of placing hold questions copies l) (ap first_of plain.lines) ∙ of_service plain.line n rec plain.ascii plain.says placing hold questions copies)
