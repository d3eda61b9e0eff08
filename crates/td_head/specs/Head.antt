-- What the heads of a disk tell. That a text is canonical is a relation, so `headed` takes the answer to it, and `IsHeaded` holds
-- that together with what decides it. An image has one answer (`laws::heads_tell`).
use Rattle.std.specs.Prelude.{◌≡◌, ℕ, ◌+◌, ◌-◌, Bool, true, false, ◌&&◌, ◌||◌, ◌==◌, nat_lt, nat_le, List, [], ◌++◌, length, drop, take, replicate, codes, bytes_eq, Option, Some, None, Result, Ok, Err, Decides}
use Rattle.td_gate.specs.Fields.{number_bytes, number_at}
use Rattle.td_gate.specs.Region.{opened}
use Rattle.td_plan.specs.Lines.{Line, text_of}
use Rattle.td_plan.specs.Texts.{PlanText}
use Rattle.td_head.specs.declared.head.Head.{Head}
use Rattle.td_head.specs.declared.error.HeadError.{HeadError}
use Rattle.td_head.specs.declared.error.HeadError.TheVariants.{NotFormatted, Damaged, WrongPlan}
use Rattle.td_head.specs.Layout.{Sizes, is_shape, size_of, head_a, head_b}

-- what a payload spells: which head it is (0 for head A), and its fields with the text that they count
pub record Fields : Type 0 where
  pub side : ℕ
  pub version : ℕ
  pub generation : ℕ
  pub sizes : Sizes
  pub text_len : ℕ
  pub text : List ℕ

-- what is written for a plan's text, with zeros up to 4,096 bytes of it
abbrev pub head_bytes : ℕ → ℕ → Sizes → List ℕ → List ℕ
head_bytes version generation sizes text =
    codes "TDFL" ++ (number_bytes 4 version ++ (number_bytes 8 generation ++ (number_bytes 4 sizes.m ++ (number_bytes 4 sizes.n
    ++ (number_bytes 4 sizes.k ++ (number_bytes 4 (length text) ++ (text ++ replicate (4096 - length text) 0)))))))

abbrev pub fields_in : ℕ → List ℕ → Fields
fields_in side bytes = record {
  side = side;
  version = number_at 4 4 bytes;
  generation = number_at 8 8 bytes;
  sizes = record { m = number_at 4 16 bytes; n = number_at 4 20 bytes; k = number_at 4 24 bytes };
  text_len = number_at 4 28 bytes;
  text = take (number_at 4 28 bytes) (drop 32 bytes);
}

-- a head that counts: it is open and has the format's first four bytes
abbrev pub candidate : ℕ → Option (List ℕ) → Option Fields
candidate side None = None
candidate side (Some bytes) = elim (bytes_eq (take 4 bytes) (codes "TDFL")) [ true ↦ Some (fields_in side bytes) | false ↦ None ]

-- the one with the greater generation, the first on a tie
abbrev pub greater : Option Fields → Option Fields → Option Fields
greater None b = b
greater (Some a) None = Some a
greater (Some a) (Some b) = elim (nat_lt a.generation b.generation) [ true ↦ Some b | false ↦ Some a ]

-- THE HEAD of an image
abbrev pub head_of : List ℕ → Option Fields
head_of image = greater (candidate 0 (opened head_a image)) (candidate 1 (opened head_b image))

-- the versions of the format that can be read
abbrev pub is_version : ℕ → Bool
is_version version = (version == 1) || (version == 2)

-- whether a disk of this size may have such a head: with a text that is canonical, or not
abbrev pub is_head : Bool → ℕ → Fields → Bool
is_head canonical size h =
    is_version h.version && (nat_lt 0 h.generation && (is_shape h.sizes && (nat_le h.text_len 4096 && (canonical && nat_le (size_of h.sizes) size))))

-- an answer where a test holds, else a refusal
abbrev pub where_so : Bool → Result Head HeadError → HeadError → Result Head HeadError
where_so true answer e = answer
where_so false answer e = Err e

-- what is told of a head
abbrev pub told_of : Fields → Head
told_of h = record { version = h.version; side = h.side; generation = h.generation; shape = h.sizes }

abbrev pub for_plan : List Line → Fields → Result Head HeadError
for_plan plan h = where_so (bytes_eq h.text (text_of plan)) (Ok (told_of h)) WrongPlan

abbrev pub head_in : Bool → List Line → ℕ → Option Fields → Result Head HeadError
head_in canonical plan size None = Err NotFormatted
head_in canonical plan size (Some h) = where_so (is_head canonical size h) (for_plan plan h) Damaged

-- on a disk of this size
abbrev pub sized : Bool → List Line → ℕ → Option Fields → Result Head HeadError
sized canonical plan size h = where_so (nat_le 8258 size) (head_in canonical plan size h) NotFormatted

-- WHAT THE HEADS TELL for a plan, where the text of the head is canonical, or is not
abbrev pub headed : Bool → List Line → List ℕ → Result Head HeadError
headed canonical plan image = sized canonical plan (length image) (head_of image)

-- the canonical text of a plan
abbrev pub IsCanonical : List ℕ → Type 0
IsCanonical text = (p : List Line) × PlanText text p × (text ≡ text_of p)

abbrev pub text_in : Option Fields → List ℕ
text_in None = []
text_in (Some h) = h.text

-- whether the text of an image's head is one
abbrev pub TellsCanonical : Bool → List ℕ → Type 0
TellsCanonical canonical image = Decides canonical (IsCanonical (text_in (head_of image)))

-- The heads of an image tell this for a plan.
pub record IsHeaded (plan : List Line) (image : List ℕ) (answer : Result Head HeadError) : Type 0 where
  pub canonical : Bool
  pub text : TellsCanonical canonical image
  pub head : headed canonical plan image ≡ answer

-- THE HEAD THAT AN UPGRADE PUTS beside this one: in the other place, of version 2, with the next generation and the same shape
abbrev pub raised : Head → Head
raised h = record { version = 2; side = 1 - h.side; generation = h.generation + 1; shape = h.shape }

-- what is written for it and a plan
abbrev pub raised_bytes : Head → List Line → List ℕ
raised_bytes h plan = head_bytes 2 (h.generation + 1) h.shape (text_of plan)
