-- Text that is written in pieces.
use Rattle.std.proofs.Common.{◌≡◌, List, [], ◌++◌, Option, ℕ, sym, ap, ◌∙◌, subst}
use Rattle.std.specs.Io.KnownBytes.{Appends}
use Rattle.std.proofs.KnownBytes.{Appends-nil, Appends-trans}
use Rattle.std.proofs.lemmas.List.{append_assoc, append-nil}
use Rattle.td_report.specs.Dumped.{WritesFront}

-- nothing is written yet
pub front_none : (w : Option (List ℕ)) (text left : List ℕ) → text ≡ left → WritesFront w w text left
front_none w text left is = record { written = []; said = Appends-nil w; whole = is }

-- one step after another
pub front_on : (u v w : Option (List ℕ)) (x y z : List ℕ) → WritesFront u v x y → WritesFront v w y z → WritesFront u w x z
front_on u v w x y z first more = record {
  written = first.written ++ more.written;
  said = Appends-trans u v w first.written more.written first.said more.said;
  whole = first.whole ∙ ap (λ (l : List ℕ). first.written ++ l) more.whole ∙ sym (append_assoc first.written more.written z);
}

-- what is to come after it does not matter
pub front_before : (u v : Option (List ℕ)) (x y rest : List ℕ) → WritesFront u v x y → WritesFront u v (x ++ rest) (y ++ rest)
front_before u v x y rest first = record {
  written = first.written;
  said = first.said;
  whole = ap (λ (l : List ℕ). l ++ rest) first.whole ∙ append_assoc first.written y rest;
}

-- what is left is written
pub front_last : (u v w : Option (List ℕ)) (x y : List ℕ) → WritesFront u v x y → Appends v w y → Appends u w x
front_last u v w x y first last = subst (λ (t : List ℕ). Appends u w t) (sym first.whole) (Appends-trans u v w first.written y first.said last)

-- a line more is held
pub front_line : (u v w : Option (List ℕ)) (whole held there more line rest all : List ℕ) → WritesFront u v whole (held ++ all) → all ≡ line ++ rest → WritesFront v w held there → more ≡ there ++ line
    → WritesFront u w whole (more ++ rest)
front_line u v w whole held there more line rest all first is step then =
    let same : there ++ all ≡ more ++ rest = ap (λ (l : List ℕ). there ++ l) is ∙ sym (append_assoc there line rest) ∙ ap (λ (l : List ℕ). l ++ rest) (sym then) in
    front_on u v w whole (held ++ all) (more ++ rest) first (subst (λ (l : List ℕ). WritesFront v w (held ++ all) l) same (front_before v w held there all step))

-- and the last one
pub front_end : (u v w : Option (List ℕ)) (before text held there more line all : List ℕ) → WritesFront u v (before ++ text) (held ++ all) → all ≡ [] → WritesFront v w held there → more ≡ there ++ line
    → WritesFront u w (before ++ (text ++ line)) more
front_end u v w before text held there more line all first none step then =
    let now = subst (λ (l : List ℕ). WritesFront u v (before ++ text) l) (ap (λ (l : List ℕ). held ++ l) none ∙ append-nil held) first in
    let both = front_before u w (before ++ text) there line (front_on u v w (before ++ text) held there now step) in
    subst (λ (l : List ℕ). WritesFront u w l more) (append_assoc before text line) (subst (λ (l : List ℕ). WritesFront u w ((before ++ text) ++ line) l) (sym then) both)

-- a line is held, and then what comes next is written in steps of its own
pub front_first : (u v w : Option (List ℕ)) (held there more line text left : List ℕ) → WritesFront u v held there → more ≡ there ++ line → WritesFront v w (more ++ text) left → WritesFront u w (held ++ (line ++ text)) left
front_first u v w held there more line text left first then step =
    let same : more ++ text ≡ there ++ (line ++ text) = ap (λ (l : List ℕ). l ++ text) then ∙ append_assoc there line text in
    front_on u v w (held ++ (line ++ text)) (there ++ (line ++ text)) left (front_before u v held there (line ++ text) first) (subst (λ (l : List ℕ). WritesFront v w l left) same step)

-- what comes next is written in steps of its own
pub front_next : (u v w : Option (List ℕ)) (whole held more text rest all : List ℕ) → WritesFront u v whole (held ++ all) → all ≡ text ++ rest → WritesFront v w (held ++ text) more → WritesFront u w whole (more ++ rest)
front_next u v w whole held more text rest all first is step =
    let same : (held ++ text) ++ rest ≡ held ++ all = append_assoc held text rest ∙ ap (λ (l : List ℕ). held ++ l) (sym is) in
    front_on u v w whole (held ++ all) (more ++ rest) first (subst (λ (l : List ℕ). WritesFront v w l (more ++ rest)) same (front_before v w (held ++ text) more rest step))
